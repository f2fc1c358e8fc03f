-- The numbers of specifications in a table.
use Rattle.std.proofs.Common.{◌≡◌, ℕ, ◌<◌, [], Some, get_or, sym, ◌∙◌}
use Rattle.std.specs.Cmp.Lexicographic.{bytes_decides}
use Rattle.cw_unit.specs.declared.descriptor.Spec.{Spec}
use Rattle.cw_keyed.specs.declared.key.Key.{Key}
use Rattle.cw_keyed.specs.declared.specifications.Specifications.{Specifications}
use Rattle.cw_keyed.specs.Spelling.{spelled}
use Rattle.cw_keyed.specs.Numbered.{is_key, number_of, count}
use Rattle.cw_keyed.proofs.Alone.{one_spelled}
use Rattle.cw_keyed.proofs.Positions.{position_gives, position_passes}

pub number_low : (t : Specifications) (s : Spec) (n : ℕ) → number_of t s ≡ Some n → n < count t
number_low t s n e = (position_gives (is_key (spelled s)) t.keys.keys n e).1

pub one_specification : (t : Specifications) (s s' : Spec) (n : ℕ) → number_of t s ≡ Some n → number_of t s' ≡ Some n → s ≡ s'
one_specification t s s' n e e' =
    let none : Key = record { numbers = [] } in
    let key : Key = get_or t.keys.keys n none in
    let one = (bytes_decides (spelled s) key.numbers).0 (position_passes (is_key (spelled s)) t.keys.keys n none e) in
    let other = (bytes_decides (spelled s') key.numbers).0 (position_passes (is_key (spelled s')) t.keys.keys n none e') in
    one_spelled s s' (one ∙ sym other)
