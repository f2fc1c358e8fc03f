-- The numbers that specifications have in a table.
use Rattle.std.specs.Prelude.{◌≡◌, ℕ, List, Bool, Option, Some, nat_eq, position, length}
use Rattle.std.specs.Cmp.Lexicographic.{pointwise}
use Rattle.cw_unit.specs.declared.descriptor.Spec.{Spec}
use Rattle.cw_keyed.specs.declared.key.Key.{Key}
use Rattle.cw_keyed.specs.declared.specifications.Specifications.{Specifications}
use Rattle.cw_keyed.specs.Spelling.{Spelled, spelled}

abbrev pub key_eq : Key → Key → Bool
key_eq a b = pointwise nat_eq a.numbers b.numbers

-- a key with these numbers
abbrev pub is_key : Spelled → Key → Bool
is_key numbers key = pointwise nat_eq numbers key.numbers

abbrev pub position_in : List Key → Spec → Option ℕ
position_in keys s = position (is_key (spelled s)) keys

abbrev pub number_of : Specifications → Spec → Option ℕ
number_of t s = position_in t.keys.keys s

abbrev pub count : Specifications → ℕ
count t = length t.keys.keys

-- each specification with a number keeps it
abbrev pub Keeps : Specifications → Specifications → Type 0
Keeps old new = (s : Spec) (n : ℕ) → number_of old s ≡ Some n → number_of new s ≡ Some n
