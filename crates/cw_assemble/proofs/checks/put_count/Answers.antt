use Rattle.std.proofs.Common.{◌≡◌, ℕ, ◌+◌, ◌∷◌, [], length, Bool, true, false, refl, subst}
use Rattle.cw_tmpl.specs.declared.pieces.Coded.TheVariants as coded
use Rattle.cw_tmpl.specs.Templates.{checked_by, counted, pieces_size}
use Rattle.cw_assemble.specs.declared.draft.Draft.{Draft}
use Rattle.cw_assemble.specs.Growing.{Adds}
use Rattle.cw_assemble.proofs.Composed.{by_same, check_added}
use Rattle.cw_assemble.proofs.checks.put_count.Goals as goal

counted_long : (down : Bool) → pieces_size (coded.Whole (counted down) ∷ []) ≡ 1
counted_long true = refl
counted_long false = refl

count_added : {old one new : Draft} (short down : Bool) (line to : ℕ) → Adds old (coded.Whole (counted down) ∷ []) one → Adds one (checked_by short line (length one.assembly.bytes) to) new
    → Adds old (coded.Whole (counted down) ∷ checked_by short line (length old.assembly.bytes + 1) to) new
count_added {old = old} {new = new} short down line to a b =
    let all = check_added short line to a b in
    subst (λ n. Adds old (coded.Whole (counted down) ∷ checked_by short line (length old.assembly.bytes + n) to) new) (counted_long down) all

pub returns : goal.returns
returns c = count_added c.args.short c.args.down c.args.line c.args.to (by_same (λ i. coded.Whole i ∷ []) c.counted.ensures.value c.put_all.ensures) c.put_check.ensures
