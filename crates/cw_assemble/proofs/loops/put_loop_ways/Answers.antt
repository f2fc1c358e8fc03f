use Rattle.std.proofs.Common.{rules, ◌≡◌, ℕ, List, [], ◌∷◌, length, subst, refl}
use Rattle.cw_assemble.specs.Growing.{Adds}
use Rattle.cw_tmpl.specs.Names.{Names}
use Rattle.cw_tmpl.specs.Templates.{loop_way, loop_ways}
use Rattle.cw_assemble.proofs.loops.put_loop_ways.Goals as goal
use Rattle.cw_assemble.proofs.loops.put_loop_ways.Goals.{in_default-via-then-marks-lt1, in_default-via-else-marks-lt1+else-marks-lt2}

by_table : (names : Names) (place : ℕ) (marks : List ℕ) → (length marks ≡ 1 → ⊥) → loop_way names place marks ≡ loop_ways names place marks
by_table names place [] other = refl
by_table names place (m ∷ []) other = absurd (other refl)
by_table names place (m ∷ n ∷ ms) other = refl

pub returns-in_default : goal.returns-in_default
returns-in_default c =
    let old = c.args.code.now in
    let other : length c.args.marks.now ≡ 1 → ⊥ = λ e. elim c.in_default.branch [ in_default-via-then-marks-lt1 w ↦ search rules | in_default-via-else-marks-lt1+else-marks-lt2 w ↦ search rules ] in
    subst (λ ps. Adds old ps c.put_loop_way.new.code) (by_table c.args.names.now (length old.assembly.bytes) c.args.marks.now other) c.put_loop_way.ensures
