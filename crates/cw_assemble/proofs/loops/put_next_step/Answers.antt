use Rattle.std.proofs.Common.{◌≡◌, ℕ, ◌+◌, List, ◌∷◌, [], length, refl, subst, arith}
use Rattle.cw_i86.specs.declared.instr.Instr.TheVariants as i86
use Rattle.cw_order.specs.declared.order.Place.{Place}
use Rattle.cw_order.specs.declared.order.Place.TheVariants as cell
use Rattle.cw_run86.specs.Views.{Greater, condition_of}
use Rattle.cw_assemble.specs.declared.draft.Draft.{Draft}
use Rattle.cw_tmpl.specs.declared.pieces.Coded.{Coded}
use Rattle.cw_tmpl.specs.declared.pieces.Coded.TheVariants as coded
use Rattle.cw_assemble.specs.Growing.{Adds}
use Rattle.cw_tmpl.specs.Library.{next_step_entry}
use Rattle.cw_tmpl.specs.Pieces.{blanks}
use Rattle.cw_tmpl.specs.Templates.{place_doubled, doubled_size, step_taken, call_library, jump_near}
use Rattle.cw_assemble.proofs.Growing.{adds_then, placed}
use Rattle.cw_assemble.proofs.loops.put_next_step.Goals as goal

doubled_long : (x : Place) → length (blanks (place_doubled x)) ≡ doubled_size x
doubled_long (cell.Word f n) = refl
doubled_long (cell.Frame n) = refl

-- the call, the way past the jump and the line, the jump, and the line
abbrev behind : (line end to : ℕ) → List Coded
behind line end to = call_library next_step_entry ∷ coded.Whole (i86.JumpIf (condition_of Greater) 5) ∷ jump_near end to ∷ coded.Data line ∷ []

step_added : (old one new : Draft) (x : Place) (line to : ℕ) → Adds old (place_doubled x) one
    → Adds one (behind line (length one.assembly.bytes + 8) to) new → Adds old (step_taken x line (length old.assembly.bytes) to) new
step_added old one new x line to a b =
    let end : length old.assembly.bytes + length (blanks (place_doubled x)) + 8 ≡ length old.assembly.bytes + (doubled_size x + 8) = omega (arith, doubled_long x) in
    adds_then old one new (place_doubled x) (behind line (length old.assembly.bytes + (doubled_size x + 8)) to) a (subst (λ n. Adds one (behind line n to) new) end (placed (λ n. behind line (n + 8) to) a b))

pub returns : goal.returns
returns c =
    step_added c.args.code.now c.put_place_doubled.new.code c.put_step.new.code c.args.looped c.args.line c.args.to c.put_place_doubled.ensures c.put_step.ensures
