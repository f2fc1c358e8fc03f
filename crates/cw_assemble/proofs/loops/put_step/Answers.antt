use Rattle.std.proofs.Common.{◌≡◌, ℕ, ◌+◌, ◌∷◌, [], length, ap, ap₂, ◌∙◌, subst}
use Rattle.cw_i86.specs.declared.instr.Instr.TheVariants as i86
use Rattle.cw_run86.specs.Views.{Greater, condition_of}
use Rattle.cw_assemble.specs.declared.draft.Draft.{Draft}
use Rattle.cw_tmpl.specs.declared.pieces.Coded.TheVariants as coded
use Rattle.cw_assemble.specs.Growing.{Adds}
use Rattle.cw_tmpl.specs.Library.{next_step_entry}
use Rattle.cw_tmpl.specs.Templates.{distance, call_library, jump_near}
use Rattle.cw_assemble.proofs.loops.put_step.Goals as goal

step_put : (old new : Draft) (line to condition by : ℕ) → condition ≡ condition_of Greater → by ≡ distance (length old.assembly.bytes + 8) to
    → Adds old (call_library next_step_entry ∷ coded.Whole (i86.JumpIf condition 5) ∷ coded.Whole (i86.Jump by) ∷ coded.Data line ∷ []) new
    → Adds old (call_library next_step_entry ∷ coded.Whole (i86.JumpIf (condition_of Greater) 5) ∷ jump_near (length old.assembly.bytes + 8) to ∷ coded.Data line ∷ []) new
step_put old new line to condition by e1 e2 a =
    let same = ap₂ (λ k n. call_library next_step_entry ∷ coded.Whole (i86.JumpIf k 5) ∷ coded.Whole (i86.Jump n) ∷ coded.Data line ∷ []) e1 e2 in
    subst (λ ps. Adds old ps new) same a

pub returns : goal.returns
returns c =
    step_put c.args.code.now c.put_all.new.self c.args.line c.args.to c.opposite.result c.distance.result c.opposite.ensures
    (c.distance.ensures ∙ ap (λ bs. distance (length bs + 8) c.args.to) c.as_slice.ensures) c.put_all.ensures
