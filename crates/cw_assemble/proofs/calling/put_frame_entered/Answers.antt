use Rattle.std.proofs.Common.{◌≡◌, ℕ, ◌∷◌, [], subst}
use Rattle.cw_i86.specs.declared.instr.Instr.{Instr}
use Rattle.cw_i86.specs.declared.instr.Instr.TheVariants as i86
use Rattle.cw_run86.specs.Views.{with_number}
use Rattle.cw_assemble.specs.declared.draft.Draft.{Draft}
use Rattle.cw_tmpl.specs.declared.pieces.Coded.TheVariants as coded
use Rattle.cw_tmpl.specs.declared.pieces.Target.{Target}
use Rattle.cw_tmpl.specs.declared.pieces.Target.TheVariants as target
use Rattle.cw_assemble.specs.Growing.{Adds}
use Rattle.cw_tmpl.specs.Library.{enter_stop_entry}
use Rattle.cw_tmpl.specs.Mnemonics.{calls_slot, rest_slot, slot, load, move, subtract, double, decrease, jump_if_cx_zero, jump_if_not_below}
use Rattle.cw_tmpl.specs.Names.{own}
use Rattle.cw_tmpl.specs.Templates.{segment_word, frame_entered}
use Rattle.cw_assemble.proofs.calling.put_frame_entered.Goals as goal

entered_added : (old new : Draft) (size : ℕ) (i1 i2 i3 i4 i5 i6 i7 i8 i9 i10 : Instr) (t : Target) → i1 ≡ load 1 (slot calls_slot) → i2 ≡ jump_if_cx_zero 14 → i3 ≡ load 0 (slot rest_slot) → i4 ≡ move 3 7
    → i5 ≡ subtract 3 0 → i6 ≡ double 3 → i7 ≡ with_number 5 size → i8 ≡ jump_if_not_below 3 → i9 ≡ decrease 1 → i10 ≡ move 5 4 → t ≡ own segment_word
    → Adds old (coded.Whole i1 ∷ coded.Whole i2 ∷ coded.Whole i3 ∷ coded.Whole i4 ∷ coded.Whole i5 ∷ coded.Whole i6 ∷ coded.Whole i7 ∷ coded.Whole i8
    ∷ coded.Jump (target.LibraryAhead enter_stop_entry) ∷ coded.Whole i9 ∷ coded.Whole (i86.Push 5) ∷ coded.Whole i10
    ∷ coded.PushCode t ∷ coded.Whole (i86.Push 1) ∷ coded.Whole (i86.Push 3) ∷ coded.Whole (i86.Push 0) ∷ []) new
    → Adds old (frame_entered size) new
entered_added old new size i1 i2 i3 i4 i5 i6 i7 i8 i9 i10 t e1 e2 e3 e4 e5 e6 e7 e8 e9 e10 e h =
    let same : coded.Whole i1 ∷ coded.Whole i2 ∷ coded.Whole i3 ∷ coded.Whole i4 ∷ coded.Whole i5 ∷ coded.Whole i6 ∷ coded.Whole i7 ∷ coded.Whole i8
    ∷ coded.Jump (target.LibraryAhead enter_stop_entry) ∷ coded.Whole i9 ∷ coded.Whole (i86.Push 5) ∷ coded.Whole i10
    ∷ coded.PushCode t ∷ coded.Whole (i86.Push 1) ∷ coded.Whole (i86.Push 3) ∷ coded.Whole (i86.Push 0) ∷ []
    ≡ frame_entered size = cc in
    subst (λ ps. Adds old ps new) same h

pub returns : goal.returns
returns c =
    entered_added c.args.code.now c.put_all.new.self c.args.size c.load.result c.jump_if_cx_zero.result c.load-2.result c.copy.result c.subtract.result c.double.result c.with_number.result c.jump_if_not_below.result c.decrease.result c.copy-2.result c.own.result
    c.load.ensures c.jump_if_cx_zero.ensures c.load-2.ensures c.copy.ensures c.subtract.ensures c.double.ensures c.with_number.ensures c.jump_if_not_below.ensures c.decrease.ensures c.copy-2.ensures c.own.ensures c.put_all.ensures
