use Rattle.std.proofs.Common.{◌+◌, ◌%◌, ◌∙◌, ap, sym}
use Rattle.cw_i86.specs.State.{State, register}
use Rattle.cw_cpu86.proofs.Rows.{store_number_steps, store_slot_steps}
use Rattle.cw_cpu86.proofs.cpu.Cpu.store_number.Goals as goal

pub returns-then-mode-eq70-clause-goes : goal.returns-then-mode-eq70-clause-goes
returns-then-mode-eq70-clause-goes c = λ e.
    store_slot_steps _ _ _ _ _ _ c.requires (sym c.byte_behind-mode.ensures ∙ c.if-mode-eq70.true) c.byte_behind-by.type_inv c.byte_behind-by.ensures
    c.word_behind-word.type_inv c.word_behind-word.ensures c.advance.ensures
    (ap (λ (s : State). (register s 5 + c.sign_extended.result) % 65536) c.self.view_is ∙ ap (λ x. (register c.advance.new.self 5 + x) % 65536) c.sign_extended.ensures)
    c.set_value_at.ensures

pub returns-then-mode-eq6-clause-goes : goal.returns-then-mode-eq6-clause-goes
returns-then-mode-eq6-clause-goes c = λ e.
    store_number_steps _ _ _ _ _ c.requires (sym c.byte_behind-mode.ensures ∙ c.if-mode-eq6.true) c.word_behind-at.type_inv c.word_behind-at.ensures
    c.word_behind-word-then-mode-eq6.type_inv c.word_behind-word-then-mode-eq6.ensures c.advance-then-mode-eq6.ensures c.set_value_at-then-mode-eq6.ensures
