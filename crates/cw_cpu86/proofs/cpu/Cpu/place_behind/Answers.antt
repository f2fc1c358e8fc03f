use Rattle.std.proofs.Common.{rules, refl, arith}
use Rattle.cw_i86.specs.State.{offset_of, form_base}
use Rattle.cw_i86.specs.declared.instr.Place.TheVariants.{Direct, Plain, Near}
use Rattle.cw_cpu86.proofs.Rows.{at_plain, at_offset, at_near}
use Rattle.cw_cpu86.proofs.cpu.Cpu.place_behind.Goals as goal

pub returns-then-form-eq7 : goal.returns-then-form-eq7
unfolding offset_of form_base
returns-then-form-eq7 c = (Plain 7, at_plain _ _ 7 c.requires c.if-mode-lt64.true c.if-form-eq7.true (λ e. omega (arith, e)), refl, search rules)

pub returns-then-form-eq6 : goal.returns-then-form-eq6
unfolding offset_of
returns-then-form-eq6 c =
    (Direct c.word_behind.result, at_offset _ _ _ c.requires c.if-mode-lt64.true c.if-form-eq6.true c.word_behind.type_inv c.word_behind.ensures, refl, refl)

pub returns-then-form-eq4 : goal.returns-then-form-eq4
unfolding offset_of form_base
returns-then-form-eq4 c = (Plain 4, at_plain _ _ 4 c.requires c.if-mode-lt64.true c.if-form-eq4.true (λ e. omega (arith, e)), refl, search rules)

pub returns-then-form-eq6-2 : goal.returns-then-form-eq6-2
unfolding offset_of form_base
returns-then-form-eq6-2 c = (
  Near 6 c.byte_behind-by.result,
  at_near _ _ 6 _ c.requires c.if-mode-lt64.false c.if-mode-lt128.true c.if-form-eq6-2.true c.byte_behind-by.type_inv c.byte_behind-by.ensures,
  refl,
  search rules,
)

pub returns-then-form-eq7-2 : goal.returns-then-form-eq7-2
unfolding offset_of form_base
returns-then-form-eq7-2 c = (
  Near 7 c.byte_behind-by-then-form-eq7-2.result,
  at_near _ _ 7 _ c.requires c.if-mode-lt64.false c.if-mode-lt128.true c.if-form-eq7-2.true c.byte_behind-by-then-form-eq7-2.type_inv c.byte_behind-by-then-form-eq7-2.ensures,
  refl,
  search rules,
)
