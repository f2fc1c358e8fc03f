use Rattle.std.proofs.Common.{arith, ◌∙◌, ap, sym}
use Rattle.cw_fields.specs.Fields.{word_in}
use Rattle.cw_view.proofs.Marked.{tail_is}
use Rattle.cw_lib.proofs.Opening.{number_cut, started, number_bad}
use Rattle.cw_lib.proofs.library.number_of.Goals as goal
use Rattle.cw_lib.proofs.library.number_of.Goals.{else-number-ge1-via-then-number-ge1+else-number-le200, else-number-ge1-via-else-number-ge1}

pub returns-in-None : goal.returns-in-None
returns-in-None c = number_cut c.args.bytes.now c.requires (ap word_in (sym (tail_is c.args.bytes.now 6)) ∙ c.in-None.ensures)

pub returns-then-number-le200 : goal.returns-then-number-le200
returns-then-number-le200 c =
    ((c.if-number-ge1.true, c.if-number-le200.true), started c.args.bytes.now c.in-Some.number c.in-Some.field-0-1.now (λ i. omega (arith, c.type_inv.bytes i)) c.requires (ap word_in (sym (tail_is c.args.bytes.now 6)) ∙ c.in-Some.ensures))

pub returns-else-number-ge1 : goal.returns-else-number-ge1
returns-else-number-ge1 c =
    number_bad c.args.bytes.now c.in-Some.number c.in-Some.field-0-1.now (λ i. omega (arith, c.type_inv.bytes i)) c.requires (ap word_in (sym (tail_is c.args.bytes.now 6)) ∙ c.in-Some.ensures)
    (λ h. elim c.else-number-ge1.branch [ else-number-ge1-via-then-number-ge1+else-number-le200 w ↦ omega (arith, h.1, w.if-number-le200.false) | else-number-ge1-via-else-number-ge1 w ↦ omega (arith, h.0, w.if-number-ge1.false) ])
