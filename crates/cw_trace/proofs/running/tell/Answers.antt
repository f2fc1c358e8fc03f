use Rattle.std.proofs.Common.{◌≡◌, ◌<◌, [], arith, ◌∙◌, subst}
use Rattle.cw_write.specs.Said.{Writes}
use Rattle.cw_io.specs.declared.source.Failed.{Failed}
use Rattle.cw_trace.specs.Reports.{told_at}
use Rattle.cw_trace.proofs.Marked.{tells_there, tells_nothing, tells_not_elsewhere, writes_nothing}
use Rattle.cw_trace.proofs.running.tell.Goals as goal
use Rattle.cw_trace.proofs.running.tell.Goals.{else-table-offset-via-then-table-offset+else-regs-eq-CODE_SEGMENT, else-table-offset-via-else-table-offset}

pub returns-then-regs-eq-CODE_SEGMENT : goal.returns-then-regs-eq-CODE_SEGMENT
returns-then-regs-eq-CODE_SEGMENT g c =
    let less : c.regs-regs.result.ip < 65536 = omega arith in
    let is = tells_there c.args.watch.now c.args.cpu.now c.args.table.now c.regs-regs.result.ip c.regs-regs.result.cs c.requires.marks less c.regs-regs.ensures.ip c.regs-regs.ensures.cs
    c.if-table-offset.true c.if-regs-eq-CODE_SEGMENT.true in
    subst (λ text. Writes {E = Failed} (g.S.Sink.held c.args.say.now) (g.S.Sink.held c.write_report.new.say) (g.S.Sink.faults c.args.say.now) (g.S.Sink.faults c.write_report.new.say) text c.write_report.result)
    is c.write_report.ensures

pub returns-else-table-offset : goal.returns-else-table-offset
returns-else-table-offset g c =
    let less : c.regs-regs.result.ip < 65536 = omega arith in
    let is : [] ≡ told_at c.args.watch.now c.args.cpu.now = elim c.else-table-offset.branch [
      | else-table-offset-via-then-table-offset+else-regs-eq-CODE_SEGMENT w ↦ tells_not_elsewhere c.args.watch.now c.args.cpu.now (λ e. w.if-regs-eq-CODE_SEGMENT.false (c.regs-regs.ensures.cs ∙ e))
      | else-table-offset-via-else-table-offset w ↦
          tells_nothing c.args.watch.now c.args.cpu.now c.args.table.now c.regs-regs.result.ip c.requires.marks less c.regs-regs.ensures.ip w.if-table-offset.false
    ] in
    writes_nothing _ _ _ is
