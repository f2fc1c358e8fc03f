use Rattle.std.proofs.Common.{◌+◌, length, ap, ◌∙◌}
use Rattle.cw_tmpl.specs.Names.{own}
use Rattle.cw_assemble.proofs.Composed.{way_added}
use Rattle.cw_assemble.proofs.Growing.{lost}
use Rattle.cw_assemble.proofs.jumping.put_switch_way.Goals as goal

pub returns-in-Ok : goal.returns-in-Ok
returns-in-Ok c =
    way_added c.args.code.now c.put_switch_tested.new.code c.put_all.new.self c.put_mark_words.new.code c.in-Ok.labels c.args.line c.exchange.result c.double.result c.own.result c.args.names.now c.args.marks.now
    c.put_switch_tested.ensures c.in-Ok.ensures.1 c.exchange.ensures c.double.ensures (c.own.ensures ∙ ap (λ bs. own (length bs + 20)) c.as_slice.ensures) c.put_all.ensures c.put_mark_words.ensures

pub returns-in-Err : goal.returns-in-Err
returns-in-Err c = lost c.fail.ensures
