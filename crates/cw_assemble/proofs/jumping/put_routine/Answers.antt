use Rattle.std.proofs.Common.{◌+◌, length, ap, ◌∙◌}
use Rattle.cw_tmpl.specs.Names.{own}
use Rattle.cw_assemble.proofs.Composed.{switch_added}
use Rattle.cw_assemble.proofs.Growing.{lost}
use Rattle.cw_assemble.proofs.jumping.put_routine.Goals as goal

pub returns-in-Ok : goal.returns-in-Ok
returns-in-Ok c =
    switch_added c.args.code.now c.put_number_compared.new.code c.put_all.new.self c.put_goal_words.new.code c.in-Ok.number c.jump_if_below.result c.double.result c.copy.result c.copy-in-Ok.result c.set_word.result c.subtract.result c.own.result c.args.names.now c.args.goals.now
    c.put_number_compared.ensures c.in-Ok.ensures.1 c.jump_if_below.ensures c.double.ensures c.copy.ensures c.copy-in-Ok.ensures c.set_word.ensures c.subtract.ensures (c.own.ensures ∙ ap (λ bs. own (length bs + 29)) c.as_slice.ensures)
    c.put_all.ensures c.put_goal_words.ensures

pub returns-in-Err : goal.returns-in-Err
returns-in-Err c = lost c.fail.ensures
