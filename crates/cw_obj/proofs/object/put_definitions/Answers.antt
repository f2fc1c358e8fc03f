use Rattle.std.proofs.Common.{◌++◌, ap, ◌∙◌}
use Rattle.cw_view.specs.ObjectFormat.{Definition, record_bytes}
use Rattle.cw_obj.proofs.Appending.{put_definition_next}
use Rattle.cw_obj.proofs.object.put_definitions.Goals as goal

pub loop-definition-preserved : goal.loop-definition-preserved
loop-definition-preserved c =
    put_definition_next c.args.code.now c.args.defined.now c.loop-definition.definition-index _ c.loop-definition.out.items c.put_definition.new.out.items _ c.loop-definition-test.true
    (c.in_ok-put_definition.ensures ∙ ap (λ d. c.loop-definition.out.items ++ record_bytes (Definition d)) c.definition_of.ensures)
    c.loop-definition.invariant
