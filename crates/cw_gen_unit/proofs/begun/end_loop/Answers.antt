use Rattle.std.proofs.Common.{ap, ◌∙◌}
use Rattle.cw_gen_unit.specs.BegunLoops.{marked_at}
use Rattle.cw_gen_unit.proofs.begun.end_loop.Goals as goal

pub returns : goal.returns
returns c = record {
  held = λ h. c.put_way.ensures.held (c.put_mark.ensures.held h);
  is = λ h. c.put_mark.ensures.is h ∙ ap (marked_at c.args.begun.end) (c.put_way.ensures.is (c.put_mark.ensures.held h));
}
