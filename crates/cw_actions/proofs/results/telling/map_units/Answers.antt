use Rattle.std.proofs.Common.{◌∙◌, refl}
use Rattle.cw_actions.specs.Resulting.Outside.{out_at}
use Rattle.cw_correct.specs.Results.{IsMap}
use Rattle.cw_actions.proofs.Resulting.Steps.{tells_of, unlinked_tells}
use Rattle.cw_actions.proofs.results.telling.map_units.Goals as goal

pub storage_text-requires : goal.storage_text-requires
storage_text-requires g c = (c.requires.1.are, (c.in-Ok.ensures, c.requires.1.within))

pub returns-in-Ok-storage_text : goal.returns-in-Ok-storage_text
returns-in-Ok-storage_text g c =
    tells_of IsMap g.us c.args.limits.now (out_at (g.O.Sink.held c.args.out.now) (g.O.Sink.faults c.args.out.now)) (out_at (g.O.Sink.held c.write_text.new.out) (g.O.Sink.faults c.write_text.new.out)) c.write_text.result _ c.in-Ok.ensures.links
    (c.as_slice.ensures.value ∙ c.in-Ok-storage_text.ensures) c.write_text.ensures

pub returns-in-Ok : goal.returns-in-Ok
returns-in-Ok g c = refl

pub returns : goal.returns
returns g c = unlinked_tells IsMap g.us c.args.limits.now (out_at (g.O.Sink.held c.args.out.now) (g.O.Sink.faults c.args.out.now)) c.in-Err.status c.in-Err.ensures
