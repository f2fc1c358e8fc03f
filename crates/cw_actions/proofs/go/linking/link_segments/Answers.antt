use Rattle.std.proofs.Common.{◌∙◌}
use Rattle.cw_actions.proofs.Going.Unlinked.{unlinked}
use Rattle.cw_actions.proofs.go.linking.link_segments.Goals as goal

pub link_units-requires : goal.link_units-requires
link_units-requires g c = (c.as_slice.ensures ∙ c.requires.are.objects, (c.requires.compiled, (c.requires.few, c.requires.within)))

pub returns-in-Err : goal.returns-in-Err
returns-in-Err g c = unlinked g.us c.args.limits.now c.in-Err.fault c.unlinked.result c.unlinked.ensures c.in-Err.ensures
