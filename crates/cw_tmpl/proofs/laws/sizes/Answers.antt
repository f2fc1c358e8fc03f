use Rattle.cw_tmpl.proofs.Endings.{saves}
use Rattle.cw_tmpl.proofs.Sizes.{size_everywhere, listed, whole, stands_at}
use Rattle.cw_tmpl.proofs.Ways.{segment_size}
use Rattle.cw_tmpl.proofs.laws.sizes.Goals as goal

pub returns-clause-each : goal.returns-clause-each
returns-clause-each c = listed

pub returns-clause-everywhere : goal.returns-clause-everywhere
returns-clause-everywhere c = size_everywhere

pub returns-clause-saves : goal.returns-clause-saves
returns-clause-saves c = saves

pub returns-clause-whole : goal.returns-clause-whole
returns-clause-whole c = whole

pub returns-clause-places : goal.returns-clause-places
returns-clause-places c = stands_at

pub returns-clause-segment : goal.returns-clause-segment
returns-clause-segment c = segment_size
