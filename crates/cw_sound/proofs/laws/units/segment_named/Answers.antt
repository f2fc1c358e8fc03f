-- The segment's name.
use Rattle.std.proofs.Common.{IsTrue, sym, subst}
use Rattle.cw_tree.specs.declared.segment.Raw.{Raw}
use Rattle.cw_fields.specs.Names.{is_name}
use Rattle.cw_sound.proofs.Written.Segment.{segment_named}
use Rattle.cw_sound.proofs.laws.units.segment_named.Goals as goal

pub returns : goal.returns
returns c n ts raw named d resolves = subst (λ (x : Raw). IsTrue (is_name x.name)) (sym resolves.1) (segment_named n ts raw d)
