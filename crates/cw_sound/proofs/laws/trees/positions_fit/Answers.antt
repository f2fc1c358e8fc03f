-- The statements of a text.
use Rattle.cw_sound.proofs.Lines.Texts.{positions}
use Rattle.cw_sound.proofs.laws.trees.positions_fit.Goals as goal

pub returns : goal.returns
returns c n ts raw h few d = positions n ts raw h d
