-- The tokens of an expansion.
use Rattle.cw_sound.proofs.Lines.Counts.{expanded_lined}
use Rattle.cw_sound.proofs.laws.trees.lines_counted.Goals as goal

pub returns : goal.returns
returns c text tokens expanded d l = expanded_lined text tokens expanded d l
