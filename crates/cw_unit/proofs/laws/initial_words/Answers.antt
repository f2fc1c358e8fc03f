use Rattle.cw_unit.proofs.Memory.{memory-word}
use Rattle.cw_unit.proofs.laws.initial_words.Goals as goal

pub returns : goal.returns
returns c us m area a h = memory-word us m area a h
