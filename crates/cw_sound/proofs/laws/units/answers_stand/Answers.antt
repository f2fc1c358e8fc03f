-- Each ANSWER of a text.
use Rattle.cw_number.specs.Numbers.{numbers_of}
use Rattle.cw_make.specs.Made.{unit_of}
use Rattle.cw_sound.proofs.Units.Answering.{answers_stand}
use Rattle.cw_sound.proofs.laws.units.answers_stand.Goals as goal

pub returns : goal.returns
returns c named resolves placed items = answers_stand named (numbers_of named) (unit_of named) (c.answers_fit.ensures named resolves placed items)
