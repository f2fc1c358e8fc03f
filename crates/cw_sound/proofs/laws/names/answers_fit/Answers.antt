use Rattle.std.proofs.Common.{refl}
use Rattle.cw_number.specs.Numbers.{numbers_of}
use Rattle.cw_make.specs.Made.{unit_of}
use Rattle.cw_sound.proofs.Names.OwnDeclarations.{goals}
use Rattle.cw_sound.proofs.Names.AnswersFit.{answers_fit}
use Rattle.cw_sound.proofs.laws.names.answers_fit.Goals as goal

pub returns : goal.returns
returns c named resolves placed items =
    answers_fit named (numbers_of named) (unit_of named) (c.uses_found.ensures named resolves placed)
    (goals named (numbers_of named) (unit_of named) resolves placed (c.counts.ensures named resolves placed items) (record { procs = refl; labels = refl; switches = refl; body = refl }))
