use Rattle.cw_number.specs.Numbers.{numbers_of}
use Rattle.cw_make.specs.Made.{unit_of}
use Rattle.cw_sound.proofs.Names.AllNames.{all_names}
use Rattle.cw_sound.proofs.laws.names.all_stand.Goals as goal

pub returns : goal.returns
returns c named resolves fault placed items =
    all_names named (numbers_of named) (unit_of named) items (c.elements.ensures named resolves placed items) (c.built_ins.ensures named resolves placed items) (c.procedures.ensures named resolves placed items)
    (c.parameters.ensures named resolves fault placed items) (c.labels.ensures named resolves placed items) (c.switches.ensures named resolves placed items) (c.listed.ensures named resolves placed items)
    (c.uses_found.ensures named resolves placed) (c.answers_are_called.ensures named resolves placed)
