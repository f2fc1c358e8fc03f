use Rattle.cw_number.specs.Numbers.{numbers_of}
use Rattle.cw_sound.proofs.Names.FewListed.{few_parameters}
use Rattle.cw_sound.proofs.laws.names.few_parameters.Goals as goal

pub returns : goal.returns
returns c named resolves fault placed = few_parameters named (numbers_of named) resolves placed fault
