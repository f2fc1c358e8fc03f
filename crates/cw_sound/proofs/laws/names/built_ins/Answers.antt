use Rattle.std.proofs.Common.{refl}
use Rattle.cw_number.specs.Numbers.{numbers_of}
use Rattle.cw_make.specs.Made.{unit_of}
use Rattle.cw_sound.proofs.Names.BuiltInNumbers.{built_ins_stand}
use Rattle.cw_sound.proofs.laws.names.built_ins.Goals as goal

pub returns : goal.returns
returns c named resolves placed items = built_ins_stand named (numbers_of named) (unit_of named) resolves placed items refl
