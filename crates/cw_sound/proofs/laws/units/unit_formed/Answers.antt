-- The bodies of the unit are well formed.
use Rattle.std.proofs.Common.{refl}
use Rattle.cw_number.specs.Numbers.{numbers_of}
use Rattle.cw_judge.specs.Judged.{sites_of}
use Rattle.cw_make.specs.Made.{unit_of}
use Rattle.cw_sound.specs.Items.Items.{things_of}
use Rattle.cw_sound.proofs.Units.Own.{own_tree}
use Rattle.cw_sound.proofs.laws.units.unit_formed.Goals as goal

pub returns : goal.returns
returns c raw named resolves fine fits =
    let tree = own_tree raw named resolves fits in
    let stand = c.parts_stand.ensures raw named resolves fine fits in
    c.unit_bodies.ensures.well_formed named (sites_of (things_of named)) (numbers_of named) (unit_of named) named.raw.now.block refl refl tree.regular tree.levels tree.bodies stand.bodies stand.mentions stand.answers stand.types
