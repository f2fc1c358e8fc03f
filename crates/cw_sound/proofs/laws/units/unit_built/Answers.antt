-- The unit is built.
use Rattle.std.proofs.Common.{refl}
use Rattle.cw_number.specs.Numbers.{numbers_of}
use Rattle.cw_judge.specs.Judged.{sites_of}
use Rattle.cw_make.specs.Made.{unit_of}
use Rattle.cw_sound.specs.Items.Items.{things_of}
use Rattle.cw_sound.proofs.Units.Own.{own_text, own_tree}
use Rattle.cw_sound.proofs.Units.Building.{unit_built}
use Rattle.cw_sound.proofs.laws.units.unit_built.Goals as goal

pub returns : goal.returns
returns c raw named resolves fine fits =
    let own = own_text raw named resolves in
    let tree = own_tree raw named resolves fits in
    let stand = c.parts_stand.ensures raw named resolves fine fits in
    unit_built named (numbers_of named) (unit_of named) own tree.placed (c.counts.ensures named own tree.placed stand.items) stand.items (c.few_parameters.ensures named own fine tree.placed) refl
    (c.unit_bodies.ensures.built named (sites_of (things_of named)) (numbers_of named) (unit_of named) named.raw.now.block refl refl tree.regular tree.levels tree.bodies stand.bodies stand.mentions stand.answers stand.types)
