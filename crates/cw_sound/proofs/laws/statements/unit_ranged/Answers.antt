-- The numbers of the unit are in range.
use Rattle.std.proofs.Common.{true, ◌&&◌, None, refl}
use Rattle.std.specs.List.{list_all}
use Rattle.cw_number.specs.Numbers.{numbers_of}
use Rattle.cw_judge.specs.Judged.{sites_of}
use Rattle.cw_make.specs.Made.{unit_of}
use Rattle.cw_unit.specs.declared.unit.Unit.{Unit as SourceUnit}
use Rattle.cw_writable.specs.Coded.RangedUnits.{is_ranged_statement, are_ranged_procedures}
use Rattle.cw_sound.specs.Items.Items.{things_of}
use Rattle.cw_sound.proofs.Expressions.Truth.{both}
use Rattle.cw_sound.proofs.Units.Own.{own_text, own_tree}
use Rattle.cw_sound.proofs.Ranged.Declarations.{is_small}
use Rattle.cw_sound.proofs.laws.statements.unit_ranged.Goals as goal

pub returns : goal.returns
returns c raw named resolves fine fits =
    let u : SourceUnit = unit_of named in
    let own = own_text raw named resolves in
    let tree = own_tree raw named resolves fits in
    let stand = c.parts_stand.ensures raw named resolves fine fits in
    let declared = c.declarations.ensures named own fine in
    let frames = c.frames_fit.ensures named own fine tree.placed tree.rising tree.plain stand.items in
    let body = c.statements.ensures.block named (sites_of (things_of named)) (numbers_of named) u None true named.raw.now.block declared tree.regular stand.mentions stand.answers stand.types tree.levels in
    let procedures = c.procedures.ensures named (sites_of (things_of named)) (numbers_of named) u named.raw.now.block declared refl tree.bodies stand.bodies stand.mentions stand.answers stand.types frames in
    both (is_ranged_statement u 0 u.body) (are_ranged_procedures u 0 u.procs && list_all is_small u.switches) body (both (are_ranged_procedures u 0 u.procs) (list_all is_small u.switches) procedures (c.switches.ensures named fine))
