use Rattle.std.proofs.Common.{length, ◌&&◌}
use Rattle.cw_unit.specs.Storage.{layout_of}
use Rattle.cw_unit.specs.StackBound.{unit_need}
use Rattle.cw_object.specs.IsWritable.{is_coded, are_filled, are_defined, are_begun}
use Rattle.cw_writable.proofs.Coded.Fine.{both}
use Rattle.cw_writable.specs.Back.Ready.{code_of}
use Rattle.cw_writable.proofs.laws.back.back_writable.Goals as goal

pub returns : goal.returns
returns c u built coded small need ready =
    let n = length u.descs in
    let k = code_of u in
    let a = are_filled n (layout_of u).families k.bytes 0 k.relocs in
    let b = are_defined n k 0 u.defined in
    let d = are_begun (length k.bytes) 0 k.statements in
    both (is_coded u k (unit_need u)) (a && (b && d)) (c.body_fits.ensures u ready small need)
    (both a (b && d) (c.relocations_filled.ensures u built ready small)
    (both b d (c.definitions_placed.ensures u built coded ready small) (c.statements_begun.ensures u built coded ready small)))
