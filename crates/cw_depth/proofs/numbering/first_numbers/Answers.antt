use Rattle.std.proofs.Common.{◌≡◌, ◌≤◌, length, Some, sym, ap, refl, arith}
use Rattle.std.specs.Prelude.{slice_get}
use Rattle.std.proofs.lemmas.Option.{slice_get_read}
use Rattle.std.proofs.lemmas.Grind.{common_steps}
use Rattle.cw_depth.proofs.Firsts.{before_none, first_more, firsts_more}
use Rattle.cw_depth.proofs.numbering.first_numbers.Goals as goal

pub loop-unit-init : goal.loop-unit-init
loop-unit-init c = record {
  size = grind (arith, common_steps);
  firsts = grind (arith, common_steps);
  next = sym (before_none c.args.units.now);
  small = c.requires.segments;
}

pub loop-unit-preserved : goal.loop-unit-preserved
loop-unit-preserved c =
    let us = c.args.units.now in
    let i = c.loop-unit.unit-index in
    let there : slice_get us i ≡ Some c.unit-item.result = slice_get_read us (length us) i c.unit-item.result refl c.loop-unit-test.true c.unit-item.is in
    let procs : length c.as_slice.result.now ≡ length c.unit-item.result.procs = ap length c.as_slice.ensures in
    let few : length c.unit-item.result.procs ≤ 65536 = c.requires.procedures i c.unit-item.result there in
    record {
      size = grind (arith, common_steps);
      firsts = firsts_more us c.loop-unit.firsts _ c.loop-unit.next i c.loop-unit.invariant.size c.loop-unit.invariant.next c.in_ok-push.ensures.ok c.loop-unit.invariant.firsts;
      next = omega (arith, c.loop-unit.invariant.next, first_more us i c.unit-item.result there);
      small = omega (arith, c.loop-unit.invariant.small);
    }
