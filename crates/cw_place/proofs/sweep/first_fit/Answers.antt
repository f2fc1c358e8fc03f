use Rattle.std.proofs.Common.{◌≤◌, ◌<◌, ◌+◌, ℕ, arith}
use Rattle.cw_unit.specs.Allocation.{first_fit}
use Rattle.cw_place.specs.Sweep.{ranges_of, start_at, end_at}
use Rattle.cw_place.proofs.Fits_first.{clear_at, past, IsClear, le_antisymm, more_passed}
use Rattle.cw_place.proofs.sweep.first_fit.Goals as goal
use Rattle.cw_place.proofs.sweep.first_fit.Goals.{then-address-spans, else-address-spans}

pub loop-passed-preserved : goal.loop-passed-preserved
loop-passed-preserved c =
    let ss = c.args.spans.now in
    let n = c.loop-passed.passed in
    let reach : start_at ss n < c.loop-passed.address + c.args.extent = omega (arith, c.if-spans-passed.true) in
    let free : (b : ℕ) → c.args.sweep.now.address ≤ b → IsClear ss c.args.extent b → end_at ss n ≤ b = λ b le clear. past ss c.args.extent c.loop-passed.address n b c.requires.swept (omega arith) reach (omega arith) (c.loop-passed.invariant.least b le clear) clear in
    elim c.if-address-spans.branch [
      | then-address-spans w ↦
          record {
            within = omega arith;
            up = omega (arith, w.address-is, w.if-address-spans.true, c.loop-passed.invariant.up);
            small = omega (arith, w.address-is, c.requires.ends n c.loop-passed-test.true);
            passed = more_passed ss n c.loop-passed.address c.if-address-spans.address c.loop-passed.invariant.passed (omega (arith, w.address-is, w.if-address-spans.true)) (omega (arith, w.address-is));
            least = λ b le clear. omega (arith, free b le clear, w.address-is);
          }
      | else-address-spans w ↦
          record {
            within = omega arith;
            up = omega (arith, w.address-is, c.loop-passed.invariant.up);
            small = omega (arith, w.address-is, c.loop-passed.invariant.small);
            passed = more_passed ss n c.loop-passed.address c.if-address-spans.address c.loop-passed.invariant.passed (omega (arith, w.address-is)) (omega (arith, w.address-is, w.if-address-spans.false));
            least = λ b le clear. omega (arith, c.loop-passed.invariant.least b le clear, w.address-is);
          }
    ]

pub returns-else-spans-passed-clause-address : goal.returns-else-spans-passed-clause-address
returns-else-spans-passed-clause-address c =
    let ss = c.args.spans.now in
    let a = c.args.sweep.now.address in
    let clear : IsClear ss c.args.extent c.loop-passed.address = clear_at ss c.args.extent c.loop-passed.address c.loop-passed.passed c.requires.swept c.loop-passed.invariant.passed (λ h. omega (arith, c.if-spans-passed.false)) in
    le_antisymm _ _ (c.loop-passed.invariant.least (first_fit (ranges_of ss) c.args.extent a) (c.fits_first.ensures.after (ranges_of ss) c.args.extent a) (c.fits_first.ensures.clear (ranges_of ss) c.args.extent a))
    (c.fits_first.ensures.least (ranges_of ss) c.args.extent a c.loop-passed.address c.loop-passed.invariant.up clear)

pub returns-after-loop-passed-clause-address : goal.returns-after-loop-passed-clause-address
returns-after-loop-passed-clause-address c =
    let ss = c.args.spans.now in
    let a = c.args.sweep.now.address in
    let clear : IsClear ss c.args.extent c.loop-passed.address = clear_at ss c.args.extent c.loop-passed.address c.loop-passed.passed c.requires.swept c.loop-passed.invariant.passed (λ h. absurd (omega (arith, h, c.loop-passed-test.false))) in
    le_antisymm _ _ (c.loop-passed.invariant.least (first_fit (ranges_of ss) c.args.extent a) (c.fits_first.ensures.after (ranges_of ss) c.args.extent a) (c.fits_first.ensures.clear (ranges_of ss) c.args.extent a))
    (c.fits_first.ensures.least (ranges_of ss) c.args.extent a c.loop-passed.address c.loop-passed.invariant.up clear)
