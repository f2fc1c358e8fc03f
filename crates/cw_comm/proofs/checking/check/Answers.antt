use Rattle.std.proofs.Common.{◌≡◌, length, sym, subst, arith}
use Rattle.cw_comm.specs.Clashes.{NoneBefore, FailsToAgree}
use Rattle.cw_comm.specs.Searching.{kind_of}
use Rattle.cw_comm.proofs.Firsts.{none_at_first, none_at_all, both_few}
use Rattle.cw_comm.proofs.Searching.{none_before, entered_own, entered_before, kind_names, kind_before, first_clash}
use Rattle.cw_comm.proofs.checking.check.Goals as goal

pub loop-segment-init : goal.loop-segment-init
loop-segment-init c = record {
  before = none_before c.args.listed.now c.in_ok-own.own c.in_ok-own.ensures;
  none = none_at_first (kind_of c.args.listed.now.segments.now c.args.sought);
}

pub enter-requires : goal.enter-requires
enter-requires c = record { listed = c.requires.listed; segment = c.loop-segment-test.true; each = c.loop-segment.invariant.before.each }

pub clash_in-requires-clause-at : goal.clash_in-requires-clause-at
clash_in-requires-clause-at c = record {
  listed = c.requires.listed;
  first = c.requires.firsts;
  own = entered_own c.args.listed.now c.loop-segment.segment c.loop-segment.own c.enter.new.self c.loop-segment-test.true c.loop-segment.invariant.before c.enter.ensures;
  within = c.loop-segment-test.true;
}

pub loop-segment-preserved : goal.loop-segment-preserved
loop-segment-preserved c = record {
  before = entered_before c.args.listed.now c.loop-segment.segment c.loop-segment.own c.enter.new.self c.loop-segment-test.true c.loop-segment.invariant.before c.enter.ensures;
  none = c.in-None.ensures c.loop-segment.invariant.none;
}

pub clash_of-requires : goal.clash_of-requires
clash_of-requires c =
    let faces = c.args.listed.now.segments.now in
    let both = both_few faces (kind_of faces c.args.sought) (kind_names faces c.args.sought) (kind_before faces c.args.sought) c.requires.listed.few c.in-Some.found.0 c.in-Some.found.1 c.loop-segment.segment (c.in-Some.ensures c.loop-segment.invariant.none) in
    record { earlier = both.0; later = both.1 }

pub overflow_cast-later : goal.overflow_cast-later
overflow_cast-later c = omega (arith, c.loop-segment-test.true, c.requires.listed.few)

pub returns-in-Some-clause-clash : goal.returns-in-Some-clause-clash
returns-in-Some-clause-clash c =
    let faces = c.args.listed.now.segments.now in
    let found = c.in-Some.ensures c.loop-segment.invariant.none in
    subst (FailsToAgree faces) (sym c.clash_of.ensures) (first_clash faces c.args.sought c.requires.so_far c.in-Some.found.0 c.in-Some.found.1 c.loop-segment.segment found.0 found.1)

pub returns-clause-none : goal.returns-clause-none
returns-clause-none c =
    let faces = c.args.listed.now.segments.now in
    let all : c.loop-segment.segment ≡ length faces = omega (arith, c.loop-segment-test.false, c.loop-segment.auto.segment-end) in
    none_at_all faces (kind_of faces c.args.sought) (kind_names faces c.args.sought) (subst (λ j. NoneBefore (kind_of faces c.args.sought) j 0) all c.loop-segment.invariant.none)
