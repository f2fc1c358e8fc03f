use Rattle.std.proofs.Common.{◌≡◌, ◌∙◌, ℕ, ◌+◌, List, length, refl, ap, sym, arith, slice_get}
use Rattle.cw_io.specs.File.{Told}
use Rattle.cw_unit.specs.declared.unit.Unit.{Unit as SourceUnit}
use Rattle.cw_files.specs.Reading.{counts_at}
use Rattle.cw_files.proofs.Taking.{told_of, told_now, one_more, all_names}
use Rattle.cw_actions.proofs.Coding.{none_kept, one_kept, units_of, stopped, no_memory}
use Rattle.cw_actions.proofs.code.reading.read_sources.Goals as goal

pub loop-name-init : goal.loop-name-init
loop-name-init g c =
    let told : List Told = told_of (g.F.Store.file c.args.files.now) c.args.names.now in
    record {
      number = refl;
      so_far = ap (λ (us : List SourceUnit). length us) c.new-sources.ensures.segments.units;
      keeps = none_kept told c.new-sources.result c.new-sources.ensures.texts c.new-sources.ensures.segments;
      same = (refl {a = g.F.Store.faults c.args.files.now}, refl {a = g.F.Store.absences c.args.files.now});
      stay = λ n. refl {a = g.F.Store.file c.args.files.now n};
    }

pub loop-name-preserved : goal.loop-name-preserved
loop-name-preserved g c =
    let so_far = c.loop-name.invariant in
    let told : List Told = told_of (g.F.Store.file c.args.files.now) c.args.names.now in
    let at = told_now (g.F.Store.file c.args.files.now) (g.F.Store.file c.loop-name.files) c.args.names.now c.loop-name.name-index c.loop-name.number
    c.loop-name-test.true so_far.stay so_far.number in
    let next = c.in_ok-source.ensures in
    let source = c.in_ok-source.source in
    let pushed = c.in_ok-push.ensures in
    record {
      number = ap (λ n. n + 1) so_far.number;
      so_far = one_more c.loop-name.sources.segments.units c.push.new.self.segments.units source.segment.unit c.loop-name.name-index pushed.units so_far.so_far;
      keeps = one_kept told c.loop-name.sources c.push.new.self _ source.text source.segment.unit source.segment.made so_far.keeps (ap (λ n. slice_get told n) (so_far.so_far ∙ sym so_far.number) ∙ at)
          next.whole next.within next.made.0 next.made.1 pushed.texts pushed.units pushed.layouts pushed.objects;
      same = (next.same.0 ∙ so_far.same.0, next.same.1 ∙ so_far.same.1);
      stay = λ n. next.stay n ∙ so_far.stay n;
    }

pub returns-in_err-source-clause-taken : goal.returns-in_err-source-clause-taken
returns-in_err-source-clause-taken g c =
    let so_far = c.loop-name.invariant in
    let told : List Told = told_of (g.F.Store.file c.args.files.now) c.args.names.now in
    let at = told_now (g.F.Store.file c.args.files.now) (g.F.Store.file c.loop-name.files) c.args.names.now c.loop-name.name-index c.loop-name.number
    c.loop-name-test.true so_far.stay so_far.number in
    stopped told (counts_at (g.F.Store.faults c.args.files.now) (g.F.Store.absences c.args.files.now))
    (counts_at (g.F.Store.faults c.loop-name.files) (g.F.Store.absences c.loop-name.files))
    (counts_at (g.F.Store.faults c.read_source.new.files) (g.F.Store.absences c.read_source.new.files)) c.in_err-source.field-0.0 c.from_residual.result so_far.same
    (c.in_err-source.ensures.stops told c.loop-name.sources.segments.units (units_of told c.loop-name.sources so_far.keeps) (so_far.so_far ∙ sym so_far.number) at) c.from_residual.ensures.1

pub returns-in_err-source-clause-stay : goal.returns-in_err-source-clause-stay
returns-in_err-source-clause-stay g c = λ n. c.in_err-source.ensures.stay n ∙ c.loop-name.invariant.stay n

pub returns-in_err-push-clause-taken : goal.returns-in_err-push-clause-taken
returns-in_err-push-clause-taken g c =
    no_memory (told_of (g.F.Store.file c.args.files.now) c.args.names.now) c.loop-name.sources
    (counts_at (g.F.Store.faults c.args.files.now) (g.F.Store.absences c.args.files.now))
    (counts_at (g.F.Store.faults c.read_source.new.files) (g.F.Store.absences c.read_source.new.files)) c.in_err-push.field-0.0 c.from_residual-in_err-push.result
    c.loop-name.invariant.keeps c.in_err-push.ensures.memory c.from_residual-in_err-push.ensures.1

pub returns-in_err-push-clause-stay : goal.returns-in_err-push-clause-stay
returns-in_err-push-clause-stay g c = λ n. c.in_ok-source.ensures.stay n ∙ c.loop-name.invariant.stay n

pub overflow_add-number : goal.overflow_add-number
overflow_add-number g c = omega (arith, c.loop-name.invariant.number, c.loop-name-test.true, c.requires)

pub returns-clause-taken : goal.returns-clause-taken
returns-clause-taken g c =
    let so_far = c.loop-name.invariant in
    let all : c.loop-name.name-index ≡ length c.args.names.now = omega (arith, c.loop-name-test.false, c.loop-name.auto.name-index-end) in
    (so_far.keeps, all_names (g.F.Store.file c.args.files.now) c.args.names.now c.loop-name.sources.segments.units c.loop-name.name-index so_far.so_far all, so_far.same)

pub returns-clause-stay : goal.returns-clause-stay
returns-clause-stay g c = c.loop-name.invariant.stay
