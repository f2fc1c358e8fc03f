use Rattle.std.proofs.Common.{◌∙◌, ◌+◌, List, length, refl, ap, sym, subst, arith}
use Rattle.cw_io.specs.File.{Told}
use Rattle.cw_unit.specs.declared.unit.Unit.{Unit as SourceUnit}
use Rattle.cw_compile.specs.Texts.{text_limit}
use Rattle.cw_files.specs.Texts.{HasUnit}
use Rattle.cw_files.specs.Reading.{counts_at}
use Rattle.cw_files.specs.Taking.{Takes}
use Rattle.cw_files.proofs.Taking.{told_of, told_now, one_more, takes_none, takes_all, all_names}
use Rattle.cw_files.proofs.Next.{units_stopped, units_no_memory, segments_more, no_segments}
use Rattle.cw_texts.proofs.texts.read_units.Goals as goal

pub loop-name-init : goal.loop-name-init
loop-name-init g c =
    let told : List Told = told_of (g.F.Store.file c.args.files.now) c.args.names.now in
    record {
      number = refl;
      so_far = ap (λ (us : List SourceUnit). length us) c.new-segments.ensures.units;
      takes = subst (λ us. Takes text_limit HasUnit told us) (sym c.new-segments.ensures.units) (takes_none text_limit HasUnit told);
      segments = no_segments c.new-segments.result c.new-segments.ensures;
      same = (refl {a = g.F.Store.faults c.args.files.now}, refl {a = g.F.Store.absences c.args.files.now});
      stay = λ n. refl {a = g.F.Store.file c.args.files.now n};
    }

pub loop-name-preserved : goal.loop-name-preserved
loop-name-preserved g c =
    let so_far = c.loop-name.invariant in
    let next = c.in_ok-segment.ensures.taken (told_of (g.F.Store.file c.args.files.now) c.args.names.now) c.loop-name.segments.units so_far.takes (so_far.so_far ∙ sym so_far.number)
    (told_now (g.F.Store.file c.args.files.now) (g.F.Store.file c.loop-name.files) c.args.names.now c.loop-name.name-index c.loop-name.number c.loop-name-test.true so_far.stay so_far.number) in
    let pushed = c.in_ok-push.ensures in
    record {
      number = ap (λ n. n + 1) so_far.number;
      so_far = one_more c.loop-name.segments.units c.push.new.self.units c.in_ok-segment.segment.unit c.loop-name.name-index pushed.units so_far.so_far;
      takes = subst (λ us. Takes text_limit HasUnit (told_of (g.F.Store.file c.args.files.now) c.args.names.now) us) (sym pushed.units) next.0;
      segments = segments_more c.loop-name.segments c.push.new.self c.in_ok-segment.segment.unit c.in_ok-segment.segment.made so_far.segments next.1
          pushed.units pushed.layouts pushed.objects;
      same = (next.2.0 ∙ so_far.same.0, next.2.1 ∙ so_far.same.1);
      stay = λ n. c.in_ok-segment.ensures.stay n ∙ so_far.stay n;
    }

pub returns-in_err-segment-clause-taken : goal.returns-in_err-segment-clause-taken
returns-in_err-segment-clause-taken g c =
    let so_far = c.loop-name.invariant in
    units_stopped (told_of (g.F.Store.file c.args.files.now) c.args.names.now) c.loop-name.segments.units (counts_at (g.F.Store.faults c.args.files.now) (g.F.Store.absences c.args.files.now))
    (counts_at (g.F.Store.faults c.loop-name.files) (g.F.Store.absences c.loop-name.files))
    (counts_at (g.F.Store.faults c.read_unit.new.files) (g.F.Store.absences c.read_unit.new.files)) c.in_err-segment.field-0.0 c.from_residual.result so_far.same
    (c.in_err-segment.ensures.taken (told_of (g.F.Store.file c.args.files.now) c.args.names.now) c.loop-name.segments.units so_far.takes (so_far.so_far ∙ sym so_far.number)
    (told_now (g.F.Store.file c.args.files.now) (g.F.Store.file c.loop-name.files) c.args.names.now c.loop-name.name-index c.loop-name.number c.loop-name-test.true so_far.stay so_far.number)) c.from_residual.ensures.1

pub returns-in_err-push-clause-taken : goal.returns-in_err-push-clause-taken
returns-in_err-push-clause-taken g c =
    units_no_memory (told_of (g.F.Store.file c.args.files.now) c.args.names.now) c.loop-name.segments.units
    (counts_at (g.F.Store.faults c.args.files.now) (g.F.Store.absences c.args.files.now))
    (counts_at (g.F.Store.faults c.read_unit.new.files) (g.F.Store.absences c.read_unit.new.files)) c.in_err-push.field-0.0 c.from_residual-in_err-push.result
    c.loop-name.invariant.takes c.in_err-push.ensures.memory c.from_residual-in_err-push.ensures.1

pub returns-clause-taken : goal.returns-clause-taken
returns-clause-taken g c = (
  takes_all text_limit HasUnit (told_of (g.F.Store.file c.args.files.now) c.args.names.now) c.loop-name.segments.units c.loop-name.invariant.takes
      (all_names (g.F.Store.file c.args.files.now) c.args.names.now c.loop-name.segments.units c.loop-name.name-index c.loop-name.invariant.so_far (omega (arith, c.loop-name-test.false, c.loop-name.auto.name-index-end))),
  c.loop-name.invariant.segments,
  c.loop-name.invariant.same,
)
