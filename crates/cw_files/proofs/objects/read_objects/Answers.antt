use Rattle.std.proofs.Common.{◌∙◌, ℕ, ◌+◌, List, length, refl, ap, sym, subst, arith}
use Rattle.cw_io.specs.File.{Told}
use Rattle.cw_files.specs.Texts.{HasObject, object_limit}
use Rattle.cw_files.specs.Reading.{counts_at}
use Rattle.cw_files.specs.Taking.{Takes}
use Rattle.cw_files.proofs.Taking.{told_of, told_now, one_more, takes_none, takes_all, all_names}
use Rattle.cw_files.proofs.Next.{objects_stopped, objects_no_memory}
use Rattle.cw_files.proofs.objects.read_objects.Goals as goal

pub loop-name-init : goal.loop-name-init
loop-name-init g c =
    let told : List Told = told_of (g.F.Store.file c.args.files.now) c.args.names.now in
    record {
      number = refl;
      so_far = ap (λ (xs : List (List ℕ)). length xs) c.new-objects.ensures;
      takes = subst (λ objects. Takes object_limit HasObject told objects) (sym c.new-objects.ensures) (takes_none object_limit HasObject told);
      same = (refl {a = g.F.Store.faults c.args.files.now}, refl {a = g.F.Store.absences c.args.files.now});
      stay = λ n. refl {a = g.F.Store.file c.args.files.now n};
    }

pub loop-name-preserved : goal.loop-name-preserved
loop-name-preserved g c =
    let so_far = c.loop-name.invariant in
    let next = c.in_ok-object.ensures.taken (told_of (g.F.Store.file c.args.files.now) c.args.names.now) c.loop-name.objects so_far.takes (so_far.so_far ∙ sym so_far.number)
    (told_now (g.F.Store.file c.args.files.now) (g.F.Store.file c.loop-name.files) c.args.names.now c.loop-name.name-index c.loop-name.number c.loop-name-test.true so_far.stay so_far.number) in
    record {
      number = ap (λ n. n + 1) so_far.number;
      so_far = one_more c.loop-name.objects c.add.new.items c.in_ok-object.object c.loop-name.name-index c.in_ok-add.ensures.ok so_far.so_far;
      takes = subst (λ objects. Takes object_limit HasObject (told_of (g.F.Store.file c.args.files.now) c.args.names.now) objects) (sym c.in_ok-add.ensures.ok) next.0;
      same = (next.1.0 ∙ so_far.same.0, next.1.1 ∙ so_far.same.1);
      stay = λ n. c.in_ok-object.ensures.stay n ∙ so_far.stay n;
    }

pub returns-in_err-object-clause-taken : goal.returns-in_err-object-clause-taken
returns-in_err-object-clause-taken g c =
    let so_far = c.loop-name.invariant in
    objects_stopped (told_of (g.F.Store.file c.args.files.now) c.args.names.now) c.loop-name.objects (counts_at (g.F.Store.faults c.args.files.now) (g.F.Store.absences c.args.files.now))
    (counts_at (g.F.Store.faults c.loop-name.files) (g.F.Store.absences c.loop-name.files))
    (counts_at (g.F.Store.faults c.read_object.new.files) (g.F.Store.absences c.read_object.new.files)) c.in_err-object.field-0.0 c.from_residual.result so_far.same
    (c.in_err-object.ensures.taken (told_of (g.F.Store.file c.args.files.now) c.args.names.now) c.loop-name.objects so_far.takes (so_far.so_far ∙ sym so_far.number)
    (told_now (g.F.Store.file c.args.files.now) (g.F.Store.file c.loop-name.files) c.args.names.now c.loop-name.name-index c.loop-name.number c.loop-name-test.true so_far.stay so_far.number)) c.from_residual.ensures.1

pub returns-in_err-add-clause-taken : goal.returns-in_err-add-clause-taken
returns-in_err-add-clause-taken g c =
    objects_no_memory (told_of (g.F.Store.file c.args.files.now) c.args.names.now) c.loop-name.objects
    (counts_at (g.F.Store.faults c.args.files.now) (g.F.Store.absences c.args.files.now))
    (counts_at (g.F.Store.faults c.read_object.new.files) (g.F.Store.absences c.read_object.new.files)) c.in_err-add.field-0.0 c.from_residual-in_err-add.result
    c.loop-name.invariant.takes c.in_err-add.ensures.memory c.from_residual-in_err-add.ensures.1

pub returns-clause-taken : goal.returns-clause-taken
returns-clause-taken g c = (
  takes_all object_limit HasObject (told_of (g.F.Store.file c.args.files.now) c.args.names.now) c.loop-name.objects c.loop-name.invariant.takes
      (all_names (g.F.Store.file c.args.files.now) c.args.names.now c.loop-name.objects c.loop-name.name-index c.loop-name.invariant.so_far (omega (arith, c.loop-name-test.false, c.loop-name.auto.name-index-end))),
  c.loop-name.invariant.same,
)
