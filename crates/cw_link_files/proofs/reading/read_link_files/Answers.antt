use Rattle.std.proofs.Common.{◌∙◌, ◌+◌, [], ◌∷◌, ◌++◌, refl, ap, sym, arith, length-append}
use Rattle.cw_files.specs.Texts.{object_limit}
use Rattle.cw_files.specs.Reading.{counts_at}
use Rattle.cw_files.proofs.Taking.{told_of, told_now, takes_none, takes_all, all_names}
use Rattle.cw_link_files.specs.Parts.{HasPart}
use Rattle.cw_link_files.proofs.Takings.{parts_stopped}
use Rattle.cw_link_files.proofs.reading.read_link_files.Goals as goal

pub loop-name-init : goal.loop-name-init
loop-name-init g c = record {
  number = refl;
  parts = [];
  so_far = refl;
  takes = takes_none object_limit HasPart (told_of (g.F.Store.file c.args.files.now) c.args.names.now);
  are = record { objects = c.new.ensures; members = c.new-2.ensures };
  same = (refl {a = g.F.Store.faults c.args.files.now}, refl {a = g.F.Store.absences c.args.files.now});
  stay = λ n. refl {a = g.F.Store.file c.args.files.now n};
}

pub loop-name-preserved : goal.loop-name-preserved
loop-name-preserved g c =
    let so_far = c.loop-name.invariant in
    let next = c.in_ok-read_link_file.ensures.taken (told_of (g.F.Store.file c.args.files.now) c.args.names.now) so_far.parts so_far.takes so_far.are (so_far.so_far ∙ sym so_far.number)
    (told_now (g.F.Store.file c.args.files.now) (g.F.Store.file c.loop-name.files) c.args.names.now c.loop-name.name-index c.loop-name.number c.loop-name-test.true so_far.stay so_far.number) in
    record {
      number = ap (λ n. n + 1) so_far.number;
      parts = so_far.parts ++ next.0 ∷ [];
      so_far = omega (arith, so_far.so_far, length-append so_far.parts (next.0 ∷ []));
      takes = next.1;
      are = next.2;
      same = (next.3.0 ∙ so_far.same.0, next.3.1 ∙ so_far.same.1);
      stay = λ n. c.in_ok-read_link_file.ensures.stay n ∙ so_far.stay n;
    }

pub returns-in_err-read_link_file-clause-taken : goal.returns-in_err-read_link_file-clause-taken
returns-in_err-read_link_file-clause-taken g c =
    let so_far = c.loop-name.invariant in
    parts_stopped (told_of (g.F.Store.file c.args.files.now) c.args.names.now) so_far.parts (counts_at (g.F.Store.faults c.args.files.now) (g.F.Store.absences c.args.files.now))
    (counts_at (g.F.Store.faults c.loop-name.files) (g.F.Store.absences c.loop-name.files))
    (counts_at (g.F.Store.faults c.read_link_file.new.files) (g.F.Store.absences c.read_link_file.new.files)) c.read_link_file.new.taken c.in_err-read_link_file.field-0.0 c.from_residual.result so_far.same
    (c.in_err-read_link_file.ensures.taken (told_of (g.F.Store.file c.args.files.now) c.args.names.now) so_far.parts so_far.takes so_far.are (so_far.so_far ∙ sym so_far.number)
    (told_now (g.F.Store.file c.args.files.now) (g.F.Store.file c.loop-name.files) c.args.names.now c.loop-name.name-index c.loop-name.number c.loop-name-test.true so_far.stay so_far.number)) c.from_residual.ensures.1

pub returns-clause-taken : goal.returns-clause-taken
returns-clause-taken g c =
    let so_far = c.loop-name.invariant in (
      so_far.parts,
      takes_all object_limit HasPart (told_of (g.F.Store.file c.args.files.now) c.args.names.now) so_far.parts so_far.takes
          (all_names (g.F.Store.file c.args.files.now) c.args.names.now so_far.parts c.loop-name.name-index so_far.so_far (omega (arith, c.loop-name-test.false, c.loop-name.auto.name-index-end))),
      so_far.are,
      so_far.same,
    )
