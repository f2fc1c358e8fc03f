use Rattle.std.proofs.Common.{◌≡◌, map, length}
use Rattle.cw_io.specs.File.{AllStay}
use Rattle.cw_compile.specs.Texts.{text_limit}
use Rattle.cw_files.specs.Texts.{HasUnit}
use Rattle.cw_files.specs.Reading.{counts_at, SameCounts, AreSegmentsOf}
use Rattle.cw_files.specs.Taking.{Takes}
use Rattle.cw_texts.proofs.texts.read_units.Given as goal

abbrev pub invariant-loop-name : goal.invariant-loop-name
invariant-loop-name g l = record {
  number : l.number ≡ l.name-index;
  so_far : length l.segments.units ≡ l.name-index;
  takes : Takes text_limit HasUnit (map (λ name. g.F.Store.file l.fn.files name.now) l.names) l.segments.units;
  segments : AreSegmentsOf l.segments.units l.segments;
  same : SameCounts (counts_at (g.F.Store.faults l.fn.files) (g.F.Store.absences l.fn.files)) (counts_at (g.F.Store.faults l.files) (g.F.Store.absences l.files));
  stay : AllStay (g.F.Store.file l.fn.files) (g.F.Store.file l.files);
}
