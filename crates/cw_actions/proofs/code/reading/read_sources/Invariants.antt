use Rattle.std.proofs.Common.{◌≡◌, map, length}
use Rattle.cw_io.specs.File.{AllStay}
use Rattle.cw_files.specs.Reading.{counts_at, SameCounts}
use Rattle.cw_actions.specs.Coding.{Keeps}
use Rattle.cw_actions.proofs.code.reading.read_sources.Given as goal

abbrev pub invariant-loop-name : goal.invariant-loop-name
invariant-loop-name g l = record {
  number : l.number ≡ l.name-index;
  so_far : length l.sources.segments.units ≡ l.name-index;
  keeps : Keeps (map (λ name. g.F.Store.file l.fn.files name.now) l.names) l.sources;
  same : SameCounts (counts_at (g.F.Store.faults l.fn.files) (g.F.Store.absences l.fn.files)) (counts_at (g.F.Store.faults l.files) (g.F.Store.absences l.files));
  stay : AllStay (g.F.Store.file l.fn.files) (g.F.Store.file l.files);
}
