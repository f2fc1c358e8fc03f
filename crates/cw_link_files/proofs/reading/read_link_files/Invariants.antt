use Rattle.std.proofs.Common.{◌≡◌, List, map, length}
use Rattle.cw_io.specs.File.{AllStay}
use Rattle.cw_files.specs.Texts.{object_limit}
use Rattle.cw_files.specs.Reading.{counts_at, SameCounts}
use Rattle.cw_files.specs.Taking.{Takes}
use Rattle.cw_link_files.specs.Parts.{Part, HasPart}
use Rattle.cw_link_files.specs.Taken.{AreFilesOf}
use Rattle.cw_link_files.proofs.reading.read_link_files.Given as goal

abbrev pub invariant-loop-name : goal.invariant-loop-name
invariant-loop-name g l = record {
  number : l.number ≡ l.name-index;
  parts : List Part;
  so_far : length parts ≡ l.name-index;
  takes : Takes object_limit HasPart (map (λ name. g.F.Store.file l.fn.files name.now) l.names) parts;
  are : AreFilesOf parts l.taken;
  same : SameCounts (counts_at (g.F.Store.faults l.fn.files) (g.F.Store.absences l.fn.files)) (counts_at (g.F.Store.faults l.files) (g.F.Store.absences l.files));
  stay : AllStay (g.F.Store.file l.fn.files) (g.F.Store.file l.files);
}
