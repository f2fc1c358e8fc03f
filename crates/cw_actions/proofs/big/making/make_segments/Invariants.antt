use Rattle.std.proofs.Common.{◌≡◌, length}
use Rattle.cw_big.specs.LargeProgram.{first_texts}
use Rattle.cw_files.specs.Texts.{HasUnit}
use Rattle.cw_files.specs.Reading.{HaveValues, AreSegmentsOf}
use Rattle.cw_actions.proofs.big.making.make_segments.Given as goal

abbrev pub invariant-loop-before : goal.invariant-loop-before
invariant-loop-before l = record {
  units : HaveValues HasUnit (first_texts l.fn.copies l.before) l.segments.units;
  so_far : length l.segments.units ≡ l.before;
  segments : AreSegmentsOf l.segments.units l.segments;
}
