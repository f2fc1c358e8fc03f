use Rattle.std.proofs.Common.{◌≤◌, length, ◌-◌}
use Rattle.cw_listing.specs.Lines.{AreLinesBetween}
use Rattle.cw_listing.proofs.lines.lines_of.Given as goal

abbrev pub invariant-loop-place : goal.invariant-loop-place
invariant-loop-place l = record { within : l.place ≤ length l.code; told : AreLinesBetween l.code l.words.among 0 l.lines l.place }

abbrev pub decreases-loop-place : goal.decreases-loop-place
decreases-loop-place l = length l.code - l.place
