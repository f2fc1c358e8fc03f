use Rattle.std.proofs.Common.{◌≡◌, ◌++◌, ◌≤◌, drop}
use Rattle.cw_listing.specs.Remarks.{roots_from}
use Rattle.cw_listing.proofs.words.roots_of.Given as goal

abbrev pub invariant-loop-k : goal.invariant-loop-k
invariant-loop-k l = record { few : l.family ≤ l.k; told : l.roots ++ roots_from l.k l.family (drop l.k l.homes) ≡ roots_from 0 0 l.homes }
