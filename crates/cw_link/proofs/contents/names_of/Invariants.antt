use Rattle.std.proofs.Common.{◌≡◌, ◌++◌, map, drop}
use Rattle.cw_link.specs.Contents.{contents_of}
use Rattle.cw_link.proofs.contents.names_of.Given as goal

abbrev pub invariant-loop-view : goal.invariant-loop-view
invariant-loop-view l = l.names ++ map (λ c. c.name) (map contents_of (drop l.view-index l.views)) ≡ map (λ c. c.name) (map contents_of l.views)
