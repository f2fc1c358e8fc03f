use Rattle.std.proofs.Common.{◌≡◌, ◌++◌, map, drop}
use Rattle.cw_link.specs.Contents.{contents_of}
use Rattle.cw_link.specs.LinkedImage.{spaces_of}
use Rattle.cw_link.proofs.contents.spaces_of.Given as goal

abbrev pub invariant-loop-view : goal.invariant-loop-view
invariant-loop-view l = l.spaces ++ spaces_of (map contents_of (drop l.view-index l.views)) ≡ spaces_of (map contents_of l.views)
