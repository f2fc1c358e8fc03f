use Rattle.std.proofs.Common.{◌≡◌, ◌++◌, map, drop}
use Rattle.cw_tmpl.specs.Library.{library_bytes}
use Rattle.cw_link.specs.Contents.{contents_of}
use Rattle.cw_link.specs.LinkedImage.{joined_code}
use Rattle.cw_link.proofs.code.joined_code.Given as goal

abbrev pub invariant-loop-view : goal.invariant-loop-view
invariant-loop-view l = l.code.items ++ joined_code (map contents_of (drop l.view-index l.views)) ≡ library_bytes ++ joined_code (map contents_of l.views)
