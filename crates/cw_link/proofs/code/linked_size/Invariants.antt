use Rattle.std.proofs.Common.{◌≡◌, ◌<◌, ◌^◌, map, drop}
use Rattle.cw_place.specs.Placement.{told_words}
use Rattle.cw_link.specs.Contents.{contents_of}
use Rattle.cw_link.specs.LinkedImage.{code_end, linked_size}
use Rattle.cw_link.proofs.code.linked_size.Given as goal

abbrev pub invariant-loop-view : goal.invariant-loop-view
invariant-loop-view l = record {
  size : told_words (code_end l.size (map contents_of (drop l.view-index l.views))) ≡ told_words (linked_size (map contents_of l.views));
  small : l.size < 2 ^ 64;
}
