use Rattle.std.proofs.Common.{◌≡◌, map, drop}
use Rattle.cw_link.specs.Contents.{contents_of}
use Rattle.cw_link.specs.LinkedImage.{code_end, linked_size, filled_from, linked_code}
use Rattle.cw_link.proofs.code.linked_code.Given as goal

abbrev pub invariant-loop-segment : goal.invariant-loop-segment
invariant-loop-segment l = record {
  end : code_end l.start (map contents_of (drop l.segment l.views)) ≡ linked_size (map contents_of l.views);
  filled : filled_from (map contents_of l.views) l.limits l.segment l.start (map contents_of (drop l.segment l.views)) l.code.items ≡ linked_code (map contents_of l.views) l.limits;
}
