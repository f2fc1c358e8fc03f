use Rattle.std.proofs.Common.{◌≡◌, ◌++◌, ◌^◌, List, map, length, drop}
use Rattle.cw_link.specs.Contents.{contents_of}
use Rattle.cw_link.specs.Presets.{FilledWord}
use Rattle.cw_link.specs.Filled.{HasFilled}
use Rattle.cw_link.specs.LinkedImage.{presets_from}
use Rattle.cw_link.proofs.presets.fill_all.Given as goal

abbrev pub invariant-loop-segment : goal.invariant-loop-segment
invariant-loop-segment l = record {
  count : length l.filled.words.items ≡ 2 ^ 17;
  filled : (qs : List FilledWord) × HasFilled qs l.filled × (qs ++ presets_from l.segment l.fn.homes (map contents_of (drop l.segment l.views)) ≡ presets_from 0 l.fn.homes (map contents_of l.views));
}
