use Rattle.std.proofs.Common.{◌≡◌, ◌++◌, List, map, length}
use Rattle.cw_view.specs.Reading.{preset_in}
use Rattle.cw_view.specs.Splitting.{payloads_left}
use Rattle.cw_link.specs.Contents.{values_in, records_of}
use Rattle.cw_link.specs.Presets.{FilledWord}
use Rattle.cw_link.specs.Filled.{HasFilled}
use Rattle.cw_link.specs.LinkedImage.{filled_word}
use Rattle.cw_link.proofs.presets.fill_presets.Given as goal

abbrev pub invariant-loop-payload : goal.invariant-loop-payload
invariant-loop-payload l = record {
  count : length l.filled.words.items ≡ length l.fn.filled.words.items;
  filled : (ps : List FilledWord) → HasFilled ps l.fn.filled
      → (qs : List FilledWord) × HasFilled qs l.filled × (qs ++ map (filled_word l.segment l.homes) (values_in preset_in (payloads_left l.payload-iterator)) ≡ ps ++ map (filled_word l.segment l.homes) (records_of preset_in 5 l.fn.view));
}
