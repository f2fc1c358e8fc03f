use Rattle.std.proofs.Common.{◌≡◌, List}
use Rattle.cw_link.specs.Presets.{FilledWord}
use Rattle.cw_link.specs.Filled.{HasFilled}
use Rattle.cw_link.specs.LinkedImage.{words_from}
use Rattle.cw_link.proofs.words.data_words.Given as goal

abbrev pub invariant-loop-n : goal.invariant-loop-n
invariant-loop-n l = (ps : List FilledWord) → HasFilled ps l.fn.filled → l.words ≡ words_from 0 l.n ps
