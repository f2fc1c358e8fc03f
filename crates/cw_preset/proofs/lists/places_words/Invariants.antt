use Rattle.std.proofs.Common.{◌≡◌, ◌++◌, drop}
use Rattle.cw_preset.specs.Lists.{places_words}
use Rattle.cw_preset.proofs.lists.places_words.Given as goal

abbrev pub invariant-loop-place : goal.invariant-loop-place
invariant-loop-place l = l.words ++ places_words l.scale l.offset (drop l.place-index l.places) ≡ places_words l.scale 0 l.places
