use Rattle.std.proofs.Common.{◌≡◌, ◌++◌, drop}
use Rattle.cw_preset.specs.Strings.{characters_from}
use Rattle.cw_preset.proofs.strings.characters.Given as goal

abbrev pub invariant-loop-character : goal.invariant-loop-character
invariant-loop-character l = l.out ++ characters_from l.offset (drop l.character-index l.text) ≡ l.initial.out ++ characters_from 1 l.text
