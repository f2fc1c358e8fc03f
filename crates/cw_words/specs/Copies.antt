-- What words tell that are the command of `big` or of `trace`.
use Rattle.std.specs.Prelude.{◌≡◌, List, Some}
use Rattle.clap.specs.Walk.{Text}
use Rattle.cw_words.specs.Parts.{Parts, parts_of, copies_of, stop_of}

-- how many texts are made is told by the action and its WORDs
abbrev pub TellsCopies : Type 0
TellsCopies = (words : List Text) (parts : Parts) → parts_of words ≡ Some parts → copies_of parts.action parts.names ≡ Some parts.copies

-- where is reported is told by them too
abbrev pub TellsStop : Type 0
TellsStop = (words : List Text) (parts : Parts) → parts_of words ≡ Some parts → stop_of parts.action parts.names ≡ Some parts.stop
