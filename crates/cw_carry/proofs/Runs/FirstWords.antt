-- The words of the first memory fit words.
use Rattle.std.proofs.Common.{ℕ, zero, suc, ◌+◌, List}
use Rattle.std.specs.Prelude.{All}
use Rattle.std.proofs.lemmas.List.Elements.{All-nil, All-cons}
use Rattle.cw_word.specs.FixedPoint.{FitsWord}
use Rattle.cw_word.specs.Word.{signed}
use Rattle.cw_unit.specs.declared.unit.Unit.{Unit as SourceUnit}
use Rattle.cw_unit.specs.declared.layout.Map.{Map}
use Rattle.cw_unit.specs.InitialMemory.{filled_words, word_filled, words_from, initial_memory}
use Rattle.cw_order.proofs.FittingWords.{signed-fits}

words-fit : (filled : List (ℕ × ℕ)) (a n : ℕ) → All FitsWord (words_from filled a n)
words-fit filled a zero = All-nil FitsWord
words-fit filled a (suc n) = All-cons FitsWord (signed (word_filled a filled)) (words_from filled (a + 1) n) (signed-fits (word_filled a filled)) (words-fit filled (a + 1) n)

pub memory-fits : (us : List SourceUnit) (m : Map) (area : ℕ) → All FitsWord (initial_memory us m area)
memory-fits us m area = words-fit (filled_words us m) 0 area
