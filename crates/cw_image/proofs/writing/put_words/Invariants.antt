use Rattle.std.proofs.Common.{◌≡◌, ◌++◌, drop}
use Rattle.cw_fields.specs.Fields.{each, word_bytes}
use Rattle.cw_image.proofs.writing.put_words.Given as goal

abbrev pub invariant-loop-word : goal.invariant-loop-word
invariant-loop-word l = l.out.items ++ each word_bytes (drop l.word-index l.words) ≡ l.fn.out.items ++ each word_bytes l.words
