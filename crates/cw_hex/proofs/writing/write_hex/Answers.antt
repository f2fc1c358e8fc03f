use Rattle.std.proofs.Common.{◌≡◌, ℕ, List, ◌++◌, subst}
use Rattle.std.specs.List.{flat_map}
use Rattle.cw_hex.specs.HexText.{record_text, all_pieces, words_records}
use Rattle.cw_hex.proofs.Written.{text_put}
use Rattle.cw_hex.proofs.writing.write_hex.Goals as goal

pub returns : goal.returns
returns c =
    text_put c.args.image.now.code c.args.image.now.words
    c.put_record.new.text.items c.put_pieces.new.text.items c.put_words.new.text.items c.put_record-2.new.text.items c.put_record-3.new.text.items
    (rw c.in_ok-put_record.ensures (rw c.new-text.ensures.items))
    (subst (λ (code : List ℕ). c.put_pieces.new.text.items ≡ c.put_record.new.text.items ++ flat_map record_text (all_pieces code)) c.as_slice.ensures c.in_ok-put_pieces.ensures)
    (subst (λ (words : List ℕ). c.put_words.new.text.items ≡ c.put_pieces.new.text.items ++ flat_map record_text (words_records words)) c.as_slice-2.ensures c.in_ok-put_words.ensures)
    c.in_ok-put_record-2.ensures c.in_ok-put_record-3.ensures
