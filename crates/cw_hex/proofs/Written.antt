-- The text put together piece by piece.
use Rattle.std.proofs.Common.{◌≡◌, ℕ, ◌+◌, ◌-◌, ◌*◌, ◌/◌, ◌%◌, ◌<◌, List, [], ◌∷◌, ◌++◌, length, refl, sym, ap, ◌∙◌, append_assoc, add-one, arith}
use Rattle.std.proofs.lemmas.List.{flat_map_more, append-nil}
use Rattle.std.specs.List.{sum, flat_map}
use Rattle.cw_hex.proofs.Digits.{sum-cons}
use Rattle.cw_hex.specs.HexText.{digits_of, digit_of, checksum, record_text, record_bytes, pieces, piece, all_pieces, base_record, words_records, last_records, word_bytes, hex_text}

pub digits-append : (xs ys : List ℕ) → digits_of (xs ++ ys) ≡ digits_of xs ++ digits_of ys
digits-append [] ys = refl
digits-append (x ∷ xs) ys = ap (λ cs. digit_of (x / 16) ∷ digit_of (x % 16) ∷ cs) (digits-append xs ys)

pub check_is : (l h a k : ℕ) (bytes : List ℕ) (front back check : ℕ) → front ≡ sum (l ∷ h ∷ a ∷ k ∷ []) % 256 → back ≡ sum bytes % 256 → check ≡ (256 - (front + back) % 256) % 256
    → check ≡ checksum (l ∷ h ∷ a ∷ k ∷ bytes)
check_is l h a k bytes front back check f b c =
    let one = sum-cons l (h ∷ a ∷ k ∷ bytes) in
    let two = sum-cons h (a ∷ k ∷ bytes) in
    let three = sum-cons a (k ∷ bytes) in
    let four = sum-cons k bytes in
    let whole : sum (l ∷ h ∷ a ∷ k ∷ bytes) ≡ l + (h + (a + (k + sum bytes))) = omega (arith, one, two, three, four) in
    let same : (front + back) % 256 ≡ sum (l ∷ h ∷ a ∷ k ∷ bytes) % 256 = omega (arith, whole, f, b) in
    c ∙ ap (λ (s : ℕ). (256 - s) % 256) same

pub record_put : (old : List ℕ) (l h a k : ℕ) (bytes : List ℕ) (check : ℕ) → check ≡ checksum (l ∷ h ∷ a ∷ k ∷ bytes)
    → ((((old ++ 58 ∷ []) ++ digits_of (l ∷ h ∷ a ∷ k ∷ [])) ++ digits_of bytes) ++ digits_of (check ∷ [])) ++ 10 ∷ [] ≡ old ++ record_text (l ∷ h ∷ a ∷ k ∷ bytes)
unfolding record_text
record_put old l h a k bytes check is =
    let head = digits_of (l ∷ h ∷ a ∷ k ∷ []) in
    let end = digits_of (checksum (l ∷ h ∷ a ∷ k ∷ bytes) ∷ []) in
    let inner = digits-append bytes (checksum (l ∷ h ∷ a ∷ k ∷ bytes) ∷ []) in
    rw (is, inner) (
    append_assoc (((old ++ 58 ∷ []) ++ head) ++ digits_of bytes) end (10 ∷ [])
    ∙ append_assoc ((old ++ 58 ∷ []) ++ head) (digits_of bytes) (end ++ 10 ∷ [])
    ∙ append_assoc (old ++ 58 ∷ []) head (digits_of bytes ++ (end ++ 10 ∷ []))
    ∙ append_assoc old (58 ∷ []) (head ++ (digits_of bytes ++ (end ++ 10 ∷ [])))
    ∙ ap (λ cs. old ++ (58 ∷ head ++ cs)) (sym (append_assoc (digits_of bytes) end (10 ∷ []))))

pub pieces_put : (old text text' : List ℕ) (k : ℕ) (bytes p : List ℕ) → p ≡ piece k bytes → text ≡ old ++ flat_map record_text (pieces k bytes) → text' ≡ text ++ record_text (record_bytes 0 (16 * k) p)
    → text' ≡ old ++ flat_map record_text (pieces (k + 1) bytes)
pieces_put old text text' k bytes p is so_far put =
    rw (put, so_far, is, add-one) (flat_map_more record_text old (pieces k bytes) (record_bytes 0 (16 * k) (piece k bytes)))

pub length-word_bytes : (ws : List ℕ) → length (word_bytes ws) ≡ 2 * length ws
length-word_bytes [] = refl
length-word_bytes (w ∷ ws) = let h = length-word_bytes ws in omega (arith, h)

flat-append : (xs ys : List (List ℕ)) → flat_map record_text (xs ++ ys) ≡ flat_map record_text xs ++ flat_map record_text ys
flat-append [] ys = refl
flat-append (x ∷ xs) ys = ap (λ cs. record_text x ++ cs) (flat-append xs ys) ∙ sym (append_assoc (record_text x) (flat_map record_text xs) (flat_map record_text ys))

pub text_put : (code words t1 t2 t3 t4 t5 : List ℕ) → t1 ≡ [] ++ record_text (base_record 0x1000) → t2 ≡ t1 ++ flat_map record_text (all_pieces code) → t3 ≡ t2 ++ flat_map record_text (words_records words)
    → t4 ≡ t3 ++ record_text (record_bytes 3 0 (16 ∷ 0 ∷ 0 ∷ 0 ∷ [])) → t5 ≡ t4 ++ record_text (record_bytes 1 0 []) → t5 ≡ hex_text code words
text_put code words t1 t2 t3 t4 t5 a b c d e =
    let base = record_text (base_record 0x1000) in
    let code_text = flat_map record_text (all_pieces code) in
    let words_text = flat_map record_text (words_records words) in
    let place = record_text (record_bytes 3 0 (16 ∷ 0 ∷ 0 ∷ 0 ∷ [])) in
    let last = record_text (record_bytes 1 0 []) in
    let end : flat_map record_text last_records ≡ place ++ last = ap (λ cs. place ++ cs) (append-nil last) in
    let whole = flat-append (base_record 0x1000 ∷ all_pieces code) (words_records words ++ last_records) in
    let behind = flat-append (words_records words) last_records in
    rw (e, d, c, b, a) (
    append_assoc ((base ++ code_text) ++ words_text) place last
    ∙ append_assoc (base ++ code_text) words_text (place ++ last)
    ∙ ap (λ cs. (base ++ code_text) ++ (words_text ++ cs)) (sym end)
    ∙ ap (λ cs. (base ++ code_text) ++ cs) (sym behind)
    ∙ sym whole)
