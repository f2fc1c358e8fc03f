-- The text that is written of code and words tells the state in which a program of them begins.
use Rattle.std.proofs.Common.{◌≡◌, ◌≢◌, ℕ, zero, suc, ◌+◌, ◌*◌, ◌/◌, ◌%◌, ◌^◌, ◌<◌, ◌≤◌, List, [], ◌∷◌, ◌++◌, false, Result, Ok, map, length, get_or, set, refl, ap, subst, ◌∙◌, arith}
use Rattle.std.specs.List.{AllByRecursion}
use Rattle.std.proofs.lemmas.List.{map-append, length-set, get_or-set_same, get_or-set_other}
use Rattle.cw_i86.specs.State.{State}
use Rattle.cw_i86.specs.MachineRun.{IsStart}
use Rattle.cw_hex.specs.declared.fault.HexFault.{HexFault}
use Rattle.cw_hex.specs.declared.reading.Reading.{Reading}
use Rattle.cw_hex.specs.HexFormat.{put_bytes, place_of}
use Rattle.cw_hex.specs.HexTold.{IsCleared, TellsHex}
use Rattle.cw_hex.specs.HexText.{record_line, record_bytes, base_record, all_pieces, word_bytes, words_records, last_records, hex_records, hex_text}
use Rattle.cw_hex.proofs.Records.{Bytes, Sound, step, with_data, all_told, lines_written}
use Rattle.cw_hex.proofs.Written.{length-word_bytes}
use Rattle.cw_hex.proofs.Fold.{lines_told, hex_told}
use Rattle.cw_hex.proofs.Faults.{OneStart, told_ok}
use Rattle.cw_hex.proofs.Cleared.{nothing_there, emptied, emptied_cleared}
use Rattle.cw_image.specs.declared.image.Image.{Image}
use Rattle.cw_image.specs.ImageFormat.{IsImage}

abbrev told : State → Result State HexFault
told s = Ok s

-- ---- the records of an image in order

end_told : (m : ℕ) (r : Reading) → r.is_ended ≡ false → lines_told m r (map record_line last_records) ≡ told (record r.cpu { code_segment = 0x1000; instruction_pointer = 0 })
end_told m r going =
    let place : Sound 3 0 (16 ∷ 0 ∷ 0 ∷ 0 ∷ []) = record { kind_small = omega arith; address_small = omega arith; short = omega arith; small = (omega arith, (omega arith, (omega arith, (omega arith, tt)))); fits = refl } in
    let last : Sound 1 0 [] = record { kind_small = omega arith; address_small = omega arith; short = omega arith; small = tt; fits = refl } in
    step m r 3 0 (16 ∷ 0 ∷ 0 ∷ 0 ∷ []) (record_line (record_bytes 1 0 []) ∷ []) place going
    ∙ step (m + 1) (record r { cpu = record r.cpu { code_segment = 0x1000; instruction_pointer = 0 } }) 1 0 [] [] last going

area_told : (m : ℕ) (r : Reading) (base : ℕ) (bytes : List ℕ) (lines : List (List ℕ)) → base < 65536 → Bytes bytes → length bytes ≤ 65536 → r.is_ended ≡ false
    → lines_told m r (record_line (base_record base) ∷ (map record_line (all_pieces bytes) ++ lines)) ≡ lines_told ((m + 1) + (length bytes + 15) / 16) (with_data (record r { base = base }) bytes) lines
area_told m r base bytes lines small b size going =
    let sound : Sound 2 0 (base / 256 ∷ base % 256 ∷ []) = record { kind_small = omega arith; address_small = omega arith; short = omega arith; small = (omega arith, (omega arith, tt)); fits = refl } in
    let word : 256 * (base / 256) + base % 256 ≡ base = omega arith in
    let behind = map record_line (all_pieces bytes) ++ lines in
    step m r 2 0 (base / 256 ∷ base % 256 ∷ []) behind sound going
    ∙ ap (λ (w : ℕ). lines_told (m + 1) (record r { base = w }) behind) word
    ∙ all_told (m + 1) (record r { base = base }) bytes lines b size going

abbrev pub begun : State → (code words : List ℕ) → State
begun s code words = record s { memory = put_bytes 0x2000 0 (word_bytes words) (put_bytes 0x1000 0 code s.memory); code_segment = 0x1000; instruction_pointer = 0 }

words_told : (m : ℕ) (r : Reading) (words : List ℕ) → Bytes (word_bytes words) → length (word_bytes words) ≤ 65536 → r.is_ended ≡ false
    → lines_told m r (map record_line (words_records words ++ last_records)) ≡ told (record r.cpu { memory = put_bytes 0x2000 0 (word_bytes words) r.cpu.memory; code_segment = 0x1000; instruction_pointer = 0 })
words_told m r [] b size going = end_told m r going
words_told m r (w ∷ ws) b size going =
    let bytes = word_bytes (w ∷ ws) in
    ap (λ (ls : List (List ℕ)). lines_told m r (record_line (base_record 0x2000) ∷ ls)) (map-append record_line (all_pieces bytes) last_records)
    ∙ area_told m r 0x2000 bytes (map record_line last_records) (omega arith) b size going
    ∙ end_told ((m + 1) + (length bytes + 15) / 16) (with_data (record r { base = 0x2000 }) bytes) going

whole_told : (s : State) (code words : List ℕ) → Bytes code → length code ≤ 65536 → Bytes (word_bytes words) → length (word_bytes words) ≤ 65536 → hex_told s (hex_text code words) ≡ told (begun s code words)
whole_told s code words b size wb wsize =
    let r : Reading = record { cpu = s; base = 0; is_ended = false } in
    let behind = words_records words ++ last_records in
    ap (λ (ls : List (List ℕ)). lines_told 1 r ls) (lines_written (hex_records code words))
    ∙ ap (λ (ls : List (List ℕ)). lines_told 1 r (record_line (base_record 0x1000) ∷ ls)) (map-append record_line (all_pieces code) behind)
    ∙ area_told 1 r 0x1000 code (map record_line behind) (omega arith) b size refl
    ∙ words_told ((1 + 1) + (length code + 15) / 16) (with_data (record r { base = 0x1000 }) code) words wb wsize refl

-- ---- memory

length-put : (base a : ℕ) (bs m : List ℕ) → length (put_bytes base a bs m) ≡ length m
length-put base a [] m = refl
length-put base a (x ∷ bs) m = length-put base (a + 1) bs (set m (place_of base a) x) ∙ length-set m (place_of base a) x

put_before : (base a : ℕ) (bs m : List ℕ) (i : ℕ) → base * 16 + 65536 ≤ 2 ^ 20 → a + length bs ≤ 65536 → i < base * 16 + a → get_or (put_bytes base a bs m) i 0 ≡ get_or m i 0
put_before base a [] m i hb ha h = refl
put_before base a (x ∷ bs) m i hb ha h =
    let place : place_of base a ≡ base * 16 + a = omega arith in
    let ne : i ≢ place_of base a = λ e. omega (arith, e, place) in
    put_before base (a + 1) bs (set m (place_of base a) x) i hb (omega arith) (omega arith) ∙ get_or-set_other m (place_of base a) i x 0 ne

put_behind : (base a : ℕ) (bs m : List ℕ) (i : ℕ) → base * 16 + 65536 ≤ 2 ^ 20 → a + length bs ≤ 65536 → base * 16 + (a + length bs) ≤ i → get_or (put_bytes base a bs m) i 0 ≡ get_or m i 0
put_behind base a [] m i hb ha h = refl
put_behind base a (x ∷ bs) m i hb ha h =
    let place : place_of base a ≡ base * 16 + a = omega arith in
    let ne : i ≢ place_of base a = λ e. omega (arith, e, place) in
    put_behind base (a + 1) bs (set m (place_of base a) x) i hb (omega arith) (omega arith) ∙ get_or-set_other m (place_of base a) i x 0 ne

put_inside : (base a : ℕ) (bs m : List ℕ) (k i : ℕ) → base * 16 + 65536 ≤ 2 ^ 20 → a + length bs ≤ 65536 → length m ≡ 2 ^ 20 → k < length bs → i ≡ base * 16 + (a + k) → get_or (put_bytes base a bs m) i 0 ≡ get_or bs k 0
put_inside base a [] m k i hb ha size h at = absurd (omega arith)
put_inside base a (x ∷ bs) m zero i hb ha size h at =
    let place : place_of base a ≡ i = omega (arith, at) in
    let within : place_of base a < length m = omega (arith, place, at, size) in
    put_before base (a + 1) bs (set m (place_of base a) x) i hb (omega arith) (omega (arith, at))
    ∙ subst (λ (j : ℕ). get_or (set m (place_of base a) x) j 0 ≡ x) place (get_or-set_same m (place_of base a) x 0 within)
put_inside base a (x ∷ bs) m (suc k) i hb ha size h at =
    put_inside base (a + 1) bs (set m (place_of base a) x) k i hb (omega arith) (length-set m (place_of base a) x ∙ size) (omega arith) (omega (arith, at))

low_byte : (ws : List ℕ) (k : ℕ) → k < length ws → get_or (word_bytes ws) (2 * k) 0 ≡ get_or ws k 0 % 256
low_byte [] k h = absurd (omega arith)
low_byte (w ∷ ws) zero h = refl
low_byte (w ∷ ws) (suc k) h = let even : 2 * suc k ≡ suc (suc (2 * k)) = omega arith in rw even (low_byte ws k (omega arith))

high_byte : (ws : List ℕ) (k : ℕ) → k < length ws → get_or (word_bytes ws) (2 * k + 1) 0 ≡ get_or ws k 0 / 256
high_byte [] k h = absurd (omega arith)
high_byte (w ∷ ws) zero h = refl
high_byte (w ∷ ws) (suc k) h = let odd : 2 * suc k + 1 ≡ suc (suc (2 * k + 1)) = omega arith in rw odd (high_byte ws k (omega arith))

is_begun : (s : State) (code words : List ℕ) → length code ≤ 65536 → length words ≤ 32768 → IsCleared s → IsStart code words (begun s code words)
is_begun s code words size wsize c =
    let ws = word_bytes words in
    let n = length-word_bytes words in
    let m = put_bytes 0x1000 0 code s.memory in
    let full_size : length m ≡ 2 ^ 20 = length-put 0x1000 0 code s.memory ∙ c.bytes in
    let wa : 0 + length ws ≤ 65536 = omega (arith, n) in
    let ca : 0 + length code ≤ 65536 = omega arith in
    let hb : 0x1000 * 16 + 65536 ≤ 2 ^ 20 = omega arith in
    let hw : 0x2000 * 16 + 65536 ≤ 2 ^ 20 = omega arith in
    record {
      bytes = length-put 0x2000 0 ws m ∙ full_size;
      below = λ a h. put_before 0x2000 0 ws m a hw wa (omega arith) ∙ put_before 0x1000 0 code s.memory a hb ca (omega arith) ∙ nothing_there s c a;
      code_bytes = λ k h. put_before 0x2000 0 ws m (0x10000 + k) hw wa (omega arith) ∙ put_inside 0x1000 0 code s.memory k (0x10000 + k) hb ca c.bytes h (omega arith);
      between = λ a h l. put_before 0x2000 0 ws m a hw wa (omega arith) ∙ put_behind 0x1000 0 code s.memory a hb ca (omega arith) ∙ nothing_there s c a;
      low_bytes = λ k h. put_inside 0x2000 0 ws m (2 * k) (0x20000 + 2 * k) hw wa full_size (omega (arith, n, h)) (omega arith) ∙ low_byte words k h;
      high_bytes = λ k h. put_inside 0x2000 0 ws m (2 * k + 1) (0x20000 + 2 * k + 1) hw wa full_size (omega (arith, n, h)) (omega arith) ∙ high_byte words k h;
      above = λ a h. put_behind 0x2000 0 ws m a hw wa (omega (arith, n, h)) ∙ put_behind 0x1000 0 code s.memory a hb ca (omega (arith, h)) ∙ nothing_there s c a;
      registers = c.registers;
      code_segment = refl;
      instruction_pointer = refl;
      flags = c.flags;
    }

-- ---- the law

bytes_from : (bs : List ℕ) → ((k : ℕ) → get_or bs k 0 < 256) → Bytes bs
bytes_from [] h = tt
bytes_from (b ∷ bs) h = (h 0, bytes_from bs (λ k. h (suc k)))

words_small : (ws : List ℕ) → AllByRecursion (λ (w : ℕ). w < 65536) ws → Bytes (word_bytes ws)
words_small [] h = tt
words_small (w ∷ ws) h =
    let small : w < 65536 = h.0 in
    (omega arith, (omega arith, words_small ws h.1))

pub written_begins : OneStart → (i : Image) (s : State) → IsImage i → ((k : ℕ) → get_or i.code k 0 < 256) → IsStart i.code i.words s → TellsHex (hex_text i.code i.words) s
written_begins same i s image b start =
    let clear = emptied_cleared i.code i.words s start in
    let n = length-word_bytes i.words in
    let few : length i.words ≤ 32768 = omega (arith, image.few_words, image.area) in
    told_ok (emptied s) (hex_text i.code i.words) s clear
    (whole_told (emptied s) i.code i.words (bytes_from i.code b) image.code (words_small i.words image.words) (omega (arith, n, few))
    ∙ ap told (same i.code i.words (begun (emptied s) i.code i.words) s (is_begun (emptied s) i.code i.words image.code few clear) start))
