-- A record that is written is read back.
use Rattle.std.proofs.Common.{◌≡◌, ℕ, zero, suc, ◌+◌, ◌*◌, ◌/◌, ◌%◌, ◌<◌, ◌≤◌, List, [], ◌∷◌, ◌++◌, Bool, true, false, cond, Option, Some, None, ◌&&◌, eqb, map, length, take, drop, refl, sym, ap, subst, ◌∙◌, append_assoc, arith}
use Rattle.std.specs.Prelude.{nat_lt, not, slice_set}
use Rattle.std.proofs.lemmas.Bool.{ne_eqb, eq-eqb}
use Rattle.std.proofs.lemmas.List.{take_at, take_all, length-take, length-take-le, map-append}
use Rattle.std.specs.List.{sum, flat_map, list_all}
use Rattle.cw_hex.specs.declared.fault.HexFault.{HexFault}
use Rattle.cw_hex.specs.declared.fault.HexFault.TheVariants.{BadLine, BadSum, BadType}
use Rattle.cw_hex.specs.declared.reading.Reading.{Reading}
use Rattle.cw_hex.specs.HexFormat.{is_digit, digit_value, bytes_of, lines_of, grown, line_fault, fits_type, after_record, put_bytes, place_of, is_record, record_fault, length_of, type_of}
use Rattle.cw_hex.proofs.Fold.{lines_told, or_fault}
use Rattle.cw_hex.specs.HexText.{digit_of, digits_of, checksum, record_line, record_text, record_bytes, pieces, piece, all_pieces}
use Rattle.cw_hex.proofs.Digits.{sum-cons}

-- a digit is one, and has its value
digit_read : (n : ℕ) → n < 16 → (is_digit (digit_of n) ≡ true) × (digit_value (digit_of n) ≡ n)
unfolding is_digit digit_value digit_of
digit_read zero h = (refl, refl)
digit_read (suc zero) h = (refl, refl)
digit_read (suc (suc zero)) h = (refl, refl)
digit_read (suc (suc (suc zero))) h = (refl, refl)
digit_read (suc (suc (suc (suc zero)))) h = (refl, refl)
digit_read (suc (suc (suc (suc (suc zero))))) h = (refl, refl)
digit_read (suc (suc (suc (suc (suc (suc zero)))))) h = (refl, refl)
digit_read (suc (suc (suc (suc (suc (suc (suc zero))))))) h = (refl, refl)
digit_read (suc (suc (suc (suc (suc (suc (suc (suc zero)))))))) h = (refl, refl)
digit_read (suc (suc (suc (suc (suc (suc (suc (suc (suc zero))))))))) h = (refl, refl)
digit_read (suc (suc (suc (suc (suc (suc (suc (suc (suc (suc zero)))))))))) h = (refl, refl)
digit_read (suc (suc (suc (suc (suc (suc (suc (suc (suc (suc (suc zero))))))))))) h = (refl, refl)
digit_read (suc (suc (suc (suc (suc (suc (suc (suc (suc (suc (suc (suc zero)))))))))))) h = (refl, refl)
digit_read (suc (suc (suc (suc (suc (suc (suc (suc (suc (suc (suc (suc (suc zero))))))))))))) h = (refl, refl)
digit_read (suc (suc (suc (suc (suc (suc (suc (suc (suc (suc (suc (suc (suc (suc zero)))))))))))))) h = (refl, refl)
digit_read (suc (suc (suc (suc (suc (suc (suc (suc (suc (suc (suc (suc (suc (suc (suc zero))))))))))))))) h = (refl, refl)
digit_read (suc (suc (suc (suc (suc (suc (suc (suc (suc (suc (suc (suc (suc (suc (suc (suc n)))))))))))))))) h = absurd (omega arith)

ft : false ≡ true → ⊥
ft e = cc

tf : {A : Type 0} → false ≡ true → A
tf e = absurd (ft e)

over : (b : Bool) (n : ℕ) → 48 ≤ cond b (48 + n) (55 + n)
over true n = omega arith
over false n = omega arith

digit_over : (n : ℕ) → 48 ≤ digit_of n
unfolding digit_of
digit_over n = over (nat_lt n 10) n

-- characters that end no line
abbrev pub Plain : List ℕ → Type 0
Plain [] = Unit {0}
Plain (c ∷ cs) = (eqb c 10 ≡ false) × (eqb c 13 ≡ false) × Plain cs

plain_digits : (bs : List ℕ) → Plain (digits_of bs)
plain_digits [] = tt
plain_digits (b ∷ bs) =
    let h = digit_over (b / 16) in
    let l = digit_over (b % 16) in (
      ne_eqb (digit_of (b / 16)) 10 (λ e. omega (arith, h, e)),
      ne_eqb (digit_of (b / 16)) 13 (λ e. omega (arith, h, e)),
      (ne_eqb (digit_of (b % 16)) 10 (λ e. omega (arith, l, e)), ne_eqb (digit_of (b % 16)) 13 (λ e. omega (arith, l, e)), plain_digits bs),
    )

plain_line : (cs rest : List ℕ) → Plain cs → lines_of (cs ++ 10 ∷ rest) ≡ cs ∷ lines_of rest
plain_line [] rest h = refl
plain_line (c ∷ cs) rest h = rw (h.0, h.1) (ap (grown c) (plain_line cs rest h.2))

colon_line : (bs rest : List ℕ) → lines_of ((58 ∷ digits_of bs) ++ 10 ∷ rest) ≡ (58 ∷ digits_of bs) ∷ lines_of rest
colon_line bs rest = plain_line (58 ∷ digits_of bs) rest (refl, refl, plain_digits bs)

pub lines_written : (rs : List (List ℕ)) → lines_of (flat_map record_text rs) ≡ map record_line rs
unfolding record_text
lines_written [] = refl
lines_written (r ∷ rs) =
    ap lines_of (append_assoc (record_line r) (10 ∷ []) (flat_map record_text rs))
    ∙ colon_line (r ++ checksum r ∷ []) (flat_map record_text rs)
    ∙ ap (λ ls. record_line r ∷ ls) (lines_written rs)

-- ---- the bytes

abbrev pub Bytes : List ℕ → Type 0
Bytes [] = Unit {0}
Bytes (b ∷ bs) = (b < 256) × Bytes bs

pub bytes_append : (xs ys : List ℕ) → Bytes xs → Bytes ys → Bytes (xs ++ ys)
bytes_append [] ys a b = b
bytes_append (x ∷ xs) ys a b = (a.0, bytes_append xs ys a.1 b)

pub bytes_take : (n : ℕ) (xs : List ℕ) → Bytes xs → Bytes (take n xs)
bytes_take zero xs h = tt
bytes_take (suc n) [] h = tt
bytes_take (suc n) (x ∷ xs) h = (h.0, bytes_take n xs h.1)

pub bytes_drop : (n : ℕ) (xs : List ℕ) → Bytes xs → Bytes (drop n xs)
bytes_drop zero xs h = h
bytes_drop (suc n) [] h = tt
bytes_drop (suc n) (x ∷ xs) h = bytes_drop n xs h.1

spelled : (bs : List ℕ) → Bytes bs → bytes_of (digits_of bs) ≡ bs
spelled [] h = refl
spelled (b ∷ bs) h =
    let small : b < 256 = h.0 in
    let one = (digit_read (b / 16) (omega arith)).1 in
    let two = (digit_read (b % 16) (omega arith)).1 in
    let byte : 16 * digit_value (digit_of (b / 16)) + digit_value (digit_of (b % 16)) ≡ b = omega (arith, one, two) in
    rw byte (ap (λ (cs : List ℕ). b ∷ cs) (spelled bs h.1))

all_digits : (bs : List ℕ) → Bytes bs → list_all is_digit (digits_of bs) ≡ true
all_digits [] h = refl
all_digits (b ∷ bs) h =
    let small : b < 256 = h.0 in
    let one = (digit_read (b / 16) (omega arith)).0 in
    let two = (digit_read (b % 16) (omega arith)).0 in
    rw (one, two) (all_digits bs h.1)

length-digits : (bs : List ℕ) → length (digits_of bs) ≡ 2 * length bs
length-digits [] = refl
length-digits (b ∷ bs) = let h = length-digits bs in omega (arith, h)

sum-push : (bs : List ℕ) (c : ℕ) → sum (bs ++ c ∷ []) ≡ sum bs + c
sum-push [] c = omega arith
sum-push (b ∷ bs) c =
    let h = sum-push bs c in
    let one = sum-cons b (bs ++ c ∷ []) in
    let two = sum-cons b bs in
    omega (arith, h, one, two)

summed : (bs : List ℕ) → sum (bs ++ checksum bs ∷ []) % 256 ≡ 0
summed bs = let h = sum-push bs (checksum bs) in omega (arith, h)

length-push : (bs : List ℕ) (c : ℕ) → length (bs ++ c ∷ []) ≡ length bs + 1
length-push [] c = refl
length-push (b ∷ bs) c = let h = length-push bs c in omega (arith, h)

check_small : (bs : List ℕ) → checksum bs < 256
check_small bs = omega arith

-- ---- a record

-- its bytes with the checksum
abbrev pub full : (kind address : ℕ) → List ℕ → List ℕ
full kind address bytes = record_bytes kind address bytes ++ checksum (record_bytes kind address bytes) ∷ []

pub record Sound (kind address : ℕ) (bytes : List ℕ) : Type 0 where
  pub kind_small : kind < 256
  pub address_small : address < 65536
  pub short : length bytes ≤ 255
  pub small : Bytes bytes
  pub fits : fits_type kind (length bytes) ≡ true

full_bytes : (kind address : ℕ) (bytes : List ℕ) → Sound kind address bytes → Bytes (full kind address bytes)
full_bytes kind address bytes s =
    let size : length bytes < 256 = omega (arith, s.short) in
    let high : address / 256 < 256 = omega (arith, s.address_small) in
    let low : address % 256 < 256 = omega arith in
    (size, (high, (low, (s.kind_small, bytes_append bytes (checksum (record_bytes kind address bytes) ∷ []) s.small (check_small (record_bytes kind address bytes), tt)))))

passes : {A : Type 0} (test : Bool) (fault : A) (next : Option A) → test ≡ true → next ≡ None → cond (not test) (Some fault) next ≡ None
passes true fault next h e = e
passes false fault next h e = tf h

and_true : (a b : Bool) → a ≡ true → b ≡ true → (a && b) ≡ true
and_true true b h k = k
and_true false b h k = h

fault_free : (n : ℕ) (ds bytes : List ℕ) → bytes_of ds ≡ bytes → list_all is_digit ds ≡ true → length ds ≡ 2 * (5 + length_of bytes) → sum bytes % 256 ≡ 0 → fits_type (type_of bytes) (length_of bytes) ≡ true
    → line_fault false n (58 ∷ ds) ≡ None
fault_free n ds bytes e digits size zero_sum fits =
    let size' = subst (λ (bs : List ℕ). length ds ≡ 2 * (5 + length_of bs)) (sym e) size in
    let zero' = subst (λ (bs : List ℕ). sum bs % 256 ≡ 0) (sym e) zero_sum in
    let fits' = subst (λ (bs : List ℕ). fits_type (type_of bs) (length_of bs) ≡ true) (sym e) fits in
    let same = eq-eqb (length ds) (2 * (5 + length_of (bytes_of ds))) size' in
    passes (is_record (58 ∷ ds)) (BadLine n) (record_fault false n (bytes_of ds)) (and_true (list_all is_digit ds) (eqb (length ds) (2 * (5 + length_of (bytes_of ds)))) digits same)
    (passes (eqb (sum (bytes_of ds) % 256) 0) (BadSum n) _ (eq-eqb (sum (bytes_of ds) % 256) 0 zero')
    (passes (fits_type (type_of (bytes_of ds)) (length_of (bytes_of ds))) (BadType n) None fits' refl))

step_on : (n : ℕ) (r : Reading) (ds bytes : List ℕ) (lines : List (List ℕ)) → line_fault false n (58 ∷ ds) ≡ None → r.is_ended ≡ false → bytes_of ds ≡ bytes
    → lines_told n r ((58 ∷ ds) ∷ lines) ≡ lines_told (n + 1) (after_record bytes r) lines
step_on n r ds bytes lines none going spelling =
    let none' = subst (λ (e : Bool). line_fault e n (58 ∷ ds) ≡ None) (sym going) none in
    ap (λ (o : Option HexFault). or_fault o (lines_told (n + 1) (after_record (bytes_of ds) r) lines)) none'
    ∙ ap (λ (bs : List ℕ). lines_told (n + 1) (after_record bs r) lines) spelling

pub step : (n : ℕ) (r : Reading) (kind address : ℕ) (bytes : List ℕ) (lines : List (List ℕ)) → Sound kind address bytes → r.is_ended ≡ false
    → lines_told n r (record_line (record_bytes kind address bytes) ∷ lines) ≡ lines_told (n + 1) (after_record (full kind address bytes) r) lines
step n r kind address bytes lines s going =
    let whole = full kind address bytes in
    let b = full_bytes kind address bytes s in
    let spelling = spelled whole b in
    let size : length (digits_of whole) ≡ 2 * (5 + length bytes) = omega (arith, length-digits whole, length-push bytes (checksum (record_bytes kind address bytes))) in
    step_on n r (digits_of whole) whole lines
    (fault_free n (digits_of whole) whole spelling (all_digits whole b) size (summed (record_bytes kind address bytes)) s.fits)
    going spelling

-- ---- what the records do

pub data_put : (r : Reading) (address : ℕ) (bytes : List ℕ) → after_record (full 0 address bytes) r ≡ record r { cpu = record r.cpu { memory = put_bytes r.base address bytes r.cpu.memory } }
data_put r address bytes =
    let word : 256 * (address / 256) + address % 256 ≡ address = omega arith in
    let front = take_at bytes (checksum (record_bytes 0 address bytes) ∷ []) (length bytes) refl in
    ap (λ (a : ℕ). record r { cpu = record r.cpu { memory = put_bytes r.base a (take (length bytes) (bytes ++ checksum (record_bytes 0 address bytes) ∷ [])) r.cpu.memory } }) word
    ∙ ap (λ (bs : List ℕ). record r { cpu = record r.cpu { memory = put_bytes r.base address bs r.cpu.memory } }) front

-- bytes put at the addresses from 0 on
abbrev pub with_data : Reading → List ℕ → Reading
with_data r bytes = record r { cpu = record r.cpu { memory = put_bytes r.base 0 bytes r.cpu.memory } }

put-append : (base a : ℕ) (xs ys m : List ℕ) → put_bytes base a (xs ++ ys) m ≡ put_bytes base (a + length xs) ys (put_bytes base a xs m)
put-append base a [] ys m = let z : a + 0 ≡ a = omega arith in rw z refl
put-append base a (x ∷ xs) ys m =
    let n : a + suc (length xs) ≡ (a + 1) + length xs = omega arith in
    rw n (put-append base (a + 1) xs ys (slice_set m (place_of base a) x))

abbrev nothing : List ℕ
nothing = []

take_nil : (n : ℕ) → take n (nothing) ≡ nothing
take_nil zero = refl
take_nil (suc n) = refl

take-add : (n k : ℕ) (xs : List ℕ) → take (n + k) xs ≡ take n xs ++ take k (drop n xs)
take-add zero k xs = let z : 0 + k ≡ k = omega arith in rw z refl
take-add (suc n) k [] = take_nil (suc n + k) ∙ sym (take_nil k)
take-add (suc n) k (x ∷ xs) = let z : suc n + k ≡ suc (n + k) = omega arith in rw z (ap (λ (ys : List ℕ). x ∷ ys) (take-add n k xs))

more_data : (r : Reading) (n : ℕ) (bytes : List ℕ) → 16 * n ≤ length bytes
    → after_record (full 0 (16 * n) (piece n bytes)) (with_data r (take (16 * n) bytes)) ≡ with_data r (take (16 * suc n) bytes)
more_data r n bytes h =
    let t : 16 * suc n ≡ 16 * n + 16 = omega arith in
    let l : length (take (16 * n) bytes) ≡ 16 * n = length-take-le (16 * n) bytes h in
    let at : 0 + length (take (16 * n) bytes) ≡ 16 * n = omega (arith, l) in
    let m = put_bytes r.base 0 (take (16 * n) bytes) r.cpu.memory in
    data_put (with_data r (take (16 * n) bytes)) (16 * n) (piece n bytes)
    ∙ ap (λ (ms : List ℕ). record r { cpu = record r.cpu { memory = ms } })
    (ap (λ (a : ℕ). put_bytes r.base a (piece n bytes) m) (sym at)
    ∙ sym (put-append r.base 0 (take (16 * n) bytes) (piece n bytes) r.cpu.memory)
    ∙ ap (λ (bs : List ℕ). put_bytes r.base 0 bs r.cpu.memory) (sym (take-add (16 * n) 16 bytes))
    ∙ ap (λ (k : ℕ). put_bytes r.base 0 (take k bytes) r.cpu.memory) (sym t))

sound_piece : (n : ℕ) (bytes : List ℕ) → Bytes bytes → length bytes ≤ 65536 → 16 * n < length bytes → Sound 0 (16 * n) (piece n bytes)
sound_piece n bytes b size h =
    let t = length-take 16 (drop (16 * n) bytes) in
    record { kind_small = omega arith; address_small = omega arith; short = omega (arith, t); small = bytes_take 16 (drop (16 * n) bytes) (bytes_drop (16 * n) bytes b); fits = refl }

pieces_told : (n m : ℕ) (r : Reading) (bytes : List ℕ) (lines : List (List ℕ)) → Bytes bytes → length bytes ≤ 65536 → 16 * n < length bytes + 16 → r.is_ended ≡ false
    → lines_told m r (map record_line (pieces n bytes) ++ lines) ≡ lines_told (m + n) (with_data r (take (16 * n) bytes)) lines
pieces_told zero m r bytes lines b size h going = let z : m + 0 ≡ m = omega arith in rw z refl
pieces_told (suc n) m r bytes lines b size h going =
    let last = record_line (record_bytes 0 (16 * n) (piece n bytes)) in
    let inside : 16 * n < length bytes = omega arith in
    let z : m + suc n ≡ (m + n) + 1 = omega arith in
    ap (λ (ls : List (List ℕ)). lines_told m r (ls ++ lines)) (map-append record_line (pieces n bytes) (record_bytes 0 (16 * n) (piece n bytes) ∷ []))
    ∙ ap (λ (ls : List (List ℕ)). lines_told m r ls) (append_assoc (map record_line (pieces n bytes)) (last ∷ []) lines)
    ∙ pieces_told n m r bytes (last ∷ lines) b size (omega arith) going
    ∙ step (m + n) (with_data r (take (16 * n) bytes)) 0 (16 * n) (piece n bytes) lines (sound_piece n bytes b size inside) going
    ∙ ap (λ (q : Reading). lines_told ((m + n) + 1) q lines) (more_data r n bytes (omega arith))
    ∙ ap (λ (k : ℕ). lines_told k (with_data r (take (16 * suc n) bytes)) lines) (sym z)

pub all_told : (m : ℕ) (r : Reading) (bytes : List ℕ) (lines : List (List ℕ)) → Bytes bytes → length bytes ≤ 65536 → r.is_ended ≡ false
    → lines_told m r (map record_line (all_pieces bytes) ++ lines) ≡ lines_told (m + (length bytes + 15) / 16) (with_data r bytes) lines
all_told m r bytes lines b size going =
    let n = (length bytes + 15) / 16 in
    let t = take_all (16 * n) bytes (omega arith) in
    pieces_told n m r bytes lines b size (omega arith) going
    ∙ ap (λ (bs : List ℕ). lines_told (m + n) (with_data r bs) lines) t
