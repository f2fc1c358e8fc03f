-- A file that begins with a mark of four bytes and a version.
use Rattle.std.proofs.Common.{◌≡◌, ◌≢◌, ℕ, ◌-◌, ◌≤◌, min, Bool, true, false, not, List, ◌++◌, length, take, drop, refl, sym, ap, ◌∙◌, append_assoc, arith, inl, inr, ◌⊎◌}
use Rattle.std.proofs.lemmas.List.{take-append-drop, length-drop, drop-drop, take_all}
use Rattle.std.specs.Str.{bytes_eq}
use Rattle.std.proofs.lemmas.Slice.Eq.{bytes_eq-Decides}
use Rattle.byteorder.specs.Endian.{little_number, little_bytes}
use Rattle.cw_fields.specs.Spelling.{IsBytes}
use Rattle.cw_fields.proofs.Formats.{IsBytes-drop, two_back}

-- the rest of a slice from a place
pub tail_is : (bytes : List ℕ) (k : ℕ) → take (length bytes - k) (drop k bytes) ≡ drop k bytes
tail_is bytes k = take_all (length bytes - k) (drop k bytes) (omega (arith, length-drop k bytes))

eq_by : (b r : Bool) → r ≡ not b → r ≡ false → b ≡ true
eq_by true r e h = refl
eq_by false r e h = absurd cc

ne_by : (b r : Bool) → r ≡ not b → r ≡ true → b ≡ true → ⊥
ne_by true r e h t = cc
ne_by false r e h t = cc

take_short : (n : ℕ) (xs : List ℕ) (m : ℕ) → m ≤ length xs → (m ≡ n) ⊎ ((m ≡ length xs) × (length xs ≤ n)) → take n xs ≡ take m xs
take_short n xs m le (inl e) = ap (λ k. take k xs) (sym e)
take_short n xs m le (inr h) = take_all n xs h.1 ∙ sym (take_all m xs (omega (arith, h.0)))

min_is : (a b n : ℕ) → n ≡ min a b → (n ≤ a) × ((n ≡ b) ⊎ ((n ≡ a) × (a ≤ b))) × (n ≤ b) × ((n ≡ a) ⊎ ((n ≡ b) × (b ≤ a)))
min_is a b n e = (omega arith, grind arith, omega arith, grind arith)

-- As much of the mark as there are bytes for: what is compared, and what is said of it.
same_part : (mark bytes : List ℕ) (n : ℕ) → length mark ≡ 4 → n ≡ min (length bytes) 4 → (take n bytes ≡ take 4 bytes) × (take n mark ≡ take (length bytes) mark)
same_part mark bytes n four e =
    let m = min_is (length bytes) 4 n e in
    (sym (take_short 4 bytes n m.0 m.1), sym (take_short (length bytes) mark n (omega (arith, m.2, four)) (rw four m.3)))

pub other_mark : (mark bytes : List ℕ) (n : ℕ) (r : Bool) → length mark ≡ 4 → n ≡ min (length bytes) 4 → r ≡ not (bytes_eq (take n bytes) (take n mark)) → r ≡ true
    → take 4 bytes ≢ take (length bytes) mark
other_mark mark bytes n r four e is h same =
    let p = same_part mark bytes n four e in
    ne_by (bytes_eq (take n bytes) (take n mark)) r is h ((bytes_eq-Decides (take n bytes) (take n mark)).1 (p.0 ∙ same ∙ sym p.1))

pub same_mark : (mark bytes : List ℕ) (n : ℕ) (r : Bool) → length mark ≡ 4 → n ≡ min (length bytes) 4 → r ≡ not (bytes_eq (take n bytes) (take n mark)) → r ≡ false
    → take 4 bytes ≡ take (length bytes) mark
same_mark mark bytes n r four e is h =
    let p = same_part mark bytes n four e in
    sym p.0 ∙ (bytes_eq-Decides (take n bytes) (take n mark)).0 (eq_by (bytes_eq (take n bytes) (take n mark)) r is h) ∙ p.1

pub header_is : (mark bytes : List ℕ) (v : ℕ) → length mark ≡ 4 → IsBytes bytes → 6 ≤ length bytes → take 4 bytes ≡ take (length bytes) mark
    → v ≡ little_number 2 (take (length bytes - 4) (drop 4 bytes)) → bytes ≡ (mark ++ little_bytes 2 v) ++ drop 6 bytes
header_is mark bytes v four fits long same is =
    let all : take (length bytes) mark ≡ mark = take_all (length bytes) mark (omega (arith, four)) in
    let two : take 2 (drop 4 bytes) ≡ little_bytes 2 v = two_back (drop 4 bytes) (omega (arith, length-drop 4 bytes)) (IsBytes-drop 4 bytes fits) ∙ ap (little_bytes 2) (sym (is ∙ ap (little_number 2) (tail_is bytes 4))) in
    let rest : drop 4 bytes ≡ little_bytes 2 v ++ drop 6 bytes = sym (take-append-drop 2 (drop 4 bytes)) ∙ ap (λ r. take 2 (drop 4 bytes) ++ r) (drop-drop 2 4 bytes) ∙ ap (λ r. r ++ drop 6 bytes) two in
    sym (take-append-drop 4 bytes) ∙ ap (λ r. r ++ drop 4 bytes) (same ∙ all) ∙ ap (λ r. mark ++ r) rest ∙ sym (append_assoc mark (little_bytes 2 v) (drop 6 bytes))
