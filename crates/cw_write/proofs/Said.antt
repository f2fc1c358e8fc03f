-- Pieces that are written one after the other.
use Rattle.std.proofs.Common.{◌≡◌, ℕ, zero, suc, ◌+◌, ◌<◌, ◌≤◌, List, [], ◌∷◌, ◌++◌, length, take, drop, get_or, Option, None, Some, Result, Ok, Err, refl, ap, arith, sym, ◌∙◌, append_assoc, append-nil, length-append}
use Rattle.std.proofs.lemmas.List.{take-append-le}
use Rattle.std.proofs.Math.Seq.{take-add, take-append-add, take-length}
use Rattle.std.specs.Borrow.{Bor}
use Rattle.cw_io.specs.Bytes.{after_told}
use Rattle.cw_write.specs.Said.{joined, Says, Writes}
use Rattle.cw_io.specs.declared.source.Failed.{Failed}

pub after_told-append : (told : Option (List ℕ)) (xs ys : List ℕ) → after_told (after_told told xs) ys ≡ after_told told (xs ++ ys)
after_told-append None xs ys = refl
after_told-append (Some held) xs ys = ap (λ bytes. Some bytes) (append_assoc held xs ys)

-- one more part of a piece
pub piece_goes_on : (told now next : Option (List ℕ)) (piece : List ℕ) (done count : ℕ) → now ≡ after_told told (take done piece)
    → next ≡ after_told now (take count (drop done piece)) → next ≡ after_told told (take (done + count) piece)
piece_goes_on told now next piece done count is more =
    more ∙ ap (λ t. after_told t (take count (drop done piece))) is ∙ after_told-append told _ _ ∙ ap (λ xs. after_told told xs) (sym (take-add done count piece))

take_within : (whole before piece after : List ℕ) (count : ℕ) → whole ≡ before ++ (piece ++ after) → count ≤ length piece
    → take (length before + count) whole ≡ before ++ take count piece
take_within whole before piece after count is few = rw (is, take-append-add, take-append-le) refl

joined_splits : (pieces : List (Bor (List ℕ))) (i : ℕ) (d : Bor (List ℕ)) → i < length pieces
    → joined pieces ≡ joined (take i pieces) ++ ((get_or pieces i d).now ++ joined (drop (suc i) pieces))
joined_splits [] i d within = absurd (omega arith)
joined_splits (piece ∷ pieces) zero d within = refl
joined_splits (piece ∷ pieces) (suc i) d within = rw (joined_splits pieces i d (omega arith), append_assoc) refl

-- a piece was cut short
pub line_is_cut : (told now next : Option (List ℕ)) (pieces : List (Bor (List ℕ))) (i count : ℕ) (d : Bor (List ℕ)) → i < length pieces
    → now ≡ after_told told (joined (take i pieces)) → count < length (get_or pieces i d).now → next ≡ after_told now (take count (get_or pieces i d).now)
    → (n : ℕ) × (n < length (joined pieces)) × (next ≡ after_told told (take n (joined pieces)))
line_is_cut told now next pieces i count d within is few more =
    let piece = (get_or pieces i d).now in
    let before = joined (take i pieces) in
    let after = joined (drop (suc i) pieces) in
    let splits = joined_splits pieces i d within in
    let whole = take_within (joined pieces) before piece after count splits (omega (arith, few)) in (
      length before + count,
      omega (arith, few, ap length splits, length-append before (piece ++ after), length-append piece after),
      more ∙ ap (λ t. after_told t (take count piece)) is ∙ after_told-append told _ _ ∙ ap (λ xs. after_told told xs) (sym whole),
    )

-- what was said, whatever the call answered
pub says : (told next : Option (List ℕ)) (faults faults' : ℕ) (text : List ℕ) (r : Result (Unit {0}) Failed)
    → Writes told next faults faults' text r → Says told next faults faults' text
says told next faults faults' text (Ok x) w = record {
  count = length text;
  said = w.ok ∙ ap (λ xs. after_told told xs) (sym (take-length text));
  later = w.later;
  cause = λ less. absurd (omega arith);
}
says told next faults faults' text (Err e) w = record {
  count = w.cut.0;
  said = w.cut.2;
  later = w.later;
  cause = λ less. w.err;
}

whole_text : (s t : List ℕ) (count : ℕ) → count ≤ length t → take (length s + count) (s ++ t) ≡ s ++ take count t
whole_text s t count few =
    let e : s ++ t ≡ s ++ (t ++ []) = ap (λ x. s ++ x) (sym (append-nil t)) in
    take_within (s ++ t) s t [] count e few

-- a text was written whole, and then another as the result says
pub writes_then : (old between new : Option (List ℕ)) (faults middle faults' : ℕ) (s t : List ℕ) (r : Result (Unit {0}) Failed)
    → between ≡ after_told old s → middle ≡ faults → Writes between new middle faults' t r → Writes old new faults faults' (s ++ t) r
writes_then old between new faults middle faults' s t (Ok x) is same w = record {
  later = omega (arith, w.later, same);
  ok = w.ok ∙ ap (λ told. after_told told t) is ∙ after_told-append old s t;
  ok_faults = w.ok_faults ∙ same;
  cut = tt;
  err = tt;
}
writes_then old between new faults middle faults' s t (Err e) is same w =
    let few : w.cut.0 ≤ length t = omega (arith, w.cut.1) in
    record {
      later = omega (arith, w.later, same);
      ok = tt;
      ok_faults = tt;
      cut = (
        length s + w.cut.0,
        omega (arith, w.cut.1, length-append s t),
        w.cut.2 ∙ ap (λ told. after_told told (take w.cut.0 t)) is ∙ after_told-append old s _ ∙ ap (λ xs. after_told old xs) (sym (whole_text s t w.cut.0 few)),
      );
      err = rw (sym same) w.err;
    }

-- A sink that failed in a first part failed in the whole.
pub writes_cut : (old new : Option (List ℕ)) (faults faults' : ℕ) (s t : List ℕ) (e : Failed)
    → Writes {E = Failed} old new faults faults' s (Err e) → Writes {E = Failed} old new faults faults' (s ++ t) (Err e)
writes_cut old new faults faults' s t e w =
    let n = w.cut.0 in
    let few : n ≤ length s = omega (arith, w.cut.1) in
    record {
      later = w.later;
      ok = tt;
      ok_faults = tt;
      cut = (n, omega (arith, w.cut.1, length-append s t), w.cut.2 ∙ ap (λ xs. after_told old xs) (sym (take-append-le n s t few)));
      err = w.err;
    }
