-- What stands at a place of the bytes.
use Rattle.std.proofs.Common.{◌≡◌, ℕ, suc, ◌+◌, ◌-◌, ◌^◌, ◌<◌, ◌≤◌, ◌≢◌, Bool, true, false, ◌&&◌, leb, List, [], ◌∷◌, ◌++◌, length, get_or, take, drop, refl, sym, ap, subst, ◌∙◌, add-one, drop-cons, arith, inl, inr}
use Rattle.std.proofs.lemmas.Bool.{lt-leb}
use Rattle.std.proofs.lemmas.List.{take-append-drop, length-drop, length-take, drop-drop, nil_from_length}
use Rattle.byteorder.specs.Endian.{little_number, little_bytes}
use Rattle.cw_view.specs.declared.fault.ObjFault.TheVariants.{BadVersion, Truncated, BadRecord}
use Rattle.cw_view.specs.ObjectFormat.{Record, last_kind, can_follow, is_complete, FailsBehind, no_end, out_of_order, cut, IsFirstObjectFault, other_version, header}
use Rattle.cw_view.specs.Fronts.{HasRecord}
use Rattle.cw_fields.specs.Spelling.{IsBytes}
use Rattle.cw_fields.proofs.Formats.{IsBytes-drop, four_back}

pub part_is : (bytes : List ℕ) (at n : ℕ) → take (at + n - at) (drop at bytes) ≡ take n (drop at bytes)
part_is bytes at n = let e : at + n - at ≡ n = omega arith in rw e refl

pub fails_at_end : (v last : ℕ) (bytes : List ℕ) (at : ℕ) → last ≢ 255 → at ≤ length bytes → length bytes - at ≡ 0
    → (before : List Record) → last_kind before ≡ last → FailsBehind v before at (length bytes) (drop at bytes) (Truncated (length bytes))
fails_at_end v last bytes at open_ within none before is =
    let e : drop at bytes ≡ [] = nil_from_length (drop at bytes) (omega (arith, length-drop at bytes)) in
    subst (λ (rest : List ℕ). FailsBehind v before at (length bytes) rest (Truncated (length bytes))) (sym e) (no_end (λ h. open_ (sym is ∙ h)))

pub cell : (bytes : List ℕ) (at : ℕ) → at < length bytes → drop at bytes ≡ get_or bytes at 0 ∷ drop (suc at) bytes
cell bytes at h = drop-cons bytes at 0 h

pub fails_out_of_order : (v last : ℕ) (bytes : List ℕ) (at : ℕ) → last ≢ 255 → at < length bytes → can_follow v last (get_or bytes at 0) ≡ false
    → (before : List Record) → last_kind before ≡ last → FailsBehind v before at (length bytes) (drop at bytes) (BadRecord at)
fails_out_of_order v last bytes at open_ within wrong before is =
    subst (λ (rest : List ℕ). FailsBehind v before at (length bytes) rest (BadRecord at)) (sym (cell bytes at within))
    (out_of_order (λ h. open_ (sym is ∙ h)) (ap (λ k. can_follow v k (get_or bytes at 0)) is ∙ wrong))

pub fails_cut : (v last : ℕ) (bytes : List ℕ) (at : ℕ) → at < length bytes → can_follow v last (get_or bytes at 0) ≡ true → is_complete (drop at bytes) ≡ false
    → (before : List Record) → last_kind before ≡ last → FailsBehind v before at (length bytes) (drop at bytes) (Truncated (length bytes))
fails_cut v last bytes at within right short before is =
    subst (λ (rest : List ℕ). FailsBehind v before at (length bytes) rest (Truncated (length bytes))) (sym (cell bytes at within))
    (cut (ap (λ k. can_follow v k (get_or bytes at 0)) is ∙ right) (ap is_complete (sym (cell bytes at within)) ∙ short))

and_false : (a b : Bool) → b ≡ false → (a && b) ≡ false
and_false true b h = h
and_false false b h = refl

pub short_head : (bytes : List ℕ) (at : ℕ) → at ≤ length bytes → length bytes - at < 5 → is_complete (drop at bytes) ≡ false
short_head bytes at within short =
    ap (λ b. b && leb (5 + little_number 4 (drop 1 (drop at bytes))) (length (drop at bytes))) (lt-leb _ _ (omega (arith, length-drop at bytes)))

pub short_payload : (bytes : List ℕ) (at : ℕ) → at ≤ length bytes → length bytes - at - 5 < little_number 4 (drop (at + 1) bytes) → 5 ≤ length bytes - at → is_complete (drop at bytes) ≡ false
short_payload bytes at within short head =
    let size : little_number 4 (drop 1 (drop at bytes)) ≡ little_number 4 (drop (at + 1) bytes) = ap (little_number 4) (drop-drop 1 at bytes) in
    and_false (leb 5 (length (drop at bytes))) _ (lt-leb _ _ (omega (arith, length-drop at bytes, size)))

pub has_record : (v last : ℕ) (bytes : List ℕ) (at size : ℕ) → IsBytes bytes → at ≤ length bytes → 5 ≤ length bytes - at → can_follow v last (get_or bytes at 0) ≡ true
    → size ≡ little_number 4 (drop (at + 1) bytes) → size ≤ length bytes - at - 5 → size < 2 ^ 32 → HasRecord v last bytes at (get_or bytes at 0) size
has_record v last bytes at size fits within head right size_is there short =
    let rest1 : drop (suc at) bytes ≡ drop (at + 1) bytes = ap (λ k. drop k bytes) (sym (add-one at)) in
    let four : take 4 (drop (at + 1) bytes) ≡ little_bytes 4 size = four_back (drop (at + 1) bytes) (omega (arith, length-drop (at + 1) bytes)) (IsBytes-drop (at + 1) bytes fits) ∙ ap (little_bytes 4) (sym size_is) in
    let rest5 : drop 4 (drop (at + 1) bytes) ≡ drop (at + 5) bytes = drop-drop 4 (at + 1) bytes ∙ ap (λ k. drop k bytes) (omega arith) in
    let rest : drop size (drop (at + 5) bytes) ≡ drop (at + 5 + size) bytes = drop-drop size (at + 5) bytes ∙ ap (λ k. drop k bytes) (omega arith) in
    let payload = take size (drop (at + 5) bytes) in
    let len : length payload ≡ size = omega (arith, length-take size (drop (at + 5) bytes), length-drop (at + 5) bytes) in
    let second : drop (at + 5) bytes ≡ payload ++ drop (at + 5 + size) bytes = sym (take-append-drop size (drop (at + 5) bytes)) ∙ ap (λ r. payload ++ r) rest in
    let first : drop (at + 1) bytes ≡ little_bytes 4 size ++ drop (at + 5) bytes = sym (take-append-drop 4 (drop (at + 1) bytes)) ∙ ap (λ r. take 4 (drop (at + 1) bytes) ++ r) rest5 ∙ ap (λ r. r ++ drop (at + 5) bytes) four in
    record {
      in_order = right;
      within = omega arith;
      short = short;
      is =
          cell bytes at (omega arith) ∙ ap (λ r. get_or bytes at 0 ∷ r) (rest1 ∙ first ∙ ap (λ r. little_bytes 4 size ++ r) second ∙ ap (λ n. little_bytes 4 n ++ (payload ++ drop (at + 5 + size) bytes)) (sym len));
    }

-- ---- the header

pub other_version_is : (bytes : List ℕ) (v : ℕ) → bytes ≡ header v ++ drop 6 bytes → v ≢ 1 → v ≢ 2 → v < 65536 → IsFirstObjectFault bytes BadVersion
other_version_is bytes v is one two short = other_version is short (λ h. elim h [ inl e ↦ one e | inr e ↦ two e ])
