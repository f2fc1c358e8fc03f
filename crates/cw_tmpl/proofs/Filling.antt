-- Filling the relocations in turn gives the code with its words filled.
use Rattle.std.proofs.Common.{◌≡◌, ℕ, ◌+◌, ◌*◌, ◌-◌, ◌/◌, ◌%◌, ◌≤◌, List, [], ◌∷◌, ◌++◌, length, set, refl, sym, ap, ◌∙◌, arith, append_assoc, length-append}
use Rattle.std.proofs.Math.Seq.{set-append_seam}
use Rattle.cw_i86.specs.Encoding.{bytes_of, word}
use Rattle.cw_unit.specs.declared.layout.Reloc.{Reloc}
use Rattle.cw_tmpl.specs.declared.pieces.Target.{Target}
use Rattle.cw_tmpl.specs.declared.pieces.Target.TheVariants as target
use Rattle.cw_tmpl.specs.declared.pieces.Coded.{Coded}
use Rattle.cw_tmpl.specs.declared.pieces.Coded.TheVariants as coded
use Rattle.cw_tmpl.specs.Pieces.{bytes_with, size_of, target_of, blanks, relocation_of, relocation_before, relocations, Filling, word_of, word_before, filled, fill}

pub place_of : (n : ℕ) (t : Target) → (relocation_of n t).place ≡ n
place_of n (target.Word family offset) = refl
place_of n (target.Bytes family offset) = refl
place_of n (target.Place add) = refl
place_of n (target.Definition d) = refl
place_of n (target.DefinitionAhead d) = refl
place_of n (target.Library k) = refl
place_of n (target.LibraryAhead k) = refl
place_of n (target.Limit l) = refl
place_of n target.NextSegment = refl

-- what is filled in does not hang on the place alone
word_anywhere : (value : Filling) (after n : ℕ) (t : Target) → word_of value after (relocation_of n t) ≡ word_of value after (relocation_of 0 t)
word_anywhere value after n (target.Word family offset) = refl
word_anywhere value after n (target.Bytes family offset) = refl
word_anywhere value after n (target.Place add) = refl
word_anywhere value after n (target.Definition d) = refl
word_anywhere value after n (target.DefinitionAhead d) = refl
word_anywhere value after n (target.Library k) = refl
word_anywhere value after n (target.LibraryAhead k) = refl
word_anywhere value after n (target.Limit l) = refl
word_anywhere value after n target.NextSegment = refl

two_set : (pre post : List ℕ) (x y n : ℕ) → n ≡ length pre → set (set (pre ++ 0 ∷ 0 ∷ post) n x) (n + 1) y ≡ (pre ++ x ∷ y ∷ []) ++ post
two_set pre post x y n e =
    let long : n + 1 ≡ length (pre ++ x ∷ []) = omega (arith, length-append pre (x ∷ [])) in
    ap (λ k. set (set (pre ++ 0 ∷ 0 ∷ post) k x) (n + 1) y) e
    ∙ ap (λ l. set l (n + 1) y) (set-append_seam pre 0 (0 ∷ post) x ∙ sym (append_assoc pre (x ∷ []) (0 ∷ post)))
    ∙ ap (λ k. set ((pre ++ x ∷ []) ++ 0 ∷ post) k y) long
    ∙ set-append_seam (pre ++ x ∷ []) 0 post y
    ∙ append_assoc pre (x ∷ []) (y ∷ post) ∙ sym (append_assoc pre (x ∷ y ∷ []) post)

-- one relocation
filled_word : (value : Filling) (base end : ℕ) (t : Target) (rs : List Reloc) (pre post : List ℕ) → 2 ≤ end → base + end ≡ length pre + 2
    → fill value base (relocation_of (end - 2) t ∷ rs) (pre ++ 0 ∷ 0 ∷ post)
    ≡ fill value base rs ((pre ++ (word_of value (base + end) (relocation_of 0 t) % 256) ∷ (word_of value (base + end) (relocation_of 0 t) / 256 % 256) ∷ []) ++ post)
filled_word value base end t rs pre post some e =
    let r = relocation_of (end - 2) t in
    let n = base + r.place in
    let w = word_of value (base + end) (relocation_of 0 t) in
    let code = pre ++ 0 ∷ 0 ∷ post in
    let place : n ≡ length pre = ap (λ k. base + k) (place_of (end - 2) t) ∙ (omega arith) in
    let after : n + 2 ≡ base + end = omega arith in
    let same : word_of value (n + 2) r ≡ w = word_anywhere value (n + 2) (end - 2) t ∙ ap (λ k. word_of value k (relocation_of 0 t)) after in
    ap (λ v. fill value base rs (set (set code n (v % 256)) (n + 1) (v / 256 % 256))) same
    ∙ ap (fill value base rs) (two_set pre post (w % 256) (w / 256 % 256) n place)

word_is : (value : Filling) (lead : List ℕ) (t : Target) (rs : List Reloc) (base at : ℕ) (pre post : List ℕ) → base + at ≡ length pre
    → fill value base (relocation_of (at + (length lead + 2) - 2) t ∷ rs) (pre ++ (lead ++ 0 ∷ 0 ∷ post))
    ≡ fill value base rs ((pre ++ (lead ++ (word_of value (base + (at + (length lead + 2))) (relocation_of 0 t) % 256) ∷ (word_of value (base + (at + (length lead + 2))) (relocation_of 0 t) / 256 % 256) ∷ [])) ++ post)
word_is value lead t rs base at pre post e =
    let end = at + (length lead + 2) in
    let w = word_of value (base + end) (relocation_of 0 t) in
    let some : 2 ≤ end = omega arith in
    let long : base + end ≡ length (pre ++ lead) + 2 = omega (arith, length-append pre lead) in
    ap (fill value base (relocation_of (end - 2) t ∷ rs)) (sym (append_assoc pre lead (0 ∷ 0 ∷ post)))
    ∙ filled_word value base end t rs (pre ++ lead) post some long
    ∙ ap (λ l. fill value base rs (l ++ post)) (append_assoc pre lead ((w % 256) ∷ (w / 256 % 256) ∷ []))

-- one piece
one_is : (value : Filling) (p : Coded) (rs : List Reloc) (base at : ℕ) (pre post : List ℕ) → base + at ≡ length pre
    → fill value base (relocation_before (at + size_of p) (target_of p) ++ rs) (pre ++ (bytes_with 0 p ++ post))
    ≡ fill value base rs ((pre ++ bytes_with (word_before value (base + (at + size_of p)) (target_of p)) p) ++ post)
one_is value (coded.Whole i) rs base at pre post e = ap (fill value base rs) (sym (append_assoc pre (bytes_of i) post))
one_is value (coded.Move reg t) rs base at pre post e = word_is value ((0xB8 + reg) ∷ []) t rs base at pre post e
one_is value (coded.Sum reg t) rs base at pre post e = word_is value (0x81 ∷ (64 * 3 + 8 * 0 + reg) ∷ []) t rs base at pre post e
one_is value (coded.Fetch reg t) rs base at pre post e = word_is value (0x8B ∷ (64 * 0 + 8 * reg + 6) ∷ []) t rs base at pre post e
one_is value (coded.Load t) rs base at pre post e = word_is value (0xA1 ∷ []) t rs base at pre post e
one_is value (coded.Store t) rs base at pre post e = word_is value (0xA3 ∷ []) t rs base at pre post e
one_is value (coded.PushCode t) rs base at pre post e = word_is value (0x2E ∷ 0xFF ∷ 0x36 ∷ []) t rs base at pre post e
one_is value (coded.Operate op reg t) rs base at pre post e = word_is value ((8 * op + 2 * 1 + 1) ∷ (64 * 0 + 8 * reg + 6) ∷ []) t rs base at pre post e
one_is value (coded.Change op reg t) rs base at pre post e = word_is value ((8 * op + 2 * 0 + 1) ∷ (64 * 0 + 8 * reg + 6) ∷ []) t rs base at pre post e
one_is value (coded.Call t) rs base at pre post e = word_is value (0xE8 ∷ []) t rs base at pre post e
one_is value (coded.Jump t) rs base at pre post e = word_is value (0xE9 ∷ []) t rs base at pre post e
one_is value (coded.Word t) rs base at pre post e = word_is value [] t rs base at pre post e
one_is value (coded.Data n) rs base at pre post e = ap (fill value base rs) (sym (append_assoc pre (word n) post))
one_is value (coded.Way t) rs base at pre post e = word_is value (0x2E ∷ 0xFF ∷ 0xA7 ∷ []) t rs base at pre post e

pub size_with : (w : ℕ) (p : Coded) → length (bytes_with w p) ≡ size_of p
size_with w (coded.Whole i) = refl
size_with w (coded.Move reg t) = refl
size_with w (coded.Sum reg t) = refl
size_with w (coded.Fetch reg t) = refl
size_with w (coded.Load t) = refl
size_with w (coded.Store t) = refl
size_with w (coded.PushCode t) = refl
size_with w (coded.Operate op reg t) = refl
size_with w (coded.Change op reg t) = refl
size_with w (coded.Call t) = refl
size_with w (coded.Jump t) = refl
size_with w (coded.Word t) = refl
size_with w (coded.Data n) = refl
size_with w (coded.Way t) = refl

pub filled_is : (value : Filling) (ps : List Coded) (base at : ℕ) (pre post : List ℕ) → base + at ≡ length pre
    → fill value base (relocations at ps) (pre ++ (blanks ps ++ post)) ≡ pre ++ (filled value (base + at) ps ++ post)
filled_is value [] base at pre post e = refl
filled_is value (p ∷ ps) base at pre post e =
    let end = at + size_of p in
    let B = bytes_with (word_before value (base + end) (target_of p)) p in
    let F = filled value (base + end) ps in
    let R = relocation_before end (target_of p) ++ relocations end ps in
    let long : base + end ≡ length (pre ++ B) = omega (arith, length-append pre B, size_with (word_before value (base + end) (target_of p)) p) in
    let place : base + end ≡ base + at + size_of p = omega arith in
    ap (λ l. fill value base R (pre ++ l)) (append_assoc (bytes_with 0 p) (blanks ps) post)
    ∙ one_is value p (relocations end ps) base at pre (blanks ps ++ post) e
    ∙ filled_is value ps base end (pre ++ B) post long
    ∙ append_assoc pre B (F ++ post)
    ∙ ap (λ l. pre ++ l) (sym (append_assoc B F post))
    ∙ ap (λ n. pre ++ ((bytes_with (word_before value n (target_of p)) p ++ filled value n ps) ++ post)) place

-- ---- many pieces

pub filled-append : (value : Filling) (at : ℕ) (ps qs : List Coded)
    → filled value at (ps ++ qs) ≡ filled value at ps ++ filled value (at + length (blanks ps)) qs
filled-append value at [] qs = ap (λ n. filled value n qs) (omega arith)
filled-append value at (p ∷ ps) qs =
    let end = at + size_of p in
    let B = bytes_with (word_before value end (target_of p)) p in
    let far : end + length (blanks ps) ≡ at + length (blanks (p ∷ ps)) = omega (arith, length-append (bytes_with 0 p) (blanks ps)) in
    ap (λ l. B ++ l) (filled-append value end ps qs)
    ∙ sym (append_assoc B (filled value end ps) (filled value (end + length (blanks ps)) qs))
    ∙ ap (λ n. (B ++ filled value end ps) ++ filled value n qs) far

pub length-filled : (value : Filling) (at : ℕ) (ps : List Coded) → length (filled value at ps) ≡ length (blanks ps)
length-filled value at [] = refl
length-filled value at (p ∷ ps) =
    let end = at + size_of p in
    let B = bytes_with (word_before value end (target_of p)) p in
    omega (arith, length-append B (filled value end ps), length-append (bytes_with 0 p) (blanks ps), size_with (word_before value end (target_of p)) p, length-filled value end ps)
