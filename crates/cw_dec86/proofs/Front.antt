-- The first bytes of a list, where zeros follow it without end.
use Rattle.std.proofs.Common.{◌≡◌, ℕ, zero, suc, ◌+◌, Bool, true, false, List, [], ◌∷◌, ◌++◌, drop, refl, sym, ap, ◌∙◌, arith, zero-add, ◌/◌, ◌%◌}
use Rattle.std.proofs.lemmas.List.{get_or-drop}
use Rattle.std.proofs.Math.Seq.{drop-nil}
use Rattle.std.specs.Prelude.{slice_index}
use Rattle.cw_i86.specs.declared.instr.Rm.{Rm}
use Rattle.cw_i86.specs.Encoding.{prefixed, with_rm}
use Rattle.cw_dec86.specs.Rows.{front}

drop_one : (n : ℕ) (bs : List ℕ) → drop (suc n) bs ≡ drop n (drop 1 bs)
drop_one n [] = sym (drop-nil n)
drop_one n (x ∷ xs) = refl

front-append : (n m : ℕ) (bs : List ℕ) → front n bs ++ front m (drop n bs) ≡ front (n + m) bs
front-append zero m bs = rw zero-add refl
front-append (suc n) m bs =
    let e : suc n + m ≡ suc (n + m) = omega arith in
    rw e (ap (λ (t : List ℕ). slice_index bs 0 ∷ t) (rw (drop_one n bs) (front-append n m (drop 1 bs))))

prefixed-append : (cs : Bool) (a b : List ℕ) → prefixed cs a ++ b ≡ prefixed cs (a ++ b)
prefixed-append true a b = refl
prefixed-append false a b = refl

-- the bytes of an operand, and those behind it
pub joined : (cs : Bool) (opcode m : ℕ) (rm : Rm) (bs b1 b2 x : List ℕ) (a s t : ℕ)
    → opcode ≡ slice_index bs 0 → m ≡ slice_index bs 1 → b1 ≡ drop 1 bs → s ≡ a → b2 ≡ drop (1 + s) bs
    → with_rm opcode (slice_index b1 0 / 8 % 8) rm ≡ prefixed cs (opcode ∷ front a b1)
    → x ≡ with_rm opcode (m / 8 % 8) rm ++ front t b2
    → x ≡ prefixed cs (front (1 + s + t) bs)
joined cs opcode m rm bs b1 b2 x a s t o m-is b1-is s-is b2-is e f =
    let second : slice_index b1 0 ≡ m = rw (b1-is, m-is) (get_or-drop 1 bs 0 0) in
    let at : with_rm opcode (m / 8 % 8) rm ≡ prefixed cs (opcode ∷ front s (drop 1 bs)) = rw (← second, s-is, ← b1-is) e in
    let one : 1 + s ≡ suc s = omega arith in
    let whole : opcode ∷ front s (drop 1 bs) ++ front t (drop (1 + s) bs) ≡ front (1 + s + t) bs = rw (one, o) (front-append (suc s) t bs) in
    f ∙ rw (at, b2-is, prefixed-append, whole) refl

-- an opcode, and the bytes behind it
pub joined_plain : (cs : Bool) (opcode : ℕ) (bs b1 x : List ℕ) (t : ℕ) → cs ≡ false → opcode ≡ slice_index bs 0 → b1 ≡ drop 1 bs
    → x ≡ opcode ∷ front t b1 → x ≡ prefixed cs (front (1 + t) bs)
joined_plain cs opcode bs b1 x t cs-is o b1-is e =
    let one : 1 + t ≡ suc t = omega arith in
    rw (cs-is, one, e, o, b1-is) refl
