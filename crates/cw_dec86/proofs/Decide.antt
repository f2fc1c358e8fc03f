-- What the instruction at the front of bytes that zeros follow tells of the bytes alone.
use Rattle.std.proofs.Common.{◌≡◌, ℕ, zero, suc, ◌-◌, ◌≤◌, ◌<◌, true, List, [], ◌∷◌, ◌++◌, length, take, drop, Option, Some, None, refl, sym, ap, ◌∙◌, arith}
use Rattle.std.proofs.lemmas.List.{append-nil, take-append-drop, length-append}
use Rattle.std.proofs.lemmas.Bool.{false≢true}
use Rattle.std.specs.Option.{is_some}
use Rattle.cw_i86.specs.declared.instr.Instr.{Instr}
use Rattle.cw_i86.specs.Encoding.{bytes_of, IsInstr}
use Rattle.cw_dec86.specs.Rows.{instr_at, front}
use Rattle.cw_dec86.specs.declared.Decoded.{Decoded}
use Rattle.cw_dec86.specs.declared.Decoded.TheVariants.{Done, NeedMore, Unknown}
use Rattle.cw_dec86.specs.Decoding.{BeginsNone, GoesOn, Reads}
use Rattle.cw_i86.specs.Encoding.{BeginsWith}
use Rattle.cw_dec86.proofs.Again.{again}
use Rattle.cw_dec86.proofs.Heads.{front_keeps}

length-front : (n : ℕ) (bs : List ℕ) → length (front n bs) ≡ n
length-front zero bs = refl
length-front (suc n) bs = ap suc (length-front n (drop 1 bs))

front-take : (n : ℕ) (bs : List ℕ) → n ≤ length bs → front n bs ≡ take n bs
front-take zero bs h = refl
front-take (suc n) [] h = absurd (omega arith)
front-take (suc n) (b ∷ bs) h = ap (λ (t : List ℕ). b ∷ t) (front-take n bs (omega arith))

front-past : (n : ℕ) (bs : List ℕ) → length bs ≤ n → front n bs ≡ bs ++ front (n - length bs) []
front-past n [] h = let e : n - 0 ≡ n = omega arith in rw e refl
front-past zero (b ∷ bs) h = absurd (omega arith)
front-past (suc n) (b ∷ bs) h =
    let e : suc n - suc (length bs) ≡ n - length bs = omega arith in
    rw e (ap (λ (t : List ℕ). b ∷ t) (front-past n bs (omega arith)))

pub done : (bs : List ℕ) (i : Instr) (n : ℕ) → bytes_of i ≡ front n bs → n ≤ length bs → BeginsWith bs i × (n ≡ length (bytes_of i))
done bs i n e h =
    ((drop n bs, rw (e, front-take n bs h) (sym (take-append-drop n bs))), rw e (sym (length-front n bs)))

pub need_more : (bs : List ℕ) (i : Instr) (n : ℕ) → IsInstr i → instr_at bs ≡ Some i → bytes_of i ≡ front n bs → length bs < n → BeginsNone bs × GoesOn bs
need_more bs i n is found e h = (
  (λ j j-is (rest, begins).
      let j-found : instr_at bs ≡ Some j = rw begins (again j rest j-is) in
      let same : i ≡ j = cc in
      absurd (omega (arith, ap length begins, length-append (bytes_of j) rest, ap (λ i. length (bytes_of i)) same, ap length e, length-front n bs))),
  (i, is, front (n - length bs) [], ([], rw (append-nil, e, front-past n bs (omega arith)) refl)),
)

pub unknown : (bs : List ℕ) → instr_at bs ≡ None → GoesOn bs → ⊥
unknown bs lacks (i, is, more, (rest, begins)) =
    let found : instr_at (bs ++ more) ≡ Some i = rw begins (again i rest is) in
    let kept : is_some (instr_at bs) ≡ true = front_keeps bs more (ap is_some found) in
    false≢true (sym (ap is_some lacks) ∙ kept)

some_is : (i j : Instr) → ◌≡◌ {A = Option Instr} (Some i) (Some j) → i ≡ j
some_is i j e = cc

pub one : (i j : Instr) (rest others : List ℕ) → IsInstr i → IsInstr j → bytes_of i ++ rest ≡ bytes_of j ++ others → i ≡ j
one i j rest others p q e = some_is i j (sym (again i rest p) ∙ ap instr_at e ∙ again j others q)

-- what begins with an instruction has no other reading
pub again_done : (bs : List ℕ) (decoded : Decoded) (i : Instr) (rest : List ℕ) → IsInstr i → bs ≡ bytes_of i ++ rest → Reads bs decoded → decoded ≡ Done i (length (bytes_of i))
again_done bs (Done j n) i rest is begins (j-is, (others, j-begins), n-is) =
    let same : j ≡ i = one j i others rest j-is is (sym j-begins ∙ begins) in
    rw (n-is, same) refl
again_done bs NeedMore i rest is begins (lacks, _) = absurd (lacks i is (rest, begins))
again_done bs Unknown i rest is begins lacks = absurd (lacks (i, is, [], (rest, append-nil bs ∙ begins)))
