-- The operands of a term one after another.
use Rattle.std.proofs.Common.{◌≡◌, ℕ, zero, suc, ◌+◌, ◌≤◌, ◌<◌, max, List, [], ◌∷◌, length, map, drop, get_or, Option, false, refl, sym, ap, ap₂, ◌∙◌, arith}
use Rattle.std.specs.Prelude.{◌==◌}
use Rattle.std.proofs.lemmas.Bool.Decides.{nat_tests}
use Rattle.std.proofs.lemmas.List.{drop_all, drop_more, take_rest}
use Rattle.cw_tree.specs.declared.leaf.RawFactorSign.{RawFactorSign}
use Rattle.cw_scale.specs.declared.fault.Fault.{Fault}
use Rattle.cw_scale.specs.declared.scales.Shape.{Shape}
use Rattle.cw_scale.specs.Faults.{both}
use Rattle.cw_scale.specs.TypeRules.{Judged, factor_faults, scale_for, scale_before, chain_faults, term_faults}
use Rattle.cw_scale.proofs.Turns.{behind_first, first_and_rest, next_item}
use Rattle.cw_scale.proofs.Layers.{of_term}

-- an operand before others is evaluated at its own scale
among : (x : Judged) (xs : List Judged) (asked : ℕ) (signs : List RawFactorSign) → 1 ≤ length xs
    → term_faults asked (x ∷ xs) signs ≡ both (x.faults x.shape.operand) (chain_faults asked x.shape.operand x.shape.natural xs signs)
among x [] asked signs h = absurd (omega arith)
among x (y ∷ ys) asked signs h = refl

module _ {X : Type 0} (judged : X → Judged) where
  some_behind : (xs : List X) → 2 ≤ length xs → 1 ≤ length (map judged (behind_first xs))
  some_behind [] h = absurd (omega arith)
  some_behind (x ∷ []) h = absurd (omega arith)
  some_behind (x ∷ y ∷ ys) h = let e = ap (λ l. length (map judged l)) (take_rest (x ∷ y ∷ ys) 1) in omega arith

  pub head_judged : (j : Judged) (ops xs : List X) (signs all : List RawFactorSign) (head : X) (asked : ℕ) (shape : Shape) (before start : Option Fault)
      → j ≡ of_term (map judged ops) all → xs ≡ ops → signs ≡ all → 2 ≤ length xs → head ≡ get_or xs 0 head → shape ≡ (judged head).shape → start ≡ (judged head).faults shape.operand before
      → chain_faults asked shape.operand shape.natural (map judged (behind_first xs)) signs start ≡ j.faults asked before
  head_judged j ops xs signs all head asked shape before start e o q n g a b =
      let k = (judged head).shape in
      let rest = map judged (behind_first xs) in
      ap (λ (v : Shape). chain_faults asked v.operand v.natural rest signs start) a
      ∙ ap (chain_faults asked k.operand k.natural rest signs) (b ∙ ap (λ (v : Shape). (judged head).faults v.operand before) a)
      ∙ sym (ap (λ judge. judge before) (among (judged head) rest asked signs (some_behind xs n)))
      ∙ ap₂ (λ (l : List X) ss. term_faults asked (map judged l) ss before) (sym (first_and_rest xs head (omega arith) g) ∙ o) q
      ∙ ap (λ j. j.faults asked before) (sym e)

  -- the last operand is the one with none behind it
  scale_at : (xs : List X) (k asked n : ℕ) → k ≤ length xs → scale_before (map judged (drop k xs)) asked n ≡ scale_for (k == length xs) asked n
  scale_at [] zero asked n h = refl
  scale_at [] (suc k) asked n h = absurd (omega arith)
  scale_at (x ∷ xs) zero asked n h =
      let e : (0 == length (x ∷ xs)) ≡ false = grind (arith, nat_tests) in
      sym (ap (λ b. scale_for b asked n) e)
  scale_at (x ∷ xs) (suc k) asked n h =
      let e : (suc k == suc (length xs)) ≡ (k == length xs) = grind (arith, nat_tests) in
      scale_at xs k asked n (omega arith) ∙ sym (ap (λ b. scale_for b asked n) e)

  pub next_judged : (xs : List X) (x : X) (signs : List RawFactorSign) (none : RawFactorSign) (i asked f1 natural here n : ℕ) (shape : Shape) (before between last total : Option Fault)
      → i < length xs → x ≡ get_or xs i x → i < length signs → shape ≡ (judged x).shape → n ≡ max natural shape.natural → here ≡ scale_for (i + 1 == length xs) asked n
      → between ≡ (judged x).faults shape.operand before → last ≡ factor_faults (get_or signs i none) here f1 shape.operand between
      → chain_faults asked f1 natural (map judged (drop i xs)) (drop i signs) before ≡ total
      → chain_faults asked n n (map judged (drop (i + 1) xs)) (drop (i + 1) signs) last ≡ total
  next_judged xs x signs none i asked f1 natural here n shape before between last total h g w a b c d l t =
      let s = get_or signs i none in
      let k = (judged x).shape in
      let m = max natural k.natural in
      let rest = map judged (drop (i + 1) xs) in
      let more = drop (i + 1) signs in
      let n_is : n ≡ m = b ∙ ap (λ (v : Shape). max natural v.natural) a in
      let here_is : here ≡ scale_before rest asked m = c ∙ ap (scale_for (i + 1 == length xs) asked) n_is ∙ sym (scale_at xs (i + 1) asked m (omega arith)) in
      let between_is : between ≡ (judged x).faults k.operand before = d ∙ ap (λ (v : Shape). (judged x).faults v.operand before) a in
      let last_is : last ≡ factor_faults s (scale_before rest asked m) f1 k.operand ((judged x).faults k.operand before) =
      l ∙ ap₂ (λ (f : ℕ) (v : Shape). factor_faults s f f1 v.operand between) here_is a ∙ ap (factor_faults s (scale_before rest asked m) f1 k.operand) between_is in
      ap₂ (λ (f : ℕ) o. chain_faults asked f f rest more o) n_is last_is
      ∙ ap₂ (λ (l : List X) ss. chain_faults asked f1 natural (map judged l) ss before) (sym (next_item xs i x h g)) (sym (drop_more signs i none w))
      ∙ t

  pub no_operand : (xs : List X) (signs : List RawFactorSign) (i asked f1 natural : ℕ) (first total : Option Fault) → length xs ≤ i
      → chain_faults asked f1 natural (map judged (drop i xs)) signs first ≡ total → first ≡ total
  no_operand xs signs i asked f1 natural first total h t = ap (λ (l : List X). chain_faults asked f1 natural (map judged l) signs first) (sym (drop_all i xs h)) ∙ t

  pub no_sign : (xs : List X) (signs : List RawFactorSign) (i asked f1 natural : ℕ) (first total : Option Fault) → length signs ≤ i
      → chain_faults asked f1 natural (map judged xs) (drop i signs) first ≡ total → first ≡ total
  no_sign xs signs i asked f1 natural first total h t =
      none xs ∙ ap (λ ss. chain_faults asked f1 natural (map judged xs) ss first) (sym (drop_all i signs h)) ∙ t
    where
      none : (ys : List X) → first ≡ chain_faults asked f1 natural (map judged ys) [] first
      none [] = refl
      none (y ∷ ys) = refl
