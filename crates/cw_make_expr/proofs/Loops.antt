-- Trees that a loop builds from operands with an operator before each: one turn more, and the whole of them.
use Rattle.std.proofs.Common.{◌≡◌, ℕ, zero, suc, ◌+◌, ◌≤◌, ◌<◌, List, [], ◌∷◌, Result, sym, ap, ◌∙◌, map, length, take, drop, get_or, add-one, arith}
use Rattle.std.proofs.lemmas.List.{drop_all, take_rest}
use Rattle.std.proofs.lemmas.Result.{IfOk-weaker}
use Rattle.cw_scale.proofs.Turns.{behind_first, no_item, next_item}
use Rattle.cw_make_expr.specs.Nodes.{Makes}

pub one_more_signed : {A B O S : Type 0} (go : S → List B → List O → S) (step : S → O → B → S) → ((s : S) (b : B) (bs : List B) (o : O) (os : List O) → go s (b ∷ bs) (o ∷ os) ≡ go (step s o b) bs os)
    → (f : A → B) (xs : List A) (os : List O) (none : O) (i : ℕ) (x : A) (s s' end : S) → i < length xs → x ≡ get_or xs i x → 1 ≤ length os → s' ≡ step s (get_or os 0 none) (f x)
    → go s (map f (drop i xs)) os ≡ end → go s' (map f (drop (i + 1) xs)) (behind_first os) ≡ end
one_more_signed go step turn f xs [] none i x s s' end h e n e1 k = absurd (omega (arith, n))
one_more_signed go step turn f xs (o ∷ os) none i x s s' end h e n e1 k =
    let rest : behind_first (o ∷ os) ≡ os = take_rest (o ∷ os) 1 in
    ap (go s' (map f (drop (i + 1) xs))) rest ∙ ap (λ z. go z (map f (drop (i + 1) xs)) os) e1 ∙ sym (turn s (f x) (map f (drop (i + 1) xs)) o os)
    ∙ ap (λ l. go s (map f l) (o ∷ os)) (sym (next_item xs i x h e)) ∙ k

pub no_more_signed : {A B O S : Type 0} (go : S → List B → List O → S) → ((s : S) (os : List O) → go s [] os ≡ s) → (f : A → B) (xs : List A) (os : List O) (i : ℕ) (s end : S) → length xs ≤ i
    → go s (map f (drop i xs)) os ≡ end → s ≡ end
no_more_signed go stop f xs os i s end h k = sym (stop s os) ∙ ap (λ l. go s (map f l) os) (sym (drop_all i xs h)) ∙ k

pub no_more_signs : {A B O S : Type 0} (go : S → List B → List O → S) → ((s : S) (b : B) (bs : List B) → go s (b ∷ bs) [] ≡ s) → (f : A → B) (xs : List A) (os : List O) (i : ℕ) (x : A) (s end : S)
    → i < length xs → x ≡ get_or xs i x → length os < 1 → go s (map f (drop i xs)) os ≡ end → s ≡ end
no_more_signs go stop f xs os i x s end h e n k =
    sym (stop s (f x) (map f (drop (i + 1) xs))) ∙ ap (λ l. go s (map f l) []) (sym (next_item xs i x h e)) ∙ ap (λ l. go s (map f (drop i xs)) l) (sym (no_item os n)) ∙ k

-- ---- where a failure is kept until the end: what is made of the operands so far, if it can be

module _ {A B S : Type 0} (go : S → List B → S) (step : S → B → S) (turn : (s : S) (b : B) (bs : List B) → go s (b ∷ bs) ≡ go (step s b) bs) (stop : (s : S) → go s [] ≡ s)
    (f : A → B) where
  taken : (xs : List A) (i : ℕ) (x : A) (s : S) → i < length xs → x ≡ get_or xs i x → go s (map f (take (suc i) xs)) ≡ step (go s (map f (take i xs))) (f x)
  taken [] i x s h e = absurd (omega arith)
  taken (y ∷ ys) zero x s h e =
      turn s (f y) [] ∙ stop (step s (f y)) ∙ ap (λ z. step z (f y)) (sym (stop s)) ∙ ap (λ z. step (go s []) (f z)) (sym e)
  taken (y ∷ ys) (suc i) x s h e =
      turn s (f y) (map f (take (suc i) ys)) ∙ taken ys i x (step s (f y)) (omega arith) e ∙ ap (λ z. step z (f x)) (sym (turn s (f y) (map f (take i ys))))

  pub one_more_made : {E : Type 0} (xs : List A) (i : ℕ) (x : A) (s : S) (r : Result S E) → i < length xs → x ≡ get_or xs i x → Makes r (step (go s (map f (take i xs))) (f x))
      → Makes r (go s (map f (take (i + 1) xs)))
  one_more_made xs i x s r h e k = rw add-one (IfOk-weaker r _ _ (λ z j. j ∙ sym (taken xs i x s h e)) k)
