-- Loops that go over the operands of a rule, whatever the rule: the first of a list, one turn more, and the end.
use Rattle.std.proofs.Common.{◌≡◌, ℕ, suc, ◌+◌, ◌-◌, ◌≤◌, ◌<◌, List, [], ◌∷◌, refl, sym, ap, ◌∙◌, map, length, take, drop, get_or, arith}
use Rattle.std.proofs.lemmas.List.{drop_all, drop_more, take_rest}

-- what stands behind the first item
abbrev pub behind_first : {A : Type 0} → List A → List A
behind_first all = take (length all - 1) (drop 1 all)

pub no_item : {A : Type 0} (xs : List A) → length xs < 1 → xs ≡ []
no_item [] h = refl
no_item (x ∷ xs) h = absurd (omega arith)

pub only_item : {A : Type 0} (xs : List A) (x : A) → length xs ≡ 1 → x ≡ get_or xs 0 x → xs ≡ x ∷ []
only_item [] x h e = absurd (omega arith)
only_item (y ∷ []) x h e = ap (λ z. z ∷ []) (sym e)
only_item (y ∷ z ∷ zs) x h e = absurd (omega arith)

pub first_and_rest : {A : Type 0} (all : List A) (first : A) → 1 ≤ length all → first ≡ get_or all 0 first → all ≡ first ∷ behind_first all
first_and_rest [] first h e = absurd (omega arith)
first_and_rest (x ∷ xs) first h e = ap (λ y. y ∷ xs) (sym e) ∙ ap (λ l. first ∷ l) (sym (take_rest (x ∷ xs) 1))

pub length_map : {A B : Type 0} (f : A → B) (xs : List A) → length (map f xs) ≡ length xs
length_map f [] = refl
length_map f (x ∷ xs) = ap suc (length_map f xs)

pub next_item : {A : Type 0} (xs : List A) (i : ℕ) (x : A) → i < length xs → x ≡ get_or xs i x → drop i xs ≡ x ∷ drop (i + 1) xs
next_item xs i x h e = drop_more xs i x h ∙ ap (λ y. y ∷ drop (i + 1) xs) (sym e)

pub one_more : {A B S : Type 0} (go : S → List B → S) (step : S → B → S) → ((s : S) (b : B) (bs : List B) → go s (b ∷ bs) ≡ go (step s b) bs)
    → (f : A → B) (xs : List A) (i : ℕ) (x : A) (s s' end : S) → i < length xs → x ≡ get_or xs i x → s' ≡ step s (f x)
    → go s (map f (drop i xs)) ≡ end → go s' (map f (drop (i + 1) xs)) ≡ end
one_more go step turn f xs i x s s' end h e e1 k =
    ap (λ z. go z (map f (drop (i + 1) xs))) e1 ∙ sym (turn s (f x) (map f (drop (i + 1) xs))) ∙ ap (λ l. go s (map f l)) (sym (next_item xs i x h e)) ∙ k

pub none_more : {A B S : Type 0} (go : S → List B → S) → ((s : S) → go s [] ≡ s) → (f : A → B) (xs : List A) (i : ℕ) (s end : S) → length xs ≤ i
    → go s (map f (drop i xs)) ≡ end → s ≡ end
none_more go stop f xs i s end h k = sym (stop s) ∙ ap (λ l. go s (map f l)) (sym (drop_all i xs h)) ∙ k
