-- Lists that are added to: by a part, by parts one after another, and by a loop over parts.
use Rattle.std.proofs.Common.{◌≡◌, ◌≤◌, ◌<◌, ◌+◌, ℕ, List, [], ◌∷◌, ◌++◌, length, drop, get_or, sym, ap, ◌∙◌, append_assoc, append-nil}
use Rattle.std.proofs.lemmas.List.{drop_all, drop_more}
use Rattle.std.proofs.lemmas.Result.{on_ok_weaker}
use Rattle.std.specs.Prelude.{Result, OnOk}

-- what is added is the whole
pub as_whole : {A : Type 0} (whole part o0 o1 : List A) → whole ≡ part → o1 ≡ o0 ++ part → o1 ≡ o0 ++ whole
as_whole whole part o0 o1 is e = e ∙ ap (λ l. o0 ++ l) (sym is)

pub passed_on : {A T E : Type 0} (r : Result T E) (whole part o0 o1 : List A) → whole ≡ part → OnOk r (o1 ≡ o0 ++ part) → OnOk r (o1 ≡ o0 ++ whole)
passed_on r whole part o0 o1 is = on_ok_weaker r (as_whole whole part o0 o1 is)

pub two_more : {A : Type 0} (whole xs ys o0 o1 o2 : List A) → whole ≡ xs ++ ys → o1 ≡ o0 ++ xs → o2 ≡ o1 ++ ys → o2 ≡ o0 ++ whole
two_more whole xs ys o0 o1 o2 is e1 e2 = e2 ∙ ap (λ l. l ++ ys) e1 ∙ append_assoc o0 xs ys ∙ ap (λ l. o0 ++ l) (sym is)

module _ {X A : Type 0} (all : List X → List A) where
  pub one_more : (one : X → List A) → ((x : X) (xs : List X) → all (x ∷ xs) ≡ one x ++ all xs) → (xs : List X) (i : ℕ) (x : X) (o1 o2 end : List A) → i < length xs
      → x ≡ get_or xs i x → o2 ≡ o1 ++ one x
      → o1 ++ all (drop i xs) ≡ end → o2 ++ all (drop (i + 1) xs) ≡ end
  one_more one turn xs i x o1 o2 end h g e k =
      ap (λ l. l ++ all (drop (i + 1) xs)) e ∙ append_assoc o1 (one x) (all (drop (i + 1) xs)) ∙ ap (λ l. o1 ++ l) (sym (turn x (drop (i + 1) xs)))
      ∙ ap (λ l. o1 ++ all l) (ap (λ y. y ∷ drop (i + 1) xs) g ∙ sym (drop_more xs i x h)) ∙ k

  pub no_more : all [] ≡ [] → (xs : List X) (i : ℕ) (o1 end : List A) → length xs ≤ i → o1 ++ all (drop i xs) ≡ end → o1 ≡ end
  no_more none xs i o1 end h k = sym (append-nil o1) ∙ ap (λ l. o1 ++ l) (sym none) ∙ ap (λ l. o1 ++ all l) (sym (drop_all i xs h)) ∙ k
