-- Members become picked, step by step.
use Rattle.std.proofs.Common.{◌≡◌, ℕ, ◌+◌, ◌<◌, ◌≤◌, Bool, true, false, not, ◌&&◌, List, length, take, get_or, refl, sym, ap, ◌∙◌, arith, inl, inr}
use Rattle.std.specs.Prelude.{◌||◌}
use Rattle.std.specs.List.{list_any}
use Rattle.std.proofs.lemmas.Bool.{cases_lt, or_left, true≢false}
use Rattle.std.proofs.lemmas.List.{get_or_past}
use Rattle.cw_pick.specs.declared.marking.Work.{Work}
use Rattle.cw_pick.specs.Picking.{is_in}
use Rattle.cw_pick.specs.Working.{is_picked, Marks}
use Rattle.cw_pick.proofs.Bools.{or_assoc, or_same, two_steps, not_step, any_more, all_taken}

pub not_past : (a : Work) (k : ℕ) → length a.picked.items ≤ k → is_picked a k ≡ false
not_past a k le = get_or_past a.picked.items k false le

pub picked_within : (a : Work) (k : ℕ) → is_picked a k ≡ true → k < length a.picked.items
picked_within a k h = elim (cases_lt k (length a.picked.items)) [ inl lt ↦ lt | inr le ↦ absurd (true≢false (sym h ∙ not_past a k le)) ]

pub grown : (P : ℕ → Bool) (a b : Work) → Marks P a b → (k : ℕ) → is_picked a k ≡ true → is_picked b k ≡ true
grown P a b m k h = m.picked k (picked_within a k h) ∙ or_left (is_picked a k) (P k) h

pub none : (P : ℕ → Bool) (a : Work) → ((k : ℕ) → k < length a.picked.items → P k ≡ true → is_picked a k ≡ true) → Marks P a a
none P a h = record {
  count = refl;
  left = refl;
  picked = λ k lt. or_same (is_picked a k) (P k) (h k lt);
  todo = λ k. sym (not_step (is_in a.todo.items k) (is_picked a k));
}

pub both : (P Q R : ℕ → Bool) (a b c : Work) → ((k : ℕ) → R k ≡ P k || Q k) → Marks P a b → Marks Q b c → Marks R a c
both P Q R a b c join m n = record {
  count = n.count ∙ m.count;
  left = n.left ∙ m.left;
  picked = λ k lt.
      let lt' : k < length b.picked.items = omega (arith, lt, m.count) in
      n.picked k lt' ∙ ap (λ x. x || Q k) (m.picked k lt) ∙ or_assoc (is_picked a k) (P k) (Q k) ∙ ap (λ x. is_picked a k || x) (sym (join k));
  todo = λ k.
      n.todo k ∙ ap (λ x. x || (is_picked c k && not (is_picked b k))) (m.todo k)
      ∙ two_steps (is_in a.todo.items k) (is_picked a k) (is_picked b k) (is_picked c k) (grown P a b m k) (grown Q b c n k);
}

pub same : (P Q : ℕ → Bool) (a b : Work) → ((k : ℕ) → P k ≡ Q k) → Marks P a b → Marks Q a b
same P Q a b e m = record { count = m.count; left = m.left; picked = λ k lt. m.picked k lt ∙ ap (λ x. is_picked a k || x) (e k); todo = m.todo }

-- one more element
pub one_more : {X : Type 0} (p : X → ℕ → Bool) (xs : List X) (i : ℕ) (x : X) (a b c : Work) → i < length xs → x ≡ get_or xs i x
    → Marks (λ k. list_any (λ y. p y k) (take i xs)) a b → Marks (p x) b c → Marks (λ k. list_any (λ y. p y k) (take (i + 1) xs)) a c
one_more p xs i x a b c lt is m n =
    both (λ k. list_any (λ y. p y k) (take i xs)) (p x) (λ k. list_any (λ y. p y k) (take (i + 1) xs)) a b c (λ k. any_more (λ y. p y k) xs i x lt is) m n

pub at_end : {X : Type 0} (p : X → ℕ → Bool) (xs : List X) (i : ℕ) (a b : Work) → i ≡ length xs → Marks (λ k. list_any (λ y. p y k) (take i xs)) a b → Marks (λ k. list_any (λ y. p y k) xs) a b
at_end p xs i a b e m = same (λ k. list_any (λ y. p y k) (take i xs)) (λ k. list_any (λ y. p y k) xs) a b (λ k. ap (list_any (λ y. p y k)) (all_taken xs i e)) m
