-- Following picked members until none is left.
use Rattle.std.proofs.Common.{◌≡◌, ℕ, ◌+◌, ◌<◌, Bool, true, false, not, ◌&&◌, List, [], ◌∷◌, ◌++◌, length, get_or, refl, sym, ap, ◌∙◌, arith, inl, inr, ◌⊎◌, length-append}
use Rattle.std.specs.Prelude.{◌||◌, Contains, nat_eq, count_by}
use Rattle.std.proofs.lemmas.Bool.{cases_Bool, or_left, or_right, or_cases, and_parts, and_from, not_from_false, eqb-true, eq-eqb, false≢true}
use Rattle.std.proofs.lemmas.List.Folds.{list_any-append}
use Rattle.cw_pick.specs.declared.marking.Work.{Work}
use Rattle.cw_pick.specs.Picking.{is_in}
use Rattle.cw_pick.specs.Working.{is_picked, left, Marks, IsFresh, Closes}
use Rattle.cw_pick.proofs.Bools.{or_false}
use Rattle.cw_pick.proofs.Steps.{grown, picked_within}

-- what a picked member leads to is picked, or it is to be followed
pub record IsFollowing (lead : ℕ → ℕ → Bool) (old now : Work) : Type 0 where
  pub count : length now.picked.items ≡ length old.picked.items
  pub kept : (k : ℕ) → is_picked old k ≡ true → is_picked now k ≡ true
  pub due : (k : ℕ) → is_in now.todo.items k ≡ true → is_picked now k ≡ true
  pub done : (j : ℕ) → is_picked now j ≡ true → (is_in now.todo.items j ≡ true) ⊎ ((k : ℕ) → lead j k ≡ true → k < length old.picked.items → is_picked now k ≡ true)
  pub least : (others : List ℕ) → ((k : ℕ) → is_picked old k ≡ true → Contains others k) → ((j k : ℕ) → Contains others j → lead j k ≡ true → Contains others k) → (k : ℕ) → is_picked now k ≡ true → Contains others k

pub at_first : (lead : ℕ → ℕ → Bool) (old : Work) → IsFresh old → IsFollowing lead old old
at_first lead old fresh = record { count = refl; kept = λ k h. h; due = λ k h. sym (fresh k) ∙ h; done = λ j h. inl (fresh j ∙ h); least = λ others base closed k h. base k h }

in-pushed : (xs : List ℕ) (m k : ℕ) → is_in (xs ++ m ∷ []) k ≡ is_in xs k || nat_eq k m
in-pushed xs m k = list_any-append (nat_eq k) xs (m ∷ []) ∙ ap (λ b. is_in xs k || b) (or_false (nat_eq k m))

same-number : (m : ℕ) → nat_eq m m ≡ true
same-number m = eq-eqb m m refl

pub next : (lead : ℕ → ℕ → Bool) (old now mid new : Work) (m : ℕ) → mid.picked.items ≡ now.picked.items → now.todo.items ≡ mid.todo.items ++ m ∷ [] → Marks (lead m) mid new → IsFollowing lead old now → IsFollowing lead old new
next lead old now mid new m same popped marks f =
    let back : (k : ℕ) → is_picked now k ≡ is_picked mid k = λ k. ap (λ l. get_or l k false) (sym same) in
    let queue : (k : ℕ) → is_in now.todo.items k ≡ is_in mid.todo.items k || nat_eq k m = λ k. ap (λ l. is_in l k) popped ∙ in-pushed mid.todo.items m k in
    let up : (k : ℕ) → is_picked now k ≡ true → is_picked new k ≡ true = λ k h. grown (lead m) mid new marks k (sym (back k) ∙ h) in
    let long : length mid.picked.items ≡ length old.picked.items = ap length same ∙ f.count in
    let this : is_picked now m ≡ true = f.due m (queue m ∙ or_right (is_in mid.todo.items m) (nat_eq m m) (same-number m)) in
    record {
      count = marks.count ∙ long;
      kept = λ k h. up k (f.kept k h);
      due = λ k h.
          elim (or_cases (is_in mid.todo.items k) (is_picked new k && not (is_picked mid k)) (sym (marks.todo k) ∙ h)) [
            | inl a ↦ up k (f.due k (queue k ∙ or_left (is_in mid.todo.items k) (nat_eq k m) a))
            | inr b ↦ (and_parts (is_picked new k) (not (is_picked mid k)) b).0
          ];
      done = λ j h.
          elim (cases_Bool (is_picked mid j)) [
            | inl was ↦ elim (f.done j (back j ∙ was)) [
              | inl due ↦ elim (or_cases (is_in mid.todo.items j) (nat_eq j m) (sym (queue j) ∙ due)) [
                | inl a ↦ inl (marks.todo j ∙ or_left (is_in mid.todo.items j) (is_picked new j && not (is_picked mid j)) a)
                | inr e ↦ inr (λ k ld lt. marks.picked k (omega (arith, lt, long)) ∙ or_right (is_picked mid k) (lead m k) (ap (λ n. lead n k) (sym (eqb-true j m e)) ∙ ld))
              ]
              | inr g ↦ inr (λ k ld lt. up k (g k ld lt))
            ]
            | inr new-one ↦ inl (marks.todo j ∙ or_right (is_in mid.todo.items j) (is_picked new j && not (is_picked mid j)) (and_from (is_picked new j) (not (is_picked mid j)) h (not_from_false (is_picked mid j) new-one)))
          ];
      least = λ others base closed k h.
          let within : k < length mid.picked.items = omega (arith, picked_within new k h, marks.count) in
          elim (or_cases (is_picked mid k) (lead m k) (sym (marks.picked k within) ∙ h)) [
            | inl a ↦ f.least others base closed k (back k ∙ a)
            | inr ld ↦ closed m k (f.least others base closed m this) ld
          ];
    }

pub fewer : (P : ℕ → Bool) (now mid new : Work) (m : ℕ) → mid.picked.items ≡ now.picked.items → now.todo.items ≡ mid.todo.items ++ m ∷ [] → Marks P mid new → left new < left now
fewer P now mid new m same popped marks =
    let n : count_by not mid.picked.items ≡ count_by not now.picked.items = ap (count_by not) same in
    let t : length now.todo.items ≡ length mid.todo.items + 1 = ap length popped ∙ length-append mid.todo.items (m ∷ []) in
    omega (arith, marks.left, n, t)
