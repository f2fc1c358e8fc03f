-- A rule that leads back to itself is read as what stands for it: the number of turns does not matter.
use Rattle.std.proofs.Common.{◌≡◌, ℕ, zero, suc, ◌+◌, ◌≤◌, ◌<◌, Bool, true, false, cond, not, ◌&&◌, ◌||◌, List, [], ◌∷◌, ◌++◌, length, Result, Ok, Err, refl, sym, ap, subst, ◌∙◌, arith}
use Rattle.std.proofs.lemmas.Bool.{and_parts}
use Rattle.std.proofs.lemmas.List.{length-append}
use Rattle.cw_grammar.specs.Tokens.{Item}
use Rattle.cw_grammar.specs.Grammar.{Sort, a_pair, a_list, Value, Rule, Again, Grammar, one, none, ◌·◌, ◌∣◌, many, ◌⇒◌, opens, again, first, starts, null, guarded}
use Rattle.cw_grammar.specs.Table.{again_rule}
use Rattle.cw_grammar.specs.Reading.{Fault, Read, ◌>>=◌, repeat, Inside, Agains, read_with, reads, inside, turns, unbounded}
use Rattle.cw_grammar.proofs.Sound.{Found, Sound, SoundWithin, SoundAgains, sound_with, sound_turns, sound_inside_at}
use Rattle.cw_grammar.proofs.Many.{found_shorter, with_item}
use Rattle.cw_grammar.proofs.Table.{again_guarded}

-- two ways to read such rules that are one on lists of fewer than l tokens
abbrev Agree : ℕ → Agains → Agains → Type 0
Agree l p q = (s : Sort) (a : Again s) (us : List Item) → length us < l → p s a us ≡ q s a us

abbrev with_first : {A B : Type 0} → A → Read B → Read (A × B)
with_first x o = o >>= λ y. Ok ((x, y.0), y.1)

found_le : (n : ℕ) (s : Sort) (g : Grammar s) (ts : List Item) (x : Value s × List Item) → Sound n s g ts (Ok x) → length x.1 ≤ length ts
found_le n s g ts x p = omega (arith, ap length p.parts, length-append p.text x.1)

repeat_alike : {A : Type 0} (test : List Item → Bool) (p q : List Item → Read A) (b : ℕ) → ((vs : List Item) → length vs ≤ b → p vs ≡ q vs) → ((vs : List Item) (x : A × List Item) → p vs ≡ Ok x → length x.1 ≤ length vs)
    → (k : ℕ) (us : List Item) → length us ≤ b → repeat k test p us ≡ repeat k test q us
repeat_alike test p q b e sh zero us h = refl
repeat_alike {A = A} test p q b e sh (suc k) us h =
    let go : (o : Read A) → p us ≡ o → (o >>= λ x. with_item x.0 (repeat k test p x.1)) ≡ (o >>= λ x. with_item x.0 (repeat k test q x.1)) =
    elim [
      | Ok x ↦ λ w. let le : length x.1 ≤ length us = sh us x w in rw (repeat_alike test p q b e sh k x.1 (omega arith)) refl
      | Err f ↦ λ w. refl
    ] in
    let there : (p us >>= λ x. with_item x.0 (repeat k test p x.1)) ≡ (q us >>= λ x. with_item x.0 (repeat k test q x.1)) =
    go (p us) refl ∙ ap (λ (o : Read A). o >>= λ x. with_item x.0 (repeat k test q x.1)) (e us h) in
    ap (λ (z : Read (List A)). cond (test us) z (Ok ([], us))) there

module _ (n : ℕ) (within : Inside) (sound_within : SoundWithin n within) where
  -- no item is longer than the list
  items_le : (p : Agains) → SoundAgains n p → (s : Sort) (g : Grammar s) (vs : List Item) (x : Value s × List Item) → read_with within p g vs ≡ Ok x → length x.1 ≤ length vs
  items_le p ok s g vs x e =
      let P : Read (Value s) → Type 0 = λ o. Sound n s g vs o in
      found_le n s g vs x (subst P e (sound_with n within p sound_within ok g vs))

  both_parts : (p q : Agains) (s t : Sort) (g : Grammar s) (h : Grammar t) (ts : List Item) → read_with within p g ts ≡ read_with within q g ts → ((x : Value s × List Item) → read_with within p g ts ≡ Ok x → read_with within p h x.1 ≡ read_with within q h x.1)
      → read_with within p (g · h) ts ≡ read_with within q (g · h) ts
  both_parts p q s t g h ts e f =
      let go : (o : Read (Value s)) → read_with within p g ts ≡ o → (o >>= λ x. with_first x.0 (read_with within p h x.1)) ≡ (o >>= λ x. with_first x.0 (read_with within q h x.1)) =
      elim [
        | Ok x ↦ λ w. rw (f x w) refl
        | Err k ↦ λ w. refl
      ] in
      go (read_with within p g ts) refl ∙ ap (λ (o : Read (Value s)). o >>= λ x. with_first x.0 (read_with within q h x.1)) e

  alike : (p q : Agains) → SoundAgains n p → (l : ℕ) → Agree l p q → {s : Sort} (g : Grammar s) (ts : List Item) → length ts < l → read_with within p g ts ≡ read_with within q g ts
  alike p q ok l w (one k) ts lt = refl
  alike p q ok l w (none x) ts lt = refl
  alike p q ok l w (◌·◌ {s = s} {t = t} g h) ts lt = both_parts p q s t g h ts (alike p q ok l w g ts lt) (λ x e. let le : length x.1 ≤ length ts = items_le p ok s g ts x e in alike p q ok l w h x.1 (omega arith))
  alike p q ok l w (◌∣◌ {s = s} g h) ts lt = rw (alike p q ok l w g ts lt, alike p q ok l w h ts lt) refl
  alike p q ok l w (many {s = s} g) ts lt =
      repeat_alike (λ us. starts us (first g)) (λ us. read_with within p g us) (λ us. read_with within q g us) (length ts) (λ vs le. alike p q ok l w g vs (omega arith)) (items_le p ok s g) (length ts) ts (omega arith)
  alike p q ok l w (◌⇒◌ {s = s} {t = t} g f) ts lt = ap (λ (o : Read (Value s)). o >>= λ x. Ok (f x.0, x.1)) (alike p q ok l w g ts lt)
  alike p q ok l w (opens k r) ts lt = refl
  alike p q ok l w (again {s = s} a) ts lt = w s a ts lt

  behind_guard : (p q : Agains) → SoundAgains n p → (l : ℕ) → Agree l p q → (s t : Sort) (g : Grammar s) (h : Grammar t) (ts : List Item) → length ts ≤ l
      → ((us : List Item) → guarded h ≡ true → length us ≤ l → read_with within p h us ≡ read_with within q h us)
      → (b : Bool) → null g ≡ b → (not b || guarded h) ≡ true → (x : Value s × List Item) → read_with within p g ts ≡ Ok x → read_with within p h x.1 ≡ read_with within q h x.1
  behind_guard p q ok l w s t g h ts le next false z d x e =
      let P : Read (Value s) → Type 0 = λ o. Sound n s g ts o in
      let found : Found n s g ts x.0 x.1 = subst P e (sound_with n within p sound_within ok g ts) in
      let lt : length x.1 < length ts = found_shorter n s g ts x.0 x.1 z found in
      alike p q ok l w h x.1 (omega arith)
  behind_guard p q ok l w s t g h ts le next true z d x e = let k : length x.1 ≤ length ts = items_le p ok s g ts x e in next x.1 d (omega arith)

  alike_guarded : (p q : Agains) → SoundAgains n p → (l : ℕ) → Agree l p q → {s : Sort} (g : Grammar s) (ts : List Item) → guarded g ≡ true → length ts ≤ l → read_with within p g ts ≡ read_with within q g ts
  alike_guarded p q ok l w (one k) ts gd le = refl
  alike_guarded p q ok l w (none x) ts gd le = refl
  alike_guarded p q ok l w (◌·◌ {s = s} {t = t} g h) ts gd le =
      let parts = and_parts (guarded g) (not (null g) || guarded h) gd in
      both_parts p q s t g h ts (alike_guarded p q ok l w g ts parts.0 le)
      (behind_guard p q ok l w s t g h ts le (λ us d k. alike_guarded p q ok l w h us d k) (null g) refl parts.1)
  alike_guarded p q ok l w (◌∣◌ {s = s} g h) ts gd le =
      let parts = and_parts (guarded g) (guarded h) gd in
      rw (alike_guarded p q ok l w g ts parts.0 le, alike_guarded p q ok l w h ts parts.1 le) refl
  alike_guarded p q ok l w (many {s = s} g) ts gd le =
      repeat_alike (λ us. starts us (first g)) (λ us. read_with within p g us) (λ us. read_with within q g us) (length ts) (λ vs k. alike_guarded p q ok l w g vs gd (omega arith)) (items_le p ok s g) (length ts) ts (omega arith)
  alike_guarded p q ok l w (◌⇒◌ {s = s} {t = t} g f) ts gd le = ap (λ (o : Read (Value s)). o >>= λ x. Ok (f x.0, x.1)) (alike_guarded p q ok l w g ts gd le)
  alike_guarded p q ok l w (opens k r) ts gd le = refl
  alike_guarded p q ok l w (again a) ts gd le = absurd cc

  turns_enough : (j k : ℕ) (s : Sort) (a : Again s) (us : List Item) → length us < j → length us < k → turns within j s a us ≡ turns within k s a us
  unfolding turns
  turns_enough zero k s a us h g = absurd (omega arith)
  turns_enough (suc j) zero s a us h g = absurd (omega arith)
  turns_enough (suc j) (suc k) s a us h g =
      alike_guarded (turns within j) (turns within k) (sound_turns n within sound_within j) (length us) (λ t b vs lt. turns_enough j k t b vs (omega arith) (omega arith)) (again_rule a) us (again_guarded a) (omega arith)

  step : (s : Sort) (a : Again s) (ts : List Item) → unbounded within s a ts ≡ read_with within (unbounded within) (again_rule a) ts
  unfolding turns
  step s a ts =
      alike_guarded (turns within (length ts)) (unbounded within) (sound_turns n within sound_within (length ts)) (length ts) (λ t b vs lt. turns_enough (length ts) (suc (length vs)) t b vs (omega arith) (omega arith)) (again_rule a) ts (again_guarded a) (omega arith)

-- Such a rule is read as what stands for it.
pub again_step : (n : ℕ) (s : Sort) (a : Again s) (ts : List Item) → reads n (again a) ts ≡ reads n (again_rule a) ts
again_step n s a ts = step n (inside n) (sound_inside_at n) s a ts
