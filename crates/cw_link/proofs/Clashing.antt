-- One preset more.
use Rattle.std.proofs.Common.{◌≡◌, ◌≢◌, ℕ, ◌<◌, ◌≤◌, Bool, true, false, cond, not, ◌&&◌, nat_eq, List, [], ◌∷◌, ◌++◌, length, set, get_or, Option, Some, None, option_map, find, refl, sym, ap, ◌∙◌, arith, inl, inr}
use Rattle.std.proofs.lemmas.Bool.{cases_eq, eq-eqb, ne_eqb, and_left, and_right, and_from, ltb-true, ltb-false, false≢true}
use Rattle.std.proofs.lemmas.List.{length-set, get_or-set_same, get_or-set_other}
use Rattle.std.proofs.lemmas.Option.{none-some, same_Some}
use Rattle.cw_link.specs.Presets.{FilledWord, source_of, stands_at, first_at, other_at, clash_with, clash_at, IsPresetClash}
use Rattle.cw_link.specs.Filled.{TellsClash, is_lowest}

-- ---- found in a list of one more

find-if : (t : FilledWord → Bool) (p x : FilledWord) (xs : List FilledWord) (b : Bool) (z : Option FilledWord) → (find t xs ≡ z → find t (xs ++ p ∷ []) ≡ z) → cond b (Some x) (find t xs) ≡ z → cond b (Some x) (find t (xs ++ p ∷ [])) ≡ z
find-if t p x xs true z h e = e
find-if t p x xs false z h e = h e

keep : (t : FilledWord → Bool) (ps : List FilledWord) (p q : FilledWord) → find t ps ≡ Some q → find t (ps ++ p ∷ []) ≡ Some q
keep t [] p q e = absurd (none-some q e)
keep t (x ∷ xs) p q e = find-if t p x xs (t x) (Some q) (keep t xs p q) e

skip : (t : FilledWord → Bool) (ps : List FilledWord) (p : FilledWord) → t p ≡ false → find t (ps ++ p ∷ []) ≡ find t ps
skip t [] p e = ap (λ b. cond {A = Option FilledWord} b (Some p) None) e
skip t (x ∷ xs) p e = ap (λ o. cond (t x) (Some x) o) (skip t xs p e)

add-if : (b : Bool) (x : FilledWord) (o o' z : Option FilledWord) → (o ≡ None → o' ≡ z) → cond b (Some x) o ≡ None → cond b (Some x) o' ≡ z
add-if true x o o' z h e = absurd (none-some x (sym e))
add-if false x o o' z h e = h e

add : (t : FilledWord → Bool) (ps : List FilledWord) (p : FilledWord) → find t ps ≡ None → t p ≡ true → find t (ps ++ p ∷ []) ≡ Some p
add t [] p none e = ap (λ b. cond {A = Option FilledWord} b (Some p) None) e
add t (x ∷ xs) p none e = add-if (t x) x _ _ (Some p) (λ n. add t xs p n e) none

none-if : (a b : Bool) (x : FilledWord) (o o' : Option FilledWord) → (o ≡ None → o' ≡ None) → cond a (Some x) o ≡ None → cond (a && b) (Some x) o' ≡ None
none-if true b x o o' h e = absurd (none-some x (sym e))
none-if false b x o o' h e = h e

none-and : (t u : FilledWord → Bool) (ps : List FilledWord) → find t ps ≡ None → find (λ p. t p && u p) ps ≡ None
none-and t u [] e = refl
none-and t u (x ∷ xs) e = none-if (t x) (u x) x _ _ (none-and t u xs) e

-- ---- clashes

module _ (ps : List FilledWord) (p : FilledWord) where
  with-apart : (a : ℕ) (o : Option FilledWord) → nat_eq a p.address ≡ false → clash_with a (ps ++ p ∷ []) o ≡ clash_with a ps o
  with-apart a None e = refl
  with-apart a (Some q) e = ap (option_map (λ (r : FilledWord). (q.segment, r.segment))) (skip (λ r. stands_at a r && not (nat_eq q.word r.word)) ps p (and_left (nat_eq a p.address) (not (nat_eq q.word p.word)) e))

  pub apart : (a : ℕ) → (a ≡ p.address → ⊥) → clash_at a (ps ++ p ∷ []) ≡ clash_at a ps
  apart a ne =
      let e = ne_eqb a p.address ne in
      ap (clash_with a (ps ++ p ∷ [])) (skip (stands_at a) ps p e) ∙ with-apart a (first_at a ps) e

  same-word : (a w : ℕ) → w ≡ p.word → (stands_at a p && not (nat_eq w p.word)) ≡ false
  same-word a w e = and_right (stands_at a p) (not (nat_eq w p.word)) (ap not (eq-eqb w p.word e))

  -- a word that has none yet
  at_none : first_at p.address ps ≡ None → clash_at p.address (ps ++ p ∷ []) ≡ clash_at p.address ps
  at_none none =
      let a = p.address in
      ap (clash_with a (ps ++ p ∷ [])) (add (stands_at a) ps p none (eq-eqb a a refl))
      ∙ ap (option_map (λ (r : FilledWord). (p.segment, r.segment))) (skip (λ r. stands_at a r && not (nat_eq p.word r.word)) ps p (same-word a p.word refl) ∙ none-and (stands_at a) (λ r. not (nat_eq p.word r.word)) ps none)
      ∙ sym (ap (clash_with a ps) none)

  -- one that has this value
  at_same : (q : FilledWord) → first_at p.address ps ≡ Some q → q.word ≡ p.word → clash_at p.address (ps ++ p ∷ []) ≡ clash_at p.address ps
  at_same q first same =
      let a = p.address in
      ap (clash_with a (ps ++ p ∷ [])) (keep (stands_at a) ps p q first)
      ∙ ap (option_map (λ (r : FilledWord). (q.segment, r.segment))) (skip (λ r. stands_at a r && not (nat_eq q.word r.word)) ps p (same-word a q.word same))
      ∙ sym (ap (clash_with a ps) first)

  all-same : (a : ℕ) → clash_at p.address (ps ++ p ∷ []) ≡ clash_at p.address ps → clash_at a (ps ++ p ∷ []) ≡ clash_at a ps
  all-same a e =
      elim (cases_eq a p.address) [
        | inl is ↦ ap (λ b. clash_at b (ps ++ p ∷ [])) is ∙ e ∙ sym (ap (λ b. clash_at b ps) is)
        | inr ne ↦ apart a ne
      ]

  tells-same : (c : Option (ℕ × ℕ × ℕ)) → clash_at p.address (ps ++ p ∷ []) ≡ clash_at p.address ps → TellsClash ps c → TellsClash (ps ++ p ∷ []) c
  tells-same None e h = λ a. all-same a e ∙ h a
  tells-same (Some c) e h = record { here = all-same c.0 e ∙ h.here; lowest = λ a lt. all-same a e ∙ h.lowest a lt }

  pub tells_none : (c : Option (ℕ × ℕ × ℕ)) → first_at p.address ps ≡ None → TellsClash ps c → TellsClash (ps ++ p ∷ []) c
  tells_none c none h = tells-same c (at_none none) h

  pub tells_same : (c : Option (ℕ × ℕ × ℕ)) (q : FilledWord) → first_at p.address ps ≡ Some q → q.word ≡ p.word → TellsClash ps c → TellsClash (ps ++ p ∷ []) c
  tells_same c q first same h = tells-same c (at_same q first same) h

  not-none : (f : FilledWord → ℕ × ℕ) (o : Option FilledWord) → option_map f o ≡ None → o ≡ None
  not-none f None e = refl
  not-none f (Some q) e = absurd (none-some (f q) (sym e))

  none-below : (c : Option (ℕ × ℕ × ℕ)) (a : ℕ) → is_lowest c a ≡ true → TellsClash ps c → (b : ℕ) → b ≤ a → clash_at b ps ≡ None
  none-below None a low h b le = h b
  none-below (Some c) a low h b le = h.lowest b (omega (arith, le, ltb-true a c.0 low))

  -- a first other value
  pub tells_new : (c : Option (ℕ × ℕ × ℕ)) (q : FilledWord) → first_at p.address ps ≡ Some q → q.word ≢ p.word → is_lowest c p.address ≡ true → TellsClash ps c → IsPresetClash (ps ++ p ∷ []) p.address q.segment p.segment
  tells_new c q first differs lowest h =
      let a = p.address in
      let below : (b : ℕ) → b ≤ a → clash_at b ps ≡ None = none-below c a lowest h in
      let none : other_at a q.word ps ≡ None = not-none (λ r. (q.segment, r.segment)) (other_at a q.word ps) (sym (ap (clash_with a ps) first) ∙ below a (omega arith)) in
      let test : (stands_at a p && not (nat_eq q.word p.word)) ≡ true = and_from (stands_at a p) (not (nat_eq q.word p.word)) (eq-eqb a a refl) (ap not (ne_eqb q.word p.word differs)) in
      record {
        here =
            ap (clash_with a (ps ++ p ∷ [])) (keep (stands_at a) ps p q first)
            ∙ ap (option_map (λ (r : FilledWord). (q.segment, r.segment))) (add (λ r. stands_at a r && not (nat_eq q.word r.word)) ps p none test);
        lowest = λ b lt. apart b (λ e. omega (arith, e, lt)) ∙ below b (omega (arith, lt));
      }

  some-other : (a : ℕ) (c : ℕ × ℕ) (q : FilledWord) (o : Option FilledWord) → other_at a q.word ps ≡ o → option_map (λ (r : FilledWord). (q.segment, r.segment)) o ≡ Some c → option_map (λ (r : FilledWord). (q.segment, r.segment)) (other_at a q.word (ps ++ p ∷ [])) ≡ Some c
  some-other a c q None e h = absurd (none-some c h)
  some-other a c q (Some r) e h = ap (option_map (λ (x : FilledWord). (q.segment, x.segment))) (keep (λ x. stands_at a x && not (nat_eq q.word x.word)) ps p r e) ∙ h

  some-clash : (a : ℕ) (c : ℕ × ℕ) (o : Option FilledWord) → first_at a ps ≡ o → clash_with a ps o ≡ Some c → clash_at a (ps ++ p ∷ []) ≡ Some c
  some-clash a c None e h = absurd (none-some c h)
  some-clash a c (Some q) e h = ap (clash_with a (ps ++ p ∷ [])) (keep (stands_at a) ps p q e) ∙ some-other a c q (other_at a q.word ps) refl h

  -- a word that clashes already, not behind this one
  pub tells_kept : (c : Option (ℕ × ℕ × ℕ)) → is_lowest c p.address ≡ false → TellsClash ps c → TellsClash (ps ++ p ∷ []) c
  tells_kept None e h = absurd (false≢true (sym e))
  tells_kept (Some c) e h =
      let le : c.0 ≤ p.address = ltb-false p.address c.0 e in
      record {
        here = some-clash c.0 (c.1, c.2) (first_at c.0 ps) refl h.here;
        lowest = λ a lt. apart a (λ is. omega (arith, is, lt, le)) ∙ h.lowest a lt;
      }

-- ---- the table

abbrev pub AreWords : List FilledWord → List (Option (ℕ × ℕ)) → Type 0
AreWords ps words = (a : ℕ) → a < length words → get_or words a None ≡ option_map source_of (first_at a ps)

kept-word : (ps : List FilledWord) (p : FilledWord) (a : ℕ) (x : ℕ × ℕ) (o : Option FilledWord) → first_at a ps ≡ o → option_map source_of o ≡ Some x → first_at a (ps ++ p ∷ []) ≡ first_at a ps
kept-word ps p a x None e h = absurd (none-some x h)
kept-word ps p a x (Some q) e h = keep (stands_at a) ps p q e ∙ sym e

-- a word that has a preset keeps the first
pub words_kept : (ps : List FilledWord) (p : FilledWord) (words : List (Option (ℕ × ℕ))) (x : ℕ × ℕ) → AreWords ps words → p.address < length words → get_or words p.address None ≡ Some x → AreWords (ps ++ p ∷ []) words
words_kept ps p words x h lt is a la =
    elim (cases_eq a p.address) [
      | inl e ↦
          h a la ∙ ap (option_map source_of)
          (sym (kept-word ps p a x (first_at a ps) refl (sym (h a la) ∙ ap (λ b. get_or words b None) e ∙ is)))
      | inr ne ↦ h a la ∙ ap (option_map source_of) (sym (skip (stands_at a) ps p (ne_eqb a p.address ne)))
    ]

abbrev some : ℕ × ℕ → Option (ℕ × ℕ)
some x = Some x

no-first : (o : Option FilledWord) → option_map source_of o ≡ None → o ≡ None
no-first None e = refl
no-first (Some q) e = absurd (none-some (source_of q) (sym e))

pub none_there : (ps : List FilledWord) (a : ℕ) (words : List (Option (ℕ × ℕ))) → AreWords ps words → a < length words → get_or words a None ≡ None → first_at a ps ≡ None
none_there ps a words h lt is = no-first (first_at a ps) (sym (h a lt) ∙ is)

pub words_new : (ps : List FilledWord) (p : FilledWord) (words : List (Option (ℕ × ℕ))) → AreWords ps words → p.address < length words → get_or words p.address None ≡ None → AreWords (ps ++ p ∷ []) (set words p.address (Some (p.segment, p.word)))
words_new ps p words h lt is a la =
    let la' : a < length words = omega (arith, la, length-set words p.address (some (p.segment, p.word))) in
    elim (cases_eq a p.address) [
      | inl e ↦
          ap (λ b. get_or (set words p.address (some (p.segment, p.word))) b None) e ∙ get_or-set_same words p.address (some (p.segment, p.word)) None lt
          ∙ ap (option_map source_of) (sym (ap (λ b. first_at b (ps ++ p ∷ [])) e ∙ add (stands_at p.address) ps p (none_there ps p.address words h lt is) (eq-eqb p.address p.address refl)))
      | inr ne ↦
          get_or-set_other words p.address a (some (p.segment, p.word)) None ne ∙ h a la'
          ∙ ap (option_map source_of) (sym (skip (stands_at a) ps p (ne_eqb a p.address ne)))
    ]

abbrev pair : ℕ → ℕ → ℕ × ℕ
pair a b = (a, b)

-- the first preset of a word of the table
told-there : (o : Option FilledWord) (segment word : ℕ) → option_map source_of o ≡ Some (segment, word) → (q : FilledWord) × (o ≡ Some q) × (q.segment ≡ segment) × (q.word ≡ word)
told-there None segment word e = absurd (none-some (pair segment word) e)
told-there (Some q) segment word e = let p = same_Some (source_of q) (pair segment word) e in (q, refl, ap (λ (x : ℕ × ℕ). x.0) p, ap (λ (x : ℕ × ℕ). x.1) p)

pub first_there : (ps : List FilledWord) (a segment word : ℕ) (words : List (Option (ℕ × ℕ))) → AreWords ps words → a < length words → get_or words a None ≡ Some (segment, word) → (q : FilledWord) × (first_at a ps ≡ Some q) × (q.segment ≡ segment) × (q.word ≡ word)
first_there ps a segment word words h lt is = told-there (first_at a ps) segment word (sym (h a lt) ∙ is)
