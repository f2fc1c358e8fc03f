-- The members that define a name, by the names' places.
use Rattle.std.proofs.Common.{◌≡◌, ℕ, zero, suc, ◌+◌, ◌<◌, ◌≤◌, Bool, true, false, not, cond, ◌&&◌, List, [], ◌∷◌, ◌++◌, length, get_or, Some, refl, sym, ap, ap₂, subst, ◌∙◌, arith, inl, inr}
use Rattle.std.specs.Prelude.{◌||◌, nat_eq, nat_lt}
use Rattle.std.specs.List.{list_any, prefix_len, position, position_or_len}
use Rattle.std.specs.Str.{bytes_eq}
use Rattle.std.specs.Cmp.Lexicographic.{pointwise}
use Rattle.std.proofs.Math.ListN.{set}
use Rattle.std.proofs.lemmas.Bool.{true≢false, false≢true, ltb-true, lt-ltb, le-ltb, eq-eqb, ne_eqb, cases_order, cases_lt}
use Rattle.std.proofs.Math.Bool.{and-true}
use Rattle.std.proofs.lemmas.List.Folds.{list_any-append}
use Rattle.std.proofs.lemmas.Option.{cond_some, slice_get_read, slice_get_past}
use Rattle.indexmap.specs.IndexSet.{insert_key}
use Rattle.cw_comm.specs.Agreement.{Name}
use Rattle.cw_pick.specs.declared.offer.Offer.{Offer}
use Rattle.cw_pick.specs.Picking.{is_in, is_among, defines_of, defines_at}
use Rattle.cw_pick.specs.Working.{IsFirst, members_of}
use Rattle.cw_pick.proofs.Bools.{or_false, or_same, same_name, name_same}

abbrev pub place : Name → List Name → ℕ
place name names = prefix_len (λ x. not (bytes_eq name x)) names

-- ---- the first place of a name

first-if : (b : Bool) (name x : Name) (xs : List Name) → bytes_eq name x ≡ b → (place name xs < length xs → IsFirst name xs (place name xs)) → cond (not b) (1 + place name xs) 0 < suc (length xs) → IsFirst name (x ∷ xs) (cond (not b) (1 + place name xs) 0)
first-if true name x xs e more lt = e
first-if false name x xs e more lt =
    let n : 1 + place name xs ≡ suc (place name xs) = omega arith in
    subst (IsFirst name (x ∷ xs)) (sym n) (e, more (omega (arith, lt)))

pub first_place : (name : Name) (names : List Name) → place name names < length names → IsFirst name names (place name names)
first_place name [] lt = omega (arith, lt)
first_place name (x ∷ xs) lt = first-if (bytes_eq name x) name x xs refl (first_place name xs) lt

pub found_first : (name : Name) (names : List Name) (n : ℕ) → Some n ≡ position (bytes_eq name) names → IsFirst name names n
found_first name names n e =
    let r = cond_some (nat_lt (place name names) (length names)) (place name names) n (sym e) in
    subst (IsFirst name names) r.1 (first_place name names (ltb-true (place name names) (length names) r.0))

within-if : (b : Bool) (name x : Name) (xs : List Name) → bytes_eq name x ≡ b → (list_any (bytes_eq name) xs ≡ true → place name xs < length xs) → (b || list_any (bytes_eq name) xs) ≡ true → cond (not b) (1 + place name xs) 0 < suc (length xs)
within-if true name x xs e more h = omega arith
within-if false name x xs e more h = let lt = more h in omega (arith, lt)

pub place_within : (name : Name) (names : List Name) → is_among names name ≡ true → place name names < length names
place_within name [] h = absurd (false≢true h)
place_within name (x ∷ xs) h = within-if (bytes_eq name x) name x xs refl (place_within name xs) h

push-if : (b : Bool) (name x : Name) (xs : List Name) → bytes_eq name x ≡ b → (list_any (bytes_eq name) xs ≡ false → IsFirst name (xs ++ name ∷ []) (place name xs)) → (b || list_any (bytes_eq name) xs) ≡ false
    → IsFirst name (x ∷ (xs ++ name ∷ [])) (cond (not b) (1 + place name xs) 0)
push-if true name x xs e more h = absurd (true≢false h)
push-if false name x xs e more h =
    let n : 1 + place name xs ≡ suc (place name xs) = omega arith in
    subst (IsFirst name (x ∷ (xs ++ name ∷ []))) (sym n) (e, more h)

pub pushed_place : (name : Name) (names : List Name) → is_among names name ≡ false → IsFirst name (names ++ name ∷ []) (place name names)
pushed_place name [] h = name_same name name refl
pushed_place name (x ∷ xs) h = push-if (bytes_eq name x) name x xs refl (pushed_place name xs) h

entered-if : (b : Bool) (name : Name) (names : List Name) → is_among names name ≡ b → IsFirst name (cond b names (names ++ name ∷ [])) (place name names)
entered-if true name names e = first_place name names (place_within name names e)
entered-if false name names e = pushed_place name names e

pub entered_first : (name : Name) (names keys : List Name) (n : ℕ) → keys ≡ insert_key (pointwise nat_eq) names name → n ≡ position_or_len (pointwise nat_eq name) names → IsFirst name keys n
entered_first name names keys n ks e = subst (λ m. IsFirst name keys m) (sym e) (subst (λ l. IsFirst name l (place name names)) (sym ks) (entered-if (is_among names name) name names refl))

pub first_within : (name : Name) (names : List Name) (n : ℕ) → IsFirst name names n → n < length names
first_within name [] n h = absurd h
first_within name (x ∷ xs) zero h = omega arith
first_within name (x ∷ xs) (suc n) h = let lt = first_within name xs n h.1 in omega (arith, lt)

-- ---- the lists

abbrev none : List ℕ
none = []

end-if : (b : Bool) → cond b none none ≡ none
end-if true = refl
end-if false = refl

-- an empty list at the end tells nothing
pub empty_end : (names : List Name) (lists : List (List ℕ)) (name other : Name) → length lists ≡ length names → members_of (names ++ name ∷ []) (lists ++ [] ∷ []) other ≡ members_of names lists other
empty_end [] [] name other len = end-if (bytes_eq other name)
empty_end [] (l ∷ ls) name other len = absurd (omega (arith, len))
empty_end (x ∷ xs) [] name other len = absurd (omega (arith, len))
empty_end (x ∷ xs) (l ∷ ls) name other len = ap (cond (bytes_eq other x) l) (empty_end xs ls name other (omega (arith, len)))

-- the list of a name stands at its place
pub list_at : (names : List Name) (lists : List (List ℕ)) (name : Name) (n : ℕ) → length lists ≡ length names → IsFirst name names n → members_of names lists name ≡ get_or lists n []
list_at [] lists name n len h = absurd h
list_at (x ∷ xs) [] name n len h = absurd (omega (arith, len))
list_at (x ∷ xs) (l ∷ ls) name zero len h = ap (λ b. cond b l (members_of xs ls name)) h
list_at (x ∷ xs) (l ∷ ls) name (suc n) len h = ap (λ b. cond b l (members_of xs ls name)) h.0 ∙ list_at xs ls name n (omega (arith, len)) h.1

none-if : (b c : Bool) (l r : List ℕ) → (c ≡ false → r ≡ []) → (b || c) ≡ false → cond b l r ≡ []
none-if true c l r f h = absurd (true≢false h)
none-if false c l r f h = f h

pub no_list : (names : List Name) (lists : List (List ℕ)) (name : Name) → is_among names name ≡ false → members_of names lists name ≡ []
no_list [] lists name h = refl
no_list (x ∷ xs) [] name h = refl
no_list (x ∷ xs) (l ∷ ls) name h = none-if (bytes_eq name x) (is_among xs name) l (members_of xs ls name) (no_list xs ls name) h

here-if : (b : Bool) (l r : List ℕ) (m k : ℕ) → is_in (cond b (l ++ m ∷ []) r) k ≡ is_in (cond b l r) k || (b && nat_eq k m)
here-if true l r m k = list_any-append (nat_eq k) l (m ∷ []) ∙ ap (λ x. is_in l k || x) (or_false (nat_eq k m))
here-if false l r m k = sym (or_false (is_in r k))

there-if : (b c : Bool) (l r r' : List ℕ) (m k : ℕ) → (b ≡ true → c ≡ true → ⊥) → is_in r' k ≡ is_in r k || (c && nat_eq k m) → is_in (cond b l r') k ≡ is_in (cond b l r) k || (c && nat_eq k m)
there-if true true l r r' m k apart h = absurd (apart refl refl)
there-if true false l r r' m k apart h = sym (or_false (is_in l k))
there-if false c l r r' m k apart h = h

-- one more member in the list of a name
pub one_entered : (names : List Name) (lists : List (List ℕ)) (name other : Name) (n m k : ℕ) → length lists ≡ length names → IsFirst name names n
    → is_in (members_of names (set lists n (get_or lists n [] ++ m ∷ [])) other) k ≡ is_in (members_of names lists other) k || (bytes_eq other name && nat_eq k m)
one_entered [] lists name other n m k len h = absurd h
one_entered (x ∷ xs) [] name other n m k len h = absurd (omega (arith, len))
one_entered (x ∷ xs) (l ∷ ls) name other zero m k len h =
    let e : name ≡ x = same_name name x h in
    here-if (bytes_eq other x) l (members_of xs ls other) m k ∙ ap (λ y. is_in (cond (bytes_eq other x) l (members_of xs ls other)) k || (bytes_eq other y && nat_eq k m)) (sym e)
one_entered (x ∷ xs) (l ∷ ls) name other (suc n) m k len h =
    there-if (bytes_eq other x) (bytes_eq other name) l (members_of xs ls other) (members_of xs (set ls n (get_or ls n [] ++ m ∷ [])) other) m k
    (λ e f. true≢false (sym (name_same name x (sym (same_name other name f) ∙ same_name other x e)) ∙ h.0)) (one_entered xs ls name other n m k (omega (arith, len)) h.1)

-- ---- the steps of the code

new-keys : (b new : Bool) (names : List Name) (name : Name) → new ≡ not b → new ≡ true → cond b names (names ++ name ∷ []) ≡ names ++ name ∷ []
new-keys true new names name e h = absurd (false≢true (sym e ∙ h))
new-keys false new names name e h = refl

pub entered_new : (names keys : List Name) (lists lists' : List (List ℕ)) (name other : Name) (new : Bool) → keys ≡ insert_key (pointwise nat_eq) names name → new ≡ not (list_any (pointwise nat_eq name) names) → new ≡ true → lists' ≡ lists ++ [] ∷ [] → length lists ≡ length names
    → members_of keys lists' other ≡ members_of names lists other
entered_new names keys lists lists' name other new ks added is more len =
    ap₂ (λ k l. members_of k l other) (ks ∙ new-keys (list_any (pointwise nat_eq name) names) new names name added is) more ∙ empty_end names lists name other len

pub one_added : (names : List Name) (lists lists' : List (List ℕ)) (name other : Name) (n m k : ℕ) (before : List ℕ) → length lists ≡ length names → IsFirst name names n → lists' ≡ set lists n (get_or lists n [] ++ m ∷ [])
    → members_of names lists other ≡ before → is_in (members_of names lists' other) k ≡ is_in before k || (bytes_eq other name && nat_eq k m)
one_added names lists lists' name other n m k before len first set_is was =
    ap (λ l. is_in (members_of names l other) k) set_is ∙ one_entered names lists name other n m k len first ∙ ap (λ l. is_in l k || (bytes_eq other name && nat_eq k m)) was

entered-if' : (now old taken settled same : Bool) → (same ≡ true → settled ≡ false) → (old || ((taken && not settled) && now)) || (same && now) ≡ old || (((taken || same) && not settled) && now)
entered-if' now true taken settled same free = refl
entered-if' now false taken true true free = absurd (true≢false (free refl))
entered-if' now false true true false free = refl
entered-if' now false false true false free = refl
entered-if' true false true false same free = refl
entered-if' false false true false true free = refl
entered-if' false false true false false free = refl
entered-if' true false false false true free = refl
entered-if' false false false false true free = refl
entered-if' now false false false false free = refl

-- a name that is not settled
pub name_entered : (now old name-is taken settled same : Bool) → name-is ≡ (taken || same) → (same ≡ true → settled ≡ false) → (i : Bool) → i ≡ old || ((taken && not settled) && now) → i || (same && now) ≡ old || ((name-is && not settled) && now)
name_entered now old name-is taken settled same e free i h = ap (λ x. x || (same && now)) h ∙ entered-if' now old taken settled same free ∙ ap (λ x. old || ((x && not settled) && now)) (sym e)

settled-if : (now old taken settled same : Bool) → (same ≡ true → settled ≡ true) → old || ((taken && not settled) && now) ≡ old || (((taken || same) && not settled) && now)
settled-if now true taken settled same free = refl
settled-if now false true true same free = refl
settled-if now false true false same free = refl
settled-if now false false true true free = refl
settled-if now false false true false free = refl
settled-if now false false false false free = refl
settled-if now false false false true free = absurd (false≢true (free refl))

pub name_settled : (now old name-is taken settled same : Bool) → name-is ≡ (taken || same) → (same ≡ true → settled ≡ true) → (i : Bool) → i ≡ old || ((taken && not settled) && now) → i ≡ old || ((name-is && not settled) && now)
name_settled now old name-is taken settled same e free i h = h ∙ settled-if now old taken settled same free ∙ ap (λ x. old || ((x && not settled) && now)) (sym e)

among-if : (b : Bool) (ks : List Name) (x name : Name) → is_among ks x ≡ b → is_among (cond b ks (ks ++ x ∷ [])) name ≡ is_among ks name || bytes_eq name x
among-if true ks x name e = or_same (is_among ks name) (bytes_eq name x) (λ h. ap (is_among ks) (same_name name x h) ∙ e)
among-if false ks x name e = list_any-append (bytes_eq name) ks (x ∷ []) ∙ ap (λ b. is_among ks name || b) (or_false (bytes_eq name x))

pub among_more : (ks keys : List Name) (x name : Name) → keys ≡ insert_key (pointwise nat_eq) ks x → is_among keys name ≡ is_among ks name || bytes_eq name x
among_more ks keys x name e = ap (λ l. is_among l name) e ∙ among-if (is_among ks x) ks x name refl

-- ---- the members so far

this-one : (d a s : Bool) → d ≡ a → ((false && d) && not s) || ((a && not s) && true) ≡ (true && d) && not s
this-one true true s e = and-true (not s)
this-one true false s e = absurd (true≢false e)
this-one false true s e = absurd (false≢true e)
this-one false false s e = refl

one-before : (d a s : Bool) → ((true && d) && not s) || ((a && not s) && false) ≡ (true && d) && not s
one-before true true true = refl
one-before true true false = refl
one-before true false s = or_false (not s)
one-before false true true = refl
one-before false true false = refl
one-before false false s = refl

one-behind : (d a s : Bool) → ((false && d) && not s) || ((a && not s) && false) ≡ (false && d) && not s
one-behind d true true = refl
one-behind d true false = refl
one-behind d false s = refl

abbrev step : (l e l' d a s : Bool) → Type 0
step l e l' d a s = ((l && d) && not s) || ((a && not s) && e) ≡ (l' && d) && not s

stepped : (l l₀ e e₀ l' l₀' d a s : Bool) → l ≡ l₀ → e ≡ e₀ → l' ≡ l₀' → step l₀ e₀ l₀' d a s → step l e l' d a s
stepped l l₀ e e₀ l' l₀' d a s p q r h = subst (λ x. step x e l' d a s) (sym p) (subst (λ x. step l₀ x l' d a s) (sym q) (subst (λ x. step l₀ e₀ x d a s) (sym r) h))

pub member_entered : (members : List Offer) (k j : ℕ) (offer : Offer) (name : Name) (s old new : Bool) → k < length members → offer ≡ get_or members k offer → old ≡ (nat_lt j k && defines_at members j name) && not s
    → new ≡ old || ((is_among offer.defines name && not s) && nat_eq j k) → new ≡ (nat_lt j (k + 1) && defines_at members j name) && not s
member_entered members k j offer name s old new lt is was h =
    let d = defines_at members j name in
    let a = is_among offer.defines name in
    let go : step (nat_lt j k) (nat_eq j k) (nat_lt j (k + 1)) d a s = elim (cases_order j k) [
      | inl e ↦ stepped (nat_lt j k) false (nat_eq j k) true (nat_lt j (k + 1)) true d a s (le-ltb j k (omega (arith, e))) (eq-eqb j k e) (lt-ltb j (k + 1) (omega (arith, e)))
          (this-one d a s (ap (λ n. defines_at members n name) e ∙ ap (λ o. is_among (defines_of o) name) (slice_get_read members (length members) k offer refl lt is)))
      | inr (inl below) ↦ stepped (nat_lt j k) true (nat_eq j k) false (nat_lt j (k + 1)) true d a s (lt-ltb j k below) (ne_eqb j k (λ e. omega (arith, e, below))) (lt-ltb j (k + 1) (omega (arith, below))) (one-before d a s)
      | inr (inr above) ↦ stepped (nat_lt j k) false (nat_eq j k) false (nat_lt j (k + 1)) false d a s (le-ltb j k (omega (arith, above))) (ne_eqb j k (λ e. omega (arith, e, above))) (le-ltb j (k + 1) (omega (arith, above))) (one-behind d a s)
    ] in
    h ∙ ap (λ x. x || ((a && not s) && nat_eq j k)) was ∙ go

pub all_entered : (members : List Offer) (k j : ℕ) (name : Name) (s new : Bool) → length members ≤ k → new ≡ (nat_lt j k && defines_at members j name) && not s → new ≡ defines_at members j name && not s
all_entered members k j name s new le h = elim (cases_lt j k) [
  | inl lt ↦ h ∙ ap (λ b. (b && defines_at members j name) && not s) (lt-ltb j k lt)
  | inr past ↦
      let none : defines_at members j name ≡ false = ap (λ o. is_among (defines_of o) name) (slice_get_past members j (omega (arith, le, past))) in
      h ∙ ap (λ b. (b && defines_at members j name) && not s) (le-ltb j k past) ∙ ap (λ b. b && not s) (sym none)
]
