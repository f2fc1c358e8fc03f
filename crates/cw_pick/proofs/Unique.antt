-- There is one selection.
use Rattle.std.proofs.Common.{◌≡◌, ℕ, zero, suc, ◌<◌, Bool, true, false, not, ◌&&◌, List, length, map, get_or, Option, Some, None, option_map, slice_get, refl, sym, ap, subst, ◌∙◌, arith, inl, inr}
use Rattle.std.specs.Prelude.{◌||◌, Contains}
use Rattle.std.specs.List.{list_any}
use Rattle.std.proofs.lemmas.Bool.{cases_lt, and_parts, and_from, or_left, or_right, or_cases, false≢true, true≢false, not-true, not_from_false, false_from_ne_true}
use Rattle.std.proofs.lemmas.Option.{slice_get_past, slice_get-map}
use Rattle.cw_view.specs.Splitting.{Bytes}
use Rattle.cw_comm.specs.Agreement.{Name}
use Rattle.cw_pick.specs.declared.offer.Offer.{Offer}
use Rattle.cw_pick.specs.Offers.{offer_of}
use Rattle.cw_pick.specs.Picking.{is_among, lists_of, defines_of, defines_at, lists_at, settles, is_picked_for, starts, leads, Follows, IsLeast, numbers_below}
use Rattle.cw_pick.specs.Selection.{Lists, Defines, IsLinked, IsNeeded, IsClosed, IsSelection, HasOneSelection}
use Rattle.cw_pick.proofs.Bools.{any_some, some_of}
use Rattle.cw_pick.proofs.Least.{start_within, lead_within}
use Rattle.cw_pick.proofs.Members.{map_at, map_contains, contains_map, lists_from, lists_to, defines_is}
use Rattle.cw_pick.proofs.Numbers.{has, passes, rising, same_rising}

-- ---- the rule over offers is the rule

module _ (given members : List Bytes) where
  abbrev needs : List Offer
  needs = map offer_of given

  abbrev offers : List Offer
  offers = map offer_of members

  abbrev IsUndefined : Name → Type 0
  IsUndefined name = (object : Bytes) → Contains given object → Defines object name → ⊥

  undefined-from : (name : Name) → settles needs name ≡ false → IsUndefined name
  undefined-from name e object c d = true≢false (sym (any_some (λ o. is_among o.defines name) needs (offer_of object) (map_contains offer_of given object c) (defines_is object name ∙ d)) ∙ e)

  undefined-to : (name : Name) → IsUndefined name → settles needs name ≡ false
  undefined-to name u = false_from_ne_true (settles needs name) (λ e.
      let o = some_of (λ o. is_among o.defines name) needs e in
      let m = contains_map offer_of given o.x o.there in
      u m.x m.there (sym (defines_is m.x name) ∙ ap (λ (x : Offer). is_among x.defines name) m.is ∙ o.passes))

  record Picks (name : Name) (k : ℕ) : Type 0 where
    member : Bytes
    there : slice_get members k ≡ Some member
    defined : Defines member name
    undefined : IsUndefined name

  picks-at : (name : Name) (k : ℕ) (o : Option Bytes) → slice_get members k ≡ o → is_among (defines_of (option_map offer_of o)) name ≡ true → IsUndefined name → Picks name k
  picks-at name k None is h u = absurd (false≢true h)
  picks-at name k (Some member) is h u = record { member = member; there = is; defined = sym (defines_is member name) ∙ h; undefined = u }

  picks-from : (name : Name) (k : ℕ) → is_picked_for needs offers name k ≡ true → Picks name k
  picks-from name k h =
      let p = and_parts (defines_at offers k name) (not (settles needs name)) h in
      picks-at name k (slice_get members k) refl (ap (λ o. is_among (defines_of o) name) (sym (slice_get-map offer_of members k)) ∙ p.0) (undefined-from name (not-true (settles needs name) p.1))

  picks-to : (name : Name) (k : ℕ) → Picks name k → is_picked_for needs offers name k ≡ true
  picks-to name k p =
      and_from (defines_at offers k name) (not (settles needs name)) (ap (λ o. is_among (defines_of o) name) (map_at offer_of members k p.member p.there) ∙ defines_is p.member name ∙ p.defined)
      (not_from_false (settles needs name) (undefined-to name p.undefined))

  record ListedAt (j : ℕ) (name : Name) : Type 0 where
    member : Bytes
    there : slice_get members j ≡ Some member
    lists : Lists member name

  listed-at : (j : ℕ) (name : Name) (o : Option Bytes) → slice_get members j ≡ o → Contains (lists_of (option_map offer_of o)) name → ListedAt j name
  listed-at j name None is (n, lt, e) = absurd (omega (arith, lt))
  listed-at j name (Some member) is c = record { member = member; there = is; lists = lists_from member name c }

  needed : (others : List ℕ) (name : Name) (k : ℕ) (lister : Bytes) → IsLinked given members others lister → Lists lister name → Picks name k → IsNeeded given members others k
  needed others name k lister linked lists p =
      record { member = p.member; there = p.there; name = name; defined = p.defined; wanted = record { lister = lister; linked = linked; lists = lists; undefined = p.undefined } }

  pub follows : (others : List ℕ) → IsClosed given members others → Follows needs offers others
  follows others closed = record {
    start = λ k h.
        let o = some_of (λ o. list_any (λ name. is_picked_for needs offers name k) o.lists) needs h in
        let n = some_of (λ name. is_picked_for needs offers name k) o.x.lists o.passes in
        let m = contains_map offer_of given o.x o.there in
        closed k (needed others n.x k m.x (inl m.there) (lists_from m.x n.x (subst (λ (x : Offer). Contains x.lists n.x) (sym m.is) n.there)) (picks-from n.x k n.passes));
    lead = λ j k cj h.
        let n = some_of (λ name. is_picked_for needs offers name k) (lists_at offers j) h in
        let l = listed-at j n.x (slice_get members j) refl (subst (λ o. Contains (lists_of o) n.x) (slice_get-map offer_of members j) n.there) in
        closed k (needed others n.x k l.member (inr (j, cj, l.there)) l.lists (picks-from n.x k n.passes));
  }

  starts-to : (name : Name) (k : ℕ) (lister : Bytes) → Contains given lister → Lists lister name → Picks name k → starts needs offers k ≡ true
  starts-to name k lister c l p =
      any_some (λ o. list_any (λ name. is_picked_for needs offers name k) o.lists) needs (offer_of lister) (map_contains offer_of given lister c)
      (any_some (λ name. is_picked_for needs offers name k) (offer_of lister).lists name (lists_to lister name l) (picks-to name k p))

  leads-to : (name : Name) (j k : ℕ) (lister : Bytes) → slice_get members j ≡ Some lister → Lists lister name → Picks name k → leads needs offers j k ≡ true
  leads-to name j k lister at l p =
      any_some (λ name. is_picked_for needs offers name k) (lists_at offers j) name (subst (λ o. Contains (lists_of o) name) (sym (map_at offer_of members j lister at)) (lists_to lister name l)) (picks-to name k p)

  closes : (others : List ℕ) → Follows needs offers others → IsClosed given members others
  closes others f k n =
      let p : Picks n.name k = record { member = n.member; there = n.there; defined = n.defined; undefined = n.wanted.undefined } in
      elim n.wanted.linked [
        | inl c ↦ f.start k (starts-to n.name k n.wanted.lister c n.wanted.lists p)
        | inr (j, cj, at) ↦ f.lead j k cj (leads-to n.name j k n.wanted.lister at n.wanted.lists p)
      ]

  pub selection : (p : ℕ → Bool) → IsLeast needs offers p → IsSelection given members (numbers_below p (length offers))
  selection p l =
      let n = length offers in
      record {
        closed = closes (numbers_below p n) (record {
          start = λ k h. has p n k (start_within needs offers k h) (l.start k h);
          lead = λ j k c h. has p n k (lead_within needs offers j k h) (l.lead j k (passes p n j c) h);
        });
        least = λ others closed k c. l.least others (follows others closed) k (passes p n k c);
        rising = rising p n;
      }

-- ---- there is one: what is reached through the first n numbers

abbrev via : (ℕ → ℕ → Bool) → (n : ℕ) → (ℕ → Bool) → ℕ → Bool
via lead zero start k = start k
via lead (suc n) start k = via lead n start k || (via lead n start n && via lead n (lead n) k)

at-once : (lead : ℕ → ℕ → Bool) (n : ℕ) (start : ℕ → Bool) (k : ℕ) → start k ≡ true → via lead n start k ≡ true
at-once lead zero start k h = h
at-once lead (suc n) start k h = or_left (via lead n start k) (via lead n start n && via lead n (lead n) k) (at-once lead n start k h)

only : (P : ℕ → Type 0) (lead : ℕ → ℕ → Bool) → ((j k : ℕ) → P j → lead j k ≡ true → P k) → (n : ℕ) (start : ℕ → Bool) → ((k : ℕ) → start k ≡ true → P k) → (k : ℕ) → via lead n start k ≡ true → P k
only P lead on zero start base k h = base k h
only P lead on (suc n) start base k h = elim (or_cases (via lead n start k) (via lead n start n && via lead n (lead n) k) h) [
  | inl a ↦ only P lead on n start base k a
  | inr b ↦
      let p = and_parts (via lead n start n) (via lead n (lead n) k) b in
      only P lead on n (lead n) (λ i. on n i (only P lead on n start base n p.0)) k p.1
]

-- the numbers that are reached from n: once in the way, it need not be left again
from-last : (lead : ℕ → ℕ → Bool) (n k : ℕ) → via lead (suc n) (lead n) k ≡ true → via lead n (lead n) k ≡ true
from-last lead n k h = elim (or_cases (via lead n (lead n) k) (via lead n (lead n) n && via lead n (lead n) k) h) [
  | inl a ↦ a
  | inr b ↦ (and_parts (via lead n (lead n) n) (via lead n (lead n) k) b).1
]

to-last : (lead : ℕ → ℕ → Bool) (n : ℕ) (start : ℕ → Bool) → via lead (suc n) start n ≡ true → via lead n start n ≡ true
to-last lead n start h = elim (or_cases (via lead n start n) (via lead n start n && via lead n (lead n) n) h) [
  | inl a ↦ a
  | inr b ↦ (and_parts (via lead n start n) (via lead n (lead n) n) b).0
]

through : (lead : ℕ → ℕ → Bool) (n : ℕ) (start : ℕ → Bool) (k : ℕ) → via lead n start n ≡ true → via lead n (lead n) k ≡ true → via lead (suc n) start k ≡ true
through lead n start k a b = or_right (via lead n start k) (via lead n start n && via lead n (lead n) k) (and_from (via lead n start n) (via lead n (lead n) k) a b)

joined : (lead : ℕ → ℕ → Bool) (n : ℕ) (start : ℕ → Bool) (j k : ℕ) → j < n → via lead n start j ≡ true → via lead n (lead j) k ≡ true → via lead n start k ≡ true
joined lead zero start j k lt a b = absurd (omega (arith, lt))
joined lead (suc n) start j k lt a b = elim (cases_lt j n) [
  | inr past ↦
      let e : j ≡ n = omega (arith, lt, past) in
      through lead n start k (to-last lead n start (subst (λ i. via lead (suc n) start i ≡ true) e a)) (from-last lead n k (subst (λ i. via lead (suc n) (lead i) k ≡ true) e b))
  | inl inside ↦ elim (or_cases (via lead n start j) (via lead n start n && via lead n (lead n) j) a) [
    | inl a₀ ↦ elim (or_cases (via lead n (lead j) k) (via lead n (lead j) n && via lead n (lead n) k) b) [
      | inl b₀ ↦ or_left (via lead n start k) (via lead n start n && via lead n (lead n) k) (joined lead n start j k inside a₀ b₀)
      | inr b₁ ↦
          let q = and_parts (via lead n (lead j) n) (via lead n (lead n) k) b₁ in
          through lead n start k (joined lead n start j n inside a₀ q.0) q.1
    ]
    | inr a₁ ↦
        let p = and_parts (via lead n start n) (via lead n (lead n) j) a₁ in
        elim (or_cases (via lead n (lead j) k) (via lead n (lead j) n && via lead n (lead n) k) b) [
          | inl b₀ ↦ through lead n start k p.0 (joined lead n (lead n) j k inside p.1 b₀)
          | inr b₁ ↦ through lead n start k p.0 (and_parts (via lead n (lead j) n) (via lead n (lead n) k) b₁).1
        ]
  ]
]

abbrev reached : (given members : List Offer) → ℕ → Bool
reached given members = via (leads given members) (length members) (starts given members)

lister-within : (given members : List Offer) (j k : ℕ) → leads given members j k ≡ true → j < length members
lister-within given members j k h = elim (cases_lt j (length members)) [
  | inl lt ↦ lt
  | inr past ↦ absurd (false≢true (sym (ap (λ o. list_any (λ name. is_picked_for given members name k) (lists_of o)) (slice_get_past members j past)) ∙ h))
]

least : (given members : List Offer) → IsLeast given members (reached given members)
least given members =
    let n = length members in
    let lead : ℕ → ℕ → Bool = leads given members in
    let start : ℕ → Bool = starts given members in
    record {
      start = λ k h. at-once lead n start k h;
      lead = λ j k a h. joined lead n start j k (lister-within given members j k h) a (at-once lead n (lead j) k h);
      least = λ others f k h. only (Contains others) lead (λ j i. f.lead j i) n start f.start k h;
    }

-- ---- and no other

same-selection : (given members : List Bytes) (picked others : List ℕ) → IsSelection given members picked → IsSelection given members others → others ≡ picked
same-selection given members picked others s t = same_rising others picked t.rising s.rising (λ k c. t.least picked s.closed k c) (λ k c. s.least others t.closed k c)

pub one_selection : HasOneSelection
one_selection given members =
    let picked : List ℕ = numbers_below (reached (map offer_of given) (map offer_of members)) (length (map offer_of members)) in
    let s : IsSelection given members picked = selection given members (reached (map offer_of given) (map offer_of members)) (least (map offer_of given) (map offer_of members)) in
    (picked, s, λ others t. same-selection given members picked others s t)

-- ---- what the code picks

pub picked_selection : (given members : List Bytes) (from-given from-members seen seen' : List Offer) (flags shown : List Bool) (numbers : List ℕ) → from-given ≡ map offer_of given → from-members ≡ map offer_of members → seen ≡ from-given → seen' ≡ from-members → IsLeast seen seen' (λ k. get_or flags k false)
    → length flags ≡ length seen' → shown ≡ flags → numbers ≡ numbers_below (λ k. get_or shown k false) (length shown) → IsSelection given members numbers
picked_selection given members from-given from-members seen seen' flags shown numbers n o s s' l count same is =
    let p : ℕ → Bool = λ k. get_or flags k false in
    let known : IsLeast (map offer_of given) (map offer_of members) p = subst (λ g. IsLeast g (map offer_of members) p) (s ∙ n) (subst (λ m. IsLeast seen m p) (s' ∙ o) l) in
    let as-told : numbers ≡ numbers_below p (length (map offer_of members)) = is ∙ ap (λ xs. numbers_below (λ k. get_or xs k false) (length xs)) same ∙ ap (numbers_below p) (count ∙ ap length (s' ∙ o)) in
    subst (IsSelection given members) (sym as-told) (selection given members p known)
