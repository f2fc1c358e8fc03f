-- A number is looked at: it waits, or it has its level.
use Rattle.std.proofs.Common.{◌≡◌, ℕ, zero, suc, ◌<◌, ◌≤◌, ◌+◌, List, [], ◌∷◌, ◌++◌, length, set, slice_index, Option, Some, None, inl, inr, refl, ap, arith, ◌⊎◌, sym, ◌∙◌, subst, length-append}
use Rattle.std.proofs.lemmas.List.{length-set, get_or-set_same, get_or-set_other}
use Rattle.std.proofs.lemmas.Bool.{cases_eq, cases_lt}
use Rattle.std.proofs.lemmas.Option.{none-some, same_Some}
use Rattle.cw_graph.specs.declared.graph.Graph.{Graph}
use Rattle.cw_graph.specs.Rows.{StandsIn, row_of, IsWhole}
use Rattle.cw_graph.specs.Levels.{level_of, IsTopOfFirst}
use Rattle.cw_graph.specs.Ranking.{IsLevel, AreRanked, ArePassed, AreWaiting, StandsFrom, IsHeld, AllWait}
use Rattle.cw_graph.proofs.Places.{stands_before, stands_last, from_before, from_last, each_with, level_kept, level_lacked, level_other, count_set, row_same, row_other}

top_kept : (levels : List (Option ℕ)) (a m : ℕ) (row : List ℕ) (n top : ℕ) → level_of levels a ≡ None → IsTopOfFirst levels row n top → IsTopOfFirst (set levels a (Some m)) row n top
top_kept levels a m row n top none t = record {
  all = λ k h. let (l, (is, le)) = t.all k h in (l, (level_kept levels a m (slice_index row k) l none is, le));
  some = elim t.some [ inl z ↦ inl z | inr s ↦ inr (let (k, (h, is)) = s in (k, (h, level_kept levels a m (slice_index row k) top none is))) ];
}

right_kept : (g : Graph) (levels : List (Option ℕ)) (a m b l : ℕ) → level_of levels a ≡ None → IsLevel g levels b l → IsLevel g (set levels a (Some m)) b l
right_kept g levels a m b l none (top, (is, e)) = (top, (top_kept levels a m (row_of g.rows b) (length (row_of g.rows b)) top none is, e))

-- the level of another number, or the one that is new
level_cases : (levels : List (Option ℕ)) (a m b l : ℕ) → a < length levels → level_of (set levels a (Some m)) b ≡ Some l → ((b ≡ a) × (l ≡ m)) ⊎ (level_of levels b ≡ Some l)
level_cases levels a m b l low is =
    elim (cases_eq b a) [
      | inl e ↦ inl (e, same_Some l m (sym is ∙ ap (level_of (set levels a (Some m))) e ∙ get_or-set_same levels a (Some m) None low))
      | inr ne ↦ inr (sym (get_or-set_other levels a b (Some m) None ne) ∙ is)
    ]

pub ranked_closed : (g : Graph) (levels : List (Option ℕ)) (order : List ℕ) (a m : ℕ) → AreRanked g levels order → a < length g.rows → level_of levels a ≡ None → IsLevel g levels a m → m ≤ length order + 1 → AreRanked g (set levels a (Some m)) (order ++ a ∷ [])
ranked_closed g levels order a m r low none right le =
    let inside : a < length levels = omega (arith, r.size) in
    record {
      size = length-set levels a (Some m) ∙ r.size;
      within = each_with (λ b. b < length g.rows) order a r.within low;
      right = λ b l is. elim (level_cases levels a m b l inside is) [
        | inl (e, f) ↦ subst (λ (x : ℕ). IsLevel g (set levels a (Some m)) x l) (sym e) (subst (λ (y : ℕ). IsLevel g (set levels a (Some m)) a y) (sym f) (right_kept g levels a m a m none right))
        | inr old ↦ right_kept g levels a m b l none (r.right b l old)
      ];
      low = λ b l is. elim (level_cases levels a m b l inside is) [
        | inl (e, f) ↦ omega (arith, length-append order (a ∷ []))
        | inr old ↦ let small : l ≤ length order = r.low b l old in omega (arith, length-append order (a ∷ []))
      ];
      count = omega (arith, length-append order (a ∷ []), r.count, count_set levels a m inside none);
    }

-- a row is passed on to a place
pub passed_on : (g : Graph) (levels : List (Option ℕ)) (from : List ℕ) (a place : ℕ) → ArePassed g levels from → a < length g.rows → place ≤ length (row_of g.rows a) → ((k : ℕ) → slice_index from a ≤ k → k < place → level_of levels (slice_index (row_of g.rows a) k) ≡ None → ⊥) → ArePassed g levels (set from a place)
passed_on g levels from a place p low le closed =
    let inside : a < length from = omega (arith, p.size) in
    record {
      size = length-set from a place ∙ p.size;
      within = λ b. elim (cases_eq b a) [
        | inl e ↦ subst (λ (x : ℕ). slice_index (set from a place) x ≤ length (row_of g.rows x)) (sym e) (rw (get_or-set_same from a place 0 inside) le)
        | inr ne ↦ rw (get_or-set_other from a b place 0 ne) (p.within b)
      ];
      passed = λ b k h none. elim (cases_eq b a) [
        | inl e ↦
            let none' : level_of levels (slice_index (row_of g.rows a) k) ≡ None = ap (λ (x : ℕ). level_of levels (slice_index (row_of g.rows x) k)) (sym e) ∙ none in
            let h' : k < place = omega (arith, ap (slice_index (set from a place)) e, get_or-set_same from a place 0 inside) in
            elim (cases_lt k (slice_index from a)) [ inl lt ↦ p.passed a k lt none' | inr ge ↦ closed k ge h' none' ]
        | inr ne ↦ p.passed b k (omega (arith, get_or-set_other from a b place 0 ne)) none
      ];
    }

-- ---- all others wait

-- one of these is the first, or behind it
first_or : (x y : ℕ) (ys : List ℕ) → StandsIn (y ∷ ys) x → (x ≡ y) ⊎ StandsIn ys x
first_or x y ys (zero, (low, is)) = inl (sym is)
first_or x y ys (suc k, (low, is)) = inr (k, (omega arith, is))

stands_still : (waiting : List (List ℕ)) (c a d b : ℕ) → c < length waiting → StandsIn (row_of waiting d) b → StandsIn (row_of (set waiting c (row_of waiting c ++ a ∷ [])) d) b
stands_still waiting c a d b low s =
    let row = row_of waiting c ++ a ∷ [] in
    elim (cases_eq d c) [
      | inl e ↦ subst (λ (xs : List ℕ). StandsIn xs b) (sym (ap (row_of (set waiting c row)) e ∙ row_same waiting c row low)) (stands_before (row_of waiting c) a b (subst (λ (x : ℕ). StandsIn (row_of waiting x) b) e s))
      | inr ne ↦ subst (λ (xs : List ℕ). StandsIn xs b) (sym (row_other waiting c d row ne)) s
    ]

pub all_wait_more : (g : Graph) (levels : List (Option ℕ)) (order : List ℕ) (waiting : List (List ℕ)) (told a c : ℕ) (late : List ℕ) → c < length waiting → StandsIn (row_of g.rows a) c → level_of levels c ≡ None → AllWait g levels order waiting told (a ∷ late) → AllWait g levels order (set waiting c (row_of waiting c ++ a ∷ [])) told late
all_wait_more g levels order waiting told a c late low leads open' w =
    let row = row_of waiting c ++ a ∷ [] in
    let held : IsHeld g levels order (set waiting c row) told a = record {
      lead = c;
      leads = leads;
      waits = subst (λ (xs : List ℕ). StandsIn xs a) (sym (row_same waiting c row low)) (stands_last (row_of waiting c) a);
      comes = inl open';
    } in
    record {
      low = w.low;
      held = λ b inside none. elim (w.held b inside none) [
        | inl s ↦ elim (first_or b a late s) [
          | inl e ↦ inr (subst (λ (x : ℕ). IsHeld g levels order (set waiting c row) told x) (sym e) held)
          | inr t ↦ inl t
        ]
        | inr h ↦ inr (record { lead = h.lead; leads = h.leads; waits = stands_still waiting c a h.lead b low h.waits; comes = h.comes })
      ];
    }

comes_still : (levels : List (Option ℕ)) (order : List ℕ) (a m told c : ℕ) → told ≤ length order → (level_of levels c ≡ None) ⊎ StandsFrom order told c → (level_of (set levels a (Some m)) c ≡ None) ⊎ StandsFrom (order ++ a ∷ []) told c
comes_still levels order a m told c le (inl none) =
    elim (cases_eq c a) [
      | inl e ↦ inr (subst (λ (x : ℕ). StandsFrom (order ++ a ∷ []) told x) (sym e) (from_last order a told le))
      | inr ne ↦ inl (get_or-set_other levels a c (Some m) None ne ∙ none)
    ]
comes_still levels order a m told c le (inr s) = inr (from_before order a told c s)

pub all_wait_closed : (g : Graph) (levels : List (Option ℕ)) (order : List ℕ) (waiting : List (List ℕ)) (told a m : ℕ) (late : List ℕ) → a < length levels → AllWait g levels order waiting told (a ∷ late) → AllWait g (set levels a (Some m)) (order ++ a ∷ []) waiting told late
all_wait_closed g levels order waiting told a m late low w = record {
  low = omega (arith, w.low, length-append order (a ∷ []));
  held = λ b inside none. elim (w.held b inside (level_lacked levels a m b low none)) [
    | inl s ↦ elim (first_or b a late s) [
      | inl e ↦ absurd (level_other levels a m b low none e)
      | inr t ↦ inl t
    ]
    | inr h ↦ inr (record { lead = h.lead; leads = h.leads; waits = h.waits; comes = comes_still levels order a m told h.lead w.low h.comes })
  ];
}

-- ---- as the steps of a look give them

pub ranked_after : (g : Graph) (levels levels' : List (Option ℕ)) (order order' : List ℕ) (a m : ℕ) → AreRanked g levels order → a < length g.rows → level_of levels a ≡ None → IsLevel g levels a m → m ≤ length order + 1 → (levels' ≡ set levels a (Some m)) × (order' ≡ order ++ a ∷ []) → AreRanked g levels' order'
ranked_after g levels levels' order order' a m r low none right le (e, f) = rw (e, f) (ranked_closed g levels order a m r low none right le)

pub all_wait_after : (g : Graph) (levels levels' : List (Option ℕ)) (order order' : List ℕ) (waiting : List (List ℕ)) (told a m : ℕ) (late : List ℕ) → AreRanked g levels order → a < length g.rows → (levels' ≡ set levels a (Some m)) × (order' ≡ order ++ a ∷ []) → AllWait g levels order waiting told (a ∷ late) → AllWait g levels' order' waiting told late
all_wait_after g levels levels' order order' waiting told a m late r low (e, f) w = rw (e, f) (all_wait_closed g levels order waiting told a m late (omega (arith, r.size)) w)

pub all_wait_behind : (g : Graph) (levels : List (Option ℕ)) (order : List ℕ) (waiting waiting' : List (List ℕ)) (told a place : ℕ) (late : List ℕ) → AreWaiting g waiting → IsWhole g → place < length (row_of g.rows a) → level_of levels (slice_index (row_of g.rows a) place) ≡ None → waiting' ≡ set waiting (slice_index (row_of g.rows a) place) (row_of waiting (slice_index (row_of g.rows a) place) ++ a ∷ []) → AllWait g levels order waiting told (a ∷ late) → AllWait g levels order waiting' told late
all_wait_behind g levels order waiting waiting' told a place late v whole low none e w =
    let within : slice_index (row_of g.rows a) place < length g.rows = whole.high a place low in
    rw e (all_wait_more g levels order waiting told a (slice_index (row_of g.rows a) place) late (omega (arith, v.size)) (place, (low, refl)) none w)
