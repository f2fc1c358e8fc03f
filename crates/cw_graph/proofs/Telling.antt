-- Those that wait for a number are told of its level; in the end all are.
use Rattle.std.proofs.Common.{◌≡◌, ℕ, zero, suc, ◌<◌, ◌≤◌, ◌+◌, List, [], ◌∷◌, ◌++◌, length, set, drop, slice_index, Option, Some, None, is_some, inl, inr, refl, ap, arith, ◌⊎◌, sym, ◌∙◌, subst, drop-cons, add-one}
use Rattle.std.specs.List.{count_by}
use Rattle.std.proofs.lemmas.List.{length-set, drop_all}
use Rattle.std.proofs.lemmas.Bool.{cases_eq}
use Rattle.std.proofs.lemmas.List.Sums.{count_by-le-length}
use Rattle.std.proofs.lemmas.Option.{none-some}
use Rattle.cw_graph.specs.declared.graph.Graph.{Graph}
use Rattle.cw_graph.specs.Rows.{StandsIn, row_of}
use Rattle.cw_graph.specs.Levels.{level_of, AreLevels}
use Rattle.cw_graph.specs.Ranking.{AreRanked, ArePassed, AreWaiting, StandsFrom, AllWait}
use Rattle.cw_graph.proofs.Places.{row_same, row_other}

-- a number of the order is told from its place on, or from the next
from_next : (order : List ℕ) (told c : ℕ) → StandsFrom order told c → (c ≡ slice_index order told) ⊎ StandsFrom order (told + 1) c
from_next order told c (k, (from, (low, is))) =
    elim (cases_eq k told) [
      | inl e ↦ inl (sym is ∙ ap (slice_index order) e)
      | inr ne ↦ inr (k, (omega arith, (low, is)))
    ]

pub all_wait_taken : (g : Graph) (levels : List (Option ℕ)) (order : List ℕ) (waiting : List (List ℕ)) (told : ℕ) → told < length order → slice_index order told < length waiting → AllWait g levels order waiting told [] → AllWait g levels order (set waiting (slice_index order told) []) (told + 1) (row_of waiting (slice_index order told))
all_wait_taken g levels order waiting told low inside w =
    let c = slice_index order told in
    record {
      low = omega arith;
      held = λ a h none. elim (w.held a h none) [
        | inl s ↦ absurd (omega (arith, s.1.0))
        | inr held ↦ elim (cases_eq held.lead c) [
          | inl e ↦ inl (subst (λ (x : ℕ). StandsIn (row_of waiting x) a) e held.waits)
          | inr ne ↦ inr (record {
            lead = held.lead;
            leads = held.leads;
            waits = subst (λ (xs : List ℕ). StandsIn xs a) (sym (row_other waiting c held.lead [] ne)) held.waits;
            comes = elim held.comes [
              | inl open' ↦ inl open'
              | inr s ↦ elim (from_next order told held.lead s) [ inl e ↦ absurd (ne e) | inr t ↦ inr t ]
            ];
          })
        ]
      ];
    }

pub all_told : (g : Graph) (levels : List (Option ℕ)) (order : List ℕ) (waiting : List (List ℕ)) (told : ℕ) → length order ≤ told → AreRanked g levels order → AllWait g levels order waiting told [] → AreLevels g levels
all_told g levels order waiting told end r w = record {
  count = r.size;
  right = r.right;
  lacking = λ a h none. elim (w.held a h none) [
    | inl s ↦ absurd (omega (arith, s.1.0))
    | inr held ↦ elim held.comes [
      | inl open' ↦ (held.leads.0, (held.leads.1.0, ap (level_of levels) held.leads.1.1 ∙ open'))
      | inr s ↦ absurd (omega (arith, s.1.0, s.1.1.0))
    ]
  ];
}

-- ---- at the start no number has a level

no_count : (levels : List (Option ℕ)) → ((a : ℕ) → level_of levels a ≡ None) → count_by is_some levels ≡ 0
no_count [] none = refl
no_count (None ∷ levels) none = no_count levels (λ a. none (suc a))
no_count (Some l ∷ levels) none = absurd (none-some l (sym (none 0)))

pub ranked_begun : (g : Graph) (levels : List (Option ℕ)) → length levels ≡ length g.rows → ((a : ℕ) → level_of levels a ≡ None) → AreRanked g levels []
ranked_begun g levels size none = record {
  size = size;
  within = λ k h. absurd (omega arith);
  right = λ a m is. absurd (none-some m (sym (none a) ∙ is));
  low = λ a m is. absurd (none-some m (sym (none a) ∙ is));
  count = sym (no_count levels none);
}

pub all_wait_begun : (g : Graph) (levels : List (Option ℕ)) (waiting : List (List ℕ)) (all : List ℕ) → length all ≡ length g.rows → ((k : ℕ) → k < length all → slice_index all k ≡ k) → AllWait g levels [] waiting 0 all
all_wait_begun g levels waiting all size is = record {
  low = omega arith;
  held = λ a h none. let inside : a < length all = omega arith in inl (a, (inside, is a inside));
}

pub late_next : (g : Graph) (levels : List (Option ℕ)) (order : List ℕ) (waiting : List (List ℕ)) (told : ℕ) (late : List ℕ) (i : ℕ) → i < length late → AllWait g levels order waiting told (drop i late) → AllWait g levels order waiting told (slice_index late i ∷ drop (i + 1) late)
late_next g levels order waiting told late i low w = subst (λ (xs : List ℕ). AllWait g levels order waiting told xs) (drop-cons late i 0 low ∙ ap (λ n. slice_index late i ∷ drop n late) (sym (add-one i))) w

pub late_end : (g : Graph) (levels : List (Option ℕ)) (order : List ℕ) (waiting : List (List ℕ)) (told : ℕ) (late : List ℕ) (i : ℕ) → length late ≤ i → AllWait g levels order waiting told (drop i late) → AllWait g levels order waiting told []
late_end g levels order waiting told late i le w = subst (λ (xs : List ℕ). AllWait g levels order waiting told xs) (drop_all i late le) w

pub told_next : (g : Graph) (levels levels' : List (Option ℕ)) (order order' : List ℕ) (waiting waiting' waiting'' : List (List ℕ)) (told : ℕ) (late : List ℕ) → told < length order → AreRanked g levels order → AreWaiting g waiting → late ≡ row_of waiting (slice_index order told) → waiting' ≡ set waiting (slice_index order told) [] → ((n : ℕ) → AllWait g levels order waiting' n late → AllWait g levels' order' waiting'' n []) → AllWait g levels order waiting told [] → AllWait g levels' order' waiting'' (told + 1) []
told_next g levels levels' order order' waiting waiting' waiting'' told late low r v taken left settled w =
    let within : slice_index order told < length waiting = omega (arith, r.within told low, v.size) in
    settled (told + 1) (rw (taken, left) (all_wait_taken g levels order waiting told low within w))

pub empty_more : (rows : List (List ℕ)) → ((a : ℕ) → row_of rows a ≡ []) → (a : ℕ) → row_of (rows ++ [] ∷ []) a ≡ []
empty_more [] none zero = refl
empty_more [] none (suc a) = refl
empty_more (row ∷ rows) none zero = none 0
empty_more (row ∷ rows) none (suc a) = empty_more rows (λ b. none (suc b)) a
