-- The greatest level of one number more.
use Rattle.std.proofs.Common.{◌≡◌, ℕ, ◌<◌, ◌≤◌, ◌+◌, List, slice_index, Option, Some, inl, inr, arith}
use borrow.Author.Count.{below_more}
use Rattle.cw_graph.specs.Levels.{level_of, StandsAs, IsTopOfFirst}

raise : (levels : List (Option ℕ)) (row : List ℕ) (n m : ℕ) → StandsAs levels row n m → StandsAs levels row (n + 1) m
raise levels row n m (k, (low, is)) = (k, (omega arith, is))

pub top_same : (levels : List (Option ℕ)) (row : List ℕ) (n top m : ℕ) → IsTopOfFirst levels row n top → level_of levels (slice_index row n) ≡ Some m → m ≤ top → IsTopOfFirst levels row (n + 1) top
top_same levels row n top m t e le = record {
  all = below_more (λ k. (m : ℕ) × ((level_of levels (slice_index row k) ≡ Some m) × (m ≤ top))) n t.all (m, (e, le));
  some = elim t.some [ inl z ↦ inl z | inr s ↦ inr (raise levels row n top s) ];
}

pub top_new : (levels : List (Option ℕ)) (row : List ℕ) (n top m : ℕ) → IsTopOfFirst levels row n top → level_of levels (slice_index row n) ≡ Some m → top < m → IsTopOfFirst levels row (n + 1) m
top_new levels row n top m t e lt = record {
  all = below_more (λ k. (l : ℕ) × ((level_of levels (slice_index row k) ≡ Some l) × (l ≤ m))) n (λ k h. let (l, (is, le)) = t.all k h in (l, (is, omega arith))) (m, (e, omega arith));
  some = inr (n, (omega arith, e));
}
