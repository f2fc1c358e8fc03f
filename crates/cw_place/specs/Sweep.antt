-- The ranges of absolute families in order of their starts, passed one after another.
use Rattle.std.specs.Prelude.{◌≤◌, ◌<◌, ℕ, ◌+◌, ◌^◌, nat_eq, List, [], ◌∷◌, length, map, slice_index_or, flat_map, if◌then◌else◌}
use Rattle.cw_unit.specs.declared.layout.Family.{Family}
use Rattle.cw_unit.specs.declared.layout.Sort.{Sort}
use Rattle.cw_unit.specs.declared.layout.Sort.TheVariants as sort
use Rattle.cw_unit.specs.Allocation.{Range}
use Rattle.cw_place.specs.declared.space.Space.{Space}
use Rattle.cw_place.specs.declared.sweep.Span.{Span}

abbrev pub Number : Type 0
Number = ℕ

abbrev pub range_of : Span → Range
range_of s = record { start = s.start; end = s.end }

abbrev pub ranges_of : List Span → List Range
ranges_of ss = map range_of ss

-- the words of a span with a number
abbrev pub start_at : List Span → ℕ → ℕ
start_at ss k = (slice_index_or ss k (record { start = 0; end = 0 })).start

abbrev pub end_at : List Span → ℕ → ℕ
end_at ss k = (slice_index_or ss k (record { start = 0; end = 0 })).end

-- none is empty, and each starts not before the one before
pub record IsSwept (ss : List Span) : Type 0 where
  pub some : (k : ℕ) → k < length ss → start_at ss k < end_at ss k
  pub rising : (j k : ℕ) → j ≤ k → k < length ss → start_at ss j ≤ start_at ss k

-- the first n of them end before an address
abbrev pub ArePassed : List Span → (n address : ℕ) → Type 0
ArePassed ss n address = (k : ℕ) → k < n → end_at ss k ≤ address

-- ---- the spans of absolute families

-- it has words, and what 16 bits name and 32 bits count ends there
pub record IsSpan (s : Span) : Type 0 where
  pub some : s.start < s.end
  pub near : s.end < 2 ^ 33

abbrev pub span_at : Sort → (extent : ℕ) → List Span
span_at (sort.Absolute a) extent = if nat_eq extent 0 then [] else record { start = a; end = a + extent } ∷ []
span_at _ extent = []

abbrev pub span_of : Family → List Span
span_of f = span_at f.sort f.extent

abbrev pub spans_in : List Space → List Span
spans_in spaces = flat_map (λ (s : Space). flat_map span_of s.families) spaces
