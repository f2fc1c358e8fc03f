-- A number more that is reached.
use Rattle.std.proofs.Common.{◌≡◌, ℕ, suc, ◌<◌, ◌≤◌, ◌+◌, List, [], ◌∷◌, ◌++◌, length, set, slice_index, Bool, true, false, cond, inl, inr, refl, ap, arith, ◌⊎◌, sym, ◌∙◌, subst, length-append}
use Rattle.std.specs.List.{count_by}
use Rattle.std.proofs.lemmas.List.{length-set, get_or-set_same, get_or-set_other}
use Rattle.std.proofs.lemmas.List.Sums.{sum_by-set, count_by-le-length}
use Rattle.std.proofs.lemmas.Bool.{cases_eq}
use Rattle.std.proofs.Math.ListN.{get_or-append}
use Rattle.cw_graph.specs.declared.graph.Graph.{Graph}
use Rattle.cw_graph.specs.Chains.{lead}
use Rattle.cw_graph.specs.Rows.{StandsIn, row_of}
use Rattle.cw_graph.specs.Reaching.{flag_of, IsListed, AreReached, AreVisited, Grows, AreSpread}
use Rattle.cw_graph.proofs.Places.{stands_before, stands_last, each_with}

flag_kept : (flags : List Bool) (a b : ℕ) → a < length flags → flag_of flags b ≡ true → flag_of (set flags a true) b ≡ true
flag_kept flags a b low is =
    elim (cases_eq b a) [
      | inl e ↦ ap (flag_of (set flags a true)) e ∙ get_or-set_same flags a true false low
      | inr ne ↦ get_or-set_other flags a b true false ne ∙ is
    ]

flag_cases : (flags : List Bool) (a b : ℕ) → flag_of (set flags a true) b ≡ true → (b ≡ a) ⊎ (flag_of flags b ≡ true)
flag_cases flags a b is =
    elim (cases_eq b a) [
      | inl e ↦ inl e
      | inr ne ↦ inr (sym (get_or-set_other flags a b true false ne) ∙ is)
    ]

pub flag_set : (flags : List Bool) (a : ℕ) → a < length flags → flag_of (set flags a true) a ≡ true
flag_set flags a low = get_or-set_same flags a true false low

count_more : (flags : List Bool) (a : ℕ) → a < length flags → flag_of flags a ≡ false → count_by (λ b. b) (set flags a true) ≡ count_by (λ b. b) flags + 1
count_more flags a low none =
    let counted : Bool → ℕ = λ b. cond b 1 0 in
    omega (arith, sum_by-set counted flags a true false low, ap counted none)

pub visited_more : (g : Graph) (flags flags' : List Bool) (order order' : List ℕ) (a : ℕ) → AreVisited g flags order → a < length g.rows → flag_of flags a ≡ false → IsListed g a → (flags' ≡ set flags a true) × (order' ≡ order ++ a ∷ []) → AreVisited g flags' order'
visited_more g flags flags' order order' a v low none listed (e, f) =
    let inside : a < length flags = omega (arith, v.size) in
    rw (e, f) (record {
      size = length-set flags a true ∙ v.size;
      within = each_with (λ b. b < length g.rows) order a v.within low;
      count = omega (arith, length-append order (a ∷ []), v.count, count_more flags a inside none);
      right = λ b is. elim (flag_cases flags a b is) [
        | inl same ↦ subst (λ (x : ℕ). IsListed g x) (sym same) listed
        | inr old ↦ v.right b old
      ];
      listed = λ b is. elim (flag_cases flags a b is) [
        | inl same ↦ subst (λ (x : ℕ). StandsIn (order ++ a ∷ []) x) (sym same) (stands_last order a)
        | inr old ↦ stands_before order a b (v.listed b old)
      ];
      marked = each_with (λ b. flag_of (set flags a true) b ≡ true) order a (λ k h. flag_kept flags a (slice_index order k) inside (v.marked k h)) (flag_set flags a inside);
    })

no_flags : (flags : List Bool) → ((a : ℕ) → flag_of flags a ≡ false) → count_by (λ b. b) flags ≡ 0
no_flags [] none = refl
no_flags (false ∷ flags) none = no_flags flags (λ a. none (suc a))
no_flags (true ∷ flags) none = absurd (let no : true ≡ false = none 0 in cc)

pub visited_begun : (g : Graph) (flags : List Bool) → length flags ≡ length g.rows → ((a : ℕ) → flag_of flags a ≡ false) → AreVisited g flags []
visited_begun g flags size none =
    let never : (a : ℕ) → flag_of flags a ≡ true → ⊥ = λ a is. cc (none a) in
    record {
      size = size;
      within = λ k h. absurd (omega arith);
      count = sym (no_flags flags none);
      right = λ a is. absurd (never a is);
      listed = λ a is. absurd (never a is);
      marked = λ k h. absurd (omega arith);
    }

-- the row of a number that is reached is reached
pub row_listed : (g : Graph) (flags : List Bool) (order : List ℕ) (told k : ℕ) → AreVisited g flags order → told < length order → k < length (row_of g.rows (slice_index order told)) → IsListed g (slice_index (row_of g.rows (slice_index order told)) k)
row_listed g flags order told k v low h =
    let a = slice_index order told in
    lead a (slice_index (row_of g.rows a) k) (v.right a (v.marked told low)) (k, (h, refl))

pub spread_more : (g : Graph) (flags flags' : List Bool) (order order' : List ℕ) (told : ℕ) → told < length order → Grows flags order flags' order' → ((k : ℕ) → k < length (row_of g.rows (slice_index order told)) → flag_of flags' (slice_index (row_of g.rows (slice_index order told)) k) ≡ true) → AreSpread g flags order told → AreSpread g flags' order' (told + 1)
spread_more g flags flags' order order' told low grows row before m b h stands =
    let low' : m < length order = omega arith in
    let stands' = subst (λ (x : ℕ). StandsIn (row_of g.rows x) b) (grows.same m low') stands in
    elim (cases_eq m told) [
      | inl e ↦
          let (k, (inside, is)) = subst (λ (x : ℕ). StandsIn (row_of g.rows (slice_index order x)) b) e stands' in
          sym (ap (flag_of flags') is) ∙ row k inside
      | inr ne ↦ grows.kept b (before m b (omega arith) stands')
    ]

pub all_spread : (g : Graph) (flags : List Bool) (order : List ℕ) (told : ℕ) → length order ≤ told → AreVisited g flags order → ((a : ℕ) → a < g.bodies → flag_of flags a ≡ true) → AreSpread g flags order told → AreReached g flags
all_spread g flags order told end v bodies spread = record {
  bodies = bodies;
  rows = λ a b is stands.
      let (m, (low, at')) = v.listed a is in
      spread m b (omega arith) (subst (λ (x : ℕ). StandsIn (row_of g.rows x) b) (sym at') stands);
  right = v.right;
}
