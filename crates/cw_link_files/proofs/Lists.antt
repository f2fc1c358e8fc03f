-- The list that files come to: what it holds, and how long it is.
use Rattle.std.proofs.Common.{◌≡◌, ℕ, zero, suc, ◌+◌, ◌<◌, ◌≤◌, List, [], ◌∷◌, ◌++◌, length, drop, get_or, sym, ap, ◌∙◌, subst, arith, append_assoc, length-append, inl, inr, ◌⊎◌, All, Contains}
use Rattle.std.specs.Prelude.{slice_index_or}
use Rattle.std.proofs.lemmas.Bool.{cases_lt}
use Rattle.std.proofs.lemmas.Option.{slice_get_within}
use Rattle.std.proofs.lemmas.List.{drop_more, length-map, length-take}
use Rattle.std.proofs.lemmas.List.Elements.{All-from_get_or, All-get_or, All-map, All-weaker, All-take, All-append, Contains-get_or, Contains-append_left, Contains-push, Contains-push_cases}
use Rattle.std.proofs.lemmas.Map.Keys.{sorted_from_strictly_increasing}
use Rattle.std.proofs.lemmas.Map.Views.{length-le_from_below}
use Rattle.cw_view.specs.ObjectFormat.{IsObject}
use Rattle.cw_pick.specs.Selection.{IsClosed, IsSelection}
use Rattle.cw_link_files.specs.Parts.{or_first, picked_of, IsListOf}
use Rattle.cw_link_files.specs.Taken.{AreObjects}
use Rattle.cw_link_files.specs.declared.reading.LinkFiles.{LinkFiles}

-- ---- numbers of members

-- all numbers below this one
abbrev numbers : ℕ → List ℕ
numbers zero = []
numbers (suc n) = numbers n ++ n ∷ []

has_number : (n k : ℕ) → k < n → Contains (numbers n) k
has_number zero k h = absurd (omega (arith, h))
has_number (suc n) k h =
    elim (cases_lt k n) [
      | inl lt ↦ Contains-append_left (numbers n) (n ∷ []) k (has_number n k lt)
      | inr le ↦
          let same : n ≡ k = omega (arith, h, le) in
          subst (λ m. Contains (numbers n ++ n ∷ []) m) same (Contains-push (numbers n) n)
    ]

number_below : (n k : ℕ) → Contains (numbers n) k → k < n
number_below zero k c = absurd (omega (arith, c.1))
number_below (suc n) k c = at (λ d. number_below n k d) (Contains-push_cases (numbers n) n k c)
  where
    at : (Contains (numbers n) k → k < n) → Contains (numbers n) k ⊎ (n ≡ k) → k < suc n
    at below (inl d) = omega (arith, below d)
    at below (inr e) = omega (arith, e)

module _ (given members : List (List ℕ)) (picked : List ℕ) (is : IsSelection given members picked) where
  all_closed : IsClosed given members (numbers (length members))
  all_closed k needed = has_number (length members) k (slice_get_within members k needed.member needed.there)

  -- each picked number is that of a member
  pub picked_below : All (λ k. k < length members) picked
  picked_below = All-from_get_or (λ k. k < length members) picked 0 (λ i h. number_below (length members) (get_or picked i 0) (is.least (numbers (length members)) all_closed (get_or picked i 0) (Contains-get_or picked i 0 h)))

  -- and they are no more than these
  pub picked_few : length picked ≤ length members
  picked_few = length-le_from_below (length members) picked (sorted_from_strictly_increasing picked is.rising) picked_below

  pub picked_objects : All IsObject members → All IsObject (picked_of members picked)
  picked_objects all =
      All-map IsObject (λ k. slice_index_or members k []) picked
      (All-weaker (λ k. k < length members) (λ k. IsObject (slice_index_or members k [])) (λ k h. All-get_or IsObject members k [] h all) picked picked_below)

-- ---- the given objects

pub first_objects : (objects members : List (List ℕ)) → All IsObject objects → All IsObject members → All IsObject (or_first objects members)
first_objects [] members none all = All-take IsObject 1 members all
first_objects (object ∷ objects) members all others = all

first_few : (objects members : List (List ℕ)) → length objects ≤ 200 → length (or_first objects members) ≤ 200
first_few [] members few = omega (arith, length-take 1 members)
first_few (object ∷ objects) members few = few

-- ---- the list

-- of files and the numbers that were picked
module _ (files : LinkFiles) (are : AreObjects files) (given list : List (List ℕ)) (picked : List ℕ) (first : given ≡ or_first files.objects files.members)
    (is : IsSelection given files.members picked) (joined : list ≡ given ++ picked_of files.members picked) where
  pub is_list : IsListOf files.objects files.members list
  is_list = record {
    picked = picked;
    selection = subst (λ g. IsSelection g files.members picked) first is;
    joined = joined ∙ ap (λ g. g ++ picked_of files.members picked) first;
  }

  pub list_objects : All IsObject list
  list_objects = subst (λ xs. All IsObject xs) (sym joined)
      (All-append IsObject given (picked_of files.members picked) (subst (λ xs. All IsObject xs) (sym first) (first_objects files.objects files.members are.objects are.members)) (picked_objects given files.members picked is are.members))

  pub list_short : length list ≤ 40200
  list_short = omega (arith, ap length joined, length-append given (picked_of files.members picked), length-map picked (λ k. slice_index_or files.members k []), ap length first, first_few files.objects files.members are.few, picked_few given files.members picked is, are.fewer)

-- one more picked member behind the list
pub one_more_picked : (members list next total : List (List ℕ)) (picked : List ℕ) (i k : ℕ) (copy : List ℕ) → i < length picked → k ≡ get_or picked i k → copy ≡ slice_index_or members k [] → next ≡ list ++ copy ∷ []
    → list ++ picked_of members (drop i picked) ≡ total → next ++ picked_of members (drop (i + 1) picked) ≡ total
one_more_picked members list next total picked i k copy within is same more so_far =
    ap (λ xs. xs ++ picked_of members (drop (i + 1) picked)) (more ∙ ap (λ x. list ++ x ∷ []) (same ∙ ap (λ n. slice_index_or members n []) is))
    ∙ append_assoc list (slice_index_or members (get_or picked i k) [] ∷ []) (picked_of members (drop (i + 1) picked))
    ∙ ap (λ ns. list ++ picked_of members ns) (sym (drop_more picked i k within)) ∙ so_far

-- one more member of a library behind the others
pub one_more_member : (all members next total : List (List ℕ)) (i : ℕ) (member copy : List ℕ) → i < length all → get_or all i [] ≡ member → copy ≡ member → next ≡ members ++ copy ∷ []
    → members ++ drop i all ≡ total → next ++ drop (i + 1) all ≡ total
one_more_member all members next total i member copy within is same more so_far =
    ap (λ xs. xs ++ drop (i + 1) all) (more ∙ ap (λ x. members ++ x ∷ []) (same ∙ sym is))
    ∙ append_assoc members (get_or all i [] ∷ []) (drop (i + 1) all)
    ∙ ap (λ xs. members ++ xs) (sym (drop_more all i [] within)) ∙ so_far
