-- Lists that are written at a place or grow by one.
use Rattle.std.proofs.Common.{◌≡◌, ◌≢◌, ℕ, ◌<◌, ◌≤◌, ◌+◌, List, [], ◌∷◌, ◌++◌, length, get_or, set, slice_index, cond, Option, Some, None, is_some, inl, inr, ap, arith, sym, ◌∙◌, subst, length-append}
use Rattle.std.specs.List.{count_by}
use Rattle.std.proofs.lemmas.List.{get_or-set_same, get_or-set_other}
use Rattle.std.proofs.lemmas.List.Sums.{sum_by-set}
use Rattle.std.proofs.lemmas.Bool.{cases_eq}
use Rattle.std.proofs.lemmas.Option.{none-some}
use Rattle.std.proofs.Math.ListN.{get_or-append}
use Rattle.std.proofs.Math.Seq.{get_or-append_seam}
use Rattle.cw_graph.specs.Rows.{StandsIn, row_of}
use Rattle.cw_graph.specs.Levels.{level_of}
use Rattle.cw_graph.specs.Ranking.{StandsFrom}

-- ---- a list that grows by one

pub stands_before : (xs : List ℕ) (y x : ℕ) → StandsIn xs x → StandsIn (xs ++ y ∷ []) x
stands_before xs y x (k, (low, is)) = (k, (rw length-append (omega arith), get_or-append xs (y ∷ []) 0 k low ∙ is))

pub stands_last : (xs : List ℕ) (y : ℕ) → StandsIn (xs ++ y ∷ []) y
stands_last xs y = (length xs, (rw length-append (omega arith), get_or-append_seam xs y [] 0))

pub from_before : (xs : List ℕ) (y i x : ℕ) → StandsFrom xs i x → StandsFrom (xs ++ y ∷ []) i x
from_before xs y i x (k, (from, (low, is))) = (k, (from, (rw length-append (omega arith), get_or-append xs (y ∷ []) 0 k low ∙ is)))

pub from_last : (xs : List ℕ) (y i : ℕ) → i ≤ length xs → StandsFrom (xs ++ y ∷ []) i y
from_last xs y i le = (length xs, (le, (rw length-append (omega arith), get_or-append_seam xs y [] 0)))

-- what holds of each number, where it holds of one more
pub each_with : (P : ℕ → Type 0) (xs : List ℕ) (y : ℕ) → ((k : ℕ) → k < length xs → P (slice_index xs k)) → P y → (k : ℕ) → k < length (xs ++ y ∷ []) → P (slice_index (xs ++ y ∷ []) k)
each_with P xs y each last k low =
    let low' : k < length xs + 1 = rw length-append at low in
    elim (cases_eq k (length xs)) [
      | inl e ↦ subst P (sym (ap (λ i. get_or (xs ++ y ∷ []) i 0) e ∙ get_or-append_seam xs y [] 0)) last
      | inr ne ↦ let in_xs : k < length xs = omega arith in subst P (sym (get_or-append xs (y ∷ []) 0 k in_xs)) (each k in_xs)
    ]

-- ---- a level more

pub level_kept : (levels : List (Option ℕ)) (a m b l : ℕ) → level_of levels a ≡ None → level_of levels b ≡ Some l → level_of (set levels a (Some m)) b ≡ Some l
level_kept levels a m b l none is =
    elim (cases_eq b a) [
      | inl e ↦ absurd (none-some l (sym none ∙ sym (ap (level_of levels) e) ∙ is))
      | inr ne ↦ get_or-set_other levels a b (Some m) None ne ∙ is
    ]

pub level_lacked : (levels : List (Option ℕ)) (a m b : ℕ) → a < length levels → level_of (set levels a (Some m)) b ≡ None → level_of levels b ≡ None
level_lacked levels a m b low none =
    elim (cases_eq b a) [
      | inl e ↦ absurd (none-some m (sym none ∙ ap (level_of (set levels a (Some m))) e ∙ get_or-set_same levels a (Some m) None low))
      | inr ne ↦ sym (get_or-set_other levels a b (Some m) None ne) ∙ none
    ]

-- a number that lacks a level is not the one that got it
pub level_other : (levels : List (Option ℕ)) (a m b : ℕ) → a < length levels → level_of (set levels a (Some m)) b ≡ None → b ≢ a
level_other levels a m b low none e =
    none-some m (sym none ∙ ap (level_of (set levels a (Some m))) e ∙ get_or-set_same levels a (Some m) None low)

pub count_set : (levels : List (Option ℕ)) (a m : ℕ) → a < length levels → level_of levels a ≡ None → count_by is_some (set levels a (Some m)) ≡ count_by is_some levels + 1
count_set levels a m low none =
    let counted : Option ℕ → ℕ = λ o. cond (is_some o) 1 0 in
    omega (arith, sum_by-set counted levels a (Some m) None low, ap counted none)

-- ---- a row that is written

pub row_same : (rows : List (List ℕ)) (c : ℕ) (row : List ℕ) → c < length rows → row_of (set rows c row) c ≡ row
row_same rows c row low = get_or-set_same rows c row [] low

pub row_other : (rows : List (List ℕ)) (c d : ℕ) (row : List ℕ) → d ≢ c → row_of (set rows c row) d ≡ row_of rows d
row_other rows c d row ne = get_or-set_other rows c d row [] ne
