-- The first row of a token, and one row more.
use Rattle.std.proofs.Common.{◌≡◌, ℕ, zero, suc, Bool, true, false, cond, List, [], ◌∷◌, ◌++◌, length, Option, Some, None, refl, sym, ap, ◌∙◌, arith, slice_get, nat_eq}
use Rattle.std.specs.Prelude.{option_and_then, option_map, find}
use Rattle.std.specs.Option.{option_or}
use Rattle.std.proofs.lemmas.Bool.Decides.{nat_tests}
use Rattle.cw_table.specs.declared.table.Row.{Row}
use Rattle.cw_table.specs.Rows.{Places, place_in, stands_at, place_at, Finds, NotesFirst}

swapped : (a b : ℕ) → nat_eq a b ≡ nat_eq b a
swapped a b = grind (arith, nat_tests)

module _ {T : Type 0} where
  pub found_at : (rs : List (Row T)) (token : ℕ) → option_and_then (slice_get rs) (place_at rs token) ≡ find (stands_at token) rs
  found_at [] token = refl
  found_at (r ∷ rs) token = by_test (stands_at token r) (found_at rs token)
    where
      behind : (o : Option ℕ) → option_and_then (slice_get (r ∷ rs)) (option_map suc o) ≡ option_and_then (slice_get rs) o
      behind None = refl
      behind (Some i) = refl

      by_test : (b : Bool) → option_and_then (slice_get rs) (place_at rs token) ≡ find (stands_at token) rs → option_and_then (slice_get (r ∷ rs)) (cond b (Some 0) (option_map suc (place_at rs token))) ≡ cond b (Some r) (find (stands_at token) rs)
      by_test true h = refl
      by_test false h = behind (place_at rs token) ∙ h

  place_in_more : (rs : List (Row T)) (r : Row T) (token : ℕ) → place_at (rs ++ r ∷ []) token ≡ option_or (place_at rs token) (cond (nat_eq r.token token) (Some (length rs)) None)
  place_in_more [] r token = by_test (nat_eq r.token token) (swapped token r.token)
    where
      by_test : (b : Bool) → nat_eq token r.token ≡ b → cond (nat_eq token r.token) (Some zero) None ≡ cond b (Some zero) None
      by_test b e = ap (λ c. cond c (Some zero) None) e
  place_in_more (x ∷ xs) r token = by_test (stands_at token x) (behind _ (place_at xs token) (nat_eq r.token token) (place_in_more xs r token))
    where
      behind : (o p : Option ℕ) (b : Bool) → o ≡ option_or p (cond b (Some (length xs)) None) → option_map suc o ≡ option_or (option_map suc p) (cond b (Some (suc (length xs))) None)
      behind o None true e = ap (option_map suc) e
      behind o None false e = ap (option_map suc) e
      behind o (Some i) b e = ap (option_map suc) e

      by_test : (b : Bool) → option_map suc (place_at (xs ++ r ∷ []) token) ≡ option_or (option_map suc (place_at xs token)) (cond (nat_eq r.token token) (Some (suc (length xs))) None)
          → cond b (Some 0) (option_map suc (place_at (xs ++ r ∷ []) token)) ≡ option_or (cond b (Some 0) (option_map suc (place_at xs token))) (cond (nat_eq r.token token) (Some (suc (length xs))) None)
      by_test true h = refl
      by_test false h = h

  pub finds_more : (old new : Places) (rs : List (Row T)) (r : Row T) (k at : ℕ) → k ≡ r.token → at ≡ length rs → Finds old rs → NotesFirst old new k at → Finds new (rs ++ r ∷ [])
  finds_more old new rs r k at e n h notes =
      let numbered = λ (token : ℕ).
      notes token
      ∙ ap (λ (m : ℕ). option_or (place_in old token) (cond (nat_eq m token) (Some at) None)) e
      ∙ ap (λ (m : ℕ). option_or (place_in old token) (cond (nat_eq r.token token) (Some m) None)) n
      ∙ ap (λ (o : Option ℕ). option_or o (cond (nat_eq r.token token) (Some (length rs)) None)) (h.numbered token)
      ∙ sym (place_in_more rs r token) in
      record {
        numbered = numbered;
        found = λ token. ap (λ (o : Option ℕ). option_and_then (slice_get (rs ++ r ∷ [])) o) (numbered token) ∙ found_at (rs ++ r ∷ []) token;
      }
