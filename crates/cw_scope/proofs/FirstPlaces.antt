-- One item more in a table that finds the first of each key.
use Rattle.std.proofs.Common.{◌≡◌, ℕ, zero, suc, ◌<◌, Bool, true, false, cond, List, [], ◌∷◌, ◌++◌, length, Option, Some, None, refl, sym, ap, ◌∙◌, arith, slice_get, nat_eq}
use Rattle.std.specs.Prelude.{option_and_then, find}
use Rattle.std.specs.Option.{option_or}
use Rattle.std.specs.Cmp.Lexicographic.{pointwise, nat_list_eq_equiv}
use Rattle.std.proofs.lemmas.List.{length-append}
use Rattle.std.proofs.lemmas.List.Folds.{find-append}
use Rattle.indexmap.specs.IndexMap.{get}
use Rattle.cw_scope.specs.declared.key.Key.{Key}
use Rattle.cw_facts.specs.declared.fact.Declaration.{Declaration}
use Rattle.cw_scope.specs.Scope.{has_name}
use Rattle.cw_scope.specs.Names.{key, key_eq, Finds}
use Rattle.cw_scope.specs.Names as table

module _ {X : Type 0} where
  slice_get-front : (xs : List X) (d : X) (i : ℕ) → i < length xs → slice_get (xs ++ d ∷ []) i ≡ option_or (slice_get xs i) None
  slice_get-front [] d i h = absurd (omega arith)
  slice_get-front (x ∷ xs) d zero h = refl
  slice_get-front (x ∷ xs) d (suc i) h = slice_get-front xs d i (omega arith)

  slice_get-last : (xs : List X) (d : X) → slice_get (xs ++ d ∷ []) (length xs) ≡ Some d
  slice_get-last [] d = refl
  slice_get-last (x ∷ xs) d = slice_get-last xs d

  found-within : (xs : List X) (i : ℕ) → i < length xs → (x : X) × (slice_get xs i ≡ Some x)
  found-within [] i h = absurd (omega arith)
  found-within (x ∷ xs) zero h = (x, refl)
  found-within (x ∷ xs) (suc i) h = found-within xs i (omega arith)

  module _ (all : List X) (d : X) (has : X → Bool) where
    -- by what the table has of the key, and whether the new one has it
    each_at : (g : Option ℕ) (b : Bool) → ((i : ℕ) → g ≡ Some i → i < length all) → option_and_then (slice_get all) g ≡ find has all → has d ≡ b
        → option_and_then (slice_get (all ++ d ∷ [])) (option_or g (cond b (Some (length all)) None)) ≡ find has (all ++ d ∷ [])
    each_at (Some i) b inside e h =
        let at = found-within all i (inside i refl) in
        slice_get-front all d i (inside i refl) ∙ ap (λ o. option_or o None) at.1 ∙ sym (find-append has all (d ∷ []) ∙ ap (λ o. option_or o (find has (d ∷ []))) (sym e ∙ at.1))
    each_at None true inside e h =
        slice_get-last all d ∙ sym (find-append has all (d ∷ []) ∙ ap (λ o. option_or o (find has (d ∷ []))) (sym e) ∙ ap (λ b. cond b (Some d) None) h)
    each_at None false inside e h =
        sym (find-append has all (d ∷ []) ∙ ap (λ o. option_or o (find has (d ∷ []))) (sym e) ∙ ap (λ b. cond b (Some d) None) h)

    inside_at : (g : Option ℕ) (b : Bool) (i : ℕ) → ((j : ℕ) → g ≡ Some j → j < length all) → option_or g (cond b (Some (length all)) None) ≡ Some i → i < length (all ++ d ∷ [])
    inside_at (Some j) b i inside e = omega (arith, inside i e, length-append all (d ∷ []))
    inside_at None true i inside e = let same : length all ≡ i = cc in omega (arith, same, length-append all (d ∷ []))
    inside_at None false i inside e = absurd cc

pub finds-more : (old new : table.Places) (all : List Declaration) (d : Declaration) (k : Key) (at : ℕ) → k.name ≡ d.name.name → at ≡ length all → Finds old all → table.NotesFirst old new k at → Finds new (all ++ d ∷ [])
finds-more old new all d k at e n h notes =
    let same = λ (q : List ℕ). ap (λ (name : List ℕ). pointwise nat_eq name q) e ∙ sym (nat_list_eq_equiv.symm q d.name.name) in
    let noted = λ (q : List ℕ). notes (key q) ∙ ap (λ (m : ℕ). option_or (get key_eq old (key q)) (cond (key_eq k (key q)) (Some m) None)) n
    ∙ ap (λ (b : Bool). option_or (get key_eq old (key q)) (cond b (Some (length all)) None)) (same q) in
    record {
      each = λ q. ap (option_and_then (slice_get (all ++ d ∷ []))) (noted q) ∙ each_at all d (has_name q) (get key_eq old (key q)) (has_name q d) (h.inside q) (h.each q) refl;
      inside = λ q i f. inside_at all d (has_name q) (get key_eq old (key q)) (has_name q d) i (h.inside q) (sym (noted q) ∙ f);
    }
