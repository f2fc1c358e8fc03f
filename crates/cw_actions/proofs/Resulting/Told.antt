-- What is told of the files of a call, by their names.
use Rattle.std.proofs.Common.{◌≡◌, ℕ, ◌-◌, ◌≤◌, List, [], ◌∷◌, map, take, drop, length, refl, ap, ◌∙◌, subst, arith}
use Rattle.std.proofs.lemmas.List.{length-drop, take_all}
use Rattle.std.specs.Prelude.{slice_index_or}
use Rattle.std.specs.Borrow.{Bor}
use Rattle.cw_io.specs.File.{Told}
use Rattle.cw_unit.specs.declared.unit.Unit.{Unit as SourceUnit}
use Rattle.cw_compile.specs.Texts.{text_limit}
use Rattle.cw_say.specs.declared.status.Status.{Status}
use Rattle.cw_files.specs.Texts.{HasUnit, HasObject, object_limit}
use Rattle.cw_files.specs.Reading.{Counts, AllTaken, Stopped, StopsTexts, StopsObjects}
use Rattle.cw_actions.proofs.Resulting.Readings.{map_twice}

-- a name that stands alone
pub one_name : (names : List (List ℕ)) → length names ≤ 1 → 1 ≤ length names → names ≡ slice_index_or names 0 [] ∷ []
one_name [] few some = absurd (omega (arith, some))
one_name (name ∷ []) few some = refl
one_name (name ∷ other ∷ names) few some = absurd (omega (arith, few))

module _ (file : List ℕ → Told) where
  pub same_told : (names : List (Bor (List ℕ))) → map (λ name. file name.now) names ≡ map file (map (λ name. name.now) names)
  same_told names = map_twice file (λ (name : Bor (List ℕ)). name.now) names

  module _ (names : List (Bor (List ℕ))) where
    pub units_taken : (us : List SourceUnit) → AllTaken text_limit HasUnit (map (λ name. file name.now) names) us → AllTaken text_limit HasUnit (map file (map (λ name. name.now) names)) us
    units_taken us x = subst (λ files. AllTaken text_limit HasUnit files us) (same_told names) x

    pub objects_taken : (objects : List (List ℕ)) → AllTaken object_limit HasObject (map (λ name. file name.now) names) objects → AllTaken object_limit HasObject (map file (map (λ name. name.now) names)) objects
    objects_taken objects x = subst (λ files. AllTaken object_limit HasObject files objects) (same_told names) x

    pub units_stopped : (before after : Counts) (s : Status) → Stopped text_limit HasUnit (λ texts taken. StopsTexts (map (λ name. file name.now) names) texts taken before after s) (map (λ name. file name.now) names)
        → Stopped text_limit HasUnit (λ texts taken. StopsTexts (map file (map (λ name. name.now) names)) texts taken before after s) (map file (map (λ name. name.now) names))
    units_stopped before after s x = subst (λ files. Stopped text_limit HasUnit (λ texts taken. StopsTexts files texts taken before after s) files) (same_told names) x

    pub objects_stopped : (before after : Counts) (s : Status) → Stopped object_limit HasObject (λ texts taken. StopsObjects (map (λ name. file name.now) names) texts taken before after s) (map (λ name. file name.now) names)
        → Stopped object_limit HasObject (λ texts taken. StopsObjects (map file (map (λ name. name.now) names)) texts taken before after s) (map file (map (λ name. name.now) names))
    objects_stopped before after s x = subst (λ files. Stopped object_limit HasObject (λ texts taken. StopsObjects files texts taken before after s) files) (same_told names) x

  -- of one file
  pub told_one : (names : List (List ℕ)) → length names ≤ 1 → 1 ≤ length names → map file names ≡ file (slice_index_or names 0 []) ∷ []
  told_one names few some = ap (λ all. map file all) (one_name names few some)

-- ---- names behind the first

pub behind_first : {A B : Type 0} (f : A → B) (xs : List A) → map f (drop 1 xs) ≡ drop 1 (map f xs)
behind_first f [] = refl
behind_first f (x ∷ xs) = refl

abbrev pub behind : List (Bor (List ℕ)) → List (Bor (List ℕ))
behind names = take (length names - 1) (drop 1 names)

module _ (names : List (Bor (List ℕ))) where
  all_behind : behind names ≡ drop 1 names
  all_behind = take_all (length names - 1) (drop 1 names) (omega (arith, length-drop 1 names))

  pub names_behind : map (λ name. name.now) (behind names) ≡ drop 1 (map (λ name. name.now) names)
  names_behind = ap (λ (others : List (Bor (List ℕ))). map (λ name. name.now) others) all_behind ∙ behind_first (λ (name : Bor (List ℕ)). name.now) names

  pub count_behind : length (behind names) ≡ length names - 1
  count_behind = ap (λ (others : List (Bor (List ℕ))). length others) all_behind ∙ length-drop 1 names

pub first_named : (names : List (Bor (List ℕ))) (d : Bor (List ℕ)) → 1 ≤ length names → (slice_index_or names 0 d).now ≡ slice_index_or (map (λ name. name.now) names) 0 []
first_named [] d some = absurd (omega (arith, some))
first_named (name ∷ names) d some = refl
