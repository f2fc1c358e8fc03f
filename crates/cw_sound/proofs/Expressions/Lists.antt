-- Several trees, one by one, with what is known of each.
use Rattle.std.proofs.Common.{ℕ, List, [], ◌∷◌, Option}
use Rattle.cw_facts.specs.declared.fact.Reading.{Reading}
use Rattle.cw_facts.specs.Uses.{Uses, each_for}
use Rattle.cw_scope.specs.declared.resolve.Named.{Named}
use Rattle.cw_scale.specs.TypeRules.{Judged}
use Rattle.cw_make_expr.specs.Parts.{Numbers}
use Rattle.cw_unit.specs.declared.unit.Unit.{Unit as SourceUnit}
use Rattle.cw_sound.specs.Uses.Stands.{FactsStand}
use Rattle.cw_sound.proofs.Expressions.Several.{Keeping, AllKeeping, none_keeping, more_keeping}
use Rattle.cw_sound.proofs.Expressions.Standing.{split}

-- of what is judged and what is made, with its uses of names and its levels
module _ (M : Type 0) (Known : Judged → M → Uses → ℕ → Type 0) where
  pub data Each : List Judged → List M → List Uses → List ℕ → Type 0 where
    none : Each [] [] [] []
    more : {j : Judged} {m : M} {x : Uses} {l : ℕ} {js : List Judged} {ms : List M} {xs : List Uses} {ls : List ℕ} → Known j m x l → Each js ms xs ls
        → Each (j ∷ js) (m ∷ ms) (x ∷ xs) (l ∷ ls)

-- the same where it is said what they are wanted for
module _ (M : Type 0) (Known : Judged → M → ℕ → Type 0) where
  pub data All : List Judged → List M → List ℕ → Type 0 where
    all_none : All [] [] []
    all_more : {j : Judged} {m : M} {l : ℕ} {js : List Judged} {ms : List M} {ls : List ℕ} → Known j m l → All js ms ls → All (j ∷ js) (m ∷ ms) (l ∷ ls)

  pub all_keeping : ((j : Judged) (m : M) (l : ℕ) → Known j m l → Keeping j) → {js : List Judged} {ms : List M} {ls : List ℕ} → All js ms ls → AllKeeping js
  all_keeping keeps all_none = none_keeping
  all_keeping keeps (all_more {j = j} {m = m} {l = l} v vs) = more_keeping (keeps j m l v) (all_keeping keeps vs)

module _ (named : Named) (numbers : Numbers) (u : SourceUnit) (who : Option ℕ) (M : Type 0) (Known : Reading → Judged → M → ℕ → Type 0) where
  -- what is known where the names that are used stand for right things
  abbrev pub Standing : Judged → M → Uses → ℕ → Type 0
  Standing j m uses l = (r : Reading) → FactsStand named numbers u (uses r) who → Known r j m l

  pub all_stand : (r : Reading) {js : List Judged} {ms : List M} {xs : List Uses} {ls : List ℕ} → Each M Standing js ms xs ls → FactsStand named numbers u (each_for r xs) who
      → All M (Known r) js ms ls
  all_stand r none h = all_none
  all_stand r (more {x = x} {xs = xs} s rest) h =
      let halves = split named numbers u who (x r) (each_for r xs) h in
      all_more (s r halves.0) (all_stand r rest halves.1)
