-- The units whose orders do what they mean.
use Rattle.std.specs.Prelude.{◌≡◌, ℕ, suc, nat_le, ◌≤◌, List, [], ◌∷◌, length, Bool, true, ◌&&◌, Option, Some, None, slice_get, IsTrue}
use Rattle.cw_unit.specs.declared.unit.Unit.{Unit as SourceUnit}
use Rattle.cw_unit.specs.declared.unit.Proc.{Proc}
use Rattle.cw_unit.specs.declared.unit.Param.{Param}
use Rattle.cw_unit.specs.declared.unit.Param.TheVariants as param
use Rattle.cw_unit.specs.declared.layout.Limits.{Limits}
use Rattle.cw_unit.specs.declared.layout.Map.{Map}
use Rattle.cw_unit.specs.StackBound.{control_need}
use Rattle.cw_unit.specs.ValidStorage.{ValidStorageMap}
use Rattle.cw_gen_expr.specs.NamedItems.{ItemsFit, has_words}
use Rattle.cw_gen_unit.specs.BuiltStatements.{is_statement}
use Rattle.cw_gen_unit.specs.ReferenceUnits.{answer_of}

-- which items have words, in the body of a segment or a procedure of a unit
abbrev pub HasWords : Type 0
HasWords = (segment : ℕ) → SourceUnit → (who : Option ℕ) → (item words : ℕ) → Bool

-- each body has orders that do what it means, and no procedure has more than 32 parameters
pub record Built (us : List SourceUnit) (h : HasWords) : Type 0 where
  pub bodies : (g : ℕ) (u : SourceUnit) → slice_get us g ≡ Some u → IsTrue (is_statement u (h g u None) None 0 u.body 64)
  pub procedures : (g p : ℕ) (u : SourceUnit) (q : Proc) → slice_get us g ≡ Some u → slice_get u.procs p ≡ Some q
      → IsTrue (is_statement u (h g u (Some p)) (Some p) (answer_of u (Some p)) q.body 64)
  pub few : (g p : ℕ) (u : SourceUnit) (q : Proc) → slice_get us g ≡ Some u → slice_get u.procs p ≡ Some q → length q.params ≤ 32
  pub items : (g p : ℕ) (u : SourceUnit) (q : Proc) → slice_get us g ≡ Some u → slice_get u.procs p ≡ Some q
      → ItemsFit (λ i. IsTrue (h g u (Some p) i 1)) q.params

-- where the items that a body may name are those that it has
abbrev pub AllBuilt : List SourceUnit → Type 0
AllBuilt us = Built us (λ g u who. has_words u who)

-- what the orders need of the storage map, the limits and the words of the control stack: a valid map, a data area whose addresses are
-- positive words, and the need of the units as room
pub record Suits (us : List SourceUnit) (m : Map) (limits : Limits) (room : ℕ) : Type 0 where
  pub valid : ValidStorageMap us limits m
  pub area : limits.area ≤ 32768
  pub has_room : control_need us limits.depth ≤ room

-- ---- what is built, as a test

abbrev pub item_fits : (ℕ → Bool) → Param → Bool
item_fits f (param.Value i s) = f i
item_fits f (param.Location i s) = f i
item_fits f (param.Array i s) = f i
item_fits f (param.Table i n) = f i
item_fits f _ = true

abbrev pub items_fit : (ℕ → Bool) → List Param → Bool
items_fit f [] = true
items_fit f (q ∷ qs) = item_fits f q && items_fit f qs

abbrev pub is_procedure : SourceUnit → (procedure : ℕ) → Proc → Bool
is_procedure u p q =
    is_statement u (has_words u (Some p)) (Some p) (answer_of u (Some p)) q.body 64 &&
    (nat_le (length q.params) 32 && items_fit (λ i. has_words u (Some p) i 1) q.params)

abbrev pub are_procedures : SourceUnit → (procedure : ℕ) → List Proc → Bool
are_procedures u p [] = true
are_procedures u p (q ∷ qs) = is_procedure u p q && are_procedures u (suc p) qs

abbrev pub are_built : List SourceUnit → Bool
are_built [] = true
are_built (u ∷ us) = (is_statement u (has_words u None) None 0 u.body 64 && are_procedures u 0 u.procs) && are_built us
