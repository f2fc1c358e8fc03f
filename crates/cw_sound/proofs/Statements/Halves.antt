-- What stands in the parts of a statement, and that none of them has a fault.
use Rattle.std.proofs.Common.{ℕ, List, [], ◌∷◌, ◌++◌, length, map, Bool, true, false, not, ◌||◌, ◌==◌, Option, None}
use Rattle.cw_table.specs.declared.table.Row.{Row}
use Rattle.cw_tree.specs.declared.leaf.Position.{Position}
use Rattle.cw_tree.specs.declared.leaf.RawName.{RawName}
use Rattle.cw_tree.specs.declared.expression.RawCond.{RawCond}
use Rattle.cw_tree.specs.declared.expression.RawRef.{RawRef}
use Rattle.cw_tree.specs.declared.statement.RawDecl.{RawDecl}
use Rattle.cw_tree.specs.declared.statement.RawStmt.{RawStmt}
use Rattle.cw_tree.specs.declared.statement.RawFelem.{RawFelem}
use Rattle.cw_facts.specs.declared.fact.Fact.{Fact}
use Rattle.cw_facts.specs.declared.fact.Fact.TheVariants as fact
use Rattle.cw_facts.specs.declared.fact.Kind.TheVariants as kind
use Rattle.cw_facts.specs.declared.fact.Reading.TheVariants as reading
use Rattle.cw_facts.specs.Uses.{condition_uses, reference_uses}
use Rattle.cw_facts.specs.Facts.{joined, each_declares, enclosed, felems_facts, declaration_facts, statement_facts}
use Rattle.cw_scope.specs.declared.resolve.Named.{Named}
use Rattle.cw_scale.specs.Faults.{Judgement, both}
use Rattle.cw_items.specs.declared.families.Site.{Site}
use Rattle.cw_judge.specs.Judged.{condition_judged, reference_judged, scale_of, all_judged, felems_judged, declaration_judged, statement_judged}
use Rattle.cw_make_expr.specs.Parts.{Numbers}
use Rattle.cw_unit.specs.declared.unit.Unit.{Unit as SourceUnit}
use Rattle.cw_sound.proofs.Expressions.Judging.{Keeps, NoFault, keeps_both, both_free}
use Rattle.cw_sound.proofs.Statements.Keeping.{elements_keep, statement_keeps, all_keep}
use Rattle.cw_sound.proofs.Statements.Parts.{Stood, halves_of}
use Rattle.cw_sound.proofs.Expressions.Standing.{owned_is_in}
use Rattle.cw_make.specs.Labels.{proc_within}

-- a sense in which facts stand in a body: so do the halves of a list of them, and what is in their blocks
pub record Standing (numbers : Numbers) : Type 1 where
  pub There : Option ℕ → List Fact → Type 0
  pub halves : (who : Option ℕ) (fs gs : List Fact) → There who (fs ++ gs) → There who fs × There who gs
  pub owned : (who owner : Option ℕ) (fs : List Fact) → There who (fact.Block owner fs ∷ []) → There (proc_within numbers owner who) fs

module _ (named : Named) (numbers : Numbers) (u : SourceUnit) where
  abbrev pub in_unit : Standing numbers
  in_unit = record {
    There = λ who. Stood named numbers u who;
    halves = λ who. halves_of named numbers u who;
    owned = λ who owner fs h. (λ m k. h.0 m (owned_is_in named numbers u who m owner fs k), λ m k. h.1 m (owned_is_in named numbers u who m owner fs k));
  }

module _ (named : Named) (numbers : Numbers) (standing : Standing numbers) (who : Option ℕ) where
  abbrev There : List Fact → Type 0
  There = standing.There who

  opened : (b : Bool) (fs : List Fact) → There (enclosed b fs) → There fs
  opened false fs h = h
  opened true fs h = standing.owned who None fs h

  -- of an IF: its condition, what follows THEN, and what follows ELSE
  pub if_parts : (test : RawCond) (labels : List RawName) (fs gs : List Fact) (j k : Judgement) → Keeps j → Keeps k → There (condition_uses test reading.Value ++ (each_declares kind.Label labels ++ (fs ++ gs)))
      → NoFault (both (condition_judged named test) (both j k)) → There (condition_uses test reading.Value) × NoFault (condition_judged named test) × There fs × NoFault j × There gs × NoFault k
  if_parts test labels fs gs j k h i s free =
      let first = standing.halves who (condition_uses test reading.Value) (each_declares kind.Label labels ++ (fs ++ gs)) s in
      let sides = standing.halves who fs gs (standing.halves who (each_declares kind.Label labels) (fs ++ gs) first.1).1 in
      let calm = both_free (condition_judged named test) (both j k) (keeps_both h i) free in
      let calms = both_free j k i calm.1 in
      (first.0, calm.0, sides.0, calms.0, sides.1, calms.1)

  -- of a FOR: its own words, its variable, its elements, and what follows DO
  pub loop_parts : (at : Position) (variable : RawRef) (elems : List RawFelem) (fs : List Fact) (j : Judgement) → Keeps j → There ((fact.Loop at ∷ []) ++ (reference_uses variable reading.Whole ++ (felems_facts elems ++ fs)))
      → NoFault (both (reference_judged named variable) (both (felems_judged named (scale_of named variable) elems) j))
      → There (fact.Loop at ∷ []) × There (reference_uses variable reading.Whole) × NoFault (reference_judged named variable) × There (felems_facts elems) × NoFault (felems_judged named (scale_of named variable) elems) × There fs × NoFault j
  loop_parts at variable elems fs j h s free =
      let f : ℕ = scale_of named variable in
      let loop = standing.halves who (fact.Loop at ∷ []) (reference_uses variable reading.Whole ++ (felems_facts elems ++ fs)) s in
      let place = standing.halves who (reference_uses variable reading.Whole) (felems_facts elems ++ fs) loop.1 in
      let sides = standing.halves who (felems_facts elems) fs place.1 in
      let calm = both_free (reference_judged named variable) (both (felems_judged named f elems) j) (keeps_both (elements_keep named f elems) h) free in
      let calms = both_free (felems_judged named f elems) j h calm.1 in
      (loop.0, place.0, calm.0, sides.0, calms.0, sides.1, calms.1)

  -- of a block: its declarations, and its statements
  pub block_parts : (sites : List (Row Site)) (outermost : Bool) (ds : List RawDecl) (zs : List RawStmt)
      → There (enclosed (outermost || not (length (map declaration_facts ds) == 0)) (joined (map declaration_facts ds) ++ joined (map statement_facts zs)))
      → NoFault (both (all_judged (map (declaration_judged named sites) ds)) (all_judged (map (statement_judged named sites) zs)))
      → There (joined (map declaration_facts ds)) × NoFault (all_judged (map (declaration_judged named sites) ds)) × There (joined (map statement_facts zs)) × NoFault (all_judged (map (statement_judged named sites) zs))
  block_parts sites outermost ds zs s free =
      let inside = opened (outermost || not (length (map declaration_facts ds) == 0)) (joined (map declaration_facts ds) ++ joined (map statement_facts zs)) s in
      let sides = standing.halves who (joined (map declaration_facts ds)) (joined (map statement_facts zs)) inside in
      let calm = both_free (all_judged (map (declaration_judged named sites) ds)) (all_judged (map (statement_judged named sites) zs)) (all_keep (statement_judged named sites) (statement_keeps named sites) zs) free in
      (sides.0, calm.0, sides.1, calm.1)

  -- of several trees: the first, and the others
  pub next_parts : {X : Type 0} (f : X → List Fact) (j : X → Judgement) → ((x : X) → Keeps (j x)) → (x : X) (xs : List X) → There (joined (map f (x ∷ xs))) → NoFault (all_judged (map j (x ∷ xs)))
      → There (f x) × NoFault (j x) × There (joined (map f xs)) × NoFault (all_judged (map j xs))
  next_parts f j keeps x xs s free =
      let sides = standing.halves who (f x) (joined (map f xs)) s in
      let calm = both_free (j x) (all_judged (map j xs)) (all_keep j keeps xs) free in
      (sides.0, calm.0, sides.1, calm.1)
