-- The rules of expressions and conditions keep what is known: what strings of bytes hold are words.
use Rattle.std.proofs.Common.{◌≡◌, ℕ, List, [], ◌∷◌, ◌++◌, map, Option, Some, None, sym, subst, ◌∙◌}
use Rattle.cw_table.specs.declared.table.Row.{Row}
use Rattle.cw_tree.specs.declared.leaf.Position.{Position}
use Rattle.cw_tree.specs.declared.leaf.RawName.{RawName}
use Rattle.cw_tree.specs.declared.expression.RawExpr.{RawExpr}
use Rattle.cw_tree.specs.declared.expression.RawExpr.TheVariants as expr_tree
use Rattle.cw_tree.specs.declared.expression.RawCond.{RawCond}
use Rattle.cw_tree.specs.declared.expression.RawCand.{RawCand}
use Rattle.cw_tree.specs.declared.expression.RawCmp.{RawCmp}
use Rattle.cw_tree.specs.declared.expression.RawPrimary.TheVariants as primary_tree
use Rattle.cw_tree.specs.declared.expression.RawRef.TheVariants as ref_tree
use Rattle.cw_grammar.specs.Tokens.{Item, position, characters}
use Rattle.cw_grammar.specs.Grammar.{Either, left, right, Sort, Value, Grammar}
use Rattle.cw_grammar.specs.Trees.{Operands, extended, cand_tree, cond_tree}
use Rattle.cw_grammar.specs.Rules.{raw_literal, indexed_name, ref_behind, primary_behind, reference, constant, worded, enclosed, named, primary, prim, mask, union, differ, term, sum, cmp, cand, condition, expr}
use Rattle.cw_scope.specs.declared.resolve.Named.{Named}
use Rattle.cw_items.specs.declared.families.Site.{Site}
use Rattle.cw_preset.specs.Strings.{Rows, joined, expression_rows, primary_rows, reference_rows, conjunction_rows, comparison_rows, condition_rows, differ_rows, mask_rows, prim_rows, sum_rows, term_rows, union_rows}
use Rattle.cw_sound.proofs.Presets.Small.{RowsSmall, rows_append, string_small, characters_bytes}
use Rattle.cw_tree.proofs.Expressions.{of_reference-Name, of_reference-One, of_reference-Two, of_reference-Bare, of_primary-Text, of_primary-Ref, of_primary-Call, of_expression-Choice, of_primary-Number, of_primary-Octal, of_primary-Literal, of_primary-Location, of_primary-Forced, of_primary-Bracket}
use Rattle.cw_sound.proofs.Expressions.Folds.{rows_pass}
use Rattle.cw_tokens.proofs.Passes.{cand_rolled, cond_rolled, cmp_rolled}
use Rattle.cw_sound.proofs.Presets.Held.{joined_extended, mask_kept, union_kept, differ_kept, term_kept, sum_kept, expr_of_keeps, prim_of_keeps}
use Rattle.cw_sound.proofs.Presets.Good.{IsOfBytes, Good, Given, Keeps, given_good}
use Rattle.cw_tokens.proofs.Kept.{OfOption, OfEither}
use Rattle.cw_macro.specs.Premises.{Each}

-- ---- trees

same : {rs qs : Rows} → rs ≡ qs → RowsSmall qs → RowsSmall rs
same e h = subst RowsSmall (sym e) h

pub joined_small : {A : Type 0} (f : A → Rows) (xs : List A) → Each (λ x. RowsSmall (f x)) xs → RowsSmall (joined (map f xs))
joined_small f [] h = tt
joined_small f (x ∷ xs) h = rows_append (f x) (joined (map f xs)) h.0 (joined_small f xs h.1)

behind_small : {A B : Type 0} (f : A → Rows) (rest : List (B × A)) → Each (λ (z : B × A). Unit {0} × RowsSmall (f z.1)) rest → RowsSmall (joined (map (λ z. f z.1) rest))
behind_small f [] h = tt
behind_small f (z ∷ rest) h = rows_append (f z.1) (joined (map (λ y. f y.1) rest)) h.0.1 (behind_small f rest h.1)

pub name_small : (f : RawName) → RowsSmall (reference_rows (ref_tree.Name f))
name_small f = same (of_reference-Name rows_pass f) tt

pub index_small : (f : RawName) (x : RawExpr) (o : Option RawExpr) → RowsSmall (expression_rows x) → OfOption (λ y. RowsSmall (expression_rows y)) o → RowsSmall (reference_rows (indexed_name f x o))
index_small f x None h k = same (of_reference-One rows_pass f x) h
index_small f x (Some y) h k = same (of_reference-Two rows_pass f x y) (rows_append (expression_rows x) (expression_rows y) h k)

pub bare_small : (at : Position) (x : RawExpr) → RowsSmall (expression_rows x) → RowsSmall (reference_rows (ref_tree.Bare at x))
bare_small at x h = same (of_reference-Bare rows_pass at x) h

ref_small : (f : RawName) (o : Option (Item × (RawExpr × Option RawExpr))) → OfOption (λ x. Unit {0} × (RowsSmall (expression_rows x.1.0) × OfOption (λ y. RowsSmall (expression_rows y)) x.1.1)) o → RowsSmall (reference_rows (ref_behind f o))
ref_small f None h = name_small f
ref_small f (Some x) h = index_small f x.1.0 x.1.1 h.1.0 h.1.1

text_small : (t : Item) → IsOfBytes t → RowsSmall (primary_rows (primary_tree.Text (position t) (characters t.kind t.text)))
text_small t h = same (of_primary-Text rows_pass (position t) (characters t.kind t.text)) (string_small (characters t.kind t.text) (characters_bytes t.kind t.text h), tt)

primary_small : (f : RawName) (o : Option (Either (RawExpr × Option RawExpr) (List RawExpr)))
    → OfOption (OfEither (λ x. RowsSmall (expression_rows x.0) × OfOption (λ y. RowsSmall (expression_rows y)) x.1) (Each (λ y. RowsSmall (expression_rows y)))) o → RowsSmall (primary_rows (primary_behind f o))
primary_small f None h = same (of_primary-Ref rows_pass (ref_tree.Name f)) (name_small f)
primary_small f (Some (left x)) h = same (of_primary-Ref rows_pass (indexed_name f x.0 x.1)) (index_small f x.0 x.1 h.0 h.1)
primary_small f (Some (right xs)) h = same (of_primary-Call rows_pass f xs) (joined_small expression_rows xs h)

choice_small : (at : Position) (c : RawCond) (x y : RawExpr) → RowsSmall (condition_rows c) → RowsSmall (expression_rows x) → RowsSmall (expression_rows y) → RowsSmall (expression_rows (expr_tree.Choice at c x y))
choice_small at c x y h k l = same (of_expression-Choice rows_pass at c x y) (rows_append (condition_rows c) (expression_rows x ++ expression_rows y) h (rows_append (expression_rows x) (expression_rows y) k l))

cand_small : (x : RawCmp) (rest : List (Position × RawCmp)) → RowsSmall (comparison_rows x) → Each (λ (z : Position × RawCmp). Unit {0} × RowsSmall (comparison_rows z.1)) rest → RowsSmall (conjunction_rows (cand_tree (extended (x ∷ [], []) rest)))
cand_small x rest h k =
    let ops : Operands RawCmp Position = extended (x ∷ [], []) rest in
    same (cand_rolled rows_pass (record { operands = ops.0; operators = ops.1 }) ∙ joined_extended comparison_rows (x ∷ [], []) rest) (rows_append (comparison_rows x ++ []) (joined (map (λ z. comparison_rows z.1) rest)) (rows_append (comparison_rows x) [] h tt) (behind_small comparison_rows rest k))

cond_small : (x : RawCand) (rest : List (Position × RawCand)) → RowsSmall (conjunction_rows x) → Each (λ (z : Position × RawCand). Unit {0} × RowsSmall (conjunction_rows z.1)) rest → RowsSmall (condition_rows (cond_tree (extended (x ∷ [], []) rest)))
cond_small x rest h k =
    let ops : Operands RawCand Position = extended (x ∷ [], []) rest in
    same (cond_rolled rows_pass (record { operands = ops.0; operators = ops.1 }) ∙ joined_extended conjunction_rows (x ∷ [], []) rest) (rows_append (conjunction_rows x ++ []) (joined (map (λ z. conjunction_rows z.1) rest)) (rows_append (conjunction_rows x) [] h tt) (behind_small conjunction_rows rest k))

-- ---- rules

module _ (names : Named) (sites : List (Row Site)) (absolute : List (Row ℕ)) where
  abbrev Keep : {s : Sort} → Grammar s → Type 0
  Keep g = Keeps names sites absolute g

  taken : {s : Sort} (g : Grammar s) (x : Value s) → Given names sites absolute g x → Good names sites absolute s x
  taken g x h = given_good names sites absolute g x h

  pub reference_keeps : Keep reference
  unfolding reference
  reference_keeps = (((tt, ((tt, λ x h _. (tt, h)), tt)), λ x h _. ref_small x.0 x.1 h.1), (tt, λ x h _. bare_small (position x.0) x.1 h))

  constant_keeps : Keep constant
  unfolding constant
  constant_keeps = (
    (tt, λ x h _. same (of_primary-Number rows_pass x) tt),
    ((tt, λ x h _. same (of_primary-Octal rows_pass x) tt), ((tt, λ t h _. same (of_primary-Literal rows_pass (raw_literal t)) tt), (tt, λ t h _. text_small t h))),
  )

  worded_keeps : Keep worded
  unfolding worded
  worded_keeps = (((tt, tt), λ x h _. same (of_primary-Location rows_pass (position x.0) x.1.1) h.1), ((tt, tt), λ x h _. same (of_primary-Forced rows_pass x.0 x.1.1) h.1))

  enclosed_keeps : Keep enclosed
  unfolding enclosed
  enclosed_keeps = ((tt, λ x h _. same (of_primary-Bracket rows_pass (position x.0) x.1) h), (tt, λ x h _. same (of_primary-Ref rows_pass (ref_tree.Bare (position x.0) x.1)) (bare_small (position x.0) x.1 h)))

  named_keeps : Keep named
  unfolding named
  named_keeps = ((tt, ((tt, λ x h _. h), ((tt, λ x h _. h), tt))), λ x h _. primary_small x.0 x.1 h.1)

  primary_keeps : Keep primary
  unfolding primary
  primary_keeps = (constant_keeps, (worded_keeps, (enclosed_keeps, named_keeps)))

  prim_keeps : Keep prim
  unfolding prim
  prim_keeps = ((tt, primary_keeps), λ x h _. same (prim_of_keeps x.0 x.1) (taken primary x.1 h.1))

  sum_keeps : Keep sum
  unfolding mask union differ term sum
  sum_keeps =
      let mask_keeps : Keep mask = ((prim_keeps, (tt, prim_keeps)), λ x h _. same (mask_kept x.0 x.1) (rows_append (prim_rows x.0) (joined (map (λ z. prim_rows z.1) x.1)) (taken prim x.0 h.0) (behind_small prim_rows x.1 h.1))) in
      let union_keeps : Keep union = ((mask_keeps, (tt, mask_keeps)), λ x h _. same (union_kept x.0 x.1) (rows_append (mask_rows x.0) (joined (map (λ z. mask_rows z.1) x.1)) (taken mask x.0 h.0) (behind_small mask_rows x.1 h.1))) in
      let differ_keeps : Keep differ = ((union_keeps, (tt, union_keeps)), λ x h _. same (differ_kept x.0 x.1) (rows_append (union_rows x.0) (joined (map (λ z. union_rows z.1) x.1)) (taken union x.0 h.0) (behind_small union_rows x.1 h.1))) in
      let term_keeps : Keep term = ((differ_keeps, (tt, differ_keeps)), λ x h _. same (term_kept x.0 x.1) (rows_append (differ_rows x.0) (joined (map (λ z. differ_rows z.1) x.1)) (taken differ x.0 h.0) (behind_small differ_rows x.1 h.1))) in
      ((tt, (term_keeps, (tt, term_keeps))), λ x h _. same (sum_kept x.0 x.1.0 x.1.1) (rows_append (term_rows x.1.0) (joined (map (λ z. term_rows z.1) x.1.1)) (taken term x.1.0 h.1.0) (behind_small term_rows x.1.1 h.1.1)))

  cmp_keeps : Keep cmp
  unfolding cmp
  cmp_keeps = (
    (sum_keeps, (tt, sum_keeps)),
    λ x h _. same (cmp_rolled rows_pass (record { left = x.0; operator = x.1.0; right = x.1.1 })) (rows_append (sum_rows x.0) (sum_rows x.1.1) (taken sum x.0 h.0) (taken sum x.1.1 h.1.1)),
  )

  cand_keeps : Keep cand
  unfolding cand
  cand_keeps = ((cmp_keeps, (tt, cmp_keeps)), λ x h _. cand_small x.0 x.1 (taken cmp x.0 h.0) h.1)

  pub condition_keeps : Keep condition
  unfolding condition
  condition_keeps = ((cand_keeps, (tt, cand_keeps)), λ x h _. cond_small x.0 x.1 (taken cand x.0 h.0) h.1)

  pub expr_keeps : Keep expr
  unfolding expr
  expr_keeps = ((tt, λ x h _. choice_small (position x.0) x.1.0 x.1.1.0 x.1.1.1 h.0 h.1.0 h.1.1), (sum_keeps, λ x h _. same (expr_of_keeps x) (taken sum x h)))
