-- The nodes of a unit's statements, by what their parts are.
use Rattle.std.proofs.Common.{◌≡◌, ℕ, suc, ◌≤◌, max, List, [], ◌∷◌, length, map, Bool, true, false, IsTrue, ◌&&◌, nat_lt, if◌then◌else◌, ◌==◌, Option, refl, sym, ap, subst, arith}
use Rattle.cw_tree.specs.declared.leaf.Position.{Position}
use Rattle.cw_tree.specs.declared.leaf.RawName.{RawName}
use Rattle.cw_tree.specs.declared.expression.RawExpr.{RawExpr}
use Rattle.cw_tree.specs.declared.expression.RawRef.{RawRef}
use Rattle.cw_tree.specs.declared.statement.RawFelem.{RawFelem}
use Rattle.cw_scope.specs.declared.resolve.Named.{Named}
use Rattle.cw_judge.specs.Judged.{scale_of}
use Rattle.cw_make_expr.specs.Parts.{Numbers}
use Rattle.cw_make_expr.specs.Made.{expression_of, reference_of}
use Rattle.cw_make_stmt.specs.Made.{line_of, felem_of, labels_of, mark, marked, row, conditional, repetition, put, put_bits}
use Rattle.cw_unit.specs.declared.unit.Unit.{Unit as SourceUnit}
use Rattle.cw_unit.specs.declared.unit.Arg.{Arg}
use Rattle.cw_unit.specs.declared.unit.Cond.{Cond}
use Rattle.cw_unit.specs.declared.unit.Dest.{Dest}
use Rattle.cw_unit.specs.declared.unit.Felem.{Felem}
use Rattle.cw_unit.specs.declared.unit.Ref.{Ref, out-Ref}
use Rattle.cw_unit.specs.declared.unit.Stmt.{Stmt, Stmt-F, roll-Stmt, map-Stmt}
use Rattle.cw_unit.specs.declared.unit.Stmt.TheFolds.{fold-roll-Stmt}
use Rattle.cw_unit.specs.declared.unit.Stmt.TheOpen as statement
use Rattle.cw_unit.specs.declared.unit.Target.{Target}
use Rattle.cw_gen_expr.specs.BuiltExpressions.{most_levels}
use Rattle.cw_gen_unit.specs.ReferenceUnits.{answer_of}
use Rattle.cw_built.specs.Coded.{is_part}
use Rattle.cw_writable.specs.Coded.RangedExpressions.{all_ranged, is_ranged_expression, is_ranged_condition, is_ranged_argument, ranged_reference}
use Rattle.cw_writable.specs.Coded.RangedUnits.{is_line, is_ranged_jump, are_ranged_elements, statement_step, is_ranged_statement}
use Rattle.cw_sound.specs.Expressions.Levels.{then_levels, reference_levels}
use Rattle.cw_sound.proofs.Expressions.Truth.{both, lt_of, lt_true}
use Rattle.cw_sound.proofs.Ranged.Parts.{line_good}

module _ (u : SourceUnit) (who : Option ℕ) where
  abbrev is_good : Stmt → Bool
  is_good = is_ranged_statement u (answer_of u who)

  -- a statement whose numbers are in range, where it keeps to its levels
  abbrev pub Good : Stmt → ℕ → Type 0
  Good s l = l ≤ most_levels → IsTrue (is_good s)

  abbrev pub GoodRow : List Stmt → ℕ → Type 0
  GoodRow ss l = l ≤ most_levels → IsTrue (all_ranged (map is_good ss))

  good_of : (x : Stmt-F Stmt) (l : ℕ) → (l ≤ most_levels → IsTrue (statement_step u (answer_of u who) (map-Stmt Stmt Bool is_good x))) → Good (roll-Stmt x) l
  good_of x l h few = subst IsTrue (sym (fold-roll-Stmt Bool (statement_step u (answer_of u who)) x)) (h few)

  -- ---- rows

  pub no_row : GoodRow [] 0
  no_row few = refl

  pub row_more : (s : Stmt) (ss : List Stmt) (l k : ℕ) → Good s l → GoodRow ss k → GoodRow (s ∷ ss) (max l k)
  row_more s ss l k g gs few = both (is_good s) (all_ranged (map is_good ss)) (g (omega (arith, few))) (gs (omega (arith, few)))

  pub row_good : (ss : List Stmt) (l : ℕ) → GoodRow ss l → Good (row ss) l
  row_good ss l g = good_of (statement.Seq ss) l g

  pub empty_good : Good (row []) 0
  empty_good = row_good [] 0 no_row

  -- ---- labels

  if_marked : (b : Bool) (ls : List ℕ) (s : Stmt) (l : ℕ) → Good s l → Good (if b then s else mark ls s) l
  if_marked true ls s l g = g
  if_marked false ls s l g = good_of (statement.Mark ls s) l g

  pub marked_good : (numbers : Numbers) (ns : List RawName) (s : Stmt) (l : ℕ) → Good s l → Good (marked numbers ns s) l
  marked_good numbers ns s l g = if_marked (length ns == 0) (labels_of numbers ns) s l g

  -- ---- IF

  pub conditional_good : (at : Position) (c : Cond) (a b : Stmt) (t l k : ℕ) → (t ≤ most_levels → IsTrue (is_ranged_condition u c)) → Good a l → Good b k → Good (conditional (line_of at) c a b) (max t (max (suc l) k))
  conditional_good at c a b t l k h ga gb =
      good_of (statement.If (line_of at) c a b) (max t (max (suc l) k))
      (λ few.
      both (is_line (line_of at)) (is_ranged_condition u c && (is_good a && is_good b)) (line_good at)
      (both (is_ranged_condition u c) (is_good a && is_good b) (h (omega (arith, few))) (both (is_good a) (is_good b) (ga (omega (arith, few))) (gb (omega (arith, few))))))

  -- ---- jumps and calls

  pub go_good : (at : Position) (d : Dest) (l : ℕ) → (l ≤ most_levels → IsTrue (is_ranged_jump u d)) → Good (roll-Stmt (statement.Go (line_of at) d)) l
  go_good at d l h = good_of (statement.Go (line_of at) d) l (λ few. both (is_line (line_of at)) (is_ranged_jump u d) (line_good at) (h few))

  pub call_statement_good : (at : Position) (t : Target) (args : List Arg) (l : ℕ) → (l ≤ most_levels → IsTrue (all_ranged (map (is_ranged_argument u) args))) → Good (roll-Stmt (statement.Call (line_of at) t args)) l
  call_statement_good at t args l h = good_of (statement.Call (line_of at) t args) l (λ few. both (is_line (line_of at)) (all_ranged (map (is_ranged_argument u) args)) (line_good at) (h few))

  -- ---- assignments

  module _ (named : Named) (numbers : Numbers) where
    abbrev expression_at : RawExpr → ℕ → Bool
    expression_at e f = is_ranged_expression u (expression_of named numbers e) f

    abbrev place_good : RawRef → Bool
    place_good r = (ranged_reference u (reference_of named numbers r)).good

    abbrev scale_made : RawRef → ℕ
    scale_made r = (out-Ref (reference_of named numbers r)).f

    -- a reference that is assigned to, with the scale of what is assigned
    pub record PlaceFit (r : RawRef) : Type 0 where
      pub ranged : IsTrue (place_good r)
      pub small : scale_of named r ≤ 15
      pub scale : scale_made r ≡ scale_of named r

    pub put_good : (at : Position) (r : RawRef) (e : RawExpr) → (reference_levels r ≤ most_levels → PlaceFit r) → (then_levels e ≤ most_levels → scale_of named r ≤ 15 → IsTrue (expression_at e (scale_of named r)))
        → Good (put (line_of at) (reference_of named numbers r) (expression_of named numbers e)) (max (reference_levels r) (then_levels e))
    put_good at r e hr he =
        good_of (statement.Put (line_of at) (reference_of named numbers r) (expression_of named numbers e)) (max (reference_levels r) (then_levels e))
        (λ few.
        let p = hr (omega (arith, few)) in
        both (is_line (line_of at)) (place_good r && expression_at e (scale_made r)) (line_good at)
        (both (place_good r) (expression_at e (scale_made r)) p.ranged (subst (λ (f : ℕ). IsTrue (expression_at e f)) (sym p.scale) (he (omega (arith, few)) p.small))))

    pub put_bits_good : (at : Position) (t b : ℕ) (r : RawRef) (e : RawExpr) → IsTrue (is_part t b) → (reference_levels r ≤ most_levels → PlaceFit r) → (then_levels e ≤ most_levels → IsTrue (expression_at e 0))
        → Good (put_bits (line_of at) t b (reference_of named numbers r) (expression_of named numbers e)) (max (reference_levels r) (then_levels e))
    put_bits_good at t b r e part hr he =
        good_of (statement.PutBits (line_of at) t b (reference_of named numbers r) (expression_of named numbers e)) (max (reference_levels r) (then_levels e))
        (λ few.
        both (is_line (line_of at)) (is_part t b && (place_good r && expression_at e 0)) (line_good at)
        (both (is_part t b) (place_good r && expression_at e 0) part (both (place_good r) (expression_at e 0) (hr (omega (arith, few))).ranged (he (omega (arith, few))))))

    pub answer_good : (at : Position) (e : RawExpr) (f : ℕ) → f ≡ answer_of u who → (then_levels e ≤ most_levels → IsTrue (expression_at e f)) → Good (roll-Stmt (statement.Answer (line_of at) (expression_of named numbers e))) (then_levels e)
    answer_good at e f is he =
        good_of (statement.Answer (line_of at) (expression_of named numbers e)) (then_levels e)
        (λ few. both (is_line (line_of at)) (expression_at e (answer_of u who)) (line_good at) (subst (λ (g : ℕ). IsTrue (expression_at e g)) is (he few)))

    -- ---- FOR

    length_map : {X Y : Type 0} (f : X → Y) (xs : List X) → length (map f xs) ≡ length xs
    length_map f [] = refl
    length_map f (x ∷ xs) = ap suc (length_map f xs)

    few_made : (es : List RawFelem) → IsTrue (nat_lt (length es) 32767) → IsTrue (nat_lt (length (map (felem_of named numbers) es)) 32768)
    few_made es h =
        let n = lt_of (length es) 32767 h in
        let m = length_map (felem_of named numbers) es in
        lt_true (length (map (felem_of named numbers) es)) 32768 (omega (arith, n, m))

    pub repetition_good : (at : Position) (item : ℕ) (r : RawRef) (es : List RawFelem) (s : Stmt) (k l : ℕ) → IsTrue (nat_lt (length es) 32767) → (reference_levels r ≤ most_levels → PlaceFit r)
        → (scale_of named r ≤ 15 → k ≤ most_levels → IsTrue (are_ranged_elements u (scale_of named r) (map (felem_of named numbers) es))) → Good s l
        → Good (repetition (line_of at) item (reference_of named numbers r) (map (felem_of named numbers) es) s) (max (reference_levels r) (max k (max 1 l)))
    repetition_good at item r es s k l few_elements hr he gs =
        let x : Ref = reference_of named numbers r in
        let fs : List Felem = map (felem_of named numbers) es in
        let elements : ℕ → Bool = λ f. are_ranged_elements u f fs in
        good_of (statement.For (line_of at) item x fs s) (max (reference_levels r) (max k (max 1 l)))
        (λ few.
        let p = hr (omega (arith, few)) in
        both (is_line (line_of at)) (place_good r && (nat_lt (length fs) 32768 && (elements (scale_made r) && is_good s))) (line_good at)
        (both (place_good r) (nat_lt (length fs) 32768 && (elements (scale_made r) && is_good s)) p.ranged
        (both (nat_lt (length fs) 32768) (elements (scale_made r) && is_good s) (few_made es few_elements)
        (both (elements (scale_made r)) (is_good s) (subst (λ (f : ℕ). IsTrue (elements f)) (sym p.scale) (he p.small (omega (arith, few)))) (gs (omega (arith, few)))))))
