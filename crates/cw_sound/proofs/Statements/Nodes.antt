-- The nodes of a unit's statements, by what their parts are.
use Rattle.std.proofs.Common.{◌≡◌, ℕ, zero, suc, ◌≤◌, max, List, [], ◌∷◌, length, map, Bool, true, false, IsTrue, ◌&&◌, nat_lt, if◌then◌else◌, ◌==◌, Option, Some, None, is_some, refl, sym, ap, subst, arith}
use Rattle.cw_tree.specs.declared.leaf.RawName.{RawName}
use Rattle.cw_tree.specs.declared.expression.RawExpr.{RawExpr}
use Rattle.cw_tree.specs.declared.expression.RawRef.{RawRef}
use Rattle.cw_tree.specs.declared.statement.RawFelem.{RawFelem}
use Rattle.cw_scope.specs.declared.resolve.Named.{Named}
use Rattle.cw_judge.specs.Judged.{scale_of}
use Rattle.cw_make_expr.specs.Parts.{Numbers}
use Rattle.cw_make_expr.specs.Made.{expression_of, reference_of}
use Rattle.cw_make_stmt.specs.Made.{felem_of, labels_of, mark, marked, row, conditional, repetition, put, put_bits}
use Rattle.cw_unit.specs.declared.unit.Unit.{Unit as SourceUnit}
use Rattle.cw_unit.specs.declared.unit.Arg.{Arg}
use Rattle.cw_unit.specs.declared.unit.Cond.{Cond}
use Rattle.cw_unit.specs.declared.unit.Dest.{Dest}
use Rattle.cw_unit.specs.declared.unit.Felem.{Felem}
use Rattle.cw_unit.specs.declared.unit.Ref.{Ref, out-Ref}
use Rattle.cw_unit.specs.declared.unit.Stmt.{Stmt, Stmt-F, roll-Stmt, map-Stmt}
use Rattle.cw_unit.specs.declared.unit.Stmt.TheFolds.{fold-roll-Stmt}
use Rattle.cw_unit.specs.declared.unit.Stmt.TheOpen as statement
use Rattle.cw_unit.specs.declared.unit.Target.{Target}
use Rattle.cw_safety.specs.WellFormed as formed
use Rattle.cw_gen_expr.specs.NamedItems.{has_words}
use Rattle.cw_gen_expr.specs.BuiltExpressions.{most_levels, within, all_built, is_expression, is_condition, is_argument, built_reference}
use Rattle.cw_gen_unit.specs.BuiltStatements.{is_jump, are_elements, all_within, statement_step, is_statement}
use Rattle.cw_gen_unit.specs.ReferenceUnits.{answer_of}
use Rattle.cw_built.specs.Built.{alone, at_work}
use Rattle.cw_sound.specs.Expressions.Levels.{then_levels, reference_levels}
use Rattle.cw_sound.proofs.Expressions.Truth.{both}
use Rattle.cw_sound.proofs.Statements.Parts.{Fit, PlaceFit, ElementsFit}

module _ (u : SourceUnit) (who : Option ℕ) where
  abbrev is_good : Stmt → ℕ → Bool
  is_good = is_statement u (has_words u who) who (answer_of u who)

  abbrev is_formed : Stmt → Bool
  is_formed = formed.is_statement (alone u) 0 (at_work who)

  -- a statement within its levels
  pub record Good (s : Stmt) (l : ℕ) : Type 0 where
    pub built : (n : ℕ) → l ≤ n → n ≤ most_levels → IsTrue (is_good s n)
    pub formed : l ≤ most_levels → IsTrue (is_formed s)

  pub record GoodRow (ss : List Stmt) (l : ℕ) : Type 0 where
    pub built : (n : ℕ) → l ≤ n → n ≤ most_levels → IsTrue (all_within u (has_words u who) who (answer_of u who) n (map is_good ss))
    pub formed : l ≤ most_levels → IsTrue (formed.all (map is_formed ss))

  abbrev good_layer : Stmt-F Stmt → ℕ → Bool
  good_layer x = statement_step u (has_words u who) who (answer_of u who) (map-Stmt Stmt (ℕ → Bool) is_good x)

  abbrev formed_layer : Stmt-F Stmt → Bool
  formed_layer x = formed.statement_step (alone u) 0 (at_work who) (map-Stmt Stmt Bool is_formed x)

  good_of : (x : Stmt-F Stmt) (l : ℕ) → ((n : ℕ) → l ≤ n → n ≤ most_levels → IsTrue (good_layer x n)) → (l ≤ most_levels → IsTrue (formed_layer x)) → Good (roll-Stmt x) l
  good_of x l h k = record {
    built = λ n low high. subst (λ (p : ℕ → Bool). IsTrue (p n)) (sym (fold-roll-Stmt (ℕ → Bool) (statement_step u (has_words u who) who (answer_of u who)) x)) (h n low high);
    formed = λ few. subst IsTrue (sym (fold-roll-Stmt Bool (formed.statement_step (alone u) 0 (at_work who)) x)) (k few);
  }

  pub weaker : (s : Stmt) (l k : ℕ) → l ≤ k → Good s l → Good s k
  weaker s l k h g = record { built = λ n low high. g.built n (omega (arith, h, low)) high; formed = λ few. g.formed (omega (arith, h, few)) }

  -- ---- rows

  pub no_row : GoodRow [] 0
  no_row = record { built = λ n low high. refl; formed = λ few. refl }

  pub row_more : (s : Stmt) (ss : List Stmt) (l k : ℕ) → Good s l → GoodRow ss k → GoodRow (s ∷ ss) (max l k)
  row_more s ss l k g gs = record {
    built = λ n low high. both (is_good s n) (all_within u (has_words u who) who (answer_of u who) n (map is_good ss)) (g.built n (omega (arith, low)) high) (gs.built n (omega (arith, low)) high);
    formed = λ few. both (is_formed s) (formed.all (map is_formed ss)) (g.formed (omega (arith, few))) (gs.formed (omega (arith, few)));
  }

  pub row_good : (ss : List Stmt) (l : ℕ) → GoodRow ss l → Good (row ss) l
  row_good ss l g = good_of (statement.Seq ss) l (λ n low high. g.built n low high) (λ few. g.formed few)

  pub empty_good : Good (row []) 0
  empty_good = row_good [] 0 no_row

  -- ---- labels

  mark_good : (ls : List ℕ) (s : Stmt) (l : ℕ) → Good s l → Good (mark ls s) l
  mark_good ls s l g = good_of (statement.Mark ls s) l (λ n low high. g.built n low high) (λ few. g.formed few)

  if_marked : (b : Bool) (ls : List ℕ) (s : Stmt) (l : ℕ) → Good s l → Good (if b then s else mark ls s) l
  if_marked true ls s l g = g
  if_marked false ls s l g = mark_good ls s l g

  pub marked_good : (numbers : Numbers) (ns : List RawName) (s : Stmt) (l : ℕ) → Good s l → Good (marked numbers ns s) l
  marked_good numbers ns s l g = if_marked (length ns == 0) (labels_of numbers ns) s l g

  -- ---- IF

  pub within_good : (n : ℕ) (s : Stmt) (l : ℕ) → Good s l → suc l ≤ n → n ≤ most_levels → IsTrue (within n (is_good s))
  within_good zero s l g low high = absurd (omega (arith, low))
  within_good (suc n) s l g low high = g.built n (omega (arith, low)) (omega (arith, high))

  pub conditional_good : (line : ℕ) (c : Cond) (a b : Stmt) (t l k : ℕ) → (t ≤ most_levels → IsTrue (is_condition u (has_words u who) c)) → (t ≤ most_levels → IsTrue (formed.is_condition (alone u) 0 (at_work who) c)) → Good a l → Good b k
      → Good (conditional line c a b) (max t (max (suc l) k))
  conditional_good line c a b t l k hc fc ga gb =
      good_of (statement.If line c a b) (max t (max (suc l) k))
      (λ n low high. both (is_condition u (has_words u who) c) (within n (is_good a) && is_good b n) (hc (omega (arith, low, high))) (both (within n (is_good a)) (is_good b n) (within_good n a l ga (omega (arith, low)) high) (gb.built n (omega (arith, low)) high)))
      (λ few. both (formed.is_condition (alone u) 0 (at_work who) c) (is_formed a && is_formed b) (fc (omega (arith, few))) (both (is_formed a) (is_formed b) (ga.formed (omega (arith, few))) (gb.formed (omega (arith, few)))))

  -- ---- jumps and calls

  pub go_good : (line : ℕ) (d : Dest) (l : ℕ) → (l ≤ most_levels → IsTrue (is_jump u (has_words u who) who (answer_of u who) d)) → (l ≤ most_levels → IsTrue (formed.is_goal (alone u) 0 (at_work who) d)) → Good (roll-Stmt (statement.Go line d)) l
  go_good line d l h k = good_of (statement.Go line d) l (λ n low high. h (omega (arith, low, high))) k

  pub call_statement_good : (line : ℕ) (t : Target) (args : List Arg) (l : ℕ) → (l ≤ most_levels → IsTrue (all_built (map (is_argument u (has_words u who)) args))) → (l ≤ most_levels → IsTrue (formed.is_call (alone u) 0 (at_work who) false t (formed.kinds_of (map (formed.kind_of (alone u) 0 (at_work who)) args))))
      → Good (roll-Stmt (statement.Call line t args)) l
  call_statement_good line t args l h k = good_of (statement.Call line t args) l (λ n low high. h (omega (arith, low, high))) k

  -- ---- assignments

  module _ (named : Named) (numbers : Numbers) where
    abbrev expression_at : RawExpr → ℕ → Bool
    expression_at e f = is_expression u (has_words u who) (expression_of named numbers e) f most_levels

    abbrev expression_formed : RawExpr → Bool
    expression_formed e = formed.is_expression (alone u) 0 (at_work who) (expression_of named numbers e)

    abbrev place_good : RawRef → Bool
    place_good r = (built_reference u (has_words u who) (reference_of named numbers r)).good

    abbrev place_formed : RawRef → Bool
    place_formed r = formed.is_reference (alone u) 0 (at_work who) (reference_of named numbers r)

    pub put_good : (line : ℕ) (r : RawRef) (e : RawExpr) → (reference_levels r ≤ most_levels → PlaceFit named numbers u who r) → (then_levels e ≤ most_levels → reference_levels r ≤ most_levels → Fit named numbers u who e (scale_of named r))
        → Good (put line (reference_of named numbers r) (expression_of named numbers e)) (max (reference_levels r) (then_levels e))
    put_good line r e hr he =
        good_of (statement.Put line (reference_of named numbers r) (expression_of named numbers e)) (max (reference_levels r) (then_levels e))
        (λ n low high.
        let p = hr (omega (arith, low, high)) in
        let x = he (omega (arith, low, high)) (omega (arith, low, high)) in
        both (place_good r) (expression_at e (out-Ref (reference_of named numbers r)).f) p.built (subst (λ (f : ℕ). IsTrue (expression_at e f)) (sym p.scale) (x.built most_levels (omega (arith, low, high)) (omega arith))))
        (λ few. both (place_formed r) (expression_formed e) (hr (omega (arith, few))).formed (he (omega (arith, few)) (omega (arith, few))).formed)

    pub put_bits_good : (line t b : ℕ) (r : RawRef) (e : RawExpr) → (reference_levels r ≤ most_levels → PlaceFit named numbers u who r) → (then_levels e ≤ most_levels → Fit named numbers u who e 0)
        → Good (put_bits line t b (reference_of named numbers r) (expression_of named numbers e)) (max (reference_levels r) (then_levels e))
    put_bits_good line t b r e hr he =
        good_of (statement.PutBits line t b (reference_of named numbers r) (expression_of named numbers e)) (max (reference_levels r) (then_levels e))
        (λ n low high. both (place_good r) (expression_at e 0) (hr (omega (arith, low, high))).built ((he (omega (arith, low, high))).built most_levels (omega (arith, low, high)) (omega arith)))
        (λ few. both (place_formed r) (expression_formed e) (hr (omega (arith, few))).formed (he (omega (arith, few))).formed)

    pub answer_good : (line : ℕ) (e : RawExpr) (f : ℕ) → IsTrue (is_some who) → f ≡ answer_of u who → (then_levels e ≤ most_levels → Fit named numbers u who e f) → Good (roll-Stmt (statement.Answer line (expression_of named numbers e))) (then_levels e)
    answer_good line e f some is he =
        good_of (statement.Answer line (expression_of named numbers e)) (then_levels e)
        (λ n low high. both (is_some who) (expression_at e (answer_of u who)) some (subst (λ (g : ℕ). IsTrue (expression_at e g)) is ((he (omega (arith, low, high))).built most_levels (omega (arith, low, high)) (omega arith))))
        (λ few. both (is_some (at_work who)) (expression_formed e) (works who some) (he few).formed)
      where
        works : (o : Option ℕ) → IsTrue (is_some o) → IsTrue (is_some (at_work o))
        works None h = h
        works (Some q) h = refl

    -- ---- FOR

    within_one : (n : ℕ) → 1 ≤ n → IsTrue (within n (λ m. true))
    within_one zero h = absurd (omega (arith, h))
    within_one (suc n) h = refl

    length_map : {X Y : Type 0} (f : X → Y) (xs : List X) → length (map f xs) ≡ length xs
    length_map f [] = refl
    length_map f (x ∷ xs) = ap suc (length_map f xs)

    pub repetition_good : (line item : ℕ) (r : RawRef) (es : List RawFelem) (s : Stmt) (k l : ℕ) → IsTrue (has_words u who item 4) → IsTrue (nat_lt (length es) 32767) → (reference_levels r ≤ most_levels → PlaceFit named numbers u who r)
        → (reference_levels r ≤ most_levels → k ≤ most_levels → ElementsFit named numbers u who es (scale_of named r)) → Good s l
        → Good (repetition line item (reference_of named numbers r) (map (felem_of named numbers) es) s) (max (reference_levels r) (max k (max 1 l)))
    repetition_good line item r es s k l words few_elements hr he gs =
        let x : Ref = reference_of named numbers r in
        let fs : List Felem = map (felem_of named numbers) es in
        let elements : ℕ → Bool = λ f. are_elements u (has_words u who) who (answer_of u who) f fs in
        let short : IsTrue (nat_lt (length fs) 32767) = subst (λ (n : ℕ). IsTrue (nat_lt n 32767)) (sym (length_map (felem_of named numbers) es)) few_elements in
        good_of (statement.For line item x fs s) (max (reference_levels r) (max k (max 1 l)))
        (λ n low high.
        let p = hr (omega (arith, low, high)) in
        let q = he (omega (arith, low, high)) (omega (arith, low, high)) in
        let body : IsTrue (within n (λ m. true) && is_good s most_levels) = both (within n (λ m. true)) (is_good s most_levels) (within_one n (omega (arith, low))) (gs.built most_levels (omega (arith, low, high)) (omega arith)) in
        both (place_good r) (has_words u who item 4 && (nat_lt (length fs) 32767 && (elements (out-Ref x).f && (within n (λ m. true) && is_good s most_levels)))) p.built
        (both (has_words u who item 4) (nat_lt (length fs) 32767 && (elements (out-Ref x).f && (within n (λ m. true) && is_good s most_levels))) words
        (both (nat_lt (length fs) 32767) (elements (out-Ref x).f && (within n (λ m. true) && is_good s most_levels)) short
        (both (elements (out-Ref x).f) (within n (λ m. true) && is_good s most_levels) (subst (λ (f : ℕ). IsTrue (elements f)) (sym p.scale) q.built) body))))
        (λ few.
        both (place_formed r) (formed.are_elements (alone u) 0 (at_work who) fs && is_formed s) (hr (omega (arith, few))).formed
        (both (formed.are_elements (alone u) 0 (at_work who) fs) (is_formed s) (he (omega (arith, few)) (omega (arith, few))).formed (gs.formed (omega (arith, few)))))
