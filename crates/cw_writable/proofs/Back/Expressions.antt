-- The orders of the expressions, conditions, references and arguments of a unit that is built name what there is.
use Rattle.std.proofs.Common.{◌≡◌, ℕ, zero, suc, ◌+◌, ◌<◌, ◌≤◌, max, nat_le, nat_lt, ℤ, pos, ◌-ℤ◌, List, [], ◌∷◌, ◌++◌, map, length, Bool, true, false, IsTrue, ◌&&◌, if◌then◌else◌, ◌==◌, Option, Some, None, is_some, refl, sym, ap, ◌∙◌, subst, arith}
use Rattle.std.specs.List.{list_all}
use Rattle.cw_word.specs.Decimal.{decimal_floor}
use Rattle.cw_word.specs.Word.{unsigned}
use Rattle.cw_order.specs.declared.order.Order.{Order}
use Rattle.cw_order.specs.declared.order.Order.TheVariants as order
use Rattle.cw_unit.specs.declared.unit.Unit.{Unit as SourceUnit}
use Rattle.cw_unit.specs.declared.unit.Arg.{Arg, out-Arg}
use Rattle.cw_unit.specs.declared.unit.Cond.{Cond, out-Cond}
use Rattle.cw_unit.specs.declared.unit.Spot.{Spot, out-Spot}
use Rattle.cw_unit.specs.declared.unit.Ref.{Ref, out-Ref}
use Rattle.cw_unit.specs.declared.unit.Expr.{Expr, Expr-F, out-Expr}
use Rattle.cw_unit.specs.declared.unit.Arg.TheOpen as layer
use Rattle.cw_unit.specs.declared.unit.Arg.TheOpen.{Arg-F, Cond-F, Spot-F}
use Rattle.cw_unit.specs.declared.unit.Field.{Field}
use Rattle.cw_unit.specs.declared.unit.LogicOp.{LogicOp}
use Rattle.cw_unit.specs.declared.unit.LogicOp.TheVariants as logic
use Rattle.cw_unit.specs.declared.unit.Target.{Target}
use Rattle.cw_unit.specs.declared.unit.Target.TheVariants as target
use Rattle.cw_unit.specs.declared.unit.Goal.{Goal}
use Rattle.cw_unit.specs.declared.unit.Goal.TheVariants as goal
use Rattle.cw_unit.specs.Step.{label_of_def, label_of_goal, switch_of_def, procedure_of_def}
use Rattle.cw_unit.specs.Scales.{answer_scale}
use Rattle.cw_unit.specs.Storage.{layout_of}
use Rattle.cw_unit.specs.ValidStorage.{IsStorable}
use Rattle.cw_safety.specs.Kinds.{Kind, LabelKind, SwitchKind, WordKind, procedure_kind}
use Rattle.cw_safety.specs.WellFormed as formed
use Rattle.cw_safety.specs.WellFormed.{kind_if, kind_and, kinds_of, takes_arguments, reaches, reaches_switch, procedure_of_place, is_call, kind_of, is_expression, is_condition, is_reference}
use Rattle.cw_safety.proofs.Expanding.{kinds, arg_kinds, cond_kinds, spot_kinds, formed-expression, formed-argument, formed-condition, formed-spot, formed-reference}
use Rattle.cw_gen_expr.specs.Pieces.{Piece, plain, followed_by, sequence}
use Rattle.cw_gen_expr.specs.NamedItems.{has_words}
use Rattle.cw_gen_expr.specs.BuiltExpressions as built
use Rattle.cw_gen_expr.specs.BuiltExpressions.{most_levels, within, whole, all_built, built_value, built_reference, is_argument}
use Rattle.cw_gen_expr.specs.ReferenceExpressions.{Scope, ConditionPiece, at_line, saved, two_values, control_place, item_order, item_span, row_order, table_span, table_orders, bounds_orders, load_orders, store_orders, rescale_orders, logic_order, number_order, known_or, named_or, comparator_for, pick_mark, narrow, call_order, label_order, value_of, condition_piece, argument_piece, reference_of, expression_piece}
use Rattle.cw_gen_expr.specs.KnownValues.{all_inside}
use Rattle.cw_gen_expr.specs.ReferenceEntries.{scope_of}
use Rattle.cw_gen_expr.proofs.Layers.{value_layer, computed_layer, known_layer, value-made, argument_layer, argument-made, spot_layer, indexed_layer, word_item, word_layer, item-named as item-has, spot-made, reference-made, condition_layer, condition-made, built_value_layer, value-built, built_argument_layer, argument-built, built_spot_layer, spot-built, reference-built, built_condition_layer, condition-built, total, expression_size, expression-size, expression_size_layer, argument_size, argument-size, argument_size_layer, spot-size, spot_size_layer, reference_size, reference-size, condition_size, condition-size, condition_size_layer}
use Rattle.cw_gen_unit.specs.ReferenceStatements.{parted_piece}
use Rattle.cw_built.specs.Listed.{are_named}
use Rattle.cw_built.specs.Built.{alone}
use Rattle.cw_writable.proofs.Coded.Fine.{no, both, parts, parted_kept}
use Rattle.cw_writable.proofs.Back.Fit.{names_well, Good, plainly, both_good, ended_good, passed}
use Rattle.cw_writable.proofs.Back.Names.{item-named, table-named, listed}

-- ---- kinds

kind-if : (b : Bool) (k : Kind) → IsTrue (is_some (kind_if b k)) → IsTrue b
kind-if true k h = refl
kind-if false k h = h

kind-and : (a : Option Kind) (b : Option (List Kind)) → IsTrue (is_some (kind_and a b)) → IsTrue (is_some a) × IsTrue (is_some b)
kind-and None b h = no h
kind-and (Some a) None h = no h
kind-and (Some a) (Some b) h = (refl, refl)

-- a unit that is stored and named, a body of it, and who is at work there
module _ (u : SourceUnit) (stored : IsStorable u) (few : length u.items ≤ 65535) (named : IsTrue (are_named u.descs)) (who : Option ℕ) (o : Option (ℕ × ℕ)) where
  abbrev pub Names : Order → Bool
  Names = names_well (length u.descs) (layout_of u).families

  abbrev pub Fine : Piece → Type 0
  Fine p = Good (length u.descs) (layout_of u).families p

  abbrev pub Words : (item words : ℕ) → Bool
  Words = has_words u who

  -- ---- single orders

  pub item-first : (i m word : ℕ) (os : List Order) → IsTrue (Words i m) → IsTrue (list_all Names os) → IsTrue (list_all Names (item_order (layout_of u) i word ∷ os))
  item-first i m word os h k = both (Names (item_order (layout_of u) i word)) (list_all Names os) (item-named u stored few who i m word h) k

  rescale-named : (line from to : ℕ) → IsTrue (list_all Names (rescale_orders line from to))
  rescale-named line from to = picked (from == to)
    where
      picked : (b : Bool) → IsTrue (list_all Names (if b then [] else (order.Rescale from to line ∷ [])))
      picked true = refl
      picked false = refl

  load-named : (x : Option Field) → IsTrue (list_all Names (load_orders x))
  load-named None = refl
  load-named (Some s) = refl

  pub store-named : (x : Option Field) → IsTrue (list_all Names (store_orders x))
  store-named None = refl
  store-named (Some s) = refl

  bounds-named : (b : Bool) (line : ℕ) (l h : ℤ) → IsTrue (list_all Names (bounds_orders b line l h))
  bounds-named true line l h = refl
  bounds-named false line l h = refl

  logic-first : (op : LogicOp) (os : List Order) → IsTrue (list_all Names os) → IsTrue (list_all Names (logic_order op ∷ os))
  logic-first logic.Mask os h = h
  logic-first logic.Union os h = h
  logic-first logic.Differ os h = h

  pub saved_good : Fine saved
  saved_good = plainly (order.Save ∷ []) refl

  -- ---- at a line

  module _ (line : ℕ) where
    abbrev pub Here : Scope
    Here = at_line line (scope_of u who)

    label-named : (g : Goal) → IsTrue (reaches (alone u) o (label_of_goal (alone u) 0 g)) → IsTrue (Names (label_order Here g))
    label-named (goal.Own l) h = refl
    label-named (goal.Common d) h = listed u named d (λ x. reaches (alone u) o (label_of_def x)) refl h

    pub call-named : (wanted : Bool) (t : Target) (ks : Option (List Kind)) → IsTrue (is_call (alone u) 0 o wanted t ks) → IsTrue (Names (call_order Here t))
    call-named wanted t None h = no h
    call-named wanted (target.Common d) (Some ks) h = listed u named d (λ x. takes_arguments (procedure_of_place (alone u) (procedure_of_def x)) ks) refl h
    call-named wanted _ (Some ks) h = refl

    pub call-kinds : (wanted : Bool) (t : Target) (ks : Option (List Kind)) → IsTrue (is_call (alone u) 0 o wanted t ks) → IsTrue (is_some ks)
    call-kinds wanted t None h = h
    call-kinds wanted t (Some ks) h = refl

    -- ---- trees

    pub parted_good : (c : ConditionPiece) (between : ℕ → List Order) (a b : Piece) → ((when : Bool) (mark : ℕ) → Fine (c when mark)) → ((end : ℕ) → IsTrue (list_all Names (between end))) → Fine a → Fine b → Fine (parted_piece c between a b)
    parted_good c between a b hc well ha hb = parted_kept Fine ended_good (λ x y. both_good) c between a b hc (λ end. plainly (between end) (well end)) ha hb

    known_good : (k : Option ℤ) (p : Piece) → Fine p → Fine (known_or k p)
    known_good (Some z) p h = plainly (number_order (unsigned z) ∷ []) refl
    known_good None p h = h

    named_good : (i : ℕ) (w : Option ℕ) (p : Piece) → ((n : ℕ) → w ≡ Some n → IsTrue (Words i 1)) → Fine p → Fine (named_or (layout_of u) i w p)
    named_good i (Some n) p has h = plainly (item_order (layout_of u) i n ∷ []) (item-first i 1 n [] (has n refl) refl)
    named_good i None p has h = h

    record Below (n : ℕ) : Type 0 where
      values : (d : Expr) → expression_size d < n → (f levels : ℕ) → IsTrue ((built_value u Words d).at f levels) → IsTrue (is_expression (alone u) 0 o d) → (g : ℕ) → Fine (expression_piece Here d g)
      conditions : (d : Cond) → condition_size d < n → IsTrue (built.is_condition u Words d) → IsTrue (is_condition (alone u) 0 o d) → (when : Bool) (mark : ℕ) → Fine (condition_piece Here d when mark)
      arguments : (d : Arg) → argument_size d < n → IsTrue (is_argument u Words d) → IsTrue (is_some (kind_of (alone u) 0 o d)) → Fine (argument_piece Here d)
      references : (d : Ref) → reference_size d < n → IsTrue (built_reference u Words d).good → IsTrue (is_reference (alone u) 0 o d) → Fine (reference_of Here d).address

    module _ (n : ℕ) (b : Below n) where
      at-scale : (d : Expr) → expression_size d < n → (f : ℕ) → IsTrue (whole (built_value u Words d) f) → IsTrue (is_expression (alone u) 0 o d) → (g : ℕ) → Fine (expression_piece Here d g)
      at-scale d lt f h k g = b.values d lt f most_levels (parts (nat_le f 15) ((built_value u Words d).at f most_levels) h).1 k g

      bounded_good : (e : Expr) (l r : ℤ) → expression_size e < n → IsTrue (whole (built_value u Words e) 0) → IsTrue (is_expression (alone u) 0 o e) → Fine (followed_by (expression_piece Here e 0) (plain (bounds_orders u.bounds line l r)))
      bounded_good e l r lt h k = both_good (at-scale e lt 0 h k 0) (plainly (bounds_orders u.bounds line l r) (bounds-named u.bounds line l r))

      indexed_good : (x : Spot-F Arg Cond Expr Spot Ref) → spot_size_layer x ≤ n → IsTrue (built_spot_layer u Words x) → IsTrue (formed.spot_step (spot_kinds (alone u) 0 o x)) → Fine (indexed_layer Here x)
      indexed_good (layer.Direct i) le h k = both_good (plainly [] refl) (plainly (item_order (layout_of u) i 0 ∷ []) (item-first i 1 0 [] h refl))
      indexed_good (layer.Through i) le h k =
          both_good (plainly [] refl) (plainly (item_order (layout_of u) i 0 ∷ order.Load ∷ order.InArea line ∷ []) (item-first i 1 0 (order.Load ∷ order.InArea line ∷ []) h refl))
      indexed_good (layer.One i l r e) le h k =
          let p = parts (Words i 1) (whole (built_value u Words e) 0) h in
          both_good (bounded_good e l r (let z : expression_size e < n = omega (arith, le) in z) p.1 k)
          (plainly (order.Save ∷ item_order (layout_of u) i 0 ∷ order.Element l (item_span (layout_of u) i) line ∷ []) (item-first i 1 0 (order.Element l (item_span (layout_of u) i) line ∷ []) p.0 refl))
      indexed_good (layer.Two i l1 u1 l2 u2 m e g) le h k =
          let p = parts (Words i 1) (whole (built_value u Words e) 0 && whole (built_value u Words g) 0) h in
          let q = parts (whole (built_value u Words e) 0) (whole (built_value u Words g) 0) p.1 in
          let r = parts (is_expression (alone u) 0 o e) (is_expression (alone u) 0 o g) k in
          both_good
          (both_good (bounded_good e l1 u1 (let z : expression_size e < n = omega (arith, le) in z) q.0 r.0) (both_good saved_good (bounded_good g l2 u2 (let z : expression_size g < n = omega (arith, le) in z) q.1 r.1)))
          (row (all_inside u.bounds (item_span (layout_of u) i) l1 u1 l2 u2 m))
        where
          row : (b : Bool) → Fine (plain (order.Save ∷ item_order (layout_of u) i 0 ∷ row_order b l1 l2 m (item_span (layout_of u) i) line ∷ []))
          row true = plainly (order.Save ∷ item_order (layout_of u) i 0 ∷ order.ElementInside l1 l2 m (item_span (layout_of u) i) ∷ []) (item-first i 1 0 (order.ElementInside l1 l2 m (item_span (layout_of u) i) ∷ []) (parts (Words i 1) (whole (built_value u Words e) 0 && whole (built_value u Words g) 0) h).0 refl)
          row false = plainly (order.Save ∷ item_order (layout_of u) i 0 ∷ order.ElementOfTwo l1 l2 m line ∷ []) (item-first i 1 0 (order.ElementOfTwo l1 l2 m line ∷ []) (parts (Words i 1) (whole (built_value u Words e) 0 && whole (built_value u Words g) 0) h).0 refl)
      indexed_good (layer.ParamArray i e) le h k =
          let p = parts (Words i 1) (whole (built_value u Words e) 0) h in
          both_good (at-scale e (let z : expression_size e < n = omega (arith, le) in z) 0 p.1 k 0)
          (plainly (order.Save ∷ item_order (layout_of u) i 0 ∷ order.Load ∷ order.Element (pos 0) 0 line ∷ []) (item-first i 1 0 (order.Load ∷ order.Element (pos 0) 0 line ∷ []) p.0 refl))
      indexed_good (layer.Word i t m e) le h k =
          let p = parts (Words i 1) (whole (built_value u Words e) 0) h in
          let rest : List Order = order.Element (pos 0) (table_span (layout_of u) t i) line ∷ [] in
          both_good (bounded_good e (pos 0) (pos m -ℤ pos 1) (let z : expression_size e < n = omega (arith, le) in z) p.1 k)
          (plainly (order.Save ∷ (table_orders (layout_of u) t i ++ rest)) (passed (length u.descs) (layout_of u).families (table_orders (layout_of u) t i) rest (table-named u stored few who t i 1 p.0) refl))
      indexed_good (layer.Elem i t c m w e) le h k =
          let p = parts (Words i 1) (whole (built_value u Words e) 0) h in
          let rest : List Order = order.Entry c w (table_span (layout_of u) t i) line ∷ [] in
          both_good (bounded_good e (pos 0) (pos m -ℤ pos 1) (let z : expression_size e < n = omega (arith, le) in z) p.1 k)
          (plainly (order.Save ∷ (table_orders (layout_of u) t i ++ rest)) (passed (length u.descs) (layout_of u).families (table_orders (layout_of u) t i) rest (table-named u stored few who t i 1 p.0) refl))
      indexed_good (layer.Bare e) le h k = both_good (at-scale e (let z : expression_size e < n = omega (arith, le) in z) 0 h k 0) (plainly (order.InArea line ∷ []) refl)

      spot_good : (x : Spot-F Arg Cond Expr Spot Ref) → spot_size_layer x ≤ n → IsTrue (built_spot_layer u Words x) → IsTrue (formed.spot_step (spot_kinds (alone u) 0 o x)) → Fine (spot_layer Here x)
      spot_good x le h k = named_good (word_item Here x) (word_layer Here x) (indexed_layer Here x) (λ m known. item-has Here u Words x m h known) (indexed_good x le h k)

      reference_good : (r : Ref) → reference_size r ≤ n → IsTrue (built_reference u Words r).good → IsTrue (is_reference (alone u) 0 o r) → Fine (reference_of Here r).address
      reference_good r le h k =
          let x = out-Ref r in
          let hs : IsTrue (built_spot_layer u Words (out-Spot x.at)) = subst IsTrue (spot-built u Words x.at) (subst (λ y. IsTrue y.good) (reference-built u Words r) h) in
          let ks : IsTrue (formed.spot_step (spot_kinds (alone u) 0 o (out-Spot x.at))) = subst IsTrue (formed-spot (alone u) 0 o x.at) (subst IsTrue (formed-reference (alone u) 0 o r) k) in
          subst Fine (sym (ap (λ y. y.address) (reference-made Here r) ∙ spot-made Here x.at)) (spot_good (out-Spot x.at) (let z : spot_size_layer (out-Spot x.at) ≤ n = omega (arith, le, reference-size r ∙ spot-size x.at) in z) hs ks)

      condition_good : (x : Cond-F Arg Cond Expr Spot Ref) → condition_size_layer x ≤ n → IsTrue (built_condition_layer u Words x) → IsTrue (formed.condition_step (cond_kinds (alone u) 0 o x)) → (when : Bool) (mark : ℕ) → Fine (condition_layer Here x when mark)
      condition_good (layer.Cmp op a d) le h k when mark =
          let f = max (built_value u Words a).natural (built_value u Words d).natural in
          let g = max (value_of Here a).natural (value_of Here d).natural in
          let p = parts (whole (built_value u Words a) f) (whole (built_value u Words d) f) h in
          let q = parts (is_expression (alone u) 0 o a) (is_expression (alone u) 0 o d) k in
          both_good (at-scale a (let z : expression_size a < n = omega (arith, le) in z) f p.0 q.0 g)
          (both_good saved_good (both_good (at-scale d (let z : expression_size d < n = omega (arith, le) in z) f p.1 q.1 g) (plainly (order.JumpIf (comparator_for when op) mark ∷ []) refl)))
      condition_good (layer.And a d) le h k when mark =
          let p = parts (built.is_condition u Words a) (built.is_condition u Words d) h in
          let q = parts (is_condition (alone u) 0 o a) (is_condition (alone u) 0 o d) k in
          ended_good (λ end. followed_by (condition_piece Here a false (pick_mark when end mark)) (condition_piece Here d when mark))
          (λ end. both_good (b.conditions a (let z : condition_size a < n = omega (arith, le) in z) p.0 q.0 false (pick_mark when end mark)) (b.conditions d (let z : condition_size d < n = omega (arith, le) in z) p.1 q.1 when mark))
      condition_good (layer.Or a d) le h k when mark =
          let p = parts (built.is_condition u Words a) (built.is_condition u Words d) h in
          let q = parts (is_condition (alone u) 0 o a) (is_condition (alone u) 0 o d) k in
          ended_good (λ end. followed_by (condition_piece Here a true (pick_mark when mark end)) (condition_piece Here d when mark))
          (λ end. both_good (b.conditions a (let z : condition_size a < n = omega (arith, le) in z) p.0 q.0 true (pick_mark when mark end)) (b.conditions d (let z : condition_size d < n = omega (arith, le) in z) p.1 q.1 when mark))

      argument_good : (x : Arg-F Arg Cond Expr Spot Ref) → argument_size_layer x ≤ n → IsTrue (built_argument_layer u Words x) → IsTrue (is_some (formed.argument_step (alone u) 0 o (arg_kinds (alone u) 0 o x))) → Fine (argument_layer Here x)
      argument_good (layer.Value e f) le h k = both_good (at-scale e (let z : expression_size e < n = omega (arith, le) in z) f h (kind-if (is_expression (alone u) 0 o e) WordKind k) f) saved_good
      argument_good (layer.Place r) le h k = both_good (b.references r (let z : reference_size r < n = omega (arith, le) in z) h (kind-if (is_reference (alone u) 0 o r) WordKind k)) saved_good
      argument_good (layer.Array i l) le h k = plainly (item_order (layout_of u) i 0 ∷ order.IndexLess l line ∷ order.Save ∷ []) (item-first i 1 0 (order.IndexLess l line ∷ order.Save ∷ []) h refl)
      argument_good (layer.Same i) le h k = plainly (item_order (layout_of u) i 0 ∷ order.Load ∷ order.Save ∷ []) (item-first i 1 0 (order.Load ∷ order.Save ∷ []) h refl)
      argument_good (layer.Base i) le h k = plainly (item_order (layout_of u) i 0 ∷ order.Save ∷ []) (item-first i 1 0 (order.Save ∷ []) h refl)
      argument_good (layer.Goal g) le h k =
          plainly (label_order Here g ∷ []) (both (Names (label_order Here g)) true (label-named g (kind-if (reaches (alone u) o (label_of_goal (alone u) 0 g)) LabelKind k)) refl)
      argument_good (layer.Switch m) le h k = plainly (order.SwitchOut m ∷ []) refl
      argument_good (layer.CommonSwitch d) le h k =
          plainly (order.SwitchCommon d ∷ []) (both (nat_lt d (length u.descs)) true (listed u named d (λ x. is_some (kind_if (reaches_switch (alone u) o (switch_of_def x)) SwitchKind)) refl k) refl)
      argument_good (layer.Proc q) le h k = plainly (order.ProcOut q ∷ []) refl
      argument_good (layer.CommonProc d) le h k =
          plainly (order.ProcCommon d ∷ []) (both (nat_lt d (length u.descs)) true (listed u named d (λ x. is_some (procedure_kind (procedure_of_place (alone u) (procedure_of_def x)))) refl k) refl)
      argument_good (layer.Special m) le h k = plainly (order.SpecialOut (control_place Here.parameters m) ∷ []) refl

      all_good : (args : List Arg) → total (map argument_size args) < n → IsTrue (all_built (map (is_argument u Words) args)) → IsTrue (is_some (kinds_of (map (kind_of (alone u) 0 o) args))) → Fine (sequence (map (argument_piece Here) args))
      all_good [] lt h k = plainly [] refl
      all_good (a ∷ args) lt h k =
          let p = parts (is_argument u Words a) (all_built (map (is_argument u Words) args)) h in
          let q = kind-and (kind_of (alone u) 0 o a) (kinds_of (map (kind_of (alone u) 0 o) args)) k in
          both_good (b.arguments a (let z : argument_size a < n = omega (arith, lt) in z) p.0 q.0) (all_good args (let z : total (map argument_size args) < n = omega (arith, lt) in z) p.1 q.1)

      -- two operands, each at a scale, and what is done with them
      two_good : (a d : Expr) (os : List Order) → expression_size a < n → expression_size d < n → (f1 f2 : ℕ) → IsTrue (whole (built_value u Words a) f1 && whole (built_value u Words d) f2) → IsTrue (is_expression (alone u) 0 o a && is_expression (alone u) 0 o d) → IsTrue (list_all Names os) → (g1 g2 : ℕ)
          → Fine (two_values (expression_piece Here a g1) (expression_piece Here d g2) os)
      two_good a d os la ld f1 f2 h k t g1 g2 =
          let p = parts (whole (built_value u Words a) f1) (whole (built_value u Words d) f2) h in
          let q = parts (is_expression (alone u) 0 o a) (is_expression (alone u) 0 o d) k in
          both_good (at-scale a la f1 p.0 q.0 g1) (both_good saved_good (both_good (at-scale d ld f2 p.1 q.1 g2) (plainly os t)))

      -- with a level less, if there is one
      inner_good : (d : Expr) → expression_size d < n → (f levels : ℕ) → IsTrue (within levels ((built_value u Words d).at f)) → IsTrue (is_expression (alone u) 0 o d) → (g : ℕ) → Fine (expression_piece Here d g)
      inner_good d lt f zero h k g = no h
      inner_good d lt f (suc m) h k g = b.values d lt f m h k g

      computed_good : (x : Expr-F Arg Cond Expr Spot Ref) → expression_size_layer x ≤ n → (f levels : ℕ) → IsTrue ((built_value_layer u Words x).at f levels) → IsTrue (formed.expression_step (alone u) 0 o (kinds (alone u) 0 o x)) → (g : ℕ) → Fine ((computed_layer Here x).at g)
      computed_good (layer.Num m) le f levels h k g = plainly (number_order (decimal_floor m.whole m.digits m.places g) ∷ []) refl
      computed_good (layer.Const z) le f levels h k g = plainly (number_order (unsigned z) ∷ rescale_orders line 0 g) (rescale-named line 0 g)
      computed_good (layer.Text i) le f levels h k g = plainly (item_order (layout_of u) i 0 ∷ rescale_orders line 0 g) (item-first i 1 0 (rescale_orders line 0 g) h (rescale-named line 0 g))
      computed_good (layer.Read r) le f levels h k g =
          let x = reference_of Here r in
          both_good (b.references r (let z : reference_size r < n = omega (arith, le) in z) h k)
          (plainly (load_orders x.field ++ rescale_orders line x.scale g) (passed (length u.descs) (layout_of u).families (load_orders x.field) (rescale_orders line x.scale g) (load-named x.field) (rescale-named line x.scale g)))
      computed_good (layer.Call t args) le f levels h k g =
          let ks = kinds_of (map (kind_of (alone u) 0 o) args) in
          both_good (all_good args (let z : total (map argument_size args) < n = omega (arith, le) in z) (parts (built.answers t) (all_built (map (is_argument u Words) args)) h).1 (call-kinds true t ks k))
          (plainly (call_order Here t ∷ rescale_orders line (answer_scale u t) g) (both (Names (call_order Here t)) (list_all Names (rescale_orders line (answer_scale u t) g)) (call-named true t ks k) (rescale-named line (answer_scale u t) g)))
      computed_good (layer.Force m e) le f levels h k g =
          both_good (at-scale e (let z : expression_size e < n = omega (arith, le) in z) m h k m) (plainly (rescale_orders line m g) (rescale-named line m g))
      computed_good (layer.Locate r) le f levels h k g =
          both_good (b.references r (let z : reference_size r < n = omega (arith, le) in z) h k) (plainly (rescale_orders line 0 g) (rescale-named line 0 g))
      computed_good (layer.Bits t d e) le f levels h k g =
          both_good (at-scale e (let z : expression_size e < n = omega (arith, le) in z) (built_value u Words e).operand h k (value_of Here e).operand) (plainly (order.Take t d ∷ rescale_orders line 0 g) (rescale-named line 0 g))
      computed_good (layer.Logic op a d) le f levels h k g =
          two_good a d (logic_order op ∷ rescale_orders line 0 g) (let z : expression_size a < n = omega (arith, le) in z) (let z : expression_size d < n = omega (arith, le) in z) (built_value u Words a).operand (built_value u Words d).operand h k (logic-first op (rescale_orders line 0 g) (rescale-named line 0 g)) (value_of Here a).operand (value_of Here d).operand
      computed_good (layer.Sum a d) le f levels h k g =
          two_good a d (order.Add line ∷ []) (let z : expression_size a < n = omega (arith, le) in z) (let z : expression_size d < n = omega (arith, le) in z) f f h k refl g g
      computed_good (layer.Less a d) le f levels h k g =
          two_good a d (order.Sub line ∷ []) (let z : expression_size a < n = omega (arith, le) in z) (let z : expression_size d < n = omega (arith, le) in z) f f h k refl g g
      computed_good (layer.Minus a) le f levels h k g = both_good (at-scale a (let z : expression_size a < n = omega (arith, le) in z) f h k g) (plainly (order.Neg line ∷ []) refl)
      computed_good (layer.Times a d) le f levels h k g =
          let fa = (value_of Here a).operand in
          let fd = (value_of Here d).operand in
          two_good a d (order.Mul (narrow (pos g -ℤ pos (fa + fd))) line ∷ []) (let z : expression_size a < n = omega (arith, le) in z) (let z : expression_size d < n = omega (arith, le) in z) (built_value u Words a).operand (built_value u Words d).operand h k refl fa fd
      computed_good (layer.Over a d) le f levels h k g =
          let fa = (value_of Here a).operand in
          let fd = (value_of Here d).operand in
          two_good a d (order.Div (narrow (pos (g + fd) -ℤ pos fa)) line ∷ []) (let z : expression_size a < n = omega (arith, le) in z) (let z : expression_size d < n = omega (arith, le) in z) (built_value u Words a).operand (built_value u Words d).operand h k refl fa fd
      computed_good (layer.Choice c a d) le f levels h k g =
          let p = parts (built.is_condition u Words c) (within levels ((built_value u Words a).at f) && (built_value u Words d).at f levels) h in
          let q = parts (within levels ((built_value u Words a).at f)) ((built_value u Words d).at f levels) p.1 in
          let r = parts (is_condition (alone u) 0 o c) (is_expression (alone u) 0 o a && is_expression (alone u) 0 o d) k in
          let t = parts (is_expression (alone u) 0 o a) (is_expression (alone u) 0 o d) r.1 in
          parted_good (condition_piece Here c) (λ end. order.Jump end ∷ []) (expression_piece Here a g) (expression_piece Here d g)
          (b.conditions c (let z : condition_size c < n = omega (arith, le) in z) p.0 r.0) (λ end. refl) (inner_good a (let z : expression_size a < n = omega (arith, le) in z) f levels q.0 t.0 g) (b.values d (let z : expression_size d < n = omega (arith, le) in z) f levels q.1 t.1 g)

      value_good : (x : Expr-F Arg Cond Expr Spot Ref) → expression_size_layer x ≤ n → (f levels : ℕ) → IsTrue ((built_value_layer u Words x).at f levels) → IsTrue (formed.expression_step (alone u) 0 o (kinds (alone u) 0 o x)) → (g : ℕ) → Fine ((value_layer Here x).at g)
      value_good x le f levels h k g = known_good (known_layer Here x g) ((computed_layer Here x).at g) (computed_good x le f levels h k g)

      next_below : Below (suc n)
      next_below = record {
        values = λ d lt f levels h k g. subst (λ v. Fine (v.at g)) (sym (value-made Here d)) (value_good (out-Expr d) (let z : expression_size_layer (out-Expr d) ≤ n = omega (arith, lt, expression-size d) in z) f levels (subst (λ v. IsTrue (v.at f levels)) (value-built u Words d) h) (subst IsTrue (formed-expression (alone u) 0 o d) k) g);
        conditions = λ d lt h k when mark. subst (λ p. Fine (p when mark)) (sym (condition-made Here d)) (condition_good (out-Cond d) (let z : condition_size_layer (out-Cond d) ≤ n = omega (arith, lt, condition-size d) in z) (subst IsTrue (condition-built u Words d) h) (subst IsTrue (formed-condition (alone u) 0 o d) k) when mark);
        arguments = λ d lt h k. subst Fine (sym (argument-made Here d)) (argument_good (out-Arg d) (let z : argument_size_layer (out-Arg d) ≤ n = omega (arith, lt, argument-size d) in z) (subst IsTrue (argument-built u Words d) h) (subst (λ x. IsTrue (is_some x)) (formed-argument (alone u) 0 o d) k));
        references = λ d lt h k. reference_good d (let z : reference_size d ≤ n = omega (arith, lt) in z) h k;
      }

    below : (n : ℕ) → Below n
    below zero = record {
      values = λ d lt f levels h k g. absurd (omega (arith, lt));
      conditions = λ d lt h k when mark. absurd (omega (arith, lt));
      arguments = λ d lt h k. absurd (omega (arith, lt));
      references = λ d lt h k. absurd (omega (arith, lt));
    }
    below (suc n) = next_below n (below n)

    pub expression_good : (e : Expr) (f levels : ℕ) → IsTrue (built.is_expression u Words e f levels) → IsTrue (is_expression (alone u) 0 o e) → (g : ℕ) → Fine (expression_piece Here e g)
    expression_good e f levels h k g =
        (below (suc (expression_size e))).values e (let z : expression_size e < suc (expression_size e) = omega arith in z) f levels (parts (nat_le f 15) ((built_value u Words e).at f levels) h).1 k g

    pub condition_formed_good : (d : Cond) → IsTrue (built.is_condition u Words d) → IsTrue (is_condition (alone u) 0 o d) → (when : Bool) (mark : ℕ) → Fine (condition_piece Here d when mark)
    condition_formed_good d h k when mark = (below (suc (condition_size d))).conditions d (let z : condition_size d < suc (condition_size d) = omega arith in z) h k when mark

    pub address_good : (r : Ref) → IsTrue (built_reference u Words r).good → IsTrue (is_reference (alone u) 0 o r) → Fine (reference_of Here r).address
    address_good r h k = (below (suc (reference_size r))).references r (let z : reference_size r < suc (reference_size r) = omega arith in z) h k

    pub arguments_good : (args : List Arg) → IsTrue (all_built (map (is_argument u Words) args)) → IsTrue (is_some (kinds_of (map (kind_of (alone u) 0 o) args))) → Fine (sequence (map (argument_piece Here) args))
    arguments_good args h k =
        let n = suc (total (map argument_size args)) in all_good n (below n) args (let z : total (map argument_size args) < n = omega arith in z) h k
