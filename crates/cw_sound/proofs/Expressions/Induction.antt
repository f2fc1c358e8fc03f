-- Every tree is right where each rule of expressions keeps what is known of values, tests and places: by induction over all trees.
use Rattle.std.proofs.Common.{◌≡◌, ℕ, suc, ◌≤◌, List, [], ◌∷◌, length, map, Bool, IsTrue, ◌&&◌, nat_le, refl, sym, ap, subst, ◌∙◌, Option, max, false, ◌==◌, is_none, ◌++◌, nat_lt}
use Rattle.cw_tree.specs.declared.expression.RawExpr.{RawExpr}
use Rattle.cw_tree.specs.declared.expression.RawRef.{RawRef}
use Rattle.cw_tree.specs.declared.expression.RawCand.{RawCand}
use Rattle.cw_tree.specs.declared.expression.RawCmp.{RawCmp}
use Rattle.cw_tree.specs.declared.expression.RawCond.{RawCond}
use Rattle.cw_tree.specs.declared.expression.RawDiffer.{RawDiffer}
use Rattle.cw_tree.specs.declared.expression.RawMask.{RawMask}
use Rattle.cw_tree.specs.declared.expression.RawPrim.{RawPrim}
use Rattle.cw_tree.specs.declared.expression.RawTerm.{RawTerm}
use Rattle.cw_tree.specs.declared.expression.RawUnion.{RawUnion}
use Rattle.cw_tree.specs.declared.expression.RawExpr.TheOpen as layer
use Rattle.cw_facts.specs.Uses.{Uses, reading_of, each_for, operands_for, uses_of}
use Rattle.cw_facts.specs.Uses as uses
use Rattle.cw_scope.specs.declared.resolve.Named.{Named}
use Rattle.cw_scale.specs.TypeRules.{Judged, plain, logic_shape_from, logic_faults}
use Rattle.cw_scale.specs.TypeRules as judged
use Rattle.cw_make_expr.specs.Parts.{Numbers, within, item_here}
use Rattle.cw_make_expr.specs.Made.{Made, Placed, simply, logic_of, term_of, sum_of, prim_of, all_of, any_of}
use Rattle.cw_make_expr.specs.Made as made
use Rattle.cw_unit.specs.declared.unit.LogicOp.TheVariants as logic_op
use Rattle.cw_unit.specs.declared.unit.Cond.{Cond}
use Rattle.cw_sound.specs.Expressions.Levels as levels
use Rattle.cw_sound.specs.Expressions.Regular as regular
use Rattle.cw_sound.proofs.Expressions.Truth.{parts, le_of}
use Rattle.cw_sound.proofs.Expressions.Layers as layers
use Rattle.cw_sound.proofs.Expressions.Layers.{Values, expr_layer_values, primary_layer_values, ref_layer_values, cand_layer_values, cmp_layer_values, cond_layer_values, differ_layer_values, mask_layer_values, prim_layer_values, sum_layer_values, term_layer_values, union_layer_values, expr_values, ref_values, cond_values}
use Rattle.cw_sound.proofs.Expressions.Folds.{levels_pass, regular_pass}
use Rattle.cw_tree.proofs.Expressions.{of_primary, of_conjunction, of_comparison, of_differ, of_mask, of_prim, of_sum, of_term, of_union}
use Rattle.cw_tree.specs.declared.leaf.RawSign.{RawSign}
use Rattle.cw_tree.specs.declared.leaf.RawFactorSign.{RawFactorSign}
use Rattle.cw_tree.specs.declared.expression.RawBits.{RawBits}
use Rattle.cw_facts.specs.declared.fact.Reading.TheVariants as reading
use Rattle.cw_make_expr.specs.Nodes.{number, constant, string, call, force, locate, choice, comparator, comparison}
use Rattle.cw_unit.specs.declared.unit.LogicOp.{LogicOp}
use Rattle.cw_sound.specs.Expressions.Levels.{largest}
use Rattle.cw_word.specs.Word.{signed}
use Rattle.cw_amount.specs.Amounts.{octal_word}
use Rattle.cw_tree.specs.declared.leaf.Position.{Position}
use Rattle.cw_tree.specs.declared.leaf.RawLiteral.{RawLiteral}
use Rattle.cw_tree.specs.declared.leaf.RawName.{RawName}
use Rattle.cw_tree.specs.declared.leaf.RawNumber.{RawNumber}
use Rattle.cw_tree.specs.declared.leaf.RawOctal.{RawOctal}
use Rattle.cw_tree.specs.declared.leaf.RawType.{RawType}
use Rattle.cw_facts.specs.declared.fact.Form.TheVariants as form
use Rattle.cw_scale.specs.Kinds.{fraction_of}
use Rattle.cw_tree.specs.declared.leaf.RawCompareSign.{RawCompareSign}
use Rattle.cw_sound.proofs.Expressions.Lists.{Each, none, more}
use Rattle.cw_sound.proofs.Expressions.Parts.{made_of}
use Rattle.cw_sound.proofs.Expressions.Schema.{Known, ExprParts, PrimaryParts, RefParts, CandParts, CmpParts, CondParts, DifferParts, MaskParts, PrimParts, SumParts, TermParts, UnionParts, expr_layer, primary_layer, ref_layer, cand_layer, cmp_layer, cond_layer, differ_layer, mask_layer, prim_layer, sum_layer, term_layer, union_layer, Rules, each_expr, each_ref, each_cond}

length_map : {X Y : Type 0} (f : X → Y) (xs : List X) → length (map f xs) ≡ length xs
length_map f [] = refl
length_map f (x ∷ xs) = ap suc (length_map f xs)

same_lengths : {X Y Z : Type 0} (f : X → Y) (g : X → Z) (xs : List X) (n : ℕ) → IsTrue (nat_le (length (map f xs)) n) → length (map g xs) ≤ n
same_lengths f g xs n h = subst (λ (k : ℕ). k ≤ n) (length_map f xs ∙ sym (length_map g xs)) (le_of (length (map f xs)) n h)

module _ (named : Named) (numbers : Numbers) (Value : Judged → Made → Uses → ℕ → Type 0) (Test : Judged → Cond → Uses → ℕ → Type 0) (Place : Judged → Placed → Uses → ℕ → Type 0) where
  -- the rules of expressions: where the parts are right, so is the whole
  pub record RightRules : Type 0 where
    pub value_of_place : (j : Judged) (p : Placed) (x : Uses) (l : ℕ) → Place j p x l → Value j (made_of p) x l
    pub logic_right : (op : LogicOp) {js : List Judged} {ms : List Made} {xs : List Uses} {ls : List ℕ} → Each Made Value js ms xs ls
        → Value (record { shape = logic_shape_from (length js == 1) (plain 0) js; faults = λ f. logic_faults (length js == 1) f js }) (logic_of op ms) (λ r. operands_for r xs) (largest ls)
    pub prim_right : (bs : List RawBits) (j : Judged) (m : Made) (x : Uses) (l : ℕ) → Value j m x l
        → Value (judged.prim_step named (record { bits = bs; primary = j })) (prim_of bs m) (λ r. x (reading_of r (length bs == 0))) l
    pub term_right : (signs : List RawFactorSign) {js : List Judged} {ms : List Made} {xs : List Uses} {ls : List ℕ} → length ms ≤ suc (length signs)
        → Each Made Value js ms xs ls
        → Value (judged.term_step named (record { operands = js; operators = signs })) (term_of ms signs) (λ r. operands_for r xs) (largest ls)
    pub sum_right : (sign : Option RawSign) (signs : List RawSign) {js : List Judged} {ms : List Made} {xs : List Uses} {ls : List ℕ}
        → length ms ≤ suc (length signs) → Each Made Value js ms xs ls
        → Value (judged.sum_step named (record { sign = sign; operands = js; operators = signs })) (sum_of sign ms signs) (λ r. each_for (reading_of r (length xs == 1 && is_none sign)) xs) (largest ls)
    pub number_right : (n : RawNumber) → Value (judged.primary_step named (layer.Number n)) (simply (number n.number)) (λ r. []) 0
    pub octal_right : (n : RawOctal)
        → Value (judged.primary_step named (layer.Octal n)) (simply (constant (signed (within 65535 (octal_word n.number.number))))) (λ r. []) 0
    pub literal_right : (c : RawLiteral) → IsTrue (nat_lt c.byte 256)
        → Value (judged.primary_step named (layer.Literal c)) (simply (constant (signed c.byte))) (λ r. []) 0
    pub string_right : (at : Position) (cs : List ℕ)
        → Value (judged.primary_step named (layer.Text at cs)) (simply (string (item_here numbers at.token))) (uses.primary_step (layer.Text at cs)) 0
    pub location_right : (at : Position) (j : Judged) (p : Placed) (x : Uses) (l : ℕ) → Place j p x l
        → Value (judged.primary_step named (layer.Location at j)) (simply (locate p.place)) (λ r. x reading.Whole) l
    pub forced_right : (t : RawType) (j : Judged) (m : Made) (x : Uses) (l : ℕ) → Value j m x l
        → Value (judged.primary_step named (layer.Forced t j)) (simply (force (fraction_of t) (m.made false))) (λ r. x reading.Value) l
    pub bracket_right : (at : Position) (j : Judged) (m : Made) (x : Uses) (l : ℕ) → Value j m x l
        → Value (judged.primary_step named (layer.Bracket at j)) (made.plainly (m.made false)) (λ r. x reading.Value) l
    pub call_right : (n : RawName) {js : List Judged} {ms : List Made} {xs : List Uses} {ls : List ℕ} → Each Made Value js ms xs ls
        → Value (judged.primary_step named (layer.Call n js)) (simply (call (made.target named numbers n) (made.arguments named numbers n ms))) (λ r. uses_of n form.CallValue ++ each_for reading.Argument xs) (largest ls)
    pub choice_right : (at : Position) (jt j k : Judged) (t : Cond) (m n : Made) (x y z : Uses) (c l i : ℕ) → Test jt t x c → Value j m y l → Value k n z i
        → Value (judged.expression_step named (layer.Choice at jt j k)) (simply (choice t (m.made false) (n.made false))) (λ r. x reading.Value ++ (y reading.Value ++ z reading.Value)) (max c (max (suc l) i))
    pub name_right : (n : RawName)
        → Place (judged.reference_step named (layer.Name n)) (made.reference_step named numbers (layer.Name n)) (λ r. uses_of n (form.Reference r 0)) 0
    pub one_right : (n : RawName) (j : Judged) (m : Made) (x : Uses) (l : ℕ) → Value j m x l
        → Place (judged.reference_step named (layer.One n j)) (made.reference_step named numbers (layer.One n m)) (λ r. uses_of n (form.Reference (uses.indexed r) 1) ++ x reading.Value) l
    pub two_right : (n : RawName) (j k : Judged) (m p : Made) (x y : Uses) (l i : ℕ) → Value j m x l → Value k p y i
        → Place (judged.reference_step named (layer.Two n j k)) (made.reference_step named numbers (layer.Two n m p)) (λ r. uses_of n (form.Reference (uses.indexed r) 2) ++ (x reading.Value ++ y reading.Value)) (max l i)
    pub bare_right : (at : Position) (j : Judged) (m : Made) (x : Uses) (l : ℕ) → Value j m x l
        → Place (judged.reference_step named (layer.Bare at j)) (made.reference_step named numbers (layer.Bare at m)) (λ r. x reading.Value) l
    pub conjunction_right : (positions : List Position) {js : List Judged} {cs : List Cond} {xs : List Uses} {ls : List ℕ} → Each Cond Test js cs xs ls
        → Test (judged.conjunction_step named (record { operands = js; operators = positions })) (all_of cs) (λ r. each_for reading.Value xs) (largest ls)
    pub condition_right : (positions : List Position) {js : List Judged} {cs : List Cond} {xs : List Uses} {ls : List ℕ} → Each Cond Test js cs xs ls
        → Test (judged.condition_step named (record { operands = js; operators = positions })) (any_of cs) (λ r. each_for reading.Value xs) (largest ls)
    pub comparison_right : (o : RawCompareSign) (j k : Judged) (m n : Made) (x y : Uses) (l i : ℕ) → Value j m x l → Value k n y i
        → Test (judged.comparison_step named (record { left = j; operator = o; right = k })) (comparison (comparator o.op) (m.made false) (n.made false)) (λ r. x reading.Value ++ y reading.Value) (max l i)

module _ (named : Named) (numbers : Numbers) (Value : Judged → Made → Uses → ℕ → Type 0) (Test : Judged → Cond → Uses → ℕ → Type 0) (Place : Judged → Placed → Uses → ℕ → Type 0)
    (rules : RightRules named numbers Value Test Place) where
  each : (M : Type 0) (Known : Judged → M → Uses → ℕ → Type 0) (T : Type 0) (j : T → Judged) (m : T → M) (x : T → Uses) (l : T → ℕ) (g : T → Bool)
      (ts : List ((t : T) × (IsTrue (g t) → Known (j t) (m t) (x t) (l t)))) → let zs : List T = map (λ y. y.0) ts in
      IsTrue (regular.all (map g zs)) → Each M Known (map j zs) (map m zs) (map x zs) (map l zs)
  each M Known T j m x l g [] h = none
  each M Known T j m x l g (t ∷ ts) h =
      let halves = parts (g t.0) (regular.all (map g (map (λ y. y.0) ts))) h in
      more (t.1 halves.0) (each M Known T j m x l g ts halves.1)

  abbrev IfRegular : {M : Type 0} → (Judged → M → Uses → ℕ → Type 0) → Values M → Type 0
  IfRegular P v = IsTrue v.regular → P v.judged v.made v.uses v.levels

  abbrev known : Known
  known = layers.known named numbers (IfRegular Value) (IfRegular Test) (IfRegular Place)

  expression_rule : (y : ExprParts known) → IfRegular Value (expr_layer_values named numbers (expr_layer known y))
  expression_rule (layer.Choice at c a b) h =
      let halves = parts (regular.is_regular_condition c.0) ((regular.is_regular a.0) && (regular.is_regular b.0)) h in
      let sides = parts (regular.is_regular a.0) (regular.is_regular b.0) halves.1 in
      rules.choice_right at (judged.condition named c.0) (judged.expression named a.0) (judged.expression named b.0) (made.condition_made named numbers c.0) (made.expression_made named numbers a.0) (made.expression_made named numbers b.0) (uses.condition_uses c.0) (uses.expression_uses a.0) (uses.expression_uses b.0)
      (levels.condition_levels c.0) (levels.then_levels a.0) (levels.then_levels b.0) (c.1 halves.0) (a.1 sides.0) (b.1 sides.1)
  expression_rule (layer.Sum s) h = s.1 h

  primary_rule : (y : PrimaryParts known) → IfRegular Value (primary_layer_values named numbers (primary_layer known y))
  primary_rule (layer.Number n) h = rules.number_right n
  primary_rule (layer.Octal n) h = rules.octal_right n
  primary_rule (layer.Literal c) h = rules.literal_right c h
  primary_rule (layer.Text at cs) h = rules.string_right at cs
  primary_rule (layer.Location at r) h = rules.location_right at (judged.reference named r.0) (made.reference_made named numbers r.0) (uses.reference_uses r.0) (levels.reference_levels r.0) (r.1 h)
  primary_rule (layer.Forced t e) h = rules.forced_right t (judged.expression named e.0) (made.expression_made named numbers e.0) (uses.expression_uses e.0) (levels.then_levels e.0) (e.1 h)
  primary_rule (layer.Bracket at e) h = rules.bracket_right at (judged.expression named e.0) (made.expression_made named numbers e.0) (uses.expression_uses e.0) (levels.then_levels e.0) (e.1 h)
  primary_rule (layer.Ref r) h = rules.value_of_place (judged.reference named r.0) (made.reference_made named numbers r.0) (uses.reference_uses r.0) (levels.reference_levels r.0) (r.1 h)
  primary_rule (layer.Call n xs) h = rules.call_right n (each Made Value RawExpr (judged.expression named) (made.expression_made named numbers) uses.expression_uses levels.then_levels regular.is_regular xs h)

  reference_rule : (y : RefParts known) → IfRegular Place (ref_layer_values named numbers (ref_layer known y))
  reference_rule (layer.Name n) h = rules.name_right n
  reference_rule (layer.One n e) h = rules.one_right n (judged.expression named e.0) (made.expression_made named numbers e.0) (uses.expression_uses e.0) (levels.then_levels e.0) (e.1 h)
  reference_rule (layer.Two n e g) h =
      let halves = parts (regular.is_regular e.0) (regular.is_regular g.0) h in
      rules.two_right n (judged.expression named e.0) (judged.expression named g.0) (made.expression_made named numbers e.0) (made.expression_made named numbers g.0) (uses.expression_uses e.0) (uses.expression_uses g.0) (levels.then_levels e.0) (levels.then_levels g.0) (e.1 halves.0) (g.1 halves.1)
  reference_rule (layer.Bare at e) h = rules.bare_right at (judged.expression named e.0) (made.expression_made named numbers e.0) (uses.expression_uses e.0) (levels.then_levels e.0) (e.1 h)

  conjunction_rule : (y : CandParts known) → IfRegular Test (cand_layer_values named numbers (cand_layer known y))
  conjunction_rule y h = rules.conjunction_right y.operators (each Cond Test RawCmp (judged.comparison named) (made.comparison_made named numbers) uses.comparison_uses (of_comparison levels_pass) (of_comparison regular_pass) y.operands h)

  comparison_rule : (y : CmpParts known) → IfRegular Test (cmp_layer_values named numbers (cmp_layer known y))
  comparison_rule y h =
      let halves = parts (of_sum regular_pass y.left.0) (of_sum regular_pass y.right.0) h in
      rules.comparison_right y.operator (judged.sum named y.left.0) (judged.sum named y.right.0) (made.sum_made named numbers y.left.0) (made.sum_made named numbers y.right.0) (uses.sum_uses y.left.0) (uses.sum_uses y.right.0) (of_sum levels_pass y.left.0) (of_sum levels_pass y.right.0) (y.left.1 halves.0) (y.right.1 halves.1)

  condition_rule : (y : CondParts known) → IfRegular Test (cond_layer_values named numbers (cond_layer known y))
  condition_rule y h = rules.condition_right y.operators (each Cond Test RawCand (judged.conjunction named) (made.conjunction_made named numbers) uses.conjunction_uses (of_conjunction levels_pass) (of_conjunction regular_pass) y.operands h)

  differ_rule : (y : DifferParts known) → IfRegular Value (differ_layer_values named numbers (differ_layer known y))
  differ_rule y h = rules.logic_right logic_op.Differ (each Made Value RawUnion (judged.union named) (made.union_made named numbers) uses.union_uses (of_union levels_pass) (of_union regular_pass) y.operands h)

  mask_rule : (y : MaskParts known) → IfRegular Value (mask_layer_values named numbers (mask_layer known y))
  mask_rule y h = rules.logic_right logic_op.Mask (each Made Value RawPrim (judged.prim named) (made.prim_made named numbers) uses.prim_uses (of_prim levels_pass) (of_prim regular_pass) y.operands h)

  prim_rule : (y : PrimParts known) → IfRegular Value (prim_layer_values named numbers (prim_layer known y))
  prim_rule y h = rules.prim_right y.bits (judged.primary named y.primary.0) (made.primary_made named numbers y.primary.0) (uses.primary_uses y.primary.0) (of_primary levels_pass y.primary.0) (y.primary.1 h)

  sum_rule : (y : SumParts known) → IfRegular Value (sum_layer_values named numbers (sum_layer known y))
  sum_rule y h =
      let zs : List RawTerm = map (λ z. z.0) y.operands in
      let halves = parts (nat_le (length (map (of_term regular_pass) zs)) (suc (length y.operators))) (regular.all (map (of_term regular_pass) zs)) h in
      rules.sum_right y.sign y.operators (same_lengths (of_term regular_pass) (made.term_made named numbers) zs (suc (length y.operators)) halves.0) (each Made Value RawTerm (judged.term named) (made.term_made named numbers) uses.term_uses (of_term levels_pass) (of_term regular_pass) y.operands halves.1)

  term_rule : (y : TermParts known) → IfRegular Value (term_layer_values named numbers (term_layer known y))
  term_rule y h =
      let zs : List RawDiffer = map (λ z. z.0) y.operands in
      let halves = parts (nat_le (length (map (of_differ regular_pass) zs)) (suc (length y.operators))) (regular.all (map (of_differ regular_pass) zs)) h in
      rules.term_right y.operators (same_lengths (of_differ regular_pass) (made.differ_made named numbers) zs (suc (length y.operators)) halves.0) (each Made Value RawDiffer (judged.differ named) (made.differ_made named numbers) uses.differ_uses (of_differ levels_pass) (of_differ regular_pass) y.operands halves.1)

  union_rule : (y : UnionParts known) → IfRegular Value (union_layer_values named numbers (union_layer known y))
  union_rule y h = rules.logic_right logic_op.Union (each Made Value RawMask (judged.mask named) (made.mask_made named numbers) uses.mask_uses (of_mask levels_pass) (of_mask regular_pass) y.operands h)

  layer_rules : Rules known
  layer_rules =
      layers.known_rules named numbers (IfRegular Value) (IfRegular Test) (IfRegular Place) expression_rule primary_rule reference_rule conjunction_rule comparison_rule condition_rule differ_rule mask_rule prim_rule sum_rule term_rule union_rule

  pub expression_is_right : (x : RawExpr) → IfRegular Value (expr_values named numbers x)
  expression_is_right = each_expr known layer_rules

  pub reference_is_right : (x : RawRef) → IfRegular Place (ref_values named numbers x)
  reference_is_right = each_ref known layer_rules

  pub condition_is_right : (x : RawCond) → IfRegular Test (cond_values named numbers x)
  condition_is_right = each_cond known layer_rules

  pub each_right : (es : List RawExpr) → IsTrue (regular.all (map regular.is_regular es))
      → Each Made Value (map (judged.expression named) es) (map (made.expression_made named numbers) es) (map uses.expression_uses es) (map levels.then_levels es)
  each_right [] h = none
  each_right (e ∷ es) h =
      let halves = parts (regular.is_regular e) (regular.all (map regular.is_regular es)) h in
      more (expression_is_right e halves.0) (each_right es halves.1)
