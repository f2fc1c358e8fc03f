-- No judgement of an expression, a condition or a reference takes a fault away, whatever its names stand for.
use Rattle.std.proofs.Common.{ℕ, max, List, [], ◌∷◌, length, map, Bool, true, false, ◌==◌, Option, Some, None, is_some}
use Rattle.cw_tree.specs.declared.expression.RawExpr.{RawExpr}
use Rattle.cw_tree.specs.declared.expression.RawPrimary.{RawPrimary}
use Rattle.cw_tree.specs.declared.expression.RawRef.{RawRef}
use Rattle.cw_tree.specs.declared.expression.RawCand.{RawCand}
use Rattle.cw_tree.specs.declared.expression.RawCmp.{RawCmp}
use Rattle.cw_tree.specs.declared.expression.RawCond.{RawCond}
use Rattle.cw_tree.specs.declared.expression.RawDiffer.{RawDiffer}
use Rattle.cw_tree.specs.declared.expression.RawMask.{RawMask}
use Rattle.cw_tree.specs.declared.expression.RawPrim.{RawPrim}
use Rattle.cw_tree.specs.declared.expression.RawSum.{RawSum}
use Rattle.cw_tree.specs.declared.expression.RawTerm.{RawTerm}
use Rattle.cw_tree.specs.declared.expression.RawUnion.{RawUnion}
use Rattle.cw_tree.specs.declared.leaf.RawName.{RawName}
use Rattle.cw_tree.specs.declared.segment.RawIps.TheVariants as inner
use Rattle.cw_tree.specs.declared.segment.RawPs.{RawPs}
use Rattle.cw_tree.specs.declared.segment.RawPs.TheVariants as ps
use Rattle.cw_tree.specs.declared.expression.RawExpr.TheOpen as layer
use Rattle.cw_facts.specs.declared.fact.Signature.{Signature}
use Rattle.cw_amount.specs.Amounts.{octal_word}
use Rattle.cw_scope.specs.declared.resolve.Named.{Named}
use Rattle.cw_scale.specs.declared.fault.Rule.TheVariants as rule
use Rattle.cw_scale.specs.Kinds.{signature_of, fraction_of}
use Rattle.cw_scale.specs.TypeRules.{Judged, fits_at, scale_for, all_taken, argument_faults, arguments_faults, taken_faults, call_faults}
use Rattle.cw_scale.specs.TypeRules as judged
use Rattle.cw_sound.proofs.Expressions.Judging.{Keeps, keeps_fine, keeps_wrong, keeps_unless, keeps_both, keeps_type, keeps_each_bits}
use Rattle.cw_sound.proofs.Expressions.Several.{Keeping, AllKeeping, none_keeping, more_keeping, each_keeps, logic_keeps, term_keeps}
use Rattle.cw_sound.proofs.Expressions.Folds.{judged_pass}
use Rattle.cw_tokens.proofs.Passes.{expr_layered, primary_layered, ref_layered, cand_layered, cmp_layered, cond_layered, differ_layered, mask_layered, prim_layered, sum_layered, term_layered, union_layered}
use Rattle.cw_sound.proofs.Expressions.Passes.{related, related_rules}
use Rattle.cw_sound.proofs.Expressions.Schema.{Known, ExprParts, PrimaryParts, RefParts, CandParts, CmpParts, CondParts, DifferParts, MaskParts, PrimParts, SumParts, TermParts, UnionParts, expr_layer, primary_layer, ref_layer, cand_layer, cmp_layer, cond_layer, differ_layer, mask_layer, prim_layer, sum_layer, term_layer, union_layer, Rules, each_expr, each_ref, each_cond}

module _ (named : Named) where
  argument_keep : (p : RawPs) (j : Judged) → Keeping j → Keeps (argument_faults named p j)
  argument_keep (ps.Plain (inner.Value at t)) j h = h (fraction_of t)
  argument_keep (ps.Plain (inner.Location at t)) j h = h 0
  argument_keep _ j h = keeps_fine

  arguments_keep : (params : List RawPs) {js : List Judged} → AllKeeping js → Keeps (arguments_faults named params js)
  arguments_keep [] h = keeps_fine
  arguments_keep (p ∷ more) none_keeping = keeps_fine
  arguments_keep (p ∷ more) (more_keeping {j = j} h hs) = keeps_both (argument_keep p j h) (arguments_keep more hs)

  taken_keep : (b : Bool) (params : List RawPs) (n : RawName) {js : List Judged} → AllKeeping js → Keeps (taken_faults named b params n js)
  taken_keep true params n h = arguments_keep params h
  taken_keep false params n h = keeps_wrong rule.WrongArgs n.at

  call_keep : (o : Option Signature) (n : RawName) {js : List Judged} → AllKeeping js → Keeps (call_faults named o n js)
  call_keep None n h = keeps_fine
  call_keep (Some s) n {js = js} h = taken_keep (all_taken named s.params js) s.params n h

  abbrev Kept : Judged → Judged → Type 0
  Kept j k = Keeping j

  abbrev known : Known
  known = related (judged_pass named) (judged_pass named) Kept

  all_keep : (T : Type 0) (j : T → Judged) (ts : List ((t : T) × Keeping (j t))) → AllKeeping (map j (map (λ y. y.0) ts))
  all_keep T j [] = none_keeping
  all_keep T j (t ∷ ts) = more_keeping t.1 (all_keep T j ts)

  expression_rule : (y : ExprParts known) → Keeping (expr_layered (judged_pass named) (expr_layer known y))
  expression_rule (layer.Choice at c a b) f =
      keeps_both (c.1 0)
      (keeps_both (a.1 f) (b.1 f))
  expression_rule (layer.Sum s) f = s.1 f

  primary_rule : (y : PrimaryParts known) → Keeping (primary_layered (judged_pass named) (primary_layer known y))
  primary_rule (layer.Number n) f = keeps_unless (fits_at n.number f) rule.NumberRange n.at
  primary_rule (layer.Octal n) f = keeps_unless (is_some (octal_word n.number.number)) rule.NumberRange n.number.at
  primary_rule (layer.Literal c) f = keeps_fine
  primary_rule (layer.Text at cs) f = keeps_fine
  primary_rule (layer.Location at r) f = r.1 0
  primary_rule (layer.Forced t e) f = keeps_both (keeps_type t) (e.1 (fraction_of t))
  primary_rule (layer.Bracket at e) f = e.1 f
  primary_rule (layer.Ref r) f = r.1 f
  primary_rule (layer.Call n xs) f = call_keep (signature_of named n) n (all_keep RawExpr (judged.expression named) xs)

  reference_rule : (y : RefParts known) → Keeping (ref_layered (judged_pass named) (ref_layer known y))
  reference_rule (layer.Name n) f = call_keep (signature_of named n) n none_keeping
  reference_rule (layer.One n e) f = e.1 0
  reference_rule (layer.Two n e g) f = keeps_both (e.1 0) (g.1 0)
  reference_rule (layer.Bare at e) f = e.1 0

  conjunction_rule : (y : CandParts known) → Keeping (cand_layered (judged_pass named) (cand_layer known y))
  conjunction_rule y f = each_keeps 0 (all_keep RawCmp (judged.comparison named) y.operands)

  comparison_rule : (y : CmpParts known) → Keeping (cmp_layered (judged_pass named) (cmp_layer known y))
  comparison_rule y f =
      let top : ℕ = max (judged.sum named y.left.0).shape.natural (judged.sum named y.right.0).shape.natural in
      keeps_both (y.left.1 top) (y.right.1 top)

  condition_rule : (y : CondParts known) → Keeping (cond_layered (judged_pass named) (cond_layer known y))
  condition_rule y f = each_keeps 0 (all_keep RawCand (judged.conjunction named) y.operands)

  differ_rule : (y : DifferParts known) → Keeping (differ_layered (judged_pass named) (differ_layer known y))
  differ_rule y f = logic_keeps (length (map (judged.union named) (map (λ z. z.0) y.operands)) == 1) f (all_keep RawUnion (judged.union named) y.operands)

  mask_rule : (y : MaskParts known) → Keeping (mask_layered (judged_pass named) (mask_layer known y))
  mask_rule y f = logic_keeps (length (map (judged.prim named) (map (λ z. z.0) y.operands)) == 1) f (all_keep RawPrim (judged.prim named) y.operands)

  prim_rule : (y : PrimParts known) → Keeping (prim_layered (judged_pass named) (prim_layer known y))
  prim_rule y f =
      let at : ℕ = scale_for (length y.bits == 0) f (judged.primary named y.primary.0).shape.operand in
      keeps_both (keeps_each_bits y.bits) (y.primary.1 at)

  sum_rule : (y : SumParts known) → Keeping (sum_layered (judged_pass named) (sum_layer known y))
  sum_rule y f = each_keeps f (all_keep RawTerm (judged.term named) y.operands)

  term_rule : (y : TermParts known) → Keeping (term_layered (judged_pass named) (term_layer known y))
  term_rule y f = term_keeps f y.operators (all_keep RawDiffer (judged.differ named) y.operands)

  union_rule : (y : UnionParts known) → Keeping (union_layered (judged_pass named) (union_layer known y))
  union_rule y f = logic_keeps (length (map (judged.mask named) (map (λ z. z.0) y.operands)) == 1) f (all_keep RawMask (judged.mask named) y.operands)

  rules : Rules known
  rules =
      related_rules (judged_pass named) (judged_pass named) Kept expression_rule primary_rule reference_rule conjunction_rule comparison_rule condition_rule differ_rule mask_rule prim_rule sum_rule term_rule union_rule

  pub expression_keeps : (x : RawExpr) → Keeping (judged.expression named x)
  expression_keeps = each_expr known rules

  pub reference_keeps : (x : RawRef) → Keeping (judged.reference named x)
  reference_keeps = each_ref known rules

  pub condition_keeps : (x : RawCond) → Keeping (judged.condition named x)
  condition_keeps = each_cond known rules

  each_keeping : (es : List RawExpr) → AllKeeping (map (judged.expression named) es)
  each_keeping [] = none_keeping
  each_keeping (e ∷ es) = more_keeping (expression_keeps e) (each_keeping es)

  pub call_keeps : (n : RawName) (es : List RawExpr) → Keeps (call_faults named (signature_of named n) n (map (judged.expression named) es))
  call_keeps n es = call_keep (signature_of named n) n (each_keeping es)
