-- What is made of an expression in normal form has no more tokens than it: by induction over the normal form.
use Rattle.std.proofs.Common.{ℕ, ◌+◌, ◌≤◌, Bool, List, [], ◌∷◌, map, Option, Some, None, subst}
use Rattle.cw_word.specs.Word.{signed}
use Rattle.cw_tree.specs.declared.leaf.Position.{Position}
use Rattle.cw_tree.specs.declared.leaf.RawSign.{RawSign}
use Rattle.cw_tree.specs.declared.leaf.RawFactorSign.{RawFactorSign}
use Rattle.cw_tree.specs.declared.expression.RawExpr.{RawExpr}
use Rattle.cw_tree.specs.declared.expression.RawExpr.TheVariants as expr_tree
use Rattle.cw_tree.specs.declared.expression.RawPrimary.{RawPrimary}
use Rattle.cw_tree.specs.declared.expression.RawPrimary.TheVariants as primary_tree
use Rattle.cw_tree.specs.declared.expression.RawRef.{RawRef}
use Rattle.cw_tree.specs.declared.expression.RawRef.TheVariants as ref_tree
use Rattle.cw_tree.specs.declared.expression.RawCand.{RawCand}
use Rattle.cw_tree.specs.declared.expression.RawCmp.{RawCmp}
use Rattle.cw_tree.specs.declared.expression.RawDiffer.{RawDiffer}
use Rattle.cw_tree.specs.declared.expression.RawMask.{RawMask}
use Rattle.cw_tree.specs.declared.expression.RawPrim.{RawPrim}
use Rattle.cw_tree.specs.declared.expression.RawTerm.{RawTerm}
use Rattle.cw_tree.specs.declared.expression.RawUnion.{RawUnion}
use Rattle.cw_tree.specs.declared.expression.RawExpr.TheOpen as layer
use Rattle.cw_grammar.specs.Grammar.{Sort, a_pair, a_list, an_expr, a_cond, a_cand, a_cmp, a_sum, a_term, a_differ, a_union, a_mask, a_prim, a_primary, a_ref, Value}
use Rattle.cw_grammar.specs.Trees.{Operands, extended, mask_tree, union_tree, differ_tree, term_tree, cand_tree, cond_tree, sum_tree, more_terms}
use Rattle.cw_derived.specs.NormalForm as normal
use Rattle.cw_derived.specs.NormalForm.{IsNormal}
use Rattle.cw_amount.specs.Amounts.{octal_word}
use Rattle.cw_scope.specs.declared.resolve.Named.{Named}
use Rattle.cw_scale.specs.Kinds.{fraction_of, signature_of}
use Rattle.cw_make_expr.specs.Nodes.{comparator}
use Rattle.cw_make_expr.specs.Parts.{Numbers, within, item_here, params_of}
use Rattle.cw_make_expr.specs.Made.{Made, logic_of, term_of, sum_of, all_of, any_of}
use Rattle.cw_make_expr.specs.Made as made
use Rattle.cw_unit.specs.declared.unit.LogicOp.{LogicOp}
use Rattle.cw_unit.specs.declared.unit.LogicOp.TheVariants as logic_op
use Rattle.cw_tokens.specs.LeastTokens.{condition_tokens}
use Rattle.cw_tokens.specs.TreeTokens as tree
use Rattle.cw_tokens.specs.TreeTokens.{between, sign}
use Rattle.cw_sound.proofs.Tokens.Parts.{Sized, SizedPlace, Each, no_item, an_item, sizes_of, gathered, gathered_tests}
use Rattle.cw_sound.proofs.Tokens.Operands.{logic_sized, term_sized, sum_sized, prim_sized, all_sized, any_sized}
use Rattle.cw_sound.proofs.Tokens.Primaries.{number_sized, constant_sized, string_sized, locate_sized, force_sized, bracket_sized, referred_sized, choice_sized, comparison_sized, call_sized, name_sized, one_sized, two_sized, bare_sized}
use Rattle.cw_sound.proofs.Tokens.Layers.{expression_rolls, primary_rolls, reference_rolls, conjunction_rolls, comparison_rolls, condition_rolls, differ_rolls, mask_rolls, prim_rolls, sum_rolls, term_rolls, union_rolls}

module _ (named : Named) (numbers : Numbers) where
  abbrev pub SizedExpression : RawExpr → Type 0
  SizedExpression x = Sized (made.expression_made named numbers x) (tree.expr_tokens x)

  abbrev pub SizedPrimary : RawPrimary → Type 0
  SizedPrimary x = Sized (made.primary_made named numbers x) (tree.primary_tokens x)

  abbrev pub SizedReference : RawRef → Type 0
  SizedReference x = SizedPlace (made.reference_made named numbers x) (tree.ref_tokens x)

  -- of each tree of an expression
  abbrev pub IsCounted : (z : Sort) → Value z → Type 0
  IsCounted (a_list z) x = Each (Value z) (λ y. IsCounted z y) x
  IsCounted (a_pair z w) x = IsCounted z x.0 × IsCounted w x.1
  IsCounted an_expr x = SizedExpression x
  IsCounted a_primary x = SizedPrimary x
  IsCounted a_ref x = SizedReference x
  IsCounted a_cand x = condition_tokens (made.conjunction_made named numbers x) ≤ tree.cand_tokens x
  IsCounted a_cmp x = condition_tokens (made.comparison_made named numbers x) ≤ tree.cmp_tokens x
  IsCounted a_cond x = condition_tokens (made.condition_made named numbers x) ≤ tree.cond_tokens x
  IsCounted a_differ x = Sized (made.differ_made named numbers x) (tree.differ_tokens x)
  IsCounted a_mask x = Sized (made.mask_made named numbers x) (tree.mask_tokens x)
  IsCounted a_prim x = Sized (made.prim_made named numbers x) (tree.prim_tokens x)
  IsCounted a_sum x = Sized (made.sum_made named numbers x) (tree.sum_tokens x)
  IsCounted a_term x = Sized (made.term_made named numbers x) (tree.term_tokens x)
  IsCounted a_union x = Sized (made.union_made named numbers x) (tree.union_tokens x)
  IsCounted _ x = Unit {0}

  -- ---- operands behind their operators

  -- of a rule of word logic
  logic : {X : Type 0} (op : LogicOp) (of : X → Made) (counts : X → ℕ) (IsWhole : Operands X Position → Type 0) → ((xs : List X) (os : List Position) → Sized (logic_of op (map of xs)) (between (map counts xs)) → IsWhole (xs, os))
      → (x : X) (rest : List (Position × X)) → Sized (of x) (counts x) → Each (Position × X) (λ y. Unit {0} × Sized (of y.1) (counts y.1)) rest → IsWhole (extended (x ∷ [], []) rest)
  logic op of counts IsWhole whole x rest h k =
      whole (extended (x ∷ [], []) rest).0 (extended (x ∷ [], []) rest).1 (gathered of counts (λ ms ns. Sized (logic_of op ms) (between ns)) (λ y ms ns i j. logic_sized op i j) x rest h k)

  masks : (x : RawPrim) (rest : List (Position × RawPrim)) → IsCounted a_prim x → Each (Position × RawPrim) (λ y. Unit {0} × IsCounted a_prim y.1) rest → IsCounted a_mask (mask_tree (extended (x ∷ [], []) rest))
  masks = logic logic_op.Mask (made.prim_made named numbers) tree.prim_tokens (λ ops. IsCounted a_mask (mask_tree ops)) (λ xs os. mask_rolls named numbers (record { operands = xs; operators = os }))

  unions : (x : RawMask) (rest : List (Position × RawMask)) → IsCounted a_mask x → Each (Position × RawMask) (λ y. Unit {0} × IsCounted a_mask y.1) rest → IsCounted a_union (union_tree (extended (x ∷ [], []) rest))
  unions = logic logic_op.Union (made.mask_made named numbers) tree.mask_tokens (λ ops. IsCounted a_union (union_tree ops)) (λ xs os. union_rolls named numbers (record { operands = xs; operators = os }))

  differs : (x : RawUnion) (rest : List (Position × RawUnion)) → IsCounted a_union x → Each (Position × RawUnion) (λ y. Unit {0} × IsCounted a_union y.1) rest → IsCounted a_differ (differ_tree (extended (x ∷ [], []) rest))
  differs = logic logic_op.Differ (made.union_made named numbers) tree.union_tokens (λ ops. IsCounted a_differ (differ_tree ops)) (λ xs os. differ_rolls named numbers (record { operands = xs; operators = os }))

  terms : (x : RawDiffer) (rest : List (RawFactorSign × RawDiffer)) → IsCounted a_differ x → Each (RawFactorSign × RawDiffer) (λ y. Unit {0} × IsCounted a_differ y.1) rest → IsCounted a_term (term_tree (extended (x ∷ [], []) rest))
  terms x rest h k =
      let signs : List RawFactorSign = (extended (x ∷ [], []) rest).1 in
      term_rolls named numbers (record { operands = (extended (x ∷ [], []) rest).0; operators = signs })
      (gathered (made.differ_made named numbers) tree.differ_tokens (λ ms ns. Sized (term_of ms signs) (between ns)) (λ y ms ns i j. term_sized signs i j) x rest h k)

  sums : (o : Option RawSign) (x : RawTerm) (rest : List (RawSign × RawTerm)) → IsCounted a_term x → Each (RawSign × RawTerm) (λ y. Unit {0} × IsCounted a_term y.1) rest → IsCounted a_sum (sum_tree (more_terms (o, (x ∷ [], [])) rest))
  sums o x rest h k =
      let signs : List RawSign = (extended (x ∷ [], []) rest).1 in
      sum_rolls named numbers (record { sign = o; operands = (extended (x ∷ [], []) rest).0; operators = signs })
      (gathered (made.term_made named numbers) tree.term_tokens (λ ms ns. Sized (sum_of o ms signs) (sign o + between ns)) (λ y ms ns i j. sum_sized o signs i j) x rest h k)

  cands : (x : RawCmp) (rest : List (Position × RawCmp)) → IsCounted a_cmp x → Each (Position × RawCmp) (λ y. Unit {0} × IsCounted a_cmp y.1) rest → IsCounted a_cand (cand_tree (extended (x ∷ [], []) rest))
  cands x rest h k =
      conjunction_rolls named numbers (record { operands = (extended (x ∷ [], []) rest).0; operators = (extended (x ∷ [], []) rest).1 })
      (gathered_tests (made.comparison_made named numbers) tree.cmp_tokens (λ cs ns. condition_tokens (all_of cs) ≤ between ns) (λ y cs ns i j. all_sized (made.comparison_made named numbers y) i j) x rest h k)

  conds : (x : RawCand) (rest : List (Position × RawCand)) → IsCounted a_cand x → Each (Position × RawCand) (λ y. Unit {0} × IsCounted a_cand y.1) rest → IsCounted a_cond (cond_tree (extended (x ∷ [], []) rest))
  conds x rest h k =
      condition_rolls named numbers (record { operands = (extended (x ∷ [], []) rest).0; operators = (extended (x ∷ [], []) rest).1 })
      (gathered_tests (made.conjunction_made named numbers) tree.cand_tokens (λ cs ns. condition_tokens (any_of cs) ≤ between ns) (λ y cs ns i j. any_sized (made.conjunction_made named numbers y) i j) x rest h k)

  -- ---- so of each tree

  pub counted : {n : ℕ} {p : Bool} {z : Sort} {x : Value z} {a : List ℕ} → IsNormal n p z x a → IsCounted z x
  counted normal.no_more = no_item
  counted (normal.one_more h k) = an_item (counted h) (counted k)
  counted (normal.both h k) = (counted h, counted k)
  counted (normal.number {x = x} h) = subst SizedPrimary (primary_tree.rolls-Number x) (primary_rolls named numbers (layer.Number x) (number_sized x.number))
  counted (normal.octal {x = x} h) = subst SizedPrimary (primary_tree.rolls-Octal x) (primary_rolls named numbers (layer.Octal x) (constant_sized (signed (within 65535 (octal_word x.number.number)))))
  counted (normal.literal {x = x} h) = subst SizedPrimary (primary_tree.rolls-Literal x) (primary_rolls named numbers (layer.Literal x) (constant_sized (signed x.byte)))
  counted (normal.string at cs) = subst SizedPrimary (primary_tree.rolls-Text at cs) (primary_rolls named numbers (layer.Text at cs) (string_sized (item_here numbers at.token)))
  counted (normal.location at {x = x} h) = subst SizedPrimary (primary_tree.rolls-Location at x) (primary_rolls named numbers (layer.Location at x) (locate_sized (counted h)))
  counted (normal.forced {t = t} {x = x} h k) = subst SizedPrimary (primary_tree.rolls-Forced t x) (primary_rolls named numbers (layer.Forced t x) (force_sized (fraction_of t) (counted k)))
  counted (normal.bracket at {x = x} h) = subst SizedPrimary (primary_tree.rolls-Bracket at x) (primary_rolls named numbers (layer.Bracket at x) (bracket_sized (counted h)))
  counted (normal.referred {x = x} h) = subst SizedPrimary (primary_tree.rolls-Ref x) (primary_rolls named numbers (layer.Ref x) (referred_sized (counted h)))
  counted (normal.call {f = f} {x = x} {xs = xs} h k) =
      subst SizedPrimary (primary_tree.rolls-Call f (x ∷ xs)) (primary_rolls named numbers (layer.Call f (x ∷ xs))
      (call_sized (made.target named numbers f) (params_of (signature_of named f)) (sizes_of (made.expression_made named numbers) tree.expr_tokens (counted k))))
  counted (normal.named {f = f} h) = subst SizedReference (ref_tree.rolls-Name f) (reference_rolls named numbers (layer.Name f) (name_sized named numbers f))
  counted (normal.one_index {f = f} {x = x} h k) = subst SizedReference (ref_tree.rolls-One f x) (reference_rolls named numbers (layer.One f x) (one_sized named numbers f (counted k)))
  counted (normal.two_indexes {f = f} {x = x} {y = y} h k l) = subst SizedReference (ref_tree.rolls-Two f x y) (reference_rolls named numbers (layer.Two f x y) (two_sized named numbers f (counted k) (counted l)))
  counted (normal.bare at {x = x} h) = subst SizedReference (ref_tree.rolls-Bare at x) (reference_rolls named numbers (layer.Bare at x) (bare_sized named numbers at (counted h)))
  counted (normal.is_prim {bits = bits} {x = x} h k q) = prim_rolls named numbers (record { bits = bits; primary = x }) (prim_sized bits (counted k))
  counted (normal.is_mask {x = x} {rest = rest} h q k) = masks x rest (counted h) (counted k)
  counted (normal.is_union {x = x} {rest = rest} h q k) = unions x rest (counted h) (counted k)
  counted (normal.is_differ {x = x} {rest = rest} h q k) = differs x rest (counted h) (counted k)
  counted (normal.is_term {x = x} {rest = rest} h q k) = terms x rest (counted h) (counted k)
  counted (normal.plain_sum {x = x} {rest = rest} h q k) = sums None x rest (counted h) (counted k)
  counted (normal.signed_sum {sign = s} {x = x} {rest = rest} o h k) = sums (Some s) x rest (counted h) (counted k)
  counted (normal.is_cmp {x = x} {y = y} {op = op} h o k) = comparison_rolls named numbers (record { left = x; operator = op; right = y }) (comparison_sized (comparator op.op) (counted h) (counted k))
  counted (normal.is_cand {x = x} {rest = rest} h k) = cands x rest (counted h) (counted k)
  counted (normal.is_cond {x = x} {rest = rest} h k) = conds x rest (counted h) (counted k)
  counted (normal.sum_expr {x = x} h q) = subst SizedExpression (expr_tree.rolls-Sum x) (expression_rolls named numbers (layer.Sum x) (counted h))
  counted (normal.choice at {c = c} {x = x} {y = y} h k l) =
      subst SizedExpression (expr_tree.rolls-Choice at c x y) (expression_rolls named numbers (layer.Choice at c x y) (choice_sized (made.condition_made named numbers c) (counted h) (counted k) (counted l)))
  counted _ = tt
