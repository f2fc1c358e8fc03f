-- A bracket that is not needed is gone, and the value is as before, where what stands alone in a tree gives the tree its value.
use Rattle.std.proofs.Common.{◌≡◌, List, [], ◌∷◌, map, Option, Some, None, refl, sym, ap, ◌∙◌}
use Rattle.cw_tree.specs.declared.leaf.Position.{Position}
use Rattle.cw_tree.specs.declared.leaf.RawSign.{RawSign}
use Rattle.cw_tree.specs.declared.leaf.RawFactorSign.{RawFactorSign}
use Rattle.cw_tree.specs.declared.expression.RawBits.{RawBits}
use Rattle.cw_tree.specs.declared.expression.RawExpr.TheOpen as layer
use Rattle.cw_tree.specs.declared.expression.RawExpr.TheOpen.{RawPrimary-F}
use Rattle.cw_tree.specs.declared.expression.RawExpr.{RawExpr, RawExpr-F, out-RawExpr}
use Rattle.cw_tree.specs.declared.expression.RawPrimary.{RawPrimary, out-RawPrimary}
use Rattle.cw_tree.specs.declared.expression.RawRef.{RawRef}
use Rattle.cw_tree.specs.declared.expression.RawCand.{RawCand}
use Rattle.cw_tree.specs.declared.expression.RawCmp.{RawCmp}
use Rattle.cw_tree.specs.declared.expression.RawCond.{RawCond}
use Rattle.cw_tree.specs.declared.expression.RawDiffer.{RawDiffer, out-RawDiffer}
use Rattle.cw_tree.specs.declared.expression.RawMask.{RawMask, out-RawMask}
use Rattle.cw_tree.specs.declared.expression.RawPrim.{RawPrim, out-RawPrim}
use Rattle.cw_tree.specs.declared.expression.RawSum.{RawSum, out-RawSum}
use Rattle.cw_tree.specs.declared.expression.RawTerm.{RawTerm, out-RawTerm}
use Rattle.cw_tree.specs.declared.expression.RawUnion.{RawUnion, out-RawUnion}
use Rattle.cw_tree.proofs.Expressions.{of_expression, of_primary, of_differ, of_mask, of_prim, of_sum, of_term, of_union, of_differ-out, of_mask-out, of_prim-out, of_sum-out, of_term-out, of_union-out}
use Rattle.cw_grammar.specs.Trees.{sole, bracket_primary}
use Rattle.cw_tokens.proofs.Lists.{not_none, same_some}
use Rattle.cw_tokens.proofs.Narrowed.{Keeps, Kept}
use Rattle.cw_tokens.proofs.Passes.{Pass, expr_layered, primary_layered, expr_opened, primary_opened}

abbrev ExprLayer : Type 0
ExprLayer = RawExpr-F RawExpr RawPrimary RawRef RawCand RawCmp RawCond RawDiffer RawMask RawPrim RawSum RawTerm RawUnion

abbrev PrimaryLayer : Type 0
PrimaryLayer = RawPrimary-F RawExpr RawPrimary RawRef RawCand RawCmp RawCond RawDiffer RawMask RawPrim RawSum RawTerm RawUnion

abbrev summed : ExprLayer → Option RawSum
summed (layer.Choice at c a b) = None
summed (layer.Sum s) = Some s

abbrev held : PrimaryLayer → Option RawExpr
held (layer.Bracket at e) = Some e
held _ = None

abbrev unsigned : Option RawSign → List RawTerm → Option RawTerm
unsigned o xs = elim o [ None ↦ sole xs | Some sign ↦ None ]

abbrev bare_of : List RawBits → RawPrimary → Option RawExpr
bare_of bits x = elim bits [ [] ↦ bracket_primary x | b ∷ bs ↦ None ]

module _ {V : Type 0} (pass : Pass V) where
  pub record Alone : Type 0 where
    pub expression : (v : V) → pass.expression (layer.Sum v) ≡ v
    pub sum : (v : V) (os : List RawSign) → pass.sum (record { sign = None; operands = v ∷ []; operators = os }) ≡ v
    pub term : (v : V) (os : List RawFactorSign) → pass.term (record { operands = v ∷ []; operators = os }) ≡ v
    pub differ : (v : V) (os : List Position) → pass.differ (record { operands = v ∷ []; operators = os }) ≡ v
    pub union : (v : V) (os : List Position) → pass.union (record { operands = v ∷ []; operators = os }) ≡ v
    pub mask : (v : V) (os : List Position) → pass.mask (record { operands = v ∷ []; operators = os }) ≡ v
    pub prim : (v : V) → pass.prim (record { bits = []; primary = v }) ≡ v
    pub bracket : (at : Position) (v : V) → pass.primary (layer.Bracket at v) ≡ v

  module _ (alone : Alone) where
    -- ---- an expression that is a tree of a narrower rule

    sum_in_layer : (x : ExprLayer) (s : RawSum) → summed x ≡ Some s → of_sum pass s ≡ expr_layered pass x
    sum_in_layer (layer.Choice at c a b) s e = absurd (not_none e)
    sum_in_layer (layer.Sum t) s e = ap (of_sum pass) (sym (same_some e)) ∙ sym (alone.expression (of_sum pass t))

    sole_keeps : {A : Type 0} (f : A → V) (whole : List V → V) (xs : List A) (x : A) → ((v : V) → whole (v ∷ []) ≡ v) → sole xs ≡ Some x → f x ≡ whole (map f xs)
    sole_keeps f whole [] x only e = absurd (not_none e)
    sole_keeps f whole (y ∷ []) x only e = ap f (sym (same_some e)) ∙ sym (only (f y))
    sole_keeps f whole (y ∷ z ∷ zs) x only e = absurd (not_none e)

    unsigned_keeps : (o : Option RawSign) (xs : List RawTerm) (os : List RawSign) (t : RawTerm) → unsigned o xs ≡ Some t → of_term pass t ≡ pass.sum (record { sign = o; operands = map (of_term pass) xs; operators = os })
    unsigned_keeps None xs os t e = sole_keeps (of_term pass) (λ vs. pass.sum (record { sign = None; operands = vs; operators = os })) xs t (λ v. alone.sum v os) e
    unsigned_keeps (Some s) xs os t e = absurd (not_none e)

    -- ---- what a bracket alone holds

    held_in_layer : (x : PrimaryLayer) (e : RawExpr) → held x ≡ Some e → of_expression pass e ≡ primary_layered pass x
    held_in_layer (layer.Bracket at x) e q = ap (of_expression pass) (sym (same_some q)) ∙ sym (alone.bracket at (of_expression pass x))
    held_in_layer _ e q = absurd (not_none q)

    primary_held : Keeps (of_primary pass) (of_expression pass) bracket_primary
    primary_held x e q = held_in_layer (out-RawPrimary x) e q ∙ sym (primary_opened pass x)

    bare_held : (bits : List RawBits) (x : RawPrimary) (e : RawExpr) → bare_of bits x ≡ Some e → of_expression pass e ≡ pass.prim (record { bits = bits; primary = of_primary pass x })
    bare_held [] x e q = primary_held x e q ∙ sym (alone.prim (of_primary pass x))
    bare_held (b ∷ bits) x e q = absurd (not_none q)

    pub alone_kept : Kept (λ (a b : V). a ≡ b) (of_expression pass) (of_sum pass) (of_term pass) (of_differ pass) (of_union pass) (of_mask pass) (of_prim pass) (of_primary pass)
    alone_kept = record {
      itself = λ v. refl;
      through = λ a b c p q. p ∙ q;
      sums = λ e s q. sum_in_layer (out-RawExpr e) s q ∙ sym (expr_opened pass e);
      terms = λ s t q. unsigned_keeps (out-RawSum s).sign (out-RawSum s).operands (out-RawSum s).operators t q ∙ sym (of_sum-out pass s);
      differs = λ x y q. let os = (out-RawTerm x).operators in sole_keeps (of_differ pass) (λ vs. pass.term (record { operands = vs; operators = os })) (out-RawTerm x).operands y (λ v. alone.term v os) q ∙ sym (of_term-out pass x);
      unions = λ x y q. let os = (out-RawDiffer x).operators in sole_keeps (of_union pass) (λ vs. pass.differ (record { operands = vs; operators = os })) (out-RawDiffer x).operands y (λ v. alone.differ v os) q ∙ sym (of_differ-out pass x);
      masks = λ x y q. let os = (out-RawUnion x).operators in sole_keeps (of_mask pass) (λ vs. pass.union (record { operands = vs; operators = os })) (out-RawUnion x).operands y (λ v. alone.union v os) q ∙ sym (of_union-out pass x);
      prims = λ x y q. let os = (out-RawMask x).operators in sole_keeps (of_prim pass) (λ vs. pass.mask (record { operands = vs; operators = os })) (out-RawMask x).operands y (λ v. alone.mask v os) q ∙ sym (of_mask-out pass x);
      held = λ x e q. bare_held (out-RawPrim x).bits (out-RawPrim x).primary e q ∙ sym (of_prim-out pass x);
      primary_held = primary_held;
    }
