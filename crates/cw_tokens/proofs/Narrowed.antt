-- What holds of a tree and goes to the narrower tree that alone stands in it, and from a bracket to what it holds, holds of all that a bracket is joined by.
use Rattle.std.proofs.Common.{◌≡◌, Option, Some, None, refl}
use Rattle.std.proofs.lemmas.Option.{none-some}
use Rattle.cw_tree.specs.declared.expression.RawExpr.{RawExpr}
use Rattle.cw_tree.specs.declared.expression.RawPrimary.{RawPrimary}
use Rattle.cw_tree.specs.declared.expression.RawDiffer.{RawDiffer, out-RawDiffer}
use Rattle.cw_tree.specs.declared.expression.RawMask.{RawMask, out-RawMask}
use Rattle.cw_tree.specs.declared.expression.RawPrim.{RawPrim}
use Rattle.cw_tree.specs.declared.expression.RawSum.{RawSum}
use Rattle.cw_tree.specs.declared.expression.RawTerm.{RawTerm, out-RawTerm}
use Rattle.cw_tree.specs.declared.expression.RawUnion.{RawUnion, out-RawUnion}
use Rattle.cw_grammar.specs.Trees.{sole, ◌>>-◌, as_sum, sole_term, as_term, as_differ, as_union, as_mask, as_prim, bracket_primary, bracket_prim, bracket_mask, bracket_union, bracket_differ, bracket_term, bracket_sum}

-- by one step, and by two
abbrev pub Gives : {A B : Type 0} → (A → Type 0) → (B → Type 0) → (A → Option B) → Type 0
Gives {A = A} {B = B} P Q step = (x : A) (y : B) → P x → step x ≡ Some y → Q y

then_gives : {B C : Type 0} (P : B → Type 0) (Q : C → Type 0) (o : Option B) (next : B → Option C) (z : C) → ((y : B) → o ≡ Some y → P y) → Gives P Q next → (o >>- next) ≡ Some z → Q z
then_gives P Q None next z h k e = absurd (none-some z e)
then_gives P Q (Some y) next z h k e = k y z (h y refl) e

pub record Narrow (Expr : RawExpr → Type 0) (Sum : RawSum → Type 0) (Term : RawTerm → Type 0) (Differ : RawDiffer → Type 0) (Union : RawUnion → Type 0) (Mask : RawMask → Type 0) (Prim : RawPrim → Type 0) (Primary : RawPrimary → Type 0) : Type 0 where
  pub sum : Gives Expr Sum as_sum
  pub term : Gives Sum Term sole_term
  pub differ : Gives Term Differ (λ x. sole (out-RawTerm x).operands)
  pub union : Gives Differ Union (λ x. sole (out-RawDiffer x).operands)
  pub mask : Gives Union Mask (λ x. sole (out-RawUnion x).operands)
  pub prim : Gives Mask Prim (λ x. sole (out-RawMask x).operands)
  pub held : Gives Prim Expr bracket_prim
  pub primary_held : Gives Primary Expr bracket_primary

module _ {Expr : RawExpr → Type 0} {Sum : RawSum → Type 0} {Term : RawTerm → Type 0} {Differ : RawDiffer → Type 0} {Union : RawUnion → Type 0} {Mask : RawMask → Type 0} {Prim : RawPrim → Type 0} {Primary : RawPrimary → Type 0}
    (narrow : Narrow Expr Sum Term Differ Union Mask Prim Primary) where
  -- ---- an expression that is a tree of a narrower rule

  to_term : Gives Expr Term as_term
  to_term e z h q = then_gives Sum Term (as_sum e) sole_term z (λ y. narrow.sum e y h) narrow.term q

  to_differ : Gives Expr Differ as_differ
  to_differ e z h q = then_gives Term Differ (as_term e) (λ x. sole (out-RawTerm x).operands) z (λ y. to_term e y h) narrow.differ q

  to_union : Gives Expr Union as_union
  to_union e z h q = then_gives Differ Union (as_differ e) (λ x. sole (out-RawDiffer x).operands) z (λ y. to_differ e y h) narrow.union q

  to_mask : Gives Expr Mask as_mask
  to_mask e z h q = then_gives Union Mask (as_union e) (λ x. sole (out-RawUnion x).operands) z (λ y. to_union e y h) narrow.mask q

  to_prim : Gives Expr Prim as_prim
  to_prim e z h q = then_gives Mask Prim (as_mask e) (λ x. sole (out-RawMask x).operands) z (λ y. to_mask e y h) narrow.prim q

  -- ---- what a bracket alone holds

  mask_held : Gives Mask Expr bracket_mask
  mask_held x z h q = then_gives Prim Expr (sole (out-RawMask x).operands) bracket_prim z (λ y. narrow.prim x y h) narrow.held q

  union_held : Gives Union Expr bracket_union
  union_held x z h q = then_gives Mask Expr (sole (out-RawUnion x).operands) bracket_mask z (λ y. narrow.mask x y h) mask_held q

  differ_held : Gives Differ Expr bracket_differ
  differ_held x z h q = then_gives Union Expr (sole (out-RawDiffer x).operands) bracket_union z (λ y. narrow.union x y h) union_held q

  term_held : Gives Term Expr bracket_term
  term_held x z h q = then_gives Differ Expr (sole (out-RawTerm x).operands) bracket_differ z (λ y. narrow.differ x y h) differ_held q

  pub expr_in : Gives Sum Expr bracket_sum
  expr_in x z h q = then_gives Term Expr (sole_term x) bracket_term z (λ y. narrow.term x y h) term_held q

  -- ---- a tree of a rule in the bracket of an operand

  pub prim_in : Gives Primary Prim (λ x. bracket_primary x >>- as_prim)
  prim_in x z h q = then_gives Expr Prim (bracket_primary x) as_prim z (λ y. narrow.primary_held x y h) to_prim q

  pub mask_in : Gives Prim Mask (λ x. bracket_prim x >>- as_mask)
  mask_in x z h q = then_gives Expr Mask (bracket_prim x) as_mask z (λ y. narrow.held x y h) to_mask q

  pub union_in : Gives Mask Union (λ x. bracket_mask x >>- as_union)
  union_in x z h q = then_gives Expr Union (bracket_mask x) as_union z (λ y. mask_held x y h) to_union q

  pub differ_in : Gives Union Differ (λ x. bracket_union x >>- as_differ)
  differ_in x z h q = then_gives Expr Differ (bracket_union x) as_differ z (λ y. union_held x y h) to_differ q

  pub term_in : Gives Differ Term (λ x. bracket_differ x >>- as_term)
  term_in x z h q = then_gives Expr Term (bracket_differ x) as_term z (λ y. differ_held x y h) to_term q

  pub sum_in : Gives Term Sum (λ x. bracket_term x >>- as_sum)
  sum_in x z h q = then_gives Expr Sum (bracket_term x) as_sum z (λ y. term_held x y h) narrow.sum q

-- ---- values that go on

-- What a step gives has a value that is so related to that of what it is taken from.
abbrev pub Goes : {V A B : Type 0} → (V → V → Type 0) → (A → V) → (B → V) → (A → Option B) → Type 0
Goes {A = A} {B = B} R f g step = (x : A) (y : B) → step x ≡ Some y → R (g y) (f x)

-- it has the same value
abbrev pub Keeps : {V A B : Type 0} → (A → V) → (B → V) → (A → Option B) → Type 0
Keeps f g step = Goes (λ a b. a ≡ b) f g step

pub record Kept {V : Type 0} (R : V → V → Type 0) (expr : RawExpr → V) (sum : RawSum → V) (term : RawTerm → V) (differ : RawDiffer → V) (union : RawUnion → V) (mask : RawMask → V) (prim : RawPrim → V) (primary : RawPrimary → V) : Type 0 where
  pub itself : (v : V) → R v v
  pub through : (a b c : V) → R a b → R b c → R a c
  pub sums : Goes R expr sum as_sum
  pub terms : Goes R sum term sole_term
  pub differs : Goes R term differ (λ x. sole (out-RawTerm x).operands)
  pub unions : Goes R differ union (λ x. sole (out-RawDiffer x).operands)
  pub masks : Goes R union mask (λ x. sole (out-RawUnion x).operands)
  pub prims : Goes R mask prim (λ x. sole (out-RawMask x).operands)
  pub held : Goes R prim expr bracket_prim
  pub primary_held : Goes R primary expr bracket_primary

module _ {V : Type 0} {R : V → V → Type 0} {expr : RawExpr → V} {sum : RawSum → V} {term : RawTerm → V} {differ : RawDiffer → V} {union : RawUnion → V} {mask : RawMask → V} {prim : RawPrim → V} {primary : RawPrimary → V} (kept : Kept R expr sum term differ union mask prim primary) where
  -- that a value is so related to this one goes on
  related_to : (v : V) → Narrow (λ x. R (expr x) v) (λ x. R (sum x) v) (λ x. R (term x) v) (λ x. R (differ x) v) (λ x. R (union x) v) (λ x. R (mask x) v) (λ x. R (prim x) v) (λ x. R (primary x) v)
  related_to v = record {
    sum = λ x y h q. kept.through (sum y) (expr x) v (kept.sums x y q) h;
    term = λ x y h q. kept.through (term y) (sum x) v (kept.terms x y q) h;
    differ = λ x y h q. kept.through (differ y) (term x) v (kept.differs x y q) h;
    union = λ x y h q. kept.through (union y) (differ x) v (kept.unions x y q) h;
    mask = λ x y h q. kept.through (mask y) (union x) v (kept.masks x y q) h;
    prim = λ x y h q. kept.through (prim y) (mask x) v (kept.prims x y q) h;
    held = λ x y h q. kept.through (expr y) (prim x) v (kept.held x y q) h;
    primary_held = λ x y h q. kept.through (expr y) (primary x) v (kept.primary_held x y q) h;
  }

  pub prim_keeps : Goes R primary prim (λ x. bracket_primary x >>- as_prim)
  prim_keeps x y = prim_in (related_to (primary x)) x y (kept.itself (primary x))

  pub mask_keeps : Goes R prim mask (λ x. bracket_prim x >>- as_mask)
  mask_keeps x y = mask_in (related_to (prim x)) x y (kept.itself (prim x))

  pub union_keeps : Goes R mask union (λ x. bracket_mask x >>- as_union)
  union_keeps x y = union_in (related_to (mask x)) x y (kept.itself (mask x))

  pub differ_keeps : Goes R union differ (λ x. bracket_union x >>- as_differ)
  differ_keeps x y = differ_in (related_to (union x)) x y (kept.itself (union x))

  pub term_keeps : Goes R differ term (λ x. bracket_differ x >>- as_term)
  term_keeps x y = term_in (related_to (differ x)) x y (kept.itself (differ x))

  pub sum_keeps : Goes R term sum (λ x. bracket_term x >>- as_sum)
  sum_keeps x y = sum_in (related_to (term x)) x y (kept.itself (term x))

  pub expr_keeps : Goes R sum expr bracket_sum
  expr_keeps x y = expr_in (related_to (sum x)) x y (kept.itself (sum x))
