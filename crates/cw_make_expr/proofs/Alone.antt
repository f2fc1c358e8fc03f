-- What an expression is as an argument: what its only operand is, down to a name; and nothing where it has a sign, an operator or BITS.
use Rattle.std.proofs.Common.{◌≡◌, ◌==◌, ◌<◌, ◌≤◌, ℕ, suc, true, false, is_some, List, [], ◌∷◌, Option, Some, None, length, map, get_or, refl, sym, ap, ◌∙◌, arith}
use Rattle.std.proofs.lemmas.Bool.Decides.{nat_tests}
use Rattle.cw_tree.specs.declared.leaf.Position.{Position}
use Rattle.cw_tree.specs.declared.leaf.RawName.{RawName}
use Rattle.cw_tree.specs.declared.leaf.RawSign.{RawSign}
use Rattle.cw_tree.specs.declared.expression.RawBits.{RawBits}
use Rattle.cw_tree.specs.declared.expression.RawExpr.TheOpen as layer
use Rattle.cw_tree.specs.declared.expression.RawExpr.TheOpen.{RawPrimary-F, RawRef-F}
use Rattle.cw_tree.specs.declared.expression.RawExpr.TheViews.{roll-out-RawPrimary, roll-out-RawRef}
use Rattle.cw_tree.specs.declared.expression.RawExpr.TheVariants as expression
use Rattle.cw_tree.specs.declared.expression.RawPrimary.TheVariants as primary
use Rattle.cw_tree.specs.declared.expression.RawRef.TheVariants as ref
use Rattle.cw_tree.specs.declared.expression.RawExpr.{RawExpr}
use Rattle.cw_tree.specs.declared.expression.RawPrimary.{RawPrimary, out-RawPrimary, roll-RawPrimary, fold-roll-RawPrimary}
use Rattle.cw_tree.specs.declared.expression.RawRef.{RawRef, out-RawRef, roll-RawRef, fold-roll-RawRef}
use Rattle.cw_tree.specs.declared.expression.RawCand.{RawCand}
use Rattle.cw_tree.specs.declared.expression.RawCmp.{RawCmp}
use Rattle.cw_tree.specs.declared.expression.RawCond.{RawCond}
use Rattle.cw_tree.specs.declared.expression.RawDiffer.{RawDiffer}
use Rattle.cw_tree.specs.declared.expression.RawMask.{RawMask}
use Rattle.cw_tree.specs.declared.expression.RawPrim.{RawPrim, out-RawPrim}
use Rattle.cw_tree.specs.declared.expression.RawSum.{RawSum, out-RawSum}
use Rattle.cw_tree.specs.declared.expression.RawTerm.{RawTerm, out-RawTerm}
use Rattle.cw_tree.specs.declared.expression.RawUnion.{RawUnion}
use Rattle.cw_scope.specs.declared.resolve.Named.{Named}
use Rattle.cw_unit.specs.declared.unit.Arg.{Arg}
use Rattle.cw_unit.specs.declared.unit.Cond.{Cond}
use Rattle.cw_unit.specs.declared.unit.LogicOp.{LogicOp}
use Rattle.cw_make_expr.specs.Parts.{Numbers, no_argument}
use Rattle.cw_make_expr.specs.Made.{Made, Placed, handed_if, logic_of, term_of, sum_of, prim_of, named_handed}
use Rattle.cw_make_expr.specs.Made.{expression_step, primary_step, reference_step, conjunction_step, comparison_step, condition_step, differ_step, mask_step, prim_step, sum_step, term_step, union_step}
use Rattle.cw_make_expr.specs.Made.{expression_made, primary_made, reference_made, differ_made, prim_made, sum_made, term_made}
use Rattle.cw_make_expr.proofs.Layers.{sum-layer, term-layer, prim-layer}
use Rattle.cw_make_expr.proofs.Arms.{of_choice, of_sum, of_ref, of_name}
use Rattle.cw_scale.proofs.Turns.{no_item, only_item}

not_zero : (n : ℕ) → (suc n == 0) ≡ false
not_zero n = grind (arith, nat_tests)

-- nothing is handed on beside others
beside : (n : ℕ) (a : Arg) → handed_if (suc n == 0) a ≡ no_argument
beside n a = ap (λ b. handed_if b a) (not_zero n)

-- ---- operands of one rule

module _ {A : Type 0} (f : A → Made) (of : List Made → Made) (alone : (x : Made) → (of (x ∷ [])).handed ≡ x.handed) (none : (of []).handed ≡ no_argument)
    (more : (x y : Made) (xs : List Made) → (of (x ∷ y ∷ xs)).handed ≡ no_argument) where
  one_operand : (m : Made) (ops xs : List A) (x : A) → m ≡ of (map f ops) → xs ≡ ops → length xs ≡ 1 → x ≡ get_or xs 0 x → m.handed ≡ (f x).handed
  one_operand m ops xs x e o n g = ap (λ k. k.handed) (e ∙ ap (λ l. of (map f l)) (sym o ∙ only_item xs x n g)) ∙ alone (f x)

  several : (xs : List A) → (length xs == 1) ≡ false → (of (map f xs)).handed ≡ no_argument
  several [] h = none
  several (x ∷ []) h = let alone : true ≡ false = h in absurd cc
  several (x ∷ y ∷ zs) h = more (f x) (f y) (map f zs)

  other_operands : (m : Made) (ops xs : List A) → m ≡ of (map f ops) → xs ≡ ops → (length xs == 1) ≡ false → m.handed ≡ no_argument
  other_operands m ops xs e o n = ap (λ k. k.handed) (e ∙ ap (λ l. of (map f l)) (sym o)) ∙ several xs n

signed : (sign : Option RawSign) (ms : List Made) (signs : List RawSign) → is_some sign ≡ true → (sum_of sign ms signs).handed ≡ no_argument
signed None ms signs h = let none : false ≡ true = h in absurd cc
signed (Some s) [] signs h = refl
signed (Some s) (m ∷ ms) signs h = refl

unsigned : (sign : Option RawSign) → is_some sign ≡ false → sign ≡ None
unsigned None h = refl
unsigned (Some s) h = let some : true ≡ false = h in absurd cc

bits_around : (bits : List RawBits) (x : Made) → 1 ≤ length bits → (prim_of bits x).handed ≡ no_argument
bits_around [] x h = absurd (omega arith)
bits_around (b ∷ bs) x h = beside (length bs) x.handed

-- what stands between operands of word logic
pub logic_one : {A : Type 0} (op : LogicOp) (f : A → Made) (m : Made) (ops xs : List A) (x : A) → m ≡ logic_of op (map f ops) → xs ≡ ops → length xs ≡ 1 → x ≡ get_or xs 0 x
    → m.handed ≡ (f x).handed
logic_one op f = one_operand f (logic_of op) (λ m. refl) refl (λ m n ms. beside (length ms) m.handed)

pub logic_others : {A : Type 0} (op : LogicOp) (f : A → Made) (m : Made) (ops xs : List A) → m ≡ logic_of op (map f ops) → xs ≡ ops → (length xs == 1) ≡ false
    → m.handed ≡ no_argument
logic_others op f = other_operands f (logic_of op) (λ m. refl) refl (λ m n ms. beside (length ms) m.handed)

-- ---- each layer

module _ (named : Named) (numbers : Numbers) where
  pub sum_alone : (e : RawExpr) (s s' : RawSum) → e ≡ expression.Sum s → s' ≡ s → (expression_made named numbers e).handed ≡ (sum_made named numbers s').handed
  sum_alone e s s' is same = ap (λ m. m.handed) (ap (expression_made named numbers) is ∙ of_sum named numbers s ∙ ap (sum_made named numbers) (sym same))

  pub sum_signed : (s : RawSum) → is_some (out-RawSum s).sign ≡ true → (sum_made named numbers s).handed ≡ no_argument
  sum_signed s h = ap (λ m. m.handed) (sum-layer named numbers s) ∙ signed (out-RawSum s).sign (map (term_made named numbers) (out-RawSum s).operands) (out-RawSum s).operators h

  unsigned_sum : (s : RawSum) → is_some (out-RawSum s).sign ≡ false → sum_made named numbers s
      ≡ sum_of None (map (term_made named numbers) (out-RawSum s).operands) (out-RawSum s).operators
  unsigned_sum s h =
      sum-layer named numbers s ∙ ap (λ sign. sum_of sign (map (term_made named numbers) (out-RawSum s).operands) (out-RawSum s).operators) (unsigned (out-RawSum s).sign h)

  pub sum_one : (s : RawSum) (xs : List RawTerm) (x : RawTerm) → is_some (out-RawSum s).sign ≡ false → xs ≡ (out-RawSum s).operands → length xs ≡ 1 → x ≡ get_or xs 0 x
      → (sum_made named numbers s).handed ≡ (term_made named numbers x).handed
  sum_one s xs x h =
      one_operand (term_made named numbers) (λ ms. sum_of None ms (out-RawSum s).operators) (λ m. refl) refl (λ m n ms. beside (length ms) m.handed) (sum_made named numbers s)
      (out-RawSum s).operands xs x (unsigned_sum s h)

  pub sum_others : (s : RawSum) (xs : List RawTerm) → is_some (out-RawSum s).sign ≡ false → xs ≡ (out-RawSum s).operands → (length xs == 1) ≡ false
      → (sum_made named numbers s).handed ≡ no_argument
  sum_others s xs h =
      other_operands (term_made named numbers) (λ ms. sum_of None ms (out-RawSum s).operators) (λ m. refl) refl (λ m n ms. beside (length ms) m.handed) (sum_made named numbers s)
      (out-RawSum s).operands xs (unsigned_sum s h)

  pub term_one : (e : RawTerm) (xs : List RawDiffer) (x : RawDiffer) → xs ≡ (out-RawTerm e).operands → length xs ≡ 1 → x ≡ get_or xs 0 x
      → (term_made named numbers e).handed ≡ (differ_made named numbers x).handed
  term_one e xs x =
      one_operand (differ_made named numbers) (λ ms. term_of ms (out-RawTerm e).operators) (λ m. refl) refl (λ m n ms. beside (length ms) m.handed) (term_made named numbers e)
      (out-RawTerm e).operands xs x (term-layer named numbers e)

  pub term_others : (e : RawTerm) (xs : List RawDiffer) → xs ≡ (out-RawTerm e).operands → (length xs == 1) ≡ false → (term_made named numbers e).handed ≡ no_argument
  term_others e xs =
      other_operands (differ_made named numbers) (λ ms. term_of ms (out-RawTerm e).operators) (λ m. refl) refl (λ m n ms. beside (length ms) m.handed) (term_made named numbers e)
      (out-RawTerm e).operands xs (term-layer named numbers e)

  pub prim_bare : (e : RawPrim) (all : List RawBits) → all ≡ (out-RawPrim e).bits → length all < 1
      → (prim_made named numbers e).handed ≡ (primary_made named numbers (out-RawPrim e).primary).handed
  prim_bare e all o h = ap (λ m. m.handed) (prim-layer named numbers e ∙ ap (λ l. prim_of l (primary_made named numbers (out-RawPrim e).primary)) (sym o ∙ no_item all h))

  pub prim_bits : (e : RawPrim) (all : List RawBits) → all ≡ (out-RawPrim e).bits → 1 ≤ length all → (prim_made named numbers e).handed ≡ no_argument
  prim_bits e all o h =
      ap (λ m. m.handed) (prim-layer named numbers e ∙ ap (λ l. prim_of l (primary_made named numbers (out-RawPrim e).primary)) (sym o))
      ∙ bits_around all (primary_made named numbers (out-RawPrim e).primary) h

  -- ---- what is no name

  pub no_sum : (e : RawExpr) (at : Position) (test : RawCond) (a b : RawExpr) → e ≡ expression.Choice at test a b → (expression_made named numbers e).handed ≡ no_argument
  no_sum e at test a b is = ap (λ m. m.handed) (ap (expression_made named numbers) is ∙ of_choice named numbers at test a b)

  rolled_primary : (p : RawPrimary) (x : RawPrimary-F RawExpr RawPrimary RawRef RawCand RawCmp RawCond RawDiffer RawMask RawPrim RawSum RawTerm RawUnion) → roll-RawPrimary x ≡ p
      → ((r : RawRef) → p ≡ primary.Ref r → ⊥) → (primary_made named numbers (roll-RawPrimary x)).handed ≡ no_argument
  rolled_primary p (layer.Ref r) is other = absurd (other r (sym is ∙ primary.rolls-Ref r))
  rolled_primary p x is other =
      ap (λ m. m.handed) (fold-roll-RawPrimary Made Made Placed Cond Cond Cond Made Made Made Made Made Made (expression_step named numbers) (primary_step named numbers)
      (reference_step named numbers) (conjunction_step named numbers) (comparison_step named numbers) (condition_step named numbers) (differ_step named numbers)
      (mask_step named numbers) (prim_step named numbers) (sum_step named numbers) (term_step named numbers) (union_step named numbers) x)

  pub no_reference : (p : RawPrimary) → ((r : RawRef) → p ≡ primary.Ref r → ⊥) → (primary_made named numbers p).handed ≡ no_argument
  no_reference p other = ap (λ k. (primary_made named numbers k).handed) (sym (roll-out-RawPrimary p)) ∙ rolled_primary p (out-RawPrimary p) (roll-out-RawPrimary p) other

  rolled_reference : (r : RawRef) (x : RawRef-F RawExpr RawPrimary RawRef RawCand RawCmp RawCond RawDiffer RawMask RawPrim RawSum RawTerm RawUnion) → roll-RawRef x ≡ r
      → ((n : RawName) → r ≡ ref.Name n → ⊥) → (reference_made named numbers (roll-RawRef x)).handed ≡ no_argument
  rolled_reference r (layer.Name n) is other = absurd (other n (sym is ∙ ref.rolls-Name n))
  rolled_reference r x is other =
      ap (λ m. m.handed) (fold-roll-RawRef Made Made Placed Cond Cond Cond Made Made Made Made Made Made (expression_step named numbers) (primary_step named numbers)
      (reference_step named numbers) (conjunction_step named numbers) (comparison_step named numbers) (condition_step named numbers) (differ_step named numbers)
      (mask_step named numbers) (prim_step named numbers) (sum_step named numbers) (term_step named numbers) (union_step named numbers) x)

  pub no_name : (r : RawRef) → ((n : RawName) → r ≡ ref.Name n → ⊥) → (reference_made named numbers r).handed ≡ no_argument
  no_name r other = ap (λ k. (reference_made named numbers k).handed) (sym (roll-out-RawRef r)) ∙ rolled_reference r (out-RawRef r) (roll-out-RawRef r) other

  -- ---- what is a name

  pub is_reference : (p : RawPrimary) (r : RawRef) (name : Option RawName) → p ≡ primary.Ref r → (reference_made named numbers r).handed ≡ named_handed named numbers name
      → (primary_made named numbers p).handed ≡ named_handed named numbers name
  is_reference p r name is h = ap (λ m. m.handed) (ap (primary_made named numbers) is ∙ of_ref named numbers r) ∙ h

  pub is_name : (r : RawRef) (n : RawName) → r ≡ ref.Name n → (reference_made named numbers r).handed ≡ named_handed named numbers (Some n)
  is_name r n is = ap (λ m. m.handed) (ap (reference_made named numbers) is ∙ of_name named numbers n)
