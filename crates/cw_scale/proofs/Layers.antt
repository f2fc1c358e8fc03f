-- What is judged of a rule by its first layer, and the loops that judge its operands.
use Rattle.std.proofs.Common.{◌≡◌, ℕ, ◌+◌, ◌<◌, ◌≤◌, false, List, refl, sym, ap, ap₂, ◌∙◌, map, length, drop, get_or, Option, arith}
use Rattle.std.specs.Prelude.{◌==◌, ◌&&◌, is_none}
use Rattle.std.proofs.lemmas.Bool.Decides.{nat_tests}
use Rattle.cw_tree.specs.declared.leaf.RawSign.{RawSign}
use Rattle.cw_tree.specs.declared.leaf.RawFactorSign.{RawFactorSign}
use Rattle.cw_tree.specs.declared.expression.RawBits.{RawBits}
use Rattle.cw_tree.specs.declared.expression.RawCand.{RawCand, out-RawCand}
use Rattle.cw_tree.specs.declared.expression.RawCond.{RawCond, out-RawCond}
use Rattle.cw_tree.specs.declared.expression.RawDiffer.{RawDiffer, out-RawDiffer}
use Rattle.cw_tree.specs.declared.expression.RawMask.{RawMask, out-RawMask}
use Rattle.cw_tree.specs.declared.expression.RawPrim.{RawPrim, out-RawPrim}
use Rattle.cw_tree.specs.declared.expression.RawSum.{RawSum, out-RawSum}
use Rattle.cw_tree.specs.declared.expression.RawTerm.{RawTerm, out-RawTerm}
use Rattle.cw_tree.specs.declared.expression.RawUnion.{RawUnion, out-RawUnion}
use Rattle.cw_scope.specs.declared.resolve.Named.{Named}
use Rattle.cw_scale.specs.declared.fault.Fault.{Fault}
use Rattle.cw_scale.specs.declared.scales.Shape.{Shape}
use Rattle.cw_scale.specs.Faults.{both}
use Rattle.cw_scale.specs.Types.{each_bits_judged}
use Rattle.cw_tree.proofs.Expressions.{ExpressionSteps, expression_steps, of_condition-out, of_conjunction-out, of_differ-out, of_mask-out, of_prim-out, of_sum-out, of_term-out, of_union-out}
use Rattle.cw_scale.specs.TypeRules.{Judged, plain, shape_from, logic_merged, logic_shape_from, each_at, scale_for, term_faults, logic_faults, expression_step, primary_step, reference_step, conjunction_step, comparison_step, condition_step, differ_step, mask_step, prim_step, sum_step, term_step, union_step, conjunction, comparison, condition, differ, union, mask, prim, primary, sum, term}
use Rattle.cw_scale.proofs.Turns.{no_item, only_item, length_map, one_more, none_more}

-- ---- operands of one rule

abbrev pub of_logic : List Judged → Judged
of_logic xs = record { shape = logic_shape_from (length xs == 1) (plain 0) xs; faults = λ f. logic_faults (length xs == 1) f xs }

abbrev pub of_term : List Judged → List RawFactorSign → Judged
of_term xs signs = record { shape = shape_from (length xs == 1) (plain 0) xs; faults = λ f. term_faults f xs signs }

abbrev pub of_sum : Option RawSign → List Judged → Judged
of_sum sign xs = record { shape = shape_from (length xs == 1 && is_none sign) (plain 0) xs; faults = λ f. each_at f xs }

abbrev pub of_prim : List RawBits → Judged → Judged
of_prim bits x =
    record {
      shape = logic_merged (length bits == 0) x.shape;
      faults = λ f. both (each_bits_judged bits) (x.faults (scale_for (length bits == 0) f x.shape.operand));
    }

module _ {A : Type 0} (judged : A → Judged) where
  pub logic_goes_on : (xs : List A) (i f scale : ℕ) (x : A) (before first total : Option Fault) → i < length xs → x ≡ get_or xs i x
      → scale ≡ scale_for (length xs == 1) f (judged x).shape.operand → first ≡ (judged x).faults scale before
      → logic_faults (length xs == 1) f (map judged (drop i xs)) before ≡ total → logic_faults (length xs == 1) f (map judged (drop (i + 1) xs)) first ≡ total
  logic_goes_on xs i f scale x before first total h g a b t =
      one_more (λ s js. logic_faults (length xs == 1) f js s) (λ s j. j.faults (scale_for (length xs == 1) f j.shape.operand) s) (λ s j js. refl) judged xs i x before first total h g
      (b ∙ ap (λ k. (judged x).faults k before) a) t

  pub logic_ends : (j : Judged) (ops xs : List A) (i f : ℕ) (before first : Option Fault) → j ≡ of_logic (map judged ops) → xs ≡ ops → length xs ≤ i
      → logic_faults (length xs == 1) f (map judged (drop i xs)) first ≡ logic_faults (length xs == 1) f (map judged xs) before → first ≡ j.faults f before
  logic_ends j ops xs i f before first e o h t =
      none_more (λ s js. logic_faults (length xs == 1) f js s) (λ s. refl) judged xs i first _ h t
      ∙ ap (λ n. logic_faults (n == 1) f (map judged xs) before) (sym (length_map judged xs)) ∙ ap (λ j. j.faults f before) (sym (e ∙ ap (λ l. of_logic (map judged l)) (sym o)))

  pub each_goes_on : (xs : List A) (i f : ℕ) (x : A) (before first total : Option Fault) → i < length xs → x ≡ get_or xs i x → first ≡ (judged x).faults f before
      → each_at f (map judged (drop i xs)) before ≡ total → each_at f (map judged (drop (i + 1) xs)) first ≡ total
  each_goes_on xs i f x before first total h g b t = one_more (λ s js. each_at f js s) (λ s j. j.faults f s) (λ s j js. refl) judged xs i x before first total h g b t

  pub each_ends : (all : Option Fault → Option Fault) (ops xs : List A) (i f : ℕ) (before first : Option Fault) → all before ≡ each_at f (map judged ops) before → xs ≡ ops → length xs ≤ i
      → each_at f (map judged (drop i xs)) first ≡ each_at f (map judged xs) before → first ≡ all before
  each_ends all ops xs i f before first e o h t =
      none_more (λ s js. each_at f js s) (λ s. refl) judged xs i first _ h t ∙ ap (λ l. each_at f (map judged l) before) o ∙ sym e

  pub term_none : (j : Judged) (ops xs : List A) (signs : List RawFactorSign) (f : ℕ) (first : Option Fault) → j ≡ of_term (map judged ops) signs → xs ≡ ops → length xs < 1 → first ≡ j.faults f first
  term_none j ops xs signs f first e o n = ap (λ j. j.faults f first) (sym (e ∙ ap (λ l. of_term (map judged l) signs) (sym o ∙ no_item xs n)))

  pub term_alone : (j : Judged) (ops xs : List A) (signs : List RawFactorSign) (x : A) → j ≡ of_term (map judged ops) signs → xs ≡ ops → length xs ≡ 1 → x ≡ get_or xs 0 x → j ≡ judged x
  term_alone j ops xs signs x e o n g = e ∙ ap (λ l. of_term (map judged l) signs) (sym o ∙ only_item xs x n g)

-- ---- BITS

pub prim_alone : (j x : Judged) (bits all : List RawBits) → j ≡ of_prim bits x → all ≡ bits → length all < 1 → j ≡ x
prim_alone j x bits all e o n = e ∙ ap (λ l. of_prim l x) (sym o ∙ no_item all n)

pub prim_within : (j x : Judged) (bits all : List RawBits) (f : ℕ) (shape : Shape) (before between after : Option Fault) → j ≡ of_prim bits x → all ≡ bits → 1 ≤ length all
    → between ≡ each_bits_judged all before → shape ≡ x.shape → after ≡ x.faults shape.operand between → after ≡ j.faults f before
prim_within j x bits all f shape before between after e o n a b c =
    let some : (length all == 0) ≡ false = grind (arith, nat_tests) in
    c ∙ ap₂ (λ (v : Shape) s. x.faults v.operand s) b a ∙ ap (λ k. x.faults (scale_for k f x.shape.operand) (each_bits_judged all before)) (sym some)
    ∙ ap (λ j. j.faults f before) (sym (e ∙ ap (λ l. of_prim l x) (sym o)))

-- ---- each rule

-- what a rule makes of the parts
abbrev pub steps : Named → ExpressionSteps Judged Judged Judged Judged Judged Judged Judged Judged Judged Judged Judged Judged
steps named = expression_steps (expression_step named) (primary_step named) (reference_step named) (conjunction_step named) (comparison_step named) (condition_step named) (differ_step named) (mask_step named) (prim_step named) (sum_step named) (term_step named) (union_step named)

module _ (named : Named) where
  pub differ-layer : (e : RawDiffer) → differ named e ≡ of_logic (map (union named) (out-RawDiffer e).operands)
  differ-layer = of_differ-out (steps named)

  pub union-layer : (e : RawUnion) → union named e ≡ of_logic (map (mask named) (out-RawUnion e).operands)
  union-layer = of_union-out (steps named)

  pub mask-layer : (e : RawMask) → mask named e ≡ of_logic (map (prim named) (out-RawMask e).operands)
  mask-layer = of_mask-out (steps named)

  pub prim-layer : (e : RawPrim) → prim named e ≡ of_prim (out-RawPrim e).bits (primary named (out-RawPrim e).primary)
  prim-layer = of_prim-out (steps named)

  pub term-layer : (e : RawTerm) → term named e ≡ of_term (map (differ named) (out-RawTerm e).operands) (out-RawTerm e).operators
  term-layer = of_term-out (steps named)

  pub sum-layer : (e : RawSum) → sum named e ≡ of_sum (out-RawSum e).sign (map (term named) (out-RawSum e).operands)
  sum-layer = of_sum-out (steps named)

  pub conjunction-layer : (e : RawCand) (f : ℕ) (first : Option Fault) → (conjunction named e).faults f first ≡ each_at 0 (map (comparison named) (out-RawCand e).operands) first
  conjunction-layer e f first = ap (λ j. j.faults f first) (of_conjunction-out (steps named) e)

  pub condition-layer : (e : RawCond) (f : ℕ) (first : Option Fault) → (condition named e).faults f first ≡ each_at 0 (map (conjunction named) (out-RawCond e).operands) first
  condition-layer e f first = ap (λ j. j.faults f first) (of_condition-out (steps named) e)
