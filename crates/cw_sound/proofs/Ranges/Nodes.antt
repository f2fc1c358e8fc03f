-- The nodes of a unit's expressions, by what their operands are.
use Rattle.std.proofs.Common.{◌≡◌, ℕ, max, Bool, IsTrue, ◌&&◌, refl, sym, ap, ap₂, subst, ◌∙◌}
use Rattle.cw_word.specs.Number.{Number}
use Rattle.cw_tree.specs.declared.leaf.AddOp.{AddOp}
use Rattle.cw_tree.specs.declared.leaf.AddOp.TheVariants as add
use Rattle.cw_tree.specs.declared.leaf.MulOp.TheVariants as mul
use Rattle.cw_make_expr.specs.Nodes.{whole_number, bits, logic, minus, added, multiplied, whole_part_in, whole_part}
use Rattle.cw_unit.specs.declared.unit.Unit.{Unit as SourceUnit}
use Rattle.cw_unit.specs.declared.unit.LogicOp.{LogicOp}
use Rattle.cw_unit.specs.declared.unit.Expr.{Expr, Expr-F, out-Expr, roll-Expr}
use Rattle.cw_unit.specs.declared.unit.Arg.{Arg}
use Rattle.cw_unit.specs.declared.unit.Cond.{Cond}
use Rattle.cw_unit.specs.declared.unit.Spot.{Spot}
use Rattle.cw_unit.specs.declared.unit.Ref.{Ref}
use Rattle.cw_unit.specs.declared.unit.Arg.TheOpen as layer
use Rattle.cw_unit.specs.declared.unit.Arg.TheFolds.{fold-roll-Expr}
use Rattle.cw_writable.specs.Coded.RangedExpressions as ranged
use Rattle.cw_writable.specs.Coded.RangedExpressions.{RangedValue, RangedReference, in_range, can_divide, ranged_scaled}
use Rattle.cw_built.specs.Coded.{is_part}
use Rattle.cw_writable.proofs.Coded.RangedLayers.{ranged_value_layer, value-ranged}
use Rattle.cw_sound.proofs.Expressions.Truth.{both}
use Rattle.cw_sound.proofs.Expressions.Parts.{Ready, Result, Addend, WholePart}
use Rattle.cw_sound.proofs.Ranges.InRanges.{value, in_ranges, ready_range}

module _ (u : SourceUnit) where
  pub value_rolled : (x : Expr-F Arg Cond Expr Spot Ref) → value u (roll-Expr x) ≡ ranged_value_layer u x
  value_rolled = fold-roll-Expr Bool Bool RangedValue Bool RangedReference ranged.argument_step ranged.condition_step (ranged.expression_step u) ranged.spot_step ranged.reference_step

  -- ---- operators that give a word at their own scale

  pub result_of : (n f : ℕ) (e : Expr) (p : ℕ → Bool) → value u e ≡ ranged_scaled n p → IsTrue (p f) → Result (in_ranges u) n f e
  result_of n f e p is h = record {
    natural = ap (λ (v : RangedValue). v.natural) is;
    operand = ap (λ (v : RangedValue). v.operand) is;
    at = subst (λ (v : RangedValue). IsTrue (v.at f)) (sym is) h;
  }

  abbrev operands : (a b : Expr) → Bool
  operands a b = in_range (value u a) (value u a).operand && in_range (value u b) (value u b).operand

  both_operands : (a b : Expr) → Ready (in_ranges u) a → Ready (in_ranges u) b → IsTrue (operands a b)
  both_operands a b h k = both (in_range (value u a) (value u a).operand) (in_range (value u b) (value u b).operand) (ready_range u a h) (ready_range u b k)

  pub logic_result : (op : LogicOp) (f : ℕ) (a b : Expr) → Ready (in_ranges u) a → Ready (in_ranges u) b → Result (in_ranges u) 0 f (logic op a b)
  logic_result op f a b h k = result_of 0 f (logic op a b) (λ f. operands a b) (value_rolled (layer.Logic op a b)) (both_operands a b h k)

  pub bits_result : (t b f : ℕ) (a : Expr) → IsTrue (is_part t b) → Ready (in_ranges u) a → Result (in_ranges u) 0 f (bits t b a)
  bits_result t b f a part h =
      let v : RangedValue = value u a in
      result_of 0 f (bits t b a) (λ f. is_part t b && in_range v v.operand) (value_rolled (layer.Bits t b a)) (both (is_part t b) (in_range v v.operand) part (ready_range u a h))

  pub times_result : (f : ℕ) (a b : Expr) → Ready (in_ranges u) a → Ready (in_ranges u) b → Result (in_ranges u) (max (value u a).natural (value u b).natural) f (multiplied mul.Times a b)
  times_result f a b h k =
      result_of (max (value u a).natural (value u b).natural) f (multiplied mul.Times a b) (λ f. operands a b) (value_rolled (layer.Times a b)) (both_operands a b h k)

  pub over_result : (f : ℕ) (a b : Expr) → IsTrue (can_divide f (value u a).operand (value u b).operand) → Ready (in_ranges u) a → Ready (in_ranges u) b → Result (in_ranges u) (max (value u a).natural (value u b).natural) f (multiplied mul.Divide a b)
  over_result f a b may h k =
      let f1 : ℕ = (value u a).operand in
      let f2 : ℕ = (value u b).operand in
      result_of (max (value u a).natural (value u b).natural) f (multiplied mul.Divide a b) (λ f. can_divide f f1 f2 && operands a b) (value_rolled (layer.Over a b))
      (both (can_divide f f1 f2) (operands a b) may (both_operands a b h k))

  -- ---- sums, whose terms are evaluated at the scale of the whole

  addend_of : (f n l : ℕ) (e : Expr) (p : ℕ → Bool) → value u e ≡ ranged_scaled n p → IsTrue (p f) → Addend (in_ranges u) f n l e
  addend_of f n l e p is h = record {
    natural = ap (λ (v : RangedValue). v.natural) is;
    at = subst (λ (v : RangedValue). IsTrue (v.at f)) (sym is) h;
  }

  sum_made : (f n m l : ℕ) (e a b : Expr) → value u e ≡ ranged_scaled (max (value u a).natural (value u b).natural) (λ f. (value u a).at f && (value u b).at f)
      → Addend (in_ranges u) f n l a → Addend (in_ranges u) f m l b → Addend (in_ranges u) f (max n m) l e
  sum_made f n m l e a b is h k =
      subst (λ (i : ℕ). Addend (in_ranges u) f i l e) (ap₂ max h.natural k.natural)
      (addend_of f (max (value u a).natural (value u b).natural) l e (λ f. (value u a).at f && (value u b).at f) is (both ((value u a).at f) ((value u b).at f) h.at k.at))

  pub added_addend : (op : AddOp) (f n m l : ℕ) (a b : Expr) → Addend (in_ranges u) f n l a → Addend (in_ranges u) f m l b → Addend (in_ranges u) f (max n m) l (added op a b)
  added_addend add.Plus f n m l a b = sum_made f n m l (added add.Plus a b) a b (value_rolled (layer.Sum a b))
  added_addend add.Minus f n m l a b = sum_made f n m l (added add.Minus a b) a b (value_rolled (layer.Less a b))

  pub minus_addend : (f n l : ℕ) (a : Expr) → Addend (in_ranges u) f n l a → Addend (in_ranges u) f n l (minus a)
  minus_addend f n l a h =
      subst (λ (i : ℕ). Addend (in_ranges u) f i l (minus a)) h.natural (addend_of f (value u a).natural l (minus a) (λ f. (value u a).at f) (value_rolled (layer.Minus a)) h.at)

  -- ---- the whole part of a number, where it is an operand

  itself : (e : Expr) (v : RangedValue) → value u e ≡ v → v.operand ≡ v.natural → WholePart (in_ranges u) e e
  itself e v is same = record {
    natural = refl;
    operand = ap (λ (x : RangedValue). x.operand) is ∙ same ∙ sym (ap (λ (x : RangedValue). x.natural) is);
    at = λ h. h;
  }

  part_of_number : (e : Expr) (n : Number) → value u e ≡ ranged_value_layer u (layer.Num n) → WholePart (in_ranges u) e (whole_number n.whole)
  part_of_number e n is =
      let rolled = value_rolled (layer.Num (record { whole = n.whole; digits = 0; places = 0 })) in
      record {
        natural = ap (λ (v : RangedValue). v.natural) rolled ∙ sym (ap (λ (v : RangedValue). v.natural) is);
        operand = ap (λ (v : RangedValue). v.operand) rolled ∙ sym (ap (λ (v : RangedValue). v.natural) is);
        at = λ h. subst (λ (v : RangedValue). IsTrue (v.at (value u e).natural)) (sym rolled) refl;
      }

  part_in : (e : Expr) (x : Expr-F Arg Cond Expr Spot Ref) → value u e ≡ ranged_value_layer u x → WholePart (in_ranges u) e (whole_part_in e x)
  part_in e (layer.Num n) is = part_of_number e n is
  part_in e (layer.Const z) is = itself e (ranged_value_layer u (layer.Const z)) is refl
  part_in e (layer.Text i) is = itself e (ranged_value_layer u (layer.Text i)) is refl
  part_in e (layer.Read r) is = itself e (ranged_value_layer u (layer.Read r)) is refl
  part_in e (layer.Call t args) is = itself e (ranged_value_layer u (layer.Call t args)) is refl
  part_in e (layer.Force g a) is = itself e (ranged_value_layer u (layer.Force g a)) is refl
  part_in e (layer.Locate r) is = itself e (ranged_value_layer u (layer.Locate r)) is refl
  part_in e (layer.Bits t b a) is = itself e (ranged_value_layer u (layer.Bits t b a)) is refl
  part_in e (layer.Logic op a b) is = itself e (ranged_value_layer u (layer.Logic op a b)) is refl
  part_in e (layer.Sum a b) is = itself e (ranged_value_layer u (layer.Sum a b)) is refl
  part_in e (layer.Less a b) is = itself e (ranged_value_layer u (layer.Less a b)) is refl
  part_in e (layer.Minus a) is = itself e (ranged_value_layer u (layer.Minus a)) is refl
  part_in e (layer.Times a b) is = itself e (ranged_value_layer u (layer.Times a b)) is refl
  part_in e (layer.Over a b) is = itself e (ranged_value_layer u (layer.Over a b)) is refl
  part_in e (layer.Choice c a b) is = itself e (ranged_value_layer u (layer.Choice c a b)) is refl

  pub whole_part_is : (e : Expr) → WholePart (in_ranges u) e (whole_part e)
  whole_part_is e = part_in e (out-Expr e) (value-ranged u e)
