-- The nodes of a unit's expressions, by what their operands are.
use Rattle.std.proofs.Common.{◌≡◌, ℕ, ◌<◌, ◌≤◌, max, Bool, IsTrue, ◌&&◌, nat_le, nat_lt, Option, refl, sym, ap, ap₂, subst, ◌∙◌, arith}
use Rattle.cw_word.specs.Number.{Number}
use Rattle.cw_word.specs.Decimal.{decimal_floor}
use Rattle.cw_word.proofs.Decimals.{decimal_floor-parts}
use Rattle.cw_tree.specs.declared.leaf.AddOp.{AddOp}
use Rattle.cw_tree.specs.declared.leaf.AddOp.TheVariants as add
use Rattle.cw_tree.specs.declared.leaf.MulOp.{MulOp}
use Rattle.cw_tree.specs.declared.leaf.MulOp.TheVariants as mul
use Rattle.cw_make_expr.specs.Nodes.{whole_number, bits, logic, minus, added, multiplied, whole_part_in, whole_part}
use Rattle.cw_unit.specs.declared.unit.Unit.{Unit as SourceUnit}
use Rattle.cw_unit.specs.declared.unit.LogicOp.{LogicOp}
use Rattle.cw_unit.specs.declared.unit.Expr.{Expr, Expr-F, out-Expr, roll-Expr, map-Expr}
use Rattle.cw_unit.specs.declared.unit.Arg.{Arg}
use Rattle.cw_unit.specs.declared.unit.Cond.{Cond}
use Rattle.cw_unit.specs.declared.unit.Spot.{Spot}
use Rattle.cw_unit.specs.declared.unit.Ref.{Ref}
use Rattle.cw_unit.specs.declared.unit.Arg.TheOpen as layer
use Rattle.cw_unit.specs.declared.unit.Arg.TheFolds.{fold-roll-Expr}
use Rattle.cw_safety.specs.Kinds.{Kind}
use Rattle.cw_safety.specs.WellFormed as formed
use Rattle.cw_gen_expr.specs.NamedItems.{has_words}
use Rattle.cw_gen_expr.specs.BuiltExpressions as built
use Rattle.cw_gen_expr.specs.BuiltExpressions.{BuiltValue, BuiltReference, most_levels, whole, built_unscaled, built_scaled}
use Rattle.cw_gen_expr.proofs.Layers.{built_value_layer, value-built}
use Rattle.cw_built.specs.Built.{alone, at_work}
use Rattle.cw_sound.proofs.Expressions.Truth.{both, le_true, lt_true, lt_of}
use Rattle.cw_sound.proofs.Expressions.Parts.{Ready, Result, Addend, WholePart}
use Rattle.cw_sound.proofs.Expressions.Built.{value, is_formed, built_well, BuiltAt, whole_at, ready_whole}

module _ (u : SourceUnit) (who : Option ℕ) where
  pub value_rolled : (x : Expr-F Arg Cond Expr Spot Ref) → value u who (roll-Expr x) ≡ built_value_layer u (has_words u who) x
  value_rolled = fold-roll-Expr Bool Bool BuiltValue Bool BuiltReference (built.argument_step u (has_words u who)) (built.condition_step u (has_words u who)) (built.expression_step u (has_words u who)) (built.spot_step u (has_words u who)) (built.reference_step u (has_words u who))

  abbrev pub formed_layer : Expr-F Arg Cond Expr Spot Ref → Bool
  formed_layer x = formed.expression_step (alone u) 0 (at_work who) (map-Expr Arg Cond Expr Spot Ref (Option Kind) Bool Bool Bool Bool (formed.kind_of (alone u) 0 (at_work who)) (formed.is_condition (alone u) 0 (at_work who)) (is_formed u who) (formed.is_spot (alone u) 0 (at_work who)) (formed.is_reference (alone u) 0 (at_work who)) x)

  pub formed_rolled : (x : Expr-F Arg Cond Expr Spot Ref) → is_formed u who (roll-Expr x) ≡ formed_layer x
  formed_rolled = fold-roll-Expr (Option Kind) Bool Bool Bool Bool (formed.argument_step (alone u) 0 (at_work who)) formed.condition_step (formed.expression_step (alone u) 0 (at_work who)) formed.spot_step formed.reference_step

  -- ---- operators that give a word at their own scale

  pub result_of : (n f : ℕ) (e : Expr) (p : (f levels : ℕ) → Bool) → value u who e ≡ built_scaled n p → ((levels : ℕ) → IsTrue (p f levels)) → IsTrue (is_formed u who e) → Result (built_well u who) n f e
  result_of n f e p is h k = record {
    natural = ap (λ (v : BuiltValue). v.natural) is;
    operand = ap (λ (v : BuiltValue). v.operand) is;
    at = record { built = λ levels low high. subst (λ (v : BuiltValue). IsTrue (v.at f levels)) (sym is) (h levels); formed = k };
  }

  abbrev operands : (a b : Expr) → Bool
  operands a b = whole (value u who a) (value u who a).operand && whole (value u who b) (value u who b).operand

  both_operands : (a b : Expr) → Ready (built_well u who) a → Ready (built_well u who) b → IsTrue (operands a b)
  both_operands a b h k = both (whole (value u who a) (value u who a).operand) (whole (value u who b) (value u who b).operand) (ready_whole u who a h) (ready_whole u who b k)

  both_formed : (a b : Expr) → Ready (built_well u who) a → Ready (built_well u who) b → IsTrue (is_formed u who a && is_formed u who b)
  both_formed a b h k = both (is_formed u who a) (is_formed u who b) h.at.formed k.at.formed

  pub logic_result : (op : LogicOp) (f : ℕ) (a b : Expr) → Ready (built_well u who) a → Ready (built_well u who) b → Result (built_well u who) 0 f (logic op a b)
  logic_result op f a b h k =
      result_of 0 f (logic op a b) (λ f levels. operands a b) (value_rolled (layer.Logic op a b)) (λ levels. both_operands a b h k)
      (subst IsTrue (sym (formed_rolled (layer.Logic op a b))) (both_formed a b h k))

  pub bits_result : (t b f : ℕ) (a : Expr) → Ready (built_well u who) a → Result (built_well u who) 0 f (bits t b a)
  bits_result t b f a h =
      result_of 0 f (bits t b a) (λ f levels. whole (value u who a) (value u who a).operand) (value_rolled (layer.Bits t b a)) (λ levels. ready_whole u who a h)
      (subst IsTrue (sym (formed_rolled (layer.Bits t b a))) h.at.formed)

  pub multiplied_result : (op : MulOp) (f : ℕ) (a b : Expr) → Ready (built_well u who) a → Ready (built_well u who) b → Result (built_well u who) (max (value u who a).natural (value u who b).natural) f (multiplied op a b)
  multiplied_result mul.Times f a b h k =
      result_of (max (value u who a).natural (value u who b).natural) f (multiplied mul.Times a b) (λ f levels. operands a b) (value_rolled (layer.Times a b)) (λ levels. both_operands a b h k)
      (subst IsTrue (sym (formed_rolled (layer.Times a b))) (both_formed a b h k))
  multiplied_result mul.Divide f a b h k =
      result_of (max (value u who a).natural (value u who b).natural) f (multiplied mul.Divide a b) (λ f levels. operands a b) (value_rolled (layer.Over a b)) (λ levels. both_operands a b h k)
      (subst IsTrue (sym (formed_rolled (layer.Over a b))) (both_formed a b h k))

  -- ---- sums, whose terms are evaluated at the scale of the whole

  addend_of : (f n l : ℕ) (e : Expr) (p : (f levels : ℕ) → Bool) → value u who e ≡ built_scaled n p → ((levels : ℕ) → IsTrue (p f levels)) → IsTrue (is_formed u who e) → Addend (built_well u who) f n l e
  addend_of f n l e p is h k = record {
    natural = ap (λ (v : BuiltValue). v.natural) is;
    at = record { built = λ levels low high. subst (λ (v : BuiltValue). IsTrue (v.at f levels)) (sym is) (h levels); formed = k };
  }

  sum_made : (f n m l : ℕ) (e a b : Expr) → value u who e ≡ built_scaled (max (value u who a).natural (value u who b).natural) (λ f levels. whole (value u who a) f && whole (value u who b) f) → is_formed u who e ≡ (is_formed u who a && is_formed u who b)
      → f ≤ 15 → l ≤ most_levels → Addend (built_well u who) f n l a → Addend (built_well u who) f m l b → Addend (built_well u who) f (max n m) l e
  sum_made f n m l e a b is fis small few h k =
      subst (λ (i : ℕ). Addend (built_well u who) f i l e) (ap₂ max h.natural k.natural)
      (addend_of f (max (value u who a).natural (value u who b).natural) l e (λ f levels. whole (value u who a) f && whole (value u who b) f) is
      (λ levels. both (whole (value u who a) f) (whole (value u who b) f) (whole_at u who f l a small few h.at) (whole_at u who f l b small few k.at))
      (subst IsTrue (sym fis) (both (is_formed u who a) (is_formed u who b) h.at.formed k.at.formed)))

  pub added_addend : (op : AddOp) (f n m l : ℕ) (a b : Expr) → f ≤ 15 → l ≤ most_levels → Addend (built_well u who) f n l a → Addend (built_well u who) f m l b → Addend (built_well u who) f (max n m) l (added op a b)
  added_addend add.Plus f n m l a b = sum_made f n m l (added add.Plus a b) a b (value_rolled (layer.Sum a b)) (formed_rolled (layer.Sum a b))
  added_addend add.Minus f n m l a b = sum_made f n m l (added add.Minus a b) a b (value_rolled (layer.Less a b)) (formed_rolled (layer.Less a b))

  pub minus_addend : (f n l : ℕ) (a : Expr) → f ≤ 15 → l ≤ most_levels → Addend (built_well u who) f n l a → Addend (built_well u who) f n l (minus a)
  minus_addend f n l a small few h =
      subst (λ (i : ℕ). Addend (built_well u who) f i l (minus a)) h.natural
      (addend_of f (value u who a).natural l (minus a) (λ f levels. whole (value u who a) f) (value_rolled (layer.Minus a)) (λ levels. whole_at u who f l a small few h.at)
      (subst IsTrue (sym (formed_rolled (layer.Minus a))) h.at.formed))

  -- ---- the whole part of a number, where it is an operand

  itself : (e : Expr) (v : BuiltValue) → value u who e ≡ v → v.operand ≡ v.natural → WholePart (built_well u who) e e
  itself e v is same = record {
    natural = refl;
    operand = ap (λ (x : BuiltValue). x.operand) is ∙ same ∙ sym (ap (λ (x : BuiltValue). x.natural) is);
    at = λ h. h;
  }

  floor_above : (w d p : ℕ) → w ≤ decimal_floor w d p 0
  floor_above w d p = omega (arith, decimal_floor-parts w d p 0)

  floor_whole : (w : ℕ) → decimal_floor w 0 0 0 ≡ w
  floor_whole w = omega arith

  part_of_number : (e : Expr) (n : Number) → value u who e ≡ built_value_layer u (has_words u who) (layer.Num n) → WholePart (built_well u who) e (whole_number n.whole)
  part_of_number e n is =
      let w : Expr = whole_number n.whole in
      let rolled = value_rolled (layer.Num (record { whole = n.whole; digits = 0; places = 0 })) in
      record {
        natural = ap (λ (v : BuiltValue). v.natural) rolled ∙ sym (ap (λ (v : BuiltValue). v.natural) is);
        operand = ap (λ (v : BuiltValue). v.operand) rolled ∙ sym (ap (λ (v : BuiltValue). v.natural) is);
        at = λ h.
            let below : decimal_floor n.whole n.digits n.places 0 < 32768 = lt_of (decimal_floor n.whole n.digits n.places 0) 32768 (subst (λ (v : BuiltValue). IsTrue (v.at v.natural most_levels)) is (h.built most_levels (omega arith) (omega arith))) in
            let fits : IsTrue (nat_lt (decimal_floor n.whole 0 0 0) 32768) = lt_true (decimal_floor n.whole 0 0 0) 32768 (omega (arith, floor_whole n.whole, floor_above n.whole n.digits n.places, below)) in
            record {
              built = λ levels low high. subst (λ (v : BuiltValue). IsTrue ((value u who w).at v.natural levels)) (sym is) (subst (λ (v : BuiltValue). IsTrue (v.at 0 levels)) (sym rolled) fits);
              formed = formed_rolled (layer.Num (record { whole = n.whole; digits = 0; places = 0 }));
            };
      }

  part_in : (e : Expr) (x : Expr-F Arg Cond Expr Spot Ref) → value u who e ≡ built_value_layer u (has_words u who) x → WholePart (built_well u who) e (whole_part_in e x)
  part_in e (layer.Num n) is = part_of_number e n is
  part_in e (layer.Const z) is = itself e (built_value_layer u (has_words u who) (layer.Const z)) is refl
  part_in e (layer.Text i) is = itself e (built_value_layer u (has_words u who) (layer.Text i)) is refl
  part_in e (layer.Read r) is = itself e (built_value_layer u (has_words u who) (layer.Read r)) is refl
  part_in e (layer.Call t args) is = itself e (built_value_layer u (has_words u who) (layer.Call t args)) is refl
  part_in e (layer.Force g a) is = itself e (built_value_layer u (has_words u who) (layer.Force g a)) is refl
  part_in e (layer.Locate r) is = itself e (built_value_layer u (has_words u who) (layer.Locate r)) is refl
  part_in e (layer.Bits t b a) is = itself e (built_value_layer u (has_words u who) (layer.Bits t b a)) is refl
  part_in e (layer.Logic op a b) is = itself e (built_value_layer u (has_words u who) (layer.Logic op a b)) is refl
  part_in e (layer.Sum a b) is = itself e (built_value_layer u (has_words u who) (layer.Sum a b)) is refl
  part_in e (layer.Less a b) is = itself e (built_value_layer u (has_words u who) (layer.Less a b)) is refl
  part_in e (layer.Minus a) is = itself e (built_value_layer u (has_words u who) (layer.Minus a)) is refl
  part_in e (layer.Times a b) is = itself e (built_value_layer u (has_words u who) (layer.Times a b)) is refl
  part_in e (layer.Over a b) is = itself e (built_value_layer u (has_words u who) (layer.Over a b)) is refl
  part_in e (layer.Choice c a b) is = itself e (built_value_layer u (has_words u who) (layer.Choice c a b)) is refl

  pub whole_part_is : (e : Expr) → WholePart (built_well u who) e (whole_part e)
  whole_part_is e = part_in e (out-Expr e) (value-built u (has_words u who) e)
