-- Several operands of one rule.
use Rattle.std.proofs.Common.{◌≡◌, ℕ, ◌+◌, ◌≤◌, max, List, [], ◌∷◌, length, Bool, true, false, IsTrue, ◌&&◌, Option, Some, None, is_some, nat_le, refl, sym, ap, ap₂, subst, subst₂, arith, if◌then◌else◌}
use Rattle.cw_tree.specs.declared.leaf.MulOp.{MulOp}
use Rattle.cw_tree.specs.declared.leaf.MulOp.TheVariants as mul
use Rattle.cw_tree.specs.declared.leaf.RawSign.{RawSign}
use Rattle.cw_tree.specs.declared.leaf.RawFactorSign.{RawFactorSign}
use Rattle.cw_tree.specs.declared.expression.RawBits.{RawBits}
use Rattle.cw_amount.specs.Amounts.{place_amount, is_negative, number_position}
use Rattle.cw_scope.specs.declared.resolve.Named.{Named}
use Rattle.cw_scale.specs.declared.fault.Rule.TheVariants as rule
use Rattle.cw_scale.specs.Faults.{Judgement, fine, unless, both}
use Rattle.cw_scale.specs.Types.{int_judged, is_field, bits_judged, each_bits_judged}
use Rattle.cw_scale.specs.TypeRules.{Judged, plain, shape_from, logic_shape_from, each_at, operand_faults, is_division, can_divide, division_faults, factor_faults, chain_faults, logic_faults}
use Rattle.cw_make_expr.specs.Parts.{Numbers, within}
use Rattle.cw_make_expr.specs.Nodes.{logic, minus, added, multiplied}
use Rattle.cw_make_expr.specs.Made.{Made, logic_from, factors_from, terms_from, signed_term, bits_around}
use Rattle.cw_unit.specs.declared.unit.Unit.{Unit as SourceUnit}
use Rattle.cw_unit.specs.declared.unit.LogicOp.{LogicOp}
use Rattle.cw_unit.specs.declared.unit.Expr.{Expr}
use Rattle.cw_gen_expr.specs.BuiltExpressions.{most_levels}
use Rattle.cw_built.specs.Coded.{is_part}
use Rattle.cw_sound.specs.Expressions.Levels.{largest}
use Rattle.cw_sound.proofs.Expressions.Truth.{both as both_true, parts, no, le_true, le_of, max_small}
use Rattle.cw_sound.proofs.Expressions.Judging.{Keeps, NoFault, keeps_fine, keeps_unless, keeps_both, both_free, holds, keeps_int, keeps_each_bits}
use Rattle.cw_sound.proofs.Expressions.Parts.{Sense, Ready, Result, Addend, Valued, Values}
use Rattle.cw_sound.proofs.Expressions.Senses.{IsKept}
use Rattle.cw_sound.proofs.Expressions.Several.{AllKeeping, each_keeps, logic_keeps, factor_keeps, chain_keeps}
use Rattle.cw_sound.proofs.Expressions.Lists.{all_keeping, all_none, all_more}

-- ---- shapes

abbrev pub most : ℕ → List Judged → ℕ
most n [] = n
most n (j ∷ js) = most (max n j.shape.natural) js

pub shape_most : (n : ℕ) (js : List Judged) → shape_from false (plain n) js ≡ plain (most n js)
shape_most n [] = refl
shape_most n (j ∷ js) = shape_most (max n j.shape.natural) js

pub shape_none : (js : List Judged) → logic_shape_from false (plain 0) js ≡ plain 0
shape_none [] = refl
shape_none (j ∷ js) = shape_none js

-- ---- BITS

pub within_is : (n limit : ℕ) → n ≤ limit → within limit (Some n) ≡ n
within_is n limit h = ap (λ b. if b then n else 0) (le_true n limit h)

pub part_of : (o p : Option ℕ) → IsTrue (is_some o) → IsTrue (is_some p) → IsTrue (is_field o p) → IsTrue (is_part (within 255 o) (within 255 p))
part_of None p h k f = no h
part_of (Some t) None h k f = no k
part_of (Some t) (Some b) h k f =
    let x = parts (nat_le 1 t) (nat_le t 16 && nat_le (t + b) 16) f in
    let y = parts (nat_le t 16) (nat_le (t + b) 16) x.1 in
    let all : t + b ≤ 16 = le_of (t + b) 16 y.1 in
    subst₂ (λ (m n : ℕ). IsTrue (is_part m n)) (sym (within_is t 255 (omega (arith, all)))) (sym (within_is b 255 (omega (arith, all)))) (both_true (nat_le 1 t) (nat_le (t + b) 16) x.0 y.1)

pub bits_are_part : (b : RawBits) → NoFault (bits_judged b) → IsTrue (is_part (within 255 (place_amount b.size.first)) (within 255 (place_amount b.size.second)))
bits_are_part b free =
    let fits : Bool = is_field (place_amount b.size.first) (place_amount b.size.second) in
    let field : Judgement = unless fits rule.FieldRange b.at in
    let keeps_field : Keeps field = keeps_unless fits rule.FieldRange b.at in
    let x = both_free (int_judged b.size.first) (both (int_judged b.size.second) field) (keeps_both (keeps_int b.size.second) keeps_field) free in
    let y = both_free (int_judged b.size.second) field keeps_field x.1 in
    part_of (place_amount b.size.first) (place_amount b.size.second) (holds (is_some (place_amount b.size.first)) rule.NumberRange (number_position b.size.first) x.0)
    (holds (is_some (place_amount b.size.second)) rule.NumberRange (number_position b.size.second) y.0) (holds fits rule.FieldRange b.at y.1)

module _ (sense : Sense) where
  pub most_small : (n : ℕ) {js : List Judged} {ms : List Made} {ls : List ℕ} → n ≤ 15 → Values sense js ms ls → most n js ≤ 15
  most_small n h all_none = h
  most_small n h (all_more {j = j} v vs) = most_small (max n j.shape.natural) (max_small n j.shape.natural 15 h v.natural_small) vs

  pub keeping : {js : List Judged} {ms : List Made} {ls : List ℕ} → Values sense js ms ls → AllKeeping js
  keeping = all_keeping Made (Valued sense) (λ j m l v. v.keeps)

  -- ---- operands that are evaluated at their scales as operands

  pub record Operand (j : Judged) (m : Made) : Type 0 where
    pub ready : Ready sense (m.made true)
    pub natural : sense.natural (m.made true) ≡ j.shape.natural
    pub operand : sense.operand (m.made true) ≡ j.shape.operand

  pub data Operands : List Judged → List Made → Type 0 where
    no_operand : Operands [] []
    more_operands : {j : Judged} {m : Made} {js : List Judged} {ms : List Made} → Operand j m → Operands js ms → Operands (j ∷ js) (m ∷ ms)

  pub operand_of : (j : Judged) (m : Made) (l : ℕ) → Valued sense j m l → l ≤ most_levels → NoFault (operand_faults j) → Operand j m
  operand_of j m l v few free =
      let g = v.good j.shape.operand v.operand_small few free in
      record {
        ready = record {
          small = subst (λ (n : ℕ). n ≤ 15) (sym g.operand) v.operand_small;
          at = subst (λ (n : ℕ). sense.At most_levels n (m.made true)) (sym g.operand) (g.as_operand refl);
        };
        natural = g.natural true;
        operand = g.operand;
      }

  pub logic_operands : (f : ℕ) {js : List Judged} {ms : List Made} {ls : List ℕ} → Values sense js ms ls → largest ls ≤ most_levels → NoFault (logic_faults false f js) → Operands js ms
  logic_operands f all_none few free = no_operand
  logic_operands f (all_more {j = j} {m = m} {l = l} {js = js} {ls = ls} v vs) few free =
      let halves = both_free (operand_faults j) (logic_faults false f js) (logic_keeps false f (keeping vs)) free in
      more_operands (operand_of j m l v (omega (arith, few)) halves.0) (logic_operands f vs (omega (arith, few)) halves.1)

  -- ---- terms of a sum

  pub data Addends : (f l : ℕ) → List Judged → List Made → Type 0 where
    no_addend : {f l : ℕ} → Addends f l [] []
    more_addends : {f l : ℕ} {j : Judged} {m : Made} {js : List Judged} {ms : List Made} → Addend sense f j.shape.natural l (m.made false) → Addends f l js ms → Addends f l (j ∷ js) (m ∷ ms)

module _ (named : Named) (numbers : Numbers) (u : SourceUnit) (who : Option ℕ) (sense : Sense) (kept : IsKept named numbers u who sense) where
  result_ready : (n : ℕ) (e : Expr) → n ≤ 15 → Result sense n n e → Ready sense e
  result_ready n e small r = record {
    small = subst (λ (k : ℕ). k ≤ 15) (sym r.operand) small;
    at = subst (λ (k : ℕ). sense.At most_levels k e) (sym r.operand) (kept.more 0 most_levels n e (omega arith) r.at);
  }

  -- ---- word logic and BITS, at any scale

  pub logic_all : (op : LogicOp) (f : ℕ) (e : Expr) {js : List Judged} {ms : List Made} → ((g : ℕ) → Result sense 0 g e) → Operands sense js ms → Result sense 0 f (logic_from op e ms)
  logic_all op f e r no_operand = r f
  logic_all op f e r (more_operands {m = m} x xs) = logic_all op f (logic op e (m.made true)) (λ g. kept.logic_result op g e (m.made true) (result_ready 0 e (omega arith) (r 0)) x.ready) xs

  pub bits_all : (b : RawBits) (bs : List RawBits) (f : ℕ) (e : Expr) → NoFault (each_bits_judged (b ∷ bs)) → Ready sense e → Result sense 0 f (bits_around (b ∷ bs) e)
  bits_all b [] f e free h =
      kept.bits_result (within 255 (place_amount b.size.first)) (within 255 (place_amount b.size.second)) f e (bits_are_part b (both_free (bits_judged b) (each_bits_judged []) (keeps_each_bits []) free).0) h
  bits_all b (c ∷ bs) f e free h =
      let halves = both_free (bits_judged b) (each_bits_judged (c ∷ bs)) (keeps_each_bits (c ∷ bs)) free in
      kept.bits_result (within 255 (place_amount b.size.first)) (within 255 (place_amount b.size.second)) f (bits_around (c ∷ bs) e) (bits_are_part b halves.0)
      (result_ready 0 (bits_around (c ∷ bs) e) (omega arith) (bits_all c bs 0 e halves.1 h))

  -- ---- terms: each product or quotient at the scale that the next operator asks

  operated : (op : MulOp) (s : RawFactorSign) (asked : ℕ) (e g : Expr) → Ready sense e → Ready sense g → NoFault (division_faults (is_division op) s asked (sense.operand e) (sense.operand g))
      → Result sense (max (sense.natural e) (sense.natural g)) asked (multiplied op e g)
  operated mul.Times s asked e g h k free = kept.times_result asked e g h k
  operated mul.Divide s asked e g h k free = kept.over_result asked e g (holds (can_divide asked (sense.operand e) (sense.operand g)) rule.ScaleRange s.at free) h k

  factor_result : (s : RawFactorSign) (asked f1 n : ℕ) (e : Expr) (j : Judged) (m : Made) → sense.natural e ≡ n → sense.operand e ≡ f1 → Ready sense e → Operand sense j m → NoFault (factor_faults s asked f1 j.shape.operand)
      → Result sense (max n j.shape.natural) asked (multiplied s.op e (m.made true))
  factor_result s asked f1 n e j m is scale h x free =
      subst (λ (k : ℕ). Result sense k asked (multiplied s.op e (m.made true))) (ap₂ max is x.natural)
      (operated s.op s asked e (m.made true) h x.ready (subst₂ (λ (a b : ℕ). NoFault (factor_faults s asked a b)) (sym scale) (sym x.operand) free))

  -- what stands before is the left operand of the first sign
  pub chain_result : (asked f1 n : ℕ) (e : Expr) (s : RawFactorSign) (signs : List RawFactorSign) {j : Judged} {m : Made} {l : ℕ} {js : List Judged} {ms : List Made} {ls : List ℕ} → n ≤ 15 → length ms ≤ length signs
      → sense.natural e ≡ n → sense.operand e ≡ f1 → Ready sense e → Valued sense j m l → Values sense js ms ls → largest (l ∷ ls) ≤ most_levels → NoFault (chain_faults asked f1 n (j ∷ js) (s ∷ signs))
      → Result sense (most (max n j.shape.natural) js) asked (factors_from (multiplied s.op e (m.made true)) ms signs)
  chain_result asked f1 n e s signs {j = j} {m = m} {l = l} small enough is scale h v all_none few free =
      let sign : Judgement = factor_faults s asked f1 j.shape.operand in
      let halves = both_free (operand_faults j) (both sign fine) (keeps_both (factor_keeps s asked f1 j.shape.operand) keeps_fine) free in
      factor_result s asked f1 n e j m is scale h (operand_of sense j m l v (omega (arith, few)) halves.0) (both_free sign fine keeps_fine halves.1).0
  chain_result asked f1 n e s [] small enough is scale h v (all_more w ws) few free = absurd (omega (arith, enough))
  chain_result asked f1 n e s (t ∷ signs) {j = j} {m = m} {l = l} small enough is scale h v (all_more {j = k} {m = p} {l = i} {js = js} {ms = ms} {ls = ls} w ws) few free =
      let top : ℕ = max n j.shape.natural in
      let low : top ≤ 15 = max_small n j.shape.natural 15 small v.natural_small in
      let sign : Judgement = factor_faults s top f1 j.shape.operand in
      let rest : Judgement = chain_faults asked top top (k ∷ js) (t ∷ signs) in
      let keeps_rest : Keeps rest = chain_keeps asked top top (t ∷ signs) (keeping sense (all_more w ws)) in
      let halves = both_free (operand_faults j) (both sign rest) (keeps_both (factor_keeps s top f1 j.shape.operand) keeps_rest) free in
      let behind = both_free sign rest keeps_rest halves.1 in
      let r = factor_result s top f1 n e j m is scale h (operand_of sense j m l v (omega (arith, few)) halves.0) behind.0 in
      chain_result asked top top (multiplied s.op e (m.made true)) t signs {j = k} {m = p} {l = i} {js = js} {ms = ms} {ls = ls} low (omega (arith, enough)) r.natural r.operand (result_ready top (multiplied s.op e (m.made true)) low r) w ws (omega (arith, few)) behind.1

  -- ---- sums

  pub all_addends : (f n : ℕ) {js : List Judged} {ms : List Made} {ls : List ℕ} → f ≤ 15 → largest ls ≤ n → n ≤ most_levels → Values sense js ms ls → NoFault (each_at f js) → Addends sense f n js ms
  all_addends f n small low few all_none free = no_addend
  all_addends f n small low few (all_more {j = j} {m = m} {l = l} {js = js} {ls = ls} v vs) free =
      let halves = both_free (j.faults f) (each_at f js) (each_keeps f (keeping sense vs)) free in
      let g = v.good f small (omega (arith, low, few)) halves.0 in
      more_addends (record { natural = g.natural false; at = kept.more l n f (m.made false) (omega (arith, low)) g.at }) (all_addends f n small (omega (arith, low)) few vs halves.1)

  pub terms_all : (f n l : ℕ) (e : Expr) {js : List Judged} {ms : List Made} (signs : List RawSign) → f ≤ 15 → l ≤ most_levels → length ms ≤ length signs → Addend sense f n l e → Addends sense f l js ms → Addend sense f (most n js) l (terms_from e ms signs)
  terms_all f n l e signs small few enough a no_addend = a
  terms_all f n l e [] small few enough a (more_addends x xs) = absurd (omega (arith, enough))
  terms_all f n l e (s ∷ signs) small few enough a (more_addends {j = j} {m = m} x xs) =
      terms_all f (max n j.shape.natural) l (added s.op e (m.made false)) signs small few (omega (arith, enough)) (kept.added_addend s.op f n j.shape.natural l e (m.made false) small few a x) xs

  minus_if : (b : Bool) (f n l : ℕ) (e : Expr) → f ≤ 15 → l ≤ most_levels → Addend sense f n l e → Addend sense f n l (if b then minus e else e)
  minus_if true f n l e small few a = kept.minus_addend f n l e small few a
  minus_if false f n l e small few a = a

  pub signed_addend : (sign : Option RawSign) (f n l : ℕ) (e : Expr) → f ≤ 15 → l ≤ most_levels → Addend sense f n l e → Addend sense f n l (signed_term sign e)
  signed_addend sign f n l e small few a = minus_if (is_negative sign) f n l e small few a
