-- One lemma for each rule of expressions: how many words are in hand in the whole, by those of its parts.
use Rattle.std.proofs.Common.{ℕ, suc, ◌≤◌, max, List, [], ◌∷◌, length, Bool, true, false, ◌==◌, if◌then◌else◌, Option, refl, sym, subst, arith}
use Rattle.cw_tree.specs.declared.leaf.RawSign.{RawSign}
use Rattle.cw_tree.specs.declared.leaf.RawFactorSign.{RawFactorSign}
use Rattle.cw_tree.specs.declared.expression.RawBits.{RawBits}
use Rattle.cw_amount.specs.Amounts.{place_amount, is_negative}
use Rattle.cw_make_expr.specs.Nodes.{nothing, logic, minus, added, multiplied, both, either}
use Rattle.cw_make_expr.specs.Parts.{no_argument, within}
use Rattle.cw_make_expr.specs.Made.{Made, Placed, simply, operand_for, handed_if, logic_from, logic_of, factors_from, term_of, terms_from, signed_term, is_alone, sum_from, sum_of, bits_around, prim_of, all_from, any_from, all_of, any_of}
use Rattle.cw_unit.specs.declared.unit.LogicOp.{LogicOp}
use Rattle.cw_unit.specs.declared.unit.Arg.{Arg}
use Rattle.cw_unit.specs.declared.unit.Cond.{Cond}
use Rattle.cw_unit.specs.declared.unit.Expr.{Expr}
use Rattle.cw_unit.specs.declared.unit.CompareOp.TheVariants as compare
use Rattle.cw_unit.specs.declared.unit.Arg.TheOpen as layer
use Rattle.cw_unit.specs.StackBound.{operand_depth, condition_depth, address_depth, two_depth}
use Rattle.cw_sound.proofs.Expressions.Chains.{Chain, factor_joined, term_joined, factors, terms}
use Rattle.cw_sound.proofs.Need.Nodes.{expression_rolled, condition_rolled, two_within, added_depth, multiplied_depth, nothing_depth, part_within, Given, given_of}

-- ---- what is made, with at most so many words in hand

pub record Shallow (k : ℕ) (m : Made) : Type 0 where
  pub made : (operand : Bool) → operand_depth (m.made operand) ≤ k
  pub handed : Given m.handed 2

pub record ShallowPlace (k : ℕ) (p : Placed) : Type 0 where
  pub place : address_depth p.place ≤ k
  pub value : operand_depth p.value ≤ k
  pub handed : Given p.handed 2

abbrev pub ShallowTest : ℕ → Cond → Type 0
ShallowTest k c = condition_depth c ≤ k

abbrev pub Each : {A : Type 0} → (A → Type 0) → List A → Type 0
Each P [] = Unit {0}
Each P (x ∷ xs) = P x × Each P xs

pub lifted : (k l : ℕ) (m : Made) → k ≤ l → Shallow k m → Shallow l m
lifted k l m h s = record { made = λ operand. let d = s.made operand in omega (arith, d, h); handed = s.handed }

pub no_argument_small : Given no_argument 2
no_argument_small = given_of (layer.Special 0) 2 (record { most = 2; kept = 2 }) refl (omega arith) (omega arith)

pub simple_shallow : (k : ℕ) (e : Expr) → operand_depth e ≤ k → Shallow k (simply e)
simple_shallow k e h = record { made = λ operand. h; handed = no_argument_small }

pub nothing_shallow : (k : ℕ) → 1 ≤ k → Shallow k (simply nothing)
nothing_shallow k h = simple_shallow k nothing (subst (λ (d : ℕ). d ≤ k) (sym nothing_depth) h)

handed_small : (b : Bool) (a : Arg) → Given a 2 → Given (handed_if b a) 2
handed_small true a h = h
handed_small false a h = no_argument_small

-- ---- operands

up : (k d : ℕ) → d ≤ k → d ≤ suc k
up k d h = omega (arith, h)

logic_depth : (op : LogicOp) (k : ℕ) (e : Expr) (xs : List Made) → operand_depth e ≤ suc k → Each (Shallow k) xs → operand_depth (logic_from op e xs) ≤ suc k
logic_depth op k e [] h s = h
logic_depth op k e (x ∷ xs) h s =
    logic_depth op k (logic op e (x.made true)) xs
    (subst (λ (d : ℕ). d ≤ suc k) (sym (expression_rolled (layer.Logic op e (x.made true)))) (two_within (operand_depth e) (operand_depth (x.made true)) k h (s.0.made true))) s.1

pub logic_shallow : (op : LogicOp) (k : ℕ) (xs : List Made) → Each (Shallow k) xs → Shallow (suc k) (logic_of op xs)
logic_shallow op k [] s = nothing_shallow (suc k) (omega arith)
logic_shallow op k (x ∷ xs) s = record {
  made = λ operand. logic_depth op k (x.made (operand_for (length xs == 0) operand)) xs (up k (operand_depth (x.made (operand_for (length xs == 0) operand))) (s.0.made (operand_for (length xs == 0) operand))) s.1;
  handed = handed_small (length xs == 0) x.handed s.0.handed;
}

chain_depth : {S : Type 0} {from : Expr → List Made → List S → Expr} {joined : S → Expr → Made → Expr} → Chain from joined → (k : ℕ)
    → ((z : S) (e : Expr) (x : Made) → operand_depth e ≤ suc k → Shallow k x → operand_depth (joined z e x) ≤ suc k)
    → (e : Expr) (xs : List Made) (signs : List S) → operand_depth e ≤ suc k → Each (Shallow k) xs → operand_depth (from e xs signs) ≤ suc k
chain_depth c k within e [] signs h s = subst (λ (d : Expr). operand_depth d ≤ suc k) (sym (c.no_operand e signs)) h
chain_depth c k within e (x ∷ xs) [] h s = subst (λ (d : Expr). operand_depth d ≤ suc k) (sym (c.no_operator e x xs)) h
chain_depth {joined = joined} c k within e (x ∷ xs) (z ∷ signs) h s =
    subst (λ (d : Expr). operand_depth d ≤ suc k) (sym (c.one_more e x xs z signs)) (chain_depth c k within (joined z e x) xs signs (within z e x h s.0) s.1)

factor_depth : (k : ℕ) (z : RawFactorSign) (e : Expr) (x : Made) → operand_depth e ≤ suc k → Shallow k x → operand_depth (factor_joined z e x) ≤ suc k
factor_depth k z e x h s = subst (λ (d : ℕ). d ≤ suc k) (sym (multiplied_depth z.op e (x.made true))) (two_within (operand_depth e) (operand_depth (x.made true)) k h (s.made true))

pub term_shallow : (k : ℕ) (xs : List Made) (signs : List RawFactorSign) → Each (Shallow k) xs → Shallow (suc k) (term_of xs signs)
term_shallow k [] signs s = nothing_shallow (suc k) (omega arith)
term_shallow k (x ∷ xs) signs s = record {
  made = λ operand. chain_depth factors k (factor_depth k) (x.made (operand_for (length xs == 0) operand)) xs signs (up k (operand_depth (x.made (operand_for (length xs == 0) operand))) (s.0.made (operand_for (length xs == 0) operand))) s.1;
  handed = handed_small (length xs == 0) x.handed s.0.handed;
}

term_depth : (k : ℕ) (z : RawSign) (e : Expr) (x : Made) → operand_depth e ≤ suc k → Shallow k x → operand_depth (term_joined z e x) ≤ suc k
term_depth k z e x h s = subst (λ (d : ℕ). d ≤ suc k) (sym (added_depth z.op e (x.made false))) (two_within (operand_depth e) (operand_depth (x.made false)) k h (s.made false))

negated : (b : Bool) (k : ℕ) (e : Expr) → operand_depth e ≤ k → operand_depth (if b then minus e else e) ≤ k
negated true k e h = subst (λ (d : ℕ). d ≤ k) (sym (expression_rolled (layer.Minus e))) h
negated false k e h = h

sum_depth : (alone operand : Bool) (sign : Option RawSign) (k : ℕ) (x : Made) (xs : List Made) (signs : List RawSign) → Shallow k x → Each (Shallow k) xs → operand_depth (sum_from alone operand sign x xs signs) ≤ suc k
sum_depth true operand sign k x xs signs s h = up k (operand_depth (x.made operand)) (s.made operand)
sum_depth false operand sign k x xs signs s h =
    part_within operand (terms_from (signed_term sign (x.made false)) xs signs) (suc k)
    (chain_depth terms k (term_depth k) (signed_term sign (x.made false)) xs signs (negated (is_negative sign) (suc k) (x.made false) (up k (operand_depth (x.made false)) (s.made false))) h)

pub sum_shallow : (k : ℕ) (sign : Option RawSign) (xs : List Made) (signs : List RawSign) → Each (Shallow k) xs → Shallow (suc k) (sum_of sign xs signs)
sum_shallow k sign [] signs s = nothing_shallow (suc k) (omega arith)
sum_shallow k sign (x ∷ xs) signs s = record {
  made = λ operand. sum_depth (is_alone sign (length xs)) operand sign k x xs signs s.0 s.1;
  handed = handed_small (is_alone sign (length xs)) x.handed s.0.handed;
}

bits_depth : (bs : List RawBits) (k : ℕ) (e : Expr) → operand_depth e ≤ k → operand_depth (bits_around bs e) ≤ k
bits_depth [] k e h = h
bits_depth (b ∷ bs) k e h =
    subst (λ (d : ℕ). d ≤ k) (sym (expression_rolled (layer.Bits (within 255 (place_amount b.size.first)) (within 255 (place_amount b.size.second)) (bits_around bs e)))) (bits_depth bs k e h)

pub prim_shallow : (k : ℕ) (bs : List RawBits) (x : Made) → Shallow k x → Shallow k (prim_of bs x)
prim_shallow k bs x s = record {
  made = λ operand. bits_depth bs k (x.made (operand_for (length bs == 0) operand)) (s.made (operand_for (length bs == 0) operand));
  handed = handed_small (length bs == 0) x.handed s.handed;
}

-- ---- conditions

largest_within : (a b k : ℕ) → a ≤ k → b ≤ k → max a b ≤ k
largest_within a b k h l = omega (arith, h, l)

all_depth : (k : ℕ) (c : Cond) (cs : List Cond) → condition_depth c ≤ k → Each (ShallowTest k) cs → condition_depth (all_from c cs) ≤ k
all_depth k c [] h s = h
all_depth k c (d ∷ ds) h s = all_depth k (both c d) ds (subst (λ (n : ℕ). n ≤ k) (sym (condition_rolled (layer.And c d))) (largest_within (condition_depth c) (condition_depth d) k h s.0)) s.1

any_depth : (k : ℕ) (c : Cond) (cs : List Cond) → condition_depth c ≤ k → Each (ShallowTest k) cs → condition_depth (any_from c cs) ≤ k
any_depth k c [] h s = h
any_depth k c (d ∷ ds) h s = any_depth k (either c d) ds (subst (λ (n : ℕ). n ≤ k) (sym (condition_rolled (layer.Or c d))) (largest_within (condition_depth c) (condition_depth d) k h s.0)) s.1

none_depth : (k : ℕ) → 2 ≤ k → condition_depth (all_of []) ≤ k
none_depth k h = subst (λ (n : ℕ). n ≤ k) (sym (condition_rolled (layer.Cmp compare.Equal nothing nothing))) (subst (λ (d : ℕ). two_depth d d ≤ k) (sym nothing_depth) h)

pub all_shallow : (k : ℕ) (cs : List Cond) → 2 ≤ k → Each (ShallowTest k) cs → ShallowTest k (all_of cs)
all_shallow k [] h s = none_depth k h
all_shallow k (c ∷ cs) h s = all_depth k c cs s.0 s.1

pub any_shallow : (k : ℕ) (cs : List Cond) → 2 ≤ k → Each (ShallowTest k) cs → ShallowTest k (any_of cs)
any_shallow k [] h s = none_depth k h
any_shallow k (c ∷ cs) h s = any_depth k c cs s.0 s.1
