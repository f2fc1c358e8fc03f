-- Operators that are counted one by one: those of parts one after another, of a rule's operands, and of each form of a part.
use Rattle.std.proofs.Common.{◌≡◌, ℕ, zero, suc, ◌+◌, ◌-◌, ◌≤◌, ◌<◌, List, [], ◌∷◌, ◌++◌, length, map, drop, get_or, refl, sym, ap, ap₂, ◌∙◌, Option, arith}
use Rattle.std.specs.Prelude.{slice_get}
use Rattle.std.proofs.lemmas.List.{drop_all, take_rest}
use Rattle.cw_tree.specs.declared.leaf.Position.{Position}
use Rattle.cw_tree.specs.declared.leaf.RawName.{RawName}
use Rattle.cw_tree.specs.declared.leaf.RawType.{RawType}
use Rattle.cw_tree.specs.declared.expression.RawBits.{RawBits}
use Rattle.cw_tree.specs.declared.expression.RawExpr.TheVariants as expr
use Rattle.cw_tree.specs.declared.expression.RawPrimary.TheVariants as prime
use Rattle.cw_tree.specs.declared.expression.RawRef.TheVariants as ref
use Rattle.cw_tree.specs.declared.expression.RawExpr.{RawExpr}
use Rattle.cw_tree.specs.declared.expression.RawPrimary.{RawPrimary}
use Rattle.cw_tree.specs.declared.expression.RawRef.{RawRef}
use Rattle.cw_tree.specs.declared.expression.RawCmp.{RawCmp, out-RawCmp}
use Rattle.cw_tree.specs.declared.expression.RawCond.{RawCond}
use Rattle.cw_tree.specs.declared.expression.RawPrim.{RawPrim, out-RawPrim}
use Rattle.cw_tree.specs.declared.expression.RawSum.{RawSum}
use Rattle.cw_tree.proofs.Expressions.{ExpressionSteps, expression_steps, of_comparison-out, of_expression-Choice, of_expression-Sum, of_prim-out, of_primary-Bracket, of_primary-Call, of_primary-Forced, of_primary-Location, of_primary-Ref, of_reference-Bare, of_reference-One, of_reference-Two}
use Rattle.cw_scale.proofs.Turns.{behind_first, next_item}
use Rattle.cw_scale.specs.declared.fault.Fault.{Fault}
use Rattle.cw_judge.specs.declared.operators.Tally.{Tally}
use Rattle.cw_judge.specs.declared.operators.Tally.TheVariants as tally
use Rattle.cw_judge.specs.Operators.{Places, between, each, together, bits_at, one_counted, counted, first_if, others, tally_judged, too_many_if, few_operators, few_each}
use Rattle.cw_judge.specs.Operators.{expression_step, primary_step, reference_step, conjunction_step, comparison_step, condition_step, differ_step, mask_step, prim_step, sum_step, term_step, union_step}
use Rattle.cw_judge.specs.Operators.{expression_operators, primary_operators, reference_operators, comparison_operators, condition_operators, prim_operators, sum_operators}

abbrev pub steps : ExpressionSteps Places Places (List Places) Places Places Places Places Places Places Places Places Places
steps = expression_steps expression_step primary_step reference_step conjunction_step comparison_step condition_step differ_step mask_step prim_step sum_step term_step union_step

-- ---- one operator

pub one_less : (at : Position) (left : ℕ) → 1 ≤ left → tally.Left (left - 1) ≡ one_counted at (tally.Left left)
one_less at zero h = absurd (omega arith)
one_less at (suc left) h = ap tally.Left (omega arith)

pub none_next : (os : Places) (t : Tally) → length os < 1 → t ≡ counted (first_if os) t
none_next [] t h = refl
none_next (o ∷ os) t h = absurd (omega arith)

pub none_next_of : {A : Type 0} (place : A → Position) (os : List A) (t : Tally) → length os < 1 → t ≡ counted (first_if (map place os)) t
none_next_of place [] t h = refl
none_next_of place (o ∷ os) t h = absurd (omega arith)

pub one_next : (os : Places) (none : Position) (t0 t1 : Tally) → 1 ≤ length os → t1 ≡ one_counted (get_or os 0 none) t0 → t1 ≡ counted (first_if os) t0
one_next [] none t0 t1 h e = absurd (omega arith)
one_next (o ∷ os) none t0 t1 h e = e

pub one_next_of : {A : Type 0} (place : A → Position) (os : List A) (none : A) (t0 t1 : Tally) → 1 ≤ length os → t1 ≡ one_counted (place (get_or os 0 none)) t0
    → t1 ≡ counted (first_if (map place os)) t0
one_next_of place [] none t0 t1 h e = absurd (omega arith)
one_next_of place (o ∷ os) none t0 t1 h e = e

pub none_behind : {A : Type 0} (xs : List A) → length xs < 1 → xs ≡ others xs
none_behind [] h = refl
none_behind (x ∷ xs) h = absurd (omega arith)

pub some_behind : {A : Type 0} (xs : List A) → 1 ≤ length xs → behind_first xs ≡ others xs
some_behind [] h = absurd (omega arith)
some_behind (x ∷ xs) h = take_rest (x ∷ xs) 1

map_others : {A B : Type 0} (f : A → B) (xs : List A) → map f (others xs) ≡ others (map f xs)
map_others f [] = refl
map_others f (x ∷ xs) = refl

-- ---- parts one after another

counted_both : (xs ys : Places) (t : Tally) → counted (xs ++ ys) t ≡ counted ys (counted xs t)
counted_both [] ys t = refl
counted_both (x ∷ xs) ys t = counted_both xs ys (one_counted x t)

pub two_counted : (xs ys : Places) (t0 t1 t2 : Tally) → t1 ≡ counted xs t0 → t2 ≡ counted ys t1 → t2 ≡ counted (xs ++ ys) t0
two_counted xs ys t0 t1 t2 e1 e2 = e2 ∙ ap (counted ys) e1 ∙ sym (counted_both xs ys t0)

three_counted : (xs ys zs : Places) (t0 t1 t2 t3 : Tally) → t1 ≡ counted xs t0 → t2 ≡ counted ys t1 → t3 ≡ counted zs t2 → t3 ≡ counted (xs ++ (ys ++ zs)) t0
three_counted xs ys zs t0 t1 t2 t3 e1 e2 e3 = two_counted xs (ys ++ zs) t0 t1 t3 e1 (two_counted ys zs t1 t2 t3 e2 e3)

pub bits_more : (bits : List RawBits) (i : ℕ) (x : RawBits) (t0 t1 end : Tally) → i < length bits → x ≡ get_or bits i x → t1 ≡ one_counted x.at t0
    → counted (map bits_at (drop i bits)) t0 ≡ end → counted (map bits_at (drop (i + 1) bits)) t1 ≡ end
bits_more bits i x t0 t1 end h g e k =
    ap (counted (map bits_at (drop (i + 1) bits))) e ∙ ap (λ l. counted (map bits_at l) t0) (sym (next_item bits i x h g)) ∙ k

pub bits_done : (bits : List RawBits) (i : ℕ) (t end : Tally) → length bits ≤ i → counted (map bits_at (drop i bits)) t ≡ end → t ≡ end
bits_done bits i t end h k = ap (λ l. counted (map bits_at l) t) (sym (drop_all i bits h)) ∙ k

-- what is counted is the whole
pub as_whole : (whole part : Places) (t0 t1 : Tally) → whole ≡ part → t1 ≡ counted part t0 → t1 ≡ counted whole t0
as_whole whole part t0 t1 is e = e ∙ ap (λ l. counted l t0) (sym is)

-- ---- operands with an operator behind each but the last

between_next : (x : Places) (xs : List Places) (os : Places) → between (x ∷ xs) os ≡ x ++ (first_if os ++ between xs (others os))
between_next x xs [] = refl
between_next x xs (o ∷ os) = refl

module _ {A : Type 0} (f : A → Places) where
  pub operand_more : (xs : List A) (os os' : Places) (i : ℕ) (x : A) (t0 t1 t2 end : Tally) → i < length xs → x ≡ get_or xs i x → t1 ≡ counted (f x) t0
      → t2 ≡ counted (first_if os) t1 → os' ≡ others os
      → counted (between (map f (drop i xs)) os) t0 ≡ end → counted (between (map f (drop (i + 1) xs)) os') t2 ≡ end
  operand_more xs os os' i x t0 t1 t2 end h g e1 e2 eo k =
      let more = map f (drop (i + 1) xs) in
      ap (λ l. counted (between more l) t2) eo
      ∙ two_counted (f x) (first_if os ++ between more (others os)) t0 t1 _ e1 (two_counted (first_if os) (between more (others os)) t1 t2 _ e2 refl)
      ∙ ap (λ l. counted l t0) (sym (between_next (f x) more os))
      ∙ ap (λ l. counted (between (map f l) os) t0) (sym (next_item xs i x h g)) ∙ k

  -- the same where an operator is more than its place
  pub signed_operand_more : {O : Type 0} (place : O → Position) (xs : List A) (os os' : List O) (i : ℕ) (x : A) (t0 t1 t2 end : Tally) → i < length xs → x ≡ get_or xs i x
      → t1 ≡ counted (f x) t0
      → t2 ≡ counted (first_if (map place os)) t1 → os' ≡ others os → counted (between (map f (drop i xs)) (map place os)) t0 ≡ end
      → counted (between (map f (drop (i + 1) xs)) (map place os')) t2 ≡ end
  signed_operand_more place xs os os' i x t0 t1 t2 end h g e1 e2 eo k =
      operand_more xs (map place os) (map place os') i x t0 t1 t2 end h g e1 e2 (ap (map place) eo ∙ map_others place os) k

  pub operands_done : (whole : Places) (ops xs : List A) (operators os rest : Places) (i : ℕ) (t0 t : Tally) → whole ≡ between (map f ops) operators → xs ≡ ops → os ≡ operators
      → length xs ≤ i
      → counted (between (map f (drop i xs)) rest) t ≡ counted (between (map f xs) os) t0 → t ≡ counted whole t0
  operands_done whole ops xs operators os rest i t0 t is ex eo h k =
      ap (λ l. counted (between (map f l) rest) t) (sym (drop_all i xs h)) ∙ k
      ∙ ap₂ (λ l p. counted (between (map f l) p) t0) ex eo ∙ ap (λ l. counted l t0) (sym is)

  pub argument_more : (xs : List A) (i : ℕ) (x : A) (t0 t1 end : Tally) → i < length xs → x ≡ get_or xs i x → t1 ≡ counted (f x) t0
      → counted (each (map f (drop i xs))) t0 ≡ end → counted (each (map f (drop (i + 1) xs))) t1 ≡ end
  argument_more xs i x t0 t1 end h g e k =
      two_counted (f x) (each (map f (drop (i + 1) xs))) t0 t1 _ e refl ∙ ap (λ l. counted (each (map f l)) t0) (sym (next_item xs i x h g)) ∙ k

  pub arguments_done : (xs : List A) (i : ℕ) (t end : Tally) → length xs ≤ i → counted (each (map f (drop i xs))) t ≡ end → t ≡ end
  arguments_done xs i t end h k = ap (λ l. counted (each (map f l)) t) (sym (drop_all i xs h)) ∙ k

-- ---- each form of a part

pub choice_counted : (e : RawExpr) (at : Position) (test test' : RawCond) (a a' b b' : RawExpr) (t0 t1 t2 t3 : Tally) → e ≡ expr.Choice at test a b → test' ≡ test → a' ≡ a → b' ≡ b
    → t1 ≡ counted (condition_operators test') t0 → t2 ≡ counted (expression_operators a') t1 → t3 ≡ counted (expression_operators b') t2 → t3 ≡ counted (expression_operators e) t0
choice_counted e at test test' a a' b b' t0 t1 t2 t3 is ht ha hb e1 e2 e3 =
    three_counted (condition_operators test) (expression_operators a) (expression_operators b) t0 t1 t2 t3
    (e1 ∙ ap (λ x. counted (condition_operators x) t0) ht) (e2 ∙ ap (λ x. counted (expression_operators x) t1) ha) (e3 ∙ ap (λ x. counted (expression_operators x) t2) hb)
    ∙ ap (λ l. counted l t0) (sym (ap expression_operators is ∙ of_expression-Choice steps at test a b))

pub sum_counted : (e : RawExpr) (s s' : RawSum) (t0 t1 : Tally) → e ≡ expr.Sum s → s' ≡ s → t1 ≡ counted (sum_operators s') t0 → t1 ≡ counted (expression_operators e) t0
sum_counted e s s' t0 t1 is same = as_whole (expression_operators e) (sum_operators s') t0 t1 (ap expression_operators is ∙ of_expression-Sum steps s ∙ ap sum_operators (sym same))

pub comparison_counted : (c : RawCmp) (a b : RawSum) (t0 t1 t2 t3 : Tally) → a ≡ (out-RawCmp c).left → b ≡ (out-RawCmp c).right → t1 ≡ counted (sum_operators a) t0
    → t2 ≡ one_counted (out-RawCmp c).operator.at t1 → t3 ≡ counted (sum_operators b) t2 → t3 ≡ counted (comparison_operators c) t0
comparison_counted c a b t0 t1 t2 t3 ha hb e1 e2 e3 =
    three_counted (sum_operators a) ((out-RawCmp c).operator.at ∷ []) (sum_operators b) t0 t1 t2 t3 e1 e2 e3
    ∙ ap₂ (λ x y. counted (sum_operators x ++ ((out-RawCmp c).operator.at ∷ sum_operators y)) t0) ha hb
    ∙ ap (λ l. counted l t0) (sym (of_comparison-out steps c))

pub prim_counted : (e : RawPrim) (bits : List RawBits) (t0 t1 t2 : Tally) → bits ≡ (out-RawPrim e).bits → t1 ≡ counted (map bits_at bits) t0
    → t2 ≡ counted (primary_operators (out-RawPrim e).primary) t1 → t2 ≡ counted (prim_operators e) t0
prim_counted e bits t0 t1 t2 hb e1 e2 =
    two_counted (map bits_at bits) (primary_operators (out-RawPrim e).primary) t0 t1 t2 e1 e2
    ∙ ap (λ l. counted (map bits_at l ++ primary_operators (out-RawPrim e).primary) t0) hb ∙ ap (λ l. counted l t0) (sym (of_prim-out steps e))

pub location_counted : (e : RawPrimary) (at : Position) (r r' : RawRef) (t0 t1 : Tally) → e ≡ prime.Location at r → r' ≡ r → t1 ≡ counted (together (reference_operators r')) t0
    → t1 ≡ counted (primary_operators e) t0
location_counted e at r r' t0 t1 is same =
    as_whole (primary_operators e) (together (reference_operators r')) t0 t1 (ap primary_operators is ∙ of_primary-Location steps at r
    ∙ ap (λ x. together (reference_operators x)) (sym same))

pub forced_counted : (e : RawPrimary) (type : RawType) (x x' : RawExpr) (t0 t1 : Tally) → e ≡ prime.Forced type x → x' ≡ x → t1 ≡ counted (expression_operators x') t0
    → t1 ≡ counted (primary_operators e) t0
forced_counted e type x x' t0 t1 is same =
    as_whole (primary_operators e) (expression_operators x') t0 t1 (ap primary_operators is ∙ of_primary-Forced steps type x ∙ ap expression_operators (sym same))

pub bracket_counted : (e : RawPrimary) (at : Position) (x x' : RawExpr) (t0 t1 : Tally) → e ≡ prime.Bracket at x → x' ≡ x → t1 ≡ counted (expression_operators x') t0
    → t1 ≡ counted (primary_operators e) t0
bracket_counted e at x x' t0 t1 is same =
    as_whole (primary_operators e) (expression_operators x') t0 t1 (ap primary_operators is ∙ of_primary-Bracket steps at x ∙ ap expression_operators (sym same))

pub place_counted : (e : RawPrimary) (r : RawRef) (t0 t1 : Tally) → e ≡ prime.Ref r → t1 ≡ counted (together (reference_operators r)) t0 → t1 ≡ counted (primary_operators e) t0
place_counted e r t0 t1 is = as_whole (primary_operators e) (together (reference_operators r)) t0 t1 (ap primary_operators is ∙ of_primary-Ref steps r)

pub call_counted : (e : RawPrimary) (n : RawName) (es es' : List RawExpr) (t0 t1 : Tally) → e ≡ prime.Call n es → es' ≡ es → t1 ≡ counted (each (map expression_operators es')) t0
    → t1 ≡ counted (primary_operators e) t0
call_counted e n es es' t0 t1 is same =
    as_whole (primary_operators e) (each (map expression_operators es')) t0 t1 (ap primary_operators is ∙ of_primary-Call steps n es
    ∙ ap (λ l. each (map expression_operators l)) (sym same))

pub index_counted : (r : RawRef) (n : RawName) (x x' : RawExpr) (t0 t1 : Tally) → r ≡ ref.One n x → x' ≡ x → t1 ≡ counted (expression_operators x') t0
    → t1 ≡ counted (together (reference_operators r)) t0
index_counted r n x x' t0 t1 is same =
    as_whole (together (reference_operators r)) (expression_operators x') t0 t1 (ap (λ k. together (reference_operators k)) is ∙ ap together (of_reference-One steps n x)
    ∙ ap expression_operators (sym same))

pub indexes_counted : (r : RawRef) (n : RawName) (x x' y y' : RawExpr) (t0 t1 t2 : Tally) → r ≡ ref.Two n x y → x' ≡ x → y' ≡ y → t1 ≡ counted (expression_operators x') t0
    → t2 ≡ counted (expression_operators y') t1
    → t2 ≡ counted (together (reference_operators r)) t0
indexes_counted r n x x' y y' t0 t1 t2 is hx hy e1 e2 =
    two_counted (expression_operators x) (expression_operators y) t0 t1 t2 (e1 ∙ ap (λ k. counted (expression_operators k) t0) hx)
    (e2 ∙ ap (λ k. counted (expression_operators k) t1) hy)
    ∙ ap (λ l. counted (together l) t0) (sym (ap reference_operators is ∙ of_reference-Two steps n x y))

pub address_counted : (r : RawRef) (at : Position) (x x' : RawExpr) (t0 t1 : Tally) → r ≡ ref.Bare at x → x' ≡ x → t1 ≡ counted (expression_operators x') t0
    → t1 ≡ counted (together (reference_operators r)) t0
address_counted r at x x' t0 t1 is same =
    as_whole (together (reference_operators r)) (expression_operators x') t0 t1 (ap (λ k. together (reference_operators k)) is ∙ ap together (of_reference-Bare steps at x)
    ∙ ap expression_operators (sym same))

-- ---- how many there are

many_stay : (os : Places) (at : Position) (first : Option Fault) → tally_judged (counted os (tally.TooMany at)) first ≡ tally_judged (tally.TooMany at) first
many_stay [] at first = refl
many_stay (o ∷ os) at first = many_stay os at first

-- the first that is one too many stands behind as many as there may be
pub few_counted : (os : Places) (left : ℕ) (first : Option Fault) → tally_judged (counted os (tally.Left left)) first ≡ too_many_if (slice_get os left) first
few_counted [] left first = refl
few_counted (o ∷ os) zero first = many_stay os o first
few_counted (o ∷ os) (suc left) first = few_counted os left first

-- ---- those of each index of a reference

pub index_few : (r : RawRef) (n : RawName) (x x' : RawExpr) (o0 o1 : Option Fault) → r ≡ ref.One n x → x' ≡ x → o1 ≡ few_operators (expression_operators x') o0
    → o1 ≡ few_each (reference_operators r) o0
index_few r n x x' o0 o1 is same e = e ∙ ap (λ l. few_each l o0) (sym (ap reference_operators (is ∙ ap (ref.One n) (sym same)) ∙ of_reference-One steps n x'))

pub indexes_few : (r : RawRef) (n : RawName) (x x' y y' : RawExpr) (o0 o1 o2 : Option Fault) → r ≡ ref.Two n x y → x' ≡ x → y' ≡ y → o1 ≡ few_operators (expression_operators x') o0
    → o2 ≡ few_operators (expression_operators y') o1 → o2 ≡ few_each (reference_operators r) o0
indexes_few r n x x' y y' o0 o1 o2 is hx hy e1 e2 =
    e2 ∙ ap (few_operators (expression_operators y')) e1 ∙ ap (λ l. few_each l o0) (sym (ap reference_operators (is ∙ ap₂ (ref.Two n) (sym hx) (sym hy))
    ∙ of_reference-Two steps n x' y'))

pub address_few : (r : RawRef) (at : Position) (x x' : RawExpr) (o0 o1 : Option Fault) → r ≡ ref.Bare at x → x' ≡ x → o1 ≡ few_operators (expression_operators x') o0
    → o1 ≡ few_each (reference_operators r) o0
address_few r at x x' o0 o1 is same e = e ∙ ap (λ l. few_each l o0) (sym (ap reference_operators (is ∙ ap (ref.Bare at) (sym same)) ∙ of_reference-Bare steps at x'))
