-- Operands of one rule are grouped to the left, with one token for each operator.
use Rattle.std.proofs.Common.{◌≡◌, ℕ, suc, ◌+◌, ◌*◌, ◌≤◌, Bool, true, false, List, [], ◌∷◌, length, ◌==◌, Option, Some, None, refl, ap, if◌then◌else◌, arith}
use Rattle.cw_tree.specs.declared.leaf.RawSign.{RawSign}
use Rattle.cw_tree.specs.declared.leaf.RawFactorSign.{RawFactorSign}
use Rattle.cw_tree.specs.declared.expression.RawBits.{RawBits}
use Rattle.cw_amount.specs.Amounts.{place_amount, is_negative}
use Rattle.cw_make_expr.specs.Parts.{within}
use Rattle.cw_make_expr.specs.Nodes.{bits, logic, minus, added, multiplied, both, either}
use Rattle.cw_make_expr.specs.Made.{Made, operand_for, handed_if, logic_from, logic_of, factors_from, term_of, terms_from, signed_term, is_alone, sum_from, sum_of, bits_around, prim_of, all_from, all_of, any_from, any_of}
use Rattle.cw_unit.specs.declared.unit.LogicOp.{LogicOp}
use Rattle.cw_unit.specs.declared.unit.Cond.{Cond}
use Rattle.cw_unit.specs.declared.unit.Expr.{Expr}
use Rattle.cw_unit.specs.declared.unit.Arg.TheOpen as layer
use Rattle.cw_tokens.specs.LeastTokens.{separated, condition_tokens, expression_tokens}
use Rattle.cw_tokens.specs.TreeTokens.{between, sign}
use Rattle.cw_sound.proofs.Expressions.Chains.{Chain, factor_joined, term_joined, factors, terms}
use Rattle.cw_sound.proofs.Tokens.Nodes.{expression_rolled, condition_rolled, added_tokens, multiplied_tokens, whole_part_if_least}
use Rattle.cw_sound.proofs.Tokens.Parts.{Sized, Sizes, none, more, SizedTests, no_test, more_tests, handed_if_least}

-- ---- what is made of operands, the first of which is made first

from_sized : (from : Expr → Expr) {x : Made} {n : ℕ} (xs : List Made) (ns : List ℕ) → ((e : Expr) → expression_tokens (from e) ≤ expression_tokens e + separated ns) → Sized x n
    → Sized (record { made = λ operand. from (x.made (operand_for (length xs == 0) operand)); handed = handed_if (length xs == 0) x.handed }) (between (n ∷ ns))
from_sized from {x = x} {n = n} xs ns least h =
    let s = h.some in
    let t = h.handed in
    record {
      some = omega (arith, s);
      made = λ operand.
          let a = least (x.made (operand_for (length xs == 0) operand)) in
          let b = h.made (operand_for (length xs == 0) operand) in
          omega (arith, a, b);
      handed = handed_if_least (length xs == 0) x.handed (n + separated ns) (omega (arith, s)) (omega (arith, t));
    }

-- ---- word logic

logic_from_least : (op : LogicOp) (e : Expr) {xs : List Made} {ns : List ℕ} → Sizes xs ns → expression_tokens (logic_from op e xs) ≤ expression_tokens e + separated ns
logic_from_least op e none = omega arith
logic_from_least op e (more {m = x} {n = n} {ms = xs} {ns = ns} h k) =
    let a = logic_from_least op (logic op e (x.made true)) k in
    let b : expression_tokens (logic op e (x.made true)) ≡ suc (expression_tokens e + expression_tokens (x.made true)) = expression_rolled (layer.Logic op e (x.made true)) in
    let c = h.made true in
    omega (arith, a, b, c)

pub logic_sized : (op : LogicOp) {x : Made} {n : ℕ} {xs : List Made} {ns : List ℕ} → Sized x n → Sizes xs ns → Sized (logic_of op (x ∷ xs)) (between (n ∷ ns))
logic_sized op {xs = xs} {ns = ns} h k = from_sized (λ e. logic_from op e xs) xs ns (λ e. logic_from_least op e k) h

-- ---- a chain of operands and operators

chain_least : {S : Type 0} {from : Expr → List Made → List S → Expr} {joined : S → Expr → Made → Expr} → Chain from joined
    → ((s : S) (e : Expr) (x : Made) (n : ℕ) → Sized x n → expression_tokens (joined s e x) ≤ suc (expression_tokens e + n))
    → (e : Expr) {xs : List Made} {ns : List ℕ} (signs : List S) → Sizes xs ns → expression_tokens (from e xs signs) ≤ expression_tokens e + separated ns
chain_least c least e signs none = let a = ap expression_tokens (c.no_operand e signs) in omega (arith, a)
chain_least c least e [] (more {m = x} {ms = xs} h k) = let a = ap expression_tokens (c.no_operator e x xs) in omega (arith, a)
chain_least {joined = joined} c least e (s ∷ signs) (more {m = x} {n = n} {ms = xs} h k) =
    let a = ap expression_tokens (c.one_more e x xs s signs) in
    let b = chain_least c least (joined s e x) signs k in
    let d = least s e x n h in
    omega (arith, a, b, d)

-- ---- factors

factor_least : (s : RawFactorSign) (e : Expr) (x : Made) (n : ℕ) → Sized x n → expression_tokens (factor_joined s e x) ≤ suc (expression_tokens e + n)
factor_least s e x n h = let a = multiplied_tokens s.op e (x.made true) in let b = h.made true in omega (arith, a, b)

pub term_sized : (signs : List RawFactorSign) {x : Made} {n : ℕ} {xs : List Made} {ns : List ℕ} → Sized x n → Sizes xs ns → Sized (term_of (x ∷ xs) signs) (between (n ∷ ns))
term_sized signs {xs = xs} {ns = ns} h k = from_sized (λ e. factors_from e xs signs) xs ns (λ e. chain_least factors factor_least e signs k) h

-- ---- terms, the first with its sign

term_least : (s : RawSign) (e : Expr) (x : Made) (n : ℕ) → Sized x n → expression_tokens (term_joined s e x) ≤ suc (expression_tokens e + n)
term_least s e x n h = let a = added_tokens s.op e (x.made false) in let b = h.made false in omega (arith, a, b)

minus_if_least : (b : Bool) (e : Expr) → expression_tokens (if b then minus e else e) ≤ suc (expression_tokens e)
minus_if_least true e = let a : expression_tokens (minus e) ≡ suc (expression_tokens e) = expression_rolled (layer.Minus e) in omega (arith, a)
minus_if_least false e = omega arith

signed_term_least : (o : Option RawSign) (e : Expr) → expression_tokens (signed_term o e) ≤ sign o + expression_tokens e
signed_term_least None e = omega arith
signed_term_least (Some s) e = let a = minus_if_least (is_negative (Some s)) e in omega (arith, a)

sum_from_least : (alone operand : Bool) (o : Option RawSign) (signs : List RawSign) {x : Made} {n : ℕ} {xs : List Made} {ns : List ℕ} → Sized x n → Sizes xs ns → expression_tokens (sum_from alone operand o x xs signs) ≤ sign o + (n + separated ns)
sum_from_least true operand o signs h k = let a = h.made operand in omega (arith, a)
sum_from_least false operand o signs {x = x} {xs = xs} h k =
    let a = whole_part_if_least operand (terms_from (signed_term o (x.made false)) xs signs) in
    let b = chain_least terms term_least (signed_term o (x.made false)) signs k in
    let c = signed_term_least o (x.made false) in
    let d = h.made false in
    omega (arith, a, b, c, d)

pub sum_sized : (o : Option RawSign) (signs : List RawSign) {x : Made} {n : ℕ} {xs : List Made} {ns : List ℕ} → Sized x n → Sizes xs ns → Sized (sum_of o (x ∷ xs) signs) (sign o + between (n ∷ ns))
sum_sized o signs {x = x} {n = n} {xs = xs} {ns = ns} h k =
    let s = h.some in
    let t = h.handed in
    record {
      some = omega (arith, s);
      made = λ operand. sum_from_least (is_alone o (length xs)) operand o signs h k;
      handed = handed_if_least (is_alone o (length xs)) x.handed (sign o + (n + separated ns)) (omega (arith, s)) (omega (arith, t));
    }

-- ---- BITS

bits_around_least : (bs : List RawBits) (e : Expr) → expression_tokens (bits_around bs e) ≤ 6 * length bs + expression_tokens e
bits_around_least [] e = omega arith
bits_around_least (b ∷ bs) e =
    let a = bits_around_least bs e in
    let t : ℕ = within 255 (place_amount b.size.first) in
    let u : ℕ = within 255 (place_amount b.size.second) in
    let c : expression_tokens (bits t u (bits_around bs e)) ≡ 6 + expression_tokens (bits_around bs e) = expression_rolled (layer.Bits t u (bits_around bs e)) in
    omega (arith, a, c)

pub prim_sized : (bs : List RawBits) {x : Made} {n : ℕ} → Sized x n → Sized (prim_of bs x) (6 * length bs + n)
prim_sized bs {x = x} {n = n} h =
    let s = h.some in
    let t = h.handed in
    record {
      some = omega (arith, s);
      made = λ operand.
          let a = bits_around_least bs (x.made (operand_for (length bs == 0) operand)) in
          let b = h.made (operand_for (length bs == 0) operand) in
          omega (arith, a, b);
      handed = handed_if_least (length bs == 0) x.handed (6 * length bs + n) (omega (arith, s)) (omega (arith, t));
    }

-- ---- conditions

joined_least : (join : Cond → Cond → Cond) (from : Cond → List Cond → Cond) → ((c d : Cond) → condition_tokens (join c d) ≡ suc (condition_tokens c + condition_tokens d)) → ((c : Cond) → from c [] ≡ c)
    → ((c d : Cond) (ds : List Cond) → from c (d ∷ ds) ≡ from (join c d) ds) → (c : Cond) {cs : List Cond} {ns : List ℕ} → SizedTests cs ns → condition_tokens (from c cs) ≤ condition_tokens c + separated ns
joined_least join from joins alone next c no_test = omega (arith, ap condition_tokens (alone c))
joined_least join from joins alone next c (more_tests {c = d} {cs = ds} h k) =
    let a = joined_least join from joins alone next (join c d) k in
    omega (arith, ap condition_tokens (next c d ds), a, joins c d, h)

pub all_sized : (c : Cond) {n : ℕ} {cs : List Cond} {ns : List ℕ} → condition_tokens c ≤ n → SizedTests cs ns → condition_tokens (all_of (c ∷ cs)) ≤ between (n ∷ ns)
all_sized c h k = let a = joined_least both all_from (λ c d. condition_rolled (layer.And c d)) (λ c. refl) (λ c d ds. refl) c k in omega (arith, a, h)

pub any_sized : (c : Cond) {n : ℕ} {cs : List Cond} {ns : List ℕ} → condition_tokens c ≤ n → SizedTests cs ns → condition_tokens (any_of (c ∷ cs)) ≤ between (n ∷ ns)
any_sized c h k = let a = joined_least either any_from (λ c d. condition_rolled (layer.Or c d)) (λ c. refl) (λ c d ds. refl) c k in omega (arith, a, h)
