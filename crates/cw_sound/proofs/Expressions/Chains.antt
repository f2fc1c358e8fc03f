-- What is made of operands and the operators between them, from the left.
use Rattle.std.proofs.Common.{◌≡◌, List, [], ◌∷◌, true, false, refl}
use Rattle.cw_tree.specs.declared.leaf.RawSign.{RawSign}
use Rattle.cw_tree.specs.declared.leaf.RawFactorSign.{RawFactorSign}
use Rattle.cw_make_expr.specs.Nodes.{added, multiplied}
use Rattle.cw_make_expr.specs.Made.{Made, factors_from, terms_from}
use Rattle.cw_unit.specs.declared.unit.Expr.{Expr}

-- each operand joins what is made of those before it, as long as there are operators
pub record Chain {S : Type 0} (from : Expr → List Made → List S → Expr) (joined : S → Expr → Made → Expr) : Type 0 where
  pub no_operand : (e : Expr) (signs : List S) → from e [] signs ≡ e
  pub no_operator : (e : Expr) (x : Made) (xs : List Made) → from e (x ∷ xs) [] ≡ e
  pub one_more : (e : Expr) (x : Made) (xs : List Made) (s : S) (signs : List S) → from e (x ∷ xs) (s ∷ signs) ≡ from (joined s e x) xs signs

abbrev pub factor_joined : RawFactorSign → Expr → Made → Expr
factor_joined s e x = multiplied s.op e (x.made true)

abbrev pub term_joined : RawSign → Expr → Made → Expr
term_joined s e x = added s.op e (x.made false)

pub factors : Chain factors_from factor_joined
factors = record { no_operand = λ e signs. refl; no_operator = λ e x xs. refl; one_more = λ e x xs s signs. refl }

pub terms : Chain terms_from term_joined
terms = record { no_operand = λ e signs. refl; no_operator = λ e x xs. refl; one_more = λ e x xs s signs. refl }
