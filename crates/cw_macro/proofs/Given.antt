-- What holds of each token left holds of those of the arguments of a call, and of those behind it.
use Rattle.std.proofs.Common.{ℕ, zero, suc, List, [], ◌∷◌, Some, None}
use Rattle.cw_macro.specs.declared.arguments.Bracket.{Bracket}
use Rattle.cw_macro.specs.declared.arguments.Role.{Role}
use Rattle.cw_macro.specs.declared.arguments.Role.TheVariants.{Inside, Separates, Ends, Mismatched}
use Rattle.cw_macro.specs.Expansion.{Leveled, Parameter, role_of, innermost, open_behind, GivenArguments, given, arguments, tokens_of}
use Rattle.cw_macro.specs.Premises.{Each}

module _ (P : Leveled → Type 0) where
  abbrev pub GivenEach : GivenArguments → Type 0
  GivenEach None = Unit {0}
  GivenEach (Some (first, more, rest)) = Each P first × (Each (Each P) more × Each P rest)

  given_each : (r : Role) (t : Leveled) (rest : List Leveled) (o : GivenArguments) → P t → Each P rest → GivenEach o → GivenEach (given r t rest o)
  given_each Inside t rest None h k l = tt
  given_each Inside t rest (Some (first, more, behind)) h k l = ((h, l.0), l.1)
  given_each Separates t rest None h k l = tt
  given_each Separates t rest (Some (first, more, behind)) h k l = (tt, ((l.0, l.1.0), l.1.1))
  given_each Ends t rest o h k l = (tt, (tt, k))
  given_each Mismatched t rest o h k l = tt

  each_behind : (bs : List Bracket) (ts : List Leveled) → Each P ts → GivenEach (arguments bs ts)
  each_behind bs [] h = tt
  each_behind bs (t ∷ rest) h =
      given_each (role_of (innermost bs) t.lexeme.kind) t rest (arguments (open_behind t.lexeme.kind bs) rest) h.0 h.1 (each_behind (open_behind t.lexeme.kind bs) rest h.1)

  pub arguments_each : (ts : List Leveled) → Each P ts → GivenEach (arguments [] ts)
  arguments_each ts h = each_behind [] ts h

module _ (P Q : Leveled → Type 0) (weaker : (t : Leveled) → P t → Q t) where
  each_weaker : (ts : List Leveled) → Each P ts → Each Q ts
  each_weaker [] h = tt
  each_weaker (t ∷ ts) h = (weaker t h.0, each_weaker ts h.1)

  -- what stands for a parameter
  pub argument_each : (args : List (List Leveled)) (k : ℕ) → Each (Each P) args → Each Q (tokens_of args (Parameter k))
  argument_each [] k h = tt
  argument_each (a ∷ args) zero h = each_weaker a h.0
  argument_each (a ∷ args) (suc k) h = argument_each args k h.1
