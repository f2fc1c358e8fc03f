-- What is known of the parts of a text's expressions: of their judgement, and of the trees that are made of them.
use Rattle.std.proofs.Common.{◌≡◌, ℕ, ◌≤◌, List, [], ◌∷◌, Bool, true, false, IsTrue, Option}
use Rattle.cw_tree.specs.declared.leaf.RawName.{RawName}
use Rattle.cw_tree.specs.declared.segment.RawPs.{RawPs}
use Rattle.cw_facts.specs.declared.fact.Reading.{Reading}
use Rattle.cw_facts.specs.declared.fact.Reading.TheVariants as reading
use Rattle.cw_facts.specs.Uses.{Uses}
use Rattle.cw_scope.specs.declared.resolve.Named.{Named}
use Rattle.cw_scale.specs.Arguments.{takes_value}
use Rattle.cw_scale.specs.TypeRules.{Judged}
use Rattle.cw_make_expr.specs.Parts.{Numbers}
use Rattle.cw_make_expr.specs.Nodes.{read}
use Rattle.cw_make_expr.specs.Made.{Made, Placed}
use Rattle.cw_unit.specs.declared.unit.Unit.{Unit as SourceUnit}
use Rattle.cw_unit.specs.declared.unit.Arg.{Arg}
use Rattle.cw_unit.specs.declared.unit.Expr.{Expr}
use Rattle.cw_unit.specs.declared.unit.Cond.{Cond}
use Rattle.cw_unit.specs.declared.unit.Ref.{Ref}
use Rattle.cw_gen_expr.specs.BuiltExpressions.{most_levels}
use Rattle.cw_sound.specs.Uses.Stands.{FactsStand}
use Rattle.cw_sound.specs.Expressions.Readings.{is_placed}
use Rattle.cw_sound.proofs.Expressions.Judging.{Keeps, NoFault}
use Rattle.cw_sound.proofs.Expressions.Lists.{Each, All, Standing}

-- ---- trees

-- a sense in which a unit's trees are right: that they are built and well formed, or that their numbers are in range
pub record Sense : Type 1 where
  -- the scale of an expression by itself, and as an operand
  pub natural : Expr → ℕ
  pub operand : Expr → ℕ
  -- right at a scale, with so many levels at most
  pub At : (levels scale : ℕ) → Expr → Type 0
  pub Test : Cond → Type 0
  pub scale : Ref → ℕ
  pub Place : Ref → Type 0
  -- what is handed on where a whole argument is a name, or none
  pub Handed : Named → Numbers → Reading → Option RawName → Arg → Type 0
  -- an argument for a parameter
  pub Given : RawPs → Arg → Type 0

-- of a whole argument the value is asked where it may have one
abbrev pub AsValue : Named → Reading → Option RawName → Type 0
AsValue named reading.Argument b = IsTrue (takes_value named b)
AsValue named reading.Value b = Unit {0}
AsValue named reading.Target b = Unit {0}
AsValue named reading.Whole b = Unit {0}

-- the value of a reference
abbrev pub made_of : Placed → Made
made_of p = record { made = λ operand. p.value; handed = p.handed }

module _ (sense : Sense) where
  -- an operand of `*`, `/`, word logic or BITS, which is evaluated at its scale as an operand
  pub record Ready (e : Expr) : Type 0 where
    pub small : sense.operand e ≤ 15
    pub at : sense.At most_levels (sense.operand e) e

  -- what such an operator gives, at a scale
  pub record Result (n f : ℕ) (e : Expr) : Type 0 where
    pub natural : sense.natural e ≡ n
    pub operand : sense.operand e ≡ n
    pub at : sense.At 0 f e

  -- a term of a sum at a scale, with so many levels at most
  pub record Addend (f n l : ℕ) (e : Expr) : Type 0 where
    pub natural : sense.natural e ≡ n
    pub at : sense.At l f e

  -- the whole part of a number, where it is an operand
  pub record WholePart (e w : Expr) : Type 0 where
    pub natural : sense.natural w ≡ sense.natural e
    pub operand : sense.operand w ≡ sense.natural e
    pub at : sense.At most_levels (sense.natural e) e → sense.At most_levels (sense.natural e) w

  -- ---- what is judged, and what is made, where it has no fault at a scale

  pub record Good (j : Judged) (m : Made) (l f : ℕ) : Type 0 where
    pub natural : (operand : Bool) → sense.natural (m.made operand) ≡ j.shape.natural
    pub operand : sense.operand (m.made true) ≡ j.shape.operand
    pub at : sense.At l f (m.made false)
    pub as_operand : f ≡ j.shape.operand → sense.At most_levels f (m.made true)

  -- an expression that has a value, with so many levels at most; where it is a reference of a whole word, it reads one
  pub record Valued (j : Judged) (m : Made) (l : ℕ) : Type 0 where
    pub keeps : (f : ℕ) → Keeps (j.faults f)
    pub natural_small : j.shape.natural ≤ 15
    pub operand_small : j.shape.operand ≤ 15
    pub place : IsTrue j.shape.whole → (r : Ref) × (m.made false ≡ read r)
    pub good : (f : ℕ) → f ≤ 15 → l ≤ most_levels → NoFault (j.faults f) → Good j m l f

  pub record Tested (j : Judged) (c : Cond) (l : ℕ) : Type 0 where
    pub keeps : (f : ℕ) → Keeps (j.faults f)
    pub good : (f : ℕ) → l ≤ most_levels → NoFault (j.faults f) → sense.Test c

  pub record Located (j : Judged) (r : Ref) (l : ℕ) : Type 0 where
    pub keeps : (f : ℕ) → Keeps (j.faults f)
    pub good : (f : ℕ) → l ≤ most_levels → NoFault (j.faults f) → sense.Place r

  abbrev pub Values : List Judged → List Made → List ℕ → Type 0
  Values = All Made Valued

  -- arguments, each for its parameter
  pub data EachGiven : List RawPs → List Arg → Type 0 where
    none_given : EachGiven [] []
    more_given : {p : RawPs} {a : Arg} {params : List RawPs} {args : List Arg} → sense.Given p a → EachGiven params args → EachGiven (p ∷ params) (a ∷ args)

-- ---- parts of a text, where the names stand for right things

module _ (named : Named) (numbers : Numbers) (u : SourceUnit) (who : Option ℕ) (sense : Sense) where
  pub record Sound (r : Reading) (j : Judged) (m : Made) (l : ℕ) : Type 0 where
    pub handed_on : sense.Handed named numbers r j.shape.bare m.handed
    pub whole_value : IsTrue j.shape.whole → IsTrue (takes_value named j.shape.bare)
    pub valued : AsValue named r j.shape.bare → Valued sense j m l

  abbrev pub Right : Judged → Made → Uses → (levels : ℕ) → Type 0
  Right = Standing named numbers u who Made Sound

  abbrev pub RightTest : Judged → Cond → Uses → (levels : ℕ) → Type 0
  RightTest = Standing named numbers u who Cond (λ r. Tested sense)

  pub record RightPlace (j : Judged) (p : Placed) (uses : Uses) (l : ℕ) : Type 0 where
    pub scale : sense.scale p.place ≡ j.shape.natural
    pub sound : Right j (made_of p) uses l
    pub located : (r : Reading) → IsTrue (is_placed r) → FactsStand named numbers u (uses r) who → Located sense j p.place l

  -- ---- several, one by one

  abbrev pub Rights : List Judged → List Made → List Uses → List ℕ → Type 0
  Rights = Each Made Right

  abbrev pub RightTests : List Judged → List Cond → List Uses → List ℕ → Type 0
  RightTests = Each Cond RightTest

  abbrev pub Sounds : Reading → List Judged → List Made → List ℕ → Type 0
  Sounds r = All Made (Sound r)
