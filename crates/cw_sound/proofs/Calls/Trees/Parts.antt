-- What is known of the parts of a text's expressions: of their judgement, and of the calls in the trees that are made of them.
use Rattle.std.proofs.Common.{◌≡◌, ℕ, List, [], ◌∷◌, ◌++◌, map, Bool, IsTrue, true, false, Option, Some, None}
use Rattle.std.specs.List.{AllByRecursion}
use Rattle.cw_tree.specs.declared.leaf.RawName.{RawName}
use Rattle.cw_tree.specs.declared.leaf.RawType.{RawType}
use Rattle.cw_tree.specs.declared.segment.RawIps.{RawIps}
use Rattle.cw_tree.specs.declared.segment.RawIps.TheVariants as inner
use Rattle.cw_tree.specs.declared.segment.RawPs.{RawPs}
use Rattle.cw_tree.specs.declared.segment.RawPs.TheVariants as ps
use Rattle.cw_facts.specs.declared.fact.Fact.{Fact}
use Rattle.cw_facts.specs.declared.fact.Form.{Form}
use Rattle.cw_facts.specs.declared.fact.Form.TheVariants as form
use Rattle.cw_facts.specs.declared.fact.Reading.{Reading}
use Rattle.cw_facts.specs.Uses.{Uses, uses_of}
use Rattle.cw_scope.specs.declared.resolve.Named.{Named}
use Rattle.cw_scale.specs.Arguments.{kind_fits_if, takes_procedure}
use Rattle.cw_scale.specs.Kinds.{kind_of, signature_of}
use Rattle.cw_scale.specs.TypeRules.{Judged}
use Rattle.cw_make_expr.specs.Parts.{Numbers, number_of, is_called, params_of, handed}
use Rattle.cw_make_expr.specs.Made.{Made, Placed, target}
use Rattle.cw_make_items.specs.Types.{plain_spec}
use Rattle.cw_unit.specs.declared.descriptor.Spec.{Spec}
use Rattle.cw_unit.specs.declared.unit.Cond.{Cond}
use Rattle.cw_deepest.specs.Programs.Calls.{Passed, Argument, Call, Calls, passed_by, of_argument, in_expression, in_condition, in_reference}
use Rattle.cw_sound.proofs.Expressions.Judging.{Keeps, NoFault}

-- ---- what parameters take that is no word

abbrev pub plain_wanted : RawIps → List (Option Spec)
plain_wanted (inner.Label at) = None ∷ []
plain_wanted (inner.Switch at) = None ∷ []
plain_wanted _ = []

abbrev pub one_wanted : RawPs → List (Option Spec)
one_wanted (ps.Plain p) = plain_wanted p
one_wanted (ps.Proc answer at params) = Some (plain_spec answer params) ∷ []

abbrev pub wanted : List RawPs → List (Option Spec)
wanted [] = []
wanted (p ∷ more) = one_wanted p ++ wanted more

-- a name is used for a call
abbrev pub is_call_form : Form → Bool
is_call_form form.CallValue = true
is_call_form form.Call = true
is_call_form _ = false

-- ---- a body: which calls fit in it, what the names are that are used in it, and what they pass

pub record Context (named : Named) (numbers : Numbers) : Type 1 where
  pub Fit : Call → Type 0
  pub spec : Passed → Option Spec
  pub Stood : List Fact → Type 0
  pub Known : RawName → Type 0
  pub split : (fs gs : List Fact) → Stood (fs ++ gs) → Stood fs × Stood gs
  pub known : (n : RawName) (f : Form) → Stood (uses_of n f) → Known n
  pub callable : (n : RawName) (f : Form) → IsTrue (is_call_form f) → Stood (uses_of n f) → IsTrue (is_called (kind_of named n))
  pub plain : (n : RawName) (p : RawIps) → Known n → IsTrue (kind_fits_if p (kind_of named n)) → (map spec (of_argument (handed (kind_of named n) (number_of named numbers n))).passed ≡ plain_wanted p) × ((of_argument (handed (kind_of named n) (number_of named numbers n))).calls ≡ [])
  pub procedure : (n : RawName) (answer : Option RawType) (params : List RawIps) → Known n → IsTrue (takes_procedure named answer params (Some n)) → (map spec (of_argument (handed (kind_of named n) (number_of named numbers n))).passed ≡ Some (plain_spec answer params) ∷ []) × ((of_argument (handed (kind_of named n) (number_of named numbers n))).calls ≡ [])
  pub called : (n : RawName) (args : List Argument) → Known n → IsTrue (is_called (kind_of named n)) → map spec (passed_by args) ≡ wanted (params_of (signature_of named n)) → Fit (record { target = target named numbers n; passed = passed_by args })

-- the value of a reference
abbrev pub made_of : Placed → Made
made_of p = record { made = λ operand. p.value; handed = p.handed }

module _ (named : Named) (numbers : Numbers) (body : Context named numbers) where
  abbrev pub AllFit : Calls → Type 0
  AllFit = AllByRecursion body.Fit

  -- what is judged, and what is made: its calls fit where it has no fault at a scale, and a name by itself is handed on
  pub record Sound (j : Judged) (m : Made) : Type 0 where
    pub keeps : (f : ℕ) → Keeps (j.faults f)
    pub fits : (f : ℕ) → NoFault (j.faults f) → (operand : Bool) → AllFit (in_expression (m.made operand))
    pub bare : (n : RawName) → j.shape.bare ≡ Some n → body.Known n × (m.handed ≡ handed (kind_of named n) (number_of named numbers n))

  pub record Tested (j : Judged) (c : Cond) : Type 0 where
    pub keeps : (f : ℕ) → Keeps (j.faults f)
    pub fits : (f : ℕ) → NoFault (j.faults f) → AllFit (in_condition c)

  pub record Located (j : Judged) (p : Placed) : Type 0 where
    pub sound : Sound j (made_of p)
    pub place : (f : ℕ) → NoFault (j.faults f) → AllFit (in_reference p.place)

  abbrev pub Right : Judged → Made → Uses → Type 0
  Right j m uses = (r : Reading) → body.Stood (uses r) → Sound j m

  abbrev pub RightTest : Judged → Cond → Uses → Type 0
  RightTest j c uses = (r : Reading) → body.Stood (uses r) → Tested j c

  abbrev pub RightPlace : Judged → Placed → Uses → Type 0
  RightPlace j p uses = (r : Reading) → body.Stood (uses r) → Located j p

  -- ---- several, one by one

  pub data Rights : List Judged → List Made → List Uses → Type 0 where
    none : Rights [] [] []
    more : {j : Judged} {m : Made} {x : Uses} {js : List Judged} {ms : List Made} {xs : List Uses} → Right j m x → Rights js ms xs → Rights (j ∷ js) (m ∷ ms) (x ∷ xs)

  pub data RightTests : List Judged → List Cond → List Uses → Type 0 where
    no_test : RightTests [] [] []
    more_tests : {j : Judged} {c : Cond} {x : Uses} {js : List Judged} {cs : List Cond} {xs : List Uses} → RightTest j c x → RightTests js cs xs → RightTests (j ∷ js) (c ∷ cs) (x ∷ xs)

  pub data Sounds : List Judged → List Made → Type 0 where
    no_sound : Sounds [] []
    more_sounds : {j : Judged} {m : Made} {js : List Judged} {ms : List Made} → Sound j m → Sounds js ms → Sounds (j ∷ js) (m ∷ ms)

  pub data Tests : List Judged → List Cond → Type 0 where
    no_tests : Tests [] []
    more_tested : {j : Judged} {c : Cond} {js : List Judged} {cs : List Cond} → Tested j c → Tests js cs → Tests (j ∷ js) (c ∷ cs)
