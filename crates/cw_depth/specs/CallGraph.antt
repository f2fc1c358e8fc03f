-- Which procedures the bodies of a program lead to. A call of a procedure, of the segment's own or of COMMON, leads to it. A call of a procedure
-- parameter leads to each procedure that stands as an argument anywhere in the program and has the parameter's specification. Segments and
-- procedures count from 0.
use Rattle.std.specs.Prelude.{◌≡◌, ◌⊎◌, ℕ, ◌<◌, nat_eq, if◌then◌else◌, List, [], ◌∷◌, length, Option, Some, None, slice_get}
use Rattle.cw_unit.specs.declared.unit.Unit.{Unit as SourceUnit}
use Rattle.cw_unit.specs.declared.unit.Proc.{Proc}
use Rattle.cw_unit.specs.declared.unit.Param.{Param}
use Rattle.cw_unit.specs.declared.unit.Param.TheVariants as param
use Rattle.cw_unit.specs.declared.descriptor.Spec.{Spec}
use Rattle.cw_unit.specs.Program.{name_of, definition_from}
use Rattle.cw_unit.specs.Step.{procedure_of_def}
use Rattle.cw_unit.specs.Configuration.{procedure_in}
pub use Rattle.cw_keyed.specs.Spelling.{taken_by, spec_of}
use Rattle.cw_depth.specs.declared.node.Node.{Node}
use Rattle.cw_depth.specs.declared.node.Node.TheVariants.{Body, Procedure}
use Rattle.cw_depth.specs.declared.mention.Mention.{Mention}
use Rattle.cw_depth.specs.declared.mention.Mention.TheVariants as mention
use Rattle.cw_depth.specs.Gathered as gathered
use Rattle.cw_depth.specs.Mentions.{Mentions, argument_step, of_call}

abbrev pub segment_of : Node → ℕ
segment_of (Body g) = g
segment_of (Procedure g q) = g

-- bodies in order of the segments, then procedures in order of the segments and of their numbers
abbrev pub Before : Node → Node → Type 0
Before (Body g) (Body h) = g < h
Before (Body g) (Procedure h r) = Unit {0}
Before (Procedure g q) (Body h) = ⊥
Before (Procedure g q) (Procedure h r) = (g < h) ⊎ ((g ≡ h) × (q < r))

-- ---- specifications

-- the specification of the procedure parameter of this number among the control parameters
abbrev pub spec_in : (control : ℕ) → List Param → Option Spec
spec_in k [] = None
spec_in k (param.Proc j s ∷ params) = if nat_eq j k then Some s else spec_in k params
spec_in k (_ ∷ params) = spec_in k params

abbrev pub spec_in_procedure : (control : ℕ) → Option Proc → Option Spec
spec_in_procedure k None = None
spec_in_procedure k (Some p) = spec_in k p.params

-- ---- a program, by its units

abbrev pub mentions_of_unit : Option SourceUnit → Mentions
mentions_of_unit = gathered.in_unit argument_step of_call

abbrev pub mentions_of_procedure : Option Proc → Mentions
mentions_of_procedure = gathered.in_procedure argument_step of_call

module _ (units : List SourceUnit) where
  abbrev pub procedure_at : (segment number : ℕ) → Option Proc
  procedure_at g q = procedure_in (slice_get units g) q

  abbrev pub mentions_of : Node → Mentions
  mentions_of (Body g) = mentions_of_unit (slice_get units g)
  mentions_of (Procedure g q) = mentions_of_procedure (procedure_at g q)

  -- what stands in the body of a node
  abbrev pub Mentioned : Node → Mention → Type 0
  Mentioned a m = (k : ℕ) × (slice_get (mentions_of a) k ≡ Some m)

  -- the procedure that a descriptor of a segment names
  abbrev pub named_by : Option SourceUnit → (descriptor : ℕ) → Option (ℕ × ℕ)
  named_by None d = None
  named_by (Some u) d = procedure_of_def (definition_from (name_of u d) 0 units)

  -- the procedure of a call in a segment, unless it is one of a parameter
  abbrev pub called_by : (segment : ℕ) → Mention → Option (ℕ × ℕ)
  called_by g (mention.Own q) = Some (g, q)
  called_by g (mention.Common d) = named_by (slice_get units g) d
  called_by g _ = None

  -- the procedure that stands as an argument
  abbrev pub handed_by : (segment : ℕ) → Mention → Option (ℕ × ℕ)
  handed_by g (mention.HandedOwn q) = Some (g, q)
  handed_by g (mention.HandedCommon d) = named_by (slice_get units g) d
  handed_by g _ = None

  -- a procedure stands as an argument somewhere in the program
  pub record IsHanded (segment number : ℕ) : Type 0 where
    pub node : Node
    pub argument : Mention
    pub stands : Mentioned node argument
    pub names : handed_by (segment_of node) argument ≡ Some (segment, number)

  -- the specification of a parameter of the procedure at work
  abbrev pub parameter_of : Node → (control : ℕ) → Option Spec
  parameter_of (Body g) k = None
  parameter_of (Procedure g q) k = spec_in_procedure k (procedure_at g q)

  -- a node leads to a procedure of the program
  pub data Leads (a : Node) : Node → Type 0 where
    by_call : (m : Mention) (g q : ℕ) (p : Proc) → Mentioned a m → called_by (segment_of a) m ≡ Some (g, q)
        → procedure_at g q ≡ Some p → Leads a (Procedure g q)
    by_parameter : (k : ℕ) (s : Spec) (g q : ℕ) (p : Proc) → Mentioned a (mention.Parameter k)
        → parameter_of a k ≡ Some s → IsHanded g q → procedure_at g q ≡ Some p → spec_of p ≡ s
        → Leads a (Procedure g q)

  abbrev pub IsBody : Node → Type 0
  IsBody (Body g) = g < length units
  IsBody (Procedure g q) = ⊥

abbrev pub IsProcedure : Node → Type 0
IsProcedure (Body g) = ⊥
IsProcedure (Procedure g q) = Unit {0}
