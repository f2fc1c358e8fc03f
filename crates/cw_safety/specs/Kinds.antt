-- What arguments are, and what parameters take.
use Rattle.std.specs.Prelude.{ℕ, ◌+◌, List, [], ◌∷◌, map, Bool, true, false, ◌&&◌, Option, Some, None}
use Rattle.cw_unit.specs.declared.unit.Param.{Param}
use Rattle.cw_unit.specs.declared.unit.Param.TheVariants as param
use Rattle.cw_unit.specs.declared.unit.Proc.{Proc}
use Rattle.cw_unit.specs.declared.descriptor.Spec.{Spec, out-Spec}
use Rattle.cw_unit.specs.declared.descriptor.SpecParam.{SpecParam, SpecParam-F, out-SpecParam}
use Rattle.cw_unit.specs.declared.descriptor.SpecParam.TheOpen as layer

-- what a parameter of a procedure parameter takes; none of them takes a procedure that could be called
pub data Taken : Type 0 where
  TakesWord : Taken
  TakesLabel : Taken
  TakesSwitch : Taken
  TakesProcedure : Taken

-- an argument: a word (a value or an address), a label, a switch, or a procedure with what its parameters take
pub data Kind : Type 0 where
  WordKind : Kind
  LabelKind : Kind
  SwitchKind : Kind
  ProcedureKind : List Taken → Kind

-- the words of an argument, and of several
abbrev pub weight : Kind → ℕ
weight WordKind = 1
weight LabelKind = 2
weight SwitchKind = 2
weight (ProcedureKind ts) = 2

abbrev pub weigh : List Kind → ℕ
weigh [] = 0
weigh (k ∷ ks) = weight k + weigh ks

-- ---- parameters

abbrev pub taken_by_layer : SpecParam-F SpecParam Spec → Taken
taken_by_layer (layer.Value s) = TakesWord
taken_by_layer (layer.Location s) = TakesWord
taken_by_layer (layer.Array s) = TakesWord
taken_by_layer (layer.Table n) = TakesWord
taken_by_layer layer.Label = TakesLabel
taken_by_layer layer.Switch = TakesSwitch
taken_by_layer (layer.Proc s) = TakesProcedure

abbrev pub taken_by : SpecParam → Taken
taken_by s = taken_by_layer (out-SpecParam s)

abbrev pub kind_of_param : Param → Kind
kind_of_param (param.Value i s) = WordKind
kind_of_param (param.Location i s) = WordKind
kind_of_param (param.Array i s) = WordKind
kind_of_param (param.Table i n) = WordKind
kind_of_param (param.Label k) = LabelKind
kind_of_param (param.Switch k) = SwitchKind
kind_of_param (param.Proc k s) = ProcedureKind (map taken_by (out-Spec s).params)

-- the kinds of a procedure's parameters, in order
abbrev pub parameter_kinds : Proc → List Kind
parameter_kinds q = map kind_of_param q.params

-- those of its control parameters, in order: their numbers count from 0
abbrev pub control_kinds : List Kind → List Kind
control_kinds [] = []
control_kinds (WordKind ∷ ks) = control_kinds ks
control_kinds (k ∷ ks) = k ∷ control_kinds ks

-- ---- procedures as arguments

abbrev pub taken_of : Kind → Taken
taken_of WordKind = TakesWord
taken_of LabelKind = TakesLabel
taken_of SwitchKind = TakesSwitch
taken_of (ProcedureKind ts) = TakesProcedure

-- a procedure as an argument
abbrev pub procedure_kind : Option Proc → Option Kind
procedure_kind None = None
procedure_kind (Some q) = Some (ProcedureKind (map taken_of (parameter_kinds q)))

-- ---- agreement

abbrev pub same_taken : Taken → Taken → Bool
same_taken TakesWord TakesWord = true
same_taken TakesLabel TakesLabel = true
same_taken TakesSwitch TakesSwitch = true
same_taken TakesProcedure TakesProcedure = true
same_taken _ _ = false

-- two lists are of one length, and each of one stands so to the one of the other at its place
abbrev pub all_so : {A B : Type 0} → (A → B → Bool) → List A → List B → Bool
all_so is [] [] = true
all_so is (x ∷ xs) (y ∷ ys) = is x y && all_so is xs ys
all_so is _ _ = false

abbrev pub same_kind : Kind → Kind → Bool
same_kind WordKind WordKind = true
same_kind LabelKind LabelKind = true
same_kind SwitchKind SwitchKind = true
same_kind (ProcedureKind ts) (ProcedureKind us) = all_so same_taken ts us
same_kind _ _ = false

-- the arguments of a call are as the parameters take them
abbrev pub same_kinds : List Kind → List Kind → Bool
same_kinds = all_so same_kind

-- the same of a call of a procedure parameter, which takes no procedures
abbrev pub suits_one : Kind → Taken → Bool
suits_one WordKind TakesWord = true
suits_one LabelKind TakesLabel = true
suits_one SwitchKind TakesSwitch = true
suits_one _ _ = false

abbrev pub suits : List Kind → List Taken → Bool
suits = all_so suits_one
