-- What the descriptors of a unit say of what other segments define: for each, a segment that defines its name just as it says.
use Rattle.std.specs.Prelude.{ℕ, List, [], ◌∷◌, map, slice_get, Bool, true, false, ◌&&◌, not, Option, Some, None}
use Rattle.std.specs.List.{list_any}
use Rattle.std.specs.Str.{bytes_eq}
use Rattle.cw_unit.specs.declared.unit.Unit.{Unit as SourceUnit}
use Rattle.cw_unit.specs.declared.unit.Proc.{Proc}
use Rattle.cw_unit.specs.declared.unit.Param.{Param}
use Rattle.cw_unit.specs.declared.unit.Param.TheVariants as param
use Rattle.cw_unit.specs.declared.unit.Stmt.{Stmt}
use Rattle.cw_unit.specs.declared.unit.Stmt.TheVariants as statement
use Rattle.cw_unit.specs.declared.unit.Def.{Def}
use Rattle.cw_unit.specs.declared.unit.Def.TheVariants as def
use Rattle.cw_unit.specs.declared.descriptor.Desc.{Desc}
use Rattle.cw_unit.specs.declared.descriptor.DescBody.{DescBody}
use Rattle.cw_unit.specs.declared.descriptor.DescBody.TheVariants as bodies
use Rattle.cw_unit.specs.declared.descriptor.Spec.{Spec, out-Spec}
use Rattle.cw_unit.specs.declared.descriptor.SpecParam.{SpecParam, SpecParam-F, out-SpecParam}
use Rattle.cw_unit.specs.declared.descriptor.SpecParam.TheOpen as layer
use Rattle.cw_unit.specs.Allocation.{Name}
use Rattle.cw_safety.specs.Kinds.{Kind, parameter_kinds}

-- ---- names

abbrev pub is_empty : Name → Bool
is_empty [] = true
is_empty (b ∷ bs) = false

-- whether one of these descriptors has this name
abbrev pub lists_name : Name → List Desc → Bool
lists_name name = list_any (λ d. bytes_eq name d.name)

-- whether each descriptor has a name, and no two of them have the same
abbrev pub are_named : List Desc → Bool
are_named [] = true
are_named (d ∷ ds) = (not (is_empty d.name) && not (lists_name d.name ds)) && are_named ds

-- ---- procedures

-- a parameter that takes what one of a specification does
abbrev pub param_in_layer : SpecParam-F SpecParam Spec → Param
param_in_layer (layer.Value s) = param.Value 0 s
param_in_layer (layer.Location s) = param.Location 0 s
param_in_layer (layer.Array s) = param.Array 0 s
param_in_layer (layer.Table n) = param.Table 0 n
param_in_layer layer.Label = param.Label 0
param_in_layer layer.Switch = param.Switch 0
param_in_layer (layer.Proc s) = param.Proc 0 s

abbrev pub param_as : SpecParam → Param
param_as s = param_in_layer (out-SpecParam s)

abbrev pub nothing : Stmt
nothing = statement.Seq []

-- a procedure of this specification, which does nothing
abbrev pub procedure_as : Spec → Proc
procedure_as s = record { name = []; answer = (out-Spec s).answer; recursive = false; params = map param_as (out-Spec s).params; specials = 0; body = nothing }

-- ---- definitions

-- what a descriptor's name is defined as: the first label, switch or procedure of a segment; items are not defined
abbrev pub definition_as : DescBody → List Def
definition_as (bodies.Word s) = []
definition_as (bodies.Array s dims) = []
definition_as (bodies.Table width len elems) = []
definition_as bodies.Label = def.Label 0 ∷ []
definition_as bodies.Switch = def.Switch 0 ∷ []
definition_as (bodies.Proc s) = def.Proc 0 ∷ []

abbrev pub procedures_as : DescBody → List Proc
procedures_as (bodies.Proc s) = procedure_as s ∷ []
procedures_as _ = []

-- a segment that defines a descriptor's name as it says: its body sets a label, and its switch has no goals
abbrev pub defining : Desc → SourceUnit
defining d =
    record {
      name = d.name;
      tokens = 0;
      bounds = false;
      descs = d ∷ [];
      items = [];
      procs = procedures_as d.body;
      labels = record { proc = None; line = 0 } ∷ [];
      switches = record { proc = None; list = [] } ∷ [];
      defined = map (λ x. (0, x)) (definition_as d.body);
      body = statement.Mark (0 ∷ []) nothing;
    }

-- ---- what a descriptor says of a name, where there is one

abbrev pub says_label : Option DescBody → Bool
says_label (Some bodies.Label) = true
says_label _ = false

abbrev pub says_switch : Option DescBody → Bool
says_switch (Some bodies.Switch) = true
says_switch _ = false

abbrev pub kinds_said : Option DescBody → Option (List Kind)
kinds_said (Some (bodies.Proc s)) = Some (parameter_kinds (procedure_as s))
kinds_said _ = None

abbrev pub body_in : Option Desc → Option DescBody
body_in None = None
body_in (Some d) = Some d.body

abbrev pub body_at : SourceUnit → (descriptor : ℕ) → Option DescBody
body_at u d = body_in (slice_get u.descs d)
