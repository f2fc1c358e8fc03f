-- When a unit is built: its orders do what it means where it is linked with others that are built and agree with it. It is judged alone.
use Rattle.std.specs.Prelude.{ℕ, [], ◌∷◌, map, slice_get, Bool, false, ◌&&◌, Option, Some, None}
use Rattle.std.specs.List.{list_all}
use Rattle.cw_unit.specs.declared.unit.Unit.{Unit as SourceUnit}
use Rattle.cw_unit.specs.declared.unit.Def.{Def}
use Rattle.cw_unit.specs.declared.unit.Def.TheVariants as def
use Rattle.cw_unit.specs.declared.descriptor.Desc.{Desc}
use Rattle.cw_unit.specs.declared.descriptor.DescBody.{DescBody}
use Rattle.cw_unit.specs.declared.descriptor.DescBody.TheVariants as bodies
use Rattle.cw_unit.specs.declared.layout.Limits.{Limits}
use Rattle.cw_unit.specs.declared.layout.Map.{Map}
use Rattle.cw_unit.specs.Program.{Program, program_at}
use Rattle.cw_safety.specs.Kinds.{parameter_kinds}
use Rattle.cw_safety.specs.WellFormed.{reaches, reaches_switch, takes_arguments, is_statement, are_procedures}
use Rattle.cw_gen_unit.specs.BuiltUnits.{are_built}
use Rattle.cw_built.specs.Listed.{are_named, procedure_as, defining}
use Rattle.cw_built.specs.Stored.{is_stored}

abbrev pub no_map : Map
no_map = record { homes = []; end = 0 }

abbrev pub no_limits : Limits
no_limits = record { area = 0; frames = 0; depth = 0 }

-- The program in which a unit is judged: the unit, which defines nothing in common, and for each of its descriptors a segment that defines
-- its name as it says. What names mean depends on no storage map and no limits.
abbrev pub alone : SourceUnit → Program
alone u = program_at (record u { defined = [] } ∷ map defining u.descs) no_map no_limits

-- the procedure at work there
abbrev pub at_work : Option ℕ → Option (ℕ × ℕ)
at_work None = None
at_work (Some q) = Some (0, q)

-- the unit's bodies are well formed
abbrev pub is_formed : SourceUnit → Bool
is_formed u = is_statement (alone u) 0 None u.body && are_procedures (alone u) 0 0 u.procs

-- whether a definition is of what a descriptor says, and what it defines can be used from any segment: a label that the segment's body sets, a
-- switch of such, or a procedure with parameters as specified
abbrev pub defines_as : SourceUnit → DescBody → Def → Bool
defines_as u bodies.Label (def.Label l) = reaches (alone u) None (Some (0, l))
defines_as u bodies.Switch (def.Switch n) = reaches_switch (alone u) None (Some (0, n))
defines_as u (bodies.Proc s) (def.Proc q) = takes_arguments (slice_get u.procs q) (parameter_kinds (procedure_as s))
defines_as u _ _ = false

abbrev pub meets : SourceUnit → Option Desc → Def → Bool
meets u None x = false
meets u (Some d) x = defines_as u d.body x

-- each definition meets a descriptor that the unit has
abbrev pub are_met : SourceUnit → Bool
are_met u = list_all (λ (d : ℕ × Def). meets u (slice_get u.descs d.0) d.1) u.defined

abbrev pub is_built : SourceUnit → Bool
is_built u = are_named u.descs && (is_stored u && (is_formed u && (are_met u && are_built (u ∷ []))))
