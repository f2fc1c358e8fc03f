-- The marks of a unit, and what its numbers name. Marks are numbered in this order: those of the descriptors that the unit defines, as in
-- its list, then one for each label, then one for each procedure, then those that statements and conditions need.
use Rattle.std.specs.Prelude.{ℕ, ◌+◌, List, length, is_some, Some, option_map, slice_get}
use Rattle.cw_unit.specs.declared.unit.Unit.{Unit as SourceUnit}
use Rattle.cw_unit.specs.declared.unit.Label.{Label}
use Rattle.cw_unit.specs.declared.unit.Proc.{Proc}
use Rattle.cw_unit.specs.Program.{name_of, definition_from}
use Rattle.cw_unit.specs.Step.{switch_in}
use Rattle.cw_order.specs.OrderProgram.{LabelEntry, ProcedureEntry, Tables}

abbrev pub label_mark : SourceUnit → (label : ℕ) → ℕ
label_mark u l = length u.defined + l

abbrev pub procedure_mark : SourceUnit → (procedure : ℕ) → ℕ
procedure_mark u q = length u.defined + (length u.labels + q)

-- the first of those that statements and conditions need
abbrev pub first_mark : SourceUnit → ℕ
first_mark u = length u.defined + (length u.labels + length u.procs)

abbrev pub label_entry : SourceUnit → (label : ℕ) → Label → LabelEntry
label_entry u l x = record { mark = label_mark u l; in_procedure = is_some x.proc }

abbrev pub procedure_entry : SourceUnit → (procedure : ℕ) → Proc → ProcedureEntry
procedure_entry u q x = record { mark = procedure_mark u q; arguments = length x.params }

abbrev pub tables_of : List SourceUnit → SourceUnit → Tables
tables_of us u = record {
  label = λ l. option_map (label_entry u l) (slice_get u.labels l);
  procedure = λ q. option_map (procedure_entry u q) (slice_get u.procs q);
  switch = λ n. switch_in (Some u) n;
  defined = λ d. definition_from (name_of u d) 0 us;
}
