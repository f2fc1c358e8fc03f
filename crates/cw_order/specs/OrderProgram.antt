-- The orders of the units of a program, and what their numbers name.
use Rattle.std.specs.Prelude.{ℕ, List, Bool, Option, Some, None, slice_get}
use Rattle.cw_unit.specs.declared.unit.Goal.{Goal}
use Rattle.cw_unit.specs.declared.unit.Goal.TheVariants as goal
use Rattle.cw_unit.specs.declared.unit.Def.{Def}
use Rattle.cw_unit.specs.declared.layout.Limits.{Limits}
use Rattle.cw_unit.specs.declared.layout.Map.{Map}
use Rattle.cw_unit.specs.Step.{label_of_def}
use Rattle.cw_order.specs.declared.order.Order.{Order}
use Rattle.cw_order.specs.declared.order.Orders.{Orders}

-- a label: its mark, and whether it stands in a procedure
pub record LabelEntry : Type 0 where
  pub mark : ℕ
  pub in_procedure : Bool

-- a procedure: the mark of its first order, and how many arguments it takes
pub record ProcedureEntry : Type 0 where
  pub mark : ℕ
  pub arguments : ℕ

-- what the numbers of a unit name: labels, procedures and switches, and for a descriptor the segment that defines it with the
-- definition there, which is the linker's to find
pub record Tables : Type 0 where
  pub label : ℕ → Option LabelEntry
  pub procedure : ℕ → Option ProcedureEntry
  pub switch : ℕ → Option (List Goal)
  pub defined : (descriptor : ℕ) → Option (ℕ × Def)

-- the orders of the units in the units' order, their tables, a storage map, the limits of the run, and how many words the control
-- stack has for operands and activations
pub record OrderProgram : Type 0 where
  pub units : List Orders
  pub tables : List Tables
  pub addresses : Map
  pub limits : Limits
  pub room : ℕ

abbrev pub order_in : Option Orders → (place : ℕ) → Option Order
order_in None place = None
order_in (Some u) place = slice_get u.list place

abbrev pub mark_in : Option Orders → (mark : ℕ) → Option ℕ
mark_in None m = None
mark_in (Some u) m = slice_get u.marks m

abbrev pub label_in : Option Tables → ℕ → Option LabelEntry
label_in None l = None
label_in (Some t) l = t.label l

abbrev pub procedure_in : Option Tables → ℕ → Option ProcedureEntry
procedure_in None q = None
procedure_in (Some t) q = t.procedure q

abbrev pub switch_in : Option Tables → ℕ → Option (List Goal)
switch_in None n = None
switch_in (Some t) n = t.switch n

abbrev pub defined_in : Option Tables → (descriptor : ℕ) → Option (ℕ × Def)
defined_in None d = None
defined_in (Some t) d = t.defined d

module _ (p : OrderProgram) where
  abbrev pub order_at : (segment place : ℕ) → Option Order
  order_at g place = order_in (slice_get p.units g) place

  -- the place of a mark
  abbrev pub place_of : (segment mark : ℕ) → Option ℕ
  place_of g m = mark_in (slice_get p.units g) m

  abbrev pub label_at : (segment label : ℕ) → Option LabelEntry
  label_at g l = label_in (slice_get p.tables g) l

  abbrev pub procedure_at : (segment procedure : ℕ) → Option ProcedureEntry
  procedure_at g q = procedure_in (slice_get p.tables g) q

  abbrev pub switch_at : (segment switch : ℕ) → Option (List Goal)
  switch_at g n = switch_in (slice_get p.tables g) n

  abbrev pub defined_at : (segment descriptor : ℕ) → Option (ℕ × Def)
  defined_at g d = defined_in (slice_get p.tables g) d

  -- the label of a goal, with its segment
  abbrev pub label_of : (segment : ℕ) → Goal → Option (ℕ × ℕ)
  label_of g (goal.Own l) = Some (g, l)
  label_of g (goal.Common d) = label_of_def (defined_at g d)
