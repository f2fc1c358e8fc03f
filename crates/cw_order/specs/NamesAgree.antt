-- A unit's lists of labels, procedures and switches tell what its tables tell.
use Rattle.std.specs.Prelude.{◌≡◌, ℕ, List, Some, slice_get}
use Rattle.cw_unit.specs.declared.unit.Goal.{Goal}
use Rattle.cw_order.specs.declared.order.Orders.{Orders}
use Rattle.cw_order.specs.OrderProgram.{LabelEntry, ProcedureEntry, Tables}

pub record NamesAgree (t : Tables) (o : Orders) : Type 0 where
  pub labels : (l : ℕ) (e : LabelEntry) → t.label l ≡ Some e → slice_get o.labels l ≡ Some (record { mark = e.mark; in_procedure = e.in_procedure })
  pub procedures : (q : ℕ) (e : ProcedureEntry) → t.procedure q ≡ Some e → slice_get o.procedures q ≡ Some e.mark
  pub switches : (n : ℕ) (gs : List Goal) → t.switch n ≡ Some gs → slice_get o.switches n ≡ Some gs
