-- What a descriptor of a segment stands for is shared by the segment that defines it.
use Rattle.std.specs.Prelude.{◌≡◌, ℕ, Some, slice_get}
use Rattle.cw_unit.specs.declared.unit.Def.{Def}
use Rattle.cw_order.specs.declared.order.Orders.{Orders}
use Rattle.cw_order.specs.OrderProgram.{OrderProgram, defined_at}

abbrev pub Shares : Orders → Def → Type 0
Shares o x = (k : ℕ) × (slice_get o.shared k ≡ Some x)

abbrev pub DefinitionsShared : OrderProgram → Type 0
DefinitionsShared p = (g d to : ℕ) (x : Def) (o : Orders) → defined_at p g d ≡ Some (to, x) → slice_get p.units to ≡ Some o → Shares o x
