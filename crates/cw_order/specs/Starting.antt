-- The statements that the machine of orders begins: those at whose Start it stands.
use Rattle.std.specs.Prelude.{ℕ, ◌+◌, List, [], ◌∷◌, Option, Some}
use Rattle.cw_unit.specs.Stop.{Running}
use Rattle.cw_unit.specs.Words.{Words}
use Rattle.cw_unit.specs.Begun.{Begun}
use Rattle.cw_order.specs.declared.order.Order.{Order}
use Rattle.cw_order.specs.declared.order.Order.TheVariants as order
use Rattle.cw_order.specs.OrderProgram.{OrderProgram, order_at}
use Rattle.cw_order.specs.OrderState.{OrderState, at}

abbrev pub started_by : Option Order → (segment : ℕ) → Words → List Begun
started_by (Some (order.Start line)) g w = (g + 1, line, w.memory) ∷ []
started_by _ g w = []

abbrev pub starts : OrderProgram → OrderState → List Begun
starts p (at g place loaded acts w Running) = started_by (order_at p g place) g w
starts p _ = []
