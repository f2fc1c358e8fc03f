-- How many words the order of a reference counts on: from the address on that the order before it puts, so many are in the data area.
use Rattle.std.specs.Prelude.{◌≡◌, ℕ, ◌+◌, ◌<◌, Some}
use Rattle.cw_order.specs.declared.order.Order.{Order}
use Rattle.cw_order.specs.declared.order.Order.TheVariants as order
use Rattle.cw_order.specs.OrderProgram.{OrderProgram, order_at}
use Rattle.cw_order.specs.OrderActions.{home_word}

abbrev pub span_of : Order → ℕ
span_of (order.Element lower span line) = span
span_of (order.ElementInside lower second width span) = span
span_of (order.Entry width word span line) = span
span_of _ = 0

abbrev pub SpansInside : OrderProgram → Type 0
SpansInside p =
    (g place family offset k : ℕ) (o : Order)
    → order_at p g place ≡ Some (order.Home family offset) → order_at p g (place + 1) ≡ Some o → k < span_of o
    → home_word p.addresses g family offset + k < p.limits.area
