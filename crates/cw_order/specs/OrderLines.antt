-- The line that an order names: that of its stop, of its call, or of the statement that begins there; 0 where it names none.
use Rattle.std.specs.Prelude.{ℕ}
use Rattle.cw_order.specs.declared.order.Order.{Order}
use Rattle.cw_order.specs.declared.order.Order.TheVariants as order

abbrev pub line_of : Order → ℕ
line_of (order.Rescale from to line) = line
line_of (order.Add line) = line
line_of (order.Sub line) = line
line_of (order.Neg line) = line
line_of (order.Mul s line) = line
line_of (order.Div s line) = line
line_of (order.IndexLess lower line) = line
line_of (order.Element lower span line) = line
line_of (order.ElementOfTwo lower second width line) = line
line_of (order.Entry width word span line) = line
line_of (order.InArea line) = line
line_of (order.InBounds lower upper line) = line
line_of (order.SetVariable line) = line
line_of (order.AddStep line) = line
line_of (order.PutVariable line) = line
line_of (order.NextStep x line m) = line
line_of (order.SwitchWay marks line) = line
line_of (order.GoSwitch n line) = line
line_of (order.GoSwitchCommon d line) = line
line_of (order.GoSwitchSpecial k line) = line
line_of (order.CallProc q line) = line
line_of (order.CallCommon d line) = line
line_of (order.CallSpecial k line) = line
line_of (order.Start line) = line
line_of _ = 0
