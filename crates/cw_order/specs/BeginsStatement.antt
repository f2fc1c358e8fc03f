-- The orders that stand behind a Start: the first one of a statement, which each has code of its own.
use Rattle.std.specs.Prelude.{◌≡◌, ℕ, ◌+◌, Some}
use Rattle.cw_order.specs.declared.order.Order.{Order}
use Rattle.cw_order.specs.declared.order.Order.TheVariants as order
use Rattle.cw_order.specs.OrderProgram.{OrderProgram, order_at}

abbrev pub BeginsStatement : Order → Type 0
-- a value, or the address of a reference
BeginsStatement (order.Const w) = Unit {0}
BeginsStatement (order.Home family offset) = Unit {0}
BeginsStatement (order.FrameHome n) = Unit {0}
BeginsStatement order.ReadByte = Unit {0}
-- a call without arguments, or its first argument
BeginsStatement (order.CallProc q line) = Unit {0}
BeginsStatement (order.CallCommon d line) = Unit {0}
BeginsStatement (order.CallSpecial k line) = Unit {0}
BeginsStatement order.WriteByte = Unit {0}
BeginsStatement (order.LabelOut l) = Unit {0}
BeginsStatement (order.LabelCommon d) = Unit {0}
BeginsStatement (order.SwitchOut n) = Unit {0}
BeginsStatement (order.SwitchCommon d) = Unit {0}
BeginsStatement (order.ProcOut q) = Unit {0}
BeginsStatement (order.ProcCommon d) = Unit {0}
BeginsStatement (order.SpecialOut k) = Unit {0}
-- a jump
BeginsStatement (order.Jump m) = Unit {0}
BeginsStatement (order.GoMain m) = Unit {0}
BeginsStatement (order.GoCommon d) = Unit {0}
BeginsStatement (order.GoSpecial k) = Unit {0}
BeginsStatement _ = ⊥

-- such an order stands behind each Start
abbrev pub StatementsBegin : OrderProgram → Type 0
StatementsBegin p = (g place line : ℕ) → order_at p g place ≡ Some (order.Start line) → (o : Order) × (order_at p g (place + 1) ≡ Some o) × BeginsStatement o
