-- How each order wants the accumulator, and how it leaves it: loaded with the top operand, or free.
use Rattle.std.specs.Prelude.{Bool, true, false, Option, Some, None}
use Rattle.cw_order.specs.declared.order.Order.{Order}
use Rattle.cw_order.specs.declared.order.Order.TheVariants as order

abbrev pub from_free : (after loaded : Bool) → Option Bool
from_free after false = Some after
from_free after true = None

abbrev pub from_loaded : (after loaded : Bool) → Option Bool
from_loaded after true = Some after
from_loaded after false = None

-- After an order, where the accumulator is as this one wants it. After a jump or a call it is as where that goes, after a return as the
-- caller has it.
abbrev pub loaded_after : Order → (loaded : Bool) → Option Bool
loaded_after order.Save m = from_loaded false m
loaded_after (order.Const w) m = from_free true m
loaded_after (order.Home family offset) m = from_free true m
loaded_after (order.FrameHome n) m = from_free true m
loaded_after order.Load m = from_loaded true m
loaded_after order.Store m = from_loaded false m
loaded_after (order.LoadPart t b is_signed) m = from_loaded true m
loaded_after (order.StorePart t b) m = from_loaded false m
loaded_after (order.Rescale from to line) m = from_loaded true m
loaded_after (order.Add line) m = from_loaded true m
loaded_after (order.Sub line) m = from_loaded true m
loaded_after (order.Neg line) m = from_loaded true m
loaded_after (order.Mul s line) m = from_loaded true m
loaded_after (order.Div s line) m = from_loaded true m
loaded_after order.And m = from_loaded true m
loaded_after order.Or m = from_loaded true m
loaded_after order.Xor m = from_loaded true m
loaded_after (order.Take t b) m = from_loaded true m
loaded_after order.Less m = from_loaded true m
loaded_after order.Drop m = from_loaded false m
loaded_after (order.IndexLess lower line) m = from_loaded true m
loaded_after (order.Element lower span line) m = from_loaded true m
loaded_after (order.ElementOfTwo lower second width line) m = from_loaded true m
loaded_after (order.ElementInside lower second width span) m = from_loaded true m
loaded_after (order.Entry width word span line) m = from_loaded true m
loaded_after (order.InArea line) m = from_loaded true m
loaded_after (order.InBounds lower upper line) m = from_loaded true m
loaded_after (order.SetVariable line) m = from_loaded false m
loaded_after (order.AddStep line) m = from_loaded false m
loaded_after (order.PutVariable line) m = from_loaded true m
-- control arguments take two words, and are put on the stack at once
loaded_after (order.LabelOut l) m = from_free false m
loaded_after (order.LabelCommon d) m = from_free false m
loaded_after (order.SwitchOut n) m = from_free false m
loaded_after (order.SwitchCommon d) m = from_free false m
loaded_after (order.ProcOut q) m = from_free false m
loaded_after (order.ProcCommon d) m = from_free false m
loaded_after (order.SpecialOut k) m = from_free false m
-- ways within a body
loaded_after (order.Jump mark) m = Some m
loaded_after (order.JumpIf c mark) m = from_loaded false m
loaded_after (order.Exhausted mark) m = from_loaded false m
loaded_after (order.NextStep x line mark) m = from_free false m
loaded_after (order.LoopWay marks) m = from_loaded false m
loaded_after (order.SwitchWay marks line) m = from_loaded false m
loaded_after order.Mark m = Some m
loaded_after (order.Start line) m = Some m
-- jumps to labels, the index of a switch in the accumulator
loaded_after (order.GoMain mark) m = from_free false m
loaded_after (order.GoCommon d) m = from_free false m
loaded_after (order.GoSpecial k) m = from_free false m
loaded_after (order.GoSwitch n line) m = from_loaded false m
loaded_after (order.GoSwitchCommon d line) m = from_loaded false m
loaded_after (order.GoSwitchSpecial k line) m = from_loaded false m
-- calls, with all arguments and operands on the stack; a callee answers in the accumulator
loaded_after (order.CallProc q line) m = from_free false m
loaded_after (order.CallCommon d line) m = from_free false m
loaded_after (order.CallSpecial k line) m = from_free false m
loaded_after order.ReadByte m = from_free true m
loaded_after order.WriteByte m = from_free false m
loaded_after (order.Enter size) m = from_free false m
loaded_after (order.Bind k family offset) m = from_free false m
loaded_after (order.BindFrame k offset) m = from_free false m
loaded_after (order.Return n true) m = from_loaded true m
loaded_after (order.Return n false) m = from_free false m
loaded_after order.NextBody m = from_free false m
