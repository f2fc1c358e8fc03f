-- Orders with the numbers that the compiler gives them. The code of all others may be of no use.
use Rattle.std.specs.Prelude.{◌+◌, ◌<◌, ◌≤◌, pos, negsuc, length}
use Rattle.cw_word.specs.FixedPoint.{FitsWord}
use Rattle.cw_order.specs.declared.order.Order.{Order}
use Rattle.cw_order.specs.declared.order.Order.TheVariants as order

abbrev pub HasCode : Order → Type 0
HasCode order.Save = Unit {0}
HasCode (order.Const w) = Unit {0}
HasCode (order.Home family offset) = Unit {0}
HasCode order.Load = Unit {0}
HasCode order.Store = Unit {0}
HasCode (order.Add line) = Unit {0}
HasCode (order.Sub line) = Unit {0}
HasCode (order.Neg line) = Unit {0}
HasCode order.WriteByte = Unit {0}
HasCode (order.Jump m) = Unit {0}
HasCode (order.JumpIf c m) = Unit {0}
HasCode order.Mark = Unit {0}
HasCode (order.Start n) = Unit {0}
HasCode order.NextBody = Unit {0}
-- scales are 0 to 15, and factors 2 ^ -30 to 2 ^ 15 in products, 2 ^ -15 to 2 ^ 16 in quotients
HasCode (order.Rescale from to line) = (from ≤ 15) × (to ≤ 15)
HasCode (order.Mul (pos n) line) = n ≤ 15
HasCode (order.Mul (negsuc n) line) = n < 30
HasCode (order.Div (pos n) line) = n ≤ 16
HasCode (order.Div (negsuc n) line) = n < 15
HasCode order.And = Unit {0}
HasCode order.Or = Unit {0}
HasCode order.Xor = Unit {0}
-- parts lie in a word
HasCode (order.Take t b) = (1 ≤ t) × (t + b ≤ 16)
HasCode (order.LoadPart t b is_signed) = (1 ≤ t) × (t + b ≤ 16)
HasCode (order.StorePart t b) = (1 ≤ t) × (t + b ≤ 16)
-- a row or an entry has at most all words of the data area
HasCode (order.IndexLess lower line) = FitsWord lower
HasCode (order.Element lower span line) = FitsWord lower
HasCode (order.ElementOfTwo lower second width line) = FitsWord lower × FitsWord second × (width ≤ 32768)
HasCode (order.ElementInside lower second width span) = FitsWord lower × FitsWord second × (width ≤ 32768)
HasCode (order.Entry width word span line) = (width ≤ 32768) × (word < 32768)
HasCode (order.InArea line) = Unit {0}
HasCode (order.InBounds lower upper line) = FitsWord lower × FitsWord upper
HasCode order.Less = Unit {0}
HasCode order.Drop = Unit {0}
HasCode order.ReadByte = Unit {0}
-- offsets in a frame are words, and those at which an argument is stored lie within all words of the data area
HasCode (order.FrameHome n) = n < 65536
HasCode (order.Enter size) = size < 65536
HasCode (order.BindFrame k offset) = (k < 256) × (offset < 32768)
-- the arguments of a call have at most 256 words
HasCode (order.Bind k family offset) = k < 256
HasCode (order.Return n answers) = n < 256
HasCode (order.CallSpecial k line) = k < 256
HasCode (order.SpecialOut k) = k < 256
HasCode (order.GoSpecial k) = k < 256
HasCode (order.GoSwitchSpecial k line) = k < 256
-- an element's number is a word with a sign
HasCode (order.LoopWay marks) = length marks < 32768
HasCode (order.SwitchWay marks line) = length marks < 32768
HasCode (order.Exhausted m) = Unit {0}
HasCode (order.NextStep x line m) = Unit {0}
HasCode (order.SetVariable line) = Unit {0}
HasCode (order.AddStep line) = Unit {0}
HasCode (order.PutVariable line) = Unit {0}
HasCode (order.CallProc q line) = Unit {0}
HasCode (order.CallCommon d line) = Unit {0}
HasCode (order.LabelOut l) = Unit {0}
HasCode (order.LabelCommon d) = Unit {0}
HasCode (order.SwitchOut n) = Unit {0}
HasCode (order.SwitchCommon d) = Unit {0}
HasCode (order.ProcOut q) = Unit {0}
HasCode (order.ProcCommon d) = Unit {0}
HasCode (order.GoMain m) = Unit {0}
HasCode (order.GoCommon d) = Unit {0}
HasCode (order.GoSwitch n line) = Unit {0}
HasCode (order.GoSwitchCommon d line) = Unit {0}
