-- How many instructions the code of an order takes at most, with those of a stop or an end (docs/CODE.md). A stop takes 13, the call of the
-- library's among them. Some are bounds above what the code takes now: the orders of one step of the source may take 224 in all. The
-- dearest steps, with items in frames: the entry of a procedure with 32 word parameters, 174 (CallSpecial 16, Enter 30, 32 of BindFrame 4);
-- a product or a quotient, 120; a word at another scale, 64; a jump through a switch, 50; the test of a FOR's variable, 48 (FrameHome,
-- PutVariable 24, Exhausted 20); an element of an array of two dimensions, 45 (Save, FrameHome 4, ElementOfTwo 40); a word of an entry of a
-- table, 41 (Save, FrameHome, Load, Entry 32).
use Rattle.std.specs.Prelude.{ℕ, Option, Some, None}
use Rattle.cw_order.specs.declared.order.Order.{Order}
use Rattle.cw_order.specs.declared.order.Order.TheVariants as order

abbrev pub weight_of : Order → ℕ
weight_of order.Save = 1
-- words
weight_of (order.Const w) = 2
weight_of (order.Home family offset) = 2
-- the base from the record, the offset
weight_of (order.FrameHome n) = 4
-- where the address is formed in the same piece of code, with a test of it
weight_of order.Load = 8
weight_of order.Store = 8
-- two shifts, each with its count in CL
weight_of (order.LoadPart t b is_signed) = 16
-- the old word and the new one masked
weight_of (order.StorePart t b) = 20
-- a product with a power of two, tested, or a shift
weight_of (order.Rescale from to line) = 64
weight_of (order.Add line) = 24
weight_of (order.Sub line) = 24
weight_of (order.Neg line) = 16
-- a routine of the library shifts a pair of words, and its answer is tested
weight_of (order.Mul s line) = 120
weight_of (order.Div s line) = 120
weight_of order.And = 9
weight_of order.Or = 9
weight_of order.Xor = 9
weight_of (order.Take t b) = 6
weight_of order.Less = 4
weight_of order.Drop = 1
-- the port is asked whether there is a byte
weight_of order.ReadByte = 12
weight_of order.WriteByte = 2
-- addresses: as sums
weight_of (order.IndexLess lower line) = 18
-- up to three tests, five and four
weight_of (order.Element lower span line) = 26
weight_of (order.ElementOfTwo lower second width line) = 40
-- the same without tests, or two comparisons before it
weight_of (order.ElementInside lower second width span) = 24
weight_of (order.Entry width word span line) = 32
weight_of (order.InArea line) = 18
-- two comparisons; or one, behind that of another index
weight_of (order.InBounds lower upper line) = 22
-- ways within a body
weight_of (order.Jump m) = 1
-- an operand, a comparison, a short jump over a near one
weight_of (order.JumpIf c m) = 12
-- the step's sign is tested, and then the limit
weight_of (order.Exhausted m) = 20
-- the address of the control variable is tested
weight_of (order.SetVariable line) = 24
weight_of (order.PutVariable line) = 24
-- and the sum
weight_of (order.AddStep line) = 30
-- the number of the element, the address twice, the sum and the limit
weight_of (order.NextStep x line m) = 48
-- the number is tested, and the way found in a table
weight_of (order.LoopWay marks) = 12
-- and a number that has none stops
weight_of (order.SwitchWay marks line) = 26
weight_of order.Mark = 0
weight_of (order.Start n) = 1
weight_of order.NextBody = 22
-- control arguments: a place and a record
weight_of (order.LabelOut l) = 6
weight_of (order.LabelCommon d) = 6
weight_of (order.SwitchOut n) = 6
weight_of (order.SwitchCommon d) = 6
weight_of (order.ProcOut q) = 6
weight_of (order.ProcCommon d) = 6
weight_of (order.SpecialOut k) = 6
-- jumps: BP and SP are set, and the segment in the record
weight_of (order.GoMain m) = 16
weight_of (order.GoCommon d) = 16
weight_of (order.GoSpecial k) = 16
-- the index is tested, and the label found in a table
weight_of (order.GoSwitch n line) = 50
weight_of (order.GoSwitchCommon d line) = 50
weight_of (order.GoSwitchSpecial k line) = 50
-- calls
weight_of (order.CallProc q line) = 12
weight_of (order.CallCommon d line) = 12
weight_of (order.CallSpecial k line) = 16
-- two tests, and the record's words
weight_of (order.Enter size) = 30
weight_of (order.Bind k family offset) = 3
-- the frame's base comes from the record
weight_of (order.BindFrame k offset) = 4
weight_of (order.Return n answers) = 12

abbrev pub weight_at : Option Order → ℕ
weight_at None = 0
weight_at (Some o) = weight_of o
