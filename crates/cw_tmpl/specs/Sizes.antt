-- The bytes of each order's code, told without the code itself.
use Rattle.std.specs.Prelude.{ℕ, zero, suc, ◌+◌, ◌*◌, ◌-◌, ◌^◌, ◌==◌, nat_lt, nat_le, ℤ, pos, negsuc, Bool}
use Rattle.std.specs.Prelude.{true, false, List, [], ◌∷◌, length, if◌then◌else◌, Option, Some, None}
use Rattle.cw_order.specs.declared.order.Order.{Order}
use Rattle.cw_order.specs.declared.order.Order.TheVariants as order
use Rattle.cw_order.specs.declared.order.Place.{Place}
use Rattle.cw_order.specs.declared.order.Place.TheVariants as cell
use Rattle.cw_tmpl.specs.declared.blocks.Element.{Element}
use Rattle.cw_tmpl.specs.declared.blocks.Test.{Test}
use Rattle.cw_tmpl.specs.declared.blocks.Test.TheVariants as test
use Rattle.cw_tmpl.specs.declared.blocks.Form.{Form}
use Rattle.cw_tmpl.specs.declared.blocks.Form.TheVariants as form
use Rattle.cw_tmpl.specs.declared.blocks.Use.{Use}
use Rattle.cw_tmpl.specs.declared.rows.Column.{Column}
use Rattle.cw_tmpl.specs.declared.rows.Column.TheVariants as column
use Rattle.cw_tmpl.specs.declared.rows.Row.{Row}
use Rattle.cw_tmpl.specs.declared.blocks.Use.TheVariants as uses
use Rattle.cw_tmpl.specs.Templates.{entered_size, argument_load_size, loop_ways_size, doubled_size, frame_size}

-- a multiplication by a number
abbrev pub times_size : ℕ → ℕ
times_size n = if n == 32768 then 14 else 12

abbrev pub width_size : ℕ → ℕ
width_size width = if width == 1 then 0 else times_size width

-- an index less a lower bound, and with a number added
abbrev pub bound_size : ℤ → ℕ
bound_size (pos zero) = 0
bound_size lower = 10

-- the comparison of an index with both bounds: with one number where the lower one is 0
abbrev pub bounds_size : ℤ → ℕ
bounds_size (pos zero) = 10
bounds_size lower = 20

-- a number in AX
abbrev pub number_size : ℕ → ℕ
number_size zero = 2
number_size (suc w) = 3

abbrev pub word_size : ℕ → ℕ
word_size zero = 0
word_size (suc n) = 10

-- a shift by a number of places, and a part of a word
abbrev pub shift_size : (places : ℕ) → ℕ
shift_size zero = 0
shift_size (suc zero) = 2
shift_size (suc (suc n)) = 5

abbrev pub lowest_size : Bool → ℕ
lowest_size true = 0
lowest_size false = 3

abbrev pub part_size : (t b : ℕ) → (is_signed : Bool) → ℕ
part_size t b true = shift_size (16 - (t + b)) + shift_size (16 - t)
part_size t b false = shift_size b + lowest_size (t + b == 16)

-- the address of a word and an index at a place, in SI
abbrev pub index_size : Place → ℕ
index_size (cell.Word f n) = 7
index_size (cell.Frame n) = frame_size n + 8

-- the address of an element, in SI: an index that is compared with its bounds has 3 bytes less before the test, and 4 for a lower bound
abbrev pub lower_size : ℤ → ℕ
lower_size (pos zero) = 0
lower_size lower = 4

abbrev pub element_size : Element → Test → ℕ
element_size e (test.Address origin) = index_size e.index + 11
element_size e (test.Bounds upper line) = index_size e.index + lower_size e.lower + 14

-- an index in AX less a lower bound, and the address that is formed of one
abbrev pub top_lower_size : ℤ → ℕ
top_lower_size (pos zero) = 0
top_lower_size lower = 3

abbrev pub times_entry_size : (width : ℕ) → ℕ
times_entry_size width = if width == 1 then 0 else 5

abbrev pub formed_size : Form → ℕ
formed_size (form.Element span line) = 4
formed_size (form.Entry width word span line) = if width == 1 then 4 else 9

-- the second of two indexes, with both comparisons and the address
abbrev pub column_size : Column → ℕ
column_size (column.Number w) = 3
column_size (column.Contents (cell.Word f n)) = 4
column_size (column.Contents (cell.Frame n)) = frame_size n + 5

abbrev pub row_size : Row → ℕ
row_size r = top_lower_size r.rows.lower + column_size r.column + lower_size r.columns.lower + formed_size (form.Entry r.width 0 r.span r.columns.line) + 23

-- behind the address of an element, an order that uses it
abbrev pub used_size : Use → ℕ
used_size (uses.Add line) = 9
used_size (uses.Subtract line) = 9
used_size (uses.Multiply line) = 13
used_size uses.Mask = 2
used_size uses.Union = 2
used_size uses.Differ = 2
used_size (uses.Compare c mark) = 7

-- the same, order by order
abbrev pub listed_size : Order → ℕ
listed_size order.Save = 1
listed_size (order.Const w) = number_size w
listed_size (order.Home family offset) = 3
listed_size order.Load = 5
listed_size order.Store = 7
listed_size (order.Add line) = 10
listed_size (order.Sub line) = 12
listed_size (order.Neg line) = 9
listed_size (order.LoadPart t b is_signed) = 5 + part_size t b is_signed
listed_size (order.StorePart t b) = shift_size b + 12
listed_size (order.Rescale from to line) = if nat_le from to then times_size (2 ^ (to - from)) else 5
listed_size (order.Mul (pos zero) line) = 10
listed_size (order.Mul (pos (suc n)) line) = times_size (2 ^ suc n) + 10
listed_size (order.Mul (negsuc n) line) = if nat_lt n 15 then 14 else 10
listed_size (order.Div s line) = 25
listed_size order.And = 3
listed_size order.Or = 3
listed_size order.Xor = 3
listed_size (order.Take t b) = part_size t b false
listed_size order.Less = 5
listed_size order.Drop = 0
listed_size (order.IndexLess lower line) = 12
listed_size (order.Element lower span line) = bound_size lower + 21
listed_size (order.ElementOfTwo lower second width line) = bound_size second + bound_size lower + times_size width + 33
listed_size (order.ElementInside lower second width span) = top_lower_size second + top_lower_size lower + times_entry_size width + 10
listed_size (order.Entry width word span line) = width_size width + word_size word + 21
listed_size (order.InArea line) = 9
listed_size (order.InBounds lower upper line) = bounds_size lower
listed_size order.ReadByte = 3
listed_size order.WriteByte = 3
listed_size order.NextBody = 5
listed_size (order.Jump mark) = 3
listed_size (order.JumpIf c mark) = 8
listed_size (order.FrameHome n) = 8
listed_size (order.Exhausted mark) = 6
listed_size (order.SetVariable line) = 6
listed_size (order.AddStep line) = 6
listed_size (order.PutVariable line) = 6
listed_size (order.NextStep x line mark) = doubled_size x + 10
listed_size (order.LoopWay marks) = loop_ways_size marks
listed_size (order.SwitchWay marks line) = 20 + 2 * length marks
listed_size (order.CallProc q line) = 6
listed_size (order.CallCommon d line) = 6
listed_size (order.CallSpecial k line) = argument_load_size k + 9
listed_size (order.Enter size) = entered_size size
listed_size (order.Bind k family offset) = argument_load_size k + 3
listed_size (order.BindFrame k offset) = argument_load_size k + (frame_size offset + 5)
listed_size (order.Return n answers) = 6
listed_size (order.LabelOut l) = 5
listed_size (order.LabelCommon d) = 5
listed_size (order.SwitchOut n) = 5
listed_size (order.SwitchCommon d) = 5
listed_size (order.ProcOut q) = 5
listed_size (order.ProcCommon d) = 5
listed_size (order.SpecialOut k) = argument_load_size (k + 1) + (argument_load_size k + 2)
listed_size (order.GoMain mark) = 15
listed_size (order.GoCommon d) = 3
listed_size (order.GoSpecial k) = argument_load_size k + (argument_load_size (k + 1) + 9)
listed_size (order.GoSwitch n line) = 8
listed_size (order.GoSwitchCommon d line) = 8
listed_size (order.GoSwitchSpecial k line) = argument_load_size (k + 1) + (argument_load_size k + 5)
listed_size order.Mark = 0
listed_size (order.Start n) = 0

-- The same in a list, where the address of a word of the frame has two bytes less: they are owed by what stands behind it.
abbrev pub size_in_list : Order → ℕ
size_in_list (order.FrameHome n) = 6
size_in_list o = listed_size o

abbrev pub owed : Option Order → ℕ
owed (Some (order.FrameHome n)) = 2
owed _ = 0

-- The same behind two orders: a load behind the address of a word is in its block, and so is a store there, where the top operand is saved before
-- the address.
abbrev pub size_behind : (second first : Option Order) → Order → ℕ
size_behind _ (Some (order.Home f n)) order.Load = 0
size_behind _ (Some (order.FrameHome n)) order.Load = 1
size_behind (Some order.Save) (Some (order.Home f n)) order.Store = 0
size_behind (Some order.Save) (Some (order.FrameHome n)) order.Store = 0
size_behind _ first o = owed first + size_in_list o

abbrev pub sizes_behind : (second first : Option Order) → List Order → ℕ
sizes_behind second first [] = owed first
sizes_behind second first (o ∷ os) = size_behind second first o + sizes_behind first (Some o) os

abbrev pub listed_sizes : List Order → ℕ
listed_sizes os = sizes_behind None None os
