-- When orders have code that does what they say: what templates need of them.
use Rattle.std.specs.Prelude.{ℕ, ◌+◌, nat_eq, nat_lt, nat_le, pos, negsuc, List, length, Bool, true, false, ◌&&◌, ◌||◌, Option, Some, None, slice_get}
use Rattle.std.specs.List.{list_all}
use Rattle.cw_word.specs.FixedPoint.{fits_word}
use Rattle.cw_unit.specs.declared.unit.Goal.{Goal}
use Rattle.cw_order.specs.declared.order.Order.{Order}
use Rattle.cw_order.specs.declared.order.Order.TheVariants as order
use Rattle.cw_order.specs.declared.order.Orders.{Orders}
use Rattle.cw_order.specs.OrderLines.{line_of}

-- ---- one order

-- t bits from bit b lie in a word
abbrev pub is_part : (t b : ℕ) → Bool
is_part t b = nat_le 1 t && nat_le (t + b) 16

-- the numbers of an order are those that its code can hold
abbrev pub has_numbers : Order → Bool
has_numbers (order.Rescale from to line) = nat_le from 15 && nat_le to 15
has_numbers (order.Mul (pos n) line) = nat_le n 15
has_numbers (order.Mul (negsuc n) line) = nat_lt n 30
has_numbers (order.Div (pos n) line) = nat_le n 16
has_numbers (order.Div (negsuc n) line) = nat_lt n 15
has_numbers (order.Take t b) = is_part t b
has_numbers (order.LoadPart t b is_signed) = is_part t b
has_numbers (order.StorePart t b) = is_part t b
has_numbers (order.IndexLess lower line) = fits_word lower
has_numbers (order.Element lower span line) = fits_word lower
has_numbers (order.ElementOfTwo lower second width line) = fits_word lower && (fits_word second && nat_le width 32768)
has_numbers (order.ElementInside lower second width span) = fits_word lower && (fits_word second && nat_le width 32768)
has_numbers (order.Entry width word span line) = nat_le width 32768 && nat_lt word 32768
has_numbers (order.InBounds lower upper line) = fits_word lower && fits_word upper
has_numbers (order.FrameHome n) = nat_lt n 65536
has_numbers (order.Enter size) = nat_lt size 65536
has_numbers (order.BindFrame k offset) = nat_lt k 256 && nat_lt offset 32768
has_numbers (order.Bind k family offset) = nat_lt k 256
has_numbers (order.Return n answers) = nat_lt n 256
has_numbers (order.CallSpecial k line) = nat_lt k 256
has_numbers (order.SpecialOut k) = nat_lt k 256
has_numbers (order.GoSpecial k) = nat_lt k 256
has_numbers (order.GoSwitchSpecial k line) = nat_lt k 256
has_numbers (order.LoopWay marks) = nat_lt (length marks) 32768
has_numbers (order.SwitchWay marks line) = nat_lt (length marks) 32768
has_numbers _ = true

-- and its line is a word
abbrev pub has_code : Order → Bool
has_code o = has_numbers o && nat_lt (line_of o) 65536

abbrev pub is_enter : Order → Bool
is_enter (order.Enter size) = true
is_enter _ = false

-- ---- marks

-- whether a jump may land at an order: at one that is there for this, and where an activation is entered
abbrev pub is_landing : Order → Bool
is_landing order.Mark = true
is_landing (order.Enter size) = true
is_landing _ = false

abbrev pub lands : Option Order → Bool
lands None = false
lands (Some o) = is_landing o

-- a mark stands at the first order or at such a one
abbrev pub is_mark : List Order → (place : ℕ) → Bool
is_mark os place = nat_eq place 0 || lands (slice_get os place)

abbrev pub enters : Option Order → Bool
enters None = false
enters (Some o) = is_enter o

-- whether there is a mark of this number, and it stands at the entry of a procedure
abbrev pub enters_at : List Order → (place : Option ℕ) → Bool
enters_at os None = false
enters_at os (Some place) = enters (slice_get os place)

abbrev pub is_entry : List Order → (marks : List ℕ) → (mark : ℕ) → Bool
is_entry os marks m = enters_at os (slice_get marks m)

-- ---- all orders

-- the index of a goal is a word with a sign
abbrev pub has_few : List Goal → Bool
has_few gs = nat_lt (length gs) 32768

-- each order has code, marks and entries stand where they may, and no switch has too many goals
abbrev pub have_code : Orders → Bool
have_code o =
    nat_eq o.entry 0 && (list_all has_code o.list &&
    (list_all (is_mark o.list) o.marks && (list_all has_few o.switches && list_all (is_entry o.list o.marks)
    o.procedures)))
