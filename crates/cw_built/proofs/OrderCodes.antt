-- An order of which `has_code` holds has code, and its line is a word.
use Rattle.std.proofs.Common.{ℕ, ◌+◌, ◌<◌, ◌≤◌, nat_eq, ℤ, pos, negsuc, length, Bool, IsTrue, ◌&&◌, nat_lt, nat_le, All, slice_index_or, arith}
use Rattle.std.proofs.lemmas.Int.{ints}
use Rattle.std.proofs.lemmas.Bool.{leb-true, ltb-true}
use Rattle.std.specs.List.{list_all}
use Rattle.std.proofs.lemmas.List.Sums.{AllPass-from_list_all}
use Rattle.cw_word.specs.FixedPoint.{FitsWord, fits_word}
use Rattle.cw_order.specs.declared.order.Order.{Order}
use Rattle.cw_order.specs.declared.order.Order.TheVariants as order
use Rattle.cw_order.specs.declared.order.Orders.{Orders}
use Rattle.cw_order.specs.HasCode.{HasCode}
use Rattle.cw_order.specs.OrderLines.{line_of}
use Rattle.cw_safety.proofs.Truth.{both}
use Rattle.cw_built.specs.Coded.{is_part, has_numbers, has_code, is_mark, has_few, is_entry, have_code}

part : (t b : ℕ) → IsTrue (is_part t b) → (1 ≤ t) × (t + b ≤ 16)
part t b h = let p = both (nat_le 1 t) (nat_le (t + b) 16) h in (leb-true 1 t p.0, leb-true (t + b) 16 p.1)

word : (z : ℤ) → IsTrue (fits_word z) → FitsWord z
word (pos n) h = let lt : n < 32768 = ltb-true n 32768 h in omega (arith, ints, lt)
word (negsuc n) h = let lt : n < 32768 = ltb-true n 32768 h in omega (arith, ints, lt)

words : (a b : ℤ) → IsTrue (fits_word a && fits_word b) → FitsWord a × FitsWord b
words a b h = let p = both (fits_word a) (fits_word b) h in (word a p.0, word b p.1)

rows : (a b : ℤ) (width : ℕ) → IsTrue (fits_word a && (fits_word b && nat_le width 32768)) → FitsWord a × FitsWord b × (width ≤ 32768)
rows a b width h =
    let p = both (fits_word a) (fits_word b && nat_le width 32768) h in
    let q = both (fits_word b) (nat_le width 32768) p.1 in
    (word a p.0, word b q.0, leb-true width 32768 q.1)

pub coded-order : (o : Order) → IsTrue (has_numbers o) → HasCode o
coded-order (order.Rescale from to line) h = let p = both (nat_le from 15) (nat_le to 15) h in (leb-true from 15 p.0, leb-true to 15 p.1)
coded-order (order.Mul (pos n) line) h = leb-true n 15 h
coded-order (order.Mul (negsuc n) line) h = ltb-true n 30 h
coded-order (order.Div (pos n) line) h = leb-true n 16 h
coded-order (order.Div (negsuc n) line) h = ltb-true n 15 h
coded-order (order.Take t b) h = part t b h
coded-order (order.LoadPart t b is_signed) h = part t b h
coded-order (order.StorePart t b) h = part t b h
coded-order (order.IndexLess lower line) h = word lower h
coded-order (order.Element lower span line) h = word lower h
coded-order (order.ElementOfTwo lower second width line) h = rows lower second width h
coded-order (order.ElementInside lower second width span) h = rows lower second width h
coded-order (order.Entry width word span line) h = let p = both (nat_le width 32768) (nat_lt word 32768) h in (leb-true width 32768 p.0, ltb-true word 32768 p.1)
coded-order (order.InBounds lower upper line) h = words lower upper h
coded-order (order.FrameHome n) h = ltb-true n 65536 h
coded-order (order.Enter size) h = ltb-true size 65536 h
coded-order (order.BindFrame k offset) h = let p = both (nat_lt k 256) (nat_lt offset 32768) h in (ltb-true k 256 p.0, ltb-true offset 32768 p.1)
coded-order (order.Bind k family offset) h = ltb-true k 256 h
coded-order (order.Return n answers) h = ltb-true n 256 h
coded-order (order.CallSpecial k line) h = ltb-true k 256 h
coded-order (order.SpecialOut k) h = ltb-true k 256 h
coded-order (order.GoSpecial k) h = ltb-true k 256 h
coded-order (order.GoSwitchSpecial k line) h = ltb-true k 256 h
coded-order (order.LoopWay marks) h = ltb-true (length marks) 32768 h
coded-order (order.SwitchWay marks line) h = ltb-true (length marks) 32768 h
coded-order _ h = tt

-- the parts of `has_code`
pub lined : (o : Order) → IsTrue (has_code o) → IsTrue (has_numbers o) × (line_of o < 65536)
lined o h = let p = both (has_numbers o) (nat_lt (line_of o) 65536) h in (p.0, ltb-true (line_of o) 65536 p.1)

-- the parts of `have_code`
pub record Coded (o : Orders) : Type 0 where
  pub entry : IsTrue (nat_eq o.entry 0)
  pub list : IsTrue (list_all has_code o.list)
  pub marks : IsTrue (list_all (is_mark o.list) o.marks)
  pub switches : IsTrue (list_all has_few o.switches)
  pub procedures : IsTrue (list_all (is_entry o.list o.marks) o.procedures)

pub parts : (o : Orders) → IsTrue (have_code o) → Coded o
parts o h =
    let last : Bool = list_all has_few o.switches && list_all (is_entry o.list o.marks) o.procedures in
    let third : Bool = list_all (is_mark o.list) o.marks && last in
    let second : Bool = list_all has_code o.list && third in
    let a = both (nat_eq o.entry 0) second h in
    let b = both (list_all has_code o.list) third a.1 in
    let c = both (list_all (is_mark o.list) o.marks) last b.1 in
    let d = both (list_all has_few o.switches) (list_all (is_entry o.list o.marks) o.procedures) c.1 in
    record { entry = a.0; list = b.0; marks = c.0; switches = d.0; procedures = d.1 }

pub all-coded : (o : Orders) → IsTrue (have_code o) → All HasCode o.list
all-coded o h k d lt = let x = slice_index_or o.list k d in coded-order x (lined x (AllPass-from_list_all has_code o.list (parts o h).list k d lt)).0
