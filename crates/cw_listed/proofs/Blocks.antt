-- The code of each block is told, and so is that of a segment.
use Rattle.std.proofs.Common.{ℕ, zero, suc, ◌+◌, ◌==◌, ℤ, pos, negsuc, ◌-ℤ◌, Bool, true, false, List, [], ◌∷◌, ◌++◌, refl}
use Rattle.cw_run86.specs.Views.{with_number}
use Rattle.cw_word.specs.BitField.{field_mask}
use Rattle.cw_unit.specs.declared.unit.Goal.{Goal}
use Rattle.cw_order.specs.declared.order.LabelMark.{LabelMark}
use Rattle.cw_order.specs.declared.order.Order.{Order}
use Rattle.cw_order.specs.declared.order.Orders.{Orders}
use Rattle.cw_order.specs.declared.order.Comparator.{Comparator}
use Rattle.cw_order.specs.declared.order.Place.{Place}
use Rattle.cw_order.specs.declared.order.Place.TheVariants as cell
use Rattle.cw_tmpl.specs.declared.pieces.Coded.{Coded}
use Rattle.cw_tmpl.specs.declared.pieces.Coded.TheVariants as coded
use Rattle.cw_tmpl.specs.declared.pieces.Target.TheVariants as target
use Rattle.cw_tmpl.specs.declared.blocks.Element.{Element}
use Rattle.cw_tmpl.specs.declared.blocks.Test.{Test}
use Rattle.cw_tmpl.specs.declared.blocks.Test.TheVariants as test
use Rattle.cw_tmpl.specs.declared.blocks.Simple.{Simple}
use Rattle.cw_tmpl.specs.declared.blocks.Simple.TheVariants as simple
use Rattle.cw_tmpl.specs.declared.blocks.Form.{Form}
use Rattle.cw_tmpl.specs.declared.blocks.Form.TheVariants as form
use Rattle.cw_tmpl.specs.declared.blocks.Bounded.{Bounded}
use Rattle.cw_tmpl.specs.declared.rows.Column.{Column}
use Rattle.cw_tmpl.specs.declared.rows.Column.TheVariants as column
use Rattle.cw_tmpl.specs.declared.rows.Row.{Row}
use Rattle.cw_tmpl.specs.declared.blocks.Use.{Use}
use Rattle.cw_tmpl.specs.declared.blocks.Use.TheVariants as uses
use Rattle.cw_tmpl.specs.declared.blocks.Block.{Block}
use Rattle.cw_tmpl.specs.declared.blocks.Block.TheVariants as block
use Rattle.cw_tmpl.specs.Mnemonics.{ax, cx, si, di, at_si, compare, load, store, add, double, multiply, jump_if_below}
use Rattle.cw_tmpl.specs.Mnemonics.{shift_up, shift_up_once, shift_down_signed, shift_down_signed_once}
use Rattle.cw_tmpl.specs.Library.{address_entry}
use Rattle.cw_tmpl.specs.Names.{Names, mark_place, call_place}
use Rattle.cw_tmpl.specs.Blocks.{block_at, orders_left}
use Rattle.cw_tmpl.specs.Templates.{call_stop, checked_by, branch_by, shifted_up, part_taken, address_pieces, load_place, store_place}
use Rattle.cw_tmpl.specs.Templates.{operate_place, change_place, index_loaded, from_lower, index_added, index_below, element_tested}
use Rattle.cw_tmpl.specs.Templates.{element_address, operation, product_with, indexes_between, top_from_lower, top_below, times_entry}
use Rattle.cw_tmpl.specs.Templates.{formed, bounded_address, column_loaded, column_below, row_summed, column_tested, row_address, pieces_size, with_operand}
use Rattle.cw_tmpl.specs.Templates.{operated, word_compared, block_pieces, block_size, entry_pieces}
use Rattle.cw_tmpl.specs.ShortForms.{is_short}
use Rattle.cw_tmpl.specs.ReferenceCode.{templates, entry_size, landing_where, landings, switch_where, switches}
use Rattle.cw_tmpl.specs.ReferenceCode.{landings_place, switches_place, names_of, pieces_of}
use Rattle.cw_tmpl.specs.Names.{has_landing, landing_bytes, switch_bytes}
use Rattle.cw_tmpl.specs.Named.{is_named_label, is_named_switch}
use Rattle.cw_listed.proofs.Walk.{Told, both}
use Rattle.cw_listed.proofs.Orders.{shifted_told, part_told, top_told, entry_times_told, entry_pieces_told, landing_told, switch_told, order_told}

-- ---- places, elements and operands

loads_told : (x : Place) → Told (address_pieces x ++ load_place x ∷ [])
loads_told (cell.Word f n) = refl
loads_told (cell.Frame n) = refl

stores_told : (x : Place) → Told (address_pieces x ++ store_place x ∷ [])
stores_told (cell.Word f n) = refl
stores_told (cell.Frame n) = refl

part_loaded_told : (x : Place) (t b : ℕ) (is_signed : Bool) → Told (address_pieces x ++ load_place x ∷ part_taken t b is_signed)
part_loaded_told (cell.Word f n) t b is_signed = part_told t b is_signed
part_loaded_told (cell.Frame n) t b is_signed = part_told t b is_signed

part_changed_told : (x : Place) (t b : ℕ) → Told (address_pieces x ++ operate_place 6 x ∷ coded.Whole (with_number 4 (field_mask t b)) ∷ change_place 6 x ∷ [])
part_changed_told (cell.Word f n) t b = refl
part_changed_told (cell.Frame n) t b = refl

loaded_told : (x : Place) → Told (index_loaded x)
loaded_told (cell.Word f n) = refl
loaded_told (cell.Frame n) = refl

added_told : (x : Place) (family offset : ℕ) → Told (index_added x family offset)
added_told (cell.Word f n) family offset = refl
added_told (cell.Frame n) family offset = refl

lower_told : (lower : ℤ) → Told (from_lower lower)
lower_told (pos zero) = refl
lower_told (pos (suc n)) = refl
lower_told (negsuc n) = refl

tested_told : (e : Element) (t : Test) → Told (element_tested e t)
tested_told e (test.Address origin) =
    both (index_added e.index e.family origin)
    (coded.Whole (compare si di) ∷ coded.Whole (jump_if_below 5)
    ∷ (call_stop address_entry e.line ++ coded.Whole (double si) ∷ []))
    (added_told e.index e.family origin) refl
tested_told e (test.Bounds upper line) =
    let below : List Coded = index_below (indexes_between (upper -ℤ e.lower)) line e.family e.first in
    both (index_loaded e.index) (from_lower e.lower ++ below) (loaded_told e.index) (both (from_lower e.lower) below (lower_told e.lower) refl)

address_told : (e : Element) → Told (element_address e)
address_told e = tested_told e e.test

with_operand_told : (op : ℕ) (s : Simple) → Told (with_operand op s)
with_operand_told op (simple.Number w) = refl
with_operand_told op (simple.Contents (cell.Word f n)) = refl
with_operand_told op (simple.Contents (cell.Frame n)) = refl
with_operand_told op (simple.Element e) = both (element_address e) (operation op (simple.Element e) ∷ []) (address_told e) refl

product_with_told : (s : Simple) → Told (product_with s)
product_with_told (simple.Number w) = refl
product_with_told (simple.Contents (cell.Word f n)) = refl
product_with_told (simple.Contents (cell.Frame n)) = refl
product_with_told (simple.Element e) = both (element_address e) (coded.Whole (load ax at_si) ∷ coded.Whole (multiply cx) ∷ []) (address_told e) refl

-- ---- bounds and rows

formed_told : (family first : ℕ) (f : Form) → Told (formed family first f)
formed_told family first (form.Element span line) = refl
formed_told family first (form.Entry width word span line) =
    both (times_entry width) (coded.Sum ax (target.Word family (first + word)) ∷ []) (entry_times_told (width == 1) width) refl

below_then : (line count : ℕ) (ps : List Coded) → Told ps → Told (top_below line count ++ ps)
below_then line count ps h = h

column_then : (line count : ℕ) (ps : List Coded) → Told ps → Told (column_below line count ++ ps)
column_then line count ps h = h

bounded_told : (b : Bounded) → Told (bounded_address b)
bounded_told b =
    let count = indexes_between (b.bounds.upper -ℤ b.bounds.lower) in
    let last : List Coded = formed b.family b.first b.form in
    both (top_from_lower b.bounds.lower) (top_below b.bounds.line count ++ last) (top_told b.bounds.lower)
    (below_then b.bounds.line count last (formed_told b.family b.first b.form))

second_told : (c : Column) → Told (column_loaded c)
second_told (column.Number w) = refl
second_told (column.Contents x) = loaded_told x

summed_told : (r : Row) → Told (row_summed r)
summed_told r =
    let f : Form = form.Entry r.width 0 r.span r.columns.line in
    both (formed r.family r.first f) (coded.Whole (add ax si) ∷ []) (formed_told r.family r.first f) refl

column_told : (r : Row) → Told (column_tested r)
column_told r =
    let count = indexes_between (r.columns.upper -ℤ r.columns.lower) in
    let last : List Coded = column_below r.columns.line count ++ row_summed r in
    both (column_loaded r.column) (from_lower r.columns.lower ++ last) (second_told r.column)
    (both (from_lower r.columns.lower) last (lower_told r.columns.lower) (column_then r.columns.line count (row_summed r) (summed_told r)))

row_told : (r : Row) → Told (row_address r)
row_told r =
    let count = indexes_between (r.rows.upper -ℤ r.rows.lower) in
    both (top_from_lower r.rows.lower) (top_below r.rows.line count ++ column_tested r) (top_told r.rows.lower)
    (below_then r.rows.line count (column_tested r) (column_told r))

-- ---- blocks

check_told : (short : Bool) (line place to : ℕ) → Told (checked_by short line place to)
check_told true line place to = refl
check_told false line place to = refl

branch_told : (short : Bool) (c : Comparator) (place to : ℕ) → Told (branch_by short c place to)
branch_told true c place to = refl
branch_told false c place to = refl

checked_told : (names : Names) (place number : ℕ) (short : Bool) (ps : List Coded) (line : ℕ) → Told ps
    → Told (ps ++ checked_by short line (place + pieces_size ps) (call_place names number))
checked_told names place number short ps line h =
    both ps (checked_by short line (place + pieces_size ps) (call_place names number)) h
    (check_told short line (place + pieces_size ps) (call_place names number))

operated_told : (names : Names) (place number : ℕ) (short : Bool) (s : Simple) (u : Use) → Told (operated names place number short s u)
operated_told names place number short s (uses.Add line) = checked_told names place number short (with_operand 0 s) line (with_operand_told 0 s)
operated_told names place number short s (uses.Subtract line) = checked_told names place number short (with_operand 5 s) line (with_operand_told 5 s)
operated_told names place number short s (uses.Multiply line) = checked_told names place number short (product_with s) line (product_with_told s)
operated_told names place number short s uses.Mask = with_operand_told 4 s
operated_told names place number short s uses.Union = with_operand_told 1 s
operated_told names place number short s uses.Differ = with_operand_told 6 s
operated_told names place number short s (uses.Compare c m) =
    both (with_operand 7 s) (branch_by short c (place + pieces_size (with_operand 7 s)) (mark_place names m)) (with_operand_told 7 s)
    (branch_told short c (place + pieces_size (with_operand 7 s)) (mark_place names m))

pub block_told : (names : Names) (place number : ℕ) (short : Bool) (b : Block) (o : Order) → Told (block_pieces names place number short b o)
block_told names place number short block.Single o = order_told short names place number o
block_told names place number short (block.Fetch x) o = loads_told x
block_told names place number short (block.Assign x) o = stores_told x
block_told names place number short (block.Operate s u) o = operated_told names place number short s u
block_told names place number short (block.FetchPart x t b is_signed) o = part_loaded_told x t b is_signed
block_told names place number short (block.AssignPart x t b) o =
    both (shifted_up b) (address_pieces x ++ operate_place 6 x ∷ coded.Whole (with_number 4 (field_mask t b)) ∷ change_place 6 x ∷ [])
    (shifted_told (shift_up_once ax) (shift_up ax) b) (part_changed_told x t b)
block_told names place number short (block.FetchElement e) o = both (element_address e) (coded.Whole (load ax at_si) ∷ []) (address_told e) refl
block_told names place number short (block.AssignElement e) o = both (element_address e) (coded.Whole (store at_si ax) ∷ []) (address_told e) refl
block_told names place number short (block.Count down line) o = check_told short line (place + 1) (call_place names number)
block_told names place number short (block.Halve w power places line) o = shifted_told (shift_down_signed_once ax) (shift_down_signed ax) places
block_told names place number short (block.Bounded b) o = bounded_told b
block_told names place number short (block.Row r) o = row_told r
block_told names place number short (block.CompareWord n w c m) o =
    branch_told short c (place + pieces_size (word_compared n w)) (mark_place names m)
block_told names place number short _ o = refl

-- ---- a segment

templates_told : (names : Names) (place number left : ℕ) (os : List Order) → Told (templates names place number left os)
templates_told names place number left [] = refl
templates_told names place number left (o ∷ os) =
    let b = block_at left (o ∷ os) in
    let short = is_short names.reach number b o in
    both (block_pieces names place number short b o) (templates names (place + block_size short b o) (suc number) (orders_left b) os)
    (block_told names place number short b o) (templates_told names (place + block_size short b o) (suc number) (orders_left b) os)

landing_where_told : (has : Bool) (names : Names) (place : ℕ) (m : LabelMark) → Told (landing_where has names place m)
landing_where_told true names place m = landing_told names place m
landing_where_told false names place m = refl

landings_told : (names : Names) (named : ℕ → Bool) (place label : ℕ) (ms : List LabelMark) → Told (landings names named place label ms)
landings_told names named place l [] = refl
landings_told names named place l (m ∷ ms) =
    let has = has_landing named l m in
    both (landing_where has names place m) (landings names named (place + landing_bytes has) (suc l) ms) (landing_where_told has names place m)
    (landings_told names named (place + landing_bytes has) (suc l) ms)

switch_where_told : (has : Bool) (names : Names) (place : ℕ) (gs : List Goal) → Told (switch_where has names place gs)
switch_where_told true names place gs = switch_told names place gs
switch_where_told false names place gs = refl

switches_told : (names : Names) (named : ℕ → Bool) (place switch : ℕ) (gss : List (List Goal)) → Told (switches names named place switch gss)
switches_told names named place n [] = refl
switches_told names named place n (gs ∷ rest) =
    both (switch_where (named n) names place gs) (switches names named (place + switch_bytes (named n) gs) (suc n) rest)
    (switch_where_told (named n) names place gs) (switches_told names named (place + switch_bytes (named n) gs) (suc n) rest)

pub segment_told : (o : Orders) → Told (pieces_of o)
segment_told o =
    let names = names_of o in
    let landed : List Coded = landings names (is_named_label o) (landings_place o) 0 o.labels in
    let last : List Coded = switches names (is_named_switch o) (switches_place o) 0 o.switches in
    both entry_pieces (templates names entry_size 0 0 o.list ++ (landed ++ last)) entry_pieces_told
    (both (templates names entry_size 0 0 o.list) (landed ++ last) (templates_told names entry_size 0 0 o.list)
    (both landed last (landings_told names (is_named_label o) (landings_place o) 0 o.labels)
    (switches_told names (is_named_switch o) (switches_place o) 0 o.switches)))
