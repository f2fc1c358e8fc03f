-- Places in the code of a unit: where statements begin, and where what is defined begins.
use Rattle.std.proofs.Common.{◌≡◌, ℕ, zero, suc, ◌+◌, ◌<◌, ◌≤◌, nat_eq, nat_le, nat_lt, List, [], ◌∷◌, ◌++◌, map, length, Bool, true, false, IsTrue, ◌&&◌, ◌||◌, if◌then◌else◌, ℤ, Option, Some, None, slice_get, slice_index, refl, sym, ap, ◌∙◌, subst, arith, drop}
use Rattle.std.proofs.lemmas.Bool.{eqb-true}
use Rattle.std.proofs.lemmas.Option.{slice_get_within}
use Rattle.std.specs.List.{list_all}
use Rattle.cw_order.specs.declared.order.Order.{Order}
use Rattle.cw_order.specs.declared.order.Order.TheVariants as order
use Rattle.cw_order.specs.declared.order.Orders.{Orders}
use Rattle.cw_order.specs.BeginsStatement.{BeginsStatement}
use Rattle.cw_order.specs.declared.order.LabelMark.{LabelMark}
use Rattle.cw_unit.specs.declared.unit.Unit.{Unit as SourceUnit}
use Rattle.cw_unit.specs.declared.unit.Goal.{Goal}
use Rattle.cw_unit.specs.declared.unit.Def.{Def}
use Rattle.cw_unit.specs.declared.unit.Def.TheVariants as def
use Rattle.cw_unit.specs.declared.descriptor.Desc.{Desc}
use Rattle.cw_unit.specs.declared.layout.Family.{Family}
use Rattle.cw_order.specs.declared.order.Place.{Place}
use Rattle.cw_order.specs.declared.order.Place.TheVariants as cell
use Rattle.cw_tmpl.specs.declared.blocks.Element.{Element}
use Rattle.cw_tmpl.specs.declared.blocks.Form.{Form}
use Rattle.cw_tmpl.specs.declared.blocks.Form.TheVariants as form
use Rattle.cw_tmpl.specs.declared.blocks.Test.{Test}
use Rattle.cw_tmpl.specs.declared.blocks.Test.TheVariants as test
use Rattle.cw_tmpl.specs.declared.blocks.Simple.{Simple}
use Rattle.cw_tmpl.specs.declared.blocks.Simple.TheVariants as simple
use Rattle.cw_tmpl.specs.declared.rows.Column.{Column}
use Rattle.cw_tmpl.specs.declared.rows.Column.TheVariants as column
use Rattle.cw_tmpl.specs.declared.rows.Row.{Row}
use Rattle.cw_tmpl.specs.declared.blocks.Use.{Use}
use Rattle.cw_tmpl.specs.declared.blocks.Use.TheVariants as uses
use Rattle.cw_tmpl.specs.declared.blocks.Block.{Block}
use Rattle.cw_tmpl.specs.declared.blocks.Block.TheVariants as block
use Rattle.cw_tmpl.specs.Names.{Reach, mark_place, landing_start, has_landing, landing_bytes, switch_bytes, place_of_one}
use Rattle.cw_tmpl.specs.Named.{is_named_label, is_named_switch}
use Rattle.cw_tmpl.specs.Blocks.{address_orders, element_orders, operand_orders, order_of, count_order, block_at, orders_left, bounds_orders, form_order, column_orders, orders_in_row, orders_to_row, row_order}
use Rattle.cw_tmpl.proofs.Shapes.{IsBlock, shape}
use Rattle.cw_tmpl.specs.Mnemonics.{ax, at_si, load}
use Rattle.cw_tmpl.specs.Templates.{block_size}
use Rattle.cw_tmpl.specs.ShortForms.{is_short, saved}
use Rattle.cw_tmpl.specs.Sizes.{listed_size}
use Rattle.cw_tmpl.specs.ReferenceCode.{switches, entry_size, reach_of, order_places, switch_places, landings_place, switches_place, names_of, mark_starts, label_starts, statement_at, statements_from, orders_code, landing_places, landing_sizes, routine_sizes}
use Rattle.cw_tmpl.proofs.Endings.{saves}
use Rattle.cw_tmpl.proofs.Sizes.{listed as size_alone, element_at_long, size_by, size_to, places_are, mark_start, size_of_templates, landings_at}
use Rattle.cw_tmpl.proofs.Ways.{parts_long, size_of_landings, size_of_switches}
use Rattle.cw_obj.specs.ReferenceObject.{definition_of, definition_place}
use Rattle.cw_object.specs.Fits.{is_word, is_long, fits_definition, fits_statement}
use Rattle.cw_object.specs.IsWritable.{is_defined, are_defined, is_begun, are_begun}
use Rattle.cw_built.specs.Coded.{has_code, lands, is_mark, enters, enters_at, is_entry}
use Rattle.cw_built.specs.Built.{meets}
use Rattle.cw_carry.proofs.Runs.Leading.{Leads}
use Rattle.cw_carry.proofs.Runs.Beginnings.{AreBegun}
use Rattle.cw_writable.proofs.Coded.Fine.{no, both, parts}
use Rattle.cw_writable.proofs.Coded.Numbers.{le_true, lt_true}
use Rattle.cw_writable.specs.Back.Ready.{are_rising}
use Rattle.cw_writable.proofs.Back.Fit.{names_well, Fit, none, next, begun}

-- ---- what is left of a block

-- whether an order can stand behind others in a block
abbrev ends_block : Order → Bool
ends_block order.Save = true
ends_block (order.Const w) = true
ends_block (order.Home family offset) = true
ends_block (order.FrameHome n) = true
ends_block order.Load = true
ends_block order.Store = true
ends_block (order.LoadPart t b is_signed) = true
ends_block (order.StorePart t b) = true
ends_block (order.Element lower span line) = true
ends_block (order.ElementInside lower second width span) = true
ends_block (order.Entry width word span line) = true
ends_block (order.Add line) = true
ends_block (order.Sub line) = true
ends_block (order.JumpIf c m) = true
ends_block (order.Mul s line) = true
ends_block (order.InBounds lower upper line) = true
ends_block order.And = true
ends_block order.Or = true
ends_block order.Xor = true
ends_block (order.Div s line) = true
ends_block order.WriteByte = true
ends_block _ = false

-- the orders that are left of the block before end it
abbrev pub left_over : (left : ℕ) → List Order → Bool
left_over zero os = true
left_over (suc n) [] = false
left_over (suc n) (o ∷ os) = ends_block o && left_over n os

-- all orders of a list end a block
abbrev All-end : List Order → Type 0
All-end os = IsTrue (list_all ends_block os)

end-both : (xs ys : List Order) → All-end xs → All-end ys → All-end (xs ++ ys)
end-both [] ys h k = k
end-both (x ∷ xs) ys h k = let p = parts (ends_block x) (list_all ends_block xs) h in both (ends_block x) (list_all ends_block (xs ++ ys)) p.0 (end-both xs ys p.1 k)

place-ends : (x : Place) → All-end (address_orders x)
place-ends (cell.Word f n) = refl
place-ends (cell.Frame n) = refl

test-ends : (e : Element) (t : Test) → All-end (order.Load ∷ (bounds_orders e.lower t ++ order.Save ∷ order.Home e.family e.first ∷ order.Element e.lower e.span e.line ∷ []))
test-ends e (test.Address origin) = refl
test-ends e (test.Bounds upper line) = refl

element-ends : (e : Element) → All-end (element_orders e)
element-ends e =
    end-both (address_orders e.index) (order.Load ∷ (bounds_orders e.lower e.test ++ order.Save ∷ order.Home e.family e.first ∷ order.Element e.lower e.span e.line ∷ []))
    (place-ends e.index) (test-ends e e.test)

operand-ends : (s : Simple) → All-end (operand_orders s)
operand-ends (simple.Element e) = end-both (element_orders e) (order.Load ∷ []) (element-ends e) refl
operand-ends (simple.Number w) = refl
operand-ends (simple.Contents x) = end-both (address_orders x) (order.Load ∷ []) (place-ends x) refl

use-ends : (u : Use) → IsTrue (ends_block (order_of u))
use-ends (uses.Add line) = refl
use-ends _ = refl

left-before : (xs : List Order) (last : Order) (rest : List Order) → All-end xs → IsTrue (ends_block last) → IsTrue (left_over (suc (length xs)) (xs ++ last ∷ rest))
left-before [] last rest h k = both (ends_block last) true k refl
left-before (x ∷ xs) last rest h k = let p = parts (ends_block x) (list_all ends_block xs) h in both (ends_block x) (left_over (suc (length xs)) (xs ++ last ∷ rest)) p.0 (left-before xs last rest p.1 k)

count-ends : (down : Bool) (line : ℕ) → IsTrue (ends_block (count_order down line))
count-ends true line = refl
count-ends false line = refl

form-ends : (lower : ℤ) (x : Form) → IsTrue (ends_block (form_order lower x))
form-ends lower (form.Element span line) = refl
form-ends lower (form.Entry width word span line) = refl

column-ends : (c : Column) → All-end (column_orders c)
column-ends (column.Number w) = refl
column-ends (column.Contents x) = end-both (address_orders x) (order.Load ∷ []) (place-ends x) refl

row-ends : (r : Row) → All-end (orders_to_row r)
row-ends r = end-both (column_orders r.column) (orders_in_row r) (column-ends r.column) refl

-- where the first order begins the block
left-behind : (xs : List Order) (last : Order) (rest : List Order) → All-end xs → IsTrue (ends_block last) → IsTrue (left_over (length xs) (drop 1 (xs ++ last ∷ rest)))
left-behind [] last rest h k = refl
left-behind (x ∷ xs) last rest h k = left-before xs last rest (parts (ends_block x) (list_all ends_block xs) h).1 k

left-first : (o : Order) (os : List Order) → IsTrue (left_over (orders_left (block_at 0 (o ∷ os))) os)
left-first o os = cases (block_at 0 (o ∷ os)) (shape (o ∷ os))
  where
    left-so : (n : ℕ) (all : List Order) → o ∷ os ≡ all → IsTrue (left_over n (drop 1 all)) → IsTrue (left_over n os)
    left-so n all e h = subst (λ l. IsTrue (left_over n (drop 1 l))) (sym e) h

    cases : (b : Block) → IsBlock b (o ∷ os) → IsTrue (left_over (orders_left b) os)
    cases (block.Within n) sh = absurd sh
    cases block.Single sh = refl
    cases (block.Fetch x) sh = left-so (length (address_orders x)) _ sh (left-behind (address_orders x) order.Load (drop (length (address_orders x)) os) (place-ends x) refl)
    cases (block.Assign x) sh = left-so (suc (length (address_orders x))) _ sh (left-before (address_orders x) order.Store (drop (suc (length (address_orders x))) os) (place-ends x) refl)
    cases block.Write sh = left-so 1 _ sh refl
    cases (block.Divide w line) sh = left-so 2 _ sh.0 refl
    cases (block.FetchPart x t b is_signed) sh = left-so (length (address_orders x)) _ sh.0 (left-behind (address_orders x) (order.LoadPart t b is_signed) (drop (length (address_orders x)) os) (place-ends x) refl)
    cases (block.AssignPart x t b) sh = left-so (suc (length (address_orders x))) _ sh.0 (left-before (address_orders x) (order.StorePart t b) (drop (suc (length (address_orders x))) os) (place-ends x) refl)
    cases (block.FetchElement e) sh = left-so (length (element_orders e)) _ sh.0 (left-behind (element_orders e) order.Load (drop (length (element_orders e)) os) (element-ends e) refl)
    cases (block.AssignElement e) sh = left-so (suc (length (element_orders e))) _ sh.0 (left-before (element_orders e) order.Store (drop (suc (length (element_orders e))) os) (element-ends e) refl)
    cases (block.Count down line) sh = left-so 2 _ sh (left-before (order.Const 1 ∷ []) (count_order down line) (drop 2 os) refl (count-ends down line))
    cases (block.Halve w power places line) sh = left-so 2 _ sh.0 refl
    cases (block.FetchBoth n m) sh = left-so 4 _ sh refl
    cases (block.CompareWord n w c m) sh = left-so 4 _ sh refl
    cases (block.Bounded b) sh =
        left-so 3 _ sh.0 (left-before (order.Save ∷ order.Home b.family b.first ∷ []) (form_order b.bounds.lower b.form) (drop 3 os) refl (form-ends b.bounds.lower b.form))
    cases (block.Row r) sh = left-so (length (orders_to_row r)) _ sh.0 (left-behind (orders_to_row r) (row_order r) (drop (length (orders_to_row r)) os) (row-ends r) refl)
    cases (block.Operate s u) sh = left-so (suc (length (operand_orders s))) _ sh.0 (left-before (operand_orders s) (order_of u) (drop (suc (length (operand_orders s))) os) (operand-ends s) (use-ends u))

left-next : (left : ℕ) (o : Order) (os : List Order) → IsTrue (left_over left (o ∷ os)) → IsTrue (left_over (orders_left (block_at left (o ∷ os))) os)
left-next (suc n) o os h = (parts (ends_block o) (left_over n os) h).1
left-next zero o os h = left-first o os

-- ---- places of orders

module _ (reach : Reach) where
  -- the bytes of a block that begins with the order of a number, and of the orders before a place
  abbrev size-of : (number : ℕ) → Block → Order → ℕ
  size-of number b o = size_by (is_short reach) number b o

  abbrev size-to : (number left : ℕ) → List Order → (place : ℕ) → ℕ
  size-to number left os k = size_to (is_short reach) number left os k

  -- the code of each order begins at the end at the latest
  before-end : (number left : ℕ) (os : List Order) (k : ℕ) → k ≤ length os → size-to number left os k ≤ size-to number left os (length os)
  before-end number left [] zero le = omega arith
  before-end number left [] (suc k) le = absurd (omega (arith, le))
  before-end number left (o ∷ os) zero le = omega arith
  before-end number left (o ∷ os) (suc k) le =
      let z = before-end (suc number) (orders_left (block_at left (o ∷ os))) os k (let y : k ≤ length os = omega (arith, le) in y) in
      omega (arith, z)

  entered-long : (number n : ℕ) → 0 < size-of number block.Single (order.Enter n)
  entered-long number zero = let one : size-of number block.Single (order.Enter zero) ≡ 7 = refl in omega (arith, one)
  entered-long number (suc n) = let one : size-of number block.Single (order.Enter (suc n)) ≡ 34 = refl in omega (arith, one)

  -- and that of an entry before it
  entry-before : (number left : ℕ) (os : List Order) → IsTrue (left_over left os) → (k : ℕ) → IsTrue (enters (slice_get os k)) → size-to number left os k < size-to number left os (length os)
  entry-before number left [] l k h = no h
  entry-before number left (o ∷ os) l (suc k) h =
      let z = entry-before (suc number) (orders_left (block_at left (o ∷ os))) os (left-next left o os l) k h in
      omega (arith, z)
  entry-before number left (order.Enter n ∷ os) l zero h = by_left left l
    where
      by_left : (left : ℕ) → IsTrue (left_over left (order.Enter n ∷ os)) → 0 < size-to number left (order.Enter n ∷ os) (suc (length os))
      by_left zero l = omega (arith, entered-long number n)
      by_left (suc m) l = no l
  entry-before number left (o ∷ os) l zero h = no h

-- ---- statements

no-statement : (n : ℕ) (fs : List Family) (at : ℕ) (o : Order) → IsTrue (names_well n fs o) → statement_at at o ≡ []
no-statement n fs at (order.Start line) h = no h
no-statement n fs at o h = refl

-- the code of an order that begins a statement has a byte
alone-long : (o : Order) → BeginsStatement o → 0 < listed_size o
alone-long (order.Const zero) h = omega arith
alone-long (order.Const (suc w)) h = omega arith
alone-long (order.Home family offset) h = omega arith
alone-long (order.FrameHome n) h = omega arith
alone-long order.ReadByte h = omega arith
alone-long order.WriteByte h = omega arith
alone-long (order.CallProc q line) h = omega arith
alone-long (order.CallCommon d line) h = omega arith
alone-long (order.CallSpecial k line) h = omega arith
alone-long (order.LabelOut l) h = omega arith
alone-long (order.LabelCommon d) h = omega arith
alone-long (order.SwitchOut n) h = omega arith
alone-long (order.SwitchCommon d) h = omega arith
alone-long (order.ProcOut q) h = omega arith
alone-long (order.ProcCommon d) h = omega arith
alone-long (order.SpecialOut k) h = omega arith
alone-long (order.Jump m) h = omega arith
alone-long (order.GoMain m) h = omega arith
alone-long (order.GoCommon d) h = omega arith
alone-long (order.GoSpecial k) h = omega arith
alone-long _ h = absurd h

-- the short form saves not all of them
saved-less : (o : Order) → BeginsStatement o → saved block.Single o < listed_size o
saved-less (order.Jump m) h = omega arith
saved-less (order.JumpIf c m) h = absurd h
saved-less (order.LoopWay marks) h = absurd h
saved-less (order.Add line) h = absurd h
saved-less (order.Sub line) h = absurd h
saved-less (order.Neg line) h = absurd h
saved-less (order.Rescale from to line) h = absurd h
saved-less (order.Mul s line) h = absurd h
saved-less (order.Div s line) h = absurd h
saved-less o h = alone-long o h

-- and so has that of the block which it begins
begins-long : (short : Bool) (o : Order) (os : List Order) → BeginsStatement o → 0 < block_size short (block_at 0 (o ∷ os)) o
begins-long short o os h = cases (block_at 0 (o ∷ os)) (shape (o ∷ os))
  where
    -- a block of such an order begins with an address
    not-so : (all : List Order) → o ∷ os ≡ all → Leads all
    not-so all e = subst Leads e h

    alone : (short : Bool) → 0 < block_size short block.Single o
    alone false = let z = size_alone o in let y = alone-long o h in omega (arith, z, y)
    alone true = let z = size_alone o in let y = saved-less o h in let x = saves block.Single o in omega (arith, z, y, x)

    cases : (b : Block) → IsBlock b (o ∷ os) → 0 < block_size short b o
    cases (block.Within n) sh = absurd sh
    cases block.Single sh = alone short
    cases (block.Fetch (cell.Word f n)) sh = omega arith
    cases (block.Fetch (cell.Frame n)) sh = omega arith
    cases (block.FetchPart (cell.Word f n) t b is_signed) sh = omega arith
    cases (block.FetchPart (cell.Frame n) t b is_signed) sh = omega arith
    cases (block.FetchBoth n m) sh = omega arith
    cases (block.CompareWord n w c m) sh = omega arith
    cases (block.FetchElement e) sh = let z = element_at_long e (load ax at_si) refl in omega (arith, z)
    cases (block.Assign x) sh = absurd (not-so _ sh)
    cases block.Write sh = absurd (not-so _ sh)
    cases (block.Count down line) sh = absurd (not-so _ sh)
    cases _ sh = absurd (not-so _ sh.0)

module _ (reach : Reach) (n : ℕ) (fs : List Family) (places : List ℕ) (size : ℕ) (small : size ≤ 2097120) where
  pub begun-from : (os : List Order) → Fit n fs os → AreBegun os → (number left at low k : ℕ) → IsTrue (left_over left os) → low ≤ at → at + size-to reach number left os (length os) ≤ size
      → ((j : ℕ) → j ≤ length os → slice_index places (k + j) ≡ at + size-to reach number left os j) → IsTrue (list_all has_code os) → IsTrue (are_begun size low (statements_from k places os))
  begun-from _ none g number left at low k l le end here c = refl
  begun-from _ (next o os h r) g number left at low k l le end here c =
      let b = block_at left (o ∷ os) in
      let s = size-of reach number b o in
      let rest = begun-from os r g.1 (suc number) (orders_left b) (at + s) low (k + 1) (left-next left o os l) (let z : low ≤ at + s = omega (arith, le) in z) (let z : at + s + size-to reach (suc number) (orders_left b) os (length os) ≤ size = omega (arith, end) in z)
      (λ j lt. let e : k + 1 + j ≡ k + suc j = omega arith in let z : at + (s + size-to reach (suc number) (orders_left b) os j) ≡ at + s + size-to reach (suc number) (orders_left b) os j = omega arith in ap (slice_index places) e ∙ here (suc j) (let y : suc j ≤ suc (length os) = omega (arith, lt) in y) ∙ z)
      (parts (has_code o) (list_all has_code os) c).1 in
      subst (λ xs. IsTrue (are_begun size low (xs ++ statements_from (k + 1) places os))) (sym (no-statement n fs (slice_index places k) o h)) rest
  begun-from _ (begun line os h r) g number (suc left) at low k l le end here c = no l
  begun-from _ (begun line _ h none) g number zero at low k l le end here c = absurd g.0
  begun-from _ (begun line _ h (begun m os i r)) g number zero at low k l le end here c = absurd g.0
  -- the code of the order behind the Start is that of the statement
  begun-from _ (begun line _ h (next o os m r)) g number zero at low k l le end here c =
      let b = block_at 0 (o ∷ os) in
      let s = size-of reach (suc number) b o in
      let some : 0 < s = begins-long (is_short reach (suc number) b o) o os g.0 in
      let p = slice_index places k in
      let e : k + 0 ≡ k = omega arith in
      let place : p ≡ at = ap (slice_index places) (sym e) ∙ here 0 (let z : 0 ≤ suc (suc (length os)) = omega arith in z) ∙ (let z : at + 0 ≡ at = omega arith in z) in
      let a = parts (has_code (order.Start line)) (list_all has_code (o ∷ os)) c in
      let whole : at + (0 + (s + size-to reach (suc (suc number)) (orders_left b) os (length os))) ≤ size = end in
      let inside : p < size = omega (arith, place, whole, some) in
      let long : p < 4294967296 = omega (arith, inside, small) in
      let above : low ≤ p = omega (arith, place, le) in
      let after : p + 1 ≤ at + s = omega (arith, place, some) in
      let behind : at + s + size-to reach (suc (suc number)) (orders_left b) os (length os) ≤ size = omega (arith, whole) in
      let rest = begun-from os r g.1.1 (suc (suc number)) (orders_left b) (at + s) (p + 1) (k + 1 + 1) (left-first o os) after behind
      (λ j lt. let f : k + 1 + 1 + j ≡ k + suc (suc j) = omega arith in let z : at + (0 + (s + size-to reach (suc (suc number)) (orders_left b) os j)) ≡ at + s + size-to reach (suc (suc number)) (orders_left b) os j = omega arith in ap (slice_index places) f ∙ here (suc (suc j)) (let y : suc (suc j) ≤ suc (suc (length os)) = omega (arith, lt) in y) ∙ z)
      (parts (has_code o) (list_all has_code os) a.1).1 in
      let others = subst (λ xs. IsTrue (are_begun size (p + 1) (xs ++ statements_from (k + 1 + 1) places os))) (sym (no-statement n fs (slice_index places (k + 1)) o m)) rest in
      both (is_begun size low (p, line)) (are_begun size (p + 1) (statements_from (k + 1) places (o ∷ os)))
      (both (fits_statement (p, line)) (nat_le low p && nat_lt p size) (both (is_long p) (is_word line && nat_le 1 line) (lt_true p 4294967296 long) (both (is_word line) (nat_le 1 line) a.0 (le_true 1 line h)))
      (both (nat_le low p) (nat_lt p size) (le_true low p above) (lt_true p size inside)))
      others

-- ---- the length of the code

abbrev InBody : List LabelMark → ℕ → Type 0
InBody ms l = (m : LabelMark) → slice_get ms l ≡ Some m → m.in_procedure ≡ false

-- what is defined in common is outside of procedures
abbrev pub Outside : Orders → Def → Type 0
Outside o (def.Label l) = InBody o.labels l
Outside o _ = Unit {0}

module _ (o : Orders) where
  abbrev pub Whole : ℕ
  Whole = length (orders_code o).bytes

  pub code-long : Whole ≡ entry_size + (size-to (reach_of o) 0 0 o.list (length o.list) + (landing_sizes (is_named_label o) 0 o.labels + routine_sizes (is_named_switch o) 0 o.switches))
  code-long =
      let N = names_of o in
      omega (arith, parts_long o, size_of_templates N entry_size 0 0 o.list, size_of_landings N (is_named_label o) (landings_place o) 0 o.labels, size_of_switches N (is_named_switch o) (switches_place o) 0 o.switches)

  pub statements : (n : ℕ) (fs : List Family) → Whole ≤ 2097120 → Fit n fs o.list → AreBegun o.list → IsTrue (list_all has_code o.list) → IsTrue (are_begun Whole 0 (orders_code o).statements)
  statements n fs small fit begin coded =
      let long = code-long in
      begun-from (reach_of o) n fs (order_places o) Whole small o.list fit begin 0 0 entry_size 0 0 refl (let z : 0 ≤ entry_size = omega arith in z) (let z : entry_size + size-to (reach_of o) 0 0 o.list (length o.list) ≤ Whole = omega (arith, long) in z)
      (λ j le. let e : 0 + j ≡ j = omega arith in ap (slice_index (order_places o)) e ∙ places_are (is_short (reach_of o)) entry_size 0 0 o.list j le) coded

  -- ---- definitions

  module _ (marked : IsTrue (list_all (is_mark o.list) o.marks)) (entered : IsTrue (list_all (is_entry o.list o.marks) o.procedures)) where
    abbrev End : ℕ
    End = entry_size + size-to (reach_of o) 0 0 o.list (length o.list)

    order-inside : (k : ℕ) → k ≤ length o.list → slice_index (order_places o) k ≤ End
    order-inside k le =
        let at : slice_index (order_places o) k ≡ entry_size + size-to (reach_of o) 0 0 o.list k = places_are (is_short (reach_of o)) entry_size 0 0 o.list k le in
        let z = before-end (reach_of o) 0 0 o.list k le in
        omega (arith, at, z)

    index-mark : (ms : List ℕ) → IsTrue (list_all (is_mark o.list) ms) → (k : ℕ) → IsTrue (is_mark o.list (slice_index ms k))
    index-mark [] h k = refl
    index-mark (m ∷ ms) h zero = (parts (is_mark o.list m) (list_all (is_mark o.list) ms) h).0
    index-mark (m ∷ ms) h (suc k) = index-mark ms (parts (is_mark o.list m) (list_all (is_mark o.list) ms) h).1 k

    marked-inside : (place : ℕ) → IsTrue (is_mark o.list place) → slice_index (order_places o) place ≤ End
    marked-inside place h = by_test (nat_eq place 0) refl h
      where
        by_order : (x : Option Order) → slice_get o.list place ≡ x → IsTrue (lands x) → slice_index (order_places o) place ≤ End
        by_order None e h = no h
        by_order (Some x) e h = let lt = slice_get_within o.list place x e in order-inside place (let z : place ≤ length o.list = omega (arith, lt) in z)

        by_test : (b : Bool) → nat_eq place 0 ≡ b → IsTrue (b || lands (slice_get o.list place)) → slice_index (order_places o) place ≤ End
        by_test true e h = subst (λ k. slice_index (order_places o) k ≤ End) (sym (eqb-true place 0 e)) (order-inside 0 (let z : 0 ≤ length o.list = omega arith in z))
        by_test false e h = by_order (slice_get o.list place) refl h

    -- a mark may stand behind all code of the orders
    mark-inside : (m : ℕ) → mark_starts o m ≤ End
    mark-inside m = marked-inside (slice_index o.marks m) (index-mark o.marks marked m)

    -- but that of a procedure stands at its entry
    entry-inside : (m : ℕ) → IsTrue (is_entry o.list o.marks m) → mark_starts o m < Whole
    entry-inside m h = by_mark (slice_get o.marks m) refl h
      where
        by_order : (place : ℕ) (x : Option Order) → slice_get o.marks m ≡ Some place → slice_get o.list place ≡ x → IsTrue (enters x) → mark_starts o m < Whole
        by_order place None e f k = no k
        by_order place (Some x) e f k =
            let long = code-long in
            let lt = slice_get_within o.list place x f in
            let at : mark_starts o m ≡ entry_size + size-to (reach_of o) 0 0 o.list place = mark_start o m place e (let z : place ≤ length o.list = omega (arith, lt) in z) in
            let before = entry-before (reach_of o) 0 0 o.list refl place (subst (λ y. IsTrue (enters y)) (sym f) k) in
            omega (arith, long, at, before)

        by_mark : (x : Option ℕ) → slice_get o.marks m ≡ x → IsTrue (enters_at o.list x) → mark_starts o m < Whole
        by_mark None e h = no h
        by_mark (Some place) e h = by_order place (slice_get o.list place) e refl h

    some-code : 0 < Whole
    some-code = let long = code-long in let entry : entry_size ≡ 11 = refl in omega (arith, long, entry)

    procedure-inside : (ms : List ℕ) → IsTrue (list_all (is_entry o.list o.marks) ms) → (q : ℕ) → slice_index (map (mark_starts o) ms) q < Whole
    procedure-inside [] h q = some-code
    procedure-inside (m ∷ ms) h zero = entry-inside m (parts (is_entry o.list o.marks m) (list_all (is_entry o.list o.marks) ms) h).0
    procedure-inside (m ∷ ms) h (suc q) = procedure-inside ms (parts (is_entry o.list o.marks m) (list_all (is_entry o.list o.marks) ms) h).1 q

    -- where something has its place, if there is one
    one-inside : (has : Bool) (at size : ℕ) → at + size ≤ Whole → (has ≡ true → 0 < size) → place_of_one has at < Whole
    one-inside true at size le some = let z = some refl in omega (arith, le, z)
    one-inside false at size le some = some-code

    landing-some : (has : Bool) (rest : ℕ) → has ≡ true → 0 < landing_bytes has + rest
    landing-some true rest e = omega arith
    landing-some false rest e = absurd (cc)

    landing-inside : (at n : ℕ) (ms : List LabelMark) (l : ℕ) → at + landing_sizes (is_named_label o) n ms ≤ Whole → slice_index (landing_places (is_named_label o) at n ms) l < Whole
    landing-inside at n [] l le = some-code
    landing-inside at n (m ∷ ms) zero le =
        let has = has_landing (is_named_label o) n m in
        one-inside has at (landing_bytes has + landing_sizes (is_named_label o) (suc n) ms) le (landing-some has (landing_sizes (is_named_label o) (suc n) ms))
    landing-inside at n (m ∷ ms) (suc l) le =
        let size = landing_bytes (has_landing (is_named_label o) n m) in
        landing-inside (at + size) (suc n) ms l (let z : at + size + landing_sizes (is_named_label o) (suc n) ms ≤ Whole = omega (arith, le) in z)

    -- a label of the segment's body is reached by its landing
    label-inside : (first : ℕ) (ms : List LabelMark) (l : ℕ) → InBody ms l → slice_index (label_starts (names_of o) first ms) l < Whole
    label-inside first [] l body = some-code
    label-inside first (m ∷ ms) zero body =
        let long = code-long in
        let at = landings_at o in
        let inside = landing-inside (landings_place o) 0 o.labels first (let z : landings_place o + landing_sizes (is_named_label o) 0 o.labels ≤ Whole = omega (arith, long, at) in z) in
        subst (λ b. (if b then mark_place (names_of o) m.mark else landing_start (names_of o) first) < Whole) (sym (body m refl)) inside
    label-inside first (m ∷ ms) (suc l) body = label-inside (first + 1) ms l (λ x e. body x e)

    routine-some : (has : Bool) (gs : List Goal) (rest : ℕ) → has ≡ true → 0 < switch_bytes has gs + rest
    routine-some true gs rest e = omega arith
    routine-some false gs rest e = absurd (cc)

    switch-inside : (at n : ℕ) (list : List (List Goal)) (s : ℕ) → at + routine_sizes (is_named_switch o) n list ≤ Whole → slice_index (switch_places (is_named_switch o) at n list) s < Whole
    switch-inside at n [] s le = some-code
    switch-inside at n (gs ∷ rest) zero le =
        let has = is_named_switch o n in
        one-inside has at (switch_bytes has gs + routine_sizes (is_named_switch o) (suc n) rest) le (routine-some has gs (routine_sizes (is_named_switch o) (suc n) rest))
    switch-inside at n (gs ∷ rest) (suc s) le =
        let size = switch_bytes (is_named_switch o n) gs in
        switch-inside (at + size) (suc n) rest s (let z : at + size + routine_sizes (is_named_switch o) (suc n) rest ≤ Whole = omega (arith, le) in z)

    definition-inside : (d : Def) → Outside o d → definition_place (orders_code o) d < Whole
    definition-inside (def.Proc q) outside = procedure-inside o.procedures entered q
    definition-inside (def.Label l) outside = label-inside 0 o.labels l outside
    definition-inside (def.Switch s) outside =
        let long = code-long in
        let at = landings_at o in
        switch-inside (switches_place o) 0 o.switches s (let z : switches_place o + routine_sizes (is_named_switch o) 0 o.switches ≤ Whole = omega (arith, long, at) in z)

    module _ (u : SourceUnit) (few : length u.descs ≤ 65536) (small : Whole ≤ 2097120) (outside : (y : Option Desc) (x : Def) → IsTrue (meets u y x) → Outside o x) where
      listed : (d : ℕ) (x : Def) → IsTrue (meets u (slice_get u.descs d) x) → d < length u.descs
      listed d x h = by_descriptor (slice_get u.descs d) refl h
        where
          by_descriptor : (y : Option Desc) → slice_get u.descs d ≡ y → IsTrue (meets u y x) → d < length u.descs
          by_descriptor None e h = no h
          by_descriptor (Some y) e h = slice_get_within u.descs d y e

      pub definitions : (low : ℕ) (ds : List (ℕ × Def)) → IsTrue (are_rising low ds) → IsTrue (list_all (λ (d : ℕ × Def). meets u (slice_get u.descs d.0) d.1) ds) → IsTrue (are_defined (length u.descs) (orders_code o) low ds)
      definitions low [] rise met = refl
      definitions low (d ∷ ds) rise met =
          let p = parts (nat_le low d.0) (are_rising (d.0 + 1) ds) rise in
          let q = parts (meets u (slice_get u.descs d.0) d.1) (list_all (λ (x : ℕ × Def). meets u (slice_get u.descs x.0) x.1) ds) met in
          let there = listed d.0 d.1 q.0 in
          let word : d.0 < 65536 = omega (arith, there, few) in
          let place = definition_place (orders_code o) d.1 in
          let inside : place < Whole = definition-inside d.1 (outside (slice_get u.descs d.0) d.1 q.0) in
          let long : place < 4294967296 = omega (arith, inside, small) in
          both (is_defined (length u.descs) Whole low (definition_of (orders_code o) d)) (are_defined (length u.descs) (orders_code o) (d.0 + 1) ds)
          (both (fits_definition (d.0, place)) (nat_le low d.0 && (nat_lt d.0 (length u.descs) && nat_lt place Whole)) (both (is_word d.0) (is_long place) (lt_true d.0 65536 word) (lt_true place 4294967296 long))
          (both (nat_le low d.0) (nat_lt d.0 (length u.descs) && nat_lt place Whole) p.0 (both (nat_lt d.0 (length u.descs)) (nat_lt place Whole) (lt_true d.0 (length u.descs) there) (lt_true place Whole inside))))
          (definitions (d.0 + 1) ds p.1 q.1)
