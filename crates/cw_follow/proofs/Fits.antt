-- The numbers that the code of orders and of their blocks has fit their places.
use Rattle.std.proofs.Common.{◌≡◌, ℕ, zero, suc, ◌+◌, ◌<◌, ◌≤◌, List, [], ◌∷◌, ◌++◌, length, drop, sym, ap, ◌∙◌, subst, arith, append_assoc, Some, Bool, true, false, ℤ, refl}
use Rattle.std.specs.Prelude.{slice_get}
use Rattle.cw_order.specs.declared.order.Order.{Order}
use Rattle.cw_order.specs.declared.order.Order.TheVariants as order
use Rattle.cw_order.specs.declared.order.Place.{Place}
use Rattle.cw_order.specs.declared.order.Place.TheVariants as cell
use Rattle.cw_tmpl.specs.declared.blocks.Element.{Element}
use Rattle.cw_tmpl.specs.declared.blocks.Test.{Test}
use Rattle.cw_tmpl.specs.declared.blocks.Test.TheVariants as test
use Rattle.cw_tmpl.specs.declared.blocks.Simple.{Simple}
use Rattle.cw_tmpl.specs.declared.blocks.Simple.TheVariants as simple
use Rattle.cw_tmpl.specs.declared.blocks.Form.{Form}
use Rattle.cw_tmpl.specs.declared.blocks.Form.TheVariants as form
use Rattle.cw_tmpl.specs.declared.rows.Column.{Column}
use Rattle.cw_tmpl.specs.declared.rows.Column.TheVariants as column
use Rattle.cw_tmpl.specs.declared.rows.Row.{Row}
use Rattle.cw_tmpl.specs.declared.blocks.Use.{Use}
use Rattle.cw_tmpl.specs.declared.blocks.Block.{Block}
use Rattle.cw_tmpl.specs.declared.blocks.Block.TheVariants as block
use Rattle.cw_tmpl.specs.Blocks.{address_orders, bounds_orders, column_orders, orders_in_row, orders_to_row, row_order, element_orders, form_order, operand_orders, order_of, count_order, block_at}
use Rattle.cw_tmpl.proofs.Shapes.{IsBlock, shape}
use Rattle.cw_follow.proofs.Halves.{part_of, few_places}
use Rattle.cw_word.specs.FixedPoint.{FitsWord}
use Rattle.cw_order.specs.HasCode.{HasCode}
use Rattle.cw_order.specs.OrderLines.{line_of}

-- the numbers in an order that its code has: a word that it puts, and its line
abbrev pub NumberFits : Order → Type 0
NumberFits (order.Const w) = w < 65536
NumberFits _ = Unit {0}

abbrev pub OrderFits : Order → Type 0
OrderFits o = NumberFits o × HasCode o × (line_of o < 65536)

-- and those in a block
abbrev pub TestFits : Element → Test → Type 0
TestFits e (test.Address origin) = e.line < 65536
TestFits e (test.Bounds upper line) = FitsWord e.lower × (line < 65536)

abbrev pub ElementFits : Element → Type 0
ElementFits e = TestFits e e.test

abbrev pub SimpleFits : Simple → Type 0
SimpleFits (simple.Number w) = w < 65536
SimpleFits (simple.Contents x) = Unit {0}
SimpleFits (simple.Element e) = ElementFits e

abbrev pub FormFits : Form → Type 0
FormFits (form.Element span line) = Unit {0}
FormFits (form.Entry width word span line) = width < 65536

abbrev pub ColumnFits : Column → Type 0
ColumnFits (column.Number w) = w < 65536
ColumnFits (column.Contents x) = Unit {0}

abbrev pub RowFits : Row → Type 0
RowFits r =
    FitsWord r.rows.lower × (r.rows.line < 65536) × ColumnFits r.column × FitsWord r.columns.lower × (r.columns.line < 65536)
    × FormFits (form.Entry r.width 0 r.span r.columns.line)

abbrev pub BlockFits : Block → Order → Type 0
BlockFits block.Single o = OrderFits o
BlockFits (block.Divide w line) o = w < 65536
BlockFits (block.Operate s u) o = SimpleFits s × (line_of (order_of u) < 65536)
BlockFits (block.FetchPart x t b is_signed) o = t + b ≤ 16
BlockFits (block.AssignPart x t b) o = t + b ≤ 16
BlockFits (block.FetchElement e) o = ElementFits e
BlockFits (block.AssignElement e) o = ElementFits e
BlockFits (block.Count down line) o = line < 65536
BlockFits (block.Halve w power places line) o = places ≤ 15
BlockFits (block.CompareWord n w c m) o = w < 65536
BlockFits (block.Bounded b) o = FitsWord b.bounds.lower × (b.bounds.line < 65536) × FormFits b.form
BlockFits (block.Row r) o = RowFits r
BlockFits _ o = Unit {0}

-- the numbers of all orders of a list
abbrev pub AllFit : List Order → Type 0
AllFit list = (k : ℕ) (o : Order) → slice_get list k ≡ Some o → OrderFits o

behind_these : (before : List Order) (o : Order) (rest : List Order) → slice_get (before ++ o ∷ rest) (length before) ≡ Some o
behind_these [] o rest = refl
behind_these (x ∷ xs) o rest = behind_these xs o rest

-- the orders that make the address of an element, with such a test, and others behind them
abbrev made : Element → Test → (more rest : List Order) → List Order
made e t more rest =
    ((address_orders e.index ++ order.Load ∷ (bounds_orders e.lower t ++ order.Save ∷ order.Home e.family e.first ∷ order.Element e.lower e.span e.line ∷ [])) ++ more) ++ rest

-- the order that forms it, and the one that compares the index
forms_there : (x : Place) (a b c d : Order) (more rest : List Order) → slice_get (((address_orders x ++ a ∷ b ∷ c ∷ d ∷ []) ++ more) ++ rest) (length (address_orders x) + 3) ≡ Some d
forms_there (cell.Word f n) a b c d more rest = refl
forms_there (cell.Frame n) a b c d more rest = refl

compares_there : (x : Place) (a b : Order) (behind more rest : List Order) → slice_get (((address_orders x ++ a ∷ b ∷ behind) ++ more) ++ rest) (length (address_orders x) + 1) ≡ Some b
compares_there (cell.Word f n) a b behind more rest = refl
compares_there (cell.Frame n) a b behind more rest = refl

-- where the numbers of all of them fit
tested_fits : (e : Element) (t : Test) (more rest : List Order) → ((k : ℕ) (x : Order) → slice_get (made e t more rest) k ≡ Some x → OrderFits x) → TestFits e t
tested_fits e (test.Address origin) more rest each =
    (each (length (address_orders e.index) + 3) (order.Element e.lower e.span e.line)
    (forms_there e.index order.Load order.Save (order.Home e.family e.first) (order.Element e.lower e.span e.line) more rest)).2
tested_fits e (test.Bounds upper line) more rest each =
    let behind : List Order = order.Save ∷ order.Home e.family e.first ∷ order.Element e.lower e.span e.line ∷ [] in
    let h = each (length (address_orders e.index) + 1) (order.InBounds e.lower upper line) (compares_there e.index order.Load (order.InBounds e.lower upper line) behind more rest) in
    (h.1.0, h.2)

pub count_line : (down : Bool) (line : ℕ) → line_of (count_order down line) ≡ line
count_line true line = refl
count_line false line = refl

form_fits : (lower : ℤ) (f : Form) → OrderFits (form_order lower f) → FormFits f
form_fits lower (form.Element span line) h = tt
form_fits lower (form.Entry width word span line) h = let most = h.1.0 in omega arith

-- of an element of two dimensions: the orders that compare the second index and make the address
columns_there : (r : Row) (c : Column) (a b : Order) (rest : List Order) → slice_get ((a ∷ b ∷ (column_orders c ++ orders_in_row r)) ++ row_order r ∷ rest) (length (column_orders c) + 2) ≡ Some (order.InBounds r.columns.lower r.columns.upper r.columns.line)
columns_there r (column.Contents (cell.Word f n)) a b rest = refl
columns_there r _ a b rest = refl

row_there : (r : Row) (c : Column) (a b : Order) (rest : List Order) → slice_get ((a ∷ b ∷ (column_orders c ++ orders_in_row r)) ++ row_order r ∷ rest) (length (column_orders c) + 5) ≡ Some (row_order r)
row_there r (column.Contents (cell.Word f n)) a b rest = refl
row_there r _ a b rest = refl

fits_first : (o : Order) (os : List Order) → AllFit (o ∷ os) → BlockFits (block_at 0 (o ∷ os)) o
fits_first o os fits = cases (block_at 0 (o ∷ os)) (shape (o ∷ os))
  where
    -- that of an order of the block
    fits_as : (k : ℕ) (x : Order) (all : List Order) → o ∷ os ≡ all → slice_get all k ≡ Some x → OrderFits x
    fits_as k x all e is = fits k x (ap (λ l. slice_get l k) e ∙ is)

    simple_fits : (s : Simple) (u : Use) (rest : List Order) → o ∷ os ≡ order.Save ∷ (operand_orders s ++ order_of u ∷ rest) → SimpleFits s
    simple_fits (simple.Number w) u rest e = (fits_as 1 (order.Const w) _ e refl).0
    simple_fits (simple.Contents x) u rest e = tt
    simple_fits (simple.Element x) u rest e =
        tested_fits x x.test (order.Load ∷ []) (order_of u ∷ rest) (λ k y is. fits_as (suc k) y _ e is)

    -- an element, with one order behind it
    element_front : (x : Element) (last : Order) (rest : List Order) (k : ℕ) (y : Order) → slice_get (made x x.test (last ∷ []) rest) k ≡ Some y → slice_get (element_orders x ++ last ∷ rest) k ≡ Some y
    element_front x last rest k y is = ap (λ l. slice_get l k) (sym (append_assoc (element_orders x) (last ∷ []) rest)) ∙ is

    column_fits : (r : Row) (c : Column) (rest : List Order)
        → o ∷ os ≡ (order.InBounds r.rows.lower r.rows.upper r.rows.line ∷ order.Save ∷ (column_orders c ++ orders_in_row r)) ++ row_order r ∷ rest → ColumnFits c
    column_fits r (column.Number w) rest e = (fits_as 2 (order.Const w) _ e refl).0
    column_fits r (column.Contents x) rest e = tt

    cases : (b : Block) → IsBlock b (o ∷ os) → BlockFits b o
    cases (block.Within n) sh = tt
    cases block.Single sh = fits 0 o refl
    cases (block.Fetch x) sh = tt
    cases (block.Assign x) sh = tt
    cases block.Write sh = tt
    cases (block.Divide w line) sh = (fits_as 1 (order.Const w) _ sh.0 refl).0
    cases (block.Operate s u) sh =
        let rest = drop (suc (length (operand_orders s))) os in
        (simple_fits s u rest sh.0, (fits_as (suc (length (operand_orders s))) (order_of u) _ sh.0 (behind_these (operand_orders s) (order_of u) rest)).2)
    cases (block.FetchPart x t b is_signed) sh = (part_of t b sh.1).1
    cases (block.AssignPart x t b) sh = (part_of t b sh.1).1
    cases (block.FetchElement e) sh =
        let rest = drop (length (element_orders e)) os in
        tested_fits e e.test (order.Load ∷ []) rest (λ k y is. fits_as k y _ sh.0 (element_front e order.Load rest k y is))
    cases (block.AssignElement e) sh =
        let rest = drop (suc (length (element_orders e))) os in
        tested_fits e e.test (order.Store ∷ []) rest (λ k y is. fits_as (suc k) y _ sh.0 (element_front e order.Store rest k y is))
    cases (block.Count down line) sh = subst (λ n. n < 65536) (count_line down line) (fits_as 2 (count_order down line) _ sh refl).2
    cases (block.Halve w power places line) sh = few_places w power places sh.1
    cases (block.FetchBoth n m) sh = tt
    cases (block.CompareWord n w c m) sh = (fits_as 3 (order.Const w) _ sh refl).0
    cases (block.Bounded b) sh =
        let h = fits_as 0 (order.InBounds b.bounds.lower b.bounds.upper b.bounds.line) _ sh.0 refl in
        (h.1.0, h.2, form_fits b.bounds.lower b.form (fits_as 3 (form_order b.bounds.lower b.form) _ sh.0 refl))
    cases (block.Row r) sh =
        let first_order : Order = order.InBounds r.rows.lower r.rows.upper r.rows.line in
        let rest = drop (length (orders_to_row r)) os in
        let first = fits_as 0 first_order _ sh.0 refl in
        let second = fits_as (length (column_orders r.column) + 2) (order.InBounds r.columns.lower r.columns.upper r.columns.line) _ sh.0 (columns_there r r.column first_order order.Save rest) in
        let made = fits_as (length (column_orders r.column) + 5) (row_order r) _ sh.0 (row_there r r.column first_order order.Save rest) in
        let most = made.1.2 in
        (first.1.0, first.2, column_fits r r.column rest sh.0, second.1.0, second.2, (let few : r.width < 65536 = omega arith in few))

fits_front : (left : ℕ) (o : Order) (os : List Order) → AllFit (o ∷ os) → BlockFits (block_at left (o ∷ os)) o
fits_front zero o os fits = fits_first o os fits
fits_front (suc n) o os fits = tt

pub fits_at : (left : ℕ) (list : List Order) (k : ℕ) (o : Order) → slice_get list k ≡ Some o → AllFit list → BlockFits (block_at left (drop k list)) o
fits_at left [] k o e fits = absurd (cc)
fits_at left (x ∷ xs) zero o e fits =
    let same : x ≡ o = cc in
    subst (BlockFits (block_at left (x ∷ xs))) same (fits_front left x xs fits)
fits_at left (x ∷ xs) (suc k) o e fits = fits_at left xs k o e (λ n y is. fits (suc n) y is)
