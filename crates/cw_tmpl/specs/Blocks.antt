-- How the orders of a list stand in blocks. A block has one piece of code. Its orders but the last only save the top operand, put a word, or
-- make the address of an element; the code leaves that operand where it is, and takes the word from its own instruction or from memory. Of two
-- words of the frame that are put, the first one is pushed. The address of an element may stop, and so may the comparison of an index with bounds. A
-- mark stands at the first order of a block alone. Where a block begins with the comparison of an index with bounds, that index is the top operand.
use Rattle.std.specs.Prelude.{◌≡◌, ℕ, zero, suc, ◌+◌, ◌*◌, ◌-◌, ◌==◌, ◌&&◌, if◌then◌else◌, nat_lt, nat_le, int_le, ◌-ℤ◌, ℤ, pos}
use Rattle.std.specs.Prelude.{negsuc, Bool, true, false, List, [], ◌∷◌, ◌++◌, length, drop, Option, Some, None, slice_get}
use Rattle.cw_order.specs.declared.order.Order.{Order}
use Rattle.cw_order.specs.declared.order.Order.TheVariants as order
use Rattle.cw_order.specs.declared.order.Place.{Place}
use Rattle.cw_order.specs.declared.order.Place.TheVariants as cell
use Rattle.cw_tmpl.specs.declared.blocks.Element.{Element}
use Rattle.cw_tmpl.specs.declared.blocks.Bounds.{Bounds}
use Rattle.cw_tmpl.specs.declared.blocks.Test.{Test}
use Rattle.cw_tmpl.specs.declared.blocks.Test.TheVariants as test
use Rattle.cw_tmpl.specs.declared.blocks.Simple.{Simple}
use Rattle.cw_tmpl.specs.declared.blocks.Simple.TheVariants as simple
use Rattle.cw_tmpl.specs.declared.blocks.Form.{Form}
use Rattle.cw_tmpl.specs.declared.blocks.Form.TheVariants as form
use Rattle.cw_tmpl.specs.declared.blocks.Bounded.{Bounded}
use Rattle.cw_tmpl.specs.declared.operands.Home.{Home}
use Rattle.cw_tmpl.specs.declared.operands.Array.{Array}
use Rattle.cw_tmpl.specs.declared.rows.Column.{Column}
use Rattle.cw_tmpl.specs.declared.rows.Column.TheVariants as column
use Rattle.cw_tmpl.specs.declared.rows.Item.{Item}
use Rattle.cw_tmpl.specs.declared.rows.Row.{Row}
use Rattle.cw_tmpl.specs.declared.blocks.Use.{Use}
use Rattle.cw_tmpl.specs.declared.blocks.Use.TheVariants as uses
use Rattle.cw_tmpl.specs.declared.blocks.Block.{Block}
use Rattle.cw_tmpl.specs.declared.blocks.Block.TheVariants as block

-- ---- the orders of a block

-- those that put the address of a place
abbrev pub address_orders : Place → List Order
address_orders (cell.Word f n) = order.Home f n ∷ []
address_orders (cell.Frame n) = order.FrameHome n ∷ []

-- those that compare an index with its bounds
abbrev pub bounds_orders : (lower : ℤ) → Test → List Order
bounds_orders lower (test.Address origin) = []
bounds_orders lower (test.Bounds upper line) = order.InBounds lower upper line ∷ []

-- those that make the address of an element whose index stands at a place
abbrev pub element_orders : Element → List Order
element_orders e =
    address_orders e.index
    ++ order.Load ∷ (bounds_orders e.lower e.test ++ order.Save ∷ order.Home e.family e.first ∷ order.Element e.lower e.span e.line ∷ [])

-- those from the comparison of an index with bounds to the order that forms an address of it
abbrev pub orders_to_form : Bounded → List Order
orders_to_form b = order.InBounds b.bounds.lower b.bounds.upper b.bounds.line ∷ order.Save ∷ order.Home b.family b.first ∷ []

-- and that order
abbrev pub form_order : (lower : ℤ) → Form → Order
form_order lower (form.Element span line) = order.Element lower span line
form_order lower (form.Entry width word span line) = order.Entry width word span line

-- those that put a second index
abbrev pub column_orders : Column → List Order
column_orders (column.Number w) = order.Const w ∷ []
column_orders (column.Contents x) = address_orders x ++ order.Load ∷ []

-- those that compare it, and put the address of the first word
abbrev pub orders_in_row : Row → List Order
orders_in_row r = order.InBounds r.columns.lower r.columns.upper r.columns.line ∷ order.Save ∷ order.Home r.family r.first ∷ []

-- those from the comparison of the first index of two with bounds to the order that makes an address of both
abbrev pub orders_to_row : Row → List Order
orders_to_row r = order.InBounds r.rows.lower r.rows.upper r.rows.line ∷ order.Save ∷ (column_orders r.column ++ orders_in_row r)

-- and that order
abbrev pub row_order : Row → Order
row_order r = order.ElementInside r.rows.lower r.columns.lower r.width r.span

-- those that put a simple operand
abbrev pub operand_orders : Simple → List Order
operand_orders (simple.Number w) = order.Const w ∷ []
operand_orders (simple.Contents x) = address_orders x ++ order.Load ∷ []
operand_orders (simple.Element e) = element_orders e ++ order.Load ∷ []

-- the order that takes it
abbrev pub order_of : Use → Order
order_of (uses.Add line) = order.Add line
order_of (uses.Subtract line) = order.Sub line
order_of (uses.Multiply line) = order.Mul (pos 0) line
order_of uses.Mask = order.And
order_of uses.Union = order.Or
order_of uses.Differ = order.Xor
order_of (uses.Compare c m) = order.JumpIf c m

-- all but the last one
abbrev pub orders_before : Block → List Order
orders_before (block.Within n) = []
orders_before block.Single = []
orders_before (block.Fetch x) = address_orders x
orders_before (block.Assign x) = order.Save ∷ address_orders x
orders_before block.Write = order.Save ∷ []
orders_before (block.Divide w line) = order.Save ∷ order.Const w ∷ []
orders_before (block.Operate s u) = order.Save ∷ operand_orders s
orders_before (block.FetchPart x t b is_signed) = address_orders x
orders_before (block.AssignPart x t b) = order.Save ∷ address_orders x
orders_before (block.FetchElement e) = element_orders e
orders_before (block.AssignElement e) = order.Save ∷ element_orders e
orders_before (block.Count down line) = order.Save ∷ order.Const 1 ∷ []
orders_before (block.Halve w power places line) = order.Save ∷ order.Const w ∷ []
orders_before (block.Bounded b) = orders_to_form b
orders_before (block.Row r) = orders_to_row r
orders_before (block.CompareWord n w c m) = order.FrameHome n ∷ order.Load ∷ order.Save ∷ order.Const w ∷ []
orders_before (block.FetchBoth n m) = order.FrameHome n ∷ order.Load ∷ order.Save ∷ order.FrameHome m ∷ []

-- one more, and one less
abbrev pub count_order : (down : Bool) → (line : ℕ) → Order
count_order true line = order.Sub line
count_order false line = order.Add line

-- and that one, where there are several
abbrev pub last_order : Block → Order
last_order (block.Within n) = order.Mark
last_order block.Single = order.Mark
last_order (block.Fetch x) = order.Load
last_order (block.Assign x) = order.Store
last_order block.Write = order.WriteByte
last_order (block.Divide w line) = order.Div (pos 0) line
last_order (block.Operate s u) = order_of u
last_order (block.FetchPart x t b is_signed) = order.LoadPart t b is_signed
last_order (block.AssignPart x t b) = order.StorePart t b
last_order (block.FetchElement e) = order.Load
last_order (block.AssignElement e) = order.Store
last_order (block.Count down line) = count_order down line
last_order (block.Halve w power places line) = order.Mul power line
last_order (block.Bounded b) = form_order b.bounds.lower b.form
last_order (block.Row r) = row_order r
last_order (block.CompareWord n w c m) = order.JumpIf c m
last_order (block.FetchBoth n m) = order.Load

-- how many orders follow in the block
abbrev pub orders_left : Block → ℕ
orders_left (block.Within n) = n
orders_left b = length (orders_before b)

-- ---- the block of a list

-- the place whose address the first orders put
abbrev pub place_at : List Order → Option Place
place_at (order.Home f n ∷ os) = Some (cell.Word f n)
place_at (order.FrameHome n ∷ os) = Some (cell.Frame n)
place_at _ = None

-- an order that takes two operands, and can take the top one from an instruction
abbrev pub use_of : Option Order → Option Use
use_of (Some (order.Add line)) = Some (uses.Add line)
use_of (Some (order.Sub line)) = Some (uses.Subtract line)
use_of (Some (order.Mul (pos zero) line)) = Some (uses.Multiply line)
use_of (Some order.And) = Some uses.Mask
use_of (Some order.Or) = Some uses.Union
use_of (Some order.Xor) = Some uses.Differ
use_of (Some (order.JumpIf c m)) = Some (uses.Compare c m)
use_of _ = None

-- The offset in its family of the word that index 0 names, where that is among the words from the first one on that are in the data area: then
-- an index added to its address is an address of the data area exactly where the element is one.
abbrev pub zero_behind : (below span first : ℕ) → Option ℕ
zero_behind below span first = if nat_lt below span && nat_lt (first + below) 65536 then Some (first + below) else None

abbrev pub zero_word : (lower : ℤ) → (span first : ℕ) → Option ℕ
zero_word (pos zero) span first = zero_behind 0 span first
zero_word (pos (suc n)) span first = None
zero_word (negsuc n) span first = zero_behind (suc n) span first

abbrev pub address_test : Option ℕ → Option Test
address_test None = None
address_test (Some origin) = Some (test.Address origin)

-- whether the word at the upper bound, so many words behind the one at the lower bound, is among those that are known to be in the data area
abbrev pub is_within : (last : ℤ) → (span : ℕ) → Bool
is_within (pos n) span = nat_lt n span
is_within (negsuc n) span = false

-- bounds that an order compares an index with
abbrev pub bounds_at : Option Order → Option Bounds
bounds_at (Some (order.InBounds l u line)) = Some (record { lower = l; upper = u; line = line })
bounds_at _ = None

-- An index between its bounds names a word that is known to be in the data area, where the item begins at the lower one.
abbrev pub bounds_test : Bounds → (begins : ℤ) → (span : ℕ) → Option Test
bounds_test b begins span =
    if (int_le b.lower begins && int_le begins b.lower) && is_within (b.upper -ℤ b.lower) span then Some (test.Bounds b.upper b.line) else None

abbrev pub tested_by : Option Bounds → (begins : ℤ) → (span : ℕ) → Option Test
tested_by None begins span = None
tested_by (Some b) begins span = bounds_test b begins span

abbrev pub element_with : Option Test → (index : Place) → (family first : ℕ) → (lower : ℤ) → (span line : ℕ) → Option Element
element_with None x f n l s line = None
element_with (Some t) x f n l s line = Some (record { index = x; family = f; first = n; lower = l; span = s; line = line; test = t })

abbrev pub is_save : Option Order → Bool
is_save (Some order.Save) = true
is_save _ = false

abbrev pub is_load : Option Order → Bool
is_load (Some order.Load) = true
is_load _ = false

-- the word of a storage family whose address an order puts
abbrev pub home_of : Option Order → Option Home
home_of (Some (order.Home f n)) = Some (record { family = f; offset = n })
home_of _ = None

-- an item of one dimension, of which two orders make the address of an element
abbrev pub array_from : Option Home → (forms : Option Order) → Option Array
array_from (Some h) (Some (order.Element l s line)) = Some (record { family = h.family; first = h.offset; lower = l; span = s; line = line })
array_from _ _ = None

abbrev pub array_of : (puts forms : Option Order) → Option Array
array_of puts forms = array_from (home_of puts) forms

abbrev pub element_in : Option Test → (index : Place) → Array → Option Element
element_in t x a = element_with t x a.family a.first a.lower a.span a.line

-- an element whose index is saved, by the two orders behind the save that make its address; and by those and one before the save, which
-- compares the index with bounds
abbrev pub addressed_in : Place → Option Array → Option Element
addressed_in x None = None
addressed_in x (Some a) = element_in (address_test (zero_word a.lower a.span a.first)) x a

abbrev pub element_addressed : Place → (puts forms : Option Order) → Option Element
element_addressed x puts forms = addressed_in x (array_of puts forms)

abbrev pub bounded_in : Place → Option Bounds → Option Array → Option Element
bounded_in x bounds None = None
bounded_in x bounds (Some a) = element_in (tested_by bounds a.lower a.span) x a

abbrev pub element_bounded : Place → (bounds puts forms : Option Order) → Option Element
element_bounded x bounds puts forms = bounded_in x (bounds_at bounds) (array_of puts forms)

-- the orders behind the load of the index
abbrev pub element_of : Place → (second third fourth fifth : Option Order) → Option Element
element_of x second third fourth fifth =
    if is_save second then element_addressed x third fourth else if is_save third then element_bounded x second fourth fifth else None

-- and from that load on, behind the address of the place where the index stands
abbrev pub element_loaded : Place → (loads second third fourth fifth : Option Order) → Option Element
element_loaded x loads second third fourth fifth = if is_load loads then element_of x second third fourth fifth else None

abbrev pub element_behind : Place → (behind : ℕ) → List Order → Option Element
element_behind x k os =
    element_loaded x (slice_get os k) (slice_get os (k + 1)) (slice_get os (k + 2)) (slice_get os (k + 3)) (slice_get os (k + 4))

abbrev pub element_at : Option Place → List Order → Option Element
element_at None os = None
element_at (Some x) os = element_behind x (length (address_orders x)) os

abbrev pub with_use : Simple → Option Use → Block
with_use s None = block.Single
with_use s (Some u) = block.Operate s u

-- bits of a word
abbrev pub is_part : (t b : ℕ) → Bool
is_part t b = nat_lt 0 t && nat_le (t + b) 16

-- behind the address of a place
abbrev pub fetched : Place → Option Order → Block
fetched x (Some order.Load) = block.Fetch x
fetched x (Some (order.LoadPart t b is_signed)) = if is_part t b then block.FetchPart x t b is_signed else block.Single
fetched x _ = block.Single

abbrev pub fetched_from : Option Place → List Order → Block
fetched_from None os = block.Single
fetched_from (Some x) os = fetched x (slice_get os (length (address_orders x)))

-- behind a Save and the address of a place
abbrev pub assigned : Place → (here next : Option Order) → Block
assigned x (Some order.Load) next = with_use (simple.Contents x) (use_of next)
assigned x (Some order.Store) next = block.Assign x
assigned x (Some (order.StorePart t b)) next = if is_part t b then block.AssignPart x t b else block.Single
assigned x _ next = block.Single

-- A quotient by a number from 2 to 32,767 at no other scale fits a word, and one of words is that of the processor. The others stand alone.
abbrev pub is_plain_divisor : ℕ → Bool
is_plain_divisor w = nat_lt 1 w && nat_lt w 32768

-- The exponent of a power of two that is a word.
abbrev pub exponent_of : ℕ → Option ℕ
exponent_of w =
    if w == 1 then Some 0 else if w == 2 then Some 1 else if w == 4 then Some 2 else if w == 8 then Some 3 else if w == 16 then Some 4
    else if w == 32 then Some 5 else if w == 64 then Some 6 else if w == 128 then Some 7 else if w == 256 then Some 8 else if w == 512 then Some 9
    else if w == 1024 then Some 10 else if w == 2048 then Some 11 else if w == 4096 then Some 12 else if w == 8192 then Some 13
    else if w == 16384 then Some 14 else None

-- A product with a power of two, taken down by more places than its exponent, is a shift by the places between, at most 15.
abbrev pub places_between : Option ℕ → (down : ℕ) → Option ℕ
places_between None down = None
places_between (Some j) down = if nat_lt j down && nat_le down (j + 15) then Some (down - j) else None

abbrev pub halving_places : (word : ℕ) → (power : ℤ) → Option ℕ
halving_places w (pos n) = None
halving_places w (negsuc n) = places_between (exponent_of w) (suc n)

abbrev pub halved : (word : ℕ) → (power : ℤ) → (line : ℕ) → Option ℕ → Block
halved w power line None = block.Single
halved w power line (Some n) = block.Halve w power n line

abbrev pub divided : (word : ℕ) → (power : ℤ) → (line : ℕ) → Block
divided w (pos zero) line = if is_plain_divisor w then block.Divide w line else block.Single
divided w power line = block.Single

abbrev pub counted : (word : ℕ) → (down : Bool) → (line : ℕ) → Use → Block
counted w down line u = if w == 1 then block.Count down line else block.Operate (simple.Number w) u

-- a number behind which is no use of a simple operand
abbrev pub number_scaled : (word : ℕ) → Option Order → Block
number_scaled w (Some (order.Div power line)) = divided w power line
number_scaled w (Some (order.Mul power line)) = halved w power line (halving_places w power)
number_scaled w next = block.Single

abbrev pub number_used : (word : ℕ) → Option Use → (next : Option Order) → Block
number_used w None next = number_scaled w next
number_used w (Some (uses.Add line)) next = counted w false line (uses.Add line)
number_used w (Some (uses.Subtract line)) next = counted w true line (uses.Subtract line)
number_used w (Some u) next = block.Operate (simple.Number w) u

abbrev pub with_number : (word : ℕ) → Option Order → Block
with_number w next = number_used w (use_of next) next

-- behind a Save and no address
abbrev pub saved : (here next : Option Order) → Block
saved (Some (order.Const w)) next = with_number w next
saved (Some order.WriteByte) next = block.Write
saved _ next = block.Single

abbrev pub saved_from : Option Place → List Order → Block
saved_from None os = saved (slice_get os 0) (slice_get os 1)
saved_from (Some x) os = assigned x (slice_get os (length (address_orders x))) (slice_get os (length (address_orders x) + 1))

-- an element that is fetched, and behind a Save one that is assigned or used; another block where it is neither
abbrev pub element_fetched : Element → Option Order → (other : Block) → Block
element_fetched e o other = if is_load o then block.FetchElement e else other

abbrev pub element_used : Element → Option Use → (other : Block) → Block
element_used e None other = other
element_used e (Some u) other = block.Operate (simple.Element e) u

abbrev pub element_saved : Element → (here next : Option Order) → (other : Block) → Block
element_saved e (Some order.Load) next other = element_used e (use_of next) other
element_saved e (Some order.Store) next other = block.AssignElement e
element_saved e _ next other = other

abbrev pub fetched_or : Option Element → List Order → (other : Block) → Block
fetched_or None os other = other
fetched_or (Some e) os other = element_fetched e (slice_get os (length (element_orders e))) other

abbrev pub saved_or : Option Element → List Order → (other : Block) → Block
saved_or None os other = other
saved_or (Some e) os other = element_saved e (slice_get os (length (element_orders e))) (slice_get os (length (element_orders e) + 1)) other

-- what an order forms of an index that has been compared with bounds from a lower one, where an element counts from that one too
abbrev pub form_of : (lower : ℤ) → Option Order → Option Form
form_of lower (Some (order.Element l span line)) = if int_le lower l && int_le l lower then Some (form.Element span line) else None
form_of lower (Some (order.Entry width word span line)) = Some (form.Entry width word span line)
form_of lower _ = None

-- whether a word of each entry from 0 to the upper bound is among those that are known to be in the data area
abbrev pub entries_within : (lower upper : ℤ) → (width word span : ℕ) → Bool
entries_within (pos zero) (pos n) width word span = nat_lt (n * width + word) span
entries_within lower upper width word span = false

-- whether all indexes between the bounds name words that are known to be in the data area
abbrev pub form_within : Bounds → (first : ℕ) → Form → Bool
form_within b first (form.Element span line) = is_within (b.upper -ℤ b.lower) span
form_within b first (form.Entry width word span line) = entries_within b.lower b.upper width word span && nat_lt (first + word) 65536

abbrev pub bounded_if : Bounded → Block
bounded_if b = if form_within b.bounds b.first b.form then block.Bounded b else block.Single

abbrev pub bounded_as : Bounds → (family first : ℕ) → Option Form → Block
bounded_as b f n None = block.Single
bounded_as b f n (Some w) = bounded_if (record { bounds = b; family = f; first = n; form = w })

abbrev pub bounded_by : Bounds → Option Home → Option Form → Block
bounded_by b None w = block.Single
bounded_by b (Some h) w = bounded_as b h.family h.offset w

-- behind the comparison of an index with bounds
abbrev pub behind_bounds : Bounds → (saves puts forms : Option Order) → Block
behind_bounds b saves puts forms = if is_save saves then bounded_by b (home_of puts) (form_of b.lower forms) else block.Single

abbrev pub at_bounds : (bounds : Option Bounds) → (saves puts forms : Option Order) → Block
at_bounds None saves puts forms = block.Single
at_bounds (Some b) saves puts forms = behind_bounds b saves puts forms

-- the second index of two that the first orders of a list put
abbrev pub column_at : List Order → Option Column
column_at (order.Const w ∷ os) = Some (column.Number w)
column_at (order.Home f n ∷ order.Load ∷ os) = Some (column.Contents (cell.Word f n))
column_at (order.FrameHome n ∷ order.Load ∷ os) = Some (column.Contents (cell.Frame n))
column_at _ = None

-- whether the word at both upper bounds, which are so far from the lower ones, is among those that are known to be in the data area
abbrev pub last_within : (rows columns : ℤ) → (width span : ℕ) → Bool
last_within (pos m) (pos n) width span = nat_lt (m * width + n) span
last_within rows columns width span = false

-- whether all indexes between the bounds name words that are known to be in the data area
abbrev pub row_within : Row → Bool
row_within r =
    let rows = r.rows.upper -ℤ r.rows.lower in
    let columns = r.columns.upper -ℤ r.columns.lower in
    is_within rows r.span && (is_within columns r.span && last_within rows columns r.width r.span)

abbrev pub row_if : (here : Bool) → Row → Option Row
row_if here r = if here && row_within r then Some r else None

abbrev pub same_bound : ℤ → ℤ → Bool
same_bound a b = int_le a b && int_le b a

-- an item of two dimensions, of which two orders make the address of an element
abbrev pub item_from : Option Home → (forms : Option Order) → Option Item
item_from (Some h) (Some (order.ElementInside l1 l2 width span)) =
    Some (record { family = h.family; first = h.offset; lower = l1; second = l2; width = width; span = span })
item_from _ _ = None

abbrev pub item_of : (puts forms : Option Order) → Option Item
item_of puts forms = item_from (home_of puts) forms

-- it begins at the lower bounds
abbrev pub row_made : (rows : Bounds) → Column → (columns : Bounds) → Option Item → Option Row
row_made rows c columns None = None
row_made rows c columns (Some i) =
    row_if (same_bound rows.lower i.lower && same_bound columns.lower i.second)
    (record { rows = rows; column = c; columns = columns; family = i.family; first = i.first; width = i.width; span = i.span })

-- behind the comparison of the second index
abbrev pub row_formed : (rows : Bounds) → Column → (columns : Option Bounds) → (saves puts forms : Option Order) → Option Row
row_formed rows c None saves puts forms = None
row_formed rows c (Some columns) saves puts forms = if is_save saves then row_made rows c columns (item_of puts forms) else None

-- behind that of the first one and a Save
abbrev pub row_behind : (rows : Bounds) → Option Column → List Order → Option Row
row_behind rows None os = None
row_behind rows (Some c) os =
    let k = length (column_orders c) in
    row_formed rows c (bounds_at (slice_get os k)) (slice_get os (k + 1)) (slice_get os (k + 2)) (slice_get os (k + 3))

abbrev pub row_saved : (rows : Bounds) → List Order → Option Row
row_saved rows (order.Save ∷ os) = row_behind rows (column_at os) os
row_saved rows _ = None

abbrev pub row_from : (rows : Option Bounds) → List Order → Option Row
row_from None os = None
row_from (Some rows) os = row_saved rows os

abbrev pub row_at : List Order → Option Row
row_at os = row_from (bounds_at (slice_get os 0)) (drop 1 os)

-- the block that begins with the first order of a list, where it is no address
abbrev pub block_if_saved : List Order → Block
block_if_saved (order.Save ∷ os) = saved_or (element_at (place_at os) os) os (saved_from (place_at os) os)
block_if_saved os = at_bounds (bounds_at (slice_get os 0)) (slice_get os 1) (slice_get os 2) (slice_get os 3)

-- an element of two dimensions, and another block where there is none
abbrev pub row_or : Option Row → (other : Block) → Block
row_or None other = other
row_or (Some r) other = block.Row r

abbrev pub block_from : Option Place → List Order → Block
block_from None os = row_or (row_at os) (block_if_saved os)
block_from (Some x) os = fetched_or (element_at (Some x) os) os (fetched_from (Some x) os)

-- the same, where a word of the frame that is fetched is all of its block
abbrev pub block_alone : List Order → Block
block_alone os = block_from (place_at os) os

-- what stands behind such a word: a Save, a number and a comparison, or else
abbrev pub number_of : Option Order → Option ℕ
number_of (Some (order.Const w)) = Some w
number_of _ = None

abbrev pub number_compared : (offset : ℕ) → Option ℕ → (jumps : Option Order) → (other : Block) → Block
number_compared n (Some w) (Some (order.JumpIf c m)) other = block.CompareWord n w c m
number_compared n _ _ other = other

abbrev pub compared_or : (offset : ℕ) → (saves puts jumps : Option Order) → (other : Block) → Block
compared_or n saves puts jumps other = if is_save saves then number_compared n (number_of puts) jumps other else other

-- or a Save alone, and behind it another word of the frame that is only fetched, or else
abbrev pub both_fetched : (offset : ℕ) → (saved next : Block) → (other : Block) → Block
both_fetched n block.Single (block.Fetch (cell.Frame m)) other = block.FetchBoth n m
both_fetched n _ _ other = other

abbrev pub both_or : (offset : ℕ) → (saves : Option Order) → (saved next : Block) → (other : Block) → Block
both_or n saves saved next other = if is_save saves then both_fetched n saved next other else other

abbrev pub fetched_behind : (offset : ℕ) → List Order → Block
fetched_behind n os = both_or n (slice_get os 2) (block_alone (drop 2 os)) (block_alone (drop 3 os)) (block.Fetch (cell.Frame n))

abbrev pub joined : Block → List Order → Block
joined (block.Fetch (cell.Frame n)) os = compared_or n (slice_get os 2) (slice_get os 3) (slice_get os 4) (fetched_behind n os)
joined b os = b

abbrev pub block_of : List Order → Block
block_of os = joined (block_alone os) os

-- how the first order of a list stands, where so many are left of the block before
abbrev pub block_at : (left : ℕ) → List Order → Block
block_at zero orders = block_of orders
block_at (suc n) orders = block.Within n

-- how many are left of a block at a place of the list; none where a block begins
abbrev pub left_at : (left : ℕ) → List Order → (place : ℕ) → ℕ
left_at left orders zero = left
left_at left [] (suc k) = left
left_at left (o ∷ os) (suc k) = left_at (orders_left (block_at left (o ∷ os))) os k

-- the indexes between the bounds of an element name words that are known to be in the data area
abbrev pub TestsWithin : Element → Test → Type 0
TestsWithin e (test.Address origin) = Unit {0}
TestsWithin e (test.Bounds upper line) = is_within (upper -ℤ e.lower) e.span ≡ true

abbrev pub OperandWithin : Simple → Type 0
OperandWithin (simple.Element e) = TestsWithin e e.test
OperandWithin s = Unit {0}

-- the parts of words that blocks name are bits of a word, and the indexes of their elements and entries are as above
abbrev pub NamesParts : Block → Type 0
NamesParts (block.FetchPart x t b is_signed) = is_part t b ≡ true
NamesParts (block.AssignPart x t b) = is_part t b ≡ true
NamesParts (block.Operate s u) = OperandWithin s
NamesParts (block.FetchElement e) = TestsWithin e e.test
NamesParts (block.AssignElement e) = TestsWithin e e.test
NamesParts (block.Bounded b) = form_within b.bounds b.first b.form ≡ true
NamesParts (block.Row r) = row_within r ≡ true
NamesParts b = Unit {0}
