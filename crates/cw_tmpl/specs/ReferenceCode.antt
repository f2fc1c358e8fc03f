-- The code of a list of orders.
use Rattle.std.specs.Prelude.{◌≡◌, ℕ, suc, ◌+◌, ◌*◌, true, List, [], ◌∷◌, ◌++◌, map, length, Some, None, slice_index, Bool, false}
use Rattle.cw_unit.specs.declared.unit.Goal.{Goal}
use Rattle.cw_order.specs.declared.order.Order.{Order}
use Rattle.cw_order.specs.declared.order.Order.TheVariants as order
use Rattle.cw_order.specs.declared.order.Orders.{Orders}
use Rattle.cw_order.specs.declared.order.LabelMark.{LabelMark}
use Rattle.cw_tmpl.specs.declared.assembling.Code.{Code}
use Rattle.cw_tmpl.specs.declared.pieces.Coded.{Coded}
use Rattle.cw_tmpl.specs.Pieces.{blanks, relocations}
use Rattle.cw_tmpl.specs.Blocks.{block_at, orders_left}
use Rattle.cw_tmpl.specs.Library.{overflow_entry}
use Rattle.cw_tmpl.specs.Names.{Reach, Names, mark_place, call_place, way_to_label, landing_size, switch_size}
use Rattle.cw_tmpl.specs.Names.{has_landing, landing_bytes, switch_bytes, place_of_one}
use Rattle.cw_tmpl.specs.Backward.{calls_from}
use Rattle.cw_tmpl.specs.Templates.{call_stop, is_close, block_pieces, block_size, entry_pieces, landing_pieces, switch_pieces}
use Rattle.cw_tmpl.specs.ShortForms.{Forms, all_near, is_short}
use Rattle.cw_tmpl.specs.Named.{is_named_label, is_named_switch}

-- the code of a list from a place, the first order of which has this number, and where so many of the first orders are left of the block before
abbrev pub templates : Names → (place number left : ℕ) → List Order → List Coded
templates names place number left [] = []
templates names place number left (o ∷ os) =
    let b = block_at left (o ∷ os) in
    let short = is_short names.reach number b o in
    block_pieces names place number short b o ++ templates names (place + block_size short b o) (suc number) (orders_left b) os

-- the landings of the labels that have one, from a place, where the first label has this number
abbrev pub landing_where : (has : Bool) → Names → (place : ℕ) → LabelMark → List Coded
landing_where true names place m = landing_pieces names place m
landing_where false names place m = []

abbrev pub landings : Names → (named : ℕ → Bool) → (place label : ℕ) → List LabelMark → List Coded
landings names named place l [] = []
landings names named place l (m ∷ ms) =
    let has = has_landing named l m in
    landing_where has names place m ++ landings names named (place + landing_bytes has) (suc l) ms

-- the routines of the switches that something names
abbrev pub switch_where : (has : Bool) → Names → (place : ℕ) → List Goal → List Coded
switch_where true names place gs = switch_pieces names place gs
switch_where false names place gs = []

abbrev pub switches : Names → (named : ℕ → Bool) → (place switch : ℕ) → List (List Goal) → List Coded
switches names named place n [] = []
switches names named place n (gs ∷ rest) = switch_where (named n) names place gs ++ switches names named (place + switch_bytes (named n) gs) (suc n) rest

-- ---- places

-- The places of the orders' code, the first one given, and of the end. In a block all orders but the first have the place of its end.
abbrev pub places_from : Forms → (at number left : ℕ) → List Order → List ℕ
places_from forms at number left [] = at ∷ []
places_from forms at number left (o ∷ os) =
    let b = block_at left (o ∷ os) in
    at ∷ places_from forms (at + block_size (forms number b o) b o) (suc number) (orders_left b) os

abbrev pub entry_size : ℕ
entry_size = length (blanks entry_pieces)

abbrev pub places_by : Forms → List Order → List ℕ
places_by forms orders = places_from forms entry_size 0 0 orders

-- those of the longest code, and those of the code with short forms
abbrev pub longest_places : List Order → List ℕ
longest_places orders = places_by all_near orders

abbrev pub reach_of : Orders → Reach
reach_of orders = record { marks = orders.marks; longest = longest_places orders.list; calls = calls_from (longest_places orders.list) None 0 0 orders.list }

abbrev pub order_places : Orders → List ℕ
order_places orders = places_by (is_short (reach_of orders)) orders.list

-- those of the landings of labels, and of the routines of switches
abbrev pub landing_places : (named : ℕ → Bool) → (at label : ℕ) → List LabelMark → List ℕ
landing_places named at l [] = []
landing_places named at l (m ∷ ms) =
    let has = has_landing named l m in
    place_of_one has at ∷ landing_places named (at + landing_bytes has) (suc l) ms

abbrev pub switch_places : (named : ℕ → Bool) → (at switch : ℕ) → List (List Goal) → List ℕ
switch_places named at n [] = []
switch_places named at n (gs ∷ rest) = place_of_one (named n) at ∷ switch_places named (at + switch_bytes (named n) gs) (suc n) rest

-- the bytes of the landings and of the routines, and those of the routines of all switches where each has one
abbrev pub landing_sizes : (named : ℕ → Bool) → (label : ℕ) → List LabelMark → ℕ
landing_sizes named l [] = 0
landing_sizes named l (m ∷ ms) = landing_bytes (has_landing named l m) + landing_sizes named (suc l) ms

abbrev pub routine_sizes : (named : ℕ → Bool) → (switch : ℕ) → List (List Goal) → ℕ
routine_sizes named n [] = 0
routine_sizes named n (gs ∷ rest) = switch_bytes (named n) gs + routine_sizes named (suc n) rest

abbrev pub switch_sizes : List (List Goal) → ℕ
switch_sizes [] = 0
switch_sizes (gs ∷ rest) = switch_size gs + switch_sizes rest

-- the landings stand behind the orders, and the switches behind the landings
abbrev pub landings_place : Orders → ℕ
landings_place orders = slice_index (order_places orders) (length orders.list)

abbrev pub switches_place : Orders → ℕ
switches_place orders = landings_place orders + landing_sizes (is_named_label orders) 0 orders.labels

abbrev pub names_of : Orders → Names
names_of orders = record {
  places = order_places orders;
  reach = reach_of orders;
  labels = orders.labels;
  procedures = orders.procedures;
  landings = landing_places (is_named_label orders) (landings_place orders) 0 orders.labels;
  switches = switch_places (is_named_switch orders) (switches_place orders) 0 orders.switches;
}

-- where a mark starts
abbrev pub mark_starts : Orders → (mark : ℕ) → ℕ
mark_starts orders = mark_place (names_of orders)

-- where the labels are reached, the first of which has this number
abbrev pub label_starts : Names → (first : ℕ) → List LabelMark → List ℕ
label_starts names l [] = []
label_starts names l (m ∷ ms) = way_to_label names l (Some m) ∷ label_starts names (l + 1) ms

-- the statement that begins with an order at a place: the place, and its line
abbrev pub statement_at : ℕ → Order → List (ℕ × ℕ)
statement_at at (order.Start line) = (at, line) ∷ []
statement_at at _ = []

-- those that begin with the orders of a list, the first of which has this number
abbrev pub statements_from : (number : ℕ) → (places : List ℕ) → List Order → List (ℕ × ℕ)
statements_from k places [] = []
statements_from k places (o ∷ os) = statement_at (slice_index places k) o ++ statements_from (k + 1) places os

-- ---- the whole

-- all pieces of a segment's code
abbrev pub pieces_of : Orders → List Coded
pieces_of orders =
    entry_pieces
    ++ (templates (names_of orders) entry_size 0 0 orders.list
    ++ (landings (names_of orders) (is_named_label orders) (landings_place orders) 0 orders.labels
    ++ switches (names_of orders) (is_named_switch orders) (switches_place orders) 0 orders.switches))

abbrev pub orders_code : Orders → Code
orders_code orders = record {
  bytes = blanks (pieces_of orders);
  relocs = relocations 0 (pieces_of orders);
  starts = map (slice_index (order_places orders)) orders.marks;
  entry = 0;
  labels = label_starts (names_of orders) 0 orders.labels;
  switches = switch_places (is_named_switch orders) (switches_place orders) 0 orders.switches;
  procedures = map (mark_starts orders) orders.procedures;
  statements = statements_from 0 (order_places orders) orders.list;
}

-- these pieces stand among the others where so many bytes, with those of the entry, come before
pub record StandsAt (code : List Coded) (place : ℕ) (pieces : List Coded) : Type 0 where
  pub before : List Coded
  pub behind : List Coded
  pub is : code ≡ before ++ (pieces ++ behind)
  pub place_is : place ≡ length (blanks (entry_pieces ++ before))

-- The check of the block whose first order has this number jumps back to a CALL of the overflow stop with the line behind it, and reaches it from its
-- end.
pub record GoesBack (o : Orders) (number line : ℕ) : Type 0 where
  pub stops : StandsAt (templates (names_of o) entry_size 0 0 o.list) (call_place (names_of o) number) (call_stop overflow_entry line)
  pub close : is_close (slice_index (order_places o) (number + 1)) (call_place (names_of o) number) ≡ true
