-- The places that the code of a segment names: those of its orders, of its labels and procedures, and of the routines of its switches. All
-- are places in the code of the segment.
use Rattle.std.specs.Prelude.{ℕ, ◌+◌, ◌-◌, ◌*◌, ◌%◌, List, [], length, if◌then◌else◌, Option, Some, None, slice_get, slice_index, ◌&&◌, not, Bool, true, false}
use Rattle.cw_unit.specs.declared.unit.Goal.{Goal}
use Rattle.cw_order.specs.declared.order.LabelMark.{LabelMark}
use Rattle.cw_tmpl.specs.declared.pieces.Target.{Target}
use Rattle.cw_tmpl.specs.declared.pieces.Target.TheVariants as target

-- What tells how far a jump goes: the marks of the unit, each by the number of its order, and the places of the orders' code where it is longest,
-- with no short jump and none back. And for each order with which a block begins whose check jumps back the number of the order behind that with which
-- the block begins that calls the stop; 0 for the others.
pub record Reach : Type 0 where
  pub marks : List ℕ
  pub longest : List ℕ
  pub calls : List ℕ

-- The places of the orders' code, the marks, labels and procedures of the unit, and for each label and each switch the place of its landing and of
-- its routine, 0 where it has none.
pub record Names : Type 0 where
  pub places : List ℕ
  pub reach : Reach
  pub labels : List LabelMark
  pub procedures : List ℕ
  pub landings : List ℕ
  pub switches : List ℕ

-- The start of a mark is the place of its order's code; 0 for a mark past the end of the list. A mark that the list of marks does not have
-- is at the first order.
abbrev pub mark_place : Names → (mark : ℕ) → ℕ
mark_place names m = slice_index names.places (slice_index names.reach.marks m)

-- Where the overflow stop is called that the check of a block jumps back to, by the number of the block's first order: the CALL and its line have 5
-- bytes, and end a block.
abbrev pub call_place : Names → (number : ℕ) → ℕ
call_place names number = slice_index names.places (slice_index names.reach.calls number) - 5

-- A label that a procedure has is reached with the record of its activation at work. One of a segment's body is reached by its landing, which
-- makes the base record the one at work.
abbrev pub landing_size : ℕ
landing_size = 15

abbrev pub landing_start : Names → (label : ℕ) → ℕ
landing_start names l = slice_index names.landings l

-- a label that has a landing: something names it, and it stands in no procedure
abbrev pub has_landing : (named : ℕ → Bool) → (label : ℕ) → LabelMark → Bool
has_landing named l m = named l && not m.in_procedure

abbrev pub landing_bytes : (has : Bool) → ℕ
landing_bytes true = landing_size
landing_bytes false = 0

-- where a jump to a label that may leave activations goes
abbrev pub way_to_label : Names → (label : ℕ) → Option LabelMark → ℕ
way_to_label names l None = 0
way_to_label names l (Some m) = if m.in_procedure then mark_place names m.mark else landing_start names l

abbrev pub label_start : Names → (label : ℕ) → ℕ
label_start names l = way_to_label names l (slice_get names.labels l)

abbrev pub procedure_start : Names → (procedure : ℕ) → ℕ
procedure_start names q = mark_place names (slice_index names.procedures q)

abbrev pub switch_start : Names → (switch : ℕ) → ℕ
switch_start names n = slice_index names.switches n

-- the routine of a switch, with the table of its labels behind it
abbrev pub switch_size : List Goal → ℕ
switch_size goals = 29 + 2 * length goals

abbrev pub switch_bytes : (has : Bool) → List Goal → ℕ
switch_bytes true goals = switch_size goals
switch_bytes false goals = 0

-- the place of what there is, and 0 for what there is not
abbrev pub place_of_one : (has : Bool) → (place : ℕ) → ℕ
place_of_one true place = place
place_of_one false place = 0

-- a place in the code of the segment, which the linker fills in
abbrev pub own : ℕ → Target
own place = target.Place (place % 65536)

abbrev pub no_names : Names
no_names = record { places = []; reach = record { marks = []; longest = []; calls = [] }; labels = []; procedures = []; landings = []; switches = [] }
