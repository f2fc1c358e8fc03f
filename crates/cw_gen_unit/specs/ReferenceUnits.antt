-- The orders of a unit, and the program of the orders of units.
use Rattle.std.specs.Prelude.{ℕ, suc, ◌+◌, nat_eq, List, [], ◌∷◌, ◌++◌, map, length, is_some, Bool, true}
use Rattle.std.specs.Prelude.{false, Option, Some, None, slice_get, slice_index, if◌then◌else◌}
use Rattle.cw_track.specs.Machine.{Machine}
use Rattle.cw_track.specs.Tracking.{step_budget}
use Rattle.cw_unit.specs.declared.unit.Unit.{Unit as SourceUnit}
use Rattle.cw_unit.specs.declared.unit.Proc.{Proc}
use Rattle.cw_unit.specs.declared.unit.Param.{Param}
use Rattle.cw_unit.specs.declared.unit.Label.{Label}
use Rattle.cw_unit.specs.declared.unit.Switch.{Switch}
use Rattle.cw_unit.specs.declared.unit.Goal.{Goal}
use Rattle.cw_unit.specs.declared.unit.Def.{Def}
use Rattle.cw_unit.specs.declared.unit.Def.TheVariants as def
use Rattle.cw_unit.specs.declared.layout.Limits.{Limits}
use Rattle.cw_unit.specs.declared.layout.Map.{Map}
use Rattle.cw_unit.specs.Storage.{layout_of}
use Rattle.cw_unit.specs.Program.{Program}
use Rattle.cw_unit.specs.InitialMemory.{initial_memory}
use Rattle.cw_unit.specs.Configuration.{Configuration, fraction_of_answer}
use Rattle.cw_unit.specs.Step.{step}
use Rattle.cw_unit.specs.Behaviour.{Observation, shown}
use Rattle.cw_order.specs.declared.order.Order.{Order}
use Rattle.cw_order.specs.declared.order.Order.TheVariants as order
use Rattle.cw_order.specs.declared.order.Orders.{Orders}
use Rattle.cw_order.specs.declared.order.LabelMark.{LabelMark}
use Rattle.cw_order.specs.OrderProgram.{OrderProgram}
use Rattle.cw_order.specs.OrderState.{OrderState}
use Rattle.cw_order.specs.OrderMachine.{order_start}
use Rattle.cw_gen_expr.specs.Pieces.{Piece, plain, followed_by}
use Rattle.cw_gen_expr.specs.ReferenceExpressions.{argument_words}
use Rattle.cw_gen_expr.specs.ReferenceEntries.{scope_of, bind_orders}
use Rattle.cw_gen_expr.specs.UnitTables.{label_mark, procedure_mark, first_mark, tables_of}
use Rattle.cw_gen_unit.specs.ReferenceStatements.{statement_piece}
use Rattle.cw_gen_unit.specs.Endings.{comes_to_end}

-- the scale of the answer of the procedure whose body it is
abbrev pub answer_of : SourceUnit → Option ℕ → ℕ
answer_of u None = 0
answer_of u (Some q) = fraction_of_answer (slice_get u.procs q)

-- ---- the place of a label among those of a piece

abbrev pub place_if : Bool → ℕ → Option ℕ → Option ℕ
place_if true q o = Some q
place_if false q o = o

-- where a label stands, the first that there is
abbrev pub place_of : ℕ → List (ℕ × ℕ) → Option ℕ
place_of l [] = None
place_of l (p ∷ ps) = place_if (nat_eq l p.0) p.1 (place_of l ps)

-- ---- bodies

-- the return at the end of a procedure, which answers 0: none where no run comes to that end
abbrev pub leave_with : (ends : Bool) → List Param → List Order
leave_with ends ps = if ends then (order.Const 0 ∷ order.Return (argument_words ps) true ∷ []) else []

abbrev pub leave_orders : Proc → List Order
leave_orders q = leave_with (comes_to_end q.body) q.params

module _ (u : SourceUnit) where
  -- a procedure: its entry, its body, and the return at its end
  abbrev pub entry_orders : (procedure : ℕ) → Proc → List Order
  entry_orders p q = order.Enter (slice_index (layout_of u).frames p) ∷ bind_orders (layout_of u) q.params

  abbrev pub procedure_piece : (procedure : ℕ) → Proc → Piece
  procedure_piece p q =
      followed_by (plain (entry_orders p q)) (followed_by
      (statement_piece (scope_of u (Some p)) (Some p) (answer_of u (Some p)) q.body) (plain (leave_orders q)))

  abbrev pub procedures_piece : (procedure : ℕ) → List Proc → Piece
  procedures_piece p [] = plain []
  procedures_piece p (q ∷ qs) = followed_by (procedure_piece p q) (procedures_piece (suc p) qs)

  abbrev pub body_piece : Piece
  body_piece = followed_by (statement_piece (scope_of u None) None 0 u.body) (plain (order.NextBody ∷ []))

  abbrev pub unit_piece : Piece
  unit_piece = followed_by body_piece (procedures_piece 0 u.procs)

  -- where the procedures begin
  abbrev pub entries_of : (procedure : ℕ) → List Proc → (place next : ℕ) → List ℕ
  entries_of p [] place next = []
  entries_of p (q ∷ qs) place next =
      let x = procedure_piece p q place next in
      place ∷ entries_of (suc p) qs (place + length x.orders) (next + length x.marks)

  -- the places of the labels of each procedure
  abbrev pub procedure_labels : (procedure : ℕ) → List Proc → (place next : ℕ) → List (List (ℕ × ℕ))
  procedure_labels p [] place next = []
  procedure_labels p (q ∷ qs) place next =
      let x = procedure_piece p q place next in
      x.labels ∷ procedure_labels (suc p) qs (place + length x.orders) (next + length x.marks)

-- the places of the labels of a body: a segment's, or a procedure's
abbrev pub labels_in : List (ℕ × ℕ) → List (List (ℕ × ℕ)) → Option ℕ → List (ℕ × ℕ)
labels_in b ps None = b
labels_in b ps (Some p) = elim (slice_get ps p) [ None ↦ [] | Some ls ↦ ls ]

abbrev pub place_or_none : Option ℕ → ℕ
place_or_none None = 0
place_or_none (Some q) = q

-- the place of each label from this one on, in the body to which it belongs
abbrev pub label_places : (label : ℕ) → List Label → List (ℕ × ℕ) → List (List (ℕ × ℕ)) → List ℕ
label_places l [] b ps = []
label_places l (m ∷ ms) b ps = place_or_none (place_of l (labels_in b ps m.proc)) ∷ label_places (suc l) ms b ps

-- the place of what a descriptor stands for; that of a switch is no order's
abbrev pub definition_place : (labels entries : List ℕ) → Def → ℕ
definition_place ls es (def.Proc q) = slice_index es q
definition_place ls es (def.Label l) = slice_index ls l
definition_place ls es (def.Switch n) = 0

abbrev pub definition_places : (labels entries : List ℕ) → List (ℕ × Def) → List ℕ
definition_places ls es [] = []
definition_places ls es (d ∷ ds) = definition_place ls es d.1 ∷ definition_places ls es ds

-- the marks of labels and procedures from this one on, and the lists of switches
abbrev pub label_marks : SourceUnit → (label : ℕ) → List Label → List LabelMark
label_marks u l [] = []
label_marks u l (m ∷ ms) = record { mark = label_mark u l; in_procedure = is_some m.proc } ∷ label_marks u (suc l) ms

abbrev pub procedure_marks : SourceUnit → (procedure : ℕ) → List Proc → List ℕ
procedure_marks u p [] = []
procedure_marks u p (q ∷ qs) = procedure_mark u p ∷ procedure_marks u (suc p) qs

abbrev pub switch_lists : List Switch → List (List Goal)
switch_lists [] = []
switch_lists (s ∷ ss) = s.list ∷ switch_lists ss

-- what a unit defines in common
abbrev pub shared : List (ℕ × Def) → List Def
shared [] = []
shared (d ∷ ds) = d.1 ∷ shared ds

abbrev pub unit_orders : SourceUnit → Orders
unit_orders u =
    let first = first_mark u in
    let b = body_piece u 0 first in
    let x = unit_piece u 0 first in
    let labels = label_places 0 u.labels b.labels (procedure_labels u 0 u.procs (0 + length b.orders) (first + length b.marks)) in
    let entries = entries_of u 0 u.procs (0 + length b.orders) (first + length b.marks) in
    record {
      list = x.orders;
      entry = 0;
      marks = definition_places labels entries u.defined ++ (labels ++ (entries ++ x.marks));
      labels = label_marks u 0 u.labels;
      procedures = procedure_marks u 0 u.procs;
      switches = switch_lists u.switches;
      shared = shared u.defined;
    }

-- ---- programs

-- the source semantics; each step may take the same number of instructions
abbrev pub meaning : Program → Machine Observation
meaning p = record { State = Configuration; step = step p; shown = shown; weight = λ c. step_budget }

-- the orders of the units, at the same storage map and limits
abbrev pub orders_program : List SourceUnit → Map → Limits → (room : ℕ) → OrderProgram
orders_program us m limits room = record { units = map unit_orders us; tables = map (tables_of us) us; addresses = m; limits = limits; room = room }

-- before its first order, with the words that the source begins with
abbrev pub first_order : List SourceUnit → Map → Limits → (room : ℕ) → (input : List ℕ) → OrderState
first_order us m limits room input = order_start (orders_program us m limits room) (initial_memory us m limits.area) input
