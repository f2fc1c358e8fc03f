-- The abstract machine of orders. What operations do to words, which places are named by labels, switches and procedures, and what is
-- compared is as in the source semantics (cw_unit), so that orders and source have equal words.
use Rattle.std.specs.Prelude.{ℕ, ◌+◌, ◌-◌, ℤ, List, [], ◌∷◌, length, take, drop, nat_eq, nat_lt, nat_le, Bool, true, false, ◌&&◌, Option, Some, None, slice_get}
use Rattle.cw_track.specs.Machine.{Machine}
use Rattle.cw_unit.specs.declared.unit.Goal.{Goal}
use Rattle.cw_unit.specs.Stop.{SwitchRange, FramesFull, DepthReached, Running, Ended, Stopped, Stuck}
use Rattle.cw_unit.specs.Words.{Control, LabelControl, SwitchControl, ProcedureControl, Operand, Word}
use Rattle.cw_unit.specs.Words.{Words, Outcome, Changed, Refused, Impossible, with_operands}
use Rattle.cw_unit.specs.Operation.{perform}
use Rattle.cw_unit.specs.Step.{with_label_owner, goal_at}
use Rattle.cw_unit.specs.Behaviour.{Observation}
use Rattle.cw_order.specs.declared.order.Order.{Order}
use Rattle.cw_order.specs.declared.order.Orders.{Orders}
use Rattle.cw_order.specs.OrderProgram.{LabelEntry, ProcedureEntry, OrderProgram, order_at, place_of, label_at, procedure_at, switch_at, label_of}
use Rattle.cw_order.specs.OrderState.{OrderActivation, OrderState, at, operand_words, stack_words, frame_end}
use Rattle.cw_order.specs.OrderCosts.{weight_at}
use Rattle.cw_order.specs.OrderChanges.{Way, Onward, ToMark, Barred, Nowhere}
use Rattle.cw_order.specs.Loading.{loaded_after}
use Rattle.cw_order.specs.OrderActions.{Action, Perform, Access, Alter, AlterWithin, Pass, Branch, GoMain}
use Rattle.cw_order.specs.OrderActions.{GoLabel, GoSwitch, Call, Enter, Return, EndBody, action_of}

-- ---- steps on words

-- goes on at the next place, where the control stack has room
abbrev pub go_on : Bool → (segment place : ℕ) → (loaded : Bool) → List OrderActivation → (now new : Words) → OrderState
go_on true g place loaded acts now new = at g (place + 1) loaded acts new Running
go_on false g place loaded acts now new = at g place loaded acts now Stuck

-- a stop leaves the rest of the state as it was, and tells the segment, counted from 1, and the line
abbrev pub after : (room line : ℕ) → Outcome → (segment place : ℕ) → (loaded : Bool) → List OrderActivation → Words → OrderState
after room line (Changed v) g place loaded acts w = go_on (nat_le (stack_words v.operands acts) room) g place loaded acts w v
after room line (Refused kind) g place loaded acts w = at g place loaded acts w (Stopped kind (g + 1) line)
after room line Impossible g place loaded acts w = at g place loaded acts w Stuck

-- no stop can come of an address that has been tested
abbrev pub unrefused : Outcome → Outcome
unrefused (Changed v) = Changed v
unrefused (Refused kind) = Impossible
unrefused Impossible = Impossible

-- goes on at the place of a mark
abbrev pub go_at : Option ℕ → (segment place : ℕ) → (loaded : Bool) → List OrderActivation → (now new : Words) → OrderState
go_at None g place loaded acts now new = at g place loaded acts now Stuck
go_at (Some q) g place loaded acts now new = at g q loaded acts new Running

-- ---- jumps and calls

-- goes on at a place of a segment without the last activations and without operands
abbrev pub leave_for : Option ℕ → (to dropped : ℕ) → (segment place : ℕ) → (loaded : Bool) → List OrderActivation → Words → OrderState
leave_for None to n g place loaded acts w = at g place loaded acts w Stuck
leave_for (Some q) to n g place loaded acts w = at to q loaded (drop n acts) (with_operands w []) Running

-- how many activations a jump drops: all but those up to the owner, and all where no procedure has the label
abbrev pub dropped_by : (in_procedure : Bool) → (owner : ℕ) → List OrderActivation → ℕ
dropped_by true owner acts = length acts - owner
dropped_by false owner acts = length acts

-- the arguments are taken, and the callee begins with no operands and with a frame of no words
abbrev pub called : (arguments top : ℕ) → (segment place line : ℕ) → List Operand → OrderActivation
called n top g place line operands =
    record {
      segment = g;
      place = place + 1;
      line = line;
      operands = drop n operands;
      arguments = take n operands;
      entered = false;
      frame_base = top;
      frame_top = top;
    }

abbrev pub call_at : Bool → Option ℕ → (to : ℕ) → OrderActivation → (segment place : ℕ) → (loaded : Bool) → List OrderActivation → Words → OrderState
call_at true (Some q) to a g place loaded acts w = at to q loaded (a ∷ acts) (with_operands w []) Running
call_at _ _ to a g place loaded acts w = at g place loaded acts w Stuck

-- an activation is begun once, where it is not too deep and its frame ends in the area; a stop is the caller's
abbrev pub enter_with : (entered shallow fits : Bool) → (size : ℕ) → OrderActivation → (segment place : ℕ)
    → (loaded : Bool) → List OrderActivation → Words → OrderState
enter_with true shallow fits size a g place loaded acts w = at g place loaded (a ∷ acts) w Stuck
enter_with false false fits size a g place loaded acts w = at g place loaded (a ∷ acts) w (Stopped DepthReached (a.segment + 1) a.line)
enter_with false true false size a g place loaded acts w = at g place loaded (a ∷ acts) w (Stopped FramesFull (a.segment + 1) a.line)
enter_with false true true size a g place loaded acts w =
    at g (place + 1) loaded (record a { entered = true; frame_top = a.frame_base + size } ∷ acts) w Running

-- back in the caller, with the answer
abbrev pub return_with : Bool → (answers : Bool) → List Operand → OrderActivation → (segment place : ℕ)
    → (loaded : Bool) → List OrderActivation → Words → OrderState
return_with true false operands a g place loaded acts w = at a.segment a.place loaded acts (with_operands w a.operands) Running
return_with true true (Word z ∷ rest) a g place loaded acts w =
    at a.segment a.place loaded acts (with_operands w (Word z ∷ a.operands)) Running
return_with _ _ operands a g place loaded acts w = at g place loaded (a ∷ acts) w Stuck

-- the next body begins with no operands; where there is none, the program ends
abbrev pub next_body : Option Orders → (segment place : ℕ) → (loaded : Bool) → Words → OrderState
next_body None g place loaded w = at g place loaded [] w Ended
next_body (Some u) g place loaded w = at (g + 1) u.entry loaded [] (with_operands w []) Running

module _ (p : OrderProgram) where
  abbrev pub branch : (line : ℕ) → Way → (segment place : ℕ) → (loaded : Bool) → List OrderActivation → Words → OrderState
  branch line (Onward v) g place loaded acts w = at g (place + 1) loaded acts v Running
  branch line (ToMark m v) g place loaded acts w = go_at (place_of p g m) g place loaded acts w v
  branch line (Barred kind) g place loaded acts w = at g place loaded acts w (Stopped kind (g + 1) line)
  branch line Nowhere g place loaded acts w = at g place loaded acts w Stuck

  abbrev pub go_to_entry : Option LabelEntry → (to owner : ℕ) → (segment place : ℕ) → (loaded : Bool) → List OrderActivation → Words → OrderState
  go_to_entry None to owner g place loaded acts w = at g place loaded acts w Stuck
  go_to_entry (Some l) to owner g place loaded acts w = leave_for (place_of p to l.mark) to (dropped_by l.in_procedure owner acts) g place loaded acts w

  abbrev pub go_to : Option Control → (segment place : ℕ) → (loaded : Bool) → List OrderActivation → Words → OrderState
  go_to (Some (LabelControl to l owner)) g place loaded acts w = go_to_entry (label_at p to l) to owner g place loaded acts w
  go_to _ g place loaded acts w = at g place loaded acts w Stuck

  abbrev pub go_to_goal : (line : ℕ) → Option Goal → (to owner : ℕ) → (segment place : ℕ) → (loaded : Bool) → List OrderActivation → Words → OrderState
  go_to_goal line None to owner g place loaded acts w = at g place loaded acts w (Stopped SwitchRange (g + 1) line)
  go_to_goal line (Some x) to owner g place loaded acts w = go_to (with_label_owner owner (label_of p to x)) g place loaded acts w

  abbrev pub go_by_list : (line : ℕ) → Option (List Goal) → List Operand → (to owner : ℕ) → (segment place : ℕ)
      → (loaded : Bool) → List OrderActivation → Words → OrderState
  go_by_list line (Some gs) (Word z ∷ rest) to owner g place loaded acts w = go_to_goal line (goal_at gs z) to owner g place loaded acts w
  go_by_list line _ operands to owner g place loaded acts w = at g place loaded acts w Stuck

  abbrev pub go_through : (line : ℕ) → Option Control → (segment place : ℕ) → (loaded : Bool) → List OrderActivation → Words → OrderState
  go_through line (Some (SwitchControl to n owner)) g place loaded acts w = go_by_list line (switch_at p to n) w.operands to owner g place loaded acts w
  go_through line _ g place loaded acts w = at g place loaded acts w Stuck

  -- the arguments must be there, and the record must have room
  abbrev pub call_entry : (line : ℕ) → Option ProcedureEntry → (to : ℕ) → (segment place : ℕ) → (loaded : Bool) → List OrderActivation → Words → OrderState
  call_entry line None to g place loaded acts w = at g place loaded acts w Stuck
  call_entry line (Some e) to g place loaded acts w =
      let a = called e.arguments (frame_end p acts) g place line w.operands in
      call_at (nat_le e.arguments (length w.operands) && nat_le (stack_words [] (a ∷ acts)) p.room) (place_of p to e.mark) to a g place loaded acts w

  abbrev pub call : (line : ℕ) → Option Control → (segment place : ℕ) → (loaded : Bool) → List OrderActivation → Words → OrderState
  call line (Some (ProcedureControl to q)) g place loaded acts w = call_entry line (procedure_at p to q) to g place loaded acts w
  call line _ g place loaded acts w = at g place loaded acts w Stuck

  abbrev pub enter : (size : ℕ) → (segment place : ℕ) → (loaded : Bool) → List OrderActivation → Words → OrderState
  enter size g place loaded [] w = at g place loaded [] w Stuck
  enter size g place loaded (a ∷ acts) w =
      enter_with a.entered (nat_lt (length acts) p.limits.depth) (nat_le (a.frame_base + size) p.limits.area) size a g place loaded acts w

  abbrev pub come_back : (arguments : ℕ) → (answers : Bool) → (segment place : ℕ) → (loaded : Bool) → List OrderActivation → Words → OrderState
  come_back n answers g place loaded [] w = at g place loaded [] w Stuck
  come_back n answers g place loaded (a ∷ acts) w =
      return_with (nat_eq (operand_words a.arguments) n) answers w.operands a g place loaded acts w

  abbrev pub end_body : (segment place : ℕ) → (loaded : Bool) → List OrderActivation → Words → OrderState
  end_body g place loaded [] w = next_body (slice_get p.units (g + 1)) g place loaded w
  end_body g place loaded (a ∷ acts) w = at g place loaded (a ∷ acts) w Stuck

  -- ---- steps

  abbrev pub act : Action → (segment place : ℕ) → (loaded : Bool) → List OrderActivation → Words → OrderState
  act (Perform line op) g place loaded acts w = after p.room line (perform p.limits.area op w) g place loaded acts w
  act (Access op) g place loaded acts w = after p.room 0 (unrefused (perform p.limits.area op w)) g place loaded acts w
  act (Alter line f) g place loaded acts w = after p.room line (f w) g place loaded acts w
  act (AlterWithin f) g place loaded acts w = after p.room 0 (unrefused (f w)) g place loaded acts w
  act Pass g place loaded acts w = at g (place + 1) loaded acts w Running
  act (Branch line f) g place loaded acts w = branch line (f w) g place loaded acts w
  act (GoMain m) g place loaded acts w = leave_for (place_of p g m) g (length acts) g place loaded acts w
  act (GoLabel c) g place loaded acts w = go_to c g place loaded acts w
  act (GoSwitch line c) g place loaded acts w = go_through line c g place loaded acts w
  act (Call line c) g place loaded acts w = call line c g place loaded acts w
  act (Enter size) g place loaded acts w = enter size g place loaded acts w
  act (Return n answers) g place loaded acts w = come_back n answers g place loaded acts w
  act EndBody g place loaded acts w = end_body g place loaded acts w

  -- an order, where the accumulator is as it wants it
  abbrev pub carry_with : Option Bool → Order → (segment place : ℕ) → (loaded : Bool) → List OrderActivation → Words → OrderState
  carry_with None o g place loaded acts w = at g place loaded acts w Stuck
  carry_with (Some after) o g place loaded acts w = act (action_of p g acts o) g place after acts w

  abbrev pub carry_out : Option Order → (segment place : ℕ) → (loaded : Bool) → List OrderActivation → Words → OrderState
  carry_out None g place loaded acts w = at g place loaded acts w Stuck
  carry_out (Some o) g place loaded acts w = carry_with (loaded_after o loaded) o g place loaded acts w

  -- one order; a run that has ended or stopped stays as it is
  abbrev pub step : OrderState → OrderState
  step (at g place loaded acts w Running) = carry_out (order_at p g place) g place loaded acts w
  step (at g place loaded acts w Ended) = at g place loaded acts w Ended
  step (at g place loaded acts w (Stopped kind s l)) = at g place loaded acts w (Stopped kind s l)
  step (at g place loaded acts w Stuck) = at g place loaded acts w Stuck

-- ---- the machine

abbrev pub weight : OrderProgram → OrderState → ℕ
weight p (at g place loaded acts w e) = weight_at (order_at p g place)

abbrev pub shown : OrderState → Observation
shown (at g place loaded acts w e) = record { output = w.output; end = e }

abbrev pub order_machine : OrderProgram → Machine Observation
order_machine p = record { State = OrderState; step = step p; shown = shown; weight = weight p }

abbrev pub entry_of : Option Orders → ℕ
entry_of None = 0
entry_of (Some u) = u.entry

-- the first body's entry, with the words of memory and the bytes of the input
abbrev pub order_start : OrderProgram → (memory : List ℤ) → (input : List ℕ) → OrderState
order_start p memory input =
    at 0 (entry_of (slice_get p.units 0)) false [] (record { operands = []; memory = memory; input = input; output = [] }) Running
