-- What each order does.
use Rattle.std.specs.Prelude.{ℕ, ◌+◌, ◌-◌, ◌%◌, ◌-ℤ◌, List, [], length, Bool, not, Option, Some, None, slice_index, slice_index_or}
use Rattle.cw_word.specs.Word.{signed}
use Rattle.cw_unit.specs.declared.unit.LogicOp.TheVariants as logic
use Rattle.cw_unit.specs.declared.layout.Map.{Map}
use Rattle.cw_unit.specs.Words.{Control, LabelControl, SwitchControl, ProcedureControl, Words, Outcome, is_below, number_of}
use Rattle.cw_unit.specs.Operation.{Operation, Constant, Rescale, Fetch, Store, StoreBits, Add, Subtract, Negate, Multiply, Divide, Combine}
use Rattle.cw_unit.specs.Operation.{Extract, Form, Taken, Indexed, Indexed2, Scaled, InBounds, ReadByte, WriteByte, holds}
use Rattle.cw_unit.specs.Step.{switch_of_def, procedure_of_def, label_of_def, with_label_owner, with_switch_owner, as_procedure, held}
use Rattle.cw_order.specs.declared.order.Place.{Place}
use Rattle.cw_order.specs.declared.order.Place.TheVariants as cell
use Rattle.cw_order.specs.declared.order.Order.{Order}
use Rattle.cw_order.specs.declared.order.Order.TheVariants as order
use Rattle.cw_order.specs.OrderProgram.{OrderProgram, defined_at}
use Rattle.cw_order.specs.OrderState.{OrderActivation, argument_at, control_at, frame_word}
use Rattle.cw_order.specs.OrderChanges.{index, from_base, difference, without_top, put_address, bind, Way, ToMark, way_of_one, way_of_two, to_mark_if, to_mark_in}
use Rattle.cw_order.specs.OrderChanges.{to_mark_of_switch, comparison, set_variable, add_step, put_variable, way_past_limit, next_step, mark_of_number}

-- Perform does an operation, which may stop at a line. Access does one that never stops, or not on an address that has been tested or is
-- that of an item. Alter changes the words, and may stop; AlterWithin changes them and never stops. Branch goes on here or there, or stops at a line. GoMain
-- goes to a label of the segment's body, GoLabel to a label, GoSwitch through a switch. EndBody goes on with the next segment's body
pub data Action : Type 0 where
  Perform : (line : ℕ) → Operation → Action
  Access : Operation → Action
  Alter : (line : ℕ) → (Words → Outcome) → Action
  AlterWithin : (Words → Outcome) → Action
  Pass : Action
  Branch : (line : ℕ) → (Words → Way) → Action
  GoMain : (mark : ℕ) → Action
  GoLabel : Option Control → Action
  GoSwitch : (line : ℕ) → Option Control → Action
  Call : (line : ℕ) → Option Control → Action
  Enter : (size : ℕ) → Action
  Return : (arguments : ℕ) → (answers : Bool) → Action
  EndBody : Action

-- the address of a word of a storage family of a segment, as the linker fills it in
abbrev pub home_word : Map → (segment family offset : ℕ) → ℕ
home_word m g family offset = (slice_index (slice_index_or m.homes g []) family + offset) % 65536

module _ (p : OrderProgram) where
  -- the address of a place, where it has one
  abbrev pub place_address : (segment : ℕ) → List OrderActivation → Place → Option ℕ
  place_address g acts (cell.Word family offset) = Some (home_word p.addresses g family offset)
  place_address g acts (cell.Frame n) = frame_word p.limits.area acts n

  -- the label, the switch or the procedure of a descriptor
  abbrev pub common_label : (segment owner descriptor : ℕ) → Option Control
  common_label g owner d = with_label_owner owner (label_of_def (defined_at p g d))

  abbrev pub common_switch : (segment owner descriptor : ℕ) → Option Control
  common_switch g owner d = with_switch_owner owner (switch_of_def (defined_at p g d))

  abbrev pub common_procedure : (segment descriptor : ℕ) → Option Control
  common_procedure g d = as_procedure (procedure_of_def (defined_at p g d))

  abbrev pub action_of : (segment : ℕ) → List OrderActivation → Order → Action
  -- words
  action_of g acts order.Save = Pass
  action_of g acts (order.Const w) = Access (Constant (signed w))
  action_of g acts (order.Home family offset) = Access (Constant (signed (home_word p.addresses g family offset)))
  action_of g acts (order.FrameHome n) = AlterWithin (put_address (frame_word p.limits.area acts n))
  action_of g acts order.Load = Access (Fetch None)
  action_of g acts order.Store = Access (Store None)
  action_of g acts (order.LoadPart t b is_signed) = Access (Fetch (Some (record { t = t; b = b; unsigned = not is_signed })))
  action_of g acts (order.StorePart t b) = Access (StoreBits t b)
  action_of g acts (order.Rescale from to line) = Perform line (Rescale from to)
  action_of g acts (order.Add line) = Perform line Add
  action_of g acts (order.Sub line) = Perform line Subtract
  action_of g acts (order.Neg line) = Perform line Negate
  action_of g acts (order.Mul s line) = Perform line (Multiply s)
  action_of g acts (order.Div s line) = Perform line (Divide s)
  action_of g acts order.And = Access (Combine logic.Mask)
  action_of g acts order.Or = Access (Combine logic.Union)
  action_of g acts order.Xor = Access (Combine logic.Differ)
  action_of g acts (order.Take t b) = Access (Extract t b)
  action_of g acts order.Less = AlterWithin difference
  action_of g acts order.Drop = AlterWithin without_top
  action_of g acts order.ReadByte = Access ReadByte
  action_of g acts order.WriteByte = Access WriteByte
  -- addresses
  action_of g acts (order.IndexLess lower line) = Alter line (index (λ i. i -ℤ lower))
  action_of g acts (order.Element lower span line) = Alter line (from_base p.limits.area (λ base. Indexed base lower))
  action_of g acts (order.ElementOfTwo lower second width line) = Alter line (from_base p.limits.area (λ base. Indexed2 base lower second width))
  action_of g acts (order.ElementInside lower second width span) = AlterWithin (from_base p.limits.area (λ base. Indexed2 base lower second width))
  action_of g acts (order.Entry width word span line) = Alter line (from_base p.limits.area (λ base. Scaled base width word))
  action_of g acts (order.InArea line) = Perform line (Form Taken)
  action_of g acts (order.InBounds lower upper line) = Perform line (InBounds lower upper)
  action_of g acts (order.SetVariable line) = Alter line (set_variable p.limits.area)
  action_of g acts (order.AddStep line) = Alter line (add_step p.limits.area)
  action_of g acts (order.PutVariable line) = Alter line (put_variable p.limits.area)
  -- ways within a body
  action_of g acts (order.Jump m) = Branch 0 (ToMark m)
  action_of g acts (order.JumpIf c m) = Branch 0 (way_of_two (λ x y v. to_mark_if (holds (comparison c) x y) m v))
  action_of g acts (order.Exhausted m) =
      Branch 0 (way_of_two (λ x a v. way_past_limit (is_below a (p.limits.area - 2)) m x (number_of a) v))
  action_of g acts (order.NextStep x line m) = Branch line (next_step p.limits.area m (place_address g acts x))
  action_of g acts (order.LoopWay marks) = Branch 0 (λ w. way_of_one (λ i v. to_mark_in (mark_of_number marks i) v) w.operands w)
  action_of g acts (order.SwitchWay marks line) = Branch line (λ w. way_of_one (λ i v. to_mark_of_switch (mark_of_number marks i) v) w.operands w)
  action_of g acts order.Mark = Pass
  action_of g acts (order.Start n) = Pass
  action_of g acts order.NextBody = EndBody
  -- control arguments
  action_of g acts (order.LabelOut l) = AlterWithin (held (Some (LabelControl g l (length acts))))
  action_of g acts (order.LabelCommon d) = AlterWithin (held (common_label g (length acts) d))
  action_of g acts (order.SwitchOut n) = AlterWithin (held (Some (SwitchControl g n (length acts))))
  action_of g acts (order.SwitchCommon d) = AlterWithin (held (common_switch g (length acts) d))
  action_of g acts (order.ProcOut q) = AlterWithin (held (Some (ProcedureControl g q)))
  action_of g acts (order.ProcCommon d) = AlterWithin (held (common_procedure g d))
  action_of g acts (order.SpecialOut k) = AlterWithin (held (control_at acts k))
  -- jumps
  action_of g acts (order.GoMain m) = GoMain m
  action_of g acts (order.GoCommon d) = GoLabel (common_label g (length acts) d)
  action_of g acts (order.GoSpecial k) = GoLabel (control_at acts k)
  action_of g acts (order.GoSwitch n line) = GoSwitch line (Some (SwitchControl g n (length acts)))
  action_of g acts (order.GoSwitchCommon d line) = GoSwitch line (common_switch g (length acts) d)
  action_of g acts (order.GoSwitchSpecial k line) = GoSwitch line (control_at acts k)
  -- calls
  action_of g acts (order.CallProc q line) = Call line (Some (ProcedureControl g q))
  action_of g acts (order.CallCommon d line) = Call line (common_procedure g d)
  action_of g acts (order.CallSpecial k line) = Call line (control_at acts k)
  action_of g acts (order.Enter size) = Enter size
  action_of g acts (order.Bind k family offset) =
      AlterWithin (bind p.limits.area (argument_at acts k) (Some (home_word p.addresses g family offset)))
  action_of g acts (order.BindFrame k offset) = AlterWithin (bind p.limits.area (argument_at acts k) (frame_word p.limits.area acts offset))
  action_of g acts (order.Return n answers) = Return n answers
