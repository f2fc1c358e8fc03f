-- Example programs. Each has its segments, its limits, its input, how many steps it takes, and what it shows then.
use Rattle.std.specs.Prelude.{ℕ, ◌-◌, pos, negsuc, List, [], ◌∷◌, replicate, true, false, Some, None}
use Rattle.cw_unit.specs.declared.unit.Unit.{Unit as SourceUnit}
use Rattle.cw_unit.specs.declared.unit.Proc.{Proc}
use Rattle.cw_unit.specs.declared.unit.Stmt.{Stmt}
use Rattle.cw_unit.specs.declared.unit.Expr.{Expr}
use Rattle.cw_unit.specs.declared.unit.Ref.{Ref}
use Rattle.cw_unit.specs.declared.unit.Param.TheVariants as param
use Rattle.cw_unit.specs.declared.unit.Target.TheVariants as target
use Rattle.cw_unit.specs.declared.unit.Dest.TheVariants as dest
use Rattle.cw_unit.specs.declared.unit.Goal.TheVariants as goal
use Rattle.cw_unit.specs.declared.unit.Def.TheVariants as def
use Rattle.cw_unit.specs.declared.unit.Felem.TheVariants as elem
use Rattle.cw_unit.specs.declared.unit.CompareOp.TheVariants as compare
use Rattle.cw_unit.specs.declared.unit.ItemKind.TheVariants as kind
use Rattle.cw_unit.specs.declared.unit.Home.TheVariants as home
use Rattle.cw_unit.specs.declared.layout.Limits.{Limits}
use Rattle.cw_unit.specs.declared.descriptor.Scale.{Scale}
use Rattle.cw_unit.specs.declared.descriptor.Desc.{Desc}
use Rattle.cw_unit.specs.declared.descriptor.Spec.{Spec}
use Rattle.cw_unit.specs.declared.descriptor.SpecParam.TheVariants as sparam
use Rattle.cw_unit.specs.declared.descriptor.DescBody.TheVariants as body
use Rattle.cw_unit.specs.declared.layout.Map.{Map}
use Rattle.cw_unit.specs.Allocation.{storage_map}
use Rattle.cw_unit.specs.Program.{program_of}
use Rattle.cw_unit.specs.Stop.{End, Running, Ended, Stopped, Overflow, ZeroDivisor, SwitchRange, AddressRange, FramesFull, DepthReached}
use Rattle.cw_unit.specs.Behaviour.{Observation, observed}
use Rattle.cw_checks_meaning.specs.Trees.{fixed, item, through, element, array_element, entry_word, entry_part}
use Rattle.cw_checks_meaning.specs.Trees.{bare, number, decimal, constant, read, value, locate, bits, sum}
use Rattle.cw_checks_meaning.specs.Trees.{less, minus, times, over, asks, compares, by_value, by_place, the_array}
use Rattle.cw_checks_meaning.specs.Trees.{the_table, the_label, the_switch, the_procedure, handed_on}
use Rattle.cw_checks_meaning.specs.Trees.{put_on, put, assign, call, writes, row, nothing, choice, answer, loop}
use Rattle.cw_checks_meaning.specs.Trees.{marked, go, go_to, integer, stored, single, array_of, table_of}
use Rattle.cw_checks_meaning.specs.Trees.{local_of, framed, loop_of, loop_words, common_item, procedure_of}
use Rattle.cw_checks_meaning.specs.Trees.{body_label, switch_of, described, unit_of, segment_of}

pub record Example : Type 0 where
  pub segments : List SourceUnit
  pub limits : Limits
  pub input : List ℕ
  pub steps : ℕ
  pub output : List ℕ
  pub end : End

-- what an example shows: its output and how it ended
abbrev pub result_of : Example → Observation
result_of x = observed (program_of x.segments x.limits) x.input x.steps

abbrev pub wanted_of : Example → Observation
wanted_of x = record { output = x.output; end = x.end }

-- a step before, it was running
abbrev pub before_of : Example → End
before_of x = (observed (program_of x.segments x.limits) x.input (x.steps - 1)).end

abbrev pub running_of : Example → End
running_of x = Running

abbrev pub small : Limits
small = record { area = 64; frames = 32; depth = 16 }

abbrev pub at_limits : Limits → List SourceUnit → (steps : ℕ) → List ℕ → End → Example
at_limits limits us n output e = record { segments = us; limits = limits; input = []; steps = n; output = output; end = e }

abbrev pub one : SourceUnit → (steps : ℕ) → List ℕ → End → Example
one u n output e = at_limits small (u ∷ []) n output e

-- ---- expressions

abbrev pub first_sum : Example
first_sum =
    one (segment_of (single ∷ []) [] [] [] (assign 0 (sum (number 1) (number 2)) ∷ writes (sum (value 0) (number 64)) ∷ [])) 19 (67 ∷ [])
    Ended

abbrev pub overflow_line : Example
overflow_line =
    one (segment_of (single ∷ []) [] [] [] (put_on 2 (item 0) (number 32767) ∷ put_on 3 (item 0) (sum (value 0) (number 1)) ∷ [])) 13 []
    (Stopped Overflow 1 3)

-- 80 * 80 / 32
abbrev pub scaled_square : Example
scaled_square =
    one
    (segment_of (single ∷ single ∷ []) [] [] []
    (put (fixed 5 0) (decimal 2 5 1)
    ∷ put (fixed 5 1) (times (read (fixed 5 0)) (read (fixed 5 0)))
    ∷ writes (bits 16 0 (read (fixed 5 1)))
    ∷ []))
    40
    (200 ∷ [])
    Ended

-- Y := OCTAL(100000), and then X is this
abbrev pub divides : Expr → Stmt → List ℕ → End → Example
divides e s output end =
    one (segment_of (single ∷ single ∷ []) [] [] [] (assign 1 (constant (negsuc 32767)) ∷ assign 0 e ∷ s ∷ [])) 60 output end

abbrev pub toward_zero : Example
toward_zero = divides (minus (over (number 7) (number 2))) (writes (value 0)) (253 ∷ []) Ended

abbrev pub least_over_one : Example
least_over_one = divides (over (value 1) (number 1)) (writes (over (value 0) (number 256))) (128 ∷ []) Ended

abbrev pub least_over_minus_one : Example
least_over_minus_one = divides (over (value 1) (minus (number 1))) nothing [] (Stopped Overflow 1 1)

abbrev pub over_zero : Example
over_zero = divides (over (number 1) (less (value 1) (value 1))) nothing [] (Stopped ZeroDivisor 1 1)

abbrev pub expressions : List Example
expressions =
    first_sum ∷ overflow_line ∷ scaled_square ∷ toward_zero ∷ least_over_one ∷ least_over_minus_one ∷ over_zero ∷ []

-- ---- addresses

-- U[0] := 9; S[0] := 31, two parts of a word that is A[2]
abbrev pub packed_table_overlay : Example
packed_table_overlay =
    one
    (segment_of (array_of 4 ∷ stored None kind.Table (home.Over 0 2) 2 [] ∷ []) [] [] []
    (put (entry_part 1 true 5 5 (number 0)) (number 9)
    ∷ put (entry_part 1 false 5 0 (number 0)) (number 31)
    ∷ writes (read (entry_part 1 false 5 0 (number 0)))
    ∷ writes (read (entry_part 1 true 5 5 (number 0)))
    ∷ writes (read (element 0 (pos 0) (number 2)))
    ∷ []))
    80
    (255 ∷ 9 ∷ 63 ∷ [])
    Ended

abbrev pub reads_past : (index steps : ℕ) → List ℕ → End → Example
reads_past n steps output e =
    one
    (segment_of (array_of 4 ∷ array_of 10 ∷ []) [] [] []
    (put (element 1 (pos 0) (number 6)) (number 77) ∷ writes (read (element 0 (pos 0) (number n))) ∷ []))
    steps
    output
    e

abbrev pub index_past_bounds : Example
index_past_bounds = reads_past 10 17 (77 ∷ []) Ended

abbrev pub index_past_area : Example
index_past_area = reads_past 32767 40 [] (Stopped AddressRange 1 1)

-- [LOCATION(A) + 1] := 7 stores into B
abbrev pub raw_address : Example
raw_address =
    one
    (segment_of (single ∷ single ∷ []) [] [] []
    (put (bare (sum (locate (item 0)) (number 1))) (number 7) ∷ writes (value 1) ∷ []))
    40
    (7 ∷ [])
    Ended

abbrev pub presets : Example
presets =
    one
    (segment_of (stored None kind.Array home.Own 5 ((0, 1) ∷ (2, 3) ∷ (3, 4) ∷ []) ∷ []) [] [] []
    (writes (read (element 0 (pos 0) (number 0)))
    ∷ writes (read (element 0 (pos 0) (number 1)))
    ∷ writes (read (element 0 (pos 0) (number 3)))
    ∷ []))
    60
    (1 ∷ 0 ∷ 4 ∷ [])
    Ended

abbrev pub addresses : List Example
addresses = packed_table_overlay ∷ index_past_bounds ∷ index_past_area ∷ raw_address ∷ presets ∷ []

-- ---- switches, FORs and input

abbrev pub switch_by : (index : ℕ) → List ℕ → End → Example
switch_by n output e =
    one
    (segment_of (single ∷ []) [] (body_label ∷ body_label ∷ []) (switch_of (goal.Own 0 ∷ goal.Own 1 ∷ []) ∷ [])
    (assign 0 (number n) ∷ go (dest.Switch 0 (value 0)) ∷ marked 0 (writes (number 76)) ∷ marked 1 (writes (number 77)) ∷ []))
    16
    output
    e

abbrev pub switch_to_second : Example
switch_to_second = switch_by 2 (77 ∷ []) Ended

abbrev pub switch_range : List Example
switch_range = switch_to_second ∷ switch_by 0 [] (Stopped SwitchRange 1 1) ∷ switch_by 3 [] (Stopped SwitchRange 1 1) ∷ []

abbrev pub for_elements : Example
for_elements =
    one
    (segment_of (single ∷ loop_words ∷ loop_words ∷ loop_words ∷ []) [] [] []
    (loop 1 0 (elem.Step (number 3) (number 1) (number 2) ∷ []) (writes (value 0))
    ∷ loop 2 0 (elem.Step (number 3) (minus (number 1)) (number 1) ∷ []) (writes (value 0))
    ∷ loop 3 0 (elem.One (number 5) ∷ elem.While (sum (value 0) (number 1)) (compares compare.Less (value 0) (number 8)) ∷ []) (writes (value 0))
    ∷ []))
    137
    (3 ∷ 2 ∷ 1 ∷ 5 ∷ 6 ∷ 7 ∷ [])
    Ended

-- a store into loop word 2, the limit
abbrev pub limit_changed : Example
limit_changed =
    one
    (segment_of (single ∷ loop_words ∷ []) [] [] []
    (loop 1 0 (elem.Step (number 1) (number 1) (number 9) ∷ [])
    (row (put (bare (sum (locate (item 0)) (number 3))) (number 2) ∷ writes (value 0) ∷ []))
    ∷ []))
    58
    (1 ∷ 2 ∷ [])
    Ended

abbrev pub three_values : List Stmt → Stmt
three_values ss = loop 1 0 (elem.One (number 1) ∷ elem.One (number 2) ∷ elem.One (number 3) ∷ []) (row ss)

-- a jump out of the middle of the body to its end: the loop goes on
abbrev pub jump_in_body : Example
jump_in_body =
    one
    (segment_of (single ∷ loop_words ∷ []) [] (body_label ∷ []) []
    (three_values (choice (compares compare.Equal (value 0) (number 2)) (go_to 0) nothing ∷ writes (value 0) ∷ marked 0 nothing ∷ []) ∷ []))
    68
    (1 ∷ 3 ∷ [])
    Ended

-- a store into loop word 3: no element has number 9
abbrev pub element_number_changed : Example
element_number_changed =
    one
    (segment_of (single ∷ loop_words ∷ []) [] [] []
    (three_values (put (bare (sum (locate (item 0)) (number 4))) (number 9) ∷ writes (value 0) ∷ []) ∷ []))
    28
    (1 ∷ [])
    Ended

abbrev pub copy_input : Example
copy_input =
    record {
      segments =
          segment_of (single ∷ []) [] (body_label ∷ []) []
          (marked 0 (assign 0 (asks target.Read []))
          ∷ choice (compares compare.GreaterEq (value 0) (number 0)) (row (writes (value 0) ∷ go_to 0 ∷ [])) nothing
          ∷ [])
          ∷ [];
      limits = small;
      input = 0 ∷ 255 ∷ [];
      steps = 100;
      output = 0 ∷ 255 ∷ [];
      end = Ended;
    }

abbrev pub control : List Example
control = for_elements ∷ limit_changed ∷ jump_in_body ∷ element_number_changed ∷ copy_input ∷ switch_range

-- ---- procedures

abbrev pub factorial : Proc
factorial =
    procedure_of true (Some integer) (param.Value 0 integer ∷ []) 0
    (choice (compares compare.Less (value 0) (number 2)) (answer (number 1))
    (answer (times (value 0) (asks (target.Own 0) (by_value (less (value 0) (number 1)) ∷ [])))))

abbrev pub factorial_of : ℕ → Expr
factorial_of n = asks (target.Own 0) (by_value (number n) ∷ [])

abbrev pub recursion : Example
recursion =
    one (segment_of (framed 0 1 ∷ []) (factorial ∷ []) [] [] (writes (over (factorial_of 7) (number 256)) ∷ writes (factorial_of 7) ∷ []))
    367
    (19 ∷ 176 ∷ [])
    Ended

abbrev pub product_overflows : Example
product_overflows = one (segment_of (framed 0 1 ∷ []) (factorial ∷ []) [] [] (writes (factorial_of 8) ∷ [])) 206 [] (Stopped Overflow 1 1)

-- a procedure that calls itself, and is not RECURSIVE
abbrev pub endless_call : Example
endless_call =
    at_limits (record { area = 64; frames = 32; depth = 256 })
    (segment_of [] (procedure_of false None [] 0 (call (target.Own 0) []) ∷ []) [] [] (call (target.Own 0) [] ∷ []) ∷ [])
    515
    []
    (Stopped DepthReached 1 1)

-- a jump by a label parameter ends the calls above the one that owns the label
abbrev pub label_parameter_jump : Example
label_parameter_jump =
    at_limits (record { area = 64; frames = 32; depth = 3 })
    (segment_of (framed 0 1 ∷ [])
    (procedure_of true None (param.Value 0 integer ∷ param.Label 0 ∷ []) 1
    (choice (compares compare.Equal (value 0) (number 0)) (go (dest.Special 0))
    (call (target.Own 0) (by_value (less (value 0) (number 1)) ∷ handed_on 0 ∷ [])))
    ∷ [])
    (body_label ∷ body_label ∷ [])
    []
    (call (target.Own 0) (by_value (number 2) ∷ the_label 0 ∷ [])
    ∷ writes (number 1)
    ∷ marked 0 (call (target.Own 0) (by_value (number 2) ∷ the_label 1 ∷ []))
    ∷ writes (number 2)
    ∷ marked 1 (writes (number 3))
    ∷ [])
    ∷ [])
    112
    (3 ∷ [])
    Ended

-- the words of two items are exchanged
abbrev pub location_parameters : Example
location_parameters =
    one
    (segment_of (local_of 0 ∷ local_of 0 ∷ local_of 0 ∷ single ∷ single ∷ [])
    (procedure_of false None (param.Location 0 integer ∷ param.Location 1 integer ∷ []) 0
    (row (assign 2 (read (through 0)) ∷ put (through 0) (read (through 1)) ∷ put (through 1) (value 2) ∷ []))
    ∷ [])
    []
    []
    (assign 3 (number 1)
    ∷ assign 4 (number 2)
    ∷ call (target.Own 0) (by_place (item 3) ∷ by_place (item 4) ∷ [])
    ∷ writes (value 3)
    ∷ writes (value 4)
    ∷ []))
    80
    (2 ∷ 1 ∷ [])
    Ended

-- the sum of an array whose first index is 1
abbrev pub array_parameter : Example
array_parameter =
    one
    (segment_of
    (local_of 0
    ∷ local_of 0
    ∷ local_of 0
    ∷ local_of 0
    ∷ loop_of (Some 0)
    ∷ stored None kind.Array home.Own 3 ((0, 10) ∷ (1, 20) ∷ (2, 30) ∷ [])
    ∷ [])
    (procedure_of false (Some integer) (param.Array 0 integer ∷ param.Value 1 integer ∷ []) 0
    (row
    (assign 3 (number 0)
    ∷ loop 4 2 (elem.Step (number 1) (number 1) (value 1) ∷ []) (assign 3 (sum (value 3) (read (array_element 0 (value 2)))))
    ∷ answer (value 3)
    ∷ []))
    ∷ [])
    []
    []
    (writes (asks (target.Own 0) (the_array 5 (pos 1) ∷ by_value (number 3) ∷ [])) ∷ []))
    160
    (60 ∷ [])
    Ended

abbrev pub table_parameter : Example
table_parameter =
    one
    (segment_of (local_of 0 ∷ local_of 0 ∷ table_of 6 ∷ [])
    (procedure_of false None (param.Table 0 2 ∷ param.Value 1 integer ∷ []) 0 (put (entry_word 0 true 2 1 (value 1)) (number 7)) ∷ [])
    []
    []
    (call (target.Own 0) (the_table 2 ∷ by_value (number 1) ∷ []) ∷ writes (read (entry_word 2 false 2 1 (number 1))) ∷ []))
    60
    (7 ∷ [])
    Ended

-- a typed procedure that comes to its end answers 0
abbrev pub no_answer : Example
no_answer =
    one (segment_of [] (procedure_of false (Some integer) [] 0 nothing ∷ []) [] [] (writes (asks (target.Own 0) []) ∷ [])) 30 (0 ∷ []) Ended

abbrev pub procedure_parameter : Example
procedure_parameter =
    one
    (segment_of []
    (procedure_of false None (param.Proc 0 (record { answer = None; params = [] }) ∷ []) 1
    (row (call (target.Special 0 None) [] ∷ call (target.Special 0 None) [] ∷ []))
    ∷ procedure_of false None [] 0 (writes (number 1))
    ∷ [])
    []
    []
    (call (target.Own 0) (the_procedure 1 ∷ []) ∷ []))
    60
    (1 ∷ 1 ∷ [])
    Ended

abbrev pub switch_parameter : Example
switch_parameter =
    one
    (segment_of [] (procedure_of false None (param.Switch 0 ∷ []) 1 (go (dest.SpecialSwitch 0 (number 2))) ∷ [])
    (body_label ∷ body_label ∷ [])
    (switch_of (goal.Own 0 ∷ goal.Own 1 ∷ []) ∷ [])
    (call (target.Own 0) (the_switch 0 ∷ []) ∷ marked 0 (writes (number 1)) ∷ marked 1 (writes (number 2)) ∷ []))
    60
    (2 ∷ [])
    Ended

abbrev pub procedures : List Example
procedures =
    recursion
    ∷ product_overflows
    ∷ endless_call
    ∷ label_parameter_jump
    ∷ location_parameters
    ∷ array_parameter
    ∷ table_parameter
    ∷ no_answer
    ∷ procedure_parameter
    ∷ switch_parameter
    ∷ []

-- frames of 101 words: the 41st call finds no room
abbrev pub frame_area_full : Example
frame_area_full =
    at_limits (record { area = 4160; frames = 4096; depth = 256 })
    (segment_of (framed 0 1 ∷ framed 0 100 ∷ [])
    (procedure_of true None (param.Value 0 integer ∷ []) 0
    (row
    (choice (compares compare.Greater (value 0) (number 0)) (call (target.Own 0) (by_value (less (value 0) (number 1)) ∷ [])) nothing ∷ []))
    ∷ [])
    []
    []
    (call (target.Own 0) (by_value (number 50) ∷ []) ∷ [])
    ∷ [])
    765
    []
    (Stopped FramesFull 1 1)

-- ---- segments

-- a jump to a label of the next segment
abbrev pub common_label : Example
common_label =
    at_limits small
    (unit_of 65 (described 79 body.Label ∷ []) [] [] [] [] [] (row (go (dest.Goal (goal.Common 0)) ∷ []))
    ∷ unit_of 66 (described 79 body.Label ∷ []) [] [] (body_label ∷ []) [] ((0, def.Label 0) ∷ [])
    (row (writes (number 1) ∷ marked 0 (writes (number 2)) ∷ []))
    ∷ [])
    30
    (2 ∷ [])
    Ended

-- an absolute word stands at 0, so the next families stand behind it; a common word is the same in both segments
abbrev pub shared_word : Example
shared_word =
    at_limits small
    (unit_of 65 (described 84 (body.Word integer) ∷ []) (common_item 0 1 ∷ array_of 2 ∷ stored None kind.Single (home.Absolute 0) 1 [] ∷ []) [] [] [] []
    (assign 0 (number 5))
    ∷ unit_of 66 (described 84 (body.Word integer) ∷ []) (common_item 0 1 ∷ array_of 3 ∷ []) [] [] [] []
    (row (writes (value 0) ∷ writes (locate (element 1 (pos 0) (number 0))) ∷ []))
    ∷ [])
    40
    (5 ∷ 4 ∷ [])
    Ended

abbrev pub several_segments : List Example
several_segments = common_label ∷ shared_word ∷ []

-- ---- examples whose steps are counted exactly

abbrev pub counted : List Example
counted =
    first_sum
    ∷ overflow_line
    ∷ index_past_bounds
    ∷ for_elements
    ∷ limit_changed
    ∷ jump_in_body
    ∷ element_number_changed
    ∷ recursion
    ∷ product_overflows
    ∷ endless_call
    ∷ label_parameter_jump
    ∷ switch_to_second
    ∷ []

-- ---- long runs

abbrev pub countdown : Proc
countdown =
    procedure_of true None (param.Value 0 integer ∷ []) 0
    (choice (compares compare.Greater (value 0) (number 0)) (call (target.Own 0) (by_value (less (value 0) (number 1)) ∷ [])) nothing)

abbrev pub calls_300 : Example
calls_300 =
    at_limits (record { area = 512; frames = 400; depth = 256 })
    (segment_of (framed 0 1 ∷ []) (countdown ∷ []) [] [] (call (target.Own 0) (by_value (number 300) ∷ []) ∷ []) ∷ [])
    4613
    []
    (Stopped DepthReached 1 1)

-- a filter that the first segment defines: LEVEL := LEVEL + (X - LEVEL) * 0.5, and an alarm from 60 on
abbrev pub level : Scale
level = record { t = 16; f = 4 }

abbrev pub alarm : Spec
alarm = record { answer = Some integer; params = sparam.Value integer ∷ [] }

abbrev pub shared_names : List Desc
shared_names = described 76 (body.Word level) ∷ described 65 (body.Proc alarm) ∷ []

abbrev pub filter : SourceUnit
filter =
    unit_of 70 shared_names (common_item 0 1 ∷ local_of 0 ∷ [])
    (procedure_of false (Some integer) (param.Value 1 integer ∷ []) 0
    (row
    (put (fixed 4 0) (sum (read (fixed 4 0)) (times (less (value 1) (read (fixed 4 0))) (decimal 0 5 1)))
    ∷ choice (compares compare.GreaterEq (read (fixed 4 0)) (number 60)) (answer (number 1)) (answer (number 0))
    ∷ []))
    ∷ [])
    []
    []
    ((1, def.Proc 0) ∷ [])
    (row (put (fixed 4 0) (number 0) ∷ []))

abbrev pub seen : ℕ → Ref
seen n = entry_part 4 true 8 0 (number n)

abbrev pub kind_seen : ℕ → Ref
kind_seen n = entry_part 4 false 8 8 (number n)

abbrev pub counts_seen : ℕ → Stmt
counts_seen n = put (seen n) (sum (read (seen n)) (number 1))

-- labels NEXT, IDLE, BUSY, DONE; items LEVEL, C, STATE, N, LOG
abbrev pub controls : SourceUnit
controls =
    unit_of 67 shared_names (common_item 0 1 ∷ single ∷ single ∷ single ∷ table_of 4 ∷ []) []
    (body_label ∷ body_label ∷ body_label ∷ body_label ∷ [])
    (switch_of (goal.Own 1 ∷ goal.Own 2 ∷ []) ∷ [])
    []
    (row
    (assign 2 (number 1)
    ∷ marked 0 (assign 1 (asks target.Read []))
    ∷ choice (compares compare.Less (value 1) (number 0)) (go_to 3) nothing
    ∷ choice (compares compare.Equal (asks (target.Common 1) (by_value (value 1) ∷ [])) (number 1)) (assign 2 (number 2)) nothing
    ∷ go (dest.Switch 0 (value 2))
    ∷ marked 1 (counts_seen 0)
    ∷ go_to 0
    ∷ marked 2 (counts_seen 1)
    ∷ put (kind_seen 1) (minus (number 1))
    ∷ go_to 0
    ∷ marked 3 (writes (read (seen 0)))
    ∷ writes (read (seen 1))
    ∷ writes (read (kind_seen 1))
    ∷ []))

abbrev pub filter_and_control : Example
filter_and_control =
    record {
      segments = filter ∷ controls ∷ [];
      limits = small;
      input = replicate 200 64;
      steps = 30000;
      output = 3 ∷ 197 ∷ 255 ∷ [];
      end = Ended;
    }

-- ---- storage maps

abbrev pub map_of_example : Example → Map
map_of_example x = storage_map x.segments

-- an absolute word at 3, and an array of five words
abbrev pub absolute_word : SourceUnit
absolute_word = unit_of 65 [] (stored None kind.Single (home.Absolute 3) 1 [] ∷ array_of 5 ∷ []) [] [] [] [] nothing

-- LEVEL, then ALARM's X, and in the second segment LEVEL again, C, STATE, N and LOG
abbrev pub filter_map : Map
filter_map = record { homes = (0 ∷ 1 ∷ []) ∷ (0 ∷ 2 ∷ 3 ∷ 4 ∷ 5 ∷ []) ∷ []; end = 9 }

-- an overlay is in the family of its base
abbrev pub packed_map : Map
packed_map = record { homes = (0 ∷ []) ∷ []; end = 4 }

abbrev pub absolute_map : Map
absolute_map = record { homes = (3 ∷ 4 ∷ []) ∷ []; end = 9 }
