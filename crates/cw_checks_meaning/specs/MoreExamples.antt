-- More example programs: values, jumps, and what several segments share.
use Rattle.std.specs.Prelude.{ℕ, pos, List, [], ◌∷◌, true, false, Some, None}
use Rattle.cw_unit.specs.declared.unit.Unit.{Unit as SourceUnit}
use Rattle.cw_unit.specs.declared.unit.Item.{Item}
use Rattle.cw_unit.specs.declared.unit.Stmt.{Stmt}
use Rattle.cw_unit.specs.declared.unit.Target.TheVariants as target
use Rattle.cw_unit.specs.declared.unit.Def.TheVariants as def
use Rattle.cw_unit.specs.declared.unit.Felem.TheVariants as elem
use Rattle.cw_unit.specs.declared.unit.LogicOp.TheVariants as op
use Rattle.cw_unit.specs.declared.unit.ItemKind.TheVariants as kind
use Rattle.cw_unit.specs.declared.unit.Home.TheVariants as home
use Rattle.cw_unit.specs.declared.descriptor.Desc.{Desc}
use Rattle.cw_unit.specs.declared.descriptor.Spec.{Spec}
use Rattle.cw_unit.specs.declared.descriptor.DescBody.TheVariants as body
use Rattle.cw_unit.specs.Stop.{End, Ended, Stopped, Overflow, ZeroDivisor, DepthReached, IndexRange}
use Rattle.cw_checks_meaning.specs.Trees.{fixed, item, element, element_between, element_2, bare, number}
use Rattle.cw_checks_meaning.specs.Trees.{decimal, read, value, locate, logic, string, sum, minus}
use Rattle.cw_checks_meaning.specs.Trees.{times, over, put_on, put, put_bits, assign, call_on, call, writes, row, nothing, loop, marked, go_to, integer, stored}
use Rattle.cw_checks_meaning.specs.Trees.{single, array_of, loop_words, common_item, procedure_of, body_label, described, unit_of, segment_of}
use Rattle.cw_checks_meaning.specs.Examples.{Example, small, at_limits, one}

-- ---- values

abbrev pub shows : List Item → List Stmt → List ℕ → Example
shows items ss output = one (segment_of items [] [] [] ss) 100 output Ended

-- an item of scale 2 gets -0.25, which as an INTEGER is rounded down to -1
abbrev pub floor_of_negative : Example
floor_of_negative =
    shows (single ∷ single ∷ []) (put (fixed 2 0) (minus (decimal 0 25 2)) ∷ assign 1 (read (fixed 2 0)) ∷ writes (value 1) ∷ []) (255 ∷ [])

abbrev pub half_of_seven : Example
half_of_seven = shows (single ∷ []) (assign 0 (times (number 7) (decimal 0 5 1)) ∷ writes (value 0) ∷ []) (3 ∷ [])

-- a negative has no best scale: -0.5 is 0 there
abbrev pub minus_half_of_seven : Example
minus_half_of_seven = shows (single ∷ []) (assign 0 (times (number 7) (minus (decimal 0 5 1))) ∷ writes (value 0) ∷ []) (0 ∷ [])

abbrev pub scale_15 : Example
scale_15 =
    shows (single ∷ single ∷ []) (put (fixed 15 0) (decimal 0 5 1) ∷ assign 1 (times (number 3) (read (fixed 15 0))) ∷ writes (value 1) ∷ []) (1 ∷ [])

-- MASK binds tightest, then UNION, then DIFFER
abbrev pub word_logic : Example
word_logic =
    shows [] (writes (logic op.Differ (number 6) (logic op.Union (number 3) (logic op.Mask (number 8) (number 12)))) ∷ []) (13 ∷ [])

abbrev pub bits_assigned : Example
bits_assigned =
    shows (single ∷ [])
    (assign 0 (number 5) ∷ put_bits 4 8 (item 0) (number 3) ∷ writes (over (value 0) (number 256)) ∷ writes (value 0) ∷ [])
    (3 ∷ 5 ∷ [])

-- the third word of the string AB is its second character
abbrev pub string_words : Example
string_words =
    shows (single ∷ stored None kind.Text home.Own 3 ((0, 2) ∷ (1, 65) ∷ (2, 66) ∷ []) ∷ [])
    (assign 0 (string 1) ∷ writes (read (bare (sum (value 0) (number 2)))) ∷ [])
    (66 ∷ [])

-- the last element of an array [1:2, 1:3] is its sixth word
abbrev pub two_dimensions : Example
two_dimensions =
    let last = element_2 0 (pos 1) (pos 2) (pos 1) (pos 3) 3 (number 2) (number 3) in
    shows (array_of 6 ∷ []) (put last (number 9) ∷ writes (read last) ∷ writes (locate last) ∷ []) (9 ∷ 5 ∷ [])

-- ---- indexes that are compared with their bounds

abbrev pub compared : SourceUnit → SourceUnit
compared u = record u { bounds = true }

abbrev pub compares : List Item → List Stmt → List ℕ → End → Example
compares items ss output e = one (compared (segment_of items [] [] [] ss)) 100 output e

-- an array [0:3] has no element 4
abbrev pub index_outside : Example
index_outside =
    compares (array_of 4 ∷ array_of 10 ∷ []) (writes (read (element_between 0 (pos 0) (pos 3) (number 4))) ∷ []) [] (Stopped IndexRange 1 1)

-- the right side comes first
abbrev pub divisor_before_index : Example
divisor_before_index =
    compares (array_of 4 ∷ []) (put (element_between 0 (pos 0) (pos 3) (number 4)) (over (number 1) (number 0)) ∷ []) [] (Stopped ZeroDivisor 1 1)

-- of an array [1:2, 1:3]
abbrev pub second_index_outside : Example
second_index_outside =
    compares (array_of 6 ∷ []) (put (element_2 0 (pos 1) (pos 2) (pos 1) (pos 3) 3 (number 1) (number 4)) (number 9) ∷ []) [] (Stopped IndexRange 1 1)

abbrev pub indexes_inside : Example
indexes_inside =
    let last = element_2 0 (pos 1) (pos 2) (pos 1) (pos 3) 3 (number 2) (number 3) in
    compares (array_of 6 ∷ []) (put last (number 9) ∷ writes (read last) ∷ []) (9 ∷ []) Ended

-- ---- jumps

-- out of a procedure to the segment's body
abbrev pub jump_out : Example
jump_out =
    one
    (segment_of [] (procedure_of false None [] 0 (go_to 0) ∷ []) (body_label ∷ []) []
    (call (target.Own 0) [] ∷ writes (number 1) ∷ marked 0 (writes (number 2)) ∷ []))
    40
    (2 ∷ [])
    Ended

-- into a FOR that has not run: no element has number 0, so it ends after its body
abbrev pub jump_in : Example
jump_in =
    one
    (segment_of (single ∷ loop_words ∷ []) [] (body_label ∷ []) []
    (go_to 0 ∷ loop 1 0 (elem.One (number 5) ∷ elem.One (number 6) ∷ []) (marked 0 (writes (value 0))) ∷ writes (number 7) ∷ []))
    40
    (0 ∷ 7 ∷ [])
    Ended

-- ---- several segments

abbrev pub array_b : Desc
array_b = described 66 (body.Array integer ((pos 0, pos 3) ∷ []))

abbrev pub over_b : (base : ℕ) → Desc
over_b d = record (described 67 (body.Word integer)) { over = Some (d, 1) }

-- C is overlaid on B[1] in COMMON; the first segment lists a further word before them
abbrev pub common_overlay : Example
common_overlay =
    at_limits small
    (unit_of 65 (described 84 (body.Word integer) ∷ array_b ∷ over_b 1 ∷ []) (common_item 0 1 ∷ common_item 1 4 ∷ common_item 2 1 ∷ []) [] [] [] []
    (row (assign 2 (number 7) ∷ []))
    ∷ unit_of 83 (array_b ∷ over_b 0 ∷ []) (common_item 0 4 ∷ common_item 1 1 ∷ []) [] [] [] [] (row (writes (read (element 0 (pos 0) (number 1))) ∷ []))
    ∷ [])
    60
    (7 ∷ [])
    Ended

abbrev pub no_parameters : Spec
no_parameters = record { answer = None; params = [] }

abbrev pub shared_procedure : List Desc
shared_procedure = described 80 (body.Proc no_parameters) ∷ []

-- the first segment defines P, and the second calls it on line 9
abbrev pub calls_across : (depth : ℕ) → Stmt → End → Example
calls_across depth s end =
    at_limits (record { area = 64; frames = 32; depth = depth })
    (unit_of 65 shared_procedure (single ∷ []) (procedure_of false None [] 0 s ∷ procedure_of false None [] 0 nothing ∷ []) [] [] ((0, def.Proc 0) ∷ [])
    (row [])
    ∷ unit_of 66 shared_procedure [] [] [] [] [] (row (call_on 9 (target.Common 0) [] ∷ []))
    ∷ [])
    60
    []
    end

-- a stop in P has P's segment and line
abbrev pub stop_in_callee : Example
stop_in_callee =
    calls_across 4 (row (put_on 3 (item 0) (number 32767) ∷ put_on 4 (item 0) (sum (value 0) (value 0)) ∷ [])) (Stopped Overflow 1 4)

-- a call that would be one too many has the segment and line of the call
abbrev pub call_too_many : Example
call_too_many = calls_across 1 (call_on 5 (target.Own 1) []) (Stopped DepthReached 1 5)

abbrev pub more_examples : List Example
more_examples =
    floor_of_negative
    ∷ half_of_seven
    ∷ minus_half_of_seven
    ∷ scale_15
    ∷ word_logic
    ∷ bits_assigned
    ∷ string_words
    ∷ two_dimensions
    ∷ index_outside
    ∷ divisor_before_index
    ∷ second_index_outside
    ∷ indexes_inside
    ∷ jump_out
    ∷ jump_in
    ∷ common_overlay
    ∷ stop_in_callee
    ∷ call_too_many
    ∷ []
