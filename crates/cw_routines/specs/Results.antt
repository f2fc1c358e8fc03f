-- What the routines of the library do, and short pieces of the code of segments.
use Rattle.std.specs.Prelude.{◌≡◌, ℕ, suc, ◌+◌, ◌-◌, ◌*◌, ◌%◌, ◌<◌, ◌≤◌, ◌==◌, if◌then◌else◌, ℤ, List}
use Rattle.std.specs.Prelude.{[], ◌∷◌, length, drop, Bool, true, false, nat_lt, nat_le, All}
use Rattle.cw_i86.specs.Sums.{logic_flags}
use Rattle.cw_i86.specs.Effect.{holds}
use Rattle.cw_i86.specs.declared.flags.Flags.{Flags}
use Rattle.cw_i86.specs.declared.instr.Instr.{Instr}
use Rattle.cw_i86.specs.declared.instr.Instr.TheVariants as i86
use Rattle.cw_run86.specs.Processor.{Processor, Told}
use Rattle.cw_run86.specs.Views.{with_number}
use Rattle.cw_word.specs.FixedPoint.{FitsWord, fits_word}
use Rattle.cw_word.specs.Word.{unsigned}
use Rattle.cw_unit.specs.Stop.{StopKind, AddressRange, DepthReached, FramesFull}
use Rattle.cw_unit.specs.Words.{Words, put, Outcome, Changed, Refused, Impossible, word_at, number_of, is_below}
use Rattle.cw_unit.specs.Operation.{SetVariable, AddStep, perform, is_past}
use Rattle.cw_order.specs.OrderChanges.{Way, Onward, ToMark, Barred, Nowhere, stepped}
use Rattle.cw_tmpl.specs.Mnemonics as short
use Rattle.cw_tmpl.specs.Library.{library_bytes, front, joined, routines}
use Rattle.cw_routines.specs.Ways.{view, At, HasAll, HasWord, Within, Leads, Back, Over}

-- the library stands in the code
abbrev pub Stands : List ℕ → Type 0
Stands code = HasAll code 0 front × HasAll code 5 (joined routines)

-- a place at which nothing begins, by a test, and that all places of the library are so
abbrev pub Quiet : (ℕ → Bool) → ℕ → Type 0
Quiet quiet k = quiet k ≡ true

abbrev pub InLibrary : (ℕ → Bool) → Type 0
InLibrary quiet = (k : ℕ) → k < length library_bytes → quiet k ≡ true

-- the data segment holds the words of the area
pub record Holds (area : ℕ) (memory : List ℤ) (cells : ℕ → ℕ) : Type 0 where
  pub low : area ≤ 32768
  pub long : length memory ≡ area
  pub fit : All FitsWord memory
  pub words : (k : ℕ) → k < area → cells k ≡ unsigned (word_at memory k)

-- the record at work has the number of a segment, which is a byte
pub record Tells (stack : ℕ → ℕ) (bp r segment : ℕ) : Type 0 where
  pub there : (bp + 65534) % 65536 ≡ 2 * r
  pub low : r < 32768
  pub number : stack r ≡ segment
  pub few : segment < 256

-- ---- records

-- The record at work, whose last word has this number: the segment, which is a byte, the calls that are left, twice the base of the frame, and
-- how many words of the area are behind the frame.
pub record RecordIs (stack : ℕ → ℕ) (bp r segment calls base rest : ℕ) : Type 0 where
  pub there : bp ≡ 2 * (r + 4) % 65536
  pub low : r < 32765
  pub number : stack (r + 3) ≡ segment
  pub few : segment < 256
  pub left : stack (r + 2) ≡ calls
  pub base_is : stack (r + 1) ≡ base
  pub rest_is : stack r ≡ rest

-- A body begins at the words behind the call of its start: the base record is at the end of the stack.
pub record Started (code : List ℕ) (at area frames calls segment : ℕ) (cells : ℕ → ℕ) (input : List ℕ) (told : Told) (p : Processor) : Type 0 where
  pub stack : ℕ → ℕ
  pub here : Back code (at + 8) (2 * 32764) 0 area cells stack input told (λ ax f. Unit {0}) p
  pub record_is : RecordIs stack 0 32764 segment calls frames frames

-- An activation begins at a place: its record is on top of the stack, below the caller's BP, and the words above that are as they were.
pub record Entered (code : List ℕ) (to m bp segment calls base rest area : ℕ) (cells before : ℕ → ℕ) (input : List ℕ) (told : Told) (p : Processor) : Type 0 where
  pub stack : ℕ → ℕ
  pub here : Back code to (2 * m) (2 * (m + 4)) area cells stack input told (λ ax f. Unit {0}) p
  pub record_is : RecordIs stack (2 * (m + 4)) m segment calls base rest
  pub caller : stack (m + 4) ≡ bp
  pub above : (k : ℕ) → m + 4 < k → stack k ≡ before k

-- where a call is left or not, and the frame fits or not
abbrev pub Begins : (code output : List ℕ) → (deeper fits : Bool) → (line caller : ℕ) → (Processor → Type 0) → Processor → Type 0
Begins code output false fits line caller T p = Over output DepthReached caller line p
Begins code output true false line caller T p = Over output FramesFull caller line p
Begins code output true true line caller T p = T p

-- ---- the start of a body, and stops

-- The start of a body, with the place of its four words on the stack.
abbrev pub StartRoutine : (Silent : ℕ → Type 0) → (code : List ℕ) → (place count : ℕ) → Type 0
StartRoutine Silent code place count =
    (at n area frames calls segment ax cx dx bx bp si di : ℕ) (flags : Flags) (cells stack : ℕ → ℕ) (input : List ℕ) (told : Told) (p : Processor)
    → n < 32768 → stack n ≡ at → frames ≤ area → area ≤ 32768 → segment < 256
    → HasWord code at area → HasWord code (at + 2) frames → HasWord code (at + 4) calls → HasWord code (at + 6) segment
    → At code place (view ax cx dx bx (2 * n) bp si di cells stack input told) flags p
    → Leads Silent code told.output count p (Started code at area frames calls segment cells input told)

-- A stop, with the place of its line on the stack.
abbrev pub StopRoutine : (Silent : ℕ → Type 0) → (code : List ℕ) → (place count : ℕ) → StopKind → Type 0
StopRoutine Silent code place count kind =
    (at line n r segment ax cx dx bx bp si di : ℕ) (flags : Flags) (cells stack : ℕ → ℕ) (input : List ℕ) (told : Told) (p : Processor)
    → n < 32768 → stack n ≡ at → HasWord code at line → line < 65536 → Tells stack bp r segment
    → At code place (view ax cx dx bx (2 * n) bp si di cells stack input told) flags p
    → Leads Silent code told.output count p (Over told.output kind segment line)

-- A stop, with its line in DX.
abbrev pub ToldStop : (Silent : ℕ → Type 0) → (code : List ℕ) → (place count : ℕ) → StopKind → Type 0
ToldStop Silent code place count kind =
    (line r segment ax cx bx sp bp si di : ℕ) (flags : Flags) (cells stack : ℕ → ℕ) (input : List ℕ) (told : Told) (p : Processor)
    → line < 65536 → Tells stack bp r segment
    → At code place (view ax cx line bx sp bp si di cells stack input told) flags p
    → Leads Silent code told.output count p (Over told.output kind segment line)

-- ---- activations

-- An activation, with the place of its two words on the stack, which are those of its frame and the number of the segment, and the line in DX.
-- The frame begins where the caller's ends.
abbrev pub EnterRoutine : (Silent : ℕ → Type 0) → (code : List ℕ) → (place bound : ℕ) → Type 0
EnterRoutine Silent code place bound =
    (m at line r segment calls base rest number size ax cx bx bp si area : ℕ) (flags : Flags) (cells stack : ℕ → ℕ)
    (input : List ℕ) (told : Told) (p : Processor)
    → m + 4 < 32767 → stack (m + 4) ≡ at → HasWord code at size → HasWord code (at + 2) number → line < 65536
    → calls < 65536 → number < 256 → size < 65536 → rest ≤ area → area ≤ 32768
    → RecordIs stack bp r segment calls base rest
    → At code place (view ax cx line bx (2 * (m + 4)) bp si area cells stack input told) flags p
    → Within Silent code told.output bound p
    (Begins code told.output (nat_lt 0 calls) (nat_le size rest) line segment
    (Entered code (at + 4) m bp number (calls - 1) (2 * (area - rest) % 65536) (rest - size) area cells stack input told))

-- What begins an activation whose frame has so many words. The number of the segment stands in the code at a place, and the way to the stop of
-- the library is a distance.
abbrev pub begin : (size place by : ℕ) → List Instr
begin size place by =
    short.load short.cx (short.slot short.calls_slot) ∷ short.jump_if_cx_zero 14
    ∷ short.load short.ax (short.slot short.rest_slot) ∷ short.move short.bx short.di ∷ short.subtract short.bx short.ax ∷ short.double short.bx
    ∷ with_number 5 size ∷ short.jump_if_not_below 3 ∷ i86.Jump by
    ∷ short.decrease short.cx ∷ i86.Push short.bp ∷ short.move short.bp short.sp ∷ i86.PushRm (short.code_at place)
    ∷ i86.Push short.cx ∷ i86.Push short.bx ∷ i86.Push short.ax ∷ []

-- Such an activation, with the line in DX and the way back on top of the stack. The frame begins where the caller's ends. It takes one instruction,
-- and no more than so many further ones.
abbrev pub Beginning : (Silent : ℕ → Type 0) → (code : List ℕ) → (at size number bound : ℕ) → Type 0
Beginning Silent code at size number bound =
    (m line r segment calls base rest ax cx bx bp si area : ℕ) (flags : Flags) (cells stack : ℕ → ℕ) (input : List ℕ) (told : Told) (p : Processor)
    → m + 4 < 32767 → line < 65536 → calls < 65536 → number < 256 → size < 65536 → rest ≤ area → area ≤ 32768
    → RecordIs stack bp r segment calls base rest
    → At code at (view ax cx line bx (2 * suc (m + 4)) bp si area cells stack input told) flags p
    → Leads Silent code told.output 1 p (λ q. Within Silent code told.output bound q
    (Begins code told.output (nat_lt 0 calls) (nat_le size rest) line segment
    (Entered code (at + 34) m bp number (calls - 1) (2 * (area - rest) % 65536) (rest - size) area cells stack input told)))

-- what ends an activation, and drops so many words of arguments
abbrev pub leave : (words : ℕ) → List Instr
leave words = short.move short.sp short.bp ∷ i86.Pop short.bp ∷ i86.RetAdd (2 * words) ∷ []

-- The end of an activation, with the caller's BP and the way back on the stack.
abbrev pub Leaving : (Silent : ℕ → Type 0) → (code : List ℕ) → (at words : ℕ) → Type 0
Leaving Silent code at words =
    (b caller back ax cx dx bx sp si di : ℕ) (flags : Flags) (cells stack : ℕ → ℕ) (input : List ℕ) (told : Told) (p : Processor)
    → b + 1 < 32768 → stack b ≡ caller → stack (b + 1) ≡ back → back < 65536 → At code at (view ax cx dx bx sp (2 * b) si di cells stack input told) flags p
    → Leads Silent code told.output 3 p (At code back (view ax cx dx bx (2 * (b + 2 + words) % 65536) caller si di cells stack input told) flags)

-- ---- input

-- the word of the next byte, or of -1
abbrev pub next_word : List ℕ → ℕ
next_word [] = 65535
next_word (b ∷ rest) = b

-- The next byte.
abbrev pub ReadRoutine : (Silent : ℕ → Type 0) → (code : List ℕ) → (place bound : ℕ) → Type 0
ReadRoutine Silent code place bound =
    (n back ax cx dx bx bp si area : ℕ) (flags : Flags) (cells stack : ℕ → ℕ) (input : List ℕ) (told : Told) (p : Processor)
    → All (λ b. b < 256) input → n < 32767 → stack n ≡ back → back < 65536 → At code place (view ax cx dx bx (2 * n) bp si area cells stack input told) flags p
    → Within Silent code told.output bound p (Back code back (2 * suc n) bp area cells stack (drop 1 input) told (λ ax f. ax ≡ next_word input))

-- ---- loops
--
-- AX has the address of the loop's words, DX the line, DI the words of the area, and the stack the way back.

-- it comes back with the memory that the source has, and an answer
pub record Answered (code : List ℕ) (area to sp bp : ℕ) (stack : ℕ → ℕ) (input : List ℕ) (told : Told) (w : Words) (Answers : ℕ → Flags → Type 0) (p : Processor) : Type 0 where
  pub cells : ℕ → ℕ
  pub holds_words : Holds area w.memory cells
  pub back : Back code to sp bp area cells stack input told Answers p

-- or with none
abbrev pub Returns : (code : List ℕ) → (area to sp bp : ℕ) → (stack : ℕ → ℕ) → (input : List ℕ) → Told → Words → Processor → Type 0
Returns code area to sp bp stack input told w p = Answered code area to sp bp stack input told w (λ ax f. Unit {0}) p

-- the words become those of an operation, or it stops
abbrev pub Ends : (code output : List ℕ) → (area to sp bp segment line : ℕ) → (stack : ℕ → ℕ) → (input : List ℕ) → Told → Outcome → Processor → Type 0
Ends code output area to sp bp segment line stack input told (Changed w) p = Returns code area to sp bp stack input told w p
Ends code output area to sp bp segment line stack input told (Refused kind) p = Over output kind segment line p
Ends code output area to sp bp segment line stack input told Impossible p = ⊥

-- The control variable of a loop is set to the word on the stack.
abbrev pub SetRoutine : (Silent : ℕ → Type 0) → (code : List ℕ) → (place bound : ℕ) → Type 0
SetRoutine Silent code place bound =
    (area a line bp n r segment back cx bx si : ℕ) (x : ℤ) (flags : Flags) (cells stack : ℕ → ℕ) (input : List ℕ) (told : Told) (w : Words) (p : Processor)
    → FitsWord x → a < area → Holds area w.memory cells → line < 65536 → n < 32766 → stack n ≡ back → stack (suc n) ≡ unsigned x → back < 65536
    → Tells stack bp r segment
    → At code place (view a cx line bx (2 * n) bp si area cells stack input told) flags p
    → Within Silent code told.output bound p
    (Ends code told.output area back (2 * suc (suc n)) bp segment line stack input told
    (perform area (SetVariable a) (put x w)))

-- The step of a loop is added to its control variable.
abbrev pub StepRoutine : (Silent : ℕ → Type 0) → (code : List ℕ) → (place bound : ℕ) → Type 0
StepRoutine Silent code place bound =
    (area a line bp n r segment back cx bx si : ℕ) (flags : Flags) (cells stack : ℕ → ℕ) (input : List ℕ) (told : Told) (w : Words) (p : Processor)
    → a + 1 < area → Holds area w.memory cells → line < 65536 → n < 32767 → stack n ≡ back → back < 65536 → Tells stack bp r segment
    → At code place (view a cx line bx (2 * n) bp si area cells stack input told) flags p
    → Within Silent code told.output bound p (Ends code told.output area back (2 * suc n) bp segment line stack input told (perform area (AddStep a) w))

-- It comes back with a word on the stack, in place of the way back, and with AX as it was. The words above are as they were.
pub record Fetched (code : List ℕ) (to n bp ax word area : ℕ) (cells before : ℕ → ℕ) (input : List ℕ) (told : Told) (p : Processor) : Type 0 where
  pub stack : ℕ → ℕ
  pub back : Back code to (2 * n) bp area cells stack input told (λ a f. a ≡ ax) p
  pub word_is : stack n ≡ word
  pub above : (k : ℕ) → n < k → stack k ≡ before k

-- where an address is one of the area or not
abbrev pub Fetches : (output : List ℕ) → Bool → (segment line : ℕ) → (Processor → Type 0) → Processor → Type 0
Fetches output true segment line T p = T p
Fetches output false segment line T p = Over output AddressRange segment line p

-- The value of the control variable of a loop.
abbrev pub PutRoutine : (Silent : ℕ → Type 0) → (code : List ℕ) → (place bound : ℕ) → Type 0
PutRoutine Silent code place bound =
    (area a line bp n r segment back cx bx si : ℕ) (flags : Flags) (cells stack : ℕ → ℕ) (input : List ℕ) (told : Told) (memory : List ℤ) (p : Processor)
    → a < area → Holds area memory cells → line < 65536 → n < 32767 → stack n ≡ back → back < 65536 → Tells stack bp r segment
    → At code place (view a cx line bx (2 * n) bp si area cells stack input told) flags p
    → Within Silent code told.output bound p
    (Fetches told.output (is_below (word_at memory a) area) segment line
    (Fetched code back n bp a (unsigned (word_at memory (number_of (word_at memory a)))) area cells stack input told))

-- Whether the word on the stack is past the limit of a loop: where it is, the way on is the place of the way back, and else 3 bytes further.
abbrev pub ExhaustedRoutine : (Silent : ℕ → Type 0) → (code : List ℕ) → (place bound : ℕ) → Type 0
ExhaustedRoutine Silent code place bound =
    (area a bp n back cx dx bx si : ℕ) (x : ℤ) (flags : Flags) (cells stack : ℕ → ℕ) (input : List ℕ) (told : Told) (memory : List ℤ) (p : Processor)
    → FitsWord x → a + 2 < area → Holds area memory cells → n < 32766 → stack n ≡ back → stack (suc n) ≡ unsigned x → back < 65536
    → At code place (view a cx dx bx (2 * n) bp si area cells stack input told) flags p
    → Within Silent code told.output bound p
    (Back code (if is_past (word_at memory (a + 1)) x (word_at memory (a + 2)) then back else back + 3)
    (2 * suc (suc n)) bp area cells stack input told (λ ax f. Unit {0}))

-- whether the flags are those of a comparison with a left side that is at most the right one
abbrev pub AtMost : Bool → ℕ → Flags → Type 0
AtMost b ax f = holds f 14 ≡ b

-- a loop goes on with its body, is left, or a stop ends the run
abbrev pub GoesOn : (code output : List ℕ) → (area to sp bp segment line : ℕ) → (stack : ℕ → ℕ) → (input : List ℕ) → Told → Way → Processor → Type 0
GoesOn code output area to sp bp segment line stack input told (ToMark m w) p = Answered code area to sp bp stack input told w (AtMost true) p
GoesOn code output area to sp bp segment line stack input told (Onward w) p = Answered code area to sp bp stack input told w (AtMost false) p
GoesOn code output area to sp bp segment line stack input told (Barred kind) p = Over output kind segment line p
GoesOn code output area to sp bp segment line stack input told Nowhere p = ⊥

-- What follows the body of a loop of one STEP element: BX is twice the address of its words, and the line stands 5 bytes behind the way back.
abbrev pub NextStepRoutine : (Silent : ℕ → Type 0) → (code : List ℕ) → (place bound : ℕ) → Type 0
NextStepRoutine Silent code place bound =
    (area a m line bp n r segment back ax cx dx si : ℕ) (flags : Flags) (cells stack : ℕ → ℕ) (input : List ℕ) (told : Told) (w : Words) (p : Processor)
    → a + 3 < area → Holds area w.memory cells → HasWord code (back + 5) line → line < 65536 → n < 32767
    → stack n ≡ back → back < 65536 → Tells stack bp r segment
    → At code place (view ax cx dx (2 * a) (2 * n) bp si area cells stack input told) flags p
    → Within Silent code told.output bound p (GoesOn code told.output area back (2 * suc n) bp segment line stack input told (stepped area m a w))

-- ---- products and quotients

-- the word of a number with OF clear, or OF set where it fits no word
abbrev pub Fitting : Bool → ℤ → ℕ → Flags → Type 0
Fitting true z ax f = (ax ≡ unsigned z) × (f.of ≡ false)
Fitting false z ax f = f.of ≡ true

-- what a routine at a place does within so many instructions with these words in AX and BX and this count in CX
abbrev pub WordRoutine : (Silent : ℕ → Type 0) → (code : List ℕ) → (place bound count : ℕ) → (x y z : ℤ) → Type 0
WordRoutine Silent code place bound count x y z =
    (dx si bp n back area : ℕ) (flags : Flags) (cells stack : ℕ → ℕ) (input : List ℕ) (told : Told) (p : Processor) → n < 32767 → stack n ≡ back → back < 65536
    → At code place (view (unsigned x) count dx (unsigned y) (2 * n) bp si area cells stack input told) flags p
    → Within Silent code told.output bound p (Back code back (2 * suc n) bp area cells stack input told (Fitting (fits_word z) z))

-- the test of a divisor: a jump where it is not 0
abbrev pub divisor_test : (by : ℕ) → List Instr
divisor_test by = short.either short.bx short.bx ∷ short.jump_if_unequal by ∷ []

-- Whether BX is 0: then the way on is behind the jump, and else at its goal. The registers are as they were.
abbrev pub DivisorTest : (Silent : ℕ → Type 0) → (code : List ℕ) → (at by : ℕ) → Type 0
DivisorTest Silent code at by =
    (ax cx dx bx sp bp si di : ℕ) (flags : Flags) (cells stack : ℕ → ℕ) (input : List ℕ) (told : Told) (p : Processor)
    → At code at (view ax cx dx bx sp bp si di cells stack input told) flags p
    → Leads Silent code told.output 2 p
    (At code (if bx == 0 then at + 4 else at + 4 + by) (view ax cx dx bx sp bp si di cells stack input told) (logic_flags 32768 bx flags))
