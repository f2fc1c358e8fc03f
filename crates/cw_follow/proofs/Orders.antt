-- What the code of each order does.
use Rattle.std.proofs.Common.{◌≡◌, ℕ, zero, suc, ◌+◌, ◌*◌, ◌%◌, ◌<◌, ◌≤◌, Bool, true, false, not, ℤ, pos, negsuc, List, [], ◌∷◌, ◌++◌, length, length-set, set, None, refl, sym, ap, ap₂, inl, inr, ◌⊎◌, ◌∙◌, subst, arith, lit<, lit≤}
use Rattle.std.specs.Prelude.{nat_lt}
use borrow.Author.Tests.{ltb-true}
use Rattle.std.specs.List.{All}
use Rattle.std.proofs.lemmas.List.Elements.{All-head, All-tail}
use Rattle.cw_track.proofs.Paths.{Path, stay, next}
use Rattle.cw_i86.specs.declared.instr.Instr.TheVariants as i86
use Rattle.cw_i86.specs.declared.instr.Rm.TheVariants as rms
use Rattle.cw_run86.specs.Processor.{Told}
use Rattle.cw_run86.specs.Views.{View, put_word, difference_overflows, with_other, double_overflows, condition_of, words_compare}
use Rattle.cw_word.specs.FixedPoint.{FitsWord, fits_word}
use Rattle.cw_word.specs.Word.{signed, unsigned}
use Rattle.cw_unit.specs.Stop.{StopKind, Overflow, Stopped, AddressRange}
use Rattle.cw_unit.specs.Words.{Operand, Word, Held, Words, Outcome, Changed, Refused, Impossible, with_memory, put, put_if, through, word_at, byte_of, at_address}
use Rattle.cw_unit.specs.Operation.{Fetch, Store, WriteByte, perform, holds}
use Rattle.cw_order.specs.declared.order.Comparator.{Comparator}
use Rattle.cw_order.specs.FittingWords.{OperandFits}
use Rattle.cw_order.specs.OrderProgram.{OrderProgram}
use Rattle.cw_order.specs.OrderState.{OrderActivation, operand_words}
use Rattle.cw_order.specs.OrderChanges.{Way, Onward, ToMark, Barred, Nowhere, way_of_two, to_mark_if, comparison}
use Rattle.cw_order.specs.OrderMachine.{unrefused}
use Rattle.cw_tmpl.specs.Mnemonics.{at_bx}
use Rattle.cw_tmpl.specs.Library.{stop_place}
use Rattle.cw_tmpl.specs.Templates.{opposite_of, comparison_of}
use Rattle.cw_routines.specs.Results.{Stands, Tells as SegmentTold}
use Rattle.cw_routines.proofs.Facts.{put_words, fits_tested, unsigned_pos}
use Rattle.cw_follow.proofs.Watched.{Watched, watched_step, watched_machine, over}
use Rattle.cw_follow.proofs.WordLaws.{WordLaws}
use Rattle.cw_follow.proofs.Rows.{Rows}
use Rattle.cw_follow.proofs.Chains.{IsAt, Is, over_is, IsCompared, Leads, at_work, view, seen, to_place, move, exchange, push, pop, load, store, load_at, store_at, double, no_overflow, passes, jump_overflow, pass_overflow, near, compare, compared_jumps, compared_passes, out, shows, more, compared_more, last, done, short}
use Rattle.cw_follow.proofs.Routines.{HasLine, StackedAt, Over, stops, with_ax, joined, Around, Beside}
use Rattle.cw_follow.proofs.Stacks.{level, record_of, code_place, StackIs, OperandsAre, Piled, top_is, SameFrom, same_put, stack_pushed, piled_same}
use Rattle.cw_follow.proofs.Numbers.{opposite_is, comparison_is}
use Rattle.cw_follow.proofs.Standing.{Has, HasWord, HasAll, HasFrom, Image, HasAt}
use Rattle.cw_follow.proofs.Branches.{branch_size, goes_by, branch_code}
use Rattle.cw_i86.specs.State.{sign_extended}

-- ---- what is kept from order to order

-- the words of the data area, the records of the activations with the segment of the last one, the input that is left, what was written, and
-- no stop
pub record Kept (prog : OrderProgram) (g : ℕ) (acts : List OrderActivation) (memory : List ℤ) (input output : List ℕ) (cells stack : ℕ → ℕ) (left : List ℕ) (told : Told) : Type 0 where
  pub words : (k : ℕ) → k < prog.limits.area → cells k ≡ unsigned (word_at memory k)
  pub long : length memory ≡ prog.limits.area
  pub piled : Piled prog stack g acts
  pub read : left ≡ input
  pub wrote : told.output ≡ output
  pub kind : told.kind ≡ 0

pub kept_same : {prog : OrderProgram} {g : ℕ} {acts : List OrderActivation} {memory : List ℤ} {input output : List ℕ} {cells stack : ℕ → ℕ} {left : List ℕ} {told : Told} (new : ℕ → ℕ) → SameFrom (level acts) stack new
    → Kept prog g acts memory input output cells stack left told → Kept prog g acts memory input output cells new left told
kept_same {prog} {g} {acts} {stack = stack} new same k = record {
  words = k.words;
  long = k.long;
  piled = piled_same prog stack new g acts same k.piled;
  read = k.read;
  wrote = k.wrote;
  kind = k.kind;
}

pub kept_under : {prog : OrderProgram} {g : ℕ} {acts : List OrderActivation} {memory : List ℤ} {input output : List ℕ} {cells stack : ℕ → ℕ} {left : List ℕ} {told : Told} (n w : ℕ) → n < level acts
    → Kept prog g acts memory input output cells stack left told → Kept prog g acts memory input output cells (put_word stack n w) left told
kept_under {acts = acts} {stack = stack} n w lt k = kept_same (put_word stack n w) (same_put stack n w (level acts) lt) k

pub kept_stored : {prog : OrderProgram} {g : ℕ} {acts : List OrderActivation} {memory : List ℤ} {input output : List ℕ} {cells stack : ℕ → ℕ} {left : List ℕ} {told : Told} (n : ℕ) (z : ℤ) → n < prog.limits.area
    → Kept prog g acts memory input output cells stack left told → Kept prog g acts (set memory n z) input output (put_word cells n (unsigned z)) stack left told
kept_stored {prog} {memory = memory} {cells = cells} n z lt k =
    let long = k.long in
    let within : n < length memory = omega arith in
    record {
      words = λ j below. put_words cells memory n j z within (k.words j below);
      long = length-set memory n z ∙ k.long;
      piled = k.piled;
      read = k.read;
      wrote = k.wrote;
      kind = k.kind;
    }

-- the processor at a place of the code, with these words, the accumulator loaded or free
pub record LandedAt (first : Bool) (prog : OrderProgram) (image : Image) (at g : ℕ) (loaded : Bool) (acts : List OrderActivation) (w : Words) (p : Watched) : Type 0 where
  pub top : ℕ
  pub cells : ℕ → ℕ
  pub stack : ℕ → ℕ
  pub input : List ℕ
  pub told : Told
  pub stacked : StackedAt first image at top (record_of acts) prog.limits.area cells stack input told p
  pub operands : OperandsAre prog acts loaded stacked.ax stack top w.operands
  pub kept : Kept prog g acts w.memory w.input w.output cells stack input told

abbrev pub Landed : (prog : OrderProgram) (image : Image) (at g : ℕ) (loaded : Bool) (acts : List OrderActivation) (w : Words) (p : Watched) → Type 0
Landed prog image at g loaded acts w p = LandedAt false prog image at g loaded acts w p

-- what the processor holds there, with the stack at this word
abbrev pub around_at : {first : Bool} {prog : OrderProgram} {image : Image} {at g : ℕ} {loaded : Bool} {acts : List OrderActivation} {w : Words} {p : Watched} → LandedAt first prog image at g loaded acts w p → ℕ → Around
around_at l top = record { overflow = l.stacked.overflow; top = top; cells = l.cells; stack = l.stack; left = l.input; told = l.told }

abbrev pub beside_at : {first : Bool} {prog : OrderProgram} {image : Image} {at g : ℕ} {loaded : Bool} {acts : List OrderActivation} {w : Words} {p : Watched} → LandedAt first prog image at g loaded acts w p → ℕ → Beside
beside_at l top = record { cx = l.stacked.cx; dx = l.stacked.dx; bx = l.stacked.bx; si = l.stacked.si; around = around_at l top }

-- the same words, where the processor stands elsewhere or is another one
landed_so : {first then : Bool} {prog : OrderProgram} {image : Image} {at to g : ℕ} {loaded : Bool} {acts : List OrderActivation} {w : Words} {p q : Watched} (l : LandedAt first prog image at g loaded acts w p)
    → IsAt then image to (view l.stacked.ax l.stacked.cx l.stacked.dx l.stacked.bx (2 * l.top) (record_of acts) l.stacked.si prog.limits.area l.stacked.overflow l.cells l.stack l.input l.told) q → LandedAt then prog image to g loaded acts w q
landed_so l s =
    let t = l.stacked in
    record { top = l.top; cells = l.cells; stack = l.stack; input = l.input; told = l.told; stacked = record { ax = t.ax; cx = t.cx; dx = t.dx; bx = t.bx; si = t.si; overflow = t.overflow; is = s }; operands = l.operands; kept = l.kept }

pub landed_at : {p : OrderProgram} {image : Image} {at to g : ℕ} {loaded : Bool} {acts : List OrderActivation} {w : Words} {q : Watched} → at % 65536 ≡ to % 65536
    → Landed p image at g loaded acts w q → Landed p image to g loaded acts w q
landed_at e l = landed_so l (to_place e l.stacked.is)

-- the same before the first instruction of a block, where what begins there is overlooked or is not
pub over_landed : (first : Bool) {prog : OrderProgram} {image : Image} {at g : ℕ} {loaded : Bool} {acts : List OrderActivation} {w : Words} {p : Watched} → Landed prog image at g loaded acts w p → LandedAt first prog image at g loaded acts w (over first p)
over_landed first l = landed_so l (over_is first l.stacked.is)

-- so many instructions at most, and some
pub record Leading (output : List ℕ) (limit : ℕ) (p : Watched) (Target : Watched → Type 0) : Type 0 where
  pub spent : ℕ
  pub some : 0 < spent
  pub within : spent ≤ limit
  pub leads : Leads output spent p Target

-- no more than so many instructions
pub record Few (output : List ℕ) (limit : ℕ) (p : Watched) (Target : Watched → Type 0) : Type 0 where
  pub spent : ℕ
  pub within : spent ≤ limit
  pub leads : Leads output spent p Target

-- so many instructions, and then no more than so many
joined_few : {output : List ℕ} {p : Watched} {T U : Watched → Type 0} (n limit bound : ℕ) → n + limit ≤ bound → (l : Leads output n p T) (d : Few output limit l.reached U) → 0 < n + d.spent → Leading output bound p U
joined_few n limit bound le l d some = let within = d.within in record { spent = n + d.spent; some = some; within = omega arith; leads = joined l d.leads }

pub and_few : {output : List ℕ} {p : Watched} {T U : Watched → Type 0} (n limit bound : ℕ) → 0 < n → n + limit ≤ bound → Leads output n p T → ((q : Watched) → T q → Few output limit q U)
    → Leading output bound p U
and_few n limit bound some le l on = joined_few n limit bound le l (on l.reached l.there) (omega arith)

-- the way after so many instructions
pub further_on : {output : List ℕ} {p : Watched} {T U : Watched → Type 0} (n limit bound : ℕ) → n + limit ≤ bound → Leads output n p T → ((q : Watched) → T q → Leading output limit q U) → Leading output bound p U
further_on n limit bound le l on =
    let d = on l.reached l.there in
    let some = d.some in
    joined_few n limit bound le l (record { spent = d.spent; within = d.within; leads = d.leads }) (omega arith)

-- an order does within so many instructions what its operation does: it goes on at a place, the accumulator loaded or free, or stops at a line
abbrev pub Does : (prog : OrderProgram) (image : Image) (limit to g : ℕ) (loaded : Bool) (line : ℕ) (acts : List OrderActivation) (output : List ℕ) (p : Watched) → Outcome → Type 0
Does prog image limit to g loaded line acts output p (Changed v) = Leading output limit p (Landed prog image to g loaded acts v)
Does prog image limit to g loaded line acts output p (Refused kind) = Leading output limit p (Over (record { output = output; end = Stopped kind (g + 1) line }))
Does prog image limit to g loaded line acts output p Impossible = Unit {0}

-- The processor stands where a procedure is called: the place to come back to is on top of the stack, above it are the arguments and the
-- operands of the caller, DX has the line of the call, and the caller's record is at work.
pub record Called (prog : OrderProgram) (a : OrderActivation) (acts : List OrderActivation) (memory : List ℤ) (input output : List ℕ) : Type 0 where
  pub ax : ℕ
  pub cx : ℕ
  pub bx : ℕ
  pub si : ℕ
  pub around : Around
  pub open around use *
  pub small : a.line < 65536
  pub back : stack top ≡ code_place prog a.segment a.place
  pub operands : StackIs prog acts stack (suc top) (a.arguments ++ a.operands)
  pub kept : Kept prog a.segment acts memory input output cells stack left told

pub record CalledAt (prog : OrderProgram) (image : Image) (to : ℕ) (a : OrderActivation) (acts : List OrderActivation) (w : Words) (q : Watched) : Type 0 where
  pub called : Called prog a acts w.memory w.input w.output
  pub open called use *
  pub is : Is image to (view ax cx a.line bx (2 * top) (record_of acts) si prog.limits.area overflow cells stack left told) q

-- what an order does after so many instructions
pub later : (prog : OrderProgram) (image : Image) (limit to g : ℕ) (loaded : Bool) (line : ℕ) (acts : List OrderActivation) {output : List ℕ} {p : Watched} {T : Watched → Type 0} (n bound : ℕ) (o : Outcome) → n + limit ≤ bound → Leads output n p T → ((q : Watched) → T q → Does prog image limit to g loaded line acts output q o) → Does prog image bound to g loaded line acts output p o
later prog image limit to g loaded line acts n bound (Changed v) le l on = further_on n limit bound le l on
later prog image limit to g loaded line acts n bound (Refused kind) le l on = further_on n limit bound le l on
later prog image limit to g loaded line acts n bound Impossible le l on = tt

pub further : {output : List ℕ} {limit : ℕ} {p : Watched} {Target : Watched → Type 0} (n : ℕ) → n ≤ limit → 0 < n → Leads output n p Target → Leading output limit p Target
further n le some l = record { spent = n; some = some; within = le; leads = l }

pub with_bx : {image : Image} {at ax bx x cx dx sp bp si di : ℕ} {overflow : Bool} {cells stack : ℕ → ℕ} {input : List ℕ} {told : Told} {p : Watched} → bx ≡ x
    → Is image at (view ax cx dx bx sp bp si di overflow cells stack input told) p → Is image at (view ax cx dx x sp bp si di overflow cells stack input told) p
with_bx {image} {at} {ax} {bx} {x} {cx} {dx} {sp} {bp} {si} {di} {overflow} {cells} {stack} {input} {told} {p} e s =
    subst (λ b. Is image at (view ax cx dx b sp bp si di overflow cells stack input told) p) e s

-- an order leads within so many instructions on its way: to the next order, to where the code of a mark starts, or to a stop at a line
abbrev pub Chooses : (prog : OrderProgram) (image : Image) (limit to : ℕ) (start : ℕ → ℕ) (g : ℕ) (loaded : Bool) (line : ℕ) (acts : List OrderActivation) (output : List ℕ) (p : Watched) → Way → Type 0
Chooses prog image limit to start g loaded line acts output p (Onward v) = Leading output limit p (Landed prog image to g loaded acts v)
Chooses prog image limit to start g loaded line acts output p (ToMark m v) = Leading output limit p (Landed prog image (start m) g loaded acts v)
Chooses prog image limit to start g loaded line acts output p (Barred kind) = Leading output limit p (Over (record { output = output; end = Stopped kind (g + 1) line }))
Chooses prog image limit to start g loaded line acts output p Nowhere = Unit {0}

-- what an order does that writes: on its way the old output is shown and then the new one
pub record Telling (before after : List ℕ) (limit : ℕ) (p : Watched) (Target : Watched → Type 0) : Type 0 where
  pub spent : ℕ
  pub some : 0 < spent
  pub within : spent ≤ limit
  pub reached : Watched
  pub path : Path (λ o. (o ≡ at_work before) ⊎ (o ≡ at_work after)) watched_machine spent p reached
  pub there : Target reached

abbrev pub Tells : (prog : OrderProgram) (image : Image) (limit to g : ℕ) (loaded : Bool) (acts : List OrderActivation) (output : List ℕ) (p : Watched) → Outcome → Type 0
Tells prog image limit to g loaded acts output p (Changed v) = Telling output v.output limit p (Landed prog image to g loaded acts v)
Tells prog image limit to g loaded acts output p (Refused kind) = ⊥
Tells prog image limit to g loaded acts output p Impossible = Unit {0}

pub sooner : (prog : OrderProgram) (image : Image) (limit to : ℕ) (start : ℕ → ℕ) (g : ℕ) (loaded : Bool) (line : ℕ) (acts : List OrderActivation) {output : List ℕ} {p : Watched} {T : Watched → Type 0} (n bound : ℕ) (way : Way) → n + limit ≤ bound → Leads output n p T → ((q : Watched) → T q → Chooses prog image limit to start g loaded line acts output q way) → Chooses prog image bound to start g loaded line acts output p way
sooner prog image limit to start g loaded line acts n bound (Onward v) le l on = further_on n limit bound le l on
sooner prog image limit to start g loaded line acts n bound (ToMark m v) le l on = further_on n limit bound le l on
sooner prog image limit to start g loaded line acts n bound (Barred kind) le l on = further_on n limit bound le l on
sooner prog image limit to start g loaded line acts n bound Nowhere le l on = tt

-- the tops of the stack
pub top_whole : (top : ℕ) → top < 32764 → 2 * top ≡ 2 * top % 65536
top_whole top lt = omega arith

pub top_next : (top : ℕ) → top < 32764 → 2 * suc top % 65536 ≡ 2 * suc top
top_next top lt = omega arith

pub top_low : (top : ℕ) → top < 32764 → top < 32768
top_low top lt = omega arith

-- what holds of an address that is none of the area, and of a word of the area, holds of what is done through an address: by its number
pub through_number : (area n : ℕ) (f : ℕ → Words → Outcome) (w : Words) (T : Outcome → Type 0) → T (Refused AddressRange) → (n < area → T (f n w)) → T (at_address area f (pos n) w)
through_number area n f w T none each = cases (nat_lt n area) refl
  where
    cases : (b : Bool) → nat_lt n area ≡ b → T (through b f (pos n) w)
    cases false is = none
    cases true is = each (ltb-true n area is)

-- as an operand
pub through_address : (area : ℕ) (f : ℕ → Words → Outcome) (a : ℤ) (w : Words) (T : Outcome → Type 0) → T (Refused AddressRange) → ((n : ℕ) → a ≡ pos n → n < area → T (f n w)) → T (at_address area f a w)
through_address area f (negsuc n) w T none each = none
through_address area f (pos n) w T none each = through_number area n f w T none (λ within. each n refl within)

-- and as a word of the code
pub through_word : WordLaws → (area n : ℕ) → area ≤ 32768 → n < 65536 → (f : ℕ → Words → Outcome) (w : Words) (T : Outcome → Type 0) → T (Refused AddressRange) → ((k : ℕ) → k < area → k ≡ n → T (f k w)) → T (at_address area f (signed n) w)
through_word laws area n low small f w T none each =
    through_address area f (signed n) w T none (λ k is within.
    let short : k < 65536 = omega arith in
    each k within (sym (unsigned_pos k short) ∙ ap unsigned (sym is) ∙ laws.numbers.words.forth n small))

-- a stop is called where the overflow flag is set
abbrev pub Check : (image : Image) → (at by line : ℕ) → Type 0
Check image at by line = Has image at (i86.JumpIf 1 5) × (Has image (at + 2) (i86.Call by) × (HasWord image (at + 2 + 3) line × Unit {0}))

-- The check for an overflow at a place, with the code behind it at another: it calls the stop itself, or jumps back to a CALL of the stop with the
-- same line behind it.
pub record ChecksItself (image : Image) (at to line : ℕ) : Type 0 where
  pub by : ℕ
  pub code : Check image at by line
  pub arrives : (at + 2 + 3 + by) % 65536 ≡ stop_place Overflow % 65536
  pub ends : at + 2 + 3 + 2 ≡ to

pub record ChecksBack (image : Image) (at to line : ℕ) : Type 0 where
  pub back : ℕ
  pub call : ℕ
  pub by : ℕ
  pub jump : Has image at (i86.JumpIf 0 back)
  pub goes : (at + 2 + sign_extended back) % 65536 ≡ call % 65536
  pub calls : Has image call (i86.Call by)
  pub tells : HasWord image (call + 3) line
  pub arrives : (call + 3 + by) % 65536 ≡ stop_place Overflow % 65536
  pub ends : at + 2 ≡ to

abbrev pub Checked : (image : Image) → (at to line : ℕ) → Type 0
Checked image at to line = ChecksItself image at to line ⊎ ChecksBack image at to line

module _ (rows : Rows) (prog : OrderProgram) (image : Image) (g : ℕ) (acts : List OrderActivation) where
  -- the word on the stack into AX, and into BX
  pub pop_ax : {p : Watched} {first : Bool} {at ax cx dx bx bp si di : ℕ} {overflow : Bool} {cells stack : ℕ → ℕ} {input : List ℕ} {told : Told} (top : ℕ) → top < 32764 → HasAt first image at (i86.Pop 0)
      → IsAt first image at (view ax cx dx bx (2 * top) bp si di overflow cells stack input told) p → Is image (at + 1) (view (stack top) cx dx bx (2 * suc top) bp si di overflow cells stack input told) (watched_step p)
  pop_ax top lt i s = pop rows 0 top (2 * suc top) (top_low top lt) (top_whole top lt) (top_next top lt) i s

  pub pop_bx : {p : Watched} {at ax cx dx bx bp si di : ℕ} {overflow : Bool} {cells stack : ℕ → ℕ} {input : List ℕ} {told : Told} (top : ℕ) → top < 32764 → Has image at (i86.Pop 3)
      → Is image at (view ax cx dx bx (2 * top) bp si di overflow cells stack input told) p → Is image (at + 1) (view ax cx dx (stack top) (2 * suc top) bp si di overflow cells stack input told) (watched_step p)
  pop_bx top lt i s = pop rows 3 top (2 * suc top) (top_low top lt) (top_whole top lt) (top_next top lt) i s

  -- the processor is there, with these operands and other words
  pub landed : {p : Watched} {at ax cx dx bx si : ℕ} {overflow : Bool} {cells stack : ℕ → ℕ} {left : List ℕ} {told : Told} (loaded : Bool) (to top : ℕ) (operands : List Operand) (memory : List ℤ) (input output : List ℕ) → at ≡ to
      → OperandsAre prog acts loaded ax stack top operands → Kept prog g acts memory input output cells stack left told
      → Is image at (view ax cx dx bx (2 * top) (record_of acts) si prog.limits.area overflow cells stack left told) p → Landed prog image to g loaded acts (record { operands = operands; memory = memory; input = input; output = output }) p
  landed {p} {at} {ax} {cx} {dx} {bx} {si} {overflow} {cells} {stack} {left} {told} loaded to top operands memory input output e h k s = record {
    top = top;
    cells = cells;
    stack = stack;
    input = left;
    told = told;
    stacked = record { ax = ax; cx = cx; dx = dx; bx = bx; si = si; overflow = overflow; is = seen e refl s };
    operands = h;
    kept = k;
  }

  -- ---- the accumulator is freed

  pub saves : {p : Watched} {at : ℕ} (to : ℕ) (operands : List Operand) (memory : List ℤ) (input output : List ℕ) → at + 1 ≡ to → operand_words operands < level acts → Has image at (i86.Push 0)
      → Landed prog image at g true acts (record { operands = operands; memory = memory; input = input; output = output }) p
      → Leading output 1 p (Landed prog image to g false acts (record { operands = operands; memory = memory; input = input; output = output }))
  saves to [] memory input output e room i l = absurd l.operands
  saves to (Held c ∷ rest) memory input output e room i l = absurd l.operands
  saves {p} {at} to (Word z ∷ rest) memory input output e room i l = from l.top refl
    where
      from : (top : ℕ) → l.top ≡ top → Leading output 1 p (Landed prog image to g false acts (record { operands = Word z ∷ rest; memory = memory; input = input; output = output }))
      from zero is = let t = top_is prog acts l.stack l.top rest l.operands.1 in absurd (omega arith)
      from (suc n) is =
          let s = l.stacked in
          let h : StackIs prog acts l.stack (suc n) rest = subst (λ t. StackIs prog acts l.stack t rest) is l.operands.1 in
          let t = top_is prog acts l.stack (suc n) rest h in
          let lt : n < 32768 = omega arith in
          let low : n < level acts = omega arith in
          let top : 2 * suc n ≡ 2 * suc n % 65536 = omega arith in
          let at_n : Is image at (view s.ax s.cx s.dx s.bx (2 * suc n) (record_of acts) s.si prog.limits.area s.overflow l.cells l.stack l.input l.told) p =
          subst (λ t. Is image at (view s.ax s.cx s.dx s.bx (2 * t) (record_of acts) s.si prog.limits.area s.overflow l.cells l.stack l.input l.told) p) is s.is in
          further 1 (lit≤ tt) (lit< tt)
          (last rows at_n l.kept.wrote (landed false to n (Word z ∷ rest) memory input output e (stack_pushed prog acts l.stack n s.ax z rest l.operands.0 h) (kept_under n s.ax low l.kept) (push rows 0 n lt top i at_n)))

  -- ---- words that are put

  -- by one instruction a word comes into AX, which is free
  pub puts : {p : Watched} {first : Bool} {at : ℕ} (to x : ℕ) (z : ℤ) (w : Words) → x ≡ unsigned z → (l : LandedAt first prog image at g false acts w p)
      → ((q : Watched) (ax cx dx bx sp si di : ℕ) (overflow : Bool) (stack : ℕ → ℕ) → IsAt first image at (view ax cx dx bx sp (record_of acts) si di overflow l.cells stack l.input l.told) q → Is image to (view x cx dx bx sp (record_of acts) si di overflow l.cells stack l.input l.told) (watched_step q))
      → Leading w.output 1 p (Landed prog image to g true acts (put z w))
  puts {p} {first} to x z w value l brings =
      let s = l.stacked in
      further 1 (lit≤ tt) (lit< tt)
      (last rows s.is l.kept.wrote (landed true to l.top (Word z ∷ w.operands) w.memory w.input w.output refl (value, l.operands) l.kept (brings p s.ax s.cx s.dx s.bx (2 * l.top) s.si prog.limits.area s.overflow l.stack s.is)))

  -- a word of the data area
  pub fetches : {p : Watched} {first : Bool} {at : ℕ} (to offset n line : ℕ) (w : Words) → prog.limits.area ≤ 32768 → n < 65536 → offset ≡ 2 * n % 65536 → at + 3 ≡ to
      → HasAt first image at (i86.MovAcc false true false offset) → LandedAt first prog image at g false acts w p
      → Does prog image 1 to g true line acts w.output p (unrefused (perform prog.limits.area (Fetch None) (put (signed n) w)))
  fetches {p} to offset n line w low small there e i l =
      through_word rows.words prog.limits.area n low small (λ k v. Changed (put (word_at v.memory k) v)) w (λ o. Does prog image 1 to g true line acts w.output p (unrefused o)) tt (λ k within same.
      let lt : k < 32768 = omega arith in
      let at_k : offset ≡ 2 * k = omega arith in
      puts to (l.cells k) (word_at w.memory k) w (l.kept.words k within) l (λ q ax cx dx bx sp si di overflow stack s. seen e refl (load_at rows offset k lt at_k i s)))

  -- ---- results in AX

  -- the record at work tells the segment
  pub segment_told : {memory : List ℤ} {input output : List ℕ} {cells stack : ℕ → ℕ} {left : List ℕ} {told : Told} → Kept prog g acts memory input output cells stack left told → SegmentTold stack (record_of acts) (level acts + 3) (g + 1)
  segment_told k =
      let few = k.piled.0.few in
      record { there = omega arith; low = omega arith; number = k.piled.0.number_is; few = omega arith }

  -- a stop is called, with its line behind the call
  pub stop_called : {p : Watched} {at ax cx dx bx si : ℕ} {overflow : Bool} {memory : List ℤ} {input output : List ℕ} {cells stack : ℕ → ℕ} {left : List ℕ} {told : Told} (kind : StopKind) (n by line : ℕ) → HasLine kind → Stands image.bytes → line < 65536 → n < level acts + 3
      → (at + 3 + by) % 65536 ≡ stop_place kind % 65536 → Kept prog g acts memory input output cells stack left told → Has image at (i86.Call by) → HasWord image (at + 3) line
      → Is image at (view ax cx dx bx (2 * suc n) (record_of acts) si prog.limits.area overflow cells stack left told) p
      → Leads output 13 p (Over (record { output = output; end = Stopped kind (g + 1) line }))
  stop_called {p} {at} {ax} {cx} {dx} {bx} {si} {overflow} {cells = cells} {stack = stack} {left = left} {told = told} kind n by line has library small low arrives k i word s =
      let t = segment_told k in
      let high : level acts ≤ 32764 = omega arith in
      let top : 2 * suc n ≡ 2 * suc n % 65536 = omega arith in
      subst (λ x. Leads x 13 p (Over (record { output = x; end = Stopped kind (g + 1) line }))) k.wrote
      (stops rows kind at by line n (level acts + 3) (g + 1) ax cx dx bx (record_of acts) si prog.limits.area overflow cells stack left told has library i word small arrives t.low low (2 * suc n) top t.there t.number t.few s)

  -- one that may have overflowed
  pub checks : {p : Watched} {at ax cx dx bx si : ℕ} {overflow : Bool} {cells stack : ℕ → ℕ} {left : List ℕ} {told : Told} (kind : StopKind) (to top by line : ℕ) (z : ℤ) (operands : List Operand) (memory : List ℤ) (input output : List ℕ)
      → HasLine kind → Stands image.bytes → g < 255 → 0 < top → line < 65536
      → at + 2 + 3 + 2 ≡ to → (at + 2 + 3 + by) % 65536 ≡ stop_place kind % 65536 → overflow ≡ not (fits_word z) → (FitsWord z → ax ≡ unsigned z)
      → StackIs prog acts stack top operands → Kept prog g acts memory input output cells stack left told → Check image at by line
      → Is image at (view ax cx dx bx (2 * top) (record_of acts) si prog.limits.area overflow cells stack left told) p
      → Does prog image 14 to g true line acts output p (put_if (fits_word z) kind z (record { operands = operands; memory = memory; input = input; output = output }))
  checks kind to zero by line z operands memory input output has library few some small e arrives tests value h k i s = absurd (omega arith)
  checks {p} {at} {ax} {cx} {dx} {bx} {si} {overflow} {cells} {stack} {left} {told} kind to (suc n) by line z operands memory input output has library few some small e arrives tests value h k i s = cases (fits_word z) refl
    where
      cases : (b : Bool) → fits_word z ≡ b → Does prog image 14 to g true line acts output p (put_if b kind z (record { operands = operands; memory = memory; input = input; output = output }))
      cases true b =
          let e' : at + 2 + 5 ≡ to = omega arith in
          further 1 (lit≤ tt) (lit< tt)
          (last rows s k.wrote (landed true to (suc n) (Word z ∷ operands) memory input output e' (value (fits_tested z b), h) k (no_overflow rows 5 (tests ∙ ap not b) i.0 s)))
      cases false b =
          let t = top_is prog acts stack (suc n) operands h in
          further 14 (lit≤ tt) (lit< tt)
          (more rows {to = at + 2} {w = view ax cx dx bx (2 * suc n) (record_of acts) si prog.limits.area overflow cells stack left told} s k.wrote (passes rows 5 (tests ∙ ap not b) i.0 s) (λ q s.
          stop_called kind n by line has library small (omega arith) arrives k i.1.0 i.1.1.0 s))

  -- the same where the check may jump back
  pub checks_end : {p : Watched} {at ax cx dx bx si : ℕ} {overflow : Bool} {cells stack : ℕ → ℕ} {left : List ℕ} {told : Told} (to top line : ℕ) (z : ℤ) (operands : List Operand) (memory : List ℤ) (input output : List ℕ)
      → Stands image.bytes → g < 255 → 0 < top → line < 65536 → overflow ≡ not (fits_word z) → (FitsWord z → ax ≡ unsigned z)
      → StackIs prog acts stack top operands → Kept prog g acts memory input output cells stack left told → Checked image at to line
      → Is image at (view ax cx dx bx (2 * top) (record_of acts) si prog.limits.area overflow cells stack left told) p
      → Does prog image 14 to g true line acts output p (put_if (fits_word z) Overflow z (record { operands = operands; memory = memory; input = input; output = output }))
  checks_end to top line z operands memory input output library few some small tests value h k (inl i) s = checks Overflow to top i.by line z operands memory input output tt library few some small i.ends i.arrives tests value h k i.code s
  checks_end to zero line z operands memory input output library few some small tests value h k (inr i) s = absurd (omega arith)
  checks_end {p} {at} {ax} {cx} {dx} {bx} {si} {overflow} {cells} {stack} {left} {told} to (suc n) line z operands memory input output library few some small tests value h k (inr i) s = cases (fits_word z) refl
    where
      cases : (b : Bool) → fits_word z ≡ b → Does prog image 14 to g true line acts output p (put_if b Overflow z (record { operands = operands; memory = memory; input = input; output = output }))
      cases true b =
          further 1 (lit≤ tt) (lit< tt)
          (last rows s k.wrote (landed true to (suc n) (Word z ∷ operands) memory input output i.ends (value (fits_tested z b), h) k (pass_overflow rows i.back (tests ∙ ap not b) i.jump s)))
      cases false b =
          let t = top_is prog acts stack (suc n) operands h in
          further 14 (lit≤ tt) (lit< tt)
          (more rows {to = i.call} {w = view ax cx dx bx (2 * suc n) (record_of acts) si prog.limits.area overflow cells stack left told} s k.wrote (to_place i.goes (jump_overflow rows i.back (tests ∙ ap not b) i.jump s)) (λ q s.
          stop_called Overflow n i.by line tt library small (omega arith) i.arrives k i.calls i.tells s))

  -- ---- words of the data area

  pub loads : {p : Watched} {at : ℕ} (to line : ℕ) (operands : List Operand) (memory : List ℤ) (input output : List ℕ) → prog.limits.area ≤ 32768 → at + 5 ≡ to
      → HasAll image at (i86.XchgAx 3 ∷ i86.Shift 4 true false (rms.Reg 3) ∷ i86.Mov true true 0 at_bx ∷ [])
      → Landed prog image at g true acts (record { operands = operands; memory = memory; input = input; output = output }) p
      → Does prog image 3 to g true line acts output p (unrefused (perform prog.limits.area (Fetch None) (record { operands = operands; memory = memory; input = input; output = output })))
  loads to line [] memory input output low e i l = tt
  loads to line (Held c ∷ rest) memory input output low e i l = tt
  loads {p} {at} to line (Word a ∷ rest) memory input output low e i l =
      through_address prog.limits.area (λ k v. Changed (put (word_at v.memory k) v)) a (record { operands = rest; memory = memory; input = input; output = output }) (λ o. Does prog image 3 to g true line acts output p (unrefused o)) tt (λ n is within.
      let s = l.stacked in
      let k = l.kept in
      let h = l.operands in
      let lt : n < 32768 = omega arith in
      let small : n < 65536 = omega arith in
      let e' : at + 1 + 2 + 2 ≡ to = omega arith in
      let ax : s.ax ≡ n = h.0 ∙ ap unsigned is ∙ unsigned_pos n small in
      further 3 (lit≤ tt) (lit< tt)
      (more rows {to = at + 1} {w = view s.bx s.cx s.dx n (2 * l.top) (record_of acts) s.si prog.limits.area s.overflow l.cells l.stack l.input l.told} s.is k.wrote (with_bx ax (exchange rows i.0 s.is)) (λ q t.
      more rows {to = at + 1 + 2} {w = view s.bx s.cx s.dx (2 * n) (2 * l.top) (record_of acts) s.si prog.limits.area (double_overflows n) l.cells l.stack l.input l.told} t k.wrote (double rows 3 lt i.1.0 t) (λ q t.
      last rows t k.wrote (landed true to l.top (Word (word_at memory n) ∷ rest) memory input output e' (k.words n within, h.1) k (load rows 0 n lt refl i.1.1.0 t))))))

  pub stores : {p : Watched} {at : ℕ} (to line : ℕ) (operands : List Operand) (memory : List ℤ) (input output : List ℕ) → prog.limits.area ≤ 32768 → at + 7 ≡ to
      → HasAll image at (i86.Mov true true 3 (rms.Reg 0) ∷ i86.Shift 4 true false (rms.Reg 3) ∷ i86.Pop 0 ∷ i86.Mov true false 0 at_bx ∷ [])
      → Landed prog image at g true acts (record { operands = operands; memory = memory; input = input; output = output }) p
      → Does prog image 4 to g false line acts output p (unrefused (perform prog.limits.area (Store None) (record { operands = operands; memory = memory; input = input; output = output })))
  stores to line [] memory input output low e i l = tt
  stores to line (Held c ∷ rest) memory input output low e i l = tt
  stores to line (Word a ∷ []) memory input output low e i l = tt
  stores to line (Word a ∷ Held c ∷ rest) memory input output low e i l = tt
  stores {p} {at} to line (Word a ∷ Word z ∷ rest) memory input output low e i l =
      through_address prog.limits.area (λ k t. Changed (with_memory t (set t.memory k z))) a (record { operands = rest; memory = memory; input = input; output = output }) (λ o. Does prog image 4 to g false line acts output p (unrefused o)) tt (λ n is within.
      let s = l.stacked in
      let k = l.kept in
      let h = l.operands in
      let t = top_is prog acts l.stack (suc l.top) rest h.1.1 in
      let top : l.top < 32764 = omega arith in
      let lt : n < 32768 = omega arith in
      let small : n < 65536 = omega arith in
      let e' : at + 2 + 2 + 1 + 2 ≡ to = omega arith in
      let ax : s.ax ≡ n = h.0 ∙ ap unsigned is ∙ unsigned_pos n small in
      further 4 (lit≤ tt) (lit< tt)
      (more rows {to = at + 2} {w = view s.ax s.cx s.dx n (2 * l.top) (record_of acts) s.si prog.limits.area s.overflow l.cells l.stack l.input l.told} s.is k.wrote (with_bx ax (move rows 3 0 i.0 s.is)) (λ q t.
      more rows {to = at + 2 + 2} {w = view s.ax s.cx s.dx (2 * n) (2 * l.top) (record_of acts) s.si prog.limits.area (double_overflows n) l.cells l.stack l.input l.told} t k.wrote (double rows 3 lt i.1.0 t) (λ q t.
      more rows {to = at + 2 + 2 + 1} {w = view (unsigned z) s.cx s.dx (2 * n) (2 * suc l.top) (record_of acts) s.si prog.limits.area (double_overflows n) l.cells l.stack l.input l.told} t k.wrote (with_ax h.1.0 (pop_ax l.top top i.1.1.0 t)) (λ q t.
      last rows t k.wrote (landed false to (suc l.top) rest (set memory n z) input output e' h.1.1 (kept_stored n z within k) (store rows 0 n lt refl i.1.1.1.0 t)))))))

  -- the top operand goes to a word of the data area
  pub assigns : {p : Watched} {at : ℕ} (to offset n line : ℕ) (operands : List Operand) (memory : List ℤ) (input output : List ℕ) → prog.limits.area ≤ 32768 → n < 65536 → offset ≡ 2 * n % 65536 → at + 3 ≡ to
      → Has image at (i86.MovAcc false true true offset) → Landed prog image at g true acts (record { operands = operands; memory = memory; input = input; output = output }) p
      → Does prog image 1 to g false line acts output p (unrefused (perform prog.limits.area (Store None) (record { operands = Word (signed n) ∷ operands; memory = memory; input = input; output = output })))
  assigns to offset n line [] memory input output low small there e i l = tt
  assigns to offset n line (Held c ∷ rest) memory input output low small there e i l = tt
  assigns {p} to offset n line (Word z ∷ rest) memory input output low small there e i l =
      through_word rows.words prog.limits.area n low small (λ k t. Changed (with_memory t (set t.memory k z))) (record { operands = rest; memory = memory; input = input; output = output }) (λ o. Does prog image 1 to g false line acts output p (unrefused o)) tt (λ m within same.
      let lt : m < 32768 = omega arith in
      let at_m : offset ≡ 2 * m = omega arith in
      further 1 (lit≤ tt) (lit< tt)
      (last rows l.stacked.is l.kept.wrote (landed false to l.top rest (set memory m z) input output e l.operands.1 (kept_stored m z within l.kept) (store_at rows offset m lt at_m i (with_ax l.operands.0 l.stacked.is)))))

  -- ---- output

  -- the byte in AX is written
  out_low : {p : Watched} {at cx dx bx si : ℕ} {overflow : Bool} {cells stack : ℕ → ℕ} {left : List ℕ} {told : Told} (x : ℤ) (to top : ℕ) (rest : List Operand) (memory : List ℤ) (input output : List ℕ) → at + 2 ≡ to → Has image at (i86.Out 0x12)
      → StackIs prog acts stack top rest → Kept prog g acts memory input output cells stack left told
      → Is image at (view (unsigned x) cx dx bx (2 * top) (record_of acts) si prog.limits.area overflow cells stack left told) p
      → Landed prog image to g false acts (record { operands = rest; memory = memory; input = input; output = output ++ byte_of x ∷ [] }) (watched_step p)
  out_low {told = told} x to top rest memory input output e i h k s =
      landed false to top rest memory input (output ++ byte_of x ∷ []) e h
      (record { words = k.words; long = k.long; piled = k.piled; read = k.read; wrote = ap (λ o. o ++ byte_of x ∷ []) k.wrote; kind = k.kind }) (out rows 0x12 i s)

  -- the argument is on the stack
  pub writes : {p : Watched} {first : Bool} {at : ℕ} (to : ℕ) (operands : List Operand) (memory : List ℤ) (input output : List ℕ) → at + 3 ≡ to → HasFrom first image at (i86.Pop 0 ∷ i86.Out 0x12 ∷ [])
      → LandedAt first prog image at g false acts (record { operands = operands; memory = memory; input = input; output = output }) p
      → Tells prog image 2 to g false acts output p (perform prog.limits.area WriteByte (record { operands = operands; memory = memory; input = input; output = output }))
  writes {p} {at} to (Word x ∷ rest) memory input output e i l =
      let s = l.stacked in
      let k = l.kept in
      let h = l.operands in
      let t = top_is prog acts l.stack (suc l.top) rest h.1 in
      let lt : l.top < 32764 = omega arith in
      let e' : at + 1 + 2 ≡ to = omega arith in
      let popped : Is image (at + 1) (view (unsigned x) s.cx s.dx s.bx (2 * suc l.top) (record_of acts) s.si prog.limits.area s.overflow l.cells l.stack l.input l.told) (watched_step p) = with_ax h.0 (pop_ax l.top lt i.0 s.is) in
      record {
        spent = 2;
        some = lit< tt;
        within = lit≤ tt;
        reached = watched_step (watched_step p);
        path = next (inl (shows rows s.is k.wrote)) refl (let c : 2 ≡ 1 + 1 = omega arith in c) (next (inl (shows rows popped k.wrote)) refl (let c : 1 ≡ 1 + 0 = omega arith in c) (stay refl refl));
        there = out_low x to (suc l.top) rest memory input output e' i.1.0 h.1 k popped;
      }
  writes to _ memory input output e i l = tt

  -- the argument is in the accumulator
  pub writes_top : {p : Watched} {at : ℕ} (to : ℕ) (operands : List Operand) (memory : List ℤ) (input output : List ℕ) → at + 2 ≡ to → Has image at (i86.Out 0x12)
      → Landed prog image at g true acts (record { operands = operands; memory = memory; input = input; output = output }) p
      → Tells prog image 1 to g false acts output p (perform prog.limits.area WriteByte (record { operands = operands; memory = memory; input = input; output = output }))
  writes_top {p} {at} to (Word x ∷ rest) memory input output e i l =
      let s = l.stacked in
      let k = l.kept in
      let h = l.operands in
      record {
        spent = 1;
        some = lit< tt;
        within = lit≤ tt;
        reached = watched_step p;
        path = next (inl (shows rows s.is k.wrote)) refl (let c : 1 ≡ 1 + 0 = omega arith in c) (stay refl refl);
        there = out_low x to l.top rest memory input output e i h.1 k (with_ax h.0 s.is);
      }
  writes_top to _ memory input output e i l = tt

  -- ---- jumps

  pub jumps : {p : Watched} {first : Bool} {at : ℕ} (to by : ℕ) (loaded : Bool) (w : Words) → (at + 3 + by) % 65536 ≡ to % 65536 → HasAt first image at (i86.Jump by) → LandedAt first prog image at g loaded acts w p
      → Leading w.output 1 p (Landed prog image to g loaded acts w)
  jumps to by loaded w arrives i l =
      let s = l.stacked in
      further 1 (lit≤ tt) (lit< tt) (last rows s.is l.kept.wrote (landed loaded to l.top w.operands w.memory w.input w.output refl l.operands l.kept (to_place arrives (near rows by i s.is))))

  pub short_jumps : {p : Watched} {first : Bool} {at : ℕ} (to by : ℕ) (loaded : Bool) (w : Words) → (at + 2 + sign_extended by) % 65536 ≡ to % 65536 → HasAt first image at (i86.JumpShort by) → LandedAt first prog image at g loaded acts w p
      → Leading w.output 1 p (Landed prog image to g loaded acts w)
  short_jumps to by loaded w arrives i l =
      let s = l.stacked in
      further 1 (lit≤ tt) (lit< tt) (last rows s.is l.kept.wrote (landed loaded to l.top w.operands w.memory w.input w.output refl l.operands l.kept (to_place arrives (short rows by i s.is))))

  near_branches : {p : Watched} {at ax cx dx bx si a b : ℕ} {overflow : Bool} {cells stack : ℕ → ℕ} {left : List ℕ} {told : Told} (to top by : ℕ) (start : ℕ → ℕ) (c : Comparator) (m : ℕ) (x y : ℤ) (operands : List Operand) (memory : List ℤ) (input output : List ℕ)
      → at + 2 + 3 ≡ to → (at + 2 + 3 + by) % 65536 ≡ start m % 65536 → FitsWord x → FitsWord y → a ≡ unsigned x → b ≡ unsigned y
      → StackIs prog acts stack top operands → Kept prog g acts memory input output cells stack left told → HasAll image at (i86.JumpIf (condition_of (opposite_of c)) 3 ∷ i86.Jump by ∷ [])
      → IsCompared image at (view ax cx dx bx (2 * top) (record_of acts) si prog.limits.area overflow cells stack left told) a b p
      → Chooses prog image 2 to start g false 0 acts output p (to_mark_if (holds (comparison c) x y) m (record { operands = operands; memory = memory; input = input; output = output }))
  near_branches {p} {at} {ax} {cx} {dx} {bx} {si} {a} {b} {overflow} {cells} {stack} {left} {told} to top by start c m x y operands memory input output e arrives fx fy ea eb h k i s = cases (holds (comparison c) x y) refl
    where
      V : View
      V = view ax cx dx bx (2 * top) (record_of acts) si prog.limits.area overflow cells stack left told

      la : a < 65536
      la = subst (λ n. n < 65536) (sym ea) (rows.words.numbers.words.unsigned_fits x fx)

      lb : b < 65536
      lb = subst (λ n. n < 65536) (sym eb) (rows.words.numbers.words.unsigned_fits y fy)

      turned : words_compare (opposite_of c) a b ≡ not (holds (comparison c) x y)
      turned = ap₂ (words_compare (opposite_of c)) ea eb ∙ opposite_is rows.words x y fx fy c

      cases : (t : Bool) → holds (comparison c) x y ≡ t → Chooses prog image 2 to start g false 0 acts output p (to_mark_if t m (record { operands = operands; memory = memory; input = input; output = output }))
      cases true t =
          further 2 (lit≤ tt) (lit< tt)
          (more rows {to = at + 2} {w = V} s.is k.wrote (compared_passes rows (opposite_of c) 3 la lb (turned ∙ ap not t) i.0 s) (λ q u.
          last rows u k.wrote (landed false (start m) top operands memory input output refl h k (to_place arrives (near rows by i.1.0 u)))))
      cases false t = further 1 (lit≤ tt) (lit< tt) (last rows s.is k.wrote (landed false to top operands memory input output e h k (compared_jumps rows (opposite_of c) 3 la lb (turned ∙ ap not t) i.0 s)))

  short_branches : {p : Watched} {at ax cx dx bx si a b : ℕ} {overflow : Bool} {cells stack : ℕ → ℕ} {left : List ℕ} {told : Told} (to top by : ℕ) (start : ℕ → ℕ) (c : Comparator) (m : ℕ) (x y : ℤ) (operands : List Operand) (memory : List ℤ) (input output : List ℕ)
      → at + 2 ≡ to → (at + 2 + sign_extended by) % 65536 ≡ start m % 65536 → FitsWord x → FitsWord y → a ≡ unsigned x → b ≡ unsigned y
      → StackIs prog acts stack top operands → Kept prog g acts memory input output cells stack left told → HasAll image at (i86.JumpIf (condition_of (comparison_of c)) by ∷ [])
      → IsCompared image at (view ax cx dx bx (2 * top) (record_of acts) si prog.limits.area overflow cells stack left told) a b p
      → Chooses prog image 2 to start g false 0 acts output p (to_mark_if (holds (comparison c) x y) m (record { operands = operands; memory = memory; input = input; output = output }))
  short_branches {p} {at} {ax} {cx} {dx} {bx} {si} {a} {b} {overflow} {cells} {stack} {left} {told} to top by start c m x y operands memory input output e arrives fx fy ea eb h k i s = cases (holds (comparison c) x y) refl
    where
      la : a < 65536
      la = subst (λ n. n < 65536) (sym ea) (rows.words.numbers.words.unsigned_fits x fx)

      lb : b < 65536
      lb = subst (λ n. n < 65536) (sym eb) (rows.words.numbers.words.unsigned_fits y fy)

      told_so : words_compare (comparison_of c) a b ≡ holds (comparison c) x y
      told_so = ap₂ (words_compare (comparison_of c)) ea eb ∙ comparison_is rows.words x y fx fy c

      cases : (t : Bool) → holds (comparison c) x y ≡ t → Chooses prog image 2 to start g false 0 acts output p (to_mark_if t m (record { operands = operands; memory = memory; input = input; output = output }))
      cases true t = further 1 (lit≤ tt) (lit< tt) (last rows s.is k.wrote (landed false (start m) top operands memory input output refl h k (to_place arrives (compared_jumps rows (comparison_of c) by la lb (told_so ∙ t) i.0 s))))
      cases false t = further 1 (lit≤ tt) (lit< tt) (last rows s.is k.wrote (landed false to top operands memory input output e h k (compared_passes rows (comparison_of c) by la lb (told_so ∙ t) i.0 s)))

  -- behind a comparison: near or short
  pub branches : {p : Watched} {at ax cx dx bx si a b : ℕ} {overflow : Bool} {cells stack : ℕ → ℕ} {left : List ℕ} {told : Told} (short : Bool) (to top by : ℕ) (start : ℕ → ℕ) (c : Comparator) (m : ℕ) (x y : ℤ) (operands : List Operand) (memory : List ℤ) (input output : List ℕ)
      → at + branch_size short ≡ to → (at + branch_size short + goes_by short by) % 65536 ≡ start m % 65536 → FitsWord x → FitsWord y → a ≡ unsigned x → b ≡ unsigned y
      → StackIs prog acts stack top operands → Kept prog g acts memory input output cells stack left told → HasAll image at (branch_code short c by)
      → IsCompared image at (view ax cx dx bx (2 * top) (record_of acts) si prog.limits.area overflow cells stack left told) a b p
      → Chooses prog image 2 to start g false 0 acts output p (to_mark_if (holds (comparison c) x y) m (record { operands = operands; memory = memory; input = input; output = output }))
  branches true to top by start c m x y operands memory input output e arrives fx fy ea eb h k i s = short_branches to top by start c m x y operands memory input output e arrives fx fy ea eb h k i s
  branches {at = at} false to top by start c m x y operands memory input output e arrives fx fy ea eb h k i s =
      near_branches to top by start c m x y operands memory input output (let f : at + 2 + 3 ≡ to = omega arith in f) (let f : (at + 2 + 3 + by) % 65536 ≡ start m % 65536 = omega arith in f) fx fy ea eb h k i s

  pub chooses : {p : Watched} {at : ℕ} (short : Bool) (to by : ℕ) (start : ℕ → ℕ) (c : Comparator) (m : ℕ) (operands : List Operand) (memory : List ℤ) (input output : List ℕ) → at + (3 + branch_size short) ≡ to → (at + (3 + branch_size short) + goes_by short by) % 65536 ≡ start m % 65536
      → All OperandFits operands → HasAll image at (i86.Pop 3 ∷ with_other 7 3 0 ∷ branch_code short c by)
      → Landed prog image at g true acts (record { operands = operands; memory = memory; input = input; output = output }) p
      → Chooses prog image 4 to start g false 0 acts output p (way_of_two (λ x y v. to_mark_if (holds (comparison c) x y) m v) (record { operands = operands; memory = memory; input = input; output = output }))
  chooses short to by start c m [] memory input output e arrives fits i l = tt
  chooses short to by start c m (Held d ∷ rest) memory input output e arrives fits i l = tt
  chooses short to by start c m (Word y ∷ []) memory input output e arrives fits i l = tt
  chooses short to by start c m (Word y ∷ Held d ∷ rest) memory input output e arrives fits i l = tt
  chooses {p} {at} short to by start c m (Word y ∷ Word x ∷ rest) memory input output e arrives fits i l =
      let s = l.stacked in
      let k = l.kept in
      let h = l.operands in
      let fy : FitsWord y = All-head OperandFits (Word y) (Word x ∷ rest) fits in
      let fx : FitsWord x = All-head OperandFits (Word x) rest (All-tail OperandFits (Word y) (Word x ∷ rest) fits) in
      let n = l.stack l.top in
      let t = top_is prog acts l.stack (suc l.top) rest h.1.1 in
      let lt : l.top < 32764 = omega arith in
      let e' : at + 1 + 2 + branch_size short ≡ to = omega arith in
      let a' : (at + 1 + 2 + branch_size short + goes_by short by) % 65536 ≡ start m % 65536 = omega arith in
      let Between : Watched → Type 0 = IsCompared image (at + 1 + 2) (view s.ax s.cx s.dx n (2 * suc l.top) (record_of acts) s.si prog.limits.area (difference_overflows n s.ax) l.cells l.stack l.input l.told) n s.ax in
      sooner prog image 2 to start g false 0 acts {T = Between} 2 4 (to_mark_if (holds (comparison c) x y) m (record { operands = rest; memory = memory; input = input; output = output })) (lit≤ tt)
      (more rows {to = at + 1} {w = view s.ax s.cx s.dx n (2 * suc l.top) (record_of acts) s.si prog.limits.area s.overflow l.cells l.stack l.input l.told} s.is k.wrote (pop_bx l.top lt i.0 s.is) (λ q u.
      compared_more rows {Between = Between} u k.wrote (compare rows 3 0 i.1.0 u) (λ q u. done u)))
      (λ q u. branches short to (suc l.top) by start c m x y rest memory input output e' a' fx fy h.1.0 h.0 h.1.1 k i.1.1 u)
