-- Operands taken by an order, what it leaves, and the test for an overflow on the way.
use Rattle.std.proofs.Common.{◌≡◌, ℕ, zero, suc, ◌+◌, ◌*◌, ◌%◌, ◌<◌, ◌≤◌, Bool, true, false, not, ℤ, List, [], ◌∷◌, refl, subst, arith, lit<}
use Rattle.std.specs.List.{All}
use Rattle.std.proofs.lemmas.List.Elements.{All-head, All-tail}
use Rattle.cw_i86.specs.declared.instr.Instr.TheVariants as i86
use Rattle.cw_run86.specs.Processor.{Told}
use Rattle.cw_word.specs.FixedPoint.{FitsWord}
use Rattle.cw_word.specs.Word.{unsigned}
use Rattle.cw_unit.specs.Stop.{StopKind, Stopped}
use Rattle.cw_unit.specs.Words.{Operand, Word, Held, Words, Outcome, Refused, on_one, on_two, with_operands}
use Rattle.cw_order.specs.OrderProgram.{OrderProgram}
use Rattle.cw_order.specs.OrderState.{OrderActivation, operand_words}
use Rattle.cw_order.specs.OrderMachine.{unrefused}
use Rattle.cw_order.specs.FittingWords.{OperandFits}
use Rattle.cw_tmpl.specs.Library.{stop_place}
use Rattle.cw_routines.specs.Results.{Stands, Tells}
use Rattle.cw_follow.proofs.Watched.{Watched}
use Rattle.cw_follow.proofs.Rows.{Rows}
use Rattle.cw_follow.proofs.Chains.{Is, Leads, view, no_overflow, passes, more, done}
use Rattle.cw_follow.proofs.Routines.{HasLine, Over, with_ax, Beside}
use Rattle.cw_follow.proofs.Stacks.{level, record_of, StackIs, top_is}
use Rattle.cw_follow.proofs.Orders.{Kept, Landed, Does, Check, later, further, landed, segment_told, stop_called, beside_at}
use Rattle.cw_follow.proofs.Standing.{Has, HasWord, Image}

-- where an order is carried out
pub record Setting : Type 0 where
  pub rows : Rows
  pub image : Image
  pub library : Stands image.bytes
  pub program : OrderProgram
  pub low : program.limits.area ≤ 32768
  pub g : ℕ
  pub few : g < 255
  pub acts : List OrderActivation

abbrev pub words : List Operand → List ℤ → (input output : List ℕ) → Words
words operands memory input output = record { operands = operands; memory = memory; input = input; output = output }

-- an outcome that comes only so
abbrev pub allowed : Bool → StopKind → Outcome → Outcome
allowed true kind o = o
allowed false kind o = Refused kind

-- what is done with the operands on top never stops where it never stops with their words
pub unrefused_one : (f : ℤ → Words → Outcome) (operands : List Operand) (w : Words) → on_one (λ x v. unrefused (f x v)) operands w ≡ unrefused (on_one f operands w)
unrefused_one f (Word x ∷ rest) w = refl
unrefused_one f _ w = refl

unrefused_two : (f : ℤ → ℤ → Words → Outcome) (operands : List Operand) (w : Words) → on_two (λ x y v. unrefused (f x y v)) operands w ≡ unrefused (on_two f operands w)
unrefused_two f [] w = refl
unrefused_two f (Held d ∷ rest) w = refl
unrefused_two f (Word y ∷ rest) w = unrefused_one (λ x v. f x y v) rest (with_operands w rest)

unrefused_three : (f : ℤ → ℤ → ℤ → Words → Outcome) (operands : List Operand) (w : Words)
    → on_one (λ z v. on_two (λ x y t. unrefused (f x y z t)) v.operands v) operands w ≡ unrefused (on_one (λ z v. on_two (λ x y t. f x y z t) v.operands v) operands w)
unrefused_three f [] w = refl
unrefused_three f (Held d ∷ rest) w = refl
unrefused_three f (Word z ∷ rest) w = unrefused_two (λ x y t. f x y z t) rest (with_operands w rest)

pub with_cells : {image : Image} {at ax bx cx dx sp bp si di : ℕ} {overflow : Bool} {cells cells' stack : ℕ → ℕ} {input : List ℕ} {told : Told} {p : Watched} → cells ≡ cells'
    → Is image at (view ax cx dx bx sp bp si di overflow cells stack input told) p → Is image at (view ax cx dx bx sp bp si di overflow cells' stack input told) p
with_cells {image} {at} {ax} {bx} {cx} {dx} {sp} {bp} {si} {di} {overflow} {cells} {cells'} {stack} {input} {told} {p} e s =
    subst (λ x. Is image at (view ax cx dx bx sp bp si di overflow x stack input told) p) e s

module _ (c : Setting) (memory : List ℤ) (input output : List ℕ) where
  abbrev pub LandedWith : (at : ℕ) (loaded : Bool) → List Operand → Watched → Type 0
  LandedWith at loaded operands p = Landed c.program c.image at c.g loaded c.acts (words operands memory input output) p

  abbrev pub DoesHere : (limit to : ℕ) (loaded : Bool) (line : ℕ) → Watched → Outcome → Type 0
  DoesHere limit to loaded line p o = Does c.program c.image limit to c.g loaded line c.acts output p o

  -- the record at work tells the segment
  pub tells : {cells stack : ℕ → ℕ} {left : List ℕ} {told : Told} → Kept c.program c.g c.acts memory input output cells stack left told → Tells stack (record_of c.acts) (level c.acts + 3) (c.g + 1)
  tells k = segment_told c.rows c.program c.image c.g c.acts k

  -- The top operand is in AX, and from the word behind this number on are the others.
  pub record One (at : ℕ) (x : ℤ) (rest : List Operand) (p : Watched) : Type 0 where
    pub beside : Beside
    pub open beside use *
    pub low : top < level c.acts
    pub is : Is c.image at (view (unsigned x) cx dx bx (2 * suc top) (record_of c.acts) si c.program.limits.area overflow cells stack left told) p
    pub under : StackIs c.program c.acts stack (suc top) rest
    pub kept : Kept c.program c.g c.acts memory input output cells stack left told

  -- The top operand is in AX, the next one in the word behind this number, and above it are the others.
  pub record Two (at : ℕ) (x y : ℤ) (rest : List Operand) (p : Watched) : Type 0 where
    pub beside : Beside
    pub open beside use *
    pub low : suc top < level c.acts
    pub is : Is c.image at (view (unsigned y) cx dx bx (2 * suc top) (record_of c.acts) si c.program.limits.area overflow cells stack left told) p
    pub next : (suc top < 32767) × (2 * suc top ≡ 2 * suc top % 65536) × (stack (suc top) ≡ unsigned x)
    pub under : StackIs c.program c.acts stack (suc (suc top)) rest
    pub kept : Kept c.program c.g c.acts memory input output cells stack left told

  pub one_there : {p : Watched} {at : ℕ} (x : ℤ) (rest : List Operand) → operand_words (Word x ∷ rest) < level c.acts → LandedWith at true (Word x ∷ rest) p → One at x rest p
  one_there {p} {at} x rest room l = from l.top refl
    where
      from : (top : ℕ) → l.top ≡ top → One at x rest p
      from zero e = let t = top_is c.program c.acts l.stack l.top rest l.operands.1 in absurd (omega arith)
      from (suc n) e =
          let s = l.stacked in
          let t = top_is c.program c.acts l.stack l.top rest l.operands.1 in
          record {
            beside = beside_at l n;
            low = omega arith;
            is = subst (λ m. Is c.image at (view (unsigned x) s.cx s.dx s.bx (2 * m) (record_of c.acts) s.si c.program.limits.area s.overflow l.cells l.stack l.input l.told) p) e (with_ax l.operands.0 s.is);
            under = subst (λ m. StackIs c.program c.acts l.stack m rest) e l.operands.1;
            kept = l.kept;
          }

  pub two_there : {p : Watched} {at : ℕ} (x y : ℤ) (rest : List Operand) → operand_words (Word y ∷ Word x ∷ rest) < level c.acts → LandedWith at true (Word y ∷ Word x ∷ rest) p → Two at x y rest p
  two_there x y rest room l =
      let o = one_there y (Word x ∷ rest) room l in
      let t = top_is c.program c.acts o.stack (suc (suc o.top)) rest o.under.1 in
      let high : level c.acts ≤ 32764 = omega arith in
      record { beside = o.beside; low = omega arith; is = o.is; next = (omega arith, omega arith, o.under.0); under = o.under.1; kept = o.kept }

  -- where there is no operand, or one of the wrong sort, nothing is asked
  pub taking_one : {p : Watched} {at : ℕ} (limit to : ℕ) (loaded : Bool) (line : ℕ) (f : ℤ → Words → Outcome)
      → ((x : ℤ) (rest : List Operand) → FitsWord x → One at x rest p → DoesHere limit to loaded line p (f x (words rest memory input output)))
      → (operands : List Operand) → operand_words operands < level c.acts → All OperandFits operands → LandedWith at true operands p → DoesHere limit to loaded line p (on_one f operands (words operands memory input output))
  taking_one limit to loaded line f does [] room fits l = tt
  taking_one limit to loaded line f does (Held d ∷ rest) room fits l = tt
  taking_one limit to loaded line f does (Word x ∷ rest) room fits l = does x rest (All-head OperandFits (Word x) rest fits) (one_there x rest room l)

  pub taking_two : {p : Watched} {at : ℕ} (limit to : ℕ) (loaded : Bool) (line : ℕ) (f : ℤ → ℤ → Words → Outcome)
      → ((x y : ℤ) (rest : List Operand) → FitsWord x → FitsWord y → Two at x y rest p → DoesHere limit to loaded line p (f x y (words rest memory input output)))
      → (operands : List Operand) → operand_words operands < level c.acts → All OperandFits operands → LandedWith at true operands p → DoesHere limit to loaded line p (on_two f operands (words operands memory input output))
  taking_two limit to loaded line f does [] room fits l = tt
  taking_two limit to loaded line f does (Held d ∷ rest) room fits l = tt
  taking_two limit to loaded line f does (Word y ∷ []) room fits l = tt
  taking_two limit to loaded line f does (Word y ∷ Held d ∷ rest) room fits l = tt
  taking_two limit to loaded line f does (Word y ∷ Word x ∷ rest) room fits l =
      does x y rest (All-head OperandFits (Word x) rest (All-tail OperandFits (Word y) (Word x ∷ rest) fits)) (All-head OperandFits (Word y) (Word x ∷ rest) fits) (two_there x y rest room l)

  pub taking_three : {p : Watched} {at : ℕ} (limit to : ℕ) (loaded : Bool) (line : ℕ) (f : ℤ → ℤ → ℤ → Words → Outcome)
      → ((x y z : ℤ) (rest : List Operand) → FitsWord x → FitsWord y → FitsWord z → Two at y z (Word x ∷ rest) p → DoesHere limit to loaded line p (f x y z (words rest memory input output)))
      → (operands : List Operand) → operand_words operands < level c.acts → All OperandFits operands → LandedWith at true operands p → DoesHere limit to loaded line p (on_one (λ z v. on_two (λ x y t. f x y z t) v.operands v) operands (words operands memory input output))
  taking_three limit to loaded line f does [] room fits l = tt
  taking_three limit to loaded line f does (Held d ∷ rest) room fits l = tt
  taking_three limit to loaded line f does (Word z ∷ []) room fits l = tt
  taking_three limit to loaded line f does (Word z ∷ Held d ∷ rest) room fits l = tt
  taking_three limit to loaded line f does (Word z ∷ Word y ∷ []) room fits l = tt
  taking_three limit to loaded line f does (Word z ∷ Word y ∷ Held d ∷ rest) room fits l = tt
  taking_three limit to loaded line f does (Word z ∷ Word y ∷ Word x ∷ rest) room fits l =
      let below = All-tail OperandFits (Word z) (Word y ∷ Word x ∷ rest) fits in
      does x y z rest (All-head OperandFits (Word x) rest (All-tail OperandFits (Word y) (Word x ∷ rest) below)) (All-head OperandFits (Word y) (Word x ∷ rest) below)
      (All-head OperandFits (Word z) (Word y ∷ Word x ∷ rest) fits) (two_there y z (Word x ∷ rest) room l)

  -- the same of what never stops
  pub accessing_one : {p : Watched} {at : ℕ} (limit to : ℕ) (loaded : Bool) (line : ℕ) (f : ℤ → Words → Outcome)
      → ((x : ℤ) (rest : List Operand) → FitsWord x → One at x rest p → DoesHere limit to loaded line p (unrefused (f x (words rest memory input output))))
      → (operands : List Operand) → operand_words operands < level c.acts → All OperandFits operands → LandedWith at true operands p → DoesHere limit to loaded line p (unrefused (on_one f operands (words operands memory input output)))
  accessing_one {p} limit to loaded line f does operands room fits l =
      subst (DoesHere limit to loaded line p) (unrefused_one f operands (words operands memory input output)) (taking_one limit to loaded line (λ x v. unrefused (f x v)) does operands room fits l)

  pub accessing_two : {p : Watched} {at : ℕ} (limit to : ℕ) (loaded : Bool) (line : ℕ) (f : ℤ → ℤ → Words → Outcome)
      → ((x y : ℤ) (rest : List Operand) → FitsWord x → FitsWord y → Two at x y rest p → DoesHere limit to loaded line p (unrefused (f x y (words rest memory input output))))
      → (operands : List Operand) → operand_words operands < level c.acts → All OperandFits operands → LandedWith at true operands p → DoesHere limit to loaded line p (unrefused (on_two f operands (words operands memory input output)))
  accessing_two {p} limit to loaded line f does operands room fits l =
      subst (DoesHere limit to loaded line p) (unrefused_two f operands (words operands memory input output)) (taking_two limit to loaded line (λ x y v. unrefused (f x y v)) does operands room fits l)

  pub accessing_three : {p : Watched} {at : ℕ} (limit to : ℕ) (loaded : Bool) (line : ℕ) (f : ℤ → ℤ → ℤ → Words → Outcome)
      → ((x y z : ℤ) (rest : List Operand) → FitsWord x → FitsWord y → FitsWord z → Two at y z (Word x ∷ rest) p → DoesHere limit to loaded line p (unrefused (f x y z (words rest memory input output))))
      → (operands : List Operand) → operand_words operands < level c.acts → All OperandFits operands → LandedWith at true operands p
      → DoesHere limit to loaded line p (unrefused (on_one (λ z v. on_two (λ x y t. f x y z t) v.operands v) operands (words operands memory input output)))
  accessing_three {p} limit to loaded line f does operands room fits l =
      subst (DoesHere limit to loaded line p) (unrefused_three f operands (words operands memory input output)) (taking_three limit to loaded line (λ x y z v. unrefused (f x y z v)) does operands room fits l)

  -- a result in AX, and the operands below it
  pub result : {p : Watched} {at ax cx dx bx si : ℕ} {overflow : Bool} {cells stack : ℕ → ℕ} {left : List ℕ} {told : Told} (to n : ℕ) (z : ℤ) (rest : List Operand) → at ≡ to → ax ≡ unsigned z
      → StackIs c.program c.acts stack n rest → Kept c.program c.g c.acts memory input output cells stack left told
      → Is c.image at (view ax cx dx bx (2 * n) (record_of c.acts) si c.program.limits.area overflow cells stack left told) p → LandedWith to true (Word z ∷ rest) p
  result to n z rest e value under kept s = landed c.rows c.program c.image c.g c.acts true to n (Word z ∷ rest) memory input output e (value, under) kept s

  -- a stop is called, with its line behind the call
  pub calls_stop : {p : Watched} {at ax cx dx bx si : ℕ} {overflow : Bool} {cells stack : ℕ → ℕ} {left : List ℕ} {told : Told} (kind : StopKind) (n by line : ℕ) → HasLine kind → line < 65536 → n < level c.acts + 3
      → (at + 3 + by) % 65536 ≡ stop_place kind % 65536 → Kept c.program c.g c.acts memory input output cells stack left told → Has c.image at (i86.Call by) → HasWord c.image (at + 3) line
      → Is c.image at (view ax cx dx bx (2 * suc n) (record_of c.acts) si c.program.limits.area overflow cells stack left told) p
      → Leads output 13 p (Over (record { output = output; end = Stopped kind (c.g + 1) line }))
  calls_stop kind n by line has small low arrives k i word s = stop_called c.rows c.program c.image c.g c.acts kind n by line has c.library small low arrives k i word s

  -- a stop is called where the overflow flag is set
  pub guards : {p : Watched} {at ax cx dx bx si : ℕ} {overflow : Bool} {cells stack : ℕ → ℕ} {left : List ℕ} {told : Told} (kind : StopKind) (to : ℕ) (loaded : Bool) (line n by m bound : ℕ) (b : Bool) (o : Outcome) → HasLine kind → line < 65536 → n < level c.acts
      → (at + 2 + 3 + by) % 65536 ≡ stop_place kind % 65536 → overflow ≡ not b → 1 + m ≤ bound → 14 ≤ bound → Kept c.program c.g c.acts memory input output cells stack left told
      → Check c.image at by line
      → Is c.image at (view ax cx dx bx (2 * suc n) (record_of c.acts) si c.program.limits.area overflow cells stack left told) p
      → (b ≡ true → (q : Watched) → Is c.image (at + 2 + 5) (view ax cx dx bx (2 * suc n) (record_of c.acts) si c.program.limits.area overflow cells stack left told) q → DoesHere m to loaded line q o)
      → DoesHere bound to loaded line p (allowed b kind o)
  guards {p} {at} {ax} {cx} {dx} {bx} {si} {overflow} {cells} {stack} {left} {told} kind to loaded line n by m bound true o has small low arrives tests le le' k i s on =
      later c.program c.image m to c.g loaded line c.acts 1 bound o le
      (more c.rows {to = at + 2 + 5} {w = view ax cx dx bx (2 * suc n) (record_of c.acts) si c.program.limits.area overflow cells stack left told} s k.wrote (no_overflow c.rows 5 tests i.0 s) (λ q t. done t)) (λ q t. on refl q t)
  guards {p} {at} {ax} {cx} {dx} {bx} {si} {overflow} {cells} {stack} {left} {told} kind to loaded line n by m bound false o has small low arrives tests le le' k i s on =
      further 14 le' (lit< tt)
      (more c.rows {to = at + 2} {w = view ax cx dx bx (2 * suc n) (record_of c.acts) si c.program.limits.area overflow cells stack left told} s k.wrote (passes c.rows 5 tests i.0 s) (λ q t.
      calls_stop kind n by line has small (let f : n < level c.acts + 3 = omega arith in f) arrives k i.1.0 i.1.1.0 t))
