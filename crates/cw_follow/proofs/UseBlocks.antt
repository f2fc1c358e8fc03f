-- Blocks that save the top operand, put a simple one and use both.
use Rattle.std.proofs.Common.{◌≡◌, ℕ, suc, ◌+◌, ◌*◌, ◌%◌, ◌<◌, ◌≤◌, Bool, true, false, not, ℤ, pos, ◌+ℤ◌, ◌-ℤ◌, ◌*ℤ◌, List, [], ◌∷◌, ◌++◌, length, drop, None, Some, refl, sym, ap, ap₂, ◌∙◌, subst, arith, lit<, lit≤}
use Rattle.std.specs.Prelude.{nat_lt, if◌then◌else◌}
use borrow.Author.Tests.{ltb-true}
use Rattle.std.specs.List.{All}
use Rattle.std.proofs.lemmas.List.Elements.{All-head}
use Rattle.cw_i86.specs.declared.instr.Instr.TheVariants as i86
use Rattle.cw_i86.specs.declared.instr.Imm.TheVariants as imm
use Rattle.cw_i86.specs.declared.instr.Rm.TheVariants as rms
use Rattle.cw_i86.specs.declared.instr.Place.TheVariants as places
use Rattle.cw_run86.specs.Views.{product_low, product_overflows}
use Rattle.cw_rows86.specs.Operations.{Add, Or, And, Subtract, Xor, Compare, number_of, WordOperation}
use Rattle.cw_word.specs.FixedPoint.{FitsWord, fits_word, scaled_product}
use Rattle.cw_word.specs.Word.{signed, unsigned}
use Rattle.cw_unit.specs.declared.unit.LogicOp.{LogicOp}
use Rattle.cw_unit.specs.declared.unit.LogicOp.TheVariants as logic
use Rattle.cw_unit.specs.Stop.{Running}
use Rattle.cw_unit.specs.Words.{Operand, Word, Held, Words, Outcome, Changed, Impossible, put, put_value, word_at, on_one, logic_word}
use Rattle.cw_unit.specs.Operation.{Fetch, Combine, Multiply, perform, holds}
use Rattle.cw_unit.specs.Operation as operation
use Rattle.cw_order.specs.declared.order.Comparator.{Comparator}
use Rattle.cw_order.specs.declared.order.Order.{Order}
use Rattle.cw_order.specs.declared.order.Order.TheVariants as order
use Rattle.cw_order.specs.FittingWords.{OperandFits}
use Rattle.cw_order.specs.OrderChanges.{put_address, Way, way_of_two, to_mark_if, comparison}
use Rattle.cw_order.specs.OrderLines.{line_of}
use Rattle.cw_order.specs.OrderActions.{home_word}
use Rattle.cw_order.specs.OrderState.{OrderActivation, at, operand_words, frame_word}
use Rattle.cw_order.specs.OrderMachine.{unrefused, after, carry_with, weight}
use Rattle.cw_order.specs.OrderCosts.{weight_of}
use Rattle.cw_order.specs.Loading.{loaded_after}
use Rattle.cw_order.specs.declared.order.Place.TheVariants as cell
use Rattle.cw_tmpl.specs.declared.blocks.Simple.{Simple}
use Rattle.cw_tmpl.specs.declared.blocks.Simple.TheVariants as simple
use Rattle.cw_tmpl.specs.declared.blocks.Use.{Use}
use Rattle.cw_tmpl.specs.declared.blocks.Use.TheVariants as uses
use Rattle.cw_tmpl.specs.declared.blocks.Block.TheVariants as block
use Rattle.cw_tmpl.specs.Blocks.{operand_orders, order_of, block_at}
use Rattle.cw_tmpl.specs.Mnemonics.{ax, bx, cx, slot, base_slot, field, load, move}
use Rattle.cw_tmpl.specs.Names.{no_names, call_place}
use Rattle.cw_tmpl.specs.Templates.{frame_size, with_operand, product_with, checked_by, pieces_size, operated, block_size, is_close, branch_by}
use Rattle.cw_tmpl.specs.ShortForms.{check_of, is_short}
use Rattle.cw_tmpl.specs.ReferenceCode.{names_of, mark_starts, reach_of}
use Rattle.cw_i86.specs.Encoding.{bytes_of}
use Rattle.cw_follow.proofs.Fields.{field_denotes, frame_word_at}
use Rattle.cw_follow.specs.Placing.{base_of}
use Rattle.cw_tmpl.proofs.Lengths.{field_loaded, field_operated}
use Rattle.cw_tmpl.proofs.Sizes.{frame_used_long, own_place, size_by}
use Rattle.cw_tmpl.proofs.Endings.{checked_long}
use Rattle.cw_follow.proofs.Standing.{HasPieces, Has, HasAll}
use Rattle.cw_follow.proofs.Watched.{Watched}
use Rattle.cw_follow.proofs.Chains.{Is, Leads, view, done, more, load_at, move as moved_to}
use Rattle.cw_follow.proofs.Straight.{Number, Move, Product, LoadSlot, LoadWord, straight}
use Rattle.cw_follow.proofs.Stacks.{level, record_of, top_is, base_word, base_there}
use Rattle.cw_follow.proofs.Orders.{Landed, Does, Chooses, Checked, later, sooner, through_word}
use Rattle.cw_follow.proofs.Operands.{Setting, words, DoesHere, unrefused_one}
use Rattle.cw_follow.proofs.Operating.{Named, number_named, word_named, sum_of, difference_of, instruction_of, combination_of, comparison_of, product_of}
use Rattle.cw_follow.proofs.Addresses.{product_overflows_is, product_is}
use Rattle.cw_follow.proofs.Scales.{turned_overflows, turned_is}
use Rattle.cw_follow.proofs.Indexed.{element_steps, few_element}
use Rattle.cw_follow.proofs.States.{Given, Sound}
use Rattle.cw_follow.proofs.InBlocks.{chain}
use Rattle.cw_follow.proofs.Steps.{Follow, setting, weight_is, line_fits, block_code, block_ends, start_place, order_here, last_does, start, last_chooses, way_after, reaches_mark, code_end}
use Rattle.cw_follow.proofs.CheckedBlocks.{checked_block}
use Rattle.cw_follow.proofs.OperandCode.{named_at, named_size, naming, offset_at, operand_code, alone_code, named_end, OneOperation, tested_size, operand_long, compare_size, compared_size}
use Rattle.cw_follow.proofs.BlockOrders.{WithoutAddress, room_in, operand_puts, block_follows, saved, step_in, number_small}
use Rattle.cw_follow.proofs.Branches.{branch_size, goes_by, branch_code, jump_word, branch_arrives, branch_stands}

-- ---- outcomes

-- what an order does with the two operands, a comparison apart
abbrev pub outcome : (area : ℕ) → Use → Words → Outcome
outcome area (uses.Add line) v = perform area operation.Add v
outcome area (uses.Subtract line) v = perform area operation.Subtract v
outcome area (uses.Multiply line) v = perform area (Multiply (pos 0)) v
outcome area uses.Mask v = unrefused (perform area (Combine logic.Mask) v)
outcome area uses.Union v = unrefused (perform area (Combine logic.Union) v)
outcome area uses.Differ v = unrefused (perform area (Combine logic.Differ) v)
outcome area (uses.Compare c m) v = Impossible

-- all but a comparison
abbrev pub Computes : Use → Type 0
Computes (uses.Compare c m) = ⊥
Computes u = Unit {0}

-- how many instructions come before the operation
abbrev pub steps_to : Simple → ℕ
steps_to (simple.Contents (cell.Frame n)) = 1
steps_to (simple.Element e) = element_steps e e.test
steps_to s = 0

pub few_steps : (s : Simple) → steps_to s ≤ 7
few_steps (simple.Number x) = lit≤ tt
few_steps (simple.Contents (cell.Word f n)) = lit≤ tt
few_steps (simple.Contents (cell.Frame n)) = lit≤ tt
few_steps (simple.Element e) = few_element e e.test

pub top_fits : (operands : List Operand) → All OperandFits operands → (x : ℤ) (rest : List Operand) → operands ≡ Word x ∷ rest → FitsWord x
top_fits operands fits x rest e = All-head OperandFits (Word x) rest (subst (All OperandFits) e fits)

-- ---- what is done with an operand that the code names

module _ (c : Setting) (memory : List ℤ) (input output : List ℕ) where
  -- with the top operand in AX the code comes to the instruction that names y
  abbrev pub NamedFrom : (from offset : ℕ) → Simple → (y : ℤ) → List Operand → Watched → Type 0
  NamedFrom from w s y operands p = (x : ℤ) (rest : List Operand) → operands ≡ Word x ∷ rest → Leads output (steps_to s) p (Named c memory input output (named_at s from) (named_size s) (naming w s) x y rest)

  -- where the operation stands, and where its code ends
  module _ {p : Watched} (at : ℕ) (s : Simple) (to w : ℕ) (y : ℤ) (operands : List Operand) (fy : FitsWord y) (fits : All OperandFits operands) (named : NamedFrom at w s y operands p) where
    -- a word below y and y, once the code comes to the instruction
    on_both : (limit bound line : ℕ) (f : ℤ → Words → Outcome) → 7 + limit ≤ bound
        → ((x : ℤ) (rest : List Operand) → FitsWord x → (q : Watched) → Named c memory input output (named_at s at) (named_size s) (naming w s) x y rest q → DoesHere c memory input output limit to true line q (f x (words rest memory input output)))
        → DoesHere c memory input output bound to true line p (on_one f operands (words operands memory input output))
    on_both limit bound line f le does = cases operands refl
      where
        cases : (xs : List Operand) → operands ≡ xs → DoesHere c memory input output bound to true line p (on_one f xs (words xs memory input output))
        cases [] is = tt
        cases (Held d ∷ rest) is = tt
        cases (Word x ∷ rest) is =
            let few = few_steps s in
            later c.program c.image limit to c.g true line c.acts (steps_to s) bound (f x (words rest memory input output)) (omega arith) (named x rest is) (does x rest (top_fits operands fits x rest is))

    -- an operation and its test
    module _ (line : ℕ) (small : line < 65536) (i : Checked c.image (named_at s at + named_size s) to line) where
      add_used : Has c.image (named_at s at) (naming w s Add) → DoesHere c memory input output 22 to true line p (perform c.program.limits.area operation.Add (put y (words operands memory input output)))
      add_used h = on_both 15 22 line (λ x v. put_value (x +ℤ y) v) (lit≤ tt) (λ x rest fx q r. sum_of c memory input output to line x y rest fx fy small h i r)

      subtract_used : Has c.image (named_at s at) (naming w s Subtract) → DoesHere c memory input output 22 to true line p (perform c.program.limits.area operation.Subtract (put y (words operands memory input output)))
      subtract_used h = on_both 15 22 line (λ x v. put_value (x -ℤ y) v) (lit≤ tt) (λ x rest fx q r. difference_of c memory input output to line x y rest fx fy small h i r)

    -- bits
    combine_used : (op : LogicOp) → named_at s at + named_size s ≡ to → Has c.image (named_at s at) (naming w s (instruction_of op))
        → DoesHere c memory input output 8 to true 0 p (unrefused (perform c.program.limits.area (Combine op) (put y (words operands memory input output))))
    combine_used op e h =
        let f : ℤ → Words → Outcome = λ x v. Changed (put (signed (logic_word op (unsigned x) (unsigned y))) v) in
        subst (DoesHere c memory input output 8 to true 0 p) (unrefused_one f operands (words operands memory input output))
        (on_both 1 8 0 f (lit≤ tt) (λ x rest fx q r. combination_of c memory input output op to x y rest fx fy e h r))

    -- a comparison
    compare_used : (short : Bool) (by : ℕ) (start : ℕ → ℕ) (k : Comparator) (m : ℕ) → named_at s at + named_size s + branch_size short ≡ to → (named_at s at + named_size s + branch_size short + goes_by short by) % 65536 ≡ start m % 65536 → Has c.image (named_at s at) (naming w s Compare)
        → HasAll c.image (named_at s at + named_size s) (branch_code short k by)
        → Chooses c.program c.image 10 to start c.g false 0 c.acts output p (way_of_two (λ x y v. to_mark_if (holds (comparison k) x y) m v) (put y (words operands memory input output)))
    compare_used short by start k m e arrives h i = cases operands refl
      where
        cases : (xs : List Operand) → operands ≡ xs → Chooses c.program c.image 10 to start c.g false 0 c.acts output p (way_of_two (λ x y v. to_mark_if (holds (comparison k) x y) m v) (put y (words xs memory input output)))
        cases [] is = tt
        cases (Held d ∷ rest) is = tt
        cases (Word x ∷ rest) is =
            let few = few_steps s in
            sooner c.program c.image 3 to start c.g false 0 c.acts (steps_to s) 10 (to_mark_if (holds (comparison k) x y) m (words rest memory input output)) (omega arith) (named x rest is)
            (λ q r. comparison_of c memory input output short to by start k m x y rest (top_fits operands fits x rest is) fy e arrives h i r)

-- ---- what each operand is

module _ (c : Setting) (memory : List ℤ) (input output : List ℕ) where
  -- a word of an operand on top leaves room above it
  some_room : {p : Watched} {at : ℕ} (x : ℤ) (rest : List Operand) → (l : Landed c.program c.image at c.g true c.acts (words (Word x ∷ rest) memory input output) p) → operand_words (Word x ∷ rest) < level c.acts → 0 < l.top
  some_room x rest l room = let t = top_is c.program c.acts l.stack l.top rest l.operands.1 in omega arith

  module _ {p : Watched} {at : ℕ} (operands : List Operand) (room : operand_words operands < level c.acts) (l : Landed c.program c.image at c.g true c.acts (words operands memory input output) p) where
    number_from : (n : ℕ) → n < 65536 → NamedFrom c memory input output at 0 (simple.Number n) (signed n) operands p
    number_from n small x rest is =
        let l' = subst (λ xs. Landed c.program c.image at c.g true c.acts (words xs memory input output) p) is l in
        done (number_named c memory input output n (signed n) x rest (sym (c.rows.words.numbers.words.forth n small)) l' (some_room x rest l' (subst (λ xs. operand_words xs < level c.acts) is room)))

    word_from : (f n offset k : ℕ) → k < c.program.limits.area → offset ≡ 2 * k → NamedFrom c memory input output at offset (simple.Contents (cell.Word f n)) (word_at memory k) operands p
    word_from f n offset k within e x rest is =
        let l' = subst (λ xs. Landed c.program c.image at c.g true c.acts (words xs memory input output) p) is l in
        let s = l'.stacked in
        let low = c.low in
        done
        (word_named c memory input output 4 k (rms.Mem (record { cs = false; place = places.Direct offset })) (word_at memory k) x rest l'.operands.0 (l'.kept.words k within)
        (refl, refl, (let z : k < 32768 = omega arith in z), e) (λ op. refl) (lit< tt) (some_room x rest l' (subst (λ xs. operand_words xs < level c.acts) is room)) l'.operands.1 l'.kept s.is)

    -- of the frame of an activation
    frame_from : (a : OrderActivation) (under : List OrderActivation) (n k : ℕ) → c.acts ≡ a ∷ under → k < c.program.limits.area → k ≡ a.frame_base + n → HasAll c.image at (load bx (slot base_slot) ∷ [])
        → NamedFrom c memory input output at 0 (simple.Contents (cell.Frame n)) (word_at memory k) operands p
    frame_from a under n k acts_are within same i x rest is =
        let l' = subst (λ xs. Landed c.program c.image at c.g true c.acts (words xs memory input output) p) is l in
        let s = l'.stacked in
        let kept = l'.kept in
        let twice = 2 * a.frame_base % 65536 in
        let d = frame_word_at c.program.limits.area a.frame_base n k c.low within same in
        straight c.rows (LoadSlot bx 0xFA (level c.acts + 1) twice ∷ []) {n = 0} kept.wrote i (base_there c.program c.acts (ap (base_word c.program) acts_are) kept.piled.0, tt) s.is
        (λ q t.
        done
        (word_named c memory input output (frame_size n + 2) k (field (2 * n % 65536)) (word_at memory k) x rest l'.operands.0 (kept.words k within) (field_denotes c.image.bytes (s.ax ∷ s.cx ∷ s.dx ∷ twice ∷ 2 * l'.top ∷ record_of c.acts ∷ s.si ∷ c.program.limits.area ∷ []) (2 * n % 65536) k d.low d.small d.there)
        (λ op. field_operated (number_of op) ax (2 * n % 65536)) (let some : 0 < frame_size n + 2 = omega arith in some)
        (some_room x rest l' (subst (λ xs. operand_words xs < level c.acts) is room)) l'.operands.1 kept t))

-- ---- products

module _ (c : Setting) (memory : List ℤ) (input output : List ℕ) {p : Watched} {at : ℕ} (x : ℤ) (rest : List Operand) (fx : FitsWord x) (room : operand_words (Word x ∷ rest) < level c.acts)
    (l : Landed c.program c.image at c.g true c.acts (words (Word x ∷ rest) memory input output) p) (to line : ℕ) (small : line < 65536) where
  abbrev Multiplied : (test : ℕ) → ℤ → Type 0
  Multiplied test y = Checked c.image test to line → DoesHere c memory input output 24 to true line p (put_value (scaled_product x y (pos 0)) (words rest memory input output))

  -- AX times a number
  number_multiplies : (n : ℕ) → n < 65536 → HasAll c.image at (i86.MovImm bx (imm.Word n) ∷ i86.Unary 5 true (rms.Reg bx) ∷ []) → Multiplied (at + 3 + 2) (signed n)
  number_multiplies n lt h i =
      let s = l.stacked in
      let y : ℤ = signed n in
      let fy : FitsWord y = c.rows.words.signed_fits n lt in
      let en : n ≡ unsigned y = sym (c.rows.words.numbers.words.forth n lt) in
      let tests : product_overflows s.ax n ≡ not (fits_word (x *ℤ y)) = ap₂ product_overflows l.operands.0 en ∙ product_overflows_is c.rows x y fx fy in
      let low : FitsWord (x *ℤ y) → product_low s.ax n ≡ unsigned (x *ℤ y) = λ f. ap₂ product_low l.operands.0 en ∙ product_is c.rows x y fx fy f in
      later c.program c.image 14 to c.g true line c.acts 2 24 (put_value (scaled_product x y (pos 0)) (words rest memory input output)) (lit≤ tt)
      (straight c.rows (Number bx n ∷ Product bx ∷ []) l.kept.wrote h (tt, (tt, tt)) s.is (λ q t. done t))
      (λ q t. product_of c memory input output to line s.ax n x y rest fx fy small (some_room c memory input output x rest l room) tests low i l.operands.1 l.kept t)

  -- times a word of the data area that comes to AX, with what AX had in CX
  pub other_multiplies : {q : Watched} {test dx' bx' si' : ℕ} {overflow' : Bool} (y : ℤ) → FitsWord y
      → Is c.image test (view (unsigned y) (unsigned x) dx' bx' (2 * l.top) (record_of c.acts) si' c.program.limits.area overflow' l.cells l.stack l.input l.told) q
      → Has c.image test (i86.Unary 5 true (rms.Reg cx)) → Checked c.image (test + 2) to line
      → DoesHere c memory input output 15 to true line q (put_value (scaled_product x y (pos 0)) (words rest memory input output))
  other_multiplies {q} {test} y fy t h i =
      later c.program c.image 14 to c.g true line c.acts 1 15 (put_value (scaled_product x y (pos 0)) (words rest memory input output)) (lit≤ tt)
      (straight c.rows (Product cx ∷ []) l.kept.wrote (h, tt) (tt, tt) t (λ q t. done t))
      (λ q t. product_of c memory input output to line (unsigned y) (unsigned x) x y rest fx fy small (some_room c memory input output x rest l room) (turned_overflows c memory input output x y fx fy) (turned_is c memory input output x y fx fy) i l.operands.1 l.kept t)

  word_multiplies : (offset k : ℕ) → k < c.program.limits.area → offset ≡ 2 * k → FitsWord (word_at memory k) → HasAll c.image at (move cx ax ∷ i86.MovAcc false true false offset ∷ i86.Unary 5 true (rms.Reg cx) ∷ []) → Multiplied (at + 2 + 3 + 2) (word_at memory k)
  word_multiplies offset k within eo fy h i =
      let s = l.stacked in
      let low = c.low in
      let k_low : k < 32768 = omega arith in
      later c.program c.image 15 to c.g true line c.acts 2 24 (put_value (scaled_product x (word_at memory k) (pos 0)) (words rest memory input output)) (lit≤ tt)
      (more c.rows {to = at + 2} {w = view s.ax s.ax s.dx s.bx (2 * l.top) (record_of c.acts) s.si c.program.limits.area s.overflow l.cells l.stack l.input l.told} s.is l.kept.wrote (moved_to c.rows cx ax h.0 s.is) (λ q t.
      more c.rows {to = at + 2 + 3} {w = view (l.cells k) s.ax s.dx s.bx (2 * l.top) (record_of c.acts) s.si c.program.limits.area s.overflow l.cells l.stack l.input l.told} t l.kept.wrote (load_at c.rows offset k k_low eo h.1.0 t) (λ q t. done t)))
      (λ q t.
      other_multiplies (word_at memory k) fy
      (subst (λ n. Is c.image (at + 2 + 3) (view n (unsigned x) s.dx s.bx (2 * l.top) (record_of c.acts) s.si c.program.limits.area s.overflow l.cells l.stack l.input l.told) q) (l.kept.words k within)
      (subst (λ n. Is c.image (at + 2 + 3) (view (l.cells k) n s.dx s.bx (2 * l.top) (record_of c.acts) s.si c.program.limits.area s.overflow l.cells l.stack l.input l.told) q) l.operands.0 t))
      h.1.1.0 i)

  frame_multiplies : (a : OrderActivation) (under : List OrderActivation) (n k : ℕ) → c.acts ≡ a ∷ under → k < c.program.limits.area → k ≡ a.frame_base + n → FitsWord (word_at memory k)
      → HasAll c.image at (move cx ax ∷ load bx (slot base_slot) ∷ load ax (field (2 * n % 65536)) ∷ i86.Unary 5 true (rms.Reg cx) ∷ []) → Multiplied (at + 2 + 3 + length (bytes_of (load ax (field (2 * n % 65536)))) + 2) (word_at memory k)
  frame_multiplies a under n k acts_are within same fy h i =
      let s = l.stacked in
      let kept = l.kept in
      let twice = 2 * a.frame_base % 65536 in
      let d = frame_word_at c.program.limits.area a.frame_base n k c.low within same in
      later c.program c.image 15 to c.g true line c.acts 3 24 (put_value (scaled_product x (word_at memory k) (pos 0)) (words rest memory input output)) (lit≤ tt)
      (straight c.rows (Move cx ax ∷ LoadSlot bx 0xFA (level c.acts + 1) twice ∷ LoadWord ax (2 * n % 65536) k (unsigned (word_at memory k)) ∷ []) {n = 0} kept.wrote (h.0, (h.1.0, (h.1.1.0, tt)))
      (tt, (base_there c.program c.acts (ap (base_word c.program) acts_are) kept.piled.0, ((d.low, d.small, d.there, kept.words k within), tt))) s.is (λ q t. done t))
      (λ q t.
      other_multiplies (word_at memory k) fy
      (subst (λ m. Is c.image (at + 2 + 3 + length (bytes_of (load ax (field (2 * n % 65536))))) (view (unsigned (word_at memory k)) m s.dx twice (2 * l.top) (record_of c.acts) s.si c.program.limits.area s.overflow l.cells l.stack l.input l.told) q) l.operands.0 t)
      h.1.1.1.0 i)

-- ---- the blocks

module _ (known : Given) where
  open known use {rows, p, image, all, coded, few, low}

  module _ {q : Watched} {g place : ℕ} {loaded : Bool} {acts : List OrderActivation} {w : Words} (s : Sound p image g place loaded acts w q) where
    abbrev pub here_at : ℕ
    here_at = start_place known s

    pub memory_word : (k : ℕ) → k < p.limits.area → FitsWord (word_at s.before.memory k)
    memory_word k lt = let long = s.landed.kept.long in s.fits_before.memory k (pos 0) (omega arith)

    -- the word of an address, and what is done with it
    fetched_does : (a limit line : ℕ) (f : Words → Outcome) → a < 65536
        → ((k : ℕ) → k < p.limits.area → k ≡ a → Does p image limit (code_end known s) g true line acts s.before.output q (f (put (word_at s.before.memory k) s.before)))
        → Does p image limit (code_end known s) g true line acts s.before.output q (chain (chain (unrefused (perform p.limits.area (Fetch None) (put (signed a) s.before))) Changed) f)
    fetched_does a limit line f small each =
        through_word rows.words p.limits.area a low small (λ k v. Changed (put (word_at v.memory k) v)) s.before (λ o. Does p image limit (code_end known s) g true line acts s.before.output q (chain (chain (unrefused o) Changed) f)) tt each

    fetched_chooses : (a limit : ℕ) (f : Words → Way) → a < 65536
        → ((k : ℕ) → k < p.limits.area → k ≡ a → Chooses p image limit (code_end known s) (start known s) g false 0 acts s.before.output q (f (put (word_at s.before.memory k) s.before)))
        → Chooses p image limit (code_end known s) (start known s) g false 0 acts s.before.output q (way_after (chain (unrefused (perform p.limits.area (Fetch None) (put (signed a) s.before))) Changed) f)
    fetched_chooses a limit f small each =
        through_word rows.words p.limits.area a low small (λ k v. Changed (put (word_at v.memory k) v)) s.before (λ o. Chooses p image limit (code_end known s) (start known s) g false 0 acts s.before.output q (way_after (chain (unrefused o) Changed) f)) tt each

    -- ---- one order with two operands, the upper one from the code

    -- how many instructions it takes at most
    abbrev pub bound : Use → ℕ
    bound (uses.Add line) = 22
    bound (uses.Subtract line) = 22
    bound (uses.Multiply line) = 24
    bound u = 8

    -- that of a block whose last order has such an outcome
    abbrev pub Ended : Use → Outcome → Type 0
    Ended u o = Does p image (bound u) (code_end known s) g true (line_of (order_of u)) acts s.before.output q o

    pub step_goes : (u : Use) → Computes u → carry_with p (loaded_after (order_of u) true) (order_of u) g place loaded acts w ≡ after p.room (line_of (order_of u)) (outcome p.limits.area u w) g place true acts w
    step_goes (uses.Add line) h = refl
    step_goes (uses.Subtract line) h = refl
    step_goes (uses.Multiply line) h = refl
    step_goes uses.Mask h = refl
    step_goes uses.Union h = refl
    step_goes uses.Differ h = refl
    step_goes (uses.Compare c m) h = absurd h

    pub costs : (u : Use) → bound u ≤ weight_of (order_of u)
    costs (uses.Add line) = lit≤ tt
    costs _ = lit≤ tt

    -- the code of a block from its operand on
    abbrev pub Code : Simple → Use → Type 0
    Code o u = HasPieces image (all.stands g s.orders s.unit).value here_at (operated (names_of s.orders) (own_place s.orders s.from) s.from (is_short (reach_of s.orders) s.from (block.Operate o u) order.Save) o u)

    abbrev pub NamedHere : Simple → ℤ → Type 0
    NamedHere o y = NamedFrom (setting known s) s.before.memory s.before.input s.before.output here_at (offset_at (all.stands g s.orders s.unit).value o here_at) o y s.before.operands q

    -- behind so many bytes of the block stands its check, in one of its forms
    abbrev pub Checks : Simple → Use → Type 0
    Checks o u =
        (line n at to : ℕ) (short : Bool) → check_of (block.Operate o u) order.Save ≡ Some line → is_short (reach_of s.orders) s.from (block.Operate o u) order.Save ≡ short → n + (if short then 2 else 7) ≡ block_size short (block.Operate o u) order.Save
        → at ≡ here_at + n → here_at + block_size short (block.Operate o u) order.Save ≡ to
        → HasPieces image (all.stands g s.orders s.unit).value at (checked_by short line (own_place s.orders s.from + n) (call_place (names_of s.orders) s.from)) → Checked image at to line

    abbrev short_use : Simple → Use → Bool
    short_use o u = is_short (reach_of s.orders) s.from (block.Operate o u) order.Save

    -- that of a product
    pub product_checked : (o : Simple) (line at : ℕ) → Checks o (uses.Multiply line) → here_at + size_by (is_short (reach_of s.orders)) s.from (block.Operate o (uses.Multiply line)) order.Save ≡ code_end known s → at ≡ here_at + pieces_size (product_with o)
        → HasPieces image (all.stands g s.orders s.unit).value at (checked_by (short_use o (uses.Multiply line)) line (own_place s.orders s.from + pieces_size (product_with o)) (call_place (names_of s.orders) s.from)) → Checked image at (code_end known s) line
    product_checked o line test checks ends place h =
        checks line (pieces_size (product_with o)) test (code_end known s) (short_use o (uses.Multiply line)) refl refl (sym (checked_long (short_use o (uses.Multiply line)) (product_with o) line (0 + pieces_size (product_with o)) (call_place no_names 0))) place ends h

    -- the product with an operand
    abbrev pub Multiplies : Simple → ℤ → Type 0
    Multiplies o y =
        (line : ℕ) → line < 65536 → Code o (uses.Multiply line) → Checks o (uses.Multiply line) → here_at + size_by (is_short (reach_of s.orders)) s.from (block.Operate o (uses.Multiply line)) order.Save ≡ code_end known s
        → Does p image 24 (code_end known s) g true line acts s.before.output q (perform p.limits.area (Multiply (pos 0)) (put y s.before))

    -- the instruction of an operation, and the check behind it
    operation_code : (o : Simple) (u : Use) (op : WordOperation) (line : ℕ) → check_of (block.Operate o u) order.Save ≡ Some line
        → ((short : Bool) → pieces_size (with_operand (number_of op) o) + (if short then 2 else 7) ≡ block_size short (block.Operate o u) order.Save)
        → here_at + size_by (is_short (reach_of s.orders)) s.from (block.Operate o u) order.Save ≡ code_end known s
        → HasPieces image (all.stands g s.orders s.unit).value here_at (with_operand (number_of op) o ++ checked_by (short_use o u) line (own_place s.orders s.from + pieces_size (with_operand (number_of op) o)) (call_place (names_of s.orders) s.from))
        → Checks o u → Has image (named_at o here_at) (naming (offset_at (all.stands g s.orders s.unit).value o here_at) o op) × Checked image (named_at o here_at + named_size o) (code_end known s) line
    operation_code o u op line checks_line sized ends i checks =
        let n = pieces_size (with_operand (number_of op) o) in
        let k = operand_code image (all.stands g s.orders s.unit).value here_at o op (checked_by (short_use o u) line (own_place s.orders s.from + n) (call_place (names_of s.orders) s.from)) i in
        let long = operand_long op o in
        let place = named_end o here_at in
        (k.1, checks line n (named_at o here_at + named_size o) (code_end known s) (short_use o u) checks_line refl (sized (short_use o u)) (omega arith) ends k.2)

    pub used_law : (o : Simple) (u : Use) (y : ℤ) → Computes u → FitsWord y → line_of (order_of u) < 65536 → here_at + size_by (is_short (reach_of s.orders)) s.from (block.Operate o u) order.Save ≡ code_end known s → Code o u → Checks o u → (OneOperation u → NamedHere o y) → Multiplies o y
        → Ended u (outcome p.limits.area u (put y s.before))
    used_law o (uses.Add line) y h fy small ends i checks named product =
        let v = s.before in
        let k = operation_code o (uses.Add line) Add line refl (λ short. sym (checked_long short (with_operand 0 o) line (0 + pieces_size (with_operand 0 o)) (call_place no_names 0))) ends i checks in
        add_used (setting known s) v.memory v.input v.output here_at o (code_end known s) _ y v.operands fy s.fits_before.operands (named tt) line small k.1 k.0
    used_law o (uses.Subtract line) y h fy small ends i checks named product =
        let v = s.before in
        let k = operation_code o (uses.Subtract line) Subtract line refl (λ short. sym (checked_long short (with_operand 5 o) line (0 + pieces_size (with_operand 5 o)) (call_place no_names 0))) ends i checks in
        subtract_used (setting known s) v.memory v.input v.output here_at o (code_end known s) _ y v.operands fy s.fits_before.operands (named tt) line small k.1 k.0
    used_law o (uses.Multiply line) y h fy small ends i checks named product = product line small i checks ends
    used_law o uses.Mask y h fy small ends i checks named product =
        let k = operand_code image (all.stands g s.orders s.unit).value here_at o And [] (alone_code image (all.stands g s.orders s.unit).value here_at o 4 i) in
        let v = s.before in
        combine_used (setting known s) v.memory v.input v.output here_at o (code_end known s) _ y v.operands fy s.fits_before.operands (named tt) logic.Mask (omega (arith, ends, tested_size o uses.Mask tt, named_end o here_at)) k.1
    used_law o uses.Union y h fy small ends i checks named product =
        let k = operand_code image (all.stands g s.orders s.unit).value here_at o Or [] (alone_code image (all.stands g s.orders s.unit).value here_at o 1 i) in
        let v = s.before in
        combine_used (setting known s) v.memory v.input v.output here_at o (code_end known s) _ y v.operands fy s.fits_before.operands (named tt) logic.Union (omega (arith, ends, tested_size o uses.Union tt, named_end o here_at)) k.1
    used_law o uses.Differ y h fy small ends i checks named product =
        let k = operand_code image (all.stands g s.orders s.unit).value here_at o Xor [] (alone_code image (all.stands g s.orders s.unit).value here_at o 6 i) in
        let v = s.before in
        combine_used (setting known s) v.memory v.input v.output here_at o (code_end known s) _ y v.operands fy s.fits_before.operands (named tt) logic.Differ (omega (arith, ends, tested_size o uses.Differ tt, named_end o here_at)) k.1
    used_law o (uses.Compare c m) y h fy small ends i checks named product = absurd h

    -- ---- products

    -- where there is no word below the operand, nothing is asked
    on_word : (limit line : ℕ) (y : ℤ) → ((x : ℤ) (rest : List Operand) → FitsWord x → operand_words (Word x ∷ rest) < level acts → Landed p image here_at g true acts (words (Word x ∷ rest) s.before.memory s.before.input s.before.output) q
        → Does p image limit (code_end known s) g true line acts s.before.output q (put_value (scaled_product x y (pos 0)) (words rest s.before.memory s.before.input s.before.output)))
        → (operands : List Operand) → operand_words operands < level acts → All OperandFits operands → Landed p image here_at g true acts (words operands s.before.memory s.before.input s.before.output) q
        → Does p image limit (code_end known s) g true line acts s.before.output q (perform p.limits.area (Multiply (pos 0)) (put y (words operands s.before.memory s.before.input s.before.output)))
    on_word limit line y does [] room fits l = tt
    on_word limit line y does (Held d ∷ rest) room fits l = tt
    on_word limit line y does (Word x ∷ rest) room fits l = does x rest (All-head OperandFits (Word x) rest fits) room l

    number_product : (n : ℕ) → n < 65536 → Landed p image here_at g true acts s.before q → Multiplies (simple.Number n) (signed n)
    number_product n lt l line small i checks ends =
        let v = s.before in
        let check = product_checked (simple.Number n) line (here_at + 3 + 2) checks ends (omega arith) i.1.1 in
        on_word 24 line (signed n)
        (λ x rest fx room t. number_multiplies (setting known s) v.memory v.input v.output x rest fx room t (code_end known s) line small n lt (i.0, (i.1.0, tt)) check)
        v.operands (room_in known s) s.fits_before.operands l

    word_product : (f n k : ℕ) → k < p.limits.area → (all.stands g s.orders s.unit).value 2 f n (here_at + 2 + 3) ≡ 2 * k → Landed p image here_at g true acts s.before q
        → Multiplies (simple.Contents (cell.Word f n)) (word_at s.before.memory k)
    word_product f n k within e l line small i checks ends =
        let v = s.before in
        let offset = (all.stands g s.orders s.unit).value 2 f n (here_at + 2 + 3) in
        let check = product_checked (simple.Contents (cell.Word f n)) line (here_at + 2 + 3 + 2) checks ends (omega arith) i.1.1.1 in
        on_word 24 line (word_at v.memory k)
        (λ x rest fx room t.
        word_multiplies (setting known s) v.memory v.input v.output x rest fx room t (code_end known s) line small offset k within e (memory_word k within) (i.0, (i.1.0, (i.1.1.0, tt))) check)
        v.operands (room_in known s) s.fits_before.operands l

    frame_product : (a : OrderActivation) (under : List OrderActivation) (n k : ℕ) → acts ≡ a ∷ under → k < p.limits.area → k ≡ a.frame_base + n → Landed p image here_at g true acts s.before q
        → Multiplies (simple.Contents (cell.Frame n)) (word_at s.before.memory k)
    frame_product a under n k acts_are within same l line small i checks ends =
        let v = s.before in
        let o = simple.Contents (cell.Frame n) in
        let test = here_at + 2 + 3 + length (bytes_of (load ax (field (2 * n % 65536)))) + 2 in
        let whole = checked_long false (product_with o) line (0 + pieces_size (product_with o)) (call_place no_names 0) in
        let there : test ≡ here_at + pieces_size (product_with o) = omega (arith, whole, frame_used_long n (uses.Multiply line), field_loaded ax (2 * n % 65536)) in
        let check = product_checked o line test checks ends there i.1.1.1.1 in
        on_word 24 line (word_at v.memory k)
        (λ x rest fx room t.
        frame_multiplies (setting known s) v.memory v.input v.output x rest fx room t (code_end known s) line small a under n k acts_are within same (memory_word k within) (i.0, (i.1.0, (i.1.1.0, (i.1.1.1.0, tt)))) check)
        v.operands (room_in known s) s.fits_before.operands l

    -- ---- the last order

    -- an operation with a number, with a word of the data area and with one of the frame
    number_does : (n : ℕ) (u : Use) → Computes u → n < 65536 → line_of (order_of u) < 65536 → here_at + size_by (is_short (reach_of s.orders)) s.from (block.Operate (simple.Number n) u) order.Save ≡ code_end known s → Code (simple.Number n) u → Checks (simple.Number n) u → Landed p image here_at g true acts s.before q
        → Ended u (outcome p.limits.area u (put (signed n) s.before))
    number_does n u h lt small ends i checks l =
        let v = s.before in
        used_law (simple.Number n) u (signed n) h (rows.words.signed_fits n lt) small ends i checks (λ one. number_from (setting known s) v.memory v.input v.output v.operands (room_in known s) l n lt) (number_product n lt l)

    word_does : (f n : ℕ) (u : Use) → Computes u → line_of (order_of u) < 65536 → here_at + size_by (is_short (reach_of s.orders)) s.from (block.Operate (simple.Contents (cell.Word f n)) u) order.Save ≡ code_end known s → Code (simple.Contents (cell.Word f n)) u → Checks (simple.Contents (cell.Word f n)) u
        → Landed p image here_at g true acts s.before q
        → Ended u (chain (chain (unrefused (perform p.limits.area (Fetch None) (put (signed (home_word p.addresses g f n)) s.before))) Changed) (outcome p.limits.area u))
    word_does f n u h small ends i checks l =
        let v = s.before in
        let st = all.stands g s.orders s.unit in
        let word = home_word p.addresses g f n in
        let first = st.fills.bytes f n (here_at + 4) in
        let second = st.fills.bytes f n (here_at + 2 + 3) in
        fetched_does word (bound u) (line_of (order_of u)) (outcome p.limits.area u) (omega arith)
        (λ k within same.
        used_law (simple.Contents (cell.Word f n)) u (word_at v.memory k) h (memory_word k within) small ends i checks
        (λ one. word_from (setting known s) v.memory v.input v.output v.operands (room_in known s) l f n (st.value 2 f n (here_at + 4)) k within (omega arith))
        (word_product f n k within (omega arith) l))

    addressed : (n : ℕ) (u : Use) → OneOperation u → Code (simple.Contents (cell.Frame n)) u → HasAll image here_at (load bx (slot base_slot) ∷ [])
    addressed n (uses.Add line) h i = (i.0, tt)
    addressed n (uses.Subtract line) h i = (i.0, tt)
    addressed n (uses.Multiply line) h i = absurd h
    addressed n _ h i = (i.0, tt)

    -- what the orders of a word of the frame do
    abbrev fetched_frame : ℕ → Outcome
    fetched_frame n = chain (put_address (frame_word p.limits.area acts n) s.before) (λ v. chain (unrefused (perform p.limits.area (Fetch None) v)) Changed)

    frame_does : (n : ℕ) (u : Use) → Computes u → line_of (order_of u) < 65536 → here_at + size_by (is_short (reach_of s.orders)) s.from (block.Operate (simple.Contents (cell.Frame n)) u) order.Save ≡ code_end known s → Code (simple.Contents (cell.Frame n)) u → Checks (simple.Contents (cell.Frame n)) u
        → Landed p image here_at g true acts s.before q → Ended u (chain (fetched_frame n) (outcome p.limits.area u))
    frame_does n u h small ends i checks l = cases acts refl
      where
        cases : (xs : List OrderActivation) → acts ≡ xs → Ended u (chain (chain (put_address (frame_word p.limits.area xs n) s.before) (λ v. chain (unrefused (perform p.limits.area (Fetch None) v)) Changed)) (outcome p.limits.area u))
        cases [] is = tt
        cases (a ∷ under) is = by_place (nat_lt (a.frame_base + n) p.limits.area) refl
          where
            by_place : (inside : Bool) → nat_lt (a.frame_base + n) p.limits.area ≡ inside
                → Ended u (chain (chain (put_address (if inside then Some (a.frame_base + n) else None) s.before) (λ v. chain (unrefused (perform p.limits.area (Fetch None) v)) Changed)) (outcome p.limits.area u))
            by_place false is_out = tt
            by_place true is_in =
                let v = s.before in
                let inside = ltb-true (a.frame_base + n) p.limits.area is_in in
                fetched_does (a.frame_base + n) (bound u) (line_of (order_of u)) (outcome p.limits.area u) (omega arith)
                (λ k within same.
                used_law (simple.Contents (cell.Frame n)) u (word_at v.memory k) h (memory_word k within) small ends i checks
                (λ one. frame_from (setting known s) v.memory v.input v.output v.operands (room_in known s) l a under n k is within same (addressed n u one i))
                (frame_product a under n k is within same l))

    computes_last : (o : Simple) (u : Use) (rest : List Order) → WithoutAddress o → Computes u → s.done ≡ suc (length (operand_orders o)) → drop s.from s.orders.list ≡ order.Save ∷ (operand_orders o ++ order_of u ∷ rest)
        → block_at 0 (drop s.from s.orders.list) ≡ block.Operate o u → Follow known (at g place loaded acts w Running) q
    computes_last (simple.Element x) u rest without h is_done e is = absurd without
    computes_last (simple.Number n) u rest without h is_done e is =
        let os = order.Const n ∷ order_of u ∷ rest in
        let here = order_here known s 2 (order_of u) _ is_done e refl in
        let ends = block_ends known s (block.Operate (simple.Number n) u) order.Save os 2 is_done e is refl refl in
        let before = saved known s true 1 os is_done e refl in
        let cost = costs u in
        let paid : bound u ≤ weight p (at g place loaded acts w Running) = let y = weight_is known s (order_of u) here in omega arith in
        last_does known s true (line_of (order_of u)) (outcome p.limits.area u) (bound u) 2 _ is_done e ends.begins (step_in known s true (order_of u) before.now here ∙ step_goes u h) paid
        (number_does n u h (number_small known s n (order_of u ∷ rest) e) (line_fits known s (order_of u) here) ends.behind (block_code known s (block.Operate (simple.Number n) u) order.Save os e is)
        (λ line before test to short checks form size there over i. checked_block known s (block.Operate (simple.Number n) u) order.Save os line before test to short e is checks form size there over i) before.landed)
    computes_last (simple.Contents (cell.Word f n)) u rest without h is_done e is =
        let os = order.Home f n ∷ order.Load ∷ order_of u ∷ rest in
        let here = order_here known s 3 (order_of u) _ is_done e refl in
        let ends = block_ends known s (block.Operate (simple.Contents (cell.Word f n)) u) order.Save os 3 is_done e is refl refl in
        let before = saved known s true 2 os is_done e refl in
        let cost = costs u in
        let paid : bound u ≤ weight p (at g place loaded acts w Running) = let y = weight_is known s (order_of u) here in omega arith in
        last_does known s true (line_of (order_of u)) (outcome p.limits.area u) (bound u) 3 _ is_done e ends.begins (step_in known s true (order_of u) before.now here ∙ step_goes u h) paid
        (word_does f n u h (line_fits known s (order_of u) here) ends.behind (block_code known s (block.Operate (simple.Contents (cell.Word f n)) u) order.Save os e is)
        (λ line before test to short checks form size there over i. checked_block known s (block.Operate (simple.Contents (cell.Word f n)) u) order.Save os line before test to short e is checks form size there over i) before.landed)
    computes_last (simple.Contents (cell.Frame n)) u rest without h is_done e is =
        let os = order.FrameHome n ∷ order.Load ∷ order_of u ∷ rest in
        let here = order_here known s 3 (order_of u) _ is_done e refl in
        let ends = block_ends known s (block.Operate (simple.Contents (cell.Frame n)) u) order.Save os 3 is_done e is refl refl in
        let before = saved known s true 2 os is_done e refl in
        let cost = costs u in
        let paid : bound u ≤ weight p (at g place loaded acts w Running) = let y = weight_is known s (order_of u) here in omega arith in
        last_does known s true (line_of (order_of u)) (outcome p.limits.area u) (bound u) 3 _ is_done e ends.begins (step_in known s true (order_of u) before.now here ∙ step_goes u h) paid
        (frame_does n u h (line_fits known s (order_of u) here) ends.behind (block_code known s (block.Operate (simple.Contents (cell.Frame n)) u) order.Save os e is)
        (λ line before test to short checks form size there over i. checked_block known s (block.Operate (simple.Contents (cell.Frame n)) u) order.Save os line before test to short e is checks form size there over i) before.landed)

    -- ---- comparisons

    abbrev pub Chosen : Way → Type 0
    Chosen way = Chooses p image 10 (code_end known s) (start known s) g false 0 acts s.before.output q way

    abbrev pub way_of : Comparator → ℕ → Words → Way
    way_of c m v = way_of_two (λ x y t. to_mark_if (holds (comparison c) x y) m t) v

    -- whether the jump behind a comparison is short, and then that it reaches its mark
    abbrev pub short_on : Simple → Comparator → ℕ → Bool
    short_on o c m = is_short (reach_of s.orders) s.from (block.Operate o (uses.Compare c m)) order.Save

    abbrev pub Reaches : Simple → Comparator → ℕ → Type 0
    Reaches o c m = short_on o c m ≡ true → is_close (own_place s.orders s.from + block_size true (block.Operate o (uses.Compare c m)) order.Save) (mark_starts s.orders m) ≡ true

    pub compares_with : (o : Simple) (c : Comparator) (m : ℕ) (y : ℤ) → FitsWord y → here_at + block_size (short_on o c m) (block.Operate o (uses.Compare c m)) order.Save ≡ code_end known s → Code o (uses.Compare c m) → Reaches o c m → NamedHere o y
        → Chosen (way_of c m (put y s.before))
    compares_with o c m y fy ends i reached named = cases (short_on o c m) ends i reached
      where
        own : ℕ
        own = own_place s.orders s.from

        behind : ℕ
        behind = own + pieces_size (with_operand 7 o)

        to : ℕ
        to = mark_starts s.orders m

        cases : (short : Bool) → here_at + block_size short (block.Operate o (uses.Compare c m)) order.Save ≡ code_end known s
            → HasPieces image (all.stands g s.orders s.unit).value here_at (with_operand 7 o ++ branch_by short c behind to)
            → (short ≡ true → is_close (own + block_size true (block.Operate o (uses.Compare c m)) order.Save) to ≡ true) → Chosen (way_of c m (put y s.before))
        cases short ends i reached =
            let v = s.before in
            let k = operand_code image (all.stands g s.orders s.unit).value here_at o Compare (branch_by short c behind to) i in
            let size = compare_size o in
            let sized = compared_size short o c m in
            let close : short ≡ true → is_close (behind + 2) to ≡ true = λ is. ap (λ n. is_close n to) (let e : behind + 2 ≡ own + block_size true (block.Operate o (uses.Compare c m)) order.Save = omega (arith, compared_size true o c m, size) in e) ∙ reached is in
            let there = branch_arrives (base_of p g) own (pieces_size (with_operand 7 o)) to short close in
            compare_used (setting known s) v.memory v.input v.output here_at o (code_end known s) _ y v.operands fy s.fits_before.operands named short (jump_word short (behind + branch_size short) to) (start known s) c m
            (omega (arith, ends, sized, named_end o here_at)) (omega (arith, named_end o here_at, size, there)) k.1 (branch_stands image (all.stands g s.orders s.unit).value _ short c behind to k.2)

    number_chooses : (n : ℕ) (c : Comparator) (m : ℕ) → n < 65536 → here_at + block_size (short_on (simple.Number n) c m) (block.Operate (simple.Number n) (uses.Compare c m)) order.Save ≡ code_end known s → Code (simple.Number n) (uses.Compare c m) → Reaches (simple.Number n) c m → Landed p image here_at g true acts s.before q
        → Chosen (way_of c m (put (signed n) s.before))
    number_chooses n c m lt ends i reached l =
        let v = s.before in
        compares_with (simple.Number n) c m (signed n) (rows.words.signed_fits n lt) ends i reached (number_from (setting known s) v.memory v.input v.output v.operands (room_in known s) l n lt)

    frame_chooses : (n : ℕ) (c : Comparator) (m : ℕ) → here_at + block_size (short_on (simple.Contents (cell.Frame n)) c m) (block.Operate (simple.Contents (cell.Frame n)) (uses.Compare c m)) order.Save ≡ code_end known s → Code (simple.Contents (cell.Frame n)) (uses.Compare c m) → Reaches (simple.Contents (cell.Frame n)) c m
        → Landed p image here_at g true acts s.before q → Chosen (way_after (fetched_frame n) (way_of c m))
    frame_chooses n c m ends i reached l = cases acts refl
      where
        cases : (xs : List OrderActivation) → acts ≡ xs → Chosen (way_after (chain (put_address (frame_word p.limits.area xs n) s.before) (λ v. chain (unrefused (perform p.limits.area (Fetch None) v)) Changed)) (way_of c m))
        cases [] is = tt
        cases (a ∷ under) is = by_place (nat_lt (a.frame_base + n) p.limits.area) refl
          where
            by_place : (inside : Bool) → nat_lt (a.frame_base + n) p.limits.area ≡ inside
                → Chosen (way_after (chain (put_address (if inside then Some (a.frame_base + n) else None) s.before) (λ v. chain (unrefused (perform p.limits.area (Fetch None) v)) Changed)) (way_of c m))
            by_place false is_out = tt
            by_place true is_in =
                let v = s.before in
                let inside = ltb-true (a.frame_base + n) p.limits.area is_in in
                fetched_chooses (a.frame_base + n) 10 (way_of c m) (omega arith)
                (λ k within same.
                compares_with (simple.Contents (cell.Frame n)) c m (word_at v.memory k) (memory_word k within) ends i reached
                (frame_from (setting known s) v.memory v.input v.output v.operands (room_in known s) l a under n k is within same (addressed n (uses.Compare c m) tt i)))

    compares_last : (o : Simple) (c : Comparator) (m : ℕ) (rest : List Order) → WithoutAddress o → s.done ≡ suc (length (operand_orders o)) → drop s.from s.orders.list ≡ order.Save ∷ (operand_orders o ++ order.JumpIf c m ∷ rest)
        → block_at 0 (drop s.from s.orders.list) ≡ block.Operate o (uses.Compare c m) → Follow known (at g place loaded acts w Running) q
    compares_last (simple.Element x) c m rest without is_done e is = absurd without
    compares_last (simple.Number n) c m rest without is_done e is =
        let os = order.Const n ∷ order.JumpIf c m ∷ rest in
        let b = block.Operate (simple.Number n) (uses.Compare c m) in
        let here = order_here known s 2 (order.JumpIf c m) _ is_done e refl in
        let ends = block_ends known s b order.Save os 2 is_done e is refl refl in
        let before = saved known s true 1 os is_done e refl in
        let paid : 10 ≤ weight p (at g place loaded acts w Running) = let y = weight_is known s (order.JumpIf c m) here in omega arith in
        last_chooses known s false 0 (way_of c m) 10 2 _ is_done e ends.begins (step_in known s true (order.JumpIf c m) before.now here) paid
        (number_chooses n c m (number_small known s n (order.JumpIf c m ∷ rest) e) ends.behind (block_code known s b order.Save os e is) (reaches_mark known s b order.Save os m e is refl) before.landed)
    compares_last (simple.Contents (cell.Word f n)) c m rest without is_done e is =
        let os = order.Home f n ∷ order.Load ∷ order.JumpIf c m ∷ rest in
        let o = simple.Contents (cell.Word f n) in
        let b = block.Operate o (uses.Compare c m) in
        let here = order_here known s 3 (order.JumpIf c m) _ is_done e refl in
        let ends = block_ends known s b order.Save os 3 is_done e is refl refl in
        let before = saved known s true 2 os is_done e refl in
        let v = s.before in
        let st = all.stands g s.orders s.unit in
        let word = home_word p.addresses g f n in
        let offset = st.fills.bytes f n (here_at + 4) in
        let paid : 10 ≤ weight p (at g place loaded acts w Running) = let y = weight_is known s (order.JumpIf c m) here in omega arith in
        last_chooses known s false 0 (way_of c m) 10 3 _ is_done e ends.begins (step_in known s true (order.JumpIf c m) before.now here) paid
        (fetched_chooses word 10 (way_of c m) (omega arith)
        (λ k within same.
        compares_with o c m (word_at v.memory k) (memory_word k within) ends.behind (block_code known s b order.Save os e is) (reaches_mark known s b order.Save os m e is refl)
        (word_from (setting known s) v.memory v.input v.output v.operands (room_in known s) before.landed f n (st.value 2 f n (here_at + 4)) k within (omega arith))))
    compares_last (simple.Contents (cell.Frame n)) c m rest without is_done e is =
        let os = order.FrameHome n ∷ order.Load ∷ order.JumpIf c m ∷ rest in
        let o = simple.Contents (cell.Frame n) in
        let b = block.Operate o (uses.Compare c m) in
        let here = order_here known s 3 (order.JumpIf c m) _ is_done e refl in
        let ends = block_ends known s b order.Save os 3 is_done e is refl refl in
        let before = saved known s true 2 os is_done e refl in
        let paid : 10 ≤ weight p (at g place loaded acts w Running) = let y = weight_is known s (order.JumpIf c m) here in omega arith in
        last_chooses known s false 0 (way_of c m) 10 3 _ is_done e ends.begins (step_in known s true (order.JumpIf c m) before.now here) paid
        (frame_chooses n c m ends.behind (block_code known s b order.Save os e is) (reaches_mark known s b order.Save os m e is refl) before.landed)

    -- the orders of a block that uses a simple operand whose address is not formed
    pub operand_follows : (o : Simple) → WithoutAddress o → (u : Use) (rest : List Order) → drop s.from s.orders.list ≡ order.Save ∷ (operand_orders o ++ order_of u ∷ rest) → block_at 0 (drop s.from s.orders.list) ≡ block.Operate o u
        → Follow known (at g place loaded acts w Running) q
    operand_follows o without (uses.Compare c m) rest e is =
        block_follows known s (block.Operate o (uses.Compare c m)) (order.JumpIf c m) rest (tt, operand_puts known s o without) e is refl (λ is_done. compares_last o c m rest without is_done e is)
    operand_follows o without u rest e is = block_follows known s (block.Operate o u) (order_of u) rest (tt, operand_puts known s o without) e is refl (λ is_done. computes_last o u rest without tt is_done e is)
