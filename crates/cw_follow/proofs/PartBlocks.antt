-- Blocks that fetch a part of a word, or store one, at a place.
use Rattle.std.proofs.Common.{sym, ◌≡◌, ℕ, suc, ◌+◌, ◌*◌, ◌%◌, ◌<◌, ◌≤◌, Bool, true, false, not, ℤ, pos, negsuc, List, [], ◌∷◌, ◌++◌, length, drop, set, Some, None, refl, ap, ◌∙◌, subst, arith, lit<}
use borrow.Author.Tests.{ltb-true}
use Rattle.std.proofs.lemmas.Bool.{false≢true}
use Rattle.std.proofs.lemmas.List.Elements.{All-head}
use Rattle.std.specs.List.{All}
use Rattle.std.specs.Prelude.{bit_and, bit_xor, nat_lt, if◌then◌else◌}
use Rattle.cw_i86.specs.declared.instr.Place.TheVariants.{Direct}
use Rattle.cw_run86.specs.Processor.{Told}
use Rattle.cw_run86.specs.Views.{put_word, with_number, word_up}
use Rattle.cw_rows86.specs.Locations.{in_memory}
use Rattle.cw_rows86.specs.Operations.{Up}
use Rattle.cw_word.specs.BitField.{field_mask}
use Rattle.cw_word.specs.FixedPoint.{FitsWord}
use Rattle.cw_word.specs.Word.{signed, unsigned}
use Rattle.cw_unit.specs.Stop.{Running}
use Rattle.cw_unit.specs.Words.{Operand, Word, Held, Words, Changed, put, with_memory, word_at, with_bits, field_value, through, is_below, number_of}
use Rattle.cw_unit.specs.Operation.{Fetch, StoreBits, perform}
use Rattle.cw_order.specs.declared.order.Order.{Order}
use Rattle.cw_order.specs.declared.order.Order.TheVariants as order
use Rattle.cw_order.specs.FittingWords.{OperandFits}
use Rattle.cw_order.specs.OrderActions.{home_word}
use Rattle.cw_order.specs.OrderChanges.{put_address}
use Rattle.cw_order.specs.OrderState.{OrderActivation, at, frame_word}
use Rattle.cw_order.specs.OrderMachine.{unrefused, weight}
use Rattle.cw_order.specs.declared.order.Place.{Place}
use Rattle.cw_order.specs.declared.order.Place.TheVariants as cell
use Rattle.cw_tmpl.specs.declared.blocks.Block.TheVariants as block
use Rattle.cw_tmpl.specs.declared.pieces.Coded.{Coded}
use Rattle.cw_tmpl.specs.declared.pieces.Coded.TheVariants as pieces
use Rattle.cw_tmpl.specs.Blocks.{address_orders, is_part, block_at}
use Rattle.cw_tmpl.specs.Mnemonics.{slot, base_slot, field, load, operate, change}
use Rattle.cw_tmpl.specs.Pieces.{Filling, blanks}
use Rattle.cw_tmpl.specs.Templates.{frame_size, shifted_up, part_taken, address_pieces, operate_place, change_place}
use Rattle.cw_tmpl.proofs.Lengths.{first_long, field_loaded, field_operated, field_changed}
use Rattle.cw_i86.specs.Encoding.{bytes_of}
use Rattle.cw_follow.proofs.Fields.{field_denotes, frame_word_at}
use Rattle.cw_follow.proofs.Watched.{Watched}
use Rattle.cw_follow.proofs.Standing.{HasPieces, HasFrom}
use Rattle.cw_follow.proofs.Chains.{Is, Leads, view}
use Rattle.cw_follow.proofs.Straight.{LoadSlot, straight}
use Rattle.cw_follow.proofs.Routines.{with_ax, leads_on, leads_then}
use Rattle.cw_follow.proofs.Stacks.{level, record_of, StackIs, base_word, base_there}
use Rattle.cw_follow.proofs.Orders.{Kept, Landed, Does, landed, kept_stored, further, fetches, LandedAt, over_landed, through_word}
use Rattle.cw_follow.proofs.Operands.{Setting, words, with_cells, LandedWith, DoesHere}
use Rattle.cw_follow.proofs.Bits.{part, part_of_word, stored_is}
use Rattle.cw_follow.proofs.Halves.{part_of}
use Rattle.cw_follow.proofs.Shifts.{shift_steps, part_steps, few_steps, few_part_steps, shifts, takes_last, turns}
use Rattle.cw_follow.proofs.FrameBlocks.{fetches_word}
use Rattle.cw_follow.proofs.States.{Given, Sound}
use Rattle.cw_follow.proofs.InBlocks.{chain}
use Rattle.cw_follow.proofs.Steps.{Follow, setting, weight_is, block_code, block_ends, start_place, order_here, last_does, FollowFrom, begins_block, begun_block, code_end}
use Rattle.cw_follow.proofs.BlockOrders.{place_puts, block_follows, modes, saved, step_in}

-- what stores a part, with its bits where they belong in AX
abbrev changed_at : (t b : ℕ) → Place → List Coded
changed_at t b x = operate_place 6 x ∷ pieces.Whole (with_number 4 (field_mask t b)) ∷ change_place 6 x ∷ []

module _ (c : Setting) (value : Filling) (memory : List ℤ) (input output : List ℕ) (all : All FitsWord memory) (long : length memory ≡ c.program.limits.area) (t b : ℕ) (some : 1 ≤ t) (room : t + b ≤ 16) where
  word_fits : (k : ℕ) → k < c.program.limits.area → FitsWord (word_at memory k)
  word_fits k lt = all k (pos 0) (omega arith)

  -- ---- fetching

  -- behind the code that fetches the word
  part_behind : (q : Watched) (middle limit to : ℕ) (is_signed : Bool) (z : ℤ) (operands : List Operand) → middle + length (blanks (part_taken t b is_signed)) ≡ to → HasPieces c.image value middle (part_taken t b is_signed)
      → DoesHere c memory input output limit middle true 0 q (unrefused (perform c.program.limits.area (Fetch None) (put z (words operands memory input output))))
      → DoesHere c memory input output (limit + 4) to true 0 q (unrefused (perform c.program.limits.area (Fetch (part t b (not is_signed))) (put z (words operands memory input output))))
  part_behind q middle limit to is_signed z operands e i d = cases (is_below z c.program.limits.area) refl d
    where
      cases : (below : Bool) → is_below z c.program.limits.area ≡ below
          → DoesHere c memory input output limit middle true 0 q (unrefused (through below (λ k v. Changed (put (word_at v.memory k) v)) z (words operands memory input output)))
          → DoesHere c memory input output (limit + 4) to true 0 q (unrefused (through below (λ k v. Changed (put (field_value (part t b (not is_signed)) (word_at v.memory k)) v)) z (words operands memory input output)))
      cases false is d = tt
      cases true is d =
          let y = word_at memory (number_of z) in
          let fy : FitsWord y = word_fits (number_of z) (inside z is) in
          let small : unsigned y < 65536 = c.rows.words.numbers.words.unsigned_fits y fy in
          let more = d.some in
          let within = d.within in
          let few = few_part_steps t b is_signed in
          record {
            spent = d.spent + part_steps t b is_signed;
            some = omega arith;
            within = omega arith;
            leads =
                leads_then d.leads (λ r l.
                leads_on
                (λ x h.
                landed c.rows c.program c.image c.g c.acts true to l.top (Word (field_value (part t b (not is_signed)) y) ∷ operands) memory input output refl
                (part_of_word c memory input output y t b is_signed fy some room, l.operands.1) l.kept h.is)
                (takes_last c.rows c.image value to output t b is_signed room small l.kept.wrote i e (with_ax l.operands.0 l.stacked.is)));
          }
        where
          inside : (z : ℤ) → is_below z c.program.limits.area ≡ true → number_of z < c.program.limits.area
          inside (pos n) is = ltb-true n c.program.limits.area is
          inside (negsuc n) is = absurd (false≢true is)

  -- ---- storing

  abbrev Stored : (to : ℕ) (k : ℕ) (z : ℤ) (rest : List Operand) → Watched → Type 0
  Stored to k z rest r = LandedWith c (set memory k (with_bits t b (word_at memory k) z)) input output to false rest r

  -- where the top operand is none of the data area, or no word, nothing is asked
  part_at : {q : Watched} {at : ℕ} (to n steps : ℕ) (operands : List Operand) → n < 65536 → 0 < steps → All OperandFits operands → LandedWith c memory input output at true operands q
      → ((k : ℕ) → k < c.program.limits.area → k ≡ n → (z : ℤ) (rest : List Operand) → FitsWord z → LandedWith c memory input output at true (Word z ∷ rest) q → Leads output steps q (Stored to k z rest))
      → DoesHere c memory input output steps to false 0 q (unrefused (perform c.program.limits.area (StoreBits t b) (put (signed n) (words operands memory input output))))
  part_at to n steps [] small more fits l each = tt
  part_at to n steps (Held d ∷ rest) small more fits l each = tt
  part_at {q} to n steps (Word z ∷ rest) small more fits l each =
      through_word c.rows.words c.program.limits.area n c.low small (λ k v. Changed (with_memory v (set v.memory k (with_bits t b (word_at v.memory k) z)))) (words rest memory input output)
      (λ o. DoesHere c memory input output steps to false 0 q (unrefused o)) tt (λ k within same.
      further steps (let le : steps ≤ steps = omega arith in le) more (each k within same z rest (All-head OperandFits (Word z) rest fits) l))

  -- the word with the bits of the part
  stored : {r : Watched} {at ax cx dx bx si : ℕ} {overflow : Bool} {cells stack : ℕ → ℕ} {left : List ℕ} {told : Told} (to k top : ℕ) (z : ℤ) (rest : List Operand) → k < c.program.limits.area → at ≡ to
      → StackIs c.program c.acts stack top rest → Kept c.program c.g c.acts memory input output cells stack left told
      → Is c.image at (view ax cx dx bx (2 * top) (record_of c.acts) si c.program.limits.area overflow (put_word cells k (bit_xor (unsigned (word_at memory k)) (bit_and (bit_xor (word_up (unsigned z) b) (unsigned (word_at memory k))) (field_mask t b)))) stack left told) r
      → Stored to k z rest r
  stored {cells = cells} to k top z rest within e under kept s =
      landed c.rows c.program c.image c.g c.acts false to top rest (set memory k (with_bits t b (word_at memory k) z)) input output e under (kept_stored k (with_bits t b (word_at memory k) z) within kept)
      (with_cells (ap (put_word cells k) (stored_is c memory input output (word_at memory k) z t b (word_fits k within) room)) s)

  -- into a word of a family
  stores_in_word : {q : Watched} {at : ℕ} (to f n word : ℕ) (operands : List Operand) → word < 65536 → ((after : ℕ) → value 2 f n after ≡ 2 * word % 65536)
      → HasPieces c.image value at (shifted_up b ++ changed_at t b (cell.Word f n)) → at + length (blanks (shifted_up b ++ changed_at t b (cell.Word f n))) ≡ to
      → All OperandFits operands → LandedWith c memory input output at true operands q
      → DoesHere c memory input output (shift_steps b + 3) to false 0 q (unrefused (perform c.program.limits.area (StoreBits t b) (put (signed word) (words operands memory input output))))
  stores_in_word {q} {at} to f n word operands small fills i e fits l =
      part_at to word (shift_steps b + 3) operands small (omega arith) fits l
      (λ k within same z rest fz l.
      let low = c.low in
      let lt : k < 32768 = omega arith in
      let offset : (after : ℕ) → value 2 f n after ≡ 2 * k = λ after. (let o = fills after in omega arith) in
      shifts c.rows c.image value to output Up b {m = 3} {Target = Stored to k z rest} (changed_at t b (cell.Word f n)) (omega arith) (c.rows.words.numbers.words.unsigned_fits z fz) l.kept.wrote (i, e) (with_ax l.operands.0 l.stacked.is)
      (λ r place a cx overflow is code s.
      let h = code.0 in
      let end = code.1 in
      let there : place + 4 + 3 + 4 ≡ to = omega arith in
      leads_on (λ x u. stored to k l.top z rest within there l.operands.1 l.kept u)
      (turns c.rows 4 k (field_mask t b) (unsigned (word_at memory k)) (in_memory (Direct (value 2 f n (place + 4)))) (in_memory (Direct (value 2 f n (place + 4 + 3 + 4)))) l.kept.wrote (l.kept.words k within)
      (λ x. (refl, refl, lt, offset (place + 4))) (λ x. (refl, refl, lt, offset (place + 4 + 3 + 4))) refl refl (lit< tt) h.0 h.1.0 h.1.1.0 (with_ax is s))))

  -- into a word of the frame of an activation
  stores_in_frame : {q : Watched} {at : ℕ} (to n : ℕ) (a : OrderActivation) (under : List OrderActivation) (operands : List Operand) → c.acts ≡ a ∷ under → a.frame_base + n < c.program.limits.area
      → HasPieces c.image value at (shifted_up b ++ (address_pieces (cell.Frame n) ++ changed_at t b (cell.Frame n))) → at + length (blanks (shifted_up b ++ (address_pieces (cell.Frame n) ++ changed_at t b (cell.Frame n)))) ≡ to
      → All OperandFits operands → LandedWith c memory input output at true operands q
      → DoesHere c memory input output (shift_steps b + 4) to false 0 q (unrefused (perform c.program.limits.area (StoreBits t b) (put (signed (a.frame_base + n)) (words operands memory input output))))
  stores_in_frame {q} {at} to n a under operands acts_are inside i e fits l =
      part_at to (a.frame_base + n) (shift_steps b + 4) operands (let area_low = c.low in omega arith) (omega arith) fits l
      (λ k within same z rest fz l.
      let low = c.low in
      let kept = l.kept in
      let twice = 2 * a.frame_base % 65536 in
      let word = frame_word_at c.program.limits.area a.frame_base n k low within same in
      shifts c.rows c.image value to output Up b {m = 4} {Target = Stored to k z rest} (address_pieces (cell.Frame n) ++ changed_at t b (cell.Frame n)) (omega arith) (c.rows.words.numbers.words.unsigned_fits z fz) kept.wrote (i, e) (with_ax l.operands.0 l.stacked.is)
      (λ q' place x cx overflow is code s.
      let h = code.0 in
      let end = code.1 in
      let d = 2 * n % 65536 in
      let size = length (bytes_of (operate 6 0 (field d))) in
      let last = pieces.Whole (change 6 (field d) 0) ∷ [] in
      let named = λ (y : ℕ). field_denotes c.image.bytes (y ∷ cx ∷ l.stacked.dx ∷ twice ∷ 2 * l.top ∷ record_of c.acts ∷ l.stacked.si ∷ c.program.limits.area ∷ []) d k word.low word.small word.there in
      let long : length (bytes_of (change 6 (field d) 0)) ≡ size = field_changed 6 0 d ∙ sym (field_operated 6 0 d) in
      let there : place + 3 + size + 3 + size ≡ to = omega (arith, end, long, first_long (operate 6 0 (field d)) (pieces.Whole (with_number 4 (field_mask t b)) ∷ last), first_long (change 6 (field d) 0) []) in
      straight c.rows (LoadSlot 3 0xFA (level c.acts + 1) twice ∷ []) {n = 3} kept.wrote (h.0, tt) (base_there c.program c.acts (ap (base_word c.program) acts_are) kept.piled.0, tt) s (λ q'' s'.
      leads_on (λ x u. stored to k l.top z rest within there l.operands.1 kept u)
      (turns c.rows size k (field_mask t b) (unsigned (word_at memory k)) (field (2 * n % 65536)) (field (2 * n % 65536)) kept.wrote (kept.words k within)
      named named refl long (let some : 0 < size = omega (arith, field_operated 6 0 d) in some) h.1.0 h.1.1.0 h.1.1.1.0 (with_ax is s')))))

-- ---- the blocks

module _ (known : Given) where
  open known use {rows, p, image, all, coded, few, low}

  module _ {q : Watched} {g place : ℕ} {loaded : Bool} {acts : List OrderActivation} {w : Words} (s : Sound p image g place loaded acts w q) where
    abbrev from_here : ℕ
    from_here = start_place known s

    abbrev words_of : Filling
    words_of = (all.stands g s.orders s.unit).value

    fetch_part_last : (x : Place) (t b : ℕ) (is_signed : Bool) (rest : List Order) → s.done ≡ length (address_orders x) → drop s.from s.orders.list ≡ address_orders x ++ order.LoadPart t b is_signed ∷ rest → is_part t b ≡ true
        → block_at 0 (drop s.from s.orders.list) ≡ block.FetchPart x t b is_signed → FollowFrom known (begun_block known s) (at g place loaded acts w Running) q
    fetch_part_last (cell.Word f n) t b is_signed rest is_done e part_is is =
        let o = order.LoadPart t b is_signed in
        let B = block.FetchPart (cell.Word f n) t b is_signed in
        let here = order_here known s 1 o _ is_done e refl in
        let ends = block_ends known s B (order.Home f n) (o ∷ rest) 1 is_done e is refl refl in
        let before = modes known s false true true (order.Home f n) 0 (o ∷ rest) is_done e refl refl refl in
        let st = all.stands g s.orders s.unit in
        let word = home_word p.addresses g f n in
        let small : word < 65536 = omega arith in
        let paid : 5 ≤ weight p (at g place loaded acts w Running) = let x = weight_is known s o here in omega arith in
        let bits = part_of t b part_is in
        let code = block_code known s B (order.Home f n) (o ∷ rest) e is in
        let v = s.before in
        let behind = ends.behind in
        let last_end : from_here + 3 + length (blanks (part_taken t b is_signed)) ≡ code_end known s = omega arith in
        last_does known s true 0 (λ v. unrefused (perform p.limits.area (Fetch (part t b (not is_signed))) v)) 5 1 _ is_done e ends.begins (step_in known s true o before.now here) paid
        (part_behind (setting known s) words_of v.memory v.input v.output s.fits_before.memory before.landed.kept.long t b bits.0 bits.1 (begun_block known s) (from_here + 3) 1 (code_end known s) is_signed (signed word) v.operands last_end code.1
        (fetches rows p image g acts (from_here + 3) (st.value 2 f n (from_here + 3)) word 0 v low small (st.fills.bytes f n (from_here + 3)) refl code.0 (over_landed (begins_block known s) before.landed)))
    fetch_part_last (cell.Frame n) t b is_signed rest is_done e part_is is =
        let o = order.LoadPart t b is_signed in
        let B = block.FetchPart (cell.Frame n) t b is_signed in
        let here = order_here known s 1 o _ is_done e refl in
        let ends = block_ends known s B (order.FrameHome n) (o ∷ rest) 1 is_done e is refl refl in
        let before = modes known s false true true (order.FrameHome n) 0 (o ∷ rest) is_done e refl refl refl in
        let paid : 6 ≤ weight p (at g place loaded acts w Running) = let x = weight_is known s o here in omega arith in
        let bits = part_of t b part_is in
        let code = block_code known s B (order.FrameHome n) (o ∷ rest) e is in
        let behind = ends.behind in
        let last_end : from_here + 3 + length (bytes_of (load 0 (field (2 * n % 65536)))) + length (blanks (part_taken t b is_signed)) ≡ code_end known s = omega (arith, behind, first_long (load 0 (field (2 * n % 65536))) (part_taken t b is_signed)) in
        last_does known s true 0 (λ v. unrefused (perform p.limits.area (Fetch (part t b (not is_signed))) v)) 6 1 _ is_done e ends.begins (step_in known s true o before.now here) paid
        (frame_part acts refl t b is_signed n bits.0 bits.1 last_end (code.0, (code.1.0, tt)) code.1.1 (over_landed (begins_block known s) before.landed))
      where
        frame_part : (xs : List OrderActivation) → acts ≡ xs → (t b : ℕ) (is_signed : Bool) (n : ℕ) → 1 ≤ t → t + b ≤ 16 → from_here + 3 + length (bytes_of (load 0 (field (2 * n % 65536)))) + length (blanks (part_taken t b is_signed)) ≡ code_end known s
            → HasFrom (begins_block known s) image from_here (load 3 (slot base_slot) ∷ load 0 (field (2 * n % 65536)) ∷ []) → HasPieces image words_of (from_here + 3 + length (bytes_of (load 0 (field (2 * n % 65536))))) (part_taken t b is_signed) → LandedAt (begins_block known s) p image from_here g false acts s.before (begun_block known s)
            → Does p image 6 (code_end known s) g true 0 acts s.before.output (begun_block known s) (chain (chain (put_address (frame_word p.limits.area xs n) s.before) Changed) (λ v. unrefused (perform p.limits.area (Fetch (part t b (not is_signed))) v)))
        frame_part [] is t b is_signed n some room e i code l = tt
        frame_part (a ∷ under) is t b is_signed n some room e i code l =
            cases (nat_lt (a.frame_base + n) p.limits.area)
            (subst (λ xs. Does p image 2 (from_here + 3 + length (bytes_of (load 0 (field (2 * n % 65536))))) g true 0 acts s.before.output (begun_block known s) (chain (chain (put_address (frame_word p.limits.area xs n) s.before) Changed) (λ v. unrefused (perform p.limits.area (Fetch None) v)))) is
            (fetches_word rows p image g (from_here + 3 + length (bytes_of (load 0 (field (2 * n % 65536))))) n acts s.before low there i l))
          where
            there : from_here + (frame_size n + 5) ≡ from_here + 3 + length (bytes_of (load 0 (field (2 * n % 65536))))
            there = omega (arith, field_loaded 0 (2 * n % 65536))

            cases : (inside : Bool)
                → Does p image 2 (from_here + 3 + length (bytes_of (load 0 (field (2 * n % 65536))))) g true 0 acts s.before.output (begun_block known s) (chain (chain (put_address (if inside then Some (a.frame_base + n) else None) s.before) Changed) (λ v. unrefused (perform p.limits.area (Fetch None) v)))
                → Does p image 6 (code_end known s) g true 0 acts s.before.output (begun_block known s) (chain (chain (put_address (if inside then Some (a.frame_base + n) else None) s.before) Changed) (λ v. unrefused (perform p.limits.area (Fetch (part t b (not is_signed))) v)))
            cases false d = tt
            cases true d =
                let v = s.before in
                part_behind (setting known s) words_of v.memory v.input v.output s.fits_before.memory l.kept.long t b some room (begun_block known s) (from_here + 3 + length (bytes_of (load 0 (field (2 * n % 65536))))) 2 (code_end known s) is_signed (signed (a.frame_base + n)) v.operands e code d

    pub fetch_part_follows : (x : Place) (t b : ℕ) (is_signed : Bool) (rest : List Order) → drop s.from s.orders.list ≡ address_orders x ++ order.LoadPart t b is_signed ∷ rest → is_part t b ≡ true
        → block_at 0 (drop s.from s.orders.list) ≡ block.FetchPart x t b is_signed → FollowFrom known (begun_block known s) (at g place loaded acts w Running) q
    fetch_part_follows x t b is_signed rest e part_is is =
        block_follows known s (block.FetchPart x t b is_signed) (order.LoadPart t b is_signed) rest (place_puts known s x) e is refl (λ is_done. fetch_part_last x t b is_signed rest is_done e part_is is)

    assign_part_last : (x : Place) (t b : ℕ) (rest : List Order) → s.done ≡ suc (length (address_orders x)) → drop s.from s.orders.list ≡ order.Save ∷ (address_orders x ++ order.StorePart t b ∷ rest) → is_part t b ≡ true
        → block_at 0 (drop s.from s.orders.list) ≡ block.AssignPart x t b → Follow known (at g place loaded acts w Running) q
    assign_part_last (cell.Word f n) t b rest is_done e part_is is =
        let o = order.StorePart t b in
        let os = order.Home f n ∷ o ∷ rest in
        let B = block.AssignPart (cell.Word f n) t b in
        let here = order_here known s 2 o _ is_done e refl in
        let ends = block_ends known s B order.Save os 2 is_done e is refl refl in
        let before = saved known s true 1 os is_done e refl in
        let st = all.stands g s.orders s.unit in
        let word = home_word p.addresses g f n in
        let small : word < 65536 = omega arith in
        let few = few_steps b in
        let paid : shift_steps b + 3 ≤ weight p (at g place loaded acts w Running) = let x = weight_is known s o here in omega arith in
        let bits = part_of t b part_is in
        let v = s.before in
        last_does known s false 0 (λ v. unrefused (perform p.limits.area (StoreBits t b) v)) (shift_steps b + 3) 2 _ is_done e ends.begins (step_in known s true o before.now here) paid
        (stores_in_word (setting known s) words_of v.memory v.input v.output s.fits_before.memory before.landed.kept.long t b bits.0 bits.1 (code_end known s) f n word v.operands small (λ after. st.fills.bytes f n after)
        (block_code known s B order.Save os e is) ends.behind s.fits_before.operands before.landed)
    assign_part_last (cell.Frame n) t b rest is_done e part_is is =
        let o = order.StorePart t b in
        let os = order.FrameHome n ∷ o ∷ rest in
        let B = block.AssignPart (cell.Frame n) t b in
        let here = order_here known s 2 o _ is_done e refl in
        let ends = block_ends known s B order.Save os 2 is_done e is refl refl in
        let before = saved known s true 1 os is_done e refl in
        let few = few_steps b in
        let paid : shift_steps b + 4 ≤ weight p (at g place loaded acts w Running) = let x = weight_is known s o here in omega arith in
        let bits = part_of t b part_is in
        last_does known s false 0 (λ v. unrefused (perform p.limits.area (StoreBits t b) v)) (shift_steps b + 4) 2 _ is_done e ends.begins (step_in known s true o before.now here) paid
        (frame_part acts refl t b n bits.0 bits.1 ends.behind (block_code known s B order.Save os e is) before.landed)
      where
        frame_part : (xs : List OrderActivation) → acts ≡ xs → (t b n : ℕ) → 1 ≤ t → t + b ≤ 16
            → from_here + length (blanks (shifted_up b ++ (address_pieces (cell.Frame n) ++ changed_at t b (cell.Frame n)))) ≡ code_end known s → HasPieces image words_of from_here (shifted_up b ++ (address_pieces (cell.Frame n) ++ changed_at t b (cell.Frame n)))
            → Landed p image from_here g true acts s.before q
            → Does p image (shift_steps b + 4) (code_end known s) g false 0 acts s.before.output q (chain (chain (put_address (frame_word p.limits.area xs n) s.before) Changed) (λ v. unrefused (perform p.limits.area (StoreBits t b) v)))
        frame_part [] is t b n some room e code l = tt
        frame_part (a ∷ under) is t b n some room e code l = cases (nat_lt (a.frame_base + n) p.limits.area) refl
          where
            cases : (inside : Bool) → nat_lt (a.frame_base + n) p.limits.area ≡ inside
                → Does p image (shift_steps b + 4) (code_end known s) g false 0 acts s.before.output q (chain (chain (put_address (if inside then Some (a.frame_base + n) else None) s.before) Changed) (λ v. unrefused (perform p.limits.area (StoreBits t b) v)))
            cases false is_out = tt
            cases true is_in =
                let v = s.before in
                stores_in_frame (setting known s) words_of v.memory v.input v.output s.fits_before.memory l.kept.long t b some room (code_end known s) n a under v.operands is (ltb-true (a.frame_base + n) p.limits.area is_in) code e s.fits_before.operands l

    pub assign_part_follows : (x : Place) (t b : ℕ) (rest : List Order) → drop s.from s.orders.list ≡ order.Save ∷ (address_orders x ++ order.StorePart t b ∷ rest) → is_part t b ≡ true
        → block_at 0 (drop s.from s.orders.list) ≡ block.AssignPart x t b → Follow known (at g place loaded acts w Running) q
    assign_part_follows x t b rest e part_is is =
        block_follows known s (block.AssignPart x t b) (order.StorePart t b) rest (tt, place_puts known s x) e is refl (λ is_done. assign_part_last x t b rest is_done e part_is is)
