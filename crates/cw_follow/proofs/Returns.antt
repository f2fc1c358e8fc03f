-- What the code of an activation's own orders does: the way back, the words of its frame, and its arguments.
use Rattle.std.proofs.Common.{length, ◌≡◌, ℕ, ◌+◌, ◌*◌, ◌/◌, ◌%◌, ◌^◌, ◌<◌, ◌≤◌, Bool, true, false, ℤ, List, [], ◌∷◌, ◌++◌, set, Option, Some, None, refl, sym, ap, ◌∙◌, subst, arith, lit<, lit≤}
use Rattle.std.specs.Prelude.{slice_get, nat_lt, if◌then◌else◌}
use borrow.Author.Tests.{ltb-true}
use Rattle.cw_i86.specs.declared.instr.Instr.TheVariants as i86
use Rattle.cw_i86.specs.declared.instr.Rm.TheVariants as rms
use Rattle.cw_run86.specs.Processor.{Told}
use Rattle.cw_run86.specs.Views.{with_number, word_sum}
use Rattle.cw_rows86.specs.Locations.{InRegister}
use Rattle.cw_rows86.specs.Operations.{Down}
use Rattle.cw_rows86.specs.Acts.{Shift}
use Rattle.cw_word.specs.Word.{unsigned}
use Rattle.cw_unit.specs.Words.{Operand, Word, Held, Words, Changed, Impossible, put, with_memory}
use Rattle.cw_order.specs.OrderProgram.{OrderProgram}
use Rattle.cw_order.specs.OrderState.{OrderActivation, operand_words, argument_behind, frame_word}
use Rattle.cw_order.specs.OrderChanges.{bind}
use Rattle.cw_order.specs.OrderMachine.{unrefused}
use Rattle.cw_tmpl.specs.Mnemonics.{cx, load, store, slot, base_slot, argument, field, shift_down_once}
use Rattle.cw_tmpl.proofs.Lengths.{field_stored, argument_loaded}
use Rattle.cw_tmpl.proofs.Sizes.{own_place}
use Rattle.cw_routines.specs.Ways.{QuietAll}
use Rattle.cw_routines.specs.Results.{Quiet, leave}
use Rattle.cw_tmpl.specs.Templates.{frame_size, argument_load_size}
use Rattle.cw_i86.specs.Encoding.{bytes_of}
use Rattle.cw_follow.proofs.Fields.{frame_word_at}
use Rattle.cw_follow.proofs.Watched.{Watched}
use Rattle.cw_follow.proofs.Rows.{Rows}
use Rattle.cw_follow.proofs.Acting.{act}
use Rattle.cw_follow.proofs.Chains.{Is, Leads, view, seen, to_place, store_at, more, last, done}
use Rattle.cw_follow.proofs.Straight.{LoadArgument, LoadSlot, StoreField, SumNumber, straight, straight_from}
use Rattle.cw_follow.proofs.Routines.{quiet_in, quiet_all, there_all, flags_of, arrives, returned, lifted, leads_on}
use Rattle.cw_follow.proofs.Stacks.{start_small, level, record_of, code_place, StackIs, top_is, behind_arguments, argument_words, base_there}
use Rattle.cw_follow.proofs.Orders.{Kept, kept_stored, Landed, landed, Leading, Does, further, LandedAt, through_number}
use Rattle.cw_follow.proofs.Standing.{HasAll, Image, HasFrom}

module _ (rows : Rows) (prog : OrderProgram) (image : Image) where
  -- ---- the way back

  module _ (g : ℕ) (a : OrderActivation) (acts : List OrderActivation) (n : ℕ) (memory : List ℤ) (input output : List ℕ) where
    operands_back : {cells stack : ℕ → ℕ} {left : List ℕ} {told : Told} → operand_words a.arguments ≡ n → Kept prog g (a ∷ acts) memory input output cells stack left told
        → StackIs prog acts stack (level (a ∷ acts) + 6 + n) a.operands
    operands_back {stack = stack} words k = subst (λ m. StackIs prog acts stack (level (a ∷ acts) + 6 + m) a.operands) words (behind_arguments prog acts stack (level (a ∷ acts) + 6) a.arguments a.operands k.piled.1.0.operands)

    -- the record and the arguments are dropped
    drops : {q : Watched} {at ax cx dx bx sp si : ℕ} {overflow : Bool} {cells stack : ℕ → ℕ} {left : List ℕ} {told : Told} (to : ℕ) → operand_words a.arguments ≡ n
        → code_place prog a.segment a.place ≡ to % 65536
        → Kept prog g (a ∷ acts) memory input output cells stack left told → HasAll image at (leave n)
        → Is image at (view ax cx dx bx sp (record_of (a ∷ acts)) si prog.limits.area overflow cells stack left told) q
        → Leads output 3 q (Is image to (view ax cx dx bx (2 * (level (a ∷ acts) + 6 + n)) (record_of acts) si prog.limits.area (flags_of q).of cells stack left told))
    drops {q} {at} {ax} {cx} {dx} {bx} {sp} {si} {overflow} {cells} {stack} {left} {told} to words e k i s =
        let r = level (a ∷ acts) in
        let area = prog.limits.area in
        let c = k.piled.1.0 in
        let t = top_is prog acts stack (r + 6) (a.arguments ++ a.operands) c.operands in
        let t' = top_is prog acts stack (r + 6 + n) a.operands (operands_back words k) in
        let place = code_place prog a.segment a.place in
        let low : r + 4 + 1 < 32768 = omega arith in
        let record_at : record_of (a ∷ acts) ≡ 2 * (r + 4) = omega arith in
        let back : stack (r + 4 + 1) ≡ place = (let f : r + 4 + 1 ≡ r + 5 = omega arith in ap stack f) ∙ c.back in
        let end : 2 * (r + 4 + 2 + n) % 65536 ≡ 2 * (r + 6 + n) = omega arith in
        let small = start_small prog a.segment (slice_get prog.units a.segment) (λ o. own_place o a.place) in
        let there : place % 65536 ≡ to % 65536 = omega arith in
        let start = seen refl (ap (λ b. view ax cx dx bx sp b si area overflow cells stack left told) record_at) s in
        let quiet : QuietAll (Quiet (quiet_in q.places)) at (leave n) = quiet_all s.ignores at (leave n) i in
        subst (λ o. Leads o 3 q (Is image to (view ax cx dx bx (2 * (r + 6 + n)) (record_of acts) si area (flags_of q).of cells stack left told))) k.wrote
        (lifted rows s.overlooks s.silent
        (rows.routines.leaving (quiet_in q.places) image.bytes at n quiet (there_all image at (leave n) i) (r + 4) (record_of acts) place ax cx dx bx sp si area (flags_of q) cells stack left told q.processor low c.caller back small (arrives start))
        (λ u z. seen refl (ap (λ m. view ax cx dx bx m (record_of acts) si area (flags_of q).of cells stack left told) end) (to_place there (returned q s.ignores z))))

    kept_back : {cells stack : ℕ → ℕ} {left : List ℕ} {told : Told} → Kept prog g (a ∷ acts) memory input output cells stack left told
        → Kept prog a.segment acts memory input output cells stack left told
    kept_back k = record { words = k.words; long = k.long; piled = (k.piled.1.1, k.piled.1.2); read = k.read; wrote = k.wrote; kind = k.kind }

    -- back in the caller, without an answer
    pub returns : {q : Watched} {at : ℕ} (to : ℕ) (operands : List Operand) → operand_words a.arguments ≡ n → code_place prog a.segment a.place ≡ to % 65536
        → HasAll image at (leave n)
        → Landed prog image at g false (a ∷ acts) (record { operands = operands; memory = memory; input = input; output = output }) q
        → Leading output 3 q (Landed prog image to a.segment false acts (record { operands = a.operands; memory = memory; input = input; output = output }))
    returns to operands words e i l =
        further 3 (lit≤ tt) (lit< tt)
        (leads_on (λ r t. landed rows prog image a.segment acts false to (level (a ∷ acts) + 6 + n) a.operands memory input output refl (operands_back words l.kept) (kept_back l.kept) t)
        (drops to words e l.kept i l.stacked.is))

    -- with an answer, which stays in AX
    pub answers : {q : Watched} {at : ℕ} (to : ℕ) (z : ℤ) (rest : List Operand) → operand_words a.arguments ≡ n → code_place prog a.segment a.place ≡ to % 65536
        → HasAll image at (leave n)
        → Landed prog image at g true (a ∷ acts) (record { operands = Word z ∷ rest; memory = memory; input = input; output = output }) q
        → Leading output 3 q (Landed prog image to a.segment true acts (record { operands = Word z ∷ a.operands; memory = memory; input = input; output = output }))
    answers to z rest words e i l =
        further 3 (lit≤ tt) (lit< tt)
        (leads_on (λ r t. landed rows prog image a.segment acts true to (level (a ∷ acts) + 6 + n) (Word z ∷ a.operands) memory input output refl (l.operands.0, operands_back words l.kept) (kept_back l.kept) t)
        (drops to words e l.kept i l.stacked.is))

  -- ---- the words of the frame

  pub frame_homes : {q : Watched} {first : Bool} {at : ℕ} (g to n : ℕ) (a : OrderActivation) (acts : List OrderActivation) (z : ℤ) (w : Words) → prog.limits.area ≤ 32768 → a.frame_base + n < prog.limits.area → at + 8 ≡ to → a.frame_base + n ≡ unsigned z
      → HasFrom first image at (i86.Mov true true 0 (slot base_slot) ∷ shift_down_once 0 ∷ with_number 0 n ∷ []) → LandedAt first prog image at g false (a ∷ acts) w q
      → Leading w.output 3 q (Landed prog image to g true (a ∷ acts) (put z w))
  frame_homes {q} {first} {at} g to n a acts z w low_area inside e value i l =
      let s = l.stacked in
      let k = l.kept in
      let twice = 2 * a.frame_base % 65536 in
      let small : twice < 65536 = omega arith in
      let sum : word_sum (twice / 2 ^ 1) n ≡ unsigned z = omega (arith, value) in
      let end : at + 3 + 2 + 3 ≡ to = omega arith in
      further 3 (lit≤ tt) (lit< tt)
      (straight_from rows (LoadSlot 0 0xFA (level (a ∷ acts) + 1) twice) [] {n = 2} k.wrote (i.0, tt) (base_there prog (a ∷ acts) refl k.piled.0, tt) s.is (λ q u.
      more rows u k.wrote (act rows (Shift Down false (rms.Reg 0) (InRegister 0) twice) (lit< tt) i.1.0 ((refl, tt, refl), small) u).is (λ q u.
      straight rows (SumNumber n ∷ []) {n = 0} k.wrote (i.1.1.0, tt) (tt, tt) u (λ q u.
      done (landed rows prog image g (a ∷ acts) true to l.top (Word z ∷ w.operands) w.memory w.input w.output end (sum, l.operands) k u)))))

  -- ---- arguments

  -- where BP leads to an argument of the activation at work
  argument_there : {g : ℕ} {memory : List ℤ} {input output : List ℕ} {cells stack : ℕ → ℕ} {left : List ℕ} {told : Told} (a : OrderActivation) (acts : List OrderActivation) (k : ℕ) (z : ℤ)
      → Kept prog g (a ∷ acts) memory input output cells stack left told → argument_behind k a.arguments ≡ Some (Word z)
      → (level (a ∷ acts) + 6 + k < 32768) × ((record_of (a ∷ acts) + (4 + 2 * k)) % 65536 ≡ 2 * (level (a ∷ acts) + 6 + k)) × (stack (level (a ∷ acts) + 6 + k) ≡ unsigned z)
  argument_there {stack = stack} a acts k z c is =
      let arg = argument_words prog acts stack (level (a ∷ acts) + 6) k a.arguments a.operands (Word z) c.piled.1.0.operands is in
      let below = arg.1 in
      (omega arith, omega arith, arg.0)

  -- a word of the arguments goes to a word of the data area
  pub binds : {q : Watched} {at : ℕ} (g to k n offset line : ℕ) (a : OrderActivation) (acts : List OrderActivation) (x : Option Operand) (w : Words) → prog.limits.area ≤ 32768
      → argument_behind k a.arguments ≡ x → at + (argument_load_size k + 3) ≡ to → offset ≡ 2 * n % 65536
      → HasAll image at (i86.Mov true true 0 (argument k) ∷ i86.MovAcc false true true offset ∷ []) → Landed prog image at g false (a ∷ acts) w q
      → Does prog image 2 to g false line (a ∷ acts) w.output q (unrefused (bind prog.limits.area x (Some n) w))
  binds g to k n offset line a acts None w low is e filled i l = tt
  binds g to k n offset line a acts (Some (Held c)) w low is e filled i l = tt
  binds {q} {at} g to k n offset line a acts (Some (Word z)) w low is e filled i l =
      through_number prog.limits.area n (λ j v. Changed (with_memory v (set v.memory j z))) w (λ o. Does prog image 2 to g false line (a ∷ acts) w.output q (unrefused o)) tt (λ within.
      let s = l.stacked in
      let c = l.kept in
      let arg = argument_there a acts k z c is in
      let lt : n < 32768 = omega arith in
      let address : offset ≡ 2 * n = omega arith in
      let end : at + length (bytes_of (load 0 (argument k))) + 3 ≡ to = omega (arith, e, argument_loaded 0 k) in
      further 2 (lit≤ tt) (lit< tt)
      (straight rows (LoadArgument 0 k (level (a ∷ acts) + 6 + k) (unsigned z) ∷ []) {n = 1} c.wrote (i.0, tt) (arg, tt) s.is (λ q u.
      last rows u c.wrote (landed rows prog image g (a ∷ acts) false to l.top w.operands (set w.memory n z) w.input w.output end l.operands (kept_stored n z within c) (store_at rows offset n lt address i.1.0 u)))))

  -- or to a word of the frame
  binds_inside : {q : Watched} {at : ℕ} (g to k offset line : ℕ) (a : OrderActivation) (acts : List OrderActivation) (x : Option Operand) (w : Words) → prog.limits.area ≤ 32768
      → a.frame_base + offset < prog.limits.area → argument_behind k a.arguments ≡ x → at + (argument_load_size k + (frame_size offset + 5)) ≡ to
      → HasAll image at (i86.Mov true true 1 (argument k) ∷ i86.Mov true true 3 (slot base_slot) ∷ i86.Mov true false 1 (field (2 * offset % 65536)) ∷ [])
      → Landed prog image at g false (a ∷ acts) w q
      → Does prog image 3 to g false line (a ∷ acts) w.output q (unrefused (bind prog.limits.area x (Some (a.frame_base + offset)) w))
  binds_inside g to k offset line a acts None w low inside is e i l = tt
  binds_inside g to k offset line a acts (Some (Held c)) w low inside is e i l = tt
  binds_inside {q} {at} g to k offset line a acts (Some (Word z)) w low inside is e i l =
      let n = a.frame_base + offset in
      through_number prog.limits.area n (λ j v. Changed (with_memory v (set v.memory j z))) w (λ o. Does prog image 3 to g false line (a ∷ acts) w.output q (unrefused o)) tt (λ within.
      let c = l.kept in
      let word = frame_word_at prog.limits.area a.frame_base offset n low within refl in
      let end : at + length (bytes_of (load 1 (argument k))) + 3 + length (bytes_of (store (field (2 * offset % 65536)) cx)) ≡ to = omega (arith, e, argument_loaded 1 k, field_stored cx (2 * offset % 65536)) in
      further 3 (lit≤ tt) (lit< tt)
      (straight rows (LoadArgument 1 k (level (a ∷ acts) + 6 + k) (unsigned z) ∷ LoadSlot 3 0xFA (level (a ∷ acts) + 1) (2 * a.frame_base % 65536) ∷ StoreField 1 (2 * offset % 65536) n ∷ []) {n = 0} c.wrote i
      (argument_there a acts k z c is, (base_there prog (a ∷ acts) refl c.piled.0, ((word.low, word.small, word.there), tt))) l.stacked.is (λ q u.
      done (landed rows prog image g (a ∷ acts) false to l.top w.operands (set w.memory n z) w.input w.output end l.operands (kept_stored n z within c) u))))

  bind_nowhere : (x : Option Operand) (w : Words) → unrefused (bind prog.limits.area x None w) ≡ Impossible
  bind_nowhere (Some (Word z)) w = refl
  bind_nowhere _ w = refl

  pub binds_frame : {q : Watched} {at : ℕ} (g to k offset line : ℕ) (a : OrderActivation) (acts : List OrderActivation) (x : Option Operand) (w : Words) → prog.limits.area ≤ 32768
      → argument_behind k a.arguments ≡ x → at + (argument_load_size k + (frame_size offset + 5)) ≡ to
      → HasAll image at (i86.Mov true true 1 (argument k) ∷ i86.Mov true true 3 (slot base_slot) ∷ i86.Mov true false 1 (field (2 * offset % 65536)) ∷ [])
      → Landed prog image at g false (a ∷ acts) w q
      → Does prog image 3 to g false line (a ∷ acts) w.output q (unrefused (bind prog.limits.area x (frame_word prog.limits.area (a ∷ acts) offset) w))
  binds_frame {q} g to k offset line a acts x w low is e i l = cases (nat_lt (a.frame_base + offset) prog.limits.area) refl
    where
      cases : (b : Bool) → nat_lt (a.frame_base + offset) prog.limits.area ≡ b
          → Does prog image 3 to g false line (a ∷ acts) w.output q (unrefused (bind prog.limits.area x (if b then Some (a.frame_base + offset) else None) w))
      cases false is_out = subst (Does prog image 3 to g false line (a ∷ acts) w.output q) (sym (bind_nowhere x w)) tt
      cases true is_in = binds_inside g to k offset line a acts x w low (ltb-true (a.frame_base + offset) prog.limits.area is_in) is e i l
