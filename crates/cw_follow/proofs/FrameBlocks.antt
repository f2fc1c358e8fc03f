-- What the code does that fetches and stores a word of the frame at work.
use Rattle.std.proofs.Common.{◌≡◌, ℕ, ◌+◌, ◌*◌, ◌%◌, ◌<◌, ◌≤◌, length, Bool, true, false, ℤ, List, [], ◌∷◌, set, Some, None, refl, sym, arith, lit<, lit≤}
use Rattle.std.specs.Prelude.{nat_lt, if◌then◌else◌}
use borrow.Author.Tests.{ltb-true}
use Rattle.cw_i86.specs.Encoding.{bytes_of}
use Rattle.cw_tmpl.specs.Templates.{frame_size}
use Rattle.cw_tmpl.proofs.Lengths.{field_loaded, field_stored}
use Rattle.cw_follow.proofs.Fields.{frame_word_at}
use Rattle.cw_follow.proofs.Watched.{Watched}
use Rattle.cw_word.specs.Word.{signed, unsigned}
use Rattle.cw_unit.specs.Words.{Operand, Word, Held, Words, Changed, with_memory, put, word_at}
use Rattle.cw_unit.specs.Operation.{Fetch, Store, perform}
use Rattle.cw_order.specs.OrderProgram.{OrderProgram}
use Rattle.cw_order.specs.OrderChanges.{put_address}
use Rattle.cw_order.specs.OrderState.{OrderActivation, frame_word}
use Rattle.cw_order.specs.OrderMachine.{unrefused}
use Rattle.cw_tmpl.specs.Mnemonics.{ax, bx, slot, base_slot, field, load, store}
use Rattle.cw_follow.proofs.Rows.{Rows}
use Rattle.cw_follow.proofs.Chains.{done}
use Rattle.cw_follow.proofs.Straight.{LoadSlot, LoadWord, StoreField, straight, straight_from}
use Rattle.cw_follow.proofs.Routines.{with_ax}
use Rattle.cw_follow.proofs.Stacks.{level, base_there}
use Rattle.cw_follow.proofs.Orders.{kept_stored, Landed, landed, Does, further, LandedAt, through_word}
use Rattle.cw_follow.proofs.InBlocks.{chain}
use Rattle.cw_follow.proofs.Standing.{HasAll, Image, HasFrom}

-- a word of the frame of an activation, where it is one of the data area
pub frame_word_inside : (area : ℕ) (a : OrderActivation) (acts : List OrderActivation) (n k : ℕ) → frame_word area (a ∷ acts) n ≡ Some k → (k ≡ a.frame_base + n) × (k < area)
frame_word_inside area a acts n k e = cases (nat_lt (a.frame_base + n) area) refl e
  where
    cases : (b : Bool) → nat_lt (a.frame_base + n) area ≡ b → (if b then Some (a.frame_base + n) else None) ≡ Some k → (k ≡ a.frame_base + n) × (k < area)
    cases false is e = absurd (cc)
    cases true is e = let same : a.frame_base + n ≡ k = cc in let lt = ltb-true (a.frame_base + n) area is in (sym same, omega arith)

module _ (rows : Rows) (prog : OrderProgram) (image : Image) where
  -- the word comes to AX
  fetches_frame : {q : Watched} {first : Bool} {at : ℕ} (g to n : ℕ) (a : OrderActivation) (acts : List OrderActivation) (w : Words) → prog.limits.area ≤ 32768 → a.frame_base + n < prog.limits.area → at + (frame_size n + 5) ≡ to
      → HasFrom first image at (load bx (slot base_slot) ∷ load ax (field (2 * n % 65536)) ∷ []) → LandedAt first prog image at g false (a ∷ acts) w q
      → Does prog image 2 to g true 0 (a ∷ acts) w.output q (unrefused (perform prog.limits.area (Fetch None) (put (signed (a.frame_base + n)) w)))
  fetches_frame {q} {at = at} g to n a acts w low inside e i l =
      through_word rows.words prog.limits.area (a.frame_base + n) low (omega arith) (λ k v. Changed (put (word_at v.memory k) v)) w (λ o. Does prog image 2 to g true 0 (a ∷ acts) w.output q (unrefused o)) tt (λ k within same.
      let d = frame_word_at prog.limits.area a.frame_base n k low within same in
      let end : at + 3 + length (bytes_of (load ax (field (2 * n % 65536)))) ≡ to = omega (arith, e, field_loaded ax (2 * n % 65536)) in
      further 2 (lit≤ tt) (lit< tt)
      (straight_from rows (LoadSlot 3 0xFA (level (a ∷ acts) + 1) (2 * a.frame_base % 65536)) (LoadWord 0 (2 * n % 65536) k (unsigned (word_at w.memory k)) ∷ []) {n = 0} l.kept.wrote i
      (base_there prog (a ∷ acts) refl l.kept.piled.0, ((d.low, d.small, d.there, l.kept.words k within), tt)) l.stacked.is (λ q u.
      done (landed rows prog image g (a ∷ acts) true to l.top (Word (word_at w.memory k) ∷ w.operands) w.memory w.input w.output end (refl, l.operands) l.kept u))))

  -- the top operand goes to the word
  assigns_frame : {q : Watched} {at : ℕ} (g to n : ℕ) (a : OrderActivation) (acts : List OrderActivation) (operands : List Operand) (memory : List ℤ) (input output : List ℕ) → prog.limits.area ≤ 32768
      → a.frame_base + n < prog.limits.area → at + (frame_size n + 5) ≡ to
      → HasAll image at (load bx (slot base_slot) ∷ store (field (2 * n % 65536)) ax ∷ [])
      → Landed prog image at g true (a ∷ acts) (record { operands = operands; memory = memory; input = input; output = output }) q
      → Does prog image 2 to g false 0 (a ∷ acts) output q (unrefused (perform prog.limits.area (Store None) (record { operands = Word (signed (a.frame_base + n)) ∷ operands; memory = memory; input = input; output = output })))
  assigns_frame g to n a acts [] memory input output low inside e i l = tt
  assigns_frame g to n a acts (Held c ∷ rest) memory input output low inside e i l = tt
  assigns_frame {q} {at} g to n a acts (Word z ∷ rest) memory input output low inside e i l =
      through_word rows.words prog.limits.area (a.frame_base + n) low (omega arith) (λ k t. Changed (with_memory t (set t.memory k z))) (record { operands = rest; memory = memory; input = input; output = output })
      (λ o. Does prog image 2 to g false 0 (a ∷ acts) output q (unrefused o)) tt (λ k within same.
      let d = frame_word_at prog.limits.area a.frame_base n k low within same in
      let end : at + 3 + length (bytes_of (store (field (2 * n % 65536)) ax)) ≡ to = omega (arith, e, field_stored ax (2 * n % 65536)) in
      further 2 (lit≤ tt) (lit< tt)
      (straight rows (LoadSlot 3 0xFA (level (a ∷ acts) + 1) (2 * a.frame_base % 65536) ∷ StoreField 0 (2 * n % 65536) k ∷ []) {n = 0} l.kept.wrote i
      (base_there prog (a ∷ acts) refl l.kept.piled.0, ((d.low, d.small, d.there), tt)) (with_ax l.operands.0 l.stacked.is) (λ q u.
      done (landed rows prog image g (a ∷ acts) false to l.top rest (set memory k z) input output end l.operands.1 (kept_stored k z within l.kept) u))))

  -- a segment's body has no frame, and a word that is not in the data area is none of a frame
  pub fetches_word : {q : Watched} {first : Bool} {at : ℕ} (g to n : ℕ) (acts : List OrderActivation) (w : Words) → prog.limits.area ≤ 32768 → at + (frame_size n + 5) ≡ to
      → HasFrom first image at (load bx (slot base_slot) ∷ load ax (field (2 * n % 65536)) ∷ []) → LandedAt first prog image at g false acts w q
      → Does prog image 2 to g true 0 acts w.output q (chain (chain (put_address (frame_word prog.limits.area acts n) w) Changed) (λ v. unrefused (perform prog.limits.area (Fetch None) v)))
  fetches_word g to n [] w low e i l = tt
  fetches_word {q} {first} g to n (a ∷ acts) w low e i l = cases (nat_lt (a.frame_base + n) prog.limits.area) refl
    where
      cases : (b : Bool) → nat_lt (a.frame_base + n) prog.limits.area ≡ b
          → Does prog image 2 to g true 0 (a ∷ acts) w.output q (chain (chain (put_address (if b then Some (a.frame_base + n) else None) w) Changed) (λ v. unrefused (perform prog.limits.area (Fetch None) v)))
      cases false is = tt
      cases true is = fetches_frame g to n a acts w low (ltb-true (a.frame_base + n) prog.limits.area is) e i l

  pub assigns_word : {q : Watched} {at : ℕ} (g to n : ℕ) (acts : List OrderActivation) (w : Words) → prog.limits.area ≤ 32768 → at + (frame_size n + 5) ≡ to
      → HasAll image at (load bx (slot base_slot) ∷ store (field (2 * n % 65536)) ax ∷ []) → Landed prog image at g true acts w q
      → Does prog image 2 to g false 0 acts w.output q (chain (chain (put_address (frame_word prog.limits.area acts n) w) Changed) (λ v. unrefused (perform prog.limits.area (Store None) v)))
  assigns_word g to n [] w low e i l = tt
  assigns_word {q} g to n (a ∷ acts) w low e i l = cases (nat_lt (a.frame_base + n) prog.limits.area) refl
    where
      cases : (b : Bool) → nat_lt (a.frame_base + n) prog.limits.area ≡ b
          → Does prog image 2 to g false 0 (a ∷ acts) w.output q (chain (chain (put_address (if b then Some (a.frame_base + n) else None) w) Changed) (λ v. unrefused (perform prog.limits.area (Store None) v)))
      cases false is = tt
      cases true is = assigns_frame g to n a acts w.operands w.memory w.input w.output low (ltb-true (a.frame_base + n) prog.limits.area is) e i l
