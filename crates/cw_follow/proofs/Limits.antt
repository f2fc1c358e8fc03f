-- What the code of a loop's limit does: a routine of the library compares the control variable with the limit, by the sign of the step.
use Rattle.std.proofs.Common.{◌≡◌, ℕ, suc, ◌+◌, ◌-◌, ◌*◌, ◌%◌, ◌<◌, ◌≤◌, Bool, true, false, ℤ, pos, negsuc, List, [], ◌∷◌, refl, subst, arith, lit≤}
use Rattle.std.specs.Prelude.{if◌then◌else◌}
use Rattle.std.specs.List.{All}
use borrow.Author.Tests.{ltb-true}
use Rattle.std.proofs.lemmas.List.Elements.{All-head, All-tail}
use Rattle.cw_i86.specs.declared.instr.Instr.TheVariants as i86
use Rattle.cw_word.specs.FixedPoint.{FitsWord}
use Rattle.cw_unit.specs.Words.{Operand, Word, Held, is_below, number_of, word_at}
use Rattle.cw_unit.specs.Operation.{is_past}
use Rattle.cw_order.specs.OrderChanges.{way_of_two, way_past_limit, to_mark_if}
use Rattle.cw_order.specs.OrderState.{operand_words}
use Rattle.cw_order.specs.FittingWords.{OperandFits}
use Rattle.cw_tmpl.specs.Library.{exhausted_place}
use Rattle.cw_routines.specs.Ways.{Within, Back}
use Rattle.cw_routines.specs.Results.{Quiet}
use Rattle.cw_routines.proofs.Facts.{unsigned_pos}
use Rattle.cw_follow.proofs.Watched.{Watched}
use Rattle.cw_follow.proofs.Chains.{to_place}
use Rattle.cw_follow.proofs.Routines.{with_ax, quiet_in, quiet_library, flags_of, arrives, returned}
use Rattle.cw_follow.proofs.Stacks.{level, record_of}
use Rattle.cw_follow.proofs.Orders.{Leading, landed, jumps, Chooses, further_on}
use Rattle.cw_follow.proofs.Operands.{Setting, words, LandedWith}
use Rattle.cw_follow.proofs.Variables.{holds, reaches, runs}
use Rattle.cw_follow.proofs.Standing.{HasAll}

module _ (c : Setting) (memory : List ℤ) (input output : List ℕ) where
  -- the call of the routine, and the jump behind it
  abbrev pub LimitCode : (at by way : ℕ) → Type 0
  LimitCode at by way = HasAll c.image at (i86.Call by ∷ i86.Jump way ∷ [])

  -- the words of a loop at an address, and the value of its variable below it
  module _ {q : Watched} {at : ℕ} (by n : ℕ) (x : ℤ) (rest : List Operand) (fx : FitsWord x) (all : All FitsWord memory) (room : operand_words (Word (pos n) ∷ Word x ∷ rest) < level c.acts)
      (within : n + 2 < c.program.limits.area) (there : (at + 3 + by) % 65536 ≡ exhausted_place % 65536) (l : LandedWith c memory input output at true (Word (pos n) ∷ Word x ∷ rest) q) where
    abbrev past : Bool
    past = is_past (word_at memory (n + 1)) x (word_at memory (n + 2))

    -- the routine takes both operands, and comes back to the jump where the value is past the limit, and else behind it
    returns : (b : Bool) → past ≡ b → (to bound : ℕ) → 16 ≤ bound → (if b then (at + 3) % 65536 else ((at + 3) % 65536 + 3)) % 65536 ≡ to % 65536 → HasAll c.image at (i86.Call by ∷ [])
        → Leading output bound q (LandedWith c memory input output to false rest)
    returns b is to bound le comes i =
        runs c memory input output 0 15 bound le
        (reaches c memory input output exhausted_place by ((at + 3) % 65536) (Word x ∷ rest) l.top (omega arith) there refl i.0 l.operands.1 l.kept (with_ax l.operands.0 l.stacked.is)) (λ q r.
        let low = r.low in
        let area_low = c.low in
        let back = (at + 3) % 65536 in
        subst (λ b. Within (Quiet (quiet_in q.places)) c.image.bytes r.told.output 15 q.processor (Back c.image.bytes (if b then back else (back + 3)) (2 * suc (suc r.top)) (record_of c.acts) c.program.limits.area r.cells r.stack r.left r.told (λ ax f. Unit {0}))) is
        (c.rows.routines.exhausted (quiet_in q.places) c.image.bytes c.library (quiet_library r.is.ignores) c.program.limits.area n (record_of c.acts) r.top back r.cx l.stacked.dx l.stacked.bx r.si x
        (flags_of q) r.cells r.stack r.left r.told memory q.processor
        fx within (holds c memory input output all r.kept) (omega arith) r.way r.under.0 (omega arith) (arrives (with_ax (unsigned_pos n (omega arith)) r.is))))
        (λ q r u e. landed c.rows c.program c.image c.g c.acts false to (suc (suc r.top)) rest memory input output refl r.under.1 r.kept (to_place comes (returned q r.is.ignores e.is)))

    chooses : (b : Bool) → past ≡ b → (to way m : ℕ) (start : ℕ → ℕ) → at + 6 ≡ to → (at + 6 + way) % 65536 ≡ start m % 65536 → LimitCode at by way
        → Chooses c.program c.image 17 to start c.g false 0 c.acts output q (to_mark_if b m (words rest memory input output))
    chooses true is to way m start e goes i =
        let l = returns true is (at + 3) 16 (lit≤ tt) (omega arith) (i.0, tt) in
        let within = l.within in
        let jump : (at + 3 + 3 + way) % 65536 ≡ start m % 65536 = omega arith in
        further_on l.spent 1 17 (omega arith) l.leads (λ r t. jumps c.rows c.program c.image c.g c.acts (start m) way false (words rest memory input output) jump i.1.0 t)
    chooses false is to way m start e goes i = returns false is to 17 (lit≤ tt) (omega arith) (i.0, tt)

  -- the order: where there are no such operands, or the words of the loop are not in the area, nothing is asked
  pub exhausts : {q : Watched} {at : ℕ} (to by way m : ℕ) (start : ℕ → ℕ) (operands : List Operand) → at + 6 ≡ to → (at + 3 + by) % 65536 ≡ exhausted_place % 65536
      → (at + 6 + way) % 65536 ≡ start m % 65536 → operand_words operands < level c.acts → All OperandFits operands → All FitsWord memory
      → LimitCode at by way → LandedWith c memory input output at true operands q
      → Chooses c.program c.image 17 to start c.g false 0 c.acts output q (way_of_two (λ x a v. way_past_limit (is_below a (c.program.limits.area - 2)) m x (number_of a) v) (words operands memory input output))
  exhausts to by way m start [] e there goes room fits all i l = tt
  exhausts to by way m start (Held d ∷ rest) e there goes room fits all i l = tt
  exhausts to by way m start (Word a ∷ []) e there goes room fits all i l = tt
  exhausts to by way m start (Word a ∷ Held d ∷ rest) e there goes room fits all i l = tt
  exhausts to by way m start (Word (negsuc n) ∷ Word x ∷ rest) e there goes room fits all i l = tt
  exhausts {q} {at} to by way m start (Word (pos n) ∷ Word x ∷ rest) e there goes room fits all i l = cases (is_below (pos n) (c.program.limits.area - 2)) refl
    where
      cases : (b : Bool) → is_below (pos n) (c.program.limits.area - 2) ≡ b → Chooses c.program c.image 17 to start c.g false 0 c.acts output q (way_past_limit b m x n (words rest memory input output))
      cases false is = tt
      cases true is =
          let less : n < c.program.limits.area - 2 = ltb-true n (c.program.limits.area - 2) is in
          chooses by n x rest (All-head OperandFits (Word x) rest (All-tail OperandFits (Word (pos n)) (Word x ∷ rest) fits)) all room (omega arith) there l
          (is_past (word_at memory (n + 1)) x (word_at memory (n + 2))) refl to way m start e goes i
