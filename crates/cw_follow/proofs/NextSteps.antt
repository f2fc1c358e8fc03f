-- What the code of the step of a loop does: a routine of the library adds it, and tells by the flags whether the body follows.
use Rattle.std.proofs.Common.{◌≡◌, ℕ, suc, ◌+◌, ◌*◌, ◌%◌, ◌<◌, ◌≤◌, Bool, true, false, not, ℤ, List, [], ◌∷◌, Some, refl, sym, ap, ◌∙◌, subst, arith, lit<, lit≤}
use Rattle.std.specs.Prelude.{nat_eq, nat_lt}
use Rattle.std.specs.List.{All}
use borrow.Author.Tests.{ltb-true}
use Rattle.cw_i86.specs.Effect.{holds}
use Rattle.cw_i86.specs.declared.instr.Instr.TheVariants as i86
use Rattle.cw_i86.specs.declared.instr.Imm.TheVariants as imm
use Rattle.cw_i86.specs.declared.instr.Rm.TheVariants as rms
use Rattle.cw_run86.specs.Views.{sum_overflows}
use Rattle.cw_rows86.specs.Locations.{InRegister}
use Rattle.cw_rows86.specs.Operations.{Add}
use Rattle.cw_rows86.specs.Acts.{OperateNumberOnto}
use Rattle.cw_word.specs.FixedPoint.{FitsWord}
use Rattle.cw_unit.specs.Stop.{Stopped}
use Rattle.cw_unit.specs.Words.{Operand, Words, Outcome, Changed, Refused, Impossible, word_at, is_below, number_of}
use Rattle.cw_unit.specs.Operation.{AddStep, perform, is_past}
use Rattle.cw_order.specs.OrderProgram.{OrderProgram}
use Rattle.cw_order.specs.OrderChanges.{Way, Onward, ToMark, Barred, Nowhere, to_mark_if, way_behind, turn_if, turned, stepped_if, stepped, stepped_inside, next_step}
use Rattle.cw_order.specs.OrderState.{OrderActivation, operand_words, frame_word}
use Rattle.cw_tmpl.specs.Mnemonics.{bx, slot, base_slot, load, operate_number}
use Rattle.cw_tmpl.specs.Library.{next_step_place}
use Rattle.cw_routines.specs.Ways.{Within}
use Rattle.cw_routines.specs.Results.{Quiet, Answered, AtMost, GoesOn}
use Rattle.cw_follow.proofs.Watched.{Watched, fresh}
use Rattle.cw_follow.proofs.Chains.{Is, Leads, view, to_place, number, near, not_at_most, jump_if, pass_if, more, last}
use Rattle.cw_follow.proofs.Acting.{act}
use Rattle.cw_follow.proofs.Straight.{LoadSlot, straight}
use Rattle.cw_follow.proofs.Routines.{Over, quiet_in, quiet_library, flags_of, arrives, returned, over, Around}
use Rattle.cw_follow.proofs.Stacks.{level, record_of, base_word, StackIs}
use Rattle.cw_follow.proofs.Orders.{Kept, Landed, Leading, Chooses, with_bx, landed, further, further_on, sooner, around_at}
use Rattle.cw_follow.proofs.Operands.{Setting, words, LandedWith, tells}
use Rattle.cw_follow.proofs.FrameBlocks.{frame_word_inside}
use Rattle.cw_follow.proofs.Variables.{holds as holds_memory, AtRoutine, reaches, runs, Stores, step_stores}
use Rattle.cw_follow.proofs.Standing.{Has, HasAll, HasWord}

-- twice the address of a word of the frame, from the word in the record
frame_doubled : (p : OrderProgram) (acts : List OrderActivation) (n a : ℕ) → p.limits.area ≤ 32768 → frame_word p.limits.area acts n ≡ Some a → (base_word p acts + 2 * n % 65536) % 65536 ≡ 2 * a
frame_doubled p [] n a low e = absurd (cc)
frame_doubled p (b ∷ acts) n a low e = let f = frame_word_inside p.limits.area b acts n a e in let is = f.0 in let within = f.1 in omega arith

module _ (c : Setting) (memory : List ℤ) (input output : List ℕ) where
  -- ---- what the way leaves

  -- the operands stay, and the mark is that of the order
  abbrev pub Turns : List Operand → (mark : ℕ) → Way → Type 0
  Turns operands m (Onward v) = v ≡ words operands v.memory input output
  Turns operands m (ToMark k v) = (k ≡ m) × (v ≡ words operands v.memory input output)
  Turns operands m _ = Unit {0}

  marked_turns : (b : Bool) (m : ℕ) (operands : List Operand) (now : List ℤ) → Turns operands m (to_mark_if b m (words operands now input output))
  marked_turns true m operands now = (refl, refl)
  marked_turns false m operands now = refl

  turned_turns : (b : Bool) (m a : ℕ) (operands : List Operand) (now : List ℤ) → Turns operands m (turn_if b m a (words operands now input output))
  turned_turns true m a operands now = marked_turns (not (is_past (word_at now (a + 1)) (word_at now (number_of (word_at now a))) (word_at now (a + 2)))) m operands now
  turned_turns false m a operands now = tt

  behind_turns : (o : Outcome) (f : Words → Way) (m : ℕ) (operands : List Operand) → Stores c memory input output operands o
      → ((now : List ℤ) → Turns operands m (f (words operands now input output))) → Turns operands m (way_behind o f)
  behind_turns (Changed v) f m operands keeps each = subst (λ x. Turns operands m (f x)) (sym keeps) (each v.memory)
  behind_turns (Refused kind) f m operands keeps each = tt
  behind_turns Impossible f m operands keeps each = tt

  if_turns : (b : Bool) (m a : ℕ) (operands : List Operand) → Turns operands m (stepped_if b c.program.limits.area m a (words operands memory input output))
  if_turns true m a operands =
      behind_turns (perform c.program.limits.area (AddStep a) (words operands memory input output)) (turned c.program.limits.area m a) m operands (step_stores c memory input output a operands)
      (λ now. turned_turns (is_below (word_at now a) c.program.limits.area) m a operands now)
  if_turns false m a operands = refl

  stepped_turns : (m a : ℕ) (operands : List Operand) → Turns operands m (stepped c.program.limits.area m a (words operands memory input output))
  stepped_turns m a operands = if_turns (nat_eq (number_of (word_at memory (a + 3))) 1) m a operands

  -- ---- the address

  -- BX is twice the address of the loop's words
  pub record Doubled (at a : ℕ) (operands : List Operand) (q : Watched) : Type 0 where
    pub ax : ℕ
    pub cx : ℕ
    pub dx : ℕ
    pub si : ℕ
    pub around : Around
    pub open around use *
    pub is : Is c.image at (view ax cx dx (2 * a) (2 * top) (record_of c.acts) si c.program.limits.area overflow cells stack left told) q
    pub under : StackIs c.program c.acts stack top operands
    pub kept : Kept c.program c.g c.acts memory input output cells stack left told

  pub doubles_word : {p : Watched} {at : ℕ} (a word : ℕ) (operands : List Operand) → word ≡ 2 * a → Has c.image at (i86.MovImm 3 (imm.Word word)) → LandedWith c memory input output at false operands p
      → Leads output 1 p (Doubled (at + 3) a operands)
  doubles_word a word operands e i l =
      let s = l.stacked in
      last c.rows s.is l.kept.wrote
      (record {
        ax = s.ax;
        cx = s.cx;
        dx = s.dx;
        si = s.si;
        around = around_at l l.top;
        is = with_bx e (number c.rows 3 word i s.is);
        under = l.operands;
        kept = l.kept;
      })

  pub doubles_frame : {p : Watched} {at : ℕ} (n a : ℕ) (operands : List Operand) → frame_word c.program.limits.area c.acts n ≡ Some a
      → HasAll c.image at (load bx (slot base_slot) ∷ operate_number 0 bx (2 * n % 65536) ∷ []) → LandedWith c memory input output at false operands p
      → Leads output 2 p (Doubled (at + 3 + 4) a operands)
  doubles_frame n a operands e i l =
      let s = l.stacked in
      let k = l.kept in
      let r = level c.acts in
      let word = base_word c.program c.acts in
      let low : r + 1 < 32768 = omega arith in
      let there : (record_of c.acts + 65530) % 65536 ≡ 2 * (r + 1) = omega arith in
      straight c.rows (LoadSlot 3 0xFA (r + 1) word ∷ []) {n = 1} k.wrote (i.0, tt) ((low, there, k.piled.0.base_is), tt) s.is (λ q t.
      last c.rows t k.wrote
      (record {
        ax = s.ax;
        cx = s.cx;
        dx = s.dx;
        si = s.si;
        around = record (around_at l l.top) { overflow = sum_overflows word (2 * n % 65536) };
        is = with_bx (frame_doubled c.program c.acts n a c.low e) (act c.rows (OperateNumberOnto Add (2 * n % 65536) (rms.Reg 3) (InRegister 3) word) (lit< tt) i.1.0 (refl, tt, refl) t).is;
        under = l.operands;
        kept = k;
      }))

  -- ---- behind the routine

  -- the flags tell whether the body follows
  record Turned (at : ℕ) (follows : Bool) (now : List ℤ) (operands : List Operand) (q : Watched) : Type 0 where
    landed_with : LandedWith c now input output at false operands q
    at_most : holds (flags_of q) 14 ≡ follows

  -- JNLE past a jump and the line, and the jump
  abbrev TurnCode : (at by : ℕ) → Type 0
  TurnCode at by = HasAll c.image at (i86.JumpIf 15 5 ∷ i86.Jump by ∷ [])

  turns_to : {q : Watched} {at : ℕ} (to by : ℕ) (now : List ℤ) (operands : List Operand) → (at + 5 + by) % 65536 ≡ to % 65536 → TurnCode at by → Turned at true now operands q
      → Leading output 2 q (LandedWith c now input output to false operands)
  turns_to {q} {at} to by now operands arrives i t =
      let l = t.landed_with in
      let s = l.stacked in
      let there : (at + 2 + 3 + by) % 65536 ≡ to % 65536 = omega arith in
      further 2 (lit≤ tt) (lit< tt)
      (more c.rows {to = at + 2} {w = view s.ax s.cx s.dx s.bx (2 * l.top) (record_of c.acts) s.si c.program.limits.area s.overflow l.cells l.stack l.input l.told} s.is l.kept.wrote
      (pass_if c.rows 15 5 (not_at_most (flags_of q) ∙ ap not t.at_most) i.0 s.is) (λ r u.
      last c.rows u l.kept.wrote (landed c.rows c.program c.image c.g c.acts false to l.top operands now input output refl l.operands l.kept (to_place there (near c.rows by i.1.0 u)))))

  turns_on : {q : Watched} {at : ℕ} (to by : ℕ) (now : List ℤ) (operands : List Operand) → at + 7 ≡ to → TurnCode at by → Turned at false now operands q
      → Leading output 1 q (LandedWith c now input output to false operands)
  turns_on {q} {at} to by now operands e i t =
      let l = t.landed_with in
      let s = l.stacked in
      let ends : at + 2 + 5 ≡ to = omega arith in
      further 1 (lit≤ tt) (lit< tt)
      (last c.rows s.is l.kept.wrote
      (landed c.rows c.program c.image c.g c.acts false to l.top operands now input output ends l.operands l.kept (jump_if c.rows 15 5 (not_at_most (flags_of q) ∙ ap not t.at_most) i.0 s.is)))

  -- ---- the order

  -- the call of the routine, what follows it, and the line behind that
  abbrev pub StepCode : (at line by way : ℕ) → Type 0
  StepCode at line by way =
      Has c.image at (i86.Call by) × (Has c.image (at + 3) (i86.JumpIf 15 5) × (Has c.image (at + 3 + 2) (i86.Jump way) × (HasWord c.image (at + 3 + 2 + 3) line × Unit {0})))

  module _ {p : Watched} {at : ℕ} (to by way line a m : ℕ) (start : ℕ → ℕ) (operands : List Operand) (e : at + 10 ≡ to) (there : (at + 3 + by) % 65536 ≡ next_step_place % 65536)
      (goes : (at + 8 + way) % 65536 ≡ start m % 65536) (small : line < 65536) (inside : a + 3 < c.program.limits.area) (all : All FitsWord memory) (room : operand_words operands < level c.acts)
      (i : StepCode at line by way) (l : Doubled at a operands p) where
    turn_code : TurnCode (at + 3) way
    turn_code = (i.1.0, (i.1.1.0, tt))

    -- so far behind the way back
    line_there : HasWord c.image (at + 3 + 5) line
    line_there = let e : at + 3 + 2 + 3 ≡ at + 3 + 5 = omega arith in subst (λ n. HasWord c.image n line) e i.1.1.1.0

    -- the line stands in the code, so the way back is below 65,536
    back_small : at + 3 < 65536
    back_small =
        let within = line_there.within in
        let fits = l.is.sees.fits in
        omega arith

    abbrev chosen : Way
    chosen = stepped c.program.limits.area m a (words operands memory input output)

    abbrev Called : Watched → Type 0
    Called = AtRoutine c memory input output next_step_place (at + 3) l.dx l.ax (2 * a) operands

    called : Leads output 1 p Called
    called =
        let small = back_small in
        reaches c memory input output next_step_place by (at + 3) operands l.top room there (omega arith) i.0 l.under l.kept l.is

    law : (x : Way) → chosen ≡ x → (q : Watched) (r : Called q)
        → Within (Quiet (quiet_in q.places)) c.image.bytes r.told.output 28 q.processor
        (GoesOn c.image.bytes r.told.output c.program.limits.area (at + 3) (2 * suc r.top) (record_of c.acts) (c.g + 1) line r.stack r.left r.told x)
    law x is q r =
        let low = r.low in
        subst
        (λ y. Within (Quiet (quiet_in q.places)) c.image.bytes r.told.output 28 q.processor
        (GoesOn c.image.bytes r.told.output c.program.limits.area (at + 3) (2 * suc r.top) (record_of c.acts) (c.g + 1) line r.stack r.left r.told y)) is
        (c.rows.routines.next_step (quiet_in q.places) c.image.bytes c.library (quiet_library r.is.ignores) c.program.limits.area a m line (record_of c.acts) r.top (level c.acts + 3) (c.g + 1) (at + 3) l.ax
        r.cx l.dx r.si (flags_of q) r.cells r.stack r.left r.told (words operands memory input output) q.processor inside (holds_memory c memory input output all r.kept) line_there small (omega arith) r.way
        back_small (tells c memory input output r.kept) (arrives r.is))

    returns : (b : Bool) (v : Words) → ((q : Watched) (r : Called q)
        → Within (Quiet (quiet_in q.places)) c.image.bytes r.told.output 28 q.processor (Answered c.image.bytes c.program.limits.area (at + 3) (2 * suc r.top) (record_of c.acts) r.stack r.left r.told v (AtMost b)))
        → Leading output 29 p (Turned (at + 3) b v.memory operands)
    returns b v each =
        runs c memory input output 0 28 29 (lit≤ tt) called each (λ q r u t.
        let k = r.kept in
        record {
          landed_with =
              landed c.rows c.program c.image c.g c.acts false (at + 3) (suc r.top) operands v.memory input output refl r.under
              (record { words = t.holds_words.words; long = t.holds_words.long; piled = k.piled; read = k.read; wrote = k.wrote; kind = k.kind })
              (returned q r.is.ignores t.back.is);
          at_most = ap (λ f. holds f 14) t.back.is.flags ∙ t.back.answers;
        })

    turns_so : (x : Way) → chosen ≡ x → Turns operands m x → Chooses c.program c.image 31 to start c.g false line c.acts output p x
    turns_so (Onward v) is keeps =
        let t = returns false v (law (Onward v) is) in
        let within = t.within in
        subst (λ u. Leading output 31 p (Landed c.program c.image to c.g false c.acts u)) (sym keeps)
        (further_on t.spent 1 31 (omega arith) t.leads (λ q u. turns_on to way v.memory operands (omega arith) turn_code u))
    turns_so (ToMark k v) is keeps =
        let t = returns true v (law (ToMark k v) is) in
        let within = t.within in
        let arrives : (at + 3 + 5 + way) % 65536 ≡ start m % 65536 = omega arith in
        subst (λ n. Leading output 31 p (Landed c.program c.image (start n) c.g false c.acts v)) (sym keeps.0)
        (subst (λ u. Leading output 31 p (Landed c.program c.image (start m) c.g false c.acts u)) (sym keeps.1)
        (further_on t.spent 2 31 (omega arith) t.leads (λ q u. turns_to (start m) way v.memory operands arrives turn_code u)))
    turns_so (Barred kind) is keeps =
        runs c memory input output 0 28 31 (lit≤ tt) called (law (Barred kind) is)
        (λ q r u t. subst (λ x. Over (record { output = x; end = Stopped kind (c.g + 1) line }) (fresh q.places q.area u)) r.kept.wrote (over q t))
    turns_so Nowhere is keeps = tt

    turns : Chooses c.program c.image 31 to start c.g false line c.acts output p chosen
    turns = turns_so chosen refl (stepped_turns m a operands)

  -- behind so many instructions that bring the address to BX, where the words of the loop are in the area
  pub takes_step : {p : Watched} {at : ℕ} (n to by way line a m : ℕ) (start : ℕ → ℕ) (operands : List Operand) → n ≤ 2 → at + 10 ≡ to → (at + 3 + by) % 65536 ≡ next_step_place % 65536
      → (at + 8 + way) % 65536 ≡ start m % 65536 → line < 65536 → All FitsWord memory → operand_words operands < level c.acts → StepCode at line by way
      → (a + 3 < c.program.limits.area → Leads output n p (Doubled at a operands))
      → Chooses c.program c.image 33 to start c.g false line c.acts output p (next_step c.program.limits.area m (Some a) (words operands memory input output))
  takes_step {p} {at} n to by way line a m start operands few e there goes small all room i brings = cases (nat_lt (a + 3) c.program.limits.area) refl
    where
      cases : (b : Bool) → nat_lt (a + 3) c.program.limits.area ≡ b → Chooses c.program c.image 33 to start c.g false line c.acts output p (stepped_inside b c.program.limits.area m a (words operands memory input output))
      cases false is = tt
      cases true is =
          let inside : a + 3 < c.program.limits.area = ltb-true (a + 3) c.program.limits.area is in
          sooner c.program c.image 31 to start c.g false line c.acts n 33 (stepped c.program.limits.area m a (words operands memory input output)) (omega arith) (brings inside)
          (λ q t. turns to by way line a m start operands e there goes small inside all room i t)
