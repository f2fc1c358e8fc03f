-- What an activation does: its way back, the words of its frame and of its arguments, its control parameters.
use Rattle.std.proofs.Common.{◌≡◌, inl, ℕ, ◌+◌, ◌%◌, ◌<◌, Bool, true, false, List, [], ◌∷◌, length, Option, Some, None, refl, sym, ap, ◌∙◌, subst, arith, lit≤}
use Rattle.std.specs.Prelude.{slice_get, nat_eq, nat_lt, if◌then◌else◌}
use borrow.Author.Tests.{eqb-true, ltb-true}
use Rattle.cw_i86.specs.declared.instr.Instr.TheVariants as i86
use Rattle.cw_i86.specs.declared.instr.Imm.TheVariants as imm
use Rattle.cw_word.specs.Word.{signed}
use Rattle.cw_unit.specs.Stop.{Running}
use Rattle.cw_unit.specs.Words.{LabelControl, SwitchControl, ProcedureControl, Operand, Word, Held, Words, put, with_operands}
use Rattle.cw_unit.specs.Step.{held}
use Rattle.cw_order.specs.declared.order.Order.{Order}
use Rattle.cw_order.specs.declared.order.Order.TheVariants as order
use Rattle.cw_order.specs.OrderChanges.{bind, put_address}
use Rattle.cw_order.specs.OrderState.{OrderActivation, OrderState, at, operand_words, argument_behind, control_in, frame_word}
use Rattle.cw_order.specs.OrderActions.{home_word}
use Rattle.cw_order.specs.OrderMachine.{after, unrefused, return_with, call, step}
use Rattle.cw_follow.specs.Placing.{base_of}
use Rattle.cw_i86.specs.Encoding.{bytes_of}
use Rattle.cw_tmpl.specs.Mnemonics.{argument, load}
use Rattle.cw_tmpl.specs.Templates.{argument_load_size}
use Rattle.cw_tmpl.proofs.Sizes.{listed, own_place}
use Rattle.cw_follow.proofs.Watched.{Watched}
use Rattle.cw_follow.proofs.Standing.{order_place, HasAt}
use Rattle.cw_follow.proofs.Stacks.{code_place}
use Rattle.cw_follow.proofs.Orders.{Landed}
use Rattle.cw_follow.proofs.States.{Given, Sound, has_unit}
use Rattle.cw_follow.proofs.Returns.{returns, answers, frame_homes, binds, binds_frame}
use Rattle.cw_follow.proofs.Leaving.{hands_on, calls_special}
use Rattle.cw_follow.proofs.Calling.{sound_in, puts_with, calls_procedure, back_is, landed_as, holds_control}
use Rattle.cw_follow.proofs.Naming.{argument_stands, start_is}
use Rattle.cw_follow.proofs.Steps.{Follow, leads_to, onward, step_is, weight_is, never_next, stuck_here, does, cheap, line_fits, Alone, code, behind, begins_next, FollowFrom, begins_here, begun_here, landed_here}

module _ (known : Given) where
  open known use {rows, p, image, all, coded, few, low}

  -- ---- the way back

  module _ {q : Watched} {g place : ℕ} {a : OrderActivation} {acts : List OrderActivation} {w : Words} (s : Sound p image g place false (a ∷ acts) w q) (by_itself : Alone p image g place false (a ∷ acts) w q s.orders) where
    abbrev S : OrderState
    S = at g place false (a ∷ acts) w Running

    abbrev here : ℕ
    here = order_place (base_of p g) s.orders place

    abbrev next : ℕ
    next = order_place (base_of p g) s.orders (place + 1)

    pub comes_back_false : (n : ℕ) → slice_get s.orders.list place ≡ Some (order.Return n false) → (b : Bool) → nat_eq (operand_words a.arguments) n ≡ b
        → Follow known (at g place false (a ∷ acts) w Running) q
    comes_back_false n e false is = absurd (stuck_here known s (step_is known s (Some (order.Return n false)) e ∙ ap (λ b. return_with b false w.operands a g place false acts w) is))
    comes_back_false n e true is =
        let o = order.Return n false in
        let v = with_operands w a.operands in
        let t = at a.segment a.place false acts v Running in
        let goes : step p S ≡ t = step_is known s (Some o) e ∙ ap (λ b. return_with b false w.operands a g place false acts w) is in
        let u = has_unit p a.segment a.place false acts v (never_next known s t goes) in
        let to = order_place (base_of p a.segment) u.orders a.place in
        let there : code_place p a.segment a.place ≡ to % 65536 = start_is known a.segment u.orders (λ o. own_place o a.place) u.unit in
        leads_to known g place false (a ∷ acts) w t 3 goes (cheap known s o 3 (lit≤ tt) e)
        (onward known (λ r l. inl (sound_in known s by_itself a.segment a.place false acts v r u.orders u.unit (s.comes_back.0 u.orders u.unit) goes s.working.5 s.comes_back.1 l))
        (returns rows p image g a acts n w.memory w.input w.output to w.operands (eqb-true (operand_words a.arguments) n is) there (code known s by_itself o e) by_itself.landed))

    -- ---- the words of the frame, and arguments

    pub frames_home : (n : ℕ) → slice_get s.orders.list place ≡ Some (order.FrameHome n) → FollowFrom known (begun_here known s) (at g place false (a ∷ acts) w Running) q
    frames_home n e = cases (nat_lt word p.limits.area) refl
      where
        o : Order
        o = order.FrameHome n

        word : ℕ
        word = a.frame_base + n

        goes : (b : Bool) → nat_lt word p.limits.area ≡ b → step p S ≡ after p.room 0 (unrefused (put_address (if b then Some word else None) w)) g place true (a ∷ acts) w
        goes b is = step_is known s (Some o) e ∙ ap (λ b. after p.room 0 (unrefused (put_address (if b then Some word else None) w)) g place true (a ∷ acts) w) is

        -- a word that is not in the data area is none of the frame
        cases : (b : Bool) → nat_lt word p.limits.area ≡ b → FollowFrom known (begun_here known s) S q
        cases false is = absurd (stuck_here known s (goes false is))
        cases true is =
            let inside : word < p.limits.area = ltb-true word p.limits.area is in
            let small : word < 65536 = omega arith in
            puts_with known s by_itself o true (put (signed word) w) 3 e (goes true is) (cheap known s o 3 (lit≤ tt) e) (λ room.
            frame_homes rows p image g next n a acts (signed word) w low inside (behind known s by_itself o e) (sym (rows.words.numbers.words.forth word small)) (code known s by_itself o e) (landed_here known s by_itself))

    pub binds_static : (k family offset : ℕ) → slice_get s.orders.list place ≡ Some (order.Bind k family offset) → Follow known (at g place false (a ∷ acts) w Running) q
    binds_static k family offset e =
        let o = order.Bind k family offset in
        let home = home_word p.addresses g family offset in
        let word = (all.stands g s.orders s.unit).value 2 family offset (here + length (bytes_of (load 0 (argument k))) + 3) in
        does known s false 0 (unrefused (bind p.limits.area (argument_behind k a.arguments) (Some home) w)) 2 (begins_next known s by_itself o e) (step_is known s (Some o) e) (cheap known s o 2 (lit≤ tt) e)
        (binds rows p image g next k home word 0 a acts (argument_behind k a.arguments) w low refl (omega (arith, behind known s by_itself o e, listed o))
        ((all.stands g s.orders s.unit).fills.bytes family offset (here + length (bytes_of (load 0 (argument k))) + 3)) (code known s by_itself o e) by_itself.landed)

    pub binds_in_frame : (k offset : ℕ) → slice_get s.orders.list place ≡ Some (order.BindFrame k offset) → Follow known (at g place false (a ∷ acts) w Running) q
    binds_in_frame k offset e =
        let o = order.BindFrame k offset in
        does known s false 0 (unrefused (bind p.limits.area (argument_behind k a.arguments) (frame_word p.limits.area (a ∷ acts) offset) w)) 3 (begins_next known s by_itself o e) (step_is known s (Some o) e) (cheap known s o 3 (lit≤ tt) e)
        (binds_frame rows p image g next k offset 0 a acts (argument_behind k a.arguments) w low refl (omega (arith, behind known s by_itself o e, listed o)) (code known s by_itself o e) by_itself.landed)

    -- ---- control parameters

    -- one that is handed on
    pub hands_special : (k : ℕ) → slice_get s.orders.list place ≡ Some (order.SpecialOut k) → (x : Option Operand) → argument_behind k a.arguments ≡ x
        → FollowFrom known (begun_here known s) (at g place false (a ∷ acts) w Running) q
    hands_special k e x is = cases x is
      where
        held_as : (x : Option Operand) → argument_behind k a.arguments ≡ x → step p S ≡ after p.room 0 (unrefused (held (control_in x) w)) g place false (a ∷ acts) w
        held_as x is = step_is known s (Some (order.SpecialOut k)) e ∙ ap (λ x. after p.room 0 (unrefused (held (control_in x) w)) g place false (a ∷ acts) w) is

        cases : (x : Option Operand) → argument_behind k a.arguments ≡ x → FollowFrom known (begun_here known s) S q
        cases None is = absurd (stuck_here known s (held_as None is))
        cases (Some (Word z)) is = absurd (stuck_here known s (held_as (Some (Word z)) is))
        cases (Some (Held c)) is =
            holds_control known s by_itself (order.SpecialOut k) e c 4 (held_as (Some (Held c)) is) (cheap known s (order.SpecialOut k) 4 (lit≤ tt) e) (λ room.
            hands_on rows p image g next k a acts c w room (omega (arith, behind known s by_itself (order.SpecialOut k) e, listed (order.SpecialOut k))) is (argument_stands p a.segment acts k a.arguments c s.working.3 is) (code known s by_itself (order.SpecialOut k) e) (landed_here known s by_itself))

    -- one that is called
    pub calls_parameter : (k line : ℕ) → slice_get s.orders.list place ≡ Some (order.CallSpecial k line) → (x : Option Operand) → argument_behind k a.arguments ≡ x
        → FollowFrom known (begun_here known s) (at g place false (a ∷ acts) w Running) q
    calls_parameter k line e x is = cases x is
      where
        called_as : (x : Option Operand) → argument_behind k a.arguments ≡ x → step p S ≡ call p line (control_in x) g place false (a ∷ acts) w
        called_as x is = step_is known s (Some (order.CallSpecial k line)) e ∙ ap (λ x. call p line (control_in x) g place false (a ∷ acts) w) is

        cases : (x : Option Operand) → argument_behind k a.arguments ≡ x → FollowFrom known (begun_here known s) S q
        cases None is = absurd (stuck_here known s (called_as None is))
        cases (Some (Word z)) is = absurd (stuck_here known s (called_as (Some (Word z)) is))
        cases (Some (Held (LabelControl to l owner))) is = absurd (stuck_here known s (called_as (Some (Held (LabelControl to l owner))) is))
        cases (Some (Held (SwitchControl to n owner))) is = absurd (stuck_here known s (called_as (Some (Held (SwitchControl to n owner))) is))
        cases (Some (Held (ProcedureControl to n))) is =
            let o = order.CallSpecial k line in
            let own = own_place s.orders place in
            let st = all.stands g s.orders s.unit in
            let far : ℕ = argument_load_size k + 9 in
            let end = here + 3 + length (bytes_of (load 0 (argument k))) + 3 in
            let return = st.value 3 0 ((own + far) % 65536) end in
            let filled : return ≡ (base_of p g + (own + far) % 65536) % 65536 = st.fills.places ((own + far) % 65536) end in
            let sum : return ≡ (here + far) % 65536 = omega arith in
            let i = code known s by_itself o e in
            calls_procedure known s by_itself o e to n line 16 (called_as (Some (Held (ProcedureControl to n))) is) (weight_is known s o e) (λ c eg ep el same room.
            let fits = line_fits known s o e in
            let small : c.line < 65536 = omega arith in
            let line_there : HasAt (begins_here known s) image here (i86.MovImm 2 (imm.Word c.line)) = subst (λ n. HasAt (begins_here known s) image here (i86.MovImm 2 (imm.Word n))) (sym el) i.0 in
            calls_special rows p image k return a acts c (ProcedureControl to n) w room small is same (sum ∙ back_is known s by_itself c far o e (listed o) eg ep) (line_there, i.1) (landed_as known s by_itself c eg))

  -- ---- the way back with an answer

  pub comes_back_true : {q : Watched} {g place : ℕ} {a : OrderActivation} {acts : List OrderActivation} (operands : List Operand) (w : Words) → w.operands ≡ operands
      → (s : Sound p image g place true (a ∷ acts) w q) (by_itself : Alone p image g place true (a ∷ acts) w q s.orders)
      (n : ℕ) → slice_get s.orders.list place ≡ Some (order.Return n true) → (b : Bool) → nat_eq (operand_words a.arguments) n ≡ b → Follow known (at g place true (a ∷ acts) w Running) q
  comes_back_true {q} {g} {place} {a} {acts} operands w same s by_itself n e b is = cases operands same b is
    where
      goes_as : (b : Bool) (xs : List Operand) → nat_eq (operand_words a.arguments) n ≡ b → w.operands ≡ xs
          → step p (at g place true (a ∷ acts) w Running) ≡ return_with b true xs a g place true acts w
      goes_as b xs is same = step_is known s (Some (order.Return n true)) e ∙ ap (λ b. return_with b true w.operands a g place true acts w) is ∙ ap (λ xs. return_with b true xs a g place true acts w) same

      cases : (operands : List Operand) → w.operands ≡ operands → (b : Bool) → nat_eq (operand_words a.arguments) n ≡ b → Follow known (at g place true (a ∷ acts) w Running) q
      cases operands same false is = absurd (stuck_here known s (goes_as false operands is same))
      cases [] same true is = absurd (stuck_here known s (goes_as true [] is same))
      cases (Held c ∷ rest) same true is = absurd (stuck_here known s (goes_as true (Held c ∷ rest) is same))
      cases (Word z ∷ rest) same true is =
          let o = order.Return n true in
          let v = with_operands w (Word z ∷ a.operands) in
          let t = at a.segment a.place true acts v Running in
          let goes : step p (at g place true (a ∷ acts) w Running) ≡ t = goes_as true (Word z ∷ rest) is same in
          let u = has_unit p a.segment a.place true acts v (never_next known s t goes) in
          let to = order_place (base_of p a.segment) u.orders a.place in
          let there : code_place p a.segment a.place ≡ to % 65536 = start_is known a.segment u.orders (λ o. own_place o a.place) u.unit in
          let l : Landed p image (order_place (base_of p g) s.orders place) g true (a ∷ acts) (with_operands w (Word z ∷ rest)) q =
          subst (λ xs. Landed p image (order_place (base_of p g) s.orders place) g true (a ∷ acts) (with_operands w xs) q) same by_itself.landed in
          leads_to known g place true (a ∷ acts) w t 3 goes (cheap known s o 3 (lit≤ tt) e)
          (onward known (λ r l. inl (sound_in known s by_itself a.segment a.place true acts v r u.orders u.unit (s.comes_back.0 u.orders u.unit) goes s.working.5 s.comes_back.1 l))
          (answers rows p image g a acts n w.memory w.input w.output to z rest (eqb-true (operand_words a.arguments) n is) there (code known s by_itself o e) l))
