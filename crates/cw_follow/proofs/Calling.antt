-- Calls, control arguments, and jumps to the body of the segment.
use Rattle.std.proofs.Common.{◌≡◌, inl, inr, ⊎_elim, ℕ, ◌+◌, ◌-◌, ◌%◌, ◌≤◌, Bool, true, false, List, [], ◌∷◌, ◌++◌, length, drop, Option, Some, None, refl, sym, ap, ◌∙◌, subst, arith, lit≤, ◌⊎◌}
use Rattle.std.specs.Prelude.{slice_get, nat_le, ◌&&◌}
use Rattle.std.proofs.lemmas.Bool.{leb-true, false≢true}
use Rattle.cw_i86.specs.declared.instr.Instr.TheVariants as i86
use Rattle.cw_i86.specs.declared.instr.Imm.TheVariants as imm
use Rattle.cw_unit.specs.declared.unit.Def.{Def}
use Rattle.cw_unit.specs.declared.unit.Def.TheVariants as def
use Rattle.cw_unit.specs.Stop.{Running, Stuck}
use Rattle.cw_unit.specs.Words.{Control, LabelControl, SwitchControl, ProcedureControl, Held, Words, Changed, with_operands}
use Rattle.cw_unit.specs.Step.{held, label_of_def, switch_of_def, procedure_of_def, with_label_owner, with_switch_owner, as_procedure}
use Rattle.cw_order.specs.declared.order.Order.{Order}
use Rattle.cw_order.specs.declared.order.Order.TheVariants as order
use Rattle.cw_order.specs.declared.order.Orders.{Orders}
use Rattle.cw_order.specs.OrderProgram.{ProcedureEntry, place_of, procedure_at, defined_at}
use Rattle.cw_order.specs.OrderState.{OrderActivation, OrderState, at, stack_words, frame_end}
use Rattle.cw_order.specs.OrderCosts.{weight_of}
use Rattle.cw_order.specs.OrderMachine.{after, unrefused, leave_for, called, call_at, call_entry, call, carry_out, step, weight}
use Rattle.cw_order.specs.Activations.{ActivationsStand, Beginning, StateStands}
use Rattle.cw_tmpl.specs.Blocks.{left_at}
use Rattle.cw_tmpl.specs.Names.{procedure_start}
use Rattle.cw_tmpl.specs.Templates.{distance}
use Rattle.cw_tmpl.specs.ShortForms.{is_short}
use Rattle.cw_tmpl.specs.ReferenceCode.{mark_starts, names_of, reach_of}
use Rattle.cw_follow.specs.Placing.{base_of, start_in, procedure_place, definition_place}
use Rattle.cw_tmpl.proofs.Sizes.{own_place, mark_start, jump_arrives, size_by}
use Rattle.cw_follow.proofs.Watched.{Watched}
use Rattle.cw_follow.proofs.Standing.{order_place, HasFrom}
use Rattle.cw_follow.proofs.Chains.{to_place}
use Rattle.cw_follow.proofs.Named.{shared_label_named, shared_switch_named}
use Rattle.cw_follow.proofs.Stacks.{record_of, code_place, control_place, OwnerIs}
use Rattle.cw_follow.proofs.Orders.{Landed, Leading, CalledAt, LandedAt}
use Rattle.cw_follow.proofs.States.{Given, ComesBack, Sound, Arrived, has_unit, not_stuck, went_on, stand_below, come_back_below, before_block}
use Rattle.cw_follow.proofs.Calls.{calls}
use Rattle.cw_follow.proofs.Leaving.{controls, goes_main}
use Rattle.cw_follow.proofs.Naming.{taken_dropped, both_true, some_same, mark_listed, procedure_is, start_is, begins_there}
use Rattle.cw_follow.proofs.Steps.{leads_to, onward, few_segments, step_is, weight_is, fits_next, stands_next, never_next, stuck_here, does, line_fits, start, Alone, code, behind, begins_next, FollowFrom, begins_here, begun_here, landed_here}
use Rattle.cw_tmpl.specs.declared.blocks.Block.TheVariants as block

module _ (known : Given) where
  open known use {rows, p, image, all, coded, few, low}

  module _ {q : Watched} {g place : ℕ} {loaded : Bool} {acts : List OrderActivation} {w : Words} (s : Sound p image g place loaded acts w q) (by_itself : Alone p image g place loaded acts w q s.orders) where
    abbrev S : OrderState
    S = at g place loaded acts w Running

    -- before another block, of any segment
    pub sound_in : (g' to : ℕ) (m : Bool) (acts' : List OrderActivation) (v : Words) (r : Watched) (o : Orders) → slice_get p.units g' ≡ Some o → left_at 0 o.list to ≡ 0
        → step p S ≡ at g' to m acts' v Running → ActivationsStand p g' acts' → ComesBack p acts'
        → Landed p image (order_place (base_of p g') o to) g' m acts' v r → Arrived p image g' to m acts' v r
    sound_in g' to m acts' v r o unit begins e working comes_back l =
        let t = at g' to m acts' v Running in
        before_block o unit begins l (fits_next known s t e) (stands_next known s t e) working comes_back (never_next known s t e)

    -- words are put, with room
    pub puts_with : {first : Watched} (o : Order) (m : Bool) (v : Words) (limit : ℕ) → slice_get s.orders.list place ≡ Some o → step p S ≡ after p.room 0 (Changed v) g place m acts w → limit ≤ weight p S
        → (stack_words v.operands acts ≤ 32000 → Leading w.output limit first (Landed p image (order_place (base_of p g) s.orders (place + 1)) g m acts v)) → FollowFrom known first S q
    puts_with o m v limit e is paid d =
        let on = went_on p g place loaded m 0 acts w v is s.never in
        let most = coded.room in
        let room = on.room in
        does known s m 0 (Changed v) limit (begins_next known s by_itself o e) is paid (d (omega arith))

    -- the place behind the code of an order
    pub back_is : (c : OrderActivation) (n : ℕ) (o : Order) → slice_get s.orders.list place ≡ Some o → size_by (is_short (reach_of s.orders)) place block.Single o ≡ n → c.segment ≡ g → c.place ≡ place + 1
        → (order_place (base_of p g) s.orders place + n) % 65536 ≡ code_place p c.segment c.place
    back_is c n o e size eg ep =
        let next = behind known s by_itself o e in
        let there : code_place p g (place + 1) ≡ order_place (base_of p g) s.orders (place + 1) % 65536 = start_is known g s.orders (λ u. own_place u (place + 1)) s.unit in
        let same : code_place p c.segment c.place ≡ code_place p g (place + 1) = ap (λ m. code_place p m c.place) eg ∙ ap (code_place p g) ep in
        let sum : (order_place (base_of p g) s.orders place + n) % 65536 ≡ order_place (base_of p g) s.orders (place + 1) % 65536 = omega arith in
        sum ∙ sym there ∙ sym same

    -- the activation at work owns what is named
    pub owned : record_of acts ≡ record_of (drop (length acts - length acts) acts)
    owned = let e : 0 ≡ length acts - length acts = omega arith in ap (λ n. record_of (drop n acts)) e

    -- where a label's mark is, without the last activations
    pub left_for : {first : Watched} (to m n : ℕ) (limit : ℕ) → step p S ≡ leave_for (place_of p to m) to n g place false acts w → limit ≤ weight p S
        → ((k : ℕ) (o : Orders) → slice_get p.units to ≡ Some o → place_of p to m ≡ Some k → k ≤ length o.list
        → Leading w.output limit first (Landed p image (order_place (base_of p to) o k) to false (drop n acts) (with_operands w []))) → FollowFrom known first S q
    left_for {first} to m n limit e paid d = cases (place_of p to m) refl
      where
        cases : (k : Option ℕ) → place_of p to m ≡ k → FollowFrom known first S q
        cases None is = absurd (not_stuck p g place false acts w (never_next known s (at g place false acts w Stuck) (e ∙ ap (λ k. leave_for k to n g place false acts w) is)))
        cases (Some k) is =
            let t = at to k false (drop n acts) (with_operands w []) Running in
            let goes : step p S ≡ t = e ∙ ap (λ k. leave_for k to n g place false acts w) is in
            let u = has_unit p to k false (drop n acts) (with_operands w []) (never_next known s t goes) in
            leads_to known g place loaded acts w t limit goes paid
            (onward known (λ r l. inl (sound_in to k false (drop n acts) (with_operands w []) r u.orders u.unit (begins_there known to m k u.orders u.unit is) goes
            (stand_below p n g to acts s.working) (come_back_below p n acts s.comes_back) l)) (d k u.orders u.unit is u.within))

  -- ---- all operands on the stack

  module _ {q : Watched} {g place : ℕ} {acts : List OrderActivation} {w : Words} (s : Sound p image g place false acts w q) (by_itself : Alone p image g place false acts w q s.orders) where
    abbrev F : OrderState
    F = at g place false acts w Running

    abbrev here : ℕ
    here = order_place (base_of p g) s.orders place

    -- ---- calls

    -- the processor stands before the Enter of the procedure that an order calls
    pub calls_procedure : {first : Watched} (o : Order) → slice_get s.orders.list place ≡ Some o → (to n line limit : ℕ) → step p F ≡ call p line (Some (ProcedureControl to n)) g place false acts w → limit ≤ weight p F
        → ((c : OrderActivation) → c.segment ≡ g → c.place ≡ place + 1 → c.line ≡ line → w.operands ≡ c.arguments ++ c.operands → stack_words [] (c ∷ acts) ≤ 32000
        → Leading w.output limit first (CalledAt p image (procedure_place p to n) c acts w))
        → FollowFrom known first F q
    calls_procedure {first} order here_is to n line limit e paid d = entry (procedure_at p to n) refl
      where
        back_begins : (o : Orders) → slice_get p.units g ≡ Some o → left_at 0 o.list (place + 1) ≡ 0
        back_begins o unit = let same : s.orders ≡ o = some_same (sym s.unit ∙ unit) in subst (λ x. left_at 0 x.list (place + 1) ≡ 0) same (begins_next known s by_itself order here_is)

        c : ProcedureEntry → OrderActivation
        c x = called x.arguments (frame_end p acts) g place line w.operands

        test : ProcedureEntry → Bool
        test x = nat_le x.arguments (length w.operands) && nat_le (stack_words [] (c x ∷ acts)) p.room

        at_place : (x : ProcedureEntry) → procedure_at p to n ≡ Some x → (b : Bool) (k : Option ℕ) → test x ≡ b → place_of p to x.mark ≡ k → FollowFrom known first F q
        at_place x is b k eb ek =
            cases b k eb ek
            (e ∙ ap (λ y. call_entry p line y to g place false acts w) is ∙ ap (λ y. call_at y (place_of p to x.mark) to (c x) g place false acts w) eb ∙ ap (λ y. call_at b y to (c x) g place false acts w) ek)
          where
            cases : (b : Bool) (k : Option ℕ) → test x ≡ b → place_of p to x.mark ≡ k → step p F ≡ call_at b k to (c x) g place false acts w → FollowFrom known first F q
            cases true None eb ek goes = absurd (stuck_here known s goes)
            cases false None eb ek goes = absurd (stuck_here known s goes)
            cases false (Some k) eb ek goes = absurd (stuck_here known s goes)
            cases true (Some k) eb ek goes =
                let t = at to k false (c x ∷ acts) (with_operands w []) Running in
                let u = has_unit p to k false (c x ∷ acts) (with_operands w []) (never_next known s t goes) in
                let fits = leb-true (stack_words [] (c x ∷ acts)) p.room (both_true (nat_le x.arguments (length w.operands)) (nat_le (stack_words [] (c x ∷ acts)) p.room) eb).1 in
                let most = coded.room in
                let room : stack_words [] (c x ∷ acts) ≤ 32000 = omega arith in
                let start_there : procedure_start (names_of u.orders) n ≡ own_place u.orders k = procedure_is known to n k u.orders x u.unit is ek u.within in
                let there : procedure_place p to n ≡ order_place (base_of p to) u.orders k % 65536 =
                start_is known to u.orders (λ o. procedure_start (names_of o) n) u.unit ∙ ap (λ m. (base_of p to + m) % 65536) start_there in
                leads_to known g place false acts w t limit goes paid
                (onward known (λ r l. inr (record {
                  orders = u.orders;
                  unit = u.unit;
                  begins = begins_there known to x.mark k u.orders u.unit ek;
                  called_at = arrived r l there;
                  fits = fits_next known s t goes;
                  stands = stands_next known s t goes;
                  beginning = beginning_of (stands_next known s t goes);
                  comes_back = (back_begins, s.comes_back);
                  never = never_next known s t goes;
                })) (d (c x) refl refl refl (taken_dropped x.arguments w.operands) room))
              where
                arrived : (r : Watched) → {to' : ℕ} {place' : ℕ} → CalledAt p image place' (c x) acts w r → place' ≡ to' % 65536 → CalledAt p image to' (c x) acts (with_operands w []) r
                arrived r l e = record { called = l.called; is = to_place (omega (arith, e)) l.is }

                beginning_of : StateStands p (at to k false (c x ∷ acts) (with_operands w []) Running) → Beginning p to k (c x) acts []
                beginning_of h = ⊎_elim (λ (a : ActivationsStand p to (c x ∷ acts)). absurd (false≢true a.0)) (λ (b : Beginning p to k (c x) acts []). b) h.last

        entry : (x : Option ProcedureEntry) → procedure_at p to n ≡ x → FollowFrom known first F q
        entry None is = absurd (stuck_here known s (e ∙ ap (λ y. call_entry p line y to g place false acts w) is))
        entry (Some x) is = at_place x is (test x) (place_of p to x.mark) refl refl

    pub landed_as : (c : OrderActivation) → c.segment ≡ g → LandedAt (begins_here known s) p image (order_place (base_of p g) s.orders place) c.segment false acts w (begun_here known s)
    landed_as c eg = subst (λ m. LandedAt (begins_here known s) p image here m false acts w (begun_here known s)) (sym eg) (landed_here known s by_itself)

    pub calls_own : (n line : ℕ) → slice_get s.orders.list place ≡ Some (order.CallProc n line) → FollowFrom known (begun_here known s) F q
    calls_own n line e =
        let o = order.CallProc n line in
        let own = own_place s.orders place in
        let by = distance (own + 6) (procedure_start (names_of s.orders) n) in
        let there : procedure_place p g n ≡ (base_of p g + procedure_start (names_of s.orders) n) % 65536 = start_is known g s.orders (λ o. procedure_start (names_of o) n) s.unit in
        let meets = jump_arrives (base_of p g) own 6 (procedure_start (names_of s.orders) n) in
        let arrives_there : (here + 6 + by) % 65536 ≡ procedure_place p g n % 65536 = omega arith in
        calls_procedure o e g n line 2 (step_is known s (Some o) e) (let x = weight_is known s o e in let y : 2 ≤ weight p F = omega arith in y) (λ c eg ep el same room.
        calls rows p image (procedure_place p g n) by line c acts w el (line_fits known s o e) room same arrives_there (back_is s by_itself c 6 o e refl eg ep) (code known s by_itself o e) (landed_as c eg))

    pub calls_common : (d line : ℕ) → slice_get s.orders.list place ≡ Some (order.CallCommon d line) → (x : Option (ℕ × Def)) → defined_at p g d ≡ x → FollowFrom known (begun_here known s) F q
    calls_common d line e x is = cases x is
      where
        stepped : (x : Option (ℕ × Def)) → defined_at p g d ≡ x → step p F ≡ call p line (as_procedure (procedure_of_def x)) g place false acts w
        stepped x is = step_is known s (Some (order.CallCommon d line)) e ∙ ap (λ x. call p line (as_procedure (procedure_of_def x)) g place false acts w) is

        cases : (x : Option (ℕ × Def)) → defined_at p g d ≡ x → FollowFrom known (begun_here known s) F q
        cases (Some (to, def.Proc n)) is =
            let o = order.CallCommon d line in
            let by = (all.stands g s.orders s.unit).value 5 d 0 (here + 3 + 3) in
            let filled : by ≡ (definition_place p (defined_at p g d) + (65536 - (here + 3 + 3) % 65536)) % 65536 = (all.stands g s.orders s.unit).fills.ahead d (here + 3 + 3) in
            let defined : definition_place p (defined_at p g d) ≡ procedure_place p to n = ap (definition_place p) is in
            let arrives_there : (here + 6 + by) % 65536 ≡ procedure_place p to n % 65536 = omega arith in
            calls_procedure o e to n line 2 (stepped (Some (to, def.Proc n)) is) (let x = weight_is known s o e in let y : 2 ≤ weight p F = omega arith in y) (λ c eg ep el same room.
            calls rows p image (procedure_place p to n) by line c acts w el (line_fits known s o e) room same arrives_there (back_is s by_itself c 6 o e refl eg ep) (code known s by_itself o e) (landed_as c eg))
        cases (Some (to, def.Label l)) is = absurd (stuck_here known s (stepped (Some (to, def.Label l)) is))
        cases (Some (to, def.Switch n)) is = absurd (stuck_here known s (stepped (Some (to, def.Switch n)) is))
        cases None is = absurd (stuck_here known s (stepped None is))

    -- ---- control arguments

    pub holds_control : {first : Watched} (o : Order) → slice_get s.orders.list place ≡ Some o → (c : Control) (limit : ℕ) → step p F ≡ after p.room 0 (held (Some c) w) g place false acts w → limit ≤ weight p F
        → (stack_words (Held c ∷ w.operands) acts ≤ 32000 → Leading w.output limit first (Landed p image (order_place (base_of p g) s.orders (place + 1)) g false acts (with_operands w (Held c ∷ w.operands)))) → FollowFrom known first F q
    holds_control o here_is c limit e paid d = puts_with s by_itself o false (with_operands w (Held c ∷ w.operands)) limit here_is e paid d

    -- a place in the code of the segment
    own_filled : (f : Orders → ℕ) (after : ℕ) → (all.stands g s.orders s.unit).value 3 0 (f s.orders % 65536) after ≡ start_in p g (slice_get p.units g) f
    own_filled f after =
        let filled = (all.stands g s.orders s.unit).fills.places (f s.orders % 65536) after in
        let sum : (base_of p g + f s.orders % 65536) % 65536 ≡ (base_of p g + f s.orders) % 65536 = omega arith in
        filled ∙ sum ∙ sym (start_is known g s.orders f s.unit)

    pub controls_own : (c : Control) (o : Order) (f : Orders → ℕ) → slice_get s.orders.list place ≡ Some o
        → carry_out p (Some o) g place false acts w ≡ after p.room 0 (held (Some c) w) g place false acts w → 3 ≤ weight_of o → size_by (is_short (reach_of s.orders)) place block.Single o ≡ 5
        → start_in p g (slice_get p.units g) f ≡ control_place p c → OwnerIs p acts c (record_of acts)
        → HasFrom (begins_here known s) image (order_place (base_of p g) s.orders place)
        (i86.Push 5 ∷ i86.MovImm 0 (imm.Word ((all.stands g s.orders s.unit).value 3 0 (f s.orders % 65536) (order_place (base_of p g) s.orders place + 1 + 3))) ∷ i86.Push 0 ∷ []) → FollowFrom known (begun_here known s) F q
    controls_own c o f e acts_as cheap size there owner i =
        let paid = weight_is known s o e in
        let next = behind known s by_itself o e in
        let end : here + 5 ≡ order_place (base_of p g) s.orders (place + 1) = omega arith in
        holds_control o e c 3 (step_is known s (Some o) e ∙ acts_as) (let x : 3 ≤ weight p F = omega arith in x) (λ room.
        controls rows p image g (order_place (base_of p g) s.orders (place + 1)) ((all.stands g s.orders s.unit).value 3 0 (f s.orders % 65536) (here + 1 + 3)) acts c w room end (own_filled f (here + 1 + 3) ∙ there) owner i (landed_here known s by_itself))

    controls_common : (c : Control) (o : Order) (d : ℕ) → slice_get s.orders.list place ≡ Some o → carry_out p (Some o) g place false acts w ≡ after p.room 0 (held (Some c) w) g place false acts w
        → 3 ≤ weight_of o → size_by (is_short (reach_of s.orders)) place block.Single o ≡ 5
        → definition_place p (defined_at p g d) ≡ control_place p c → OwnerIs p acts c (record_of acts)
        → HasFrom (begins_here known s) image (order_place (base_of p g) s.orders place)
        (i86.Push 5 ∷ i86.MovImm 0 (imm.Word ((all.stands g s.orders s.unit).value 4 d 0 (order_place (base_of p g) s.orders place + 1 + 3))) ∷ i86.Push 0 ∷ []) → FollowFrom known (begun_here known s) F q
    controls_common c o d e acts_as cheap size there owner i =
        let paid = weight_is known s o e in
        let next = behind known s by_itself o e in
        let end : here + 5 ≡ order_place (base_of p g) s.orders (place + 1) = omega arith in
        let filled = (all.stands g s.orders s.unit).fills.definitions d (here + 1 + 3) in
        holds_control o e c 3 (step_is known s (Some o) e ∙ acts_as) (let x : 3 ≤ weight p F = omega arith in x) (λ room.
        controls rows p image g (order_place (base_of p g) s.orders (place + 1)) ((all.stands g s.orders s.unit).value 4 d 0 (here + 1 + 3)) acts c w room end (filled ∙ there) owner i (landed_here known s by_itself))

    -- what is defined, as a control argument
    abbrev control_of : ℕ × Def → Control
    control_of (to, def.Label l) = LabelControl to l (length acts)
    control_of (to, def.Switch n) = SwitchControl to n (length acts)
    control_of (to, def.Proc n) = ProcedureControl to n

    control_defined : (d : ℕ) (x : ℕ × Def) → defined_at p g d ≡ Some x → (definition_place p (defined_at p g d) ≡ control_place p (control_of x)) × OwnerIs p acts (control_of x) (record_of acts)
    control_defined d (to, def.Label l) is = (ap (definition_place p) is, (owned s by_itself, λ o unit. shared_label_named o l (coded.shared g d to (def.Label l) o is unit)))
    control_defined d (to, def.Switch n) is = (ap (definition_place p) is, (owned s by_itself, λ o unit. shared_switch_named o n (coded.shared g d to (def.Switch n) o is unit)))
    control_defined d (to, def.Proc n) is = (ap (definition_place p) is, tt)

    -- an order takes what is defined and of its sort, and nothing else
    abbrev OfSort : (Option (ℕ × Def) → Option Control) → Option (ℕ × Def) → Type 0
    OfSort sort x = (sort x ≡ None) ⊎ ((y : ℕ × Def) × (x ≡ Some y) × (sort x ≡ Some (control_of y)))

    label_or_none : (x : Option (ℕ × Def)) → OfSort (λ y. with_label_owner (length acts) (label_of_def y)) x
    label_or_none (Some (to, def.Label l)) = inr ((to, def.Label l), refl, refl)
    label_or_none _ = inl refl

    switch_or_none : (x : Option (ℕ × Def)) → OfSort (λ y. with_switch_owner (length acts) (switch_of_def y)) x
    switch_or_none (Some (to, def.Label l)) = inl refl
    switch_or_none (Some (to, def.Switch n)) = inr ((to, def.Switch n), refl, refl)
    switch_or_none (Some (to, def.Proc n)) = inl refl
    switch_or_none None = inl refl

    procedure_or_none : (x : Option (ℕ × Def)) → OfSort (λ y. as_procedure (procedure_of_def y)) x
    procedure_or_none (Some (to, def.Label l)) = inl refl
    procedure_or_none (Some (to, def.Switch n)) = inl refl
    procedure_or_none (Some (to, def.Proc n)) = inr ((to, def.Proc n), refl, refl)
    procedure_or_none None = inl refl

    common_follows : (o : Order) (d : ℕ) (sort : Option (ℕ × Def) → Option Control) → slice_get s.orders.list place ≡ Some o
        → carry_out p (Some o) g place false acts w ≡ after p.room 0 (unrefused (held (sort (defined_at p g d)) w)) g place false acts w → 3 ≤ weight_of o → size_by (is_short (reach_of s.orders)) place block.Single o ≡ 5
        → HasFrom (begins_here known s) image (order_place (base_of p g) s.orders place)
        (i86.Push 5 ∷ i86.MovImm 0 (imm.Word ((all.stands g s.orders s.unit).value 4 d 0 (order_place (base_of p g) s.orders place + 1 + 3))) ∷ i86.Push 0 ∷ [])
        → OfSort sort (defined_at p g d) → FollowFrom known (begun_here known s) F q
    common_follows o d sort e acts_as cheap size i (inl none) =
        absurd (stuck_here known s (step_is known s (Some o) e ∙ acts_as ∙ ap (λ c. after p.room 0 (unrefused (held c w)) g place false acts w) none))
    common_follows o d sort e acts_as cheap size i (inr x) =
        let there = control_defined d x.0 x.1 in
        controls_common (control_of x.0) o d e (acts_as ∙ ap (λ c. after p.room 0 (unrefused (held c w)) g place false acts w) x.2) cheap size there.0 there.1 i

    pub labels_common : (d : ℕ) → slice_get s.orders.list place ≡ Some (order.LabelCommon d) → FollowFrom known (begun_here known s) F q
    labels_common d e =
        let o = order.LabelCommon d in
        common_follows o d (λ x. with_label_owner (length acts) (label_of_def x)) e refl (lit≤ tt) refl (code known s by_itself o e) (label_or_none (defined_at p g d))

    pub switches_common : (d : ℕ) → slice_get s.orders.list place ≡ Some (order.SwitchCommon d) → FollowFrom known (begun_here known s) F q
    switches_common d e =
        let o = order.SwitchCommon d in
        common_follows o d (λ x. with_switch_owner (length acts) (switch_of_def x)) e refl (lit≤ tt) refl (code known s by_itself o e) (switch_or_none (defined_at p g d))

    pub procedures_common : (d : ℕ) → slice_get s.orders.list place ≡ Some (order.ProcCommon d) → FollowFrom known (begun_here known s) F q
    procedures_common d e =
        let o = order.ProcCommon d in
        common_follows o d (λ x. as_procedure (procedure_of_def x)) e refl (lit≤ tt) refl (code known s by_itself o e) (procedure_or_none (defined_at p g d))

    -- ---- jumps to the body of the segment

    pub goes_to_main : (m : ℕ) → slice_get s.orders.list place ≡ Some (order.GoMain m) → FollowFrom known (begun_here known s) F q
    goes_to_main m e =
        let own = own_place s.orders place in
        let by = distance (own + 15) (mark_starts s.orders m) in
        let segment = (all.stands g s.orders s.unit).value 8 3 0 (here + 3 + 3 + 3) in
        let filled = (all.stands g s.orders s.unit).fills.number (here + 3 + 3 + 3) in
        let few_here = few_segments known s in
        let is_number : segment ≡ g + 1 = omega arith in
        left_for s by_itself g m (length acts) 16 (step_is known s (Some (order.GoMain m)) e) (weight_is known s (order.GoMain m) e) (λ k o unit there within.
        let same : o ≡ s.orders = some_same (sym unit ∙ s.unit) in
        let within' : k ≤ length s.orders.list = subst (λ x. k ≤ length x.list) same within in
        let at_mark : start known s m ≡ order_place (base_of p g) s.orders k = ap (λ n. base_of p g + n) (mark_start s.orders m k (mark_listed known g m k s.orders s.unit there) within') in
        subst (λ x. Leading w.output 16 (begun_here known s) (Landed p image (order_place (base_of p g) x k) g false (drop (length acts) acts) (with_operands w []))) (sym same)
        (subst (λ a. Leading w.output 16 (begun_here known s) (Landed p image a g false (drop (length acts) acts) (with_operands w []))) at_mark
        (goes_main rows p image g (start known s m) by segment acts w is_number few_here (jump_arrives (base_of p g) own 15 (mark_starts s.orders m)) (code known s by_itself (order.GoMain m) e) (landed_here known s by_itself))))
