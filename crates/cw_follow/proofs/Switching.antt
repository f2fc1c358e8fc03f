-- Switches.
use Rattle.std.proofs.Common.{◌≡◌, ◌≢◌, ℕ, zero, suc, ◌+◌, ◌-◌, ◌*◌, ◌%◌, ◌<◌, ◌≤◌, Bool, true, false, ℤ, List, [], ◌∷◌, length, drop, Option, Some, None, refl, sym, ap, ◌∙◌, subst, arith, lit<}
use Rattle.std.specs.Prelude.{slice_get}
use Rattle.std.specs.List.{All}
use Rattle.std.proofs.lemmas.List.Elements.{All-head}
use Rattle.std.proofs.lemmas.Option.{slice_get_within}
use Rattle.cw_i86.specs.declared.instr.Instr.TheVariants as i86
use Rattle.cw_i86.specs.declared.instr.Imm.TheVariants as imm
use Rattle.cw_i86.specs.declared.instr.Rm.TheVariants as rms
use Rattle.cw_run86.specs.Processor.{Told}
use Rattle.cw_run86.specs.Views.{with_number, word_difference}
use Rattle.cw_word.specs.FixedPoint.{FitsWord}
use Rattle.cw_word.specs.Word.{unsigned}
use Rattle.cw_unit.specs.declared.unit.Goal.{Goal}
use Rattle.cw_unit.specs.declared.unit.Def.{Def}
use Rattle.cw_unit.specs.declared.unit.Def.TheVariants as def
use Rattle.cw_unit.specs.Stop.{SwitchRange, Running, Stopped, Stuck}
use Rattle.cw_unit.specs.Words.{LabelControl, SwitchControl, ProcedureControl, Operand, Word, Held, Words}
use Rattle.cw_unit.specs.Step.{switch_of_def, with_label_owner, with_switch_owner, goal_at}
use Rattle.cw_order.specs.declared.order.Order.TheVariants as order
use Rattle.cw_order.specs.declared.order.Orders.{Orders}
use Rattle.cw_order.specs.OrderProgram.{switch_at, label_of, defined_at}
use Rattle.cw_order.specs.OrderState.{OrderActivation, OrderState, at, operand_words, argument_behind, control_in}
use Rattle.cw_order.specs.OrderMachine.{go_to, go_to_goal, go_by_list, go_through, step, weight}
use Rattle.cw_order.specs.FittingWords.{OperandFits}
use Rattle.cw_order.specs.Activations.{ControlStands}
use Rattle.cw_order.proofs.StandingActivations.{stands_above, switch_stands, switches_stand}
use Rattle.cw_tmpl.specs.Mnemonics.{entry_of_table, argument}
use Rattle.cw_tmpl.specs.Library.{stop_place, switch_entry}
use Rattle.cw_tmpl.specs.Names.{switch_start}
use Rattle.cw_tmpl.specs.Templates.{distance, goal_words, switch_pieces}
use Rattle.cw_tmpl.specs.ReferenceCode.{names_of}
use Rattle.cw_tmpl.proofs.Sizes.{own_place, jump_arrives}
use Rattle.cw_follow.specs.Placing.{base_of, label_place, switch_place, definition_place}
use Rattle.cw_follow.proofs.Watched.{Watched}
use Rattle.cw_follow.proofs.Standing.{HasPieces, order_place, HasAll, HasWord}
use Rattle.cw_follow.proofs.Chains.{Is, Leads, view, to_place, jump_to, near, last}
use Rattle.cw_follow.proofs.Straight.{Number, Move, LoadArgument, straight}
use Rattle.cw_follow.proofs.Routines.{with_ax, leads_then}
use Rattle.cw_follow.proofs.Named.{shared_switch_named}
use Rattle.cw_follow.proofs.Stacks.{SwitchNamed, control_small, OperandsAre, owner_above, level, record_of, top_is}
use Rattle.cw_follow.proofs.Orders.{Kept, Landed, further}
use Rattle.cw_follow.proofs.States.{Given, Sound}
use Rattle.cw_follow.proofs.Leaving.{argument_of}
use Rattle.cw_follow.proofs.Tables.{goal_word_is, switches_to, switches_stop}
use Rattle.cw_follow.proofs.Calling.{owned}
use Rattle.cw_follow.proofs.Jumping.{goes_by_entry}
use Rattle.cw_follow.proofs.Naming.{goal_named, own_switch, argument_stands, goal_number, no_goal, switch_listed, label_small, goal_place, start_is}
use Rattle.cw_follow.proofs.Steps.{Follow, leads_to, step_is, weight_is, line_fits, stuck_here, low_room, Alone, code}

module _ (known : Given) where
  open known use {rows, p, image, all, coded, few, low}

  -- the processor comes to the routine of a switch, with an index in AX, the line in DX and the record of the owner in SI
  pub record AtSwitch (place g line : ℕ) (acts : List OrderActivation) (owner : ℕ) (z : ℤ) (w : Words) (q : Watched) : Type 0 where
    pub cx : ℕ
    pub bx : ℕ
    pub si : ℕ
    pub below_top : ℕ
    pub overflow : Bool
    pub cells : ℕ → ℕ
    pub stack : ℕ → ℕ
    pub left_input : List ℕ
    pub told : Told
    pub is : Is image place (view (unsigned z) cx line bx (2 * suc below_top) (record_of acts) si p.limits.area overflow cells stack left_input told) q
    pub owner_is : si ≡ record_of (drop (length acts - owner) acts)
    pub low_top : suc below_top ≤ level acts
    pub kept : Kept p g acts w.memory w.input w.output cells stack left_input told

  at_switch : {start place g line owner : ℕ} {loaded : Bool} {acts : List OrderActivation} {z : ℤ} {w : Words} {u q : Watched} (d : Landed p image start g loaded acts w u) (below_top cx bx si : ℕ) (overflow : Bool)
      → Is image place (view (unsigned z) cx line bx (2 * suc below_top) (record_of acts) si p.limits.area overflow d.cells d.stack d.input d.told) q
      → si ≡ record_of (drop (length acts - owner) acts) → suc below_top ≤ level acts → AtSwitch place g line acts owner z w q
  at_switch d below_top cx bx si overflow is owner_is low_top =
      record { cx = cx; bx = bx; si = si; below_top = below_top; overflow = overflow; cells = d.cells; stack = d.stack; left_input = d.input; told = d.told; is = is; owner_is = owner_is; low_top = low_top; kept = d.kept }

  pub goes_through_switch : {q : Watched} {g place : ℕ} {acts : List OrderActivation} {w : Words} (s : Sound p image g place true acts w q) (by_itself : Alone p image g place true acts w q s.orders) (line steps to n owner : ℕ) (z : ℤ) (rest : List Operand)
      → line < 65536 → SwitchNamed p to n
      → w.operands ≡ Word z ∷ rest → FitsWord z → ControlStands p g acts (SwitchControl to n owner)
      → step p (at g place true acts w Running) ≡ go_through p line (Some (SwitchControl to n owner)) g place false acts w → steps + 15 ≤ weight p (at g place true acts w Running)
      → Leads w.output steps q (AtSwitch (switch_place p to n) g line acts owner z w) → Follow known (at g place true acts w Running) q
  goes_through_switch {q} {g} {place} {acts} {w} s by_itself line steps to n owner z rest line_small named operands fits stands goes paid way = lists (switch_at p to n) refl
    where
      S' : OrderState
      S' = at g place true acts w Running

      lists : (x : Option (List Goal)) → switch_at p to n ≡ x → Follow known S' q
      lists None is = absurd (stuck_here known s (goes ∙ ap (λ x. go_by_list p line x w.operands to owner g place false acts w) is))
      lists (Some gs) is = goals (goal_at gs z) refl
        where
          goes' : step p S' ≡ go_to_goal p line (goal_at gs z) to owner g place false acts w
          goes' = goes ∙ ap (λ x. go_by_list p line x w.operands to owner g place false acts w) is ∙ ap (λ xs. go_by_list p line (Some gs) xs to owner g place false acts w) operands

          found : (o : Orders) × (slice_get p.units to ≡ Some o) × (slice_get o.switches n ≡ Some gs)
          found = switch_listed known to n gs is

          short : length gs < 32768
          short = coded.switches to n found.0 gs found.1 found.2

          place' : ℕ
          place' = base_of p to + switch_start (names_of found.0) n

          at_routine : switch_place p to n % 65536 ≡ place' % 65536
          at_routine = let e : switch_place p to n ≡ place' % 65536 = start_is known to found.0 (λ o. switch_start (names_of o) n) found.1 in omega arith

          i : HasPieces image (all.stands to found.0 found.1).value place' (switch_pieces (names_of found.0) (switch_start (names_of found.0) n) gs)
          i = (all.stands to found.0 found.1).switches n gs found.2 (named found.0 found.1)

          -- the numbers of its stop and of its table
          by : ℕ
          by = (all.stands to found.0 found.1).value 7 switch_entry 0 (place' + 3 + 2 + 3 + 2 + 3)

          table : ℕ
          table = (all.stands to found.0 found.1).value 3 0 ((switch_start (names_of found.0) n + 29) % 65536) (place' + 3 + 2 + 3 + 2 + 3 + 2 + 2 + 2 + 3 + 2 + 5)

          routine : HasAll image place' (with_number 5 1 ∷ i86.Mov true true 3 (rms.Reg 0) ∷ with_number 7 (length gs) ∷ i86.JumpIf 2 3 ∷ i86.Call by ∷ i86.Shift 4 true false (rms.Reg 3)
              ∷ i86.Mov true true 5 (rms.Reg 6) ∷ i86.Mov true true 4 (rms.Reg 5) ∷ i86.MovImm 0 (imm.Word 8) ∷ i86.AluRm 5 true true 4 (rms.Reg 0) ∷ i86.JumpRm (entry_of_table table) ∷ [])
          routine = (i.0, (i.1.0, (i.1.1.0, (i.1.1.1.0, (i.1.1.1.1.0, (i.1.1.1.1.1.0, (i.1.1.1.1.1.1.0, (i.1.1.1.1.1.1.1.0, (i.1.1.1.1.1.1.1.1.0, (i.1.1.1.1.1.1.1.1.1.0, (i.1.1.1.1.1.1.1.1.1.1.0, tt)))))))))))

          -- no such index
          stops_here : length gs ≤ word_difference (unsigned z) 1 → goal_at gs z ≡ None → Follow known S' q
          stops_here far none =
              let by_is : by ≡ (stop_place SwitchRange + (65536 - (place' + 3 + 2 + 3 + 2 + 3) % 65536)) % 65536 = (all.stands to found.0 found.1).fills.library switch_entry (place' + 3 + 2 + 3 + 2 + 3) (lit< tt) in
              let arrives : (place' + 10 + 3 + by) % 65536 ≡ stop_place SwitchRange % 65536 = omega arith in
              leads_to known g place true acts w (at g place false acts w (Stopped SwitchRange (g + 1) line)) (steps + 15) (goes' ∙ ap (λ x. go_to_goal p line x to owner g place false acts w) none) paid
              (further (steps + 15) (let x : steps + 15 ≤ steps + 15 = omega arith in x) (let x : 0 < steps + 15 = omega arith in x)
              (leads_then way (λ r a.
              switches_stop rows p image (suc a.below_top) g line acts (length gs) table by z w.memory w.input w.output a.kept routine (to_place at_routine a.is) a.below_top far all.library line_small arrives refl a.low_top)))

          goals : (x : Option Goal) → goal_at gs z ≡ x → Follow known S' q
          goals None none = stops_here (no_goal gs z fits short none) none
          goals (Some x) isx = labels (label_of p to x) refl
            where
              labels : (l : Option (ℕ × ℕ)) → label_of p to x ≡ l → Follow known S' q
              labels None none =
                  absurd (stuck_here known s (goes' ∙ ap (λ y. go_to_goal p line y to owner g place false acts w) isx ∙ ap (λ y. go_to p (with_label_owner owner y) g place false acts w) none))
              labels (Some l) isl =
                  let k = goal_number gs z x isx in
                  let st = all.stands to found.0 found.1 in
                  let names = names_of found.0 in
                  let filled : table ≡ (base_of p to + (switch_start (names_of found.0) n + 29) % 65536) % 65536 = st.fills.places ((switch_start (names_of found.0) n + 29) % 65536) (place' + 3 + 2 + 3 + 2 + 3 + 2 + 2 + 2 + 3 + 2 + 5) in
                  let table_is : table ≡ (place' + 29) % 65536 = omega arith in
                  let e29 : place' + 3 + 2 + 3 + 2 + 3 + 2 + 2 + 2 + 3 + 2 + 5 ≡ place' + 29 = omega arith in
                  let words = subst (λ y. HasPieces image st.value y (goal_words names gs)) e29 i.1.1.1.1.1.1.1.1.1.1.1 in
                  let goal_word = goal_word_is image st.value names (place' + 29) gs k.0 x words k.2 in
                  let small = label_small known l.0 l.1 in
                  let whole : label_place p l.0 l.1 ≡ label_place p l.0 l.1 % 65536 = omega arith in
                  let word : HasWord image (place' + 29 + 2 * k.0) (label_place p l.0 l.1 % 65536) = subst (HasWord image (place' + 29 + 2 * k.0)) (goal_place known to found.0 found.1 x l (place' + 29 + 2 * k.0 + 2) isl ∙ whole) goal_word in
                  goes_by_entry known s by_itself (steps + 10) l.0 l.1 owner (let y : 0 < steps + 10 = omega arith in y) (goal_named known to n k.0 found.0 gs x l found.1 found.2 (named found.0 found.1) k.2 isl) (stands.1 gs z x l is isx isl)
                  (goes' ∙ ap (λ y. go_to_goal p line y to owner g place false acts w) isx ∙ ap (λ y. go_to p (with_label_owner owner y) g place false acts w) isl) (let y : steps + 10 + 5 ≤ weight p S' = omega arith in y)
                  (leads_then way (λ r a.
                  switches_to rows p image (suc a.below_top) g line acts (length gs) table by z w.memory w.input w.output a.kept routine (to_place at_routine a.is)
                  k.0 (length acts - owner) (label_place p l.0 l.1) k.1 (slice_get_within gs k.0 x k.2) short table_is word a.owner_is))

  -- the way to the routine by a near jump
  pub near_switch : {q : Watched} {g place : ℕ} {acts : List OrderActivation} {w : Words} (s : Sound p image g place true acts w q) (by_itself : Alone p image g place true acts w q s.orders) (line to n by : ℕ) (z : ℤ) (rest : List Operand)
      → w.operands ≡ Word z ∷ rest
      → (order_place (base_of p g) s.orders place + 8 + by) % 65536 ≡ switch_place p to n % 65536
      → HasAll image (order_place (base_of p g) s.orders place) (i86.MovImm 2 (imm.Word line) ∷ i86.Mov true true 6 (rms.Reg 5) ∷ i86.Jump by ∷ [])
      → Leads w.output 3 q (AtSwitch (switch_place p to n) g line acts (length acts) z w)
  near_switch {q} {g} {place} {acts} {w} s by_itself line to n by z rest operands arrives i = from by_itself.landed.top refl
    where
      held : OperandsAre p acts true by_itself.landed.stacked.ax by_itself.landed.stack by_itself.landed.top (Word z ∷ rest)
      held = subst (OperandsAre p acts true by_itself.landed.stacked.ax by_itself.landed.stack by_itself.landed.top) operands by_itself.landed.operands

      from : (top : ℕ) → by_itself.landed.top ≡ top → Leads w.output 3 q (AtSwitch (switch_place p to n) g line acts (length acts) z w)
      from zero same =
          let room = low_room known s in
          let words : operand_words w.operands ≡ operand_words (Word z ∷ rest) = ap operand_words operands in
          let t = top_is p acts by_itself.landed.stack by_itself.landed.top rest held.1 in
          absurd (omega arith)
      from (suc m) same =
          let here = order_place (base_of p g) s.orders place in
          let d = by_itself.landed in
          let r = d.stacked in
          let bp = record_of acts in
          let t = top_is p acts d.stack d.top rest held.1 in
          let there : (here + 3 + 2 + 3 + by) % 65536 ≡ switch_place p to n % 65536 = omega arith in
          let start = with_ax held.0 (subst (λ x. Is image here (view r.ax r.cx r.dx r.bx (2 * x) bp r.si p.limits.area r.overflow d.cells d.stack d.input d.told) q) same r.is) in
          straight rows (Number 2 line ∷ Move 6 5 ∷ []) {n = 1} d.kept.wrote (i.0, (i.1.0, tt)) (tt, (tt, tt)) start (λ u x.
          last rows x d.kept.wrote (at_switch d m r.cx r.bx bp r.overflow (to_place there (near rows by i.1.1.0 x)) (owned known s by_itself) (omega arith)))

  pub no_word : (line : ℕ) (x : Option (List Goal)) (xs : List Operand) (to owner g place : ℕ) (loaded : Bool) (acts : List OrderActivation) (w : Words)
      → ((z : ℤ) (rest : List Operand) → xs ≢ Word z ∷ rest) → go_by_list p line x xs to owner g place loaded acts w ≡ at g place loaded acts w Stuck
  no_word line None xs to owner g place loaded acts w h = refl
  no_word line (Some gs) [] to owner g place loaded acts w h = refl
  no_word line (Some gs) (Held c ∷ rest) to owner g place loaded acts w h = refl
  no_word line (Some gs) (Word z ∷ rest) to owner g place loaded acts w h = absurd (h z rest refl)

  -- a switch by itself, wherever it is: the processor comes to its routine in so many instructions, where there is an index
  pub goes_with : {q : Watched} {g place : ℕ} {acts : List OrderActivation} {w : Words} (s : Sound p image g place true acts w q) (by_itself : Alone p image g place true acts w q s.orders) (line steps to n owner : ℕ) (operands : List Operand)
      → line < 65536 → SwitchNamed p to n → w.operands ≡ operands
      → ControlStands p g acts (SwitchControl to n owner) → step p (at g place true acts w Running) ≡ go_through p line (Some (SwitchControl to n owner)) g place false acts w
      → steps + 15 ≤ weight p (at g place true acts w Running)
      → ((z : ℤ) (rest : List Operand) → w.operands ≡ Word z ∷ rest → Leads w.output steps q (AtSwitch (switch_place p to n) g line acts owner z w)) → Follow known (at g place true acts w Running) q
  goes_with {q} {g} {place} {acts} {w} s by_itself line steps to n owner [] line_small named same stands goes paid way =
      absurd (stuck_here known s (goes ∙ no_word line (switch_at p to n) w.operands to owner g place false acts w (λ z rest e. let f : [] ≡ Word z ∷ rest = sym same ∙ e in absurd (cc))))
  goes_with {q} {g} {place} {acts} {w} s by_itself line steps to n owner (Held c ∷ rest) line_small named same stands goes paid way =
      absurd (stuck_here known s (goes ∙ no_word line (switch_at p to n) w.operands to owner g place false acts w (λ z others e. let f : Held c ∷ rest ≡ Word z ∷ others = sym same ∙ e in absurd (cc))))
  goes_with {q} {g} {place} {acts} {w} s by_itself line steps to n owner (Word z ∷ rest) line_small named same stands goes paid way =
      let fits : FitsWord z = All-head OperandFits (Word z) rest (subst (All OperandFits) same s.fits.words.operands) in
      goes_through_switch s by_itself line steps to n owner z rest line_small named same fits stands goes paid (way z rest same)

  pub switches_own : {q : Watched} {g place : ℕ} {acts : List OrderActivation} {w : Words} (s : Sound p image g place true acts w q) (by_itself : Alone p image g place true acts w q s.orders) (n line : ℕ)
      → slice_get s.orders.list place ≡ Some (order.GoSwitch n line) → Follow known (at g place true acts w Running) q
  switches_own {q} {g} {place} {acts} {w} s by_itself n line e =
      let o = order.GoSwitch n line in
      let own = own_place s.orders place in
      let by = distance (own + 8) (switch_start (names_of s.orders) n) in
      let there : switch_place p g n ≡ (base_of p g + switch_start (names_of s.orders) n) % 65536 = start_is known g s.orders (λ u. switch_start (names_of u) n) s.unit in
      let meets = jump_arrives (base_of p g) own 8 (switch_start (names_of s.orders) n) in
      let arrives : (order_place (base_of p g) s.orders place + 8 + by) % 65536 ≡ switch_place p g n % 65536 = omega arith in
      let paid = weight_is known s o e in
      goes_with s by_itself line 3 g n (length acts) w.operands (line_fits known s o e) (λ u unit. own_switch known s n o e refl u unit) refl (switch_stands p coded.callable g n acts) (step_is known s (Some o) e) (omega arith)
      (λ z rest same. near_switch s by_itself line g n by z rest same arrives (code known s by_itself o e))

  pub switches_by_descriptor : {q : Watched} {g place : ℕ} {acts : List OrderActivation} {w : Words} (s : Sound p image g place true acts w q) (by_itself : Alone p image g place true acts w q s.orders) (d line : ℕ)
      → slice_get s.orders.list place ≡ Some (order.GoSwitchCommon d line) → (x : Option (ℕ × Def)) → defined_at p g d ≡ x → Follow known (at g place true acts w Running) q
  switches_by_descriptor {q} {g} {place} {acts} {w} s by_itself d line e None is =
      absurd (stuck_here known s (step_is known s (Some (order.GoSwitchCommon d line)) e ∙ ap (λ x. go_through p line (with_switch_owner (length acts) (switch_of_def x)) g place false acts w) is))
  switches_by_descriptor {q} {g} {place} {acts} {w} s by_itself d line e (Some (to, def.Label l)) is =
      absurd (stuck_here known s (step_is known s (Some (order.GoSwitchCommon d line)) e ∙ ap (λ x. go_through p line (with_switch_owner (length acts) (switch_of_def x)) g place false acts w) is))
  switches_by_descriptor {q} {g} {place} {acts} {w} s by_itself d line e (Some (to, def.Proc n)) is =
      absurd (stuck_here known s (step_is known s (Some (order.GoSwitchCommon d line)) e ∙ ap (λ x. go_through p line (with_switch_owner (length acts) (switch_of_def x)) g place false acts w) is))
  switches_by_descriptor {q} {g} {place} {acts} {w} s by_itself d line e (Some (to, def.Switch n)) is =
      let o = order.GoSwitchCommon d line in
      let here = order_place (base_of p g) s.orders place in
      let st = all.stands g s.orders s.unit in
      let by = st.value 5 d 0 (here + 3 + 2 + 3) in
      let filled : by ≡ (definition_place p (defined_at p g d) + (65536 - (here + 3 + 2 + 3) % 65536)) % 65536 = st.fills.ahead d (here + 3 + 2 + 3) in
      let defined : definition_place p (defined_at p g d) ≡ switch_place p to n = ap (definition_place p) is in
      let arrives : (here + 8 + by) % 65536 ≡ switch_place p to n % 65536 = omega arith in
      let paid = weight_is known s o e in
      goes_with s by_itself line 3 to n (length acts) w.operands (line_fits known s o e) (λ u unit. shared_switch_named u n (coded.shared g d to (def.Switch n) u is unit)) refl (switches_stand p coded.callable g d acts (Some (to, def.Switch n)) is)
      (step_is known s (Some o) e ∙ ap (λ x. go_through p line (with_switch_owner (length acts) (switch_of_def x)) g place false acts w) is) (omega arith) (λ z rest same. near_switch s by_itself line to n by z rest same arrives (code known s by_itself o e))

  pub switches_by_parameter : {q : Watched} {g place : ℕ} {a : OrderActivation} {acts : List OrderActivation} {w : Words} (s : Sound p image g place true (a ∷ acts) w q) (by_itself : Alone p image g place true (a ∷ acts) w q s.orders) (k line : ℕ)
      → slice_get s.orders.list place ≡ Some (order.GoSwitchSpecial k line)
      → (x : Option Operand) → argument_behind k a.arguments ≡ x → Follow known (at g place true (a ∷ acts) w Running) q
  switches_by_parameter {q} {g} {place} {a} {acts} {w} s by_itself k line e None is =
      absurd (stuck_here known s (step_is known s (Some (order.GoSwitchSpecial k line)) e ∙ ap (λ x. go_through p line (control_in x) g place false (a ∷ acts) w) is))
  switches_by_parameter {q} {g} {place} {a} {acts} {w} s by_itself k line e (Some (Word z)) is =
      absurd (stuck_here known s (step_is known s (Some (order.GoSwitchSpecial k line)) e ∙ ap (λ x. go_through p line (control_in x) g place false (a ∷ acts) w) is))
  switches_by_parameter {q} {g} {place} {a} {acts} {w} s by_itself k line e (Some (Held (LabelControl to l owner))) is =
      absurd (stuck_here known s (step_is known s (Some (order.GoSwitchSpecial k line)) e ∙ ap (λ x. go_through p line (control_in x) g place false (a ∷ acts) w) is))
  switches_by_parameter {q} {g} {place} {a} {acts} {w} s by_itself k line e (Some (Held (ProcedureControl to n))) is =
      absurd (stuck_here known s (step_is known s (Some (order.GoSwitchSpecial k line)) e ∙ ap (λ x. go_through p line (control_in x) g place false (a ∷ acts) w) is))
  switches_by_parameter {q} {g} {place} {a} {acts} {w} s by_itself k line e (Some (Held (SwitchControl to n owner))) is =
      let o = order.GoSwitchSpecial k line in
      let c = SwitchControl to n owner in
      let i = code known s by_itself o e in
      let stands = argument_stands p a.segment acts k a.arguments c s.working.3 is in
      let d = by_itself.landed in
      goes_with s by_itself line 4 to n owner w.operands (line_fits known s o e) (argument_of p k (Held c) d.kept is).1.1 refl (stands_above p g a acts c stands) (step_is known s (Some o) e ∙ ap (λ x. go_through p line (control_in x) g place false (a ∷ acts) w) is)
      (let paid = weight_is known s o e in let x : 4 + 15 ≤ weight p (at g place true (a ∷ acts) w Running) = omega arith in x) (λ z rest same. from i stands z rest same d.top refl)
    where
      all' : List OrderActivation
      all' = a ∷ acts

      here : ℕ
      here = order_place (base_of p g) s.orders place

      from : HasAll image here (i86.MovImm 2 (imm.Word line) ∷ i86.Mov true true 6 (argument (k + 1)) ∷ i86.Mov true true 3 (argument k) ∷ i86.JumpRm (rms.Reg 3) ∷ [])
          → ControlStands p a.segment acts (SwitchControl to n owner)
          → (z : ℤ) (rest : List Operand) → w.operands ≡ Word z ∷ rest → (top : ℕ) → by_itself.landed.top ≡ top → Leads w.output 4 q (AtSwitch (switch_place p to n) g line all' owner z w)
      from i stands z rest operands zero same =
          let d = by_itself.landed in
          let held : OperandsAre p all' true d.stacked.ax d.stack d.top (Word z ∷ rest) = subst (OperandsAre p all' true d.stacked.ax d.stack d.top) operands d.operands in
          let room = low_room known s in
          let words : operand_words w.operands ≡ operand_words (Word z ∷ rest) = ap operand_words operands in
          let t = top_is p all' d.stack d.top rest held.1 in
          absurd (omega arith)
      from i stands z rest operands (suc m) same =
          let d = by_itself.landed in
          let r = d.stacked in
          let c = SwitchControl to n owner in
          let bp = record_of all' in
          let l = level all' in
          let held : OperandsAre p all' true r.ax d.stack d.top (Word z ∷ rest) = subst (OperandsAre p all' true r.ax d.stack d.top) operands d.operands in
          let t = top_is p all' d.stack d.top rest held.1 in
          let start = with_ax held.0 (subst (λ x. Is image here (view r.ax r.cx r.dx r.bx (2 * x) bp r.si p.limits.area r.overflow d.cells d.stack d.input d.told) q) same r.is) in
          let arg = argument_of p k (Held c) d.kept is in
          let below = arg.2 in
          let there : (bp + (4 + 2 * k)) % 65536 ≡ 2 * (l + 6 + k) = omega arith in
          let there' : (bp + (4 + 2 * (k + 1))) % 65536 ≡ 2 * suc (l + 6 + k) = omega arith in
          let la : l + 6 + k < 32768 = omega arith in
          let la' : suc (l + 6 + k) < 32768 = omega arith in
          let owner_word = d.stack (suc (l + 6 + k)) in
          let owner_is : owner_word ≡ record_of (drop (length all' - owner) all') = (owner_above p a acts a.segment c owner_word stands arg.1).0 in
          let to_routine = switch_place p to n in
          let small = control_small p c in
          let whole : to_routine ≡ to_routine % 65536 = omega arith in
          straight rows (Number 2 line ∷ LoadArgument 6 (k + 1) (suc (l + 6 + k)) owner_word ∷ LoadArgument 3 k (l + 6 + k) to_routine ∷ []) {n = 1} d.kept.wrote (i.0, (i.1.0, (i.1.1.0, tt)))
          (tt, ((la', there', refl), ((la, there, arg.0), tt))) start (λ u x.
          last rows x d.kept.wrote (at_switch d m r.cx to_routine owner_word r.overflow (jump_to rows 3 to_routine whole i.1.1.1.0 x) owner_is (omega arith)))
