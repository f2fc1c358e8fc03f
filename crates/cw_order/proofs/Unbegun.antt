-- A state of the orders stands behind a Start only where that Start was carried out before it.
use Rattle.std.proofs.Common.{◌≡◌, ℕ, zero, suc, ◌+◌, Bool, true, false, List, [], ◌∷◌, drop, Option, Some, None, refl, ap, ◌∙◌, arith}
use Rattle.std.specs.Prelude.{slice_get, nat_le, nat_lt, nat_eq, ◌&&◌, length}
use Rattle.cw_unit.specs.declared.unit.Goal.{Goal}
use Rattle.cw_unit.specs.Stop.{Running}
use Rattle.cw_unit.specs.Words.{Operand, Word, Held, Control, LabelControl, SwitchControl, ProcedureControl, Words, Outcome, Changed, Refused, Impossible}
use Rattle.cw_unit.specs.Operation.{perform}
use Rattle.cw_unit.specs.Step.{with_label_owner, goal_at}
use Rattle.cw_order.specs.declared.order.Order.{Order}
use Rattle.cw_order.specs.declared.order.Order.TheVariants as order
use Rattle.cw_order.specs.declared.order.Orders.{Orders}
use Rattle.cw_order.specs.Loading.{loaded_after}
use Rattle.cw_order.specs.OrderProgram.{LabelEntry, ProcedureEntry, OrderProgram, order_at, place_of, label_at, procedure_at, switch_at, label_of}
use Rattle.cw_order.specs.OrderChanges.{Way, Onward, ToMark, Barred, Nowhere}
use Rattle.cw_order.specs.OrderState.{OrderActivation, OrderState, at, operand_words, stack_words, frame_end}
use Rattle.cw_order.specs.OrderActions.{Action, Perform, Access, Alter, AlterWithin, Pass, Branch, GoMain, GoLabel, GoSwitch, Call, Enter, Return, EndBody, action_of}
use Rattle.cw_order.specs.OrderMachine.{go_on, go_at, after, unrefused, leave_for, dropped_by, called, call_at, call_entry, call, enter_with, enter, return_with, come_back, next_body, end_body, branch, go_to_entry, go_to, go_to_goal, go_by_list, go_through, act, carry_with, carry_out}

module _ (p : OrderProgram) where
  -- no Start stands right before a place
  abbrev pub NotBehind : (g place : ℕ) → Type 0
  NotBehind g place = (j line : ℕ) → place ≡ suc j → order_at p g j ≡ Some (order.Start line) → ⊥

  -- nor before the places where callers go on
  abbrev pub AllFree : List OrderActivation → Type 0
  AllFree [] = Unit {0}
  AllFree (a ∷ acts) = NotBehind a.segment a.place × AllFree acts

  -- so it is of a state that is running
  abbrev pub Free : OrderState → Type 0
  Free (at g place loaded acts w Running) = NotBehind g place × AllFree acts
  Free _ = Unit {0}

  pub not_behind_first : (g place : ℕ) → place ≡ 0 → NotBehind g place
  not_behind_first g place first j line e start = absurd (omega arith)

  pub not_behind_other : (g place : ℕ) → ((line : ℕ) → order_at p g place ≡ Some (order.Start line) → ⊥) → NotBehind g (place + 1)
  not_behind_other g place other j line e start = let same : place ≡ j = omega arith in other line (ap (order_at p g) same ∙ start)

  all_free_below : (n : ℕ) (acts : List OrderActivation) → AllFree acts → AllFree (drop n acts)
  all_free_below zero acts h = h
  all_free_below (suc n) [] h = tt
  all_free_below (suc n) (a ∷ acts) h = all_free_below n acts h.1

  module _ (marks : (g m place : ℕ) → place_of p g m ≡ Some place → NotBehind g place) (entries : (g : ℕ) (o : Orders) → slice_get p.units g ≡ Some o → o.entry ≡ 0) where
    module _ (g place : ℕ) (loaded : Bool) (w : Words) (next : NotBehind g (place + 1)) where
      module _ (acts : List OrderActivation) (free : AllFree acts) where
        free_after : (line : ℕ) (o : Outcome) → Free (after p.room line o g place loaded acts w)
        free_after line (Changed v) = cases (nat_le (stack_words v.operands acts) p.room)
          where
            cases : (b : Bool) → Free (go_on b g place loaded acts w v)
            cases true = (next, free)
            cases false = tt
        free_after line (Refused kind) = tt
        free_after line Impossible = tt

        free_left : (to m n : ℕ) → Free (leave_for (place_of p to m) to n g place loaded acts w)
        free_left to m n = cases (place_of p to m) refl
          where
            cases : (k : Option ℕ) → place_of p to m ≡ k → Free (leave_for k to n g place loaded acts w)
            cases None is = tt
            cases (Some k) is = (marks to m k is, all_free_below n acts free)

        free_branch : (line : ℕ) (way : Way) → Free (branch p line way g place loaded acts w)
        free_branch line (Onward v) = (next, free)
        free_branch line (ToMark m v) = cases (place_of p g m) refl
          where
            cases : (k : Option ℕ) → place_of p g m ≡ k → Free (go_at k g place loaded acts w v)
            cases None is = tt
            cases (Some k) is = (marks g m k is, free)
        free_branch line (Barred kind) = tt
        free_branch line Nowhere = tt

        free_entry : (l : Option LabelEntry) (to owner : ℕ) → Free (go_to_entry p l to owner g place loaded acts w)
        free_entry None to owner = tt
        free_entry (Some l) to owner = free_left to l.mark (dropped_by l.in_procedure owner acts)

        free_to : (c : Option Control) → Free (go_to p c g place loaded acts w)
        free_to (Some (LabelControl to l owner)) = free_entry (label_at p to l) to owner
        free_to _ = tt

        free_goal : (line : ℕ) (x : Option Goal) (to owner : ℕ) → Free (go_to_goal p line x to owner g place loaded acts w)
        free_goal line None to owner = tt
        free_goal line (Some x) to owner = free_to (with_label_owner owner (label_of p to x))

        free_list : (line : ℕ) (gs : Option (List Goal)) (operands : List Operand) (to owner : ℕ) → Free (go_by_list p line gs operands to owner g place loaded acts w)
        free_list line (Some gs) (Word z ∷ rest) to owner = free_goal line (goal_at gs z) to owner
        free_list line (Some gs) (Held c ∷ rest) to owner = tt
        free_list line (Some gs) [] to owner = tt
        free_list line None operands to owner = tt

        free_through : (line : ℕ) (c : Option Control) → Free (go_through p line c g place loaded acts w)
        free_through line (Some (SwitchControl to n owner)) = free_list line (switch_at p to n) w.operands to owner
        free_through line _ = tt

        free_called : (b : Bool) (to m : ℕ) (a : OrderActivation) → a.segment ≡ g → a.place ≡ place + 1 → Free (call_at b (place_of p to m) to a g place loaded acts w)
        free_called b to m a segment place_is = cases b (place_of p to m) refl
          where
            back : NotBehind a.segment a.place
            back j line e start = next j line (let f : place + 1 ≡ suc j = omega arith in f) (ap (λ n. order_at p n j) (let f : g ≡ a.segment = omega arith in f) ∙ start)

            cases : (b : Bool) (k : Option ℕ) → place_of p to m ≡ k → Free (call_at b k to a g place loaded acts w)
            cases true (Some k) is = (marks to m k is, (back, free))
            cases true None is = tt
            cases false (Some k) is = tt
            cases false None is = tt

        free_calls : (line : ℕ) (e : Option ProcedureEntry) (to : ℕ) → Free (call_entry p line e to g place loaded acts w)
        free_calls line None to = tt
        free_calls line (Some e) to =
            let a = called e.arguments (frame_end p acts) g place line w.operands in
            free_called (nat_le e.arguments (length w.operands) && nat_le (stack_words [] (a ∷ acts)) p.room) to e.mark a refl refl

        free_call : (line : ℕ) (c : Option Control) → Free (call p line c g place loaded acts w)
        free_call line (Some (ProcedureControl to q)) = free_calls line (procedure_at p to q) to
        free_call line _ = tt

      free_entered : (entered shallow fits : Bool) (size : ℕ) (a : OrderActivation) (acts : List OrderActivation) → AllFree (a ∷ acts) → Free (enter_with entered shallow fits size a g place loaded acts w)
      free_entered true shallow fits size a acts free = tt
      free_entered false false fits size a acts free = tt
      free_entered false true false size a acts free = tt
      free_entered false true true size a acts free = (next, (free.0, free.1))

      free_enter : (size : ℕ) (acts : List OrderActivation) → AllFree acts → Free (enter p size g place loaded acts w)
      free_enter size [] free = tt
      free_enter size (a ∷ acts) free = free_entered a.entered (nat_lt (length acts) p.limits.depth) (nat_le (a.frame_base + size) p.limits.area) size a acts free

      free_returned : (b answers : Bool) (operands : List Operand) (a : OrderActivation) (acts : List OrderActivation) → AllFree (a ∷ acts) → Free (return_with b answers operands a g place loaded acts w)
      free_returned true false operands a acts free = (free.0, free.1)
      free_returned true true (Word z ∷ rest) a acts free = (free.0, free.1)
      free_returned true true (Held c ∷ rest) a acts free = tt
      free_returned true true [] a acts free = tt
      free_returned false answers operands a acts free = tt

      free_back : (n : ℕ) (answers : Bool) (acts : List OrderActivation) → AllFree acts → Free (come_back p n answers g place loaded acts w)
      free_back n answers [] free = tt
      free_back n answers (a ∷ acts) free = free_returned (nat_eq (operand_words a.arguments) n) answers w.operands a acts free

      free_end : (acts : List OrderActivation) → AllFree acts → Free (end_body p g place loaded acts w)
      free_end [] free = cases (slice_get p.units (g + 1)) refl
        where
          cases : (u : Option Orders) → slice_get p.units (g + 1) ≡ u → Free (next_body u g place loaded w)
          cases None is = tt
          cases (Some u) is = (not_behind_first (g + 1) u.entry (entries (g + 1) u is), tt)
      free_end (a ∷ acts) free = tt

      module _ (acts : List OrderActivation) (free : AllFree acts) where
        free_act : (x : Action) → Free (act p x g place loaded acts w)
        free_act (Perform line op) = free_after acts free line (perform p.limits.area op w)
        free_act (Access op) = free_after acts free 0 (unrefused (perform p.limits.area op w))
        free_act (Alter line f) = free_after acts free line (f w)
        free_act (AlterWithin f) = free_after acts free 0 (unrefused (f w))
        free_act Pass = (next, free)
        free_act (Branch line f) = free_branch acts free line (f w)
        free_act (GoMain m) = free_left acts free g m (length acts)
        free_act (GoLabel c) = free_to acts free c
        free_act (GoSwitch line c) = free_through acts free line c
        free_act (Call line c) = free_call acts free line c
        free_act (Enter size) = free_enter size acts free
        free_act (Return n answers) = free_back n answers acts free
        free_act EndBody = free_end acts free

    -- an order that is no Start leads to a state that is not behind one
    pub free_next : (g place : ℕ) (loaded : Bool) (acts : List OrderActivation) (w : Words) (o : Order) → order_at p g place ≡ Some o → ((n : ℕ) → o ≡ order.Start n → ⊥) → AllFree acts → Free (carry_out p (Some o) g place loaded acts w)
    free_next g place loaded acts w o is other free = cases (loaded_after o loaded)
      where
        cases : (m : Option Bool) → Free (carry_with p m o g place loaded acts w)
        cases None = tt
        cases (Some m) = free_act g place m w (not_behind_other g place (λ n e. let same : o ≡ order.Start n = cc in other n same)) acts free (action_of p g acts o)
