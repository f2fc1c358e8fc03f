-- An activation begins.
use Rattle.std.proofs.Common.{ap₂, ◌≡◌, inl, ℕ, zero, suc, ◌+◌, ◌-◌, ◌%◌, ◌<◌, ◌≤◌, Bool, true, false, List, [], ◌∷◌, length, drop, Some, refl, sym, ap, ◌∙◌, subst, arith, lit<}
use Rattle.std.specs.Prelude.{slice_get, nat_le, nat_lt}
use Rattle.std.proofs.lemmas.Bool.{leb-true}
use Rattle.std.proofs.lemmas.Option.{slice_get_within}
use Rattle.cw_unit.specs.Stop.{FramesFull, DepthReached, Running, Stopped, Stuck}
use Rattle.cw_unit.specs.Words.{Words}
use Rattle.cw_order.specs.declared.order.Order.{Order}
use Rattle.cw_order.specs.declared.order.Order.TheVariants as order
use Rattle.cw_order.specs.OrderProgram.{order_in}
use Rattle.cw_order.specs.OrderState.{OrderActivation, OrderState, at, stack_words, frame_end}
use Rattle.cw_order.specs.OrderCosts.{weight_at}
use Rattle.cw_order.specs.OrderMachine.{enter_with, carry_out, step, weight}
use Rattle.cw_order.specs.FittingWords.{StateFits}
use Rattle.cw_order.specs.Activations.{ActivationsStand, StateStands}
use Rattle.cw_tmpl.specs.declared.blocks.Block.TheVariants as block
use Rattle.cw_tmpl.specs.Blocks.{block_at, orders_left, left_at}
use Rattle.cw_tmpl.specs.Library.{enter_entry, enter_place, enter_stop_entry, enter_stop_place}
use Rattle.cw_tmpl.specs.Templates.{entered, entered_size, segment_word}
use Rattle.cw_tmpl.specs.ShortForms.{is_short}
use Rattle.cw_tmpl.specs.ReferenceCode.{names_of, reach_of}
use Rattle.cw_follow.specs.Placing.{base_of}
use Rattle.cw_tmpl.proofs.Sizes.{listed, own_place, left_next, pieces_by, size_by}
use Rattle.cw_routines.specs.Results.{begin}
use Rattle.cw_follow.proofs.Watched.{Watched}
use Rattle.cw_follow.proofs.Standing.{HasPieces, HasAll, HasWord, order_place, number_there}
use Rattle.cw_tmpl.proofs.Shapes.{front_is}
use Rattle.cw_follow.proofs.Orders.{Landed, Leading}
use Rattle.cw_follow.proofs.States.{Given, Starting, never_on, not_stuck, before_block}
use Rattle.cw_follow.proofs.Calls.{EntersTo, begins, begins_framed}
use Rattle.cw_follow.proofs.Steps.{Follow, leads_to, onward, order_next}

module _ (known : Given) where
  open known use {rows, p, image, all, coded, few, low}

  module _ {q : Watched} {g place : ℕ} {a : OrderActivation} {acts : List OrderActivation} {w : Words} (s : Starting p image g place false a acts w q) where
    abbrev T : OrderState
    T = at g place false (a ∷ acts) w Running

    abbrev here : ℕ
    here = order_place (base_of p g) s.orders place

    few_there : g < 255
    few_there = let lt = slice_get_within p.units g s.orders s.unit in omega arith

    abbrev Enters : Order
    Enters = order.Enter s.beginning.size

    fits_there : (t : OrderState) → step p T ≡ t → StateFits t
    fits_there t e = subst StateFits e (rows.words.keeps p T s.fits)

    stands_there : (t : OrderState) → step p T ≡ t → StateStands p t
    stands_there t e = subst (StateStands p) e (rows.words.stands_keep p T coded.callable s.stands)

    enter_is : step p T ≡ enter_with false (nat_lt (length acts) p.limits.depth) (nat_le (a.frame_base + s.beginning.size) p.limits.area) s.beginning.size a g place false acts w
    enter_is =
        ap (λ x. carry_out p x g place false (a ∷ acts) w) s.beginning.order
        ∙ ap (λ x. enter_with x (nat_lt (length acts) p.limits.depth) (nat_le (a.frame_base + s.beginning.size) p.limits.area) s.beginning.size a g place false acts w) s.beginning.begun

    listed_there : slice_get s.orders.list place ≡ Some Enters
    listed_there = ap (λ u. order_in u place) (sym s.unit) ∙ s.beginning.order

    -- Enter is a block of its own
    alone_is : block_at (left_at 0 s.orders.list place) (drop place s.orders.list) ≡ block.Single
    alone_is = ap₂ block_at s.begins (front_is s.orders.list place Enters listed_there)

    begins_behind : left_at 0 s.orders.list (place + 1) ≡ 0
    begins_behind =
        let next : place + 1 ≡ suc place = omega arith in
        ap (left_at 0 s.orders.list) next ∙ left_next 0 s.orders.list place Enters listed_there ∙ ap orders_left alone_is

    enter_weight : 21 ≤ weight p T
    enter_weight = let e : weight p T ≡ 30 = ap weight_at s.beginning.order in omega arith

    begins_with : (shallow fits : Bool) → nat_lt (length acts) p.limits.depth ≡ shallow → nat_le (a.frame_base + s.beginning.size) p.limits.area ≡ fits
        → Leading w.output 21 q (EntersTo rows p image a acts w g s.beginning.size few_there shallow fits (here + entered_size s.beginning.size)) → Follow known T q
    begins_with false fits es ef d =
        leads_to known g place false (a ∷ acts) w (at g place false (a ∷ acts) w (Stopped DepthReached (a.segment + 1) a.line)) 21
        (enter_is ∙ ap (λ x. enter_with false x (nat_le (a.frame_base + s.beginning.size) p.limits.area) s.beginning.size a g place false acts w) es) enter_weight d
    begins_with true false es ef d =
        leads_to known g place false (a ∷ acts) w (at g place false (a ∷ acts) w (Stopped FramesFull (a.segment + 1) a.line)) 21
        (enter_is ∙ ap (λ x. enter_with false x (nat_le (a.frame_base + s.beginning.size) p.limits.area) s.beginning.size a g place false acts w) es
        ∙ ap (λ x. enter_with false true x s.beginning.size a g place false acts w) ef) enter_weight d
    begins_with true true es ef d =
        let size = s.beginning.size in
        let a' : OrderActivation = record a { entered = true; frame_top = a.frame_base + size } in
        let t = at g (place + 1) false (a' ∷ acts) w Running in
        let goes : step p T ≡ t = enter_is ∙ ap (λ x. enter_with false x (nat_le (a.frame_base + size) p.limits.area) size a g place false acts w) es ∙ ap (λ x. enter_with false true x size a g place false acts w) ef in
        let next : here + entered_size size ≡ order_place (base_of p g) s.orders (place + 1) =
        ap (λ n. here + n) (sym (listed Enters)) ∙ ap (λ x. here + size_by (is_short (reach_of s.orders)) place x Enters) (sym alone_is) ∙ order_next (base_of p g) s.orders place Enters listed_there in
        let top : a.frame_base + size ≤ p.limits.area = leb-true (a.frame_base + size) p.limits.area ef in
        let base : a.frame_base ≤ p.limits.area = omega arith in
        let working : ActivationsStand p g (a' ∷ acts) = (refl, base, top, s.beginning.arguments, s.beginning.operands_stand, s.beginning.callers) in
        leads_to known g place false (a ∷ acts) w t 21 goes enter_weight
        (onward known (λ r l. inl (before_block s.orders s.unit begins_behind (subst (λ n. Landed p image n g false (a' ∷ acts) w r) next l) (fits_there t goes) (stands_there t goes) working s.comes_back (never_on p T t goes s.never))) d)

    room_there : stack_words [] (a ∷ acts) ≤ 32000
    room_there = let r = s.stands.room in let e : stack_words w.operands (a ∷ acts) ≡ stack_words [] (a ∷ acts) = ap (λ xs. stack_words xs (a ∷ acts)) s.beginning.none in omega arith

    base_there : a.frame_base ≤ p.limits.area
    base_there = frame_low acts s.beginning.callers s.beginning.base
      where
        frame_low : (xs : List OrderActivation) → ActivationsStand p a.segment xs → a.frame_base ≡ frame_end p xs → a.frame_base ≤ p.limits.area
        frame_low [] h e = let most = coded.room in let f : a.frame_base ≡ p.limits.area - p.limits.frames = e in omega arith
        frame_low (c ∷ cs) h e = let f : a.frame_base ≡ c.frame_top = e in let g = h.2 in omega arith

    -- by the library where the frame has no words, and else by the code of the procedure
    entered_by : (size : ℕ) → size < 65536 → HasPieces image (all.stands g s.orders s.unit).value here (entered size)
        → Leading w.output 21 q (EntersTo rows p image a acts w g size few_there (nat_lt (length acts) p.limits.depth) (nat_le (a.frame_base + size) p.limits.area) (here + entered_size size))
    entered_by zero small i =
        let st = all.stands g s.orders s.unit in
        let number = st.value 8 3 0 (here + 3 + 2 + 2) in
        let by = st.value 7 enter_entry 0 (here + 3) in
        let numbered = st.fills.number (here + 3 + 2 + 2) in
        let few_here = few_there in
        let is_number : number ≡ g + 1 = omega arith in
        let by_is : by ≡ (enter_place + (65536 - (here + 3) % 65536)) % 65536 = st.fills.library enter_entry (here + 3) (lit< tt) in
        let arrives : (here + 3 + by) % 65536 ≡ enter_place % 65536 = omega arith in
        begins rows p image a acts w g 0 few_there s.beginning.none s.beginning.base base_there room_there here by number all.library low small coded.depth is_number arrives i.0 i.1.0 i.1.1.0 s.called_at
    entered_by (suc n) small i =
        let st = all.stands g s.orders s.unit in
        let jump = here + 3 + 2 + 3 + 2 + 2 + 2 + 3 + 2 + 3 in
        let push = jump + 1 + 1 + 2 + 5 in
        let number_at = st.value 3 0 segment_word push in
        let by = st.value 7 enter_stop_entry 0 jump in
        let by_is : by ≡ (enter_stop_place + (65536 - jump % 65536)) % 65536 = st.fills.library enter_stop_entry jump (lit< tt) in
        let arrives : (here + 22 + by) % 65536 ≡ enter_stop_place = omega arith in
        let number = number_there st.fills st.entry few_there in
        let within = number.within in
        let few_bytes = s.called_at.is.sees.fits in
        let there : base_of p g + segment_word ≡ number_at = omega (arith, st.fills.places segment_word push) in
        let next : suc g ≡ g + 1 = omega arith in
        let named : HasWord image number_at (g + 1) = subst (λ m. HasWord image m (g + 1)) there (subst (HasWord image (base_of p g + segment_word)) next number) in
        let code : HasAll image here (begin (suc n) number_at by) = i in
        begins_framed rows p image a acts w g (suc n) few_there s.beginning.none s.beginning.base base_there room_there here number_at by all.library low small coded.depth arrives named code s.called_at

    begins_free : Follow known T q
    begins_free =
        let size = s.beginning.size in
        let st = all.stands g s.orders s.unit in
        let i = subst (λ x. HasPieces image st.value here (pieces_by (names_of s.orders) (own_place s.orders place) place x Enters)) alone_is (st.orders place Enters listed_there) in
        let small : size < 65536 = coded.codes g place Enters s.beginning.order in
        begins_with (nat_lt (length acts) p.limits.depth) (nat_le (a.frame_base + size) p.limits.area) refl refl (entered_by size small i)

  -- where the accumulator is loaded the orders would be stuck
  pub begins_activation : {q : Watched} {g place : ℕ} {loaded : Bool} {a : OrderActivation} {acts : List OrderActivation} {w : Words} → Starting p image g place loaded a acts w q
      → Follow known (at g place loaded (a ∷ acts) w Running) q
  begins_activation {q} {g} {place} {loaded} {a} {acts} {w} s = cases loaded s
    where
      cases : (m : Bool) → Starting p image g place m a acts w q → Follow known (at g place m (a ∷ acts) w Running) q
      cases false s = begins_free s
      cases true s =
          let stuck = at g place true (a ∷ acts) w Stuck in
          absurd (not_stuck p g place true (a ∷ acts) w (never_on p (at g place true (a ∷ acts) w Running) stuck (ap (λ x. carry_out p x g place true (a ∷ acts) w) s.beginning.order) s.never))
