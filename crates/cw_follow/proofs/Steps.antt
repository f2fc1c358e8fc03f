-- One step of the orders, and how the processor comes to the next state.
use Rattle.std.proofs.Common.{◌≡◌, inl, inr, ℕ, zero, suc, ◌+◌, ◌-◌, ◌*◌, ◌%◌, ◌<◌, ◌≤◌, Bool, true, false, List, [], ◌∷◌, length, drop, Option, Some, None, refl, sym, ap, ap₂, ◌⊎◌, ◌∙◌, subst, arith, lit<}
use Rattle.std.specs.Prelude.{slice_get}
use Rattle.std.proofs.lemmas.Option.{slice_get_within}
use Rattle.cw_track.proofs.Paths.{Path, weaken}
use Rattle.cw_track.proofs.Simulations.{Quiet}
use Rattle.cw_follow.proofs.Watched.{Watched, watched_machine, over}
use Rattle.cw_unit.specs.Begun.{Begun}
use Rattle.cw_unit.specs.Behaviour.{Observation}
use Rattle.cw_unit.specs.Stop.{StopKind, Running, Ended, Stopped, Stuck}
use Rattle.cw_unit.specs.Words.{Words, Outcome, Changed, Refused, Impossible}
use Rattle.cw_order.specs.declared.order.Order.{Order}
use Rattle.cw_order.specs.declared.order.Order.TheVariants as order
use Rattle.cw_order.specs.HasCode.{HasCode}
use Rattle.cw_order.specs.OrderProgram.{OrderProgram, order_in, order_at, mark_in}
use Rattle.cw_order.specs.OrderChanges.{Way, Onward, ToMark, Barred, Nowhere}
use Rattle.cw_order.specs.OrderState.{OrderActivation, OrderState, at, operand_words}
use Rattle.cw_order.specs.OrderCosts.{weight_of, weight_at}
use Rattle.cw_order.specs.Loading.{loaded_after}
use Rattle.cw_order.specs.OrderLines.{line_of}
use Rattle.cw_order.specs.OrderActions.{action_of}
use Rattle.cw_order.specs.OrderMachine.{go_at, branch, after, act, carry_with, carry_out, step, weight, shown}
use Rattle.cw_order.specs.FittingWords.{StateFits}
use Rattle.cw_order.specs.Activations.{StateStands}
use Rattle.cw_tmpl.specs.declared.blocks.Block.{Block}
use Rattle.cw_tmpl.specs.declared.blocks.Block.TheVariants as block
use Rattle.cw_tmpl.specs.Blocks.{block_at, orders_left, left_at}
use Rattle.cw_tmpl.specs.Library.{places_of_entries, entry_place}
use Rattle.cw_tmpl.specs.Templates.{block_size, template_by, is_close}
use Rattle.cw_tmpl.specs.ShortForms.{is_short, jump_of}
use Rattle.cw_tmpl.specs.ReferenceCode.{mark_starts, names_of, reach_of}
use Rattle.cw_follow.specs.Placing.{base_of}
use Rattle.cw_tmpl.proofs.Sizes.{size_to, size_next, left_next, own_place, mark_start, pieces_by, size_by}
use Rattle.cw_follow.proofs.Standing.{HasPiecesFrom, first_of, behind_start, order_place, Image}
use Rattle.cw_follow.proofs.InBlocks.{slice_drop, size_split, left_split, begins_at, chain, puts_word, silently, silently_next, never_writes, loaded_then, loaded_silently, loaded_next}
use Rattle.cw_follow.proofs.Chains.{at_work}
use Rattle.cw_follow.proofs.Routines.{Over, leads_on}
use Rattle.cw_follow.proofs.Stacks.{level}
use Rattle.cw_follow.proofs.Orders.{Landed, Leading, Does, Tells, Chooses, LandedAt, over_landed}
use Rattle.cw_follow.proofs.Operands.{Setting}
use Rattle.cw_follow.proofs.States.{Given, Never, Sound, Arrived, LastStarts, length_in, left, never_on, not_stuck, went_on, before_block}
use Rattle.cw_tmpl.proofs.Reaching.{closes}
use Rattle.cw_order.specs.declared.order.Orders.{Orders}
use Rattle.cw_order.proofs.StandingActivations.{words_split}

-- ---- places

pub order_next : (base : ℕ) (o : Orders) (k : ℕ) (it : Order) → slice_get o.list k ≡ Some it → order_place base o k + size_by (is_short (reach_of o)) k (block_at (left_at 0 o.list k) (drop k o.list)) it ≡ order_place base o (k + 1)
order_next base o k it e =
    let t = size_next (is_short (reach_of o)) 0 0 o.list k k it (omega arith) e in
    let s : k + 1 ≡ suc k = omega arith in
    let m : size_to (is_short (reach_of o)) 0 0 o.list (k + 1) ≡ size_to (is_short (reach_of o)) 0 0 o.list (suc k) = ap (size_to (is_short (reach_of o)) 0 0 o.list) s in
    omega arith

-- the word below the top, which is the last one below offset 0
abbrev pub under : ℕ → ℕ
under zero = 32767
under (suc n) = n

pub under_low : (top : ℕ) → top ≤ 32764 → under top < 32768
under_low zero le = lit< tt
under_low (suc n) le = omega arith

pub under_is : (top : ℕ) → top ≤ 32764 → 2 * top ≡ 2 * suc (under top) % 65536
under_is zero le = refl
under_is (suc n) le = omega arith

-- an order that may have no code
abbrev pub is_codeless : Order → Bool
is_codeless order.Mark = true
is_codeless (order.Start n) = true
is_codeless order.Drop = true
is_codeless (order.Take t b) = true
is_codeless _ = false

-- before an order that is a block of its own
pub record Alone (p : OrderProgram) (image : Image) (g place : ℕ) (loaded : Bool) (acts : List OrderActivation) (w : Words) (q : Watched) (o : Orders) : Type 0 where
  pub begins : left_at 0 o.list place ≡ 0
  pub single : block_at 0 (drop place o.list) ≡ block.Single
  pub landed : Landed p image (order_place (base_of p g) o place) g loaded acts w q

abbrev pub way_after : Outcome → (Words → Way) → Way
way_after (Changed v) f = f v
way_after _ f = Nowhere

module _ (known : Given) where
  open known use {rows, p, image, all, coded, few, low}

  -- a state that matches where the processor has come to the beginning of a block, or to the Enter of a call
  abbrev pub Arrives : OrderState → Watched → Type 0
  Arrives (at g place loaded acts w Running) q = Arrived p image g place loaded acts w q ⊎ LastStarts p image g place loaded acts w q
  Arrives (at g place loaded acts w Ended) q = Over (record { output = w.output; end = Ended }) q
  Arrives (at g place loaded acts w (Stopped kind s l)) q = Over (record { output = w.output; end = Stopped kind s l }) q
  Arrives (at g place loaded acts w Stuck) q = ⊥

  -- the order that a state is to do, its segment and its place
  abbrev pub order_of : OrderState → Option Order
  order_of (at g place loaded acts w e) = order_at p g place

  abbrev pub segment_of : OrderState → ℕ
  segment_of (at g place loaded acts w e) = g

  abbrev pub number_of : OrderState → ℕ
  number_of (at g place loaded acts w e) = place

  -- What the processor does for an order, where it stands like this one and what begins at its first instruction may be overlooked. Nothing: in
  -- the middle of a block, or for an order without code. Or the code of a block.
  pub data FollowFrom (first : Watched) (s : OrderState) (q : Watched) : Type 0 where
    waits : {loaded : Bool} {acts : List OrderActivation} {w : Words} → step p s ≡ at (segment_of s) (number_of s + 1) loaded acts w Running → (m : Sound p image (segment_of s) (number_of s + 1) loaded acts w q) → 0 < m.done
        → left p (step p s) < left p s → FollowFrom first s q
    passes_on : (o : Order) → order_of s ≡ Some o → is_codeless o ≡ true → Arrives (step p s) q → left p (step p s) < left p s → FollowFrom first s q
    moves : {spent : ℕ} {reached : Watched} → 0 < spent → spent ≤ weight p s → Path (Quiet (shown s, []) (shown (step p s), [])) watched_machine spent first reached → Arrives (step p s) reached → FollowFrom first s q

  abbrev pub Follow : OrderState → Watched → Type 0
  Follow s q = FollowFrom q s q

  -- a way on that is paid for
  pub leads_to : {first q : Watched} (g place : ℕ) (loaded : Bool) (acts : List OrderActivation) (w : Words) (t : OrderState) (limit : ℕ) → step p (at g place loaded acts w Running) ≡ t → limit ≤ weight p (at g place loaded acts w Running) → Leading w.output limit first (Arrives t) → FollowFrom first (at g place loaded acts w Running) q
  leads_to {first} g place loaded acts w t limit e paid l =
      let s = at g place loaded acts w Running in
      let within = l.within in
      moves l.some (let x : l.spent ≤ weight p s = omega arith in x)
      (weaken (λ o. o ≡ at_work w.output) (Quiet (shown s, []) (shown (step p s), [])) watched_machine l.spent first l.leads.reached (λ o x. inl x) l.leads.path)
      (subst (λ x. Arrives x l.leads.reached) (sym e) l.leads.there)

  pub onward : {output : List ℕ} {limit : ℕ} {q : Watched} {T U : Watched → Type 0} → ((r : Watched) → T r → U r) → Leading output limit q T → Leading output limit q U
  onward f l = record { spent = l.spent; some = l.some; within = l.within; leads = leads_on f l.leads }

  module _ {q : Watched} {g place : ℕ} {loaded : Bool} {acts : List OrderActivation} {w : Words} (s : Sound p image g place loaded acts w q) where
    -- where the code of the block ends, where its last order is at work
    abbrev pub code_end : ℕ
    code_end = order_place (base_of p g) s.orders (place + 1)

    pub few_segments : g < 255
    few_segments = let lt = slice_get_within p.units g s.orders s.unit in omega arith

    pub order_is : (o : Option Order) → slice_get s.orders.list place ≡ o → order_at p g place ≡ o
    order_is o e = ap (λ u. order_in u place) s.unit ∙ e

    pub step_is : (o : Option Order) → slice_get s.orders.list place ≡ o → step p (at g place loaded acts w Running) ≡ carry_out p o g place loaded acts w
    step_is o e = ap (λ x. carry_out p x g place loaded acts w) (order_is o e)

    pub weight_is : (o : Order) → slice_get s.orders.list place ≡ Some o → weight_of o ≤ weight p (at g place loaded acts w Running)
    weight_is o e = let f : weight p (at g place loaded acts w Running) ≡ weight_of o = ap weight_at (order_is (Some o) e) in omega arith

    pub fits_next : (t : OrderState) → step p (at g place loaded acts w Running) ≡ t → StateFits t
    fits_next t e = subst StateFits e (rows.words.keeps p (at g place loaded acts w Running) s.fits)

    pub stands_next : (t : OrderState) → step p (at g place loaded acts w Running) ≡ t → StateStands p t
    stands_next t e = subst (StateStands p) e (rows.words.stands_keep p (at g place loaded acts w Running) coded.callable s.stands)

    pub never_next : (t : OrderState) → step p (at g place loaded acts w Running) ≡ t → Never p t
    never_next t e = never_on p (at g place loaded acts w Running) t e s.never

    -- the orders do not get stuck here
    pub stuck_here : {m : Bool} → step p (at g place loaded acts w Running) ≡ at g place m acts w Stuck → ⊥
    stuck_here {m} e = not_stuck p g place m acts w (never_next (at g place m acts w Stuck) e)

    -- nor do they where an order finds the accumulator the other way than it wants it
    pub wrong_way : (o : Order) → slice_get s.orders.list place ≡ Some o → loaded_after o loaded ≡ None → ⊥
    wrong_way o e none = stuck_here (step_is (Some o) e ∙ ap (λ x. carry_with p x o g place loaded acts w) none)

    -- before another block
    pub sound_at : (to : ℕ) (m : Bool) (v : Words) (r : Watched) → left_at 0 s.orders.list to ≡ 0 → step p (at g place loaded acts w Running) ≡ at g to m acts v Running
        → Landed p image (order_place (base_of p g) s.orders to) g m acts v r → Arrived p image g to m acts v r
    sound_at to m v r begins e l =
        let t = at g to m acts v Running in
        before_block s.orders s.unit begins l (fits_next t e) (stands_next t e) s.working s.comes_back (never_next t e)

    -- an operation that leaves the accumulator so, and may stop at a line
    pub does : {first : Watched} (m : Bool) (line : ℕ) (o : Outcome) (limit : ℕ) → left_at 0 s.orders.list (place + 1) ≡ 0 → step p (at g place loaded acts w Running) ≡ after p.room line o g place m acts w → limit ≤ weight p (at g place loaded acts w Running)
        → Does p image limit code_end g m line acts w.output first o → FollowFrom first (at g place loaded acts w Running) q
    does m line (Changed v) limit begins e paid d =
        let on = went_on p g place loaded m line acts w v e s.never in
        leads_to g place loaded acts w (at g (place + 1) m acts v Running) limit on.goes paid (onward (λ r l. inl (sound_at (place + 1) m v r begins on.goes l)) d)
    does m line (Refused kind) limit begins e paid d = leads_to g place loaded acts w (at g place m acts w (Stopped kind (g + 1) line)) limit e paid d
    does m line Impossible limit begins e paid d = absurd (not_stuck p g place m acts w (never_next (at g place m acts w Stuck) e))

    -- the same, where on the way a byte is written
    pub tells : {first : Watched} (m : Bool) (o : Outcome) (limit : ℕ) → left_at 0 s.orders.list (place + 1) ≡ 0 → step p (at g place loaded acts w Running) ≡ after p.room 0 o g place m acts w → limit ≤ weight p (at g place loaded acts w Running)
        → Tells p image limit code_end g m acts w.output first o → FollowFrom first (at g place loaded acts w Running) q
    tells m (Changed v) limit begins e paid d =
        let here = at g place loaded acts w Running in
        let on = went_on p g place loaded m 0 acts w v e s.never in
        let within = d.within in
        let shows_next : ◌≡◌ {A = Observation × List Begun} (shown (step p here), []) (at_work v.output) = ap (λ x. (shown x, [])) on.goes in
        moves d.some (let x : d.spent ≤ weight p here = omega arith in x)
        (weaken (λ o. (o ≡ at_work w.output) ⊎ (o ≡ at_work v.output)) (Quiet (shown here, []) (shown (step p here), [])) watched_machine d.spent _ d.reached
        (λ o x. elim x [ inl before ↦ inl before | inr after ↦ inr (after ∙ sym shows_next) ]) d.path)
        (subst (λ x. Arrives x d.reached) (sym on.goes) (inl (sound_at (place + 1) m v d.reached begins on.goes d.there)))
    tells m (Refused kind) limit begins e paid d = absurd d
    tells m Impossible limit begins e paid d = absurd (not_stuck p g place m acts w (never_next (at g place m acts w Stuck) e))

    abbrev pub start_place : ℕ
    start_place = order_place (base_of p g) s.orders s.from

    pub block_code : (b : Block) (o : Order) (os : List Order) → drop s.from s.orders.list ≡ o ∷ os → block_at 0 (drop s.from s.orders.list) ≡ b
        → HasPiecesFrom (first_of o (behind_start s.orders.list s.from)) image (all.stands g s.orders s.unit).value (order_place (base_of p g) s.orders s.from) (pieces_by (names_of s.orders) (own_place s.orders s.from) s.from b o)
    block_code b o os e is =
        let st = all.stands g s.orders s.unit in
        let place = order_place (base_of p g) s.orders s.from in
        let own = own_place s.orders s.from in
        let here : s.from + 0 ≡ s.from = omega arith in
        let first : slice_get s.orders.list s.from ≡ Some o = ap (slice_get s.orders.list) (sym here) ∙ sym (slice_drop s.orders.list s.from 0) ∙ ap (λ l. slice_get l 0) e in
        let same : block_at (left_at 0 s.orders.list s.from) (drop s.from s.orders.list) ≡ b = ap (λ n. block_at n (drop s.from s.orders.list)) s.begins ∙ is in
        subst (λ x. HasPiecesFrom (first_of o (behind_start s.orders.list s.from)) image st.value place (pieces_by (names_of s.orders) own s.from x o)) same (st.orders s.from o first)

    -- its short jump reaches its mark
    pub reaches_mark : (b : Block) (o : Order) (os : List Order) (m : ℕ) → drop s.from s.orders.list ≡ o ∷ os → block_at 0 (drop s.from s.orders.list) ≡ b → jump_of b o ≡ Some m
        → is_short (reach_of s.orders) s.from b o ≡ true → is_close (own_place s.orders s.from + block_size true b o) (mark_starts s.orders m) ≡ true
    reaches_mark b o os m e is jumps short =
        let here : s.from + 0 ≡ s.from = omega arith in
        let first : slice_get s.orders.list s.from ≡ Some o = ap (slice_get s.orders.list) (sym here) ∙ sym (slice_drop s.orders.list s.from 0) ∙ ap (λ l. slice_get l 0) e in
        let same : block_at (left_at 0 s.orders.list s.from) (drop s.from s.orders.list) ≡ b = ap (λ n. block_at n (drop s.from s.orders.list)) s.begins ∙ is in
        closes s.orders s.from m b o first same jumps short

    -- where it ends
    pub record Ends (b : Block) (o : Order) : Type 0 where
      pub behind : order_place (base_of p g) s.orders s.from + size_by (is_short (reach_of s.orders)) s.from b o ≡ code_end
      pub begins : left_at 0 s.orders.list (place + 1) ≡ 0

    pub block_ends : (b : Block) (o : Order) (os : List Order) (n : ℕ) → s.done ≡ n → drop s.from s.orders.list ≡ o ∷ os → block_at 0 (drop s.from s.orders.list) ≡ b → size_to (is_short (reach_of s.orders)) (suc s.from) (orders_left b) os n ≡ 0 → left_at (orders_left b) os n ≡ 0 → Ends b o
    block_ends b o os n is_done e is none over =
        let list = s.orders.list in
        let same : block_at 0 (o ∷ os) ≡ b = sym (ap (block_at 0) e) ∙ is in
        let placed = s.place_is in
        let there : place + 1 ≡ s.from + suc n = omega arith in
        let forms = is_short (reach_of s.orders) in
        let size : size_to forms s.from (left_at 0 list s.from) (drop s.from list) (suc n) ≡ size_by forms s.from b o + size_to forms (suc s.from) (orders_left b) os n =
        ap₂ (λ l r. size_to forms s.from l r (suc n)) s.begins e ∙ ap (λ x. size_by forms s.from x o + size_to forms (suc s.from) (orders_left x) os n) same in
        let whole : size_to forms 0 0 list (place + 1) ≡ size_to forms 0 0 list s.from + (size_by forms s.from b o + size_to forms (suc s.from) (orders_left b) os n) =
        ap (size_to forms 0 0 list) there ∙ size_split forms 0 0 list s.from (suc n) s.from (omega arith) ∙ ap (λ m. size_to forms 0 0 list s.from + m) size in
        record {
          behind = omega arith;
          begins = ap (left_at 0 list) there ∙ left_split 0 list s.from (suc n) ∙ ap₂ (λ l r. left_at l r (suc n)) s.begins e ∙ ap (λ x. left_at (orders_left x) os n) same ∙ over;
        }

    -- the order that is to be done
    pub order_here : (n : ℕ) (o : Order) (os : List Order) → s.done ≡ n → drop s.from s.orders.list ≡ os → slice_get os n ≡ Some o → slice_get s.orders.list place ≡ Some o
    order_here n o os is_done e is =
        let placed = s.place_is in
        let there : place ≡ s.from + n = omega arith in
        ap (slice_get s.orders.list) there ∙ sym (slice_drop s.orders.list s.from n) ∙ ap (λ l. slice_get l n) e ∙ is

    -- an order that is not the last of its block; where it stops, it pays for the way to the stop
    pub silent_in : {first : Watched} (o : Order) (m : Bool) (line : ℕ) → slice_get s.orders.list place ≡ Some o → loaded_after o loaded ≡ Some m
        → act p (action_of p g acts o) g place m acts w ≡ after p.room line (puts_word p g acts o w) g place m acts w
        → ((kind : StopKind) → puts_word p g acts o w ≡ Refused kind → step p (at g place loaded acts w Running) ≡ at g place m acts w (Stopped kind (g + 1) line) → FollowFrom first (at g place loaded acts w Running) q)
        → s.done + 1 ≤ orders_left (block_at 0 (drop s.from s.orders.list)) → FollowFrom first (at g place loaded acts w Running) q
    silent_in {first} o m line e mode goes_so refused more = cases (puts_word p g acts o w) refl
      where
        here : OrderState
        here = at g place loaded acts w Running

        goes_as : (x : Outcome) → puts_word p g acts o w ≡ x → step p (at g place loaded acts w Running) ≡ after p.room line x g place m acts w
        goes_as x is = step_is (Some o) e ∙ ap (λ k. carry_with p k o g place loaded acts w) mode ∙ goes_so ∙ ap (λ x. after p.room line x g place m acts w) is

        there : slice_get (drop s.from s.orders.list) s.done ≡ Some o
        there = slice_drop s.orders.list s.from s.done ∙ ap (slice_get s.orders.list) s.place_is ∙ e

        cases : (x : Outcome) → puts_word p g acts o w ≡ x → FollowFrom first (at g place loaded acts w Running) q
        cases (Refused kind) is = refused kind is (goes_as (Refused kind) is)
        cases Impossible is = absurd (not_stuck p g place m acts w (never_on p (at g place loaded acts w Running) (at g place m acts w Stuck) (goes_as Impossible is) s.never))
        cases (Changed v) is =
            let on = went_on p g place loaded m line acts w v (goes_as (Changed v) is) s.never in
            let placed = s.place_is in
            let next : s.done + 1 ≡ suc s.done = omega arith in
            let matched : Sound p image g (place + 1) m acts v q = record {
              orders = s.orders;
              unit = s.unit;
              from = s.from;
              done = s.done + 1;
              start = s.start;
              place_is = omega arith;
              inside = more;
              did =
                  ap (λ n. silently p g acts n (drop s.from s.orders.list) s.before) next ∙ silently_next p g acts s.done (drop s.from s.orders.list) o s.before there
                  ∙ ap (λ x. chain x (puts_word p g acts o)) s.did ∙ is;
              moded =
                  ap (λ n. loaded_silently n (drop s.from s.orders.list) s.loaded_before) next ∙ loaded_next s.done (drop s.from s.orders.list) o s.loaded_before there
                  ∙ ap (λ x. loaded_then x (loaded_after o)) s.moded ∙ mode;
              wrote = s.wrote ∙ sym (never_writes p g acts o w v is);
              state = record {
                fits = fits_next (at g (place + 1) m acts v Running) on.goes;
                stands = stands_next (at g (place + 1) m acts v Running) on.goes;
                working = s.working;
                comes_back = s.comes_back;
                never = never_on p (at g place loaded acts w Running) (at g (place + 1) m acts v Running) on.goes s.never;
              };
            } in
            let within = slice_get_within s.orders.list place o e in
            let long : length_in (slice_get p.units g) ≡ length s.orders.list = ap length_in s.unit in
            let falls : left p (at g (place + 1) m acts v Running) < left p (at g place loaded acts w Running) = omega arith in
            waits on.goes matched (let x : 0 < s.done + 1 = omega arith in x) (subst (λ x. left p x < left p (at g place loaded acts w Running)) (sym on.goes) falls)

    -- what the orders before the last one did
    pub did_as : (n : ℕ) (os : List Order) → s.done ≡ n → drop s.from s.orders.list ≡ os → silently p g acts n os s.before ≡ Changed w
    did_as n os is_done e = sym (ap₂ (λ m r. silently p g acts m r s.before) is_done e) ∙ s.did

    -- and where the accumulator was before them
    pub moded_as : (n : ℕ) (os : List Order) → s.done ≡ n → drop s.from s.orders.list ≡ os → loaded_silently n os s.loaded_before ≡ Some loaded
    moded_as n os is_done e = sym (ap₂ (λ m r. loaded_silently m r s.loaded_before) is_done e) ∙ s.moded

    -- the last order of a block, whose code does what all its orders do
    pub last_does : {first : Watched} (m : Bool) (line : ℕ) (f : Words → Outcome) (limit n : ℕ) (os : List Order) → s.done ≡ n → drop s.from s.orders.list ≡ os → left_at 0 s.orders.list (place + 1) ≡ 0
        → step p (at g place loaded acts w Running) ≡ after p.room line (f w) g place m acts w → limit ≤ weight p (at g place loaded acts w Running)
        → Does p image limit code_end g m line acts s.before.output first (chain (silently p g acts n os s.before) f) → FollowFrom first (at g place loaded acts w Running) q
    last_does {first} m line f limit n os is_done e begins goes paid d =
        does m line (f w) limit begins goes paid
        (subst (λ o. Does p image limit code_end g m line acts o first (f w)) s.wrote
        (subst (λ x. Does p image limit code_end g m line acts s.before.output first (chain x f)) (did_as n os is_done e) d))

    pub last_tells : {first : Watched} (m : Bool) (f : Words → Outcome) (limit n : ℕ) (os : List Order) → s.done ≡ n → drop s.from s.orders.list ≡ os → left_at 0 s.orders.list (place + 1) ≡ 0
        → step p (at g place loaded acts w Running) ≡ after p.room 0 (f w) g place m acts w → limit ≤ weight p (at g place loaded acts w Running)
        → Tells p image limit code_end g m acts s.before.output first (chain (silently p g acts n os s.before) f) → FollowFrom first (at g place loaded acts w Running) q
    last_tells {first} m f limit n os is_done e begins goes paid d =
        tells m (f w) limit begins goes paid
        (subst (λ o. Tells p image limit code_end g m acts o first (f w)) s.wrote
        (subst (λ x. Tells p image limit code_end g m acts s.before.output first (chain x f)) (did_as n os is_done e) d))

    -- a call of an entry of the library
    abbrev pub by : (entry c : ℕ) → ℕ
    by entry c = (all.stands g s.orders s.unit).value 7 entry 0 c

    pub calls : (entry c : ℕ) → entry < length places_of_entries → (c + (all.stands g s.orders s.unit).value 7 entry 0 c) % 65536 ≡ entry_place entry % 65536
    calls entry c lt =
        let word = (all.stands g s.orders s.unit).value 7 entry 0 c in
        let e : word ≡ (entry_place entry + (65536 - c % 65536)) % 65536 = (all.stands g s.orders s.unit).fills.library entry c lt in
        omega arith

    abbrev pub setting : Setting
    setting = record { rows = rows; image = image; library = all.library; program = p; low = low; g = g; few = few_segments; acts = acts }

    pub cheap : (o : Order) (n : ℕ) → n ≤ weight_of o → slice_get s.orders.list place ≡ Some o → n ≤ weight p (at g place loaded acts w Running)
    cheap o n le e = let x = weight_is o e in omega arith

    pub has_code : (o : Order) → slice_get s.orders.list place ≡ Some o → HasCode o
    has_code o e = coded.codes g place o (order_is (Some o) e)

    -- the line of an order is a word
    pub line_fits : (o : Order) → slice_get s.orders.list place ≡ Some o → line_of o < 65536
    line_fits o e = coded.lines g place o (order_is (Some o) e)

    -- there is an order where the orders go on
    pub goes_within : (to : ℕ) (m : Bool) (v : Words) → step p (at g place loaded acts w Running) ≡ at g to m acts v Running → to ≤ length s.orders.list
    goes_within to m v e = cases (slice_get s.orders.list to) refl
      where
        never : Never p (at g to m acts v Running)
        never = never_on p (at g place loaded acts w Running) (at g to m acts v Running) e s.never

        cases : (o : Option Order) → slice_get s.orders.list to ≡ o → to ≤ length s.orders.list
        cases None none =
            let no_order : order_at p g to ≡ None = ap (λ u. order_in u to) s.unit ∙ none in
            absurd (not_stuck p g to m acts v (never_on p (at g to m acts v Running) (at g to m acts v Stuck) (ap (λ x. carry_out p x g to m acts v) no_order) never))
        cases (Some o) is = let lt = slice_get_within s.orders.list to o is in omega arith

    -- where the code of a mark starts in the image
    abbrev pub start : ℕ → ℕ
    start m = base_of p g + mark_starts s.orders m

    -- a mark is where a block begins
    pub mark_begins : (m to : ℕ) → slice_get s.orders.marks m ≡ Some to → left_at 0 s.orders.list to ≡ 0
    mark_begins m to is = elim (coded.marks g m to (ap (λ u. mark_in u m) s.unit ∙ is)) [
      | inl zero_is ↦ ap (left_at 0 s.orders.list) zero_is
      | inr begins ↦ begins_at s.orders.list to begins.0 (sym (ap (λ u. order_in u to) s.unit) ∙ begins.1) begins.2
    ]

    -- the way on that an order chooses
    pub chosen : {first : Watched} (l : Bool) (line : ℕ) (way : Way) (limit : ℕ) → left_at 0 s.orders.list (place + 1) ≡ 0 → step p (at g place loaded acts w Running) ≡ branch p line way g place l acts w → limit ≤ weight p (at g place loaded acts w Running)
        → Chooses p image limit code_end start g l line acts w.output first way → FollowFrom first (at g place loaded acts w Running) q
    chosen l line (Onward v) limit begins e paid d = leads_to g place loaded acts w (at g (place + 1) l acts v Running) limit e paid (onward (λ r t. inl (sound_at (place + 1) l v r begins e t)) d)
    chosen {first} l line (ToMark m v) limit begins e paid d = cases (slice_get s.orders.marks m) refl
      where
        goes : (k : Option ℕ) → slice_get s.orders.marks m ≡ k → step p (at g place loaded acts w Running) ≡ go_at k g place l acts w v
        goes k is = e ∙ ap (λ x. go_at x g place l acts w v) (ap (λ u. mark_in u m) s.unit ∙ is)

        cases : (k : Option ℕ) → slice_get s.orders.marks m ≡ k → FollowFrom first (at g place loaded acts w Running) q
        cases None none = absurd (not_stuck p g place l acts w (never_on p (at g place loaded acts w Running) (at g place l acts w Stuck) (goes None none) s.never))
        cases (Some to) is =
            let there : start m ≡ order_place (base_of p g) s.orders to = ap (λ n. base_of p g + n) (mark_start s.orders m to is (goes_within to l v (goes (Some to) is))) in
            leads_to g place loaded acts w (at g to l acts v Running) limit (goes (Some to) is) paid
            (onward (λ r t. inl (sound_at to l v r (mark_begins m to is) (goes (Some to) is) (subst (λ a. Landed p image a g l acts v r) there t))) d)
    chosen l line (Barred kind) limit begins e paid d = leads_to g place loaded acts w (at g place l acts w (Stopped kind (g + 1) line)) limit e paid d
    chosen l line Nowhere limit begins e paid d = absurd (not_stuck p g place l acts w (never_next (at g place l acts w Stuck) e))

    pub last_chooses : {first : Watched} (l : Bool) (line : ℕ) (f : Words → Way) (limit n : ℕ) (os : List Order) → s.done ≡ n → drop s.from s.orders.list ≡ os → left_at 0 s.orders.list (place + 1) ≡ 0
        → step p (at g place loaded acts w Running) ≡ branch p line (f w) g place l acts w → limit ≤ weight p (at g place loaded acts w Running)
        → Chooses p image limit code_end start g l line acts s.before.output first (way_after (silently p g acts n os s.before) f) → FollowFrom first (at g place loaded acts w Running) q
    last_chooses {first} l line f limit n os is_done e begins goes paid d =
        chosen l line (f w) limit begins goes paid
        (subst (λ o. Chooses p image limit code_end start g l line acts o first (f w)) s.wrote
        (subst (λ x. Chooses p image limit code_end start g l line acts s.before.output first (way_after x f)) (did_as n os is_done e) d))

    pub low_room : operand_words w.operands < level acts
    low_room = let room = s.stands.room in let most = coded.room in let split = words_split w.operands acts in omega arith

    -- ---- orders that are blocks of their own

    pub alone : block_at 0 (drop s.from s.orders.list) ≡ block.Single → Alone p image g place loaded acts w q s.orders
    alone is =
        let inside = s.inside in
        let none : orders_left (block_at 0 (drop s.from s.orders.list)) ≡ 0 = ap orders_left is in
        let is_done : s.done ≡ 0 = omega arith in
        let placed = s.place_is in
        let here : s.from ≡ place = omega arith in
        let same : Changed s.before ≡ Changed w = did_as 0 (drop s.from s.orders.list) is_done refl in
        let words : s.before ≡ w = cc in
        let mode : Some s.loaded_before ≡ Some loaded = moded_as 0 (drop s.from s.orders.list) is_done refl in
        let modes : s.loaded_before ≡ loaded = cc in
        record {
          begins = ap (left_at 0 s.orders.list) (sym here) ∙ s.begins;
          single = ap (λ n. block_at 0 (drop n s.orders.list)) (sym here) ∙ is;
          landed =
              subst (λ l. Landed p image (order_place (base_of p g) s.orders place) g l acts w q) modes
              (subst (λ v. Landed p image (order_place (base_of p g) s.orders place) g s.loaded_before acts v q) words
              (subst (λ n. Landed p image (order_place (base_of p g) s.orders n) g s.loaded_before acts s.before q) here s.landed));
        }

    -- whether a statement may begin where the code of the order does, and the processor there, where what begins is overlooked
    abbrev pub begins_here : Bool
    begins_here = behind_start s.orders.list place

    abbrev pub begun_here : Watched
    begun_here = over (behind_start s.orders.list place) q

    -- the same where the code of the block does
    abbrev pub begins_block : Bool
    begins_block = behind_start s.orders.list s.from

    abbrev pub begun_block : Watched
    begun_block = over (behind_start s.orders.list s.from) q

    module _ (a : Alone p image g place loaded acts w q s.orders) where
      pub landed_here : LandedAt (behind_start s.orders.list place) p image (order_place (base_of p g) s.orders place) g loaded acts w (over (behind_start s.orders.list place) q)
      landed_here = over_landed (behind_start s.orders.list place) a.landed

      -- where its code begins and ends
      abbrev pub here : ℕ
      here = order_place (base_of p g) s.orders place

      abbrev pub next : ℕ
      next = code_end

      pub alone_is : block_at (left_at 0 s.orders.list place) (drop place s.orders.list) ≡ block.Single
      alone_is = ap (λ n. block_at n (drop place s.orders.list)) a.begins ∙ a.single

      -- the form of its jump, and that a short one reaches its mark
      abbrev pub short_alone : Order → Bool
      short_alone o = is_short (reach_of s.orders) place block.Single o

      pub reaches_alone : (o : Order) (m : ℕ) → slice_get s.orders.list place ≡ Some o → jump_of block.Single o ≡ Some m → short_alone o ≡ true → is_close (own_place s.orders place + block_size true block.Single o) (mark_starts s.orders m) ≡ true
      reaches_alone o m e jumps short = closes s.orders place m block.Single o e alone_is jumps short

      pub code : (o : Order) → slice_get s.orders.list place ≡ Some o → HasPiecesFrom (first_of o (behind_start s.orders.list place)) image (all.stands g s.orders s.unit).value (order_place (base_of p g) s.orders place) (template_by (is_short (reach_of s.orders) place block.Single o) (names_of s.orders) (own_place s.orders place) place o)
      code o e =
          let st = all.stands g s.orders s.unit in
          let here = order_place (base_of p g) s.orders place in
          subst (λ x. HasPiecesFrom (first_of o (behind_start s.orders.list place)) image st.value here (pieces_by (names_of s.orders) (own_place s.orders place) place x o)) alone_is (st.orders place o e)

      pub behind : (o : Order) → slice_get s.orders.list place ≡ Some o → order_place (base_of p g) s.orders place + size_by (is_short (reach_of s.orders)) place block.Single o ≡ code_end
      behind o e =
          let n = order_next (base_of p g) s.orders place o e in
          let size = ap (λ x. size_by (is_short (reach_of s.orders)) place x o) alone_is in
          omega arith

      pub begins_next : (o : Order) → slice_get s.orders.list place ≡ Some o → left_at 0 s.orders.list (place + 1) ≡ 0
      begins_next o e =
          let next : place + 1 ≡ suc place = omega arith in
          ap (left_at 0 s.orders.list) next ∙ left_next 0 s.orders.list place o e ∙ ap orders_left alone_is

      -- an order without code
      pub silent : (o : Order) (m : Bool) (v : Words) → slice_get s.orders.list place ≡ Some o → step p (at g place loaded acts w Running) ≡ at g (place + 1) m acts v Running → size_by (is_short (reach_of s.orders)) place block.Single o ≡ 0 → is_codeless o ≡ true
          → ((at : ℕ) → Landed p image at g loaded acts w q → Landed p image at g m acts v q) → Follow (at g place loaded acts w Running) q
      silent o m v e goes none codeless turned =
          let here = order_place (base_of p g) s.orders place in
          let next = behind o e in
          let to : here ≡ code_end = omega arith in
          let there : Landed p image code_end g m acts v q = subst (λ a. Landed p image a g m acts v q) to (turned here a.landed) in
          let matched : Arrives (at g (place + 1) m acts v Running) q = inl (sound_at (place + 1) m v q (begins_next o e) goes there) in
          let within = slice_get_within s.orders.list place o e in
          let long : length_in (slice_get p.units g) ≡ length s.orders.list = ap length_in s.unit in
          let falls : left p (at g (place + 1) m acts v Running) < left p (at g place loaded acts w Running) = omega arith in
          passes_on o (order_is (Some o) e) codeless (subst (λ x. Arrives x q) (sym goes) matched) (subst (λ x. left p x < left p (at g place loaded acts w Running)) (sym goes) falls)
