-- The orders of a block that make the address of an element. Where it is none of the data area, the order that makes the address stops, and pays
-- for the way to the stop; where the index is compared with its bounds, the order that compares it does.
use Rattle.std.proofs.Common.{◌≡◌, ℕ, zero, suc, ◌+◌, ◌*◌, ◌<◌, ◌≤◌, Bool, true, false, ℤ, pos, negsuc, List, ◌∷◌, ◌++◌, drop, Option, Some, None, refl, sym, ap, ◌∙◌, subst, arith, lit≤}
use Rattle.std.specs.Prelude.{slice_get}
use borrow.Author.Tests.{ltb-true}
use Rattle.std.proofs.lemmas.Bool.{false≢true}
use Rattle.cw_unit.specs.Stop.{StopKind, AddressRange, IndexRange, Running, Stopped}
use Rattle.cw_unit.specs.Words.{Words, Outcome, Changed, Refused, Impossible, put, put_if, word_at, is_below}
use Rattle.cw_unit.specs.Operation.{Indexed, InBounds, perform}
use Rattle.cw_order.specs.declared.order.Order.{Order}
use Rattle.cw_order.specs.declared.order.Order.TheVariants as order
use Rattle.cw_order.specs.OrderActions.{home_word, action_of}
use Rattle.cw_order.specs.OrderCosts.{weight_of}
use Rattle.cw_order.specs.OrderChanges.{from_base}
use Rattle.cw_order.specs.Loading.{loaded_after}
use Rattle.cw_order.specs.OrderMachine.{act as carry_action, after, carry_with, step}
use Rattle.cw_order.specs.OrderState.{OrderActivation, at as at_order}
use Rattle.cw_tmpl.specs.declared.blocks.Element.{Element}
use Rattle.cw_tmpl.specs.declared.blocks.Test.{Test}
use Rattle.cw_tmpl.specs.declared.blocks.Test.TheVariants as test
use Rattle.cw_tmpl.specs.declared.pieces.Coded.{Coded}
use Rattle.cw_tmpl.specs.declared.blocks.Block.{Block}
use Rattle.cw_tmpl.specs.Blocks.{block_at, orders_left}
use Rattle.cw_tmpl.specs.Templates.{element_tested, element_address}
use Rattle.cw_tmpl.specs.Sizes.{element_size}
use Rattle.cw_follow.proofs.Watched.{Watched}
use Rattle.cw_follow.proofs.Chains.{Is, Leads, view, done, over_is}
use Rattle.cw_follow.proofs.Standing.{HasPieces, HasPiecesFrom}
use Rattle.cw_follow.proofs.Stacks.{level, record_of}
use Rattle.cw_follow.proofs.Routines.{Over}
use Rattle.cw_follow.proofs.Orders.{Leading, Does, later}
use Rattle.cw_follow.proofs.States.{Given, Sound}
use Rattle.cw_follow.proofs.Steps.{order_here, weight_is, line_fits, leads_to, stuck_here, step_is, silent_in, start_place, did_as, FollowFrom, begins_block, begun_block}
use Rattle.cw_follow.proofs.BlockOrders.{room_in, inner_follows}
use Rattle.cw_follow.proofs.InBlocks.{chain, puts_word, silently, silently_next}
use Rattle.cw_follow.proofs.Indexed.{element_steps}
use Rattle.cw_follow.proofs.Operands.{allowed}
use Rattle.cw_follow.proofs.ElementTests.{address_order, formed_list, homes, IndexRead, ZeroWord, BoundsWords, KnownTest, BeforeForms, before_forms, address_in, formed_as, IndexDone, index_done, is_between, BoundsDone, bounds_done, number_between, formed_so, Before, AtAddress, HasRoom, room_above, AddressedAt, addressed, address_stops, index_addressed, bounds_stop, AtAddressFrom, puts_address}

module _ (known : Given) where
  open known use {rows, p, image, all, coded, few, low}

  module _ {q : Watched} {g place : ℕ} {loaded : Bool} {acts : List OrderActivation} {w : Words} (s : Sound p image g place loaded acts w q) where
    -- ---- the order that makes the address

    -- the code of the address leads to this one
    abbrev pub LeadsTo : Element → Test → (k : ℕ) → Type 0
    LeadsTo e t k =
        (first m : Bool) (l : Before known s m) (tail : List Coded) (at top ax cx : ℕ) (q' : Watched) (a : AtAddressFrom known s first l at top ax cx q') → HasPiecesFrom first image (all.stands g s.orders s.unit).value at (element_tested e t ++ tail)
        → Leads s.before.output (element_steps e t) q' (AddressedAt known s l (at + element_size e t) top ax cx a.dx k)

    -- the words behind it
    pub record AfterForms (e : Element) (t : Test) (v : Words) : Type 0 where
      pub at : ℕ
      pub within : at < p.limits.area
      pub leads : LeadsTo e t at
      pub is : v ≡ put (pos at) s.before

    -- behind one order more
    pub one_behind : (n : ℕ) (os : List Order) (o : Order) (v : Words) → slice_get os n ≡ Some o → silently p g acts (suc n) os s.before ≡ Changed v → (T : Type 0)
        → ((u : Words) → silently p g acts n os s.before ≡ Changed u → puts_word p g acts o u ≡ Changed v → T) → T
    one_behind n os o v there did T on = cases (silently p g acts n os s.before) refl
      where
        next : silently p g acts (suc n) os s.before ≡ chain (silently p g acts n os s.before) (puts_word p g acts o)
        next = silently_next p g acts n os o s.before there

        cases : (x : Outcome) → silently p g acts n os s.before ≡ x → T
        cases (Refused kind) is = let none : Refused kind ≡ Changed v = ap (λ o'. chain o' (puts_word p g acts o)) (sym is) ∙ sym next ∙ did in absurd (cc)
        cases Impossible is = let none : Impossible ≡ Changed v = ap (λ o'. chain o' (puts_word p g acts o)) (sym is) ∙ sym next ∙ did in absurd (cc)
        cases (Changed u) is = on u is (ap (λ o'. chain o' (puts_word p g acts o)) (sym is) ∙ sym next ∙ did)

    pub after_forms : (e : Element) (t : Test) (behind : List Order) (z : KnownTest known s e t) (v : Words) → silently p g acts (suc (suc (homes t))) (formed_list e t behind) s.before ≡ Changed v → AfterForms e t v
    after_forms e (test.Address origin) behind z v did =
        one_behind 4 (formed_list e (test.Address origin) behind) (order.Element e.lower e.span e.line) v refl did (AfterForms e (test.Address origin) v)
        (λ u is goes.
        let f = before_forms known s e origin behind u is in
        within f.read (address_in known s e origin f.read) (is_below (address_in known s e origin f.read) p.limits.area) refl refl
        (sym (formed_as known s e origin z f.read) ∙ ap (from_base p.limits.area (λ base. Indexed base e.lower)) (sym f.is) ∙ goes))
      where
        within : (r : IndexRead known s e.index s.before) (x : ℤ) (b : Bool) → address_in known s e origin r ≡ x → is_below x p.limits.area ≡ b → allowed (is_below x p.limits.area) AddressRange (Changed (put x s.before)) ≡ Changed v → AfterForms e (test.Address origin) v
        within r x false same below is = let none : Refused AddressRange ≡ Changed v = ap (λ b. allowed b AddressRange (Changed (put x s.before))) (sym below) ∙ is in absurd (cc)
        within r (negsuc n) true same below is = absurd (false≢true below)
        within r (pos n) true same below is =
            let inside = ltb-true n p.limits.area below in
            record {
              at = n;
              within = inside;
              leads = λ first m l tail at top ax cx q' a h. addressed known s l e origin tail z r at top ax cx n q' a h same inside;
              is = (let made : put (pos n) s.before ≡ v = (let goes : Changed (put (pos n) s.before) ≡ Changed v = ap (λ b. allowed b AddressRange (Changed (put (pos n) s.before))) (sym below) ∙ is in cc) in sym made);
            }
    after_forms e (test.Bounds upper line) behind z v did =
        one_behind 5 (formed_list e (test.Bounds upper line) behind) (order.Element e.lower e.span e.line) v refl did (AfterForms e (test.Bounds upper line) v)
        (λ u is goes.
        let f = bounds_done known s e upper line behind u is in
        let n = number_between known s e upper z f.read f.holds in
        let few_numbers = n.within in
        let inside = z.inside in
        let base = home_word p.addresses g e.family e.first in
        let made : Changed (put (pos (base + n.number)) s.before) ≡ Changed v = sym (formed_so known s e upper z u f) ∙ goes in
        record {
          at = base + n.number;
          within = omega arith;
          leads = λ first m l tail at top ax cx q' a h. index_addressed known s l e upper line tail z f.read f.holds at top ax cx q' a h;
          is = (let same : put (pos (base + n.number)) s.before ≡ v = cc in sym same);
        })

    -- how the code comes to that of the address
    pub record ComesTo (start : Watched) {m : Bool} (l : Before known s m) (e : Element) (t : Test) (at : ℕ) : Type 0 where
      pub top : ℕ
      pub ax : ℕ
      pub cx : ℕ
      pub low : top < level acts
      pub steps : ℕ
      pub few_steps : steps ≤ 1
      pub first : Bool
      pub comes : Leads s.before.output steps start (AtAddressFrom known s first l at top ax cx)
      pub tail : List Coded
      pub stands : HasPiecesFrom first image (all.stands g s.orders s.unit).value at (element_tested e t ++ tail)

    -- an order that may stop, with the way to the stop where it does
    pub stops_follow : {start : Watched} (o : Order) (line k : ℕ) (os : List Order) (b : Block) → 20 ≤ weight_of o → s.done ≡ k → drop s.from s.orders.list ≡ os → slice_get os k ≡ Some o
        → ((m : Bool) → carry_action p (action_of p g acts o) g place m acts w ≡ after p.room line (puts_word p g acts o w) g place m acts w)
        → ((m : Bool) (kind : StopKind) → puts_word p g acts o w ≡ Refused kind → Does p image (weight_of o) 0 g m line acts s.before.output start (Refused kind))
        → block_at 0 (drop s.from s.orders.list) ≡ b → suc k ≤ orders_left b → FollowFrom known start (at_order g place loaded acts w Running) q
    stops_follow {start} o line k os b heavy is_done list there acts_so refused is more = cases (loaded_after o loaded) refl
      where
        here : slice_get s.orders.list place ≡ Some o
        here = order_here known s k o os is_done list there

        stops : (m : Bool) (kind : StopKind) → puts_word p g acts o w ≡ Refused kind → step p (at_order g place loaded acts w Running) ≡ at_order g place m acts w (Stopped kind (g + 1) line) → FollowFrom known start (at_order g place loaded acts w Running) q
        stops m kind stopped goes =
            leads_to known g place loaded acts w (at_order g place m acts w (Stopped kind (g + 1) line)) (weight_of o) goes (weight_is known s o here)
            (subst (λ x. Leading x (weight_of o) start (Over (record { output = x; end = Stopped kind (g + 1) line }))) s.wrote (refused m kind stopped))

        cases : (x : Option Bool) → loaded_after o loaded ≡ x → FollowFrom known start (at_order g place loaded acts w Running) q
        cases None mode = absurd (stuck_here known s (step_is known s (Some o) here ∙ ap (λ x. carry_with p x o g place loaded acts w) mode))
        cases (Some m) mode =
            let left : orders_left (block_at 0 (drop s.from s.orders.list)) ≡ orders_left b = ap orders_left is in
            silent_in known s o m line here mode (acts_so m) (stops m) (omega arith)

    -- the order that makes an address with a test of it
    pub forms_follows : {start : Watched} (e : Element) (origin : ℕ) (z : ZeroWord known s e origin) (k at : ℕ) (os : List Order) (b : Block) → ComesTo start s.landed e (test.Address origin) at → s.done ≡ k → drop s.from s.orders.list ≡ os → slice_get os k ≡ Some (order.Element e.lower e.span e.line)
        → BeforeForms known s e w → block_at 0 (drop s.from s.orders.list) ≡ b → suc k ≤ orders_left b → FollowFrom known start (at_order g place loaded acts w Running) q
    forms_follows {start} e origin z k at os b c is_done list there f is more = stops_follow o e.line k os b (lit≤ tt) is_done list there (λ m. refl) (λ m kind refused. below m kind refused (is_below (address_in known s e origin f.read) p.limits.area) refl) is more
      where
        o : Order
        o = order.Element e.lower e.span e.line

        here : slice_get s.orders.list place ≡ Some o
        here = order_here known s k o os is_done list there

        formed : puts_word p g acts o w ≡ allowed (is_below (address_in known s e origin f.read) p.limits.area) AddressRange (Changed (put (address_in known s e origin f.read) s.before))
        formed = ap (from_base p.limits.area (λ base. Indexed base e.lower)) f.is ∙ formed_as known s e origin z f.read

        below : (m : Bool) (kind : StopKind) → puts_word p g acts o w ≡ Refused kind → (t : Bool) → is_below (address_in known s e origin f.read) p.limits.area ≡ t → Does p image 26 0 g m e.line acts s.before.output start (Refused kind)
        below m kind refused true is = let none : Changed (put (address_in known s e origin f.read) s.before) ≡ Refused kind = ap (λ t. allowed t AddressRange (Changed (put (address_in known s e origin f.read) s.before))) (sym is) ∙ sym formed ∙ refused in absurd (cc)
        below m kind refused false is =
            let same : Refused AddressRange ≡ Refused kind = ap (λ t. allowed t AddressRange (Changed (put (address_in known s e origin f.read) s.before))) (sym is) ∙ sym formed ∙ refused in
            let kind_is : AddressRange ≡ kind = cc in
            let few_steps = c.few_steps in
            subst (λ x. Does p image 26 0 g m e.line acts s.before.output start (Refused x)) kind_is
            (later p image 20 0 g m e.line acts c.steps 26 (Refused AddressRange) (omega arith) c.comes
            (λ t a. address_stops known s s.landed e origin c.tail z f.read at c.top c.ax c.cx 0 m t a c.stands (line_fits known s o here) c.low is))

    -- one that compares an index
    pub bounds_follow : {start : Watched} (e : Element) (upper : ℤ) (line : ℕ) (z : BoundsWords known s e upper) (k at : ℕ) (os : List Order) (b : Block) → ComesTo start s.landed e (test.Bounds upper line) at → s.done ≡ k → drop s.from s.orders.list ≡ os → slice_get os k ≡ Some (order.InBounds e.lower upper line)
        → IndexDone known s e w → block_at 0 (drop s.from s.orders.list) ≡ b → suc k ≤ orders_left b → FollowFrom known start (at_order g place loaded acts w Running) q
    bounds_follow {start} e upper line z k at os b c is_done list there f is more = stops_follow o line k os b (lit≤ tt) is_done list there (λ m. refl) (λ m kind refused. between m kind refused (is_between known s e upper f.read) refl) is more
      where
        o : Order
        o = order.InBounds e.lower upper line

        here : slice_get s.orders.list place ≡ Some o
        here = order_here known s k o os is_done list there

        i : ℤ
        i = word_at s.before.memory f.read.at

        compares : puts_word p g acts o w ≡ put_if (is_between known s e upper f.read) IndexRange i s.before
        compares = ap (perform p.limits.area (InBounds e.lower upper)) f.is

        between : (m : Bool) (kind : StopKind) → puts_word p g acts o w ≡ Refused kind → (t : Bool) → is_between known s e upper f.read ≡ t → Does p image 22 0 g m line acts s.before.output start (Refused kind)
        between m kind refused true is = let none : Changed (put i s.before) ≡ Refused kind = ap (λ t. put_if t IndexRange i s.before) (sym is) ∙ sym compares ∙ refused in absurd (cc)
        between m kind refused false is =
            let same : Refused IndexRange ≡ Refused kind = ap (λ t. put_if t IndexRange i s.before) (sym is) ∙ sym compares ∙ refused in
            let kind_is : IndexRange ≡ kind = cc in
            let few_steps = c.few_steps in
            subst (λ x. Does p image 22 0 g m line acts s.before.output start (Refused x)) kind_is
            (later p image 18 0 g m line acts c.steps 22 (Refused IndexRange) (omega arith) c.comes
            (λ t a. bounds_stop known s s.landed e upper line c.tail z f.read at c.top c.ax c.cx 0 m t a c.stands (line_fits known s o here) c.low is))

    -- and the one that makes the address behind it, which never stops
    pub forms_so : {start : Watched} (e : Element) (upper : ℤ) (z : BoundsWords known s e upper) (k : ℕ) (os : List Order) (b : Block) → s.done ≡ k → drop s.from s.orders.list ≡ os → slice_get os k ≡ Some (order.Element e.lower e.span e.line)
        → BoundsDone known s e upper w → block_at 0 (drop s.from s.orders.list) ≡ b → suc k ≤ orders_left b → FollowFrom known start (at_order g place loaded acts w Running) q
    forms_so e upper z k os b is_done list there f is more =
        stops_follow (order.Element e.lower e.span e.line) e.line k os b (lit≤ tt) is_done list there (λ m. refl)
        (λ m kind refused.
        let n = number_between known s e upper z f.read f.holds in
        let none : Changed (put (pos (home_word p.addresses g e.family e.first + n.number)) s.before) ≡ Refused kind = sym (formed_so known s e upper z w f) ∙ refused in
        absurd (cc)) is more

    -- ---- the orders before the last one

    -- an operand on the stack at the beginning of the block
    pub start_room : HasRoom known s s.landed.top
    start_room = room_above known s s.loaded_before s.landed.stacked.ax s.landed.stack s.landed.top s.before.operands (room_in known s) s.landed.operands

    pub at_start : {m : Bool} (l : Before known s m) (r : HasRoom known s l.top) → AtAddress known s l (start_place known s) r.above l.stacked.ax l.stacked.cx q
    at_start l r =
        let t = l.stacked in
        record {
          dx = t.dx;
          bx = t.bx;
          si = t.si;
          overflow = t.overflow;
          is = subst (λ n. Is image (start_place known s) (view t.ax t.cx t.dx t.bx (2 * n) (record_of acts) t.si p.limits.area t.overflow l.cells l.stack l.input l.told) q) r.is t.is;
        }

    pub at_begun : {m : Bool} (l : Before known s m) (r : HasRoom known s l.top) → AtAddressFrom known s (begins_block known s) l (start_place known s) r.above l.stacked.ax l.stacked.cx (begun_block known s)
    at_begun l r = let a = at_start l r in record { dx = a.dx; bx = a.bx; si = a.si; overflow = a.overflow; is = over_is (begins_block known s) a.is }

    -- where the block begins with the code of the address
    pub comes_at_once : (e : Element) (tail : List Coded) → HasPieces image (all.stands g s.orders s.unit).value (start_place known s) (element_address e ++ tail) → ComesTo q s.landed e e.test (start_place known s)
    comes_at_once e tail h =
        record { top = start_room.above; ax = s.landed.stacked.ax; cx = s.landed.stacked.cx; low = start_room.low; steps = 0; few_steps = lit≤ tt; first = false; comes = done (at_start s.landed start_room); tail = tail; stands = h }

    -- and a statement may begin there
    pub comes_begun : (e : Element) (tail : List Coded) → HasPiecesFrom (begins_block known s) image (all.stands g s.orders s.unit).value (start_place known s) (element_address e ++ tail) → ComesTo (begun_block known s) s.landed e e.test (start_place known s)
    comes_begun e tail h =
        record { top = start_room.above; ax = s.landed.stacked.ax; cx = s.landed.stacked.cx; low = start_room.low; steps = 0; few_steps = lit≤ tt; first = begins_block known s; comes = done (at_begun s.landed start_room); tail = tail; stands = h }

    -- an element that nothing is saved before
    address_inner : {start : Watched} (e : Element) (origin : ℕ) (z : ZeroWord known s e origin) (b : Block) (behind : List Order) (at k : ℕ) → ComesTo start s.landed e (test.Address origin) at → s.done ≡ k → drop s.from s.orders.list ≡ formed_list e (test.Address origin) behind
        → block_at 0 (drop s.from s.orders.list) ≡ b → k ≤ 4 → 5 ≤ orders_left b → FollowFrom known start (at_order g place loaded acts w Running) q
    address_inner e origin z b behind at zero c is_done list is le more = inner_follows known s 0 (address_order e.index) b (formed_list e (test.Address origin) behind) is_done list refl (puts_address e.index) is (omega arith)
    address_inner e origin z b behind at (suc zero) c is_done list is le more = inner_follows known s 1 order.Load b (formed_list e (test.Address origin) behind) is_done list refl tt is (omega arith)
    address_inner e origin z b behind at (suc (suc zero)) c is_done list is le more = inner_follows known s 2 order.Save b (formed_list e (test.Address origin) behind) is_done list refl tt is (omega arith)
    address_inner e origin z b behind at (suc (suc (suc zero))) c is_done list is le more = inner_follows known s 3 (order.Home e.family e.first) b (formed_list e (test.Address origin) behind) is_done list refl tt is (omega arith)
    address_inner e origin z b behind at (suc (suc (suc (suc zero)))) c is_done list is le more =
        forms_follows e origin z 4 at (formed_list e (test.Address origin) behind) b c is_done list refl (before_forms known s e origin behind w (did_as known s 4 (formed_list e (test.Address origin) behind) is_done list)) is more
    address_inner e origin z b behind at (suc (suc (suc (suc (suc k))))) c is_done list is le more = absurd (omega arith)

    bounds_inner : {start : Watched} (e : Element) (upper : ℤ) (line : ℕ) (z : BoundsWords known s e upper) (b : Block) (behind : List Order) (at k : ℕ) → ComesTo start s.landed e (test.Bounds upper line) at → s.done ≡ k → drop s.from s.orders.list ≡ formed_list e (test.Bounds upper line) behind
        → block_at 0 (drop s.from s.orders.list) ≡ b → k ≤ 5 → 6 ≤ orders_left b → FollowFrom known start (at_order g place loaded acts w Running) q
    bounds_inner e upper line z b behind at zero c is_done list is le more = inner_follows known s 0 (address_order e.index) b (formed_list e (test.Bounds upper line) behind) is_done list refl (puts_address e.index) is (omega arith)
    bounds_inner e upper line z b behind at (suc zero) c is_done list is le more = inner_follows known s 1 order.Load b (formed_list e (test.Bounds upper line) behind) is_done list refl tt is (omega arith)
    bounds_inner e upper line z b behind at (suc (suc zero)) c is_done list is le more =
        let os = formed_list e (test.Bounds upper line) behind in
        bounds_follow e upper line z 2 at os b c is_done list refl (index_done known s e (test.Bounds upper line) behind w (did_as known s 2 os is_done list)) is (omega arith)
    bounds_inner e upper line z b behind at (suc (suc (suc zero))) c is_done list is le more = inner_follows known s 3 order.Save b (formed_list e (test.Bounds upper line) behind) is_done list refl tt is (omega arith)
    bounds_inner e upper line z b behind at (suc (suc (suc (suc zero)))) c is_done list is le more = inner_follows known s 4 (order.Home e.family e.first) b (formed_list e (test.Bounds upper line) behind) is_done list refl tt is (omega arith)
    bounds_inner e upper line z b behind at (suc (suc (suc (suc (suc zero))))) c is_done list is le more =
        let os = formed_list e (test.Bounds upper line) behind in
        forms_so e upper z 5 os b is_done list refl (bounds_done known s e upper line behind w (did_as known s 5 os is_done list)) is more
    bounds_inner e upper line z b behind at (suc (suc (suc (suc (suc (suc k)))))) c is_done list is le more = absurd (omega arith)

    pub plain_inner : {start : Watched} (e : Element) (t : Test) (z : KnownTest known s e t) (b : Block) (behind : List Order) (at k : ℕ) → ComesTo start s.landed e t at → s.done ≡ k → drop s.from s.orders.list ≡ formed_list e t behind → block_at 0 (drop s.from s.orders.list) ≡ b
        → k ≤ suc (homes t) → suc (suc (homes t)) ≤ orders_left b → FollowFrom known start (at_order g place loaded acts w Running) q
    plain_inner e (test.Address origin) z b behind at k c is_done list is le more = address_inner e origin z b behind at k c is_done list is le more
    plain_inner e (test.Bounds upper line) z b behind at k c is_done list is le more = bounds_inner e upper line z b behind at k c is_done list is le more

    -- one behind a Save
    address_saved : {start : Watched} (e : Element) (origin : ℕ) (z : ZeroWord known s e origin) (b : Block) (behind : List Order) (at k : ℕ) → ComesTo start s.landed e (test.Address origin) at → s.done ≡ k → drop s.from s.orders.list ≡ order.Save ∷ formed_list e (test.Address origin) behind
        → block_at 0 (drop s.from s.orders.list) ≡ b → k ≤ 5 → 6 ≤ orders_left b → FollowFrom known start (at_order g place loaded acts w Running) q
    address_saved e origin z b behind at zero c is_done list is le more = inner_follows known s 0 order.Save b (order.Save ∷ formed_list e (test.Address origin) behind) is_done list refl tt is (omega arith)
    address_saved e origin z b behind at (suc zero) c is_done list is le more = inner_follows known s 1 (address_order e.index) b (order.Save ∷ formed_list e (test.Address origin) behind) is_done list refl (puts_address e.index) is (omega arith)
    address_saved e origin z b behind at (suc (suc zero)) c is_done list is le more = inner_follows known s 2 order.Load b (order.Save ∷ formed_list e (test.Address origin) behind) is_done list refl tt is (omega arith)
    address_saved e origin z b behind at (suc (suc (suc zero))) c is_done list is le more = inner_follows known s 3 order.Save b (order.Save ∷ formed_list e (test.Address origin) behind) is_done list refl tt is (omega arith)
    address_saved e origin z b behind at (suc (suc (suc (suc zero)))) c is_done list is le more = inner_follows known s 4 (order.Home e.family e.first) b (order.Save ∷ formed_list e (test.Address origin) behind) is_done list refl tt is (omega arith)
    address_saved e origin z b behind at (suc (suc (suc (suc (suc zero))))) c is_done list is le more =
        let os : List Order = order.Save ∷ formed_list e (test.Address origin) behind in
        forms_follows e origin z 5 at os b c is_done list refl (before_forms known s e origin behind w (did_as known s 5 os is_done list)) is more
    address_saved e origin z b behind at (suc (suc (suc (suc (suc (suc k)))))) c is_done list is le more = absurd (omega arith)

    bounds_saved : {start : Watched} (e : Element) (upper : ℤ) (line : ℕ) (z : BoundsWords known s e upper) (b : Block) (behind : List Order) (at k : ℕ) → ComesTo start s.landed e (test.Bounds upper line) at → s.done ≡ k → drop s.from s.orders.list ≡ order.Save ∷ formed_list e (test.Bounds upper line) behind
        → block_at 0 (drop s.from s.orders.list) ≡ b → k ≤ 6 → 7 ≤ orders_left b → FollowFrom known start (at_order g place loaded acts w Running) q
    bounds_saved e upper line z b behind at zero c is_done list is le more = inner_follows known s 0 order.Save b (order.Save ∷ formed_list e (test.Bounds upper line) behind) is_done list refl tt is (omega arith)
    bounds_saved e upper line z b behind at (suc zero) c is_done list is le more = inner_follows known s 1 (address_order e.index) b (order.Save ∷ formed_list e (test.Bounds upper line) behind) is_done list refl (puts_address e.index) is (omega arith)
    bounds_saved e upper line z b behind at (suc (suc zero)) c is_done list is le more = inner_follows known s 2 order.Load b (order.Save ∷ formed_list e (test.Bounds upper line) behind) is_done list refl tt is (omega arith)
    bounds_saved e upper line z b behind at (suc (suc (suc zero))) c is_done list is le more =
        let os : List Order = order.Save ∷ formed_list e (test.Bounds upper line) behind in
        bounds_follow e upper line z 3 at os b c is_done list refl (index_done known s e (test.Bounds upper line) behind w (did_as known s 3 os is_done list)) is (omega arith)
    bounds_saved e upper line z b behind at (suc (suc (suc (suc zero)))) c is_done list is le more = inner_follows known s 4 order.Save b (order.Save ∷ formed_list e (test.Bounds upper line) behind) is_done list refl tt is (omega arith)
    bounds_saved e upper line z b behind at (suc (suc (suc (suc (suc zero))))) c is_done list is le more =
        inner_follows known s 5 (order.Home e.family e.first) b (order.Save ∷ formed_list e (test.Bounds upper line) behind) is_done list refl tt is (omega arith)
    bounds_saved e upper line z b behind at (suc (suc (suc (suc (suc (suc zero)))))) c is_done list is le more =
        let os : List Order = order.Save ∷ formed_list e (test.Bounds upper line) behind in
        forms_so e upper z 6 os b is_done list refl (bounds_done known s e upper line behind w (did_as known s 6 os is_done list)) is more
    bounds_saved e upper line z b behind at (suc (suc (suc (suc (suc (suc (suc k))))))) c is_done list is le more = absurd (omega arith)

    pub saved_inner : {start : Watched} (e : Element) (t : Test) (z : KnownTest known s e t) (b : Block) (behind : List Order) (at k : ℕ) → ComesTo start s.landed e t at → s.done ≡ k → drop s.from s.orders.list ≡ order.Save ∷ formed_list e t behind → block_at 0 (drop s.from s.orders.list) ≡ b
        → k ≤ suc (suc (homes t)) → suc (suc (suc (homes t))) ≤ orders_left b → FollowFrom known start (at_order g place loaded acts w Running) q
    saved_inner e (test.Address origin) z b behind at k c is_done list is le more = address_saved e origin z b behind at k c is_done list is le more
    saved_inner e (test.Bounds upper line) z b behind at k c is_done list is le more = bounds_saved e upper line z b behind at k c is_done list is le more
