-- An element whose index is in memory: what is known of it, what the orders that make its address do, and the code that tests it.
use Rattle.std.proofs.Common.{◌≡◌, inl, inr, ◌⊎◌, ℕ, zero, suc, ◌+◌, ◌*◌, ◌%◌, ◌<◌, ◌≤◌, Bool, true, false, ℤ, pos, negsuc, ◌+ℤ◌, ◌-ℤ◌, List, [], ◌∷◌, ◌++◌, length, drop, Option, Some, None, refl, sym, ap, ◌∙◌, subst, arith, lit<, append_assoc}
use Rattle.std.specs.Prelude.{slice_get, int_le, ◌&&◌}
use borrow.Author.Tests.{ltb-true}
use Rattle.cw_word.specs.FixedPoint.{FitsWord}
use Rattle.cw_word.specs.Word.{signed, unsigned}
use Rattle.cw_unit.specs.Stop.{AddressRange, IndexRange}
use Rattle.cw_unit.specs.Words.{Operand, Word, Held, Words, Outcome, Changed, Refused, Impossible, put, put_if, word_at, is_below}
use Rattle.cw_unit.specs.Operation.{Fetch, Indexed, perform}
use Rattle.cw_order.specs.declared.order.Order.{Order}
use Rattle.cw_order.specs.declared.order.Order.TheVariants as order
use Rattle.cw_order.specs.OrderActions.{home_word, place_address}
use Rattle.cw_order.specs.OrderChanges.{put_address, from_base}
use Rattle.cw_order.specs.OrderMachine.{unrefused}
use Rattle.cw_order.specs.OrderProgram.{order_in, order_at}
use Rattle.cw_order.specs.OrderState.{OrderActivation, operand_words, frame_word}
use Rattle.cw_order.specs.declared.order.Place.{Place}
use Rattle.cw_order.specs.declared.order.Place.TheVariants as cell
use Rattle.cw_tmpl.specs.declared.blocks.Element.{Element}
use Rattle.cw_tmpl.specs.declared.blocks.Test.{Test}
use Rattle.cw_tmpl.specs.declared.blocks.Test.TheVariants as test
use Rattle.cw_tmpl.specs.declared.pieces.Target.TheVariants as target
use Rattle.cw_run86.specs.Views.{word_sum}
use Rattle.cw_tmpl.specs.declared.pieces.Coded.{Coded}
use Rattle.cw_tmpl.specs.declared.pieces.Coded.TheVariants as pieces
use Rattle.cw_tmpl.specs.Blocks.{address_orders, bounds_orders, is_within, element_orders, left_at}
use Rattle.cw_tmpl.specs.Library.{address_entry, bounds_entry}
use Rattle.cw_tmpl.specs.Mnemonics.{load, operate, field, si as si_register, di, compare, double, jump_if_below, operate_number}
use Rattle.cw_tmpl.specs.Templates.{frame_size, call_stop, index_added, index_loaded, from_lower, indexes_between, address_tested, index_tested}
use Rattle.cw_tmpl.specs.ShortForms.{Forms}
use Rattle.cw_tmpl.specs.Sizes.{index_size, lower_size}
use Rattle.cw_tmpl.proofs.Shapes.{TestNear}
use Rattle.cw_tmpl.proofs.Lengths.{field_loaded, field_operated}
use Rattle.cw_tmpl.proofs.Sizes.{index_long, lower_long, size_to}
use Rattle.cw_i86.specs.Encoding.{bytes_of}
use Rattle.cw_follow.specs.Placing.{base_of}
use Rattle.cw_follow.proofs.Watched.{Watched}
use Rattle.cw_follow.proofs.Chains.{Leads, view, IsAt}
use Rattle.cw_follow.proofs.Standing.{HasPieces, order_place, stand_both, HasPiecesFrom, stand_behind}
use Rattle.cw_follow.proofs.Stacks.{level, record_of, OperandsAre, top_is}
use Rattle.cw_follow.proofs.Orders.{Landed, later, through_word}
use Rattle.cw_follow.proofs.States.{Given, Sound}
use Rattle.cw_follow.proofs.Steps.{setting, calls}
use Rattle.cw_follow.proofs.InBlocks.{slice_drop, chain, loaded_silently, puts_word, silently, Puts}
use Rattle.cw_follow.proofs.FrameBlocks.{frame_word_inside}
use Rattle.cw_follow.proofs.Indexed.{below_of, formed_by_one, BetweenBounds, from_word, between_bounds, past_bounds, formed_between, Addressed, Summed, index_steps, loaded_steps, loaded_size, lower_steps, few_index, few_loaded, few_lower, loaded_long, loaded_index, sum_by_word, sum_by_frame, test_passes, test_stops, index_by_word, index_by_frame, less_lower, index_passes, index_stops}
use Rattle.cw_follow.proofs.Operands.{allowed, DoesHere}
use Rattle.cw_follow.proofs.Routines.{leads_then}

chain_chain : (x : Outcome) (f g : Words → Outcome) → chain (chain x f) g ≡ chain x (λ v. chain (f v) g)
chain_chain (Changed v) f g = refl
chain_chain _ f g = refl

-- the order that puts the address of a place
abbrev pub address_order : Place → Order
address_order (cell.Word f n) = order.Home f n
address_order (cell.Frame n) = order.FrameHome n

pub puts_address : (x : Place) → Puts (address_order x)
puts_address (cell.Word f n) = tt
puts_address (cell.Frame n) = tt

pub address_one : (x : Place) → address_orders x ≡ address_order x ∷ []
address_one (cell.Word f n) = refl
address_one (cell.Frame n) = refl

-- the orders that make the address of an element, with such a test, and others behind them; and those behind the first one
abbrev pub tail_list : Element → Test → List Order → List Order
tail_list e t behind = order.Load ∷ (bounds_orders e.lower t ++ order.Save ∷ order.Home e.family e.first ∷ order.Element e.lower e.span e.line ∷ behind)

abbrev pub formed_list : Element → Test → List Order → List Order
formed_list e t behind = address_order e.index ∷ tail_list e t behind

pub formed_list_is : (e : Element) (behind : List Order) → element_orders e ++ behind ≡ formed_list e e.test behind
formed_list_is e behind =
    let last : List Order = order.Save ∷ order.Home e.family e.first ∷ order.Element e.lower e.span e.line ∷ [] in
    ap (λ l. (l ++ order.Load ∷ (bounds_orders e.lower e.test ++ last)) ++ behind) (address_one e.index)
    ∙ ap (λ l. address_order e.index ∷ order.Load ∷ l) (append_assoc (bounds_orders e.lower e.test) last behind)

-- the place among them of the one that puts the address of the first word; the next one forms that of the element
abbrev pub homes : Test → ℕ
homes (test.Address origin) = 3
homes (test.Bounds upper line) = 4

module _ (e : Element) where
  abbrev home_order : Order
  home_order = order.Home e.family e.first

  abbrev forms_order : Order
  forms_order = order.Element e.lower e.span e.line

  home_there : (t : Test) (behind : List Order) → slice_get (formed_list e t behind) (homes t) ≡ Some home_order
  home_there (test.Address origin) behind = refl
  home_there (test.Bounds upper line) behind = refl

  pub forms_there : (t : Test) (behind : List Order) → slice_get (formed_list e t behind) (homes t + 1) ≡ Some forms_order
  forms_there (test.Address origin) behind = refl
  forms_there (test.Bounds upper line) behind = refl

  pub saved_there : (t : Test) (behind : List Order) → slice_get (order.Save ∷ formed_list e t behind) (suc (homes t) + 1) ≡ Some forms_order
  saved_there (test.Address origin) behind = refl
  saved_there (test.Bounds upper line) behind = refl

  pub behind_there : (t : Test) (o : Order) (behind : List Order) → slice_get (formed_list e t (o ∷ behind)) (suc (suc (homes t))) ≡ Some o
  behind_there (test.Address origin) o behind = refl
  behind_there (test.Bounds upper line) o behind = refl

  pub next_there : (t : Test) (o next : Order) (behind : List Order) → slice_get (formed_list e t (o ∷ next ∷ behind)) (suc (suc (suc (homes t)))) ≡ Some next
  next_there (test.Address origin) o next behind = refl
  next_there (test.Bounds upper line) o next behind = refl

  -- the one that compares the index
  abbrev ComparesIn : Test → List Order → Type 0
  ComparesIn (test.Address origin) list = Unit {0}
  ComparesIn (test.Bounds upper line) list = (k : ℕ) × (slice_get list k ≡ Some (order.InBounds e.lower upper line))

  compares_there : (t : Test) (behind : List Order) → ComparesIn t (formed_list e t behind)
  compares_there (test.Address origin) behind = tt
  compares_there (test.Bounds upper line) behind = (2, refl)

  compares_saved : (t : Test) (behind : List Order) → ComparesIn t (order.Save ∷ formed_list e t behind)
  compares_saved (test.Address origin) behind = tt
  compares_saved (test.Bounds upper line) behind = (3, refl)

  -- where they leave the accumulator
  pub tail_mode : (t : Test) (behind : List Order) → loaded_silently (suc (homes t)) (tail_list e t behind) true ≡ Some true
  tail_mode (test.Address origin) behind = refl
  tail_mode (test.Bounds upper line) behind = refl

  pub fetched_mode : (t : Test) (behind : List Order) → loaded_silently (suc (suc (homes t))) (tail_list e t (order.Load ∷ behind)) true ≡ Some true
  fetched_mode (test.Address origin) behind = refl
  fetched_mode (test.Bounds upper line) behind = refl

  -- how many there are
  pub formed_many : (x : Place) (t : Test) → length (address_orders x ++ order.Load ∷ (bounds_orders e.lower t ++ order.Save ∷ home_order ∷ forms_order ∷ [])) ≡ suc (suc (homes t))
  formed_many (cell.Word f n) (test.Address origin) = refl
  formed_many (cell.Word f n) (test.Bounds upper line) = refl
  formed_many (cell.Frame n) (test.Address origin) = refl
  formed_many (cell.Frame n) (test.Bounds upper line) = refl

  pub fetched_many : (x : Place) (t : Test)
      → length ((address_orders x ++ order.Load ∷ (bounds_orders e.lower t ++ order.Save ∷ home_order ∷ forms_order ∷ [])) ++ order.Load ∷ []) ≡ suc (suc (suc (homes t)))
  fetched_many (cell.Word f n) (test.Address origin) = refl
  fetched_many (cell.Word f n) (test.Bounds upper line) = refl
  fetched_many (cell.Frame n) (test.Address origin) = refl
  fetched_many (cell.Frame n) (test.Bounds upper line) = refl

-- the orders behind the first one of a block have no code, and end it
pub none_inside : (forms : Forms) (number n : ℕ) (os : List Order) → size_to forms number n os n ≡ 0
none_inside forms number zero os = refl
none_inside forms number (suc n) [] = refl
none_inside forms number (suc n) (o ∷ os) = omega (arith, none_inside forms (suc number) n os)

pub over_inside : (n : ℕ) (os : List Order) (o : Order) → slice_get os n ≡ Some o → left_at (suc n) os (suc n) ≡ 0
over_inside n [] o e = absurd (cc)
over_inside zero (x ∷ xs) o e = refl
over_inside (suc n) (x ∷ xs) o e = over_inside n xs o e

pub many_between : (n : ℕ) → n < 32768 → indexes_between (pos n) ≡ suc n
many_between n few = omega arith

pub within_span : (last : ℤ) (span : ℕ) → is_within last span ≡ true → (n : ℕ) × (last ≡ pos n) × (n < span)
within_span (pos n) span e = (n, refl, ltb-true n span e)
within_span (negsuc n) span e = absurd (cc)

module _ (known : Given) where
  open known use {rows, p, image, all, coded, few, low}

  module _ {q : Watched} {g place : ℕ} {loaded : Bool} {acts : List OrderActivation} {w : Words} (s : Sound p image g place loaded acts w q) where
    -- ---- the index

    address_puts : (x : Place) (v : Words) → puts_word p g acts (address_order x) v ≡ put_address (place_address p g acts x) v
    address_puts (cell.Word f n) v = refl
    address_puts (cell.Frame n) v = refl

    -- the word there
    abbrev index_of : Place → Words → Outcome
    index_of x v = chain (put_address (place_address p g acts x) v) (λ u. unrefused (perform p.limits.area (Fetch None) u))

    pub index_first : (x : Place) (n : ℕ) (os : List Order) (v : Words) → silently p g acts (suc (suc n)) (address_order x ∷ order.Load ∷ os) v ≡ chain (index_of x v) (silently p g acts n os)
    index_first x n os v = ap (λ o. chain o (silently p g acts (suc n) (order.Load ∷ os))) (address_puts x v) ∙ sym (chain_chain (put_address (place_address p g acts x) v) (λ u. unrefused (perform p.limits.area (Fetch None) u)) (silently p g acts n os))

    place_small : (x : Place) (a : ℕ) → place_address p g acts x ≡ Some a → a < 65536
    place_small (cell.Word f n) a e = let same : home_word p.addresses g f n ≡ a = cc in omega arith
    place_small (cell.Frame n) a e = of_frame acts e
      where
        of_frame : (xs : List OrderActivation) → frame_word p.limits.area xs n ≡ Some a → a < 65536
        of_frame [] e = absurd (cc)
        of_frame (x ∷ xs) e = let within = (frame_word_inside p.limits.area x xs n a e).1 in omega arith

    pub record IndexRead (x : Place) (v : Words) : Type 0 where
      pub at : ℕ
      pub within : at < p.limits.area
      pub stands : place_address p g acts x ≡ Some at
      pub is : index_of x v ≡ Changed (put (word_at v.memory at) v)

    pub index_read : (x : Place) (v : Words) → (index_of x v ≡ Impossible) ⊎ IndexRead x v
    index_read x v = cases (place_address p g acts x) refl
      where
        cases : (a : Option ℕ) → place_address p g acts x ≡ a → (index_of x v ≡ Impossible) ⊎ IndexRead x v
        cases None e = inl (ap (λ y. chain (put_address y v) (λ u. unrefused (perform p.limits.area (Fetch None) u))) e)
        cases (Some a) e =
            through_word rows.words p.limits.area a low (place_small x a e) (λ k u. Changed (put (word_at u.memory k) u)) v (λ o. index_of x v ≡ unrefused o → (index_of x v ≡ Impossible) ⊎ IndexRead x v)
            (λ is. inl is) (λ k within same is. inr (record { at = k; within = within; stands = e ∙ ap Some (sym same); is = is }))
            (ap (λ y. chain (put_address y v) (λ u. unrefused (perform p.limits.area (Fetch None) u))) e)

    -- ---- the address

    -- an element of the block, behind so many orders
    pub record HasElement (e : Element) (t : Test) (pre behind : List Order) : Type 0 where
      pub list : drop s.from s.orders.list ≡ pre ++ formed_list e t behind
      pub near : TestNear e t
      pub lower : FitsWord e.lower

    -- the word that index 0 names
    pub record ZeroWord (e : Element) (origin : ℕ) : Type 0 where
      pub below : ℕ
      pub few : below ≤ 32768
      pub less : (i : ℤ) → i -ℤ e.lower ≡ i +ℤ pos below
      pub base : home_word p.addresses g e.family e.first < 32768
      pub is : home_word p.addresses g e.family origin ≡ home_word p.addresses g e.family e.first + below
      pub inside : home_word p.addresses g e.family origin < p.limits.area

    -- the words between bounds
    pub record BoundsWords (e : Element) (upper : ℤ) : Type 0 where
      pub last : ℕ
      pub last_is : upper -ℤ e.lower ≡ pos last
      pub lower : FitsWord e.lower
      pub upper_fits : FitsWord upper
      pub inside : home_word p.addresses g e.family e.first + last < p.limits.area

    -- what is known of an element, by its test
    abbrev pub KnownTest : Element → Test → Type 0
    KnownTest e (test.Address origin) = ZeroWord e origin
    KnownTest e (test.Bounds upper line) = BoundsWords e upper

    pub order_there : (k : ℕ) (o : Order) (os : List Order) → drop s.from s.orders.list ≡ os → slice_get os k ≡ Some o → order_at p g (s.from + k) ≡ Some o
    order_there k o os e is = ap (λ u. order_in u (s.from + k)) s.unit ∙ sym (slice_drop s.orders.list s.from k) ∙ ap (λ l. slice_get l k) e ∙ is

    known_there : (e : Element) (t : Test) (pre behind : List Order) → HasElement e t pre behind → (k : ℕ) → slice_get (pre ++ formed_list e t behind) k ≡ Some (order.Home e.family e.first)
        → slice_get (pre ++ formed_list e t behind) (k + 1) ≡ Some (order.Element e.lower e.span e.line) → ComparesIn e t (pre ++ formed_list e t behind) → KnownTest e t
    known_there e t pre behind h k home forms compares = cases t h.near (pre ++ formed_list e t behind) h.list compares
      where
        next : s.from + (k + 1) ≡ s.from + k + 1
        next = omega arith

        fits : (n : ℕ) → n < e.span → home_word p.addresses g e.family e.first + n < p.limits.area
        fits n inside =
            coded.spans g (s.from + k) e.family e.first n (order.Element e.lower e.span e.line) (order_there k (order.Home e.family e.first) _ h.list home)
            (ap (order_at p g) (sym next) ∙ order_there (k + 1) (order.Element e.lower e.span e.line) _ h.list forms) inside

        cases : (u : Test) → TestNear e u → (list : List Order) → drop s.from s.orders.list ≡ list → ComparesIn e u list → KnownTest e u
        cases (test.Address origin) near list is c =
            let b = below_of e.lower e.span e.first origin h.lower near in
            let within = fits b.below b.inside in
            let zero_is = b.is in
            record { below = b.below; few = b.few; less = b.less; base = omega arith; is = omega arith; inside = omega arith }
        cases (test.Bounds upper line) near list is c =
            let w = within_span (upper -ℤ e.lower) e.span near in
            let f = coded.codes g (s.from + c.0) (order.InBounds e.lower upper line) (order_there c.0 (order.InBounds e.lower upper line) list is c.1) in
            record { last = w.0; last_is = w.1; lower = f.0; upper_fits = f.1; inside = fits w.0 w.2 }

    pub known_behind : (e : Element) (t : Test) (behind : List Order) → HasElement e t [] behind → KnownTest e t
    known_behind e t behind h = known_there e t [] behind h (homes t) (home_there e t behind) (forms_there e t behind) (compares_there e t behind)

    pub known_saved : (e : Element) (t : Test) (behind : List Order) → HasElement e t (order.Save ∷ []) behind → KnownTest e t
    known_saved e t behind h = known_there e t (order.Save ∷ []) behind h (suc (homes t)) (home_there e t behind) (saved_there e t behind) (compares_saved e t behind)

    -- the words before the address is made
    pub record BeforeForms (e : Element) (v : Words) : Type 0 where
      pub read : IndexRead e.index s.before
      pub is : v ≡ put (signed (home_word p.addresses g e.family e.first)) (put (word_at s.before.memory read.at) s.before)

    pub before_forms : (e : Element) (origin : ℕ) (behind : List Order) (v : Words) → silently p g acts 4 (formed_list e (test.Address origin) behind) s.before ≡ Changed v → BeforeForms e v
    before_forms e origin behind v did = elim (index_read e.index s.before) as (λ _. BeforeForms e v) [
      | inl none ↦ (
          let stuck : Impossible ≡ Changed v = sym (ap (λ o. chain o (silently p g acts 2 os)) none) ∙ sym (index_first e.index 2 os s.before) ∙ did in
          absurd (cc))
      | inr r ↦ (
          let goes : Changed (put (signed (home_word p.addresses g e.family e.first)) (put (word_at s.before.memory r.at) s.before)) ≡ Changed v =
          sym (ap (λ o. chain o (silently p g acts 2 os)) r.is) ∙ sym (index_first e.index 2 os s.before) ∙ did in
          record { read = r; is = (let same : put (signed (home_word p.addresses g e.family e.first)) (put (word_at s.before.memory r.at) s.before) ≡ v = cc in sym same) })
    ]
      where
        os : List Order
        os = order.Save ∷ order.Home e.family e.first ∷ order.Element e.lower e.span e.line ∷ behind

    index_fits : (e : Element) (r : IndexRead e.index s.before) → FitsWord (word_at s.before.memory r.at)
    index_fits e r = let long = s.landed.kept.long in let within = r.within in s.fits_before.memory r.at (pos 0) (omega arith)

    -- the exact address
    abbrev pub address_in : (e : Element) (origin : ℕ) → IndexRead e.index s.before → ℤ
    address_in e origin r = pos (home_word p.addresses g e.family origin) +ℤ word_at s.before.memory r.at

    pub formed_as : (e : Element) (origin : ℕ) (z : ZeroWord e origin) (r : IndexRead e.index s.before)
        → from_base p.limits.area (λ base. Indexed base e.lower) (put (signed (home_word p.addresses g e.family e.first)) (put (word_at s.before.memory r.at) s.before))
        ≡ allowed (is_below (address_in e origin r) p.limits.area) AddressRange (Changed (put (address_in e origin r) s.before))
    formed_as e origin z r =
        let i = word_at s.before.memory r.at in
        let b = home_word p.addresses g e.family e.first in
        formed_by_one p.limits.area b z.below e.lower i s.before low z.base z.few (index_fits e r) (z.less i)
        ∙ ap (λ n. allowed (is_below (pos n +ℤ i) p.limits.area) AddressRange (Changed (put (pos n +ℤ i) s.before))) (sym z.is)

    -- ---- the same behind a comparison with bounds

    -- the words behind the index
    pub record IndexDone (e : Element) (v : Words) : Type 0 where
      pub read : IndexRead e.index s.before
      pub is : v ≡ put (word_at s.before.memory read.at) s.before

    pub index_done : (e : Element) (t : Test) (behind : List Order) (v : Words) → silently p g acts 2 (formed_list e t behind) s.before ≡ Changed v → IndexDone e v
    index_done e t behind v did = elim (index_read e.index s.before) as (λ _. IndexDone e v) [
      | inl none ↦ (
          let stuck : Impossible ≡ Changed v = sym (ap (λ o. chain o (silently p g acts 0 os)) none) ∙ sym (index_first e.index 0 os s.before) ∙ did in
          absurd (cc))
      | inr r ↦ (
          let goes : Changed (put (word_at s.before.memory r.at) s.before) ≡ Changed v = sym (ap (λ o. chain o (silently p g acts 0 os)) r.is) ∙ sym (index_first e.index 0 os s.before) ∙ did in
          record { read = r; is = (let same : put (word_at s.before.memory r.at) s.before ≡ v = cc in sym same) })
    ]
      where
        os : List Order
        os = bounds_orders e.lower t ++ order.Save ∷ order.Home e.family e.first ∷ order.Element e.lower e.span e.line ∷ behind

    -- an index is between its bounds
    abbrev pub is_between : (e : Element) (upper : ℤ) → IndexRead e.index s.before → Bool
    is_between e upper r = int_le e.lower (word_at s.before.memory r.at) && int_le (word_at s.before.memory r.at) upper

    -- the words before the address is made
    pub record BoundsDone (e : Element) (upper : ℤ) (v : Words) : Type 0 where
      pub read : IndexRead e.index s.before
      pub holds : is_between e upper read ≡ true
      pub is : v ≡ put (signed (home_word p.addresses g e.family e.first)) (put (word_at s.before.memory read.at) s.before)

    pub bounds_done : (e : Element) (upper : ℤ) (line : ℕ) (behind : List Order) (v : Words) → silently p g acts 5 (formed_list e (test.Bounds upper line) behind) s.before ≡ Changed v → BoundsDone e upper v
    bounds_done e upper line behind v did = elim (index_read e.index s.before) as (λ _. BoundsDone e upper v) [
      | inl none ↦ (
          let stuck : Impossible ≡ Changed v = sym (ap (λ o. chain o (silently p g acts 3 os)) none) ∙ sym (index_first e.index 3 os s.before) ∙ did in
          absurd (cc))
      | inr r ↦ between r (is_between e upper r) refl (sym (ap (λ o. chain o (silently p g acts 3 os)) r.is) ∙ sym (index_first e.index 3 os s.before) ∙ did)
    ]
      where
        rest : List Order
        rest = order.Save ∷ order.Home e.family e.first ∷ order.Element e.lower e.span e.line ∷ behind

        os : List Order
        os = order.InBounds e.lower upper line ∷ rest

        between : (r : IndexRead e.index s.before) (b : Bool) → is_between e upper r ≡ b → chain (put_if (is_between e upper r) IndexRange (word_at s.before.memory r.at) s.before) (silently p g acts 2 rest) ≡ Changed v → BoundsDone e upper v
        between r false is did =
            let none : Refused IndexRange ≡ Changed v = sym (ap (λ b. chain (put_if b IndexRange (word_at s.before.memory r.at) s.before) (silently p g acts 2 rest)) is) ∙ did in
            absurd (cc)
        between r true is did =
            let goes : Changed (put (signed (home_word p.addresses g e.family e.first)) (put (word_at s.before.memory r.at) s.before)) ≡ Changed v =
            sym (ap (λ b. chain (put_if b IndexRange (word_at s.before.memory r.at) s.before) (silently p g acts 2 rest)) is) ∙ did in
            record { read = r; holds = is; is = (let same : put (signed (home_word p.addresses g e.family e.first)) (put (word_at s.before.memory r.at) s.before) ≡ v = cc in sym same) }

    pub number_between : (e : Element) (upper : ℤ) (z : BoundsWords e upper) (r : IndexRead e.index s.before) → is_between e upper r ≡ true → BetweenBounds e.lower (word_at s.before.memory r.at) z.last
    number_between e upper z r holds = between_bounds e.lower upper (word_at s.before.memory r.at) z.last z.lower z.upper_fits (index_fits e r) z.last_is holds

    pub formed_so : (e : Element) (upper : ℤ) (z : BoundsWords e upper) (v : Words) (f : BoundsDone e upper v)
        → from_base p.limits.area (λ base. Indexed base e.lower) v ≡ Changed (put (pos (home_word p.addresses g e.family e.first + (number_between e upper z f.read f.holds).number)) s.before)
    formed_so e upper z v f =
        let n = number_between e upper z f.read f.holds in
        let few_numbers = n.within in
        let inside = z.inside in
        ap (from_base p.limits.area (λ base. Indexed base e.lower)) f.is
        ∙ formed_between p.limits.area (home_word p.addresses g e.family e.first) n.number (word_at s.before.memory f.read.at -ℤ e.lower) s.before low (omega arith) n.less

    -- ---- the code of the address

    -- where the block begins
    abbrev pub Before : Bool → Type 0
    Before m = Landed p image (order_place (base_of p g) s.orders s.from) g m acts s.before q

    -- where the code of the address stands: AX is as the block found it, and CX may be the same
    pub record AtAddressFrom (first : Bool) {m : Bool} (l : Before m) (at top ax cx : ℕ) (r : Watched) : Type 0 where
      pub dx : ℕ
      pub bx : ℕ
      pub si : ℕ
      pub overflow : Bool
      pub is : IsAt first image at (view ax cx dx bx (2 * suc top) (record_of acts) si p.limits.area overflow l.cells l.stack l.input l.told) r

    abbrev pub AtAddress : {m : Bool} (l : Before m) (at top ax cx : ℕ) (r : Watched) → Type 0
    AtAddress l at top ax cx r = AtAddressFrom false l at top ax cx r

    -- an operand on the stack leaves room above it, for the place of a call
    pub record HasRoom (top : ℕ) : Type 0 where
      pub above : ℕ
      pub is : top ≡ suc above
      pub low : above < level acts

    pub room_above : (m : Bool) (ax : ℕ) (stack : ℕ → ℕ) (top : ℕ) (operands : List Operand) → operand_words operands < level acts → OperandsAre p acts m ax stack top operands → HasRoom top
    room_above m ax stack zero operands room h = absurd (none m operands room h)
      where
        none : (m : Bool) (xs : List Operand) → operand_words xs < level acts → OperandsAre p acts m ax stack 0 xs → ⊥
        none false xs room h = let t = top_is p acts stack 0 xs h in omega arith
        none true [] room h = h
        none true (Held c ∷ rest) room h = h
        none true (Word x ∷ rest) room h = let t = top_is p acts stack 0 rest h.1 in omega arith
    room_above m ax stack (suc n) operands room h = record { above = n; is = refl; low = within m operands room h }
      where
        within : (m : Bool) (xs : List Operand) → operand_words xs < level acts → OperandsAre p acts m ax stack (suc n) xs → n < level acts
        within false xs room h = let t = top_is p acts stack (suc n) xs h in omega arith
        within true [] room h = absurd h
        within true (Held c ∷ rest) room h = absurd h
        within true (Word x ∷ rest) room h = let t = top_is p acts stack (suc n) rest h.1 in omega arith

    abbrev zero_at : Element → (origin : ℕ) → ℕ
    zero_at e origin = home_word p.addresses g e.family origin

    -- the sum of the index and the word that index 0 names
    abbrev SummedAt : {m : Bool} → Before m → (at top ax cx dx : ℕ) → ℕ → Watched → Type 0
    SummedAt l at top ax cx dx b t = Summed (setting known s) s.before.memory s.before.input s.before.output at ax cx dx b top l.cells l.stack l.input l.told t

    added_some : (x : Place) (f n : ℕ) → 0 < length (index_added x f n)
    added_some (cell.Word g n) f o = lit< tt
    added_some (cell.Frame n) f o = lit< tt

    loaded_some : (x : Place) → 0 < length (index_loaded x)
    loaded_some (cell.Word f n) = lit< tt
    loaded_some (cell.Frame n) = lit< tt

    summed : {first m : Bool} (l : Before m) (e : Element) (origin : ℕ) (rest : List Coded) (r : IndexRead e.index s.before) (at top ax cx : ℕ) (q' : Watched) (a : AtAddressFrom first l at top ax cx q')
        → HasPiecesFrom first image (all.stands g s.orders s.unit).value at (index_added e.index e.family origin ++ rest)
        → Leads s.before.output (index_steps e.index) q' (SummedAt l (at + index_size e.index) top ax cx a.dx (word_sum (zero_at e origin) (unsigned (word_at s.before.memory r.at))))
    summed {first} l e origin rest r at top ax cx q' a h = cases e.index r.stands h
      where
        i : ℤ
        i = word_at s.before.memory r.at

        half : r.at < 32768
        half = let within = r.within in omega arith

        cases : (x : Place) → place_address p g acts x ≡ Some r.at → HasPiecesFrom first image (all.stands g s.orders s.unit).value at (index_added x e.family origin ++ rest)
            → Leads s.before.output (index_steps x) q' (SummedAt l (at + index_size x) top ax cx a.dx (word_sum (zero_at e origin) (unsigned (word_at s.before.memory r.at))))
        cases (cell.Word f n) stands h =
            let st = all.stands g s.orders s.unit in
            let home : home_word p.addresses g f n ≡ r.at = cc in
            let twice : 2 * home_word p.addresses g f n % 65536 ≡ 2 * r.at = omega (arith, half) in
            let there : at + 3 + 4 ≡ at + 7 = omega arith in
            subst (λ k. Leads s.before.output 2 q' (SummedAt l k top ax cx a.dx (word_sum (zero_at e origin) (unsigned (word_at s.before.memory r.at))))) there
            (sum_by_word (setting known s) s.before.memory s.before.input s.before.output st.value e.family origin rest top (zero_at e origin) r.at (word_at s.before.memory r.at) (λ after. st.fills.homes e.family origin after) half (l.kept.words r.at r.within)
            l.kept a.is f n (λ after. st.fills.bytes f n after ∙ twice) h)
        cases (cell.Frame n) stands h = of_frame acts refl stands
          where
            of_frame : (xs : List OrderActivation) → acts ≡ xs → frame_word p.limits.area xs n ≡ Some r.at → Leads s.before.output 3 q' (SummedAt l (at + (frame_size n + 8)) top ax cx a.dx (word_sum (zero_at e origin) (unsigned (word_at s.before.memory r.at))))
            of_frame [] are stands = absurd (cc)
            of_frame (b ∷ under) are stands =
                let st = all.stands g s.orders s.unit in
                let index = (frame_word_inside p.limits.area b under n r.at stands).0 in
                let there : at + 3 + 3 + length (bytes_of (operate 0 si_register (field (2 * n % 65536)))) ≡ at + (frame_size n + 8) = omega (arith, field_operated 0 si_register (2 * n % 65536)) in
                subst (λ k. Leads s.before.output 3 q' (SummedAt l k top ax cx a.dx (word_sum (zero_at e origin) (unsigned (word_at s.before.memory r.at))))) there
                (sum_by_frame (setting known s) s.before.memory s.before.input s.before.output st.value e.family origin rest top (zero_at e origin) r.at (word_at s.before.memory r.at) (λ after. st.fills.homes e.family origin after) half (l.kept.words r.at r.within)
                l.kept a.is n b under are index h)

    -- the test behind it
    abbrev tested : Element → List Coded
    tested e = pieces.Whole (compare si_register di) ∷ pieces.Whole (jump_if_below 5) ∷ (call_stop address_entry e.line ++ pieces.Whole (double si_register) ∷ [])

    address_parts : (first : Bool) (e : Element) (origin : ℕ) (tail : List Coded) (at : ℕ) → HasPiecesFrom first image (all.stands g s.orders s.unit).value at (address_tested e origin ++ tail)
        → HasPiecesFrom first image (all.stands g s.orders s.unit).value at (index_added e.index e.family origin ++ (tested e ++ tail)) × HasPieces image (all.stands g s.orders s.unit).value (at + index_size e.index) (tested e ++ tail)
    address_parts first e origin tail at h =
        let st = all.stands g s.orders s.unit in
        let whole : HasPiecesFrom first image st.value at (index_added e.index e.family origin ++ (tested e ++ tail)) =
        subst (HasPiecesFrom first image st.value at) (append_assoc (index_added e.index e.family origin) (tested e) tail) h in
        (whole, subst (λ n. HasPieces image st.value (at + n) (tested e ++ tail)) (index_long e.index e.family origin) (stand_behind first image st.value at (index_added e.index e.family origin) (tested e ++ tail) (added_some e.index e.family origin) whole))

    -- the address, where it is one of the area
    abbrev pub AddressedAt : {m : Bool} → Before m → (at top ax cx dx k : ℕ) → Watched → Type 0
    AddressedAt l at top ax cx dx k t = Addressed (setting known s) s.before.memory s.before.input s.before.output at ax cx dx k top l.cells l.stack l.input l.told t

    pub addressed : {first m : Bool} (l : Before m) (e : Element) (origin : ℕ) (tail : List Coded) (z : ZeroWord e origin) (r : IndexRead e.index s.before) (at top ax cx k : ℕ) (q' : Watched) (a : AtAddressFrom first l at top ax cx q')
        → HasPiecesFrom first image (all.stands g s.orders s.unit).value at (address_tested e origin ++ tail) → address_in e origin r ≡ pos k → k < p.limits.area
        → Leads s.before.output (index_steps e.index + 3) q' (AddressedAt l (at + (index_size e.index + 11)) top ax cx a.dx k)
    addressed l e origin tail z r at top ax cx k q' a h is within =
        let st = all.stands g s.orders s.unit in
        let parts = address_parts _ e origin tail at h in
        let there : at + index_size e.index + 2 + 2 + 5 + 2 ≡ at + (index_size e.index + 11) = omega arith in
        leads_then (summed l e origin (tested e ++ tail) r at top ax cx q' a parts.0)
        (λ t u.
        subst (λ n. Leads s.before.output 3 t (AddressedAt l n top ax cx a.dx k)) there
        (test_passes (setting known s) s.before.memory s.before.input s.before.output st.value e.line tail top (zero_at e origin) (word_at s.before.memory r.at) z.inside (index_fits e r) l.kept parts.1 u.is k is within))

    -- and the way to the stop, where it is none
    pub address_stops : {first b : Bool} (l : Before b) (e : Element) (origin : ℕ) (tail : List Coded) (z : ZeroWord e origin) (r : IndexRead e.index s.before) (at top ax cx to : ℕ) (m : Bool) (q' : Watched) → AtAddressFrom first l at top ax cx q'
        → HasPiecesFrom first image (all.stands g s.orders s.unit).value at (address_tested e origin ++ tail) → e.line < 65536 → top < level acts → is_below (address_in e origin r) p.limits.area ≡ false
        → DoesHere (setting known s) s.before.memory s.before.input s.before.output 20 to m e.line q' (Refused AddressRange)
    address_stops l e origin tail z r at top ax cx to m q' a h small low_top none =
        let st = all.stands g s.orders s.unit in
        let parts = address_parts _ e origin tail at h in
        let few_first = few_index e.index in
        later p image 15 to g m e.line acts (index_steps e.index) 20 (Refused AddressRange) (omega arith)
        (summed l e origin (tested e ++ tail) r at top ax cx q' a parts.0)
        (λ t u.
        test_stops (setting known s) s.before.memory s.before.input s.before.output st.value e.line tail top (zero_at e origin) (word_at s.before.memory r.at) z.inside (index_fits e r) l.kept parts.1 u.is to m small low_top
        (λ k. calls known s address_entry k (lit< tt)) none)

    -- ---- the code that compares an index with its bounds

    -- the index
    indexed : {first m : Bool} (l : Before m) (e : Element) (rest : List Coded) (r : IndexRead e.index s.before) (at top ax cx : ℕ) (q' : Watched) (a : AtAddressFrom first l at top ax cx q')
        → HasPiecesFrom first image (all.stands g s.orders s.unit).value at (index_loaded e.index ++ rest)
        → Leads s.before.output (loaded_steps e.index) q' (SummedAt l (at + loaded_size e.index) top ax cx a.dx (unsigned (word_at s.before.memory r.at)))
    indexed {first} l e rest r at top ax cx q' a h = cases e.index r.stands h
      where
        half : r.at < 32768
        half = let within = r.within in omega arith

        cases : (x : Place) → place_address p g acts x ≡ Some r.at → HasPiecesFrom first image (all.stands g s.orders s.unit).value at (index_loaded x ++ rest)
            → Leads s.before.output (loaded_steps x) q' (SummedAt l (at + loaded_size x) top ax cx a.dx (unsigned (word_at s.before.memory r.at)))
        cases (cell.Word f n) stands h =
            let st = all.stands g s.orders s.unit in
            let home : home_word p.addresses g f n ≡ r.at = cc in
            let twice : 2 * home_word p.addresses g f n % 65536 ≡ 2 * r.at = omega (arith, half) in
            index_by_word (setting known s) s.before.memory s.before.input s.before.output st.value rest top r.at (word_at s.before.memory r.at) half (l.kept.words r.at r.within) l.kept a.is f n (λ after. st.fills.bytes f n after ∙ twice) h
        cases (cell.Frame n) stands h = of_frame acts refl stands
          where
            of_frame : (xs : List OrderActivation) → acts ≡ xs → frame_word p.limits.area xs n ≡ Some r.at → Leads s.before.output 2 q' (SummedAt l (at + (frame_size n + 5)) top ax cx a.dx (unsigned (word_at s.before.memory r.at)))
            of_frame [] are stands = absurd (cc)
            of_frame (b ∷ under) are stands =
                let st = all.stands g s.orders s.unit in
                let index = (frame_word_inside p.limits.area b under n r.at stands).0 in
                let there : at + 3 + length (bytes_of (load si_register (field (2 * n % 65536)))) ≡ at + (frame_size n + 5) = omega (arith, field_loaded si_register (2 * n % 65536)) in
                subst (λ k. Leads s.before.output 2 q' (SummedAt l k top ax cx a.dx (unsigned (word_at s.before.memory r.at)))) there
                (index_by_frame (setting known s) s.before.memory s.before.input s.before.output st.value rest top r.at (word_at s.before.memory r.at) half (l.kept.words r.at r.within) l.kept a.is n b under are index h)

    -- and its number from the lower bound on
    numbered : {first m : Bool} (l : Before m) (e : Element) (rest : List Coded) (r : IndexRead e.index s.before) (at top ax cx : ℕ) (q' : Watched) (a : AtAddressFrom first l at top ax cx q')
        → HasPiecesFrom first image (all.stands g s.orders s.unit).value at (index_loaded e.index ++ (from_lower e.lower ++ rest)) → HasPieces image (all.stands g s.orders s.unit).value (at + loaded_size e.index) (from_lower e.lower ++ rest)
        → Leads s.before.output (loaded_steps e.index + lower_steps e.lower) q' (SummedAt l (at + loaded_size e.index + lower_size e.lower) top ax cx a.dx (from_word e.lower (word_at s.before.memory r.at)))
    numbered l e rest r at top ax cx q' a h h' =
        leads_then (indexed l e (from_lower e.lower ++ rest) r at top ax cx q' a h)
        (λ t u.
        less_lower (setting known s) s.before.memory s.before.input s.before.output (all.stands g s.orders s.unit).value rest top (unsigned (word_at s.before.memory r.at)) (rows.words.numbers.words.unsigned_fits (word_at s.before.memory r.at) (index_fits e r)) l.kept u.is e.lower h')

    -- the test behind it
    abbrev compared_index : Element → (upper : ℤ) → (line : ℕ) → List Coded
    compared_index e upper line =
        pieces.Whole (operate_number 7 si_register (indexes_between (upper -ℤ e.lower))) ∷ pieces.Whole (jump_if_below 5)
        ∷ (call_stop bounds_entry line ++ pieces.Sum si_register (target.Word e.family e.first) ∷ pieces.Whole (double si_register) ∷ [])

    record IndexParts (first : Bool) (e : Element) (upper : ℤ) (line : ℕ) (tail : List Coded) (at : ℕ) : Type 0 where
      pub whole : HasPiecesFrom first image (all.stands g s.orders s.unit).value at (index_loaded e.index ++ (from_lower e.lower ++ (compared_index e upper line ++ tail)))
      pub behind : HasPieces image (all.stands g s.orders s.unit).value (at + loaded_size e.index) (from_lower e.lower ++ (compared_index e upper line ++ tail))
      pub tests : HasPieces image (all.stands g s.orders s.unit).value (at + loaded_size e.index + lower_size e.lower) (compared_index e upper line ++ tail)

    index_parts : (first : Bool) (e : Element) (upper : ℤ) (line : ℕ) (tail : List Coded) (at : ℕ) → HasPiecesFrom first image (all.stands g s.orders s.unit).value at (index_tested e upper line ++ tail) → IndexParts first e upper line tail at
    index_parts first e upper line tail at h =
        let v = (all.stands g s.orders s.unit).value in
        let A = index_loaded e.index in
        let B = from_lower e.lower in
        let C = compared_index e upper line in
        let whole : HasPiecesFrom first image v at (A ++ (B ++ (C ++ tail))) = subst (HasPiecesFrom first image v at) (append_assoc A (B ++ C) tail ∙ ap (λ l. A ++ l) (append_assoc B C tail)) h in
        let behind : HasPieces image v (at + loaded_size e.index) (B ++ (C ++ tail)) = subst (λ n. HasPieces image v (at + n) (B ++ (C ++ tail))) (loaded_long e.index) (stand_behind first image v at A (B ++ (C ++ tail)) (loaded_some e.index) whole) in
        record {
          whole = whole;
          behind = behind;
          tests = subst (λ n. HasPieces image v (at + loaded_size e.index + n) (C ++ tail)) (lower_long e.lower) (stand_both image v (at + loaded_size e.index) B (C ++ tail) behind).1;
        }

    between_is : (e : Element) (upper : ℤ) (z : BoundsWords e upper) → indexes_between (upper -ℤ e.lower) ≡ suc z.last
    between_is e upper z =
        let inside = z.inside in
        ap indexes_between z.last_is ∙ many_between z.last (omega arith)

    -- the address, where the index is between its bounds
    pub index_addressed : {first m : Bool} (l : Before m) (e : Element) (upper : ℤ) (line : ℕ) (tail : List Coded) (z : BoundsWords e upper) (r : IndexRead e.index s.before) (holds : is_between e upper r ≡ true) (at top ax cx : ℕ) (q' : Watched) (a : AtAddressFrom first l at top ax cx q')
        → HasPiecesFrom first image (all.stands g s.orders s.unit).value at (index_tested e upper line ++ tail)
        → Leads s.before.output (loaded_steps e.index + lower_steps e.lower + 4) q' (AddressedAt l (at + (index_size e.index + lower_size e.lower + 14)) top ax cx a.dx (home_word p.addresses g e.family e.first + (number_between e upper z r holds).number))
    index_addressed l e upper line tail z r holds at top ax cx q' a h =
        let st = all.stands g s.orders s.unit in
        let parts = index_parts _ e upper line tail at h in
        let n = number_between e upper z r holds in
        let few_numbers = n.within in
        let inside = z.inside in
        let long = loaded_index e.index in
        let count = between_is e upper z in
        let number_is = n.is in
        let from = at + loaded_size e.index + lower_size e.lower in
        let base = home_word p.addresses g e.family e.first in
        let there : from + 4 + 2 + 5 + 4 + 2 ≡ at + (index_size e.index + lower_size e.lower + 14) = omega arith in
        leads_then (numbered l e (compared_index e upper line ++ tail) r at top ax cx q' a parts.whole parts.behind)
        (λ t u.
        subst (λ k. Leads s.before.output 4 t (AddressedAt l k top ax cx a.dx (base + n.number))) there
        (index_passes (setting known s) s.before.memory s.before.input s.before.output st.value line e.family e.first (indexes_between (upper -ℤ e.lower)) tail top (from_word e.lower (word_at s.before.memory r.at)) l.kept parts.tests u.is
        base (base + n.number) (st.fills.homes e.family e.first (from + 4 + 2 + 5 + 4)) (omega arith) (omega arith) (omega arith)))

    -- and the way to the stop, where it is not
    pub bounds_stop : {first b : Bool} (l : Before b) (e : Element) (upper : ℤ) (line : ℕ) (tail : List Coded) (z : BoundsWords e upper) (r : IndexRead e.index s.before) (at top ax cx to : ℕ) (m : Bool) (q' : Watched) → AtAddressFrom first l at top ax cx q'
        → HasPiecesFrom first image (all.stands g s.orders s.unit).value at (index_tested e upper line ++ tail) → line < 65536 → top < level acts → is_between e upper r ≡ false
        → DoesHere (setting known s) s.before.memory s.before.input s.before.output 18 to m line q' (Refused IndexRange)
    bounds_stop l e upper line tail z r at top ax cx to m q' a h small low_top fails =
        let st = all.stands g s.orders s.unit in
        let parts = index_parts _ e upper line tail at h in
        let few_first = few_loaded e.index in
        let few_next = few_lower e.lower in
        let past = past_bounds e.lower upper (word_at s.before.memory r.at) z.last z.lower z.upper_fits (index_fits e r) z.last_is fails in
        let count = between_is e upper z in
        later p image 15 to g m line acts (loaded_steps e.index + lower_steps e.lower) 18 (Refused IndexRange) (omega arith)
        (numbered l e (compared_index e upper line ++ tail) r at top ax cx q' a parts.whole parts.behind)
        (λ t u.
        index_stops (setting known s) s.before.memory s.before.input s.before.output st.value line e.family e.first (indexes_between (upper -ℤ e.lower)) tail top (from_word e.lower (word_at s.before.memory r.at)) l.kept parts.tests u.is
        to m small low_top (λ k. calls known s bounds_entry k (lit< tt)) (omega arith))
