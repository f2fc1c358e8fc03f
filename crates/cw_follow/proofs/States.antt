-- How states of the machine of orders and of the processor match.
use Rattle.std.proofs.Common.{◌≡◌, ◌≢◌, ℕ, zero, suc, ◌+◌, ◌-◌, ◌≤◌, Bool, true, false, List, [], ◌∷◌, length, drop, Option, Some, None, refl, ap, ◌∙◌, arith}
use Rattle.std.specs.Prelude.{slice_get, nat_le}
use Rattle.std.proofs.lemmas.Bool.{leb-true}
use Rattle.std.proofs.lemmas.Option.{slice_get_within}
use Rattle.cw_track.specs.Machine.{shown_after}
use Rattle.cw_follow.proofs.Watched.{Watched}
use Rattle.cw_unit.specs.Stop.{Running, Stuck}
use Rattle.cw_unit.specs.Words.{Words, Changed}
use Rattle.cw_order.specs.declared.order.Order.{Order}
use Rattle.cw_order.specs.declared.order.Orders.{Orders}
use Rattle.cw_order.specs.OrderProgram.{OrderProgram, order_in, order_at}
use Rattle.cw_order.specs.OrderState.{OrderActivation, OrderState, at, stack_words}
use Rattle.cw_order.specs.OrderMachine.{go_on, after, carry_out, step, order_machine}
use Rattle.cw_order.specs.FittingWords.{WordsFit, StateFits}
use Rattle.cw_order.specs.Activations.{ActivationsStand, Beginning, StateStands}
use Rattle.cw_tmpl.specs.Blocks.{block_at, orders_left, left_at}
use Rattle.cw_follow.specs.Placing.{base_of, Codable}
use Rattle.cw_follow.specs.Passing.{PlacesStand}
use Rattle.cw_follow.proofs.Standing.{order_place, AllStand, Image}
use Rattle.cw_follow.proofs.InBlocks.{silently, loaded_silently}
use Rattle.cw_follow.proofs.Rows.{Rows}
use Rattle.cw_follow.proofs.Orders.{Landed, CalledAt}

-- what is known of a program and its image, and of the places of its statements
pub record Given : Type 0 where
  pub rows : Rows
  pub p : OrderProgram
  pub image : Image
  pub all : AllStand p image
  pub coded : Codable p
  pub few : length p.units ≤ 255
  pub low : p.limits.area ≤ 32768
  pub places_stand : PlacesStand p image.bytes image.places

-- ---- states that match

abbrev pub Never : OrderProgram → OrderState → Type 0
Never p s = (k : ℕ) → (shown_after (order_machine p) k s).end ≢ Stuck

-- each call comes back to where a block begins
abbrev pub ComesBack : OrderProgram → List OrderActivation → Type 0
ComesBack p [] = Unit {0}
ComesBack p (a ∷ acts) = ((o : Orders) → slice_get p.units a.segment ≡ Some o → left_at 0 o.list a.place ≡ 0) × ComesBack p acts

-- A state of the machine of orders that goes on: its words fit, all activations have been begun and come back to where a block begins, and
-- the orders do not get stuck.
pub record GoesOn (p : OrderProgram) (g : ℕ) (acts : List OrderActivation) (s : OrderState) : Type 0 where
  pub fits : StateFits s
  pub stands : StateStands p s
  pub working : ActivationsStand p g acts
  pub comes_back : ComesBack p acts
  pub never : Never p s

-- The processor stands before a block, with the words and the accumulator as they are before it.
pub record BlockStart (p : OrderProgram) (image : Image) (g from : ℕ) (orders : Orders) (acts : List OrderActivation) (q : Watched) : Type 0 where
  pub before : Words
  pub loaded_before : Bool
  pub begins : left_at 0 orders.list from ≡ 0
  pub landed : Landed p image (order_place (base_of p g) orders from) g loaded_before acts before q
  pub fits_before : WordsFit before
  pub room_before : stack_words before.operands acts ≤ p.room

-- The processor stands before a block, of which the first orders are done.
pub record Sound (p : OrderProgram) (image : Image) (g place : ℕ) (loaded : Bool) (acts : List OrderActivation) (w : Words) (q : Watched) : Type 0 where
  pub orders : Orders
  pub unit : slice_get p.units g ≡ Some orders
  pub from : ℕ
  pub done : ℕ
  pub start : BlockStart p image g from orders acts q
  pub open start use *
  pub place_is : from + done ≡ place
  pub inside : done ≤ orders_left (block_at 0 (drop from orders.list))
  pub did : silently p g acts done (drop from orders.list) before ≡ Changed w
  pub moded : loaded_silently done (drop from orders.list) loaded_before ≡ Some loaded
  pub wrote : before.output ≡ w.output
  pub state : GoesOn p g acts (at g place loaded acts w Running)
  pub open state use *

-- The same, where no order of the block is done.
abbrev pub Arrived : (p : OrderProgram) (image : Image) (g place : ℕ) (loaded : Bool) (acts : List OrderActivation) (w : Words) (q : Watched) → Type 0
Arrived p image g place loaded acts w q = (m : Sound p image g place loaded acts w q) × (m.done ≡ 0)

-- The processor stands before a block, with the words of a state.
pub before_block : {p : OrderProgram} {image : Image} {g place : ℕ} {loaded : Bool} {acts : List OrderActivation} {w : Words} {q : Watched} (o : Orders) → slice_get p.units g ≡ Some o → left_at 0 o.list place ≡ 0
    → Landed p image (order_place (base_of p g) o place) g loaded acts w q → StateFits (at g place loaded acts w Running) → StateStands p (at g place loaded acts w Running)
    → ActivationsStand p g acts → ComesBack p acts → Never p (at g place loaded acts w Running) → Arrived p image g place loaded acts w q
before_block {place = place} {loaded = loaded} {w = w} o unit begins landed fits stands working comes_back never = (
  record {
    orders = o;
    unit = unit;
    from = place;
    done = 0;
    start = record { before = w; loaded_before = loaded; begins = begins; landed = landed; fits_before = fits.words; room_before = stands.room };
    place_is = omega arith;
    inside = omega arith;
    did = refl;
    moded = refl;
    wrote = refl;
    state = record { fits = fits; stands = stands; working = working; comes_back = comes_back; never = never };
  },
  refl,
)

-- The processor stands before the Enter of a call.
pub record Starting (p : OrderProgram) (image : Image) (g place : ℕ) (loaded : Bool) (a : OrderActivation) (acts : List OrderActivation) (w : Words) (q : Watched) : Type 0 where
  pub orders : Orders
  pub unit : slice_get p.units g ≡ Some orders
  pub begins : left_at 0 orders.list place ≡ 0
  pub called_at : CalledAt p image (order_place (base_of p g) orders place) a acts w q
  pub fits : StateFits (at g place loaded (a ∷ acts) w Running)
  pub stands : StateStands p (at g place loaded (a ∷ acts) w Running)
  pub beginning : Beginning p g place a acts w.operands
  pub comes_back : ComesBack p (a ∷ acts)
  pub never : Never p (at g place loaded (a ∷ acts) w Running)

abbrev pub LastStarts : OrderProgram → Image → (g place : ℕ) → (loaded : Bool) → List OrderActivation → Words → Watched → Type 0
LastStarts p image g place loaded [] w q = ⊥
LastStarts p image g place loaded (a ∷ acts) w q = Starting p image g place loaded a acts w q

-- the orders that are left
abbrev pub length_in : Option Orders → ℕ
length_in None = 0
length_in (Some o) = length o.list

abbrev pub left : OrderProgram → OrderState → ℕ
left p (at g place loaded acts w e) = length_in (slice_get p.units g) - place

-- ---- runs that do not get stuck

pub never_on : (p : OrderProgram) (s t : OrderState) → step p s ≡ t → Never p s → Never p t
never_on p s t e never k stuck = never (suc k) (ap (λ x. (shown_after (order_machine p) k x).end) e ∙ stuck)

pub not_stuck : (p : OrderProgram) (g place : ℕ) (loaded : Bool) (acts : List OrderActivation) (w : Words) → Never p (at g place loaded acts w Stuck) → ⊥
not_stuck p g place loaded acts w never = never 0 refl

-- there are orders where the orders go on
pub record HasUnit (p : OrderProgram) (g place : ℕ) : Type 0 where
  pub orders : Orders
  pub unit : slice_get p.units g ≡ Some orders
  pub within : place ≤ length orders.list

pub has_unit : (p : OrderProgram) (g place : ℕ) (loaded : Bool) (acts : List OrderActivation) (w : Words) → Never p (at g place loaded acts w Running) → HasUnit p g place
has_unit p g place loaded acts w never = cases (slice_get p.units g) refl
  where
    stuck : order_at p g place ≡ None → ⊥
    stuck none = not_stuck p g place loaded acts w (never_on p (at g place loaded acts w Running) (at g place loaded acts w Stuck) (ap (λ x. carry_out p x g place loaded acts w) none) never)

    within : (o : Orders) → slice_get p.units g ≡ Some o → (x : Option Order) → slice_get o.list place ≡ x → place ≤ length o.list
    within o e None none = absurd (stuck (ap (λ u. order_in u place) e ∙ none))
    within o e (Some x) is = let lt = slice_get_within o.list place x is in omega arith

    cases : (u : Option Orders) → slice_get p.units g ≡ u → HasUnit p g place
    cases None e = absurd (stuck (ap (λ u. order_in u place) e))
    cases (Some o) e = record { orders = o; unit = e; within = within o e (slice_get o.list place) refl }

-- an operation that changed the words went on, and its operands had room
pub record WentOn (p : OrderProgram) (g place : ℕ) (loaded after : Bool) (acts : List OrderActivation) (w v : Words) : Type 0 where
  pub goes : step p (at g place loaded acts w Running) ≡ at g (place + 1) after acts v Running
  pub room : stack_words v.operands acts ≤ p.room

pub went_on : (p : OrderProgram) (g place : ℕ) (loaded m : Bool) (line : ℕ) (acts : List OrderActivation) (w v : Words) → step p (at g place loaded acts w Running) ≡ after p.room line (Changed v) g place m acts w → Never p (at g place loaded acts w Running)
    → WentOn p g place loaded m acts w v
went_on p g place loaded m line acts w v e never = cases (nat_le (stack_words v.operands acts) p.room) refl
  where
    cases : (b : Bool) → nat_le (stack_words v.operands acts) p.room ≡ b → WentOn p g place loaded m acts w v
    cases true b = record { goes = e ∙ ap (λ x. go_on x g place m acts w v) b; room = leb-true (stack_words v.operands acts) p.room b }
    cases false b = absurd (not_stuck p g place m acts w (never_on p (at g place loaded acts w Running) (at g place m acts w Stuck) (e ∙ ap (λ x. go_on x g place m acts w v) b) never))

-- ---- without the last activations

pub stand_below : (p : OrderProgram) (n g g' : ℕ) (acts : List OrderActivation) → ActivationsStand p g acts → ActivationsStand p g' (drop n acts)
stand_below p zero g g' [] h = tt
stand_below p zero g g' (a ∷ acts) h = (h.0, h.1, h.2, h.3, h.4, h.5)
stand_below p (suc n) g g' [] h = tt
stand_below p (suc n) g g' (a ∷ acts) h = stand_below p n a.segment g' acts h.5

pub come_back_below : (p : OrderProgram) (n : ℕ) (acts : List OrderActivation) → ComesBack p acts → ComesBack p (drop n acts)
come_back_below p zero acts h = h
come_back_below p (suc n) [] h = tt
come_back_below p (suc n) (a ∷ acts) h = come_back_below p n acts h.1
