-- A moment of a run at which source and orders belong together, and the facts of the step from it.
use Rattle.std.proofs.Common.{◌≡◌, ◌⊎◌, inl, ℕ, zero, suc, ◌+◌, ◌*◌, ◌<◌, ◌≤◌, List, [], ◌∷◌, length, Bool, true, false, Option, Some, None, refl, ap, ◌∙◌, arith}
use Rattle.std.specs.Prelude.{slice_get, slice_index_or, IsTrue, ◌&&◌}
use Rattle.std.proofs.lemmas.Bool.{false≢true}
use Rattle.cw_unit.specs.declared.unit.Unit.{Unit as SourceUnit}
use Rattle.cw_unit.specs.declared.layout.Layout.{Layout}
use Rattle.cw_unit.specs.declared.layout.Family.{Family}
use Rattle.cw_unit.specs.declared.layout.Sort.{Sort}
use Rattle.cw_unit.specs.declared.layout.Sort.TheVariants as sort
use Rattle.cw_unit.specs.Storage.{layout_of}
use Rattle.cw_unit.specs.Stop.{Running}
use Rattle.cw_unit.specs.Words.{Words, Outcome, Changed}
use Rattle.cw_unit.specs.Work.{Work}
use Rattle.cw_unit.specs.Configuration.{Configuration, at as configuration, Activation, segment_of}
use Rattle.cw_unit.specs.Step.{after as source_after}
use Rattle.cw_order.specs.declared.order.Order.{Order}
use Rattle.cw_order.specs.declared.order.Order.TheVariants as order
use Rattle.cw_track.proofs.Paths.{Path, stay, next as move, weaken}
use Rattle.cw_track.proofs.Watching.{SilentWay}
use Rattle.cw_unit.specs.Begun.{begins}
use Rattle.cw_unit.specs.Behaviour.{shown}
use Rattle.cw_order.specs.OrderProgram.{order_at}
use Rattle.cw_order.specs.OrderState.{OrderActivation, OrderState, at as state, stack_words}
use Rattle.cw_order.specs.Loading.{loaded_after}
use Rattle.cw_order.specs.OrderActions.{action_of}
use Rattle.cw_order.specs.OrderMachine.{act}
use Rattle.cw_order.specs.Starting.{started_by}
use Rattle.cw_order.specs.OrderCosts.{weight_of, weight_at}
use Rattle.cw_order.specs.FittingWords.{WordsFit}
use Rattle.cw_gen_expr.specs.ReferenceExpressions.{Scope, placed_by, placed_in, item_order}
use Rattle.cw_gen_expr.specs.BuiltExpressions.{most_levels, within}
use Rattle.cw_carry.proofs.Expressions.Standing.{Stands}
use Rattle.cw_carry.proofs.Expressions.Effects.{IsPossible, BeginsNone, is_silent, all_silent, total_weight, TellsLine, OnLine, loaded_through, through_all, total_growth, growth_within, carried_out, run_orders, Ran, run_through}
use Rattle.cw_carry.proofs.Expressions.Carried.{here, saved, Via, wider, Ready, who_of}
use Rattle.cw_gen_expr.specs.ReferenceEntries.{scope_of}
use Rattle.cw_carry.proofs.Expressions.Operations.{ItemsStand}
use Rattle.cw_carry.proofs.Expressions.Stepping.{Quiet, Compiled, source, target, A, B, AllCalls, work_size, Carried, Leading, From, FromNoting, IsSane, Leaps, Seen, order_here, lands, silent, straight, leapt}

pub a_level : (levels : ℕ) (p : ℕ → Bool) → IsTrue (within levels p) → (m : ℕ) × (levels ≡ suc m) × IsTrue (p m)
a_level zero p h = absurd (false≢true h)
a_level (suc m) p h = (m, refl, h)

-- ---- the order that puts the address of an item

pub item_silent : (y : Layout) (i n : ℕ) → IsTrue (is_silent (item_order y i n))
item_silent y i n = of_family (slice_get y.families (slice_index_or y.homes i (0, 0)).0) (slice_index_or y.homes i (0, 0)).0 ((slice_index_or y.homes i (0, 0)).1 + n)
  where
    of_sort : (x : Sort) (f o : ℕ) → IsTrue (is_silent (placed_by x f o))
    of_sort (sort.Common d) f o = refl
    of_sort _ f o = refl

    of_family : (x : Option Family) (f o : ℕ) → IsTrue (is_silent (placed_in x f o))
    of_family None f o = refl
    of_family (Some x) f o = of_sort x.sort f o

pub item_light : (y : Layout) (i n : ℕ) → (0 < weight_of (item_order y i n)) × (weight_of (item_order y i n) ≤ 4)
item_light y i n = of_family (slice_get y.families (slice_index_or y.homes i (0, 0)).0) (slice_index_or y.homes i (0, 0)).0 ((slice_index_or y.homes i (0, 0)).1 + n)
  where
    of_sort : (x : Sort) (f o : ℕ) → (0 < weight_of (placed_by x f o)) × (weight_of (placed_by x f o) ≤ 4)
    of_sort (sort.Common d) f o = (omega arith, omega arith)
    of_sort _ f o = (omega arith, omega arith)

    of_family : (x : Option Family) (f o : ℕ) → (0 < weight_of (placed_in x f o)) × (weight_of (placed_in x f o) ≤ 4)
    of_family None f o = (omega arith, omega arith)
    of_family (Some x) f o = of_sort x.sort f o

-- it wants the accumulator free and loads it, and never stops
pub item_loads : (y : Layout) (i n : ℕ) → loaded_after (item_order y i n) false ≡ Some true
item_loads y i n = of_family (slice_get y.families (slice_index_or y.homes i (0, 0)).0) (slice_index_or y.homes i (0, 0)).0 ((slice_index_or y.homes i (0, 0)).1 + n)
  where
    of_sort : (x : Sort) (f o : ℕ) → loaded_after (placed_by x f o) false ≡ Some true
    of_sort (sort.Common d) f o = refl
    of_sort _ f o = refl

    of_family : (x : Option Family) (f o : ℕ) → loaded_after (placed_in x f o) false ≡ Some true
    of_family None f o = refl
    of_family (Some x) f o = of_sort x.sort f o

pub item_tells : (line : ℕ) (y : Layout) (i n : ℕ) → TellsLine line (item_order y i n)
item_tells line y i n = of_family (slice_get y.families (slice_index_or y.homes i (0, 0)).0) (slice_index_or y.homes i (0, 0)).0 ((slice_index_or y.homes i (0, 0)).1 + n)
  where
    of_sort : (x : Sort) (f o : ℕ) → TellsLine line (placed_by x f o)
    of_sort (sort.Common d) f o = tt
    of_sort _ f o = tt

    of_family : (x : Option Family) (f o : ℕ) → TellsLine line (placed_in x f o)
    of_family None f o = tt
    of_family (Some x) f o = of_sort x.sort f o

-- a list of orders that writes nothing, costs something, is not too dear or too long, names a line, and finds the accumulator in one
-- mode and leaves it in another
pub record IsLight (line : ℕ) (l m : Bool) (os : List Order) : Type 0 where
  pub quiet : IsTrue (all_silent os)
  pub light : total_weight os ≤ 159
  pub some : 0 < total_weight os
  pub short : length os ≤ 12
  pub at : OnLine line os
  pub turns : loaded_through os l ≡ Some m

-- with the order of an item before or within
pub silent_and : (a b : Bool) → IsTrue a → IsTrue b → IsTrue (a && b)
silent_and true b x y = y
silent_and false b x y = absurd (false≢true x)

-- an order of its own
pub light_order : (line : ℕ) (l m : Bool) (o : Order) → IsTrue (is_silent o) → 0 < weight_of o → weight_of o ≤ 159 → TellsLine line o → loaded_after o l ≡ Some m → IsLight line l m (o ∷ [])
light_order line l m o h some le tells turn = record {
  quiet = silent_and (is_silent o) true h refl;
  light = (let z : weight_of o + 0 ≤ 159 = omega (arith, le) in z);
  some = (let z : 0 < weight_of o + 0 = omega (arith, some) in z);
  short = (let z : 1 ≤ 12 = omega arith in z);
  at = (tells, tt);
  turns = ap (λ x. through_all x []) turn;
}

module _ (c : Compiled) where
  pub record Moment : Type 0 where
    pub segment : ℕ
    pub acts : List Activation
    pub calls_below : List OrderActivation
    pub unit : SourceUnit
    pub unit_is : slice_get c.units (segment_of segment acts) ≡ Some unit
    pub calls : AllCalls c segment acts calls_below
    pub in_words : c.limits.area ≤ 32768
    pub stand : ItemsStand (target c) (segment_of segment acts) calls_below (source c) segment acts (layout_of unit) (c.has_words (segment_of segment acts) unit (who_of acts))

  module _ (t : Moment) where
    abbrev pub here_in : ℕ
    here_in = segment_of t.segment t.acts

    abbrev pub layout : Layout
    layout = layout_of t.unit

    abbrev pub scope : Scope
    scope = scope_of t.unit (who_of t.acts)

    abbrev pub has_words : (item words : ℕ) → Bool
    has_words = c.has_words here_in t.unit (who_of t.acts)

    abbrev pub code : List Order
    code = (c.orders_for t.unit).list

    abbrev pub marks : List ℕ
    marks = (c.orders_for t.unit).marks

    abbrev pub At : (place : ℕ) → (loaded ready : Bool) → Work → Type 0
    At = Carried c t.segment t.acts t.calls_below t.unit t.unit_is

    abbrev pub Leads_to : (place : ℕ) → (loaded ready : Bool) → Work → Type 0
    Leads_to = Leading c t.segment t.acts t.calls_below t.unit t.unit_is

    abbrev pub Steps : Work → (q : ℕ) → (l : Bool) → Words → Type 0
    Steps = From c t.segment t.acts t.calls_below t.unit t.unit_is

    abbrev pub StepsNoting : Work → (q : ℕ) → (l : Bool) → Words → Type 0
    StepsNoting = FromNoting c t.segment t.acts t.calls_below t.unit t.unit_is

    abbrev pub Leap : Work → (q : ℕ) → (l : Bool) → Words → Type 0
    Leap k q l w = Leaps c (configuration t.segment k t.acts w Running) (state here_in q l t.calls_below w Running)

    abbrev pub config : Work → Words → Configuration
    config k w = configuration t.segment k t.acts w Running

    abbrev pub next : Work → Words → Configuration
    next k w = (A c).step (config k w)

    abbrev pub run : List Order → Words → Outcome
    run = run_orders (target c) here_in t.calls_below

    -- by one step of the source, or by several
    abbrev pub Goes : Work → (q : ℕ) → (l : Bool) → Words → Type 0
    Goes k q l w = Steps k q l w ⊎ Leap k q l w

    -- the words fit, the memory is the whole data area, the control stack has room for what an operation needs, and the source is not
    -- stuck
    pub record Facts (k : Work) (w : Words) : Type 0 where
      pub fits : WordsFit w
      pub memory : length w.memory ≡ c.limits.area
      pub room : 24 + stack_words w.operands t.calls_below ≤ c.room
      pub sane : IsSane (next k w)

    pub at_once : (q : ℕ) (l r : Bool) (k : Work) → At q l r k → Leads_to q l r k
    at_once q l r k h = (q, l, here refl refl, h)

    -- without a jump
    abbrev pub Close : (place : ℕ) → (loaded ready : Bool) → Work → Type 0
    Close q l r k = Via code marks 0 q l (λ x m. At x m r k)

    pub at_close : (q : ℕ) (l r : Bool) (k : Work) → At q l r k → Close q l r k
    at_close q l r k h = (q, l, here refl refl, h)

    pub close_to : (q : ℕ) (l r : Bool) (k : Work) → Close q l r k → Leads_to q l r k
    close_to q l r k (x, m, way, h) = (x, m, wider code marks 0 most_levels q l x m (let z : 0 ≤ 64 = omega arith in z) way, h)

    -- behind a Save
    pub past_save : (n q : ℕ) (r : Bool) (k : Work) → slice_get code q ≡ Some order.Save → Via code marks n (q + 1) false (λ x m. At x m r k) → Via code marks n q true (λ x m. At x m r k)
    past_save n q r k h (x, m, way, carried) = (x, m, saved h refl way, carried)

    -- by no order, to works that are carried out at this place
    pub becomes : (now k : Work) (q : ℕ) (l : Bool) (w : Words) → next now w ≡ config k w → At q l false k → work_size c k < work_size c now → Steps now q l w
    becomes now k q l w e carried less =
        silent c t.segment t.acts t.calls_below t.unit t.unit_is t.calls now k q l false w e tt (at_once q l false k carried) less

    -- by orders that do what the source does
    pub done_by : (now k : Work) (line q n : ℕ) (l m : Bool) (os : List Order) (w : Words) (r : Bool) (out : Outcome) → Stands code q os n → IsLight line l m os → Facts now w → next now w ≡ source_after out t.segment line now k t.acts w → (IsPossible out → run os w ≡ out) → ((v : Words) → out ≡ Changed v → Ready c.limits.area r v.operands) → Leads_to n m r k → Steps now q l w
    done_by now k line q n l m os w r out stands light facts e runs ready carried =
        straight c t.segment t.acts t.calls_below t.unit t.unit_is t.calls now k line q n l m os w r stands light.quiet light.at light.turns light.light light.some (let z : 2 * length os + stack_words w.operands t.calls_below ≤ c.room = omega (arith, light.short, facts.room) in z) out e runs ready carried facts.sane

    -- the source comes from one work to another, and shows nothing new
    abbrev pub Comes : (now k : Work) → (w v : Words) → Type 0
    Comes now k w v = SilentWay (A c) begins (config now w) (config k v)

    -- by orders that make the words to which the source comes
    pub leaps_by : (now k : Work) (line q n : ℕ) (l m : Bool) (os : List Order) (w v : Words) (r : Bool) → Stands code q os n → IsLight line l m os → Facts now w → Comes now k w v → run os w ≡ Changed v → Ready c.limits.area r v.operands → Leads_to n m r k → Leap now q l w
    leaps_by now k line q n l m os w v r stands light facts comes runs ready carried =
        leapt c t.segment t.acts t.calls_below t.unit t.unit_is t.calls now k line q n l m os w r stands light.quiet light.at light.turns light.light light.some (let z : 2 * length os + stack_words w.operands t.calls_below ≤ c.room = omega (arith, light.short, facts.room) in z) v comes runs ready carried

    -- orders that stand at a place run on
    pub ran_on : (line : ℕ) (os : List Order) (q m : ℕ) (l l' : Bool) (w : Words) → Stands code q os m → IsTrue (all_silent os) → OnLine line os → loaded_through os l ≡ Some l' → 2 * length os + stack_words w.operands t.calls_below ≤ c.room
        → Ran (target c) here_in t.calls_below line q m l l' os w (run os w)
    ran_on line os q m l l' w stands quiet at turns roomy =
        run_through (target c) here_in t.calls_below code (order_here c t.segment t.acts t.calls_below t.unit t.unit_is) line os q m l l' w stands quiet at turns
        (let z : total_growth os + stack_words w.operands t.calls_below ≤ c.room = omega (arith, roomy, growth_within os) in z)

    -- one order, whatever it does, where no statement begins
    pub one_order : (o : Order) (q : ℕ) (l m : Bool) (w : Words) (u : OrderState) → BeginsNone o → slice_get code q ≡ Some o → loaded_after o l ≡ Some m → act (target c) (action_of (target c) here_in t.calls_below o) here_in q m t.calls_below w ≡ u → Path (Seen c t.segment t.acts t.calls_below t.unit t.unit_is w) (B c) (weight_of o) (state here_in q l t.calls_below w Running) u
    one_order o q l m w u none h turn f =
        let at_q = order_here c t.segment t.acts t.calls_below t.unit t.unit_is q o h in
        move (refl, ap (λ x. started_by x here_in w) at_q ∙ none here_in w) (carried_out (target c) here_in t.calls_below o q l m w at_q turn ∙ f) (let z : weight_of o ≡ weight_at (order_at (target c) here_in q) + 0 = omega (arith, ap weight_at at_q) in z) (stay refl refl)

    -- by one order, which changes words and place
    pub acts_once : (now k : Work) (o : Order) (q p : ℕ) (l m r : Bool) (w v : Words) → BeginsNone o → slice_get code q ≡ Some o → loaded_after o l ≡ Some m → 0 < weight_of o → weight_of o ≤ 159 → next now w ≡ configuration t.segment k t.acts v Running → act (target c) (action_of (target c) here_in t.calls_below o) here_in q m t.calls_below w ≡ state here_in p m t.calls_below v Running → Ready c.limits.area r v.operands → Leads_to p m r k → Steps now q l w
    acts_once now k o q p l m r w v none h turn some light e f ready carried =
        lands c t.segment t.acts t.calls_below t.unit t.unit_is t.calls now k q p l m r w v (weight_of o) e
        (weaken (Seen c t.segment t.acts t.calls_below t.unit t.unit_is w) (Quiet (shown (config now w)) (shown (configuration t.segment k t.acts v Running))) (B c) (weight_of o) (state here_in q l t.calls_below w Running) (state here_in p m t.calls_below v Running) (λ x y. (inl y.0, y.1)) (one_order o q l m w (state here_in p m t.calls_below v Running) none h turn f))
        light ready carried (inl some)
