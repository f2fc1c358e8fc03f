-- How the orders go on while the source makes a step: by none, by those of an operation, and then over marks and jumps.
use Rattle.std.proofs.Common.{◌≡◌, ◌≢◌, ◌⊎◌, inl, inr, ℕ, zero, suc, ◌+◌, ◌*◌, ◌<◌, ◌≤◌, ℤ, pos, List, [], ◌∷◌, ◌++◌, length, Bool, true, false, Option, Some, None, refl, sym, ap, ◌∙◌, subst, arith}
use Rattle.std.specs.Prelude.{slice_get, option_map, IsTrue}
use Rattle.std.proofs.lemmas.Bool.{false≢true}
use Rattle.std.proofs.lemmas.Option.{slice_get-map}
use Rattle.cw_track.specs.Machine.{Machine}
use Rattle.cw_track.specs.Tracking.{step_budget}
use Rattle.cw_track.specs.Watching.{noted}
use Rattle.cw_track.proofs.Paths.{Path, stay, next as move, join, weaken}
use Rattle.cw_track.proofs.Simulations as simulation
use Rattle.cw_track.proofs.Watching.{Unnoted, Notes, nothing, SilentWay}
use Rattle.cw_unit.specs.declared.unit.Unit.{Unit as SourceUnit}
use Rattle.cw_unit.specs.declared.unit.Stmt.{Stmt}
use Rattle.cw_unit.specs.declared.layout.Limits.{Limits}
use Rattle.cw_unit.specs.declared.layout.Map.{Map}
use Rattle.cw_unit.specs.Program.{Program, program_at}
use Rattle.cw_unit.specs.Stop.{StopKind, Running, Stopped, Stuck}
use Rattle.cw_unit.specs.Words.{Words, Outcome, Changed, Refused, Impossible}
use Rattle.cw_unit.specs.Work.{Work, Run, Eval, Address, Do, Test, Give, Element}
use Rattle.cw_unit.specs.Configuration.{Configuration, at as configuration, Activation, segment_of}
use Rattle.cw_unit.specs.Step.{after as source_after, step as source_step}
use Rattle.cw_unit.specs.Behaviour.{Observation, shown}
use Rattle.cw_unit.specs.Begun.{Begun, begins}
use Rattle.cw_order.specs.declared.order.Order.{Order}
use Rattle.cw_order.specs.declared.order.Order.TheVariants as order
use Rattle.cw_order.specs.declared.order.Orders.{Orders}
use Rattle.cw_order.specs.OrderProgram.{OrderProgram, order_in, order_at, mark_in, place_of}
use Rattle.cw_order.specs.OrderState.{OrderActivation, OrderState, at as state, stack_words}
use Rattle.cw_order.specs.OrderCosts.{weight_at}
use Rattle.cw_order.specs.OrderMachine.{go_at, carry_out, order_machine}
use Rattle.cw_order.specs.Starting.{started_by, starts}
use Rattle.cw_gen_expr.specs.UnitTables.{tables_of}
use Rattle.cw_gen_expr.specs.BuiltExpressions.{most_levels}
use Rattle.cw_gen_expr.proofs.Layers.{expression_size, reference_size, condition_size, argument_size}
use Rattle.cw_carry.proofs.Expressions.Standing.{Stands}
use Rattle.cw_carry.proofs.Expressions.Effects.{IsPossible, all_silent, total_weight, total_growth, growth_within, OnLine, loaded_through, run_orders, Ran, run_through}
use Rattle.cw_carry.proofs.Expressions.Carried.{Leads, here, past, over as leap, saved, Via, Ready, Places, who_of, CarriedIn, Calls, Together, going, over}

-- what the orders are made from and run with
pub record Compiled : Type 1 where
  pub units : List SourceUnit
  pub addresses : Map
  pub limits : Limits
  pub room : ℕ
  pub orders_for : SourceUnit → Orders
  pub places : (segment : ℕ) → SourceUnit → (who : Option ℕ) → Places
  pub has_words : (segment : ℕ) → SourceUnit → (who : Option ℕ) → (item words : ℕ) → Bool
  pub statement_size : Stmt → ℕ

-- not stuck
abbrev pub IsSane : Configuration → Type 0
IsSane (configuration s k acts w Stuck) = ⊥
IsSane (configuration s k acts w _) = Unit {0}

-- the source semantics; each step may take the same number of instructions
abbrev pub meaning : Program → Machine Observation
meaning p = record { State = Configuration; step = source_step p; shown = shown; weight = λ c. step_budget }

-- what may be seen during a step: what was shown before it or what is shown after it, where no statement begins
abbrev pub Quiet : (before after : Observation) → Observation × List Begun → Type 0
Quiet before after = Unnoted (simulation.Quiet before after)

module _ (c : Compiled) where
  abbrev pub source : Program
  source = program_at c.units c.addresses c.limits

  abbrev pub target : OrderProgram
  target = record { units = Rattle.std.specs.Prelude.map c.orders_for c.units; tables = Rattle.std.specs.Prelude.map (tables_of c.units) c.units; addresses = c.addresses; limits = c.limits; room = c.room }

  abbrev pub A : Machine Observation
  A = meaning source

  abbrev pub orders : Machine Observation
  orders = order_machine target

  -- the machine of orders, where each state shows with it the statement that begins there
  abbrev pub B : Machine (Observation × List Begun)
  B = noted orders (starts target)

  abbrev pub Belong : Configuration → OrderState → Type 0
  Belong = Together c.units c.addresses c.limits c.orders_for c.places c.has_words

  abbrev pub AllCalls : ℕ → List Activation → List OrderActivation → Type 0
  AllCalls = Calls c.units c.addresses c.limits c.orders_for c.places c.has_words

  -- how many steps of the source may pass before an order is carried out
  abbrev pub work_size : Work → ℕ
  work_size (Run s k) = c.statement_size s + work_size k
  work_size (Eval e scale line k) = expression_size e
  work_size (Address r line k) = reference_size r
  work_size (Do op line k) = 1 + work_size k
  work_size (Test t line pass fail) = condition_size t
  work_size (Give a line k) = argument_size a
  work_size (Element i l k) = 1 + work_size k
  work_size _ = 0

  abbrev pub rank : Configuration → ℕ
  rank (configuration s k acts w e) = work_size k

  -- how the orders go on while the source makes a step, where no statement begins
  pub record Goes (x : Configuration) (t : OrderState) : Type 0 where
    pub spent : ℕ
    pub reached : OrderState
    pub path : Path (Quiet (A.shown x) (A.shown (A.step x))) B spent t reached
    pub within : spent ≤ step_budget
    pub belongs : Belong (A.step x) reached
    pub progress : (0 < spent) ⊎ (rank (A.step x) < rank x)

  -- the same where a statement may begin: the orders begin the same one
  pub record GoesNoting (x : Configuration) (t : OrderState) : Type 0 where
    pub spent : ℕ
    pub reached : OrderState
    pub notes : Notes A orders begins (starts target) x t spent reached
    pub within : spent ≤ step_budget
    pub belongs : Belong (A.step x) reached
    pub progress : (0 < spent) ⊎ (rank (A.step x) < rank x)

  -- how they go on while the source makes several steps, of which all but the last show nothing new
  pub record Leaps (x : Configuration) (t : OrderState) : Type 0 where
    pub to : Configuration
    pub way : SilentWay A begins x to
    pub spent : ℕ
    pub reached : OrderState
    pub path : Path (Quiet (A.shown x) (A.shown to)) B spent t reached
    pub within : spent ≤ step_budget
    pub belongs : Belong to reached
    pub progress : (0 < spent) ⊎ (rank to < rank x)

  pub quietly : {x : Configuration} {t : OrderState} → Goes x t → begins x ≡ [] → GoesNoting x t
  quietly goes none = record {
    spent = goes.spent;
    reached = goes.reached;
    notes = nothing none goes.path;
    within = goes.within;
    belongs = goes.belongs;
    progress = goes.progress;
  }

  module _ (s : ℕ) (acts : List Activation) (bs : List OrderActivation) (u : SourceUnit) (unit_is : slice_get c.units (segment_of s acts) ≡ Some u) where
    abbrev pub g : ℕ
    g = segment_of s acts

    abbrev pub code : List Order
    code = (c.orders_for u).list

    abbrev pub marks : List ℕ
    marks = (c.orders_for u).marks

    abbrev pub Carried : (place : ℕ) → (loaded ready : Bool) → Work → Type 0
    Carried = CarriedIn c.units c.addresses c.limits c.orders_for c.places c.has_words g u (who_of acts)

    abbrev pub Leading : (place : ℕ) → (loaded ready : Bool) → Work → Type 0
    Leading q l r k = Via code marks most_levels q l (λ x m. Carried x m r k)

    abbrev pub From : Work → (q : ℕ) → (l : Bool) → Words → Type 0
    From k q l w = Goes (configuration s k acts w Running) (state g q l bs w Running)

    abbrev pub FromNoting : Work → (q : ℕ) → (l : Bool) → Words → Type 0
    FromNoting k q l w = GoesNoting (configuration s k acts w Running) (state g q l bs w Running)

    pub order_here : (q : ℕ) (o : Order) → slice_get code q ≡ Some o → order_at target g q ≡ Some o
    order_here q o h = ap (λ v. order_in v q) (slice_get-map c.orders_for c.units g ∙ ap (option_map c.orders_for) unit_is) ∙ h

    pub mark_here : (mark to : ℕ) → slice_get marks mark ≡ Some to → place_of target g mark ≡ Some to
    mark_here mark to h = ap (λ v. mark_in v mark) (slice_get-map c.orders_for c.units g ∙ ap (option_map c.orders_for) unit_is) ∙ h

    -- the output so far is shown, and no statement begins
    abbrev pub Seen : Words → Observation × List Begun → Type 0
    Seen w = Unnoted (λ o. o ≡ record { output = w.output; end = Running })

    abbrev pub save_cost : Bool → ℕ
    save_cost true = 1
    save_cost false = 0

    -- a way over marks, a Save and jumps
    pub walk : (n p : ℕ) (l : Bool) (q : ℕ) (m : Bool) (w : Words) → Leads code marks n p l q m → (j : ℕ) × (j ≤ n + save_cost l) × Path (Seen w) B j (state g p l bs w Running) (state g q m bs w Running)
    walk n p l q m w (here e f) = (0, (let z : 0 ≤ n + save_cost l = omega arith in z), stay (ap (λ x. state g x l bs w Running) e ∙ ap (λ x. state g q x bs w Running) f) refl)
    walk n p l q m w (past h way) =
        let rest = walk n (p + 1) l q m w way in
        let at_p = order_here p order.Mark h in
        (rest.0, rest.1, move (refl, ap (λ x. started_by x g w) at_p) (ap (λ x. carry_out target x g p l bs w) at_p) (let z : rest.0 ≡ weight_at (order_at target g p) + rest.0 = omega (arith, ap weight_at at_p) in z) rest.2)
    walk n p l q m w (leap {n' = n'} {r = r} {k = mark} h t e way) =
        let rest = walk n' r l q m w way in
        let at_p = order_here p (order.Jump mark) h in
        (suc rest.0, (let z : suc rest.0 ≤ n + save_cost l = omega (arith, rest.1, e) in z), move (refl, ap (λ x. started_by x g w) at_p) (ap (λ x. carry_out target x g p l bs w) at_p ∙ ap (λ o. go_at o g p l bs w w) (mark_here mark r t)) (let z : suc rest.0 ≡ weight_at (order_at target g p) + rest.0 = omega (arith, ap weight_at at_p) in z) rest.2)
    walk n p false q m w (saved h e way) = absurd (false≢true e)
    walk n p true q m w (saved h e way) =
        let rest = walk n (p + 1) false q m w way in
        let at_p = order_here p order.Save h in
        (suc rest.0, (let z : suc rest.0 ≤ n + 1 = omega (arith, rest.1) in z), move (refl, ap (λ x. started_by x g w) at_p) (ap (λ x. carry_out target x g p true bs w) at_p) (let z : suc rest.0 ≡ weight_at (order_at target g p) + rest.0 = omega (arith, ap weight_at at_p) in z) rest.2)

    pub within_levels : (j : ℕ) (l : Bool) → j ≤ 64 + save_cost l → j ≤ 65
    within_levels j true le = le
    within_levels j false le = omega (arith, le)

    module _ (calls : AllCalls s acts bs) where
      -- behind some orders, which show nothing new, or what the source shows after its step, the way goes on to what carries out the work
      pub lands : (now k : Work) (q p : ℕ) (l l' r : Bool) (w v : Words) (spent : ℕ) → A.step (configuration s now acts w Running) ≡ configuration s k acts v Running → Path (Quiet (shown (configuration s now acts w Running)) (shown (configuration s k acts v Running))) B spent (state g q l bs w Running) (state g p l' bs v Running) → spent ≤ 159 → Ready c.limits.area r v.operands → Leading p l' r k → (0 < spent) ⊎ (work_size k < work_size now) → From now q l w
      lands now k q p l l' r w v spent e path le ready (x, m, way, carried) progress =
          let on = walk most_levels p l' x m v way in
          let few = within_levels on.0 l' on.1 in
          let before = shown (configuration s now acts w Running) in
          let behind = shown (configuration s k acts v Running) in
          let all = join (Quiet before behind) B spent on.0 (spent + on.0) (state g q l bs w Running) (state g p l' bs v Running) (state g x m bs v Running) refl path (weaken (Seen v) (Quiet before behind) B on.0 (state g p l' bs v Running) (state g x m bs v Running) (λ o h. (inr h.0, h.1)) on.2) in
          record {
            spent = spent + on.0;
            reached = state g x m bs v Running;
            path = subst (λ d. Path (Quiet before (shown d)) B (spent + on.0) (state g q l bs w Running) (state g x m bs v Running)) (sym e) all;
            within = (let z : spent + on.0 ≤ 224 = omega (arith, few, le) in z);
            belongs = subst (λ d. Belong d (state g x m bs v Running)) (sym e) (going u unit_is r ready carried calls);
            progress = Rattle.std.proofs.Common.⊎_elim (λ (h : 0 < spent). inl (let z : 0 < spent + on.0 = omega (arith, h) in z)) (λ (h : work_size k < work_size now). inr (let z : rank (A.step (configuration s now acts w Running)) < work_size now = omega (arith, ap rank e, h) in z)) progress;
          }

      -- behind orders, while the source makes steps that show nothing new
      pub leaps : (now k : Work) (q p : ℕ) (l l' r : Bool) (w v : Words) (spent : ℕ) → SilentWay A begins (configuration s now acts w Running) (configuration s k acts v Running) → Path (Seen w) B spent (state g q l bs w Running) (state g p l' bs v Running) → spent ≤ 159 → 0 < spent
          → Ready c.limits.area r v.operands → Leading p l' r k → Leaps (configuration s now acts w Running) (state g q l bs w Running)
      leaps now k q p l l' r w v spent way path le some ready (x, m, to, carried) =
          let on = walk most_levels p l' x m v to in
          let few = within_levels on.0 l' on.1 in
          let before = shown (configuration s now acts w Running) in
          let behind = shown (configuration s k acts v Running) in
          record {
            to = configuration s k acts v Running;
            way = way;
            spent = spent + on.0;
            reached = state g x m bs v Running;
            path = join (Quiet before behind) B spent on.0 (spent + on.0) (state g q l bs w Running) (state g p l' bs v Running) (state g x m bs v Running) refl
                (weaken (Seen w) (Quiet before behind) B spent (state g q l bs w Running) (state g p l' bs v Running) (λ o h. (inl h.0, h.1)) path)
                (weaken (Seen v) (Quiet before behind) B on.0 (state g p l' bs v Running) (state g x m bs v Running) (λ o h. (inr h.0, h.1)) on.2);
            within = (let z : spent + on.0 ≤ 224 = omega (arith, few, le) in z);
            belongs = going u unit_is r ready carried calls;
            progress = inl (let z : 0 < spent + on.0 = omega (arith, some) in z);
          }

      -- a stop, at the last of several steps of the source
      pub leap_stops : (now last : Work) (q p : ℕ) (l m : Bool) (w v u : Words) (kind : StopKind) (line spent : ℕ) → SilentWay A begins (configuration s now acts w Running) (configuration s last acts v (Stopped kind (g + 1) line))
          → Path (Seen w) B spent (state g q l bs w Running) (state g p m bs u (Stopped kind (g + 1) line)) → u.output ≡ v.output → spent ≤ 224 → 0 < spent → Leaps (configuration s now acts w Running) (state g q l bs w Running)
      leap_stops now last q p l m w v u kind line spent way path same le some =
          let before = shown (configuration s now acts w Running) in
          let behind = shown (configuration s last acts v (Stopped kind (g + 1) line)) in
          let t = state g p m bs u (Stopped kind (g + 1) line) in
          record {
            to = configuration s last acts v (Stopped kind (g + 1) line);
            way = way;
            spent = spent;
            reached = t;
            path = weaken (Seen w) (Quiet before behind) B spent (state g q l bs w Running) t (λ o h. (inl h.0, h.1)) path;
            within = le;
            belongs = over refl same;
            progress = inl some;
          }

      -- by no order
      pub silent : (now k : Work) (q : ℕ) (l r : Bool) (w : Words) → A.step (configuration s now acts w Running) ≡ configuration s k acts w Running → Ready c.limits.area r w.operands → Leading q l r k → work_size k < work_size now → From now q l w
      silent now k q l r w e ready carried less = lands now k q q l l r w w 0 e (stay refl refl) (let z : 0 ≤ 159 = omega arith in z) ready carried (inr less)

      -- a stop
      pub stops : (now : Work) (q p : ℕ) (l m : Bool) (w v : Words) (kind : StopKind) (line spent : ℕ) → A.step (configuration s now acts w Running) ≡ configuration s now acts w (Stopped kind (g + 1) line) → Path (Seen w) B spent (state g q l bs w Running) (state g p m bs v (Stopped kind (g + 1) line)) → v.output ≡ w.output → spent ≤ 224 → 0 < spent → From now q l w
      stops now q p l m w v kind line spent e path same le some =
          let before = shown (configuration s now acts w Running) in
          let t = state g p m bs v (Stopped kind (g + 1) line) in
          record {
            spent = spent;
            reached = t;
            path = weaken (Seen w) (Quiet before (shown (A.step (configuration s now acts w Running)))) B spent (state g q l bs w Running) t (λ o h. (inl h.0, h.1)) path;
            within = le;
            belongs = subst (λ d. Belong d t) (sym e) (over refl same);
            progress = inl some;
          }

      -- the orders of an operation, which do what the source does, and stop at its line
      module _ (now k : Work) (line q next : ℕ) (l m : Bool) (os : List Order) (w : Words) (r : Bool) (stands : Stands code q os next) (quiet : IsTrue (all_silent os)) (at : OnLine line os) (turns : loaded_through os l ≡ Some m) (light : total_weight os ≤ 159) (some : 0 < total_weight os) (roomy : 2 * length os + stack_words w.operands bs ≤ c.room) where
        did : (out : Outcome) → A.step (configuration s now acts w Running) ≡ source_after out s line now k acts w → Ran target g bs line q next l m os w out → ((v : Words) → out ≡ Changed v → Ready c.limits.area r v.operands) → Leading next m r k → IsSane (A.step (configuration s now acts w Running)) → From now q l w
        did (Changed v) e (path, kept) ready carried sane =
            lands now k q next l m r w v (total_weight os) e (weaken (Seen w) (Quiet (shown (configuration s now acts w Running)) (shown (configuration s k acts v Running))) B (total_weight os) (state g q l bs w Running) (state g next m bs v Running) (λ o h. (inl h.0, h.1)) path) light (ready v refl) carried (inl some)
        did (Refused kind) e (n, place, m', v, positive, le, path, kept) ready carried sane =
            stops now q place l m' w v kind line n e path kept (let z : n ≤ 224 = omega (arith, le, light) in z) positive
        did Impossible e ran ready carried sane = absurd (subst IsSane e sane)

        runs_on : Ran target g bs line q next l m os w (run_orders target g bs os w)
        runs_on = run_through target g bs code order_here line os q next l m w stands quiet at turns (let z : total_growth os + stack_words w.operands bs ≤ c.room = omega (arith, roomy, growth_within os) in z)

        -- where the source comes to the same words in several steps
        pub leapt : (v : Words) → SilentWay A begins (configuration s now acts w Running) (configuration s k acts v Running) → run_orders target g bs os w ≡ Changed v → Ready c.limits.area r v.operands → Leading next m r k
            → Leaps (configuration s now acts w Running) (state g q l bs w Running)
        leapt v way runs ready carried = leaps now k q next l m r w v (total_weight os) way (subst (Ran target g bs line q next l m os w) runs runs_on).0 light some ready carried

        -- by the orders of the operation
        pub straight : (out : Outcome) → A.step (configuration s now acts w Running) ≡ source_after out s line now k acts w → (IsPossible out → run_orders target g bs os w ≡ out) → ((v : Words) → out ≡ Changed v → Ready c.limits.area r v.operands) → Leading next m r k → IsSane (A.step (configuration s now acts w Running)) → From now q l w
        straight (Changed v) e runs ready carried sane = did (Changed v) e (subst (Ran target g bs line q next l m os w) (runs tt) runs_on) ready carried sane
        straight (Refused kind) e runs ready carried sane = did (Refused kind) e (subst (Ran target g bs line q next l m os w) (runs tt) runs_on) ready carried sane
        straight Impossible e runs ready carried sane = absurd (subst IsSane e sane)
