-- The code at a place carries out a pending work.
use Rattle.std.proofs.Common.{◌≡◌, ℕ, suc, ◌+◌, ◌-◌, ◌<◌, ◌≤◌, pos, List, [], ◌∷◌, Bool, true, false, Option, Some, None, arith}
use Rattle.std.specs.Prelude.{slice_get, IsTrue}
use Rattle.cw_unit.specs.declared.unit.Unit.{Unit as SourceUnit}
use Rattle.cw_unit.specs.declared.unit.Stmt.{Stmt}
use Rattle.cw_unit.specs.declared.unit.Dest.{Dest}
use Rattle.cw_unit.specs.declared.unit.Dest.TheVariants as dest
use Rattle.cw_unit.specs.declared.unit.Target.{Target}
use Rattle.cw_unit.specs.declared.unit.Target.TheVariants as target
use Rattle.cw_unit.specs.declared.unit.Spot.{out-Spot}
use Rattle.cw_unit.specs.declared.unit.Ref.{Ref}
use Rattle.cw_unit.specs.declared.unit.Arg.TheOpen as layer
use Rattle.cw_unit.specs.declared.unit.Arg.TheOpen.{Spot-F}
use Rattle.cw_unit.specs.declared.layout.Layout.{Layout}
use Rattle.cw_unit.specs.declared.layout.Limits.{Limits}
use Rattle.cw_unit.specs.declared.layout.Map.{Map}
use Rattle.cw_unit.specs.Program.{Program, program_at}
use Rattle.cw_unit.specs.Stop.{End, Running}
use Rattle.cw_unit.specs.Words.{Control, Operand, Word, Held, Words}
use Rattle.cw_unit.specs.Operation.{Operation, Rescale, Fetch, Store, StoreBits, Add, Subtract, Negate, Multiply, Divide, Combine, Extract, InBounds}
use Rattle.cw_unit.specs.Work.{Work, Nothing, Run, Eval, Address, FormAt, Do, Test, Choose, Jump, Give, Enter, Return, Leave, KeepAt, SetVar, Element, Turn, Bump, On, Loop}
use Rattle.cw_unit.specs.Configuration.{Configuration, at as configuration, Activation, segment_of, frame_size_of}
use Rattle.cw_unit.specs.Behaviour.{is_running}
use Rattle.cw_order.specs.declared.order.Order.{Order}
use Rattle.cw_order.specs.declared.order.Order.TheVariants as order
use Rattle.cw_order.specs.declared.order.Orders.{Orders}
use Rattle.cw_order.specs.OrderState.{OrderActivation, OrderState, at as state, operand_words, argument_behind}
use Rattle.cw_gen_expr.specs.ReferenceExpressions.{Scope, at_line, argument_words, control_place, comparator_for, item_order, form_orders, load_orders, store_orders, rescale_orders, logic_order, narrow, call_order, condition_piece, argument_piece, reference_of, expression_piece}
use Rattle.cw_gen_expr.specs.BuiltExpressions.{most_levels, answers, is_condition, is_argument, built_reference, is_spot, is_expression}
use Rattle.cw_carry.proofs.Expressions.Standing.{Stands, Made}
use Rattle.cw_gen_unit.specs.Endings.{comes_to_end}
use Rattle.cw_gen_expr.specs.ReferenceEntries.{parameters_of, scope_of}

-- ---- ways

-- a way over marks, at most n jumps, and the Save of a loaded accumulator
pub data Leads (code : List Order) (marks : List ℕ) : ℕ → ℕ → Bool → ℕ → Bool → Type 0 where
  here : {n p q : ℕ} {l m : Bool} → p ≡ q → l ≡ m → Leads code marks n p l q m
  past : {n p q : ℕ} {l m : Bool} → slice_get code p ≡ Some order.Mark → Leads code marks n (p + 1) l q m → Leads code marks n p l q m
  over : {n n' p q r k : ℕ} {l m : Bool} → slice_get code p ≡ Some (order.Jump k) → slice_get marks k ≡ Some r → n ≡ suc n' → Leads code marks n' r l q m → Leads code marks n p l q m
  saved : {n p q : ℕ} {l m : Bool} → slice_get code p ≡ Some order.Save → l ≡ true → Leads code marks n (p + 1) false q m → Leads code marks n p l q m

-- what holds at the end of such a way
abbrev pub Via : List Order → List ℕ → ℕ → ℕ → Bool → (ℕ → Bool → Type 0) → Type 0
Via code marks n p l H = (q : ℕ) × (m : Bool) × Leads code marks n p l q m × H q m

pub wider : (code : List Order) (marks : List ℕ) (n k p : ℕ) (l : Bool) (q : ℕ) (m : Bool) → n ≤ k → Leads code marks n p l q m → Leads code marks k p l q m
wider code marks n k p l q m le (here e f) = here e f
wider code marks n k p l q m le (past h r) = past h (wider code marks n k (p + 1) l q m le r)
wider code marks n k p l q m le (over {n' = n'} {r = r} h t e w) =
    over {n' = k - 1} h t (let x : k ≡ suc (k - 1) = omega (arith, e, le) in x) (wider code marks n' (k - 1) r l q m (let x : n' ≤ k - 1 = omega (arith, e, le) in x) w)
wider code marks n k p l q m le (saved h e r) = saved h e (wider code marks n k (p + 1) false q m le r)

-- the one or the other of two facts
abbrev pub Pick : Bool → Type 0 → Type 0 → Type 0
Pick true A B = A
Pick false A B = B

-- ---- operands

-- where it is asked for, the top operand is an address of the data area
abbrev pub Ready : (area : ℕ) → Bool → List Operand → Type 0
Ready area false hand = Unit {0}
Ready area true hand = (n : ℕ) × (rest : List Operand) × (hand ≡ Word (pos n) ∷ rest) × (n < area)

-- the orders of an operation, at a line
abbrev pub operation_orders : (line : ℕ) → Operation → List Order
operation_orders line (Rescale from to) = rescale_orders line from to
operation_orders line (Fetch s) = load_orders s
operation_orders line (Store s) = store_orders s
operation_orders line (StoreBits t b) = order.StorePart t b ∷ []
operation_orders line Add = order.Add line ∷ []
operation_orders line Subtract = order.Sub line ∷ []
operation_orders line Negate = order.Neg line ∷ []
operation_orders line (Multiply s) = order.Mul (narrow s) line ∷ []
operation_orders line (Divide s) = order.Div (narrow s) line ∷ []
operation_orders line (Combine op) = logic_order op ∷ []
operation_orders line (Extract t b) = order.Take t b ∷ []
operation_orders line (InBounds l u) = order.InBounds l u line ∷ []
operation_orders line _ = []

-- whether they leave a result in the accumulator
abbrev pub gives_word : Operation → Bool
gives_word (Store s) = false
gives_word (StoreBits t b) = false
gives_word _ = true

-- what must hold for them: an address, or a power of two that an order can hold. Other operations are steps of other works
abbrev pub OperationFits : Operation → (ready : Bool) → Type 0
OperationFits (Rescale from to) r = Unit {0}
OperationFits (Fetch s) r = r ≡ true
OperationFits (Store s) r = r ≡ true
OperationFits (StoreBits t b) r = r ≡ true
OperationFits Add r = Unit {0}
OperationFits Subtract r = Unit {0}
OperationFits Negate r = Unit {0}
OperationFits (Multiply s) r = narrow s ≡ s
OperationFits (Divide s) r = narrow s ≡ s
OperationFits (Combine op) r = Unit {0}
OperationFits (Extract t b) r = Unit {0}
OperationFits (InBounds l u) r = Unit {0}
OperationFits _ r = ⊥

-- the top operand is kept in a word of a loop
abbrev pub keep_orders : Layout → (item word : ℕ) → List Order
keep_orders y i n = order.Save ∷ item_order y i n ∷ order.Store ∷ []

-- the control variable of a loop is set through its first word
abbrev pub set_orders : Layout → (line item : ℕ) → List Order
set_orders y line i = order.Save ∷ item_order y i 0 ∷ order.SetVariable line ∷ []

-- the step is added to it
abbrev pub bump_orders : Layout → (line item : ℕ) → List Order
bump_orders y line i = item_order y i 0 ∷ order.AddStep line ∷ []

-- every procedure answers, one without a type 0; a call statement drops the answer
abbrev pub after_call : Target → (wanted : Bool) → List Order
after_call t true = []
after_call target.Write false = []
after_call _ false = order.Drop ∷ []

-- an answer that is wanted comes
abbrev pub answered : Target → (wanted : Bool) → Bool
answered t true = answers t
answered t false = true

-- ---- the accumulator

-- whether an index is in it where an address is formed
abbrev pub takes_index : {A C E S R : Type 0} → Spot-F A C E S R → Bool
takes_index (layer.Direct i) = false
takes_index (layer.Through i) = false
takes_index _ = true

-- whether the index of a switch is in it at a jump
abbrev pub takes_number : Dest → Bool
takes_number (dest.Goal g) = false
takes_number (dest.Special k) = false
takes_number _ = true

-- ---- works

-- the return at the end of a procedure, which answers 0
abbrev pub LeavesAt : List Order → (place words : ℕ) → Type 0
LeavesAt code q words = (slice_get code q ≡ Some (order.Const 0)) × (slice_get code (q + 1) ≡ Some (order.Return words true))

-- what is left to the crates that know statements: where a statement stands, before which place, and with room for so many levels in
-- it; where a jump stands; where a loop's parts stand, the loop ending before a place; and where the orders of the whole beginning of a loop
-- stand, from the address of its control variable on
pub record Places : Type 1 where
  pub StatementAt : (q : ℕ) → Stmt → (levels next : ℕ) → Type 0
  pub JumpAt : (line q : ℕ) → Dest → Type 0
  pub ElementAt : (q number : ℕ) → Loop → (next : ℕ) → Type 0
  pub TurnAt : (q number : ℕ) → Loop → (next : ℕ) → Type 0
  pub BumpAt : (q number : ℕ) → Loop → (next : ℕ) → Type 0
  pub OnAt : (q : ℕ) → Loop → (next : ℕ) → Type 0
  pub BeginningAt : (q : ℕ) → Ref → Loop → (next : ℕ) → Type 0

module _ (places : Places) (code : List Order) (marks : List ℕ) (scope : Scope) (has_words : (item words : ℕ) → Bool) where
  -- as far as any way goes
  abbrev pub Anywhere : ℕ → Bool → (ℕ → Bool → Type 0) → Type 0
  Anywhere p l H = Via code marks most_levels p l H

  -- the orders of an expression, a condition, a reference and an argument name the line of the work
  abbrev pub on_line : (line : ℕ) → Scope
  on_line line = at_line line scope

  -- The code from this very place, with the accumulator so, carries out the work, and names its line wherever it can stop; what follows
  -- it may stand behind marks, a Save and jumps, and behind a statement or an expression at most as many jumps as leave room for its
  -- levels. Behind a statement to whose end no run comes anything may stand. Nothing is said of the operands but that the top one is an address where it is to be used as one without a test: source and
  -- orders have the same operands, and a run of the source is never stuck for want of one
  abbrev pub CarriesOut : (place : ℕ) → (loaded ready : Bool) → Work → Type 0
  CarriesOut q l r Nothing = (slice_get code q ≡ Some order.NextBody) × (l ≡ false)
  CarriesOut q l r (Run s k) =
      (next : ℕ) × (levels : ℕ) × (n : ℕ) × places.StatementAt q s levels next × (n + levels ≤ most_levels) × (l ≡ false) × (IsTrue (comes_to_end s) → Via code marks n next false (λ x m. CarriesOut x m false k))
  CarriesOut q l r (Eval e scale line k) =
      (next : ℕ) × (levels : ℕ) × (n : ℕ) × (free : ℕ) × (last : ℕ) × IsTrue (is_expression scope.unit has_words e scale levels) × Made code marks (expression_piece (on_line line) e scale q free) q next free last × (n + levels ≤ most_levels) × (l ≡ false) × Via code marks n next true (λ x m. CarriesOut x m false k)
  CarriesOut q l r (Address a line k) =
      (next : ℕ) × (free : ℕ) × (last : ℕ) × IsTrue (built_reference scope.unit has_words a).good × Made code marks ((reference_of (on_line line) a).address q free) q next free last × (l ≡ false) × Anywhere next true (λ x m. CarriesOut x m true k)
  CarriesOut q l r (FormAt spot line k) =
      (next : ℕ) × IsTrue (is_spot scope.unit has_words spot) × Stands code q (form_orders scope.layout scope.unit.bounds line (out-Spot spot)) next × (l ≡ takes_index (out-Spot spot)) × Anywhere next true (λ x m. CarriesOut x m true k)
  CarriesOut q l r (Do op line k) =
      (next : ℕ) × OperationFits op r × Stands code q (operation_orders line op) next × (l ≡ true) × Anywhere next (gives_word op) (λ x m. CarriesOut x m false k)
  CarriesOut q l r (Test c line pass fail) =
      (when : Bool) × (mark : ℕ) × (to : ℕ) × (next : ℕ) × (free : ℕ) × (last : ℕ) × IsTrue (is_condition scope.unit has_words c) × Made code marks (condition_piece (on_line line) c when mark q free) q next free last × (slice_get marks mark ≡ Some to) × (l ≡ false) × Anywhere next false (λ x m. Pick when (CarriesOut x m false fail) (CarriesOut x m false pass)) × Anywhere to false (λ x m. Pick when (CarriesOut x m false pass) (CarriesOut x m false fail))
  CarriesOut q l r (Choose op line pass fail) =
      (when : Bool) × (mark : ℕ) × (to : ℕ) × (slice_get code q ≡ Some (order.JumpIf (comparator_for when op) mark)) × (slice_get marks mark ≡ Some to) × (l ≡ true) × Anywhere (q + 1) false (λ x m. Pick when (CarriesOut x m false fail) (CarriesOut x m false pass)) × Anywhere to false (λ x m. Pick when (CarriesOut x m false pass) (CarriesOut x m false fail))
  CarriesOut q l r (Jump d line) = places.JumpAt line q d × (l ≡ takes_number d)
  CarriesOut q l r (Give a line k) =
      (next : ℕ) × (free : ℕ) × (last : ℕ) × IsTrue (is_argument scope.unit has_words a) × Made code marks (argument_piece (on_line line) a q free) q next free last × (l ≡ false) × ((b : Bool) → Via code marks 0 next false (λ x m. CarriesOut x m b k))
  CarriesOut q l r (Enter t line wanted k) =
      (next : ℕ) × Stands code q (call_order (on_line line) t ∷ after_call t wanted) next × IsTrue (answered t wanted) × (l ≡ false) × Anywhere next wanted (λ x m. CarriesOut x m false k)
  CarriesOut q l r Return = (slice_get code q ≡ Some (order.Return (argument_words scope.parameters) true)) × (l ≡ true)
  CarriesOut q l r Leave = LeavesAt code q (argument_words scope.parameters) × (l ≡ false)
  CarriesOut q l r (KeepAt n c k) =
      (next : ℕ) × IsTrue (has_words c.item 4) × (n < 4) × Stands code q (keep_orders scope.layout c.item n) next × (l ≡ true) × Anywhere next false (λ x m. CarriesOut x m false k)
  CarriesOut q l r (SetVar c k) =
      (next : ℕ) × IsTrue (has_words c.item 4) × Stands code q (set_orders scope.layout c.line c.item) next × (l ≡ true) × Anywhere next false (λ x m. CarriesOut x m false k)
  CarriesOut q l r (Element i c k) =
      (next : ℕ) × (n : ℕ) × places.ElementAt q i c next × (suc n ≤ most_levels) × (l ≡ false) × Via code marks n next false (λ x m. CarriesOut x m false k)
  CarriesOut q l r (Turn i c k) =
      (next : ℕ) × (n : ℕ) × places.TurnAt q i c next × (suc n ≤ most_levels) × (l ≡ false) × Via code marks n next false (λ x m. CarriesOut x m false k)
  CarriesOut q l r (Bump i c k) =
      (next : ℕ) × (n : ℕ) × places.BumpAt q i c next × (suc n ≤ most_levels) × (l ≡ false) × Via code marks n next false (λ x m. CarriesOut x m false k)
  CarriesOut q l r (On c k) =
      (next : ℕ) × (n : ℕ) × places.OnAt q c next × (suc n ≤ most_levels) × (l ≡ false) × Via code marks n next false (λ x m. CarriesOut x m false k)

-- ---- bodies and calls

abbrev pub who_of : List Activation → Option ℕ
who_of [] = None
who_of (a ∷ acts) = Some a.procedure

module _ (us : List SourceUnit) (m : Map) (limits : Limits) (orders_for : SourceUnit → Orders) (places : (segment : ℕ) → SourceUnit → (who : Option ℕ) → Places) (has_words : (segment : ℕ) → SourceUnit → (who : Option ℕ) → (item words : ℕ) → Bool) where
  abbrev pub program : Program
  program = program_at us m limits

  -- in a segment, its unit, and the body of a procedure or of the segment
  abbrev pub CarriedIn : (segment : ℕ) → SourceUnit → (who : Option ℕ) → (place : ℕ) → (loaded ready : Bool) → Work → Type 0
  CarriedIn g u who q l r k =
      CarriesOut (places g u who) (orders_for u).list (orders_for u).marks (scope_of u who) (has_words g u who) q l r k

  -- what a call comes back to: the orders behind it carry out the caller's work with its operands, where the answer in the accumulator
  -- is dropped if it is not wanted. The arguments stand where they were put, and the frame is that of the source
  pub record ComesBack (s : ℕ) (a : Activation) (rest : List Activation) (o : OrderActivation) : Type 0 where
    pub unit : SourceUnit
    pub unit_is : slice_get us (segment_of s rest) ≡ Some unit
    pub callee : SourceUnit
    pub callee_is : slice_get us a.segment ≡ Some callee
    pub segment : o.segment ≡ segment_of s rest
    pub operands : o.operands ≡ a.operands
    pub entered : o.entered ≡ true
    pub base : o.frame_base ≡ a.frame_base
    pub top : o.frame_top ≡ a.frame_base + frame_size_of program a.segment a.procedure
    pub words : operand_words o.arguments ≡ argument_words (parameters_of callee (Some a.procedure))
    pub controls : (k : ℕ) (c : Control) → slice_get a.controls k ≡ Some c → argument_behind (control_place (parameters_of callee (Some a.procedure)) k) o.arguments ≡ Some (Held c)
    pub next : ℕ
    pub drops : Stands (orders_for unit).list o.place (after_call (target.Own 0) a.wanted) next
    pub carried : Via (orders_for unit).list (orders_for unit).marks most_levels next a.wanted (λ x m. CarriedIn (segment_of s rest) unit (who_of rest) x m false a.work)

  abbrev pub Calls : (s : ℕ) → List Activation → List OrderActivation → Type 0
  Calls s [] [] = Unit {0}
  Calls s (a ∷ acts) (o ∷ bs) = ComesBack s a acts o × Calls s acts bs
  Calls s _ _ = ⊥

  -- a configuration and a state of the orders that belong together: the words are the same, the code carries out the work, and each call
  -- comes back. Where a loop begins as a whole, what carries it out is known together with what follows the loop. Once the run is over
  -- both rest, and show the same
  pub data Together : Configuration → OrderState → Type 0 where
    going : {s q : ℕ} {l : Bool} {k : Work} {acts : List Activation} {bs : List OrderActivation} {w : Words} (u : SourceUnit) → slice_get us (segment_of s acts) ≡ Some u → (r : Bool) → Ready limits.area r w.operands → CarriedIn (segment_of s acts) u (who_of acts) q l r k → Calls s acts bs → Together (configuration s k acts w Running) (state (segment_of s acts) q l bs w Running)
    beginning : {s q : ℕ} {acts : List Activation} {bs : List OrderActivation} {w : Words} (u : SourceUnit) → slice_get us (segment_of s acts) ≡ Some u → (a : Ref) (c : Loop) (k : Work) (next n : ℕ) → (places (segment_of s acts) u (who_of acts)).BeginningAt q a c next → suc n ≤ most_levels
        → Via (orders_for u).list (orders_for u).marks n next false (λ x m. CarriedIn (segment_of s acts) u (who_of acts) x m false k) → Calls s acts bs → Together (configuration s (Address a c.line (KeepAt 0 c (Element 1 c k))) acts w Running) (state (segment_of s acts) q false bs w Running)
    over : {s g q : ℕ} {l : Bool} {k : Work} {acts : List Activation} {bs : List OrderActivation} {v w : Words} {e : End} → is_running (record { output = w.output; end = e }) ≡ false → v.output ≡ w.output → Together (configuration s k acts w e) (state g q l bs v e)
