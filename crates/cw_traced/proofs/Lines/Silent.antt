-- Lists of orders that begin no statement.
use Rattle.std.proofs.Common.{◌≡◌, ℕ, ◌+◌, ◌==◌, if◌then◌else◌, ℤ, pos, negsuc, zero, suc, List, [], ◌∷◌, ◌++◌, Bool, true, false, Option, Some, None, slice_get, slice_index_or, refl, ap₂, ◌∙◌}
use Rattle.cw_order.specs.declared.order.Order.{Order}
use Rattle.cw_order.specs.declared.order.Order.TheVariants as order
use Rattle.cw_order.specs.declared.order.Comparator.TheVariants as comparator
use Rattle.cw_word.specs.Word.{unsigned}
use Rattle.cw_unit.specs.Operation.{is_past}
use Rattle.cw_unit.specs.declared.layout.Layout.{Layout}
use Rattle.cw_unit.specs.declared.layout.Family.{Family}
use Rattle.cw_unit.specs.declared.layout.Sort.{Sort}
use Rattle.cw_unit.specs.declared.layout.Sort.TheVariants as sort
use Rattle.cw_unit.specs.declared.unit.Unit.{Unit as SourceUnit}
use Rattle.cw_unit.specs.declared.unit.Field.{Field}
use Rattle.cw_unit.specs.declared.unit.Label.{Label}
use Rattle.cw_unit.specs.declared.unit.LogicOp.{LogicOp}
use Rattle.cw_unit.specs.declared.unit.LogicOp.TheVariants as logic
use Rattle.cw_unit.specs.declared.unit.Param.{Param}
use Rattle.cw_unit.specs.declared.unit.Param.TheVariants as param
use Rattle.cw_unit.specs.declared.unit.Target.{Target}
use Rattle.cw_unit.specs.declared.unit.Target.TheVariants as target
use Rattle.cw_unit.specs.declared.unit.Goal.{Goal}
use Rattle.cw_unit.specs.declared.unit.Goal.TheVariants as goal
use Rattle.cw_gen_expr.specs.ReferenceExpressions.{Scope, argument_words, placed_by, placed_in, item_order, table_orders, bounds_orders, load_orders, store_orders, rescale_orders, logic_order, number_order, call_order, label_order}
use Rattle.cw_gen_expr.specs.ReferenceEntries.{bound_by, bound_in, bound_order, parameter_orders, bind_orders}
use Rattle.cw_gen_expr.specs.UnitTables.{label_mark}
use Rattle.cw_gen_unit.specs.declared.simple.Simple.{Simple}
use Rattle.cw_gen_unit.specs.declared.simple.Simple.TheVariants as simple
use Rattle.cw_gen_unit.specs.declared.simple.SimpleStep.{SimpleStep}
use Rattle.cw_gen_unit.specs.ReferenceStatements.{after_statement_call, from_procedure, own_order, goal_order, keep_orders, number_orders, value_orders, past_orders, turn_orders, simple_orders, simple_beginning}
use Rattle.cw_traced.proofs.Lines.Starting.{begun_by, begun_in, begun-append}

-- two lists that begin none
nothing : {a b : List ℕ} → a ≡ [] → b ≡ [] → a ++ b ≡ []
nothing x y = ap₂ (λ l m. l ++ m) x y

pub none-both : (xs ys : List Order) → begun_in xs ≡ [] → begun_in ys ≡ [] → begun_in (xs ++ ys) ≡ []
none-both xs ys h k = begun-append xs ys ∙ nothing h k

pub none-first : (o : Order) (os : List Order) → begun_by o ≡ [] → begun_in os ≡ [] → begun_in (o ∷ os) ≡ []
none-first o os h k = nothing h k

-- ---- items

item-silent : (y : Layout) (i n : ℕ) → begun_by (item_order y i n) ≡ []
item-silent y i n = at_family (slice_get y.families (slice_index_or y.homes i (0, 0)).0) (slice_index_or y.homes i (0, 0)).0 ((slice_index_or y.homes i (0, 0)).1 + n)
  where
    at_sort : (k : Sort) (f o : ℕ) → begun_by (placed_by k f o) ≡ []
    at_sort (sort.Frame base) f o = refl
    at_sort (sort.Common d) f o = refl
    at_sort sort.Own f o = refl
    at_sort (sort.Absolute a) f o = refl

    at_family : (x : Option Family) (f o : ℕ) → begun_by (placed_in x f o) ≡ []
    at_family None f o = refl
    at_family (Some x) f o = at_sort x.sort f o

pub item-first : (y : Layout) (i n : ℕ) (os : List Order) → begun_in os ≡ [] → begun_in (item_order y i n ∷ os) ≡ []
item-first y i n os h = nothing (item-silent y i n) h

-- one order behind the address of a table
pub table-silent : (y : Layout) (t : Bool) (i : ℕ) (o : Order) → begun_by o ≡ [] → begun_in (table_orders y t i ++ o ∷ []) ≡ []
table-silent y true i o h = item-first y i 0 (order.Load ∷ o ∷ []) (none-first o [] h refl)
table-silent y false i o h = item-first y i 0 (o ∷ []) (none-first o [] h refl)

-- ---- expressions

pub bounds-silent : (compared : Bool) (line : ℕ) (l u : ℤ) → begun_in (bounds_orders compared line l u) ≡ []
bounds-silent true line l u = refl
bounds-silent false line l u = refl

pub load-silent : (o : Option Field) → begun_in (load_orders o) ≡ []
load-silent None = refl
load-silent (Some f) = refl

pub store-silent : (o : Option Field) → begun_in (store_orders o) ≡ []
store-silent None = refl
store-silent (Some f) = refl

pub rescale-silent : (line from to : ℕ) → begun_in (rescale_orders line from to) ≡ []
rescale-silent line from to = by (from == to)
  where
    by : (b : Bool) → begun_in (if b then [] else (order.Rescale from to line ∷ [])) ≡ []
    by true = refl
    by false = refl

pub logic-silent : (op : LogicOp) → begun_by (logic_order op) ≡ []
logic-silent logic.Mask = refl
logic-silent logic.Union = refl
logic-silent logic.Differ = refl

pub call-silent : (s : Scope) (t : Target) → begun_by (call_order s t) ≡ []
call-silent s (target.Own q) = refl
call-silent s _ = refl

pub label-silent : (s : Scope) (g : Goal) → begun_by (label_order s g) ≡ []
label-silent s (goal.Own l) = refl
label-silent s (goal.Common d) = refl

-- ---- statements

pub after-silent : (t : Target) → begun_in (after_statement_call t) ≡ []
after-silent (target.Own q) = refl
after-silent _ = refl

pub goal-silent : (u : SourceUnit) (who : Option ℕ) (g : Goal) → begun_by (goal_order u who g) ≡ []
goal-silent u who (goal.Own l) = by_owner who (slice_get u.labels l)
  where
    by_procedure : (q : Option ℕ) → begun_by (elim q [ None ↦ order.GoMain (label_mark u l) | Some p ↦ order.Jump (label_mark u l) ]) ≡ []
    by_procedure None = refl
    by_procedure (Some p) = refl

    from : (x : Option Label) → begun_by (from_procedure x (label_mark u l)) ≡ []
    from None = refl
    from (Some x) = by_procedure x.proc

    by_owner : (w : Option ℕ) (x : Option Label) → begun_by (own_order w x (label_mark u l)) ≡ []
    by_owner None x = refl
    by_owner (Some q) x = from x
goal-silent u who (goal.Common d) = refl

-- ---- a FOR that begins without the library

value-silent : (y : Layout) (a : Simple) → begun_in (value_orders y a) ≡ []
value-silent y (simple.Number z) = refl
value-silent y (simple.Item i) = item-first y i 0 (order.Load ∷ []) refl

past-silent : (y : Layout) (item j : ℕ) (step : ℤ) (end : ℕ) → begun_in (past_orders y item j step end) ≡ []
past-silent y item j (pos zero) end = refl
past-silent y item j (pos (suc n)) end =
    let last : List Order = order.Load ∷ order.JumpIf comparator.Greater end ∷ [] in
    item-first y j 0 (order.Load ∷ order.Save ∷ item_order y item 2 ∷ last) (item-first y item 2 last refl)
past-silent y item j (negsuc n) end =
    let last : List Order = order.Load ∷ order.JumpIf comparator.Less end ∷ [] in
    item-first y j 0 (order.Load ∷ order.Save ∷ item_order y item 2 ∷ last) (item-first y item 2 last refl)

turn-silent : (y : Layout) (item j : ℕ) (a : Simple) (step : ℤ) (d : Simple) (end : ℕ) → begun_in (turn_orders y item j a step d end) ≡ []
turn-silent y item j (simple.Number a) s (simple.Number d) end = picked (is_past s a d)
  where
    picked : (b : Bool) → begun_in (if b then (order.Jump end ∷ []) else []) ≡ []
    picked true = refl
    picked false = refl
turn-silent y item j (simple.Number a) s (simple.Item i) end = past-silent y item j s end
turn-silent y item j (simple.Item i) s d end = past-silent y item j s end

pub beginning-silent : (y : Layout) (item : ℕ) (x : SimpleStep) (end : ℕ) → begun_in (simple_beginning y item x end) ≡ []
beginning-silent y item x end =
    let limit : List Order = value_orders y x.limit ++ keep_orders y item 2 in
    let step : List Order = keep_orders y item 1 ++ limit in
    let variable : List Order = keep_orders y x.variable 0 ++ number_order (unsigned x.step) ∷ step in
    let value : List Order = value_orders y x.first ++ variable in
    none-both (simple_orders y item x) (turn_orders y item x.variable x.first x.step x.limit end)
    (item-first y x.variable 0 (keep_orders y item 0 ++ (number_orders y item 1 ++ value))
    (item-first y item 0 (order.Store ∷ (number_orders y item 1 ++ value))
    (item-first y item 3 (order.Store ∷ value)
    (none-both (value_orders y x.first) variable (value-silent y x.first)
    (item-first y x.variable 0 (order.Store ∷ number_order (unsigned x.step) ∷ step)
    (item-first y item 1 (order.Store ∷ limit) (none-both (value_orders y x.limit) (keep_orders y item 2) (value-silent y x.limit) (item-first y item 2 (order.Store ∷ []) refl))))))))
    (turn-silent y item x.variable x.first x.step x.limit end)

-- ---- entries of procedures

bound-silent : (y : Layout) (k i : ℕ) → begun_by (bound_order y k i) ≡ []
bound-silent y k i = at_family (slice_get y.families (slice_index_or y.homes i (0, 0)).0) (slice_index_or y.homes i (0, 0)).0 (slice_index_or y.homes i (0, 0)).1
  where
    at_sort : (x : Sort) (f o : ℕ) → begun_by (bound_by k x f o) ≡ []
    at_sort (sort.Frame base) f o = refl
    at_sort (sort.Common d) f o = refl
    at_sort sort.Own f o = refl
    at_sort (sort.Absolute a) f o = refl

    at_family : (x : Option Family) (f o : ℕ) → begun_by (bound_in k x f o) ≡ []
    at_family None f o = refl
    at_family (Some x) f o = at_sort x.sort f o

parameter-silent : (y : Layout) (q : Param) (k : ℕ) → begun_in (parameter_orders y q k) ≡ []
parameter-silent y (param.Value i s) k = nothing (bound-silent y k i) refl
parameter-silent y (param.Location i s) k = nothing (bound-silent y k i) refl
parameter-silent y (param.Array i s) k = nothing (bound-silent y k i) refl
parameter-silent y (param.Table i n) k = nothing (bound-silent y k i) refl
parameter-silent y (param.Label m) k = refl
parameter-silent y (param.Switch m) k = refl
parameter-silent y (param.Proc m s) k = refl

pub bind-silent : (y : Layout) (qs : List Param) → begun_in (bind_orders y qs) ≡ []
bind-silent y [] = refl
bind-silent y (q ∷ qs) = none-both (parameter_orders y q (argument_words qs)) (bind_orders y qs) (parameter-silent y q (argument_words qs)) (bind-silent y qs)
