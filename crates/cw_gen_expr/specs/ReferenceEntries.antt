-- The scope of a body, and the orders that bind the arguments of a call to the parameters of a procedure.
use Rattle.std.specs.Prelude.{ℕ, ◌+◌, ◌%◌, List, [], ◌∷◌, ◌++◌, Option, Some, None, slice_get, slice_index_or}
use Rattle.cw_unit.specs.declared.layout.Layout.{Layout}
use Rattle.cw_unit.specs.declared.layout.Family.{Family}
use Rattle.cw_unit.specs.declared.layout.Sort.{Sort}
use Rattle.cw_unit.specs.declared.layout.Sort.TheVariants as sort
use Rattle.cw_unit.specs.declared.unit.Unit.{Unit as SourceUnit}
use Rattle.cw_unit.specs.declared.unit.Proc.{Proc}
use Rattle.cw_unit.specs.declared.unit.Param.{Param}
use Rattle.cw_unit.specs.declared.unit.Param.TheVariants as param
use Rattle.cw_unit.specs.Storage.{layout_of}
use Rattle.cw_order.specs.declared.order.Order.{Order}
use Rattle.cw_order.specs.declared.order.Order.TheVariants as order
use Rattle.cw_gen_expr.specs.ReferenceExpressions.{Scope, argument_words}

-- the parameters of the procedure at work
abbrev pub parameters_in : Option Proc → List Param
parameters_in None = []
parameters_in (Some q) = q.params

abbrev pub parameters_of : SourceUnit → Option ℕ → List Param
parameters_of u None = []
parameters_of u (Some q) = parameters_in (slice_get u.procs q)

abbrev pub scope_of : SourceUnit → Option ℕ → Scope
scope_of u who = record { unit = u; layout = layout_of u; parameters = parameters_of u who; line = 0 }

-- a word argument goes to an item
abbrev pub bound_by : (argument : ℕ) → Sort → (family offset : ℕ) → Order
bound_by k (sort.Frame base) f o = order.BindFrame k ((base + o) % 65536)
bound_by k _ f o = order.Bind k f (o % 65536)

abbrev pub bound_in : (argument : ℕ) → Option Family → (family offset : ℕ) → Order
bound_in k None f o = order.Bind k f (o % 65536)
bound_in k (Some x) f o = bound_by k x.sort f o

abbrev pub bound_order : Layout → (argument item : ℕ) → Order
bound_order y k i = let home = slice_index_or y.homes i (0, 0) in bound_in k (slice_get y.families home.0) home.0 home.1

-- control arguments stay where they are
abbrev pub parameter_orders : Layout → Param → (argument : ℕ) → List Order
parameter_orders y (param.Value i s) k = bound_order y k i ∷ []
parameter_orders y (param.Location i s) k = bound_order y k i ∷ []
parameter_orders y (param.Array i s) k = bound_order y k i ∷ []
parameter_orders y (param.Table i n) k = bound_order y k i ∷ []
parameter_orders y _ k = []

abbrev pub bind_orders : Layout → List Param → List Order
bind_orders y [] = []
bind_orders y (q ∷ qs) = parameter_orders y q (argument_words qs) ++ bind_orders y qs
