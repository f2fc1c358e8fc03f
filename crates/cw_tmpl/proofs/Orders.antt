-- What is told of the order at a place of a list, if one is there.
use Rattle.std.proofs.Common.{◌≡◌, ℕ, ◌<◌, ◌≤◌, List, Option, Some, None, length, get_or, sym, ap, ◌∙◌}
use Rattle.std.proofs.lemmas.Option.{slice_get-get_or, slice_get_past}
use Rattle.std.specs.Prelude.{slice_get}
use Rattle.cw_order.specs.declared.order.Order.{Order}

pub order_there : {A : Type 0} (f : Option Order → A) (os : List Order) (k : ℕ) (o : Order) → k < length os → o ≡ get_or os k o → f (Some o) ≡ f (slice_get os k)
order_there f os k o lt is = ap f (ap Some is ∙ sym (slice_get-get_or os k o lt))

pub none_there : {A : Type 0} (f : Option Order → A) (os : List Order) (k : ℕ) → length os ≤ k → f None ≡ f (slice_get os k)
none_there f os k past = ap f (sym (slice_get_past os k past))
