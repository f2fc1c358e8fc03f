-- The items of a list that is seldom long.
use Rattle.std.specs.Prelude.{List, [], Option, None, Some}

abbrev pub items_of : {A : Type 0} → Option (List A) → List A
items_of None = []
items_of (Some items) = items
