-- The statements that the processor begins in the image of a program of orders.
use Rattle.std.specs.Prelude.{◌≡◌, ◌⊎◌, ℕ, suc, ◌+◌, ◌<◌, ◌≤◌, ℤ, List, [], ◌∷◌, ◌++◌, length, drop, map, Some, slice_get, slice_index}
use Rattle.cw_i86.specs.MachineRun.{End, Running}
use Rattle.cw_image.specs.Begun.{StatementPlace, lines_at, beginning}
use Rattle.cw_run86.specs.Processor.{Processor}
use Rattle.cw_order.specs.declared.order.Order.{Order}
use Rattle.cw_order.specs.declared.order.Order.TheVariants as order
use Rattle.cw_order.specs.declared.order.Orders.{Orders}
use Rattle.cw_order.specs.OrderProgram.{OrderProgram}
use Rattle.cw_tmpl.specs.Library.{library_bytes}
use Rattle.cw_tmpl.specs.Blocks.{block_at, left_at}
use Rattle.cw_tmpl.specs.Templates.{block_size}
use Rattle.cw_tmpl.specs.ShortForms.{is_short}
use Rattle.cw_tmpl.specs.ReferenceCode.{entry_size, order_places, landings_place, orders_code, reach_of}
use Rattle.cw_follow.specs.Placing.{base_of}

-- at a processor that has halted, nothing begins
abbrev pub at_work : End → List (ℕ × ℕ × List ℤ) → List (ℕ × ℕ × List ℤ)
at_work Running begun = begun
at_work _ begun = []

abbrev pub passes : List StatementPlace → (area : ℕ) → Processor → List (ℕ × ℕ × List ℤ)
passes places area p = at_work p.end (beginning places area p.state)

-- the places of a segment's code, moved to where it begins
abbrev pub moved_places : (base number : ℕ) → List (ℕ × ℕ) → List StatementPlace
moved_places base n statements = map (λ x. record { place = base + x.0; segment = n; line = x.1 }) statements

module _ (p : OrderProgram) where
  abbrev pub places_from : (segment : ℕ) → List Orders → List StatementPlace
  places_from g [] = []
  places_from g (o ∷ os) = moved_places (base_of p g) (g + 1) (orders_code o).statements ++ places_from (g + 1) os

  -- those of all segments
  abbrev pub statement_places : List StatementPlace
  statement_places = places_from 0 p.units

-- the order before a place of a list is no Start
abbrev pub NotBehindStart : List Order → (place : ℕ) → Type 0
NotBehindStart list place = (j line : ℕ) → place ≡ suc j → slice_get list j ≡ Some (order.Start line) → ⊥

-- the bytes of the code that begins with the order at a place of a list
abbrev pub size_at : Orders → (place : ℕ) → Order → ℕ
size_at o k it =
    let b = block_at (left_at 0 o.list k) (drop k o.list) in
    block_size (is_short (reach_of o) k b it) b it

-- The list of places is one of the image. A Start has no code, and its statement begins where the code of the next order does; none begins
-- at the code of another order, strictly inside the code of a block, outside the code of the orders of a segment, and in the library.
pub record PlacesStand (p : OrderProgram) (image : List ℕ) (places : List StatementPlace) : Type 0 where
  pub starts : (g k line : ℕ) (o : Orders) → slice_get p.units g ≡ Some o
      → slice_get o.list k ≡ Some (order.Start line)
      → lines_at places (base_of p g + slice_index (order_places o) (suc k)) ≡ (g + 1, line) ∷ []
  pub others : (g k : ℕ) (o : Orders) (a : Order) → slice_get p.units g ≡ Some o → slice_get o.list k ≡ Some a
      → 0 < size_at o k a → NotBehindStart o.list k
      → lines_at places (base_of p g + slice_index (order_places o) k) ≡ []
  pub inside : (g k n : ℕ) (o : Orders) (a : Order) → slice_get p.units g ≡ Some o → slice_get o.list k ≡ Some a
      → 0 < n → n < size_at o k a → lines_at places (base_of p g + slice_index (order_places o) k + n) ≡ []
  pub around : (g at : ℕ) (o : Orders) → slice_get p.units g ≡ Some o → base_of p g ≤ at → at < base_of p (suc g)
      → (at < base_of p g + entry_size) ⊎ (base_of p g + landings_place o ≤ at) → lines_at places at ≡ []
  pub library : (place : ℕ) → place < length library_bytes → lines_at places place ≡ []
