-- Pieces of orders, with the places of the labels and marks in them.
use Rattle.std.specs.Prelude.{ℕ, ◌+◌, List, [], ◌∷◌, ◌++◌, map, length}
use Rattle.cw_order.specs.declared.order.Order.{Order}
use Rattle.cw_order.specs.declared.order.Order.TheVariants as order

-- orders, with the place of each label that stands among them, and the places of the marks that they add
pub record MarkedOrders : Type 0 where
  pub orders : List Order
  pub labels : List (ℕ × ℕ)
  pub marks : List ℕ

-- the orders from a place on, where the next mark that is added has this number
abbrev pub Piece : Type 0
Piece = (place next : ℕ) → MarkedOrders

abbrev pub plain : List Order → Piece
plain os place next = record { orders = os; labels = []; marks = [] }

abbrev pub followed_by : Piece → Piece → Piece
followed_by a b place next =
    let x = a place next in
    let y = b (place + length x.orders) (next + length x.marks) in
    record { orders = x.orders ++ y.orders; labels = x.labels ++ y.labels; marks = x.marks ++ y.marks }

abbrev pub sequence : List Piece → Piece
sequence [] = plain []
sequence (p ∷ ps) = followed_by p (sequence ps)

-- orders that may jump to their end: they get the mark that is placed there
abbrev pub with_end : (ℕ → Piece) → Piece
with_end body place next =
    let x = body next place (next + 1) in
    record { orders = x.orders ++ order.Mark ∷ []; labels = x.labels; marks = (place + length x.orders) ∷ x.marks }

-- the place of labels
abbrev pub with_labels : List ℕ → Piece
with_labels ls place next = record { orders = order.Mark ∷ []; labels = map (λ l. (l, place)) ls; marks = [] }
