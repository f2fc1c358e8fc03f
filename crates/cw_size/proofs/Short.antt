-- Pieces whose orders have few bytes, wherever they stand.
use Rattle.std.proofs.Common.{ℕ, zero, suc, ◌+◌, ◌≤◌, List, [], ◌∷◌, ◌++◌, length, Option, Some, None, refl, ◌≡◌, arith}
use Rattle.cw_order.specs.declared.order.Order.{Order}
use Rattle.cw_order.specs.declared.order.Order.TheVariants as order
use Rattle.cw_gen_expr.specs.Pieces.{Piece, plain, followed_by, with_end, with_labels}
use Rattle.cw_tmpl.specs.Sizes.{number_size, listed_size, size_in_list, owed, size_behind, sizes_behind, listed_sizes}

-- an order takes no more behind others than what these owe
behind-within : (second first : Option Order) (o : Order) → size_behind second first o ≤ owed first + size_in_list o
behind-within second (Some (order.Home f n)) order.Load = omega arith
behind-within second (Some (order.FrameHome n)) order.Load = omega arith
behind-within (Some order.Save) (Some (order.Home f n)) order.Store = omega arith
behind-within (Some order.Save) (Some (order.FrameHome n)) order.Store = omega arith
behind-within second first o = omega arith

second-within : (second : Option Order) (x o : Order) → size_behind second (Some x) o ≤ size_behind None (Some x) o
second-within second (order.Home f n) order.Load = omega arith
second-within second (order.FrameHome n) order.Load = omega arith
second-within (Some order.Save) (order.Home f n) order.Store = omega arith
second-within (Some order.Save) (order.FrameHome n) order.Store = omega arith
second-within second x o = omega arith

seconds-within : (second : Option Order) (x : Order) (os : List Order) → sizes_behind second (Some x) os ≤ sizes_behind None (Some x) os
seconds-within second x [] = omega arith
seconds-within second x (o ∷ os) =
    let h = second-within second x o in
    let z : size_behind second (Some x) o + sizes_behind (Some x) (Some o) os ≤ size_behind None (Some x) o + sizes_behind (Some x) (Some o) os = omega (arith, h) in
    z

pub all-behind : (second first : Option Order) (os : List Order) → sizes_behind second first os ≤ owed first + listed_sizes os
all-behind second first [] = omega arith
all-behind second first (o ∷ os) =
    let h = behind-within second first o in
    let k = seconds-within first o os in
    let z : size_behind second first o + sizes_behind first (Some o) os ≤ owed first + (0 + size_in_list o + sizes_behind None (Some o) os) = omega (arith, h, k) in
    z

append-behind : (second first : Option Order) (xs ys : List Order) → sizes_behind second first (xs ++ ys) ≤ sizes_behind second first xs + listed_sizes ys
append-behind second first [] ys =
    all-behind second first ys
append-behind second first (x ∷ xs) ys =
    let h = append-behind first (Some x) xs ys in
    let z : size_behind second first x + sizes_behind first (Some x) (xs ++ ys) ≤ size_behind second first x + sizes_behind first (Some x) xs + listed_sizes ys = omega (arith, h) in
    z

pub sizes-append : (xs ys : List Order) → listed_sizes (xs ++ ys) ≤ listed_sizes xs + listed_sizes ys
sizes-append = append-behind None None

-- an order alone has what it has in a list and what it owes
whole-size : (o : Order) → size_in_list o + owed (Some o) ≡ listed_size o
whole-size (order.FrameHome n) = refl
whole-size o = omega arith

-- an order, and orders behind it
pub first_short : (o : Order) (os : List Order) (m n : ℕ) → listed_size o ≤ m → listed_sizes os ≤ n → listed_sizes (o ∷ os) ≤ m + n
first_short o os m n h k =
    let behind = all-behind None (Some o) os in
    let alone = whole-size o in
    let z : 0 + size_in_list o + sizes_behind None (Some o) os ≤ m + n = omega (arith, h, k, behind, alone) in
    z

-- a number in AX
pub word_short : (w : ℕ) → number_size w ≤ 3
word_short zero = omega arith
word_short (suc w) = omega arith

pub one_short : (o : Order) (most : ℕ) → listed_size o ≤ most → listed_sizes (o ∷ []) ≤ most
one_short o most h = let alone = whole-size o in let z : 0 + size_in_list o + owed (Some o) ≤ most = omega (arith, h, alone) in z

-- the orders have at most so many bytes, even with some to spare
pub record Short (p : Piece) (spare most : ℕ) : Type 0 where
  pub at : (place next : ℕ) → listed_sizes (p place next).orders + spare ≤ most

pub plainly : (os : List Order) (most : ℕ) → listed_sizes os ≤ most → Short (plain os) 0 most
plainly os most h = record { at = λ place next. (let z : listed_sizes os + 0 ≤ most = omega (arith, h) in z) }

pub both_short : {a b : Piece} {k l m n : ℕ} → Short a k m → Short b l n → Short (followed_by a b) (k + l) (m + n)
both_short {a = a} {b = b} {k = k} {l = l} {m = m} {n = n} h g = record {
  at = λ place next.
      (let x = a place next in
      let y = b (place + length x.orders) (next + length x.marks) in
      let all = sizes-append x.orders y.orders in
      let first = h.at place next in
      let second = g.at (place + length x.orders) (next + length x.marks) in
      let z : listed_sizes (x.orders ++ y.orders) + (k + l) ≤ m + n = omega (arith, all, first, second) in z);
}

pub ended_short : {k m : ℕ} (body : ℕ → Piece) → ((mark : ℕ) → Short (body mark) k m) → Short (with_end body) k m
ended_short {k = k} {m = m} body h = record {
  at = λ place next.
      (let x = body next place (next + 1) in
      let all = sizes-append x.orders (order.Mark ∷ []) in
      let first = (h next).at place (next + 1) in
      let z : listed_sizes (x.orders ++ order.Mark ∷ []) + k ≤ m = omega (arith, all, first) in z);
}

pub labels_short : (ls : List ℕ) → Short (with_labels ls) 0 0
labels_short ls = record { at = λ place next. (let z : 0 + 0 + 0 ≤ 0 = omega arith in z) }

-- more bytes, or fewer to spare
pub eased : {p : Piece} {k l m n : ℕ} → Short p k m → m + l ≤ n + k → Short p l n
eased {p = p} {k = k} {l = l} {m = m} {n = n} h le = record {
  at = λ place next. (let first = h.at place next in let z : listed_sizes (p place next).orders + l ≤ n = omega (arith, first, le) in z);
}
