-- Orders that name families and descriptors that there are, and begin each statement with its line.
use Rattle.std.proofs.Common.{ℕ, ◌+◌, ◌≤◌, List, [], ◌∷◌, ◌++◌, length, nat_lt, Bool, true, false, IsTrue, ◌&&◌, is_some, slice_get, refl}
use Rattle.std.specs.List.{list_all}
use Rattle.cw_unit.specs.declared.layout.Family.{Family}
use Rattle.cw_order.specs.declared.order.Order.{Order}
use Rattle.cw_order.specs.declared.order.Order.TheVariants as order
use Rattle.cw_order.specs.declared.order.Place.{Place}
use Rattle.cw_order.specs.declared.order.Place.TheVariants as cell
use Rattle.cw_gen_expr.specs.Pieces.{Piece, plain, followed_by, with_end, with_labels}
use Rattle.cw_writable.proofs.Coded.Fine.{both, parts}

-- a family that there is, and an offset in it that is a word
abbrev pub is_place : List Family → (family offset : ℕ) → Bool
is_place fs f o = is_some (slice_get fs f) && (nat_lt f 65536 && nat_lt o 65536)

-- a place names a word of its family
abbrev pub is_cell : List Family → Place → Bool
is_cell fs (cell.Word f o) = is_place fs f o
is_cell fs (cell.Frame n) = true

-- an order that names what there is, and begins no statement
abbrev pub names_well : (descriptors : ℕ) → List Family → Order → Bool
names_well n fs (order.Home f o) = is_place fs f o
names_well n fs (order.Bind k f o) = is_place fs f o
names_well n fs (order.CallCommon d line) = nat_lt d n
names_well n fs (order.LabelCommon d) = nat_lt d n
names_well n fs (order.SwitchCommon d) = nat_lt d n
names_well n fs (order.ProcCommon d) = nat_lt d n
names_well n fs (order.GoCommon d) = nat_lt d n
names_well n fs (order.GoSwitchCommon d line) = nat_lt d n
names_well n fs (order.NextStep x line m) = is_cell fs x
names_well n fs (order.Start line) = false
names_well n fs _ = true

module _ (n : ℕ) (fs : List Family) where
  pub data Fit : List Order → Type 0 where
    none : Fit []
    next : (o : Order) (os : List Order) → IsTrue (names_well n fs o) → Fit os → Fit (o ∷ os)
    begun : (line : ℕ) (os : List Order) → 1 ≤ line → Fit os → Fit (order.Start line ∷ os)

pub fit-all : (n : ℕ) (fs : List Family) (os : List Order) → IsTrue (list_all (names_well n fs) os) → Fit n fs os
fit-all n fs [] h = none
fit-all n fs (o ∷ os) h = let p = parts (names_well n fs o) (list_all (names_well n fs) os) h in next o os p.0 (fit-all n fs os p.1)

pub fit-both : (n : ℕ) (fs : List Family) (xs ys : List Order) → Fit n fs xs → Fit n fs ys → Fit n fs (xs ++ ys)
fit-both n fs _ ys none k = k
fit-both n fs _ ys (next o os h r) k = next o (os ++ ys) h (fit-both n fs os ys r k)
fit-both n fs _ ys (begun line os h r) k = begun line (os ++ ys) h (fit-both n fs os ys r k)

-- ---- pieces

pub record Good (n : ℕ) (fs : List Family) (p : Piece) : Type 0 where
  pub at : (place next : ℕ) → Fit n fs (p place next).orders

pub plainly : {n : ℕ} {fs : List Family} (os : List Order) → IsTrue (list_all (names_well n fs) os) → Good n fs (plain os)
plainly {n} {fs} os h = record { at = λ place next. fit-all n fs os h }

pub both_good : {n : ℕ} {fs : List Family} {a b : Piece} → Good n fs a → Good n fs b → Good n fs (followed_by a b)
both_good {n} {fs} {a} {b} h k = record {
  at = λ place next. fit-both n fs (a place next).orders (b (place + length (a place next).orders) (next + length (a place next).marks)).orders (h.at place next) (k.at (place + length (a place next).orders) (next + length (a place next).marks));
}

pub ended_good : {n : ℕ} {fs : List Family} (body : ℕ → Piece) → ((mark : ℕ) → Good n fs (body mark)) → Good n fs (with_end body)
ended_good {n} {fs} body h = record { at = λ place next. fit-both n fs (body next place (next + 1)).orders (order.Mark ∷ []) ((h next).at place (next + 1)) (fit-all n fs (order.Mark ∷ []) refl) }

pub labels_good : {n : ℕ} {fs : List Family} (ls : List ℕ) → Good n fs (with_labels ls)
labels_good {n} {fs} ls = record { at = λ place next. fit-all n fs (order.Mark ∷ []) refl }

pub begin_good : {n : ℕ} {fs : List Family} (line : ℕ) → 1 ≤ line → Good n fs (plain (order.Start line ∷ []))
begin_good line h = record { at = λ place next. begun line [] h none }

pub passed : (n : ℕ) (fs : List Family) (xs ys : List Order) → IsTrue (list_all (names_well n fs) xs) → IsTrue (list_all (names_well n fs) ys) → IsTrue (list_all (names_well n fs) (xs ++ ys))
passed n fs [] ys h k = k
passed n fs (x ∷ xs) ys h k = let p = parts (names_well n fs x) (list_all (names_well n fs) xs) h in both (names_well n fs x) (list_all (names_well n fs) (xs ++ ys)) p.0 (passed n fs xs ys p.1 k)
