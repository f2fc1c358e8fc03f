-- Pieces whose orders have code, and whose marks and labels stand at the order that is a place of a mark.
use Rattle.std.proofs.Common.{◌≡◌, ℕ, zero, suc, ◌+◌, List, [], ◌∷◌, ◌++◌, map, length, Bool, true, false, IsTrue, ◌&&◌, Some, slice_get, refl, sym, ap, ap₂, ◌∙◌, subst, arith}
use Rattle.std.proofs.lemmas.Option.{none-some}
use Rattle.std.specs.List.{list_all}
use Rattle.cw_order.specs.declared.order.Order.{Order}
use Rattle.cw_order.specs.declared.order.Order.TheVariants as order
use Rattle.cw_gen_expr.specs.Pieces.{Piece, MarkedOrders, plain, followed_by, with_end, with_labels}
use Rattle.cw_gen_expr.specs.ReferenceExpressions.{ConditionPiece}
use Rattle.cw_gen_unit.specs.ReferenceStatements.{parted_piece}
use Rattle.cw_built.specs.Coded.{has_code, is_landing}

-- ---- tests

pub no : {A : Type 0} → IsTrue false → A
no h = absurd (cc)

pub both : (a b : Bool) → IsTrue a → IsTrue b → IsTrue (a && b)
both a b h k = ap₂ (λ x y. x && y) h k

pub parts : (a b : Bool) → IsTrue (a && b) → IsTrue a × IsTrue b
parts true true h = (h, h)
parts true false h = no h
parts false b h = no h

-- ---- orders that have code

pub passed : (xs ys : List Order) → IsTrue (list_all has_code xs) → IsTrue (list_all has_code ys) → IsTrue (list_all has_code (xs ++ ys))
passed [] ys h k = k
passed (x ∷ xs) ys h k = let p = parts (has_code x) (list_all has_code xs) h in both (has_code x) (list_all has_code (xs ++ ys)) p.0 (passed xs ys p.1 k)

-- ---- marks

-- at a place stands an order that passes a test, among orders that begin at another place
pub record Stands (test : Order → Bool) (os : List Order) (start mark : ℕ) : Type 0 where
  pub index : ℕ
  pub found : Order
  pub is : mark ≡ start + index
  pub here : slice_get os index ≡ Some found
  pub passes : IsTrue (test found)

abbrev pub AllStand : (Order → Bool) → List Order → (start : ℕ) → List ℕ → Type 0
AllStand f os start [] = Unit {0}
AllStand f os start (m ∷ ms) = Stands f os start m × AllStand f os start ms

pub get-before : {A : Type 0} (xs ys : List A) (k : ℕ) (o : A) → slice_get xs k ≡ Some o → slice_get (xs ++ ys) k ≡ Some o
get-before [] ys k o e = absurd (none-some o e)
get-before (x ∷ xs) ys zero o e = e
get-before (x ∷ xs) ys (suc k) o e = get-before xs ys k o e

pub get-behind : {A : Type 0} (xs ys : List A) (k : ℕ) → slice_get (xs ++ ys) (length xs + k) ≡ slice_get ys k
get-behind [] ys k = let e : 0 + k ≡ k = omega arith in ap (slice_get ys) e
get-behind (x ∷ xs) ys k = let e : suc (length xs) + k ≡ suc (length xs + k) = omega arith in ap (slice_get (x ∷ (xs ++ ys))) e ∙ get-behind xs ys k

module _ (f : Order → Bool) (xs ys : List Order) (start : ℕ) where
  stands-before : (m : ℕ) → Stands f xs start m → Stands f (xs ++ ys) start m
  stands-before m h = record { index = h.index; found = h.found; is = h.is; here = get-before xs ys h.index h.found h.here; passes = h.passes }

  stands-behind : (m : ℕ) → Stands f ys (start + length xs) m → Stands f (xs ++ ys) start m
  stands-behind m h =
      let k = h.index in
      let e = h.is in
      record { index = length xs + k; found = h.found; is = (let z : m ≡ start + (length xs + k) = omega (arith, e) in z); here = get-behind xs ys k ∙ h.here; passes = h.passes }

  pub all-before : (ms : List ℕ) → AllStand f xs start ms → AllStand f (xs ++ ys) start ms
  all-before [] h = tt
  all-before (m ∷ ms) h = (stands-before m h.0, all-before ms h.1)

  pub all-behind : (ms : List ℕ) → AllStand f ys (start + length xs) ms → AllStand f (xs ++ ys) start ms
  all-behind [] h = tt
  all-behind (m ∷ ms) h = (stands-behind m h.0, all-behind ms h.1)

pub all-both : (f : Order → Bool) (os : List Order) (start : ℕ) (ms ns : List ℕ) → AllStand f os start ms → AllStand f os start ns → AllStand f os start (ms ++ ns)
all-both f os start [] ns h k = k
all-both f os start (m ∷ ms) ns h k = (h.0, all-both f os start ms ns h.1 k)

-- ---- pieces

abbrev pub places : List (ℕ × ℕ) → List ℕ
places [] = []
places (l ∷ ls) = l.1 ∷ places ls

places-append : (xs ys : List (ℕ × ℕ)) → places (xs ++ ys) ≡ places xs ++ places ys
places-append [] ys = refl
places-append (x ∷ xs) ys = ap (λ l. x.1 ∷ l) (places-append xs ys)

pub record Fine (start : ℕ) (x : MarkedOrders) : Type 0 where
  pub coded : IsTrue (list_all has_code x.orders)
  pub marks : AllStand is_landing x.orders start x.marks
  pub labels : AllStand is_landing x.orders start (places x.labels)

pub record Good (p : Piece) : Type 0 where
  pub at : (place next : ℕ) → Fine place (p place next)

pub plainly : (os : List Order) → IsTrue (list_all has_code os) → Good (plain os)
plainly os h = record { at = λ place next. record { coded = h; marks = tt; labels = tt } }

fine-both : (start : ℕ) (x y : MarkedOrders) → Fine start x → Fine (start + length x.orders) y
    → Fine start (record { orders = x.orders ++ y.orders; labels = x.labels ++ y.labels; marks = x.marks ++ y.marks })
fine-both start x y h k = record {
  coded = passed x.orders y.orders h.coded k.coded;
  marks = all-both is_landing (x.orders ++ y.orders) start x.marks y.marks (all-before is_landing x.orders y.orders start x.marks h.marks) (all-behind is_landing x.orders y.orders start y.marks k.marks);
  labels =
      subst (AllStand is_landing (x.orders ++ y.orders) start) (sym (places-append x.labels y.labels))
      (all-both is_landing (x.orders ++ y.orders) start (places x.labels) (places y.labels) (all-before is_landing x.orders y.orders start (places x.labels) h.labels) (all-behind is_landing x.orders y.orders start (places y.labels) k.labels));
}

fine-ended : (start : ℕ) (x : MarkedOrders) → Fine start x → Fine start (record { orders = x.orders ++ order.Mark ∷ []; labels = x.labels; marks = (start + length x.orders) ∷ x.marks })
fine-ended start x h =
    let n : length x.orders + 0 ≡ length x.orders = omega arith in
    record {
      coded = passed x.orders (order.Mark ∷ []) h.coded refl;
      marks = (record { index = length x.orders; found = order.Mark; is = refl; here = ap (slice_get (x.orders ++ order.Mark ∷ [])) (sym n) ∙ get-behind x.orders (order.Mark ∷ []) 0; passes = refl }, all-before is_landing x.orders (order.Mark ∷ []) start x.marks h.marks);
      labels = all-before is_landing x.orders (order.Mark ∷ []) start (places x.labels) h.labels;
    }

pub both_good : {a b : Piece} → Good a → Good b → Good (followed_by a b)
both_good {a = a} {b = b} h k = record {
  at = λ place next. fine-both place (a place next) (b (place + length (a place next).orders) (next + length (a place next).marks)) (h.at place next) (k.at (place + length (a place next).orders) (next + length (a place next).marks));
}

pub ended_good : (body : ℕ → Piece) → ((mark : ℕ) → Good (body mark)) → Good (with_end body)
ended_good body h = record { at = λ place next. fine-ended place (body next place (next + 1)) ((h next).at place (next + 1)) }

-- what is kept by pieces one behind another and by a mark at their end is so of two pieces of which a condition tells one
pub parted_kept : (Kept : Piece → Type 0) → ((body : ℕ → Piece) → ((mark : ℕ) → Kept (body mark)) → Kept (with_end body)) → ((a b : Piece) → Kept a → Kept b → Kept (followed_by a b))
    → (c : ConditionPiece) (between : ℕ → List Order) (a b : Piece) → ((when : Bool) (mark : ℕ) → Kept (c when mark)) → ((end : ℕ) → Kept (plain (between end))) → Kept a → Kept b → Kept (parted_piece c between a b)
parted_kept Kept ended behind c between a b hc jumps ha hb =
    ended (λ end. followed_by (with_end (other end)) b)
    (λ end. behind (with_end (other end)) b (ended (other end) (λ mark. behind (c false mark) (followed_by a (plain (between end))) (hc false mark) (behind a (plain (between end)) ha (jumps end)))) hb)
  where
    other : (end mark : ℕ) → Piece
    other end mark = followed_by (c false mark) (followed_by a (plain (between end)))

labels-stand : (ls : List ℕ) (place : ℕ) → AllStand is_landing (order.Mark ∷ []) place (places (map (λ l. (l, place)) ls))
labels-stand [] place = tt
labels-stand (l ∷ ls) place = let e : place ≡ place + 0 = omega arith in (record { index = 0; found = order.Mark; is = e; here = refl; passes = refl }, labels-stand ls place)

pub labels_good : (ls : List ℕ) → Good (with_labels ls)
labels_good ls = record { at = λ place next. record { coded = refl; marks = tt; labels = labels-stand ls place } }
