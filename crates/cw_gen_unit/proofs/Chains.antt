-- Pieces that are added one after another, as the code adds them.
use Rattle.std.proofs.Common.{◌≡◌, ℕ, ◌+◌, ◌<◌, ◌≤◌, List, [], ◌∷◌, ◌++◌, length, drop, get_or, Bool, true, false, refl, sym, ap, ap₂, ◌∙◌, append_assoc, length-append, Option}
use Rattle.std.proofs.lemmas.List.{drop_all, drop_more}
use Rattle.cw_order.specs.declared.order.Order.{Order}
use Rattle.cw_order.specs.declared.order.Order.TheVariants as order
use Rattle.cw_unit.specs.declared.layout.Layout.{Layout}
use Rattle.cw_unit.specs.declared.unit.Felem.{Felem}
use Rattle.cw_unit.specs.declared.unit.Ref.{Ref, out-Ref}
use Rattle.cw_unit.specs.declared.unit.Stmt.{Stmt, Stmt-F, roll-Stmt}
use Rattle.cw_gen_expr.specs.declared.output.Output.{Output}
use Rattle.cw_gen_expr.specs.Pieces.{MarkedOrders, Piece, plain, followed_by, with_end}
use Rattle.cw_gen_expr.specs.Output.{made, added, Adds, Reserves, Places}
use Rattle.cw_gen_expr.specs.ReferenceExpressions.{Scope, ConditionPiece, item_order, spot_piece, reference_of}
use Rattle.cw_gen_expr.proofs.Layers.{reference-made}
use Rattle.cw_gen_expr.proofs.Making.{reserved, closed, added-both, added-end, two_steps}
use Rattle.cw_gen_expr.proofs.Adding.{◌⨟◌, also, ending, Coming}
use Rattle.cw_gen_unit.specs.ReferenceStatements.{with_middle, set_orders, loop_place, parted_piece, element_piece, elements_piece, element_ways, way_mark, ring_piece, stepped_piece, statement_piece}
use Rattle.cw_gen_unit.specs.BegunLoops.{ended, IsBegun, Begins, Ends}
use Rattle.cw_gen_unit.specs.Endings.{ends_behind, list_ends, comes_to_end}
use Rattle.cw_gen_unit.proofs.Layers.{statement_layer, statement-rolled, with_ends, ending_layer, ending-rolled}
use Rattle.cw_gen_unit.specs.declared.begun.Begun.{Begun}
use Rattle.cw_gen_unit.specs.declared.begun.WayOn.TheVariants as way

-- two pieces with a mark between them
pub middle : {n : ℕ} {x x1 x2 y z : Output} (a b : ℕ → Piece) → Reserves n x x1 → Adds (a n) x1 x2 → Places n x2 y → Adds (b n) y z → Adds (with_middle a b) x z
middle {x = x} {y = y} {z = z} a b r first e second =
    let front = ending a r first e in
    record {
      held = λ h. front.held (second.held h);
      is = λ h.
          let g = second.held h in
          two_steps (with_end a) (b (length x.marks.items)) (made x) (made y) (made z) (front.is g) (second.is h ∙ ap (λ k. added (b k) (made y)) (r.next (first.held (e.held g))));
    }

-- one of two by a condition
pub chosen : {end other : ℕ} {x x1 x2 x3 x4 x5 x6 x7 x8 : Output} (c : ConditionPiece) (between : ℕ → List Order) (a b : Piece) → Reserves end x x1 → Reserves other x1 x2 → Adds (c false other) x2 x3 → Adds a x3 x4
    → Adds (plain (between end)) x4 x5 → Places other x5 x6 → Adds b x6 x7 → Places end x7 x8 → Adds (parted_piece c between a b) x x8
chosen {end = end} c between a b r1 r2 tested first jump other second last =
    let front = λ (k m : ℕ). followed_by (c false m) (followed_by a (plain (between k))) in
    ending (λ k. followed_by (with_end (front k)) b) r1 (ending (front end) r2 (tested ⨟ (first ⨟ jump)) other ⨟ second) last

-- ---- pieces of orders as they are made

abbrev step_piece : (p : Piece) (x y : MarkedOrders) → Type 0
step_piece p x y = y ≡ added p x

-- a piece with a mark for its end
closes : (p : ℕ → Piece) (n : ℕ) (x x1 x2 x3 : MarkedOrders) → n ≡ length x.marks → x1 ≡ reserved x → step_piece (p n) x1 x2 → x3 ≡ closed n x2 → step_piece (with_end p) x x3
closes p n x x1 x2 x3 e e1 a e3 =
    e3 ∙ ap (closed n) (a ∙ ap (added (p n)) e1) ∙ ap (λ k. closed k (added (p k) (reserved x))) e
    ∙ added-end p x

-- two with a mark between them
parts : (a b : ℕ → Piece) (n : ℕ) (x y z : MarkedOrders) → n ≡ length x.marks → step_piece (with_end a) x y → step_piece (b n) y z → step_piece (with_middle a b) x z
parts a b n x y z e first second = two_steps (with_end a) (b (length x.marks)) x y z first (second ∙ ap (λ k. added (b k) y) e)

-- ---- FOR

-- a loop of one STEP element, up to its body
pub stepped : {end start : ℕ} {x x1 x2 x3 x4 : Output} (s : Scope) (y : Layout) (line item : ℕ) (beginning : ℕ → Piece) → s.layout ≡ y → s.line ≡ line → Reserves end x x1 → Reserves start x1 x2 → Adds (beginning end) x2 x3 → Places start x3 x4
    → Begins y line item (stepped_piece s item beginning) (record { end = end; way = way.Step start }) x x4
stepped {end = end} {start = start} {x = x} {x1 = x1} {x2 = x2} {x3 = x3} {x4 = x4} s y line item beginning ey el r1 r2 begins last = record {
  held = λ h. r1.held (r2.held (begins.held (last.held h)));
  is = λ h body.
      let h3 = last.held h in
      let h2 = begins.held h3 in
      let h1 = r2.held h2 in
      let step = λ (z : Layout) (l j : ℕ). plain (order.NextStep (loop_place z item) l j ∷ []) in
      let second = λ (j : ℕ). followed_by body (step s.layout s.line j) in
      let m = made x in
      let m1 = made x1 in
      let m4 = made x4 in
      let m5 = added body m4 in
      let m6 = added (step y line start) m5 in
      let on : m6 ≡ added (step s.layout s.line start) m5 = ap₂ (λ z l. added (step z l start) m5) (sym ey) (sym el) in
      sym (closes (λ k. with_middle (λ j. beginning k) second) end m m1 m6 (closed end m6) (r1.next h1) (r1.is h1)
      (parts (λ j. beginning end) second start m1 m4 m6 (r2.next h2) (closes (λ j. beginning end) start m1 (made x2) (made x3) m4 (r2.next h2) (r2.is h2) (begins.is h3) (last.is h)) (two_steps body (step s.layout s.line start) m4 m5 m6 refl on))
      refl);
}

-- the elements and the tail
module _ (s : Scope) (item f : ℕ) (es : List Felem) where
  way_on : List ℕ → List Order
  way_on ways = item_order s.layout item 3 ∷ order.Load ∷ order.LoopWay ways ∷ []

  pub ringed : {end start set : ℕ} {x x1 x2 x3 x4 x5 x6 x7 x8 : Output} (ways : List ℕ) → Reserves end x x1 → Reserves start x1 x2 → Reserves set x2 x3
      → Adds (elements_piece s item f set start 1 es) x3 x4 → (x4.failed ≡ false → ways ≡ element_ways s item f set start 1 es (length x3.orders) (length x3.marks.items)) → Adds (plain (order.Jump end ∷ [])) x4 x5 → Places set x5 x6
      → Adds (plain (set_orders s.layout s.line item)) x6 x7 → Places start x7 x8 → Begins s.layout s.line item (ring_piece s item f es) (record { end = end; way = way.Ring ways }) x x8
  unfolding way_on
  ringed {end = end} {start = start} {set = set} {x = x} {x1 = x1} {x2 = x2} {x3 = x3} {x4 = x4} {x5 = x5} {x6 = x6} {x7 = x7} {x8 = x8} ways r1 r2 r3 elements ew jump p3 sets p2 =
      let tail = λ (k j i : ℕ). followed_by (elements_piece s item f i j 1 es) (plain (order.Jump k ∷ [])) in
      let first = λ (k j : ℕ). followed_by (with_end (tail k j)) (plain (set_orders s.layout s.line item)) in
      let front = ending (tail end start) r3 (elements ⨟ jump) p3 ⨟ sets in
      record {
        held = λ h. r1.held (r2.held (front.held (p2.held h)));
        is = λ h body.
            let h7 = p2.held h in
            let h4 = jump.held (p3.held (sets.held h7)) in
            let h3 = elements.held h4 in
            let h2 = r3.held h3 in
            let h1 = r2.held h2 in
            let m = made x in
            let m1 = made x1 in
            let m2 = made x2 in
            let m8 = made x8 in
            let n = length m.marks in
            let e1 = r1.is h1 in
            let e2 = r2.is h2 in
            let e3 = r3.is h3 in
            let marks1 : length m1.marks ≡ n + 1 = ap (λ z. length z.marks) e1 ∙ length-append m.marks (0 ∷ []) in
            let marks2 : length m2.marks ≡ n + 1 + 1 = ap (λ z. length z.marks) e2 ∙ length-append m1.marks (0 ∷ []) ∙ ap (λ k. k + 1) marks1 in
            let marks3 : length x3.marks.items ≡ n + 1 + 1 + 1 = ap (λ z. length z.marks) e3 ∙ length-append m2.marks (0 ∷ []) ∙ ap (λ k. k + 1) marks2 in
            let orders3 : length x3.orders ≡ length m.orders = ap (λ z. length z.orders) e3 ∙ ap (λ z. length z.orders) e2 ∙ ap (λ z. length z.orders) e1 in
            let all = element_ways s item f (n + 1 + 1) (n + 1) 1 es (length m.orders) (n + 1 + 1 + 1) in
            let same : ways ≡ all =
            ew h4 ∙ ap₂ (λ i j. element_ways s item f i j 1 es (length x3.orders) (length x3.marks.items)) (r3.next h3 ∙ marks2) (r2.next h2 ∙ marks1)
            ∙ ap₂ (element_ways s item f (n + 1 + 1) (n + 1) 1 es) orders3 marks3 in
            let m9 = added body m8 in
            let m10 = added (plain (way_on ways)) m9 in
            let second = λ (j : ℕ). followed_by body (plain (way_on all)) in
            let on = two_steps body (plain (way_on all)) m8 m9 m10 refl (ap (λ w. added (plain (way_on w)) m9) same) in
            let begun = closes (first end) start m1 m2 (made x7) m8 (r2.next h2) e2 (front.is h7) (p2.is h) in
            sym (closes (λ k. with_middle (first k) second) end m m1 m10 (closed end m10) (r1.next h1) e1 (parts (first end) second start m1 m8 m10 (r2.next h2) begun on) refl);
      }

-- behind what comes first
pub behind : {y : Layout} {line item : ℕ} {p : Piece} {x x1 x2 : Output} {b : Begun} (loop : Piece → Piece) → Adds p x x1 → Begins y line item loop b x1 x2 → Begins y line item (λ body. followed_by p (loop body)) b x x2
behind {p = p} {x = x} loop first rest = record {
  held = λ h. first.held (rest.held h);
  is = λ h body. added-both p (loop body) (made x) ∙ ap (added (loop body)) (sym (first.is (rest.held h))) ∙ rest.is h body;
}

-- with its body and its end
pub looped : {y : Layout} {line item : ℕ} {x x1 x2 x3 : Output} {b : Begun} (loop : Piece → Piece) (body : Piece) → Begins y line item loop b x x1 → Adds body x1 x2 → Ends y line item b x2 x3 → Adds (loop body) x x3
looped {y = y} {line = line} {item = item} {b = b} loop body begun inner e = record {
  held = λ h. begun.held (inner.held (e.held h));
  is = λ h. let g = e.held h in e.is h ∙ ap (ended y line item b) (inner.is g) ∙ sym (begun.is (inner.held g) body);
}

-- ---- statements

first_dropped : {A : Type 0} (xs : List A) (i : ℕ) (a : A) → i < length xs → a ≡ get_or xs i a → drop i xs ≡ a ∷ drop (i + 1) xs
first_dropped xs i a lt at = drop_more xs i a lt ∙ ap (λ v. v ∷ drop (i + 1) xs) (sym at)

module _ (s : Scope) (who : Option ℕ) (answer : ℕ) where
  -- by the first layer of a statement
  pub by_statement : {x y : Output} (t : Stmt) (z : Stmt-F Stmt) → t ≡ roll-Stmt z → Adds (statement_layer s who answer z) x y → Adds (statement_piece s who answer t) x y
  by_statement t z is h = also (λ p. p) (sym (ap (statement_piece s who answer) is ∙ statement-rolled s who answer z)) h

-- the next element of a FOR, and its way on
module _ (s : Scope) (item f set body : ℕ) (es : List Felem) (i number : ℕ) (e : Felem) (lt : i < length es) (at : e ≡ get_or es i e) (counted : number ≡ i + 1) where
  abbrev piece : ℕ → Felem → Piece
  piece = element_piece s item f set body

  abbrev pieces : ℕ → List Felem → Piece
  pieces = elements_piece s item f set body

  pub next_element : {x y z : Output} (all : Piece) → Coming all (pieces (i + 1) (drop i es)) x y → Adds (piece number e) y z → Coming all (pieces (i + 1 + 1) (drop (i + 1) es)) x z
  next_element all coming here = record {
    come = λ z rest. coming.come z (also (pieces (i + 1)) (sym (first_dropped es i e lt at)) (also (λ k. piece k e) counted here ⨟ rest));
  }

  pub next_way : (y z : Output) (ways all : List ℕ) (way : ℕ) → z.failed ≡ false → way ≡ way_mark e (length y.marks.items) → Adds (piece number e) y z
      → ways ++ element_ways s item f set body (i + 1) (drop i es) (length y.orders) (length y.marks.items) ≡ all
      → (ways ++ way ∷ []) ++ element_ways s item f set body (i + 1 + 1) (drop (i + 1) es) (length z.orders) (length z.marks.items) ≡ all
  next_way y z ways all way h is here whole =
      let p = piece (i + 1) e (length y.orders) (length y.marks.items) in
      let made_so : made z ≡ added (piece (i + 1) e) (made y) = here.is h ∙ ap (λ k. added (piece k e) (made y)) counted in
      let orders : length z.orders ≡ length y.orders + length p.orders = ap (λ v. length v.orders) made_so ∙ length-append y.orders p.orders in
      let marks : length z.marks.items ≡ length y.marks.items + length p.marks = ap (λ v. length v.marks) made_so ∙ length-append y.marks.items p.marks in
      let rest = λ (a b : ℕ). element_ways s item f set body (i + 1 + 1) (drop (i + 1) es) a b in
      append_assoc ways (way ∷ []) (rest (length z.orders) (length z.marks.items))
      ∙ ap₂ (λ a b. ways ++ way ∷ rest a b) orders marks
      ∙ ap (λ w. ways ++ w ∷ rest (length y.orders + length p.orders) (length y.marks.items + length p.marks)) is
      ∙ ap (λ l. ways ++ element_ways s item f set body (i + 1) l (length y.orders) (length y.marks.items)) (sym (first_dropped es i e lt at))
      ∙ whole

-- ---- whether a run may come to the end of a statement

-- by its first layer
pub by_ending : (t : Stmt) (y : Stmt-F Stmt) (b : Bool) → t ≡ roll-Stmt y → b ≡ ending_layer y → b ≡ comes_to_end t
by_ending t y b is h = h ∙ sym (ap comes_to_end is ∙ ending-rolled y)

-- past the next statement of a list
pub next_ending : (ss : List Stmt) (i : ℕ) (t : Stmt) (before ends behind whole : Bool) → i < length ss → t ≡ get_or ss i t → ends ≡ comes_to_end t → behind ≡ ends_behind before t ends → list_ends before (with_ends (drop i ss)) ≡ whole → list_ends behind (with_ends (drop (i + 1) ss)) ≡ whole
next_ending ss i t before ends behind whole lt at e f h =
    ap (λ b. list_ends b (with_ends (drop (i + 1) ss))) (f ∙ ap (ends_behind before t) e)
    ∙ ap (λ l. list_ends before (with_ends l)) (sym (first_dropped ss i t lt at))
    ∙ h

-- and past the last
pub last_ending : (ss ss' : List Stmt) (k : ℕ) (b : Bool) → ss' ≡ ss → length ss' ≤ k → list_ends b (with_ends (drop k ss')) ≡ list_ends true (with_ends ss') → b ≡ list_ends true (with_ends ss)
last_ending ss ss' k b e le h = ap (λ l. list_ends b (with_ends l)) (sym (drop_all k ss' le)) ∙ h ∙ ap (λ l. list_ends true (with_ends l)) e

-- the address of a reference
pub address : {x y : Output} (s : Scope) (r : Ref) → Adds (spot_piece s (out-Ref r).at) x y → Adds (reference_of s r).address x y
address s r h = also (λ v. v.address) (sym (reference-made s r)) h
