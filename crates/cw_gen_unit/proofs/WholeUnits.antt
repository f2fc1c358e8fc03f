-- The orders of a unit, from those of its bodies.
use Rattle.std.proofs.Common.{◌≡◌, ℕ, zero, suc, ◌+◌, ◌<◌, ◌≤◌, List, [], ◌∷◌, ◌++◌, length, replicate, get_or, drop, None, refl, sym, ap, ap₂, ◌∙◌, arith, append_assoc, append-nil, length-append, drop-cons, add-one}
use Rattle.std.proofs.Math.Seq.{drop-append_seam}
use Rattle.std.proofs.lemmas.List.{length-replicate, drop_all}
use Rattle.cw_unit.specs.declared.unit.Unit.{Unit as SourceUnit}
use Rattle.cw_unit.specs.declared.unit.Proc.{Proc}
use Rattle.cw_unit.specs.declared.unit.Goal.{Goal}
use Rattle.cw_unit.specs.declared.unit.Def.{Def}
use Rattle.cw_unit.specs.declared.layout.Layout.{Layout}
use Rattle.cw_unit.specs.Storage.{layout_of}
use Rattle.cw_order.specs.declared.order.Order.{Order}
use Rattle.cw_order.specs.declared.order.Order.TheVariants as order
use Rattle.cw_order.specs.declared.order.Orders.{Orders}
use Rattle.cw_order.specs.declared.order.LabelMark.{LabelMark}
use Rattle.cw_gen_expr.specs.Pieces.{MarkedOrders, plain}
use Rattle.cw_gen_expr.specs.Output.{added}
use Rattle.cw_gen_expr.specs.ReferenceExpressions.{scope_with}
use Rattle.cw_gen_expr.specs.ReferenceEntries.{scope_of}
use Rattle.cw_gen_expr.specs.UnitTables.{procedure_mark, first_mark}
use Rattle.cw_gen_expr.proofs.Making.{marked, two_steps}
use Rattle.cw_gen_unit.specs.ReferenceStatements.{statement_piece}
use Rattle.cw_gen_unit.specs.ReferenceUnits.{body_piece, procedure_piece, procedures_piece, entries_of, procedure_labels, label_places, definition_places, label_marks, procedure_marks, switch_lists, shared, unit_orders}
use Rattle.cw_gen_unit.specs.LabelPlaces.{labels_placed}
use Rattle.cw_gen_unit.proofs.PlacedLabels.{placed-body}

-- ---- the segment's body

pub body-made : (u : SourceUnit) (y : Layout) (x x1 x2 : MarkedOrders) → y ≡ layout_of u → x1 ≡ added (statement_piece (scope_with u y []) None 0 u.body) x → x2 ≡ added (plain (order.NextBody ∷ [])) x1 → x2 ≡ added (body_piece u) x
body-made u y x x1 x2 laid first next =
    two_steps (statement_piece (scope_of u None) None 0 u.body) (plain (order.NextBody ∷ [])) x x1 x2
    (first ∙ ap (λ z. added (statement_piece (scope_with u z []) None 0 u.body) x) laid) next

-- ---- from a procedure to the next

module _ (u : SourceUnit) (ps : List Proc) (i : ℕ) (q : Proc) (lt : i < length ps) (here : q ≡ get_or ps i q) (xo yo : List Order) (xm ym : List ℕ) where
  split : drop i ps ≡ q ∷ drop (i + 1) ps
  split = drop-cons ps i q lt ∙ ap₂ (λ a k. a ∷ drop k ps) (sym here) (sym (add-one i))

  module _ (eo : yo ≡ xo ++ (procedure_piece u i q (length xo) (length xm)).orders) (em : ym ≡ xm ++ (procedure_piece u i q (length xo) (length xm)).marks) where
    place : length yo ≡ length xo + length (procedure_piece u i q (length xo) (length xm)).orders
    place = ap length eo ∙ length-append xo (procedure_piece u i q (length xo) (length xm)).orders

    next : length ym ≡ length xm + length (procedure_piece u i q (length xo) (length xm)).marks
    next = ap length em ∙ length-append xm (procedure_piece u i q (length xo) (length xm)).marks

    -- one of the lists of a piece, its orders or its marks
    onward : {A : Type 0} (part : MarkedOrders → List A) → ((x y : MarkedOrders) → part (marked (x.orders ++ y.orders) (x.labels ++ y.labels) (x.marks ++ y.marks)) ≡ part x ++ part y)
        → (xs ys : List A) → ys ≡ xs ++ part (procedure_piece u i q (length xo) (length xm))
        → ys ++ part (procedures_piece u (i + 1) (drop (i + 1) ps) (length yo) (length ym)) ≡ xs ++ part (procedures_piece u i (drop i ps) (length xo) (length xm))
    onward part law xs ys is =
        let p = procedure_piece u i q (length xo) (length xm) in
        let r = procedures_piece u (suc i) (drop (i + 1) ps) (length xo + length p.orders) (length xm + length p.marks) in
        ap₂ (λ a b. ys ++ part (procedures_piece u (i + 1) (drop (i + 1) ps) a b)) place next
        ∙ ap₂ (λ k l. l ++ part (procedures_piece u k (drop (i + 1) ps) (length xo + length p.orders) (length xm + length p.marks))) (add-one i) is
        ∙ append_assoc xs (part p) (part r)
        ∙ ap (λ l. xs ++ l) (sym (law p r))
        ∙ ap (λ l. xs ++ part (procedures_piece u i l (length xo) (length xm))) (sym split)

    pub next-orders : yo ++ (procedures_piece u (i + 1) (drop (i + 1) ps) (length yo) (length ym)).orders ≡ xo ++ (procedures_piece u i (drop i ps) (length xo) (length xm)).orders
    next-orders = onward (λ x. x.orders) (λ x y. refl) xo yo eo

    pub next-marks : ym ++ (procedures_piece u (i + 1) (drop (i + 1) ps) (length yo) (length ym)).marks ≡ xm ++ (procedures_piece u i (drop i ps) (length xo) (length xm)).marks
    next-marks = onward (λ x. x.marks) (λ x y. refl) xm ym em

    pub next-entries : (es : List ℕ) → (es ++ length xo ∷ []) ++ entries_of u (i + 1) (drop (i + 1) ps) (length yo) (length ym) ≡ es ++ entries_of u i (drop i ps) (length xo) (length xm)
    next-entries es =
        let p = procedure_piece u i q (length xo) (length xm) in
        append_assoc es (length xo ∷ []) (entries_of u (i + 1) (drop (i + 1) ps) (length yo) (length ym))
        ∙ ap₂ (λ a b. es ++ length xo ∷ entries_of u (i + 1) (drop (i + 1) ps) a b) place next
        ∙ ap (λ k. es ++ length xo ∷ entries_of u k (drop (i + 1) ps) (length xo + length p.orders) (length xm + length p.marks)) (add-one i)
        ∙ ap (λ l. es ++ entries_of u i l (length xo) (length xm)) (sym split)

    pub next-labels : (done : List (List (ℕ × ℕ))) → (done ++ (procedure_piece u i q (length xo) (length xm)).labels ∷ []) ++ procedure_labels u (i + 1) (drop (i + 1) ps) (length yo) (length ym) ≡ done ++ procedure_labels u i (drop i ps) (length xo) (length xm)
    next-labels done =
        let p = procedure_piece u i q (length xo) (length xm) in
        append_assoc done (p.labels ∷ []) (procedure_labels u (i + 1) (drop (i + 1) ps) (length yo) (length ym))
        ∙ ap₂ (λ a b. done ++ p.labels ∷ procedure_labels u (i + 1) (drop (i + 1) ps) a b) place next
        ∙ ap (λ k. done ++ p.labels ∷ procedure_labels u k (drop (i + 1) ps) (length xo + length p.orders) (length xm + length p.marks)) (add-one i)
        ∙ ap (λ l. done ++ procedure_labels u i l (length xo) (length xm)) (sym split)

-- none is left
module _ (u : SourceUnit) (ps : List Proc) (k a b p q : ℕ) (past : length ps ≤ k) (all : ps ≡ u.procs) where
  none : [] ≡ drop k ps
  none = sym (drop_all k ps past)

  pub last-orders : (xs zs : List Order) → xs ++ (procedures_piece u k (drop k ps) a b).orders ≡ zs ++ (procedures_piece u 0 ps p q).orders → xs ≡ zs ++ (procedures_piece u 0 u.procs p q).orders
  last-orders xs zs h =
      sym (append-nil xs) ∙ ap (λ l. xs ++ (procedures_piece u k l a b).orders) none ∙ h ∙ ap (λ l. zs ++ (procedures_piece u 0 l p q).orders) all

  pub last-marks : (xs zs : List ℕ) → xs ++ (procedures_piece u k (drop k ps) a b).marks ≡ zs ++ (procedures_piece u 0 ps p q).marks → xs ≡ zs ++ (procedures_piece u 0 u.procs p q).marks
  last-marks xs zs h =
      sym (append-nil xs) ∙ ap (λ l. xs ++ (procedures_piece u k l a b).marks) none ∙ h ∙ ap (λ l. zs ++ (procedures_piece u 0 l p q).marks) all

  pub last-entries : (xs zs : List ℕ) → xs ++ entries_of u k (drop k ps) a b ≡ zs ++ entries_of u 0 ps p q → xs ≡ zs ++ entries_of u 0 u.procs p q
  last-entries xs zs h = sym (append-nil xs) ∙ ap (λ l. xs ++ entries_of u k l a b) none ∙ h ∙ ap (λ l. zs ++ entries_of u 0 l p q) all

  pub last-labels : (done : List (List (ℕ × ℕ))) → done ++ procedure_labels u k (drop k ps) a b ≡ procedure_labels u 0 ps p q → done ≡ procedure_labels u 0 u.procs p q
  last-labels done h = sym (append-nil done) ∙ ap (λ l. done ++ procedure_labels u k l a b) none ∙ h ∙ ap (λ l. procedure_labels u 0 l p q) all

-- ---- marks of procedures

listed : (u : SourceUnit) (p i : ℕ) (ps : List Proc) → i < length ps → procedure_marks u p (drop i ps) ≡ procedure_mark u p ∷ procedure_marks u (suc p) (drop (suc i) ps)
listed u p i [] lt = absurd (omega (arith, lt))
listed u p zero (q ∷ qs) lt = refl
listed u p (suc i) (q ∷ qs) lt = listed u p i qs (let l : i < length qs = omega (arith, lt) in l)

pub next-mark : (u : SourceUnit) (i m : ℕ) (ps : List Proc) (ms : List ℕ) → i < length ps → m ≡ procedure_mark u i → (ms ++ m ∷ []) ++ procedure_marks u (i + 1) (drop (i + 1) ps) ≡ ms ++ procedure_marks u i (drop i ps)
next-mark u i m ps ms lt is =
    append_assoc ms (m ∷ []) (procedure_marks u (i + 1) (drop (i + 1) ps))
    ∙ ap₂ (λ a k. ms ++ a ∷ procedure_marks u k (drop k ps)) is (add-one i)
    ∙ ap (λ l. ms ++ l) (sym (listed u i i ps lt))

-- ---- the whole

-- its orders and marks, from those of the segment's body and of the procedures
module _ (u : SourceUnit) (f : ℕ) (o0 o1 o2 : List Order) (m0 m1 m2 : List ℕ) (ef : f ≡ first_mark u) (eo0 : o0 ≡ []) (em0 : m0 ≡ replicate f 0) (eo1 : o1 ≡ o0 ++ (body_piece u (length o0) (length m0)).orders) (em1 : m1 ≡ m0 ++ (body_piece u (length o0) (length m0)).marks) (eo2 : o2 ≡ o1 ++ (procedures_piece u 0 u.procs (length o1) (length m1)).orders) (em2 : m2 ≡ m1 ++ (procedures_piece u 0 u.procs (length o1) (length m1)).marks) where
  abbrev body : MarkedOrders
  body = body_piece u 0 (first_mark u)

  abbrev rest : MarkedOrders
  rest = procedures_piece u 0 u.procs (0 + length body.orders) (first_mark u + length body.marks)

  at : body_piece u (length o0) (length m0) ≡ body
  at = ap₂ (body_piece u) (ap length eo0) (ap length em0 ∙ length-replicate {A = ℕ} f 0 ∙ ef)

  body-orders : o1 ≡ body.orders
  body-orders = eo1 ∙ ap₂ (λ o x. o ++ x.orders) eo0 at

  body-marks : m1 ≡ replicate f 0 ++ body.marks
  body-marks = em1 ∙ ap₂ (λ m x. m ++ x.marks) em0 at

  rest-place : length o1 ≡ 0 + length body.orders
  rest-place = let none : length body.orders ≡ 0 + length body.orders = omega arith in ap length body-orders ∙ none

  rest-mark : length m1 ≡ first_mark u + length body.marks
  rest-mark = ap length body-marks ∙ length-append (replicate f 0) body.marks ∙ ap (λ k. k + length body.marks) (length-replicate {A = ℕ} f 0 ∙ ef)

  at-rest : procedures_piece u 0 u.procs (length o1) (length m1) ≡ rest
  at-rest = ap₂ (procedures_piece u 0 u.procs) rest-place rest-mark

  pub whole-list : o2 ≡ (unit_orders u).list
  whole-list = eo2 ∙ ap₂ (λ o x. o ++ x.orders) body-orders at-rest

  own-marks : drop f m2 ≡ body.marks ++ rest.marks
  own-marks =
      ap₂ drop (sym (length-replicate {A = ℕ} f 0)) (em2 ∙ ap₂ (λ m x. m ++ x.marks) body-marks at-rest ∙ append_assoc (replicate f 0) body.marks rest.marks)
      ∙ drop-append_seam (replicate f 0) (body.marks ++ rest.marks)

  module _ (z0 z1 z2 e2 ms : List ℕ) where
    pub whole-marks : z0 ≡ replicate (length u.labels) 0 → z1 ≡ labels_placed 0 u.labels None (body_piece u (length o0) (length m0)).labels z0
        → e2 ≡ entries_of u 0 u.procs (length o1) (length m1)
        → ((b : List (ℕ × ℕ)) → z1 ≡ label_places 0 u.labels b [] → z2 ≡ label_places 0 u.labels b (procedure_labels u 0 u.procs (length o1) (length m1)))
        → ms ≡ definition_places z2 e2 u.defined ++ (z2 ++ (e2 ++ drop f m2))
        → ms ≡ (unit_orders u).marks
    whole-marks ez0 ez1 ee2 hz ems =
        let es = entries_of u 0 u.procs (0 + length body.orders) (first_mark u + length body.marks) in
        let zs = label_places 0 u.labels body.labels (procedure_labels u 0 u.procs (0 + length body.orders) (first_mark u + length body.marks)) in
        let entries : e2 ≡ es = ee2 ∙ ap₂ (entries_of u 0 u.procs) rest-place rest-mark in
        let places : z2 ≡ zs = hz body.labels (ez1 ∙ ap₂ (labels_placed 0 u.labels None) (ap (λ x. x.labels) at) ez0 ∙ placed-body 0 u.labels body.labels) ∙ ap₂ (λ a c. label_places 0 u.labels body.labels (procedure_labels u 0 u.procs a c)) rest-place rest-mark in
        ems ∙ ap₂ (λ z e. definition_places z e u.defined ++ (z ++ (e ++ drop f m2))) places entries
        ∙ ap (λ t. definition_places zs es u.defined ++ (zs ++ (es ++ t))) own-marks

abbrev told : List Order → List ℕ → List LabelMark → List ℕ → List (List Goal) → List Def → Orders
told os ms ls ps ss ds = record { list = os; entry = 0; marks = ms; labels = ls; procedures = ps; switches = ss; shared = ds }

-- with the marks of its labels and procedures, its switches, and what it defines in common
pub whole : (u : SourceUnit) (os : List Order) (ms : List ℕ) (ls : List LabelMark) (ps : List ℕ) (ss : List (List Goal)) (ds : List Def) → os ≡ (unit_orders u).list → ms ≡ (unit_orders u).marks → ls ≡ label_marks u 0 u.labels → ps ≡ procedure_marks u 0 u.procs
    → ss ≡ switch_lists u.switches → ds ≡ shared u.defined → told os ms ls ps ss ds ≡ unit_orders u
whole u os ms ls ps ss ds eo em el ep es ed =
    ap₂ (λ o m. told o m ls ps ss ds) eo em ∙ ap₂ (λ l q. told (unit_orders u).list (unit_orders u).marks l q ss ds) el ep
    ∙ ap₂ (told (unit_orders u).list (unit_orders u).marks (label_marks u 0 u.labels) (procedure_marks u 0 u.procs)) es ed
