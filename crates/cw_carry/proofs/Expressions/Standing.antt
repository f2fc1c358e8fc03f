-- Lists that stand in the code and in the table of marks, and pieces of orders that stand in both.
use Rattle.std.proofs.Common.{◌≡◌, ℕ, zero, suc, ◌+◌, List, [], ◌∷◌, ◌++◌, length, false, Some, refl, sym, ap, ◌∙◌, subst, arith}
use Rattle.std.specs.Prelude.{slice_get}
use Rattle.std.proofs.lemmas.Option.{none-some}
use Rattle.cw_order.specs.declared.order.Order.{Order}
use Rattle.cw_order.specs.declared.order.Order.TheVariants as order
use Rattle.cw_gen_expr.specs.Pieces.{MarkedOrders, Piece, plain, followed_by, with_end}
use Rattle.cw_gen_expr.specs.ReferenceExpressions.{ConditionPiece, saved, two_values}
use Rattle.cw_gen_unit.specs.ReferenceStatements.{parted_piece}

-- a list stands in another from one place to the next one given. No length is named, so that a list is taken apart with the middle
-- place as it comes
abbrev pub Stands : {A : Type 0} → List A → ℕ → List A → ℕ → Type 0
Stands code q [] r = q ≡ r
Stands code q (o ∷ os) r = (slice_get code q ≡ Some o) × Stands code (q + 1) os r

module _ {A : Type 0} where
  pub parted : (code : List A) (q : ℕ) (a b : List A) (r : ℕ) → Stands code q (a ++ b) r → (x : ℕ) × Stands code q a x × Stands code x b r
  parted code q [] b r h = (q, refl, h)
  parted code q (o ∷ a) b r h = let rest = parted code (q + 1) a b r h.1 in (rest.0, (h.0, rest.1), rest.2)

  -- with one more item before all of the list
  moved : (o : A) (code : List A) (q : ℕ) (os : List A) (r : ℕ) → Stands code q os r → Stands (o ∷ code) (suc q) os (suc r)
  moved o code q [] r h = ap suc h
  moved o code q (x ∷ os) r h =
      let e : suc (q + 1) ≡ suc q + 1 = omega arith in
      (h.0, subst (λ n. Stands (o ∷ code) n os (suc r)) e (moved o code (q + 1) os r h.1))

  -- all of a list
  pub placed : (code : List A) → (end : ℕ) × Stands code 0 code end
  placed [] = (0, refl)
  placed (o ∷ code) = let rest = placed code in let e : 1 ≡ 0 + 1 = refl in (suc rest.0, (refl, moved o code 0 code rest.0 rest.1))

  pub placed_after : (front code : List A) → (end : ℕ) × Stands (front ++ code) (length front) code end
  placed_after [] code = placed code
  placed_after (o ∷ front) code = let rest = placed_after front code in (suc rest.0, moved o (front ++ code) (length front) code rest.0 rest.1)

  -- where it ends
  pub ends_at : (code : List A) (q : ℕ) (os : List A) (r : ℕ) → Stands code q os r → q + length os ≡ r
  ends_at code q [] r h = (let e : q + 0 ≡ q = omega arith in e) ∙ h
  ends_at code q (o ∷ os) r h = omega (arith, ends_at code (q + 1) os r h.1)

  -- an item behind others
  pub behind : (front code : List A) (i : ℕ) → slice_get (front ++ code) (length front + i) ≡ slice_get code i
  behind [] code i = let e : 0 + i ≡ i = omega arith in ap (slice_get code) e
  behind (o ∷ front) code i =
      let e : suc (length front) + i ≡ suc (length front + i) = omega arith in ap (slice_get (o ∷ (front ++ code))) e ∙ behind front code i

  pub before : (front code : List A) (i : ℕ) (x : A) → slice_get front i ≡ Some x → slice_get (front ++ code) i ≡ Some x
  before [] code i x h = absurd (none-some x h)
  before (o ∷ front) code zero x h = h
  before (o ∷ front) code (suc i) x h = before front code i x h

-- ---- pieces

module _ (code : List Order) (marks : List ℕ) where
  -- the orders stand in the code, and the places of the marks that they add in the table
  abbrev pub Made : MarkedOrders → (q next free last : ℕ) → Type 0
  Made m q next free last = Stands code q m.orders next × Stands marks free m.marks last

  pub both_made : (a b : Piece) (q next free last : ℕ) → Made (followed_by a b q free) q next free last → (x : ℕ) × (y : ℕ) × Made (a q free) q x free y × Made (b x y) x next y last × ((followed_by a b q free).labels ≡ (a q free).labels ++ (b x y).labels)
  both_made a b q next free last (o, k) =
      let m = a q free in
      let n = b (q + length m.orders) (free + length m.marks) in
      let os = parted code q m.orders n.orders next o in
      let ks = parted marks free m.marks n.marks last k in
      let x = ends_at code q m.orders os.0 os.1 in
      let y = ends_at marks free m.marks ks.0 ks.1 in (
        os.0,
        ks.0,
        (os.1, ks.1),
        subst (λ i. Made (b i ks.0) os.0 next ks.0 last) x (subst (λ j. Made (b (q + length m.orders) j) os.0 next ks.0 last) y (os.2, ks.2)),
        ap (λ i. m.labels ++ (b i (free + length m.marks)).labels) x ∙ ap (λ j. m.labels ++ (b os.0 j).labels) y,
      )

  pub end_made : (body : ℕ → Piece) (q next free last : ℕ) → Made (with_end body q free) q next free last → (x : ℕ) × Made (body free q (free + 1)) q x (free + 1) last × (slice_get code x ≡ Some order.Mark) × (x + 1 ≡ next) × (slice_get marks free ≡ Some x)
  end_made body q next free last (o, k) =
      let m = body free q (free + 1) in
      let os = parted code q m.orders (order.Mark ∷ []) next o in
      (os.0, (os.1, k.1), os.2.0, os.2.1, k.0 ∙ ap (λ n. Some n) (ends_at code q m.orders os.0 os.1))

  -- two pieces with a Save between them
  pub saved_made : (a b : Piece) (q next free last : ℕ) → Made (followed_by a (followed_by saved b) q free) q next free last → (x : ℕ) × (m : ℕ) × Made (a q free) q x free m × (slice_get code x ≡ Some order.Save) × Made (b (x + 1) m) (x + 1) next m last
  saved_made a b q next free last made =
      let first = both_made a (followed_by saved b) q next free last made in
      let save = both_made saved b first.0 next first.1 last first.3 in
      (first.0, first.1, first.2, save.2.0.0, subst (λ i. Made (b i first.1) i next first.1 last) (sym save.2.0.1) (subst (λ j. Made (b save.0 j) save.0 next j last) (sym save.2.1) save.3))

  -- two values, the first one saved, and the orders that take them
  pub two_made : (a b : Piece) (os : List Order) (q next free last : ℕ) → Made (two_values a b os q free) q next free last → (x : ℕ) × (m : ℕ) × (y : ℕ) × (n : ℕ) × Made (a q free) q x free m × (slice_get code x ≡ Some order.Save) × Made (b (x + 1) m) (x + 1) y m n × Stands code y os next
  two_made a b os q next free last made =
      let first = saved_made a (followed_by b (plain os)) q next free last made in
      let second = both_made b (plain os) (first.0 + 1) next first.1 last first.4 in
      (first.0, first.1, second.0, second.1, first.2, first.3, second.2, second.3.0)

  -- one value, and the orders that take it
  pub one_made : (a : Piece) (os : List Order) (q next free last : ℕ) → Made (followed_by a (plain os) q free) q next free last → (x : ℕ) × (m : ℕ) × Made (a q free) q x free m × Stands code x os next
  one_made a os q next free last made =
      let first = both_made a (plain os) q next free last made in
      (first.0, first.1, first.2, first.3.0)

  -- one of two by a condition: where its condition, its branches and what is between them stand, and its marks
  pub record PartedMade (c : ConditionPiece) (between : ℕ → List Order) (a b : Piece) (q next free last : ℕ) : Type 0 where
    pub first : ℕ
    pub first_free : ℕ
    pub condition_made : Made (c false (free + 1) q (free + 1 + 1)) q first (free + 1 + 1) first_free
    pub middle : ℕ
    pub second_free : ℕ
    pub first_made : Made (a first first_free) first middle first_free second_free
    pub other : ℕ
    pub between_made : Stands code middle (between free) other
    pub other_is : slice_get marks (free + 1) ≡ Some other
    pub other_marks : slice_get code other ≡ Some order.Mark
    pub second : ℕ
    pub second_is : other + 1 ≡ second
    pub end : ℕ
    pub second_made : Made (b second second_free) second end second_free last
    pub end_is : slice_get marks free ≡ Some end
    pub end_marks : slice_get code end ≡ Some order.Mark
    pub next_is : end + 1 ≡ next
    pub labels : (parted_piece c between a b q free).labels ≡ ((c false (free + 1) q (free + 1 + 1)).labels ++ ((a first first_free).labels ++ [])) ++ (b second second_free).labels

  pub parted_made : (c : ConditionPiece) (between : ℕ → List Order) (a b : Piece) (q next free last : ℕ) → Made (parted_piece c between a b q free) q next free last → PartedMade c between a b q next free last
  parted_made c between a b q next free last made =
      let past = λ (end : ℕ). plain (between end) in
      let inner = λ (end other : ℕ). followed_by (c false other) (followed_by a (past end)) in
      let outer = λ (end : ℕ). followed_by (with_end (inner end)) b in
      let s2 = end_made outer q next free last made in
      let s3 = both_made (with_end (inner free)) b q s2.0 (free + 1) last s2.1 in
      let s4 = end_made (inner free) q s3.0 (free + 1) s3.1 s3.2 in
      let s5 = both_made (c false (free + 1)) (followed_by a (past free)) q s4.0 (free + 1 + 1) s3.1 s4.1 in
      let s6 = both_made a (past free) s5.0 s4.0 s5.1 s3.1 s5.3 in
      record {
        first = s5.0;
        first_free = s5.1;
        condition_made = s5.2;
        middle = s6.0;
        second_free = s3.1;
        first_made = subst (λ k. Made (a s5.0 s5.1) s5.0 s6.0 s5.1 k) s6.3.1 s6.2;
        other = s4.0;
        between_made = s6.3.0;
        other_is = s4.4;
        other_marks = s4.2;
        second = s3.0;
        second_is = s4.3;
        end = s2.0;
        second_made = s3.3;
        end_is = s2.4;
        end_marks = s2.2;
        next_is = s2.3;
        labels = s3.4 ∙ ap (λ l. l ++ (b s3.0 s3.1).labels) (s5.4 ∙ ap (λ l. (c false (free + 1) q (free + 1 + 1)).labels ++ l) s6.4);
      }
