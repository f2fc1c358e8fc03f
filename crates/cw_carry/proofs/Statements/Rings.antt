-- The parts of a FOR stand where its orders do.
use Rattle.std.proofs.Common.{◌≡◌, ◌⊎◌, inl, inr, ℕ, zero, suc, ◌+◌, ◌<◌, ◌≤◌, pos, List, [], ◌∷◌, ◌++◌, length, Bool, true, false, Option, Some, None, refl, sym, ap, ap₂, ◌∙◌, subst, arith, append-nil}
use Rattle.std.specs.Prelude.{slice_get, IsTrue}
use Rattle.std.proofs.lemmas.Option.{none-some, same_Some}
use Rattle.cw_unit.specs.declared.unit.Unit.{Unit as SourceUnit}
use Rattle.cw_unit.specs.declared.unit.Felem.{Felem}
use Rattle.cw_unit.specs.declared.unit.Felem.TheVariants as element
use Rattle.cw_unit.specs.declared.unit.Expr.{Expr}
use Rattle.cw_unit.specs.declared.unit.Ref.{Ref, out-Ref}
use Rattle.cw_unit.specs.declared.layout.Layout.{Layout}
use Rattle.cw_unit.specs.declared.unit.Stmt.{Stmt}
use Rattle.cw_unit.specs.Work.{Loop, loop_of, element_at}
use Rattle.cw_order.specs.declared.order.Order.{Order}
use Rattle.cw_order.specs.declared.order.Order.TheVariants as order
use Rattle.cw_order.specs.declared.order.Orders.{Orders}
use Rattle.cw_order.specs.OrderChanges.{mark_of_number}
use Rattle.cw_gen_expr.specs.Pieces.{Piece, plain, followed_by, with_end}
use Rattle.cw_gen_expr.specs.ReferenceExpressions.{at_line, Scope, item_order, reference_of}
use Rattle.cw_gen_expr.specs.BuiltExpressions.{built_reference}
use Rattle.cw_gen_expr.proofs.NoLabels.{value_unlabelled, condition_unlabelled, reference_unlabelled}
use Rattle.cw_safety.proofs.Truth.{both}
use Rattle.cw_carry.proofs.Expressions.Standing.{Stands, ends_at, Made, both_made, end_made}
use Rattle.cw_gen_expr.specs.ReferenceEntries.{scope_of}
use Rattle.cw_gen_unit.specs.ReferenceStatements.{set_orders, element_piece, elements_piece, element_ways, way_mark, with_middle, ring_piece, keep_orders, only_step, loop_place, simple_beginning, first_turn, stepped_piece, elements_loop, begun_loop, statement_piece}
use Rattle.cw_gen_unit.specs.declared.simple.SimpleStep.{SimpleStep}
use Rattle.cw_gen_unit.specs.SimpleLoops.{simple_step}
use Rattle.cw_gen_unit.specs.BuiltStatements.{is_statement, is_element, are_elements}
use Rattle.cw_carry.proofs.Statements.Sites.{StatementSite, BodySite, LoopSite, ElementSite, OnSite, SteppedSite, FirstSite, NextSite, BeginningSite}
use Rattle.cw_gen_unit.specs.ReferenceUnits.{answer_of}

pub nothing : {a b : List (ℕ × ℕ)} → a ≡ [] → b ≡ [] → a ++ b ≡ []
nothing x y = ap₂ (λ l m. l ++ m) x y

-- no label stands among the elements of a FOR
module _ (s : Scope) (who : Option ℕ) (answer item f set body : ℕ) where
  element_unlabelled : (i : ℕ) (e : Felem) (q free : ℕ) → (element_piece s item f set body i e q free).labels ≡ []
  element_unlabelled i (element.One e) q free = nothing (value_unlabelled s e f _ _) refl
  element_unlabelled i (element.While e c) q free = nothing (value_unlabelled s e f _ _) (nothing (condition_unlabelled s c false _ _ _) refl)
  element_unlabelled i (element.Step a b d) q free =
      nothing (nothing (nothing (value_unlabelled s a f _ _) (nothing (value_unlabelled s b f _ _) (nothing (value_unlabelled s d f _ _) refl))) refl) refl

  pub elements_unlabelled : (i : ℕ) (es : List Felem) (q free : ℕ) → (elements_piece s item f set body i es q free).labels ≡ []
  elements_unlabelled i [] q free = refl
  elements_unlabelled i (e ∷ es) q free = nothing (element_unlabelled i e q free) (elements_unlabelled (i + 1) es _ _)

module _ (code : List Order) (marks : List ℕ) (s : Scope) (who : Option ℕ) (answer : ℕ) (item f set body : ℕ) where
  abbrev Elements : (i : ℕ) → List Felem → (q r free last : ℕ) → Type 0
  Elements i es q r free last = Made code marks (elements_piece s item f set body i es q free) q r free last

  pub rest_made : (i : ℕ) (e : Felem) (es : List Felem) (q r free last : ℕ) → Elements i (e ∷ es) q r free last → (x : ℕ) × (m : ℕ) × Made code marks (element_piece s item f set body i e q free) q x free m × Elements (i + 1) es x r m last
  rest_made i e es q r free last made =
      let parts = both_made code marks (element_piece s item f set body i e) (elements_piece s item f set body (i + 1) es) q r free last made in
      (parts.0, parts.1, parts.2, parts.3)

  -- where an element stands, counted from 0, and where its marks begin
  abbrev pub place_at : (i : ℕ) (es : List Felem) (q r free last : ℕ) → Elements i es q r free last → ℕ → ℕ
  place_at i es q r free last made zero = q
  place_at i [] q r free last made (suc n) = q
  place_at i (e ∷ es) q r free last made (suc n) = let x = rest_made i e es q r free last made in place_at (i + 1) es x.0 r x.1 last x.3 n

  abbrev pub free_at : (i : ℕ) (es : List Felem) (q r free last : ℕ) → Elements i es q r free last → ℕ → ℕ
  free_at i es q r free last made zero = free
  free_at i [] q r free last made (suc n) = free
  free_at i (e ∷ es) q r free last made (suc n) = let x = rest_made i e es q r free last made in free_at (i + 1) es x.0 r x.1 last x.3 n

  last_at : (i : ℕ) (es : List Felem) (q r free last : ℕ) (made : Elements i es q r free last) → place_at i es q r free last made (length es) ≡ r
  last_at i [] q r free last made = made.0
  last_at i (e ∷ es) q r free last made = let x = rest_made i e es q r free last made in last_at (i + 1) es x.0 r x.1 last x.3

  each_at : (i : ℕ) (es : List Felem) (q r free last : ℕ) (made : Elements i es q r free last) (n : ℕ) (e : Felem) → slice_get es n ≡ Some e → Made code marks (element_piece s item f set body (i + n) e (place_at i es q r free last made n) (free_at i es q r free last made n)) (place_at i es q r free last made n) (place_at i es q r free last made (suc n)) (free_at i es q r free last made n) (free_at i es q r free last made (suc n))
  each_at i [] q r free last made n e h = absurd (none-some e h)
  each_at i (d ∷ es) q r free last made zero e h =
      let x = rest_made i d es q r free last made in
      let none : i ≡ i + 0 = omega arith in
      subst (λ j. Made code marks (element_piece s item f set body j e q free) q (place_at (i + 1) es x.0 r x.1 last x.3 0) free (free_at (i + 1) es x.0 r x.1 last x.3 0)) none
      (subst (λ y. Made code marks (element_piece s item f set body i y q free) q x.0 free x.1) (same_Some d e h) x.2)
  each_at i (d ∷ es) q r free last made (suc n) e h =
      let x = rest_made i d es q r free last made in
      let moved : i + 1 + n ≡ i + suc n = omega arith in
      subst (λ j. Made code marks (element_piece s item f set body j e (place_at (i + 1) es x.0 r x.1 last x.3 n) (free_at (i + 1) es x.0 r x.1 last x.3 n)) (place_at (i + 1) es x.0 r x.1 last x.3 n) (place_at (i + 1) es x.0 r x.1 last x.3 (suc n)) (free_at (i + 1) es x.0 r x.1 last x.3 n) (free_at (i + 1) es x.0 r x.1 last x.3 (suc n))) moved (each_at (i + 1) es x.0 r x.1 last x.3 n e h)

  ways_next : (i : ℕ) (e : Felem) (es : List Felem) (q r free last : ℕ) (made : Elements i (e ∷ es) q r free last) → element_ways s item f set body (i + 1) es (q + length (element_piece s item f set body i e q free).orders) (free + length (element_piece s item f set body i e q free).marks) ≡ element_ways s item f set body (i + 1) es (rest_made i e es q r free last made).0 (rest_made i e es q r free last made).1
  ways_next i e es q r free last made =
      let x = rest_made i e es q r free last made in
      let y = element_piece s item f set body i e q free in
      ap₂ (λ a b. element_ways s item f set body (i + 1) es a b) (ends_at code q y.orders x.0 x.2.0) (ends_at marks free y.marks x.1 x.2.1)

  way_at : (i : ℕ) (es : List Felem) (q r free last : ℕ) (made : Elements i es q r free last) (n : ℕ) (e : Felem) → slice_get es n ≡ Some e → slice_get (element_ways s item f set body i es q free) n ≡ Some (way_mark e (free_at i es q r free last made n))
  way_at i [] q r free last made n e h = absurd (none-some e h)
  way_at i (d ∷ es) q r free last made zero e h = ap (λ y. Some (way_mark y free)) (same_Some d e h)
  way_at i (d ∷ es) q r free last made (suc n) e h =
      let x = rest_made i d es q r free last made in
      ap (λ l. slice_get l n) (ways_next i d es q r free last made) ∙ way_at (i + 1) es x.0 r x.1 last x.3 n e h

  no_way_at : (i : ℕ) (es : List Felem) (q r free last : ℕ) (made : Elements i es q r free last) (n : ℕ) → slice_get es n ≡ None → slice_get (element_ways s item f set body i es q free) n ≡ None
  no_way_at i [] q r free last made n h = refl
  no_way_at i (d ∷ es) q r free last made zero h = absurd (none-some d (sym h))
  no_way_at i (d ∷ es) q r free last made (suc n) h =
      let x = rest_made i d es q r free last made in
      ap (λ l. slice_get l n) (ways_next i d es q r free last made) ∙ no_way_at (i + 1) es x.0 r x.1 last x.3 n h

  -- counted from 1
  abbrev from_one : (ℕ → ℕ) → ℕ → ℕ
  from_one g zero = 0
  from_one g (suc n) = g n

  module _ (es : List Felem) (q r free last : ℕ) (made : Elements 1 es q r free last) where
    abbrev place : ℕ → ℕ
    place = from_one (place_at 1 es q r free last made)

    abbrev free_of : ℕ → ℕ
    free_of = from_one (free_at 1 es q r free last made)

    pub each_one : (i : ℕ) (e : Felem) → element_at es i ≡ Some e → Made code marks (element_piece s item f set body i e (place i) (free_of i)) (place i) (place (i + 1)) (free_of i) (free_of (i + 1))
    each_one zero e h = absurd (none-some e h)
    each_one (suc n) e h =
        let first : 1 + n ≡ suc n = omega arith in
        let second : suc (suc n) ≡ suc n + 1 = omega arith in
        let m = subst (λ k. Made code marks (element_piece s item f set body k e (place (suc n)) (free_of (suc n))) (place (suc n)) (place (suc (suc n))) (free_of (suc n)) (free_of (suc (suc n)))) first (each_at 1 es q r free last made n e h) in
        subst (λ k. Made code marks (element_piece s item f set body (suc n) e (place (suc n)) (free_of (suc n))) (place (suc n)) (place k) (free_of (suc n)) (free_of k)) second m

    pub way_one : (i : ℕ) (e : Felem) → element_at es i ≡ Some e → mark_of_number (element_ways s item f set body 1 es q free) (pos i) ≡ Some (way_mark e (free_of i))
    way_one zero e h = absurd (none-some e h)
    way_one (suc n) e h = way_at 1 es q r free last made n e h

    pub no_way_one : (i : ℕ) → element_at es i ≡ None → mark_of_number (element_ways s item f set body 1 es q free) (pos i) ≡ None
    no_way_one zero h = refl
    no_way_one (suc n) h = no_way_at 1 es q r free last made n h

    pub last_one : place (length es + 1) ≡ r
    last_one = let e : length es + 1 ≡ suc (length es) = omega arith in ap place e ∙ last_at 1 es q r free last made

module _ (orders_for : SourceUnit → Orders) (u : SourceUnit) (who : Option ℕ) (has_words : (item words : ℕ) → Bool) where
  abbrev code : List Order
  code = (orders_for u).list

  abbrev marks : List ℕ
  marks = (orders_for u).marks

  -- the body between its marks, of which the numbers are given, and what stands behind it
  abbrev body_site : (x : Loop) (n : ℕ) (behind : ℕ → List Order) → IsTrue (has_words x.item 4) → (body end : ℕ) → (head : (k : ℕ) × (slice_get code k ≡ Some order.Mark) × (slice_get marks body ≡ Some k))
      → (out : (k : ℕ) × (slice_get code k ≡ Some order.Mark) × (k + 1 ≡ n) × (slice_get marks end ≡ Some k)) → (on : ℕ) → StatementSite orders_for u who has_words (head.0 + 1) x.body 64 on
      → Stands code on (behind body) out.0 → BodySite orders_for u who has_words x n behind
  body_site x n behind words body end head out on body_at goes_on =
      record { words = words; body = body; end = end; head = head.0; head_is = head.2; head_marks = head.1; on = on; body_at = body_at; out = out.0; goes_on = goes_on; end_is = out.3; out_marks = out.1; next_is = out.2 }

  pub ring_whole : (line item : ℕ) (r : Ref) (es : List Felem) (b : Stmt) (q n free last : ℕ) → IsTrue (has_words item 4) → length es < 32767 → IsTrue (are_elements u has_words who (answer_of u who) (out-Ref r).f es) → IsTrue (is_statement u has_words who (answer_of u who) b 64) → Made code marks (ring_piece (at_line line (scope_of u who)) item (out-Ref r).f es (statement_piece (scope_of u who) who (answer_of u who) b) q free) q n free last → (site : LoopSite orders_for u who has_words (loop_of line item r es b) n) × (q ≡ site.place 1) × ((ring_piece (at_line line (scope_of u who)) item (out-Ref r).f es (statement_piece (scope_of u who) who (answer_of u who) b) q free).labels ≡ (statement_piece (scope_of u who) who (answer_of u who) b (site.head + 1) site.body_at.0).labels)
  ring_whole line item r es b q n free last words few built body_built made =
      let f = (out-Ref r).f in
      let stmt = statement_piece (scope_of u who) who (answer_of u who) b in
      let start = free + 1 in
      let set = free + 1 + 1 in
      let ways = element_ways (at_line line (scope_of u who)) item f set start 1 es q (set + 1) in
      let tail = λ (end start set : ℕ). followed_by (elements_piece (at_line line (scope_of u who)) item f set start 1 es) (plain (order.Jump end ∷ [])) in
      let first = λ (end start : ℕ). followed_by (with_end (tail end start)) (plain (set_orders (scope_of u who).layout line item)) in
      let behind = λ (start : ℕ). item_order (scope_of u who).layout item 3 ∷ order.Load ∷ order.LoopWay ways ∷ [] in
      let second = λ (start : ℕ). followed_by stmt (plain (behind start)) in
      let s1 = end_made code marks (λ end. with_middle (first end) second) q n free last made in
      let s2 = both_made code marks (with_end (first free)) (second start) q s1.0 start last s1.1 in
      let s3 = end_made code marks (first free) q s2.0 start s2.1 s2.2 in
      let s4 = both_made code marks (with_end (tail free start)) (plain (set_orders (scope_of u who).layout line item)) q s3.0 set s2.1 s3.1 in
      let s5 = end_made code marks (tail free start) q s4.0 set s4.1 s4.2 in
      let s6 = both_made code marks (elements_piece (at_line line (scope_of u who)) item f set start 1 es) (plain (order.Jump free ∷ [])) q s5.0 (set + 1) s4.1 s5.1 in
      let s7 = both_made code marks stmt (plain (behind start)) s2.0 s1.0 s2.1 last s2.3 in
      let es_made = s6.2 in (
        record {
          ways = ways;
          at_body = body_site (loop_of line item r es b) n behind words start free (s3.0, s3.2, s3.4) (s1.0, s1.2, s1.3, s1.4) s7.0
              (s2.1, s7.1, body_built, subst (λ x. Made code marks (stmt x s2.1) x s7.0 s2.1 s7.1) (sym s3.3) s7.2) s7.3.0;
          few = few;
          built = built;
          set = set;
          tail = s5.0;
          tail_is = s5.4;
          tail_marks = s5.2;
          sets = subst (λ x. Stands code x (set_orders (scope_of u who).layout line item) s3.0) (sym s5.3) s4.3.0;
          place = place code marks (at_line line (scope_of u who)) who (answer_of u who) item f set start es q s6.0 (set + 1) s6.1 es_made;
          free = free_of code marks (at_line line (scope_of u who)) who (answer_of u who) item f set start es q s6.0 (set + 1) s6.1 es_made;
          each = each_one code marks (at_line line (scope_of u who)) who (answer_of u who) item f set start es q s6.0 (set + 1) s6.1 es_made;
          way = way_one code marks (at_line line (scope_of u who)) who (answer_of u who) item f set start es q s6.0 (set + 1) s6.1 es_made;
          no_way = no_way_one code marks (at_line line (scope_of u who)) who (answer_of u who) item f set start es q s6.0 (set + 1) s6.1 es_made;
          last = ap (slice_get code) (last_one code marks (at_line line (scope_of u who)) who (answer_of u who) item f set start es q s6.0 (set + 1) s6.1 es_made) ∙ s6.3.0.0;
        },
        refl,
        s2.4 ∙ ap₂ (λ a b. a ++ b) (nothing (nothing (elements_unlabelled (at_line line (scope_of u who)) who (answer_of u who) item f set start 1 es _ _) refl) refl) (append-nil (stmt s2.0 s2.1).labels) ∙ ap (λ x. (stmt x s2.1).labels) (sym s3.3),
      )

  -- ---- a FOR of one STEP element

  only_is : (es : List Felem) (e : Expr × Expr × Expr) → only_step es ≡ Some e → es ≡ element.Step e.0 e.1 e.2 ∷ []
  only_is [] e h = absurd (none-some e h)
  only_is (element.One a ∷ es) e h = absurd (none-some e h)
  only_is (element.While a d ∷ es) e h = absurd (none-some e h)
  only_is (element.Step a b d ∷ []) e h = ap (λ x. element.Step x.0 x.1 x.2 ∷ []) (same_Some (a, b, d) e h)
  only_is (element.Step a b d ∷ x ∷ es) e h = absurd (none-some e h)

  simple_only : (y : Layout) (item : ℕ) (r : Ref) (es : List Felem) (x : SimpleStep) → simple_step y item r es ≡ Some x → (e : Expr × Expr × Expr) × (only_step es ≡ Some e)
  simple_only y item r [] x h = absurd (none-some x h)
  simple_only y item r (element.One a ∷ es) x h = absurd (none-some x h)
  simple_only y item r (element.While a d ∷ es) x h = absurd (none-some x h)
  simple_only y item r (element.Step a b d ∷ []) x h = ((a, b, d), refl)
  simple_only y item r (element.Step a b d ∷ e ∷ es) x h = absurd (none-some x h)

  first_unlabelled : (h : Scope) (item f : ℕ) (a b d : Expr) (end q free : ℕ) → (first_turn h item f a b d end q free).labels ≡ []
  first_unlabelled h item f a b d end q free = nothing (value_unlabelled h a f _ _) (nothing (value_unlabelled h b f _ _) (nothing (value_unlabelled h d f _ _) refl))

  -- the body, and what stands behind it
  pub record BodyStands (x : Loop) (next : ℕ) (labels : List (ℕ × ℕ)) : Type 0 where
    pub head : ℕ
    pub on : ℕ
    pub body_at : StatementSite orders_for u who has_words (head + 1) x.body 64 on
    pub goes_on : OnSite orders_for u who has_words on x next ⊎ NextSite orders_for u who has_words on x next
    pub labels_are : labels ≡ (statement_piece (scope_of u who) who (answer_of u who) x.body (head + 1) body_at.0).labels

  -- the address of the control variable, which is kept, and the elements
  abbrev pub ByAddress : Ref → Loop → (q free next : ℕ) → Type 0
  ByAddress r x q free next =
      (y : ℕ) × (m : ℕ) × (z : ℕ) × Made code marks ((reference_of (at_line x.line (scope_of u who)) r).address q free) q y free m × Stands code y (keep_orders (scope_of u who).layout x.item 0) z × (ElementSite orders_for u who has_words z 1 x next ⊎ FirstSite orders_for u who has_words z 1 x next)

  module _ (line item : ℕ) (r : Ref) (es : List Felem) (b : Stmt) (n : ℕ) (words : IsTrue (has_words item 4)) (few : length es < 32767) (built : IsTrue (are_elements u has_words who (answer_of u who) (out-Ref r).f es)) (body_built : IsTrue (is_statement u has_words who (answer_of u who) b 64)) where
    abbrev x : Loop
    x = loop_of line item r es b

    abbrev here_scope : Scope
    here_scope = at_line line (scope_of u who)

    abbrev stmt : Piece
    stmt = statement_piece (scope_of u who) who (answer_of u who) b

    stepped_whole : (beginning : ℕ → Piece) (e : Expr × Expr × Expr) (q free last : ℕ) → only_step es ≡ Some e → ((end q' free' : ℕ) → (beginning end q' free').labels ≡ []) → Made code marks (stepped_piece here_scope item beginning stmt q free) q n free last
        → (site : SteppedSite orders_for u who has_words x n) × (e ≡ (site.first, site.step, site.limit)) × (y : ℕ) × (z : ℕ) × Made code marks (beginning site.end q y) q site.head y z × BodyStands x n (stepped_piece here_scope item beginning stmt q free).labels
    stepped_whole beginning e q free last only none made =
        let start = free + 1 in
        let on = λ (mark : ℕ). order.NextStep (loop_place (scope_of u who).layout item) line mark ∷ [] in
        let second = λ (mark : ℕ). followed_by stmt (plain (on mark)) in
        let s1 = end_made code marks (λ end. with_middle (λ mark. beginning end) second) q n free last made in
        let s2 = both_made code marks (with_end (λ mark. beginning free)) (second start) q s1.0 start last s1.1 in
        let s3 = end_made code marks (λ mark. beginning free) q s2.0 start s2.1 s2.2 in
        let s4 = both_made code marks stmt (plain (on start)) s2.0 s1.0 s2.1 last s2.3 in
        let one = only_is es e only in
        let all = subst (λ l. IsTrue (are_elements u has_words who (answer_of u who) (out-Ref r).f l)) one built in
        let body_at : StatementSite orders_for u who has_words (s3.0 + 1) b 64 s4.0 = (s2.1, s4.1, body_built, subst (λ z. Made code marks (stmt z s2.1) z s4.0 s2.1 s4.1) (sym s3.3) s4.2) in
        let site : SteppedSite orders_for u who has_words x n = record {
          at_body = body_site x n on words start free (s3.0, s3.2, s3.4) (s1.0, s1.2, s1.3, s1.4) s4.0 body_at s4.3.0;
          first = e.0;
          step = e.1;
          limit = e.2;
          elements = one;
          built = (both (is_element u has_words who (answer_of u who) (out-Ref r).f (element.Step e.0 e.1 e.2)) true all).0;
        } in (
          site,
          refl,
          start + 1,
          s2.1,
          s3.1,
          record {
            head = s3.0;
            on = s4.0;
            body_at = body_at;
            goes_on = inr (site, refl);
            labels_are = s2.4 ∙ ap₂ (λ l m. l ++ m) (none free q (start + 1)) (append-nil (stmt s2.0 s2.1).labels) ∙ ap (λ z. (stmt z s2.1).labels) (sym s3.3);
          },
        )

    -- from its elements on
    elements_whole : (o : Option (Expr × Expr × Expr)) (q free last : ℕ) → only_step es ≡ o → Made code marks (elements_loop here_scope o item (out-Ref r).f es stmt q free) q n free last
        → (ElementSite orders_for u who has_words q 1 x n ⊎ FirstSite orders_for u who has_words q 1 x n) × BodyStands x n (elements_loop here_scope o item (out-Ref r).f es stmt q free).labels
    elements_whole None q free last only made =
        let ring = ring_whole line item r es b q n free last words few built body_built made in
        let site = ring.0 in
        (inl (site, ring.1, (let z : 1 ≤ 1 = omega arith in z), (let z : 1 ≤ length es + 1 = omega arith in z)), record { head = site.head; on = site.on; body_at = site.body_at; goes_on = inl (site, refl); labels_are = ring.2 })
    elements_whole (Some e) q free last only made =
        let f = (out-Ref r).f in
        let whole = stepped_whole (first_turn here_scope item f e.0 e.1 e.2) e q free last only (first_unlabelled here_scope item f e.0 e.1 e.2) made in
        let site = whole.0 in
        (inr (site, refl, whole.2, whole.3, subst (λ d. Made code marks (first_turn here_scope item f d.0 d.1 d.2 site.end q whole.2) q site.head whole.2 whole.3) whole.1 whole.4), whole.5)

    begun_whole : (o : Option SimpleStep) (q free last : ℕ) → simple_step (scope_of u who).layout item r es ≡ o → IsTrue (built_reference u has_words r).good → Made code marks (begun_loop here_scope o item r es stmt q free) q n free last
        → (BeginningSite orders_for u who has_words q r x n ⊎ ByAddress r x q free n) × BodyStands x n (begun_loop here_scope o item r es stmt q free).labels
    begun_whole None q free last is good made =
        let f = (out-Ref r).f in
        let keep = keep_orders (scope_of u who).layout item 0 in
        let elements = elements_loop here_scope (only_step es) item f es stmt in
        let address = both_made code marks (reference_of here_scope r).address (followed_by (plain keep) elements) q n free last made in
        let kept = both_made code marks (plain keep) elements address.0 n address.1 last address.3 in
        let whole = elements_whole (only_step es) kept.0 kept.1 last refl kept.3 in
        let body = whole.1 in (
          inr (address.0, address.1, kept.0, address.2, kept.2.0, whole.0),
          record {
            head = body.head;
            on = body.on;
            body_at = body.body_at;
            goes_on = body.goes_on;
            labels_are = address.4 ∙ ap₂ (λ l m. l ++ m) (reference_unlabelled here_scope r q free) (kept.4 ∙ body.labels_are);
          },
        )
    begun_whole (Some y) q free last is good made =
        let e = simple_only (scope_of u who).layout item r es y is in
        let whole = stepped_whole (λ end. plain (simple_beginning (scope_of u who).layout item y end)) e.0 q free last e.1 (λ end q' free'. refl) made in
        (inl (whole.0, y, good, refl, is, whole.4.0), whole.5)

    pub loop_whole : (q free last : ℕ) → IsTrue (built_reference u has_words r).good → Made code marks (begun_loop here_scope (simple_step (scope_of u who).layout item r es) item r es stmt q free) q n free last
        → (BeginningSite orders_for u who has_words q r x n ⊎ ByAddress r x q free n) × BodyStands x n (begun_loop here_scope (simple_step (scope_of u who).layout item r es) item r es stmt q free).labels
    loop_whole q free last good made = begun_whole (simple_step (scope_of u who).layout item r es) q free last refl good made
