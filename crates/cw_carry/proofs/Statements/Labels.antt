-- The place of a label carries out the continuation of the label.
use Rattle.std.proofs.Common.{◌≡◌, ℕ, zero, suc, ◌+◌, ◌<◌, ◌≤◌, List, [], ◌∷◌, ◌++◌, map, length, Bool, true, false, Option, Some, None, refl, sym, ap, ◌∙◌, subst, arith, append-nil}
use Rattle.std.specs.Prelude.{nat_eq, nat_lt, IsTrue, ◌&&◌, ◌||◌, if◌then◌else◌}
use Rattle.std.proofs.lemmas.Bool.{ltb-true, or_left, or_right}
use Rattle.cw_unit.specs.declared.unit.Unit.{Unit as SourceUnit}
use Rattle.cw_unit.specs.declared.unit.Dest.{Dest}
use Rattle.cw_unit.specs.declared.unit.Dest.TheVariants as dest
use Rattle.cw_unit.specs.declared.unit.Ref.{Ref, out-Ref}
use Rattle.cw_unit.specs.declared.unit.Stmt.{Stmt, Stmt-F, out-Stmt}
use Rattle.cw_unit.specs.declared.unit.Stmt.TheVariants as stmt
use Rattle.cw_unit.specs.declared.unit.Stmt.TheViews.{roll-Stmt, roll-out-Stmt}
use Rattle.cw_unit.specs.declared.unit.Stmt.TheOpen as statement
use Rattle.cw_unit.specs.Work.{Work, Run, On, run_all, loop_of}
use Rattle.cw_unit.specs.LabelContinuation.{label_continuation, list_continuation, first_work, work_if, has_label}
use Rattle.cw_unit.proofs.Continuations.{in-list, in-choice, in-loop, in-mark}
use Rattle.cw_order.specs.declared.order.Order.{Order}
use Rattle.cw_order.specs.declared.order.Orders.{Orders}
use Rattle.cw_gen_expr.specs.Pieces.{Piece, plain, followed_by, sequence, with_labels}
use Rattle.cw_gen_expr.specs.ReferenceExpressions.{at_line, Scope, condition_piece}
use Rattle.cw_gen_expr.specs.BuiltExpressions.{most_levels, within, is_condition, built_reference}
use Rattle.cw_gen_expr.proofs.Layers.{total}
use Rattle.cw_gen_expr.proofs.NoLabels.{value_unlabelled, condition_unlabelled, reference_unlabelled, arguments_unlabelled}
use Rattle.cw_safety.proofs.Truth.{both}
use Rattle.cw_carry.proofs.Expressions.Standing.{Made, both_made, parted_made}
use Rattle.cw_carry.proofs.Expressions.Carried.{Leads, here, past, Via, CarriesOut}
use Rattle.cw_gen_expr.specs.ReferenceEntries.{scope_of}
use Rattle.cw_carry.proofs.Expressions.Moments.{a_level}
use Rattle.cw_gen_unit.specs.ReferenceStatements.{begin_orders, jump_piece, begun_loop, parted_piece, jump_past, statement_piece}
use Rattle.cw_gen_unit.specs.Endings.{is_empty, list_ends, ends_behind, comes_to_end}
use Rattle.cw_gen_unit.proofs.Layers.{statement_layer, statement-made, statement_size, size_layer, statement-size, with_ends, ending_layer, ending-is, empty-is}
use Rattle.cw_gen_unit.specs.SimpleLoops.{simple_step}
use Rattle.cw_gen_unit.specs.BuiltStatements.{all_within, is_statement, are_elements}
use Rattle.cw_carry.proofs.Statements.Shapes.{built_layer, statement-built}
use Rattle.cw_carry.proofs.Statements.Sites.{sites}
use Rattle.cw_gen_unit.specs.ReferenceUnits.{answer_of}
use Rattle.cw_carry.proofs.Statements.Rings.{loop_whole, nothing}
use Rattle.cw_carry.proofs.Statements.Branches.{past_second, ends_here}
use Rattle.cw_gen_unit.specs.ReferenceUnits.{place_if, place_of}

-- ---- the place of a label among those of a piece

abbrev pub first_place : Option ℕ → Option ℕ → Option ℕ
first_place None o = o
first_place (Some q) o = Some q

chosen_first : (b : Bool) (q : ℕ) (o v : Option ℕ) → place_if b q (first_place o v) ≡ first_place (place_if b q o) v
chosen_first true q o v = refl
chosen_first false q o v = refl

pub place_in_both : (l : ℕ) (ps qs : List (ℕ × ℕ)) → place_of l (ps ++ qs) ≡ first_place (place_of l ps) (place_of l qs)
place_in_both l [] qs = refl
place_in_both l (p ∷ ps) qs = ap (place_if (nat_eq l p.0) p.1) (place_in_both l ps qs) ∙ chosen_first (nat_eq l p.0) p.1 (place_of l ps) (place_of l qs)

label_here : (b : Bool) (q : ℕ) (h : Bool) → place_if b q (place_if h q None) ≡ place_if (if b then true else h) q None
label_here true q h = refl
label_here false q h = refl

labels_here : (l q : ℕ) (ls : List ℕ) → place_of l (map (λ m. (m, q)) ls) ≡ place_if (has_label l ls) q None
labels_here l q [] = refl
labels_here l q (m ∷ ms) = ap (place_if (nat_eq l m) q) (labels_here l q ms) ∙ label_here (nat_eq l m) q (has_label l ms)

or_rest : (b : Bool) (q : ℕ) (o : Option ℕ) → first_place (place_if b q None) o ≡ place_if b q o
or_rest true q o = refl
or_rest false q o = refl

jump_unlabelled : (s : Scope) (who : Option ℕ) (answer : ℕ) (d : Dest) (q free : ℕ) → (jump_piece s who d q free).labels ≡ []
jump_unlabelled s who answer (dest.Goal g) q free = refl
jump_unlabelled s who answer (dest.Special k) q free = refl
jump_unlabelled s who answer (dest.Switch n e) q free = nothing (value_unlabelled s e 0 _ _) refl
jump_unlabelled s who answer (dest.CommonSwitch n e) q free = nothing (value_unlabelled s e 0 _ _) refl
jump_unlabelled s who answer (dest.SpecialSwitch n e) q free = nothing (value_unlabelled s e 0 _ _) refl

module _ (orders_for : SourceUnit → Orders) (u : SourceUnit) (who : Option ℕ) (has_words : (item words : ℕ) → Bool) (label : ℕ) where
  abbrev code : List Order
  code = (orders_for u).list

  abbrev marks : List ℕ
  marks = (orders_for u).marks

  abbrev piece : Stmt → Piece
  piece = statement_piece (scope_of u who) who (answer_of u who)

  abbrev good : Stmt → ℕ → Bool
  good = is_statement u has_words who (answer_of u who)

  -- what follows a statement
  abbrev pub After : (jumps next : ℕ) → Work → Type 0
  After n next k = Via code marks n next false (λ x m. CarriesOut (sites orders_for u who has_words) code marks (scope_of u who) has_words x m false k)

  -- a place for a label and the label's continuation, or neither
  abbrev pub Reaches : Option ℕ → Option Work → Type 0
  Reaches None None = Unit {0}
  Reaches (Some q) (Some w) = After most_levels q w
  Reaches _ _ = ⊥

  both_reach : (a b : Option ℕ) (v w : Option Work) → Reaches a v → Reaches b w → Reaches (first_place a b) (first_work v w)
  both_reach None b None w h k = k
  both_reach (Some q) b (Some v) w h k = h
  both_reach None b (Some v) w h k = absurd h
  both_reach (Some q) b None w h k = absurd h

  if_reaches : (b : Bool) (q : ℕ) (o : Option ℕ) (v : Work) (w : Option Work) → After most_levels q v → Reaches o w → Reaches (place_if b q o) (work_if b v w)
  if_reaches true q o v w h k = h
  if_reaches false q o v w h k = k

  none_reached : (ls : List (ℕ × ℕ)) → ls ≡ [] → Reaches (place_of label ls) None
  none_reached ls h = subst (λ l. Reaches (place_of label l) None) (sym h) tt

  -- a list of statements
  row_carried : (ss : List Stmt) (before : Bool) (k : Work) (q next free last levels n : ℕ) → IsTrue before → IsTrue (all_within u has_words who (answer_of u who) levels (map good ss)) → Made code marks (sequence (map piece ss) q free) q next free last → n + levels ≤ most_levels → (IsTrue (list_ends before (with_ends ss)) → After n next k) → After n q (run_all ss k)
  row_carried [] before k q next free last levels n reached b made le after = subst (λ p. After n p k) (sym made.0) (after reached)
  row_carried (s ∷ ss) before k q next free last levels n reached b made le after =
      let bs = both (good s levels) (all_within u has_words who (answer_of u who) levels (map good ss)) b in
      let parts = both_made code marks (piece s) (sequence (map piece ss)) q next free last made in
      (q, false, here refl refl, (parts.0, levels, n, (free, parts.1, bs.0, parts.2), le, refl, (λ ends. row_carried ss (ends_behind before s (comes_to_end s)) k parts.0 next parts.1 last levels n (ends_here before s reached ends) bs.1 parts.3 le after)))

  abbrev Below : ℕ → Type 0
  Below size = (s : Stmt) (k : Work) (q next free last levels n : ℕ) → statement_size s < size → IsTrue (good s levels) → Made code marks (piece s q free) q next free last → n + levels ≤ most_levels → (IsTrue (comes_to_end s) → After n next k) → Reaches (place_of label (piece s q free).labels) (label_continuation label s k)

  -- an empty statement has no labels
  empty_reaches : (s : Stmt) (k : Work) (q free : ℕ) → is_empty s ≡ true → Reaches (place_of label (piece s q free).labels) (label_continuation label s k)
  empty_reaches s k q free e =
      let is = empty-is s e in
      subst (λ p. Reaches (place_of label (p q free).labels) (label_continuation label s k)) (sym (statement-made (scope_of u who) who (answer_of u who) s ∙ ap (statement_layer (scope_of u who) who (answer_of u who)) is))
      (subst (λ t. Reaches None (label_continuation label t k)) (ap roll-Stmt (sym is) ∙ roll-out-Stmt s)
      (subst (λ t. Reaches None (label_continuation label t k)) (sym (stmt.rolls-Seq [])) (subst (Reaches None) (sym (in-list label [] k)) tt)))

  -- a statement of a list, which a run may reach where it has a label
  member_reaches : (s : Stmt) (before : Bool) (k : Work) (q free : ℕ) → ((IsTrue (comes_to_end s) → IsTrue (ends_behind before s (comes_to_end s))) → Reaches (place_of label (piece s q free).labels) (label_continuation label s k)) → Reaches (place_of label (piece s q free).labels) (label_continuation label s k)
  member_reaches s before k q free otherwise = by_test (is_empty s) refl
    where
      by_test : (e : Bool) → is_empty s ≡ e → Reaches (place_of label (piece s q free).labels) (label_continuation label s k)
      by_test true e = empty_reaches s k q free e
      by_test false e = otherwise (λ ends. ap (λ x. if x then before else comes_to_end s) e ∙ ends)

  list_reaches : (size : ℕ) → Below size → (ss : List Stmt) (before : Bool) (k : Work) (q next free last levels n : ℕ) → total (map statement_size ss) < size → IsTrue (all_within u has_words who (answer_of u who) levels (map good ss)) → Made code marks (sequence (map piece ss) q free) q next free last → n + levels ≤ most_levels → (IsTrue (list_ends before (with_ends ss)) → After n next k) → Reaches (place_of label (sequence (map piece ss) q free).labels) (list_continuation label ss k)
  list_reaches size below [] before k q next free last levels n small b made le after = tt
  list_reaches size below (s ∷ ss) before k q next free last levels n small b made le after =
      let bs = both (good s levels) (all_within u has_words who (answer_of u who) levels (map good ss)) b in
      let others = sequence (map piece ss) in
      let parts = both_made code marks (piece s) others q next free last made in
      subst (λ o. Reaches o (list_continuation label (s ∷ ss) k)) (sym (ap (place_of label) parts.4 ∙ place_in_both label (piece s q free).labels (others parts.0 parts.1).labels))
      (both_reach (place_of label (piece s q free).labels) (place_of label (others parts.0 parts.1).labels) (label_continuation label s (run_all ss k)) (list_continuation label ss k)
      (member_reaches s before (run_all ss k) q free
      (λ reached. below s (run_all ss k) q parts.0 free parts.1 levels n (let l : statement_size s < size = omega (arith, small) in l) bs.0 parts.2 le
      (λ ends. row_carried ss (ends_behind before s (comes_to_end s)) k parts.0 next parts.1 last levels n (reached ends) bs.1 parts.3 le after)))
      (list_reaches size below ss (ends_behind before s (comes_to_end s)) k parts.0 next parts.1 last levels n (let l : total (map statement_size ss) < size = omega (arith, small) in l) bs.1 parts.3 le after))

  -- behind the line of a statement
  begun : (line : ℕ) (p : Piece) (q n free last : ℕ) → Made code marks (followed_by (plain (begin_orders line)) p q free) q n free last → (x : ℕ) × (m : ℕ) × Made code marks (p x m) x n m last × ((followed_by (plain (begin_orders line)) p q free).labels ≡ (p x m).labels)
  begun line p q n free last made =
      let parts = both_made code marks (plain (begin_orders line)) p q n free last made in
      (parts.0, parts.1, parts.3, parts.4)

  abbrev Reached : Stmt-F Stmt → (k : Work) (q free : ℕ) → Type 0
  Reached x k q free = Reaches (place_of label (statement_layer (scope_of u who) who (answer_of u who) x q free).labels) (label_continuation label (roll-Stmt x) k)

  module _ (size : ℕ) (below : Below size) (k : Work) (q next free last levels n : ℕ) (le : n + levels ≤ most_levels) where
    choice_reached : (line : ℕ) (c : Rattle.cw_unit.specs.declared.unit.Cond.Cond) (a b : Stmt) → statement_size a + statement_size b < size → IsTrue (built_layer u has_words who (answer_of u who) (statement.If line c a b) levels) → Made code marks (statement_layer (scope_of u who) who (answer_of u who) (statement.If line c a b) q free) q next free last → (IsTrue (comes_to_end a || comes_to_end b) → After n next k) → Reached (statement.If line c a b) k q free
    choice_reached line c a b small built made after =
        let tests = both (is_condition u has_words c) (within levels (good a) && good b levels) built in
        let branches = both (within levels (good a)) (good b levels) tests.1 in
        let level = a_level levels (good a) branches.0 in
        let between = jump_past (comes_to_end a) b in
        let at = begun line (parted_piece (condition_piece (at_line line (scope_of u who)) c) between (piece a) (piece b)) q next free last made in
        let ch = parted_made code marks (condition_piece (at_line line (scope_of u who)) c) between (piece a) (piece b) at.0 next at.1 last at.2 in
        let closed : After n next k → After n ch.end k = λ v. (v.0, v.1, past ch.end_marks (subst (λ x. Leads code marks n x false v.0 v.1) (sym ch.next_is) v.2), v.3) in
        let behind_first : IsTrue (comes_to_end a) → After (suc n) ch.middle k = λ ends.
        let v = closed (after (or_left (comes_to_end a) (comes_to_end b) ends)) in
        (v.0, v.1, past_second code marks (scope_of u who) who (answer_of u who) (condition_piece (at_line line (scope_of u who)) c) a b at.0 next at.1 last ch n v.0 v.1 ends v.2, v.3) in
        let behind_second : IsTrue (comes_to_end b) → After n ch.end k = λ ends. closed (after (or_right (comes_to_end a) (comes_to_end b) ends)) in
        let va = (piece a ch.first ch.first_free).labels in
        let vb = (piece b ch.second ch.second_free).labels in
        let labels = at.3 ∙ ch.labels ∙ ap (λ l. l ++ vb) (ap (λ l. l ++ (va ++ [])) (condition_unlabelled (at_line line (scope_of u who)) c false (at.1 + 1) at.0 (at.1 + 1 + 1)) ∙ append-nil va) in
        subst (λ t. Reaches (place_of label (statement_layer (scope_of u who) who (answer_of u who) (statement.If line c a b) q free).labels) (label_continuation label t k)) (sym (stmt.rolls-If line c a b))
        (subst (Reaches (place_of label (statement_layer (scope_of u who) who (answer_of u who) (statement.If line c a b) q free).labels)) (sym (in-choice label line c a b k))
        (subst (λ o. Reaches o (first_work (label_continuation label a k) (label_continuation label b k))) (sym (ap (place_of label) labels ∙ place_in_both label va vb))
        (both_reach (place_of label va) (place_of label vb) (label_continuation label a k) (label_continuation label b k)
        (below a k ch.first ch.middle ch.first_free ch.second_free level.0 (suc n) (let l : statement_size a < size = omega (arith, small) in l) level.2 ch.first_made (let l : suc n + level.0 ≤ most_levels = omega (arith, level.1, le) in l) behind_first)
        (below b k ch.second ch.end ch.second_free last levels n (let l : statement_size b < size = omega (arith, small) in l) branches.1 ch.second_made le behind_second))))

    loop_reached : (line item : ℕ) (r : Ref) (es : List Rattle.cw_unit.specs.declared.unit.Felem.Felem) (s : Stmt) → statement_size s < size → IsTrue (built_layer u has_words who (answer_of u who) (statement.For line item r es s) levels) → Made code marks (statement_layer (scope_of u who) who (answer_of u who) (statement.For line item r es s) q free) q next free last → After n next k → Reached (statement.For line item r es s) k q free
    loop_reached line item r es s small b made after =
        let f = (out-Ref r).f in
        let b1 = both (built_reference u has_words r).good (has_words item 4 && (nat_lt (length es) 32767 && (are_elements u has_words who (answer_of u who) f es && (within levels (λ m. true) && good s most_levels)))) b in
        let b2 = both (has_words item 4) (nat_lt (length es) 32767 && (are_elements u has_words who (answer_of u who) f es && (within levels (λ m. true) && good s most_levels))) b1.1 in
        let b3 = both (nat_lt (length es) 32767) (are_elements u has_words who (answer_of u who) f es && (within levels (λ m. true) && good s most_levels)) b2.1 in
        let b4 = both (are_elements u has_words who (answer_of u who) f es) (within levels (λ m. true) && good s most_levels) b3.1 in
        let b5 = both (within levels (λ m. true)) (good s most_levels) b4.1 in
        let level = a_level levels (λ m. true) b5.0 in
        let at = begun line (begun_loop (at_line line (scope_of u who)) (simple_step (scope_of u who).layout item r es) item r es (piece s)) q next free last made in
        let whole = loop_whole orders_for u who has_words line item r es s next b2.0 (ltb-true (length es) 32767 b3.0) b4.0 b5.1 at.0 at.1 last b1.0 at.2 in
        let body = whole.1 in
        let x = loop_of line item r es s in
        subst (λ t. Reaches (place_of label (statement_layer (scope_of u who) who (answer_of u who) (statement.For line item r es s) q free).labels) (label_continuation label t k)) (sym (stmt.rolls-For line item r es s))
        (subst (Reaches (place_of label (statement_layer (scope_of u who) who (answer_of u who) (statement.For line item r es s) q free).labels)) (sym (in-loop label line item r es s k))
        (subst (λ ls. Reaches (place_of label ls) (label_continuation label s (On x k))) (sym (at.3 ∙ body.labels_are))
        (below s (On x k) (body.head + 1) body.on body.body_at.0 body.body_at.1 64 0 small body.body_at.2 body.body_at.3 (let l : 0 + 64 ≤ most_levels = omega arith in l)
        (λ ends. (body.on, false, here refl refl, (next, n, body.goes_on, (let v : suc n ≤ most_levels = omega (arith, le, level.1) in v), refl, after))))))

    marked_reached : (ls : List ℕ) (t : Stmt) → statement_size t < size → IsTrue (built_layer u has_words who (answer_of u who) (statement.Mark ls t) levels) → Made code marks (statement_layer (scope_of u who) who (answer_of u who) (statement.Mark ls t) q free) q next free last → (IsTrue (comes_to_end t) → After n next k) → Reached (statement.Mark ls t) k q free
    marked_reached ls t small b made after =
        let parts = both_made code marks (with_labels ls) (piece t) q next free last made in
        let vt = (piece t parts.0 parts.1).labels in
        let places = ap (place_of label) parts.4 ∙ place_in_both label (map (λ m. (m, q)) ls) vt ∙ ap (λ o. first_place o (place_of label vt)) (labels_here label q ls) ∙ or_rest (has_label label ls) q (place_of label vt) in
        subst (λ v. Reaches (place_of label (statement_layer (scope_of u who) who (answer_of u who) (statement.Mark ls t) q free).labels) (label_continuation label v k)) (sym (stmt.rolls-Mark ls t))
        (subst (Reaches (place_of label (statement_layer (scope_of u who) who (answer_of u who) (statement.Mark ls t) q free).labels)) (sym (in-mark label ls t k))
        (subst (λ o. Reaches o (work_if (has_label label ls) (Run t k) (label_continuation label t k))) (sym places)
        (if_reaches (has_label label ls) q (place_of label vt) (Run t k) (label_continuation label t k)
        (parts.0, false, past parts.2.0.0 (here parts.2.0.1 refl), (next, levels, n, (parts.1, last, b, parts.3), le, refl, after))
        (below t k parts.0 next parts.1 last levels n small b parts.3 le after))))

    layer_reaches : (x : Stmt-F Stmt) → size_layer x ≤ size → IsTrue (built_layer u has_words who (answer_of u who) x levels) → Made code marks (statement_layer (scope_of u who) who (answer_of u who) x q free) q next free last → (IsTrue (ending_layer x) → After n next k) → Reached x k q free
    layer_reaches (statement.Put line r e) small b made after =
        subst (λ t. Reaches (place_of label (statement_layer (scope_of u who) who (answer_of u who) (statement.Put line r e) q free).labels) (label_continuation label t k)) (sym (stmt.rolls-Put line r e))
        (none_reached (statement_layer (scope_of u who) who (answer_of u who) (statement.Put line r e) q free).labels (nothing (value_unlabelled (at_line line (scope_of u who)) e _ _ _) (nothing (reference_unlabelled (at_line line (scope_of u who)) r _ _) refl)))
    layer_reaches (statement.PutBits line d w r e) small b made after =
        subst (λ t. Reaches (place_of label (statement_layer (scope_of u who) who (answer_of u who) (statement.PutBits line d w r e) q free).labels) (label_continuation label t k)) (sym (stmt.rolls-PutBits line d w r e))
        (none_reached (statement_layer (scope_of u who) who (answer_of u who) (statement.PutBits line d w r e) q free).labels (nothing (value_unlabelled (at_line line (scope_of u who)) e _ _ _) (nothing (reference_unlabelled (at_line line (scope_of u who)) r _ _) refl)))
    layer_reaches (statement.Go line d) small b made after =
        subst (λ t. Reaches (place_of label (statement_layer (scope_of u who) who (answer_of u who) (statement.Go line d) q free).labels) (label_continuation label t k)) (sym (stmt.rolls-Go line d))
        (none_reached (statement_layer (scope_of u who) who (answer_of u who) (statement.Go line d) q free).labels (jump_unlabelled (at_line line (scope_of u who)) who (answer_of u who) d _ _))
    layer_reaches (statement.Call line tg args) small b made after =
        subst (λ t. Reaches (place_of label (statement_layer (scope_of u who) who (answer_of u who) (statement.Call line tg args) q free).labels) (label_continuation label t k)) (sym (stmt.rolls-Call line tg args))
        (none_reached (statement_layer (scope_of u who) who (answer_of u who) (statement.Call line tg args) q free).labels (nothing (arguments_unlabelled (at_line line (scope_of u who)) args _ _) refl))
    layer_reaches (statement.Answer line e) small b made after =
        subst (λ t. Reaches (place_of label (statement_layer (scope_of u who) who (answer_of u who) (statement.Answer line e) q free).labels) (label_continuation label t k)) (sym (stmt.rolls-Answer line e))
        (none_reached (statement_layer (scope_of u who) who (answer_of u who) (statement.Answer line e) q free).labels (nothing (value_unlabelled (at_line line (scope_of u who)) e _ _ _) refl))
    layer_reaches (statement.If line c a b') small b made after = choice_reached line c a b' (let l : statement_size a + statement_size b' < size = omega (arith, small) in l) b made after
    layer_reaches (statement.For line item r es s) small b made after = loop_reached line item r es s (let l : statement_size s < size = omega (arith, small) in l) b made (after refl)
    layer_reaches (statement.Seq ss) small b made after =
        subst (λ t. Reaches (place_of label (sequence (map piece ss) q free).labels) (label_continuation label t k)) (sym (stmt.rolls-Seq ss))
        (subst (Reaches (place_of label (sequence (map piece ss) q free).labels)) (sym (in-list label ss k))
        (list_reaches size below ss true k q next free last levels n (let l : total (map statement_size ss) < size = omega (arith, small) in l) b made le after))
    layer_reaches (statement.Mark ls t) small b made after = marked_reached ls t (let l : statement_size t < size = omega (arith, small) in l) b made after

  below_reaches : (size : ℕ) → Below size
  below_reaches zero s k q next free last levels n small b made le after = absurd (omega (arith, small))
  below_reaches (suc size) s k q next free last levels n small b made le after =
      let same = statement-made (scope_of u who) who (answer_of u who) s in
      subst (λ p. Reaches (place_of label (p q free).labels) (label_continuation label s k)) (sym same)
      (subst (λ t. Reaches (place_of label (statement_layer (scope_of u who) who (answer_of u who) (out-Stmt s) q free).labels) (label_continuation label t k)) (roll-out-Stmt s)
      (layer_reaches size (below_reaches size) k q next free last levels n le (out-Stmt s) (let l : size_layer (out-Stmt s) ≤ size = omega (arith, small, statement-size s) in l) (sym (ap (λ f. f levels) (statement-built u has_words who (answer_of u who) s)) ∙ b) (subst (λ p. Made code marks (p q free) q next free last) same made) (λ ends. after (ending-is s ∙ ends))))

  -- in a whole body
  pub body_reaches : (s : Stmt) (k : Work) (q next free last levels n : ℕ) → IsTrue (good s levels) → Made code marks (piece s q free) q next free last → n + levels ≤ most_levels → (IsTrue (comes_to_end s) → After n next k) → Reaches (place_of label (piece s q free).labels) (label_continuation label s k)
  body_reaches s k q next free last levels n = below_reaches (suc (statement_size s)) s k q next free last levels n (let l : statement_size s < suc (statement_size s) = omega arith in l)

  -- a label that has a continuation has a place, which carries it out
  pub known : (o : Option ℕ) (v : Option Work) → Reaches o v → (w : Work) → v ≡ Some w → (q : ℕ) × (o ≡ Some q) × After most_levels q w
  known None v h w e = absurd (subst (Reaches None) e h)
  known (Some q) v h w e = (q, refl, subst (Reaches (Some q)) e h)
