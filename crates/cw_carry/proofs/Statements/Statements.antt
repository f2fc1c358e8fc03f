-- The orders follow the source through statements.
use Rattle.std.proofs.Common.{◌≡◌, ◌⊎◌, inl, ⊎_elim, ℕ, suc, ◌+◌, ◌<◌, ◌≤◌, List, [], ◌∷◌, map, length, Bool, true, false, Option, Some, refl, sym, ap, ap₂, ◌∙◌, subst, arith}
use Rattle.std.specs.Prelude.{slice_get, IsTrue, ◌&&◌, is_some, nat_lt}
use Rattle.std.proofs.lemmas.Bool.{ltb-true, or_left, or_right}
use Rattle.cw_track.proofs.Paths.{stay}
use Rattle.cw_track.proofs.Watching.{same}
use Rattle.cw_unit.specs.declared.unit.Unit.{Unit as SourceUnit}
use Rattle.cw_unit.specs.declared.unit.Dest.{Dest}
use Rattle.cw_unit.specs.declared.unit.Dest.TheVariants as dest
use Rattle.cw_unit.specs.declared.unit.Target.{Target}
use Rattle.cw_unit.specs.declared.unit.Target.TheVariants as target_of
use Rattle.cw_unit.specs.declared.unit.Felem.{Felem}
use Rattle.cw_unit.specs.declared.unit.Expr.{Expr}
use Rattle.cw_unit.specs.declared.unit.Ref.{Ref, out-Ref}
use Rattle.cw_unit.specs.declared.unit.Stmt.{Stmt, Stmt-F, out-Stmt}
use Rattle.cw_unit.specs.declared.unit.Stmt.TheOpen as statement
use Rattle.cw_unit.specs.Stop.{Running}
use Rattle.cw_unit.specs.Words.{Words}
use Rattle.cw_unit.specs.Operation.{Store, StoreBits}
use Rattle.cw_unit.specs.Work.{Work, Run, Eval, Address, Do, Jump, Enter, Return, Element, Loop, loop_of, run_all, statement_work}
use Rattle.cw_unit.specs.Configuration.{Activation, segment_of, answer_scale_of, fraction_of_answer, procedure_in}
use Rattle.cw_unit.specs.Behaviour.{shown}
use Rattle.cw_unit.specs.Begun.{Begun, line_of, begins}
use Rattle.cw_order.specs.declared.order.Order.{Order}
use Rattle.cw_order.specs.declared.order.Order.TheVariants as order
use Rattle.cw_order.specs.OrderProgram.{order_at}
use Rattle.cw_order.specs.OrderState.{at as state}
use Rattle.cw_order.specs.OrderCosts.{weight_at}
use Rattle.cw_order.specs.OrderMachine.{carry_out}
use Rattle.cw_order.specs.Starting.{started_by}
use Rattle.cw_gen_expr.specs.Pieces.{Piece, plain, followed_by, sequence, with_labels}
use Rattle.cw_gen_expr.specs.ReferenceExpressions.{at_line, saved, argument_words, store_orders, call_order, expression_piece, condition_piece, argument_piece, reference_of}
use Rattle.cw_gen_expr.specs.BuiltExpressions.{most_levels, within, is_expression, is_condition, built_reference}
use Rattle.cw_gen_expr.proofs.Layers.{total}
use Rattle.cw_safety.proofs.Truth.{both}
use Rattle.cw_carry.proofs.Expressions.Standing.{Stands, Made, both_made, saved_made, one_made, parted_made}
use Rattle.cw_carry.proofs.Expressions.Carried.{Leads, here, past, Via, wider, after_call, takes_number, who_of, going, beginning}
use Rattle.cw_carry.proofs.Expressions.Stepping.{Compiled, source, target, Belong, quietly, work_size, order_here, silent}
use Rattle.cw_carry.proofs.Expressions.Moments.{a_level, Moment, here_in, layout, scope, has_words, code, marks, At, Leads_to, at_close, past_save, StepsNoting, config, next}
use Rattle.cw_carry.proofs.Expressions.Values.{given_at}
use Rattle.cw_gen_unit.specs.ReferenceStatements.{begin_orders, after_statement_call, jump_order, jump_piece, begun_loop, parted_piece, jump_past, statement_piece}
use Rattle.cw_gen_unit.specs.Endings.{list_ends, ends_behind, comes_to_end}
use Rattle.cw_gen_unit.proofs.Layers.{statement_layer, statement-made, statement_size, size_layer, statement-size, with_ends, ending_layer, ending-is}
use Rattle.cw_gen_unit.specs.SimpleLoops.{simple_step}
use Rattle.cw_gen_unit.specs.BuiltStatements.{is_jump, all_within, is_statement, are_elements}
use Rattle.cw_carry.proofs.Statements.Shapes.{built_layer, statement-built}
use Rattle.cw_carry.proofs.Statements.Sites.{StatementSite, ElementSite, FirstSite, BeginningSite, sites}
use Rattle.cw_carry.proofs.Statements.Rings.{ByAddress}
use Rattle.cw_carry.proofs.Statements.Branches.{past_second, ends_here}
use Rattle.cw_gen_unit.specs.ReferenceUnits.{answer_of}

module _ (c : Compiled) (at_sites : (g : ℕ) (u : SourceUnit) (who : Option ℕ) → c.places g u who ≡ sites c.orders_for u who (c.has_words g u who)) (sizes : c.statement_size ≡ statement_size) (t : Moment c) where
  abbrev who : Option ℕ
  who = who_of t.acts

  abbrev answer : ℕ
  answer = answer_of t.unit who

  abbrev Site : (q : ℕ) → Stmt → (levels n : ℕ) → Type 0
  Site = StatementSite c.orders_for t.unit who (has_words c t)

  -- what follows a statement
  abbrev After : (j n : ℕ) → Work → Type 0
  After j n k = Via (code c t) (marks c t) j n false (λ x m. At c t x m false k)

  wide : (j n : ℕ) (k : Work) → j ≤ most_levels → After j n k → Leads_to c t n false false k
  wide j n k le v = (v.0, v.1, wider (code c t) (marks c t) j most_levels n false v.0 v.1 le v.2, v.3)

  -- the scale of an answer
  answers_at : (acts : List Activation) (u : SourceUnit) → slice_get c.units (segment_of t.segment acts) ≡ Some u → answer_scale_of (source c) acts ≡ answer_of u (who_of acts)
  answers_at [] u is = refl
  answers_at (a ∷ acts) u is = ap (λ v. fraction_of_answer (procedure_in v a.procedure)) is

  becomes_work : (s : Stmt) (x : Stmt-F Stmt) (k : Work) (w : Words) → out-Stmt s ≡ x → next c t (Run s k) w ≡ config c t (statement_work answer x k) w
  becomes_work s x k w is = ap₂ (λ f y. config c t (statement_work f y k) w) (answers_at t.acts t.unit t.unit_is) is

  -- what is noted of a statement that begins: its line, where it is begun as a whole
  abbrev noting : Words → ℕ → Begun
  noting w line = (here_in c t + 1, line, w.memory)

  notes_line : (s : Stmt) (x : Stmt-F Stmt) (k : Work) (w : Words) → out-Stmt s ≡ x → begins (config c t (Run s k) w) ≡ map (noting w) (line_of x)
  notes_line s x k w is = ap (λ y. map (noting w) (line_of y)) is

  -- it starts, where what follows its start belongs to the work that it becomes
  starts_with : (s : Stmt) (x : Stmt-F Stmt) (k : Work) (line q : ℕ) (w : Words) → out-Stmt s ≡ x → line_of x ≡ line ∷ [] → slice_get (code c t) q ≡ Some (order.Start line) → Belong c (config c t (statement_work answer x k) w) (state (here_in c t) (q + 1) false t.calls_below w Running) → StepsNoting c t (Run s k) q false w
  starts_with s x k line q w is line_is start belongs =
      let g = here_in c t in
      let at_q = order_here c t.segment t.acts t.calls_below t.unit t.unit_is q (order.Start line) start in
      let e = becomes_work s x k w is in
      let u = state g (q + 1) false t.calls_below w Running in
      record {
        spent = 1;
        reached = u;
        notes = same {rest = 0} (ap shown e)
            (ap (λ o. started_by o g w) at_q ∙ sym (notes_line s x k w is ∙ ap (map (noting w)) line_is))
            (let z : 1 ≡ weight_at (order_at (target c) g q) + 0 = omega (arith, ap weight_at at_q) in z)
            (stay (ap (λ o. carry_out (target c) o g q false t.calls_below w) at_q) refl);
        within = (let z : 1 ≤ 224 = omega arith in z);
        belongs = subst (λ d. Belong c d u) (sym e) belongs;
        progress = inl (let z : 0 < 1 = omega arith in z);
      }

  begun : (s : Stmt) (x : Stmt-F Stmt) (k : Work) (line q : ℕ) (w : Words) → out-Stmt s ≡ x → line_of x ≡ line ∷ [] → slice_get (code c t) q ≡ Some (order.Start line) → At c t (q + 1) false false (statement_work answer x k) → StepsNoting c t (Run s k) q false w
  begun s x k line q w is line_is start carried = starts_with s x k line q w is line_is start (going t.unit t.unit_is false tt carried t.calls)

  -- by no order, where no statement begins
  passes : (s : Stmt) (x : Stmt-F Stmt) (k : Work) (q : ℕ) (w : Words) → out-Stmt s ≡ x → line_of x ≡ [] → Leads_to c t q false false (statement_work answer x k) → work_size c (statement_work answer x k) < work_size c (Run s k) → StepsNoting c t (Run s k) q false w
  passes s x k q w is no_line carried less =
      quietly c (silent c t.segment t.acts t.calls_below t.unit t.unit_is t.calls (Run s k) (statement_work answer x k) q false false w (becomes_work s x k w is) tt carried less)
      (notes_line s x k w is ∙ ap (map (noting w)) no_line)

  -- the start and the rest of a statement
  started : (line : ℕ) (p : Piece) (q n free last : ℕ) → Made (code c t) (marks c t) (followed_by (plain (begin_orders line)) p q free) q n free last → (m : ℕ) × (slice_get (code c t) q ≡ Some (order.Start line)) × Made (code c t) (marks c t) (p (q + 1) m) (q + 1) n m last
  started line p q n free last made =
      let parts = both_made (code c t) (marks c t) (plain (begin_orders line)) p q n free last made in
      (parts.1, parts.2.0.0, subst (λ z. Made (code c t) (marks c t) (p z parts.1) z n parts.1 last) (sym parts.2.0.1) parts.3)

  one_value : (e : Expr) (f line q n free last : ℕ) (p : Piece) (k : Work) → IsTrue (is_expression t.unit (has_words c t) e f most_levels) → Made (code c t) (marks c t) (followed_by (expression_piece (at_line line (scope c t)) e f) p q free) q n free last → ((x m : ℕ) → Made (code c t) (marks c t) (p x m) x n m last → At c t x true false k) → At c t q false false (Eval e f line k)
  one_value e f line q n free last p k b made carried =
      let parts = both_made (code c t) (marks c t) (expression_piece (at_line line (scope c t)) e f) p q n free last made in
      (parts.0, 64, 0, free, parts.1, b, parts.2, (let z : 0 + 64 ≤ 64 = omega arith in z), refl, at_close c t parts.0 true false k (carried parts.0 parts.1 parts.3))

  -- a value that is saved
  saved_value : (e : Expr) (f line q n free last : ℕ) (p : Piece) (k : Work) → IsTrue (is_expression t.unit (has_words c t) e f most_levels) → Made (code c t) (marks c t) (followed_by (expression_piece (at_line line (scope c t)) e f) (followed_by saved p) q free) q n free last → ((x m : ℕ) → Made (code c t) (marks c t) (p x m) x n m last → At c t x false false k) → At c t q false false (Eval e f line k)
  saved_value e f line q n free last p k b made carried =
      let parts = saved_made (code c t) (marks c t) (expression_piece (at_line line (scope c t)) e f) p q n free last made in
      (parts.0, 64, 0, free, parts.1, b, parts.2, (let z : 0 + 64 ≤ 64 = omega arith in z), refl, past_save c t 0 parts.0 false k parts.3 (at_close c t (parts.0 + 1) false false k (carried (parts.0 + 1) parts.1 parts.4)))

  -- an address and a store
  stored_at : (r : Ref) (line q n free last : ℕ) (os : List Order) (k' : Work) → IsTrue (built_reference t.unit (has_words c t) r).good → Made (code c t) (marks c t) (followed_by (reference_of (at_line line (scope c t)) r).address (plain os) q free) q n free last → ((x : ℕ) → Stands (code c t) x os n → At c t x true true k') → At c t q false false (Address r line k')
  stored_at r line q n free last os k' b made carried =
      let parts = one_made (code c t) (marks c t) (reference_of (at_line line (scope c t)) r).address os q n free last made in
      (parts.0, free, parts.1, b, parts.2, refl, (parts.0, true, here refl refl, carried parts.0 parts.3))

  after_is : (tg : Target) → after_statement_call tg ≡ after_call tg false
  after_is (target_of.Own p) = refl
  after_is _ = refl

  abbrev site_is : (q : ℕ) (s : Stmt) (levels n : ℕ) → Site q s levels n → (c.places (here_in c t) t.unit who).StatementAt q s levels n
  site_is q s levels n h = subst (λ p. p.StatementAt q s levels n) (sym (at_sites (here_in c t) t.unit who)) h

  -- the members of a list
  row_at : (ss : List Stmt) (before : Bool) (k : Work) (q n free last levels j : ℕ) → IsTrue before → IsTrue (all_within t.unit (has_words c t) who answer levels (map (is_statement t.unit (has_words c t) who answer) ss)) → Made (code c t) (marks c t) (sequence (map (statement_piece (scope c t) who answer) ss) q free) q n free last → j + levels ≤ 64 → (IsTrue (list_ends before (with_ends ss)) → After j n k) → After j q (run_all ss k)
  row_at [] before k q n free last levels j reached b made le after = subst (λ p. After j p k) (sym made.0) (after reached)
  row_at (s ∷ ss) before k q n free last levels j reached b made le after =
      let bs = both (is_statement t.unit (has_words c t) who answer s levels) (all_within t.unit (has_words c t) who answer levels (map (is_statement t.unit (has_words c t) who answer) ss)) b in
      let parts = both_made (code c t) (marks c t) (statement_piece (scope c t) who answer s) (sequence (map (statement_piece (scope c t) who answer) ss)) q n free last made in
      (q, false, here refl refl, (parts.0, levels, j, site_is q s levels parts.0 (free, parts.1, bs.0, parts.2), le, refl, (λ ends. row_at ss (ends_behind before s (comes_to_end s)) k parts.0 n parts.1 last levels j (ends_here before s reached ends) bs.1 parts.3 le after)))

  row_size : (ss : List Stmt) (k : Work) → work_size c (run_all ss k) ≡ total (map statement_size ss) + work_size c k
  row_size [] k = omega arith
  row_size (s ∷ ss) k = omega (arith, row_size ss k, ap (λ f. f s) sizes)

  jump_site : (q line : ℕ) (d : Dest) → slice_get (code c t) q ≡ Some (jump_order (at_line line (scope c t)) who d) → At c t q (takes_number d) false (Jump d line)
  jump_site q line d h = (subst (λ p. p.JumpAt line q d) (sym (at_sites (here_in c t) t.unit who)) h, refl)

  -- a jump, after the index of a switch
  gone : (s : Stmt) (k : Work) (line : ℕ) (d : Dest) (q n free last : ℕ) (w : Words) → out-Stmt s ≡ statement.Go line d → IsTrue (is_jump t.unit (has_words c t) who answer d) → Made (code c t) (marks c t) (followed_by (plain (begin_orders line)) (jump_piece (at_line line (scope c t)) who d) q free) q n free last → StepsNoting c t (Run s k) q false w
  gone s k line (dest.Goal g) q n free last w is b made =
      let at = started line (jump_piece (at_line line (scope c t)) who (dest.Goal g)) q n free last made in
      begun s (statement.Go line (dest.Goal g)) k line q w is refl at.1 (jump_site (q + 1) line (dest.Goal g) at.2.0.0)
  gone s k line (dest.Special m) q n free last w is b made =
      let at = started line (jump_piece (at_line line (scope c t)) who (dest.Special m)) q n free last made in
      begun s (statement.Go line (dest.Special m)) k line q w is refl at.1 (jump_site (q + 1) line (dest.Special m) at.2.0.0)
  gone s k line (dest.Switch m e) q n free last w is b made =
      let d = dest.Switch m e in
      let at = started line (jump_piece (at_line line (scope c t)) who d) q n free last made in
      begun s (statement.Go line d) k line q w is refl at.1
      (one_value e 0 line (q + 1) n at.0 last (plain (jump_order (at_line line (scope c t)) who d ∷ [])) (Jump d line) b at.2 (λ x y m'. jump_site x line d m'.0.0))
  gone s k line (dest.CommonSwitch m e) q n free last w is b made =
      let d = dest.CommonSwitch m e in
      let at = started line (jump_piece (at_line line (scope c t)) who d) q n free last made in
      begun s (statement.Go line d) k line q w is refl at.1
      (one_value e 0 line (q + 1) n at.0 last (plain (jump_order (at_line line (scope c t)) who d ∷ [])) (Jump d line) b at.2 (λ x y m'. jump_site x line d m'.0.0))
  gone s k line (dest.SpecialSwitch m e) q n free last w is b made =
      let d = dest.SpecialSwitch m e in
      let at = started line (jump_piece (at_line line (scope c t)) who d) q n free last made in
      begun s (statement.Go line d) k line q w is refl at.1
      (one_value e 0 line (q + 1) n at.0 last (plain (jump_order (at_line line (scope c t)) who d ∷ [])) (Jump d line) b at.2 (λ x y m'. jump_site x line d m'.0.0))

  -- the parts of a FOR stand where its orders do
  abbrev Loops : Type 0
  Loops = (line item : ℕ) (r : Ref) (es : List Felem) (body : Stmt) (q n free last : ℕ) → IsTrue (has_words c t item 4) → length es < 32767 → IsTrue (are_elements t.unit (has_words c t) who answer (out-Ref r).f es) → IsTrue (is_statement t.unit (has_words c t) who answer body 64) → IsTrue (built_reference t.unit (has_words c t) r).good → Made (code c t) (marks c t) (begun_loop (at_line line (scope c t)) (simple_step (layout c t) item r es) item r es (statement_piece (scope c t) who answer body) q free) q n free last
      → BeginningSite c.orders_for t.unit who (has_words c t) q r (loop_of line item r es body) n ⊎ ByAddress c.orders_for t.unit who (has_words c t) r (loop_of line item r es body) q free n

  module _ (s : Stmt) (line item : ℕ) (r : Ref) (es : List Felem) (body : Stmt) (k : Work) (q n j : ℕ) (w : Words) (is : out-Stmt s ≡ statement.For line item r es body) (start : slice_get (code c t) q ≡ Some (order.Start line)) (good : IsTrue (built_reference t.unit (has_words c t) r).good) (words : IsTrue (has_words c t item 4)) (le : suc j ≤ 64) (after : After j n k) where
    abbrev x : Loop
    x = loop_of line item r es body

    element_carried : (z : ℕ) → ElementSite c.orders_for t.unit who (has_words c t) z 1 x n ⊎ FirstSite c.orders_for t.unit who (has_words c t) z 1 x n → At c t z false false (Element 1 x k)
    element_carried z site = (n, j, subst (λ p. p.ElementAt z 1 x n) (sym (at_sites (here_in c t) t.unit who)) site, le, refl, after)

    as_whole : BeginningSite c.orders_for t.unit who (has_words c t) (q + 1) r x n → StepsNoting c t (Run s k) q false w
    as_whole site =
        starts_with s (statement.For line item r es body) k line q w is refl start
        (beginning t.unit t.unit_is r x k n j (subst (λ p. p.BeginningAt (q + 1) r x n) (sym (at_sites (here_in c t) t.unit who)) site) le after t.calls)

    by_address : (free : ℕ) → ByAddress c.orders_for t.unit who (has_words c t) r x (q + 1) free n → StepsNoting c t (Run s k) q false w
    by_address free (y, m, z, address, kept, site) =
        begun s (statement.For line item r es body) k line q w is refl start
        (y, free, m, good, address, refl, (y, true, here refl refl, (z, words, (let v : 0 < 4 = omega arith in v), kept, refl, (z, false, here refl refl, element_carried z site))))

    loop_begun : (free : ℕ) → BeginningSite c.orders_for t.unit who (has_words c t) (q + 1) r x n ⊎ ByAddress c.orders_for t.unit who (has_words c t) r x (q + 1) free n → StepsNoting c t (Run s k) q false w
    loop_begun free site = ⊎_elim (as_whole) (by_address free) site

  module _ (loops : Loops) where
    runs : (s : Stmt) (x : Stmt-F Stmt) (k : Work) (q n free last levels j : ℕ) (w : Words) → out-Stmt s ≡ x → IsTrue (built_layer t.unit (has_words c t) who answer x levels) → Made (code c t) (marks c t) (statement_layer (scope c t) who answer x q free) q n free last → j + levels ≤ 64 → (IsTrue (ending_layer x) → After j n k) → StepsNoting c t (Run s k) q false w
    runs s (statement.Put line r e) k q n free last levels j w is b made le after =
        let f = (out-Ref r).f in
        let bs = both (built_reference t.unit (has_words c t) r).good (is_expression t.unit (has_words c t) e f most_levels) b in
        let rest = followed_by (reference_of (at_line line (scope c t)) r).address (plain (store_orders (out-Ref r).field)) in
        let at = started line (followed_by (expression_piece (at_line line (scope c t)) e f) (followed_by saved rest)) q n free last made in
        let k1 = Do (Store (out-Ref r).field) line k in
        begun s (statement.Put line r e) k line q w is refl at.1
        (saved_value e f line (q + 1) n at.0 last rest (Address r line k1) bs.1 at.2
        (λ y m made'. stored_at r line y n m last (store_orders (out-Ref r).field) k1 bs.0 made' (λ z stands. (n, refl, stands, refl, wide j n k (let v : j ≤ 64 = omega (arith, le) in v) (after refl)))))
    runs s (statement.PutBits line d b' r e) k q n free last levels j w is b made le after =
        let bs = both (built_reference t.unit (has_words c t) r).good (is_expression t.unit (has_words c t) e 0 most_levels) b in
        let rest = followed_by (reference_of (at_line line (scope c t)) r).address (plain (order.StorePart d b' ∷ [])) in
        let at = started line (followed_by (expression_piece (at_line line (scope c t)) e 0) (followed_by saved rest)) q n free last made in
        let k1 = Do (StoreBits d b') line k in
        begun s (statement.PutBits line d b' r e) k line q w is refl at.1
        (saved_value e 0 line (q + 1) n at.0 last rest (Address r line k1) bs.1 at.2
        (λ y m made'. stored_at r line y n m last (order.StorePart d b' ∷ []) k1 bs.0 made' (λ z stands. (n, refl, stands, refl, wide j n k (let v : j ≤ 64 = omega (arith, le) in v) (after refl)))))
    runs s (statement.Go line d) k q n free last levels j w is b made le after = gone s k line d q n free last w is b made
    runs s (statement.Call line tg args) k q n free last levels j w is b made le after =
        let os = call_order (at_line line (scope c t)) tg ∷ after_statement_call tg in
        let given = sequence (map (argument_piece (at_line line (scope c t))) args) in
        let at = started line (followed_by given (plain os)) q n free last made in
        let parts = one_made (code c t) (marks c t) given os (q + 1) n at.0 last at.2 in
        let stands = subst (λ xs. Stands (code c t) parts.0 (call_order (at_line line (scope c t)) tg ∷ xs) n) (after_is tg) parts.3 in
        begun s (statement.Call line tg args) k line q w is refl at.1
        (given_at c t args line (q + 1) parts.0 at.0 parts.1 (Enter tg line false k) false b parts.2
        (λ r. (n, stands, refl, refl, wide j n k (let v : j ≤ 64 = omega (arith, le) in v) (after refl))))
    runs s (statement.Answer line e) k q n free last levels j w is b made le after =
        let bs = both (is_some who) (is_expression t.unit (has_words c t) e answer most_levels) b in
        let rest = plain (order.Return (argument_words (scope c t).parameters) true ∷ []) in
        let at = started line (followed_by (expression_piece (at_line line (scope c t)) e answer) rest) q n free last made in
        begun s (statement.Answer line e) k line q w is refl at.1
        (one_value e answer line (q + 1) n at.0 last rest Return bs.1 at.2 (λ y m made'. (made'.0.0, refl)))
    runs s (statement.If line d a b) k q n free last levels j w is built made le after =
        let sa = is_statement t.unit (has_words c t) who answer a in
        let sb = is_statement t.unit (has_words c t) who answer b in
        let tests = both (is_condition t.unit (has_words c t) d) (within levels sa && sb levels) built in
        let branches = both (within levels sa) (sb levels) tests.1 in
        let level = a_level levels sa branches.0 in
        let pa = statement_piece (scope c t) who answer a in
        let pb = statement_piece (scope c t) who answer b in
        let between = jump_past (comes_to_end a) b in
        let at = started line (parted_piece (condition_piece (at_line line (scope c t)) d) between pa pb) q n free last made in
        let m = at.0 in
        let ch = parted_made (code c t) (marks c t) (condition_piece (at_line line (scope c t)) d) between pa pb (q + 1) n m last at.2 in
        let closed : After j n k → After j ch.end k = λ v. (v.0, v.1, past ch.end_marks (subst (λ x. Leads (code c t) (marks c t) j x false v.0 v.1) (sym ch.next_is) v.2), v.3) in
        let behind_first : IsTrue (comes_to_end a) → After (suc j) ch.middle k = λ ends.
        let v = closed (after (or_left (comes_to_end a) (comes_to_end b) ends)) in
        (v.0, v.1, past_second (code c t) (marks c t) (scope c t) who answer (condition_piece (at_line line (scope c t)) d) a b (q + 1) n m last ch j v.0 v.1 ends v.2, v.3) in
        let behind_second : IsTrue (comes_to_end b) → After j ch.end k = λ ends. closed (after (or_right (comes_to_end a) (comes_to_end b) ends)) in
        begun s (statement.If line d a b) k line q w is refl at.1 (
          false,
          m + 1,
          ch.other,
          ch.first,
          m + 1 + 1,
          ch.first_free,
          tests.0,
          ch.condition_made,
          ch.other_is,
          refl,
          (ch.first, false, here refl refl, (ch.middle, level.0, suc j, site_is ch.first a level.0 ch.middle (ch.first_free, ch.second_free, level.2, ch.first_made), (let v : suc j + level.0 ≤ 64 = omega (arith, le, level.1) in v), refl, behind_first)),
          (ch.second, false, past ch.other_marks (here ch.second_is refl), (ch.end, levels, j, site_is ch.second b levels ch.end (ch.second_free, last, branches.1, ch.second_made), le, refl, behind_second)),
        )
    runs s (statement.For line item r es body) k q n free last levels j w is b made le after =
        let f = (out-Ref r).f in
        let sb = is_statement t.unit (has_words c t) who answer body in
        let b1 = both (built_reference t.unit (has_words c t) r).good (has_words c t item 4 && (nat_lt (length es) 32767 && (are_elements t.unit (has_words c t) who answer f es && (within levels (λ m. true) && sb most_levels)))) b in
        let b2 = both (has_words c t item 4) (nat_lt (length es) 32767 && (are_elements t.unit (has_words c t) who answer f es && (within levels (λ m. true) && sb most_levels))) b1.1 in
        let b3 = both (nat_lt (length es) 32767) (are_elements t.unit (has_words c t) who answer f es && (within levels (λ m. true) && sb most_levels)) b2.1 in
        let b4 = both (are_elements t.unit (has_words c t) who answer f es) (within levels (λ m. true) && sb most_levels) b3.1 in
        let b5 = both (within levels (λ m. true)) (sb most_levels) b4.1 in
        let level = a_level levels (λ m. true) b5.0 in
        let at = started line (begun_loop (at_line line (scope c t)) (simple_step (layout c t) item r es) item r es (statement_piece (scope c t) who answer body)) q n free last made in
        let stands = loops line item r es body (q + 1) n at.0 last b2.0 (ltb-true (length es) 32767 b3.0) b4.0 b5.1 b1.0 at.2 in
        loop_begun s line item r es body k q n j w is at.1 b1.0 b2.0 (let v : suc j ≤ 64 = omega (arith, le, level.1) in v) (after refl) at.0 stands
    runs s (statement.Seq ss) k q n free last levels j w is b made le after =
        passes s (statement.Seq ss) k q w is refl
        (wide j q (run_all ss k) (let v : j ≤ 64 = omega (arith, le) in v) (row_at ss true k q n free last levels j refl b made le after))
        (let less : work_size c (run_all ss k) < c.statement_size s + work_size c k = omega (arith, row_size ss k, ap (λ f. f s) sizes, statement-size s ∙ ap size_layer is) in less)
    runs s (statement.Mark ls u) k q n free last levels j w is b made le after =
        let parts = both_made (code c t) (marks c t) (with_labels ls) (statement_piece (scope c t) who answer u) q n free last made in
        passes s (statement.Mark ls u) k q w is refl
        (parts.0, false, past parts.2.0.0 (here parts.2.0.1 refl), (n, levels, j, site_is parts.0 u levels n (parts.1, last, b, parts.3), le, refl, after))
        (let less : c.statement_size u + work_size c k < c.statement_size s + work_size c k = omega (arith, ap (λ f. f s) sizes, ap (λ f. f u) sizes, statement-size s ∙ ap size_layer is) in less)

    pub statement_follows : (s : Stmt) (k : Work) (q n levels j : ℕ) (w : Words) → Site q s levels n → j + levels ≤ 64 → (IsTrue (comes_to_end s) → After j n k) → StepsNoting c t (Run s k) q false w
    statement_follows s k q n levels j w (free, last, b, made) le after =
        runs s (out-Stmt s) k q n free last levels j w refl (sym (ap (λ f. f levels) (statement-built t.unit (has_words c t) who answer s)) ∙ b)
        (subst (λ p. Made (code c t) (marks c t) (p q free) q n free last) (statement-made (scope c t) who answer s) made)
        le (λ ends. after (ending-is s ∙ ends))
