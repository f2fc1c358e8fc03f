-- The machine of the orders of units tracks their meaning.
use Rattle.std.proofs.Common.{◌≡◌, ◌≢◌, ℕ, ◌+◌, ◌<◌, ◌≤◌, List, [], ◌∷◌, ◌++◌, length, false, Some, None, refl, sym, ap, ap₂, ◌∙◌, subst, arith}
use Rattle.std.specs.Prelude.{All, slice_get, option_map}
use Rattle.std.proofs.lemmas.Option.{slice_get-map}
use Rattle.std.proofs.lemmas.List.Elements.{All-nil}
use Rattle.cw_word.specs.FixedPoint.{FitsWord}
use Rattle.cw_track.specs.Tracking.{Tracks}
use Rattle.cw_track.specs.Watching.{watched}
use Rattle.cw_unit.specs.declared.unit.Unit.{Unit as SourceUnit}
use Rattle.cw_unit.specs.declared.unit.Label.{Label}
use Rattle.cw_unit.specs.declared.unit.Proc.{Proc}
use Rattle.cw_unit.specs.declared.layout.Limits.{Limits}
use Rattle.cw_unit.specs.declared.layout.Map.{Map}
use Rattle.cw_unit.specs.Stop.{Running}
use Rattle.cw_unit.specs.Words.{Words}
use Rattle.cw_unit.specs.Work.{Nothing, Run, Leave}
use Rattle.cw_unit.specs.LabelContinuation.{label_continuation}
use Rattle.cw_unit.specs.Configuration.{at as configuration}
use Rattle.cw_unit.specs.Step.{steps}
use Rattle.cw_unit.specs.InitialMemory.{initial_memory}
use Rattle.cw_unit.specs.Behaviour.{is_running, first_body, initial_configuration}
use Rattle.cw_unit.specs.Begun as begun
use Rattle.cw_order.specs.OrderState.{OrderState, at as state}
use Rattle.cw_order.specs.OrderMachine.{entry_of, order_start, step as order_step}
use Rattle.cw_order.specs.Starting.{starts}
use Rattle.cw_order.specs.FittingWords.{OperandFits, ActivationFits, StateFits}
use Rattle.cw_gen_expr.specs.UnitTables.{label_mark, procedure_mark, first_mark}
use Rattle.cw_carry.proofs.Expressions.Standing.{ends_at, behind, before, both_made}
use Rattle.cw_carry.proofs.Expressions.Carried.{here, LeavesAt, CarriedIn, going}
use Rattle.cw_gen_expr.specs.ReferenceEntries.{parameters_in, parameters_of, scope_of}
use Rattle.cw_gen_expr.specs.ReferenceExpressions.{argument_words}
use Rattle.cw_gen_unit.specs.ReferenceStatements.{statement_piece}
use Rattle.cw_order.specs.declared.order.Order.{Order}
use Rattle.cw_carry.proofs.Expressions.Stepping.{Compiled, source, target, orders, A}
use Rattle.cw_carry.proofs.Expressions.Calls.{ProcedureAt}
use Rattle.cw_carry.proofs.Expressions.Jumps.{LabelsReach}
use Rattle.cw_carry.proofs.Expressions.Whole.{SoundAt, tracked}
use Rattle.cw_gen_unit.proofs.Layers.{statement_size}
use Rattle.cw_carry.proofs.Statements.Sites.{sites}
use Rattle.cw_gen_unit.specs.ReferenceUnits.{answer_of}
use Rattle.cw_carry.proofs.Statements.Rules.{rules}
use Rattle.cw_carry.proofs.Statements.Labels.{body_reaches, known}
use Rattle.cw_gen_unit.specs.ReferenceUnits.{place_of}
use Rattle.cw_carry.proofs.Statements.Bodies.{length-definitions, length-places, label_placed, unit_made, body_stands, StandsAmong, each_stands}
use Rattle.cw_gen_unit.specs.ReferenceUnits.{unit_orders, body_piece, definition_places, procedures_piece, entries_of, procedure_labels, labels_in, label_places, unit_piece}
use Rattle.cw_gen_unit.specs.BuiltUnits.{HasWords, Built}

abbrev pub compiled : List SourceUnit → Map → Limits → (room : ℕ) → HasWords → Compiled
compiled us m limits room h = record {
  units = us;
  addresses = m;
  limits = limits;
  room = room;
  orders_for = unit_orders;
  places = λ g u who. sites unit_orders u who (h g u who);
  has_words = h;
  statement_size = statement_size;
}

module _ (us : List SourceUnit) (m : Map) (limits : Limits) (room : ℕ) (h : HasWords) (built : Built us h) where
  abbrev c : Compiled
  c = compiled us m limits room h

  pub begins : (g : ℕ) (v : SourceUnit) → slice_get us g ≡ Some v → CarriedIn us m limits unit_orders c.places h g v None 0 false false (Run v.body Nothing)
  begins g v is =
      let all = unit_made v in
      let parts = both_made (unit_orders v).list (unit_orders v).marks (body_piece v) (procedures_piece v 0 v.procs) 0 all.0 (first_mark v) all.1 all.2 in
      let body = body_stands v (unit_orders v).list (unit_orders v).marks parts.0 (first_mark v) parts.1 parts.2 in
      (body.0, 64, 0, (first_mark v, body.1, built.bodies g v is, body.2), (let z : 0 + 64 ≤ 64 = omega arith in z), refl, (λ ends. (body.0, false, here refl refl, (body.3, refl))))

  -- the parts of the table of marks
  abbrev second_place : SourceUnit → ℕ
  second_place v = 0 + length (body_piece v 0 (first_mark v)).orders

  abbrev second_free : SourceUnit → ℕ
  second_free v = first_mark v + length (body_piece v 0 (first_mark v)).marks

  abbrev lists : SourceUnit → List (List (ℕ × ℕ))
  lists v = procedure_labels v 0 v.procs (second_place v) (second_free v)

  abbrev places : SourceUnit → List ℕ
  places v = label_places 0 v.labels (body_piece v 0 (first_mark v)).labels (lists v)

  abbrev entries : SourceUnit → List ℕ
  entries v = entries_of v 0 v.procs (second_place v) (second_free v)

  abbrev defined : SourceUnit → List ℕ
  defined v = definition_places (places v) (entries v) v.defined

  -- the mark of a procedure is in the table
  marked : (v : SourceUnit) (p entry : ℕ) → slice_get (entries v) p ≡ Some entry → slice_get (unit_orders v).marks (procedure_mark v p) ≡ Some entry
  marked v p entry e =
      let x = unit_piece v 0 (first_mark v) in
      let first : length v.defined + (length v.labels + p) ≡ length (defined v) + (length (places v) + p) = ap₂ (λ a b. a + (b + p)) (sym (length-definitions (places v) (entries v) v.defined)) (sym (length-places 0 v.labels (body_piece v 0 (first_mark v)).labels (lists v))) in
      ap (slice_get (defined v ++ (places v ++ (entries v ++ x.marks)))) first
      ∙ behind (defined v) (places v ++ (entries v ++ x.marks)) (length (places v) + p)
      ∙ behind (places v) (entries v ++ x.marks) p
      ∙ before (entries v) x.marks p entry e

  -- so is that of a label
  label_marked : (v : SourceUnit) (label : ℕ) (m : Label) (q : ℕ) → slice_get v.labels label ≡ Some m → place_of label (labels_in (body_piece v 0 (first_mark v)).labels (lists v) m.proc) ≡ Some q → slice_get (unit_orders v).marks (label_mark v label) ≡ Some q
  label_marked v label m q m_is e =
      let x = unit_piece v 0 (first_mark v) in
      let first : length v.defined + label ≡ length (defined v) + label = ap (λ a. a + label) (sym (length-definitions (places v) (entries v) v.defined)) in
      ap (slice_get (defined v ++ (places v ++ (entries v ++ x.marks)))) first
      ∙ behind (defined v) (places v ++ (entries v ++ x.marks)) label
      ∙ before (places v) (entries v ++ x.marks) label q (label_placed 0 v.labels (body_piece v 0 (first_mark v)).labels (lists v) label m q m_is (ap (λ i. place_of i (labels_in (body_piece v 0 (first_mark v)).labels (lists v) m.proc)) (let z : 0 + label ≡ label = omega arith in z) ∙ e))

  -- a procedure, its entry and its labels
  stands : (v : SourceUnit) (p : ℕ) (q : Proc) → slice_get v.procs p ≡ Some q → StandsAmong v (unit_orders v).list (unit_orders v).marks p p q (entries v) (lists v)
  stands v p q q_is =
      let code = (unit_orders v).list in
      let marks = (unit_orders v).marks in
      let all = unit_made v in
      let b = body_piece v 0 (first_mark v) in
      let parts = both_made code marks (body_piece v) (procedures_piece v 0 v.procs) 0 all.0 (first_mark v) all.1 all.2 in
      let each = each_stands v code marks 0 v.procs parts.0 all.0 parts.1 all.1 parts.3 p q q_is in
      let place : second_place v ≡ parts.0 = ends_at code 0 b.orders parts.0 parts.2.0 in
      let mark : second_free v ≡ parts.1 = ends_at marks (first_mark v) b.marks parts.1 parts.2.1 in
      let none : 0 + p ≡ p = omega arith in
      subst (λ j. StandsAmong v code marks p j q (entries v) (lists v)) none
      (subst (λ y. StandsAmong v code marks p (0 + p) q (entries_of v 0 v.procs (second_place v) y) (procedure_labels v 0 v.procs (second_place v) y)) (sym mark)
      (subst (λ x. StandsAmong v code marks p (0 + p) q (entries_of v 0 v.procs x parts.1) (procedure_labels v 0 v.procs x parts.1)) (sym place) each))

  pub procedures : (g p : ℕ) (v : SourceUnit) (q : Proc) → slice_get us g ≡ Some v → slice_get v.procs p ≡ Some q → ProcedureAt c g v p q
  procedures g p v q is q_is =
      let each = stands v p q q_is in
      let there = each.2 in
      record {
        entry = each.0;
        marked = marked v p each.0 each.1;
        few = built.few g p v q is q_is;
        items = built.items g p v q is q_is;
        start = there.start;
        enters = there.enters;
        after = there.after;
        body = (there.free, there.last, built.procedures g p v q is q_is, there.body);
        leaves = there.leaves;
      }

  parameters_here : (v : SourceUnit) (p : ℕ) (q : Proc) (code : List Order) (place : ℕ) → slice_get v.procs p ≡ Some q → LeavesAt code place (argument_words q.params) → LeavesAt code place (argument_words (parameters_of v (Some p)))
  parameters_here v p q code place is h = subst (λ x. LeavesAt code place (argument_words (parameters_in x))) (sym is) h

  -- each label is reached
  pub reaches : LabelsReach c
  reaches = record {
    of_body = λ g v label k is m m_is none k_is.
        let all = unit_made v in
        let parts = both_made (unit_orders v).list (unit_orders v).marks (body_piece v) (procedures_piece v 0 v.procs) 0 all.0 (first_mark v) all.1 all.2 in
        let body = body_stands v (unit_orders v).list (unit_orders v).marks parts.0 (first_mark v) parts.1 parts.2 in
        let labels = (statement_piece (scope_of v None) None 0 v.body 0 (first_mark v)).labels in
        let there = body_reaches unit_orders v None (h g v None) label v.body Nothing 0 body.0 (first_mark v) body.1 64 0 (built.bodies g v is) body.2 (let z : 0 + 64 ≤ 64 = omega arith in z) (λ ends. (body.0, false, here refl refl, (body.3, refl))) in
        let at = known unit_orders v None (h g v None) label (place_of label labels) (label_continuation label v.body Nothing) there k k_is in
        record {
          place = at.0;
          marked = label_marked v label m at.0 m_is (ap (λ x. place_of label (labels_in (body_piece v 0 (first_mark v)).labels (lists v) x)) none ∙ ap (place_of label) body.4 ∙ at.1);
          carried = at.2;
        };
    of_procedure = λ g p v proc label k is p_is m m_is own k_is.
        let each = stands v p proc p_is in
        let st = each.2 in
        let labels = (statement_piece (scope_of v (Some p)) (Some p) (answer_of v (Some p)) proc.body st.start st.free).labels in
        let there = body_reaches unit_orders v (Some p) (h g v (Some p)) label proc.body Leave st.start st.after st.free st.last 64 0 (built.procedures g p v proc is p_is) st.body (let z : 0 + 64 ≤ 64 = omega arith in z) (λ ends. (st.after, false, here refl refl, (parameters_here v p proc (unit_orders v).list st.after p_is (st.leaves ends), refl))) in
        let at = known unit_orders v (Some p) (h g v (Some p)) label (place_of label labels) (label_continuation label proc.body Leave) there k k_is in
        record {
          place = at.0;
          marked = label_marked v label m at.0 m_is (ap (λ x. place_of label (labels_in (body_piece v 0 (first_mark v)).labels (lists v) x)) own ∙ ap (λ x. place_of label (elim x [ None ↦ [] | Some ls ↦ ls ])) each.3 ∙ ap (place_of label) st.labels_are ∙ at.1);
          carried = at.2;
        };
  }

  -- the first body, where there is one
  first : (vs : List SourceUnit) → vs ≢ [] → (u : SourceUnit) × (slice_get vs 0 ≡ Some u)
  first [] none = absurd (none refl)
  first (u ∷ vs) none = (u, refl)

  -- The theorem: for units whose memory fits and has positive addresses, and each configuration of whose run is sound, the orders show
  -- what the source shows, and begin the statements that it begins
  pub orders_track : (input : List ℕ) → us ≢ [] → limits.area ≤ 32768 → ((n : ℕ) → SoundAt c (steps (source c) n (initial_configuration (source c) input))) → All FitsWord (initial_memory us m limits.area) → All (λ b. b < 256) input → ((t : OrderState) → StateFits t → StateFits (order_step (target c) t)) → Tracks (λ o. is_running o.0) (watched (A c) begun.begins) (initial_configuration (source c) input, []) (watched (orders c) (starts (target c))) (order_start (target c) (initial_memory us m limits.area) input, [])
  orders_track input not_empty in_words sound fits bytes keeps =
      let body = first us not_empty in
      let w : Words = record { operands = []; memory = initial_memory us m limits.area; input = input; output = [] } in
      let first_work : initial_configuration (source c) input ≡ configuration 0 (Run body.0.body Nothing) [] w Running = ap (λ v. configuration 0 (first_body v) [] w Running) body.1 in
      let first_place : order_start (target c) (initial_memory us m limits.area) input ≡ state 0 0 false [] w Running = ap (λ v. state 0 (entry_of v) false [] w Running) (slice_get-map unit_orders us 0 ∙ ap (option_map unit_orders) body.1) in
      tracked c (rules c (λ g u who. refl) refl reaches begins procedures) in_words keeps (initial_configuration (source c) input) (order_start (target c) (initial_memory us m limits.area) input)
      (record {
        belongs = subst (λ x. Rattle.cw_carry.proofs.Expressions.Stepping.Belong c x (order_start (target c) (initial_memory us m limits.area) input)) (sym first_work) (subst (Rattle.cw_carry.proofs.Expressions.Stepping.Belong c (configuration 0 (Run body.0.body Nothing) [] w Running)) (sym first_place) (going body.0 body.1 false tt (begins 0 body.0 body.1) tt));
        sound = sound;
        words_fit = record {
          words = record { operands = All-nil OperandFits; memory = fits; input = bytes };
          activations = All-nil ActivationFits;
        };
      })
