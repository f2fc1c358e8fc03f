-- The processor follows the machine of the orders.
use Rattle.std.proofs.Common.{◌≡◌, ⊎_elim, inl, inr, ◌⊎◌, ℕ, zero, suc, ◌+◌, ◌-◌, ◌%◌, ◌<◌, ◌≤◌, Bool, true, false, List, [], ◌∷◌, ◌++◌, length, drop, Option, Some, None, refl, sym, ap, ap₂, ◌∙◌, subst, arith, lit<, lit≤, append_assoc}
use Rattle.std.specs.Prelude.{map, ◌&&◌, if◌then◌else◌, slice_get, slice_index}
use Rattle.std.proofs.lemmas.Option.{slice_get_within}
use Rattle.std.proofs.lemmas.Bool.{cases_Bool, cases_order, true≢false, false≢true}
use Rattle.cw_track.specs.Watching.{watched, noted}
use Rattle.cw_track.proofs.Paths.{Path, stay, next, weaken}
use Rattle.cw_track.proofs.Simulations.{Quiet}
use Rattle.cw_track.proofs.Watching.{Unnoted, unnoted}
use Rattle.cw_track.proofs.Owing.{FollowedOwing, SimulationOwing, follows_quietly, owes, waits as waits_on}
use Rattle.cw_track.specs.Machine.{Machine}
use Rattle.cw_i86.specs.MachineRun.{End}
use Rattle.cw_i86.specs.MachineRun as run
use Rattle.cw_image.specs.Begun.{lines_at, beginning, data_words}
use Rattle.cw_run86.specs.Processor.{Processor, processor_machine, processor_step, observed}
use Rattle.cw_run86.proofs.Tests.{left_of}
use Rattle.cw_unit.specs.Begun.{Begun}
use Rattle.cw_unit.specs.Behaviour.{Observation, is_running}
use Rattle.cw_unit.specs.Stop.{Running, Ended, Stopped, Stuck}
use Rattle.cw_unit.specs.Words.{Words, LabelControl, SwitchControl, ProcedureControl}
use Rattle.cw_unit.specs.Operation.{holds}
use Rattle.cw_order.specs.declared.order.Order.{Order}
use Rattle.cw_order.specs.declared.order.Order.TheVariants as order
use Rattle.cw_order.specs.OrderChanges.{ToMark, way_of_two, to_mark_if, comparison}
use Rattle.cw_order.specs.OrderState.{OrderActivation, OrderState, at}
use Rattle.cw_order.specs.OrderMachine.{carry_out, step, weight, shown, order_machine}
use Rattle.cw_order.specs.OrderProgram.{defined_at, order_in, order_at, place_of}
use Rattle.cw_order.specs.BeginsStatement.{BeginsStatement}
use Rattle.cw_order.specs.declared.order.Orders.{Orders}
use Rattle.cw_order.proofs.Unbegun.{NotBehind, AllFree, Free, not_behind_first, free_next}
use Rattle.cw_order.specs.Starting.{starts, started_by}
use Rattle.cw_order.specs.declared.order.Place.{Place}
use Rattle.cw_order.specs.declared.order.Place.TheVariants as cell
use Rattle.cw_tmpl.specs.declared.blocks.Simple.TheVariants as simple
use Rattle.cw_tmpl.specs.declared.blocks.Block.{Block}
use Rattle.cw_tmpl.specs.declared.blocks.Block.TheVariants as block
use Rattle.cw_tmpl.specs.Pieces.{blanks}
use Rattle.cw_tmpl.specs.Blocks.{address_orders, block_at, orders_left, left_at}
use Rattle.cw_tmpl.specs.Names.{label_start, procedure_start, switch_start}
use Rattle.cw_tmpl.specs.Templates.{distance, template_by, is_close, short_distance, block_size}
use Rattle.cw_tmpl.specs.ShortForms.{is_short}
use Rattle.cw_tmpl.specs.ReferenceCode.{mark_starts, names_of, order_places, reach_of}
use Rattle.cw_tmpl.proofs.Sizes.{size_everywhere, own_place, jump_arrives}
use Rattle.cw_follow.specs.Passing.{at_work, passes, size_at, NotBehindStart}
use Rattle.cw_follow.specs.Placing.{StandsBehind, base_of}
use Rattle.cw_follow.specs.Showing.{shown_as}
use Rattle.cw_follow.proofs.Watched.{Watched, watched_machine, over, fresh, unwatched, still_fresh, fresh_behind, nothing_begins}
use Rattle.cw_follow.proofs.Passed.{listed_place, notes_one}
use Rattle.cw_follow.proofs.Standing.{may_begin, first_of, is_start, behind_start, pieces_at, order_place, HasPiecesFrom, HasPieces}
use Rattle.cw_follow.proofs.Chains.{Leads, at_work as works, shows}
use Rattle.cw_follow.proofs.Orders.{Landed, jumps, chooses, short_jumps}
use Rattle.cw_tmpl.proofs.Shapes.{IsBlock, front_is, shape}
use Rattle.cw_follow.proofs.InBlocks.{begins_at, left_split, slice_drop}
use Rattle.cw_follow.proofs.States.{Given, Sound, Starting, LastStarts, length_in, left}
use Rattle.cw_follow.proofs.Steps.{FollowFrom, Follow, waits, passes_on, moves, Arrives, is_codeless, order_is, step_is, weight_is, stuck_here, wrong_way, sound_at, start, chosen, Alone, alone, code, behind, begins_next, begins_here, begins_block, begun_block, landed_here, silent, reaches_alone, short_alone}
use Rattle.cw_follow.proofs.Bodies.{ends_or_not}
use Rattle.cw_follow.proofs.Beginning.{begins_activation}
use Rattle.cw_follow.proofs.SwitchWays.{way_follows}
use Rattle.cw_follow.proofs.Loops.{set_follows, step_follows, put_follows, limit_follows, loop_follows, turn_follows}
use Rattle.cw_follow.proofs.Calling.{calls_own, calls_common, controls_own, owned, labels_common, switches_common, procedures_common, goes_to_main}
use Rattle.cw_follow.proofs.Jumping.{goes_common}
use Rattle.cw_follow.proofs.Switching.{switches_own, switches_by_descriptor}
use Rattle.cw_follow.proofs.Within.{frame_home, bind_static, bind_frame, come_back, enter_again, hand_on, call_special, go_special, switch_special}
use Rattle.cw_follow.proofs.WordOrders.{rescale_follows, multiply_follows, divide_follows, element_follows, element_of_two_follows, element_inside_follows, entry_follows}
use Rattle.cw_follow.proofs.Words.{save_follows, const_follows, home_follows, load_follows, store_follows, load_part_follows, store_part_follows, add_follows, subtract_follows, negate_follows, and_follows, or_follows, xor_follows, take_follows, less_follows, drop_follows, index_less_follows, in_area_follows, in_bounds_follows, read_follows, write_follows}
use Rattle.cw_follow.proofs.BlockOrders.{fetch_follows, assign_follows, divide_number_follows, write_top_follows}
use Rattle.cw_follow.proofs.UseBlocks.{operand_follows}
use Rattle.cw_follow.proofs.ElementBlocks.{fetch_element_follows, assign_element_follows, operate_element_follows}
use Rattle.cw_follow.proofs.BoundedBlocks.{bounded_follows}
use Rattle.cw_follow.proofs.RowBlocks.{row_follows}
use Rattle.cw_follow.proofs.PartBlocks.{fetch_part_follows, assign_part_follows}
use Rattle.cw_follow.proofs.NumberBlocks.{count_follows, halve_follows}
use Rattle.cw_follow.proofs.Naming.{some_same, own_label, own_switch}
use Rattle.cw_follow.proofs.ComparedWords.{compare_word_follows}
use Rattle.cw_follow.proofs.BothWords.{fetch_both_follows}
use Rattle.cw_follow.proofs.Opening.{fetch_both_opens, compare_word_opens, single_opens, fetch_opens, part_opens, element_opens}
use Rattle.cw_follow.proofs.Owed.{block_goes}
use Rattle.cw_follow.proofs.Routines.{Over}
use Rattle.cw_follow.proofs.StatementPlaces.{statement_here}
use Rattle.cw_follow.proofs.Strong.{may_of, pieces_below, begins_statement}
use Rattle.cw_tmpl.proofs.Reaching.{short_arrives}
use Rattle.cw_order.specs.declared.order.Comparator.{Comparator}

-- ---- notes

started_other : (o : Order) (g : ℕ) (w : Words) → is_start (Some o) ≡ false → started_by (Some o) g w ≡ []
started_other (order.Start n) g w other = absurd (true≢false other)
started_other _ g w other = refl

start_of : (o : Order) → is_start (Some o) ≡ true → (n : ℕ) × (o ≡ order.Start n)
start_of (order.Start n) is = (n, refl)
start_of _ is = absurd (false≢true is)

no_start : (o : Order) → is_start (Some o) ≡ false → (n : ℕ) → o ≡ order.Start n → ⊥
no_start o other n same = true≢false (sym (ap (λ x. is_start (Some x)) same) ∙ other)

codeless_begins : (o : Order) → is_codeless o ≡ true → may_begin o ≡ false
codeless_begins order.Mark is = refl
codeless_begins (order.Start n) is = refl
codeless_begins order.Drop is = refl
codeless_begins (order.Take t b) is = refl
codeless_begins _ is = absurd (false≢true is)

codeless_alone : (o : Order) → is_codeless o ≡ true → StandsBehind o → ⊥
codeless_alone order.Mark is h = h
codeless_alone (order.Start n) is h = h
codeless_alone order.Drop is h = h
codeless_alone (order.Take t b) is h = h
codeless_alone _ is h = absurd (false≢true is)

quiet_parts : {O E : Type 0} (a b : O) (o : O × List E) → Quiet (a, []) (b, []) o → Unnoted (Quiet a b) o
quiet_parts a b o (inl e) = (inl (ap (λ x. x.0) e), ap (λ x. x.1) e)
quiet_parts a b o (inr e) = (inr (ap (λ x. x.0) e), ap (λ x. x.1) e)

-- before the first instruction of a path on which nothing is noted nothing is
path_notes : (P : Observation → Type 0) (B : Machine Observation) (notes : B.State → List Begun) (n : ℕ) (t u : B.State) → 0 < n → Path (Unnoted P) (noted B notes) n t u → notes t ≡ []
path_notes P B notes n t u some (stay tu z) = absurd (omega arith)
path_notes P B notes n t u some (next a st we p) = a.1

-- where the processor rests nothing begins
rests_over : (e : End) (output : List ℕ) (begun : List Begun) → is_running (shown_as (record { output = output; end = e })) ≡ false → at_work e begun ≡ []
rests_over run.Running output begun off = absurd (true≢false off)
rests_over _ output begun off = refl

-- ---- places in a block

left_within : (left n : ℕ) (os : List Order) → n < left → 0 < left_at left os n
left_within left zero os lt = omega arith
left_within left (suc n) [] lt = omega arith
left_within zero (suc n) (o ∷ os) lt = absurd (omega arith)
left_within (suc left) (suc n) (o ∷ os) lt = left_within left n os (omega arith)

inside_left : (list : List Order) (k n : ℕ) → left_at 0 list k ≡ 0 → n < orders_left (block_at 0 (drop k list)) → 0 < left_at 0 list (k + suc n)
inside_left list k n begins lt = subst (λ m. 0 < m) (sym (left_split 0 list k (suc n) ∙ ap (λ m. left_at m (drop k list) (suc n)) begins)) (cases (drop k list) lt)
  where
    cases : (os : List Order) → n < orders_left (block_at 0 os) → 0 < left_at 0 os (suc n)
    cases [] lt = absurd (omega arith)
    cases (o ∷ os) lt = left_within (orders_left (block_at 0 (o ∷ os))) n os lt

-- code stands below 65,536
code_short : (known : Given) (o : Orders) (g k : ℕ) (a : Order) → slice_get known.p.units g ≡ Some o → slice_get o.list k ≡ Some a → 0 < size_at o k a → length known.image.bytes ≤ 65536 → order_place (base_of known.p g) o k < 65536
code_short known o g k a unit e some fits =
    let st = known.all.stands g o unit in
    let long = size_everywhere (names_of o) (own_place o k) k (is_short (reach_of o) k (block_at (left_at 0 o.list k) (drop k o.list)) a) (block_at (left_at 0 o.list k) (drop k o.list)) a in
    let below = pieces_below _ known.image st.value (order_place (base_of known.p g) o k) (pieces_at o k a) (let l : 0 < length (blanks (pieces_at o k a)) = omega arith in l) (st.orders k a e) in
    omega arith

module _ (known : Given) where
  open known use {rows, p, image, all, coded, few, low, places_stand}

  -- the processor with the observer who is told the places of the image
  abbrev pub watch : Processor → Watched
  watch q = fresh image.places p.limits.area q

  abbrev notes : Processor → List Begun
  notes q = passes image.places p.limits.area q

  -- What is owed before a block that begins with this order: where a statement may begin there, what the observer notes there.
  abbrev owed_by : Option Order → Processor → List Begun
  owed_by None q = []
  owed_by (Some o) q = if may_begin o then notes q else []

  -- The orders and the processor match, and the processor owes this. No caller goes on behind a Start.
  abbrev pub MatchesOwing : List Begun → OrderState → Processor → Type 0
  MatchesOwing es (at g place loaded acts w Running) q =
      ((m : Sound p image g place loaded acts w (watch q)) × (es ≡ owed_by (slice_get m.orders.list m.from) q) × AllFree p acts) ⊎ (LastStarts p image g place loaded acts w (watch q) × (es ≡ []) × AllFree p acts)
  MatchesOwing es (at g place loaded acts w Ended) q = Over (record { output = w.output; end = Ended }) (watch q) × (es ≡ [])
  MatchesOwing es (at g place loaded acts w (Stopped kind s l)) q = Over (record { output = w.output; end = Stopped kind s l }) (watch q) × (es ≡ [])
  MatchesOwing es (at g place loaded acts w Stuck) q = ⊥

  abbrev Owing : List Begun → OrderState → Processor → Type 0
  Owing es s q = FollowedOwing (order_machine p) (processor_machine shown_as) (starts p) (passes image.places p.limits.area) MatchesOwing (left p) es s q

  module _ {q : Processor} {g place : ℕ} {acts : List OrderActivation} {w : Words} where
    -- jumps to a mark, near and short
    jump_by : (loaded : Bool) (s : Sound p image g place loaded acts w (watch q)) (a : Alone p image g place loaded acts w (watch q) s.orders) (m : ℕ) → slice_get s.orders.list place ≡ Some (order.Jump m)
        → (short : Bool) → (short ≡ true → is_close (own_place s.orders place + 2) (mark_starts s.orders m) ≡ true)
        → HasPiecesFrom (first_of (order.Jump m) (behind_start s.orders.list place)) image (all.stands g s.orders s.unit).value (order_place (base_of p g) s.orders place) (template_by short (names_of s.orders) (own_place s.orders place) place (order.Jump m))
        → FollowFrom known (over (first_of (order.Jump m) (begins_here known s)) (watch q)) (at g place loaded acts w Running) (watch q)
    jump_by loaded s a m e short close i = cases short close i
      where
        own : ℕ
        own = own_place s.orders place

        to : ℕ
        to = mark_starts s.orders m

        cases : (short : Bool) → (short ≡ true → is_close (own + 2) to ≡ true)
            → HasPiecesFrom (first_of (order.Jump m) (behind_start s.orders.list place)) image (all.stands g s.orders s.unit).value (order_place (base_of p g) s.orders place) (template_by short (names_of s.orders) own place (order.Jump m))
            → FollowFrom known (over (first_of (order.Jump m) (begins_here known s)) (watch q)) (at g place loaded acts w Running) (watch q)
        cases true close i =
            chosen known s loaded 0 (ToMark m w) 1 (begins_next known s a (order.Jump m) e) (step_is known s (Some (order.Jump m)) e) (weight_is known s (order.Jump m) e)
            (short_jumps rows p image g acts (start known s m) (short_distance (own + 2) to) loaded w (short_arrives (base_of p g) own 2 to (close refl)) i.0 (landed_here known s a))
        cases false close i =
            chosen known s loaded 0 (ToMark m w) 1 (begins_next known s a (order.Jump m) e) (step_is known s (Some (order.Jump m)) e) (weight_is known s (order.Jump m) e)
            (jumps rows p image g acts (start known s m) (distance (own + 3) to) loaded w (jump_arrives (base_of p g) own 3 to) i.0 (landed_here known s a))

    jump_if_by : (s : Sound p image g place true acts w (watch q)) (a : Alone p image g place true acts w (watch q) s.orders) (c : Comparator) (m : ℕ) → slice_get s.orders.list place ≡ Some (order.JumpIf c m)
        → (short : Bool) → (short ≡ true → is_close (own_place s.orders place + 5) (mark_starts s.orders m) ≡ true)
        → order_place (base_of p g) s.orders place + block_size short block.Single (order.JumpIf c m) ≡ order_place (base_of p g) s.orders (place + 1)
        → HasPieces image (all.stands g s.orders s.unit).value (order_place (base_of p g) s.orders place) (template_by short (names_of s.orders) (own_place s.orders place) place (order.JumpIf c m))
        → FollowFrom known (over (first_of (order.JumpIf c m) (begins_here known s)) (watch q)) (at g place true acts w Running) (watch q)
    jump_if_by s a c m e short close ends i = cases short close ends i
      where
        own : ℕ
        own = own_place s.orders place

        to : ℕ
        to = mark_starts s.orders m

        cases : (short : Bool) → (short ≡ true → is_close (own + 5) to ≡ true) → order_place (base_of p g) s.orders place + block_size short block.Single (order.JumpIf c m) ≡ order_place (base_of p g) s.orders (place + 1)
            → HasPieces image (all.stands g s.orders s.unit).value (order_place (base_of p g) s.orders place) (template_by short (names_of s.orders) own place (order.JumpIf c m)) → FollowFrom known (over (first_of (order.JumpIf c m) (begins_here known s)) (watch q)) (at g place true acts w Running) (watch q)
        cases true close ends i =
            let paid : 4 ≤ weight p (at g place true acts w Running) = let x = weight_is known s (order.JumpIf c m) e in omega arith in
            chosen known s false 0 (way_of_two (λ x y v. to_mark_if (holds (comparison c) x y) m v) w) 4 (begins_next known s a (order.JumpIf c m) e) (step_is known s (Some (order.JumpIf c m)) e) paid
            (chooses rows p image g acts true (order_place (base_of p g) s.orders (place + 1)) (short_distance (own + 5) to) (start known s) c m w.operands w.memory w.input w.output ends
            (short_arrives (base_of p g) own 5 to (close refl)) s.fits.words.operands i a.landed)
        cases false close ends i =
            let paid : 4 ≤ weight p (at g place true acts w Running) = let x = weight_is known s (order.JumpIf c m) e in omega arith in
            chosen known s false 0 (way_of_two (λ x y v. to_mark_if (holds (comparison c) x y) m v) w) 4 (begins_next known s a (order.JumpIf c m) e) (step_is known s (Some (order.JumpIf c m)) e) paid
            (chooses rows p image g acts false (order_place (base_of p g) s.orders (place + 1)) (distance (own + 8) to) (start known s) c m w.operands w.memory w.input w.output ends
            (jump_arrives (base_of p g) own 8 to) s.fits.words.operands i a.landed)

    -- an order, where the accumulator is as it wants it; where it is the other way the orders would be stuck
    follow_order : (loaded : Bool) (s : Sound p image g place loaded acts w (watch q)) (a : Alone p image g place loaded acts w (watch q) s.orders) (o : Order) → slice_get s.orders.list place ≡ Some o → FollowFrom known (over (first_of o (begins_here known s)) (watch q)) (at g place loaded acts w Running) (watch q)
    follow_order loaded s a order.Mark e = silent known s a order.Mark loaded w e (step_is known s (Some order.Mark) e) refl refl (λ at l. l)
    follow_order loaded s a (order.Jump m) e = jump_by loaded s a m e (short_alone known s a (order.Jump m)) (reaches_alone known s a (order.Jump m) m e refl) (code known s a (order.Jump m) e)
    follow_order loaded s a (order.Start n) e = silent known s a (order.Start n) loaded w e (step_is known s (Some (order.Start n)) e) refl refl (λ at l. l)
    follow_order true s a (order.Return n true) e = come_back known acts s a n e
    follow_order false s a (order.Return n false) e = come_back known acts s a n e
    follow_order true s a order.Save e = save_follows known s a e
    follow_order false s a (order.Const n) e = const_follows known s a n e
    follow_order false s a (order.Home family offset) e = home_follows known s a family offset e
    follow_order false s a (order.FrameHome n) e = frame_home known acts s a n e
    follow_order true s a order.Load e = load_follows known s a e
    follow_order true s a order.Store e = store_follows known s a e
    follow_order true s a (order.LoadPart t b is_signed) e = load_part_follows known s a t b is_signed e
    follow_order true s a (order.StorePart t b) e = store_part_follows known s a t b e
    follow_order true s a (order.Rescale from to line) e = rescale_follows known s a from to line e
    follow_order true s a (order.Add line) e = add_follows known s a line e
    follow_order true s a (order.Sub line) e = subtract_follows known s a line e
    follow_order true s a (order.Neg line) e = negate_follows known s a line e
    follow_order true s a (order.Mul power line) e = multiply_follows known s a power line e
    follow_order true s a (order.Div power line) e = divide_follows known s a power line e
    follow_order true s a order.And e = and_follows known s a e
    follow_order true s a order.Or e = or_follows known s a e
    follow_order true s a order.Xor e = xor_follows known s a e
    follow_order true s a (order.Take t b) e = take_follows known s a t b e
    follow_order true s a order.Less e = less_follows known s a e
    follow_order true s a order.Drop e = drop_follows known s a e
    follow_order true s a (order.IndexLess lower line) e = index_less_follows known s a lower line e
    follow_order true s a (order.Element lower span line) e = element_follows known s a lower span line e
    follow_order true s a (order.ElementOfTwo lower second width line) e = element_of_two_follows known s a lower second width line e
    follow_order true s a (order.ElementInside lower second width span) e = element_inside_follows known s a lower second width span e
    follow_order true s a (order.Entry width word span line) e = entry_follows known s a width word span line e
    follow_order true s a (order.InArea line) e = in_area_follows known s a line e
    follow_order true s a (order.InBounds lower upper line) e = in_bounds_follows known s a lower upper line e
    follow_order false s a order.ReadByte e = read_follows known s a e
    follow_order false s a order.WriteByte e = write_follows known s a e
    follow_order true s a (order.JumpIf c m) e =
        jump_if_by s a c m e (short_alone known s a (order.JumpIf c m)) (reaches_alone known s a (order.JumpIf c m) m e refl) (behind known s a (order.JumpIf c m) e) (code known s a (order.JumpIf c m) e)
    follow_order true s a (order.Exhausted m) e = limit_follows known s a m e
    follow_order true s a (order.SetVariable line) e = set_follows known s a line e
    follow_order true s a (order.AddStep line) e = step_follows known s a line e
    follow_order true s a (order.PutVariable line) e = put_follows known s a line e
    follow_order false s a (order.NextStep x line m) e = turn_follows known s a x line m e
    follow_order true s a (order.LoopWay marks) e = loop_follows known s a marks e
    follow_order true s a (order.SwitchWay marks line) e = way_follows known s a marks line e
    follow_order false s a order.NextBody e = ends_or_not known s a e acts refl
    follow_order false s a (order.CallProc n line) e = calls_own known s a n line e
    follow_order false s a (order.CallCommon d line) e = calls_common known s a d line e (defined_at p g d) refl
    follow_order false s a (order.CallSpecial k line) e = call_special known acts s a k line e
    follow_order false s a (order.Enter size) e = enter_again known acts s size e
    follow_order false s a (order.Bind k family offset) e = bind_static known acts s a k family offset e
    follow_order false s a (order.BindFrame k offset) e = bind_frame known acts s a k offset e
    follow_order false s a (order.LabelOut l) e = controls_own known s a (LabelControl g l (length acts)) (order.LabelOut l) (λ o. label_start (names_of o) l) e refl (lit≤ tt) refl refl (owned known s a, λ o unit. own_label known s l (order.LabelOut l) e refl o unit) (code known s a (order.LabelOut l) e)
    follow_order false s a (order.LabelCommon d) e = labels_common known s a d e
    follow_order false s a (order.SwitchOut n) e = controls_own known s a (SwitchControl g n (length acts)) (order.SwitchOut n) (λ o. switch_start (names_of o) n) e refl (lit≤ tt) refl refl (owned known s a, λ o unit. own_switch known s n (order.SwitchOut n) e refl o unit) (code known s a (order.SwitchOut n) e)
    follow_order false s a (order.SwitchCommon d) e = switches_common known s a d e
    follow_order false s a (order.ProcOut n) e = controls_own known s a (ProcedureControl g n) (order.ProcOut n) (λ o. procedure_start (names_of o) n) e refl (lit≤ tt) refl refl tt (code known s a (order.ProcOut n) e)
    follow_order false s a (order.ProcCommon d) e = procedures_common known s a d e
    follow_order false s a (order.SpecialOut k) e = hand_on known acts s a k e
    follow_order false s a (order.GoMain m) e = goes_to_main known s a m e
    follow_order false s a (order.GoCommon d) e = goes_common known s a d e (defined_at p g d) refl
    follow_order false s a (order.GoSpecial k) e = go_special known acts s a k e
    follow_order true s a (order.GoSwitch n line) e = switches_own known s a n line e
    follow_order true s a (order.GoSwitchCommon d line) e = switches_by_descriptor known s a d line e (defined_at p g d) refl
    follow_order true s a (order.GoSwitchSpecial k line) e = switch_special known acts s a k line e
    follow_order _ s a o e = absurd (wrong_way known s o e refl)

  module _ {q : Processor} {g place : ℕ} {loaded : Bool} {acts : List OrderActivation} {w : Words} (s : Sound p image g place loaded acts w (watch q)) where
    -- the order with which the block at work begins
    record First : Type 0 where
      order : Order
      listed : slice_get s.orders.list s.from ≡ Some order
      shows : may_begin order ≡ true → shown_as (observed (processor_step q)) ≡ shown (at g place loaded acts w Running)
      follows : FollowFrom known (over (first_of order (begins_block known s)) (watch q)) (at g place loaded acts w Running) (watch q)

    front : (o : Order) (os : List Order) → drop s.from s.orders.list ≡ o ∷ os → slice_get s.orders.list s.from ≡ Some o
    front o os e = let here : s.from + 0 ≡ s.from = omega arith in ap (slice_get s.orders.list) (sym here) ∙ sym (slice_drop s.orders.list s.from 0) ∙ ap (λ l. slice_get l 0) e

    -- one that does not begin a statement
    other : (o : Order) (os : List Order) → may_begin o ≡ false → drop s.from s.orders.list ≡ o ∷ os → Follow known (at g place loaded acts w Running) (watch q) → First
    other o os never e f = record {
      order = o;
      listed = front o os e;
      shows = λ may. absurd (true≢false (sym may ∙ never));
      follows = subst (λ b. FollowFrom known (over (b && begins_block known s) (watch q)) (at g place loaded acts w Running) (watch q)) (sym never) f;
    }

    -- the address of a place
    address : (x : Place) (os : List Order) → drop s.from s.orders.list ≡ address_orders x ++ os → shown_as (observed (processor_step q)) ≡ shown (at g place loaded acts w Running)
        → FollowFrom known (begun_block known s) (at g place loaded acts w Running) (watch q) → First
    address (cell.Word f n) os e opens follows = record { order = order.Home f n; listed = front (order.Home f n) os e; shows = λ may. opens; follows = follows }
    address (cell.Frame n) os e opens follows = record { order = order.FrameHome n; listed = front (order.FrameHome n) os e; shows = λ may. opens; follows = follows }

    alone_first : (o : Order) → slice_get s.orders.list place ≡ Some o → block_at 0 (drop s.from s.orders.list) ≡ block.Single → First
    alone_first o e is =
        let a = alone known s is in
        let here = single_from is in
        record {
          order = o;
          listed = ap (slice_get s.orders.list) here ∙ e;
          shows = single_opens known loaded s a o e;
          follows = subst (λ n. FollowFrom known (over (first_of o (behind_start s.orders.list n)) (watch q)) (at g place loaded acts w Running) (watch q)) (sym here) (follow_order loaded s a o e);
        }
      where
        single_from : block_at 0 (drop s.from s.orders.list) ≡ block.Single → s.from ≡ place
        single_from is =
            let inside = s.inside in
            let none : orders_left (block_at 0 (drop s.from s.orders.list)) ≡ 0 = ap orders_left is in
            let placed = s.place_is in
            omega arith

    follow_block : (b : Block) (o : Order) → slice_get s.orders.list place ≡ Some o → block_at 0 (drop s.from s.orders.list) ≡ b → IsBlock b (drop s.from s.orders.list) → First
    follow_block (block.Within n) o e is sh = absurd sh
    follow_block block.Single o e is sh = alone_first o e is
    follow_block (block.Fetch x) o e is sh = address x _ sh (fetch_opens known s x _ sh is) (fetch_follows known s x _ sh is)
    follow_block (block.Assign x) o e is sh = other order.Save _ refl sh (assign_follows known s x _ sh is)
    follow_block block.Write o e is sh = other order.Save _ refl sh (write_top_follows known s _ sh is)
    follow_block (block.Divide x line) o e is sh = other order.Save _ refl sh.0 (divide_number_follows known s x line _ sh.0 sh.1 is)
    follow_block (block.Operate (simple.Element x) u) o e is sh = other order.Save _ refl sh.0 (operate_element_follows known s x u _ sh.0 sh.1 is)
    follow_block (block.Operate (simple.Number n) u) o e is sh = other order.Save _ refl sh.0 (operand_follows known s (simple.Number n) tt u _ sh.0 is)
    follow_block (block.Operate (simple.Contents x) u) o e is sh = other order.Save _ refl sh.0 (operand_follows known s (simple.Contents x) tt u _ sh.0 is)
    follow_block (block.FetchPart x t b is_signed) o e is sh = address x _ sh.0 (part_opens known s x t b is_signed _ sh.0 is) (fetch_part_follows known s x t b is_signed _ sh.0 sh.1 is)
    follow_block (block.AssignPart x t b) o e is sh = other order.Save _ refl sh.0 (assign_part_follows known s x t b _ sh.0 sh.1 is)
    follow_block (block.FetchElement x) o e is sh = address x.index _ (sh.0 ∙ append_assoc (address_orders x.index) _ _) (element_opens known s x _ sh.0 is) (fetch_element_follows known s x _ sh.0 sh.1 is)
    follow_block (block.AssignElement x) o e is sh = other order.Save _ refl sh.0 (assign_element_follows known s x _ sh.0 sh.1 is)
    follow_block (block.Count down line) o e is sh = other order.Save _ refl sh (count_follows known s down line _ sh is)
    follow_block (block.Halve x power places line) o e is sh = other order.Save _ refl sh.0 (halve_follows known s x power places line _ sh.0 sh.1 is)
    follow_block (block.FetchBoth n m) o e is sh = address (cell.Frame n) _ sh (fetch_both_opens known s n m _ sh is) (fetch_both_follows known s n m _ sh is)
    follow_block (block.CompareWord n x c m) o e is sh = address (cell.Frame n) _ sh (compare_word_opens known s n x c m _ sh is) (compare_word_follows known s n x c m _ sh is)
    follow_block (block.Bounded x) o e is sh = other (order.InBounds x.bounds.lower x.bounds.upper x.bounds.line) _ refl sh.0 (bounded_follows known s x _ sh.0 sh.1 is)
    follow_block (block.Row x) o e is sh = other (order.InBounds x.rows.lower x.rows.upper x.rows.line) _ refl sh.0 (row_follows known s x _ sh.0 sh.1 is)

  -- ---- what is owed where the processor has come

  -- no Start stands before a mark
  marks_free : (g m place : ℕ) → place_of p g m ≡ Some place → NotBehind p g place
  marks_free g m place is = elim (coded.marks g m place is) as (λ _. NotBehind p g place) [
    | inl first ↦ not_behind_first p g place first
    | inr other ↦ (λ j line e start.
        let b = coded.begins g j line start in
        let next : j + 1 ≡ place = omega arith in
        let here : order_at p g place ≡ Some b.0 = ap (order_at p g) (sym next) ∙ b.1 in
        let same : b.0 ≡ other.0 = let x = other.1 in cc in
        other.3 (subst BeginsStatement same b.2))
  ]

  none_noted : (q : Processor) → lines_at image.places q.state.instruction_pointer ≡ [] → notes q ≡ []
  none_noted q none = ap (λ ls. at_work q.end (map (λ x. (x.0, x.1, data_words 0 p.limits.area q.state)) ls)) none ∙ nothing_begins q.end

  module _ {q : Processor} {g place : ℕ} {loaded : Bool} {acts : List OrderActivation} {w : Words} (m : Sound p image g place loaded acts w (watch q)) where
    at_from : (x : Order) → slice_get m.orders.list m.from ≡ Some x → 0 < size_at m.orders m.from x → (ls : List (ℕ × ℕ)) → lines_at image.places (base_of p g + slice_index (order_places m.orders) m.from) ≡ ls
        → lines_at image.places q.state.instruction_pointer ≡ ls
    at_from x e some ls is =
        let short = code_short known m.orders g m.from x m.unit e some m.landed.stacked.is.sees.fits in
        let whole : order_place (base_of p g) m.orders m.from % 65536 ≡ order_place (base_of p g) m.orders m.from = omega arith in
        ap (lines_at image.places) (m.landed.stacked.is.sees.place ∙ whole ∙ sym (listed_place (base_of p g) m.orders m.from x e)) ∙ is

    -- where it has come to a block that does not stand behind a Start, nothing is
    owes_nothing : m.done ≡ 0 → NotBehind p g place → [] ≡ owed_by (slice_get m.orders.list m.from) q
    owes_nothing arrived free = cases (slice_get m.orders.list m.from) refl
      where
        from_here : m.from ≡ place
        from_here = let placed = m.place_is in omega arith

        not_behind : NotBehindStart m.orders.list m.from
        not_behind j line e start = free j line (sym from_here ∙ e) (ap (λ u. order_in u j) m.unit ∙ start)

        cases : (o : Option Order) → slice_get m.orders.list m.from ≡ o → [] ≡ owed_by o q
        cases None e = refl
        cases (Some o) e = may (may_begin o) refl
          where
            may : (b : Bool) → may_begin o ≡ b → [] ≡ (if b then notes q else [])
            may false is = refl
            may true is =
                let some = statement_here m.orders m.from o e m.begins (begins_statement o is) in
                sym (none_noted q (at_from o e some [] (places_stand.others g m.from m.orders o m.unit e some not_behind)))

  arrives_owing : (t : OrderState) (q : Processor) → Arrives known t (watch q) → Free p t → MatchesOwing [] t q
  arrives_owing (at g place loaded acts w Running) q (inl m) free = inl (m.0, owes_nothing m.0 m.1 free.0, free.1)
  arrives_owing (at g place loaded acts w Running) q (inr m) free = inr (m, refl, free.1)
  arrives_owing (at g place loaded acts w Ended) q m free = (m, refl)
  arrives_owing (at g place loaded acts w (Stopped kind s l)) q m free = (m, refl)
  arrives_owing (at g place loaded acts w Stuck) q m free = absurd m

  arrives_silent : (t : OrderState) (u : Watched) → Arrives known t u → u.begun ≡ []
  arrives_silent (at g place loaded acts w Running) u (inl m) = m.0.landed.stacked.is.silent
  arrives_silent (at g place loaded [] w Running) u (inr m) = absurd m
  arrives_silent (at g place loaded (a ∷ acts) w Running) u (inr m) = m.called_at.is.silent
  arrives_silent (at g place loaded acts w Ended) u m = m.silent
  arrives_silent (at g place loaded acts w (Stopped kind s l)) u m = m.silent
  arrives_silent (at g place loaded acts w Stuck) u m = absurd m

  -- ---- each order

  -- the block that goes on is the same
  same_from : {q : Processor} {g place : ℕ} {loaded loaded' : Bool} {acts acts' : List OrderActivation} {w w' : Words} (m : Sound p image g place loaded acts w (watch q)) (n : Sound p image g (place + 1) loaded' acts' w' (watch q))
      → m.orders ≡ n.orders → 0 < n.done → m.from ≡ n.from
  same_from {place = place} m n same some = elim (cases_order m.from n.from) [
    | inl is ↦ is
    | inr (inl less) ↦ absurd (
        let k = n.from - suc m.from in
        let placed = m.place_is in let placed' = n.place_is in let inside = m.inside in
        let there : m.from + suc k ≡ n.from = omega arith in
        let left = inside_left m.orders.list m.from k m.begins (omega arith) in
        let none : left_at 0 m.orders.list (m.from + suc k) ≡ 0 = ap (left_at 0 m.orders.list) there ∙ ap (λ o. left_at 0 o.list n.from) same ∙ n.begins in
        omega arith)
    | inr (inr more) ↦ absurd (
        let k = m.from - suc n.from in
        let placed = m.place_is in let placed' = n.place_is in let inside = n.inside in
        let there : n.from + suc k ≡ m.from = omega arith in
        let left = inside_left n.orders.list n.from k n.begins (omega arith) in
        let none : left_at 0 n.orders.list (n.from + suc k) ≡ 0 = ap (left_at 0 n.orders.list) there ∙ sym (ap (λ o. left_at 0 o.list m.from) same) ∙ m.begins in
        omega arith)
  ]

  -- an order that stands in no block but its own begins one
  from_alone : {q : Processor} {g place : ℕ} {loaded : Bool} {acts : List OrderActivation} {w : Words} (m : Sound p image g place loaded acts w (watch q)) (o : Order) → slice_get m.orders.list place ≡ Some o → (StandsBehind o → ⊥) → m.from ≡ place
  from_alone {place = place} m o e never = cases m.done refl
    where
      cases : (n : ℕ) → m.done ≡ n → m.from ≡ place
      cases zero is = let placed = m.place_is in omega arith
      cases (suc n) is =
          let placed = m.place_is in
          let inside = m.inside in
          let there : m.from + suc n ≡ place = omega arith in
          let left = inside_left m.orders.list m.from n m.begins (omega arith) in
          let none : left_at 0 m.orders.list (m.from + suc n) ≡ 0 = ap (left_at 0 m.orders.list) there ∙ begins_at m.orders.list place o e never in
          absurd (omega arith)

  quiet_moves : (S : OrderState) (q : Processor) {spent : ℕ} {reached : Watched} → starts p S ≡ [] → Free p (step p S) → 0 < spent → spent ≤ weight p S → Path (Quiet (shown S, []) (shown (step p S), [])) watched_machine spent (watch q) reached
      → Arrives known (step p S) reached → Owing [] S q × (notes q ≡ [])
  quiet_moves S q {spent} {reached} none free some within path arrives =
      let before = shown S in
      let behind = shown (step p S) in
      let silent = arrives_silent (step p S) reached arrives in
      let quiet = unwatched (Quiet before behind) spent (watch q) reached refl (weaken (Quiet (before, []) (behind, [])) (Unnoted (Quiet before behind)) watched_machine spent (watch q) reached (quiet_parts before behind) path) silent in
      let there = arrives_owing (step p S) reached.processor (subst (Arrives known (step p S)) (fresh_behind (Quiet (before, []) (behind, [])) spent (watch q) reached some path silent) arrives) free in (
        follows_quietly (order_machine p) (processor_machine shown_as) (starts p) (passes image.places p.limits.area) MatchesOwing (left p) S q spent reached.processor (λ u. lit< tt) none within (inl some) quiet there,
        path_notes (Quiet before behind) (processor_machine shown_as) (passes image.places p.limits.area) spent q reached.processor some quiet,
      )

  module _ {q : Processor} {g place : ℕ} {loaded : Bool} {acts : List OrderActivation} {w : Words} (m : Sound p image g place loaded acts w (watch q)) (free : AllFree p acts) where
    abbrev here : OrderState
    here = at g place loaded acts w Running

    -- behind a Start its statement is owed
    starts_here : (n : ℕ) → slice_get m.orders.list place ≡ Some (order.Start n) → Owing (owed_by (slice_get m.orders.list m.from) q) (at g place loaded acts w Running) q
    starts_here n e =
        let o = order.Start n in
        let list = m.orders.list in
        let from = from_alone m o e (λ x. x) in
        let is : block_at 0 (drop m.from list) ≡ block.Single = ap (λ k. block_at 0 (drop k list)) from ∙ ap (block_at 0) (front_is list place o e) in
        let a = alone known m is in
        let goes : step p (at g place loaded acts w Running) ≡ at g (place + 1) loaded acts w Running = step_is known m (Some o) e in
        let size = behind known m a o e in
        let to : order_place (base_of p g) m.orders place ≡ order_place (base_of p g) m.orders (place + 1) = omega arith in
        let landed : Landed p image (order_place (base_of p g) m.orders (place + 1)) g loaded acts w (watch q) = subst (λ k. Landed p image k g loaded acts w (watch q)) to a.landed in
        let there = sound_at known m (place + 1) loaded w (watch q) (begins_next known m a o e) goes landed in
        let nothing : owed_by (slice_get list m.from) q ≡ [] = ap (λ k. owed_by (slice_get list k) q) from ∙ ap (λ y. owed_by y q) e in
        let b = coded.begins g place n (order_is known m (Some o) e) in
        let listed : slice_get list (place + 1) ≡ Some b.0 = sym (ap (λ u. order_in u (place + 1)) m.unit) ∙ b.1 in
        let may = may_of b.0 b.2 in
        let some = statement_here m.orders (place + 1) b.0 listed (begins_next known m a o e) b.2 in
        let same : m.orders ≡ there.0.orders = some_same (sym m.unit ∙ there.0.unit) in
        let placed = there.0.place_is in
        let zero = there.1 in
        let from_there : place + 1 ≡ there.0.from = omega arith in
        let next : suc place ≡ place + 1 = omega arith in
        let begun : lines_at image.places (order_place (base_of p g) m.orders (place + 1)) ≡ (g + 1, n) ∷ [] =
        ap (lines_at image.places) (sym (listed_place (base_of p g) m.orders (place + 1) b.0 listed)) ∙ ap (λ k. lines_at image.places (base_of p g + slice_index (order_places m.orders) k)) (sym next) ∙ places_stand.starts g place n m.orders m.unit e in
        let short = code_short known m.orders g (place + 1) b.0 m.unit listed some m.landed.stacked.is.sees.fits in
        let noted_there : passes image.places p.limits.area q ≡ (g + 1, n, w.memory) ∷ [] = notes_one rows.words p (g + 1) n short low refl begun m.fits.words.memory landed in
        let note : starts p (at g place loaded acts w Running) ≡ owed_by (slice_get there.0.orders.list there.0.from) q =
        ap (λ x. started_by x g w) (order_is known m (Some o) e) ∙ sym noted_there
        ∙ sym (ap₂ (λ l k. owed_by (slice_get l.list k) q) (sym same) (sym from_there) ∙ ap (λ y. owed_by y q) listed ∙ ap (λ c. if c then passes image.places p.limits.area q else []) may) in
        let within = slice_get_within list place o e in
        let long : length_in (slice_get p.units g) ≡ length list = ap length_in m.unit in
        let falls : left p (at g (place + 1) loaded acts w Running) < left p (at g place loaded acts w Running) = omega arith in
        owes nothing (weight_is known m o e) (lit< tt) (subst (λ t. MatchesOwing (starts p (at g place loaded acts w Running)) t q) (sym goes) (inl (there.0, note, free)))
        (subst (λ t. left p t < left p (at g place loaded acts w Running)) (sym goes) falls)

    module _ (o : Order) (e : slice_get m.orders.list place ≡ Some o) (plain : is_start (Some o) ≡ false) where
      free_step : Free p (step p (at g place loaded acts w Running))
      free_step = subst (Free p) (sym (step_is known m (Some o) e)) (free_next p marks_free coded.entries g place loaded acts w o (order_is known m (Some o) e) (no_start o plain) free)

      none_here : starts p (at g place loaded acts w Running) ≡ []
      none_here = ap (λ x. started_by x g w) (order_is known m (Some o) e) ∙ started_other o g w plain

      moved : (first : Order) → slice_get m.orders.list m.from ≡ Some first → (may_begin first ≡ true → shown_as (observed (processor_step q)) ≡ shown (at g place loaded acts w Running)) → (b : Bool) → first_of first (begins_block known m) ≡ b
          → {spent : ℕ} {reached : Watched} → 0 < spent → spent ≤ weight p (at g place loaded acts w Running) → Path (Quiet (shown (at g place loaded acts w Running), []) (shown (step p (at g place loaded acts w Running)), [])) watched_machine spent (over b (watch q)) reached
          → Arrives known (step p (at g place loaded acts w Running)) reached → Owing (owed_by (slice_get m.orders.list m.from) q) (at g place loaded acts w Running) q
      moved first listed shows false is some within path arrives =
          let quiet = quiet_moves (at g place loaded acts w Running) q none_here free_step some within path arrives in
          let nothing : owed_by (slice_get m.orders.list m.from) q ≡ [] = ap (λ y. owed_by y q) listed ∙ if_none (may_begin first) quiet.1 in
          subst (λ es. Owing es (at g place loaded acts w Running) q) (sym nothing) quiet.0
        where
          if_none : (b : Bool) → passes image.places p.limits.area q ≡ [] → (if b then passes image.places p.limits.area q else []) ≡ []
          if_none true none = none
          if_none false none = refl
      moved first listed shows true is {spent} {reached} some within path arrives =
          let S = at g place loaded acts w Running in
          let before = shown S in
          let behind = shown (step p S) in
          let silent = arrives_silent (step p S) reached arrives in
          let may : may_begin first ≡ true = left_of (may_begin first) (begins_block known m) is in
          let notes_it : passes image.places p.limits.area q ≡ owed_by (slice_get m.orders.list m.from) q = sym (ap (λ y. owed_by y q) listed ∙ ap (λ c. if c then passes image.places p.limits.area q else []) may) in
          let there = arrives_owing (step p S) reached.processor (subst (Arrives known (step p S)) (fresh_behind (Quiet (before, []) (behind, [])) spent (over true (watch q)) reached some path silent) arrives) free_step in
          block_goes (order_machine p) (starts p) MatchesOwing (left p) image.places p.limits.area (owed_by (slice_get m.orders.list m.from) q) S q reached spent none_here notes_it (inr (shows may)) some within silent
          (weaken (Quiet (before, []) (behind, [])) (Unnoted (Quiet before behind)) watched_machine spent (over true (watch q)) reached (quiet_parts before behind) path) there

      carried : (first : Order) → slice_get m.orders.list m.from ≡ Some first → (may_begin first ≡ true → shown_as (observed (processor_step q)) ≡ shown (at g place loaded acts w Running))
          → FollowFrom known (over (first_of first (begins_block known m)) (watch q)) (at g place loaded acts w Running) (watch q) → Owing (owed_by (slice_get m.orders.list m.from) q) (at g place loaded acts w Running) q
      carried first listed shows (waits {loaded = loaded'} {acts = acts'} {w = w'} goes n some falls) =
          let same : m.orders ≡ n.orders = some_same (sym m.unit ∙ n.unit) in
          let from = same_from m n same some in
          let owed_on : owed_by (slice_get m.orders.list m.from) q ≡ owed_by (slice_get n.orders.list n.from) q = ap₂ (λ l k. owed_by (slice_get l.list k) q) same from in
          let on : Free p (at g (place + 1) loaded' acts' w' Running) = subst (Free p) goes free_step in
          waits_on none_here (subst (λ t. MatchesOwing (owed_by (slice_get m.orders.list m.from) q) t q) (sym goes) (inl (n, owed_on, on.1))) falls
      carried first listed shows (passes_on x is codeless arrives falls) =
          let both : Some x ≡ Some o = sym is ∙ order_is known m (Some o) e in
          let same : x ≡ o = cc in
          let no_code : is_codeless o ≡ true = ap is_codeless (sym same) ∙ codeless in
          let from = from_alone m o e (codeless_alone o no_code) in
          let nothing : owed_by (slice_get m.orders.list m.from) q ≡ [] =
          ap (λ k. owed_by (slice_get m.orders.list k) q) from ∙ ap (λ y. owed_by y q) e ∙ ap (λ b. if b then passes image.places p.limits.area q else []) (codeless_begins o no_code) in
          waits_on none_here (subst (λ es. MatchesOwing es (step p (at g place loaded acts w Running)) q) (sym nothing) (arrives_owing (step p (at g place loaded acts w Running)) q arrives free_step)) falls
      carried first listed shows (moves some within path arrives) = moved first listed shows (first_of first (begins_block known m)) refl some within path arrives

    follow_place : (o : Option Order) → slice_get m.orders.list place ≡ o → Owing (owed_by (slice_get m.orders.list m.from) q) (at g place loaded acts w Running) q
    follow_place None e = absurd (stuck_here known m (step_is known m None e))
    follow_place (Some o) e = ⊎_elim
        (λ (is : is_start (Some o) ≡ true). let n = start_of o is in starts_here n.0 (e ∙ ap Some n.1))
        (λ (plain : is_start (Some o) ≡ false).
        let f = follow_block m (block_at 0 (drop m.from m.orders.list)) o e refl (shape (drop m.from m.orders.list)) in
        carried o e plain f.order f.listed f.shows f.follows)
        (cases_Bool (is_start (Some o)))

  -- the Enter of a call
  module _ {q : Processor} {g place : ℕ} {loaded : Bool} {a : OrderActivation} {acts : List OrderActivation} {w : Words} (m : Starting p image g place loaded a acts w (watch q)) (free : AllFree p (a ∷ acts)) where
    enters : FollowFrom known (watch q) (at g place loaded (a ∷ acts) w Running) (watch q) → Owing [] (at g place loaded (a ∷ acts) w Running) q
    enters (waits goes n some falls) = absurd (cases n.done refl)
      where
        listed : slice_get n.orders.list place ≡ Some (order.Enter m.beginning.size)
        listed = sym (ap (λ u. order_in u place) n.unit) ∙ m.beginning.order

        begins : left_at 0 n.orders.list place ≡ 0
        begins = ap (λ o. left_at 0 o.list place) (some_same (sym n.unit ∙ m.unit)) ∙ m.begins

        cases : (k : ℕ) → n.done ≡ k → ⊥
        cases zero is = omega arith
        cases (suc zero) is =
            let placed = n.place_is in
            let inside = n.inside in
            let from : n.from ≡ place = omega arith in
            let alone : orders_left (block_at 0 (drop n.from n.orders.list)) ≡ 0 = ap (λ k. orders_left (block_at 0 (drop k n.orders.list))) from ∙ ap (λ l. orders_left (block_at 0 l)) (front_is n.orders.list place (order.Enter m.beginning.size) listed) in
            omega arith
        cases (suc (suc k)) is =
            let placed = n.place_is in
            let inside = n.inside in
            let there : n.from + suc k ≡ place = omega arith in
            let left = inside_left n.orders.list n.from k n.begins (omega arith) in
            let none : left_at 0 n.orders.list (n.from + suc k) ≡ 0 = ap (left_at 0 n.orders.list) there ∙ begins in
            omega arith
    enters (passes_on x is codeless arrives falls) = absurd (not_enter x codeless (sym is ∙ m.beginning.order))
      where
        not_enter : (x : Order) → is_codeless x ≡ true → Some x ≡ Some (order.Enter m.beginning.size) → ⊥
        not_enter x codeless both = let same : x ≡ order.Enter m.beginning.size = cc in true≢false (sym codeless ∙ ap is_codeless same)
    enters (moves some within path arrives) =
        let S = at g place loaded (a ∷ acts) w Running in
        let goes : step p S ≡ carry_out p (Some (order.Enter m.beginning.size)) g place loaded (a ∷ acts) w = ap (λ x. carry_out p x g place loaded (a ∷ acts) w) m.beginning.order in
        let free_on = subst (Free p) (sym goes) (free_next p marks_free coded.entries g place loaded (a ∷ acts) w (order.Enter m.beginning.size) m.beginning.order (no_start (order.Enter m.beginning.size) refl) free) in
        (quiet_moves S q (ap (λ x. started_by x g w) m.beginning.order) free_on some within path arrives).0

  -- ---- the simulation

  agrees : (es : List Begun) (s : OrderState) (q : Processor) → MatchesOwing es s q → shown_as (observed q) ≡ shown s
  agrees es (at g place loaded acts w Running) q (inl m) = ap (λ o. o.0) (shows rows m.0.landed.stacked.is m.0.landed.kept.wrote) ∙ ap (λ o. record { output = o; end = Running }) m.0.wrote
  agrees es (at g place loaded [] w Running) q (inr m) = absurd m.0
  agrees es (at g place loaded (a ∷ acts) w Running) q (inr m) = ap (λ o. o.0) (shows rows m.0.called_at.is m.0.called_at.kept.wrote)
  agrees es (at g place loaded acts w Ended) q m = m.0.shows
  agrees es (at g place loaded acts w (Stopped kind s l)) q m = m.0.shows
  agrees es (at g place loaded acts w Stuck) q m = absurd m

  rests : (es : List Begun) (s : OrderState) (q : Processor) → MatchesOwing es s q → is_running (shown s) ≡ false → (step p s ≡ s) × (processor_step q ≡ q)
  rests es (at g place loaded acts w Running) q m off = absurd (true≢false off)
  rests es (at g place loaded acts w Ended) q m off = (refl, m.0.still)
  rests es (at g place loaded acts w (Stopped kind s l)) q m off = (refl, m.0.still)
  rests es (at g place loaded acts w Stuck) q m off = absurd m

  idle : (es : List Begun) (s : OrderState) (q : Processor) → MatchesOwing es s q → is_running (shown s) ≡ false → (es ≡ []) × (starts p s ≡ []) × (passes image.places p.limits.area q ≡ [])
  idle es s q m off = (owes_none s m off, starts_over s off, rests_over q.end q.told.output (beginning image.places p.limits.area q.state) (ap is_running (agrees es s q m) ∙ off))
    where
      owes_none : (s : OrderState) → MatchesOwing es s q → is_running (shown s) ≡ false → es ≡ []
      owes_none (at g place loaded acts w Running) m off = absurd (true≢false off)
      owes_none (at g place loaded acts w Ended) m off = m.1
      owes_none (at g place loaded acts w (Stopped kind s l)) m off = m.1
      owes_none (at g place loaded acts w Stuck) m off = absurd m

      starts_over : (s : OrderState) → is_running (shown s) ≡ false → starts p s ≡ []
      starts_over (at g place loaded acts w Running) off = absurd (true≢false off)
      starts_over _ off = refl

  follows : (es : List Begun) (s : OrderState) (q : Processor) → MatchesOwing es s q → is_running (shown s) ≡ true → Owing es s q
  follows es (at g place loaded acts w Running) q (inl m) on = subst (λ es. Owing es (at g place loaded acts w Running) q) (sym m.1) (follow_place m.0 m.2 (slice_get m.0.orders.list place) refl)
  follows es (at g place loaded [] w Running) q (inr m) on = absurd m.0
  follows es (at g place loaded (a ∷ acts) w Running) q (inr m) on = subst (λ es. Owing es (at g place loaded (a ∷ acts) w Running) q) (sym m.1) (enters m.0 m.2 (begins_activation known m.0))
  follows es (at g place loaded acts w Ended) q m on = absurd (false≢true on)
  follows es (at g place loaded acts w (Stopped kind s l)) q m on = absurd (false≢true on)
  follows es (at g place loaded acts w Stuck) q m on = absurd m

  pub simulates : SimulationOwing is_running (order_machine p) (processor_machine shown_as) (starts p) (passes image.places p.limits.area) MatchesOwing (left p)
  simulates = record { agrees = agrees; rests = rests; idle = idle; follows = follows }

  -- a way to a state that matches, on which nothing is noted, as one of the machine that is watched
  pub watched_way : {output : List ℕ} {n : ℕ} (q : Processor) (s : OrderState) → Free p s → Leads output n (watch q) (Arrives known s)
      → (r : Processor) × Path (λ o. o ≡ works output) (watched (processor_machine shown_as) (passes image.places p.limits.area)) n (q, []) (r, []) × MatchesOwing [] s r
  watched_way {output} {n} q s free l =
      let shown : Observation = record { output = output; end = Running } in
      let silent = arrives_silent s l.reached l.there in (
        l.reached.processor,
        unnoted (λ o. o ≡ shown) (λ o. o ≡ works output) (processor_machine shown_as) (passes image.places p.limits.area) [] (λ o e. ap (λ x. (x, [])) e) n q l.reached.processor
            (unwatched (λ o. o ≡ shown) n (watch q) l.reached refl (weaken (λ o. o ≡ works output) (Unnoted (λ o. o ≡ shown)) watched_machine n (watch q) l.reached (λ o e. (ap (λ x. x.0) e, ap (λ x. x.1) e)) l.path) silent),
        arrives_owing s l.reached.processor (subst (Arrives known s) (still_fresh (λ o. o ≡ works output) n (watch q) l.reached refl l.path silent) l.there) free,
      )
