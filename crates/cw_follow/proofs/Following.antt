-- From the first instruction of an image on, the processor follows the machine of the orders.
use Rattle.std.proofs.Common.{◌≡◌, inl, ℕ, zero, suc, ◌+◌, ◌<◌, ◌≤◌, false, ℤ, pos, List, [], ◌∷◌, length, Option, Some, None, refl, sym, ap, ◌∙◌, subst, arith, lit<}
use Rattle.std.specs.Prelude.{slice_get, slice_index}
use Rattle.std.specs.List.{All}
use Rattle.std.proofs.lemmas.List.{get_or_default}
use Rattle.std.proofs.lemmas.List.Elements.{All-head, All-nil, All-tail}
use Rattle.cw_track.specs.Tracking.{TracksAfter}
use Rattle.cw_track.specs.Watching.{watched}
use Rattle.cw_track.proofs.Owing.{tracks_owing}
use Rattle.cw_track.proofs.Budgets.{starts_up}
use Rattle.cw_i86.specs.State.{State}
use Rattle.cw_i86.specs.MachineRun.{IsStart}
use Rattle.cw_run86.specs.Processor.{nothing_told, processor_machine, processor_start}
use Rattle.cw_image.specs.Begun.{StatementPlace}
use Rattle.cw_word.specs.FixedPoint.{FitsWord}
use Rattle.cw_word.specs.Word.{unsigned}
use Rattle.cw_follow.proofs.WordLaws.{WordLaws}
use Rattle.cw_unit.specs.Stop.{Running, Stuck}
use Rattle.cw_unit.specs.Behaviour.{is_running}
use Rattle.cw_unit.specs.Words.{Words, word_at}
use Rattle.cw_order.specs.declared.order.Orders.{Orders}
use Rattle.cw_order.specs.OrderProgram.{OrderProgram, order_in}
use Rattle.cw_order.specs.OrderState.{at}
use Rattle.cw_order.specs.OrderMachine.{carry_out, step, order_machine, entry_of, order_start}
use Rattle.cw_order.specs.FittingWords.{OperandFits, ActivationFits}
use Rattle.cw_tmpl.specs.Blocks.{left_at}
use Rattle.cw_follow.specs.Showing.{shown_as}
use Rattle.cw_order.specs.Starting.{starts}
use Rattle.cw_follow.specs.Passing.{passes, PlacesStand}
use Rattle.cw_follow.specs.Placing.{IsImage, Codable, BeginsWith, NeverStuck, startup_cost, base_of}
use Rattle.cw_follow.proofs.Bytes as raw
use Rattle.cw_follow.proofs.Standing.{Image, Ignores, order_place, AllStand}
use Rattle.cw_follow.proofs.Strong.{all_strong}
use Rattle.cw_order.proofs.Unbegun.{not_behind_first}
use Rattle.cw_i86.specs.declared.instr.Instr.TheVariants as i86
use Rattle.cw_follow.proofs.Rows.{Rows}
use Rattle.cw_follow.proofs.Watched.{Watched}
use Rattle.cw_follow.proofs.Chains.{Is, Leads, view, seen, near, more}
use Rattle.cw_follow.proofs.Routines.{in_library, leads_on}
use Rattle.cw_follow.proofs.Bodies.{Begun, begun_landed, enters}
use Rattle.cw_order.specs.Activations.{OperandStands}
use Rattle.cw_follow.proofs.States.{Given, Arrived, left, not_stuck, never_on, before_block}
use Rattle.cw_follow.proofs.Dispatch.{watch, MatchesOwing, simulates, watched_way}

-- ---- the start

small_words : (words : List ℕ) (k : ℕ) → All (λ w. w < 65536) words → slice_index words k < 65536
small_words [] k h = lit< tt
small_words (w ∷ ws) zero h = All-head (λ x. x < 65536) w ws h
small_words (w ∷ ws) (suc k) h = small_words ws k (All-tail (λ x. x < 65536) w ws h)

module _ (laws : WordLaws) (p : OrderProgram) (words : List ℕ) (memory : List ℤ) (begins : BeginsWith p memory words) where
  cells_begin : (k : ℕ) → k < p.limits.area → slice_index words k ≡ unsigned (word_at memory k)
  cells_begin k lt = sym (laws.numbers.words.forth (slice_index words k) (small_words words k begins.are_words)) ∙ ap unsigned (sym (begins.same k lt))

  memory_fits : All FitsWord memory
  memory_fits k d lt =
      let long = begins.long in
      let within : k < p.limits.area = omega arith in
      subst FitsWord (sym (get_or_default memory k d (pos 0) lt ∙ begins.same k within)) (laws.signed_fits (slice_index words k) (small_words words k begins.are_words))

-- from the first instruction of an image on
pub following : Rows → (p : OrderProgram) (code words : List ℕ) (memory : List ℤ) (input : List ℕ) (s : State) (places : List StatementPlace)
    → raw.AllStand p code → IsImage p code → PlacesStand p code places → Codable p → BeginsWith p memory words → NeverStuck p memory input → IsStart code words s → All (λ b. b < 256) input
    → TracksAfter (λ o. is_running o.0) startup_cost (watched (order_machine p) (starts p)) (order_start p memory input, []) (watched (processor_machine shown_as) (passes places p.limits.area)) (processor_start s input, [])
following rows p code words memory input s places there is stand coded begins never starts_so bytes = cases (slice_get p.units 0) refl
  where
    cases : (u : Option Orders) → slice_get p.units 0 ≡ u → TracksAfter (λ o. is_running o.0) startup_cost (watched (order_machine p) (starts p)) (order_start p memory input, []) (watched (processor_machine shown_as) (passes places p.limits.area)) (processor_start s input, [])
    cases None none =
        let begun : Words = record { operands = []; memory = memory; input = input; output = [] } in
        let first = entry_of (slice_get p.units 0) in
        let stuck : step p (at 0 first false [] begun Running) ≡ at 0 first false [] begun Stuck = ap (λ u. carry_out p (order_in u first) 0 first false [] begun) none in
        absurd (not_stuck p 0 first false [] begun (never_on p (at 0 first false [] begun Running) (at 0 first false [] begun Stuck) stuck never))
    cases (Some u) some =
        let begun : Words = record { operands = []; memory = memory; input = input; output = [] } in
        let first = entry_of (slice_get p.units 0) in
        let is_zero : first ≡ 0 = ap entry_of some ∙ coded.entries 0 u some in
        let few = is.few in
        let area = begins.area in
        let short_words : length words ≤ 32768 = let f = begins.few in omega arith in
        let image : Image = record { bytes = code; places = places } in
        let all : AllStand p image = all_strong p image coded stand there in
        let su = all.stands 0 u some in
        let known : Given = record { rows = rows; p = p; image = image; all = all; coded = coded; few = few; low = area; places_stand = stand } in
        let begin = watch known (processor_start s input) in
        let ignores : Ignores image places = record { told = refl; library = stand.library } in
        let from : Is image 0 (view 0 0 0 0 0 0 0 0 false (slice_index words) (λ k. 0) input nothing_told) begin = record { sees = rows.starts code words input s is.fits short_words starts_so; ignores = ignores; overlooks = refl; silent = refl } in
        let at_entry : (q : Watched) → Begun image (base_of p 0 + 11) 1 p.limits.depth p.limits.frames p.limits.area (slice_index words) input nothing_told q → Arrived p image 0 first false [] begun q = λ q b.
        let place_is : base_of p 0 + 11 ≡ order_place (base_of p 0) u 0 = omega arith in
        let there : base_of p 0 + 11 ≡ order_place (base_of p 0) u first = place_is ∙ ap (order_place (base_of p 0) u) (sym is_zero) in
        before_block u some (ap (left_at 0 u.list) is_zero)
        (begun_landed p (order_place (base_of p 0) u first) memory input [] there (lit< tt) coded.frames (cells_begin rows.words p words memory begins) begins.long refl refl refl b)
        (record { words = record { operands = All-nil OperandFits; memory = memory_fits rows.words p words memory begins; input = bytes }; activations = All-nil ActivationFits })
        (record { room = omega arith; last = tt; operands = All-nil (OperandStands p 0 []) }) tt tt never in
        let base_is : 438 ≡ base_of p 0 = refl in
        let way : Leads [] 12 begin (Arrived p image 0 first false [] begun) =
        more rows {to = base_of p 0} {w = view 0 0 0 0 0 0 0 0 false (slice_index words) (λ k. 0) input nothing_told} from refl (seen base_is refl (near rows 435 (in_library ignores 0 (i86.Jump 435) (lit< tt) all.library.0.0) from)) (λ q t.
        leads_on at_entry
        (enters rows p 0 su.next_place su.value (base_of p 0) 0 0 0 0 0 0 0 32767 false (slice_index words) (λ k. 0) input nothing_told all.library su.fills su.entry (lit< tt) (lit< tt) area coded.frames coded.depth 0 refl t)) in
        let start = watched_way known (processor_start s input) (at 0 first false [] begun Running) (not_behind_first p 0 first is_zero, tt) (leads_on (λ q m. inl m) way) in
        let A = watched (order_machine p) (starts p) in
        let B = watched (processor_machine shown_as) (passes places p.limits.area) in
        starts_up (λ o. is_running o.0) A B (order_start p memory input, []) 0 12 12 (processor_start s input, []) (start.0, []) refl start.1
        (tracks_owing is_running (order_machine p) (processor_machine shown_as) (starts p) (passes places p.limits.area) (MatchesOwing known) (left p) (simulates known) (order_start p memory input) start.0 start.2)
