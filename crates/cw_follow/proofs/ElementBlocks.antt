-- Blocks of an element whose index is in memory: its word is fetched, assigned or used.
use Rattle.std.proofs.Common.{length, ◌≡◌, inl, inr, ℕ, suc, ◌+◌, ◌*◌, ◌<◌, ◌≤◌, Bool, true, false, ℤ, pos, List, [], ◌∷◌, ◌++◌, drop, set, Some, None, refl, sym, ap, ◌∙◌, subst, arith, lit<, lit≤, append_assoc}
use Rattle.std.specs.Prelude.{slice_get}
use Rattle.std.proofs.lemmas.Bool.{lt-ltb, cases_lt}
use Rattle.cw_word.specs.FixedPoint.{FitsWord, scaled_product}
use Rattle.cw_word.specs.Word.{unsigned}
use Rattle.cw_unit.specs.Stop.{Running}
use Rattle.cw_unit.specs.Words.{Operand, Word, Held, Words, Changed, put, put_value, with_memory, word_at, through}
use Rattle.cw_unit.specs.Operation.{Fetch, Store, Multiply, perform}
use Rattle.cw_order.specs.declared.order.Order.{Order}
use Rattle.cw_order.specs.declared.order.Order.TheVariants as order
use Rattle.cw_order.specs.declared.order.Comparator.{Comparator}
use Rattle.cw_order.specs.Loading.{loaded_after}
use Rattle.cw_order.specs.OrderLines.{line_of}
use Rattle.cw_order.specs.OrderMachine.{unrefused, weight}
use Rattle.cw_order.specs.OrderState.{OrderActivation, at as at_order, operand_words}
use Rattle.cw_order.specs.declared.order.Place.{Place}
use Rattle.cw_order.specs.declared.order.Place.TheVariants as cell
use Rattle.cw_tmpl.specs.declared.blocks.Element.{Element}
use Rattle.cw_tmpl.specs.declared.blocks.Test.{Test}
use Rattle.cw_tmpl.specs.declared.blocks.Test.TheVariants as test
use Rattle.cw_tmpl.specs.declared.blocks.Simple.TheVariants as simple
use Rattle.cw_tmpl.specs.declared.blocks.Use.{Use}
use Rattle.cw_tmpl.specs.declared.blocks.Use.TheVariants as uses
use Rattle.cw_i86.specs.declared.instr.Instr.{Instr}
use Rattle.cw_rows86.specs.Locations.{InData}
use Rattle.cw_rows86.specs.Acts.{Into, OutOf}
use Rattle.cw_tmpl.specs.declared.pieces.Coded.{Coded}
use Rattle.cw_tmpl.specs.declared.pieces.Coded.TheVariants as pieces
use Rattle.cw_tmpl.specs.declared.blocks.Block.{Block}
use Rattle.cw_tmpl.specs.declared.blocks.Block.TheVariants as block
use Rattle.cw_tmpl.specs.Blocks.{element_orders, operand_orders, order_of, block_at, orders_left, left_at}
use Rattle.cw_tmpl.specs.Mnemonics.{at_si, load, store, multiply}
use Rattle.cw_tmpl.specs.Names.{call_place}
use Rattle.cw_tmpl.specs.Templates.{checked_by, product_with, pieces_size, element_tested, element_address, block_size}
use Rattle.cw_tmpl.specs.ShortForms.{is_short}
use Rattle.cw_tmpl.specs.Sizes.{element_size}
use Rattle.cw_tmpl.specs.ReferenceCode.{names_of, reach_of}
use Rattle.cw_tmpl.proofs.Shapes.{TestNear, IsNear}
use Rattle.cw_tmpl.proofs.Sizes.{element_long_as, size_to, own_place, pieces_by}
use Rattle.cw_tmpl.proofs.Lengths.{appended_long}
use Rattle.cw_follow.specs.Placing.{base_of}
use Rattle.std.specs.List.{All}
use Rattle.std.proofs.lemmas.List.Elements.{All-head}
use Rattle.cw_order.specs.FittingWords.{OperandFits}
use Rattle.cw_follow.proofs.Watched.{Watched, watched_step}
use Rattle.cw_follow.proofs.Chains.{Is, view, last, move as moved_to}
use Rattle.cw_run86.specs.Views.{put_word}
use Rattle.cw_follow.proofs.Acting.{act}
use Rattle.cw_follow.proofs.Standing.{HasPieces, order_place, stand_both, Has, HasPiecesFrom, stand_behind, first_of}
use Rattle.cw_follow.proofs.Stacks.{level, record_of, StackIs, OperandsAre}
use Rattle.cw_follow.proofs.Routines.{leads_on, leads_then}
use Rattle.cw_follow.proofs.Operating.{word_named}
use Rattle.cw_follow.proofs.Orders.{Landed, Does, Chooses, later, further, landed, kept_stored}
use Rattle.cw_follow.proofs.OperandCode.{OneOperation}
use Rattle.cw_follow.proofs.UseBlocks as UseBlocks
use Rattle.cw_follow.proofs.States.{Given, Sound}
use Rattle.cw_follow.proofs.CheckedBlocks.{checked_block}
use Rattle.cw_follow.proofs.Steps.{Follow, setting, order_here, weight_is, line_fits, start_place, block_code, block_ends, did_as, does, chosen, start, FollowFrom, begins_block, begun_block, reaches_mark, code_end}
use Rattle.cw_follow.proofs.BlockOrders.{room_in, within_block, inner_follows, modes, saved, step_in}
use Rattle.cw_follow.proofs.InBlocks.{loaded_then, loaded_silently, silently}
use Rattle.cw_follow.proofs.Indexed.{element_steps, few_element}
use Rattle.cw_follow.proofs.Operands.{words, with_cells}
use Rattle.cw_follow.proofs.ElementTests.{address_order, tail_list, formed_list, formed_list_is, homes, none_inside, over_inside, HasElement, KnownTest, order_there, known_behind, known_saved, Before, AtAddress, room_above, forms_there, saved_there, behind_there, next_there, tail_mode, fetched_mode, formed_many, fetched_many}
use Rattle.cw_follow.proofs.ElementOrders.{LeadsTo, one_behind, after_forms, ComesTo, start_room, at_start, comes_at_once, plain_inner, saved_inner, at_begun, comes_begun}

module _ (known : Given) where
  open known use {rows, p, image, all, coded, few, low}

  module _ {q : Watched} {g place : ℕ} {loaded : Bool} {acts : List OrderActivation} {w : Words} (s : Sound p image g place loaded acts w q) where
    -- ---- the word of an element

    mode_free : (x : Place) → loaded_after (address_order x) false ≡ Some true
    mode_free (cell.Word f n) = refl
    mode_free (cell.Frame n) = refl

    mode_taken : (x : Place) → loaded_after (address_order x) true ≡ None
    mode_taken (cell.Word f n) = refl
    mode_taken (cell.Frame n) = refl

    address_some : (e : Element) → 0 < length (element_address e)
    address_some e = of_test e.test e.index
      where
        of_test : (t : Test) (x : Place) → 0 < length (element_tested (record e { index = x }) t)
        of_test (test.Address origin) (cell.Word f n) = lit< tt
        of_test (test.Address origin) (cell.Frame n) = lit< tt
        of_test (test.Bounds upper line) (cell.Word f n) = omega arith
        of_test (test.Bounds upper line) (cell.Frame n) = omega arith

    -- the instruction behind the address
    last_there : (first : Bool) (e : Element) (i : Instr) → HasPiecesFrom first image (all.stands g s.orders s.unit).value (start_place known s) (element_address e ++ pieces.Whole i ∷ []) → Has image (start_place known s + element_size e e.test) i
    last_there first e i h =
        subst (λ n. Has image (start_place known s + n) i) (element_long_as e) (stand_behind first image (all.stands g s.orders s.unit).value (start_place known s) (element_address e) (pieces.Whole i ∷ []) (address_some e) h).0

    half_of : (at : ℕ) → at < p.limits.area → at < 32768
    half_of at within = omega arith

    -- what is at an address of the area
    fetched_there : (at : ℕ) (v : Words) → at < p.limits.area → unrefused (perform p.limits.area (Fetch None) (put (pos at) v)) ≡ Changed (put (word_at v.memory at) v)
    fetched_there at v within = ap (λ b. unrefused (through b (λ i u. Changed (put (word_at u.memory i) u)) (pos at) v)) (lt-ltb at p.limits.area within)

    -- the code of a block that begins with the address of the place of the index
    pub begun_code : (e : Element) (os : List Order) (b : Block) → drop s.from s.orders.list ≡ address_order e.index ∷ os → block_at 0 (drop s.from s.orders.list) ≡ b
        → HasPiecesFrom (begins_block known s) image (all.stands g s.orders s.unit).value (start_place known s) (pieces_by (names_of s.orders) (own_place s.orders s.from) s.from b (address_order e.index))
    begun_code e os b list is = subst (λ f. HasPiecesFrom f image (all.stands g s.orders s.unit).value (start_place known s) (pieces_by (names_of s.orders) (own_place s.orders s.from) s.from b (address_order e.index))) (begins e.index) (block_code known s b (address_order e.index) os list is)
      where
        begins : (x : Place) → first_of (address_order x) (begins_block known s) ≡ begins_block known s
        begins (cell.Word f n) = refl
        begins (cell.Frame n) = refl

    fetch_does : (e : Element) (l : Before known s false) (at to : ℕ) → at < p.limits.area → LeadsTo known s e e.test at → start_place known s + (element_size e e.test + 2) ≡ to
        → HasPiecesFrom (begins_block known s) image (all.stands g s.orders s.unit).value (start_place known s) (element_address e ++ pieces.Whole (load 0 at_si) ∷ [])
        → Does p image 8 to g true 0 acts s.before.output (begun_block known s) (Changed (put (word_at s.before.memory at) s.before))
    fetch_does e l at to within leads end h =
        let r = room_above known s false l.stacked.ax l.stack l.top s.before.operands (room_in known s) l.operands in
        let few = few_element e e.test in
        let half = half_of at within in
        let i = last_there _ e (load 0 at_si) h in
        let there : start_place known s + element_size e e.test + 2 ≡ to = omega arith in
        let under : StackIs p acts l.stack (suc r.above) s.before.operands = subst (λ n. StackIs p acts l.stack n s.before.operands) r.is l.operands in
        further (element_steps e e.test + 1) (omega arith) (omega arith)
        (leads_then (leads (begins_block known s) false l (pieces.Whole (load 0 at_si) ∷ []) (start_place known s) r.above l.stacked.ax l.stacked.cx (begun_block known s) (at_begun known s l r) h)
        (λ t a.
        last rows a.is l.kept.wrote
        (landed rows p image g acts true to (suc r.above) (Word (word_at s.before.memory at) ∷ s.before.operands) s.before.memory s.before.input s.before.output there (l.kept.words at within, under) l.kept
        (act rows (Into 0 at_si (InData at) (l.cells at)) (lit< tt) i ((refl, refl, half, refl), refl) a.is).is)))

    fetch_element_last : (e : Element) (rest : List Order) (z : KnownTest known s e e.test) → s.done ≡ suc (suc (homes e.test)) → drop s.from s.orders.list ≡ formed_list e e.test (order.Load ∷ rest) → block_at 0 (drop s.from s.orders.list) ≡ block.FetchElement e
        → orders_left (block.FetchElement e) ≡ suc (suc (homes e.test)) → FollowFrom known (begun_block known s) (at_order g place loaded acts w Running) q
    fetch_element_last e rest z is_done list is many =
        let n = suc (suc (homes e.test)) in
        let os = tail_list e e.test (order.Load ∷ rest) in
        let b = block.FetchElement e in
        let there = behind_there e e.test order.Load rest in
        let here = order_here known s n order.Load _ is_done list there in
        let ends = block_ends known s b (address_order e.index) os n is_done list is (ap (λ m. size_to (is_short (reach_of s.orders)) (suc s.from) m os n) many ∙ none_inside (is_short (reach_of s.orders)) (suc s.from) n os) (ap (λ m. left_at m os n) many ∙ over_inside (suc (homes e.test)) os order.Load there) in
        let before = modes known s false true true (address_order e.index) (suc (homes e.test)) os is_done list (mode_free e.index) (mode_taken e.index) (tail_mode e e.test (order.Load ∷ rest)) in
        let paid : 8 ≤ weight p (at_order g place loaded acts w Running) = let x = weight_is known s order.Load here in omega arith in
        let h = begun_code e os b list is in
        let made = after_forms known s e e.test (order.Load ∷ rest) z w (did_as known s n _ is_done list) in
        let size : block_size false b (address_order e.index) ≡ element_size e e.test + 2 = omega (arith, appended_long (element_address e) (pieces.Whole (load 0 at_si) ∷ []), element_long_as e) in
        let end : start_place known s + (element_size e e.test + 2) ≡ code_end known s = omega (arith, ends.behind, size) in
        let d = fetch_does e before.landed made.at (code_end known s) made.within made.leads end h in
        let goes : unrefused (perform p.limits.area (Fetch None) w) ≡ Changed (put (word_at s.before.memory made.at) s.before) = ap (λ v. unrefused (perform p.limits.area (Fetch None) v)) made.is ∙ fetched_there made.at s.before made.within in
        does known s true 0 (unrefused (perform p.limits.area (Fetch None) w)) 8 ends.begins (step_in known s true order.Load before.now here) paid
        (subst (λ o. Does p image 8 (code_end known s) g true 0 acts w.output (begun_block known s) o) (sym goes)
        (subst (λ o. Does p image 8 (code_end known s) g true 0 acts o (begun_block known s) (Changed (put (word_at s.before.memory made.at) s.before))) s.wrote d))

    saved_mode : (e : Element) (t : Test) (behind : List Order) → loaded_silently (suc (suc (homes t))) (formed_list e t behind) false ≡ Some true
    saved_mode e t behind = ap (λ o. loaded_then o (loaded_silently (suc (homes t)) (tail_list e t behind))) (mode_free e.index) ∙ tail_mode e t behind

    has_element : (e : Element) (t : Test) (pre behind : List Order) (k : ℕ) → drop s.from s.orders.list ≡ pre ++ formed_list e t behind → TestNear e t → slice_get (pre ++ formed_list e t behind) k ≡ Some (order.Element e.lower e.span e.line)
        → HasElement known s e t pre behind
    has_element e t pre behind k list near there =
        record { list = list; near = near; lower = coded.codes g (s.from + k) (order.Element e.lower e.span e.line) (order_there known s k (order.Element e.lower e.span e.line) (pre ++ formed_list e t behind) list there) }

    pub fetch_element_follows : (e : Element) (rest : List Order) → drop s.from s.orders.list ≡ element_orders e ++ order.Load ∷ rest → IsNear e → block_at 0 (drop s.from s.orders.list) ≡ block.FetchElement e
        → FollowFrom known (begun_block known s) (at_order g place loaded acts w Running) q
    fetch_element_follows e rest shape near is = cases s.done refl
      where
        list : drop s.from s.orders.list ≡ formed_list e e.test (order.Load ∷ rest)
        list = shape ∙ formed_list_is e (order.Load ∷ rest)

        z : KnownTest known s e e.test
        z = known_behind known s e e.test (order.Load ∷ rest) (has_element e e.test [] (order.Load ∷ rest) (homes e.test + 1) list near (forms_there e e.test (order.Load ∷ rest)))

        many : orders_left (block.FetchElement e) ≡ suc (suc (homes e.test))
        many = formed_many e e.index e.test

        cases : (k : ℕ) → s.done ≡ k → FollowFrom known (begun_block known s) (at_order g place loaded acts w Running) q
        cases k is_done = elim (cases_lt k (suc (suc (homes e.test)))) as (λ _. FollowFrom known (begun_block known s) (at_order g place loaded acts w Running) q) [
          | inl lt ↦ (
              let h = begun_code e _ (block.FetchElement e) list is in
              plain_inner known s e e.test z (block.FetchElement e) (order.Load ∷ rest) (start_place known s) k (comes_begun known s e _ h) is_done list is (omega arith) (omega (arith, many)))
          | inr ge ↦ (
              let le = within_block known s (block.FetchElement e) (suc (suc (homes e.test))) is many in
              fetch_element_last e rest z (omega arith) list is many)
        ]

    -- ---- a store

    -- the same landing, with the operands as they are known
    abbrev with_known : (ops : List Operand) → s.before.operands ≡ ops → Before known s true → Landed p image (order_place (base_of p g) s.orders s.from) g true acts (words ops s.before.memory s.before.input s.before.output) q
    with_known ops e l = record {
      top = l.top;
      cells = l.cells;
      stack = l.stack;
      input = l.input;
      told = l.told;
      stacked = l.stacked;
      operands = subst (λ xs. OperandsAre p acts true l.stacked.ax l.stack l.top xs) e l.operands;
      kept = l.kept;
    }

    assign_does : (e : Element) (l : Before known s true) (at to : ℕ) → at < p.limits.area → LeadsTo known s e e.test at → start_place known s + (element_size e e.test + 2) ≡ to
        → HasPieces image (all.stands g s.orders s.unit).value (start_place known s) (element_address e ++ pieces.Whole (store at_si 0) ∷ []) → (ops : List Operand) → s.before.operands ≡ ops
        → Does p image 8 to g false 0 acts s.before.output q (unrefused (perform p.limits.area (Store None) (put (pos at) (words ops s.before.memory s.before.input s.before.output))))
    assign_does e l at to within leads end h [] same = tt
    assign_does e l at to within leads end h (Held d ∷ rest) same = tt
    assign_does e l at to within leads end h (Word x ∷ rest) same =
        let k = with_known (Word x ∷ rest) same l in
        let r = room_above known s true l.stacked.ax l.stack l.top s.before.operands (room_in known s) l.operands in
        let few = few_element e e.test in
        let half = half_of at within in
        let i = last_there _ e (store at_si 0) h in
        let there : start_place known s + element_size e e.test + 2 ≡ to = omega arith in
        let under : StackIs p acts l.stack (suc r.above) rest = subst (λ n. StackIs p acts l.stack n rest) r.is k.operands.1 in
        let stored : unrefused (perform p.limits.area (Store None) (put (pos at) (words (Word x ∷ rest) s.before.memory s.before.input s.before.output))) ≡ Changed (words rest (set s.before.memory at x) s.before.input s.before.output) =
        ap (λ b. unrefused (through b (λ j t. Changed (with_memory t (set t.memory j x))) (pos at) (words rest s.before.memory s.before.input s.before.output))) (lt-ltb at p.limits.area within) in
        subst (λ o. Does p image 8 to g false 0 acts s.before.output q o) (sym stored)
        (further (element_steps e e.test + 1) (omega arith) (omega arith)
        (leads_then (leads false true l (pieces.Whole (store at_si 0) ∷ []) (start_place known s) r.above l.stacked.ax l.stacked.cx q (at_start known s l r) h)
        (λ t a.
        last rows a.is l.kept.wrote
        (landed rows p image g acts false to (suc r.above) rest (set s.before.memory at x) s.before.input s.before.output there under (kept_stored at x within l.kept)
        (with_cells (ap (put_word l.cells at) k.operands.0) (act rows (OutOf 0 at_si (InData at)) (lit< tt) i ((refl, refl, half, refl), tt) a.is).is)))))

    assign_element_last : (e : Element) (rest : List Order) (z : KnownTest known s e e.test) → s.done ≡ suc (suc (suc (homes e.test))) → drop s.from s.orders.list ≡ order.Save ∷ formed_list e e.test (order.Store ∷ rest)
        → block_at 0 (drop s.from s.orders.list) ≡ block.AssignElement e → orders_left (block.AssignElement e) ≡ suc (suc (suc (homes e.test))) → Follow known (at_order g place loaded acts w Running) q
    assign_element_last e rest z is_done list is many =
        let n = suc (suc (suc (homes e.test))) in
        let os = formed_list e e.test (order.Store ∷ rest) in
        let b = block.AssignElement e in
        let there = behind_there e e.test order.Store rest in
        let here = order_here known s n order.Store _ is_done list there in
        let ends = block_ends known s b order.Save os n is_done list is (ap (λ m. size_to (is_short (reach_of s.orders)) (suc s.from) m os n) many ∙ none_inside (is_short (reach_of s.orders)) (suc s.from) n os) (ap (λ m. left_at m os n) many ∙ over_inside (suc (suc (homes e.test))) os order.Store there) in
        let before = saved known s true (suc (suc (homes e.test))) os is_done list (saved_mode e e.test (order.Store ∷ rest)) in
        let paid : 8 ≤ weight p (at_order g place loaded acts w Running) = let x = weight_is known s order.Store here in omega arith in
        let h = block_code known s b order.Save os list is in
        let made = after_forms known s e e.test (order.Store ∷ rest) z w (did_as known s n _ is_done list) in
        let size : block_size false b order.Save ≡ element_size e e.test + 2 = omega (arith, appended_long (element_address e) (pieces.Whole (store at_si 0) ∷ []), element_long_as e) in
        let end : start_place known s + (element_size e e.test + 2) ≡ code_end known s = omega (arith, ends.behind, size) in
        let d = assign_does e before.landed made.at (code_end known s) made.within made.leads end h s.before.operands refl in
        does known s false 0 (unrefused (perform p.limits.area (Store None) w)) 8 ends.begins (step_in known s true order.Store before.now here) paid
        (subst (λ v. Does p image 8 (code_end known s) g false 0 acts w.output q (unrefused (perform p.limits.area (Store None) v))) (sym made.is)
        (subst (λ o. Does p image 8 (code_end known s) g false 0 acts o q (unrefused (perform p.limits.area (Store None) (put (pos made.at) s.before)))) s.wrote d))

    pub assign_element_follows : (e : Element) (rest : List Order) → drop s.from s.orders.list ≡ order.Save ∷ (element_orders e ++ order.Store ∷ rest) → IsNear e → block_at 0 (drop s.from s.orders.list) ≡ block.AssignElement e
        → Follow known (at_order g place loaded acts w Running) q
    assign_element_follows e rest shape near is = cases s.done refl
      where
        list : drop s.from s.orders.list ≡ order.Save ∷ formed_list e e.test (order.Store ∷ rest)
        list = shape ∙ ap (λ l. order.Save ∷ l) (formed_list_is e (order.Store ∷ rest))

        z : KnownTest known s e e.test
        z = known_saved known s e e.test (order.Store ∷ rest) (has_element e e.test (order.Save ∷ []) (order.Store ∷ rest) (suc (homes e.test) + 1) list near (saved_there e e.test (order.Store ∷ rest)))

        many : orders_left (block.AssignElement e) ≡ suc (suc (suc (homes e.test)))
        many = ap suc (formed_many e e.index e.test)

        cases : (k : ℕ) → s.done ≡ k → Follow known (at_order g place loaded acts w Running) q
        cases k is_done = elim (cases_lt k (suc (suc (suc (homes e.test))))) as (λ _. Follow known (at_order g place loaded acts w Running) q) [
          | inl lt ↦ (
              let h = block_code known s (block.AssignElement e) order.Save _ list is in
              saved_inner known s e e.test z (block.AssignElement e) (order.Store ∷ rest) (start_place known s) k (comes_at_once known s e _ h) is_done list is (omega arith) (omega (arith, many)))
          | inr ge ↦ (
              let le = within_block known s (block.AssignElement e) (suc (suc (suc (homes e.test)))) is many in
              assign_element_last e rest z (omega arith) list is many)
        ]

    -- ---- a word of an element as an operand

    -- the words behind the order that loads it
    pub record AfterLoad (e : Element) (t : Test) (v : Words) : Type 0 where
      pub at : ℕ
      pub within : at < p.limits.area
      pub leads : LeadsTo known s e t at
      pub is : v ≡ put (word_at s.before.memory at) s.before

    after_load : (e : Element) (t : Test) (behind : List Order) (z : KnownTest known s e t) (v : Words) → silently p g acts (suc (suc (suc (homes t)))) (formed_list e t (order.Load ∷ behind)) s.before ≡ Changed v → AfterLoad e t v
    after_load e t behind z v did =
        one_behind known s (suc (suc (homes t))) (formed_list e t (order.Load ∷ behind)) order.Load v (behind_there e t order.Load behind) did (AfterLoad e t v)
        (λ u is goes.
        let made = after_forms known s e t (order.Load ∷ behind) z u is in
        let loads : Changed (put (word_at s.before.memory made.at) s.before) ≡ Changed v =
        sym (fetched_there made.at s.before made.within) ∙ ap (λ x. unrefused (perform p.limits.area (Fetch None) x)) (sym made.is) ∙ goes in
        record { at = made.at; within = made.within; leads = made.leads; is = (let same : put (word_at s.before.memory made.at) s.before ≡ v = cc in sym same) })

    -- where the code of the address begins
    pub record Begun (e : Element) : Type 0 where
      pub at : ℕ
      pub comes : ComesTo known s q s.landed e e.test at

    with_tail : (e : Element) (ps qs : List Coded) → HasPieces image (all.stands g s.orders s.unit).value (start_place known s) ((element_address e ++ ps) ++ qs) → Begun e
    with_tail e ps qs h =
        record { at = start_place known s; comes = comes_at_once known s e (ps ++ qs) (subst (HasPieces image (all.stands g s.orders s.unit).value (start_place known s)) (append_assoc (element_address e) ps qs) h) }

    -- the check of a product with an element
    abbrev check_pieces : Element → (line : ℕ) → List Coded
    check_pieces e line =
        checked_by (is_short (reach_of s.orders) s.from (block.Operate (simple.Element e) (uses.Multiply line)) order.Save) line (own_place s.orders s.from + pieces_size (product_with (simple.Element e))) (call_place (names_of s.orders) s.from)

    begun_at : (e : Element) (u : Use) → UseBlocks.Code known s (simple.Element e) u → Begun e
    begun_at e (uses.Add line) h = with_tail e _ _ h
    begun_at e (uses.Subtract line) h = with_tail e _ _ h
    begun_at e (uses.Multiply line) h =
        let r = start_room known s in
        let a = at_start known s s.landed r in
        let last_pieces : List Coded = pieces.Whole (load 0 at_si) ∷ pieces.Whole (multiply 1) ∷ [] in
        record {
          at = start_place known s + 2;
          comes = record {
            top = r.above;
            ax = s.landed.stacked.ax;
            cx = s.landed.stacked.ax;
            low = r.low;
            steps = 1;
            few_steps = lit≤ tt;
            first = false;
            comes = last rows a.is s.landed.kept.wrote (record { dx = a.dx; bx = a.bx; si = a.si; overflow = a.overflow; is = moved_to rows 1 0 h.0 a.is });
            tail = last_pieces ++ check_pieces e line;
            stands = subst (HasPieces image (all.stands g s.orders s.unit).value (start_place known s + 2)) (append_assoc (element_address e) last_pieces (check_pieces e line)) h.1;
          };
        }
    begun_at e uses.Mask h = record { at = start_place known s; comes = comes_at_once known s e _ h }
    begun_at e uses.Union h = record { at = start_place known s; comes = comes_at_once known s e _ h }
    begun_at e uses.Differ h = record { at = start_place known s; comes = comes_at_once known s e _ h }
    begun_at e (uses.Compare c m) h = with_tail e _ _ h

    -- the instruction that names the word
    word_from_element : (e : Element) (tail : List Coded) (l : Before known s true) (at : ℕ) → at < p.limits.area → LeadsTo known s e e.test at
        → HasPieces image (all.stands g s.orders s.unit).value (start_place known s) (element_address e ++ tail) → UseBlocks.NamedHere known s (simple.Element e) (word_at s.before.memory at)
    word_from_element e tail l at within leads h x rest same =
        let k = with_known (Word x ∷ rest) same l in
        let r = room_above known s true l.stacked.ax l.stack l.top s.before.operands (room_in known s) l.operands in
        let half = half_of at within in
        let under : StackIs p acts l.stack (suc r.above) rest = subst (λ n. StackIs p acts l.stack n rest) r.is k.operands.1 in
        leads_on
        (λ t a.
        word_named (setting known s) s.before.memory s.before.input s.before.output 2 at at_si (word_at s.before.memory at) x rest k.operands.0 (l.kept.words at within) (refl, refl, half, refl) (λ op. refl) (lit< tt) (omega arith) under l.kept a.is)
        (leads false true l tail (start_place known s) r.above l.stacked.ax l.stacked.cx q (at_start known s l r) h)

    memory_fits : (at : ℕ) → at < p.limits.area → FitsWord (word_at s.before.memory at)
    memory_fits at within = let long = s.landed.kept.long in s.fits_before.memory at (pos 0) (omega arith)

    product_size : (e : Element) → pieces_size (product_with (simple.Element e)) ≡ element_size e e.test + 6
    product_size e =
        let last_pieces : List Coded = pieces.Whole (load 0 at_si) ∷ pieces.Whole (multiply 1) ∷ [] in
        omega (arith, appended_long (element_address e) last_pieces, element_long_as e)

    -- both factors are in registers
    record AtProduct {m : Bool} (l : Before known s m) (at ax cx top : ℕ) (t : Watched) : Type 0 where
      pub dx : ℕ
      pub bx : ℕ
      pub si : ℕ
      pub overflow : Bool
      pub is : Is image at (view ax cx dx bx (2 * suc top) (record_of acts) si p.limits.area overflow l.cells l.stack l.input l.told) t

    -- the product with it
    element_multiplies : (e : Element) (l : Before known s true) (at : ℕ) → at < p.limits.area → LeadsTo known s e e.test at → UseBlocks.Multiplies known s (simple.Element e) (word_at s.before.memory at)
    element_multiplies e l at within leads line small h checks ends = cases s.before.operands refl
      where
        y : ℤ
        y = word_at s.before.memory at

        cases : (ops : List Operand) → s.before.operands ≡ ops → Does p image 24 (code_end known s) g true line acts s.before.output q (perform p.limits.area (Multiply (pos 0)) (put y (words ops s.before.memory s.before.input s.before.output)))
        cases [] same = tt
        cases (Held d ∷ rest) same = tt
        cases (Word x ∷ rest) same =
            let k = with_known (Word x ∷ rest) same l in
            let r = room_above known s true l.stacked.ax l.stack l.top s.before.operands (room_in known s) l.operands in
            let a = at_start known s l r in
            let st = all.stands g s.orders s.unit in
            let start = start_place known s in
            let half = half_of at within in
            let few = few_element e e.test in
            let fx : FitsWord x = All-head OperandFits (Word x) rest (subst (All OperandFits) same s.fits_before.operands) in
            let fy : FitsWord y = memory_fits at within in
            let room : operand_words (Word x ∷ rest) < level acts = subst (λ xs. operand_words xs < level acts) same (room_in known s) in
            let last_pieces : List Coded = pieces.Whole (load 0 at_si) ∷ pieces.Whole (multiply 1) ∷ [] in
            let parts = stand_both image st.value (start + 2) (element_address e) (last_pieces ++ check_pieces e line) (subst (HasPieces image st.value (start + 2)) (append_assoc (element_address e) last_pieces (check_pieces e line)) h.1) in
            let behind : ℕ = start + 2 + element_size e e.test in
            let rest_there : HasPieces image st.value behind (last_pieces ++ check_pieces e line) = subst (λ n. HasPieces image st.value (start + 2 + n) (last_pieces ++ check_pieces e line)) (element_long_as e) parts.1 in
            let moved : AtAddress known s l (start + 2) r.above l.stacked.ax l.stacked.ax (watched_step q) = record { dx = a.dx; bx = a.bx; si = a.si; overflow = a.overflow; is = moved_to rows 1 0 h.0 a.is } in
            let tail_there = subst (HasPieces image st.value (start + 2)) (append_assoc (element_address e) last_pieces (check_pieces e line)) h.1 in
            let size = product_size e in
            let check = UseBlocks.product_checked known s (simple.Element e) line (behind + 2 + 2) checks ends (omega arith) rest_there.1.1 in
            later p image 15 (code_end known s) g true line acts (1 + (element_steps e e.test + 1)) 24 (put_value (scaled_product x y (pos 0)) (words rest s.before.memory s.before.input s.before.output)) (omega arith)
            (leads_then (last rows a.is l.kept.wrote moved) (λ t b.
            leads_then (leads false true l (last_pieces ++ check_pieces e line) (start + 2) r.above l.stacked.ax l.stacked.ax t b tail_there) (λ u d.
            last rows {Target = AtProduct l (behind + 2) (l.cells at) l.stacked.ax r.above} d.is l.kept.wrote (record { dx = b.dx; bx = d.bx; si = 2 * at; overflow = d.overflow; is = (act rows (Into 0 at_si (InData at) (l.cells at)) (lit< tt) rest_there.0 ((refl, refl, half, refl), refl) d.is).is }))))
            (λ t d.
            UseBlocks.other_multiplies (setting known s) s.before.memory s.before.input s.before.output x rest fx room k (code_end known s) line small y fy
            (subst (λ n. Is image (behind + 2) (view n (unsigned x) d.dx d.bx (2 * l.top) (record_of acts) d.si p.limits.area d.overflow l.cells l.stack l.input l.told) t) (l.kept.words at within)
            (subst (λ n. Is image (behind + 2) (view (l.cells at) n d.dx d.bx (2 * l.top) (record_of acts) d.si p.limits.area d.overflow l.cells l.stack l.input l.told) t) k.operands.0
            (subst (λ n. Is image (behind + 2) (view (l.cells at) l.stacked.ax d.dx d.bx (2 * n) (record_of acts) d.si p.limits.area d.overflow l.cells l.stack l.input l.told) t) (sym r.is) d.is)))
            rest_there.1.0 check)

    -- the code of the address, where an operation on AX is behind it
    record AddressThere (e : Element) : Type 0 where
      pub tail : List Coded
      pub stands : HasPieces image (all.stands g s.orders s.unit).value (start_place known s) (element_address e ++ tail)

    tail_there : (e : Element) (ps qs : List Coded) → HasPieces image (all.stands g s.orders s.unit).value (start_place known s) ((element_address e ++ ps) ++ qs) → AddressThere e
    tail_there e ps qs h = record { tail = ps ++ qs; stands = subst (HasPieces image (all.stands g s.orders s.unit).value (start_place known s)) (append_assoc (element_address e) ps qs) h }

    address_there : (e : Element) (u : Use) → OneOperation u → UseBlocks.Code known s (simple.Element e) u → AddressThere e
    address_there e (uses.Add line) one h = tail_there e _ _ h
    address_there e (uses.Subtract line) one h = tail_there e _ _ h
    address_there e (uses.Multiply line) one h = absurd one
    address_there e uses.Mask one h = record { tail = _; stands = h }
    address_there e uses.Union one h = record { tail = _; stands = h }
    address_there e uses.Differ one h = record { tail = _; stands = h }
    address_there e (uses.Compare c m) one h = tail_there e _ _ h

    loaded_mode : (e : Element) (t : Test) (behind : List Order) → loaded_silently (suc (suc (suc (homes t)))) (formed_list e t (order.Load ∷ behind)) false ≡ Some true
    loaded_mode e t behind = ap (λ o. loaded_then o (loaded_silently (suc (suc (homes t))) (tail_list e t (order.Load ∷ behind)))) (mode_free e.index) ∙ fetched_mode e t behind

    element_computes : (e : Element) (u : Use) (rest : List Order) (z : KnownTest known s e e.test) → UseBlocks.Computes u → s.done ≡ suc (suc (suc (suc (homes e.test)))) → drop s.from s.orders.list ≡ order.Save ∷ formed_list e e.test (order.Load ∷ order_of u ∷ rest)
        → block_at 0 (drop s.from s.orders.list) ≡ block.Operate (simple.Element e) u → orders_left (block.Operate (simple.Element e) u) ≡ suc (suc (suc (suc (homes e.test)))) → Follow known (at_order g place loaded acts w Running) q
    element_computes e u rest z h is_done list is many =
        let n = suc (suc (suc (suc (homes e.test)))) in
        let os = formed_list e e.test (order.Load ∷ order_of u ∷ rest) in
        let b = block.Operate (simple.Element e) u in
        let there = next_there e e.test order.Load (order_of u) rest in
        let here = order_here known s n (order_of u) _ is_done list there in
        let ends = block_ends known s b order.Save os n is_done list is (ap (λ m. size_to (is_short (reach_of s.orders)) (suc s.from) m os n) many ∙ none_inside (is_short (reach_of s.orders)) (suc s.from) n os) (ap (λ m. left_at m os n) many ∙ over_inside (suc (suc (suc (homes e.test)))) os (order_of u) there) in
        let before = saved known s true (suc (suc (suc (homes e.test)))) os is_done list (loaded_mode e e.test (order_of u ∷ rest)) in
        let made = after_load e e.test (order_of u ∷ rest) z w (did_as known s n _ is_done list) in
        let cost = UseBlocks.costs known s u in
        let paid : UseBlocks.bound known s u ≤ weight p (at_order g place loaded acts w Running) = let x = weight_is known s (order_of u) here in omega arith in
        let code = block_code known s b order.Save os list is in
        let y = word_at s.before.memory made.at in
        let d = UseBlocks.used_law known s (simple.Element e) u y h (memory_fits made.at made.within) (line_fits known s (order_of u) here) ends.behind code
        (λ line before test to short checks form size there over i. checked_block known s b order.Save os line before test to short list is checks form size there over i)
        (λ one. let t = address_there e u one code in word_from_element e t.tail before.landed made.at made.within made.leads t.stands)
        (element_multiplies e before.landed made.at made.within made.leads) in
        does known s true (line_of (order_of u)) (UseBlocks.outcome p.limits.area u w) (UseBlocks.bound known s u) ends.begins (step_in known s true (order_of u) before.now here ∙ UseBlocks.step_goes known s u h) paid
        (subst (λ v. Does p image (UseBlocks.bound known s u) (code_end known s) g true (line_of (order_of u)) acts w.output q (UseBlocks.outcome p.limits.area u v)) (sym made.is)
        (subst (λ o. Does p image (UseBlocks.bound known s u) (code_end known s) g true (line_of (order_of u)) acts o q (UseBlocks.outcome p.limits.area u (put y s.before))) s.wrote d))

    element_compares : (e : Element) (c : Comparator) (m : ℕ) (rest : List Order) (z : KnownTest known s e e.test) → s.done ≡ suc (suc (suc (suc (homes e.test)))) → drop s.from s.orders.list ≡ order.Save ∷ formed_list e e.test (order.Load ∷ order.JumpIf c m ∷ rest)
        → block_at 0 (drop s.from s.orders.list) ≡ block.Operate (simple.Element e) (uses.Compare c m) → orders_left (block.Operate (simple.Element e) (uses.Compare c m)) ≡ suc (suc (suc (suc (homes e.test)))) → Follow known (at_order g place loaded acts w Running) q
    element_compares e c m rest z is_done list is many =
        let n = suc (suc (suc (suc (homes e.test)))) in
        let os = formed_list e e.test (order.Load ∷ order.JumpIf c m ∷ rest) in
        let b = block.Operate (simple.Element e) (uses.Compare c m) in
        let there = next_there e e.test order.Load (order.JumpIf c m) rest in
        let here = order_here known s n (order.JumpIf c m) _ is_done list there in
        let ends = block_ends known s b order.Save os n is_done list is (ap (λ k. size_to (is_short (reach_of s.orders)) (suc s.from) k os n) many ∙ none_inside (is_short (reach_of s.orders)) (suc s.from) n os) (ap (λ k. left_at k os n) many ∙ over_inside (suc (suc (suc (homes e.test)))) os (order.JumpIf c m) there) in
        let before = saved known s true (suc (suc (suc (homes e.test)))) os is_done list (loaded_mode e e.test (order.JumpIf c m ∷ rest)) in
        let made = after_load e e.test (order.JumpIf c m ∷ rest) z w (did_as known s n _ is_done list) in
        let paid : 10 ≤ weight p (at_order g place loaded acts w Running) = let x = weight_is known s (order.JumpIf c m) here in omega arith in
        let code = block_code known s b order.Save os list is in
        let y = word_at s.before.memory made.at in
        let t = address_there e (uses.Compare c m) tt code in
        let d = UseBlocks.compares_with known s (simple.Element e) c m y (memory_fits made.at made.within) ends.behind code (reaches_mark known s b order.Save os m list is refl) (word_from_element e t.tail before.landed made.at made.within made.leads t.stands) in
        chosen known s false 0 (UseBlocks.way_of known s c m w) 10 ends.begins (step_in known s true (order.JumpIf c m) before.now here) paid
        (subst (λ v. Chooses p image 10 (code_end known s) (start known s) g false 0 acts w.output q (UseBlocks.way_of known s c m v)) (sym made.is)
        (subst (λ o. Chooses p image 10 (code_end known s) (start known s) g false 0 acts o q (UseBlocks.way_of known s c m (put y s.before))) s.wrote d))

    pub operate_element_follows : (e : Element) (u : Use) (rest : List Order) → drop s.from s.orders.list ≡ order.Save ∷ (operand_orders (simple.Element e) ++ order_of u ∷ rest) → IsNear e
        → block_at 0 (drop s.from s.orders.list) ≡ block.Operate (simple.Element e) u → Follow known (at_order g place loaded acts w Running) q
    operate_element_follows e u rest shape near is = cases s.done refl
      where
        b : Block
        b = block.Operate (simple.Element e) u

        list : drop s.from s.orders.list ≡ order.Save ∷ formed_list e e.test (order.Load ∷ order_of u ∷ rest)
        list = shape ∙ ap (λ l. order.Save ∷ l) (append_assoc (element_orders e) (order.Load ∷ []) (order_of u ∷ rest) ∙ formed_list_is e (order.Load ∷ order_of u ∷ rest))

        z : KnownTest known s e e.test
        z = known_saved known s e e.test (order.Load ∷ order_of u ∷ rest) (has_element e e.test (order.Save ∷ []) (order.Load ∷ order_of u ∷ rest) (suc (homes e.test) + 1) list near (saved_there e e.test (order.Load ∷ order_of u ∷ rest)))

        many : orders_left (block.Operate (simple.Element e) u) ≡ suc (suc (suc (suc (homes e.test))))
        many = ap suc (fetched_many e e.index e.test)

        computes : {v : Use} → UseBlocks.Computes v → u ≡ v → s.done ≡ suc (suc (suc (suc (homes e.test)))) → Follow known (at_order g place loaded acts w Running) q
        computes h same is_done = element_computes e u rest z (subst UseBlocks.Computes (sym same) h) is_done list is many

        ends : (v : Use) → u ≡ v → s.done ≡ suc (suc (suc (suc (homes e.test)))) → Follow known (at_order g place loaded acts w Running) q
        ends (uses.Compare c m) same is_done = compared (subst (λ v. drop s.from s.orders.list ≡ order.Save ∷ formed_list e e.test (order.Load ∷ order_of v ∷ rest)) same list) (is ∙ ap (block.Operate (simple.Element e)) same)
          where
            compared : drop s.from s.orders.list ≡ order.Save ∷ formed_list e e.test (order.Load ∷ order.JumpIf c m ∷ rest) → block_at 0 (drop s.from s.orders.list) ≡ block.Operate (simple.Element e) (uses.Compare c m) → Follow known (at_order g place loaded acts w Running) q
            compared l b = element_compares e c m rest z is_done l b (ap suc (fetched_many e e.index e.test))
        ends _ same is_done = computes tt same is_done

        cases : (k : ℕ) → s.done ≡ k → Follow known (at_order g place loaded acts w Running) q
        cases k is_done = elim (cases_lt k (suc (suc (suc (homes e.test))))) as (λ _. Follow known (at_order g place loaded acts w Running) q) [
          | inl lt ↦ (
              let h = begun_at e u (block_code known s b order.Save _ list is) in
              saved_inner known s e e.test z b (order.Load ∷ order_of u ∷ rest) h.at k h.comes is_done list is (omega arith) (omega (arith, many)))
          | inr ge ↦ (
              let le = within_block known s b (suc (suc (suc (suc (homes e.test))))) is many in
              elim (cases_lt k (suc (suc (suc (suc (homes e.test)))))) as (λ _. Follow known (at_order g place loaded acts w Running) q) [
                | inl lt ↦ inner_follows known s (suc (suc (suc (homes e.test)))) order.Load b (order.Save ∷ formed_list e e.test (order.Load ∷ order_of u ∷ rest)) (omega arith) list (behind_there e e.test order.Load (order_of u ∷ rest)) tt is (omega (arith, many))
                | inr ge ↦ ends u refl (omega arith)
              ])
        ]
