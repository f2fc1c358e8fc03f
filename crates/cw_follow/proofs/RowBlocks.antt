-- Blocks that compare both indexes of an element of two dimensions with bounds, the second one from memory or from an instruction, and make its address:
-- between the bounds all words are known to be in the data area, so the address is not tested. Both orders that compare may stop, and each pays for
-- the way to its stop.
use Rattle.std.proofs.Common.{◌≡◌, inl, inr, ℕ, zero, suc, ◌+◌, ◌*◌, ◌%◌, ◌<◌, ◌≤◌, Bool, true, false, ℤ, pos, ◌-ℤ◌, List, [], ◌∷◌, ◌++◌, length, drop, Some, None, refl, sym, ap, ◌∙◌, subst, arith, lit<, lit≤}
use Rattle.std.specs.Prelude.{slice_get, int_le, ◌&&◌}
use Rattle.std.proofs.Math.Nat.{mul-le-mul_right}
use Rattle.cw_i86.specs.Encoding.{bytes_of}
use Rattle.cw_run86.specs.Views.{word_sum}
use Rattle.cw_word.specs.FixedPoint.{FitsWord}
use Rattle.cw_word.specs.Word.{signed, unsigned}
use Rattle.cw_unit.specs.Stop.{StopKind, IndexRange, Running}
use Rattle.cw_unit.specs.Words.{Operand, Word, Held, Words, Outcome, Changed, Refused, Impossible, put, put_if, with_operands, on_one, word_at}
use Rattle.cw_unit.specs.Operation.{Indexed2}
use Rattle.cw_order.specs.declared.order.Order.{Order}
use Rattle.cw_order.specs.declared.order.Order.TheVariants as order
use Rattle.cw_order.specs.declared.order.Place.{Place}
use Rattle.cw_order.specs.declared.order.Place.TheVariants as cell
use Rattle.cw_order.specs.OrderActions.{home_word, place_address}
use Rattle.cw_order.specs.OrderChanges.{from_base}
use Rattle.cw_order.specs.OrderMachine.{unrefused, weight}
use Rattle.cw_order.specs.OrderProgram.{order_at}
use Rattle.cw_order.specs.OrderState.{OrderActivation, at as at_order, frame_word}
use Rattle.cw_tmpl.specs.declared.blocks.Form.TheVariants as form
use Rattle.cw_tmpl.specs.declared.blocks.Block.TheVariants as block
use Rattle.cw_tmpl.specs.declared.rows.Column.{Column}
use Rattle.cw_tmpl.specs.declared.rows.Column.TheVariants as column
use Rattle.cw_tmpl.specs.declared.rows.Row.{Row}
use Rattle.cw_tmpl.specs.declared.pieces.Coded.{Coded}
use Rattle.cw_tmpl.specs.declared.pieces.Coded.TheVariants as pieces
use Rattle.cw_tmpl.specs.Blocks.{orders_to_row, row_order, row_within, block_at, orders_left, left_at}
use Rattle.cw_tmpl.specs.Library.{bounds_entry}
use Rattle.cw_tmpl.specs.Mnemonics.{add, load, field, si as si_register}
use Rattle.cw_tmpl.specs.Pieces.{Filling}
use Rattle.cw_tmpl.specs.Templates.{frame_size, indexes_between, top_below, top_from_lower, from_lower, formed, index_loaded, column_loaded, column_below, row_summed, column_tested, row_address, block_size}
use Rattle.cw_tmpl.specs.ShortForms.{is_short}
use Rattle.cw_tmpl.specs.Sizes.{top_lower_size, lower_size, formed_size, column_size, row_size}
use Rattle.cw_tmpl.specs.ReferenceCode.{reach_of}
use Rattle.cw_tmpl.proofs.Lengths.{field_loaded, top_lower_long}
use Rattle.cw_tmpl.proofs.Sizes.{row_long, column_long, formed_long, lower_long, size_to}
use Rattle.cw_routines.proofs.Facts.{unsigned_pos}
use Rattle.cw_follow.proofs.Watched.{Watched}
use Rattle.cw_follow.proofs.Chains.{Leads, done}
use Rattle.cw_follow.proofs.Straight.{Number, straight}
use Rattle.cw_follow.proofs.Standing.{HasPieces, stand_both}
use Rattle.cw_follow.proofs.Routines.{leads_on, leads_then}
use Rattle.cw_follow.proofs.Orders.{Landed, Does, later, further}
use Rattle.cw_follow.proofs.Operands.{One, DoesHere, result}
use Rattle.cw_follow.proofs.Addresses.{count_passes, count_stops}
use Rattle.cw_follow.proofs.Indexed.{BetweenBounds, from_word, between_bounds, past_bounds, lower_steps, few_lower, loaded_steps, index_by_word, index_by_frame, less_lower}
use Rattle.cw_follow.proofs.ElementTests.{address_order, index_first, index_read, many_between, order_there, none_inside, over_inside, puts_address}
use Rattle.cw_follow.proofs.ElementOrders.{stops_follow}
use Rattle.cw_follow.proofs.BoundedBlocks.{InTop, forms, formed_steps, few_formed, less_lower as top_less_lower, is_between, top_there, top_fits, comparing_follows}
use Rattle.cw_follow.proofs.FrameBlocks.{frame_word_inside}
use Rattle.cw_follow.proofs.InBlocks.{silently, puts_word, chain, Puts, loaded_silently}
use Rattle.cw_follow.proofs.States.{Given, Sound}
use Rattle.cw_follow.proofs.Steps.{Follow, setting, calls, by, order_here, weight_is, moded_as, did_as, block_code, block_ends, start_place, does, Ends, code_end}
use Rattle.cw_follow.proofs.BlockOrders.{within_block, inner_follows, modes, step_in}
use Rattle.cw_follow.proofs.RowOrders.{formed_of_two, LastWord, last_word, column_list, after_column, behind_column, next_after, columns_order, rows_order, tail_of, row_list, row_list_is, many_orders, mode_is, column_steps, few_column, column_passes, column_stops, adds_column}

-- ---- the block

module _ (known : Given) where
  open known use {rows, p, image, all, coded, few, low}

  module _ {q : Watched} {g place : ℕ} {loaded : Bool} {acts : List OrderActivation} {w : Words} (s : Sound p image g place loaded acts w q) where
    -- what is known of such a block
    record Known (r : Row) : Type 0 where
      pub last : LastWord (r.rows.upper -ℤ r.rows.lower) (r.columns.upper -ℤ r.columns.lower) r.width r.span
      pub wide : r.width ≤ 32768
      pub row_lower : FitsWord r.rows.lower
      pub row_upper : FitsWord r.rows.upper
      pub column_lower : FitsWord r.columns.lower
      pub column_upper : FitsWord r.columns.upper
      pub row_line : r.rows.line < 65536
      pub column_line : r.columns.line < 65536
      pub row_inside : home_word p.addresses g r.family r.first + last.row < p.limits.area
      pub column_inside : home_word p.addresses g r.family r.first + last.column < p.limits.area
      pub inside : home_word p.addresses g r.family r.first + (last.row * r.width + last.column) < p.limits.area

    abbrev listed : Row → List Order → List Order
    listed r rest = row_list r r.column rest

    known_of : (r : Row) (rest : List Order) → drop s.from s.orders.list ≡ listed r rest → row_within r ≡ true → Known r
    known_of r rest list within = record {
      last = last;
      wide = made.2;
      row_lower = first.0;
      row_upper = first.1;
      column_lower = second.0;
      column_upper = second.1;
      row_line = coded.lines g (s.from + 0) (rows_order r) first_there;
      column_line = coded.lines g (s.from + suc (suc (after_column r.column 0))) (columns_order r) second_there;
      row_inside = fits last.row last.row_within;
      column_inside = fits last.column last.column_within;
      inside = fits (last.row * r.width + last.column) last.within;
    }
      where
        last : LastWord (r.rows.upper -ℤ r.rows.lower) (r.columns.upper -ℤ r.columns.lower) r.width r.span
        last = last_word (r.rows.upper -ℤ r.rows.lower) (r.columns.upper -ℤ r.columns.lower) r.width r.span within

        there : (n : ℕ) (o : Order) → slice_get (tail_of r rest) n ≡ Some o → order_at p g (s.from + suc (suc (after_column r.column n))) ≡ Some o
        there n o is = order_there known s (suc (suc (after_column r.column n))) o (listed r rest) list (behind_column r.column (tail_of r rest) n ∙ is)

        first_there : order_at p g (s.from + 0) ≡ Some (rows_order r)
        first_there = order_there known s 0 (rows_order r) (listed r rest) list refl

        second_there : order_at p g (s.from + suc (suc (after_column r.column 0))) ≡ Some (columns_order r)
        second_there = there 0 (columns_order r) refl

        next : s.from + suc (suc (after_column r.column 3)) ≡ s.from + suc (suc (after_column r.column 2)) + 1
        next = omega (arith, next_after r.column 2)

        last_there : order_at p g (s.from + suc (suc (after_column r.column 2)) + 1) ≡ Some (row_order r)
        last_there = subst (λ n. order_at p g n ≡ Some (row_order r)) next (there 3 (row_order r) refl)

        fits : (n : ℕ) → n < r.span → home_word p.addresses g r.family r.first + n < p.limits.area
        fits n lt = coded.spans g (s.from + suc (suc (after_column r.column 2))) r.family r.first n (row_order r) (there 2 (order.Home r.family r.first) refl) last_there lt

        first : FitsWord r.rows.lower × FitsWord r.rows.upper
        first = coded.codes g (s.from + 0) (rows_order r) first_there

        second : FitsWord r.columns.lower × FitsWord r.columns.upper
        second = coded.codes g (s.from + suc (suc (after_column r.column 0))) (columns_order r) second_there

        made : FitsWord r.rows.lower × FitsWord r.columns.lower × (r.width ≤ 32768)
        made = coded.codes g (s.from + suc (suc (after_column r.column 2)) + 1) (row_order r) last_there

    rows_count : (r : Row) (z : Known r) → indexes_between (r.rows.upper -ℤ r.rows.lower) ≡ suc z.last.row
    rows_count r z = let inside = z.row_inside in ap indexes_between z.last.row_is ∙ many_between z.last.row (omega arith)

    columns_count : (r : Row) (z : Known r) → indexes_between (r.columns.upper -ℤ r.columns.lower) ≡ suc z.last.column
    columns_count r z = let inside = z.column_inside in ap indexes_between z.last.column_is ∙ many_between z.last.column (omega arith)

    row_number : (r : Row) (z : Known r) (x : ℤ) → FitsWord x → is_between r.rows x ≡ true → BetweenBounds r.rows.lower x z.last.row
    row_number r z x fx holds = between_bounds r.rows.lower r.rows.upper x z.last.row z.row_lower z.row_upper fx z.last.row_is holds

    column_number : (r : Row) (z : Known r) (y : ℤ) → FitsWord y → is_between r.columns y ≡ true → BetweenBounds r.columns.lower y z.last.column
    column_number r z y fy holds = between_bounds r.columns.lower r.columns.upper y z.last.column z.column_lower z.column_upper fy z.last.column_is holds

    -- ---- the code

    abbrev value_of : Filling
    value_of = (all.stands g s.orders s.unit).value

    abbrev Top : (x : ℤ) (rest : List Operand) → Type 0
    Top x rest = One (setting known s) s.before.memory s.before.input s.before.output (start_place known s) x rest q

    -- a word in AX, and one in SI
    abbrev Both : {x : ℤ} {rest : List Operand} → Top x rest → (at word si : ℕ) → Watched → Type 0
    Both l at word si t = InTop (setting known s) s.before.memory s.before.input s.before.output value_of at word si l.top l.cells l.stack l.left l.told t

    -- the places in the code
    abbrev first_at : Row → ℕ
    first_at r = start_place known s + top_lower_size r.rows.lower

    abbrev column_at : Row → ℕ
    column_at r = first_at r + 3 + 2 + 5

    abbrev lower_at : Row → ℕ
    lower_at r = column_at r + column_size r.column

    abbrev second_at : Row → ℕ
    second_at r = lower_at r + lower_size r.columns.lower

    abbrev made_at : Row → ℕ
    made_at r = second_at r + 4 + 2 + 5

    abbrev sum_at : Row → ℕ
    sum_at r = made_at r + formed_size (form.Entry r.width 0 r.span r.columns.line)

    -- the parts of the code
    record Parts (r : Row) : Type 0 where
      pub whole : HasPieces image value_of (start_place known s) (row_address r)
      pub first : HasPieces image value_of (first_at r) (top_below r.rows.line (indexes_between (r.rows.upper -ℤ r.rows.lower)) ++ column_tested r)
      pub loads : HasPieces image value_of (column_at r) (column_tested r)
      pub lowers : HasPieces image value_of (lower_at r) (from_lower r.columns.lower ++ (column_below r.columns.line (indexes_between (r.columns.upper -ℤ r.columns.lower)) ++ row_summed r))
      pub second : HasPieces image value_of (second_at r) (column_below r.columns.line (indexes_between (r.columns.upper -ℤ r.columns.lower)) ++ row_summed r)
      pub makes : HasPieces image value_of (made_at r) (formed r.family r.first (form.Entry r.width 0 r.span r.columns.line))
      pub adds : HasPieces image value_of (sum_at r) (pieces.Whole (add 0 6) ∷ [])

    parts_of : (r : Row) → HasPieces image value_of (start_place known s) (row_address r) → Parts r
    parts_of r h =
        let v = value_of in
        let test : List Coded = column_below r.columns.line (indexes_between (r.columns.upper -ℤ r.columns.lower)) in
        let base : List Coded = formed r.family r.first (form.Entry r.width 0 r.span r.columns.line) in
        let one : first_at r + 3 + 2 + 3 + 2 ≡ column_at r = omega arith in
        let two : second_at r + 4 + 2 + 3 + 2 ≡ made_at r = omega arith in
        let first = subst (λ n. HasPieces image v (start_place known s + n) (top_below r.rows.line (indexes_between (r.rows.upper -ℤ r.rows.lower)) ++ column_tested r)) (top_lower_long r.rows.lower) (stand_both image v (start_place known s) (top_from_lower r.rows.lower) _ h).1 in
        let loads = subst (λ n. HasPieces image v n (column_tested r)) one first.1.1.1.1 in
        let lowers = subst (λ n. HasPieces image v (column_at r + n) (from_lower r.columns.lower ++ (test ++ row_summed r))) (column_long r.column) (stand_both image v (column_at r) (column_loaded r.column) _ loads).1 in
        let second = subst (λ n. HasPieces image v (lower_at r + n) (test ++ row_summed r)) (lower_long r.columns.lower) (stand_both image v (lower_at r) (from_lower r.columns.lower) _ lowers).1 in
        let made : HasPieces image v (made_at r) (row_summed r) = subst (λ n. HasPieces image v n (row_summed r)) two second.1.1.1.1 in
        let both = stand_both image v (made_at r) base (pieces.Whole (add 0 6) ∷ []) made in
        record {
          whole = h;
          first = first;
          loads = loads;
          lowers = lowers;
          second = second;
          makes = both.0;
          adds = subst (λ n. HasPieces image v (made_at r + n) (pieces.Whole (add 0 6) ∷ [])) (formed_long r.family r.first (form.Entry r.width 0 r.span r.columns.line)) both.1;
        }

    -- the number of the first index from its lower bound on
    numbered : (r : Row) (x : ℤ) (rest : List Operand) (l : Top x rest) → FitsWord x → Parts r → Leads s.before.output (lower_steps r.rows.lower) q (Both l (first_at r) (from_word r.rows.lower x) l.si)
    numbered r x rest l fx h =
        top_less_lower (setting known s) s.before.memory s.before.input s.before.output value_of l.top (rows.words.numbers.words.unsigned_fits x fx) l.kept
        (record { cx = l.cx; dx = l.dx; bx = l.bx; overflow = l.overflow; is = l.is }) r.rows.lower _ h.whole

    -- the stop, where it is not between its bounds
    first_stop : (r : Row) (z : Known r) (x : ℤ) (rest : List Operand) (l : Top x rest) → FitsWord x → Parts r → is_between r.rows x ≡ false → (to : ℕ) (m : Bool)
        → DoesHere (setting known s) s.before.memory s.before.input s.before.output 22 to m r.rows.line q (Refused IndexRange)
    first_stop r z x rest l fx h fails to m =
        let count = rows_count r z in
        let past = past_bounds r.rows.lower r.rows.upper x z.last.row z.row_lower z.row_upper fx z.last.row_is fails in
        let few_first = few_lower r.rows.lower in
        let stop = first_at r + 3 + 2 + 3 in
        later p image 15 to g m r.rows.line acts (lower_steps r.rows.lower) 22 (Refused IndexRange) (omega arith) (numbered r x rest l fx h)
        (λ t u.
        count_stops (setting known s) s.before.memory s.before.input s.before.output (λ k. HasPieces image value_of k (column_tested r)) (by known s bounds_entry stop) r.rows.line l.top (indexes_between (r.rows.upper -ℤ r.rows.lower)) l.kept h.first u.is
        to m z.row_line l.low (calls known s bounds_entry stop (lit< tt)) (omega arith))

    -- it is, and the second index is fetched
    passed : (r : Row) (z : Known r) (x : ℤ) (rest : List Operand) (l : Top x rest) (fx : FitsWord x) → Parts r → (holds : is_between r.rows x ≡ true)
        → Leads s.before.output (lower_steps r.rows.lower + 2) q (Both l (column_at r) (row_number r z x fx holds).number l.si)
    passed r z x rest l fx h holds =
        let n = row_number r z x fx holds in
        let few_numbers = n.within in
        let number_is = n.is in
        let count = rows_count r z in
        let from = first_at r + 3 + 2 + 3 in
        leads_then (numbered r x rest l fx h)
        (λ t u.
        leads_on
        (λ t' v. subst (λ m. Both l (column_at r) m l.si t') n.is (record { cx = u.cx; dx = u.dx; bx = u.bx; overflow = _; is = v }))
        (count_passes (setting known s) s.before.memory s.before.input s.before.output (λ k. HasPieces image value_of k (column_tested r)) (by known s bounds_entry from) r.rows.line l.top (indexes_between (r.rows.upper -ℤ r.rows.lower)) l.kept h.first u.is (omega arith)))

    -- what the orders that put the second index read
    abbrev Reads : Column → ℤ → Type 0
    Reads (column.Number n) y = (n < 65536) × (y ≡ signed n)
    Reads (column.Contents x) y = (k : ℕ) × (place_address p g acts x ≡ Some k) × (k < p.limits.area) × (y ≡ word_at s.before.memory k)

    place_loads : (x : Place) (k : ℕ) → place_address p g acts x ≡ Some k → k < p.limits.area → (code : List Coded) {a : ℤ} {under : List Operand} (l : Top a under) (at word : ℕ) (q' : Watched) → Both l at word l.si q'
        → HasPieces image value_of at (index_loaded x ++ code) → Leads s.before.output (loaded_steps x) q' (Both l (at + column_size (column.Contents x)) word (unsigned (word_at s.before.memory k)))
    place_loads (cell.Word f n) k stands within code l at word q' b h =
        let st = all.stands g s.orders s.unit in
        let home : home_word p.addresses g f n ≡ k = cc in
        let half : k < 32768 = omega arith in
        let twice : 2 * home_word p.addresses g f n % 65536 ≡ 2 * k = omega (arith, half) in
        leads_on (λ t u. record { cx = b.cx; dx = b.dx; bx = u.bx; overflow = u.overflow; is = u.is })
        (index_by_word (setting known s) s.before.memory s.before.input s.before.output value_of code l.top k (word_at s.before.memory k) half (l.kept.words k within) l.kept b.is f n (λ after. st.fills.bytes f n after ∙ twice) h)
    place_loads (cell.Frame n) k stands within code l at word q' b h = of_frame acts refl stands
      where
        half : k < 32768
        half = omega arith

        of_frame : (xs : List OrderActivation) → acts ≡ xs → frame_word p.limits.area xs n ≡ Some k → Leads s.before.output 2 q' (Both l (at + (frame_size n + 5)) word (unsigned (word_at s.before.memory k)))
        of_frame [] are stands = absurd (cc)
        of_frame (a ∷ under) are stands =
            let index = (frame_word_inside p.limits.area a under n k stands).0 in
            let there : at + 3 + length (bytes_of (load si_register (field (2 * n % 65536)))) ≡ at + (frame_size n + 5) = omega (arith, field_loaded si_register (2 * n % 65536)) in
            subst (λ m. Leads s.before.output 2 q' (Both l m word (unsigned (word_at s.before.memory k)))) there
            (leads_on (λ t u. record { cx = b.cx; dx = b.dx; bx = u.bx; overflow = u.overflow; is = u.is })
            (index_by_frame (setting known s) s.before.memory s.before.input s.before.output value_of code l.top k (word_at s.before.memory k) half (l.kept.words k within) l.kept b.is n a under are index h))

    column_loads : (c : Column) (y : ℤ) → Reads c y → (code : List Coded) {a : ℤ} {under : List Operand} (l : Top a under) (at word : ℕ) (q' : Watched) → Both l at word l.si q' → HasPieces image value_of at (column_loaded c ++ code)
        → Leads s.before.output (column_steps c) q' (Both l (at + column_size c) word (unsigned y))
    column_loads (column.Number n) y reads code l at word q' b h =
        let same : n ≡ unsigned y = sym (rows.words.numbers.words.forth n reads.0) ∙ ap unsigned (sym reads.1) in
        straight rows (Number 6 n ∷ []) {n = 0} l.kept.wrote (h.0, tt) (tt, tt) b.is
        (λ t u. done {Target = Both l (at + 3) word (unsigned y)} (subst (λ m. Both l (at + 3) word m t) same (record { cx = b.cx; dx = b.dx; bx = b.bx; overflow = b.overflow; is = u })))
    column_loads (column.Contents x) y reads code l at word q' b h =
        subst (λ z. Leads s.before.output (loaded_steps x) q' (Both l (at + column_size (column.Contents x)) word (unsigned z))) (sym reads.3)
        (place_loads x reads.0 reads.1 reads.2 code l at word q' b h)

    -- as far as the second comparison
    abbrev steps_to : Row → ℕ
    steps_to r = lower_steps r.rows.lower + 2 + (column_steps r.column + lower_steps r.columns.lower)

    few_steps : (r : Row) → steps_to r ≤ 6
    few_steps r = omega (arith, few_lower r.rows.lower, few_column r.column, few_lower r.columns.lower)

    reached : (r : Row) (z : Known r) (x y : ℤ) (rest : List Operand) (l : Top x rest) (fx : FitsWord x) → FitsWord y → Reads r.column y → Parts r → (holds : is_between r.rows x ≡ true)
        → Leads s.before.output (steps_to r) q (Both l (second_at r) (row_number r z x fx holds).number (from_word r.columns.lower y))
    reached r z x y rest l fx fy reads h holds =
        leads_then (passed r z x rest l fx h holds)
        (λ t u.
        leads_then
        (column_loads r.column y reads (from_lower r.columns.lower ++ (column_below r.columns.line (indexes_between (r.columns.upper -ℤ r.columns.lower)) ++ row_summed r)) l (column_at r) (row_number r z x fx holds).number t u h.loads)
        (λ t' v.
        leads_on (λ t'' a. record { cx = v.cx; dx = v.dx; bx = a.bx; overflow = a.overflow; is = a.is })
        (less_lower (setting known s) s.before.memory s.before.input s.before.output value_of (column_below r.columns.line (indexes_between (r.columns.upper -ℤ r.columns.lower)) ++ row_summed r) l.top (unsigned y) (rows.words.numbers.words.unsigned_fits y fy) l.kept
        v.is r.columns.lower h.lowers)))

    -- the stop there
    second_stop : (r : Row) (z : Known r) (x y : ℤ) (rest : List Operand) (l : Top x rest) (fx : FitsWord x) → FitsWord y → Reads r.column y → Parts r → is_between r.rows x ≡ true → is_between r.columns y ≡ false → (to : ℕ) (m : Bool)
        → DoesHere (setting known s) s.before.memory s.before.input s.before.output 22 to m r.columns.line q (Refused IndexRange)
    second_stop r z x y rest l fx fy reads h holds fails to m =
        let count = columns_count r z in
        let past = past_bounds r.columns.lower r.columns.upper y z.last.column z.column_lower z.column_upper fy z.last.column_is fails in
        let few_first = few_steps r in
        later p image 15 to g m r.columns.line acts (steps_to r) 22 (Refused IndexRange) (omega arith) (reached r z x y rest l fx fy reads h holds)
        (λ t u.
        column_stops (setting known s) s.before.memory s.before.input s.before.output value_of r.columns.line (indexes_between (r.columns.upper -ℤ r.columns.lower)) (row_summed r) l.top (from_word r.columns.lower y) l.kept h.second u.is
        to m z.column_line l.low (λ k. calls known s bounds_entry k (lit< tt)) (omega arith))

    -- the word that both indexes name
    abbrev word_of : (r : Row) (z : Known r) (x y : ℤ) (fx : FitsWord x) (fy : FitsWord y) → is_between r.rows x ≡ true → is_between r.columns y ≡ true → ℕ
    word_of r z x y fx fy holds holds' = home_word p.addresses g r.family r.first + ((row_number r z x fx holds).number * r.width + (column_number r z y fy holds').number)

    word_inside : (r : Row) (z : Known r) (x y : ℤ) (fx : FitsWord x) (fy : FitsWord y) (holds : is_between r.rows x ≡ true) (holds' : is_between r.columns y ≡ true) → word_of r z x y fx fy holds holds' < p.limits.area
    word_inside r z x y fx fy holds holds' =
        let m = row_number r z x fx holds in
        let n = column_number r z y fy holds' in
        let inside = z.inside in
        omega (arith, inside, n.within, mul-le-mul_right r.width m.within)

    -- the address
    addressed : (r : Row) (z : Known r) (x y : ℤ) (rest : List Operand) (l : Top x rest) (fx : FitsWord x) (fy : FitsWord y) → Reads r.column y → Parts r → (holds : is_between r.rows x ≡ true) (holds' : is_between r.columns y ≡ true)
        → Leads s.before.output (steps_to r + (2 + (formed_steps (form.Entry r.width 0 r.span r.columns.line) + 1))) q (Both l (sum_at r + 2) (word_of r z x y fx fy holds holds') (from_word r.columns.lower y))
    addressed r z x y rest l fx fy reads h holds holds' =
        let st = all.stands g s.orders s.unit in
        let m = row_number r z x fx holds in
        let n = column_number r z y fy holds' in
        let few_rows = m.within in
        let few_columns = n.within in
        let number_is = n.is in
        let count = columns_count r z in
        let base = home_word p.addresses g r.family r.first in
        let inside = word_inside r z x y fx fy holds holds' in
        let row_inside = z.row_inside in
        let first_word : r.first + 0 ≡ r.first = omega arith in
        let named : base ≡ base + (0 * r.width + 0) = omega arith in
        let whole : word_sum (base + (m.number * r.width + 0)) (from_word r.columns.lower y) ≡ word_of r z x y fx fy holds holds' = omega (arith, low) in
        leads_then (reached r z x y rest l fx fy reads h holds)
        (λ t u.
        leads_then
        (column_passes (setting known s) s.before.memory s.before.input s.before.output value_of r.columns.line (indexes_between (r.columns.upper -ℤ r.columns.lower)) (row_summed r) l.top (from_word r.columns.lower y) l.kept h.second u.is (omega arith))
        (λ t' v.
        leads_then
        (forms (setting known s) s.before.memory s.before.input s.before.output value_of l.top l.kept r.family r.first base m.number (pos 0) (form.Entry r.width 0 r.span r.columns.line) (refl, z.wide) (omega arith) (omega arith)
        (λ after. st.fills.homes r.family (r.first + 0) after ∙ ap (home_word p.addresses g r.family) first_word ∙ named) h.makes v)
        (λ t'' a. adds_column (setting known s) s.before.memory s.before.input s.before.output value_of l.top (word_of r z x y fx fy holds holds') l.kept whole h.adds a)))

    -- ---- the words

    -- behind the first comparison
    record FirstDone (r : Row) (n : ℕ) (os : List Order) (v : Words) : Type 0 where
      pub index : ℤ
      pub rest : List Operand
      pub operands : s.before.operands ≡ Word index ∷ rest
      pub holds : is_between r.rows index ≡ true
      pub goes : silently p g acts n os (put index (with_operands s.before rest)) ≡ Changed v

    first_done : (r : Row) (n : ℕ) (os : List Order) (v : Words) → silently p g acts (suc (suc n)) (rows_order r ∷ order.Save ∷ os) s.before ≡ Changed v → FirstDone r n os v
    first_done r n os v did = cases s.before.operands refl did
      where
        tested : (x : ℤ) (rest : List Operand) → s.before.operands ≡ Word x ∷ rest → (t : Bool) → is_between r.rows x ≡ t → chain (put_if t IndexRange x (with_operands s.before rest)) (silently p g acts (suc n) (order.Save ∷ os)) ≡ Changed v → FirstDone r n os v
        tested x rest same false is did = absurd (cc)
        tested x rest same true is did = record { index = x; rest = rest; operands = same; holds = is; goes = did }

        cases : (ops : List Operand) → s.before.operands ≡ ops → chain (on_one (λ i u. put_if (int_le r.rows.lower i && int_le i r.rows.upper) IndexRange i u) ops s.before) (silently p g acts (suc n) (order.Save ∷ os)) ≡ Changed v → FirstDone r n os v
        cases [] same did = absurd (cc)
        cases (Held c ∷ rest) same did = absurd (cc)
        cases (Word x ∷ rest) same did = tested x rest same (is_between r.rows x) refl did

    -- behind the second index
    record ColumnDone (c : Column) (n : ℕ) (os : List Order) (before v : Words) : Type 0 where
      pub index : ℤ
      pub fits : FitsWord index
      pub reads : Reads c index
      pub goes : silently p g acts n os (put index before) ≡ Changed v

    column_done : (c : Column) (n : ℕ) (os : List Order) (ops : List Operand) (v : Words) → ((m : ℕ) → c ≡ column.Number m → m < 65536) → silently p g acts (after_column c n) (column_list c os) (with_operands s.before ops) ≡ Changed v
        → ColumnDone c n os (with_operands s.before ops) v
    column_done (column.Number m) n os ops v small did =
        let lt = small m refl in
        record { index = signed m; fits = rows.words.signed_fits m lt; reads = (lt, refl); goes = did }
    column_done (column.Contents x) n os ops v small did = elim (index_read known s x (with_operands s.before ops)) as (λ _. ColumnDone (column.Contents x) n os (with_operands s.before ops) v) [
      | inl none ↦ (
          let stuck : Impossible ≡ Changed v = sym (ap (λ o. chain o (silently p g acts n os)) none) ∙ sym (index_first known s x n os (with_operands s.before ops)) ∙ did in
          absurd (cc))
      | inr r ↦ (
          let goes : silently p g acts n os (put (word_at s.before.memory r.at) (with_operands s.before ops)) ≡ Changed v = sym (ap (λ o. chain o (silently p g acts n os)) r.is) ∙ sym (index_first known s x n os (with_operands s.before ops)) ∙ did in
          let long = s.landed.kept.long in
          let within = r.within in
          record { index = word_at s.before.memory r.at; fits = s.fits_before.memory r.at (pos 0) (omega arith); reads = (r.at, r.stands, r.within, refl); goes = goes })
    ]

    -- before the second comparison
    record BothDone (r : Row) (n : ℕ) (os : List Order) (v : Words) : Type 0 where
      pub index : ℤ
      pub rest : List Operand
      pub operands : s.before.operands ≡ Word index ∷ rest
      pub holds : is_between r.rows index ≡ true
      pub column : ColumnDone r.column n os (put index (with_operands s.before rest)) v

    both_done : (r : Row) (n : ℕ) (rest : List Order) (v : Words) → drop s.from s.orders.list ≡ listed r rest → silently p g acts (suc (suc (after_column r.column n))) (listed r rest) s.before ≡ Changed v → BothDone r n (tail_of r rest) v
    both_done r n rest v list did =
        let f = first_done r (after_column r.column n) (column_list r.column (tail_of r rest)) v did in
        record {
          index = f.index;
          rest = f.rest;
          operands = f.operands;
          holds = f.holds;
          column = column_done r.column n (tail_of r rest) (Word f.index ∷ f.rest) v (small r.column list) f.goes;
        }
      where
        small : (c : Column) → drop s.from s.orders.list ≡ row_list r c rest → (m : ℕ) → c ≡ column.Number m → m < 65536
        small (column.Number k) e m is = let same : k ≡ m = cc in subst (λ i. i < 65536) same (coded.constants g (s.from + 2) k (order_there known s 2 (order.Const k) _ e refl))
        small (column.Contents x) e m is = absurd (cc)

    -- ---- the orders

    abbrev outcome : Row → Words → Outcome
    outcome r v = unrefused (from_base p.limits.area (λ base. Indexed2 base r.rows.lower r.columns.lower r.width) v)

    -- the first one, which compares
    rows_follow : (r : Row) (rest : List Order) (z : Known r) → Parts r → s.done ≡ 0 → drop s.from s.orders.list ≡ listed r rest → block_at 0 (drop s.from s.orders.list) ≡ block.Row r → 1 ≤ orders_left (block.Row r)
        → Follow known (at_order g place loaded acts w Running) q
    rows_follow r rest z h is_done list is more =
        comparing_follows known s r.rows (block.Row r) _ is_done list is more (λ x under l fx fails m. first_stop r z x under l fx h fails 0 m)

    -- the one that compares the second index
    columns_follow : (r : Row) (rest : List Order) (z : Known r) → Parts r → s.done ≡ suc (suc (after_column r.column 0)) → drop s.from s.orders.list ≡ listed r rest → block_at 0 (drop s.from s.orders.list) ≡ block.Row r
        → Landed p image (start_place known s) g true acts s.before q → suc (suc (suc (after_column r.column 0))) ≤ orders_left (block.Row r) → Follow known (at_order g place loaded acts w Running) q
    columns_follow r rest z h is_done list is landed more =
        let k = suc (suc (after_column r.column 0)) in
        let o = columns_order r in
        let d = both_done r 0 rest w list (did_as known s k (listed r rest) is_done list) in
        let c = d.column in
        let words : put c.index (put d.index (with_operands s.before d.rest)) ≡ w = (let same : Changed (put c.index (put d.index (with_operands s.before d.rest))) ≡ Changed w = c.goes in cc) in
        stops_follow known s o r.columns.line k (listed r rest) (block.Row r) (lit≤ tt) is_done list (behind_column r.column (tail_of r rest) 0) (λ m. refl)
        (λ m kind refused. tested d (is_between r.columns c.index) refl m kind (ap (puts_word p g acts o) words ∙ refused)) is more
      where
        tested : (d : BothDone r 0 (tail_of r rest) w) (t : Bool) → is_between r.columns d.column.index ≡ t → (m : Bool) (kind : StopKind) → put_if t IndexRange d.column.index (put d.index (with_operands s.before d.rest)) ≡ Refused kind
            → Does p image 22 0 g m r.columns.line acts s.before.output q (Refused kind)
        tested d true holds m kind refused = absurd (cc)
        tested d false fails m kind refused =
            let kind_is : IndexRange ≡ kind = cc in
            subst (λ k. Does p image 22 0 g m r.columns.line acts s.before.output q (Refused k)) kind_is
            (second_stop r z d.index d.column.index d.rest (top_there known s d.index d.rest d.operands landed) (top_fits known s d.index d.rest d.operands) d.column.fits d.column.reads h d.holds fails 0 m)

    -- the words before the address is made
    record MadeOf (r : Row) (v : Words) : Type 0 where
      pub index : ℤ
      pub second : ℤ
      pub rest : List Operand
      pub operands : s.before.operands ≡ Word index ∷ rest
      pub holds : is_between r.rows index ≡ true
      pub holds' : is_between r.columns second ≡ true
      pub fits : FitsWord second
      pub reads : Reads r.column second
      pub is : v ≡ put (signed (home_word p.addresses g r.family r.first)) (put second (put index (with_operands s.before rest)))

    made_of : (r : Row) (rest : List Order) (v : Words) → drop s.from s.orders.list ≡ listed r rest → silently p g acts (suc (suc (after_column r.column 3))) (listed r rest) s.before ≡ Changed v → MadeOf r v
    made_of r rest v list did = tested (both_done r 3 rest v list did)
      where
        holds : (d : BothDone r 3 (tail_of r rest) v) (t : Bool) → is_between r.columns d.column.index ≡ t
            → chain (put_if t IndexRange d.column.index (put d.index (with_operands s.before d.rest))) (silently p g acts 2 (order.Save ∷ order.Home r.family r.first ∷ row_order r ∷ rest)) ≡ Changed v → MadeOf r v
        holds d false fails goes = absurd (cc)
        holds d true is goes = record {
          index = d.index;
          second = d.column.index;
          rest = d.rest;
          operands = d.operands;
          holds = d.holds;
          holds' = is;
          fits = d.column.fits;
          reads = d.column.reads;
          is = (let made : put (signed (home_word p.addresses g r.family r.first)) (put d.column.index (put d.index (with_operands s.before d.rest))) ≡ v = cc in sym made);
        }

        tested : BothDone r 3 (tail_of r rest) v → MadeOf r v
        tested d = holds d (is_between r.columns d.column.index) refl d.column.goes

    -- it never stops
    formed_is : (r : Row) (z : Known r) (v : Words) (d : MadeOf r v) (fx : FitsWord d.index) → outcome r v ≡ Changed (put (pos (word_of r z d.index d.second fx d.fits d.holds d.holds')) (with_operands s.before d.rest))
    formed_is r z v d fx =
        let m = row_number r z d.index fx d.holds in
        let n = column_number r z d.second d.fits d.holds' in
        let row_inside = z.row_inside in
        let few_rows = m.within in
        ap (outcome r) d.is
        ∙ ap unrefused (formed_of_two p.limits.area (home_word p.addresses g r.family r.first) m.number n.number r.width r.rows.lower r.columns.lower d.index d.second (with_operands s.before d.rest) low (omega arith)
        (word_inside r z d.index d.second fx d.fits d.holds d.holds') m.less n.less)

    -- where the block ends
    ends_there : (r : Row) (rest : List Order) → s.done ≡ suc (suc (after_column r.column 3)) → drop s.from s.orders.list ≡ listed r rest → block_at 0 (drop s.from s.orders.list) ≡ block.Row r → Ends known s (block.Row r) (rows_order r)
    ends_there r rest is_done list is =
        let os = order.Save ∷ column_list r.column (tail_of r rest) in
        let n = suc (after_column r.column 3) in
        let many : orders_left (block.Row r) ≡ suc n = many_orders r r.column in
        let forms = is_short (reach_of s.orders) in
        block_ends known s (block.Row r) (rows_order r) os (suc n) is_done list is
        (subst (λ m. size_to forms (suc s.from) m os (suc n) ≡ 0) (sym many) (none_inside forms (suc s.from) (suc n) os))
        (subst (λ m. left_at m os (suc n) ≡ 0) (sym many) (over_inside n os (row_order r) (behind_column r.column (tail_of r rest) 3)))

    -- the last one, which makes the address
    makes_follow : (r : Row) (rest : List Order) (z : Known r) → Parts r → s.done ≡ suc (suc (after_column r.column 3)) → drop s.from s.orders.list ≡ listed r rest → block_at 0 (drop s.from s.orders.list) ≡ block.Row r
        → Follow known (at_order g place loaded acts w Running) q
    makes_follow r rest z h is_done list is =
        let o = row_order r in
        let k = suc (suc (after_column r.column 3)) in
        let os = order.Save ∷ column_list r.column (tail_of r rest) in
        let here = order_here known s k o (listed r rest) is_done list (behind_column r.column (tail_of r rest) 3) in
        let ends = ends_there r rest is_done list is in
        let before = modes known s true true true (rows_order r) (suc (after_column r.column 3)) os is_done list refl refl (mode_is r r.column rest) in
        let d = made_of r rest w list (did_as known s k (listed r rest) is_done list) in
        let fx = top_fits known s d.index d.rest d.operands in
        let l = top_there known s d.index d.rest d.operands before.landed in
        let word = word_of r z d.index d.second fx d.fits d.holds d.holds' in
        let inside = word_inside r z d.index d.second fx d.fits d.holds d.holds' in
        let size : block_size false (block.Row r) (rows_order r) ≡ row_size r = row_long r in
        let behind = ends.behind in
        let to : sum_at r + 2 ≡ code_end known s = omega arith in
        let value : word ≡ unsigned (pos word) = sym (unsigned_pos word (omega arith)) in
        let few_first = few_steps r in
        let few_last_steps = few_formed (form.Entry r.width 0 r.span r.columns.line) in
        let paid : 24 ≤ weight p (at_order g place loaded acts w Running) = let x = weight_is known s o here in omega arith in
        let n = steps_to r + (2 + (formed_steps (form.Entry r.width 0 r.span r.columns.line) + 1)) in
        does known s true 0 (outcome r w) 24 ends.begins (step_in known s true o before.now here) paid
        (subst (λ x. Does p image 24 (code_end known s) g true 0 acts w.output q x) (sym (formed_is r z w d fx))
        (subst (λ x. Does p image 24 (code_end known s) g true 0 acts x q (Changed (put (pos word) (with_operands s.before d.rest)))) s.wrote
        (further n (omega arith) (omega arith)
        (leads_on (λ t u. result (setting known s) s.before.memory s.before.input s.before.output (code_end known s) (suc l.top) (pos word) d.rest to value l.under l.kept u.is)
        (addressed r z d.index d.second d.rest l fx d.fits d.reads h d.holds d.holds')))))

    -- the orders behind the first one; the accumulator is loaded there
    record Inside (r : Row) (rest : List Order) : Type 0 where
      pub list : drop s.from s.orders.list ≡ listed r rest
      pub is : block_at 0 (drop s.from s.orders.list) ≡ block.Row r
      pub many : orders_left (block.Row r) ≡ suc (suc (after_column r.column 3))
      pub landed : Landed p image (start_place known s) g true acts s.before q

    landed_before : (r : Row) (rest : List Order) (k : ℕ) → s.done ≡ suc k → drop s.from s.orders.list ≡ listed r rest → Landed p image (start_place known s) g true acts s.before q
    landed_before r rest k is_done list = cases s.loaded_before refl
      where
        cases : (m : Bool) → s.loaded_before ≡ m → Landed p image (start_place known s) g true acts s.before q
        cases true full = subst (λ m. Landed p image (start_place known s) g m acts s.before q) full s.landed
        cases false free =
            let none : None ≡ Some loaded = ap (λ m. loaded_silently (suc k) (listed r rest) m) (sym free) ∙ moded_as known s (suc k) (listed r rest) is_done list in
            absurd (cc)

    inside : (r : Row) (rest : List Order) (k : ℕ) → s.done ≡ suc k → drop s.from s.orders.list ≡ listed r rest → block_at 0 (drop s.from s.orders.list) ≡ block.Row r → Inside r rest
    inside r rest k is_done list is = record { list = list; is = is; many = many_orders r r.column; landed = landed_before r rest k is_done list }

    -- one that puts a word, behind so many others
    puts_inside : (r : Row) (rest : List Order) → Inside r rest → (k : ℕ) (o : Order) → s.done ≡ k → slice_get (listed r rest) k ≡ Some o → Puts o → suc k ≤ suc (suc (after_column r.column 3)) → Follow known (at_order g place loaded acts w Running) q
    puts_inside r rest i k o is_done there puts le = let many = i.many in inner_follows known s k o (block.Row r) (listed r rest) is_done i.list there puts i.is (omega arith)

    -- those behind the second index
    behind_follow : (r : Row) (rest : List Order) (z : Known r) → Parts r → Inside r rest → (n : ℕ) → s.done ≡ suc (suc (after_column r.column n)) → n ≤ 3 → Follow known (at_order g place loaded acts w Running) q
    behind_follow r rest z h i zero is_done le = let many = i.many in columns_follow r rest z h is_done i.list i.is i.landed (omega (arith, next_after r.column 0, next_after r.column 1, next_after r.column 2))
    behind_follow r rest z h i (suc zero) is_done le = puts_inside r rest i (suc (suc (after_column r.column 1))) order.Save is_done (behind_column r.column (tail_of r rest) 1) tt (omega (arith, next_after r.column 1, next_after r.column 2))
    behind_follow r rest z h i (suc (suc zero)) is_done le = puts_inside r rest i (suc (suc (after_column r.column 2))) (order.Home r.family r.first) is_done (behind_column r.column (tail_of r rest) 2) tt (omega (arith, next_after r.column 2))
    behind_follow r rest z h i (suc (suc (suc zero))) is_done le = makes_follow r rest z h is_done i.list i.is
    behind_follow r rest z h i (suc (suc (suc (suc n)))) is_done le = absurd (omega arith)

    -- those that put it, and those
    inside_follow : (r : Row) (rest : List Order) (z : Known r) → Parts r → Inside r rest → (k : ℕ) → s.done ≡ suc (suc k) → suc (suc k) ≤ suc (suc (after_column r.column 3)) → Follow known (at_order g place loaded acts w Running) q
    inside_follow r rest z h i k is_done le = cases r.column refl k is_done le
      where
        cases : (c : Column) → r.column ≡ c → (k : ℕ) → s.done ≡ suc (suc k) → suc (suc k) ≤ suc (suc (after_column c 3)) → Follow known (at_order g place loaded acts w Running) q
        cases (column.Number n) is zero is_done le =
            puts_inside r rest i 2 (order.Const n) is_done (ap (λ c. slice_get (row_list r c rest) 2) is) tt (omega (arith, next_after r.column 0, next_after r.column 1, next_after r.column 2))
        cases (column.Number n) is (suc k) is_done le = behind_follow r rest z h i k (is_done ∙ ap (λ c. suc (suc (after_column c k))) (sym is)) (omega arith)
        cases (column.Contents x) is zero is_done le =
            puts_inside r rest i 2 (address_order x) is_done (ap (λ c. slice_get (row_list r c rest) 2) is) (puts_address x) (omega (arith, next_after r.column 0, next_after r.column 1, next_after r.column 2))
        cases (column.Contents x) is (suc zero) is_done le =
            puts_inside r rest i 3 order.Load is_done (ap (λ c. slice_get (row_list r c rest) 3) is) tt (omega (arith, ap (λ c. after_column c 3) is))
        cases (column.Contents x) is (suc (suc k)) is_done le = behind_follow r rest z h i k (is_done ∙ ap (λ c. suc (suc (after_column c k))) (sym is)) (omega arith)

    pub row_follows : (r : Row) (rest : List Order) → drop s.from s.orders.list ≡ orders_to_row r ++ row_order r ∷ rest → row_within r ≡ true → block_at 0 (drop s.from s.orders.list) ≡ block.Row r → Follow known (at_order g place loaded acts w Running) q
    row_follows r rest there within is = cases s.done refl
      where
        list : drop s.from s.orders.list ≡ listed r rest
        list = there ∙ row_list_is r r.column rest

        z : Known r
        z = known_of r rest list within

        h : Parts r
        h = parts_of r (block_code known s (block.Row r) (rows_order r) _ list is)

        many : orders_left (block.Row r) ≡ suc (suc (after_column r.column 3))
        many = many_orders r r.column

        cases : (k : ℕ) → s.done ≡ k → Follow known (at_order g place loaded acts w Running) q
        cases zero is_done = rows_follow r rest z h is_done list is (omega (arith, many))
        cases (suc zero) is_done =
            puts_inside r rest (inside r rest 0 is_done list is) 1 order.Save is_done refl tt (omega arith)
        cases (suc (suc k)) is_done =
            let le = within_block known s (block.Row r) (suc (suc (after_column r.column 3))) is many in
            inside_follow r rest z h (inside r rest (suc k) is_done list is) k is_done (omega arith)
