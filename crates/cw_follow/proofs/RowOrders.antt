-- The orders of a block that compares both indexes of an element of two dimensions, what they do in sum, and the code of the second one.
use Rattle.std.proofs.Common.{◌≡◌, ℕ, suc, ◌+◌, ◌*◌, ◌%◌, ◌<◌, ◌≤◌, Bool, true, ℤ, pos, ◌+ℤ◌, ◌-ℤ◌, ◌*ℤ◌, List, [], ◌∷◌, ◌++◌, length, Some, refl, sym, ap, ap₂, ◌∙◌, subst, arith, lit<, lit≤}
use Rattle.std.specs.Prelude.{slice_get, ◌&&◌, min}
use borrow.Author.Tests.{ltb-true}
use Rattle.std.proofs.lemmas.Bool.{lt-ltb}
use Rattle.std.proofs.lemmas.Int.{ints}
use Rattle.cw_i86.specs.declared.instr.Rm.TheVariants as rms
use Rattle.cw_rows86.specs.Locations.{InRegister}
use Rattle.cw_rows86.specs.Operations.{Compare}
use Rattle.cw_rows86.specs.Acts.{OperateNumberOnto}
use Rattle.cw_run86.specs.Processor.{Told}
use Rattle.cw_run86.specs.Views.{View, word_sum, difference_overflows}
use Rattle.cw_word.specs.FixedPoint.{fits_word}
use Rattle.cw_word.specs.Word.{signed}
use Rattle.cw_unit.specs.Stop.{IndexRange}
use Rattle.cw_unit.specs.Words.{Words, Outcome, Changed, Refused, put}
use Rattle.cw_unit.specs.Operation.{fitting, address_of}
use Rattle.cw_order.specs.declared.order.Order.{Order}
use Rattle.cw_order.specs.declared.order.Order.TheVariants as order
use Rattle.cw_order.specs.declared.order.Place.TheVariants as cell
use Rattle.cw_tmpl.specs.declared.rows.Column.{Column}
use Rattle.cw_tmpl.specs.declared.rows.Column.TheVariants as column
use Rattle.cw_tmpl.specs.declared.rows.Row.{Row}
use Rattle.cw_tmpl.specs.declared.pieces.Coded.{Coded}
use Rattle.cw_tmpl.specs.declared.pieces.Coded.TheVariants as coded
use Rattle.cw_tmpl.specs.Blocks.{column_orders, orders_in_row, row_order, is_within, last_within}
use Rattle.cw_tmpl.specs.Library.{stop_place, bounds_entry}
use Rattle.cw_tmpl.specs.Mnemonics.{add, si as si_register}
use Rattle.cw_tmpl.specs.Pieces.{Filling}
use Rattle.cw_tmpl.specs.Templates.{column_below}
use Rattle.cw_follow.proofs.Watched.{Watched, watched_step}
use Rattle.cw_follow.proofs.Chains.{Is, IsCompared, Leads, view, last, more, done, compared_more, jump_below, pass_above}
use Rattle.cw_follow.proofs.Acting.{act}
use Rattle.cw_follow.proofs.Straight.{Sum, straight}
use Rattle.cw_follow.proofs.Standing.{HasPieces}
use Rattle.cw_follow.proofs.Stacks.{level, record_of}
use Rattle.cw_follow.proofs.Orders.{Kept, further}
use Rattle.cw_follow.proofs.Operands.{Setting, DoesHere, calls_stop}
use Rattle.cw_follow.proofs.Indexed.{loaded_steps, few_loaded, formed_between}
use Rattle.cw_follow.proofs.ElementTests.{address_order, within_span}
use Rattle.cw_follow.proofs.BoundedBlocks.{InTop}
use Rattle.cw_follow.proofs.InBlocks.{loaded_silently}
use Rattle.cw_follow.proofs.Naming.{both_true}

-- ---- arithmetic

-- what the source does with two indexes whose word is in the area
pub formed_of_two : (area b m n width : ℕ) (l1 l2 i j : ℤ) (v : Words) → area ≤ 32768 → m < 32768 → b + (m * width + n) < area → i -ℤ l1 ≡ pos m → j -ℤ l2 ≡ pos n
    → fitting (fits_word (i -ℤ l1))
    (fitting (fits_word ((i -ℤ l1) *ℤ pos width))
    (fitting (fits_word (j -ℤ l2)) (fitting (fits_word ((i -ℤ l1) *ℤ pos width +ℤ (j -ℤ l2))) (address_of (min area 32768) (signed b +ℤ ((i -ℤ l1) *ℤ pos width +ℤ (j -ℤ l2))) v))))
    ≡ Changed (put (pos (b + (m * width + n))) v)
formed_of_two area b m n width l1 l2 i j v low few within less1 less2 =
    ap₂ whole less1 less2 ∙ ap (λ t. fitting t (in_rows (pos m *ℤ pos width))) (lt-ltb m 32768 few) ∙ ap in_rows product
    ∙ ap (λ t. fitting t (in_columns (pos (m * width)))) (lt-ltb (m * width) 32768 (omega arith))
    ∙ ap (λ t. fitting t (summed (pos (m * width) +ℤ pos n))) (lt-ltb n 32768 (omega arith))
    ∙ formed_between area b (m * width + n) (pos (m * width) +ℤ pos n) v low within total
  where
    summed : ℤ → Outcome
    summed y = fitting (fits_word y) (address_of (min area 32768) (signed b +ℤ y) v)

    in_columns : ℤ → Outcome
    in_columns y = fitting (fits_word (pos n)) (summed (y +ℤ pos n))

    in_rows : ℤ → Outcome
    in_rows y = fitting (fits_word y) (in_columns y)

    whole : ℤ → ℤ → Outcome
    whole x y = fitting (fits_word x) (fitting (fits_word (x *ℤ pos width)) (fitting (fits_word y) (summed (x *ℤ pos width +ℤ y))))

    product : pos m *ℤ pos width ≡ pos (m * width)
    product = omega (arith, ints)

    total : pos (m * width) +ℤ pos n ≡ pos (m * width + n)
    total = omega (arith, ints)

-- the word at both upper bounds
pub record LastWord (rows columns : ℤ) (width span : ℕ) : Type 0 where
  pub row : ℕ
  pub row_is : rows ≡ pos row
  pub row_within : row < span
  pub column : ℕ
  pub column_is : columns ≡ pos column
  pub column_within : column < span
  pub within : row * width + column < span

pub last_word : (rows columns : ℤ) (width span : ℕ) → (is_within rows span && (is_within columns span && last_within rows columns width span)) ≡ true → LastWord rows columns width span
last_word rows columns width span e =
    let a = both_true (is_within rows span) (is_within columns span && last_within rows columns width span) e in
    let b = both_true (is_within columns span) (last_within rows columns width span) a.1 in
    let m = within_span rows span a.0 in
    let n = within_span columns span b.0 in
    let holds : last_within (pos m.0) (pos n.0) width span ≡ true = ap₂ (λ x y. last_within x y width span) (sym m.1) (sym n.1) ∙ b.1 in
    record { row = m.0; row_is = m.1; row_within = m.2; column = n.0; column_is = n.1; column_within = n.2; within = ltb-true (m.0 * width + n.0) span holds }

-- ---- the orders

-- those that put a second index, with others behind them, and the number of one behind them
abbrev pub column_list : Column → List Order → List Order
column_list (column.Number w) os = order.Const w ∷ os
column_list (column.Contents x) os = address_order x ∷ order.Load ∷ os

abbrev pub after_column : Column → ℕ → ℕ
after_column (column.Number w) n = suc n
after_column (column.Contents x) n = suc (suc n)

pub behind_column : (c : Column) (os : List Order) (n : ℕ) → slice_get (column_list c os) (after_column c n) ≡ slice_get os n
behind_column (column.Number w) os n = refl
behind_column (column.Contents x) os n = refl

pub next_after : (c : Column) (n : ℕ) → after_column c (suc n) ≡ suc (after_column c n)
next_after (column.Number w) n = refl
next_after (column.Contents x) n = refl

abbrev pub columns_order : Row → Order
columns_order r = order.InBounds r.columns.lower r.columns.upper r.columns.line

abbrev pub rows_order : Row → Order
rows_order r = order.InBounds r.rows.lower r.rows.upper r.rows.line

abbrev pub tail_of : Row → List Order → List Order
tail_of r rest = columns_order r ∷ order.Save ∷ order.Home r.family r.first ∷ row_order r ∷ rest

abbrev pub row_list : Row → Column → List Order → List Order
row_list r c rest = rows_order r ∷ order.Save ∷ column_list c (tail_of r rest)

pub row_list_is : (r : Row) (c : Column) (rest : List Order) → (rows_order r ∷ order.Save ∷ (column_orders c ++ orders_in_row r)) ++ row_order r ∷ rest ≡ row_list r c rest
row_list_is r (column.Contents (cell.Word f n)) rest = refl
row_list_is r _ rest = refl

-- how many there are, and where they leave the accumulator
pub many_orders : (r : Row) (c : Column) → length (rows_order r ∷ order.Save ∷ (column_orders c ++ orders_in_row r)) ≡ suc (suc (after_column c 3))
many_orders r (column.Contents (cell.Word f n)) = refl
many_orders r _ = refl

pub mode_is : (r : Row) (c : Column) (rest : List Order) → loaded_silently (suc (after_column c 3)) (order.Save ∷ column_list c (tail_of r rest)) true ≡ Some true
mode_is r (column.Contents (cell.Word f n)) rest = refl
mode_is r _ rest = refl

-- how many instructions load a second index
abbrev pub column_steps : Column → ℕ
column_steps (column.Number w) = 1
column_steps (column.Contents x) = loaded_steps x

pub few_column : (c : Column) → column_steps c ≤ 2
few_column (column.Number w) = lit≤ tt
few_column (column.Contents x) = few_loaded x

-- ---- the code

module _ (c : Setting) (memory : List ℤ) (input output : List ℕ) (value : Filling) where
  -- SI is compared with so many indexes
  module _ (line count : ℕ) (rest : List Coded) {p : Watched} {at ax cx dx bx : ℕ} {overflow : Bool} {cells stack : ℕ → ℕ} {left : List ℕ} {told : Told} (top word : ℕ)
      (kept : Kept c.program c.g c.acts memory input output cells stack left told) (h : HasPieces c.image value at (column_below line count ++ rest))
      (s : Is c.image at (view ax cx dx bx (2 * suc top) (record_of c.acts) word c.program.limits.area overflow cells stack left told) p) where
    abbrev compared_there : View
    compared_there = view ax cx dx bx (2 * suc top) (record_of c.acts) word c.program.limits.area (difference_overflows word count) cells stack left told

    abbrev ColumnCompared : Watched → Type 0
    ColumnCompared q = IsCompared c.image (at + 4) compared_there word count q

    column_compared : ColumnCompared (watched_step p)
    column_compared =
        let t = act c.rows (OperateNumberOnto Compare count (rms.Reg si_register) (InRegister si_register) word) (lit< tt) h.0 (refl, tt, refl) s in
        record { is = t.is; flags = c.rows.as_compared word count p.processor.state.flags (watched_step p).processor t.flags }

    pub column_passes : word < count → Leads output 2 p (InTop c memory input output value (at + 4 + 2 + 5) ax word top cells stack left told)
    column_passes lt =
        compared_more c.rows {Between = ColumnCompared} s kept.wrote column_compared (λ q t.
        last c.rows t.is kept.wrote (record { cx = cx; dx = dx; bx = bx; overflow = difference_overflows word count; is = jump_below c.rows 5 lt h.1.0 t }))

    pub column_stops : (to : ℕ) (loaded : Bool) → line < 65536 → top < level c.acts → ((k : ℕ) → (k + value 7 bounds_entry 0 k) % 65536 ≡ stop_place IndexRange % 65536) → count ≤ word
        → DoesHere c memory input output 15 to loaded line p (Refused IndexRange)
    column_stops to loaded small low_top arrives above =
        further 15 (lit≤ tt) (lit< tt)
        (compared_more c.rows {Between = ColumnCompared} s kept.wrote column_compared (λ q t.
        more c.rows {to = at + 4 + 2} {w = compared_there} t.is kept.wrote (pass_above c.rows 5 above h.1.0 t) (λ q u.
        calls_stop c memory input output IndexRange top (value 7 bounds_entry 0 (at + 4 + 2 + 3)) line tt small (omega arith) (arrives (at + 4 + 2 + 3)) kept h.1.1.0 h.1.1.1.0 u)))

  -- the place in the row is added
  pub adds_column : {p : Watched} {at word si : ℕ} {cells stack : ℕ → ℕ} {left : List ℕ} {told : Told} (top z : ℕ) (kept : Kept c.program c.g c.acts memory input output cells stack left told) → word_sum word si ≡ z
      → HasPieces c.image value at (coded.Whole (add 0 6) ∷ []) → InTop c memory input output value at word si top cells stack left told p
      → Leads output 1 p (InTop c memory input output value (at + 2) z si top cells stack left told)
  adds_column {p} {at} {word} {si} {cells} {stack} {left} {told} top z kept sum h s =
      straight c.rows (Sum 0 6 ∷ []) {n = 0} kept.wrote (h.0, tt) (tt, tt) s.is
      (λ q t. done {Target = InTop c memory input output value (at + 2) z si top cells stack left told}
      (subst (λ n. InTop c memory input output value (at + 2) n si top cells stack left told q) sum (record { cx = s.cx; dx = s.dx; bx = s.bx; overflow = _; is = t })))
