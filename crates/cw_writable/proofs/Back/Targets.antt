-- The words that the linker fills in the code of orders that name what there is.
use Rattle.std.proofs.Common.{◌≡◌, ℕ, zero, suc, ◌+◌, ◌-◌, ◌%◌, ◌<◌, ◌≤◌, nat_le, nat_lt, List, [], ◌∷◌, ◌++◌, length, All, Bool, true, false, IsTrue, ◌&&◌, if◌then◌else◌, ◌==◌, ◌^◌, ℤ, pos, negsuc, ◌-ℤ◌, Option, Some, None, is_some, slice_get, slice_index, refl, sym, subst, arith, drop, ap, ◌∙◌, append_assoc}
use Rattle.std.proofs.lemmas.Bool.{ltb-true}
use Rattle.std.proofs.lemmas.Bool.Decides.{nat_tests}
use Rattle.std.specs.List.{list_all}
use Rattle.cw_order.specs.declared.order.Comparator.{Comparator}
use Rattle.cw_order.specs.declared.order.Order.{Order}
use Rattle.cw_order.specs.declared.order.Order.TheVariants as order
use Rattle.cw_order.specs.declared.order.Orders.{Orders}
use Rattle.cw_order.specs.declared.order.LabelMark.{LabelMark}
use Rattle.cw_unit.specs.declared.unit.Goal.{Goal}
use Rattle.cw_unit.specs.declared.unit.Goal.TheVariants as goal
use Rattle.cw_unit.specs.declared.layout.Family.{Family}
use Rattle.cw_unit.specs.declared.layout.Reloc.{Reloc}
use Rattle.cw_tmpl.specs.declared.pieces.Limit.TheVariants as limit
use Rattle.cw_tmpl.specs.declared.pieces.Target.{Target}
use Rattle.cw_tmpl.specs.declared.pieces.Target.TheVariants as target
use Rattle.cw_tmpl.specs.declared.pieces.Coded.{Coded}
use Rattle.cw_tmpl.specs.declared.pieces.Coded.TheVariants as pieces
use Rattle.cw_tmpl.specs.Mnemonics.{add, ax, bx, cx, si, di, at_si, load, store, set_word, compare, double, multiply, operate, jump_if_below, operate_number}
use Rattle.cw_tmpl.specs.declared.rows.Column.{Column}
use Rattle.cw_tmpl.specs.declared.rows.Column.TheVariants as column
use Rattle.cw_tmpl.specs.declared.rows.Row.{Row}
use Rattle.cw_tmpl.specs.declared.blocks.Use.{Use}
use Rattle.cw_tmpl.specs.declared.blocks.Use.TheVariants as uses
use Rattle.cw_tmpl.specs.Pieces.{size_of, target_of, relocation_of, relocation_before, relocations}
use Rattle.cw_tmpl.specs.Names.{Names, mark_place, label_start, procedure_start, switch_start, landing_size, switch_size, own, call_place, has_landing, landing_bytes, switch_bytes}
use Rattle.cw_tmpl.specs.Named.{is_named_label, is_named_switch}
use Rattle.cw_tmpl.specs.Library.{overflow_entry, address_entry, bounds_entry}
use Rattle.cw_order.specs.declared.order.Place.{Place}
use Rattle.cw_order.specs.declared.order.Place.TheVariants as cell
use Rattle.cw_tmpl.specs.declared.blocks.Element.{Element}
use Rattle.cw_tmpl.specs.declared.blocks.Test.{Test}
use Rattle.cw_tmpl.specs.declared.blocks.Test.TheVariants as test
use Rattle.cw_tmpl.specs.declared.blocks.Bounds.{Bounds}
use Rattle.cw_tmpl.specs.declared.blocks.Bounded.{Bounded}
use Rattle.cw_tmpl.specs.declared.blocks.Form.{Form}
use Rattle.cw_tmpl.specs.declared.blocks.Form.TheVariants as form
use Rattle.cw_tmpl.specs.declared.blocks.Simple.{Simple}
use Rattle.cw_tmpl.specs.declared.blocks.Simple.TheVariants as simple
use Rattle.cw_tmpl.specs.declared.blocks.Block.{Block}
use Rattle.cw_tmpl.specs.declared.blocks.Block.TheVariants as block
use Rattle.cw_tmpl.specs.Blocks.{address_orders, bounds_orders, column_orders, orders_in_row, row_order, form_within, entries_within, element_orders, operand_orders, zero_word, block_at, orders_left}
use Rattle.cw_tmpl.proofs.Shapes.{IsBlock, IsNear, TestNear, OperandIs, shape}
use Rattle.cw_tmpl.specs.Templates.{ended_back, times_before, rescale, rescale_before, product, product_before, quotient, quotient_before, is_checked, word_compared, template, template_by, branch_by, pieces_size, mark_words, goal_words, landing_pieces, switch_pieces, times_if, times, rescale_if, product_start, product_down, less_bound, plus_word, times_width, based, in_row, element_of_two, element_inside, block_pieces, block_size, entry_pieces, checked, checked_by, address_pieces, load_place, store_place, with_operand, product_with, operated, shifted_up, shifted_down, shifted_down_signed, lowest_if, part_taken, operate_place, change_place, index_added, index_loaded, from_lower, indexes_between, top_from_lower, top_below, times_entry, formed, bounded_address, element_tested, element_address, call_stop, argument_load_size, column_loaded, column_below, row_summed, column_tested, row_address}
use Rattle.cw_tmpl.specs.ShortForms.{is_short}
use Rattle.cw_tmpl.specs.ReferenceCode.{templates, landings, switches, entry_size, landings_place, switches_place, names_of, pieces_of, landing_where, switch_where}
use Rattle.cw_tmpl.proofs.Sizes.{pieces_by}
use Rattle.cw_tmpl.specs.Blanks.{FillsBlank, Rise}
use Rattle.cw_view.specs.ObjectFormat.{is_blank, has_index}
use Rattle.cw_obj.specs.Writable.{tables}
use Rattle.cw_object.specs.Fits.{is_byte, is_word, is_long, fits_relocation}
use Rattle.cw_object.specs.IsWritable.{is_filled, are_filled}
use Rattle.cw_writable.proofs.Coded.Fine.{no, both, parts}
use Rattle.cw_writable.proofs.Coded.Numbers.{le_true, lt_true}
use Rattle.cw_writable.specs.Back.Ready.{is_goal}
use Rattle.cw_writable.proofs.Back.Fit.{is_place, names_well, Fit, none, next, begun}

-- ---- the words of code

-- the word that index 0 of an element names has a place in its family
zero-small : (lower : ℤ) (span first z : ℕ) → zero_word lower span first ≡ Some z → z < 65536
zero-small (pos zero) span first z e = behind 0 (nat_lt 0 span && nat_lt (first + 0) 65536) refl e
  where
    behind : (d : ℕ) (b : Bool) → (nat_lt d span && nat_lt (first + d) 65536) ≡ b → (if b then Some (first + d) else None) ≡ Some z → z < 65536
    behind d false is e = absurd (cc)
    behind d true is e = let same : first + d ≡ z = cc in grind (arith, nat_tests)
zero-small (pos (suc k)) span first z e = absurd (cc)
zero-small (negsuc k) span first z e = behind (suc k) (nat_lt (suc k) span && nat_lt (first + suc k) 65536) refl e
  where
    behind : (d : ℕ) (b : Bool) → (nat_lt d span && nat_lt (first + d) 65536) ≡ b → (if b then Some (first + d) else None) ≡ Some z → z < 65536
    behind d false is e = absurd (cc)
    behind d true is e = let same : first + d ≡ z = cc in grind (arith, nat_tests)

module _ (n : ℕ) (fs : List Family) where
  abbrev pub is_target : Target → Bool
  is_target (target.Word f o) = is_place fs f o
  is_target (target.Bytes f o) = is_place fs f o
  is_target (target.Place add) = nat_lt add 65536
  is_target (target.Definition d) = nat_lt d n
  is_target (target.DefinitionAhead d) = nat_lt d n
  is_target (target.Library k) = nat_lt k 65536
  is_target (target.LibraryAhead k) = nat_lt k 65536
  is_target (target.Limit l) = true
  is_target target.NextSegment = true

  abbrev pub may_target : Option Target → Bool
  may_target None = true
  may_target (Some t) = is_target t

  abbrev pub is_piece : Coded → Bool
  is_piece p = may_target (target_of p)

  abbrev pub Sound : List Coded → Type 0
  Sound ps = IsTrue (list_all is_piece ps)

  pub sound-both : (xs ys : List Coded) → Sound xs → Sound ys → Sound (xs ++ ys)
  sound-both [] ys h k = k
  sound-both (x ∷ xs) ys h k = let p = parts (is_piece x) (list_all is_piece xs) h in both (is_piece x) (list_all is_piece (xs ++ ys)) p.0 (sound-both xs ys p.1 k)

  own-place : (place : ℕ) → IsTrue (is_target (own place))
  own-place place = let lt : place % 65536 < 65536 = omega arith in lt_true (place % 65536) 65536 lt

  own-only : (place : ℕ) (ps : List Coded) → Sound ps → IsTrue (is_target (own place) && list_all is_piece ps)
  own-only place ps h = both (is_target (own place)) (list_all is_piece ps) (own-place place) h

  only : (b : Bool) → IsTrue b → IsTrue (b && true)
  only b h = both b true h refl

  -- ---- tables

  marks-sound : (names : Names) (ms : List ℕ) → Sound (mark_words names ms)
  marks-sound names [] = refl
  marks-sound names (m ∷ ms) = own-only (mark_place names m) (mark_words names ms) (marks-sound names ms)

  goals-sound : (names : Names) (gs : List Goal) → IsTrue (list_all (is_goal n) gs) → Sound (goal_words names gs)
  goals-sound names [] h = refl
  goals-sound names (goal.Own l ∷ gs) h = own-only (label_start names l) (goal_words names gs) (goals-sound names gs h)
  goals-sound names (goal.Common d ∷ gs) h =
      let p = parts (nat_lt d n) (list_all (is_goal n) gs) h in
      both (nat_lt d n) (list_all is_piece (goal_words names gs)) p.0 (goals-sound names gs p.1)

  -- ---- templates

  times-sound : (b : Bool) (stop line k : ℕ) → IsTrue (nat_lt stop 65536) → Sound (times_if b stop line k)
  times-sound true stop line k h = only (nat_lt stop 65536) h
  times-sound false stop line k h = only (nat_lt stop 65536) h

  rescale-sound : (up top : Bool) (line from to : ℕ) → Sound (rescale_if up top line from to)
  rescale-sound true top line from to = times-sound top overflow_entry line (2 ^ (to - from)) refl
  rescale-sound false top line from to = refl

  down-sound : (line : ℕ) (b : Bool) (k : ℕ) → Sound (product_down line b k)
  down-sound line true k = refl
  down-sound line false k = refl

  bound-sound : (line : ℕ) (lower : ℤ) → Sound (less_bound line lower)
  bound-sound line (pos zero) = refl
  bound-sound line (pos (suc k)) = refl
  bound-sound line (negsuc k) = refl

  word-sound : (line word : ℕ) → Sound (plus_word line word)
  word-sound line zero = refl
  word-sound line (suc k) = refl

  width-sound : (line width : ℕ) (b : Bool) → Sound (if b then [] else times address_entry line width)
  width-sound line width true = refl
  width-sound line width false = times-sound (width == 32768) address_entry line width refl

  row-sound : (line : ℕ) (lower : ℤ) (width : ℕ) → Sound (less_bound line lower ++ (times address_entry line width ++ (in_row line ++ based line)))
  row-sound line lower width =
      let last : List Coded = in_row line ++ based line in
      sound-both (less_bound line lower) (times address_entry line width ++ last) (bound-sound line lower)
      (sound-both (times address_entry line width) last (times-sound (width == 32768) address_entry line width refl) refl)

  of-two-sound : (line : ℕ) (lower second : ℤ) (width : ℕ) → Sound (element_of_two line lower second width)
  of-two-sound line lower (pos zero) width = row-sound line lower width
  of-two-sound line lower (pos (suc k)) width = row-sound line lower width
  of-two-sound line lower (negsuc k) width = row-sound line lower width

  top-lower-sound : (lower : ℤ) → Sound (top_from_lower lower)
  top-lower-sound (pos zero) = refl
  top-lower-sound (pos (suc n)) = refl
  top-lower-sound (negsuc n) = refl

  times-entry-sound : (one : Bool) (width : ℕ) → Sound (if one then [] else pieces.Whole (set_word bx width) ∷ pieces.Whole (multiply bx) ∷ [])
  times-entry-sound true width = refl
  times-entry-sound false width = refl

  row-inside-sound : (lower : ℤ) (width : ℕ) → Sound (top_from_lower lower ++ (times_entry width ++ pieces.Whole (add ax cx) ∷ pieces.Whole (add ax si) ∷ []))
  row-inside-sound lower width =
      let last : List Coded = pieces.Whole (add ax cx) ∷ pieces.Whole (add ax si) ∷ [] in
      sound-both (top_from_lower lower) (times_entry width ++ last) (top-lower-sound lower) (sound-both (times_entry width) last (times-entry-sound (width == 1) width) refl)

  inside-sound : (lower second : ℤ) (width : ℕ) → Sound (element_inside lower second width)
  inside-sound lower (pos zero) width = row-inside-sound lower width
  inside-sound lower (pos (suc k)) width = row-inside-sound lower width
  inside-sound lower (negsuc k) width = row-inside-sound lower width

  -- shifts and parts name nothing
  up-sound : (k : ℕ) → Sound (shifted_up k)
  up-sound zero = refl
  up-sound (suc zero) = refl
  up-sound (suc (suc k)) = refl

  down-shift-sound : (k : ℕ) → Sound (shifted_down k)
  down-shift-sound zero = refl
  down-shift-sound (suc zero) = refl
  down-shift-sound (suc (suc k)) = refl

  signed-sound : (k : ℕ) → Sound (shifted_down_signed k)
  signed-sound zero = refl
  signed-sound (suc zero) = refl
  signed-sound (suc (suc k)) = refl

  lowest-sound : (all : Bool) (t : ℕ) → Sound (lowest_if all t)
  lowest-sound true t = refl
  lowest-sound false t = refl

  part-sound : (t b : ℕ) (is_signed : Bool) → Sound (part_taken t b is_signed)
  part-sound t b true = sound-both (shifted_up (16 - (t + b))) (shifted_down_signed (16 - t)) (up-sound (16 - (t + b))) (signed-sound (16 - t))
  part-sound t b false = sound-both (shifted_down b) (lowest_if (t + b == 16) t) (down-shift-sound b) (lowest-sound (t + b == 16) t)

  template-sound : (names : Names) (place : ℕ) (o : Order) → IsTrue (names_well n fs o) → Sound (template names place o)
  template-sound names place (order.Home f offset) h = only (is_place fs f offset) h
  template-sound names place (order.LoadPart t b is_signed) h = part-sound t b is_signed
  template-sound names place (order.StorePart t b) h = sound-both (shifted_up b) _ (up-sound b) refl
  template-sound names place (order.Take t b) h = part-sound t b false
  template-sound names place (order.Rescale from to line) h = rescale-sound (nat_le from to) (2 ^ (to - from) == 32768) line from to
  template-sound names place (order.Mul (pos zero) line) h = refl
  template-sound names place (order.Mul (pos (suc k)) line) h =
      sound-both (product_start line) (times overflow_entry line (2 ^ suc k)) refl (times-sound (2 ^ suc k == 32768) overflow_entry line (2 ^ suc k) refl)
  template-sound names place (order.Mul (negsuc k) line) h = down-sound line (nat_lt k 15) k
  template-sound names place (order.Div (pos k) line) h = refl
  template-sound names place (order.Div (negsuc k) line) h = refl
  template-sound names place (order.InBounds (pos zero) upper line) h = refl
  template-sound names place (order.InBounds (pos (suc k)) upper line) h = refl
  template-sound names place (order.InBounds (negsuc k) upper line) h = refl
  template-sound names place (order.Element lower span line) h = sound-both (less_bound line lower) (based line) (bound-sound line lower) refl
  template-sound names place (order.ElementOfTwo lower second width line) h = of-two-sound line lower second width
  template-sound names place (order.ElementInside lower second width span) h = inside-sound lower second width
  template-sound names place (order.Entry width word span line) h =
      let last : List Coded = plus_word line word ++ based line in
      sound-both (times_width line width) last (width-sound line width (width == 1)) (sound-both (plus_word line word) (based line) (word-sound line word) refl)
  template-sound names place (order.JumpIf c mark) h = refl
  template-sound names place (order.LoopWay []) h = own-only (place + 20) [] refl
  template-sound names place (order.LoopWay (m ∷ [])) h = refl
  template-sound names place (order.LoopWay (m ∷ k ∷ ms)) h = own-only (place + 20) (mark_words names (m ∷ k ∷ ms)) (marks-sound names (m ∷ k ∷ ms))
  template-sound names place (order.SwitchWay marks line) h = own-only (place + 20) (mark_words names marks) (marks-sound names marks)
  template-sound names place (order.NextStep (cell.Word f k) line m) h = only (is_place fs f k) h
  template-sound names place (order.NextStep (cell.Frame k) line m) h = refl
  template-sound names place (order.CallCommon d line) h = only (nat_lt d n) h
  template-sound names place (order.Enter zero) h = refl
  template-sound names place (order.Enter (suc k)) h = refl
  template-sound names place (order.CallSpecial k line) h = own-only (place + (argument_load_size k + 9)) [] refl
  template-sound names place (order.Bind k f offset) h = only (is_place fs f offset) h
  template-sound names place (order.LabelOut l) h = own-only (label_start names l) [] refl
  template-sound names place (order.LabelCommon d) h = only (nat_lt d n) h
  template-sound names place (order.SwitchOut k) h = own-only (switch_start names k) [] refl
  template-sound names place (order.SwitchCommon d) h = only (nat_lt d n) h
  template-sound names place (order.ProcOut q) h = own-only (procedure_start names q) [] refl
  template-sound names place (order.ProcCommon d) h = only (nat_lt d n) h
  template-sound names place (order.GoCommon d) h = only (nat_lt d n) h
  template-sound names place (order.GoSwitchCommon d line) h = only (nat_lt d n) h
  template-sound names place (order.Start line) h = no h
  template-sound names place _ h = refl

  before-sound : (b : Bool) (k : ℕ) → Sound (times_before b k)
  before-sound true k = refl
  before-sound false k = refl

  product-before-sound : (line : ℕ) (s : ℤ) → Sound (product_before line s)
  product-before-sound line (pos zero) = refl
  product-before-sound line (pos (suc k)) = sound-both (product_start line) (times_before (2 ^ suc k == 32768) (2 ^ suc k)) refl (before-sound (2 ^ suc k == 32768) (2 ^ suc k))
  product-before-sound line (negsuc k) = refl

  quotient-before-sound : (line : ℕ) (s : ℤ) → Sound (quotient_before line s)
  quotient-before-sound line (pos k) = refl
  quotient-before-sound line (negsuc k) = refl

  ended-sound : (ends : Bool) (whole before : List Coded) (line place to : ℕ) → Sound whole → Sound before → Sound (ended_back ends whole before line place to)
  ended-sound true whole before line place to h k = sound-both before (checked_by true line (place + pieces_size before) to) k refl
  ended-sound false whole before line place to h k = h

  -- with its jump short or near, and its check whole or a jump back
  checked-sound : (short : Bool) (line place to : ℕ) → Sound (checked_by short line place to)
  checked-sound true line place to = refl
  checked-sound false line place to = refl

  alone-sound : (names : Names) (place number : ℕ) (short : Bool) (o : Order) → IsTrue (names_well n fs o) → Sound (template_by short names place number o)
  alone-sound names place number false o h = template-sound names place o h
  alone-sound names place number true (order.Add line) h = refl
  alone-sound names place number true (order.Sub line) h = refl
  alone-sound names place number true (order.Neg line) h = refl
  alone-sound names place number true (order.Rescale from to line) h =
      ended-sound (nat_le from to) (rescale line from to) (rescale_before from to) line place (call_place names number) (template-sound names place (order.Rescale from to line) h) (before-sound (2 ^ (to - from) == 32768) (2 ^ (to - from)))
  alone-sound names place number true (order.Mul s line) h =
      ended-sound (is_checked s) (product line s) (product_before line s) line place (call_place names number) (template-sound names place (order.Mul s line) h) (product-before-sound line s)
  alone-sound names place number true (order.Div s line) h =
      ended-sound true (quotient line s) (quotient_before line s) line place (call_place names number) (template-sound names place (order.Div s line) h) (quotient-before-sound line s)
  alone-sound names place number true (order.Jump m) h = refl
  alone-sound names place number true (order.JumpIf c m) h = refl
  alone-sound names place number true (order.LoopWay []) h = template-sound names place (order.LoopWay []) h
  alone-sound names place number true (order.LoopWay (m ∷ [])) h = refl
  alone-sound names place number true (order.LoopWay (m ∷ k ∷ ms)) h = template-sound names place (order.LoopWay (m ∷ k ∷ ms)) h
  alone-sound names place number true o h = template-sound names place o h

  -- ---- blocks

  -- what the first order of a list names, where it puts the address of a word
  abbrev Placed : List Order → Type 0
  Placed [] = Unit {0}
  Placed (order.Home f k ∷ os) = IsTrue (is_place fs f k)
  Placed (_ ∷ os) = Unit {0}

  placed-first : (o : Order) (os : List Order) → IsTrue (names_well n fs o) → Placed (o ∷ os)
  placed-first (order.Home f k) os h = h
  placed-first _ os h = tt

  first-placed : (os : List Order) → Fit n fs os → Placed os
  first-placed _ none = tt
  first-placed _ (next o os h r) = placed-first o os h
  first-placed _ (begun line os h r) = tt

  -- a place names a word of its family
  abbrev Named : Place → Type 0
  Named (cell.Word f k) = IsTrue (is_place fs f k)
  Named (cell.Frame k) = Unit {0}

  named-first : (x : Place) (rest : List Order) → Placed (address_orders x ++ rest) → Named x
  named-first (cell.Word f k) rest h = h
  named-first (cell.Frame k) rest h = tt

  fetch-sound : (x : Place) → Named x → Sound (address_pieces x ++ load_place x ∷ [])
  fetch-sound (cell.Word f k) h = only (is_place fs f k) h
  fetch-sound (cell.Frame k) h = refl

  fetch-part-sound : (x : Place) (t b : ℕ) (is_signed : Bool) → Named x → Sound (address_pieces x ++ load_place x ∷ part_taken t b is_signed)
  fetch-part-sound (cell.Word f k) t b is_signed h = both (is_place fs f k) (list_all is_piece (part_taken t b is_signed)) h (part-sound t b is_signed)
  fetch-part-sound (cell.Frame k) t b is_signed h = part-sound t b is_signed

  assign-sound : (x : Place) → Named x → Sound (address_pieces x ++ store_place x ∷ [])
  assign-sound (cell.Word f k) h = only (is_place fs f k) h
  assign-sound (cell.Frame k) h = refl

  -- and so does each order of a list
  named-there : (os : List Order) → Fit n fs os → (k f m : ℕ) → slice_get os k ≡ Some (order.Home f m) → IsTrue (is_place fs f m)
  named-there _ none k f m e = absurd (cc)
  named-there _ (next o os h r) zero f m e = let same : o ≡ order.Home f m = cc in subst (λ x. IsTrue (names_well n fs x)) same h
  named-there _ (next o os h r) (suc k) f m e = named-there os r k f m e
  named-there _ (begun line os h r) zero f m e = absurd (cc)
  named-there _ (begun line os h r) (suc k) f m e = named-there os r k f m e

  -- the index of an element, and the word that its address begins with
  abbrev TestNamed : Element → Test → Type 0
  TestNamed e (test.Address origin) = IsTrue (is_place fs e.family origin)
  TestNamed e (test.Bounds upper line) = IsTrue (is_place fs e.family e.first)

  abbrev ElementNamed : Element → Type 0
  ElementNamed e = Named e.index × TestNamed e e.test

  loaded-sound : (x : Place) → Named x → Sound (index_loaded x)
  loaded-sound (cell.Word f k) h = only (is_place fs f k) h
  loaded-sound (cell.Frame k) h = refl

  lower-sound : (lower : ℤ) → Sound (from_lower lower)
  lower-sound (pos zero) = refl
  lower-sound (pos (suc n)) = refl
  lower-sound (negsuc n) = refl

  index-sound : (x : Place) (family offset : ℕ) → Named x → IsTrue (is_place fs family offset) → Sound (index_added x family offset)
  index-sound (cell.Word f k) family offset h z = both (is_place fs family offset) (is_place fs f k && true) z (only (is_place fs f k) h)
  index-sound (cell.Frame k) family offset h z = both (is_place fs family offset) true z refl

  tested-sound : (e : Element) (t : Test) → Named e.index → TestNamed e t → Sound (element_tested e t)
  tested-sound e (test.Address origin) named h =
      sound-both (index_added e.index e.family origin) (pieces.Whole (compare si di) ∷ pieces.Whole (jump_if_below 5) ∷ (call_stop address_entry e.line ++ pieces.Whole (double si) ∷ []))
      (index-sound e.index e.family origin named h) refl
  tested-sound e (test.Bounds upper line) named h =
      let compared : List Coded = pieces.Whole (operate_number 7 si (indexes_between (upper -ℤ e.lower))) ∷ pieces.Whole (jump_if_below 5)
      ∷ (call_stop bounds_entry line ++ pieces.Sum si (target.Word e.family e.first) ∷ pieces.Whole (double si) ∷ []) in
      sound-both (index_loaded e.index) (from_lower e.lower ++ compared) (loaded-sound e.index named) (sound-both (from_lower e.lower) compared (lower-sound e.lower) (only (is_place fs e.family e.first) h))

  element-sound : (e : Element) → ElementNamed e → Sound (element_address e)
  element-sound e h = tested-sound e e.test h.0 h.1

  -- the address that is formed of a compared index: its first word has a place, and so has the word of an entry
  word-named : (f first word : ℕ) → IsTrue (is_place fs f first) → IsTrue (nat_lt (first + word) 65536) → IsTrue (is_place fs f (first + word))
  word-named f first word h few =
      let p = parts (is_some (slice_get fs f)) (nat_lt f 65536 && nat_lt first 65536) h in
      both (is_some (slice_get fs f)) (nat_lt f 65536 && nat_lt (first + word) 65536) p.0 (both (nat_lt f 65536) (nat_lt (first + word) 65536) (parts (nat_lt f 65536) (nat_lt first 65536) p.1).0 few)

  formed-sound : (b : Bounds) (f first : ℕ) (x : Form) → IsTrue (is_place fs f first) → IsTrue (form_within b first x) → Sound (formed f first x)
  formed-sound b f first (form.Element span line) h within = only (is_place fs f first) h
  formed-sound b f first (form.Entry width word span line) h within =
      sound-both (times_entry width) (pieces.Sum ax (target.Word f (first + word)) ∷ []) (times-entry-sound (width == 1) width)
      (only (is_place fs f (first + word)) (word-named f first word h (parts (entries_within b.lower b.upper width word span) (nat_lt (first + word) 65536) within).1))

  bounded-sound : (b : Bounded) → IsTrue (is_place fs b.family b.first) → IsTrue (form_within b.bounds b.first b.form) → Sound (bounded_address b)
  bounded-sound b h within =
      let below = top_below b.bounds.line (indexes_between (b.bounds.upper -ℤ b.bounds.lower)) in
      sound-both (top_from_lower b.bounds.lower) (below ++ formed b.family b.first b.form) (top-lower-sound b.bounds.lower)
      (sound-both below (formed b.family b.first b.form) refl (formed-sound b.bounds b.family b.first b.form h within))

  -- the address that is made of two indexes, the second one at a place
  abbrev ColumnNamed : Column → Type 0
  ColumnNamed (column.Number w) = Unit {0}
  ColumnNamed (column.Contents x) = Named x

  column-sound : (c : Column) → ColumnNamed c → Sound (column_loaded c)
  column-sound (column.Number w) h = refl
  column-sound (column.Contents x) h = loaded-sound x h

  compared-row-sound : (r : Row) → ColumnNamed r.column → IsTrue (is_place fs r.family r.first) → Sound (row_address r)
  compared-row-sound r named h =
      let first : List Coded = top_below r.rows.line (indexes_between (r.rows.upper -ℤ r.rows.lower)) in
      let second : List Coded = column_below r.columns.line (indexes_between (r.columns.upper -ℤ r.columns.lower)) in
      let base : List Coded = pieces.Sum ax (target.Word r.family (r.first + 0)) ∷ [] in
      let sum : List Coded = pieces.Whole (add ax si) ∷ [] in
      let same : r.first ≡ r.first + 0 = omega arith in
      let place = only (is_place fs r.family (r.first + 0)) (subst (λ k. IsTrue (is_place fs r.family k)) same h) in
      sound-both (top_from_lower r.rows.lower) (first ++ column_tested r) (top-lower-sound r.rows.lower)
      (sound-both first (column_tested r) refl
      (sound-both (column_loaded r.column) (from_lower r.columns.lower ++ (second ++ row_summed r)) (column-sound r.column named)
      (sound-both (from_lower r.columns.lower) (second ++ row_summed r) (lower-sound r.columns.lower)
      (sound-both second (row_summed r) refl
      (sound-both (times_entry r.width ++ base) sum (sound-both (times_entry r.width) base (times-entry-sound (r.width == 1) r.width) place) refl)))))

  change-sound : (x : Place) (p : Coded) → IsTrue (is_piece p) → Named x → Sound (address_pieces x ++ operate_place 6 x ∷ p ∷ change_place 6 x ∷ [])
  change-sound (cell.Word f k) p h named = both (is_place fs f k) (is_piece p && (is_place fs f k && true)) named (both (is_piece p) (is_place fs f k && true) h (only (is_place fs f k) named))
  change-sound (cell.Frame k) p h named = both (is_piece p) true h refl

  abbrev SimpleNamed : Simple → Type 0
  SimpleNamed (simple.Element e) = ElementNamed e
  SimpleNamed (simple.Number w) = Unit {0}
  SimpleNamed (simple.Contents x) = Named x

  operand-sound : (op : ℕ) (s : Simple) → SimpleNamed s → Sound (with_operand op s)
  operand-sound op (simple.Element e) h = sound-both (element_address e) (pieces.Whole (operate op ax at_si) ∷ []) (element-sound e h) refl
  operand-sound op (simple.Number w) h = refl
  operand-sound op (simple.Contents (cell.Word f k)) h = only (is_place fs f k) h
  operand-sound op (simple.Contents (cell.Frame k)) h = refl

  product-sound : (s : Simple) → SimpleNamed s → Sound (product_with s)
  product-sound (simple.Element e) h = sound-both (element_address e) (pieces.Whole (load ax at_si) ∷ pieces.Whole (multiply cx) ∷ []) (element-sound e h) refl
  product-sound (simple.Number w) h = refl
  product-sound (simple.Contents (cell.Word f k)) h = only (is_place fs f k) h
  product-sound (simple.Contents (cell.Frame k)) h = refl

  branch-sound : (short : Bool) (c : Comparator) (place to : ℕ) → Sound (branch_by short c place to)
  branch-sound true c place to = refl
  branch-sound false c place to = refl

  operated-sound : (names : Names) (place number : ℕ) (short : Bool) (s : Simple) (u : Use) → SimpleNamed s → Sound (operated names place number short s u)
  operated-sound names place number short s (uses.Add line) h = sound-both (with_operand 0 s) _ (operand-sound 0 s h) (checked-sound short line (place + pieces_size (with_operand 0 s)) (call_place names number))
  operated-sound names place number short s (uses.Subtract line) h = sound-both (with_operand 5 s) _ (operand-sound 5 s h) (checked-sound short line (place + pieces_size (with_operand 5 s)) (call_place names number))
  operated-sound names place number short s (uses.Multiply line) h = sound-both (product_with s) _ (product-sound s h) (checked-sound short line (place + pieces_size (product_with s)) (call_place names number))
  operated-sound names place number short s uses.Mask h = operand-sound 4 s h
  operated-sound names place number short s uses.Union h = operand-sound 1 s h
  operated-sound names place number short s uses.Differ h = operand-sound 6 s h
  operated-sound names place number short s (uses.Compare c m) h =
      let behind : ℕ = place + pieces_size (with_operand 7 s) in
      sound-both (with_operand 7 s) (branch_by short c behind (mark_place names m)) (operand-sound 7 s h) (branch-sound short c behind (mark_place names m))

  first-sound : (names : Names) (place number : ℕ) (short : Bool) (o : Order) (os : List Order) → IsTrue (names_well n fs o) → Fit n fs os → Sound (block_pieces names place number short (block_at 0 (o ∷ os)) o)
  first-sound names place number short o os h r = cases (block_at 0 (o ∷ os)) (shape (o ∷ os))
    where
      -- what the orders behind a Save name
      behind : (x : Place) (rest : List Order) → o ∷ os ≡ order.Save ∷ (address_orders x ++ rest) → Named x
      behind x rest e = named-first x rest (subst Placed (ap (drop 1) e) (first-placed os r))

      -- the word that index 0 names is a place where the first word is one
      zero-named : (e : Element) (origin : ℕ) → zero_word e.lower e.span e.first ≡ Some origin → IsTrue (is_place fs e.family e.first) → IsTrue (is_place fs e.family origin)
      zero-named e origin near h =
          let p = parts (is_some (slice_get fs e.family)) (nat_lt e.family 65536 && nat_lt e.first 65536) h in
          both (is_some (slice_get fs e.family)) (nat_lt e.family 65536 && nat_lt origin 65536) p.0 (both (nat_lt e.family 65536) (nat_lt origin 65536) (parts (nat_lt e.family 65536) (nat_lt e.first 65536) p.1).0 (lt_true origin 65536 (zero-small e.lower e.span e.first origin near)))

      -- the orders behind the load of an index, whichever test they have
      index-at : (x : Place) (made rest : List Order) → Placed ((address_orders x ++ order.Load ∷ made) ++ rest) → Named x
      index-at (cell.Word f' k') made rest h = h
      index-at (cell.Frame k') made rest h = tt

      home-at : (x : Place) (e : Element) (rest : List Order) → slice_get ((address_orders x ++ order.Load ∷ order.Save ∷ order.Home e.family e.first ∷ order.Element e.lower e.span e.line ∷ []) ++ rest) 3 ≡ Some (order.Home e.family e.first)
      home-at (cell.Word f' k') e rest = refl
      home-at (cell.Frame k') e rest = refl

      home-behind : (x : Place) (e : Element) (upper : ℤ) (line : ℕ) (rest : List Order)
          → slice_get ((address_orders x ++ order.Load ∷ order.InBounds e.lower upper line ∷ order.Save ∷ order.Home e.family e.first ∷ order.Element e.lower e.span e.line ∷ []) ++ rest) 4 ≡ Some (order.Home e.family e.first)
      home-behind (cell.Word f' k') e upper line rest = refl
      home-behind (cell.Frame k') e upper line rest = refl

      test-named : (e : Element) (t : Test) (list rest : List Order) → TestNear e t → Fit n fs list
          → list ≡ (address_orders e.index ++ order.Load ∷ (bounds_orders e.lower t ++ order.Save ∷ order.Home e.family e.first ∷ order.Element e.lower e.span e.line ∷ [])) ++ rest → TestNamed e t
      test-named e (test.Address origin) list rest near fit is = zero-named e origin near (named-there list fit 3 e.family e.first (ap (λ l. slice_get l 3) is ∙ home-at e.index e rest))
      test-named e (test.Bounds upper line) list rest near fit is = named-there list fit 4 e.family e.first (ap (λ l. slice_get l 4) is ∙ home-behind e.index e upper line rest)

      -- of a list that begins with the orders of an element
      element-named : (e : Element) (list rest : List Order) → IsNear e → Fit n fs list → Placed list → list ≡ element_orders e ++ rest → ElementNamed e
      element-named e list rest near fit placed is = (
        index-at e.index (bounds_orders e.lower e.test ++ order.Save ∷ order.Home e.family e.first ∷ order.Element e.lower e.span e.line ∷ []) rest (subst Placed is placed),
        test-named e e.test list rest near fit is,
      )

      simple-behind : (s : Simple) (rest : List Order) → OperandIs s → o ∷ os ≡ order.Save ∷ (operand_orders s ++ rest) → SimpleNamed s
      simple-behind (simple.Element e) rest near is = element-named e os (order.Load ∷ rest) near r (first-placed os r) (ap (drop 1) is ∙ append_assoc (element_orders e) (order.Load ∷ []) rest)
      simple-behind (simple.Number w) rest near e = tt
      simple-behind (simple.Contents x) rest near e = behind x (order.Load ∷ rest) (e ∙ ap (λ l. order.Save ∷ l) (append_assoc (address_orders x) (order.Load ∷ []) rest))

      -- what the orders of an element of two dimensions name
      column-named : (x : Row) (c : Column) (rest : List Order)
          → o ∷ os ≡ (order.InBounds x.rows.lower x.rows.upper x.rows.line ∷ order.Save ∷ (column_orders c ++ orders_in_row x)) ++ row_order x ∷ rest → ColumnNamed c
      column-named x (column.Number w) rest is = tt
      column-named x (column.Contents (cell.Word f k)) rest is = named-there (o ∷ os) (next o os h r) 2 f k (ap (λ l. slice_get l 2) is)
      column-named x (column.Contents (cell.Frame k)) rest is = tt

      row-home : (x : Row) (c : Column) (rest : List Order)
          → o ∷ os ≡ (order.InBounds x.rows.lower x.rows.upper x.rows.line ∷ order.Save ∷ (column_orders c ++ orders_in_row x)) ++ row_order x ∷ rest → IsTrue (is_place fs x.family x.first)
      row-home x (column.Number w) rest is = named-there (o ∷ os) (next o os h r) 5 x.family x.first (ap (λ l. slice_get l 5) is)
      row-home x (column.Contents (cell.Word f k)) rest is = named-there (o ∷ os) (next o os h r) 6 x.family x.first (ap (λ l. slice_get l 6) is)
      row-home x (column.Contents (cell.Frame k)) rest is = named-there (o ∷ os) (next o os h r) 6 x.family x.first (ap (λ l. slice_get l 6) is)

      cases : (b : Block) → IsBlock b (o ∷ os) → Sound (block_pieces names place number short b o)
      cases (block.Within k) sh = absurd sh
      cases block.Single sh = alone-sound names place number short o h
      cases (block.Fetch x) sh = fetch-sound x (named-first x _ (subst Placed sh (placed-first o os h)))
      cases (block.Assign x) sh = assign-sound x (behind x _ sh)
      cases block.Write sh = refl
      cases (block.Divide w line) sh = refl
      cases (block.Operate s u) sh = operated-sound names place number short s u (simple-behind s _ sh.1 sh.0)
      cases (block.FetchPart x t b is_signed) sh = fetch-part-sound x t b is_signed (named-first x _ (subst Placed sh.0 (placed-first o os h)))
      cases (block.AssignPart x t b) sh =
          sound-both (shifted_up b) _ (up-sound b) (change-sound x _ refl (behind x _ sh.0))
      cases (block.FetchElement e) sh = sound-both (element_address e) (pieces.Whole (load ax at_si) ∷ []) (element-sound e (element-named e (o ∷ os) _ sh.1 (next o os h r) (placed-first o os h) sh.0)) refl
      cases (block.AssignElement e) sh = sound-both (element_address e) (pieces.Whole (store at_si ax) ∷ []) (element-sound e (element-named e os _ sh.1 r (first-placed os r) (ap (drop 1) sh.0))) refl
      cases (block.Count true line) sh = checked-sound short line (place + 1) (call_place names number)
      cases (block.Count false line) sh = checked-sound short line (place + 1) (call_place names number)
      cases (block.Halve w power places line) sh = signed-sound places
      cases (block.FetchBoth n m) sh = refl
      cases (block.CompareWord n w c m) sh = branch-sound short c (place + pieces_size (word_compared n w)) (mark_place names m)
      cases (block.Row r) sh = compared-row-sound r (column-named r r.column _ sh.0) (row-home r r.column _ sh.0)
      cases (block.Bounded b) sh = bounded-sound b (named-there (o ∷ os) (next o os h r) 2 b.family b.first (ap (λ l. slice_get l 2) sh.0)) sh.1

  block-sound : (names : Names) (place number : ℕ) (short : Bool) (left : ℕ) (o : Order) (os : List Order) → IsTrue (names_well n fs o) → Fit n fs os → Sound (block_pieces names place number short (block_at left (o ∷ os)) o)
  block-sound names place number short (suc left) o os h r = refl
  block-sound names place number short zero o os h r = first-sound names place number short o os h r

  start-sound : (names : Names) (place number left line : ℕ) (os : List Order) → Sound (pieces_by names place number (block_at left (order.Start line ∷ os)) (order.Start line))
  start-sound names place number (suc left) line os = refl
  start-sound names place number zero line os = refl

  templates-sound : (names : Names) (place number left : ℕ) (os : List Order) → Fit n fs os → Sound (templates names place number left os)
  templates-sound names place number left _ none = refl
  templates-sound names place number left _ (next o os h r) =
      let b = block_at left (o ∷ os) in
      let short = is_short names.reach number b o in
      sound-both (block_pieces names place number short b o) (templates names (place + block_size short b o) (suc number) (orders_left b) os) (block-sound names place number short left o os h r) (templates-sound names (place + block_size short b o) (suc number) (orders_left b) os r)
  templates-sound names place number left _ (begun line os h r) =
      let o = order.Start line in
      let b = block_at left (o ∷ os) in
      let short = is_short names.reach number b o in
      sound-both (block_pieces names place number short b o) (templates names (place + block_size short b o) (suc number) (orders_left b) os) (start-sound names place number left line os) (templates-sound names (place + block_size short b o) (suc number) (orders_left b) os r)

  -- ---- the segment

  landing-sound : (has : Bool) (names : Names) (place : ℕ) (m : LabelMark) → Sound (landing_where has names place m)
  landing-sound true names place m = refl
  landing-sound false names place m = refl

  landings-sound : (names : Names) (named : ℕ → Bool) (place l : ℕ) (ms : List LabelMark) → Sound (landings names named place l ms)
  landings-sound names named place l [] = refl
  landings-sound names named place l (m ∷ ms) =
      let has = has_landing named l m in
      sound-both (landing_where has names place m) (landings names named (place + landing_bytes has) (suc l) ms) (landing-sound has names place m) (landings-sound names named (place + landing_bytes has) (suc l) ms)

  switch-sound : (has : Bool) (names : Names) (place : ℕ) (gs : List Goal) → IsTrue (list_all (is_goal n) gs) → Sound (switch_where has names place gs)
  switch-sound true names place gs h = own-only (place + 29) (goal_words names gs) (goals-sound names gs h)
  switch-sound false names place gs h = refl

  switches-sound : (names : Names) (named : ℕ → Bool) (place k : ℕ) (list : List (List Goal)) → IsTrue (list_all (list_all (is_goal n)) list) → Sound (switches names named place k list)
  switches-sound names named place k [] h = refl
  switches-sound names named place k (gs ∷ rest) h =
      let p = parts (list_all (is_goal n) gs) (list_all (list_all (is_goal n)) rest) h in
      let next = place + switch_bytes (named k) gs in
      sound-both (switch_where (named k) names place gs) (switches names named next (suc k) rest) (switch-sound (named k) names place gs p.0) (switches-sound names named next (suc k) rest p.1)

  pub pieces-sound : (o : Orders) → Fit n fs o.list → IsTrue (list_all (list_all (is_goal n)) o.switches) → Sound (pieces_of o)
  pieces-sound o h k =
      let N = names_of o in
      let T = templates N entry_size 0 0 o.list in
      let L = landings N (is_named_label o) (landings_place o) 0 o.labels in
      let S = switches N (is_named_switch o) (switches_place o) 0 o.switches in
      sound-both entry_pieces (T ++ (L ++ S)) refl
      (sound-both T (L ++ S) (templates-sound N entry_size 0 0 o.list h) (sound-both L S (landings-sound N (is_named_label o) (landings_place o) 0 o.labels) (switches-sound N (is_named_switch o) (switches_place o) 0 o.switches k)))

  -- ---- relocations

  abbrev has_fields : Reloc → Bool
  has_fields r = (is_byte r.sort && (is_word r.index && is_word r.add)) && has_index (tables n fs) r.sort r.index

  placed : (f o : ℕ) → IsTrue (is_place fs f o) → IsTrue ((is_word f && is_word o) && is_some (slice_get fs f))
  placed f o h =
      let p = parts (is_some (slice_get fs f)) (nat_lt f 65536 && nat_lt o 65536) h in
      both (is_word f && is_word o) (is_some (slice_get fs f)) p.1 p.0

  listed : (d : ℕ) → n ≤ 65536 → IsTrue (nat_lt d n) → IsTrue ((is_word d && true) && nat_lt d n)
  listed d le h =
      let lt : d < n = ltb-true d n h in
      let z : d < 65536 = omega (arith, lt, le) in
      both (is_word d && true) (nat_lt d n) (only (is_word d) (lt_true d 65536 z)) h

  field : (at : ℕ) (t : Target) → n ≤ 65536 → IsTrue (is_target t) → IsTrue (has_fields (relocation_of at t))
  field at (target.Word f o) le h = placed f o h
  field at (target.Bytes f o) le h = placed f o h
  field at (target.Place add) le h = only (is_word add) h
  field at (target.Definition d) le h = listed d le h
  field at (target.DefinitionAhead d) le h = listed d le h
  field at (target.Library k) le h = only (is_word k && true) (only (is_word k) h)
  field at (target.LibraryAhead k) le h = only (is_word k && true) (only (is_word k) h)
  field at (target.Limit limit.DataWords) le h = refl
  field at (target.Limit limit.FrameWords) le h = refl
  field at (target.Limit limit.Calls) le h = refl
  field at (target.Limit limit.Segment) le h = refl
  field at target.NextSegment le h = refl

  pub fields : (at : ℕ) (ps : List Coded) → n ≤ 65536 → Sound ps → IsTrue (list_all has_fields (relocations at ps))
  fields at [] le h = refl
  fields at (p ∷ ps) le h =
      let q = parts (is_piece p) (list_all is_piece ps) h in by_target (target_of p) q.0 (fields (at + size_of p) ps le q.1)
    where
      by_target : (t : Option Target) → IsTrue (may_target t) → IsTrue (list_all has_fields (relocations (at + size_of p) ps)) → IsTrue (list_all has_fields (relocation_before (at + size_of p) t ++ relocations (at + size_of p) ps))
      by_target None k r = r
      by_target (Some t) k r = both (has_fields (relocation_of (at + size_of p - 2) t)) (list_all has_fields (relocations (at + size_of p) ps)) (field (at + size_of p - 2) t le k) r

  is-zero : (k : ℕ) → k ≡ 0 → IsTrue (k == 0)
  is-zero k e = subst (λ m. IsTrue (m == 0)) (sym e) refl

  pub filled : (code : List ℕ) (low : ℕ) (rs : List Reloc) → length code ≤ 2097120 → All (FillsBlank code) rs → Rise low rs → IsTrue (list_all has_fields rs) → IsTrue (are_filled n fs code low rs)
  filled code low [] le blank rise h = refl
  filled code low (r ∷ rs) le blank rise h =
      let p = parts (has_fields r) (list_all has_fields rs) h in
      let q = parts (is_byte r.sort && (is_word r.index && is_word r.add)) (has_index (tables n fs) r.sort r.index) p.0 in
      let b = blank 0 r (let z : 0 < suc (length rs) = omega arith in z) in
      let inside = b.inside in
      let long : r.place < 4294967296 = omega (arith, inside, le) in
      let within : r.place + 1 < length code = omega (arith, inside) in
      let clear : IsTrue (is_blank code r.place) =
      both (nat_lt (r.place + 1) (length code) && (slice_index code r.place == 0)) (slice_index code (r.place + 1) == 0)
      (both (nat_lt (r.place + 1) (length code)) (slice_index code r.place == 0) (lt_true (r.place + 1) (length code) within) (is-zero (slice_index code r.place) b.low)) (is-zero (slice_index code (r.place + 1)) b.high) in
      both (is_filled n fs code low r) (are_filled n fs code (r.place + 2) rs)
      (both (fits_relocation r) (nat_le low r.place && (is_blank code r.place && has_index (tables n fs) r.sort r.index)) (both (is_long r.place) (is_byte r.sort && (is_word r.index && is_word r.add)) (lt_true r.place 4294967296 long) q.0)
      (both (nat_le low r.place) (is_blank code r.place && has_index (tables n fs) r.sort r.index) (le_true low r.place rise.0) (both (is_blank code r.place) (has_index (tables n fs) r.sort r.index) clear q.1)))
      (filled code (r.place + 2) rs le (λ k d lt. blank (suc k) d (let z : suc k < suc (length rs) = omega (arith, lt) in z)) rise.1 p.1)
