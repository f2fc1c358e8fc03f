-- The steps of orders on words whose code hangs on their numbers, each of which is a block of its own.
use Rattle.std.proofs.Common.{◌≡◌, ℕ, zero, suc, ◌+◌, ◌-◌, ◌^◌, Bool, true, false, ℤ, pos, negsuc, List, ◌++◌, length, Some, None, refl, sym, ap, ◌∙◌, subst, arith, lit<, lit≤}
use borrow.Author.Tests.{ltb-true}
use Rattle.std.proofs.lemmas.Bool.{leb-true}
use Rattle.std.specs.Prelude.{slice_get, nat_le, nat_lt, ◌==◌, if◌then◌else◌}
use Rattle.cw_unit.specs.Stop.{Running}
use Rattle.cw_unit.specs.Words.{Words}
use Rattle.cw_unit.specs.Operation.{perform, Rescale, Multiply, Divide, Indexed, Indexed2, Scaled}
use Rattle.cw_order.specs.declared.order.Order.{Order}
use Rattle.cw_order.specs.declared.order.Order.TheVariants as order
use Rattle.cw_order.specs.OrderChanges.{from_base}
use Rattle.cw_order.specs.OrderMachine.{unrefused}
use Rattle.cw_order.specs.OrderState.{OrderActivation, at}
use Rattle.cw_tmpl.specs.declared.pieces.Coded.{Coded}
use Rattle.cw_tmpl.specs.Pieces.{Filling, blanks}
use Rattle.cw_tmpl.specs.Names.{no_names, call_place}
use Rattle.cw_tmpl.specs.Library.{overflow_entry, zero_divisor_entry, address_entry, product_entry, quotient_down_entry, quotient_up_entry}
use Rattle.cw_tmpl.specs.Templates.{times_before, product_start, product_before, rescale_if, rescale_before, product_down, quotient_before, is_checked, pieces_size, checked_by, block_pieces, block_size, template_by}
use Rattle.cw_tmpl.specs.ShortForms.{check_of, jump_of, is_short}
use Rattle.cw_tmpl.specs.ReferenceCode.{names_of, reach_of}
use Rattle.cw_tmpl.proofs.Endings.{checked_long, one_form, rescale_forms, product_forms, quotient_forms}
use Rattle.cw_tmpl.proofs.Sizes.{own_place, size_by, size_everywhere}
use Rattle.cw_routines.proofs.Begins.{not_within}
use Rattle.cw_follow.proofs.Watched.{Watched}
use Rattle.cw_follow.proofs.Standing.{HasPieces, HasPiecesFrom, first_of, behind_start, Image}
use Rattle.cw_follow.proofs.States.{Given, Sound}
use Rattle.cw_follow.proofs.Facts.{not_below}
use Rattle.cw_follow.proofs.Orders.{Checked}
use Rattle.cw_follow.proofs.CheckedBlocks.{checked_alone}
use Rattle.cw_follow.proofs.Called.{Then}
use Rattle.cw_follow.proofs.Addresses.{times_code, test_place}
use Rattle.cw_follow.proofs.Elements.{forms_element, forms_element_of_two, forms_element_inside, forms_entry}
use Rattle.cw_follow.proofs.Scales.{rescales_up, rescales_down, products, products_up, products_down, products_far_down}
use Rattle.cw_follow.proofs.Divisions.{divides_up, divides_down}
use Rattle.cw_follow.proofs.Steps.{Follow, Alone, step_is, does, by, calls, setting, cheap, has_code, line_fits, low_room, here, next, code, behind, begins_next}
use Rattle.cw_tmpl.specs.declared.blocks.Block.TheVariants as block

-- A multiplication by a number, whose code hangs on whether that is 32,768: where it stands with a check behind it, its parts do, and where the check is.
module _ (image : Image) (value : Filling) (begin line n place call to : ℕ) (short : Bool) where
  times_check : (b : Bool) → HasPieces image value begin (times_before b n ++ checked_by short line place call)
      → (HasPieces image value (test_place b begin) (checked_by short line place call) → Checked image (test_place b begin) to line)
      → Then image begin (times_code b n) (λ k. Checked image k to line)
  times_check true h check = (h.0, (h.1.0, (h.1.1.0, check h.1.1.1)))
  times_check false h check = (h.0, (h.1.0, check h.1.1))

times_long : (begin n : ℕ) (b : Bool) → test_place b begin ≡ begin + pieces_size (times_before b n)
times_long begin n true = omega arith
times_long begin n false = omega arith

scaled_long : (begin line n : ℕ) (b : Bool) → test_place b (begin + 1 + 2 + 2 + 3 + 2) ≡ begin + pieces_size (product_start line ++ times_before b n)
scaled_long begin line n true = omega arith
scaled_long begin line n false = omega arith

module _ (known : Given) where
  open known use {rows, p, image, all, coded, few, low}

  module _ {q : Watched} {g place : ℕ} {acts : List OrderActivation} {w : Words} (s : Sound p image g place true acts w q) (a : Alone p image g place true acts w q s.orders) where
    abbrev words_of : Filling
    words_of = (all.stands g s.orders s.unit).value

    -- code that hangs on a test
    record Tested (F : Bool → List Coded) (b : Bool) : Type 0 where
      pub stands : HasPieces image words_of (here known s a) (F b)
      pub ends : here known s a + length (blanks (F b)) ≡ next known s a

    tested : (o : Order) (F : Bool → List Coded) (t b : Bool) → first_of o (behind_start s.orders.list place) ≡ false → slice_get s.orders.list place ≡ Some o → template_by (is_short (reach_of s.orders) place block.Single o) (names_of s.orders) (own_place s.orders place) place o ≡ F t
        → size_by (is_short (reach_of s.orders)) place block.Single o ≡ length (blanks (F t)) → t ≡ b → Tested F b
    tested o F t b plain e same long is =
        let after_it = behind known s a o e in
        let code_t : HasPieces image words_of (here known s a) (F t) = subst (HasPieces image words_of (here known s a)) same (subst (λ f. HasPiecesFrom f image words_of (here known s a) (template_by (is_short (reach_of s.orders) place block.Single o) (names_of s.orders) (own_place s.orders place) place o)) plain (code known s a o e)) in
        let end_t : here known s a + length (blanks (F t)) ≡ next known s a = omega arith in
        subst (Tested F) is (record { stands = code_t; ends = end_t })

    -- ---- orders that end with a check

    -- what the code has before it, and the check: whole, or a jump back
    record Ended (line : ℕ) (before : List Coded) : Type 0 where
      pub short : Bool
      pub code_is : HasPieces image words_of (here known s a) (before ++ checked_by short line (own_place s.orders place + pieces_size before) (call_place (names_of s.orders) place))
      pub check : (k : ℕ) → k ≡ here known s a + pieces_size before → HasPieces image words_of k (checked_by short line (own_place s.orders place + pieces_size before) (call_place (names_of s.orders) place)) → Checked image k (next known s a) line

    ended : (o : Order) (before : List Coded) (line : ℕ) → first_of o (behind_start s.orders.list place) ≡ false → slice_get s.orders.list place ≡ Some o → check_of block.Single o ≡ Some line
        → ((short : Bool) → template_by short (names_of s.orders) (own_place s.orders place) place o ≡ before ++ checked_by short line (own_place s.orders place + pieces_size before) (call_place (names_of s.orders) place)) → Ended line before
    ended o before line plain e checks forms =
        let short = is_short (reach_of s.orders) place block.Single o in
        let own = own_place s.orders place in
        let names = names_of s.orders in
        let first = first_of o (behind_start s.orders.list place) in
        let size : pieces_size before + (if short then 2 else 7) ≡ block_size short block.Single o =
        sym (checked_long short before line (own + pieces_size before) (call_place names place)) ∙ ap (λ ps. length (blanks ps)) (sym (forms short)) ∙ size_everywhere names own place short block.Single o in
        record {
          short = short;
          code_is = subst (HasPieces image words_of (here known s a)) (forms short) (subst (λ f. HasPiecesFrom f image words_of (here known s a) (template_by short names own place o)) plain (code known s a o e));
          check = λ k is h. checked_alone known s a o line (pieces_size before) k short e checks refl size is h;
        }

    -- where there is none, the code has one form
    whole : (o : Order) (F : Bool → List Coded) (t : Bool) → first_of o (behind_start s.orders.list place) ≡ false → slice_get s.orders.list place ≡ Some o → jump_of block.Single o ≡ None → check_of block.Single o ≡ None
        → block_pieces (names_of s.orders) (own_place s.orders place) place false block.Single o ≡ F t → block_pieces no_names 0 0 false block.Single o ≡ F t → (b : Bool) → t ≡ b → Tested F b
    whole o F t plain e jumps checks same long b is =
        let short = is_short (reach_of s.orders) place block.Single o in
        tested o F t b plain e (one_form (names_of s.orders) (own_place s.orders place) place short block.Single o jumps checks ∙ same)
        (ap (λ ps. length (blanks ps)) (one_form no_names 0 0 short block.Single o jumps checks ∙ long)) is

    -- ---- scales

    -- up and down
    rescaling : (from to line : ℕ) → slice_get s.orders.list place ≡ Some (order.Rescale from to line) → (b : Bool) → nat_le from to ≡ b → Follow known (at g place true acts w Running) q
    rescaling from to line e true is =
        let o = order.Rescale from to line in
        let n = 2 ^ (to - from) in
        let b = n == 32768 in
        let own = own_place s.orders place in
        let t = ended o (rescale_before from to) line refl e (ap (λ up. if up then Some line else None) is) (λ short. rescale_forms (names_of s.orders) own place short line from to is) in
        does known s true line (perform p.limits.area (Rescale from to) w) 17 (begins_next known s a o e) (step_is known s (Some o) e) (cheap known s o 17 (lit≤ tt) e)
        (rescales_up (setting known s) w.memory w.input w.output b (next known s a) line from to w.operands (line_fits known s o e) (leb-true from to is) (has_code known s o e).1 refl
        (low_room known s) s.fits.words.operands
        (times_check image words_of (here known s a) line n (own + pieces_size (rescale_before from to)) (call_place (names_of s.orders) place) (next known s a) t.short b t.code_is
        (t.check (test_place b (here known s a)) (times_long (here known s a) n b))) a.landed)
    rescaling from to line e false is =
        let o = order.Rescale from to line in
        let t = whole o (λ t. rescale_if t (2 ^ (to - from) == 32768) line from to) (nat_le from to) refl e refl (ap (λ up. if up then Some line else None) is) refl refl false is in
        does known s true line (perform p.limits.area (Rescale from to) w) 2 (begins_next known s a o e) (step_is known s (Some o) e) (cheap known s o 2 (lit≤ tt) e)
        (rescales_down (setting known s) w.memory w.input w.output (next known s a) line from to w.operands (not_within from to is) (has_code known s o e).0 t.ends (low_room known s) s.fits.words.operands t.stands a.landed)

    pub rescale_follows : (from to line : ℕ) → slice_get s.orders.list place ≡ Some (order.Rescale from to line) → Follow known (at g place true acts w Running) q
    rescale_follows from to line e = rescaling from to line e (nat_le from to) refl

    -- ---- products

    product_ended : (z : ℤ) (line : ℕ) → slice_get s.orders.list place ≡ Some (order.Mul z line) → is_checked z ≡ true → Ended line (product_before line z)
    product_ended z line e is =
        ended (order.Mul z line) (product_before line z) line refl e (ap (λ b. if b then Some line else None) is) (λ short. product_forms (names_of s.orders) (own_place s.orders place) place short line z is)

    multiplying : (line : ℕ) → slice_get s.orders.list place ≡ Some (order.Mul (pos 0) line) → Follow known (at g place true acts w Running) q
    multiplying line e =
        let o = order.Mul (pos 0) line in
        let t = product_ended (pos 0) line e refl in
        let h = t.code_is in
        does known s true line (perform p.limits.area (Multiply (pos 0)) w) 16 (begins_next known s a o e) (step_is known s (Some o) e) (cheap known s o 16 (lit≤ tt) e)
        (products (setting known s) w.memory w.input w.output (next known s a) line w.operands (line_fits known s o e) (low_room known s) s.fits.words.operands
        (h.0, (h.1.0, t.check (here known s a + 1 + 2) (omega arith) h.1.1)) a.landed)

    multiplying_up : (n line : ℕ) → slice_get s.orders.list place ≡ Some (order.Mul (pos (suc n)) line) → Follow known (at g place true acts w Running) q
    multiplying_up n line e =
        let o = order.Mul (pos (suc n)) line in
        let m = 2 ^ suc n in
        let b = m == 32768 in
        let c = here known s a + 1 + 2 + 2 + 3 in
        let t = product_ended (pos (suc n)) line e refl in
        let h = t.code_is in
        does known s true line (perform p.limits.area (Multiply (pos (suc n))) w) 20 (begins_next known s a o e) (step_is known s (Some o) e) (cheap known s o 20 (lit≤ tt) e)
        (products_up (setting known s) w.memory w.input w.output b (next known s a) (by known s overflow_entry c) line n w.operands
        (line_fits known s o e) (has_code known s o e) refl (calls known s overflow_entry c (lit< tt)) (low_room known s) s.fits.words.operands (
          h.0,
          (
            h.1.0,
            (
              h.1.1.0,
              (
                h.1.1.1.0,
                (
                  h.1.1.1.1.0,
                  times_check image words_of (c + 2) line m (own_place s.orders place + pieces_size (product_before line (pos (suc n)))) (call_place (names_of s.orders) place) (next known s a) t.short b h.1.1.1.1.1
                      (t.check (test_place b (c + 2)) (scaled_long (here known s a) line m b)),
                ),
              ),
            ),
          ),
        ) a.landed)

    multiplying_down : (n line : ℕ) → slice_get s.orders.list place ≡ Some (order.Mul (negsuc n) line) → (b : Bool) → nat_lt n 15 ≡ b → Follow known (at g place true acts w Running) q
    multiplying_down n line e true is =
        let o = order.Mul (negsuc n) line in
        let c = here known s a + 1 + 3 + 3 in
        let t = product_ended (negsuc n) line e is in
        let h = t.code_is in
        does known s true line (perform p.limits.area (Multiply (negsuc n)) w) 32 (begins_next known s a o e) (step_is known s (Some o) e) (cheap known s o 32 (lit≤ tt) e)
        (products_down (setting known s) w.memory w.input w.output (next known s a) (by known s product_entry c) line n w.operands (line_fits known s o e) (ltb-true n 15 is)
        (calls known s product_entry c (lit< tt)) (low_room known s) s.fits.words.operands (h.0, (h.1.0, (h.1.1.0, t.check c (omega arith) h.1.1.1))) a.landed)
    multiplying_down n line e false is =
        let o = order.Mul (negsuc n) line in
        let t = whole o (λ t. product_down line t n) (nat_lt n 15) refl e refl (ap (λ few. if few then Some line else None) is) refl refl false is in
        does known s true line (perform p.limits.area (Multiply (negsuc n)) w) 5 (begins_next known s a o e) (step_is known s (Some o) e) (cheap known s o 5 (lit≤ tt) e)
        (products_far_down (setting known s) w.memory w.input w.output (next known s a) line n w.operands t.ends (not_below n 15 is) (has_code known s o e) (low_room known s) s.fits.words.operands t.stands a.landed)

    pub multiply_follows : (s' : ℤ) (line : ℕ) → slice_get s.orders.list place ≡ Some (order.Mul s' line) → Follow known (at g place true acts w Running) q
    multiply_follows (pos zero) line e = multiplying line e
    multiply_follows (pos (suc n)) line e = multiplying_up n line e
    multiply_follows (negsuc n) line e = multiplying_down n line e (nat_lt n 15) refl

    -- ---- quotients

    quotient_ended : (z : ℤ) (line : ℕ) → slice_get s.orders.list place ≡ Some (order.Div z line) → Ended line (quotient_before line z)
    quotient_ended z line e = ended (order.Div z line) (quotient_before line z) line refl e refl (λ short. quotient_forms (names_of s.orders) (own_place s.orders place) place short line z)

    pub divide_follows : (s' : ℤ) (line : ℕ) → slice_get s.orders.list place ≡ Some (order.Div s' line) → Follow known (at g place true acts w Running) q
    divide_follows (pos n) line e =
        let o = order.Div (pos n) line in
        let b = here known s a + 2 + 1 + 2 + 2 + 3 in
        let c = b + 2 + 3 + 3 in
        let t = quotient_ended (pos n) line e in
        let h = t.code_is in
        does known s true line (perform p.limits.area (Divide (pos n)) w) 46 (begins_next known s a o e) (step_is known s (Some o) e) (cheap known s o 46 (lit≤ tt) e)
        (divides_up (setting known s) w.memory w.input w.output (next known s a) (by known s zero_divisor_entry b) (by known s quotient_up_entry c) line n w.operands (line_fits known s o e)
        (has_code known s o e) (calls known s zero_divisor_entry b (lit< tt)) (calls known s quotient_up_entry c (lit< tt)) (low_room known s) s.fits.words.operands
        (h.0, (h.1.0, (h.1.1.0, (h.1.1.1.0, (h.1.1.1.1.0, (h.1.1.1.1.1.0, (h.1.1.1.1.1.1.0, (h.1.1.1.1.1.1.1.0, t.check c (omega arith) h.1.1.1.1.1.1.1.1)))))))) a.landed)
    divide_follows (negsuc n) line e =
        let o = order.Div (negsuc n) line in
        let b = here known s a + 2 + 1 + 2 + 2 + 3 in
        let c = b + 2 + 3 + 3 in
        let t = quotient_ended (negsuc n) line e in
        let h = t.code_is in
        does known s true line (perform p.limits.area (Divide (negsuc n)) w) 44 (begins_next known s a o e) (step_is known s (Some o) e) (cheap known s o 44 (lit≤ tt) e)
        (divides_down (setting known s) w.memory w.input w.output (next known s a) (by known s zero_divisor_entry b) (by known s quotient_down_entry c) line n w.operands (line_fits known s o e)
        (has_code known s o e) (calls known s zero_divisor_entry b (lit< tt)) (calls known s quotient_down_entry c (lit< tt)) (low_room known s) s.fits.words.operands
        (h.0, (h.1.0, (h.1.1.0, (h.1.1.1.0, (h.1.1.1.1.0, (h.1.1.1.1.1.0, (h.1.1.1.1.1.1.0, (h.1.1.1.1.1.1.1.0, t.check c (omega arith) h.1.1.1.1.1.1.1.1)))))))) a.landed)

    -- ---- elements and entries

    pub element_follows : (lower : ℤ) (span line : ℕ) → slice_get s.orders.list place ≡ Some (order.Element lower span line) → Follow known (at g place true acts w Running) q
    element_follows lower span line e =
        let o = order.Element lower span line in
        does known s true line (from_base p.limits.area (λ base. Indexed base lower) w) 21 (begins_next known s a o e) (step_is known s (Some o) e) (cheap known s o 21 (lit≤ tt) e)
        (forms_element (setting known s) w.memory w.input w.output words_of (next known s a) line (line_fits known s o e) (λ k. calls known s address_entry k (lit< tt)) lower w.operands
        (has_code known s o e) (low_room known s) s.fits.words.operands (record { stands = code known s a o e; ends = behind known s a o e }) a.landed)

    pub element_of_two_follows : (lower second : ℤ) (width line : ℕ) → slice_get s.orders.list place ≡ Some (order.ElementOfTwo lower second width line) → Follow known (at g place true acts w Running) q
    element_of_two_follows lower second width line e =
        let o = order.ElementOfTwo lower second width line in
        let h = has_code known s o e in
        does known s true line (from_base p.limits.area (λ base. Indexed2 base lower second width) w) 31 (begins_next known s a o e) (step_is known s (Some o) e) (cheap known s o 31 (lit≤ tt) e)
        (forms_element_of_two (setting known s) w.memory w.input w.output words_of (next known s a) line (line_fits known s o e) (λ k. calls known s address_entry k (lit< tt)) lower second width w.operands
        h.0 h.1 h.2 (low_room known s) s.fits.words.operands (record { stands = code known s a o e; ends = behind known s a o e }) a.landed)

    pub element_inside_follows : (lower second : ℤ) (width span : ℕ) → slice_get s.orders.list place ≡ Some (order.ElementInside lower second width span) → Follow known (at g place true acts w Running) q
    element_inside_follows lower second width span e =
        let o = order.ElementInside lower second width span in
        let h = has_code known s o e in
        does known s true 0 (unrefused (from_base p.limits.area (λ base. Indexed2 base lower second width) w)) 10 (begins_next known s a o e) (step_is known s (Some o) e) (cheap known s o 10 (lit≤ tt) e)
        (forms_element_inside (setting known s) w.memory w.input w.output words_of (next known s a) 0 (lit< tt) (λ k. calls known s address_entry k (lit< tt)) lower second width w.operands
        h.0 h.1 h.2 (low_room known s) s.fits.words.operands (record { stands = code known s a o e; ends = behind known s a o e }) a.landed)

    pub entry_follows : (width word span line : ℕ) → slice_get s.orders.list place ≡ Some (order.Entry width word span line) → Follow known (at g place true acts w Running) q
    entry_follows width word span line e =
        let o = order.Entry width word span line in
        let h = has_code known s o e in
        does known s true line (from_base p.limits.area (λ base. Scaled base width word) w) 25 (begins_next known s a o e) (step_is known s (Some o) e) (cheap known s o 25 (lit≤ tt) e)
        (forms_entry (setting known s) w.memory w.input w.output words_of (next known s a) line (line_fits known s o e) (λ k. calls known s address_entry k (lit< tt)) width word w.operands
        h.0 h.1 (low_room known s) s.fits.words.operands (record { stands = code known s a o e; ends = behind known s a o e }) a.landed)
