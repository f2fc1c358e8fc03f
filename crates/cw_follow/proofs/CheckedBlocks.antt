-- The check for an overflow that ends a block: it calls the stop itself, or jumps back to where an earlier block calls it with the same line.
use Rattle.std.proofs.Common.{◌≡◌, inl, inr, ℕ, ◌+◌, ◌-◌, ◌%◌, ◌<◌, Bool, true, false, List, [], ◌∷◌, ◌++◌, length, drop, Some, sym, ap, ◌∙◌, subst, arith, lit<, append_assoc}
use Rattle.std.specs.Prelude.{slice_get, slice_index, if◌then◌else◌}
use Rattle.cw_i86.specs.State.{sign_extended}
use Rattle.cw_unit.specs.Words.{Words}
use Rattle.cw_order.specs.declared.order.Order.{Order}
use Rattle.cw_order.specs.declared.order.Orders.{Orders}
use Rattle.cw_order.specs.OrderState.{OrderActivation}
use Rattle.cw_tmpl.specs.declared.pieces.Coded.{Coded}
use Rattle.cw_tmpl.specs.declared.pieces.Coded.TheVariants as pieces
use Rattle.cw_tmpl.specs.declared.blocks.Block.{Block}
use Rattle.cw_tmpl.specs.declared.blocks.Block.TheVariants as block
use Rattle.cw_tmpl.specs.Library.{overflow_entry, entry_place}
use Rattle.cw_tmpl.specs.Mnemonics.{jump_if_no_overflow}
use Rattle.cw_tmpl.specs.Pieces.{Filling, blanks}
use Rattle.cw_tmpl.specs.Names.{call_place}
use Rattle.cw_tmpl.specs.Blocks.{block_at, left_at}
use Rattle.cw_tmpl.specs.Templates.{block_size, call_stop, checked_by, is_close, short_distance}
use Rattle.cw_tmpl.specs.ShortForms.{check_of, is_short}
use Rattle.cw_tmpl.specs.ReferenceCode.{names_of, order_places, reach_of}
use Rattle.cw_tmpl.proofs.Sizes.{own_place}
use Rattle.cw_tmpl.proofs.Reaching.{short_arrives}
use Rattle.cw_tmpl.proofs.Backward.{CallBefore, call_before, back_close}
use Rattle.cw_tmpl.proofs.Lengths.{appended_long}
use Rattle.cw_follow.specs.Placing.{base_of}
use Rattle.cw_follow.proofs.Watched.{Watched}
use Rattle.cw_follow.proofs.Standing.{HasPieces, HasPiecesFrom, stand_behind, first_of, behind_start, order_place, pieces_at}
use Rattle.cw_follow.proofs.Orders.{Checked}
use Rattle.cw_follow.proofs.InBlocks.{slice_drop}
use Rattle.cw_follow.proofs.States.{Given, Sound}
use Rattle.cw_follow.proofs.Steps.{Alone, alone_is, here, next, behind, start_place}

module _ (known : Given) where
  open known use {p, image, all}

  module _ (g : ℕ) (o : Orders) (unit : slice_get p.units g ≡ Some o) where
    abbrev filled : Filling
    filled = (all.stands g o unit).value

    -- a CALL of the stop goes to it
    to_stop : (c : ℕ) → (c + filled 7 overflow_entry 0 c) % 65536 ≡ entry_place overflow_entry % 65536
    to_stop c =
        let e : filled 7 overflow_entry 0 c ≡ (entry_place overflow_entry + (65536 - c % 65536)) % 65536 = (all.stands g o unit).fills.library overflow_entry c (lit< tt) in
        omega arith

    -- where a check jumps back to, the stop is called
    stop_stands : (k line : ℕ) → CallBefore o k line → HasPieces image filled (base_of p g + call_place (names_of o) k) (call_stop overflow_entry line)
    stop_stands k line c =
        let jump : List Coded = pieces.Whole (jump_if_no_overflow 5) ∷ [] in
        let body : List Coded = c.ends.body ++ jump in
        let stop = call_stop overflow_entry line in
        let first = first_of c.it (behind_start o.list c.earlier) in
        let at = order_place (base_of p g) o c.earlier in
        let parted : pieces_at o c.earlier c.it ≡ body ++ stop = c.ends.is ∙ sym (append_assoc c.ends.body jump stop) in
        let stands = subst (HasPiecesFrom first image filled at) parted ((all.stands g o unit).orders c.earlier c.it c.listed) in
        let size = appended_long c.ends.body jump in
        let place = c.place_is in
        let there : at + length (blanks body) ≡ base_of p g + call_place (names_of o) k = omega arith in
        subst (λ n. HasPieces image filled n stop) there (stand_behind first image filled at body stop (some c.ends.body) stands)
      where
        some : (ps : List Coded) → 0 < length (ps ++ pieces.Whole (jump_if_no_overflow 5) ∷ [])
        some [] = lit< tt
        some (p ∷ ps) = omega arith

    -- the check at a place of the code, behind which the block ends
    pub ends_checked : (k line own at to : ℕ) (b : Block) (x : Order) (short : Bool) → slice_get o.list k ≡ Some x → block_at (left_at 0 o.list k) (drop k o.list) ≡ b → check_of b x ≡ Some line → is_short (reach_of o) k b x ≡ short
        → at ≡ base_of p g + own → own + (if short then 2 else 7) ≡ own_place o k + block_size short b x → order_place (base_of p g) o k + block_size short b x ≡ to
        → HasPieces image filled at (checked_by short line own (call_place (names_of o) k)) → Checked image at to line
    ends_checked k line own at to b x false listed is checks form place size ends h =
        inl (record { by = filled 7 overflow_entry 0 (at + 2 + 3); code = h; arrives = to_stop (at + 2 + 3); ends = omega arith })
    ends_checked k line own at to b x true listed is checks form place size ends h =
        let checks' : check_of (block_at (left_at 0 o.list k) (drop k o.list)) x ≡ Some line = ap (λ y. check_of y x) is ∙ checks in
        let form' : is_short (reach_of o) k (block_at (left_at 0 o.list k) (drop k o.list)) x ≡ true = ap (λ y. is_short (reach_of o) k y x) is ∙ form in
        let c = call_before o k line x listed checks' form' in
        let there = call_place (names_of o) k in
        let call = base_of p g + there in
        let close = back_close o k line x listed checks' form' c in
        let same = ap (λ y. block_size true y x) is in
        let first = close.0 in
        let end : slice_index (order_places o) (k + 1) ≡ own + 2 = omega arith in
        let reaches : is_close (own + 2) there ≡ true = ap (λ n. is_close n there) (sym end) ∙ close.1 in
        let stop = stop_stands k line c in
        inr (record {
          back = short_distance (own + 2) there;
          call = call;
          by = filled 7 overflow_entry 0 (call + 3);
          jump = h.0;
          goes = ap (λ n. (n + 2 + sign_extended (short_distance (own + 2) there)) % 65536) place ∙ short_arrives (base_of p g) own 2 there reaches;
          calls = stop.0;
          tells = stop.1.0;
          arrives = to_stop (call + 3);
          ends = omega arith;
        })

  -- that of an order that is a block of its own
  module _ {q : Watched} {g place : ℕ} {loaded : Bool} {acts : List OrderActivation} {w : Words} (s : Sound p image g place loaded acts w q) where
    pub checked_alone : (a : Alone p image g place loaded acts w q s.orders) (o : Order) (line n at : ℕ) (short : Bool) → slice_get s.orders.list place ≡ Some o → check_of block.Single o ≡ Some line → is_short (reach_of s.orders) place block.Single o ≡ short
        → n + (if short then 2 else 7) ≡ block_size short block.Single o → at ≡ here known s a + n
        → HasPieces image (all.stands g s.orders s.unit).value at (checked_by short line (own_place s.orders place + n) (call_place (names_of s.orders) place)) → Checked image at (next known s a) line
    checked_alone a o line n at short e checks form size place_is h =
        let sized = ap (λ t. block_size t block.Single o) form in
        let after_it = behind known s a o e in
        ends_checked g s.orders s.unit place line (own_place s.orders place + n) at (next known s a) block.Single o short e (alone_is known s a) checks form (omega arith) (omega arith) (omega arith) h

    -- and of one of several orders
    pub checked_block : (b : Block) (o : Order) (os : List Order) (line n at to : ℕ) (short : Bool) → drop s.from s.orders.list ≡ o ∷ os → block_at 0 (drop s.from s.orders.list) ≡ b → check_of b o ≡ Some line
        → is_short (reach_of s.orders) s.from b o ≡ short → n + (if short then 2 else 7) ≡ block_size short b o → at ≡ start_place known s + n → start_place known s + block_size short b o ≡ to
        → HasPieces image (all.stands g s.orders s.unit).value at (checked_by short line (own_place s.orders s.from + n) (call_place (names_of s.orders) s.from)) → Checked image at to line
    checked_block b o os line n at to short e is checks form size place_is ends h =
        let here_is : s.from + 0 ≡ s.from = omega arith in
        let first : slice_get s.orders.list s.from ≡ Some o = ap (slice_get s.orders.list) (sym here_is) ∙ sym (slice_drop s.orders.list s.from 0) ∙ ap (λ l. slice_get l 0) e in
        let same : block_at (left_at 0 s.orders.list s.from) (drop s.from s.orders.list) ≡ b = ap (λ n. block_at n (drop s.from s.orders.list)) s.begins ∙ is in
        ends_checked g s.orders s.unit s.from line (own_place s.orders s.from + n) at to b o short first same checks form (omega arith) (omega arith) ends h
