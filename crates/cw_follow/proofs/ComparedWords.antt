-- A word of the frame that is compared with a number.
use Rattle.std.proofs.Common.{◌≡◌, ℕ, ◌+◌, ◌*◌, ◌%◌, ◌<◌, ◌≤◌, Bool, true, false, List, [], ◌∷◌, length, drop, Some, None, refl, sym, ap, ◌∙◌, subst, arith, lit≤}
use Rattle.std.specs.Prelude.{nat_lt, if◌then◌else◌, slice_get}
use borrow.Author.Tests.{ltb-true}
use Rattle.cw_rows86.specs.Acts.{OperateNumberOnto}
use Rattle.cw_rows86.specs.Locations.{InData}
use Rattle.cw_rows86.specs.Operations.{Compare}
use Rattle.cw_run86.specs.Views.{View, difference_overflows}
use Rattle.cw_word.specs.Word.{signed, unsigned}
use Rattle.cw_unit.specs.Stop.{Running}
use Rattle.cw_unit.specs.Words.{Words, Outcome, Changed, put, word_at}
use Rattle.cw_unit.specs.Operation.{Fetch, holds, perform}
use Rattle.cw_order.specs.declared.order.Comparator.{Comparator}
use Rattle.cw_order.specs.declared.order.Order.{Order}
use Rattle.cw_order.specs.declared.order.Order.TheVariants as order
use Rattle.cw_order.specs.OrderChanges.{Way, put_address, to_mark_if, comparison}
use Rattle.cw_order.specs.OrderMachine.{unrefused, weight}
use Rattle.cw_order.specs.OrderProgram.{order_in}
use Rattle.cw_order.specs.OrderState.{OrderActivation, at, frame_word}
use Rattle.cw_tmpl.specs.declared.blocks.Block.TheVariants as block
use Rattle.cw_tmpl.specs.Blocks.{block_at}
use Rattle.cw_tmpl.specs.Mnemonics.{bx, slot, base_slot, field, load, compare_number}
use Rattle.cw_tmpl.specs.ReferenceCode.{mark_starts, reach_of}
use Rattle.cw_tmpl.specs.Templates.{is_close, block_size, frame_size, pieces_size, word_compared}
use Rattle.cw_tmpl.specs.ShortForms.{is_short}
use Rattle.cw_tmpl.proofs.Lengths.{field_compared}
use Rattle.cw_tmpl.proofs.Sizes.{own_place, compare_word_long, word_compared_long}
use Rattle.cw_i86.specs.Encoding.{bytes_of}
use Rattle.cw_follow.proofs.Fields.{field_denotes, frame_word_at}
use Rattle.cw_follow.specs.Placing.{base_of}
use Rattle.cw_follow.proofs.Acting.{act}
use Rattle.cw_follow.proofs.BlockOrders.{block_follows, modes, step_in}
use Rattle.cw_follow.proofs.Branches.{branch_code, branch_size, goes_by, jump_word, branch_stands, branch_arrives}
use Rattle.cw_follow.proofs.Chains.{IsCompared, view, last}
use Rattle.cw_follow.proofs.InBlocks.{chain, slice_drop}
use Rattle.cw_follow.proofs.Orders.{Chooses, LandedAt, branches, over_landed, sooner, through_word}
use Rattle.cw_follow.proofs.Stacks.{level, record_of, base_word, base_there}
use Rattle.cw_follow.proofs.Standing.{HasFrom, HasAll}
use Rattle.cw_follow.proofs.States.{Given, Sound}
use Rattle.cw_follow.proofs.Steps.{FollowFrom, begins_block, begun_block, block_code, block_ends, last_chooses, order_here, reaches_mark, start, start_place, way_after, weight_is, code_end}
use Rattle.cw_follow.proofs.Straight.{LoadSlot, straight_from}
use Rattle.cw_follow.proofs.UseBlocks.{memory_word, way_of}
use Rattle.cw_follow.proofs.Watched.{Watched, watched_step}

-- bytes of the block
compared_size : (short : Bool) (n x : ℕ) (c : Comparator) (m : ℕ) → block_size short (block.CompareWord n x c m) (order.FrameHome n) ≡ frame_size n + 7 + branch_size short
compared_size true n x c m = compare_word_long true n x c m (order.FrameHome n)
compared_size false n x c m = compare_word_long false n x c m (order.FrameHome n)

module _ (known : Given) where
  open known use {rows, p, image, all, coded, few, low}

  module _ {q : Watched} {g place : ℕ} {loaded : Bool} {acts : List OrderActivation} {w : Words} (s : Sound p image g place loaded acts w q) where
    abbrev First : Watched
    First = begun_block known s

    abbrev Code : (short : Bool) → (n x : ℕ) → Comparator → (by : ℕ) → Type 0
    Code short n x c by = HasFrom (begins_block known s) image (start_place known s) (load bx (slot base_slot) ∷ compare_number (field (2 * n % 65536)) x ∷ branch_code short c by)

    abbrev Chosen : Way → Type 0
    Chosen way = Chooses p image 10 (code_end known s) (start known s) g false 0 acts s.before.output First way

    -- what the orders before the last one do
    abbrev compared : (x : ℕ) → Outcome → Outcome
    compared x fetched = chain fetched (λ v. Changed (put (signed x) v))

    -- a word of the frame of an activation
    compares_frame : (short : Bool) (n x by : ℕ) (c : Comparator) (m : ℕ) (a : OrderActivation) (under : List OrderActivation) → acts ≡ a ∷ under → x < 65536 → a.frame_base + n < p.limits.area
        → start_place known s + (frame_size n + 7) + branch_size short ≡ code_end known s → (start_place known s + (frame_size n + 7) + branch_size short + goes_by short by) % 65536 ≡ start known s m % 65536 → Code short n x c by
        → LandedAt (begins_block known s) p image (start_place known s) g false acts s.before First
        → Chosen (way_after (compared x (unrefused (perform p.limits.area (Fetch None) (put (signed (a.frame_base + n)) s.before)))) (way_of known s c m))
    compares_frame short n x by c m a under acts_are small inside e arrives i l =
        through_word rows.words p.limits.area (a.frame_base + n) low (omega arith) (λ k v. Changed (put (word_at v.memory k) v)) s.before (λ o. Chosen (way_after (compared x (unrefused o)) (way_of known s c m))) tt (λ k within same.
        let at = start_place known s in
        let v = s.before in
        let t = l.stacked in
        let kept = l.kept in
        let bp = record_of acts in
        let twice = 2 * a.frame_base % 65536 in
        let word = frame_word_at p.limits.area a.frame_base n k low within same in
        let y = word_at v.memory k in
        let size = length (bytes_of (compare_number (field (2 * n % 65536)) x)) in
        let long : size ≡ frame_size n + 4 = field_compared (2 * n % 65536) x in
        let V : View = view t.ax t.cx t.dx twice (2 * l.top) bp t.si p.limits.area (difference_overflows (unsigned y) x) l.cells l.stack l.input l.told in
        let Between : Watched → Type 0 = IsCompared image (at + 3 + size) V (unsigned y) x in
        sooner p image 2 (code_end known s) (start known s) g false 0 acts {T = Between} 2 10 (to_mark_if (holds (comparison c) y (signed x)) m v) (lit≤ tt)
        (straight_from rows (LoadSlot 3 0xFA (level acts + 1) twice) [] {n = 1} kept.wrote (i.0, tt) (base_there p acts (ap (base_word p) acts_are) kept.piled.0, tt) t.is (λ z u.
        let d = act rows (OperateNumberOnto Compare x (field (2 * n % 65536)) (InData k) (unsigned y)) (let some : 0 < size = omega (arith, long) in some) i.1.0 (field_denotes image.bytes (t.ax ∷ t.cx ∷ t.dx ∷ twice ∷ 2 * l.top ∷ bp ∷ t.si ∷ p.limits.area ∷ []) (2 * n % 65536) k word.low word.small word.there, tt, kept.words k within) u in
        last rows u kept.wrote (record { is = d.is; flags = rows.as_compared (unsigned y) x z.processor.state.flags (watched_step z).processor d.flags })))
        (λ z u.
        branches rows p image g acts short (code_end known s) l.top by (start known s) c m y (signed x) v.operands v.memory v.input v.output
        (let there : at + 3 + size + branch_size short ≡ code_end known s = omega (arith, e, long) in there)
        (let there : (at + 3 + size + branch_size short + goes_by short by) % 65536 ≡ start known s m % 65536 = ap (λ k. (k + branch_size short + goes_by short by) % 65536) (let same : at + 3 + size ≡ at + (frame_size n + 7) = omega (arith, long) in same) ∙ arrives in there)
        (memory_word known s k within) (rows.words.signed_fits x small) refl (sym (rows.words.numbers.words.forth x small)) l.operands kept i.1.1 u))

    -- a segment's body has no frame, and a word that is not in the data area is none of a frame
    compares_word : (short : Bool) (n x by : ℕ) (c : Comparator) (m : ℕ) → x < 65536
        → start_place known s + (frame_size n + 7) + branch_size short ≡ code_end known s → (start_place known s + (frame_size n + 7) + branch_size short + goes_by short by) % 65536 ≡ start known s m % 65536 → Code short n x c by
        → LandedAt (begins_block known s) p image (start_place known s) g false acts s.before First
        → Chosen (way_after (chain (put_address (frame_word p.limits.area acts n) s.before) (λ v. compared x (unrefused (perform p.limits.area (Fetch None) v)))) (way_of known s c m))
    compares_word short n x by c m small e arrives i l = cases acts refl
      where
        cases : (xs : List OrderActivation) → acts ≡ xs
            → Chosen (way_after (chain (put_address (frame_word p.limits.area xs n) s.before) (λ v. compared x (unrefused (perform p.limits.area (Fetch None) v)))) (way_of known s c m))
        cases [] is = tt
        cases (a ∷ under) is = by_place (nat_lt (a.frame_base + n) p.limits.area) refl
          where
            by_place : (inside : Bool) → nat_lt (a.frame_base + n) p.limits.area ≡ inside
                → Chosen (way_after (chain (put_address (if inside then Some (a.frame_base + n) else None) s.before) (λ v. compared x (unrefused (perform p.limits.area (Fetch None) v)))) (way_of known s c m))
            by_place false is_out = tt
            by_place true is_in = compares_frame short n x by c m a under is small (ltb-true (a.frame_base + n) p.limits.area is_in) e arrives i l

    -- the number that it is compared with
    number_small : (n x : ℕ) (os : List Order) → drop s.from s.orders.list ≡ order.FrameHome n ∷ order.Load ∷ order.Save ∷ order.Const x ∷ os → x < 65536
    number_small n x os e =
        let there : slice_get s.orders.list (s.from + 3) ≡ Some (order.Const x) = sym (slice_drop s.orders.list s.from 3) ∙ ap (λ l. slice_get l 3) e in
        coded.constants g (s.from + 3) x (ap (λ u. order_in u (s.from + 3)) s.unit ∙ there)

    compare_last : (n x : ℕ) (c : Comparator) (m : ℕ) (rest : List Order) → s.done ≡ 4 → drop s.from s.orders.list ≡ order.FrameHome n ∷ order.Load ∷ order.Save ∷ order.Const x ∷ order.JumpIf c m ∷ rest
        → block_at 0 (drop s.from s.orders.list) ≡ block.CompareWord n x c m → FollowFrom known First (at g place loaded acts w Running) q
    compare_last n x c m rest is_done e is =
        let o = order.JumpIf c m in
        let os = order.Load ∷ order.Save ∷ order.Const x ∷ o ∷ rest in
        let b = block.CompareWord n x c m in
        let here = order_here known s 4 o _ is_done e refl in
        let ends = block_ends known s b (order.FrameHome n) os 4 is_done e is refl refl in
        let before = modes known s false true true (order.FrameHome n) 3 os is_done e refl refl refl in
        let paid : 10 ≤ weight p (at g place loaded acts w Running) = let y = weight_is known s o here in omega arith in
        let short = is_short (reach_of s.orders) s.from b (order.FrameHome n) in
        let own = own_place s.orders s.from in
        let to = mark_starts s.orders m in
        let code = block_code known s b (order.FrameHome n) os e is in
        let size = compared_size short n x c m in
        let reached = reaches_mark known s b (order.FrameHome n) os m e is refl in
        let close : short ≡ true → is_close (own + (frame_size n + 7) + 2) to ≡ true = λ t.
        ap (λ k. is_close k to) (let k : own + (frame_size n + 7) + 2 ≡ own + block_size true b (order.FrameHome n) = omega (arith, compared_size true n x c m) in k) ∙ reached t in
        last_chooses known s false 0 (way_of known s c m) 10 4 _ is_done e ends.begins (step_in known s true o before.now here) paid
        (compares_word short n x (jump_word short (own + (frame_size n + 7) + branch_size short) to) c m (number_small n x (o ∷ rest) e) (omega (arith, ends.behind, size)) (branch_arrives (base_of p g) own (frame_size n + 7) to short close) (
          code.0,
          (
            code.1.0,
            subst (λ k. HasAll image (start_place known s + 3 + length (bytes_of (compare_number (field (2 * n % 65536)) x))) (branch_code short c (jump_word short (own + k + branch_size short) to))) (word_compared_long n x)
                (branch_stands image (all.stands g s.orders s.unit).value (start_place known s + 3 + length (bytes_of (compare_number (field (2 * n % 65536)) x))) short c (own + pieces_size (word_compared n x)) to code.1.1),
          ),
        ) (over_landed (begins_block known s) before.landed))

    pub compare_word_follows : (n x : ℕ) (c : Comparator) (m : ℕ) (rest : List Order) → drop s.from s.orders.list ≡ order.FrameHome n ∷ order.Load ∷ order.Save ∷ order.Const x ∷ order.JumpIf c m ∷ rest
        → block_at 0 (drop s.from s.orders.list) ≡ block.CompareWord n x c m → FollowFrom known First (at g place loaded acts w Running) q
    compare_word_follows n x c m rest e is =
        block_follows known s (block.CompareWord n x c m) (order.JumpIf c m) rest (tt, (tt, (tt, (tt, tt)))) e is refl (λ is_done. compare_last n x c m rest is_done e is)
