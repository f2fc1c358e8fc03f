-- Two words of the frame that are put, one behind the other.
use Rattle.std.proofs.Common.{◌≡◌, ℕ, zero, suc, ◌+◌, ◌*◌, ◌%◌, ◌<◌, ◌≤◌, Bool, true, false, List, [], ◌∷◌, length, drop, Some, None, refl, ap, subst, arith, lit<, lit≤}
use Rattle.std.specs.Prelude.{nat_lt, if◌then◌else◌}
use borrow.Author.Tests.{ltb-true}
use Rattle.cw_word.specs.Word.{unsigned}
use Rattle.cw_unit.specs.Stop.{Running}
use Rattle.cw_unit.specs.Words.{Words, Word, Outcome, Changed, put, word_at}
use Rattle.cw_unit.specs.Operation.{Fetch, perform}
use Rattle.cw_order.specs.declared.order.Order.{Order}
use Rattle.cw_order.specs.declared.order.Order.TheVariants as order
use Rattle.cw_order.specs.OrderChanges.{put_address}
use Rattle.cw_order.specs.OrderMachine.{unrefused, weight}
use Rattle.cw_order.specs.OrderState.{OrderActivation, at, frame_word}
use Rattle.cw_order.proofs.StandingActivations.{words_split}
use Rattle.cw_tmpl.specs.declared.blocks.Block.TheVariants as block
use Rattle.cw_tmpl.specs.Blocks.{block_at}
use Rattle.cw_tmpl.specs.Mnemonics.{ax, bx, slot, base_slot, field, load}
use Rattle.cw_i86.specs.declared.instr.Instr.TheVariants as i86
use Rattle.cw_i86.specs.Encoding.{bytes_of}
use Rattle.cw_tmpl.specs.Templates.{frame_size}
use Rattle.cw_tmpl.proofs.Lengths.{field_loaded}
use Rattle.cw_tmpl.proofs.Sizes.{both_long}
use Rattle.cw_follow.proofs.Fields.{frame_word_at}
use Rattle.cw_follow.proofs.BlockOrders.{block_follows, modes, step_in}
use Rattle.cw_follow.proofs.Chains.{IsAt, view, done}
use Rattle.cw_follow.proofs.InBlocks.{chain}
use Rattle.cw_follow.proofs.Orders.{Does, LandedAt, further, kept_under, landed, over_landed, through_word}
use Rattle.cw_follow.proofs.Stacks.{StackIs, level, record_of, base_word, stack_pushed, top_is, base_there}
use Rattle.cw_follow.proofs.Standing.{HasFrom}
use Rattle.cw_follow.proofs.States.{Given, Sound}
use Rattle.cw_follow.proofs.Steps.{FollowFrom, begins_block, begun_block, block_code, block_ends, last_does, order_here, start_place, weight_is, code_end}
use Rattle.cw_follow.proofs.Straight.{LoadSlot, LoadWord, Push, straight_from}
use Rattle.cw_follow.proofs.Watched.{Watched}

module _ (known : Given) where
  open known use {rows, p, image, all, coded, few, low}

  module _ {q : Watched} {g place : ℕ} {loaded : Bool} {acts : List OrderActivation} {w : Words} (s : Sound p image g place loaded acts w q) where
    abbrev First : Watched
    First = begun_block known s

    abbrev Here : Type 0
    Here = LandedAt (begins_block known s) p image (start_place known s) g false acts s.before First

    abbrev Code : (n m : ℕ) → Type 0
    Code n m = HasFrom (begins_block known s) image (start_place known s) (load bx (slot base_slot) ∷ load ax (field (2 * n % 65536)) ∷ i86.Push ax ∷ load ax (field (2 * m % 65536)) ∷ [])

    abbrev Done : Outcome → Type 0
    Done o = Does p image 4 (code_end known s) g true 0 acts s.before.output First o

    abbrev loads : Words → Outcome
    loads v = unrefused (perform p.limits.area (Fetch None) v)

    -- words k and j of the data area, which are words of the frame of an activation
    puts_both : (n m k j : ℕ) (a : OrderActivation) (under : List OrderActivation) → acts ≡ a ∷ under → k < p.limits.area → k ≡ a.frame_base + n → j < p.limits.area → j ≡ a.frame_base + m
        → start_place known s + (frame_size n + (frame_size m + 8)) ≡ code_end known s → Code n m → (l : Here) → (top : ℕ) → l.top ≡ top → Done (Changed (put (word_at s.before.memory j) (put (word_at s.before.memory k) s.before)))
    puts_both n m k j a under acts_are within_k same_k within_j same_j e i l zero is =
        let room = s.room_before in
        let most = coded.room in
        let split = words_split s.before.operands acts in
        let t = top_is p acts l.stack l.top s.before.operands l.operands in
        absurd (omega arith)
    puts_both n m k j a under acts_are within_k same_k within_j same_j e i l (suc top) is =
        let at = start_place known s in
        let v = s.before in
        let t = l.stacked in
        let kept = l.kept in
        let bp = record_of acts in
        let y = word_at v.memory k in
        let z = word_at v.memory j in
        let room = s.room_before in
        let most = coded.room in
        let split = words_split v.operands acts in
        let h : StackIs p acts l.stack (suc top) v.operands = subst (λ x. StackIs p acts l.stack x v.operands) is l.operands in
        let tops = top_is p acts l.stack (suc top) v.operands h in
        let lt : top < 32768 = omega arith in
        let under_record : top < level acts = omega arith in
        let sp : 2 * suc top ≡ 2 * suc top % 65536 = omega arith in
        let twice = 2 * a.frame_base % 65536 in
        let first = frame_word_at p.limits.area a.frame_base n k low within_k same_k in
        let second = frame_word_at p.limits.area a.frame_base m j low within_j same_j in
        let here : IsAt (begins_block known s) image at (view t.ax t.cx t.dx t.bx (2 * suc top) bp t.si p.limits.area t.overflow l.cells l.stack l.input l.told) First =
        subst (λ x. IsAt (begins_block known s) image at (view t.ax t.cx t.dx t.bx (2 * x) bp t.si p.limits.area t.overflow l.cells l.stack l.input l.told) First) is t.is in
        let end : at + 3 + length (bytes_of (load ax (field (2 * n % 65536)))) + 1 + length (bytes_of (load ax (field (2 * m % 65536)))) ≡ code_end known s = omega (arith, e, field_loaded ax (2 * n % 65536), field_loaded ax (2 * m % 65536)) in
        further 4 (lit≤ tt) (lit< tt)
        (straight_from rows (LoadSlot 3 0xFA (level acts + 1) twice) (LoadWord 0 (2 * n % 65536) k (unsigned y) ∷ Push 0 top ∷ LoadWord 0 (2 * m % 65536) j (unsigned z) ∷ []) {n = 0} kept.wrote i
        (base_there p acts (ap (base_word p) acts_are) kept.piled.0, ((first.low, first.small, first.there, kept.words k within_k), ((lt, sp), ((second.low, second.small, second.there, kept.words j within_j), tt)))) here (λ x u.
        done (landed rows p image g acts true (code_end known s) top (Word z ∷ Word y ∷ v.operands) v.memory v.input v.output end (refl, stack_pushed p acts l.stack top (unsigned y) y v.operands refl h) (kept_under top (unsigned y) under_record kept) u)))

    -- the second word, behind the first one
    second_put : (n m k : ℕ) (a : OrderActivation) (under : List OrderActivation) → acts ≡ a ∷ under → k < p.limits.area → k ≡ a.frame_base + n → start_place known s + (frame_size n + (frame_size m + 8)) ≡ code_end known s → Code n m → Here
        → (inside : Bool) → nat_lt (a.frame_base + m) p.limits.area ≡ inside
        → Done (chain (put_address (if inside then Some (a.frame_base + m) else None) (put (word_at s.before.memory k) s.before)) loads)
    second_put n m k a under acts_are within same e i l false is_out = tt
    second_put n m k a under acts_are within same e i l true is_in =
        let inside = ltb-true (a.frame_base + m) p.limits.area is_in in
        through_word rows.words p.limits.area (a.frame_base + m) low (omega arith) (λ j v. Changed (put (word_at v.memory j) v)) (put (word_at s.before.memory k) s.before) (λ o. Done (unrefused o)) tt
        (λ j within_j same_j. puts_both n m k j a under acts_are within same within_j same_j e i l l.top refl)

    first_put : (n m : ℕ) (a : OrderActivation) (under : List OrderActivation) → acts ≡ a ∷ under → start_place known s + (frame_size n + (frame_size m + 8)) ≡ code_end known s → Code n m → Here
        → (inside : Bool) → nat_lt (a.frame_base + n) p.limits.area ≡ inside
        → Done (chain (chain (put_address (if inside then Some (a.frame_base + n) else None) s.before) (λ v. chain (loads v) (λ u. chain (put_address (frame_word p.limits.area (a ∷ under) m) u) Changed))) loads)
    first_put n m a under acts_are e i l false is_out = tt
    first_put n m a under acts_are e i l true is_in =
        let inside = ltb-true (a.frame_base + n) p.limits.area is_in in
        through_word rows.words p.limits.area (a.frame_base + n) low (omega arith) (λ j v. Changed (put (word_at v.memory j) v)) s.before
        (λ o. Done (chain (chain (unrefused o) (λ u. chain (put_address (frame_word p.limits.area (a ∷ under) m) u) Changed)) loads)) tt
        (λ k within same.
        one_more (put_address (frame_word p.limits.area (a ∷ under) m) (put (word_at s.before.memory k) s.before))
        (second_put n m k a under acts_are within same e i l (nat_lt (a.frame_base + m) p.limits.area) refl))
      where
        one_more : (x : Outcome) → Done (chain x loads) → Done (chain (chain x Changed) loads)
        one_more (Changed v) d = d
        one_more _ d = d

    -- a segment's body has no frame, and a word that is not in the data area is none of a frame
    both_put : (n m : ℕ) → start_place known s + (frame_size n + (frame_size m + 8)) ≡ code_end known s → Code n m → Here
        → Done (chain (chain (put_address (frame_word p.limits.area acts n) s.before) (λ v. chain (loads v) (λ u. chain (put_address (frame_word p.limits.area acts m) u) Changed))) loads)
    both_put n m e i l = cases acts refl
      where
        cases : (xs : List OrderActivation) → acts ≡ xs
            → Done (chain (chain (put_address (frame_word p.limits.area xs n) s.before) (λ v. chain (loads v) (λ u. chain (put_address (frame_word p.limits.area xs m) u) Changed))) loads)
        cases [] is = tt
        cases (a ∷ under) is = first_put n m a under is e i l (nat_lt (a.frame_base + n) p.limits.area) refl

    both_last : (n m : ℕ) (rest : List Order) → s.done ≡ 4 → drop s.from s.orders.list ≡ order.FrameHome n ∷ order.Load ∷ order.Save ∷ order.FrameHome m ∷ order.Load ∷ rest
        → block_at 0 (drop s.from s.orders.list) ≡ block.FetchBoth n m → FollowFrom known First (at g place loaded acts w Running) q
    both_last n m rest is_done e is =
        let os = order.Load ∷ order.Save ∷ order.FrameHome m ∷ order.Load ∷ rest in
        let b = block.FetchBoth n m in
        let here = order_here known s 4 order.Load _ is_done e refl in
        let ends = block_ends known s b (order.FrameHome n) os 4 is_done e is refl refl in
        let before = modes known s false true true (order.FrameHome n) 3 os is_done e refl refl refl in
        let paid : 4 ≤ weight p (at g place loaded acts w Running) = let y = weight_is known s order.Load here in omega arith in
        last_does known s true 0 loads 4 4 _ is_done e ends.begins (step_in known s true order.Load before.now here) paid
        (both_put n m (omega (arith, ends.behind, both_long n m (order.FrameHome n))) (block_code known s b (order.FrameHome n) os e is) (over_landed (begins_block known s) before.landed))

    pub fetch_both_follows : (n m : ℕ) (rest : List Order) → drop s.from s.orders.list ≡ order.FrameHome n ∷ order.Load ∷ order.Save ∷ order.FrameHome m ∷ order.Load ∷ rest
        → block_at 0 (drop s.from s.orders.list) ≡ block.FetchBoth n m → FollowFrom known First (at g place loaded acts w Running) q
    fetch_both_follows n m rest e is = block_follows known s (block.FetchBoth n m) order.Load rest (tt, (tt, (tt, (tt, tt)))) e is refl (λ is_done. both_last n m rest is_done e is)
