-- Blocks of several orders.
use Rattle.std.proofs.Common.{◌≡◌, inl, inr, ℕ, zero, suc, ◌+◌, ◌<◌, ◌≤◌, Bool, true, false, not, pos, List, [], ◌∷◌, ◌++◌, length, drop, Option, Some, None, refl, sym, ap, ◌∙◌, subst, arith}
use Rattle.std.proofs.lemmas.Bool.{cases_lt}
use Rattle.std.proofs.lemmas.Bool.Decides.{nat_tests}
use Rattle.std.specs.Prelude.{slice_get}
use Rattle.std.proofs.lemmas.Bool.{le-leb}
use Rattle.cw_tmpl.proofs.Sizes.{fetched_long, stored_long}
use Rattle.cw_follow.proofs.Watched.{Watched}
use Rattle.cw_word.specs.Word.{signed}
use Rattle.cw_unit.specs.Stop.{Running}
use Rattle.cw_unit.specs.Words.{Operand, Word, Words, with_operands, put}
use Rattle.cw_unit.specs.Operation.{Fetch, Store, Divide, WriteByte, perform}
use Rattle.cw_order.specs.declared.order.Order.{Order}
use Rattle.cw_order.specs.declared.order.Order.TheVariants as order
use Rattle.cw_order.specs.OrderProgram.{order_in}
use Rattle.cw_order.specs.OrderChanges.{put_address}
use Rattle.cw_order.specs.OrderState.{OrderActivation, at, operand_words, stack_words, frame_word}
use Rattle.cw_order.specs.Loading.{loaded_after}
use Rattle.cw_order.specs.OrderActions.{home_word, action_of}
use Rattle.cw_order.specs.OrderMachine.{unrefused, go_on, after, act, carry_with, step, weight}
use Rattle.cw_order.specs.declared.order.Place.{Place}
use Rattle.cw_order.specs.declared.order.Place.TheVariants as cell
use Rattle.cw_order.proofs.StandingActivations.{words_split}
use Rattle.cw_tmpl.specs.declared.blocks.Simple.{Simple}
use Rattle.cw_tmpl.specs.declared.blocks.Simple.TheVariants as simple
use Rattle.cw_tmpl.specs.declared.blocks.Block.{Block}
use Rattle.cw_tmpl.specs.declared.blocks.Block.TheVariants as block
use Rattle.cw_tmpl.specs.Blocks.{address_orders, operand_orders, orders_before, is_plain_divisor, block_at, orders_left}
use Rattle.cw_follow.specs.Placing.{base_of}
use Rattle.cw_follow.proofs.Standing.{order_place}
use Rattle.cw_follow.proofs.Stacks.{level}
use Rattle.cw_follow.proofs.Orders.{Landed, Does, fetches, assigns, writes_top, over_landed}
use Rattle.cw_follow.proofs.States.{Given, Sound}
use Rattle.cw_follow.proofs.InBlocks.{slice_drop, Each, each_of_both, one_before, none_before, Puts, never_refused, puts_word, loaded_then, loaded_silently}
use Rattle.cw_follow.proofs.FrameBlocks.{fetches_word, assigns_word}
use Rattle.cw_follow.proofs.Divisions.{divides_by_number}
use Rattle.cw_follow.proofs.Steps.{Follow, setting, step_is, stuck_here, weight_is, block_code, block_ends, start_place, order_here, silent_in, moded_as, last_does, last_tells, FollowFrom, begins_block, begun_block, code_end}

-- an operand whose address is not formed
abbrev pub WithoutAddress : Simple → Type 0
WithoutAddress (simple.Element e) = ⊥
WithoutAddress o = Unit {0}

address_unrefused : (a : Option ℕ) (w : Words) → unrefused (put_address a w) ≡ put_address a w
address_unrefused None w = refl
address_unrefused (Some a) w = refl

-- a byte that is written stops nothing
pub write_unrefused : (area : ℕ) (operands : List Operand) (w : Words) → unrefused (perform area WriteByte (with_operands w operands)) ≡ perform area WriteByte (with_operands w operands)
write_unrefused area (Word x ∷ rest) w = refl
write_unrefused area _ w = refl

-- a divisor of the processor's own division
plain_divisor : (x : ℕ) → is_plain_divisor x ≡ true → (2 ≤ x) × (x < 32768)
plain_divisor x plain = (grind (arith, nat_tests), grind (arith, nat_tests))

pub small_number : (x : ℕ) → x < 32768 → signed x ≡ pos x
small_number x short = grind (arith, nat_tests)

-- an order wants the accumulator in one mode alone
wants : (o : Order) (b c : Bool) → loaded_after o b ≡ Some c → loaded_after o (not b) ≡ None → (f : Bool → Option Bool) (x y : Bool) → loaded_then (loaded_after o x) f ≡ Some y → x ≡ b
wants o true c is other f true y e = refl
wants o false c is other f false y e = refl
wants o true c is other f false y e = let none : loaded_then (loaded_after o false) f ≡ None = ap (λ m. loaded_then m f) other in absurd (cc)
wants o false c is other f true y e = let none : loaded_then (loaded_after o true) f ≡ None = ap (λ m. loaded_then m f) other in absurd (cc)

module _ (known : Given) where
  open known use {rows, p, image, all, coded, few, low}

  module _ {q : Watched} {g place : ℕ} {loaded : Bool} {acts : List OrderActivation} {w : Words} (s : Sound p image g place loaded acts w q) where
    pub room_in : operand_words s.before.operands < level acts
    room_in = let room = s.room_before in let most = coded.room in let split = words_split s.before.operands acts in omega arith

    pub within_block : (b : Block) (n : ℕ) → block_at 0 (drop s.from s.orders.list) ≡ b → orders_left b ≡ n → s.done ≤ n
    within_block b n is left = let inside = s.inside in let e : orders_left (block_at 0 (drop s.from s.orders.list)) ≡ orders_left b = ap orders_left is in omega arith

    -- ---- the orders before the last one

    puts_so : (o : Order) (m : Bool) → Puts o → act p (action_of p g acts o) g place m acts w ≡ after p.room 0 (puts_word p g acts o w) g place m acts w
    puts_so order.Save m is = ap (λ b. go_on b g place m acts w w) (sym (le-leb (stack_words w.operands acts) p.room s.stands.room))
    puts_so (order.Const x) m is = refl
    puts_so (order.Home f n) m is = refl
    puts_so (order.FrameHome n) m is = ap (λ x. after p.room 0 x g place m acts w) (address_unrefused (frame_word p.limits.area acts n) w)
    puts_so order.Load m is = refl
    puts_so _ m is = absurd is

    -- such an order, which stands behind so many others of its block
    pub inner_follows : {first : Watched} (k : ℕ) (o : Order) (b : Block) (os : List Order) → s.done ≡ k → drop s.from s.orders.list ≡ os → slice_get os k ≡ Some o → Puts o → block_at 0 (drop s.from s.orders.list) ≡ b
        → suc k ≤ orders_left b → FollowFrom known first (at g place loaded acts w Running) q
    inner_follows {first} k o b os is_done e there puts is more = cases (loaded_after o loaded) refl
      where
        here : slice_get s.orders.list place ≡ Some o
        here = order_here known s k o os is_done e there

        cases : (x : Option Bool) → loaded_after o loaded ≡ x → FollowFrom known first (at g place loaded acts w Running) q
        cases None mode = absurd (stuck_here known s (step_is known s (Some o) here ∙ ap (λ x. carry_with p x o g place loaded acts w) mode))
        cases (Some m) mode =
            let left : orders_left (block_at 0 (drop s.from s.orders.list)) ≡ orders_left b = ap orders_left is in
            silent_in known s o m 0 here mode (puts_so o m puts) (λ kind refused goes. absurd (never_refused p g acts o puts w kind refused)) (omega arith)

    -- ---- the last one

    -- the mode before the block, and that before its last order
    pub record Modes (b m : Bool) : Type 0 where
      pub now : loaded ≡ m
      pub landed : Landed p image (order_place (base_of p g) s.orders s.from) g b acts s.before q

    pub modes : (b c m : Bool) (o : Order) (n : ℕ) (os : List Order) → s.done ≡ suc n → drop s.from s.orders.list ≡ o ∷ os → loaded_after o b ≡ Some c → loaded_after o (not b) ≡ None
        → loaded_silently n os c ≡ Some m → Modes b m
    modes b c m o n os is_done e is other then =
        let moded : loaded_then (loaded_after o s.loaded_before) (loaded_silently n os) ≡ Some loaded = moded_as known s (suc n) (o ∷ os) is_done e in
        let before : s.loaded_before ≡ b = wants o b c is other (loaded_silently n os) s.loaded_before loaded moded in
        let same : loaded_then (loaded_after o b) (loaded_silently n os) ≡ Some m = ap (λ x. loaded_then x (loaded_silently n os)) is ∙ then in
        let both : Some loaded ≡ Some m = sym moded ∙ ap (λ x. loaded_then (loaded_after o x) (loaded_silently n os)) before ∙ same in
        record {
          now = cc;
          landed = subst (λ x. Landed p image (order_place (base_of p g) s.orders s.from) g x acts s.before q) before s.landed;
        }

    pub saved : (m : Bool) (n : ℕ) (os : List Order) → s.done ≡ suc n → drop s.from s.orders.list ≡ order.Save ∷ os → loaded_silently n os false ≡ Some m → Modes true m
    saved m n os is_done e then = modes true false m order.Save n os is_done e refl refl then

    -- a step in the mode that is known
    pub step_in : (m : Bool) (o : Order) → loaded ≡ m → slice_get s.orders.list place ≡ Some o → step p (at g place loaded acts w Running) ≡ carry_with p (loaded_after o m) o g place loaded acts w
    step_in m o now here = step_is known s (Some o) here ∙ ap (λ x. carry_with p (loaded_after o x) o g place loaded acts w) now

    -- ---- all of a block

    pub place_puts : (x : Place) → Each Puts (address_orders x)
    place_puts (cell.Word f n) = (tt, tt)
    place_puts (cell.Frame n) = (tt, tt)

    pub operand_puts : (o : Simple) → WithoutAddress o → Each Puts (operand_orders o)
    operand_puts (simple.Element e) h = absurd h
    operand_puts (simple.Number x) h = (tt, tt)
    operand_puts (simple.Contents x) h = each_of_both Puts (address_orders x) (order.Load ∷ []) (place_puts x) (tt, tt)

    -- the orders of a block, where its last one is followed
    pub block_follows : {first : Watched} (b : Block) (last : Order) (rest : List Order) → Each Puts (orders_before b) → drop s.from s.orders.list ≡ orders_before b ++ last ∷ rest → block_at 0 (drop s.from s.orders.list) ≡ b → orders_left b ≡ length (orders_before b)
        → (s.done ≡ length (orders_before b) → FollowFrom known first (at g place loaded acts w Running) q) → FollowFrom known first (at g place loaded acts w Running) q
    block_follows {first} b last rest puts e is many ends = elim (cases_lt s.done (length (orders_before b))) as (λ _. FollowFrom known first (at g place loaded acts w Running) q) [
      | inl lt ↦ inner lt
      | inr ge ↦ (let le = within_block b (length (orders_before b)) is many in ends (omega arith))
    ]
      where
        inner : s.done < length (orders_before b) → FollowFrom known first (at g place loaded acts w Running) q
        inner lt = cases (slice_get (orders_before b ++ last ∷ rest) s.done) refl
          where
            cases : (o : Option Order) → slice_get (orders_before b ++ last ∷ rest) s.done ≡ o → FollowFrom known first (at g place loaded acts w Running) q
            cases None none = absurd (none_before (orders_before b) last rest s.done lt none)
            cases (Some o) there =
                let more : suc s.done ≤ orders_left b = omega arith in
                inner_follows s.done o b (orders_before b ++ last ∷ rest) refl e there (one_before Puts (orders_before b) last o rest s.done puts lt there) is more

    -- ---- words that are put and stored

    fetch_last : (x : Place) (rest : List Order) → s.done ≡ length (address_orders x) → drop s.from s.orders.list ≡ address_orders x ++ order.Load ∷ rest
        → block_at 0 (drop s.from s.orders.list) ≡ block.Fetch x → FollowFrom known (begun_block known s) (at g place loaded acts w Running) q
    fetch_last (cell.Word f n) rest is_done e is =
        let here = order_here known s 1 order.Load _ is_done e refl in
        let ends = block_ends known s (block.Fetch (cell.Word f n)) (order.Home f n) (order.Load ∷ rest) 1 is_done e is refl refl in
        let before = modes false true true (order.Home f n) 0 (order.Load ∷ rest) is_done e refl refl refl in
        let st = all.stands g s.orders s.unit in
        let here_at = start_place known s in
        let word = home_word p.addresses g f n in
        let small : word < 65536 = omega arith in
        let paid : 1 ≤ weight p (at g place loaded acts w Running) = let x = weight_is known s order.Load here in omega arith in
        last_does known s true 0 (λ v. unrefused (perform p.limits.area (Fetch None) v)) 1 1 _ is_done e ends.begins (step_in true order.Load before.now here) paid
        (fetches rows p image g acts (code_end known s) (st.value 2 f n (here_at + 3)) word 0 s.before low small (st.fills.bytes f n (here_at + 3)) ends.behind
        (block_code known s (block.Fetch (cell.Word f n)) (order.Home f n) (order.Load ∷ rest) e is).0 (over_landed (begins_block known s) before.landed))
    fetch_last (cell.Frame n) rest is_done e is =
        let here = order_here known s 1 order.Load _ is_done e refl in
        let ends = block_ends known s (block.Fetch (cell.Frame n)) (order.FrameHome n) (order.Load ∷ rest) 1 is_done e is refl refl in
        let before = modes false true true (order.FrameHome n) 0 (order.Load ∷ rest) is_done e refl refl refl in
        let paid : 2 ≤ weight p (at g place loaded acts w Running) = let x = weight_is known s order.Load here in omega arith in
        last_does known s true 0 (λ v. unrefused (perform p.limits.area (Fetch None) v)) 2 1 _ is_done e ends.begins (step_in true order.Load before.now here) paid
        (fetches_word rows p image g (code_end known s) n acts s.before low (omega (arith, ends.behind, fetched_long n)) (block_code known s (block.Fetch (cell.Frame n)) (order.FrameHome n) (order.Load ∷ rest) e is) (over_landed (begins_block known s) before.landed))

    pub fetch_follows : (x : Place) (rest : List Order) → drop s.from s.orders.list ≡ address_orders x ++ order.Load ∷ rest → block_at 0 (drop s.from s.orders.list) ≡ block.Fetch x
        → FollowFrom known (begun_block known s) (at g place loaded acts w Running) q
    fetch_follows x rest e is = block_follows (block.Fetch x) order.Load rest (place_puts x) e is refl (λ is_done. fetch_last x rest is_done e is)

    assign_last : (x : Place) (rest : List Order) → s.done ≡ suc (length (address_orders x)) → drop s.from s.orders.list ≡ order.Save ∷ (address_orders x ++ order.Store ∷ rest)
        → block_at 0 (drop s.from s.orders.list) ≡ block.Assign x → Follow known (at g place loaded acts w Running) q
    assign_last (cell.Word f n) rest is_done e is =
        let os = order.Home f n ∷ order.Store ∷ rest in
        let here = order_here known s 2 order.Store _ is_done e refl in
        let ends = block_ends known s (block.Assign (cell.Word f n)) order.Save os 2 is_done e is refl refl in
        let before = saved true 1 os is_done e refl in
        let st = all.stands g s.orders s.unit in
        let here_at = start_place known s in
        let word = home_word p.addresses g f n in
        let small : word < 65536 = omega arith in
        let paid : 1 ≤ weight p (at g place loaded acts w Running) = let x = weight_is known s order.Store here in omega arith in
        let v = s.before in
        last_does known s false 0 (λ v. unrefused (perform p.limits.area (Store None) v)) 1 2 _ is_done e ends.begins (step_in true order.Store before.now here) paid
        (assigns rows p image g acts (code_end known s) (st.value 2 f n (here_at + 3)) word 0 v.operands v.memory v.input v.output low small (st.fills.bytes f n (here_at + 3)) ends.behind
        (block_code known s (block.Assign (cell.Word f n)) order.Save os e is).0 before.landed)
    assign_last (cell.Frame n) rest is_done e is =
        let os = order.FrameHome n ∷ order.Store ∷ rest in
        let here = order_here known s 2 order.Store _ is_done e refl in
        let ends = block_ends known s (block.Assign (cell.Frame n)) order.Save os 2 is_done e is refl refl in
        let before = saved true 1 os is_done e refl in
        let paid : 2 ≤ weight p (at g place loaded acts w Running) = let x = weight_is known s order.Store here in omega arith in
        last_does known s false 0 (λ v. unrefused (perform p.limits.area (Store None) v)) 2 2 _ is_done e ends.begins (step_in true order.Store before.now here) paid
        (assigns_word rows p image g (code_end known s) n acts s.before low (omega (arith, ends.behind, stored_long n)) (block_code known s (block.Assign (cell.Frame n)) order.Save os e is) before.landed)

    pub assign_follows : (x : Place) (rest : List Order) → drop s.from s.orders.list ≡ order.Save ∷ (address_orders x ++ order.Store ∷ rest) → block_at 0 (drop s.from s.orders.list) ≡ block.Assign x
        → Follow known (at g place loaded acts w Running) q
    assign_follows x rest e is = block_follows (block.Assign x) order.Store rest (tt, place_puts x) e is refl (λ is_done. assign_last x rest is_done e is)

    -- ---- output

    write_last : (rest : List Order) → s.done ≡ 1 → drop s.from s.orders.list ≡ order.Save ∷ order.WriteByte ∷ rest → block_at 0 (drop s.from s.orders.list) ≡ block.Write → Follow known (at g place loaded acts w Running) q
    write_last rest is_done e is =
        let here = order_here known s 1 order.WriteByte _ is_done e refl in
        let ends = block_ends known s block.Write order.Save (order.WriteByte ∷ rest) 1 is_done e is refl refl in
        let before = saved false 0 (order.WriteByte ∷ rest) is_done e refl in
        let paid : 1 ≤ weight p (at g place loaded acts w Running) = let x = weight_is known s order.WriteByte here in omega arith in
        let v = s.before in
        last_tells known s false (perform p.limits.area WriteByte) 1 1 _ is_done e ends.begins
        (step_in false order.WriteByte before.now here ∙ ap (λ x. after p.room 0 x g place false acts w) (write_unrefused p.limits.area w.operands w)) paid
        (writes_top rows p image g acts (code_end known s) v.operands v.memory v.input v.output ends.behind
        (block_code known s block.Write order.Save (order.WriteByte ∷ rest) e is).0 before.landed)

    pub write_top_follows : (rest : List Order) → drop s.from s.orders.list ≡ order.Save ∷ order.WriteByte ∷ rest → block_at 0 (drop s.from s.orders.list) ≡ block.Write → Follow known (at g place loaded acts w Running) q
    write_top_follows rest e is = block_follows block.Write order.WriteByte rest (tt, tt) e is refl (λ is_done. write_last rest is_done e is)

    -- ---- a number that divides

    pub number_small : (x : ℕ) (os : List Order) → drop s.from s.orders.list ≡ order.Save ∷ order.Const x ∷ os → x < 65536
    number_small x os e =
        let second : slice_get s.orders.list (s.from + 1) ≡ Some (order.Const x) = sym (slice_drop s.orders.list s.from 1) ∙ ap (λ l. slice_get l 1) e in
        coded.constants g (s.from + 1) x (ap (λ u. order_in u (s.from + 1)) s.unit ∙ second)

    divide_last : (x line : ℕ) (rest : List Order) → s.done ≡ 2 → drop s.from s.orders.list ≡ order.Save ∷ order.Const x ∷ order.Div (pos zero) line ∷ rest → is_plain_divisor x ≡ true
        → block_at 0 (drop s.from s.orders.list) ≡ block.Divide x line → Follow known (at g place loaded acts w Running) q
    divide_last x line rest is_done e plain is =
        let o = order.Div (pos zero) line in
        let os = order.Const x ∷ o ∷ rest in
        let here = order_here known s 2 o _ is_done e refl in
        let ends = block_ends known s (block.Divide x line) order.Save os 2 is_done e is refl refl in
        let before = saved true 1 os is_done e refl in
        let paid : 3 ≤ weight p (at g place loaded acts w Running) = let y = weight_is known s o here in omega arith in
        let in_range = plain_divisor x plain in
        let v = s.before in
        last_does known s true line (perform p.limits.area (Divide (pos zero))) 3 2 _ is_done e ends.begins (step_in true o before.now here) paid
        (subst (λ y. Does p image 3 (code_end known s) g true line acts v.output q (perform p.limits.area (Divide (pos zero)) (put y v))) (sym (small_number x in_range.1))
        (divides_by_number (setting known s) v.memory v.input v.output (code_end known s) line x v.operands in_range.0 in_range.1 ends.behind room_in s.fits_before.operands
        (block_code known s (block.Divide x line) order.Save os e is) before.landed))

    pub divide_number_follows : (x line : ℕ) (rest : List Order) → drop s.from s.orders.list ≡ order.Save ∷ order.Const x ∷ order.Div (pos zero) line ∷ rest → is_plain_divisor x ≡ true
        → block_at 0 (drop s.from s.orders.list) ≡ block.Divide x line → Follow known (at g place loaded acts w Running) q
    divide_number_follows x line rest e plain is = block_follows (block.Divide x line) (order.Div (pos zero) line) rest (tt, (tt, tt)) e is refl (λ is_done. divide_last x line rest is_done e plain is)
