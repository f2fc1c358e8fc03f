-- Control variables, tests and ways of loops.
use Rattle.std.proofs.Common.{◌≡◌, ℕ, ◌+◌, ◌-◌, ◌*◌, ◌%◌, ◌<◌, Bool, true, false, List, [], ◌∷◌, length, Option, Some, None, refl, subst, arith, lit<, lit≤}
use Rattle.std.specs.Prelude.{slice_get}
use Rattle.cw_follow.proofs.Watched.{Watched}
use Rattle.cw_unit.specs.Stop.{Running}
use Rattle.cw_unit.specs.Words.{Words, is_below, number_of}
use Rattle.cw_order.specs.declared.order.Order.{Order}
use Rattle.cw_order.specs.declared.order.Order.TheVariants as order
use Rattle.cw_order.specs.declared.order.Place.{Place}
use Rattle.cw_order.specs.declared.order.Place.TheVariants as cell
use Rattle.cw_order.specs.OrderActions.{home_word}
use Rattle.cw_order.specs.OrderChanges.{set_variable, add_step, put_variable, way_of_one, to_mark_in, mark_of_number, way_of_two, way_past_limit, next_step}
use Rattle.cw_order.specs.OrderState.{OrderActivation, at, frame_word}
use Rattle.cw_tmpl.specs.Library.{set_variable_entry, add_step_entry, put_variable_entry, exhausted_entry, next_step_entry}
use Rattle.cw_tmpl.specs.Templates.{distance, mark_words, loop_way, template_by, is_close, short_distance, block_size}
use Rattle.cw_tmpl.specs.ReferenceCode.{mark_starts, names_of}
use Rattle.cw_follow.specs.Placing.{base_of}
use Rattle.cw_tmpl.proofs.Sizes.{own_place, jump_arrives, listed as size_listed}
use Rattle.cw_follow.proofs.Standing.{HasPieces, HasWord}
use Rattle.cw_follow.proofs.States.{Given, Sound}
use Rattle.cw_follow.proofs.Steps.{Follow, step_is, line_fits, has_code, start, chosen, does, by, calls, setting, cheap, low_room, Alone, here, next, code, behind, begins_next, reaches_alone, short_alone}
use Rattle.cw_follow.proofs.Orders.{Chooses}
use Rattle.cw_follow.proofs.Tables.{mark_word_is, loops, loops_once, loops_close}
use Rattle.cw_follow.proofs.Variables.{sets_variable, adds_step, puts_variable}
use Rattle.cw_follow.proofs.Limits.{exhausts}
use Rattle.cw_follow.proofs.NextSteps.{doubles_word, doubles_frame, takes_step}
use Rattle.cw_tmpl.proofs.Reaching.{short_arrives}
use Rattle.cw_tmpl.specs.declared.blocks.Block.TheVariants as block

module _ (known : Given) where
  open known use {rows, p, image, all, coded, few, low}

  module _ {q : Watched} {g place : ℕ} {acts : List OrderActivation} {w : Words} (s : Sound p image g place true acts w q) (a : Alone p image g place true acts w q s.orders) where
    pub set_follows : (line : ℕ) → slice_get s.orders.list place ≡ Some (order.SetVariable line) → Follow known (at g place true acts w Running) q
    set_follows line e =
        let o = order.SetVariable line in
        let after = here known s a + 3 + 3 in
        does known s false line (set_variable p.limits.area w) 18 (begins_next known s a o e) (step_is known s (Some o) e) (cheap known s o 18 (lit≤ tt) e)
        (sets_variable (setting known s) w.memory w.input w.output (next known s a) (by known s set_variable_entry after) line w.operands (behind known s a o e)
        (calls known s set_variable_entry after (lit< tt)) (line_fits known s o e)
        s.fits.words.memory (low_room known s) s.fits.words.operands (code known s a o e) a.landed)

    pub step_follows : (line : ℕ) → slice_get s.orders.list place ≡ Some (order.AddStep line) → Follow known (at g place true acts w Running) q
    step_follows line e =
        let o = order.AddStep line in
        let after = here known s a + 3 + 3 in
        does known s false line (add_step p.limits.area w) 21 (begins_next known s a o e) (step_is known s (Some o) e) (cheap known s o 21 (lit≤ tt) e)
        (adds_step (setting known s) w.memory w.input w.output (next known s a) (by known s add_step_entry after) line w.operands (behind known s a o e) (calls known s add_step_entry after (lit< tt))
        (line_fits known s o e)
        s.fits.words.memory (low_room known s) (code known s a o e) a.landed)

    pub put_follows : (line : ℕ) → slice_get s.orders.list place ≡ Some (order.PutVariable line) → Follow known (at g place true acts w Running) q
    put_follows line e =
        let o = order.PutVariable line in
        let after = here known s a + 3 + 3 in
        does known s true line (put_variable p.limits.area w) 18 (begins_next known s a o e) (step_is known s (Some o) e) (cheap known s o 18 (lit≤ tt) e)
        (puts_variable (setting known s) w.memory w.input w.output (next known s a) (by known s put_variable_entry after) line w.operands (behind known s a o e)
        (calls known s put_variable_entry after (lit< tt)) (line_fits known s o e)
        s.fits.words.memory (low_room known s) (code known s a o e) a.landed)

    pub limit_follows : (m : ℕ) → slice_get s.orders.list place ≡ Some (order.Exhausted m) → Follow known (at g place true acts w Running) q
    limit_follows m e =
        let o = order.Exhausted m in
        let own = own_place s.orders place in
        let after = here known s a + 3 in
        chosen known s false 0 (way_of_two (λ x y v. way_past_limit (is_below y (p.limits.area - 2)) m x (number_of y) v) w) 17 (begins_next known s a o e)
        (step_is known s (Some o) e) (cheap known s o 17 (lit≤ tt) e)
        (exhausts (setting known s) w.memory w.input w.output (next known s a) (by known s exhausted_entry after) (distance (own + 6) (mark_starts s.orders m)) m (start known s) w.operands
        (behind known s a o e) (calls known s exhausted_entry after (lit< tt))
        (jump_arrives (base_of p g) own 6 (mark_starts s.orders m)) (low_room known s) s.fits.words.operands s.fits.words.memory (code known s a o e) a.landed)

    -- by a table
    by_table : (marks : List ℕ) → slice_get s.orders.list place ≡ Some (order.LoopWay marks) → here known s a + (20 + 2 * length marks) ≡ next known s a
        → HasPieces image (all.stands g s.orders s.unit).value (here known s a) (loop_way (names_of s.orders) (own_place s.orders place) marks) → Follow known (at g place true acts w Running) q
    by_table marks e ends i =
        let o = order.LoopWay marks in
        let n = length marks in
        let here = here known s a in
        let own = own_place s.orders place in
        let st = all.stands g s.orders s.unit in
        let by = distance (own + 13) (own + 20 + 2 * n) in
        let meets = jump_arrives (base_of p g) own 13 (own + 20 + 2 * n) in
        let to = next known s a in
        let arrives : (here + 13 + by) % 65536 ≡ to % 65536 = omega arith in
        let table = st.value 3 0 ((own + 20) % 65536) (here + 3 + 2 + 3 + 2 + 3 + 2 + 5) in
        let filled : table ≡ (base_of p g + (own + 20) % 65536) % 65536 = st.fills.places ((own + 20) % 65536) (here + 3 + 2 + 3 + 2 + 3 + 2 + 5) in
        let table_is : table ≡ (here + 20) % 65536 = omega arith in
        let e20 : here + 3 + 2 + 3 + 2 + 3 + 2 + 5 ≡ here + 20 = omega arith in
        let words = subst (λ x. HasPieces image st.value x (mark_words (names_of s.orders) marks)) e20 i.1.1.1.1.1.1.1 in
        let start_word : (k m : ℕ) → st.value 3 0 (mark_starts s.orders m % 65536) (here + 20 + 2 * k + 2) ≡ start known s m % 65536 = λ k m.
        let f = st.fills.places (mark_starts s.orders m % 65536) (here + 20 + 2 * k + 2) in
        let x : st.value 3 0 (mark_starts s.orders m % 65536) (here + 20 + 2 * k + 2) ≡ (base_of p g + mark_starts s.orders m) % 65536 = omega arith in
        x in
        let short : n < 32768 = has_code known s o e in
        chosen known s false 0 (way_of_one (λ x v. to_mark_in (mark_of_number marks x) v) w.operands w) 6 (begins_next known s a o e)
        (step_is known s (Some o) e) (cheap known s o 6 (lit≤ tt) e)
        (loops rows p image g acts to by table (start known s) marks w.operands w.memory w.input w.output short table_is arrives
        (λ k m is. subst (HasWord image (here + 20 + 2 * k)) (start_word k m) (mark_word_is image st.value (names_of s.orders) (here + 20) marks k m words is))
        s.fits.words.operands (i.0, (i.1.0, (i.1.1.0, (i.1.1.1.0, (i.1.1.1.1.0, (i.1.1.1.1.1.0, (i.1.1.1.1.1.1.0, tt))))))) a.landed)

    pub loop_follows : (marks : List ℕ) → slice_get s.orders.list place ≡ Some (order.LoopWay marks) → Follow known (at g place true acts w Running) q
    loop_follows [] e = by_table [] e (let z = size_listed (order.LoopWay []) in let y = behind known s a (order.LoopWay []) e in omega arith) (code known s a (order.LoopWay []) e)
    loop_follows (m ∷ []) e = cases (short_alone known s a o) (reaches_alone known s a o m e refl) (behind known s a o e) (code known s a o e)
      where
        o : Order
        o = order.LoopWay (m ∷ [])

        own : ℕ
        own = own_place s.orders place

        cases : (short : Bool) → (short ≡ true → is_close (own + 3) (mark_starts s.orders m) ≡ true) → here known s a + block_size short block.Single o ≡ next known s a
            → HasPieces image (all.stands g s.orders s.unit).value (here known s a) (template_by short (names_of s.orders) own place o) → Follow known (at g place true acts w Running) q
        cases true close ends i =
            chosen known s false 0 (way_of_one (λ x v. to_mark_in (mark_of_number (m ∷ []) x) v) w.operands w) 3 (begins_next known s a o e)
            (step_is known s (Some o) e) (cheap known s o 3 (lit≤ tt) e)
            (loops_close rows p image (short_distance (own + 3) (mark_starts s.orders m)) g acts (next known s a) (start known s) m w.operands w.memory w.input w.output ends
            (short_arrives (base_of p g) own 3 (mark_starts s.orders m) (close refl)) s.fits.words.operands i a.landed)
        cases false close ends i =
            chosen known s false 0 (way_of_one (λ x v. to_mark_in (mark_of_number (m ∷ []) x) v) w.operands w) 3 (begins_next known s a o e)
            (step_is known s (Some o) e) (cheap known s o 3 (lit≤ tt) e)
            (loops_once rows p image (distance (own + 6) (mark_starts s.orders m)) g acts (next known s a) (start known s) m w.operands w.memory w.input w.output ends
            (jump_arrives (base_of p g) own 6 (mark_starts s.orders m)) s.fits.words.operands i a.landed)
    loop_follows (m ∷ n ∷ ms) e = by_table (m ∷ n ∷ ms) e (let z = size_listed (order.LoopWay (m ∷ n ∷ ms)) in let y = behind known s a (order.LoopWay (m ∷ n ∷ ms)) e in omega arith) (code known s a (order.LoopWay (m ∷ n ∷ ms)) e)

  module _ {q : Watched} {g place : ℕ} {acts : List OrderActivation} {w : Words} (s : Sound p image g place false acts w q) (a : Alone p image g place false acts w q s.orders) where
    -- by the words of a loop in a storage family, and in the frame
    pub turn_follows : (x : Place) (line m : ℕ) → slice_get s.orders.list place ≡ Some (order.NextStep x line m) → Follow known (at g place false acts w Running) q
    turn_follows (cell.Word f n) line m e =
        let o = order.NextStep (cell.Word f n) line m in
        let own = own_place s.orders place in
        let here = here known s a in
        let st = all.stands g s.orders s.unit in
        let i = code known s a o e in
        let home = home_word p.addresses g f n in
        let word = st.value 2 f n (here + 3) in
        let filled : word ≡ 2 * home % 65536 = st.fills.bytes f n (here + 3) in
        let ends : here + 13 ≡ next known s a = behind known s a o e in
        let arrives : (here + 11 + distance (own + 11) (mark_starts s.orders m)) % 65536 ≡ start known s m % 65536 = jump_arrives (base_of p g) own 11 (mark_starts s.orders m) in
        chosen known s false line (next_step p.limits.area m (Some home) w) 33 (begins_next known s a o e) (step_is known s (Some o) e) (cheap known s o 33 (lit≤ tt) e)
        (takes_step (setting known s) w.memory w.input w.output 1 (next known s a) (by known s next_step_entry (here + 3 + 3)) (distance (own + 11) (mark_starts s.orders m)) line home m (start known s)
        w.operands (lit≤ tt) (omega arith) (calls known s next_step_entry (here + 3 + 3) (lit< tt)) (omega arith) (line_fits known s o e) s.fits.words.memory (low_room known s) i.1
        (λ inside. doubles_word (setting known s) w.memory w.input w.output home word w.operands (omega arith) i.0 a.landed))
    turn_follows (cell.Frame n) line m e =
        chosen known s false line (next_step p.limits.area m (frame_word p.limits.area acts n) w) 33 (begins_next known s a o e) (step_is known s (Some o) e)
        (cheap known s o 33 (lit≤ tt) e) (takes (frame_word p.limits.area acts n) refl)
      where
        o : Order
        o = order.NextStep (cell.Frame n) line m

        takes : (x : Option ℕ) → frame_word p.limits.area acts n ≡ x → Chooses p image 33 (next known s a) (start known s) g false line acts w.output q (next_step p.limits.area m x w)
        takes None is = tt
        takes (Some k) is =
            let own = own_place s.orders place in
            let here = here known s a in
            let i = code known s a o e in
            let ends : here + 17 ≡ next known s a = behind known s a o e in
            let arrives : (here + 15 + distance (own + 15) (mark_starts s.orders m)) % 65536 ≡ start known s m % 65536 = jump_arrives (base_of p g) own 15 (mark_starts s.orders m) in
            takes_step (setting known s) w.memory w.input w.output 2 (next known s a) (by known s next_step_entry (here + 3 + 4 + 3)) (distance (own + 15) (mark_starts s.orders m)) line k m (start known s)
            w.operands (lit≤ tt) (omega arith) (calls known s next_step_entry (here + 3 + 4 + 3) (lit< tt)) (omega arith) (line_fits known s o e) s.fits.words.memory (low_room known s) i.1.1
            (λ inside. doubles_frame (setting known s) w.memory w.input w.output n k w.operands is (i.0, (i.1.0, tt)) a.landed)
