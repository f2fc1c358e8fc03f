-- The way of a switch whose labels stand in the body at work.
use Rattle.std.proofs.Common.{◌≡◌, ℕ, ◌+◌, ◌*◌, ◌%◌, true, false, List, Some, subst, arith, lit<, lit≤}
use Rattle.std.specs.Prelude.{slice_get}
use Rattle.cw_unit.specs.Stop.{SwitchRange, Running}
use Rattle.cw_unit.specs.Words.{Words}
use Rattle.cw_order.specs.declared.order.Order.TheVariants as order
use Rattle.cw_order.specs.OrderState.{OrderActivation, at}
use Rattle.cw_order.specs.OrderChanges.{way_of_one, to_mark_of_switch, mark_of_number}
use Rattle.cw_tmpl.specs.Library.{stop_place, switch_entry}
use Rattle.cw_tmpl.specs.Templates.{mark_words}
use Rattle.cw_tmpl.specs.ReferenceCode.{mark_starts, names_of}
use Rattle.cw_tmpl.proofs.Sizes.{own_place}
use Rattle.cw_follow.specs.Placing.{base_of}
use Rattle.cw_follow.proofs.Watched.{Watched}
use Rattle.cw_follow.proofs.Standing.{HasPieces, HasWord}
use Rattle.cw_follow.proofs.States.{Given, Sound}
use Rattle.cw_follow.proofs.Steps.{Follow, step_is, line_fits, has_code, start, chosen, by, calls, cheap, low_room, Alone, here, next, code, begins_next}
use Rattle.cw_follow.proofs.Tables.{mark_word_is}
use Rattle.cw_follow.proofs.SwitchTables.{chooses_way}

module _ (known : Given) where
  open known use {rows, p, image, all, coded, few, low}

  module _ {q : Watched} {g place : ℕ} {acts : List OrderActivation} {w : Words} (s : Sound p image g place true acts w q) (a : Alone p image g place true acts w q s.orders) where
    pub way_follows : (marks : List ℕ) (line : ℕ) → slice_get s.orders.list place ≡ Some (order.SwitchWay marks line) → Follow known (at g place true acts w Running) q
    way_follows marks line e =
        let o = order.SwitchWay marks line in
        let here = here known s a in
        let own = own_place s.orders place in
        let st = all.stands g s.orders s.unit in
        let i = code known s a o e in
        let stop = here + 1 + 3 + 2 + 3 + 3 in
        let called = calls known s switch_entry stop (lit< tt) in
        let stop_is : (here + 12 + by known s switch_entry stop) % 65536 ≡ stop_place SwitchRange % 65536 = omega arith in
        let table = st.value 3 0 ((own + 20) % 65536) (here + 1 + 3 + 2 + 3 + 3 + 1 + 2 + 5) in
        let filled : table ≡ (base_of p g + (own + 20) % 65536) % 65536 = st.fills.places ((own + 20) % 65536) (here + 1 + 3 + 2 + 3 + 3 + 1 + 2 + 5) in
        let table_is : table ≡ (here + 20) % 65536 = omega arith in
        let e20 : here + 1 + 3 + 2 + 3 + 3 + 1 + 2 + 5 ≡ here + 20 = omega arith in
        let words = subst (λ x. HasPieces image st.value x (mark_words (names_of s.orders) marks)) e20 i.1.1.1.1.1.1.1.1 in
        let start_word : (k m : ℕ) → st.value 3 0 (mark_starts s.orders m % 65536) (here + 20 + 2 * k + 2) ≡ start known s m % 65536 = λ k m.
        let f = st.fills.places (mark_starts s.orders m % 65536) (here + 20 + 2 * k + 2) in
        let x : st.value 3 0 (mark_starts s.orders m % 65536) (here + 20 + 2 * k + 2) ≡ (base_of p g + mark_starts s.orders m) % 65536 = omega arith in
        x in
        chosen known s false line (way_of_one (λ x v. to_mark_of_switch (mark_of_number marks x) v) w.operands w) 15 (begins_next known s a o e)
        (step_is known s (Some o) e) (cheap known s o 15 (lit≤ tt) e)
        (chooses_way rows p image g acts (next known s a) line (by known s switch_entry stop) table (start known s) marks w.operands w.memory w.input w.output (has_code known s o e) table_is all.library
        (line_fits known s o e) stop_is (low_room known s)
        (λ k m is. subst (HasWord image (here + 20 + 2 * k)) (start_word k m) (mark_word_is image st.value (names_of s.orders) (here + 20) marks k m words is))
        s.fits.words.operands (i.0, (i.1.0, (i.1.1.0, (i.1.1.1.0, (i.1.1.1.1.0, (i.1.1.1.1.1.0, (i.1.1.1.1.1.1.0, (i.1.1.1.1.1.1.1.0, tt)))))))) a.landed)
