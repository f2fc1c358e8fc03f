-- The begin of an activation by the code of a segment, where its frame has words.
use Rattle.std.proofs.Common.{◌≡◌, ℕ, suc, ◌+◌, ◌-◌, ◌*◌, ◌%◌, ◌<◌, ◌≤◌, Bool, true, false, List, [], ◌∷◌, refl, sym, ap, subst, arith, lit<, lit≤}
use Rattle.std.specs.Prelude.{nat_lt, nat_le, ◌==◌}
use Rattle.std.proofs.lemmas.Bool.{ne_eqb, ltb-true, leb-true}
use Rattle.cw_i86.specs.Sums.{difference_flags}
use Rattle.cw_i86.specs.declared.flags.Flags.{Flags}
use Rattle.cw_i86.specs.declared.instr.Place.TheVariants as places
use Rattle.cw_run86.specs.Processor.{Processor, Told}
use Rattle.cw_run86.specs.Views.{word_difference}
use Rattle.cw_run86.proofs.Tests.{Finds}
use Rattle.cw_unit.specs.Stop.{DepthReached, FramesFull}
use Rattle.cw_routines.specs.Ways.{QuietAll, At, HasAll, HasWord, view, Leads, Within, Over}
use Rattle.cw_routines.specs.Results.{Stands, Tells, RecordIs, Entered, Begins, begin}
use Rattle.cw_routines.proofs.Arrive.{jumps_if, passes_if, jumps_if_none, passes_if_some}
use Rattle.cw_routines.proofs.Sources.{Register, Slot, InCode}
use Rattle.cw_routines.proofs.Acts as acts
use Rattle.cw_routines.proofs.Chains.{Load, Difference, DifferenceNumber, DoubleWord, LessOne, Push, PushFrom, done, onward, more, within, each_of, both}
use Rattle.cw_routines.proofs.Facts.{not_below, below}
use Rattle.cw_routines.proofs.Places.{to_place, depth_stands, frames_stands, enter_stop_stands}
use Rattle.cw_routines.proofs.Stops.{told_stops}
use Rattle.cw_routines.proofs.Begins.{tells_of, calls_there, rest_there, begun_stack, begun, none_left, not_within}

module _ (finds : Finds) (Quiet : ℕ → Type 0) (code : List ℕ) (stands : Stands code) (library : (k : ℕ) → k < 438 → Quiet k) where
  -- ---- the stop of the library

  stops_at_depth : (r segment : ℕ) {ax line bx sp bp si di : ℕ} {f : Flags} {cells stack : ℕ → ℕ} {input : List ℕ} {told : Told} {p : Processor} → Tells stack bp r segment → line < 65536
      → At code 430 (view ax 0 line bx sp bp si di cells stack input told) f p → Leads Quiet code told.output 12 p (Over told.output DepthReached segment line)
  stops_at_depth r segment {told = told} t small s =
      let h = enter_stop_stands code stands in
      more Quiet code told.output finds s (library 430 (lit< tt)) refl (to_place {to = 435} refl (jumps_if_none finds 3 h.0 refl s)) (λ q u.
      more Quiet code told.output finds u (library 435 (lit< tt)) refl (to_place {to = 83} refl (acts.near finds u 65181 h.1.1.0)) (λ q u.
      told_stops finds Quiet code stands library DepthReached 83 0xE0 r segment (depth_stands code stands) (lit≤ tt) refl t small u))

  stops_at_frames : (r segment : ℕ) {ax cx line bx sp bp si di : ℕ} {f : Flags} {cells stack : ℕ → ℕ} {input : List ℕ} {told : Told} {p : Processor} → Tells stack bp r segment → line < 65536
      → (cx == 0) ≡ false
      → At code 430 (view ax cx line bx sp bp si di cells stack input told) f p → Leads Quiet code told.output 12 p (Over told.output FramesFull segment line)
  stops_at_frames r segment {told = told} t small some s =
      let h = enter_stop_stands code stands in
      more Quiet code told.output finds s (library 430 (lit< tt)) refl (passes_if_some finds 3 h.0 some s) (λ q u.
      more Quiet code told.output finds u (library 432 (lit< tt)) refl (to_place {to = 87} refl (acts.near finds u 65188 h.1.0)) (λ q u.
      told_stops finds Quiet code stands library FramesFull 87 0xDC r segment (frames_stands code stands) (lit≤ tt) refl t small u))

  -- ---- the code

  pub begins_framed : (m at line r segment calls base rest number size place by : ℕ) {ax cx bx bp si area : ℕ} {f : Flags} {cells stack : ℕ → ℕ} {input : List ℕ} {told : Told} {p : Processor}
      → m + 4 < 32767 → line < 65536 → calls < 65536 → number < 256 → size < 65536 → rest ≤ area → area ≤ 32768 → RecordIs stack bp r segment calls base rest
      → (at + 22 + by) % 65536 ≡ 430 → HasWord code place number → QuietAll Quiet at (begin size place by) → HasAll code at (begin size place by)
      → At code at (view ax cx line bx (2 * suc (m + 4)) bp si area cells stack input told) f p
      → Leads Quiet code told.output 1 p (λ q. Within Quiet code told.output 20 q (Begins code told.output (nat_lt 0 calls) (nat_le size rest) line segment
      (Entered code (at + 34) m bp number (calls - 1) (2 * (area - rest) % 65536) (rest - size) area cells stack input told)))
  begins_framed m at line r segment calls base rest number size place by {ax} {cx} {bx} {bp} {si} {area} {f} {cells} {stack} {input} {told} {p} low small few byte size_small rest_low area_low i there named silent h s = onward Quiet code told.output (λ q u. cases (nat_lt 0 calls) refl u) first
    where
      inside : at + 22 < 65536
      inside = let fits = s.sees.fits in let end = h.1.1.1.1.1.1.1.1.1.0.within in omega arith

      -- the way to the stop
      to_stop : {ax cx bx : ℕ} {g : Flags} {q : Processor} → At code (at + 3 + 2 + 3 + 2 + 2 + 2 + 3 + 2) (view ax cx line bx (2 * suc (m + 4)) bp si area cells stack input told) g q
          → {n : ℕ} {T : Processor → Type 0} → ((u : Processor) → At code 430 (view ax cx line bx (2 * suc (m + 4)) bp si area cells stack input told) g u → Leads Quiet code told.output n u T)
          → Leads Quiet code told.output (suc n) q T
      to_stop u on =
          let here : (at + 3 + 2 + 3 + 2 + 2 + 2 + 3 + 2) % 65536 ≡ at + 3 + 2 + 3 + 2 + 2 + 2 + 3 + 2 = (let lt = inside in omega arith) in
          let stop : (at + 3 + 2 + 3 + 2 + 2 + 2 + 3 + 2 + 3 + by) % 65536 ≡ 430 % 65536 = omega arith in
          more Quiet code told.output finds u (subst Quiet (sym here) silent.1.1.1.1.1.1.1.1.0) refl (to_place {to = 430} stop (acts.near finds u by h.1.1.1.1.1.1.1.1.0)) on

      -- the calls that are left
      first : Leads Quiet code told.output 1 p (λ q. At code (at + 3) (view ax calls line bx (2 * suc (m + 4)) bp si area cells stack input told) f q)
      first =
          let c = calls_there i in
          each_of Quiet code told.output finds (Load 1 (Slot (places.Near 6 0xFC) (r + 2) calls) ∷ []) {n = 0} (silent.0, tt) refl (h.0, tt)
          ((refl, c.0, c.1, i.left), tt) s (λ q u. done Quiet code told.output u)

      here3 : (at + 3) % 65536 ≡ at + 3
      here3 = let lt = inside in omega arith

      -- where there is one, the words of the frame are taken from those that are left
      taken : {q : Processor} → (calls == 0) ≡ false → At code (at + 3) (view ax calls line bx (2 * suc (m + 4)) bp si area cells stack input told) f q
          → Leads Quiet code told.output 6 q (λ q. At code (at + 3 + 2 + 3 + 2 + 2 + 2 + 3)
          (view (word_difference rest size) calls line (2 * word_difference area rest % 65536) (2 * suc (m + 4)) bp si area cells stack input told) (difference_flags 32768 rest size false) q)
      taken some u =
          let b = rest_there i in
          let g = h.1.1 in
          let z = silent.1.1 in
          more Quiet code told.output finds u (subst Quiet (sym here3) silent.1.0) refl (passes_if_some finds 14 h.1.0 some u) (λ q u.
          each_of Quiet code told.output finds (Load 0 (Slot (places.Near 6 0xF8) r rest) ∷ Load 3 (Register 7) ∷ Difference 3 (Register 0) ∷ DoubleWord 3 ∷ DifferenceNumber size ∷ []) {n = 0}
          (z.0, (z.1.0, (z.1.1.0, (z.1.1.1.0, (z.1.1.1.1.0, tt))))) refl (g.0, (g.1.0, (g.1.1.0, (g.1.1.1.0, (g.1.1.1.1.0, tt)))))
          ((refl, b.0, b.1, i.rest_is), (tt, (tt, (tt, (tt, tt)))))
          u (λ q u. done Quiet code told.output u))

      here17 : (at + 3 + 2 + 3 + 2 + 2 + 2 + 3) % 65536 ≡ at + 3 + 2 + 3 + 2 + 2 + 2 + 3
      here17 = let lt = inside in omega arith

      by_frame : {q : Processor} (b : Bool) → nat_le size rest ≡ b → 0 < calls → (calls == 0) ≡ false
          → At code (at + 3) (view ax calls line bx (2 * suc (m + 4)) bp si area cells stack input told) f q
          → Within Quiet code told.output 20 q (Begins code told.output true b line segment
          (Entered code (at + 34) m bp number (calls - 1) (2 * (area - rest) % 65536) (rest - size) area cells stack input told))
      by_frame false is one some v =
          within Quiet code told.output 20 20 (lit≤ tt)
          (both Quiet code told.output 6 14 (taken some v) (λ q u.
          more Quiet code told.output finds u (subst Quiet (sym here17) silent.1.1.1.1.1.1.1.0) refl
          (passes_if finds 3 3 h.1.1.1.1.1.1.1.0 (below rest size (not_within size rest is)) u) (λ q u.
          to_stop u (λ q u. stops_at_frames (r + 3) segment (tells_of i) small some u))))
      by_frame true is one some v =
          let le : size ≤ rest = leb-true size rest is in
          let g = h.1.1.1.1.1.1.1.1.1 in
          let z = silent.1.1.1.1.1.1.1.1.1 in
          let w = begun stack m bp number calls area rest size low byte one few le rest_low area_low in
          let past : (at + 3 + 2 + 3 + 2 + 2 + 2 + 3 + 2 + 3) % 65536 ≡ (at + 3 + 2 + 3 + 2 + 2 + 2 + 3 + 2 + 3) % 65536 = refl in
          let end : (at + 3 + 2 + 3 + 2 + 2 + 2 + 3 + 2 + 3 + 1 + 1 + 2 + 5 + 1 + 1 + 1) % 65536 ≡ (at + 34) % 65536 = (let e : at + 3 + 2 + 3 + 2 + 2 + 2 + 3 + 2 + 3 + 1 + 1 + 2 + 5 + 1 + 1 + 1 ≡ at + 34 = omega arith in ap (λ n. n % 65536) e) in
          within Quiet code told.output 14 20 (lit≤ tt)
          (both Quiet code told.output 6 8 (taken some v) (λ q u.
          more Quiet code told.output finds u (subst Quiet (sym here17) silent.1.1.1.1.1.1.1.0) refl
          (to_place {to = at + 3 + 2 + 3 + 2 + 2 + 2 + 3 + 2 + 3} past (jumps_if finds 3 3 h.1.1.1.1.1.1.1.0 (not_below rest size le) u)) (λ q u.
          each_of Quiet code told.output finds
          (LessOne 1 ∷ Push 5 (m + 4) ∷ Load 5 (Register 4) ∷ PushFrom (InCode (places.Direct place) place number) (m + 3) ∷ Push 1 (m + 2) ∷ Push 3 (m + 1) ∷ Push 0 m ∷ []) {n = 0}
          (z.0, (z.1.0, (z.1.1.0, (z.1.1.1.0, (z.1.1.1.1.0, (z.1.1.1.1.1.0, (z.1.1.1.1.1.1.0, tt))))))) refl
          (g.0, (g.1.0, (g.1.1.0, (g.1.1.1.0, (g.1.1.1.1.0, (g.1.1.1.1.1.0, (g.1.1.1.1.1.1.0, tt))))))) (tt, (w.slot4, (tt, (((refl, named), w.slot3.0, w.slot3.1), (w.slot2, (w.slot1, (w.slot0, tt))))))) u (λ q u.
          done Quiet code told.output (record {
            stack = begun_stack stack m bp number calls area rest size;
            here = record { ax = word_difference rest size; cx = word_difference calls 1; dx = line; bx = 2 * word_difference area rest % 65536; si = si; flags = _; is = to_place end u; answers = tt };
            record_is = w.record_is;
            caller = w.caller;
            above = w.above;
          })))))

      cases : {q : Processor} (b : Bool) → nat_lt 0 calls ≡ b → At code (at + 3) (view ax calls line bx (2 * suc (m + 4)) bp si area cells stack input told) f q
          → Within Quiet code told.output 20 q (Begins code told.output b (nat_le size rest) line segment
          (Entered code (at + 34) m bp number (calls - 1) (2 * (area - rest) % 65536) (rest - size) area cells stack input told))
      cases true is u = let some : 0 < calls = ltb-true 0 calls is in by_frame (nat_le size rest) refl some (ne_eqb calls 0 (λ e. omega arith)) u
      cases false is u =
          let none : calls ≡ 0 = none_left calls is in
          let stop : (at + 3 + 2 + 14) % 65536 ≡ (at + 3 + 2 + 3 + 2 + 2 + 2 + 3 + 2) % 65536 = (let e : at + 3 + 2 + 14 ≡ at + 3 + 2 + 3 + 2 + 2 + 2 + 3 + 2 = omega arith in ap (λ n. n % 65536) e) in
          within Quiet code told.output 14 20 (lit≤ tt)
          (more Quiet code told.output finds u (subst Quiet (sym here3) silent.1.0) refl (to_place {to = at + 3 + 2 + 3 + 2 + 2 + 2 + 3 + 2} stop (jumps_if_none finds 14 h.1.0 none u)) (λ q u.
          to_stop u (λ q u. stops_at_depth (r + 3) segment (tells_of i) small
          (subst (λ n. At code 430 (view ax n line bx (2 * suc (m + 4)) bp si area cells stack input told) f q) none u))))
