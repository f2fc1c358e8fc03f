-- The start of a body, the begin and the end of an activation, the next byte, and short pieces of the code of segments.
use Rattle.std.proofs.Common.{◌≡◌, ℕ, zero, suc, ◌+◌, ◌-◌, ◌*◌, ◌/◌, ◌%◌, ◌<◌, ◌≤◌, Bool, true, false, not, List, [], ◌∷◌, length, drop, refl, sym, ap, ◌∙◌, subst, arith, lit<, lit≤}
use Rattle.std.specs.Prelude.{nat_lt, nat_le, ◌==◌, if◌then◌else◌, bit_and, bit_or, slice_index, slice_set}
use Rattle.std.specs.Int.Bits.{or_self}
use Rattle.std.proofs.lemmas.Bool.{lt-ltb, le-ltb, ne_eqb, ltb-true, leb-true}
use Rattle.std.proofs.lemmas.Bool.Decides.{nat_tests}
use Rattle.cw_i86.specs.Sums.{difference_flags, logic_flags}
use Rattle.cw_i86.specs.Effect.{holds as meets, exchanged}
use Rattle.cw_i86.specs.State.{sign_extended, operand, with_operand, sized_register, with_sized_register}
use Rattle.cw_i86.specs.declared.instr.Instr.TheVariants as i86
use Rattle.cw_i86.specs.declared.flags.Flags.{Flags}
use Rattle.cw_i86.specs.declared.instr.Place.TheVariants as places
use Rattle.cw_run86.specs.Processor.{Processor, Told, processor_step}
use Rattle.cw_run86.specs.Views.{View, Has, Goes, register, on, with_register, put_word, word_difference}
use Rattle.cw_run86.proofs.Tests.{Finds}
use Rattle.cw_run86.proofs.Memory.{holds}
use Rattle.cw_run86.proofs.Goes.{goes, sees}
use Rattle.cw_unit.specs.Stop.{DepthReached, FramesFull}
use Rattle.cw_routines.specs.Ways.{QuietAll, At, HasAll, HasWord, view, Leads, Within, Back}
use Rattle.cw_routines.specs.Results.{Stands, Tells, RecordIs, Started, Entered, Begins, leave, divisor_test, next_word}
use Rattle.cw_routines.proofs.Arrive.{jumps_if, passes_if}
use Rattle.cw_routines.proofs.Sources.{Register, Slot, InCode}
use Rattle.cw_routines.proofs.Acts as acts
use Rattle.cw_routines.proofs.Chains.{Number, HighByte, Load, Difference, Either, DifferenceNumber, DoubleWord, SumShort, TestLow, Push, PushFrom, Pop, done, more, last, within, each_of, straight, both}
use Rattle.cw_routines.proofs.Facts.{put_at, put_off, tested_not_zero, carry, one_low}
use Rattle.cw_routines.proofs.Places.{to_place, start_stands, depth_stands, frames_stands, enter_stands, read_stands}
use Rattle.cw_routines.proofs.Stops.{told_stops, run}

-- the record tells the segment
pub tells_of : {stack : ℕ → ℕ} {bp r segment calls base rest : ℕ} → RecordIs stack bp r segment calls base rest → Tells stack bp (r + 3) segment
tells_of {bp = bp} {r = r} i =
    let there = i.there in
    let low = i.low in
    record { there = (let e : (bp + 65534) % 65536 ≡ 2 * (r + 3) = omega arith in e); low = (let e : r + 3 < 32768 = omega arith in e); number = i.number; few = i.few }

-- the slots of a record
pub calls_there : {stack : ℕ → ℕ} {bp r segment calls base rest : ℕ} → RecordIs stack bp r segment calls base rest → (r + 2 < 32768) × ((bp + 65532) % 65536 ≡ 2 * (r + 2))
calls_there i = let there = i.there in let low = i.low in (omega arith, omega arith)

pub rest_there : {stack : ℕ → ℕ} {bp r segment calls base rest : ℕ} → RecordIs stack bp r segment calls base rest → (r < 32768) × ((bp + 65528) % 65536 ≡ 2 * r)
rest_there i = let there = i.there in let low = i.low in (omega arith, omega arith)

-- four words on the stack
abbrev pub four : (ℕ → ℕ) → (n a b c d : ℕ) → ℕ → ℕ
four stack n a b c d = put_word (put_word (put_word (put_word stack (n + 3) a) (n + 2) b) (n + 1) c) n d

four_0 : (stack : ℕ → ℕ) (n a b c d : ℕ) → four stack n a b c d n ≡ d
four_0 stack n a b c d = put_at (put_word (put_word (put_word stack (n + 3) a) (n + 2) b) (n + 1) c) n d

four_1 : (stack : ℕ → ℕ) (n a b c d : ℕ) → four stack n a b c d (n + 1) ≡ c
four_1 stack n a b c d =
    put_off (put_word (put_word (put_word stack (n + 3) a) (n + 2) b) (n + 1) c) n d (n + 1) (λ e. omega arith) ∙ put_at (put_word (put_word stack (n + 3) a) (n + 2) b) (n + 1) c

four_2 : (stack : ℕ → ℕ) (n a b c d : ℕ) → four stack n a b c d (n + 2) ≡ b
four_2 stack n a b c d =
    put_off (put_word (put_word (put_word stack (n + 3) a) (n + 2) b) (n + 1) c) n d (n + 2) (λ e. omega arith)
    ∙ put_off (put_word (put_word stack (n + 3) a) (n + 2) b) (n + 1) c (n + 2) (λ e. omega arith) ∙ put_at (put_word stack (n + 3) a) (n + 2) b

four_3 : (stack : ℕ → ℕ) (n a b c d : ℕ) → four stack n a b c d (n + 3) ≡ a
four_3 stack n a b c d =
    put_off (put_word (put_word (put_word stack (n + 3) a) (n + 2) b) (n + 1) c) n d (n + 3) (λ e. omega arith)
    ∙ put_off (put_word (put_word stack (n + 3) a) (n + 2) b) (n + 1) c (n + 3) (λ e. omega arith)
    ∙ put_off (put_word stack (n + 3) a) (n + 2) b (n + 3) (λ e. omega arith) ∙ put_at stack (n + 3) a

pub four_above : (stack : ℕ → ℕ) (n a b c d k : ℕ) → n + 3 < k → four stack n a b c d k ≡ stack k
four_above stack n a b c d k lt =
    put_off (put_word (put_word (put_word stack (n + 3) a) (n + 2) b) (n + 1) c) n d k (λ e. omega arith)
    ∙ put_off (put_word (put_word stack (n + 3) a) (n + 2) b) (n + 1) c k (λ e. omega arith)
    ∙ put_off (put_word stack (n + 3) a) (n + 2) b k (λ e. omega arith) ∙ put_off stack (n + 3) a k (λ e. omega arith)

-- a new record on top
pub new_record : (stack : ℕ → ℕ) (n segment calls base rest : ℕ) → n < 32765 → segment < 256
    → RecordIs (four stack n segment calls base rest) (2 * (n + 4) % 65536) n segment calls base rest
new_record stack n segment calls base rest low few = record {
  there = refl;
  low = low;
  number = four_3 stack n segment calls base rest;
  few = few;
  left = four_2 stack n segment calls base rest;
  base_is = four_1 stack n segment calls base rest;
  rest_is = four_0 stack n segment calls base rest;
}

-- ---- the record of an activation that begins

-- its caller's record and four words come on the stack
abbrev pub begun_stack : (stack : ℕ → ℕ) (m bp number calls area rest size : ℕ) → ℕ → ℕ
begun_stack stack m bp number calls area rest size = four (put_word stack (m + 4) bp) m number (word_difference calls 1) (2 * word_difference area rest % 65536) (word_difference rest size)

-- the slots that they take, the record that they are, and what stays
pub record Begun (stack : ℕ → ℕ) (m bp number calls area rest size : ℕ) : Type 0 where
  pub slot4 : (m + 4 < 32768) × (2 * suc (m + 4) ≡ 2 * suc (m + 4) % 65536)
  pub slot3 : (m + 3 < 32768) × (2 * (m + 4) ≡ 2 * suc (m + 3) % 65536)
  pub slot2 : (m + 2 < 32768) × (2 * (m + 3) ≡ 2 * suc (m + 2) % 65536)
  pub slot1 : (m + 1 < 32768) × (2 * (m + 2) ≡ 2 * suc (m + 1) % 65536)
  pub slot0 : (m < 32768) × (2 * (m + 1) ≡ 2 * suc m % 65536)
  pub record_is : RecordIs (begun_stack stack m bp number calls area rest size) (2 * (m + 4)) m number (calls - 1) (2 * (area - rest) % 65536) (rest - size)
  pub caller : begun_stack stack m bp number calls area rest size (m + 4) ≡ bp
  pub above : (k : ℕ) → m + 4 < k → begun_stack stack m bp number calls area rest size k ≡ stack k

pub begun : (stack : ℕ → ℕ) (m bp number calls area rest size : ℕ) → m + 4 < 32767 → number < 256 → 0 < calls → calls < 65536 → size ≤ rest → rest ≤ area → area ≤ 32768
    → Begun stack m bp number calls area rest size
begun stack m bp number calls area rest size low byte some few le rest_low area_low =
    let left = word_difference calls 1 in
    let behind = word_difference rest size in
    let from = 2 * word_difference area rest % 65536 in
    let left_is : left ≡ calls - 1 = omega arith in
    let behind_is : behind ≡ rest - size = omega arith in
    let from_is : from ≡ 2 * (area - rest) % 65536 = omega arith in
    let low' : m < 32765 = omega arith in
    let bp_is : 2 * (m + 4) % 65536 ≡ 2 * (m + 4) = omega arith in
    let st = begun_stack stack m bp number calls area rest size in
    let e0 = new_record (put_word stack (m + 4) bp) m number left from behind low' byte in
    let e1 : RecordIs st (2 * (m + 4)) m number left from behind = subst (λ x. RecordIs st x m number left from behind) bp_is e0 in
    let e2 : RecordIs st (2 * (m + 4)) m number (calls - 1) from behind = subst (λ x. RecordIs st (2 * (m + 4)) m number x from behind) left_is e1 in
    let e3 : RecordIs st (2 * (m + 4)) m number (calls - 1) from (rest - size) = subst (λ x. RecordIs st (2 * (m + 4)) m number (calls - 1) from x) behind_is e2 in
    record {
      slot4 = (omega arith, omega arith);
      slot3 = (omega arith, omega arith);
      slot2 = (omega arith, omega arith);
      slot1 = (omega arith, omega arith);
      slot0 = (omega arith, omega arith);
      record_is = subst (λ x. RecordIs st (2 * (m + 4)) m number (calls - 1) x (rest - size)) from_is e3;
      caller = four_above (put_word stack (m + 4) bp) m number left from behind (m + 4) (omega arith) ∙ put_at stack (m + 4) bp;
      above = λ k lt. four_above (put_word stack (m + 4) bp) m number left from behind k (omega arith) ∙ put_off stack (m + 4) bp k (λ e. omega arith);
    }

pub none_left : (n : ℕ) → nat_lt 0 n ≡ false → n ≡ 0
none_left zero e = refl
none_left (suc n) e = absurd (grind (arith, nat_tests))

pub not_within : (a b : ℕ) → nat_le a b ≡ false → b < a
not_within a b e = grind (arith, nat_tests)

-- of AL and itself
none_low : (ax : ℕ) → (ax / 256 * 256 + 0) % 256 ≡ 0
none_low ax = omega arith

byte_low : (ax b : ℕ) → b < 256 → 0 * 256 + (ax / 256 * 256 + b) % 256 ≡ b
byte_low ax b lt = omega arith

tested_some : (w : ℕ) (f : Flags) → w % 256 ≡ 1 → meets (logic_flags 128 (bit_and (w % 256) (w % 256)) f) 5 ≡ true
unfolding meets
tested_some w f e = ap (λ n. not (bit_and n n == 0)) e

tested_none : (w : ℕ) (f : Flags) → w % 256 ≡ 0 → meets (logic_flags 128 (bit_and (w % 256) (w % 256)) f) 5 ≡ false
unfolding meets
tested_none w f e = ap (λ n. not (bit_and n n == 0)) e

module _ (finds : Finds) (Quiet : ℕ → Type 0) (code : List ℕ) (stands : Stands code) (library : (k : ℕ) → k < 438 → Quiet k) where
  quiet : {at : ℕ} (to : ℕ) → to ≤ 438 → (k : ℕ) → at ≤ k → k < to → Quiet k
  quiet {at} to le = run finds Quiet code stands library {at = at} to le

  -- ---- the start of a body

  word_within : (at by : ℕ) → at + by + 2 ≤ length code → length code ≤ 65536 → (at + by) % 65536 ≡ at + by
  word_within at by le fits = omega arith

  pub starts : (at n area frames calls segment : ℕ) {ax cx dx bx bp si di : ℕ} {f : Flags} {cells stack : ℕ → ℕ} {input : List ℕ} {told : Told} {p : Processor} → n < 32768
      → stack n ≡ at → frames ≤ area → area ≤ 32768 → segment < 256
      → HasWord code at area → HasWord code (at + 2) frames → HasWord code (at + 4) calls → HasWord code (at + 6) segment
      → At code 5 (view ax cx dx bx (2 * n) bp si di cells stack input told) f p → Leads Quiet code told.output 10 p (Started code at area frames calls segment cells input told)
  starts at n area frames calls segment {ax} {cx} {dx} {bx} {bp} {si} {di} {f} {cells} {stack} {input} {told} {p} lt is le low few d w2 w4 w6 s =
      let h = start_stands code stands in
      let fits = s.sees.fits in
      let in0 = d.within in
      let in2 = w2.within in
      let in4 = w4.within in
      let in6 = w6.within in
      let top : 2 * n ≡ 2 * n % 65536 = omega arith in
      let e2 = word_within at 2 in2 fits in
      let e4 = word_within at 4 in4 fits in
      let e6 = word_within at 6 in6 fits in
      straight Quiet code told.output finds
      (Pop 6 n at (2 * suc n % 65536) ∷ Number 5 0 ∷ Load 4 (Register 5) ∷ Load 7 (InCode (places.Plain 4) at area)
      ∷ PushFrom (InCode (places.Near 4 6) (at + 6) segment) 32767 ∷ PushFrom (InCode (places.Near 4 4) (at + 4) calls) 32766
      ∷ PushFrom (InCode (places.Near 4 2) (at + 2) frames) 32765 ∷ PushFrom (InCode (places.Near 4 2) (at + 2) frames) 32764 ∷ SumShort 6 8 ∷ []) {n = 1} (quiet 33 (lit≤ tt)) refl
      (h.0, (h.1.0, (h.1.1.0, (h.1.1.1.0, (h.1.1.1.1.0, (h.1.1.1.1.1.0, (h.1.1.1.1.1.1.0, (h.1.1.1.1.1.1.1.0, (h.1.1.1.1.1.1.1.1.0, tt))))))))) ((lt, top, is, refl), (tt, (tt, ((refl, d), (((e6, w6), lit< tt, refl), (((e4, w4), lit< tt, refl), (((e2, w2), lit< tt, refl), (((e2, w2), lit< tt, refl), (tt, tt))))))))) s (λ q u.
      last Quiet code told.output finds u (library 33 (lit< tt)) refl (record {
        stack = four stack 32764 segment calls frames frames;
        here = record { ax = ax; cx = cx; dx = dx; bx = bx; si = (at + 8) % 65536; flags = _; is = acts.jump_to finds u 6 (at + 8) h.1.1.1.1.1.1.1.1.1.0 refl; answers = tt };
        record_is = new_record stack 32764 segment calls frames frames (lit< tt) few;
      }))

  -- ---- the begin of an activation

  pub enters : (m at line r segment calls base rest number size : ℕ) {ax cx bx bp si area : ℕ} {f : Flags} {cells stack : ℕ → ℕ} {input : List ℕ} {told : Told} {p : Processor}
      → m + 4 < 32767 → stack (m + 4) ≡ at → HasWord code at size → HasWord code (at + 2) number → line < 65536
      → calls < 65536 → number < 256 → size < 65536 → rest ≤ area → area ≤ 32768 → RecordIs stack bp r segment calls base rest
      → At code 91 (view ax cx line bx (2 * (m + 4)) bp si area cells stack input told) f p
      → Within Quiet code told.output 18 p (Begins code told.output (nat_lt 0 calls) (nat_le size rest) line segment
      (Entered code (at + 4) m bp number (calls - 1) (2 * (area - rest) % 65536) (rest - size) area cells stack input told))
  enters m at line r segment calls base rest number size {ax} {cx} {bx} {bp} {si} {area} {f} {cells} {stack} {input} {told} {p} low there words names small few byte size_small rest_low area_low i s = cases (nat_lt 0 calls) refl
    where
      -- one of the calls that are left is taken
      first : Leads Quiet code told.output 3 p
          (λ q. At code 98 (view (word_difference calls 1) cx line bx (2 * suc (m + 4)) bp at area cells stack input told) (difference_flags 32768 calls 1 false) q)
      first =
          let h = enter_stands code stands in
          let c = calls_there i in
          let lt : m + 4 < 32768 = omega arith in
          let top : 2 * (m + 4) ≡ 2 * (m + 4) % 65536 = omega arith in
          let up : 2 * suc (m + 4) % 65536 ≡ 2 * suc (m + 4) = omega arith in
          straight Quiet code told.output finds (Pop 6 (m + 4) at (2 * suc (m + 4)) ∷ Load 0 (Slot (places.Near 6 0xFC) (r + 2) calls) ∷ DifferenceNumber 1 ∷ []) {n = 0}
          (quiet 98 (lit≤ tt)) refl (h.0, (h.1.0, (h.1.1.0, tt)))
          ((lt, top, there, up), ((refl, c.0, c.1, i.left), (tt, tt))) s (λ q u. done Quiet code told.output u)

      -- where there was one, the words of the frame are taken from those that are left
      taken : 0 < calls
          → Leads Quiet code told.output 6 p (λ q. At code 106 (view (word_difference calls 1) (word_difference rest size) line bx (2 * suc (m + 4)) bp at area cells stack input told)
          (difference_flags 32768 rest size false) q)
      taken some =
          let h = enter_stands code stands in
          let b = rest_there i in
          both Quiet code told.output 3 3 first (λ q u.
          more Quiet code told.output finds u (library 98 (lit< tt)) refl (passes_if finds 2 0xEF h.1.1.1.0 (carry calls 1 ∙ le-ltb calls 1 some) u) (λ q u.
          straight Quiet code told.output finds (Load 1 (Slot (places.Near 6 0xF8) r rest) ∷ Difference 1 (InCode (places.Plain 4) at size) ∷ []) {n = 0}
          (quiet 106 (lit≤ tt)) refl (h.1.1.1.1.0, (h.1.1.1.1.1.0, tt))
          ((refl, b.0, b.1, i.rest_is), ((refl, words), tt)) u (λ q u. done Quiet code told.output u)))

      by_frame : (b : Bool) → nat_le size rest ≡ b → 0 < calls
          → Within Quiet code told.output 18 p (Begins code told.output true b line segment
          (Entered code (at + 4) m bp number (calls - 1) (2 * (area - rest) % 65536) (rest - size) area cells stack input told))
      by_frame false is some =
          let h = enter_stands code stands in
          within Quiet code told.output 17 18 (lit≤ tt)
          (both Quiet code told.output 6 11 (taken some) (λ q u.
          more Quiet code told.output finds u (library 106 (lit< tt)) refl
          (to_place {to = 87} refl (jumps_if finds 2 0xEB h.1.1.1.1.1.1.0 (carry rest size ∙ lt-ltb rest size (not_within size rest is)) u)) (λ q u.
          told_stops finds Quiet code stands library FramesFull 87 0xDC (r + 3) segment (frames_stands code stands) (lit≤ tt) refl (tells_of i) small u)))
      by_frame true is some =
          let h = enter_stands code stands in
          let g = h.1.1.1.1.1.1.1 in
          let le : size ≤ rest = leb-true size rest is in
          let b = rest_there i in
          let fits = s.sees.fits in
          let in2 = names.within in
          let e2 = word_within at 2 in2 fits in
          let w = begun stack m bp number calls area rest size low byte some few le rest_low area_low in
          within Quiet code told.output 18 18 (lit≤ tt)
          (both Quiet code told.output 6 12 (taken some) (λ q u.
          more Quiet code told.output finds u (library 106 (lit< tt)) refl
          (passes_if finds 2 0xEB h.1.1.1.1.1.1.0 (carry rest size ∙ le-ltb rest size le) u) (λ q u.
          straight Quiet code told.output finds
          (Load 3 (Register 7) ∷ Difference 3 (Slot (places.Near 6 0xF8) r rest) ∷ DoubleWord 3
          ∷ Push 5 (m + 4) ∷ Load 5 (Register 4) ∷ PushFrom (InCode (places.Near 4 2) (at + 2) number) (m + 3) ∷ Push 0 (m + 2) ∷ Push 3 (m + 1) ∷ Push 1 m ∷ SumShort 6 4 ∷ []) {n = 1}
          (quiet 128 (lit≤ tt)) refl
          (g.0, (g.1.0, (g.1.1.0, (g.1.1.1.0, (g.1.1.1.1.0, (g.1.1.1.1.1.0, (g.1.1.1.1.1.1.0, (g.1.1.1.1.1.1.1.0, (g.1.1.1.1.1.1.1.1.0, (g.1.1.1.1.1.1.1.1.1.0, tt)))))))))) (tt, ((refl, b.0, b.1, i.rest_is), (tt, (w.slot4, (tt, (((e2, names), w.slot3.0, w.slot3.1), (w.slot2, (w.slot1, (w.slot0, (tt, tt)))))))))) u (λ q u.
          last Quiet code told.output finds u (library 128 (lit< tt)) refl (record {
            stack = begun_stack stack m bp number calls area rest size;
            here = record { ax = word_difference calls 1; cx = word_difference rest size; dx = line; bx = 2 * word_difference area rest % 65536; si = (at + 4) % 65536; flags = _; is = acts.jump_to finds u 6 (at + 4) g.1.1.1.1.1.1.1.1.1.1.0 refl; answers = tt };
            record_is = w.record_is;
            caller = w.caller;
            above = w.above;
          })))))

      cases : (b : Bool) → nat_lt 0 calls ≡ b
          → Within Quiet code told.output 18 p (Begins code told.output b (nat_le size rest) line segment
          (Entered code (at + 4) m bp number (calls - 1) (2 * (area - rest) % 65536) (rest - size) area cells stack input told))
      cases true is = by_frame (nat_le size rest) refl (ltb-true 0 calls is)
      cases false is =
          let h = enter_stands code stands in
          let none : calls < 1 = let z = none_left calls is in omega arith in
          within Quiet code told.output 14 18 (lit≤ tt)
          (both Quiet code told.output 3 11 first (λ q u.
          more Quiet code told.output finds u (library 98 (lit< tt)) refl (to_place {to = 83} refl (jumps_if finds 2 0xEF h.1.1.1.0 (carry calls 1 ∙ lt-ltb calls 1 none) u)) (λ q u.
          told_stops finds Quiet code stands library DepthReached 83 0xE0 (r + 3) segment (depth_stands code stands) (lit≤ tt) refl (tells_of i) small u)))

  -- ---- input

  pub reads_byte : (n back : ℕ) (rest_input : List ℕ) {ax cx dx bx bp si area : ℕ} {f : Flags} {cells stack : ℕ → ℕ} {told : Told} {p : Processor} → slice_index rest_input 0 < 256
      → n < 32767 → stack n ≡ back → back < 65536
      → At code 130 (view ax cx dx bx (2 * n) bp si area cells stack rest_input told) f p
      → Within Quiet code told.output 6 p (Back code back (2 * suc n) bp area cells stack (drop 1 rest_input) told (λ ax f. ax ≡ next_word rest_input))
  reads_byte n back [] {ax} {cx} {dx} {bx} {bp} {si} {area} {f} {cells} {stack} {told} {p} byte low there small s =
      let h = read_stands code stands in
      let whole : back ≡ back % 65536 = omega arith in
      let top : 2 * n ≡ 2 * n % 65536 = omega arith in
      let up : 2 * suc n % 65536 ≡ 2 * suc n = omega arith in
      let lt : n < 32768 = omega arith in
      within Quiet code told.output 5 6 (lit≤ tt)
      (more Quiet code told.output finds s (library 130 (lit< tt)) refl (acts.take finds s 0x11 h.0) (λ q u.
      straight Quiet code told.output finds (TestLow ∷ []) {n = 3} (quiet 134 (lit≤ tt)) refl (h.1.0, tt) (tt, tt) u (λ q u.
      more Quiet code told.output finds u (library 134 (lit< tt)) refl (jumps_if finds 5 5 h.1.1.0 (tested_some (ax / 256 * 256 + 1) f (one_low ax)) u) (λ q u.
      straight Quiet code told.output finds (Number 0 65535 ∷ []) {n = 1} (quiet 144 (lit≤ tt)) refl (h.1.1.1.1.1.1.0, tt) (tt, tt) u (λ q u.
      last Quiet code told.output finds u (library 144 (lit< tt)) refl
      (record { ax = 65535; cx = cx; dx = dx; bx = bx; si = si; flags = _; is = acts.return finds u n (2 * suc n) back h.1.1.1.1.1.1.1.0 lt top up (there ∙ whole); answers = refl }))))))
  reads_byte n back (b ∷ rest) {ax} {cx} {dx} {bx} {bp} {si} {area} {f} {cells} {stack} {told} {p} byte low there small s =
      let h = read_stands code stands in
      let whole : back ≡ back % 65536 = omega arith in
      let top : 2 * n ≡ 2 * n % 65536 = omega arith in
      let up : 2 * suc n % 65536 ≡ 2 * suc n = omega arith in
      let lt : n < 32768 = omega arith in
      let some : (length (b ∷ rest) == 0) ≡ false = ne_eqb (length (b ∷ rest)) 0 (λ e. omega arith) in
      within Quiet code told.output 6 6 (lit≤ tt)
      (more Quiet code told.output finds s (library 130 (lit< tt)) refl
      (subst (λ t. At code 132 (view (ax / 256 * 256 + (if t then 1 else 0)) cx dx bx (2 * n) bp si area cells stack (b ∷ rest) told) f (processor_step p)) some
      (acts.take finds s 0x11 h.0)) (λ q u.
      straight Quiet code told.output finds (TestLow ∷ []) {n = 4} (quiet 134 (lit≤ tt)) refl (h.1.0, tt) (tt, tt) u (λ q u.
      more Quiet code told.output finds u (library 134 (lit< tt)) refl (passes_if finds 5 5 h.1.1.0 (tested_none (ax / 256 * 256 + 0) f (none_low ax)) u) (λ q u.
      more Quiet code told.output finds u (library 136 (lit< tt)) refl (acts.take finds u 0x10 h.1.1.1.0) (λ q u.
      straight Quiet code told.output finds (HighByte 0 ∷ []) {n = 1} (quiet 140 (lit≤ tt)) refl (h.1.1.1.1.0, tt) (tt, tt) u (λ q u.
      last Quiet code told.output finds u (library 140 (lit< tt)) refl
      (record { ax = _; cx = cx; dx = dx; bx = bx; si = si; flags = _; is = acts.return finds u n (2 * suc n) back h.1.1.1.1.1.0 lt top up (there ∙ whole); answers = byte_low (ax / 256 * 256 + 0) b byte })))))))

-- ---- in the code of segments

module _ (finds : Finds) (Quiet : ℕ → Type 0) (code : List ℕ) where
  -- ---- the end of an activation

  -- at a place of a segment's code
  pub leaves_it : (at b words caller back : ℕ) {ax cx dx bx sp si di : ℕ} {f : Flags} {cells stack : ℕ → ℕ} {input : List ℕ} {told : Told} {p : Processor} → b + 1 < 32768
      → stack b ≡ caller → stack (b + 1) ≡ back → back < 65536 → HasAll code at (leave words)
      → QuietAll Quiet at (leave words) → At code at (view ax cx dx bx sp (2 * b) si di cells stack input told) f p
      → Leads Quiet code told.output 3 p (At code back (view ax cx dx bx (2 * (b + 2 + words) % 65536) caller si di cells stack input told) f)
  leaves_it at b words caller back {ax} {cx} {dx} {bx} {sp} {si} {di} {f} {cells} {stack} {input} {told} {p} low c r small h silent s =
      let lt : b < 32768 = omega arith in
      let top : 2 * b ≡ 2 * b % 65536 = omega arith in
      let up : 2 * suc b % 65536 ≡ 2 * suc b = omega arith in
      let next : suc b ≡ b + 1 = omega arith in
      let lt' : suc b < 32768 = omega arith in
      let top' : 2 * suc b ≡ 2 * suc b % 65536 = omega arith in
      let after : (2 * suc (suc b) + 2 * words) % 65536 ≡ 2 * (b + 2 + words) % 65536 = omega arith in
      let whole : back ≡ back % 65536 = omega arith in
      let fits = s.sees.fits in
      let within = h.1.1.0.within in
      let here : (at + 2 + 1) % 65536 ≡ at + 2 + 1 = omega arith in
      each_of Quiet code told.output finds (Load 4 (Register 5) ∷ Pop 5 b caller (2 * suc b) ∷ []) {n = 1} (silent.0, (silent.1.0, tt)) refl (h.0, (h.1.0, tt))
      (tt, ((lt, top, c, up), tt)) s (λ q u.
      last Quiet code told.output finds u (subst Quiet (sym here) silent.1.1.0) refl
      (acts.return_past finds u (suc b) (2 * words) (2 * (b + 2 + words) % 65536) back h.1.1.0 lt' top' after (ap stack next ∙ r ∙ whole)))

  -- ---- the test of a divisor

  remade : (f : ℕ → Flags) {at to ax cx dx x y sp bp si di : ℕ} {cells stack : ℕ → ℕ} {input : List ℕ} {told : Told} {p : Processor} → at ≡ to → x ≡ y
      → At code at (view ax cx dx x sp bp si di cells stack input told) (f x) p
      → At code to (view ax cx dx y sp bp si di cells stack input told) (f y) p
  remade f {at} {to} {ax} {cx} {dx} {x} {y} {sp} {bp} {si} {di} {cells} {stack} {input} {told} {p} e g s =
      subst (λ n. At code n (view ax cx dx y sp bp si di cells stack input told) (f y) p) e
      (subst (λ n. At code at (view ax cx dx n sp bp si di cells stack input told) (f n) p) g s)

  short_way : (by : ℕ) → by < 128 → sign_extended by ≡ by
  short_way by lt = ap (λ b. if b then by else by + 65280) (lt-ltb by 128 lt)

  pub tests : (at by : ℕ) {ax cx dx bx sp bp si di : ℕ} {f : Flags} {cells stack : ℕ → ℕ} {input : List ℕ} {told : Told} {p : Processor}
      → QuietAll Quiet at (divisor_test by) → HasAll code at (divisor_test by) → by < 128
      → At code at (view ax cx dx bx sp bp si di cells stack input told) f p
      → Leads Quiet code told.output 2 p (At code (if bx == 0 then at + 4 else at + 4 + by) (view ax cx dx bx sp bp si di cells stack input told) (logic_flags 32768 bx f))
  tests at by {ax} {cx} {dx} {bx} {sp} {bp} {si} {di} {f} {cells} {stack} {input} {told} {p} silent h small s = cases (bx == 0) refl
    where
      here : (at + 2) % 65536 ≡ at + 2
      here = let fits = s.sees.fits in let within = h.1.0.within in omega arith

      first : Leads Quiet code told.output 1 p (At code (at + 2) (view ax cx dx (bit_or bx bx) sp bp si di cells stack input told) (logic_flags 32768 (bit_or bx bx) f))
      first = each_of Quiet code told.output finds (Either 3 (Register 3) ∷ []) {n = 0} (silent.0, tt) refl (h.0, tt)
          (tt, tt) s (λ q u. done Quiet code told.output u)

      cases : (b : Bool) → (bx == 0) ≡ b
          → Leads Quiet code told.output 2 p (At code (if b then at + 4 else at + 4 + by) (view ax cx dx bx sp bp si di cells stack input told) (logic_flags 32768 bx f))
      cases true is =
          let there : at + 2 + 2 ≡ at + 4 = omega arith in
          both Quiet code told.output 1 1 first (λ q u.
          last Quiet code told.output finds u (subst Quiet (sym here) silent.1.0) refl
          (remade (λ n. logic_flags 32768 n f) there (or_self bx) (passes_if finds 5 by h.1.0 (tested_not_zero bx f ∙ ap not is) u)))
      cases false is =
          let there : at + 2 + 2 + sign_extended by ≡ at + 4 + by = ap (λ b. at + 2 + 2 + b) (short_way by small) ∙ (let e : at + 2 + 2 + by ≡ at + 4 + by = omega arith in e) in
          both Quiet code told.output 1 1 first (λ q u.
          last Quiet code told.output finds u (subst Quiet (sym here) silent.1.0) refl
          (remade (λ n. logic_flags 32768 n f) there (or_self bx) (jumps_if finds 5 by h.1.0 (tested_not_zero bx f ∙ ap not is) u)))

-- ---- AX and a register are exchanged

pub exchanges : Finds → (code : List ℕ) (v : View) (r : ℕ) → Has code v.place (i86.XchgAx r) → Goes code v (with_register 0 (register v r) (with_register r (register v 0) (on (i86.XchgAx r) v)))
unfolding exchanged operand with_operand sized_register with_sized_register
exchanges finds code v r has =
    goes finds code v _ _ has (omega arith)
    (λ p s. sees code v _ p _ s (holds code v p s) refl (ap (λ rs. slice_set (slice_set rs r (slice_index rs 0)) 0 (slice_index rs r)) s.registers) (ap (λ n. (n + 1) % 65536) s.place) s.overflow refl refl)
