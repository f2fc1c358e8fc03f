-- Instructions, one after another.
use Rattle.std.proofs.Common.{◌≡◌, ℕ, suc, ◌+◌, ◌*◌, ◌%◌, ◌<◌, ◌≤◌, Bool, true, false, not, ℤ, pos, unsigned_abs, int_rem, List, [], length, refl, ap, ap₂, ◌∙◌, subst, arith}
use Rattle.cw_track.proofs.Paths.{Path, stay, next}
use Rattle.cw_i86.specs.Effect.{holds}
use Rattle.cw_i86.specs.Encoding.{bytes_of}
use Rattle.cw_i86.specs.State.{sign_extended}
use Rattle.cw_i86.specs.declared.flags.Flags.{Flags}
use Rattle.cw_i86.specs.declared.instr.Instr.{Instr}
use Rattle.cw_i86.specs.declared.instr.Instr.TheVariants as i86
use Rattle.cw_i86.specs.declared.instr.Imm.TheVariants as imm
use Rattle.cw_i86.specs.declared.instr.Rm.TheVariants as rms
use Rattle.cw_run86.specs.Processor.{processor_step, Told, with_given}
use Rattle.cw_follow.proofs.Watched.{Watched, watched_step, watched_machine, over, step_silent, step_overlooks}
use Rattle.cw_follow.proofs.Standing.{Image, HasAt, Has, Ignores}
use Rattle.cw_word.specs.FixedPoint.{FitsWord, scaled_quotient}
use Rattle.cw_word.specs.Word.{unsigned}
use Rattle.cw_run86.specs.Views.{view as view_at, View, Sees, IsTop, register, on, with_place, with_register, with_result, with_cell, with_stack, with_told, sum_overflows, difference_overflows, word_sum, word_difference, with_overflow, with_other, with_memory, with_number, Compared, Compares, Comparison, condition_of, words_compare, double_overflows, compare as compare_of, sign_of, with_pair}
use Rattle.cw_unit.specs.Stop.{Running}
use Rattle.cw_unit.specs.Begun.{Begun}
use Rattle.cw_unit.specs.Behaviour.{Observation}
use Rattle.cw_image.specs.Begun.{lines_at}
use Rattle.std.specs.Prelude.{slice_index}
use Rattle.cw_tmpl.specs.Mnemonics.{slot, at_bx, entry_of_table}
use Rattle.cw_follow.specs.Showing.{shown_as}
use Rattle.cw_follow.proofs.Rows.{Rows}

-- the view at a place of the code
abbrev pub placed : ℕ → View → View
placed at v = with_place (at % 65536) v

-- the processor is at a place of the code, and all else is as the view says; nothing has been noted, and what begins at the next instruction
-- is overlooked where it is the first one of a block
pub record IsAt (first : Bool) (image : Image) (at : ℕ) (v : View) (p : Watched) : Type 0 where
  pub sees : Sees image.bytes (placed at v) p.processor
  pub ignores : Ignores image p.places
  pub overlooks : p.overlooks ≡ first
  pub silent : p.begun ≡ []

abbrev pub Is : Image → ℕ → View → Watched → Type 0
Is image at v p = IsAt false image at v p

pub over_is : (first : Bool) {image : Image} {at : ℕ} {v : View} {p : Watched} → Is image at v p → IsAt first image at v (over first p)
over_is first s = record { sees = s.sees; ignores = s.ignores; overlooks = refl; silent = s.silent }

abbrev pub at_work : List ℕ → Observation × List Begun
at_work output = (record { output = output; end = Running }, [])

-- so many instructions, on which the processor is at work and this output is shown and nothing noted, lead to one that is so
pub record Leads (output : List ℕ) (n : ℕ) (p : Watched) (Target : Watched → Type 0) : Type 0 where
  pub reached : Watched
  pub path : Path (λ o. o ≡ at_work output) watched_machine n p reached
  pub there : Target reached

-- a view with registers
abbrev pub view : (ax cx dx bx sp bp si di : ℕ) → (overflow : Bool) → (cells stack : ℕ → ℕ) → (input : List ℕ) → Told → View
view = view_at 0

-- the same, where the flags are those of two words that were compared
pub record IsCompared (image : Image) (at : ℕ) (v : View) (a b : ℕ) (p : Watched) : Type 0 where
  pub is : Is image at v p
  pub flags : Compared a b p.processor

-- ---- one instruction

-- behind an instruction at which no statement begins, or at which it is overlooked
pub silently : {image : Image} {at : ℕ} {v : View} {p : Watched} {first : Bool} (i : Instr) → HasAt first image (at % 65536) i → IsAt first image at v p → (watched_step p).begun ≡ []
silently {at = at} {p = p} {first = true} i h s = step_overlooks p s.overlooks s.silent
silently {image = image} {at = at} {p = p} {first = false} i h s = step_silent p (ap₂ lines_at s.ignores.told s.sees.place ∙ h.free refl) s.silent

pub went : {image : Image} {at to : ℕ} {v u : View} {p : Watched} {first : Bool} (i : Instr) → HasAt first image (at % 65536) i → IsAt first image at v p → Sees image.bytes (placed to u) (processor_step p.processor) → Is image to u (watched_step p)
unfolding watched_step
went i h s sees = record { sees = sees; ignores = s.ignores; overlooks = refl; silent = silently i h s }

-- past it, at the place behind it
pub moved : {image : Image} {v : View} {p : Watched} {first : Bool} (at : ℕ) (i : Instr) (u : View) → HasAt first image (at % 65536) i → IsAt first image at v p → Sees image.bytes (with_place ((at % 65536 + length (bytes_of i)) % 65536) u) (processor_step p.processor) → Is image (at + length (bytes_of i)) u (watched_step p)
moved {image} {p = p} at i u h s sees =
    let l = length (bytes_of i) in
    let e : (at % 65536 + l) % 65536 ≡ (at + l) % 65536 = omega arith in
    went i h s (subst (λ n. Sees image.bytes (with_place n u) (processor_step p.processor)) e sees)

-- an instruction that stands in the code stands below 65,536
pub below : {image : Image} {at : ℕ} {v : View} {p : Watched} {first second : Bool} (i : Instr) → 0 < length (bytes_of i) → HasAt first image at i → IsAt second image at v p → at < 65536
below {image} {at} {v} {p} i some h s =
    let within = h.there.within in
    let fits = s.sees.fits in
    omega arith

pub has : {image : Image} {at : ℕ} {v : View} {p : Watched} {first second : Bool} (i : Instr) → 0 < length (bytes_of i) → HasAt first image at i → IsAt second image at v p → HasAt first image (at % 65536) i
has {image} {at} {v} {p} {first = first} i some h s =
    let lt : at < 65536 = below i some h s in
    let e : at ≡ at % 65536 = omega arith in
    subst (λ n. HasAt first image n i) e h

pub seen : {image : Image} {at to : ℕ} {v w : View} {p : Watched} {first : Bool} → at ≡ to → v ≡ w → IsAt first image at v p → IsAt first image to w p
seen {image} {at} {to} {v} {w} {p} {first = first} ea ev s = subst (λ n. IsAt first image n w p) ea (subst (λ u. IsAt first image at u p) ev s)

pub to_place : {image : Image} {at to : ℕ} {v : View} {p : Watched} {first : Bool} → at % 65536 ≡ to % 65536 → IsAt first image at v p → IsAt first image to v p
to_place {image} {at} {to} {v} {p} e s = record { sees = subst (λ n. Sees image.bytes (with_place n v) p.processor) e s.sees; ignores = s.ignores; overlooks = s.overlooks; silent = s.silent }

-- the conditions of JNZ and JNLE are the opposites of those of JZ and JLE
pub not_zero : (f : Flags) → holds f 5 ≡ not (holds f 4)
unfolding holds
not_zero f = refl

pub not_at_most : (f : Flags) → holds f 15 ≡ not (holds f 14)
unfolding holds
not_at_most f = refl

module _ (rows : Rows) where
  pub number : {image : Image} {at : ℕ} {v : View} {p : Watched} {first : Bool} (r w : ℕ) → HasAt first image at (i86.MovImm r (imm.Word w)) → IsAt first image at v p → Is image (at + 3) (with_register r w v) (watched_step p)
  number {image} {at} {v} {p} r w h s =
      let i = i86.MovImm r (imm.Word w) in
      let here = has i (omega arith) h s in
      moved at i (with_register r w v) here s (rows.number image.bytes (placed at v) r w here.there p.processor s.sees)

  pub move : {image : Image} {at : ℕ} {v : View} {p : Watched} {first : Bool} (r q : ℕ) → HasAt first image at (i86.Mov true true r (rms.Reg q)) → IsAt first image at v p → Is image (at + 2) (with_register r (register v q) v) (watched_step p)
  move {image} {at} {v} {p} r q h s =
      let i = i86.Mov true true r (rms.Reg q) in
      let here = has i (omega arith) h s in
      moved at i (with_register r (register v q) v) here s (rows.move image.bytes (placed at v) r q here.there p.processor s.sees)

  pub exchange : {image : Image} {at : ℕ} {v : View} {p : Watched} {first : Bool} → HasAt first image at (i86.XchgAx 3) → IsAt first image at v p → Is image (at + 1) (with_register 0 (register v 3) (with_register 3 (register v 0) v)) (watched_step p)
  exchange {image} {at} {v} {p} h s =
      let i = i86.XchgAx 3 in
      let here = has i (omega arith) h s in
      moved at i (with_register 0 (register v 3) (with_register 3 (register v 0) v)) here s (rows.exchange image.bytes (placed at v) 3 here.there p.processor s.sees)

  pub push : {image : Image} {at : ℕ} {v : View} {p : Watched} {first : Bool} (r n : ℕ) → n < 32768 → IsTop v (suc n) → HasAt first image at (i86.Push r) → IsAt first image at v p → Is image (at + 1) (with_register 4 (2 * n) (with_stack n (register v r) v)) (watched_step p)
  push {image} {at} {v} {p} r n lt top h s =
      let i = i86.Push r in
      let here = has i (omega arith) h s in
      moved at i (with_register 4 (2 * n) (with_stack n (register v r) v)) here s (rows.push image.bytes (placed at v) r n here.there lt top p.processor s.sees)

  pub pop : {image : Image} {at : ℕ} {v : View} {p : Watched} {first : Bool} (r n m : ℕ) → n < 32768 → IsTop v n → 2 * suc n % 65536 ≡ m → HasAt first image at (i86.Pop r) → IsAt first image at v p → Is image (at + 1) (with_register r (v.stack n) (with_register 4 m v)) (watched_step p)
  pop {image} {at} {v} {p} r n m lt top e h s =
      let i = i86.Pop r in
      let here = has i (omega arith) h s in
      moved at i (with_register r (v.stack n) (with_register 4 m v)) here s
      (subst (λ x. Sees image.bytes (with_register r (v.stack n) (with_register 4 x (on i (placed at v)))) (processor_step p.processor)) e (rows.pop image.bytes (placed at v) r n here.there lt top p.processor s.sees))

  pub load : {image : Image} {at : ℕ} {v : View} {p : Watched} {first : Bool} (r k : ℕ) → k < 32768 → register v 3 ≡ 2 * k → HasAt first image at (i86.Mov true true r at_bx) → IsAt first image at v p → Is image (at + 2) (with_register r (v.cells k) v) (watched_step p)
  load {image} {at} {v} {p} r k lt e h s =
      let i = i86.Mov true true r at_bx in
      let here = has i (omega arith) h s in
      moved at i (with_register r (v.cells k) v) here s (rows.load image.bytes (placed at v) r k here.there lt e p.processor s.sees)

  pub store : {image : Image} {at : ℕ} {v : View} {p : Watched} {first : Bool} (r k : ℕ) → k < 32768 → register v 3 ≡ 2 * k → HasAt first image at (i86.Mov true false r at_bx) → IsAt first image at v p → Is image (at + 2) (with_cell k (register v r) v) (watched_step p)
  store {image} {at} {v} {p} r k lt e h s =
      let i = i86.Mov true false r at_bx in
      let here = has i (omega arith) h s in
      moved at i (with_cell k (register v r) v) here s (rows.store image.bytes (placed at v) r k here.there lt e p.processor s.sees)

  pub double : {image : Image} {at : ℕ} {v : View} {p : Watched} {first : Bool} (r : ℕ) → register v r < 32768 → HasAt first image at (i86.Shift 4 true false (rms.Reg r)) → IsAt first image at v p → Is image (at + 2) (with_result r (2 * register v r) (double_overflows (register v r)) v) (watched_step p)
  double {image} {at} {v} {p} r lt h s =
      let i = i86.Shift 4 true false (rms.Reg r) in
      let here = has i (omega arith) h s in
      moved at i (with_result r (2 * register v r) (double_overflows (register v r)) v) here s (rows.double image.bytes (placed at v) r here.there lt p.processor s.sees)

  pub near : {image : Image} {at : ℕ} {v : View} {p : Watched} {first : Bool} (by : ℕ) → HasAt first image at (i86.Jump by) → IsAt first image at v p → Is image (at + 3 + by) v (watched_step p)
  near {image} {at} {v} {p} by h s =
      let i = i86.Jump by in
      let e : (at % 65536 + 3 + by) % 65536 ≡ (at + 3 + by) % 65536 = omega arith in
      let here = has i (omega arith) h s in
      went i here s (subst (λ n. Sees image.bytes (with_place n v) (processor_step p.processor)) e (rows.near image.bytes (placed at v) by here.there p.processor s.sees))

  pub short : {image : Image} {at : ℕ} {v : View} {p : Watched} {first : Bool} (by : ℕ) → HasAt first image at (i86.JumpShort by) → IsAt first image at v p → Is image (at + 2 + sign_extended by) v (watched_step p)
  short {image} {at} {v} {p} by h s =
      let i = i86.JumpShort by in
      let x = sign_extended by in
      let e : (at % 65536 + 2 + x) % 65536 ≡ (at + 2 + x) % 65536 = omega arith in
      let here = has i (omega arith) h s in
      went i here s (subst (λ n. Sees image.bytes (with_place n v) (processor_step p.processor)) e (rows.short image.bytes (placed at v) by here.there p.processor s.sees))

  pub no_overflow : {image : Image} {at : ℕ} {v : View} {p : Watched} {first : Bool} (by : ℕ) → v.overflow ≡ false → HasAt first image at (i86.JumpIf 1 by) → IsAt first image at v p → Is image (at + 2 + sign_extended by) v (watched_step p)
  no_overflow {image} {at} {v} {p} by off h s =
      let i = i86.JumpIf 1 by in
      let x = sign_extended by in
      let e : (at % 65536 + 2 + x) % 65536 ≡ (at + 2 + x) % 65536 = omega arith in
      let here = has i (omega arith) h s in
      went i here s (subst (λ n. Sees image.bytes (with_place n v) (processor_step p.processor)) e (rows.no_overflow image.bytes (placed at v) by here.there off p.processor s.sees))

  pub passes : {image : Image} {at : ℕ} {v : View} {p : Watched} {first : Bool} (by : ℕ) → v.overflow ≡ true → HasAt first image at (i86.JumpIf 1 by) → IsAt first image at v p → Is image (at + 2) v (watched_step p)
  passes {image} {at} {v} {p} by on h s =
      let i = i86.JumpIf 1 by in
      let here = has i (omega arith) h s in
      moved at i v here s (rows.passes image.bytes (placed at v) by here.there on p.processor s.sees)

  -- ---- words at offsets, and numbers

  pub load_at : {image : Image} {at : ℕ} {v : View} {p : Watched} {first : Bool} (offset k : ℕ) → k < 32768 → offset ≡ 2 * k → HasAt first image at (i86.MovAcc false true false offset) → IsAt first image at v p → Is image (at + 3) (with_register 0 (v.cells k) v) (watched_step p)
  load_at {image} {at} {v} {p} offset k lt e h s =
      let i = i86.MovAcc false true false offset in
      let here = has i (omega arith) h s in
      moved at i (with_register 0 (v.cells k) v) here s (rows.load_at image.bytes (placed at v) offset k here.there lt e p.processor s.sees)

  pub store_at : {image : Image} {at : ℕ} {v : View} {p : Watched} {first : Bool} (offset k : ℕ) → k < 32768 → offset ≡ 2 * k → HasAt first image at (i86.MovAcc false true true offset) → IsAt first image at v p → Is image (at + 3) (with_cell k (register v 0) v) (watched_step p)
  store_at {image} {at} {v} {p} offset k lt e h s =
      let i = i86.MovAcc false true true offset in
      let here = has i (omega arith) h s in
      moved at i (with_cell k (register v 0) v) here s (rows.store_at image.bytes (placed at v) offset k here.there lt e p.processor s.sees)

  pub add_at : {image : Image} {at : ℕ} {v : View} {p : Watched} {first : Bool} (r offset k : ℕ) → k < 32768 → offset ≡ 2 * k → HasAt first image at (with_memory 0 r offset) → IsAt first image at v p → Is image (at + 4) (with_result r (word_sum (register v r) (v.cells k)) (sum_overflows (register v r) (v.cells k)) v) (watched_step p)
  add_at {image} {at} {v} {p} r offset k lt e h s =
      let i = with_memory 0 r offset in
      let here = has i (omega arith) h s in
      moved at i (with_result r (word_sum (register v r) (v.cells k)) (sum_overflows (register v r) (v.cells k)) v) here s (rows.add_at image.bytes (placed at v) r offset k here.there lt e p.processor s.sees)

  pub subtract_number : {image : Image} {at : ℕ} {v : View} {p : Watched} {first : Bool} (w : ℕ) → HasAt first image at (with_number 5 w) → IsAt first image at v p → Is image (at + 3) (with_result 0 (word_difference (register v 0) w) (difference_overflows (register v 0) w) v) (watched_step p)
  subtract_number {image} {at} {v} {p} w h s =
      let i = with_number 5 w in
      let here = has i (omega arith) h s in
      moved at i (with_result 0 (word_difference (register v 0) w) (difference_overflows (register v 0) w) v) here s (rows.subtract_number image.bytes (placed at v) w here.there p.processor s.sees)

  -- AX divided behind CWD by a number in BX
  pub divided : {image : Image} {at : ℕ} {v : View} {p : Watched} {first : Bool} (x n : ℤ) → HasAt first image at (i86.Unary 7 true (rms.Reg 3)) → FitsWord x → FitsWord n → 2 ≤ unsigned_abs n → register v 0 ≡ unsigned x → register v 2 ≡ sign_of (unsigned x) → register v 3 ≡ unsigned n → IsAt first image at v p
      → Is image (at + 2) (with_pair (unsigned (scaled_quotient x n (pos 0))) (unsigned (int_rem x n)) v) (watched_step p)
  divided {image} {at} {v} {p} x n h fx fn two low high by s =
      let i = i86.Unary 7 true (rms.Reg 3) in
      let here = has i (omega arith) h s in
      moved at i (with_pair (unsigned (scaled_quotient x n (pos 0))) (unsigned (int_rem x n)) v) here s (rows.quotient image.bytes (placed at v) 3 x n here.there fx fn two low high by p.processor s.sees)

  -- ---- comparisons

  compares : {image : Image} {at : ℕ} {v : View} {p : Watched} {first : Bool} {a b : ℕ} (i : Instr) → HasAt first image (at % 65536) i → Compares image.bytes a b i (placed at v) → IsAt first image at v p → IsCompared image (at + length (bytes_of i)) (with_overflow (difference_overflows a b) v) a b (watched_step p)
  unfolding watched_step
  compares {image} {at} {v} {p} {a} {b} i here c s =
      let both = c p.processor s.sees in
      record { is = moved at i (with_overflow (difference_overflows a b) v) here s both.0; flags = both.1 }

  pub compare : {image : Image} {at : ℕ} {v : View} {p : Watched} {first : Bool} (r q : ℕ) → HasAt first image at (with_other 7 r q) → IsAt first image at v p → IsCompared image (at + 2) (with_overflow (difference_overflows (register v r) (register v q)) v) (register v r) (register v q) (watched_step p)
  compare {image} {at} {v} r q h s =
      let here = has (with_other 7 r q) (omega arith) h s in
      compares (with_other 7 r q) here (rows.compare image.bytes (placed at v) r q here.there) s

  pub compare_number : {image : Image} {at : ℕ} {v : View} {p : Watched} {first : Bool} (w : ℕ) → HasAt first image at (with_number 7 w) → IsAt first image at v p → IsCompared image (at + 3) (with_overflow (difference_overflows (register v 0) w) v) (register v 0) w (watched_step p)
  compare_number {image} {at} {v} w h s =
      let here = has (with_number 7 w) (omega arith) h s in
      compares (with_number 7 w) here (rows.compare_number image.bytes (placed at v) w here.there) s

  pub compared_jumps : {image : Image} {at : ℕ} {v : View} {p : Watched} {a b : ℕ} (c : Comparison) (by : ℕ) → a < 65536 → b < 65536 → words_compare c a b ≡ true → Has image at (i86.JumpIf (condition_of c) by) → IsCompared image at v a b p → Is image (at + 2 + sign_extended by) v (watched_step p)
  compared_jumps {image} {at} {v} {p} {a} {b} c by la lb holds h s =
      let i = i86.JumpIf (condition_of c) by in
      let x = sign_extended by in
      let e : (at % 65536 + 2 + x) % 65536 ≡ (at + 2 + x) % 65536 = omega arith in
      let here = has i (omega arith) h s.is in
      went i here s.is (subst (λ n. Sees image.bytes (with_place n v) (processor_step p.processor)) e (rows.compared_jumps image.bytes (placed at v) c by a b p.processor here.there la lb holds s.is.sees s.flags))

  pub compared_passes : {image : Image} {at : ℕ} {v : View} {p : Watched} {a b : ℕ} (c : Comparison) (by : ℕ) → a < 65536 → b < 65536 → words_compare c a b ≡ false → Has image at (i86.JumpIf (condition_of c) by) → IsCompared image at v a b p → Is image (at + 2) v (watched_step p)
  compared_passes {image} {at} {v} {p} {a} {b} c by la lb fails h s =
      let i = i86.JumpIf (condition_of c) by in
      let here = has i (omega arith) h s.is in
      moved at i v here s.is (rows.compared_passes image.bytes (placed at v) c by a b p.processor here.there la lb fails s.is.sees s.flags)

  pub jump_below : {image : Image} {at : ℕ} {v : View} {p : Watched} {a b : ℕ} (by : ℕ) → a < b → Has image at (i86.JumpIf 2 by) → IsCompared image at v a b p → Is image (at + 2 + sign_extended by) v (watched_step p)
  jump_below {image} {at} {v} {p} {a} {b} by lt h s =
      let i = i86.JumpIf 2 by in
      let x = sign_extended by in
      let e : (at % 65536 + 2 + x) % 65536 ≡ (at + 2 + x) % 65536 = omega arith in
      let here = has i (omega arith) h s.is in
      went i here s.is (subst (λ n. Sees image.bytes (with_place n v) (processor_step p.processor)) e (rows.jumps_below image.bytes (placed at v) by a b p.processor here.there lt s.is.sees s.flags))

  pub pass_above : {image : Image} {at : ℕ} {v : View} {p : Watched} {a b : ℕ} (by : ℕ) → b ≤ a → Has image at (i86.JumpIf 2 by) → IsCompared image at v a b p → Is image (at + 2) v (watched_step p)
  pass_above {image} {at} {v} {p} {a} {b} by le h s =
      let i = i86.JumpIf 2 by in
      let here = has i (omega arith) h s.is in
      moved at i v here s.is (rows.passes_above image.bytes (placed at v) by a b p.processor here.there le s.is.sees s.flags)

  pub jump_if : {image : Image} {at : ℕ} {v : View} {p : Watched} {first : Bool} (condition by : ℕ) → holds p.processor.state.flags condition ≡ true → HasAt first image at (i86.JumpIf condition by) → IsAt first image at v p
      → Is image (at + 2 + sign_extended by) v (watched_step p)
  jump_if {image} {at} {v} {p} condition by is h s =
      let i = i86.JumpIf condition by in
      let x = sign_extended by in
      let e : (at % 65536 + 2 + x) % 65536 ≡ (at + 2 + x) % 65536 = omega arith in
      let here = has i (omega arith) h s in
      went i here s (subst (λ n. Sees image.bytes (with_place n v) (processor_step p.processor)) e (rows.jumps_if image.bytes (placed at v) condition by p.processor here.there s.sees is).0)

  pub pass_if : {image : Image} {at : ℕ} {v : View} {p : Watched} {first : Bool} (condition by : ℕ) → holds p.processor.state.flags condition ≡ false → HasAt first image at (i86.JumpIf condition by) → IsAt first image at v p
      → Is image (at + 2) v (watched_step p)
  pass_if {image} {at} {v} {p} condition by is h s =
      let i = i86.JumpIf condition by in
      let here = has i (omega arith) h s in
      moved at i v here s (rows.passes_if image.bytes (placed at v) condition by p.processor here.there s.sees is).0

  -- jumps where the overflow flag is set
  overflow_holds : {image : Image} {at : ℕ} {v : View} {p : Watched} {first : Bool} → IsAt first image at v p → holds p.processor.state.flags 0 ≡ v.overflow
  unfolding holds
  overflow_holds s = s.sees.overflow

  pub jump_overflow : {image : Image} {at : ℕ} {v : View} {p : Watched} {first : Bool} (by : ℕ) → v.overflow ≡ true → HasAt first image at (i86.JumpIf 0 by) → IsAt first image at v p → Is image (at + 2 + sign_extended by) v (watched_step p)
  jump_overflow by on h s = jump_if 0 by (overflow_holds s ∙ on) h s

  pub pass_overflow : {image : Image} {at : ℕ} {v : View} {p : Watched} {first : Bool} (by : ℕ) → v.overflow ≡ false → HasAt first image at (i86.JumpIf 0 by) → IsAt first image at v p → Is image (at + 2) v (watched_step p)
  pass_overflow by off h s = pass_if 0 by (overflow_holds s ∙ off) h s

  pub jumps_below : {image : Image} {at : ℕ} {v : View} {p : Watched} {first : Bool} (r q by : ℕ) → register v r < register v q
      → HasAt first image at (compare_of r q) → Has image (at + 2) (i86.JumpIf 2 by) → IsAt first image at v p → Is image (at + 2 + 2 + sign_extended by) (with_overflow (difference_overflows (register v r) (register v q)) v) (watched_step (watched_step p))
  jumps_below r q by lt h j s = jump_below by lt j (compare r q h s)

  pub passes_above : {image : Image} {at : ℕ} {v : View} {p : Watched} {first : Bool} (r q by : ℕ) → register v q ≤ register v r
      → HasAt first image at (compare_of r q) → Has image (at + 2) (i86.JumpIf 2 by) → IsAt first image at v p → Is image (at + 2 + 2) (with_overflow (difference_overflows (register v r) (register v q)) v) (watched_step (watched_step p))
  passes_above r q by le h j s = pass_above by le j (compare r q h s)

  pub jump_to : {image : Image} {at : ℕ} {v : View} {p : Watched} {first : Bool} (r to : ℕ) → register v r ≡ to % 65536 → HasAt first image at (i86.JumpRm (rms.Reg r)) → IsAt first image at v p → Is image to v (watched_step p)
  jump_to {image} {at} {v} {p} r to e h s =
      let i = i86.JumpRm (rms.Reg r) in
      let here = has i (omega arith) h s in
      went i here s (subst (λ n. Sees image.bytes (with_place n v) (processor_step p.processor)) e (rows.jump_to image.bytes (placed at v) r here.there p.processor s.sees))

  pub call : {image : Image} {at : ℕ} {v : View} {p : Watched} {first : Bool} (by n back : ℕ) → n < 32768 → IsTop v (suc n) → (at + 3) % 65536 ≡ back → HasAt first image at (i86.Call by) → IsAt first image at v p → Is image (at + 3 + by) (with_register 4 (2 * n) (with_stack n back v)) (watched_step p)
  call {image} {at} {v} {p} by n back lt top b h s =
      let i = i86.Call by in
      let e : (at % 65536 + 3 + by) % 65536 ≡ (at + 3 + by) % 65536 = omega arith in
      let f : (at % 65536 + 3) % 65536 ≡ back = omega arith in
      let here = has i (omega arith) h s in
      went i here s
      (subst (λ n'. Sees image.bytes (with_place n' (with_register 4 (2 * n) (with_stack n back v))) (processor_step p.processor)) e
      (subst (λ x. Sees image.bytes (with_place ((at % 65536 + 3 + by) % 65536) (with_register 4 (2 * n) (with_stack n x v))) (processor_step p.processor)) f
      (rows.call image.bytes (placed at v) by n here.there lt top p.processor s.sees)))

  pub out : {image : Image} {at : ℕ} {v : View} {p : Watched} {first : Bool} (port : ℕ) → HasAt first image at (i86.Out port) → IsAt first image at v p → Is image (at + 2) (with_told (with_given port (register v 0 % 256) v.told) v) (watched_step p)
  out {image} {at} {v} {p} port h s =
      let i = i86.Out port in
      let here = has i (omega arith) h s in
      moved at i (with_told (with_given port (register v 0 % 256) v.told) v) here s (rows.out image.bytes (placed at v) port here.there p.processor s.sees)

  -- to the place that a word of the code tells
  pub through_table : {image : Image} {at : ℕ} {v : View} {p : Watched} {first : Bool} (by entry to : ℕ) → (register v 3 + by) % 65536 ≡ entry → entry + 2 ≤ length image.bytes
      → slice_index image.bytes entry + 256 * slice_index image.bytes (entry + 1) ≡ to % 65536 → HasAt first image at (i86.JumpRm (entry_of_table by)) → IsAt first image at v p → Is image to v (watched_step p)
  through_table {image} {at} {v} {p} by entry to e within word h s =
      let i = i86.JumpRm (entry_of_table by) in
      let here = has i (omega arith) h s in
      went i here s (rows.through_table image.bytes (placed at v) by entry (to % 65536) here.there e within word p.processor s.sees)

  pub store_slot : {image : Image} {at : ℕ} {v : View} {p : Watched} {first : Bool} (r by k : ℕ) → k < 32768 → (register v 5 + sign_extended by) % 65536 ≡ 2 * k → HasAt first image at (i86.Mov true false r (slot by)) → IsAt first image at v p → Is image (at + 3) (with_stack k (register v r) v) (watched_step p)
  store_slot {image} {at} {v} {p} r by k lt e h s =
      let i = i86.Mov true false r (slot by) in
      let here = has i (omega arith) h s in
      moved at i (with_stack k (register v r) v) here s (rows.store_slot image.bytes (placed at v) r by k here.there lt e p.processor s.sees)

  -- ---- chains

  pub shows : {image : Image} {at : ℕ} {v : View} {p : Watched} {output : List ℕ} {first : Bool} → IsAt first image at v p → v.told.output ≡ output → watched_machine.shown p ≡ at_work output
  shows {image} {at} {v} {p} s e = ap₂ (λ x y. (x, y)) (ap shown_as (rows.runs image.bytes (placed at v) p.processor s.sees) ∙ ap (λ o. record { output = o; end = Running }) e) s.silent

  -- one instruction, and the way on
  pub more : {image : Image} {at to : ℕ} {v w : View} {p : Watched} {output : List ℕ} {n : ℕ} {Target : Watched → Type 0} {first : Bool}
      → IsAt first image at v p → v.told.output ≡ output → Is image to w (watched_step p) → ((q : Watched) → Is image to w q → Leads output n q Target) → Leads output (suc n) p Target
  more {p = p} {n = n} s e s' on =
      let l = on (watched_step p) s' in
      record { reached = l.reached; path = next (shows s e) refl (let c : suc n ≡ 1 + n = omega arith in c) l.path; there = l.there }

  -- the same after a comparison
  pub compared_more : {image : Image} {at : ℕ} {v : View} {p : Watched} {output : List ℕ} {n : ℕ} {Between Target : Watched → Type 0} {first : Bool}
      → IsAt first image at v p → v.told.output ≡ output → Between (watched_step p) → ((q : Watched) → Between q → Leads output n q Target) → Leads output (suc n) p Target
  compared_more {p = p} {n = n} s e b on =
      let l = on (watched_step p) b in
      record { reached = l.reached; path = next (shows s e) refl (let c : suc n ≡ 1 + n = omega arith in c) l.path; there = l.there }

  -- a comparison of registers, and the instruction behind it
  pub compared : {image : Image} {at : ℕ} {v : View} {p : Watched} {output : List ℕ} {n : ℕ} {Target : Watched → Type 0} {first : Bool} (r q : ℕ)
      → v.told.output ≡ output → HasAt first image at (compare_of r q) → IsAt first image at v p → Leads output n (watched_step (watched_step p)) Target → Leads output (suc (suc n)) p Target
  compared {v = v} {p = p} {n = n} r q e h s l =
      let t = (compare r q h s).is in
      let a : suc n ≡ 1 + n = omega arith in
      let b : suc (suc n) ≡ 1 + suc n = omega arith in
      record { reached = l.reached; path = next (shows s e) refl b (next (shows t e) refl a l.path); there = l.there }

  -- the last instruction
  pub last : {image : Image} {at : ℕ} {v : View} {p : Watched} {output : List ℕ} {Target : Watched → Type 0} {first : Bool} → IsAt first image at v p → v.told.output ≡ output → Target (watched_step p) → Leads output 1 p Target
  last {p = p} s e t = record { reached = watched_step p; path = next (shows s e) refl (let c : 1 ≡ 1 + 0 = omega arith in c) (stay refl refl); there = t }

pub done : {p : Watched} {output : List ℕ} {Target : Watched → Type 0} → Target p → Leads output 0 p Target
done {p} t = record { reached = p; path = stay refl refl; there = t }
