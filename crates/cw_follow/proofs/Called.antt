-- Straight pieces of code with something more behind them, and the routines of the library that come back with a word.
use Rattle.std.proofs.Common.{◌≡◌, ℕ, suc, ◌+◌, ◌*◌, ◌%◌, ◌<◌, Bool, true, false, not, ℤ, List, [], ◌∷◌, length, refl, subst, arith}
use Rattle.std.specs.Prelude.{◌==◌, if◌then◌else◌}
use Rattle.cw_i86.specs.Encoding.{bytes_of}
use Rattle.cw_i86.specs.declared.flags.Flags.{Flags}
use Rattle.cw_i86.specs.declared.instr.Instr.{Instr}
use Rattle.cw_i86.specs.declared.instr.Instr.TheVariants as i86
use Rattle.cw_i86.specs.declared.instr.Imm.TheVariants as imm
use Rattle.cw_run86.specs.Processor.{Told}
use Rattle.cw_run86.specs.Views.{put_word}
use Rattle.cw_word.specs.FixedPoint.{fits_word}
use Rattle.cw_word.specs.Word.{unsigned}
use Rattle.cw_unit.specs.Words.{Operand, put_value}
use Rattle.cw_routines.specs.Ways.{QuietAll, Leads as Goes, Back}
use Rattle.cw_routines.specs.Results.{Quiet, InLibrary, Fitting, WordRoutine, divisor_test}
use Rattle.cw_routines.proofs.Facts.{put_at}
use Rattle.cw_routines.proofs.Numbers.{fits_true}
use Rattle.cw_follow.proofs.Watched.{Watched}
use Rattle.cw_follow.proofs.Rows.{Rows}
use Rattle.cw_follow.proofs.Chains.{Is, Leads, view, to_place, call, last}
use Rattle.cw_follow.proofs.Straight.{Act, Number, codes, behind, instruction, straight}
use Rattle.cw_follow.proofs.Routines.{quiet_in, quiet_all, there_all, quiet_library, flags_of, arrives, returned, lifted}
use Rattle.cw_follow.proofs.Stacks.{level, record_of, same_put, StackIs, stack_same}
use Rattle.cw_follow.proofs.Orders.{Kept, kept_under, Checked, checks_end, later}
use Rattle.cw_follow.proofs.Operands.{Setting, words, DoesHere}
use Rattle.cw_follow.proofs.Standing.{Has, HasAll, Image}

-- ---- pieces of code

-- these instructions stand one after another from a place, and something more behind them
abbrev pub Then : (image : Image) → (at : ℕ) → List Instr → (ℕ → Type 0) → Type 0
Then image at [] T = T at
Then image at (i ∷ is) T = Has image at i × Then image (at + length (bytes_of i)) is T

pub parts : (image : Image) (at : ℕ) (acts : List Act) (T : ℕ → Type 0) → Then image at (codes acts) T → HasAll image at (codes acts) × T (behind acts at)
parts image at [] T h = (tt, h)
parts image at (a ∷ acts) T h = let r = parts image (at + length (bytes_of (instruction a))) acts T h.1 in ((h.0, r.0), r.1)

-- ---- back from a routine

-- Behind the call, with an answer in AX and the flags; the other registers but SP, BP and DI are of no use.
pub record Returned (image : Image) (to sp bp area : ℕ) (cells stack : ℕ → ℕ) (input : List ℕ) (told : Told) (Answers : ℕ → Flags → Type 0) (p : Watched) : Type 0 where
  pub back : Back image.bytes to sp bp area cells stack input told Answers p.processor
  pub is : Is image to (view back.ax back.cx back.dx back.bx sp bp back.si area back.flags.of cells stack input told) p

pub comes_back : Rows
    → {image : Image} {at n to sp bp area ax cx dx bx top record_at si di : ℕ} {overflow : Bool} {cells stack cells' stack' : ℕ → ℕ} {left left' output : List ℕ} {told told' : Told} {Answers : ℕ → Flags → Type 0} {p : Watched}
    → Is image at (view ax cx dx bx top record_at si di overflow cells stack left told) p
    → Goes (Quiet (quiet_in p.places)) image.bytes output n p.processor (Back image.bytes to sp bp area cells' stack' left' told' Answers)
    → Leads output n p (Returned image to sp bp area cells' stack' left' told' Answers)
comes_back rows {p = p} s l =
    lifted rows s.overlooks s.silent l (λ q b. record { back = b; is = returned p s.ignores b.is })

fitting : (b : Bool) (z : ℤ) (ax : ℕ) (f : Flags) → Fitting b z ax f → f.of ≡ not b
fitting true z ax f h = h.1
fitting false z ax f h = h

-- ---- the test of a divisor

-- Whether BX is 0: then the way on is behind the jump.
pub tests_divisor : Rows
    → {image : Image} {output : List ℕ} {p : Watched} {at ax cx dx bx sp bp si di : ℕ} {overflow : Bool} {cells stack : ℕ → ℕ} {left : List ℕ} {told : Told} (by : ℕ) → by < 128 → told.output ≡ output
    → HasAll image at (divisor_test by) → Is image at (view ax cx dx bx sp bp si di overflow cells stack left told) p
    → Leads output 2 p (Is image (if bx == 0 then at + 4 else at + 4 + by) (view ax cx dx bx sp bp si di false cells stack left told))
tests_divisor rows {image} {output} {p} {at} {ax} {cx} {dx} {bx} {sp} {bp} {si} {di} {cells = cells} {stack = stack} {left = left} {told = told} by low wrote i s =
    let to = if bx == 0 then at + 4 else at + 4 + by in
    let quiet : QuietAll (Quiet (quiet_in p.places)) at (divisor_test by) = quiet_all s.ignores at (divisor_test by) i in
    subst (λ o. Leads o 2 p (Is image to (view ax cx dx bx sp bp si di false cells stack left told))) wrote
    (lifted rows s.overlooks s.silent (rows.routines.divisor (quiet_in p.places) image.bytes at by quiet (there_all image at (divisor_test by) i) low ax cx dx bx sp bp si di (flags_of p) cells stack left told p.processor (arrives s))
    (λ q t. returned p s.ignores t))

-- ---- a routine on two words, and the test of its result

module _ (c : Setting) (memory : List ℤ) (input output : List ℕ) where
  pub by_routine : {p : Watched} {at cx dx si : ℕ} {overflow : Bool} {cells stack : ℕ → ℕ} {left : List ℕ} {told : Told} (to place bound count by line n : ℕ) (x y z : ℤ) (rest : List Operand)
      → (at + 3 + 3 + by) % 65536 ≡ place % 65536 → line < 65536 → n < level c.acts
      → ((quiet : ℕ → Bool) → InLibrary quiet → WordRoutine (Quiet quiet) c.image.bytes place bound count x y z)
      → Then c.image at (i86.MovImm 1 (imm.Word count) ∷ i86.Call by ∷ []) (λ k. Checked c.image k to line)
      → StackIs c.program c.acts stack (suc n) rest → Kept c.program c.g c.acts memory input output cells stack left told
      → Is c.image at (view (unsigned x) cx dx (unsigned y) (2 * suc n) (record_of c.acts) si c.program.limits.area overflow cells stack left told) p
      → DoesHere c memory input output (16 + bound) to true line p (put_value z (words rest memory input output))
  by_routine {p} {at} {cx} {dx} {si} {overflow} {cells} {stack} {left} {told} to place bound count by line n x y z rest arrives_there small low law i under kept s =
      let back = (at + 3 + 3) % 65536 in
      let stack' : ℕ → ℕ = put_word stack n back in
      let kept' = kept_under n back low kept in
      let lt : n < 32768 = omega arith in
      let lt' : n < 32767 = omega arith in
      let sp : 2 * suc n ≡ 2 * suc n % 65536 = omega arith in
      let fits : back < 65536 = omega arith in
      let under' = stack_same c.program c.acts stack stack' (suc n) rest (same_put stack n back (suc n) (omega arith)) under in
      let there : back % 65536 ≡ (at + 3 + 3) % 65536 = omega arith in
      let bp = record_of c.acts in
      let area = c.program.limits.area in
      let lead : Leads output 2 p (Is c.image place (view (unsigned x) count dx (unsigned y) (2 * n) bp si area overflow cells stack' left told)) =
      straight c.rows (Number 1 count ∷ []) {n = 1} kept.wrote (i.0, tt) (tt, tt) s (λ q t.
      last c.rows t kept.wrote (to_place arrives_there (call c.rows by n back lt sp refl i.1.0 t))) in
      later c.program c.image (14 + bound) to c.g true line c.acts 2 (16 + bound) (put_value z (words rest memory input output)) (omega arith) lead (λ q t.
      let r = law (quiet_in q.places) (quiet_library t.ignores) dx si bp n back area (flags_of q) cells stack' left told q.processor lt' (put_at stack n back) fits (arrives t) in
      let within = r.within in
      later c.program c.image 14 to c.g true line c.acts r.spent (14 + bound) (put_value z (words rest memory input output)) (omega arith)
      (subst (λ o. Leads o r.spent q (Returned c.image back (2 * suc n) bp area cells stack' left told (Fitting (fits_word z) z))) kept.wrote (comes_back c.rows t r.leads))
      (λ u b. checks_end c.rows c.program c.image c.g c.acts to (suc n) line z rest memory input output c.library c.few (omega arith) small
      (fitting (fits_word z) z b.back.ax b.back.flags b.back.answers) (λ f. (subst (λ d. Fitting d z b.back.ax b.back.flags) (fits_true z f) b.back.answers).0) under' kept' i.1.1 (to_place there b.is)))
