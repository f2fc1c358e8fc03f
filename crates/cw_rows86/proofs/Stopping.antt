-- A call with a word behind it, which the callee reads.
use Rattle.std.proofs.Common.{◌≡◌, ℕ, suc, ◌+◌, ◌*◌, ◌%◌, ◌<◌, Bool, true, List, refl, sym, ap, subst, arith}
use Rattle.std.proofs.lemmas.Bool.{eq-eqb}
use Rattle.std.specs.Prelude.{if◌then◌else◌}
use Rattle.cw_i86.specs.declared.instr.Instr.TheVariants as i86
use Rattle.cw_i86.specs.declared.instr.Place.TheVariants.{Plain}
use Rattle.cw_run86.specs.Processor.{Processor, Told, processor_step, processor_after}
use Rattle.cw_run86.specs.Views.{Sees, Has, put_word}
use Rattle.cw_run86.proofs.Tests.{Finds}
use Rattle.cw_rows86.specs.Locations.{InCode, in_code, HasWord}
use Rattle.cw_run86.specs.Views.{view}
use Rattle.cw_rows86.proofs.Jumping.{call}
use Rattle.cw_rows86.proofs.Stacking.{pop}
use Rattle.cw_rows86.proofs.Moving.{into}

pub told : Finds → (code : List ℕ) (at to by n line : ℕ) (ax cx dx bx bp si di : ℕ) (overflow : Bool) (cells stack : ℕ → ℕ) (input : List ℕ) (t : Told) (p : Processor) → Has code at (i86.Call by) → HasWord code (at + 3) line → (at + 3 + by) % 65536 ≡ to → to + 4 < 65536
    → Has code to (i86.Pop 3) → Has code (to + 1) (i86.Mov true true 2 (in_code (Plain 7))) → n < 32767
    → Sees code (view at ax cx dx bx (2 * suc n) bp si di overflow cells stack input t) p
    → Sees code (view (to + 4) ax cx line (at + 3) (2 * suc n) bp si di overflow cells (put_word stack n (at + 3)) input t) (processor_after 3 p)
told finds code at to by n line ax cx dx bx bp si di overflow cells stack input t p calls word leads room pops reads lt s =
    let within = word.within in
    let fits = s.fits in
    let behind_it : (at + 3) % 65536 ≡ at + 3 = omega arith in
    let top : 2 * suc n ≡ 2 * suc n % 65536 = omega arith in
    let below : n < 32768 = omega arith in
    let first = (call finds code (view at ax cx dx bx (2 * suc n) bp si di overflow cells stack input t) by n calls below top p s).0 in
    let called : Sees code (view to ax cx dx bx (2 * n) bp si di overflow cells (put_word stack n (at + 3)) input t) (processor_step p) =
    subst (λ m. Sees code (view m ax cx dx bx (2 * n) bp si di overflow cells (put_word stack n (at + 3)) input t) (processor_step p)) leads
    (subst (λ m. Sees code (view ((at + 3 + by) % 65536) ax cx dx bx (2 * n) bp si di overflow cells (put_word stack n m) input t) (processor_step p)) behind_it first) in
    let empty : 2 * n ≡ 2 * n % 65536 = omega arith in
    let second = (pop finds code (view to ax cx dx bx (2 * n) bp si di overflow cells (put_word stack n (at + 3)) input t) 3 n pops below empty (processor_step p) called).0 in
    let word_is : put_word stack n (at + 3) n ≡ at + 3 = ap (λ b. if b then at + 3 else stack n) (eq-eqb n n refl) in
    let next : (to + 1) % 65536 ≡ to + 1 = omega arith in
    let q = processor_step (processor_step p) in
    let popped : Sees code (view (to + 1) ax cx dx (at + 3) (2 * suc n) bp si di overflow cells (put_word stack n (at + 3)) input t) q =
    subst (λ m. Sees code (view m ax cx dx (at + 3) (2 * suc n) bp si di overflow cells (put_word stack n (at + 3)) input t) q) next
    (subst (λ m. Sees code (view ((to + 1) % 65536) ax cx dx m (2 * suc n) bp si di overflow cells (put_word stack n (at + 3)) input t) q) word_is
    (subst (λ m. Sees code (view ((to + 1) % 65536) ax cx dx (put_word stack n (at + 3) n) m bp si di overflow cells (put_word stack n (at + 3)) input t) q) (sym top) second)) in
    let third = (into finds code (view (to + 1) ax cx dx (at + 3) (2 * suc n) bp si di overflow cells (put_word stack n (at + 3)) input t) 2 (in_code (Plain 7)) (InCode (at + 3)) reads (refl, word.within, refl) q popped).0 in
    let past : (to + 1 + 3) % 65536 ≡ to + 4 = omega arith in
    subst (λ m. Sees code (view m ax cx line (at + 3) (2 * suc n) bp si di overflow cells (put_word stack n (at + 3)) input t) (processor_step q)) past
    (subst (λ m. Sees code (view ((to + 1 + 3) % 65536) ax cx m (at + 3) (2 * suc n) bp si di overflow cells (put_word stack n (at + 3)) input t) (processor_step q)) word.is third)
