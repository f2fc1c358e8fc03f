-- Jumps, calls and returns.
use Rattle.std.proofs.Common.{◌≡◌, ℕ, suc, ◌+◌, ◌-◌, ◌*◌, ◌%◌, ◌<◌, ◌≤◌, Bool, true, false, List, length, refl, ap, subst, ◌∙◌, arith}
use Rattle.std.proofs.lemmas.Bool.{lt-ltb, le-ltb}
use Rattle.std.specs.Prelude.{slice_index, slice_set, Some, nat_lt, if◌then◌else◌}
use Rattle.cw_i86.specs.Encoding.{bytes_of}
use Rattle.cw_i86.specs.State.{State, push as pushed, sign_extended}
use Rattle.cw_i86.specs.Effect.{called, returned, jumped_if, holds}
use Rattle.cw_i86.specs.declared.instr.Instr.{Instr}
use Rattle.cw_i86.specs.declared.instr.Instr.TheVariants as i86
use Rattle.cw_i86.specs.declared.instr.Rm.{Rm}
use Rattle.cw_run86.specs.Processor.{Processor, behind}
use Rattle.cw_run86.specs.Views.{View, Sees, Has, IsTop, on, with_place, with_register, with_stack}
use Rattle.cw_run86.proofs.Tests.{Finds}
use Rattle.cw_run86.proofs.Stack.{once_set}
use Rattle.cw_run86.proofs.Jumps.{from_behind}
use Rattle.cw_rows86.specs.Locations.{Location, contents, Denotes, GoesWith, Lands, same_flags}
use Rattle.cw_rows86.proofs.Fitting.{Fits, reads}
use Rattle.cw_rows86.proofs.Stepping.{Becomes, Begins, as_written, begins, by_row, reached}
use Rattle.cw_rows86.proofs.Moving.{register_read}
use Rattle.cw_rows86.proofs.Stacking.{pushes, top_read}

-- to a place, with registers and words written
to : (code : List ℕ) (v w : View) (place there : ℕ) (s t : State) → s.flags.of ≡ w.overflow → Fits code w.registers w.cells w.stack t → there ≡ place → t.flags ≡ s.flags → v.input ≡ w.input → v.told ≡ w.told
    → Becomes code v (with_place place w) s.flags (Some (record t { instruction_pointer = there }))
to code v w place there s t of fits e flags input told = record {
  state = record t { instruction_pointer = there };
  is = refl;
  fits = record { memory = fits.memory; same_registers = fits.same_registers; segment = fits.segment };
  place = e;
  same_flags = flags;
  overflow = ap (λ f. f.of) flags ∙ of;
  input = input;
  told = told;
}

-- where a displacement of a byte leads
pub forward : (place n : ℕ) → n < 128 → (place + 2 + sign_extended n) % 65536 ≡ (place + 2 + n) % 65536
forward place n lt = ap (λ t. (place + 2 + (if t then n else n + 65280)) % 65536) (lt-ltb n 128 lt)

pub backward : (place n to : ℕ) → 1 ≤ n → n ≤ 128 → to + n ≡ place + 2 → (place + 2 + sign_extended (256 - n)) % 65536 ≡ to % 65536
backward place n to some few e =
    let high : nat_lt (256 - n) 128 ≡ false = le-ltb (256 - n) 128 (omega arith) in
    ap (λ t. (place + 2 + (if t then 256 - n else 256 - n + 65280)) % 65536) high ∙ omega arith

module _ (finds : Finds) (code : List ℕ) (v : View) where
  pub near : (by : ℕ) → Has code v.place (i86.Jump by) → GoesWith code same_flags v (with_place ((v.place + 3 + by) % 65536) v)
  near by has =
      by_row finds code v _ (i86.Jump by) same_flags has (λ p. refl)
      (λ s b. to code v v _ _ s s b.overflow b.fits (ap (λ n. (n + by) % 65536) b.place ∙ from_behind v.place v.place 3 by refl) refl refl refl)

  pub short_jump : (by : ℕ) → Has code v.place (i86.JumpShort by) → GoesWith code same_flags v (with_place ((v.place + 2 + sign_extended by) % 65536) v)
  short_jump by has =
      by_row finds code v _ (i86.JumpShort by) same_flags has (λ p. refl)
      (λ s b. to code v v _ _ s s b.overflow b.fits (ap (λ n. (n + sign_extended by) % 65536) b.place ∙ from_behind v.place v.place 2 (sign_extended by) refl) refl refl refl)

  pub through : (rm : Rm) (o : Location) → Has code v.place (i86.JumpRm rm) → Denotes code v.registers rm o → GoesWith code same_flags v (with_place (contents code v o) v)
  through rm o has d =
      by_row finds code v _ (i86.JumpRm rm) same_flags has (λ p. refl)
      (λ s b. to code v v _ _ s s b.overflow b.fits (reads code v s rm o d b.fits) refl refl refl)

  -- ---- calls and returns

  pub call : (by n : ℕ) → Has code v.place (i86.Call by) → n < 32768 → IsTop v (suc n)
      → GoesWith code same_flags v (with_place ((v.place + 3 + by) % 65536) (with_register 4 (2 * n) (with_stack n ((v.place + 3) % 65536) v)))
  unfolding called pushed
  call by n has lt top =
      by_row finds code v _ (i86.Call by) same_flags has (λ p. refl)
      (λ s b. let x = pushes code v s n _ ((v.place + 3) % 65536) b.fits lt top b.place in
      to code v (with_register 4 (2 * n) (with_stack n ((v.place + 3) % 65536) v)) _ _ s _ b.overflow x.fits
      (ap (λ n. (n + by) % 65536) b.place ∙ from_behind v.place v.place 3 by refl) refl refl refl)

  pub call_through : (rm : Rm) (o : Location) (n : ℕ) → Has code v.place (i86.CallRm rm) → Denotes code v.registers rm o → n < 32768 → IsTop v (suc n)
      → GoesWith code same_flags v (with_place (contents code v o) (with_register 4 (2 * n) (with_stack n ((v.place + length (bytes_of (i86.CallRm rm))) % 65536) v)))
  unfolding called pushed
  call_through rm o n has d lt top =
      let behind_it = (v.place + length (bytes_of (i86.CallRm rm))) % 65536 in
      by_row finds code v _ (i86.CallRm rm) same_flags has (λ p. refl)
      (λ s b. let x = pushes code v s n _ behind_it b.fits lt top b.place in
      to code v (with_register 4 (2 * n) (with_stack n behind_it v)) _ _ s _ b.overflow x.fits
      (reads code v s rm o d b.fits) refl refl refl)

  risen : (top n sp : ℕ) → sp ≡ 2 * top % 65536 → (sp + (2 + n)) % 65536 ≡ (2 * suc top + n) % 65536
  risen top n sp e = omega arith

  returns : (n top : ℕ) (s : State) (i : Instr) → top < 32768 → IsTop v top → Begins code v (on i v) s → Becomes code v (with_place (v.stack top) (with_register 4 ((2 * suc top + n) % 65536) v)) s.flags (Some (returned s n))
  unfolding returned
  returns n top s i lt is b =
      to code v (with_register 4 ((2 * suc top + n) % 65536) v) _ _ s (record s { registers = slice_set s.registers 4 ((slice_index s.registers 4 + (2 + n)) % 65536) }) b.overflow
      (record { memory = b.fits.memory; same_registers = once_set _ _ 4 _ _ b.fits.same_registers (risen top n _ (register_read code v s 4 b.fits ∙ is)); segment = b.fits.segment })
      (top_read code v s top b.fits lt is) refl refl refl

  -- with so many bytes of arguments
  pub back_over : (n top : ℕ) → Has code v.place (i86.RetAdd n) → top < 32768 → IsTop v top → GoesWith code same_flags v (with_place (v.stack top) (with_register 4 ((2 * suc top + n) % 65536) v))
  back_over n top has lt is = by_row finds code v _ (i86.RetAdd n) same_flags has (λ p. refl) (λ s b. returns n top s (i86.RetAdd n) lt is b)

  pub back : (top : ℕ) → Has code v.place i86.Ret → top < 32768 → IsTop v top → GoesWith code same_flags v (with_place (v.stack top) (with_register 4 (2 * suc top % 65536) v))
  back top has lt is =
      let e : (2 * suc top + 0) % 65536 ≡ 2 * suc top % 65536 = omega arith in
      subst (λ n. GoesWith code same_flags v (with_place (v.stack top) (with_register 4 n v))) e
      (by_row finds code v _ i86.Ret same_flags has (λ p. refl) (λ s b. returns 0 top s i86.Ret lt is b))

  -- ---- conditional jumps, as the flags say

  conditional : (w : View) (cond by : ℕ) (p : Processor) (t : Bool) → Has code v.place (i86.JumpIf cond by) → Sees code v p → holds p.state.flags cond ≡ t
      → Becomes code v w p.state.flags (Some (jumped_if (behind (i86.JumpIf cond by) p.state) t by)) → Lands code w p
  conditional w cond by p t has s is b =
      let s' = behind (i86.JumpIf cond by) p.state in
      reached finds code v w (i86.JumpIf cond by) p.state.flags p has refl s (as_written code v w _ _ _ (ap (λ x. Some (jumped_if s' x by)) is) b)

  pub jumps : (cond by : ℕ) (p : Processor) → Has code v.place (i86.JumpIf cond by) → Sees code v p → holds p.state.flags cond ≡ true → Lands code (with_place ((v.place + 2 + sign_extended by) % 65536) v) p
  jumps cond by p has s is =
      let b = begins code v (i86.JumpIf cond by) p s in
      conditional _ cond by p true has s is
      (to code v v _ _ (behind (i86.JumpIf cond by) p.state) (behind (i86.JumpIf cond by) p.state) b.overflow b.fits (ap (λ n. (n + sign_extended by) % 65536) b.place ∙ from_behind v.place v.place 2 (sign_extended by) refl) refl refl refl)

  pub passes : (cond by : ℕ) (p : Processor) → Has code v.place (i86.JumpIf cond by) → Sees code v p → holds p.state.flags cond ≡ false → Lands code (on (i86.JumpIf cond by) v) p
  passes cond by p has s is =
      let b = begins code v (i86.JumpIf cond by) p s in
      conditional _ cond by p false has s is (to code v v _ _ (behind (i86.JumpIf cond by) p.state) (behind (i86.JumpIf cond by) p.state) b.overflow b.fits b.place refl refl refl)
