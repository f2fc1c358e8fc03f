-- The stack.
use Rattle.std.proofs.Common.{◌≡◌, ℕ, suc, ◌+◌, ◌*◌, ◌%◌, ◌<◌, List, refl, ap, ap₂, subst, ◌∙◌}
use Rattle.std.specs.Prelude.{slice_index, slice_set}
use Rattle.cw_i86.specs.State.{State, push as pushed, word_at, with_word, stack_segment}
use Rattle.cw_i86.specs.Effect.{pop_to}
use Rattle.cw_i86.specs.declared.instr.Instr.TheVariants as i86
use Rattle.cw_i86.specs.declared.instr.Rm.{Rm}
use Rattle.cw_run86.specs.Views.{View, Has, IsTop, register, on, with_register, with_stack, put_word}
use Rattle.cw_run86.proofs.Tests.{Finds}
use Rattle.cw_run86.proofs.Memory.{Holds, holds_stack}
use Rattle.cw_run86.proofs.Stack.{once_set, down, up, even}
use Rattle.cw_rows86.specs.Locations.{Location, contents, Denotes, GoesWith, same_flags}
use Rattle.cw_rows86.proofs.Fitting.{FitsView, Writes, reads}
use Rattle.cw_rows86.proofs.Stepping.{by_row, quietly}
use Rattle.cw_rows86.proofs.Moving.{register_read}

-- a word pushed
pub pushes : (code : List ℕ) (u : View) (s : State) (n written w : ℕ) → FitsView code u s → n < 32768 → IsTop u (suc n) → written ≡ w → Writes code (with_register 4 (2 * n) (with_stack n w u)) s (pushed s written)
unfolding pushed
pushes code u s n written w f lt top e =
    let lower = down n _ _ lt (register_read code u s 4 f) top in
    let at : with_word s.memory stack_segment (2 * n) w ≡ with_word s.memory stack_segment ((slice_index s.registers 4 + 65534) % 65536) written = cc in
    record {
      fits = record {
        memory = subst (Holds code u.cells (put_word u.stack n w)) at (holds_stack code u.cells u.stack s.memory n w lt f.memory);
        same_registers = once_set _ _ 4 _ _ f.same_registers lower;
        segment = f.segment;
      };
      place = refl;
      flags = refl;
    }

-- the word on top
pub top_read : (code : List ℕ) (u : View) (s : State) (n : ℕ) → FitsView code u s → n < 32768 → IsTop u n → word_at s.memory stack_segment (slice_index s.registers 4) ≡ u.stack n
top_read code u s n f lt top = ap (word_at s.memory stack_segment) (register_read code u s 4 f ∙ even n _ lt top) ∙ f.memory.stack_words n lt

module _ (finds : Finds) (code : List ℕ) (v : View) where
  pub push : (r n : ℕ) → Has code v.place (i86.Push r) → n < 32768 → IsTop v (suc n) → GoesWith code same_flags v (with_register 4 (2 * n) (with_stack n (register v r) (on (i86.Push r) v)))
  push r n has lt top =
      let i = i86.Push r in
      by_row finds code v _ i same_flags has (λ p. refl)
      (λ s b. quietly code v _ i s _ b (pushes code (on i v) s n _ (register v r) b.fits lt top (register_read code v s r b.fits)) refl refl refl refl)

  pub push_any : (rm : Rm) (o : Location) (n : ℕ) → Has code v.place (i86.PushRm rm) → Denotes code v.registers rm o → n < 32768 → IsTop v (suc n) → GoesWith code same_flags v (with_register 4 (2 * n) (with_stack n (contents code v o) (on (i86.PushRm rm) v)))
  push_any rm o n has d lt top =
      let i = i86.PushRm rm in
      by_row finds code v _ i same_flags has (λ p. refl)
      (λ s b. quietly code v _ i s _ b (pushes code (on i v) s n _ (contents code v o) b.fits lt top (reads code v s rm o d b.fits)) refl refl refl refl)

  pub pop : (r n : ℕ) → Has code v.place (i86.Pop r) → n < 32768 → IsTop v n → GoesWith code same_flags v (with_register r (v.stack n) (with_register 4 (2 * suc n % 65536) (on (i86.Pop r) v)))
  unfolding pop_to
  pop r n has lt top =
      let i = i86.Pop r in
      by_row finds code v _ i same_flags has (λ p. refl)
      (λ s b. let set = ap₂ (λ rs x. slice_set rs r x) (once_set _ _ 4 _ _ b.fits.same_registers (up n _ _ lt (register_read code v s 4 b.fits) top)) (top_read code v s n b.fits lt top) in
      quietly code v _ i s _ b (record { fits = record { memory = b.fits.memory; same_registers = set; segment = b.fits.segment }; place = refl; flags = refl }) refl refl refl refl)
