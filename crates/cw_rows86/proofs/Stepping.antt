-- It is enough to say what an instruction makes of a state.
use Rattle.std.proofs.Common.{◌≡◌, ℕ, ◌+◌, ◌%◌, Bool, List, length, refl, sym, ap, subst, ◌∙◌}
use Rattle.std.specs.Prelude.{Option, Some}
use Rattle.cw_i86.specs.Encoding.{bytes_of}
use Rattle.cw_i86.specs.Effect.{executed}
use Rattle.cw_i86.specs.State.{State}
use Rattle.cw_i86.specs.declared.flags.Flags.{Flags}
use Rattle.cw_i86.specs.declared.instr.Instr.{Instr}
use Rattle.cw_run86.specs.Processor.{Processor, behind, completed, does, processor_step, with_state}
use Rattle.cw_run86.specs.Views.{View, Sees, Has, on, with_overflow}
use Rattle.cw_run86.proofs.Tests.{Finds}
use Rattle.cw_run86.proofs.Memory.{holds}
use Rattle.cw_run86.proofs.Goes.{sees, step_is}
use Rattle.cw_run86.proofs.Sizes.{short}
use Rattle.cw_rows86.specs.Locations.{Location, InRegister, with_contents, GoesWith}
use Rattle.cw_rows86.proofs.Fitting.{FitsView, Writes}

-- ---- a step

-- the state goes over to one that fits the second view, with these flags
pub record Becomes (code : List ℕ) (v w : View) (flags : Flags) (o : Option State) : Type 0 where
  pub state : State
  pub is : o ≡ Some state
  pub fits : FitsView code w state
  pub place : state.instruction_pointer ≡ w.place
  pub same_flags : state.flags ≡ flags
  pub overflow : state.flags.of ≡ w.overflow
  pub input : v.input ≡ w.input
  pub told : v.told ≡ w.told

-- the same, where the outcome is written otherwise
pub as_written : (code : List ℕ) (v w : View) (flags : Flags) (o q : Option State) → o ≡ q → Becomes code v w flags q → Becomes code v w flags o
as_written code v w flags o q e b = record {
  state = b.state;
  is = e ∙ b.is;
  fits = b.fits;
  place = b.place;
  same_flags = b.same_flags;
  overflow = b.overflow;
  input = b.input;
  told = b.told;
}

pub record Begins (code : List ℕ) (v u : View) (s : State) : Type 0 where
  pub fits : FitsView code v s
  pub place : s.instruction_pointer ≡ u.place
  pub overflow : s.flags.of ≡ v.overflow

pub begins : (code : List ℕ) (v : View) (i : Instr) (p : Processor) → Sees code v p → Begins code v (on i v) (behind i p.state)
begins code v i p s = record {
  fits = record { memory = holds code v p s; same_registers = s.registers; segment = s.segment };
  place = ap (λ n. (n + length (bytes_of i)) % 65536) s.place;
  overflow = s.overflow;
}

pub reached : Finds → (code : List ℕ) (v w : View) (i : Instr) (flags : Flags) (p : Processor) → Has code v.place i → does i p ≡ completed (executed i (behind i p.state)) p → Sees code v p
    → Becomes code v w flags (executed i (behind i p.state)) → Sees code w (processor_step p) × ((processor_step p).state.flags ≡ flags)
reached finds code v w i flags p has plain s b =
    let step : processor_step p ≡ with_state b.state p = step_is finds code v p i s has (short i) ∙ plain ∙ ap (λ o. completed o p) b.is in
    let there : Sees code w (with_state b.state p) = sees code v w p b.state s b.fits.memory (b.fits.segment ∙ sym s.segment) b.fits.same_registers b.place b.overflow b.input b.told in
    (subst (Sees code w) (sym step) there, ap (λ q. q.state.flags) step ∙ b.same_flags)

pub by_row : Finds → (code : List ℕ) (v w : View) (i : Instr) (change : Flags → Flags) → Has code v.place i → ((p : Processor) → does i p ≡ completed (executed i (behind i p.state)) p)
    → ((s : State) → Begins code v (on i v) s → Becomes code v w (change s.flags) (executed i s)) → GoesWith code change v w
by_row finds code v w i change has plain row p s = reached finds code v w i (change p.state.flags) p has (plain p) s (row (behind i p.state) (begins code v i p s))

-- ---- words written

place_kept : (o : Location) (w : ℕ) (u : View) → (with_contents o w u).place ≡ u.place
place_kept (InRegister r) w u = refl
place_kept _ w u = refl

overflow_kept : (o : Location) (w : ℕ) (u : View) → (with_contents o w u).overflow ≡ u.overflow
overflow_kept (InRegister r) w u = refl
overflow_kept _ w u = refl

input_kept : (o : Location) (w : ℕ) (u : View) → u.input ≡ (with_contents o w u).input
input_kept (InRegister r) w u = refl
input_kept _ w u = refl

told_kept : (o : Location) (w : ℕ) (u : View) → u.told ≡ (with_contents o w u).told
told_kept (InRegister r) w u = refl
told_kept _ w u = refl

-- a word is written, and the flags stay
pub written : (code : List ℕ) (v : View) (i : Instr) (o : Location) (w : ℕ) (s t : State) → Begins code v (on i v) s → Writes code (with_contents o w (on i v)) s t
    → Becomes code v (with_contents o w (on i v)) s.flags (Some t)
written code v i o w s t b x =
    let u = on i v in
    record {
      state = t;
      is = refl;
      fits = x.fits;
      place = x.place ∙ b.place ∙ sym (place_kept o w u);
      same_flags = x.flags;
      overflow = ap (λ f. f.of) x.flags ∙ b.overflow ∙ sym (overflow_kept o w u);
      input = input_kept o w u;
      told = told_kept o w u;
    }

-- a word is written, with these flags
pub written_with : (code : List ℕ) (v : View) (i : Instr) (o : Location) (w : ℕ) (flags : Flags) (overflow : Bool) (s t : State) → Begins code v (on i v) s
    → FitsView code (with_contents o w (on i v)) t → t.instruction_pointer ≡ s.instruction_pointer → t.flags ≡ flags → flags.of ≡ overflow
    → Becomes code v (with_overflow overflow (with_contents o w (on i v))) flags (Some t)
written_with code v i o w flags overflow s t b fits place f of =
    let u = on i v in
    record {
      state = t;
      is = refl;
      fits = fits;
      place = place ∙ b.place ∙ sym (place_kept o w u);
      same_flags = f;
      overflow = ap (λ x. x.of) f ∙ of;
      input = input_kept o w u;
      told = told_kept o w u;
    }

-- a view that differs from the one behind the instruction in registers and words alone
pub quietly : (code : List ℕ) (v w : View) (i : Instr) (s t : State) → Begins code v (on i v) s → Writes code w s t → (on i v).place ≡ w.place → v.overflow ≡ w.overflow → v.input ≡ w.input → v.told ≡ w.told
    → Becomes code v w s.flags (Some t)
quietly code v w i s t b x place overflow input told = record {
  state = t;
  is = refl;
  fits = x.fits;
  place = x.place ∙ b.place ∙ place;
  same_flags = x.flags;
  overflow = ap (λ f. f.of) x.flags ∙ b.overflow ∙ overflow;
  input = input;
  told = told;
}
