-- An instruction that stands at CS:IP makes a step.
use Rattle.std.proofs.Common.{◌≡◌, ℕ, List, ◌<◌, ◌^◌, length, subst, refl, inl, sym, ap, ◌∙◌}
use Rattle.std.specs.Prelude.{Some}
use Rattle.cw_i86.specs.Encoding.{bytes_of, IsInstr, BeginsWith}
use Rattle.cw_i86.specs.State.{State, window, past, byte_register, with_byte_register}
use Rattle.cw_i86.specs.Effect.{executed}
use Rattle.cw_i86.specs.MachineRun.{Outcome, GoesOn, Silent, Takes, Gives, Steps, Does, code_at, completed}
use Rattle.cw_i86.specs.declared.instr.Instr.{Instr}
use Rattle.cw_i86.specs.declared.instr.Instr.TheVariants.{In, Out, Hlt}

pub steps_by : (s : State) (i : Instr) (n : ℕ) (o : Outcome) → IsInstr i → BeginsWith (code_at s) i → n ≡ length (bytes_of i) → Does i (past s n) o → Steps s o
steps_by s i n o valid begins e does = inl (i, (valid, begins), subst (λ k. Does i (past s k) o) e does)

-- But for IN, OUT and HLT, an instruction does what its effect says.
pub does_plain : (i : Instr) (s : State) → ((port : ℕ) → i ≡ In port → ⊥) → ((port : ℕ) → i ≡ Out port → ⊥) → (i ≡ Hlt → ⊥) → Does i s (completed (executed i s))
does_plain (In port) s no_in no_out no_hlt = absurd (no_in port refl)
does_plain (Out port) s no_in no_out no_hlt = absurd (no_out port refl)
does_plain Hlt s no_in no_out no_hlt = absurd (no_hlt refl)
does_plain i s no_in no_out no_hlt = refl

-- the same for an instruction that is known by an equation, from t, the state past it
pub in_steps : (s t u : State) (i : Instr) (n port value : ℕ) → i ≡ In port → IsInstr i → BeginsWith (code_at s) i → n ≡ length (bytes_of i) → value < 2 ^ 8
    → t ≡ past s n → u ≡ with_byte_register t 0 value → Steps s (GoesOn u (Takes port value))
in_steps s t u i n port value is valid begins e small past_is after =
    let made : u ≡ with_byte_register (past s n) 0 value = subst (λ v. u ≡ with_byte_register v 0 value) past_is after in
    let does : Does (In port) (past s n) (GoesOn u (Takes port value)) = (value, small, ap (λ v. GoesOn v (Takes port value)) made) in
    steps_by s i n _ valid begins e (subst (λ j. Does j (past s n) (GoesOn u (Takes port value))) (sym is) does)

pub out_steps : (s t : State) (i : Instr) (n port value : ℕ) → i ≡ Out port → IsInstr i → BeginsWith (code_at s) i → n ≡ length (bytes_of i)
    → t ≡ past s n → value ≡ byte_register s 0 → Steps s (GoesOn t (Gives port value))
out_steps s t i n port value is valid begins e past_is value_is =
    let does : Does (Out port) (past s n) (GoesOn t (Gives port value)) = ap (λ v. GoesOn v (Gives port value)) past_is ∙ ap (λ b. GoesOn (past s n) (Gives port b)) value_is in
    steps_by s i n _ valid begins e (subst (λ j. Does j (past s n) (GoesOn t (Gives port value))) (sym is) does)

pub plain_steps : (s t u : State) (i : Instr) (n : ℕ) → ((port : ℕ) → i ≡ In port → ⊥) → ((port : ℕ) → i ≡ Out port → ⊥) → (i ≡ Hlt → ⊥)
    → IsInstr i → BeginsWith (code_at s) i → n ≡ length (bytes_of i) → t ≡ past s n → executed i t ≡ Some u → Steps s (GoesOn u Silent)
plain_steps s t u i n no_in no_out no_hlt valid begins e past_is done =
    let made : executed i (past s n) ≡ Some u = subst (λ v. executed i v ≡ Some u) past_is done in
    steps_by s i n _ valid begins e (subst (λ o. Does i (past s n) (completed o)) made (does_plain i (past s n) no_in no_out no_hlt))

-- the bytes of an instruction that was read from these fields are those at CS:IP
pub begins_at : (s : State) (memory : List ℕ) (segment offset : ℕ) (i : Instr) → memory ≡ s.memory → segment ≡ s.code_segment → offset ≡ s.instruction_pointer
    → BeginsWith (window 7 memory segment offset) i → BeginsWith (code_at s) i
begins_at s memory segment offset i a b c begins =
    subst (λ o. BeginsWith (window 7 s.memory s.code_segment o) i) c
    (subst (λ o. BeginsWith (window 7 s.memory o offset) i) b (subst (λ m. BeginsWith (window 7 m segment offset) i) a begins))
