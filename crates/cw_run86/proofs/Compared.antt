-- Comparisons of registers, and the conditional jumps behind them.
use Rattle.std.proofs.Common.{◌≡◌, ℕ, ◌+◌, ◌-◌, ◌*◌, ◌%◌, ◌<◌, Bool, true, false, List, ℤ, pos, refl, sym, ap, ap₂, subst, ◌∙◌, arith, ◌≤◌}
use Rattle.std.proofs.lemmas.Bool.{lt-ltb, le-ltb}
use Rattle.std.proofs.lemmas.Bool.Decides.{nat_tests}
use Rattle.std.proofs.lemmas.Int.{ints}
use Rattle.std.specs.Bool.{beq}
use Rattle.std.specs.Prelude.{slice_index, nat_lt, nat_le, ◌==◌, ◌||◌, ◌&&◌, not, int_lt, int_le, ◌-ℤ◌}
use Rattle.cw_i86.specs.Sums.{overflows, signed, difference_flags}
use Rattle.cw_i86.specs.State.{sign_extended, sized_register, operand, segment_of, offset_of, value_at}
use Rattle.cw_i86.specs.Effect.{alu_flags, operated, holds as meets, jumped_if, pop_to}
use Rattle.cw_i86.specs.declared.instr.Instr.TheVariants as i86
use Rattle.cw_run86.specs.Processor.{Processor, behind, processor_step, with_state}
use Rattle.cw_run86.specs.Views.{View, Sees, Has, register, on, with_place, with_other, with_memory, with_number, Compared, Compares, Comparison, Equal, Unequal, Less, NotLess, AtMost, Greater, condition_of, words_compare}
use Rattle.cw_run86.proofs.Tests.{Finds}
use Rattle.cw_run86.proofs.Memory.{holds}
use Rattle.cw_run86.proofs.Goes.{goes, sees, step_is}
use Rattle.cw_run86.proofs.Sums.{plain_difference_overflows}
use Rattle.cw_run86.proofs.Stack.{register_is, cell_read}
use Rattle.cw_run86.proofs.Jumps.{from_behind}

-- ---- what the flags of a difference tell

abbrev difference : ℕ → ℕ → ℕ
difference a b = (a + 65536 - (b + 0)) % 65536

zero_is : (a b : ℕ) → a < 65536 → b < 65536 → (difference a b == 0) ≡ int_le (signed 32768 a) (signed 32768 b) && int_le (signed 32768 b) (signed 32768 a)
unfolding signed
zero_is a b la lb = grind (arith, ints, nat_tests)

less_is : (a b : ℕ) → a < 65536 → b < 65536 → not (beq (nat_le 32768 (difference a b)) (overflows 32768 (signed 32768 a -ℤ signed 32768 b -ℤ pos 0))) ≡ int_lt (signed 32768 a) (signed 32768 b)
unfolding signed
less_is a b la lb = grind (arith, ints, nat_tests)

at_most_is : (a b : ℕ) → a < 65536 → b < 65536 → ((difference a b == 0) || not (beq (nat_le 32768 (difference a b)) (overflows 32768 (signed 32768 a -ℤ signed 32768 b -ℤ pos 0)))) ≡ int_le (signed 32768 a) (signed 32768 b)
unfolding signed
at_most_is a b la lb = grind (arith, ints, nat_tests)

not_less : (x y : ℤ) → not (int_lt x y) ≡ int_le y x
not_less x y = grind (arith, ints, nat_tests)

not_at_most : (x y : ℤ) → not (int_le x y) ≡ int_lt y x
not_at_most x y = grind (arith, ints, nat_tests)

pub of_difference : (c : Comparison) (a b : ℕ) → a < 65536 → b < 65536 → meets (difference_flags 32768 a b false) (condition_of c) ≡ words_compare c a b
unfolding meets
of_difference Equal a b la lb = zero_is a b la lb
of_difference Unequal a b la lb = ap not (zero_is a b la lb)
of_difference Less a b la lb = less_is a b la lb
of_difference NotLess a b la lb = ap not (less_is a b la lb) ∙ not_less (signed 32768 a) (signed 32768 b)
of_difference AtMost a b la lb = at_most_is a b la lb
of_difference Greater a b la lb = ap not (at_most_is a b la lb) ∙ not_at_most (signed 32768 a) (signed 32768 b)

-- ---- the instructions

module _ (finds : Finds) (code : List ℕ) (v : View) where
  pub registers : (r q : ℕ) → Has code v.place (with_other 7 r q) → Compares code (register v r) (register v q) (with_other 7 r q) v
  unfolding operated operand sized_register alu_flags
  registers r q has p s = (
    goes finds code v _ _ has (omega arith)
        (λ p s. sees code v _ p _ s (holds code v p s) refl s.registers (ap (λ n. (n + 2) % 65536) s.place)
        (ap (λ rs. overflows 32768 (signed 32768 (slice_index rs r) -ℤ signed 32768 (slice_index rs q) -ℤ pos 0)) s.registers ∙ plain_difference_overflows (register v r) (register v q))
        refl refl)
        p
        s,
    record {
      flags =
          ap (λ x. x.state.flags) (step_is finds code v p (with_other 7 r q) s has (omega arith))
          ∙ ap (λ rs. difference_flags 32768 (slice_index rs r) (slice_index rs q) false) s.registers;
    },
  )

  pub offset : (r at k : ℕ) → Has code v.place (with_memory 7 r at) → k < 32768 → at ≡ 2 * k → Compares code (register v r) (v.cells k) (with_memory 7 r at) v
  unfolding operated operand sized_register alu_flags segment_of offset_of value_at
  offset r at k has lt is p s = (
    goes finds code v _ _ has (omega arith)
        (λ p s. sees code v _ p _ s (holds code v p s) refl s.registers (ap (λ n. (n + 4) % 65536) s.place)
        (ap₂ (λ a b. overflows 32768 (signed 32768 a -ℤ signed 32768 b -ℤ pos 0)) (register_is code v p r s) (cell_read code v p at k s lt is)
        ∙ plain_difference_overflows (register v r) (v.cells k))
        refl refl)
        p
        s,
    record {
      flags =
          ap (λ x. x.state.flags) (step_is finds code v p (with_memory 7 r at) s has (omega arith))
          ∙ ap₂ (λ a b. difference_flags 32768 a b false) (register_is code v p r s) (cell_read code v p at k s lt is);
    },
  )

  pub number : (w : ℕ) → Has code v.place (with_number 7 w) → Compares code (register v 0) w (with_number 7 w) v
  unfolding operated operand sized_register alu_flags
  number w has p s = (
    goes finds code v _ _ has (omega arith)
        (λ p s. sees code v _ p _ s (holds code v p s) refl s.registers (ap (λ n. (n + 3) % 65536) s.place)
        (ap (λ rs. overflows 32768 (signed 32768 (slice_index rs 0) -ℤ signed 32768 w -ℤ pos 0)) s.registers ∙ plain_difference_overflows (register v 0) w)
        refl refl)
        p
        s,
    record {
      flags =
          ap (λ x. x.state.flags) (step_is finds code v p (with_number 7 w) s has (omega arith))
          ∙ ap (λ rs. difference_flags 32768 (slice_index rs 0) w false) s.registers;
    },
  )

  pub pop : (r a b : ℕ) (p : Processor) → Has code v.place (i86.Pop r) → Sees code v p → Compared a b p → Compared a b (processor_step p)
  unfolding pop_to
  pop r a b p has s c = record { flags = ap (λ x. x.state.flags) (step_is finds code v p (i86.Pop r) s has (omega arith)) ∙ c.flags }

  -- the conditional jump, as its condition says
  conditional : (c : Comparison) (by a b : ℕ) (p : Processor) (t : Bool) → Has code v.place (i86.JumpIf (condition_of c) by)
      → a < 65536 → b < 65536 → words_compare c a b ≡ t → Sees code v p → Compared a b p
      → with_state (jumped_if (behind (i86.JumpIf (condition_of c) by) p.state) t by) p ≡ processor_step p
  conditional c by a b p t has la lb is s f =
      let j = i86.JumpIf (condition_of c) by in
      let met : meets p.state.flags (condition_of c) ≡ t = ap (λ f. meets f (condition_of c)) f.flags ∙ of_difference c a b la lb ∙ is in
      ap (λ x. with_state (jumped_if (behind j p.state) x by) p) (sym met) ∙ sym (step_is finds code v p j s has (omega arith))

  pub jumps : (c : Comparison) (by a b : ℕ) (p : Processor) → Has code v.place (i86.JumpIf (condition_of c) by) → a < 65536 → b < 65536 → words_compare c a b ≡ true
      → Sees code v p → Compared a b p → Sees code (with_place ((v.place + 2 + sign_extended by) % 65536) v) (processor_step p)
  jumps c by a b p has la lb is s f =
      let w = with_place ((v.place + 2 + sign_extended by) % 65536) v in
      subst (Sees code w) (conditional c by a b p true has la lb is s f)
      (sees code v w p _ s (holds code v p s) refl s.registers (from_behind _ v.place 2 (sign_extended by) s.place) s.overflow refl refl)

  pub passes : (c : Comparison) (by a b : ℕ) (p : Processor) → Has code v.place (i86.JumpIf (condition_of c) by) → a < 65536 → b < 65536 → words_compare c a b ≡ false
      → Sees code v p → Compared a b p → Sees code (on (i86.JumpIf (condition_of c) by) v) (processor_step p)
  passes c by a b p has la lb is s f =
      let w = on (i86.JumpIf (condition_of c) by) v in
      subst (Sees code w) (conditional c by a b p false has la lb is s f)
      (sees code v w p _ s (holds code v p s) refl s.registers (ap (λ n. (n + 2) % 65536) s.place) s.overflow refl refl)

  -- JB, as its condition says
  carried : (by a b : ℕ) (p : Processor) (t : Bool) → Has code v.place (i86.JumpIf 2 by) → nat_lt a b ≡ t → Sees code v p → Compared a b p → with_state (jumped_if (behind (i86.JumpIf 2 by) p.state) t by) p ≡ processor_step p
  unfolding meets
  carried by a b p t has is s f =
      let j = i86.JumpIf 2 by in
      let plain : b + 0 ≡ b = omega arith in
      let met : p.state.flags.cf ≡ t = ap (λ f. f.cf) f.flags ∙ ap (nat_lt a) plain ∙ is in
      ap (λ x. with_state (jumped_if (behind j p.state) x by) p) (sym met) ∙ sym (step_is finds code v p j s has (omega arith))

  pub jumps_below : (by a b : ℕ) (p : Processor) → Has code v.place (i86.JumpIf 2 by) → a < b → Sees code v p → Compared a b p → Sees code (with_place ((v.place + 2 + sign_extended by) % 65536) v) (processor_step p)
  jumps_below by a b p has lt s f =
      let w = with_place ((v.place + 2 + sign_extended by) % 65536) v in
      subst (Sees code w) (carried by a b p true has (lt-ltb a b lt) s f)
      (sees code v w p _ s (holds code v p s) refl s.registers (from_behind _ v.place 2 (sign_extended by) s.place) s.overflow refl refl)

  pub passes_above : (by a b : ℕ) (p : Processor) → Has code v.place (i86.JumpIf 2 by) → b ≤ a → Sees code v p → Compared a b p → Sees code (on (i86.JumpIf 2 by) v) (processor_step p)
  passes_above by a b p has le s f =
      let w = on (i86.JumpIf 2 by) v in
      subst (Sees code w) (carried by a b p false has (le-ltb a b le) s f)
      (sees code v w p _ s (holds code v p s) refl s.registers (ap (λ n. (n + 2) % 65536) s.place) s.overflow refl refl)
