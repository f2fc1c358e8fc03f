-- The stack, and the words of memory.
use Rattle.std.proofs.Common.{◌≡◌, ℕ, suc, ◌+◌, ◌*◌, ◌%◌, ◌<◌, ◌≤◌, true, false, List, length, refl, ap, subst, ◌∙◌, arith}
use Rattle.std.specs.Prelude.{slice_index, slice_set}
use Rattle.cw_i86.specs.State.{data_segment, stack_segment, word_at, with_word, sign_extended, sized_register, with_sized_register, operand, with_operand, segment_of, offset_of, form_base, value_at, with_value_at, push as pushed}
use Rattle.cw_i86.specs.Effect.{moved, pop_to}
use Rattle.cw_i86.specs.Encoding.{bytes_of}
use Rattle.cw_i86.specs.declared.instr.Instr.{Instr}
use Rattle.cw_i86.specs.declared.instr.Instr.TheVariants as i86
use Rattle.cw_i86.specs.declared.instr.Imm.TheVariants as imm
use Rattle.cw_i86.specs.declared.instr.Rm.{Rm}
use Rattle.cw_i86.specs.declared.instr.Rm.TheVariants as rms
use Rattle.cw_i86.specs.declared.instr.Place.{Place}
use Rattle.cw_i86.specs.declared.instr.Place.TheVariants as places
use Rattle.cw_run86.specs.Processor.{Processor, behind}
use Rattle.cw_run86.specs.Views.{View, Sees, Has, Goes, IsTop, register, on, with_register, with_stack, with_cell, put_word}
use Rattle.cw_run86.proofs.Tests.{Finds}
use Rattle.cw_run86.proofs.Memory.{Holds, holds, holds_cell, holds_stack}
use Rattle.cw_run86.proofs.Goes.{goes, sees}

-- one register of the processor
pub register_is : (code : List ℕ) (v : View) (p : Processor) (r : ℕ) → Sees code v p → slice_index p.state.registers r ≡ register v r
register_is code v p r s = ap (λ rs. slice_index rs r) s.registers

-- a word written
pub stack_written : (code : List ℕ) (v : View) (p : Processor) (at n written w : ℕ) → Sees code v p → n < 32768 → at ≡ 2 * n → written ≡ w
    → Holds code v.cells (put_word v.stack n w) (with_word p.state.memory stack_segment at written)
stack_written code v p at n written w s lt there same =
    let e : with_word p.state.memory stack_segment (2 * n) w ≡ with_word p.state.memory stack_segment at written = cc in
    subst (Holds code v.cells (put_word v.stack n w)) e (holds_stack code v.cells v.stack p.state.memory n w lt (holds code v p s))

pub cell_written : (code : List ℕ) (v : View) (p : Processor) (at n written w : ℕ) → Sees code v p → n < 32768 → at ≡ 2 * n → written ≡ w
    → Holds code (put_word v.cells n w) v.stack (with_word p.state.memory data_segment at written)
cell_written code v p at n written w s lt there same =
    let e : with_word p.state.memory data_segment (2 * n) w ≡ with_word p.state.memory data_segment at written = cc in
    subst (Holds code (put_word v.cells n w) v.stack) e (holds_cell code v.cells v.stack p.state.memory n w lt (holds code v p s))

-- a word read
pub stack_read : (code : List ℕ) (v : View) (p : Processor) (at n : ℕ) → Sees code v p → n < 32768 → at ≡ 2 * n → word_at p.state.memory stack_segment at ≡ v.stack n
stack_read code v p at n s lt there = ap (word_at p.state.memory stack_segment) there ∙ s.stack n lt

pub cell_read : (code : List ℕ) (v : View) (p : Processor) (at n : ℕ) → Sees code v p → n < 32768 → at ≡ 2 * n → word_at p.state.memory data_segment at ≡ v.cells n
cell_read code v p at n s lt there = ap (word_at p.state.memory data_segment) there ∙ s.words n lt

-- two registers set
pub twice_set : (rs ss : List ℕ) (q r a b c d : ℕ) → rs ≡ ss → a ≡ c → b ≡ d → slice_set (slice_set rs q a) r b ≡ slice_set (slice_set ss q c) r d
twice_set rs ss q r a b c d e f g = cc

pub once_set : (rs ss : List ℕ) (r a b : ℕ) → rs ≡ ss → a ≡ b → slice_set rs r a ≡ slice_set ss r b
once_set rs ss r a b e f = cc

-- the top of the stack, one down and one up
pub down : (n sp top : ℕ) → n < 32768 → sp ≡ top → top ≡ 2 * suc n % 65536 → (sp + 65534) % 65536 ≡ 2 * n
down n sp top lt e is = omega arith

pub up : (n sp top : ℕ) → n < 32768 → sp ≡ top → top ≡ 2 * n % 65536 → (sp + 2) % 65536 ≡ 2 * suc n % 65536
up n sp top lt e is = omega arith

pub even : (n top : ℕ) → n < 32768 → top ≡ 2 * n % 65536 → top ≡ 2 * n
even n top lt is = omega arith

abbrev in_memory : Place → Rm
in_memory place = rms.Mem (record { cs = false; place = place })

abbrev load_from : ℕ → Place → Instr
load_from r place = i86.Mov true true r (in_memory place)

module _ (finds : Finds) (code : List ℕ) (v : View) where
  pub push : (r n : ℕ) → Has code v.place (i86.Push r) → n < 32768 → IsTop v (suc n) → Goes code v (with_register 4 (2 * n) (with_stack n (register v r) (on (i86.Push r) v)))
  unfolding pushed
  push r n has lt top =
      goes finds code v _ _ has (omega arith)
      (λ p s. let lower = down n _ _ lt (register_is code v p 4 s) top in
      sees code v _ p _ s (stack_written code v p _ n _ (register v r) s lt lower (register_is code v p r s)) refl (once_set _ _ 4 _ _ s.registers lower)
      (ap (λ n. (n + 1) % 65536) s.place) s.overflow refl refl)

  pub pop : (r n : ℕ) → Has code v.place (i86.Pop r) → n < 32768 → IsTop v n → Goes code v (with_register r (v.stack n) (with_register 4 (2 * suc n % 65536) (on (i86.Pop r) v)))
  unfolding pop_to
  pop r n has lt top =
      goes finds code v _ _ has (omega arith)
      (λ p s. let sp = register_is code v p 4 s in
      sees code v _ p _ s (holds code v p s) refl
      (twice_set _ _ 4 r _ _ _ _ s.registers (up n _ _ lt sp top) (stack_read code v p _ n s lt (sp ∙ even n _ lt top)))
      (ap (λ n. (n + 1) % 65536) s.place) s.overflow refl refl)

  -- a word that an instruction reads
  loaded : (r w : ℕ) (from : Place) → Has code v.place (load_from r from) → length (bytes_of (load_from r from)) ≤ 7
      → ((p : Processor) → Sees code v p → operand (behind (load_from r from) p.state) true (in_memory from) ≡ w)
      → Goes code v (with_register r w (on (load_from r from) v))
  unfolding moved with_sized_register
  loaded r w from has short reads =
      goes finds code v _ _ has short
      (λ p s. sees code v _ p _ s (holds code v p s) refl (once_set _ _ r _ _ s.registers (reads p s))
      (ap (λ n. (n + length (bytes_of (load_from r from))) % 65536) s.place) s.overflow refl refl)

  pub load : (r k : ℕ) → Has code v.place (load_from r (places.Plain 7)) → k < 32768 → register v 3 ≡ 2 * k → Goes code v (with_register r (v.cells k) (on (load_from r (places.Plain 7)) v))
  unfolding operand segment_of offset_of form_base value_at
  load r k has lt is = loaded r (v.cells k) (places.Plain 7) has (omega arith) (λ p s. cell_read code v p _ k s lt (register_is code v p 3 s ∙ is))

  pub store : (r k : ℕ) → Has code v.place (i86.Mov true false r (rms.Mem (record { cs = false; place = places.Plain 7 }))) → k < 32768 → register v 3 ≡ 2 * k
      → Goes code v (with_cell k (register v r) (on (i86.Mov true false r (rms.Mem (record { cs = false; place = places.Plain 7 }))) v))
  unfolding moved with_operand sized_register segment_of offset_of form_base with_value_at
  store r k has lt is =
      goes finds code v _ _ has (omega arith)
      (λ p s. sees code v _ p _ s (cell_written code v p _ k _ (register v r) s lt (register_is code v p 3 s ∙ is) (register_is code v p r s)) refl s.registers
      (ap (λ n. (n + 2) % 65536) s.place) s.overflow refl refl)

  -- the offset of a word so far behind the one that a register holds
  behind_register : (p : Processor) (r by k : ℕ) → Sees code v p → (register v r + by) % 65536 ≡ 2 * k → (slice_index p.state.registers r + by) % 65536 ≡ 2 * k
  behind_register p r by k s is = ap (λ n. (n + by) % 65536) (register_is code v p r s) ∙ is

  pub load_slot : (r by k : ℕ) → Has code v.place (load_from r (places.Near 6 by)) → k < 32768 → (register v 5 + sign_extended by) % 65536 ≡ 2 * k
      → Goes code v (with_register r (v.stack k) (on (load_from r (places.Near 6 by)) v))
  unfolding operand segment_of offset_of form_base value_at
  load_slot r by k has lt is = loaded r (v.stack k) (places.Near 6 by) has (omega arith) (λ p s. stack_read code v p _ k s lt (behind_register p 5 (sign_extended by) k s is))

  pub set_slot : (by w k : ℕ) → Has code v.place (i86.MovRm (rms.Mem (record { cs = false; place = places.Near 6 by })) (imm.Word w)) → k < 32768 → (register v 5 + sign_extended by) % 65536 ≡ 2 * k
      → Goes code v (with_stack k w (on (i86.MovRm (rms.Mem (record { cs = false; place = places.Near 6 by })) (imm.Word w)) v))
  unfolding with_operand segment_of offset_of form_base with_value_at
  set_slot by w k has lt is =
      goes finds code v _ _ has (omega arith)
      (λ p s. sees code v _ p _ s (stack_written code v p _ k _ w s lt (behind_register p 5 (sign_extended by) k s is) refl) refl s.registers
      (ap (λ n. (n + 5) % 65536) s.place) s.overflow refl refl)

  pub load_argument : (r by k : ℕ) → Has code v.place (load_from r (places.Far 6 by)) → k < 32768 → (register v 5 + by) % 65536 ≡ 2 * k
      → Goes code v (with_register r (v.stack k) (on (load_from r (places.Far 6 by)) v))
  unfolding operand segment_of offset_of form_base value_at
  load_argument r by k has lt is = loaded r (v.stack k) (places.Far 6 by) has (omega arith) (λ p s. stack_read code v p _ k s lt (behind_register p 5 by k s is))

  pub store_field : (r by k : ℕ) → Has code v.place (i86.Mov true false r (rms.Mem (record { cs = false; place = places.Far 7 by }))) → k < 32768 → (register v 3 + by) % 65536 ≡ 2 * k
      → Goes code v (with_cell k (register v r) (on (i86.Mov true false r (rms.Mem (record { cs = false; place = places.Far 7 by }))) v))
  unfolding moved with_operand sized_register segment_of offset_of form_base with_value_at
  store_field r by k has lt is =
      goes finds code v _ _ has (omega arith)
      (λ p s. sees code v _ p _ s (cell_written code v p _ k _ (register v r) s lt (behind_register p 3 by k s is) (register_is code v p r s)) refl s.registers
      (ap (λ n. (n + 4) % 65536) s.place) s.overflow refl refl)

  pub store_slot : (r by k : ℕ) → Has code v.place (i86.Mov true false r (rms.Mem (record { cs = false; place = places.Near 6 by }))) → k < 32768 → (register v 5 + sign_extended by) % 65536 ≡ 2 * k
      → Goes code v (with_stack k (register v r) (on (i86.Mov true false r (rms.Mem (record { cs = false; place = places.Near 6 by }))) v))
  unfolding moved with_operand sized_register segment_of offset_of form_base with_value_at
  store_slot r by k has lt is =
      goes finds code v _ _ has (omega arith)
      (λ p s. sees code v _ p _ s (stack_written code v p _ k _ (register v r) s lt (behind_register p 5 (sign_extended by) k s is) (register_is code v p r s)) refl s.registers
      (ap (λ n. (n + 3) % 65536) s.place) s.overflow refl refl)

  pub load_field : (r by k : ℕ) → Has code v.place (load_from r (places.Near 7 by)) → k < 32768 → (register v 3 + sign_extended by) % 65536 ≡ 2 * k
      → Goes code v (with_register r (v.cells k) (on (load_from r (places.Near 7 by)) v))
  unfolding operand segment_of offset_of form_base value_at
  load_field r by k has lt is = loaded r (v.cells k) (places.Near 7 by) has (omega arith) (λ p s. cell_read code v p _ k s lt (behind_register p 3 (sign_extended by) k s is))
