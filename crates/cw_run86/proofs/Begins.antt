-- What stands at the start.
use Rattle.std.proofs.Common.{◌≡◌, ℕ, ◌+◌, ◌*◌, ◌/◌, ◌%◌, ◌<◌, ◌≤◌, List, length, refl, sym, ap, ◌∙◌, inl, inr, arith}
use Rattle.std.proofs.lemmas.Nat.{div-add-mod'}
use Rattle.std.proofs.lemmas.Bool.{cases_lt}
use Rattle.std.proofs.lemmas.List.{get_or_past}
use Rattle.std.specs.Prelude.{slice_index}
use Rattle.cw_i86.specs.State.{State, word_at, data_segment, stack_segment}
use Rattle.cw_i86.specs.MachineRun.{IsStart}
use Rattle.cw_run86.specs.Processor.{processor_start}
use Rattle.cw_run86.specs.Views.{Sees, starting_view, code_segment}
use Rattle.cw_run86.proofs.Memory.{byte_is, word_of}

module _ (code words input : List ℕ) (s : State) (short : length code ≤ 65536) (few : length words ≤ 32768) (is : IsStart code words s) where
  nothing : (segment k : ℕ) → segment * 16 + 65536 ≤ 1048576 → k < 32768 → 0x20000 + 2 * length words ≤ segment * 16 + 2 * k → word_at s.memory segment (2 * k) ≡ 0
  nothing segment k whole lt above = word_of s.memory segment k 0 0 (omega arith) lt (is.above _ above) (is.above _ (omega arith))

  cell : (k : ℕ) → k < 32768 → word_at s.memory data_segment (2 * k) ≡ slice_index words k
  cell k lt = elim (cases_lt k (length words)) [
    | inl inside ↦
        let made : slice_index words k % 256 + 256 * (slice_index words k / 256) ≡ slice_index words k = omega (arith, div-add-mod' (slice_index words k) 256) in
        word_of s.memory data_segment k _ _ (omega arith) lt (is.low_bytes k inside) (is.high_bytes k inside) ∙ made
    | inr past ↦ nothing data_segment k (omega arith) lt (omega arith) ∙ sym (get_or_past words k 0 past)
  ]

  pub begins : Sees code (starting_view words input) (processor_start s input)
  begins = record {
    at_work = refl;
    bytes = is.bytes;
    fits = short;
    segment = is.code_segment;
    code_bytes = λ k lt. byte_is s.memory code_segment k (omega (arith, short)) ∙ is.code_bytes k lt;
    registers = is.registers;
    place = is.instruction_pointer;
    overflow = ap (λ f. f.of) is.flags;
    words = cell;
    stack = λ k lt. nothing stack_segment k (omega arith) lt (omega (arith, few));
    input = refl;
    told = refl;
  }
