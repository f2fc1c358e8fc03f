use Rattle.std.proofs.Common.{◌≡◌, ◌≤◌, ℕ, ◌+◌, ◌*◌, ◌%◌, ◌/◌, ◌<◌, get_or}
use Rattle.cw_cpu86.proofs.start.put_words.Given as goal

abbrev pub invariant-loop-k : goal.invariant-loop-k
invariant-loop-k l = record {
  below : (a : ℕ) → a < 0x20000 → get_or l.memory a 0 ≡ get_or l.fn.memory a 0;
  low_bytes : (j : ℕ) → j < l.k → get_or l.memory (0x20000 + 2 * j) 0 ≡ get_or l.words j 0 % 256;
  high_bytes : (j : ℕ) → j < l.k → get_or l.memory (0x20000 + 2 * j + 1) 0 ≡ get_or l.words j 0 / 256;
  above : (a : ℕ) → 0x20000 + 2 * l.k ≤ a → get_or l.memory a 0 ≡ get_or l.fn.memory a 0;
}
