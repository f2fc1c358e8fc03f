-- A window of memory that does not wrap is a slice of it.
use Rattle.std.proofs.Common.{◌≡◌, ℕ, zero, suc, ◌+◌, ◌%◌, ◌^◌, ◌<◌, List, ◌∷◌, length, take, drop, refl, arith}
use Rattle.std.proofs.Math.Seq.{drop-cons}
use Rattle.std.specs.Prelude.{slice_index}
use Rattle.cw_i86.specs.State.{address, byte_at, window}

next_address : (segment offset a : ℕ) → a ≡ address segment offset → a + 1 < 2 ^ 20 → suc a ≡ address segment (offset + 1)
unfolding address
next_address segment offset a e lt = omega (arith, e)

pub window_is_front : (n : ℕ) (memory : List ℕ) (segment offset a : ℕ) → length memory ≡ 2 ^ 20 → a ≡ address segment offset → offset + n < 65536 → a + n < 2 ^ 20
    → window n memory segment offset ≡ take n (drop a memory)
unfolding window byte_at
window_is_front zero memory segment offset a len e o lt = refl
window_is_front (suc n) memory segment offset a len e o lt =
    let wrap : (offset + 1) % 65536 ≡ offset + 1 = omega arith in
    let next : suc a ≡ address segment (offset + 1) = next_address segment offset a e (omega arith) in
    let rest = window_is_front n memory segment (offset + 1) (suc a) len next (omega arith) (omega arith) in
    let behind : drop a memory ≡ slice_index memory a ∷ drop (suc a) memory = drop-cons memory a 0 (omega (arith, len)) in
    rw (wrap, rest, behind, ← e) refl
