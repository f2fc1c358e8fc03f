-- Words behind BX, as operands of the instructions of blocks name them, and arguments behind BP: in the shortest form.
use Rattle.std.proofs.Common.{◌≡◌, ℕ, zero, suc, ◌+◌, ◌*◌, ◌%◌, ◌<◌, Bool, true, false, List, length, refl, ap, ◌∙◌, arith, lit<, ◌≤◌}
use Rattle.std.specs.Prelude.{nat_lt, if◌then◌else◌, slice_index}
use Rattle.std.proofs.lemmas.Bool.{ltb-true}
use Rattle.cw_i86.specs.Encoding.{IsRm, bytes_of}
use Rattle.cw_i86.specs.State.{sign_extended}
use Rattle.cw_i86.specs.declared.instr.Place.TheVariants as places
use Rattle.cw_rows86.specs.Locations.{Denotes, InData, InStack}
use Rattle.cw_tmpl.specs.Mnemonics.{field, argument, load, memory}

pub doubled_small : (n : ℕ) → 2 * n % 65536 < 65536
doubled_small n = omega arith

-- where BX has twice the first word of a frame, a word of the frame is this one of the data area
pub record FrameWord (base n k : ℕ) : Type 0 where
  pub low : k < 32768
  pub small : 2 * base % 65536 < 65536
  pub there : (2 * base % 65536 + 2 * n % 65536) % 65536 ≡ 2 * k

pub frame_word_at : (area base n k : ℕ) → area ≤ 32768 → k < area → k ≡ base + n → FrameWord base n k
frame_word_at area base n k few within same = record { low = omega arith; small = omega arith; there = omega arith }

-- where BX has the bytes of a base, such an operand denotes a word of the data area
pub field_denotes : (code rs : List ℕ) (by k : ℕ) → k < 32768 → slice_index rs 3 < 65536 → (slice_index rs 3 + by) % 65536 ≡ 2 * k → Denotes code rs (field by) (InData k)
field_denotes code rs zero k low base is = (refl, refl, low, (let e : slice_index rs 3 ≡ 2 * k = omega (arith, base, is) in e))
field_denotes code rs (suc by) k low base is = cases (nat_lt (suc by) 128) refl
  where
    cases : (b : Bool) → nat_lt (suc by) 128 ≡ b → Denotes code rs (memory (if b then places.Near 7 (suc by) else places.Far 7 (suc by))) (InData k)
    cases true short =
        let extended : sign_extended (suc by) ≡ suc by = ap (λ b. if b then suc by else suc by + 65280) short in
        (refl, refl, low, ap (λ n. (slice_index rs 3 + n) % 65536) extended ∙ is)
    cases false long = (refl, refl, low, is)

-- and has bytes
pub field_fine : (by : ℕ) → by < 65536 → IsRm (field by)
field_fine zero small = (lit< tt, λ e. omega arith)
field_fine (suc by) small = cases (nat_lt (suc by) 128) refl
  where
    cases : (b : Bool) → nat_lt (suc by) 128 ≡ b → IsRm (memory (if b then places.Near 7 (suc by) else places.Far 7 (suc by)))
    cases true short = (lit< tt, (let few : suc by < 256 = omega (arith, ltb-true (suc by) 128 short) in few))
    cases false long = (lit< tt, small)

-- where BP has the bytes of a record, an argument's operand denotes a word of the stack
pub argument_denotes : (code rs : List ℕ) (n k : ℕ) → k < 32768 → (slice_index rs 5 + (4 + 2 * n)) % 65536 ≡ 2 * k → Denotes code rs (argument n) (InStack k)
argument_denotes code rs n k low is = cases (nat_lt (4 + 2 * n) 128) refl
  where
    cases : (b : Bool) → nat_lt (4 + 2 * n) 128 ≡ b → Denotes code rs (memory (if b then places.Near 6 (4 + 2 * n) else places.Far 6 (4 + 2 * n))) (InStack k)
    cases true short =
        let extended : sign_extended (4 + 2 * n) ≡ 4 + 2 * n = ap (λ b. if b then 4 + 2 * n else 4 + 2 * n + 65280) short in
        (refl, refl, low, ap (λ m. (slice_index rs 5 + m) % 65536) extended ∙ is)
    cases false long = (refl, refl, low, is)

-- and has bytes
pub argument_fine : (n : ℕ) → 4 + 2 * n < 65536 → IsRm (argument n)
argument_fine n small = cases (nat_lt (4 + 2 * n) 128) refl
  where
    cases : (b : Bool) → nat_lt (4 + 2 * n) 128 ≡ b → IsRm (memory (if b then places.Near 6 (4 + 2 * n) else places.Far 6 (4 + 2 * n)))
    cases true short = (lit< tt, (let few : 4 + 2 * n < 256 = omega (arith, ltb-true (4 + 2 * n) 128 short) in few))
    cases false long = (lit< tt, small)

-- which are some
pub argument_some : (r n : ℕ) → 0 < length (bytes_of (load r (argument n)))
argument_some r n = cases (nat_lt (4 + 2 * n) 128)
  where
    cases : (b : Bool) → 0 < length (bytes_of (load r (memory (if b then places.Near 6 (4 + 2 * n) else places.Far 6 (4 + 2 * n)))))
    cases true = lit< tt
    cases false = lit< tt
