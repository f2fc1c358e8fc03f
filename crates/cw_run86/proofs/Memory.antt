-- The memory as code and the words of two segments.
use Rattle.std.proofs.Common.{◌≡◌, ◌≢◌, ℕ, ◌+◌, ◌*◌, ◌/◌, ◌%◌, ◌^◌, ◌<◌, ◌≤◌, ◌⊎◌, List, length, set, get_or, sym, ap, ◌∙◌, inl, inr, arith, get_or-set_same, get_or-set_other}
use Rattle.std.proofs.Math.ListN.{length-set}
use Rattle.std.proofs.lemmas.Nat.{div-add-mod'}
use Rattle.std.proofs.lemmas.Bool.{cases_eq, eq-eqb, ne_eqb}
use Rattle.std.specs.Prelude.{slice_index, slice_set, nat_eq, if◌then◌else◌}
use Rattle.cw_i86.specs.State.{address, byte_at, with_byte, word_at, with_word, data_segment, stack_segment}
use Rattle.cw_run86.specs.Processor.{Processor}
use Rattle.cw_run86.specs.Views.{View, Sees, code_segment, put_word}

-- ---- a word at a physical address

unfoldable pair : List ℕ → ℕ → ℕ
pair m at = slice_index m at + 256 * slice_index m (at + 1)

unfoldable put : List ℕ → ℕ → ℕ → List ℕ
put m at w = slice_set (slice_set m at (w % 256)) (at + 1) (w / 256)

length_put : (m : List ℕ) (at w : ℕ) → length (put m at w) ≡ length m
unfolding put
length_put m at w = simp length-set

put_other : (m : List ℕ) (at w a : ℕ) → a ≢ at → a ≢ at + 1 → slice_index (put m at w) a ≡ slice_index m a
unfolding put
put_other m at w a n k = get_or-set_other _ _ _ _ 0 k ∙ get_or-set_other _ _ _ _ 0 n

pair_put : (m : List ℕ) (at w : ℕ) → at + 1 < length m → pair (put m at w) at ≡ w
unfolding put pair
pair_put m at w lt =
    let first = set m at (w % 256) in
    let long : at + 1 < length first = omega (arith, length-set {A = ℕ}) in
    let apart : at ≢ at + 1 = λ e. omega arith in
    let below : at < length m = omega arith in
    let low : get_or (set first (at + 1) (w / 256)) at 0 ≡ w % 256 = get_or-set_other first (at + 1) at (w / 256) 0 apart ∙ get_or-set_same m at (w % 256) 0 below in
    let high : get_or (set first (at + 1) (w / 256)) (at + 1) 0 ≡ w / 256 = get_or-set_same first (at + 1) (w / 256) 0 long in
    omega (arith, low, high, div-add-mod' w 256)

pair_other : (m : List ℕ) (at w a : ℕ) → (a + 1 < at) ⊎ (at + 1 < a) → pair (put m at w) a ≡ pair m a
unfolding pair
pair_other m at w a (inl h) =
    let low : slice_index (put m at w) a ≡ slice_index m a = put_other m at w a (λ e. omega arith) (λ e. omega arith) in
    let high : slice_index (put m at w) (a + 1) ≡ slice_index m (a + 1) = put_other m at w (a + 1) (λ e. omega arith) (λ e. omega arith) in
    cc
pair_other m at w a (inr h) =
    let low : slice_index (put m at w) a ≡ slice_index m a = put_other m at w a (λ e. omega arith) (λ e. omega arith) in
    let high : slice_index (put m at w) (a + 1) ≡ slice_index m (a + 1) = put_other m at w (a + 1) (λ e. omega arith) (λ e. omega arith) in
    cc

-- ---- the words of a segment

address_is : (segment offset : ℕ) → segment * 16 + offset < 2 ^ 20 → address segment offset ≡ segment * 16 + offset
unfolding address
address_is segment offset lt = omega arith

pub byte_is : (m : List ℕ) (segment offset : ℕ) → segment * 16 + offset < 2 ^ 20 → byte_at m segment offset ≡ slice_index m (segment * 16 + offset)
unfolding byte_at
byte_is m segment offset lt = ap (slice_index m) (address_is segment offset lt)

-- the segment lies in memory
abbrev pub IsWhole : ℕ → Type 0
IsWhole segment = segment * 16 + 65536 ≤ 2 ^ 20

word_is : (m : List ℕ) (segment k : ℕ) → IsWhole segment → k < 32768 → word_at m segment (2 * k) ≡ pair m (segment * 16 + 2 * k)
unfolding word_at pair
word_is m segment k whole lt =
    let one : (2 * k + 1) % 65536 ≡ 2 * k + 1 = omega arith in
    let low : byte_at m segment (2 * k) ≡ slice_index m (segment * 16 + 2 * k) = byte_is m segment (2 * k) (omega arith) in
    let high : byte_at m segment (2 * k + 1) ≡ slice_index m (segment * 16 + (2 * k + 1)) = byte_is m segment (2 * k + 1) (omega arith) in
    let there : segment * 16 + (2 * k + 1) ≡ segment * 16 + 2 * k + 1 = omega arith in
    let high' : byte_at m segment ((2 * k + 1) % 65536) ≡ slice_index m (segment * 16 + 2 * k + 1) = ap (byte_at m segment) one ∙ high ∙ ap (slice_index m) there in
    cc

pub word_of : (m : List ℕ) (segment k low high : ℕ) → IsWhole segment → k < 32768 → slice_index m (segment * 16 + 2 * k) ≡ low → slice_index m (segment * 16 + 2 * k + 1) ≡ high
    → word_at m segment (2 * k) ≡ low + 256 * high
unfolding pair
word_of m segment k low high whole lt e f = word_is m segment k whole lt ∙ ap (λ n. n + 256 * slice_index m (segment * 16 + 2 * k + 1)) e ∙ ap (λ n. low + 256 * n) f

with_word_is : (m : List ℕ) (segment k w : ℕ) → IsWhole segment → k < 32768 → with_word m segment (2 * k) w ≡ put m (segment * 16 + 2 * k) w
unfolding with_word with_byte put
with_word_is m segment k w whole lt =
    let one : (2 * k + 1) % 65536 ≡ 2 * k + 1 = omega arith in
    let low : address segment (2 * k) ≡ segment * 16 + 2 * k = address_is segment (2 * k) (omega arith) in
    let high : address segment (2 * k + 1) ≡ segment * 16 + 2 * k + 1 = address_is segment (2 * k + 1) (omega arith) ∙ omega arith in
    let high' : address segment ((2 * k + 1) % 65536) ≡ segment * 16 + 2 * k + 1 = ap (address segment) one ∙ high in
    cc

length_after : (m : List ℕ) (segment k w : ℕ) → IsWhole segment → k < 32768 → length (with_word m segment (2 * k) w) ≡ length m
length_after m segment k w whole lt = ap length (with_word_is m segment k w whole lt) ∙ length_put m _ w

-- the words of the segment after one is written
word_after : (m : List ℕ) (segment k w j : ℕ) → IsWhole segment → length m ≡ 2 ^ 20 → k < 32768 → j < 32768
    → word_at (with_word m segment (2 * k) w) segment (2 * j) ≡ (if nat_eq j k then w else word_at m segment (2 * j))
word_after m segment k w j whole long lt less =
    let written = with_word_is m segment k w whole lt in
    let there = word_is (put m (segment * 16 + 2 * k) w) segment j whole less in
    ap (λ m. word_at m segment (2 * j)) written ∙ there ∙ chosen (cases_eq j k)
  where
    chosen : (j ≡ k) ⊎ (j ≢ k) → pair (put m (segment * 16 + 2 * k) w) (segment * 16 + 2 * j) ≡ (if nat_eq j k then w else word_at m segment (2 * j))
    chosen (inl e) =
        ap (λ n. pair (put m (segment * 16 + 2 * k) w) (segment * 16 + 2 * n)) e ∙ pair_put m (segment * 16 + 2 * k) w (omega (arith, long, whole, lt))
        ∙ sym (ap (λ b. if b then w else word_at m segment (2 * j)) (eq-eqb j k e))
    chosen (inr ne) =
        let apart : (segment * 16 + 2 * j + 1 < segment * 16 + 2 * k) ⊎ (segment * 16 + 2 * k + 1 < segment * 16 + 2 * j) = grind (arith, ne) in
        pair_other m (segment * 16 + 2 * k) w (segment * 16 + 2 * j) apart ∙ sym (word_is m segment j whole less)
        ∙ sym (ap (λ b. if b then w else word_at m segment (2 * j)) (ne_eqb j k ne))

-- another segment's words
word_apart : (m : List ℕ) (segment other k w j : ℕ) → IsWhole segment → IsWhole other → (other + 0x1000 ≤ segment) ⊎ (segment + 0x1000 ≤ other) → k < 32768 → j < 32768
    → word_at (with_word m segment (2 * k) w) other (2 * j) ≡ word_at m other (2 * j)
word_apart m segment other k w j whole also apart lt less =
    let clear : (other * 16 + 2 * j + 1 < segment * 16 + 2 * k) ⊎ (segment * 16 + 2 * k + 1 < other * 16 + 2 * j) =
    elim apart [ inl h ↦ inl (omega arith) | inr h ↦ inr (omega arith) ] in
    ap (λ m. word_at m other (2 * j)) (with_word_is m segment k w whole lt) ∙ word_is (put m (segment * 16 + 2 * k) w) other j also less
    ∙ pair_other m (segment * 16 + 2 * k) w (other * 16 + 2 * j) clear ∙ sym (word_is m other j also less)

-- the code
byte_apart : (m : List ℕ) (segment k w j : ℕ) → IsWhole segment → 0x2000 ≤ segment → k < 32768 → j < 65536
    → byte_at (with_word m segment (2 * k) w) code_segment j ≡ byte_at m code_segment j
byte_apart m segment k w j whole above lt less =
    ap (λ m. byte_at m code_segment j) (with_word_is m segment k w whole lt) ∙ byte_is (put m (segment * 16 + 2 * k) w) code_segment j (omega arith)
    ∙ put_other m (segment * 16 + 2 * k) w (65536 + j) (λ e. omega arith) (λ e. omega arith) ∙ sym (byte_is m code_segment j (omega arith))

-- ---- code, words and stack

pub record Holds (code : List ℕ) (cells stack : ℕ → ℕ) (m : List ℕ) : Type 0 where
  pub bytes : length m ≡ 2 ^ 20
  pub fits : length code ≤ 65536
  pub code_bytes : (k : ℕ) → k < length code → byte_at m code_segment k ≡ slice_index code k
  pub data_words : (k : ℕ) → k < 32768 → word_at m data_segment (2 * k) ≡ cells k
  pub stack_words : (k : ℕ) → k < 32768 → word_at m stack_segment (2 * k) ≡ stack k

pub holds : (code : List ℕ) (v : View) (p : Processor) → Sees code v p → Holds code v.cells v.stack p.state.memory
holds code v p s = record { bytes = s.bytes; fits = s.fits; code_bytes = s.code_bytes; data_words = s.words; stack_words = s.stack }

put_choice : (words : ℕ → ℕ) (k w j n : ℕ) → n ≡ words j → (if nat_eq j k then w else n) ≡ put_word words k w j
put_choice words k w j n e = ap (λ n. if nat_eq j k then w else n) e

pub holds_cell : (code : List ℕ) (cells stack : ℕ → ℕ) (m : List ℕ) (k w : ℕ) → k < 32768 → Holds code cells stack m
    → Holds code (put_word cells k w) stack (with_word m data_segment (2 * k) w)
holds_cell code cells stack m k w lt h = record {
  bytes = length_after m data_segment k w (omega arith) lt ∙ h.bytes;
  fits = h.fits;
  code_bytes = λ j less. byte_apart m data_segment k w j (omega arith) (omega arith) lt (omega (arith, h.fits)) ∙ h.code_bytes j less;
  data_words = λ j less. word_after m data_segment k w j (omega arith) h.bytes lt less ∙ put_choice cells k w j _ (h.data_words j less);
  stack_words = λ j less. word_apart m data_segment stack_segment k w j (omega arith) (omega arith) (inr (omega arith)) lt less ∙ h.stack_words j less;
}

pub holds_stack : (code : List ℕ) (cells stack : ℕ → ℕ) (m : List ℕ) (k w : ℕ) → k < 32768 → Holds code cells stack m
    → Holds code cells (put_word stack k w) (with_word m stack_segment (2 * k) w)
holds_stack code cells stack m k w lt h = record {
  bytes = length_after m stack_segment k w (omega arith) lt ∙ h.bytes;
  fits = h.fits;
  code_bytes = λ j less. byte_apart m stack_segment k w j (omega arith) (omega arith) lt (omega (arith, h.fits)) ∙ h.code_bytes j less;
  data_words = λ j less. word_apart m stack_segment data_segment k w j (omega arith) (omega arith) (inl (omega arith)) lt less ∙ h.data_words j less;
  stack_words = λ j less. word_after m stack_segment k w j (omega arith) h.bytes lt less ∙ put_choice stack k w j _ (h.stack_words j less);
}
