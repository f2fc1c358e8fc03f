-- The routines of products and quotients.
use Rattle.std.proofs.Common.{◌≡◌, ◌≢◌, inl, inr, ℕ, suc, ◌+◌, ◌-◌, ◌*◌, ◌/◌, ◌%◌, ◌^◌, ◌<◌, ◌≤◌, Bool, true, false, ℤ, pos, negsuc, ◌*ℤ◌, List, [], ◌∷◌, FitsSigned, refl, sym, ap, ap₂, ◌∙◌, subst, arith, lit<, lit≤}
use Rattle.std.specs.Int.{from_bool, w32}
use Rattle.std.proofs.Math.Nat.{div-le_self}
use Rattle.std.proofs.lemmas.Bool.{cases_lt, false≢true}
use Rattle.std.specs.Prelude.{bit_xor, bit_or, if◌then◌else◌, ◌-ℤ◌}
use Rattle.cw_i86.specs.Sums.{sum_flags, difference_flags, overflows, signed as signed_of}
use Rattle.std.proofs.lemmas.Int.{ints}
use Rattle.std.specs.Int.Bits.{or_self}
use Rattle.cw_i86.specs.declared.flags.Flags.{Flags}
use Rattle.cw_i86.specs.declared.instr.Instr.TheVariants as i86
use Rattle.cw_run86.specs.Processor.{Processor, Told}
use Rattle.cw_run86.specs.Views.{Has, word_sum, word_difference, word_up, word_down, word_down_signed, sign_of, product_low, product_high}
use Rattle.cw_run86.proofs.Tests.{Finds}
use Rattle.cw_word.specs.FixedPoint.{FitsWord, fits_word, floor_div, scaled_product, scaled_quotient}
use Rattle.cw_word.specs.Word.{signed, unsigned, magnitude, signs_differ, negative_if, signed_pair, sign_word, word_difference as difference_of_words}
use Rattle.cw_tmpl.specs.Library.{magnitudes}
use Rattle.cw_routines.specs.WordLaws.{NumberLaws}
use Rattle.cw_routines.specs.Ways.{At, HasAll, view, Leads, Within, Back}
use Rattle.cw_routines.specs.Results.{Stands, Fitting}
use Rattle.cw_routines.proofs.Arrive.{jumps_if, passes_if}
use Rattle.cw_routines.proofs.Sources.{Register}
use Rattle.cw_routines.proofs.Acts as acts
use Rattle.cw_routines.proofs.Chains.{Number, LowByte, AddLow, Load, Sum, Difference, One, Either, Comparison, SumShort, Negative, Up, Down, DownSigned, Product, Quotient, Sign, Exchange, done, more, last, afterwards, within, straight, both}
use Rattle.cw_routines.proofs.Facts.{not_below, below, unequal, not_unequal, fits_tested}
use Rattle.cw_routines.proofs.Places.{to_place, product_stands, too_large_stands, quotient_down_stands, quotient_up_stands, quotient_stands}
use Rattle.cw_routines.proofs.Stops.{run}
use Rattle.cw_routines.proofs.Numbers.{lower, lower_fits, sign_same, sign_fits, turned_by, magnitude_made, signs_made, fits_true, magnitude_small, magnitude_some}

-- all bits of a word, where something is negative
abbrev mask : Bool → ℕ
mask negative = if negative then 65535 else 0

limit_is : (negative : Bool) → word_difference 32768 (mask negative) ≡ 32768 + from_bool negative
limit_is true = refl
limit_is false = refl

limit_small : (negative : Bool) → 32768 + from_bool negative ≤ 32769
limit_small true = lit≤ tt
limit_small false = lit≤ tt

-- OF behind 80h and itself
low_byte_is : (ax : ℕ) → (ax / 256 * 256 + 128) % 256 ≡ 128
low_byte_is ax = omega arith

of_128 : (sum_flags 128 128 128 false).of ≡ true
unfolding signed_of
of_128 = refl

twice_overflows : (ax : ℕ) → (sum_flags 128 ((ax / 256 * 256 + 128) % 256) ((ax / 256 * 256 + 128) % 256) false).of ≡ true
twice_overflows ax = ap (λ n. (sum_flags 128 n n false).of) (low_byte_is ax) ∙ of_128

-- OF behind a comparison of equal words
none_left : (z : ℤ) → z -ℤ z -ℤ pos 0 ≡ pos 0
none_left z = omega (arith, ints)

same_fits : (a : ℕ) → (difference_flags 32768 a a false).of ≡ false
same_fits a = ap (overflows 32768) (none_left (signed_of 32768 a))

rest_low : (k : ℕ) → k ≤ 16 → word_sum (word_difference 0 k) 16 % 256 ≡ 16 - k
rest_low k few = omega arith

module _ (finds : Finds) (laws : NumberLaws) (Quiet : ℕ → Type 0) (code : List ℕ) (stands : Stands code) (library : (k : ℕ) → k < 438 → Quiet k) where
  quiet : {at : ℕ} (to : ℕ) → to ≤ 438 → (k : ℕ) → at ≤ k → k < to → Quiet k
  quiet {at} to le = run finds Quiet code stands library {at = at} to le

  -- ---- the ends

  module _ (bp n back area : ℕ) (cells stack : ℕ → ℕ) (input : List ℕ) (told : Told) (n_low : n < 32767) (way : stack n ≡ back) (back_small : back < 65536) where
    abbrev Here : (at ax cx dx bx si : ℕ) → Flags → Processor → Type 0
    Here at ax cx dx bx si f p = At code at (view ax cx dx bx (2 * n) bp si area cells stack input told) f p

    abbrev Answer : (ℕ → Flags → Type 0) → Processor → Type 0
    Answer P p = Back code back (2 * suc n) bp area cells stack input told P p

    with_low : {at x y cx dx bx si : ℕ} {f : Flags} {p : Processor} → x ≡ y → Here at x cx dx bx si f p → Here at y cx dx bx si f p
    with_low {at} {x} {y} {cx} {dx} {bx} {si} {f} {p} e s = subst (λ n. Here at n cx dx bx si f p) e s

    with_pair : {at x y cx v w bx si : ℕ} {f : Flags} {p : Processor} → x ≡ y → v ≡ w → Here at x cx v bx si f p → Here at y cx w bx si f p
    with_pair {at} {x} {y} {cx} {v} {w} {bx} {si} {f} {p} e g s = subst (λ n. Here at n cx w bx si f p) e (subst (λ m. Here at x cx m bx si f p) g s)

    remade : {at to x y cx dx bx b si m : ℕ} {f : Flags} {p : Processor} → at ≡ to → x ≡ y → bx ≡ b → si ≡ m → Here at x cx dx bx si f p → Here to y cx dx b m f p
    remade {at} {to} {x} {y} {cx} {dx} {bx} {b} {si} {m} {f} {p} ea ex eb em s = subst (λ n. Here n y cx dx b m f p) ea
        (subst (λ n. Here at n cx dx b m f p) ex (subst (λ n. Here at x cx dx n m f p) eb (subst (λ n. Here at x cx dx bx n f p) em s)))

    returned : (P : ℕ → Flags → Type 0) (at ax cx dx bx si : ℕ) (f : Flags) {p : Processor} → at < 438 → Has code at i86.Ret → P ax f → Here at ax cx dx bx si f p
        → Leads Quiet code told.output 1 p (Answer P)
    returned P at ax cx dx bx si f lt i holds s =
        let whole : back ≡ back % 65536 = omega arith in
        let here : at ≡ at % 65536 = omega arith in
        let top : 2 * n ≡ 2 * n % 65536 = omega arith in
        let up : 2 * suc n % 65536 ≡ 2 * suc n = omega arith in
        last Quiet code told.output finds s (subst Quiet here (library at lt)) refl
        (record { ax = ax; cx = cx; dx = dx; bx = bx; si = si; flags = f; is = acts.return finds s n (2 * suc n) back i (omega arith) top up (way ∙ whole); answers = holds })

    too_large : (z : ℤ) (ax cx dx bx si : ℕ) (f : Flags) {p : Processor} → Here 261 ax cx dx bx si f p → Leads Quiet code told.output 3 p (Answer (Fitting false z))
    too_large z ax cx dx bx si f s =
        let h = too_large_stands code stands in
        straight Quiet code told.output finds (LowByte 128 ∷ AddLow ∷ []) {n = 1} (quiet 265 (lit≤ tt)) refl (h.0, (h.1.0, tt))
        (tt, (tt, tt)) s (λ q u.
        returned (Fitting false z) 265 _ cx dx bx si _ (lit< tt) h.1.1.0 (twice_overflows ax) u)

    -- ---- products

    module _ (x y : ℤ) (fx : FitsWord x) (fy : FitsWord y) (j k : ℕ) (count : k ≡ suc j) (few : k ≤ 15) where
      whole_fits : FitsSigned w32 (signed (unsigned x) *ℤ signed (unsigned y))
      whole_fits = laws.product_fits (unsigned x) (unsigned y) (laws.words.unsigned_fits x fx) (laws.words.unsigned_fits y fy)

      whole_is : signed (unsigned x) *ℤ signed (unsigned y) ≡ x *ℤ y
      whole_is = ap₂ (λ a b. a *ℤ b) (laws.words.back x fx) (laws.words.back y fy)

      abbrev H : ℕ
      H = product_high (unsigned x) (unsigned y)

      abbrev L : ℕ
      L = product_low (unsigned x) (unsigned y)

      high_fits : product_high (unsigned x) (unsigned y) < 65536
      high_fits = laws.high (signed (unsigned x) *ℤ signed (unsigned y)) whole_fits

      low_fits : product_low (unsigned x) (unsigned y) < 65536
      low_fits = laws.low (signed (unsigned x) *ℤ signed (unsigned y))

      pair_is : signed_pair (product_high (unsigned x) (unsigned y)) (product_low (unsigned x) (unsigned y)) ≡ x *ℤ y
      pair_is = laws.halves (signed (unsigned x) *ℤ signed (unsigned y)) whole_fits ∙ whole_is

      -- what is left of the lower word and what comes from the upper one, and what is left of that
      abbrev value : ℕ
      value = lower H L k

      abbrev above : ℕ
      above = word_down_signed H k

      pair_value_is : signed_pair above value ≡ scaled_product x y (negsuc j)
      pair_value_is = laws.pair_down H L k high_fits low_fits (omega arith) ∙ ap (λ z. floor_div z (2 ^ k)) pair_is ∙ ap (λ n. floor_div (x *ℤ y) (2 ^ n)) count
          ∙ sym (laws.scaled_down (x *ℤ y) j)

      value_fits : value < 65536
      value_fits = lower_fits H L k

      above_fits : above < 65536
      above_fits = laws.down_fits H k high_fits

      sign_there : fits_word (scaled_product x y (negsuc j)) ≡ true → sign_of value ≡ above
      sign_there is =
          let f : FitsWord (signed_pair above value) = subst FitsWord (sym pair_value_is) (fits_tested (scaled_product x y (negsuc j)) is) in
          let e : above ≡ sign_word value = (laws.pair_fits above value above_fits value_fits).0 f in
          sign_same value ∙ sym e

      sign_missing : fits_word (scaled_product x y (negsuc j)) ≡ false → sign_of value ≢ above
      sign_missing is = λ e.
          let f : FitsWord (signed_pair above value) = (laws.pair_fits above value above_fits value_fits).1 (sym e ∙ sign_same value) in
          let yes : fits_word (scaled_product x y (negsuc j)) ≡ true = fits_true (scaled_product x y (negsuc j)) (subst FitsWord pair_value_is f) in
          false≢true (sym is ∙ yes)

      word_is : fits_word (scaled_product x y (negsuc j)) ≡ true → value ≡ unsigned (scaled_product x y (negsuc j))
      word_is is =
          let f : FitsWord (signed_pair above value) = subst FitsWord (sym pair_value_is) (fits_tested (scaled_product x y (negsuc j)) is) in
          let e : above ≡ sign_word value = (laws.pair_fits above value above_fits value_fits).0 f in
          sym (laws.words.forth value value_fits) ∙ ap unsigned (sym (laws.pair_value above value above_fits value_fits e) ∙ pair_value_is)

      -- to the test
      shifted : {dx si : ℕ} {f : Flags} {p : Processor} → Here 236 (unsigned x) k dx (unsigned y) si f p
          → Leads Quiet code told.output 11 p (λ q. Here 258 value (word_sum (word_difference 0 k) 16) (sign_of value) above si
          (difference_flags 32768 (sign_of value) above false) q)
      shifted {dx} {si} {f} {p} s =
          let h = product_stands code stands in
          let first : k % 256 ≡ k = omega arith in
          let le : k ≤ 16 = omega arith in
          let second = rest_low k le in
          straight Quiet code told.output finds
          (Product 3 ∷ Down 0 ∷ Load 3 (Register 2) ∷ DownSigned 2 ∷ Negative 1 ∷ SumShort 1 16 ∷ Up 3 ∷ Sum 0 (Register 3) ∷ Load 3 (Register 2) ∷ Sign
          ∷ Comparison 2 (Register 3) ∷ []) {n = 0} (quiet 258 (lit≤ tt)) refl (
            h.0,
            (
              h.1.0,
              (
                h.1.1.0,
                (
                  h.1.1.1.0,
                  (
                    h.1.1.1.1.0,
                    (h.1.1.1.1.1.0, (h.1.1.1.1.1.1.0, (h.1.1.1.1.1.1.1.0, (h.1.1.1.1.1.1.1.1.0, (h.1.1.1.1.1.1.1.1.1.0, (h.1.1.1.1.1.1.1.1.1.1.0, tt)))))),
                  ),
                ),
              ),
            ),
          ) (tt, (tt, (tt, (high_fits, (tt, (tt, (high_fits, (tt, (tt, (tt, (tt, tt))))))))))) s (λ q u.
          done Quiet code told.output
          (subst (λ i. Here 258 (lower_by i (16 - k)) (word_sum (word_difference 0 k) 16) (sign_of (lower_by i (16 - k))) (word_down_signed H i) si
          (difference_flags 32768 (sign_of (lower_by i (16 - k))) (word_down_signed H i) false) q) first
          (subst (λ j. Here 258 (lower_by (k % 256) j) (word_sum (word_difference 0 k) 16) (sign_of (lower_by (k % 256) j)) (word_down_signed H (k % 256)) si
          (difference_flags 32768 (sign_of (lower_by (k % 256) j)) (word_down_signed H (k % 256)) false) q) second u)))
        where
          lower_by : (i j : ℕ) → ℕ
          lower_by i j = word_sum (word_down L i) (word_up H j)

      pub product_comes : (b : Bool) → fits_word (scaled_product x y (negsuc j)) ≡ b → {dx si : ℕ} {f : Flags} {p : Processor} → Here 236 (unsigned x) k dx (unsigned y) si f p
          → Within Quiet code told.output 15 p (Answer (Fitting b (scaled_product x y (negsuc j))))
      product_comes true is {si = si} s =
          let h = product_stands code stands in
          let g = h.1.1.1.1.1.1.1.1.1.1.1 in
          let e = sign_there is in
          within Quiet code told.output 13 15 (lit≤ tt)
          (both Quiet code told.output 11 2 (shifted s) (λ q u.
          more Quiet code told.output finds u (library 258 (lit< tt)) refl (passes_if finds 5 1 g.0 (not_unequal (sign_of value) above (sign_fits value) above_fits e) u) (λ q u.
          returned (Fitting true (scaled_product x y (negsuc j))) 260 value (word_sum (word_difference 0 k) 16) (sign_of value) above si
          (difference_flags 32768 (sign_of value) above false) (lit< tt) g.1.0
          (word_is is, ap (λ a. (difference_flags 32768 a above false).of) e ∙ same_fits above) u)))
      product_comes false is {si = si} s =
          let h = product_stands code stands in
          let g = h.1.1.1.1.1.1.1.1.1.1.1 in
          within Quiet code told.output 15 15 (lit≤ tt)
          (both Quiet code told.output 11 4 (shifted s) (λ q u.
          more Quiet code told.output finds u (library 258 (lit< tt)) refl
          (jumps_if finds 5 1 g.0 (unequal (sign_of value) above (sign_fits value) above_fits (sign_missing is)) u) (λ q u.
          too_large (scaled_product x y (negsuc j)) value (word_sum (word_difference 0 k) 16) (sign_of value) above si (difference_flags 32768 (sign_of value) above false) u)))

    -- ---- the end of both quotients

    module _ (negative : Bool) (high low d : ℕ) (some : 0 < d) (ll : low < 65536) where
      abbrev result : ℕ
      result = (65536 * high + low) / d

      abbrev number : ℤ
      number = negative_if negative result

      below_when : result < 65536 → high < d
      below_when lt =
          let e : high * 65536 + low ≡ 65536 * high + low = omega arith in
          (laws.divides high low d ll some).0 (subst (λ n. n / d < 65536) (sym e) lt)

      divides_when : high < d → result < 65536
      divides_when lt =
          let e : high * 65536 + low ≡ 65536 * high + low = omega arith in
          subst (λ n. n / d < 65536) e ((laws.divides high low d ll some).1 lt)

      fits_when : fits_word number ≡ true → result < 32768 + from_bool negative
      fits_when is = (laws.quotient_fits negative result).0 (fits_tested number is)

      missing_when : fits_word number ≡ false → 32768 + from_bool negative ≤ result
      missing_when is = elim (cases_lt result (32768 + from_bool negative)) as (λ _. 32768 + from_bool negative ≤ result) [
        | inl lt ↦ let yes = fits_true number ((laws.quotient_fits negative result).1 lt) in absurd (false≢true (sym is ∙ yes))
        | inr ge ↦ ge
      ]

      number_is : fits_word number ≡ true → word_difference (bit_xor result (mask negative)) (mask negative) ≡ unsigned number
      number_is is =
          let lt = fits_when is in
          let few = limit_small negative in
          let small : result < 65536 = omega arith in
          turned_by negative result small ∙ sym (laws.words.forth (if negative then difference_of_words 0 result else result) (fits negative small))
          ∙ ap unsigned (laws.quotient_value negative result lt)
        where
          fits : (negative : Bool) → result < 65536 → (if negative then difference_of_words 0 result else result) < 65536
          fits true small = omega arith
          fits false small = small

      -- to the second test
      divided : (cx : ℕ) (f : Flags) {p : Processor} → high < d → Here 316 low cx high d (mask negative) f p
          → Leads Quiet code told.output 6 p (λ q. Here 329 result cx (word_difference 32768 (mask negative)) d (mask negative)
          (difference_flags 32768 result (word_difference 32768 (mask negative)) false) q)
      divided cx f lt s =
          let h = quotient_stands code stands in
          let g = h.1.1 in
          straight Quiet code told.output finds (Comparison 2 (Register 3) ∷ []) {n = 5} (quiet 318 (lit≤ tt)) refl (h.0, tt) (tt, tt) s (λ q u.
          more Quiet code told.output finds u (library 318 (lit< tt)) refl (passes_if finds 3 0xC5 h.1.0 (below high d lt) u) (λ q u.
          straight Quiet code told.output finds (Quotient 3 ∷ Number 2 32768 ∷ Difference 2 (Register 6) ∷ Comparison 0 (Register 2) ∷ []) {n = 0} (quiet 329 (lit≤ tt)) refl
          (g.0, (g.1.0, (g.1.1.0, (g.1.1.1.0, tt))))
          ((some, divides_when lt), (tt, (tt, (tt, tt)))) u (λ q u. done Quiet code told.output u)))

      end_comes : (b : Bool) → fits_word number ≡ b → (cx : ℕ) (f : Flags) {p : Processor} → Here 316 low cx high d (mask negative) f p
          → Within Quiet code told.output 11 p (Answer (Fitting b number))
      end_comes true is cx f s =
          let g = (quotient_stands code stands).1.1.1.1.1.1 in
          let lt = fits_when is in
          let few = limit_small negative in
          let below_all : result < 65536 = omega arith in
          let T = word_difference 32768 (mask negative) in
          let S = mask negative in
          let under : result < T = let e = limit_is negative in omega arith in
          let w = word_difference (bit_xor result S) S in
          within Quiet code told.output 11 11 (lit≤ tt)
          (both Quiet code told.output 6 5 (divided cx f (below_when below_all) s) (λ q u.
          more Quiet code told.output finds u (library 329 (lit< tt)) refl (passes_if finds 3 0xBA g.0 (below result T under) u) (λ q u.
          straight Quiet code told.output finds (One 0 (Register 6) ∷ Difference 0 (Register 6) ∷ Either 0 (Register 0) ∷ []) {n = 1} (quiet 337 (lit≤ tt)) refl
          (g.1.0, (g.1.1.0, (g.1.1.1.0, tt)))
          (tt, (tt, (tt, tt))) u (λ q u.
          returned (Fitting true number) 337 (bit_or w w) cx T d S _ (lit< tt) g.1.1.1.1.0 (or_self w ∙ number_is is, refl) u))))
      end_comes false is cx f {p} s =
          let h = quotient_stands code stands in
          let g = h.1.1.1.1.1.1 in
          let ge = missing_when is in
          let T = word_difference 32768 (mask negative) in
          let S = mask negative in
          let over : T ≤ result = let e = limit_is negative in omega arith in
          elim (cases_lt high d) as (λ _. Within Quiet code told.output 11 p (Answer (Fitting false number))) [
            | inl lt ↦
                within Quiet code told.output 10 11 (lit≤ tt)
                (both Quiet code told.output 6 4 (divided cx f lt s) (λ q u.
                more Quiet code told.output finds u (library 329 (lit< tt)) refl (to_place {to = 261} refl (jumps_if finds 3 0xBA g.0 (not_below result T over) u)) (λ q u.
                too_large number result cx T d S (difference_flags 32768 result T false) u)))
            | inr above ↦
                within Quiet code told.output 5 11 (lit≤ tt)
                (straight Quiet code told.output finds (Comparison 2 (Register 3) ∷ []) {n = 4} (quiet 318 (lit≤ tt)) refl (h.0, tt) (tt, tt) s (λ q u.
                more Quiet code told.output finds u (library 318 (lit< tt)) refl (to_place {to = 261} refl (jumps_if finds 3 0xC5 h.1.0 (not_below high d above) u)) (λ q u.
                too_large number low cx high d S (difference_flags 32768 high d false) u)))
          ]

    -- ---- the quotients

    module _ (x y : ℤ) (fx : FitsWord x) (fy : FitsWord y) (other : unsigned y ≢ 0) where
      a_fits : unsigned x < 65536
      a_fits = laws.words.unsigned_fits x fx

      d_fits : unsigned y < 65536
      d_fits = laws.words.unsigned_fits y fy

      abbrev differ : Bool
      differ = signs_differ (unsigned x) (unsigned y)

      abbrev M : ℕ
      M = magnitude (unsigned x)

      abbrev D : ℕ
      D = magnitude (unsigned y)

      some : 0 < magnitude (unsigned y)
      some = magnitude_some (unsigned y) d_fits other

      -- the magnitudes
      found : (at k : ℕ) (silent : (i : ℕ) → at ≤ i → i < at + 16 → Quiet i) {dx si : ℕ} {f : Flags} {p : Processor} → HasAll code at magnitudes
          → Here at (unsigned x) k dx (unsigned y) si f p
          → Leads Quiet code told.output 10 p (λ q. (g : Flags) × Here (at + 16) M k (sign_of (unsigned y)) D (mask differ) g q)
      found at k silent {dx} {si} {f} {p} h s =
          let a = unsigned x in
          let d = unsigned y in
          let there : at + 1 + 2 + 2 + 2 + 1 + 1 + 2 + 2 + 2 + 1 ≡ at + 16 = omega arith in
          straight Quiet code told.output finds
          (Sign ∷ Load 6 (Register 2) ∷ One 0 (Register 2) ∷ Difference 0 (Register 2) ∷ Exchange 3 ∷ Sign ∷ One 6 (Register 2) ∷ One 0 (Register 2) ∷ Difference 0 (Register 2)
          ∷ Exchange 3 ∷ []) {n = 0}
          (λ i lo hi. silent i lo (let hi' : i < at + 1 + 2 + 2 + 2 + 1 + 1 + 2 + 2 + 2 + 1 = hi in omega arith)) refl
          (h.0, (h.1.0, (h.1.1.0, (h.1.1.1.0, (h.1.1.1.1.0, (h.1.1.1.1.1.0, (h.1.1.1.1.1.1.0, (h.1.1.1.1.1.1.1.0, (h.1.1.1.1.1.1.1.1.0, (h.1.1.1.1.1.1.1.1.1.0, tt)))))))))) (tt, (tt, (tt, (tt, (tt, (tt, (tt, (tt, (tt, (tt, tt)))))))))) s (λ q u.
          done Quiet code told.output (_, remade there (magnitude_made a a_fits) (magnitude_made d d_fits) (signs_made a d) u))

      pub down_comes : (j k : ℕ) → k ≡ suc j → k ≤ 15 → (b : Bool) → fits_word (scaled_quotient x y (negsuc j)) ≡ b → {dx si : ℕ} {f : Flags} {p : Processor}
          → Here 266 (unsigned x) k dx (unsigned y) si f p
          → Within Quiet code told.output 24 p (Answer (Fitting b (scaled_quotient x y (negsuc j))))
      down_comes j k count few b is {f = f} {p = p} s =
          let h = quotient_down_stands code stands in
          let g = h.1.1.1.1.1.1.1.1.1.1 in
          let low = M / 2 ^ k in
          let le = div-le_self M (2 ^ k) in
          let most = magnitude_small (unsigned x) a_fits in
          let ll : M / 2 ^ k < 65536 = omega arith in
          let first : k % 256 ≡ k = omega arith in
          let plain : 65536 * 0 + low ≡ low = omega arith in
          let value : negative_if differ ((65536 * 0 + low) / D) ≡ scaled_quotient x y (negsuc j) =
          ap (λ n. negative_if differ (n / D)) plain ∙ ap (λ n. negative_if differ (M / 2 ^ n / D)) count ∙ sym (laws.quotient_down (unsigned x) (unsigned y) j a_fits d_fits)
          ∙ ap₂ (λ p q. scaled_quotient p q (negsuc j)) (laws.words.back x fx) (laws.words.back y fy) in
          subst (λ z. Within Quiet code told.output 24 p (Answer (Fitting b z))) value
          (afterwards Quiet code told.output 13 11 24 (lit≤ tt)
          (both Quiet code told.output {U = λ q. (g : Flags) × Here 316 low k 0 D (mask differ) g q} 10 3
          (found 266 k (λ i lo hi. library i (omega arith))
          (h.0, (h.1.0, (h.1.1.0, (h.1.1.1.0, (h.1.1.1.1.0, (h.1.1.1.1.1.0, (h.1.1.1.1.1.1.0, (h.1.1.1.1.1.1.1.0, (h.1.1.1.1.1.1.1.1.0, (h.1.1.1.1.1.1.1.1.1.0, tt)))))))))) s)
          (λ q u.
          straight Quiet code told.output finds (Down 0 ∷ Number 2 0 ∷ []) {n = 1} (quiet 287 (lit≤ tt)) refl (g.0, (g.1.0, tt))
          (tt, (tt, tt)) u.1 (λ q u.
          more Quiet code told.output finds u (library 287 (lit< tt)) refl (to_place {to = 316} refl (acts.short finds u 0x1B g.1.1.0)) (λ q u.
          done Quiet code told.output (_, with_low (ap (word_down M) first) u)))))
          (λ q u. end_comes differ 0 low D some ll b (ap fits_word value ∙ is) k u.0 u.1))

      pub up_comes : (k : ℕ) → k ≤ 16 → (b : Bool) → fits_word (scaled_quotient x y (pos k)) ≡ b → {dx si : ℕ} {f : Flags} {p : Processor}
          → Here 289 (unsigned x) k dx (unsigned y) si f p
          → Within Quiet code told.output 26 p (Answer (Fitting b (scaled_quotient x y (pos k))))
      up_comes k few b is {f = f} {p = p} s =
          let h = quotient_up_stands code stands in
          let g = h.1.1.1.1.1.1.1.1.1.1 in
          let low = word_up M k in
          let high = M / 2 ^ (16 - k) in
          let turned = word_sum (word_difference 0 k) 16 in
          let most = magnitude_small (unsigned x) a_fits in
          let ml : M < 65536 = omega arith in
          let ll : word_up M k < 65536 = omega arith in
          let first : k % 256 ≡ k = omega arith in
          let second = rest_low k few in
          let whole : 65536 * high + low ≡ M * 2 ^ k = (let e = laws.pair_up M k few in omega arith) in
          let value : negative_if differ ((65536 * high + low) / D) ≡ scaled_quotient x y (pos k) =
          ap (λ n. negative_if differ (n / D)) whole ∙ sym (laws.quotient_up (unsigned x) (unsigned y) k a_fits d_fits)
          ∙ ap₂ (λ p q. scaled_quotient p q (pos k)) (laws.words.back x fx) (laws.words.back y fy) in
          subst (λ z. Within Quiet code told.output 26 p (Answer (Fitting b z))) value
          (afterwards Quiet code told.output 15 11 26 (lit≤ tt)
          (both Quiet code told.output {U = λ q. (g : Flags) × Here 316 low turned high D (mask differ) g q} 10 5
          (found 289 k (λ i lo hi. library i (omega arith))
          (h.0, (h.1.0, (h.1.1.0, (h.1.1.1.0, (h.1.1.1.1.0, (h.1.1.1.1.1.0, (h.1.1.1.1.1.1.0, (h.1.1.1.1.1.1.1.0, (h.1.1.1.1.1.1.1.1.0, (h.1.1.1.1.1.1.1.1.1.0, tt)))))))))) s)
          (λ q u.
          straight Quiet code told.output finds (Load 2 (Register 0) ∷ Up 0 ∷ Negative 1 ∷ SumShort 1 16 ∷ Down 2 ∷ []) {n = 0} (quiet 316 (lit≤ tt)) refl
          (g.0, (g.1.0, (g.1.1.0, (g.1.1.1.0, (g.1.1.1.1.0, tt)))))
          (tt, (ml, (tt, (tt, (tt, tt))))) u.1 (λ q u.
          done Quiet code told.output (_, with_pair (ap (word_up M) first) (ap (word_down M) second) u))))
          (λ q u. end_comes differ high low D some ll b (ap fits_word value ∙ is) turned u.0 u.1))
