-- What follows the body of a loop of one STEP element.
use Rattle.std.proofs.Common.{◌≡◌, ◌≢◌, ℕ, zero, suc, ◌+◌, ◌*◌, ◌%◌, ◌<◌, ◌≤◌, Bool, true, false, not, ℤ, pos, negsuc, ◌+ℤ◌, List, [], ◌∷◌, length, set, refl, sym, ap, ◌∙◌, subst, arith, lit<, lit≤, inl, inr, get_or-set_same, get_or-set_other}
use Rattle.std.specs.Prelude.{◌⊎◌, nat_lt, nat_le, nat_eq, ◌==◌, ◌&&◌, int_lt, bit_or}
use Rattle.std.specs.Int.Bits.{or_self}
use Rattle.std.proofs.lemmas.Bool.{cases_eq, eqb-true, eqb-false}
use Rattle.std.proofs.lemmas.Bool.Decides.{nat_tests}
use Rattle.std.proofs.lemmas.Int.{ints}
use Rattle.cw_i86.specs.Sums.{sum_flags, difference_flags, logic_flags}
use Rattle.cw_i86.specs.Shifts.{shift_flags}
use Rattle.cw_i86.specs.declared.shift.ShiftOp.TheVariants.{Shl}
use Rattle.cw_i86.specs.Effect.{holds as meets}
use Rattle.cw_i86.specs.declared.flags.Flags.{Flags}
use Rattle.cw_i86.specs.declared.instr.Place.TheVariants as places
use Rattle.cw_i86.specs.declared.instr.Instr.{Instr}
use Rattle.cw_i86.specs.declared.instr.Instr.TheVariants as i86
use Rattle.cw_i86.specs.State.{sign_extended, default_segment, data_segment}
use Rattle.cw_run86.specs.Processor.{Processor, Told}
use Rattle.cw_run86.specs.Views.{Has, put_word, word_sum}
use Rattle.cw_run86.proofs.Tests.{Finds}
use Rattle.cw_word.specs.FixedPoint.{FitsWord, fits_word}
use Rattle.cw_word.specs.Word.{unsigned}
use Rattle.cw_unit.specs.Stop.{Overflow, AddressRange}
use Rattle.cw_unit.specs.Words.{Words, with_memory, word_at, number_of, is_below, through}
use Rattle.cw_unit.specs.Operation.{store_sum, is_past}
use Rattle.cw_order.specs.OrderChanges.{Way, to_mark_if, way_behind, turn_if, turned, stepped_if, stepped}
use Rattle.cw_tmpl.specs.Mnemonics as short
use Rattle.cw_routines.specs.WordLaws.{WordLaws}
use Rattle.cw_routines.specs.Ways.{At, HasAll, HasWord, view, Leads, Within, Over}
use Rattle.cw_routines.specs.Results.{Stands, Holds, Tells, Answered, AtMost, GoesOn}
use Rattle.cw_routines.proofs.Arrive.{jumps_if, passes_if}
use Rattle.cw_routines.proofs.Sources.{Register, Cell}
use Rattle.cw_routines.proofs.Acts as acts
use Rattle.cw_routines.proofs.Chains.{LowByte, OrLow, Load, Store, Sum, Either, Comparison, ComparisonShort, Double, done, more, last, afterwards, within, onward, straight, both}
use Rattle.cw_routines.proofs.Facts.{not_below, below, equal, not_equal, unequal, not_unequal, tested_at_most, tested_sign, tested_zero, never_at_most, fits_tested, positive_fits, negative_fits, unsigned_pos, unsigned_negative, sum_overflows, sum_is, compared, stored, fits_there, inside, outside, twice_positive, not_positive}
use Rattle.cw_routines.proofs.Places.{to_place, next_step_stands, stepped_stands, left_stands, stepped_any_stands, turned_stands}
use Rattle.cw_routines.proofs.Stops.{step_address_stops, step_sum_stops, run}
use Rattle.cw_routines.proofs.Loops.{not_greater}

module _ (finds : Finds) (laws : WordLaws) (Quiet : ℕ → Type 0) (code : List ℕ) (stands : Stands code) (library : (k : ℕ) → k < 438 → Quiet k) where
  module _ (area a mark line bp n r segment back dx : ℕ) (stack : ℕ → ℕ) (input : List ℕ) (told : Told) (small : a + 3 < area)
      (line_there : HasWord code (back + 5) line) (line_small : line < 65536) (n_low : n < 32767) (way : stack n ≡ back) (back_small : back < 65536) (record_is : Tells stack bp r segment) where
    abbrev On : Way → Processor → Type 0
    On o p = GoesOn code told.output area back (2 * suc n) bp segment line stack input told o p

    abbrev Here : (at ax cx si : ℕ) → Flags → (ℕ → ℕ) → Processor → Type 0
    Here at ax cx si f cells p = At code at (view ax cx dx (2 * a) (2 * n) bp si area cells stack input told) f p

    quiet : {at : ℕ} (to : ℕ) → to ≤ 438 → (k : ℕ) → at ≤ k → k < to → Quiet k
    quiet {at} to le = run finds Quiet code stands library {at = at} to le

    -- the first three words of the loop, which are the address of the control variable, the step and the limit; and the sum of the step and the word at
    -- an address
    abbrev variable : List ℤ → ℤ
    variable memory = word_at memory a

    abbrev step_of : List ℤ → ℤ
    step_of memory = word_at memory (a + 1)

    abbrev limit : List ℤ → ℤ
    limit memory = word_at memory (a + 2)

    abbrev sum : List ℤ → ℕ → ℤ
    sum memory k = word_at memory k +ℤ step_of memory

    -- ---- words that the routine reads

    -- a word of the loop, by its distance from BX
    field : (i : ℕ) → i ≤ 3 → {memory : List ℤ} {cells : ℕ → ℕ} → Holds area memory cells
        → (default_segment (places.Near 7 (2 * i)) ≡ data_segment) × (a + i < 32768) × ((2 * a + 2 * i) % 65536 ≡ 2 * (a + i))
        × (cells (a + i) ≡ unsigned (word_at memory (a + i)))
    field i le h =
        let low = h.low in
        let e : a + i < 32768 = omega arith in
        let there : (2 * a + 2 * i) % 65536 ≡ 2 * (a + i) = omega arith in
        (refl, e, there, h.words (a + i) (omega arith))

    fits : (i : ℕ) → i ≤ 3 → {memory : List ℤ} {cells : ℕ → ℕ} → Holds area memory cells → FitsWord (word_at memory (a + i))
    fits i le h = fits_there (a + i) (omega arith) h

    first_fits : {memory : List ℤ} {cells : ℕ → ℕ} → Holds area memory cells → FitsWord (variable memory)
    first_fits h = fits_there a (omega arith) h

    below_half : {k : ℕ} {memory : List ℤ} {cells : ℕ → ℕ} → Holds area memory cells → k < area → k < 32768
    below_half h lt = let low = h.low in omega arith

    with_ax : {at x y cx si : ℕ} {f : Flags} {cells : ℕ → ℕ} {p : Processor} → x ≡ y → Here at x cx si f cells p → Here at y cx si f cells p
    with_ax {at} {x} {y} {cx} {si} {f} {cells} {p} e s = subst (λ n. Here at n cx si f cells p) e s

    -- ---- the ends

    answered : (b : Bool) (w : Words) {q : Processor} → Answered code area back (2 * suc n) bp stack input told w (AtMost b) q → On (to_mark_if b mark w) q
    answered true w t = t
    answered false w t = t

    returned : (b : Bool) {at ax cx si : ℕ} {f : Flags} {cells : ℕ → ℕ} {p : Processor} (w : Words) → at < 438 → Has code at i86.Ret → meets f 14 ≡ b
        → Holds area w.memory cells → Here at ax cx si f cells p → Leads Quiet code told.output 1 p (On (to_mark_if b mark w))
    returned b {at} {ax} {cx} {si} {f} {cells} {p} w lt i e h s =
        let whole : back ≡ back % 65536 = omega arith in
        let here : at ≡ at % 65536 = omega arith in
        let low : n < 32768 = omega arith in
        let top : 2 * n ≡ 2 * n % 65536 = omega arith in
        let up : 2 * suc n % 65536 ≡ 2 * suc n = omega arith in
        last Quiet code told.output finds s (subst Quiet here (library at lt)) refl (answered b w (record {
          cells = cells;
          holds_words = h;
          back = record { ax = ax; cx = cx; dx = dx; bx = 2 * a; si = si; flags = f; is = acts.return finds s n (2 * suc n) back i low top up (way ∙ whole); answers = e };
        }))

    bad_address : {ax cx si : ℕ} {f : Flags} {cells : ℕ → ℕ} {p : Processor} → Here 416 ax cx si f cells p
        → Leads Quiet code told.output 13 p (Over told.output AddressRange segment line)
    bad_address s = step_address_stops finds Quiet code stands library back line n r segment (omega arith) way line_there line_small record_is s

    bad_sum : {ax cx si : ℕ} {f : Flags} {cells : ℕ → ℕ} {p : Processor} → Here 420 ax cx si f cells p
        → Leads Quiet code told.output 12 p (Over told.output Overflow segment line)
    bad_sum s = step_sum_stops finds Quiet code stands library back line n r segment (omega arith) way line_there line_small record_is s

    -- ---- the address of the control variable

    abbrev addressed : (by : ℕ) → List Instr
    addressed by = short.load short.si short.at_bx ∷ short.compare short.si short.di ∷ short.jump_if_not_below by ∷ []

    abbrev Compared : (at ax cx : ℕ) → List ℤ → (ℕ → ℕ) → Processor → Type 0
    Compared at ax cx memory cells p = Here at ax cx (unsigned (variable memory)) (difference_flags 32768 (unsigned (variable memory)) area false) cells p

    compares : (at by : ℕ) → HasAll code at (addressed by) → at + 6 ≤ 438 → {ax cx si : ℕ} {f : Flags} {cells : ℕ → ℕ} {p : Processor} {memory : List ℤ}
        → Holds area memory cells → Here at ax cx si f cells p → Leads Quiet code told.output 2 p (Compared (at + 2 + 2) ax cx memory cells)
    compares at by g low {memory = memory} h s =
        let e : a < 32768 = below_half h (omega arith) in
        straight Quiet code told.output finds (Load 6 (Cell (places.Plain 7) a (unsigned (variable memory))) ∷ Comparison 6 (Register 7) ∷ []) {n = 0}
        (quiet (at + 2 + 2) (omega arith)) refl (g.0, (g.1.0, tt))
        ((refl, e, refl, h.words a (omega arith)), (tt, tt)) s (λ q u. done Quiet code told.output u)

    -- outside the area
    outside_stops : (at by : ℕ) → HasAll code at (addressed by) → at + 6 ≤ 438 → (at + 2 + 2 + 2 + sign_extended by) % 65536 ≡ 416
        → {ax cx si : ℕ} {f : Flags} {cells : ℕ → ℕ} {p : Processor} {memory : List ℤ} → Holds area memory cells → is_below (variable memory) area ≡ false
        → Here at ax cx si f cells p → Leads Quiet code told.output 16 p (Over told.output AddressRange segment line)
    outside_stops at by g low there {memory = memory} h is s =
        let e : at + 2 + 2 ≡ (at + 2 + 2) % 65536 = omega arith in
        let no = not_below (unsigned (variable memory)) area (outside area (variable memory) (first_fits h) is h.low) in
        both Quiet code told.output 2 14 (compares at by g low h s) (λ q u.
        more Quiet code told.output finds u (subst Quiet e (library (at + 2 + 2) (omega arith))) refl (to_place {to = 416} there (jumps_if finds 3 by g.1.1.0 no u)) (λ q u.
        bad_address u))

    -- within it
    inside_passes : (at by : ℕ) → HasAll code at (addressed by) → at + 6 ≤ 438 → {ax cx si : ℕ} {f : Flags} {cells : ℕ → ℕ} {p : Processor} {memory : List ℤ}
        → Holds area memory cells → is_below (variable memory) area ≡ true → Here at ax cx si f cells p
        → Leads Quiet code told.output 3 p (Compared (at + 2 + 2 + 2) ax cx memory cells)
    inside_passes at by g low {memory = memory} h is s =
        let e : at + 2 + 2 ≡ (at + 2 + 2) % 65536 = omega arith in
        let i = inside area (variable memory) is h.low in
        let same = i.1 in
        let in_area = i.0 in
        let lower : unsigned (variable memory) < area = omega arith in
        let yes = below (unsigned (variable memory)) area lower in
        both Quiet code told.output 2 1 (compares at by g low h s) (λ q u.
        more Quiet code told.output finds u (subst Quiet e (library (at + 2 + 2) (omega arith))) refl (passes_if finds 3 by g.1.1.0 yes u) (λ q u.
        done Quiet code told.output u))

    -- ---- a turn

    -- the flags behind the test of a word
    abbrev tested : ℤ → Flags → Flags
    tested z f = logic_flags 32768 (bit_or (unsigned z) (unsigned z)) f

    -- whether the word at an address is not past the limit
    abbrev Turn : (step : ℤ) (k : ℕ) → Words → Way
    Turn step k w = to_mark_if (not (is_past step (word_at w.memory k) (limit w.memory))) mark w

    -- behind the test of the step
    turns_by : (step : ℤ) (k : ℕ) (f : Flags) {si : ℕ} {cells : ℕ → ℕ} {p : Processor} (w : Words) → Holds area w.memory cells → k < area → FitsWord step
        → Here 402 (bit_or (unsigned step) (unsigned step)) (unsigned (word_at w.memory k)) si (tested step f) cells p
        → Within Quiet code told.output 4 p (On (Turn step k w))
    turns_by (negsuc m) k f w h lt fs s =
        let g = (turned_stands code stands).1.1.1.1.1.1.1 in
        let x = word_at w.memory k in
        let l = limit w.memory in
        let lf = field 2 (lit≤ tt) h in
        let mf = negative_fits m fs in
        let value = unsigned_negative m mf in
        let high : nat_le 32768 (unsigned (negsuc m)) ≡ true = grind (arith, nat_tests) in
        within Quiet code told.output 4 4 (lit≤ tt)
        (more Quiet code told.output finds s (library 402 (lit< tt)) refl (jumps_if finds 8 6 g.0 (tested_sign (unsigned (negsuc m)) f ∙ high) s) (λ q u.
        straight Quiet code told.output finds (Load 0 (Cell (places.Near 7 4) (a + 2) (unsigned l)) ∷ Comparison 0 (Register 1) ∷ []) {n = 1} (quiet 415 (lit≤ tt)) refl
        (g.1.1.1.1.0, (g.1.1.1.1.1.0, tt))
        (lf, (tt, tt)) u (λ q u.
        returned (not (int_lt x l)) w (lit< tt) g.1.1.1.1.1.1.0 (compared laws l x (fits 2 (lit≤ tt) h) (fits_there k lt h) ∙ not_greater l x) h u)))
    turns_by (pos zero) k f w h lt fs s =
        let g = (turned_stands code stands).1.1.1.1.1.1.1 in
        let none : unsigned (pos zero) ≡ 0 = unsigned_pos 0 (lit< tt) in
        within Quiet code told.output 3 4 (lit≤ tt)
        (more Quiet code told.output finds s (library 402 (lit< tt)) refl (passes_if finds 8 6 g.0 (tested_sign (unsigned (pos zero)) f ∙ ap (nat_le 32768) none) s) (λ q u.
        more Quiet code told.output finds u (library 404 (lit< tt)) refl (jumps_if finds 4 3 g.1.0 (tested_zero (unsigned (pos zero)) f ∙ ap (λ n. n == 0) none) u) (λ q u.
        returned true w (lit< tt) g.1.1.1.0 (tested_at_most (unsigned (pos zero)) f ∙ ap (λ n. not (nat_lt 0 n && nat_lt n 32768)) none) h u)))
    turns_by (pos (suc m)) k f w h lt fs s =
        let g = (turned_stands code stands).1.1.1.1.1.1.1 in
        let x = word_at w.memory k in
        let l = limit w.memory in
        let lf = field 2 (lit≤ tt) h in
        let mf = positive_fits (suc m) fs in
        let value = unsigned_pos (suc m) (omega arith) in
        let not_high : nat_le 32768 (unsigned (pos (suc m))) ≡ false = grind (arith, nat_tests) in
        let some : (unsigned (pos (suc m)) == 0) ≡ false = grind (arith, nat_tests) in
        within Quiet code told.output 4 4 (lit≤ tt)
        (more Quiet code told.output finds s (library 402 (lit< tt)) refl (passes_if finds 8 6 g.0 (tested_sign (unsigned (pos (suc m))) f ∙ not_high) s) (λ q u.
        more Quiet code told.output finds u (library 404 (lit< tt)) refl (passes_if finds 4 3 g.1.0 (tested_zero (unsigned (pos (suc m))) f ∙ some) u) (λ q u.
        straight Quiet code told.output finds (Comparison 1 (Cell (places.Near 7 4) (a + 2) (unsigned l)) ∷ []) {n = 1} (quiet 409 (lit≤ tt)) refl (g.1.1.0, tt)
        (lf, tt) u (λ q u.
        returned (not (int_lt l x)) w (lit< tt) g.1.1.1.0 (compared laws x l (fits_there k lt h) (fits 2 (lit≤ tt) h) ∙ not_greater x l) h u))))

    -- behind the comparison of the address
    turns_at : (k : ℕ) → k < area → {ax cx : ℕ} {cells : ℕ → ℕ} {p : Processor} (w : Words) → Holds area w.memory cells → unsigned (variable w.memory) ≡ k
        → Compared 393 ax cx w.memory cells p → Within Quiet code told.output 8 p (On (Turn (step_of w.memory) k w))
    turns_at k lt {cells = cells} w h is s =
        let g = (turned_stands code stands).1.1.1 in
        let x = word_at w.memory k in
        let y = unsigned (variable w.memory) in
        let step = step_of w.memory in
        let k_low : k < 32768 = below_half h lt in
        let half : y < 32768 = omega arith in
        let there : 2 * y ≡ 2 * k = omega arith in
        let sf = field 1 (lit≤ tt) h in
        let f = shift_flags Shl 32768 y 1 (difference_flags 32768 y area false) in
        afterwards Quiet code told.output
        {T = λ q. Here 402 (bit_or (unsigned step) (unsigned step)) (unsigned x) (2 * y) (tested step f) cells q} 4 4 8 (lit≤ tt)
        (straight Quiet code told.output finds
        (Double 6 ∷ Load 1 (Cell (places.Plain 4) k (unsigned x)) ∷ Load 0 (Cell (places.Near 7 2) (a + 1) (unsigned step)) ∷ Either 0 (Register 0) ∷ []) {n = 0}
        (quiet 402 (lit≤ tt)) refl (g.0, (g.1.0, (g.1.1.0, (g.1.1.1.0, tt))))
        (half, ((refl, k_low, there, h.words k lt), (sf, (tt, tt)))) s
        (λ q u. done Quiet code told.output u))
        (λ q u. turns_by step k f w h lt (fits 1 (lit≤ tt) h) u)

    -- the first instructions of a turn
    turned_test : HasAll code 387 (addressed 0x17)
    turned_test = let t = turned_stands code stands in (t.0, (t.1.0, (t.1.1.0, tt)))

    -- with an address in the area
    turns_inside : {ax cx si : ℕ} {f : Flags} {cells : ℕ → ℕ} {p : Processor} (w : Words) → Holds area w.memory cells → is_below (variable w.memory) area ≡ true
        → Here 387 ax cx si f cells p → Within Quiet code told.output 11 p (On (turn_if true mark a w))
    turns_inside w h is s =
        let i = inside area (variable w.memory) is h.low in
        afterwards Quiet code told.output 3 8 11 (lit≤ tt) (inside_passes 387 0x17 turned_test (lit≤ tt) h is s)
        (λ q u. turns_at (number_of (variable w.memory)) i.0 w h i.1 u)

    turns_if : (b : Bool) {ax cx si : ℕ} {f : Flags} {cells : ℕ → ℕ} {p : Processor} (w : Words) → Holds area w.memory cells → is_below (variable w.memory) area ≡ b
        → Here 387 ax cx si f cells p → Within Quiet code told.output 16 p (On (turn_if b mark a w))
    turns_if true w h is s = let t = turns_inside w h is s in let le = t.within in record { spent = t.spent; within = omega arith; leads = t.leads }
    turns_if false w h is s = within Quiet code told.output 16 16 (lit≤ tt) (outside_stops 387 0x17 turned_test (lit≤ tt) refl h is s)

    -- ---- the step

    -- the flags behind a sum of two words
    abbrev added : ℤ → ℤ → Flags
    added x y = sum_flags 32768 (unsigned x) (unsigned y) false

    -- the words with the sum at an address, and what follows it
    abbrev summed : (k : ℕ) → Words → Words
    summed k w = with_memory w (set w.memory k (sum w.memory k))

    abbrev Summed : Bool → (k : ℕ) → Words → Way
    Summed b k w = way_behind (store_sum b k (sum w.memory k) w) (turned area mark a)

    -- any step, where it is known what a turn takes
    steps_any : (bound : ℕ) → 11 ≤ bound → (k : ℕ) → k < area → {ax cx si : ℕ} {f : Flags} {cells : ℕ → ℕ} {p : Processor} (w : Words) → Holds area w.memory cells
        → si ≡ 2 * k
        → ((ax : ℕ) (g : Flags) (after : ℕ → ℕ) (q : Processor) → Holds area (set w.memory k (sum w.memory k)) after → Here 387 ax cx si g after q
        → Within Quiet code told.output bound q (On (turned area mark a (summed k w))))
        → Here 378 ax cx si f cells p → Within Quiet code told.output (4 + bound) p (On (Summed (fits_word (sum w.memory k)) k w))
    steps_any bound le k lt {ax} {cx} {si} {f} {cells} {p} w h there turn s = cases (fits_word (sum w.memory k)) refl
      where
        k_low : k < 32768
        k_low = below_half h lt

        sums : Leads Quiet code told.output 2 p (λ q. Here 383 (word_sum (unsigned (word_at w.memory k)) (unsigned (step_of w.memory))) cx si
            (added (word_at w.memory k) (step_of w.memory)) cells q)
        sums =
            let g = stepped_any_stands code stands in
            let sf = field 1 (lit≤ tt) h in
            straight Quiet code told.output finds
            (Load 0 (Cell (places.Plain 4) k (unsigned (word_at w.memory k))) ∷ Sum 0 (Cell (places.Near 7 2) (a + 1) (unsigned (step_of w.memory))) ∷ []) {n = 0}
            (quiet 383 (lit≤ tt)) refl (g.0, (g.1.0, tt))
            ((refl, k_low, there, h.words k lt), (sf, tt)) s (λ q u. done Quiet code told.output u)

        jumps : (b : Bool) → fits_word (sum w.memory k) ≡ b → meets (added (word_at w.memory k) (step_of w.memory)) 0 ≡ not b
        jumps b is = let fx = fits_there k lt h in sum_overflows laws (word_at w.memory k) (step_of w.memory) fx fx (fits 1 (lit≤ tt) h) ∙ ap not is

        -- the sum is kept
        kept : FitsWord (sum w.memory k) → fits_word (sum w.memory k) ≡ true → Leads Quiet code told.output 4 p (λ q. Here 387 (unsigned (sum w.memory k)) cx si
            (added (word_at w.memory k) (step_of w.memory)) (put_word cells k (unsigned (sum w.memory k))) q)
        kept fz is =
            let g = (stepped_any_stands code stands).1.1 in
            let value = sum_is laws (word_at w.memory k) (step_of w.memory) (fits_there k lt h) (fits 1 (lit≤ tt) h) fz in
            both Quiet code told.output 2 2 sums (λ q u.
            more Quiet code told.output finds u (library 383 (lit< tt)) refl (passes_if finds 0 0x23 g.0 (jumps true is) u) (λ q u.
            straight Quiet code told.output finds (Store (places.Plain 4) 0 k ∷ []) {n = 0} (quiet 387 (lit≤ tt)) refl (g.1.0, tt)
            ((refl, k_low, there), tt) (with_ax value u) (λ q u. done Quiet code told.output u)))

        cases : (b : Bool) → fits_word (sum w.memory k) ≡ b → Within Quiet code told.output (4 + bound) p (On (Summed b k w))
        cases false is =
            let g = (stepped_any_stands code stands).1.1 in
            within Quiet code told.output 15 (4 + bound) (omega arith)
            (both Quiet code told.output 2 13 sums (λ q u.
            more Quiet code told.output finds u (library 383 (lit< tt)) refl (to_place {to = 420} refl (jumps_if finds 0 0x23 g.0 (jumps false is) u)) (λ q u. bad_sum u)))
        cases true is =
            let fz = fits_tested (sum w.memory k) is in
            afterwards Quiet code told.output 4 bound (4 + bound) (omega arith) (kept fz is) (λ q u. turn _ _ _ q (stored k (sum w.memory k) lt fz h) u)

    -- ---- a positive step

    past_positive : (step v l : ℤ) → int_lt (pos 0) step ≡ true → is_past step v l ≡ int_lt l v
    past_positive (pos zero) v l e = absurd (grind (arith, ints, nat_tests))
    past_positive (pos (suc m)) v l e = refl
    past_positive (negsuc m) v l e = absurd (grind (arith, ints, nat_tests))

    -- it is positive still where the control variable is its word, since the sum fits
    still_positive : (k : ℕ) (memory : List ℤ) → k < length memory → int_lt (pos 0) (step_of memory) ≡ true
        → int_lt (pos 0) (step_of (set memory k (sum memory k))) ≡ true
    still_positive k memory lt e = cases (cases_eq (a + 1) k)
      where
        cases : ((a + 1) ≡ k) ⊎ ((a + 1) ≢ k) → int_lt (pos 0) (step_of (set memory k (sum memory k))) ≡ true
        cases (inl same) =
            ap (λ n. int_lt (pos 0) (word_at (set memory k (sum memory k)) n)) same
            ∙ ap (int_lt (pos 0)) (get_or-set_same memory k (sum memory k) (pos 0) lt ∙ ap (λ n. word_at memory n +ℤ step_of memory) (sym same))
            ∙ twice_positive (step_of memory) e
        cases (inr other) = ap (int_lt (pos 0)) (get_or-set_other memory k (a + 1) (sum memory k) (pos 0) other) ∙ e

    -- word 0 stays where the control variable is another word
    first_stays : (k : ℕ) (memory : List ℤ) → a ≢ k → variable (set memory k (sum memory k)) ≡ variable memory
    first_stays k memory other = get_or-set_other memory k a (sum memory k) (pos 0) other

    commuted : (x y : ℤ) → x +ℤ y ≡ y +ℤ x
    commuted x y = omega (arith, ints)

    -- the turn that follows such a step is a comparison of the sum with the limit
    turn_is : (k : ℕ) (w : Words) → k < length w.memory → a ≢ k → number_of (variable w.memory) ≡ k → is_below (variable w.memory) area ≡ true
        → int_lt (pos 0) (step_of w.memory) ≡ true
        → to_mark_if (not (int_lt (limit (set w.memory k (sum w.memory k))) (sum w.memory k))) mark (summed k w) ≡ turned area mark a (summed k w)
    turn_is k w lt other named is_in up =
        let v = summed k w in
        let m = v.memory in
        let first_is = first_stays k w.memory other in
        let value_is : word_at m (number_of (variable m)) ≡ sum w.memory k = ap (λ z. word_at m (number_of z)) first_is ∙ ap (word_at m) named
        ∙ get_or-set_same w.memory k (sum w.memory k) (pos 0) lt in
        let past_is : is_past (step_of m) (word_at m (number_of (variable m))) (limit m) ≡ int_lt (limit m) (sum w.memory k) = ap (λ x. is_past (step_of m) x (limit m)) value_is
        ∙ past_positive (step_of m) (sum w.memory k) (limit m) (still_positive k w.memory lt up) in
        ap (λ b. to_mark_if (not b) mark v) (sym past_is) ∙ ap (λ b. turn_if b mark a v) (sym (ap (λ z. is_below z area) first_is ∙ is_in))

    -- such a step, where the control variable is not word 0 of the loop
    steps_up : (k : ℕ) → k < area → {cx si : ℕ} {f : Flags} {cells : ℕ → ℕ} {p : Processor} (w : Words) → Holds area w.memory cells → si ≡ 2 * k → a ≢ k
        → number_of (variable w.memory) ≡ k → is_below (variable w.memory) area ≡ true → int_lt (pos 0) (step_of w.memory) ≡ true
        → Here 363 (unsigned (step_of w.memory)) cx si f cells p → Within Quiet code told.output 14 p (On (Summed (fits_word (sum w.memory k)) k w))
    steps_up k lt {cx} {si} {f} {cells} {p} w h there other named is_in up s = cases (fits_word (sum w.memory k)) refl
      where
        fx : FitsWord (word_at w.memory k)
        fx = fits_there k lt h

        fs : FitsWord (step_of w.memory)
        fs = fits 1 (lit≤ tt) h

        k_low : k < 32768
        k_low = below_half h lt

        same_sum : step_of w.memory +ℤ word_at w.memory k ≡ sum w.memory k
        same_sum = commuted (step_of w.memory) (word_at w.memory k)

        sums : Leads Quiet code told.output 1 p (λ q. Here 365 (word_sum (unsigned (step_of w.memory)) (unsigned (word_at w.memory k))) cx si
            (added (step_of w.memory) (word_at w.memory k)) cells q)
        sums =
            let g = (stepped_stands code stands).1.1.1.1.1.1.1.1.1 in
            straight Quiet code told.output finds (Sum 0 (Cell (places.Plain 4) k (unsigned (word_at w.memory k))) ∷ []) {n = 0} (quiet 365 (lit≤ tt)) refl (g.0, tt)
            ((refl, k_low, there, h.words k lt), tt) s (λ q u. done Quiet code told.output u)

        jumps : (b : Bool) → fits_word (sum w.memory k) ≡ b → meets (added (step_of w.memory) (word_at w.memory k)) 0 ≡ not b
        jumps b is = sum_overflows laws (step_of w.memory) (word_at w.memory k) fs fs fx ∙ ap not (ap fits_word same_sum ∙ is)

        -- the sum is kept and compared with the limit
        kept : FitsWord (sum w.memory k) → fits_word (sum w.memory k) ≡ true → Leads Quiet code told.output 5 p (On (turned area mark a (summed k w)))
        kept fz is =
            let g = (stepped_stands code stands).1.1.1.1.1.1.1.1.1.1 in
            let value = sum_is laws (step_of w.memory) (word_at w.memory k) fs fx (subst FitsWord (sym same_sum) fz) ∙ ap unsigned same_sum in
            let h' = stored k (sum w.memory k) lt fz h in
            let lf = field 2 (lit≤ tt) h' in
            let long = h.long in
            let in_memory : k < length w.memory = omega arith in
            let order = compared laws (sum w.memory k) (limit (summed k w).memory) fz (fits 2 (lit≤ tt) h') ∙ not_greater (sum w.memory k) (limit (summed k w).memory) in
            both Quiet code told.output 1 4 sums (λ q u.
            more Quiet code told.output finds u (library 365 (lit< tt)) refl (passes_if finds 0 0x35 g.0 (jumps true is) u) (λ q u.
            straight Quiet code told.output finds
            (Store (places.Plain 4) 0 k ∷ Comparison 0 (Cell (places.Near 7 4) (a + 2) (unsigned (limit (summed k w).memory))) ∷ []) {n = 1}
            (quiet 372 (lit≤ tt)) refl (g.1.0, (g.1.1.0, tt))
            ((refl, k_low, there), (lf, tt)) (with_ax value u) (λ q u.
            onward Quiet code told.output (λ q t. subst (λ o. On o q) (turn_is k w in_memory other named is_in up) t)
            (returned (not (int_lt (limit (summed k w).memory) (sum w.memory k))) (summed k w) (lit< tt) g.1.1.1.0 order h' u))))

        cases : (b : Bool) → fits_word (sum w.memory k) ≡ b → Within Quiet code told.output 14 p (On (Summed b k w))
        cases false is =
            let g = (stepped_stands code stands).1.1.1.1.1.1.1.1.1.1 in
            within Quiet code told.output 14 14 (lit≤ tt)
            (both Quiet code told.output 1 13 sums (λ q u.
            more Quiet code told.output finds u (library 365 (lit< tt)) refl (to_place {to = 420} refl (jumps_if finds 0 0x35 g.0 (jumps false is) u)) (λ q u. bad_sum u)))
        cases true is = within Quiet code told.output 5 14 (lit≤ tt) (kept (fits_tested (sum w.memory k) is) is)

    -- ---- a step and a turn

    -- any step, where the control variable is not word 0
    steps_elsewhere : (k : ℕ) → k < area → {ax cx si : ℕ} {f : Flags} {cells : ℕ → ℕ} {p : Processor} (w : Words) → Holds area w.memory cells → si ≡ 2 * k
        → a ≢ k → is_below (variable w.memory) area ≡ true → Here 378 ax cx si f cells p → Within Quiet code told.output 15 p (On (Summed (fits_word (sum w.memory k)) k w))
    steps_elsewhere k lt w h there other is_in s =
        let is = ap (λ z. is_below z area) (first_stays k w.memory other) ∙ is_in in
        steps_any 11 (lit≤ tt) k lt w h there
        (λ ax g after q held u. subst (λ b. Within Quiet code told.output 11 q (On (turn_if b mark a (summed k w)))) (sym is) (turns_inside (summed k w) held is u)) s

    -- behind the test of the step
    by_sign : (k : ℕ) → k < area → {cx : ℕ} (g : Flags) {cells : ℕ → ℕ} {p : Processor} (w : Words) → Holds area w.memory cells → a ≢ k
        → number_of (variable w.memory) ≡ k → is_below (variable w.memory) area ≡ true
        → Here 361 (unsigned (step_of w.memory)) cx (2 * k) (tested (step_of w.memory) g) cells p
        → Within Quiet code told.output 16 p (On (Summed (fits_word (sum w.memory k)) k w))
    by_sign k lt {cx} g {cells} {p} w h other named is_in s = cases (int_lt (pos 0) (step_of w.memory)) refl
      where
        met : meets (tested (step_of w.memory) g) 14 ≡ not (int_lt (pos 0) (step_of w.memory))
        met = tested_at_most (unsigned (step_of w.memory)) g ∙ not_positive (step_of w.memory) (fits 1 (lit≤ tt) h)

        cases : (b : Bool) → int_lt (pos 0) (step_of w.memory) ≡ b → Within Quiet code told.output 16 p (On (Summed (fits_word (sum w.memory k)) k w))
        cases true up =
            let t = (stepped_stands code stands).1.1.1.1.1.1.1.1 in
            afterwards Quiet code told.output {T = λ q. Here 363 (unsigned (step_of w.memory)) cx (2 * k) (tested (step_of w.memory) g) cells q} 1 14 16 (lit≤ tt)
            (more Quiet code told.output finds s (library 361 (lit< tt)) refl (passes_if finds 14 0x0F t.0 (met ∙ ap not up) s) (λ q u. done Quiet code told.output u))
            (λ q u. steps_up k lt w h refl other named is_in up u)
        cases false up =
            let t = (stepped_stands code stands).1.1.1.1.1.1.1.1 in
            afterwards Quiet code told.output {T = λ q. Here 378 (unsigned (step_of w.memory)) cx (2 * k) (tested (step_of w.memory) g) cells q} 1 15 16 (lit≤ tt)
            (more Quiet code told.output finds s (library 361 (lit< tt)) refl (jumps_if finds 14 0x0F t.0 (met ∙ ap not up) s) (λ q u. done Quiet code told.output u))
            (λ q u. steps_elsewhere k lt w h refl other is_in u)

    -- behind the comparison of the variable's place with that of word 0
    by_place : (k : ℕ) → (k ≡ a) ⊎ (k ≢ a) → k < area → {ax cx : ℕ} {cells : ℕ → ℕ} {p : Processor} (w : Words) → Holds area w.memory cells
        → number_of (variable w.memory) ≡ k → is_below (variable w.memory) area ≡ true → Here 354 ax cx (2 * k) (difference_flags 32768 (2 * k) (2 * a) false) cells p
        → Within Quiet code told.output 21 p (On (Summed (fits_word (sum w.memory k)) k w))
    by_place k (inl same) lt {ax} {cx} {cells} w h named is_in s =
        let t = (stepped_stands code stands).1.1.1.1.1 in
        let low = h.low in
        let e1 : 2 * k < 65536 = omega arith in
        let e2 : 2 * a < 65536 = omega arith in
        let e3 : 2 * k ≡ 2 * a = omega arith in
        afterwards Quiet code told.output {T = λ q. Here 378 ax cx (2 * k) (difference_flags 32768 (2 * k) (2 * a) false) cells q} 1 20 21 (lit≤ tt)
        (more Quiet code told.output finds s (library 354 (lit< tt)) refl (jumps_if finds 4 0x16 t.0 (equal (2 * k) (2 * a) e1 e2 e3) s) (λ q u. done Quiet code told.output u))
        (λ q u. steps_any 16 (lit≤ tt) k lt w h refl (λ ax g after q held u. turns_if (is_below (variable (summed k w).memory) area) (summed k w) held refl u) u)
    by_place k (inr other) lt {ax} {cx} {cells} w h named is_in s =
        let t = (stepped_stands code stands).1.1.1.1.1 in
        let low = h.low in
        let e1 : 2 * k < 65536 = omega arith in
        let e2 : 2 * a < 65536 = omega arith in
        let e3 : 2 * k ≢ 2 * a = λ e. other (omega arith) in
        let step = step_of w.memory in
        let sf = field 1 (lit≤ tt) h in
        let y = unsigned step in
        let f = difference_flags 32768 (2 * k) (2 * a) false in
        afterwards Quiet code told.output {T = λ q. Here 361 (bit_or y y) cx (2 * k) (tested step f) cells q} 3 16 21 (lit≤ tt)
        (more Quiet code told.output finds s (library 354 (lit< tt)) refl (passes_if finds 4 0x16 t.0 (not_equal (2 * k) (2 * a) e1 e2 e3) s) (λ q u.
        straight Quiet code told.output finds (Load 0 (Cell (places.Near 7 2) (a + 1) (unsigned step)) ∷ Either 0 (Register 0) ∷ []) {n = 0} (quiet 361 (lit≤ tt)) refl
        (t.1.0, (t.1.1.0, tt))
        (sf, (tt, tt)) u (λ q u. done Quiet code told.output u)))
        (λ q u. by_sign k lt f w h (λ e. other (sym e)) named is_in (with_ax (or_self y) u))

    -- the first instructions of a step
    stepped_test : HasAll code 344 (addressed 0x42)
    stepped_test = let t = stepped_stands code stands in (t.0, (t.1.0, (t.1.1.0, tt)))

    steps_if : (b : Bool) {ax cx si : ℕ} {f : Flags} {cells : ℕ → ℕ} {p : Processor} (w : Words) → Holds area w.memory cells → is_below (variable w.memory) area ≡ b
        → Here 344 ax cx si f cells p
        → Within Quiet code told.output 26 p
        (On (way_behind (through b (λ i v. store_sum (fits_word (sum v.memory i)) i (sum v.memory i) v) (variable w.memory) w) (turned area mark a)))
    steps_if false w h is s = within Quiet code told.output 16 26 (lit≤ tt) (outside_stops 344 0x42 stepped_test (lit≤ tt) refl h is s)
    steps_if true {ax} {cx} {cells = cells} w h is s =
        let t = (stepped_stands code stands).1.1.1 in
        let i = inside area (variable w.memory) is h.low in
        let k = number_of (variable w.memory) in
        let y = unsigned (variable w.memory) in
        let same = i.1 in
        let in_area = i.0 in
        let k_low : k < 32768 = below_half h in_area in
        let half : y < 32768 = omega arith in
        let twice : 2 * y ≡ 2 * k = ap (λ n. 2 * n) same in
        afterwards Quiet code told.output {T = λ q. Here 354 ax cx (2 * y) (difference_flags 32768 (2 * y) (2 * a) false) cells q} 5 21 26 (lit≤ tt)
        (both Quiet code told.output 3 2 (inside_passes 344 0x42 stepped_test (lit≤ tt) h is s) (λ q u.
        straight Quiet code told.output finds (Double 6 ∷ Comparison 6 (Register 3) ∷ []) {n = 0} (quiet 354 (lit≤ tt)) refl (t.0, (t.1.0, tt))
        (half, (tt, tt)) u (λ q u. done Quiet code told.output u)))
        (λ q u. by_place k (cases_eq k a) in_area w h refl is (subst (λ m. Here 354 ax cx m (difference_flags 32768 m (2 * a) false) cells q) twice u))

    -- ---- the number of the element

    number_is_one : (z : ℤ) → nat_eq (number_of z) 1 ≡ true → unsigned z ≡ 1
    number_is_one (pos m) e = ap (λ n. unsigned (pos n)) (eqb-true m 1 e) ∙ unsigned_pos 1 (lit< tt)
    number_is_one (negsuc m) e = absurd cc

    number_is_other : (z : ℤ) → FitsWord z → nat_eq (number_of z) 1 ≡ false → unsigned z ≢ 1
    number_is_other (pos m) f e = λ one. let lt = positive_fits m f in let same = unsigned_pos m (omega arith) in let ne : m ≢ 1 = eqb-false m 1 e in ne (sym same ∙ one)
    number_is_other (negsuc m) f e = λ one. let lt = negative_fits m f in let same = unsigned_negative m lt in absurd (omega arith)

    pub goes_on : {ax cx si : ℕ} {f : Flags} {cells : ℕ → ℕ} {p : Processor} (w : Words) → Holds area w.memory cells → Here 338 ax cx si f cells p
        → Within Quiet code told.output 28 p (On (stepped area mark a w))
    goes_on {ax} {cx} {si} {f} {cells} {p} w h s = cases (nat_eq (number_of (word_at w.memory (a + 3))) 1) refl
      where
        number_fits : FitsWord (word_at w.memory (a + 3))
        number_fits = fits 3 (lit≤ tt) h

        first : Leads Quiet code told.output 1 p (λ q. Here 342 ax cx si (difference_flags 32768 (unsigned (word_at w.memory (a + 3))) 1 false) cells q)
        first =
            let t = next_step_stands code stands in
            let nf = field 3 (lit≤ tt) h in
            straight Quiet code told.output finds (ComparisonShort (Cell (places.Near 7 6) (a + 3) (unsigned (word_at w.memory (a + 3)))) 1 ∷ []) {n = 0}
            (quiet 342 (lit≤ tt)) refl (t.0, tt) (nf, tt) s (λ q u. done Quiet code told.output u)

        cases : (b : Bool) → nat_eq (number_of (word_at w.memory (a + 3))) 1 ≡ b → Within Quiet code told.output 28 p (On (stepped_if b area mark a w))
        cases true is =
            let t = (next_step_stands code stands).1 in
            let z = word_at w.memory (a + 3) in
            let one = not_unequal (unsigned z) 1 (laws.unsigned_fits z number_fits) (lit< tt) (number_is_one z is) in
            afterwards Quiet code told.output {T = λ q. Here 344 ax cx si (difference_flags 32768 (unsigned z) 1 false) cells q} 2 26 28 (lit≤ tt)
            (both Quiet code told.output 1 1 first (λ q u.
            more Quiet code told.output finds u (library 342 (lit< tt)) refl (passes_if finds 5 0x1D t.0 one u) (λ q u. done Quiet code told.output u)))
            (λ q u. steps_if (is_below (variable w.memory) area) w h refl u)
        cases false is =
            let t = (next_step_stands code stands).1 in
            let g = left_stands code stands in
            let z = word_at w.memory (a + 3) in
            let other = unequal (unsigned z) 1 (laws.unsigned_fits z number_fits) (lit< tt) (number_is_other z number_fits is) in
            within Quiet code told.output 5 28 (lit≤ tt)
            (both Quiet code told.output 1 4 first (λ q u.
            more Quiet code told.output finds u (library 342 (lit< tt)) refl (jumps_if finds 5 0x1D t.0 other u) (λ q u.
            straight Quiet code told.output finds (LowByte 1 ∷ OrLow ∷ []) {n = 1} (quiet 377 (lit≤ tt)) refl (g.0, (g.1.0, tt))
            (tt, (tt, tt)) u (λ q u.
            returned false w (lit< tt) g.1.1.0 (never_at_most ax (difference_flags 32768 (unsigned (word_at w.memory (a + 3))) 1 false)) h u))))
