-- The routines of loops.
use Rattle.std.proofs.Common.{◌≡◌, ◌≢◌, ℕ, zero, suc, ◌+◌, ◌-◌, ◌*◌, ◌%◌, ◌<◌, ◌≤◌, Bool, true, false, not, ℤ, pos, negsuc, ◌+ℤ◌, List, [], ◌∷◌, set, refl, ap, ap₂, ◌∙◌, subst, arith, lit<, lit≤}
use Rattle.std.specs.Prelude.{int_lt, int_le, ◌-ℤ◌, bit_xor, if◌then◌else◌}
use Rattle.std.specs.Int.Bits.{xor_zero_r}
use Rattle.std.proofs.lemmas.Bool.{lt-ltb, le-ltb}
use Rattle.std.proofs.lemmas.Bool.Decides.{nat_tests}
use Rattle.std.proofs.lemmas.Int.{ints}
use Rattle.cw_i86.specs.Sums.{sum_flags, difference_flags, signed}
use Rattle.cw_i86.specs.Effect.{holds as meets}
use Rattle.cw_i86.specs.State.{sign_extended}
use Rattle.cw_i86.specs.declared.flags.Flags.{Flags}
use Rattle.cw_i86.specs.declared.instr.Instr.TheVariants as i86
use Rattle.cw_i86.specs.declared.instr.Place.TheVariants as places
use Rattle.cw_run86.specs.Processor.{Processor, Told}
use Rattle.cw_run86.specs.Views.{Has, put_word, word_sum, sign_of}
use Rattle.cw_run86.proofs.Tests.{Finds}
use Rattle.cw_word.specs.FixedPoint.{FitsWord, fits_word}
use Rattle.cw_word.specs.Word.{unsigned}
use Rattle.cw_unit.specs.Stop.{Overflow, AddressRange}
use Rattle.cw_unit.specs.Words.{Words, Changed, with_memory, put, word_at, number_of, is_below, through}
use Rattle.cw_unit.specs.Operation.{SetVariable, AddStep, perform, store_sum, is_past}
use Rattle.cw_routines.specs.WordLaws.{WordLaws}
use Rattle.cw_routines.specs.Ways.{At, HasAll, view, Leads, Within, Back, Over}
use Rattle.cw_routines.specs.Results.{Stands, Holds, Tells, Ends, Fetched, Fetches}
use Rattle.cw_routines.proofs.Arrive.{jumps_if, passes_if}
use Rattle.cw_routines.proofs.Sources.{Register, Cell}
use Rattle.cw_routines.proofs.Acts as acts
use Rattle.cw_routines.proofs.Chains.{Act, codes, Load, Store, Sum, One, Comparison, ComparisonNumber, SumShort, Double, Sign, Push, Pop, done, more, last, afterwards, within, straight, both}
use Rattle.cw_routines.proofs.Facts.{not_below, below, equal, not_equal, at_most, fits_tested, positive_fits, negative_fits, unsigned_pos, unsigned_negative, signed_back, sum_overflows, sum_is, compared, stored, fits_there, inside, outside, put_at, put_off}
use Rattle.cw_routines.proofs.Numbers.{xor_all}
use Rattle.cw_routines.proofs.Places.{to_place, bad_address_stands, bad_sum_stands, set_variable_stands, add_step_stands, put_variable_stands, exhausted_stands}
use Rattle.cw_routines.proofs.Stops.{told_stops, run}

pub not_greater : (x y : ℤ) → int_le x y ≡ not (int_lt y x)
not_greater x y = grind (arith, ints, nat_tests)

-- all bits turned
turned_value : (a : ℕ) → a < 65536 → signed 32768 (65535 - a) ≡ negsuc 0 -ℤ signed 32768 a
unfolding signed
turned_value a lt = grind (arith, ints, nat_tests)

turned_order : (x y : ℤ) → int_le (negsuc 0 -ℤ x) (negsuc 0 -ℤ y) ≡ not (int_lt x y)
turned_order x y = grind (arith, ints, nat_tests)

module _ (finds : Finds) (laws : WordLaws) (Quiet : ℕ → Type 0) (code : List ℕ) (stands : Stands code) (library : (k : ℕ) → k < 438 → Quiet k) where
  quiet : {at : ℕ} (to : ℕ) → to ≤ 438 → (k : ℕ) → at ≤ k → k < to → Quiet k
  quiet {at} to le = run finds Quiet code stands library {at = at} to le

  module _ (area a line bp n r segment back : ℕ) (stack : ℕ → ℕ) (input : List ℕ) (told : Told) (inside_area : a < area) (line_small : line < 65536) (way : stack n ≡ back)
      (back_small : back < 65536) where
    abbrev Here : (at ax cx bx sp si : ℕ) → Flags → (ℕ → ℕ) → Processor → Type 0
    Here at ax cx bx sp si f cells p = At code at (view ax cx line bx sp bp si area cells stack input told) f p

    -- ---- stops

    bad_address : Tells stack bp r segment → {ax cx bx sp si : ℕ} {f : Flags} {cells : ℕ → ℕ} {p : Processor} → Here 71 ax cx bx sp si f cells p
        → Leads Quiet code told.output 10 p (Over told.output AddressRange segment line)
    bad_address t s = told_stops finds Quiet code stands library AddressRange 71 0xEC r segment (bad_address_stands code stands) (lit≤ tt) refl t line_small s

    bad_sum : Tells stack bp r segment → {ax cx bx sp si : ℕ} {f : Flags} {cells : ℕ → ℕ} {p : Processor} → Here 75 ax cx bx sp si f cells p
        → Leads Quiet code told.output 10 p (Over told.output Overflow segment line)
    bad_sum t s = told_stops finds Quiet code stands library Overflow 75 0xE8 r segment (bad_sum_stands code stands) (lit≤ tt) refl t line_small s

    with_ax : {at x y cx bx sp si : ℕ} {f : Flags} {cells : ℕ → ℕ} {p : Processor} → x ≡ y → Here at x cx bx sp si f cells p → Here at y cx bx sp si f cells p
    with_ax {at} {x} {y} {cx} {bx} {sp} {si} {f} {cells} {p} e s = subst (λ n. Here at n cx bx sp si f cells p) e s

    -- ---- the address of the control variable

    -- what takes it from the words of the loop, and compares it with the area
    abbrev taken : List ℤ → List Act
    taken memory = Pop 6 n back (2 * suc n) ∷ Load 3 (Register 0) ∷ Double 3 ∷ Load 3 (Cell (places.Plain 7) a (unsigned (word_at memory a))) ∷ Comparison 3 (Register 7) ∷ []

    takes : (place : ℕ) (memory : List ℤ) → HasAll code place (codes (taken memory)) → place + 1 + 2 + 2 + 2 + 2 ≤ 438 → n < 32767 → {cx bx si : ℕ} {f : Flags} {cells : ℕ → ℕ} {p : Processor}
        → Holds area memory cells → Here place a cx bx (2 * n) si f cells p
        → Leads Quiet code told.output 5 p
        (λ q. Here (place + 1 + 2 + 2 + 2 + 2) a cx (unsigned (word_at memory a)) (2 * suc n) back (difference_flags 32768 (unsigned (word_at memory a)) area false) cells q)
    takes place memory g room n_low h s =
        let low = h.low in
        let e : a < 32768 = omega arith in
        let lt : n < 32768 = omega arith in
        let top : 2 * n ≡ 2 * n % 65536 = omega arith in
        let up : 2 * suc n % 65536 ≡ 2 * suc n = omega arith in
        straight Quiet code told.output finds (taken memory) {n = 0} (quiet (place + 1 + 2 + 2 + 2 + 2) room) refl g
        ((lt, top, way, up), (tt, (e, ((refl, e, refl, h.words a inside_area), (tt, tt))))) s
        (λ q u. done Quiet code told.output u)

    -- where it is in the area, it is the number of a word
    word_inside : (memory : List ℤ) {cells : ℕ → ℕ} → Holds area memory cells → is_below (word_at memory a) area ≡ true
        → (number_of (word_at memory a) < area) × (unsigned (word_at memory a) ≡ number_of (word_at memory a)) × (unsigned (word_at memory a) < area)
    word_inside memory h is =
        let i = inside area (word_at memory a) is h.low in
        let same = i.1 in
        let in_area = i.0 in
        (i.0, i.1, omega arith)

    -- where it is not in the area, the run stops
    outside_stops : (place by : ℕ) (memory : List ℤ) → Has code place (i86.JumpIf 3 by) → Quiet (place % 65536) → (place + 2 + sign_extended by) % 65536 ≡ 71 → Tells stack bp r segment
        → is_below (word_at memory a) area ≡ false → {ax cx bx sp si : ℕ} {cells : ℕ → ℕ} {p : Processor} → Holds area memory cells
        → Here place ax cx bx sp si (difference_flags 32768 (unsigned (word_at memory a)) area false) cells p
        → Leads Quiet code told.output 11 p (Over told.output AddressRange segment line)
    outside_stops place by memory jump silent to_stop t is h s =
        let z = word_at memory a in
        more Quiet code told.output finds s silent refl
        (to_place {to = 71} to_stop (jumps_if finds 3 by jump (not_below (unsigned z) area (outside area z (fits_there a inside_area h) is h.low)) s)) (λ q u. bad_address t u)

    -- ---- the control variable is set

    sets_at : (x : ℤ) → FitsWord x → n < 32766 → stack (suc n) ≡ unsigned x → Tells stack bp r segment → {cx bx si : ℕ} {f : Flags} {cells : ℕ → ℕ} {p : Processor} (w : Words)
        → Holds area w.memory cells → Here 145 a cx bx (2 * n) si f cells p
        → (b : Bool) → is_below (word_at w.memory a) area ≡ b
        → Within Quiet code told.output 16 p (Ends code told.output area back (2 * suc (suc n)) bp segment line stack input told
        (through b (λ i t. Changed (with_memory t (set t.memory i x))) (word_at w.memory a) w))
    sets_at x fx n_low value t {cx} {bx} {si} {f} {cells} {p} w h s = cases
      where
        first : Leads Quiet code told.output 5 p
            (λ q. Here 154 a cx (unsigned (word_at w.memory a)) (2 * suc n) back (difference_flags 32768 (unsigned (word_at w.memory a)) area false) cells q)
        first = let g = set_variable_stands code stands in takes 145 w.memory (g.0, (g.1.0, (g.1.1.0, (g.1.1.1.0, (g.1.1.1.1.0, tt))))) (lit≤ tt) (omega arith) h s

        cases : (b : Bool) → is_below (word_at w.memory a) area ≡ b
            → Within Quiet code told.output 16 p (Ends code told.output area back (2 * suc (suc n)) bp segment line stack input told
            (through b (λ i t. Changed (with_memory t (set t.memory i x))) (word_at w.memory a) w))
        cases false is = within Quiet code told.output 16 16 (lit≤ tt) (both Quiet code told.output 5 11 first (λ q u. outside_stops 154 0xAB w.memory (set_variable_stands code stands).1.1.1.1.1.0 (library 154 (lit< tt)) refl t is h u))
        cases true is =
            let g = (set_variable_stands code stands).1.1.1.1.1 in
            let low = h.low in
            let i = word_inside w.memory h is in
            let k = number_of (word_at w.memory a) in
            let same = i.1 in
            let in_area = i.0 in
            let lower = i.2 in
            let half : unsigned (word_at w.memory a) < 32768 = omega arith in
            let k_low : k < 32768 = omega arith in
            let there : 2 * unsigned (word_at w.memory a) ≡ 2 * k = ap (λ n. 2 * n) same in
            let lt : suc n < 32768 = omega arith in
            let top : 2 * suc n ≡ 2 * suc n % 65536 = omega arith in
            let up : 2 * suc (suc n) % 65536 ≡ 2 * suc (suc n) = omega arith in
            let whole : back ≡ back % 65536 = omega arith in
            within Quiet code told.output 10 16 (lit≤ tt)
            (both Quiet code told.output 5 5 first (λ q u.
            more Quiet code told.output finds u (library 154 (lit< tt)) refl (passes_if finds 3 0xAB g.0 (below (unsigned (word_at w.memory a)) area lower) u) (λ q u.
            straight Quiet code told.output finds (Double 3 ∷ Pop 0 (suc n) (unsigned x) (2 * suc (suc n)) ∷ Store (places.Plain 7) 0 k ∷ []) {n = 1} (quiet 161 (lit≤ tt)) refl
            (g.1.0, (g.1.1.0, (g.1.1.1.0, tt)))
            (half, ((lt, top, value, up), ((refl, k_low, there), tt))) u (λ q u.
            last Quiet code told.output finds u (library 161 (lit< tt)) refl (record {
              cells = put_word cells k (unsigned x);
              holds_words = stored k x in_area fx h;
              back = record { ax = unsigned x; cx = cx; dx = line; bx = 2 * unsigned (word_at w.memory a); si = back; flags = _; is = acts.jump_to finds u 6 back g.1.1.1.1.0 whole; answers = tt };
            })))))

    pub sets : (x : ℤ) → FitsWord x → n < 32766 → stack (suc n) ≡ unsigned x → Tells stack bp r segment → {cx bx si : ℕ} {f : Flags} {cells : ℕ → ℕ} {p : Processor} (w : Words)
        → Holds area w.memory cells → Here 145 a cx bx (2 * n) si f cells p
        → Within Quiet code told.output 16 p (Ends code told.output area back (2 * suc (suc n)) bp segment line stack input told (perform area (SetVariable a) (put x w)))
    sets x fx n_low value t w h s = sets_at x fx n_low value t w h s (is_below (word_at w.memory a) area) refl

    -- ---- the step

    -- from the address of the variable on
    sums_at : (k : ℕ) → n < 32767 → Tells stack bp r segment → a + 1 < area → k < area → {ax cx bx si : ℕ} {f : Flags} {cells : ℕ → ℕ} {p : Processor} (w : Words)
        → Holds area w.memory cells → bx ≡ 2 * a → si ≡ k → Here 173 ax cx bx (2 * n) si f cells p
        → Within Quiet code told.output 14 p
        (Ends code told.output area back (2 * suc n) bp segment line stack input told
        (store_sum (fits_word (word_at w.memory k +ℤ word_at w.memory (a + 1))) k (word_at w.memory k +ℤ word_at w.memory (a + 1)) w))
    sums_at k n_low t small lt {ax} {cx} {bx} {si} {f} {cells} {p} w h at_loop at_variable s = cases (fits_word (word_at w.memory k +ℤ word_at w.memory (a + 1))) refl
      where
        fx : FitsWord (word_at w.memory k)
        fx = fits_there k lt h

        fs : FitsWord (word_at w.memory (a + 1))
        fs = fits_there (a + 1) small h

        low : area ≤ 32768
        low = h.low

        k_low : k < 32768
        k_low = omega arith

        there : 2 * si ≡ 2 * k
        there = omega arith

        sums : Leads Quiet code told.output 3 p (λ q. Here 180 (word_sum (unsigned (word_at w.memory k)) (unsigned (word_at w.memory (a + 1)))) cx bx (2 * n) (2 * si)
            (sum_flags 32768 (unsigned (word_at w.memory k)) (unsigned (word_at w.memory (a + 1))) false) cells q)
        sums =
            let g = (add_step_stands code stands).1.1.1.1.1 in
            let e1 : a + 1 < 32768 = omega arith in
            let e2 : (bx + 2) % 65536 ≡ 2 * (a + 1) = omega arith in
            let half : si < 32768 = omega arith in
            straight Quiet code told.output finds (Double 6 ∷ Load 0 (Cell (places.Plain 4) k (unsigned (word_at w.memory k)))
            ∷ Sum 0 (Cell (places.Near 7 2) (a + 1) (unsigned (word_at w.memory (a + 1)))) ∷ []) {n = 0} (quiet 180 (lit≤ tt)) refl
            (g.0, (g.1.0, (g.1.1.0, tt)))
            (half, ((refl, k_low, there, h.words k lt), ((refl, e1, e2, h.words (a + 1) small), tt))) s
            (λ q u. done Quiet code told.output u)

        cases : (b : Bool) → fits_word (word_at w.memory k +ℤ word_at w.memory (a + 1)) ≡ b
            → Within Quiet code told.output 14 p (Ends code told.output area back (2 * suc n) bp segment line stack input told
            (store_sum b k (word_at w.memory k +ℤ word_at w.memory (a + 1)) w))
        cases false is =
            let g = (add_step_stands code stands).1.1.1.1.1.1.1.1 in
            within Quiet code told.output 14 14 (lit≤ tt)
            (both Quiet code told.output 3 11 sums (λ q u.
            more Quiet code told.output finds u (library 180 (lit< tt)) refl
            (to_place {to = 75} refl (jumps_if finds 0 0x95 g.0 (sum_overflows laws (word_at w.memory k) (word_at w.memory (a + 1)) fx fx fs ∙ ap not is) u)) (λ q u. bad_sum t u)))
        cases true is =
            let g = (add_step_stands code stands).1.1.1.1.1.1.1.1 in
            let z = word_at w.memory k +ℤ word_at w.memory (a + 1) in
            let fz : FitsWord z = fits_tested z is in
            let value = sum_is laws (word_at w.memory k) (word_at w.memory (a + 1)) fx fs fz in
            let whole : back ≡ back % 65536 = omega arith in
            let lt' : n < 32768 = omega arith in
            let top : 2 * n ≡ 2 * n % 65536 = omega arith in
            let up : 2 * suc n % 65536 ≡ 2 * suc n = omega arith in
            within Quiet code told.output 6 14 (lit≤ tt)
            (both Quiet code told.output 3 3 sums (λ q u.
            more Quiet code told.output finds u (library 180 (lit< tt)) refl
            (passes_if finds 0 0x95 g.0 (sum_overflows laws (word_at w.memory k) (word_at w.memory (a + 1)) fx fx fs ∙ ap not is) u) (λ q u.
            straight Quiet code told.output finds (Store (places.Plain 4) 0 k ∷ []) {n = 1} (quiet 184 (lit≤ tt)) refl (g.1.0, tt) ((refl, k_low, there), tt)
            (with_ax value u) (λ q u.
            last Quiet code told.output finds u (library 184 (lit< tt)) refl (record {
              cells = put_word cells k (unsigned z);
              holds_words = stored k z lt fz h;
              back = record { ax = unsigned z; cx = cx; dx = line; bx = bx; si = 2 * si; flags = _; is = acts.return finds u n (2 * suc n) back g.1.1.0 lt' top up (way ∙ whole); answers = tt };
            })))))

    pub adds : n < 32767 → Tells stack bp r segment → a + 1 < area → {cx bx si : ℕ} {f : Flags} {cells : ℕ → ℕ} {p : Processor} (w : Words) → Holds area w.memory cells
        → Here 163 a cx bx (2 * n) si f cells p
        → Within Quiet code told.output 19 p (Ends code told.output area back (2 * suc n) bp segment line stack input told (perform area (AddStep a) w))
    adds n_low t small {cx} {bx} {si} {f} {cells} {p} w h s = cases (is_below (word_at w.memory a) area) refl
      where
        first : Leads Quiet code told.output 4 p
            (λ q. Here 171 a cx (2 * a) (2 * n) (unsigned (word_at w.memory a)) (difference_flags 32768 (unsigned (word_at w.memory a)) area false) cells q)
        first =
            let g = add_step_stands code stands in
            let low = h.low in
            let e : a < 32768 = omega arith in
            straight Quiet code told.output finds (Load 3 (Register 0) ∷ Double 3 ∷ Load 6 (Cell (places.Plain 7) a (unsigned (word_at w.memory a))) ∷ Comparison 6 (Register 7)
            ∷ []) {n = 0} (quiet 171 (lit≤ tt)) refl
            (g.0, (g.1.0, (g.1.1.0, (g.1.1.1.0, tt))))
            (tt, (e, ((refl, e, refl, h.words a inside_area), (tt, tt)))) s
            (λ q u. done Quiet code told.output u)

        cases : (b : Bool) → is_below (word_at w.memory a) area ≡ b
            → Within Quiet code told.output 19 p
            (Ends code told.output area back (2 * suc n) bp segment line stack input told
            (through b (λ i v. store_sum (fits_word (word_at v.memory i +ℤ word_at v.memory (a + 1))) i (word_at v.memory i +ℤ word_at v.memory (a + 1)) v)
            (word_at w.memory a) w))
        cases false is = within Quiet code told.output 15 19 (lit≤ tt) (both Quiet code told.output 4 11 first (λ q u. outside_stops 171 0x9A w.memory (add_step_stands code stands).1.1.1.1.0 (library 171 (lit< tt)) refl t is h u))
        cases true is =
            let g = (add_step_stands code stands).1.1.1.1 in
            let i = word_inside w.memory h is in
            afterwards Quiet code told.output 5 14 19 (lit≤ tt)
            (both Quiet code told.output 4 1 first (λ q u.
            more Quiet code told.output finds u (library 171 (lit< tt)) refl (passes_if finds 3 0x9A g.0 (below (unsigned (word_at w.memory a)) area i.2) u)
            (λ q u. done Quiet code told.output u)))
            (λ q u. sums_at (number_of (word_at w.memory a)) n_low t small i.0 w h refl i.1 u)

    -- ---- the value of the control variable

    pub puts : n < 32767 → Tells stack bp r segment → {cx bx si : ℕ} {f : Flags} {cells : ℕ → ℕ} {p : Processor} (memory : List ℤ) → Holds area memory cells
        → Here 185 a cx bx (2 * n) si f cells p
        → Within Quiet code told.output 16 p (Fetches told.output (is_below (word_at memory a) area) segment line
        (Fetched code back n bp a (unsigned (word_at memory (number_of (word_at memory a)))) area cells stack input told))
    puts n_low t {cx} {bx} {si} {f} {cells} {p} memory h s = cases (is_below (word_at memory a) area) refl
      where
        first : Leads Quiet code told.output 5 p
            (λ q. Here 194 a cx (unsigned (word_at memory a)) (2 * suc n) back (difference_flags 32768 (unsigned (word_at memory a)) area false) cells q)
        first = let g = put_variable_stands code stands in takes 185 memory (g.0, (g.1.0, (g.1.1.0, (g.1.1.1.0, (g.1.1.1.1.0, tt))))) (lit≤ tt) n_low h s

        cases : (b : Bool) → is_below (word_at memory a) area ≡ b
            → Within Quiet code told.output 16 p (Fetches told.output b segment line
            (Fetched code back n bp a (unsigned (word_at memory (number_of (word_at memory a)))) area cells stack input told))
        cases false is = within Quiet code told.output 16 16 (lit≤ tt) (both Quiet code told.output 5 11 first (λ q u. outside_stops 194 0x83 memory (put_variable_stands code stands).1.1.1.1.1.0 (library 194 (lit< tt)) refl t is h u))
        cases true is =
            let g = (put_variable_stands code stands).1.1.1.1.1 in
            let low = h.low in
            let i = word_inside memory h is in
            let k = number_of (word_at memory a) in
            let same = i.1 in
            let in_area = i.0 in
            let lower = i.2 in
            let half : unsigned (word_at memory a) < 32768 = omega arith in
            let k_low : k < 32768 = omega arith in
            let there : 2 * unsigned (word_at memory a) ≡ 2 * k = ap (λ n. 2 * n) same in
            let lt : n < 32768 = omega arith in
            let top : 2 * suc n ≡ 2 * suc n % 65536 = omega arith in
            let whole : back ≡ back % 65536 = omega arith in
            let x = unsigned (word_at memory k) in
            within Quiet code told.output 10 16 (lit≤ tt)
            (both Quiet code told.output 5 5 first (λ q u.
            more Quiet code told.output finds u (library 194 (lit< tt)) refl (passes_if finds 3 0x83 g.0 (below (unsigned (word_at memory a)) area lower) u) (λ q u.
            straight Quiet code told.output finds (Double 3 ∷ Load 1 (Cell (places.Plain 7) k x) ∷ Push 1 n ∷ []) {n = 1} (quiet 201 (lit≤ tt)) refl
            (g.1.0, (g.1.1.0, (g.1.1.1.0, tt)))
            (half, ((refl, k_low, there, h.words k in_area), ((lt, top), tt))) u (λ q u.
            last Quiet code told.output finds u (library 201 (lit< tt)) refl (record {
              stack = put_word stack n x;
              back = record { ax = a; cx = x; dx = line; bx = 2 * unsigned (word_at memory a); si = back; flags = _; is = acts.jump_to finds u 6 back g.1.1.1.1.0 whole; answers = refl };
              word_is = put_at stack n x;
              above = λ k lt. put_off stack n x k (λ e. omega arith);
            })))))

  -- ---- the end of a loop

  -- the sign of a step
  sign_up : (m : ℕ) → FitsWord (pos m) → sign_of (unsigned (pos m)) ≡ 0
  sign_up m f =
      let lt = positive_fits m f in
      ap sign_of (unsigned_pos m (omega arith)) ∙ ap (λ b. if b then 0 else 65535) (lt-ltb m 32768 lt)

  sign_down : (m : ℕ) → FitsWord (negsuc m) → sign_of (unsigned (negsuc m)) ≡ 65535
  sign_down m f =
      let lt = negative_fits m f in
      ap sign_of (unsigned_negative m lt) ∙ ap (λ b. if b then 0 else 65535) (le-ltb (65535 - m) 32768 (omega arith))

  -- whether the value, with its bits turned where the step is negative, is at most the limit
  order_up : (x l : ℤ) → FitsWord x → FitsWord l → meets (difference_flags 32768 (bit_xor (unsigned x) 0) (bit_xor (unsigned l) 0) false) 14 ≡ not (int_lt l x)
  order_up x l fx fl = ap₂ (λ a b. meets (difference_flags 32768 a b false) 14) (xor_zero_r (unsigned x)) (xor_zero_r (unsigned l)) ∙ compared laws x l fx fl ∙ not_greater x l

  order_down : (x l : ℤ) → FitsWord x → FitsWord l → meets (difference_flags 32768 (bit_xor (unsigned x) 65535) (bit_xor (unsigned l) 65535) false) 14 ≡ not (int_lt x l)
  order_down x l fx fl =
      let lx = laws.unsigned_fits x fx in
      let ll = laws.unsigned_fits l fl in
      let tx : 65535 - unsigned x < 65536 = omega arith in
      let tl : 65535 - unsigned l < 65536 = omega arith in
      ap₂ (λ a b. meets (difference_flags 32768 a b false) 14) (xor_all (unsigned x) lx) (xor_all (unsigned l) ll)
      ∙ at_most (65535 - unsigned x) (65535 - unsigned l) tx tl
      ∙ ap₂ int_le (turned_value (unsigned x) lx ∙ ap (λ z. negsuc 0 -ℤ z) (signed_back laws x fx)) (turned_value (unsigned l) ll ∙ ap (λ z. negsuc 0 -ℤ z) (signed_back laws l fl))
      ∙ turned_order x l

  module _ (area a bp n back : ℕ) (cells stack : ℕ → ℕ) (input : List ℕ) (told : Told) (memory : List ℤ) (x : ℤ) (fx : FitsWord x) (small : a + 2 < area)
      (h : Holds area memory cells) (n_low : n < 32766) (way : stack n ≡ back) (value : stack (suc n) ≡ unsigned x) (back_small : back < 65536) where
    abbrev There : (at ax cx dx bx sp si : ℕ) → Flags → Processor → Type 0
    There at ax cx dx bx sp si f p = At code at (view ax cx dx bx sp bp si area cells stack input told) f p

    abbrev Past : Bool → Processor → Type 0
    Past b p = Back code (if b then back else back + 3) (2 * suc (suc n)) bp area cells stack input told (λ ax f. Unit {0}) p

    on_with_it : {ax cx dx bx : ℕ} {f : Flags} {p : Processor} → There 231 ax cx dx bx (2 * suc (suc n)) back f p → Leads Quiet code told.output 2 p (Past false)
    on_with_it {ax} {cx} {dx} {bx} {f} s =
        let g = (exhausted_stands code stands).1.1.1.1.1.1.1.1.1.1.1.1.1.1 in
        straight Quiet code told.output finds (SumShort 6 3 ∷ []) {n = 1} (quiet 234 (lit≤ tt)) refl (g.0, tt) (tt, tt) s (λ q u.
        last Quiet code told.output finds u (library 234 (lit< tt)) refl
        (record { ax = ax; cx = cx; dx = dx; bx = bx; si = word_sum back 3; flags = _; is = acts.jump_to finds u 6 (back + 3) g.1.0 refl; answers = tt }))

    -- behind the comparison
    by_order : (past : Bool) {ax cx dx bx : ℕ} {p : Processor} → meets (difference_flags 32768 cx bx false) 14 ≡ not past
        → There 227 ax cx dx bx (2 * suc (suc n)) back (difference_flags 32768 cx bx false) p
        → Within Quiet code told.output 3 p (Past past)
    by_order true {ax} {cx} {dx} {bx} is s =
        let g = (exhausted_stands code stands).1.1.1.1.1.1.1.1.1.1.1.1 in
        let whole : back ≡ back % 65536 = omega arith in
        within Quiet code told.output 2 3 (lit≤ tt)
        (more Quiet code told.output finds s (library 227 (lit< tt)) refl (passes_if finds 14 2 g.0 is s) (λ q u.
        last Quiet code told.output finds u (library 229 (lit< tt)) refl
        (record { ax = ax; cx = cx; dx = dx; bx = bx; si = back; flags = _; is = acts.jump_to finds u 6 back g.1.0 whole; answers = tt })))
    by_order false {ax} {cx} {dx} {bx} is s =
        let g = (exhausted_stands code stands).1.1.1.1.1.1.1.1.1.1.1.1 in
        within Quiet code told.output 3 3 (lit≤ tt)
        (more Quiet code told.output finds s (library 227 (lit< tt)) refl (jumps_if finds 14 2 g.0 is s) (λ q u. on_with_it u))

    fl : FitsWord (word_at memory (a + 2))
    fl = fits_there (a + 2) small h

    -- with a step that is not 0
    by_step : (sign : ℕ) (past : Bool) {w : ℕ} {p : Processor} → w < 65536 → w ≢ 0
        → meets (difference_flags 32768 (bit_xor (unsigned x) sign) (bit_xor (unsigned (word_at memory (a + 2))) sign) false) 14 ≡ not past
        → There 219 w (unsigned x) sign (unsigned (word_at memory (a + 2))) (2 * suc (suc n)) back (difference_flags 32768 w 0 false) p
        → Within Quiet code told.output 7 p (Past past)
    by_step sign past {w} lt some is s =
        let g = (exhausted_stands code stands).1.1.1.1.1.1.1.1 in
        afterwards Quiet code told.output 4 3 7 (lit≤ tt)
        (more Quiet code told.output finds s (library 219 (lit< tt)) refl (passes_if finds 4 10 g.0 (not_equal w 0 lt (lit< tt) some) s) (λ q u.
        straight Quiet code told.output finds (One 1 (Register 2) ∷ One 3 (Register 2) ∷ Comparison 1 (Register 3) ∷ []) {n = 0} (quiet 227 (lit≤ tt)) refl
        (g.1.0, (g.1.1.0, (g.1.1.1.0, tt)))
        (tt, (tt, (tt, tt))) u (λ q u. done Quiet code told.output u)))
        (λ q u. by_order past {cx = bit_xor (unsigned x) sign} {bx = bit_xor (unsigned (word_at memory (a + 2))) sign} is u)

    abbrev Loaded : ℤ → Processor → Type 0
    Loaded step p = There 219 (unsigned step) (unsigned x) (sign_of (unsigned step)) (unsigned (word_at memory (a + 2))) (2 * suc (suc n)) back
        (difference_flags 32768 (unsigned step) 0 false) p

    by_sign : (step : ℤ) → FitsWord step → {p : Processor} → Loaded step p → Within Quiet code told.output 7 p (Past (is_past step x (word_at memory (a + 2))))
    by_sign (pos zero) fs s =
        let g = (exhausted_stands code stands).1.1.1.1.1.1.1.1 in
        let none : unsigned (pos zero) ≡ 0 = unsigned_pos 0 (lit< tt) in
        within Quiet code told.output 3 7 (lit≤ tt)
        (more Quiet code told.output finds s (library 219 (lit< tt)) refl
        (jumps_if finds 4 10 g.0 (equal (unsigned (pos zero)) 0 (laws.unsigned_fits (pos zero) fs) (lit< tt) none) s) (λ q u. on_with_it u))
    by_sign (pos (suc m)) fs {p} s =
        let l = word_at memory (a + 2) in
        let lt = positive_fits (suc m) fs in
        let is = unsigned_pos (suc m) (omega arith) in
        let some : unsigned (pos (suc m)) ≢ 0 = λ e. omega arith in
        by_step 0 (int_lt l x) (laws.unsigned_fits (pos (suc m)) fs) some (order_up x l fx fl)
        (subst (λ d. There 219 (unsigned (pos (suc m))) (unsigned x) d (unsigned l) (2 * suc (suc n)) back (difference_flags 32768 (unsigned (pos (suc m))) 0 false) p)
        (sign_up (suc m) fs) s)
    by_sign (negsuc m) fs {p} s =
        let l = word_at memory (a + 2) in
        let lt = negative_fits m fs in
        let is = unsigned_negative m lt in
        let some : unsigned (negsuc m) ≢ 0 = λ e. omega arith in
        by_step 65535 (int_lt x l) (laws.unsigned_fits (negsuc m) fs) some (order_down x l fx fl)
        (subst (λ d. There 219 (unsigned (negsuc m)) (unsigned x) d (unsigned l) (2 * suc (suc n)) back (difference_flags 32768 (unsigned (negsuc m)) 0 false) p)
        (sign_down m fs) s)

    pub exhausts : {cx dx bx si : ℕ} {f : Flags} {p : Processor} → There 203 a cx dx bx (2 * n) si f p
        → Within Quiet code told.output 15 p (Past (is_past (word_at memory (a + 1)) x (word_at memory (a + 2))))
    exhausts s =
        let g = exhausted_stands code stands in
        let step = word_at memory (a + 1) in
        let low = h.low in
        let e0 : a < 32768 = omega arith in
        let e1 : a + 1 < 32768 = omega arith in
        let e2 : a + 2 < 32768 = omega arith in
        let in1 : a + 1 < area = omega arith in
        let t1 : (2 * a + 2) % 65536 ≡ 2 * (a + 1) = omega arith in
        let t2 : (2 * a + 4) % 65536 ≡ 2 * (a + 2) = omega arith in
        let n0 : n < 32768 = omega arith in
        let n1 : suc n < 32768 = omega arith in
        let top0 : 2 * n ≡ 2 * n % 65536 = omega arith in
        let top1 : 2 * suc n ≡ 2 * suc n % 65536 = omega arith in
        let up0 : 2 * suc n % 65536 ≡ 2 * suc n = omega arith in
        let up1 : 2 * suc (suc n) % 65536 ≡ 2 * suc (suc n) = omega arith in
        afterwards Quiet code told.output 8 7 15 (lit≤ tt)
        (straight Quiet code told.output finds
        (Pop 6 n back (2 * suc n) ∷ Load 3 (Register 0) ∷ Double 3 ∷ Pop 1 (suc n) (unsigned x) (2 * suc (suc n))
        ∷ Load 0 (Cell (places.Near 7 2) (a + 1) (unsigned step)) ∷ Load 3 (Cell (places.Near 7 4) (a + 2) (unsigned (word_at memory (a + 2)))) ∷ Sign ∷ ComparisonNumber 0
        ∷ []) {n = 0} (quiet 219 (lit≤ tt)) refl
        (g.0, (g.1.0, (g.1.1.0, (g.1.1.1.0, (g.1.1.1.1.0, (g.1.1.1.1.1.0, (g.1.1.1.1.1.1.0, (g.1.1.1.1.1.1.1.0, tt)))))))) ((n0, top0, way, up0), (tt, (e0, ((n1, top1, value, up1), ((refl, e1, t1, h.words (a + 1) in1), ((refl, e2, t2, h.words (a + 2) small), (tt, (tt, tt)))))))) s (λ q u. done Quiet code told.output u))
        (λ q u. by_sign step (fits_there (a + 1) in1 h) u)
