-- Blocks that compare the top operand with bounds and form an address of it: between the bounds all words are known to be in the data area,
-- so the address is not tested. The order that compares may stop, and pays for the way to the stop.
use Rattle.std.proofs.Common.{◌≡◌, ℕ, zero, suc, ◌+◌, ◌*◌, ◌<◌, ◌≤◌, Bool, true, false, ℤ, pos, negsuc, ◌+ℤ◌, ◌-ℤ◌, ◌*ℤ◌, List, [], ◌∷◌, ◌++◌, drop, Some, refl, sym, ap, ap₂, ◌∙◌, subst, arith, lit<, lit≤}
use Rattle.std.specs.Prelude.{slice_get, int_le, nat_lt, ◌&&◌, ◌==◌, if◌then◌else◌, min}
use borrow.Author.Tests.{ltb-true, eqb-true}
use Rattle.std.proofs.Math.Nat.{mul-le-mul_right}
use Rattle.std.proofs.lemmas.Bool.{lt-ltb}
use Rattle.std.proofs.lemmas.Int.{ints}
use Rattle.std.proofs.lemmas.List.Elements.{All-head}
use Rattle.std.specs.List.{All}
use Rattle.cw_i86.specs.declared.instr.Rm.TheVariants as rms
use Rattle.cw_rows86.specs.Locations.{InRegister}
use Rattle.cw_rows86.specs.Operations.{Add}
use Rattle.cw_rows86.specs.Acts.{OperateNumberOnto}
use Rattle.cw_run86.specs.Processor.{Told}
use Rattle.cw_run86.specs.Views.{word_sum, word_difference, sum_overflows, product_low, with_number}
use Rattle.cw_word.specs.FixedPoint.{FitsWord, fits_word}
use Rattle.cw_word.specs.Word.{signed, unsigned}
use Rattle.cw_unit.specs.Stop.{StopKind, IndexRange, Running}
use Rattle.cw_unit.specs.Words.{Operand, Word, Held, Words, Outcome, Changed, Refused, put, put_if, with_operands, on_one}
use Rattle.cw_unit.specs.Operation.{Indexed, Scaled, fitting, address_of}
use Rattle.cw_order.specs.declared.order.Order.{Order}
use Rattle.cw_order.specs.declared.order.Order.TheVariants as order
use Rattle.cw_order.specs.FittingWords.{OperandFits}
use Rattle.cw_order.specs.Loading.{loaded_after}
use Rattle.cw_order.specs.OrderActions.{home_word}
use Rattle.cw_order.specs.OrderChanges.{from_base}
use Rattle.cw_order.specs.OrderCosts.{weight_of}
use Rattle.cw_order.specs.OrderMachine.{after, carry_with, weight}
use Rattle.cw_order.specs.OrderProgram.{order_at}
use Rattle.cw_order.specs.OrderState.{OrderActivation, at as at_order, operand_words}
use Rattle.cw_tmpl.specs.declared.blocks.Bounds.{Bounds}
use Rattle.cw_tmpl.specs.declared.blocks.Bounded.{Bounded}
use Rattle.cw_tmpl.specs.declared.blocks.Form.{Form}
use Rattle.cw_tmpl.specs.declared.blocks.Form.TheVariants as form
use Rattle.cw_tmpl.specs.declared.blocks.Block.TheVariants as block
use Rattle.cw_tmpl.specs.declared.pieces.Coded.{Coded}
use Rattle.cw_tmpl.specs.declared.pieces.Coded.TheVariants as coded
use Rattle.cw_tmpl.specs.declared.pieces.Target.TheVariants as target
use Rattle.cw_tmpl.specs.Blocks.{orders_to_form, form_order, form_within, entries_within, block_at, orders_left}
use Rattle.cw_tmpl.specs.Library.{bounds_entry}
use Rattle.cw_tmpl.specs.Mnemonics.{set_word, multiply}
use Rattle.cw_tmpl.specs.Pieces.{Filling}
use Rattle.cw_tmpl.specs.Templates.{indexes_between, top_below, top_from_lower, formed, block_size}
use Rattle.cw_tmpl.specs.Sizes.{top_lower_size, formed_size}
use Rattle.cw_tmpl.proofs.Lengths.{top_lower_long}
use Rattle.cw_tmpl.proofs.Sizes.{bounded_long}
use Rattle.cw_routines.proofs.Facts.{fits_tested, unsigned_pos}
use Rattle.cw_follow.proofs.Watched.{Watched, watched_step}
use Rattle.cw_follow.proofs.Chains.{Is, Leads, view, last, done, subtract_number}
use Rattle.cw_follow.proofs.Acting.{act}
use Rattle.cw_follow.proofs.Straight.{Number, Product, straight}
use Rattle.cw_follow.proofs.Standing.{HasPieces, stand_both, Has}
use Rattle.cw_follow.proofs.Routines.{leads_on, leads_then}
use Rattle.cw_follow.proofs.Stacks.{level, record_of}
use Rattle.cw_follow.proofs.Orders.{Kept, Landed, Does, later, further}
use Rattle.cw_follow.proofs.Operands.{Setting, One, one_there, LandedWith, DoesHere, result}
use Rattle.cw_follow.proofs.Addresses.{product_is, count_passes, count_stops}
use Rattle.cw_follow.proofs.Indexed.{BetweenBounds, from_word, between_bounds, past_bounds, formed_between, lower_steps, few_lower}
use Rattle.cw_follow.proofs.ElementTests.{many_between, within_span, order_there}
use Rattle.cw_follow.proofs.ElementOrders.{stops_follow}
use Rattle.cw_follow.proofs.InBlocks.{silently, puts_word, chain}
use Rattle.cw_follow.proofs.States.{Given, Sound}
use Rattle.cw_follow.proofs.Steps.{Follow, setting, calls, by, order_here, weight_is, wrong_way, moded_as, did_as, block_code, block_ends, start_place, does, code_end}
use Rattle.cw_follow.proofs.BlockOrders.{room_in, within_block, inner_follows, modes, step_in}
use Rattle.cw_follow.proofs.Naming.{both_true}
use Rattle.cw_tmpl.specs.declared.blocks.Block.{Block}

-- ---- arithmetic

-- how many words an address is past the first one, for the number of an index from the lower bound on
abbrev pub words_past : Form → ℕ → ℕ
words_past (form.Element span line) n = n
words_past (form.Entry width word span line) n = n * width + word

-- what is known of the numbers of a form
abbrev pub FormNumbers : ℤ → Form → Type 0
FormNumbers lower (form.Element span line) = Unit {0}
FormNumbers lower (form.Entry width word span line) = (lower ≡ pos 0) × (width ≤ 32768)

abbrev line_in : Form → ℕ
line_in (form.Element span line) = line
line_in (form.Entry width word span line) = line

-- the word that the address is counted from
abbrev pub first_of : (first : ℕ) → Form → ℕ
first_of first (form.Element span line) = first
first_of first (form.Entry width word span line) = first + word

-- an upper bound of entries, whose words are in the span
record EntriesSpanned (lower upper : ℤ) (width word span : ℕ) : Type 0 where
  pub last : ℕ
  pub last_is : upper -ℤ lower ≡ pos last
  pub within : last * width + word < span
  pub from_zero : lower ≡ pos 0

entries_spanned : (lower upper : ℤ) (width word span : ℕ) → entries_within lower upper width word span ≡ true → EntriesSpanned lower upper width word span
entries_spanned (pos zero) (pos n) width word span e = record { last = n; last_is = omega (arith, ints); within = ltb-true (n * width + word) span e; from_zero = refl }
entries_spanned (pos zero) (negsuc n) width word span e = absurd (cc)
entries_spanned (pos (suc k)) upper width word span e = absurd (cc)
entries_spanned (negsuc k) upper width word span e = absurd (cc)

few_last : (upper : ℤ) (n : ℕ) → FitsWord upper → upper -ℤ pos 0 ≡ pos n → n < 32768
few_last (pos k) n f e = omega (arith, ints, f.sfits)
few_last (negsuc k) n f e = omega (arith, ints)

past_most : (f : Form) (m n : ℕ) → m ≤ n → words_past f m ≤ words_past f n
past_most (form.Element span line) m n le = le
past_most (form.Entry width word span line) m n le = omega (arith, mul-le-mul_right width le)

-- the product of a number and the words of an entry
product_small : (n width : ℕ) → n * width < 32768 → n < 32768 → width ≤ 32768 → (f : FitsWord (signed width)) → unsigned (signed width) ≡ width → ((x y : ℤ) → FitsWord x → FitsWord y → FitsWord (x *ℤ y) → product_low (unsigned x) (unsigned y) ≡ unsigned (x *ℤ y))
    → product_low n width ≡ n * width
product_small zero width lt few most fs same law =
    let none : pos 0 *ℤ signed width ≡ pos 0 = omega (arith, ints) in
    let f0 : FitsWord (pos 0) = omega (arith, ints) in
    let nothing : 0 ≡ 0 * width = omega arith in
    ap (product_low 0) (sym same) ∙ law (pos 0) (signed width) f0 fs (subst FitsWord (sym none) f0) ∙ ap unsigned none ∙ nothing
product_small (suc n) width lt few most fs same law =
    let le : width ≤ suc n * width = omega arith in
    let short : width < 32768 = omega arith in
    let fn : FitsWord (pos (suc n)) = fits_tested (pos (suc n)) (lt-ltb (suc n) 32768 few) in
    let fw : FitsWord (pos width) = fits_tested (pos width) (lt-ltb width 32768 short) in
    let product : pos (suc n) *ℤ pos width ≡ pos (suc n * width) = omega (arith, ints) in
    let fz : FitsWord (pos (suc n * width)) = fits_tested (pos (suc n * width)) (lt-ltb (suc n * width) 32768 lt) in
    ap₂ product_low (sym (unsigned_pos (suc n) (omega arith))) (sym (unsigned_pos width (omega arith)))
    ∙ law (pos (suc n)) (pos width) fn fw (subst FitsWord (sym product) fz) ∙ ap unsigned product ∙ unsigned_pos (suc n * width) (omega arith)

-- what the source does with an entry whose word is in the area
formed_entry : (area b n width word : ℕ) (v : Words) → area ≤ 32768 → b + (n * width + word) < area
    → fitting (fits_word (pos n *ℤ pos width)) (fitting (fits_word (pos n *ℤ pos width +ℤ pos word)) (address_of (min area 32768) (signed b +ℤ (pos n *ℤ pos width +ℤ pos word)) v))
    ≡ Changed (put (pos (b + (n * width + word))) v)
formed_entry area b n width word v low within =
    ap (λ y. fitting (fits_word y) (fitting (fits_word (y +ℤ pos word)) (address_of (min area 32768) (signed b +ℤ (y +ℤ pos word)) v))) product
    ∙ ap (λ t. fitting t (fitting (fits_word (pos (n * width) +ℤ pos word)) (address_of (min area 32768) (signed b +ℤ (pos (n * width) +ℤ pos word)) v))) (lt-ltb (n * width) 32768 (omega arith))
    ∙ formed_between area b (n * width + word) (pos (n * width) +ℤ pos word) v low within total
  where
    product : pos n *ℤ pos width ≡ pos (n * width)
    product = omega (arith, ints)

    total : pos (n * width) +ℤ pos word ≡ pos (n * width + word)
    total = omega (arith, ints)

-- the instructions of the code
abbrev pub formed_steps : Form → ℕ
formed_steps (form.Element span line) = 1
formed_steps (form.Entry width word span line) = if width == 1 then 1 else 3

pub few_formed : (f : Form) → formed_steps f ≤ 3
few_formed (form.Element span line) = lit≤ tt
few_formed (form.Entry width word span line) = cases (width == 1)
  where
    cases : (b : Bool) → (if b then 1 else 3) ≤ 3
    cases true = lit≤ tt
    cases false = lit≤ tt

-- ---- the code

module _ (c : Setting) (memory : List ℤ) (input output : List ℕ) (value : Filling) where
  -- a word in AX, and all else of use as it was
  pub record InTop (at word si top : ℕ) (cells stack : ℕ → ℕ) (left : List ℕ) (told : Told) (q : Watched) : Type 0 where
    pub cx : ℕ
    pub dx : ℕ
    pub bx : ℕ
    pub overflow : Bool
    pub is : Is c.image at (view word cx dx bx (2 * suc top) (record_of c.acts) si c.program.limits.area overflow cells stack left told) q

  module _ {at word si : ℕ} {cells stack : ℕ → ℕ} {left : List ℕ} {told : Told} {p : Watched} (top : ℕ) (small : word < 65536) (kept : Kept c.program c.g c.acts memory input output cells stack left told)
      (s : InTop at word si top cells stack left told p) where
    takes_lower : (n : ℕ) → Has c.image at (with_number 5 n) → Leads output 1 p (InTop (at + 3) (word_difference word n) si top cells stack left told)
    takes_lower n h = last c.rows s.is kept.wrote (record { cx = s.cx; dx = s.dx; bx = s.bx; overflow = _; is = subtract_number c.rows n h s.is })

    pub less_lower : (lower : ℤ) (rest : List Coded) → HasPieces c.image value at (top_from_lower lower ++ rest) → Leads output (lower_steps lower) p (InTop (at + top_lower_size lower) (word_difference word (unsigned lower)) si top cells stack left told)
    less_lower (pos zero) rest h =
        let same : word ≡ word_difference word 0 = omega (arith, small) in
        let here : at ≡ at + 0 = omega arith in
        done (subst (λ n. InTop n (word_difference word 0) si top cells stack left told p) here (subst (λ b. InTop at b si top cells stack left told p) same s))
    less_lower (pos (suc n)) rest h = takes_lower (unsigned (pos (suc n))) h.0
    less_lower (negsuc n) rest h = takes_lower (unsigned (negsuc n)) h.0

    -- a number added that the linker fills in
    adds_word : (family offset base z : ℕ) → value 1 family offset (at + 4) ≡ base → word_sum word base ≡ z → HasPieces c.image value at (coded.Sum 0 (target.Word family offset) ∷ [])
        → Leads output 1 p (InTop (at + 4) z si top cells stack left told)
    adds_word family offset base z named sum h =
        last c.rows s.is kept.wrote (record {
          cx = s.cx;
          dx = s.dx;
          bx = s.bx;
          overflow = sum_overflows word (value 1 family offset (at + 4));
          is = subst (λ b. Is c.image (at + 4) (view b s.cx s.dx s.bx (2 * suc top) (record_of c.acts) si c.program.limits.area (sum_overflows word (value 1 family offset (at + 4))) cells stack left told) (watched_step p))
              (ap (word_sum word) named ∙ sum)
              (act c.rows (OperateNumberOnto Add (value 1 family offset (at + 4)) (rms.Reg 0) (InRegister 0) word) (lit< tt) h.0 (refl, tt, refl) s.is).is;
        })

  -- the number of an index from the lower bound on, and the address that is formed of it
  module _ {si : ℕ} {cells stack : ℕ → ℕ} {left : List ℕ} {told : Told} (top : ℕ) (kept : Kept c.program c.g c.acts memory input output cells stack left told) where
    pub forms : {p : Watched} {at : ℕ} (family first base n : ℕ) (lower : ℤ) (f : Form) → FormNumbers lower f → n < 32768 → base + words_past f n < 32768
        → ((after : ℕ) → value 1 family (first_of first f) after ≡ base + (words_past f 0)) → HasPieces c.image value at (formed family first f) → InTop at n si top cells stack left told p
        → Leads output (formed_steps f) p (InTop (at + formed_size f) (base + words_past f n) si top cells stack left told)
    forms {p} {at} family first base n lower (form.Element span line) numbers few low named h s =
        adds_word top (omega arith) kept s family first base (base + n) (named (at + 4) ∙ (let e : base + 0 ≡ base = omega arith in e)) (omega arith) h
    forms {p} {at} family first base n lower (form.Entry width word span line) numbers few low named h s = cases (width == 1) refl h
      where
        cases : (b : Bool) → (width == 1) ≡ b → HasPieces c.image value at ((if b then [] else coded.Whole (set_word 3 width) ∷ coded.Whole (multiply 3) ∷ []) ++ coded.Sum 0 (target.Word family (first + word)) ∷ [])
            → Leads output (if b then 1 else 3) p (InTop (at + (if b then 4 else 9)) (base + (n * width + word)) si top cells stack left told)
        cases true is h =
            let one : width ≡ 1 = eqb-true width 1 is in
            let same : n * width ≡ n = ap (λ m. n * m) one ∙ (let e : n * 1 ≡ n = omega arith in e) in
            adds_word top (omega arith) kept s family (first + word) (base + (0 * width + word)) (base + (n * width + word)) (named (at + 4)) (omega arith) h
        cases false is h =
            let most = numbers.1 in
            let some : n * width < 32768 = omega arith in
            let product : product_low n width ≡ n * width =
            product_small n width some few most (c.rows.words.signed_fits width (omega arith)) (c.rows.words.numbers.words.forth width (omega arith)) (λ x y fx fy f. product_is c.rows x y fx fy f) in
            let there : at + 3 + 2 + 4 ≡ at + 9 = omega arith in
            leads_then {n = 2} {m = 1}
            (straight c.rows (Number 3 width ∷ Product 3 ∷ []) {n = 0} kept.wrote (h.0, (h.1.0, tt)) (tt, (tt, tt)) s.is
            (λ q t. done {Target = InTop (at + 3 + 2) (n * width) si top cells stack left told}
            (subst (λ m. InTop (at + 3 + 2) m si top cells stack left told q) product (record { cx = s.cx; dx = _; bx = width; overflow = _; is = t }))))
            (λ q t.
            subst (λ k. Leads output 1 q (InTop k (base + (n * width + word)) si top cells stack left told)) there
            (adds_word top (omega arith) kept t family (first + word) (base + (0 * width + word)) (base + (n * width + word)) (named (at + 3 + 2 + 4)) (omega arith) h.1.1))

-- ---- the orders

-- a mode that is known, and its other name
-- an index between bounds
abbrev pub is_between : Bounds → ℤ → Bool
is_between b x = int_le b.lower x && int_le x b.upper

pub same_mode : (before now mode : Bool) → Some before ≡ Some now → before ≡ mode → now ≡ mode
same_mode before now mode same is = cc

module _ (known : Given) where
  open known use {rows, p, image, all, coded, few, low}

  module _ {q : Watched} {g place : ℕ} {loaded : Bool} {acts : List OrderActivation} {w : Words} (s : Sound p image g place loaded acts w q) where
    -- what is known of such a block
    record Known (b : Bounds) (family first : ℕ) (f : Form) : Type 0 where
      pub last : ℕ
      pub last_is : b.upper -ℤ b.lower ≡ pos last
      pub few : last < 32768
      pub from_zero : FormNumbers b.lower f
      pub lower_fits : FitsWord b.lower
      pub upper_fits : FitsWord b.upper
      pub small : b.line < 65536
      pub inside : home_word p.addresses g family first + words_past f last < p.limits.area
      pub named : home_word p.addresses g family (first_of first f) ≡ home_word p.addresses g family first + words_past f 0

    abbrev listed : Bounds → (family first : ℕ) → Form → List Order → List Order
    listed b family first f rest = order.InBounds b.lower b.upper b.line ∷ order.Save ∷ order.Home family first ∷ form_order b.lower f ∷ rest

    known_of : (b : Bounds) (family first : ℕ) (f : Form) (rest : List Order) → drop s.from s.orders.list ≡ listed b family first f rest → form_within b first f ≡ true → Known b family first f
    known_of b family first f rest list within = cases f list within
      where
        compares : order_at p g (s.from + 0) ≡ Some (order.InBounds b.lower b.upper b.line)
        compares = order_there known s 0 (order.InBounds b.lower b.upper b.line) _ list refl

        next : s.from + 3 ≡ s.from + 2 + 1
        next = omega arith

        cases : (f : Form) → drop s.from s.orders.list ≡ listed b family first f rest → form_within b first f ≡ true → Known b family first f
        cases (form.Element span line) list within =
            let o = order.Element b.lower span line in
            let h = coded.codes g (s.from + 0) (order.InBounds b.lower b.upper b.line) compares in
            let t = within_span (b.upper -ℤ b.lower) span within in
            let inside = coded.spans g (s.from + 2) family first t.0 o (order_there known s 2 (order.Home family first) _ list refl)
            (subst (λ n. order_at p g n ≡ Some o) next (order_there known s 3 o _ list refl)) t.2 in
            record {
              last = t.0;
              last_is = t.1;
              few = omega arith;
              from_zero = tt;
              lower_fits = h.0;
              upper_fits = h.1;
              small = coded.lines g (s.from + 0) (order.InBounds b.lower b.upper b.line) compares;
              inside = inside;
              named = omega arith;
            }
        cases (form.Entry width word span line) list within =
            let o = order.Entry width word span line in
            let h = coded.codes g (s.from + 0) (order.InBounds b.lower b.upper b.line) compares in
            let last_there : order_at p g (s.from + 2 + 1) ≡ Some o = subst (λ n. order_at p g n ≡ Some o) next (order_there known s 3 o _ list refl) in
            let most = (coded.codes g (s.from + 2 + 1) o last_there).0 in
            let t = entries_spanned b.lower b.upper width word span (both_true (entries_within b.lower b.upper width word span) (nat_lt (first + word) 65536) within).0 in
            let inside = coded.spans g (s.from + 2) family first (t.last * width + word) o (order_there known s 2 (order.Home family first) _ list refl) last_there t.within in
            record {
              last = t.last;
              last_is = t.last_is;
              few = few_last b.upper t.last h.1 (ap (λ l. b.upper -ℤ l) (sym t.from_zero) ∙ t.last_is);
              from_zero = (t.from_zero, most);
              lower_fits = h.0;
              upper_fits = h.1;
              small = coded.lines g (s.from + 0) (order.InBounds b.lower b.upper b.line) compares;
              inside = inside;
              named = omega (arith, inside);
            }

    count_is : (b : Bounds) (family first : ℕ) (f : Form) (z : Known b family first f) → indexes_between (b.upper -ℤ b.lower) ≡ suc z.last
    count_is b family first f z = ap indexes_between z.last_is ∙ many_between z.last z.few

    -- ---- the code

    abbrev value_of : Filling
    value_of = (all.stands g s.orders s.unit).value

    abbrev pub Top : (x : ℤ) (rest : List Operand) → Type 0
    Top x rest = One (setting known s) s.before.memory s.before.input s.before.output (start_place known s) x rest q

    abbrev test_at : Bounds → ℕ
    test_at b = start_place known s + top_lower_size b.lower

    -- the parts of the code
    record Parts (b : Bounds) (family first : ℕ) (f : Form) : Type 0 where
      pub whole : HasPieces image value_of (start_place known s) (top_from_lower b.lower ++ (top_below b.line (indexes_between (b.upper -ℤ b.lower)) ++ formed family first f))
      pub tests : HasPieces image value_of (test_at b) (top_below b.line (indexes_between (b.upper -ℤ b.lower)) ++ formed family first f)

    parts_of : (b : Bounds) (family first : ℕ) (f : Form) → HasPieces image value_of (start_place known s) (top_from_lower b.lower ++ (top_below b.line (indexes_between (b.upper -ℤ b.lower)) ++ formed family first f)) → Parts b family first f
    parts_of b family first f h =
        let rest : List Coded = top_below b.line (indexes_between (b.upper -ℤ b.lower)) ++ formed family first f in
        record { whole = h; tests = subst (λ n. HasPieces image value_of (start_place known s + n) rest) (top_lower_long b.lower) (stand_both image value_of (start_place known s) (top_from_lower b.lower) rest h).1 }

    -- the number of the index from the lower bound on
    numbered : (b : Bounds) (family first : ℕ) (f : Form) (x : ℤ) (rest : List Operand) (l : Top x rest) → FitsWord x → Parts b family first f
        → Leads s.before.output (lower_steps b.lower) q (InTop (setting known s) s.before.memory s.before.input s.before.output value_of (test_at b) (from_word b.lower x) l.si l.top l.cells l.stack l.left l.told)
    numbered b family first f x rest l fx h =
        less_lower (setting known s) s.before.memory s.before.input s.before.output value_of l.top (rows.words.numbers.words.unsigned_fits x fx) l.kept
        (record { cx = l.cx; dx = l.dx; bx = l.bx; overflow = l.overflow; is = l.is }) b.lower _ h.whole

    -- the stop, where the index is not between the bounds
    bounds_stop : (b : Bounds) (family first : ℕ) (f : Form) (z : Known b family first f) (x : ℤ) (rest : List Operand) (l : Top x rest) → FitsWord x → Parts b family first f → is_between b x ≡ false → (to : ℕ) (m : Bool)
        → DoesHere (setting known s) s.before.memory s.before.input s.before.output 22 to m b.line q (Refused IndexRange)
    bounds_stop b family first f z x rest l fx h fails to m =
        let count = count_is b family first f z in
        let past = past_bounds b.lower b.upper x z.last z.lower_fits z.upper_fits fx z.last_is fails in
        let few_first = few_lower b.lower in
        let stop = test_at b + 3 + 2 + 3 in
        later p image 15 to g m b.line acts (lower_steps b.lower) 22 (Refused IndexRange) (omega arith) (numbered b family first f x rest l fx h)
        (λ t u.
        count_stops (setting known s) s.before.memory s.before.input s.before.output (λ k. HasPieces image value_of k (formed family first f)) (by known s bounds_entry stop) b.line l.top (indexes_between (b.upper -ℤ b.lower)) l.kept h.tests u.is
        to m z.small l.low (calls known s bounds_entry stop (lit< tt)) (omega arith))

    -- the number of an index between the bounds
    number_in : (b : Bounds) (family first : ℕ) (f : Form) (z : Known b family first f) (x : ℤ) → FitsWord x → is_between b x ≡ true → BetweenBounds b.lower x z.last
    number_in b family first f z x fx holds = between_bounds b.lower b.upper x z.last z.lower_fits z.upper_fits fx z.last_is holds

    -- the address, where it is
    addressed : (b : Bounds) (family first : ℕ) (f : Form) (z : Known b family first f) (x : ℤ) (rest : List Operand) (l : Top x rest) (fx : FitsWord x) → Parts b family first f → (holds : is_between b x ≡ true)
        → Leads s.before.output (lower_steps b.lower + (2 + formed_steps f)) q
        (InTop (setting known s) s.before.memory s.before.input s.before.output value_of (test_at b + 3 + 2 + 5 + formed_size f) (home_word p.addresses g family first + words_past f (number_in b family first f z x fx holds).number) l.si l.top l.cells l.stack l.left l.told)
    addressed b family first f z x rest l fx h holds =
        let st = all.stands g s.orders s.unit in
        let n = number_in b family first f z x fx holds in
        let few_numbers = n.within in
        let number_is = n.is in
        let count = count_is b family first f z in
        let most = past_most f n.number z.last n.within in
        let inside = z.inside in
        let few_words = z.few in
        let from = test_at b + 3 + 2 + 3 in
        let there : from + 2 ≡ test_at b + 3 + 2 + 5 = omega arith in
        let onward : HasPieces image value_of (test_at b + 3 + 2 + 5) (formed family first f) = subst (λ k. HasPieces image value_of k (formed family first f)) there h.tests.1.1.1.1 in
        leads_then (numbered b family first f x rest l fx h)
        (λ t u.
        leads_then
        (count_passes (setting known s) s.before.memory s.before.input s.before.output (λ k. HasPieces image value_of k (formed family first f)) (by known s bounds_entry from) b.line l.top (indexes_between (b.upper -ℤ b.lower)) l.kept h.tests u.is (omega arith))
        (λ r v.
        forms (setting known s) s.before.memory s.before.input s.before.output value_of l.top l.kept family first (home_word p.addresses g family first) n.number b.lower f z.from_zero (omega arith) (omega arith)
        (λ after. st.fills.homes family (first_of first f) after ∙ z.named) onward
        (subst (λ m. InTop (setting known s) s.before.memory s.before.input s.before.output value_of (test_at b + 3 + 2 + 5) m l.si l.top l.cells l.stack l.left l.told r) n.is (record { cx = u.cx; dx = u.dx; bx = u.bx; overflow = _; is = v }))))

    -- ---- the words

    -- the top operand at the begin
    pub top_there : (x : ℤ) (rest : List Operand) → s.before.operands ≡ Word x ∷ rest → Landed p image (start_place known s) g true acts s.before q → Top x rest
    top_there x rest same l =
        one_there (setting known s) s.before.memory s.before.input s.before.output x rest (subst (λ xs. operand_words xs < level acts) same (room_in known s))
        (subst (λ xs. LandedWith (setting known s) s.before.memory s.before.input s.before.output (start_place known s) true xs q) same l)

    pub top_fits : (x : ℤ) (rest : List Operand) → s.before.operands ≡ Word x ∷ rest → FitsWord x
    top_fits x rest same = All-head OperandFits (Word x) rest (subst (All OperandFits) same s.fits_before.operands)

    -- those before the address is made
    record BetweenDone (b : Bounds) (family first : ℕ) (v : Words) : Type 0 where
      pub index : ℤ
      pub rest : List Operand
      pub operands : s.before.operands ≡ Word index ∷ rest
      pub holds : is_between b index ≡ true
      pub is : v ≡ put (signed (home_word p.addresses g family first)) (put index (with_operands s.before rest))

    between_done : (b : Bounds) (family first : ℕ) (behind : List Order) (v : Words)
        → silently p g acts 3 (order.InBounds b.lower b.upper b.line ∷ order.Save ∷ order.Home family first ∷ behind) s.before ≡ Changed v → BetweenDone b family first v
    between_done b family first behind v did = cases s.before.operands refl did
      where
        others : List Order
        others = order.Save ∷ order.Home family first ∷ behind

        tested : (x : ℤ) (rest : List Operand) → s.before.operands ≡ Word x ∷ rest → (t : Bool) → is_between b x ≡ t → chain (put_if t IndexRange x (with_operands s.before rest)) (silently p g acts 2 others) ≡ Changed v → BetweenDone b family first v
        tested x rest same false is did = absurd (cc)
        tested x rest same true is did =
            record { index = x; rest = rest; operands = same; holds = is; is = (let made : put (signed (home_word p.addresses g family first)) (put x (with_operands s.before rest)) ≡ v = cc in sym made) }

        cases : (ops : List Operand) → s.before.operands ≡ ops → chain (on_one (λ i u. put_if (int_le b.lower i && int_le i b.upper) IndexRange i u) ops s.before) (silently p g acts 2 others) ≡ Changed v → BetweenDone b family first v
        cases [] same did = absurd (cc)
        cases (Held c ∷ rest) same did = absurd (cc)
        cases (Word x ∷ rest) same did = tested x rest same (is_between b x) refl did

    -- what the order that makes the address does
    abbrev formed_outcome : (lower : ℤ) → Form → Words → Outcome
    formed_outcome lower (form.Element span line) v = from_base p.limits.area (λ base. Indexed base lower) v
    formed_outcome lower (form.Entry width word span line) v = from_base p.limits.area (λ base. Scaled base width word) v

    form_goes : (lower : ℤ) (f : Form) → carry_with p (loaded_after (form_order lower f) true) (form_order lower f) g place loaded acts w ≡ after p.room (line_in f) (formed_outcome lower f w) g place true acts w
    form_goes lower (form.Element span line) = refl
    form_goes lower (form.Entry width word span line) = refl

    form_paid : (lower : ℤ) (f : Form) → 6 ≤ weight_of (form_order lower f)
    form_paid lower (form.Element span line) = lit≤ tt
    form_paid lower (form.Entry width word span line) = lit≤ tt

    -- it never stops
    formed_is : (b : Bounds) (family first : ℕ) (f : Form) (z : Known b family first f) (v : Words) (d : BetweenDone b family first v) (fx : FitsWord d.index)
        → formed_outcome b.lower f v ≡ Changed (put (pos (home_word p.addresses g family first + words_past f (number_in b family first f z d.index fx d.holds).number)) (with_operands s.before d.rest))
    formed_is b family first (form.Element span line) z v d fx =
        let n = number_in b family first (form.Element span line) z d.index fx d.holds in
        let few_numbers = n.within in
        let inside = z.inside in
        ap (from_base p.limits.area (λ base. Indexed base b.lower)) d.is
        ∙ formed_between p.limits.area (home_word p.addresses g family first) n.number (d.index -ℤ b.lower) (with_operands s.before d.rest) low (omega arith) n.less
    formed_is b family first (form.Entry width word span line) z v d fx =
        let n = number_in b family first (form.Entry width word span line) z d.index fx d.holds in
        let most = past_most (form.Entry width word span line) n.number z.last n.within in
        let inside = z.inside in
        let less : d.index -ℤ pos 0 ≡ pos n.number = ap (λ l. d.index -ℤ l) (sym z.from_zero.0) ∙ n.less in
        let index_is : d.index ≡ pos n.number = omega (arith, ints) in
        let base = home_word p.addresses g family first in
        ap (from_base p.limits.area (λ base. Scaled base width word)) d.is
        ∙ ap (λ i. from_base p.limits.area (λ base. Scaled base width word) (put (signed base) (put i (with_operands s.before d.rest)))) index_is
        ∙ formed_entry p.limits.area base n.number width word (with_operands s.before d.rest) low (omega arith)

    -- ---- the orders

    -- one that compares the top operand with its bounds at the begin of a block
    pub comparing_follows : (b : Bounds) (d : Block) (os : List Order) → s.done ≡ 0 → drop s.from s.orders.list ≡ order.InBounds b.lower b.upper b.line ∷ os → block_at 0 (drop s.from s.orders.list) ≡ d → 1 ≤ orders_left d
        → ((x : ℤ) (under : List Operand) → Top x under → FitsWord x → is_between b x ≡ false → (m : Bool) → DoesHere (setting known s) s.before.memory s.before.input s.before.output 22 0 m b.line q (Refused IndexRange))
        → Follow known (at_order g place loaded acts w Running) q
    comparing_follows b d os is_done list is more stopped = cases s.loaded_before refl
      where
        o : Order
        o = order.InBounds b.lower b.upper b.line

        here : slice_get s.orders.list place ≡ Some o
        here = order_here known s 0 o _ is_done list refl

        mode : Some s.loaded_before ≡ Some loaded
        mode = moded_as known s 0 _ is_done list

        before_is : s.before ≡ w
        before_is = let same : Changed s.before ≡ Changed w = did_as known s 0 _ is_done list in cc

        tested : (x : ℤ) (under : List Operand) → s.before.operands ≡ Word x ∷ under → Landed p image (start_place known s) g true acts s.before q → (t : Bool) → is_between b x ≡ t → (m : Bool) (kind : StopKind)
            → put_if t IndexRange x (with_operands s.before under) ≡ Refused kind → Does p image 22 0 g m b.line acts s.before.output q (Refused kind)
        tested x under same l true holds m kind refused = absurd (cc)
        tested x under same l false fails m kind refused =
            let kind_is : IndexRange ≡ kind = cc in
            subst (λ k. Does p image 22 0 g m b.line acts s.before.output q (Refused k)) kind_is (stopped x under (top_there x under same l) (top_fits x under same) fails m)

        stops : (ops : List Operand) → s.before.operands ≡ ops → Landed p image (start_place known s) g true acts s.before q → (m : Bool) (kind : StopKind)
            → on_one (λ i v. put_if (int_le b.lower i && int_le i b.upper) IndexRange i v) ops s.before ≡ Refused kind → Does p image 22 0 g m b.line acts s.before.output q (Refused kind)
        stops [] same l m kind refused = absurd (cc)
        stops (Held c ∷ under) same l m kind refused = absurd (cc)
        stops (Word x ∷ under) same l m kind refused = tested x under same l (is_between b x) refl m kind refused

        cases : (m : Bool) → s.loaded_before ≡ m → Follow known (at_order g place loaded acts w Running) q
        cases false free =
            let now : loaded ≡ false = same_mode s.loaded_before loaded false mode free in
            absurd (wrong_way known s o here (ap (loaded_after o) now))
        cases true full =
            let l : Landed p image (start_place known s) g true acts s.before q = subst (λ m. Landed p image (start_place known s) g m acts s.before q) full s.landed in
            stops_follow known s o b.line 0 _ d (lit≤ tt) is_done list refl (λ m. refl) (λ m kind refused. stops s.before.operands refl l m kind (ap (puts_word p g acts o) before_is ∙ refused)) is more

    -- the one that compares the index
    compares_follow : (b : Bounded) (rest : List Order) (z : Known b.bounds b.family b.first b.form) → Parts b.bounds b.family b.first b.form → s.done ≡ 0 → drop s.from s.orders.list ≡ listed b.bounds b.family b.first b.form rest
        → block_at 0 (drop s.from s.orders.list) ≡ block.Bounded b → Follow known (at_order g place loaded acts w Running) q
    compares_follow b rest z h is_done list is =
        comparing_follows b.bounds (block.Bounded b) _ is_done list is (lit≤ tt) (λ x under l fx fails m. bounds_stop b.bounds b.family b.first b.form z x under l fx h fails 0 m)

    -- the one that makes the address
    forms_follow : (b : Bounded) (rest : List Order) (z : Known b.bounds b.family b.first b.form) → Parts b.bounds b.family b.first b.form → s.done ≡ 3 → drop s.from s.orders.list ≡ listed b.bounds b.family b.first b.form rest
        → block_at 0 (drop s.from s.orders.list) ≡ block.Bounded b → Follow known (at_order g place loaded acts w Running) q
    forms_follow b rest z h is_done list is =
        let f = b.form in
        let o = form_order b.bounds.lower f in
        let first_order = order.InBounds b.bounds.lower b.bounds.upper b.bounds.line in
        let os = order.Save ∷ order.Home b.family b.first ∷ o ∷ rest in
        let here = order_here known s 3 o _ is_done list refl in
        let ends = block_ends known s (block.Bounded b) first_order os 3 is_done list is refl refl in
        let before = modes known s true true true first_order 2 os is_done list refl refl refl in
        let d = between_done b.bounds b.family b.first (o ∷ rest) w (did_as known s 3 _ is_done list) in
        let fx = top_fits d.index d.rest d.operands in
        let l = top_there d.index d.rest d.operands before.landed in
        let n = number_in b.bounds b.family b.first f z d.index fx d.holds in
        let most = past_most f n.number z.last n.within in
        let inside = z.inside in
        let word = home_word p.addresses g b.family b.first + words_past f n.number in
        let size : block_size false (block.Bounded b) first_order ≡ top_lower_size b.bounds.lower + 10 + formed_size f = bounded_long b in
        let behind = ends.behind in
        let to : test_at b.bounds + 3 + 2 + 5 + formed_size f ≡ code_end known s = omega arith in
        let value : word ≡ unsigned (pos word) = sym (unsigned_pos word (omega arith)) in
        let few_first = few_lower b.bounds.lower in
        let few_last_steps = few_formed f in
        let cost = form_paid b.bounds.lower f in
        let paid : 6 ≤ weight p (at_order g place loaded acts w Running) = let x = weight_is known s o here in omega arith in
        does known s true (line_in f) (formed_outcome b.bounds.lower f w) 6 ends.begins (step_in known s true o before.now here ∙ form_goes b.bounds.lower f) paid
        (subst (λ x. Does p image 6 (code_end known s) g true (line_in f) acts w.output q x) (sym (formed_is b.bounds b.family b.first f z w d fx))
        (subst (λ x. Does p image 6 (code_end known s) g true (line_in f) acts x q (Changed (put (pos word) (with_operands s.before d.rest)))) s.wrote
        (further (lower_steps b.bounds.lower + (2 + formed_steps f)) (omega arith) (omega arith)
        (leads_on (λ r u. result (setting known s) s.before.memory s.before.input s.before.output (code_end known s) (suc l.top) (pos word) d.rest to value l.under l.kept u.is)
        (addressed b.bounds b.family b.first f z d.index d.rest l fx h d.holds)))))

    pub bounded_follows : (b : Bounded) (rest : List Order) → drop s.from s.orders.list ≡ orders_to_form b ++ form_order b.bounds.lower b.form ∷ rest → form_within b.bounds b.first b.form ≡ true
        → block_at 0 (drop s.from s.orders.list) ≡ block.Bounded b → Follow known (at_order g place loaded acts w Running) q
    bounded_follows b rest list within is = cases s.done refl
      where
        z : Known b.bounds b.family b.first b.form
        z = known_of b.bounds b.family b.first b.form rest list within

        h : Parts b.bounds b.family b.first b.form
        h = parts_of b.bounds b.family b.first b.form (block_code known s (block.Bounded b) (order.InBounds b.bounds.lower b.bounds.upper b.bounds.line) _ list is)

        cases : (k : ℕ) → s.done ≡ k → Follow known (at_order g place loaded acts w Running) q
        cases zero is_done = compares_follow b rest z h is_done list is
        cases (suc zero) is_done = inner_follows known s 1 order.Save (block.Bounded b) _ is_done list refl tt is (lit≤ tt)
        cases (suc (suc zero)) is_done = inner_follows known s 2 (order.Home b.family b.first) (block.Bounded b) _ is_done list refl tt is (lit≤ tt)
        cases (suc (suc (suc zero))) is_done = forms_follow b rest z h is_done list is
        cases (suc (suc (suc (suc k)))) is_done = let le = within_block known s (block.Bounded b) 3 is refl in absurd (omega arith)
