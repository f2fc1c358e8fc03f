-- Blocks that count a word up or down, or halve it several times.
use Rattle.std.proofs.Common.{◌≡◌, ℕ, suc, ◌+◌, ◌*◌, ◌^◌, ◌<◌, ◌≤◌, Bool, true, false, ℤ, pos, ◌+ℤ◌, ◌-ℤ◌, List, [], ◌∷◌, length, drop, Some, refl, sym, ap, ap₂, ◌∙◌, subst, arith, lit<, lit≤, pow_mono}
use Rattle.std.proofs.lemmas.Int.{ints}
use Rattle.std.specs.List.{All}
use Rattle.cw_run86.specs.Views.{word_sum, word_difference, sum_overflows, difference_overflows, word_down_signed}
use Rattle.cw_rows86.specs.Operations.{DownSigned}
use Rattle.cw_rows86.specs.Acts.{Count}
use Rattle.cw_word.specs.FixedPoint.{FitsWord, floor_div, scaled_product}
use Rattle.cw_word.specs.Word.{signed, unsigned}
use Rattle.cw_unit.specs.Stop.{Running}
use Rattle.cw_unit.specs.Words.{Operand, Words, put, put_value}
use Rattle.cw_unit.specs.Operation.{Operation, Add, Subtract, Multiply, perform}
use Rattle.cw_order.specs.declared.order.Order.{Order}
use Rattle.cw_order.specs.declared.order.Order.TheVariants as order
use Rattle.cw_order.specs.FittingWords.{OperandFits}
use Rattle.cw_order.specs.OrderState.{OrderActivation, at, operand_words}
use Rattle.cw_order.specs.OrderCosts.{weight_of}
use Rattle.cw_order.specs.OrderMachine.{after, carry_with, weight}
use Rattle.cw_order.specs.Loading.{loaded_after}
use Rattle.cw_tmpl.specs.declared.blocks.Block.TheVariants as block
use Rattle.cw_tmpl.specs.Blocks.{count_order, halving_places, block_at}
use Rattle.cw_tmpl.specs.Pieces.{Filling, blanks}
use Rattle.cw_tmpl.specs.declared.pieces.Coded.TheVariants as pieces
use Rattle.cw_tmpl.specs.Names.{no_names, call_place}
use Rattle.cw_tmpl.specs.Templates.{shifted_down_signed, counted, block_pieces, block_size}
use Rattle.cw_tmpl.specs.ShortForms.{is_short}
use Rattle.cw_tmpl.specs.ReferenceCode.{names_of, reach_of}
use Rattle.cw_tmpl.proofs.Endings.{checked_long}
use Rattle.cw_tmpl.proofs.Sizes.{own_place}
use Rattle.cw_follow.proofs.Watched.{Watched}
use Rattle.cw_follow.proofs.Standing.{HasPieces, Has}
use Rattle.cw_follow.proofs.Chains.{Is, view, last}
use Rattle.cw_follow.proofs.Acting.{act}
use Rattle.cw_follow.proofs.Routines.{leads_on}
use Rattle.cw_follow.proofs.Stacks.{level, record_of}
use Rattle.cw_follow.proofs.Orders.{Does, Checked, later, further, checks_end}
use Rattle.cw_follow.proofs.Operands.{Setting, words, One, LandedWith, DoesHere, taking_one, result}
use Rattle.cw_follow.proofs.Numbers.{sum_overflows_is, difference_overflows_is, sum_is, difference_is}
use Rattle.cw_follow.proofs.Scales.{put_shifted, shifted_fits}
use Rattle.cw_follow.proofs.Halves.{Halving, halving, halved_is}
use Rattle.cw_follow.proofs.Shifts.{shift_steps, few_steps, some_steps, shifts_last}
use Rattle.cw_follow.proofs.States.{Given, Sound}
use Rattle.cw_follow.proofs.Steps.{Follow, setting, weight_is, line_fits, block_code, block_ends, start_place, order_here, last_does, code_end}
use Rattle.cw_follow.proofs.CheckedBlocks.{checked_block}
use Rattle.cw_follow.proofs.BlockOrders.{room_in, block_follows, saved, step_in, small_number}
use Rattle.cw_follow.proofs.Fits.{count_line}

-- one more, and one less
abbrev counting : (down : Bool) → Operation
counting true = Subtract
counting false = Add

module _ (c : Setting) (memory : List ℤ) (input output : List ℕ) where
  one_fits : FitsWord (pos 1)
  one_fits = omega (arith, ints)

  counts : {p : Watched} {at : ℕ} (down : Bool) (to line : ℕ) (operands : List Operand) → line < 65536
      → operand_words operands < level c.acts → All OperandFits operands → Has c.image at (counted down) → Checked c.image (at + 1) to line → LandedWith c memory input output at true operands p
      → DoesHere c memory input output 15 to true line p (perform c.program.limits.area (counting down) (put (pos 1) (words operands memory input output)))
  counts {p} {at} true to line operands small roomy fits h i = taking_one c memory input output 15 to true line (λ x v. put_value (x -ℤ pos 1) v) does operands roomy fits
    where
      does : (x : ℤ) (rest : List Operand) → FitsWord x → One c memory input output at x rest p → DoesHere c memory input output 15 to true line p (put_value (x -ℤ pos 1) (words rest memory input output))
      does x rest fx l =
          let some : 0 < suc l.top = omega arith in
          later c.program c.image 14 to c.g true line c.acts
          {T = Is c.image (at + 1) (view (word_difference (unsigned x) 1) l.cx l.dx l.bx (2 * suc l.top) (record_of c.acts) l.si c.program.limits.area (difference_overflows (unsigned x) 1) l.cells l.stack l.left l.told)}
          1 15 (put_value (x -ℤ pos 1) (words rest memory input output)) (lit≤ tt)
          (last c.rows l.is l.kept.wrote (act c.rows (Count true 0) (lit< tt) h tt l.is).is)
          (λ q t.
          checks_end c.rows c.program c.image c.g c.acts to (suc l.top) line (x -ℤ pos 1) rest memory input output c.library c.few some small (difference_overflows_is c.rows.words x (pos 1) fx one_fits)
          (difference_is c.rows.words x (pos 1) fx one_fits) l.under l.kept i t)
  counts {p} {at} false to line operands small roomy fits h i = taking_one c memory input output 15 to true line (λ x v. put_value (x +ℤ pos 1) v) does operands roomy fits
    where
      does : (x : ℤ) (rest : List Operand) → FitsWord x → One c memory input output at x rest p → DoesHere c memory input output 15 to true line p (put_value (x +ℤ pos 1) (words rest memory input output))
      does x rest fx l =
          let some : 0 < suc l.top = omega arith in
          later c.program c.image 14 to c.g true line c.acts
          {T = Is c.image (at + 1) (view (word_sum (unsigned x) 1) l.cx l.dx l.bx (2 * suc l.top) (record_of c.acts) l.si c.program.limits.area (sum_overflows (unsigned x) 1) l.cells l.stack l.left l.told)}
          1 15 (put_value (x +ℤ pos 1) (words rest memory input output)) (lit≤ tt)
          (last c.rows l.is l.kept.wrote (act c.rows (Count false 0) (lit< tt) h tt l.is).is)
          (λ q t.
          checks_end c.rows c.program c.image c.g c.acts to (suc l.top) line (x +ℤ pos 1) rest memory input output c.library c.few some small (sum_overflows_is c.rows.words x (pos 1) fx one_fits)
          (sum_is c.rows.words x (pos 1) fx one_fits) l.under l.kept i t)

  halves : {p : Watched} {at : ℕ} (value : Filling) (to line n places : ℕ) (power : ℤ) (operands : List Operand) → Halving n power places → at + length (blanks (shifted_down_signed places)) ≡ to
      → operand_words operands < level c.acts → All OperandFits operands → HasPieces c.image value at (shifted_down_signed places) → LandedWith c memory input output at true operands p
      → DoesHere c memory input output 2 to true line p (perform c.program.limits.area (Multiply power) (put (pos n) (words operands memory input output)))
  halves {p} {at} value to line n places power operands h e roomy fits i = taking_one c memory input output 2 to true line (λ x v. put_value (scaled_product x (pos n) power) v) does operands roomy fits
    where
      does : (x : ℤ) (rest : List Operand) → FitsWord x → One c memory input output at x rest p → DoesHere c memory input output 2 to true line p (put_value (scaled_product x (pos n) power) (words rest memory input output))
      does x rest fx l =
          let few = h.few in
          let a = unsigned x in
          let small : a < 65536 = c.rows.words.numbers.words.unsigned_fits x fx in
          let z = floor_div x (2 ^ places) in
          let w = words rest memory input output in
          let same : signed a ≡ x = c.rows.words.numbers.words.back x fx in
          let fz : FitsWord z = subst (λ y. FitsWord (floor_div y (2 ^ places))) same (shifted_fits c memory input output a places small) in
          let value_is : z ≡ scaled_product x (pos n) power = sym (ap₂ (λ m s. scaled_product x (pos m) s) h.word_is h.power_is ∙ halved_is c.rows.words x h.exponent h.down places h.down_is) in
          let word_is : word_down_signed a places ≡ unsigned z =
          sym (c.rows.words.numbers.words.forth (word_down_signed a places) (c.rows.words.numbers.down_fits a places small)) ∙ ap unsigned (c.rows.words.down a places small ∙ ap (λ y. floor_div y (2 ^ places)) same) in
          subst (λ y. DoesHere c memory input output 2 to true line p (put_value y w)) value_is
          (put_shifted c memory input output 2 to line z w fz
          (further (shift_steps places) (few_steps places) (some_steps places h.some)
          (leads_on (λ q t. result c memory input output to (suc l.top) z rest refl word_is l.under l.kept t.is) (shifts_last c.rows c.image value to output DownSigned places (omega arith) small l.kept.wrote i e l.is))))

module _ (known : Given) where
  open known use {rows, p, image, all, coded, few, low}

  module _ {q : Watched} {g place : ℕ} {loaded : Bool} {acts : List OrderActivation} {w : Words} (s : Sound p image g place loaded acts w q) where
    count_goes : (down : Bool) (line : ℕ) → carry_with p (loaded_after (count_order down line) true) (count_order down line) g place loaded acts w ≡ after p.room line (perform p.limits.area (counting down) w) g place true acts w
    count_goes true line = refl
    count_goes false line = refl

    count_paid : (down : Bool) (line : ℕ) → 15 ≤ weight_of (count_order down line)
    count_paid true line = lit≤ tt
    count_paid false line = lit≤ tt

    -- what stands behind the instruction
    count_code : (down : Bool) (line : ℕ) (os : List Order) (short : Bool) → drop s.from s.orders.list ≡ order.Save ∷ os → block_at 0 (drop s.from s.orders.list) ≡ block.Count down line
        → is_short (reach_of s.orders) s.from (block.Count down line) order.Save ≡ short → start_place known s + block_size short (block.Count down line) order.Save ≡ code_end known s
        → HasPieces image (all.stands g s.orders s.unit).value (start_place known s) (block_pieces (names_of s.orders) (own_place s.orders s.from) s.from short (block.Count down line) order.Save)
        → Has image (start_place known s) (counted down) × Checked image (start_place known s + 1) (code_end known s) line
    count_code true line os short e is form ends h =
        (h.0, checked_block known s (block.Count true line) order.Save os line 1 (start_place known s + 1) (code_end known s) short e is refl form (sym (checked_long short (pieces.Whole (counted true) ∷ []) line (0 + 1) (call_place no_names 0))) refl ends h.1)
    count_code false line os short e is form ends h =
        (h.0, checked_block known s (block.Count false line) order.Save os line 1 (start_place known s + 1) (code_end known s) short e is refl form (sym (checked_long short (pieces.Whole (counted false) ∷ []) line (0 + 1) (call_place no_names 0))) refl ends h.1)

    count_last : (down : Bool) (line : ℕ) (rest : List Order) → s.done ≡ 2 → drop s.from s.orders.list ≡ order.Save ∷ order.Const 1 ∷ count_order down line ∷ rest
        → block_at 0 (drop s.from s.orders.list) ≡ block.Count down line → Follow known (at g place loaded acts w Running) q
    count_last down line rest is_done e is =
        let o = count_order down line in
        let os = order.Const 1 ∷ o ∷ rest in
        let here = order_here known s 2 o _ is_done e refl in
        let ends = block_ends known s (block.Count down line) order.Save os 2 is_done e is refl refl in
        let before = saved known s true 1 os is_done e refl in
        let cost = count_paid down line in
        let paid : 15 ≤ weight p (at g place loaded acts w Running) = let y = weight_is known s o here in omega arith in
        let fits : line < 65536 = subst (λ n. n < 65536) (count_line down line) (line_fits known s o here) in
        let v = s.before in
        let code = count_code down line os (is_short (reach_of s.orders) s.from (block.Count down line) order.Save) e is refl ends.behind (block_code known s (block.Count down line) order.Save os e is) in
        last_does known s true line (perform p.limits.area (counting down)) 15 2 _ is_done e ends.begins (step_in known s true o before.now here ∙ count_goes down line) paid
        (subst (λ y. Does p image 15 (code_end known s) g true line acts v.output q (perform p.limits.area (counting down) (put y v))) (sym (small_number 1 (lit< tt)))
        (counts (setting known s) v.memory v.input v.output down (code_end known s) line v.operands fits (room_in known s) s.fits_before.operands code.0 code.1 before.landed))

    pub count_follows : (down : Bool) (line : ℕ) (rest : List Order) → drop s.from s.orders.list ≡ order.Save ∷ order.Const 1 ∷ count_order down line ∷ rest → block_at 0 (drop s.from s.orders.list) ≡ block.Count down line
        → Follow known (at g place loaded acts w Running) q
    count_follows down line rest e is = block_follows known s (block.Count down line) (count_order down line) rest (tt, (tt, tt)) e is refl (λ is_done. count_last down line rest is_done e is)

    halve_last : (n : ℕ) (power : ℤ) (places line : ℕ) (rest : List Order) → s.done ≡ 2 → drop s.from s.orders.list ≡ order.Save ∷ order.Const n ∷ order.Mul power line ∷ rest → halving_places n power ≡ Some places
        → block_at 0 (drop s.from s.orders.list) ≡ block.Halve n power places line → Follow known (at g place loaded acts w Running) q
    halve_last n power places line rest is_done e halved is =
        let o = order.Mul power line in
        let os = order.Const n ∷ o ∷ rest in
        let b = block.Halve n power places line in
        let here = order_here known s 2 o _ is_done e refl in
        let ends = block_ends known s b order.Save os 2 is_done e is refl refl in
        let before = saved known s true 1 os is_done e refl in
        let h = halving n power places halved in
        let power_of : 2 ^ h.exponent ≤ 2 ^ 14 = pow_mono h.short in
        let same = h.word_is in
        let small : n < 32768 = omega arith in
        let paid : 2 ≤ weight p (at g place loaded acts w Running) = let y = weight_is known s o here in omega arith in
        let v = s.before in
        last_does known s true line (perform p.limits.area (Multiply power)) 2 2 _ is_done e ends.begins (step_in known s true o before.now here) paid
        (subst (λ y. Does p image 2 (code_end known s) g true line acts v.output q (perform p.limits.area (Multiply power) (put y v))) (sym (small_number n small))
        (halves (setting known s) v.memory v.input v.output (all.stands g s.orders s.unit).value (code_end known s) line n places power v.operands h ends.behind (room_in known s) s.fits_before.operands
        (block_code known s b order.Save os e is) before.landed))

    pub halve_follows : (n : ℕ) (power : ℤ) (places line : ℕ) (rest : List Order) → drop s.from s.orders.list ≡ order.Save ∷ order.Const n ∷ order.Mul power line ∷ rest → halving_places n power ≡ Some places
        → block_at 0 (drop s.from s.orders.list) ≡ block.Halve n power places line → Follow known (at g place loaded acts w Running) q
    halve_follows n power places line rest e halved is = block_follows known s (block.Halve n power places line) (order.Mul power line) rest (tt, (tt, tt)) e is refl (λ is_done. halve_last n power places line rest is_done e halved is)
