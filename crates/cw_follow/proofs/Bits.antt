-- What the code of logic and of parts of words does.
use Rattle.std.proofs.Common.{◌≡◌, ℕ, suc, ◌+◌, ◌-◌, ◌*◌, ◌/◌, ◌%◌, ◌^◌, ◌<◌, ◌≤◌, Bool, true, false, not, ℤ, pos, List, [], ◌∷◌, ◌++◌, length, set, Option, refl, sym, ap, ap₂, ◌∙◌, subst, arith, lit<, lit≤, Some, pow_pos, pow_mono}
use borrow.Author.Tests.{ltb-true}
use Rattle.std.proofs.Math.Nat.{mod-le, div-le_self}
use Rattle.std.proofs.lemmas.Nat.{or_of_16, xor_of_16, and_comm, or_comm, xor_comm, and_mask, mod_below}
use Rattle.std.specs.Int.Bits.{and_lt}
use Rattle.std.specs.List.{All}
use Rattle.std.specs.Prelude.{bit_and, bit_xor, nat_lt, if◌then◌else◌}
use Rattle.cw_i86.specs.Encoding.{bytes_of}
use Rattle.cw_i86.specs.declared.instr.Instr.TheVariants as i86
use Rattle.cw_i86.specs.declared.instr.Rm.TheVariants as rms
use Rattle.cw_run86.specs.Processor.{Told}
use Rattle.cw_routines.proofs.Facts.{unsigned_pos}
use Rattle.cw_follow.proofs.Watched.{Watched}
use Rattle.cw_run86.specs.Views.{View, put_word, with_number, word_difference, word_up, word_down_signed}
use Rattle.cw_rows86.specs.Operations.{Up}
use Rattle.cw_word.specs.BitField.{unsigned_field, signed_field, with_field, field_mask}
use Rattle.cw_word.specs.FixedPoint.{FitsWord}
use Rattle.cw_word.specs.Word.{signed, unsigned, word_difference as difference_of_words}
use Rattle.cw_unit.specs.declared.unit.Field.{Field}
use Rattle.cw_unit.specs.Words.{Operand, Word, Words, Outcome, Changed, put, on_two, word_at, at_address, field_value, with_bits, with_memory, logic_word}
use Rattle.cw_unit.specs.Operation.{Extract, Fetch, StoreBits, perform}
use Rattle.cw_order.specs.FittingWords.{OperandFits}
use Rattle.cw_order.specs.OrderMachine.{unrefused}
use Rattle.cw_tmpl.specs.declared.pieces.Coded.{Coded}
use Rattle.cw_tmpl.specs.declared.pieces.Coded.TheVariants as coded
use Rattle.cw_tmpl.specs.Pieces.{Filling, blanks}
use Rattle.cw_tmpl.specs.Mnemonics.{at_bx, operate, change}
use Rattle.cw_tmpl.specs.Templates.{shifted_up, taken, part_taken, load_part, store_part}
use Rattle.cw_tmpl.proofs.Growing.{mask_small}
use Rattle.cw_follow.proofs.Chains.{Is, view, done}
use Rattle.cw_follow.proofs.Straight.{Act, Move, Exchange, Pop, Difference, Double, Load, straight, instruction, after, Needs}
use Rattle.cw_follow.proofs.Routines.{with_ax, leads_on}
use Rattle.cw_follow.proofs.Stacks.{level, record_of}
use Rattle.cw_follow.proofs.Orders.{further, landed, kept_stored, through_address}
use Rattle.cw_order.specs.OrderState.{operand_words}
use Rattle.cw_follow.proofs.Operands.{Setting, words, with_cells, One, Two, result, LandedWith, DoesHere, accessing_one, accessing_two}
use Rattle.cw_follow.proofs.Facts.{down_none, not_below}
use Rattle.cw_follow.proofs.Standing.{HasPieces, HasAll}
use Rattle.cw_follow.proofs.Halves.{merged}
use Rattle.cw_follow.proofs.Shifts.{shift_steps, part_steps, few_steps, few_part_steps, part_word, shifts, takes_last, turns}
use Rattle.cw_unit.specs.declared.unit.LogicOp.{LogicOp}
use Rattle.cw_unit.specs.declared.unit.LogicOp.TheVariants as logic

-- an instruction on AX and BX that leaves this in AX
abbrev pub Sets : Act → (ℕ → ℕ → ℕ) → (ℕ → ℕ → Bool → Bool) → Type 0
Sets act value flag =
    (a cx dx b sp bp si di : ℕ) (overflow : Bool) (cells stack : ℕ → ℕ) (input : List ℕ) (told : Told)
    → after act (view a cx dx b sp bp si di overflow cells stack input told) ≡ view (value a b) cx dx b sp bp si di (flag a b overflow) cells stack input told

-- a part of a word, and what takes one
abbrev pub part : (t b : ℕ) → (unsigned : Bool) → Option Field
part t b u = Some (record { t = t; b = b; unsigned = u })

abbrev taking : (t b : ℕ) → (unsigned : Bool) → ℕ → Words → Outcome
taking t b u n v = Changed (put (field_value (part t b u) (word_at v.memory n)) v)

-- what stores a part, with its bits where they belong in AX and the address in BX
abbrev changes : (t b : ℕ) → List Coded
changes t b = coded.Whole (operate 6 0 at_bx) ∷ coded.Whole (with_number 4 (field_mask t b)) ∷ coded.Whole (change 6 at_bx 0) ∷ []

module _ (c : Setting) (memory : List ℤ) (input output : List ℕ) where
  -- the top operand is left in AX
  pub drops : (z : ℤ) (rest : List Operand) {p : Watched} (at : ℕ) → LandedWith c memory input output at true (Word z ∷ rest) p → LandedWith c memory input output at false rest p
  drops z rest at l = record { top = l.top; cells = l.cells; stack = l.stack; input = l.input; told = l.told; stacked = l.stacked; operands = l.operands.1; kept = l.kept }

  -- ---- logic

  pub combines : {p : Watched} {at : ℕ} (to : ℕ) (act : Act) (value : ℕ → ℕ → ℕ) (flag : ℕ → ℕ → Bool → Bool) (f : ℤ → ℤ → ℤ) (operands : List Operand)
      → at + 3 ≡ to → length (bytes_of (instruction act)) ≡ 2
      → Sets act value flag → ((v : View) → Needs act v) → ((x y : ℤ) → FitsWord x → FitsWord y → value (unsigned y) (unsigned x) ≡ unsigned (f x y))
      → operand_words operands < level c.acts → All OperandFits operands → HasAll c.image at (i86.Pop 3 ∷ instruction act ∷ []) → LandedWith c memory input output at true operands p
      → DoesHere c memory input output 2 to true 0 p (unrefused (on_two (λ x y v. Changed (put (f x y) v)) operands (words operands memory input output)))
  combines {p} {at} to act value flag f operands e long sets needs gives roomy fits i =
      accessing_two c memory input output 2 to true 0 (λ x y v. Changed (put (f x y) v)) does operands roomy fits
    where
      does : (x y : ℤ) (rest : List Operand) → FitsWord x → FitsWord y → Two c memory input output at x y rest p
          → DoesHere c memory input output 2 to true 0 p (Changed (put (f x y) (words rest memory input output)))
      does x y rest fx fy l =
          let acts = Pop 3 (suc l.top) (unsigned x) ∷ act ∷ [] in
          let e' : at + 1 + length (bytes_of (instruction act)) ≡ to = omega arith in
          further 2 (lit≤ tt) (lit< tt)
          (straight c.rows acts l.kept.wrote i (l.next, (needs _, tt)) l.is (λ q t.
          done (result c memory input output to (suc (suc l.top)) (f x y) rest e' (gives x y fx fy) l.under l.kept
          (subst (λ v. Is c.image (at + 1 + length (bytes_of (instruction act))) v q)
          (sets (unsigned y) l.cx l.dx (unsigned x) (2 * suc (suc l.top)) (record_of c.acts) l.si c.program.limits.area l.overflow l.cells l.stack l.left l.told) t))))

  -- a difference, which is not the same either way round
  pub differs : {p : Watched} {at : ℕ} (to : ℕ) (f : ℤ → ℤ → ℤ) (operands : List Operand) → at + 5 ≡ to
      → ((x y : ℤ) → FitsWord x → FitsWord y → word_difference (unsigned x) (unsigned y) ≡ unsigned (f x y))
      → operand_words operands < level c.acts → All OperandFits operands
      → HasAll c.image at (i86.Mov true true 3 (rms.Reg 0) ∷ i86.Pop 0 ∷ i86.AluRm 5 true true 0 (rms.Reg 3) ∷ []) → LandedWith c memory input output at true operands p
      → DoesHere c memory input output 3 to true 0 p (unrefused (on_two (λ x y v. Changed (put (f x y) v)) operands (words operands memory input output)))
  differs {p} {at} to f operands e gives roomy fits i =
      accessing_two c memory input output 3 to true 0 (λ x y v. Changed (put (f x y) v)) does operands roomy fits
    where
      does : (x y : ℤ) (rest : List Operand) → FitsWord x → FitsWord y → Two c memory input output at x y rest p
          → DoesHere c memory input output 3 to true 0 p (Changed (put (f x y) (words rest memory input output)))
      does x y rest fx fy l =
          let acts = Move 3 0 ∷ Pop 0 (suc l.top) (unsigned x) ∷ Difference 0 3 ∷ [] in
          let e' : at + 2 + 1 + 2 ≡ to = omega arith in
          further 3 (lit≤ tt) (lit< tt)
          (straight c.rows acts l.kept.wrote i (tt, (l.next, (tt, tt))) l.is (λ q t.
          done (result c memory input output to (suc (suc l.top)) (f x y) rest e' (gives x y fx fy) l.under l.kept t)))

  unsigned_fits : (x : ℤ) → FitsWord x → unsigned x < 65536
  unsigned_fits = c.rows.words.numbers.words.unsigned_fits

  -- bits of two words are those of a word, whichever comes first
  logic_fits : (op : LogicOp) (x y : ℤ) → FitsWord x → FitsWord y → logic_word op (unsigned x) (unsigned y) < 65536
  logic_fits logic.Mask x y fx fy = and_lt 16 (unsigned x) (unsigned y) (unsigned_fits x fx) (unsigned_fits y fy)
  logic_fits logic.Union x y fx fy = or_of_16 (unsigned x) (unsigned y) (unsigned_fits x fx) (unsigned_fits y fy)
  logic_fits logic.Differ x y fx fy = xor_of_16 (unsigned x) (unsigned y) (unsigned_fits x fx) (unsigned_fits y fy)

  pub logic_is : (op : LogicOp) (x y : ℤ) → FitsWord x → FitsWord y → logic_word op (unsigned x) (unsigned y) ≡ unsigned (signed (logic_word op (unsigned x) (unsigned y)))
  logic_is op x y fx fy = sym (c.rows.words.numbers.words.forth (logic_word op (unsigned x) (unsigned y)) (logic_fits op x y fx fy))

  pub logic_turned : (op : LogicOp) (x y : ℤ) → FitsWord x → FitsWord y → logic_word op (unsigned y) (unsigned x) ≡ unsigned (signed (logic_word op (unsigned x) (unsigned y)))
  logic_turned op x y fx fy = turned op (unsigned y) (unsigned x) ∙ logic_is op x y fx fy
    where
      turned : (op : LogicOp) (a b : ℕ) → logic_word op a b ≡ logic_word op b a
      turned logic.Mask a b = and_comm a b
      turned logic.Union a b = or_comm a b
      turned logic.Differ a b = xor_comm a b

  pub lesses : (x y : ℤ) → FitsWord x → FitsWord y → word_difference (unsigned x) (unsigned y) ≡ unsigned (signed (difference_of_words (unsigned x) (unsigned y)))
  lesses x y fx fy =
      let a = unsigned x in
      let b = unsigned y in
      let la = unsigned_fits x fx in
      let lb = unsigned_fits y fy in
      let lt : difference_of_words a b < 65536 = omega arith in
      let same : word_difference a b ≡ difference_of_words a b = omega arith in
      same ∙ sym (c.rows.words.numbers.words.forth (difference_of_words a b) lt)

  -- ---- parts

  part_is : (w t b : ℕ) → w < 65536 → bit_and (w / 2 ^ b) (2 ^ t - 1) ≡ unsigned (signed (unsigned_field w t b))
  part_is w t b lt =
      let small : unsigned_field w t b < 65536 = omega (arith, mod-le (w / 2 ^ b) (2 ^ t), div-le_self w (2 ^ b)) in
      sym (c.rows.words.taken w t b) ∙ sym (c.rows.words.numbers.words.forth (unsigned_field w t b) small)

  -- one of all bits has no code
  pub takes : {p : Watched} {at : ℕ} (value : Filling) (to t b : ℕ) (operands : List Operand) → at + length (blanks (taken t b)) ≡ to → 0 < part_steps t b false → t + b ≤ 16
      → operand_words operands < level c.acts → All OperandFits operands → HasPieces c.image value at (taken t b) → LandedWith c memory input output at true operands p
      → DoesHere c memory input output 4 to true 0 p (unrefused (perform c.program.limits.area (Extract t b) (words operands memory input output)))
  takes {p} {at} value to t b operands e some room roomy fits i =
      accessing_one c memory input output 4 to true 0 (λ x v. Changed (put (signed (unsigned_field (unsigned x) t b)) v)) does operands roomy fits
    where
      does : (x : ℤ) (rest : List Operand) → FitsWord x → One c memory input output at x rest p
          → DoesHere c memory input output 4 to true 0 p (Changed (put (signed (unsigned_field (unsigned x) t b)) (words rest memory input output)))
      does x rest fx l =
          further (part_steps t b false) (few_part_steps t b false) some
          (leads_on (λ q h. result c memory input output to (suc l.top) (signed (unsigned_field (unsigned x) t b)) rest refl (part_is (unsigned x) t b (unsigned_fits x fx)) l.under l.kept h.is)
          (takes_last c.rows c.image value to output t b false room (unsigned_fits x fx) l.kept.wrote i e l.is))

  pub takes_all : {p : Watched} (at : ℕ) (x : ℤ) (rest : List Operand) → FitsWord x → LandedWith c memory input output at true (Word x ∷ rest) p → LandedWith c memory input output at true (Word (signed (unsigned_field (unsigned x) 16 0)) ∷ rest) p
  takes_all {p} at x rest fx l =
      let f = unsigned_fits x fx in
      let all : unsigned_field (unsigned x) 16 0 ≡ unsigned x = omega arith in
      let same : x ≡ signed (unsigned_field (unsigned x) 16 0) = sym (ap signed all ∙ c.rows.words.numbers.words.back x fx) in
      subst (λ z. LandedWith c memory input output at true (Word z ∷ rest) p) same l

  -- a part of a word of the data area; one of 16 bits is the word
  unsigned_part : (z : ℤ) (t b : ℕ) (whole : Bool) → nat_lt 15 t ≡ whole → FitsWord z → t + b ≤ 16
      → bit_and (unsigned z / 2 ^ b) (2 ^ t - 1) ≡ unsigned (if whole then z else pos (unsigned_field (unsigned z) t b))
  unsigned_part z t b true is fz room =
      let lt = ltb-true 15 t is in
      let et : t ≡ 16 = omega arith in
      let eb : b ≡ 0 = omega arith in
      let f = unsigned_fits z fz in
      let m : bit_and (unsigned z / 1) 65535 ≡ unsigned z / 1 % 65536 = and_mask (unsigned z / 1) 16 in
      ap₂ (λ i j. bit_and (unsigned z / 2 ^ j) (2 ^ i - 1)) et eb ∙ m ∙ (let e : unsigned z / 1 % 65536 ≡ unsigned z = omega arith in e)
  unsigned_part z t b false is fz room =
      let few : t ≤ 15 = not_below 15 t is in
      let below = mod_below (unsigned z / 2 ^ b) (2 ^ t) (pow_pos t) in
      let p : 2 ^ t ≤ 2 ^ 15 = pow_mono few in
      sym (c.rows.words.taken (unsigned z) t b) ∙ sym (unsigned_pos (unsigned_field (unsigned z) t b) (omega arith))

  signed_part : (z : ℤ) (t b : ℕ) (whole : Bool) → nat_lt 15 t ≡ whole → FitsWord z → 1 ≤ t → t + b ≤ 16
      → word_down_signed (word_up (unsigned z) (16 - (t + b))) (16 - t) ≡ unsigned (if whole then z else signed_field (unsigned z) t b)
  signed_part z t b true is fz some room =
      let lt = ltb-true 15 t is in
      let et : 16 - t ≡ 0 = omega arith in
      let eb : 16 - (t + b) ≡ 0 = omega arith in
      let w = unsigned z in
      let f = unsigned_fits z fz in
      let up : word_up w 0 ≡ w = omega arith in
      ap₂ (λ i j. word_down_signed (word_up w i) j) eb et ∙ ap (λ x. word_down_signed x 0) up ∙ down_none w f
  signed_part z t b false is fz some room =
      let w = unsigned z in
      let k = 16 - (t + b) in
      let en : 16 - t ≡ k + b = omega arith in
      let u = word_up w k in
      let small : u < 65536 = omega arith in
      let v = word_down_signed u (k + b) in
      let same : signed v ≡ signed_field w t b = c.rows.words.down u (k + b) small ∙ sym (c.rows.words.signed_shifted w t b k some (omega arith)) in
      ap (word_down_signed u) en ∙ sym (c.rows.words.numbers.words.forth v (c.rows.words.numbers.down_fits u (k + b) small)) ∙ ap unsigned same

  pub part_of_word : (z : ℤ) (t b : ℕ) (is_signed : Bool) → FitsWord z → 1 ≤ t → t + b ≤ 16 → part_word (unsigned z) t b is_signed ≡ unsigned (field_value (part t b (not is_signed)) z)
  part_of_word z t b true fz some room = signed_part z t b (nat_lt 15 t) refl fz some room
  part_of_word z t b false fz some room = unsigned_part z t b (nat_lt 15 t) refl fz room

  -- the word with a part stored
  pub stored_is : (old z : ℤ) (t b : ℕ) → FitsWord old → t + b ≤ 16
      → bit_xor (unsigned old) (bit_and (bit_xor (word_up (unsigned z) b) (unsigned old)) (field_mask t b)) ≡ unsigned (with_bits t b old z)
  stored_is old z t b fo room =
      let w = unsigned old in
      let f = unsigned_fits old fo in
      merged w (word_up (unsigned z) b) (field_mask t b) f (omega arith) (mask_small t b room) ∙ sym (c.rows.words.stored w t b (unsigned z) f room)
      ∙ sym (c.rows.words.numbers.words.forth (with_field w t b (unsigned z)) (c.rows.words.field_fits w t b (unsigned z) f room))

  -- the word at an address, of which some instructions take a part
  module _ (all : All FitsWord memory) (long : length memory ≡ c.program.limits.area) where
    fits_at : (n : ℕ) → n < c.program.limits.area → FitsWord (word_at memory n)
    fits_at n lt = all n (pos 0) (omega arith)

    pub loads_part : {p : Watched} {at : ℕ} (value : Filling) (to t b : ℕ) (is_signed : Bool) (operands : List Operand) → at + length (blanks (load_part t b is_signed)) ≡ to → 1 ≤ t → t + b ≤ 16
        → operand_words operands < level c.acts → All OperandFits operands → HasPieces c.image value at (load_part t b is_signed) → LandedWith c memory input output at true operands p
        → DoesHere c memory input output 7 to true 0 p (unrefused (perform c.program.limits.area (Fetch (part t b (not is_signed))) (words operands memory input output)))
    loads_part {p} {at} value to t b is_signed operands e some room roomy fits i =
        accessing_one c memory input output 7 to true 0 (at_address c.program.limits.area (taking t b (not is_signed))) does operands roomy fits
      where
        does : (x : ℤ) (rest : List Operand) → FitsWord x → One c memory input output at x rest p
            → DoesHere c memory input output 7 to true 0 p (unrefused (at_address c.program.limits.area (taking t b (not is_signed)) x (words rest memory input output)))
        does x rest fx l =
            through_address c.program.limits.area (taking t b (not is_signed)) x (words rest memory input output) (λ o. DoesHere c memory input output 7 to true 0 p (unrefused o)) tt (λ n is within.
            let low = c.low in
            let lt : n < 32768 = omega arith in
            let small : n < 65536 = omega arith in
            let z = word_at memory n in
            let fz = fits_at n within in
            let ends : at + 1 + 2 + 2 + length (blanks (part_taken t b is_signed)) ≡ to = omega arith in
            let few = few_part_steps t b is_signed in
            further (3 + part_steps t b is_signed) (omega arith) (omega arith)
            (straight c.rows (Exchange ∷ Double 3 ∷ Load 0 n (unsigned z) ∷ []) l.kept.wrote (i.0, (i.1.0, (i.1.1.0, tt))) (tt, (lt, ((lt, refl, l.kept.words n within), tt))) (with_ax (ap unsigned is ∙ unsigned_pos n small) l.is) (λ q u.
            leads_on (λ r h. result c memory input output to (suc l.top) (field_value (part t b (not is_signed)) z) rest refl (part_of_word z t b is_signed fz some room) l.under l.kept h.is)
            (takes_last c.rows c.image value to output t b is_signed room (unsigned_fits z fz) l.kept.wrote i.1.1.1 ends u))))

    pub stores_part : {p : Watched} {at : ℕ} (value : Filling) (to t b : ℕ) (operands : List Operand) → at + length (blanks (store_part t b)) ≡ to → t + b ≤ 16 → operand_words operands < level c.acts → All OperandFits operands
        → HasPieces c.image value at (store_part t b) → LandedWith c memory input output at true operands p
        → DoesHere c memory input output 8 to false 0 p (unrefused (perform c.program.limits.area (StoreBits t b) (words operands memory input output)))
    stores_part {p} {at} value to t b operands e room roomy fits i =
        accessing_two c memory input output 8 to false 0 (λ z a v. at_address c.program.limits.area (changing z) a v) does operands roomy fits
      where
        changing : ℤ → ℕ → Words → Outcome
        changing z n v = Changed (with_memory v (set v.memory n (with_bits t b (word_at v.memory n) z)))

        does : (z a : ℤ) (rest : List Operand) → FitsWord z → FitsWord a → Two c memory input output at z a rest p
            → DoesHere c memory input output 8 to false 0 p (unrefused (at_address c.program.limits.area (changing z) a (words rest memory input output)))
        does z a rest fz fa l =
            through_address c.program.limits.area (changing z) a (words rest memory input output) (λ o. DoesHere c memory input output 8 to false 0 p (unrefused o)) tt (λ n is within.
            let low = c.low in
            let lt : n < 32768 = omega arith in
            let small : n < 65536 = omega arith in
            let old = word_at memory n in
            let new = with_bits t b old z in
            let ends : at + 2 + 1 + 2 + length (blanks (shifted_up b ++ changes t b)) ≡ to = omega arith in
            let few = few_steps b in
            further (3 + (shift_steps b + 3)) (omega arith) (omega arith)
            (straight c.rows (Move 3 0 ∷ Pop 0 (suc l.top) (unsigned z) ∷ Double 3 ∷ []) l.kept.wrote (i.0, (i.1.0, (i.1.1.0, tt))) (tt, (l.next, (lt, tt))) (with_ax (ap unsigned is ∙ unsigned_pos n small) l.is) (λ q u.
            shifts c.rows c.image value to output Up b (changes t b) (omega arith) (unsigned_fits z fz) l.kept.wrote (i.1.1.1, ends) u (λ r place w cx overflow same code v.
            let h = code.0 in
            let end = code.1 in
            let there : place + 2 + 3 + 2 ≡ to = omega arith in
            leads_on
            (λ x t'.
            landed c.rows c.program c.image c.g c.acts false to (suc (suc l.top)) rest (set memory n new) input output there l.under (kept_stored n new within l.kept)
            (with_cells (ap (put_word l.cells n) (stored_is old z t b (fits_at n within) room)) t'))
            (turns c.rows 2 n (field_mask t b) (unsigned old) at_bx at_bx l.kept.wrote (l.kept.words n within) (λ x. (refl, refl, lt, refl)) (λ x. (refl, refl, lt, refl)) refl refl (lit< tt) h.0 h.1.0 h.1.1.0 (with_ax same v))))))
