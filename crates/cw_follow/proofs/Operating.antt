-- A simple operand that instructions name, and what is done with it: an operation of the arithmetic unit, a product, a comparison, and the
-- tests behind them.
use Rattle.std.proofs.Common.{◌≡◌, ℕ, ◌+◌, ◌*◌, ◌%◌, ◌<◌, Bool, true, false, not, ℤ, pos, ◌+ℤ◌, ◌-ℤ◌, ◌*ℤ◌, List, [], ◌∷◌, length, refl, sym, ap, ◌∙◌, subst, arith, lit<, lit≤}
use Rattle.std.proofs.lemmas.Int.{ints}
use Rattle.cw_i86.specs.Encoding.{bytes_of}
use Rattle.cw_i86.specs.declared.flags.Flags.{Flags}
use Rattle.cw_i86.specs.declared.instr.Instr.{Instr}
use Rattle.cw_i86.specs.declared.instr.Instr.TheVariants as i86
use Rattle.cw_i86.specs.declared.instr.Rm.{Rm}
use Rattle.cw_run86.specs.Processor.{Told}
use Rattle.cw_run86.specs.Views.{View, product_low, product_overflows, word_sum, word_difference, sum_overflows, difference_overflows, with_number}
use Rattle.cw_rows86.specs.Locations.{InRegister, InData, Denotes}
use Rattle.cw_rows86.specs.Operations.{WordOperation, Add, Or, And, Subtract, Xor, Compare, number_of, operated_on, flags_after}
use Rattle.cw_rows86.specs.Acts.{Operate, OperateNumber}
use Rattle.cw_word.specs.FixedPoint.{FitsWord, fits_word, scaled_product}
use Rattle.cw_word.specs.Word.{signed, unsigned}
use Rattle.cw_unit.specs.declared.unit.LogicOp.{LogicOp}
use Rattle.cw_unit.specs.declared.unit.LogicOp.TheVariants as logic
use Rattle.cw_unit.specs.Words.{logic_word, Operand, Word, Changed, put, put_value}
use Rattle.cw_unit.specs.Operation.{holds}
use Rattle.cw_order.specs.declared.order.Comparator.{Comparator}
use Rattle.cw_order.specs.OrderChanges.{to_mark_if, comparison}
use Rattle.cw_follow.proofs.Watched.{Watched, watched_step}
use Rattle.cw_follow.proofs.Chains.{Is, IsCompared, view, last}
use Rattle.cw_follow.proofs.Acting.{act}
use Rattle.cw_follow.proofs.Stacks.{record_of, StackIs}
use Rattle.cw_follow.proofs.Orders.{Kept, Landed, Chooses, Checked, later, further, sooner, landed, checks_end, branches, beside_at}
use Rattle.cw_follow.proofs.Operands.{Setting, words, DoesHere}
use Rattle.cw_follow.proofs.Numbers.{sum_overflows_is, difference_overflows_is, sum_is, difference_is}
use Rattle.cw_follow.proofs.Bits.{logic_is}
use Rattle.cw_follow.proofs.Standing.{Has, HasAll}
use Rattle.cw_follow.proofs.Branches.{branch_size, goes_by, branch_code}
use Rattle.cw_follow.proofs.Routines.{Beside}

-- the operation of the arithmetic unit that combines bits
abbrev pub instruction_of : LogicOp → WordOperation
instruction_of logic.Mask = And
instruction_of logic.Union = Or
instruction_of logic.Differ = Xor

module _ (c : Setting) (memory : List ℤ) (input output : List ℕ) where
  -- The top operand x is in AX, and an operation of the arithmetic unit on AX and y is this instruction, of so many bytes.
  pub record Named (at size : ℕ) (i : WordOperation → Instr) (x y : ℤ) (rest : List Operand) (p : Watched) : Type 0 where
    pub beside : Beside
    pub open beside use *
    pub some : 0 < top
    pub is : Is c.image at (view (unsigned x) cx dx bx (2 * top) (record_of c.acts) si c.program.limits.area overflow cells stack left told) p
    pub under : StackIs c.program c.acts stack top rest
    pub kept : Kept c.program c.g c.acts memory input output cells stack left told
    pub step : (op : WordOperation) → Has c.image at (i op)
        → Is c.image (at + size) (operated_on op (InRegister 0) (unsigned x) (unsigned y) (view (unsigned x) cx dx bx (2 * top) (record_of c.acts) si c.program.limits.area overflow cells stack left told)) (watched_step p)
        × ((f : Flags) × ((watched_step p).processor.state.flags ≡ flags_after op (unsigned x) (unsigned y) f))

  -- ---- operands

  -- a number
  pub number_named : {p : Watched} {at : ℕ} (n : ℕ) (y x : ℤ) (rest : List Operand) → n ≡ unsigned y → (l : Landed c.program c.image at c.g true c.acts (words (Word x ∷ rest) memory input output) p) → 0 < l.top
      → Named at 3 (λ op. with_number (number_of op) n) x y rest p
  number_named {p} {at} n y x rest e l some =
      let s = l.stacked in
      let v : View = view (unsigned x) s.cx s.dx s.bx (2 * l.top) (record_of c.acts) s.si c.program.limits.area s.overflow l.cells l.stack l.input l.told in
      let here : Is c.image at v p = subst (λ a. Is c.image at (view a s.cx s.dx s.bx (2 * l.top) (record_of c.acts) s.si c.program.limits.area s.overflow l.cells l.stack l.input l.told) p) l.operands.0 s.is in
      record {
        beside = beside_at l l.top;
        some = some;
        is = here;
        under = l.operands.1;
        kept = l.kept;
        step =
            λ op h.
            let a = act c.rows (OperateNumber op n) (lit< tt) h tt here in
            (subst (λ m. Is c.image (at + 3) (operated_on op (InRegister 0) (unsigned x) m v) (watched_step p)) e a.is, (p.processor.state.flags, a.flags ∙ ap (λ m. flags_after op (unsigned x) m p.processor.state.flags) e));
      }

  -- a word of the data area
  pub word_named : {p : Watched} {at ax cx dx bx si top : ℕ} {overflow : Bool} {cells stack : ℕ → ℕ} {left : List ℕ} {told : Told} (size k : ℕ) (rm : Rm) (y x : ℤ) (rest : List Operand)
      → ax ≡ unsigned x → cells k ≡ unsigned y → Denotes c.image.bytes (ax ∷ cx ∷ dx ∷ bx ∷ 2 * top ∷ record_of c.acts ∷ si ∷ c.program.limits.area ∷ []) rm (InData k)
      → ((op : WordOperation) → length (bytes_of (i86.AluRm (number_of op) true true 0 rm)) ≡ size) → 0 < size → 0 < top
      → StackIs c.program c.acts stack top rest → Kept c.program c.g c.acts memory input output cells stack left told
      → Is c.image at (view ax cx dx bx (2 * top) (record_of c.acts) si c.program.limits.area overflow cells stack left told) p
      → Named at size (λ op. i86.AluRm (number_of op) true true 0 rm) x y rest p
  word_named {p} {at} {ax} {cx} {dx} {bx} {si} {top} {overflow} {cells} {stack} {left} {told} size k rm y x rest ea ey denotes long lt some under kept s =
      let V : ℕ → View = λ a. view a cx dx bx (2 * top) (record_of c.acts) si c.program.limits.area overflow cells stack left told in
      let here : Is c.image at (V (unsigned x)) p = subst (λ a. Is c.image at (V a) p) ea s in
      let named = subst (λ a. Denotes c.image.bytes (a ∷ cx ∷ dx ∷ bx ∷ 2 * top ∷ record_of c.acts ∷ si ∷ c.program.limits.area ∷ []) rm (InData k)) ea denotes in
      record {
        beside = record { cx = cx; dx = dx; bx = bx; si = si; around = record { overflow = overflow; top = top; cells = cells; stack = stack; left = left; told = told } };
        some = some;
        is = here;
        under = under;
        kept = kept;
        step =
            λ op h.
            let bytes : 0 < length (bytes_of (i86.AluRm (number_of op) true true 0 rm)) = subst (λ n. 0 < n) (sym (long op)) lt in
            let a = act c.rows (Operate op 0 rm (InData k) (unsigned y)) bytes h (named, ey) here in (
              subst (λ n. Is c.image (at + n) (operated_on op (InRegister 0) (unsigned x) (unsigned y) (V (unsigned x))) (watched_step p)) (long op) a.is,
              (p.processor.state.flags, a.flags),
            );
      }

  -- ---- uses

  pub sum_of : {p : Watched} {at size : ℕ} {i : WordOperation → Instr} (to line : ℕ) (x y : ℤ) (rest : List Operand) → FitsWord x → FitsWord y → line < 65536
      → Has c.image at (i Add) → Checked c.image (at + size) to line → Named at size i x y rest p
      → DoesHere c memory input output 15 to true line p (put_value (x +ℤ y) (words rest memory input output))
  sum_of {p} {at} {size} to line x y rest fx fy small h i r =
      later c.program c.image 14 to c.g true line c.acts
      {T = Is c.image (at + size) (view (word_sum (unsigned x) (unsigned y)) r.cx r.dx r.bx (2 * r.top) (record_of c.acts) r.si c.program.limits.area (sum_overflows (unsigned x) (unsigned y)) r.cells r.stack r.left r.told)}
      1 15 (put_value (x +ℤ y) (words rest memory input output)) (lit≤ tt)
      (last c.rows r.is r.kept.wrote (r.step Add h).0)
      (λ q t.
      checks_end c.rows c.program c.image c.g c.acts to r.top line (x +ℤ y) rest memory input output c.library c.few r.some small (sum_overflows_is c.rows.words x y fx fy)
      (sum_is c.rows.words x y fx fy) r.under r.kept i t)

  pub difference_of : {p : Watched} {at size : ℕ} {i : WordOperation → Instr} (to line : ℕ) (x y : ℤ) (rest : List Operand) → FitsWord x → FitsWord y → line < 65536
      → Has c.image at (i Subtract) → Checked c.image (at + size) to line → Named at size i x y rest p
      → DoesHere c memory input output 15 to true line p (put_value (x -ℤ y) (words rest memory input output))
  difference_of {p} {at} {size} to line x y rest fx fy small h i r =
      later c.program c.image 14 to c.g true line c.acts
      {T = Is c.image (at + size) (view (word_difference (unsigned x) (unsigned y)) r.cx r.dx r.bx (2 * r.top) (record_of c.acts) r.si c.program.limits.area (difference_overflows (unsigned x) (unsigned y)) r.cells r.stack r.left r.told)}
      1 15 (put_value (x -ℤ y) (words rest memory input output)) (lit≤ tt)
      (last c.rows r.is r.kept.wrote (r.step Subtract h).0)
      (λ q t.
      checks_end c.rows c.program c.image c.g c.acts to r.top line (x -ℤ y) rest memory input output c.library c.few r.some small (difference_overflows_is c.rows.words x y fx fy)
      (difference_is c.rows.words x y fx fy) r.under r.kept i t)

  -- bits of both
  bits_of : {p : Watched} {at size : ℕ} {i : WordOperation → Instr} (to n : ℕ) (x y z : ℤ) (rest : List Operand) (r : Named at size i x y rest p) → at + size ≡ to → n ≡ unsigned z
      → Is c.image (at + size) (view n r.cx r.dx r.bx (2 * r.top) (record_of c.acts) r.si c.program.limits.area false r.cells r.stack r.left r.told) (watched_step p)
      → DoesHere c memory input output 1 to true 0 p (Changed (put z (words rest memory input output)))
  bits_of to n x y z rest r e value there =
      further 1 (lit≤ tt) (lit< tt)
      (last c.rows r.is r.kept.wrote (landed c.rows c.program c.image c.g c.acts true to r.top (Word z ∷ rest) memory input output e (value, r.under) r.kept there))

  pub combination_of : {p : Watched} {at size : ℕ} {i : WordOperation → Instr} (op : LogicOp) (to : ℕ) (x y : ℤ) (rest : List Operand) → FitsWord x → FitsWord y → at + size ≡ to → Has c.image at (i (instruction_of op)) → Named at size i x y rest p
      → DoesHere c memory input output 1 to true 0 p (Changed (put (signed (logic_word op (unsigned x) (unsigned y))) (words rest memory input output)))
  combination_of {at = at} {size = size} op to x y rest fx fy e h r =
      bits_of to (logic_word op (unsigned x) (unsigned y)) x y (signed (logic_word op (unsigned x) (unsigned y))) rest r e (logic_is c memory input output op x y fx fy) (stepped op (r.step (instruction_of op) h).0)
    where
      stepped : (op : LogicOp) {q : Watched} → Is c.image (at + size) (operated_on (instruction_of op) (InRegister 0) (unsigned x) (unsigned y) (view (unsigned x) r.cx r.dx r.bx (2 * r.top) (record_of c.acts) r.si c.program.limits.area r.overflow r.cells r.stack r.left r.told)) q
          → Is c.image (at + size) (view (logic_word op (unsigned x) (unsigned y)) r.cx r.dx r.bx (2 * r.top) (record_of c.acts) r.si c.program.limits.area false r.cells r.stack r.left r.told) q
      stepped logic.Mask there = there
      stepped _ there = there

  -- a comparison, and the way on
  pub comparison_of : {p : Watched} {at size : ℕ} {i : WordOperation → Instr} (short : Bool) (to by : ℕ) (start : ℕ → ℕ) (k : Comparator) (m : ℕ) (x y : ℤ) (rest : List Operand) → FitsWord x → FitsWord y → at + size + branch_size short ≡ to
      → (at + size + branch_size short + goes_by short by) % 65536 ≡ start m % 65536 → Has c.image at (i Compare) → HasAll c.image (at + size) (branch_code short k by) → Named at size i x y rest p
      → Chooses c.program c.image 3 to start c.g false 0 c.acts output p (to_mark_if (holds (comparison k) x y) m (words rest memory input output))
  comparison_of {p} {at} {size} short to by start k m x y rest fx fy e arrives h i r =
      let stepped = r.step Compare h in
      let V : View = view (unsigned x) r.cx r.dx r.bx (2 * r.top) (record_of c.acts) r.si c.program.limits.area (difference_overflows (unsigned x) (unsigned y)) r.cells r.stack r.left r.told in
      let Between : Watched → Type 0 = IsCompared c.image (at + size) V (unsigned x) (unsigned y) in
      let there : Between (watched_step p) = record { is = stepped.0; flags = c.rows.as_compared (unsigned x) (unsigned y) stepped.1.0 (watched_step p).processor stepped.1.1 } in
      sooner c.program c.image 2 to start c.g false 0 c.acts {T = Between} 1 3 (to_mark_if (holds (comparison k) x y) m (words rest memory input output)) (lit≤ tt)
      (last c.rows r.is r.kept.wrote there)
      (λ q u. branches c.rows c.program c.image c.g c.acts short to r.top by start k m x y rest memory input output e arrives fx fy refl refl r.under r.kept i u)

  -- ---- products

  -- AX with a product of words, and the test behind it
  pub product_of : {q : Watched} {at cx bx dx si top : ℕ} {cells stack : ℕ → ℕ} {left : List ℕ} {told : Told} (to line a b : ℕ) (x y : ℤ) (rest : List Operand) → FitsWord x → FitsWord y → line < 65536
      → 0 < top
      → product_overflows a b ≡ not (fits_word (x *ℤ y)) → (FitsWord (x *ℤ y) → product_low a b ≡ unsigned (x *ℤ y))
      → Checked c.image at to line → StackIs c.program c.acts stack top rest → Kept c.program c.g c.acts memory input output cells stack left told
      → Is c.image at (view (product_low a b) cx dx bx (2 * top) (record_of c.acts) si c.program.limits.area (product_overflows a b) cells stack left told) q
      → DoesHere c memory input output 14 to true line q (put_value (scaled_product x y (pos 0)) (words rest memory input output))
  product_of {q} {at} to line a b x y rest fx fy small some tests low i under kept s =
      let z : ℤ = x *ℤ y in
      let value : z ≡ scaled_product x y (pos 0) = sym (c.rows.words.scaled_up z 0 ∙ (let one : z *ℤ pos 1 ≡ z = omega (arith, ints) in one)) in
      subst (λ r. DoesHere c memory input output 14 to true line q (put_value r (words rest memory input output))) value
      (checks_end c.rows c.program c.image c.g c.acts to _ line z rest memory input output c.library c.few some small tests low under kept i s)
