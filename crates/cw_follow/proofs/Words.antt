-- The steps of orders on words, each of which is a block of its own.
use Rattle.std.proofs.Common.{◌≡◌, ℕ, zero, suc, ◌+◌, ◌<◌, ◌≤◌, Bool, true, false, not, inl, inr, ℤ, pos, negsuc, ◌-ℤ◌, List, [], ◌∷◌, Some, None, refl, sym, ap, ◌∙◌, subst, arith, lit<, lit≤, length}
use Rattle.std.proofs.lemmas.Bool.{cases_lt}
use Rattle.std.proofs.lemmas.List.Elements.{All-head}
use Rattle.std.specs.List.{All}
use Rattle.std.specs.Prelude.{slice_get}
use Rattle.std.specs.Int.Bits.{xor_self}
use Rattle.cw_i86.specs.declared.instr.Instr.TheVariants as i86
use Rattle.cw_i86.specs.declared.instr.Imm.TheVariants as imm
use Rattle.cw_i86.specs.declared.instr.Rm.TheVariants as rms
use Rattle.cw_word.specs.BitField.{unsigned_field}
use Rattle.cw_word.specs.Word.{signed, unsigned, word_difference}
use Rattle.cw_unit.specs.declared.unit.LogicOp.{LogicOp}
use Rattle.cw_unit.specs.declared.unit.LogicOp.TheVariants as logic
use Rattle.cw_unit.specs.Stop.{Running}
use Rattle.cw_unit.specs.Words.{Operand, Word, Held, Words, Outcome, Changed, Refused, Impossible, put, on_one, with_operands, logic_word}
use Rattle.cw_unit.specs.Operation.{Fetch, Store, StoreBits, Add, Subtract, Negate, Combine, Extract, Form, Taken, InBounds, WriteByte, ReadByte, perform}
use Rattle.cw_order.specs.declared.order.Order.{Order}
use Rattle.cw_order.specs.declared.order.Order.TheVariants as order
use Rattle.cw_order.specs.OrderChanges.{difference, index}
use Rattle.cw_order.specs.OrderState.{OrderActivation, at}
use Rattle.cw_order.specs.OrderActions.{home_word}
use Rattle.cw_order.specs.OrderCosts.{weight_of}
use Rattle.cw_order.specs.FittingWords.{OperandFits}
use Rattle.cw_order.specs.OrderMachine.{unrefused, after, carry_out, step}
use Rattle.cw_tmpl.specs.Library.{address_entry, bounds_entry, read_entry}
use Rattle.cw_tmpl.specs.declared.blocks.Block.TheVariants as block
use Rattle.cw_tmpl.specs.Templates.{template_by}
use Rattle.cw_tmpl.specs.ShortForms.{is_short}
use Rattle.cw_tmpl.specs.ReferenceCode.{names_of, reach_of}
use Rattle.cw_tmpl.proofs.Sizes.{own_place, size_by}
use Rattle.cw_follow.proofs.Watched.{Watched}
use Rattle.cw_follow.proofs.Chains.{seen, number, done}
use Rattle.cw_follow.proofs.Orders.{Landed, Tells, Checked, landed, further, puts, saves, loads, stores, writes}
use Rattle.cw_follow.proofs.States.{Given, Sound, went_on}
use Rattle.cw_follow.proofs.Straight.{Both, Either, One, straight_from, Act, instruction, Needs}
use Rattle.cw_follow.proofs.Operands.{words}
use Rattle.cw_follow.proofs.Bits.{part, drops, Sets, combines, differs, logic_turned, lesses, takes, takes_all, loads_part, stores_part}
use Rattle.cw_follow.proofs.Shifts.{part_steps, without_steps}
use Rattle.cw_follow.proofs.Addresses.{indexes_less, in_areas, BoundsCode, bounds_kept, bounds_from_zero}
use Rattle.cw_follow.proofs.Inputs.{reads}
use Rattle.cw_follow.proofs.Steps.{Follow, Alone, leads_to, onward, order_is, step_is, sound_at, does, tells, by, calls, setting, cheap, has_code, line_fits, low_room, here, next, code, behind, begins_next, silent, FollowFrom, begins_here, begun_here, landed_here, stuck_here, is_codeless}
use Rattle.cw_follow.proofs.Standing.{Has, HasAt, HasPieces, HasAll}
use Rattle.cw_follow.proofs.CheckedBlocks.{checked_alone}
use Rattle.cw_follow.proofs.Sums.{adds, subtracts, negates}
use Rattle.cw_i86.specs.Encoding.{bytes_of}
use Rattle.cw_run86.specs.Views.{View}
use Rattle.cw_word.specs.FixedPoint.{FitsWord}

module _ (known : Given) where
  open known use {rows, p, image, all, coded, few, low}

  -- ---- the accumulator free

  module _ {q : Watched} {g place : ℕ} {acts : List OrderActivation} {w : Words} (s : Sound p image g place false acts w q) (a : Alone p image g place false acts w q s.orders) where
    -- a word that one instruction puts
    put_is : (o : Order) (x : ℕ) (z : ℤ) → slice_get s.orders.list place ≡ Some o → carry_out p (Some o) g place false acts w ≡ after p.room 0 (Changed (put z w)) g place true acts w → 1 ≤ weight_of o
        → x ≡ unsigned z → here known s a + 3 ≡ next known s a → HasAt (begins_here known s) image (here known s a) (i86.MovImm 0 (imm.Word x)) → FollowFrom known (begun_here known s) (at g place false acts w Running) q
    put_is o x z e goes_so cheap_enough value there i =
        does known s true 0 (Changed (put z w)) 1 (begins_next known s a o e) (step_is known s (Some o) e ∙ goes_so) (cheap known s o 1 cheap_enough e)
        (puts rows p image g acts (next known s a) x z w value (landed_here known s a) (λ q ax cx dx bx sp si di overflow stack t. seen there refl (number rows 0 x i t)))

    zero_follows : slice_get s.orders.list place ≡ Some (order.Const 0) → FollowFrom known (begun_here known s) (at g place false acts w Running) q
    zero_follows e =
        let o = order.Const 0 in
        let l = landed_here known s a in
        let t = l.stacked in
        does known s true 0 (Changed (put (signed 0) w)) 1 (begins_next known s a o e) (step_is known s (Some o) e) (cheap known s o 1 (lit≤ tt) e)
        (further 1 (lit≤ tt) (lit< tt)
        (straight_from rows (One 0 0) [] {n = 0} l.kept.wrote (code known s a o e) (tt, tt) t.is (λ q u.
        done (landed rows p image g acts true (next known s a) l.top (Word (signed 0) ∷ w.operands) w.memory w.input w.output (behind known s a o e) (xor_self t.ax, l.operands) l.kept u))))

    pub const_follows : (n : ℕ) → slice_get s.orders.list place ≡ Some (order.Const n) → FollowFrom known (begun_here known s) (at g place false acts w Running) q
    const_follows zero e = zero_follows e
    const_follows (suc k) e =
        let n = suc k in
        let o = order.Const n in
        let small : n < 65536 = coded.constants g place n (order_is known s (Some o) e) in
        put_is o n (signed n) e refl (lit≤ tt) (sym (rows.words.numbers.words.forth n small)) (behind known s a o e) (code known s a o e).0

    pub home_follows : (family offset : ℕ) → slice_get s.orders.list place ≡ Some (order.Home family offset) → FollowFrom known (begun_here known s) (at g place false acts w Running) q
    home_follows family offset e =
        let o = order.Home family offset in
        let st = all.stands g s.orders s.unit in
        let word = home_word p.addresses g family offset in
        let small : word < 65536 = omega arith in
        put_is o (st.value 1 family offset (here known s a + 3)) (signed word) e refl (lit≤ tt) (st.fills.homes family offset (here known s a + 3) ∙ sym (rows.words.numbers.words.forth word small))
        (behind known s a o e) (code known s a o e).0

    pub read_follows : slice_get s.orders.list place ≡ Some order.ReadByte → FollowFrom known (begun_here known s) (at g place false acts w Running) q
    read_follows e =
        let o = order.ReadByte in
        let c = here known s a + 3 in
        does known s true 0 (unrefused (perform p.limits.area ReadByte w)) 7 (begins_next known s a o e) (step_is known s (Some o) e) (cheap known s o 7 (lit≤ tt) e)
        (reads (setting known s) w.memory w.output (next known s a) (by known s read_entry c) w.operands w.input (behind known s a o e) (calls known s read_entry c (lit< tt)) (low_room known s)
        (code known s a o e).0 s.fits.words.input (landed_here known s a))

    pub write_follows : slice_get s.orders.list place ≡ Some order.WriteByte → FollowFrom known (begun_here known s) (at g place false acts w Running) q
    write_follows e =
        let o = order.WriteByte in
        let n = next known s a in
        tells known s false (unrefused (perform p.limits.area WriteByte w)) 2 (begins_next known s a o e) (step_is known s (Some o) e) (cheap known s o 2 (lit≤ tt) e)
        (never_refused _ (perform p.limits.area WriteByte w) (writes rows p image g acts n w.operands w.memory w.input w.output (behind known s a o e) (code known s a o e) (landed_here known s a)))
      where
        never_refused : (r : Watched) (x : Outcome) → Tells p image 2 (next known s a) g false acts w.output r x → Tells p image 2 (next known s a) g false acts w.output r (unrefused x)
        never_refused r (Changed v) t = t
        never_refused r (Refused kind) t = absurd t
        never_refused r Impossible t = t

  -- ---- the accumulator loaded

  module _ {q : Watched} {g place : ℕ} {acts : List OrderActivation} {w : Words} (s : Sound p image g place true acts w q) (a : Alone p image g place true acts w q s.orders) where
    pub save_follows : slice_get s.orders.list place ≡ Some order.Save → Follow known (at g place true acts w Running) q
    save_follows e =
        let o = order.Save in
        let goes : step p (at g place true acts w Running) ≡ at g (place + 1) false acts w Running = step_is known s (Some o) e in
        leads_to known g place true acts w (at g (place + 1) false acts w Running) 1 goes (cheap known s o 1 (lit≤ tt) e)
        (onward known (λ r l. inl (sound_at known s (place + 1) false w r (begins_next known s a o e) goes l))
        (saves rows p image g acts (next known s a) w.operands w.memory w.input w.output (behind known s a o e) (low_room known s) (code known s a o e).0 a.landed))

    -- what an order does with the top word, by no code
    top_follows : (o : Order) (m : Bool) (f : ℤ → Words → Words) → slice_get s.orders.list place ≡ Some o → carry_out p (Some o) g place true acts w ≡ after p.room 0 (unrefused (on_one (λ x v. Changed (f x v)) w.operands w)) g place m acts w
        → size_by (is_short (reach_of s.orders)) place block.Single o ≡ 0 → is_codeless o ≡ true
        → ((z : ℤ) (rest : List Operand) → FitsWord z → (at : ℕ) → Landed p image at g true acts (words (Word z ∷ rest) w.memory w.input w.output) q → Landed p image at g m acts (f z (words rest w.memory w.input w.output)) q)
        → Follow known (at g place true acts w Running) q
    top_follows o m f e goes none codeless turned = cases w.operands refl
      where
        goes_on : (operands : List Operand) → w.operands ≡ operands → step p (at g place true acts w Running) ≡ after p.room 0 (unrefused (on_one (λ x v. Changed (f x v)) operands w)) g place m acts w
        goes_on operands is = step_is known s (Some o) e ∙ goes ∙ ap (λ xs. after p.room 0 (unrefused (on_one (λ x v. Changed (f x v)) xs w)) g place m acts w) is

        cases : (operands : List Operand) → w.operands ≡ operands → Follow known (at g place true acts w Running) q
        cases [] is = absurd (stuck_here known s (goes_on [] is))
        cases (Held c ∷ rest) is = absurd (stuck_here known s (goes_on (Held c ∷ rest) is))
        cases (Word z ∷ rest) is =
            let v = f z (with_operands w rest) in
            let on = went_on p g place true m 0 acts w v (goes_on (Word z ∷ rest) is) s.never in
            let whole : w ≡ words (Word z ∷ rest) w.memory w.input w.output = ap (λ xs. words xs w.memory w.input w.output) is in
            let fz = All-head OperandFits (Word z) rest (subst (All OperandFits) is s.fits.words.operands) in
            silent known s a o m v e on.goes none codeless (λ at l. turned z rest fz at (subst (λ x. Landed p image at g true acts x q) whole l))

    pub drop_follows : slice_get s.orders.list place ≡ Some order.Drop → Follow known (at g place true acts w Running) q
    drop_follows e = top_follows order.Drop false (λ x v. v) e refl refl refl (λ z rest fz. drops (setting known s) w.memory w.input w.output z rest)

    -- the code of a sum, a difference and a negative, with the check in one of its forms
    abbrev form_of : Order → Bool
    form_of o = is_short (reach_of s.orders) place block.Single o

    abbrev CodeBy : Bool → Order → Type 0
    CodeBy short o = HasPieces image (all.stands g s.orders s.unit).value (here known s a) (template_by short (names_of s.orders) (own_place s.orders place) place o)

    add_code : (line : ℕ) (short : Bool) → slice_get s.orders.list place ≡ Some (order.Add line) → form_of (order.Add line) ≡ short → CodeBy short (order.Add line)
        → Has image (here known s a) (i86.Pop 3) × (Has image (here known s a + 1) (i86.AluRm 0 true true 0 (rms.Reg 3)) × Checked image (here known s a + 1 + 2) (next known s a) line)
    add_code line true e form h = (h.0, (h.1.0, checked_alone known s a (order.Add line) line 3 (here known s a + 1 + 2) true e refl form refl (omega arith) h.1.1))
    add_code line false e form h = (h.0, (h.1.0, checked_alone known s a (order.Add line) line 3 (here known s a + 1 + 2) false e refl form refl (omega arith) h.1.1))

    subtract_code : (line : ℕ) (short : Bool) → slice_get s.orders.list place ≡ Some (order.Sub line) → form_of (order.Sub line) ≡ short → CodeBy short (order.Sub line)
        → Has image (here known s a) (i86.Mov true true 3 (rms.Reg 0)) × (Has image (here known s a + 2) (i86.Pop 0) × (Has image (here known s a + 2 + 1) (i86.AluRm 5 true true 0 (rms.Reg 3)) × Checked image (here known s a + 2 + 1 + 2) (next known s a) line))
    subtract_code line true e form h = (h.0, (h.1.0, (h.1.1.0, checked_alone known s a (order.Sub line) line 5 (here known s a + 2 + 1 + 2) true e refl form refl (omega arith) h.1.1.1)))
    subtract_code line false e form h = (h.0, (h.1.0, (h.1.1.0, checked_alone known s a (order.Sub line) line 5 (here known s a + 2 + 1 + 2) false e refl form refl (omega arith) h.1.1.1)))

    negate_code : (line : ℕ) (short : Bool) → slice_get s.orders.list place ≡ Some (order.Neg line) → form_of (order.Neg line) ≡ short → CodeBy short (order.Neg line)
        → Has image (here known s a) (i86.Unary 3 true (rms.Reg 0)) × Checked image (here known s a + 2) (next known s a) line
    negate_code line true e form h = (h.0, checked_alone known s a (order.Neg line) line 2 (here known s a + 2) true e refl form refl refl h.1)
    negate_code line false e form h = (h.0, checked_alone known s a (order.Neg line) line 2 (here known s a + 2) false e refl form refl refl h.1)

    pub add_follows : (line : ℕ) → slice_get s.orders.list place ≡ Some (order.Add line) → Follow known (at g place true acts w Running) q
    add_follows line e =
        let o = order.Add line in
        does known s true line (perform p.limits.area Add w) 16 (begins_next known s a o e) (step_is known s (Some o) e) (cheap known s o 16 (lit≤ tt) e)
        (adds (setting known s) w.memory w.input w.output (next known s a) line w.operands (line_fits known s o e) (low_room known s) s.fits.words.operands (add_code line (form_of o) e refl (code known s a o e)) a.landed)

    pub subtract_follows : (line : ℕ) → slice_get s.orders.list place ≡ Some (order.Sub line) → Follow known (at g place true acts w Running) q
    subtract_follows line e =
        let o = order.Sub line in
        does known s true line (perform p.limits.area Subtract w) 17 (begins_next known s a o e) (step_is known s (Some o) e) (cheap known s o 17 (lit≤ tt) e)
        (subtracts (setting known s) w.memory w.input w.output (next known s a) line w.operands (line_fits known s o e) (low_room known s) s.fits.words.operands (subtract_code line (form_of o) e refl (code known s a o e)) a.landed)

    pub negate_follows : (line : ℕ) → slice_get s.orders.list place ≡ Some (order.Neg line) → Follow known (at g place true acts w Running) q
    negate_follows line e =
        let o = order.Neg line in
        does known s true line (perform p.limits.area Negate w) 15 (begins_next known s a o e) (step_is known s (Some o) e) (cheap known s o 15 (lit≤ tt) e)
        (negates (setting known s) w.memory w.input w.output (next known s a) line w.operands (line_fits known s o e) (low_room known s) s.fits.words.operands
        (negate_code line (form_of o) e refl (code known s a o e)) a.landed)

    pub load_follows : slice_get s.orders.list place ≡ Some order.Load → Follow known (at g place true acts w Running) q
    load_follows e =
        let o = order.Load in
        does known s true 0 (unrefused (perform p.limits.area (Fetch None) w)) 3 (begins_next known s a o e) (step_is known s (Some o) e) (cheap known s o 3 (lit≤ tt) e)
        (loads rows p image g acts (next known s a) 0 w.operands w.memory w.input w.output low (behind known s a o e) (code known s a o e) a.landed)

    pub store_follows : slice_get s.orders.list place ≡ Some order.Store → Follow known (at g place true acts w Running) q
    store_follows e =
        let o = order.Store in
        does known s false 0 (unrefused (perform p.limits.area (Store None) w)) 4 (begins_next known s a o e) (step_is known s (Some o) e) (cheap known s o 4 (lit≤ tt) e)
        (stores rows p image g acts (next known s a) 0 w.operands w.memory w.input w.output low (behind known s a o e) (code known s a o e) a.landed)

    -- ---- parts and logic

    pub load_part_follows : (t b : ℕ) (is_signed : Bool) → slice_get s.orders.list place ≡ Some (order.LoadPart t b is_signed) → Follow known (at g place true acts w Running) q
    load_part_follows t b is_signed e =
        let o = order.LoadPart t b is_signed in
        let h = has_code known s o e in
        does known s true 0 (unrefused (perform p.limits.area (Fetch (part t b (not is_signed))) w)) 7 (begins_next known s a o e) (step_is known s (Some o) e) (cheap known s o 7 (lit≤ tt) e)
        (loads_part (setting known s) w.memory w.input w.output s.fits.words.memory a.landed.kept.long (all.stands g s.orders s.unit).value (next known s a) t b is_signed w.operands (behind known s a o e) h.0 h.1 (low_room known s)
        s.fits.words.operands (code known s a o e) a.landed)

    pub store_part_follows : (t b : ℕ) → slice_get s.orders.list place ≡ Some (order.StorePart t b) → Follow known (at g place true acts w Running) q
    store_part_follows t b e =
        let o = order.StorePart t b in
        let h = has_code known s o e in
        does known s false 0 (unrefused (perform p.limits.area (StoreBits t b) w)) 8 (begins_next known s a o e) (step_is known s (Some o) e) (cheap known s o 8 (lit≤ tt) e)
        (stores_part (setting known s) w.memory w.input w.output s.fits.words.memory a.landed.kept.long (all.stands g s.orders s.unit).value (next known s a) t b w.operands (behind known s a o e) h.1 (low_room known s) s.fits.words.operands
        (code known s a o e) a.landed)

    -- all bits of a word, by no code
    take_all : slice_get s.orders.list place ≡ Some (order.Take 16 0) → Follow known (at g place true acts w Running) q
    take_all e =
        top_follows (order.Take 16 0) true (λ x v. put (signed (unsigned_field (unsigned x) 16 0)) v) e refl refl refl
        (λ z rest fz at. takes_all (setting known s) w.memory w.input w.output at z rest fz)

    pub take_follows : (t b : ℕ) → slice_get s.orders.list place ≡ Some (order.Take t b) → Follow known (at g place true acts w Running) q
    take_follows t b e = elim (cases_lt 0 (part_steps t b false)) [
      | inl some ↦ does known s true 0 (unrefused (perform p.limits.area (Extract t b) w)) 4 (begins_next known s a (order.Take t b) e) (step_is known s (Some (order.Take t b)) e) (cheap known s (order.Take t b) 4 (lit≤ tt) e)
          (takes (setting known s) w.memory w.input w.output (all.stands g s.orders s.unit).value (next known s a) t b w.operands (behind known s a (order.Take t b) e) some (has_code known s (order.Take t b) e).1 (low_room known s) s.fits.words.operands
          (code known s a (order.Take t b) e) a.landed)
      | inr none ↦ let all_bits = without_steps t b (omega arith) in
          take_all (subst (λ n. slice_get s.orders.list place ≡ Some (order.Take n 0)) all_bits.0 (subst (λ n. slice_get s.orders.list place ≡ Some (order.Take t n)) all_bits.1 e))
    ]

    -- the instruction of each, on AX and BX
    abbrev logic_act : LogicOp → Act
    logic_act logic.Mask = Both 0 3
    logic_act logic.Union = Either 0 3
    logic_act logic.Differ = One 0 3

    combines_follow : (op : LogicOp) (o : Order) → slice_get s.orders.list place ≡ Some o → carry_out p (Some o) g place true acts w ≡ after p.room 0 (unrefused (perform p.limits.area (Combine op) w)) g place true acts w → 2 ≤ weight_of o
        → here known s a + 3 ≡ next known s a → length (bytes_of (instruction (logic_act op))) ≡ 2 → Sets (logic_act op) (logic_word op) (λ a b o. false) → ((v : View) → Needs (logic_act op) v)
        → HasAll image (here known s a) (i86.Pop 3 ∷ instruction (logic_act op) ∷ []) → Follow known (at g place true acts w Running) q
    combines_follow op o e goes paid ends long sets needs i =
        does known s true 0 (unrefused (perform p.limits.area (Combine op) w)) 2 (begins_next known s a o e) (step_is known s (Some o) e ∙ goes) (cheap known s o 2 paid e)
        (combines (setting known s) w.memory w.input w.output (next known s a) (logic_act op) (logic_word op) (λ a b o. false) (λ x y. signed (logic_word op (unsigned x) (unsigned y))) w.operands ends long sets needs
        (logic_turned (setting known s) w.memory w.input w.output op) (low_room known s) s.fits.words.operands i a.landed)

    pub and_follows : slice_get s.orders.list place ≡ Some order.And → Follow known (at g place true acts w Running) q
    and_follows e = combines_follow logic.Mask order.And e refl (lit≤ tt) (behind known s a order.And e) refl (λ a cx dx b sp bp si di o cells stack i t. refl) (λ v. tt) (code known s a order.And e)

    pub or_follows : slice_get s.orders.list place ≡ Some order.Or → Follow known (at g place true acts w Running) q
    or_follows e = combines_follow logic.Union order.Or e refl (lit≤ tt) (behind known s a order.Or e) refl (λ a cx dx b sp bp si di o cells stack i t. refl) (λ v. tt) (code known s a order.Or e)

    pub xor_follows : slice_get s.orders.list place ≡ Some order.Xor → Follow known (at g place true acts w Running) q
    xor_follows e = combines_follow logic.Differ order.Xor e refl (lit≤ tt) (behind known s a order.Xor e) refl (λ a cx dx b sp bp si di o cells stack i t. refl) (λ v. tt) (code known s a order.Xor e)

    pub less_follows : slice_get s.orders.list place ≡ Some order.Less → Follow known (at g place true acts w Running) q
    less_follows e =
        let o = order.Less in
        does known s true 0 (unrefused (difference w)) 3 (begins_next known s a o e) (step_is known s (Some o) e) (cheap known s o 3 (lit≤ tt) e)
        (differs (setting known s) w.memory w.input w.output (next known s a) (λ x y. signed (word_difference (unsigned x) (unsigned y))) w.operands (behind known s a o e)
        (lesses (setting known s) w.memory w.input w.output) (low_room known s) s.fits.words.operands (code known s a o e) a.landed)

    -- ---- indexes and addresses

    pub index_less_follows : (lower : ℤ) (line : ℕ) → slice_get s.orders.list place ≡ Some (order.IndexLess lower line) → Follow known (at g place true acts w Running) q
    index_less_follows lower line e =
        let o = order.IndexLess lower line in
        let c = here known s a + 3 + 2 + 2 + 3 in
        does known s true line (index (λ i. i -ℤ lower) w) 16 (begins_next known s a o e) (step_is known s (Some o) e) (cheap known s o 16 (lit≤ tt) e)
        (indexes_less (setting known s) w.memory w.input w.output (next known s a) (by known s address_entry c) line lower w.operands (line_fits known s o e) (behind known s a o e)
        (calls known s address_entry c (lit< tt)) (has_code known s o e) (low_room known s) s.fits.words.operands (code known s a o e) a.landed)

    pub in_area_follows : (line : ℕ) → slice_get s.orders.list place ≡ Some (order.InArea line) → Follow known (at g place true acts w Running) q
    in_area_follows line e =
        let o = order.InArea line in
        let c = here known s a + 2 + 2 + 3 in
        does known s true line (perform p.limits.area (Form Taken) w) 15 (begins_next known s a o e) (step_is known s (Some o) e) (cheap known s o 15 (lit≤ tt) e)
        (in_areas (setting known s) w.memory w.input w.output (next known s a) (by known s address_entry c) line w.operands (line_fits known s o e) (behind known s a o e)
        (calls known s address_entry c (lit< tt)) (low_room known s) s.fits.words.operands (code known s a o e) a.landed)

    -- with both bounds, and with one number where the lower one is 0
    between_follows : (lower upper : ℤ) (line : ℕ) → slice_get s.orders.list place ≡ Some (order.InBounds lower upper line) → here known s a + 20 ≡ next known s a
        → BoundsCode (setting known s) w.memory w.input w.output (here known s a) lower upper (by known s bounds_entry (here known s a + 3 + 2 + 3)) (by known s bounds_entry (here known s a + 3 + 2 + 3 + 2 + 3 + 2 + 3)) line
        → Follow known (at g place true acts w Running) q
    between_follows lower upper line e ends i =
        let o = order.InBounds lower upper line in
        let h = has_code known s o e in
        let first = here known s a + 3 + 2 + 3 in
        let second = first + 2 + 3 + 2 + 3 in
        does known s true line (perform p.limits.area (InBounds lower upper) w) 17 (begins_next known s a o e) (step_is known s (Some o) e) (cheap known s o 17 (lit≤ tt) e)
        (bounds_kept (setting known s) w.memory w.input w.output (next known s a) (by known s bounds_entry first) (by known s bounds_entry second) line lower upper w.operands (line_fits known s o e)
        ends (calls known s bounds_entry first (lit< tt)) (calls known s bounds_entry second (lit< tt)) h.0 h.1 (low_room known s) s.fits.words.operands i a.landed)

    pub in_bounds_follows : (lower upper : ℤ) (line : ℕ) → slice_get s.orders.list place ≡ Some (order.InBounds lower upper line) → Follow known (at g place true acts w Running) q
    in_bounds_follows (pos zero) upper line e =
        let o = order.InBounds (pos 0) upper line in
        let stop = here known s a + 3 + 2 + 3 in
        does known s true line (perform p.limits.area (InBounds (pos 0) upper) w) 15 (begins_next known s a o e) (step_is known s (Some o) e) (cheap known s o 15 (lit≤ tt) e)
        (bounds_from_zero (setting known s) w.memory w.input w.output (next known s a) (by known s bounds_entry stop) line upper w.operands (line_fits known s o e)
        (behind known s a o e) (calls known s bounds_entry stop (lit< tt)) (has_code known s o e).1 (low_room known s) s.fits.words.operands (code known s a o e) a.landed)
    in_bounds_follows (pos (suc n)) upper line e = let o = order.InBounds (pos (suc n)) upper line in between_follows (pos (suc n)) upper line e (behind known s a o e) (code known s a o e)
    in_bounds_follows (negsuc n) upper line e = let o = order.InBounds (negsuc n) upper line in between_follows (negsuc n) upper line e (behind known s a o e) (code known s a o e)
