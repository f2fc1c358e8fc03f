-- Acts, one by one and one after another.
use Rattle.std.proofs.Common.{◌≡◌, ℕ, suc, ◌+◌, ◌*◌, ◌%◌, ◌<◌, ◌≤◌, true, false, List, [], ◌∷◌, length, refl, sym, ap, subst, ◌∙◌, arith}
use Rattle.std.specs.Prelude.{bit_and, bit_or, bit_xor}
use Rattle.cw_i86.specs.Encoding.{bytes_of}
use Rattle.cw_i86.specs.declared.flags.Flags.{Flags}
use Rattle.cw_i86.specs.declared.instr.Instr.{Instr}
use Rattle.cw_i86.specs.declared.instr.Instr.TheVariants as i86
use Rattle.cw_i86.specs.declared.instr.Imm.TheVariants as imm
use Rattle.cw_i86.specs.Products.{product_flags, signed_quotient_of}
use Rattle.std.specs.Int.{w16, w32}
use Rattle.cw_i86.specs.State.{sign_extended}
use Rattle.cw_run86.specs.Processor.{Processor, processor_step, processor_after}
use Rattle.cw_run86.specs.Views.{View, Sees, Has, register, with_place, with_register, with_pair, with_stack, with_overflow, product_low, product_high, product_overflows, sum_overflows, difference_overflows, word_sum, word_difference, shift_overflow}
use Rattle.cw_run86.proofs.Tests.{Finds}
use Rattle.cw_run86.proofs.Sizes.{some_bytes}
use Rattle.cw_rows86.specs.Locations.{Location, InRegister, contents, with_contents}
use Rattle.cw_rows86.specs.Operations.{WordOperation, Add, Or, And, Subtract, Xor, Compare, number_of, operated_on, flags_after, counted_to, count_overflows, flags_counted, shift_number, shifted_word, flags_shifted, places_of}
use Rattle.cw_rows86.specs.Acts.{Act, Number, NumberTo, Into, OutOf, Load, Store, Offset, Operate, OperateOnto, OperateNumber, OperateNumberOnto, OperateByteOnto, Negate, Count, CountIn, Multiply, Divide, Extend, Shift, Push, PushAny, Pop, Nothing, instruction, Needs, after, flags_of, HasActs, NeedsAll, after_all, flags_of_all, behind}
use Rattle.cw_rows86.proofs.Moving as moving
use Rattle.cw_rows86.proofs.Operating as operating
use Rattle.cw_rows86.proofs.Multiplying as multiplying
use Rattle.cw_rows86.proofs.Shifts as shifts
use Rattle.cw_rows86.proofs.Stacking as stacking
use Rattle.cw_rows86.proofs.Bytes as bytes

-- the place does not bear on what is written
placed : (o : Location) (w n : ℕ) (v : View) → with_contents o w (with_place n v) ≡ with_place n (with_contents o w v)
placed (InRegister r) w n v = refl
placed _ w n v = refl

operated_placed : (op : WordOperation) (o : Location) (a b n : ℕ) (v : View) → operated_on op o a b (with_place n v) ≡ with_place n (operated_on op o a b v)
operated_placed op o a b n v = by_case op
  where
    by_case : (p : WordOperation) → operated_on p o a b (with_place n v) ≡ with_place n (operated_on p o a b v)
    by_case Add = ap (with_overflow (sum_overflows a b)) (placed o (word_sum a b) n v)
    by_case Or = ap (with_overflow false) (placed o (bit_or a b) n v)
    by_case And = ap (with_overflow false) (placed o (bit_and a b) n v)
    by_case Subtract = ap (with_overflow (difference_overflows a b)) (placed o (word_difference a b) n v)
    by_case Xor = ap (with_overflow false) (placed o (bit_xor a b) n v)
    by_case Compare = refl

same_contents : (code : List ℕ) (o : Location) (n : ℕ) (v : View) → contents code (with_place n v) o ≡ contents code v o
same_contents code (InRegister r) n v = refl
same_contents code _ n v = refl

-- ---- one

module _ (finds : Finds) (code : List ℕ) where
  abbrev Result : View → Flags → Processor → Type 0
  Result w f p = Sees code w (processor_step p) × ((processor_step p).state.flags ≡ f)

  seen : (w u : View) (f : Flags) (p : Processor) → w ≡ u → Result w f p → Result u f p
  seen w u f p e r = (subst (λ x. Sees code x (processor_step p)) e r.0, r.1)

  pub effect : (a : Act) (n : ℕ) (v : View) (p : Processor) → Has code n (instruction a) → Needs code a v → Sees code (with_place n v) p
      → Result (with_place ((n + length (bytes_of (instruction a))) % 65536) (after a v)) (flags_of a v p.state.flags) p
  effect (Number r w) n v p has needs s = moving.number finds code (with_place n v) r w has p s
  effect (NumberTo rm o w) n v p has needs s =
      let m = (n + length (bytes_of (i86.MovRm rm (imm.Word w)))) % 65536 in
      seen _ _ _ p (placed o w m v) (moving.number_to finds code (with_place n v) rm w o has needs.0 needs.1 p s)
  effect (Into r rm o a) n v p has needs s =
      let m = (n + length (bytes_of (i86.Mov true true r rm))) % 65536 in
      subst (λ x. Result (with_register r x (with_place m v)) p.state.flags p) (same_contents code o n v ∙ needs.1) (moving.into finds code (with_place n v) r rm o has needs.0 p s)
  effect (OutOf r rm o) n v p has needs s =
      let m = (n + length (bytes_of (i86.Mov true false r rm))) % 65536 in
      seen _ _ _ p (placed o (register v r) m v) (moving.out_of finds code (with_place n v) r rm o has needs.0 needs.1 p s)
  effect (Load at o a) n v p has needs s =
      let m = (n + length (bytes_of (i86.MovAcc false true false at))) % 65536 in
      subst (λ x. Result (with_register 0 x (with_place m v)) p.state.flags p) (same_contents code o n v ∙ needs.1) (moving.load finds code (with_place n v) false at o has needs.0 p s)
  effect (Store at o) n v p has needs s =
      let m = (n + length (bytes_of (i86.MovAcc false true true at))) % 65536 in
      seen _ _ _ p (placed o (register v 0) m v) (moving.store finds code (with_place n v) false at o has needs.0 needs.1 p s)
  effect (Offset r m) n v p has needs s = moving.offset finds code (with_place n v) r m has p s
  effect (Operate op r rm o a) n v p has needs s =
      let m = (n + length (bytes_of (i86.AluRm (number_of op) true true r rm))) % 65536 in
      seen _ _ _ p (operated_placed op (InRegister r) (register v r) a m v)
      (subst (λ x. Result (operated_on op (InRegister r) (register v r) x (with_place m v)) (flags_after op (register v r) x p.state.flags) p) (same_contents code o n v ∙ needs.1) (operating.into finds code (with_place n v) op r rm o has needs.0 p s))
  effect (OperateOnto op r rm o a) n v p has needs s =
      let m = (n + length (bytes_of (i86.AluRm (number_of op) true false r rm))) % 65536 in
      seen _ _ _ p (operated_placed op o a (register v r) m v)
      (subst (λ x. Result (operated_on op o x (register v r) (with_place m v)) (flags_after op x (register v r) p.state.flags) p) (same_contents code o n v ∙ needs.2) (operating.onto finds code (with_place n v) op r rm o has needs.0 needs.1 p s))
  effect (OperateNumber op w) n v p has needs s =
      let m = (n + length (bytes_of (i86.AluAcc (number_of op) (imm.Word w)))) % 65536 in
      seen _ _ _ p (operated_placed op (InRegister 0) (register v 0) w m v) (operating.number finds code (with_place n v) op w has p s)
  effect (OperateNumberOnto op w rm o a) n v p has needs s =
      let m = (n + length (bytes_of (i86.AluImm (number_of op) rm (imm.Word w)))) % 65536 in
      seen _ _ _ p (operated_placed op o a w m v)
      (subst (λ x. Result (operated_on op o x w (with_place m v)) (flags_after op x w p.state.flags) p) (same_contents code o n v ∙ needs.2) (operating.number_onto finds code (with_place n v) op w rm o has needs.0 needs.1 p s))
  effect (OperateByteOnto op b rm o a) n v p has needs s =
      let m = (n + length (bytes_of (i86.AluShort (number_of op) rm b))) % 65536 in
      seen _ _ _ p (operated_placed op o a (sign_extended b) m v)
      (subst (λ x. Result (operated_on op o x (sign_extended b) (with_place m v)) (flags_after op x (sign_extended b) p.state.flags) p) (same_contents code o n v ∙ needs.2) (operating.byte_onto finds code (with_place n v) op b rm o has needs.0 needs.1 p s))
  effect (Negate rm o a) n v p has needs s =
      let m = (n + length (bytes_of (i86.Unary 3 true rm))) % 65536 in
      seen _ _ _ p (ap (with_overflow (difference_overflows 0 a)) (placed o (word_difference 0 a) m v))
      (subst (λ x. Result (with_overflow (difference_overflows 0 x) (with_contents o (word_difference 0 x) (with_place m v))) (flags_after Subtract 0 x p.state.flags) p) (same_contents code o n v ∙ needs.2) (operating.negate finds code (with_place n v) rm o has needs.0 needs.1 p s))
  effect (Count true r) n v p has needs s = operating.decrement finds code (with_place n v) r has p s
  effect (Count false r) n v p has needs s = operating.increment finds code (with_place n v) r has p s
  effect (CountIn down rm o a) n v p has needs s =
      let m = (n + length (bytes_of (i86.IncDec down true rm))) % 65536 in
      seen _ _ _ p (ap (with_overflow (count_overflows down a)) (placed o (counted_to down a) m v))
      (subst (λ x. Result (with_overflow (count_overflows down x) (with_contents o (counted_to down x) (with_place m v))) (flags_counted down x p.state.flags) p) (same_contents code o n v ∙ needs.2) (operating.count finds code (with_place n v) down rm o has needs.0 needs.1 p s))
  effect (Multiply rm o a) n v p has needs s =
      let m = (n + length (bytes_of (i86.Unary 5 true rm))) % 65536 in
      subst (λ x. Result (with_overflow (product_overflows (register v 0) x) (with_pair (product_low (register v 0) x) (product_high (register v 0) x) (with_place m v))) (product_flags (product_overflows (register v 0) x) p.state.flags) p)
      (same_contents code o n v ∙ needs.1) (multiplying.multiply finds code (with_place n v) rm o has needs.0 p s)
  effect (Divide rm o a q r) n v p has needs s =
      let e = same_contents code o n v ∙ needs.0.1 in
      multiplying.signed_divide finds code (with_place n v) rm o q r has needs.0.0 (ap (signed_quotient_of w32 w16 32768 (65536 * register v 2 + register v 0)) e ∙ needs.1) p s
  effect Extend n v p has needs s = multiplying.extend finds code (with_place n v) has p s
  effect (Shift op by_cl rm o a) n v p has needs s =
      let m = (n + length (bytes_of (i86.Shift (shift_number op) true by_cl rm))) % 65536 in
      let e = same_contents code o n v ∙ needs.0.2 in
      seen _ _ _ p (ap (with_overflow (shift_overflow (shift_number op) a (places_of by_cl v) v.overflow)) (placed o (shifted_word op a (places_of by_cl v)) m v))
      (subst (λ x. Result (with_overflow (shift_overflow (shift_number op) x (places_of by_cl v) v.overflow) (with_contents o (shifted_word op x (places_of by_cl v)) (with_place m v))) (flags_shifted op x (places_of by_cl v) p.state.flags) p) e
      (shifts.shift finds code (with_place n v) op by_cl rm o has needs.0.0 needs.0.1 (subst (λ x. x < 65536) (sym e) needs.1) p s))
  effect (Push r k) n v p has needs s = stacking.push finds code (with_place n v) r k has needs.0 needs.1 p s
  effect (PushAny rm o a k) n v p has needs s =
      let m = (n + length (bytes_of (i86.PushRm rm))) % 65536 in
      subst (λ x. Result (with_register 4 (2 * k) (with_stack k x (with_place m v))) p.state.flags p) (same_contents code o n v ∙ needs.0.1) (stacking.push_any finds code (with_place n v) rm o k has needs.0.0 needs.1 needs.2 p s)
  effect (Pop r k a) n v p has needs s =
      let lt = needs.0 in
      let below : k < 32768 = omega arith in
      let top : 2 * suc k % 65536 ≡ 2 * suc k = omega arith in
      let m = (n + 1) % 65536 in
      subst (λ x. Result (with_register r x (with_register 4 (2 * suc k) (with_place m v))) p.state.flags p) needs.2
      (subst (λ x. Result (with_register r (v.stack k) (with_register 4 x (with_place m v))) p.state.flags p) top (stacking.pop finds code (with_place n v) r k has below needs.1 p s))
  effect Nothing n v p has needs s = bytes.nothing finds code (with_place n v) has p s

  -- ---- one after another

  -- what stands in the code stands below 65,536
  below : (at : ℕ) (i : Instr) → length code ≤ 65536 → Has code at i → at % 65536 ≡ at
  below at i fits has = let within = has.within in let some = some_bytes i in omega arith

  pub straight : (acts : List Act) (at : ℕ) (v : View) (p : Processor) → HasActs code at acts → NeedsAll code acts v → Sees code (with_place (at % 65536) v) p
      → Sees code (with_place (behind acts at % 65536) (after_all acts v)) (processor_after (length acts) p) × ((processor_after (length acts) p).state.flags ≡ flags_of_all acts v p.state.flags)
  straight [] at v p has needs s = (s, refl)
  straight (a ∷ acts) at v p has needs s =
      let here = below at (instruction a) s.fits has.0 in
      let one = effect a at v p has.0 needs.0 (subst (λ m. Sees code (with_place m v) p) here s) in
      let rest = straight acts (at + length (bytes_of (instruction a))) (after a v) (processor_step p) has.1 needs.1 one.0 in
      (rest.0, rest.1 ∙ ap (flags_of_all acts (after a v)) one.1)
