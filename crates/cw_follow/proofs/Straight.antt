-- Straight pieces of code: instructions that go on at the next one, and what they leave of a view.
use Rattle.std.proofs.Common.{◌≡◌, ℕ, suc, ◌+◌, ◌*◌, ◌%◌, ◌<◌, true, Bool, false, List, [], ◌∷◌, length, refl, ap, ◌∙◌, subst, arith, lit<}
use Rattle.std.specs.Prelude.{bit_and, bit_or, bit_xor}
use Rattle.cw_i86.specs.Encoding.{bytes_of}
use Rattle.cw_i86.specs.State.{sign_extended}
use Rattle.cw_i86.specs.declared.instr.Instr.{Instr}
use Rattle.cw_i86.specs.declared.instr.Instr.TheVariants as i86
use Rattle.cw_i86.specs.declared.instr.Imm.TheVariants as imm
use Rattle.cw_i86.specs.declared.instr.Rm.TheVariants as rms
use Rattle.cw_run86.specs.Processor.{Processor, processor_step}
use Rattle.cw_run86.specs.Several as several
use Rattle.cw_follow.proofs.Watched.{Watched, watched_step}
use Rattle.cw_run86.specs.Views as view
use Rattle.cw_run86.specs.Views.{View, Sees, IsTop, register, with_place, with_register, with_result, with_pair, with_overflow, with_cell, with_stack, double_overflows, sum_overflows, difference_overflows, word_sum, word_difference, word_down_signed, shift_overflow, product_low, product_high, product_overflows, sign_of, with_number}
use Rattle.cw_rows86.specs.Acts.{Into, OutOf}
use Rattle.cw_rows86.specs.Locations.{InData, InStack}
use Rattle.cw_tmpl.specs.Mnemonics.{at_bx, slot, field, argument, load, store}
use Rattle.cw_tmpl.proofs.Lengths.{field_loaded, field_stored}
use Rattle.cw_follow.proofs.Fields.{field_denotes, argument_denotes, argument_some}
use Rattle.cw_follow.proofs.Standing.{Image, HasAt, HasFrom, HasAll}
use Rattle.cw_follow.proofs.Rows.{Rows}
use Rattle.cw_follow.proofs.Chains.{IsAt, Is, Leads, placed, moved, has, more}

-- an instruction, with what is known of the words that it reads: the number of the stack's word, and that word
pub data Act : Type 0 where
  Number : (r w : ℕ) → Act
  Move : (r q : ℕ) → Act
  Exchange : Act
  Pop : (r n w : ℕ) → Act
  Push : (r n : ℕ) → Act
  Load : (r k w : ℕ) → Act
  Store : (r k : ℕ) → Act
  LoadSlot : (r by k w : ℕ) → Act
  LoadArgument : (r n k w : ℕ) → Act
  StoreField : (r by k : ℕ) → Act
  LoadWord : (r by k w : ℕ) → Act
  Sum : (r q : ℕ) → Act
  SumNumber : (w : ℕ) → Act
  DifferenceNumber : (w : ℕ) → Act
  Difference : (r q : ℕ) → Act
  Negative : (r : ℕ) → Act
  Double : (r : ℕ) → Act
  Both : (r q : ℕ) → Act
  Either : (r q : ℕ) → Act
  One : (r q : ℕ) → Act
  DownSigned : (r : ℕ) → Act
  Product : (r : ℕ) → Act
  Sign : Act

abbrev pub instruction : Act → Instr
instruction (Number r w) = i86.MovImm r (imm.Word w)
instruction (Move r q) = i86.Mov true true r (rms.Reg q)
instruction Exchange = i86.XchgAx 3
instruction (Pop r n w) = i86.Pop r
instruction (Push r n) = i86.Push r
instruction (Load r k w) = i86.Mov true true r at_bx
instruction (Store r k) = i86.Mov true false r at_bx
instruction (LoadSlot r by k w) = i86.Mov true true r (slot by)
instruction (LoadArgument r n k w) = load r (argument n)
instruction (StoreField r by k) = store (field by) r
instruction (LoadWord r by k w) = load r (field by)
instruction (SumNumber w) = with_number 0 w
instruction (DifferenceNumber w) = with_number 5 w
instruction (Sum r q) = i86.AluRm 0 true true r (rms.Reg q)
instruction (Difference r q) = i86.AluRm 5 true true r (rms.Reg q)
instruction (Negative r) = i86.Unary 3 true (rms.Reg r)
instruction (Double r) = i86.Shift 4 true false (rms.Reg r)
instruction (Both r q) = i86.AluRm 4 true true r (rms.Reg q)
instruction (Either r q) = i86.AluRm 1 true true r (rms.Reg q)
instruction (One r q) = i86.AluRm 6 true true r (rms.Reg q)
instruction (DownSigned r) = i86.Shift 7 true true (rms.Reg r)
instruction (Product r) = i86.Unary 5 true (rms.Reg r)
instruction Sign = i86.Cwd

-- what has to be known before it
abbrev pub Needs : Act → View → Type 0
Needs (Number r w) v = Unit {0}
Needs (Move r q) v = Unit {0}
Needs (Pop r n w) v = (n < 32767) × IsTop v n × (v.stack n ≡ w)
Needs (Push r n) v = (n < 32768) × IsTop v (suc n)
Needs (Load r k w) v = (k < 32768) × (register v 3 ≡ 2 * k) × (v.cells k ≡ w)
Needs (Store r k) v = (k < 32768) × (register v 3 ≡ 2 * k)
Needs (LoadSlot r by k w) v = (k < 32768) × ((register v 5 + sign_extended by) % 65536 ≡ 2 * k) × (v.stack k ≡ w)
Needs (LoadArgument r n k w) v = (k < 32768) × ((register v 5 + (4 + 2 * n)) % 65536 ≡ 2 * k) × (v.stack k ≡ w)
Needs (LoadWord r by k w) v = (k < 32768) × (register v 3 < 65536) × ((register v 3 + by) % 65536 ≡ 2 * k) × (v.cells k ≡ w)
Needs (StoreField r by k) v = (k < 32768) × (register v 3 < 65536) × ((register v 3 + by) % 65536 ≡ 2 * k)
Needs (Double r) v = register v r < 32768
Needs (DownSigned r) v = register v r < 65536
Needs _ v = Unit {0}

-- the view behind it, but for the place
abbrev pub after : Act → View → View
after (Number r w) v = with_register r w v
after (Move r q) v = with_register r (register v q) v
after Exchange v = with_register 0 (register v 3) (with_register 3 (register v 0) v)
after (Pop r n w) v = with_register r w (with_register 4 (2 * suc n) v)
after (Push r n) v = with_register 4 (2 * n) (with_stack n (register v r) v)
after (Load r k w) v = with_register r w v
after (Store r k) v = with_cell k (register v r) v
after (LoadSlot r by k w) v = with_register r w v
after (LoadArgument r n k w) v = with_register r w v
after (StoreField r by k) v = with_cell k (register v r) v
after (LoadWord r by k w) v = with_register r w v
after (SumNumber w) v = with_result 0 (word_sum (register v 0) w) (sum_overflows (register v 0) w) v
after (DifferenceNumber w) v = with_result 0 (word_difference (register v 0) w) (difference_overflows (register v 0) w) v
after (Sum r q) v = with_result r (word_sum (register v r) (register v q)) (sum_overflows (register v r) (register v q)) v
after (Difference r q) v = with_result r (word_difference (register v r) (register v q)) (difference_overflows (register v r) (register v q)) v
after (Negative r) v = with_result r (word_difference 0 (register v r)) (difference_overflows 0 (register v r)) v
after (Double r) v = with_result r (2 * register v r) (double_overflows (register v r)) v
after (Both r q) v = with_result r (bit_and (register v r) (register v q)) false v
after (Either r q) v = with_result r (bit_or (register v r) (register v q)) false v
after (One r q) v = with_result r (bit_xor (register v r) (register v q)) false v
after (DownSigned r) v = with_result r (word_down_signed (register v r) (register v 1 % 256)) (shift_overflow 7 (register v r) (register v 1 % 256) v.overflow) v
after (Product r) v = with_overflow (product_overflows (register v 0) (register v r)) (with_pair (product_low (register v 0) (register v r)) (product_high (register v 0) (register v r)) v)
after Sign v = with_register 2 (sign_of (register v 0)) v

-- ---- several

abbrev pub codes : List Act → List Instr
codes [] = []
codes (a ∷ acts) = instruction a ∷ codes acts

abbrev pub NeedsAll : List Act → View → Type 0
NeedsAll = several.NeedsAll after Needs

abbrev pub after_all : List Act → View → View
after_all = several.after_all after

-- the place behind them
abbrev pub behind : List Act → ℕ → ℕ
behind [] at = at
behind (a ∷ acts) at = behind acts (at + length (bytes_of (instruction a)))

module _ (rows : Rows) where
  -- one of them takes up some bytes
  takes_bytes : (a : Act) → 0 < length (bytes_of (instruction a))
  takes_bytes (Number r w) = lit< tt
  takes_bytes (LoadArgument r n k w) = argument_some r n
  takes_bytes (StoreField r by k) = omega (arith, field_stored r by)
  takes_bytes (LoadWord r by k w) = omega (arith, field_loaded r by)
  takes_bytes _ = lit< tt

  effect : (a : Act) {image : List ℕ} (at : ℕ) (v : View) {p : Processor} → view.Has image (at % 65536) (instruction a) → Needs a v → Sees image (placed at v) p → Sees image (with_place ((at % 65536 + length (bytes_of (instruction a))) % 65536) (after a v)) (processor_step p)
  effect (Number r w) {image} at v {p} h n s = rows.number image (placed at v) r w h p s
  effect (Move r q) {image} at v {p} h n s = rows.move image (placed at v) r q h p s
  effect Exchange {image} at v {p} h n s = rows.exchange image (placed at v) 3 h p s
  effect (Pop r n w) {image} at v {p} h needs s =
      let lt = needs.0 in
      let below : n < 32768 = omega arith in
      let m : 2 * suc n % 65536 ≡ 2 * suc n = omega arith in
      subst (λ x. Sees image (with_place ((at % 65536 + 1) % 65536) (with_register r w (with_register 4 x v))) (processor_step p)) m
      (subst (λ x. Sees image (with_place ((at % 65536 + 1) % 65536) (with_register r x (with_register 4 (2 * suc n % 65536) v))) (processor_step p)) needs.2 (rows.pop image (placed at v) r n h below needs.1 p s))
  effect (Push r n) {image} at v {p} h needs s = rows.push image (placed at v) r n h needs.0 needs.1 p s
  effect (Load r k w) {image} at v {p} h needs s = subst (λ x. Sees image (with_place ((at % 65536 + 2) % 65536) (with_register r x v)) (processor_step p)) needs.2 (rows.load image (placed at v) r k h needs.0 needs.1 p s)
  effect (Store r k) {image} at v {p} h needs s = rows.store image (placed at v) r k h needs.0 needs.1 p s
  effect (LoadSlot r by k w) {image} at v {p} h needs s = subst (λ x. Sees image (with_place ((at % 65536 + 3) % 65536) (with_register r x v)) (processor_step p)) needs.2 (rows.load_slot image (placed at v) r by k h needs.0 needs.1 p s)
  effect (LoadArgument r n k w) {image} at v {p} h needs s =
      (rows.acts image (Into r (argument n) (InStack k) w) (at % 65536) v p h (argument_denotes image v.registers n k needs.0 needs.1, needs.2) s).0
  effect (StoreField r by k) {image} at v {p} h needs s =
      (rows.acts image (OutOf r (field by) (InData k)) (at % 65536) v p h (field_denotes image v.registers by k needs.0 needs.1 needs.2, tt) s).0
  effect (LoadWord r by k w) {image} at v {p} h needs s =
      (rows.acts image (Into r (field by) (InData k) w) (at % 65536) v p h (field_denotes image v.registers by k needs.0 needs.1 needs.2, needs.3) s).0
  effect (SumNumber w) {image} at v {p} h n s = rows.add_number image (placed at v) w h p s
  effect (DifferenceNumber w) {image} at v {p} h n s = rows.subtract_number image (placed at v) w h p s
  effect (Sum r q) {image} at v {p} h n s = rows.add image (placed at v) r q h p s
  effect (Difference r q) {image} at v {p} h n s = rows.subtract image (placed at v) r q h p s
  effect (Negative r) {image} at v {p} h n s = rows.negate image (placed at v) r h p s
  effect (Double r) {image} at v {p} h n s = rows.double image (placed at v) r h n p s
  effect (Both r q) {image} at v {p} h n s = rows.both image (placed at v) r q h p s
  effect (Either r q) {image} at v {p} h n s = rows.either image (placed at v) r q h p s
  effect (One r q) {image} at v {p} h n s = rows.one image (placed at v) r q h p s
  effect (DownSigned r) {image} at v {p} h n s = rows.shift_down_signed image (placed at v) r h n p s
  effect (Product r) {image} at v {p} h n s = rows.multiply image (placed at v) r h p s
  effect Sign {image} at v {p} h n s = rows.extend image (placed at v) h p s

  pub step : (a : Act) {image : Image} {at : ℕ} {v : View} {p : Watched} {first : Bool} → HasAt first image at (instruction a) → Needs a v → IsAt first image at v p → Is image (at + length (bytes_of (instruction a))) (after a v) (watched_step p)
  step a {image} {at} {v} h needs s =
      let here = has (instruction a) (takes_bytes a) h s in
      moved at (instruction a) (after a v) here s (effect a at v here.there needs s.sees)

  -- none of them tells anything
  quiet : (a : Act) (v : View) → (after a v).told ≡ v.told
  quiet (Number r w) v = refl
  quiet _ v = refl

  -- all of them, and the way on
  pub straight : (acts : List Act) {image : Image} {at n : ℕ} {v : View} {p : Watched} {output : List ℕ} {Target : Watched → Type 0} → v.told.output ≡ output → HasAll image at (codes acts) → NeedsAll acts v → Is image at v p
      → ((q : Watched) → Is image (behind acts at) (after_all acts v) q → Leads output n q Target) → Leads output (length acts + n) p Target
  straight [] {n = n} {p = p} {output = output} {Target = Target} wrote h needs s on = let e : n ≡ 0 + n = omega arith in subst (λ m. Leads output m p Target) e (on p s)
  straight (a ∷ acts) {n = n} {v = v} {p = p} {output = output} {Target = Target} wrote h needs s on =
      let t = step a h.0 needs.0 s in
      let told : (after a v).told.output ≡ output = ap (λ x. x.output) (quiet a v) ∙ wrote in
      let e : suc (length acts + n) ≡ suc (length acts) + n = omega arith in
      subst (λ m. Leads output m p Target) e (more rows s wrote t (λ q u. straight acts told h.1 needs.1 u on))

  -- the same, from the first instruction of a block on
  pub straight_from : {first : Bool} (a : Act) (acts : List Act) {image : Image} {at n : ℕ} {v : View} {p : Watched} {output : List ℕ} {Target : Watched → Type 0} → v.told.output ≡ output → HasFrom first image at (codes (a ∷ acts))
      → NeedsAll (a ∷ acts) v → IsAt first image at v p
      → ((q : Watched) → Is image (behind (a ∷ acts) at) (after_all (a ∷ acts) v) q → Leads output n q Target) → Leads output (length (a ∷ acts) + n) p Target
  straight_from a acts {n = n} {v = v} {p = p} {output = output} {Target = Target} wrote h needs s on =
      let t = step a h.0 needs.0 s in
      let told : (after a v).told.output ≡ output = ap (λ x. x.output) (quiet a v) ∙ wrote in
      let e : suc (length acts + n) ≡ suc (length acts) + n = omega arith in
      subst (λ m. Leads output m p Target) e (more rows s wrote t (λ q u. straight acts told h.1 needs.1 u on))
