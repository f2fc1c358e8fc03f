-- What the code of the input does.
use Rattle.std.proofs.Common.{Bool, ◌≡◌, ℕ, zero, suc, ◌+◌, ◌*◌, ◌%◌, ◌<◌, true, false, ℤ, pos, negsuc, List, [], ◌∷◌, drop, refl, sym, ap, ◌∙◌, subst, arith}
use Rattle.std.specs.List.{All}
use Rattle.std.proofs.lemmas.List.Elements.{All-head}
use Rattle.cw_i86.specs.declared.instr.Instr.TheVariants as i86
use Rattle.cw_run86.specs.Processor.{Told}
use Rattle.cw_run86.specs.Views.{put_word}
use Rattle.cw_word.specs.Word.{unsigned}
use Rattle.cw_unit.specs.Words.{Operand, Word, read_byte}
use Rattle.cw_unit.specs.Operation.{ReadByte, perform}
use Rattle.cw_order.specs.OrderState.{operand_words}
use Rattle.cw_order.specs.OrderMachine.{unrefused}
use Rattle.cw_tmpl.specs.Library.{read_place}
use Rattle.cw_routines.specs.Results.{next_word}
use Rattle.cw_routines.proofs.Facts.{put_at, unsigned_pos}
use Rattle.cw_follow.proofs.Watched.{Watched}
use Rattle.cw_follow.proofs.Chains.{Is, Leads, view, to_place, call, last, IsAt}
use Rattle.cw_follow.proofs.Routines.{leads_on, quiet_in, quiet_library, flags_of, arrives, joined}
use Rattle.cw_follow.proofs.Stacks.{level, record_of, StackIs, top_is, same_put, stack_same}
use Rattle.cw_follow.proofs.Orders.{Kept, kept_under, Landed, landed, Leading, LandedAt}
use Rattle.cw_follow.proofs.Operands.{Setting, words, DoesHere}
use Rattle.cw_follow.proofs.Called.{Returned, comes_back}
use Rattle.cw_follow.proofs.Standing.{HasAt}

module _ (c : Setting) (memory : List ℤ) (output : List ℕ) where
  -- what has been read is in AX
  reads_as : {p : Watched} {back to : ℕ} {cells stack : ℕ → ℕ} {left : List ℕ} {told : Told} (n : ℕ) (operands : List Operand) (input : List ℕ)
      → All (λ b. b < 256) input → StackIs c.program c.acts stack n operands
      → Kept c.program c.g c.acts memory input output cells stack left told → left ≡ input → back % 65536 ≡ to % 65536
      → Returned c.image back (2 * n) (record_of c.acts) c.program.limits.area cells stack (drop 1 left) told (λ ax f. ax ≡ next_word left) p
      → Landed c.program c.image to c.g true c.acts (read_byte input (words operands memory input output)) p
  reads_as {to = to} {left = left} n operands [] bytes h k e same r =
      let gone : drop 1 left ≡ [] = ap (drop 1) e in
      let ax : r.back.ax ≡ unsigned (negsuc 0) = r.back.answers ∙ ap next_word e in
      landed c.rows c.program c.image c.g c.acts true to n (Word (negsuc 0) ∷ operands) memory [] output refl (ax, h)
      (record { words = k.words; long = k.long; piled = k.piled; read = gone; wrote = k.wrote; kind = k.kind }) (to_place same r.is)
  reads_as {to = to} {left = left} n operands (b ∷ rest) bytes h k e same r =
      let gone : drop 1 left ≡ rest = ap (drop 1) e in
      let byte : b < 256 = All-head (λ x. x < 256) b rest bytes in
      let ax : r.back.ax ≡ unsigned (pos b) = r.back.answers ∙ ap next_word e ∙ sym (unsigned_pos b (omega arith)) in
      landed c.rows c.program c.image c.g c.acts true to n (Word (pos b) ∷ operands) memory rest output refl (ax, h)
      (record { words = k.words; long = k.long; piled = k.piled; read = gone; wrote = k.wrote; kind = k.kind }) (to_place same r.is)

  pub reads : {p : Watched} {first : Bool} {at : ℕ} (to by : ℕ) (operands : List Operand) (input : List ℕ) → at + 3 ≡ to → (at + 3 + by) % 65536 ≡ read_place % 65536 → operand_words operands < level c.acts
      → HasAt first c.image at (i86.Call by) → All (λ b. b < 256) input → LandedAt first c.program c.image at c.g false c.acts (words operands memory input output) p
      → DoesHere c memory input output 7 to true 0 p (unrefused (perform c.program.limits.area ReadByte (words operands memory input output)))
  reads {p} {first} {at} to by operands input e arrives_there room i bytes l = from l.top refl
    where
      from : (top : ℕ) → l.top ≡ top → Leading output 7 p (Landed c.program c.image to c.g true c.acts (read_byte input (words operands memory input output)))
      from zero is = let t = top_is c.program c.acts l.stack l.top operands l.operands in absurd (omega arith)
      from (suc n) is =
          let s = l.stacked in
          let h : StackIs c.program c.acts l.stack (suc n) operands = subst (λ t. StackIs c.program c.acts l.stack t operands) is l.operands in
          let t = top_is c.program c.acts l.stack (suc n) operands h in
          let back = (at + 3) % 65536 in
          let stack' : ℕ → ℕ = put_word l.stack n back in
          let lt : n < 32768 = omega arith in
          let lt' : n < 32767 = omega arith in
          let low : n < level c.acts = omega arith in
          let sp : 2 * suc n ≡ 2 * suc n % 65536 = omega arith in
          let small : back < 65536 = omega arith in
          let there : back % 65536 ≡ to % 65536 = omega arith in
          let bp = record_of c.acts in
          let area = c.program.limits.area in
          let kept = kept_under n back low l.kept in
          let under = stack_same c.program c.acts l.stack stack' (suc n) operands (same_put l.stack n back (suc n) (omega arith)) h in
          let input_fits : All (λ b. b < 256) l.input = subst (All (λ b. b < 256)) (sym l.kept.read) bytes in
          let at_n : IsAt first c.image at (view s.ax s.cx s.dx s.bx (2 * suc n) bp s.si area s.overflow l.cells l.stack l.input l.told) p =
          subst (λ t. IsAt first c.image at (view s.ax s.cx s.dx s.bx (2 * t) bp s.si area s.overflow l.cells l.stack l.input l.told) p) is s.is in
          let lead : Leads output 1 p (Is c.image read_place (view s.ax s.cx s.dx s.bx (2 * n) bp s.si area s.overflow l.cells stack' l.input l.told)) =
          last c.rows at_n l.kept.wrote (to_place arrives_there (call c.rows by n back lt sp refl i at_n)) in
          let q = lead.reached in
          let read =
          c.rows.routines.read (quiet_in q.places) c.image.bytes c.library (quiet_library lead.there.ignores) n back s.ax s.cx s.dx s.bx bp s.si area (flags_of q) l.cells stack' l.input l.told q.processor
          input_fits lt' (put_at l.stack n back) small (arrives lead.there) in
          let within = read.within in
          let behind : Leads output read.spent q (Landed c.program c.image to c.g true c.acts (read_byte input (words operands memory input output))) =
          subst (λ o. Leads o read.spent q (Landed c.program c.image to c.g true c.acts (read_byte input (words operands memory input output)))) l.kept.wrote
          (leads_on {n = read.spent} {p = q} (λ u b. reads_as (suc n) operands input bytes under kept l.kept.read there b) (comes_back c.rows {n = read.spent} {p = q} lead.there read.leads)) in
          record {
            spent = 1 + read.spent;
            some = omega arith;
            within = omega arith;
            leads = joined lead behind;
          }
