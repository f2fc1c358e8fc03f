-- What the code of control arguments does, and of jumps that drop activations.
use Rattle.std.proofs.Common.{◌≡◌, ◌≢◌, ℕ, zero, suc, ◌+◌, ◌-◌, ◌*◌, ◌%◌, ◌<◌, ◌≤◌, Bool, true, false, ℤ, List, [], ◌∷◌, ◌++◌, length, drop, Some, refl, sym, ap, ◌∙◌, subst, arith, lit<, lit≤}
use Rattle.cw_i86.specs.declared.instr.Instr.TheVariants as i86
use Rattle.cw_i86.specs.declared.instr.Imm.TheVariants as imm
use Rattle.cw_i86.specs.declared.instr.Rm.TheVariants as rms
use Rattle.cw_run86.specs.Processor.{Told}
use Rattle.cw_run86.specs.Views.{put_word, word_difference, difference_overflows}
use Rattle.cw_unit.specs.Words.{Control, LabelControl, Operand, Held, Words, with_operands}
use Rattle.cw_order.specs.OrderProgram.{OrderProgram}
use Rattle.cw_order.specs.OrderState.{OrderActivation, operand_words, stack_words, argument_behind}
use Rattle.cw_order.specs.Activations.{segment_below, ControlStands}
use Rattle.cw_order.proofs.StandingActivations.{words_split}
use Rattle.cw_i86.specs.Encoding.{bytes_of}
use Rattle.cw_tmpl.specs.Mnemonics.{slot, segment_slot, argument, load}
use Rattle.cw_tmpl.specs.Templates.{argument_load_size}
use Rattle.cw_tmpl.proofs.Lengths.{argument_loaded}
use Rattle.cw_routines.proofs.Facts.{put_at, put_off}
use Rattle.cw_follow.proofs.Watched.{Watched, watched_step}
use Rattle.cw_follow.proofs.Rows.{Rows}
use Rattle.cw_follow.proofs.Chains.{Is, Leads, view, seen, to_place, store_slot, jump_to, near, more, last, done, IsAt}
use Rattle.cw_follow.proofs.Straight.{Number, Move, Push, LoadArgument, Difference, straight, straight_from}
use Rattle.cw_follow.proofs.Routines.{leads_then}
use Rattle.cw_follow.proofs.Stacks.{level, record_of, code_place, control_place, ArgumentIs, OwnerIs, StackIs, words_append, top_is, SameFrom, same_put, same_then, same_above, stack_same, argument_words, piled_below, control_small, owner_same, owner_above, drop_all}
use Rattle.cw_follow.proofs.Orders.{Kept, kept_under, Landed, landed, CalledAt, Leading, further, LandedAt, around_at}
use Rattle.cw_follow.proofs.Standing.{Has, HasAll, Image, HasFrom}

-- what is kept without the last activations
pub kept_below : {p : OrderProgram} {g : ℕ} {acts : List OrderActivation} {memory : List ℤ} {input output : List ℕ} {cells stack : ℕ → ℕ} {left : List ℕ} {told : Told} (n : ℕ)
    → Kept p g acts memory input output cells stack left told → Kept p (segment_below n g acts) (drop n acts) memory input output cells stack left told
kept_below {p} {g} {acts} {stack = stack} n k = record { words = k.words; long = k.long; piled = piled_below p stack n g acts k.piled; read = k.read; wrote = k.wrote; kind = k.kind }

-- the words of an argument of the activation at work
pub argument_of : (prog : OrderProgram) {g : ℕ} {a : OrderActivation} {acts : List OrderActivation} {memory : List ℤ} {input output : List ℕ} {cells stack : ℕ → ℕ} {left : List ℕ} {told : Told} (k : ℕ) (x : Operand)
    → Kept prog g (a ∷ acts) memory input output cells stack left told → argument_behind k a.arguments ≡ Some x → ArgumentIs prog acts stack (level (a ∷ acts) + 6 + k) x
argument_of prog {a = a} {acts = acts} {stack = stack} k x kept is = argument_words prog acts stack (level (a ∷ acts) + 6) k a.arguments a.operands x kept.piled.1.0.operands is

module _ (rows : Rows) (prog : OrderProgram) (image : Image) where
  -- ---- control arguments

  -- the two words of a control argument on the stack: the record of its owner, and below it the place
  held_there : {r : Watched} {at ax cx dx bx si : ℕ} {overflow : Bool} {cells stack : ℕ → ℕ} {left : List ℕ} {told : Told} (g to n place owner : ℕ) (acts : List OrderActivation) (c : Control) (w : Words) → at ≡ to → place ≡ control_place prog c
      → OwnerIs prog acts c owner → StackIs prog acts stack (suc (suc n)) w.operands → suc n < level acts → Kept prog g acts w.memory w.input w.output cells stack left told
      → Is image at (view ax cx dx bx (2 * n) (record_of acts) si prog.limits.area overflow cells (put_word (put_word stack (suc n) owner) n place) left told) r
      → Landed prog image to g false acts (with_operands w (Held c ∷ w.operands)) r
  held_there {stack = stack} g to n place owner acts c w end is owned h under kept s =
      let s1 : ℕ → ℕ = put_word stack (suc n) owner in
      let s2 : ℕ → ℕ = put_word s1 n place in
      let same1 : SameFrom (suc (suc n)) stack s1 = same_put stack (suc n) owner (suc (suc n)) (omega arith) in
      let same2 : SameFrom (suc n) s1 s2 = same_put s1 n place (suc n) (omega arith) in
      let both : SameFrom (suc (suc n)) stack s2 = same_then stack s1 s2 (suc (suc n)) same1 (same_above s1 s2 (suc n) (suc (suc n)) (omega arith) same2) in
      let owner_there : s2 (suc n) ≡ owner = same2 (suc n) (omega arith) ∙ put_at stack (suc n) owner in
      landed rows prog image g acts false to n (Held c ∷ w.operands) w.memory w.input w.output end
      (put_at s1 n place ∙ is, owner_same prog acts c owner (s2 (suc n)) owner_there owned, stack_same prog acts stack s2 (suc (suc n)) w.operands both h)
      (kept_under n place (omega arith) (kept_under (suc n) owner under kept)) s

  -- the record at work, and a place
  pub controls : {q : Watched} {first : Bool} {at : ℕ} (g to place : ℕ) (acts : List OrderActivation) (c : Control) (w : Words) → stack_words (Held c ∷ w.operands) acts ≤ 32000 → at + 5 ≡ to
      → place ≡ control_place prog c → OwnerIs prog acts c (record_of acts)
      → HasFrom first image at (i86.Push 5 ∷ i86.MovImm 0 (imm.Word place) ∷ i86.Push 0 ∷ []) → LandedAt first prog image at g false acts w q
      → Leading w.output 3 q (Landed prog image to g false acts (with_operands w (Held c ∷ w.operands)))
  controls {q} {first} {at} g to place acts c w room e is owner i l = from l.top refl
    where
      from : (top : ℕ) → l.top ≡ top → Leading w.output 3 q (Landed prog image to g false acts (with_operands w (Held c ∷ w.operands)))
      from zero same = let t = top_is prog acts l.stack l.top w.operands l.operands in let sp = words_split (Held c ∷ w.operands) acts in absurd (omega arith)
      from (suc zero) same = let t = top_is prog acts l.stack l.top w.operands l.operands in let sp = words_split (Held c ∷ w.operands) acts in absurd (omega arith)
      from (suc (suc n)) same =
          let s = l.stacked in
          let bp = record_of acts in
          let h = subst (λ m. StackIs prog acts l.stack m w.operands) same l.operands in
          let t = top_is prog acts l.stack (suc (suc n)) w.operands h in
          let start = subst (λ m. IsAt first image at (view s.ax s.cx s.dx s.bx (2 * m) bp s.si prog.limits.area s.overflow l.cells l.stack l.input l.told) q) same s.is in
          let low : suc n < 32768 = omega arith in
          let low' : n < 32768 = omega arith in
          let top : 2 * suc (suc n) ≡ 2 * suc (suc n) % 65536 = omega arith in
          let top' : 2 * suc n ≡ 2 * suc n % 65536 = omega arith in
          let end : at + 1 + 3 + 1 ≡ to = omega arith in
          further 3 (lit≤ tt) (lit< tt)
          (straight_from rows (Push 5 (suc n)) (Number 0 place ∷ Push 0 n ∷ []) {n = 0} l.kept.wrote i ((low, top), (tt, ((low', top'), tt))) start (λ q u.
          done (held_there g to n place bp acts c w end is owner h (omega arith) l.kept u)))

  -- a control parameter that is handed on
  pub hands_on : {q : Watched} {first : Bool} {at : ℕ} (g to k : ℕ) (a : OrderActivation) (acts : List OrderActivation) (c : Control) (w : Words) → stack_words (Held c ∷ w.operands) (a ∷ acts) ≤ 32000
      → at + (argument_load_size (k + 1) + (argument_load_size k + 2)) ≡ to
      → argument_behind k a.arguments ≡ Some (Held c)
      → ControlStands prog a.segment acts c
      → HasFrom first image at (i86.Mov true true 0 (argument (k + 1)) ∷ i86.Push 0 ∷ i86.Mov true true 0 (argument k) ∷ i86.Push 0 ∷ []) → LandedAt first prog image at g false (a ∷ acts) w q
      → Leading w.output 4 q (Landed prog image to g false (a ∷ acts) (with_operands w (Held c ∷ w.operands)))
  hands_on {q} {first} {at} g to k a acts c w room e is stands i l = from l.top refl
    where
      from : (top : ℕ) → l.top ≡ top → Leading w.output 4 q (Landed prog image to g false (a ∷ acts) (with_operands w (Held c ∷ w.operands)))
      from zero same = let t = top_is prog (a ∷ acts) l.stack l.top w.operands l.operands in let sp = words_split (Held c ∷ w.operands) (a ∷ acts) in absurd (omega arith)
      from (suc zero) same = let t = top_is prog (a ∷ acts) l.stack l.top w.operands l.operands in let sp = words_split (Held c ∷ w.operands) (a ∷ acts) in absurd (omega arith)
      from (suc (suc n)) same =
          let s = l.stacked in
          let all = a ∷ acts in
          let bp = record_of all in
          let r = level all in
          let h = subst (λ m. StackIs prog all l.stack m w.operands) same l.operands in
          let t = top_is prog all l.stack (suc (suc n)) w.operands h in
          let start = subst (λ m. IsAt first image at (view s.ax s.cx s.dx s.bx (2 * m) bp s.si prog.limits.area s.overflow l.cells l.stack l.input l.told) q) same s.is in
          let arg = argument_of prog k (Held c) l.kept is in
          let below = arg.2 in
          let place = control_place prog c in
          let owner = l.stack (suc (r + 6 + k)) in
          let there : (bp + (4 + 2 * k)) % 65536 ≡ 2 * (r + 6 + k) = omega arith in
          let there' : (bp + (4 + 2 * (k + 1))) % 65536 ≡ 2 * suc (r + 6 + k) = omega arith in
          let la : r + 6 + k < 32768 = omega arith in
          let la' : suc (r + 6 + k) < 32768 = omega arith in
          let low : suc n < 32768 = omega arith in
          let low' : n < 32768 = omega arith in
          let top : 2 * suc (suc n) ≡ 2 * suc (suc n) % 65536 = omega arith in
          let top' : 2 * suc n ≡ 2 * suc n % 65536 = omega arith in
          let place_there : put_word l.stack (suc n) owner (r + 6 + k) ≡ place = same_put l.stack (suc n) owner (suc (suc n)) (omega arith) (r + 6 + k) (omega arith) ∙ arg.0 in
          let end : at + length (bytes_of (load 0 (argument (k + 1)))) + 1 + length (bytes_of (load 0 (argument k))) + 1 ≡ to = omega (arith, e, argument_loaded 0 (k + 1), argument_loaded 0 k) in
          let pieces = Push 0 (suc n) ∷ LoadArgument 0 k (r + 6 + k) place ∷ Push 0 n ∷ [] in
          further 4 (lit≤ tt) (lit< tt)
          (straight_from rows (LoadArgument 0 (k + 1) (suc (r + 6 + k)) owner) pieces {n = 0} l.kept.wrote i ((la', there', refl), ((low, top), ((la, there, place_there), ((low', top'), tt)))) start (λ q u.
          done (held_there g to n place owner all c w end refl (owner_above prog a acts a.segment c owner stands arg.1) h (omega arith) l.kept u)))

  -- ---- jumps to the body of a segment

  -- the base record is the one at work, for this segment, whatever was there
  pub restores : {q : Watched} {first : Bool} {at ax cx dx bx sp bp si : ℕ} {overflow : Bool} {cells stack : ℕ → ℕ} {left : List ℕ} {told : Told} (g g' to by segment : ℕ) (acts : List OrderActivation) (memory : List ℤ) (input output : List ℕ)
      → acts ≡ []
      → segment ≡ g + 1 → g < 255 → (at + 15 + by) % 65536 ≡ to % 65536 → Kept prog g' acts memory input output cells stack left told
      → HasFrom first image at (i86.MovImm 5 (imm.Word 0) ∷ i86.MovImm 4 (imm.Word 0xFFF8) ∷ i86.MovImm 0 (imm.Word segment) ∷ i86.Mov true false 0 (slot segment_slot) ∷ i86.Jump by ∷ [])
      → IsAt first image at (view ax cx dx bx sp bp si prog.limits.area overflow cells stack left told) q
      → Leads output 5 q (Landed prog image to g false acts (record { operands = []; memory = memory; input = input; output = output }))
  restores {q} {first} {at} {ax} {cx} {dx} {bx} {sp} {bp} {si} {overflow} {cells} {stack} {left} {told} g g' to by segment acts memory input output none is few arrives k i s =
      let new : ℕ → ℕ = put_word stack 32767 segment in
      let k0 : Kept prog g' [] memory input output cells stack left told = subst (λ (xs : List OrderActivation). Kept prog g' xs memory input output cells stack left told) none k in
      let here = k0.piled.0 in
      let off : (n : ℕ) → n ≢ 32767 → new n ≡ stack n = λ n ne. put_off stack 32767 segment n ne in
      let there : (at + 3 + 3 + 3 + 3 + 3 + by) % 65536 ≡ to % 65536 = omega arith in
      straight_from rows (Number 5 0) (Number 4 0xFFF8 ∷ Number 0 segment ∷ []) {n = 2} k.wrote (i.0, (i.1.0, (i.1.1.0, tt))) (tt, (tt, (tt, tt))) s (λ q s.
      more rows {to = at + 3 + 3 + 3 + 3} {w = view segment cx dx bx 65528 0 si prog.limits.area overflow cells new left told} s k.wrote (store_slot rows 0 0xFE 32767 (lit< tt) refl i.1.1.1.0 s) (λ q s.
      last rows s k.wrote (subst (λ (xs : List OrderActivation). Landed prog image to g false xs (record { operands = []; memory = memory; input = input; output = output }) (watched_step q)) (sym none) (record {
        top = 32764;
        cells = cells;
        stack = new;
        input = left;
        told = told;
        stacked = record { ax = segment; cx = cx; dx = dx; bx = bx; si = si; overflow = overflow; is = to_place there (near rows by i.1.1.1.1.0 s) };
        operands = refl;
        kept = record {
          words = k.words;
          long = k.long;
          piled = (
            record {
              rest_is = off 32764 (λ e. omega arith) ∙ here.rest_is;
              base_is = off 32765 (λ e. omega arith) ∙ here.base_is;
              left_is = off 32766 (λ e. omega arith) ∙ here.left_is;
              number_is = put_at stack 32767 segment ∙ is;
              few = few;
            },
            tt,
          );
          read = k.read;
          wrote = k.wrote;
          kind = k.kind;
        };
      }))))

  pub goes_main : {q : Watched} {first : Bool} {at : ℕ} (g to by segment : ℕ) (acts : List OrderActivation) (w : Words) → segment ≡ g + 1 → g < 255 → (at + 15 + by) % 65536 ≡ to % 65536
      → HasFrom first image at (i86.MovImm 5 (imm.Word 0) ∷ i86.MovImm 4 (imm.Word 0xFFF8) ∷ i86.MovImm 0 (imm.Word segment) ∷ i86.Mov true false 0 (slot segment_slot) ∷ i86.Jump by ∷ [])
      → LandedAt first prog image at g false acts w q → Leading w.output 16 q (Landed prog image to g false (drop (length acts) acts) (with_operands w []))
  goes_main g to by segment acts w is few arrives i l =
      further 5 (lit≤ tt) (lit< tt)
      (restores g (segment_below (length acts) g acts) to by segment (drop (length acts) acts) w.memory w.input w.output (drop_all acts) is few arrives (kept_below (length acts) l.kept) i l.stacked.is)

  -- ---- jumps to the owner of a label

  -- the operands of a record are dropped
  pub drops_operands : {q : Watched} {at ax cx dx bx sp si di : ℕ} {overflow : Bool} {cells stack : ℕ → ℕ} {left : List ℕ} {told : Told} {output : List ℕ} (acts : List OrderActivation)
      → told.output ≡ output
      → HasAll image at (i86.Mov true true 4 (rms.Reg 5) ∷ i86.MovImm 0 (imm.Word 8) ∷ i86.AluRm 5 true true 4 (rms.Reg 0) ∷ [])
      → Is image at (view ax cx dx bx sp (record_of acts) si di overflow cells stack left told) q
      → Leads output 3 q (Is image (at + 7) (view 8 cx dx bx (2 * level acts) (record_of acts) si di (difference_overflows (record_of acts) 8) cells stack left told))
  drops_operands {q} {at} {ax} {cx} {dx} {bx} {sp} {si} {di} {overflow} {cells} {stack} {left} {told} acts wrote i s =
      let bp = record_of acts in
      let l = level acts in
      let low : l ≤ 32764 = omega arith in
      let sum : word_difference bp 8 ≡ 2 * l = omega arith in
      let o = difference_overflows bp 8 in
      let end : at + 2 + 3 + 2 ≡ at + 7 = omega arith in
      straight rows (Move 4 5 ∷ Number 0 8 ∷ Difference 4 0 ∷ []) {n = 0} wrote i (tt, (tt, (tt, tt))) s (λ q u.
      done (seen end (ap (λ x. view 8 cx dx bx x bp si di o cells stack left told) sum) u))

  -- a label parameter: the processor comes to the place with the record of the owner at work
  pub goes_special : {q : Watched} {first : Bool} {at : ℕ} (g k to l owner n : ℕ) (a : OrderActivation) (acts : List OrderActivation) (w : Words)
      → argument_behind k a.arguments ≡ Some (Held (LabelControl to l owner)) → ControlStands prog a.segment acts (LabelControl to l owner)
      → n ≡ length (a ∷ acts) - owner
      → HasFrom first image at (i86.Mov true true 3 (argument k) ∷ i86.Mov true true 5 (argument (k + 1)) ∷ i86.Mov true true 4 (rms.Reg 5) ∷ i86.MovImm 0 (imm.Word 8) ∷ i86.AluRm 5 true true 4 (rms.Reg 0) ∷ i86.JumpRm (rms.Reg 3) ∷ [])
      → LandedAt first prog image at g false (a ∷ acts) w q
      → Leads w.output 6 q (Landed prog image (control_place prog (LabelControl to l owner)) (segment_below n g (a ∷ acts)) false (drop n (a ∷ acts)) (with_operands w []))
  goes_special {q} {first} {at} g k to l owner n a acts w is stands nis i d =
      let s = d.stacked in
      let kept = d.kept in
      let all = a ∷ acts in
      let bp = record_of all in
      let r = level all in
      let c = LabelControl to l owner in
      let place = control_place prog c in
      let arg = argument_of prog k (Held c) kept is in
      let below = arg.2 in
      let there : (bp + (4 + 2 * k)) % 65536 ≡ 2 * (r + 6 + k) = omega arith in
      let there' : (bp + (4 + 2 * (k + 1))) % 65536 ≡ 2 * suc (r + 6 + k) = omega arith in
      let la : r + 6 + k < 32768 = omega arith in
      let la' : suc (r + 6 + k) < 32768 = omega arith in
      let left = drop n all in
      let behind : ℕ = at + length (bytes_of (load 3 (argument k))) + length (bytes_of (load 5 (argument (k + 1)))) in
      let owner_is : d.stack (suc (r + 6 + k)) ≡ record_of left = (owner_above prog a acts a.segment c (d.stack (suc (r + 6 + k))) stands arg.1).0 ∙ ap (λ m. record_of (drop m all)) (sym nis) in
      let small = control_small prog c in
      let whole : place ≡ place % 65536 = omega arith in
      straight_from rows (LoadArgument 3 k (r + 6 + k) place) (LoadArgument 5 (k + 1) (suc (r + 6 + k)) (record_of left) ∷ []) {n = 4} kept.wrote (i.0, (i.1.0, tt)) ((la, there, arg.0), ((la', there', owner_is), tt)) s.is (λ q s'.
      leads_then {n = 3} {m = 1} (drops_operands left kept.wrote (i.1.1.0, (i.1.1.1.0, (i.1.1.1.1.0, tt))) s') (λ q s'.
      last rows s' kept.wrote (record {
        top = level left;
        cells = d.cells;
        stack = d.stack;
        input = d.input;
        told = d.told;
        stacked = record {
          ax = 8;
          cx = s.cx;
          dx = s.dx;
          bx = place;
          si = s.si;
          overflow = difference_overflows (record_of left) 8;
          is = jump_to rows 3 place whole (subst (λ m. Has image m (i86.JumpRm (rms.Reg 3))) (let x : behind + 2 + 3 + 2 ≡ behind + 7 = omega arith in x) i.1.1.1.1.1.0) s';
        };
        operands = refl;
        kept = kept_below n kept;
      })))

  -- ---- a procedure parameter

  pub calls_special : {q : Watched} {first : Bool} {at : ℕ} (k place : ℕ) (b : OrderActivation) (acts : List OrderActivation) (a : OrderActivation) (c : Control) (w : Words) → stack_words [] (a ∷ b ∷ acts) ≤ 32000
      → a.line < 65536 → argument_behind k b.arguments ≡ Some (Held c)
      → w.operands ≡ a.arguments ++ a.operands → place ≡ code_place prog a.segment a.place
      → HasFrom first image at (i86.MovImm 2 (imm.Word a.line) ∷ i86.Mov true true 0 (argument k) ∷ i86.MovImm 3 (imm.Word place) ∷ i86.Push 3 ∷ i86.JumpRm (rms.Reg 0) ∷ [])
      → LandedAt first prog image at a.segment false (b ∷ acts) w q
      → Leading w.output 16 q (CalledAt prog image (control_place prog c) a (b ∷ acts) w)
  calls_special {q} {first} {at} k place b acts a c w room fits is same return i l = from l.top refl
    where
      all : List OrderActivation
      all = b ∷ acts

      few_words : operand_words w.operands ≡ operand_words a.arguments + operand_words a.operands
      few_words = ap operand_words same ∙ words_append a.arguments a.operands

      from : (top : ℕ) → l.top ≡ top → Leading w.output 16 q (CalledAt prog image (control_place prog c) a all w)
      from zero t = let u = top_is prog (b ∷ acts) l.stack l.top w.operands l.operands in let sp = words_split a.operands (b ∷ acts) in let f = few_words in absurd (omega arith)
      from (suc n) t =
          let s = l.stacked in
          let bp = record_of (b ∷ acts) in
          let r = level (b ∷ acts) in
          let xs = a.arguments ++ a.operands in
          let h = subst (λ m. StackIs prog (b ∷ acts) l.stack m xs) t (subst (StackIs prog (b ∷ acts) l.stack l.top) same l.operands) in
          let sum = top_is prog (b ∷ acts) l.stack (suc n) xs h in
          let start = subst (λ m. IsAt first image at (view s.ax s.cx s.dx s.bx (2 * m) bp s.si prog.limits.area s.overflow l.cells l.stack l.input l.told) q) t s.is in
          let arg = argument_of prog k (Held c) l.kept is in
          let below = arg.2 in
          let to = control_place prog c in
          let small = control_small prog c in
          let whole : to ≡ to % 65536 = omega arith in
          let there : (bp + (4 + 2 * k)) % 65536 ≡ 2 * (r + 6 + k) = omega arith in
          let la : r + 6 + k < 32768 = omega arith in
          let low : n < 32768 = omega arith in
          let top : 2 * suc n ≡ 2 * suc n % 65536 = omega arith in
          let s1 : ℕ → ℕ = put_word l.stack n place in
          let pieces = LoadArgument 0 k (r + 6 + k) to ∷ Number 3 place ∷ Push 3 n ∷ [] in
          further 5 (lit≤ tt) (lit< tt)
          (straight_from rows (Number 2 a.line) pieces {n = 1} l.kept.wrote (i.0, (i.1.0, (i.1.1.0, (i.1.1.1.0, tt)))) (tt, ((la, there, arg.0), (tt, ((low, top), tt)))) start (λ q u.
          last rows u l.kept.wrote (record {
            called = record {
              ax = to;
              cx = s.cx;
              bx = place;
              si = s.si;
              around = record (around_at l n) { stack = s1 };
              small = fits;
              back = put_at l.stack n place ∙ return;
              operands = stack_same prog (b ∷ acts) l.stack s1 (suc n) xs (same_put l.stack n place (suc n) (omega arith)) h;
              kept = kept_under n place (omega arith) l.kept;
            };
            is = jump_to rows 0 to whole i.1.1.1.1.0 u;
          })))
