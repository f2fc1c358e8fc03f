-- What the code of a loop's way and of switches does: a number is compared, and the way is found in a table of the code.
use Rattle.std.proofs.Common.{◌≡◌, ℕ, zero, suc, ◌+◌, ◌*◌, ◌%◌, ◌<◌, ◌≤◌, Bool, true, false, not, ℤ, pos, negsuc, List, [], ◌∷◌, length, drop, Option, Some, None, refl, ap, ◌∙◌, subst, arith, lit<, lit≤, sym}
use Rattle.std.specs.Prelude.{slice_get, ◌==◌}
use Rattle.std.proofs.lemmas.Bool.Decides.{nat_tests}
use Rattle.std.specs.List.{All}
use Rattle.std.proofs.lemmas.Int.{ints}
use Rattle.std.proofs.lemmas.List.Elements.{All-head}
use Rattle.std.proofs.lemmas.Option.{slice_get_within}
use Rattle.cw_i86.specs.Effect.{holds}
use Rattle.cw_i86.specs.declared.instr.Instr.{Instr}
use Rattle.cw_i86.specs.declared.instr.Instr.TheVariants as i86
use Rattle.cw_i86.specs.declared.instr.Imm.TheVariants as imm
use Rattle.cw_i86.specs.declared.instr.Rm.TheVariants as rms
use Rattle.cw_run86.specs.Processor.{Told}
use Rattle.cw_follow.proofs.Watched.{Watched, watched_step}
use Rattle.cw_run86.specs.Views.{View, put_word, with_number, word_difference, difference_overflows, double_overflows}
use Rattle.cw_rows86.specs.Acts.{Count}
use Rattle.cw_word.specs.FixedPoint.{FitsWord}
use Rattle.cw_word.specs.Word.{unsigned}
use Rattle.cw_unit.specs.declared.unit.Goal.{Goal}
use Rattle.cw_unit.specs.declared.unit.Goal.TheVariants as goal
use Rattle.cw_unit.specs.Stop.{SwitchRange, Stopped}
use Rattle.cw_unit.specs.Words.{Operand, Word, Held, Words}
use Rattle.cw_order.specs.OrderProgram.{OrderProgram}
use Rattle.cw_order.specs.OrderState.{OrderActivation}
use Rattle.cw_order.specs.OrderChanges.{way_of_one, to_mark_in, mark_of_number, Way}
use Rattle.cw_order.specs.FittingWords.{OperandFits}
use Rattle.cw_order.specs.Activations.{segment_below}
use Rattle.cw_tmpl.specs.Mnemonics.{entry_of_table}
use Rattle.cw_tmpl.specs.Pieces.{Filling}
use Rattle.cw_tmpl.specs.Names.{Names, mark_place, label_start}
use Rattle.cw_tmpl.specs.Templates.{mark_words, goal_words}
use Rattle.cw_tmpl.specs.Library.{stop_place}
use Rattle.cw_routines.specs.Results.{Stands}
use Rattle.cw_follow.proofs.Standing.{HasPieces, Has, HasAll, HasWord, Image}
use Rattle.cw_follow.proofs.Rows.{Rows}
use Rattle.cw_follow.proofs.Chains.{Is, IsCompared, Leads, view, seen, to_place, call, near, compare_number, jump_below, pass_above, not_zero, jump_if, pass_if, through_table, more, compared_more, last}
use Rattle.cw_follow.proofs.Acting.{act}
use Rattle.cw_follow.proofs.Straight.{Move, Double, DifferenceNumber, straight}
use Rattle.cw_follow.proofs.Routines.{Over, with_ax, quiet_in, quiet_library, flags_of, arrives, lifted, over, leads_then}
use Rattle.cw_follow.proofs.Stacks.{level, record_of}
use Rattle.cw_follow.proofs.Orders.{Kept, kept_under, Landed, landed, Chooses, further}
use Rattle.cw_follow.proofs.Leaving.{kept_below, drops_operands}
use Rattle.cw_i86.specs.State.{sign_extended}

-- ---- numbers

-- a number counted from 1, as one counted from 0
pub from_zero : (n : ℕ) → suc n < 65536 → word_difference (unsigned (pos (suc n))) 1 ≡ n
from_zero n lt = omega (arith, ints)

pub none_is_far : word_difference (unsigned (pos zero)) 1 ≡ 65535
none_is_far = refl

pub less_is_far : (n : ℕ) → FitsWord (negsuc n) → 32767 ≤ word_difference (unsigned (negsuc n)) 1
less_is_far n fits = omega (arith, ints)

pub number_fits : (n : ℕ) → FitsWord (pos (suc n)) → suc n < 65536
number_fits n fits = omega (arith, ints)

some_left : (n : ℕ) → 0 < n → (n == 0) ≡ false
some_left n lt = grind (arith, nat_tests)

-- the only entry of a list of one
only : (m k x : ℕ) → slice_get (m ∷ []) k ≡ Some x → (k ≡ 0) × (x ≡ m)
only m zero x is = (refl, cc)
only m (suc k) x is = absurd (cc)

pub not_within : {A : Type 0} (xs : List A) (k : ℕ) → slice_get xs k ≡ None → length xs ≤ k
not_within [] k e = omega arith
not_within (x ∷ xs) zero e = absurd (cc)
not_within (x ∷ xs) (suc k) e = omega (arith, not_within xs k e)

-- ---- tables

word_anywhere : (image : Image) (m n v w : ℕ) → m ≡ n → v ≡ w → HasWord image m v → HasWord image n w
word_anywhere image m n v w e f h = subst (λ x. HasWord image x w) e (subst (λ x. HasWord image m x) f h)

-- the word of an entry of a table, whose code stands at its place
table_word : {A : Type 0} (image : Image) (value : A → ℕ → ℕ) (Stand : ℕ → List A → Type 0) → ((at : ℕ) (x : A) (xs : List A) → Stand at (x ∷ xs) → HasWord image at (value x (at + 2)) × Stand (at + 2) xs)
    → (at : ℕ) (xs : List A) (k : ℕ) (x : A) → Stand at xs → slice_get xs k ≡ Some x → HasWord image (at + 2 * k) (value x (at + 2 * k + 2))
table_word image value Stand first at [] k x h is = absurd (cc)
table_word image value Stand first at (y ∷ xs) zero x h is =
    let same : y ≡ x = cc in
    let e : at ≡ at + 2 * 0 = omega arith in
    let f : at + 2 ≡ at + 2 * 0 + 2 = omega arith in
    word_anywhere image at (at + 2 * 0) (value y (at + 2)) (value x (at + 2 * 0 + 2)) e (ap (λ z. value z (at + 2)) same ∙ ap (value x) f) (first at y xs h).0
table_word image value Stand first at (y ∷ xs) (suc k) x h is =
    let w = table_word image value Stand first (at + 2) xs k x (first at y xs h).1 is in
    let e : at + 2 + 2 * k ≡ at + 2 * suc k = omega arith in
    let f : at + 2 + 2 * k + 2 ≡ at + 2 * suc k + 2 = omega arith in
    word_anywhere image (at + 2 + 2 * k) (at + 2 * suc k) (value x (at + 2 + 2 * k + 2)) (value x (at + 2 * suc k + 2)) e (ap (value x) f) w

pub mark_word_is : (image : Image) (value : Filling) (names : Names) (at : ℕ) (ms : List ℕ) (k m : ℕ) → HasPieces image value at (mark_words names ms) → slice_get ms k ≡ Some m
    → HasWord image (at + 2 * k) (value 3 0 (mark_place names m % 65536) (at + 2 * k + 2))
mark_word_is image value names = table_word image (λ m after. value 3 0 (mark_place names m % 65536) after) (λ at ms. HasPieces image value at (mark_words names ms)) (λ at x xs h. (h.0, h.1))

-- the word of a goal
abbrev pub goal_value : Filling → Names → Goal → ℕ → ℕ
goal_value value names (goal.Own l) after = value 3 0 (label_start names l % 65536) after
goal_value value names (goal.Common d) after = value 4 d 0 after

pub goal_word_is : (image : Image) (value : Filling) (names : Names) (at : ℕ) (gs : List Goal) (k : ℕ) (x : Goal) → HasPieces image value at (goal_words names gs) → slice_get gs k ≡ Some x
    → HasWord image (at + 2 * k) (goal_value value names x (at + 2 * k + 2))
goal_word_is image value names = table_word image (goal_value value names) (λ at gs. HasPieces image value at (goal_words names gs)) first
  where
    first : (at : ℕ) (x : Goal) (xs : List Goal) → HasPieces image value at (goal_words names (x ∷ xs)) → HasWord image at (goal_value value names x (at + 2)) × HasPieces image value (at + 2) (goal_words names xs)
    first at (goal.Own l) xs h = (h.0, h.1)
    first at (goal.Common d) xs h = (h.0, h.1)

-- the entry of a table that a number leads to
pub record Entry (at n k table : ℕ) (z : ℤ) : Type 0 where
  pub low : word_difference (unsigned z) 1 < n
  pub small : word_difference (unsigned z) 1 < 32768
  pub there : (2 * word_difference (unsigned z) 1 + table) % 65536 ≡ at + 20 + 2 * k

pub table_entry : (image : Image) (at n k table to : ℕ) (z : ℤ) → z ≡ pos (suc k) → k < n → n < 32768 → table ≡ (at + 20) % 65536 → HasWord image (at + 20 + 2 * k) (to % 65536) → length image.bytes ≤ 65536 → Entry at n k table z
table_entry image at n k table to z is_z lt short table_is word fits =
    let is : word_difference (unsigned z) 1 ≡ k = ap (λ x. word_difference (unsigned x) 1) is_z ∙ from_zero k (omega arith) in
    let within = word.within in
    record { low = omega arith; small = omega arith; there = omega arith }

module _ (rows : Rows) (prog : OrderProgram) (image : Image) where
  -- ---- the number

  -- a number in AX, counted from 1, is compared as one counted from 0
  compares : {q : Watched} {at cx dx bx sp bp si di : ℕ} {overflow : Bool} {cells stack : ℕ → ℕ} {left : List ℕ} {told : Told} {output : List ℕ} (u n : ℕ) → told.output ≡ output
      → HasAll image at (with_number 5 1 ∷ i86.Mov true true 3 (rms.Reg 0) ∷ with_number 7 n ∷ []) → Is image at (view u cx dx bx sp bp si di overflow cells stack left told) q
      → Leads output 3 q (IsCompared image (at + 3 + 2 + 3) (view (word_difference u 1) cx dx (word_difference u 1) sp bp si di (difference_overflows (word_difference u 1) n) cells stack left told) (word_difference u 1) n)
  compares {q} {at} u n wrote i s =
      straight rows (DifferenceNumber 1 ∷ Move 3 0 ∷ []) {n = 1} wrote (i.0, (i.1.0, tt)) (tt, (tt, tt)) s (λ q t.
      last rows t wrote (compare_number rows n i.1.1.0 t))

  -- the number on top is that of a mark, or there is no mark for it; where no number is on top nothing is asked
  pub marked : {q : Watched} {at : ℕ} (g : ℕ) (acts : List OrderActivation) (limit to : ℕ) (start : ℕ → ℕ) (line : ℕ) (marks : List ℕ) (f : Option ℕ → Words → Way) (operands : List Operand) (memory : List ℤ) (input output : List ℕ) → length marks < 32768
      → All OperandFits operands → Landed prog image at g true acts (record { operands = operands; memory = memory; input = input; output = output }) q
      → ((k m : ℕ) (rest : List Operand) → slice_get marks k ≡ Some m → Landed prog image at g true acts (record { operands = Word (pos (suc k)) ∷ rest; memory = memory; input = input; output = output }) q
      → Chooses prog image limit to start g false line acts output q (f (Some m) (record { operands = rest; memory = memory; input = input; output = output })))
      → ((z : ℤ) (rest : List Operand) → operands ≡ Word z ∷ rest → length marks ≤ word_difference (unsigned z) 1 → Landed prog image at g true acts (record { operands = Word z ∷ rest; memory = memory; input = input; output = output }) q
      → Chooses prog image limit to start g false line acts output q (f None (record { operands = rest; memory = memory; input = input; output = output })))
      → Chooses prog image limit to start g false line acts output q (way_of_one (λ i v. f (mark_of_number marks i) v) operands (record { operands = operands; memory = memory; input = input; output = output }))
  marked g acts limit to start line marks f [] memory input output short fits l some none = tt
  marked g acts limit to start line marks f (Held c ∷ rest) memory input output short fits l some none = tt
  marked g acts limit to start line marks f (Word (pos zero) ∷ rest) memory input output short fits l some none = none (pos 0) rest refl (let e = none_is_far in omega arith) l
  marked g acts limit to start line marks f (Word (negsuc n) ∷ rest) memory input output short fits l some none =
      let far = less_is_far n (All-head OperandFits (Word (negsuc n)) rest fits) in
      none (negsuc n) rest refl (omega arith) l
  marked {q} g acts limit to start line marks f (Word (pos (suc k)) ∷ rest) memory input output short fits l some none = cases (slice_get marks k) refl
    where
      cases : (m : Option ℕ) → slice_get marks k ≡ m → Chooses prog image limit to start g false line acts output q (f m (record { operands = rest; memory = memory; input = input; output = output }))
      cases (Some m) is = some k m rest is l
      cases None is =
          let e = from_zero k (number_fits k (All-head OperandFits (Word (pos (suc k))) rest fits)) in
          let long = not_within marks k is in
          none (pos (suc k)) rest refl (omega arith) l

  -- ---- the way of a loop

  -- the code before the table: a number in AX is compared, and its way is that of the table's word, or past the table
  abbrev pub LoopCode : (at n by table : ℕ) → Type 0
  LoopCode at n by table =
      HasAll image at (with_number 5 1 ∷ i86.Mov true true 3 (rms.Reg 0) ∷ with_number 7 n ∷ i86.JumpIf 2 3 ∷ i86.Jump by ∷ i86.Shift 4 true false (rms.Reg 3) ∷ i86.JumpRm (entry_of_table table) ∷ [])

  module _ {q : Watched} {at : ℕ} (g : ℕ) (acts : List OrderActivation) (n by table : ℕ) (i : LoopCode at n by table) (z : ℤ) (rest : List Operand) (memory : List ℤ) (input output : List ℕ)
      (l : Landed prog image at g true acts (record { operands = Word z ∷ rest; memory = memory; input = input; output = output }) q) where
    abbrev v : ℕ
    v = word_difference (unsigned z) 1

    -- behind the comparison
    abbrev seen_with : (bx : ℕ) → (overflow : Bool) → View
    seen_with bx overflow = view v l.stacked.cx l.stacked.dx bx (2 * l.top) (record_of acts) l.stacked.si prog.limits.area overflow l.cells l.stack l.input l.told

    compared : Leads output 3 q (IsCompared image (at + 3 + 2 + 3) (seen_with v (difference_overflows v n)) v n)
    compared = compares (unsigned z) n l.kept.wrote (i.0, (i.1.0, (i.1.1.0, tt))) (with_ax l.operands.0 l.stacked.is)

    -- a number that has a mark
    loop_to : (to k : ℕ) → z ≡ pos (suc k) → k < n → n < 32768 → table ≡ (at + 20) % 65536 → HasWord image (at + 20 + 2 * k) (to % 65536)
        → Leads output 6 q (Landed prog image to g false acts (record { operands = rest; memory = memory; input = input; output = output }))
    loop_to to k is_z lt short table_is word =
        let e = table_entry image at n k table to z is_z lt short table_is word l.stacked.is.sees.fits in
        leads_then {n = 3} {m = 3} compared (λ r c.
        compared_more rows {Between = Is image (at + 3 + 2 + 3 + 2 + 3) (seen_with v (difference_overflows v n))} c.is l.kept.wrote (jump_below rows 3 e.low i.1.1.1.0 c) (λ r t.
        straight rows (Double 3 ∷ []) {n = 1} l.kept.wrote (i.1.1.1.1.1.0, tt) (e.small, tt) t (λ r t.
        last rows t l.kept.wrote
        (landed rows prog image g acts false to l.top rest memory input output refl l.operands.1 l.kept (through_table rows table (at + 20 + 2 * k) to e.there word.within word.is i.1.1.1.1.1.1.0 t)))))

    -- and one that has none
    loop_past : (to : ℕ) → n ≤ v → (at + 13 + by) % 65536 ≡ to % 65536
        → Leads output 5 q (Landed prog image to g false acts (record { operands = rest; memory = memory; input = input; output = output }))
    loop_past to le arrives =
        let there : (at + 3 + 2 + 3 + 2 + 3 + by) % 65536 ≡ to % 65536 = omega arith in
        leads_then {n = 3} {m = 2} compared (λ r c.
        compared_more rows {Between = Is image (at + 3 + 2 + 3 + 2) (seen_with v (difference_overflows v n))} c.is l.kept.wrote (pass_above rows 3 le i.1.1.1.0 c) (λ r t.
        last rows t l.kept.wrote (landed rows prog image g acts false to l.top rest memory input output refl l.operands.1 l.kept (to_place there (near rows by i.1.1.1.1.0 t)))))

  pub loops : {q : Watched} {at : ℕ} (g : ℕ) (acts : List OrderActivation) (to by table : ℕ) (start : ℕ → ℕ) (marks : List ℕ) (operands : List Operand) (memory : List ℤ) (input output : List ℕ)
      → length marks < 32768 → table ≡ (at + 20) % 65536 → (at + 13 + by) % 65536 ≡ to % 65536
      → ((k m : ℕ) → slice_get marks k ≡ Some m → HasWord image (at + 20 + 2 * k) (start m % 65536)) → All OperandFits operands → LoopCode at (length marks) by table
      → Landed prog image at g true acts (record { operands = operands; memory = memory; input = input; output = output }) q
      → Chooses prog image 6 to start g false 0 acts output q (way_of_one (λ i v. to_mark_in (mark_of_number marks i) v) operands (record { operands = operands; memory = memory; input = input; output = output }))
  loops g acts to by table start marks operands memory input output short table_is arrives words fits i l =
      marked g acts 6 to start 0 marks to_mark_in operands memory input output short fits l
      (λ k m rest is l. further 6 (lit≤ tt) (lit< tt) (loop_to g acts (length marks) by table i (pos (suc k)) rest memory input output l (start m) k refl (slice_get_within marks k m is) short table_is (words k m is)))
      (λ z rest same far l. further 5 (lit≤ tt) (lit< tt) (loop_past g acts (length marks) by table i z rest memory input output l to far arrives))

  -- ---- the way of a loop of one element

  -- the number in AX is counted down: where nothing is left the way is that of the one mark
  module _ {q : Watched} {at : ℕ} (g : ℕ) (acts : List OrderActivation) (i : Has image at (i86.Dec 0)) (z : ℤ) (rest : List Operand) (memory : List ℤ) (input output : List ℕ)
      (l : Landed prog image at g true acts (record { operands = Word z ∷ rest; memory = memory; input = input; output = output }) q) where
    abbrev counted : View
    counted =
        view (word_difference (unsigned z) 1) l.stacked.cx l.stacked.dx l.stacked.bx (2 * l.top) (record_of acts) l.stacked.si prog.limits.area (difference_overflows (unsigned z) 1) l.cells l.stack l.input l.told

    -- whether nothing is left
    abbrev Counted : Bool → Watched → Type 0
    Counted b r = Is image (at + 1) counted r × (holds r.processor.state.flags 4 ≡ b)

    counts : (b : Bool) → (word_difference (unsigned z) 1 == 0) ≡ b → Counted b (watched_step q)
    counts b is =
        let a = act rows (Count true 0) (lit< tt) i tt (with_ax l.operands.0 l.stacked.is) in
        (a.is, ap (λ f. holds f 4) a.flags ∙ (rows.counted_zero true (unsigned z) q.processor.state.flags ∙ is))

    abbrev Leaves : (n to : ℕ) → Type 0
    Leaves n to = Leads output n q (Landed prog image to g false acts (record { operands = rest; memory = memory; input = input; output = output }))

    -- by a jump behind one that goes past it
    one_to : (by to : ℕ) → HasAll image (at + 1) (i86.JumpIf 5 3 ∷ i86.Jump by ∷ []) → (word_difference (unsigned z) 1 == 0) ≡ true → (at + 6 + by) % 65536 ≡ to % 65536 → Leaves 3 to
    one_to by to h is arrives =
        let there : (at + 1 + 2 + 3 + by) % 65536 ≡ to % 65536 = omega arith in
        compared_more rows {Between = Counted true} l.stacked.is l.kept.wrote (counts true is) (λ r t.
        more rows {to = at + 1 + 2} {w = counted} t.0 l.kept.wrote (pass_if rows 5 3 (not_zero r.processor.state.flags ∙ ap not t.1) h.0 t.0) (λ r u.
        last rows u l.kept.wrote (landed rows prog image g acts false to l.top rest memory input output refl l.operands.1 l.kept (to_place there (near rows by h.1.0 u)))))

    one_past : (by to : ℕ) → HasAll image (at + 1) (i86.JumpIf 5 3 ∷ i86.Jump by ∷ []) → (word_difference (unsigned z) 1 == 0) ≡ false → at + 6 ≡ to → Leaves 2 to
    one_past by to h is e =
        let ends : at + 1 + 2 + 3 ≡ to = omega arith in
        compared_more rows {Between = Counted false} l.stacked.is l.kept.wrote (counts false is) (λ r t.
        last rows t.0 l.kept.wrote (landed rows prog image g acts false to l.top rest memory input output ends l.operands.1 l.kept (jump_if rows 5 3 (not_zero r.processor.state.flags ∙ ap not t.1) h.0 t.0)))

    -- by a short jump
    short_to : (by to : ℕ) → HasAll image (at + 1) (i86.JumpIf 4 by ∷ []) → (word_difference (unsigned z) 1 == 0) ≡ true → (at + 3 + sign_extended by) % 65536 ≡ to % 65536 → Leaves 2 to
    short_to by to h is arrives =
        let there : (at + 1 + 2 + sign_extended by) % 65536 ≡ to % 65536 = omega arith in
        compared_more rows {Between = Counted true} l.stacked.is l.kept.wrote (counts true is) (λ r t.
        last rows t.0 l.kept.wrote (landed rows prog image g acts false to l.top rest memory input output refl l.operands.1 l.kept (to_place there (jump_if rows 4 by t.1 h.0 t.0))))

    short_past : (by to : ℕ) → HasAll image (at + 1) (i86.JumpIf 4 by ∷ []) → (word_difference (unsigned z) 1 == 0) ≡ false → at + 3 ≡ to → Leaves 2 to
    short_past by to h is e =
        let ends : at + 1 + 2 ≡ to = omega arith in
        compared_more rows {Between = Counted false} l.stacked.is l.kept.wrote (counts false is) (λ r t.
        last rows t.0 l.kept.wrote (landed rows prog image g acts false to l.top rest memory input output ends l.operands.1 l.kept (pass_if rows 4 by t.1 h.0 t.0)))

  -- a loop of one element, by where its code leaves for when nothing is left of the number, and when something is
  loops_one : {q : Watched} {at : ℕ} (g : ℕ) (acts : List OrderActivation) (i : Has image at (i86.Dec 0)) (n to : ℕ) (start : ℕ → ℕ) (m : ℕ) (operands : List Operand) (memory : List ℤ) (input output : List ℕ)
      → n ≤ 3 → 0 < n
      → ((z : ℤ) (rest : List Operand) (l : Landed prog image at g true acts (record { operands = Word z ∷ rest; memory = memory; input = input; output = output }) q) (next : ℕ)
      → start m % 65536 ≡ next % 65536 → (word_difference (unsigned z) 1 == 0) ≡ true → Leaves g acts i z rest memory input output l n next)
      → ((z : ℤ) (rest : List Operand) (l : Landed prog image at g true acts (record { operands = Word z ∷ rest; memory = memory; input = input; output = output }) q)
      → (word_difference (unsigned z) 1 == 0) ≡ false → Leaves g acts i z rest memory input output l 2 to)
      → All OperandFits operands → Landed prog image at g true acts (record { operands = operands; memory = memory; input = input; output = output }) q
      → Chooses prog image 3 to start g false 0 acts output q (way_of_one (λ i v. to_mark_in (mark_of_number (m ∷ []) i) v) operands (record { operands = operands; memory = memory; input = input; output = output }))
  loops_one g acts i n to start m operands memory input output few some there past fits l =
      marked g acts 3 to start 0 (m ∷ []) to_mark_in operands memory input output (lit< tt) fits l
      (λ k x rest is l.
      let o = only m k x is in
      further n few some (there (pos (suc k)) rest l (start x) (ap (λ y. start y % 65536) (sym o.1)) (ap (λ j. word_difference (unsigned (pos (suc j))) 1 == 0) o.0)))
      (λ z rest same far l. further 2 (lit≤ tt) (lit< tt) (past z rest l (some_left _ (omega arith))))

  -- what one does, by the bytes of its code, the distance behind them to its mark, and the code
  abbrev LoopsOne : Watched → (at size by : ℕ) → List Instr → Type 0
  LoopsOne q at size by code = (g : ℕ) (acts : List OrderActivation) (to : ℕ) (start : ℕ → ℕ) (m : ℕ) (operands : List Operand) (memory : List ℤ) (input output : List ℕ)
      → at + size ≡ to → (at + size + by) % 65536 ≡ start m % 65536 → All OperandFits operands → HasAll image at code
      → Landed prog image at g true acts (record { operands = operands; memory = memory; input = input; output = output }) q
      → Chooses prog image 3 to start g false 0 acts output q (way_of_one (λ i v. to_mark_in (mark_of_number (m ∷ []) i) v) operands (record { operands = operands; memory = memory; input = input; output = output }))

  pub loops_once : {q : Watched} {at : ℕ} (by : ℕ) → LoopsOne q at 6 by (i86.Dec 0 ∷ i86.JumpIf 5 3 ∷ i86.Jump by ∷ [])
  loops_once by g acts to start m operands memory input output e arrives fits i l =
      loops_one g acts i.0 3 to start m operands memory input output (lit≤ tt) (lit< tt)
      (λ z rest l next same is. one_to g acts i.0 z rest memory input output l by next i.1 is (arrives ∙ same))
      (λ z rest l is. one_past g acts i.0 z rest memory input output l by to i.1 is e) fits l

  pub loops_close : {q : Watched} {at : ℕ} (by : ℕ) → LoopsOne q at 3 (sign_extended by) (i86.Dec 0 ∷ i86.JumpIf 4 by ∷ [])
  loops_close by g acts to start m operands memory input output e arrives fits i l =
      loops_one g acts i.0 2 to start m operands memory input output (lit≤ tt) (lit< tt)
      (λ z rest l next same is. short_to g acts i.0 z rest memory input output l by next i.1 is (arrives ∙ same))
      (λ z rest l is. short_past g acts i.0 z rest memory input output l by to i.1 is e) fits l

  -- ---- switches

  -- the routine of a switch, with the index in AX, the line in DX and the record of the owner in SI
  module _ {q : Watched} {at cx bx si : ℕ} {overflow : Bool} {cells stack : ℕ → ℕ} {left : List ℕ} {told : Told} (top g line : ℕ) (acts : List OrderActivation) (n table by : ℕ) (z : ℤ) (memory : List ℤ) (input output : List ℕ)
      (kept : Kept prog g acts memory input output cells stack left told)
      (i : HasAll image at (with_number 5 1 ∷ i86.Mov true true 3 (rms.Reg 0) ∷ with_number 7 n ∷ i86.JumpIf 2 3 ∷ i86.Call by ∷ i86.Shift 4 true false (rms.Reg 3) ∷ i86.Mov true true 5 (rms.Reg 6)
      ∷ i86.Mov true true 4 (rms.Reg 5) ∷ i86.MovImm 0 (imm.Word 8) ∷ i86.AluRm 5 true true 4 (rms.Reg 0) ∷ i86.JumpRm (entry_of_table table) ∷ []))
      (s : Is image at (view (unsigned z) cx line bx (2 * top) (record_of acts) si prog.limits.area overflow cells stack left told) q) where
    -- an index that the switch has
    pub switches_to : (k m to : ℕ) → z ≡ pos (suc k) → k < n → n < 32768 → table ≡ (at + 29) % 65536 → HasWord image (at + 29 + 2 * k) (to % 65536) → si ≡ record_of (drop m acts)
        → Leads output 10 q (Landed prog image to (segment_below m g acts) false (drop m acts) (record { operands = []; memory = memory; input = input; output = output }))
    switches_to k m to is_z lt short table_is word owner =
        let v = word_difference (unsigned z) 1 in
        let v_is : v ≡ k = ap (λ x. word_difference (unsigned x) 1) is_z ∙ from_zero k (omega arith) in
        let low : v < n = omega arith in
        let small : v < 32768 = omega arith in
        let within = word.within in
        let fits = s.sees.fits in
        let entry : (2 * v + table) % 65536 ≡ at + 29 + 2 * k = omega arith in
        let here = drop m acts in
        let area = prog.limits.area in
        let o = double_overflows v in
        let d = i.1.1.1.1.1.1.1 in
        leads_then {n = 3} {m = 7} (compares (unsigned z) n kept.wrote (i.0, (i.1.0, (i.1.1.0, tt))) s) (λ r c.
        compared_more rows {Between = Is image (at + 3 + 2 + 3 + 2 + 3) (view v cx line v (2 * top) (record_of acts) si area (difference_overflows v n) cells stack left told)} c.is kept.wrote (jump_below rows 3 low i.1.1.1.0 c) (λ r t.
        straight rows (Double 3 ∷ Move 5 6 ∷ []) {n = 4} kept.wrote (i.1.1.1.1.1.0, (i.1.1.1.1.1.1.0, tt)) (small, (tt, tt)) t (λ r t.
        leads_then {n = 3} {m = 1} (drops_operands rows prog image here kept.wrote (d.0, (d.1.0, (d.1.1.0, tt))) (seen refl (ap (λ x. view v cx line (2 * v) (2 * top) x si area o cells stack left told) owner) t)) (λ r t.
        let there = seen {to = at + 3 + 2 + 3 + 2 + 3 + 2 + 2 + 2 + 3 + 2} (let e : at + 3 + 2 + 3 + 2 + 3 + 2 + 2 + 7 ≡ at + 3 + 2 + 3 + 2 + 3 + 2 + 2 + 2 + 3 + 2 = omega arith in e) refl t in
        last rows there kept.wrote (landed rows prog image (segment_below m g acts) here false to (level here) [] memory input output refl refl (kept_below m kept)
        (through_table rows table (at + 29 + 2 * k) to entry within word.is d.1.1.1.0 there))))))

    -- one that it has not: the way back that the call leaves on the stack is of no use
    pub switches_stop : (m : ℕ) → n ≤ word_difference (unsigned z) 1 → Stands image.bytes → line < 65536 → (at + 10 + 3 + by) % 65536 ≡ stop_place SwitchRange % 65536 → top ≡ suc m → top ≤ level acts
        → Leads output 15 q (Over (record { output = output; end = Stopped SwitchRange (g + 1) line }))
    switches_stop m le library small arrives_at top_is low =
        let v = word_difference (unsigned z) 1 in
        let o = difference_overflows v n in
        let area = prog.limits.area in
        let bp = record_of acts in
        let few = kept.piled.0.few in
        let fits : m < 32768 = omega arith in
        let under : m < level acts = omega arith in
        let sp : 2 * top ≡ 2 * suc m % 65536 = omega arith in
        let back = (at + 3 + 2 + 3 + 2 + 3) % 65536 in
        let pushed : ℕ → ℕ = put_word stack m back in
        let there : (at + 3 + 2 + 3 + 2 + 3 + by) % 65536 ≡ stop_place SwitchRange % 65536 = omega arith in
        let wrote : told.output ≡ output = kept.wrote in
        leads_then {n = 3} {m = 12} (compares (unsigned z) n wrote (i.0, (i.1.0, (i.1.1.0, tt))) s) (λ r c.
        compared_more rows {Between = Is image (at + 3 + 2 + 3 + 2) (view v cx line v (2 * top) bp si area o cells stack left told)} c.is wrote (pass_above rows 3 le i.1.1.1.0 c) (λ r t.
        more rows {to = stop_place SwitchRange} {w = view v cx line v (2 * m) bp si area o cells pushed left told} t wrote (to_place there (call rows by m back fits sp refl i.1.1.1.1.0 t)) (λ r t.
        subst (λ x. Leads x 10 r (Over (record { output = x; end = Stopped SwitchRange (g + 1) line }))) wrote
        (lifted rows t.overlooks t.silent
        (rows.routines.switch (quiet_in r.places) image.bytes library (quiet_library t.ignores) line (level acts + 3) (g + 1) v cx v (2 * m) bp si area (flags_of r) cells pushed left told r.processor small
        (record { there = (let e : (bp + 65534) % 65536 ≡ 2 * (level acts + 3) = omega arith in e); low = omega arith; number = (kept_under m back under kept).piled.0.number_is; few = omega arith }) (arrives t)) (λ p u. over r u)))))
