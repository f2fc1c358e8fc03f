-- What the orders on the control variable of a loop do, by the routines of the library.
use Rattle.std.proofs.Common.{◌∙◌, ◌≡◌, ℕ, zero, suc, ◌+◌, ◌-◌, ◌*◌, ◌%◌, ◌<◌, ◌≤◌, Bool, true, false, ℤ, pos, negsuc, ◌+ℤ◌, List, [], ◌∷◌, set, refl, sym, subst, arith, lit≤}
use Rattle.std.specs.List.{All}
use Rattle.std.specs.Prelude.{nat_lt}
use Rattle.std.proofs.lemmas.List.Elements.{All-head, All-tail}
use borrow.Author.Tests.{ltb-true}
use Rattle.cw_i86.specs.declared.instr.Instr.TheVariants as i86
use Rattle.cw_run86.specs.Processor.{Processor, Told}
use Rattle.cw_run86.specs.Views.{put_word}
use Rattle.cw_word.specs.FixedPoint.{FitsWord, fits_word}
use Rattle.cw_word.specs.Word.{unsigned}
use Rattle.cw_unit.specs.Stop.{AddressRange, Stopped}
use Rattle.cw_unit.specs.Words.{Operand, Word, Held, Words, Outcome, Changed, Refused, Impossible, with_memory, put, through, is_below, number_of, word_at}
use Rattle.cw_unit.specs.Operation.{SetVariable, AddStep, store_sum, perform}
use Rattle.cw_order.specs.FittingWords.{OperandFits}
use Rattle.cw_order.specs.OrderChanges.{if_inside, set_variable, add_step, put_variable}
use Rattle.cw_order.specs.OrderState.{operand_words}
use Rattle.cw_tmpl.specs.Mnemonics.{dx, set_word}
use Rattle.cw_tmpl.specs.Library.{set_variable_place, add_step_place, put_variable_place}
use Rattle.cw_routines.specs.Ways.{Within}
use Rattle.cw_routines.specs.Results.{Quiet, Holds, Ends, Fetched, Fetches}
use Rattle.cw_routines.proofs.Facts.{put_at, unsigned_pos}
use Rattle.cw_follow.proofs.Watched.{Watched, fresh}
use Rattle.cw_follow.proofs.Chains.{Is, Leads, view, to_place, call, last}
use Rattle.cw_follow.proofs.Straight.{Number, straight}
use Rattle.cw_follow.proofs.Routines.{Over, with_ax, quiet_in, quiet_library, flags_of, arrives, returned, lifted, over, joined, Around}
use Rattle.cw_follow.proofs.Stacks.{level, record_of, StackIs, top_is, same_put, stack_same}
use Rattle.cw_follow.proofs.Orders.{Kept, kept_same, kept_under, Landed, Leading, landed}
use Rattle.cw_follow.proofs.Operands.{Setting, words, LandedWith, DoesHere, tells}
use Rattle.cw_follow.proofs.Standing.{Has, HasAll}

module _ (c : Setting) (memory : List ℤ) (input output : List ℕ) where
  -- ---- routines

  -- the data segment holds the words of the area
  pub holds : {cells stack : ℕ → ℕ} {left : List ℕ} {told : Told} → All FitsWord memory → Kept c.program c.g c.acts memory input output cells stack left told → Holds c.program.limits.area memory cells
  holds all k = record { low = c.low; long = k.long; fit = all; words = k.words }

  -- before a routine: these words are in AX and BX, the line in DX where one is wanted, and the way back on the stack, above it the other
  -- operands
  pub record AtRoutine (place back line ax bx : ℕ) (rest : List Operand) (q : Watched) : Type 0 where
    pub cx : ℕ
    pub si : ℕ
    pub around : Around
    pub open around use *
    pub low : top < level c.acts
    pub is : Is c.image place (view ax cx line bx (2 * top) (record_of c.acts) si c.program.limits.area overflow cells stack left told) q
    pub way : stack top ≡ back
    pub under : StackIs c.program c.acts stack (suc top) rest
    pub kept : Kept c.program c.g c.acts memory input output cells stack left told

  pub reaches : {p : Watched} {at ax cx line bx si : ℕ} {overflow : Bool} {cells stack : ℕ → ℕ} {left : List ℕ} {told : Told} (place by back : ℕ) (rest : List Operand) (top : ℕ)
      → operand_words rest < level c.acts → (at + 3 + by) % 65536 ≡ place % 65536 → (at + 3) % 65536 ≡ back → Has c.image at (i86.Call by)
      → StackIs c.program c.acts stack top rest → Kept c.program c.g c.acts memory input output cells stack left told
      → Is c.image at (view ax cx line bx (2 * top) (record_of c.acts) si c.program.limits.area overflow cells stack left told) p
      → Leads output 1 p (AtRoutine place back line ax bx rest)
  reaches {stack = stack} place by back rest zero room there behind i under kept s = let t = top_is c.program c.acts stack zero rest under in absurd (omega arith)
  reaches {p} {at} {ax} {cx} {line} {bx} {si} {overflow} {cells} {stack} {left} {told} place by back rest (suc n) room there behind i under kept s =
      let t = top_is c.program c.acts stack (suc n) rest under in
      let low : n < level c.acts = omega arith in
      let lt : n < 32768 = omega arith in
      let up : 2 * suc n ≡ 2 * suc n % 65536 = omega arith in
      last c.rows s kept.wrote
      (record {
        cx = cx;
        si = si;
        around = record { overflow = overflow; top = n; cells = cells; stack = put_word stack n back; left = left; told = told };
        low = low;
        is = to_place there (call c.rows by n back lt up behind i s);
        way = put_at stack n back;
        under = stack_same c.program c.acts stack (put_word stack n back) (suc n) rest (same_put stack n back (suc n) (omega arith)) under;
        kept = kept_under n back low kept;
      })

  -- the code of a call with the line in DX
  abbrev pub LineCode : (at line by : ℕ) → Type 0
  LineCode at line by = HasAll c.image at (set_word dx line ∷ i86.Call by ∷ [])

  reaches_at_line : {p : Watched} {at : ℕ} (to place by line : ℕ) (a : ℤ) (rest : List Operand) → at + 6 ≡ to → (at + 3 + 3 + by) % 65536 ≡ place % 65536 → operand_words (Word a ∷ rest) < level c.acts
      → LineCode at line by
      → (l : LandedWith c memory input output at true (Word a ∷ rest) p) → Leads output 2 p (AtRoutine place (to % 65536) line (unsigned a) l.stacked.bx rest)
  reaches_at_line {p} {at} to place by line a rest e there room i l =
      let behind : (at + 3 + 3) % 65536 ≡ to % 65536 = omega arith in
      straight c.rows (Number 2 line ∷ []) {n = 1} l.kept.wrote (i.0, tt) (tt, tt) (with_ax l.operands.0 l.stacked.is) (λ q t.
      reaches place by (to % 65536) rest l.top (omega arith) there behind i.1.0 l.operands.1 l.kept t)

  -- so many instructions to a routine, what it does from there on, and what that means for the processor that is watched
  pub runs : {p : Watched} {place back line ax bx : ℕ} {rest : List Operand} {V : Watched → Type 0} {U : (q : Watched) → AtRoutine place back line ax bx rest q → Processor → Type 0} (n limit bound : ℕ) → suc n + limit ≤ bound
      → Leads output (suc n) p (AtRoutine place back line ax bx rest)
      → ((q : Watched) (r : AtRoutine place back line ax bx rest q) → Within (Quiet (quiet_in q.places)) c.image.bytes r.told.output limit q.processor (U q r))
      → ((q : Watched) (r : AtRoutine place back line ax bx rest q) (u : Processor) → U q r u → V (fresh q.places q.area u)) → Leading output bound p V
  runs {V = V} n limit bound le l law means =
      let q = l.reached in
      let r = l.there in
      let t = law q r in
      let k = t.spent in
      let within = t.within in
      let behind : Leads output k q V = subst (λ x. Leads x k q V) r.kept.wrote (lifted c.rows r.is.overlooks r.is.silent t.leads (means q r)) in
      record { spent = suc n + k; some = omega arith; within = omega arith; leads = joined l behind }

  -- ---- what comes of it

  -- an outcome that changes memory alone
  abbrev pub Stores : List Operand → Outcome → Type 0
  Stores rest (Changed v) = v ≡ words rest v.memory input output
  Stores rest (Refused kind) = Unit {0}
  Stores rest Impossible = Unit {0}

  stores_through : (b : Bool) (f : ℕ → Words → Outcome) (z : ℤ) (rest : List Operand) → ((k : ℕ) → Stores rest (f k (words rest memory input output)))
      → Stores rest (through b f z (words rest memory input output))
  stores_through true f z rest each = each (number_of z)
  stores_through false f z rest each = tt

  stores_sum : (b : Bool) (k : ℕ) (z : ℤ) (rest : List Operand) → Stores rest (store_sum b k z (words rest memory input output))
  stores_sum true k z rest = refl
  stores_sum false k z rest = tt

  pub step_stores : (n : ℕ) (rest : List Operand) → Stores rest (perform c.program.limits.area (AddStep n) (words rest memory input output))
  step_stores n rest =
      let z = word_at memory n in
      let f : ℕ → Words → Outcome = λ k v. store_sum (fits_word (word_at v.memory k +ℤ word_at v.memory (n + 1))) k (word_at v.memory k +ℤ word_at v.memory (n + 1)) v in
      stores_through (is_below z c.program.limits.area) f z rest (λ k. stores_sum (fits_word (word_at memory k +ℤ word_at memory (n + 1))) k (word_at memory k +ℤ word_at memory (n + 1)) rest)

  -- what a routine leaves that changes memory, and comes back or stops at the line
  record Stored (to line limit : ℕ) (rest : List Operand) (o : Outcome) {place ax bx : ℕ} {operands : List Operand} {q : Watched} (r : AtRoutine place (to % 65536) line ax bx operands q) : Type 0 where
    top : ℕ
    under : StackIs c.program c.acts r.stack top rest
    law :
        Within (Quiet (quiet_in q.places)) c.image.bytes r.told.output limit q.processor
        (Ends c.image.bytes r.told.output c.program.limits.area (to % 65536) (2 * top) (record_of c.acts) (c.g + 1) line r.stack r.left r.told o)

  stored : {p : Watched} {place ax bx : ℕ} {operands : List Operand} (to line limit bound : ℕ) (rest : List Operand) (o : Outcome) → Stores rest o → 2 + limit ≤ bound
      → Leads output 2 p (AtRoutine place (to % 65536) line ax bx operands) → ((q : Watched) (r : AtRoutine place (to % 65536) line ax bx operands q) → Stored to line limit rest o r)
      → DoesHere c memory input output bound to false line p o
  stored to line limit bound rest (Changed v) keeps le l each =
      runs 1 limit bound le l (λ q r. (each q r).law) (λ q r u e.
      let t = each q r in
      let k = r.kept in
      subst (λ x. Landed c.program c.image to c.g false c.acts x (fresh q.places q.area u)) (sym keeps)
      (landed c.rows c.program c.image c.g c.acts false to t.top rest v.memory input output refl t.under
      (record { words = e.holds_words.words; long = e.holds_words.long; piled = k.piled; read = k.read; wrote = k.wrote; kind = k.kind })
      (to_place (let m : to % 65536 % 65536 ≡ to % 65536 = omega arith in m) (returned q r.is.ignores e.back.is))))
  stored to line limit bound rest (Refused kind) keeps le l each =
      runs 1 limit bound le l (λ q r. (each q r).law)
      (λ q r u e. subst (λ x. Over (record { output = x; end = Stopped kind (c.g + 1) line }) (fresh q.places q.area u)) r.kept.wrote (over q e))
  stored to line limit bound rest Impossible keeps le l each = tt

  -- where the loop's words are in the area
  at_loop : (p : Watched) (limit to most line : ℕ) (loaded : Bool) (f : ℕ → Outcome) (a : ℤ) → most ≤ 32768
      → ((n : ℕ) → n < most → unsigned a ≡ n → DoesHere c memory input output limit to loaded line p (f n))
      → DoesHere c memory input output limit to loaded line p (if_inside (is_below a most) (f (number_of a)))
  at_loop p limit to most line loaded f (negsuc n) low does = tt
  at_loop p limit to most line loaded f (pos n) low does = cases (nat_lt n most) refl
    where
      cases : (b : Bool) → nat_lt n most ≡ b → DoesHere c memory input output limit to loaded line p (if_inside b (f n))
      cases true is = let lt = ltb-true n most is in does n lt (unsigned_pos n (omega arith))
      cases false is = tt

  -- ---- the three orders

  pub sets_variable : {p : Watched} {at : ℕ} (to by line : ℕ) (operands : List Operand) → at + 6 ≡ to → (at + 3 + 3 + by) % 65536 ≡ set_variable_place % 65536 → line < 65536 → All FitsWord memory
      → operand_words operands < level c.acts → All OperandFits operands
      → LineCode at line by → LandedWith c memory input output at true operands p
      → DoesHere c memory input output 18 to false line p (set_variable c.program.limits.area (words operands memory input output))
  sets_variable to by line [] e there small all room fits i l = tt
  sets_variable to by line (Held d ∷ rest) e there small all room fits i l = tt
  sets_variable {p} {at} to by line (Word a ∷ operands) e there small all room fits i l =
      at_loop p 18 to c.program.limits.area line false (λ n. perform c.program.limits.area (SetVariable n) (words operands memory input output)) a c.low
      (λ n within same. sets n within same operands fits room l)
    where
      sets : (n : ℕ) → n < c.program.limits.area → unsigned a ≡ n → (operands : List Operand) → All OperandFits (Word a ∷ operands) → operand_words (Word a ∷ operands) < level c.acts
          → LandedWith c memory input output at true (Word a ∷ operands) p
          → DoesHere c memory input output 18 to false line p (perform c.program.limits.area (SetVariable n) (words operands memory input output))
      sets n within same [] fits room l = tt
      sets n within same (Held d ∷ rest) fits room l = tt
      sets n within same (Word x ∷ rest) fits room l =
          let fx : FitsWord x = All-head OperandFits (Word x) rest (All-tail OperandFits (Word a) (Word x ∷ rest) fits) in
          let z = word_at memory n in
          let f : ℕ → Words → Outcome = λ k v. Changed (with_memory v (set v.memory k x)) in
          stored to line 16 18 rest (perform c.program.limits.area (SetVariable n) (words (Word x ∷ rest) memory input output)) (stores_through (is_below z c.program.limits.area) f z rest (λ k. refl))
          (lit≤ tt)
          (reaches_at_line to set_variable_place by line a (Word x ∷ rest) e there room i l) (λ q r.
          let low = r.low in
          record {
            top = suc (suc r.top);
            under = r.under.1;
            law =
                c.rows.routines.set_variable (quiet_in q.places) c.image.bytes c.library (quiet_library r.is.ignores) c.program.limits.area n line (record_of c.acts) r.top (level c.acts + 3) (c.g + 1)
                (to % 65536) r.cx l.stacked.bx r.si x (flags_of q) r.cells r.stack r.left r.told
                (words rest memory input output) q.processor fx within (holds all r.kept) small (omega arith) r.way r.under.0 (omega arith) (tells c memory input output r.kept)
                (arrives (with_ax same r.is));
          })

  pub adds_step : {p : Watched} {at : ℕ} (to by line : ℕ) (operands : List Operand) → at + 6 ≡ to → (at + 3 + 3 + by) % 65536 ≡ add_step_place % 65536 → line < 65536 → All FitsWord memory
      → operand_words operands < level c.acts
      → LineCode at line by → LandedWith c memory input output at true operands p
      → DoesHere c memory input output 21 to false line p (add_step c.program.limits.area (words operands memory input output))
  adds_step {p} to by line (Word a ∷ rest) e there small all room i l =
      let area_low = c.low in
      at_loop p 21 to (c.program.limits.area - 1) line false (λ n. perform c.program.limits.area (AddStep n) (words rest memory input output)) a (omega arith) (λ n within same.
      stored to line 19 21 rest (perform c.program.limits.area (AddStep n) (words rest memory input output)) (step_stores n rest) (lit≤ tt)
      (reaches_at_line to add_step_place by line a rest e there room i l) (λ q r.
      let low = r.low in
      record {
        top = suc r.top;
        under = r.under;
        law =
            c.rows.routines.add_step (quiet_in q.places) c.image.bytes c.library (quiet_library r.is.ignores) c.program.limits.area n line (record_of c.acts) r.top (level c.acts + 3) (c.g + 1) (to % 65536)
            r.cx l.stacked.bx r.si (flags_of q) r.cells r.stack r.left r.told
            (words rest memory input output) q.processor (omega arith) (holds all r.kept) small (omega arith) r.way (omega arith) (tells c memory input output r.kept) (arrives (with_ax same r.is));
      }))
  adds_step to by line _ e there small all room i l = tt

  -- the value of the variable below the address of the loop
  abbrev variable_put : Bool → (a z : ℤ) → Words → Outcome
  variable_put b a z w = through b (λ k v. Changed (put a (put (word_at v.memory k) v))) z w

  pub puts_variable : {p : Watched} {at : ℕ} (to by line : ℕ) (operands : List Operand) → at + 6 ≡ to → (at + 3 + 3 + by) % 65536 ≡ put_variable_place % 65536 → line < 65536 → All FitsWord memory
      → operand_words operands < level c.acts
      → LineCode at line by → LandedWith c memory input output at true operands p
      → DoesHere c memory input output 18 to true line p (put_variable c.program.limits.area (words operands memory input output))
  puts_variable to by line [] e there small all room i l = tt
  puts_variable to by line (Held d ∷ rest) e there small all room i l = tt
  puts_variable {p} to by line (Word a ∷ rest) e there small all room i l =
      at_loop p 18 to c.program.limits.area line true (λ n. variable_put (is_below (word_at memory n) c.program.limits.area) a (word_at memory n) (words rest memory input output)) a c.low
      (λ n within same. puts n within same (is_below (word_at memory n) c.program.limits.area) refl)
    where
      area : ℕ
      area = c.program.limits.area

      At : Watched → Type 0
      At = AtRoutine put_variable_place (to % 65536) line (unsigned a) l.stacked.bx rest

      -- what it leaves where the address of the variable is of the area or not
      Left : (n : ℕ) → Bool → {q : Watched} → At q → Processor → Type 0
      Left n b r = Fetches r.told.output b (c.g + 1) line (Fetched c.image.bytes (to % 65536) r.top (record_of c.acts) n (unsigned (word_at memory (number_of (word_at memory n)))) area r.cells r.stack r.left r.told)

      law : (n : ℕ) → n < area → unsigned a ≡ n → (b : Bool) → is_below (word_at memory n) area ≡ b → (q : Watched) (r : At q)
          → Within (Quiet (quiet_in q.places)) c.image.bytes r.told.output 16 q.processor (Left n b r)
      law n within same b is q r =
          let low = r.low in
          subst (λ x. Within (Quiet (quiet_in q.places)) c.image.bytes r.told.output 16 q.processor (Left n x r)) is
          (c.rows.routines.put_variable (quiet_in q.places) c.image.bytes c.library (quiet_library r.is.ignores) area n line (record_of c.acts) r.top (level c.acts + 3) (c.g + 1) (to % 65536) r.cx l.stacked.bx r.si
          (flags_of q) r.cells r.stack r.left r.told
          memory q.processor within (holds all r.kept) small (omega arith) r.way (omega arith) (tells c memory input output r.kept) (arrives (with_ax same r.is)))

      puts : (n : ℕ) → n < area → unsigned a ≡ n → (b : Bool) → is_below (word_at memory n) area ≡ b
          → DoesHere c memory input output 18 to true line p (variable_put b a (word_at memory n) (words rest memory input output))
      puts n within same true is =
          runs 1 16 18 (lit≤ tt) (reaches_at_line to put_variable_place by line a rest e there room i l) (λ q r. law n within same true is q r) (λ q r u f.
          let low = r.low in
          let x = word_at memory (number_of (word_at memory n)) in
          landed c.rows c.program c.image c.g c.acts true to r.top (Word a ∷ Word x ∷ rest) memory input output refl
          (f.back.answers ∙ sym same, (f.word_is, stack_same c.program c.acts r.stack f.stack (suc r.top) rest (λ k le. f.above k (omega arith)) r.under))
          (kept_same f.stack (λ k le. f.above k (omega arith)) r.kept)
          (to_place (let m : to % 65536 % 65536 ≡ to % 65536 = omega arith in m) (returned q r.is.ignores f.back.is)))
      puts n within same false is =
          runs 1 16 18 (lit≤ tt) (reaches_at_line to put_variable_place by line a rest e there room i l) (λ q r. law n within same false is q r)
          (λ q r u f. subst (λ x. Over (record { output = x; end = Stopped AddressRange (c.g + 1) line }) (fresh q.places q.area u)) r.kept.wrote (over q f))
