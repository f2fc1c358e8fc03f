-- The control stack of the processor: the operands at work, and above each other the records of the activations with the operands of
-- their callers between them.
use Rattle.std.proofs.Common.{◌≡◌, ℕ, zero, suc, ◌+◌, ◌-◌, ◌*◌, ◌%◌, ◌<◌, ◌≤◌, Bool, true, false, ℤ, List, [], ◌∷◌, ◌++◌, length, drop, Option, Some, None, refl, sym, ap, ◌∙◌, subst, arith, lit<}
use Rattle.std.specs.Prelude.{slice_get}
use Rattle.cw_run86.specs.Views.{put_word}
use Rattle.cw_word.specs.Word.{unsigned}
use Rattle.cw_unit.specs.Words.{Control, LabelControl, SwitchControl, ProcedureControl, Operand, Word, Held}
use Rattle.cw_order.specs.OrderProgram.{OrderProgram}
use Rattle.cw_order.specs.OrderState.{OrderActivation, operand_words, stack_words, argument_behind, frame_end}
use Rattle.cw_order.specs.Activations.{segment_below, ControlStands}
use Rattle.cw_order.specs.declared.order.Orders.{Orders}
use Rattle.cw_tmpl.specs.Names.{label_start, switch_start, procedure_start}
use Rattle.cw_tmpl.specs.Named.{is_named_label, is_named_switch}
use Rattle.cw_tmpl.specs.ReferenceCode.{names_of}
use Rattle.cw_routines.proofs.Facts.{put_at, put_off}
use Rattle.cw_follow.specs.Placing.{start_in, label_place, switch_place, procedure_place}
use Rattle.cw_tmpl.proofs.Sizes.{own_place}

-- ---- what the words are

-- The words of the stack are numbered, 32,768 in all. The record of the last activation begins at this one, and that of a segment's body
-- at 32,764; the words below are for operands. A record has four words, and above it stand the caller's BP and the place to come back to.
abbrev pub level : List OrderActivation → ℕ
level acts = 32764 - stack_words [] acts

-- what BP holds
abbrev pub record_of : List OrderActivation → ℕ
record_of acts = (2 * level acts + 8) % 65536

-- the word of the frame at work in its record: twice its first word, and in that of a body, where nothing reads it, the words of the frame area
abbrev pub base_word : OrderProgram → List OrderActivation → ℕ
base_word p [] = p.limits.frames
base_word p (a ∷ acts) = 2 * a.frame_base % 65536

-- the words of the area behind the frame
abbrev pub words_behind : OrderProgram → List OrderActivation → ℕ
words_behind p acts = p.limits.area - frame_end p acts

module _ (p : OrderProgram) where
  -- the place of an order's code
  abbrev pub code_place : (segment place : ℕ) → ℕ
  code_place g k = start_in p g (slice_get p.units g) (λ o. own_place o k)

  -- the place that a control argument holds, and the record of the activation that owns it; something names what it is
  abbrev pub control_place : Control → ℕ
  control_place (LabelControl g l owner) = label_place p g l
  control_place (SwitchControl g n owner) = switch_place p g n
  control_place (ProcedureControl g q) = procedure_place p g q

  -- something names the label, or the switch: so the code has a way to it
  abbrev pub LabelNamed : (segment label : ℕ) → Type 0
  LabelNamed g l = (o : Orders) → slice_get p.units g ≡ Some o → is_named_label o l ≡ true

  abbrev pub SwitchNamed : (segment switch : ℕ) → Type 0
  SwitchNamed g n = (o : Orders) → slice_get p.units g ≡ Some o → is_named_switch o n ≡ true

  abbrev pub OwnerIs : List OrderActivation → Control → ℕ → Type 0
  OwnerIs acts (LabelControl g l owner) w = (w ≡ record_of (drop (length acts - owner) acts)) × LabelNamed g l
  OwnerIs acts (SwitchControl g n owner) w = (w ≡ record_of (drop (length acts - owner) acts)) × SwitchNamed g n
  OwnerIs acts (ProcedureControl g q) w = Unit {0}

  -- Operands on the stack, from the top: they are in the words of the stack from a number up to the record of the last of these activations.
  abbrev pub StackIs : List OrderActivation → (ℕ → ℕ) → ℕ → List Operand → Type 0
  StackIs acts stack top [] = top ≡ level acts
  StackIs acts stack top (Word z ∷ rest) = (stack top ≡ unsigned z) × StackIs acts stack (suc top) rest
  StackIs acts stack top (Held c ∷ rest) = (stack top ≡ control_place c) × OwnerIs acts c (stack (suc top)) × StackIs acts stack (suc (suc top)) rest

  -- All operands: where the accumulator is loaded the top one, which is a word, is in AX, and the others are on the stack.
  abbrev pub OperandsAre : List OrderActivation → (loaded : Bool) → (ax : ℕ) → (ℕ → ℕ) → ℕ → List Operand → Type 0
  OperandsAre acts false ax stack top operands = StackIs acts stack top operands
  OperandsAre acts true ax stack top (Word z ∷ rest) = (ax ≡ unsigned z) × StackIs acts stack top rest
  OperandsAre acts true ax stack top _ = ⊥

  -- a record, from its last word: the words behind the frame, that of its base, the calls left and the segment
  pub record RecordIs (stack : ℕ → ℕ) (r g left base rest : ℕ) : Type 0 where
    pub rest_is : stack r ≡ rest
    pub base_is : stack (r + 1) ≡ base
    pub left_is : stack (r + 2) ≡ left
    pub number_is : stack (r + 3) ≡ g + 1
    pub few : g < 255

  -- and above it the caller's record, the place behind the call, the arguments and the caller's operands
  pub record CallerIs (stack : ℕ → ℕ) (r : ℕ) (a : OrderActivation) (acts : List OrderActivation) : Type 0 where
    pub caller : stack (r + 4) ≡ record_of acts
    pub back : stack (r + 5) ≡ code_place a.segment a.place
    pub operands : StackIs acts stack (r + 6) (a.arguments ++ a.operands)

  abbrev pub LastRecord : (ℕ → ℕ) → (g : ℕ) → List OrderActivation → Type 0
  LastRecord stack g acts = RecordIs stack (level acts) g (p.limits.depth - length acts) (base_word p acts) (words_behind p acts)

  abbrev pub Callers : (ℕ → ℕ) → List OrderActivation → Type 0
  Callers stack [] = Unit {0}
  Callers stack (a ∷ acts) = CallerIs stack (level (a ∷ acts)) a acts × LastRecord stack a.segment acts × Callers stack acts

  -- all activations, with the segment of the last one
  abbrev pub Piled : (ℕ → ℕ) → (g : ℕ) → List OrderActivation → Type 0
  Piled stack g acts = LastRecord stack g acts × Callers stack acts

-- where BP leads to the word of the frame in the record at work, and what it holds
pub base_there : (p : OrderProgram) {stack : ℕ → ℕ} {g : ℕ} (acts : List OrderActivation) {w : ℕ} → base_word p acts ≡ w → LastRecord p stack g acts
    → (level acts + 1 < 32768) × ((record_of acts + 65530) % 65536 ≡ 2 * (level acts + 1)) × (stack (level acts + 1) ≡ w)
base_there p acts is last = (omega arith, omega arith, last.base_is ∙ is)

-- ---- numbers

pub start_small : (p : OrderProgram) (g : ℕ) (u : Option Orders) (f : Orders → ℕ) → start_in p g u f < 65536
start_small p g None f = lit< tt
start_small p g (Some o) f = omega arith

pub control_small : (p : OrderProgram) (c : Control) → control_place p c < 65536
control_small p (LabelControl g l owner) = start_small p g (slice_get p.units g) (λ o. label_start (names_of o) l)
control_small p (SwitchControl g n owner) = start_small p g (slice_get p.units g) (λ o. switch_start (names_of o) n)
control_small p (ProcedureControl g q) = start_small p g (slice_get p.units g) (λ o. procedure_start (names_of o) q)

pub words_append : (xs ys : List Operand) → operand_words (xs ++ ys) ≡ operand_words xs + operand_words ys
words_append [] ys = omega arith
words_append (Word z ∷ xs) ys = omega (arith, words_append xs ys)
words_append (Held c ∷ xs) ys = omega (arith, words_append xs ys)

module _ (p : OrderProgram) where
  pub top_is : (acts : List OrderActivation) (stack : ℕ → ℕ) (top : ℕ) (operands : List Operand) → StackIs p acts stack top operands → top + operand_words operands ≡ level acts
  top_is acts stack top [] h = omega (arith, h)
  top_is acts stack top (Word z ∷ rest) h = let r = top_is acts stack (suc top) rest h.1 in let e : top + (1 + operand_words rest) ≡ level acts = omega arith in e
  top_is acts stack top (Held c ∷ rest) h = let r = top_is acts stack (suc (suc top)) rest h.2 in let e : top + (2 + operand_words rest) ≡ level acts = omega arith in e

-- ---- what is written below stays below

-- the words from a number on are the same
abbrev pub SameFrom : ℕ → (now new : ℕ → ℕ) → Type 0
SameFrom n now new = (k : ℕ) → n ≤ k → new k ≡ now k

pub same_put : (stack : ℕ → ℕ) (n w m : ℕ) → n < m → SameFrom m stack (put_word stack n w)
same_put stack n w m lt k le = put_off stack n w k (λ e. omega arith)

pub same_then : (a b c : ℕ → ℕ) (m : ℕ) → SameFrom m a b → SameFrom m b c → SameFrom m a c
same_then a b c m h i k le = i k le ∙ h k le

pub same_above : (now new : ℕ → ℕ) (m n : ℕ) → m ≤ n → SameFrom m now new → SameFrom n now new
same_above now new m n le h k k' = h k (omega arith)

module _ (p : OrderProgram) where
  pub owner_same : (acts : List OrderActivation) (c : Control) (m n : ℕ) → n ≡ m → OwnerIs p acts c m → OwnerIs p acts c n
  owner_same acts c m n e h = subst (OwnerIs p acts c) (sym e) h

  pub stack_same : (acts : List OrderActivation) (now new : ℕ → ℕ) (top : ℕ) (operands : List Operand) → SameFrom top now new → StackIs p acts now top operands → StackIs p acts new top operands
  stack_same acts now new top [] same h = h
  stack_same acts now new top (Word z ∷ rest) same h = (same top (omega arith) ∙ h.0, stack_same acts now new (suc top) rest (same_above now new top (suc top) (omega arith) same) h.1)
  stack_same acts now new top (Held c ∷ rest) same h = (
    same top (omega arith) ∙ h.0,
    owner_same acts c (now (suc top)) (new (suc top)) (same (suc top) (omega arith)) h.1,
    stack_same acts now new (suc (suc top)) rest (same_above now new top (suc (suc top)) (omega arith) same) h.2,
  )

  -- the same operands with a word more on the stack
  pub stack_pushed : (acts : List OrderActivation) (stack : ℕ → ℕ) (n x : ℕ) (z : ℤ) (operands : List Operand) → x ≡ unsigned z → StackIs p acts stack (suc n) operands → StackIs p acts (put_word stack n x) n (Word z ∷ operands)
  stack_pushed acts stack n x z operands e h = (put_at stack n x ∙ e, stack_same acts stack (put_word stack n x) (suc n) operands (same_put stack n x (suc n) (omega arith)) h)

  pub record_same : (now new : ℕ → ℕ) (r g left base rest : ℕ) → SameFrom r now new → RecordIs p now r g left base rest → RecordIs p new r g left base rest
  record_same now new r g left base rest same h = record {
    rest_is = same r (omega arith) ∙ h.rest_is;
    base_is = same (r + 1) (omega arith) ∙ h.base_is;
    left_is = same (r + 2) (omega arith) ∙ h.left_is;
    number_is = same (r + 3) (omega arith) ∙ h.number_is;
    few = h.few;
  }

  pub callers_same : (now new : ℕ → ℕ) (acts : List OrderActivation) → SameFrom (level acts + 4) now new → Callers p now acts → Callers p new acts
  callers_same now new [] same h = tt
  callers_same now new (a ∷ acts) same h =
      let r = level (a ∷ acts) in
      let t : r + 6 + operand_words (a.arguments ++ a.operands) ≡ level acts = top_is p acts now (r + 6) (a.arguments ++ a.operands) h.0.operands in
      let on : SameFrom (level acts) now new = same_above now new (r + 4) (level acts) (omega arith) same in (
        record {
          caller = same (r + 4) (omega arith) ∙ h.0.caller;
          back = same (r + 5) (omega arith) ∙ h.0.back;
          operands = stack_same acts now new (r + 6) (a.arguments ++ a.operands) (same_above now new (r + 4) (r + 6) (omega arith) same) h.0.operands;
        },
        record_same now new (level acts) a.segment (p.limits.depth - length acts) (base_word p acts) (words_behind p acts) on h.1,
        callers_same now new acts (same_above now new (level acts) (level acts + 4) (omega arith) on) h.2,
      )

  pub piled_same : (now new : ℕ → ℕ) (g : ℕ) (acts : List OrderActivation) → SameFrom (level acts) now new → Piled p now g acts → Piled p new g acts
  piled_same now new g acts same h = (
    record_same now new (level acts) g (p.limits.depth - length acts) (base_word p acts) (words_behind p acts) same h.0,
    callers_same now new acts (same_above now new (level acts) (level acts + 4) (omega arith) same) h.1,
  )

-- ---- arguments

drop_more : (a : OrderActivation) (acts : List OrderActivation) (owner : ℕ) → owner ≤ length acts → drop (length acts - owner) acts ≡ drop (length (a ∷ acts) - owner) (a ∷ acts)
drop_more a acts owner le =
    let e : suc (length acts) - owner ≡ suc (length acts - owner) = omega arith in
    sym (ap (λ n. drop n (a ∷ acts)) e)

pub drop_all : (acts : List OrderActivation) → drop (length acts) acts ≡ []
drop_all [] = refl
drop_all (a ∷ acts) = drop_all acts

module _ (p : OrderProgram) where
  -- behind the arguments
  pub behind_arguments : (acts : List OrderActivation) (stack : ℕ → ℕ) (n : ℕ) (xs ys : List Operand) → StackIs p acts stack n (xs ++ ys) → StackIs p acts stack (n + operand_words xs) ys
  behind_arguments acts stack n [] ys h = let f : n ≡ n + 0 = omega arith in subst (λ k. StackIs p acts stack k ys) f h
  behind_arguments acts stack n (Word z ∷ xs) ys h =
      let f : suc n + operand_words xs ≡ n + (1 + operand_words xs) = omega arith in
      subst (λ k. StackIs p acts stack k ys) f (behind_arguments acts stack (suc n) xs ys h.1)
  behind_arguments acts stack n (Held c ∷ xs) ys h =
      let f : suc (suc n) + operand_words xs ≡ n + (2 + operand_words xs) = omega arith in
      subst (λ k. StackIs p acts stack k ys) f (behind_arguments acts stack (suc (suc n)) xs ys h.2)

  -- what the words of an argument are
  abbrev pub ArgumentIs : List OrderActivation → (ℕ → ℕ) → ℕ → Operand → Type 0
  ArgumentIs acts stack n (Word z) = (stack n ≡ unsigned z) × (n < level acts)
  ArgumentIs acts stack n (Held c) = (stack n ≡ control_place p c) × OwnerIs p acts c (stack (suc n)) × (suc n < level acts)

  argument_from : (acts : List OrderActivation) (stack : ℕ → ℕ) (m n : ℕ) (x : Operand) → m ≡ n → ArgumentIs acts stack m x → ArgumentIs acts stack n x
  argument_from acts stack m n x e h = subst (λ k. ArgumentIs acts stack k x) e h

  pub argument_words : (acts : List OrderActivation) (stack : ℕ → ℕ) (n k : ℕ) (xs ys : List Operand) (x : Operand) → StackIs p acts stack n (xs ++ ys) → argument_behind k xs ≡ Some x → ArgumentIs acts stack (n + k) x
  argument_words acts stack n k [] ys x h is = absurd (cc)
  argument_words acts stack n zero (Word z ∷ xs) ys x h is =
      let same : Word z ≡ x = cc in
      let t = top_is p acts stack (suc n) (xs ++ ys) h.1 in
      subst (ArgumentIs acts stack (n + 0)) same (argument_from acts stack n (n + 0) (Word z) (omega arith) (h.0, omega arith))
  argument_words acts stack n zero (Held c ∷ xs) ys x h is =
      let same : Held c ≡ x = cc in
      let t = top_is p acts stack (suc (suc n)) (xs ++ ys) h.2 in
      subst (ArgumentIs acts stack (n + 0)) same (argument_from acts stack n (n + 0) (Held c) (omega arith) (h.0, h.1, omega arith))
  argument_words acts stack n (suc k) (Word z ∷ xs) ys x h is = argument_from acts stack (suc n + k) (n + suc k) x (omega arith) (argument_words acts stack (suc n) k xs ys x h.1 is)
  argument_words acts stack n (suc zero) (Held c ∷ xs) ys x h is = absurd (cc)
  argument_words acts stack n (suc (suc k)) (Held c ∷ xs) ys x h is = argument_from acts stack (suc (suc n) + k) (n + suc (suc k)) x (omega arith) (argument_words acts stack (suc (suc n)) k xs ys x h.2 is)

  -- ---- without the last activations

  pub piled_below : (stack : ℕ → ℕ) (n g : ℕ) (acts : List OrderActivation) → Piled p stack g acts → Piled p stack (segment_below n g acts) (drop n acts)
  piled_below stack zero g acts h = h
  piled_below stack (suc n) g [] h = h
  piled_below stack (suc n) g (a ∷ acts) h = piled_below stack n a.segment acts (h.1.1, h.1.2)

  -- an activation more: the words of a control argument stay the same
  pub owner_above : (a : OrderActivation) (acts : List OrderActivation) (g : ℕ) (c : Control) (w : ℕ) → ControlStands p g acts c → OwnerIs p acts c w → OwnerIs p (a ∷ acts) c w
  owner_above a acts g (LabelControl to l owner) w stands h = (h.0 ∙ ap record_of (drop_more a acts owner stands.0), h.1)
  owner_above a acts g (SwitchControl to n owner) w stands h = (h.0 ∙ ap record_of (drop_more a acts owner stands.0), h.1)
  owner_above a acts g (ProcedureControl to q) w stands h = tt
