-- The steps of the source semantics: one equation of `advance` for each kind of pending work.
use Rattle.std.specs.Prelude.{ℕ, zero, suc, ◌+◌, ◌-◌, nat_lt, nat_le, ℤ, pos, negsuc, ◌-ℤ◌, List, [], ◌∷◌, ◌++◌}
use Rattle.std.specs.Prelude.{length, take, drop, set, Bool, true, false, Option, Some, None, slice_get}
use Rattle.cw_word.specs.Decimal.{decimal_floor}
use Rattle.cw_unit.specs.declared.unit.Unit.{Unit as SourceUnit}
use Rattle.cw_unit.specs.declared.unit.Proc.{Proc}
use Rattle.cw_unit.specs.declared.unit.Param.{Param}
use Rattle.cw_unit.specs.declared.unit.Param.TheVariants as param
use Rattle.cw_unit.specs.declared.unit.Label.{Label}
use Rattle.cw_unit.specs.declared.unit.Switch.{Switch}
use Rattle.cw_unit.specs.declared.unit.Goal.{Goal}
use Rattle.cw_unit.specs.declared.unit.Goal.TheVariants as goal
use Rattle.cw_unit.specs.declared.unit.Def.{Def}
use Rattle.cw_unit.specs.declared.unit.Def.TheVariants as def
use Rattle.cw_unit.specs.declared.unit.Dest.{Dest}
use Rattle.cw_unit.specs.declared.unit.Dest.TheVariants as dest
use Rattle.cw_unit.specs.declared.unit.Target.{Target}
use Rattle.cw_unit.specs.declared.unit.Target.TheVariants as target
use Rattle.cw_unit.specs.declared.unit.Felem.{Felem}
use Rattle.cw_unit.specs.declared.unit.Ref.{Ref, out-Ref}
use Rattle.cw_unit.specs.declared.unit.Stmt.{out-Stmt}
use Rattle.cw_unit.specs.declared.unit.Expr.{Expr, Expr-F, out-Expr}
use Rattle.cw_unit.specs.declared.unit.Arg.{Arg, out-Arg}
use Rattle.cw_unit.specs.declared.unit.Cond.{Cond, out-Cond}
use Rattle.cw_unit.specs.declared.unit.Spot.{Spot, out-Spot}
use Rattle.cw_unit.specs.declared.unit.Arg.TheOpen as layer
use Rattle.cw_unit.specs.declared.unit.Arg.TheOpen.{Arg-F, Cond-F, Spot-F, Ref-F}
use Rattle.cw_unit.specs.Program.{Program, definition_of, item_address}
use Rattle.cw_word.specs.FixedPoint.{fits_word}
use Rattle.cw_unit.specs.Stop.{SwitchRange, AddressRange, FramesFull, DepthReached, Running, Ended, Stopped, Stuck}
use Rattle.cw_unit.specs.Words.{Control, LabelControl, SwitchControl, ProcedureControl, Operand, Word, Held, Words, Outcome, Changed}
use Rattle.cw_unit.specs.Words.{Refused, Impossible, with_operands, with_memory, is_below, number_of, put_if, word_at}
use Rattle.cw_unit.specs.Operation.{Addressing, Known, Taken, Indexed, Indexed2, Scaled, Constant, Form, Keep}
use Rattle.cw_unit.specs.Operation.{SetVariable, AddStep, ReadByte, WriteByte, perform, is_past, holds}
use Rattle.cw_unit.specs.Work.{Work, Nothing, Run, Eval, Address, FormAt, Do, Test, Choose, Jump, Give, Enter, Return, Leave, KeepAt, SetVar, Element, Turn}
use Rattle.cw_unit.specs.Work.{Bump, On, Loop, statement_work, expression_work, spot_work, condition_work, element_work, element_at, next_element}
use Rattle.cw_unit.specs.LabelContinuation.{label_continuation}
use Rattle.cw_unit.specs.Configuration.{Configuration, at, Activation, segment_of, control_at, procedure_at}
use Rattle.cw_unit.specs.Configuration.{frame_size_of, frame_top, answer_scale_of, address_at}

-- after an operation; a stop leaves the rest of the configuration as it was
abbrev pub after : Outcome → (segment line : ℕ) → (now next : Work) → List Activation → Words → Configuration
after (Changed v) s line now next acts w = at s next acts v Running
after (Refused kind) s line now next acts w = at s now acts w (Stopped kind (segment_of s acts + 1) line)
after Impossible s line now next acts w = at s now acts w Stuck

-- ---- places that are named

-- a label of a segment
abbrev pub label_of_def : Option (ℕ × Def) → Option (ℕ × ℕ)
label_of_def (Some (g, def.Label l)) = Some (g, l)
label_of_def _ = None

abbrev pub switch_of_def : Option (ℕ × Def) → Option (ℕ × ℕ)
switch_of_def (Some (g, def.Switch n)) = Some (g, n)
switch_of_def _ = None

abbrev pub procedure_of_def : Option (ℕ × Def) → Option (ℕ × ℕ)
procedure_of_def (Some (g, def.Proc q)) = Some (g, q)
procedure_of_def _ = None

abbrev pub label_of_goal : Program → (segment : ℕ) → Goal → Option (ℕ × ℕ)
label_of_goal p g (goal.Own l) = Some (g, l)
label_of_goal p g (goal.Common d) = label_of_def (definition_of p g d)

abbrev pub with_label_owner : ℕ → Option (ℕ × ℕ) → Option Control
with_label_owner owner None = None
with_label_owner owner (Some l) = Some (LabelControl l.0 l.1 owner)

abbrev pub with_switch_owner : ℕ → Option (ℕ × ℕ) → Option Control
with_switch_owner owner None = None
with_switch_owner owner (Some l) = Some (SwitchControl l.0 l.1 owner)

abbrev pub as_procedure : Option (ℕ × ℕ) → Option Control
as_procedure None = None
as_procedure (Some q) = Some (ProcedureControl q.0 q.1)

-- ---- arguments

abbrev pub held : Option Control → Words → Outcome
held None w = Impossible
held (Some c) w = Changed (with_operands w (Held c ∷ w.operands))

-- ---- calls

-- what is called
pub data Callee : Type 0 where
  Reading : Callee
  Writing : Callee
  Calling : (segment procedure : ℕ) → Callee
  Missing : Callee

abbrev pub callee_of_place : Option (ℕ × ℕ) → Callee
callee_of_place None = Missing
callee_of_place (Some q) = Calling q.0 q.1

abbrev pub callee_of_control : Option Control → Callee
callee_of_control (Some (ProcedureControl g q)) = Calling g q
callee_of_control _ = Missing

abbrev pub callee_of : Program → (segment : ℕ) → List Activation → Target → Callee
callee_of p g acts (target.Own q) = Calling g q
callee_of p g acts (target.Common d) = callee_of_place (procedure_of_def (definition_of p g d))
callee_of p g acts (target.Special k f) = callee_of_control (control_at acts k)
callee_of p g acts target.Read = Reading
callee_of p g acts target.Write = Writing

-- the memory with the word parameters stored, and the control arguments
pub record Bound : Type 0 where
  pub memory : List ℤ
  pub controls : List Control

abbrev pub bind_word : (address : ℕ) → Operand → Bound → Option Bound
bind_word a (Word z) b = Some (record b { memory = set b.memory a z })
bind_word a (Held c) b = None

abbrev pub bind_control : Operand → Bound → Option Bound
bind_control (Word z) b = None
bind_control (Held c) b = Some (record b { controls = b.controls ++ c ∷ [] })

abbrev pub bind_one : (ℕ → ℕ) → Param → Operand → Bound → Option Bound
bind_one f (param.Value i s) x b = bind_word (f i) x b
bind_one f (param.Location i s) x b = bind_word (f i) x b
bind_one f (param.Array i s) x b = bind_word (f i) x b
bind_one f (param.Table i n) x b = bind_word (f i) x b
bind_one f (param.Label k) x b = bind_control x b
bind_one f (param.Switch k) x b = bind_control x b
bind_one f (param.Proc k s) x b = bind_control x b

-- the arguments in order, for items with these addresses
abbrev pub bind_all : (ℕ → ℕ) → List Param → List Operand → Option Bound → Option Bound
bind_all f ps xs None = None
bind_all f [] [] (Some b) = Some b
bind_all f [] (x ∷ xs) (Some b) = None
bind_all f (q ∷ qs) [] (Some b) = None
bind_all f (q ∷ qs) (x ∷ xs) (Some b) = bind_all f qs xs (bind_one f q x b)

abbrev pub reversed_onto : List Operand → List Operand → List Operand
reversed_onto [] ys = ys
reversed_onto (x ∷ xs) ys = reversed_onto xs (x ∷ ys)

abbrev pub first_operands : ℕ → List Operand → List Operand
first_operands n operands = reversed_onto (take n operands) []

-- a new activation begins
abbrev pub begun : (segment g q : ℕ) → Proc → (wanted : Bool) → (base : ℕ) → (now k : Work) → List Activation → Words → Option Bound → Configuration
begun s g q proc wanted base now k acts w None = at s now acts w Stuck
begun s g q proc wanted base now k acts w (Some b) =
    at s (Run proc.body Leave)
    (record {
      segment = g;
      procedure = q;
      work = k;
      operands = drop (length proc.params) w.operands;
      controls = b.controls;
      frame_base = base;
      wanted = wanted;
    } ∷ acts)
    (record w { operands = []; memory = b.memory })
    Running

-- ---- returns

abbrev pub handed : Bool → ℤ → List Operand → List Operand
handed true z operands = Word z ∷ operands
handed false z operands = operands

-- the last activation goes, with an answer
abbrev pub come_back : ℤ → (segment : ℕ) → (now : Work) → List Activation → Words → Configuration
come_back z s now [] w = at s now [] w Stuck
come_back z s now (a ∷ acts) w = at s a.work acts (with_operands w (handed a.wanted z a.operands)) Running

abbrev pub come_back_with : List Operand → (segment : ℕ) → (now : Work) → List Activation → Words → Configuration
come_back_with (Word z ∷ rest) s now acts w = come_back z s now acts w
come_back_with _ s now acts w = at s now acts w Stuck

-- ---- jumps

abbrev pub work_from : (segment : ℕ) → Option Work → List Activation → Words → Configuration
work_from s None acts w = at s Nothing acts w Stuck
work_from s (Some k) acts w = at s k acts (with_operands w []) Running

-- the activations that stay where a label is owned by the activation of this number
abbrev pub kept : ℕ → List Activation → List Activation
kept owner acts = drop (length acts - owner) acts

abbrev pub jump_in_procedure : Option Proc → (segment label owner : ℕ) → (now : Work) → List Activation → Words → Configuration
jump_in_procedure None s l owner now acts w = at s now acts w Stuck
jump_in_procedure (Some q) s l owner now acts w = work_from s (label_continuation l q.body Leave) (kept owner acts) w

abbrev pub jump_in_unit : SourceUnit → Option Label → (segment g label owner : ℕ) → (now : Work) → List Activation → Words → Configuration
jump_in_unit u None s g l owner now acts w = at s now acts w Stuck
jump_in_unit u (Some m) s g l owner now acts w =
    elim m.proc [
      | None ↦ work_from g (label_continuation l u.body Nothing) [] w
      | Some q ↦ jump_in_procedure (slice_get u.procs q) s l owner now acts w
    ]

abbrev pub jump_to_unit : Option SourceUnit → (segment g label owner : ℕ) → (now : Work) → List Activation → Words → Configuration
jump_to_unit None s g l owner now acts w = at s now acts w Stuck
jump_to_unit (Some u) s g l owner now acts w = jump_in_unit u (slice_get u.labels l) s g l owner now acts w

abbrev pub jump_to : Program → Option (ℕ × ℕ) → (owner segment : ℕ) → (now : Work) → List Activation → Words → Configuration
jump_to p None owner s now acts w = at s now acts w Stuck
jump_to p (Some l) owner s now acts w = jump_to_unit (slice_get p.units l.0) s l.0 l.1 owner now acts w

abbrev pub jump_to_control : Program → Option Control → (segment : ℕ) → (now : Work) → List Activation → Words → Configuration
jump_to_control p (Some (LabelControl g l owner)) s now acts w = jump_to p (Some (g, l)) owner s now acts w
jump_to_control p _ s now acts w = at s now acts w Stuck

-- switch indexes count from 1
abbrev pub goal_at : List Goal → ℤ → Option Goal
goal_at gs (pos zero) = None
goal_at gs (pos (suc n)) = slice_get gs n
goal_at gs (negsuc n) = None

abbrev pub jump_to_goal : Program → Option Goal → (g owner segment line : ℕ) → (now : Work) → List Activation → Words → Configuration
jump_to_goal p None g owner s line now acts w = at s now acts w (Stopped SwitchRange (segment_of s acts + 1) line)
jump_to_goal p (Some l) g owner s line now acts w = jump_to p (label_of_goal p g l) owner s now acts w

abbrev pub goals_of : Option Switch → Option (List Goal)
goals_of None = None
goals_of (Some n) = Some n.list

abbrev pub switch_in : Option SourceUnit → ℕ → Option (List Goal)
switch_in None n = None
switch_in (Some u) n = goals_of (slice_get u.switches n)

abbrev pub jump_by_list : Program → Option (List Goal) → List Operand → (g owner segment line : ℕ) → (now : Work) → List Activation → Words → Configuration
jump_by_list p (Some gs) (Word z ∷ rest) g owner s line now acts w = jump_to_goal p (goal_at gs z) g owner s line now acts w
jump_by_list p _ _ g owner s line now acts w = at s now acts w Stuck

abbrev pub jump_by_switch : Program → Option (ℕ × ℕ) → (owner segment line : ℕ) → (now : Work) → List Activation → Words → Configuration
jump_by_switch p None owner s line now acts w = at s now acts w Stuck
jump_by_switch p (Some n) owner s line now acts w = jump_by_list p (switch_in (slice_get p.units n.0) n.1) w.operands n.0 owner s line now acts w

abbrev pub jump_by_control : Program → Option Control → (segment line : ℕ) → (now : Work) → List Activation → Words → Configuration
jump_by_control p (Some (SwitchControl g n owner)) s line now acts w = jump_by_switch p (Some (g, n)) owner s line now acts w
jump_by_control p _ s line now acts w = at s now acts w Stuck

-- ---- choices and loops

abbrev pub pick : Bool → Work → Work → Work
pick true pass fail = pass
pick false pass fail = fail

abbrev pub choose_with : (ℤ → ℤ → Bool) → List Operand → (segment : ℕ) → (now pass fail : Work) → List Activation → Words → Configuration
choose_with f (Word y ∷ Word x ∷ rest) s now pass fail acts w = at s (pick (f x y) pass fail) acts (with_operands w rest) Running
choose_with f _ s now pass fail acts w = at s now acts w Stuck

module _ (p : Program) where
  -- the address of an item, and its word
  abbrev pub item_word : (segment : ℕ) → List Activation → Words → ℕ → ℤ
  item_word s acts w i = word_at w.memory (address_at p s acts i)

  -- the base of a table: its address, or the word of a table parameter
  abbrev pub table_base : Bool → (segment : ℕ) → List Activation → Words → ℕ → ℤ
  table_base true s acts w i = item_word s acts w i
  table_base false s acts w i = pos (address_at p s acts i)

  abbrev pub addressing_of : Spot-F Arg Cond Expr Spot Ref → (segment : ℕ) → List Activation → Words → Addressing
  addressing_of (layer.Direct i) s acts w = Known (pos (address_at p s acts i))
  addressing_of (layer.Through i) s acts w = Known (item_word s acts w i)
  addressing_of (layer.One i l u e) s acts w = Indexed (pos (address_at p s acts i)) l
  addressing_of (layer.Two i l1 u1 l2 u2 n e g) s acts w = Indexed2 (pos (address_at p s acts i)) l1 l2 n
  addressing_of (layer.ParamArray i e) s acts w = Indexed (item_word s acts w i) (pos 0)
  addressing_of (layer.Word i t n e) s acts w = Indexed (table_base t s acts w i) (pos 0)
  addressing_of (layer.Elem i t n m q e) s acts w = Scaled (table_base t s acts w i) n q
  addressing_of (layer.Bare e) s acts w = Taken

  -- a direct reference puts its address at once
  abbrev pub address_step : (compared : Bool) → Spot → Spot-F Arg Cond Expr Spot Ref → (segment line : ℕ) → Work → List Activation → Words → Configuration
  address_step c spot (layer.Direct i) s line k acts w =
      at s k acts (with_operands w (Word (pos (address_at p s acts i)) ∷ w.operands)) Running
  address_step c spot layer s line k acts w = at s (spot_work c spot layer line k) acts w Running

  -- the word that a number, a constant or a string puts at once
  abbrev pub put_constant : Expr-F Arg Cond Expr Spot Ref → (segment scale : ℕ) → List Activation → Words → Words
  put_constant (layer.Num n) s f acts w = with_operands w (Word (pos (decimal_floor n.whole n.digits n.places f)) ∷ w.operands)
  put_constant (layer.Const z) s f acts w = with_operands w (Word z ∷ w.operands)
  put_constant (layer.Text i) s f acts w = with_operands w (Word (pos (address_at p s acts i)) ∷ w.operands)
  put_constant _ s f acts w = w

  -- a step in the unit of the work's segment
  abbrev pub in_unit : Option SourceUnit → (SourceUnit → Configuration) → Configuration → Configuration
  in_unit None f other = other
  in_unit (Some u) f other = f u

  abbrev pub here : (segment : ℕ) → List Activation → Option SourceUnit
  here s acts = slice_get p.units (segment_of s acts)

  -- whether the unit at work compares its indexes with their bounds
  abbrev pub compares_in : Option SourceUnit → Bool
  compares_in None = false
  compares_in (Some u) = u.bounds

  abbrev pub stuck : (segment : ℕ) → Work → List Activation → Words → Configuration
  stuck s now acts w = at s now acts w Stuck

  abbrev pub give_step : Arg-F Arg Cond Expr Spot Ref → (segment line : ℕ) → (now k : Work) → List Activation → Words → Configuration
  give_step (layer.Value e f) s line now k acts w = at s (Eval e f line k) acts w Running
  give_step (layer.Place r) s line now k acts w = at s (Address r line k) acts w Running
  give_step (layer.Array i l) s line now k acts w =
      let z = pos (address_at p s acts i) -ℤ l in
      after (put_if (fits_word z) AddressRange z w) s line now k acts w
  give_step (layer.Same i) s line now k acts w = after (perform p.limits.area (Constant (item_word s acts w i)) w) s line now k acts w
  give_step (layer.Base i) s line now k acts w = after (perform p.limits.area (Constant (pos (address_at p s acts i))) w) s line now k acts w
  give_step (layer.Goal g) s line now k acts w =
      after (held (with_label_owner (length acts) (label_of_goal p (segment_of s acts) g)) w) s line now k acts w
  give_step (layer.Switch n) s line now k acts w = after (held (Some (SwitchControl (segment_of s acts) n (length acts))) w) s line now k acts w
  give_step (layer.CommonSwitch d) s line now k acts w =
      after (held (with_switch_owner (length acts) (switch_of_def (definition_of p (segment_of s acts) d))) w) s line now k acts w
  give_step (layer.Proc q) s line now k acts w = after (held (Some (ProcedureControl (segment_of s acts) q)) w) s line now k acts w
  give_step (layer.CommonProc d) s line now k acts w =
      after (held (as_procedure (procedure_of_def (definition_of p (segment_of s acts) d))) w) s line now k acts w
  give_step (layer.Special n) s line now k acts w = after (held (control_at acts n) w) s line now k acts w

  -- The next byte of the input is the answer; a statement takes it and drops it.
  abbrev pub read_step : Bool → (segment line : ℕ) → (now k : Work) → List Activation → Words → Configuration
  read_step true s line now k acts w = after (perform p.limits.area ReadByte w) s line now k acts w
  read_step false s line now k acts w = at s k acts (record w { input = drop 1 w.input }) Running

  -- the frame of a RECURSIVE procedure must end in the area
  abbrev pub enter_framed : Bool → (segment line g q : ℕ) → Proc → (wanted : Bool) → (now k : Work) → List Activation → Words → Configuration
  enter_framed false s line g q proc wanted now k acts w = at s now acts w (Stopped FramesFull (segment_of s acts + 1) line)
  enter_framed true s line g q proc wanted now k acts w =
      let base = frame_top p acts in
      begun s g q proc wanted base now k acts w
      (bind_all (λ i. item_address p g i base) proc.params (first_operands (length proc.params) w.operands)
      (Some (record { memory = w.memory; controls = [] })))

  -- the depth is tested, then the frame
  abbrev pub enter_procedure : Bool → Option Proc → (segment line g q : ℕ) → (wanted : Bool) → (now k : Work) → List Activation → Words → Configuration
  enter_procedure deeper None s line g q wanted now k acts w = at s now acts w Stuck
  enter_procedure false (Some proc) s line g q wanted now k acts w = at s now acts w (Stopped DepthReached (segment_of s acts + 1) line)
  enter_procedure true (Some proc) s line g q wanted now k acts w =
      enter_framed (nat_le (frame_top p acts + frame_size_of p g q) p.limits.area) s line g q proc wanted now k acts w

  abbrev pub enter_step : Callee → (segment line : ℕ) → (wanted : Bool) → (now k : Work) → List Activation → Words → Configuration
  enter_step Reading s line wanted now k acts w = read_step wanted s line now k acts w
  enter_step Writing s line wanted now k acts w = after (perform p.limits.area WriteByte w) s line now k acts w
  enter_step (Calling g q) s line wanted now k acts w =
      enter_procedure (nat_lt (length acts) p.limits.depth) (procedure_at p g q) s line g q wanted now k acts w
  enter_step Missing s line wanted now k acts w = at s now acts w Stuck

  abbrev pub jump_step : Dest → (segment line : ℕ) → (now : Work) → List Activation → Words → Configuration
  jump_step (dest.Goal g) s line now acts w = jump_to p (label_of_goal p (segment_of s acts) g) (length acts) s now acts w
  jump_step (dest.Special k) s line now acts w = jump_to_control p (control_at acts k) s now acts w
  jump_step (dest.Switch n e) s line now acts w = jump_by_switch p (Some (segment_of s acts, n)) (length acts) s line now acts w
  jump_step (dest.CommonSwitch d e) s line now acts w =
      jump_by_switch p (switch_of_def (definition_of p (segment_of s acts) d)) (length acts) s line now acts w
  jump_step (dest.SpecialSwitch k e) s line now acts w = jump_by_control p (control_at acts k) s line now acts w

  -- an element's number goes to loop word 3
  abbrev pub element_step : Option Felem → (segment number : ℕ) → Loop → Work → List Activation → Words → Configuration
  element_step None s i c k acts w = at s k acts w Running
  element_step (Some e) s i c k acts w =
      at s (element_work e i c k) acts
      (with_memory w (set w.memory (address_at p s acts c.item + 3) (pos i)))
      Running

  -- the control variable through loop word 0 against loop words 1 and 2
  abbrev pub turn_step : Bool → (segment address number : ℕ) → Loop → (now k : Work) → List Activation → Words → Configuration
  turn_step false s a i c now k acts w = at s now acts w (Stopped AddressRange (segment_of s acts + 1) c.line)
  turn_step true s a i c now k acts w =
      at s
      (pick (is_past (word_at w.memory (a + 1)) (word_at w.memory (number_of (word_at w.memory a))) (word_at w.memory (a + 2)))
      (Element (i + 1) c k)
      (Run c.body (On c k)))
      acts
      w
      Running

  -- the next body, or the end, which is a step of its own
  abbrev pub next_body : Option SourceUnit → (segment : ℕ) → List Activation → Words → Configuration
  next_body None s acts w = at s Nothing acts w Ended
  next_body (Some u) s acts w = at (s + 1) (Run u.body Nothing) acts w Running

  abbrev pub advance : (segment : ℕ) → Work → List Activation → Words → Configuration
  advance s Nothing acts w = next_body (slice_get p.units (s + 1)) s acts w
  advance s (Run t k) acts w = at s (statement_work (answer_scale_of p acts) (out-Stmt t) k) acts w Running
  advance s (Eval e f line k) acts w =
      in_unit (here s acts)
      (λ u. at s (expression_work u (out-Expr e) f line k) acts (put_constant (out-Expr e) s f acts w) Running)
      (stuck s (Eval e f line k) acts w)
  advance s (Address r line k) acts w = address_step (compares_in (here s acts)) (out-Ref r).at (out-Spot (out-Ref r).at) s line k acts w
  advance s (FormAt spot line k) acts w =
      after (perform p.limits.area (Form (addressing_of (out-Spot spot) s acts w)) w) s line (FormAt spot line k) k acts w
  advance s (Do op line k) acts w = after (perform p.limits.area op w) s line (Do op line k) k acts w
  advance s (Test c line pass fail) acts w =
      in_unit (here s acts)
      (λ u. at s (condition_work u (out-Cond c) line pass fail) acts w Running)
      (stuck s (Test c line pass fail) acts w)
  advance s (Choose op line pass fail) acts w = choose_with (holds op) w.operands s (Choose op line pass fail) pass fail acts w
  advance s (Jump d line) acts w = jump_step d s line (Jump d line) acts w
  advance s (Give a line k) acts w = give_step (out-Arg a) s line (Give a line k) k acts w
  advance s (Enter t line wanted k) acts w =
      enter_step (callee_of p (segment_of s acts) acts t) s line wanted (Enter t line wanted k) k acts w
  advance s Return acts w = come_back_with w.operands s Return acts w
  advance s Leave acts w = come_back (pos 0) s Leave acts w
  advance s (KeepAt n c k) acts w = after (perform p.limits.area (Keep (address_at p s acts c.item + n)) w) s c.line (KeepAt n c k) k acts w
  advance s (SetVar c k) acts w = after (perform p.limits.area (SetVariable (address_at p s acts c.item)) w) s c.line (SetVar c k) k acts w
  advance s (Element i c k) acts w = element_step (element_at c.elements i) s i c k acts w
  advance s (Turn i c k) acts w =
      turn_step (is_below (word_at w.memory (address_at p s acts c.item)) p.limits.area) s (address_at p s acts c.item) i c (Turn i c k) k acts w
  advance s (Bump i c k) acts w =
      after (perform p.limits.area (AddStep (address_at p s acts c.item)) w) s c.line (Bump i c k) (Turn i c k) acts w
  advance s (On c k) acts w =
      let i = number_of (word_at w.memory (address_at p s acts c.item + 3)) in
      at s (next_element (element_at c.elements i) i c k) acts w Running

  -- one step; a run that has ended or stopped stays as it is
  abbrev pub step : Configuration → Configuration
  step (at s k acts w Running) = advance s k acts w
  step (at s k acts w Ended) = at s k acts w Ended
  step (at s k acts w (Stopped kind g line)) = at s k acts w (Stopped kind g line)
  step (at s k acts w Stuck) = at s k acts w Stuck

  abbrev pub steps : ℕ → Configuration → Configuration
  steps zero c = c
  steps (suc m) c = steps m (step c)
