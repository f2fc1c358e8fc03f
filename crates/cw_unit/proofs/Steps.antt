-- A step keeps the number of data words, and what was written stays; a run that is over stays as it is.
use Rattle.std.proofs.Common.{◌≡◌, ℕ, zero, suc, ◌+◌, ℤ, pos, ◌-ℤ◌, List, [], ◌∷◌, ◌++◌, length, set, Bool, true, false, Option, Some, None, refl, sym, ap, ◌∙◌, ◌≢◌, arith}
use Rattle.std.proofs.lemmas.List.{length-set, append_assoc}
use Rattle.cw_unit.specs.InitialMemory.{words_from, filled_words}
use Rattle.cw_unit.specs.Behaviour.{initial_configuration, configuration_after, shown, observed}
use Rattle.std.specs.Prelude.{slice_get, nat_lt, nat_le}
use Rattle.cw_unit.specs.declared.unit.Unit.{Unit as SourceUnit}
use Rattle.cw_unit.specs.declared.unit.Proc.{Proc}
use Rattle.cw_unit.specs.declared.unit.Param.{Param}
use Rattle.cw_unit.specs.declared.unit.Param.TheVariants as param
use Rattle.cw_unit.specs.declared.unit.Label.{Label}
use Rattle.cw_unit.specs.declared.unit.Goal.{Goal}
use Rattle.cw_unit.specs.declared.unit.Dest.{Dest}
use Rattle.cw_unit.specs.declared.unit.Dest.TheVariants as dest
use Rattle.cw_unit.specs.declared.unit.Felem.{Felem}
use Rattle.cw_unit.specs.declared.unit.Ref.{Ref, out-Ref}
use Rattle.cw_unit.specs.declared.unit.Expr.{Expr, Expr-F, out-Expr}
use Rattle.cw_unit.specs.declared.unit.Arg.{Arg, out-Arg}
use Rattle.cw_unit.specs.declared.unit.Cond.{Cond, out-Cond}
use Rattle.cw_unit.specs.declared.unit.Spot.{Spot, out-Spot}
use Rattle.cw_unit.specs.declared.unit.Arg.TheOpen as layer
use Rattle.cw_unit.specs.declared.unit.Arg.TheOpen.{Arg-F, Spot-F}
use Rattle.cw_unit.specs.Program.{Program, definition_of, item_address}
use Rattle.cw_word.specs.FixedPoint.{fits_word}
use Rattle.cw_unit.specs.Stop.{AddressRange, Running, Ended, Stopped, Stuck}
use Rattle.cw_unit.specs.Words.{Control, LabelControl, SwitchControl, ProcedureControl, Operand, Word, Held, Words, Outcome, Changed, Refused, Impossible, with_memory, put_if, is_below, word_at}
use Rattle.cw_unit.specs.Operation.{Operation, Form, Keep, SetVariable, AddStep, ReadByte, WriteByte, perform, holds}
use Rattle.cw_unit.specs.LabelContinuation.{label_continuation}
use Rattle.cw_unit.specs.Work.{Work, Nothing, Run, Eval, Address, FormAt, Do, Test, Choose, Jump, Give, Enter, Return, Leave, KeepAt, SetVar, Element, Turn, Bump, On, Loop, expression_work, condition_work, element_at}
use Rattle.cw_unit.specs.Configuration.{Configuration, at, words_of, Activation, segment_of, control_at, procedure_at, frame_size_of, frame_top, address_at}
use Rattle.cw_unit.specs.Step.{after, label_of_goal, switch_of_def, procedure_of_def, with_label_owner, with_switch_owner, as_procedure, held, Callee, Reading, Writing, Calling, Missing, callee_of, Bound, bind_word, bind_control, bind_one, bind_all, first_operands, begun, come_back, come_back_with, work_from, kept, jump_in_procedure, jump_in_unit, jump_to_unit, jump_to, jump_to_control, goal_at, jump_to_goal, switch_in, jump_by_list, jump_by_switch, jump_by_control, choose_with, address_step, put_constant, in_unit, here, compares_in, stuck, give_step, read_step, enter_framed, enter_procedure, enter_step, jump_step, element_step, turn_step, next_body, advance, step, steps, addressing_of}
use Rattle.cw_unit.proofs.Operations.{Follows, FollowsIn, same, perform-keeps, put_if-keeps}

-- what a step from these words keeps
abbrev pub Kept : Words → Configuration → Type 0
Kept w c = Follows (length w.memory) w.output (words_of c)

pub still : (w : Words) → Follows (length w.memory) w.output w
still w = same (length w.memory) w.output w refl refl

pub after-kept : (o : Outcome) (s line : ℕ) (now next : Work) (acts : List Activation) (w : Words) → FollowsIn (length w.memory) w.output o → Kept w (after o s line now next acts w)
after-kept (Changed v) s line now next acts w h = h
after-kept (Refused kind) s line now next acts w h = still w
after-kept Impossible s line now next acts w h = still w

pub held-kept : (c : Option Control) (w : Words) → FollowsIn (length w.memory) w.output (held c w)
held-kept None w = tt
held-kept (Some c) w = still w

pub in_unit-kept : (p : Program) (u : Option SourceUnit) (f : SourceUnit → Configuration) (other : Configuration) (w : Words) → ((u : SourceUnit) → Kept w (f u)) → Kept w other → Kept w (in_unit p u f other)
in_unit-kept p None f other w h k = k
in_unit-kept p (Some u) f other w h k = h u

pub put_constant-kept : (p : Program) (e : Expr-F Arg Cond Expr Spot Ref) (s f : ℕ) (acts : List Activation) (w : Words) → Follows (length w.memory) w.output (put_constant p e s f acts w)
put_constant-kept p (layer.Num n) s f acts w = still w
put_constant-kept p _ s f acts w = still w

pub address_step-kept : (p : Program) (c : Bool) (spot : Spot) (l : Spot-F Arg Cond Expr Spot Ref) (s line : ℕ) (k : Work) (acts : List Activation) (w : Words) → Kept w (address_step p c spot l s line k acts w)
address_step-kept p c spot (layer.Direct i) s line k acts w = still w
address_step-kept p c spot _ s line k acts w = still w

pub give_step-kept : (p : Program) (a : Arg-F Arg Cond Expr Spot Ref) (s line : ℕ) (now k : Work) (acts : List Activation) (w : Words) → Kept w (give_step p a s line now k acts w)
give_step-kept p (layer.Value e f) s line now k acts w = still w
give_step-kept p (layer.Place r) s line now k acts w = still w
give_step-kept p (layer.Array i l) s line now k acts w =
    let z = pos (address_at p s acts i) -ℤ l in
    after-kept (put_if (fits_word z) AddressRange z w) s line now k acts w (put_if-keeps (fits_word z) AddressRange z w)
give_step-kept p (layer.Same i) s line now k acts w = still w
give_step-kept p (layer.Base i) s line now k acts w = still w
give_step-kept p (layer.Goal g) s line now k acts w =
    let c = with_label_owner (length acts) (label_of_goal p (segment_of s acts) g) in
    after-kept (held c w) s line now k acts w (held-kept c w)
give_step-kept p (layer.Switch n) s line now k acts w = still w
give_step-kept p (layer.CommonSwitch d) s line now k acts w =
    let c = with_switch_owner (length acts) (switch_of_def (definition_of p (segment_of s acts) d)) in
    after-kept (held c w) s line now k acts w (held-kept c w)
give_step-kept p (layer.Proc q) s line now k acts w = still w
give_step-kept p (layer.CommonProc d) s line now k acts w =
    let c = as_procedure (procedure_of_def (definition_of p (segment_of s acts) d)) in
    after-kept (held c w) s line now k acts w (held-kept c w)
give_step-kept p (layer.Special n) s line now k acts w =
    after-kept (held (control_at acts n) w) s line now k acts w (held-kept (control_at acts n) w)

-- ---- calls and returns

abbrev pub Length : ℕ → Option Bound → Type 0
Length n None = Unit {0}
Length n (Some b) = length b.memory ≡ n

pub bind_word-length : (a : ℕ) (x : Operand) (b : Bound) (n : ℕ) → length b.memory ≡ n → Length n (bind_word a x b)
bind_word-length a (Word z) b n e = length-set b.memory a z ∙ e
bind_word-length a (Held c) b n e = tt

pub bind_control-length : (x : Operand) (b : Bound) (n : ℕ) → length b.memory ≡ n → Length n (bind_control x b)
bind_control-length (Word z) b n e = tt
bind_control-length (Held c) b n e = e

pub bind_one-length : (f : ℕ → ℕ) (q : Param) (x : Operand) (b : Bound) (n : ℕ) → length b.memory ≡ n → Length n (bind_one f q x b)
bind_one-length f (param.Value i s) x b n e = bind_word-length (f i) x b n e
bind_one-length f (param.Location i s) x b n e = bind_word-length (f i) x b n e
bind_one-length f (param.Array i s) x b n e = bind_word-length (f i) x b n e
bind_one-length f (param.Table i m) x b n e = bind_word-length (f i) x b n e
bind_one-length f _ x b n e = bind_control-length x b n e

pub bind_all-length : (f : ℕ → ℕ) (qs : List Param) (xs : List Operand) (b : Option Bound) (n : ℕ) → Length n b → Length n (bind_all f qs xs b)
bind_all-length f [] [] None n e = tt
bind_all-length f [] (x ∷ xs) None n e = tt
bind_all-length f (q ∷ qs) [] None n e = tt
bind_all-length f (q ∷ qs) (x ∷ xs) None n e = tt
bind_all-length f [] [] (Some b) n e = e
bind_all-length f [] (x ∷ xs) (Some b) n e = tt
bind_all-length f (q ∷ qs) [] (Some b) n e = tt
bind_all-length f (q ∷ qs) (x ∷ xs) (Some b) n e = bind_all-length f qs xs (bind_one f q x b) n (bind_one-length f q x b n e)

pub begun-kept : (s g q : ℕ) (proc : Proc) (wanted : Bool) (base : ℕ) (now k : Work) (acts : List Activation) (w : Words) (b : Option Bound) → Length (length w.memory) b → Kept w (begun s g q proc wanted base now k acts w b)
begun-kept s g q proc wanted base now k acts w None e = still w
begun-kept s g q proc wanted base now k acts w (Some b) e =
    same (length w.memory) w.output (record w { operands = []; memory = b.memory }) e refl

pub enter_framed-kept : (p : Program) (b : Bool) (s line g q : ℕ) (proc : Proc) (wanted : Bool) (now k : Work) (acts : List Activation) (w : Words) → Kept w (enter_framed p b s line g q proc wanted now k acts w)
enter_framed-kept p false s line g q proc wanted now k acts w = still w
enter_framed-kept p true s line g q proc wanted now k acts w =
    let f : ℕ → ℕ = λ i. item_address p g i (frame_top p acts) in
    let start : Option Bound = Some (record { memory = w.memory; controls = [] }) in
    let xs : List Operand = first_operands (length proc.params) w.operands in
    begun-kept s g q proc wanted (frame_top p acts) now k acts w (bind_all f proc.params xs start)
    (bind_all-length f proc.params xs start (length w.memory) refl)

pub enter_procedure-kept : (p : Program) (b : Bool) (proc : Option Proc) (s line g q : ℕ) (wanted : Bool) (now k : Work) (acts : List Activation) (w : Words) → Kept w (enter_procedure p b proc s line g q wanted now k acts w)
enter_procedure-kept p true None s line g q wanted now k acts w = still w
enter_procedure-kept p false None s line g q wanted now k acts w = still w
enter_procedure-kept p false (Some proc) s line g q wanted now k acts w = still w
enter_procedure-kept p true (Some proc) s line g q wanted now k acts w =
    enter_framed-kept p (nat_le (frame_top p acts + frame_size_of p g q) p.limits.area) s line g q proc wanted now k acts w

pub read_step-kept : (p : Program) (b : Bool) (s line : ℕ) (now k : Work) (acts : List Activation) (w : Words) → Kept w (read_step p b s line now k acts w)
read_step-kept p true s line now k acts w = after-kept (perform p.limits.area ReadByte w) s line now k acts w (perform-keeps p.limits.area ReadByte w)
read_step-kept p false s line now k acts w = still w

pub enter_step-kept : (p : Program) (c : Callee) (s line : ℕ) (wanted : Bool) (now k : Work) (acts : List Activation) (w : Words) → Kept w (enter_step p c s line wanted now k acts w)
enter_step-kept p Reading s line wanted now k acts w = read_step-kept p wanted s line now k acts w
enter_step-kept p Writing s line wanted now k acts w =
    after-kept (perform p.limits.area WriteByte w) s line now k acts w (perform-keeps p.limits.area WriteByte w)
enter_step-kept p (Calling g q) s line wanted now k acts w =
    enter_procedure-kept p (nat_lt (length acts) p.limits.depth) (procedure_at p g q) s line g q wanted now k acts w
enter_step-kept p Missing s line wanted now k acts w = still w

pub come_back-kept : (z : ℤ) (s : ℕ) (now : Work) (acts : List Activation) (w : Words) → Kept w (come_back z s now acts w)
come_back-kept z s now [] w = still w
come_back-kept z s now (a ∷ acts) w = still w

pub come_back_with-kept : (xs : List Operand) (s : ℕ) (now : Work) (acts : List Activation) (w : Words) → Kept w (come_back_with xs s now acts w)
come_back_with-kept [] s now acts w = still w
come_back_with-kept (Held c ∷ rest) s now acts w = still w
come_back_with-kept (Word z ∷ rest) s now acts w = come_back-kept z s now acts w

-- ---- jumps

pub work_from-kept : (s : ℕ) (k : Option Work) (acts : List Activation) (w : Words) → Kept w (work_from s k acts w)
work_from-kept s None acts w = still w
work_from-kept s (Some k) acts w = still w

pub jump_in_procedure-kept : (q : Option Proc) (s l owner : ℕ) (now : Work) (acts : List Activation) (w : Words) → Kept w (jump_in_procedure q s l owner now acts w)
jump_in_procedure-kept None s l owner now acts w = still w
jump_in_procedure-kept (Some q) s l owner now acts w = work_from-kept s (label_continuation l q.body Leave) (kept owner acts) w

pub jump_in_unit-kept : (u : SourceUnit) (m : Option Label) (s g l owner : ℕ) (now : Work) (acts : List Activation) (w : Words) → Kept w (jump_in_unit u m s g l owner now acts w)
jump_in_unit-kept u None s g l owner now acts w = still w
jump_in_unit-kept u (Some m) s g l owner now acts w =
    elim m.proc as
    (λ o.
    Kept w
    (elim o [
      | None ↦ work_from g (label_continuation l u.body Nothing) [] w
      | Some q ↦ jump_in_procedure (slice_get u.procs q) s l owner now acts w
    ])) [
      | None ↦ work_from-kept g (label_continuation l u.body Nothing) [] w
      | Some q ↦ jump_in_procedure-kept (slice_get u.procs q) s l owner now acts w
    ]

pub jump_to_unit-kept : (u : Option SourceUnit) (s g l owner : ℕ) (now : Work) (acts : List Activation) (w : Words) → Kept w (jump_to_unit u s g l owner now acts w)
jump_to_unit-kept None s g l owner now acts w = still w
jump_to_unit-kept (Some u) s g l owner now acts w = jump_in_unit-kept u (slice_get u.labels l) s g l owner now acts w

pub jump_to-kept : (p : Program) (l : Option (ℕ × ℕ)) (owner s : ℕ) (now : Work) (acts : List Activation) (w : Words) → Kept w (jump_to p l owner s now acts w)
jump_to-kept p None owner s now acts w = still w
jump_to-kept p (Some l) owner s now acts w = jump_to_unit-kept (slice_get p.units l.0) s l.0 l.1 owner now acts w

pub jump_to_control-kept : (p : Program) (c : Option Control) (s : ℕ) (now : Work) (acts : List Activation) (w : Words) → Kept w (jump_to_control p c s now acts w)
jump_to_control-kept p None s now acts w = still w
jump_to_control-kept p (Some (LabelControl g l owner)) s now acts w = jump_to-kept p (Some (g, l)) owner s now acts w
jump_to_control-kept p (Some (SwitchControl g n owner)) s now acts w = still w
jump_to_control-kept p (Some (ProcedureControl g q)) s now acts w = still w

pub jump_to_goal-kept : (p : Program) (l : Option Goal) (g owner s line : ℕ) (now : Work) (acts : List Activation) (w : Words) → Kept w (jump_to_goal p l g owner s line now acts w)
jump_to_goal-kept p None g owner s line now acts w = still w
jump_to_goal-kept p (Some l) g owner s line now acts w = jump_to-kept p (label_of_goal p g l) owner s now acts w

pub jump_by_list-kept : (p : Program) (gs : Option (List Goal)) (xs : List Operand) (g owner s line : ℕ) (now : Work) (acts : List Activation) (w : Words) → Kept w (jump_by_list p gs xs g owner s line now acts w)
jump_by_list-kept p None xs g owner s line now acts w = still w
jump_by_list-kept p (Some gs) [] g owner s line now acts w = still w
jump_by_list-kept p (Some gs) (Held c ∷ rest) g owner s line now acts w = still w
jump_by_list-kept p (Some gs) (Word z ∷ rest) g owner s line now acts w = jump_to_goal-kept p (goal_at gs z) g owner s line now acts w

pub jump_by_switch-kept : (p : Program) (n : Option (ℕ × ℕ)) (owner s line : ℕ) (now : Work) (acts : List Activation) (w : Words) → Kept w (jump_by_switch p n owner s line now acts w)
jump_by_switch-kept p None owner s line now acts w = still w
jump_by_switch-kept p (Some n) owner s line now acts w =
    jump_by_list-kept p (switch_in (slice_get p.units n.0) n.1) w.operands n.0 owner s line now acts w

pub jump_by_control-kept : (p : Program) (c : Option Control) (s line : ℕ) (now : Work) (acts : List Activation) (w : Words) → Kept w (jump_by_control p c s line now acts w)
jump_by_control-kept p None s line now acts w = still w
jump_by_control-kept p (Some (SwitchControl g n owner)) s line now acts w = jump_by_switch-kept p (Some (g, n)) owner s line now acts w
jump_by_control-kept p (Some (LabelControl g l owner)) s line now acts w = still w
jump_by_control-kept p (Some (ProcedureControl g q)) s line now acts w = still w

pub jump_step-kept : (p : Program) (d : Dest) (s line : ℕ) (now : Work) (acts : List Activation) (w : Words) → Kept w (jump_step p d s line now acts w)
jump_step-kept p (dest.Goal g) s line now acts w = jump_to-kept p (label_of_goal p (segment_of s acts) g) (length acts) s now acts w
jump_step-kept p (dest.Special k) s line now acts w = jump_to_control-kept p (control_at acts k) s now acts w
jump_step-kept p (dest.Switch n e) s line now acts w = jump_by_switch-kept p (Some (segment_of s acts, n)) (length acts) s line now acts w
jump_step-kept p (dest.CommonSwitch d e) s line now acts w =
    jump_by_switch-kept p (switch_of_def (definition_of p (segment_of s acts) d)) (length acts) s line now acts w
jump_step-kept p (dest.SpecialSwitch k e) s line now acts w = jump_by_control-kept p (control_at acts k) s line now acts w

-- ---- loops, choices and bodies

pub choose_with-kept : (f : ℤ → ℤ → Bool) (xs : List Operand) (s : ℕ) (now pass fail : Work) (acts : List Activation) (w : Words) → Kept w (choose_with f xs s now pass fail acts w)
choose_with-kept f (Word y ∷ Word x ∷ rest) s now pass fail acts w = still w
choose_with-kept f _ s now pass fail acts w = still w

pub element_step-kept : (p : Program) (e : Option Felem) (s i : ℕ) (c : Loop) (k : Work) (acts : List Activation) (w : Words) → Kept w (element_step p e s i c k acts w)
element_step-kept p None s i c k acts w = still w
element_step-kept p (Some e) s i c k acts w =
    let a : ℕ = address_at p s acts c.item + 3 in
    same (length w.memory) w.output (with_memory w (set w.memory a (pos i))) (length-set w.memory a (pos i)) refl

pub turn_step-kept : (p : Program) (b : Bool) (s a i : ℕ) (c : Loop) (now k : Work) (acts : List Activation) (w : Words) → Kept w (turn_step p b s a i c now k acts w)
turn_step-kept p false s a i c now k acts w = still w
turn_step-kept p true s a i c now k acts w = still w

pub next_body-kept : (p : Program) (u : Option SourceUnit) (s : ℕ) (acts : List Activation) (w : Words) → Kept w (next_body p u s acts w)
next_body-kept p None s acts w = still w
next_body-kept p (Some u) s acts w = still w

pub advance-kept : (p : Program) (s : ℕ) (k : Work) (acts : List Activation) (w : Words) → Kept w (advance p s k acts w)
advance-kept p s Nothing acts w = next_body-kept p (slice_get p.units (s + 1)) s acts w
advance-kept p s (Run t k) acts w = still w
advance-kept p s (Eval e f line k) acts w =
    in_unit-kept p (here p s acts)
    (λ u. at s (expression_work u (out-Expr e) f line k) acts (put_constant p (out-Expr e) s f acts w) Running)
    (stuck p s (Eval e f line k) acts w)
    w
    (λ u. put_constant-kept p (out-Expr e) s f acts w)
    (still w)
advance-kept p s (Address r line k) acts w = address_step-kept p (compares_in p (here p s acts)) (out-Ref r).at (out-Spot (out-Ref r).at) s line k acts w
advance-kept p s (FormAt spot line k) acts w =
    let o : Operation = Form (addressing_of p (out-Spot spot) s acts w) in
    after-kept (perform p.limits.area o w) s line (FormAt spot line k) k acts w (perform-keeps p.limits.area o w)
advance-kept p s (Do op line k) acts w = after-kept (perform p.limits.area op w) s line (Do op line k) k acts w (perform-keeps p.limits.area op w)
advance-kept p s (Test c line pass fail) acts w =
    in_unit-kept p (here p s acts) (λ u. at s (condition_work u (out-Cond c) line pass fail) acts w Running) (stuck p s (Test c line pass fail) acts w) w
    (λ u. still w)
    (still w)
advance-kept p s (Choose op line pass fail) acts w = choose_with-kept (holds op) w.operands s (Choose op line pass fail) pass fail acts w
advance-kept p s (Jump d line) acts w = jump_step-kept p d s line (Jump d line) acts w
advance-kept p s (Give a line k) acts w = give_step-kept p (out-Arg a) s line (Give a line k) k acts w
advance-kept p s (Enter t line wanted k) acts w =
    enter_step-kept p (callee_of p (segment_of s acts) acts t) s line wanted (Enter t line wanted k) k acts w
advance-kept p s Return acts w = come_back_with-kept w.operands s Return acts w
advance-kept p s Leave acts w = come_back-kept (pos 0) s Leave acts w
advance-kept p s (KeepAt n c k) acts w =
    let o : Operation = Keep (address_at p s acts c.item + n) in
    after-kept (perform p.limits.area o w) s c.line (KeepAt n c k) k acts w (perform-keeps p.limits.area o w)
advance-kept p s (SetVar c k) acts w =
    let o : Operation = SetVariable (address_at p s acts c.item) in
    after-kept (perform p.limits.area o w) s c.line (SetVar c k) k acts w (perform-keeps p.limits.area o w)
advance-kept p s (Element i c k) acts w = element_step-kept p (element_at c.elements i) s i c k acts w
advance-kept p s (Turn i c k) acts w =
    turn_step-kept p (is_below (word_at w.memory (address_at p s acts c.item)) p.limits.area) s (address_at p s acts c.item) i c (Turn i c k) k acts w
advance-kept p s (Bump i c k) acts w =
    let o : Operation = AddStep (address_at p s acts c.item) in
    after-kept (perform p.limits.area o w) s c.line (Bump i c k) (Turn i c k) acts w (perform-keeps p.limits.area o w)
advance-kept p s (On c k) acts w = still w

-- ---- runs

pub step-kept : (p : Program) (c : Configuration) → Kept (words_of c) (step p c)
step-kept p (at s k acts w Running) = advance-kept p s k acts w
step-kept p (at s k acts w Ended) = still w
step-kept p (at s k acts w (Stopped kind g line)) = still w
step-kept p (at s k acts w Stuck) = still w

pub join : (n : ℕ) (o : List ℕ) (v w : Words) → Follows n o v → Follows (length v.memory) v.output w → Follows n o w
join n o v w h k =
    record {
      same_length = k.same_length ∙ h.same_length;
      piece = h.piece ++ k.piece;
      grows = k.grows ∙ ap (λ xs. xs ++ k.piece) h.grows ∙ append_assoc o h.piece k.piece;
    }

-- after any number of steps there are as many data words, and what was written stays
pub steps-kept : (p : Program) (m : ℕ) (c : Configuration) → Kept (words_of c) (steps p m c)
steps-kept p zero c = still (words_of c)
steps-kept p (suc m) c =
    let w : Words = words_of c in
    join (length w.memory) w.output (words_of (step p c)) (words_of (steps p m (step p c))) (step-kept p c) (steps-kept p m (step p c))

-- a run that has ended or stopped stays as it is
abbrev pub IsOver : Configuration → Type 0
IsOver (at s k acts w Running) = ⊥
IsOver (at s k acts w Ended) = Unit {0}
IsOver (at s k acts w (Stopped kind g line)) = Unit {0}
IsOver (at s k acts w Stuck) = Unit {0}

pub over-stays : (p : Program) (m : ℕ) (c : Configuration) → IsOver c → steps p m c ≡ c
over-stays p zero c h = refl
over-stays p (suc m) (at s k acts w Running) h = absurd h
over-stays p (suc m) (at s k acts w Ended) h = over-stays p m (at s k acts w Ended) h
over-stays p (suc m) (at s k acts w (Stopped kind g line)) h = over-stays p m (at s k acts w (Stopped kind g line)) h
over-stays p (suc m) (at s k acts w Stuck) h = over-stays p m (at s k acts w Stuck) h

-- ---- from the start

words_from-length : (filled : List (ℕ × ℕ)) (a n : ℕ) → length (words_from filled a n) ≡ n
words_from-length filled a zero = refl
words_from-length filled a (suc n) = ap suc (words_from-length filled (a + 1) n)

steps-suc : (p : Program) (m : ℕ) (c : Configuration) → steps p (m + 1) c ≡ step p (steps p m c)
steps-suc p zero c = refl
steps-suc p (suc m) c = let e : suc m + 1 ≡ suc (m + 1) = omega arith in ap (λ k. steps p k c) e ∙ steps-suc p m (step p c)

steps-add : (p : Program) (m n : ℕ) (c : Configuration) → steps p (m + n) c ≡ steps p n (steps p m c)
steps-add p zero n c = let e : 0 + n ≡ n = omega arith in ap (λ k. steps p k c) e
steps-add p (suc m) n c = let e : suc m + n ≡ suc (m + n) = omega arith in ap (λ k. steps p k c) e ∙ steps-add p m n (step p c)

pub memory-length : (p : Program) (input : List ℕ) (m : ℕ) → length (words_of (configuration_after p input m)).memory ≡ p.limits.area
memory-length p input m =
    (steps-kept p m (initial_configuration p input)).same_length ∙ words_from-length (filled_words p.units p.addresses) 0 p.limits.area

shown-output : (c : Configuration) → (shown c).output ≡ (words_of c).output
shown-output (at s k acts w e) = refl

pub output-grows : (p : Program) (input : List ℕ) (m n : ℕ) → (piece : List ℕ) × ((observed p input (m + n)).output ≡ (observed p input m).output ++ piece)
output-grows p input m n =
    let c : Configuration = configuration_after p input m in
    let f : Kept (words_of c) (steps p n c) = steps-kept p n c in (
      f.piece,
      ap (λ x. (shown x).output) (steps-add p m n (initial_configuration p input)) ∙ shown-output (steps p n c) ∙ f.grows
          ∙ sym (ap (λ o. o ++ f.piece) (shown-output c)),
    )

over-from : (c : Configuration) → (shown c).end ≢ Running → IsOver c
over-from (at s k acts w Running) h = h refl
over-from _ h = tt

pub shows-same : (p : Program) (input : List ℕ) (m n : ℕ) → (observed p input m).end ≢ Running → observed p input (m + n) ≡ observed p input m
shows-same p input m n h =
    let start : Configuration = initial_configuration p input in
    ap shown (steps-add p m n start ∙ over-stays p n (steps p m start) (over-from (steps p m start) h))
