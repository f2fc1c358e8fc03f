-- Each configuration of a run of well-formed units is coherent, and its calls keep no more words than the control stack needs.
use Rattle.std.proofs.Common.{◌≡◌, ℕ, zero, suc, ◌+◌, ◌*◌, ◌-◌, ◌≤◌, ℤ, List, [], ◌∷◌, map, length, Bool, true, false, IsTrue, ◌&&◌, Option, Some, None, nat_eq, refl, sym, ap, ap₂, subst, ◌∙◌, arith, slice_get}
use Rattle.std.proofs.lemmas.List.{length-map}
use Rattle.std.proofs.lemmas.Nat.{mul-le}
use Rattle.std.proofs.lemmas.Option.{none-some, same_Some}
use Rattle.cw_unit.specs.declared.unit.Unit.{Unit as SourceUnit}
use Rattle.cw_unit.specs.declared.unit.Proc.{Proc}
use Rattle.cw_unit.specs.declared.unit.Label.{Label}
use Rattle.cw_unit.specs.declared.unit.Goal.{Goal}
use Rattle.cw_unit.specs.declared.unit.Dest.{Dest}
use Rattle.cw_unit.specs.declared.unit.Dest.TheVariants as dest
use Rattle.cw_unit.specs.declared.unit.Target.{Target}
use Rattle.cw_unit.specs.declared.unit.Target.TheVariants as target
use Rattle.cw_unit.specs.declared.unit.Arg.TheOpen as layer
use Rattle.cw_unit.specs.Program.{Program, definition_of}
use Rattle.cw_unit.specs.Words.{Control, LabelControl, SwitchControl, ProcedureControl, Operand, Word, Held, Words}
use Rattle.cw_unit.specs.Work.{Work, Nothing, Jump, Enter}
use Rattle.cw_unit.specs.Configuration.{Configuration, at, Activation, activations_of, segment_of, control_at, procedure_at, procedure_in}
use Rattle.cw_unit.specs.StackBound.{body_need, procedures_need, unit_need, largest_need, control_need, body_depth}
use Rattle.cw_unit.specs.Step.{here, compares_in, Callee, Reading, Writing, Calling, Missing, callee_of_place, callee_of_control, callee_of, procedure_of_def, kept, label_of_goal, switch_of_def, switch_in, goal_at}
use Rattle.cw_unit.specs.Behaviour.{configuration_after}
use Rattle.cw_safety.specs.Kinds.{Taken, Kind, WordKind, LabelKind, SwitchKind, ProcedureKind, weigh, kind_of_param, parameter_kinds}
use Rattle.cw_safety.specs.WellFormed.{WellFormed, is_at, sets_in_procedure, reaches_label, reaches_unit, reaches, reaches_goals, reaches_list, reaches_switch, takes_arguments, parameter_takes, procedure_of_place, controls_of, is_call, is_label, is_switch}
use Rattle.cw_safety.specs.Depth.{owner_of, operands_held, depth_at, depth_of_unit, depth_of_procedure}
use Rattle.cw_safety.specs.Coherent.{argument_words, stack_words, words_held, IsOwned, Names, LieBetween, Coherent, IsCoherent}
use Rattle.cw_safety.proofs.Truth.{no, both, nat_same}
use Rattle.cw_safety.proofs.Typing.{Hand, Plain, Between, AreBetween, onto, Pop, ControlFits, HaveKinds, CanJump, Typed, Calls, Holds, Safe}
use Rattle.cw_safety.proofs.Jumping.{label-of, switch-of, control-fits, goal_at-reached, named-here, switched-here}
use Rattle.cw_safety.proofs.Calling.{kinds-same, kinds-length, unit_of-procedure, suited}
use Rattle.cw_safety.proofs.Stepping.{run-safe, held-weighs}

pub length-onto : (args : List Kind) (rest : List Hand) → length (onto args rest) ≡ length args + length rest
length-onto [] rest = omega arith
length-onto (k ∷ args) rest = omega (arith, length-onto args (Plain k ∷ rest))

module _ (p : Program) where
  -- what a call calls takes these arguments
  abbrev Takes : Callee → List Kind → Type 0
  Takes (Calling h n) args = IsTrue (takes_arguments (procedure_at p h n) args)
  Takes _ args = Unit {0}

  module _ (wf : WellFormed p) where
    -- ---- owners

    at-work : (h q : ℕ) (o : Option (ℕ × ℕ)) → IsTrue (is_at h q o) → o ≡ Some (h, q)
    at-work h q None i = no i
    at-work h q (Some (g, n)) i =
        let same = both (nat_eq g h) (nat_eq n q) i in ap₂ (λ x y. Some (x, y)) (nat_same g h same.0) (nat_same n q same.1)

    owned : (acts : List Activation) (h label owner : ℕ) → IsTrue (reaches p (owner_of (kept owner acts)) (Some (h, label))) → IsOwned p acts h label owner
    owned acts h label owner r v m q v-is m-is q-is =
        let o : Option (ℕ × ℕ) = owner_of (kept owner acts) in
        let in_unit = subst (λ x. IsTrue (reaches_unit x h label o)) v-is r in
        let of_label = subst (λ x. IsTrue (reaches_label v x h label o)) m-is in_unit in
        let parts = subst (λ x. IsTrue (reaches_label v (Some (record m { proc = x })) h label o)) q-is of_label in
        at-work h q o (both (is_at h q o) (sets_in_procedure label (slice_get v.procs q)) parts).0

    by-switch : (o : Option (ℕ × ℕ)) (h0 n0 : ℕ) (gs : List Goal) (x : Goal) (z : ℤ) (h label : ℕ) → IsTrue (reaches_switch p o (Some (h0, n0))) → switch_in (slice_get p.units h0) n0 ≡ Some gs → goal_at gs z ≡ Some x → label_of_goal p h0 x ≡ Some (h, label) → IsTrue (reaches p o (Some (h, label)))
    by-switch o h0 n0 gs x z h label r gs-is x-is is =
        subst (λ y. IsTrue (reaches p o y)) is (goal_at-reached p wf o h0 gs z x (subst (λ y. IsTrue (reaches_list p o h0 y)) gs-is r) x-is)

    -- here the last activation is the owner
    owned-here : (acts : List Activation) (h label owner : ℕ) → owner ≡ length acts → IsTrue (reaches p (owner_of acts) (Some (h, label))) → IsOwned p acts h label owner
    owned-here acts h label owner e r = owned acts h label owner (subst (λ n. IsTrue (reaches p (owner_of (kept n acts)) (Some (h, label)))) (sym e) (named-here p wf acts (Some (h, label)) r))

    jump-owned : (d : Dest) (s : ℕ) (acts : List Activation) (ks : List Hand) → Calls p s acts → CanJump p (segment_of s acts) (owner_of acts) (depth_at p s acts) d ks → (h label owner : ℕ) → Names p s acts d h label owner → IsOwned p acts h label owner
    jump-owned (dest.Goal g) s acts ks calls j h label owner n = owned-here acts h label owner n.1 (subst (λ x. IsTrue (reaches p (owner_of acts) x)) n.0 j.1)
    jump-owned (dest.Special k) s acts ks calls j h label owner n =
        let f = control-fits p s acts calls k LabelKind (label-of (slice_get (controls_of p (owner_of acts)) k) j) in
        let same : f.0 ≡ LabelControl h label owner = same_Some f.0 (LabelControl h label owner) (sym f.1 ∙ n) in
        owned acts h label owner (subst (λ c. ControlFits p acts c LabelKind) same f.2).1
    jump-owned (dest.Switch m e) s acts ks calls j h label owner (gs, x, z, gs-is, x-is, is, o) =
        owned-here acts h label owner o (by-switch (owner_of acts) (segment_of s acts) m gs x z h label j.1 gs-is x-is is)
    jump-owned (dest.CommonSwitch d e) s acts ks calls j h label owner (h0, n0, gs, x, z, d-is, gs-is, x-is, is, o) =
        owned-here acts h label owner o (by-switch (owner_of acts) h0 n0 gs x z h label (subst (λ y. IsTrue (reaches_switch p (owner_of acts) y)) d-is j.1) gs-is x-is is)
    jump-owned (dest.SpecialSwitch k e) s acts ks calls j h label owner (h0, n0, gs, x, z, c-is, gs-is, x-is, is) =
        let f = control-fits p s acts calls k SwitchKind (switch-of (slice_get (controls_of p (owner_of acts)) k) j.1) in
        let same : f.0 ≡ SwitchControl h0 n0 owner = same_Some f.0 (SwitchControl h0 n0 owner) (sym f.1 ∙ c-is) in
        owned acts h label owner (by-switch (owner_of (kept owner acts)) h0 n0 gs x z h label (subst (λ c. ControlFits p acts c SwitchKind) same f.2).1 gs-is x-is is)

    -- ---- arguments

    place-takes : (x : Option (ℕ × ℕ)) (args : List Kind) → IsTrue (takes_arguments (procedure_of_place p x) args) → Takes (callee_of_place x) args
    place-takes None args r = tt
    place-takes (Some q) args r = r

    control-takes : (c : Control) (ts : List Taken) (acts : List Activation) (args : List Kind) → ControlFits p acts c (ProcedureKind ts) → IsTrue (parameter_takes (Some (ProcedureKind ts)) args) → Takes (callee_of_control (Some c)) args
    control-takes (LabelControl g l owner) ts acts args f r = absurd f
    control-takes (SwitchControl g l owner) ts acts args f r = absurd f
    control-takes (ProcedureControl g q) ts acts args f r = suited p wf (procedure_at p g q) ts args f r

    parameter-takes : (s : ℕ) (acts : List Activation) (n : ℕ) (x : Option Kind) (args : List Kind) → Calls p s acts → slice_get (controls_of p (owner_of acts)) n ≡ x → IsTrue (parameter_takes x args) → Takes (callee_of_control (control_at acts n)) args
    parameter-takes s acts n None args calls e r = no r
    parameter-takes s acts n (Some WordKind) args calls e r = no r
    parameter-takes s acts n (Some LabelKind) args calls e r = no r
    parameter-takes s acts n (Some SwitchKind) args calls e r = no r
    parameter-takes s acts n (Some (ProcedureKind ts)) args calls e r =
        let c = control-fits p s acts calls n (ProcedureKind ts) e in
        subst (λ x. Takes (callee_of_control x) args) (sym c.1) (control-takes c.0 ts acts args c.2 r)

    call-takes : (t : Target) (s : ℕ) (acts : List Activation) (wanted : Bool) (args : List Kind) → Calls p s acts → IsTrue (is_call p (segment_of s acts) (owner_of acts) wanted t (Some args)) → Takes (callee_of p (segment_of s acts) acts t) args
    call-takes (target.Own q) s acts wanted args calls r = r
    call-takes (target.Common d) s acts wanted args calls r = place-takes (procedure_of_def (definition_of p (segment_of s acts) d)) args r
    call-takes (target.Special n f) s acts wanted args calls r = parameter-takes s acts n (slice_get (controls_of p (owner_of acts)) n) args calls refl r
    call-takes target.Read s acts wanted args calls r = tt
    call-takes target.Write s acts wanted args calls r = tt

    enough : (s : ℕ) (now : Work) (acts : List Activation) (w : Words) (t : Target) (wanted : Bool) (args : List Kind) (rest : List Hand) (h n : ℕ) (q : Proc) → (i : Holds p s now acts w) → i.3 ≡ onto args rest → IsTrue (is_call p (segment_of s acts) (owner_of acts) wanted t (Some args)) → callee_of p (segment_of s acts) acts t ≡ Calling h n → procedure_at p h n ≡ Some q → length q.params ≤ length w.operands
    enough s now acts w t wanted args rest h n q i f call callee found =
        let takes = subst (λ x. Takes x args) callee (call-takes t s acts wanted args i.2 call) in
        let same : args ≡ parameter_kinds q = kinds-same args (parameter_kinds q) (subst (λ x. IsTrue (takes_arguments x args)) found takes) in
        let held = kinds-length p acts w.operands i.3 i.4 in
        let all : length i.3 ≡ length args + length rest = ap length f ∙ length-onto args rest in
        let as_many : length args ≡ length q.params = ap length same ∙ length-map q.params kind_of_param in
        let l : length q.params ≤ length w.operands = omega (arith, held, all, as_many) in
        l

    -- ---- what each configuration keeps

    nothing-held : (acts : List Activation) (xs : List Operand) (ks : List Hand) → ks ≡ [] → HaveKinds p acts xs ks → xs ≡ []
    nothing-held acts [] ks e h = refl
    nothing-held acts (x ∷ xs) ks e h = absurd (subst (HaveKinds p acts (x ∷ xs)) e h)

    nothing-left : (ks : List Hand) → Pop (λ r. r ≡ []) ks → length ks ≡ 1
    nothing-left [] h = absurd h
    nothing-left (Plain WordKind ∷ ks) h = ap (λ r. suc (length r)) h
    nothing-left (Plain LabelKind ∷ ks) h = absurd h
    nothing-left (Plain SwitchKind ∷ ks) h = absurd h
    nothing-left (Plain (ProcedureKind ts) ∷ ks) h = absurd h
    nothing-left (Between l u ∷ ks) h = ap (λ r. suc (length r)) h

    lie-between : (acts : List Activation) (l1 u1 l2 u2 : ℤ) (xs : List Operand) (ks : List Hand) → HaveKinds p acts xs (Between l2 u2 ∷ Between l1 u1 ∷ ks) → LieBetween l1 u1 l2 u2 xs
    lie-between acts l1 u1 l2 u2 [] ks h = absurd h
    lie-between acts l1 u1 l2 u2 (Held c ∷ xs) ks h = absurd h.0
    lie-between acts l1 u1 l2 u2 (Word y ∷ []) ks h = absurd h.1
    lie-between acts l1 u1 l2 u2 (Word y ∷ Held c ∷ xs) ks h = absurd h.1.0
    lie-between acts l1 u1 l2 u2 (Word y ∷ Word x ∷ xs) ks h = record { row = x; column = y; rest = xs; is = refl; row_between = h.1.0; column_between = h.0 }

    no-calls : (acts : List Activation) → owner_of acts ≡ None → acts ≡ []
    no-calls [] e = refl
    no-calls (a ∷ acts) e = absurd (none-some (a.segment, a.procedure) (sym e))

    call-found : (s : ℕ) (acts : List Activation) → Calls p s acts → (n : ℕ) (a : Activation) → slice_get acts n ≡ Some a → (q : Proc) × (procedure_at p a.segment a.procedure ≡ Some q)
    call-found s [] c n a e = absurd (none-some a e)
    call-found s (b ∷ acts) c zero a e = subst (λ x. (q : Proc) × (procedure_at p x.segment x.procedure ≡ Some q)) (same_Some b a e) (c.0, c.1)
    call-found s (b ∷ acts) c (suc n) a e = call-found s acts c.8 n a e

    coherent : (s : ℕ) (k : Work) (acts : List Activation) (w : Words) → Holds p s k acts w → Coherent p s k acts w
    coherent s k acts w i = record {
      procedures = call-found s acts i.2;
      arguments = λ t line wanted next e h n q callee found.
          let j = subst (λ x. Holds p s x acts w) e i in enough s (Enter t line wanted next) acts w t wanted j.6.0 j.6.1 h n q j j.6.2 j.6.3 callee found;
      empty = λ g line e. let j = subst (λ x. Holds p s x acts w) e i in nothing-held acts w.operands j.3 j.6.0 j.4;
      alone = λ n a line e. let j = subst (λ x. Holds p s x acts w) e i in kinds-length p acts w.operands j.3 j.4 ∙ nothing-left j.3 j.6.0;
      owners = λ d line e h label owner n. let j = subst (λ x. Holds p s x acts w) e i in jump-owned d s acts j.3 j.2 j.6 h label owner n;
      compared = λ spot line next e compares item l1 u1 l2 u2 n d g is.
          let j = subst (λ x. Holds p s x acts w) e i in
          let two : AreBetween (layer.Two item l1 u1 l2 u2 n d g) true j.3 = subst (λ b. AreBetween (layer.Two item l1 u1 l2 u2 n d g) b j.3) compares (subst (λ x. AreBetween x (compares_in p (here p s acts)) j.3) is j.6.1) in
          lie-between acts l1 u1 l2 u2 w.operands two.0 (subst (HaveKinds p acts w.operands) two.1 j.4);
      ends = λ e. let j = subst (λ x. Holds p s x acts w) e i in (no-calls acts j.6.1, nothing-held acts w.operands j.3 j.6.0 j.4);
    }

    is-coherent : (c : Configuration) → Safe p c → IsCoherent p c
    is-coherent (at s k acts w e) h = coherent s k acts w h.1

    pub run-coherent : (input : List ℕ) (m : ℕ) → IsCoherent p (configuration_after p input m)
    run-coherent input m = is-coherent (configuration_after p input m) (run-safe p wf input m)

  -- ---- words

  unit-within : (us : List SourceUnit) (g : ℕ) (u : SourceUnit) → slice_get us g ≡ Some u → unit_need u ≤ largest_need us
  unit-within [] g u e = absurd (none-some u e)
  unit-within (v ∷ us) zero u e = omega (arith, ap unit_need (same_Some v u e))
  unit-within (v ∷ us) (suc g) u e = omega (arith, unit-within us g u e)

  procedure-within : (qs : List Proc) (n : ℕ) (q : Proc) → slice_get qs n ≡ Some q → body_need q.specials q.body ≤ procedures_need qs
  procedure-within [] n q e = absurd (none-some q e)
  procedure-within (x ∷ qs) zero q e = omega (arith, ap (λ y. body_need y.specials y.body) (same_Some x q e))
  procedure-within (x ∷ qs) (suc n) q e = omega (arith, procedure-within qs n q e)

  -- the record of a body and what it may have in hand
  depth-within : (s : ℕ) (acts : List Activation) (u : SourceUnit) → slice_get p.units s ≡ Some u → Calls p s acts → 8 + depth_at p s acts ≤ largest_need p.units
  depth-within s [] u e c =
      let deep : depth_of_unit (slice_get p.units s) ≡ body_depth u.body = ap depth_of_unit e in omega (arith, unit-within p.units s u e, deep)
  depth-within s (a ∷ acts) u e c =
      let v = unit_of-procedure (slice_get p.units a.segment) a.procedure c.0 c.1 in
      let deep : depth_of_procedure (procedure_at p a.segment a.procedure) ≡ body_depth c.0.body = ap depth_of_procedure c.1 in
      omega (arith, unit-within p.units a.segment v.0 v.1, procedure-within v.0.procs a.procedure c.0 v.2, deep)

  hand-first : (xs : List Operand) (acts : List Activation) → stack_words p xs acts ≡ operands_held xs + stack_words p [] acts
  hand-first xs [] = omega arith
  hand-first xs (a ∷ acts) = omega arith

  calls-within : (s : ℕ) (acts : List Activation) (u : SourceUnit) → slice_get p.units s ≡ Some u → Calls p s acts → 8 + depth_at p s acts + stack_words p [] acts ≤ suc (length acts) * largest_need p.units
  calls-within s [] u e c =
      let once : 1 * largest_need p.units ≡ largest_need p.units = grind arith in omega (arith, depth-within s [] u e c, once)
  calls-within s (a ∷ acts) u e c =
      let n : ℕ = largest_need p.units in
      let more : suc (suc (length acts)) * n ≡ n + suc (length acts) * n = grind arith in
      let args : argument_words (procedure_at p a.segment a.procedure) ≡ weigh (parameter_kinds c.0) = ap argument_words c.1 in
      let held = held-weighs p acts a.operands c.3 c.4 in
      let below = calls-within s acts u e c.8 in
      let here = depth-within s (a ∷ acts) u e c in
      let first = hand-first a.operands acts in
      let within = c.6 in
      omega (arith, more, args, held, below, here, first, within)

  within-sum : (x below hand depth calls m : ℕ) → hand ≤ depth → 8 + depth + below ≤ calls → calls ≤ m → x ≡ hand + below → x + 72 ≤ m + 64
  within-sum x below hand depth calls m a b c e = omega (arith, a, b, c, e)

  words-within : (c : Configuration) → Safe p c → length (activations_of c) ≤ p.limits.depth → words_held p c + 72 ≤ control_need p.units p.limits.depth
  words-within (at s k acts w e) h l =
      let i = h.1 in
      let n : ℕ = largest_need p.units in
      let all : suc (length acts) * n ≤ (p.limits.depth + 1) * n = mul-le (suc (length acts)) n (p.limits.depth + 1) n (omega (arith, l)) (omega arith) in
      let calls = calls-within s acts i.0 i.1 i.2 in
      let held = held-weighs p acts w.operands i.3 i.4 in
      let hand = i.5 in
      let m : ℕ = (p.limits.depth + 1) * n in
      let first : stack_words p w.operands acts ≡ operands_held w.operands + stack_words p [] acts = hand-first w.operands acts in
      let sum : stack_words p w.operands acts + 72 ≤ m + 64 = within-sum (stack_words p w.operands acts) (stack_words p [] acts) (operands_held w.operands) (depth_at p s acts) (suc (length acts) * n) m (omega (arith, held, hand)) calls all first in
      sum

  pub run-within : (input : List ℕ) (m : ℕ) → WellFormed p → length (activations_of (configuration_after p input m)) ≤ p.limits.depth → words_held p (configuration_after p input m) + 72 ≤ control_need p.units p.limits.depth
  run-within input m wf l = words-within (configuration_after p input m) (run-safe p wf input m) l
