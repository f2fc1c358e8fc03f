-- A call is a lead of the body at work, and the called body finds in its parameters what it takes; a return finds what the call kept.
use Rattle.std.proofs.Common.{◌≡◌, ℕ, zero, suc, ◌+◌, ◌≤◌, ◌<◌, ℤ, List, [], ◌∷◌, ◌++◌, length, drop, Bool, true, false, Option, Some, None, nat_lt, nat_le, nat_eq, if◌then◌else◌, refl, sym, ap, subst, ◌∙◌, arith, append_assoc, set}
use Rattle.std.specs.Prelude.{slice_get}
use Rattle.std.specs.List.{AllByRecursion}
use Rattle.std.proofs.lemmas.Bool.{eq-eqb, ne_eqb, ltb-false}
use Rattle.std.proofs.lemmas.List.{append-nil}
use Rattle.std.proofs.lemmas.Option.{none-some, same_Some}
use Rattle.cw_unit.specs.declared.unit.Unit.{Unit as SourceUnit}
use Rattle.cw_unit.specs.declared.unit.Proc.{Proc}
use Rattle.cw_unit.specs.declared.unit.Param.{Param}
use Rattle.cw_unit.specs.declared.unit.Param.TheVariants as param
use Rattle.cw_unit.specs.declared.unit.Target.{Target}
use Rattle.cw_unit.specs.declared.unit.Target.TheVariants as target
use Rattle.cw_unit.specs.declared.descriptor.Spec.{Spec}
use Rattle.cw_unit.specs.Program.{Program, definition_for, definition_of, item_address}
use Rattle.cw_unit.specs.Words.{Control, LabelControl, SwitchControl, ProcedureControl, Operand, Word, Held, Words, Outcome, Changed, Refused, Impossible}
use Rattle.cw_unit.specs.Operation.{ReadByte, WriteByte, perform}
use Rattle.cw_unit.specs.Work.{Work}
use Rattle.cw_unit.specs.Configuration as configuration
use Rattle.cw_unit.specs.Configuration.{Activation, control_at, frame_size_of, frame_top}
use Rattle.cw_unit.specs.Step.{after, procedure_of_def, callee_of_place, callee_of_control, callee_of, Bound, bind_all, first_operands, begun, handed, come_back, come_back_with, read_step, enter_framed, enter_procedure, enter_step}
use Rattle.cw_graph.specs.Chains.{IsChain}
use Rattle.cw_depth.specs.declared.node.Node.TheVariants.{Body, Procedure}
use Rattle.cw_depth.specs.declared.mention.Mention.TheVariants as mention
use Rattle.cw_depth.specs.Mentions as mentions
use Rattle.cw_depth.specs.CallGraph as graph
use Rattle.cw_depth.specs.CallGraph.{segment_of, Mentioned, IsHanded, Leads, procedure_at, named_by, spec_of, spec_in, spec_in_procedure, parameter_of}
use Rattle.cw_deepest.specs.Programs.Fitting.{taken_in, AreNumbered, at_place, spec_if, Takes, scope_of, CallsFit}
use Rattle.cw_deepest.proofs.Programs.Holding.{controls, onto, Has, perform-keeps, all-parted}
use Rattle.cw_deepest.proofs.Programs.Typing.{node_of, Suits, Suit, Typed, Chained, Sound}
use Rattle.cw_deepest.proofs.Programs.Chaining.{node-segment, grown, procedure-stands}

-- ---- what a procedure takes

-- what is bound, if anything is: these controls, as many as are taken
abbrev Got : Option Bound → List Control → (found taken : ℕ) → Type 0
Got None cs n m = Unit {0}
Got (Some b) cs n m = (b.controls ≡ cs) × (n ≡ m)

got-more : (o : Option Bound) (cs ds : List Control) (c : Control) (n m : ℕ) → Got o ((cs ++ c ∷ []) ++ ds) n m → Got o (cs ++ c ∷ ds) (suc n) (suc m)
got-more None cs ds c n m h = tt
got-more (Some b) cs ds c n m h = (h.0 ∙ append_assoc cs (c ∷ []) ds, ap suc h.1)

bound : (f : ℕ → ℕ) (qs : List Param) (xs : List Operand) (b : Bound) → Got (bind_all f qs xs (Some b)) (b.controls ++ controls xs) (length (controls xs)) (length (taken_in qs))
bound f [] [] b = (sym (append-nil b.controls), refl)
bound f [] (x ∷ xs) b = tt
bound f (q ∷ qs) [] b = tt
bound f (param.Value i s ∷ qs) (Word z ∷ xs) b = bound f qs xs (record b { memory = set b.memory (f i) z })
bound f (param.Location i s ∷ qs) (Word z ∷ xs) b = bound f qs xs (record b { memory = set b.memory (f i) z })
bound f (param.Array i s ∷ qs) (Word z ∷ xs) b = bound f qs xs (record b { memory = set b.memory (f i) z })
bound f (param.Table i n ∷ qs) (Word z ∷ xs) b = bound f qs xs (record b { memory = set b.memory (f i) z })
bound f (param.Value i s ∷ qs) (Held c ∷ xs) b = tt
bound f (param.Location i s ∷ qs) (Held c ∷ xs) b = tt
bound f (param.Array i s ∷ qs) (Held c ∷ xs) b = tt
bound f (param.Table i n ∷ qs) (Held c ∷ xs) b = tt
bound f (param.Label k ∷ qs) (Word z ∷ xs) b = tt
bound f (param.Switch k ∷ qs) (Word z ∷ xs) b = tt
bound f (param.Proc k s ∷ qs) (Word z ∷ xs) b = tt
bound f (param.Label k ∷ qs) (Held c ∷ xs) b =
    let b' : Bound = record b { controls = b.controls ++ c ∷ [] } in
    got-more (bind_all f qs xs (Some b')) b.controls (controls xs) c (length (controls xs)) (length (taken_in qs)) (bound f qs xs b')
bound f (param.Switch k ∷ qs) (Held c ∷ xs) b =
    let b' : Bound = record b { controls = b.controls ++ c ∷ [] } in
    got-more (bind_all f qs xs (Some b')) b.controls (controls xs) c (length (controls xs)) (length (taken_in qs)) (bound f qs xs b')
bound f (param.Proc k s ∷ qs) (Held c ∷ xs) b =
    let b' : Bound = record b { controls = b.controls ++ c ∷ [] } in
    got-more (bind_all f qs xs (Some b')) b.controls (controls xs) c (length (controls xs)) (length (taken_in qs)) (bound f qs xs b')

-- the specification of a control parameter is that of its number
pub spec-numbered : (params : List Param) (n j k : ℕ) (s : Spec) → k ≡ n + j → AreNumbered n params → slice_get (taken_in params) j ≡ Some (Some s) → spec_in k params ≡ Some s
spec-numbered [] n j k s e h t = absurd (none-some (Some s) t)
spec-numbered (param.Value i f ∷ params) n j k s e h t = spec-numbered params n j k s e h t
spec-numbered (param.Location i f ∷ params) n j k s e h t = spec-numbered params n j k s e h t
spec-numbered (param.Array i f ∷ params) n j k s e h t = spec-numbered params n j k s e h t
spec-numbered (param.Table i m ∷ params) n j k s e h t = spec-numbered params n j k s e h t
spec-numbered (param.Label i ∷ params) n zero k s e h t = absurd (none-some s (same_Some None (Some s) t))
spec-numbered (param.Label i ∷ params) n (suc j) k s e h t = spec-numbered params (n + 1) j k s (omega (arith, e)) h.1 t
spec-numbered (param.Switch i ∷ params) n zero k s e h t = absurd (none-some s (same_Some None (Some s) t))
spec-numbered (param.Switch i ∷ params) n (suc j) k s e h t = spec-numbered params (n + 1) j k s (omega (arith, e)) h.1 t
spec-numbered (param.Proc i s' ∷ params) n zero k s e h t =
    let i-is : i ≡ k = omega (arith, e, h.0) in
    ap (λ x. if nat_eq x k then Some s' else spec_in k params) i-is ∙ ap (λ b. if b then Some s' else spec_in k params) (eq-eqb k k refl) ∙ same_Some (Some s') (Some s) t
spec-numbered (param.Proc i s' ∷ params) n (suc j) k s e h t =
    ap (λ b. if b then Some s' else spec_in k params) (ne_eqb i k (λ same. omega (arith, e, h.0, same))) ∙ spec-numbered params (n + 1) j k s (omega (arith, e)) h.1 t

-- ---- what is held

module _ (us : List SourceUnit) where
  suit-onto : (cs ds : List Control) (taken rest : List (Option Spec)) → length cs ≡ length taken → Suit us (onto cs ds) (onto taken rest) → Suit us cs taken × Suit us ds rest
  suit-onto [] ds [] rest e h = (tt, h)
  suit-onto [] ds (t ∷ taken) rest e h = absurd (omega (arith, e))
  suit-onto (c ∷ cs) ds [] rest e h = absurd (omega (arith, e))
  suit-onto (c ∷ cs) ds (t ∷ taken) rest e h =
      let more = suit-onto cs (c ∷ ds) taken (t ∷ rest) (omega (arith, e)) h in ((more.1.0, more.0), more.1.1)

  pub suit-at : (cs : List Control) (os : List (Option Spec)) (k : ℕ) (c : Control) → Suit us cs os → slice_get cs k ≡ Some c → (o : Option Spec) × ((slice_get os k ≡ Some o) × Suits us c o)
  suit-at [] [] k c h e = absurd (none-some c e)
  suit-at [] (o ∷ os) k c h e = absurd h
  suit-at (x ∷ cs) [] k c h e = absurd h
  suit-at (x ∷ cs) (o ∷ os) zero c h e = (o, (refl, subst (λ y. Suits us y o) (same_Some x c e) h.0))
  suit-at (x ∷ cs) (o ∷ os) (suc k) c h e = suit-at cs os k c h.1 e

  -- a procedure in a control parameter has the parameter's specification
  pub held-fits : (s : ℕ) (acts : List Activation) → CallsFit us → Chained us s acts → (k : ℕ) (c : Control) → control_at acts k ≡ Some c → Suits us c (parameter_of us (node_of s acts) k)
  held-fits s [] fit h k c e = absurd (none-some c e)
  held-fits s (a ∷ acts) fit h k (LabelControl g l owner) e = tt
  held-fits s (a ∷ acts) fit h k (SwitchControl g l owner) e = tt
  held-fits s (a ∷ acts) fit h k (ProcedureControl g q) e =
      let found = suit-at a.controls (taken_in h.1.params) k (ProcedureControl g q) h.3 e in (
        found.1.1.0,
        λ x there.
            let is : slice_get (taken_in h.1.params) k ≡ Some (Some (spec_of x)) = found.1.0 ∙ ap (λ o. Some o) (found.1.1.1 x there) in
            ap (spec_in_procedure k) h.2 ∙ spec-numbered h.1.params 0 k k (spec_of x) (omega arith) (fit.numbered a.segment a.procedure h.1 h.2) is,
      )

module _ (p : Program) where
  pub named : (o : Option SourceUnit) (d : ℕ) → named_by p.units o d ≡ procedure_of_def (definition_for p o d)
  named None d = refl
  named (Some u) d = refl

  -- what a segment's descriptor names, from the body at work
  pub named-here : (s : ℕ) (acts : List Activation) (d : ℕ) → named_by p.units (slice_get p.units (segment_of (node_of s acts))) d ≡ procedure_of_def (definition_of p (configuration.segment_of s acts) d)
  named-here s acts d = ap (λ g. named_by p.units (slice_get p.units g) d) (node-segment s acts) ∙ named (slice_get p.units (configuration.segment_of s acts)) d

  pub after-sound : (o : Outcome) (s line : ℕ) (now next : Work) (acts : List Activation) (w : Words) (cs : List Control) (os : List (Option Spec)) → Chained p.units s acts → Has cs o → Suit p.units cs os → Typed p.units (node_of s acts) next os → Sound p.units (after o s line now next acts w)
  after-sound (Changed v) s line now next acts w cs os c h i t = (c, os, subst (λ x. Suit p.units x os) (sym h) i, t)
  after-sound (Refused kind) s line now next acts w cs os c h i t = h
  after-sound Impossible s line now next acts w cs os c h i t = tt

  -- ---- returns

  handed-suit : (wanted : Bool) (z : ℤ) (xs : List Operand) (os : List (Option Spec)) → Suit p.units (controls xs) os → Suit p.units (controls (handed wanted z xs)) os
  handed-suit true z xs os h = h
  handed-suit false z xs os h = h

  pub come_back-sound : (z : ℤ) (s : ℕ) (now : Work) (acts : List Activation) (w : Words) → Chained p.units s acts → Sound p.units (come_back z s now acts w)
  come_back-sound z s now [] w c = tt
  come_back-sound z s now (a ∷ acts) w c = (c.7, c.4, handed-suit a.wanted z a.operands c.4 c.5, c.6)

  pub come_back_with-sound : (xs : List Operand) (s : ℕ) (now : Work) (acts : List Activation) (w : Words) → Chained p.units s acts → Sound p.units (come_back_with xs s now acts w)
  come_back_with-sound [] s now acts w c = tt
  come_back_with-sound (Word z ∷ xs) s now acts w c = come_back-sound z s now acts w c
  come_back_with-sound (Held x ∷ xs) s now acts w c = tt

  -- ---- calls

  module _ (fit : CallsFit p.units) (deep : (s n : ℕ) → s < length p.units → IsChain (Leads p.units) n (Body s) → n ≤ p.limits.depth) where
    -- what is known of a call of this procedure
    abbrev Calls : (segment : ℕ) → List Activation → (g q : ℕ) → Proc → Target → Type 0
    Calls s acts g q x t = Leads p.units (node_of s acts) (Procedure g q) × Takes (scope_of p.units (node_of s acts)) t (taken_in x.params)

    begun-sound : (s g q : ℕ) (x : Proc) (wanted : Bool) (base : ℕ) (now k : Work) (acts : List Activation) (w : Words) (o : Option Bound) (cs : List Control) (n : ℕ) (rest : List (Option Spec)) → procedure_at p.units g q ≡ Some x → Leads p.units (node_of s acts) (Procedure g q) → Chained p.units s acts → Got o cs n (length (taken_in x.params)) → (n ≡ length (taken_in x.params) → Suit p.units cs (taken_in x.params) × Suit p.units (controls (drop (length x.params) w.operands)) rest) → Typed p.units (node_of s acts) k rest → Sound p.units (begun s g q x wanted base now k acts w o)
    begun-sound s g q x wanted base now k acts w None cs n rest e l c got suit t = tt
    begun-sound s g q x wanted base now k acts w (Some b) cs n rest e l c got suit t =
        let suits = suit got.1 in (
          (l, x, e, subst (λ y. Suit p.units y (taken_in x.params)) (sym got.0) suits.0, rest, suits.1, t, c),
          [],
          tt,
          (procedure-stands p.units fit g q x e, tt),
        )

    enter_framed-sound : (b : Bool) (s line g q : ℕ) (x : Proc) (wanted : Bool) (now k : Work) (acts : List Activation) (w : Words) (t : Target) (os rest : List (Option Spec)) → procedure_at p.units g q ≡ Some x → Calls s acts g q x t → Chained p.units s acts → Suit p.units (controls w.operands) os → ((taken : List (Option Spec)) → Takes (scope_of p.units (node_of s acts)) t taken → os ≡ onto taken rest) → Typed p.units (node_of s acts) k rest → Sound p.units (enter_framed p b s line g q x wanted now k acts w)
    enter_framed-sound false s line g q x wanted now k acts w t os rest e l c i f h = tt
    enter_framed-sound true s line g q x wanted now k acts w t os rest e l c i f h =
        let base : ℕ = frame_top p acts in
        let n : ℕ = length x.params in
        let xs : List Operand = first_operands n w.operands in
        let ys : List Operand = drop n w.operands in
        let i' : Suit p.units (onto (controls xs) (controls ys)) (onto (taken_in x.params) rest) = subst (Suit p.units (onto (controls xs) (controls ys))) (f (taken_in x.params) l.1) (subst (λ cs. Suit p.units cs os) (sym (all-parted n w.operands)) i) in
        begun-sound s g q x wanted base now k acts w
        (bind_all (λ i. item_address p g i base) x.params xs (Some (record { memory = w.memory; controls = [] })))
        (controls xs)
        (length (controls xs))
        rest
        e
        l.0
        c
        (bound (λ i. item_address p g i base) x.params xs (record { memory = w.memory; controls = [] }))
        (λ same. suit-onto p.units (controls xs) (controls ys) (taken_in x.params) rest same i')
        h

    enter_procedure-sound : (b : Bool) (o : Option Proc) (s line g q : ℕ) (wanted : Bool) (now k : Work) (acts : List Activation) (w : Words) (t : Target) (os rest : List (Option Spec)) → nat_lt (length acts) p.limits.depth ≡ b → procedure_at p.units g q ≡ o → ((x : Proc) → procedure_at p.units g q ≡ Some x → Calls s acts g q x t) → Chained p.units s acts → Suit p.units (controls w.operands) os → ((taken : List (Option Spec)) → Takes (scope_of p.units (node_of s acts)) t taken → os ≡ onto taken rest) → Typed p.units (node_of s acts) k rest → Sound p.units (enter_procedure p b o s line g q wanted now k acts w)
    enter_procedure-sound b None s line g q wanted now k acts w t os rest d e l c i f h = tt
    enter_procedure-sound false (Some x) s line g q wanted now k acts w t os rest d e l c i f h =
        let longer = grown p.units s acts 1 (length acts + 1) refl c (Procedure g q, ((l x e).0, tt)) in
        let low = deep s (length acts + 1) longer.0 longer.1 in
        absurd (omega (arith, ltb-false (length acts) p.limits.depth d, low))
    enter_procedure-sound true (Some x) s line g q wanted now k acts w t os rest d e l c i f h =
        enter_framed-sound (nat_le (frame_top p acts + frame_size_of p g q) p.limits.area) s line g q x wanted now k acts w t os rest e (l x e) c i f h

    calling-sound : (s line g q : ℕ) (wanted : Bool) (now k : Work) (acts : List Activation) (w : Words) (t : Target) (os rest : List (Option Spec)) → ((x : Proc) → procedure_at p.units g q ≡ Some x → Calls s acts g q x t) → Chained p.units s acts → Suit p.units (controls w.operands) os → ((taken : List (Option Spec)) → Takes (scope_of p.units (node_of s acts)) t taken → os ≡ onto taken rest) → Typed p.units (node_of s acts) k rest → Sound p.units (enter_procedure p (nat_lt (length acts) p.limits.depth) (configuration.procedure_at p g q) s line g q wanted now k acts w)
    calling-sound s line g q wanted now k acts w t os rest l c i f h =
        enter_procedure-sound (nat_lt (length acts) p.limits.depth) (procedure_at p.units g q) s line g q wanted now k acts w t os rest refl refl l c i f h

    -- ---- of each kind

    own-calls : (s : ℕ) (acts : List Activation) (q : ℕ) (x : Proc) → procedure_at p.units (configuration.segment_of s acts) q ≡ Some x → Mentioned p.units (node_of s acts) (mention.Own q) → Calls s acts (configuration.segment_of s acts) q x (target.Own q)
    own-calls s acts q x e m =
        let e' : procedure_at p.units (segment_of (node_of s acts)) q ≡ Some x = ap (λ g. procedure_at p.units g q) (node-segment s acts) ∙ e in
        (graph.by_call (mention.Own q) (configuration.segment_of s acts) q x m (ap (λ g. Some (g, q)) (node-segment s acts)) e, (x, (ap spec_if e', refl)))

    common-calls : (s : ℕ) (acts : List Activation) (d g q : ℕ) (x : Proc) → procedure_of_def (definition_of p (configuration.segment_of s acts) d) ≡ Some (g, q) → procedure_at p.units g q ≡ Some x → Mentioned p.units (node_of s acts) (mention.Common d) → Calls s acts g q x (target.Common d)
    common-calls s acts d g q x is e m =
        let is' = named-here s acts d ∙ is in (graph.by_call (mention.Common d) g q x m is' e, (x, (ap spec_if (ap (at_place p.units) is' ∙ e), refl)))

    special-calls : (s : ℕ) (acts : List Activation) (k g q : ℕ) (f : _) (x : Proc) → Suits p.units (ProcedureControl g q) (parameter_of p.units (node_of s acts) k) → procedure_at p.units g q ≡ Some x → Mentioned p.units (node_of s acts) (mention.Parameter k) → Calls s acts g q x (target.Special k f)
    special-calls s acts k g q f x suits e m = (graph.by_parameter k (spec_of x) g q x m (suits.1 x e) suits.0 e refl, (x, (suits.1 x e, refl)))

    common-sound : (o : Option (ℕ × ℕ)) (d : ℕ) (s line : ℕ) (wanted : Bool) (now k : Work) (acts : List Activation) (w : Words) (os rest : List (Option Spec)) → procedure_of_def (definition_of p (configuration.segment_of s acts) d) ≡ o → Mentioned p.units (node_of s acts) (mention.Common d) → Chained p.units s acts → Suit p.units (controls w.operands) os → ((taken : List (Option Spec)) → Takes (scope_of p.units (node_of s acts)) (target.Common d) taken → os ≡ onto taken rest) → Typed p.units (node_of s acts) k rest → Sound p.units (enter_step p (callee_of_place o) s line wanted now k acts w)
    common-sound None d s line wanted now k acts w os rest e m c i f h = tt
    common-sound (Some (g, q)) d s line wanted now k acts w os rest e m c i f h =
        calling-sound s line g q wanted now k acts w (target.Common d) os rest (λ x there. common-calls s acts d g q x e there m) c i f h

    special-sound : (o : Option Control) (n : ℕ) (f' : _) (s line : ℕ) (wanted : Bool) (now k : Work) (acts : List Activation) (w : Words) (os rest : List (Option Spec)) → control_at acts n ≡ o → Mentioned p.units (node_of s acts) (mention.Parameter n) → Chained p.units s acts → Suit p.units (controls w.operands) os → ((taken : List (Option Spec)) → Takes (scope_of p.units (node_of s acts)) (target.Special n f') taken → os ≡ onto taken rest) → Typed p.units (node_of s acts) k rest → Sound p.units (enter_step p (callee_of_control o) s line wanted now k acts w)
    special-sound None n f' s line wanted now k acts w os rest e m c i f h = tt
    special-sound (Some (LabelControl g l owner)) n f' s line wanted now k acts w os rest e m c i f h = tt
    special-sound (Some (SwitchControl g l owner)) n f' s line wanted now k acts w os rest e m c i f h = tt
    special-sound (Some (ProcedureControl g q)) n f' s line wanted now k acts w os rest e m c i f h =
        let suits = held-fits p.units s acts fit c n (ProcedureControl g q) e in
        calling-sound s line g q wanted now k acts w (target.Special n f') os rest (λ x there. special-calls s acts n g q f' x suits there m) c i f h

    read-sound : (wanted : Bool) (s line : ℕ) (now k : Work) (acts : List Activation) (w : Words) (os : List (Option Spec)) → Chained p.units s acts → Suit p.units (controls w.operands) os → Typed p.units (node_of s acts) k os → Sound p.units (read_step p wanted s line now k acts w)
    read-sound true s line now k acts w os c i h =
        after-sound (perform p.limits.area ReadByte w) s line now k acts w (controls w.operands) os c (perform-keeps (controls w.operands) p.limits.area ReadByte w refl) i h
    read-sound false s line now k acts w os c i h = (c, os, i, h)

    pub enter_step-sound : (t : Target) (s line : ℕ) (wanted : Bool) (now k : Work) (acts : List Activation) (w : Words) (os rest : List (Option Spec)) → AllByRecursion (Mentioned p.units (node_of s acts)) (mentions.called t) → Chained p.units s acts → Suit p.units (controls w.operands) os → ((taken : List (Option Spec)) → Takes (scope_of p.units (node_of s acts)) t taken → os ≡ onto taken rest) → Typed p.units (node_of s acts) k rest → Sound p.units (enter_step p (callee_of p (configuration.segment_of s acts) acts t) s line wanted now k acts w)
    enter_step-sound (target.Own q) s line wanted now k acts w os rest m c i f h =
        calling-sound s line (configuration.segment_of s acts) q wanted now k acts w (target.Own q) os rest (λ x there. own-calls s acts q x there m.0) c i f h
    enter_step-sound (target.Common d) s line wanted now k acts w os rest m c i f h =
        common-sound (procedure_of_def (definition_of p (configuration.segment_of s acts) d)) d s line wanted now k acts w os rest refl m.0 c i f h
    enter_step-sound (target.Special n f') s line wanted now k acts w os rest m c i f h =
        special-sound (control_at acts n) n f' s line wanted now k acts w os rest refl m.0 c i f h
    enter_step-sound target.Read s line wanted now k acts w os rest m c i f h =
        read-sound wanted s line now k acts w rest c (subst (Suit p.units (controls w.operands)) (f [] refl) i) h
    enter_step-sound target.Write s line wanted now k acts w os rest m c i f h =
        after-sound (perform p.limits.area WriteByte w) s line now k acts w (controls w.operands) rest c (perform-keeps (controls w.operands) p.limits.area WriteByte w refl)
        (subst (Suit p.units (controls w.operands)) (f [] refl) i)
        h
