-- A step keeps the invariant, and so no run is stopped by the depth of its calls where no chain of the call graph is longer than is allowed.
use Rattle.std.proofs.Common.{◌≡◌, ◌≢◌, ℕ, zero, suc, ◌+◌, ◌≤◌, ◌<◌, ℤ, pos, ◌-ℤ◌, List, [], ◌∷◌, map, length, Bool, true, false, IsTrue, Option, Some, None, is_some, refl, sym, ap, subst, ◌∙◌, arith}
use Rattle.std.specs.Prelude.{slice_get}
use Rattle.std.proofs.lemmas.Option.{none-some, same_Some, slice_get_within}
use Rattle.cw_word.specs.FixedPoint.{fits_word}
use Rattle.cw_unit.specs.declared.unit.Unit.{Unit as SourceUnit}
use Rattle.cw_unit.specs.declared.unit.Stmt.{out-Stmt}
use Rattle.cw_unit.specs.declared.unit.Felem.{Felem}
use Rattle.cw_unit.specs.declared.unit.Felem.TheVariants as element
use Rattle.cw_unit.specs.declared.unit.Expr.{Expr, Expr-F, out-Expr}
use Rattle.cw_unit.specs.declared.unit.Arg.{Arg, out-Arg}
use Rattle.cw_unit.specs.declared.unit.Cond.{Cond, out-Cond}
use Rattle.cw_unit.specs.declared.unit.Spot.{Spot, out-Spot}
use Rattle.cw_unit.specs.declared.unit.Ref.{Ref, out-Ref}
use Rattle.cw_unit.specs.declared.unit.Arg.TheOpen as layer
use Rattle.cw_unit.specs.declared.unit.Arg.TheOpen.{Arg-F, Cond-F, Spot-F, Ref-F}
use Rattle.cw_unit.specs.declared.descriptor.Spec.{Spec}
use Rattle.cw_unit.specs.Program.{Program, definition_of}
use Rattle.cw_unit.specs.Stop.{AddressRange, DepthReached, Running, Ended, Stopped, Stuck}
use Rattle.cw_unit.specs.Words.{Control, LabelControl, SwitchControl, ProcedureControl, Operand, Word, Held, Words, put_if, is_below, word_at, number_of}
use Rattle.cw_unit.specs.Operation.{Constant, Form, Keep, SetVariable, AddStep, perform, holds, is_past}
use Rattle.cw_unit.specs.Work.{Work, Nothing, Run, Eval, Address, FormAt, Do, Test, Choose, Jump, Give, Enter, Return, Leave, KeepAt, SetVar, Element, Turn, Bump, On, Loop, expression_work, condition_work, element_at, next_element}
use Rattle.cw_unit.specs.Configuration as configuration
use Rattle.cw_unit.specs.Configuration.{Configuration, at, words_of, Activation, control_at, answer_scale_of, address_at}
use Rattle.cw_unit.specs.Behaviour.{first_body, initial_configuration, configuration_after, shown, observed}
use Rattle.cw_unit.specs.Step.{after, label_of_goal, switch_of_def, procedure_of_def, with_label_owner, with_switch_owner, as_procedure, held, pick, choose_with, address_step, addressing_of, item_word, put_constant, in_unit, here, compares_in, stuck, give_step, element_step, turn_step, next_body, advance, step, steps}
use Rattle.cw_safety.specs.WellFormed.{WellFormed}
use Rattle.cw_safety.specs.Coherent.{Coherent, IsCoherent}
use Rattle.cw_safety.proofs.Coherence.{run-coherent}
use Rattle.cw_graph.specs.Chains.{IsChain}
use Rattle.cw_depth.specs.declared.node.Node.{Node}
use Rattle.cw_depth.specs.declared.node.Node.TheVariants.{Body}
use Rattle.cw_depth.specs.declared.mention.Mention.{Mention}
use Rattle.cw_depth.specs.declared.mention.Mention.TheVariants as mention
use Rattle.cw_depth.specs.Mentions as mentions
use Rattle.cw_depth.specs.CallGraph.{segment_of, procedure_at, IsHanded, Leads}
use Rattle.cw_depth.specs.Told.{TellsBound}
use Rattle.cw_depth.proofs.Layers.{expression_layer, argument_layer, spot_layer, expression-by_layer, argument-by_layer, condition-by_layer, spot-by_layer, reference-by_layer, statement-by_layer}
use Rattle.cw_deepest.specs.Programs.Calls as calls
use Rattle.cw_deepest.specs.Programs.Calls.{Call, Argument}
use Rattle.cw_deepest.specs.Programs.Fitting.{at_place, spec_if, spec_passed, scope_of, CallsFit}
use Rattle.cw_deepest.proofs.Programs.Holding.{controls, onto, IsOther, put_if-keeps, perform-keeps}
use Rattle.cw_deepest.proofs.Programs.Typing.{node_of, Suits, Suit, Stand, IsLoop, Typed, Chained, Holds, Sound}
use Rattle.cw_deepest.proofs.Programs.Expanding.{argument_calls, expression_calls, condition_calls, spot_calls, calls-of_expression, calls-of_argument, calls-of_condition, calls-of_spot, calls-of_reference, calls-of_statement, both, expression-typed, condition-typed, spot-typed, statement-typed, element-typed}
use Rattle.cw_deepest.proofs.Programs.Chaining.{node-segment, bounded, unit-stands}
use Rattle.cw_deepest.proofs.Programs.Calling.{named-here, held-fits, after-sound, come_back-sound, come_back_with-sound, enter_step-sound}
use Rattle.cw_deepest.proofs.Programs.Jumping.{jump_step-sound}

-- ---- words

controls-constant : (p : Program) (l : Expr-F Arg Cond Expr Spot Ref) (s f : ℕ) (acts : List Activation) (w : Words) → controls (put_constant p l s f acts w).operands ≡ controls w.operands
controls-constant p (layer.Num n) s f acts w = refl
controls-constant p (layer.Const z) s f acts w = refl
controls-constant p (layer.Text i) s f acts w = refl
controls-constant p (layer.Read r) s f acts w = refl
controls-constant p (layer.Call t args) s f acts w = refl
controls-constant p (layer.Force n e) s f acts w = refl
controls-constant p (layer.Locate r) s f acts w = refl
controls-constant p (layer.Bits t b e) s f acts w = refl
controls-constant p (layer.Logic op a b) s f acts w = refl
controls-constant p (layer.Sum a b) s f acts w = refl
controls-constant p (layer.Less a b) s f acts w = refl
controls-constant p (layer.Minus a) s f acts w = refl
controls-constant p (layer.Times a b) s f acts w = refl
controls-constant p (layer.Over a b) s f acts w = refl
controls-constant p (layer.Choice c a b) s f acts w = refl

module _ (us : List SourceUnit) (a : Node) where
  layered : (ms ms' : List Mention) (cs cs' : List Call) → ms ≡ ms' → cs ≡ cs' → Stand us a ms cs → Stand us a ms' cs'
  layered ms ms' cs cs' e f h = subst (λ x. Stand us a x cs') e (subst (Stand us a ms) f h)

  element-stands : (es : List Felem) (i : ℕ) (e : Felem) → Stand us a (mentions.joined (map mentions.in_element es)) (calls.joined (map calls.in_element es)) → slice_get es i ≡ Some e → Stand us a (mentions.in_element e) (calls.in_element e)
  element-stands [] i e h is = absurd (none-some e is)
  element-stands (x ∷ es) zero e h is =
      let parts = both us a (mentions.in_element x) (mentions.joined (map mentions.in_element es)) (calls.in_element x) (calls.joined (map calls.in_element es)) h in
      subst (λ y. Stand us a (mentions.in_element y) (calls.in_element y)) (same_Some x e is) parts.0
  element-stands (x ∷ es) (suc i) e h is =
      let parts = both us a (mentions.in_element x) (mentions.joined (map mentions.in_element es)) (calls.in_element x) (calls.joined (map calls.in_element es)) h in
      element-stands es i e parts.1 is

  element-at : (es : List Felem) (i : ℕ) (e : Felem) → Stand us a (mentions.joined (map mentions.in_element es)) (calls.joined (map calls.in_element es)) → element_at es i ≡ Some e → Stand us a (mentions.in_element e) (calls.in_element e)
  element-at es zero e h is = absurd (none-some e is)
  element-at es (suc i) e h is = element-stands es i e h is

  next-typed : (o : Option Felem) (i : ℕ) (c : Loop) (k : Work) (os : List (Option Spec)) → IsLoop us a c → Typed us a k os → Typed us a (next_element o i c k) os
  next-typed None i c k os l t = t
  next-typed (Some (element.One e)) i c k os l t = (l, t)
  next-typed (Some (element.While e d)) i c k os l t = (l, t)
  next-typed (Some (element.Step x y z)) i c k os l t = (l, t)

  pick-typed : (b : Bool) (v w : Work) (os : List (Option Spec)) → Typed us a v os → Typed us a w os → Typed us a (pick b v w) os
  pick-typed true v w os h t = h
  pick-typed false v w os h t = t

module _ (p : Program) (fit : CallsFit p.units) where
  -- ---- steps of each kind

  in_unit-sound : (o : Option SourceUnit) (f : SourceUnit → Configuration) (s : ℕ) (k : Work) (acts : List Activation) (w : Words) → ((u : SourceUnit) → Sound p.units (f u)) → Sound p.units (in_unit p o f (stuck p s k acts w))
  in_unit-sound None f s k acts w h = tt
  in_unit-sound (Some u) f s k acts w h = h u

  address_step-sound : (b : Bool) (spot : Spot) (l : Spot-F Arg Cond Expr Spot Ref) (s line : ℕ) (k : Work) (acts : List Activation) (w : Words) (os : List (Option Spec)) → Chained p.units s acts → Suit p.units (controls w.operands) os → Stand p.units (node_of s acts) (spot_layer l) (spot_calls l) → Typed p.units (node_of s acts) k os → Sound p.units (address_step p b spot l s line k acts w)
  address_step-sound b spot (layer.Direct i) s line k acts w os c h d t = (c, os, h, t)
  address_step-sound b spot (layer.Through i) s line k acts w os c h d t = (c, os, h, spot-typed p.units (node_of s acts) b spot (layer.Through i) line k os d t)
  address_step-sound b spot (layer.One i l u x) s line k acts w os c h d t =
      (c, os, h, spot-typed p.units (node_of s acts) b spot (layer.One i l u x) line k os d t)
  address_step-sound b spot (layer.Two i l1 u1 l2 u2 n x y) s line k acts w os c h d t =
      (c, os, h, spot-typed p.units (node_of s acts) b spot (layer.Two i l1 u1 l2 u2 n x y) line k os d t)
  address_step-sound b spot (layer.ParamArray i x) s line k acts w os c h d t =
      (c, os, h, spot-typed p.units (node_of s acts) b spot (layer.ParamArray i x) line k os d t)
  address_step-sound b spot (layer.Word i q n x) s line k acts w os c h d t =
      (c, os, h, spot-typed p.units (node_of s acts) b spot (layer.Word i q n x) line k os d t)
  address_step-sound b spot (layer.Elem i q n m z x) s line k acts w os c h d t =
      (c, os, h, spot-typed p.units (node_of s acts) b spot (layer.Elem i q n m z x) line k os d t)
  address_step-sound b spot (layer.Bare x) s line k acts w os c h d t = (c, os, h, spot-typed p.units (node_of s acts) b spot (layer.Bare x) line k os d t)

  choose-sound : (f : ℤ → ℤ → Bool) (xs : List Operand) (s : ℕ) (now pass fail : Work) (acts : List Activation) (w : Words) (os : List (Option Spec)) → Chained p.units s acts → Suit p.units (controls xs) os → Typed p.units (node_of s acts) pass os → Typed p.units (node_of s acts) fail os → Sound p.units (choose_with f xs s now pass fail acts w)
  choose-sound f [] s now pass fail acts w os c h t n = tt
  choose-sound f (Held x ∷ xs) s now pass fail acts w os c h t n = tt
  choose-sound f (Word y ∷ []) s now pass fail acts w os c h t n = tt
  choose-sound f (Word y ∷ Held x ∷ xs) s now pass fail acts w os c h t n = tt
  choose-sound f (Word y ∷ Word x ∷ xs) s now pass fail acts w os c h t n = (c, os, h, pick-typed p.units (node_of s acts) (f x y) pass fail os t n)

  element_step-sound : (o : Option Felem) (s i : ℕ) (c : Loop) (k : Work) (acts : List Activation) (w : Words) (os : List (Option Spec)) → element_at c.elements i ≡ o → Chained p.units s acts → Suit p.units (controls w.operands) os → IsLoop p.units (node_of s acts) c → Typed p.units (node_of s acts) k os → Sound p.units (element_step p o s i c k acts w)
  element_step-sound None s i c k acts w os e chained h l t = (chained, os, h, t)
  element_step-sound (Some x) s i c k acts w os e chained h l t =
      (chained, os, h, element-typed p.units (node_of s acts) x i c k os l (element-at p.units (node_of s acts) c.elements i x l.0 e) t)

  turn_step-sound : (b : Bool) (s a i : ℕ) (c : Loop) (now k : Work) (acts : List Activation) (w : Words) (os : List (Option Spec)) → Chained p.units s acts → Suit p.units (controls w.operands) os → IsLoop p.units (node_of s acts) c → Typed p.units (node_of s acts) k os → Sound p.units (turn_step p b s a i c now k acts w)
  turn_step-sound false s a i c now k acts w os chained h l t = tt
  turn_step-sound true s a i c now k acts w os chained h l t = (
    chained,
    os,
    h,
    pick-typed p.units (node_of s acts) (is_past (word_at w.memory (a + 1)) (word_at w.memory (number_of (word_at w.memory a))) (word_at w.memory (a + 2))) (Element (i + 1) c k) (Run c.body (On c k)) os (l, t) (l.1, (l, t)),
  )

  next_body-sound : (o : Option SourceUnit) (s : ℕ) (acts : List Activation) (w : Words) (os : List (Option Spec)) → slice_get p.units (s + 1) ≡ o → acts ≡ [] → Suit p.units (controls w.operands) os → Sound p.units (next_body p o s acts w)
  next_body-sound None s acts w os e none h = tt
  next_body-sound (Some u) s [] w os e none h = (slice_get_within p.units (s + 1) u e, os, h, (unit-stands p.units fit (s + 1) u e, tt))
  next_body-sound (Some u) s (a ∷ acts) w os e none h = absurd (cc)

  -- ---- arguments

  control-sound : (x : Control) (o : Option Spec) (s line : ℕ) (now k : Work) (acts : List Activation) (w : Words) (os : List (Option Spec)) → Chained p.units s acts → Suit p.units (controls w.operands) os → Suits p.units x o → Typed p.units (node_of s acts) k (o ∷ os) → Sound p.units (after (held (Some x) w) s line now k acts w)
  control-sound x o s line now k acts w os c h suits t = (c, o ∷ os, (suits, h), t)

  label-sound : (x : Option (ℕ × ℕ)) (n s line : ℕ) (now k : Work) (acts : List Activation) (w : Words) (os : List (Option Spec)) → Chained p.units s acts → Suit p.units (controls w.operands) os → Typed p.units (node_of s acts) k (None ∷ os) → Sound p.units (after (held (with_label_owner n x) w) s line now k acts w)
  label-sound None n s line now k acts w os c h t = tt
  label-sound (Some l) n s line now k acts w os c h t = control-sound (LabelControl l.0 l.1 n) None s line now k acts w os c h tt t

  switch-sound : (x : Option (ℕ × ℕ)) (n s line : ℕ) (now k : Work) (acts : List Activation) (w : Words) (os : List (Option Spec)) → Chained p.units s acts → Suit p.units (controls w.operands) os → Typed p.units (node_of s acts) k (None ∷ os) → Sound p.units (after (held (with_switch_owner n x) w) s line now k acts w)
  switch-sound None n s line now k acts w os c h t = tt
  switch-sound (Some l) n s line now k acts w os c h t = control-sound (SwitchControl l.0 l.1 n) None s line now k acts w os c h tt t

  procedure-sound : (x : Option (ℕ × ℕ)) (o : Option Spec) (s line : ℕ) (now k : Work) (acts : List Activation) (w : Words) (os : List (Option Spec)) → Chained p.units s acts → Suit p.units (controls w.operands) os → ((g q : ℕ) → x ≡ Some (g, q) → Suits p.units (ProcedureControl g q) o) → Typed p.units (node_of s acts) k (o ∷ os) → Sound p.units (after (held (as_procedure x) w) s line now k acts w)
  procedure-sound None o s line now k acts w os c h suits t = tt
  procedure-sound (Some (g, q)) o s line now k acts w os c h suits t = control-sound (ProcedureControl g q) o s line now k acts w os c h (suits g q refl) t

  parameter-sound : (x : Option Control) (o : Option Spec) (s line : ℕ) (now k : Work) (acts : List Activation) (w : Words) (os : List (Option Spec)) → Chained p.units s acts → Suit p.units (controls w.operands) os → ((c : Control) → x ≡ Some c → Suits p.units c o) → Typed p.units (node_of s acts) k (o ∷ os) → Sound p.units (after (held x w) s line now k acts w)
  parameter-sound None o s line now k acts w os c h suits t = tt
  parameter-sound (Some x) o s line now k acts w os c h suits t = control-sound x o s line now k acts w os c h (suits x refl) t

  give_step-sound : (l : Arg-F Arg Cond Expr Spot Ref) (s line : ℕ) (now k : Work) (acts : List Activation) (w : Words) (os : List (Option Spec)) → Chained p.units s acts → Suit p.units (controls w.operands) os → Stand p.units (node_of s acts) (argument_layer l) (argument_calls l).calls → Typed p.units (node_of s acts) k (onto (map (spec_passed (scope_of p.units (node_of s acts))) (argument_calls l).passed) os) → Sound p.units (give_step p l s line now k acts w)
  give_step-sound (layer.Value e f) s line now k acts w os c h d t = (c, os, h, (d, t))
  give_step-sound (layer.Place r) s line now k acts w os c h d t = (c, os, h, (d, t))
  give_step-sound (layer.Array i l) s line now k acts w os c h d t =
      let z : ℤ = pos (address_at p s acts i) -ℤ l in
      after-sound p (put_if (fits_word z) AddressRange z w) s line now k acts w (controls w.operands) os c
      (put_if-keeps (controls w.operands) (fits_word z) AddressRange z tt w refl)
      h
      t
  give_step-sound (layer.Same i) s line now k acts w os c h d t =
      after-sound p (perform p.limits.area (Constant (item_word p s acts w i)) w) s line now k acts w (controls w.operands) os c refl h t
  give_step-sound (layer.Base i) s line now k acts w os c h d t =
      after-sound p (perform p.limits.area (Constant (pos (address_at p s acts i))) w) s line now k acts w (controls w.operands) os c refl h t
  give_step-sound (layer.Goal g) s line now k acts w os c h d t =
      label-sound (label_of_goal p (configuration.segment_of s acts) g) (length acts) s line now k acts w os c h t
  give_step-sound (layer.Switch n) s line now k acts w os c h d t =
      control-sound (SwitchControl (configuration.segment_of s acts) n (length acts)) None s line now k acts w os c h tt t
  give_step-sound (layer.CommonSwitch n) s line now k acts w os c h d t =
      switch-sound (switch_of_def (definition_of p (configuration.segment_of s acts) n)) (length acts) s line now k acts w os c h t
  give_step-sound (layer.Proc q) s line now k acts w os c h d t =
      let a : Node = node_of s acts in
      let g : ℕ = configuration.segment_of s acts in
      let handed : IsHanded p.units g q = record { node = a; argument = mention.HandedOwn q; stands = d.0.0; names = ap (λ x. Some (x, q)) (node-segment s acts) } in
      control-sound (ProcedureControl g q) (spec_if (procedure_at p.units (segment_of a) q)) s line now k acts w os c h
      (handed, λ x e. ap (λ y. spec_if (procedure_at p.units y q)) (node-segment s acts) ∙ ap spec_if e)
      t
  give_step-sound (layer.CommonProc n) s line now k acts w os c h d t =
      let a : Node = node_of s acts in
      let named = named-here p s acts n in
      procedure-sound (procedure_of_def (definition_of p (configuration.segment_of s acts) n)) (spec_passed (scope_of p.units a) (calls.CommonProcedure n)) s line now k acts w os c h
      (λ g q is. (
        record { node = a; argument = mention.HandedCommon n; stands = d.0.0; names = named ∙ is },
        λ x e. ap (λ y. spec_if (at_place p.units y)) (named ∙ is) ∙ ap spec_if e,
      ))
      t
  give_step-sound (layer.Special n) s line now k acts w os c h d t =
      parameter-sound (control_at acts n) (spec_passed (scope_of p.units (node_of s acts)) (calls.Parameter n)) s line now k acts w os c h (held-fits p.units s acts fit c n) t

  -- ---- all steps

  module _ (deep : (s n : ℕ) → s < length p.units → IsChain (Leads p.units) n (Body s) → n ≤ p.limits.depth) where
    done : (o : _) (s line : ℕ) (now next : Work) (acts : List Activation) (w : Words) → Holds p.units s now acts w → (os : List (Option Spec)) → Suit p.units (controls w.operands) os → Typed p.units (node_of s acts) next os → Sound p.units (after (perform p.limits.area o w) s line now next acts w)
    done o s line now next acts w h os i t =
        after-sound p (perform p.limits.area o w) s line now next acts w (controls w.operands) os h.0 (perform-keeps (controls w.operands) p.limits.area o w refl) i t

    advance-sound : (s : ℕ) (k : Work) (acts : List Activation) (w : Words) → Coherent p s k acts w → Holds p.units s k acts w → Sound p.units (advance p s k acts w)
    advance-sound s Nothing acts w c h = next_body-sound (slice_get p.units (s + 1)) s acts w h.1 refl (c.ends refl).0 h.2
    advance-sound s (Run x k) acts w c h =
        let a : Node = node_of s acts in (
          h.0,
          h.1,
          h.2,
          statement-typed p.units a (answer_scale_of p acts) (out-Stmt x) k h.1
              (layered p.units a (mentions.in_statement x) _ (calls.in_statement x) _ (statement-by_layer x) (calls-of_statement x) h.3.0)
              h.3.1,
        )
    advance-sound s (Eval e f line k) acts w c h =
        let a : Node = node_of s acts in
        in_unit-sound (here p s acts) (λ u. at s (expression_work u (out-Expr e) f line k) acts (put_constant p (out-Expr e) s f acts w) Running) s (Eval e f line k) acts w
        (λ u. (
          h.0,
          h.1,
          subst (λ cs. Suit p.units cs h.1) (sym (controls-constant p (out-Expr e) s f acts w)) h.2,
          expression-typed p.units a u (out-Expr e) f line k h.1
              (layered p.units a (mentions.in_expression e) (expression_layer (out-Expr e)) (calls.in_expression e) (expression_calls (out-Expr e)) (expression-by_layer e) (calls-of_expression e) h.3.0)
              h.3.1,
        ))
    advance-sound s (Address r line k) acts w c h =
        let a : Node = node_of s acts in
        let spot : Spot = (out-Ref r).at in
        let d = layered p.units a (mentions.in_reference r) (mentions.in_spot spot) (calls.in_reference r) (calls.in_spot spot) (reference-by_layer r) (calls-of_reference r) h.3.0 in
        address_step-sound (compares_in p (here p s acts)) spot (out-Spot spot) s line k acts w h.1 h.0 h.2
        (layered p.units a (mentions.in_spot spot) (spot_layer (out-Spot spot)) (calls.in_spot spot) (spot_calls (out-Spot spot)) (spot-by_layer spot) (calls-of_spot spot) d)
        h.3.1
    advance-sound s (FormAt spot line k) acts w c h = done (Form (addressing_of p (out-Spot spot) s acts w)) s line (FormAt spot line k) k acts w h h.1 h.2 h.3
    advance-sound s (Do op line k) acts w c h = done op s line (Do op line k) k acts w h h.1 h.2 h.3
    advance-sound s (Test x line pass fail) acts w c h =
        let a : Node = node_of s acts in
        in_unit-sound (here p s acts) (λ u. at s (condition_work u (out-Cond x) line pass fail) acts w Running) s (Test x line pass fail) acts w
        (λ u. (
          h.0,
          h.1,
          h.2,
          condition-typed p.units a u (out-Cond x) line pass fail h.1
              (layered p.units a (mentions.in_condition x) _ (calls.in_condition x) (condition_calls (out-Cond x)) (condition-by_layer x) (calls-of_condition x) h.3.0)
              h.3.1
              h.3.2,
        ))
    advance-sound s (Choose op line pass fail) acts w c h = choose-sound (holds op) w.operands s (Choose op line pass fail) pass fail acts w h.1 h.0 h.2 h.3.0 h.3.1
    advance-sound s (Jump d line) acts w c h = jump_step-sound p fit d s line (Jump d line) acts w (c.owners d line refl) h.0
    advance-sound s (Give x line k) acts w c h =
        let a : Node = node_of s acts in
        let parts = subst (λ (y : Argument). Stand p.units a (mentions.in_argument x) y.calls × Typed p.units a k (onto (map (spec_passed (scope_of p.units a)) y.passed) h.1)) (calls-of_argument x) (h.3.0, h.3.1) in
        give_step-sound (out-Arg x) s line (Give x line k) k acts w h.1 h.0 h.2 (subst (λ ms. Stand p.units a ms (argument_calls (out-Arg x)).calls) (argument-by_layer x) parts.0) parts.1
    advance-sound s (Enter t line wanted k) acts w c h =
        enter_step-sound p fit deep t s line wanted (Enter t line wanted k) k acts w h.1 h.3.0 h.3.2 h.0 h.2 h.3.1 h.3.3
    advance-sound s Return acts w c h = come_back_with-sound p w.operands s Return acts w h.0
    advance-sound s Leave acts w c h = come_back-sound p (pos 0) s Leave acts w h.0
    advance-sound s (KeepAt n x k) acts w c h = done (Keep (address_at p s acts x.item + n)) s x.line (KeepAt n x k) k acts w h h.1 h.2 h.3
    advance-sound s (SetVar x k) acts w c h = done (SetVariable (address_at p s acts x.item)) s x.line (SetVar x k) k acts w h h.1 h.2 h.3
    advance-sound s (Element i x k) acts w c h = element_step-sound (element_at x.elements i) s i x k acts w h.1 refl h.0 h.2 h.3.0 h.3.1
    advance-sound s (Turn i x k) acts w c h =
        turn_step-sound (is_below (word_at w.memory (address_at p s acts x.item)) p.limits.area) s (address_at p s acts x.item) i x (Turn i x k) k acts w h.1 h.0 h.2 h.3.0 h.3.1
    advance-sound s (Bump i x k) acts w c h = done (AddStep (address_at p s acts x.item)) s x.line (Bump i x k) (Turn i x k) acts w h h.1 h.2 h.3
    advance-sound s (On x k) acts w c h =
        let i : ℕ = number_of (word_at w.memory (address_at p s acts x.item + 3)) in
        (h.0, h.1, h.2, next-typed p.units (node_of s acts) (element_at x.elements i) i x k h.1 h.3.0 h.3.1)

    step-sound : (c : Configuration) → IsCoherent p c → Sound p.units c → Sound p.units (step p c)
    step-sound (at s k acts w Running) c h = advance-sound s k acts w c h
    step-sound (at s k acts w Ended) c h = tt
    step-sound (at s k acts w (Stopped kind g line)) c h = h
    step-sound (at s k acts w Stuck) c h = tt

    begins : (o : Option SourceUnit) (w : Words) → slice_get p.units 0 ≡ o → IsTrue (is_some o) → w.operands ≡ [] → Sound p.units (at 0 (first_body o) [] w Running)
    begins None w e some none = absurd (cc)
    begins (Some u) w e some none =
        (slice_get_within p.units 0 u e, [], subst (λ xs. Suit p.units (controls xs) []) (sym none) tt, (unit-stands p.units fit 0 u e, tt))

    steps-more : (m : ℕ) (c : Configuration) → steps p (suc m) c ≡ step p (steps p m c)
    steps-more zero c = refl
    steps-more (suc m) c = steps-more m (step p c)

    run-sound : WellFormed p → (input : List ℕ) (m : ℕ) → Sound p.units (configuration_after p input m)
    run-sound wf input zero = begins (slice_get p.units 0) (words_of (initial_configuration p input)) refl wf.segments refl
    run-sound wf input (suc m) =
        subst (Sound p.units) (sym (steps-more m (initial_configuration p input))) (step-sound (configuration_after p input m) (run-coherent p wf input m) (run-sound wf input m))

    not-deep : (c : Configuration) (segment line : ℕ) → Sound p.units c → (shown c).end ≢ Stopped DepthReached segment line
    not-deep (at s k acts w Running) segment line h e = absurd (cc)
    not-deep (at s k acts w Ended) segment line h e = absurd (cc)
    not-deep (at s k acts w (Stopped kind g l)) segment line h e = let same : kind ≡ DepthReached = cc in absurd (subst IsOther same h)
    not-deep (at s k acts w Stuck) segment line h e = absurd (cc)

    pub never-deep : WellFormed p → (input : List ℕ) (m segment line : ℕ) → (observed p input m).end ≢ Stopped DepthReached segment line
    never-deep wf input m segment line = not-deep (configuration_after p input m) segment line (run-sound wf input m)

pub no-depth_stop : (p : Program) (chain : List (ℕ × ℕ)) (input : List ℕ) (m segment line : ℕ) → WellFormed p → CallsFit p.units → TellsBound p.units chain → length chain ≤ p.limits.depth → (observed p input m).end ≢ Stopped DepthReached segment line
no-depth_stop p chain input m segment line wf fit tells low =
    never-deep p fit (λ s n inside c. omega (arith, bounded p.units chain tells s n inside c, low)) wf input m segment line
