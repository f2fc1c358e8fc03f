-- The machine of the orders of well-formed units tracks their meaning, at each storage map and limits that suit them.
use Rattle.std.proofs.Common.{◌≡◌, ◌≢◌, ℕ, zero, suc, ◌+◌, ◌<◌, ◌≤◌, List, [], ◌∷◌, map, length, Bool, true, false, IsTrue, Option, Some, None, is_some, refl, sym, ap, ◌∙◌, subst, arith}
use Rattle.std.specs.Prelude.{All, slice_get}
use Rattle.std.proofs.lemmas.Option.{none-some, same_Some}
use Rattle.cw_track.specs.Tracking.{Tracks}
use Rattle.cw_track.specs.Watching.{watched}
use Rattle.cw_unit.specs.declared.unit.Unit.{Unit as SourceUnit}
use Rattle.cw_unit.specs.declared.unit.Proc.{Proc}
use Rattle.cw_unit.specs.declared.unit.Param.{Param}
use Rattle.cw_unit.specs.declared.unit.Param.TheVariants as param
use Rattle.cw_unit.specs.declared.unit.Dest.{Dest}
use Rattle.cw_unit.specs.declared.unit.Dest.TheVariants as dest
use Rattle.cw_unit.specs.declared.unit.Arg.{Arg}
use Rattle.cw_unit.specs.declared.unit.Cond.{Cond}
use Rattle.cw_unit.specs.declared.unit.Expr.{Expr}
use Rattle.cw_unit.specs.declared.unit.Spot.{Spot, out-Spot}
use Rattle.cw_unit.specs.declared.unit.Ref.{Ref}
use Rattle.cw_unit.specs.declared.unit.Arg.TheOpen as layer
use Rattle.cw_unit.specs.declared.unit.Arg.TheOpen.{Spot-F}
use Rattle.cw_unit.specs.declared.layout.Limits.{Limits}
use Rattle.cw_unit.specs.declared.layout.Map.{Map}
use Rattle.cw_unit.specs.ValidStorage.{frame_size_in}
use Rattle.cw_unit.specs.Program.{Program, program_at}
use Rattle.cw_unit.specs.Stop.{Running, Ended, Stopped, Stuck}
use Rattle.cw_unit.specs.Words.{Operand, Word, Held, Words}
use Rattle.cw_unit.specs.Work.{Work, FormAt, Jump}
use Rattle.cw_unit.specs.Configuration.{Configuration, at as configuration, Activation, FramesApart, activations_of, words_of, segment_of, base_of, procedure_in, frame_size_of, frame_top}
use Rattle.cw_unit.specs.StackBound.{control_need}
use Rattle.cw_unit.specs.Step.{compares_in, kept, step, steps}
use Rattle.cw_unit.specs.Behaviour.{is_running, shown, initial_configuration, configuration_after, observed}
use Rattle.cw_unit.specs.Begun.{begins}
use Rattle.cw_order.specs.OrderState.{OrderActivation, OrderState, operand_words}
use Rattle.cw_order.specs.OrderMachine.{order_machine, step as order_step}
use Rattle.cw_order.specs.Starting.{starts}
use Rattle.cw_order.specs.FittingWords.{StateFits}
use Rattle.cw_gen_expr.specs.ReferenceExpressions.{argument_words}
use Rattle.cw_gen_expr.specs.ReferenceEntries.{parameters_in}
use Rattle.cw_gen_expr.specs.NamedItems.{has_words}
use Rattle.cw_safety.specs.Kinds.{weigh, kind_of_param}
use Rattle.cw_safety.specs.WellFormed.{WellFormed}
use Rattle.cw_safety.specs.Depth.{operands_held, owner_of}
use Rattle.cw_safety.specs.Coherent.{stack_words, words_held, Names as SourceNames, Coherent, IsCoherent}
use Rattle.cw_safety.specs.Coherent as coherent
use Rattle.cw_safety.proofs.Calling.{unit_of-procedure}
use Rattle.cw_safety.proofs.Truth.{no}
use Rattle.cw_carry.proofs.Expressions.Carried.{who_of}
use Rattle.cw_carry.proofs.Expressions.Operations.{FormsOf}
use Rattle.cw_carry.proofs.Expressions.Stepping.{IsSane, AllCalls}
use Rattle.cw_carry.proofs.Expressions.Ways.{Names, JumpSound}
use Rattle.cw_carry.proofs.Expressions.Whole.{held_words, Sound, SoundAt, parameters_at}
use Rattle.cw_gen_unit.specs.ReferenceUnits.{meaning, orders_program, first_order}
use Rattle.cw_gen_unit.specs.BuiltUnits.{AllBuilt, Suits}
use Rattle.cw_carry.proofs.Statements.Following.{orders_track}
use Rattle.cw_carry.proofs.Runs.FirstWords.{memory-fits}
use Rattle.cw_carry.proofs.Runs.ItemPlaces.{c, frame-size, FrameHere, item-put, item-reached, item-bound, items-apart}
use Rattle.cw_carry.proofs.Runs.Spans.{items}

-- ---- words that are held

hand-words : (xs : List Operand) → operand_words xs ≡ operands_held xs
hand-words [] = refl
hand-words (Word z ∷ xs) = ap (λ n. 1 + n) (hand-words xs)
hand-words (Held x ∷ xs) = ap (λ n. 2 + n) (hand-words xs)

parameter-words : (ps : List Param) → argument_words ps ≡ weigh (map kind_of_param ps)
parameter-words [] = refl
parameter-words (param.Value i s ∷ ps) = ap (λ n. 1 + n) (parameter-words ps)
parameter-words (param.Location i s ∷ ps) = ap (λ n. 1 + n) (parameter-words ps)
parameter-words (param.Array i s ∷ ps) = ap (λ n. 1 + n) (parameter-words ps)
parameter-words (param.Table i n ∷ ps) = ap (λ n. 1 + n) (parameter-words ps)
parameter-words (param.Label k ∷ ps) = ap (λ n. 2 + n) (parameter-words ps)
parameter-words (param.Switch k ∷ ps) = ap (λ n. 2 + n) (parameter-words ps)
parameter-words (param.Proc k s ∷ ps) = ap (λ n. 2 + n) (parameter-words ps)

procedure-words : (q : Option Proc) → argument_words (parameters_in q) ≡ coherent.argument_words q
procedure-words None = refl
procedure-words (Some q) = parameter-words q.params

-- ---- owners

owner-parts : (s : ℕ) (acts : List Activation) (h p : ℕ) → owner_of acts ≡ Some (h, p) → (segment_of s acts ≡ h) × (who_of acts ≡ Some p)
owner-parts s [] h p e = absurd (none-some (h, p) e)
owner-parts s (a ∷ acts) h p e =
    let same : (a.segment, a.procedure) ≡ (h, p) = same_Some (a.segment, a.procedure) (h, p) e in (ap (λ x. x.0) same, ap (λ x. Some x.1) same)

-- ---- steps

steps-later : (p : Program) (n : ℕ) (x : Configuration) → step p (steps p n x) ≡ steps p (suc n) x
steps-later p zero x = refl
steps-later p (suc n) x = steps-later p n (step p x)

sane : (x : Configuration) → (shown x).end ≢ Stuck → IsSane x
sane (configuration s k acts w Running) h = tt
sane (configuration s k acts w Ended) h = tt
sane (configuration s k acts w (Stopped kind g line)) h = tt
sane (configuration s k acts w Stuck) h = h refl

module _ (us : List SourceUnit) (m : Map) (limits : Limits) (room : ℕ) (suits : Suits us m limits room) where
  abbrev p : Program
  p = program_at us m limits

  call-words : (x : Option SourceUnit) (q : ℕ) → argument_words (parameters_at (c us m limits room) x q) ≡ coherent.argument_words (procedure_in x q)
  call-words None q = refl
  call-words (Some u) q = procedure-words (slice_get u.procs q)

  -- a record of the orders takes no more than the source reckons with
  words-within : (xs : List Operand) (acts : List Activation) → held_words (c us m limits room) xs acts ≤ stack_words p xs acts
  words-within xs [] = let z : held_words (c us m limits room) xs [] ≤ stack_words p xs [] = omega (arith, hand-words xs) in z
  words-within xs (a ∷ acts) =
      let z : held_words (c us m limits room) xs (a ∷ acts) ≤ stack_words p xs (a ∷ acts) = omega (arith, hand-words xs, call-words (slice_get us a.segment) a.procedure, words-within a.operands acts) in z

  -- the frame at work is that of the last call
  frame-here : (s : ℕ) (k : Work) (acts : List Activation) (w : Words) (bs : List OrderActivation) → AllCalls (c us m limits room) s acts bs → FramesApart p acts → Coherent p s k acts w → FrameHere us m limits room suits.valid suits.area (segment_of s acts) (who_of acts) (base_of acts) bs
  frame-here s k [] w bs calls apart known q e = absurd (none-some q e)
  frame-here s k (a ∷ acts) w [] calls apart known q e = absurd calls
  frame-here s k (a ∷ acts) w (b ∷ bs) calls apart known q e =
      let found = known.procedures 0 a refl in
      let unit = unit_of-procedure (slice_get us a.segment) a.procedure found.0 found.1 in
      let size = frame-size us m limits room a.segment a.procedure unit.0 found.0 unit.1 unit.2 in
      let same : frame_size_in us a.segment (Some a.procedure) ≡ frame_size_in us a.segment (Some q) = ap (frame_size_in us a.segment) e in
      let below : a.frame_base + frame_size_of p a.segment a.procedure ≤ limits.area = apart.below 0 a refl in
      (b, bs, refl, calls.0.base, (let z : a.frame_base + frame_size_in us a.segment (Some q) ≤ limits.area = omega (arith, below, size, same) in z))

  -- the frame of the procedure that is called
  frame-next : (h q : ℕ) (v : SourceUnit) (proc : Proc) (base : ℕ) (b : OrderActivation) (bs : List OrderActivation) → slice_get us h ≡ Some v → slice_get v.procs q ≡ Some proc → base + frame_size_of p h q ≤ limits.area → b.frame_base ≡ base → FrameHere us m limits room suits.valid suits.area h (Some q) base (b ∷ bs)
  frame-next h q v proc base b bs v-is proc-is fits base-is n e =
      let size = frame-size us m limits room h q v proc v-is proc-is in
      let same : frame_size_in us h (Some q) ≡ frame_size_in us h (Some n) = ap (frame_size_in us h) e in
      (b, bs, refl, base-is, (let z : base + frame_size_in us h (Some n) ≤ limits.area = omega (arith, fits, size, same) in z))

  -- ---- jumps

  names : (s : ℕ) (acts : List Activation) (d : Dest) (h label owner : ℕ) → Names (c us m limits room) s acts d h label owner → SourceNames p s acts d h label owner
  names s acts (dest.Goal g) h label owner n = n
  names s acts _ h label owner n = n

  jump-sound : (s line : ℕ) (k : Work) (acts : List Activation) (w : Words) (d : Dest) → k ≡ Jump d line → Coherent p s k acts w → JumpSound (c us m limits room) s acts w d
  jump-sound s line k acts w d k-is known = record {
    clean = λ g e. known.empty g line (k-is ∙ ap (λ x. Jump x line) e);
    alone = λ n a e. known.alone n a line (k-is ∙ ap (λ x. Jump x line) e);
    owned = λ h label owner n v l q v-is l-is q-is. owner-parts s (kept owner acts) h q (known.owners d line k-is h label owner (names s acts d h label owner n) v l q v-is l-is q-is);
  }

  -- ---- indexes

  forms-of : (s : ℕ) (k : Work) (acts : List Activation) (w : Words) → Coherent p s k acts w → (u : SourceUnit) → slice_get us (segment_of s acts) ≡ Some u → (spot : Spot) (line : ℕ) (next : Work) → k ≡ FormAt spot line next
      → (b : Bool) (x : Spot-F Arg Cond Expr Spot Ref) → u.bounds ≡ b → out-Spot spot ≡ x → FormsOf b x w.operands
  forms-of s k acts w known u u-is spot line next e true (layer.Two i l1 u1 l2 u2 n a d) b-is x-is = known.compared spot line next e (ap (compares_in p) u-is ∙ b-is) i l1 u1 l2 u2 n a d x-is
  forms-of s k acts w known u u-is spot line next e true (layer.Direct i) b-is x-is = tt
  forms-of s k acts w known u u-is spot line next e true (layer.Through i) b-is x-is = tt
  forms-of s k acts w known u u-is spot line next e true (layer.One i l h a) b-is x-is = tt
  forms-of s k acts w known u u-is spot line next e true (layer.ParamArray i a) b-is x-is = tt
  forms-of s k acts w known u u-is spot line next e true (layer.Word i t n a) b-is x-is = tt
  forms-of s k acts w known u u-is spot line next e true (layer.Elem i t n m q a) b-is x-is = tt
  forms-of s k acts w known u u-is spot line next e true (layer.Bare a) b-is x-is = tt
  forms-of s k acts w known u u-is spot line next e false x b-is x-is = tt

  -- ---- configurations

  sound : (s : ℕ) (k : Work) (acts : List Activation) (w : Words) → Coherent p s k acts w → stack_words p w.operands acts + 72 ≤ control_need us limits.depth → FramesApart p acts → length w.memory ≡ limits.area → IsSane (step p (configuration s k acts w Running)) → Sound (c us m limits room) s k acts w
  sound s k acts w known words apart whole not_stuck = record {
    sane = not_stuck;
    memory = whole;
    room = (let less = words-within w.operands acts in let z : 24 + held_words (c us m limits room) w.operands acts ≤ room = omega (arith, words, suits.has_room, less) in z);
    stand = λ bs u calls u-is.
        let frame = frame-here s k acts w bs calls apart known in
        let put = λ (i n j : ℕ) (x : Words) (h : IsTrue (has_words u (who_of acts) i j)) (lt : n < j). item-put us m limits room suits.valid suits.area (segment_of s acts) u (who_of acts) (base_of acts) bs i n j x u-is frame h lt in
        record {
          puts = λ i n j x h lt. (put i n j x h lt).0;
          within = λ i n j h lt. (put i n j w h lt).1;
          reaches = λ i n x h lt. item-reached us m limits room suits.valid suits.area (segment_of s acts) u (who_of acts) (base_of acts) bs i n x u-is h (items us m limits room suits (segment_of s acts) u u-is i) lt;
          apart = λ i j n1 n2 k1 k2 h1 h2 lt1 lt2 told same. items-apart us m limits room suits.valid suits.area (segment_of s acts) u (who_of acts) (base_of acts) i j n1 n2 k1 k2 u-is h1 h2 lt1 lt2 told same;
        };
    binds = λ bs h q v calls v-is proc proc-is fits b j i z x base-is has arg-is.
        item-bound us m limits room suits.valid suits.area h v (Some q) (frame_top p acts) b bs j i z x v-is (frame-next h q v proc (frame_top p acts) b bs v-is proc-is fits base-is) has arg-is;
    enough = λ tg line wanted next e h q v proc callee v-is proc-is. known.arguments tg line wanted next e h q proc callee (ap (λ x. procedure_in x q) v-is ∙ proc-is);
    jumps = λ d line e. jump-sound s line k acts w d e known;
    compared = λ u u-is spot line next e. forms-of s k acts w known u u-is spot line next e u.bounds (out-Spot spot) refl refl;
    ends = known.ends;
  }

  sound-at : (x : Configuration) → IsCoherent p x → words_held p x + 72 ≤ control_need us limits.depth → FramesApart p (activations_of x) → length (words_of x).memory ≡ limits.area → IsSane (step p x) → SoundAt (c us m limits room) x
  sound-at (configuration s k acts w Running) known words apart whole not_stuck = sound s k acts w known words apart whole not_stuck
  sound-at _ known words apart whole not_stuck = tt

  module _ (input : List ℕ) (not_stuck : (n : ℕ) → (observed p input n).end ≢ Stuck) (known : (n : ℕ) → IsCoherent p (configuration_after p input n)) (words : (n : ℕ) → words_held p (configuration_after p input n) + 72 ≤ control_need us limits.depth) (apart : (n : ℕ) → FramesApart p (activations_of (configuration_after p input n))) (whole : (n : ℕ) → length (words_of (configuration_after p input n)).memory ≡ limits.area) where
    all-sound : (n : ℕ) → SoundAt (c us m limits room) (steps p n (initial_configuration p input))
    all-sound n =
        sound-at (configuration_after p input n) (known n) (words n) (apart n) (whole n)
        (subst IsSane (sym (steps-later p n (initial_configuration p input))) (sane (configuration_after p input (suc n)) (not_stuck (suc n))))

    some-units : IsTrue (is_some (slice_get us 0)) → us ≢ []
    some-units h e = no (subst (λ vs. IsTrue (is_some (slice_get vs 0))) e h)

    pub orders-follow : AllBuilt us → WellFormed p → All (λ b. b < 256) input → ((t : OrderState) → StateFits t → StateFits (order_step (orders_program us m limits room) t)) → Tracks (λ o. is_running o.0) (watched (meaning p) begins) (initial_configuration p input, []) (watched (order_machine (orders_program us m limits room)) (starts (orders_program us m limits room))) (first_order us m limits room input, [])
    orders-follow built wf bytes keeps =
        orders_track us m limits room (λ g u who. has_words u who) built input (some-units wf.segments) suits.area all-sound (memory-fits us m limits.area) bytes keeps
