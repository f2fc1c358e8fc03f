-- Arguments pass what the parameters take, so that their call fits.
use Rattle.std.proofs.Common.{◌≡◌, List, [], ◌∷◌, ◌++◌, map, Bool, true, false, IsTrue, ◌&&◌, Option, Some, None, refl, sym, ap, ap₂, subst, ◌∙◌}
use Rattle.cw_tree.specs.declared.leaf.RawName.{RawName}
use Rattle.cw_tree.specs.declared.leaf.RawType.{RawType}
use Rattle.cw_tree.specs.declared.segment.RawIps.{RawIps}
use Rattle.cw_tree.specs.declared.segment.RawIps.TheVariants as inner
use Rattle.cw_tree.specs.declared.segment.RawPs.{RawPs}
use Rattle.cw_tree.specs.declared.segment.RawPs.TheVariants as ps
use Rattle.cw_facts.specs.declared.fact.Signature.{Signature}
use Rattle.cw_scope.specs.declared.resolve.Named.{Named}
use Rattle.cw_scale.specs.declared.fault.Rule.TheVariants as rule
use Rattle.cw_scale.specs.Arguments.{takes_name, takes_procedure, takes}
use Rattle.cw_scale.specs.Kinds.{kind_of, signature_of, fraction_of}
use Rattle.cw_scale.specs.TypeRules.{Judged, all_taken, argument_faults, arguments_faults, taken_faults, call_faults}
use Rattle.cw_make_expr.specs.Parts.{Numbers, number_of, is_called, params_of, handed}
use Rattle.cw_make_expr.specs.Made.{Made, argument_for, arguments_for, arguments, target}
use Rattle.cw_make_items.specs.Types.{plain_spec}
use Rattle.cw_unit.specs.declared.unit.Arg.{Arg}
use Rattle.cw_unit.specs.declared.descriptor.Spec.{Spec}
use Rattle.cw_deepest.specs.Programs.Calls.{Argument, Calls, of_word, of_call, passed_by, calls_by, of_argument, in_expression}
use Rattle.cw_sound.proofs.Expressions.Judging.{Keeps, NoFault, keeps_fine, keeps_wrong, keeps_both, both_free}
use Rattle.cw_sound.proofs.Calls.Trees.Parts.{Context, plain_wanted, one_wanted, wanted, AllFit, Sound, Sounds, no_sound, more_sounds}
use Rattle.cw_sound.proofs.Calls.Trees.Nodes.{value_argument_calls, place_argument_calls, joined}

no : {A : Type 0} → IsTrue false → A
no h = absurd (cc)

both_true : (a b : Bool) → IsTrue (a && b) → IsTrue a × IsTrue b
both_true true b h = (refl, h)
both_true false b h = no h

map_append : {X Y : Type 0} (f : X → Y) (xs ys : List X) → map f (xs ++ ys) ≡ map f xs ++ map f ys
map_append f [] ys = refl
map_append f (x ∷ xs) ys = ap (λ zs. f x ∷ zs) (map_append f xs ys)

module _ (named : Named) (numbers : Numbers) (body : Context named numbers) where
  abbrev All : Calls → Type 0
  All = AllFit named numbers body

  -- an argument passes this, and the calls in it fit
  pub record Given (a : Argument) (taken : List (Option Spec)) : Type 0 where
    pub passes : map body.spec a.passed ≡ taken
    pub fits : All a.calls

  word_given : (a : Arg) (cs : Calls) → of_argument a ≡ of_word cs → All cs → Given (of_argument a) []
  word_given a cs is h = subst (λ (x : Argument). Given x []) (sym is) (record { passes = refl; fits = h })

  hands_given : (a b : Arg) (taken : List (Option Spec)) → a ≡ b → (map body.spec (of_argument b).passed ≡ taken) × ((of_argument b).calls ≡ []) → Given (of_argument a) taken
  hands_given a b taken is h = subst (λ (x : Arg). Given (of_argument x) taken) (sym is) (record { passes = h.0; fits = subst All (sym h.1) tt })

  module _ (j : Judged) (m : Made) (s : Sound named numbers body j m) where
    plain_by_name : (p : RawIps) (b : Option RawName) → j.shape.bare ≡ b → IsTrue (takes_name named p b) → Given (of_argument m.handed) (plain_wanted p)
    plain_by_name p None is h = no h
    plain_by_name p (Some n) is h =
        let x = s.bare n is in
        hands_given m.handed (handed (kind_of named n) (number_of named numbers n)) (plain_wanted p) x.1 (body.plain n p x.0 h)

    procedure_by_name : (answer : Option RawType) (params : List RawIps) (b : Option RawName) → j.shape.bare ≡ b → IsTrue (takes_procedure named answer params b) → Given (of_argument m.handed) (Some (plain_spec answer params) ∷ [])
    procedure_by_name answer params None is h = no h
    procedure_by_name answer params (Some n) is h =
        let x = s.bare n is in
        hands_given m.handed (handed (kind_of named n) (number_of named numbers n)) (Some (plain_spec answer params) ∷ []) x.1 (body.procedure n answer params x.0 h)

    argument_keeps : (p : RawPs) → Keeps (argument_faults named p j)
    argument_keeps (ps.Plain (inner.Value at t)) = s.keeps (fraction_of t)
    argument_keeps (ps.Plain (inner.Location at t)) = s.keeps 0
    argument_keeps _ = keeps_fine

    argument_given : (p : RawPs) → IsTrue (takes named p j.shape) → NoFault (argument_faults named p j) → Given (of_argument (argument_for p m)) (one_wanted p)
    argument_given (ps.Plain (inner.Value at t)) h free =
        word_given (argument_for (ps.Plain (inner.Value at t)) m) (in_expression (m.made false)) (value_argument_calls (m.made false) (fraction_of t)) (s.fits (fraction_of t) free false)
    argument_given (ps.Plain (inner.Location at t)) h free =
        word_given (argument_for (ps.Plain (inner.Location at t)) m) (in_expression (m.made false)) (place_argument_calls (m.made false) (fraction_of t)) (s.fits 0 free false)
    argument_given (ps.Plain (inner.Array t)) h free = plain_by_name (inner.Array t) j.shape.bare refl h
    argument_given (ps.Plain (inner.Table at z)) h free = plain_by_name (inner.Table at z) j.shape.bare refl h
    argument_given (ps.Plain (inner.Label at)) h free = plain_by_name (inner.Label at) j.shape.bare refl h
    argument_given (ps.Plain (inner.Switch at)) h free = plain_by_name (inner.Switch at) j.shape.bare refl h
    argument_given (ps.Proc answer at params) h free = procedure_by_name answer params j.shape.bare refl h

  -- ---- all arguments

  arguments_keep : (params : List RawPs) {js : List Judged} {ms : List Made} → Sounds named numbers body js ms → Keeps (arguments_faults named params js)
  arguments_keep [] ss = keeps_fine
  arguments_keep (p ∷ more) no_sound = keeps_fine
  arguments_keep (p ∷ more) (more_sounds {j = j} {m = m} {js = js} s ss) = keeps_both (argument_keeps j m s p) (arguments_keep more ss)

  -- arguments one after another
  pub record AllGiven (args : List Argument) (taken : List (Option Spec)) : Type 0 where
    pub passes : map body.spec (passed_by args) ≡ taken
    pub fits : All (calls_by args)

  one_more : (a : Argument) (args : List Argument) (xs ys : List (Option Spec)) → Given a xs → AllGiven args ys → AllGiven (a ∷ args) (xs ++ ys)
  one_more a args xs ys g h = record {
    passes = map_append body.spec a.passed (passed_by args) ∙ ap₂ (λ ps qs. ps ++ qs) g.passes h.passes;
    fits = joined body.Fit a.calls (calls_by args) g.fits h.fits;
  }

  arguments_given : (params : List RawPs) {js : List Judged} {ms : List Made} → Sounds named numbers body js ms → IsTrue (all_taken named params js) → NoFault (arguments_faults named params js) → AllGiven (map of_argument (arguments_for ms params)) (wanted params)
  arguments_given [] no_sound h free = record { passes = refl; fits = tt }
  arguments_given [] (more_sounds s ss) h free = no h
  arguments_given (p ∷ more) no_sound h free = no h
  arguments_given (p ∷ more) (more_sounds {j = j} {m = m} {js = js} {ms = ms} s ss) h free =
      let halves = both_true (takes named p j.shape) (all_taken named more js) h in
      let frees = both_free (argument_faults named p j) (arguments_faults named more js) (arguments_keep more ss) free in
      one_more (of_argument (argument_for p m)) (map of_argument (arguments_for ms more)) (one_wanted p) (wanted more) (argument_given j m s p halves.0 frees.0) (arguments_given more ss halves.1 frees.1)

  -- ---- calls

  taken_keeps : (params : List RawPs) (n : RawName) (b : Bool) {js : List Judged} {ms : List Made} → Sounds named numbers body js ms → Keeps (taken_faults named b params n js)
  taken_keeps params n true ss = arguments_keep params ss
  taken_keeps params n false ss = keeps_wrong rule.WrongArgs n.at

  pub call_keeps : (o : Option Signature) (n : RawName) {js : List Judged} {ms : List Made} → Sounds named numbers body js ms → Keeps (call_faults named o n js)
  call_keeps None n ss = keeps_fine
  call_keeps (Some s) n {js = js} ss = taken_keeps s.params n (all_taken named s.params js) ss

  taken_given : (params : List RawPs) (n : RawName) (b : Bool) {js : List Judged} {ms : List Made} → Sounds named numbers body js ms → all_taken named params js ≡ b → NoFault (taken_faults named b params n js) → AllGiven (map of_argument (arguments_for ms params)) (wanted params)
  taken_given params n true ss e free = arguments_given params ss e free
  taken_given params n false ss e free = absurd (cc)

  none_for : (ms : List Made) → arguments_for ms [] ≡ []
  none_for [] = refl
  none_for (m ∷ ms) = refl

  called_given : (o : Option Signature) (n : RawName) {js : List Judged} {ms : List Made} → Sounds named numbers body js ms → NoFault (call_faults named o n js) → AllGiven (map of_argument (arguments_for ms (params_of o))) (wanted (params_of o))
  called_given None n {ms = ms} ss free = subst (λ (args : List Arg). AllGiven (map of_argument args) []) (sym (none_for ms)) (record { passes = refl; fits = tt })
  called_given (Some s) n {js = js} ss free = taken_given s.params n (all_taken named s.params js) ss refl free

  -- a call fits, and those in its arguments
  pub call_fits : (n : RawName) {js : List Judged} {ms : List Made} → body.Known n → IsTrue (is_called (kind_of named n)) → Sounds named numbers body js ms → NoFault (call_faults named (signature_of named n) n js)
      → All (of_call (target named numbers n) (map of_argument (arguments named numbers n ms)))
  call_fits n {ms = ms} k is ss free =
      let g = called_given (signature_of named n) n ss free in
      (body.called n (map of_argument (arguments named numbers n ms)) k is g.passes, g.fits)
