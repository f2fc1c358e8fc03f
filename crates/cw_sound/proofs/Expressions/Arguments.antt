-- Arguments are given as the parameters take them.
use Rattle.std.proofs.Common.{◌≡◌, ℕ, ◌≤◌, List, [], ◌∷◌, Bool, true, false, IsTrue, ◌==◌, Option, Some, None, refl, sym, subst, arith}
use Rattle.cw_tree.specs.declared.leaf.RawName.{RawName}
use Rattle.cw_tree.specs.declared.segment.RawIps.TheVariants as inner
use Rattle.cw_tree.specs.declared.segment.RawPs.{RawPs}
use Rattle.cw_tree.specs.declared.segment.RawPs.TheVariants as ps
use Rattle.cw_facts.specs.declared.fact.Reading.TheVariants as reading
use Rattle.cw_facts.specs.declared.fact.Signature.{Signature}
use Rattle.cw_scope.specs.declared.resolve.Named.{Named}
use Rattle.cw_scale.specs.declared.fault.Rule.TheVariants as rule
use Rattle.cw_scale.specs.Arguments.{takes}
use Rattle.cw_scale.specs.Kinds.{signature_of, fraction_of}
use Rattle.cw_scale.specs.TypeRules.{Judged, all_taken, argument_faults, arguments_faults, taken_faults, call_faults}
use Rattle.cw_make_expr.specs.Parts.{Numbers, params_of}
use Rattle.cw_make_expr.specs.Made.{Made, argument_for, arguments_for, arguments}
use Rattle.cw_unit.specs.declared.unit.Unit.{Unit as SourceUnit}
use Rattle.cw_gen_expr.specs.BuiltExpressions.{most_levels}
use Rattle.cw_sound.specs.Expressions.Levels.{largest}
use Rattle.cw_sound.proofs.Expressions.Truth.{no, parts}
use Rattle.cw_sound.proofs.Expressions.Judging.{Keeps, NoFault, keeps_fine, keeps_wrong, keeps_both, both_free}
use Rattle.cw_sound.proofs.Expressions.Numbers.{type_small}
use Rattle.cw_sound.proofs.Expressions.Parts.{Sense, Sound, Sounds, EachGiven, none_given, more_given}
use Rattle.cw_sound.proofs.Expressions.Senses.{IsKept}
use Rattle.cw_sound.proofs.Expressions.Calls.{Callable}
use Rattle.cw_sound.proofs.Expressions.Lists.{all_none, all_more}

module _ (named : Named) (numbers : Numbers) (u : SourceUnit) (who : Option ℕ) (sense : Sense) where
  argument_keeps : (j : Judged) (m : Made) (l : ℕ) (s : Sound named numbers u who sense reading.Argument j m l) (p : RawPs) → IsTrue (takes named p j.shape) → Keeps (argument_faults named p j)
  argument_keeps j m l s (ps.Plain (inner.Value at t)) h = (s.valued h).keeps (fraction_of t)
  argument_keeps j m l s (ps.Plain (inner.Location at t)) h = (s.valued (s.whole_value (parts j.shape.whole (j.shape.natural == fraction_of t) h).0)).keeps 0
  argument_keeps j m l s _ h = keeps_fine

  pub arguments_keep : (params : List RawPs) {js : List Judged} {ms : List Made} {ls : List ℕ} → Sounds named numbers u who sense reading.Argument js ms ls → IsTrue (all_taken named params js) → Keeps (arguments_faults named params js)
  arguments_keep [] ss h = keeps_fine
  arguments_keep (p ∷ more) all_none h = keeps_fine
  arguments_keep (p ∷ more) (all_more {j = j} {m = m} {l = l} {js = js} s ss) h =
      let halves = parts (takes named p j.shape) (all_taken named more js) h in
      keeps_both (argument_keeps j m l s p halves.0) (arguments_keep more ss halves.1)

  taken_keeps : (params : List RawPs) (n : RawName) (b : Bool) {js : List Judged} {ms : List Made} {ls : List ℕ} → Sounds named numbers u who sense reading.Argument js ms ls → all_taken named params js ≡ b → Keeps (taken_faults named b params n js)
  taken_keeps params n true ss e = arguments_keep params ss e
  taken_keeps params n false ss e = keeps_wrong rule.WrongArgs n.at

  pub call_keeps : (o : Option Signature) (n : RawName) {js : List Judged} {ms : List Made} {ls : List ℕ} → Sounds named numbers u who sense reading.Argument js ms ls → Keeps (call_faults named o n js)
  call_keeps None n ss = keeps_fine
  call_keeps (Some s) n {js = js} ss = taken_keeps s.params n (all_taken named s.params js) ss refl

module _ (named : Named) (numbers : Numbers) (u : SourceUnit) (who : Option ℕ) (sense : Sense) (kept : IsKept named numbers u who sense) where
  argument_given : (j : Judged) (m : Made) (l : ℕ) (s : Sound named numbers u who sense reading.Argument j m l) (p : RawPs) → IsTrue (takes named p j.shape) → l ≤ most_levels → NoFault (argument_faults named p j) → sense.Given p (argument_for p m)
  argument_given j m l s (ps.Plain (inner.Value at t)) h few free =
      let g = (s.valued h).good (fraction_of t) (type_small t) few free in
      kept.value_given at t (m.made false) (kept.more l most_levels (fraction_of t) (m.made false) few g.at)
  argument_given j m l s (ps.Plain (inner.Location at t)) h few free =
      let w = (parts j.shape.whole (j.shape.natural == fraction_of t) h).0 in
      let v = s.valued (s.whole_value w) in
      let p = v.place w in
      kept.place_given at t (m.made false) p.0 p.1 (kept.more l most_levels 0 (m.made false) few (v.good 0 (omega arith) few free).at)
  argument_given j m l s (ps.Plain (inner.Array t)) h few free = kept.plain_given (inner.Array t) j.shape.bare m.handed h s.handed_on
  argument_given j m l s (ps.Plain (inner.Table at z)) h few free = kept.plain_given (inner.Table at z) j.shape.bare m.handed h s.handed_on
  argument_given j m l s (ps.Plain (inner.Label at)) h few free = kept.plain_given (inner.Label at) j.shape.bare m.handed h s.handed_on
  argument_given j m l s (ps.Plain (inner.Switch at)) h few free = kept.plain_given (inner.Switch at) j.shape.bare m.handed h s.handed_on
  argument_given j m l s (ps.Proc answer at params) h few free = kept.procedure_given answer at params j.shape.bare m.handed h s.handed_on

  arguments_given : (params : List RawPs) {js : List Judged} {ms : List Made} {ls : List ℕ} → Sounds named numbers u who sense reading.Argument js ms ls → IsTrue (all_taken named params js) → largest ls ≤ most_levels → NoFault (arguments_faults named params js)
      → EachGiven sense params (arguments_for ms params)
  arguments_given [] all_none h few free = none_given
  arguments_given [] (all_more s ss) h few free = no h
  arguments_given (p ∷ more) all_none h few free = no h
  arguments_given (p ∷ more) (all_more {j = j} {m = m} {l = l} {js = js} {ms = ms} {ls = ls} s ss) h few free =
      let halves = parts (takes named p j.shape) (all_taken named more js) h in
      let frees = both_free (argument_faults named p j) (arguments_faults named more js) (arguments_keep named numbers u who sense more ss halves.1) free in
      more_given (argument_given j m l s p halves.0 (omega (arith, few)) frees.0) (arguments_given more ss halves.1 (omega (arith, few)) frees.1)

  -- ---- calls

  taken_given : (params : List RawPs) (n : RawName) (b : Bool) {js : List Judged} {ms : List Made} {ls : List ℕ} → Sounds named numbers u who sense reading.Argument js ms ls → all_taken named params js ≡ b → largest ls ≤ most_levels → NoFault (taken_faults named b params n js)
      → EachGiven sense params (arguments_for ms params)
  taken_given params n true ss e few free = arguments_given params ss e few free
  taken_given params n false ss e few free = absurd (cc)

  pub call_given : (wanted : Bool) (n : RawName) (c : Callable named numbers u who wanted n) {js : List Judged} {ms : List Made} {ls : List ℕ} → Sounds named numbers u who sense reading.Argument js ms ls → largest ls ≤ most_levels → NoFault (call_faults named (signature_of named n) n js)
      → EachGiven sense c.params (arguments named numbers n ms)
  call_given wanted n c {js = js} {ms = ms} ss few free =
      let s : Signature = record { answer = c.answer; params = c.params } in
      let said : NoFault (call_faults named (Some s) n js) = subst (λ (o : Option Signature). NoFault (call_faults named o n js)) c.signature free in
      subst (λ (o : Option Signature). EachGiven sense c.params (arguments_for ms (params_of o))) (sym c.signature) (taken_given c.params n (all_taken named c.params js) ss refl few said)
