-- What is called, and names by themselves.
use Rattle.std.proofs.Common.{◌≡◌, ℕ, List, [], ◌∷◌, map, Bool, true, false, not, IsTrue, ◌&&◌, ◌||◌, Option, Some, None, slice_get, refl, sym, ap, subst, ◌∙◌}
use Rattle.cw_tree.specs.declared.leaf.RawName.{RawName}
use Rattle.cw_tree.specs.declared.leaf.RawType.{RawType}
use Rattle.cw_tree.specs.declared.segment.RawIps.{RawIps}
use Rattle.cw_tree.specs.declared.segment.RawPs.{RawPs}
use Rattle.cw_facts.specs.declared.fact.Kind.{Kind as NameKind}
use Rattle.cw_facts.specs.declared.fact.Kind.TheVariants as kind
use Rattle.cw_facts.specs.declared.fact.Signature.{Signature}
use Rattle.cw_facts.specs.Signatures.{plain}
use Rattle.cw_scope.specs.declared.resolve.Named.{Named}
use Rattle.cw_scope.specs.NameRules.{is_reference, is_procedure}
use Rattle.cw_scale.specs.Kinds.{kind_of, signature_of, fraction_of_kind}
use Rattle.cw_scale.specs.TypeRules.{all_taken, taken_faults, call_faults}
use Rattle.cw_number.specs.declared.numbered.Numbered.{Numbered}
use Rattle.cw_number.specs.declared.numbered.Numbered.TheVariants as numbered
use Rattle.cw_make_expr.specs.Nodes.{read, call}
use Rattle.cw_make_expr.specs.Parts.{Numbers, number_of, item_in, is_called, target_of, field_of, named_spot}
use Rattle.cw_make_expr.specs.Made.{value_of_name, target, place_of_name}
use Rattle.cw_unit.specs.declared.unit.Unit.{Unit as SourceUnit}
use Rattle.cw_unit.specs.declared.unit.Proc.{Proc}
use Rattle.cw_unit.specs.declared.unit.Arg.{Arg}
use Rattle.cw_unit.specs.declared.unit.Expr.{Expr}
use Rattle.cw_unit.specs.declared.unit.Target.{Target}
use Rattle.cw_unit.specs.declared.unit.Target.TheVariants as targets
use Rattle.cw_unit.specs.declared.unit.Arg.TheOpen as layer
use Rattle.cw_unit.specs.Program.{definition_of}
use Rattle.cw_unit.specs.Scales.{answer_scale}
use Rattle.cw_unit.specs.Step.{procedure_of_def}
use Rattle.cw_unit.specs.Configuration.{procedure_at}
use Rattle.cw_safety.specs.Kinds.{Kind, WordKind, LabelKind, SwitchKind, ProcedureKind, Taken, TakesWord, TakesLabel, TakesSwitch, TakesProcedure, same_taken, all_so, same_kind, same_kinds, suits_one, suits}
use Rattle.cw_safety.specs.WellFormed as formed
use Rattle.cw_safety.specs.WellFormed.{takes_arguments, parameter_takes, controls_of, procedure_of_place, is_call, kinds_of}
use Rattle.cw_gen_expr.specs.NamedItems.{has_words}
use Rattle.cw_gen_expr.specs.BuiltExpressions.{all_built, answers, is_argument}
use Rattle.cw_built.specs.Built.{alone, at_work}
use Rattle.cw_sound.specs.Uses.Stands.{kind_of_plain, taken_by_plain, kind_specified, IsParameter, Takes, IsProcedure, Called, IsReader, IsWriter, StandsAs}
use Rattle.cw_sound.proofs.Expressions.Truth.{no, both}
use Rattle.cw_sound.proofs.Expressions.Judging.{NoFault}
use Rattle.cw_sound.proofs.Expressions.Parts.{Result}
use Rattle.cw_sound.proofs.Expressions.Built.{built_well}
use Rattle.cw_sound.proofs.Expressions.Nodes.{value_rolled, formed_rolled, result_of}
use Rattle.cw_sound.proofs.Expressions.Places.{Place, place_result, named_place, item_of_kind}
use Rattle.cw_tree.specs.declared.segment.RawIps.TheVariants as inner

-- ---- kinds that agree with themselves

taken_same : (t : Taken) → IsTrue (same_taken t t)
taken_same TakesWord = refl
taken_same TakesLabel = refl
taken_same TakesSwitch = refl
taken_same TakesProcedure = refl

all_taken_same : (ts : List Taken) → IsTrue (all_so same_taken ts ts)
all_taken_same [] = refl
all_taken_same (t ∷ ts) = both (same_taken t t) (all_so same_taken ts ts) (taken_same t) (all_taken_same ts)

kind_same : (k : Kind) → IsTrue (same_kind k k)
kind_same WordKind = refl
kind_same LabelKind = refl
kind_same SwitchKind = refl
kind_same (ProcedureKind ts) = all_taken_same ts

kinds_same : (ks : List Kind) → IsTrue (same_kinds ks ks)
kinds_same [] = refl
kinds_same (k ∷ ks) = both (same_kind k k) (same_kinds ks ks) (kind_same k) (kinds_same ks)

plain_suits : (p : RawIps) → IsTrue (suits_one (kind_of_plain p) (taken_by_plain p))
plain_suits (inner.Value at t) = refl
plain_suits _ = refl

plains_suit : (plains : List RawIps) → IsTrue (suits (map kind_specified (plain plains)) (map taken_by_plain plains))
plains_suit [] = refl
plains_suit (p ∷ more) = both (suits_one (kind_of_plain p) (taken_by_plain p)) (suits (map kind_specified (plain more)) (map taken_by_plain more)) (plain_suits p) (plains_suit more)

-- a call is wanted for its answer or not, and WRITEBYTE has none
abbrev pub is_callable : (wanted : Bool) → NameKind → Bool
is_callable wanted (kind.Proc t) = true
is_callable wanted (kind.ProcParam t) = true
is_callable wanted kind.ReadByte = true
is_callable wanted kind.WriteByte = not wanted
is_callable wanted _ = false

module _ (named : Named) (numbers : Numbers) (u : SourceUnit) (who : Option ℕ) where
  takes_all : (params : List RawPs) (found : Option Proc) → Takes named numbers u who params found → IsTrue (takes_arguments found (map kind_specified params))
  takes_all params found x =
      let ks : List Kind = map kind_specified params in
      subst (λ (o : Option Proc). IsTrue (takes_arguments o ks)) (sym x.1) (subst (λ (ms : List Kind). IsTrue (same_kinds ks ms)) (sym x.2) (kinds_same ks))

  procedure_called : (wanted : Bool) (o : Option NameKind) (params : List RawPs) (number : Option Numbered) → IsProcedure named numbers u who params number
      → IsTrue (is_call (alone u) 0 (at_work who) wanted (target_of o number) (Some (map kind_specified params)))
  procedure_called wanted o params (Some (numbered.Proc p)) x = takes_all params (procedure_at (alone u) 0 p) x
  procedure_called wanted o params (Some (numbered.CommonProc d)) x = takes_all params (procedure_of_place (alone u) (procedure_of_def (definition_of (alone u) 0 d))) x
  procedure_called wanted o params None x = absurd x
  procedure_called wanted o params (Some (numbered.Item i)) x = absurd x
  procedure_called wanted o params (Some (numbered.Label l)) x = absurd x
  procedure_called wanted o params (Some (numbered.CommonLabel d)) x = absurd x
  procedure_called wanted o params (Some (numbered.Switch n)) x = absurd x
  procedure_called wanted o params (Some (numbered.CommonSwitch d)) x = absurd x
  procedure_called wanted o params (Some (numbered.Control c)) x = absurd x
  procedure_called wanted o params (Some numbered.ReadByte) x = absurd x
  procedure_called wanted o params (Some numbered.WriteByte) x = absurd x

  parameter_called : (wanted : Bool) (o : Option NameKind) (params : List RawPs) (number : Option Numbered) → IsParameter named numbers u who params number
      → IsTrue (is_call (alone u) 0 (at_work who) wanted (target_of o number) (Some (map kind_specified params)))
  parameter_called wanted o params number x =
      let control = x.2 in
      let suit : IsTrue (suits (map kind_specified params) (map taken_by_plain x.0)) = subst (λ (qs : List RawPs). IsTrue (suits (map kind_specified qs) (map taken_by_plain x.0))) (sym x.1) (plains_suit x.0) in
      let takes : IsTrue (parameter_takes (slice_get (controls_of (alone u) (at_work who)) control.0) (map kind_specified params)) =
      subst (λ (k : Option Kind). IsTrue (parameter_takes k (map kind_specified params))) (sym control.2) suit in
      subst (λ (m : Option Numbered). IsTrue (is_call (alone u) 0 (at_work who) wanted (target_of o m) (Some (map kind_specified params)))) (sym control.1) takes

  reader_called : (wanted : Bool) (o : Option NameKind) (params : List RawPs) (number : Option Numbered) → IsReader named numbers u who params number
      → IsTrue (is_call (alone u) 0 (at_work who) wanted (target_of o number) (Some (map kind_specified params)))
  reader_called wanted o params number x =
      subst (λ (m : Option Numbered). IsTrue (is_call (alone u) 0 (at_work who) wanted (target_of o m) (Some (map kind_specified params)))) (sym x.1)
      (subst (λ (qs : List RawPs). IsTrue (same_kinds (map kind_specified qs) [])) (sym x.0) refl)

  writer_called : (wanted : Bool) (o : Option NameKind) (params : List RawPs) (number : Option Numbered) → IsTrue (not wanted) → IsWriter named numbers u who params number
      → IsTrue (is_call (alone u) 0 (at_work who) wanted (target_of o number) (Some (map kind_specified params)))
  writer_called wanted o params number free x =
      subst (λ (m : Option Numbered). IsTrue (is_call (alone u) 0 (at_work who) wanted (target_of o m) (Some (map kind_specified params)))) (sym x.1)
      (subst (λ (ks : List Kind). IsTrue (not wanted && same_kinds ks (WordKind ∷ []))) (sym x.0) (both (not wanted) true free refl))

  -- ---- a name of what may be called

  pub record Callable (wanted : Bool) (n : RawName) : Type 0 where
    pub answer : Option RawType
    pub params : List RawPs
    pub signature : signature_of named n ≡ Some (record { answer = answer; params = params })
    pub call : IsTrue (is_call (alone u) 0 (at_work who) wanted (target named numbers n) (Some (map kind_specified params)))
    pub scale : answer_scale u (target named numbers n) ≡ fraction_of_kind (kind_of named n)

  called_as : {Is : List RawPs → Option Numbered → Type 0} (wanted : Bool) (n : RawName) (t : Option RawType) → Called named numbers u who n t Is
      → ((params : List RawPs) (number : Option Numbered) → Is params number → IsTrue (is_call (alone u) 0 (at_work who) wanted (target_of (kind_of named n) number) (Some (map kind_specified params))))
      → answer_scale u (target named numbers n) ≡ fraction_of_kind (kind_of named n) → Callable wanted n
  called_as wanted n t x call scale = record { answer = t; params = x.params; signature = x.signature; call = call x.params (number_of named numbers n) x.is; scale = scale }

  pub may_be_called : (wanted : Bool) (k : NameKind) (n : RawName) → kind_of named n ≡ Some k → StandsAs named numbers u who k n → IsTrue (is_callable wanted k) → Callable wanted n
  may_be_called wanted (kind.Proc t) n is x h = called_as wanted n t x (procedure_called wanted (kind_of named n)) (x.scale ∙ sym (ap fraction_of_kind is))
  may_be_called wanted (kind.ProcParam t) n is x h = called_as wanted n t x (parameter_called wanted (kind_of named n)) (x.scale ∙ sym (ap fraction_of_kind is))
  may_be_called wanted kind.ReadByte n is x h =
      called_as wanted n x.0 x.1 (reader_called wanted (kind_of named n)) (ap (λ (m : Option Numbered). answer_scale u (target_of (kind_of named n) m)) x.1.is.1 ∙ sym (ap fraction_of_kind is))
  may_be_called wanted kind.WriteByte n is x h =
      called_as wanted n x.0 x.1 (λ params number. writer_called wanted (kind_of named n) params number h)
      (ap (λ (m : Option Numbered). answer_scale u (target_of (kind_of named n) m)) x.1.is.1 ∙ sym (ap fraction_of_kind is))
  may_be_called wanted _ n is x h = no h

  -- ---- calls

  -- what is called for a value answers
  answering : (t : Target) (ks : Option (List Kind)) → IsTrue (is_call (alone u) 0 (at_work who) true t ks) → IsTrue (answers t)
  answering targets.Write None h = no h
  answering targets.Write (Some ks) h = no h
  answering _ ks h = refl

  pub called_result : (f : ℕ) (n : RawName) (args : List Arg) (c : Callable true n) → IsTrue (all_built (map (is_argument u (has_words u who)) args)) → kinds_of (map (formed.kind_of (alone u) 0 (at_work who)) args) ≡ Some (map kind_specified c.params)
      → Result (built_well u who) (fraction_of_kind (kind_of named n)) f (call (target named numbers n) args)
  called_result f n args c h ks =
      let t : Target = target named numbers n in
      let e : Expr = call t args in
      subst (λ (g : ℕ). Result (built_well u who) g f e) c.scale
      (result_of u who (answer_scale u t) f e (λ f levels. answers t && all_built (map (is_argument u (has_words u who)) args)) (value_rolled u who (layer.Call t args))
      (λ levels. both (answers t) (all_built (map (is_argument u (has_words u who)) args)) (answering t (Some (map kind_specified c.params)) c.call) h)
      (subst IsTrue (sym (formed_rolled u who (layer.Call t args))) (subst (λ (o : Option (List Kind)). IsTrue (is_call (alone u) 0 (at_work who) true t o)) (sym ks) c.call)))

  none_given : (s : Signature) (n : RawName) → NoFault (call_faults named (Some s) n []) → s.params ≡ []
  none_given s n free = by_params s.params free
    where
      by_params : (params : List RawPs) → NoFault (taken_faults named (all_taken named params []) params n []) → params ≡ []
      by_params [] e = refl
      by_params (p ∷ more) e = absurd (cc)

  pub no_params : (wanted : Bool) (n : RawName) (c : Callable wanted n) → NoFault (call_faults named (signature_of named n) n []) → c.params ≡ []
  no_params wanted n c free = none_given (record { answer = c.answer; params = c.params }) n (subst (λ (o : Option Signature). NoFault (call_faults named o n [])) c.signature free)

  -- ---- names by themselves

  pub name_good : (n : RawName) (k : NameKind) → kind_of named n ≡ Some k → StandsAs named numbers u who k n → IsTrue (is_reference k 0) → Place u who (named_spot (kind_of named n) (item_in (number_of named numbers n)))
  name_good n k is x h =
      let i : ℕ = item_in (number_of named numbers n) in
      subst (λ (o : Option NameKind). Place u who (named_spot o i)) (sym is) (named_place u who k i (item_of_kind u who named numbers k n x h))

  abbrev ValueOf : RawName → ℕ → (called : Bool) → Type 0
  ValueOf n f called = Result (built_well u who) (fraction_of_kind (kind_of named n)) f (value_of_name called (target named numbers n) (place_of_name named numbers n))

  as_called : (f : ℕ) (n : RawName) (k : NameKind) → kind_of named n ≡ Some k → is_called (Some k) ≡ true → Callable true n → NoFault (call_faults named (signature_of named n) n []) → ValueOf n f (is_called (kind_of named n))
  as_called f n k is called c free =
      subst (ValueOf n f) (sym (ap is_called is ∙ called)) (called_result f n [] c refl (sym (ap (λ (qs : List RawPs). Some (map kind_specified qs)) (no_params true n c free))))

  kinds_of_one : (params : List RawPs) (k : Kind) → map kind_specified params ≡ k ∷ [] → params ≡ [] → ⊥
  kinds_of_one params k one none = let same : k ∷ [] ≡ [] = sym one ∙ ap (map kind_specified) none in cc

  writer_alone : (n : RawName) → kind_of named n ≡ Some kind.WriteByte → StandsAs named numbers u who kind.WriteByte n → NoFault (call_faults named (signature_of named n) n []) → ⊥
  writer_alone n is x free =
      kinds_of_one x.1.params WordKind x.1.is.0 (none_given (record { answer = x.0; params = x.1.params }) n (subst (λ (o : Option Signature). NoFault (call_faults named o n [])) x.1.signature free))

  as_item : (f : ℕ) (n : RawName) (k : NameKind) → kind_of named n ≡ Some k → StandsAs named numbers u who k n → is_called (Some k) ≡ false → IsTrue (is_reference k 0) → ValueOf n f (is_called (kind_of named n))
  as_item f n k is x item h =
      subst (ValueOf n f) (sym (ap is_called is ∙ item))
      (place_result u who f (named_spot (kind_of named n) (item_in (number_of named numbers n))) (fraction_of_kind (kind_of named n)) (field_of (kind_of named n)) (name_good n k is x h))

  pub name_value : (f : ℕ) (n : RawName) (k : NameKind) → kind_of named n ≡ Some k → StandsAs named numbers u who k n → IsTrue (is_reference k 0 || is_procedure k) → NoFault (call_faults named (signature_of named n) n []) → ValueOf n f (is_called (kind_of named n))
  name_value f n (kind.Single t) is x h free = as_item f n (kind.Single t) is x refl refl
  name_value f n (kind.Value t) is x h free = as_item f n (kind.Value t) is x refl refl
  name_value f n (kind.Location t) is x h free = as_item f n (kind.Location t) is x refl refl
  name_value f n (kind.Array t b) is x h free = as_item f n (kind.Array t b) is x refl (left (is_reference (kind.Array t b) 0) h)
    where
      left : (c : Bool) → IsTrue (c || false) → IsTrue c
      left true e = refl
      left false e = no e
  name_value f n (kind.Proc t) is x h free = as_called f n (kind.Proc t) is refl (may_be_called true (kind.Proc t) n is x refl) free
  name_value f n (kind.ProcParam t) is x h free = as_called f n (kind.ProcParam t) is refl (may_be_called true (kind.ProcParam t) n is x refl) free
  name_value f n kind.ReadByte is x h free = as_called f n kind.ReadByte is refl (may_be_called true kind.ReadByte n is x refl) free
  name_value f n kind.WriteByte is x h free = absurd (writer_alone n is x free)
  name_value f n _ is x h free = no h
