-- Arguments are built, and of the kinds that the parameters take.
use Rattle.std.proofs.Common.{◌≡◌, ℕ, ◌≤◌, List, [], ◌∷◌, map, Bool, IsTrue, Option, Some, None, refl, sym, ap, ap₂, subst, ◌∙◌, arith}
use Rattle.cw_tree.specs.declared.leaf.RawName.{RawName}
use Rattle.cw_tree.specs.declared.leaf.RawType.{RawType}
use Rattle.cw_tree.specs.declared.leaf.RawSize.{RawSize}
use Rattle.cw_tree.specs.declared.segment.RawIps.{RawIps}
use Rattle.cw_tree.specs.declared.segment.RawIps.TheVariants as inner
use Rattle.cw_tree.specs.declared.segment.RawPs.{RawPs}
use Rattle.cw_tree.specs.declared.segment.RawPs.TheVariants as ps
use Rattle.cw_facts.specs.declared.fact.Kind.{Kind as NameKind}
use Rattle.cw_facts.specs.declared.fact.Kind.TheVariants as kind
use Rattle.cw_facts.specs.declared.fact.Reading.TheVariants as reading
use Rattle.cw_facts.specs.declared.fact.Signature.{Signature}
use Rattle.cw_facts.specs.Signatures.{plain}
use Rattle.cw_scope.specs.declared.resolve.Named.{Named}
use Rattle.cw_scope.specs.NameRules.{is_label, is_switch}
use Rattle.cw_scope.specs.Same.{same_answer, same_plain}
use Rattle.cw_scale.specs.Arguments.{is_array, is_table, is_passed, is_passed_if, takes_these, specified_so, kind_fits, kind_fits_if, takes_name, takes_procedure}
use Rattle.cw_scale.specs.Kinds.{kind_of, signature_of}
use Rattle.cw_number.specs.declared.numbered.Numbered.{Numbered}
use Rattle.cw_number.specs.declared.numbered.Numbered.TheVariants as numbered
use Rattle.cw_make_expr.specs.Nodes.{read, value_argument, place_in, place_argument}
use Rattle.cw_make_expr.specs.Parts.{Numbers, number_of, bound, handed}
use Rattle.cw_unit.specs.declared.unit.Unit.{Unit as SourceUnit}
use Rattle.cw_unit.specs.declared.unit.Proc.{Proc}
use Rattle.cw_unit.specs.declared.unit.Goal.TheVariants as goal
use Rattle.cw_unit.specs.declared.unit.Arg.{Arg, roll-Arg, map-Arg}
use Rattle.cw_unit.specs.declared.unit.Cond.{Cond}
use Rattle.cw_unit.specs.declared.unit.Expr.{Expr}
use Rattle.cw_unit.specs.declared.unit.Spot.{Spot}
use Rattle.cw_unit.specs.declared.unit.Ref.{Ref}
use Rattle.cw_unit.specs.declared.unit.Arg.TheOpen as layer
use Rattle.cw_unit.specs.declared.unit.Arg.TheOpen.{Arg-F}
use Rattle.cw_unit.specs.declared.unit.Arg.TheFolds.{fold-roll-Arg}
use Rattle.cw_unit.specs.declared.unit.Arg.TheViews.{out-roll-Expr}
use Rattle.cw_unit.specs.Program.{definition_of}
use Rattle.cw_unit.specs.Step.{procedure_of_def}
use Rattle.cw_unit.specs.Configuration.{procedure_at}
use Rattle.cw_safety.specs.Kinds.{Kind, WordKind, LabelKind, SwitchKind, ProcedureKind, Taken, taken_of, procedure_kind}
use Rattle.cw_safety.specs.WellFormed as formed
use Rattle.cw_safety.specs.WellFormed.{kind_if, kind_and, kinds_of, procedure_of_place}
use Rattle.cw_gen_expr.specs.NamedItems.{has_words}
use Rattle.cw_gen_expr.specs.BuiltExpressions as built
use Rattle.cw_gen_expr.specs.BuiltExpressions.{BuiltValue, BuiltReference, most_levels, all_built, is_argument, built_reference}
use Rattle.cw_gen_expr.proofs.Layers.{built_argument_layer}
use Rattle.cw_built.specs.Built.{alone, at_work}
use Rattle.cw_sound.specs.Uses.Stands.{kind_of_plain, taken_by_plain, kind_specified, IsItem, IsLabel, IsSwitch, Takes, IsProcedure, IsParameter, IsControl, StandsAs}
use Rattle.cw_sound.proofs.Expressions.Truth.{no, both, parts}
use Rattle.cw_sound.proofs.Expressions.Parts.{EachGiven, none_given, more_given}
use Rattle.cw_sound.proofs.Expressions.Built.{is_formed, built_well, BuiltAt, BuiltArgument, HandedOn, whole_at}
use Rattle.cw_sound.proofs.Expressions.Nodes.{value_rolled, formed_rolled}

-- ---- parameters of procedures that are arguments

plain_same : (x y : RawIps) → IsTrue (same_plain x y) → taken_by_plain x ≡ taken_by_plain y
plain_same (inner.Value p t) (inner.Value q v) h = refl
plain_same (inner.Location p t) (inner.Location q v) h = refl
plain_same (inner.Array t) (inner.Array v) h = refl
plain_same (inner.Table p s) (inner.Table q z) h = refl
plain_same (inner.Label p) (inner.Label q) h = refl
plain_same (inner.Switch p) (inner.Switch q) h = refl
plain_same _ _ h = no h

these_taken : (given : List RawPs) (params : List RawIps) → IsTrue (takes_these given params) → map taken_of (map kind_specified given) ≡ map taken_by_plain params
these_taken [] [] h = refl
these_taken (ps.Plain x ∷ xs) (y ∷ ys) h =
    let halves = parts (same_plain x y) (takes_these xs ys) h in
    ap₂ (λ t ts. t ∷ ts) (plain_same x y halves.0) (these_taken xs ys halves.1)
these_taken _ _ h = no h

plains_taken : (given params : List RawIps) → IsTrue (takes_these (plain given) params) → map taken_by_plain given ≡ map taken_by_plain params
plains_taken [] [] h = refl
plains_taken [] (y ∷ ys) h = no h
plains_taken (x ∷ xs) [] h = no h
plains_taken (x ∷ xs) (y ∷ ys) h =
    let halves = parts (same_plain x y) (takes_these (plain xs) ys) h in
    ap₂ (λ t ts. t ∷ ts) (plain_same x y halves.0) (plains_taken xs ys halves.1)

module _ (u : SourceUnit) (who : Option ℕ) where
  argument_rolled : (x : Arg-F Arg Cond Expr Spot Ref) → is_argument u (has_words u who) (roll-Arg x) ≡ built_argument_layer u (has_words u who) x
  argument_rolled = fold-roll-Arg Bool Bool BuiltValue Bool BuiltReference (built.argument_step u (has_words u who)) (built.condition_step u (has_words u who)) (built.expression_step u (has_words u who)) (built.spot_step u (has_words u who)) (built.reference_step u (has_words u who))

  abbrev kind_layer : Arg-F Arg Cond Expr Spot Ref → Option Kind
  kind_layer x = formed.argument_step (alone u) 0 (at_work who) (map-Arg Arg Cond Expr Spot Ref (Option Kind) Bool Bool Bool Bool (formed.kind_of (alone u) 0 (at_work who)) (formed.is_condition (alone u) 0 (at_work who)) (is_formed u who) (formed.is_spot (alone u) 0 (at_work who)) (formed.is_reference (alone u) 0 (at_work who)) x)

  kind_rolled : (x : Arg-F Arg Cond Expr Spot Ref) → formed.kind_of (alone u) 0 (at_work who) (roll-Arg x) ≡ kind_layer x
  kind_rolled = fold-roll-Arg (Option Kind) Bool Bool Bool Bool (formed.argument_step (alone u) 0 (at_work who)) formed.condition_step (formed.expression_step (alone u) 0 (at_work who)) formed.spot_step formed.reference_step

  abbrev Given : Arg → Kind → Type 0
  Given = BuiltArgument u who

  given_of : (x : Arg-F Arg Cond Expr Spot Ref) (k : Kind) → IsTrue (built_argument_layer u (has_words u who) x) → kind_layer x ≡ Some k → Given (roll-Arg x) k
  given_of x k h e = record { built = subst IsTrue (sym (argument_rolled x)) h; kind = kind_rolled x ∙ e }

  pub value_given : (e : Expr) (f : ℕ) → f ≤ 15 → BuiltAt u who most_levels f e → Given (value_argument e f) WordKind
  value_given e f small h = given_of (layer.Value e f) WordKind (whole_at u who f most_levels e small (omega arith) h) (ap (λ b. kind_if b WordKind) h.formed)

  place_given : (r : Ref) (f : ℕ) → IsTrue (built_reference u (has_words u who) r).good → IsTrue (formed.is_reference (alone u) 0 (at_work who) r) → Given (place_argument (read r) f) WordKind
  place_given r f h k =
      subst (λ (a : Arg). Given a WordKind) (sym (ap (place_in (read r) f) (out-roll-Expr (layer.Read r)))) (given_of (layer.Place r) WordKind h (ap (λ b. kind_if b WordKind) k))

  -- what is read is a place
  pub read_given : (e : Expr) (r : Ref) (f : ℕ) → e ≡ read r → BuiltAt u who most_levels 0 e → Given (place_argument e f) WordKind
  read_given e r f is h =
      let at : BuiltAt u who most_levels 0 (read r) = subst (BuiltAt u who most_levels 0) is h in
      let good : IsTrue (built_reference u (has_words u who) r).good = subst (λ (v : BuiltValue). IsTrue (v.at 0 most_levels)) (value_rolled u who (layer.Read r)) (at.built most_levels (omega arith) (omega arith)) in
      subst (λ (x : Expr). Given (place_argument x f) WordKind) (sym is) (place_given r f good (subst IsTrue (formed_rolled u who (layer.Read r)) at.formed))

  -- ---- names that are handed on

  module _ (named : Named) (numbers : Numbers) where
    item_given : (k : NameKind) (number : Option Numbered) → IsItem named numbers u who 1 number → ((i : ℕ) → IsTrue (has_words u who i 1) → Given (handed (Some k) (Some (numbered.Item i))) WordKind) → Given (handed (Some k) number) WordKind
    item_given k number x f = subst (λ (o : Option Numbered). Given (handed (Some k) o) WordKind) (sym x.1) (f x.0 x.2)

    control_given : (k : NameKind) (m : Kind) (number : Option Numbered) → IsControl named numbers u who m number → Given (handed (Some k) number) m
    control_given k m number x = subst (λ (o : Option Numbered). Given (handed (Some k) o) m) (sym x.1) (given_of (layer.Special x.0) m refl x.2)

    label_given : (k : NameKind) (number : Option Numbered) → IsLabel named numbers u who number → Given (handed (Some k) number) LabelKind
    label_given k (Some (numbered.Label l)) x = given_of (layer.Goal (goal.Own l)) LabelKind refl (ap (λ b. kind_if b LabelKind) x)
    label_given k (Some (numbered.CommonLabel d)) x = given_of (layer.Goal (goal.Common d)) LabelKind refl (ap (λ b. kind_if b LabelKind) x)
    label_given k _ x = absurd x

    switch_given : (k : NameKind) (number : Option Numbered) → IsSwitch named numbers u who number → Given (handed (Some k) number) SwitchKind
    switch_given k (Some (numbered.Switch n)) x = given_of (layer.Switch n) SwitchKind refl (ap (λ b. kind_if b SwitchKind) x)
    switch_given k (Some (numbered.CommonSwitch d)) x = given_of (layer.CommonSwitch d) SwitchKind refl (ap (λ b. kind_if b SwitchKind) x)
    switch_given k _ x = absurd x

    array_handed : (t : RawType) (k : NameKind) (n : RawName) → StandsAs named numbers u who k n → IsTrue (is_array t k) → Given (handed (Some k) (number_of named numbers n)) WordKind
    array_handed t (kind.Array v b) n x h = item_given (kind.Array v b) (number_of named numbers n) x (λ i w. given_of (layer.Array i (bound b.first.lower)) WordKind w refl)
    array_handed t (kind.ArrayParam v) n x h = item_given (kind.ArrayParam v) (number_of named numbers n) x (λ i w. given_of (layer.Same i) WordKind w refl)
    array_handed t _ n x h = no h

    table_handed : (s : RawSize) (k : NameKind) (n : RawName) → StandsAs named numbers u who k n → IsTrue (is_table s k) → Given (handed (Some k) (number_of named numbers n)) WordKind
    table_handed s (kind.Table z) n x h = item_given (kind.Table z) (number_of named numbers n) x (λ i w. given_of (layer.Base i) WordKind w refl)
    table_handed s (kind.TableParam z) n x h = item_given (kind.TableParam z) (number_of named numbers n) x (λ i w. given_of (layer.Same i) WordKind w refl)
    table_handed s _ n x h = no h

    label_handed : (k : NameKind) (n : RawName) → StandsAs named numbers u who k n → IsTrue (is_label k) → Given (handed (Some k) (number_of named numbers n)) LabelKind
    label_handed kind.Label n x h = label_given kind.Label (number_of named numbers n) x
    label_handed kind.LabelParam n x h = control_given kind.LabelParam LabelKind (number_of named numbers n) x
    label_handed _ n x h = no h

    switch_handed : (k : NameKind) (n : RawName) → StandsAs named numbers u who k n → IsTrue (is_switch k) → Given (handed (Some k) (number_of named numbers n)) SwitchKind
    switch_handed kind.Switch n x h = switch_given kind.Switch (number_of named numbers n) x
    switch_handed kind.SwitchParam n x h = control_given kind.SwitchParam SwitchKind (number_of named numbers n) x
    switch_handed _ n x h = no h

    plain_handed : (p : RawIps) (k : NameKind) (n : RawName) → StandsAs named numbers u who k n → IsTrue (kind_fits p k) → Given (handed (Some k) (number_of named numbers n)) (kind_of_plain p)
    plain_handed (inner.Value at t) k n x h = no h
    plain_handed (inner.Location at t) k n x h = no h
    plain_handed (inner.Array t) k n x h = array_handed t k n x h
    plain_handed (inner.Table at s) k n x h = table_handed s k n x h
    plain_handed (inner.Label at) k n x h = label_handed k n x h
    plain_handed (inner.Switch at) k n x h = switch_handed k n x h

    -- ---- procedures

    found_kind : (given : List RawPs) (params : List RawIps) (found : Option Proc) → Takes named numbers u who given found → IsTrue (takes_these given params) → procedure_kind found ≡ Some (ProcedureKind (map taken_by_plain params))
    found_kind given params found x h =
        ap procedure_kind x.1 ∙ ap (λ (ks : List Kind). Some (ProcedureKind (map taken_of ks))) x.2 ∙ ap (λ (ts : List Taken). Some (ProcedureKind ts)) (these_taken given params h)

    procedure_given : (k : NameKind) (given : List RawPs) (params : List RawIps) (number : Option Numbered) → IsProcedure named numbers u who given number → IsTrue (takes_these given params) → Given (handed (Some k) number) (ProcedureKind (map taken_by_plain params))
    procedure_given k given params (Some (numbered.Proc p)) x h = given_of (layer.Proc p) (ProcedureKind (map taken_by_plain params)) refl (found_kind given params (procedure_at (alone u) 0 p) x h)
    procedure_given k given params (Some (numbered.CommonProc d)) x h =
        given_of (layer.CommonProc d) (ProcedureKind (map taken_by_plain params)) refl (found_kind given params (procedure_of_place (alone u) (procedure_of_def (definition_of (alone u) 0 d))) x h)
    procedure_given k given params _ x h = absurd x

    parameter_given : (k : NameKind) (given : List RawPs) (params : List RawIps) (number : Option Numbered) → IsParameter named numbers u who given number → IsTrue (takes_these given params) → Given (handed (Some k) number) (ProcedureKind (map taken_by_plain params))
    parameter_given k given params number x h =
        let same = plains_taken x.0 params (subst (λ (qs : List RawPs). IsTrue (takes_these qs params)) x.1 h) in
        subst (λ (ts : List Taken). Given (handed (Some k) number) (ProcedureKind ts)) same (control_given k (ProcedureKind (map taken_by_plain x.0)) number x.2)

    specified_takes : (s : Signature) (o : Option Signature) (answer : Option RawType) (params : List RawIps) → o ≡ Some s → IsTrue (specified_so o answer params) → IsTrue (takes_these s.params params)
    specified_takes s o answer params is h = (parts (same_answer s.answer answer) (takes_these s.params params) (subst (λ (z : Option Signature). IsTrue (specified_so z answer params)) is h)).1

    procedure_handed : (answer : Option RawType) (params : List RawIps) (k : NameKind) (n : RawName) → StandsAs named numbers u who k n → IsTrue (is_passed k) → IsTrue (specified_so (signature_of named n) answer params)
        → Given (handed (Some k) (number_of named numbers n)) (ProcedureKind (map taken_by_plain params))
    procedure_handed answer params (kind.Proc t) n x h s = procedure_given (kind.Proc t) x.params params (number_of named numbers n) x.is (specified_takes (record { answer = t; params = x.params }) (signature_of named n) answer params x.signature s)
    procedure_handed answer params (kind.ProcParam t) n x h s = parameter_given (kind.ProcParam t) x.params params (number_of named numbers n) x.is (specified_takes (record { answer = t; params = x.params }) (signature_of named n) answer params x.signature s)
    procedure_handed answer params _ n x h s = no h

    -- ---- one argument, by the name that is handed on

    pub plain_by_name : (p : RawIps) (b : Option RawName) (a : Arg) → IsTrue (takes_name named p b) → HandedOn u who named numbers reading.Argument b a → Given a (kind_of_plain p)
    plain_by_name p None a h s = no h
    plain_by_name p (Some n) a h s =
        let x = s n refl in
        let fit : IsTrue (kind_fits p x.0.named_kind) = subst (λ (o : Option NameKind). IsTrue (kind_fits_if p o)) x.0.is_kind h in
        subst (λ (a : Arg). Given a (kind_of_plain p)) (sym x.1)
        (subst (λ (o : Option NameKind). Given (handed o (number_of named numbers n)) (kind_of_plain p)) (sym x.0.is_kind) (plain_handed p x.0.named_kind n x.0.stands_as fit))

    pub procedure_by_name : (answer : Option RawType) (params : List RawIps) (b : Option RawName) (a : Arg) → IsTrue (takes_procedure named answer params b) → HandedOn u who named numbers reading.Argument b a → Given a (ProcedureKind (map taken_by_plain params))
    procedure_by_name answer params None a h s = no h
    procedure_by_name answer params (Some n) a h s =
        let x = s n refl in
        let halves = parts (is_passed_if (kind_of named n)) (specified_so (signature_of named n) answer params) h in
        let fit : IsTrue (is_passed x.0.named_kind) = subst (λ (o : Option NameKind). IsTrue (is_passed_if o)) x.0.is_kind halves.0 in
        subst (λ (a : Arg). Given a (ProcedureKind (map taken_by_plain params))) (sym x.1)
        (subst (λ (o : Option NameKind). Given (handed o (number_of named numbers n)) (ProcedureKind (map taken_by_plain params))) (sym x.0.is_kind) (procedure_handed answer params x.0.named_kind n x.0.stands_as fit halves.1))

  -- ---- all arguments

  pub record AllGiven (args : List Arg) (ks : List Kind) : Type 0 where
    pub built : IsTrue (all_built (map (is_argument u (has_words u who)) args))
    pub kinds : kinds_of (map (formed.kind_of (alone u) 0 (at_work who)) args) ≡ Some ks

  pub all_given : {params : List RawPs} {args : List Arg} → EachGiven (built_well u who) params args → AllGiven args (map kind_specified params)
  all_given none_given = record { built = refl; kinds = refl }
  all_given (more_given {a = a} {args = args} g gs) =
      let rest = all_given gs in
      record {
        built = both (is_argument u (has_words u who) a) (all_built (map (is_argument u (has_words u who)) args)) g.built rest.built;
        kinds = ap₂ kind_and g.kind rest.kinds;
      }
