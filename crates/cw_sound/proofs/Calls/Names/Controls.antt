-- The control parameters of a procedure, beside their declarations.
use Rattle.std.proofs.Common.{◌≡◌, ℕ, zero, suc, List, [], ◌∷◌, ◌++◌, map, length, Bool, true, false, cond, slice_get, Option, Some, None, refl, ap, subst, ◌∙◌}
use Rattle.std.specs.List.{filter}
use Rattle.std.proofs.lemmas.Option.{none-some, same_Some}
use Rattle.cw_table.specs.declared.table.Row.{Row}
use Rattle.cw_tree.specs.declared.segment.RawIps.{RawIps}
use Rattle.cw_tree.specs.declared.statement.RawParam.{RawParam}
use Rattle.cw_facts.specs.declared.fact.Kind.{Kind as NameKind}
use Rattle.cw_facts.specs.declared.fact.Kind.TheVariants as kind
use Rattle.cw_facts.specs.declared.fact.Signature.{Signature}
use Rattle.cw_facts.specs.Facts.{parameters_facts}
use Rattle.cw_facts.specs.Signatures.{plain}
use Rattle.cw_scope.specs.Resolved.{text_signatures}
use Rattle.cw_make_items.specs.Lookup.{Numbers, control_here}
use Rattle.cw_make_items.specs.Types.{plain_spec}
use Rattle.cw_make.specs.Procedures.{params_of}
use Rattle.cw_unit.specs.declared.descriptor.Spec.{Spec}
use Rattle.cw_unit.specs.declared.unit.Param.{Param}
use Rattle.cw_unit.specs.declared.unit.Param.TheVariants as param
use Rattle.cw_sound.specs.Uses.Mentions.{In, Mention, Here, facts_mentions}
use Rattle.cw_sound.proofs.Names.Lists.{Sub}
use Rattle.cw_sound.proofs.Names.Picking.{pick, Zip}
use Rattle.cw_sound.proofs.Names.Params.{OfHere, is_control_param, listed_as, controls, ParamOfKind, controls_made}
use Rattle.cw_sound.proofs.Calls.Names.Taken.{controls_listed}

-- a control parameter: its number, and its specification if it takes a procedure
abbrev pub Control : Type 0
Control = ℕ × Option Spec

abbrev control_of : Param → Control
control_of (param.Label k) = (k, None)
control_of (param.Switch k) = (k, None)
control_of (param.Proc k s) = (k, Some s)
control_of _ = (0, None)

-- where the element of a place stands among all mentions
pub record Picked {X : Type 0} (test : Mention → Bool) (R : Here → X → Type 0) (ms : List Here) (i : ℕ) (y : X) : Type 0 where
  pub before : List Here
  pub after : List Here
  pub mention : Here
  pub is_there : ms ≡ before ++ mention ∷ after
  pub is_place : length (pick test before) ≡ i
  pub is_picked : test mention.mention ≡ true
  pub related : R mention y

one_before : {X : Type 0} (test : Mention → Bool) (R : Here → X → Type 0) (m : Here) (ms : List Here) (i j : ℕ) (y : X) (b : Bool) → test m.mention ≡ b → cond b (suc i) i ≡ j → Picked test R ms i y → Picked test R (m ∷ ms) j y
one_before test R m ms i j y b e same p = record {
  before = m ∷ p.before;
  after = p.after;
  mention = p.mention;
  is_there = ap (λ xs. m ∷ xs) p.is_there;
  is_place = ap (λ t. length (cond t (m ∷ pick test p.before) (pick test p.before))) e ∙ by_test b ∙ same;
  is_picked = p.is_picked;
  related = p.related;
}
  where
    by_test : (t : Bool) → length (cond t (m ∷ pick test p.before) (pick test p.before)) ≡ cond t (suc i) i
    by_test true = ap suc p.is_place
    by_test false = p.is_place

pub picked_of : {X : Type 0} (test : Mention → Bool) (R : Here → X → Type 0) (ms : List Here) (ys : List X) (i : ℕ) (y : X) → Zip R (pick test ms) ys → slice_get ys i ≡ Some y → Picked test R ms i y
picked_of test R [] [] i y h e = absurd (none-some y e)
picked_of test R [] (x ∷ ys) i y h e = absurd h
picked_of {X = X} test R (m ∷ ms) ys i y h e = by_test (λ zs j k f. picked_of test R ms zs j y k f) (test m.mention) refl ys i (subst (λ t. Zip R (cond t (m ∷ pick test ms) (pick test ms)) ys) refl h) e
  where
    by_test : ((zs : List X) (j : ℕ) → Zip R (pick test ms) zs → slice_get zs j ≡ Some y → Picked test R ms j y) → (b : Bool) → test m.mention ≡ b → (zs : List X) (j : ℕ) → Zip R (cond b (m ∷ pick test ms) (pick test ms)) zs → slice_get zs j ≡ Some y → Picked test R (m ∷ ms) j y
    by_test rest true t [] j k f = absurd k
    by_test rest true t (z ∷ zs) zero k f = record { before = []; after = ms; mention = m; is_there = refl; is_place = refl; is_picked = t; related = subst (R m) (same_Some z y f) k.0 }
    by_test rest true t (z ∷ zs) (suc j) k f = one_before test R m ms j (suc j) y true t refl (rest zs j k.1 f)
    by_test rest false t zs j k f = one_before test R m ms j j y false t refl (rest zs j k f)

made_listed : (xs : List Param) → map control_of (filter is_control_param xs) ≡ controls_listed xs
made_listed = listed_as control_of controls_listed refl step
  where
    step : (x : Param) (xs : List Param) → controls_listed (x ∷ xs) ≡ cond (is_control_param x) (control_of x ∷ controls_listed xs) (controls_listed xs)
    step (param.Label k) xs = refl
    step (param.Switch k) xs = refl
    step (param.Proc k s) xs = refl
    step _ xs = refl

module _ (numbers : Numbers) where
  module _ (sigs : List (Row Signature)) where
    abbrev pub ControlOfKind : NameKind → (token : ℕ) → Control → Type 0
    ControlOfKind kind.LabelParam t x = x ≡ (control_here numbers t, None)
    ControlOfKind kind.SwitchParam t x = x ≡ (control_here numbers t, None)
    ControlOfKind (kind.ProcParam answer) t x = (params : List RawIps) × (x ≡ (control_here numbers t, Some (plain_spec answer params))) × In (record { token = t; item = record { answer = answer; params = plain params } }) sigs
    ControlOfKind _ t x = ⊥

    abbrev pub ControlOf : Here → Control → Type 0
    ControlOf = OfHere ControlOfKind

    control_made : (k : NameKind) (t : ℕ) (x : Param) → ParamOfKind numbers sigs k t x → ControlOfKind k t (control_of x)
    control_made kind.LabelParam t x h = ap control_of h
    control_made kind.SwitchParam t x h = ap control_of h
    control_made (kind.ProcParam answer) t x h = (h.0, ap control_of h.1, h.2)
    control_made _ t x h = absurd h

    pub all_controls : (params : List RawParam) (q : Option ℕ) → Sub (text_signatures (parameters_facts params)) sigs → Zip ControlOf (controls numbers (facts_mentions numbers (parameters_facts params) q)) (controls_listed (params_of numbers params))
    all_controls params q sub =
        subst (Zip ControlOf (controls numbers (facts_mentions numbers (parameters_facts params) q))) (made_listed (params_of numbers params)) (controls_made numbers sigs ControlOfKind control_of control_made params q sub)
