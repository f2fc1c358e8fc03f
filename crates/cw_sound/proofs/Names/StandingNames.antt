-- From what a declaration stands for to the names that refer to it.
use Rattle.std.proofs.Common.{◌≡◌, ◌⊎◌, inl, inr, ℕ, map, IsTrue, ◌&&◌, Option, Some, None, slice_get, refl, sym, ap, subst, ◌∙◌}
use Rattle.std.specs.Prelude.{option_map, option_and_then}
use Rattle.cw_table.specs.Rows.{item_at}
use Rattle.cw_tree.specs.declared.leaf.RawName.{RawName}
use Rattle.cw_tree.specs.declared.leaf.RawType.{RawType}
use Rattle.cw_tree.specs.declared.leaf.RawType.TheVariants as type
use Rattle.cw_tree.specs.declared.statement.RawProc.{out-RawProc}
use Rattle.cw_facts.specs.declared.fact.Declaration.{Declaration}
use Rattle.cw_facts.specs.declared.fact.Kind.{Kind as NameKind}
use Rattle.cw_facts.specs.declared.fact.Kind.TheVariants as kind
use Rattle.cw_facts.specs.declared.fact.Signature.{Signature}
use Rattle.cw_facts.specs.Signatures.{plain, flattened}
use Rattle.cw_scope.specs.declared.resolve.Named.{Named}
use Rattle.cw_scope.specs.NameRules.{is_own_label}
use Rattle.cw_scale.specs.Kinds.{kind_in, kind_of, signature_of, answer_fraction}
use Rattle.cw_number.specs.declared.numbered.Numbered.TheVariants as numbered
use Rattle.cw_make_expr.specs.Parts.{Numbers, number_of, target_of, answer_of as control_answer}
use Rattle.cw_make_items.specs.Types.{answer_of}
use Rattle.cw_make.specs.Procedures.{proc_of}
use Rattle.cw_unit.specs.declared.unit.Unit.{Unit as SourceUnit}
use Rattle.cw_unit.specs.declared.unit.Proc.{Proc}
use Rattle.cw_unit.specs.declared.unit.Label.{Label}
use Rattle.cw_unit.specs.Scales.{answer_scale, fraction_of, fraction_of_proc}
use Rattle.cw_safety.specs.Kinds.{Kind, LabelKind, SwitchKind, ProcedureKind}
use Rattle.cw_safety.specs.WellFormed.{sets, sets_in_procedure, is_at, reaches_label}
use Rattle.cw_built.specs.Built.{at_work}
use Rattle.cw_sound.specs.Uses.Stands.{StandsAs, IsItem, IsLabel, IsControl, IsProcedure, taken_by_plain}
use Rattle.cw_sound.specs.Uses.Mentions.{In}
use Rattle.cw_sound.specs.Names.Placed.{tokens, Differ}
use Rattle.cw_sound.specs.Names.Found.{Refers}
use Rattle.cw_sound.specs.Names.Standing.{FewParameters, is_item, is_own_procedure, is_control, StandsIn, StandsFrom, IsItemFrom}
use Rattle.cw_sound.proofs.Names.FoundRows.{found, eq_same}
use Rattle.cw_sound.proofs.Names.Params.{kinds_as_specified}
use Rattle.cw_sound.proofs.Names.Inside.{SetIn, ControlAt, ProcedureAt, Goal}

pub answer_same : (answer : Option RawType) → fraction_of (answer_of answer) ≡ answer_fraction answer
answer_same None = refl
answer_same (Some (type.Integer at)) = refl
answer_same (Some (type.Fixed at t f)) = refl

control_answer_same : (answer : Option RawType) → fraction_of (control_answer (Some (kind.ProcParam answer))) ≡ answer_fraction answer
control_answer_same None = refl
control_answer_same (Some (type.Integer at)) = refl
control_answer_same (Some (type.Fixed at t f)) = refl

module _ (named : Named) (numbers : Numbers) (u : SourceUnit) where
  -- what is declared in a body or outside of procedures stands in that body
  pub near_stands : (owner who : Option ℕ) (d : Declaration) → (owner ≡ who) ⊎ (owner ≡ None) → StandsFrom named numbers u owner d → StandsIn named numbers u who d
  near_stands owner who d (inr e) s = subst (λ o. StandsFrom named numbers u o d) e s who
  near_stands owner who d (inl e) s = own who (subst (λ o. StandsFrom named numbers u o d) e s)
    where
      own : (o : Option ℕ) → StandsFrom named numbers u o d → StandsIn named numbers u o d
      own None t = t None
      own (Some p) t = t

  pub number_here : (n : RawName) (d : Declaration) → Refers named n d → number_of named numbers n ≡ item_at numbers d.name.at.token
  number_here n d r = ap (option_and_then (item_at numbers)) r.0

  kind_here : (n : RawName) (d : Declaration) → Refers named n d → kind_of named n ≡ Some d.kind
  kind_here n d r = ap (λ o. option_map kind_in (option_and_then (item_at named.declarations) o)) r.0 ∙ ap (option_map kind_in) r.1

  pub signature_here : (n : RawName) (d : Declaration) (s : Signature) → Differ (tokens named.signatures) → Refers named n d → In (record { token = d.name.at.token; item = s }) named.signatures → signature_of named n ≡ Some s
  signature_here n d s differ r i = ap (option_and_then (item_at named.signatures)) r.0 ∙ found named.signatures (record { token = d.name.at.token; item = s }) differ i

  -- ---- items

  item_stands : (who : Option ℕ) (d : Declaration) (n : RawName) → IsTrue (is_item d.kind) → Refers named n d → IsItem named numbers u who 1 (item_at numbers d.name.at.token) → StandsAs named numbers u who d.kind n
  item_stands who d n h r i = by_kind d.kind h
    where
      by_kind : (k : NameKind) → IsTrue (is_item k) → StandsAs named numbers u who k n
      by_kind (kind.Single t) e = subst (IsItem named numbers u who 1) (sym (number_here n d r)) i
      by_kind (kind.Array t b) e = subst (IsItem named numbers u who 1) (sym (number_here n d r)) i
      by_kind (kind.Table s) e = subst (IsItem named numbers u who 1) (sym (number_here n d r)) i
      by_kind (kind.Element t x) e = absurd (cc)
      by_kind (kind.Value t) e = subst (IsItem named numbers u who 1) (sym (number_here n d r)) i
      by_kind (kind.Location t) e = subst (IsItem named numbers u who 1) (sym (number_here n d r)) i
      by_kind (kind.ArrayParam t) e = subst (IsItem named numbers u who 1) (sym (number_here n d r)) i
      by_kind (kind.TableParam s) e = subst (IsItem named numbers u who 1) (sym (number_here n d r)) i
      by_kind kind.LabelParam e = absurd (cc)
      by_kind kind.SwitchParam e = absurd (cc)
      by_kind (kind.ProcParam t) e = absurd (cc)
      by_kind kind.Label e = absurd (cc)
      by_kind kind.Switch e = absurd (cc)
      by_kind (kind.Proc t) e = absurd (cc)
      by_kind kind.ReadByte e = absurd (cc)
      by_kind kind.WriteByte e = absurd (cc)
      by_kind kind.Bounds e = absurd (cc)
      by_kind (kind.Answer t) e = absurd (cc)

  pub item_from : (owner : Option ℕ) (d : Declaration) → IsTrue (is_item d.kind) → IsItemFrom named numbers u owner (item_at numbers d.name.at.token) → StandsFrom named numbers u owner d
  item_from None d h i = λ who n r. item_stands who d n h r (i who)
  item_from (Some p) d h i = λ n r. item_stands (Some p) d n h r i

  -- ---- procedures

  procedure_stands : (who : Option ℕ) (d : Declaration) (n : RawName) (answer : Option RawType) → Differ (tokens named.signatures) → Refers named n d → ProcedureAt named numbers u d.name answer → StandsAs named numbers u who (kind.Proc answer) n
  procedure_stands who d n answer differ r h =
      record {
        params = flattened (out-RawProc h.proc).params;
        signature = signature_here n d (record { answer = answer; params = flattened (out-RawProc h.proc).params }) differ r h.signature;
        is = subst (IsProcedure named numbers u who (flattened (out-RawProc h.proc).params)) (sym (number_here n d r ∙ h.is_number))
            (proc_of named numbers h.proc, h.is_proc, kinds_as_specified numbers (out-RawProc h.proc).params);
        scale = ap (λ o. answer_scale u (target_of (kind_of named n) o)) (number_here n d r ∙ h.is_number) ∙ ap fraction_of_proc h.is_proc ∙ answer_same (out-RawProc h.proc).answer ∙ ap answer_fraction h.is_answer;
      }

  pub procedure_from : (owner : Option ℕ) (d : Declaration) → IsTrue (is_own_procedure d.kind) → Differ (tokens named.signatures) → Goal named numbers u owner d.name d.kind → StandsFrom named numbers u owner d
  procedure_from owner d h differ g = by_owner owner (λ who n r. by_kind who n r d.kind h g)
    where
      by_kind : (who : Option ℕ) (n : RawName) → Refers named n d → (k : NameKind) → IsTrue (is_own_procedure k) → Goal named numbers u owner d.name k → StandsAs named numbers u who k n
      by_kind who n r (kind.Proc answer) e x = procedure_stands who d n answer differ r x
      by_kind who n r (kind.Single t) e x = absurd (cc)
      by_kind who n r (kind.Array t b) e x = absurd (cc)
      by_kind who n r (kind.Table s) e x = absurd (cc)
      by_kind who n r (kind.Element t y) e x = absurd (cc)
      by_kind who n r (kind.Value t) e x = absurd (cc)
      by_kind who n r (kind.Location t) e x = absurd (cc)
      by_kind who n r (kind.ArrayParam t) e x = absurd (cc)
      by_kind who n r (kind.TableParam s) e x = absurd (cc)
      by_kind who n r kind.LabelParam e x = absurd (cc)
      by_kind who n r kind.SwitchParam e x = absurd (cc)
      by_kind who n r (kind.ProcParam t) e x = absurd (cc)
      by_kind who n r kind.Label e x = absurd (cc)
      by_kind who n r kind.Switch e x = absurd (cc)
      by_kind who n r kind.ReadByte e x = absurd (cc)
      by_kind who n r kind.WriteByte e x = absurd (cc)
      by_kind who n r kind.Bounds e x = absurd (cc)
      by_kind who n r (kind.Answer t) e x = absurd (cc)

      by_owner : (o : Option ℕ) → ((who : Option ℕ) → StandsIn named numbers u who d) → StandsFrom named numbers u o d
      by_owner None s = s
      by_owner (Some p) s = s (Some p)

  -- ---- control parameters

  control_here : (p : ℕ) (d : Declaration) (n : RawName) (k : Kind) → Refers named n d → ControlAt named numbers u (Some p) d.name.at.token k → IsControl named numbers u (Some p) k (number_of named numbers n)
  control_here p d n k r c = (c.0, number_here n d r ∙ c.1, c.2)

  control_stands : (p : ℕ) (d : Declaration) (n : RawName) → FewParameters named → Differ (tokens named.signatures) → Refers named n d → (k : NameKind) → k ≡ d.kind → IsTrue (is_control k) → Goal named numbers u (Some p) d.name k → StandsAs named numbers u (Some p) k n
  control_stands p d n few differ r kind.LabelParam is e x = control_here p d n LabelKind r (x few)
  control_stands p d n few differ r kind.SwitchParam is e x = control_here p d n SwitchKind r (x few)
  control_stands p d n few differ r (kind.ProcParam answer) is e x =
      record {
        params = plain x.0;
        signature = signature_here n d (record { answer = answer; params = plain x.0 }) differ r x.2;
        is = (x.0, refl, control_here p d n (ProcedureKind (map taken_by_plain x.0)) r (x.1 few));
        scale = ap (λ o. answer_scale u (target_of (kind_of named n) o)) (number_here n d r ∙ (x.1 few).1) ∙ ap (λ o. fraction_of (control_answer o)) (kind_here n d r ∙ ap (λ y. Some y) (sym is)) ∙ control_answer_same answer;
      }
  control_stands p d n few differ r _ is e x = absurd (cc)

  -- outside of procedures there are none
  nowhere : FewParameters named → (n : RawName) (k : NameKind) → IsTrue (is_control k) → Goal named numbers u None n k → ⊥
  nowhere few n kind.LabelParam e x = let none = (x few).2 in cc
  nowhere few n kind.SwitchParam e x = let none = (x few).2 in cc
  nowhere few n (kind.ProcParam answer) e x = let none = (x.1 few).2 in cc
  nowhere few n _ e x = cc

  pub control_from : FewParameters named → (owner : Option ℕ) (d : Declaration) → IsTrue (is_control d.kind) → Differ (tokens named.signatures) → Goal named numbers u owner d.name d.kind → StandsFrom named numbers u owner d
  control_from few None d h differ g = absurd (nowhere few d.name d.kind h g)
  control_from few (Some p) d h differ g = λ n r. control_stands p d n few differ r d.kind refl h g

  -- ---- labels

  abbrev Reached : (label : ℕ) → (who owner : Option ℕ) → Type 0
  Reached l who None = IsTrue (sets l u.body)
  Reached l who (Some q) = IsTrue (is_at 0 q (at_work who) && sets_in_procedure l (slice_get u.procs q))

  reached : (l : ℕ) (who owner : Option ℕ) (line : ℕ) → Reached l who owner → IsTrue (reaches_label u (Some (record { proc = owner; line = line })) 0 l (at_work who))
  reached l who None line h = h
  reached l who (Some q) line h = h

  reached_in : (l : ℕ) (who : Option ℕ) (m : Label) (owner : Option ℕ) → slice_get u.labels l ≡ Some m → m.proc ≡ owner → Reached l who owner → IsLabel named numbers u who (Some (numbered.Label l))
  reached_in l who m owner is own h =
      subst (λ o. IsTrue (reaches_label u o 0 l (at_work who))) (sym is) (reached l who m.proc m.line (subst (Reached l who) (sym own) h))

  at_own : (l p : ℕ) → SetIn named numbers u (Some p) l → Reached l (Some p) (Some p)
  at_own l p h = subst (λ b. IsTrue (b && sets_in_procedure l (slice_get u.procs p))) (sym (eq_same p)) h

  -- the label of a declaration
  pub record LabelAt (owner : Option ℕ) (n : RawName) : Type 0 where
    pub number : ℕ
    pub is_number : item_at numbers n.at.token ≡ Some (numbered.Label number)
    pub label : Label
    pub is_label : slice_get u.labels number ≡ Some label
    pub is_owner : label.proc ≡ owner
    pub is_set : SetIn named numbers u owner number

  label_in_body : (owner who : Option ℕ) (d : Declaration) (n : RawName) → Refers named n d → (a : LabelAt owner d.name) → Reached a.number who owner → StandsAs named numbers u who kind.Label n
  label_in_body owner who d n r a h = subst (IsLabel named numbers u who) (sym (number_here n d r ∙ a.is_number)) (reached_in a.number who a.label owner a.is_label a.is_owner h)

  as_label : (who : Option ℕ) (n : RawName) (k : NameKind) → IsTrue (is_own_label k) → StandsAs named numbers u who kind.Label n → StandsAs named numbers u who k n
  as_label who n kind.Label e x = x
  as_label who n _ e x = absurd (cc)

  pub label_from : (owner : Option ℕ) (d : Declaration) → IsTrue (is_own_label d.kind) → LabelAt owner d.name → StandsFrom named numbers u owner d
  label_from None d h a = λ who n r. as_label who n d.kind h (label_in_body None who d n r a a.is_set)
  label_from (Some p) d h a = λ n r. as_label (Some p) n d.kind h (label_in_body (Some p) (Some p) d n r a (at_own a.number p a.is_set))
