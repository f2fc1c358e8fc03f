-- What the declarations of a block stand for, part by part: each part with what the whole mentions before it and behind it, and with the
-- procedures before it and behind it.
use Rattle.std.proofs.Common.{◌≡◌, ℕ, List, [], map, Bool, true, false, IsTrue, Option, Some, None, slice_get, subst}
use Rattle.cw_table.specs.Rows.{item_at}
use Rattle.cw_tree.specs.declared.leaf.RawName.{RawName}
use Rattle.cw_tree.specs.declared.leaf.RawType.{RawType}
use Rattle.cw_tree.specs.declared.segment.RawIps.{RawIps}
use Rattle.cw_tree.specs.declared.statement.RawProc.{RawProc, out-RawProc}
use Rattle.cw_facts.specs.declared.fact.Kind.{Kind as NameKind}
use Rattle.cw_facts.specs.declared.fact.Kind.TheVariants as kind
use Rattle.cw_facts.specs.Signatures.{plain, flattened}
use Rattle.cw_scope.specs.declared.resolve.Named.{Named}
use Rattle.cw_number.specs.declared.numbered.Numbered.TheVariants as numbered
use Rattle.cw_make_expr.specs.Parts.{label_in}
use Rattle.cw_make_items.specs.Lookup.{Numbers}
use Rattle.cw_make.specs.Procedures.{proc_of}
use Rattle.cw_unit.specs.declared.unit.Unit.{Unit as SourceUnit}
use Rattle.cw_unit.specs.declared.unit.Proc.{Proc}
use Rattle.cw_safety.specs.Kinds.{Kind, LabelKind, SwitchKind, ProcedureKind}
use Rattle.cw_safety.specs.WellFormed.{sets, sets_in_procedure, controls_in}
use Rattle.cw_sound.specs.Uses.Stands.{taken_by_plain}
use Rattle.cw_sound.specs.Uses.Mentions.{In, Mention, Here, declares, uses, stores}
use Rattle.cw_sound.specs.Names.Standing.{FewParameters}
use Rattle.cw_sound.proofs.Names.Params.{ControlOfKind}

-- what asks for nothing here
abbrev pub is_quiet : NameKind → Bool
is_quiet (kind.Proc t) = false
is_quiet kind.Label = false
is_quiet kind.LabelParam = false
is_quiet kind.SwitchParam = false
is_quiet (kind.ProcParam t) = false
is_quiet _ = true

abbrev pub is_quiet_mention : Mention → Bool
is_quiet_mention (declares d) = is_quiet d.kind
is_quiet_mention (uses x) = true
is_quiet_mention (stores token n) = true

module _ (named : Named) (numbers : Numbers) (u : SourceUnit) where
  -- a label is set in the body
  abbrev pub SetIn : Option ℕ → (label : ℕ) → Type 0
  SetIn None l = IsTrue (sets l u.body)
  SetIn (Some p) l = IsTrue (sets_in_procedure l (slice_get u.procs p))

  abbrev pub controls_at : Option ℕ → List Kind
  controls_at None = []
  controls_at (Some p) = controls_in (slice_get u.procs p)

  abbrev pub ControlAt : Option ℕ → (token : ℕ) → Kind → Type 0
  ControlAt q t k = (c : ℕ) × (item_at numbers t ≡ Some (numbered.Control c)) × (slice_get (controls_at q) c ≡ Some k)

  -- what holds where no procedure has too many parameters
  abbrev pub ControlWhere : Option ℕ → (token : ℕ) → Kind → Type 0
  ControlWhere q t k = FewParameters named → ControlAt q t k

  -- the procedure of the unit for one that is declared
  pub record ProcedureAt (n : RawName) (answer : Option RawType) : Type 0 where
    pub number : ℕ
    pub proc : RawProc
    pub is_number : item_at numbers n.at.token ≡ Some (numbered.Proc number)
    pub is_proc : slice_get u.procs number ≡ Some (proc_of named numbers proc)
    pub is_answer : (out-RawProc proc).answer ≡ answer
    pub signature : In (record { token = n.at.token; item = record { answer = answer; params = flattened (out-RawProc proc).params } }) named.signatures

  abbrev pub Goal : Option ℕ → RawName → NameKind → Type 0
  Goal q n (kind.Proc answer) = ProcedureAt n answer
  Goal q n kind.Label = SetIn q (label_in (item_at numbers n.at.token))
  Goal q n kind.LabelParam = ControlWhere q n.at.token LabelKind
  Goal q n kind.SwitchParam = ControlWhere q n.at.token SwitchKind
  Goal q n (kind.ProcParam answer) =
      (params : List RawIps) × ControlWhere q n.at.token (ProcedureKind (map taken_by_plain params)) × In (record { token = n.at.token; item = record { answer = answer; params = plain params } }) named.signatures
  Goal q n _ = Unit {0}

  abbrev pub MentionGoal : Option ℕ → Mention → Type 0
  MentionGoal q (declares d) = Goal q d.name d.kind
  MentionGoal q (uses x) = Unit {0}
  MentionGoal q (stores token n) = Unit {0}

  abbrev pub HereGoal : Here → Type 0
  HereGoal m = MentionGoal m.who m.mention

  quiet_kind : (q : Option ℕ) (n : RawName) (k : NameKind) → IsTrue (is_quiet k) → Goal q n k
  quiet_kind q n (kind.Proc t) h = absurd (cc)
  quiet_kind q n kind.Label h = absurd (cc)
  quiet_kind q n kind.LabelParam h = absurd (cc)
  quiet_kind q n kind.SwitchParam h = absurd (cc)
  quiet_kind q n (kind.ProcParam t) h = absurd (cc)
  quiet_kind q n _ h = tt

  pub quiet : (q : Option ℕ) (m : Mention) → IsTrue (is_quiet_mention m) → MentionGoal q m
  quiet q (declares d) h = quiet_kind q d.name d.kind h
  quiet q (uses x) h = tt
  quiet q (stores token n) h = tt

  pub from_control : (q : Option ℕ) (n : RawName) (k : NameKind) (κ : Kind) → ControlOfKind numbers named.signatures k n.at.token κ → ControlWhere q n.at.token κ → Goal q n k
  from_control q n kind.LabelParam κ h c = subst (ControlWhere q n.at.token) h c
  from_control q n kind.SwitchParam κ h c = subst (ControlWhere q n.at.token) h c
  from_control q n (kind.ProcParam answer) κ h c = (h.0, subst (ControlWhere q n.at.token) h.1 c, h.2)
  from_control q n _ κ h c = absurd h
