-- What the names that a text uses stand for in its unit, body by body: where this holds of all names of a text whose types have no fault,
-- each tree of the unit is well formed, and its orders do what it means.
use Rattle.std.specs.Prelude.{◌≡◌, ◌⊎◌, ℕ, List, [], ◌∷◌, map, IsTrue, Option, Some, slice_get}
use Rattle.cw_table.specs.Rows.{item_at}
use Rattle.cw_tree.specs.declared.leaf.RawName.{RawName}
use Rattle.cw_tree.specs.declared.leaf.RawSize.{RawSize}
use Rattle.cw_tree.specs.declared.leaf.RawType.{RawType}
use Rattle.cw_tree.specs.declared.segment.RawIps.{RawIps}
use Rattle.cw_tree.specs.declared.segment.RawIps.TheVariants as inner
use Rattle.cw_tree.specs.declared.segment.RawPs.{RawPs}
use Rattle.cw_tree.specs.declared.segment.RawPs.TheVariants as ps
use Rattle.cw_facts.specs.declared.fact.Fact.{Fact}
use Rattle.cw_facts.specs.declared.fact.Kind.{Kind as NameKind}
use Rattle.cw_facts.specs.declared.fact.Kind.TheVariants as kind
use Rattle.cw_facts.specs.declared.fact.Use.{Use}
use Rattle.cw_scope.specs.declared.resolve.Named.{Named}
use Rattle.cw_facts.specs.Signatures.{plain}
use Rattle.cw_scope.specs.NameRules.{fits, is_procedure}
use Rattle.cw_scale.specs.Kinds.{kind_of, signature_of, answer_fraction}
use Rattle.cw_scale.specs.Arguments.{answers_alone}
use Rattle.cw_number.specs.declared.numbered.Numbered.{Numbered}
use Rattle.cw_number.specs.declared.numbered.Numbered.TheVariants as numbered
use Rattle.cw_make_expr.specs.Parts.{Numbers, number_of, kind_here, target_of}
use Rattle.cw_unit.specs.declared.unit.Unit.{Unit as SourceUnit}
use Rattle.cw_unit.specs.declared.unit.Proc.{Proc}
use Rattle.cw_unit.specs.declared.unit.Goal.TheVariants as goal
use Rattle.cw_unit.specs.Program.{definition_of}
use Rattle.cw_unit.specs.Scales.{answer_scale}
use Rattle.cw_unit.specs.Configuration.{procedure_at}
use Rattle.cw_unit.specs.Step.{label_of_goal, switch_of_def, procedure_of_def}
use Rattle.cw_safety.specs.Kinds.{Kind, WordKind, LabelKind, SwitchKind, ProcedureKind, Taken, taken_of, parameter_kinds}
use Rattle.cw_safety.specs.WellFormed.{reaches, reaches_switch, controls_of, procedure_of_place}
use Rattle.cw_gen_expr.specs.NamedItems.{has_words}
use Rattle.cw_built.specs.Built.{alone, at_work}
use Rattle.cw_sound.specs.Uses.Mentions.{In, Mention, Here, declares, uses, stores, facts_mentions}

-- ---- what parameters take, as they are specified

abbrev pub kind_of_plain : RawIps → Kind
kind_of_plain (inner.Label at) = LabelKind
kind_of_plain (inner.Switch at) = SwitchKind
kind_of_plain _ = WordKind

abbrev pub taken_by_plain : RawIps → Taken
taken_by_plain p = taken_of (kind_of_plain p)

abbrev pub kind_specified : RawPs → Kind
kind_specified (ps.Plain p) = kind_of_plain p
kind_specified (ps.Proc answer at params) = ProcedureKind (map taken_by_plain params)

-- ---- in the body of a procedure of the unit, or of its segment

module _ (named : Named) (numbers : Numbers) (u : SourceUnit) (who : Option ℕ) where
  -- an item of so many words that the body may name
  abbrev pub IsItem : (words : ℕ) → Option Numbered → Type 0
  IsItem words number = (i : ℕ) × (number ≡ Some (numbered.Item i)) × IsTrue (has_words u who i words)

  -- the table of an element, by the token of the table's declaration
  abbrev pub IsTable : (token : ℕ) → Type 0
  IsTable token = (s : RawSize) × ((kind_here named token ≡ Some (kind.Table s))
      ⊎ (kind_here named token ≡ Some (kind.TableParam s))) × IsItem 1 (item_at numbers token)

  abbrev pub IsLabel : Option Numbered → Type 0
  IsLabel (Some (numbered.Label l)) = IsTrue (reaches (alone u) (at_work who) (Some (0, l)))
  IsLabel (Some (numbered.CommonLabel d)) = IsTrue (reaches (alone u) (at_work who) (label_of_goal (alone u) 0 (goal.Common d)))
  IsLabel _ = ⊥

  abbrev pub IsSwitch : Option Numbered → Type 0
  IsSwitch (Some (numbered.Switch n)) = IsTrue (reaches_switch (alone u) (at_work who) (Some (0, n)))
  IsSwitch (Some (numbered.CommonSwitch d)) = IsTrue (reaches_switch (alone u) (at_work who) (switch_of_def (definition_of (alone u) 0 d)))
  IsSwitch _ = ⊥

  -- a procedure whose parameters take what they are specified to take
  abbrev pub Takes : (params : List RawPs) → Option Proc → Type 0
  Takes params found = (q : Proc) × (found ≡ Some q) × (parameter_kinds q ≡ map kind_specified params)

  abbrev pub IsProcedure : (params : List RawPs) → Option Numbered → Type 0
  IsProcedure params (Some (numbered.Proc p)) = Takes params (procedure_at (alone u) 0 p)
  IsProcedure params (Some (numbered.CommonProc d)) = Takes params (procedure_of_place (alone u) (procedure_of_def (definition_of (alone u) 0 d)))
  IsProcedure params _ = ⊥

  -- a control parameter of the procedure
  abbrev pub IsControl : Kind → Option Numbered → Type 0
  IsControl k number = (c : ℕ) × (number ≡ Some (numbered.Control c)) × (slice_get (controls_of (alone u) (at_work who)) c ≡ Some k)

  -- a procedure that is a parameter takes no procedures
  abbrev pub IsParameter : List RawPs → Option Numbered → Type 0
  IsParameter params number = (plains : List RawIps) × (params ≡ plain plains) × IsControl (ProcedureKind (map taken_by_plain plains)) number

  -- a name of a procedure has a specification, and its answer is told at the scale of its type
  pub record Called (n : RawName) (answer : Option RawType) (Is : List RawPs → Option Numbered → Type 0) : Type 0 where
    pub params : List RawPs
    pub signature : signature_of named n ≡ Some (record { answer = answer; params = params })
    pub is : Is params (number_of named numbers n)
    pub scale : answer_scale u (target_of (kind_of named n) (number_of named numbers n)) ≡ answer_fraction answer

  abbrev pub IsReader : List RawPs → Option Numbered → Type 0
  IsReader params number = (params ≡ []) × (number ≡ Some numbered.ReadByte)

  abbrev pub IsWriter : List RawPs → Option Numbered → Type 0
  IsWriter params number = (map kind_specified params ≡ WordKind ∷ []) × (number ≡ Some numbered.WriteByte)

  -- what a name of a kind stands for
  abbrev pub StandsAs : NameKind → RawName → Type 0
  StandsAs (kind.Single t) n = IsItem 1 (number_of named numbers n)
  StandsAs (kind.Array t b) n = IsItem 1 (number_of named numbers n)
  StandsAs (kind.Table s) n = IsItem 1 (number_of named numbers n)
  StandsAs (kind.Element table e) n = IsTable table.at.token
  StandsAs (kind.Value t) n = IsItem 1 (number_of named numbers n)
  StandsAs (kind.Location t) n = IsItem 1 (number_of named numbers n)
  StandsAs (kind.ArrayParam t) n = IsItem 1 (number_of named numbers n)
  StandsAs (kind.TableParam s) n = IsItem 1 (number_of named numbers n)
  StandsAs kind.LabelParam n = IsControl LabelKind (number_of named numbers n)
  StandsAs kind.SwitchParam n = IsControl SwitchKind (number_of named numbers n)
  StandsAs (kind.ProcParam answer) n = Called n answer IsParameter
  StandsAs kind.Label n = IsLabel (number_of named numbers n)
  StandsAs kind.Switch n = IsSwitch (number_of named numbers n)
  StandsAs (kind.Proc answer) n = Called n answer IsProcedure
  StandsAs kind.ReadByte n = (answer : Option RawType) × Called n answer IsReader
  StandsAs kind.WriteByte n = (answer : Option RawType) × Called n answer IsWriter
  StandsAs kind.Bounds n = Unit {0}
  StandsAs (kind.Answer t) n = Unit {0}

  -- a name that is used has a kind, which allows this use, and stands for something; one that answers by itself is a procedure's
  pub record Stands (x : Use) : Type 0 where
    pub named_kind : NameKind
    pub is_kind : kind_of named x.name ≡ Some named_kind
    pub fits_use : IsTrue (fits x.form named_kind)
    pub stands_as : StandsAs named_kind x.name
    pub called : IsTrue (answers_alone (signature_of named x.name)) → IsTrue (is_procedure named_kind)

-- ---- the facts of a text, each in the body where it stands

module _ (named : Named) (numbers : Numbers) (u : SourceUnit) where
  -- a use stands for something, and so does what has words: a string, and a FOR, which has four words of its own
  abbrev pub MentionStands : (who : Option ℕ) → Mention → Type 0
  MentionStands who (declares d) = Unit {0}
  MentionStands who (uses x) = Stands named numbers u who x
  MentionStands who (stores token words) = IsItem named numbers u who words (item_at numbers token)

  abbrev pub FactsStand : List Fact → Option ℕ → Type 0
  FactsStand facts who = (m : Here) → In m (facts_mentions numbers facts who) → MentionStands m.who m.mention
