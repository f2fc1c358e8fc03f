-- ANSWER stands in the body of a procedure of the unit, and has the scale of its answer.
use Rattle.std.specs.Prelude.{◌≡◌, ℕ, List, IsTrue, is_some, Option}
use Rattle.cw_tree.specs.declared.leaf.RawName.{RawName}
use Rattle.cw_facts.specs.declared.fact.Fact.{Fact}
use Rattle.cw_facts.specs.declared.fact.Form.{Form}
use Rattle.cw_facts.specs.declared.fact.Form.TheVariants as form
use Rattle.cw_scope.specs.declared.resolve.Named.{Named}
use Rattle.cw_scale.specs.Kinds.{kind_of, fraction_of_kind}
use Rattle.cw_make_expr.specs.Parts.{Numbers}
use Rattle.cw_unit.specs.declared.unit.Unit.{Unit as SourceUnit}
use Rattle.cw_gen_unit.specs.ReferenceUnits.{answer_of}
use Rattle.cw_sound.specs.Uses.Mentions.{In, Mention, declares, uses, stores, Here, facts_mentions}

module _ (named : Named) (u : SourceUnit) (who : Option ℕ) where
  abbrev pub AnswersAs : Form → RawName → Type 0
  AnswersAs form.Answer n = IsTrue (is_some who) × (fraction_of_kind (kind_of named n) ≡ answer_of u who)
  AnswersAs _ n = Unit {0}

  abbrev pub MentionAnswers : Mention → Type 0
  MentionAnswers (declares d) = Unit {0}
  MentionAnswers (uses x) = AnswersAs x.form x.name
  MentionAnswers (stores token words) = Unit {0}

-- each ANSWER among the facts of a part of a text
abbrev pub AnswersStand : Named → Numbers → SourceUnit → List Fact → Option ℕ → Type 0
AnswersStand named numbers u facts who = (m : Here) → In m (facts_mentions numbers facts who) → MentionAnswers named u m.who m.mention
