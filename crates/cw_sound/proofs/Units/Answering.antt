-- ANSWER stands where statements ask for it.
use Rattle.std.proofs.Common.{◌≡◌, ℕ, true, IsTrue, Option, None, refl, sym, ap, subst, ◌∙◌}
use Rattle.std.specs.Prelude.{is_some}
use Rattle.cw_facts.specs.declared.fact.Form.{Form}
use Rattle.cw_facts.specs.declared.fact.Form.TheVariants as form
use Rattle.cw_facts.specs.declared.fact.Use.{Use}
use Rattle.cw_facts.specs.Facts.{block_facts}
use Rattle.cw_scope.specs.declared.resolve.Named.{Named}
use Rattle.cw_scale.specs.Kinds.{kind_of, fraction_of_kind}
use Rattle.cw_make_items.specs.Lookup.{Numbers}
use Rattle.cw_unit.specs.declared.unit.Unit.{Unit as SourceUnit}
use Rattle.cw_gen_unit.specs.ReferenceUnits.{answer_of}
use Rattle.cw_unit.specs.Configuration.{fraction_of_answer}
use Rattle.cw_sound.specs.Uses.Mentions.{In, Mention, here, declares, uses, stores, block_mentions}
use Rattle.cw_sound.specs.Names.Standing.{AnswersFit}
use Rattle.cw_sound.specs.Statements.Answers.{AnswersAs, MentionAnswers, AnswersStand}

module _ (named : Named) (numbers : Numbers) (u : SourceUnit) (fit : AnswersFit named numbers u) where
  by_form : (who : Option ℕ) (x : Use) (f : Form) → x.form ≡ f → In (here who (uses x)) (block_mentions numbers named.raw.now) → AnswersAs named u who f x.name
  by_form who x form.Answer e i =
      let r = fit who x i e in
      subst (λ w. IsTrue (is_some w) × (fraction_of_kind (kind_of named x.name) ≡ answer_of u w)) (sym r.2) (refl, r.4 ∙ sym (ap fraction_of_answer r.3))
  by_form who x _ e i = tt

  by_mention : (who : Option ℕ) (n : Mention) → In (here who n) (block_mentions numbers named.raw.now) → MentionAnswers named u who n
  by_mention who (declares d) i = tt
  by_mention who (uses x) i = by_form who x x.form refl i
  by_mention who (stores token n) i = tt

  pub answers_stand : AnswersStand named numbers u (block_facts named.raw.now.block true) None
  answers_stand m i = by_mention m.who m.mention i
