-- Each judgement of names answers the earliest of its faults.
use Rattle.std.proofs.Common.{◌≡◌, List, [], ◌∷◌, ◌++◌, map, Bool, true, false, cond, Option, Some, None, refl, sym, subst, ◌==◌}
use Rattle.cw_tree.specs.declared.leaf.RawName.{RawName}
use Rattle.cw_table.specs.declared.table.Row.{Row}
use Rattle.cw_table.specs.Earliest.{IsEarliest, with_first}
use Rattle.cw_table.proofs.Earliest.{IsOrder, order_by, keeps_nothing, keeps_one, keeps_both}
use Rattle.cw_facts.specs.declared.fact.Fact.{Fact, Fact-F, map-Fact}
use Rattle.cw_facts.specs.declared.fact.Fact.TheFolds.{fold-roll-Fact, ind-Fact}
use Rattle.cw_facts.specs.declared.fact.Fact.TheOpen as layer
use Rattle.cw_facts.specs.declared.fact.Declaration.{Declaration}
use Rattle.cw_facts.specs.declared.fact.Use.{Use}
use Rattle.cw_facts.specs.declared.fact.Signature.{Signature}
use Rattle.cw_scope.specs.declared.fault.Fault.{Fault}
use Rattle.cw_scope.specs.declared.fault.Rule.{Rule}
use Rattle.cw_scope.specs.declared.fault.Rule.TheVariants as rule
use Rattle.cw_scope.specs.Faults.{Judgement, comes_before, rule_number, earlier_if, fine, wrong, unless, both}
use Rattle.cw_scope.specs.Telling.{Tells}
use Rattle.cw_scope.specs.Scope.{Environment, declared_in, declaration_of}
use Rattle.cw_scope.specs.NameRules.{Said, said, said_step, all_faults, all_declared, within, use_faults, undeclared_rule, fits, repeat_faults, own_block, name_faults}
use Rattle.cw_scope.specs.Definitions.{Defined, defined, defined_step, each_own, each_listed, definition_faults, wrong_if, broken_rule, same_specified, fits_built_in_if, definitions_judged}
use Rattle.cw_scope.specs.Resolved.{text_signatures}
use Rattle.cw_scope.specs.Text.{text_fault}
use Rattle.cw_table.specs.Rows.{item_at}

order : IsOrder comes_before
order = order_by (λ (f : Fault). f.name.at.token) (λ (f : Fault). rule_number f.rule)

chosen : (b : Bool) (f g : Fault) → earlier_if b f g ≡ cond b (Some f) (Some g)
chosen true f g = refl
chosen false f g = refl

pub Told : Judgement → Type 0
Told j = (told : List Fault) × Tells j told

pub tells_fine : Tells fine []
tells_fine = keeps_nothing comes_before order

pub tells_wrong : (r : Rule) (n : RawName) → Tells (wrong r n) (record { rule = r; name = n } ∷ [])
tells_wrong r n = keeps_one comes_before order (wrong r n) (record { rule = r; name = n }) refl (λ y. chosen (comes_before (record { rule = r; name = n }) y) (record { rule = r; name = n }) y)

pub tells_both : (a b : Judgement) (xs ys : List Fault) → Tells a xs → Tells b ys → Tells (both a b) (xs ++ ys)
tells_both a b xs ys h k = keeps_both comes_before order a b xs ys h k

pub told_fine : Told fine
unfolding Told
told_fine = ([], tells_fine)

pub told_wrong : (r : Rule) (n : RawName) → Told (wrong r n)
unfolding Told
told_wrong r n = (record { rule = r; name = n } ∷ [], tells_wrong r n)

pub told_unless : (b : Bool) (r : Rule) (n : RawName) → Told (unless b r n)
told_unless true r n = told_fine
told_unless false r n = told_wrong r n

pub told_both : (a b : Judgement) → Told a → Told b → Told (both a b)
unfolding Told
told_both a b h k = (h.0 ++ k.0, tells_both a b h.0 k.0 h.1 k.1)

-- what tells its faults takes none away
nothing_first : (x : Option Fault) (told : List Fault) → with_first comes_before x told ≡ [] → x ≡ None
nothing_first None told e = refl
nothing_first (Some f) told e = absurd cc

pub told_keeps : (j : Judgement) → Told j → (x : Option Fault) → j x ≡ None → x ≡ None
unfolding Told
told_keeps j h x e = nothing_first x h.0 (subst (IsEarliest comes_before (with_first comes_before x h.0)) e (h.1.earliest x))

-- ---- names

use_told : (o : Option Declaration) (u : Use) → Told (use_faults o u)
use_told None u = told_wrong (undeclared_rule u.form) u.name
use_told (Some d) u = told_unless (fits u.form d.kind) rule.WrongKind u.name

repeat_told : (o : Option Declaration) (d : Declaration) → Told (repeat_faults o d)
repeat_told None d = told_fine
repeat_told (Some first) d = told_unless (first.name.at.token == d.name.at.token) rule.Twice d.name

abbrev SaidTold : Said → Type 0
SaidTold x = (env : Environment) → Told (x.faults env)

abbrev FactTold : Fact → Type 0
FactTold f = SaidTold (said f)

all_told : (facts : List ((f : Fact) × FactTold f)) (env : Environment) → Told (all_faults env (map said (map (λ e. e.0) facts)))
all_told [] env = told_fine
all_told (e ∷ es) env = told_both ((said e.0).faults env) (all_faults env (map said (map (λ e. e.0) es))) (e.1 env) (all_told es env)

said_told : (y : Fact-F ((f : Fact) × FactTold f)) → SaidTold (said_step (map-Fact Fact Said said (map-Fact ((f : Fact) × FactTold f) Fact (λ e. e.0) y)))
said_told (layer.Declares d) env = repeat_told (declared_in (own_block env) d.name.name) d
said_told (layer.Uses u) env = use_told (declaration_of env u.name.name) u
said_told (layer.Specifies token s) env = told_fine
said_told (layer.Loop at) env = told_fine
said_told (layer.Text at n) env = told_fine
said_told (layer.Block owner es) env = all_told es (within env (map said (map (λ e. e.0) es)))

fact_told : (f : Fact) → FactTold f
fact_told = ind-Fact FactTold (λ x y is.
    subst SaidTold (sym (fold-roll-Fact Said said_step x)) (subst (λ z. SaidTold (said_step (map-Fact Fact Said said z))) is (said_told y)))

pub facts_told : (facts : List Fact) (env : Environment) → Told (all_faults env (map said facts))
facts_told [] env = told_fine
facts_told (f ∷ fs) env = told_both ((said f).faults env) (all_faults env (map said fs)) (fact_told f env) (facts_told fs env)

-- ---- definitions

wrong_if_told : (o : Option Rule) (n : RawName) → Told (wrong_if o n)
wrong_if_told None n = told_fine
wrong_if_told (Some r) n = told_wrong r n

module _ (signatures : List (Row Signature)) where
  pub definition_told : (o : Option Declaration) (d : Declaration) → Told (definition_faults signatures o d)
  definition_told None d = told_fine
  definition_told (Some listed) d = wrong_if_told (broken_rule listed.kind d.kind (same_specified signatures listed.name.at.token d.name.at.token)) d.name

  record DefinedTold (x : Defined signatures) : Type 0 where
    listed : (cs : List Declaration) → Told (x.listed cs)
    own : (cs : List Declaration) → Told (x.own cs)

  abbrev DefinitionTold : Fact → Type 0
  DefinitionTold f = DefinedTold (defined signatures f)

  own_told : (es : List ((f : Fact) × DefinitionTold f)) (cs : List Declaration) → Told (each_own signatures cs (map (defined signatures) (map (λ e. e.0) es)))
  own_told [] cs = told_fine
  own_told (e ∷ es) cs = told_both ((defined signatures e.0).own cs) (each_own signatures cs (map (defined signatures) (map (λ e. e.0) es))) (e.1.own cs) (own_told es cs)

  defined_told : (y : Fact-F ((f : Fact) × DefinitionTold f)) → DefinedTold (defined_step signatures (map-Fact Fact (Defined signatures) (defined signatures) (map-Fact ((f : Fact) × DefinitionTold f) Fact (λ e. e.0) y)))
  defined_told (layer.Declares d) =
      record {
        listed = λ cs. told_unless (fits_built_in_if d.kind (item_at signatures d.name.at.token)) rule.SpecDiffers d.name;
        own = λ cs. definition_told (declared_in cs d.name.name) d;
      }
  defined_told (layer.Uses u) = record { listed = λ cs. told_fine; own = λ cs. told_fine }
  defined_told (layer.Specifies token s) = record { listed = λ cs. told_fine; own = λ cs. told_fine }
  defined_told (layer.Loop at) = record { listed = λ cs. told_fine; own = λ cs. told_fine }
  defined_told (layer.Text at n) = record { listed = λ cs. told_fine; own = λ cs. told_fine }
  defined_told (layer.Block owner es) = record { listed = λ cs. own_told es cs; own = λ cs. told_fine }

  definition_of_told : (f : Fact) → DefinitionTold f
  definition_of_told = ind-Fact DefinitionTold (λ x y is.
      subst DefinedTold (sym (fold-roll-Fact (Defined signatures) (defined_step signatures) x))
      (subst (λ z. DefinedTold (defined_step signatures (map-Fact Fact (Defined signatures) (defined signatures) z))) is (defined_told y)))

  pub listed_told : (facts : List Fact) (cs : List Declaration) → Told (each_listed signatures cs (map (defined signatures) facts))
  listed_told [] cs = told_fine
  listed_told (f ∷ fs) cs = told_both ((defined signatures f).listed cs) (each_listed signatures cs (map (defined signatures) fs)) ((definition_of_told f).listed cs) (listed_told fs cs)

pub text_told : (facts : List Fact) → (told : List Fault) × Tells (both (name_faults facts) (definitions_judged facts)) told × IsEarliest comes_before told (text_fault facts)
unfolding Told
text_told facts =
    let all =
    told_both (name_faults facts) (definitions_judged facts) (facts_told facts (within [] (map said facts)))
    (listed_told (text_signatures facts) facts (all_declared (map said facts))) in
    (all.0, all.1, all.1.earliest None)

pub ruleset laws = (tells_fine, tells_wrong, tells_both)
