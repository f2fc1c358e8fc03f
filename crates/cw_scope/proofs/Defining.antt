-- The definitions of a text are judged with its own specifications and communicators.
use Rattle.std.proofs.Common.{◌≡◌, ◌++◌, ◌∙◌, ap, List, [], map, Option, None}
use Rattle.cw_table.specs.declared.table.Row.{Row}
use Rattle.cw_facts.specs.declared.fact.Fact.{Fact}
use Rattle.cw_facts.specs.declared.fact.Declaration.{Declaration}
use Rattle.cw_facts.specs.declared.fact.Signature.{Signature}
use Rattle.cw_scope.specs.declared.fault.Fault.{Fault}
use Rattle.cw_scope.specs.NameRules.{name_faults, all_declared, said}
use Rattle.cw_scope.specs.Definitions.{each_listed, defined}
use Rattle.cw_scope.specs.Resolved.{text_signatures}
use Rattle.cw_scope.specs.Text.{text_fault}

pub text_judged : (facts : List Fact) (before signatures : List (Row Signature)) (cs : List Declaration) (found first : Option Fault)
    → before ≡ [] → signatures ≡ before ++ text_signatures facts → cs ≡ all_declared (map said facts) → found ≡ name_faults facts None
    → first ≡ each_listed signatures cs (map (defined signatures) facts) found → first ≡ text_fault facts
text_judged facts before signatures cs found first none s d f e =
    let own = s ∙ ap (λ (b : List (Row Signature)). b ++ text_signatures facts) none in
    e ∙ ap (λ (rs : List (Row Signature)). each_listed rs cs (map (defined rs) facts) found) own
    ∙ ap (λ (ds : List Declaration). each_listed (text_signatures facts) ds (map (defined (text_signatures facts)) facts) found) d
    ∙ ap (λ (o : Option Fault). each_listed (text_signatures facts) (all_declared (map said facts)) (map (defined (text_signatures facts)) facts) o) f
