use Rattle.std.proofs.Common.{◌∙◌, List, map, ap}
use Rattle.cw_facts.specs.declared.fact.Declaration.{Declaration}
use Rattle.cw_scope.specs.Definitions.{each_listed, defined}
use Rattle.cw_scope.proofs.resolving.first_fault.Goals as goal

pub returns : goal.returns
returns c =
    c.judge_definitions.ensures
    ∙ ap (λ (ds : List Declaration). each_listed c.args.signatures.now ds (map (defined c.args.signatures.now) c.args.facts.now) c.args.first) c.in_ok-communicators.ensures
