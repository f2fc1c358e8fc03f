use Rattle.std.proofs.Common.{◌≡◌, ◌∙◌, subst}
use Rattle.std.specs.Prelude.{IfOk}
use Rattle.cw_scope.proofs.resolving.tables_of.Goals as goal

pub tables_with-requires : goal.tables_with-requires
tables_with-requires c = c.in_ok-findings.ensures.0

pub returns-clause-uses : goal.returns-clause-uses
returns-clause-uses c =
    subst (λ uses. IfOk c.tables_with.result (λ t. t.uses ≡ uses)) (c.in_ok-uses.ensures ∙ c.as_slice.ensures ∙ c.in_ok-findings.ensures.1) c.tables_with.ensures.uses
