use Rattle.std.proofs.Common.{refl}
use Rattle.cw_scope.proofs.Defining.{text_judged}
use Rattle.cw_scope.proofs.resolving.tables_with.Goals as goal

pub returns-clause-first : goal.returns-clause-first
returns-clause-first c = text_judged c.args.facts.now _ _ _ _ _ c.new.ensures c.in_ok-signatures.ensures refl c.requires c.in_ok-first.ensures
