use Rattle.std.proofs.Common.{None}
use Rattle.cw_macro.proofs.Tables.{updated}
use Rattle.cw_macro.proofs.definition.Definitions.remove.Goals as goal

pub returns-clause-removed : goal.returns-clause-removed
returns-clause-removed c = updated c.args.self.now.macros c.remove.new.self c.key_of-key.result _ None c.key_of-key.ensures c.remove.ensures.updates
