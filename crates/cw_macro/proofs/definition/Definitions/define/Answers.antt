use Rattle.std.proofs.Common.{Some}
use Rattle.cw_macro.proofs.Tables.{updated}
use Rattle.cw_macro.proofs.definition.Definitions.define.Goals as goal

pub returns-in-Ok : goal.returns-in-Ok
returns-in-Ok c = updated c.args.self.now.macros c.insert.new.self c.key_of.result _ (Some c.args.definition) c.key_of.ensures c.in-Ok.ensures.updates
