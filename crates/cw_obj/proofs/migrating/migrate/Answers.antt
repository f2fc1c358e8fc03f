use Rattle.cw_obj.proofs.Migrated.{migrated}
use Rattle.cw_obj.proofs.migrating.migrate.Goals as goal

pub returns-clause-object : goal.returns-clause-object
returns-clause-object c = let o = c.in-Ok.ensures in migrated c.args.bytes.now c.in_ok-with_header.field-0.items o.0 o.1 o.2 c.in_ok-with_header.ensures
