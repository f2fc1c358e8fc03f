use Rattle.cw_fields.proofs.Spelled.{fields_once}
use Rattle.cw_fields.proofs.laws.fields.Goals as goal

pub returns : goal.returns
returns c = fields_once
