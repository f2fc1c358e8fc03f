use Rattle.std.proofs.Common.{decimal}
use Rattle.cw_big_units.proofs.Names.{named_of}
use Rattle.cw_big_units.proofs.Texts.{has_names}
use Rattle.cw_big_units.proofs.laws.large_names.Goals as goal

pub returns : goal.returns
returns c i is_last l h = (named_of is_last (decimal i), has_names c.expands_to_itself.ensures i is_last l h)
