use Rattle.cw_unit.proofs.Families.{root_baseless, root_alone, base_family, inside_family, least_extent}
use Rattle.cw_unit.proofs.laws.families.Goals as goal

pub returns-clause-roots : goal.returns-clause-roots
returns-clause-roots c u n h = root_baseless u h n

pub returns-clause-alone : goal.returns-clause-alone
returns-clause-alone c u n e = root_alone u n e

pub returns-clause-bases : goal.returns-clause-bases
returns-clause-bases c u n b h e = base_family u h n b e

pub returns-clause-reaches : goal.returns-clause-reaches
returns-clause-reaches c u n i e = inside_family u n i e

pub returns-clause-least : goal.returns-clause-least
returns-clause-least c u r m h = least_extent u r m h
