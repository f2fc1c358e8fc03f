use Rattle.cw_link_files.proofs.OneList.{one_list, objects_alone}
use Rattle.cw_link_files.proofs.laws.one_link_list.Goals as goal

pub returns-clause-one : goal.returns-clause-one
returns-clause-one c = one_list c.one_selection.ensures

pub returns-clause-alone : goal.returns-clause-alone
returns-clause-alone c = objects_alone
