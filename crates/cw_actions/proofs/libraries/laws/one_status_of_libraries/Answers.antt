use Rattle.cw_actions.proofs.Archiving.Archived.{libs_once}
use Rattle.cw_actions.proofs.Archiving.Linked.{links_once}
use Rattle.cw_actions.proofs.libraries.laws.one_status_of_libraries.Goals as goal

pub returns : goal.returns
returns c = record {
  lib = libs_once c.object_format.ensures.fault;
  link = links_once (record { library = c.library_format.ensures.one; no_fault = c.library_format.ensures.not_both; list = c.one_link_list.ensures.one }) c.object_format.ensures.fault c.library_format.ensures.fault;
}
