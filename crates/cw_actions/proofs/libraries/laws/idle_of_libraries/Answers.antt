use Rattle.cw_actions.proofs.Archiving.Archived as archived
use Rattle.cw_actions.proofs.Archiving.Linked as linked
use Rattle.cw_actions.proofs.libraries.laws.idle_of_libraries.Goals as goal

pub returns : goal.returns
returns c = record {
  lib = archived.idle;
  link = linked.idle (record { library = c.library_format.ensures.one; no_fault = c.library_format.ensures.not_both; list = c.one_link_list.ensures.one });
}
