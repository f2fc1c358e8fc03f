use Rattle.cw_actions.proofs.Going.Apart.{links_what_runs, links_as_migrated}
use Rattle.cw_actions.proofs.go.laws.apart.Goals as goal

pub returns : goal.returns
returns c = record {
  compiled = links_what_runs c.separate_objects.ensures.linked c.separate_objects.ensures.image c.one_link_list.ensures.alone;
  migrated = links_as_migrated c.separate_objects.ensures.migrated c.one_link_list.ensures.alone;
}
