use Rattle.cw_sound.proofs.Labels.Trees.{labels_stand}
use Rattle.cw_sound.proofs.laws.names.labels_set.Goals as goal

pub returns : goal.returns
returns c named = labels_stand named
