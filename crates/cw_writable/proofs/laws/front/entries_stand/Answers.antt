-- The items are in the format.
use Rattle.cw_writable.proofs.Front.Entries.{entries_stand}
use Rattle.cw_writable.proofs.laws.front.entries_stand.Goals as goal

pub returns : goal.returns
returns c u fit named = entries_stand u fit named
