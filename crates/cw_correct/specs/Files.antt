-- When a call stops at one of its files.
use Rattle.std.specs.Prelude.{◌≡◌, List, length}
use Rattle.cw_link_files.specs.files.Reading.{Counts, counts_at}
use Rattle.cw_correct.specs.Calls.{Call}

-- the counts of the store before and after a call
abbrev pub counts_before : Call → Counts
counts_before c = counts_at c.before.store_faults c.before.absences

abbrev pub counts_after : Call → Counts
counts_after c = counts_at c.after.store_faults c.after.absences

-- each file was read, and its bytes accepted
abbrev pub AllAccepted : {X : Type 0} → Call → List X → Type 0
AllAccepted c values = length values ≡ length c.names
