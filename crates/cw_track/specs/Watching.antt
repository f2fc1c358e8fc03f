-- Machines that are watched: beside what a state shows, an observer notes something before some of their steps.
use Rattle.std.specs.Prelude.{ℕ, List, [], ◌++◌}
use Rattle.cw_track.specs.Machine.{Machine, shown_after}

module _ {O E : Type 0} (M : Machine O) (notes : M.State → List E) where
  -- the machine, with all that has been noted
  abbrev pub watched : Machine (O × List E)
  watched = record { State = M.State × List E; step = λ s. (M.step s.0, s.1 ++ notes s.0); shown = λ s. (M.shown s.0, s.1); weight = λ s. M.weight s.0 }

  -- the machine, with what is noted before its next step
  abbrev pub noted : Machine (O × List E)
  noted = record { State = M.State; step = M.step; shown = λ s. (M.shown s, notes s); weight = M.weight }

  -- what is noted before the first k steps from a state
  abbrev pub noted_before : ℕ → M.State → List E
  noted_before k s = (shown_after watched k (s, [])).1
