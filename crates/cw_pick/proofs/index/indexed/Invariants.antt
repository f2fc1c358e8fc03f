use Rattle.std.proofs.Common.{◌≡◌, ℕ, ◌&&◌, not}
use Rattle.std.specs.Prelude.{nat_lt}
use Rattle.cw_comm.specs.Agreement.{Name}
use Rattle.cw_pick.specs.Picking.{is_in, is_among, defines_at}
use Rattle.cw_pick.specs.Working.{HasLists, definers}
use Rattle.cw_pick.proofs.index.indexed.Given as goal

abbrev pub invariant-loop-k : goal.invariant-loop-k
invariant-loop-k l = record {
  lists : HasLists l.index;
  entered : (name : Name) (j : ℕ) → is_in (definers l.index name) j ≡ (nat_lt j l.k && defines_at l.members j name) && not (is_among l.settled.keys name);
}
