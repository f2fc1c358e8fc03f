use Rattle.std.proofs.Common.{◌≡◌, ℕ, ◌&&◌, not, take}
use Rattle.std.specs.Prelude.{◌||◌, nat_eq}
use Rattle.cw_comm.specs.Agreement.{Name}
use Rattle.cw_pick.specs.Picking.{is_in, is_among}
use Rattle.cw_pick.specs.Working.{HasLists, definers}
use Rattle.cw_pick.proofs.index.enter_all.Given as goal

abbrev pub invariant-loop-name : goal.invariant-loop-name
invariant-loop-name l = record {
  lists : HasLists l.index;
  entered : (name : Name) (k : ℕ) → is_in (definers l.index name) k ≡ is_in (definers l.initial.index name) k || ((is_among (take l.name-index l.names) name && not (is_among l.settled.keys name)) && nat_eq k l.member);
}
