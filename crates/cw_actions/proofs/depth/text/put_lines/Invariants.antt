use Rattle.std.proofs.Common.{◌≡◌, ◌++◌, drop, flat_map}
use Rattle.cw_correct.specs.Depths.{place_line}
use Rattle.cw_actions.proofs.depth.text.put_lines.Given as goal

abbrev pub invariant-loop-place : goal.invariant-loop-place
invariant-loop-place l = l.out.items ++ flat_map (place_line l.units) (drop l.place-index l.chain) ≡ l.fn.out.items ++ flat_map (place_line l.units) l.chain
