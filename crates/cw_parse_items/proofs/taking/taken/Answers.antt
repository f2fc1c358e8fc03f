-- A token that was seen.
use Rattle.std.proofs.Common.{arith}
use Rattle.cw_parse_items.proofs.Seen.{is_within, taken_at}
use Rattle.cw_parse_items.proofs.taking.taken.Goals as goal

pub prove-unreachable-requires : goal.prove-unreachable-requires
prove-unreachable-requires c = omega (arith, is_within c.args.tokens.now c.args.at c.args.kind c.requires)

pub returns : goal.returns
returns c = rw c.min.ensures (taken_at c.args.tokens.now c.args.at c.args.kind _ c.requires)
