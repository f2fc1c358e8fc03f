use Rattle.cw_show.specs.Canonical.{doubled}
use Rattle.cw_show.proofs.Adding.{bytes_begun, one_more_doubled, none_more_doubled}
use Rattle.cw_show.proofs.leaf.put_doubled.Goals as goal

pub loop-byte-init : goal.loop-byte-init
loop-byte-init c = bytes_begun c.args.out.now (doubled c.args.characters.now)

pub loop-byte-preserved : goal.loop-byte-preserved
loop-byte-preserved c = one_more_doubled c.args.characters.now c.loop-byte.byte-index c.loop-byte-test.true c.loop-byte.invariant c.put_character.ensures

pub returns : goal.returns
returns c = none_more_doubled c.args.characters.now c.loop-byte.byte-index c.loop-byte-test.false c.loop-byte.invariant
