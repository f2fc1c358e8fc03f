use Rattle.cw_show.proofs.Adding.{whole_text}
use Rattle.cw_show.proofs.showing.show.Goals as goal

pub returns : goal.returns
returns c = whole_text c.put_segment.ensures c.new.ensures.items c.if-lacking.false
