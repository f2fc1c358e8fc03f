use Rattle.cw_build_laws.proofs.Built.Programs.{codable}
use Rattle.cw_build_laws.proofs.laws.built.codable.Goals as goal

pub returns : goal.returns
returns c us m limits room passed coded agreed suits frames depth few = codable us m limits room coded passed (c.order_words.ensures us m limits room) (c.order_spans.ensures us m limits room suits) (c.order_beginnings.ensures us m limits room) frames depth few
