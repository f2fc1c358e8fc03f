use Rattle.cw_listed.proofs.Images.{image_shown}
use Rattle.cw_listed.proofs.laws.image_shown.Goals as goal

pub returns : goal.returns
returns c = image_shown c.program_shown.ensures.text
