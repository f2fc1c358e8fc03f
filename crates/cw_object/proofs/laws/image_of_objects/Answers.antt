use Rattle.cw_object.proofs.Images.{images}
use Rattle.cw_object.proofs.laws.image_of_objects.Goals as goal

pub returns : goal.returns
returns c = images c.other_bytes.ensures.size
