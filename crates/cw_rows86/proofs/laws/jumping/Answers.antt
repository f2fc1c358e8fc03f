use Rattle.cw_rows86.proofs.Jumping.{near, short_jump, through, jumps, passes}
use Rattle.cw_rows86.proofs.laws.jumping.Goals as goal

pub returns : goal.returns
returns c =
    let finds = c.fetching.ensures.finds in
    record { near = near finds; short = short_jump finds; through = through finds; jumps = jumps finds; passes = passes finds }
