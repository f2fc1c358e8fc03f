-- What is known of each body.
use Rattle.cw_sound.proofs.Statements.InBodies.{bodies_are_right}
use Rattle.cw_sound.proofs.Statements.Halves.{in_unit}
use Rattle.cw_sound.proofs.Statements.SameBodies.{bodies_are_same}
use Rattle.cw_sound.proofs.laws.statements.bodies.Goals as goal

pub returns-clause-stand : goal.returns-clause-stand
returns-clause-stand c named sites numbers u who outermost b x facts answers free i =
    let r = bodies_are_right named sites numbers (in_unit named numbers u) b outermost who (facts, answers) free x i in
    (r.0.0, r.0.1, r.1)

pub returns-clause-same : goal.returns-clause-same
returns-clause-same c = bodies_are_same
