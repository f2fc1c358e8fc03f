-- No run is stopped by the depth of its calls at a limit of as many as the report tells.
use Rattle.cw_unit.specs.Program.{program_of}
use Rattle.cw_deepest.proofs.Programs.Stepping.{no-depth_stop}
use Rattle.cw_deepest.proofs.laws.programs.no_depth_stop.Goals as goal

pub returns : goal.returns
returns c units limits chain input m segment line wf fit tells low = no-depth_stop (program_of units limits) chain input m segment line wf fit tells low
