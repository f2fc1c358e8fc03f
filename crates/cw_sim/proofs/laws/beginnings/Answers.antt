use Rattle.cw_sim.proofs.Beginnings.{RunLaws, begins_are, begins_some}
use Rattle.cw_sim.proofs.laws.beginnings.Goals as goal

pub returns : goal.returns
returns c =
    let laws : RunLaws = record {
      one = c.no_instruction_begins_another.ensures.front;
      once = c.one_observation.ensures;
      runs = c.shows_the_run.ensures;
      reached = c.keeps_to_the_run.ensures;
    } in
    record {
      are = λ places area s input n begun bytes begins. begins_are laws places area s input bytes n begun begins;
      some = λ places area s input n bytes. begins_some laws places area s input bytes n;
    }
