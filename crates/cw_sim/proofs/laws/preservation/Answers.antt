use Rattle.cw_sim.proofs.Given.{Given}
use Rattle.cw_sim.proofs.Joined.{preserves, completes, begins_statements}
use Rattle.cw_sim.proofs.laws.preservation.Goals as goal

pub returns : goal.returns
returns c =
    let given : Given = record {
      sound = c.never_stuck.ensures;
      upper = c.orders_follow_meaning.ensures;
      lower = c.code_follows_orders.ensures;
      places = c.places_stand.ensures;
      began = c.beginnings.ensures.are;
      runs = c.shows_the_run.ensures;
      once = c.one_observation.ensures;
    } in
    record {
      preserves = λ us m limits input s k shown loaded shows. preserves given us m limits input s loaded k shown shows;
      completes = λ us m limits input s steps loaded. completes given us m limits input s loaded steps;
      statements = λ us m limits input s k shown started loaded shows begun. begins_statements given us m limits input s loaded k shown started shows begun;
    }
