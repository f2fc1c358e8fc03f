use Rattle.cw_actions.proofs.Resulting.Statuses.{maps_once, depths_once, codes_once, shows_once, compiles_once, migrates_once, hexes_once}
use Rattle.cw_actions.proofs.results.laws.one_status_of_results.Goals as goal

pub returns : goal.returns
returns c =
    let given = c.known_texts.ensures.one in
    record {
      map = maps_once given;
      depth = depths_once given;
      code = codes_once given;
      list = shows_once given;
      compile = compiles_once given;
      migrate = migrates_once c.object_format.ensures.fault;
      hex = hexes_once;
    }
