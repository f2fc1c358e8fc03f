use Rattle.cw_correct.specs.Results.{IsMap, IsDepth, IsCode}
use Rattle.cw_actions.proofs.Resulting.Maps.{idle as tells}
use Rattle.cw_actions.proofs.Resulting.Shows.{idle as shows}
use Rattle.cw_actions.proofs.Resulting.Migrates.{idle as migrates}
use Rattle.cw_actions.proofs.Resulting.Filing.{allows_idle}
use Rattle.cw_actions.proofs.Resulting.Rights.{compiles, hexes}
use Rattle.cw_actions.proofs.results.laws.idle.Goals as goal

pub returns : goal.returns
returns c =
    let given = c.known_texts.ensures.one in
    record {
      map = tells given (λ texts. IsMap);
      depth = tells given (λ texts. IsDepth);
      code = tells given IsCode;
      list = shows given;
      compile = allows_idle (compiles given);
      migrate = migrates;
      hex = allows_idle hexes;
    }
