use Rattle.cw_top.proofs.OneStatus.{one_status}
use Rattle.cw_top.proofs.laws.one_status.Goals as goal

pub returns : goal.returns
returns c =
    one_status
    (record {
      texts = c.one_status_of_texts.ensures;
      exec = c.one_status_of_exec.ensures;
      results = c.one_status_of_results.ensures;
      libraries = c.one_status_of_libraries.ensures;
      trace = c.one_status.ensures;
    })
