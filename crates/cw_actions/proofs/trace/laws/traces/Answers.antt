use Rattle.cw_actions.proofs.Tracing.Kept.{Given, stopped, means_nothing, ran, idle}
use Rattle.cw_actions.proofs.trace.laws.traces.Goals as goal

pub returns : goal.returns
returns c =
    let given : Given = record {
      texts = record { keeps = c.promises.ensures.keeps; run = c.promises.ensures.run; listing = c.promises.ensures.listing; idle = c.promises.ensures.idle };
      compiled = c.known_texts.ensures.compiled;
      storages = record { map = c.loaded.ensures.valid_storage; frames = c.configurations.ensures.frames };
      reports = record { shown = c.reported.ensures.shown; some = c.reported.ensures.some };
    } in
    record {
      stopped = λ stop action limits steps names before between after status within some most stays stops closes. stopped given stop action limits steps names before between after within some most stays status stops closes;
      fault = λ stop action limits steps names before between after us fault within some most stays takes links means same closes.
          means_nothing given stop action limits steps names before between after within some most stays us takes links fault means same closes;
      run = λ stop watch action limits steps names before between after us status within some most stays takes links means once inside runs closes.
          ran given stop action limits steps names before between after within some most stays us takes links watch means once inside status runs closes;
      idle = λ stop action limits steps names before after closes. idle given stop action limits steps names before before after closes;
    }
