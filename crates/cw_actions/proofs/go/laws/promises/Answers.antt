use Rattle.std.proofs.Common.{[], refl}
use Rattle.cw_say.specs.declared.status.Status.TheVariants.{NoMemory}
use Rattle.cw_actions.proofs.Going.Given.{Given}
use Rattle.cw_correct.specs.Going.{names_of}
use Rattle.cw_actions.proofs.Executing.Running.{nothing}
use Rattle.cw_actions.proofs.Going.Promised.{reading, run_goes, say_failed, keeps}
use Rattle.cw_actions.proofs.go.laws.promises.Goals as goal

pub returns : goal.returns
returns c =
    let given : Given = record {
      texts = c.known_texts.ensures.one;
      units = c.known_texts.ensures.compiled;
      storages = record { map = c.loaded.ensures.valid_storage; frames = c.configurations.ensures.frames };
      runs = record { loaded = c.loaded.ensures.started; preserves = c.preservation.ensures.preserves; completes = c.preservation.ensures.completes; once = c.one_observation.ensures };
      sizes = c.known_texts.ensures.sizes;
    } in
    record {
      keeps = λ telling action limits steps names segments before between after status within some most stays goes closes. keeps given telling action limits steps names before between after segments stays status within some most goes closes;
      run = λ telling action limits steps names before between after us input s end within some most stays takes links lists start shows closes.
          run_goes given telling action limits steps names before between after (names_of us) stays within some most us takes.all links refl takes.counts lists s start input end shows closes;
      listing = λ telling action limits steps names before between after us input within some most stays takes links part closes.
          (nothing, say_failed given telling action limits steps names before between after (names_of us) stays within some most us takes.all links input part closes);
      idle = λ telling action limits steps names before after closes.
          reading given telling action limits steps names before before after [] (λ name. refl) NoMemory (record { stopped = record { texts = []; values = []; have_bytes = tt; have_values = tt; stops = tt }; same = refl }) closes;
    }
