-- What the image shows is what its ports conclude of the run of the processor.
use Rattle.cw_ports.proofs.running.run_with.Goals as goal

pub returns-clause-shows : goal.returns-clause-shows
returns-clause-shows g c =
    let told = c.conclude.ensures.runs _ _ _ _ _ _ _ c.requires c.run-end.ensures.answers c.run-end.ensures.counts c.run-end.ensures.becomes in
    (told.input, told.is_input, told.shows)
