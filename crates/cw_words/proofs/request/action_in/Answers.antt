use Rattle.std.proofs.Common.{◌∙◌, ap}
use Rattle.std.specs.Prelude.{option_and_then}
use Rattle.clap.specs.Matches.{found_of}
use Rattle.std.specs.Prelude.{codes}
use Rattle.clap.proofs.WalkLemmas.{first_value-rows}
use Rattle.cw_words.specs.Parts.{action_named, action_at}
use Rattle.cw_words.proofs.request.action_in.Goals as goal

pub returns-in-Some : goal.returns-in-Some
unfolding action_at
returns-in-Some c = c.action_of.ensures ∙ ap (option_and_then action_named) (c.in-Some.ensures ∙ first_value-rows (found_of c.args.matches.now) (codes "ACTION"))

pub returns-in-None : goal.returns-in-None
unfolding action_at
returns-in-None c = ap (option_and_then action_named) (c.in-None.ensures ∙ first_value-rows (found_of c.args.matches.now) (codes "ACTION"))
