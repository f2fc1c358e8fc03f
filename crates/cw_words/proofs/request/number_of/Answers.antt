use Rattle.std.proofs.Common.{◌∙◌, ap}
use Rattle.std.specs.Prelude.{option_and_then}
use Rattle.clap.specs.Matches.{found_of}
use Rattle.clap.proofs.WalkLemmas.{first_value-rows}
use Rattle.cw_words.specs.Parts.{number_in, number_at}
use Rattle.cw_words.proofs.request.number_of.Goals as goal

pub returns-in-Some : goal.returns-in-Some
unfolding number_at
returns-in-Some c = record {
  number = c.number.ensures.number ∙ ap (option_and_then (number_in c.args.low c.args.high)) (c.in-Some.ensures ∙ first_value-rows (found_of c.args.matches.now) c.args.id.now);
  in_range = c.number.ensures.in_range;
}

pub returns-in-None : goal.returns-in-None
unfolding number_at
returns-in-None c = record { number = ap (option_and_then (number_in c.args.low c.args.high)) (c.in-None.ensures ∙ first_value-rows (found_of c.args.matches.now) c.args.id.now); in_range = tt }
