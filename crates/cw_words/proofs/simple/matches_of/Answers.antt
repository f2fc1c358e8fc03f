use Rattle.std.proofs.Common.{rules, ap, sym, map, List, ℕ, ◌∙◌, string_bytes}
use Rattle.clap.specs.Simple.{App, is_simple, matches_of}
use Rattle.clap.specs.Faults.{fault_of, is_simple_and_free}
use Rattle.cw_words.specs.Command.{faults_of, rows_in}
use Rattle.cw_words.proofs.Facts.{simple, simple_and_free, has_fault}
use Rattle.cw_words.proofs.simple.matches_of.Goals as goal

pub returns-in-Ok-try_get_matches_from-clause-ok : goal.returns-in-Ok-try_get_matches_from-clause-ok
unfolding faults_of rows_in
returns-in-Ok-try_get_matches_from-clause-ok c =
    let is = c.in-Ok.ensures in
    let texts : List (List ℕ) = map string_bytes c.args.words.now in
    let found = c.in-Ok-try_get_matches_from.ensures in (
      sym (ap (λ (a : App). fault_of a texts) is) ∙ found.kinds (ap is_simple_and_free is ∙ simple_and_free),
      (found.matches (ap is_simple is ∙ simple)).0 ∙ ap (λ (a : App). matches_of a texts) is,
    )

pub returns : goal.returns
unfolding faults_of
returns c =
    let is = c.in-Ok.ensures in
    let texts : List (List ℕ) = map string_bytes c.args.words.now in
    record {
      ok = tt;
      usage = λ _ none. has_fault c.in-Err.error _ (λ memory. c.in_default-kind.not-OutOfMemory (search rules))
          (c.in-Err.ensures.kinds (ap is_simple_and_free is ∙ simple_and_free)) (ap (λ (a : App). fault_of a texts) is ∙ none);
    }
