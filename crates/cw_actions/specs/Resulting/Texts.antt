-- What is known of texts and of their units, whatever is done with them.
use Rattle.std.specs.Prelude.{ℕ, ◌+◌, ◌*◌, ◌≤◌, List, map, sum, All}
use Rattle.cw_unit.specs.declared.unit.Unit.{Unit as SourceUnit}
use Rattle.cw_compile.specs.Outcomes.{HasOneUnit, HasOneRefusal, HasNotBoth, CountsTokens}
use Rattle.cw_link.specs.LinkedImage.{linked_size}
use Rattle.cw_build.specs.Compiled.{IsCompilable, contents_of_units}
use Rattle.cw_files.specs.Texts.{HasUnit}
use Rattle.cw_files.specs.Reading.{HaveValues}

-- what comes of a text is one thing
pub record OneOfText : Type 0 where
  pub one_unit : HasOneUnit
  pub one_refusal : HasOneRefusal
  pub not_both : HasNotBoth
  pub tokens : CountsTokens

-- the units of texts can be compiled,
abbrev pub AreCompilable : Type 0
AreCompilable = (texts : List (List ℕ)) (us : List SourceUnit) → HaveValues HasUnit texts us → All IsCompilable us

-- and their code is no longer than their tokens allow
abbrev pub HasSizes : Type 0
HasSizes =
    (texts : List (List ℕ)) (us : List SourceUnit) → HaveValues HasUnit texts us
    → linked_size (contents_of_units us) ≤ 32 * sum (map (λ u. u.tokens) us) + 4096
