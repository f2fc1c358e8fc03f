use Rattle.std.proofs.Common.{◌==◌, [], ◌∷◌, Some, sym, ap, ◌∙◌, subst}
use Rattle.std.proofs.lemmas.Bool.{false≢true}
use Rattle.cw_big.specs.LargeProgram.{large_text}
use Rattle.cw_files.specs.Texts.{HasUnit}
use Rattle.cw_files.specs.Reading.{counts_at}
use Rattle.cw_actions.proofs.Making.Texts.{compiled}
use Rattle.cw_actions.proofs.big.making.make_segment.Goals.{in-NoMemory, in_default}
use Rattle.cw_actions.proofs.big.making.make_segment.Goals as goal

pub returns-in-Ok-clause-unit : goal.returns-in-Ok-clause-unit
returns-in-Ok-clause-unit c = subst (λ text. HasUnit text c.in-Ok.segment.unit) (c.as_slice.ensures.value ∙ c.in_ok-text.ensures) c.in-Ok.ensures.made.0

pub prove-unreachable-requires : goal.prove-unreachable-requires
prove-unreachable-requires c =
    let is_last = c.args.number == c.args.copies in
    let unit = c.large_units.ensures c.args.number is_last c.requires.first c.requires.last in
    let is = c.as_slice.ensures.value ∙ c.in_ok-text.ensures in
    let none = counts_at 0 0 in
    elim c.match-matches.branch [
      | in-NoMemory w ↦ false≢true (sym c.if-prove.true ∙ w.matches-is)
      | in_default w ↦
          w.in_default.not-NoMemory (compiled c.one_outcome.ensures.not_both (large_text c.args.number is_last) unit.0 unit.1 c.in-Err.status (c.in-Err.ensures.stops [] (large_text c.args.number is_last ∷ []) none none (ap Some (sym is))))
    ]
