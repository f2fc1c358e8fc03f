-- The words that a unit needs.
use Rattle.std.proofs.Common.{sym, subst}
use Rattle.std.specs.declared.result.Result.TheVariants.{Ok}
use Rattle.cw_tree.specs.declared.segment.Raw.{Raw}
use Rattle.cw_grammar.specs.Tokens.{numbered}
use Rattle.cw_grammar.specs.Grammar.{a_raw}
use Rattle.cw_grammar.specs.Statements.{text}
use Rattle.cw_grammar.specs.Derives.{Derives}
use Rattle.cw_scope.specs.Outcome.{Resolves}
use Rattle.cw_number.specs.Numbers.{numbers_of}
use Rattle.cw_sound.specs.Names.Placed.{Placed}
use Rattle.cw_sound.proofs.Need.Units.{unit_within}
use Rattle.cw_sound.proofs.laws.units.need_fits.Goals as goal

pub returns : goal.returns
returns c n ts raw named few d resolves fine fits =
    let own = subst (λ (x : Raw). Resolves x (Ok named)) (sym resolves.1) resolves in
    let tree = subst (λ (x : Raw). Derives n a_raw text (numbered 1 ts) x) (sym resolves.1) d in
    let placed = subst Placed (sym resolves.1) fits.placed in
    let names = c.few_parameters.ensures named own fine placed in
    let numbers = numbers_of named in
    unit_within named numbers n named.raw.now.block few (c.words_in_hand.ensures.block n ts named.raw.now named numbers tree names)
    (λ x i. c.words_in_hand.ensures.procedures n ts named.raw.now named numbers x tree names i) (c.bodies.ensures.same named numbers named.raw.now.block)
