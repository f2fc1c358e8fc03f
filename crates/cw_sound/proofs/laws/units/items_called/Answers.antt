-- How items are called.
use Rattle.std.proofs.Common.{false, sym, subst}
use Rattle.cw_tree.specs.declared.segment.Raw.{Raw}
use Rattle.cw_grammar.specs.Tokens.{numbered}
use Rattle.cw_grammar.specs.Grammar.{a_raw}
use Rattle.cw_grammar.specs.Statements.{text}
use Rattle.cw_grammar.specs.Derives.{Derives}
use Rattle.std.specs.declared.result.Result.TheVariants as results
use Rattle.cw_scope.specs.Outcome.{Resolves}
use Rattle.cw_derived.proofs.Statements.{text_normal}
use Rattle.cw_derived.proofs.Derived.{derived_normal}
use Rattle.cw_sound.specs.Items.Derived.{HasRisingTokens}
use Rattle.cw_sound.specs.Written.Identified.{HasIdentifiers}
use Rattle.cw_sound.proofs.Front.Called.{items_called}
use Rattle.cw_sound.proofs.laws.units.items_called.Goals as goal

pub returns : goal.returns
returns c n ts raw named few d resolves =
    let same = sym resolves.1 in
    items_called named (subst (λ (x : Raw). Resolves x (results.Ok named)) same resolves) (subst HasIdentifiers same (c.names_identified.ensures n ts raw d)) (subst HasRisingTokens same (c.items_derived.ensures.rising n ts raw few d))
    (derived_normal false text_normal (subst (λ (x : Raw). Derives n a_raw text (numbered 1 ts) x) same d)).normal
