-- The descriptors fit the fields.
use Rattle.std.proofs.Common.{sym, subst}
use Rattle.cw_tree.specs.declared.segment.Raw.{Raw}
use Rattle.cw_grammar.specs.Tokens.{numbered}
use Rattle.cw_grammar.specs.Grammar.{a_raw}
use Rattle.cw_grammar.specs.Statements.{text}
use Rattle.cw_grammar.specs.Derives.{Derives}
use Rattle.cw_items.specs.Things.{text_things}
use Rattle.cw_number.specs.Listed.{listed_of}
use Rattle.cw_number.specs.Numbers.{numbers_of}
use Rattle.cw_sound.specs.Written.Counts.{CountsFit}
use Rattle.cw_sound.proofs.Written.Texts.{text_fits}
use Rattle.cw_sound.proofs.laws.units.descriptors_fit.Goals as goal

pub returns : goal.returns
returns c n ts raw named d resolves counts =
    text_fits (numbers_of named) (listed_of named.raw.now) (text_things named named.raw.now) n ts named.raw.now
    (subst (λ (x : Raw). Derives n a_raw text (numbered 1 ts) x) (sym resolves.1) d) (subst (λ (x : Raw). CountsFit x.comms) (sym resolves.1) counts)
