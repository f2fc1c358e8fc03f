use Rattle.std.proofs.Common.{sym, ap, ◌∙◌}
use Rattle.cw_show.specs.StatementTokens.{canonical_text}
use Rattle.cw_compile.proofs.making.canonical_of_tree.Goals as goal

pub returns-in-Ok-show-clause-shown : goal.returns-in-Ok-show-clause-shown
returns-in-Ok-show-clause-shown c = λ text h. record { named = c.in-Ok.field-0; has = c.in-Ok.ensures.named text h; shown_is = c.in-Ok-show.ensures ∙ sym (ap canonical_text c.in-Ok.ensures.tree) }
