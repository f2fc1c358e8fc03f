use Rattle.std.proofs.Common.{◌≡◌, subst, sym, ap, ◌∙◌}
use Rattle.std.specs.Prelude.{IfOk}
use Rattle.cw_scope.specs.declared.resolve.Named.{Named}
use Rattle.cw_number.specs.things.Things.{text_things}
use Rattle.cw_make_items.specs.Lookup.{Numbers}
use Rattle.cw_make.specs.Made.{unit_with}
use Rattle.cw_make.proofs.made.unit_of_named.Goals as goal

pub unit_with-requires : goal.unit_with-requires
unit_with-requires c = c.things.ensures ∙ ap (λ (n : Named). text_things n n.raw.now) (sym c.named.ensures)

pub returns : goal.returns
returns c =
    subst (λ (ns : Numbers). IfOk c.unit_with.result (λ u. u ≡ unit_with c.args.text.now ns c.args.text.now.raw.now)) c.in_ok-numbers.ensures
    (subst (λ (n : Named). IfOk c.unit_with.result (λ u. u ≡ unit_with n c.in_ok-numbers.numbers n.raw.now)) c.named.ensures c.unit_with.ensures)
