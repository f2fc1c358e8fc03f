use Rattle.std.proofs.Common.{◌+◌, ap, subst, ◌∙◌, sym, arith}
use Rattle.cw_view.specs.Fronts.{numbered, facts_at}
use Rattle.cw_view.specs.ObjectFormat.{next_record, IsFirstObjectFault}
use Rattle.std.proofs.lemmas.Result.{err_from_is_err_and}
use Rattle.cw_fields.proofs.Formats.{IsBytes-take, IsBytes-drop}
use Rattle.cw_view.proofs.Opening.{part_is}
use Rattle.cw_view.proofs.Reaching.{reaches_on, fails_behind, fails_record}
use Rattle.cw_view.proofs.view.read_records.Goals as goal

pub returns-in_err-kind : goal.returns-in_err-kind
returns-in_err-kind c =
    let p = err_from_is_err_and c.from_residual.result c.from_residual.ensures.1 in
    rw p.1 (subst (IsFirstObjectFault c.args.bytes.now) (sym p.2) (fails_behind c.args.version c.args.bytes.now c.loop-front.front c.loop-front.at _ c.requires.version c.loop-front.invariant c.in_err-kind.ensures))

pub returns-in-None : goal.returns-in-None
returns-in-None c =
    let bytes = c.args.bytes.now in
    let at = c.loop-front.at in
    let size = c.in_ok-kind.size in
    fails_record c.args.version bytes c.loop-front.front at c.in_ok-kind.kind size c.requires.version c.loop-front.invariant c.in_ok-kind.ensures
    (ap (λ p. numbered (next_record (facts_at bytes c.loop-front.front) c.in_ok-kind.kind p)) (sym (part_is bytes (at + 5) size)) ∙ c.in-None.ensures)

pub loop-front-preserved : goal.loop-front-preserved
loop-front-preserved c =
    let bytes = c.args.bytes.now in
    let at = c.loop-front.at in
    let size = c.in_ok-kind.size in
    rw c.with-front.ensures
    (reaches_on c.args.version bytes c.loop-front.front at c.in_ok-kind.kind size c.in-Some.number (λ i. omega (arith, c.type_inv.bytes i)) c.loop-front.invariant c.in_ok-kind.ensures
    (IsBytes-take size _ (IsBytes-drop (at + 5) bytes (λ i. omega (arith, c.type_inv.bytes i))))
    (ap (λ p. numbered (next_record (facts_at bytes c.loop-front.front) c.in_ok-kind.kind p)) (sym (part_is bytes (at + 5) size)) ∙ c.in-Some.ensures))
