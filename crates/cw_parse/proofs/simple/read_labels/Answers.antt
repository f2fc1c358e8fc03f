-- The loop over labels.
use Rattle.std.proofs.Common.{◌≡◌, ◌∙◌, sym, refl}
use Rattle.std.proofs.lemmas.Result.{err_from_is_err_and}
use Rattle.cw_lex.specs.declared.token.TokenKind.TheVariants as kinds
use Rattle.cw_lex.specs.declared.token.Symbol.TheVariants as symbols
use Rattle.cw_tree.specs.declared.leaf.RawName.{RawName}
use Rattle.std.proofs.Common.{List}
use Rattle.cw_grammar.specs.Tokens.{behind}
use Rattle.cw_grammar.specs.Labels.{labels_of, labels}
use Rattle.cw_grammar.proofs.Took.{is_taken}
use Rattle.cw_grammar.proofs.LabelLoop.{label_goes_on, no_name_ends, no_colon_ends, label_shorter, name_not_failed}
use Rattle.cw_parse.proofs.simple.read_labels.Goals as goal

pub returns-in_err-name : goal.returns-in_err-name
returns-in_err-name c =
    let p = err_from_is_err_and c.from_residual.result c.from_residual.ensures.1 in
    rw (p.1, p.2) (name_not_failed c.in_err-name.field-0.0 (List RawName) (behind c.args.tokens.now c.loop-labels.next) (labels (behind c.args.tokens.now c.args.at))
    (sym c.next_is.ensures ∙ c.loop-labels-test.true) c.in_err-name.ensures)

pub returns-then-not-next_is : goal.returns-then-not-next_is
returns-then-not-next_is c = rw (no_colon_ends c.loop-labels.labels (behind c.args.tokens.now c.loop-labels.next) (behind c.args.tokens.now c.in_ok-name.after) c.in_ok-name.name
    (labels_of (behind c.args.tokens.now c.args.at)) c.in_ok-name.ensures (sym c.next_is-in-loop-labels.ensures ∙ c.if-not-next_is.true) c.loop-labels.invariant) refl

pub loop-labels-smaller : goal.loop-labels-smaller
loop-labels-smaller c = label_shorter (behind c.args.tokens.now c.loop-labels.next) (behind c.args.tokens.now c.in_ok-name.after) (behind c.args.tokens.now c.taken-after.result.1)
    c.in_ok-name.name _ c.in_ok-name.ensures c.taken-after.ensures

pub loop-labels-preserved : goal.loop-labels-preserved
loop-labels-preserved c = rw c.in_ok-push.ensures.ok (label_goes_on c.loop-labels.labels (behind c.args.tokens.now c.loop-labels.next) (behind c.args.tokens.now c.in_ok-name.after)
    (behind c.args.tokens.now c.taken-after.result.1) c.in_ok-name.name _ (labels_of (behind c.args.tokens.now c.args.at)) c.in_ok-name.ensures c.taken-after.ensures
    c.loop-labels.invariant)

pub returns : goal.returns
returns c = rw (no_name_ends c.loop-labels.labels (behind c.args.tokens.now c.loop-labels.next) (labels_of (behind c.args.tokens.now c.args.at))
    (sym c.next_is.ensures ∙ c.loop-labels-test.false) c.loop-labels.invariant) refl
