-- The loop over BITS.
use Rattle.std.proofs.Common.{arith, rules, ◌≡◌, ℕ, [], ◌∷◌, ◌++◌, ◌∙◌, sym, true, false, refl, ap, length}
use Rattle.std.proofs.lemmas.Result.{err_from_is_err_and}
use Rattle.cw_grammar.specs.Tokens.{behind}
use Rattle.cw_grammar.specs.Grammar.{a_list, a_bits, many}
use Rattle.cw_grammar.specs.Rules.{bits, size, int, octal}
use Rattle.cw_grammar.specs.Reading.{read}
use Rattle.cw_grammar.proofs.Loop.{goes_on, ends, fails}
use Rattle.cw_grammar.proofs.Many.{shorter}
use Rattle.cw_operand.proofs.operands.read_all_bits.Goals as goal

pub returns-in_err-item : goal.returns-in_err-item
unfolding bits size int octal
returns-in_err-item c =
    let p = err_from_is_err_and c.from_residual.result c.from_residual.ensures.1 in
    rw (p.1, p.2) (fails c.in_err-item.field-0.0 c.args.levels a_bits bits c.loop-found.found (behind c.args.tokens.now c.loop-found.next) (read c.args.levels (a_list a_bits) (many bits) (behind c.args.tokens.now c.args.at)) refl (sym c.next_is.ensures ∙ c.loop-found-test.true) c.in_err-item.ensures c.loop-found.invariant)

pub loop-found-smaller : goal.loop-found-smaller
unfolding bits size int octal
loop-found-smaller c = shorter c.args.levels a_bits bits refl (behind c.args.tokens.now c.loop-found.next) (c.in_ok-item.item, behind c.args.tokens.now c.in_ok-item.after) c.in_ok-item.ensures

pub loop-found-preserved : goal.loop-found-preserved
unfolding bits size int octal
loop-found-preserved c =
    rw c.in_ok-push.ensures.ok (goes_on c.args.levels a_bits bits c.loop-found.found c.in_ok-item.item (behind c.args.tokens.now c.loop-found.next) (behind c.args.tokens.now c.in_ok-item.after) (read c.args.levels (a_list a_bits) (many bits) (behind c.args.tokens.now c.args.at)) refl (sym c.next_is.ensures ∙ c.loop-found-test.true) c.in_ok-item.ensures c.loop-found.invariant)

pub returns : goal.returns
unfolding bits size int octal
returns c = ends c.args.levels a_bits bits c.loop-found.found (behind c.args.tokens.now c.loop-found.next) (read c.args.levels (a_list a_bits) (many bits) (behind c.args.tokens.now c.args.at)) (sym c.next_is.ensures ∙ c.loop-found-test.false) c.loop-found.invariant
