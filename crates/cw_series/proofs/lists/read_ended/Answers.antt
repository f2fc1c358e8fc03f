-- The loop over items.
use Rattle.std.proofs.Common.{◌≡◌, ◌∙◌, ◌++◌, List, [], ◌∷◌, Ok, Err, sym, refl, arith}
use Rattle.std.proofs.lemmas.Result.{err_from_is_err_and}
use Rattle.cw_lex.specs.declared.token.TokenKind.{TokenKind}
use Rattle.cw_grammar.specs.Tokens.{Item, behind}
use Rattle.cw_grammar.specs.Reading.{Read, take_one, repeat}
use Rattle.cw_series.specs.Series.{before_end}
use Rattle.cw_series.proofs.Steps.{collected, lists_collect, one_more, no_more, all_read, item_fails, then_fails, after_fails}
use Rattle.cw_series.proofs.lists.read_ended.Goals as goal

none_before : {A : Type 0} (o : Read (List A)) → collected (λ s xs. s ++ xs) [] o ≡ o
none_before (Ok y) = refl
none_before (Err f) = refl

item_read : {A : Type 0} (end : TokenKind) (item : List Item → Read A) (x : A) (t : Item) (ts us rest : List Item) → item ts ≡ Ok (x, us) → take_one end us ≡ Ok (t, rest) → before_end end item ts ≡ Ok (x, rest)
item_read end item x t ts us rest e f = rw (e, f) refl

pub more-init : goal.more-init
more-init g c begins item t p = rw (c.new-found.ensures, c.left-most.ensures) (none_before (repeat _ begins (before_end c.args.end item) (behind c.args.tokens.now c.args.at)))

pub more-preserved : goal.more-preserved
more-preserved g c begins item t p =
    rw c.in_ok-push.ensures.ok
    (one_more _ (λ s x. s ++ x ∷ []) lists_collect begins (before_end c.args.end item) c.more.found c.in_ok-item.item (behind c.args.tokens.now c.more.next) (behind c.args.tokens.now c.in_ok-after.after) _ c.more.most
    (omega arith) (sym (t c.more.next _ c.is_next.ensures) ∙ c.if-not-is_next.false)
    (item_read c.args.end item c.in_ok-item.item _ (behind c.args.tokens.now c.more.next) (behind c.args.tokens.now c.in_ok-item.after) (behind c.args.tokens.now c.in_ok-after.after) (p c.more.next _ c.in_ok-item.ensures) c.in_ok-after.ensures)
    (c.more.invariant begins item t p))

pub returns-then-not-is_next : goal.returns-then-not-is_next
returns-then-not-is_next g c begins item t p =
    no_more _ (λ s x. s ++ x ∷ []) lists_collect begins (before_end c.args.end item) c.more.found (behind c.args.tokens.now c.more.next) _ c.more.most
    (sym (t c.more.next _ c.is_next.ensures) ∙ c.if-not-is_next.true) (c.more.invariant begins item t p)

pub returns : goal.returns
returns g c begins item t p = all_read _ (λ s x. s ++ x ∷ []) lists_collect begins (before_end c.args.end item) c.more.found (behind c.args.tokens.now c.more.next) _ c.more.most (omega arith) (c.more.invariant begins item t p)

pub returns-in_err-item : goal.returns-in_err-item
returns-in_err-item g c begins item t p =
    let q = err_from_is_err_and c.from_residual.result c.from_residual.ensures.1 in
    rw (q.1, q.2)
    (item_fails c.in_err-item.field-0.0 (λ s xs. s ++ xs) begins (before_end c.args.end item) c.more.found (behind c.args.tokens.now c.more.next) _ c.more.most
    (omega arith) (sym (t c.more.next _ c.is_next.ensures) ∙ c.if-not-is_next.false)
    (then_fails _ _ _ (then_fails _ _ _ (p c.more.next _ c.in_err-item.ensures))) (c.more.invariant begins item t p))

pub returns-in_err-after : goal.returns-in_err-after
returns-in_err-after g c begins item t p =
    let q = err_from_is_err_and c.from_residual-in_err-after.result c.from_residual-in_err-after.ensures.1 in
    rw (q.1, q.2)
    (item_fails c.in_err-after.field-0.0 (λ s xs. s ++ xs) begins (before_end c.args.end item) c.more.found (behind c.args.tokens.now c.more.next) _ c.more.most
    (omega arith) (sym (t c.more.next _ c.is_next.ensures) ∙ c.if-not-is_next.false)
    (then_fails _ _ _ (after_fails _ _ _ _ (p c.more.next _ c.in_ok-item.ensures) (then_fails _ _ _ c.in_err-after.ensures)))
    (c.more.invariant begins item t p))
