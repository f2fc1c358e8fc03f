-- The loop over items.
use Rattle.std.proofs.Common.{◌≡◌, ℕ, ◌∙◌, ◌++◌, List, [], ◌∷◌, Bool, Ok, Err, length, sym, refl, arith}
use Rattle.std.proofs.lemmas.Result.{err_from_is_err_and}
use Rattle.cw_grammar.specs.Tokens.{Item, behind}
use Rattle.cw_grammar.specs.Reading.{Read, repeat, ◌>>=◌}
use Rattle.cw_series.specs.Series.{behind_one, with_separators, made}
use Rattle.cw_series.proofs.Steps.{collected, lists_collect, one_more, no_more, all_read, item_fails, then_fails, after_fails}
use Rattle.cw_series.proofs.lists.read_list.Goals as goal

with_first : {A : Type 0} (x : A) (o : Read (List A)) → collected (λ s xs. s ++ xs) (x ∷ []) o ≡ made {A = A × List A} (λ z. z.0 ∷ z.1) (o >>= λ y. Ok ((x, y.0), y.1))
with_first x (Ok y) = refl
with_first x (Err f) = refl

first_read : {A : Type 0} (begins : List Item → Bool) (taken : List Item → Read Item) (item : List Item → Read A) (found : List A) (most : ℕ) (x : A) (ts rest : List Item)
    → found ≡ x ∷ [] → most ≡ length rest → item ts ≡ Ok (x, rest)
    → collected (λ s xs. s ++ xs) found (repeat most begins (behind_one taken item) rest) ≡ with_separators begins taken item ts
first_read begins taken item found most x ts rest b m e = rw (b, m, e) (with_first x (repeat (length rest) begins (behind_one taken item) rest))

item_read : {A : Type 0} (taken : List Item → Read Item) (item : List Item → Read A) (x : A) (t : Item) (ts us rest : List Item) → taken ts ≡ Ok (t, us) → item us ≡ Ok (x, rest) → behind_one taken item ts ≡ Ok (x, rest)
item_read taken item x t ts us rest e f = rw (e, f) refl

pub more-init : goal.more-init
more-init g c item p =
    first_read (g.S.Separator.begins c.args.separator) (g.S.Separator.taken c.args.separator) item _ _ c.in_ok-first.first (behind c.args.tokens.now c.args.at) (behind c.args.tokens.now c.in_ok-first.at)
    c.in_ok-found.ensures c.left-most.ensures (p c.args.at _ c.in_ok-first.ensures)

pub more-preserved : goal.more-preserved
more-preserved g c item p =
    rw c.in_ok-push.ensures.ok
    (one_more _ (λ s x. s ++ x ∷ []) lists_collect (g.S.Separator.begins c.args.separator) (behind_one (g.S.Separator.taken c.args.separator) item) c.more.found c.in_ok-item.item (behind c.args.tokens.now c.more.next) (behind c.args.tokens.now c.in_ok-item.after) _ c.more.most
    (omega arith) (sym c.is_next.ensures ∙ c.if-not-is_next.false)
    (item_read (g.S.Separator.taken c.args.separator) item c.in_ok-item.item _ (behind c.args.tokens.now c.more.next) (behind c.args.tokens.now c.in_ok-after.after) (behind c.args.tokens.now c.in_ok-item.after) c.in_ok-after.ensures (p c.in_ok-after.after _ c.in_ok-item.ensures))
    (c.more.invariant item p))

pub returns-then-not-is_next : goal.returns-then-not-is_next
returns-then-not-is_next g c item p =
    no_more _ (λ s x. s ++ x ∷ []) lists_collect (g.S.Separator.begins c.args.separator) (behind_one (g.S.Separator.taken c.args.separator) item) c.more.found (behind c.args.tokens.now c.more.next) _ c.more.most
    (sym c.is_next.ensures ∙ c.if-not-is_next.true) (c.more.invariant item p)

pub returns : goal.returns
returns g c item p =
    all_read _ (λ s x. s ++ x ∷ []) lists_collect (g.S.Separator.begins c.args.separator) (behind_one (g.S.Separator.taken c.args.separator) item) c.more.found (behind c.args.tokens.now c.more.next) _ c.more.most
    (omega arith) (c.more.invariant item p)

pub returns-in_err-first : goal.returns-in_err-first
returns-in_err-first g c item p =
    let q = err_from_is_err_and c.from_residual.result c.from_residual.ensures.1 in
    rw (q.1, q.2) (then_fails _ _ _ (then_fails _ _ _ (p c.args.at _ c.in_err-first.ensures)))

pub returns-in_err-after : goal.returns-in_err-after
returns-in_err-after g c item p =
    let q = err_from_is_err_and c.from_residual-in_err-after.result c.from_residual-in_err-after.ensures.1 in
    rw (q.1, q.2)
    (item_fails c.in_err-after.field-0.0 (λ s xs. s ++ xs) (g.S.Separator.begins c.args.separator) (behind_one (g.S.Separator.taken c.args.separator) item) c.more.found (behind c.args.tokens.now c.more.next) _ c.more.most
    (omega arith) (sym c.is_next.ensures ∙ c.if-not-is_next.false) (then_fails _ _ _ (then_fails _ _ _ c.in_err-after.ensures)) (c.more.invariant item p))

pub returns-in_err-item : goal.returns-in_err-item
returns-in_err-item g c item p =
    let q = err_from_is_err_and c.from_residual-in_err-item.result c.from_residual-in_err-item.ensures.1 in
    rw (q.1, q.2)
    (item_fails c.in_err-item.field-0.0 (λ s xs. s ++ xs) (g.S.Separator.begins c.args.separator) (behind_one (g.S.Separator.taken c.args.separator) item) c.more.found (behind c.args.tokens.now c.more.next) _ c.more.most
    (omega arith) (sym c.is_next.ensures ∙ c.if-not-is_next.false)
    (then_fails _ _ _ (after_fails _ _ _ _ c.in_ok-after.ensures (then_fails _ _ _ (p c.in_ok-after.after _ c.in_err-item.ensures))))
    (c.more.invariant item p))
