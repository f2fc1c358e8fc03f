-- The branches of a call are those of the definition.
use Rattle.std.proofs.Common.{◌≡◌, ℕ, ◌+◌, ◌++◌, Option, List, length, ap, sym, ◌∙◌}
use Rattle.std.specs.List.{flat_map}
use Rattle.cw_macro.specs.declared.definition.Piece.{Piece}
use Rattle.cw_macro.specs.declared.left.Item.{Item}
use Rattle.cw_macro.specs.Expansion.{Leveled, Moved, tokens_of, replacement}
use Rattle.cw_macro.specs.Views.{leveled, left_of, lists_of, parts_of, macro_view, moves, refuses, within_limit}
use Rattle.cw_macro.proofs.Steps.{deep_is, bad_is, long_is, replaced_is}
use Rattle.cw_macro.proofs.expansion.call.Goals as goal

abbrev size : ℕ → List (List Item) → List Piece → ℕ
size count args body = count + 1 + length (flat_map (tokens_of (lists_of args)) (flat_map parts_of body))

same_size : (m n : ℕ) (args bargs : List (List Item)) (body bbody : List Piece) → n ≡ m → bargs ≡ args → bbody ≡ body → (o : Option ℕ) → o ≡ within_limit (size m bargs bbody) → o ≡ within_limit (size n args body)
same_size m n args bargs body bbody h a b o g = g ∙ ap (λ z. within_limit (size m z bbody)) a ∙ ap (λ z. within_limit (size m args z)) b ∙ ap (λ z. within_limit (size z args body)) (sym h)

same_replacement : (t : Leveled) (args bargs : List (List Item)) (body bbody : List Piece) (rest left : List Leveled) → bargs ≡ args → bbody ≡ body → left ≡ replacement t (flat_map parts_of bbody) (lists_of bargs) ++ rest → left ≡ replacement t (flat_map parts_of body) (lists_of args) ++ rest
same_replacement t args bargs body bbody rest left a b g = g ∙ ap (λ z. replacement t (flat_map parts_of bbody) (lists_of z) ++ rest) a ∙ ap (λ z. replacement t (flat_map parts_of z) (lists_of args) ++ rest) b

pub returns-then-item-ge-MOST_LEVELS : goal.returns-then-item-ge-MOST_LEVELS
returns-then-item-ge-MOST_LEVELS c e h = refuses (deep_is e (leveled c.args.item) (macro_view c.args.definition.now) (left_of c.args.left.now) c.if-item-ge-MOST_LEVELS.true)

pub returns-in_default : goal.returns-in_default
returns-in_default c e h = refuses (bad_is e (leveled c.args.item) (macro_view c.args.definition.now) (left_of c.args.left.now) c.if-item-ge-MOST_LEVELS.false (rw c.in_default.is at c.in_ok-arguments.ensures))

pub returns-in_default-count_behind : goal.returns-in_default-count_behind
returns-in_default-count_behind c e h =
    let given = rw c.in-Some.is at c.in_ok-arguments.ensures in
    let counted = same_size c.args.count e.count c.in-Some.arguments c.as_slice-arguments.result.now c.args.definition.now.body c.as_slice-body.result.now h c.as_slice-arguments.ensures c.as_slice-body.ensures c.count_behind.result c.count_behind.ensures in
    refuses (long_is e (leveled c.args.item) (macro_view c.args.definition.now) (left_of c.args.left.now) (left_of c.read_argument_list.new.left) (lists_of c.in-Some.arguments) c.count_behind.result c.if-item-ge-MOST_LEVELS.false given counted c.in_default-count_behind.is)

pub returns : goal.returns
returns c e h =
    let given = rw c.in-Some.is at c.in_ok-arguments.ensures in
    let t = leveled c.args.item in
    let counted = same_size c.args.count e.count c.in-Some.arguments c.as_slice-arguments.result.now c.args.definition.now.body c.as_slice-body.result.now h c.as_slice-arguments.ensures c.as_slice-body.ensures c.count_behind.result c.count_behind.ensures in
    let is = replaced_is e t (macro_view c.args.definition.now) (left_of c.args.left.now) (left_of c.read_argument_list.new.left) (lists_of c.in-Some.arguments) c.count_behind.result c.in-Some-count_behind.count c.if-item-ge-MOST_LEVELS.false given counted c.in-Some-count_behind.is in
    let left = same_replacement t c.in-Some.arguments c.as_slice-arguments.result.now c.args.definition.now.body c.as_slice-body.result.now (left_of c.read_argument_list.new.left) (left_of c.replace.new.left) c.as_slice-arguments.ensures c.as_slice-body.ensures c.in_ok-replace.ensures in
    moves (is ∙ ap (λ (z : List Leveled). Moved (record e { left = z; count = c.in-Some-count_behind.count })) (sym left))
