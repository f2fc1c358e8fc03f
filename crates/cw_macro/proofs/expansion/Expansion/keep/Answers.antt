use Rattle.std.proofs.Common.{◌≡◌, ◌∷◌, [], ◌++◌, length, map, List, ap, sym, ◌∙◌, arith}
use Rattle.std.proofs.lemmas.List.{length-map, map-append}
use Rattle.cw_lex.specs.Lexical.{Lexeme, view}
use Rattle.cw_macro.specs.Expansion.{Moved}
use Rattle.cw_macro.specs.Views.{leveled, left_of, expansion_of, moves, refuses}
use Rattle.cw_macro.proofs.Steps.{full_is, moved_is}
use Rattle.cw_macro.proofs.expansion.Expansion.keep.Goals as goal

pub returns-then-as_slice-ge-MOST_TOKENS : goal.returns-then-as_slice-ge-MOST_TOKENS
returns-then-as_slice-ge-MOST_TOKENS c =
    refuses (full_is (expansion_of c.args.self.now) (leveled c.args.item) (left_of c.args.self.now.left) (omega (arith, ap length c.as_slice.ensures, length-map c.args.self.now.done view)))

pub returns : goal.returns
returns c =
    let e = expansion_of c.args.self.now in
    let is = moved_is e (leveled c.args.item) e.left (omega (arith, ap length c.as_slice.ensures, length-map c.args.self.now.done view)) in
    let longer : map view c.push.new.self ≡ e.done ++ view c.args.item.token ∷ [] = ap (map view) c.in_ok-push.ensures.ok ∙ map-append view c.args.self.now.done (c.args.item.token ∷ []) in
    moves (is ∙ ap (λ (z : List Lexeme). Moved (record e { done = z })) (sym longer))
