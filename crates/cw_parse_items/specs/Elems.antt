-- The elements of a table, read in a loop, and presets behind a token.
use Rattle.std.specs.Prelude.{List, ◌++◌, Option, Ok}
use Rattle.cw_tree.specs.declared.items.RawElem.{RawElem}
use Rattle.cw_tree.specs.declared.items.RawPresets.{RawPresets}
use Rattle.cw_lex.specs.declared.token.Symbol.TheVariants as symbols
use Rattle.cw_lex.specs.declared.token.TokenKind.{TokenKind}
use Rattle.cw_grammar.specs.Grammar.{a_pair, an_int, a_sint, a_presets, places, Grammar, one, again, ◌·◌, ◌⇒◌}
use Rattle.cw_grammar.specs.Rules.{symbol, ◌*>◌, int, sint}
use Rattle.cw_grammar.specs.Statements.{in_round, presets_behind}
use Rattle.cw_grammar.specs.Reading.{Read, ◌>>=◌}

-- "(" int "," sint ")" int "," int
abbrev pub part : Grammar (a_pair (a_pair an_int a_sint) (a_pair an_int an_int))
part = in_round (int · (symbol symbols.Comma *> sint)) · int · (symbol symbols.Comma *> int)

-- what is read behind elements, and those before it
abbrev pub behind_elems : List RawElem → Read (List RawElem × Option RawPresets) → Read (List RawElem × Option RawPresets)
behind_elems es o = o >>= λ y. Ok ((es ++ y.0.0, y.0.1), y.1)

-- presets behind a token
abbrev pub presets_after : TokenKind → Grammar a_presets
presets_after k = one k · again places ⇒ (λ x. presets_behind x.0 x.1)
