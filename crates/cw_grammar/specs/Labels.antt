-- The labels before a statement, and what stands behind them, as the readers take them.
use Rattle.std.specs.Prelude.{Bool, ◌&&◌, cond, List, [], ◌∷◌, Ok}
use Rattle.cw_lex.specs.declared.token.TokenKind.TheVariants as kinds
use Rattle.cw_lex.specs.declared.token.Symbol.TheVariants as symbols
use Rattle.cw_lex.specs.declared.token.Word.TheVariants as words
use Rattle.cw_tree.specs.declared.leaf.RawName.{RawName}
use Rattle.cw_tree.specs.declared.statement.RawForm.TheVariants as form_tree
use Rattle.cw_grammar.specs.Tokens.{Item, same}
use Rattle.cw_grammar.specs.Grammar.{a_form, a_simple, if_rest, for_rest, Grammar, ◌∣◌, ◌⇒◌, opens}
use Rattle.cw_grammar.specs.Rules.{name, raw_name}
use Rattle.cw_grammar.specs.Statements.{from, simple_behind, unnamed, if_tree, for_tree}
use Rattle.cw_grammar.specs.Reading.{Read}

-- the labels at the front of a list, each a name with a colon behind it, and what stands behind them
abbrev pub labels_of : List Item → List RawName × List Item
labels_of [] = ([], [])
labels_of (t ∷ []) = ([], t ∷ [])
labels_of (t ∷ c ∷ us) = cond (same t.kind kinds.Name && same c.kind (kinds.Symbol symbols.Colon))
    (raw_name t ∷ (labels_of us).0, (labels_of us).1) ([], t ∷ c ∷ us)

-- They are read without a fault.
abbrev pub labels : List Item → Read (List RawName)
labels ts = Ok (labels_of ts)

-- a statement without its labels
unfoldable pub unlabelled : Bool → Grammar a_form
unlabelled p =
    from name (simple_behind ⇒ (λ f n. form_tree.Simple (f n)))
    ∣ opens (kinds.Word words.If) (if_rest p) ⇒ (λ x. if_tree x.0 x.1)
    ∣ opens (kinds.Word words.For) (for_rest p) ⇒ (λ x. for_tree x.0 x.1)
    ∣ unnamed p ⇒ (λ s. form_tree.Simple s)

unfoldable pub unlabelled_simple : Bool → Grammar a_simple
unlabelled_simple p = from name simple_behind ∣ unnamed p
