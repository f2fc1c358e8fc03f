-- What stands inside a level, and the rules that lead back to themselves.
use Rattle.std.specs.Prelude.{Bool, true, List, Option}
use Rattle.cw_lex.specs.declared.token.Symbol.TheVariants as symbols
use Rattle.cw_lex.specs.declared.token.TokenKind.TheVariants as kinds
use Rattle.cw_lex.specs.declared.token.Word.TheVariants as words
use Rattle.cw_grammar.specs.Grammar.{Sort, Rule, bracketed, subscript, indexed, called, located, conditional, if_rest, else_rest, for_rest, block_rest}
use Rattle.cw_grammar.specs.Grammar.{proc_body, Again, labelled, labelled_simple, more_elems, places, Grammar, ◌·◌, ◌∣◌, many, ◌⇒◌, opens, again}
use Rattle.cw_grammar.specs.Rules.{word, symbol, ◌*>◌, ◌<*◌, optional, commas, name, reference, condition, expr}
use Rattle.cw_grammar.specs.Statements.{semicolons, stmt, simple, felem, decl, presets, elems_behind}

unfoldable pub rule : {s : Sort} → Rule s → Grammar s
rule bracketed = expr <* symbol symbols.Close
rule subscript = expr <* symbol symbols.CloseSquare
rule indexed = expr · optional (symbol symbols.Comma *> expr) <* symbol symbols.CloseSquare
rule called = commas expr <* symbol symbols.Close
rule located = reference <* symbol symbols.Close
rule conditional = condition · (word words.Then *> expr) · (word words.Else *> expr)
rule (if_rest p) = condition · (word words.Then *> again (labelled_simple p)) · optional (opens (kinds.Word words.Else) (else_rest p) ⇒ (λ x. x.1))
rule (else_rest p) = again (labelled p)
rule (for_rest p) = reference · (symbol symbols.Assign *> commas felem) · (word words.Do *> again (labelled p))
rule (block_rest p) = many (decl p <* symbol symbols.Semicolon) · semicolons (again (labelled p)) <* word words.End · optional name
rule proc_body = again (labelled true)

unfoldable pub again_rule : {s : Sort} → Again s → Grammar s
again_rule (labelled p) = stmt p
again_rule (labelled_simple p) = simple p
again_rule more_elems = elems_behind
again_rule places = presets
