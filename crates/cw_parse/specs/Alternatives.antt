-- Alternatives of rules, each by a name of its own.
use Rattle.std.specs.Prelude.{Bool, false}
use Rattle.cw_lex.specs.declared.token.TokenKind.TheVariants as kinds
use Rattle.cw_lex.specs.declared.token.Symbol.TheVariants as symbols
use Rattle.cw_lex.specs.declared.token.Word.TheVariants as words
use Rattle.cw_tree.specs.declared.expression.RawRef.TheVariants as ref_tree
use Rattle.cw_tree.specs.declared.statement.RawSimple.TheVariants as simple_tree
use Rattle.cw_grammar.specs.Tokens.{position}
use Rattle.cw_grammar.specs.Grammar.{Sort, a_token, a_list, a_decl, a_felem, a_pair, an_option, a_from, a_name, an_expr, a_form, a_simple, a_stmt, Grammar, ◌·◌}
use Rattle.cw_grammar.specs.Grammar.{◌⇒◌, opens, subscript, indexed, called, block_rest, if_rest, for_rest, else_rest, labelled, labelled_simple, again}
use Rattle.cw_grammar.specs.Rules.{word, symbol, ◌*>◌, commas, optional, name, bits, reference, expr, indexed_name}
use Rattle.cw_grammar.specs.Statements.{felem, jump, block_tree, if_tree, for_tree}

-- ":=" expr
abbrev pub value_behind : Grammar an_expr
value_behind = symbol symbols.Assign *> expr

-- ---- behind a name

-- ":=" expr
abbrev pub name_assigned : Grammar (a_from a_name a_simple)
name_assigned = symbol symbols.Assign *> expr ⇒ (λ e n. simple_tree.Assign (ref_tree.Name n) e)

-- "[" expr [ "," expr ] "]" ":=" expr
abbrev pub element_assigned : Grammar (a_from a_name a_simple)
element_assigned = opens (kinds.Symbol symbols.OpenSquare) indexed · (symbol symbols.Assign *> expr) ⇒
    (λ x n. simple_tree.Assign (indexed_name n x.0.1.0 x.0.1.1) x.1)

-- "(" expr { "," expr } ")"
abbrev pub call_behind : Grammar (a_from a_name a_simple)
call_behind = opens (kinds.Symbol symbols.Open) called ⇒ (λ x n. simple_tree.Call n x.1)

-- ---- without a name

-- "[" expr "]" ":=" expr
abbrev pub address_assigned : Grammar a_simple
address_assigned = opens (kinds.Symbol symbols.OpenSquare) subscript · (symbol symbols.Assign *> expr) ⇒
    (λ x. simple_tree.Assign (ref_tree.Bare (position x.0.0) x.0.1) x.1)

-- BITS size ref ":=" expr
abbrev pub bits_assigned : Grammar a_simple
bits_assigned = bits · reference · (symbol symbols.Assign *> expr) ⇒ (λ x. simple_tree.AssignBits x.0 x.1.0 x.1.1)

-- GOTO name [ "[" expr "]" ]
abbrev pub goto : Grammar a_simple
goto = word words.Goto · name · optional (opens (kinds.Symbol symbols.OpenSquare) subscript) ⇒ (λ x. jump x.0 x.1.0 x.1.1)

-- ANSWER expr
abbrev pub answered : Grammar a_simple
answered = word words.Answer · expr ⇒ (λ x. simple_tree.Answer (position x.0) x.1)

-- block
abbrev pub block : Bool → Grammar a_simple
block p = opens (kinds.Word words.Begin) (block_rest p) ⇒ (λ x. simple_tree.Block (block_tree x.0 x.1.0 x.1.1))

-- ---- statements with statements inside

-- IF cond THEN { name ":" } simple [ ELSE stmt ]
abbrev pub if_form : Bool → Grammar a_form
if_form p = opens (kinds.Word words.If) (if_rest p) ⇒ (λ x. if_tree x.0 x.1)

-- FOR ref ":=" felem { "," felem } DO stmt
abbrev pub for_form : Bool → Grammar a_form
for_form p = opens (kinds.Word words.For) (for_rest p) ⇒ (λ x. for_tree x.0 x.1)

-- THEN { name ":" } simple
abbrev pub first_stmt : Bool → Grammar (a_pair (a_list a_name) a_simple)
first_stmt p = word words.Then *> again (labelled_simple p)

-- [ ELSE stmt ]
abbrev pub second_stmt : Bool → Grammar (an_option a_stmt)
second_stmt p = optional (opens (kinds.Word words.Else) (else_rest p) ⇒ (λ x. x.1))

-- DO stmt
abbrev pub done : Bool → Grammar a_stmt
done p = word words.Do *> again (labelled p)

-- ---- elements of FOR

-- ":=" felem { "," felem }
abbrev pub assigned_felems : Grammar (a_list a_felem)
assigned_felems = symbol symbols.Assign *> commas felem

-- STEP expr UNTIL expr
abbrev pub step_until : Grammar (a_pair an_expr an_expr)
step_until = word words.Step *> expr · (word words.Until *> expr)

-- ---- segments

-- SEGMENT name block FINISH
abbrev pub a_segment : Sort
a_segment = a_pair a_name (a_pair (a_pair a_token (a_pair (a_list a_decl) (a_list a_stmt))) a_token)

abbrev pub segment : Grammar a_segment
segment = (word words.Segment *> name) · opens (kinds.Word words.Begin) (block_rest false) · word words.Finish
