-- Alternatives of rules, each by a name of its own.
use Rattle.cw_lex.specs.declared.token.Symbol.TheVariants as symbols
use Rattle.cw_lex.specs.declared.token.Word.TheVariants as words
use Rattle.cw_tree.specs.declared.statement.RawDecl.TheVariants as decl_tree
use Rattle.cw_tree.specs.declared.segment.RawCitem.TheVariants as citem_tree
use Rattle.cw_tree.specs.declared.segment.RawComm.TheVariants as comm_tree
use Rattle.cw_grammar.specs.Tokens.{position}
use Rattle.cw_grammar.specs.Grammar.{a_pair, a_name, a_bounds, an_int, a_decl, a_citem, a_comm, Grammar, ◌·◌, ◌⇒◌}
use Rattle.cw_grammar.specs.Rules.{word, symbol, ◌*>◌, commas, name, int}
use Rattle.cw_grammar.specs.Statements.{in_round, in_square, semicolons, bounds, overlay, citem, spec, aitem}

-- ---- declarations

-- OVERLAY base WITH data
abbrev pub overlay_decl : Grammar a_decl
overlay_decl = overlay ⇒ (λ x. decl_tree.Overlay (position x.0) x.1.0 x.1.1)

-- SWITCH name ":=" name { "," name }
abbrev pub switch_decl : Grammar a_decl
switch_decl = word words.Switch · name · (symbol symbols.Assign *> commas name) ⇒ (λ x. decl_tree.Switch (position x.0) x.1.0 x.1.1)

-- ---- communicators

-- OVERLAY base WITH data
abbrev pub overlay_citem : Grammar a_citem
overlay_citem = overlay ⇒ (λ x. citem_tree.Overlay (position x.0) x.1.0 x.1.1)

-- "/" int
abbrev pub absolute_address : Grammar an_int
absolute_address = symbol symbols.Divide *> int

-- ARRAY name "[" bounds "]", behind its type
abbrev pub bounded : Grammar (a_pair a_name a_bounds)
bounded = word words.Array *> name · in_square bounds

-- COMMON "(" citem { ";" citem } ")"
abbrev pub common : Grammar a_comm
common = word words.Common · in_round (semicolons citem) ⇒ (λ x. comm_tree.Common (position x.0) x.1)

-- LIBRARY "(" spec { ";" spec } ")"
abbrev pub library : Grammar a_comm
library = word words.Library · in_round (semicolons spec) ⇒ (λ x. comm_tree.Library (position x.0) x.1)

-- ABSOLUTE "(" aitem { ";" aitem } ")"
abbrev pub absolute : Grammar a_comm
absolute = word words.Absolute · in_round (semicolons aitem) ⇒ (λ x. comm_tree.Absolute (position x.0) x.1)
