-- What is known of each value that a text of the grammar stands for, where each rule keeps it: of a statement that it has lines, and of the parts that a
-- statement takes its line from that they have one. Of what has no such part nothing need be known.
use Rattle.std.proofs.Common.{ℕ, ◌<◌, IsTrue, List}
use Rattle.cw_lex.specs.declared.token.TokenKind.{TokenKind}
use Rattle.cw_grammar.specs.Tokens.{Item, position}
use Rattle.cw_grammar.specs.Grammar.{Sort, a_name, a_bits, a_ref, a_stmt, a_form, a_simple, a_block, a_decl, a_raw, Value, Rule, Again, Grammar}
use Rattle.cw_grammar.specs.Table.{rule, again_rule}
use Rattle.cw_grammar.specs.Derives.{Derives}
use Rattle.cw_make_stmt.specs.Made.{ref_position}
use Rattle.cw_macro.specs.Premises.{Each}
use Rattle.cw_sound.specs.Ready.Lined.{is_numbered, PositionsFit}
use Rattle.cw_sound.proofs.Lines.Layers.{has_lines}
use Rattle.cw_sound.proofs.Kept as kept
use Rattle.cw_sound.proofs.Kept.{Ask, nothing, holds, AsItIs}

-- a token that has a line, and a number that the tree can hold
pub record Placed (t : Item) : Type 0 where
  pub line : IsTrue (is_numbered (position t))
  pub few : t.number < 4294967296

-- what is asked of each sort with statements, or with what gives one its line
abbrev asked : (s : Sort) → Ask (Value s)
asked a_name = holds (λ x. IsTrue (is_numbered x.at))
asked a_bits = holds (λ x. IsTrue (is_numbered x.at))
asked a_ref = holds (λ x. IsTrue (is_numbered (ref_position x)))
asked a_stmt = holds (λ x. has_lines.Stmt x)
asked a_form = holds (λ x. has_lines.Form x)
asked a_simple = holds (λ x. has_lines.Simple x)
asked a_block = holds (λ x. has_lines.Block x)
asked a_decl = holds (λ x. has_lines.Decl x)
asked a_raw = holds (λ x. PositionsFit x)
asked _ = nothing

abbrev pub Good : (s : Sort) → Value s → Type 0
Good s x = kept.Good asked s x

abbrev Of : TokenKind → Item → Type 0
Of k t = Placed t

abbrev Opened : (s : Sort) → Rule s → Item → Value s → Type 0
Opened s r t x = Placed t × Good s x

abbrev pub Given : {s : Sort} → Grammar s → Value s → Type 0
Given g x = kept.Given asked Of Opened AsItIs g x

abbrev pub Keeps : {s : Sort} → Grammar s → Type 0
Keeps g = kept.Keeps asked Of Opened AsItIs g

pub given_good : {s : Sort} (g : Grammar s) (x : Value s) → Given g x → Good s x
given_good g x h = kept.given_good asked Of Opened AsItIs (λ s r t x h. h.1) g x h

-- where each rule keeps it
module _ (rules : (s : Sort) (r : Rule s) → Keeps (rule r)) (agains : (s : Sort) (a : Again s) → Keeps (again_rule a)) where
  pub good : {n : ℕ} {s : Sort} {g : Grammar s} {u : List Item} {x : Value s} → Derives n s g u x → Each Placed u → Keeps g → Good s x
  good {g = g} {x = x} d b q =
      kept.good asked Of Opened AsItIs (λ s r t x h. h.1) Placed (λ n. Unit {0}) (λ n l. tt) (λ k t e h. h) (λ n s r t u x l d h k. (h, k)) (λ n s g u x T d i. i) rules agains d tt b q
