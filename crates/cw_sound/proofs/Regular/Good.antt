-- What is known of each value that a text of the grammar stands for, where each rule keeps it: of a tree that it is regular. Of what has no expression in it
-- nothing need be known.
use Rattle.std.proofs.Common.{◌≡◌, ℕ, suc, ◌≤◌, true, nat_lt, IsTrue, List, arith}
use Rattle.cw_lex.specs.declared.token.TokenKind.TheVariants as kinds
use Rattle.cw_lex.specs.declared.token.TokenKind.{TokenKind}
use Rattle.cw_grammar.specs.Tokens.{Item, same, literal_byte}
use Rattle.cw_grammar.specs.Grammar.{Sort, a_stmt, a_form, a_simple, a_felem, a_block, a_decl, a_raw, Value, Rule, proc_body, Again, Grammar}
use Rattle.cw_grammar.specs.Table.{rule, again_rule}
use Rattle.cw_grammar.specs.Derives.{Derives}
use Rattle.cw_tokens.specs.TreeTokens.{felem_tokens}
use Rattle.cw_sound.specs.Statements.Levels.{statement_levels}
use Rattle.cw_sound.specs.Statements.Regular.{is_regular_element}
use Rattle.cw_sound.proofs.Trees.Tall.{body_within}
use Rattle.cw_sound.proofs.Expressions.Folds.{regular_pass, tokens_pass}
use Rattle.cw_sound.proofs.Expressions.Passes.{related}
use Rattle.cw_sound.proofs.Regular.Fits.{Fits}
use Rattle.cw_sound.proofs.Regular.Smalls.{small}
use Rattle.cw_macro.specs.Premises.{Each}
use Rattle.cw_sound.proofs.Kept as kept
use Rattle.cw_sound.proofs.Kept.{Ask, nothing, holds, of_expressions, AsItIs}

-- a token that is a byte, where it is a LITERAL
abbrev pub IsByte : Item → Type 0
IsByte t = same t.kind kinds.Literal ≡ true → IsTrue (nat_lt (literal_byte t.text) 256)

module _ (m : ℕ) where
  -- what is asked of each sort with expressions
  abbrev others : (s : Sort) → Ask (Value s)
  others a_stmt = holds (λ x. (small m).Stmt x)
  others a_form = holds (λ x. (small m).Form x)
  others a_simple = holds (λ x. (small m).Simple x)
  others a_felem = holds (λ x. Fits (is_regular_element x) (felem_tokens x))
  others a_block = holds (λ x. (small m).Block x)
  others a_decl = holds (λ x. (small m).Decl x)
  others a_raw = holds (λ x. (small m).Block x.block)
  others _ = nothing

  abbrev asked : (s : Sort) → Ask (Value s)
  asked = of_expressions (related regular_pass tokens_pass Fits) others

  abbrev pub Good : (s : Sort) → Value s → Type 0
  Good s x = kept.Good asked s x

  -- what stands inside a level: a procedure's body is within the levels too
  abbrev pub Inside : {s : Sort} → Rule s → Value s → Type 0
  Inside proc_body x = (small m).Stmt x × (statement_levels x ≤ m)
  Inside {s = s} r x = Good s x

  abbrev Of : TokenKind → Item → Type 0
  Of k t = (same t.kind k ≡ true) × IsByte t

  abbrev Opened : (s : Sort) → Rule s → Item → Value s → Type 0
  Opened s r t x = Inside r x

  abbrev pub Given : {s : Sort} → Grammar s → Value s → Type 0
  Given g x = kept.Given asked Of Opened AsItIs g x

  abbrev pub Keeps : {s : Sort} → Grammar s → Type 0
  Keeps g = kept.Keeps asked Of Opened AsItIs g

  inside_good : (s : Sort) (r : Rule s) (t : Item) (x : Value s) → Inside r x → Good s x
  inside_good s proc_body t x h = h.0
  inside_good s r t x h = h

  pub given_good : {s : Sort} (g : Grammar s) (x : Value s) → Given g x → Good s x
  given_good g x h = kept.given_good asked Of Opened AsItIs inside_good g x h

  inside_of : (n : ℕ) (s : Sort) (r : Rule s) (t : Item) (u : List Item) (x : Value s) → suc n ≤ m → Derives n s (rule r) u x → IsByte t → Good s x → Inside r x
  unfolding rule
  inside_of n s proc_body t u x l d b h = (h, omega (arith, l, body_within d))
  inside_of n s r t u x l d b h = h

  -- where each rule keeps it
  module _ (rules : (s : Sort) (r : Rule s) → Keeps (rule r)) (agains : (s : Sort) (a : Again s) → Keeps (again_rule a)) where
    pub given : {n : ℕ} {s : Sort} {g : Grammar s} {u : List Item} {x : Value s} → Derives n s g u x → n ≤ m → Each IsByte u → Keeps g → Given g x
    given d l b q = kept.given asked Of Opened AsItIs inside_good IsByte (λ n. n ≤ m) (λ n l. omega (arith, l)) (λ k t e h. (e, h)) inside_of (λ n s g u x T d i. i) rules agains d l b q

    pub good : {n : ℕ} {s : Sort} {g : Grammar s} {u : List Item} {x : Value s} → Derives n s g u x → n ≤ m → Each IsByte u → Keeps g → Good s x
    good {g = g} {x = x} d l b k = given_good g x (given d l b k)
