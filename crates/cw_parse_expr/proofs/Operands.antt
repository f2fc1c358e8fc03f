-- What a first operand brings, with the operands that are read behind it, is the whole.
use Rattle.std.proofs.Common.{◌≡◌, ℕ, List, [], ◌∷◌, ◌++◌, Option, Ok, Err, refl, sym, ap, subst, ◌∙◌}
use Rattle.cw_grammar.specs.Tokens.{Item}
use Rattle.cw_grammar.specs.declared.stop.Stop.{Stop}
use Rattle.cw_grammar.specs.Grammar.{Sort, a_sign, a_term, Value, Grammar, ◌·◌, ◌⇒◌, many, first, starts}
use Rattle.cw_grammar.specs.Rules.{optional, sign, term, sum}
use Rattle.cw_tree.specs.declared.leaf.RawSign.{RawSign}
use Rattle.cw_tree.specs.declared.expression.RawSum.{RawSum}
use Rattle.cw_tree.specs.declared.expression.RawTerm.{RawTerm}
use Rattle.cw_grammar.specs.Trees.{Operands, Terms, extended, sum_tree, sum_start}
use Rattle.cw_grammar.specs.Reading.{Read, Fails, reads}
use Rattle.cw_grammar.proofs.Chain.{going, chain_init, sum_init}
use Rattle.cw_series.proofs.Steps.{Collects, made_fails}
use Rattle.cw_series.specs.Series.{made}
use Rattle.cw_parse_expr.specs.Operands.{chained}

pub chains_collect : {A B : Type 0} → Collects {X = B × A} (λ s xs. extended s xs) (λ s x. (s.0 ++ x.1 ∷ [], s.1 ++ x.0 ∷ []))
chains_collect = record { none = λ s. refl; more = λ s x xs. refl }

-- the operands of grammars behind what is so far
abbrev pub operands_read : (n : ℕ) (a b : Sort) (op : Grammar b) (g : Grammar a) → Operands (Value a) (Value b) → List Item → Read (Operands (Value a) (Value b))
operands_read n a b op g so_far ts = chained so_far (λ us. starts us (first (op · g))) (λ us. reads n op us) (λ us. reads n g us) ts

built : {A B C : Type 0} (build : Operands A B → C) (s : Operands A B) (o : Read (List (B × A))) → going build s o ≡ made build (made (extended s) o)
built build s (Ok y) = refl
built build s (Err f) = refl

module _ (n : ℕ) (a b c : Sort) (op : Grammar b) (g : Grammar a) (start : Value a → Operands (Value a) (Value b)) (build : Operands (Value a) (Value b) → Value c) (x : Value a) (so_far : Operands (Value a) (Value b)) (ts us : List Item) where
  total : so_far ≡ start x → reads n g ts ≡ Ok (x, us)
      → made build (operands_read n a b op g so_far us) ≡ reads n (g · many (op · g) ⇒ (λ z. build (extended (start z.0) z.1))) ts
  total s e = rw s (sym (built build (start x) (reads n (many (op · g)) us)) ∙ chain_init n a b c op g start build x ts us e)

  pub chain_read : (chain : Operands (Value a) (Value b)) (rest : List Item) → so_far ≡ start x → reads n g ts ≡ Ok (x, us) → operands_read n a b op g so_far us ≡ Ok (chain, rest)
      → reads n (g · many (op · g) ⇒ (λ z. build (extended (start z.0) z.1))) ts ≡ Ok (build chain, rest)
  chain_read chain rest s e h = sym (total s e) ∙ ap (λ (o : Read (Operands (Value a) (Value b))). made build o) h

  pub chain_fails : (e : Stop) → so_far ≡ start x → reads n g ts ≡ Ok (x, us) → Fails e (operands_read n a b op g so_far us)
      → Fails e (reads n (g · many (op · g) ⇒ (λ z. build (extended (start z.0) z.1))) ts)
  chain_fails e s p h = subst (λ (o : Read (Value c)). Fails e o) (total s p) (made_fails e build (operands_read n a b op g so_far us) h)

-- the same for a sum, behind its sign
module _ (n : ℕ) (first_sign : Option RawSign) (t : RawTerm) (so_far : Terms) (ts us vs : List Item) where
  sum_total : so_far ≡ sum_start first_sign t → reads n (optional sign) ts ≡ Ok (first_sign, us) → reads n term us ≡ Ok (t, vs)
      → made (λ z. sum_tree (so_far.0, z)) (operands_read n a_term a_sign sign term so_far.1 vs) ≡ reads n sum ts
  sum_total s e f = rw s (sym (built (λ z. sum_tree ((sum_start first_sign t).0, z)) (sum_start first_sign t).1 (reads n (many (sign · term)) vs)) ∙ sum_init n first_sign t ts us vs e f)

  pub sum_read : (chain : Operands RawTerm RawSign) (rest : List Item) → so_far ≡ sum_start first_sign t → reads n (optional sign) ts ≡ Ok (first_sign, us) → reads n term us ≡ Ok (t, vs)
      → operands_read n a_term a_sign sign term so_far.1 vs ≡ Ok (chain, rest) → reads n sum ts ≡ Ok (sum_tree (so_far.0, chain), rest)
  sum_read chain rest s e f h = sym (sum_total s e f) ∙ ap (λ (o : Read (Operands RawTerm RawSign)). made (λ z. sum_tree (so_far.0, z)) o) h

  pub sum_fails : (e : Stop) → so_far ≡ sum_start first_sign t → reads n (optional sign) ts ≡ Ok (first_sign, us) → reads n term us ≡ Ok (t, vs)
      → Fails e (operands_read n a_term a_sign sign term so_far.1 vs) → Fails e (reads n sum ts)
  sum_fails e s p q h = subst (λ (o : Read RawSum). Fails e o) (sum_total s p q) (made_fails e (λ z. sum_tree (so_far.0, z)) (operands_read n a_term a_sign sign term so_far.1 vs) h)
