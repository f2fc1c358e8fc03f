-- Operands with an operator between any two, read in a loop: what is so far, and what is still read.
use Rattle.std.proofs.Common.{◌≡◌, ℕ, List, Option, Ok, Err, refl}
use Rattle.cw_grammar.specs.Tokens.{Item}
use Rattle.cw_grammar.specs.Grammar.{Sort, a_token, a_list, Value, Grammar, ◌·◌, ◌⇒◌, many}
use Rattle.cw_grammar.specs.Rules.{optional, sign, term, sum}
use Rattle.cw_tree.specs.declared.leaf.RawSign.{RawSign}
use Rattle.cw_tree.specs.declared.expression.RawTerm.{RawTerm}
use Rattle.cw_grammar.specs.Trees.{Operands, extended, sum_tree, sum_start, more_terms}
use Rattle.cw_grammar.specs.Reading.{Read, ◌>>=◌, read_with, reads, inside, Agains, turns, unbounded}

-- the operands so far, and what is still read
abbrev pub going : {A B C : Type 0} → (Operands A B → C) → Operands A B → Read (List (B × A)) → Read C
going build so_far o = o >>= λ y. Ok (build (extended so_far y.0), y.1)

abbrev pub paired : {D X : Type 0} → D → Read X → Read (D × X)
paired x o = o >>= λ y. Ok ((x, y.0), y.1)

abbrev pub mapped : {X C : Type 0} → (X → C) → Read X → Read C
mapped f o = o >>= λ z. Ok (f z.0, z.1)

-- the start, behind the first operand
pub chain_begins : {A B C D : Type 0} (build : Operands A B → C) (start : D → Operands A B) (x : D) (o : Read (List (B × A)))
    → going build (start x) o ≡ mapped (λ z. build (extended (start z.0) z.1)) (paired x o)
chain_begins build start x (Ok y) = refl
chain_begins build start x (Err f) = refl

-- The whole is the start with what is read behind the first operand.
pub chain_init : (n : ℕ) (a b c : Sort) (op : Grammar b) (g : Grammar a) (start : Value a → Operands (Value a) (Value b)) (build : Operands (Value a) (Value b) → Value c) (x : Value a) (ts rest : List Item) → reads n g ts ≡ Ok (x, rest)
    → going build (start x) (reads n (many (op · g)) rest) ≡ reads n (g · many (op · g) ⇒ (λ z. build (extended (start z.0) z.1))) ts
chain_init n a b c op g start build x ts rest e = rw e (chain_begins build start x (reads n (many (op · g)) rest))

-- The same for a sum, behind its sign.
sum_begins : (first_sign : Option RawSign) (t : RawTerm) (o : Read (List (RawSign × RawTerm)))
    → going (λ x. sum_tree ((sum_start first_sign t).0, x)) (sum_start first_sign t).1 o ≡ mapped (λ x. sum_tree (more_terms (sum_start x.0 x.1.0) x.1.1)) (paired first_sign (paired t o))
sum_begins first_sign t (Ok y) = refl
sum_begins first_sign t (Err f) = refl

pub sum_init : (n : ℕ) (first_sign : Option RawSign) (t : RawTerm) (ts us rest : List Item) → reads n (optional sign) ts ≡ Ok (first_sign, us) → reads n term us ≡ Ok (t, rest)
    → going (λ x. sum_tree ((sum_start first_sign t).0, x)) (sum_start first_sign t).1 (reads n (many (sign · term)) rest) ≡ reads n sum ts
unfolding sum
sum_init n first_sign t ts us rest e f = rw e (rw f (sum_begins first_sign t (reads n (many (sign · term)) rest)))
