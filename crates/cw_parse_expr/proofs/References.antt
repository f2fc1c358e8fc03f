-- A reference, read in parts.
use Rattle.std.proofs.Common.{◌≡◌, ℕ, true, false, List, [], ◌∷◌, Option, Some, Ok, Err, refl, sym, ap, subst, ◌∙◌}
use Rattle.cw_lex.specs.declared.token.TokenKind.TheVariants as kinds
use Rattle.cw_lex.specs.declared.token.Symbol.TheVariants as symbols
use Rattle.cw_tree.specs.declared.expression.RawExpr.{RawExpr}
use Rattle.cw_tree.specs.declared.expression.RawPrimary.{RawPrimary}
use Rattle.cw_tree.specs.declared.expression.RawPrimary.TheVariants as primary_tree
use Rattle.cw_tree.specs.declared.expression.RawRef.{RawRef}
use Rattle.cw_tree.specs.declared.expression.RawRef.TheVariants as ref_tree
use Rattle.cw_tree.specs.declared.leaf.RawName.{RawName}
use Rattle.cw_operand.specs.Operands.{addressed}
use Rattle.cw_grammar.specs.Tokens.{Item, position}
use Rattle.cw_grammar.specs.declared.stop.Stop.{Stop}
use Rattle.cw_grammar.specs.Grammar.{Either, left, a_pair, an_expr, an_option, opens, indexed, subscript, starts}
use Rattle.cw_grammar.specs.Rules.{name, reference, named, indexed_name, ref_behind, primary_behind}
use Rattle.cw_grammar.specs.Reading.{Read, Fails, ◌>>=◌, applied, reads}
use Rattle.cw_series.proofs.Steps.{made_fails}
use Rattle.cw_series.specs.Series.{made}
use Rattle.cw_parse_expr.specs.References.{element, bare}

-- what stands behind something that does not count
pub second_kept : {A B : Type 0} (x : A) (o : Read B) → o ≡ made {A = A × B} (λ y. y.1) (o >>= λ y. Ok ((x, y.0), y.1))
second_kept x (Ok y) = refl
second_kept x (Err f) = refl

abbrev Indexes : Type 0
Indexes = Item × (RawExpr × Option RawExpr)

abbrev element_read : Read Indexes → Read (RawName → RawRef)
element_read o = o >>= λ y. Ok ((λ n. indexed_name n y.0.1.0 y.0.1.1), y.1)

-- ---- references

in_reference : (x : RawName) (o : Read Indexes) → applied x (element_read o) ≡ made {A = RawName × Option Indexes} (λ z. ref_behind z.0 z.1) (made (λ z. Some z) o >>= λ y. Ok ((x, y.0), y.1))
in_reference x (Ok y) = refl
in_reference x (Err f) = refl

pub element_of : (n : ℕ) (ts us : List Item) (x : RawName) → starts ts (kinds.Name ∷ []) ≡ true → reads 0 name ts ≡ Ok (x, us) → starts us (kinds.Symbol symbols.OpenSquare ∷ []) ≡ true
    → applied x (reads n element us) ≡ reads n reference ts
unfolding reference
element_of n ts us x t e b = sym (rw (t, e, b) (sym (in_reference x (reads n (opens {s = a_pair an_expr (an_option an_expr)} (kinds.Symbol symbols.OpenSquare) indexed) us))))

-- ---- primaries

abbrev Tail : Type 0
Tail = Either (RawExpr × Option RawExpr) (List RawExpr)

in_primary : (x : RawName) (o : Read Indexes)
    → made (λ r. primary_tree.Ref r) (applied x (element_read o)) ≡ made {A = RawName × Option Tail} (λ z. primary_behind z.0 z.1) (made {A = Indexes} {B = Option Tail} (λ z. Some (left z.1)) o >>= λ y. Ok ((x, y.0), y.1))
in_primary x (Ok y) = refl
in_primary x (Err f) = refl

named_element : (n : ℕ) (ts us : List Item) (x : RawName) → reads 0 name ts ≡ Ok (x, us) → starts us (kinds.Symbol symbols.OpenSquare ∷ []) ≡ true
    → made (λ r. primary_tree.Ref r) (applied x (reads n element us)) ≡ reads n named ts
unfolding named
named_element n ts us x e b = sym (rw (e, b) (sym (in_primary x (reads n (opens {s = a_pair an_expr (an_option an_expr)} (kinds.Symbol symbols.OpenSquare) indexed) us))))

pub named_read : (n : ℕ) (ts us vs : List Item) (x : RawName) (r : RawRef) → reads 0 name ts ≡ Ok (x, us) → starts us (kinds.Symbol symbols.OpenSquare ∷ []) ≡ true
    → applied x (reads n element us) ≡ Ok (r, vs) → reads n named ts ≡ Ok (primary_tree.Ref r, vs)
named_read n ts us vs x r e b h = sym (named_element n ts us x e b) ∙ ap (λ (o : Read RawRef). made (λ q. primary_tree.Ref q) o) h

pub named_fails : (s : Stop) (n : ℕ) (ts us : List Item) (x : RawName) → reads 0 name ts ≡ Ok (x, us) → starts us (kinds.Symbol symbols.OpenSquare ∷ []) ≡ true
    → Fails s (applied x (reads n element us)) → Fails s (reads n named ts)
named_fails s n ts us x e b h = subst (λ (o : Read RawPrimary). Fails s o) (named_element n ts us x e b) (made_fails s (λ r. primary_tree.Ref r) (applied x (reads n element us)) h)

bare_made : (o : Read (Item × RawExpr)) → made (λ r. primary_tree.Ref r) (made (λ x. ref_tree.Bare (position x.0) x.1) o) ≡ made (λ x. primary_tree.Ref (ref_tree.Bare (position x.0) x.1)) o
bare_made (Ok y) = refl
bare_made (Err f) = refl

bare_primary : (n : ℕ) (ts : List Item) → made (λ r. primary_tree.Ref r) (reads n bare ts) ≡ reads n addressed ts
bare_primary n ts = bare_made (reads n (opens {s = an_expr} (kinds.Symbol symbols.OpenSquare) subscript) ts)

pub bare_read : (n : ℕ) (ts us : List Item) (r : RawRef) → reads n bare ts ≡ Ok (r, us) → reads n addressed ts ≡ Ok (primary_tree.Ref r, us)
bare_read n ts us r h = sym (bare_primary n ts) ∙ ap (λ (o : Read RawRef). made (λ q. primary_tree.Ref q) o) h

pub bare_fails : (s : Stop) (n : ℕ) (ts : List Item) → Fails s (reads n bare ts) → Fails s (reads n addressed ts)
bare_fails s n ts h = subst (λ (o : Read RawPrimary). Fails s o) (bare_primary n ts) (made_fails s (λ r. primary_tree.Ref r) (reads n bare ts) h)
