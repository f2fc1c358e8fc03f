-- Statements that begin with a name.
use Rattle.std.proofs.Common.{◌≡◌, ℕ, Bool, true, false, List, [], ◌∷◌, Ok, Err, refl, ◌∙◌, sym}
use Rattle.cw_lex.specs.declared.token.TokenKind.TheVariants as kinds
use Rattle.cw_lex.specs.declared.token.Word.TheVariants as words
use Rattle.cw_tree.specs.declared.leaf.RawName.{RawName}
use Rattle.cw_tree.specs.declared.statement.RawSimple.{RawSimple}
use Rattle.cw_tree.specs.declared.statement.RawForm.TheVariants as form_tree
use Rattle.cw_grammar.specs.Tokens.{Item, same}
use Rattle.cw_grammar.specs.declared.stop.Stop.{Stop}
use Rattle.cw_grammar.specs.Grammar.{a_name, a_simple, starts}
use Rattle.cw_grammar.specs.Rules.{name}
use Rattle.cw_grammar.specs.Statements.{simple_behind}
use Rattle.cw_grammar.specs.Labels.{unlabelled, unlabelled_simple}
use Rattle.cw_grammar.specs.Reading.{Fails, ◌>>=◌, applied, reads}
use Rattle.cw_grammar.proofs.Failing.{fails_where}
use Rattle.cw_grammar.proofs.From.{from_reads}

pub simple_named : (n : ℕ) (p : Bool) (ts us : List Item) (x : RawName) → starts ts (kinds.Name ∷ []) ≡ true → reads 0 name ts ≡ Ok (x, us) → applied x (reads n simple_behind us) ≡ reads n (unlabelled_simple p) ts
unfolding unlabelled_simple
simple_named n p ts us x t e = sym (rw t (from_reads n a_name a_simple name simple_behind x ts us e))

form_simple : (n : ℕ) (p : Bool) (ts : List Item) → starts ts (kinds.Word words.If ∷ []) ≡ false → starts ts (kinds.Word words.For ∷ []) ≡ false
    → reads n (unlabelled p) ts ≡ (reads n (unlabelled_simple p) ts >>= λ y. Ok (form_tree.Simple y.0, y.1))
unfolding unlabelled unlabelled_simple
form_simple n p [] i f = refl
form_simple n p (t ∷ us) i f = go (same t.kind kinds.Name) refl
  where
    Goal : Type 0
    Goal = reads n (unlabelled p) (t ∷ us) ≡ (reads n (unlabelled_simple p) (t ∷ us) >>= λ y. Ok (form_tree.Simple y.0, y.1))

    named : same t.kind kinds.Name ≡ true → (o : _) → reads n simple_behind us ≡ o → Goal
    named e (Ok y) h = rw (e, h) refl
    named e (Err k) h = rw (e, h) refl

    go : (b : Bool) → same t.kind kinds.Name ≡ b → Goal
    go true e = named e (reads n simple_behind us) refl
    go false e = rw (e, i, f) refl

pub form_read : (n : ℕ) (p : Bool) (ts us : List Item) (x : RawSimple) → starts ts (kinds.Word words.If ∷ []) ≡ false → starts ts (kinds.Word words.For ∷ []) ≡ false
    → reads n (unlabelled_simple p) ts ≡ Ok (x, us) → reads n (unlabelled p) ts ≡ Ok (form_tree.Simple x, us)
form_read n p ts us x i f e = form_simple n p ts i f ∙ rw e refl

pub form_fails : (s : Stop) (n : ℕ) (p : Bool) (ts : List Item) → starts ts (kinds.Word words.If ∷ []) ≡ false → starts ts (kinds.Word words.For ∷ []) ≡ false
    → Fails s (reads n (unlabelled_simple p) ts) → Fails s (reads n (unlabelled p) ts)
form_fails s n p ts i f failed = fails_where s (reads n (unlabelled_simple p) ts) (reads n (unlabelled p) ts) (λ k is. form_simple n p ts i f ∙ rw is refl) failed
