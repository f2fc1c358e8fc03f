-- What facts declare: the declarations of a list of facts in their own scope, and the tokens of their names.
use Rattle.std.proofs.Common.{◌≡◌, ℕ, List, [], ◌∷◌, ◌++◌, map, refl, sym, ap, subst, ◌∙◌, append_assoc, inl, inr}
use Rattle.cw_table.specs.declared.table.Row.{Row}
use Rattle.cw_tree.specs.declared.leaf.RawName.{RawName}
use Rattle.cw_facts.specs.declared.fact.Fact.{Fact, Fact-F, map-Fact, out-Fact, fold_out-Fact}
use Rattle.cw_facts.specs.declared.fact.Fact.TheFolds.{fold-roll-Fact}
use Rattle.cw_facts.specs.declared.fact.Fact.TheOpen as layer
use Rattle.cw_facts.specs.declared.fact.Fact.TheVariants as fact
use Rattle.cw_facts.specs.declared.fact.Declaration.{Declaration}
use Rattle.cw_facts.specs.declared.fact.Form.{Form}
use Rattle.cw_facts.specs.declared.fact.Kind.{Kind}
use Rattle.cw_facts.specs.declared.fact.Use.{Use}
use Rattle.cw_facts.specs.Uses.{uses_of}
use Rattle.cw_facts.specs.Facts.{declares, each_declares}
use Rattle.cw_scope.specs.NameRules.{Said, said, said_step, all_declared}
use Rattle.cw_scope.specs.Resolved.{fact_declarations, declarations_step, text_declarations}
use Rattle.cw_sound.specs.Items.Derived.{fact_tokens, facts_tokens, tokens_step, declared_token}
use Rattle.cw_sound.proofs.Items.Lists.{In, in-left, in-right, in-either, each-append, Within, nothing, with, none-within, within-append}
use Rattle.cw_macro.specs.Premises.{Each}

-- ---- joined facts

pub tokens-append : (a b : List Fact) → facts_tokens (a ++ b) ≡ facts_tokens a ++ facts_tokens b
tokens-append [] b = refl
tokens-append (f ∷ a) b = ap (λ ts. fact_tokens f ++ ts) (tokens-append a b) ∙ sym (append_assoc (fact_tokens f) (facts_tokens a) (facts_tokens b))

abbrev pub declared : List Fact → List Declaration
declared facts = all_declared (map said facts)

pub declared-append : (a b : List Fact) → declared (a ++ b) ≡ declared a ++ declared b
declared-append [] b = refl
declared-append (f ∷ a) b = ap (λ ds. (said f).declared ++ ds) (declared-append a b) ∙ sym (append_assoc (said f).declared (declared a) (declared b))

-- ---- names that facts declare, with their tokens in order

abbrev pub IsDeclared : List Fact → RawName → Type 0
IsDeclared facts n = (d : Declaration) × In d (declared facts) × (d.name ≡ n)

abbrev pub token_of : RawName → ℕ
token_of n = n.at.token

pub record Says (facts : List Fact) (names : List RawName) : Type 0 where
  pub tokens : Within (map token_of names) (facts_tokens facts)
  pub each : Each (IsDeclared facts) names

declared-left : (a b : List Fact) (n : RawName) → IsDeclared a n → IsDeclared (a ++ b) n
declared-left a b n h = (h.0, subst (In h.0) (sym (declared-append a b)) (in-left h.0 (declared a) (declared b) h.1), h.2)

declared-right : (a b : List Fact) (n : RawName) → IsDeclared b n → IsDeclared (a ++ b) n
declared-right a b n h = (h.0, subst (In h.0) (sym (declared-append a b)) (in-right h.0 (declared a) (declared b) h.1), h.2)

each-declared-left : (a b : List Fact) (ns : List RawName) → Each (IsDeclared a) ns → Each (IsDeclared (a ++ b)) ns
each-declared-left a b [] h = tt
each-declared-left a b (n ∷ ns) h = (declared-left a b n h.0, each-declared-left a b ns h.1)

each-declared-right : (a b : List Fact) (ns : List RawName) → Each (IsDeclared b) ns → Each (IsDeclared (a ++ b)) ns
each-declared-right a b [] h = tt
each-declared-right a b (n ∷ ns) h = (declared-right a b n h.0, each-declared-right a b ns h.1)

tokens-of-both : (ns ms : List RawName) → map token_of (ns ++ ms) ≡ map token_of ns ++ map token_of ms
tokens-of-both [] ms = refl
tokens-of-both (n ∷ ns) ms = ap (λ ts. n.at.token ∷ ts) (tokens-of-both ns ms)

pub says-both : (a b : List Fact) (ns ms : List RawName) → Says a ns → Says b ms → Says (a ++ b) (ns ++ ms)
says-both a b ns ms h k = record {
  tokens =
      subst (λ ts. Within ts (facts_tokens (a ++ b))) (sym (tokens-of-both ns ms))
      (subst (Within (map token_of ns ++ map token_of ms)) (sym (tokens-append a b)) (within-append h.tokens k.tokens));
  each = each-append (IsDeclared (a ++ b)) ns ms (each-declared-left a b ns h.each) (each-declared-right a b ms k.each);
}

pub says-nothing : (facts : List Fact) → Says facts []
says-nothing facts = record { tokens = none-within (facts_tokens facts); each = tt }

-- ---- one declaration

pub tokens-declares : (d : Declaration) → fact_tokens (fact.Declares d) ≡ declared_token d.kind d.name.at.token
tokens-declares d = ap fact_tokens (sym (fact.rolls-Declares d)) ∙ fold-roll-Fact (List ℕ) tokens_step (layer.Declares d)

pub tokens-uses : (n : RawName) (f : Form) → facts_tokens (uses_of n f) ≡ n.at.token ∷ []
tokens-uses n f =
    let u : Use = record { name = n; form = f } in
    ap (λ (ts : List ℕ). ts ++ []) (ap fact_tokens (sym (fact.rolls-Uses u)) ∙ fold-roll-Fact (List ℕ) tokens_step (layer.Uses u))

pub said-declares : (d : Declaration) → said (fact.Declares d) ≡ said_step (layer.Declares d)
said-declares d = ap said (sym (fact.rolls-Declares d)) ∙ fold-roll-Fact Said said_step (layer.Declares d)

abbrev pub HasToken : Kind → Type 0
HasToken k = (token : ℕ) → declared_token k token ≡ token ∷ []

pub says-one : (k : Kind) (n : RawName) → HasToken k → Says (declares n k ∷ []) (n ∷ [])
says-one k n h =
    let d : Declaration = record { name = n; kind = k } in
    let t : fact_tokens (fact.Declares d) ≡ n.at.token ∷ [] = tokens-declares d ∙ h n.at.token in
    record {
      tokens = subst (λ ts. Within (n.at.token ∷ []) (ts ++ [])) (sym t) (with nothing);
      each = ((d, subst (λ (s : Said). In d (s.declared ++ [])) (sym (said-declares d)) (inl refl), refl), tt);
    }

pub says-each : (k : Kind) (ns : List RawName) → HasToken k → Says (each_declares k ns) ns
says-each k [] h = says-nothing []
says-each k (n ∷ ns) h = says-both (declares n k ∷ []) (each_declares k ns) (n ∷ []) ns (says-one k n h) (says-each k ns h)

-- ---- the rows of declarations

row-in-layer : (d : Declaration) (y : Fact-F Fact) → In d (said_step (map-Fact Fact Said said y)).declared → In (record { token = d.name.at.token; item = d }) (declarations_step (map-Fact Fact (List (Row Declaration)) fact_declarations y))
row-in-layer d (layer.Declares c) (inl e) = inl (ap (λ (x : Declaration). record { token = x.name.at.token; item = x }) e)
row-in-layer d (layer.Declares c) (inr i) = absurd i
row-in-layer d _ i = absurd i

row-in-fact : (d : Declaration) (f : Fact) → In d (said f).declared → In (record { token = d.name.at.token; item = d }) (fact_declarations f)
row-in-fact d f i =
    subst (In (record { token = d.name.at.token; item = d })) (sym (fold_out-Fact (List (Row Declaration)) declarations_step f))
    (row-in-layer d (out-Fact f) (subst (λ (s : Said). In d s.declared) (fold_out-Fact Said said_step f) i))

pub row-of : (facts : List Fact) (d : Declaration) → In d (declared facts) → In (record { token = d.name.at.token; item = d }) (text_declarations facts)
row-of [] d i = absurd i
row-of (f ∷ fs) d i =
    elim (in-either d (said f).declared (declared fs) i) [
      | inl a ↦ in-left (record { token = d.name.at.token; item = d }) (fact_declarations f) (text_declarations fs) (row-in-fact d f a)
      | inr b ↦ in-right (record { token = d.name.at.token; item = d }) (fact_declarations f) (text_declarations fs) (row-of fs d b)
    ]
