-- What is kept of the names of a text, by its mentions, and the tokens of what is used.
use Rattle.std.proofs.Common.{◌≡◌, inl, inr, ℕ, List, [], ◌∷◌, ◌++◌, map, Option, Some, None, refl, sym, ap, ap₂, subst, ◌∙◌, append_assoc}
use Rattle.cw_table.specs.declared.table.Row.{Row}
use Rattle.cw_facts.specs.declared.fact.Fact.{Fact, Fact-F, map-Fact, roll-Fact}
use Rattle.cw_facts.specs.declared.fact.Fact.TheFolds.{fold-roll-Fact, ind-Fact}
use Rattle.cw_facts.specs.declared.fact.Fact.TheOpen as layer
use Rattle.cw_facts.specs.declared.fact.Declaration.{Declaration}
use Rattle.cw_facts.specs.declared.fact.Use.{Use}
use Rattle.cw_scope.specs.Scope.{Environment, declaration_of}
use Rattle.cw_scope.specs.NameRules.{Said, said, said_step, all_faults, all_resolved, within, use_faults, resolutions}
use Rattle.cw_scope.specs.Resolved.{all_rows, declarations_step, fact_declarations, text_declarations}
use Rattle.cw_make_items.specs.Lookup.{Numbers}
use Rattle.cw_make.specs.Labels.{proc_within}
use Rattle.cw_sound.specs.Uses.Mentions.{In, Mention, Here, here, declares, uses, stores, Mentions, mentions_step, fact_mentions, facts_mentions}
use Rattle.cw_sound.specs.Names.Placed.{tokens, all_tokens, used_step, fact_used, text_used}
use Rattle.cw_sound.proofs.Names.NoFaults.{parts, facts_keep}
use Rattle.cw_sound.proofs.Names.FactFolds.{RelatedLayer, each_related}

-- ---- declarations

abbrev pub row : Declaration → Row Declaration
row d = record { token = d.name.at.token; item = d }

abbrev pub rows_of : Mention → List (Row Declaration)
rows_of (declares d) = row d ∷ []
rows_of (uses x) = []
rows_of (stores token n) = []

abbrev pub rows_in : List Here → List (Row Declaration)
rows_in [] = []
rows_in (m ∷ ms) = rows_of m.mention ++ rows_in ms

pub rows_append : (xs ys : List Here) → rows_in (xs ++ ys) ≡ rows_in xs ++ rows_in ys
rows_append [] ys = refl
rows_append (x ∷ xs) ys = ap (λ rs. rows_of x.mention ++ rs) (rows_append xs ys) ∙ sym (append_assoc (rows_of x.mention) (rows_in xs) (rows_in ys))

pub in_rows : (owner : Option ℕ) (d : Declaration) (ms : List Here) → In (here owner (declares d)) ms → In (row d) (rows_in ms)
in_rows owner d [] h = absurd h
in_rows owner d (m ∷ ms) (inl e) = subst (λ n. In (row d) (rows_of n.mention ++ rows_in ms)) (sym e) (inl refl)
in_rows owner d (m ∷ ms) (inr h) = later (in_rows owner d ms h) m.mention
  where
    later : In (row d) (rows_in ms) → (n : Mention) → In (row d) (rows_of n ++ rows_in ms)
    later k (declares c) = inr k
    later k (uses x) = k
    later k (stores token n) = k

module _ (numbers : Numbers) where
  abbrev HasRows : Mentions → List (Row Declaration) → Type 0
  HasRows ms rs = (q : Option ℕ) → rows_in (ms q) ≡ rs

  abbrev FactRows : Fact → Type 0
  FactRows f = HasRows (fact_mentions numbers f) (fact_declarations f)

  all_have : (es : List ((f : Fact) × FactRows f)) (q : Option ℕ) → rows_in (facts_mentions numbers (map (λ e. e.0) es) q) ≡ all_rows (map fact_declarations (map (λ e. e.0) es))
  all_have [] q = refl
  all_have (e ∷ es) q = rows_append (fact_mentions numbers e.0 q) (facts_mentions numbers (map (λ z. z.0) es) q) ∙ ap₂ (λ a b. a ++ b) (e.1 q) (all_have es q)

  have_rows : (y : Fact-F ((f : Fact) × FactRows f)) → RelatedLayer (mentions_step numbers) declarations_step HasRows (map-Fact ((f : Fact) × FactRows f) Fact (λ e. e.0) y)
  have_rows (layer.Block owner es) q = all_have es (proc_within numbers owner q)
  have_rows _ q = refl

  fact_rows : (f : Fact) → FactRows f
  fact_rows = each_related (mentions_step numbers) declarations_step HasRows have_rows

  pub facts_rows : (facts : List Fact) (q : Option ℕ) → rows_in (facts_mentions numbers facts q) ≡ text_declarations facts
  facts_rows [] q = refl
  facts_rows (f ∷ fs) q = rows_append (fact_mentions numbers f q) (facts_mentions numbers fs q) ∙ ap₂ (λ a b. a ++ b) (fact_rows f q) (facts_rows fs q)

  pub mentions_append : (xs ys : List Fact) (q : Option ℕ) → facts_mentions numbers (xs ++ ys) q ≡ facts_mentions numbers xs q ++ facts_mentions numbers ys q
  mentions_append [] ys q = refl
  mentions_append (x ∷ xs) ys q = ap (λ ms. fact_mentions numbers x q ++ ms) (mentions_append xs ys q) ∙ sym (append_assoc (fact_mentions numbers x q) (facts_mentions numbers xs q) (facts_mentions numbers ys q))

-- ---- uses

tokens_append : {T : Type 0} → (xs ys : List (Row T)) → tokens (xs ++ ys) ≡ tokens xs ++ tokens ys
tokens_append [] ys = refl
tokens_append (x ∷ xs) ys = ap (λ ts. x.token ∷ ts) (tokens_append xs ys)

use_token : (o : Option Declaration) (x : Use) → use_faults o x None ≡ None → tokens (resolutions o x) ≡ x.name.at.token ∷ []
use_token None x e = absurd (cc)
use_token (Some d) x e = refl

abbrev UsedAt : Said → List ℕ → Type 0
UsedAt s ts = (env : Environment) → s.faults env None ≡ None → tokens (s.resolved env) ≡ ts

abbrev FactUsed : Fact → Type 0
FactUsed f = UsedAt (said f) (fact_used f)

all_used : (es : List ((f : Fact) × FactUsed f)) (env : Environment) → let fs : List Fact = map (λ e. e.0) es in all_faults env (map said fs) None ≡ None → tokens (all_resolved env (map said fs)) ≡ all_tokens (map fact_used fs)
all_used [] env e = refl
all_used (x ∷ xs) env e =
    let fs : List Fact = map (λ z. z.0) xs in
    let free = parts ((said x.0).faults env) (all_faults env (map said fs)) (facts_keep fs env) e in
    tokens_append ((said x.0).resolved env) (all_resolved env (map said fs)) ∙ ap₂ (λ a b. a ++ b) (x.1 env free.0) (all_used xs env free.1)

used_at : (y : Fact-F ((f : Fact) × FactUsed f)) → let x : Fact-F Fact = map-Fact ((f : Fact) × FactUsed f) Fact (λ e. e.0) y in UsedAt (said_step (map-Fact Fact Said said x)) (used_step (map-Fact Fact (List ℕ) fact_used x))
used_at (layer.Uses x) env e = use_token (declaration_of env x.name.name) x e
used_at (layer.Block owner es) env e = all_used es (within env (map said (map (λ z. z.0) es))) e
used_at _ env e = refl

fact_used_at : (f : Fact) → FactUsed f
fact_used_at = ind-Fact FactUsed (λ x y is.
    let at : UsedAt (said_step (map-Fact Fact Said said x)) (used_step (map-Fact Fact (List ℕ) fact_used x)) =
    subst (λ z. UsedAt (said_step (map-Fact Fact Said said z)) (used_step (map-Fact Fact (List ℕ) fact_used z))) is (used_at y) in
    subst (λ s. UsedAt s (fact_used (roll-Fact x))) (sym (fold-roll-Fact Said said_step x))
    (subst (UsedAt (said_step (map-Fact Fact Said said x))) (sym (fold-roll-Fact (List ℕ) used_step x)) at))

pub facts_used : (fs : List Fact) (env : Environment) → all_faults env (map said fs) None ≡ None → tokens (all_resolved env (map said fs)) ≡ text_used fs
facts_used [] env e = refl
facts_used (f ∷ fs) env e =
    let free = parts ((said f).faults env) (all_faults env (map said fs)) (facts_keep fs env) e in
    tokens_append ((said f).resolved env) (all_resolved env (map said fs)) ∙ ap₂ (λ a b. a ++ b) (fact_used_at f env free.0) (facts_used fs env free.1)
