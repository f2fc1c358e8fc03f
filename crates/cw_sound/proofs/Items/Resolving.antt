-- Each use of a name has a row of its own.
use Rattle.std.proofs.Common.{◌≡◌, ℕ, suc, ◌≤◌, List, [], ◌∷◌, ◌++◌, map, Option, Some, None, refl, sym, ap, subst, ◌∙◌, inl, inr, arith}
use Rattle.cw_table.specs.declared.table.Row.{Row}
use Rattle.cw_table.specs.Rows.{item_at}
use Rattle.cw_facts.specs.declared.fact.Fact.{Fact, Fact-F, map-Fact, roll-Fact}
use Rattle.cw_facts.specs.declared.fact.Fact.TheFolds.{fold-roll-Fact, ind-Fact}
use Rattle.cw_facts.specs.declared.fact.Fact.TheOpen as layer
use Rattle.cw_facts.specs.declared.fact.Declaration.{Declaration}
use Rattle.cw_facts.specs.declared.fact.Use.{Use}
use Rattle.cw_scope.specs.Scope.{Environment, declaration_of}
use Rattle.cw_scope.specs.NameRules.{Said, said, said_step, all_resolved, within, resolutions}
use Rattle.cw_sound.specs.Items.Derived.{IsRising, fact_tokens, facts_tokens, tokens_step, joined, declared_token}
use Rattle.cw_sound.proofs.Items.Lists.{In, from-in, not-below, Within, nothing, with, none-within, within-append}
use Rattle.cw_sound.proofs.Items.Numbering.{found-here, found-later}
use Rattle.cw_macro.specs.Premises.{Each}
use Rattle.cw_sound.proofs.Names.FactFolds.{RelatedLayer, each_related}

abbrev pub row_tokens : {T : Type 0} → List (Row T) → List ℕ
row_tokens rs = map (λ r. r.token) rs

tokens-of-both : (ls bs : List (Row ℕ)) → row_tokens (ls ++ bs) ≡ row_tokens ls ++ row_tokens bs
tokens-of-both [] bs = refl
tokens-of-both (r ∷ ls) bs = ap (λ ts. r.token ∷ ts) (tokens-of-both ls bs)

rows-within : (ls bs : List (Row ℕ)) (xs ys : List ℕ) → Within (row_tokens ls) xs → Within (row_tokens bs) ys → Within (row_tokens (ls ++ bs)) (xs ++ ys)
rows-within ls bs xs ys h k = subst (λ ts. Within ts (xs ++ ys)) (sym (tokens-of-both ls bs)) (within-append h k)

abbrev RowsOf : Said → List ℕ → Type 0
RowsOf s tokens = (env : Environment) → Within (row_tokens (s.resolved env)) tokens

abbrev FactRows : Fact → Type 0
FactRows f = RowsOf (said f) (fact_tokens f)

all-rows : (es : List ((f : Fact) × FactRows f)) (env : Environment) → Within (row_tokens (all_resolved env (map said (map (λ e. e.0) es)))) (joined (map fact_tokens (map (λ e. e.0) es)))
all-rows [] env = nothing
all-rows (e ∷ es) env = rows-within ((said e.0).resolved env) (all_resolved env (map said (map (λ x. x.0) es))) (fact_tokens e.0) (joined (map fact_tokens (map (λ x. x.0) es))) (e.1 env) (all-rows es env)

use-row : (o : Option Declaration) (u : Use) → Within (row_tokens (resolutions o u)) (u.name.at.token ∷ [])
use-row None u = none-within (u.name.at.token ∷ [])
use-row (Some d) u = with nothing

layer-rows : (y : Fact-F ((f : Fact) × FactRows f)) → RelatedLayer said_step tokens_step RowsOf (map-Fact ((f : Fact) × FactRows f) Fact (λ e. e.0) y)
layer-rows (layer.Declares d) env = none-within (declared_token d.kind d.name.at.token)
layer-rows (layer.Uses u) env = use-row (declaration_of env u.name.name) u
layer-rows (layer.Specifies token s) env = nothing
layer-rows (layer.Loop at) env = none-within (at.token ∷ [])
layer-rows (layer.Text at n) env = none-within (at.token ∷ [])
layer-rows (layer.Block owner es) env = all-rows es (within env (map said (map (λ e. e.0) es)))

fact-rows : (f : Fact) → FactRows f
fact-rows = each_related said_step tokens_step RowsOf layer-rows

pub facts-rows : (facts : List Fact) (env : Environment) → Within (row_tokens (all_resolved env (map said facts))) (facts_tokens facts)
facts-rows [] env = nothing
facts-rows (f ∷ fs) env = rows-within ((said f).resolved env) (all_resolved env (map said fs)) (fact_tokens f) (facts_tokens fs) (fact-rows f env) (facts-rows fs env)

-- ---- rows of rising tokens

row-token : (r : Row ℕ) (rs : List (Row ℕ)) → In r rs → In r.token (row_tokens rs)
row-token r [] i = absurd i
row-token r (q ∷ rs) (inl e) = inl (ap (λ (x : Row ℕ). x.token) e)
row-token r (q ∷ rs) (inr i) = inr (row-token r rs i)

found-row : (n : ℕ) (rs : List (Row ℕ)) (r : Row ℕ) → IsRising n (row_tokens rs) → In r rs → item_at rs r.token ≡ Some r.item
found-row n [] r h i = absurd i
found-row n (q ∷ rs) r h (inl e) = found-here q rs r.token (ap (λ (x : Row ℕ). x.token) e) ∙ ap (λ (x : Row ℕ). Some x.item) (sym e)
found-row n (q ∷ rs) r h (inr i) =
    let later : suc q.token ≤ r.token = not-below (suc q.token) (row_tokens rs) r.token h.1 (row-token r rs i) in
    found-later q rs r.token (λ e. absurd (omega (arith, e, later))) ∙ found-row (suc q.token) rs r h.1 i

pub each-found : (n : ℕ) (rs : List (Row ℕ)) → IsRising n (row_tokens rs) → Each (λ r. item_at rs r.token ≡ Some r.item) rs
each-found n rs h = from-in (λ r. item_at rs r.token ≡ Some r.item) rs (λ r i. found-row n rs r h i)
