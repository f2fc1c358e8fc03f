-- What each derived text has: tokens that rise from fact to fact, names that are not empty, and no procedure in another.
use Rattle.std.specs.Prelude.{◌≢◌, ℕ, suc, ◌≤◌, List, [], ◌∷◌, ◌++◌, map, All, Bool, true, false, not, ◌&&◌, IsTrue, Option, Some, None}
use Rattle.cw_table.specs.declared.table.Row.{Row}
use Rattle.cw_tree.specs.declared.segment.Raw.{Raw}
use Rattle.cw_facts.specs.declared.fact.Declaration.{Declaration}
use Rattle.cw_facts.specs.declared.fact.Fact.{Fact, Fact-F, fold-Fact}
use Rattle.cw_facts.specs.declared.fact.Fact.TheOpen as layer
use Rattle.cw_facts.specs.declared.fact.Kind.{Kind}
use Rattle.cw_facts.specs.declared.fact.Kind.TheVariants as kind
use Rattle.cw_facts.specs.Text.{text_facts}
use Rattle.cw_scope.specs.Text.{declarations_of}

-- ---- tokens

abbrev pub joined : List (List ℕ) → List ℕ
joined [] = []
joined (ts ∷ more) = ts ++ joined more

-- the answer of a procedure is declared at its type, which stands before the procedure's name
abbrev pub declared_token : Kind → (token : ℕ) → List ℕ
declared_token (kind.Answer t) token = []
declared_token _ token = token ∷ []

-- the tokens of names, strings and FORs
abbrev pub tokens_step : Fact-F (List ℕ) → List ℕ
tokens_step (layer.Declares d) = declared_token d.kind d.name.at.token
tokens_step (layer.Uses u) = u.name.at.token ∷ []
tokens_step (layer.Specifies token s) = []
tokens_step (layer.Loop at) = at.token ∷ []
tokens_step (layer.Text at n) = at.token ∷ []
tokens_step (layer.Block owner xs) = joined xs

abbrev pub fact_tokens : Fact → List ℕ
fact_tokens = fold-Fact (List ℕ) tokens_step

abbrev pub facts_tokens : List Fact → List ℕ
facts_tokens facts = joined (map fact_tokens facts)

-- numbers from a first one on, each above the one before it; tokens are numbered from 1, and there are at most 65,535
abbrev pub IsRising : (first : ℕ) → List ℕ → Type 0
IsRising first [] = first ≤ 65536
IsRising first (t ∷ ts) = (first ≤ t) × IsRising (suc t) ts

abbrev pub HasRisingTokens : Raw → Type 0
HasRisingTokens raw = IsRising 1 (facts_tokens (text_facts raw))

-- ---- names

abbrev pub IsNamed : Row Declaration → Type 0
IsNamed r = r.item.name.name ≢ []

abbrev pub HasNames : Raw → Type 0
HasNames raw = All IsNamed (declarations_of raw)

-- ---- procedures

-- by whether a fact stands in a procedure
abbrev pub Plain : Type 0
Plain = (inside : Bool) → Bool

abbrev pub all_plain : List Plain → Plain
all_plain [] inside = true
all_plain (x ∷ xs) inside = x inside && all_plain xs inside

-- a procedure stands in no other
abbrev pub plain_within : (owner : Option ℕ) → Plain → Plain
plain_within None x inside = x inside
plain_within (Some token) x inside = not inside && x true

abbrev pub plain_step : Fact-F Plain → Plain
plain_step (layer.Declares d) inside = true
plain_step (layer.Uses u) inside = true
plain_step (layer.Specifies token s) inside = true
plain_step (layer.Loop at) inside = true
plain_step (layer.Text at n) inside = true
plain_step (layer.Block owner xs) inside = plain_within owner (all_plain xs) inside

abbrev pub is_plain : Fact → Plain
is_plain = fold-Fact Plain plain_step

abbrev pub HasPlainProcedures : Raw → Type 0
HasPlainProcedures raw = IsTrue (all_plain (map is_plain (text_facts raw)) false)
