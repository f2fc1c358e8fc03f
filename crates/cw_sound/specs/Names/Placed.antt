-- What is used of where the parts of a text stand among its tokens. Each tree of the grammar is so.
use Rattle.std.specs.Prelude.{◌≢◌, ℕ, ◌<◌, ◌≤◌, List, [], ◌∷◌, ◌++◌, length, map, Bool, true, false, ◌&&◌, not, IsTrue, Option, Some, None}
use Rattle.cw_table.specs.declared.table.Row.{Row}
use Rattle.cw_tree.specs.declared.segment.Raw.{Raw}
use Rattle.cw_facts.specs.declared.fact.Declaration.{Declaration}
use Rattle.cw_facts.specs.declared.fact.Fact.{Fact, Fact-F, fold-Fact}
use Rattle.cw_facts.specs.declared.fact.Fact.TheOpen as layer
use Rattle.cw_facts.specs.Facts.{block_facts}
use Rattle.cw_facts.specs.Text.{communicators_facts, text_facts}
use Rattle.cw_scope.specs.Resolved.{text_declarations, text_signatures}
use Rattle.cw_number.specs.Numbers.{begin_of}
use Rattle.cw_sound.specs.Uses.Mentions.{In}

-- ---- tokens

abbrev pub tokens : {T : Type 0} → List (Row T) → List ℕ
tokens [] = []
tokens (r ∷ rs) = r.token ∷ tokens rs

abbrev pub Each : (ℕ → Type 0) → List ℕ → Type 0
Each P [] = Unit {0}
Each P (t ∷ ts) = P t × Each P ts

-- no two are the same
abbrev pub Differ : List ℕ → Type 0
Differ [] = Unit {0}
Differ (t ∷ ts) = Each (λ s. t ≢ s) ts × Differ ts

-- ---- names that are used

abbrev pub all_tokens : List (List ℕ) → List ℕ
all_tokens [] = []
all_tokens (ts ∷ more) = ts ++ all_tokens more

abbrev pub used_step : Fact-F (List ℕ) → List ℕ
used_step (layer.Declares d) = []
used_step (layer.Uses x) = x.name.at.token ∷ []
used_step (layer.Specifies token s) = []
used_step (layer.Loop at) = []
used_step (layer.Text at n) = []
used_step (layer.Block owner xs) = all_tokens xs

abbrev pub fact_used : Fact → List ℕ
fact_used = fold-Fact (List ℕ) used_step

abbrev pub text_used : List Fact → List ℕ
text_used facts = all_tokens (map fact_used facts)

-- ---- procedures stand in no procedure

abbrev pub all_so : List (Bool → Bool) → Bool → Bool
all_so [] inside = true
all_so (x ∷ xs) inside = x inside && all_so xs inside

abbrev pub apart_step : Fact-F (Bool → Bool) → (inside : Bool) → Bool
apart_step (layer.Block None xs) inside = all_so xs inside
apart_step (layer.Block (Some token) xs) inside = not inside && all_so xs true
apart_step _ inside = true

abbrev pub fact_apart : Fact → (inside : Bool) → Bool
fact_apart = fold-Fact (Bool → Bool) apart_step

abbrev pub facts_apart : List Fact → (inside : Bool) → Bool
facts_apart facts inside = all_so (map fact_apart facts) inside

-- ---- the text

pub record Placed (raw : Raw) : Type 0 where
  -- no two names that are declared stand at one token, nor two that are used, nor two specifications
  pub declarations : Differ (tokens (text_declarations (text_facts raw)))
  pub uses : Differ (text_used (text_facts raw))
  pub signatures : Differ (tokens (text_signatures (text_facts raw)))
  -- the communicators stand before the outermost block
  pub listed : Each (λ t. t < begin_of raw) (tokens (text_declarations (communicators_facts raw.comms)))
  pub own : Each (λ t. begin_of raw ≤ t) (tokens (text_declarations (block_facts raw.block true)))
  -- a name has characters
  pub names : (r : Row Declaration) → In r (text_declarations (communicators_facts raw.comms)) → r.item.name.name ≢ []
  -- the number of a procedure is a word
  pub few : length (text_declarations (text_facts raw)) < 65536
  pub apart : IsTrue (facts_apart (text_facts raw) false)
