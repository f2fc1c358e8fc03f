-- What a text mentions, each with the procedure of the unit in whose body it stands: declarations, uses of names, and what has words and no name.
use Rattle.std.specs.Prelude.{◌≡◌, ◌⊎◌, ℕ, List, [], ◌∷◌, ◌++◌, map, true, Option, Some, None}
use Rattle.cw_tree.specs.declared.segment.Raw.{Raw}
use Rattle.cw_facts.specs.declared.fact.Fact.{Fact, Fact-F, fold-Fact}
use Rattle.cw_facts.specs.declared.fact.Fact.TheOpen as layer
use Rattle.cw_facts.specs.declared.fact.Declaration.{Declaration}
use Rattle.cw_facts.specs.declared.fact.Use.{Use}
use Rattle.cw_facts.specs.Facts.{block_facts}
use Rattle.cw_facts.specs.Text.{communicators_facts, text_facts}
use Rattle.cw_make_expr.specs.Parts.{Numbers}
use Rattle.cw_make.specs.Labels.{proc_within}

-- an element of a list
abbrev pub In : {X : Type 0} → X → List X → Type 0
In x [] = ⊥
In x (y ∷ ys) = (y ≡ x) ⊎ In x ys

pub data Mention : Type 0 where
  declares : Declaration → Mention
  uses : Use → Mention
  stores : (token words : ℕ) → Mention

pub record Here : Type 0 where
  pub who : Option ℕ
  pub mention : Mention

abbrev pub here : Option ℕ → Mention → Here
here q m = record { who = q; mention = m }

-- by the procedure around them
abbrev pub Mentions : Type 0
Mentions = (proc : Option ℕ) → List Here

abbrev pub joined : List Mentions → Mentions
joined [] q = []
joined (x ∷ xs) q = x q ++ joined xs q

module _ (numbers : Numbers) where
  -- a string has one word that is named, its address, and a FOR four
  abbrev pub mentions_step : Fact-F Mentions → Mentions
  mentions_step (layer.Declares d) q = here q (declares d) ∷ []
  mentions_step (layer.Uses x) q = here q (uses x) ∷ []
  mentions_step (layer.Specifies token s) q = []
  mentions_step (layer.Loop at) q = here q (stores at.token 4) ∷ []
  mentions_step (layer.Text at n) q = here q (stores at.token 1) ∷ []
  mentions_step (layer.Block owner xs) q = joined xs (proc_within numbers owner q)

  abbrev pub fact_mentions : Fact → Mentions
  fact_mentions = fold-Fact Mentions mentions_step

  abbrev pub facts_mentions : List Fact → Mentions
  facts_mentions facts q = joined (map fact_mentions facts) q

  -- of the communicators, of the outermost block, and of the text
  abbrev pub listed_mentions : Raw → List Here
  listed_mentions raw = facts_mentions (communicators_facts raw.comms) None

  abbrev pub block_mentions : Raw → List Here
  block_mentions raw = facts_mentions (block_facts raw.block true) None

  abbrev pub text_mentions : Raw → List Here
  text_mentions raw = facts_mentions (text_facts raw) None
