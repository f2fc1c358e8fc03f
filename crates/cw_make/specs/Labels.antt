-- The labels that a text sets, in order of the text, each with the procedure in whose body it stands.
-- Official Definition of CORAL 66, "Labels"; BS 5905, "Labels".
use Rattle.std.specs.Prelude.{ℕ, List, [], ◌∷◌, ◌++◌, map, true, Option, Some, None}
use Rattle.cw_tree.specs.declared.segment.Raw.{Raw}
use Rattle.cw_facts.specs.declared.fact.Declaration.{Declaration}
use Rattle.cw_facts.specs.declared.fact.Kind.{Kind}
use Rattle.cw_facts.specs.declared.fact.Kind.TheVariants as kind
use Rattle.cw_facts.specs.declared.fact.Fact.{Fact, Fact-F, fold-Fact}
use Rattle.cw_facts.specs.declared.fact.Fact.TheOpen as layer
use Rattle.cw_facts.specs.Facts.{block_facts}
use Rattle.cw_unit.specs.declared.unit.Label.{Label}
use Rattle.cw_make_items.specs.Lookup.{Numbers, proc_here, line_of}

-- by the procedure around them
abbrev pub Labels : Type 0
Labels = (proc : Option ℕ) → List Label

abbrev pub joined : List Labels → Labels
joined [] q = []
joined (x ∷ xs) q = x q ++ joined xs q

abbrev pub declared_label : Kind → (line : ℕ) → Labels
declared_label kind.Label line q = record { proc = q; line = line } ∷ []
declared_label _ line q = []

module _ (numbers : Numbers) where
  -- the body of a procedure has the token of its name
  abbrev pub proc_within : (owner : Option ℕ) → (proc : Option ℕ) → Option ℕ
  proc_within None q = q
  proc_within (Some token) q = Some (proc_here numbers token)

  abbrev pub labels_step : Fact-F Labels → Labels
  labels_step (layer.Declares d) q = declared_label d.kind (line_of d.name.at) q
  labels_step (layer.Uses u) q = []
  labels_step (layer.Specifies token s) q = []
  labels_step (layer.Loop at) q = []
  labels_step (layer.Text at n) q = []
  labels_step (layer.Block owner xs) q = joined xs (proc_within owner q)

  abbrev pub fact_labels : Fact → Labels
  fact_labels = fold-Fact Labels labels_step

  abbrev pub facts_labels : List Fact → Labels
  facts_labels facts q = joined (map fact_labels facts) q

  abbrev pub labels_of : Raw → List Label
  labels_of raw = facts_labels (block_facts raw.block true) None
