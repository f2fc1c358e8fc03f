-- What has words, in the facts of a text, each in the body where it stands.
use Rattle.std.specs.Prelude.{◌≡◌, ℕ, List, [], ◌∷◌, ◌++◌, map, Bool, true, false, Option, Some, None}
use Rattle.cw_facts.specs.declared.fact.Fact.{Fact, Fact-F, fold-Fact}
use Rattle.cw_facts.specs.declared.fact.Fact.TheOpen as layer
use Rattle.cw_facts.specs.declared.fact.Kind.{Kind}
use Rattle.cw_facts.specs.declared.fact.Kind.TheVariants as kind
use Rattle.cw_make_items.specs.Lookup.{Numbers, proc_here}
use Rattle.cw_make.specs.Labels.{proc_within}
pub use Rattle.cw_sound.specs.Names.Standing.{is_other}

-- the bodies that may name what stands in a frame: that of its procedure, and where it stands in none, each
abbrev pub MayName : Numbers → (who frame : Option ℕ) → Type 0
MayName numbers who None = Unit {0}
MayName numbers who (Some f) = who ≡ Some (proc_here numbers f)

-- what is stored at a token has so many words, and a body names it
pub record Stored : Type 0 where
  pub who : Option ℕ
  pub token : ℕ
  pub words : ℕ

abbrev pub stored_at : (who : Option ℕ) → (token words : ℕ) → Stored
stored_at who token words = record { who = who; token = token; words = words }

-- by the procedure around them
abbrev pub AllStored : Type 0
AllStored = (who : Option ℕ) → List Stored

abbrev pub joined : List AllStored → AllStored
joined [] who = []
joined (x ∷ xs) who = x who ++ joined xs who

-- each item has a word
abbrev pub declared_stored : Kind → (token : ℕ) → AllStored
declared_stored (kind.Single t) token who = stored_at who token 1 ∷ []
declared_stored (kind.Array t b) token who = stored_at who token 1 ∷ []
declared_stored (kind.Table s) token who = stored_at who token 1 ∷ []
declared_stored (kind.Value t) token who = stored_at who token 1 ∷ []
declared_stored (kind.Location t) token who = stored_at who token 1 ∷ []
declared_stored (kind.ArrayParam t) token who = stored_at who token 1 ∷ []
declared_stored (kind.TableParam s) token who = stored_at who token 1 ∷ []
declared_stored _ token who = []

module _ (numbers : Numbers) where
  abbrev pub stored_step : Fact-F AllStored → AllStored
  stored_step (layer.Declares d) who = declared_stored d.kind d.name.at.token who
  stored_step (layer.Uses u) who = []
  stored_step (layer.Specifies token s) who = []
  stored_step (layer.Loop at) who = stored_at who at.token 4 ∷ []
  stored_step (layer.Text at n) who = stored_at who at.token 1 ∷ []
  stored_step (layer.Block owner xs) who = joined xs (proc_within numbers owner who)

  abbrev pub fact_stored : Fact → AllStored
  fact_stored = fold-Fact AllStored stored_step

  abbrev pub facts_stored : List Fact → AllStored
  facts_stored facts who = joined (map fact_stored facts) who
