-- Facts that are uses of names and strings alone.
use Rattle.cw_facts.specs.declared.fact.Fact.{Fact, Fact-F, out-Fact}
use Rattle.cw_facts.specs.declared.fact.Fact.TheOpen as layer

abbrev pub IsLeafLayer : Fact-F Fact → Type 0
IsLeafLayer (layer.Uses u) = Unit {0}
IsLeafLayer (layer.Text at n) = Unit {0}
IsLeafLayer _ = ⊥

abbrev pub IsLeaf : Fact → Type 0
IsLeaf f = IsLeafLayer (out-Fact f)
