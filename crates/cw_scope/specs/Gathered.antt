-- What is kept of the facts of a tree.
use Rattle.std.specs.Prelude.{◌≡◌, List}
use Rattle.std.specs.Coded.{Coded, Coded-set, prop_coded}
use Rattle.cw_tree.specs.declared.segment.Raw.{Raw}
use Rattle.cw_facts.specs.declared.fact.Fact.{Fact}
use Rattle.cw_facts.specs.Text.{text_facts}

-- the facts are those of the tree; only proofs about them open this
unfoldable pub Gathers : List Fact → Raw → Type 0
Gathers facts raw = facts ≡ text_facts raw

pub Gathers-prop : Coded (List Fact) → (facts : List Fact) (raw : Raw) → IsProp (Gathers facts raw)
unfolding Gathers
Gathers-prop code facts raw = Coded-set code facts (text_facts raw)

pub Gathers-coded : Coded (List Fact) → (facts : List Fact) (raw : Raw) → Coded (Gathers facts raw)
Gathers-coded code facts raw = prop_coded (Gathers-prop code facts raw)
