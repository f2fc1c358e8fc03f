-- What the texts say about names, written out.
use Rattle.std.proofs.Common.{ℕ, Bool, true, false, List, [], ◌∷◌, ◌++◌, None, codes}
use Rattle.cw_tree.specs.declared.segment.RawIps.TheVariants as ips_tree
use Rattle.cw_tree.specs.declared.segment.RawPs.TheVariants as ps_tree
use Rattle.cw_facts.specs.declared.fact.Fact.{Fact}
use Rattle.cw_facts.specs.declared.fact.Fact.TheVariants as fact
use Rattle.cw_facts.specs.declared.fact.Kind.TheVariants as kind
use Rattle.cw_facts.specs.declared.fact.Form.{Form}
use Rattle.cw_facts.specs.declared.fact.Form.TheVariants as form
use Rattle.cw_facts.specs.declared.fact.Reading.TheVariants as reading
use Rattle.cw_facts.specs.declared.fact.Declaration.{Declaration}
use Rattle.cw_facts.specs.declared.fact.Signature.{Signature}
use Rattle.cw_big_units.proofs.TreeText.{at, name, integer, bound}

-- ---- parts

abbrev pub uses : (line token : ℕ) → List ℕ → Form → Fact
uses line token text f = fact.Uses (record { name = name line token text; form = f })

abbrev pub reads : (line token : ℕ) → List ℕ → Fact
reads line token text = uses line token text (form.Reference reading.Value 0)

abbrev pub reads_element : (line token : ℕ) → List ℕ → Fact
reads_element line token text = uses line token text (form.Reference reading.Value 1)

abbrev pub counts : (line token : ℕ) → List ℕ → Fact
counts line token text = uses line token text (form.Reference reading.Whole 0)

abbrev pub calls : (line token : ℕ) → List ℕ → Fact
calls line token text = uses line token text form.Call

-- ---- the texts

abbrev pub total : Declaration
total = record { name = name 1 4 (codes "TOTAL"); kind = kind.Single (integer 1 3) }

abbrev pub write_byte : Declaration
write_byte = record { name = name 2 10 (codes "WRITEBYTE"); kind = kind.WriteByte }

abbrev pub write_byte_takes : Signature
write_byte_takes = record { answer = None; params = ps_tree.Plain (ips_tree.Value (at 2 12) (integer 2 13)) ∷ [] }

abbrev pub counter : Declaration
counter = record { name = name 5 21 (codes "J"); kind = kind.Single (integer 5 20) }

abbrev pub cells : Declaration
cells = record { name = name 6 25 (codes "A"); kind = kind.Array (integer 6 23) (record { first = record { lower = bound 6 27 0; upper = bound 6 29 99 }; second = None }) }

abbrev pub communicated : List Fact
communicated = fact.Declares total ∷ fact.Declares write_byte ∷ fact.Specifies 10 write_byte_takes ∷ []

abbrev pub last_facts : Bool → List Fact
last_facts false = []
last_facts true =
    calls 9 72 (codes "WRITEBYTE")
    ∷ reads 9 76 (codes "TOTAL")
    ∷ calls 10 81 (codes "WRITEBYTE")
    ∷ reads 10 85 (codes "TOTAL")
    ∷ reads 10 92 (codes "TOTAL")
    ∷ calls 11 98 (codes "WRITEBYTE")
    ∷ reads 11 102 (codes "TOTAL")
    ∷ reads 11 109 (codes "TOTAL")
    ∷ calls 12 115 (codes "WRITEBYTE")
    ∷ reads 12 119 (codes "TOTAL")
    ∷ reads 12 124 (codes "TOTAL")
    ∷ calls 13 130 (codes "WRITEBYTE")
    ∷ []

abbrev pub inner_facts : Bool → List Fact
inner_facts is_last =
    fact.Declares counter
    ∷ fact.Declares cells
    ∷ fact.Loop (at 7 32)
    ∷ counts 7 33 (codes "J")
    ∷ uses 7 41 (codes "A") (form.Reference reading.Target 1)
    ∷ reads 7 43 (codes "J")
    ∷ reads 7 46 (codes "J")
    ∷ fact.Loop (at 8 50)
    ∷ counts 8 51 (codes "J")
    ∷ uses 8 59 (codes "TOTAL") (form.Reference reading.Target 0)
    ∷ reads 8 62 (codes "TOTAL")
    ∷ reads_element 8 64 (codes "A")
    ∷ reads 8 66 (codes "J")
    ∷ last_facts is_last

abbrev pub facts_text : Bool → List Fact
facts_text is_last = communicated ++ fact.Block None (inner_facts is_last) ∷ []
