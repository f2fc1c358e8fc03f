-- What is kept of the names of a text: each declaration, and each procedure's specification, with its name's token.
use Rattle.std.specs.Prelude.{List, [], ◌∷◌, ◌++◌, map}
use Rattle.cw_table.specs.declared.table.Row.{Row}
use Rattle.cw_facts.specs.declared.fact.Fact.{Fact, Fact-F, fold-Fact}
use Rattle.cw_facts.specs.declared.fact.Fact.TheOpen as layer
use Rattle.cw_facts.specs.declared.fact.Declaration.{Declaration}
use Rattle.cw_facts.specs.declared.fact.Signature.{Signature}

abbrev pub all_rows : {T : Type 0} → List (List (Row T)) → List (Row T)
all_rows [] = []
all_rows (rs ∷ more) = rs ++ all_rows more

abbrev pub declarations_step : Fact-F (List (Row Declaration)) → List (Row Declaration)
declarations_step (layer.Declares d) = record { token = d.name.at.token; item = d } ∷ []
declarations_step (layer.Uses u) = []
declarations_step (layer.Specifies token s) = []
declarations_step (layer.Loop at) = []
declarations_step (layer.Text at n) = []
declarations_step (layer.Block owner xs) = all_rows xs

abbrev pub fact_declarations : Fact → List (Row Declaration)
fact_declarations = fold-Fact (List (Row Declaration)) declarations_step

abbrev pub text_declarations : List Fact → List (Row Declaration)
text_declarations facts = all_rows (map fact_declarations facts)

abbrev pub signatures_step : Fact-F (List (Row Signature)) → List (Row Signature)
signatures_step (layer.Declares d) = []
signatures_step (layer.Uses u) = []
signatures_step (layer.Specifies token s) = record { token = token; item = s } ∷ []
signatures_step (layer.Loop at) = []
signatures_step (layer.Text at n) = []
signatures_step (layer.Block owner xs) = all_rows xs

abbrev pub fact_signatures : Fact → List (Row Signature)
fact_signatures = fold-Fact (List (Row Signature)) signatures_step

abbrev pub text_signatures : List Fact → List (Row Signature)
text_signatures facts = all_rows (map fact_signatures facts)
