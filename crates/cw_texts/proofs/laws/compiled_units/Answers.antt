use Rattle.std.proofs.Common.{ℕ, List, [], ◌∷◌}
use Rattle.std.specs.Prelude.{All}
use Rattle.std.proofs.lemmas.List.Elements.{All-nil, All-cons}
use Rattle.cw_unit.specs.declared.unit.Unit.{Unit as SourceUnit}
use Rattle.cw_build.specs.Compiled.{IsCompilable}
use Rattle.cw_files.specs.Texts.{HasUnit}
use Rattle.cw_files.specs.Reading.{HaveValues}
use Rattle.cw_texts.proofs.laws.compiled_units.Goals as goal

all_compilable : ((text : List ℕ) (u : SourceUnit) → HasUnit text u → IsCompilable u) → (texts : List (List ℕ)) (us : List SourceUnit) → HaveValues HasUnit texts us → All IsCompilable us
all_compilable one texts [] have = All-nil IsCompilable
all_compilable one [] (u ∷ us) have = absurd have
all_compilable one (text ∷ texts) (u ∷ us) have = All-cons IsCompilable u us (one text u have.0) (all_compilable one texts us have.1)

pub returns : goal.returns
returns c = all_compilable (λ text u has. c.text_units.ensures text u has.bytes has.is_unit)
