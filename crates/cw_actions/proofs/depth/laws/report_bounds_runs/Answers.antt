-- What links is built and agrees, and the calls of the units of texts fit.
use Rattle.std.proofs.Common.{◌≢◌, ℕ, ◌<◌, List, [], ◌∷◌, length, All, IsTrue, subst, arith}
use Rattle.cw_depth.specs.declared.depth_report.Report.TheVariants.{Bound, Unbounded}
use Rattle.std.proofs.lemmas.List.Elements.{All-nil, All-cons}
use Rattle.cw_unit.specs.declared.unit.Unit.{Unit as SourceUnit}
use Rattle.cw_comm.specs.Clashes.{Agree}
use Rattle.cw_built.specs.Built.{is_built}
use Rattle.cw_build.specs.Compiled.{IsCompilable}
use Rattle.cw_build_laws.proofs.Images.Faces.{faces-same}
use Rattle.cw_compile.specs.Texts.{IsUnitOf}
use Rattle.cw_deepest.specs.Linked.UnitFits.{UnitFits}
use Rattle.cw_files.specs.Reading.{HaveValues}
use Rattle.cw_files.specs.Texts.{HasUnit}
use Rattle.cw_actions.proofs.depth.laws.report_bounds_runs.Goals as goal

all_built : ((text : List ℕ) (u : SourceUnit) → All (λ b. b < 256) text → IsUnitOf text u → IsCompilable u) → (texts : List (List ℕ)) (us : List SourceUnit) → HaveValues HasUnit texts us → All (λ u. IsTrue (is_built u)) us
all_built one texts [] have = All-nil (λ u. IsTrue (is_built u))
all_built one [] (u ∷ us) have = absurd have
all_built one (text ∷ texts) (u ∷ us) have = All-cons (λ v. IsTrue (is_built v)) u us (one text u have.0.bytes have.0.is_unit).built (all_built one texts us have.1)

all_fit : ((text : List ℕ) (u : SourceUnit) → IsUnitOf text u → UnitFits u) → (texts : List (List ℕ)) (us : List SourceUnit) → HaveValues HasUnit texts us → All UnitFits us
all_fit one texts [] have = All-nil UnitFits
all_fit one [] (u ∷ us) have = absurd have
all_fit one (text ∷ texts) (u ∷ us) have = All-cons UnitFits u us (one text u have.0.is_unit) (all_fit one texts us have.1)

some_units : (us : List SourceUnit) → 0 < length us → us ≢ []
some_units [] some = absurd (omega (arith, some))
some_units (u ∷ us) some = λ e. absurd (cc e)

pub returns : goal.returns
returns c texts units (Bound chain) some have told = λ limits input m segment line links low.
    c.no_depth_stop.ensures units limits chain input m segment line (some_units units some) (all_built c.text_units.ensures texts units have) (subst Agree (faces-same units) links.words.agree)
    (all_fit c.units_fit.ensures texts units have) told low
returns c texts units (Unbounded segment number) some have told = tt
