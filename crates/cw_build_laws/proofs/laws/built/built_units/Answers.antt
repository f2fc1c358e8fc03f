use Rattle.cw_built.proofs.Units.{well-formed, built, layout, defined}
use Rattle.cw_build_laws.proofs.laws.built.built_units.Goals as goal

pub returns-clause-well_formed : goal.returns-clause-well_formed
returns-clause-well_formed c us m limits some passed agreed = well-formed us m limits passed agreed some

pub returns-clause-built : goal.returns-clause-built
returns-clause-built c us passed = c.tested.ensures us (built us passed)

pub returns-clause-layout : goal.returns-clause-layout
returns-clause-layout c = layout

pub returns-clause-defined : goal.returns-clause-defined
returns-clause-defined c = defined
