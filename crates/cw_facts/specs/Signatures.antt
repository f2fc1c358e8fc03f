-- What procedures are specified as: their parameters one by one.
use Rattle.std.specs.Prelude.{List, [], ◌∷◌, ◌++◌}
use Rattle.cw_tree.specs.declared.leaf.RawName.{RawName}
use Rattle.cw_tree.specs.declared.segment.RawIps.{RawIps}
use Rattle.cw_tree.specs.declared.segment.RawIps.TheVariants as inner
use Rattle.cw_tree.specs.declared.segment.RawPs.{RawPs}
use Rattle.cw_tree.specs.declared.segment.RawPs.TheVariants as ps
use Rattle.cw_tree.specs.declared.statement.RawParam.{RawParam}
use Rattle.cw_tree.specs.declared.statement.RawParam.TheVariants as param

abbrev pub plain : List RawIps → List RawPs
plain [] = []
plain (p ∷ rest) = ps.Plain p ∷ plain rest

-- one for each of some names
abbrev pub same_for : RawIps → List RawName → List RawPs
same_for p [] = []
same_for p (n ∷ ns) = ps.Plain p ∷ same_for p ns

abbrev pub flat : RawParam → List RawPs
flat (param.Value at t ns) = same_for (inner.Value at t) ns
flat (param.Location at t ns) = same_for (inner.Location at t) ns
flat (param.Array t ns) = same_for (inner.Array t) ns
flat (param.Table t) = ps.Plain (inner.Table t.at t.size) ∷ []
flat (param.Label at ns) = same_for (inner.Label at) ns
flat (param.Switch at ns) = same_for (inner.Switch at) ns
flat (param.Proc answer at n params) = ps.Proc answer at params ∷ []

abbrev pub flattened : List RawParam → List RawPs
flattened [] = []
flattened (p ∷ rest) = flat p ++ flattened rest
