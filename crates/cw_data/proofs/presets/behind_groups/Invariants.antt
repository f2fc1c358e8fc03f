use Rattle.std.proofs.Common.{◌≡◌, drop}
use Rattle.cw_data.specs.Presets.{behind_groups}
use Rattle.cw_data.proofs.presets.behind_groups.Given as goal

abbrev pub invariant-loop-group : goal.invariant-loop-group
invariant-loop-group l = behind_groups (drop l.group-index l.groups) l.rest ≡ behind_groups l.groups l.places
