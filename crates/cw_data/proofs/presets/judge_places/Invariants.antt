use Rattle.std.proofs.Common.{◌≡◌, drop}
use Rattle.cw_data.specs.Presets.{places_judged}
use Rattle.cw_data.proofs.presets.judge_places.Given as goal

abbrev pub invariant-loop-place : goal.invariant-loop-place
invariant-loop-place l = places_judged l.scale (drop l.place-index l.places) l.first ≡ places_judged l.scale l.places l.initial.first
