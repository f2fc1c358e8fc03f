use Rattle.cw_scale.proofs.scales.+best_within.Given as goal

abbrev pub decreases-best_within : goal.decreases-best_within
decreases-best_within l = l.scale
