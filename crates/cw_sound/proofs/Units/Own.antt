-- A named text is its own.
use Rattle.std.proofs.Common.{sym, subst}
use Rattle.std.specs.declared.result.Result.TheVariants.{Ok}
use Rattle.cw_tree.specs.declared.segment.Raw.{Raw}
use Rattle.cw_scope.specs.declared.resolve.Named.{Named}
use Rattle.cw_scope.specs.Outcome.{Resolves}
use Rattle.cw_sound.specs.Units.TreeFits.{TreeFits}

module _ (raw : Raw) (named : Named) (resolves : Resolves raw (Ok named)) where
  pub own_text : Resolves named.raw.now (Ok named)
  own_text = subst (λ (x : Raw). Resolves x (Ok named)) (sym resolves.1) resolves

  pub own_tree : TreeFits raw → TreeFits named.raw.now
  own_tree fits = subst TreeFits (sym resolves.1) fits
