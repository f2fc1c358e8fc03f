use Rattle.std.proofs.Common.{◌≡◌, ℕ, List, Ok, rules, sym, ap, ◌∙◌, subst}
use Rattle.cw_tree.specs.declared.segment.Raw.{Raw}
use Rattle.cw_scope.specs.declared.resolve.Named.{Named}
use Rattle.cw_scope.specs.Outcome.{Resolves}
use Rattle.cw_compile.specs.Texts.{HasTree, HasNames}
use Rattle.cw_compile.proofs.making.stored.Goals as goal

names_of : (text : List ℕ) (raw : Raw) (named : Named) → Resolves raw (Ok named) → HasTree text raw → HasNames text named
names_of text raw named resolves h =
    let same : raw ≡ named.raw.now = sym resolves.1 in
    let R : Raw → Type 0 = λ r. Resolves r (Ok named) in
    record { tree = subst (HasTree text) same h; resolves = subst R same resolves }

pub returns-in-Ok-new-clause-named : goal.returns-in-Ok-new-clause-named
returns-in-Ok-new-clause-named c = λ text h. subst (HasNames text) (sym c.in-Ok-new.ensures) (names_of text c.args.raw.now c.in-Ok.named c.in-Ok.ensures h)

pub returns-in-Ok-new-clause-tree : goal.returns-in-Ok-new-clause-tree
returns-in-Ok-new-clause-tree c = ap (λ (n : Named). n.raw.now) c.in-Ok-new.ensures ∙ c.in-Ok.ensures.1

pub returns-in-Err : goal.returns-in-Err
returns-in-Err c = record {
  named = λ text h. tt;
  tree = tt;
  fault = λ text h. (c.args.raw.now, h, c.in-Err.ensures, search rules);
}
