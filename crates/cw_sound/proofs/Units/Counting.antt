-- The bodies of a text are those of its procedures by their numbers.
use Rattle.std.proofs.Common.{ℕ, suc, [], ◌∷◌, true, Some, None, sym, ap, ◌∙◌}
use Rattle.cw_table.specs.Rows.{item_at}
use Rattle.cw_scope.specs.declared.resolve.Named.{Named}
use Rattle.cw_make_items.specs.Lookup.{Numbers, proc_in}
use Rattle.cw_sound.specs.Names.Placed.{Placed}
use Rattle.cw_sound.specs.Names.Standing.{CountsOwn}
use Rattle.cw_sound.specs.Statements.Bodies.{Bodies, block_bodies}
use Rattle.cw_sound.specs.Statements.Counted.{Counted}
use Rattle.cw_sound.proofs.Units.Bodies.{BodyOf, block_has}
use Rattle.cw_sound.proofs.Units.Numbering.{At, From, from_start}

module _ (named : Named) (numbers : Numbers) (placed : Placed named.raw.now) (counts : CountsOwn named numbers) where
  numbered : (n : ℕ) (bs : Bodies) → From named numbers placed counts BodyOf n bs → Counted numbers n bs
  numbered n [] h = tt
  numbered n (b ∷ bs) h =
      let a : At named numbers placed counts BodyOf n b = h.0 in
      (ap (λ t. Some (proc_in (item_at numbers t))) (sym a.related) ∙ ap (λ o. Some (proc_in o)) a.number, numbered (suc n) bs h.1)

  pub bodies_counted : Counted numbers 0 (block_bodies named.raw.now.block)
  bodies_counted = numbered 0 (block_bodies named.raw.now.block) (from_start named numbers placed counts BodyOf (block_bodies named.raw.now.block) ((block_has named numbers named.raw.now.block true).zips None))
