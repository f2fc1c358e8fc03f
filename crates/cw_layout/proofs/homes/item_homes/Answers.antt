use Rattle.std.proofs.Common.{◌≡◌, ℕ, List, length, get_or, Some, None, refl, ap, ◌∙◌, arith, rules}
use Rattle.cw_unit.specs.Storage.{base_of_home}
use Rattle.cw_layout.proofs.Passes.{IsAt, roots_few, roots_more}
use Rattle.cw_layout.proofs.Tables.{ends_within, base_place, base_within, next_by_base, next_by_root}
use Rattle.cw_layout.proofs.homes.item_homes.Goals as goal
use Rattle.cw_layout.proofs.homes.item_homes.Goals.{in-Some+in_ok-push-in-Some, in-None+in_ok-push-in-None}

pub bounds-as_slice-under : goal.bounds-as_slice-under
bounds-as_slice-under c = base_within c.args.unit.now c.loop-n.n c.index-items-n.result (c.in-Some.under, c.in-Some.offset) _ c.requires (record { within = search rules; read = search rules }) (search rules) (c.as_slice-in-Some.ensures ∙ c.loop-n.invariant.homes)

pub bounds-as_slice-under-in-Some : goal.bounds-as_slice-under-in-Some
bounds-as_slice-under-in-Some c = base_within c.args.unit.now c.loop-n.n c.index-items-n.result (c.in-Some.under, c.in-Some.offset) _ c.requires (record { within = search rules; read = search rules }) (search rules) (c.as_slice-in-Some.ensures ∙ c.loop-n.invariant.homes)

pub overflow_add-place : goal.overflow_add-place
overflow_add-place c =
    let u = c.args.unit.now in
    let i = c.index-items-n.result in
    let at : IsAt u c.loop-n.n i = record { within = search rules; read = search rules } in
    let based : base_of_home u i.home ≡ Some (c.in-Some.under, c.in-Some.offset) = search rules in
    let place = base_place u c.loop-n.n i _ c.requires at based in
    let end = ends_within u c.loop-n.n i c.requires at in
    let read = ap (λ (hs : List (ℕ × ℕ)). (get_or hs c.in-Some.under (0, 0)).1) (c.as_slice-in-Some.ensures ∙ c.loop-n.invariant.homes) ∙ ap (λ (p : ℕ × ℕ). p.1) (place.read (0, 0)) in
    let offset = place.offset in
    omega (arith, read, offset, end)

pub overflow_cast-roots : goal.overflow_cast-roots
overflow_cast-roots c = omega (arith, roots_few c.args.unit.now c.loop-n.n c.args.unit.now.items, ap length c.as_slice-items.ensures, c.loop-n.invariant.roots, c.requires.item_count, c.loop-n-test.true)

pub overflow_add-roots : goal.overflow_add-roots
overflow_add-roots c = omega (arith, roots_few c.args.unit.now c.loop-n.n c.args.unit.now.items, ap length c.as_slice-items.ensures, c.loop-n.invariant.roots, c.requires.item_count, c.loop-n-test.true)

pub loop-n-preserved : goal.loop-n-preserved
loop-n-preserved c =
    let u = c.args.unit.now in
    let i = c.index-items-n.result in
    let at : IsAt u c.loop-n.n i = record { within = search rules; read = search rules } in
    elim c.match-base.branch [
      | in-Some+in_ok-push-in-Some w ↦
          (let based : base_of_home u i.home ≡ Some (w.in-Some.under, w.in-Some.offset) = search rules in
          record {
            homes = w.homes-is ∙ next_by_base u c.loop-n.n i (w.in-Some.under, w.in-Some.offset) c.loop-n.homes _ c.requires at based c.loop-n.invariant.homes (search rules);
            roots = roots_more u c.loop-n.n i _ 0 _ _ at based refl c.loop-n.invariant.roots (omega (arith, w.roots-is));
          })
      | in-None+in_ok-push-in-None w ↦
          (let based : base_of_home u i.home ≡ None = search rules in
          record {
            homes = w.homes-is ∙ next_by_root u c.loop-n.n i c.loop-n.roots c.loop-n.homes _ at based c.loop-n.invariant.homes c.loop-n.invariant.roots (search rules);
            roots = roots_more u c.loop-n.n i _ 1 _ _ at based refl c.loop-n.invariant.roots (omega (arith, w.roots-is));
          })
    ]
