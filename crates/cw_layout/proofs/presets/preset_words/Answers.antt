use Rattle.std.proofs.Common.{◌≡◌, ℕ, ◌++◌, map, length, get_or, take, sym, ap, ap₂, ◌∙◌, arith, rules}
use Rattle.cw_unit.specs.Storage.{presets_from}
use Rattle.cw_layout.specs.Tables.{preset_in}
use Rattle.cw_layout.proofs.Passes.{IsAt, home_read, homes_length, presets_next}
use Rattle.cw_layout.proofs.Tables.{preset_room}
use Rattle.cw_layout.proofs.presets.preset_words.Goals as goal

pub bounds-homes-n : goal.bounds-homes-n
bounds-homes-n c = omega (arith, ap length c.as_slice-items.ensures, homes_length c.args.unit.now c.args.homes.now c.requires.homes, c.loop-n-test.true)

pub add_presets-requires : goal.add_presets-requires
add_presets-requires c =
    let u = c.args.unit.now in
    let i = c.index-items-n.result in
    let at : IsAt u c.loop-n.n i = record { within = search rules; read = search rules } in
    let presets : c.as_slice.result.now ≡ i.presets = search rules in
    let place = ap (λ (p : ℕ × ℕ). p.1) (home_read u c.loop-n.n c.args.homes.now at.within c.requires.homes) in
    rw presets (preset_room u c.requires.unit c.loop-n.n i _ at place)

pub loop-n-preserved : goal.loop-n-preserved
loop-n-preserved c =
    let u = c.args.unit.now in
    let i = c.index-items-n.result in
    let at : IsAt u c.loop-n.n i = record { within = search rules; read = search rules } in
    let presets : c.as_slice.result.now ≡ i.presets = search rules in
    let this = home_read u c.loop-n.n c.args.homes.now at.within c.requires.homes in
    c.in_ok-add_presets.ensures ∙ ap₂ (λ ws ps. ws ++ map (preset_in (get_or c.args.homes.now c.loop-n.n (0, 0))) ps) c.loop-n.invariant presets
    ∙ ap (λ p. presets_from 0 u (take c.loop-n.n u.items) ++ map (preset_in p) i.presets) this ∙ sym (presets_next u c.loop-n.n i at)
