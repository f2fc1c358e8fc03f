use Rattle.std.proofs.Common.{◌≡◌, ℕ, ◌+◌, ◌<◌, length, get_or, set, ap, ◌∙◌, arith, rules}
use Rattle.std.proofs.lemmas.List.{get_or_default}
use Rattle.cw_unit.specs.Storage.{family_offset, family_of}
use Rattle.cw_layout.proofs.Passes.{IsAt, home_read, homes_length}
use Rattle.cw_layout.proofs.Tables.{ends_within, family_within, family_index, kept_extent, raised_extent}
use Rattle.cw_layout.proofs.families.family_extents.Goals as goal
use Rattle.cw_layout.proofs.families.family_extents.Goals.{then-index-end, else-index-end}

pub bounds-homes-n : goal.bounds-homes-n
bounds-homes-n c = omega (arith, ap length c.as_slice-items.ensures, homes_length c.args.unit.now c.args.homes.now c.requires.homes, c.loop-n-test.true)

pub bounds-homes-n-in-loop-n : goal.bounds-homes-n-in-loop-n
bounds-homes-n-in-loop-n c = omega (arith, ap length c.as_slice-items.ensures, homes_length c.args.unit.now c.args.homes.now c.requires.homes, c.loop-n-test.true)

pub overflow_add-end : goal.overflow_add-end
overflow_add-end c =
    let u = c.args.unit.now in
    let i = c.index-items-n.result in
    let at : IsAt u c.loop-n.n i = record { within = search rules; read = search rules } in
    let place = ap (λ (p : ℕ × ℕ). p.1) (home_read u c.loop-n.n c.args.homes.now at.within c.requires.homes) in
    let end = ends_within u c.loop-n.n i c.requires.unit at in
    let words : (get_or c.as_slice-items.result.now c.loop-n.n i).words ≡ i.words = search rules in
    omega (arith, place, end, words, c.from.ensures)

pub index-requires : goal.index-requires
index-requires c = omega (arith, family_index c.args.unit.now c.loop-n.n c.index-items-n.result c.args.homes.now c.requires.unit.storable (record { within = search rules; read = search rules }) c.requires.homes, c.loop-n.invariant.len, c.loop-n.extents.ok.0)

pub index_mut-requires : goal.index_mut-requires
index_mut-requires c = omega (arith, family_index c.args.unit.now c.loop-n.n c.index-items-n.result c.args.homes.now c.requires.unit.storable (record { within = search rules; read = search rules }) c.requires.homes, c.loop-n.invariant.len, c.loop-n.extents.ok.0)

pub loop-n-preserved : goal.loop-n-preserved
loop-n-preserved c =
    let u = c.args.unit.now in
    let h = c.requires.unit.storable in
    let i = c.index-items-n.result in
    let n = c.loop-n.n in
    let xs = c.loop-n.extents.items in
    let at : IsAt u n i = record { within = search rules; read = search rules } in
    let home = home_read u n c.args.homes.now at.within c.requires.homes in
    let f = (get_or c.args.homes.now n (0, 0)).0 in
    let e = c.from.result + (get_or c.as_slice-items.result.now n i).words in
    let family : f ≡ family_of u n = ap (λ (p : ℕ × ℕ). p.0) home in
    let place = ap (λ (p : ℕ × ℕ). p.1) home in
    let words : (get_or c.as_slice-items.result.now n i).words ≡ i.words = search rules in
    let from = c.from.ensures in
    let end : e ≡ family_offset u n + i.words = omega (arith, place, words, from) in
    let within = family_within u n i h at in
    let len : length xs ≡ length u.items = c.loop-n.invariant.len in
    let inside : f < length xs = omega (arith, family, within, len) in
    let read : c.index.result.now ≡ get_or xs f 0 = c.index.ensures ∙ get_or_default xs f c.index.result.now 0 inside in
    elim c.if-index-end.branch [
      | then-index-end w ↦
          (let new : c.if-index-end.extents.items ≡ set xs f e = search rules in
          let less = w.if-index-end.true in
          rw new (raised_extent u h xs n f e i at c.loop-n.invariant family inside end (omega (arith, less, read))))
      | else-index-end w ↦
          (let same : c.if-index-end.extents.items ≡ xs = search rules in
          let least = w.if-index-end.false in
          rw same (kept_extent u h xs n f e i at c.loop-n.invariant family end (omega (arith, least, read))))
    ]
