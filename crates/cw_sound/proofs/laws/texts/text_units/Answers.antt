-- All that a unit is compiled by, from the laws of its text.
use Rattle.std.proofs.Common.{◌≡◌, ℕ, ◌*◌, ◌≤◌, length, refl, sym, subst, arith}
use Rattle.std.proofs.lemmas.Bool.{and_from}
use Rattle.std.specs.Prelude.{IsTrue}
use Rattle.cw_unit.specs.declared.unit.Unit.{Unit as SourceUnit}
use Rattle.cw_unit.specs.Storage.{layout_of}
use Rattle.cw_unit.specs.StackBound.{unit_need}
use Rattle.cw_object.specs.IsWritable.{is_front, is_back, is_writable}
use Rattle.cw_make.specs.Made.{unit_of}
use Rattle.cw_compile.specs.Texts.{most_levels, IsUnitOf}
use Rattle.cw_build.specs.Compiled.{code_of, IsCompilable}
use Rattle.cw_sound.proofs.laws.texts.text_units.Goals as goal

writable : (u : SourceUnit) → IsTrue (is_front u (layout_of u)) → IsTrue (is_back u (layout_of u) (code_of u) (unit_need u)) → IsTrue (is_writable u (layout_of u) (code_of u) (unit_need u))
unfolding is_writable
writable u front back = and_from _ _ front back

-- a text has at most 65,535 tokens
of_most_tokens : (size tokens counted : ℕ) → size ≤ 32 * tokens → tokens ≡ counted → counted ≤ 65535 → size ≤ 2097120
of_most_tokens size tokens counted short same few = omega (arith, short, same, few)

pub returns : goal.returns
returns c text u bytes is =
    let named = is.named in
    let raw = named.raw.now in
    let resolves = is.has.names.resolves in
    let fine = is.has.judges in
    let tree = is.has.names.tree in
    let ts = tree.expanded in
    let v = unit_of named in
    let its : IsUnitOf text v = record { named = named; has = is.has; unit_is = refl } in
    let few = c.one_outcome.ensures.few text ts tree.expands in
    let short = c.text_sizes.ensures text v its in
    let fits = c.text_trees.ensures text raw tree in
    let names = c.items_derived.ensures.named most_levels ts raw tree.derives in
    let items = c.items_declared.ensures named resolves (c.items_stand.ensures raw named resolves fine fits.rising fits.plain) in
    let is_stored = c.stored.ensures named resolves fine fits.placed fits.rising fits.plain items in
    let are_built = c.unit_built.ensures raw named resolves fine fits in
    let levels : most_levels ≤ 64 = omega arith in
    let built = and_from _ _ (c.descriptors_named.ensures raw named resolves fits.rising names)
    (and_from _ _ is_stored (and_from _ _ (c.unit_formed.ensures raw named resolves fine fits) (and_from _ _ (c.definitions_met.ensures named resolves fine fits.placed items) are_built))) in
    let coded = c.coded.ensures v is_stored are_built (c.unit_ranged.ensures raw named resolves fine fits) in
    let need = c.need_fits.ensures most_levels ts raw named levels tree.derives resolves fine fits in
    let lines = c.lines_counted.ensures text tree.expands.tokens ts tree.expands.tokenizes tree.expands.expands in
    let ready = c.unit_ready.ensures raw named resolves fine fits (c.positions_fit.ensures most_levels ts raw lines few tree.derives) in
    let back = c.back_writable.ensures v built coded (of_most_tokens _ _ _ short (c.one_outcome.ensures.tokens text v ts its tree.expands) few) need ready in
    let identified = c.names_identified.ensures most_levels ts raw tree.derives in
    let of_bytes = c.bytes_kept.ensures text tree.expands.tokens ts bytes tree.expands.tokenizes tree.expands.expands in
    let front = c.front_of_parts.ensures v (c.segment_named.ensures most_levels ts raw named tree.derives resolves) (c.bases_listed.ensures most_levels ts raw named few tree.derives resolves fine)
    (c.items_fit.ensures named resolves fine fits.rising fits.plain) (c.homes_fit.ensures named resolves fine fits.placed fits.rising fits.plain items)
    (c.presets_fit.ensures most_levels ts named tree.derives of_bytes resolves fine fits.rising fits.plain)
    (record { titled = c.items_titled.ensures named resolves identified; called = c.items_called.ensures most_levels ts raw named few tree.derives resolves }) in
    subst IsCompilable (sym is.unit_is) (record { built = built; coded = coded; short = short; need = need; writable = writable v front back })
