-- A text has the tokens that its tree counts, and its tree those that its unit does.
use Rattle.std.proofs.Common.{◌≡◌, ℕ, ◌*◌, ◌≤◌, length, refl, sym, subst, arith}
use Rattle.cw_unit.specs.declared.unit.Unit.{Unit as SourceUnit}
use Rattle.cw_make.specs.Made.{unit_of}
use Rattle.cw_compile.specs.Texts.{most_levels}
use Rattle.cw_build.specs.Compiled.{code_of}
use Rattle.cw_sound.proofs.laws.texts.text_sizes.Goals as goal

by_tokens : (size unit tree text told : ℕ) → size ≤ 32 * unit → unit ≤ tree → tree ≤ text → told ≡ text → size ≤ 32 * told
by_tokens size unit tree text told a b c d = omega (arith, a, b, c, d)

pub returns : goal.returns
returns c text u is =
    let named = is.named in
    let v = unit_of named in
    let tree = is.has.names.tree in
    let ts = tree.expanded in
    let told = c.one_outcome.ensures.tokens text v ts (record { named = named; has = is.has; unit_is = refl }) tree.expands in
    subst (λ (w : SourceUnit). length (code_of w).bytes ≤ 32 * w.tokens) (sym is.unit_is)
    (by_tokens _ _ _ (length ts) v.tokens (c.short_code.ensures v (c.labels_set.ensures named)) (c.unit_counted.ensures most_levels ts named tree.derives)
    (c.tokens_counted.ensures most_levels ts named.raw.now tree.derives) told)
