-- The image of units that can be compiled is not long.
use Rattle.std.proofs.Common.{◌≡◌, ℕ, ◌+◌, ◌*◌, ◌≤◌, List, [], ◌∷◌, map, length, arith}
use Rattle.std.specs.Prelude.{All, sum}
use Rattle.std.proofs.lemmas.List.Elements.{All-head, All-tail}
use Rattle.std.proofs.lemmas.List.Sums.{sum_by-cons}
use Rattle.cw_unit.specs.declared.unit.Unit.{Unit as SourceUnit}
use Rattle.cw_unit.specs.declared.layout.Limits.{Limits}
use Rattle.cw_tmpl.specs.Library.{library_bytes}
use Rattle.cw_link.specs.Contents.{Contents}
use Rattle.cw_link.specs.LinkedImage.{code_end, linked_size, linked_code}
use Rattle.cw_build.specs.Compiled.{IsCompilable, code_of, contents_of_units}
use Rattle.cw_build.specs.Linking.{image_of}

one-more : (e s n t k w : ℕ) → w ≡ t + k → n ≤ 32 * t → e ≤ s + n + 32 * k → e ≤ s + 32 * w
one-more e s n t k w all here rest = omega (arith, all, here, rest)

ends : (us : List SourceUnit) (start : ℕ) → All IsCompilable us → code_end start (contents_of_units us) ≤ start + 32 * sum (map (λ (u : SourceUnit). u.tokens) us)
ends [] start h = omega arith
ends (u ∷ us) start h =
    let tokens : List ℕ = map (λ (v : SourceUnit). v.tokens) us in
    one-more (code_end start (contents_of_units (u ∷ us))) start (length (code_of u).bytes) u.tokens (sum tokens) (sum (map (λ (v : SourceUnit). v.tokens) (u ∷ us)))
    (sum_by-cons (λ n. n) u.tokens tokens) (All-head IsCompilable u us h).short (ends us (start + length (code_of u).bytes) (All-tail IsCompilable u us h))

pub size : (us : List SourceUnit) → length library_bytes ≤ 4096 → All IsCompilable us → linked_size (contents_of_units us) ≤ 32 * sum (map (λ (u : SourceUnit). u.tokens) us) + 4096
size us library h = by-start (length library_bytes) library (ends us (length library_bytes) h)
  where
    by-start : (start : ℕ) → start ≤ 4096 → code_end start (contents_of_units us) ≤ start + 32 * sum (map (λ (u : SourceUnit). u.tokens) us)
        → code_end start (contents_of_units us) ≤ 32 * sum (map (λ (u : SourceUnit). u.tokens) us) + 4096
    by-start start few e = omega (arith, few, e)

pub code : (us : List SourceUnit) (limits : Limits) → ((cs : List Contents) (l : Limits) → length (linked_code cs l) ≡ linked_size cs) → length (image_of us limits).code ≡ linked_size (contents_of_units us)
unfolding image_of
code us limits law = law (contents_of_units us) limits
