-- The image of units has code, and no more words than the data area; so it can be loaded.
use Rattle.std.proofs.Common.{◌≡◌, ℕ, zero, suc, ◌+◌, ◌<◌, ◌≤◌, List, [], ◌∷◌, map, length, refl, ap, ◌∙◌, subst, arith, lit<}
use Rattle.std.specs.Prelude.{nat_eq, true, false, Bool, cond}
use Rattle.cw_unit.specs.declared.unit.Unit.{Unit as SourceUnit}
use Rattle.cw_unit.specs.declared.layout.Limits.{Limits}
use Rattle.cw_tmpl.specs.Library.{library_bytes}
use Rattle.cw_link.specs.Contents.{Contents}
use Rattle.cw_link.specs.Presets.{FilledWord}
use Rattle.cw_link.specs.LinkedImage.{words_from, unless_last_zero, without_last_zeros, code_end, linked_size, linked_presets}
use Rattle.cw_build.specs.Compiled.{contents_of_units}
use Rattle.cw_build.specs.Linking.{Links, image_of}
use Rattle.cw_image.specs.declared.image.Image.{Image}
use Rattle.cw_place.specs.Placement.{IsLimits}
use Rattle.cw_correct.specs.Going.{names_of}
use Rattle.cw_actions.specs.Going.Loads.{CanLoad}

library_is_some : 0 < length library_bytes
library_is_some = let size : 438 ≡ length library_bytes = refl in subst (λ n. 0 < n) size (lit< tt)

ends_behind : (start : ℕ) (cs : List Contents) → start ≤ code_end start cs
ends_behind start [] = omega arith
ends_behind start (c ∷ cs) = omega (arith, ends_behind (start + length c.code) cs)

some_code : (us : List SourceUnit) → 0 < linked_size (contents_of_units us)
some_code us = at (length library_bytes) library_is_some (ends_behind (length library_bytes) (contents_of_units us))
  where
    at : (start : ℕ) → 0 < start → start ≤ code_end start (contents_of_units us) → 0 < code_end start (contents_of_units us)
    at start some behind = omega (arith, some, behind)

count_of : (a n : ℕ) (ps : List FilledWord) → length (words_from a n ps) ≡ n
count_of a zero ps = refl
count_of a (suc n) ps = ap suc (count_of (a + 1) n ps)

last_or_none : (b : Bool) (w : ℕ) → length (cond b [] (w ∷ [])) ≤ 1
last_or_none true w = omega arith
last_or_none false w = omega arith

one_more : (w : ℕ) (ws : List ℕ) → length (unless_last_zero w ws) ≤ suc (length ws)
one_more w [] = last_or_none (nat_eq w 0) w
one_more w (v ∷ vs) = omega arith

no_longer : (ws : List ℕ) → length (without_last_zeros ws) ≤ length ws
no_longer [] = omega arith
no_longer (w ∷ ws) = omega (arith, one_more w (without_last_zeros ws), no_longer ws)

few_words : (us : List SourceUnit) (limits : Limits) → length (image_of us limits).words ≤ limits.area
unfolding image_of
few_words us limits =
    let words = words_from 0 limits.area (linked_presets (contents_of_units us)) in
    omega (arith, no_longer words, count_of 0 limits.area (linked_presets (contents_of_units us)))

abbrev pub HasCode : Type 0
HasCode = (us : List SourceUnit) (limits : Limits) → length (image_of us limits).code ≡ linked_size (contents_of_units us)

all_names : (us : List SourceUnit) → map (λ (c : Contents). c.name) (contents_of_units us) ≡ names_of us
all_names [] = refl
all_names (u ∷ us) = ap (λ ns. u.name ∷ ns) (all_names us)

-- the names that an image has of its units
pub names_are : (us : List SourceUnit) (limits : Limits) → (image_of us limits).names ≡ names_of us
unfolding image_of
names_are us limits = all_names us

-- so are those of what was linked of them
pub named_so : (us : List SourceUnit) (limits : Limits) (image : Image) (segments : List (List ℕ)) → image ≡ image_of us limits → segments ≡ image.names → segments ≡ names_of us
named_so us limits image segments is e = e ∙ ap (λ (i : Image). i.names) is ∙ names_are us limits

-- an image of units that link can be loaded
pub can_load : HasCode → (us : List SourceUnit) (limits : Limits) → IsLimits limits → Links us limits → (image : Image) → image ≡ image_of us limits → CanLoad image
can_load size us limits within links image is =
    let bytes : length image.code ≡ linked_size (contents_of_units us) = ap (λ (i : Image). length i.code) is ∙ size us limits in
    let count : length image.words ≡ length (image_of us limits).words = ap (λ (i : Image). length i.words) is in
    record { some = omega (arith, bytes, some_code us); code = omega (arith, bytes, links.code); words = omega (arith, count, few_words us limits, within.1) }
