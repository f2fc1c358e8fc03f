-- What filling leaves as it was.
use Rattle.std.proofs.Common.{◌≡◌, ℕ, ◌+◌, ◌%◌, ◌/◌, List, [], ◌∷◌, ◌++◌, length, get_or, set, refl, ◌∙◌, arith, get_or-set_other}
use Rattle.std.specs.List.{AllByRecursion}
use Rattle.std.proofs.lemmas.List.{length-append, length-set}
use Rattle.cw_unit.specs.declared.layout.Limits.{Limits}
use Rattle.cw_unit.specs.declared.layout.Reloc.{Reloc}
use Rattle.cw_tmpl.specs.Library.{library_bytes}
use Rattle.cw_tmpl.specs.Pieces.{Filling, fill, word_of}
use Rattle.cw_link.specs.Contents.{Contents}
use Rattle.cw_link.specs.Relocation.{linked_word}
use Rattle.cw_link.specs.LinkedImage.{joined_code, code_end, linked_size, links_at, filled_from, linked_code}
use Rattle.cw_link.specs.OtherBytes.{IsApart, IsInNoWord}

fill-other : (value : Filling) (base k : ℕ) (rs : List Reloc) (code : List ℕ) → AllByRecursion (IsApart base k) rs → get_or (fill value base rs code) k 0 ≡ get_or code k 0
fill-other value base k [] code h = refl
fill-other value base k (r ∷ rs) code h =
    let at = base + r.place in
    let w = word_of value (at + 2) r in
    fill-other value base k rs (set (set code at (w % 256)) (at + 1) (w / 256 % 256)) h.1
    ∙ get_or-set_other (set code at (w % 256)) (at + 1) k (w / 256 % 256) 0 h.0.1 ∙ get_or-set_other code at k (w % 256) 0 h.0.0

filled-other : (all : List Contents) (limits : Limits) (g start k : ℕ) (cs : List Contents) (code : List ℕ) → IsInNoWord start cs k → get_or (filled_from all limits g start cs code) k 0 ≡ get_or code k 0
filled-other all limits g start k [] code h = refl
filled-other all limits g start k (c ∷ cs) code h =
    filled-other all limits (g + 1) (start + length c.code) k cs (fill (linked_word (links_at all g start c cs) limits) start c.relocs code) h.1 ∙ fill-other (linked_word (links_at all g start c cs) limits) start k c.relocs code h.0

fill-length : (value : Filling) (base : ℕ) (rs : List Reloc) (code : List ℕ) → length (fill value base rs code) ≡ length code
fill-length value base [] code = refl
fill-length value base (r ∷ rs) code =
    let at = base + r.place in
    let w = word_of value (at + 2) r in
    fill-length value base rs (set (set code at (w % 256)) (at + 1) (w / 256 % 256)) ∙ length-set (set code at (w % 256)) (at + 1) (w / 256 % 256) ∙ length-set code at (w % 256)

filled-length : (all : List Contents) (limits : Limits) (g start : ℕ) (cs : List Contents) (code : List ℕ) → length (filled_from all limits g start cs code) ≡ length code
filled-length all limits g start [] code = refl
filled-length all limits g start (c ∷ cs) code =
    filled-length all limits (g + 1) (start + length c.code) cs (fill (linked_word (links_at all g start c cs) limits) start c.relocs code) ∙ fill-length (linked_word (links_at all g start c cs) limits) start c.relocs code

joined-length : (start : ℕ) (cs : List Contents) → start + length (joined_code cs) ≡ code_end start cs
joined-length start [] = omega arith
joined-length start (c ∷ cs) =
    let more = joined-length (start + length c.code) cs in
    let both = length-append c.code (joined_code cs) in
    omega (arith, more, both)

size-by : (base : List ℕ) (cs : List Contents) → length (base ++ joined_code cs) ≡ code_end (length base) cs
size-by base cs = length-append base (joined_code cs) ∙ joined-length (length base) cs

pub size_is : (cs : List Contents) (limits : Limits) → length (linked_code cs limits) ≡ linked_size cs
size_is cs limits = filled-length cs limits 0 (length library_bytes) cs (library_bytes ++ joined_code cs) ∙ size-by library_bytes cs

pub bytes_are : (cs : List Contents) (limits : Limits) (k : ℕ) → IsInNoWord (length library_bytes) cs k → get_or (linked_code cs limits) k 0 ≡ get_or (library_bytes ++ joined_code cs) k 0
bytes_are cs limits k h = filled-other cs limits 0 (length library_bytes) k cs (library_bytes ++ joined_code cs) h
