-- The words that the listing knows in a program are those of the pieces of its segments.
use Rattle.std.proofs.Common.{◌≡◌, ℕ, zero, suc, ◌+◌, ◌-◌, ◌<◌, ◌≤◌, false, ◌||◌, List, [], ◌∷◌, ◌++◌, length, map}
use Rattle.std.proofs.Common.{flat_map, Option, Some, None, refl, sym, ap, ap₂, ◌∙◌, arith}
use Rattle.std.specs.Prelude.{slice_get}
use Rattle.std.proofs.lemmas.List.{map-append}
use Rattle.std.proofs.lemmas.List.Concat.{flat_map-append}
use Rattle.cw_unit.specs.declared.layout.Reloc.{Reloc}
use Rattle.cw_unit.specs.declared.unit.Unit.{Unit as SourceUnit}
use Rattle.cw_order.specs.declared.order.Orders.{Orders}
use Rattle.cw_tmpl.specs.declared.assembling.Code.{Code}
use Rattle.cw_tmpl.specs.declared.pieces.Target.{Target}
use Rattle.cw_tmpl.specs.declared.pieces.Target.TheVariants as target
use Rattle.cw_tmpl.specs.declared.pieces.Coded.{Coded}
use Rattle.cw_tmpl.specs.Library.{library_bytes}
use Rattle.cw_tmpl.specs.Pieces.{size_of, target_of, blanks, relocation_of, relocation_before, relocations}
use Rattle.cw_tmpl.specs.ReferenceCode.{pieces_of, orders_code}
use Rattle.cw_tmpl.proofs.Filling.{place_of}
use Rattle.cw_tmpl.proofs.Growing.{relocations-append}
use Rattle.cw_listing.specs.declared.remark.Remark.{Remark}
use Rattle.cw_listing.specs.Lines.{is_among}
use Rattle.cw_listing.specs.Remarks.{words_behind, words_behind_call}
use Rattle.cw_listed.specs.Behind.{known_places}
use Rattle.cw_listing.specs.Remarks.{roots_of, word_remark, unit_words, data_places, words_from, data_from}
use Rattle.cw_listed.specs.Behind.{is_word, Stands, places_behind, word_places}
use Rattle.cw_listed.proofs.Walk.{Told, both}
use Rattle.cw_listed.proofs.Blocks.{segment_told}
use Rattle.cw_listed.proofs.Places.{among-append, or_crossed, Sized, sized, word_places-append, before_pieces, known_data}

-- ---- code that stands elsewhere

moved_call : (s m x y : ℕ) (t : Target) → m + x ≡ s + y → words_behind_call m (relocation_of x t) ≡ words_behind_call s (relocation_of y t)
moved_call s m x y (target.LibraryAhead k) e = ap (λ n. map (λ o. (n + 2) + o) (words_behind k)) e
moved_call s m x y _ e = refl

moved_places : (s m at to : ℕ) (ps : List Coded) → m + at ≡ s + to → map (λ r. m + r.place) (relocations at ps) ≡ map (λ r. s + r.place) (relocations to ps)
moved_places s m at to [] e = refl
moved_places s m at to (p ∷ ps) e =
    map-append (λ (r : Reloc). m + r.place) (relocation_before (at + size_of p) (target_of p)) (relocations (at + size_of p) ps)
    ∙ ap₂ (λ a b. a ++ b) (one (size_of p) (target_of p) (sized p)) (moved_places s m (at + size_of p) (to + size_of p) ps (omega arith))
    ∙ sym (map-append (λ (r : Reloc). s + r.place) (relocation_before (to + size_of p) (target_of p)) (relocations (to + size_of p) ps))
  where
    one : (n : ℕ) (t : Option Target) → Sized t n
        → map (λ r. m + r.place) (relocation_before (at + n) t)
        ≡ map (λ r. s + r.place) (relocation_before (to + n) t)
    one n None h = refl
    one n (Some t) h =
        ap (λ x. x ∷ []) (ap (λ k. m + k) (place_of (at + n - 2) t) ∙ (let same : m + (at + n - 2) ≡ s + (to + n - 2) = omega (arith, h) in same)
        ∙ sym (ap (λ k. s + k) (place_of (to + n - 2) t)))

moved_behind : (s m at to : ℕ) (ps : List Coded) → m + at ≡ s + to → places_behind m (relocations at ps) ≡ places_behind s (relocations to ps)
moved_behind s m at to [] e = refl
moved_behind s m at to (p ∷ ps) e =
    flat_map-append (words_behind_call m) (relocation_before (at + size_of p) (target_of p)) (relocations (at + size_of p) ps)
    ∙ ap₂ (λ a b. a ++ b) (one (size_of p) (target_of p) (sized p)) (moved_behind s m (at + size_of p) (to + size_of p) ps (omega arith))
    ∙ sym (flat_map-append (words_behind_call s) (relocation_before (to + size_of p) (target_of p)) (relocations (to + size_of p) ps))
  where
    one : (n : ℕ) (t : Option Target) → Sized t n → places_behind m (relocation_before (at + n) t) ≡ places_behind s (relocation_before (to + n) t)
    one n None h = refl
    one n (Some t) h = ap (λ l. l ++ []) (moved_call s m (at + n - 2) (to + n - 2) t (omega (arith, h)))

moved_words : (s m at : ℕ) (ps : List Coded) → m ≡ s + at → word_places m (relocations 0 ps) ≡ word_places s (relocations at ps)
moved_words s m at ps e = ap₂ (λ a b. a ++ b) (moved_places s m 0 at ps (omega arith)) (moved_behind s m 0 at ps (omega arith))

-- ---- segments

places_of_words : (start : ℕ) (u : SourceUnit) (roots : List ℕ) (rs : List Reloc)
    → map (λ w. w.place) (map (word_remark start u roots) rs) ≡ map (λ r. start + r.place) rs
places_of_words start u roots [] = refl
places_of_words start u roots (r ∷ rs) = ap (λ l. (start + r.place) ∷ l) (places_of_words start u roots rs)

unit_places : (start : ℕ) (us : List SourceUnit) (k : ℕ) (c : Code) → k < length us
    → map (λ w. w.place) (unit_words start (slice_get us k) c) ≡ map (λ r. start + r.place) c.relocs
unit_places start [] k c less = absurd (omega arith)
unit_places start (u ∷ us) zero c less = places_of_words start u (roots_of u) c.relocs
unit_places start (u ∷ us) (suc k) c less = unit_places start us k c (omega arith)

same_words : (segment start s at : ℕ) (us : List SourceUnit) (os : List Orders) (q : ℕ) → start ≡ s + at → segment + length os ≤ length us
    → is_among (map (λ w. w.place) (words_from segment start us (map orders_code os)) ++ data_from start (map orders_code os)) q
    ≡ is_among (word_places s (relocations at (flat_map pieces_of os))) q
same_words segment start s at us [] q e few = refl
same_words segment start s at us (o ∷ os) q e few =
    let c = orders_code o in
    let cs : List Code = map orders_code os in
    let ps = pieces_of o in
    let rest : List Coded = flat_map pieces_of os in
    let n = length (blanks ps) in
    let mine : List Remark = unit_words start (slice_get us segment) c in
    let others : List Remark = words_from (segment + 1) (start + n) us cs in
    let W1 : List ℕ = map (λ w. w.place) mine in
    let W2 : List ℕ = map (λ w. w.place) others in
    let D1 : List ℕ = data_places start c in
    let D2 : List ℕ = data_from (start + n) cs in
    ap (λ l. is_among (l ++ (D1 ++ D2)) q) (map-append (λ (w : Remark). w.place) mine others)
    ∙ among-append (W1 ++ W2) (D1 ++ D2) q
    ∙ ap₂ (λ a b. a || b) (among-append W1 W2 q) (among-append D1 D2 q)
    ∙ or_crossed (is_among W1 q) (is_among W2 q) (is_among D1 q) (is_among D2 q)
    ∙ sym (ap₂ (λ a b. a || b) (among-append W1 D1 q) (among-append W2 D2 q))
    ∙ ap₂ (λ a b. a || b)
    (ap (λ l. is_among (l ++ D1) q) (unit_places start us segment c (omega arith)) ∙ ap (λ l. is_among l q) (moved_words s start at ps e))
    (same_words (segment + 1) (start + n) s (at + n) us os q (omega arith) (omega arith))
    ∙ sym (ap (λ rs. is_among (word_places s rs) q) (relocations-append at ps rest) ∙ word_places-append s q (relocations at ps) (relocations (at + n) rest))

program_told : (os : List Orders) → Told (flat_map pieces_of os)
program_told [] = refl
program_told (o ∷ os) = both (pieces_of o) (flat_map pieces_of os) (segment_told o) (program_told os)

-- ---- the program

few_from_0 : (us : List SourceUnit) (os : List Orders) → length os ≤ length us → 0 + length os ≤ length us
few_from_0 us os few = omega arith

pub program_known : (us : List SourceUnit) (os : List Orders) → length os ≤ length us → (offset : ℕ) (p : Coded) → Stands (flat_map pieces_of os) offset p
    → is_among (known_places us (map orders_code os)) (length library_bytes + offset) ≡ is_word p
program_known us os few offset p st =
    let L = length library_bytes in
    same_words 0 L L 0 us os (L + offset) (omega arith) (few_from_0 us os few) ∙ known_data (flat_map pieces_of os) (program_told os) L offset p st

pub library_known : (us : List SourceUnit) (os : List Orders) → length os ≤ length us → (place : ℕ) → place < length library_bytes
    → is_among (known_places us (map orders_code os)) place ≡ false
library_known us os few place less =
    let L = length library_bytes in
    same_words 0 L L 0 us os place (omega arith) (few_from_0 us os few) ∙ before_pieces L 0 place (flat_map pieces_of os) (omega (arith, less))
