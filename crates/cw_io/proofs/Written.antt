-- One more file that is written.
use Rattle.std.proofs.Common.{◌≡◌, ◌≢◌, ℕ, ◌+◌, ◌-◌, ◌≤◌, Bool, true, false, List, [], ◌∷◌, ◌++◌, length, Option, Some, refl, ap, arith, sym, ◌∙◌, append_assoc, length-append}
use Rattle.std.proofs.lemmas.Grind.{common_steps, fold-append}
use Rattle.std.proofs.Math.Seq.{take-append_seam, drop-append_seam, take-length}
use Rattle.std.proofs.lemmas.List.Elements.{recursion_from_All, All-push}
use Rattle.std.proofs.lemmas.Slice.Eq.{bytes_eq-Decides}
use Rattle.std.specs.List.{AllByRecursion}
use Rattle.std.specs.Prelude.{All}
use Rattle.std.specs.Str.{bytes_eq}
use Rattle.cw_io.specs.Written.{part_of, latest, written_file, IsWithin}
use Rattle.cw_io.specs.declared.mem_file.Place.{Place}

-- a part of the text stays when the text grows
pub part_of-append : (text more : List ℕ) (from to : ℕ) → from ≤ to → to ≤ length text → part_of (text ++ more) from to ≡ part_of text from to
part_of-append text more from to up within = grind (arith, common_steps)

stays : (places : List Place) (text more name : List ℕ) (given : Option (List ℕ)) → AllByRecursion (IsWithin text) places
    → written_file places (text ++ more) name given ≡ written_file places text name given
stays [] text more name given all = refl
stays (place ∷ places) text more name given all =
    let within = all.0 in
    let n : part_of (text ++ more) place.name_at place.bytes_at ≡ part_of text place.name_at place.bytes_at = part_of-append text more _ _ within.name (omega (arith, within.bytes, within.end)) in
    let b : part_of (text ++ more) place.bytes_at place.end ≡ part_of text place.bytes_at place.end = part_of-append text more _ _ within.bytes within.end in
    let step : latest (text ++ more) name given place ≡ latest text name given place = rw (n, b) refl in
    ap (λ g. written_file places (text ++ more) name g) step ∙ stays places text more name (latest text name given place) all.1

-- the files stay when the text grows
pub written_file-append : (places : List Place) (text more name : List ℕ) (given : Option (List ℕ)) → All (IsWithin text) places
    → written_file places (text ++ more) name given ≡ written_file places text name given
written_file-append places text more name given all = stays places text more name given (recursion_from_All _ _ all)

part_name : (text name bytes : List ℕ) → part_of ((text ++ name) ++ bytes) (length text) (length text + length name) ≡ name
part_name text name bytes =
    let width : length text + length name - length text ≡ length name = omega arith in
    rw (width, append_assoc, drop-append_seam, take-append_seam) refl

part_bytes : (text name bytes : List ℕ) → part_of ((text ++ name) ++ bytes) (length text + length name) (length text + length name + length bytes) ≡ bytes
part_bytes text name bytes =
    let width : length text + length name + length bytes - (length text + length name) ≡ length bytes = omega arith in
    let start : length text + length name ≡ length (text ++ name) = omega (arith, length-append {A = ℕ}) in
    rw (width, start, drop-append_seam) (take-length bytes)

abbrev pub place_after : List ℕ → List ℕ → List ℕ → Place
place_after text name bytes = record { name_at = length text; bytes_at = length text + length name; end = length text + length name + length bytes }

-- the file that was written last
pub written_file-same : (places : List Place) (text name bytes : List ℕ) (given : Option (List ℕ))
    → written_file (places ++ place_after text name bytes ∷ []) ((text ++ name) ++ bytes) name given ≡ Some bytes
written_file-same places text name bytes given =
    let test : bytes_eq name name ≡ true = (bytes_eq-Decides name name).1 refl in
    fold-append _ given places (place_after text name bytes ∷ []) ∙ rw (part_name text name bytes, part_bytes text name bytes, test) refl

-- another file
pub written_file-other : (places : List Place) (text name bytes other : List ℕ) (given : Option (List ℕ)) → other ≢ name → All (IsWithin text) places
    → written_file (places ++ place_after text name bytes ∷ []) ((text ++ name) ++ bytes) other given ≡ written_file places text other given
written_file-other places text name bytes other given ne all =
    let test : bytes_eq name other ≡ false = not_eq (bytes_eq name other) (λ e. ne (sym ((bytes_eq-Decides name other).0 e))) in
    fold-append _ given places (place_after text name bytes ∷ [])
    ∙ rw (part_name text name bytes, test, append_assoc) (written_file-append places text (name ++ bytes) other given all)
  where
    not_eq : (b : Bool) → (b ≡ true → ⊥) → b ≡ false
    not_eq true h = absurd (h refl)
    not_eq false h = refl

grown_within : (text more : List ℕ) (place : Place) → IsWithin text place → IsWithin (text ++ more) place
grown_within text more place h = record { name = h.name; bytes = h.bytes; end = omega (arith, h.end, length-append text more) }

module _ (places places' : List Place) (text text' name bytes : List ℕ) (at : ℕ) (is : at ≡ length text)
    (more : places' ≡ places ++ record { name_at = at; bytes_at = at + length name; end = at + length name + length bytes } ∷ [])
    (grown : text' ≡ (text ++ name) ++ bytes) where
  pub same_file : (given : Option (List ℕ)) → ◌≡◌ {A = Option (Option (List ℕ))} (Some (written_file places' text' name given)) (Some (Some bytes))
  same_file given = ap (λ f. Some f) (rw (more, grown, is) (written_file-same places text name bytes given))

  pub other_file : (given : Option (List ℕ)) (other : List ℕ) → other ≢ name → All (IsWithin text) places → written_file places' text' other given ≡ written_file places text other given
  other_file given other ne all = rw (more, grown, is) (written_file-other places text name bytes other given ne all)

  pub stand : All (IsWithin text) places → All (IsWithin text') places'
  stand all =
      let old : All (IsWithin text') places = λ k d h. rw (grown, append_assoc) (grown_within text (name ++ bytes) _ (all k d h)) in
      let new : IsWithin text' (record { name_at = at; bytes_at = at + length name; end = at + length name + length bytes }) =
      record { name = omega arith; bytes = omega arith; end = rw grown (omega (arith, is, length-append {A = ℕ})) } in
      rw more (All-push (IsWithin text') places _ old new)
