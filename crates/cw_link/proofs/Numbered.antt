-- Definitions by the numbers of names are those by names.
use Rattle.std.proofs.Common.{◌≡◌, ℕ, suc, ◌+◌, ◌<◌, cond, List, [], ◌∷◌, length, map, get_or, Option, Some, None, option_map, slice_get, refl, sym, ap, ap₂, ◌∙◌, arith}
use Rattle.std.proofs.lemmas.Option.{slice_get-map}
use Rattle.std.proofs.Math.ListN.{get_or-map}
use Rattle.cw_unit.specs.Allocation.{name_at}
use Rattle.cw_unit.specs.declared.descriptor.Desc.{Desc}
use Rattle.cw_tmpl.specs.Library.{library_bytes}
use Rattle.cw_comm.specs.Agreement.{or_else, has_name, place_of, places_in}
use Rattle.cw_comm.specs.Numbered.{AreNumbered}
use Rattle.cw_comm.proofs.Naming.{HasPlace, numbers_at}
use Rattle.cw_comm.proofs.Entries.{same_number, once, place_there}
use Rattle.cw_link.specs.Contents.{Contents}
use Rattle.cw_link.specs.Relocation.{word, entry_or_zero}
use Rattle.cw_link.specs.LinkedImage.{face_of, faces_of, definition_in, definition_from, definition_address}
use Rattle.cw_link.specs.Definitions.{has_number, numbered_in, numbered_from, TellsAddresses, TellsDefinitions, definitions_by}

module _ (cs : List Contents) (names : List (List ℕ)) (numbers : List (List ℕ)) (num : AreNumbered (faces_of cs) names numbers) where
  own-numbers : (g : ℕ) (c : Contents) → slice_get cs g ≡ Some c → get_or numbers g [] ≡ places_in names c.descs
  own-numbers g c is = ap (λ (ns : List (List ℕ)). get_or ns g []) num.numbers_are ∙ numbers_at names (faces_of cs) g (face_of c) (slice_get-map face_of cs g ∙ ap (option_map face_of) is)

  has : (g i : ℕ) (c : Contents) (x : Desc) → slice_get cs g ≡ Some c → slice_get c.descs i ≡ Some x → HasPlace names x.name
  has g i c x is at = place_there (faces_of cs) names numbers num g i (face_of c) x (slice_get-map face_of cs g ∙ ap (option_map face_of) is) at

  module _ (k : ℕ) (lk : k < length names) where
    same-desc : (g i : ℕ) (c : Contents) (o : Option Desc) → slice_get cs g ≡ Some c → slice_get c.descs i ≡ o → has_number k (option_map (λ (d : Desc). place_of names d.name) o) ≡ has_name (name_at names k) o
    same-desc g i c None is at = refl
    same-desc g i c (Some x) is at = sym (same_number names x.name k (once (faces_of cs) names numbers num) (has g i c x is at) lk)

    same-number : (g i : ℕ) (c : Contents) → slice_get cs g ≡ Some c → has_number k (slice_get (get_or numbers g []) i) ≡ has_name (name_at names k) (slice_get c.descs i)
    same-number g i c is =
        ap (λ (ns : List ℕ). has_number k (slice_get ns i)) (own-numbers g c is) ∙ ap (has_number k) (slice_get-map (λ (d : Desc). place_of names d.name) c.descs i) ∙ same-desc g i c (slice_get c.descs i) is refl

    in-segment : (g : ℕ) (c : Contents) (ds : List (ℕ × ℕ)) → slice_get cs g ≡ Some c → numbered_in k (get_or numbers g []) ds ≡ definition_in (name_at names k) c.descs ds
    in-segment g c [] is = refl
    in-segment g c (d ∷ ds) is = ap₂ (λ b o. cond b (Some d.1) o) (same-number g d.0 c is) (in-segment g c ds is)

    from : (start g : ℕ) (rest : List Contents) → ((h : ℕ) (c : Contents) → slice_get rest h ≡ Some c → slice_get cs (g + h) ≡ Some c) → numbered_from start g k numbers rest ≡ definition_from start (name_at names k) rest
    from start g [] at = refl
    from start g (c ∷ rest) at =
        let z : g + 0 ≡ g = omega arith in
        ap₂ (λ o r. or_else (option_map (λ place. word (start + place)) o) r) (in-segment g c c.definitions (ap (slice_get cs) (sym z) ∙ at 0 c refl))
        (from (start + length c.code) (g + 1) rest (λ h d is. let e : g + 1 + h ≡ g + suc h = omega arith in ap (slice_get cs) e ∙ at (suc h) d is))

  pub tells_addresses : (start : ℕ) (table : List (Option ℕ)) → length table ≡ length names → ((k : ℕ) → k < length names → get_or table k None ≡ numbered_from start 0 k numbers cs) → TellsAddresses names start cs table
  tells_addresses start table count told = record { count = count; at = λ k lk. told k lk ∙ from k lk start 0 cs (λ h c is. let e : 0 + h ≡ h = omega arith in ap (slice_get cs) e ∙ is) }

  each-definition : (table : List (Option ℕ)) → TellsAddresses names (length library_bytes) cs table → (ds : List Desc) → ((i : ℕ) (x : Desc) → slice_get ds i ≡ Some x → HasPlace names x.name) → definitions_by table (places_in names ds) ≡ map (λ (d : Desc). definition_address cs d.name) ds
  each-definition table t [] h = refl
  each-definition table t (d ∷ ds) h =
      let p = h 0 d refl in
      ap₂ (λ a rest. a ∷ rest) (ap entry_or_zero (t.at (place_of names d.name) p.within) ∙ ap (definition_address cs) p.there) (each-definition table t ds (λ i x at. h (suc i) x at))

  pub tells_definitions : (table : List (Option ℕ)) → TellsAddresses names (length library_bytes) cs table → TellsDefinitions cs (map (definitions_by table) numbers)
  tells_definitions table t g c is =
      get_or-map (definitions_by table) numbers g [] ∙ ap (definitions_by table) (own-numbers g c is) ∙ each-definition table t c.descs (λ i x at. has g i c x is at)
