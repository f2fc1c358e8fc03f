-- Families that no other segment shares are those of the descriptors of their segment, of which they need none.
use Rattle.std.proofs.Common.{◌≡◌, ℕ, List, length, true, get_or, ap, ◌∙◌, sym}
use Rattle.std.specs.List.{list_all, AllPass}
use Rattle.std.proofs.lemmas.Bool.{false≢true}
use Rattle.std.proofs.lemmas.List.Sums.{AllPass-from_list_all}
use Rattle.std.proofs.lemmas.Option.{get_or_from_slice_get, slice_get_within}
use Rattle.cw_unit.specs.declared.layout.Family.{Family}
use Rattle.cw_unit.specs.declared.layout.Sort.{Sort}
use Rattle.cw_unit.specs.declared.layout.Sort.TheVariants as sort
use Rattle.cw_comm.specs.declared.face.Face.{Face}
use Rattle.cw_place.specs.declared.space.Space.{Space}
use Rattle.cw_place.specs.Segments.{IsOfDescriptor, HaveOwnFamilies}
use Rattle.cw_checks_storage.specs.Plain.{is_plain, has_plain}

own-sort : (n : ℕ) (s : Sort) → is_plain s ≡ true → IsOfDescriptor n s
own-sort n (sort.Common d) e = absurd (false≢true e)
own-sort n _ e = tt

pub plain-families : (faces : List Face) (spaces : List Space) → list_all has_plain spaces ≡ true → HaveOwnFamilies faces spaces
plain-families faces spaces all g f s is at k d lt =
    let all-spaces : AllPass has_plain spaces = AllPass-from_list_all has_plain spaces all in
    let here : has_plain s ≡ true = ap has_plain (sym (get_or_from_slice_get spaces g s s at)) ∙ all-spaces g s (slice_get_within spaces g s at) in
    let families : AllPass (λ (x : Family). is_plain x.sort) s.families = AllPass-from_list_all (λ (x : Family). is_plain x.sort) s.families here in
    own-sort (length f.descs) (get_or s.families k d).sort (families k d lt)
