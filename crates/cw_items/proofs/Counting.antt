-- The words of a site are counted, and then the site is added.
use Rattle.std.proofs.Common.{◌≡◌, ℕ, [], ◌∷◌, ◌++◌, max, Option, Some, None, refl, ap, ◌∙◌}
use Rattle.cw_items.specs.declared.families.Site.{Site}
use Rattle.cw_items.specs.declared.thing.Thing.{Thing}
use Rattle.cw_items.specs.Families.{Known, Counts, count_in, with_count, end_of, growth, area_with, with_area, with_place, with_site}

area_then_place : (k : Known) (extents : Counts) (frame : Option ℕ) (words token : ℕ) (s : Site)
    → with_place (with_area k k.sites extents frame words) token s ≡ with_area k (k.sites ++ record { token = token; item = s } ∷ []) extents frame words
area_then_place k extents None words token s = refl
area_then_place k extents (Some f) words token s = refl

pub site_added : (k counted placed : Known) (t : Thing) (s : Site) (end grown words extent : ℕ) → end ≡ end_of t s → grown ≡ growth k s end → words ≡ area_with k s.frame grown
    → extent ≡ max (count_in k.extents s.root) end → counted ≡ with_area k k.sites (with_count k.extents s.root extent) s.frame words → placed ≡ with_place counted t.at.token s
    → placed ≡ with_site k t s
site_added k counted placed t s end grown words extent he hg hw hx hc hp =
    let all = k.sites ++ record { token = t.at.token; item = s } ∷ [] in
    hp ∙ ap (λ y. with_place y t.at.token s) hc
    ∙ area_then_place k (with_count k.extents s.root extent) s.frame words t.at.token s
    ∙ ap (λ n. with_area k all (with_count k.extents s.root n) s.frame words) (hx ∙ ap (max (count_in k.extents s.root)) he)
    ∙ ap (with_area k all (with_count k.extents s.root (max (count_in k.extents s.root) (end_of t s))) s.frame) (hw ∙ ap (area_with k s.frame) (hg ∙ ap (growth k s) he))
