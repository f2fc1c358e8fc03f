-- What a map that is given tells.
use Rattle.std.proofs.Common.{◌≡◌, ℕ, ◌+◌, ◌-◌, ◌≤◌, List, [], ◌∷◌, map, All, Bool, true, false, cond, nat_lt, Option, None, Some, refl, sym, ap, subst, ◌∙◌, arith}
use Rattle.std.proofs.lemmas.Bool.{ltb-false}
use Rattle.std.proofs.lemmas.Option.{none-some}
use Rattle.std.proofs.lemmas.List.Elements.{All-nil, All-cons, All-append}
use Rattle.cw_unit.specs.declared.unit.Unit.{Unit as SourceUnit}
use Rattle.cw_unit.specs.declared.layout.Family.{Family}
use Rattle.cw_unit.specs.declared.layout.Limits.{Limits}
use Rattle.cw_unit.specs.declared.layout.Sort.{Sort}
use Rattle.cw_unit.specs.declared.layout.Sort.TheVariants as sort
use Rattle.cw_unit.specs.Allocation.{Range, storage_of, absolute_range, absolute_ranges_in, absolute_ranges, map_of}
use Rattle.cw_unit.specs.ValidStorage.{FitsArea}
use Rattle.cw_comm.specs.declared.face.Agreed.{Agreed}
use Rattle.cw_place.specs.declared.space.Space.{Space}
use Rattle.cw_place.specs.Fitting.{or_else, outside_at, outside_in, in_segment, first_outside}
use Rattle.cw_place.specs.Segments.{segment_storage, absolute_words}
use Rattle.cw_place.specs.Placement.{NoneOutside, FitsData}
use Rattle.cw_place.proofs.SameFits.{words_are}

-- a range that ends before so many words
abbrev EndsBy : ℕ → Range → Type 0
EndsBy room r = r.end ≤ room

neither : {A : Type 0} (o p : Option A) → or_else o p ≡ None → (o ≡ None) × (p ≡ None)
neither None p e = (refl, e)
neither (Some x) p e = absurd (none-some x (sym e))

inside-if : (room a extent : ℕ) (b : Bool) → nat_lt room (a + extent) ≡ b → cond {A = Option ℕ} b (Some a) None ≡ None → All (EndsBy room) (record { start = a; end = a + extent } ∷ [])
inside-if room a extent true e h = absurd (none-some a (sym h))
inside-if room a extent false e h = All-cons (EndsBy room) (record { start = a; end = a + extent }) [] (ltb-false room (a + extent) e) (All-nil (EndsBy room))

inside-at : (room : ℕ) (s : Sort) (extent : ℕ) → outside_at room extent s ≡ None → All (EndsBy room) (absolute_range s extent)
inside-at room (sort.Common d) extent h = All-nil (EndsBy room)
inside-at room sort.Own extent h = All-nil (EndsBy room)
inside-at room (sort.Absolute a) extent h = inside-if room a extent (nat_lt room (a + extent)) refl h
inside-at room (sort.Frame o) extent h = All-nil (EndsBy room)

inside-families : (room : ℕ) (fs : List Family) → outside_in room fs ≡ None → All (EndsBy room) (absolute_ranges_in fs)
inside-families room [] h = All-nil (EndsBy room)
inside-families room (f ∷ fs) h =
    let p = neither (outside_at room f.extent f.sort) (outside_in room fs) h in
    All-append (EndsBy room) (absolute_range f.sort f.extent) (absolute_ranges_in fs) (inside-at room f.sort f.extent p.0) (inside-families room fs p.1)

none-in : (g : ℕ) (o : Option ℕ) → in_segment g o ≡ None → o ≡ None
none-in g None e = refl
none-in g (Some a) e = absurd (none-some (g, a) (sym e))

inside-spaces : (room g : ℕ) (spaces : List Space) → first_outside room g spaces ≡ None → All (EndsBy room) (absolute_words spaces)
inside-spaces room g [] h = All-nil (EndsBy room)
inside-spaces room g (s ∷ ss) h =
    let p = neither (in_segment g (outside_in room s.families)) (first_outside room (g + 1) ss) h in
    All-append (EndsBy room) (absolute_ranges_in s.families) (absolute_words ss) (inside-families room s.families (none-in g (outside_in room s.families) p.0)) (inside-spaces room (g + 1) ss p.1)

pub fits_area : (agreed : Agreed) (spaces : List Space) (us : List SourceUnit) (limits : Limits) → segment_storage agreed spaces ≡ map storage_of us → NoneOutside spaces limits → FitsData (segment_storage agreed spaces) limits → FitsArea us limits
fits_area agreed spaces us limits are none data_ =
    let each : All (EndsBy (limits.area - limits.frames)) (absolute_ranges (map storage_of us)) = subst (λ rs. All (EndsBy (limits.area - limits.frames)) rs) (sym (words_are 0 agreed spaces) ∙ ap absolute_ranges are) (inside-spaces (limits.area - limits.frames) 1 spaces none) in
    record {
      placed = subst (λ ss. (map_of ss).end + limits.frames ≤ limits.area) are data_;
      absolute = λ k d lt. omega (arith, each k d lt, data_);
    }
