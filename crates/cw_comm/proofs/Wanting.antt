-- Whether a descriptor is the first that wants a definition and has none.
use Rattle.std.proofs.Common.{◌≡◌, ◌≢◌, ℕ, ◌+◌, Bool, true, false, List, Option, Some, None, get_or, refl, sym, ap, subst, ◌∙◌, arith, inl, inr}
use Rattle.std.proofs.lemmas.Bool.{cases_eq, true≢false, false≢true}
use Rattle.std.proofs.lemmas.Option.{none-some}
use Rattle.cw_comm.specs.declared.face.Face.{Face}
use Rattle.cw_comm.specs.Agreement.{Name, Listing, as_listed, wants_definition, definer_from}
use Rattle.cw_comm.specs.Clashes.{Names, Lists, Defines, IsDifference, IsUndefined, HasNone, NoneBefore}
use Rattle.cw_comm.specs.Tables.{first_listing, TellsListings, TellsDefiners, TellsWanted, IsFirstTold}
use Rattle.cw_comm.proofs.Definers.{first_definer, none_defines}
use Rattle.cw_comm.proofs.Entries.{Standing}
use Rattle.cw_comm.proofs.Firsts.{name_is, told_is, one_more, first_here}
use Rattle.cw_comm.proofs.Listed.{placed, first_place, first_lister, none_listed}

same-bool : (a b : Bool) → (a ≢ b → ⊥) → a ≡ b
same-bool true true h = refl
same-bool true false h = absurd (h true≢false)
same-bool false true h = absurd (h false≢true)
same-bool false false h = refl

abbrev wanted : Listing → Bool
wanted l = wants_definition l.body

module _ {faces : List Face} {names : List Name} {firsts : List (Option (ℕ × ℕ))} {definers : List (Option ℕ)} (tf : TellsListings names faces firsts) (td : TellsDefiners names faces definers) (alike : HasNone (IsDifference faces)) (g d k : ℕ) (it : Standing faces names g d k) where
  first-is : get_or firsts k None ≡ first_listing 0 it.name faces
  first-is = tf.at k it.stands.within ∙ ap (λ n. first_listing 0 n faces) it.stands.there

  definer-is : get_or definers k None ≡ definer_from 0 it.name faces
  definer-is = td.at k it.stands.within ∙ ap (λ n. definer_from 0 n faces) it.stands.there

  same : (n : Name) → Names faces g d n → n ≡ it.name
  same n p = name_is faces g d n it.name p it.mine

  own : (told : Listing) × Lists faces g it.name told
  own =
      let m = it.mine in
      let r = first_place 0 d it.name m.face.descs m.desc m.descriptor_is m.name_is in
      let p = placed 0 r.0 it.name m.face.descs r.1 in
      (as_listed m.face.descs p.d, record { face = m.face; desc = p.d; segment_is = m.segment_is; descriptor_is = p.listing; told_is = refl })

  pub listed_here : get_or firsts k None ≡ None → ⊥
  listed_here h = none-some own.1.desc (sym (none_listed 0 it.name faces (sym first-is ∙ h) g own.1.face own.1.segment_is) ∙ own.1.descriptor_is)

  -- all listings tell alike whether a definition is wanted
  wanted_as : (i p : ℕ) (w : Bool) → get_or firsts k None ≡ Some (i, p) → TellsWanted faces i p w → (told : Listing) → Lists faces g it.name told → wanted told ≡ w
  wanted_as i p w h is-wanted told l =
      let r = first_lister faces it.name i p (sym first-is ∙ h) in
      let there = as_listed r.0.descs r.1 in
      elim (cases_eq i g) [
        | inl e ↦ ap wanted (told_is faces g it.name told there l (subst (λ j. Lists faces j it.name there) e r.4.lists))
        | inr ne ↦ same-bool (wanted told) (wanted there) (λ differ. alike g d i it.name (record { names = it.mine; before = let le = r.4.least g told l in omega (arith, le, ne); here = told; there = there; lists_here = l; lists_there = r.4.lists; differ = λ e. differ (ap wanted e) }))
      ] ∙ sym (is-wanted r.0 r.1 r.2 r.3)

  pub not_wanted : (i p : ℕ) → get_or firsts k None ≡ Some (i, p) → TellsWanted faces i p false → NoneBefore (IsUndefined faces) g d → NoneBefore (IsUndefined faces) g (d + 1)
  not_wanted i p h unwanted none =
      one_more (IsUndefined faces) g d none (λ j n q. true≢false (sym q.wants ∙ wanted_as i p false h unwanted q.told (subst (λ m. Lists faces g m q.told) (same n q.names) q.lists)))

  pub has_definer : (j : ℕ) → get_or definers k None ≡ Some j → NoneBefore (IsUndefined faces) g d → NoneBefore (IsUndefined faces) g (d + 1)
  has_definer j h none =
      let r = first_definer faces it.name j (sym definer-is ∙ h) in
      one_more (IsUndefined faces) g d none (λ i n q. q.none j (subst (Defines faces j) (sym (same n q.names)) r.defines_it))

  pub undefined : (i p : ℕ) → get_or firsts k None ≡ Some (i, p) → TellsWanted faces i p true → get_or definers k None ≡ None → NoneBefore (IsUndefined faces) g d → IsFirstTold (IsUndefined faces) faces g d 0
  undefined i p h is-wanted nowhere none = record {
    name = it.name;
    names = it.mine;
    first = first_here (IsUndefined faces) g d 0 it.name
        (record { names = it.mine; told = own.0; lists = own.1; wants = wanted_as i p true h is-wanted own.0 own.1; none = none_defines faces it.name (sym definer-is ∙ nowhere); alone = refl })
        (λ j n q. omega arith) none;
  }
