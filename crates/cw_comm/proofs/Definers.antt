-- Whether a descriptor is the first that is defined twice.
use Rattle.std.proofs.Common.{◌≡◌, ℕ, zero, suc, ◌+◌, ◌<◌, ◌≤◌, Bool, true, false, cond, List, [], ◌∷◌, length, Option, Some, None, slice_get, get_or, option_map, map, drop, ◌++◌, append_assoc, refl, sym, ap, subst, ◌∙◌, arith, inl, inr}
use Rattle.std.proofs.lemmas.Bool.{cases_lt, true≢false}
use Rattle.std.proofs.lemmas.Option.{none-some, same_Some, slice_get-get_or}
use Rattle.std.proofs.lemmas.List.{drop_more}
use Rattle.cw_unit.specs.Allocation.{name_at}
use Rattle.cw_comm.specs.declared.face.Face.{Face}
use Rattle.cw_comm.specs.Agreement.{Name, defines, definer_from}
use Rattle.cw_comm.specs.Clashes.{Names, Defines, IsSecondDefinition, NoneBefore}
use Rattle.cw_comm.specs.Tables.{defined_in, TellsDefiners, TellsOwn, IsFirstTold}
use Rattle.cw_comm.proofs.Entries.{no_face, Standing}
use Rattle.cw_comm.proofs.Naming.{read_name}
use Rattle.cw_comm.proofs.Firsts.{name_is, one_more, first_here}

-- ---- the first segment that defines a name

abbrev DefinesIt : Name → Face → Bool
DefinesIt name f = defines name f.descs f.defined

record DefinedAt (fs : List Face) (g : ℕ) (name : Name) (i : ℕ) : Type 0 where
  m : ℕ
  f : Face
  segment : i ≡ g + m
  at : slice_get fs m ≡ Some f
  is : DefinesIt name f ≡ true
  before : (m' : ℕ) (f' : Face) → m' < m → slice_get fs m' ≡ Some f' → DefinesIt name f' ≡ false

before-skip : (name : Name) (f : Face) (fs : List Face) (m : ℕ) → DefinesIt name f ≡ false → ((m' : ℕ) (f' : Face) → m' < m → slice_get fs m' ≡ Some f' → DefinesIt name f' ≡ false) → (m' : ℕ) (f' : Face) → m' < suc m → slice_get (f ∷ fs) m' ≡ Some f' → DefinesIt name f' ≡ false
before-skip name f fs m first h zero f' lt at = ap (DefinesIt name) (sym (same_Some f f' at)) ∙ first
before-skip name f fs m first h (suc m') f' lt at = h m' f' (omega (arith, lt)) at

defined-if : (b : Bool) (g i : ℕ) (name : Name) (f : Face) (fs : List Face) → DefinesIt name f ≡ b → (definer_from (g + 1) name fs ≡ Some i → DefinedAt fs (g + 1) name i) → cond b (Some g) (definer_from (g + 1) name fs) ≡ Some i → DefinedAt (f ∷ fs) g name i
defined-if true g i name f fs is more h =
    let e : g ≡ i = same_Some g i h in
    record { m = 0; f = f; segment = omega (arith, e); at = refl; is = is; before = λ m' f' lt at'. absurd (omega (arith, lt)) }
defined-if false g i name f fs is more h =
    let r = more h in
    let skip : (m' : ℕ) (f' : Face) → m' < suc r.m → slice_get (f ∷ fs) m' ≡ Some f' → DefinesIt name f' ≡ false = before-skip name f fs r.m is r.before in
    record { m = suc r.m; f = r.f; segment = omega (arith, r.segment); at = r.at; is = r.is; before = skip }

defined_at : (g i : ℕ) (name : Name) (fs : List Face) → definer_from g name fs ≡ Some i → DefinedAt fs g name i
defined_at g i name [] h = absurd (none-some i h)
defined_at g i name (f ∷ fs) h = defined-if (DefinesIt name f) g i name f fs refl (defined_at (g + 1) i name fs) h

pub record IsFirstDefiner (faces : List Face) (name : Name) (i : ℕ) : Type 0 where
  pub defines_it : Defines faces i name
  pub least : (j : ℕ) → Defines faces j name → i ≤ j

pub first_definer : (faces : List Face) (name : Name) (i : ℕ) → definer_from 0 name faces ≡ Some i → IsFirstDefiner faces name i
first_definer faces name i h =
    let r = defined_at 0 i name faces h in
    let seg : i ≡ r.m = omega (arith, r.segment) in
    record {
      defines_it = record { face = r.f; segment_is = ap (slice_get faces) seg ∙ r.at; defined = r.is };
      least = λ j l.
          elim (cases_lt j r.m) [
            | inl lt ↦ absurd (true≢false (sym l.defined ∙ r.before j l.face lt l.segment_is))
            | inr le ↦ omega (arith, le, seg)
          ];
    }

-- segments counted from one more
next-if : (b : Bool) (g : ℕ) (o o' : Option ℕ) → o' ≡ option_map (λ i. i + 1) o → cond b (Some (g + 1)) o' ≡ option_map (λ i. i + 1) (cond b (Some g) o)
next-if true g o o' h = refl
next-if false g o o' h = h

pub next_definer : (g : ℕ) (name : Name) (fs : List Face) → definer_from (g + 1) name fs ≡ option_map (λ i. i + 1) (definer_from g name fs)
next_definer g name [] = refl
next_definer g name (f ∷ fs) = next-if (DefinesIt name f) g (definer_from (g + 1) name fs) (definer_from (g + 1 + 1) name fs) (next_definer (g + 1) name fs)

-- the definer of one more name
pub one_definer : (faces : List Face) (names : List Name) (n : ℕ) (done : List (Option ℕ)) (all : List (Option ℕ)) (one : Option ℕ) → n < length names → one ≡ definer_from 1 (name_at names n) faces
    → done ++ map (λ name. definer_from 1 name faces) (drop n names) ≡ all → (done ++ one ∷ []) ++ map (λ name. definer_from 1 name faces) (drop (n + 1) names) ≡ all
one_definer faces names n done all one lt is h =
    let f : Name → Option ℕ = λ name. definer_from 1 name faces in
    append_assoc done (one ∷ []) (map f (drop (n + 1) names))
    ∙ ap (λ o. done ++ o ∷ map f (drop (n + 1) names)) (is ∙ ap f (read_name names n lt)) ∙ ap (λ ns. done ++ map f ns) (sym (drop_more names n [] lt)) ∙ h

neither : (b : Bool) (g : ℕ) (o : Option ℕ) → cond b (Some g) o ≡ None → (b ≡ false) × (o ≡ None)
neither true g o h = absurd (none-some g (sym h))
neither false g o h = (refl, h)

none_defined : (g : ℕ) (name : Name) (fs : List Face) → definer_from g name fs ≡ None → (m : ℕ) (f : Face) → slice_get fs m ≡ Some f → DefinesIt name f ≡ false
none_defined g name [] h m f at = absurd (none-some f at)
none_defined g name (x ∷ fs) h zero f at = ap (DefinesIt name) (sym (same_Some x f at)) ∙ (neither (DefinesIt name x) g (definer_from (g + 1) name fs) h).0
none_defined g name (x ∷ fs) h (suc m) f at = none_defined (g + 1) name fs (neither (DefinesIt name x) g (definer_from (g + 1) name fs) h).1 m f at

pub none_defines : (faces : List Face) (name : Name) → definer_from 0 name faces ≡ None → (i : ℕ) → Defines faces i name → ⊥
none_defines faces name h i l = true≢false (sym l.defined ∙ none_defined 0 name faces h i l.face l.segment_is)

-- ---- the table of a segment

own-if : (b : Bool) (g : ℕ) (old : Option ℕ) → ((i : ℕ) → old ≡ Some i → i < g) → defined_in g b old ≡ Some g → b ≡ true
own-if true g old past h = refl
own-if false g old past h = let lt = past g h in absurd (omega (arith, lt))

past-if : (b : Bool) (g i : ℕ) (old : Option ℕ) → (old ≡ Some i → i < g) → defined_in g b old ≡ Some i → i < g + 1
past-if true g i old past h = let e : g ≡ i = same_Some g i h in omega (arith, e)
past-if false g i old past h = let lt = past h in omega (arith, lt)

module _ (faces : List Face) (names : List Name) (g : ℕ) (old new : List (Option ℕ)) (within : g < length faces)
    (told : (k : ℕ) (f : Face) → k < length names → slice_get faces g ≡ Some f → get_or new k None ≡ defined_in g (defines (name_at names k) f.descs f.defined) (get_or old k None))
    (past : (k i : ℕ) → k < length names → get_or old k None ≡ Some i → i < g) where
  abbrev face : Face
  face = get_or faces g no_face

  there : slice_get faces g ≡ Some face
  there = slice_get-get_or faces g no_face within

  pub own_entries : length new ≡ length names → TellsOwn names faces g new
  own_entries count = record {
    count = count;
    at = λ k lk. (
      λ e. record { face = face; segment_is = there; defined = own-if (DefinesIt (name_at names k) face) g (get_or old k None) (λ i. past k i lk) (sym (told k face lk there) ∙ e) },
      λ l. told k l.face lk l.segment_is ∙ ap (λ b. defined_in g b (get_or old k None)) l.defined,
    );
  }

  pub next_past : (k i : ℕ) → k < length names → get_or new k None ≡ Some i → i < g + 1
  next_past k i lk e = past-if (DefinesIt (name_at names k) face) g i (get_or old k None) (past k i lk) (sym (told k face lk there) ∙ e)

-- ---- a descriptor

module _ {faces : List Face} {names : List Name} {definers here : List (Option ℕ)} (td : TellsDefiners names faces definers) (g : ℕ) (th : TellsOwn names faces g here) (d k : ℕ) (it : Standing faces names g d k) where
  first-is : get_or definers k None ≡ definer_from 0 it.name faces
  first-is = td.at k it.stands.within ∙ ap (λ n. definer_from 0 n faces) it.stands.there

  same : (i j : ℕ) (n : Name) → Names faces g d n → Defines faces j n → Defines faces j it.name
  same i j n p l = subst (Defines faces j) (name_is faces g d n it.name p it.mine) l

  pub not_here : (get_or here k None ≡ Some g → ⊥) → NoneBefore (IsSecondDefinition faces) g d → NoneBefore (IsSecondDefinition faces) g (d + 1)
  not_here foreign none = one_more (IsSecondDefinition faces) g d none (λ i n p. foreign ((th.at k it.stands.within).1 (subst (Defines faces g) (sym it.stands.there) (same i g n p.names p.defines_here))))

  pub no_definer : get_or definers k None ≡ None → NoneBefore (IsSecondDefinition faces) g d → NoneBefore (IsSecondDefinition faces) g (d + 1)
  no_definer h none = one_more (IsSecondDefinition faces) g d none (λ i n p. none_defines faces it.name (sym first-is ∙ h) i (same i i n p.names p.defines_there))

  pub none_earlier : (i : ℕ) → get_or definers k None ≡ Some i → g ≤ i → NoneBefore (IsSecondDefinition faces) g d → NoneBefore (IsSecondDefinition faces) g (d + 1)
  none_earlier i h le none =
      let r = first_definer faces it.name i (sym first-is ∙ h) in
      one_more (IsSecondDefinition faces) g d none (λ j n p. let m = r.least j (same j j n p.names p.defines_there) in omega (arith, m, le, p.before))

  pub second : (i : ℕ) → get_or here k None ≡ Some g → get_or definers k None ≡ Some i → i < g → NoneBefore (IsSecondDefinition faces) g d → IsFirstTold (IsSecondDefinition faces) faces g d i
  second i own h lt none =
      let r = first_definer faces it.name i (sym first-is ∙ h) in
      record {
        name = it.name;
        names = it.mine;
        first = first_here (IsSecondDefinition faces) g d i it.name
            (record { names = it.mine; before = lt; defines_here = subst (Defines faces g) it.stands.there ((th.at k it.stands.within).0 own); defines_there = r.defines_it })
            (λ j n p. r.least j (same j j n p.names p.defines_there)) none;
      }
