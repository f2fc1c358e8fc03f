-- Each name that is listed has one number.
use Rattle.std.proofs.Common.{◌≡◌, ℕ, zero, suc, ◌+◌, ◌<◌, ◌≤◌, Bool, true, false, cond, not, ◌||◌, List, [], ◌∷◌, ◌++◌, length, map, drop, get_or, Option, Some, None, append_assoc, slice_get, refl, sym, ap, ap₂, subst, ◌∙◌, arith, inl, inr}
use Rattle.std.specs.Prelude.{unwrap_or}
use Rattle.std.specs.List.{list_any, prefix_len}
use Rattle.std.specs.Str.{bytes_eq}
use Rattle.std.proofs.lemmas.Bool.{cases_lt, lt-ltb, or_right, or_left, true≢false, false≢true}
use Rattle.std.proofs.lemmas.List.{length_push, get_or_append_left, get_or_push, length-map, drop_more}
use Rattle.std.proofs.lemmas.List.Folds.{list_any-append, list_any_at}
use Rattle.std.proofs.lemmas.Option.{none-some, same_Some, slice_get-get_or, slice_get_within, get_or_from_slice_get}
use Rattle.std.proofs.lemmas.Slice.Eq.{bytes_eq-Decides}
use Rattle.cw_unit.specs.Allocation.{name_or_none, name_at}
use Rattle.cw_unit.specs.declared.descriptor.Desc.{Desc}
use Rattle.cw_comm.specs.declared.face.Face.{Face}
use Rattle.cw_comm.specs.declared.face.Agreed.{Agreed}
use Rattle.cw_comm.specs.Agreement.{Name, with_name, names_with, names_from, listed_names, place_of, places_in, all_places, definer_from}
use Rattle.cw_comm.specs.Numbered.{AreNumbered, IsOnce, IsNumberOf}
use Rattle.cw_comm.specs.Clashes.{agreed_of}

-- ---- the number of a name that is listed

abbrev pub is_in : List Name → Name → Bool
is_in names name = list_any (bytes_eq name) names

abbrev before : Name → List Name → ℕ
before name names = prefix_len (λ x. not (bytes_eq name x)) names

record At (names : List Name) (name : Name) : Type 0 where
  within : before name names < length names
  there : get_or names (before name names) [] ≡ name

at-if : (b : Bool) (name x : Name) (xs : List Name) → bytes_eq name x ≡ b → (list_any (bytes_eq name) xs ≡ true → At xs name) → (b || list_any (bytes_eq name) xs) ≡ true → (cond (not b) (1 + before name xs) 0 < suc (length xs)) × (get_or (x ∷ xs) (cond (not b) (1 + before name xs) 0) [] ≡ name)
at-if true name x xs e more h = (omega arith, sym ((bytes_eq-Decides name x).0 e))
at-if false name x xs e more h =
    let a = more h in
    let k : 1 + before name xs ≡ suc (before name xs) = omega arith in
    (omega (arith, a.within), ap (λ n. get_or (x ∷ xs) n []) k ∙ a.there)

at : (names : List Name) (name : Name) → is_in names name ≡ true → At names name
at [] name h = absurd (false≢true h)
at (x ∷ xs) name h = let p = at-if (bytes_eq name x) name x xs refl (at xs name) h in record { within = p.0; there = p.1 }

pub read_name : (names : List Name) (k : ℕ) → k < length names → name_at names k ≡ get_or names k []
read_name names k lt = ap name_or_none (slice_get-get_or names k [] lt)

place-is : (names : List Name) (name : Name) → before name names < length names → place_of names name ≡ before name names
place-is names name lt = ap (λ b. unwrap_or (cond b (Some (before name names)) None) (length names)) (lt-ltb (before name names) (length names) lt)

-- what is known of a name that is listed
pub record HasPlace (names : List Name) (name : Name) : Type 0 where
  pub within : place_of names name < length names
  pub there : name_at names (place_of names name) ≡ name

pub has_place : (names : List Name) (name : Name) → is_in names name ≡ true → HasPlace names name
has_place names name h =
    let a = at names name h in
    let e = place-is names name a.within in
    let within : place_of names name < length names = omega (arith, e, a.within) in
    record { within = within; there = ap (name_at names) e ∙ read_name names (before name names) a.within ∙ a.there }

-- ---- names are listed once

once-push : (names : List Name) (name : Name) → is_in names name ≡ false → IsOnce names → IsOnce (names ++ name ∷ [])
once-push names name absent h j k lj lk e =
    let len = length_push names name in
    let new : get_or (names ++ name ∷ []) (length names) [] ≡ name = get_or_push names name [] (length names) refl in
    let far : (i : ℕ) → i < length names → name_at (names ++ name ∷ []) i ≡ get_or names i [] = λ i lt. read_name (names ++ name ∷ []) i (omega (arith, lt, len)) ∙ get_or_append_left names (name ∷ []) [] i lt in
    let last : (i : ℕ) → length names ≤ i → i < length (names ++ name ∷ []) → name_at (names ++ name ∷ []) i ≡ name = λ i le lt.
    let at_end : i ≡ length names = omega (arith, le, lt, len) in
    read_name (names ++ name ∷ []) i lt ∙ ap (λ n. get_or (names ++ name ∷ []) n []) at_end ∙ new in
    let apart : (i : ℕ) → i < length names → get_or names i [] ≡ name → ⊥ = λ i lt is. true≢false (sym (list_any_at (bytes_eq name) names i [] lt ((bytes_eq-Decides name (get_or names i [])).1 (sym is))) ∙ absent) in
    elim (cases_lt j (length names)) [
      | inl a ↦ elim (cases_lt k (length names)) [
        | inl b ↦ h j k a b (read_name names j a ∙ sym (far j a) ∙ e ∙ far k b ∙ sym (read_name names k b))
        | inr b ↦ absurd (apart j a (sym (far j a) ∙ e ∙ last k b lk))
      ]
      | inr a ↦ elim (cases_lt k (length names)) [
        | inl b ↦ absurd (apart k b (sym (far k b) ∙ sym e ∙ last j a lj))
        | inr b ↦ omega (arith, a, b, lj, lk, len)
      ]
    ]

once-if : (names : List Name) (name : Name) (b : Bool) → is_in names name ≡ b → IsOnce names → IsOnce (cond b names (names ++ name ∷ []))
once-if names name true e h = h
once-if names name false e h = once-push names name e h

once-with : (names : List Name) (ds : List Desc) → IsOnce names → IsOnce (names_with names ds)
once-with names [] h = h
once-with names (d ∷ ds) h = once-with (with_name names d.name) ds (once-if names d.name (is_in names d.name) refl h)

once-from : (names : List Name) (fs : List Face) → IsOnce names → IsOnce (names_from names fs)
once-from names [] h = h
once-from names (f ∷ fs) h = once-from (names_with names f.descs) fs (once-with names f.descs h)

pub listed_once : (faces : List Face) → IsOnce (listed_names faces)
listed_once faces = once-from [] faces (λ j k lj lk e. absurd (omega (arith, lj)))

-- ---- each descriptor's name is listed

kept-if : (names : List Name) (new name : Name) (b : Bool) → is_in names name ≡ true → is_in (cond b names (names ++ new ∷ [])) name ≡ true
kept-if names new name true h = h
kept-if names new name false h = list_any-append (bytes_eq name) names (new ∷ []) ∙ or_left (is_in names name) (is_in (new ∷ []) name) h

kept-with : (names : List Name) (ds : List Desc) (name : Name) → is_in names name ≡ true → is_in (names_with names ds) name ≡ true
kept-with names [] name h = h
kept-with names (d ∷ ds) name h = kept-with (with_name names d.name) ds name (kept-if names d.name name (is_in names d.name) h)

kept-from : (names : List Name) (fs : List Face) (name : Name) → is_in names name ≡ true → is_in (names_from names fs) name ≡ true
kept-from names [] name h = h
kept-from names (f ∷ fs) name h = kept-from (names_with names f.descs) fs name (kept-with names f.descs name h)

added-if : (names : List Name) (name : Name) (b : Bool) → is_in names name ≡ b → is_in (cond b names (names ++ name ∷ [])) name ≡ true
added-if names name true e = e
added-if names name false e =
    list_any-append (bytes_eq name) names (name ∷ []) ∙ or_right (is_in names name) (is_in (name ∷ []) name) (or_left (bytes_eq name name) false ((bytes_eq-Decides name name).1 refl))

in-with : (names : List Name) (ds : List Desc) (n : ℕ) (d : Desc) → slice_get ds n ≡ Some d → is_in (names_with names ds) d.name ≡ true
in-with names [] n d e = absurd (none-some d e)
in-with names (x ∷ ds) zero d e = kept-with (with_name names x.name) ds d.name (subst (λ (y : Desc). is_in (with_name names x.name) y.name ≡ true) (same_Some x d e) (added-if names x.name (is_in names x.name) refl))
in-with names (x ∷ ds) (suc n) d e = in-with (with_name names x.name) ds n d e

in-from : (names : List Name) (fs : List Face) (g n : ℕ) (f : Face) (d : Desc) → slice_get fs g ≡ Some f → slice_get f.descs n ≡ Some d → is_in (names_from names fs) d.name ≡ true
in-from names [] g n f d e h = absurd (none-some f e)
in-from names (x ∷ fs) zero n f d e h = kept-from (names_with names x.descs) fs d.name (in-with names x.descs n d (ap (λ (y : Face). slice_get y.descs n) (same_Some x f e) ∙ h))
in-from names (x ∷ fs) (suc g) n f d e h = in-from (names_with names x.descs) fs g n f d e h

pub listed : (faces : List Face) (g n : ℕ) (f : Face) (d : Desc) → slice_get faces g ≡ Some f → slice_get f.descs n ≡ Some d → HasPlace (listed_names faces) d.name
listed faces g n f d e h = has_place (listed_names faces) d.name (in-from [] faces g n f d e h)

-- ---- numbers of descriptors

pub numbers_at : (names : List Name) (fs : List Face) (g : ℕ) (f : Face) → slice_get fs g ≡ Some f → get_or (all_places names fs) g [] ≡ places_in names f.descs
numbers_at names [] g f e = absurd (none-some f e)
numbers_at names (x ∷ fs) zero f e = ap (λ (y : Face). places_in names y.descs) (same_Some x f e)
numbers_at names (x ∷ fs) (suc g) f e = numbers_at names fs g f e

pub number_at : (names : List Name) (ds : List Desc) (n : ℕ) (d : Desc) → slice_get ds n ≡ Some d → get_or (places_in names ds) n 0 ≡ place_of names d.name
number_at names [] n d e = absurd (none-some d e)
number_at names (x ∷ ds) zero d e = ap (λ (y : Desc). place_of names y.name) (same_Some x d e)
number_at names (x ∷ ds) (suc n) d e = number_at names ds n d e

pub numbers_of_names : (faces : List Face) (g n : ℕ) (f : Face) (d : Desc) → slice_get faces g ≡ Some f → slice_get f.descs n ≡ Some d → IsNumberOf (agreed_of faces) g n d.name
numbers_of_names faces g n f d e h =
    let names = listed_names faces in
    let p = listed faces g n f d e h in
    let is : get_or (get_or (all_places names faces) g []) n 0 ≡ place_of names d.name = ap (λ (ks : List ℕ). get_or ks n 0) (numbers_at names faces g f e) ∙ number_at names f.descs n d h in
    record { within = omega (arith, is, p.within); there = ap (name_at names) is ∙ p.there }

pub number_count : (faces : List Face) (g : ℕ) (f : Face) → slice_get faces g ≡ Some f → length (get_or (agreed_of faces).of g []) ≡ length f.descs
number_count faces g f e = ap length (numbers_at (listed_names faces) faces g f e) ∙ length-map f.descs (λ d. place_of (listed_names faces) d.name)

pub segment_count : (faces : List Face) → length (agreed_of faces).of ≡ length faces
segment_count faces = length-map faces (λ f. places_in (listed_names faces) f.descs)

names-each : (names : List Name) (ds : List Desc) → ((n : ℕ) (d : Desc) → slice_get ds n ≡ Some d → HasPlace names d.name) → map (name_at names) (places_in names ds) ≡ map (λ (d : Desc). d.name) ds
names-each names [] h = refl
names-each names (d ∷ ds) h = ap₂ (λ n ns. n ∷ ns) (h 0 d refl).there (names-each names ds (λ n x at_. h (suc n) x at_))

pub names_told : (faces : List Face) (g : ℕ) (f : Face) → slice_get faces g ≡ Some f → map (name_at (agreed_of faces).names) (get_or (agreed_of faces).of g []) ≡ map (λ (d : Desc). d.name) f.descs
names_told faces g f e =
    ap (map (name_at (listed_names faces))) (numbers_at (listed_names faces) faces g f e) ∙ names-each (listed_names faces) f.descs (λ n d at_. listed faces g n f d e at_)

-- ---- lists of names

-- one more name
pub next_name : (names done : List Name) (n : ℕ) (name : Name) → Some name ≡ slice_get names n → done ++ drop n names ≡ names → (done ++ name ∷ []) ++ drop (n + 1) names ≡ names
next_name names done n name is h =
    append_assoc done (name ∷ []) (drop (n + 1) names)
    ∙ ap (λ x. done ++ x ∷ drop (n + 1) names) (sym (get_or_from_slice_get names n name [] (sym is))) ∙ ap (λ ns. done ++ ns) (sym (drop_more names n [] (slice_get_within names n name (sym is)))) ∙ h

abbrev made : List Name → List (List ℕ) → List (Option ℕ) → Agreed
made names numbers defined = record { names = names; of = numbers; defined = defined }

pub agreed_is : (faces : List Face) (names : List Name) (numbers : List (List ℕ)) (defined : List (Option ℕ)) (listed : List Name) → AreNumbered faces names numbers → listed ≡ names → defined ≡ map (λ name. definer_from 1 name faces) listed → made names numbers defined ≡ agreed_of faces
agreed_is faces names numbers defined listed num same is =
    let of : numbers ≡ all_places (listed_names faces) faces = num.numbers_are ∙ ap (λ ns. all_places ns faces) num.names_are in
    let definers : defined ≡ map (λ name. definer_from 1 name faces) (listed_names faces) = is ∙ ap (map (λ name. definer_from 1 name faces)) (same ∙ num.names_are) in
    λ i. record { names = num.names_are i; of = of i; defined = definers i }

pub ruleset naming = (listed_once, numbers_of_names, number_count, segment_count, names_told)
