-- One entry more in a table of names.
use Rattle.std.proofs.Common.{◌≡◌, ℕ, ◌+◌, ◌-◌, ◌<◌, ◌≤◌, Bool, true, false, cond, ◌||◌, nat_eq, List, [], ◌∷◌, length, drop, set, get_or, Option, Some, None, slice_get, refl, sym, ap, ap₂, subst, ◌∙◌, arith, inl, inr}
use Rattle.std.specs.Str.{bytes_eq}
use Rattle.std.proofs.lemmas.Bool.{cases_eq, cases_lt, eq-eqb, ne_eqb, false_from_ne_true}
use Rattle.std.proofs.lemmas.List.{get_or_default, drop_more, drop_all, get_or_read, length-map, get_or-set_same, get_or-set_other}
use Rattle.std.proofs.lemmas.Option.{none-some, slice_get_past, slice_get-get_or, slice_get_within, get_or_from_slice_get}
use Rattle.std.proofs.lemmas.Slice.Eq.{bytes_eq-Decides}
use Rattle.cw_unit.specs.Allocation.{name_at}
use Rattle.cw_unit.specs.declared.descriptor.Desc.{Desc}
use Rattle.cw_unit.specs.declared.descriptor.DescBody.TheVariants as bodies
use Rattle.cw_comm.specs.declared.face.Face.{Face}
use Rattle.cw_comm.specs.Agreement.{Name, has_name, defines, definer_from, place_of, places_in}
use Rattle.cw_comm.specs.Clashes.{Names}
use Rattle.cw_comm.specs.Numbered.{AreNumbered, IsOnce}
use Rattle.cw_comm.specs.Tables.{place_from, listed_in, first_listing, defined_in}
use Rattle.cw_comm.proofs.Naming.{HasPlace, listed_once, listed, numbers_at, number_at}

pub same_number : (names : List Name) (x : Name) (k : ℕ) → IsOnce names → HasPlace names x → k < length names → bytes_eq (name_at names k) x ≡ nat_eq k (place_of names x)
same_number names x k once has lt =
    let n = place_of names x in
    elim (cases_eq k n) [
      | inl e ↦ (bytes_eq-Decides (name_at names k) x).1 (ap (name_at names) e ∙ has.there) ∙ sym (eq-eqb k n e)
      | inr ne ↦ false_from_ne_true (bytes_eq (name_at names k) x) (λ t. ne (once k n lt has.within ((bytes_eq-Decides (name_at names k) x).0 t ∙ sym has.there))) ∙ sym (ne_eqb k n ne)
    ]

pub entry : {A : Type 0} (table : List A) (n k : ℕ) (v d : A) → n < length table → get_or (set table n v) k d ≡ cond (nat_eq k n) v (get_or table k d)
entry table n k v d lt =
    elim (cases_eq k n) [
      | inl e ↦ ap (λ i. get_or (set table n v) i d) e ∙ get_or-set_same table n v d lt ∙ sym (ap (λ b. cond b v (get_or table k d)) (eq-eqb k n e))
      | inr ne ↦ get_or-set_other table n k v d ne ∙ sym (ap (λ b. cond b v (get_or table k d)) (ne_eqb k n ne))
    ]

through-listed : (b : Bool) (g d : ℕ) (o : Option ℕ) (old : Option (ℕ × ℕ)) → listed_in g (cond b (Some d) o) old ≡ cond b (Some (g, d)) (listed_in g o old)
through-listed true g d o old = refl
through-listed false g d o old = refl

through-defined : (b c : Bool) (g : ℕ) (old : Option ℕ) → defined_in g (b || c) old ≡ cond b (Some g) (defined_in g c old)
through-defined true c g old = refl
through-defined false c g old = refl

abbrev pub no_face : Face
no_face = record { name = []; descs = []; defined = [] }

abbrev pub no_desc : Desc
no_desc = record { name = []; library = false; over = None; body = bodies.Label }

slice_get_behind : (xs : List ℕ) (i : ℕ) → slice_get xs i ≡ None → length xs ≤ i
slice_get_behind xs i none = elim (cases_lt i (length xs)) [ inl lt ↦ absurd (none-some (get_or xs i 0) (sym none ∙ slice_get-get_or xs i 0 lt)) | inr le ↦ le ]

-- ---- what is read of a segment

module _ (faces : List Face) (g : ℕ) (ds : List ℕ) (face : Face) (e : ds ≡ (get_or faces g face).defined) (f : Face) (is : slice_get faces g ≡ Some f) where
  pub read_defined : ds ≡ f.defined
  read_defined = e ∙ ap (λ (x : Face). x.defined) (get_or_from_slice_get faces g f face is)

  pub read_definition : (n : ℕ) → n < length ds → (n < length f.defined) × (get_or f.defined n 0 ≡ get_or ds n 0)
  read_definition n lt = (omega (arith, lt, ap length read_defined), ap (λ (xs : List ℕ). get_or xs n 0) (sym read_defined))

-- ---- names by their numbers

-- a number stands for a name
pub record IsNumbered (names : List Name) (k : ℕ) (name : Name) : Type 0 where
  pub within : k < length names
  pub there : name_at names k ≡ name

-- the name of a descriptor, and its number
pub record Standing (faces : List Face) (names : List Name) (g d k : ℕ) : Type 0 where
  pub name : Name
  pub mine : Names faces g d name
  pub stands : IsNumbered names k name

module _ (faces : List Face) (names : List Name) (numbers : List (List ℕ)) (num : AreNumbered faces names numbers) where
  pub once : IsOnce names
  once = subst IsOnce (sym num.names_are) (listed_once faces)

  numbers_count : length numbers ≡ length faces
  numbers_count = ap length num.numbers_are ∙ length-map faces (λ x. places_in names x.descs)

  pub read_row : (g : ℕ) (ns : List ℕ) → g < length faces → ns ≡ get_or numbers g [] → ns ≡ get_or numbers g ns
  read_row g ns lt e = let within : g < length numbers = omega (arith, lt, numbers_count) in e ∙ get_or_default numbers g [] ns within

  pub place_there : (g n : ℕ) (f : Face) (d : Desc) → slice_get faces g ≡ Some f → slice_get f.descs n ≡ Some d → HasPlace names d.name
  place_there g n f d is at = subst (λ ns. HasPlace ns d.name) (sym num.names_are) (listed faces g n f d is at)

  pub read_numbers : (g : ℕ) (f : Face) (ns : List ℕ) → slice_get faces g ≡ Some f → ns ≡ get_or numbers g ns → ns ≡ places_in names f.descs
  read_numbers g f ns is e =
      get_or_read numbers g ns (omega (arith, numbers_count, slice_get_within faces g f is)) e [] ∙ ap (λ (xs : List (List ℕ)). get_or xs g []) num.numbers_are ∙ numbers_at names faces g f is

  pub count_is : (g : ℕ) (f : Face) (ns : List ℕ) → slice_get faces g ≡ Some f → ns ≡ get_or numbers g ns → length ns ≡ length f.descs
  count_is g f ns is e = ap length (read_numbers g f ns is e) ∙ length-map f.descs (λ d. place_of names d.name)

  -- the number of a descriptor
  pub number_is : (g n : ℕ) (f : Face) (d : Desc) (ns : List ℕ) → slice_get faces g ≡ Some f → slice_get f.descs n ≡ Some d → ns ≡ get_or numbers g ns → get_or ns n 0 ≡ place_of names d.name
  number_is g n f d ns is at e = ap (λ (xs : List ℕ). get_or xs n 0) (read_numbers g f ns is e) ∙ number_at names f.descs n d at

  numbered : (g n : ℕ) (f : Face) (d : Desc) (k : ℕ) → slice_get faces g ≡ Some f → slice_get f.descs n ≡ Some d → k ≡ get_or (get_or numbers g []) n 0 → IsNumbered names k d.name
  numbered g n f d k is at number =
      let lt : g < length numbers = omega (arith, numbers_count, slice_get_within faces g f is) in
      let has : HasPlace names d.name = place_there g n f d is at in
      let e = number ∙ number_is g n f d (get_or numbers g []) is at (get_or_default numbers g [] (get_or numbers g []) lt) in
      record { within = omega (arith, e, has.within); there = ap (name_at names) e ∙ has.there }

  pub number_within : (g n : ℕ) (ns : List ℕ) → g < length faces → ns ≡ get_or numbers g ns → n < length ns → get_or ns n 0 < length names
  number_within g n ns lg e lt =
      let f : Face = get_or faces g no_face in
      let is : slice_get faces g ≡ Some f = slice_get-get_or faces g no_face lg in
      let d : Desc = get_or f.descs n no_desc in
      let at : slice_get f.descs n ≡ Some d = slice_get-get_or f.descs n no_desc (omega (arith, lt, count_is g f ns is e)) in
      let has = place_there g n f d is at in
      omega (arith, number_is g n f d ns is at e, has.within)

  drop-read : (ds : List Desc) (n : ℕ) (d : Desc) → slice_get ds n ≡ Some d → drop n ds ≡ d ∷ drop (n + 1) ds
  drop-read ds n d at = drop_more ds n d (slice_get_within ds n d at) ∙ ap (λ x. x ∷ drop (n + 1) ds) (get_or_from_slice_get ds n d d at)

  -- the descriptor just before this place
  pub next_listing : (g n : ℕ) (f : Face) (ns : List ℕ) (k m : ℕ) (table : List (Option (ℕ × ℕ))) (old : Option (ℕ × ℕ)) → slice_get faces g ≡ Some f → ns ≡ get_or numbers g ns → n < length ns → n + 1 ≡ m → k < length names → length table ≡ length names
      → get_or table k None ≡ listed_in g (place_from m (name_at names k) (drop m f.descs)) old
      → get_or (set table (get_or ns n 0) (Some (g, n))) k None ≡ listed_in g (place_from n (name_at names k) (drop n f.descs)) old
  next_listing g n f ns k m table old is e lt next lk count h =
      let d : Desc = get_or f.descs n no_desc in
      let at : slice_get f.descs n ≡ Some d = slice_get-get_or f.descs n no_desc (omega (arith, lt, count_is g f ns is e)) in
      let has = place_there g n f d is at in
      let number = number_is g n f d ns is at e in
      let within : get_or ns n 0 < length table = omega (arith, number, has.within, count) in
      let same : nat_eq k (get_or ns n 0) ≡ bytes_eq (name_at names k) d.name = ap (nat_eq k) number ∙ sym (same_number names d.name k once has lk) in
      let rest = place_from (n + 1) (name_at names k) (drop (n + 1) f.descs) in
      entry table (get_or ns n 0) k (Some (g, n)) None within
      ∙ ap₂ (λ b o. cond b (Some (g, n)) o) same (h ∙ ap (λ i. listed_in g (place_from i (name_at names k) (drop i f.descs)) old) (sym next))
      ∙ sym (ap (λ ds. listed_in g (place_from n (name_at names k) ds) old) (drop-read f.descs n d at) ∙ through-listed (bytes_eq (name_at names k) d.name) g n rest old)

  pub no_listing : (g n : ℕ) (f : Face) (k : ℕ) (old : Option (ℕ × ℕ)) → length f.descs ≤ n → old ≡ listed_in g (place_from n (name_at names k) (drop n f.descs)) old
  no_listing g n f k old le = sym (ap (λ ds. listed_in g (place_from n (name_at names k) ds) old) (drop_all n f.descs le))

  drop-number : (ds : List ℕ) (n : ℕ) → n < length ds → drop n ds ≡ get_or ds n 0 ∷ drop (n + 1) ds
  drop-number ds n lt = drop_more ds n 0 lt

  -- a definition, of one of the segment's descriptors or of none
  defined-more : (g n m x : ℕ) (f : Face) (k : ℕ) (b : Bool) (new old : Option ℕ) (more : Option ℕ) → n < length f.defined → n + 1 ≡ m → get_or f.defined n 0 ≡ x → has_name (name_at names k) (slice_get f.descs x) ≡ b
      → more ≡ defined_in g (defines (name_at names k) f.descs (drop m f.defined)) old → new ≡ cond b (Some g) more → new ≡ defined_in g (defines (name_at names k) f.descs (drop n f.defined)) old
  defined-more g n m x f k b new old more lt next is named h e =
      let rest = defines (name_at names k) f.descs (drop (n + 1) f.defined) in
      e ∙ ap₂ (λ c o. cond c (Some g) o) (sym named ∙ ap (λ i. has_name (name_at names k) (slice_get f.descs i)) (sym is)) (h ∙ ap (λ i. defined_in g (defines (name_at names k) f.descs (drop i f.defined)) old) (sym next))
      ∙ sym (ap (λ ds. defined_in g (defines (name_at names k) f.descs ds) old) (drop-number f.defined n lt) ∙ through-defined (has_name (name_at names k) (slice_get f.descs (get_or f.defined n 0))) rest g old)

  pub next_definition : (g n x : ℕ) (f : Face) (ns : List ℕ) (number k m : ℕ) (table : List (Option ℕ)) (old : Option ℕ) → slice_get faces g ≡ Some f → ns ≡ get_or numbers g ns → slice_get ns x ≡ Some number → n < length f.defined → n + 1 ≡ m → get_or f.defined n 0 ≡ x → k < length names → length table ≡ length names
      → get_or table k None ≡ defined_in g (defines (name_at names k) f.descs (drop m f.defined)) old
      → get_or (set table number (Some g)) k None ≡ defined_in g (defines (name_at names k) f.descs (drop n f.defined)) old
  next_definition g n x f ns number k m table old is e read lt next defined lk count h =
      let below : x < length f.descs = omega (arith, slice_get_within ns x number read, count_is g f ns is e) in
      let d : Desc = get_or f.descs x no_desc in
      let at : slice_get f.descs x ≡ Some d = slice_get-get_or f.descs x no_desc below in
      let has = place_there g x f d is at in
      let told : number ≡ place_of names d.name = sym (get_or_from_slice_get ns x number 0 read) ∙ number_is g x f d ns is at e in
      let within : number < length table = omega (arith, told, has.within, count) in
      let same : nat_eq k number ≡ bytes_eq (name_at names k) d.name = ap (nat_eq k) told ∙ sym (same_number names d.name k once has lk) in
      defined-more g n m x f k (nat_eq k number) (get_or (set table number (Some g)) k None) old (get_or table k None) lt next defined (ap (has_name (name_at names k)) at ∙ sym same) h (entry table number k (Some g) None within)

  pub skip_definition : (g n x : ℕ) (f : Face) (ns : List ℕ) (k m : ℕ) (table : List (Option ℕ)) (old : Option ℕ) → slice_get faces g ≡ Some f → ns ≡ get_or numbers g ns → slice_get ns x ≡ None → n < length f.defined → n + 1 ≡ m → get_or f.defined n 0 ≡ x
      → get_or table k None ≡ defined_in g (defines (name_at names k) f.descs (drop m f.defined)) old
      → get_or table k None ≡ defined_in g (defines (name_at names k) f.descs (drop n f.defined)) old
  skip_definition g n x f ns k m table old is e read lt next defined h =
      let behind : length f.descs ≤ x = omega (arith, slice_get_behind ns x read, count_is g f ns is e) in
      defined-more g n m x f k false (get_or table k None) old (get_or table k None) lt next defined (ap (has_name (name_at names k)) (slice_get_past f.descs x behind)) h refl

  pub no_definition : (g n : ℕ) (f : Face) (k : ℕ) (old : Option ℕ) → length f.defined ≤ n → old ≡ defined_in g (defines (name_at names k) f.descs (drop n f.defined)) old
  no_definition g n f k old le = sym (ap (λ ds. defined_in g (defines (name_at names k) f.descs ds) old) (drop_all n f.defined le))

-- where a descriptor stands, and the number of its name
pub standing : {faces : List Face} {names : List Name} {numbers : List (List ℕ)} → AreNumbered faces names numbers → (g d k : ℕ) → g < length faces → ((f : Face) → slice_get faces g ≡ Some f → d < length f.descs) → k ≡ get_or (get_or numbers g []) d 0 → Standing faces names g d k
standing {faces = faces} {names = names} {numbers = numbers} num g d k within inside number =
    let f : Face = get_or faces g no_face in
    let is : slice_get faces g ≡ Some f = slice_get-get_or faces g no_face within in
    let x : Desc = get_or f.descs d no_desc in
    let at : slice_get f.descs d ≡ Some x = slice_get-get_or f.descs d no_desc (inside f is) in
    record { name = x.name; mine = record { face = f; desc = x; segment_is = is; descriptor_is = at; name_is = refl }; stands = numbered faces names numbers num g d f x k is at number }

-- ---- the segment just before this place

drop-face : (fs : List Face) (g : ℕ) (f : Face) → slice_get fs g ≡ Some f → drop g fs ≡ f ∷ drop (g + 1) fs
drop-face fs g f is = drop_more fs g f (slice_get_within fs g f is) ∙ ap (λ x. x ∷ drop (g + 1) fs) (get_or_from_slice_get fs g f f is)

-- a table with the entries of one segment more, where one tells what an entry is of a segment and of the entry before
earlier : {A : Type 0} (faces : List Face) (m : ℕ) (one : ℕ → Face → Option A → Option A) (all : ℕ → List Face → Option A) → ((g : ℕ) (f : Face) (fs : List Face) → all g (f ∷ fs) ≡ one g f (all (g + 1) fs)) → (now before : Option A) → 0 < m → m ≤ length faces
    → ((f : Face) → slice_get faces (m - 1) ≡ Some f → now ≡ one (m - 1) f before) → before ≡ all m (drop m faces) → now ≡ all (m - 1) (drop (m - 1) faces)
earlier faces m one all step now before some most told h =
    let g = m - 1 in
    let next : m ≡ g + 1 = omega (arith, some) in
    let f : Face = get_or faces g no_face in
    let is : slice_get faces g ≡ Some f = slice_get-get_or faces g no_face (omega (arith, some, most)) in
    told f is ∙ ap (one g f) (h ∙ ap (λ i. all i (drop i faces)) next) ∙ sym (step g f (drop (g + 1) faces)) ∙ ap (all g) (sym (drop-face faces g f is))

pub earlier_listing : (faces : List Face) (name : Name) (m : ℕ) (now before : Option (ℕ × ℕ)) → 0 < m → m ≤ length faces → ((f : Face) → slice_get faces (m - 1) ≡ Some f → now ≡ listed_in (m - 1) (place_from 0 name f.descs) before) → before ≡ first_listing m name (drop m faces)
    → now ≡ first_listing (m - 1) name (drop (m - 1) faces)
earlier_listing faces name m = earlier faces m (λ g f o. listed_in g (place_from 0 name f.descs) o) (λ g fs. first_listing g name fs) (λ g f fs. refl)

pub earlier_definer : (faces : List Face) (name : Name) (m : ℕ) (now before : Option ℕ) → 0 < m → m ≤ length faces → ((f : Face) → slice_get faces (m - 1) ≡ Some f → now ≡ defined_in (m - 1) (defines name f.descs f.defined) before) → before ≡ definer_from m name (drop m faces)
    → now ≡ definer_from (m - 1) name (drop (m - 1) faces)
earlier_definer faces name m = earlier faces m (λ g f o. defined_in g (defines name f.descs f.defined) o) (λ g fs. definer_from g name fs) (λ g f fs. refl)
