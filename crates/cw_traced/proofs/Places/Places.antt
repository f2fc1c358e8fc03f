-- The places that a stop has in the objects of units are those of the image at which a statement of its segment and line begins.
use Rattle.std.proofs.Common.{◌≡◌, ℕ, suc, ◌+◌, ◌<◌, ◌≤◌, Bool, true, false, List, [], ◌∷◌, ◌++◌, length, map, Some, slice_get, refl, sym, ap, ap₂, ◌∙◌, arith}
use Rattle.std.specs.Prelude.{◌==◌, ◌&&◌, cond, if◌then◌else◌, All}
use Rattle.std.specs.List.{filter}
use Rattle.std.proofs.lemmas.List.{map-append}
use Rattle.std.proofs.lemmas.List.Elements.{All-head, All-tail, filter-append}
use Rattle.std.proofs.lemmas.Slice.Eq.{bytes_eq-Decides}
use Rattle.cw_unit.specs.declared.unit.Unit.{Unit as SourceUnit}
use Rattle.cw_unit.specs.declared.layout.Limits.{Limits}
use Rattle.cw_unit.specs.Allocation.{is_same_name, storage_map}
use Rattle.cw_order.specs.OrderProgram.{OrderProgram}
use Rattle.cw_gen_unit.specs.ReferenceUnits.{unit_orders, orders_program}
use Rattle.cw_tmpl.specs.Library.{library_bytes}
use Rattle.cw_view.specs.Reading.{statement_in}
use Rattle.cw_image.specs.Begun.{StatementPlace}
use Rattle.cw_follow.specs.Placing.{base_of}
use Rattle.cw_follow.specs.Passing.{moved_places, places_from}
use Rattle.cw_link.specs.Contents.{Contents, values_in}
use Rattle.cw_link.specs.LinkedImage.{code_end}
use Rattle.cw_link.specs.Relocation.{word}
use Rattle.cw_obj.specs.Writable.{AllFrom, IsBegun, behind_number}
use Rattle.cw_object.specs.ObjectContents.{payloads_of}
use Rattle.cw_sim.specs.Statements.{image_places}
use Rattle.cw_build.specs.Compiled.{IsCompilable, code_of, object_of, contents_of_units}
use Rattle.cw_build.specs.Linking.{Links}
use Rattle.cw_build_laws.proofs.Images.Definitions.{IsRest, all-rest, one-less}
use Rattle.cw_stop.specs.declared.stopping.Stop.{Stop}
use Rattle.cw_trace.specs.Statements.{places_of}
use Rattle.cw_watch.specs.Watching.{places_at, segment_places, stop_places}
use Rattle.cw_watch.specs.Watching as watching
use Rattle.cw_traced.specs.Places.Reported.{IsNamed}
use Rattle.cw_traced.proofs.Places.Told.{IsTold, AreTold, all-told}
use Rattle.cw_traced.proofs.Places.Named.{named-alone}

-- ---- by units

-- the places that a line of the segments of a name has in units whose codes stand one after another
abbrev unit_places : (start : ℕ) → (name : List ℕ) → (line : ℕ) → List SourceUnit → List ℕ
unit_places start name line [] = []
unit_places start name line (u ∷ us) = segment_places start name line u.name (code_of u).statements ++ unit_places (start + length (code_of u).bytes) name line us

-- they are those that the objects tell
of-objects : (start : ℕ) (name : List ℕ) (line : ℕ) (us : List SourceUnit) → All IsTold us → watching.places_from start name line (map object_of us) ≡ unit_places start name line us
of-objects start name line [] h = refl
of-objects start name line (u ∷ us) h =
    let told = All-head IsTold u us h in
    let rest = λ (c : Contents). watching.places_from (start + length c.code) name line (map object_of us) in
    ap (λ (c : Contents). segment_places start name line c.name (values_in statement_in (payloads_of 10 (object_of u))) ++ rest c) told.contents
    ∙ ap (λ ss. segment_places start name line u.name ss ++ watching.places_from (start + length (code_of u).bytes) name line (map object_of us)) told.statements
    ∙ ap (λ xs. segment_places start name line u.name (code_of u).statements ++ xs) (of-objects (start + length (code_of u).bytes) name line us (All-tail IsTold u us h))

-- a unit has the name
abbrev HasNamed : List SourceUnit → (name : List ℕ) → Type 0
HasNamed us name = (k : ℕ) × (u : SourceUnit) × (slice_get us k ≡ Some u) × (u.name ≡ name)

first-named : (name : List ℕ) (u : SourceUnit) (us : List SourceUnit) (here more : List ℕ) (b : Bool) → is_same_name u.name name ≡ b → (0 < length more → HasNamed us name)
    → 0 < length ((if b then here else []) ++ more) → HasNamed (u ∷ us) name
first-named name u us here more true is rest some = (0, u, refl, (bytes_eq-Decides u.name name).0 is)
first-named name u us here more false is rest some = let (k, v, at, has) = rest some in (suc k, v, at, has)

-- where there are some, a unit has the name
some-named : (start : ℕ) (name : List ℕ) (line : ℕ) (us : List SourceUnit) → 0 < length (unit_places start name line us) → HasNamed us name
some-named start name line [] some = absurd (omega (arith, some))
some-named start name line (u ∷ us) some =
    let next : ℕ = start + length (code_of u).bytes in
    first-named name u us (places_at start line (code_of u).statements) (unit_places next name line us) (is_same_name u.name name) refl (some-named next name line us) some

-- ---- one segment

small : (n : ℕ) → n < 65536 → word n ≡ n
small n less = omega (arith, less)

inside : (start size place : ℕ) → place < size → start + size ≤ 65536 → start + place < 65536
inside start size place less most = omega (arith, less, most)

module _ (segment line : ℕ) where
  abbrev is_of : StatementPlace → Bool
  is_of x = x.segment == segment && x.line == line

  abbrev place_in : StatementPlace → ℕ
  place_in x = x.place

  -- a statement of the segment
  one-more : (a b : Bool) (x : StatementPlace) (xs : List StatementPlace) (n : ℕ) (ns : List ℕ) → a ≡ true → n ≡ x.place → ns ≡ map place_in xs
      → (if b then n ∷ ns else ns) ≡ map place_in (cond (a && b) (x ∷ xs) xs)
  one-more true true x xs n ns here is rest = ap₂ (λ m ms. m ∷ ms) is rest
  one-more true false x xs n ns here is rest = rest
  one-more false b x xs n ns here is rest = absurd (cc)

  -- one of another segment
  one-less-here : (a b : Bool) (x : StatementPlace) (xs : List StatementPlace) → a ≡ false → map place_in (cond (a && b) (x ∷ xs) xs) ≡ map place_in xs
  one-less-here true b x xs other = absurd (cc)
  one-less-here false b x xs other = refl

  of-segment : (start n : ℕ) (code : List ℕ) (low : ℕ) (ss : List (ℕ × ℕ)) → (n == segment) ≡ true → start + length code ≤ 65536 → AllFrom (IsBegun code) behind_number low ss
      → places_at start line ss ≡ places_of segment line (moved_places start n ss)
  of-segment start n code low [] here most h = refl
  of-segment start n code low (s ∷ ss) here most h =
      one-more (n == segment) (s.1 == line) (record { place = start + s.0; segment = n; line = s.1 }) (filter is_of (moved_places start n ss)) (word (start + s.0)) (places_at start line ss) here
      (small (start + s.0) (inside start (length code) s.0 h.0.inside most)) (of-segment start n code (s.0 + 1) ss here most h.1)

  of-others : (start n : ℕ) (ss : List (ℕ × ℕ)) → (n == segment) ≡ false → places_of segment line (moved_places start n ss) ≡ []
  of-others start n [] other = refl
  of-others start n (s ∷ ss) other =
      one-less-here (n == segment) (s.1 == line) (record { place = start + s.0; segment = n; line = s.1 }) (filter is_of (moved_places start n ss)) other ∙ of-others start n ss other

  of-any : (start n : ℕ) (code : List ℕ) (ss : List (ℕ × ℕ)) (b : Bool) → (n == segment) ≡ b → start + length code ≤ 65536 → AllFrom (IsBegun code) behind_number 0 ss
      → (if b then places_at start line ss else []) ≡ places_of segment line (moved_places start n ss)
  of-any start n code ss true here most h = of-segment start n code 0 ss here most h
  of-any start n code ss false other most h = sym (of-others start n ss other)

  places-append : (xs ys : List StatementPlace) → places_of segment line (xs ++ ys) ≡ places_of segment line xs ++ places_of segment line ys
  places-append xs ys = ap (map place_in) (filter-append is_of xs ys) ∙ map-append place_in (filter is_of xs) (filter is_of ys)

-- ---- all segments

ends-behind : (cs : List Contents) (start : ℕ) → start ≤ code_end start cs
ends-behind [] start = omega arith
ends-behind (c ∷ cs) start = let rest = ends-behind cs (start + length c.code) in omega (arith, rest)

module _ (us : List SourceUnit) (limits : Limits) (segment line : ℕ) (name : List ℕ) (alone : (g : ℕ) (u : SourceUnit) → slice_get us g ≡ Some u → is_same_name u.name name ≡ (g + 1 == segment)) where
  abbrev orders : OrderProgram
  orders = orders_program us (storage_map us) limits 0

  of-rest : (g start : ℕ) (rest : List SourceUnit) → IsRest us (storage_map us) limits g start rest → All IsTold rest → code_end start (contents_of_units rest) ≤ 65536
      → unit_places start name line rest ≡ places_of segment line (places_from orders g (map unit_orders rest))
  of-rest g start [] r told most = refl
  of-rest g start (u ∷ rest) r told most =
      let next : ℕ = start + length (code_of u).bytes in
      let z : g ≡ g + 0 = omega arith in
      let named : (g + 1 == segment) ≡ is_same_name u.name name = sym (alone g u (ap (slice_get us) z ∙ r.at 0)) in
      let fits : next ≤ 65536 = within next (code_end next (contents_of_units rest)) (ends-behind (contents_of_units rest) next) most in
      let here : segment_places start name line u.name (code_of u).statements ≡ places_of segment line (moved_places (base_of orders g) (g + 1) (code_of u).statements) =
      of-any segment line start (g + 1) (code_of u).bytes (code_of u).statements (is_same_name u.name name) named fits (All-head IsTold u rest told).inside
      ∙ ap (λ n. places_of segment line (moved_places n (g + 1) (code_of u).statements)) r.place in
      ap₂ (λ xs ys. xs ++ ys) here (of-rest (g + 1) next rest (one-less us (storage_map us) limits g start u rest r) (All-tail IsTold u rest told) most)
      ∙ sym (places-append segment line (moved_places (base_of orders g) (g + 1) (code_of u).statements) (places_from orders (g + 1) (map unit_orders rest)))
    where
      within : (n e : ℕ) → n ≤ e → e ≤ 65536 → n ≤ 65536
      within n e behind all = omega (arith, behind, all)

-- ---- the laws

module _ (units_told : AreTold) where
  pub places-told : (us : List SourceUnit) (limits : Limits) (segment : ℕ) (stop : Stop) → All IsCompilable us → Links us limits → IsNamed us segment stop.segment
      → stop_places stop (map object_of us) ≡ places_of segment stop.line (image_places us (storage_map us) limits)
  places-told us limits segment stop compiled links (k, u, at, number, name) =
      let told = all-told units_told us compiled in
      of-objects (length library_bytes) stop.segment stop.line us told
      ∙ of-rest us limits segment stop.line stop.segment
      (λ g v there. ap (is_same_name v.name) (sym name) ∙ named-alone us limits links k u at g v there ∙ ap (λ n. g + 1 == n) (sym number))
      0 (length library_bytes) us (all-rest us (storage_map us) limits) told links.code

  pub some-unit : (us : List SourceUnit) (stop : Stop) → All IsCompilable us → 0 < length (stop_places stop (map object_of us)) → (segment : ℕ) × IsNamed us segment stop.segment
  some-unit us stop compiled some =
      let told = all-told units_told us compiled in
      let (k, u, at, name) = some-named (length library_bytes) stop.segment stop.line us (by-units told) in
      (k + 1, (k, u, at, refl, name))
    where
      by-units : All IsTold us → 0 < length (unit_places (length library_bytes) stop.segment stop.line us)
      by-units told = let e = ap (λ ns. length ns) (of-objects (length library_bytes) stop.segment stop.line us told) in omega (arith, e, some)
