-- The linker finds the definition of a name where the orders have it.
use Rattle.std.proofs.Common.{◌≡◌, ℕ, zero, suc, ◌+◌, ◌%◌, ◌<◌, ◌≤◌, Bool, true, false, List, [], ◌∷◌, length, map, take, Option, None, Some, slice_get, refl, sym, ap, ◌∙◌, subst, arith, inl, inr}
use Rattle.std.specs.Prelude.{All, if◌then◌else◌, slice_index, option_map}
use Rattle.std.specs.Str.{bytes_eq}
use Rattle.std.proofs.lemmas.Bool.{cases_lt}
use Rattle.std.proofs.lemmas.List.{length-map}
use Rattle.std.proofs.lemmas.List.Elements.{All-head, All-tail}
use Rattle.cw_unit.specs.declared.unit.Unit.{Unit as SourceUnit}
use Rattle.cw_unit.specs.declared.unit.Proc.{Proc}
use Rattle.cw_unit.specs.declared.unit.Def.{Def}
use Rattle.cw_unit.specs.declared.unit.Def.TheVariants as def
use Rattle.cw_unit.specs.declared.descriptor.Desc.{Desc}
use Rattle.cw_unit.specs.declared.layout.Limits.{Limits}
use Rattle.cw_unit.specs.declared.layout.Map.{Map}
use Rattle.cw_unit.specs.Allocation.{Name}
use Rattle.cw_unit.specs.Program.{name_in, name_of, found_in}
use Rattle.cw_unit.specs.Program as program
use Rattle.cw_order.specs.declared.order.Orders.{Orders}
use Rattle.cw_order.specs.declared.order.LabelMark.{LabelMark}
use Rattle.cw_order.specs.OrderProgram.{OrderProgram, defined_in, defined_at}
use Rattle.cw_gen_expr.specs.UnitTables.{tables_of}
use Rattle.cw_gen_unit.specs.ReferenceUnits.{procedure_marks, unit_orders, orders_program}
use Rattle.cw_tmpl.specs.Names.{Names, way_to_label, label_start, switch_start, procedure_start}
use Rattle.cw_tmpl.specs.Library.{library_bytes}
use Rattle.cw_tmpl.specs.Pieces.{blanks}
use Rattle.cw_tmpl.specs.ReferenceCode.{names_of, label_starts, mark_starts, pieces_of}
use Rattle.cw_follow.specs.Placing.{total_size, base_of, start_in, definition_place}
use Rattle.cw_obj.specs.ReferenceObject.{definitions_of}
use Rattle.cw_obj.specs.ReferenceObject as object
use Rattle.cw_comm.specs.Agreement.{or_else, has_name}
use Rattle.cw_link.specs.Relocation.{word, entry_or_zero}
use Rattle.cw_link.specs.LinkedImage as linked
use Rattle.cw_built.specs.Shared.{IsThere, Defines}
use Rattle.cw_build.specs.Compiled.{code_of, contents_of_units}
use Rattle.cw_build_laws.proofs.Images.Storage.{get-map}

-- ---- where definitions begin in the code of their segment

-- where the code of what defines a descriptor begins
abbrev pub start_of : Orders → Def → ℕ
start_of o (def.Label l) = label_start (names_of o) l
start_of o (def.Switch n) = switch_start (names_of o) n
start_of o (def.Proc q) = procedure_start (names_of o) q

labels-at : (names : Names) (first : ℕ) (ms : List LabelMark) (k : ℕ) → slice_index (label_starts names first ms) k ≡ way_to_label names (first + k) (slice_get ms k)
labels-at names first [] k = refl
labels-at names first (m ∷ ms) zero = let e : first ≡ first + 0 = omega arith in ap (λ n. way_to_label names n (Some m)) e
labels-at names first (m ∷ ms) (suc k) =
    let e : first + 1 + k ≡ first + suc k = omega arith in
    labels-at names (first + 1) ms k ∙ ap (λ n. way_to_label names n (slice_get ms k)) e

map-at : (f : ℕ → ℕ) (xs : List ℕ) (k : ℕ) → k < length xs → slice_index (map f xs) k ≡ f (slice_index xs k)
map-at f [] k lt = absurd (omega (arith, lt))
map-at f (x ∷ xs) zero lt = refl
map-at f (x ∷ xs) (suc k) lt = map-at f xs k (omega (arith, lt))

marks-count : (u : SourceUnit) (p : ℕ) (qs : List Proc) → length (procedure_marks u p qs) ≡ length qs
marks-count u p [] = refl
marks-count u p (q ∷ qs) = ap suc (marks-count u (suc p) qs)

place-same : (u : SourceUnit) (x : Def) → IsThere u x → object.definition_place (code_of u) x ≡ start_of (unit_orders u) x
place-same u (def.Label l) there =
    let o = unit_orders u in
    let e : 0 + l ≡ l = omega arith in
    labels-at (names_of o) 0 o.labels l ∙ ap (λ n. way_to_label (names_of o) n (slice_get o.labels l)) e
place-same u (def.Switch n) there = refl
place-same u (def.Proc q) there =
    let o = unit_orders u in
    map-at (mark_starts o) o.procedures q (subst (λ n. q < n) (sym (marks-count u 0 u.procs)) there)

-- ---- the definitions of a segment

name-test : (name : Name) (ds : List Desc) (d : ℕ) → d < length ds → has_name name (slice_get ds d) ≡ bytes_eq name (name_in (slice_get ds d))
name-test name [] d lt = absurd (omega (arith, lt))
name-test name (x ∷ ds) zero lt = refl
name-test name (x ∷ ds) (suc d) lt = name-test name ds d (omega (arith, lt))

-- each of these definitions is there
abbrev pub AreDefined : SourceUnit → List (ℕ × Def) → Type 0
AreDefined u ds = (k d : ℕ) (x : Def) → slice_get ds k ≡ Some (d, x) → Defines u d x

found-here : (f : Def → ℕ) (s t : Bool) (place : ℕ) (x : Def) (o : Option ℕ) (p : Option Def) → s ≡ t → place ≡ f x → o ≡ option_map f p
    → (if s then Some place else o) ≡ option_map f (if t then Some x else p)
found-here f s t place x o p e h rest = ap (λ b. if b then Some place else o) e ∙ chosen t
  where
    chosen : (b : Bool) → (if b then Some place else o) ≡ option_map f (if b then Some x else p)
    chosen true = ap (λ n. Some n) h
    chosen false = rest

found-same : (u : SourceUnit) (name : Name) (ds : List (ℕ × Def)) → AreDefined u ds
    → linked.definition_in name u.descs (definitions_of (code_of u) ds) ≡ option_map (start_of (unit_orders u)) (program.definition_in u name ds)
found-same u name [] h = refl
found-same u name (d ∷ ds) h =
    let here : Defines u d.0 d.1 = h 0 d.0 d.1 refl in
    found-here (start_of (unit_orders u)) (has_name name (slice_get u.descs d.0)) (bytes_eq name (name_of u d.0)) (object.definition_place (code_of u) d.1) d.1
    (linked.definition_in name u.descs (definitions_of (code_of u) ds)) (program.definition_in u name ds)
    (name-test name u.descs d.0 here.0) (place-same u d.1 here.1) (found-same u name ds (λ k e x is. h (suc k) e x is))

-- ---- a name that is none defines nothing

abbrev HasLetters : Desc → Type 0
HasLetters d = 0 < length d.name

-- each descriptor has a name
abbrev pub HasNames : SourceUnit → Type 0
HasNames u = All HasLetters u.descs

-- what a unit has to tell: its descriptors have names, and what it defines is there
pub record IsTold (u : SourceUnit) : Type 0 where
  pub names : HasNames u
  pub defined : AreDefined u u.defined

not-empty : (name : Name) → 0 < length name → bytes_eq [] name ≡ false
not-empty [] some = absurd (omega (arith, some))
not-empty (c ∷ cs) some = refl

no-name : (ds : List Desc) (d : ℕ) → All HasLetters ds → d < length ds → bytes_eq [] (name_in (slice_get ds d)) ≡ false
no-name [] d h lt = absurd (omega (arith, lt))
no-name (x ∷ ds) zero h lt = not-empty x.name (All-head HasLetters x ds h)
no-name (x ∷ ds) (suc d) h lt = no-name ds d (All-tail HasLetters x ds h) (omega (arith, lt))

none-in : (u : SourceUnit) (ds : List (ℕ × Def)) → HasNames u → AreDefined u ds → program.definition_in u [] ds ≡ None
none-in u [] names h = refl
none-in u (d ∷ ds) names h =
    let here : Defines u d.0 d.1 = h 0 d.0 d.1 refl in
    let no : bytes_eq [] (name_of u d.0) ≡ false = no-name u.descs d.0 names here.0 in
    ap (λ b. if b then Some d.1 else program.definition_in u [] ds) no ∙ none-in u ds names (λ k e x is. h (suc k) e x is)

none-from : (g : ℕ) (us : List SourceUnit) → All IsTold us → program.definition_from [] g us ≡ None
none-from g [] h = refl
none-from g (u ∷ us) h =
    let told = All-head IsTold u us h in
    ap (λ o. found_in g o (program.definition_from [] (g + 1) us)) (none-in u u.defined told.names told.defined) ∙ none-from (g + 1) us (All-tail IsTold u us h)

-- ---- places in the image

total-more : (os : List Orders) (g : ℕ) (o : Orders) → slice_get os g ≡ Some o → total_size (take (g + 1) os) ≡ total_size (take g os) + length (blanks (pieces_of o))
total-more [] g o e = cc
total-more (x ∷ os) zero o e = let same : x ≡ o = cc in let z : length (blanks (pieces_of x)) + 0 ≡ 0 + length (blanks (pieces_of x)) = omega arith in z ∙ ap (λ y. 0 + length (blanks (pieces_of y))) same
total-more (x ∷ os) (suc g) o e =
    let n : suc g + 1 ≡ suc (g + 1) = omega arith in
    ap (λ k. total_size (take k (x ∷ os))) n
    ∙ grow (length (blanks (pieces_of x))) (total_size (take (g + 1) os)) (total_size (take g os)) (length (blanks (pieces_of o))) (total-more os g o e)
  where
    grow : (a b c d : ℕ) → b ≡ c + d → a + b ≡ a + c + d
    grow a b c d h = omega (arith, h)

-- these units are those from number g on, and their code begins at a place
pub record IsRest (us : List SourceUnit) (m : Map) (limits : Limits) (g start : ℕ) (rest : List SourceUnit) : Type 0 where
  pub at : (k : ℕ) → slice_get us (g + k) ≡ slice_get rest k
  pub place : start ≡ base_of (orders_program us m limits 32000) g

plus-zero : (n : ℕ) → n ≡ n + 0
plus-zero n = omega arith

moved-on : (s l a b c : ℕ) → s ≡ l + a → b ≡ a + c → s + c ≡ l + b
moved-on s l a b c e h = omega (arith, e, h)

module _ (us : List SourceUnit) (m : Map) (limits : Limits) where
  abbrev orders : OrderProgram
  orders = orders_program us m limits 32000

  pub all-rest : IsRest us m limits 0 (length library_bytes) us
  all-rest = record {
    at = λ k. let e : 0 + k ≡ k = omega arith in ap (slice_get us) e;
    place = plus-zero (length library_bytes);
  }

  pub orders-at : (g start : ℕ) (u : SourceUnit) (rest : List SourceUnit) → IsRest us m limits g start (u ∷ rest) → slice_get orders.units g ≡ Some (unit_orders u)
  orders-at g start u rest r = let e : g ≡ g + 0 = omega arith in get-map unit_orders us g u (ap (slice_get us) e ∙ r.at 0)

  pub one-less : (g start : ℕ) (u : SourceUnit) (rest : List SourceUnit) → IsRest us m limits g start (u ∷ rest) → IsRest us m limits (g + 1) (start + length (code_of u).bytes) rest
  one-less g start u rest r = record {
    at = λ k. let e : g + 1 + k ≡ g + suc k = omega arith in ap (slice_get us) e ∙ r.at (suc k);
    place =
        moved-on start (length library_bytes) (total_size (take g orders.units)) (total_size (take (g + 1) orders.units)) (length (code_of u).bytes) r.place
        (total-more orders.units g (unit_orders u) (orders-at g start u rest r));
  }

  -- where a definition begins
  place-of : (g : ℕ) (o : Orders) (x : Def) → slice_get orders.units g ≡ Some o → definition_place orders (Some (g, x)) ≡ word (base_of orders g + start_of o x)
  place-of g o (def.Label l) e = ap (λ y. start_in orders g y (λ z. label_start (names_of z) l)) e
  place-of g o (def.Switch n) e = ap (λ y. start_in orders g y (λ z. switch_start (names_of z) n)) e
  place-of g o (def.Proc q) e = ap (λ y. start_in orders g y (λ z. procedure_start (names_of z) q)) e

  -- where one segment has it, or the others do
  first-found : (g start : ℕ) (o : Orders) (found : Option Def) (more : Option ℕ) (others : Option (ℕ × Def)) → slice_get orders.units g ≡ Some o → start ≡ base_of orders g
      → entry_or_zero more ≡ definition_place orders others
      → entry_or_zero (or_else (option_map (λ place. word (start + place)) (option_map (start_of o) found)) more) ≡ definition_place orders (found_in g found others)
  first-found g start o None more others e s rest = rest
  first-found g start o (Some x) more others e s rest = ap (λ n. word (n + start_of o x)) s ∙ sym (place-of g o x e)

  address-from : (g start : ℕ) (rest : List SourceUnit) (name : Name) → IsRest us m limits g start rest → All IsTold rest
      → entry_or_zero (linked.definition_from start name (contents_of_units rest)) ≡ definition_place orders (program.definition_from name g rest)
  address-from g start [] name r h = refl
  address-from g start (u ∷ rest) name r h =
      let told = All-head IsTold u rest h in
      let more = linked.definition_from (start + length (code_of u).bytes) name (contents_of_units rest) in
      ap (λ o. entry_or_zero (or_else (option_map (λ place. word (start + place)) o) more)) (found-same u name u.defined told.defined)
      ∙ first-found g start (unit_orders u) (program.definition_in u name u.defined) more (program.definition_from name (g + 1) rest) (orders-at g start u rest r) r.place
      (address-from (g + 1) (start + length (code_of u).bytes) rest name (one-less g start u rest r) (All-tail IsTold u rest h))

  pub address-same : (name : Name) → All IsTold us → linked.definition_address (contents_of_units us) name ≡ definition_place orders (program.definition_from name 0 us)
  address-same name h = address-from 0 (length library_bytes) us name all-rest h

  -- ---- by descriptors

  at-descriptor : (f : Name → ℕ) (ds : List Desc) (d : ℕ) → d < length ds → slice_index (map (λ (x : Desc). f x.name) ds) d ≡ f (name_in (slice_get ds d))
  at-descriptor f [] d lt = absurd (omega (arith, lt))
  at-descriptor f (x ∷ ds) zero lt = refl
  at-descriptor f (x ∷ ds) (suc d) lt = at-descriptor f ds d (omega (arith, lt))

  past-descriptors : (f : Name → ℕ) (ds : List Desc) (d : ℕ) → length ds ≤ d → slice_index (map (λ (x : Desc). f x.name) ds) d ≡ 0
  past-descriptors f [] d le = refl
  past-descriptors f (x ∷ ds) zero le = absurd (omega (arith, le))
  past-descriptors f (x ∷ ds) (suc d) le = past-descriptors f ds d (omega (arith, le))

  no-descriptor : (ds : List Desc) (d : ℕ) → length ds ≤ d → name_in (slice_get ds d) ≡ []
  no-descriptor [] d le = refl
  no-descriptor (x ∷ ds) zero le = absurd (omega (arith, le))
  no-descriptor (x ∷ ds) (suc d) le = no-descriptor ds d (omega (arith, le))

  abbrev address : Name → ℕ
  address name = linked.definition_address (contents_of_units us) name

  -- what the linker has for a descriptor of a unit is where the orders find its definition
  by-name : (u : SourceUnit) (d : ℕ) → All IsTold us → slice_index (map (λ (x : Desc). address x.name) u.descs) d ≡ definition_place orders (program.definition_from (name_of u d) 0 us)
  by-name u d h =
      elim (cases_lt d (length u.descs)) [
        | inl lt ↦ at-descriptor address u.descs d lt ∙ address-same (name_of u d) h
        | inr le ↦ past-descriptors address u.descs d le
            ∙ sym (ap (λ n. definition_place orders (program.definition_from n 0 us)) (no-descriptor u.descs d le) ∙ ap (definition_place orders) (none-from 0 us h))
      ]

  pub definition-same : (g d : ℕ) (u : SourceUnit) → slice_get us g ≡ Some u → All IsTold us
      → slice_index (map (λ (x : Desc). linked.definition_address (contents_of_units us) x.name) u.descs) d ≡ definition_place orders (defined_at orders g d)
  definition-same g d u is h =
      by-name u d h ∙ sym (ap (λ t. definition_place orders (defined_in t d)) (get-map (tables_of us) us g u is))
