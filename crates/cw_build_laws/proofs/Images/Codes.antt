-- What the linker fills in is what the orders mean.
use Rattle.std.proofs.Common.{◌≡◌, ℕ, zero, suc, ◌+◌, ◌-◌, ◌*◌, ◌%◌, ◌<◌, ◌≤◌, Bool, true, false, List, [], ◌∷◌, ◌++◌, length, map, Option, Some, None, slice_get, refl, sym, ap, ◌∙◌, subst, arith}
use Rattle.std.specs.Prelude.{All, nat_lt, slice_index, slice_index_or}
use Rattle.std.proofs.lemmas.List.Elements.{All-head, All-tail}
use Rattle.cw_unit.specs.declared.unit.Unit.{Unit as SourceUnit}
use Rattle.cw_unit.specs.declared.descriptor.Desc.{Desc}
use Rattle.cw_unit.specs.declared.layout.Limits.{Limits}
use Rattle.cw_unit.specs.declared.layout.Map.{Map}
use Rattle.cw_unit.specs.Allocation.{storage_map}
use Rattle.cw_order.specs.declared.order.Orders.{Orders}
use Rattle.cw_order.specs.OrderProgram.{OrderProgram, defined_at}
use Rattle.cw_order.specs.OrderActions.{home_word}
use Rattle.cw_gen_unit.specs.ReferenceUnits.{unit_orders, orders_program}
use Rattle.cw_tmpl.specs.Library.{places_of_entries, library_bytes, library_entry, entry_place}
use Rattle.cw_tmpl.specs.Pieces.{Filling, blanks}
use Rattle.cw_tmpl.specs.ReferenceCode.{pieces_of}
use Rattle.cw_follow.specs.Placing.{base_of, definition_place, Fills, place_after}
use Rattle.cw_link.specs.Contents.{Contents}
use Rattle.cw_link.specs.Relocation.{word, word_less, entry_or_zero}
use Rattle.cw_link.specs.LinkedImage.{linked_map, definition_address, next_entry, code_end}
use Rattle.cw_build.specs.Compiled.{contents_of_unit, contents_of_units, code_of}
use Rattle.cw_build_laws.proofs.Images.Given.{Given}
use Rattle.cw_build_laws.proofs.Images.Definitions.{IsTold, IsRest, all-rest, orders-at, one-less, definition-same}
use Rattle.cw_build_laws.proofs.Images.Filling.{value_of, AllFill}

twice_word : (n : ℕ) → (2 * n) % 65536 ≡ 2 * (n % 65536) % 65536
twice_word n = omega arith

found_there : (places : List ℕ) (k : ℕ) → k < length places → entry_or_zero (slice_get places k) ≡ slice_index places k
found_there [] k lt = absurd (omega (arith, lt))
found_there (x ∷ xs) zero lt = refl
found_there (x ∷ xs) (suc k) lt = found_there xs k (let z : k < length xs = omega (arith, lt) in z)

entry_filled : (k : ℕ) → k < length places_of_entries → entry_or_zero (library_entry k) ≡ entry_place k
entry_filled = found_there places_of_entries

-- ---- the way on

-- whether there are bytes
abbrev are-some : List ℕ → Bool
are-some [] = false
are-some (b ∷ bs) = true

some-long : (bs : List ℕ) → are-some bs ≡ true → 1 ≤ length bs
some-long [] e = cc
some-long (b ∷ bs) e = omega arith

-- each segment has code
has-code : (o : Orders) → 1 ≤ length (blanks (pieces_of o))
has-code o = some-long (blanks (pieces_of o)) refl

-- the codes of segments end behind where they begin
end-behind : (us : List SourceUnit) (start : ℕ) → start ≤ code_end start (contents_of_units us)
end-behind [] start = omega arith
end-behind (u ∷ us) start =
    let rest = end-behind us (start + length (code_of u).bytes) in
    omega (arith, rest)

small-word : (n : ℕ) → n < 65536 → word (n + 0) ≡ n
small-word n lt = omega (arith, lt)

next-same : (rest : List SourceUnit) (start : ℕ) → code_end start (contents_of_units rest) ≤ 65536 → next_entry start (contents_of_units rest) ≡ place_after (map unit_orders rest) start
next-same [] start fits = refl
next-same (u ∷ rest) start fits =
    below start (length (code_of u).bytes) (code_end (start + length (code_of u).bytes) (contents_of_units rest)) (has-code (unit_orders u)) (end-behind rest (start + length (code_of u).bytes)) fits
  where
    below : (s n e : ℕ) → 1 ≤ n → s + n ≤ e → e ≤ 65536 → word (s + 0) ≡ s
    below s n e some behind most = small-word s (omega (arith, some, behind, most))

-- ---- one segment

module _ (given : Given) (us : List SourceUnit) (limits : Limits) (told : All IsTold us) where
  abbrev m : Map
  m = storage_map us

  abbrev all : List Contents
  all = contents_of_units us

  abbrev orders : OrderProgram
  orders = orders_program us m limits 32000

  home-same : (g family offset : ℕ) → word (slice_index (slice_index_or (linked_map all).homes g []) family + offset) ≡ home_word m g family offset
  home-same g family offset = ap (λ (x : Map). word (slice_index (slice_index_or x.homes g []) family + offset)) (given.map_is us)

  bytes-same : (g family offset : ℕ) → word (2 * (slice_index (slice_index_or (linked_map all).homes g []) family + offset)) ≡ 2 * home_word m g family offset % 65536
  bytes-same g family offset =
      twice_word (slice_index (slice_index_or (linked_map all).homes g []) family + offset) ∙ ap (λ n. 2 * n % 65536) (home-same g family offset)

  address-at : (g d : ℕ) (u : SourceUnit) → slice_get us g ≡ Some u → slice_index (map (λ (x : Desc). definition_address all x.name) u.descs) d ≡ definition_place orders (defined_at orders g d)
  address-at g d u is = definition-same us m limits g d u is told

  fills : (g start : ℕ) (u : SourceUnit) (rest : List SourceUnit) → IsRest us m limits g start (u ∷ rest) → code_end (start + length (code_of u).bytes) (contents_of_units rest) ≤ 65536
      → Fills orders g (place_after (map unit_orders rest) (start + length (blanks (pieces_of (unit_orders u))))) (value_of all limits g start u rest)
  fills g start u rest r fits =
      let z : g ≡ g + 0 = omega arith in
      let is : slice_get us g ≡ Some u = ap (slice_get us) z ∙ r.at 0 in
      record {
        homes = λ family offset after. home-same g family offset;
        bytes = λ family offset after. bytes-same g family offset;
        places = λ add after. ap (λ n. word (n + add)) r.place;
        definitions = λ d after. address-at g d u is;
        ahead = λ d after. ap (λ n. word_less n after) (address-at g d u is);
        library = λ entry after lt. ap (λ n. word_less n after) (entry_filled entry lt);
        area = λ after. refl;
        frames = λ after. refl;
        depth = λ after. refl;
        number = λ after. refl;
        next_is = λ after. next-same rest (start + length (code_of u).bytes) fits;
      }

  -- ---- all segments

  fill-from : (g start : ℕ) (rest : List SourceUnit) → IsRest us m limits g start rest → code_end start (contents_of_units rest) ≤ 65536 → AllFill orders all limits g start rest
  fill-from g start [] r fits = tt
  fill-from g start (u ∷ rest) r fits =
      (fills g start u rest r fits, fill-from (g + 1) (start + length (code_of u).bytes) rest (one-less us m limits g start u rest r) fits)

  pub all-fill : code_end (length library_bytes) (contents_of_units us) ≤ 65536 → AllFill orders all limits 0 (length library_bytes) us
  all-fill fits = fill-from 0 (length library_bytes) us (all-rest us m limits) fits
