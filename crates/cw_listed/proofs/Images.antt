-- The image of a program is the library and the codes of its segments, in which words are filled in.
use Rattle.std.proofs.Common.{◌≡◌, ℕ, suc, ◌+◌, ◌<◌, ◌≤◌, List, [], ◌∷◌, ◌++◌, length, map, Some, refl, sym, ap, ◌∙◌, subst, arith, length-append}
use Rattle.std.specs.Prelude.{slice_get}
use Rattle.cw_unit.specs.declared.unit.Unit.{Unit as SourceUnit}
use Rattle.cw_order.specs.declared.order.Order.{Order}
use Rattle.cw_order.specs.declared.order.Order.TheVariants as order
use Rattle.cw_order.specs.declared.order.Orders.{Orders}
use Rattle.cw_order.specs.OrderProgram.{OrderProgram, order_in, order_at}
use Rattle.cw_tmpl.specs.declared.pieces.Coded.{Coded}
use Rattle.cw_tmpl.specs.Library.{library_bytes}
use Rattle.cw_tmpl.specs.Pieces.{Filling, blanks, filled}
use Rattle.cw_tmpl.specs.Templates.{entry_pieces}
use Rattle.cw_tmpl.specs.ReferenceCode.{templates, landings, switches, landings_place, switches_place, names_of, entry_size, pieces_of, orders_code}
use Rattle.cw_tmpl.specs.Named.{is_named_label, is_named_switch}
use Rattle.cw_tmpl.proofs.Filling.{length-filled}
use Rattle.cw_tmpl.proofs.Growing.{blanks-append}
use Rattle.cw_follow.specs.Placing.{AreCodes, no_code, a_code, place_after, IsImage, Codable}
use Rattle.cw_follow.proofs.Fits.{NumberFits, AllFit}
use Rattle.cw_listing.specs.Listing.{listing}
use Rattle.cw_listing.specs.CodeListing.{IsCodeListing, notes_of, words_of}
use Rattle.cw_listed.specs.ProgramLines.{segments_filled, AreCoded, program_code, program_lines}
use Rattle.cw_listed.specs.Shown.{ShowsPieces}
use Rattle.cw_listed.proofs.Coding.{AllFew, segment_coded}

-- the codes of segments, each filled in its own way
record AreFilled (place : ℕ) (os : List Orders) (codes : List ℕ) : Type 0 where
  values : List Filling
  each : length values ≡ length os
  is : codes ≡ segments_filled values place os
  coded : AreCoded os

-- the way on is a place
way_near : {p : OrderProgram} {segment place : ℕ} {os : List Orders} {codes : List ℕ}
    → AreCodes p segment place os codes → place + length codes ≤ 65536 → place_after os place < 65536
way_near no_code le = omega arith
way_near {place = place} (a_code {o = o} {codes = codes} value fills more) le =
    let names = names_of o in
    let rest : List Coded =
    templates names entry_size 0 0 o.list
    ++ (landings names (is_named_label o) (landings_place o) 0 o.labels ++ switches names (is_named_switch o) (switches_place o) 0 o.switches) in
    omega (
      arith,
      length-append (filled value place (pieces_of o)) codes,
      length-filled value place (pieces_of o),
      length-append (blanks entry_pieces) (blanks rest),
      ap length (blanks-append entry_pieces rest),
    )

all_filled : {p : OrderProgram} {segment place : ℕ} {os : List Orders} {codes : List ℕ} → AreCodes p segment place os codes → place + length codes ≤ 65536
    → ((g : ℕ) (o : Orders) → slice_get os g ≡ Some o → AllFit o.list × AllFew o.switches) → AreFilled place os codes
all_filled no_code le fits = record { values = []; each = refl; is = refl; coded = tt }
all_filled {p = p} {segment = segment} {place = place} (a_code {o = o} {os = os} {codes = codes} value fills more) le fits =
    let n = length (blanks (pieces_of o)) in
    let within : place + n + length codes ≤ 65536 = omega
    (arith, le, length-append (filled value place (pieces_of o)) codes, length-filled value place (pieces_of o))
    in
    let rest = all_filled more within (λ g x e. fits (suc g) x e) in
    let own = fits 0 o refl in
    record {
      values = value ∷ rest.values;
      each = ap suc rest.each;
      is = ap (λ l. filled value place (pieces_of o) ++ l) rest.is;
      coded = (segment_coded p segment (place_after os (place + n)) value fills (way_near more within) o own.0 own.1, rest.coded);
    }

-- the numbers of the orders of a program that code can carry out fit
order_fits : (p : OrderProgram) → Codable p → (g : ℕ) (o : Orders) → slice_get p.units g ≡ Some o → AllFit o.list
order_fits p codable g o is k x e =
    let at : order_at p g k ≡ Some x = ap (λ u. order_in u k) is ∙ e in
    (numbers x at, codable.codes g k x at, codable.lines g k x at)
  where
    numbers : (y : Order) → order_at p g k ≡ Some y → NumberFits y
    numbers (order.Const w) at = codable.constants g k w at
    numbers _ at = tt

abbrev pub TellsText : Type 0
TellsText =
    (us : List SourceUnit) (os : List Orders) (values : List Filling) (sources : List (List ℕ)) (text : List ℕ)
    → length os ≤ length us → length values ≡ length os
    → AreCoded os → IsCodeListing (program_code values os) us (map orders_code os) sources text
    → text ≡ listing (program_code values os) (program_lines values os) (notes_of us (map orders_code os) sources) (words_of us (map orders_code os))

pub image_shown : TellsText → (p : OrderProgram) (image : List ℕ) (us : List SourceUnit) (sources : List (List ℕ)) (text : List ℕ) → IsImage p image → Codable p
    → length p.units ≤ length us → IsCodeListing image us (map orders_code p.units) sources text → ShowsPieces p.units image us sources text
image_shown tells p image us sources text i codable few h =
    let L = length library_bytes in
    let within : L + length i.codes ≤ 65536 = omega (arith, i.fits, ap length i.is, length-append library_bytes i.codes) in
    let f = all_filled i.coded within (λ g o is. (order_fits p codable g o is, λ n gs. codable.switches g n o gs is)) in
    let image_is : image ≡ program_code f.values p.units = i.is ∙ ap (λ l. library_bytes ++ l) f.is in
    let cs = map orders_code p.units in
    record {
      values = f.values;
      each = f.each;
      image_is = image_is;
      text_is =
          tells us p.units f.values sources text few f.each f.coded (subst (λ c. IsCodeListing c us cs sources text) image_is h)
          ∙ ap (λ c. listing c (program_lines f.values p.units) (notes_of us cs sources) (words_of us cs)) (sym image_is);
    }
