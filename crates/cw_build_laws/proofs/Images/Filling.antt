-- The linker fills the words of one segment after another.
use Rattle.std.proofs.Common.{◌≡◌, ℕ, zero, suc, ◌+◌, ◌≤◌, List, [], ◌∷◌, ◌++◌, length, map, refl, sym, ap, ◌∙◌, subst, arith, append_assoc, append-nil}
use Rattle.std.specs.Prelude.{All}
use Rattle.std.proofs.lemmas.List.{length-append}
use Rattle.std.proofs.lemmas.List.Elements.{All-head, All-tail}
use Rattle.cw_unit.specs.declared.unit.Unit.{Unit as SourceUnit}
use Rattle.cw_unit.specs.declared.layout.Limits.{Limits}
use Rattle.cw_unit.specs.declared.layout.Map.{Map}
use Rattle.cw_order.specs.OrderProgram.{OrderProgram}
use Rattle.cw_gen_unit.specs.ReferenceUnits.{unit_orders}
use Rattle.cw_tmpl.specs.declared.pieces.Coded.{Coded}
use Rattle.cw_tmpl.specs.Pieces.{Filling, blanks, relocations, filled, fill}
use Rattle.cw_tmpl.specs.ReferenceCode.{pieces_of}
use Rattle.cw_follow.specs.Placing.{Fills, AreCodes, no_code, a_code, place_after}
use Rattle.cw_link.specs.Contents.{Contents}
use Rattle.cw_link.specs.Relocation.{linked_word}
use Rattle.cw_link.specs.LinkedImage.{joined_code, code_end, filled_from, links_at}
use Rattle.cw_build.specs.Compiled.{contents_of_unit, contents_of_units, code_of}
use Rattle.cw_build_laws.proofs.Images.Given.{Given}

-- what a segment's words get
abbrev pub value_of : List Contents → Limits → (g start : ℕ) → SourceUnit → List SourceUnit → Filling
value_of all limits g start u rest = linked_word (links_at all g start (contents_of_unit u) (contents_of_units rest)) limits

-- The words of each of these segments get what its orders mean.
abbrev pub AllFill : OrderProgram → List Contents → Limits → (g start : ℕ) → List SourceUnit → Type 0
AllFill p all limits g start [] = Unit {0}
AllFill p all limits g start (u ∷ rest) =
    Fills p g (place_after (map unit_orders rest) (start + length (blanks (pieces_of (unit_orders u))))) (value_of all limits g start u rest)
    × AllFill p all limits (g + 1) (start + length (blanks (pieces_of (unit_orders u)))) rest

-- the code behind what stands before it
pub record IsCodes (p : OrderProgram) (g start : ℕ) (front : List ℕ) (rest : List SourceUnit) (image : List ℕ) : Type 0 where
  pub codes : List ℕ
  pub is : image ≡ front ++ codes
  pub coded : AreCodes p g start (map unit_orders rest) codes

module _ (given : Given) (p : OrderProgram) (all : List Contents) (limits : Limits) where
  -- one segment
  one-filled : (value : Filling) (pieces : List Coded) (start : ℕ) (front behind : List ℕ) → start ≡ length front
      → fill value start (relocations 0 pieces) (front ++ (blanks pieces ++ behind)) ≡ (front ++ filled value start pieces) ++ behind
  one-filled value pieces start front behind e =
      ap (λ n. fill value n (relocations 0 pieces) (front ++ (blanks pieces ++ behind))) e
      ∙ given.gives value pieces front behind
      ∙ ap (λ n. front ++ (filled value n pieces ++ behind)) (sym e)
      ∙ sym (append_assoc front (filled value start pieces) behind)

  moved : (value : Filling) (pieces : List Coded) (start : ℕ) (front : List ℕ) → start ≡ length front → start + length (blanks pieces) ≡ length (front ++ filled value start pieces)
  moved value pieces start front e =
      let both = length-append front (filled value start pieces) in
      let long = given.long value start pieces in
      omega (arith, e, both, long)

  pub all-filled : (g start : ℕ) (front : List ℕ) (rest : List SourceUnit) → start ≡ length front → AllFill p all limits g start rest
      → IsCodes p g start front rest (filled_from all limits g start (contents_of_units rest) (front ++ joined_code (contents_of_units rest)))
  all-filled g start front [] e h = record { codes = []; is = refl; coded = no_code }
  all-filled g start front (u ∷ rest) e h =
      let pieces = pieces_of (unit_orders u) in
      let value = value_of all limits g start u rest in
      let next = start + length (blanks pieces) in
      let more = all-filled (g + 1) next (front ++ filled value start pieces) rest (moved value pieces start front e) h.1 in
      record {
        codes = filled value start pieces ++ more.codes;
        is =
            ap (filled_from all limits (g + 1) next (contents_of_units rest)) (one-filled value pieces start front (joined_code (contents_of_units rest)) e)
            ∙ more.is
            ∙ append_assoc front (filled value start pieces) more.codes;
        coded = a_code value h.0 more.coded;
      }
