-- The bytes of lines, one after another.
use Rattle.std.proofs.Common.{◌≡◌, ℕ, ◌+◌, List, [], ◌∷◌, ◌++◌, length, take, drop, flat_map, refl, sym, ap, ap₂, ◌∙◌}
use Rattle.std.proofs.Math.Seq.{drop-length}
use Rattle.std.proofs.lemmas.List.{drop-drop, take-append-drop}
use Rattle.cw_listing.specs.declared.line.Line.{Line}
use Rattle.cw_listing.specs.Lines.{AreLinesBetween}
use Rattle.cw_listing.specs.Listing.{line_bytes}

-- lines up to the end have the bytes from their first place on
pub bytes_from : (code words : List ℕ) (a : ℕ) (ls : List Line) → AreLinesBetween code words a ls (length code) → flat_map (line_bytes code) ls ≡ drop a code
bytes_from code words a [] e = sym (ap (λ n. drop n code) e ∙ drop-length code)
bytes_from code words a (l ∷ ls) h =
    ap₂ (λ p rest. take l.size (drop p code) ++ rest) h.0.at (bytes_from code words (a + l.size) ls h.1 ∙ sym (drop-drop l.size a code))
    ∙ take-append-drop l.size (drop a code)
