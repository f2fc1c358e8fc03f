-- The words of data in code, and by what the listing of the code knows them.
use Rattle.std.specs.Prelude.{ℕ, ◌≡◌, ◌+◌, ◌⊎◌, Bool, true, false, List, ◌∷◌, ◌++◌, length, map, flat_map, Some}
use Rattle.cw_unit.specs.declared.layout.Reloc.{Reloc}
use Rattle.cw_unit.specs.declared.unit.Unit.{Unit as SourceUnit}
use Rattle.cw_tmpl.specs.declared.assembling.Code.{Code}
use Rattle.cw_tmpl.specs.declared.pieces.Target.TheVariants as target
use Rattle.cw_tmpl.specs.declared.pieces.Coded.{Coded}
use Rattle.cw_tmpl.specs.declared.pieces.Coded.TheVariants as coded
use Rattle.cw_tmpl.specs.Pieces.{blanks, relocations, target_of}
use Rattle.cw_listing.specs.Lines.{is_among}
use Rattle.cw_listing.specs.CodeListing.{words_of, data_of}
use Rattle.cw_listing.specs.Remarks.{words_behind_call, named_entries}

-- whether a piece of code is a word of data: each other one is an instruction
abbrev pub is_word : Coded → Bool
is_word (coded.Word t) = true
is_word (coded.Data n) = true
is_word _ = false

-- The places that the listing of a program knows to be those of words: of the relocated words of its segments, and of words behind calls of the library.
abbrev pub known_places : List SourceUnit → List Code → List ℕ
known_places us cs = map (λ w. w.place) (words_of us cs) ++ data_of cs

-- A piece stands among pieces, so many bytes behind the beginning of the first one.
pub record Stands (pieces : List Coded) (offset : ℕ) (piece : Coded) : Type 0 where
  pub before : List Coded
  pub behind : List Coded
  pub is : pieces ≡ before ++ (piece ∷ behind)
  pub offset_is : offset ≡ length (blanks before)

-- The places that a listing shows as words in code that stands from a place on, by the relocations of the code: those of the relocated words, and of the
-- words behind calls of the library.
abbrev pub places_behind : (start : ℕ) → List Reloc → List ℕ
places_behind start rs = flat_map (words_behind_call start) rs

abbrev pub word_places : (start : ℕ) → List Reloc → List ℕ
word_places start rs = map (λ r. start + r.place) rs ++ places_behind start rs

-- Where a piece begins, the listing shows a word exactly if the piece is one.
abbrev pub IsKnownData : List Coded → Type 0
IsKnownData pieces = (start offset : ℕ) (piece : Coded) → Stands pieces offset piece
    → is_among (word_places start (relocations 0 pieces)) (start + offset) ≡ is_word piece

-- a word of data stands at a place, in pieces that stand from a place on
pub record HasWord (pieces : List Coded) (start place : ℕ) : Type 0 where
  pub offset : ℕ
  pub piece : Coded
  pub place_is : place ≡ start + offset
  pub stands : Stands pieces offset piece
  pub is : is_word piece ≡ true

-- Behind a call of the library words of data stand at all places at which the listing takes them to be.
abbrev pub HasWordsBehind : List Coded → Type 0
HasWordsBehind pieces = (start place : ℕ) → is_among (places_behind start (relocations 0 pieces)) place ≡ true → HasWord pieces start place

-- The entries of the library that the pieces name have names.
abbrev pub NamesEntries : List Coded → Type 0
NamesEntries pieces = (offset k : ℕ) (piece : Coded) → Stands pieces offset piece
    → (target_of piece ≡ Some (target.Library k)) ⊎ (target_of piece ≡ Some (target.LibraryAhead k)) → is_among named_entries k ≡ true

-- what the listing has to know of code
pub record IsListed (pieces : List Coded) : Type 0 where
  pub known : IsKnownData pieces
  pub behind : HasWordsBehind pieces
  pub named : NamesEntries pieces
