-- Pieces of code one after another, with the offsets at which words of data are still to come behind the last call.
use Rattle.std.proofs.Common.{◌≡◌, ℕ, ◌-◌, ◌==◌, nat_lt, nat_le, if◌then◌else◌, Bool, true, false, not, ◌&&◌}
use Rattle.std.proofs.Common.{◌||◌, List, [], ◌∷◌, ◌++◌, Option, Some, refl, sym, ap, ◌∙◌, true≢false}
use Rattle.std.specs.List.{list_all}
use Rattle.cw_tmpl.specs.declared.pieces.Target.{Target}
use Rattle.cw_tmpl.specs.declared.pieces.Target.TheVariants as target
use Rattle.cw_tmpl.specs.declared.pieces.Coded.{Coded}
use Rattle.cw_tmpl.specs.declared.pieces.Coded.TheVariants as coded
use Rattle.cw_tmpl.specs.Pieces.{size_of, target_of}
use Rattle.cw_listing.specs.Lines.{is_among}
use Rattle.cw_listing.specs.Remarks.{words_behind, named_entries}

-- where words stand behind a piece, from its end
abbrev pub behind_target : Option Target → List ℕ
behind_target (Some (target.LibraryAhead k)) = words_behind k
behind_target _ = []

-- offsets of the places behind so many bytes
abbrev pub passed : (size : ℕ) → List ℕ → List ℕ
passed size [] = []
passed size (o ∷ os) = if nat_lt o size then passed size os else (o - size) ∷ passed size os

-- none is in so many bytes, but at their beginning
abbrev pub is_clear : (size : ℕ) → List ℕ → Bool
is_clear size os = list_all (λ o. o == 0 || nat_le size o) os

-- A word of data stands exactly where one comes, or where it is relocated.
abbrev pub is_due : (coming : List ℕ) → Coded → Bool
is_due coming (coded.Word t) = true
is_due coming (coded.Data n) = is_among coming 0
is_due coming _ = not (is_among coming 0)

-- an entry of the library that is named is one of those with a name
abbrev pub is_entry : Option Target → Bool
is_entry (Some (target.Library k)) = is_among named_entries k
is_entry (Some (target.LibraryAhead k)) = is_among named_entries k
is_entry _ = true

abbrev pub is_told : (coming : List ℕ) → Coded → Bool
is_told coming p = (is_due coming p && is_clear (size_of p) coming) && is_entry (target_of p)

abbrev pub coming_behind : (coming : List ℕ) → Coded → List ℕ
coming_behind coming p = passed (size_of p) coming ++ behind_target (target_of p)

abbrev pub is_none : List ℕ → Bool
is_none [] = true
is_none (o ∷ os) = false

-- all pieces are told, and none comes behind them
abbrev pub are_told : (coming : List ℕ) → List Coded → Bool
are_told coming [] = is_none coming
are_told coming (p ∷ ps) = is_told coming p && are_told (coming_behind coming p) ps

abbrev pub Told : List Coded → Type 0
Told ps = are_told [] ps ≡ true

pub parts : (a b : Bool) → (a && b) ≡ true → (a ≡ true) × (b ≡ true)
parts true true e = (refl, refl)
parts true false e = absurd (true≢false (sym e))
parts false b e = absurd (true≢false (sym e))

pub whole : (a b : Bool) → a ≡ true → b ≡ true → (a && b) ≡ true
whole a b h k = ap (λ x. x && b) h ∙ k

-- pieces, and others behind them
pub both_from : (coming : List ℕ) (ps qs : List Coded) → are_told coming ps ≡ true → Told qs → are_told coming (ps ++ qs) ≡ true
both_from [] [] qs h k = k
both_from (o ∷ os) [] qs h k = absurd (true≢false (sym h))
both_from coming (p ∷ ps) qs h k =
    let s = parts (is_told coming p) (are_told (coming_behind coming p) ps) h in
    whole (is_told coming p) (are_told (coming_behind coming p) (ps ++ qs)) s.0 (both_from (coming_behind coming p) ps qs s.1 k)

pub both : (ps qs : List Coded) → Told ps → Told qs → Told (ps ++ qs)
both ps qs h k = both_from [] ps qs h k
