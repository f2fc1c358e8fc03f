-- The places of labels, as they are found body after body.
use Rattle.std.specs.Prelude.{ℕ, suc, nat_eq, List, [], ◌∷◌, Bool, true, false, Option, Some, None}
use Rattle.cw_unit.specs.declared.unit.Label.{Label}
use Rattle.cw_gen_unit.specs.ReferenceUnits.{place_of}

-- the segment's body, or that of the same procedure
abbrev pub same_body : Option ℕ → Option ℕ → Bool
same_body None None = true
same_body (Some p) (Some q) = nat_eq p q
same_body _ _ = false

abbrev pub placed_or : Bool → Option ℕ → ℕ → ℕ
placed_or true (Some q) z = q
placed_or _ _ z = z

-- each label of a body, from this one on, gets the place where it stands there, if it does
abbrev pub labels_placed : (label : ℕ) → List Label → (who : Option ℕ) → List (ℕ × ℕ) → List ℕ → List ℕ
labels_placed l [] who ps zs = zs
labels_placed l (m ∷ ms) who ps [] = []
labels_placed l (m ∷ ms) who ps (z ∷ zs) = placed_or (same_body m.proc who) (place_of l ps) z ∷ labels_placed (suc l) ms who ps zs

-- whether a label is one of a body
abbrev pub belongs_to : Option Label → (who : Option ℕ) → Bool
belongs_to None who = false
belongs_to (Some m) who = same_body m.proc who
