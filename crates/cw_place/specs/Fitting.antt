-- What has a place: absolute families end before the frame area, and the control stack has room.
use Rattle.std.specs.Prelude.{ℕ, ◌+◌, ◌*◌, max, nat_lt, if◌then◌else◌, List, [], ◌∷◌, Option, Some, None}
use Rattle.cw_unit.specs.declared.layout.Family.{Family}
use Rattle.cw_unit.specs.declared.layout.Sort.{Sort}
use Rattle.cw_unit.specs.declared.layout.Sort.TheVariants as sort
use Rattle.cw_place.specs.declared.space.Space.{Space}

-- ---- absolute families outside

abbrev pub outside_at : (room extent : ℕ) → Sort → Option ℕ
outside_at room extent (sort.Common d) = None
outside_at room extent sort.Own = None
outside_at room extent (sort.Absolute a) = if nat_lt room (a + extent) then Some a else None
outside_at room extent (sort.Frame o) = None

abbrev pub or_else : {A : Type 0} → Option A → Option A → Option A
or_else None y = y
or_else (Some x) y = Some x

-- the address of the first absolute family that ends behind so many words
abbrev pub outside_in : (room : ℕ) → List Family → Option ℕ
outside_in room [] = None
outside_in room (f ∷ fs) = or_else (outside_at room f.extent f.sort) (outside_in room fs)

abbrev pub in_segment : (segment : ℕ) → Option ℕ → Option (ℕ × ℕ)
in_segment g None = None
in_segment g (Some a) = Some (g, a)

-- the first of all segments, where these are those from number g on
abbrev pub first_outside : (room g : ℕ) → List Space → Option (ℕ × ℕ)
first_outside room g [] = None
first_outside room g (s ∷ ss) = or_else (in_segment g (outside_in room s.families)) (first_outside room (g + 1) ss)

-- ---- the control stack

abbrev pub largest_need : List Space → ℕ
largest_need [] = 0
largest_need (s ∷ ss) = max s.need (largest_need ss)

-- one record for each call that may be active and one for the segments' bodies, and 64 words more
abbrev pub control_words : (depth : ℕ) → List Space → ℕ
control_words depth ss = (depth + 1) * largest_need ss + 64
