-- The storage map of segments, or the first reason why they have none.
use Rattle.std.specs.Prelude.{◌≡◌, ◌≤◌, ◌<◌, ℕ, ◌+◌, ◌-◌, ◌^◌, min, List, Some, None, Result, Ok, Err}
use Rattle.cw_unit.specs.declared.layout.Limits.{Limits}
use Rattle.cw_unit.specs.declared.layout.Map.{Map}
use Rattle.cw_unit.specs.Allocation.{SegmentStorage, map_of}
use Rattle.cw_place.specs.declared.space.Space.{Space}
use Rattle.cw_place.specs.declared.space.PlaceFault.{PlaceFault}
use Rattle.cw_place.specs.declared.space.PlaceFault.TheVariants.{AbsoluteOutside, DataTooBig, ControlTooBig, NoMemory}
use Rattle.cw_place.specs.Fitting.{first_outside, control_words}

-- a number of words, as far as 64 bits tell it
abbrev pub told_words : ℕ → ℕ
told_words n = min n (2 ^ 64 - 1)

abbrev pub IsLimits : Limits → Type 0
IsLimits limits = (limits.frames ≤ limits.area) × (limits.area ≤ 32768)

-- the absolute families end before the frame area
abbrev pub NoneOutside : List Space → Limits → Type 0
NoneOutside spaces limits = first_outside (limits.area - limits.frames) 1 spaces ≡ None

-- the families and the frame area have room
abbrev pub FitsData : List SegmentStorage → Limits → Type 0
FitsData ss limits = (map_of ss).end + limits.frames ≤ limits.area

-- the control stack has room
abbrev pub FitsControl : List Space → Limits → Type 0
FitsControl spaces limits = control_words limits.depth spaces ≤ 32000

-- the first fault
abbrev pub IsFirstFault : List SegmentStorage → List Space → Limits → PlaceFault → Type 0
IsFirstFault ss spaces limits (AbsoluteOutside segment address) = first_outside (limits.area - limits.frames) 1 spaces ≡ Some (segment, address)
IsFirstFault ss spaces limits (DataTooBig need) =
    NoneOutside spaces limits × (limits.area < (map_of ss).end + limits.frames) × (need ≡ told_words ((map_of ss).end + limits.frames))
IsFirstFault ss spaces limits (ControlTooBig need) =
    NoneOutside spaces limits × FitsData ss limits × (32000 < control_words limits.depth spaces) × (need ≡ control_words limits.depth spaces)
IsFirstFault ss spaces limits NoMemory = Unit {0}

abbrev pub AnswersPlace : List SegmentStorage → List Space → Limits → Result Map PlaceFault → Type 0
AnswersPlace ss spaces limits (Ok map) = NoneOutside spaces limits × FitsData ss limits × FitsControl spaces limits × (map ≡ map_of ss)
AnswersPlace ss spaces limits (Err fault) = IsFirstFault ss spaces limits fault
