-- What is asked of the frames of a unit.
use Rattle.std.specs.Prelude.{◌≡◌, ℕ, ◌<◌, ◌≤◌, length, Some, slice_get}
use Rattle.cw_unit.specs.declared.unit.Unit.{Unit as SourceUnit}
use Rattle.cw_unit.specs.declared.unit.Item.{Item}
use Rattle.cw_unit.specs.declared.unit.Home.TheVariants as home
use Rattle.cw_unit.specs.Storage.{frame_size}

-- an item of a frame belongs to a procedure of the unit
abbrev pub FramesOwned : SourceUnit → Type 0
FramesOwned u = (i : ℕ) (x : Item) (q : ℕ) → slice_get u.items i ≡ Some x → x.home ≡ home.Frame → x.owner ≡ Some q → q < length u.procs

-- the frame of each procedure has at most 32,768 words
abbrev pub FramesFit : SourceUnit → Type 0
FramesFit u = (q : ℕ) → q < length u.procs → frame_size u q ≤ 32768
