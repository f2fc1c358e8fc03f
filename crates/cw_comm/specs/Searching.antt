-- The search for the first clash of each kind.
use Rattle.std.specs.Prelude.{◌≡◌, ◌<◌, ℕ, ◌+◌, List, [], length, slice_get, Option, Some, None, MatchOption}
use Rattle.cw_comm.specs.declared.face.Face.{Face}
use Rattle.cw_comm.specs.declared.clash.Clash.{Clash}
use Rattle.cw_comm.specs.declared.clash.Clash.TheVariants as clash
use Rattle.cw_comm.specs.declared.checking.Sought.{Sought}
use Rattle.cw_comm.specs.declared.checking.Sought.TheVariants.{Difference, SecondDefinition, Undefined}
use Rattle.cw_comm.specs.declared.checking.AtHand.{AtHand}
use Rattle.cw_comm.specs.Agreement.{Name, first_twice}
use Rattle.cw_comm.specs.Clashes.{Kind, IsDifference, IsSecondDefinition, IsUndefined, HasNone, NoneBefore}
use Rattle.cw_comm.specs.Tables.{IsNumbering, TellFrom, TellOwn, IsFirstTold}

abbrev pub kind_of : List Face → Sought → Kind
kind_of faces Difference = IsDifference faces
kind_of faces SecondDefinition = IsSecondDefinition faces
kind_of faces Undefined = IsUndefined faces

-- what was looked for before, and not found
abbrev pub SoFar : List Face → Sought → Type 0
SoFar faces Difference = first_twice [] faces ≡ None
SoFar faces SecondDefinition = (first_twice [] faces ≡ None) × HasNone (IsDifference faces)
SoFar faces Undefined = (first_twice [] faces ≡ None) × HasNone (IsDifference faces) × HasNone (IsSecondDefinition faces)

-- a clash of two segments, which count from 0
abbrev pub clash_of : Sought → Name → (earlier later : ℕ) → Clash
clash_of Difference name i j = clash.Differs name (i + 1) (j + 1)
clash_of SecondDefinition name i j = clash.DefinedTwice name (i + 1) (j + 1)
clash_of Undefined name i j = clash.Undefined name

-- the segment at hand is one of those that are told of
pub record IsAtHand (a : AtHand) : Type 0 where
  pub listed : IsNumbering a.listed.now
  pub first : TellFrom a.listed.now 0 a.firsts.now
  pub own : TellOwn a.listed.now a.segment a.own.now
  pub within : a.segment < length a.listed.now.segments.now

pub record IsDescriptor (a : AtHand) (d : ℕ) : Type 0 where
  pub at : IsAtHand a
  pub inside : (f : Face) → slice_get a.listed.now.segments.now a.segment ≡ Some f → d < length f.descs

-- what is found at a descriptor of the segment at hand: the earlier segment of the first clash of a kind
abbrev pub TellsAt : Sought → AtHand → ℕ → Option ℕ → Type 0
TellsAt sought a d found =
    let P = kind_of a.listed.now.segments.now sought in
    NoneBefore P a.segment d → MatchOption found (NoneBefore P a.segment (d + 1)) (IsFirstTold P a.listed.now.segments.now a.segment d)
