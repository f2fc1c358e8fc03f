-- Acts one after another, whatever an act is: what they need, and the view and the flags behind them, by what is so of one.
use Rattle.std.specs.Prelude.{List, [], ◌∷◌}
use Rattle.cw_i86.specs.declared.flags.Flags.{Flags}
use Rattle.cw_run86.specs.Views.{View}

module _ {Act : Type 0} (after : Act → View → View) where
  abbrev pub NeedsAll : (Needs : Act → View → Type 0) → List Act → View → Type 0
  NeedsAll Needs [] v = Unit {0}
  NeedsAll Needs (a ∷ acts) v = Needs a v × NeedsAll Needs acts (after a v)

  abbrev pub after_all : List Act → View → View
  after_all [] v = v
  after_all (a ∷ acts) v = after_all acts (after a v)

  abbrev pub flags_of_all : (flags_of : Act → View → Flags → Flags) → List Act → View → Flags → Flags
  flags_of_all flags_of [] v f = f
  flags_of_all flags_of (a ∷ acts) v f = flags_of_all flags_of acts (after a v) (flags_of a v f)
