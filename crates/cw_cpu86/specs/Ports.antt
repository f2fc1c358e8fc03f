-- What the ports of an image tell, and what IN and OUT do to it.
use Rattle.std.specs.Prelude.{◌≡◌, ℕ, ◌<◌, ◌==◌, ◌||◌, Bool, true, false, List, [], ◌∷◌, length, ⊤, All, Option, Some, None, option_map, if◌then◌else◌}
use Rattle.cw_io.specs.Bytes.{after_told}
use Rattle.cw_i86.specs.MachineRun.{Event, Silent, Takes, Gives, taken, left_after, left_behind, FitsInput, is_of_input, asks_input, written, last_given}

-- The input left and the output, where they are told; whether the input is at its end, where port 11h said so and no
-- byte was taken since then; whether port 10h
-- or 11h was used, and whether one of them refused a byte; and the last byte given to each of ports 13h to 16h, 0 where none was.
pub record Device : Type 0 where
  pub left : Option (List ℕ)
  pub at_end : Option Bool
  pub is_used : Bool
  pub is_cut : Bool
  pub held : Option (List ℕ)
  pub kind : ℕ
  pub segment : ℕ
  pub line_low : ℕ
  pub line_high : ℕ

-- ---- one call

abbrev pub AreBytes : List ℕ → Type 0
AreBytes input = All (λ b. b < 256) input

-- an input that may be left, by what was said of its end
abbrev pub MayBeLeft : (at_end : Option Bool) → List ℕ → Type 0
MayBeLeft None input = ⊤
MayBeLeft (Some true) input = input ≡ []
MayBeLeft (Some false) input = 0 < length input

-- A byte that a port may give: that of the input, or, where it isn't told, that of some bytes which may be left.
abbrev pub IsTaken : (left : Option (List ℕ)) → (at_end : Option Bool) → (port value : ℕ) → Type 0
IsTaken (Some input) at_end port value = value ≡ taken port input
IsTaken None at_end port value = (input : List ℕ) × AreBytes input × MayBeLeft at_end input × (value ≡ taken port input)

-- After a byte was taken nothing is known of the end, but where it was there.
abbrev pub unless_there : Option Bool → Option Bool
unless_there (Some true) = Some true
unless_there _ = None

abbrev pub at_end_after : (port value : ℕ) → Option Bool → Option Bool
at_end_after port value at_end =
    if port == 0x10 then unless_there at_end
    else if port == 0x11 then Some (value == 1)
    else at_end

abbrev pub used_at : (port : ℕ) → Device → Device
used_at port d = record d { is_used = d.is_used || is_of_input port }

-- A port that gave no byte was used all the same.
abbrev pub after_refused_take : (port : ℕ) → Device → Device
after_refused_take port d = record (used_at port d) { is_cut = d.is_cut || is_of_input port }

abbrev pub after_take : (port value : ℕ) → Device → Device
after_take port value d = record (used_at port d) { left = option_map (left_after port) d.left; at_end = at_end_after port value d.at_end }

abbrev pub after_give : (port value : ℕ) → Device → Device
after_give port value d = record d {
  held = if port == 0x12 then after_told d.held (value ∷ []) else d.held;
  kind = if port == 0x13 then value else d.kind;
  segment = if port == 0x14 then value else d.segment;
  line_low = if port == 0x15 then value else d.line_low;
  line_high = if port == 0x16 then value else d.line_high;
}

-- ---- a run

-- the ports took part in what a step said to them
abbrev pub Answers : Event → (old new : Device) → Type 0
Answers Silent old new = new ≡ old
Answers (Takes port value) old new = IsTaken old.left old.at_end port value × (new ≡ after_take port value old)
Answers (Gives port value) old new = new ≡ after_give port value old

-- what is known of the end after these events
abbrev pub at_end_behind : List Event → Option Bool → Option Bool
at_end_behind [] at_end = at_end
at_end_behind (Takes port value ∷ events) at_end = at_end_behind events (at_end_after port value at_end)
at_end_behind (event ∷ events) at_end = at_end_behind events at_end

-- the bytes taken are those of some bytes each, by what is known of the end
abbrev pub FitsUntold : (at_end : Option Bool) → List Event → Type 0
FitsUntold at_end [] = Unit {0}
FitsUntold at_end (Takes port value ∷ events) = IsTaken None at_end port value × FitsUntold (at_end_after port value at_end) events
FitsUntold at_end (event ∷ events) = FitsUntold at_end events

-- the bytes taken are those of the input, where it is told
abbrev pub FitsTold : (left : Option (List ℕ)) → (at_end : Option Bool) → List Event → Type 0
FitsTold (Some input) at_end events = FitsInput input events
FitsTold None at_end events = FitsUntold at_end events

-- the ports after all that was said to them
pub record Follows (events : List Event) (old new : Device) : Type 0 where
  pub fits : FitsTold old.left old.at_end events
  pub left : new.left ≡ option_map (left_behind events) old.left
  pub at_end : new.at_end ≡ at_end_behind events old.at_end
  pub is_used : new.is_used ≡ (old.is_used || asks_input events)
  pub is_cut : new.is_cut ≡ old.is_cut
  pub held : new.held ≡ after_told old.held (written events)
  pub kind : new.kind ≡ last_given 0x13 events old.kind
  pub segment : new.segment ≡ last_given 0x14 events old.segment
  pub line_low : new.line_low ≡ last_given 0x15 events old.line_low
  pub line_high : new.line_high ≡ last_given 0x16 events old.line_high
