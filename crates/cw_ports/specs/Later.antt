-- How the two sides of the ports may stand later.
use Rattle.std.specs.Prelude.{◌≡◌, ℕ, ◌+◌, ◌-◌, ◌^◌, ◌≤◌, Bool, true, false, List, Option, None}
use Rattle.cw_io.specs.Count.{Rose}
use Rattle.cw_ports.specs.Pieces.{Took, Wrote, input_limit}
use Rattle.cw_ports.specs.declared.supply.Supply.{Supply}
use Rattle.cw_ports.specs.declared.supply.Supply.TheVariants.{Open, Faulty, TooLong}

-- ---- the input

-- The loan of the source by its name, the bytes that it has left, where they are told, the count of its faults, how many bytes were taken, and how it stands.
pub record InputSide : Type 0 where
  pub name : ℕ
  pub left : Option (List ℕ)
  pub faults : ℕ
  pub taken : ℕ
  pub supply : Supply

abbrev pub input_side : (name : ℕ) → (left : Option (List ℕ)) → (faults taken : ℕ) → Supply → InputSide
input_side name left faults taken supply = record { name = name; left = left; faults = faults; taken = taken; supply = supply }

-- a fault comes only where the count rose, and too many bytes are exactly one over the limit
abbrev pub SupplyCause : Supply → (faults : ℕ) → InputSide → Type 0
SupplyCause Open faults b = (b.faults ≡ faults) × (b.taken ≤ input_limit)
SupplyCause Faulty faults b = Rose faults b.faults × (b.taken ≤ input_limit)
SupplyCause TooLong faults b = b.taken ≡ input_limit + 1

pub record InputGoes (a b : InputSide) : Type 0 where
  pub name : b.name ≡ a.name
  pub took : Took a.left b.left a.taken b.taken
  pub cause : SupplyCause b.supply a.faults b

-- the same source after any number of calls; nothing more happens where it is no more open
abbrev pub InputFrom : Supply → (a b : InputSide) → Type 0
InputFrom Open a b = a.taken ≤ input_limit → InputGoes a b
InputFrom _ a b = b ≡ a

abbrev pub InputLater : (a b : InputSide) → Type 0
InputLater a b = InputFrom a.supply a b

-- Nothing was asked of the input: what is left to the program is what the source has.
pub record IsUnread (left : Option (List ℕ)) (at_end : Option Bool) (is_used is_cut : Bool) (a : InputSide) : Type 0 where
  pub same_left : left ≡ a.left
  pub unknown : at_end ≡ None
  pub unused : is_used ≡ false
  pub uncut : is_cut ≡ false
  pub taken : a.taken ≡ 0
  pub supply : a.supply ≡ Open

-- ---- the output

-- The loan of the sink by its name, the bytes that it holds, where they are told, the count of its faults, and whether it failed.
pub record OutputSide : Type 0 where
  pub name : ℕ
  pub held : Option (List ℕ)
  pub faults : ℕ
  pub is_broken : Bool

abbrev pub output_side : (name : ℕ) → (held : Option (List ℕ)) → (faults : ℕ) → Bool → OutputSide
output_side name held faults is_broken = record { name = name; held = held; faults = faults; is_broken = is_broken }

abbrev pub OutputCause : Bool → (faults faults' : ℕ) → Type 0
OutputCause false faults faults' = faults' ≡ faults
OutputCause true faults faults' = Rose faults faults'

pub record OutputGoes (a b : OutputSide) : Type 0 where
  pub name : b.name ≡ a.name
  pub wrote : Wrote a.held b.held
  pub cause : OutputCause b.is_broken a.faults b.faults

abbrev pub OutputFrom : Bool → (a b : OutputSide) → Type 0
OutputFrom false a b = OutputGoes a b
OutputFrom true a b = b ≡ a

abbrev pub OutputLater : (a b : OutputSide) → Type 0
OutputLater a b = OutputFrom a.is_broken a b

-- Nothing was given to the output: what the program wrote is what the sink holds.
pub record IsUnwritten (held : Option (List ℕ)) (o : OutputSide) : Type 0 where
  pub same_held : held ≡ o.held
  pub whole : o.is_broken ≡ false

-- ---- both

-- Where the source failed or gave a byte too many, the sink has not failed and nothing is gathered for it: all that
-- was gathered was written before the input was
-- asked for.
abbrev pub IsSettled : Supply → (gathered : ℕ) → (is_broken : Bool) → Type 0
IsSettled Open gathered is_broken = Unit {0}
IsSettled _ gathered is_broken = (gathered ≡ 0) × (is_broken ≡ false)

-- the two sides after any number of calls, with so many bytes gathered before and then
abbrev pub SidesLater : (a : InputSide) (o : OutputSide) (gathered : ℕ) (b : InputSide) (p : OutputSide) (gathered' : ℕ) → Type 0
SidesLater a o gathered b p gathered' =
    InputLater a b × OutputLater o p × (IsSettled a.supply gathered o.is_broken → IsSettled b.supply gathered' p.is_broken)

-- ---- the count of the ports' faults: 0, and the last value once one of the sides failed

abbrev pub faults_of : Supply → Bool → ℕ
faults_of Open false = 0
faults_of _ _ = 2 ^ 64 - 1
