-- How the rows of a program's graph are built. A head is the specification of a parameter that is called, with a number in the order in which
-- heads are first met: behind the nodes, each head has a number.
use Rattle.std.specs.Prelude.{◌≡◌, ℕ, ◌+◌, ◌<◌, ◌⊎◌, List, [], ◌∷◌, ◌++◌, length, map, slice_get, slice_index, Option, Some, None}
use Rattle.cw_unit.specs.declared.unit.Unit.{Unit as SourceUnit}
use Rattle.cw_unit.specs.declared.unit.Proc.{Proc}
use Rattle.cw_unit.specs.declared.descriptor.Spec.{Spec}
use Rattle.cw_keyed.specs.declared.specifications.Specifications.{Specifications}
use Rattle.cw_keyed.specs.Numbered.{number_of, Keeps}
use Rattle.cw_depth.specs.declared.node.Node.{Node}
use Rattle.cw_depth.specs.declared.mention.Mention.{Mention}
use Rattle.cw_depth.specs.declared.mention.Mention.TheVariants as mention
use Rattle.cw_graph.specs.Rows.{StandsIn, row_of}
use Rattle.cw_depth.specs.CallGraph.{segment_of, mentions_of, Mentioned, procedure_at, called_by, handed_by, parameter_of, spec_of}
use Rattle.cw_depth.specs.Numbering.{nodes_of, first_number, IsNumbered}

-- the head of this number is this specification
abbrev pub IsHead : Specifications → ℕ → Spec → Type 0
IsHead heads j s = number_of heads s ≡ Some j

module _ (us : List SourceUnit) (heads : Specifications) (a : Node) where
  -- a number that a mention gives for the row of a node
  pub data Gives (m : Mention) (x : ℕ) : Type 0 where
    by_call : (g q : ℕ) (p : Proc) → called_by us (segment_of a) m ≡ Some (g, q) → procedure_at us g q ≡ Some p → x ≡ first_number us g + q → Gives m x
    by_parameter : (k j : ℕ) (s : Spec) → m ≡ mention.Parameter k → parameter_of us a k ≡ Some s → IsHead heads j s → x ≡ length (nodes_of us) + j → Gives m x

  -- the numbers that a mention has to give
  pub record HasGiven (row : List ℕ) (m : Mention) : Type 0 where
    pub by_call : (g q : ℕ) (p : Proc) → called_by us (segment_of a) m ≡ Some (g, q) → procedure_at us g q ≡ Some p → StandsIn row (first_number us g + q)
    pub by_parameter : (k : ℕ) (s : Spec) → m ≡ mention.Parameter k → parameter_of us a k ≡ Some s
        → (j : ℕ) × (IsHead heads j s × StandsIn row (length (nodes_of us) + j))

  -- the row for the first mentions of a node
  pub record IsRowFor (row : List ℕ) (count : ℕ) : Type 0 where
    pub all : (k : ℕ) (m : Mention) → k < count → slice_get (mentions_of us a) k ≡ Some m → HasGiven row m
    pub only : (x : ℕ) → StandsIn row x → (m : Mention) × (Mentioned us a m × Gives m x)

-- the rows of the first nodes
abbrev pub AreRows : List SourceUnit → Specifications → (rows : List (List ℕ)) → Type 0
AreRows us heads rows = (n : ℕ) (a : Node) → n < length rows → IsNumbered us n a → IsRowFor us heads a (row_of rows n) (length (mentions_of us a))

-- the number of a procedure, where it is there
abbrev pub number_if : List SourceUnit → (segment number : ℕ) → Option Proc → List ℕ
number_if us g q None = []
number_if us g q (Some p) = (first_number us g + q) ∷ []

abbrev pub listed : List SourceUnit → Option (ℕ × ℕ) → List ℕ
listed us None = []
listed us (Some place) = number_if us place.0 place.1 (procedure_at us place.0 place.1)

-- what a mention adds to the row of a node and to the heads
pub record Adds (us : List SourceUnit) (heads heads' : Specifications) (a : Node) (m : Mention) (row row' : List ℕ) : Type 0 where
  pub extends : Keeps heads heads'
  pub kept : (x : ℕ) → StandsIn row x → StandsIn row' x
  pub given : HasGiven us heads' a row' m
  pub only : (x : ℕ) → StandsIn row' x → StandsIn row x ⊎ Gives us heads' a m x

-- the first numbers of the segments
pub record AreFirsts (us : List SourceUnit) (firsts : List ℕ) : Type 0 where
  pub size : length firsts ≡ length us
  pub each : (g : ℕ) → g < length firsts → slice_index firsts g ≡ first_number us g

-- ---- procedures as arguments

abbrev pub Place : Type 0
Place = ℕ × ℕ

abbrev pub place_if : Place → Option Proc → List Place
place_if place None = []
place_if place (Some p) = place ∷ []

-- a place, where there is a procedure
abbrev pub placed : List SourceUnit → Option Place → List Place
placed us None = []
placed us (Some place) = place_if place (procedure_at us place.0 place.1)

abbrev pub joined_places : List (List Place) → List Place
joined_places [] = []
joined_places (ps ∷ more) = ps ++ joined_places more

abbrev pub handed_in : List SourceUnit → Node → List Place
handed_in us a = joined_places (map (λ m. placed us (handed_by us (segment_of a) m)) (mentions_of us a))

-- those in all of these nodes
abbrev pub handed_in_all : List SourceUnit → List Node → List Place
handed_in_all us nodes = joined_places (map (handed_in us) nodes)

-- what the procedure of a place, if it is there, adds to the row of the group of a head
pub record Joins (us : List SourceUnit) (heads : Specifications) (segment number : ℕ) (j : ℕ) (row row' : List ℕ) : Type 0 where
  pub kept : (x : ℕ) → StandsIn row x → StandsIn row' x
  pub all : (p : Proc) → procedure_at us segment number ≡ Some p → IsHead heads j (spec_of p) → StandsIn row' (first_number us segment + number)
  pub only : (x : ℕ) → StandsIn row' x → StandsIn row x
      ⊎ ((p : Proc) × ((procedure_at us segment number ≡ Some p)
      × (IsHead heads j (spec_of p) × (x ≡ first_number us segment + number))))

-- what it adds to the rows of all groups
abbrev pub JoinGroups : List SourceUnit → Specifications → (segment number : ℕ) → (groups groups' : List (List ℕ)) → Type 0
JoinGroups us heads g q groups groups' = (j : ℕ) → Joins us heads g q j (row_of groups j) (row_of groups' j)

-- the row of the group of a head, by the first of these places
pub record IsGroup (us : List SourceUnit) (handed : List Place) (heads : Specifications) (j : ℕ) (row : List ℕ) (count : ℕ) : Type 0 where
  pub all : (i g q : ℕ) (p : Proc) → i < count → slice_get handed i ≡ Some (g, q) → procedure_at us g q ≡ Some p
      → IsHead heads j (spec_of p) → StandsIn row (first_number us g + q)
  pub only : (x : ℕ) → StandsIn row x → (i : ℕ)
      × ((g : ℕ) × ((q : ℕ)
      × ((p : Proc) × ((slice_get handed i ≡ Some (g, q))
      × ((procedure_at us g q ≡ Some p) × (IsHead heads j (spec_of p)
      × (x ≡ first_number us g + q)))))))

-- the rows of the groups of all heads, by the first of these places
abbrev pub AreGroups : List SourceUnit → (handed : List Place) → Specifications → (groups : List (List ℕ)) → (count : ℕ) → Type 0
AreGroups us handed heads groups count = (j : ℕ) → IsGroup us handed heads j (row_of groups j) count
