-- The nodes of a program by numbers: the bodies in order of the segments, then the procedures in order of the segments and of their numbers.
use Rattle.std.specs.Prelude.{◌≡◌, ℕ, zero, suc, ◌+◌, ◌<◌, ◌≤◌, List, [], ◌∷◌, ◌++◌, length, slice_get, slice_index_or, Some}
use Rattle.cw_unit.specs.declared.unit.Unit.{Unit as SourceUnit}
use Rattle.cw_unit.specs.declared.unit.Proc.{Proc}
use Rattle.cw_depth.specs.declared.node.Node.{Node}
use Rattle.cw_depth.specs.declared.node.Node.TheVariants.{Body, Procedure}
use Rattle.cw_graph.specs.declared.graph.Graph.{Graph}
use Rattle.cw_graph.specs.Rows.{IsWhole, LeadsTo}
use Rattle.cw_depth.specs.CallGraph.{Leads}

abbrev pub bodies_from : (segment : ℕ) → List SourceUnit → List Node
bodies_from g [] = []
bodies_from g (u ∷ us) = Body g ∷ bodies_from (g + 1) us

abbrev pub procedures_in : (segment number : ℕ) → List Proc → List Node
procedures_in g q [] = []
procedures_in g q (p ∷ ps) = Procedure g q ∷ procedures_in g (q + 1) ps

abbrev pub procedures_from : (segment : ℕ) → List SourceUnit → List Node
procedures_from g [] = []
procedures_from g (u ∷ us) = procedures_in g 0 u.procs ++ procedures_from (g + 1) us

abbrev pub nodes_of : List SourceUnit → List Node
nodes_of us = bodies_from 0 us ++ procedures_from 0 us

-- the node of a number
abbrev pub IsNumbered : List SourceUnit → (number : ℕ) → Node → Type 0
IsNumbered us n a = slice_get (nodes_of us) n ≡ Some a

-- a graph of numbers that leads as the program does
pub record IsGraphOf (us : List SourceUnit) (g : Graph) : Type 0 where
  pub whole : IsWhole g
  pub bodies : g.bodies ≡ length us
  pub nodes : g.nodes ≡ length (nodes_of us)
  pub leads : (n : ℕ) (a b : Node) → IsNumbered us n a → Leads us a b → (m : ℕ) × (IsNumbered us m b × LeadsTo g n m)
  pub comes : (n m : ℕ) (a : Node) → IsNumbered us n a → LeadsTo g n m → (b : Node) × (IsNumbered us m b × Leads us a b)

-- the node of a number, where there is one
abbrev pub node_at : List SourceUnit → ℕ → Node
node_at us n = slice_index_or (nodes_of us) n (Body 0)

-- how many procedures stand before a segment's, and the number of a segment's first
abbrev pub procedures_before : List SourceUnit → (segment : ℕ) → ℕ
procedures_before [] g = 0
procedures_before (u ∷ us) zero = 0
procedures_before (u ∷ us) (suc g) = length u.procs + procedures_before us g

abbrev pub first_number : List SourceUnit → (segment : ℕ) → ℕ
first_number us g = length us + procedures_before us g

-- segments and procedures have numbers that fit
pub record AreFew (us : List SourceUnit) : Type 0 where
  pub some : 0 < length us
  pub segments : length us ≤ 200
  pub procedures : (g : ℕ) (u : SourceUnit) → slice_get us g ≡ Some u → length u.procs ≤ 65536
