-- The rows of nodes and of groups are a graph that leads as the program does.
use Rattle.std.proofs.Common.{◌≡◌, ℕ, ◌+◌, ◌-◌, ◌<◌, ◌≤◌, List, [], ◌++◌, length, slice_index, inl, inr, refl, sym, ◌∙◌, ap, subst, arith, Some, length-append}
use Rattle.std.specs.Prelude.{slice_get}
use Rattle.std.proofs.lemmas.Option.{slice_get_within}
use Rattle.std.proofs.lemmas.Bool.{cases_lt}
use Rattle.std.proofs.lemmas.List.{get_or-append-add}
use Rattle.std.proofs.Math.ListN.{get_or-append}
use Rattle.cw_unit.specs.declared.unit.Unit.{Unit as SourceUnit}
use Rattle.cw_unit.specs.declared.unit.Proc.{Proc}
use Rattle.cw_keyed.specs.declared.specifications.Specifications.{Specifications}
use Rattle.cw_keyed.specs.Numbered.{number_of, count}
use Rattle.cw_keyed.proofs.Numbers.{number_low as low_head, one_specification}
use Rattle.cw_depth.specs.declared.node.Node.{Node}
use Rattle.cw_depth.specs.declared.node.Node.TheVariants.{Procedure}
use Rattle.cw_depth.specs.declared.mention.Mention.{Mention}
use Rattle.cw_depth.specs.declared.mention.Mention.TheVariants as mention
use Rattle.cw_graph.specs.declared.graph.Graph.{Graph}
use Rattle.cw_graph.specs.Rows.{StandsIn, row_of, IsWhole, LeadsTo, at_once, by_group}
use Rattle.cw_depth.specs.CallGraph.{segment_of, mentions_of, Mentioned, procedure_at, parameter_of, spec_of, Leads}
use Rattle.cw_depth.specs.CallGraph as calls
use Rattle.cw_depth.specs.Numbering.{AreFew, bodies_from, procedures_from, nodes_of, first_number, IsNumbered, IsGraphOf, node_at}
use Rattle.cw_depth.specs.Building.{IsHead, Gives, HasGiven, IsRowFor, AreRows, Place, handed_in_all, AreGroups}
use Rattle.cw_depth.specs.Building as gives
use Rattle.cw_depth.proofs.Transport.{node_is}
use Rattle.cw_depth.proofs.Firsts.{procedure_number, bodies_length}
use Rattle.cw_depth.proofs.Handing.{handed_listed, listed_handed}

row_left : (rows groups : List (List ℕ)) (n : ℕ) → n < length rows → row_of (rows ++ groups) n ≡ row_of rows n
row_left rows groups n low = get_or-append rows groups [] n low

row_right : (rows groups : List (List ℕ)) (j : ℕ) → row_of (rows ++ groups) (length rows + j) ≡ row_of groups j
row_right rows groups j = get_or-append-add rows groups j []

-- ---- the parts of a program's graph
pub record Parts (us : List SourceUnit) (rows groups : List (List ℕ)) (heads : Specifications) (handed : List Place) : Type 0 where
  pub rows_size : length rows ≡ length (nodes_of us)
  pub rows_are : AreRows us heads rows
  pub groups_size : length groups ≡ count heads
  pub groups_are : AreGroups us handed heads groups (length handed)
  pub handed_are : handed ≡ handed_in_all us (nodes_of us)

module _ (us : List SourceUnit) (rows groups : List (List ℕ)) (heads : Specifications) (handed : List Place) (few : AreFew us) (parts : Parts us rows groups heads handed) where
  number_low : (g q : ℕ) (p : Proc) → procedure_at us g q ≡ Some p → first_number us g + q < length (nodes_of us)
  number_low g q p there = slice_get_within (nodes_of us) (first_number us g + q) (Procedure g q) (procedure_number us g q p there)

  nodes_more : length us ≤ length (nodes_of us)
  nodes_more = omega (arith, bodies_length 0 us, length-append (bodies_from 0 us) (procedures_from 0 us))

  -- what a row of a node holds
  row_holds : (n x : ℕ) (a : Node) → n < length rows → IsNumbered us n a → StandsIn (row_of (rows ++ groups) n) x → (m : Mention) × (Mentioned us a m × Gives us heads a m x)
  row_holds n x a low e stands = (parts.rows_are n a low e).only x (subst (λ (xs : List ℕ). StandsIn xs x) (row_left rows groups n low) stands)

  given_bounds : (a : Node) (m : Mention) (x : ℕ) → Gives us heads a m x → (length us ≤ x) × (x < length rows + length groups)
  given_bounds a m x (gives.by_call g q p e there is) = let low = number_low g q p there in (omega arith, omega (arith, parts.rows_size))
  given_bounds a m x (gives.by_parameter k j s e is head at') = let low = low_head heads s j head in let more = nodes_more in (omega arith, omega (arith, parts.rows_size, parts.groups_size))

  group_holds : (j x : ℕ) → StandsIn (row_of (rows ++ groups) (length rows + j)) x → (i : ℕ) × ((g : ℕ) × ((q : ℕ) × ((p : Proc) × ((slice_get handed i ≡ Some (g, q)) × ((procedure_at us g q ≡ Some p) × (IsHead heads j (spec_of p) × (x ≡ first_number us g + q)))))))
  group_holds j x stands = (parts.groups_are j).only x (subst (λ (xs : List ℕ). StandsIn xs x) (row_right rows groups j) stands)

  group_bounds : (j x : ℕ) → StandsIn (row_of (rows ++ groups) (length rows + j)) x → (n : ℕ) → (length us ≤ x) × ((x < length (rows ++ groups)) × (length (nodes_of us) ≤ n → x < length (nodes_of us)))
  group_bounds j x stands n =
      let (i, (g, (q, (p, (listed, (at', (head, number))))))) = group_holds j x stands in
      let small = number_low g q p at' in
      (omega arith, (omega (arith, length-append rows groups, parts.rows_size), λ high. omega arith))

  -- what any row holds, and which row it is
  bounds : (n x : ℕ) → StandsIn (row_of (rows ++ groups) n) x → (length us ≤ x) × ((x < length (rows ++ groups)) × (length (nodes_of us) ≤ n → x < length (nodes_of us)))
  bounds n x stands =
      elim (cases_lt n (length rows)) [
        | inl low ↦
            let (m, (there, gives')) = row_holds n x (node_at us n) low (node_is us n (omega (arith, parts.rows_size))) stands in
            let both = given_bounds (node_at us n) m x gives' in
            (both.0, (omega (arith, length-append rows groups, both.1), λ high. absurd (omega (arith, parts.rows_size))))
        | inr high ↦
            let j = n - length rows in
            let at' : n ≡ length rows + j = omega arith in
            let stands' = subst (λ (k : ℕ). StandsIn (row_of (rows ++ groups) k) x) at' stands in
            group_bounds j x stands' n
      ]

  pub is_whole : (bodies nodes : ℕ) → bodies ≡ length us → nodes ≡ length (nodes_of us) → IsWhole (record { bodies = bodies; nodes = nodes; rows = rows ++ groups })
  is_whole bodies nodes b n =
      let more = nodes_more in
      record {
        some_body = omega (arith, few.some);
        bodies = omega arith;
        nodes = omega (arith, length-append rows groups, parts.rows_size);
        low = λ a k low. let bound = bounds a (slice_index (row_of (rows ++ groups) a) k) (k, (low, refl)) in omega (arith, bound.0);
        high = λ a k low. (bounds a (slice_index (row_of (rows ++ groups) a) k) (k, (low, refl))).1.0;
        groups = λ a k high low. let bound = (bounds a (slice_index (row_of (rows ++ groups) a) k) (k, (low, refl))).1.1 (omega arith) in omega arith;
      }

  leads_to : (bodies nodes : ℕ) → nodes ≡ length (nodes_of us) → (n : ℕ) (a b : Node) → IsNumbered us n a → Leads us a b → (m : ℕ) × (IsNumbered us m b × LeadsTo (record { bodies = bodies; nodes = nodes; rows = rows ++ groups }) n m)
  leads_to bodies nodes size n a _ e (calls.by_call m g q p (k, at') called there) =
      let low : n < length (nodes_of us) = slice_get_within (nodes_of us) n a e in
      let low' : n < length rows = omega (arith, parts.rows_size) in
      let inside : k < length (mentions_of us a) = slice_get_within (mentions_of us a) k m at' in
      let stands = ((parts.rows_are n a low' e).all k m inside at').by_call g q p called there in
      let number = number_low g q p there in
      (first_number us g + q, (procedure_number us g q p there, at_once (omega arith) (omega arith) (subst (λ (xs : List ℕ). StandsIn xs (first_number us g + q)) (sym (row_left rows groups n low')) stands)))
  leads_to bodies nodes size n a _ e (calls.by_parameter c s g q p (k, at') spec handed' there fits) =
      let low : n < length (nodes_of us) = slice_get_within (nodes_of us) n a e in
      let low' : n < length rows = omega (arith, parts.rows_size) in
      let inside : k < length (mentions_of us a) = slice_get_within (mentions_of us a) k (mention.Parameter c) at' in
      let (j, (head, stands)) = ((parts.rows_are n a low' e).all k (mention.Parameter c) inside at').by_parameter c s refl spec in
      let head' : j < length groups = let h = low_head heads s j head in omega (arith, parts.groups_size) in
      let (i, listed) = handed_listed us g q p handed' there in
      let listed' = ap (λ ps. slice_get ps i) parts.handed_are ∙ listed in
      let member = (parts.groups_are j).all i g q p (slice_get_within handed i (g, q) listed') listed' there (ap (number_of heads) fits ∙ head) in
      let group : length rows + j ≡ length (nodes_of us) + j = omega (arith, parts.rows_size) in
      let member' = subst (λ (xs : List ℕ). StandsIn xs (first_number us g + q)) (sym (ap (row_of (rows ++ groups)) (sym group) ∙ row_right rows groups j)) member in
      (first_number us g + q, (procedure_number us g q p there, by_group (length (nodes_of us) + j) (omega arith) (omega arith) (subst (λ (xs : List ℕ). StandsIn xs (length (nodes_of us) + j)) (sym (row_left rows groups n low')) stands) member'))

  given_once : (a : Node) (t : Mention) (m : ℕ) → Mentioned us a t → Gives us heads a t m → m < length (nodes_of us) → (b : Node) × (IsNumbered us m b × Leads us a b)
  given_once a t m there (gives.by_call g q p called at' is) low = (Procedure g q, (ap (slice_get (nodes_of us)) is ∙ procedure_number us g q p at', calls.by_call t g q p there called at'))
  given_once a t m there (gives.by_parameter k j s is spec head at') low = absurd (omega arith)

  given_by_group : (a : Node) (t : Mention) (c m : ℕ) → Mentioned us a t → Gives us heads a t c → length (nodes_of us) ≤ c → StandsIn (row_of (rows ++ groups) c) m → (b : Node) × (IsNumbered us m b × Leads us a b)
  given_by_group a t c m there (gives.by_call g q p called at' is) high stands = let low = number_low g q p at' in absurd (omega arith)
  given_by_group a t c m there (gives.by_parameter k j s is spec head at') high stands =
      let place : c ≡ length rows + j = omega (arith, parts.rows_size) in
      let (i, (g, (q, (p, (listed, (at'', (its, number))))))) = group_holds j m (subst (λ (x : ℕ). StandsIn (row_of (rows ++ groups) x) m) place stands) in
      let fits : spec_of p ≡ s = one_specification heads (spec_of p) s j its head in
      let handed' = listed_handed us i g q (ap (λ ps. slice_get ps i) (sym parts.handed_are) ∙ listed) in
      (Procedure g q, (ap (slice_get (nodes_of us)) number ∙ procedure_number us g q p at'', calls.by_parameter k s g q p (there.0, there.1 ∙ ap (λ (x : Mention). Some x) is) spec handed' at'' fits))

  comes_from : (bodies nodes : ℕ) → nodes ≡ length (nodes_of us) → (n m : ℕ) (a : Node) → IsNumbered us n a → LeadsTo (record { bodies = bodies; nodes = nodes; rows = rows ++ groups }) n m → (b : Node) × (IsNumbered us m b × Leads us a b)
  comes_from bodies nodes size n m a e (at_once low node stands) =
      let low' : n < length rows = omega (arith, parts.rows_size) in
      let (t, (there, gives')) = row_holds n m a low' e stands in
      given_once a t m there gives' (omega arith)
  comes_from bodies nodes size n m a e (by_group c low high stands stands') =
      let low' : n < length rows = omega (arith, parts.rows_size) in
      let (t, (there, gives')) = row_holds n c a low' e stands in
      given_by_group a t c m there gives' (omega arith) stands'

  pub graph_is : (graph : Graph) → graph.bodies ≡ length us → graph.nodes ≡ length (nodes_of us) → graph.rows ≡ rows ++ groups → IsGraphOf us graph
  graph_is graph b n r =
      let same : record { bodies = graph.bodies; nodes = graph.nodes; rows = rows ++ groups } ≡ graph = ap (λ (xs : List (List ℕ)). record { bodies = graph.bodies; nodes = graph.nodes; rows = xs }) (sym r) in
      subst (λ (x : Graph). IsGraphOf us x) same (record {
        whole = is_whole graph.bodies graph.nodes b n;
        bodies = b;
        nodes = n;
        leads = leads_to graph.bodies graph.nodes n;
        comes = comes_from graph.bodies graph.nodes n;
      })
