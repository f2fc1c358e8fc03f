-- What a graph of numbers tells is told of the program.
use Rattle.std.proofs.Common.{◌≡◌, ℕ, zero, suc, ◌+◌, ◌<◌, ◌≤◌, List, [], ◌∷◌, ◌++◌, length, map, inl, inr, sym, ◌∙◌, ap, subst, arith, Some}
use Rattle.std.specs.Prelude.{slice_get}
use Rattle.std.proofs.lemmas.Option.{same_Some, slice_get-get_or, slice_get_within}
use Rattle.std.proofs.lemmas.List.{length-map}
use Rattle.std.proofs.lemmas.Bool.{cases_lt}
use Rattle.cw_unit.specs.declared.unit.Unit.{Unit as SourceUnit}
use Rattle.cw_depth.specs.declared.node.Node.{Node}
use Rattle.cw_depth.specs.declared.node.Node.TheVariants.{Body, Procedure}
use Rattle.cw_graph.specs.declared.graph.Graph.{Graph}
use Rattle.cw_graph.specs.Chains.{IsChain, HasHeight, HasNoHeight, IsReached, body, lead}
use Rattle.cw_graph.specs.Reports.{IsFirst, IsFirstChain, IsBound, IsUnbounded}
use Rattle.cw_graph.specs.Rows.{LeadsTo, at_once, by_group, IsBodyOf, IsProcedureOf, Below}
use Rattle.cw_depth.specs.CallGraph.{Before, Leads, IsBody, IsProcedure}
use Rattle.cw_depth.specs.Numbering.{bodies_from, procedures_from, nodes_of, IsNumbered, IsGraphOf, node_at}
use Rattle.cw_depth.proofs.Sorted.{in_bodies, in_procedures, get_append, order_numbers}

-- ---- bodies and procedures

body_there : (g : ℕ) (us : List SourceUnit) (ys : List Node) (n : ℕ) → n < length us → slice_get (bodies_from g us ++ ys) n ≡ Some (Body (g + n))
body_there g [] ys n low = absurd (omega arith)
body_there g (u ∷ us) ys zero low = ap (λ x. Some (Body x)) (omega arith)
body_there g (u ∷ us) ys (suc n) low = body_there (g + 1) us ys n (omega arith) ∙ ap (λ x. Some (Body x)) (omega arith)

pub body_number : (us : List SourceUnit) (n : ℕ) → n < length us → IsNumbered us n (Body n)
body_number us n low = body_there 0 us (procedures_from 0 us) n low ∙ ap (λ x. Some (Body x)) (omega arith)

one_node : (us : List SourceUnit) (n : ℕ) (a b : Node) → IsNumbered us n a → IsNumbered us n b → a ≡ b
one_node us n a b e f = same_Some a b (sym e ∙ f)

body_low : (us : List SourceUnit) (n h : ℕ) → IsNumbered us n (Body h) → (n ≡ h) × (n < length us)
body_low us n h e =
    elim (get_append (bodies_from 0 us) (procedures_from 0 us) n (Body h) e) [
      | inl here ↦ let (same, low) = in_bodies 0 us n (Body h) here in (let e' : h ≡ 0 + n = cc in omega arith, low)
      | inr there ↦ let (g, (q, (same, le))) = in_procedures 0 us there.0 (Body h) there.1 in absurd (cc)
    ]

pub node_is : (us : List SourceUnit) (n : ℕ) → n < length (nodes_of us) → IsNumbered us n (node_at us n)
node_is us n low = slice_get-get_or (nodes_of us) n (Body 0) low

module _ (us : List SourceUnit) (g : Graph) (graph : IsGraphOf us g) where
  is_body : (n : ℕ) (a : Node) → IsNumbered us n a → n < g.bodies → IsBody us a
  is_body n a e low =
      let low' : n < length us = omega (arith, graph.bodies) in
      subst (λ (x : Node). IsBody us x) (one_node us n (Body n) a (body_number us n low') e) low'

  body_is : (n : ℕ) (a : Node) → IsNumbered us n a → IsBody us a → n < g.bodies
  body_is n (Body h) e is = let (same, low) = body_low us n h e in omega (arith, graph.bodies)
  body_is n (Procedure h q) e is = absurd is

  is_procedure : (n : ℕ) (a : Node) → IsNumbered us n a → IsProcedureOf g n → IsProcedure a
  is_procedure n (Body h) e is = let (same, low) = body_low us n h e in omega (arith, graph.bodies, is.0)
  is_procedure n (Procedure h q) e is = tt

  numbered_low : (n : ℕ) (a : Node) → IsNumbered us n a → n < g.nodes
  numbered_low n a e = let low : n < length (nodes_of us) = slice_get_within (nodes_of us) n a e in omega (arith, graph.nodes)

  numbered : (n : ℕ) → n < g.nodes → IsNumbered us n (node_at us n)
  numbered n low = node_is us n (omega (arith, graph.nodes))

  never : (a : Node) → IsBody us a → IsProcedure a → ⊥
  never (Body h) is not = not
  never (Procedure h q) is not = is

  procedure_is : (n : ℕ) (a : Node) → IsNumbered us n a → IsProcedure a → IsProcedureOf g n
  procedure_is n a e is =
      elim (cases_lt n g.bodies) [
        | inl lt ↦ absurd (never a (is_body n a e lt) is)
        | inr ge ↦ (ge, numbered_low n a e)
      ]

  -- ---- chains

  chain_up : (h n : ℕ) (a : Node) → IsNumbered us n a → IsChain (LeadsTo g) h n → IsChain (Leads us) h a
  chain_up zero n a e chain = tt
  chain_up (suc h) n a e (m, (leads, chain)) =
      let (b, (f, leads')) = graph.comes n m a e leads in
      (b, (leads', chain_up h m b f chain))

  chain_down : (h n : ℕ) (a : Node) → IsNumbered us n a → IsChain (Leads us) h a → IsChain (LeadsTo g) h n
  chain_down zero n a e chain = tt
  chain_down (suc h) n a e (b, (leads, chain)) =
      let (m, (f, leads')) = graph.leads n a b e leads in
      (m, (leads', chain_down h m b f chain))

  height_up : (h n : ℕ) (a : Node) → IsNumbered us n a → HasHeight (LeadsTo g) n h → HasHeight (Leads us) a h
  height_up h n a e is = record { chain = chain_up h n a e is.chain; longest = λ k chain. is.longest k (chain_down k n a e chain) }

  height_down : (h n : ℕ) (a : Node) → IsNumbered us n a → HasHeight (Leads us) a h → HasHeight (LeadsTo g) n h
  height_down h n a e is = record { chain = chain_down h n a e is.chain; longest = λ k chain. is.longest k (chain_up k n a e chain) }

  no_height_up : (n : ℕ) (a : Node) → IsNumbered us n a → HasNoHeight (LeadsTo g) n → HasNoHeight (Leads us) a
  no_height_up n a e none h is = none h (height_down h n a e is)

  no_height_down : (n : ℕ) (a : Node) → IsNumbered us n a → HasNoHeight (Leads us) a → HasNoHeight (LeadsTo g) n
  no_height_down n a e none h is = none h (height_up h n a e is)

  lead_from : (n m : ℕ) → LeadsTo g n m → n < g.nodes
  lead_from n m (at_once low low' stands) = low
  lead_from n m (by_group c low high stands stands') = low

  reached_up : (n : ℕ) → IsReached (LeadsTo g) (IsBodyOf g) n → (a : Node) → IsNumbered us n a → IsReached (Leads us) (IsBody us) a
  reached_up _ (body n is) a e = body a (is_body n a e is)
  reached_up _ (lead n m is leads) b f =
      let e = numbered n (lead_from n m leads) in
      let (b', (f', leads')) = graph.comes n m (node_at us n) e leads in
      let same = one_node us m b' b f' f in
      subst (λ (x : Node). IsReached (Leads us) (IsBody us) x) same (lead (node_at us n) b' (reached_up n is (node_at us n) e) leads')

  body_reached : (a : Node) → IsBody us a → (n : ℕ) × (IsNumbered us n a × IsReached (LeadsTo g) (IsBodyOf g) n)
  body_reached (Body h) is = (h, (body_number us h is, body h (let low : h < length us = is in omega (arith, graph.bodies))))
  body_reached (Procedure h q) is = absurd is

  reached_down : (a : Node) → IsReached (Leads us) (IsBody us) a → (n : ℕ) × (IsNumbered us n a × IsReached (LeadsTo g) (IsBodyOf g) n)
  reached_down _ (body a is) = body_reached a is
  reached_down _ (lead a b is leads) =
      let (n, (e, is')) = reached_down a is in
      let (m, (f, leads')) = graph.leads n a b e leads in
      (m, (f, lead n m is' leads'))

  -- ---- reports

  first_up : (P : ℕ → Type 0) (Q : Node → Type 0) (n : ℕ) (a : Node) → IsNumbered us n a → (P n → Q a) → ((b : Node) → Q b → (m : ℕ) × (IsNumbered us m b × P m)) → IsFirst Below P n → IsFirst Before Q a
  first_up P Q n a e up down first = record {
    holds = up first.holds;
    none_before = λ b holds before. let (m, (f, holds')) = down b holds in first.none_before m holds' (order_numbers us m n b a f e before);
  }

  lead_up : (n m : ℕ) (a b : Node) → IsNumbered us n a → IsNumbered us m b → LeadsTo g n m → Leads us a b
  lead_up n m a b e f leads = let (b', (f', leads')) = graph.comes n m a e leads in subst (λ (x : Node). Leads us a x) (one_node us m b' b f' f) leads'

  lead_low : (n m : ℕ) → LeadsTo g n m → m < g.nodes
  lead_low n m leads =
      let e = numbered n (lead_from n m leads) in
      let (b, (f, leads')) = graph.comes n m (node_at us n) e leads in
      numbered_low m b f

  follows_up : (n : ℕ) (a : Node) (chain : List ℕ) → IsNumbered us n a → IsFirstChain (LeadsTo g) Below n chain → IsFirstChain (Leads us) Before a (map (node_at us) chain)
  follows_up n a [] e follows = tt
  follows_up n a (m ∷ rest) e follows =
      let b = node_at us m in
      let f = numbered m (lead_low n m follows.0.holds.0) in
      let same : length rest ≡ length (map (node_at us) rest) = sym (length-map rest (node_at us)) in (
        first_up (λ k. LeadsTo g n k × HasHeight (LeadsTo g) k (length rest)) (λ c. Leads us a c × HasHeight (Leads us) c (length (map (node_at us) rest))) m b f
            (λ (leads, is). (lead_up n m a b e f leads, subst (λ (h : ℕ). HasHeight (Leads us) b h) same (height_up (length rest) m b f is)))
            (λ c (leads, is). let (k, (f', leads')) = graph.leads n a c e leads in (k, (f', (leads', height_down (length rest) k c f' (subst (λ (h : ℕ). HasHeight (Leads us) c h) (sym same) is)))))
            follows.0,
        follows_up m b rest f follows.1,
      )

  pub bound_up : (chain : List ℕ) → IsBound (LeadsTo g) Below (IsBodyOf g) chain → IsBound (Leads us) Before (IsBody us) (map (node_at us) chain)
  bound_up chain b =
      let size : length chain ≡ length (map (node_at us) chain) = sym (length-map chain (node_at us)) in
      let whole = graph.whole in
      let low : b.start < g.nodes = let lt : b.start < g.bodies = b.first.holds.0 in omega (arith, whole.bodies) in
      let e = numbered b.start low in
      record {
        heights = λ a is. let (n, (f, is')) = reached_down a is in let (h, height) = b.heights n is' in (h, height_up h n a f height);
        greatest = λ a h is height.
            let (n, (f, r)) = body_reached a is in
            let le : h ≤ length chain = b.greatest n h (body_is n a f is) (height_down h n a f height) in
            omega arith;
        start = node_at us b.start;
        first = first_up (λ n. IsBodyOf g n × HasHeight (LeadsTo g) n (length chain)) (λ a. IsBody us a × HasHeight (Leads us) a (length (map (node_at us) chain))) b.start (node_at us b.start) e
            (λ (is, height). (is_body b.start (node_at us b.start) e is, subst (λ (h : ℕ). HasHeight (Leads us) (node_at us b.start) h) size (height_up (length chain) b.start (node_at us b.start) e height)))
            (λ a (is, height). let (n, (f, r)) = body_reached a is in (n, (f, (body_is n a f is, height_down (length chain) n a f (subst (λ (h : ℕ). HasHeight (Leads us) a h) (sym size) height)))))
            b.first;
        follows = follows_up b.start (node_at us b.start) chain e b.follows;
      }

  pub unbounded_up : (n : ℕ) → IsUnbounded (LeadsTo g) Below (IsBodyOf g) (IsProcedureOf g) n → IsUnbounded (Leads us) Before (IsBody us) IsProcedure (node_at us n)
  unbounded_up n first =
      let e = numbered n first.holds.0.1 in
      first_up (λ m. IsProcedureOf g m × (IsReached (LeadsTo g) (IsBodyOf g) m × HasNoHeight (LeadsTo g) m)) (λ b. IsProcedure b × (IsReached (Leads us) (IsBody us) b × HasNoHeight (Leads us) b)) n (node_at us n) e
      (λ (is, rest). (is_procedure n (node_at us n) e is, (reached_up n rest.0 (node_at us n) e, no_height_up n (node_at us n) e rest.1)))
      (λ b (is, rest). let (m, (f, r)) = reached_down b rest.0 in (m, (f, (procedure_is m b f is, (r, no_height_down m b f rest.1)))))
      first
