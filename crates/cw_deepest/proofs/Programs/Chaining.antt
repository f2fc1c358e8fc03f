-- Calls at work are a chain of the graph, and bodies are work in themselves.
use Rattle.std.proofs.Common.{◌≡◌, ℕ, suc, ◌+◌, ◌≤◌, ◌<◌, List, [], ◌∷◌, length, Some, refl, ap, subst, ◌∙◌, arith}
use Rattle.std.specs.Prelude.{slice_get}
use Rattle.std.specs.List.{AllByRecursion}
use Rattle.std.proofs.lemmas.List.{length-map}
use Rattle.std.proofs.lemmas.List.Elements.{recursion_from_All}
use Rattle.cw_unit.specs.declared.unit.Unit.{Unit as SourceUnit}
use Rattle.cw_unit.specs.declared.unit.Proc.{Proc}
use Rattle.cw_unit.specs.Configuration as configuration
use Rattle.cw_unit.specs.Configuration.{Activation}
use Rattle.cw_graph.specs.Chains.{IsChain, body}
use Rattle.cw_depth.specs.declared.node.Node.{Node}
use Rattle.cw_depth.specs.declared.node.Node.TheVariants.{Body, Procedure}
use Rattle.cw_depth.specs.Mentions as mentions
use Rattle.cw_depth.specs.CallGraph.{segment_of, mentions_of, mentions_of_unit, mentions_of_procedure, Mentioned, procedure_at, Leads}
use Rattle.cw_depth.specs.Told.{told, TellsBound}
use Rattle.cw_deepest.specs.Programs.Calls as calls
use Rattle.cw_deepest.specs.Programs.Fitting.{calls_of, calls_of_unit, calls_of_procedure, Fits, scope_of, CallsFit}
use Rattle.cw_deepest.proofs.Programs.Typing.{node_of, Stand, Chained}

pub node-segment : (s : ℕ) (acts : List Activation) → segment_of (node_of s acts) ≡ configuration.segment_of s acts
node-segment s [] = refl
node-segment s (a ∷ acts) = refl

all-there : {X : Type 0} (P : X → Type 0) (xs : List X) → ((k : ℕ) (x : X) → slice_get xs k ≡ Some x → P x) → AllByRecursion P xs
all-there P [] h = tt
all-there P (x ∷ xs) h = (h 0 x refl, all-there P xs (λ k y e. h (suc k) y e))

module _ (us : List SourceUnit) where
  -- a chain from the body at work is one from the segment's body, longer by the calls at work
  pub grown : (s : ℕ) (acts : List Activation) (n m : ℕ) → m ≡ length acts + n → Chained us s acts → IsChain (Leads us) n (node_of s acts) → (s < length us) × IsChain (Leads us) m (Body s)
  grown s [] n m e c h = let same : n ≡ m = omega (arith, e) in (c, subst (λ k. IsChain (Leads us) k (Body s)) same h)
  grown s (a ∷ acts) n m e c h = grown s acts (suc n) m (omega (arith, e)) c.7 (Procedure a.segment a.procedure, (c.0, h))

  -- no chain is longer than the one that is told
  pub bounded : (chain : List (ℕ × ℕ)) → TellsBound us chain → (s n : ℕ) → s < length us → IsChain (Leads us) n (Body s) → n ≤ length chain
  bounded chain t s n low h =
      let height = t.bound.heights (Body s) (body (Body s) low) in
      let longest = height.1.longest n h in
      let greatest = t.bound.greatest (Body s) height.0 low height.1 in
      let size : length chain ≡ length t.nodes = ap length t.chain_is ∙ length-map t.nodes told in
      omega (arith, longest, greatest, size)

  module _ (fit : CallsFit us) where
    all-stand : (a : Node) → Stand us a (mentions_of us a) (calls_of us a)
    all-stand a = (all-there (Mentioned us a) (mentions_of us a) (λ k m e. (k, e)), recursion_from_All (Fits (scope_of us a)) (calls_of us a) (fit.calls a))

    pub unit-stands : (g : ℕ) (u : SourceUnit) → slice_get us g ≡ Some u → Stand us (Body g) (mentions.in_statement u.body) (calls.in_statement u.body)
    unit-stands g u e = subst (λ o. Stand us (Body g) (mentions_of_unit o) (calls_of_unit o)) e (all-stand (Body g))

    pub procedure-stands : (g q : ℕ) (x : Proc) → procedure_at us g q ≡ Some x → Stand us (Procedure g q) (mentions.in_statement x.body) (calls.in_statement x.body)
    procedure-stands g q x e = subst (λ o. Stand us (Procedure g q) (mentions_of_procedure o) (calls_of_procedure o)) e (all-stand (Procedure g q))
