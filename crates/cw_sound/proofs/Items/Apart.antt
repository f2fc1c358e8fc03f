-- What is declared and no item has no token of a thing.
use Rattle.std.proofs.Common.{◌≡◌, ℕ, List, [], ◌∷◌, ◌++◌, true, false, Option, refl, sym, ap, subst, ◌∙◌, append_assoc, append-nil, inl, inr}
use Rattle.cw_table.specs.declared.table.Row.{Row}
use Rattle.cw_tree.specs.declared.leaf.RawName.{RawName}
use Rattle.cw_facts.specs.declared.fact.Declaration.{Declaration}
use Rattle.cw_facts.specs.declared.fact.Fact.{Fact}
use Rattle.cw_facts.specs.declared.fact.Fact.TheFolds.{fold-roll-Fact}
use Rattle.cw_facts.specs.declared.fact.Fact.TheOpen as layer
use Rattle.cw_facts.specs.declared.fact.Fact.TheVariants as fact
use Rattle.cw_facts.specs.declared.fact.Kind.{Kind}
use Rattle.cw_facts.specs.declared.fact.Kind.TheVariants as kind
use Rattle.cw_facts.specs.Facts.{declares}
use Rattle.cw_scope.specs.Resolved.{fact_declarations, declarations_step, text_declarations}
use Rattle.cw_sound.specs.Items.Derived.{fact_tokens, facts_tokens, tokens_step, declared_token}
use Rattle.cw_sound.specs.Items.Bodies.{is_other}
use Rattle.cw_sound.proofs.Items.Lists.{In, in-left, in-right, in-either, Merged, neither, left, all-right, merged-append}
use Rattle.cw_sound.proofs.Items.Says.{HasToken, tokens-append, tokens-declares}

-- tokens of things among those of facts, and the rest, where the other declarations stand
pub record Apart (facts : List Fact) (things : List ℕ) : Type 0 where
  pub rest : List ℕ
  pub merged : Merged things rest (facts_tokens facts)
  pub others : (r : Row Declaration) → In r (text_declarations facts) → is_other r.item.kind ≡ true → In r.token rest

rows-append : (a b : List Fact) → text_declarations (a ++ b) ≡ text_declarations a ++ text_declarations b
rows-append [] b = refl
rows-append (f ∷ a) b = ap (λ rs. fact_declarations f ++ rs) (rows-append a b) ∙ sym (append_assoc (fact_declarations f) (text_declarations a) (text_declarations b))

pub apart-both : (a b : List Fact) (ts ss : List ℕ) → Apart a ts → Apart b ss → Apart (a ++ b) (ts ++ ss)
apart-both a b ts ss h k = record {
  rest = h.rest ++ k.rest;
  merged = subst (Merged (ts ++ ss) (h.rest ++ k.rest)) (sym (tokens-append a b)) (merged-append h.merged k.merged);
  others =
      λ r i e. elim (in-either r (text_declarations a) (text_declarations b) (subst (In r) (rows-append a b) i)) [
        | inl l ↦ in-left r.token h.rest k.rest (h.others r l e)
        | inr m ↦ in-right r.token h.rest k.rest (k.others r m e)
      ];
}

pub apart-none : Apart [] []
apart-none = record { rest = []; merged = neither; others = λ r i e. absurd i }

-- a fact without declarations
no-rows : (f : Fact) (r : Row Declaration) → fact_declarations f ≡ [] → In r (text_declarations (f ∷ [])) → ⊥
no-rows f r n i = subst (λ rs. In r (rs ++ [])) n i

pub apart-fact : (f : Fact) → fact_declarations f ≡ [] → Apart (f ∷ []) []
apart-fact f n = record { rest = facts_tokens (f ∷ []); merged = all-right (facts_tokens (f ∷ [])); others = λ r i e. absurd (no-rows f r n i) }

pub apart-one : (f : Fact) (token : ℕ) → fact_tokens f ≡ token ∷ [] → fact_declarations f ≡ [] → Apart (f ∷ []) (token ∷ [])
apart-one f token t n = record {
  rest = [];
  merged = subst (λ ts. Merged (token ∷ []) [] (ts ++ [])) (sym t) (left neither);
  others = λ r i e. absurd (no-rows f r n i);
}

-- ---- declarations

row-declares : (d : Declaration) → fact_declarations (fact.Declares d) ≡ record { token = d.name.at.token; item = d } ∷ []
row-declares d = ap fact_declarations (sym (fact.rolls-Declares d)) ∙ fold-roll-Fact (List (Row Declaration)) declarations_step (layer.Declares d)

only-row : (r q : Row Declaration) → In r (q ∷ []) → r ≡ q
only-row r q (inl e) = e
only-row r q (inr i) = absurd i

row-of-one : (d : Declaration) (r : Row Declaration) → In r (text_declarations (fact.Declares d ∷ [])) → r ≡ record { token = d.name.at.token; item = d }
row-of-one d r i = only-row r (record { token = d.name.at.token; item = d }) (subst (λ rs. In r (rs ++ [])) (row-declares d) i)

pub apart-item : (k : Kind) (n : RawName) → HasToken k → is_other k ≡ false → Apart (declares n k ∷ []) (n.at.token ∷ [])
apart-item k n t o =
    let d : Declaration = record { name = n; kind = k } in
    record {
      rest = [];
      merged = subst (λ ts. Merged (n.at.token ∷ []) [] (ts ++ [])) (sym (tokens-declares d ∙ t n.at.token)) (left neither);
      others = λ r i e. absurd (let no : true ≡ false = sym e ∙ ap (λ (x : Row Declaration). is_other x.item.kind) (row-of-one d r i) ∙ o in absurd cc);
    }

other-token : (k : Kind) (token : ℕ) → is_other k ≡ true → In token (declared_token k token ++ [])
other-token (kind.Answer t) token e = absurd cc
other-token _ token e = inl refl

pub apart-other : (k : Kind) (n : RawName) → Apart (declares n k ∷ []) []
apart-other k n =
    let d : Declaration = record { name = n; kind = k } in
    record {
      rest = facts_tokens (declares n k ∷ []);
      merged = all-right (facts_tokens (declares n k ∷ []));
      others =
          λ r i e.
          let same = row-of-one d r i in
          let other : is_other k ≡ true = sym (ap (λ (x : Row Declaration). is_other x.item.kind) same) ∙ e in
          subst (λ (x : Row Declaration). In x.token (facts_tokens (declares n k ∷ []))) (sym same) (subst (λ ts. In n.at.token (ts ++ [])) (sym (tokens-declares d)) (other-token k n.at.token other));
    }

-- ---- blocks

pub apart-block : (owner : Option ℕ) (xs : List Fact) (ts : List ℕ) → Apart xs ts → Apart (fact.Block owner xs ∷ []) ts
apart-block owner xs ts h =
    let tokens : fact_tokens (fact.Block owner xs) ≡ facts_tokens xs = ap fact_tokens (sym (fact.rolls-Block owner xs)) ∙ fold-roll-Fact (List ℕ) tokens_step (layer.Block owner xs) in
    let rows : fact_declarations (fact.Block owner xs) ≡ text_declarations xs = ap fact_declarations (sym (fact.rolls-Block owner xs)) ∙ fold-roll-Fact (List (Row Declaration)) declarations_step (layer.Block owner xs) in
    record {
      rest = h.rest;
      merged = subst (λ us. Merged ts h.rest (us ++ [])) (sym tokens) (subst (Merged ts h.rest) (sym (append-nil (facts_tokens xs))) h.merged);
      others = λ r i e. h.others r (subst (In r) (append-nil (text_declarations xs)) (subst (λ rs. In r (rs ++ [])) rows i)) e;
    }
