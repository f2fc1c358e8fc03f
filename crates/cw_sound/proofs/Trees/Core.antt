-- What facts say, among marks, but for where declarations stand: tokens in order, names that have characters, and no procedure in another.
use Rattle.std.proofs.Common.{◌≡◌, ◌≢◌, ℕ, ◌*◌, List, [], ◌∷◌, ◌++◌, map, Bool, true, false, ◌&&◌, IsTrue, Option, Some, None, refl, sym, ap, subst, ◌∙◌, append_assoc, append-nil}
use Rattle.std.specs.List.{All}
use Rattle.std.proofs.lemmas.List.Elements.{All-cons, All-nil, All-append}
use Rattle.cw_table.specs.declared.table.Row.{Row}
use Rattle.cw_tree.specs.declared.leaf.Position.{Position}
use Rattle.cw_tree.specs.declared.leaf.RawName.{RawName}
use Rattle.cw_tree.specs.declared.leaf.RawType.{RawType}
use Rattle.cw_tree.specs.declared.segment.RawPs.{RawPs}
use Rattle.cw_facts.specs.declared.fact.Declaration.{Declaration}
use Rattle.cw_facts.specs.declared.fact.Signature.{Signature}
use Rattle.cw_facts.specs.declared.fact.Fact.{Fact, Fact-F, map-Fact, roll-Fact}
use Rattle.cw_facts.specs.declared.fact.Fact.TheFolds.{fold-roll-Fact}
use Rattle.cw_facts.specs.declared.fact.Fact.TheOpen as layer
use Rattle.cw_facts.specs.declared.fact.Fact.TheVariants as fact
use Rattle.cw_facts.specs.declared.fact.Form.{Form}
use Rattle.cw_facts.specs.declared.fact.Kind.{Kind}
use Rattle.cw_facts.specs.declared.fact.Kind.TheVariants as kind
use Rattle.cw_facts.specs.Uses.{uses_of}
use Rattle.cw_facts.specs.Facts.{declares, specifies}
use Rattle.cw_scope.specs.Resolved.{declarations_step, fact_declarations, text_declarations, signatures_step, fact_signatures, text_signatures}
use Rattle.cw_derived.specs.Marks.{mark, Within, empty, kept, skipped}
use Rattle.cw_derived.proofs.Withins.{none_within, join, twice}
use Rattle.cw_sound.specs.Items.Derived.{declared_token, tokens_step, fact_tokens, facts_tokens, IsNamed, all_plain, plain_step, is_plain}
use Rattle.cw_sound.specs.Names.Placed.{tokens, used_step, fact_used, text_used, apart_step, fact_apart, facts_apart}

abbrev pub doubled : List ℕ → List ℕ
doubled [] = []
doubled (t ∷ ts) = 2 * t ∷ doubled ts

pub record Core (inside : Bool) (facts : List Fact) (ms : List ℕ) : Type 0 where
  pub ordered : Within (doubled (facts_tokens facts)) ms
  pub named : All IsNamed (text_declarations facts)
  pub plain : IsTrue (all_plain (map is_plain facts) inside)
  pub used : Within (doubled (text_used facts)) ms
  pub signed : Within (doubled (tokens (text_signatures facts))) ms
  pub apart : IsTrue (facts_apart facts inside)

-- ---- lists of facts

pub doubled_append : (a b : List ℕ) → doubled (a ++ b) ≡ doubled a ++ doubled b
doubled_append [] b = refl
doubled_append (t ∷ a) b = ap (λ (z : List ℕ). 2 * t ∷ z) (doubled_append a b)

tokens_append : (a b : List Fact) → facts_tokens (a ++ b) ≡ facts_tokens a ++ facts_tokens b
tokens_append [] b = refl
tokens_append (f ∷ a) b = ap (λ ts. fact_tokens f ++ ts) (tokens_append a b) ∙ sym (append_assoc (fact_tokens f) (facts_tokens a) (facts_tokens b))

used_append : (a b : List Fact) → text_used (a ++ b) ≡ text_used a ++ text_used b
used_append [] b = refl
used_append (f ∷ a) b = ap (λ ts. fact_used f ++ ts) (used_append a b) ∙ sym (append_assoc (fact_used f) (text_used a) (text_used b))

pub declared_append : (a b : List Fact) → text_declarations (a ++ b) ≡ text_declarations a ++ text_declarations b
declared_append [] b = refl
declared_append (f ∷ a) b = ap (λ ts. fact_declarations f ++ ts) (declared_append a b) ∙ sym (append_assoc (fact_declarations f) (text_declarations a) (text_declarations b))

signed_append : (a b : List Fact) → text_signatures (a ++ b) ≡ text_signatures a ++ text_signatures b
signed_append [] b = refl
signed_append (f ∷ a) b = ap (λ ts. fact_signatures f ++ ts) (signed_append a b) ∙ sym (append_assoc (fact_signatures f) (text_signatures a) (text_signatures b))

pub row_tokens_append : {T : Type 0} (a b : List (Row T)) → tokens (a ++ b) ≡ tokens a ++ tokens b
row_tokens_append [] b = refl
row_tokens_append (r ∷ a) b = ap (λ ts. r.token ∷ ts) (row_tokens_append a b)

both_true : (a b : Bool) → IsTrue a → IsTrue b → IsTrue (a && b)
both_true true b h k = k
both_true false b h k = h

first_true : (a b : Bool) → IsTrue (a && b) → IsTrue a
first_true true b h = refl
first_true false b h = h

second_true : (a b : Bool) → IsTrue (a && b) → IsTrue b
second_true true b h = h
second_true false b h = absurd cc

plain_both : (i : Bool) (a b : List Fact) → IsTrue (all_plain (map is_plain a) i) → IsTrue (all_plain (map is_plain b) i) → IsTrue (all_plain (map is_plain (a ++ b)) i)
plain_both i [] b h k = k
plain_both i (f ∷ a) b h k = both_true (is_plain f i) (all_plain (map is_plain (a ++ b)) i) (first_true (is_plain f i) (all_plain (map is_plain a) i) h) (plain_both i a b (second_true (is_plain f i) (all_plain (map is_plain a) i) h) k)

apart_both : (i : Bool) (a b : List Fact) → IsTrue (facts_apart a i) → IsTrue (facts_apart b i) → IsTrue (facts_apart (a ++ b) i)
apart_both i [] b h k = k
apart_both i (f ∷ a) b h k = both_true (fact_apart f i) (facts_apart (a ++ b) i) (first_true (fact_apart f i) (facts_apart a i) h) (apart_both i a b (second_true (fact_apart f i) (facts_apart a i) h) k)

pub core_nothing : (i : Bool) (ms : List ℕ) → Core i [] ms
core_nothing i ms = record { ordered = none_within ms; named = All-nil IsNamed; plain = refl; used = none_within ms; signed = none_within ms; apart = refl }

pub core_widened : {i : Bool} {facts : List Fact} {a b : List ℕ} → Within a b → Core i facts a → Core i facts b
core_widened w h = record { ordered = twice h.ordered w; named = h.named; plain = h.plain; used = twice h.used w; signed = twice h.signed w; apart = h.apart }

pub core_together : {i : Bool} {f g : List Fact} {a b : List ℕ} → Core i f a → Core i g b → Core i (f ++ g) (a ++ b)
core_together {i = i} {f = f} {g = g} {a = a} {b = b} h k = record {
  ordered = subst (λ (z : List ℕ). Within z (a ++ b)) (sym (ap doubled (tokens_append f g) ∙ doubled_append (facts_tokens f) (facts_tokens g))) (join h.ordered k.ordered);
  named = subst (All IsNamed) (sym (declared_append f g)) (All-append IsNamed (text_declarations f) (text_declarations g) h.named k.named);
  plain = plain_both i f g h.plain k.plain;
  used = subst (λ (z : List ℕ). Within z (a ++ b)) (sym (ap doubled (used_append f g) ∙ doubled_append (text_used f) (text_used g))) (join h.used k.used);
  signed = subst (λ (z : List ℕ). Within z (a ++ b))
      (sym (ap (λ z. doubled (tokens z)) (signed_append f g) ∙ ap doubled (row_tokens_append (text_signatures f) (text_signatures g)) ∙ doubled_append (tokens (text_signatures f)) (tokens (text_signatures g))))
      (join h.signed k.signed);
  apart = apart_both i f g h.apart k.apart;
}

-- ---- one fact

pub record CoreLayer (i : Bool) (y : Fact-F Fact) (ms : List ℕ) : Type 0 where
  pub ordered : Within (doubled (tokens_step (map-Fact Fact (List ℕ) fact_tokens y))) ms
  pub named : All IsNamed (declarations_step (map-Fact Fact (List (Row Declaration)) fact_declarations y))
  pub plain : IsTrue (plain_step (map-Fact Fact (Bool → Bool) is_plain y) i)
  pub used : Within (doubled (used_step (map-Fact Fact (List ℕ) fact_used y))) ms
  pub signed : Within (doubled (tokens (signatures_step (map-Fact Fact (List (Row Signature)) fact_signatures y)))) ms
  pub apart : IsTrue (apart_step (map-Fact Fact (Bool → Bool) fact_apart y) i)

and_true : (b : Bool) → b ≡ (b && true)
and_true true = refl
and_true false = refl

rolled : {i : Bool} (y : Fact-F Fact) {ms : List ℕ} → CoreLayer i y ms → Core i (roll-Fact y ∷ []) ms
rolled {i = i} y {ms = ms} h = record {
  ordered = subst (λ (z : List ℕ). Within (doubled z) ms) (sym (append-nil (fact_tokens (roll-Fact y)) ∙ fold-roll-Fact (List ℕ) tokens_step y)) h.ordered;
  named = subst (All IsNamed) (sym (append-nil (fact_declarations (roll-Fact y)) ∙ fold-roll-Fact (List (Row Declaration)) declarations_step y)) h.named;
  plain = subst IsTrue (ap (λ (f : Bool → Bool). f i) (sym (fold-roll-Fact (Bool → Bool) plain_step y)) ∙ and_true (is_plain (roll-Fact y) i)) h.plain;
  used = subst (λ (z : List ℕ). Within (doubled z) ms) (sym (append-nil (fact_used (roll-Fact y)) ∙ fold-roll-Fact (List ℕ) used_step y)) h.used;
  signed = subst (λ (z : List (Row Signature)). Within (doubled (tokens z)) ms) (sym (append-nil (fact_signatures (roll-Fact y)) ∙ fold-roll-Fact (List (Row Signature)) signatures_step y)) h.signed;
  apart = subst IsTrue (ap (λ (f : Bool → Bool). f i) (sym (fold-roll-Fact (Bool → Bool) apart_step y)) ∙ and_true (fact_apart (roll-Fact y) i)) h.apart;
}

declared_within : (k : Kind) (t : ℕ) → Within (doubled (declared_token k t)) (2 * t ∷ [])
declared_within (kind.Answer z) t = skipped empty
declared_within _ t = kept empty

pub core_declares : (i : Bool) (n : RawName) (k : Kind) → n.name ≢ [] → Core i (declares n k ∷ []) (mark n.at ∷ [])
core_declares i n k h =
    let d : Declaration = record { name = n; kind = k } in
    subst (λ f. Core i (f ∷ []) (mark n.at ∷ [])) (fact.rolls-Declares d)
    (rolled (layer.Declares d) (record { ordered = declared_within k n.at.token; named = All-cons IsNamed (record { token = n.at.token; item = d }) [] h (All-nil IsNamed); plain = refl; used = none_within _; signed = none_within _; apart = refl }))

-- the answer of a procedure is declared before the procedure's name
pub core_answer : (i : Bool) (n : RawName) (t : RawType) → n.name ≢ [] → Core i (declares n (kind.Answer t) ∷ []) []
core_answer i n t h =
    let d : Declaration = record { name = n; kind = kind.Answer t } in
    subst (λ f. Core i (f ∷ []) []) (fact.rolls-Declares d)
    (rolled (layer.Declares d) (record { ordered = empty; named = All-cons IsNamed (record { token = n.at.token; item = d }) [] h (All-nil IsNamed); plain = refl; used = empty; signed = empty; apart = refl }))

pub core_uses : (i : Bool) (n : RawName) (f : Form) → Core i (uses_of n f) (mark n.at ∷ [])
core_uses i n f =
    subst (λ z. Core i (z ∷ []) (mark n.at ∷ [])) (fact.rolls-Uses (record { name = n; form = f }))
    (rolled (layer.Uses (record { name = n; form = f })) (record { ordered = kept empty; named = All-nil IsNamed; plain = refl; used = kept empty; signed = none_within _; apart = refl }))

pub core_loop : (i : Bool) (at : Position) → Core i (fact.Loop at ∷ []) (mark at ∷ [])
core_loop i at =
    subst (λ z. Core i (z ∷ []) (mark at ∷ [])) (fact.rolls-Loop at)
    (rolled (layer.Loop at) (record { ordered = kept empty; named = All-nil IsNamed; plain = refl; used = none_within _; signed = none_within _; apart = refl }))

pub core_text : (i : Bool) (at : Position) (n : ℕ) → Core i (fact.Text at n ∷ []) (mark at ∷ [])
core_text i at n =
    subst (λ z. Core i (z ∷ []) (mark at ∷ [])) (fact.rolls-Text at n)
    (rolled (layer.Text at n) (record { ordered = kept empty; named = All-nil IsNamed; plain = refl; used = none_within _; signed = none_within _; apart = refl }))

core_specifies : (i : Bool) (token : ℕ) (s : Signature) → Core i (fact.Specifies token s ∷ []) (2 * token ∷ [])
core_specifies i token s =
    subst (λ z. Core i (z ∷ []) (2 * token ∷ [])) (fact.rolls-Specifies token s)
    (rolled (layer.Specifies token s) (record { ordered = none_within _; named = All-nil IsNamed; plain = refl; used = none_within _; signed = kept empty; apart = refl }))

pub core_block : {i : Bool} {facts : List Fact} {a : List ℕ} → Core i facts a → Core i (fact.Block None facts ∷ []) a
core_block {i = i} {facts = facts} {a = a} h =
    subst (λ z. Core i (z ∷ []) a) (fact.rolls-Block None facts)
    (rolled (layer.Block None facts) (record { ordered = h.ordered; named = h.named; plain = h.plain; used = h.used; signed = h.signed; apart = h.apart }))

pub core_procedure : (token : ℕ) {facts : List Fact} {a : List ℕ} → Core true facts a → Core false (fact.Block (Some token) facts ∷ []) a
core_procedure token {facts = facts} {a = a} h =
    subst (λ z. Core false (z ∷ []) a) (fact.rolls-Block (Some token) facts)
    (rolled (layer.Block (Some token) facts) (record { ordered = h.ordered; named = h.named; plain = h.plain; used = h.used; signed = h.signed; apart = h.apart }))

no_tokens : (token : ℕ) (s : Signature) → fact_tokens (fact.Specifies token s) ≡ []
no_tokens token s = ap fact_tokens (sym (fact.rolls-Specifies token s)) ∙ fold-roll-Fact (List ℕ) tokens_step (layer.Specifies token s)

no_used : (token : ℕ) (s : Signature) → fact_used (fact.Specifies token s) ≡ []
no_used token s = ap fact_used (sym (fact.rolls-Specifies token s)) ∙ fold-roll-Fact (List ℕ) used_step (layer.Specifies token s)

no_signed : (d : Declaration) → fact_signatures (fact.Declares d) ≡ []
no_signed d = ap fact_signatures (sym (fact.rolls-Declares d)) ∙ fold-roll-Fact (List (Row Signature)) signatures_step (layer.Declares d)

-- a procedure's name is declared, and what it is specified as stands at the same token
pub core_specified : (i : Bool) (n : RawName) (k : Kind) (answer : Option RawType) (params : List RawPs) → n.name ≢ [] → Core i (declares n k ∷ specifies n.at.token answer params ∷ []) (mark n.at ∷ [])
core_specified i n k answer params h =
    let s : Signature = record { answer = answer; params = params } in
    let d = core_declares i n k h in
    let q = core_specifies i n.at.token s in
    let w = core_together d q in
    record {
      ordered = subst (λ (z : List ℕ). Within (doubled (fact_tokens (declares n k) ++ (z ++ []))) (mark n.at ∷ [])) (sym (no_tokens n.at.token s)) d.ordered;
      named = w.named;
      plain = w.plain;
      used = subst (λ (z : List ℕ). Within (doubled (fact_used (declares n k) ++ (z ++ []))) (mark n.at ∷ [])) (sym (no_used n.at.token s)) d.used;
      signed = subst (λ (z : List (Row Signature)). Within (doubled (tokens (z ++ text_signatures (specifies n.at.token answer params ∷ [])))) (mark n.at ∷ [])) (sym (no_signed (record { name = n; kind = k }))) q.signed;
      apart = w.apart;
    }
