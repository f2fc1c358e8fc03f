-- What facts say, among marks, with where their declarations stand.
use Rattle.std.proofs.Common.{◌≡◌, ◌≢◌, ℕ, List, [], ◌∷◌, ◌++◌, Bool, true, false, Option, Some, None, sym, ap, subst, ◌∙◌, append_assoc, append-nil}
use Rattle.cw_table.specs.declared.table.Row.{Row}
use Rattle.cw_tree.specs.declared.leaf.Position.{Position}
use Rattle.cw_tree.specs.declared.leaf.RawName.{RawName}
use Rattle.cw_tree.specs.declared.leaf.RawType.{RawType}
use Rattle.cw_tree.specs.declared.segment.RawPs.{RawPs}
use Rattle.cw_facts.specs.declared.fact.Declaration.{Declaration}
use Rattle.cw_facts.specs.declared.fact.Fact.{Fact, Fact-F, map-Fact, roll-Fact}
use Rattle.cw_facts.specs.declared.fact.Fact.TheFolds.{fold-roll-Fact}
use Rattle.cw_facts.specs.declared.fact.Fact.TheOpen as layer
use Rattle.cw_facts.specs.declared.fact.Fact.TheVariants as fact
use Rattle.cw_facts.specs.declared.fact.Form.{Form}
use Rattle.cw_facts.specs.declared.fact.Kind.{Kind}
use Rattle.cw_facts.specs.declared.fact.Kind.TheVariants as kind
use Rattle.cw_facts.specs.Uses.{uses_of}
use Rattle.cw_facts.specs.Facts.{declares, specifies}
use Rattle.cw_scope.specs.Resolved.{declarations_step, fact_declarations, text_declarations}
use Rattle.cw_derived.specs.Marks.{mark, Within, empty, kept}
use Rattle.cw_derived.proofs.Withins.{none_within, all_within, beyond}
use Rattle.cw_sound.specs.Names.Placed.{tokens}
use Rattle.cw_sound.proofs.Trees.Core.{Core, declared_append, row_tokens_append, core_nothing, core_widened, core_together, core_declares, core_uses, core_loop, core_text, core_block, core_procedure, core_specified}
use Rattle.cw_sound.proofs.Trees.Spread.{Spread, spread_same, spread_wider, spread_join, spread_swap}

abbrev pub declared : List Fact → List ℕ
declared facts = tokens (text_declarations facts)

pub record Said (inside : Bool) (facts : List Fact) (ms : List ℕ) : Type 0 where
  pub core : Core inside facts ms
  pub places : Spread (declared facts) ms

declared_both : (a b : List Fact) → declared (a ++ b) ≡ declared a ++ declared b
declared_both a b = ap tokens (declared_append a b) ∙ row_tokens_append (text_declarations a) (text_declarations b)

-- the declarations of one fact
declared_roll : (y : Fact-F Fact) → declared (roll-Fact y ∷ []) ≡ tokens (declarations_step (map-Fact Fact (List (Row Declaration)) fact_declarations y))
declared_roll y = ap tokens (append-nil (fact_declarations (roll-Fact y)) ∙ fold-roll-Fact (List (Row Declaration)) declarations_step y)

rolled_places : (y : Fact-F Fact) (f : Fact) {ms : List ℕ} → roll-Fact y ≡ f → Spread (tokens (declarations_step (map-Fact Fact (List (Row Declaration)) fact_declarations y))) ms → Spread (declared (f ∷ [])) ms
rolled_places y f {ms = ms} e h = subst (λ (z : Fact). Spread (declared (z ∷ [])) ms) e (subst (λ (z : List ℕ). Spread z ms) (sym (declared_roll y)) h)

none_placed : (ms : List ℕ) → Spread [] ms
none_placed ms = spread_same (none_within ms)

pub nothing : (i : Bool) (ms : List ℕ) → Said i [] ms
nothing i ms = record { core = core_nothing i ms; places = none_placed ms }

pub widened : {i : Bool} {facts : List Fact} {a b : List ℕ} → Within a b → Said i facts a → Said i facts b
widened w h = record { core = core_widened w h.core; places = spread_wider w h.places }

pub together : {i : Bool} {f g : List Fact} {a b : List ℕ} → Said i f a → Said i g b → Said i (f ++ g) (a ++ b)
together {f = f} {g = g} {a = a} {b = b} h k = record {
  core = core_together h.core k.core;
  places = subst (λ (z : List ℕ). Spread z (a ++ b)) (sym (declared_both f g)) (spread_join h.places k.places);
}

declares_places : (n : RawName) (k : Kind) → Spread (declared (declares n k ∷ [])) (mark n.at ∷ [])
declares_places n k =
    let d : Declaration = record { name = n; kind = k } in
    rolled_places (layer.Declares d) (declares n k) (fact.rolls-Declares d) (spread_same (kept empty))

pub declares_said : (i : Bool) (n : RawName) (k : Kind) → n.name ≢ [] → Said i (declares n k ∷ []) (mark n.at ∷ [])
declares_said i n k h = record { core = core_declares i n k h; places = declares_places n k }

pub answer_places : (n : RawName) (t : RawType) → Spread (declared (declares n (kind.Answer t) ∷ [])) (mark n.at ∷ [])
answer_places n t = declares_places n (kind.Answer t)

pub uses_said : (i : Bool) (n : RawName) (f : Form) → Said i (uses_of n f) (mark n.at ∷ [])
uses_said i n f = record { core = core_uses i n f; places = rolled_places (layer.Uses (record { name = n; form = f })) (fact.Uses (record { name = n; form = f })) (fact.rolls-Uses (record { name = n; form = f })) (none_placed (mark n.at ∷ [])) }

pub loop_said : (i : Bool) (at : Position) → Said i (fact.Loop at ∷ []) (mark at ∷ [])
loop_said i at = record { core = core_loop i at; places = rolled_places (layer.Loop at) (fact.Loop at) (fact.rolls-Loop at) (none_placed (mark at ∷ [])) }

pub text_said : (i : Bool) (at : Position) (n : ℕ) → Said i (fact.Text at n ∷ []) (mark at ∷ [])
text_said i at n = record { core = core_text i at n; places = rolled_places (layer.Text at n) (fact.Text at n) (fact.rolls-Text at n) (none_placed (mark at ∷ [])) }

pub block_said : {i : Bool} {facts : List Fact} {a : List ℕ} → Said i facts a → Said i (fact.Block None facts ∷ []) a
block_said {facts = facts} h = record { core = core_block h.core; places = rolled_places (layer.Block None facts) (fact.Block None facts) (fact.rolls-Block None facts) h.places }

pub specified_said : (i : Bool) (n : RawName) (k : Kind) (answer : Option RawType) (params : List RawPs) → n.name ≢ [] → Said i (declares n k ∷ specifies n.at.token answer params ∷ []) (mark n.at ∷ [])
specified_said i n k answer params h =
    let s = specifies n.at.token answer params in
    let q : Spread (declared (s ∷ [])) [] = rolled_places (layer.Specifies n.at.token (record { answer = answer; params = params })) s (fact.rolls-Specifies n.at.token (record { answer = answer; params = params })) (none_placed []) in
    record {
      core = core_specified i n k answer params h;
      places = subst (λ (z : List ℕ). Spread z (mark n.at ∷ [])) (sym (declared_both (declares n k ∷ []) (s ∷ []))) (spread_join (declares_places n k) q);
    }

block_declared : (token : ℕ) (facts : List Fact) → declared (fact.Block (Some token) facts ∷ []) ≡ declared facts
block_declared token facts = ap (λ (z : Fact). declared (z ∷ [])) (sym (fact.rolls-Block (Some token) facts)) ∙ declared_roll (layer.Block (Some token) facts)

-- the type of a procedure's answer, at which it is declared, and its tag stand before its name
pub procedure_said : {front answers rest : List Fact} (token : ℕ) {a : List ℕ} (b : List ℕ) {c d : List ℕ} → Said false front c → Core true answers [] → Spread (declared answers) a → Said true rest d → Said false (front ++ (fact.Block (Some token) (answers ++ rest) ∷ [])) (a ++ (b ++ (c ++ d)))
procedure_said {front = front} {answers = answers} {rest = rest} token {a = a} b {c = c} {d = d} h k l m =
    let inner : Spread (declared (front ++ (fact.Block (Some token) (answers ++ rest) ∷ []))) (a ++ (b ++ (c ++ d))) =
    subst (λ (z : List ℕ). Spread z (a ++ (b ++ (c ++ d))))
    (sym (declared_both front (fact.Block (Some token) (answers ++ rest) ∷ []) ∙ ap (λ (z : List ℕ). declared front ++ z) (block_declared token (answers ++ rest) ∙ declared_both answers rest)))
    (subst (λ (z : List ℕ). Spread z (a ++ (b ++ (c ++ d)))) (append_assoc (declared front) (declared answers) (declared rest))
    (subst (λ (z : List ℕ). Spread ((declared front ++ declared answers) ++ declared rest) z) (append_assoc a (b ++ c) d ∙ ap (λ (z : List ℕ). a ++ z) (append_assoc b c d))
    (spread_join (spread_swap l (spread_wider (beyond b (all_within c)) h.places)) m.places))) in
    record {
      core = core_widened (beyond a (beyond b (all_within (c ++ d)))) (core_together h.core (core_procedure token (core_together k m.core)));
      places = inner;
    }
