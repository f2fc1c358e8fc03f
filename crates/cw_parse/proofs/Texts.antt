-- What reading says of a whole list.
use Rattle.std.proofs.Common.{◌≡◌, ℕ, zero, suc, ◌≢◌, ◌-◌, ◌≤◌, List, [], ◌∷◌, length, map, Result, Ok, Err, refl, sym, ap, ◌∙◌, arith}
use Rattle.std.proofs.lemmas.List.{length-map}
use Rattle.cw_lex.specs.declared.token.Token as token
use Rattle.cw_lex.specs.Lexical.{view}
use Rattle.cw_tree.specs.declared.segment.Raw.{Raw}
use Rattle.cw_grammar.specs.Tokens.{Item, items, behind}
use Rattle.cw_grammar.specs.Grammar.{Sort, a_raw, Value, Grammar, predictive}
use Rattle.cw_grammar.specs.Statements.{text}
use Rattle.cw_grammar.specs.Derives.{Derives}
use Rattle.cw_grammar.specs.Reading.{Fault, syntax_at, deep_at, Read, reads}
use Rattle.cw_grammar.specs.Parsing.{IsDeepAt, syntax_fault, deep_fault}
use Rattle.cw_grammar.proofs.Passes.{left}
use Rattle.cw_grammar.proofs.Behind.{left_within}
use Rattle.cw_grammar.specs.declared.fault.ParseFault.{ParseFault}
use Rattle.cw_grammar.proofs.Table.{text_predictive}
use Rattle.cw_grammar.proofs.Whole.{left_at, derived_whole, same_tree, no_fault, text_is_front, reads_text}
use Rattle.cw_grammar.proofs.Longest.{read_longest, read_no_text, read_deep}
use Rattle.cw_derived.specs.Proper.{IsProper}
use Rattle.cw_derived.proofs.Derived.{proper}
use Rattle.cw_parse.specs.Texts.{IsNoWhole, IsTextFault, no_memory, no_text, too_deep}

pub behind_all : (ts : List token.Token) → behind ts 0 ≡ items ts
unfolding behind
behind_all ts = refl

empty_of : {A : Type 0} (c : List A) → length c ≡ 0 → c ≡ []
empty_of [] e = refl
empty_of (x ∷ c) e = absurd (omega (arith, e))

pub whole_derived : (ts : List Item) (x : Raw) (r : List Item) → length r ≡ 0 → reads 64 text ts ≡ Ok (x, r) → Derives 64 a_raw text ts x
whole_derived ts x r z h = derived_whole 64 a_raw text ts x r (rw (empty_of r z) refl) h

pub whole_read : (ts : List Item) (x y : Raw) (r : List Item) → Derives 64 a_raw text ts x → reads 64 text ts ≡ Ok (y, r) → (y ≡ x) × (r ≡ [])
whole_read ts x y r d h = same_tree 64 a_raw text ts x y r text_predictive d h

pub whole_no_fault : (ts : List Item) (x : Raw) (f : Fault) → Derives 64 a_raw text ts x → reads 64 text ts ≡ Err f → ⊥
whole_no_fault ts x f d h = no_fault 64 a_raw text ts x f text_predictive d h

pub left_behind : (ts : List Item) (x : Raw) (r : List Item) (k : ℕ) → reads 64 text ts ≡ Ok (x, r) → length r ≡ k → (k ≡ 0 → ⊥) → IsNoWhole 64 a_raw text ts k
left_behind ts x r k h e nz =
    let p = read_longest 64 a_raw text ts x r text_predictive h in
    record {
      front = p.text;
      rest = r;
      longest = p.longest;
      is_front = text_is_front p.derives;
      left_is = e;
      no_text = λ m y z d. nz (sym e ∙ ap length z);
    }

pub stops_there : (ts : List Item) (k : ℕ) → reads 64 text ts ≡ Err (syntax_at k) → IsNoWhole 64 a_raw text ts k
stops_there ts k h =
    let p = read_no_text 64 a_raw text ts k text_predictive h in
    record {
      front = p.front;
      rest = p.rest;
      longest = p.longest;
      is_front = p.is_front;
      left_is = p.left_is;
      no_text = λ m y z d. p.no_text m y d;
    }

pub deep_there : (ts : List Item) (k : ℕ) → reads 64 text ts ≡ Err (deep_at k) → IsDeepAt 64 a_raw text ts k
deep_there ts k h = read_deep 64 a_raw text ts k text_predictive h

-- ---- as parse uses it

at_start : (ts : List token.Token) (o : Read Raw) → reads 64 text (behind ts 0) ≡ o → reads 64 text (items ts) ≡ o
at_start ts o h = ap (λ (z : List Item). reads 64 text z) (sym (behind_all ts)) ∙ h

pub tree_found : (ts : List token.Token) (x : Raw) (at : ℕ) → length (behind ts at) ≡ 0 → reads 64 text (behind ts 0) ≡ Ok (x, behind ts at) → Derives 64 a_raw text (items ts) x
tree_found ts x at z h = whole_derived (items ts) x (behind ts at) z (at_start ts (Ok (x, behind ts at)) h)

pub tree_same : (ts : List token.Token) (x y : Raw) (at : ℕ) → reads 64 text (behind ts 0) ≡ Ok (x, behind ts at) → Derives 64 a_raw text (items ts) y → x ≡ y
tree_same ts x y at h d = (whole_read (items ts) y x (behind ts at) d (at_start ts (Ok (x, behind ts at)) h)).0

pub left_no_tree : (ts : List token.Token) (x y : Raw) (at : ℕ) → (length (behind ts at) ≡ 0 → ⊥) → reads 64 text (behind ts 0) ≡ Ok (x, behind ts at) → Derives 64 a_raw text (items ts) y → ⊥
left_no_tree ts x y at nz h d = nz (ap length (whole_read (items ts) y x (behind ts at) d (at_start ts (Ok (x, behind ts at)) h)).1)

pub left_fault : (ts : List token.Token) (x : Raw) (at : ℕ) → (length (behind ts at) ≡ 0 → ⊥) → reads 64 text (behind ts 0) ≡ Ok (x, behind ts at) → IsTextFault ts (syntax_fault ts (length ts - length (behind ts at)))
left_fault ts x at nz h = no_text (length (behind ts at)) (left_behind (items ts) x (behind ts at) (length (behind ts at)) (at_start ts (Ok (x, behind ts at)) h) refl nz)

pub fault_no_tree : (ts : List token.Token) (y : Raw) (f : Fault) → reads 64 text (behind ts 0) ≡ Err f → Derives 64 a_raw text (items ts) y → ⊥
fault_no_tree ts y f h d = whole_no_fault (items ts) y f d (at_start ts (Err f) h)

pub syntax_is : (ts : List token.Token) (k : ℕ) → reads 64 text (behind ts 0) ≡ Err (syntax_at k) → IsTextFault ts (syntax_fault ts (length ts - k))
syntax_is ts k h = no_text k (stops_there (items ts) k (at_start ts (Err (syntax_at k)) h))

pub deep_is : (ts : List token.Token) (k : ℕ) → reads 64 text (behind ts 0) ≡ Err (deep_at k) → IsTextFault ts (deep_fault ts (length ts - k))
deep_is ts k h = too_deep k (deep_there (items ts) k (at_start ts (Err (deep_at k)) h))

-- The places that the faults tell are within the list.
pub left_few : (ts : List token.Token) (o : Read Raw) → reads 64 text (behind ts 0) ≡ o → left o ≤ length ts
left_few ts o h = omega (arith, left_at 64 a_raw text (behind ts 0) o h, left_within ts 0)

pub tree_proper : (ts : List token.Token) (x : Raw) (at : ℕ) → length ts ≤ 65535 → length (behind ts at) ≡ 0 → reads 64 text (behind ts 0) ≡ Ok (x, behind ts at) → IsProper 64 x
tree_proper ts x at few z h = proper 64 (map view ts) x (let n = length-map ts view in omega (arith, n, few)) (tree_found ts x at z h)
