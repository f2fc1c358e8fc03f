-- The marks of tokens that are numbered from 1, of which there are 65,535 at most, and the tokens of facts among them.
use Rattle.std.proofs.Common.{◌≡◌, ℕ, suc, ◌+◌, ◌*◌, ◌≤◌, min, List, [], ◌∷◌, length, false, sym, subst, arith}
use Rattle.std.proofs.Math.Nat.{min-eq_left}
use Rattle.cw_lex.specs.Lexical.{Lexeme}
use Rattle.cw_tree.specs.declared.segment.Raw.{Raw}
use Rattle.cw_facts.specs.Text.{text_facts}
use Rattle.cw_grammar.specs.Tokens.{numbered}
use Rattle.cw_grammar.specs.Grammar.{a_raw}
use Rattle.cw_grammar.specs.Statements.{text}
use Rattle.cw_grammar.specs.Derives.{Derives}
use Rattle.cw_derived.specs.Marks.{token_marks, Within, empty, kept, skipped, AtLeast, Rises}
use Rattle.cw_derived.specs.Proper.{IsNormalWithin}
use Rattle.cw_derived.proofs.Withins.{rises_in}
use Rattle.cw_derived.proofs.Statements.{text_normal}
use Rattle.cw_derived.proofs.Derived.{derived_normal, numbered_rise}
use Rattle.cw_sound.specs.Items.Derived.{IsRising, facts_tokens, HasRisingTokens, HasNames, HasPlainProcedures}
use Rattle.cw_sound.proofs.Trees.Core.{doubled}
use Rattle.cw_sound.proofs.Trees.Said.{Said}
use Rattle.cw_sound.proofs.Trees.Texts.{raw_says}

-- ---- marks between bounds

abbrev pub AtMost : ℕ → List ℕ → Type 0
AtMost n [] = Unit {0}
AtMost n (m ∷ ms) = (m ≤ n) × AtMost n ms

pub record Good (ms : List ℕ) : Type 0 where
  pub rises : Rises ms
  pub least : AtLeast 2 ms
  pub most : AtMost 131071 ms

least_in : (n : ℕ) {a b : List ℕ} → Within a b → AtLeast n b → AtLeast n a
least_in n empty h = h
least_in n (kept q) h = (h.0, least_in n q h.1)
least_in n (skipped q) h = least_in n q h.1

most_in : (n : ℕ) {a b : List ℕ} → Within a b → AtMost n b → AtMost n a
most_in n empty h = h
most_in n (kept q) h = (h.0, most_in n q h.1)
most_in n (skipped q) h = most_in n q h.1

pub good_in : {a b : List ℕ} → Within a b → Good b → Good a
good_in q h = record { rises = rises_in q h.rises; least = least_in 2 q h.least; most = most_in 131071 q h.most }

number_is : (n : ℕ) (k : ℕ) → n + k ≤ 65536 → min n 4294967295 ≡ n
number_is n k h = min-eq_left (omega (arith, h))

tokens_least : (n : ℕ) (ts : List Lexeme) → 1 ≤ n → n + length ts ≤ 65536 → AtLeast 2 (token_marks (numbered n ts))
tokens_least n [] h k = tt
tokens_least n (t ∷ ts) h k =
    let e : min n 4294967295 ≡ n = number_is n (length (t ∷ ts)) k in
    (subst (λ z. 2 ≤ 2 * z) (sym e) (omega (arith, h)), (subst (λ z. 2 ≤ 2 * z + 1) (sym e) (omega (arith, h)), tokens_least (n + 1) ts (omega arith) (omega (arith, k))))

tokens_most : (n : ℕ) (ts : List Lexeme) → n + length ts ≤ 65536 → AtMost 131071 (token_marks (numbered n ts))
tokens_most n [] k = tt
tokens_most n (t ∷ ts) k =
    let e : min n 4294967295 ≡ n = number_is n (length (t ∷ ts)) k in
    (subst (λ z. 2 * z ≤ 131071) (sym e) (omega (arith, k)), (subst (λ z. 2 * z + 1 ≤ 131071) (sym e) (omega (arith, k)), tokens_most (n + 1) ts (omega (arith, k))))

tokens_good : (ts : List Lexeme) → length ts ≤ 65535 → Good (token_marks (numbered 1 ts))
tokens_good ts h = record { rises = numbered_rise 1 ts (omega (arith, h)); least = tokens_least 1 ts (omega arith) (omega (arith, h)); most = tokens_most 1 ts (omega (arith, h)) }

-- ---- tokens of facts

next_even : (t : ℕ) (ts : List ℕ) → AtLeast (2 * t + 1) (doubled ts) → AtLeast (2 * suc t) (doubled ts)
next_even t [] h = tt
next_even t (s ∷ ts) h = (omega (arith, h.0), next_even t ts h.1)

rising_of : (n : ℕ) (ts : List ℕ) → n ≤ 65536 → AtLeast (2 * n) (doubled ts) → Rises (doubled ts) → AtMost 131071 (doubled ts) → IsRising n ts
rising_of n [] h a r m = h
rising_of n (t ∷ ts) h a r m = (omega (arith, a.0), rising_of (suc t) ts (omega (arith, m.0)) (next_even t ts r.0) r.1 m.1)

pub rising : (ts : List ℕ) → Good (doubled ts) → IsRising 1 ts
rising ts h = rising_of 1 ts (omega arith) h.least h.rises h.most

-- ---- texts

module _ (n : ℕ) (ts : List Lexeme) (raw : Raw) (d : Derives n a_raw text (numbered 1 ts) raw) where
  abbrev pub tree : IsNormalWithin n false a_raw raw (token_marks (numbered 1 ts))
  tree = derived_normal false text_normal d

  pub text_says : Said false (text_facts raw) tree.marks
  text_says = raw_says tree.normal

  pub text_good : length ts ≤ 65535 → Good tree.marks
  text_good h = good_in tree.within (tokens_good ts h)

  pub rising_tokens : length ts ≤ 65535 → HasRisingTokens raw
  rising_tokens h = rising (facts_tokens (text_facts raw)) (good_in text_says.core.ordered (text_good h))

  pub has_names : HasNames raw
  has_names = text_says.core.named

  pub plain_procedures : HasPlainProcedures raw
  plain_procedures = text_says.core.plain
