-- A tree needs as many levels as its tokens open inside one another, at most.
use Rattle.std.proofs.Common.{ℕ, suc, ◌≤◌, max, Bool, true, false, List, map, arith}
use Rattle.std.proofs.Math.Nat.{max-le}
use Rattle.cw_lex.specs.Lexical.{Lexeme}
use Rattle.cw_tree.specs.declared.segment.Raw.{Raw}
use Rattle.cw_tree.specs.declared.expression.RawExpr.{RawExpr}
use Rattle.cw_tree.specs.declared.statement.RawFelem.{RawFelem}
use Rattle.cw_tree.specs.declared.statement.RawStmt.{RawStmt}
use Rattle.cw_grammar.specs.Tokens.{Item, numbered}
use Rattle.cw_grammar.specs.Grammar.{a_stmt, a_raw, labelled, again}
use Rattle.cw_grammar.specs.Statements.{text}
use Rattle.cw_grammar.specs.Derives.{Derives}
use Rattle.cw_derived.specs.NormalForm as normal
use Rattle.cw_derived.specs.NormalForm.{IsNormal}
use Rattle.cw_derived.proofs.Statements.{text_normal}
use Rattle.cw_derived.proofs.Derived.{stmt_again, derived_normal}
use Rattle.cw_sound.specs.Expressions.Levels as levels
use Rattle.cw_sound.specs.Expressions.Levels.{largest}
use Rattle.cw_sound.specs.Statements.Levels as statement_levels
use Rattle.cw_sound.specs.Statements.Levels.{element_levels, block_levels}
use Rattle.cw_sound.proofs.Expressions.Folds.{levels_pass}
use Rattle.cw_sound.proofs.Statements.Folds.{levels_pass as statement_levels_pass}
use Rattle.cw_sound.proofs.Trees.Many.{Many, none, more}
use Rattle.cw_sound.proofs.Trees.Trees.{Closed, StatementsClosed, Element, one, while, step, holds}

abbrev Within : ℕ → ℕ → List ℕ → Type 0
Within n c a = c ≤ n

abbrev StatementWithin : ℕ → Bool → ℕ → List ℕ → Type 0
StatementWithin n p c a = c ≤ n

both_within : (n a b : ℕ) → a ≤ n → b ≤ n → max a b ≤ n
both_within n a b h k = max-le h k

three_within : (n a b c : ℕ) → a ≤ n → b ≤ n → c ≤ n → max a (max b c) ≤ n
three_within n a b c h k l = both_within n a (max b c) h (both_within n b c k l)

one_more : {n c : ℕ} → c ≤ n → c ≤ suc n
one_more h = omega (arith, h)

many_within : {n : ℕ} {cs a : List ℕ} → Many ℕ (Within n) cs a → largest cs ≤ n
many_within none = omega arith
many_within {n = n} (more {x = c} {xs = cs} h k) = both_within n c (largest cs) h (many_within k)

expressions : Closed ℕ levels_pass Within
expressions = record {
  wider = λ w h. h;
  deeper = λ h. one_more h;
  number = λ n x. omega arith;
  octal = λ n x. omega arith;
  literal = λ h. omega arith;
  string = λ n at cs. omega arith;
  location = λ at h. h;
  forced = λ t h. h;
  bracket = λ at h. h;
  referred = λ h. h;
  call = λ f h. many_within h;
  named = λ n f. omega arith;
  one_index = λ f h. h;
  two_indexes = λ f h k. both_within _ _ _ h k;
  bare = λ at h. h;
  prim = λ bits h. h;
  mask = λ os h. many_within h;
  union = λ os h. many_within h;
  differ = λ os h. many_within h;
  conjunction = λ os h. many_within h;
  condition = λ os h. many_within h;
  term = λ os e h. many_within h;
  sum = λ sign os e h. many_within h;
  comparison = λ op h k. both_within _ _ _ h k;
  sole = λ h. h;
  choice = λ at h k l. three_within _ _ _ _ (one_more h) (omega (arith, k)) (one_more l);
}

element_within : {n : ℕ} {x : RawFelem} {a : List ℕ} → Element ℕ levels_pass (Within n) x a → element_levels x ≤ suc n
element_within (one h) = omega (arith, h)
element_within (while h k) = both_within _ _ _ (one_more h) (one_more k)
element_within (step h k l) = three_within _ _ _ _ (one_more h) (one_more k) (one_more l)

elements_within : {n : ℕ} {xs : List RawFelem} {a : List ℕ} → Many RawFelem (Element ℕ levels_pass (Within n)) xs a → largest (map element_levels xs) ≤ suc n
elements_within none = omega arith
elements_within {n = n} (more {x = x} {xs = xs} h k) = both_within (suc n) (element_levels x) (largest (map element_levels xs)) (element_within h) (elements_within k)

arguments_within : {n : ℕ} {xs : List RawExpr} {a : List ℕ} → Many RawExpr (λ x b. levels.then_levels x ≤ n) xs a → largest (map levels.then_levels xs) ≤ n
arguments_within none = omega arith
arguments_within {n = n} (more {x = x} {xs = xs} h k) = both_within n (levels.then_levels x) (largest (map levels.then_levels xs)) h (arguments_within k)

for_within : (n r e b : ℕ) → r ≤ n → e ≤ suc n → b ≤ n → max r (max e (max 1 b)) ≤ suc n
for_within n r e b h k l = three_within (suc n) r e (max 1 b) (one_more h) k (both_within (suc n) 1 b (omega arith) (one_more l))

statements : StatementsClosed ℕ levels_pass Within ℕ ℕ statement_levels_pass StatementWithin StatementWithin
statements = record {
  wider = λ w h. h;
  deeper = λ h. one_more h;
  block_wider = λ w h. h;
  block_deeper = λ h. one_more h;
  empty = λ n p. omega arith;
  assign = λ h k. both_within _ _ _ h k;
  assign_bits = λ z h k. both_within _ _ _ h k;
  jump = λ n p at f. omega arith;
  jump_through = λ at f h. h;
  called = λ f h. arguments_within h;
  answer = λ at h. h;
  inner_block = λ h. h;
  whole_block = λ at h k. many_within k;
  labelled = λ l h. h;
  simple = λ h. h;
  if_alone = λ at h l k. three_within _ _ _ _ (one_more h) (omega (arith, k)) (omega arith);
  if_else = λ at h l k m. three_within _ _ _ _ (one_more h) (omega (arith, k)) (one_more m);
  loop = λ at h k l. for_within _ _ _ _ h (elements_within k) l;
  data_declared = λ h. omega arith;
  overlay = λ at h k. omega arith;
  switch = λ at h k. omega arith;
  procedure = λ o g f xs h. omega arith;
}

raw_within : {n : ℕ} {x : Raw} {a : List ℕ} → IsNormal n false a_raw x a → block_levels x.block ≤ n
raw_within (normal.is_raw f tokens h e k) = holds ℕ levels_pass Within ℕ ℕ statement_levels_pass StatementWithin StatementWithin expressions statements k

pub within_levels : (n : ℕ) (ts : List Lexeme) (raw : Raw) → Derives n a_raw text (numbered 1 ts) raw → block_levels raw.block ≤ n
within_levels n ts raw d = raw_within (derived_normal false text_normal d).normal

-- so does the body of a procedure
pub body_within : {n : ℕ} {u : List Item} {x : RawStmt} → Derives n a_stmt (again (labelled true)) u x → statement_levels.statement_levels x ≤ n
body_within d = holds ℕ levels_pass Within ℕ ℕ statement_levels_pass StatementWithin StatementWithin expressions statements (derived_normal true (stmt_again true) d).normal
