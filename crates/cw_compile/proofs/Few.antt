-- A text expands to at most 65,535 tokens.
use Rattle.std.proofs.Common.{◌≡◌, ℕ, suc, ◌+◌, ◌<◌, ◌≤◌, Bool, true, false, ◌&&◌, cond, List, [], ◌∷◌, ◌++◌, length, length-append, Option, None, Some, Result, Ok, Err, refl, subst, arith}
use Rattle.std.specs.Prelude.{nat_lt, nat_le}
use Rattle.std.proofs.lemmas.Bool.Decides.{nat_tests}
use Rattle.cw_lex.specs.declared.token.TokenKind.{TokenKind}
use Rattle.cw_lex.specs.declared.token.TokenKind.TheVariants as kinds
use Rattle.cw_lex.specs.declared.token.Word.TheVariants as words
use Rattle.cw_lex.specs.Lexical.{Lexeme, is_semicolon}
use Rattle.cw_macro.specs.declared.fault.MacroFault.{MacroFault}
use Rattle.cw_macro.specs.declared.fault.TheConstants.{MOST_LEVELS, MOST_TOKENS, MOST_REPLACED}
use Rattle.cw_macro.specs.Expansion.{Leveled, BodyPart, Macro, Heading, Expansion, Step, Finished, Refused, Moved, Defining, moving, defining, defined, removing, deleting, replacing, naming, replacement, argument_list, heading_of, name_of, is_name, step_at, step_in, expansion_step, Leads, finished, refused, moved, with_body, no_body, start, Expands}

either : {A : Type 0} (P : A → Type 0) (b : Bool) {x y : A} → (b ≡ true → P x) → (b ≡ false → P y) → P (cond b x y)
either P true f g = f refl
either P false f g = g refl

-- A step brings no token too many.
abbrev Keeps : Expansion → Step → Type 0
Keeps e Finished = Unit {0}
Keeps e (Refused fault) = Unit {0}
Keeps e (Moved next) = length e.done ≤ 65535 → length next.done ≤ 65535
Keeps e (Defining h rest) = Unit {0}

one_more : (ts : List Lexeme) (t : Lexeme) → nat_lt (length ts) MOST_TOKENS ≡ true → length (ts ++ t ∷ []) ≤ 65535
one_more ts t b = let h : length ts < 65535 = grind (arith, nat_tests, b) in omega (arith, h, length-append ts (t ∷ []))

moving_keeps : (e : Expansion) (t : Leveled) (rest : List Leveled) → Keeps e (moving e t rest)
moving_keeps e t rest = either (Keeps e) (nat_lt (length e.done) MOST_TOKENS) (λ b h. one_more e.done t.lexeme b) (λ b. tt)

defining_keeps : (e : Expansion) (line : ℕ) (o : Option (Heading × List Leveled)) → Keeps e (defining line o)
defining_keeps e line None = tt
defining_keeps e line (Some x) = tt

removing_keeps : (e : Expansion) (line : ℕ) (name : List ℕ) (o : Option Macro) (ts : List Leveled) → Keeps e (removing e line name o ts)
removing_keeps e line name None ts = tt
removing_keeps e line name (Some m) ts = λ h. h

deleting_keeps : (e : Expansion) (line : ℕ) (ts : List Leveled) → Keeps e (deleting e line ts)
deleting_keeps e line [] = tt
deleting_keeps e line (a ∷ []) = tt
deleting_keeps e line (a ∷ b ∷ ts) = either (Keeps e) (is_name a.lexeme.kind && is_semicolon b.lexeme.kind) (λ x. removing_keeps e line (name_of a.lexeme) (e.definitions (name_of a.lexeme)) ts) (λ x. tt)

replacing_keeps : (e : Expansion) (t : Leveled) (body : List BodyPart) (o : Option (List (List Leveled) × List Leveled)) → Keeps e (replacing e t body o)
replacing_keeps e t body None = tt
replacing_keeps e t body (Some x) = either (Keeps e) (nat_le (e.count + 1 + length (replacement t body x.0)) MOST_REPLACED) (λ b h. h) (λ b. tt)

naming_keeps : (e : Expansion) (t : Leveled) (o : Option Macro) (rest : List Leveled) → Keeps e (naming e t o rest)
naming_keeps e t None rest = moving_keeps e t rest
naming_keeps e t (Some m) rest = either (Keeps e) (nat_lt t.level MOST_LEVELS) (λ b. replacing_keeps e t m.body (argument_list m.parameters rest)) (λ b. tt)

step_keeps : (e : Expansion) (t : Leveled) (rest : List Leveled) (k : TokenKind) → Keeps e (step_at e t rest k)
step_keeps e t rest (kinds.Word words.Define) = defining_keeps e t.lexeme.line (heading_of t.lexeme.line rest)
step_keeps e t rest (kinds.Word words.Delete) = deleting_keeps e t.lexeme.line rest
step_keeps e t rest kinds.Name = naming_keeps e t (e.definitions (name_of t.lexeme)) rest
step_keeps e t rest k = moving_keeps e t rest

keeps_in : (e : Expansion) (ts : List Leveled) → Keeps e (step_in e ts)
keeps_in e [] = tt
keeps_in e (t ∷ ts) = step_keeps e t ts t.lexeme.kind

keeps : (e next : Expansion) → expansion_step e ≡ Moved next → length e.done ≤ 65535 → length next.done ≤ 65535
keeps e next is = let k : Keeps e (Moved next) = subst (Keeps e) is (keeps_in e e.left) in k

abbrev AreFew : Result (List Lexeme) MacroFault → Type 0
AreFew (Ok ts) = length ts ≤ 65535
AreFew (Err fault) = Unit {0}

leads_to_few : {e : Expansion} {r : Result (List Lexeme) MacroFault} → Leads e r → length e.done ≤ 65535 → AreFew r
leads_to_few (finished is) h = h
leads_to_few (refused is) h = tt
leads_to_few (moved {e = e} {next = next} is l) h = leads_to_few l (keeps e next is h)
leads_to_few (with_body is b l) h = leads_to_few l h
leads_to_few (no_body is b) h = tt

pub few_tokens : (tokens expanded : List Lexeme) → Expands tokens expanded → length expanded ≤ 65535
few_tokens tokens expanded l = let h : AreFew (Ok expanded) = leads_to_few l (omega arith) in h
