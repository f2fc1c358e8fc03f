-- The step of an expansion, case by case.
use Rattle.std.proofs.Common.{◌≡◌, ℕ, ◌+◌, ◌<◌, ◌≤◌, Bool, true, false, cond, ◌&&◌, List, [], ◌∷◌, ◌++◌, length, map, Option, Some, None, refl, sym, ap, subst, ◌∙◌, arith}
use Rattle.std.specs.Prelude.{nat_lt, nat_le}
use Rattle.std.specs.List.{flat_map}
use Rattle.std.specs.Option.{is_some}
use Rattle.std.proofs.lemmas.List.{length-map}
use Rattle.std.proofs.lemmas.Bool.Decides.{nat_tests}
use Rattle.cw_lex.specs.declared.token.Word.TheVariants as words
use Rattle.cw_lex.specs.declared.token.TokenKind.{TokenKind}
use Rattle.cw_lex.specs.declared.token.TokenKind.TheVariants as kinds
use Rattle.cw_lex.specs.Lexical.{Lexeme, is_semicolon}
use Rattle.cw_macro.specs.declared.fault.MacroFault.{MacroFault}
use Rattle.cw_macro.specs.declared.fault.MacroFault.TheVariants as faults
use Rattle.cw_macro.specs.declared.fault.TheConstants.{MOST_LEVELS, MOST_TOKENS, MOST_REPLACED}
use Rattle.cw_macro.specs.Expansion.{Definitions, Heading, defined, part, Leveled, BodyPart, Macro, Expansion, Step, Refused, Moved, name_of, is_name, moving, removing, deleting, redefined, replacing, naming, argument_list, tokens_of, replacement, brought, step_at, step_in, expansion_step}
use Rattle.cw_macro.specs.Views.{Follows, moves, defines, IsFaultOf, within_limit}

below_true : (a b : ℕ) → a < b → nat_lt a b ≡ true
below_true a b h = grind (arith, nat_tests)

below_false : (a b : ℕ) → b ≤ a → nat_lt a b ≡ false
below_false a b h = grind (arith, nat_tests)

-- ---- tokens that move

pub full_is : (e : Expansion) (t : Leveled) (rest : List Leveled) → MOST_TOKENS ≤ length e.done → moving e t rest ≡ Refused (faults.TooLong t.lexeme.line)
full_is e t rest h = ap (λ (b : Bool). cond b (Moved (record e { done = e.done ++ t.lexeme ∷ []; left = rest })) (Refused (faults.TooLong t.lexeme.line))) (below_false (length e.done) MOST_TOKENS h)

pub moved_is : (e : Expansion) (t : Leveled) (rest : List Leveled) → length e.done < MOST_TOKENS → moving e t rest ≡ Moved (record e { done = e.done ++ t.lexeme ∷ []; left = rest })
moved_is e t rest h = ap (λ (b : Bool). cond b (Moved (record e { done = e.done ++ t.lexeme ∷ []; left = rest })) (Refused (faults.TooLong t.lexeme.line))) (below_true (length e.done) MOST_TOKENS h)

-- ---- calls

deep_if : Expansion → Leveled → Macro → List Leveled → Bool → Step
deep_if e t m rest b = cond b (replacing e t m.body (argument_list m.parameters rest)) (Refused (faults.TooDeep t.lexeme.line))

pub deep_is : (e : Expansion) (t : Leveled) (m : Macro) (rest : List Leveled) → MOST_LEVELS ≤ t.level → naming e t (Some m) rest ≡ Refused (faults.TooDeep t.lexeme.line)
unfolding deep_if
deep_is e t m rest h = ap (deep_if e t m rest) (below_false t.level MOST_LEVELS h)

called_is : (e : Expansion) (t : Leveled) (m : Macro) (rest : List Leveled) → t.level < MOST_LEVELS → naming e t (Some m) rest ≡ replacing e t m.body (argument_list m.parameters rest)
unfolding deep_if
called_is e t m rest h = ap (deep_if e t m rest) (below_true t.level MOST_LEVELS h)

pub bad_is : (e : Expansion) (t : Leveled) (m : Macro) (rest : List Leveled) → t.level < MOST_LEVELS → argument_list m.parameters rest ≡ None → naming e t (Some m) rest ≡ Refused (faults.BadCall t.lexeme.line)
bad_is e t m rest h n = called_is e t m rest h ∙ ap (replacing e t m.body) n

count_told : (b : Bool) (n : ℕ) (o : Option ℕ) → o ≡ cond b (Some n) None → (o ≡ None → b ≡ false) × ((k : ℕ) → o ≡ Some k → (b ≡ true) × (k ≡ n))
count_told true n o h = ((λ e. absurd cc), (λ k e. (refl, cc)))
count_told false n o h = ((λ e. refl), (λ k e. absurd cc))

replaced_if : Expansion → Leveled → List BodyPart → List (List Leveled) → List Leveled → ℕ → Bool → Step
replaced_if e t body args rest count b = cond b (Moved (record e { left = replacement t body args ++ rest; count = count })) (Refused (faults.TooLong t.lexeme.line))

size_is : (e : Expansion) (t : Leveled) (body : List BodyPart) (args : List (List Leveled)) → e.count + 1 + length (flat_map (tokens_of args) body) ≡ e.count + 1 + length (replacement t body args)
size_is e t body args = ap (λ (n : ℕ). e.count + 1 + n) (sym (length-map (flat_map (tokens_of args) body) (brought t)))

pub long_is : (e : Expansion) (t : Leveled) (m : Macro) (rest behind : List Leveled) (args : List (List Leveled)) (o : Option ℕ) → t.level < MOST_LEVELS → argument_list m.parameters rest ≡ Some (args, behind)
    → o ≡ within_limit (e.count + 1 + length (flat_map (tokens_of args) m.body)) → o ≡ None → naming e t (Some m) rest ≡ Refused (faults.TooLong t.lexeme.line)
unfolding replaced_if
long_is e t m rest behind args o h s c n =
    let size = size_is e t m.body args in
    let over = (count_told (nat_le (e.count + 1 + length (replacement t m.body args)) MOST_REPLACED) _ o (c ∙ ap within_limit size)).0 n in
    called_is e t m rest h ∙ ap (replacing e t m.body) s ∙ ap (replaced_if e t m.body args behind (e.count + 1 + length (replacement t m.body args))) over

pub replaced_is : (e : Expansion) (t : Leveled) (m : Macro) (rest behind : List Leveled) (args : List (List Leveled)) (o : Option ℕ) (k : ℕ) → t.level < MOST_LEVELS → argument_list m.parameters rest ≡ Some (args, behind)
    → o ≡ within_limit (e.count + 1 + length (flat_map (tokens_of args) m.body)) → o ≡ Some k → naming e t (Some m) rest ≡ Moved (record e { left = replacement t m.body args ++ behind; count = k })
unfolding replaced_if
replaced_is e t m rest behind args o k h s c n =
    let size = size_is e t m.body args in
    let told = (count_told (nat_le (e.count + 1 + length (replacement t m.body args)) MOST_REPLACED) _ o (c ∙ ap within_limit size)).1 k n in
    called_is e t m rest h ∙ ap (replacing e t m.body) s ∙ ap (replaced_if e t m.body args behind (e.count + 1 + length (replacement t m.body args))) told.0
    ∙ ap (λ (z : ℕ). Moved (record e { left = replacement t m.body args ++ behind; count = z })) (sym told.1)

-- ---- DELETE

pub short_is : (e : Expansion) (line : ℕ) (ts : List Leveled) → length ts < 2 → deleting e line ts ≡ Refused (faults.BadDefine line)
short_is e line [] h = refl
short_is e line (t ∷ []) h = refl
short_is e line (t ∷ u ∷ ts) h = absurd (omega (arith, h))

deleted_if : Expansion → ℕ → Leveled → List Leveled → Bool → Step
deleted_if e line name rest b = cond b (removing e line (name_of name.lexeme) (e.definitions (name_of name.lexeme)) rest) (Refused (faults.BadDefine line))

pub not_deleted : (e : Expansion) (line : ℕ) (ts rest : List Leveled) (name mark : Leveled) → ts ≡ name ∷ mark ∷ rest → (is_name name.lexeme.kind && is_semicolon mark.lexeme.kind) ≡ false → deleting e line ts ≡ Refused (faults.BadDefine line)
unfolding deleted_if
not_deleted e line ts rest name mark h b = ap (deleting e line) h ∙ ap (deleted_if e line name rest) b

is_removed : (e : Expansion) (line : ℕ) (ts rest : List Leveled) (name mark : Leveled) → ts ≡ name ∷ mark ∷ rest → (is_name name.lexeme.kind && is_semicolon mark.lexeme.kind) ≡ true
    → deleting e line ts ≡ removing e line (name_of name.lexeme) (e.definitions (name_of name.lexeme)) rest
unfolding deleted_if
is_removed e line ts rest name mark h b = ap (deleting e line) h ∙ ap (deleted_if e line name rest) b

removed_at : (e : Expansion) (line : ℕ) (name : List ℕ) (rest : List Leveled) (o : Option Macro) → is_some o ≡ true → removing e line name o rest ≡ Moved (record e { definitions = redefined e.definitions name None; left = rest })
removed_at e line name rest (Some m) h = refl
removed_at e line name rest None h = absurd cc

unknown_at : (e : Expansion) (line : ℕ) (name : List ℕ) (rest : List Leveled) (o : Option Macro) → is_some o ≡ false → removing e line name o rest ≡ Refused (faults.NoSuchMacro line)
unknown_at e line name rest None h = refl
unknown_at e line name rest (Some m) h = absurd cc

pub deleted_is : (e : Expansion) (line : ℕ) (ts rest : List Leveled) (name mark : Leveled) → ts ≡ name ∷ mark ∷ rest → (is_name name.lexeme.kind && is_semicolon mark.lexeme.kind) ≡ true → is_some (e.definitions (name_of name.lexeme)) ≡ true
    → deleting e line ts ≡ Moved (record e { definitions = redefined e.definitions (name_of name.lexeme) None; left = rest })
deleted_is e line ts rest name mark h b s = is_removed e line ts rest name mark h b ∙ removed_at e line (name_of name.lexeme) rest (e.definitions (name_of name.lexeme)) s

pub unknown_is : (e : Expansion) (line : ℕ) (ts rest : List Leveled) (name mark : Leveled) → ts ≡ name ∷ mark ∷ rest → (is_name name.lexeme.kind && is_semicolon mark.lexeme.kind) ≡ true → is_some (e.definitions (name_of name.lexeme)) ≡ false
    → deleting e line ts ≡ Refused (faults.NoSuchMacro line)
unknown_is e line ts rest name mark h b s = is_removed e line ts rest name mark h b ∙ unknown_at e line (name_of name.lexeme) rest (e.definitions (name_of name.lexeme)) s

-- ---- the whole step

step_is : (e : Expansion) (t : Leveled) (rest : List Leveled) (k : TokenKind) → e.left ≡ t ∷ rest → t.lexeme.kind ≡ k → expansion_step e ≡ step_at e t rest k
step_is e t rest k h g = ap (step_in e) h ∙ ap (step_at e t rest) g

-- A step does not look at the tokens left but through those that it is told.
removing_same : (e : Expansion) (l : List Leveled) (line : ℕ) (name : List ℕ) (o : Option Macro) (rest : List Leveled) → removing (record e { left = l }) line name o rest ≡ removing e line name o rest
removing_same e l line name None rest = refl
removing_same e l line name (Some m) rest = refl

deleting_same : (e : Expansion) (l : List Leveled) (line : ℕ) (ts : List Leveled) → deleting (record e { left = l }) line ts ≡ deleting e line ts
deleting_same e l line [] = refl
deleting_same e l line (a ∷ []) = refl
deleting_same e l line (a ∷ b ∷ ts) = ap (λ s. cond (is_name a.lexeme.kind && is_semicolon b.lexeme.kind) s (Refused (faults.BadDefine line))) (removing_same e l line (name_of a.lexeme) (e.definitions (name_of a.lexeme)) ts)

replacing_same : (e : Expansion) (l : List Leveled) (call : Leveled) (body : List BodyPart) (o : Option (List (List Leveled) × List Leveled)) → replacing (record e { left = l }) call body o ≡ replacing e call body o
replacing_same e l call body None = refl
replacing_same e l call body (Some x) = refl

naming_same : (e : Expansion) (l : List Leveled) (t : Leveled) (o : Option Macro) (rest : List Leveled) → naming (record e { left = l }) t o rest ≡ naming e t o rest
naming_same e l t None rest = refl
naming_same e l t (Some m) rest = ap (λ s. cond (nat_lt t.level MOST_LEVELS) s (Refused (faults.TooDeep t.lexeme.line))) (replacing_same e l t m.body (argument_list m.parameters rest))

step_same : (e : Expansion) (l : List Leveled) (t : Leveled) (rest : List Leveled) (k : TokenKind) → step_at (record e { left = l }) t rest k ≡ step_at e t rest k
step_same e l t rest (kinds.Word words.Define) = refl
step_same e l t rest (kinds.Word words.Delete) = deleting_same e l t.lexeme.line rest
step_same e l t rest kinds.Name = naming_same e l t (e.definitions (name_of t.lexeme)) rest
step_same e l t rest k = refl

-- the step behind the token that was taken
taken_is : (e : Expansion) (t : Leveled) (rest : List Leveled) (k : TokenKind) → e.left ≡ t ∷ rest → t.lexeme.kind ≡ k → expansion_step e ≡ step_at (record e { left = rest }) t rest k
taken_is e t rest k h g = step_is e t rest k h g ∙ sym (step_same e rest t rest k)

pub follows_in : (e next : Expansion) (t : Leveled) (rest : List Leveled) (k : TokenKind) → e.left ≡ t ∷ rest → t.lexeme.kind ≡ k → Follows (record e { left = rest }) (step_at (record e { left = rest }) t rest k) next → Follows e (expansion_step e) next
follows_in e next t rest k h g (moves m) = moves (taken_is e t rest k h g ∙ m)
follows_in e next t rest k h g (defines d b n) = defines (taken_is e t rest k h g ∙ d) b n

pub faults_in : (e : Expansion) (f : MacroFault) (t : Leveled) (rest : List Leveled) (k : TokenKind) → e.left ≡ t ∷ rest → t.lexeme.kind ≡ k → IsFaultOf (step_at (record e { left = rest }) t rest k) f → IsFaultOf (expansion_step e) f
faults_in e f t rest k h g d = let P : Step → Type 0 = λ z. IsFaultOf z f in subst P (sym (taken_is e t rest k h g)) d

pub defined_is : (e : Expansion) (h : Heading) (rest : List Leveled) (tokens : List Lexeme) (d : Definitions) (n : ℕ) (ps : List BodyPart)
    → d ≡ redefined e.definitions h.name (Some (record { parameters = n; body = ps })) → n ≡ length h.parameters → ps ≡ map (part h.parameters) tokens → record e { definitions = d; left = rest } ≡ defined e h rest tokens
defined_is e h rest tokens d n ps a b c =
    let put : Macro → Definitions = λ m. redefined e.definitions h.name (Some m) in
    ap (λ (z : Definitions). record e { definitions = z; left = rest })
    (a ∙ ap (λ (k : ℕ). put (record { parameters = k; body = ps })) b ∙ ap (λ (z : List BodyPart). put (record { parameters = length h.parameters; body = z })) c)
