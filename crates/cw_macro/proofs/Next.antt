-- What a step keeps, and that it ends.
use Rattle.std.proofs.Common.{◌≡◌, ℕ, zero, suc, ◌+◌, ◌-◌, ◌^◌, ◌<◌, ◌≤◌, ◌==◌, Bool, true, false, cond, not, ◌&&◌, List, [], ◌∷◌, ◌++◌, length, Option, Some, None, refl, sym, ap, subst, arith}
use Rattle.std.specs.Prelude.{nat_lt, nat_le, IfSome}
use Rattle.std.specs.List.{flat_map}
use Rattle.std.specs.Option.{is_some}
use Rattle.std.specs.Str.{bytes_eq}
use Rattle.std.proofs.lemmas.List.{length-append}
use Rattle.std.proofs.lemmas.Bool.{and_parts}
use Rattle.std.proofs.lemmas.Bool.Decides.{nat_tests}
use Rattle.cw_word.specs.Name.{IsName}
use Rattle.cw_lex.specs.declared.token.Word.TheVariants as words
use Rattle.cw_lex.specs.declared.token.TokenKind.{TokenKind}
use Rattle.cw_lex.specs.declared.token.TokenKind.TheVariants as kinds
use Rattle.cw_lex.specs.Lexical.{Lexeme, is_semicolon}
use Rattle.cw_macro.specs.declared.arguments.Bracket.{Bracket}
use Rattle.cw_macro.specs.declared.arguments.Role.{Role}
use Rattle.cw_macro.specs.declared.arguments.Role.TheVariants.{Inside, Separates, Ends, Mismatched}
use Rattle.cw_macro.specs.declared.fault.TheConstants.{MOST_LEVELS, MOST_TOKENS, MOST_REPLACED, MOST_BYTES}
use Rattle.cw_macro.specs.Expansion.{Leveled, BodyPart, Own, Parameter, Macro, Definitions, Expansion, Step, Finished, Refused, Moved, Defining, Heading, HasBody, GivenArguments, name_of, is_name, is_string, is_open, is_close, is_comma, number_of, parameters, parameters_if_any, closed, heading_of, part, part_if_any, role_of, innermost, open_behind, given, arguments, counted, argument_list, tokens_of, replacement, brought, moving, defining, defined, removing, deleting, redefined, replacing, naming, step_at, step_in, expansion_step}
use Rattle.cw_macro.specs.Premises.{Each, HasForm, IsWithin, IsPlaced, IsPartWithin, AreWithin, IsSound}
use Rattle.cw_macro.specs.Views.{Follows, moves, defines}
use Rattle.cw_macro.proofs.Given.{argument_each}
use Rattle.cw_macro.proofs.Lists.{each_append, each_map, each_flat_map}
use Rattle.cw_macro.proofs.Sound.{within_body}

-- what is left to do, at most
abbrev pub work : Expansion → ℕ
work e = MOST_REPLACED - e.count + length e.left

pub record IsNext (e next : Expansion) : Type 0 where
  pub sound : IsSound next
  pub less : work next < work e
  pub small : next.count < 2 ^ 63

-- a choice of which both sides serve
either : {A : Type 0} (P : A → Type 0) (b : Bool) {x y : A} → (b ≡ true → P x) → (b ≡ false → P y) → P (cond b x y)
either P true p q = p refl
either P false p q = q refl

-- ---- headings

pub name_form : (text : List ℕ) (k : TokenKind) → is_name k ≡ true → HasForm text k → IsName (name_of (record { kind = k; line = 0; at = 0; text = text }))
name_form text kinds.Name e h = h
name_form text k e h = absurd cc

abbrev Rest : {A : Type 0} → ℕ → Option (A × List Leveled) → Type 0
Rest n o = IfSome o (λ x. Each IsPlaced x.1 × (length x.1 ≤ n))

rest_within : {A : Type 0} (m n : ℕ) (o : Option (A × List Leveled)) → m ≤ n → Rest m o → Rest n o
rest_within m n None l h = tt
rest_within m n (Some x) l h = (h.0, omega (arith, l, h.1))

parameters_rest : (names : List (List ℕ)) (ts : List Leveled) → Each IsPlaced ts → Rest (length ts) (parameters names ts)
parameters_rest names [] h = tt
parameters_rest names (t ∷ []) h = tt
parameters_rest names (t ∷ u ∷ ts) h =
    either (Rest (length (t ∷ u ∷ ts))) (is_name t.lexeme.kind && not (is_some (number_of (name_of t.lexeme) names)))
    (λ e. either (Rest (length (t ∷ u ∷ ts))) (is_comma u.lexeme.kind)
    (λ f. rest_within (length ts) (length (t ∷ u ∷ ts)) (parameters (names ++ name_of t.lexeme ∷ []) ts) (omega arith) (parameters_rest (names ++ name_of t.lexeme ∷ []) ts h.1.1))
    (λ f. either (Rest (length (t ∷ u ∷ ts))) (is_close u.lexeme.kind) (λ g. (h.1.1, omega arith)) (λ g. tt)))
    (λ e. tt)

parameters_if_any_rest : (ts : List Leveled) → Each IsPlaced ts → Rest (length ts) (parameters_if_any ts)
parameters_if_any_rest [] h = (tt, omega arith)
parameters_if_any_rest (t ∷ ts) h = either (Rest (length (t ∷ ts))) (is_open t.lexeme.kind) (λ e. rest_within (length ts) (length (t ∷ ts)) (parameters [] ts) (omega arith) (parameters_rest [] ts h.1)) (λ e. (h, omega arith))

pub record IsRead (n line : ℕ) (h : Heading) (rest : List Leveled) : Type 0 where
  pub name : IsName h.name
  pub string : is_string h.string.kind ≡ true
  pub within : IsWithin h.string
  pub string_line : h.string.line ≤ MOST_BYTES + 1
  pub placed : Each IsPlaced rest
  pub shorter : length rest ≤ n

abbrev HeadingRest : ℕ → ℕ → Option (Heading × List Leveled) → Type 0
HeadingRest n line o = IfSome o (λ x. IsRead n line x.0 x.1)

closed_rest : (line n : ℕ) (name : List ℕ) → IsName name → (o : Option (List (List ℕ) × List Leveled)) → Rest n o → HeadingRest n line (closed line name o)
closed_rest line n name i None h = tt
closed_rest line n name i (Some (ps, [])) h = tt
closed_rest line n name i (Some (ps, t ∷ [])) h = tt
closed_rest line n name i (Some (ps, t ∷ u ∷ ts)) h =
    either (HeadingRest n line) (is_string t.lexeme.kind && is_semicolon u.lexeme.kind)
    (λ e. record { name = i; string = (and_parts (is_string t.lexeme.kind) (is_semicolon u.lexeme.kind) e).0; within = h.0.0.within; string_line = h.0.0.line; placed = h.0.1.1; shorter = omega (arith, h.1) })
    (λ e. tt)

pub heading_rest : (line : ℕ) (ts : List Leveled) → Each IsPlaced ts → HeadingRest (length ts) line (heading_of line ts)
heading_rest line [] h = tt
heading_rest line (t ∷ ts) h =
    either (HeadingRest (length (t ∷ ts)) line) (is_name t.lexeme.kind)
    (λ e. closed_rest line (length (t ∷ ts)) (name_of t.lexeme) (name_form t.lexeme.text t.lexeme.kind e h.0.within.form) (parameters_if_any ts) (rest_within (length ts) (length (t ∷ ts)) (parameters_if_any ts) (omega arith) (parameters_if_any_rest ts h.1)))
    (λ e. tt)

-- ---- arguments

abbrev GivenRest : ℕ → GivenArguments → Type 0
GivenRest n o = IfSome o (λ x. Each IsPlaced x.0 × Each (Each IsPlaced) x.1 × Each IsPlaced x.2 × (length x.2 ≤ n))

given_rest : (r : Role) (n : ℕ) (t : Leveled) (rest : List Leveled) (o : GivenArguments) → IsPlaced t → Each IsPlaced rest → length rest ≤ n → GivenRest n o → GivenRest n (given r t rest o)
given_rest Inside n t rest None p q l h = tt
given_rest Inside n t rest (Some x) p q l h = ((p, h.0), h.1, h.2, h.3)
given_rest Separates n t rest None p q l h = tt
given_rest Separates n t rest (Some x) p q l h = (tt, (h.0, h.1), h.2, h.3)
given_rest Ends n t rest o p q l h = (tt, tt, q, l)
given_rest Mismatched n t rest o p q l h = tt

given_within : (m n : ℕ) (o : GivenArguments) → m ≤ n → GivenRest m o → GivenRest n o
given_within m n None l h = tt
given_within m n (Some x) l h = (h.0, h.1, h.2, omega (arith, l, h.3))

arguments_rest : (bs : List Bracket) (ts : List Leveled) → Each IsPlaced ts → GivenRest (length ts) (arguments bs ts)
arguments_rest bs [] h = tt
arguments_rest bs (t ∷ ts) h =
    given_rest (role_of (innermost bs) t.lexeme.kind) (length (t ∷ ts)) t ts (arguments (open_behind t.lexeme.kind bs) ts) h.0 h.1 (omega arith)
    (given_within (length ts) (length (t ∷ ts)) (arguments (open_behind t.lexeme.kind bs) ts) (omega arith) (arguments_rest (open_behind t.lexeme.kind bs) ts h.1))

abbrev ListRest : ℕ → Option (List (List Leveled) × List Leveled) → Type 0
ListRest n o = IfSome o (λ x. Each (Each IsPlaced) x.0 × Each IsPlaced x.1 × (length x.1 ≤ n))

counted_rest : (k m n : ℕ) (o : GivenArguments) → m ≤ n → GivenRest m o → ListRest n (counted k o)
counted_rest k m n None l h = tt
counted_rest k m n (Some x) l h = either (ListRest n) (suc (length x.1) == k) (λ e. ((h.0, h.1), h.2, omega (arith, l, h.3))) (λ e. tt)

list_rest : (k : ℕ) (ts : List Leveled) → Each IsPlaced ts → ListRest (length ts) (argument_list k ts)
list_rest zero ts h = (tt, h, omega arith)
list_rest (suc k) [] h = tt
list_rest (suc k) (t ∷ ts) h =
    either (ListRest (length (t ∷ ts))) (is_open t.lexeme.kind) (λ e. counted_rest (suc k) (length ts) (length (t ∷ ts)) (arguments [] ts) (omega arith) (arguments_rest [] ts h.1)) (λ e. tt)

-- ---- replacements

abbrev LiesWithin : Leveled → Type 0
LiesWithin t = IsWithin t.lexeme

part_within : (args : List (List Leveled)) → Each (Each IsPlaced) args → (p : BodyPart) → IsPartWithin p → Each LiesWithin (tokens_of args p)
part_within args h (Own t) w = (w, tt)
part_within args h (Parameter k) w = argument_each IsPlaced LiesWithin (λ t p. p.within) args k h

brought_placed : (call : Leveled) → IsPlaced call → (t : Leveled) → LiesWithin t → IsPlaced (brought call t)
brought_placed call p t w = record { line = p.line; within = record { place = w.place; form = w.form } }

replacement_placed : (call : Leveled) (body : List BodyPart) (args : List (List Leveled)) → IsPlaced call → Each IsPartWithin body → Each (Each IsPlaced) args → Each IsPlaced (replacement call body args)
replacement_placed call body args p b a = each_map LiesWithin IsPlaced (brought call) (brought_placed call p) (flat_map (tokens_of args) body) (each_flat_map IsPartWithin LiesWithin (tokens_of args) (part_within args a) body b)

-- ---- definitions

redefined_within : (d : Definitions) (name : List ℕ) (m : Option Macro) → AreWithin d → IfSome m (λ x. Each IsPartWithin x.body) → AreWithin (redefined d name m)
redefined_within d name m h g q = either (λ o. IfSome o (λ x. Each IsPartWithin x.body)) (bytes_eq name q) (λ e. g) (λ e. h q)

part_is_within : (ps : List (List ℕ)) (t : Lexeme) → IsWithin t → IsPartWithin (part ps t)
part_is_within ps t w = either IsPartWithin (is_name t.kind) (λ e. own (number_of (name_of t) ps)) (λ e. w)
  where
    own : (o : Option ℕ) → IsPartWithin (part_if_any t o)
    own None = w
    own (Some k) = tt

-- ---- steps

-- A step leads only to what is next.
abbrev Allows : Expansion → Step → Type 0
Allows e Finished = Unit {0}
Allows e (Refused fault) = Unit {0}
Allows e (Moved next) = IsNext e next
Allows e (Defining h rest) = (body : List Lexeme) → HasBody h.string body → IsNext e (defined e h rest body)

abbrev Next : Expansion → Leveled → List Leveled → Type 0
Next e t rest = (e.left ≡ t ∷ rest) × (e.count < 2 ^ 63) × IsPlaced t × Each IsPlaced rest × AreWithin e.definitions

fewer : (e : Expansion) (t : Leveled) (rest ts : List Leveled) → e.left ≡ t ∷ rest → length ts ≤ length rest → MOST_REPLACED - e.count + length ts < work e
fewer e t rest ts h l = omega (arith, ap length h, l)

moving_next : (e : Expansion) (t : Leveled) (rest : List Leveled) → Next e t rest → Allows e (moving e t rest)
moving_next e t rest n = either (Allows e) (nat_lt (length e.done) MOST_TOKENS) (λ b. record { sound = record { left = n.3; definitions = n.4 }; less = fewer e t rest rest n.0 (omega arith); small = n.1 }) (λ b. tt)

defining_next : (e : Expansion) (t : Leveled) (rest : List Leveled) (line : ℕ) (o : Option (Heading × List Leveled)) → Next e t rest → HeadingRest (length rest) line o → Allows e (defining line o)
defining_next e t rest line None n h = tt
defining_next e t rest line (Some x) n h = λ body b. record {
  sound = record {
    left = h.placed;
    definitions = redefined_within e.definitions x.0.name _ n.4 (each_map IsWithin IsPartWithin (part x.0.parameters) (part_is_within x.0.parameters) body (within_body x.0.string body h.string h.within b.tokenizes));
  };
  less = fewer e t rest x.1 n.0 h.shorter;
  small = n.1;
}

removing_next : (e : Expansion) (t : Leveled) (rest ts : List Leveled) (line : ℕ) (name : List ℕ) (o : Option Macro) → Next e t rest → Each IsPlaced ts → length ts ≤ length rest → Allows e (removing e line name o ts)
removing_next e t rest ts line name None n p l = tt
removing_next e t rest ts line name (Some m) n p l = record { sound = record { left = p; definitions = redefined_within e.definitions name None n.4 tt }; less = fewer e t rest ts n.0 l; small = n.1 }

deleting_next : (e : Expansion) (t : Leveled) (rest ts : List Leveled) (line : ℕ) → Next e t rest → Each IsPlaced ts → length ts ≤ length rest → Allows e (deleting e line ts)
deleting_next e t rest [] line n p l = tt
deleting_next e t rest (a ∷ []) line n p l = tt
deleting_next e t rest (a ∷ b ∷ ts) line n p l =
    either (Allows e) (is_name a.lexeme.kind && is_semicolon b.lexeme.kind) (λ x. removing_next e t rest ts line (name_of a.lexeme) (e.definitions (name_of a.lexeme)) n p.1.1 (omega (arith, l))) (λ x. tt)

replacing_next : (e : Expansion) (t : Leveled) (rest : List Leveled) (body : List BodyPart) (o : Option (List (List Leveled) × List Leveled)) → Next e t rest → Each IsPartWithin body → ListRest (length rest) o → Allows e (replacing e t body o)
replacing_next e t rest body None n b h = tt
replacing_next e t rest body (Some x) n b h =
    let brings = replacement t body x.0 in
    either (Allows e) (nat_le (e.count + 1 + length brings) MOST_REPLACED)
    (λ c. record {
      sound = record { left = each_append IsPlaced brings x.1 (replacement_placed t body x.0 n.2 b h.0) h.1; definitions = n.4 };
      less = less (length brings) (length x.1) (length (brings ++ x.1)) c (length-append brings x.1) h.2;
      small = small (e.count + 1 + length brings) c;
    })
    (λ c. tt)
  where
    within : (m : ℕ) → nat_le m MOST_REPLACED ≡ true → m ≤ MOST_REPLACED
    within m c = grind (arith, nat_tests, c)

    less : (m j s : ℕ) → nat_le (e.count + 1 + m) MOST_REPLACED ≡ true → s ≡ m + j → j ≤ length rest → MOST_REPLACED - (e.count + 1 + m) + s < work e
    less m j s c z l = omega (arith, within (e.count + 1 + m) c, z, l, ap length n.0)

    small : (m : ℕ) → nat_le m MOST_REPLACED ≡ true → m < 2 ^ 63
    small m c = omega (arith, within m c)

naming_next : (e : Expansion) (t : Leveled) (rest : List Leveled) (o : Option Macro) → Next e t rest → IfSome o (λ m. Each IsPartWithin m.body) → Allows e (naming e t o rest)
naming_next e t rest None n h = moving_next e t rest n
naming_next e t rest (Some m) n h = either (Allows e) (nat_lt t.level MOST_LEVELS) (λ b. replacing_next e t rest m.body (argument_list m.parameters rest) n h (list_rest m.parameters rest n.3)) (λ b. tt)

step_next : (e : Expansion) (t : Leveled) (rest : List Leveled) (k : TokenKind) → Next e t rest → Allows e (step_at e t rest k)
step_next e t rest (kinds.Word words.Define) n = defining_next e t rest t.lexeme.line (heading_of t.lexeme.line rest) n (heading_rest t.lexeme.line rest n.3)
step_next e t rest (kinds.Word words.Delete) n = deleting_next e t rest rest t.lexeme.line n n.3 (omega arith)
step_next e t rest kinds.Name n = naming_next e t rest (e.definitions (name_of t.lexeme)) n (n.4 (name_of t.lexeme))
step_next e t rest k n = moving_next e t rest n

allowed_in : (e : Expansion) (ts : List Leveled) → e.left ≡ ts → e.count < 2 ^ 63 → Each IsPlaced ts → AreWithin e.definitions → Allows e (step_in e ts)
allowed_in e [] h c p d = tt
allowed_in e (t ∷ ts) h c p d = step_next e t ts t.lexeme.kind (h, c, p.0, p.1, d)

next_at : (e next : Expansion) (s : Step) → Allows e s → Follows e s next → IsNext e next
next_at e next s a (moves m) = let x : Allows e (Moved next) = subst (Allows e) m a in x
next_at e next s a (defines {h = h} {rest = rest} {body = body} d b n) = let x : Allows e (Defining h rest) = subst (Allows e) d a in subst (IsNext e) (sym n) (x body b)

pub next_is : (e next : Expansion) → IsSound e → e.count < 2 ^ 63 → Follows e (expansion_step e) next → IsNext e next
next_is e next s c f = next_at e next (expansion_step e) (allowed_in e e.left refl c s.left s.definitions) f
