-- What holds of each token of a text holds of those that the text expands to, where it holds of a token of a body and of an argument on the line of a call.
use Rattle.std.proofs.Common.{◌≡◌, ℕ, zero, suc, ◌+◌, ◌==◌, Bool, true, false, not, ◌&&◌, List, [], ◌∷◌, ◌++◌, length, Option, Some, None, Result, Ok, Err, subst}
use Rattle.std.specs.Prelude.{cond, nat_lt, nat_le, IfSome}
use Rattle.std.specs.List.{flat_map}
use Rattle.std.specs.Option.{is_some}
use Rattle.std.specs.Str.{bytes_eq}
use Rattle.cw_lex.specs.declared.token.TokenKind.{TokenKind}
use Rattle.cw_lex.specs.declared.token.TokenKind.TheVariants as kinds
use Rattle.cw_lex.specs.declared.token.Word.TheVariants as words
use Rattle.cw_lex.specs.Lexical.{Lexeme, is_semicolon}
use Rattle.cw_macro.specs.declared.fault.MacroFault.{MacroFault}
use Rattle.cw_macro.specs.declared.fault.TheConstants.{MOST_TOKENS, MOST_REPLACED, MOST_LEVELS}
use Rattle.cw_macro.specs.Expansion.{Leveled, BodyPart, Own, Parameter, Macro, Definitions, redefined, Expansion, is_name, is_string, is_open, is_close, is_comma, name_of, number_of, Heading, HasBody, parameters, parameters_if_any, closed, heading_of, part_if_any, part, macro_of, GivenArguments, arguments, counted, argument_list, tokens_of, brought, replacement, Step, Finished, Refused, Moved, Defining, moving, defining, removing, deleting, replacing, naming, step_at, step_in, expansion_step, Leads, finished, refused, moved, with_body, no_body, of_text, Expands}
use Rattle.cw_macro.specs.Premises.{Each}
use Rattle.cw_macro.proofs.Lists.{each_append, each_map, each_flat_map}
use Rattle.cw_macro.proofs.Given.{GivenEach, arguments_each, argument_each}

either : {A : Type 0} (T : A → Type 0) (b : Bool) (x y : A) → T x → T y → T (cond b x y)
either T true x y h k = h
either T false x y h k = k

-- P holds of the tokens of a text, and Q of those that stand in a body or are given to a call.
module _ (P Q : Lexeme → Type 0) (weak : (t : Lexeme) → P t → Q t) (on_line : (call t : Lexeme) → P call → Q t → P (record t { line = call.line }))
    (in_body : (string : Lexeme) (body : List Lexeme) → P string → HasBody string body → Each Q body) where
  abbrev Right : Leveled → Type 0
  Right t = P t.lexeme

  abbrev Brought : Leveled → Type 0
  Brought t = Q t.lexeme

  abbrev RightPart : BodyPart → Type 0
  RightPart (Own t) = Q t
  RightPart (Parameter k) = Unit {0}

  abbrev RightMacro : Option Macro → Type 0
  RightMacro o = IfSome o (λ m. Each RightPart m.body)

  record Holds (e : Expansion) : Type 0 where
    done : Each P e.done
    left : Each Right e.left
    definitions : (name : List ℕ) → RightMacro (e.definitions name)

  -- ---- definitions

  abbrev RightRest : Option (List (List ℕ) × List Leveled) → Type 0
  RightRest None = Unit {0}
  RightRest (Some (ps, rest)) = Each Right rest

  abbrev RightHeading : Option (Heading × List Leveled) → Type 0
  RightHeading None = Unit {0}
  RightHeading (Some (h, rest)) = P h.string × Each Right rest

  rest_right : (before : List (List ℕ)) (ts : List Leveled) → Each Right ts → RightRest (parameters before ts)
  rest_right before [] h = tt
  rest_right before (name ∷ []) h = tt
  rest_right before (name ∷ mark ∷ rest) h =
      let names = before ++ name_of name.lexeme ∷ [] in
      let close = cond (is_close mark.lexeme.kind) (Some (names, rest)) None in
      let comma = cond (is_comma mark.lexeme.kind) (parameters names rest) close in
      either RightRest (is_name name.lexeme.kind && not (is_some (number_of (name_of name.lexeme) before))) comma None
      (either RightRest (is_comma mark.lexeme.kind) (parameters names rest) close (rest_right names rest h.1.1) (either RightRest (is_close mark.lexeme.kind) (Some (names, rest)) None h.1.1 tt))
      tt

  if_any_right : (ts : List Leveled) → Each Right ts → RightRest (parameters_if_any ts)
  if_any_right [] h = tt
  if_any_right (t ∷ rest) h = either RightRest (is_open t.lexeme.kind) (parameters [] rest) (Some ([], t ∷ rest)) (rest_right [] rest h.1) h

  closed_right : (line : ℕ) (name : List ℕ) (o : Option (List (List ℕ) × List Leveled)) → RightRest o → RightHeading (closed line name o)
  closed_right line name None h = tt
  closed_right line name (Some (ps, [])) h = tt
  closed_right line name (Some (ps, string ∷ [])) h = tt
  closed_right line name (Some (ps, string ∷ mark ∷ rest)) h =
      either RightHeading (is_string string.lexeme.kind && is_semicolon mark.lexeme.kind) (Some (record { line = line; name = name; parameters = ps; string = string.lexeme }, rest)) None (h.0, h.1.1) tt

  heading_right : (line : ℕ) (ts : List Leveled) → Each Right ts → RightHeading (heading_of line ts)
  heading_right line [] h = tt
  heading_right line (t ∷ rest) h =
      let o = parameters_if_any rest in
      either RightHeading (is_name t.lexeme.kind) (closed line (name_of t.lexeme) o) None (closed_right line (name_of t.lexeme) o (if_any_right rest h.1)) tt

  part_right : (ps : List (List ℕ)) (t : Lexeme) → Q t → RightPart (part ps t)
  part_right ps t h = either RightPart (is_name t.kind) (part_if_any t (number_of (name_of t) ps)) (Own t) (numbered (number_of (name_of t) ps)) h
    where
      numbered : (o : Option ℕ) → RightPart (part_if_any t o)
      numbered None = h
      numbered (Some k) = tt

  redefined_right : (d : Definitions) (name : List ℕ) (o : Option Macro) → ((n : List ℕ) → RightMacro (d n)) → RightMacro o → (n : List ℕ) → RightMacro (redefined d name o n)
  redefined_right d name o h k n = either RightMacro (bytes_eq name n) o (d n) k (h n)

  -- ---- calls

  abbrev RightArguments : Option (List (List Leveled) × List Leveled) → Type 0
  RightArguments None = Unit {0}
  RightArguments (Some (args, rest)) = Each (Each Right) args × Each Right rest

  counted_right : (n : ℕ) (o : GivenArguments) → GivenEach Right o → RightArguments (counted n o)
  counted_right n None h = tt
  counted_right n (Some (first, more, rest)) h = either RightArguments (suc (length more) == n) (Some (first ∷ more, rest)) None ((h.0, h.1.0), h.1.1) tt

  list_right : (n : ℕ) (ts : List Leveled) → Each Right ts → RightArguments (argument_list n ts)
  list_right zero ts h = (tt, h)
  list_right (suc n) [] h = tt
  list_right (suc n) (t ∷ rest) h = let o = arguments [] rest in either RightArguments (is_open t.lexeme.kind) (counted (suc n) o) None (counted_right (suc n) o (arguments_each Right rest h.1)) tt

  tokens_right : (args : List (List Leveled)) → Each (Each Right) args → (p : BodyPart) → RightPart p → Each Brought (tokens_of args p)
  tokens_right args h (Own t) k = (k, tt)
  tokens_right args h (Parameter n) k = argument_each Right Brought (λ t. weak t.lexeme) args n h

  replacement_right : (call : Leveled) (body : List BodyPart) (args : List (List Leveled)) → Right call → Each RightPart body → Each (Each Right) args → Each Right (replacement call body args)
  replacement_right call body args p h k =
      each_map Brought Right (brought call) (λ t z. on_line call.lexeme t.lexeme p z) (flat_map (tokens_of args) body) (each_flat_map RightPart Brought (tokens_of args) (tokens_right args k) body h)

  -- ---- steps

  abbrev HoldsBehind : Step → Type 0
  HoldsBehind Finished = Unit {0}
  HoldsBehind (Refused fault) = Unit {0}
  HoldsBehind (Moved next) = Holds next
  HoldsBehind (Defining h rest) = P h.string × Each Right rest

  moving_right : (e : Expansion) (t : Leveled) (rest : List Leveled) → Holds e → Right t → Each Right rest → HoldsBehind (moving e t rest)
  moving_right e t rest h p r =
      either HoldsBehind (nat_lt (length e.done) MOST_TOKENS) (Moved (record e { done = e.done ++ t.lexeme ∷ []; left = rest })) (Refused _)
      (record { done = each_append P e.done (t.lexeme ∷ []) h.done (p, tt); left = r; definitions = h.definitions })
      tt

  defining_right : (line : ℕ) (o : Option (Heading × List Leveled)) → RightHeading o → HoldsBehind (defining line o)
  defining_right line None h = tt
  defining_right line (Some (g, rest)) h = h

  removing_right : (e : Expansion) (line : ℕ) (name : List ℕ) (o : Option Macro) (rest : List Leveled) → Holds e → Each Right rest → HoldsBehind (removing e line name o rest)
  removing_right e line name None rest h r = tt
  removing_right e line name (Some m) rest h r = record { done = h.done; left = r; definitions = redefined_right e.definitions name None h.definitions tt }

  deleting_right : (e : Expansion) (line : ℕ) (ts : List Leveled) → Holds e → Each Right ts → HoldsBehind (deleting e line ts)
  deleting_right e line [] h r = tt
  deleting_right e line (name ∷ []) h r = tt
  deleting_right e line (name ∷ mark ∷ rest) h r =
      either HoldsBehind (is_name name.lexeme.kind && is_semicolon mark.lexeme.kind) (removing e line (name_of name.lexeme) (e.definitions (name_of name.lexeme)) rest) (Refused _)
      (removing_right e line (name_of name.lexeme) (e.definitions (name_of name.lexeme)) rest h r.1.1)
      tt

  replacing_right : (e : Expansion) (call : Leveled) (body : List BodyPart) (o : Option (List (List Leveled) × List Leveled)) → Holds e → Right call → Each RightPart body → RightArguments o → HoldsBehind (replacing e call body o)
  replacing_right e call body None h p b r = tt
  replacing_right e call body (Some (args, rest)) h p b r =
      let brings = replacement call body args in
      let count = e.count + 1 + length brings in
      either HoldsBehind (nat_le count MOST_REPLACED) (Moved (record e { left = brings ++ rest; count = count })) (Refused _)
      (record { done = h.done; left = each_append Right brings rest (replacement_right call body args p b r.0) r.1; definitions = h.definitions })
      tt

  naming_right : (e : Expansion) (t : Leveled) (o : Option Macro) (rest : List Leveled) → Holds e → RightMacro o → Right t → Each Right rest → HoldsBehind (naming e t o rest)
  naming_right e t None rest h b p r = moving_right e t rest h p r
  naming_right e t (Some m) rest h b p r =
      let o = argument_list m.parameters rest in
      either HoldsBehind (nat_lt t.level MOST_LEVELS) (replacing e t m.body o) (Refused _) (replacing_right e t m.body o h p b (list_right m.parameters rest r)) tt

  step_right : (e : Expansion) (t : Leveled) (rest : List Leveled) (k : TokenKind) → Holds e → Right t → Each Right rest → HoldsBehind (step_at e t rest k)
  step_right e t rest (kinds.Word words.Define) h p r = defining_right t.lexeme.line (heading_of t.lexeme.line rest) (heading_right t.lexeme.line rest r)
  step_right e t rest (kinds.Word words.Delete) h p r = deleting_right e t.lexeme.line rest h r
  step_right e t rest kinds.Name h p r = naming_right e t (e.definitions (name_of t.lexeme)) rest h (h.definitions (name_of t.lexeme)) p r
  step_right e t rest k h p r = moving_right e t rest h p r

  steps_right : (e : Expansion) (ts : List Leveled) → Holds e → Each Right ts → HoldsBehind (step_in e ts)
  steps_right e [] h r = tt
  steps_right e (t ∷ rest) h r = step_right e t rest t.lexeme.kind h r.0 r.1

  next_right : (e : Expansion) (s : Step) → expansion_step e ≡ s → Holds e → HoldsBehind s
  next_right e s q h = subst HoldsBehind q (steps_right e e.left h h.left)

  -- ---- whole expansions

  abbrev RightResult : Result (List Lexeme) MacroFault → Type 0
  RightResult (Ok ts) = Each P ts
  RightResult (Err fault) = Unit {0}

  result_right : {e : Expansion} {r : Result (List Lexeme) MacroFault} → Leads e r → Holds e → RightResult r
  result_right (finished q) h = h.done
  result_right (refused q) h = tt
  result_right {e = e} (moved {next = next} q l) h = result_right l (next_right e (Moved next) q h)
  result_right {e = e} (with_body {h = g} {rest = rest} {body = body} q b l) h =
      let k = next_right e (Defining g rest) q h in
      result_right l (
      record {
        done = h.done;
        left = k.1;
        definitions = redefined_right e.definitions g.name (Some (macro_of g.parameters body)) h.definitions (each_map Q RightPart (part g.parameters) (part_right g.parameters) body (in_body g.string body k.0 b));
      }
      )
  result_right (no_body q b) h = tt

  pub expanded_each : (tokens expanded : List Lexeme) → Each P tokens → Expands tokens expanded → Each P expanded
  expanded_each tokens expanded h l = result_right l (record { done = tt; left = each_map P Right of_text (λ t z. z) tokens h; definitions = λ name. tt })
