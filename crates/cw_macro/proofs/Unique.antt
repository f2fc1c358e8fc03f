-- Tokens have one outcome.
use Rattle.std.proofs.Common.{◌≡◌, List, Result, Ok, Err, false, refl, sym, ap, subst, ◌∙◌}
use Rattle.std.specs.List.{list_any}
use Rattle.cw_lex.specs.declared.token.Form.TheVariants.{MacroBody}
use Rattle.cw_lex.specs.Lexical.{Lexeme, HasOneList, HasNotBoth}
use Rattle.cw_macro.specs.declared.fault.MacroFault.{MacroFault}
use Rattle.cw_macro.specs.declared.fault.MacroFault.TheVariants as faults
use Rattle.cw_macro.specs.Expansion.{Leveled, Expansion, Heading, Step, Finished, Refused, Moved, Defining, defined, defines, expansion_step, HasBody, HasNoBody, faulty, redefining, body_place, body_text, Leads, finished, refused, moved, with_body, no_body}

-- how a run begins
data Begins (e : Expansion) (r : Result (List Lexeme) MacroFault) : Type 0 where
  ends : expansion_step e ≡ Finished → r ≡ Ok e.done → Begins e r
  fails : {fault : MacroFault} → expansion_step e ≡ Refused fault → r ≡ Err fault → Begins e r
  goes : {next : Expansion} → expansion_step e ≡ Moved next → Leads next r → Begins e r
  reads : {h : Heading} {rest : List Leveled} {body : List Lexeme} → expansion_step e ≡ Defining h rest → HasBody h.string body → Leads (defined e h rest body) r → Begins e r
  lacks : {h : Heading} {rest : List Leveled} → expansion_step e ≡ Defining h rest → HasNoBody h.string → r ≡ Err (faults.BadDefine h.line) → Begins e r

begins : {e : Expansion} {r : Result (List Lexeme) MacroFault} → Leads e r → Begins e r
begins (finished h) = ends h refl
begins (refused h) = fails h refl
begins (moved h d) = goes h d
begins (with_body h b d) = reads h b d
begins (no_body h n) = lacks h n refl

same_next : (s : Step) (a b : Expansion) → s ≡ Moved a → s ≡ Moved b → b ≡ a
same_next s a b h g = cc

same_heading : (s : Step) (h k : Heading) (a b : List Leveled) → s ≡ Defining h a → s ≡ Defining k b → (k ≡ h) × (b ≡ a)
same_heading s h k a b p q = (cc, cc)

-- by the laws of the lexer
module _ (one : HasOneList) (not_both : HasNotBoth) where
  same_body : (h k : Heading) (b c : List Lexeme) → k ≡ h → HasBody h.string b → HasBody k.string c → c ≡ b
  same_body h k b c e p q =
      let P : Heading → Type 0 = λ z. HasBody z.string c in
      one MacroBody (body_place h.string) (body_text h.string) c b (subst P e q).tokenizes p.tokenizes

  no_both : (h k : Heading) (b : List Lexeme) → k ≡ h → HasBody h.string b → HasNoBody k.string → ⊥
  no_both h k b e p q = at (let P : Heading → Type 0 = λ z. HasNoBody z.string in subst P e q)
    where
      at : HasNoBody h.string → ⊥
      at (faulty {fault = f} d) = not_both MacroBody (body_place h.string) (body_text h.string) b f p.tokenizes d
      at (redefining {body = c} d x) =
          let same : b ≡ c = one MacroBody (body_place h.string) (body_text h.string) b c p.tokenizes d in
          let y : list_any (λ t. defines t.kind) c ≡ false = subst (λ (z : List Lexeme). list_any (λ t. defines t.kind) z ≡ false) same p.defines_nothing in
          absurd cc

  pub one_outcome : {e : Expansion} {r : Result (List Lexeme) MacroFault} → Leads e r → (s : Result (List Lexeme) MacroFault) → Leads e s → r ≡ s
  one_outcome (finished h) s f = elim (begins f) [
    | ends g q ↦ sym q
    | fails g q ↦ cc
    | goes g d ↦ cc
    | reads g b d ↦ cc
    | lacks g n q ↦ cc
  ]
  one_outcome (refused h) s f = elim (begins f) [
    | ends g q ↦ cc
    | fails g q ↦ cc
    | goes g d ↦ cc
    | reads g b d ↦ cc
    | lacks g n q ↦ cc
  ]
  one_outcome {e} (moved {next = next} h d) s f = elim (begins f) [
    | ends g q ↦ cc
    | fails g q ↦ cc
    | goes {next = other} g x ↦ one_outcome d s (subst (λ (z : Expansion). Leads z s) (same_next (expansion_step e) next other h g) x)
    | reads g b x ↦ cc
    | lacks g n q ↦ cc
  ]
  one_outcome {e} (with_body {h = h} {rest = rest} {body = body} p b d) s f = elim (begins f) [
    | ends g q ↦ cc
    | fails g q ↦ cc
    | goes g x ↦ cc
    | reads {h = k} {rest = other} {body = c} g b' x ↦
        (let same = same_heading (expansion_step e) h k rest other p g in
        let text : c ≡ body = same_body h k body c same.0 b b' in
        let state : defined e k other c ≡ defined e h rest body = ap (λ (z : Heading). defined e z other c) same.0 ∙ ap (λ (z : List Leveled). defined e h z c) same.1 ∙ ap (λ (z : List Lexeme). defined e h rest z) text in
        one_outcome d s (subst (λ (z : Expansion). Leads z s) state x))
    | lacks {h = k} {rest = other} g n q ↦ absurd (no_both h k body (same_heading (expansion_step e) h k rest other p g).0 b n)
  ]
  one_outcome {e} (no_body {h = h} {rest = rest} p n) s f = elim (begins f) [
    | ends g q ↦ cc
    | fails g q ↦ cc
    | goes g x ↦ cc
    | reads {h = k} {rest = other} {body = c} g b x ↦ absurd (no_both k h c (same_heading (expansion_step e) k h other rest g p).0 b n)
    | lacks {h = k} {rest = other} g m q ↦ ap (λ (z : Heading). Err (faults.BadDefine z.line)) (sym (same_heading (expansion_step e) h k rest other p g).0) ∙ sym q
  ]
