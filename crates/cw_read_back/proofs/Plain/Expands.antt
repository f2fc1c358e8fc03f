-- The tokens of a text hold no definitions, so they expand to themselves.
use Rattle.std.proofs.Common.{◌≡◌, ℕ, suc, ◌+◌, ◌<◌, ◌≤◌, Bool, true, false, not, ◌&&◌, ◌||◌, ◌==◌, nat_lt, List, [], ◌∷◌, ◌++◌, length, map, None, refl, sym, ap, subst, ◌∙◌, arith, append_assoc, append-nil}
use Rattle.std.specs.Prelude.{Result, Ok}
use Rattle.std.proofs.lemmas.Bool.{and_parts, eqb-true}
use Rattle.std.proofs.lemmas.Bool.Decides.{nat_tests}
use Rattle.std.proofs.lemmas.List.{length-append}
use Rattle.cw_lex.specs.declared.token.TokenKind.{TokenKind}
use Rattle.cw_lex.specs.declared.token.TokenKind.TheVariants as kinds
use Rattle.cw_lex.specs.declared.token.Symbol.TheVariants as symbols
use Rattle.cw_lex.specs.declared.token.Word.TheVariants as words
use Rattle.cw_lex.specs.Lexical.{Lexeme}
use Rattle.cw_macro.specs.declared.fault.TheConstants.{MOST_TOKENS}
use Rattle.cw_macro.specs.Expansion.{Leveled, Expansion, Step, Moved, Finished, Leads, finished, moved, defines, moving, step_at, of_text, Expands}
use Rattle.cw_grammar.specs.Tokens.{Item, same, code, numbered}
use Rattle.cw_grammar.specs.Grammar.{Sort, Value, a_raw, Rule, bracketed, subscript, indexed, called, located, conditional, if_rest, else_rest, for_rest, block_rest, proc_body, Again, labelled, labelled_simple, more_elems, places, Grammar, one, none, ◌·◌, ◌∣◌, many, ◌⇒◌, opens, again}
use Rattle.cw_grammar.specs.Table.{rule, again_rule}
use Rattle.cw_grammar.specs.Rules.{octal, int, sint, number_type, size, bits, reference, constant, worded, enclosed, named, primary, prim, mask, union, differ, term, sum, cmp, cand, condition, expr}
use Rattle.cw_grammar.specs.Statements.{preset_value, place, further_places, presets, assigned, preset, range, bounds, group, elem, table, elems_behind, table_body, data_table, singles, arrays, item_data, base, overlay, ptag, worded_ips, ips, ips_list, procedure_ps, ps, spec_behind, spec, citem, typed_aitem, unplaced_aitem as behind_address, aitem, comm, simple_behind, unnamed, simple, stmt, felem, procedure_param, param, proc_behind, worded_decl, decl, text}
use Rattle.cw_grammar.specs.Derives.{Derives, is_one, is_none, is_then, is_left, is_right, is_end, is_more, is_map, is_opens, is_again}

-- ---- no token of a text defines

defines_code : (k : TokenKind) → defines k ≡ ((code k == 31) || (code k == 32))
defines_code (kinds.Word words.Define) = refl
defines_code (kinds.Word words.Delete) = refl
defines_code (kinds.Symbol symbols.Semicolon) = refl
defines_code _ = refl

same_defines : (j k : TokenKind) → same j k ≡ true → defines j ≡ defines k
same_defines j k e = defines_code j ∙ ap (λ c. (c == 31) || (c == 32)) (eqb-true (code j) (code k) e) ∙ sym (defines_code k)

-- whether no token of a grammar defines
abbrev plain : {s : Sort} → Grammar s → Bool
plain (one k) = not (defines k)
plain (none v) = true
plain (g · h) = plain g && plain h
plain (g ∣ h) = plain g && plain h
plain (many g) = plain g
plain (g ⇒ f) = plain g
plain (opens k r) = not (defines k)
plain (again a) = true

rule_plain : {s : Sort} (r : Rule s) → plain (rule r) ≡ true
unfolding rule octal int sint number_type size bits reference constant worded enclosed named primary prim mask union differ term sum cmp cand condition expr preset_value place further_places presets assigned preset range bounds group elem table elems_behind table_body data_table singles arrays item_data base overlay ptag worded_ips ips ips_list procedure_ps ps spec_behind spec citem typed_aitem behind_address aitem comm simple_behind unnamed simple stmt felem procedure_param param proc_behind worded_decl decl
rule_plain (block_rest true) = refl
rule_plain (block_rest false) = refl
rule_plain _ = refl

again_plain : {s : Sort} (a : Again s) → plain (again_rule a) ≡ true
unfolding again_rule octal int sint number_type size bits reference constant worded enclosed named primary prim mask union differ term sum cmp cand condition expr preset_value place further_places presets assigned preset elem elems_behind simple_behind unnamed simple stmt
again_plain (labelled p) = refl
again_plain (labelled_simple p) = refl
again_plain more_elems = refl
again_plain places = refl

text_plain : plain text ≡ true
unfolding octal int sint number_type size bits preset_value place further_places presets assigned preset range bounds group elem table elems_behind table_body data_table singles arrays item_data base overlay ptag worded_ips ips ips_list procedure_ps ps spec_behind spec citem typed_aitem behind_address aitem comm text
text_plain = refl

abbrev Plain : List Item → Type 0
Plain [] = Unit {0}
Plain (t ∷ ts) = (defines t.kind ≡ false) × Plain ts

plain_both : (u v : List Item) → Plain u → Plain v → Plain (u ++ v)
plain_both [] v h k = k
plain_both (t ∷ u) v h k = (h.0, plain_both u v h.1 k)

no_definition : (b : Bool) → not b ≡ true → b ≡ false
no_definition true h = sym h
no_definition false h = refl

derived_plain : {n : ℕ} {s : Sort} {g : Grammar s} {u : List Item} {x : Value s} → Derives n s g u x → plain g ≡ true → Plain u
derived_plain (is_one {k = k} {t = t} e) f = (same_defines t.kind k e ∙ no_definition (defines k) f, tt)
derived_plain is_none f = tt
derived_plain (is_then {g = g} {h = h} {u = u} {v = v} d e) f = let p = and_parts (plain g) (plain h) f in plain_both u v (derived_plain d p.0) (derived_plain e p.1)
derived_plain (is_left {g = g} {h = h} d) f = derived_plain d (and_parts (plain g) (plain h) f).0
derived_plain (is_right {g = g} {h = h} d) f = derived_plain d (and_parts (plain g) (plain h) f).1
derived_plain is_end f = tt
derived_plain (is_more {u = u} {v = v} d e) f = plain_both u v (derived_plain d f) (derived_plain e f)
derived_plain (is_map d) f = derived_plain d f
derived_plain (is_opens {k = k} {r = r} {t = t} e d) f = (same_defines t.kind k e ∙ no_definition (defines k) f, derived_plain d (rule_plain r))
derived_plain (is_again {a = a} d) f = derived_plain d (again_plain a)

-- ---- the steps

true_false : true ≡ false → ⊥
true_false e = cc

abbrev at_token : List Lexeme → List Leveled → ℕ → Expansion
at_token done left count = record { done = done; definitions = λ name. None; left = left; count = count }

moves : (done : List Lexeme) (left : List Leveled) (count : ℕ) (t : Leveled) (rest : List Leveled) (k : TokenKind) → defines k ≡ false → step_at (at_token done left count) t rest k ≡ moving (at_token done left count) t rest
moves done left count t rest (kinds.Word words.Define) h = absurd (true_false h)
moves done left count t rest (kinds.Word words.Delete) h = absurd (true_false h)
moves done left count t rest kinds.Name h = refl
moves done left count t rest _ h = refl

fits_in : (done : List Lexeme) → length done < 65535 → nat_lt (length done) MOST_TOKENS ≡ true
fits_in done h = grind (arith, nat_tests, h)

leads : (ts : List Lexeme) (k : ℕ) (done : List Lexeme) (count : ℕ) → Plain (numbered k ts) → length done + length ts ≤ 65535 → Leads (at_token done (map of_text ts) count) (Ok (done ++ ts))
leads [] k done count h l = subst (λ z. Leads (at_token done [] count) (Ok z)) (sym (append-nil done)) (finished refl)
leads (t ∷ ts) k done count h l =
    let next : Expansion = at_token (done ++ t ∷ []) (map of_text ts) count in
    let step = moves done (map of_text (t ∷ ts)) count (of_text t) (map of_text ts) t.kind h.0 in
    let here : moving (at_token done (map of_text (t ∷ ts)) count) (of_text t) (map of_text ts) ≡ Moved next = rw (fits_in done (omega (arith, l))) refl in
    subst (λ z. Leads (at_token done (map of_text (t ∷ ts)) count) (Ok z)) (append_assoc done (t ∷ []) ts)
    (moved (step ∙ here) (leads ts (k + 1) (done ++ t ∷ []) count h.1 (omega (arith, l, length-append done (t ∷ [])))))

pub text_expands : {n : ℕ} {x : Value a_raw} (ts : List Lexeme) → length ts ≤ 65535 → Derives n a_raw text (numbered 1 ts) x → Expands ts ts
text_expands ts l d = leads ts 1 [] (length ts) (derived_plain d text_plain) (omega (arith, l))
