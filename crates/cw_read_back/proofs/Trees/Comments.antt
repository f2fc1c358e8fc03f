-- In no text of the grammar stands an opening bracket behind a semicolon.
use Rattle.std.proofs.Common.{◌≡◌, ℕ, ◌==◌, Bool, true, false, not, ◌&&◌, ◌||◌, List, [], ◌++◌, map, refl, sym, ap, subst, ◌∙◌, append_assoc}
use Rattle.std.specs.Prelude.{if◌then◌else◌}
use Rattle.std.proofs.lemmas.Bool.{and_parts, eqb-true}
use Rattle.cw_lex.specs.declared.token.TokenKind.{TokenKind}
use Rattle.cw_lex.specs.declared.token.TokenKind.TheVariants as kinds
use Rattle.cw_lex.specs.declared.token.Symbol.TheVariants as symbols
use Rattle.cw_lex.specs.declared.token.Word.TheVariants as words
use Rattle.cw_lex.specs.Lexical.{is_token, is_semicolon}
use Rattle.cw_tree.specs.declared.segment.Raw.{Raw}
use Rattle.cw_grammar.specs.Tokens.{Item, same, code}
use Rattle.cw_grammar.specs.Grammar.{Sort, Value, a_raw, Rule, bracketed, subscript, indexed, called, located, conditional, if_rest, else_rest, for_rest, block_rest, proc_body, Again, labelled, labelled_simple, more_elems, places, Grammar, one, none, ◌·◌, ◌∣◌, many, ◌⇒◌, opens, again, null}
use Rattle.cw_grammar.specs.Table.{rule, again_rule}
use Rattle.cw_grammar.specs.Rules.{octal, int, sint, number_type, size, bits, reference, constant, worded, enclosed, named, primary, prim, mask, union, differ, term, sum, cmp, cand, condition, expr}
use Rattle.cw_grammar.specs.Statements.{preset_value, place, further_places, presets, assigned, preset, range, bounds, group, elem, table, elems_behind, table_body, data_table, singles, arrays, item_data, base, overlay, ptag, worded_ips, ips, ips_list, procedure_ps, ps, spec_behind, spec, citem, typed_aitem, unplaced_aitem as behind_address, aitem, comm, simple_behind, unnamed, simple, stmt, felem, procedure_param, param, proc_behind, worded_decl, decl, text}
use Rattle.cw_grammar.specs.Derives.{Derives, is_one, is_none, is_then, is_left, is_right, is_end, is_more, is_map, is_opens, is_again}
use Rattle.cw_show.specs.Lexing.{NoComment}
use Rattle.cw_read_back.specs.Expressions.ReadingBack.{spell}

-- ---- kinds of one code

semicolon_code : (k : TokenKind) → is_semicolon k ≡ (code k == 4)
semicolon_code (kinds.Symbol symbols.Semicolon) = refl
semicolon_code (kinds.Word words.Comment) = refl
semicolon_code _ = refl

token_code : (b : Bool) (k : TokenKind) → is_token b k ≡ (if code k == 29 then false else (if code k == 7 then not b else true))
token_code b (kinds.Symbol symbols.Open) = refl
token_code b (kinds.Word words.Comment) = refl
token_code b _ = refl

same_semicolon : (j k : TokenKind) → same j k ≡ true → is_semicolon j ≡ is_semicolon k
same_semicolon j k e = semicolon_code j ∙ ap (λ c. c == 4) (eqb-true (code j) (code k) e) ∙ sym (semicolon_code k)

same_token : (b : Bool) (j k : TokenKind) → same j k ≡ true → is_token b j ≡ is_token b k
same_token b j k e = token_code b j ∙ ap (λ c. if c == 29 then false else (if c == 7 then not b else true)) (eqb-true (code j) (code k) e) ∙ sym (token_code b k)

-- ---- at most

abbrev Below : Bool → Bool → Type 0
Below a b = a ≡ true → b ≡ true

not_true : {A : Type 0} → false ≡ true → A
not_true e = absurd cc

token_false : (k : TokenKind) → is_token true k ≡ true → is_token false k ≡ true
token_false (kinds.Symbol symbols.Open) h = refl
token_false (kinds.Word words.Comment) h = h
token_false _ h = refl

token_below : (a b : Bool) (k : TokenKind) → Below a b → is_token b k ≡ true → is_token a k ≡ true
token_below true true k h e = e
token_below true false k h e = not_true (h refl)
token_below false true k h e = token_false k e
token_below false false k h e = e

left_below : (s t : Bool) → Below s (s || t)
left_below true t k = refl
left_below false t k = not_true k

right_below : (s t : Bool) → Below t (s || t)
right_below true t k = refl
right_below false t k = k

then_below : (th nh tg ng b : Bool) → Below (th || (nh && (tg || (ng && b)))) ((th || (nh && tg)) || ((ng && nh) && b))
then_below true nh tg ng b k = refl
then_below false false tg ng b k = not_true k
then_below false true true ng b k = refl
then_below false true false true b k = k
then_below false true false false b k = not_true k

first_below : (tg th ng nh b : Bool) → Below (tg || (ng && b)) ((tg || th) || ((ng || nh) && b))
first_below true th ng nh b k = refl
first_below false true ng nh b k = refl
first_below false false true nh b k = k
first_below false false false nh b k = not_true k

second_below : (tg th ng nh b : Bool) → Below (th || (nh && b)) ((tg || th) || ((ng || nh) && b))
second_below true th ng nh b k = refl
second_below false true ng nh b k = refl
second_below false false true true b k = k
second_below false false false true b k = k
second_below false false true false b k = not_true k
second_below false false false false b k = not_true k

more_below : (t n b : Bool) → Below (t || (n && (t || b))) (t || b)
more_below true n b k = refl
more_below false true b k = k
more_below false false b k = not_true k

again_same : (t b : Bool) → (t || (t || b)) ≡ (t || b)
again_same true b = refl
again_same false b = refl

-- ---- what a grammar may end with, and where it may stand

abbrev rule_tail : {s : Sort} → Rule s → Bool
rule_tail (if_rest p) = true
rule_tail (else_rest p) = true
rule_tail (for_rest p) = true
rule_tail (block_rest p) = true
rule_tail proc_body = true
rule_tail _ = false

-- whether a semicolon may stand before what is inside a level
abbrev rule_front : {s : Sort} → Rule s → Bool
rule_front proc_body = true
rule_front _ = false

abbrev again_front : {s : Sort} → Again s → Bool
again_front (labelled p) = true
again_front (labelled_simple p) = true
again_front more_elems = true
again_front places = false

-- whether the last token of a text may be a semicolon
abbrev tail : {s : Sort} → Grammar s → Bool
tail (one k) = is_semicolon k
tail (none v) = false
tail (g · h) = tail h || (null h && tail g)
tail (g ∣ h) = tail g || tail h
tail (many g) = tail g
tail (g ⇒ f) = tail g
tail (opens k r) = rule_tail r
tail (again a) = true

-- whether that may be before what stands behind a text, where it may be before the text
abbrev after : {s : Sort} → Grammar s → Bool → Bool
after g b = tail g || (null g && b)

-- whether no bracket stands behind a semicolon in a text, where a semicolon may stand before it if the flag is true
abbrev fits : {s : Sort} → Grammar s → Bool → Bool
fits (one k) b = is_token b k
fits (none v) b = true
fits (g · h) b = fits g b && fits h (after g b)
fits (g ∣ h) b = fits g b && fits h b
fits (many g) b = fits g (tail g || b)
fits (g ⇒ f) b = fits g b
fits (opens k r) b = is_token b k && (not (is_semicolon k) || rule_front r)
fits (again a) b = again_front a || not b

opened_below : (s f : Bool) → (not s || f) ≡ true → Below s f
opened_below true f h k = h
opened_below false f h k = not_true k

again_below : (f b : Bool) → (f || not b) ≡ true → Below b f
again_below true b h k = refl
again_below false true h k = h
again_below false false h k = k

rule_fits : {s : Sort} (r : Rule s) → fits (rule r) (rule_front r) ≡ true
unfolding rule again_rule octal int sint number_type size bits reference constant worded enclosed named primary prim mask union differ term sum cmp cand condition expr preset_value place further_places presets assigned preset range bounds group elem table elems_behind table_body data_table singles arrays item_data base overlay ptag worded_ips ips ips_list procedure_ps ps spec_behind spec citem typed_aitem behind_address aitem comm simple_behind unnamed simple stmt felem procedure_param param proc_behind worded_decl decl
rule_fits (block_rest true) = refl
rule_fits (block_rest false) = refl
rule_fits _ = refl

rule_ends : {s : Sort} (r : Rule s) → Below (after (rule r) (rule_front r)) (rule_tail r)
unfolding rule again_rule octal int sint number_type size bits reference constant worded enclosed named primary prim mask union differ term sum cmp cand condition expr
rule_ends bracketed k = k
rule_ends subscript k = k
rule_ends indexed k = k
rule_ends called k = k
rule_ends located k = k
rule_ends conditional k = k
rule_ends (if_rest p) k = refl
rule_ends (else_rest p) k = refl
rule_ends (for_rest p) k = refl
rule_ends (block_rest p) k = refl
rule_ends proc_body k = refl

again_fits : {s : Sort} (a : Again s) → fits (again_rule a) (again_front a) ≡ true
unfolding rule again_rule octal int sint number_type size bits reference constant worded enclosed named primary prim mask union differ term sum cmp cand condition expr preset_value place further_places presets assigned preset elem elems_behind simple_behind unnamed simple stmt
again_fits (labelled p) = refl
again_fits (labelled_simple p) = refl
again_fits more_elems = refl
again_fits places = refl

text_fits : fits text false ≡ true
unfolding rule again_rule octal int sint number_type size bits reference constant worded enclosed named primary prim mask union differ term sum cmp cand condition expr preset_value place further_places presets assigned preset range bounds group elem table elems_behind table_body data_table singles arrays item_data base overlay ptag worded_ips ips ips_list procedure_ps ps spec_behind spec citem typed_aitem behind_address aitem comm text
text_fits = refl

-- ---- derived texts

-- what stands behind a text, after a semicolon at most where the flag says so
abbrev Rest : Bool → List Item → Type 0
Rest b v = (c : Bool) → Below c b → NoComment c (map spell v)

carried : {n : ℕ} {s : Sort} {g : Grammar s} {u : List Item} {x : Value s} → Derives n s g u x → (a b : Bool) → Below a b → fits g b ≡ true → (v : List Item) → Rest (after g b) v → NoComment a (map spell (u ++ v))
carried (is_one {k = k} {t = t} e) a b h f v r =
    (same_token a t.kind k e ∙ token_below a b k h f, r (is_semicolon t.kind) (λ q. left_below (is_semicolon k) false (sym (same_semicolon t.kind k e) ∙ q)))
carried is_none a b h f v r = r a h
carried (is_then {g = g} {h = k} {u = u} {v = w} d e) a b h f v r =
    let p = and_parts (fits g b) (fits k (after g b)) f in
    subst (λ z. NoComment a (map spell z)) (sym (append_assoc u w v))
    (carried d a b h p.0 (w ++ v) (λ c q. carried e c (after g b) q p.1 v (λ i j. r i (λ l. then_below (tail k) (null k) (tail g) (null g) b (j l)))))
carried (is_left {g = g} {h = k} d) a b h f v r = carried d a b h (and_parts (fits g b) (fits k b) f).0 v (λ c q. r c (λ l. first_below (tail g) (tail k) (null g) (null k) b (q l)))
carried (is_right {g = g} {h = k} d) a b h f v r = carried d a b h (and_parts (fits g b) (fits k b) f).1 v (λ c q. r c (λ l. second_below (tail g) (tail k) (null g) (null k) b (q l)))
carried (is_end {g = g}) a b h f v r = r a (λ l. right_below (tail g) b (h l))
carried (is_more {g = g} {u = u} {v = w} d e) a b h f v r =
    let m : Bool = tail g || b in
    let idem : (tail g || m) ≡ m = again_same (tail g) b in
    subst (λ z. NoComment a (map spell z)) (sym (append_assoc u w v))
    (carried d a m (λ l. right_below (tail g) b (h l)) f (w ++ v) (λ c q. carried e c m (λ l. more_below (tail g) (null g) b (q l)) (ap (fits g) idem ∙ f) v (λ i j. r i (λ l. sym idem ∙ j l))))
carried (is_map d) a b h f v r = carried d a b h f v r
carried (is_opens {k = k} {r = o} {t = t} e d) a b h f v r =
    let p = and_parts (is_token b k) (not (is_semicolon k) || rule_front o) f in (
      same_token a t.kind k e ∙ token_below a b k h p.0,
      carried d (is_semicolon t.kind) (rule_front o) (λ l. opened_below (is_semicolon k) (rule_front o) p.1 (sym (same_semicolon t.kind k e) ∙ l)) (rule_fits o) v (λ c q. r c (λ l. left_below (rule_tail o) false (rule_ends o (q l)))),
    )
carried (is_again {a = o} d) a b h f v r = carried d a (again_front o) (λ l. again_below (again_front o) b f (h l)) (again_fits o) v (λ c q. r c (λ l. refl))

pub no_comment : {n : ℕ} {u : List Item} {x : Raw} → Derives n a_raw text u x → (u ++ []) ≡ u → NoComment false (map spell u)
no_comment {u = u} d e = subst (λ z. NoComment false (map spell z)) e (carried d false false (λ k. k) text_fits [] (λ c q. tt))
