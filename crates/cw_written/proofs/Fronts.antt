-- The fronts of labels, and of what stands behind them.
use Rattle.std.proofs.Common.{ℕ, List, [], ◌++◌, sym, subst, append_assoc}
use Rattle.cw_lex.specs.declared.token.Symbol.TheVariants as symbols
use Rattle.cw_tree.specs.declared.leaf.RawName.{RawName}
use Rattle.cw_grammar.specs.Tokens.{Item}
use Rattle.cw_grammar.specs.Grammar.{Sort, a_token, a_list, a_name, a_from, Value, Grammar, ◌∣◌, ◌⇒◌, many, Again, again}
use Rattle.cw_grammar.specs.Rules.{symbol, ◌*>◌, ◌<*◌, name}
use Rattle.cw_grammar.specs.Statements.{from}
use Rattle.cw_grammar.specs.Derives.{Derives, is_then, is_end, is_more, is_map, IsViablePrefix, no_token, of_first, of_second, of_left, of_item, of_more, of_map}

abbrev pub label : Grammar a_name
label = name <* symbol symbols.Colon

-- such a front may begin with a label, and stand behind one
pub record MayHaveLabels (n : ℕ) (Front : List Item → Type 0) : Type 0 where
  pub nothing : Front []
  pub in_name : {w : List Item} → IsViablePrefix n a_name name w → Front w
  pub in_colon : {a w : List Item} {x : RawName} → Derives n a_name name a x → IsViablePrefix n a_token (symbol symbols.Colon) w → Front (a ++ w)
  pub labelled : {a c v : List Item} {x : RawName} {t : Item} → Derives n a_name name a x → Derives n a_token (symbol symbols.Colon) c t → Front v → Front (a ++ (c ++ v))

pub in_labels : {n : ℕ} {Front : List Item → Type 0} → MayHaveLabels n Front → {w : List Item} → IsViablePrefix n (a_list a_name) (many label) w → Front w
in_labels may no_token = may.nothing
in_labels may (of_item no_token) = may.nothing
in_labels may (of_item (of_map no_token)) = may.nothing
in_labels may (of_item (of_map (of_first q))) = may.in_name q
in_labels may (of_item (of_map (of_second d e))) = may.in_colon d e
in_labels {Front = Front} may (of_more {v = v} (is_map (is_then {u = a} {v = c} d e)) q) = subst Front (sym (append_assoc a c v)) (may.labelled d e (in_labels may q))

pub behind_labels : {n : ℕ} {Front : List Item → Type 0} → MayHaveLabels n Front → {u v : List Item} {ns : List RawName} → Derives n (a_list a_name) (many label) u ns → Front v → Front (u ++ v)
behind_labels may is_end q = q
behind_labels {Front = Front} may {v = v} (is_more {v = w} (is_map (is_then {u = a} {v = c} d e)) ls) q =
    subst Front (sym (append_assoc (a ++ c) w v)) (subst Front (sym (append_assoc a c (w ++ v))) (may.labelled d e (behind_labels may ls q)))

-- so is a rule that leads back to itself behind a label
pub led_by_labels : {n : ℕ} {s : Sort} (a : Again s) {f : Value s → RawName → Value s} {h : Grammar (a_from a_name s)}
    → ((w : List Item) → IsViablePrefix n s (from name (symbol symbols.Colon *> again a ⇒ f ∣ h)) w → IsViablePrefix n s (again a) w) → MayHaveLabels n (λ (w : List Item). IsViablePrefix n s (again a) w)
led_by_labels a up = record {
  nothing = no_token;
  in_name = λ q. up _ (of_map (of_first q));
  in_colon = λ d e. up _ (of_map (of_second d (of_left (of_map (of_map (of_first e))))));
  labelled = λ d e k. up _ (of_map (of_second d (of_left (of_map (of_map (of_second e k))))));
}

-- A front that begins with a name is one of each rule in which what may stand behind that name may.
pub name_front : {n : ℕ} {r s : Sort} {g : Grammar (a_from a_name r)} {h : Grammar (a_from a_name s)} {w : List Item} → IsViablePrefix n r (from name g) w
    → ((v : List Item) → IsViablePrefix n (a_from a_name r) g v → IsViablePrefix n (a_from a_name s) h v) → IsViablePrefix n s (from name h) w
name_front no_token behind = no_token
name_front (of_map no_token) behind = no_token
name_front (of_map (of_first q)) behind = of_map (of_first q)
name_front (of_map (of_second {v = v} d q)) behind = of_map (of_second d (behind v q))
