-- What texts a grammar derives, and which token lists are the front of one, by cases on the grammar.
use Rattle.std.specs.Prelude.{◌≡◌, ℕ, suc, Bool, true, List, [], ◌∷◌, ◌++◌}
use Rattle.cw_lex.specs.declared.token.TokenKind.{TokenKind}
use Rattle.cw_grammar.specs.Tokens.{Item, same}
use Rattle.cw_grammar.specs.Grammar.{Sort, a_token, a_pair, a_list, Value, Rule, Grammar, one, none, ◌·◌, ◌∣◌, many, ◌⇒◌, opens, Again, again}
use Rattle.cw_grammar.specs.Table.{rule, again_rule}

-- The text stands for the value, and opens at most n levels inside one another.
pub data Derives : ℕ → (s : Sort) → Grammar s → List Item → Value s → Type 0 where
  is_one : {n : ℕ} {k : TokenKind} {t : Item} → same t.kind k ≡ true → Derives n a_token (one k) (t ∷ []) t
  is_none : {n : ℕ} {s : Sort} {x : Value s} → Derives n s (none x) [] x
  is_then : {n : ℕ} {s t : Sort} {g : Grammar s} {h : Grammar t} {u v : List Item} {x : Value s} {y : Value t}
      → Derives n s g u x → Derives n t h v y → Derives n (a_pair s t) (g · h) (u ++ v) (x, y)
  is_left : {n : ℕ} {s : Sort} {g h : Grammar s} {u : List Item} {x : Value s} → Derives n s g u x → Derives n s (g ∣ h) u x
  is_right : {n : ℕ} {s : Sort} {g h : Grammar s} {u : List Item} {x : Value s} → Derives n s h u x → Derives n s (g ∣ h) u x
  is_end : {n : ℕ} {s : Sort} {g : Grammar s} → Derives n (a_list s) (many g) [] []
  is_more : {n : ℕ} {s : Sort} {g : Grammar s} {u v : List Item} {x : Value s} {xs : List (Value s)}
      → Derives n s g u x → Derives n (a_list s) (many g) v xs → Derives n (a_list s) (many g) (u ++ v) (x ∷ xs)
  is_map : {n : ℕ} {s t : Sort} {f : Value s → Value t} {g : Grammar s} {u : List Item} {x : Value s} → Derives n s g u x → Derives n t (g ⇒ f) u (f x)
  is_opens : {n : ℕ} {s : Sort} {k : TokenKind} {r : Rule s} {t : Item} {u : List Item} {x : Value s}
      → same t.kind k ≡ true → Derives n s (rule r) u x
      → Derives (suc n) (a_pair a_token s) (opens k r) (t ∷ u) (t, x)
  is_again : {n : ℕ} {s : Sort} {a : Again s} {u : List Item} {x : Value s} → Derives n s (again_rule a) u x → Derives n s (again a) u x

-- The list is the front of what may be a text of the grammar, and opens at most n levels inside one another.
pub data IsViablePrefix : ℕ → (s : Sort) → Grammar s → List Item → Type 0 where
  no_token : {n : ℕ} {s : Sort} {g : Grammar s} → IsViablePrefix n s g []
  of_one : {n : ℕ} {k : TokenKind} {t : Item} → same t.kind k ≡ true → IsViablePrefix n a_token (one k) (t ∷ [])
  of_first : {n : ℕ} {s t : Sort} {g : Grammar s} {h : Grammar t} {u : List Item} → IsViablePrefix n s g u → IsViablePrefix n (a_pair s t) (g · h) u
  of_second : {n : ℕ} {s t : Sort} {g : Grammar s} {h : Grammar t} {u v : List Item} {x : Value s}
      → Derives n s g u x → IsViablePrefix n t h v → IsViablePrefix n (a_pair s t) (g · h) (u ++ v)
  of_left : {n : ℕ} {s : Sort} {g h : Grammar s} {u : List Item} → IsViablePrefix n s g u → IsViablePrefix n s (g ∣ h) u
  of_right : {n : ℕ} {s : Sort} {g h : Grammar s} {u : List Item} → IsViablePrefix n s h u → IsViablePrefix n s (g ∣ h) u
  of_item : {n : ℕ} {s : Sort} {g : Grammar s} {u : List Item} → IsViablePrefix n s g u → IsViablePrefix n (a_list s) (many g) u
  of_more : {n : ℕ} {s : Sort} {g : Grammar s} {u v : List Item} {x : Value s} → Derives n s g u x
      → IsViablePrefix n (a_list s) (many g) v → IsViablePrefix n (a_list s) (many g) (u ++ v)
  of_map : {n : ℕ} {s t : Sort} {f : Value s → Value t} {g : Grammar s} {u : List Item} → IsViablePrefix n s g u → IsViablePrefix n t (g ⇒ f) u
  of_opens : {n : ℕ} {s : Sort} {k : TokenKind} {r : Rule s} {t : Item} {u : List Item} → same t.kind k ≡ true
      → IsViablePrefix n s (rule r) u → IsViablePrefix (suc n) (a_pair a_token s) (opens k r) (t ∷ u)
  of_again : {n : ℕ} {s : Sort} {a : Again s} {u : List Item} → IsViablePrefix n s (again_rule a) u → IsViablePrefix n s (again a) u
