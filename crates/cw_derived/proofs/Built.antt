-- What was derived, with what is known of it inside the levels and of the rules that lead back to themselves.
use Rattle.std.proofs.Common.{◌≡◌, ℕ, suc, Bool, true, List, [], ◌∷◌, ◌++◌, Option, Some, None, subst, sym, append-nil, append_assoc}
use Rattle.cw_lex.specs.declared.token.TokenKind.{TokenKind}
use Rattle.cw_tree.specs.declared.leaf.Position.{Position}
use Rattle.cw_tree.specs.declared.statement.RawForm.TheVariants as form_tree
use Rattle.cw_tree.specs.declared.statement.RawBlock.{roll-RawBlock}
use Rattle.cw_grammar.specs.Tokens.{Item, same, position}
use Rattle.cw_grammar.specs.Grammar.{Sort, a_token, a_pair, a_list, an_option, a_from, a_position, an_expr, a_cond, a_ref, a_form, a_block, a_stmt, Value, Rule, bracketed, subscript, indexed, called, located, conditional, if_rest, else_rest, for_rest, block_rest, proc_body, Again, labelled, labelled_simple, more_elems, places, Grammar, one, none, ◌·◌, ◌∣◌, many, ◌⇒◌, opens, again}
use Rattle.cw_grammar.specs.Rules.{◌*>◌, ◌<*◌, optional}
use Rattle.cw_grammar.specs.Statements.{listed, in_round, in_square}
use Rattle.cw_derived.specs.Marks.{mark, mark_behind, Within}
use Rattle.cw_derived.specs.NormalForm.{IsNormal, no_more, one_more, absent, present, both}
use Rattle.cw_derived.specs.Proper.{IsNormalWithin}
use Rattle.cw_derived.proofs.Withins.{join, none_within, front, beyond}

-- a list of one item at least
pub data Filled (n : ℕ) (p : Bool) (s : Sort) : List (Value s) → List ℕ → Type 0 where
  filled : {x : Value s} {xs : List (Value s)} {ns : List ℕ} → IsNormalWithin n p (a_list s) (x ∷ xs) ns → Filled n p s (x ∷ xs) ns

-- Places of presets are told the position before them.
abbrev pub Fine : ℕ → Bool → (s : Sort) → Value s → List ℕ → Type 0
Fine n p (a_from a_position (a_list t)) f ns = (before : Position) → Filled n p t (f before) (mark_behind before ∷ ns)
Fine n p s x ns = IsNormalWithin n p s x ns

-- inside a procedure's body
abbrev pub flag : {s : Sort} → Bool → Rule s → Bool
flag p (if_rest q) = q
flag p (else_rest q) = q
flag p (for_rest q) = q
flag p (block_rest q) = q
flag p proc_body = true
flag p _ = p

abbrev pub again_flag : {s : Sort} → Bool → Again s → Bool
again_flag p (labelled q) = q
again_flag p (labelled_simple q) = q
again_flag p more_elems = p
again_flag p places = p

-- What is known inside a level. Behind IF, FOR and BEGIN it is what they make of it: ELSE opens a level of its own.
abbrev pub Inside : {s : Sort} → ℕ → Bool → Rule s → Value s → List ℕ → Type 0
Inside n p bracketed x ns = IsNormalWithin n p an_expr x ns
Inside n p subscript x ns = IsNormalWithin n p an_expr x ns
Inside n p indexed x ns = IsNormalWithin n p (a_pair an_expr (an_option an_expr)) x ns
Inside n p called x ns = Filled n p an_expr x ns
Inside n p located x ns = IsNormalWithin n p a_ref x ns
Inside n p conditional x ns = IsNormalWithin n p (a_pair a_cond (a_pair an_expr an_expr)) x ns
Inside n p (if_rest q) x ns = (at : Position) → IsNormalWithin (suc n) q a_form (form_tree.If at x.0 x.1.0.0 x.1.0.1 x.1.1) (mark at ∷ ns)
Inside n p (else_rest q) x ns = IsNormalWithin n q a_stmt x ns
Inside n p (for_rest q) x ns = (at : Position) → IsNormalWithin (suc n) q a_form (form_tree.For at x.0 x.1.0 x.1.1) (mark at ∷ ns)
Inside n p (block_rest q) x ns = (at : Position) → IsNormalWithin (suc n) q a_block (roll-RawBlock (record { at = at; decls = x.0; stmts = x.1 })) (mark at ∷ ns)
Inside n p proc_body x ns = IsNormalWithin n true a_stmt x ns

-- the marks of a token
abbrev pub marks_of : Item → List ℕ → List ℕ
marks_of t ns = mark (position t) ∷ mark_behind (position t) ∷ ns

pub data Built : ℕ → Bool → (s : Sort) → Grammar s → Value s → List ℕ → Type 0 where
  b_one : {n : ℕ} {p : Bool} {k : TokenKind} {t : Item} → same t.kind k ≡ true → Built n p a_token (one k) t (marks_of t [])
  b_none : {n : ℕ} {p : Bool} {s : Sort} {x : Value s} → Built n p s (none x) x []
  b_then : {n : ℕ} {p : Bool} {s t : Sort} {g : Grammar s} {h : Grammar t} {u v : List ℕ} {x : Value s} {y : Value t} → Built n p s g x u → Built n p t h y v → Built n p (a_pair s t) (g · h) (x, y) (u ++ v)
  b_left : {n : ℕ} {p : Bool} {s : Sort} {g h : Grammar s} {u : List ℕ} {x : Value s} → Built n p s g x u → Built n p s (g ∣ h) x u
  b_right : {n : ℕ} {p : Bool} {s : Sort} {g h : Grammar s} {u : List ℕ} {x : Value s} → Built n p s h x u → Built n p s (g ∣ h) x u
  b_end : {n : ℕ} {p : Bool} {s : Sort} {g : Grammar s} → Built n p (a_list s) (many g) [] []
  b_more : {n : ℕ} {p : Bool} {s : Sort} {g : Grammar s} {u v : List ℕ} {x : Value s} {xs : List (Value s)} → Built n p s g x u → Built n p (a_list s) (many g) xs v → Built n p (a_list s) (many g) (x ∷ xs) (u ++ v)
  b_map : {n : ℕ} {p : Bool} {s t : Sort} {f : Value s → Value t} {g : Grammar s} {u : List ℕ} {x : Value s} → Built n p s g x u → Built n p t (g ⇒ f) (f x) u
  b_opens : {n : ℕ} {p : Bool} {s : Sort} {k : TokenKind} {r : Rule s} {t : Item} {u : List ℕ} {x : Value s} → same t.kind k ≡ true → Inside n p r x u → Built (suc n) p (a_pair a_token s) (opens k r) (t, x) (marks_of t u)
  b_again : {n : ℕ} {p : Bool} {s : Sort} {a : Again s} {u : List ℕ} {x : Value s} → Fine n (again_flag p a) s x u → Built n p s (again a) x u

-- ---- lists and what may be left out

-- a reader's text in normal form
abbrev pub Gives : ℕ → Bool → (s : Sort) → Grammar s → Type 0
Gives n p s g = (x : Value s) (ns : List ℕ) → Built n p s g x ns → IsNormalWithin n p s x ns

-- of two parts in a row, where what their normal forms make is in normal form
pub in_a_row : {n : ℕ} {p : Bool} {s t w : Sort} {x : Value s} {y : Value t} {z : Value w} {u v : List ℕ} → IsNormalWithin n p s x u → IsNormalWithin n p t y v
    → ((a b : List ℕ) → IsNormal n p s x a → IsNormal n p t y b → IsNormal n p w z (a ++ b)) → IsNormalWithin n p w z (u ++ v)
in_a_row g k made = record { marks = g.marks ++ k.marks; within = join g.within k.within; normal = made g.marks k.marks g.normal k.normal }

pub two : {n : ℕ} {p : Bool} {s t : Sort} {x : Value s} {y : Value t} {u v : List ℕ} → IsNormalWithin n p s x u → IsNormalWithin n p t y v → IsNormalWithin n p (a_pair s t) (x, y) (u ++ v)
two a b = in_a_row a b (λ c d h k. both h k)

pub some : {n : ℕ} {p : Bool} {s : Sort} {x : Value s} {u : List ℕ} → IsNormalWithin n p s x u → IsNormalWithin n p (an_option s) (Some x) u
some a = record { marks = a.marks; within = a.within; normal = present a.normal }

pub nothing : {n : ℕ} {p : Bool} {s : Sort} (u : List ℕ) → IsNormalWithin n p (an_option s) None u
nothing u = record { marks = []; within = none_within u; normal = absent }

pub no_items : {n : ℕ} {p : Bool} {s : Sort} (u : List ℕ) → IsNormalWithin n p (a_list s) [] u
no_items u = record { marks = []; within = none_within u; normal = no_more }

pub items_more : {n : ℕ} {p : Bool} {s : Sort} {x : Value s} {xs : List (Value s)} {u v : List ℕ} → IsNormalWithin n p s x u → IsNormalWithin n p (a_list s) xs v → IsNormalWithin n p (a_list s) (x ∷ xs) (u ++ v)
items_more a b = in_a_row a b (λ c d h k. one_more h k)

-- with more marks around
pub after : {n : ℕ} {p : Bool} {s : Sort} {x : Value s} {v : List ℕ} (u : List ℕ) → IsNormalWithin n p s x v → IsNormalWithin n p s x (u ++ v)
after u a = record { marks = a.marks; within = beyond u a.within; normal = a.normal }

pub before : {n : ℕ} {p : Bool} {s : Sort} {x : Value s} {u : List ℕ} (v : List ℕ) → IsNormalWithin n p s x u → IsNormalWithin n p s x (u ++ v)
before v a = record { marks = a.marks; within = front v a.within; normal = a.normal }

pub many_normal : {n : ℕ} {p : Bool} {s : Sort} {g : Grammar s} → Gives n p s g → {xs : List (Value s)} {ns : List ℕ} → Built n p (a_list s) (many g) xs ns → IsNormalWithin n p (a_list s) xs ns
many_normal f b_end = no_items []
many_normal f (b_more {u = u} {x = x} d e) = items_more (f x u d) (many_normal f e)

pub optional_normal : {n : ℕ} {p : Bool} {s : Sort} {g : Grammar s} → Gives n p s g → {o : Option (Value s)} {ns : List ℕ} → Built n p (an_option s) (optional g) o ns → IsNormalWithin n p (an_option s) o ns
optional_normal f (b_left (b_map {u = u} {x = x} d)) = some (f x u d)
optional_normal f (b_right b_none) = nothing []

pub second_normal : {n : ℕ} {p : Bool} {s t : Sort} {g : Grammar s} {h : Grammar t} → Gives n p t h → {y : Value t} {ns : List ℕ} → Built n p t (g *> h) y ns → IsNormalWithin n p t y ns
second_normal f (b_map (b_then {u = u} {v = v} {y = y} d e)) = after u (f y v e)

pub first_normal : {n : ℕ} {p : Bool} {s t : Sort} {g : Grammar s} {h : Grammar t} → Gives n p s g → {x : Value s} {ns : List ℕ} → Built n p s (g <* h) x ns → IsNormalWithin n p s x ns
first_normal f (b_map (b_then {u = u} {v = v} {x = x} d e)) = before v (f x u d)

-- an item, and more, each behind a separator
pub some_normal : {n : ℕ} {p : Bool} {s t : Sort} {g : Grammar s} {h : Grammar t} → Gives n p s g → {x : Value s} {xs : List (Value s)} {u v : List ℕ} → Built n p s g x u → Built n p (a_list s) (many (h *> g)) xs v → IsNormalWithin n p (a_list s) (x ∷ xs) (u ++ v)
some_normal f {x = x} {u = u} d e = items_more (f x u d) (many_normal (λ y ns b. second_normal f b) e)

-- such a list in round brackets, or none
pub listed_normal : {n : ℕ} {p : Bool} {s t : Sort} {g : Grammar s} {h : Grammar t} {xs : List (Value s)} {ns : List ℕ} → Built n p (a_list s) (listed (in_round (g · many (h *> g) ⇒ (λ x. x.0 ∷ x.1)))) xs ns → Gives n p s g → IsNormalWithin n p (a_list s) xs ns
listed_normal (b_left (b_map (b_then {u = u} o (b_map (b_then {v = v} (b_map (b_then d e)) c))))) f = after u (before v (some_normal f d e))
listed_normal (b_right b_none) f = no_items []

pub round_normal : {n : ℕ} {p : Bool} {s : Sort} {g : Grammar s} → Gives n p s g → Gives n p s (in_round g)
round_normal f x ns d = second_normal (λ y ms b. first_normal f b) d

pub square_normal : {n : ℕ} {p : Bool} {s : Sort} {g : Grammar s} → Gives n p s g → Gives n p s (in_square g)
square_normal f x ns d = second_normal (λ y ms b. first_normal f b) d

-- texts, each of two parts
pub pairs_normal : {n : ℕ} {p : Bool} {s t : Sort} {g : Grammar s} {h : Grammar t} {xs : List (Value s × Value t)} {ns : List ℕ} → Built n p (a_list (a_pair s t)) (many (g · h)) xs ns → Gives n p s g → Gives n p t h → IsNormalWithin n p (a_list (a_pair s t)) xs ns
pairs_normal b_end f k = no_items []
pairs_normal (b_more (b_then {u = u} {v = v} {x = x} {y = y} d e) r) f k = items_more (two (f x u d) (k y v e)) (pairs_normal r f k)

-- an operand, and more of them behind operators
pub operation_normal : {n : ℕ} {p : Bool} {s o t : Sort} {g : Grammar s} {h : Grammar o} {f : Value s × List (Value o × Value s) → Value t}
    → ((x : Value s) (more : List (Value o × Value s)) (u v : List ℕ) → IsNormalWithin n p s x u → IsNormalWithin n p (a_list (a_pair o s)) more v → IsNormalWithin n p t (f (x, more)) (u ++ v))
    → Gives n p s g → Gives n p o h → Gives n p t ((g · many (h · g)) ⇒ f)
operation_normal made operand operator x ns (b_map (b_then {u = u} {v = v} {x = y} {y = more} d e)) = made y more u v (operand y u d) (pairs_normal e operator operand)

pub one_item : {n : ℕ} {p : Bool} {s : Sort} {x : Value s} {u : List ℕ} → IsNormalWithin n p s x u → IsNormalWithin n p (a_list s) (x ∷ []) u
one_item {u = u} k = record { marks = k.marks ++ []; within = subst (λ (z : List ℕ). Within z u) (sym (append-nil k.marks)) k.within; normal = one_more k.normal no_more }

-- one item more before those of a pair
cons_in : {n : ℕ} {p : Bool} {s t : Sort} {x : Value s} {y : List (Value s) × Value t} {a b : List ℕ} → IsNormal n p s x a → IsNormal n p (a_pair (a_list s) t) y b → IsNormal n p (a_pair (a_list s) t) (x ∷ y.0, y.1) (a ++ b)
cons_in {n = n} {p = p} {s = s} {t = t} {x = x} {a = a} h (both {x = xs} {y = o} {a = b} {b = c} k l) =
    subst (λ (z : List ℕ). IsNormal n p (a_pair (a_list s) t) (x ∷ xs, o) z) (append_assoc a b c) (both (one_more h k) l)

pub cons_made : {n : ℕ} {p : Bool} {s t : Sort} {x : Value s} {y : List (Value s) × Value t} {u v : List ℕ} → IsNormalWithin n p s x u → IsNormalWithin n p (a_pair (a_list s) t) y v → IsNormalWithin n p (a_pair (a_list s) t) (x ∷ y.0, y.1) (u ++ v)
cons_made h k = in_a_row h k (λ a b g l. cons_in g l)

pub no_cons : {n : ℕ} {p : Bool} {s t : Sort} {y : Value t} {u : List ℕ} → IsNormalWithin n p t y u → IsNormalWithin n p (a_pair (a_list s) t) ([], y) u
no_cons k = record { marks = k.marks; within = k.within; normal = both no_more k.normal }
