-- More forms of the grammar of declarations and statements, and texts of them.
use Rattle.std.proofs.Common.{◌≡◌, ℕ, List, [], ◌∷◌, ◌++◌, map, Option, Some, None, refl, sym, ap, ap₂, ◌∙◌, append_assoc}
use Rattle.cw_lex.specs.declared.token.Symbol.TheVariants as symbols
use Rattle.cw_grammar.specs.Grammar.{Sort, a_list, a_from, Value, Grammar, many}
use Rattle.cw_grammar.specs.Rules.{symbol as symbol_grammar, ◌<*◌}
use Rattle.cw_grammar.specs.Statements.{from, listed as listed_grammar, in_round, separated, semicolons}
use Rattle.cw_show.specs.Canonical.{Tokens, listed, ended, comma, semicolon}
use Rattle.cw_read_back.proofs.Expressions.Reading.{Reads, Back, Each, Held, symbol_is, ◌&◌, left, right, mapped, first, respelled, nothing, no_more_read, more_read, rounded, between_read}

pub ap₃ : {A B C D : Type 0} (f : A → B → C → D) {a b : A} {c d : B} {x y : C} → a ≡ b → c ≡ d → x ≡ y → f a c x ≡ f b d y
ap₃ f {b = b} {c = c} {x = x} h k l = ap (λ u. f u c x) h ∙ ap₂ (λ v w. f b v w) k l

pub ap₄ : {A B C D E : Type 0} (f : A → B → C → D → E) {a b : A} {c d : B} {x y : C} {u v : D} → a ≡ b → c ≡ d → x ≡ y → u ≡ v → f a c x u ≡ f b d y v
ap₄ f {b = b} {d = d} {x = x} {u = u} h k l m = ap₂ (λ i j. f i j x u) h k ∙ ap₂ (λ i j. f b d i j) l m

pub held_map : {A : Type 0} {P Q : A → Type 0} → ((x : A) → P x → Q x) → (o : Option A) → Held P o → Held Q o
held_map f None h = tt
held_map f (Some x) h = f x h

pub each_map : {A : Type 0} {P Q : A → Type 0} → ((x : A) → P x → Q x) → (xs : List A) → Each P xs → Each Q xs
each_map f [] h = tt
each_map f (x ∷ xs) h = (f x h.0, each_map f xs h.1)

-- what begins with a text, told what that stands for
pub started : {n : ℕ} {s t : Sort} {g : Grammar s} {h : Grammar (a_from s t)} {a b : Tokens} {bare : Value s → Value s} {y : Value s} {R : Value t → Type 0} → Reads n s g a (λ d. bare d ≡ bare y) → Reads n (a_from s t) h b (λ f. (z : Value s) → bare z ≡ bare y → R (f z)) → Reads n t (from g h) (a ++ b) R
started k l = mapped (k & l) (λ z p. p.1 z.0 p.0)

-- a list in round brackets with commas between its items, or none
pub listed_read : {n : ℕ} {s : Sort} {g : Grammar s} (tokens : Value s → Tokens) (bare : Value s → Value s) (xs : List (Value s)) → Each (Back n s g tokens bare) xs → Reads n (a_list s) (listed_grammar (in_round (separated g))) (listed comma (map tokens xs)) (λ ds. map bare ds ≡ map bare xs)
listed_read tokens bare [] h = right (nothing [] refl)
listed_read tokens bare (x ∷ xs) h = left (rounded (between_read tokens bare comma (left (symbol_is symbols.Comma)) x xs h))

-- with semicolons between its items
pub sectioned_read : {n : ℕ} {s : Sort} {g : Grammar s} (tokens : Value s → Tokens) (bare : Value s → Value s) (xs : List (Value s)) → Each (Back n s g tokens bare) xs → Reads n (a_list s) (listed_grammar (in_round (semicolons g))) (listed semicolon (map tokens xs)) (λ ds. map bare ds ≡ map bare xs)
sectioned_read tokens bare [] h = right (nothing [] refl)
sectioned_read tokens bare (x ∷ xs) h = left (rounded (between_read tokens bare semicolon (symbol_is symbols.Semicolon) x xs h))

-- each with a semicolon behind it
pub ended_read : {n : ℕ} {s : Sort} {g : Grammar s} (tokens : Value s → Tokens) (bare : Value s → Value s) (xs : List (Value s)) → Each (Back n s g tokens bare) xs → Reads n (a_list s) (many (g <* symbol_grammar symbols.Semicolon)) (ended (map tokens xs)) (λ ds. map bare ds ≡ map bare xs)
ended_read tokens bare [] h = no_more_read refl
ended_read tokens bare (x ∷ xs) h = respelled (sym (append_assoc (tokens x) (semicolon ∷ []) (ended (map tokens xs))))
    (more_read (first h.0 (symbol_is symbols.Semicolon)) (ended_read tokens bare xs h.1) (λ z zs p q. ap₂ (λ y ys. y ∷ ys) p q)) (λ z q. q)
