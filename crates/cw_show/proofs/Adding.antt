-- Tokens added to a text one after another.
use Rattle.std.proofs.Common.{◌≡◌, ℕ, zero, suc, ◌+◌, ◌-◌, ◌≤◌, ◌<◌, ◌==◌, if◌then◌else◌, Bool, true, false, List, [], ◌∷◌, ◌++◌, refl, sym, ap, subst, ◌∙◌, map, length, take, drop, get_or, replicate, append_assoc, append-nil, arith}
use Rattle.std.proofs.lemmas.List.{replicate-append-replicate, drop_all, drop_more}
use Rattle.cw_show.specs.declared.written.Text.{Text}
use Rattle.cw_show.specs.Adding.{Extends, Adds}
use Rattle.cw_show.specs.Spelling.{Spelling, separator, text_of}
use Rattle.cw_show.specs.ExpressionTokens.{operator_at}
use Rattle.cw_show.specs.Canonical.{Tokens, doubled, joined, ended, semicolon, bracketed, listed, behind_each, between, behind_operators, operation}

-- ---- bytes

pub no_bytes : (a : Text) → Extends a a []
no_bytes a = record { before = λ e. e; there = λ e. sym (append-nil a.bytes.items) }

pub bytes_in_order : {a b c : Text} {xs ys : List ℕ} → Extends a b xs → Extends b c ys → Extends a c (xs ++ ys)
bytes_in_order {a = a} {xs = xs} {ys = ys} p q = record {
  before = λ e. p.before (q.before e);
  there = λ e. q.there e ∙ ap (λ z. z ++ ys) (p.there (q.before e)) ∙ append_assoc a.bytes.items xs ys;
}

pub bytes_become : {a b : Text} {xs ys : List ℕ} → Extends a b xs → xs ≡ ys → Extends a b ys
bytes_become {a = a} {b = b} p e = subst (Extends a b) e p

pub one_more_zero : {a b c : Text} (k : ℕ) → Extends a b (replicate k 48) → Extends b c (48 ∷ []) → Extends a c (replicate (k + 1) 48)
one_more_zero k p q = bytes_become (bytes_in_order p q) (replicate-append-replicate k 1 48)

doubled_first : (b : ℕ) (bs : List ℕ) → doubled (b ∷ bs) ≡ doubled (b ∷ []) ++ doubled bs
doubled_first b bs = go (b == 34)
  where
    go : (t : Bool) → (if t then b ∷ b ∷ doubled bs else (b ∷ doubled bs)) ≡ (if t then b ∷ b ∷ [] else (b ∷ [])) ++ doubled bs
    go true = refl
    go false = refl

-- ---- tokens

text_of-append : (ts us : Tokens) → text_of (ts ++ us) ≡ text_of ts ++ text_of us
text_of-append [] us = refl
text_of-append (t ∷ ts) us = ap (λ z. t.text ++ separator t.kind ∷ z) (text_of-append ts us) ∙ sym (append_assoc t.text (separator t.kind ∷ text_of ts) (text_of us))

pub token_added : {a b c : Text} (t : Spelling) → Extends a b t.text → Extends b c (separator t.kind ∷ []) → Adds a c (t ∷ [])
token_added t p q = record { text = bytes_in_order p q }

pub nothing : (a : Text) → Adds a a []
nothing a = record { text = no_bytes a }

pub in_order : {a b c : Text} {ts us : Tokens} → Adds a b ts → Adds b c us → Adds a c (ts ++ us)
in_order {ts = ts} {us = us} p q = record { text = bytes_become (bytes_in_order p.text q.text) (sym (text_of-append ts us)) }

pub becomes : {a b : Text} {ts us : Tokens} → Adds a b ts → ts ≡ us → Adds a b us
becomes {a = a} {b = b} p e = subst (Adds a b) e p

pub whole_text : {a b : Text} {ts : Tokens} → Adds a b ts → a.bytes.items ≡ [] → b.lacking ≡ false → b.bytes.items ≡ text_of ts
whole_text {ts = ts} p e w = p.text.there w ∙ ap (λ z. z ++ text_of ts) e

-- ---- loops

-- In a loop: where what is left is added to the text of now, all is added to that of the start.
pub record Keeps (start now : Text) (all left : Tokens) : Type 0 where
  pub goes : (end : Text) → Adds now end left → Adds start end all

pub begun : (a : Text) (ts : Tokens) → Keeps a a ts ts
begun a ts = record { goes = λ end p. p }

turned : {a b c : Text} {all ts : Tokens} (left later : Tokens) → Keeps a b all left → Adds b c ts → left ≡ ts ++ later → Keeps a c all later
turned left later k p e = record { goes = λ end q. k.goes end (becomes (in_order p q) (sym e)) }

all_added : {a b : Text} {all : Tokens} (left : Tokens) → Keeps a b all left → left ≡ [] → Adds a b all
all_added {b = b} left k e = k.goes b (becomes (nothing b) (sym e))

next_item : {A : Type 0} (xs : List A) (i : ℕ) (x : A) → i < length xs → x ≡ get_or xs i x → drop i xs ≡ x ∷ drop (i + 1) xs
next_item xs i x h e = drop_more xs i x h ∙ ap (λ y. y ∷ drop (i + 1) xs) (sym e)

pub one_more_joined : {A : Type 0} {a o o1 : Text} {all : Tokens} (f : A → Tokens) (xs : List A) (i : ℕ) (x : A) → i < length xs → x ≡ get_or xs i x
    → Keeps a o all (joined (map f (drop i xs))) → Adds o o1 (f x) → Keeps a o1 all (joined (map f (drop (i + 1) xs)))
one_more_joined f xs i x h e k p = turned (joined (map f (drop i xs))) (joined (map f (drop (i + 1) xs))) k p (ap (λ l. joined (map f l)) (next_item xs i x h e))

pub none_more_joined : {A : Type 0} {a o : Text} {all : Tokens} (f : A → Tokens) (xs : List A) (i : ℕ) → length xs ≤ i → Keeps a o all (joined (map f (drop i xs))) → Adds a o all
none_more_joined f xs i h k = all_added (joined (map f (drop i xs))) k (ap (λ l. joined (map f l)) (drop_all i xs h))

pub one_more_ended : {A : Type 0} {a o o1 o2 : Text} {all : Tokens} (f : A → Tokens) (xs : List A) (i : ℕ) (x : A) → i < length xs → x ≡ get_or xs i x
    → Keeps a o all (ended (map f (drop i xs))) → Adds o o1 (f x) → Adds o1 o2 (semicolon ∷ []) → Keeps a o2 all (ended (map f (drop (i + 1) xs)))
one_more_ended f xs i x h e k p q =
    let later : Tokens = ended (map f (drop (i + 1) xs)) in
    turned (semicolon ∷ later) later (turned (ended (map f (drop i xs))) (semicolon ∷ later) k p (ap (λ l. ended (map f l)) (next_item xs i x h e))) q refl

pub none_more_ended : {A : Type 0} {a o : Text} {all : Tokens} (f : A → Tokens) (xs : List A) (i : ℕ) → length xs ≤ i → Keeps a o all (ended (map f (drop i xs))) → Adds a o all
none_more_ended f xs i h k = all_added (ended (map f (drop i xs))) k (ap (λ l. ended (map f l)) (drop_all i xs h))

pub one_more_behind : {A : Type 0} {a o o1 o2 : Text} {all : Tokens} (t : Spelling) (f : A → Tokens) (xs : List A) (i : ℕ) (x : A) → i < length xs → x ≡ get_or xs i x
    → Keeps a o all (behind_each t (map f (drop i xs))) → Adds o o1 (t ∷ []) → Adds o1 o2 (f x) → Keeps a o2 all (behind_each t (map f (drop (i + 1) xs)))
one_more_behind t f xs i x h e k p q =
    let later : Tokens = behind_each t (map f (drop (i + 1) xs)) in
    turned (f x ++ later) later (turned (behind_each t (map f (drop i xs))) (f x ++ later) k p (ap (λ l. behind_each t (map f l)) (next_item xs i x h e))) q refl

operator_first : {B : Type 0} (s : B → Spelling) (ops : List B) (i : ℕ) (y : Tokens) (ys : List Tokens)
    → behind_operators (map s (drop i ops)) (y ∷ ys) ≡ operator_at (map s ops) i ++ (y ++ behind_operators (map s (drop (suc i) ops)) ys)
operator_first s [] zero y ys = refl
operator_first s [] (suc i) y ys = refl
operator_first s (o ∷ ops) zero y ys = refl
operator_first s (o ∷ ops) (suc i) y ys = operator_first s ops i y ys

pub operator_seen : {B : Type 0} (s : B → Spelling) (xs : List B) (i : ℕ) (x : B) → i < length xs → x ≡ get_or xs i x → operator_at (map s xs) i ≡ s x ∷ []
operator_seen s [] i x h e = absurd (omega (arith, h))
operator_seen s (y ∷ ys) zero x h e = ap (λ z. s z ∷ []) (sym e)
operator_seen s (y ∷ ys) (suc i) x h e = operator_seen s ys i x (omega arith) e

pub no_operator : {B : Type 0} (s : B → Spelling) (xs : List B) (i : ℕ) → length xs ≤ i → operator_at (map s xs) i ≡ []
no_operator s [] i h = refl
no_operator s (y ∷ ys) zero h = absurd (omega (arith, h))
no_operator s (y ∷ ys) (suc i) h = no_operator s ys i (omega arith)

pub one_more_operated : {A B : Type 0} {a o o1 o2 : Text} {all : Tokens} (s : B → Spelling) (f : A → Tokens) (ops : List B) (xs : List A) (i : ℕ) (x : A) → i < length xs
    → x ≡ get_or xs i x
    → Keeps a o all (behind_operators (map s (drop i ops)) (map f (drop i xs))) → Adds o o1 (operator_at (map s ops) i) → Adds o1 o2 (f x)
    → Keeps a o2 all (behind_operators (map s (drop (i + 1) ops)) (map f (drop (i + 1) xs)))
one_more_operated s f ops xs i x h e k p q =
    let n : suc i ≡ i + 1 = omega arith in
    let later : Tokens = behind_operators (map s (drop (i + 1) ops)) (map f (drop (i + 1) xs)) in
    let first : behind_operators (map s (drop i ops)) (map f (drop i xs)) ≡ operator_at (map s ops) i ++ (f x ++ later) =
    ap (λ l. behind_operators (map s (drop i ops)) (map f l)) (next_item xs i x h e) ∙ operator_first s ops i (f x) (map f (drop (i + 1) xs))
    ∙ ap (λ j. operator_at (map s ops) i ++ (f x ++ behind_operators (map s (drop j ops)) (map f (drop (i + 1) xs)))) n in
    turned (f x ++ later) later (turned (behind_operators (map s (drop i ops)) (map f (drop i xs))) (f x ++ later) k p first) q refl

-- ---- what stands behind the first of a list

take_length : {A : Type 0} (xs : List A) → take (length xs) xs ≡ xs
take_length [] = refl
take_length (x ∷ xs) = ap (λ l. x ∷ l) (take_length xs)

abbrev pub behind_first : {A : Type 0} → List A → List A
behind_first all = take (length all - 1) (drop 1 all)

first_and_rest : {A : Type 0} (all : List A) (first : A) → 1 ≤ length all → first ≡ get_or all 0 first → all ≡ first ∷ behind_first all
first_and_rest [] first h e = absurd (omega (arith, h))
first_and_rest (x ∷ xs) first h e =
    let n : suc (length xs) - 1 ≡ length xs = omega arith in
    ap (λ y. y ∷ xs) (sym e) ∙ ap (λ l. first ∷ l) (sym (take_length xs) ∙ ap (λ k. take k xs) (sym n))

-- All of a list, where these are the tokens of its tree.
pub all_between : {A : Type 0} {o0 o1 o2 : Text} {whole : Tokens} (t : Spelling) (f : A → Tokens) (operands all : List A) (first : A) (i : ℕ)
    → whole ≡ between t (map f operands) → all ≡ operands
    → 1 ≤ length all → first ≡ get_or all 0 first → length (behind_first all) ≤ i
    → Adds o0 o1 (f first) → Keeps o1 o2 (behind_each t (map f (behind_first all))) (behind_each t (map f (drop i (behind_first all)))) → Adds o0 o2 whole
all_between t f operands all first i layer same n e le p k =
    let rest = all_added (behind_each t (map f (drop i (behind_first all)))) k (ap (λ l. behind_each t (map f l)) (drop_all i (behind_first all) le)) in
    becomes (in_order p rest) (ap (λ l. between t (map f l)) (sym (first_and_rest all first n e) ∙ same) ∙ sym layer)

pub all_operated : {A B : Type 0} {o0 o1 o2 : Text} (s : B → Spelling) (f : A → Tokens) (ops : List B) (all : List A) (first : A) (i : ℕ)
    → 1 ≤ length all → first ≡ get_or all 0 first → length (behind_first all) ≤ i
    → Adds o0 o1 (f first) → Keeps o1 o2 (behind_operators (map s ops) (map f (behind_first all))) (behind_operators (map s (drop i ops)) (map f (drop i (behind_first all))))
    → Adds o0 o2 (operation (map s ops) (map f all))
all_operated s f ops all first i n e le p k =
    let rest = all_added (behind_operators (map s (drop i ops)) (map f (drop i (behind_first all)))) k
    (ap (λ l. behind_operators (map s (drop i ops)) (map f l)) (drop_all i (behind_first all) le)) in
    becomes (in_order p rest) (ap (λ l. operation (map s ops) (map f l)) (sym (first_and_rest all first n e)))

no_item : {A : Type 0} (xs : List A) → length xs < 1 → xs ≡ []
no_item [] h = refl
no_item (x ∷ xs) h = absurd (omega (arith, h))

pub none_between : {A : Type 0} {whole : Tokens} (t : Spelling) (f : A → Tokens) (operands all : List A) (o : Text) → whole ≡ between t (map f operands) → all ≡ operands
    → length all < 1 → Adds o o whole
none_between t f operands all o layer same h = becomes (nothing o) (ap (λ l. between t (map f l)) (sym (no_item all h) ∙ same) ∙ sym layer)

pub none_operated : {A B : Type 0} (s : B → Spelling) (f : A → Tokens) (ops : List B) (all : List A) (o : Text) → length all < 1 → Adds o o (operation (map s ops) (map f all))
none_operated s f ops all o h = becomes (nothing o) (ap (λ l. operation (map s ops) (map f l)) (sym (no_item all h)))

pub none_listed : {A : Type 0} (t : Spelling) (f : A → Tokens) (all : List A) (o : Text) → length all < 1 → Adds o o (listed t (map f all))
none_listed t f all o h = becomes (nothing o) (ap (λ l. listed t (map f l)) (sym (no_item all h)))

listed_some : {A : Type 0} (t : Spelling) (f : A → Tokens) (all : List A) → 1 ≤ length all → bracketed (between t (map f all)) ≡ listed t (map f all)
listed_some t f [] h = absurd (omega (arith, h))
listed_some t f (x ∷ xs) h = refl

pub some_listed : {A : Type 0} {o o1 : Text} (t : Spelling) (f : A → Tokens) (all : List A) → 1 ≤ length all → Adds o o1 (bracketed (between t (map f all)))
    → Adds o o1 (listed t (map f all))
some_listed t f all h p = becomes p (listed_some t f all h)

-- ---- bytes that are doubled

pub record KeepsBytes (start now : Text) (all left : List ℕ) : Type 0 where
  pub goes : (end : Text) → Extends now end left → Extends start end all

pub bytes_begun : (a : Text) (bs : List ℕ) → KeepsBytes a a bs bs
bytes_begun a bs = record { goes = λ end p. p }

pub one_more_doubled : {a o o1 : Text} {all : List ℕ} (xs : List ℕ) (i : ℕ) → i < length xs
    → KeepsBytes a o all (doubled (drop i xs)) → Extends o o1 (doubled (get_or xs i 0 ∷ [])) → KeepsBytes a o1 all (doubled (drop (i + 1) xs))
one_more_doubled xs i h k p =
    let first : doubled (drop i xs) ≡ doubled (get_or xs i 0 ∷ []) ++ doubled (drop (i + 1) xs) = ap doubled (drop_more xs i 0 h) ∙ doubled_first (get_or xs i 0)
    (drop (i + 1) xs) in
    record { goes = λ end q. k.goes end (bytes_become (bytes_in_order p q) (sym first)) }

pub none_more_doubled : {a o : Text} {all : List ℕ} (xs : List ℕ) (i : ℕ) → length xs ≤ i → KeepsBytes a o all (doubled (drop i xs)) → Extends a o all
none_more_doubled {o = o} xs i h k = k.goes o (bytes_become (no_bytes o) (sym (ap doubled (drop_all i xs h))))
