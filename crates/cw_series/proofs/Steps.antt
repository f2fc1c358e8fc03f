-- Reading in a loop, which keeps what it has read: what is so far, joined with what is still read, is the whole.
use Rattle.std.proofs.Common.{◌≡◌, ℕ, zero, suc, ◌-◌, ◌<◌, Bool, true, false, List, [], ◌∷◌, ◌++◌, Ok, Err, refl, sym, ap, ◌∙◌, append_assoc, arith}
use Rattle.std.proofs.lemmas.List.{append-nil}
use Rattle.cw_grammar.specs.Tokens.{Item}
use Rattle.cw_grammar.specs.declared.stop.Stop.{Stop}
use Rattle.cw_grammar.specs.Reading.{Fault, Read, Fails, ◌>>=◌, repeat}
use Rattle.cw_grammar.proofs.Failing.{fails_where}
use Rattle.cw_series.specs.Series.{made}

-- ---- one behind the other

pub then_fails : {A B : Type 0} (e : Stop) (o : Read A) (f : A × List Item → Read B) → Fails e o → Fails e (o >>= f)
then_fails e o f failed = fails_where e o (o >>= f) (λ k is. rw is refl) failed

pub after_fails : {A B : Type 0} (e : Stop) (o : Read A) (f : A × List Item → Read B) (x : A × List Item) → o ≡ Ok x → Fails e (f x) → Fails e (o >>= f)
after_fails e o f x p h = rw p h

pub made_fails : {A B : Type 0} (e : Stop) (f : A → B) (o : Read A) → Fails e o → Fails e (made f o)
made_fails {B = B} e f o h = then_fails {B = B} e o (λ x. Ok (f x.0, x.1)) h

-- ---- loops

-- what is so far, and what is still read
abbrev pub collected : {S X : Type 0} → (S → List X → S) → S → Read (List X) → Read S
collected into s o = o >>= λ y. Ok (into s y.0, y.1)

-- how one more is taken into what is so far
pub record Collects {S X : Type 0} (into : S → List X → S) (push : S → X → S) : Type 0 where
  pub none : (s : S) → into s [] ≡ s
  pub more : (s : S) (x : X) (xs : List X) → into s (x ∷ xs) ≡ into (push s x) xs

pub lists_collect : {X : Type 0} → Collects {X = X} (λ s xs. s ++ xs) (λ s x. s ++ x ∷ [])
lists_collect {X = X} = record { none = append-nil; more = λ s x xs. sym (append_assoc s (x ∷ []) xs) }

collected_more : {S X : Type 0} (into : S → List X → S) (push : S → X → S) → Collects into push → (s : S) (x : X) (o : Read (List X)) → collected into s (o >>= λ y. Ok (x ∷ y.0, y.1)) ≡ collected into (push s x) o
collected_more {S = S} into push l s x (Ok y) = ap (λ (z : S). Ok (z, y.1)) (l.more s x y.0)
collected_more into push l s x (Err f) = refl

pub one_more : {S X : Type 0} (into : S → List X → S) (push : S → X → S) → Collects into push → (begins : List Item → Bool) (item : List Item → Read X) (s : S) (x : X) (ts rest : List Item) (total : Read S) (k : ℕ)
    → 0 < k → begins ts ≡ true → item ts ≡ Ok (x, rest) → collected into s (repeat k begins item ts) ≡ total → collected into (push s x) (repeat (k - 1) begins item rest) ≡ total
one_more into push l begins item s x ts rest total zero z b e h = absurd (omega arith)
one_more into push l begins item s x ts rest total (suc k) z b e h =
    let less : suc k - 1 ≡ k = omega arith in
    rw less (sym (collected_more into push l s x (repeat k begins item rest)) ∙ (rw (b, e) at h))

pub no_more : {S X : Type 0} (into : S → List X → S) (push : S → X → S) → Collects into push → (begins : List Item → Bool) (item : List Item → Read X) (s : S) (ts : List Item) (total : Read S) (k : ℕ)
    → begins ts ≡ false → collected into s (repeat k begins item ts) ≡ total → total ≡ Ok (s, ts)
no_more {S = S} into push l begins item s ts total zero b h = sym h ∙ ap (λ (z : S). Ok (z, ts)) (l.none s)
no_more {S = S} into push l begins item s ts total (suc k) b h = sym (rw b at h) ∙ ap (λ (z : S). Ok (z, ts)) (l.none s)

pub all_read : {S X : Type 0} (into : S → List X → S) (push : S → X → S) → Collects into push → (begins : List Item → Bool) (item : List Item → Read X) (s : S) (ts : List Item) (total : Read S) (k : ℕ)
    → k ≡ 0 → collected into s (repeat k begins item ts) ≡ total → total ≡ Ok (s, ts)
all_read {S = S} into push l begins item s ts total zero z h = sym h ∙ ap (λ (y : S). Ok (y, ts)) (l.none s)
all_read into push l begins item s ts total (suc k) z h = absurd (omega arith)

item_fault : {S X : Type 0} (into : S → List X → S) (begins : List Item → Bool) (item : List Item → Read X) (s : S) (ts : List Item) (total : Read S) (k : ℕ) (f : Fault)
    → 0 < k → begins ts ≡ true → item ts ≡ Err f → collected into s (repeat k begins item ts) ≡ total → total ≡ Err f
item_fault into begins item s ts total zero f z b e h = absurd (omega arith)
item_fault into begins item s ts total (suc k) f z b e h = sym (rw (b, e) at h)

pub item_fails : {S X : Type 0} (e : Stop) (into : S → List X → S) (begins : List Item → Bool) (item : List Item → Read X) (s : S) (ts : List Item) (total : Read S) (k : ℕ)
    → 0 < k → begins ts ≡ true → Fails e (item ts) → collected into s (repeat k begins item ts) ≡ total → Fails e total
item_fails e into begins item s ts total k z b failed h = fails_where e (item ts) total (λ f is. item_fault into begins item s ts total k f z b is h) failed
