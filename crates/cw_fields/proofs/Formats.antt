-- What is read is spelled so, and what is spelled so is read: for each way to make a format from fields.
use Rattle.std.proofs.Common.{◌≡◌, ℕ, zero, suc, ◌+◌, ◌^◌, ◌<◌, ◌≤◌, ◌%◌, ◌/◌, Bool, true, false, cond, ltb, eqb, List, [], ◌∷◌, ◌++◌, length, get_or, take, drop, Option, Some, None, refl, sym, ap, subst, ◌∙◌, append_assoc, arith, inl, inr}
use Rattle.std.specs.Prelude.{IfSome}
use Rattle.std.specs.List.{AllByRecursion}
use Rattle.std.proofs.lemmas.Bool.{cases_lt, ltb-false, le-ltb, ne_eqb}
use Rattle.std.proofs.lemmas.List.{take_at, drop_at, take-append-drop, length-append, length-take, get_or-drop, get_or-take, get_or_past, append-nil}
use Rattle.byteorder.specs.Endian.{little_number, little_bytes}
use Rattle.byteorder.specs.Numbers.{little_number-reads_back, little_from-lt}
use Rattle.cw_fields.specs.Fields.{Reader, ◌>>=◌, followed, both, meaning, counted, each, ended, whole, byte_in, bytes_in, number_in, text_in, text_bytes, optional_of, optional_in, optional_bytes}
use Rattle.cw_fields.specs.Spelling.{IsBytes, Reads}

pub IsBytes-drop : (n : ℕ) (bytes : List ℕ) → IsBytes bytes → IsBytes (drop n bytes)
IsBytes-drop n bytes h i = rw get_or-drop (h (n + i))

pub IsBytes-take : (n : ℕ) (bytes : List ℕ) → IsBytes bytes → IsBytes (take n bytes)
IsBytes-take n bytes h i =
    elim (cases_lt i n) [
      | inl lt ↦ rw (get_or-take n bytes i 0 lt) (h i)
      | inr le ↦ rw (get_or_past (take n bytes) i 0 (omega (arith, length-take n bytes))) (omega arith)
    ]

pub IsBytes-rest : (b : ℕ) (bytes : List ℕ) → IsBytes (b ∷ bytes) → IsBytes bytes
IsBytes-rest b bytes h i = h (suc i)

-- ---- steps that may fail

abbrev some : {A : Type 0} → A → Option A
some x = Some x

abbrev none : {A : Type 0} → Option A
none = None

pub bind_some : {A B : Type 0} (o : Option A) (f : A → Option B) (y : B) → (o >>= f) ≡ Some y → (x : A) × (o ≡ Some x) × (f x ≡ Some y)
bind_some None f y e = absurd cc
bind_some (Some x) f y e = (x, refl, e)

pub some_is : {A : Type 0} (x y : A) → some x ≡ some y → x ≡ y
some_is x y e = cc

guard_some : {A : Type 0} (b : Bool) (x y : A) → cond b None (Some x) ≡ Some y → (b ≡ false) × (x ≡ y)
guard_some true x y e = absurd cc
guard_some false x y e = (refl, cc)

-- ---- ways to make a format

pub reads_followed : {A B : Type 0} (sa : A → List ℕ) (Fa : A → Type 0) (ra : Reader A) (sb : A → B → List ℕ) (Fb : A → B → Type 0) (rb : A → Reader B)
    → Reads sa Fa ra → ((x : A) → Fa x → Reads (sb x) (Fb x) (rb x))
    → Reads (λ (p : A × B). sa p.0 ++ sb p.0 p.1) (λ (p : A × B). Fa p.0 × Fb p.0 p.1) (followed ra rb)
reads_followed {A} {B} sa Fa ra sb Fb rb la lb = record {
  takes = λ bytes x fits e.
      let first = bind_some (ra bytes) (λ p. rb p.0 p.1 >>= λ y. Some ((p.0, y.0), y.1)) x e in
      let second = bind_some (rb first.0.0 first.0.1) (λ y. Some ((first.0.0, y.0), y.1)) x first.2 in
      let t = la.takes bytes first.0 fits first.1 in
      let u = (lb first.0.0 t.2).takes first.0.1 second.0 t.1 second.1 in
      let whole : bytes ≡ (sa first.0.0 ++ sb first.0.0 second.0.0) ++ second.0.1 = t.0 ∙ ap (λ r. sa first.0.0 ++ r) u.0 ∙ sym (append_assoc (sa first.0.0) (sb first.0.0 second.0.0) second.0.1) in
      let made : (A × B) × List ℕ = ((first.0.0, second.0.0), second.0.1) in
      subst (λ (y : (A × B) × List ℕ). (bytes ≡ (sa y.0.0 ++ sb y.0.0 y.0.1) ++ y.1) × IsBytes y.1 × (Fa y.0.0 × Fb y.0.0 y.0.1)) (some_is made x second.2) (whole, u.1, (t.2, u.2));
  again = λ x rest fits.
      let regrouped : (sa x.0 ++ sb x.0 x.1) ++ rest ≡ sa x.0 ++ (sb x.0 x.1 ++ rest) = append_assoc (sa x.0) (sb x.0 x.1) rest in
      let first : ra (sa x.0 ++ (sb x.0 x.1 ++ rest)) ≡ Some (x.0, sb x.0 x.1 ++ rest) = la.again x.0 (sb x.0 x.1 ++ rest) fits.0 in
      let second : rb x.0 (sb x.0 x.1 ++ rest) ≡ Some (x.1, rest) = (lb x.0 fits.0).again x.1 rest fits.1 in
      ap (λ bytes. followed ra rb bytes) regrouped ∙ ap (λ o. o >>= λ p. rb p.0 p.1 >>= λ y. Some ((p.0, y.0), y.1)) first ∙ ap (λ o. o >>= λ y. Some ((x.0, y.0), y.1)) second;
}

pub reads_both : {A B : Type 0} (sa : A → List ℕ) (Fa : A → Type 0) (ra : Reader A) (sb : B → List ℕ) (Fb : B → Type 0) (rb : Reader B)
    → Reads sa Fa ra → Reads sb Fb rb → Reads (λ (p : A × B). sa p.0 ++ sb p.1) (λ (p : A × B). Fa p.0 × Fb p.1) (both ra rb)
reads_both sa Fa ra sb Fb rb la lb = reads_followed sa Fa ra (λ _. sb) (λ _. Fb) (λ _. rb) la (λ _ _. lb)

-- what a field stands for: g gives the field back
pub reads_meaning : {A B : Type 0} (sa : A → List ℕ) (Fa : A → Type 0) (ra : Reader A) (Fb : B → Type 0) (f : A → Option B) (g : B → A)
    → Reads sa Fa ra → ((x : A) (y : B) → Fa x → f x ≡ Some y → (x ≡ g y) × Fb y) → ((y : B) → Fb y → Fa (g y) × (f (g y) ≡ Some y))
    → Reads (λ (y : B). sa (g y)) Fb (meaning f ra)
reads_meaning {A} {B} sa Fa ra Fb f g la onto back = record {
  takes = λ bytes x fits e.
      let first = bind_some (ra bytes) (λ p. f p.0 >>= λ y. Some (y, p.1)) x e in
      let second = bind_some (f first.0.0) (λ y. Some (y, first.0.1)) x first.2 in
      let t = la.takes bytes first.0 fits first.1 in
      let u = onto first.0.0 second.0 t.2 second.1 in
      let made : B × List ℕ = (second.0, first.0.1) in
      subst (λ (y : B × List ℕ). (bytes ≡ sa (g y.0) ++ y.1) × IsBytes y.1 × Fb y.0) (some_is made x second.2) (t.0 ∙ ap (λ a. sa a ++ first.0.1) u.0, t.1, u.1);
  again = λ y rest fits.
      let b = back y fits in
      ap (λ o. o >>= λ p. f p.0 >>= λ z. Some (z, p.1)) (la.again (g y) rest b.0) ∙ ap (λ o. o >>= λ z. Some (z, rest)) b.1;
}

counted_takes : {A : Type 0} (s : A → List ℕ) (F : A → Type 0) (r : Reader A) → Reads s F r → (n : ℕ) (bytes : List ℕ) (x : List A × List ℕ) → IsBytes bytes → counted n r bytes ≡ Some x
    → (bytes ≡ each s x.0 ++ x.1) × IsBytes x.1 × ((length x.0 ≡ n) × AllByRecursion F x.0)
counted_takes {A} s F r l zero bytes x fits e =
    let made : List A × List ℕ = ([], bytes) in
    subst (λ (y : List A × List ℕ). (bytes ≡ each s y.0 ++ y.1) × IsBytes y.1 × ((length y.0 ≡ 0) × AllByRecursion F y.0)) (some_is made x e) (refl, fits, (refl, tt))
counted_takes {A} s F r l (suc n) bytes x fits e =
    let first = bind_some (r bytes) (λ p. counted n r p.1 >>= λ xs. Some (p.0 ∷ xs.0, xs.1)) x e in
    let second = bind_some (counted n r first.0.1) (λ xs. Some (first.0.0 ∷ xs.0, xs.1)) x first.2 in
    let t = l.takes bytes first.0 fits first.1 in
    let u = counted_takes s F r l n first.0.1 second.0 t.1 second.1 in
    let whole : bytes ≡ (s first.0.0 ++ each s second.0.0) ++ second.0.1 = t.0 ∙ ap (λ y. s first.0.0 ++ y) u.0 ∙ sym (append_assoc (s first.0.0) (each s second.0.0) second.0.1) in
    let made : List A × List ℕ = (first.0.0 ∷ second.0.0, second.0.1) in
    subst (λ (y : List A × List ℕ). (bytes ≡ each s y.0 ++ y.1) × IsBytes y.1 × ((length y.0 ≡ suc n) × AllByRecursion F y.0)) (some_is made x second.2) (whole, u.1, (ap suc u.2.0, (t.2, u.2.1)))

counted_again : {A : Type 0} (s : A → List ℕ) (F : A → Type 0) (r : Reader A) → Reads s F r → (n : ℕ) (xs : List A) (rest : List ℕ) → length xs ≡ n → AllByRecursion F xs → counted n r (each s xs ++ rest) ≡ Some (xs, rest)
counted_again s F r l zero [] rest h fits = refl
counted_again s F r l zero (x ∷ xs) rest h fits = absurd (omega (arith, h))
counted_again s F r l (suc n) [] rest h fits = absurd (omega (arith, h))
counted_again s F r l (suc n) (x ∷ xs) rest h fits =
    let len : length xs ≡ n = omega (arith, h) in
    let regrouped : (s x ++ each s xs) ++ rest ≡ s x ++ (each s xs ++ rest) = append_assoc (s x) (each s xs) rest in
    let first : r (s x ++ (each s xs ++ rest)) ≡ Some (x, each s xs ++ rest) = l.again x (each s xs ++ rest) fits.0 in
    let second : counted n r (each s xs ++ rest) ≡ Some (xs, rest) = counted_again s F r l n xs rest len fits.1 in
    ap (λ bytes. counted (suc n) r bytes) regrouped ∙ ap (λ o. o >>= λ p. counted n r p.1 >>= λ ys. Some (p.0 ∷ ys.0, ys.1)) first ∙ ap (λ o. o >>= λ ys. Some (x ∷ ys.0, ys.1)) second

-- a number, and so many fields
pub reads_listed : {A : Type 0} (sc : ℕ → List ℕ) (Fc : ℕ → Type 0) (rc : Reader ℕ) (s : A → List ℕ) (F : A → Type 0) (r : Reader A) → Reads sc Fc rc → Reads s F r
    → Reads (λ (xs : List A). sc (length xs) ++ each s xs) (λ (xs : List A). Fc (length xs) × AllByRecursion F xs) (λ bytes. rc bytes >>= λ n. counted n.0 r n.1)
reads_listed {A} sc Fc rc s F r lc l = record {
  takes = λ bytes x fits e.
      let first = bind_some (rc bytes) (λ n. counted n.0 r n.1) x e in
      let t = lc.takes bytes first.0 fits first.1 in
      let u = counted_takes s F r l first.0.0 first.0.1 x t.1 first.2 in
      let whole : bytes ≡ (sc first.0.0 ++ each s x.0) ++ x.1 = t.0 ∙ ap (λ y. sc first.0.0 ++ y) u.0 ∙ sym (append_assoc (sc first.0.0) (each s x.0) x.1) in
      subst (λ (n : ℕ). (bytes ≡ (sc n ++ each s x.0) ++ x.1) × IsBytes x.1 × (Fc n × AllByRecursion F x.0)) (sym u.2.0) (whole, u.1, (t.2, u.2.1));
  again = λ xs rest fits.
      let regrouped : (sc (length xs) ++ each s xs) ++ rest ≡ sc (length xs) ++ (each s xs ++ rest) = append_assoc (sc (length xs)) (each s xs) rest in
      ap (λ bytes. rc bytes >>= λ n. counted n.0 r n.1) regrouped ∙ ap (λ o. o >>= λ n. counted n.0 r n.1) (lc.again (length xs) (each s xs ++ rest) fits.0)
      ∙ counted_again s F r l (length xs) xs rest refl fits.1;
}

-- ---- fields

byte_takes : (bytes : List ℕ) (x : ℕ × List ℕ) → IsBytes bytes → byte_in bytes ≡ Some x → (bytes ≡ (x.0 ∷ []) ++ x.1) × IsBytes x.1 × (x.0 < 256)
byte_takes [] x fits e = absurd cc
byte_takes (b ∷ bs) x fits e =
    let made : ℕ × List ℕ = (b, bs) in
    subst (λ (y : ℕ × List ℕ). ((b ∷ bs) ≡ (y.0 ∷ []) ++ y.1) × IsBytes y.1 × (y.0 < 256)) (some_is made x e) (refl, IsBytes-rest b bs fits, fits 0)

pub reads_byte : Reads (λ (b : ℕ). b ∷ []) (λ (b : ℕ). b < 256) byte_in
reads_byte = record { takes = byte_takes; again = λ x rest fits. refl }

-- so many bytes are those of the number in them
pub record Spells (n limit : ℕ) : Type 0 where
  pub back : (bytes : List ℕ) → n ≤ length bytes → IsBytes bytes → take n bytes ≡ little_bytes n (little_number n bytes)
  pub again : (k : ℕ) (rest : List ℕ) → k < limit → little_number n (little_bytes n k ++ rest) ≡ k
  pub len : (k : ℕ) → length (little_bytes n k) ≡ n
  pub below : (bytes : List ℕ) → IsBytes bytes → little_number n bytes < limit

pub two_back : (bytes : List ℕ) → 2 ≤ length bytes → IsBytes bytes → take 2 bytes ≡ little_bytes 2 (little_number 2 bytes)
two_back [] h fits = absurd (omega (arith, h))
two_back (a ∷ []) h fits = absurd (omega (arith, h))
two_back (a ∷ b ∷ rest) h fits =
    let fa : a < 256 = fits 0 in
    let fb : b < 256 = fits 1 in
    let e0 : a ≡ little_number 2 (a ∷ b ∷ rest) % 256 = omega arith in
    let e1 : b ≡ little_number 2 (a ∷ b ∷ rest) / 256 % 256 = omega arith in
    ap (λ x. x ∷ b ∷ []) e0 ∙ ap (λ x. little_number 2 (a ∷ b ∷ rest) % 256 ∷ x ∷ []) e1

pub four_back : (bytes : List ℕ) → 4 ≤ length bytes → IsBytes bytes → take 4 bytes ≡ little_bytes 4 (little_number 4 bytes)
four_back [] h fits = absurd (omega (arith, h))
four_back (a ∷ []) h fits = absurd (omega (arith, h))
four_back (a ∷ b ∷ []) h fits = absurd (omega (arith, h))
four_back (a ∷ b ∷ c ∷ []) h fits = absurd (omega (arith, h))
four_back (a ∷ b ∷ c ∷ d ∷ rest) h fits =
    let fa : a < 256 = fits 0 in
    let fb : b < 256 = fits 1 in
    let fc : c < 256 = fits 2 in
    let fd : d < 256 = fits 3 in
    let n = little_number 4 (a ∷ b ∷ c ∷ d ∷ rest) in
    let e0 : a ≡ n % 256 = omega arith in
    let e1 : b ≡ n / 256 % 256 = omega arith in
    let e2 : c ≡ n / 65536 % 256 = omega arith in
    let e3 : d ≡ n / 16777216 % 256 = omega arith in
    ap (λ x. x ∷ b ∷ c ∷ d ∷ []) e0 ∙ ap (λ x. n % 256 ∷ x ∷ c ∷ d ∷ []) e1 ∙ ap (λ x. n % 256 ∷ n / 256 % 256 ∷ x ∷ d ∷ []) e2 ∙ ap (λ x. n % 256 ∷ n / 256 % 256 ∷ n / 65536 % 256 ∷ x ∷ []) e3

pub spells_two : Spells 2 65536
spells_two = record { back = two_back; again = λ k rest h. little_number-reads_back 2 k rest h; len = λ k. refl; below = λ bytes fits. little_from-lt 0 2 bytes fits }

pub spells_four : Spells 4 (2 ^ 32)
spells_four = record { back = four_back; again = λ k rest h. little_number-reads_back 4 k rest h; len = λ k. refl; below = λ bytes fits. little_from-lt 0 4 bytes fits }

pub reads_number : (n limit : ℕ) → Spells n limit → Reads (little_bytes n) (λ (k : ℕ). k < limit) (number_in n)
unfolding number_in
reads_number n limit w = record {
  takes = λ bytes x fits e.
      let made : ℕ × List ℕ = (little_number n bytes, drop n bytes) in
      let g = guard_some (ltb (length bytes) n) made x e in
      let long : n ≤ length bytes = ltb-false _ _ g.0 in
      let front : bytes ≡ little_bytes n (little_number n bytes) ++ drop n bytes = sym (take-append-drop n bytes) ∙ ap (λ y. y ++ drop n bytes) (w.back bytes long fits) in
      subst (λ (y : ℕ × List ℕ). (bytes ≡ little_bytes n y.0 ++ y.1) × IsBytes y.1 × (y.0 < limit)) g.1 (front, IsBytes-drop n bytes fits, w.below bytes fits);
  again = λ k rest h.
      let len = w.len k in
      let long : ltb (length (little_bytes n k ++ rest)) n ≡ false = le-ltb _ _ (omega (arith, length-append (little_bytes n k) rest, len)) in
      rw (long, drop_at (little_bytes n k) rest n len, w.again k rest h) refl;
}

pub reads_bytes : (n : ℕ) → Reads (λ (b : List ℕ). b) (λ b. length b ≡ n) (bytes_in n)
reads_bytes n = record {
  takes = λ bytes x fits e.
      let g = guard_some (ltb (length bytes) n) (take n bytes, drop n bytes) x e in
      let long : n ≤ length bytes = ltb-false _ _ g.0 in
      subst (λ (y : List ℕ × List ℕ). (bytes ≡ y.0 ++ y.1) × IsBytes y.1 × (length y.0 ≡ n)) g.1 (sym (take-append-drop n bytes), IsBytes-drop n bytes fits, omega (arith, length-take n bytes, long));
  again = λ b rest h.
      let long : ltb (length (b ++ rest)) n ≡ false = le-ltb _ _ (omega (arith, length-append b rest, h)) in
      rw (long, take_at b rest n h, drop_at b rest n h) refl;
}

pub reads_text : Reads text_bytes (λ (text : List ℕ). length text < 256) text_in
unfolding text_in
reads_text = record {
  takes = λ bytes x fits e.
      let first = bind_some (byte_in bytes) (λ n. bytes_in n.0 n.1) x e in
      let t = byte_takes bytes first.0 fits first.1 in
      let u = (reads_bytes first.0.0).takes first.0.1 x t.1 first.2 in
      (t.0 ∙ ap (λ y. first.0.0 ∷ y) u.0 ∙ ap (λ n. n ∷ (x.0 ++ x.1)) (sym u.2), u.1, omega (arith, t.2, u.2));
  again = λ text rest h. (reads_bytes (length text)).again text rest refl;
}

no_some : {A : Type 0} {P : Type 0} (x : A) → none {A = A} ≡ some x → P
no_some x e = absurd cc

optional_takes : {A : Type 0} (s : A → List ℕ) (F : A → Type 0) (r : Reader A) → Reads s F r → (flag : ℕ) (bytes : List ℕ) (x : Option A × List ℕ) → IsBytes bytes → optional_of r flag bytes ≡ Some x
    → ((flag ∷ bytes) ≡ optional_bytes s x.0 ++ x.1) × IsBytes x.1 × IfSome x.0 F
optional_takes {A} s F r l zero bytes x fits e =
    let made : Option A × List ℕ = (None, bytes) in
    subst (λ (y : Option A × List ℕ). ((0 ∷ bytes) ≡ optional_bytes s y.0 ++ y.1) × IsBytes y.1 × IfSome y.0 F) (some_is made x e) (refl, fits, tt)
optional_takes {A} s F r l (suc zero) bytes x fits e =
    let first = bind_some (r bytes) (λ p. Some (Some p.0, p.1)) x e in
    let t = l.takes bytes first.0 fits first.1 in
    let made : Option A × List ℕ = (Some first.0.0, first.0.1) in
    subst (λ (y : Option A × List ℕ). ((1 ∷ bytes) ≡ optional_bytes s y.0 ++ y.1) × IsBytes y.1 × IfSome y.0 F) (some_is made x first.2) (ap (λ y. 1 ∷ y) t.0, t.1, t.2)
optional_takes {A} s F r l (suc (suc flag)) bytes x fits e =
    let e0 : eqb (suc (suc flag)) 0 ≡ false = ne_eqb _ _ (omega arith) in
    let e1 : eqb (suc (suc flag)) 1 ≡ false = ne_eqb _ _ (omega arith) in
    let h : optional_of r (suc (suc flag)) bytes ≡ None = rw (e0, e1) refl in
    no_some x (sym h ∙ e)

optional_again : {A : Type 0} (s : A → List ℕ) (F : A → Type 0) (r : Reader A) → Reads s F r → (o : Option A) (rest : List ℕ) → IfSome o F → optional_in r (optional_bytes s o ++ rest) ≡ Some (o, rest)
optional_again s F r l None rest h = refl
optional_again s F r l (Some x) rest h = ap (λ o. o >>= λ p. Some (Some p.0, p.1)) (l.again x rest h)

pub reads_optional : {A : Type 0} (s : A → List ℕ) (F : A → Type 0) (r : Reader A) → Reads s F r → Reads (optional_bytes s) (λ (o : Option A). IfSome o F) (optional_in r)
reads_optional {A} s F r l = record {
  takes = λ bytes x fits e.
      let first = bind_some (byte_in bytes) (λ flag. optional_of r flag.0 flag.1) x e in
      let t = byte_takes bytes first.0 fits first.1 in
      let u = optional_takes s F r l first.0.0 first.0.1 x t.1 first.2 in
      (t.0 ∙ u.0, u.1, u.2);
  again = optional_again s F r l;
}

-- ---- the whole of the bytes

ended_is : {A : Type 0} (x : A × List ℕ) (y : A) → ended x ≡ Some y → (x.0 ≡ y) × (x.1 ≡ [])
ended_is (x, []) y e = (some_is x y e, refl)
ended_is (x, b ∷ bs) y e = absurd cc

pub whole_takes : {A : Type 0} (s : A → List ℕ) (F : A → Type 0) (r : Reader A) → Reads s F r → (bytes : List ℕ) (x : A) → IsBytes bytes → whole r bytes ≡ Some x → (bytes ≡ s x) × F x
whole_takes s F r l bytes x fits e =
    let first = bind_some (r bytes) ended x e in
    let g = ended_is first.0 x first.2 in
    let t = l.takes bytes first.0 fits first.1 in
    (t.0 ∙ ap (λ y. s first.0.0 ++ y) g.1 ∙ append-nil (s first.0.0) ∙ ap s g.0, subst F g.0 t.2)

pub whole_again : {A : Type 0} (s : A → List ℕ) (F : A → Type 0) (r : Reader A) → Reads s F r → (x : A) → F x → whole r (s x) ≡ Some x
whole_again s F r l x fits = ap (λ bytes. r bytes >>= ended) (sym (append-nil (s x))) ∙ ap (λ o. o >>= ended) (l.again x [] fits)

-- the same format with another way to say what is spelled and what fits
pub reads_as : {A : Type 0} (s s' : A → List ℕ) (F F' : A → Type 0) (r : Reader A) → Reads s F r → ((x : A) → s x ≡ s' x) → ((x : A) → F x → F' x) → ((x : A) → F' x → F x) → Reads s' F' r
reads_as s s' F F' r l same to from = record {
  takes = λ bytes x fits e. let t = l.takes bytes x fits e in (t.0 ∙ ap (λ y. y ++ x.1) (same x.0), t.1, to x.0 t.2);
  again = λ x rest fits. ap (λ y. r (y ++ rest)) (sym (same x)) ∙ l.again x rest (from x fits);
}
