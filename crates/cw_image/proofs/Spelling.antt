-- An image has one spelling: what is read is spelled so, and what is spelled so is read.
use Rattle.std.proofs.Common.{◌≡◌, ℕ, zero, suc, ◌-◌, ◌^◌, ◌<◌, ◌≤◌, Bool, true, false, not, ◌||◌, ◌&&◌, cond, eqb, leb, ltb, List, [], ◌∷◌, ◌++◌, length, take, drop, Option, Some, None, Result, Ok, Err, refl, sym, ap, subst, ◌∙◌, append_assoc, arith}
use Rattle.std.specs.List.{AllByRecursion}
use Rattle.std.specs.Str.{bytes_eq}
use Rattle.std.proofs.lemmas.Bool.{ltb-false, le-ltb, lt-ltb, leb-true, le-leb, eqb-true}
use Rattle.std.proofs.lemmas.List.{take-append-drop, drop-drop, take_at, drop_at, append-nil, length-append, length-take, length-drop, take_all}
use Rattle.std.proofs.lemmas.Slice.Eq.{bytes_eq-Decides}
use Rattle.byteorder.specs.Endian.{little_number, little_bytes}
use Rattle.cw_word.specs.Name.{IsName}
use Rattle.cw_fields.specs.Fields.{Reader, each, text_bytes, byte_in, text_in, IsWord, word_bytes, long_bytes, word_in, long_in, bytes_in}
use Rattle.cw_fields.specs.Names.{is_name}
use Rattle.cw_fields.specs.Spelling.{IsBytes, Reads}
use Rattle.cw_fields.proofs.Formats.{IsBytes-drop, reads_byte, reads_bytes, reads_text, two_back}
use Rattle.cw_fields.proofs.Spelled.{reads_word, reads_long}
use Rattle.cw_fields.proofs.Names.{name-Decides}
use Rattle.cw_image.specs.declared.image.Image.{Image}
use Rattle.cw_image.specs.declared.fault.ImageFault.{ImageFault}
use Rattle.cw_image.specs.declared.fault.ImageFault.TheVariants.{NotImage, BadVersion, Truncated, BadField}
use Rattle.cw_image.proofs.Repeating.{ok, bad, bind_ok}
use Rattle.cw_image.specs.ImageFormat.{HasOneSpelling, ◌>>=◌, mark, image_bytes, ends_nonzero, IsImage, field, checked, between, name_field, repeated, word_item, ended, limits_in, names_in, words_in, code_in, fields_in, image_in}

abbrev Read : Type 0 → Type 0
Read A = Result (A × List ℕ) ImageFault

ok_is : {A : Type 0} (x y : A) → ok x ≡ ok y → x ≡ y
ok_is x y e = cc

-- ---- the two laws of a field

record ReadsField {A : Type 0} (spell : A → List ℕ) (Fits : A → Type 0) (step : List ℕ → Read A) : Type 0 where
  takes : (bytes : List ℕ) (x : A × List ℕ) → IsBytes bytes → step bytes ≡ Ok x → (bytes ≡ spell x.0 ++ x.1) × IsBytes x.1 × Fits x.0
  again : (x : A) (rest : List ℕ) → Fits x → step (spell x ++ rest) ≡ Ok (x, rest)

range_is : {A : Type 0} (test : Bool) (place : ℕ) (x y : A × List ℕ) → cond test (ok x) (bad (BadField place)) ≡ Ok y → (test ≡ true) × (x ≡ y)
range_is true place x y e = (refl, ok_is x y e)
range_is false place x y e = absurd cc

checked_is : {A : Type 0} (len : ℕ) (test : A → Bool) (place : ℕ) (o : Option (A × List ℕ)) (y : A × List ℕ) → checked len test place o ≡ Ok y → (o ≡ Some y) × (test y.0 ≡ true)
checked_is len test place None y e = absurd cc
checked_is {A} len test place (Some x) y e =
    let t = range_is (test x.0) place x y e in
    subst (λ (z : A × List ℕ). (Some x ≡ Some z) × (test z.0 ≡ true)) t.1 (refl, t.0)

reads_field : {A : Type 0} (len : ℕ) (s : A → List ℕ) (F : A → Type 0) (read : Reader A) (test : A → Bool) → Reads s F read → ReadsField s (λ x. F x × (test x ≡ true)) (field len read test)
reads_field {A} len s F read test l = record {
  takes = λ bytes x fits e.
      let c = checked_is len test (len - length bytes) (read bytes) x e in
      let t = l.takes bytes x fits c.0 in
      (t.0, t.1, (t.2, c.1));
  again = λ x rest f.
      ap (checked len test (len - length (s x ++ rest))) (l.again x rest f.0) ∙ ap (λ b. cond b (ok (x, rest)) (bad (BadField (len - length (s x ++ rest))))) f.1;
}

-- a number, and what it tells
reads_behind : {A B : Type 0} (sa : A → List ℕ) (Fa : A → Type 0) (ra : List ℕ → Read A) (sb : B → List ℕ) (Fb : A → B → Type 0) (rb : A → List ℕ → Read B) (get : B → A)
    → ReadsField sa Fa ra → ((a : A) → Fa a → ReadsField sb (Fb a) (rb a)) → ((a : A) (b : B) → Fb a b → get b ≡ a)
    → ReadsField (λ b. sa (get b) ++ sb b) (λ b. Fa (get b) × Fb (get b) b) (λ bytes. ra bytes >>= λ a. rb a.0 a.1)
reads_behind {A} {B} sa Fa ra sb Fb rb get la lb told = record {
  takes = λ bytes x fits e.
      let b = bind_ok (ra bytes) (λ a. rb a.0 a.1) x e in
      let t = la.takes bytes b.0 fits b.1 in
      let u = (lb b.0.0 t.2).takes b.0.1 x t.1 b.2 in
      let same : get x.0 ≡ b.0.0 = told b.0.0 x.0 u.2 in
      (t.0 ∙ ap (λ y. sa b.0.0 ++ y) u.0 ∙ sym (append_assoc (sa b.0.0) (sb x.0) x.1) ∙ ap (λ a. (sa a ++ sb x.0) ++ x.1) (sym same), u.1, subst (λ a. Fa a × Fb a x.0) (sym same) (t.2, u.2));
  again = λ x rest f.
      ap (λ y. ra y >>= λ a. rb a.0 a.1) (append_assoc (sa (get x)) (sb x) rest)
      ∙ ap (λ r. r >>= λ a. rb a.0 a.1) (la.again (get x) (sb x ++ rest) f.0) ∙ (lb (get x) f.0).again x rest f.1;
}

-- so many, each told how many follow it
abbrev AllDown : {A : Type 0} → (ℕ → A → Type 0) → List A → Type 0
AllDown P [] = Unit {0}
AllDown P (x ∷ xs) = P (length xs) x × AllDown P xs

abbrev Many : {A : Type 0} → (ℕ → A → Type 0) → ℕ → List A → Type 0
Many P n xs = (length xs ≡ n) × AllDown P xs

many_takes : {A : Type 0} (s : A → List ℕ) (P : ℕ → A → Type 0) (step : ℕ → List ℕ → Read A) → ((n : ℕ) → ReadsField s (P n) (step n))
    → (n : ℕ) (bytes : List ℕ) (x : List A × List ℕ) → IsBytes bytes → repeated step n bytes ≡ Ok x → (bytes ≡ each s x.0 ++ x.1) × IsBytes x.1 × Many P n x.0
many_takes {A} s P step l zero bytes x fits e =
    subst (λ (y : List A × List ℕ). (bytes ≡ each s y.0 ++ y.1) × IsBytes y.1 × Many P 0 y.0) (ok_is ([], bytes) x e) (refl, fits, (refl, tt))
many_takes {A} s P step l (suc n) bytes x fits e =
    let b = bind_ok (step n bytes) (λ y. repeated step n y.1 >>= λ ys. Ok (y.0 ∷ ys.0, ys.1)) x e in
    let c = bind_ok (repeated step n b.0.1) (λ ys. Ok (b.0.0 ∷ ys.0, ys.1)) x b.2 in
    let t = (l n).takes bytes b.0 fits b.1 in
    let u = many_takes s P step l n b.0.1 c.0 t.1 c.1 in
    subst (λ (y : List A × List ℕ). (bytes ≡ each s y.0 ++ y.1) × IsBytes y.1 × Many P (suc n) y.0) (ok_is (b.0.0 ∷ c.0.0, c.0.1) x c.2)
    (t.0 ∙ ap (λ y. s b.0.0 ++ y) u.0 ∙ sym (append_assoc (s b.0.0) (each s c.0.0) c.0.1), u.1, (ap suc u.2.0, (subst (λ m. P m b.0.0) (sym u.2.0) t.2, u.2.1)))

many_again : {A : Type 0} (s : A → List ℕ) (P : ℕ → A → Type 0) (step : ℕ → List ℕ → Read A) → ((n : ℕ) → ReadsField s (P n) (step n))
    → (xs : List A) (rest : List ℕ) → AllDown P xs → repeated step (length xs) (each s xs ++ rest) ≡ Ok (xs, rest)
many_again s P step l [] rest a = refl
many_again {A} s P step l (x ∷ xs) rest a =
    let more : (List ℕ → Read (List A)) = λ bytes. step (length xs) bytes >>= λ y. repeated step (length xs) y.1 >>= λ ys. Ok (y.0 ∷ ys.0, ys.1) in
    ap more (append_assoc (s x) (each s xs) rest)
    ∙ ap (λ (r : Read A). r >>= λ y. repeated step (length xs) y.1 >>= λ ys. Ok (y.0 ∷ ys.0, ys.1)) ((l (length xs)).again x (each s xs ++ rest) a.0)
    ∙ ap (λ (r : Read (List A)). r >>= λ ys. Ok (x ∷ ys.0, ys.1)) (many_again s P step l xs rest a.1)

reads_many : {A : Type 0} (s : A → List ℕ) (P : ℕ → A → Type 0) (step : ℕ → List ℕ → Read A) → ((n : ℕ) → ReadsField s (P n) (step n)) → (n : ℕ) → ReadsField (each s) (Many P n) (repeated step n)
reads_many {A} s P step l n = record {
  takes = many_takes s P step l n;
  again = λ xs rest f. subst (λ m. repeated step m (each s xs ++ rest) ≡ Ok (xs, rest)) f.0 (many_again s P step l xs rest f.1);
}

-- ---- the fields of an image

word_between : (len low high : ℕ) → ReadsField word_bytes (λ n. IsWord n × (between low high n ≡ true)) (field len word_in (between low high))
word_between len low high = reads_field len word_bytes IsWord word_in (between low high) reads_word

both : (a b : Bool) → a ≡ true → b ≡ true → (a && b) ≡ true
both true b h k = k
both false b h k = absurd cc

parts : (a b : Bool) → (a && b) ≡ true → (a ≡ true) × (b ≡ true)
parts true b h = (refl, h)
parts false b h = absurd cc

is_between : (low high n : ℕ) → between low high n ≡ true → (low ≤ n) × (n ≤ high)
is_between low high n h = let t = parts (leb low n) (leb n high) h in (leb-true low n t.0, leb-true n high t.1)

as_between : (low high n : ℕ) → low ≤ n → n ≤ high → between low high n ≡ true
as_between low high n h k = both (leb low n) (leb n high) (le-leb low n h) (le-leb n high k)

-- a name's length is looked at first
some_name : (name : List ℕ) → IsName name → 1 ≤ length name
some_name [] h = absurd h.letter_first
some_name (b ∷ bs) h = omega arith

abbrev sized : Bool → (n : ℕ) → List ℕ → (place : ℕ) → Read ℕ
sized b n rest place = cond b (Ok (n, rest)) (Err (BadField place))

text_named : (len : ℕ) → ReadsField text_bytes (λ text. (length text < 256) × (is_name text ≡ true)) (field len text_in is_name)
text_named len = reads_field len text_bytes (λ text. length text < 256) text_in is_name reads_text

reads_names : (len : ℕ) → ReadsField text_bytes IsName (name_field len)
unfolding name_field
reads_names len = record {
  takes = λ bytes x fits e.
      let b = bind_ok (field len byte_in (between 1 31) bytes) (λ n. field len text_in is_name bytes) x e in
      let t = (text_named len).takes bytes x fits b.2 in
      (t.0, t.1, (name-Decides x.0).0 t.2.1);
  again = λ name rest h.
      ap (λ b. sized b (length name) (name ++ rest) (len - length (text_bytes name ++ rest)) >>= λ n. field len text_in is_name (text_bytes name ++ rest)) (as_between 1 31 (length name) (some_name name h) h.short)
      ∙ (text_named len).again name rest (omega (arith, h.short), (name-Decides name).1 h);
}

-- ---- the parts

abbrev FitsLimits : ℕ × (ℕ × ℕ) → Type 0
FitsLimits l = (IsWord l.0 × (between 1 32768 l.0 ≡ true)) × (IsWord l.1.0 × (between 0 l.0 l.1.0 ≡ true)) × (IsWord l.1.1 × (between 1 4096 l.1.1 ≡ true))

abbrev spelled_limits : ℕ × (ℕ × ℕ) → List ℕ
spelled_limits l = word_bytes l.0 ++ (word_bytes l.1.0 ++ word_bytes l.1.1)

abbrev some_limits : (area frames depth : ℕ) → List ℕ → Read (ℕ × (ℕ × ℕ))
some_limits area frames depth rest = Ok ((area, (frames, depth)), rest)

reads_limits : (len : ℕ) → ReadsField spelled_limits FitsLimits (limits_in len)
unfolding limits_in
reads_limits len = record {
  takes = λ bytes x fits e.
      let a = bind_ok (field len word_in (between 1 32768) bytes) (λ area. field len word_in (between 0 area.0) area.1 >>= λ frames. field len word_in (between 1 4096) frames.1 >>= λ depth. Ok ((area.0, (frames.0, depth.0)), depth.1)) x e in
      let f = bind_ok (field len word_in (between 0 a.0.0) a.0.1) (λ frames. field len word_in (between 1 4096) frames.1 >>= λ depth. Ok ((a.0.0, (frames.0, depth.0)), depth.1)) x a.2 in
      let d = bind_ok (field len word_in (between 1 4096) f.0.1) (λ depth. Ok ((a.0.0, (f.0.0, depth.0)), depth.1)) x f.2 in
      let ta = (word_between len 1 32768).takes bytes a.0 fits a.1 in
      let tf = (word_between len 0 a.0.0).takes a.0.1 f.0 ta.1 f.1 in
      let td = (word_between len 1 4096).takes f.0.1 d.0 tf.1 d.1 in
      let whole : bytes ≡ spelled_limits (a.0.0, (f.0.0, d.0.0)) ++ d.0.1 =
      ta.0 ∙ ap (λ y. word_bytes a.0.0 ++ y) (tf.0 ∙ ap (λ y. word_bytes f.0.0 ++ y) td.0) in
      subst (λ (y : (ℕ × (ℕ × ℕ)) × List ℕ). (bytes ≡ spelled_limits y.0 ++ y.1) × IsBytes y.1 × FitsLimits y.0) (ok_is ((a.0.0, (f.0.0, d.0.0)), d.0.1) x d.2) (whole, td.1, (ta.2, tf.2, td.2));
  again = λ x rest f.
      ap (λ (r : Read ℕ). r >>= λ area. field len word_in (between 0 area.0) area.1 >>= λ frames. field len word_in (between 1 4096) frames.1 >>= λ depth. some_limits area.0 frames.0 depth.0 depth.1) ((word_between len 1 32768).again x.0 (word_bytes x.1.0 ++ (word_bytes x.1.1 ++ rest)) f.0)
      ∙ ap (λ (r : Read ℕ). r >>= λ frames. field len word_in (between 1 4096) frames.1 >>= λ depth. some_limits x.0 frames.0 depth.0 depth.1) ((word_between len 0 x.0).again x.1.0 (word_bytes x.1.1 ++ rest) f.1)
      ∙ ap (λ (r : Read ℕ). r >>= λ depth. some_limits x.0 x.1.0 depth.0 depth.1) ((word_between len 1 4096).again x.1.1 rest f.2);
}

abbrev FitsNames : List (List ℕ) → Type 0
FitsNames names = ((length names < 256) × (between 1 200 (length names) ≡ true)) × Many (λ _. IsName) (length names) names

reads_names_in : (len : ℕ) → ReadsField (λ names. length names ∷ each text_bytes names) FitsNames (names_in len)
unfolding names_in
reads_names_in len =
    reads_behind (λ n. n ∷ []) (λ n. (n < 256) × (between 1 200 n ≡ true)) (field len byte_in (between 1 200)) (each text_bytes) (Many (λ _. IsName)) (repeated (λ _. name_field len)) length
    (reads_field len (λ n. n ∷ []) (λ n. n < 256) byte_in (between 1 200) reads_byte) (λ n h. reads_many text_bytes (λ _. IsName) (λ _. name_field len) (λ _. reads_names len) n) (λ n names f. f.0)

abbrev IsFollowed : (follow w : ℕ) → Type 0
IsFollowed follow w = IsWord w × ((ltb 0 follow || not (eqb w 0)) ≡ true)

abbrev FitsWords : (area : ℕ) → List ℕ → Type 0
FitsWords area words = (IsWord (length words) × (between 0 area (length words) ≡ true)) × Many IsFollowed (length words) words

reads_words_in : (len area : ℕ) → ReadsField (λ words. word_bytes (length words) ++ each word_bytes words) (FitsWords area) (words_in len area)
unfolding words_in
reads_words_in len area =
    reads_behind word_bytes (λ n. IsWord n × (between 0 area n ≡ true)) (field len word_in (between 0 area)) (each word_bytes) (Many IsFollowed) (repeated (word_item len)) length
    (word_between len 0 area) (λ n h. reads_many word_bytes IsFollowed (word_item len) (λ follow. reads_field len word_bytes IsWord word_in (λ w. ltb 0 follow || not (eqb w 0)) reads_word) n) (λ n words f. f.0)

abbrev FitsCode : List ℕ → Type 0
FitsCode code = ((length code < 2 ^ 32) × (between 1 65536 (length code) ≡ true)) × ((length code ≡ length code) × (true ≡ true))

reads_code_in : (len : ℕ) → ReadsField (λ code. long_bytes (length code) ++ code) FitsCode (code_in len)
unfolding code_in
reads_code_in len =
    reads_behind long_bytes (λ n. (n < 2 ^ 32) × (between 1 65536 n ≡ true)) (field len long_in (between 1 65536)) (λ b. b) (λ n b. (length b ≡ n) × (true ≡ true)) (λ n. field len (bytes_in n) (λ _. true)) length
    (reads_field len long_bytes (λ n. n < 2 ^ 32) long_in (between 1 65536) reads_long) (λ n h. reads_field len (λ b. b) (λ b. length b ≡ n) (bytes_in n) (λ _. true) (reads_bytes n)) (λ n b f. f.0)

-- ---- what they say of an image

names_down : (names : List (List ℕ)) → AllByRecursion IsName names → AllDown (λ _. IsName) names
names_down [] h = tt
names_down (n ∷ ns) h = (h.0, names_down ns h.1)

names_up : (names : List (List ℕ)) → AllDown (λ _. IsName) names → AllByRecursion IsName names
names_up [] h = tt
names_up (n ∷ ns) h = (h.0, names_up ns h.1)

words_down : (words : List ℕ) → AllByRecursion IsWord words → ends_nonzero words ≡ true → AllDown IsFollowed words
words_down [] h e = tt
words_down (w ∷ []) h e = ((h.0, e), tt)
words_down (w ∷ v ∷ ws) h e = ((h.0, ap (λ b. b || not (eqb w 0)) (lt-ltb 0 (suc (length ws)) (omega arith))), words_down (v ∷ ws) h.1 e)

words_up : (words : List ℕ) → AllDown IsFollowed words → AllByRecursion IsWord words × (ends_nonzero words ≡ true)
words_up [] h = (tt, refl)
words_up (w ∷ []) h = ((h.0.0, tt), h.0.1)
words_up (w ∷ v ∷ ws) h = let more = words_up (v ∷ ws) h.1 in ((h.0.0, more.0), more.1)

abbrev limits_of : Image → ℕ × (ℕ × ℕ)
limits_of i = (i.area, (i.frames, i.depth))

abbrev spelled_rest : Image → List ℕ
spelled_rest i = (length i.names ∷ each text_bytes i.names) ++ ((word_bytes (length i.words) ++ each word_bytes i.words) ++ (long_bytes (length i.code) ++ i.code))

abbrev image_with : ℕ × (ℕ × ℕ) → List (List ℕ) → (words code : List ℕ) → Image
image_with l names words code = record { area = l.0; frames = l.1.0; depth = l.1.1; names = names; words = words; code = code }

ended_is : (len : ℕ) (i j : Image) (rest : List ℕ) → ended len i rest ≡ Ok j → (rest ≡ []) × (i ≡ j)
ended_is len i j [] e = (refl, ok_is i j e)
ended_is len i j (b ∷ bs) e = absurd cc

is_image : (l : ℕ × (ℕ × ℕ)) (names : List (List ℕ)) (words code : List ℕ) → FitsLimits l → FitsNames names → FitsWords l.0 words → FitsCode code → IsImage (image_with l names words code)
is_image l names words code fl fn fw fc =
    let a = is_between 1 32768 l.0 fl.0.1 in
    let f = is_between 0 l.0 l.1.0 fl.1.1 in
    let d = is_between 1 4096 l.1.1 fl.2.1 in
    let n = is_between 1 200 (length names) fn.0.1 in
    let w = is_between 0 l.0 (length words) fw.0.1 in
    let c = is_between 1 65536 (length code) fc.0.1 in
    let up = words_up words fw.1.1 in
    record { some_area = a.0; area = a.1; frames = f.1; some_depth = d.0; depth = d.1; some_names = n.0; few_names = n.1; names = names_up names fn.1.1; few_words = w.1; words = up.0; last = up.1; some_code = c.0; code = c.1 }

fields_takes : (len : ℕ) (bytes : List ℕ) (i : Image) → IsBytes bytes → fields_in len bytes ≡ Ok i → IsImage i × (bytes ≡ spelled_limits (limits_of i) ++ spelled_rest i)
unfolding fields_in
fields_takes len bytes i fits e =
    let l = bind_ok (limits_in len bytes) (λ l. names_in len l.1 >>= λ n. words_in len l.0.0 n.1 >>= λ w. code_in len w.1 >>= λ c. ended len (image_with l.0 n.0 w.0 c.0) c.1) i e in
    let n = bind_ok (names_in len l.0.1) (λ n. words_in len l.0.0.0 n.1 >>= λ w. code_in len w.1 >>= λ c. ended len (image_with l.0.0 n.0 w.0 c.0) c.1) i l.2 in
    let w = bind_ok (words_in len l.0.0.0 n.0.1) (λ w. code_in len w.1 >>= λ c. ended len (image_with l.0.0 n.0.0 w.0 c.0) c.1) i n.2 in
    let c = bind_ok (code_in len w.0.1) (λ c. ended len (image_with l.0.0 n.0.0 w.0.0 c.0) c.1) i w.2 in
    let end = ended_is len (image_with l.0.0 n.0.0 w.0.0 c.0.0) i c.0.1 c.2 in
    let tl = (reads_limits len).takes bytes l.0 fits l.1 in
    let tn = (reads_names_in len).takes l.0.1 n.0 tl.1 n.1 in
    let tw = (reads_words_in len l.0.0.0).takes n.0.1 w.0 tn.1 w.1 in
    let tc = (reads_code_in len).takes w.0.1 c.0 tw.1 c.1 in
    let names_are = length n.0.0 ∷ each text_bytes n.0.0 in
    let words_are = word_bytes (length w.0.0) ++ each word_bytes w.0.0 in
    let code_is = long_bytes (length c.0.0) ++ c.0.0 in
    let last : w.0.1 ≡ code_is = tc.0 ∙ ap (λ y. code_is ++ y) end.0 ∙ append-nil code_is in
    let spelled : bytes ≡ spelled_limits l.0.0 ++ (names_are ++ (words_are ++ code_is)) =
    tl.0 ∙ ap (λ y. spelled_limits l.0.0 ++ y) (tn.0 ∙ ap (λ y. names_are ++ y) (tw.0 ∙ ap (λ y. words_are ++ y) last)) in
    subst (λ (j : Image). IsImage j × (bytes ≡ spelled_limits (limits_of j) ++ spelled_rest j)) end.1 (is_image l.0.0 n.0.0 w.0.0 c.0.0 tl.2 tn.2 tw.2 tc.2, spelled)

fields_again : (len : ℕ) (i : Image) → IsImage i → fields_in len (spelled_limits (limits_of i) ++ spelled_rest i) ≡ Ok i
unfolding fields_in
fields_again len i h =
    let code_is = long_bytes (length i.code) ++ i.code in
    let words_are = word_bytes (length i.words) ++ each word_bytes i.words in
    let names_are = length i.names ∷ each text_bytes i.names in
    let fl : FitsLimits (limits_of i) =
    ((omega (arith, h.area), as_between 1 32768 i.area h.some_area h.area), (omega (arith, h.area, h.frames), as_between 0 i.area i.frames (omega arith) h.frames), (omega (arith, h.depth), as_between 1 4096 i.depth h.some_depth h.depth)) in
    let fn : FitsNames i.names = ((omega (arith, h.few_names), as_between 1 200 (length i.names) h.some_names h.few_names), (refl, names_down i.names h.names)) in
    let fw : FitsWords i.area i.words = ((omega (arith, h.few_words, h.area), as_between 0 i.area (length i.words) (omega arith) h.few_words), (refl, words_down i.words h.words h.last)) in
    let fc : FitsCode i.code = ((omega (arith, h.code), as_between 1 65536 (length i.code) h.some_code h.code), (refl, refl)) in
    ap (λ (r : Read (ℕ × (ℕ × ℕ))). r >>= λ l. names_in len l.1 >>= λ n. words_in len l.0.0 n.1 >>= λ w. code_in len w.1 >>= λ c. ended len (image_with l.0 n.0 w.0 c.0) c.1) ((reads_limits len).again (limits_of i) (names_are ++ (words_are ++ code_is)) fl)
    ∙ ap (λ (r : Read (List (List ℕ))). r >>= λ n. words_in len i.area n.1 >>= λ w. code_in len w.1 >>= λ c. ended len (image_with (limits_of i) n.0 w.0 c.0) c.1) ((reads_names_in len).again i.names (words_are ++ code_is) fn)
    ∙ ap (λ (r : Read (List ℕ)). r >>= λ w. code_in len w.1 >>= λ c. ended len (image_with (limits_of i) i.names w.0 c.0) c.1) ((reads_words_in len i.area).again i.words code_is fw)
    ∙ ap (λ (r : Read (List ℕ)). r >>= λ c. ended len (image_with (limits_of i) i.names i.words c.0) c.1) (ap (code_in len) (sym (append-nil code_is)) ∙ (reads_code_in len).again i.code [] fc)

-- ---- the header

fault_or : {A : Type 0} (b : Bool) (f : ImageFault) (r : Result A ImageFault) (y : A) → cond b (bad f) r ≡ Ok y → (b ≡ false) × (r ≡ Ok y)
fault_or true f r y e = absurd cc
fault_or false f r y e = (refl, e)

not_false : (b : Bool) → not b ≡ false → b ≡ true
not_false true h = refl
not_false false h = absurd cc

header_takes : (bytes : List ℕ) → IsBytes bytes → 6 ≤ length bytes → take 4 bytes ≡ mark → little_number 2 (drop 4 bytes) ≡ 1 → bytes ≡ mark ++ (word_bytes 1 ++ drop 6 bytes)
header_takes bytes fits long m v =
    let two : take 2 (drop 4 bytes) ≡ word_bytes 1 = two_back (drop 4 bytes) (omega (arith, length-drop 4 bytes, long)) (IsBytes-drop 4 bytes fits) ∙ ap (little_bytes 2) v in
    sym (take-append-drop 4 bytes) ∙ ap (λ y. y ++ drop 4 bytes) m
    ∙ ap (λ y. mark ++ y) (sym (take-append-drop 2 (drop 4 bytes)) ∙ ap (λ y. y ++ drop 2 (drop 4 bytes)) two ∙ ap (λ y. word_bytes 1 ++ y) (drop-drop 2 4 bytes))

image_takes : (bytes : List ℕ) (i : Image) → IsBytes bytes → image_in bytes ≡ Ok i → IsImage i × (bytes ≡ image_bytes i)
unfolding image_in
image_takes bytes i fits e =
    let g1 = fault_or (not (bytes_eq (take 4 bytes) (take (length bytes) mark))) NotImage _ i e in
    let g2 = fault_or (ltb (length bytes) 6) (Truncated (length bytes)) _ i g1.1 in
    let g3 = fault_or (not (eqb (little_number 2 (drop 4 bytes)) 1)) BadVersion _ i g2.1 in
    let long : 6 ≤ length bytes = ltb-false _ _ g2.0 in
    let m : take 4 bytes ≡ mark = (bytes_eq-Decides (take 4 bytes) (take (length bytes) mark)).0 (not_false _ g1.0) ∙ take_all (length bytes) mark (omega (arith, long)) in
    let v : little_number 2 (drop 4 bytes) ≡ 1 = eqb-true _ _ (not_false _ g3.0) in
    let t = fields_takes (length bytes) (drop 6 bytes) i (IsBytes-drop 6 bytes fits) g3.1 in
    (t.0, header_takes bytes fits long m v ∙ ap (λ y. mark ++ (word_bytes 1 ++ y)) t.1)

image_again : (i : Image) → IsImage i → image_in (image_bytes i) ≡ Ok i
unfolding image_in
image_again i h =
    let rest = spelled_limits (limits_of i) ++ spelled_rest i in
    let long : ltb (length (image_bytes i)) 6 ≡ false = le-ltb (length (image_bytes i)) 6 (omega arith) in
    ap (λ b. cond b (bad (Truncated (length (image_bytes i)))) (fields_in (length (image_bytes i)) rest)) long ∙ fields_again (length (image_bytes i)) i h

pub one_spelling : HasOneSpelling
one_spelling = record { again = image_again; takes = image_takes }
