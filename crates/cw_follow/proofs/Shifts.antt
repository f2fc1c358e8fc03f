-- Shifts of AX by a number of places, whatever their code is: none, a shift by one place, or a count in CL and a shift. And the parts of words
-- that are taken by them.
use Rattle.std.proofs.Common.{◌≡◌, ℕ, zero, suc, ◌+◌, ◌-◌, ◌/◌, ◌%◌, ◌^◌, ◌<◌, ◌≤◌, Bool, true, false, List, [], ◌∷◌, ◌++◌, length, refl, sym, ap, ◌∙◌, subst, arith, lit<, append_assoc}
use borrow.Author.Tests.{eqb-true}
use Rattle.std.proofs.lemmas.List.{append-nil}
use Rattle.std.specs.Prelude.{bit_and, bit_xor, ◌==◌, if◌then◌else◌}
use Rattle.cw_i86.specs.Encoding.{bytes_of}
use Rattle.cw_i86.specs.declared.instr.Instr.{Instr}
use Rattle.cw_i86.specs.declared.instr.Instr.TheVariants as i86
use Rattle.cw_i86.specs.declared.instr.Rm.{Rm}
use Rattle.cw_i86.specs.declared.instr.Rm.TheVariants as rms
use Rattle.cw_run86.specs.Processor.{Told}
use Rattle.cw_run86.specs.Views.{View, put_word, with_number, word_up, word_down_signed}
use Rattle.cw_rows86.specs.Locations.{InRegister, InData, Denotes}
use Rattle.cw_rows86.specs.Operations.{And, Xor, Shifting, Up, Down, DownSigned, shift_number, shifted_word}
use Rattle.cw_rows86.specs.Acts.{Shift, Operate, OperateOnto, OperateNumber}
use Rattle.cw_tmpl.specs.declared.pieces.Coded.{Coded}
use Rattle.cw_tmpl.specs.Pieces.{Filling, blanks}
use Rattle.cw_tmpl.specs.Templates.{shifted, shifted_up, shifted_down, shifted_down_signed, lowest_if, part_taken}
use Rattle.cw_follow.proofs.Watched.{Watched, watched_step}
use Rattle.cw_follow.proofs.Standing.{HasPieces, Has, Image}
use Rattle.cw_follow.proofs.Rows.{Rows}
use Rattle.cw_follow.proofs.Chains.{Is, Leads, view, seen, number, more, last, done}
use Rattle.cw_follow.proofs.Acting.{act}
use Rattle.cw_follow.proofs.Facts.{down_none}
use Rattle.cw_follow.proofs.Halves.{upper_bits}

abbrev pub once : Shifting → Instr
once op = i86.Shift (shift_number op) true false (rms.Reg 0)

abbrev pub by_count : Shifting → Instr
by_count op = i86.Shift (shift_number op) true true (rms.Reg 0)

-- how many instructions
abbrev pub shift_steps : ℕ → ℕ
shift_steps zero = 0
shift_steps (suc zero) = 1
shift_steps (suc (suc n)) = 2

abbrev pub lowest_steps : Bool → ℕ
lowest_steps whole = if whole then 0 else 1

abbrev pub part_steps : (t b : ℕ) → (is_signed : Bool) → ℕ
part_steps t b true = shift_steps (16 - (t + b)) + shift_steps (16 - t)
part_steps t b false = shift_steps b + lowest_steps (t + b == 16)

pub few_steps : (n : ℕ) → shift_steps n ≤ 2
few_steps zero = omega arith
few_steps (suc zero) = omega arith
few_steps (suc (suc n)) = omega arith

few_lowest : (whole : Bool) → lowest_steps whole ≤ 1
few_lowest true = omega arith
few_lowest false = omega arith

pub few_part_steps : (t b : ℕ) (is_signed : Bool) → part_steps t b is_signed ≤ 4
few_part_steps t b true = omega (arith, few_steps (16 - (t + b)), few_steps (16 - t))
few_part_steps t b false = omega (arith, few_steps b, few_lowest (t + b == 16))

-- where there are none, all bits of a word are taken
no_shift : (n : ℕ) → shift_steps n ≡ 0 → n ≡ 0
no_shift zero e = refl
no_shift (suc zero) e = absurd (omega arith)
no_shift (suc (suc n)) e = absurd (omega arith)

whole_if : (whole : Bool) → lowest_steps whole ≡ 0 → whole ≡ true
whole_if true e = refl
whole_if false e = absurd (omega arith)

pub without_steps : (t b : ℕ) → part_steps t b false ≡ 0 → (t ≡ 16) × (b ≡ 0)
without_steps t b e =
    let none : b ≡ 0 = no_shift b (omega arith) in
    let all : t + b ≡ 16 = eqb-true (t + b) 16 (whole_if (t + b == 16) (omega arith)) in
    (omega arith, none)

pub some_steps : (n : ℕ) → 1 ≤ n → 0 < shift_steps n
some_steps zero some = absurd (omega arith)
some_steps (suc zero) some = omega arith
some_steps (suc (suc n)) some = omega arith

-- by no place
stays : (op : Shifting) (a : ℕ) → a < 65536 → a ≡ shifted_word op a 0
stays Up a small = omega arith
stays Down a small = omega arith
stays DownSigned a small = sym (down_none a small)

-- the bits that are taken from a word
abbrev pub part_word : (w t b : ℕ) → (is_signed : Bool) → ℕ
part_word w t b true = word_down_signed (word_up w (16 - (t + b))) (16 - t)
part_word w t b false = bit_and (w / 2 ^ b) (2 ^ t - 1)

module _ (rows : Rows) (image : Image) (value : Filling) (to : ℕ) (output : List ℕ) where
  -- code that stands at a place and ends there
  abbrev pub Code : (at : ℕ) → List Coded → Type 0
  Code at ps = HasPieces image value at ps × (at + length (blanks ps) ≡ to)

  -- a view by AX, CX and the flag, and the way on with a word in AX, where CX and the flag may be others
  abbrev Views : Type 0
  Views = (a cx : ℕ) → (overflow : Bool) → View

  abbrev pub On : Views → (n word : ℕ) → List Coded → (Watched → Type 0) → Type 0
  On V n word rest Target = (q : Watched) (place a cx : ℕ) (overflow : Bool) → a ≡ word → Code place rest → Is image place (V a cx overflow) q → Leads output n q Target

  pub shifts : (op : Shifting) (n : ℕ) {at a cx dx bx sp bp si di : ℕ} {overflow : Bool} {cells stack : ℕ → ℕ} {input : List ℕ} {told : Told} {p : Watched} {m : ℕ} {Target : Watched → Type 0} (rest : List Coded) → n ≤ 16 → a < 65536 → told.output ≡ output
      → Code at (shifted (once op) (by_count op) n ++ rest) → Is image at (view a cx dx bx sp bp si di overflow cells stack input told) p → On (λ a cx o. view a cx dx bx sp bp si di o cells stack input told) m (shifted_word op a n) rest Target → Leads output (shift_steps n + m) p Target
  shifts op zero {at} {a} {cx} {overflow = overflow} {p = p} {m = m} {Target = Target} rest few small wrote code s on =
      let e : m ≡ 0 + m = omega arith in
      subst (λ k. Leads output k p Target) e (on p at a cx overflow (stays op a small) code s)
  shifts op (suc zero) {at} {a} {cx} {overflow = overflow} {p = p} {m = m} {Target = Target} rest few small wrote code s on =
      let e : suc m ≡ 1 + m = omega arith in
      let h = code.0 in
      let ends = code.1 in
      let t = act rows (Shift op false (rms.Reg 0) (InRegister 0) a) (lit< tt) h.0 ((refl, tt, refl), small) s in
      subst (λ k. Leads output k p Target) e (more rows s wrote t.is (λ q u. on q (at + 2) (shifted_word op a 1) cx _ refl (h.1, omega arith) u))
  shifts op (suc (suc n)) {at} {a} {cx} {overflow = overflow} {p = p} {m = m} {Target = Target} rest few small wrote code s on =
      let k = suc (suc n) in
      let h = code.0 in
      let ends = code.1 in
      let e : suc (suc m) ≡ 2 + m = omega arith in
      let count : k % 256 ≡ k = omega arith in
      subst (λ k. Leads output k p Target) e
      (more rows s wrote (number rows 1 k h.0 s) (λ q u.
      more rows u wrote (act rows (Shift op true (rms.Reg 0) (InRegister 0) a) (lit< tt) h.1.0 ((refl, tt, refl), small) u).is
      (λ r v. on r (at + 3 + 2) (shifted_word op a (k % 256)) k _ (ap (shifted_word op a) count) (h.1.1, omega arith) v)))

  -- the lowest bits
  lowest : (whole : Bool) (t : ℕ) {at a cx dx bx sp bp si di : ℕ} {overflow : Bool} {cells stack : ℕ → ℕ} {input : List ℕ} {told : Told} {p : Watched} {m : ℕ} {Target : Watched → Type 0} (rest : List Coded) → told.output ≡ output → (whole ≡ true → a ≡ bit_and a (2 ^ t - 1))
      → Code at (lowest_if whole t ++ rest) → Is image at (view a cx dx bx sp bp si di overflow cells stack input told) p → On (λ a cx o. view a cx dx bx sp bp si di o cells stack input told) m (bit_and a (2 ^ t - 1)) rest Target → Leads output (lowest_steps whole + m) p Target
  lowest true t {at} {a} {cx} {overflow = overflow} {p = p} {m = m} {Target = Target} rest wrote same code s on =
      let e : m ≡ 0 + m = omega arith in
      subst (λ k. Leads output k p Target) e (on p at a cx overflow (same refl) code s)
  lowest false t {at} {a} {cx} {overflow = overflow} {p = p} {m = m} {Target = Target} rest wrote same code s on =
      let e : suc m ≡ 1 + m = omega arith in
      let h = code.0 in
      let ends = code.1 in
      subst (λ k. Leads output k p Target) e
      (more rows s wrote (act rows (OperateNumber And (2 ^ t - 1)) (lit< tt) h.0 tt s).is (λ q u. on q (at + 3) (bit_and a (2 ^ t - 1)) cx false refl (h.1, omega arith) u))

  -- a part of the word in AX
  pub takes_part : (t b : ℕ) (is_signed : Bool) {at w cx dx bx sp bp si di : ℕ} {overflow : Bool} {cells stack : ℕ → ℕ} {input : List ℕ} {told : Told} {p : Watched} {m : ℕ} {Target : Watched → Type 0} (rest : List Coded) → t + b ≤ 16 → w < 65536 → told.output ≡ output
      → Code at (part_taken t b is_signed ++ rest) → Is image at (view w cx dx bx sp bp si di overflow cells stack input told) p → On (λ a cx o. view a cx dx bx sp bp si di o cells stack input told) m (part_word w t b is_signed) rest Target → Leads output (part_steps t b is_signed + m) p Target
  takes_part t b true {at} {w} {cx} {overflow = overflow} {p = p} {m = m} {Target = Target} rest room small wrote code s on =
      let up = 16 - (t + b) in
      let down = 16 - t in
      let e : shift_steps up + (shift_steps down + m) ≡ shift_steps up + shift_steps down + m = omega arith in
      subst (λ k. Leads output k p Target) e
      (shifts Up up (shifted_down_signed down ++ rest) (omega arith) small wrote (subst (Code at) (append_assoc (shifted_up up) (shifted_down_signed down) rest) code) s
      (λ q place a cx' overflow' is code' u.
      shifts DownSigned down rest (omega arith) (omega arith) wrote code' u
      (λ r place' a' cx'' overflow'' is' code'' v. on r place' a' cx'' overflow'' (is' ∙ ap (λ x. word_down_signed x down) is) code'' v)))
  takes_part t b false {at} {w} {cx} {overflow = overflow} {p = p} {m = m} {Target = Target} rest room small wrote code s on =
      let whole = t + b == 16 in
      let e : shift_steps b + (lowest_steps whole + m) ≡ shift_steps b + lowest_steps whole + m = omega arith in
      subst (λ k. Leads output k p Target) e
      (shifts Down b (lowest_if whole t ++ rest) (omega arith) small wrote (subst (Code at) (append_assoc (shifted_down b) (lowest_if whole t) rest) code) s
      (λ q place a cx' overflow' is code' u.
      lowest whole t rest wrote (λ is_whole. subst (λ x. x ≡ bit_and x (2 ^ t - 1)) (sym is) (upper_bits w t b small (eqb-true (t + b) 16 is_whole))) code' u
      (λ r place' a' cx'' overflow'' is' code'' v. on r place' a' cx'' overflow'' (is' ∙ ap (λ x. bit_and x (2 ^ t - 1)) is) code'' v)))

  -- ---- at the end of the code

  -- AX holds the word
  pub record Holds (V : Views) (word : ℕ) (q : Watched) : Type 0 where
    pub cx : ℕ
    pub overflow : Bool
    pub is : Is image to (V word cx overflow) q

  held : (V : Views) (word : ℕ) → On V 0 word [] (Holds V word)
  held V word q place a cx overflow same code s =
      let ends = code.1 in
      let there : place ≡ to = omega arith in
      done (record { cx = cx; overflow = overflow; is = subst (λ x. Is image to (V x cx overflow) q) same (seen there refl s) })

  pub shifts_last : (op : Shifting) (n : ℕ) {at a cx dx bx sp bp si di : ℕ} {overflow : Bool} {cells stack : ℕ → ℕ} {input : List ℕ} {told : Told} {p : Watched} → n ≤ 16 → a < 65536 → told.output ≡ output → HasPieces image value at (shifted (once op) (by_count op) n)
      → at + length (blanks (shifted (once op) (by_count op) n)) ≡ to → Is image at (view a cx dx bx sp bp si di overflow cells stack input told) p → Leads output (shift_steps n) p (Holds (λ a cx o. view a cx dx bx sp bp si di o cells stack input told) (shifted_word op a n))
  shifts_last op n {at} {a} {cx} {dx} {bx} {sp} {bp} {si} {di} {cells = cells} {stack = stack} {input = input} {told = told} {p = p} few small wrote h ends s =
      let V : Views = λ a cx o. view a cx dx bx sp bp si di o cells stack input told in
      let none : shift_steps n + 0 ≡ shift_steps n = omega arith in
      subst (λ k. Leads output k p (Holds V (shifted_word op a n))) none
      (shifts op n {Target = Holds V (shifted_word op a n)} [] few small wrote (subst (Code at) (sym (append-nil (shifted (once op) (by_count op) n))) (h, ends)) s (held V (shifted_word op a n)))

  pub takes_last : (t b : ℕ) (is_signed : Bool) {at w cx dx bx sp bp si di : ℕ} {overflow : Bool} {cells stack : ℕ → ℕ} {input : List ℕ} {told : Told} {p : Watched} → t + b ≤ 16 → w < 65536 → told.output ≡ output → HasPieces image value at (part_taken t b is_signed)
      → at + length (blanks (part_taken t b is_signed)) ≡ to → Is image at (view w cx dx bx sp bp si di overflow cells stack input told) p → Leads output (part_steps t b is_signed) p (Holds (λ a cx o. view a cx dx bx sp bp si di o cells stack input told) (part_word w t b is_signed))
  takes_last t b is_signed {at} {w} {cx} {dx} {bx} {sp} {bp} {si} {di} {cells = cells} {stack = stack} {input = input} {told = told} {p = p} room small wrote h ends s =
      let V : Views = λ a cx o. view a cx dx bx sp bp si di o cells stack input told in
      let none : part_steps t b is_signed + 0 ≡ part_steps t b is_signed = omega arith in
      subst (λ k. Leads output k p (Holds V (part_word w t b is_signed))) none
      (takes_part t b is_signed {Target = Holds V (part_word w t b is_signed)} [] room small wrote (subst (Code at) (sym (append-nil (part_taken t b is_signed))) (h, ends)) s (held V (part_word w t b is_signed)))

-- ---- bits of a word of the data area

-- The bits of a word in which AX differs are turned, of those that a mask has. Two instructions name the word, whatever AX holds.
pub turns : Rows → {image : Image} {p : Watched} {output : List ℕ} {at a cx dx bx sp bp si di : ℕ} {overflow : Bool} {cells stack : ℕ → ℕ} {input : List ℕ} {told : Told} (size k mask m : ℕ) (reads writes : Rm) → told.output ≡ output → cells k ≡ m
    → ((x : ℕ) → Denotes image.bytes (x ∷ cx ∷ dx ∷ bx ∷ sp ∷ bp ∷ si ∷ di ∷ []) reads (InData k)) → ((x : ℕ) → Denotes image.bytes (x ∷ cx ∷ dx ∷ bx ∷ sp ∷ bp ∷ si ∷ di ∷ []) writes (InData k))
    → length (bytes_of (i86.AluRm 6 true true 0 reads)) ≡ size → length (bytes_of (i86.AluRm 6 true false 0 writes)) ≡ size → 0 < size
    → Has image at (i86.AluRm 6 true true 0 reads) → Has image (at + size) (with_number 4 mask) → Has image (at + size + 3) (i86.AluRm 6 true false 0 writes)
    → Is image at (view a cx dx bx sp bp si di overflow cells stack input told) p
    → Leads output 3 p (Is image (at + size + 3 + size) (view (bit_and (bit_xor a m) mask) cx dx bx sp bp si di false (put_word cells k (bit_xor m (bit_and (bit_xor a m) mask))) stack input told))
turns rows {image} {p} {output} {at} {a} {cx} {dx} {bx} {sp} {bp} {si} {di} {overflow} {cells} {stack} {input} {told} size k mask m reads writes wrote there is_read is_written long long' some h1 h2 h3 s =
    let x = bit_xor a m in
    let y = bit_and x mask in
    let bytes : 0 < length (bytes_of (i86.AluRm 6 true true 0 reads)) = subst (λ n. 0 < n) (sym long) some in
    let bytes' : 0 < length (bytes_of (i86.AluRm 6 true false 0 writes)) = subst (λ n. 0 < n) (sym long') some in
    let V : ℕ → Bool → (ℕ → ℕ) → View = λ w o c. view w cx dx bx sp bp si di o c stack input told in
    let first : Is image (at + size) (V x false cells) (watched_step p) =
    subst (λ n. Is image (at + n) (V x false cells) (watched_step p)) long (act rows (Operate Xor 0 reads (InData k) m) bytes h1 (is_read a, there) s).is in
    more rows s wrote first (λ q u.
    more rows u wrote (act rows (OperateNumber And mask) (lit< tt) h2 tt u).is (λ r v.
    last rows v wrote
    (subst (λ n. Is image (at + size + 3 + n) (V y false (put_word cells k (bit_xor m y))) (watched_step r)) long' (act rows (OperateOnto Xor 0 writes (InData k) m) bytes' h3 (is_written y, tt, there) v).is)))
