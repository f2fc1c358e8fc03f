-- The image of objects is in the format.
use Rattle.std.proofs.Common.{◌≡◌, ℕ, zero, suc, ◌+◌, ◌≤◌, Bool, true, false, cond, not, eqb, nat_eq, List, [], ◌∷◌, ◌++◌, length, map, All, Option, Some, None, refl, sym, ap, subst, ◌∙◌, slice_index_or, arith, lit≤}
use Rattle.std.specs.List.{AllByRecursion}
use Rattle.std.proofs.lemmas.List.{length-map}
use Rattle.cw_word.specs.Name.{IsName}
use Rattle.cw_unit.specs.declared.layout.Limits.{Limits}
use Rattle.cw_unit.specs.declared.layout.Preset.{Preset}
use Rattle.cw_tmpl.specs.Library.{library_bytes}
use Rattle.cw_fields.specs.Fields.{Reader, whole, text_bytes, IsWord}
use Rattle.cw_view.specs.Payloads.{preset_bytes, FitsPreset}
use Rattle.cw_fields.specs.Names.{name_in}
use Rattle.cw_view.specs.Reading.{preset_in}
use Rattle.cw_view.specs.ObjectFormat.{Record, PresetWord, FitsRecord, IsFront, IsObject, payloads, payload_if}
use Rattle.cw_fields.proofs.Spelled.{reads_name}
use Rattle.cw_view.proofs.Forms.{reads_preset}
use Rattle.cw_view.proofs.Whole.{begins}
use Rattle.cw_image.specs.ImageFormat.{ends_nonzero}
use Rattle.cw_link.specs.Contents.{Contents, kept, values_in}
use Rattle.cw_link.specs.Presets.{FilledWord, stands_at, first_at}
use Rattle.cw_link.specs.LinkedImage.{filled_word, presets_from, linked_map, linked_presets, word_or_zero, words_from, unless_last_zero, without_last_zeros, code_end, linked_size, linked_code}
use Rattle.cw_object.specs.ObjectContents.{payloads_of, first_text, contents_in}
use Rattle.cw_object.specs.ObjectImages.{LinksToImages}
use Rattle.cw_object.proofs.Telling.{one-back, in-object}

-- ---- what an object tells fits

name-of : (bytes : List ℕ) → IsObject bytes → IsName (first_text (values_in name_in (payloads_of 1 bytes)))
name-of bytes o =
    let b = begins o.0 o.1 o.2.front (λ e. absurd (omega (arith, e, o.2.ended))) in
    let name : first_text (values_in name_in (payloads_of 1 bytes)) ≡ b.name = ap (λ ps. first_text (values_in name_in ps)) (in-object bytes o.0 o.1 o.2 1 ∙ b.only) ∙ ap first_text (one-back text_bytes IsName name_in reads_name b.name b.is_name) in
    subst IsName (sym name) b.is_name

kept-fits : {A : Type 0} (F : A → Type 0) (o : Option A) (xs ys : List A) → AllByRecursion F (kept o xs) → (AllByRecursion F xs → AllByRecursion F ys) → AllByRecursion F (kept o ys)
kept-fits F None xs ys h k = k h
kept-fits F (Some x) xs ys h k = (h.0, k h.1)

values-fit : {A : Type 0} (F : A → Type 0) (r : Reader A) (ps qs : List (List ℕ)) → AllByRecursion F (values_in r ps) → AllByRecursion F (values_in r qs) → AllByRecursion F (values_in r (ps ++ qs))
values-fit F r [] qs h k = k
values-fit F r (p ∷ ps) qs h k = kept-fits F (whole r p) (values_in r ps) (values_in r (ps ++ qs)) h (λ g. values-fit F r ps qs g k)

preset-read : (r : Record) → FitsRecord r → AllByRecursion FitsPreset (values_in preset_in (payload_if 5 r))
preset-read (PresetWord x) f = subst (AllByRecursion FitsPreset) (sym (one-back preset_bytes FitsPreset preset_in reads_preset x f)) (f, tt)
preset-read _ f = tt

presets-fit : (v : ℕ) (rs : List Record) → IsFront v rs → AllByRecursion FitsPreset (values_in preset_in (payloads 5 rs))
presets-fit v [] f = tt
presets-fit v (r ∷ before) f = values-fit FitsPreset preset_in (payloads 5 before) (payload_if 5 r) (presets-fit v before f.0) (preset-read r f.1.fits)

abbrev FitContents : Contents → Type 0
FitContents c = IsName c.name × AllByRecursion FitsPreset c.presets

object-fits : (bytes : List ℕ) → IsObject bytes → FitContents (contents_in bytes)
object-fits bytes o = (name-of bytes o, subst (λ ps. AllByRecursion FitsPreset (values_in preset_in ps)) (sym (in-object bytes o.0 o.1 o.2 5)) (presets-fit o.0 o.1 o.2.front))

objects-fit : (objects : List (List ℕ)) → All IsObject objects → AllByRecursion FitContents (map contents_in objects)
objects-fit [] h = tt
objects-fit (x ∷ xs) h = (object-fits x (h zero x (omega arith)), objects-fit xs (λ k d lt. h (suc k) d (omega (arith, lt))))

names-fit : (cs : List Contents) → AllByRecursion FitContents cs → AllByRecursion IsName (map (λ c. c.name) cs)
names-fit [] h = tt
names-fit (c ∷ cs) h = (h.0.0, names-fit cs h.1)

-- ---- the words of the data area

abbrev HasWord : FilledWord → Type 0
HasWord p = IsWord p.word

all-append : {A : Type 0} (F : A → Type 0) (xs ys : List A) → AllByRecursion F xs → AllByRecursion F ys → AllByRecursion F (xs ++ ys)
all-append F [] ys h k = k
all-append F (x ∷ xs) ys h k = (h.0, all-append F xs ys h.1 k)

filled-fit : (segment : ℕ) (homes : List ℕ) (ps : List Preset) → AllByRecursion FitsPreset ps → AllByRecursion HasWord (map (filled_word segment homes) ps)
filled-fit segment homes [] h = tt
filled-fit segment homes (p ∷ ps) h = (h.0.word, filled-fit segment homes ps h.1)

all-filled : (g : ℕ) (homes : List (List ℕ)) (cs : List Contents) → AllByRecursion FitContents cs → AllByRecursion HasWord (presets_from g homes cs)
all-filled g homes [] h = tt
all-filled g homes (c ∷ cs) h =
    let own : List ℕ = slice_index_or homes g [] in
    all-append HasWord (map (filled_word (g + 1) own) c.presets) (presets_from (g + 1) homes cs) (filled-fit (g + 1) own c.presets h.0.1) (all-filled (g + 1) homes cs h.1)

chosen : (b : Bool) (p : FilledWord) (o : Option FilledWord) → HasWord p → IsWord (word_or_zero o) → IsWord (word_or_zero (cond b (Some p) o))
chosen true p o h k = h
chosen false p o h k = k

first-fits : (a : ℕ) (ps : List FilledWord) → AllByRecursion HasWord ps → IsWord (word_or_zero (first_at a ps))
first-fits a [] h = omega arith
first-fits a (p ∷ ps) h = chosen (stands_at a p) p (first_at a ps) h.0 (first-fits a ps h.1)

words-fit : (a n : ℕ) (ps : List FilledWord) → AllByRecursion HasWord ps → AllByRecursion IsWord (words_from a n ps)
words-fit a zero ps h = tt
words-fit a (suc n) ps h = (first-fits a ps h, words-fit (a + 1) n ps h)

words-length : (a n : ℕ) (ps : List FilledWord) → length (words_from a n ps) ≡ n
words-length a zero ps = refl
words-length a (suc n) ps = ap suc (words-length (a + 1) n ps)

-- ---- up to the last that is not 0

one-fits : (b : Bool) (w : ℕ) → IsWord w → AllByRecursion IsWord (cond b [] (w ∷ []))
one-fits true w h = tt
one-fits false w h = (h, tt)

unless-fits : (w : ℕ) (vs : List ℕ) → IsWord w → AllByRecursion IsWord vs → AllByRecursion IsWord (unless_last_zero w vs)
unless-fits w [] h k = one-fits (nat_eq w 0) w h
unless-fits w (v ∷ vs) h k = (h, k)

zeros-fit : (ws : List ℕ) → AllByRecursion IsWord ws → AllByRecursion IsWord (without_last_zeros ws)
zeros-fit [] h = tt
zeros-fit (w ∷ ws) h = unless-fits w (without_last_zeros ws) h.0 (zeros-fit ws h.1)

abbrev IsShort : (n : ℕ) → List ℕ → Type 0
IsShort n ws = length ws ≤ n

one-short : (b : Bool) (w n : ℕ) → IsShort (suc n) (cond b [] (w ∷ []))
one-short true w n = omega arith
one-short false w n = omega arith

unless-short : (w : ℕ) (vs : List ℕ) (n : ℕ) → length vs ≤ n → IsShort (suc n) (unless_last_zero w vs)
unless-short w [] n h = one-short (nat_eq w 0) w n
unless-short w (v ∷ vs) n h = omega (arith, h)

zeros-short : (ws : List ℕ) → length (without_last_zeros ws) ≤ length ws
zeros-short [] = omega arith
zeros-short (w ∷ ws) = unless-short w (without_last_zeros ws) (length ws) (zeros-short ws)

one-ends : (w : ℕ) (b : Bool) → eqb w 0 ≡ b → ends_nonzero (cond b [] (w ∷ [])) ≡ true
one-ends w true e = refl
one-ends w false e = ap not e

unless-ends : (w : ℕ) (vs : List ℕ) → ends_nonzero vs ≡ true → ends_nonzero (unless_last_zero w vs) ≡ true
unless-ends w [] h = one-ends w (eqb w 0) refl
unless-ends w (v ∷ vs) h = h

zeros-end : (ws : List ℕ) → ends_nonzero (without_last_zeros ws) ≡ true
zeros-end [] = refl
zeros-end (w ∷ ws) = unless-ends w (without_last_zeros ws) (zeros-end ws)

-- ---- the code

some-library : 1 ≤ length library_bytes
some-library = let size : 438 ≡ length library_bytes = refl in subst (λ n. 1 ≤ n) size (lit≤ tt)

goes-on : (start : ℕ) (cs : List Contents) → start ≤ code_end start cs
goes-on start [] = omega arith
goes-on start (c ∷ cs) = let more = goes-on (start + length c.code) cs in omega (arith, more)

pub images : ((cs : List Contents) (limits : Limits) → length (linked_code cs limits) ≡ linked_size cs) → LinksToImages
images size objects limits opened some few bounds short =
    let cs : List Contents = map contents_in objects in
    let ps : List FilledWord = linked_presets cs in
    let ws : List ℕ = words_from 0 limits.area ps in
    let fit = objects-fit objects opened in
    let count : length (map (λ (c : Contents). c.name) cs) ≡ length objects = length-map cs (λ (c : Contents). c.name) ∙ length-map objects contents_in in
    let long = size cs limits in
    let end = goes-on (length library_bytes) cs in
    record {
      some_area = bounds.some_area;
      area = bounds.within.1;
      frames = bounds.within.0;
      some_depth = bounds.some_depth;
      depth = bounds.depth;
      some_names = omega (arith, count, some);
      few_names = omega (arith, count, few);
      names = names-fit cs fit;
      few_words = omega (arith, zeros-short ws, words-length 0 limits.area ps);
      words = zeros-fit ws (words-fit 0 limits.area ps (all-filled 0 (linked_map cs).homes cs fit));
      last = zeros-end ws;
      some_code = omega (arith, long, end, some-library);
      code = omega (arith, long, short);
    }
