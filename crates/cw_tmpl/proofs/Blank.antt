-- The relocations' words in the object's code.
use Rattle.std.proofs.Common.{◌≡◌, ℕ, zero, suc, ◌+◌, ◌*◌, ◌-◌, ◌≤◌, List, [], ◌∷◌, ◌++◌, length, get_or, sym, ap, ◌∙◌, subst, arith, append_assoc, length-append, All}
use Rattle.std.proofs.Math.Seq.{get_or-append_seam}
use Rattle.std.proofs.lemmas.List.Elements.{All-append}
use Rattle.cw_unit.specs.declared.layout.Reloc.{Reloc}
use Rattle.cw_tmpl.specs.declared.pieces.Limit.TheVariants as limit
use Rattle.cw_tmpl.specs.declared.pieces.Target.{Target}
use Rattle.cw_tmpl.specs.declared.pieces.Target.TheVariants as target
use Rattle.cw_tmpl.specs.declared.pieces.Coded.{Coded}
use Rattle.cw_tmpl.specs.declared.pieces.Coded.TheVariants as coded
use Rattle.cw_tmpl.specs.Pieces.{bytes_with, size_of, target_of, blanks, relocation_of, relocation_before, relocations}
use Rattle.cw_tmpl.specs.Blanks.{FillsBlank, Rise}
use Rattle.cw_tmpl.proofs.Filling.{place_of}

abbrev HasSort : Reloc → Type 0
HasSort r = (1 ≤ r.sort) × (r.sort ≤ 9) × (r.sort ≡ 8 → r.index ≤ 3)

has_sort : (n : ℕ) (t : Target) → HasSort (relocation_of n t)
has_sort n (target.Word family offset) = (omega arith, omega arith, λ e. absurd (omega arith))
has_sort n (target.Bytes family offset) = (omega arith, omega arith, λ e. absurd (omega arith))
has_sort n (target.Place add) = (omega arith, omega arith, λ e. absurd (omega arith))
has_sort n (target.Definition d) = (omega arith, omega arith, λ e. absurd (omega arith))
has_sort n (target.DefinitionAhead d) = (omega arith, omega arith, λ e. absurd (omega arith))
has_sort n (target.Library k) = (omega arith, omega arith, λ e. absurd (omega arith))
has_sort n (target.LibraryAhead k) = (omega arith, omega arith, λ e. absurd (omega arith))
has_sort n (target.Limit limit.DataWords) = (omega arith, omega arith, λ e. omega arith)
has_sort n (target.Limit limit.FrameWords) = (omega arith, omega arith, λ e. omega arith)
has_sort n (target.Limit limit.Calls) = (omega arith, omega arith, λ e. omega arith)
has_sort n (target.Limit limit.Segment) = (omega arith, omega arith, λ e. omega arith)
has_sort n target.NextSegment = (omega arith, omega arith, λ e. absurd (omega arith))

blank_at : (front rest : List ℕ) (n : ℕ) (t : Target) → n ≡ length front → FillsBlank (front ++ 0 ∷ 0 ∷ rest) (relocation_of n t)
blank_at front rest n t e =
    let code = front ++ 0 ∷ 0 ∷ rest in
    let place : (relocation_of n t).place ≡ length front = place_of n t ∙ e in
    let longer : length front + 1 ≡ length (front ++ 0 ∷ []) = sym (length-append front (0 ∷ [])) in
    let sort = has_sort n t in
    record {
      inside = omega (arith, length-append front (0 ∷ 0 ∷ rest));
      low = ap (λ k. get_or code k 0) place ∙ get_or-append_seam front 0 (0 ∷ rest) 0;
      high =
          ap (λ k. get_or code (k + 1) 0) place ∙ ap (λ k. get_or code k 0) longer
          ∙ ap (λ l. get_or l (length (front ++ 0 ∷ [])) 0) (sym (append_assoc front (0 ∷ []) (0 ∷ rest)))
          ∙ get_or-append_seam (front ++ 0 ∷ []) 0 rest 0;
      first_sort = sort.0;
      last_sort = sort.1;
      limits = sort.2;
    }

none : (code : List ℕ) → All (FillsBlank code) []
none code k d lt = absurd (omega arith)

one : (code : List ℕ) (r : Reloc) → FillsBlank code r → All (FillsBlank code) (r ∷ [])
one code r blank zero d lt = blank
one code r blank (suc k) d lt = absurd (omega arith)

word_blank : (pre lead rest : List ℕ) (t : Target) → All (FillsBlank (pre ++ (lead ++ 0 ∷ 0 ∷ rest))) (relocation_of (length pre + (length lead + 2) - 2) t ∷ [])
word_blank pre lead rest t =
    let n = length pre + (length lead + 2) - 2 in
    let place : n ≡ length (pre ++ lead) = omega (arith, length-append pre lead) in
    one _ _ (subst (λ (l : List ℕ). FillsBlank l (relocation_of n t)) (append_assoc pre lead (0 ∷ 0 ∷ rest)) (blank_at (pre ++ lead) rest n t place))

piece_blank : (pre rest : List ℕ) (p : Coded) → All (FillsBlank (pre ++ (bytes_with 0 p ++ rest))) (relocation_before (length pre + size_of p) (target_of p))
piece_blank pre rest (coded.Whole i) = none _
piece_blank pre rest (coded.Move reg t) = word_blank pre ((0xB8 + reg) ∷ []) rest t
piece_blank pre rest (coded.Sum reg t) = word_blank pre (0x81 ∷ (64 * 3 + 8 * 0 + reg) ∷ []) rest t
piece_blank pre rest (coded.Fetch reg t) = word_blank pre (0x8B ∷ (64 * 0 + 8 * reg + 6) ∷ []) rest t
piece_blank pre rest (coded.Load t) = word_blank pre (0xA1 ∷ []) rest t
piece_blank pre rest (coded.Store t) = word_blank pre (0xA3 ∷ []) rest t
piece_blank pre rest (coded.PushCode t) = word_blank pre (0x2E ∷ 0xFF ∷ 0x36 ∷ []) rest t
piece_blank pre rest (coded.Operate op reg t) = word_blank pre ((8 * op + 2 * 1 + 1) ∷ (64 * 0 + 8 * reg + 6) ∷ []) rest t
piece_blank pre rest (coded.Change op reg t) = word_blank pre ((8 * op + 2 * 0 + 1) ∷ (64 * 0 + 8 * reg + 6) ∷ []) rest t
piece_blank pre rest (coded.Call t) = word_blank pre (0xE8 ∷ []) rest t
piece_blank pre rest (coded.Jump t) = word_blank pre (0xE9 ∷ []) rest t
piece_blank pre rest (coded.Word t) = word_blank pre [] rest t
piece_blank pre rest (coded.Data n) = none _
piece_blank pre rest (coded.Way t) = word_blank pre (0x2E ∷ 0xFF ∷ 0xA7 ∷ []) rest t

pub all_blank : (pre : List ℕ) (ps : List Coded) → All (FillsBlank (pre ++ blanks ps)) (relocations (length pre) ps)
all_blank pre [] = none _
all_blank pre (p ∷ ps) =
    let B = bytes_with 0 p in
    let end = length pre + size_of p in
    let further : All (FillsBlank (pre ++ (B ++ blanks ps))) (relocations end ps) =
    subst (λ (n : ℕ). All (FillsBlank (pre ++ (B ++ blanks ps))) (relocations n ps)) (length-append pre B)
    (subst (λ (l : List ℕ). All (FillsBlank l) (relocations (length (pre ++ B)) ps)) (append_assoc pre B (blanks ps)) (all_blank (pre ++ B) ps)) in
    All-append (FillsBlank (pre ++ (B ++ blanks ps))) (relocation_before end (target_of p)) (relocations end ps) (piece_blank pre (blanks ps) p) further

word_rises : (from end : ℕ) (t : Target) (rs : List Reloc) → from + 2 ≤ end → Rise end rs → Rise from (relocation_of (end - 2) t ∷ rs)
word_rises from end t rs le rise =
    let place = place_of (end - 2) t in
    let next : end ≡ (relocation_of (end - 2) t).place + 2 = omega arith in
    (omega arith, subst (λ (n : ℕ). Rise n rs) next rise)

pub all_rise : (from at : ℕ) (ps : List Coded) → from ≤ at → Rise from (relocations at ps)
all_rise from at [] le = tt
all_rise from at (coded.Whole i ∷ ps) le = all_rise from _ ps (omega arith)
all_rise from at (coded.Move reg t ∷ ps) le = word_rises from (at + 3) t _ (omega arith) (all_rise (at + 3) (at + 3) ps (omega arith))
all_rise from at (coded.Load t ∷ ps) le = word_rises from (at + 3) t _ (omega arith) (all_rise (at + 3) (at + 3) ps (omega arith))
all_rise from at (coded.Store t ∷ ps) le = word_rises from (at + 3) t _ (omega arith) (all_rise (at + 3) (at + 3) ps (omega arith))
all_rise from at (coded.PushCode t ∷ ps) le = word_rises from (at + 5) t _ (omega arith) (all_rise (at + 5) (at + 5) ps (omega arith))
all_rise from at (coded.Operate op reg t ∷ ps) le = word_rises from (at + 4) t _ (omega arith) (all_rise (at + 4) (at + 4) ps (omega arith))
all_rise from at (coded.Change op reg t ∷ ps) le = word_rises from (at + 4) t _ (omega arith) (all_rise (at + 4) (at + 4) ps (omega arith))
all_rise from at (coded.Sum reg t ∷ ps) le = word_rises from (at + 4) t _ (omega arith) (all_rise (at + 4) (at + 4) ps (omega arith))
all_rise from at (coded.Fetch reg t ∷ ps) le = word_rises from (at + 4) t _ (omega arith) (all_rise (at + 4) (at + 4) ps (omega arith))
all_rise from at (coded.Call t ∷ ps) le = word_rises from (at + 3) t _ (omega arith) (all_rise (at + 3) (at + 3) ps (omega arith))
all_rise from at (coded.Jump t ∷ ps) le = word_rises from (at + 3) t _ (omega arith) (all_rise (at + 3) (at + 3) ps (omega arith))
all_rise from at (coded.Word t ∷ ps) le = word_rises from (at + 2) t _ (omega arith) (all_rise (at + 2) (at + 2) ps (omega arith))
all_rise from at (coded.Data n ∷ ps) le = all_rise from _ ps (omega arith)
all_rise from at (coded.Way t ∷ ps) le = word_rises from (at + 5) t _ (omega arith) (all_rise (at + 5) (at + 5) ps (omega arith))
