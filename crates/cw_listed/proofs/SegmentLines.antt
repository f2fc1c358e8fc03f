-- The lines of segments, in code in which a word is known exactly at the places of words.
use Rattle.std.proofs.Common.{◌≡◌, ℕ, ◌+◌, List, [], ◌∷◌, ◌++◌, length, flat_map, sym}
use Rattle.std.proofs.Common.{ap, ◌∙◌, subst, arith, append_assoc, append-nil, length-append}
use Rattle.cw_order.specs.declared.order.Orders.{Orders}
use Rattle.cw_tmpl.specs.declared.pieces.Coded.{Coded}
use Rattle.cw_tmpl.specs.Pieces.{blanks, Filling, filled}
use Rattle.cw_tmpl.specs.ReferenceCode.{pieces_of}
use Rattle.cw_tmpl.proofs.Filling.{length-filled}
use Rattle.cw_tmpl.proofs.Growing.{blanks-append}
use Rattle.cw_listing.specs.Lines.{is_among, AreLinesBetween}
use Rattle.cw_listed.specs.PieceLines.{piece_lines}
use Rattle.cw_listed.specs.ProgramLines.{segments_filled, segments_lines, AreCoded}
use Rattle.cw_listed.specs.Behind.{Stands}
use Rattle.cw_listed.proofs.Lines.{KnowsWords, lines_from}
use Rattle.cw_listed.proofs.LibraryLines.{lines_then}

-- a piece among the first ones, with others before and behind
stands_between : (done ps rest : List Coded) (offset : ℕ) (p : Coded) → Stands ps offset p → Stands (done ++ (ps ++ rest)) (length (blanks done) + offset) p
stands_between done ps rest offset p st = record {
  before = done ++ st.before;
  behind = st.behind ++ rest;
  is = ap (λ l. done ++ (l ++ rest)) st.is ∙ ap (λ l. done ++ l) (append_assoc st.before (p ∷ st.behind) rest)
      ∙ sym (append_assoc done st.before (p ∷ (st.behind ++ rest)));
  offset_is = ap (λ n. length (blanks done) + n) st.offset_is ∙ sym (ap length (blanks-append done st.before) ∙ length-append (blanks done) (blanks st.before));
}

pub segments_shown : (code words before : List ℕ) (values : List Filling) (done : List Coded) (os : List Orders)
    (base at : ℕ) → at ≡ length before → at ≡ base + length (blanks done)
    → code ≡ before ++ segments_filled values at os → KnowsWords words base (done ++ flat_map pieces_of os) → AreCoded os → length values ≡ length os
    → AreLinesBetween code words at (segments_lines values at os) (length code)
segments_shown code words before [] done [] base at f b e knows coded same = f ∙ sym (ap length (e ∙ append-nil before))
segments_shown code words before (v ∷ vs) done [] base at f b e knows coded same = absurd (omega (arith, same))
segments_shown code words before [] done (o ∷ os) base at f b e knows coded same = absurd (omega (arith, same))
segments_shown code words before (v ∷ vs) done (o ∷ os) base at f b e knows coded same =
    let ps = pieces_of o in
    let rest = flat_map pieces_of os in
    let n = length (blanks ps) in
    let F = filled v at ps in
    let S = segments_filled vs (at + n) os in
    let long : length F ≡ n = length-filled v at ps in
    let next : code ≡ (before ++ F) ++ S = e ∙ sym (append_assoc before F S) in
    let own : KnowsWords words at ps = λ offset p st.
    ap (λ m. is_among words (m + offset)) b
    ∙ ap (is_among words) (let same : base + length (blanks done) + offset
    ≡ base + (length (blanks done) + offset) = omega arith in same)
    ∙ knows (length (blanks done) + offset) p (stands_between done ps rest offset p st) in
    lines_then code words at (at + n) (length code) (piece_lines v at ps) (segments_lines vs (at + n) os)
    (lines_from code words before S v [] ps at at f (omega arith) e own coded.0)
    (segments_shown code words (before ++ F) vs (done ++ ps) os base (at + n) (omega (arith, f, long, length-append before F))
    (omega (arith, b, ap length (blanks-append done ps), length-append (blanks done) (blanks ps))) next
    (subst (λ (l : List Coded). KnowsWords words base l) (sym (append_assoc done ps rest)) knows) coded.1 (omega (arith, same)))
