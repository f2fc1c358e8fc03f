-- The canonical text of a tree in normal form has its canonical tokens.
use Rattle.std.proofs.Common.{◌≡◌, ℕ, zero, suc, false, List, [], ◌∷◌, map, refl, ap, subst, ◌∙◌, arith, append-nil}
use Rattle.std.specs.Prelude.{All}
use Rattle.cw_tree.specs.declared.segment.Raw.{Raw}
use Rattle.cw_grammar.specs.Tokens.{Item, numbered}
use Rattle.cw_grammar.specs.Grammar.{a_raw}
use Rattle.cw_derived.specs.NormalForm.{IsNormal}
use Rattle.cw_show.specs.Canonical.{Tokens}
use Rattle.cw_show.specs.StatementTokens.{canonical_tokens}
use Rattle.cw_show.specs.Lexing.{IsSpelled, NoComment}
use Rattle.cw_show.proofs.Separated.{text_lexes}
use Rattle.cw_read_back.proofs.Plain.Expands.{text_expands}
use Rattle.cw_read_back.specs.Expressions.ReadingBack.{spell}
use Rattle.cw_read_back.specs.Expressions.Leaves.{HasSpelledLeaves}
use Rattle.cw_read_back.proofs.Expressions.Reading.{Shown}
use Rattle.cw_read_back.specs.Trees.ReadBack.{IsReadBack}
use Rattle.cw_read_back.proofs.Trees.Back.{back, numbered_spelled}
use Rattle.cw_read_back.proofs.Trees.Comments.{no_comment}

all_spelled : (a : Tokens) → Shown a → HasSpelledLeaves a → All IsSpelled a
all_spelled [] h l k z i = absurd (omega (arith, i))
all_spelled (t ∷ a) h l zero z i = h.0 (l 0 z i)
all_spelled (t ∷ a) h l (suc k) z i = all_spelled a h.1 (λ j y q. l (suc j) y (omega (arith, q))) k z (omega (arith, i))

-- tokens with these spellings
abbrev items_of : Tokens → List Item
items_of a = map (λ t. record { kind = t.kind; line = 0; number = 0; text = t.text }) a

items_spelled : (a : Tokens) → map spell (items_of a) ≡ a
items_spelled [] = refl
items_spelled (t ∷ a) = ap (λ u. t ∷ u) (items_spelled a)

pub read_again : {n : ℕ} {x : Raw} {marks : List ℕ} → IsNormal n false a_raw x marks → HasSpelledLeaves (canonical_tokens x) → IsReadBack n x
read_again {n = n} {x = x} h l =
    let a : Tokens = canonical_tokens x in
    let first = (back h).read (items_of a) (items_spelled a) in
    let quiet : NoComment false a = subst (NoComment false) (items_spelled a) (no_comment first.derives (append-nil (items_of a))) in
    let lexed = text_lexes a (all_spelled a (back h).shown l) false quiet [] in
    let r = (back h).read (numbered 1 lexed.0) (numbered_spelled lexed.0 1 ∙ lexed.2) in
    record { tokens = lexed.0; tokenizes = lexed.1; spelled = lexed.2; tree = r.value; expands = λ k. text_expands lexed.0 k r.derives; derives = r.derives; same = r.holds }
