use Rattle.std.proofs.Common.{◌≡◌, [], ◌∷◌, ◌++◌, Some, None, get_or, sym, subst, ◌∙◌}
use Rattle.std.proofs.lemmas.List.{get_or_default}
use Rattle.cw_link.specs.Presets.{FilledWord, IsPresetClash}
use Rattle.cw_link.proofs.Clashing.{tells_none, tells_same, tells_new, tells_kept, words_kept, words_new, none_there, first_there}
use Rattle.cw_link.proofs.filled.fill_word.Goals as goal
use Rattle.cw_link.proofs.filled.fill_word.Goals.{else-value-word-via-then-value-word+else-is_lowest, else-value-word-via-else-value-word}

pub returns-in-None-clause-filled : goal.returns-in-None-clause-filled
returns-in-None-clause-filled c = λ ps h.
    let p : FilledWord = record { segment = c.args.segment; address = c.args.address; word = c.args.word } in
    let words = c.args.filled.now.words.items in
    let read : get_or words c.args.address None ≡ None = get_or_default words c.args.address None c.index.result.now c.requires ∙ sym c.index.ensures ∙ c.in-None.is in
    record { words = words_new ps p words h.words c.requires read; clash = tells_none ps p c.args.filled.now.clash (none_there ps c.args.address words h.words c.requires read) h.clash }

pub returns-then-is_lowest-clause-filled : goal.returns-then-is_lowest-clause-filled
returns-then-is_lowest-clause-filled c = λ ps h.
    let p : FilledWord = record { segment = c.args.segment; address = c.args.address; word = c.args.word } in
    let words = c.args.filled.now.words.items in
    let read : get_or words c.args.address None ≡ Some (c.in-Some.first, c.in-Some.value) = get_or_default words c.args.address None c.index.result.now c.requires ∙ sym c.index.ensures ∙ c.in-Some.is in
    let f = first_there ps c.args.address c.in-Some.first c.in-Some.value words h.words c.requires read in
    record { words = words_kept ps p words (c.in-Some.first, c.in-Some.value) h.words c.requires read; clash = subst (λ g. IsPresetClash (ps ++ p ∷ []) c.args.address g c.args.segment) f.2 (tells_new ps p c.args.filled.now.clash f.0 f.1 (λ e. c.if-value-word.true (sym f.3 ∙ e)) (sym c.is_lowest.ensures ∙ c.if-is_lowest.true) h.clash) }

pub returns-else-value-word-clause-filled : goal.returns-else-value-word-clause-filled
returns-else-value-word-clause-filled c = λ ps h.
    let p : FilledWord = record { segment = c.args.segment; address = c.args.address; word = c.args.word } in
    let words = c.args.filled.now.words.items in
    let read : get_or words c.args.address None ≡ Some (c.in-Some.first, c.in-Some.value) = get_or_default words c.args.address None c.index.result.now c.requires ∙ sym c.index.ensures ∙ c.in-Some.is in
    let f = first_there ps c.args.address c.in-Some.first c.in-Some.value words h.words c.requires read in
    record {
      words = words_kept ps p words (c.in-Some.first, c.in-Some.value) h.words c.requires read;
      clash = elim c.else-value-word.branch [
        | else-value-word-via-then-value-word+else-is_lowest w ↦ tells_kept ps p c.args.filled.now.clash (sym w.is_lowest.ensures ∙ w.if-is_lowest.false) h.clash
        | else-value-word-via-else-value-word w ↦ tells_same ps p c.args.filled.now.clash f.0 f.1 (f.3 ∙ w.if-value-word.false) h.clash
      ];
    }
