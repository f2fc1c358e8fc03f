use Rattle.std.proofs.Common.{◌≡◌, ◌++◌, drop}
use Rattle.cw_listing.specs.Listing.{lines_text}
use Rattle.cw_listing.proofs.listing.add_lines.Given as goal

abbrev pub invariant-loop-k : goal.invariant-loop-k
invariant-loop-k l =
    l.text.items ++ lines_text l.code l.begun.among l.referred.among l.notes_left l.words_left (drop l.k l.lines)
    ≡ l.fn.text.items ++ lines_text l.code l.begun.among l.referred.among l.notes l.words l.lines
