-- The text of lines, step by step.
use Rattle.std.proofs.Common.{◌≡◌, ℕ, ◌+◌, ◌<◌, List, ◌∷◌, ◌++◌, length, take, drop, flat_map, get_or, sym, ap, ◌∙◌, append_assoc}
use Rattle.std.proofs.lemmas.List.{drop_more}
use Rattle.cw_listing.specs.declared.line.Line.{Line}
use Rattle.cw_listing.specs.declared.remark.Remark.{Remark}
use Rattle.cw_listing.specs.Listing.{remark_text, count_up_to, count_before, line_text, lines_text}
