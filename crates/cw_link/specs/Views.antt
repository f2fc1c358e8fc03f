-- What the code's values stand for.
use Rattle.std.specs.Prelude.{ℕ, List, Ok}
use Rattle.cw_view.specs.declared.view.View.{View}
use Rattle.cw_view.specs.Fronts.{AnswersOpen}
use Rattle.cw_link.specs.declared.relocation.Links.{Links as LinksRead}
use Rattle.cw_link.specs.Relocation.{Links}

abbrev pub links_of : LinksRead → Links
links_of l = record { homes = l.homes.now; definitions = l.definitions.now; start = l.start; number = l.number; next = l.next }

-- it is what opening some bytes answered
abbrev pub IsOpened : View → Type 0
IsOpened view = (object : List ℕ) × AnswersOpen object (Ok view)
