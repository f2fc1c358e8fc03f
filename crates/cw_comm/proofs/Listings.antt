-- Descriptors that tell the same.
use Rattle.std.proofs.Common.{◌≡◌, List, ap}
use Rattle.cw_unit.specs.declared.descriptor.Desc.{Desc}
use Rattle.cw_comm.specs.Agreement.{base_of, Listing, as_listed}

pub listing_path : (ds es : List Desc) (d e : Desc) → d.library ≡ e.library → base_of ds d.over ≡ base_of es e.over → d.body ≡ e.body → as_listed ds d ≡ as_listed es e
listing_path ds es d e p q r = λ i. record { library = p i; base = q i; body = r i }

pub listing_parts : (ds es : List Desc) (d e : Desc) → as_listed ds d ≡ as_listed es e → (d.library ≡ e.library) × (base_of ds d.over ≡ base_of es e.over) × (d.body ≡ e.body)
listing_parts ds es d e h = (ap (λ (l : Listing). l.library) h, ap (λ (l : Listing). l.base) h, ap (λ (l : Listing). l.body) h)

pub ruleset same_listings = (listing_path, listing_parts)

pub ruleset same_bases = (listing_path)
