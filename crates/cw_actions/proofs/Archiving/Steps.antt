-- Parts of `link`: objects that do not link, or whose image was written.
use Rattle.std.proofs.Common.{◌≡◌, ◌≢◌, ℕ, List, refl, sym, subst}
use Rattle.std.specs.Prelude.{codes}
use Rattle.cw_unit.specs.declared.layout.Limits.{Limits}
use Rattle.cw_link.specs.LinkFaults.{IsFirstLinkFault}
use Rattle.cw_link.specs.declared.fault.LinkFault.{LinkFault}
use Rattle.cw_link.specs.declared.fault.LinkFault.TheVariants.{NoMemory as NoMemoryToLink}
use Rattle.cw_build.specs.Linking.{AreLinked, IsFault}
use Rattle.cw_correct.specs.Results.{AreFew, all_contents, image_file}
use Rattle.cw_actions.specs.Resulting.Outside.{Files}
use Rattle.cw_actions.specs.Resulting.Written.{GivesFile}
use Rattle.cw_actions.specs.Resulting.Results.{unlinked_status}
use Rattle.cw_actions.proofs.Resulting.Cases.{gives_file}
use Rattle.cw_link_files.specs.Parts.{IsListOf}
use Rattle.cw_actions.specs.Archiving.Linking.{LinksObjects, LinksList, LinksTaken}
use Rattle.cw_actions.proofs.Archiving.Cases.{links_objects, links_list}
use Rattle.cw_say.specs.declared.status.Status.{Status}

module _ (objects : List (List ℕ)) (limits : Limits) where
  pub links_of : (files files' : Files) (s : Status) → AreLinked (all_contents objects) limits → GivesFile (codes "A.IMG") (image_file objects limits) files files' s → LinksObjects objects limits files files' s
  links_of files files' s links gives =
      gives_file (λ t. LinksObjects objects limits files files' t) (codes "A.IMG") (image_file objects limits) files files' (λ x. (links, x)) (λ x. (links, x)) (λ x. x) s gives

  as_fault : (fault : LinkFault) → fault ≢ NoMemoryToLink → IsFirstLinkFault (all_contents objects) limits fault → IsFault (all_contents objects) limits fault
  as_fault fault other x = record { first = x; is_fault = other }

  unlinked_links_as : (files : Files) (fault : LinkFault) → IsFirstLinkFault (all_contents objects) limits fault → LinksObjects objects limits files files (unlinked_status fault)
  unlinked_links_as files NoMemoryToLink x = λ name. refl
  unlinked_links_as files fault x = (as_fault fault (λ e. absurd (cc)) x, (λ other. refl))

  pub unlinked_links : (files : Files) (fault : LinkFault) (s : Status) → s ≡ unlinked_status fault → IsFirstLinkFault (all_contents objects) limits fault → LinksObjects objects limits files files s
  unlinked_links files fault s e x = subst (λ t. LinksObjects objects limits files files t) (sym e) (unlinked_links_as files fault x)

  -- a list that is not too long
  pub few_listed : (files files' : Files) (s : Status) → AreFew objects → LinksObjects objects limits files files' s → LinksList objects limits files files' s
  few_listed files files' s few links =
      links_objects (λ t. LinksList objects limits files files' t) objects limits files files' (λ fault x. (few, x)) (λ x. (few, x))
      (λ t linked gives. gives_file (λ u. LinksList objects limits files files' u) (codes "A.IMG") (image_file objects limits) files files' (λ x. (few, (linked, x))) (λ x. (few, (linked, x))) (λ x. (few, x)) t gives) s links

-- the list that files come to
pub taken_listed : (objects members list : List (List ℕ)) (limits : Limits) (files files' : Files) (s : Status) → IsListOf objects members list → LinksList list limits files files' s → LinksTaken objects members limits files files' s
taken_listed objects members list limits files files' s is links =
    links_list (λ t. LinksTaken objects members limits files files' t) list limits files files' (λ count x. (list, is, x))
    (λ t few linked. links_objects (λ u. LinksTaken objects members limits files files' u) list limits files files' (λ fault x. (list, is, (few, x))) (λ x. x)
    (λ u all gives. gives_file (λ v. LinksTaken objects members limits files files' v) (codes "A.IMG") (image_file list limits) files files' (λ x. (list, is, (few, (all, x)))) (λ x. (list, is, (few, (all, x)))) (λ x. x) u gives) t linked)
    s links
