-- The views so far are opened, and tell what the objects so far tell.
use Rattle.std.proofs.Common.{◌≡◌, ◌++◌, map, drop, All}
use Rattle.cw_link.specs.Contents.{contents_of}
use Rattle.cw_link.specs.Views.{IsOpened}
use Rattle.cw_object.specs.ObjectContents.{contents_in}
use Rattle.cw_object.proofs.linking.views_of.Given as goal

abbrev pub invariant-loop-object : goal.invariant-loop-object
invariant-loop-object l = record {
  opened : All IsOpened l.views;
  contents : map contents_of l.views ++ map contents_in (drop l.object-index l.objects) ≡ map contents_in l.objects;
}
