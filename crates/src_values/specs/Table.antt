-- How numbered objects are seen, and what their fields keep.
use Rattle.std.specs.Prelude.{◌≡◌, List, length}
use Rattle.object_meaning.specs.Objects.{Object}
use Rattle.src_values.specs.Pages.{in_pages, AreFilled}
use Rattle.src_values.specs.declared.table.Objects.TheInside.{Inside}

abbrev pub objects_in : Inside → List Object
objects_in o = in_pages 512 o.pages.items

pub record IsTable (o : Inside) : Type 0 where
  pub filled : AreFilled 512 o.pages.items
  pub count : o.count ≡ length (in_pages 512 o.pages.items)
