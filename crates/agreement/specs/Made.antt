-- What is made of a day file and stored beside it.
use Rattle.std.specs.Prelude.{ℕ, List}
use Rattle.listing.specs.Listing.{listing}
use Rattle.listing.specs.Panel.{panel}
use Rattle.listing.specs.declared.sheets.Sheet.{Sheet}
use Rattle.listing.specs.declared.sheets.Sheet.TheVariants.{Listing, Panel}

unfoldable pub made : Sheet → List ℕ → List ℕ
made Listing file = listing file
made Panel file = panel file
