-- What is made of a file is what is printed of it, so it fits the room for the longest panel.
use Prim.Native.Nat.{ℕ, ◌≤◌}
use mathlib.Core.Path.{◌≡◌, refl, ◌∙◌}
use mathlib.Core.List.{List}
use native.Mathlib.Omega.{arith}
use lib.ListN.{length}
use Rattle.std.specs.Prelude.{Ok}
use Rattle.section.specs.Refusal.{Outcome}
use Rattle.text.specs.Copied.{copied}
use Rattle.text.proofs.CopiedOut.{copied_whole}
use Rattle.layout.specs.Layout.{most_steps}
use Rattle.listing.specs.Listing.{listing}
use Rattle.listing.specs.Panel.{panel}
use Rattle.listing.specs.declared.sheets.Sheet.{Sheet}
use Rattle.listing.specs.declared.sheets.Sheet.TheVariants.{Listing, Panel}
use Rattle.listing.specs.Printed.{printed}
use Rattle.listing.specs.Sheet.{line_on, room}
use Rattle.listing.proofs.sheets.Laws.{most_room, printed_fits}
use Rattle.agreement.specs.Made.{made}

pub made_printed : (sheet : Sheet) (file : List ℕ) → made sheet file ≡ printed (line_on sheet) file
unfolding made listing panel line_on
made_printed Listing file = refl
made_printed Panel file = refl

pub fits_the_panels_room : (sheet : Sheet) (file : List ℕ) → length (printed (line_on sheet) file) ≤ room Panel most_steps
fits_the_panels_room sheet file = omega (arith, printed_fits sheet file, most_room sheet)

-- a text that fits is copied
pub never_refused : (t b : List ℕ) (r : Outcome) → r ≡ copied t b → length t ≤ length b → ((k : ℕ) → r ≡ Ok k → ⊥) → ⊥
never_refused t b r e fits left = left (length t) (e ∙ copied_whole t b fits)
