-- What a post shows is written in one digit each, and a line of the panel is at most so long.
use Prim.Native.Nat.{ℕ, ◌*◌, ◌<◌, ◌≤◌}
use mathlib.Core.Bool.{Bool, true, false, cond, ◌&&◌, ◌||◌}
use mathlib.Core.List.{List}
use mathlib.Core.Path.{◌≡◌, ap}
use native.Mathlib.Omega.{arith}
use lib.Dec.{eqb, ltb}
use lib.ListN.{length, get_or, length-append}
use Rattle.section.specs.declared.Answer.{Answer}
use Rattle.section.specs.declared.Indications.{Indications}
use Rattle.section.specs.declared.Section.{Section}
use Rattle.section.specs.Bytes.{byte}
use Rattle.section.specs.Numbers.{most_posts}
use Rattle.section.specs.Range.{in_range}
use Rattle.section.specs.Store.{track_of}
use Rattle.section.proofs.Laws.{posts_right, settings_in_range_lem}
use Rattle.rules.specs.Line.{line_in}
use Rattle.rules.specs.Site.{site_on}
use Rattle.rules.specs.Indications.{Lamps, lamps_at, circulation, troncon, shown, dark, indications_on, indications, track_indications}
use Rattle.indications.proofs.track.Laws.{at_its_place}
use Rattle.text.proofs.Laws.{decimal_length, first_texts_length, same_texts}
use Rattle.text.specs.Text.{first_texts}
use Rattle.lines.specs.PanelLine.{post_field, post_fields, panel_fields, panel_line, panel_line_room}

abbrev pub OneDigit : Indications → Type 0
OneDigit l = (l.circulation < 10) × ((l.troncon < 10) × (l.permission < 10))

either : (b : Bool) (x y : ℕ) → x < 10 → y < 10 → cond b x y < 10
either true x y p q = p
either false x y p q = q

shown_small : (l : Lamps) → OneDigit (shown l)
unfolding shown circulation troncon
shown_small l = (
  either l.fault3 _ _ (omega arith)
      (either (l.materialised && l.next_to_set) _ _ (either l.cvt _ _ (omega arith) (omega arith))
      (either l.cvt _ _ (omega arith) (omega arith))),
  (
    either l.commands _ _ (either (l.fault1 || l.occupied) _ _ (omega arith) (omega arith)) (omega arith),
    either l.permission _ _ (omega arith) (omega arith),
  ),
)

chosen : (b : Bool) (l : Lamps) → OneDigit (cond b (shown l) dark)
unfolding dark
chosen true l = shown_small l
chosen false l = (omega arith, (omega arith, omega arith))

pub one_digit : (s : Section) (track p : ℕ) → OneDigit (indications s track p)
unfolding indications indications_on
one_digit s track p =
    chosen (in_range s && (ltb track 2 && ltb p s.settings.posts))
    (lamps_at (line_in s) (site_on (eqb track 1) p (track_of s (eqb track 1))) (track_of s (eqb track 1)).trains)

-- at its place in the list of a track's posts too
pub one_digit_at : (s : Section) (track p : ℕ) → OneDigit (get_or (track_indications s track) p dark)
one_digit_at s track p = rw (at_its_place s track p) (one_digit s track p)

-- ## The fields, and six bytes each

abbrev pub field_at : List Indications → ℕ → List ℕ
field_at shown p = post_field (get_or shown p dark)

-- the fields by the list
pub fields_listed : (s : Section) (track : ℕ) → first_texts (field_at (track_indications s track)) s.settings.posts ≡ post_fields s track
unfolding post_fields
fields_listed s track = same_texts _ _ s.settings.posts (λ p h. ap post_field (at_its_place s track p))

pub field_short : (shown : List Indications) (p : ℕ) → length (field_at shown p) ≤ 6
unfolding post_field
field_short shown p = omega arith

pub post_fields_length : (s : Section) (track : ℕ) → length (post_fields s track) ≤ 6 * s.settings.posts
post_fields_length s track =
    rw (← fields_listed s track) (first_texts_length (field_at (track_indications s track)) 6 s.settings.posts (field_short (track_indications s track)))

-- a section in its ranges has at most sixteen posts
pub few_posts : (s : Section) → in_range s ≡ true → s.settings.posts ≤ most_posts
few_posts s h = (posts_right s.settings (settings_in_range_lem s h)).1

pub panel_line_length :
    (index : ℕ) (bytes : List ℕ) (answer : Answer) → answer.section.settings.posts ≤ most_posts
    → length (panel_line index bytes answer) ≤ panel_line_room
unfolding panel_line panel_fields
panel_line_length index bytes answer h =
    simp length-append (omega (arith, decimal_length index, post_fields_length answer.section (byte bytes 1)))
