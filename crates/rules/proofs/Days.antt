-- Days: steps offered one after another to a section, judged by the definitions of `rules`, by computation. Every definition on the way from
-- bytes to the answer is unfolded here once.
use Prim.Native.Nat.{ℕ, zero, suc, ◌-◌}
use mathlib.Core.Bool.{Bool, true, false, cond}
use mathlib.Core.List.{List, [], ◌∷◌, ◌++◌, map}
use mathlib.Core.Option.{Option, none, some}
use lib.ListN.{length, replicate}
use Rattle.std.specs.Prelude.{Ok, Err}
use Rattle.section.specs.declared.Settings.{Settings}
use Rattle.section.specs.declared.Post.{Post}
use Rattle.section.specs.declared.Walk.{Walk}
use Rattle.section.specs.declared.Track.{Track}
use Rattle.section.specs.declared.Section.{Section}
use Rattle.section.specs.declared.Step.{Step}
use Rattle.section.specs.declared.Step.TheVariants.{Order, Set, Announce, Acknowledge, MeasuresOn}
use Rattle.section.specs.declared.TrackStep.{TrackStep}
use Rattle.section.specs.Refusal.{Verdict}
use Rattle.section.specs.Bytes.{le16, within, truth_number}
use Rattle.section.specs.Crossings.{no_crossings, crossings_in_range}
use Rattle.section.specs.Fresh.{fresh_track, fresh_section}
use Rattle.section.specs.Geometry.{upward, rank, block, is_first, is_last}
use Rattle.section.specs.Numbers.{most_blocks, most_crossings, unused}
use Rattle.section.specs.Post.{sealed}
use Rattle.section.specs.Range.{post_in_range, posts_in_range, numbers_in_range, act_in_range, walk_in_range, track_in_range, in_range}
use Rattle.section.specs.Settings.{is_signalled, none_from, settings_in_range}
use Rattle.section.specs.Step.{fault_well_formed, number_well_formed, track_well_formed, place_well_formed, fields_well_formed, well_formed, fault_of, step_of}
use Rattle.section.specs.Step.{step_said, decoded, kind_of, post_of, fault_number, number_of, bytes_of, encoded}
use Rattle.section.specs.Store.{track_of, with_track, post_on, with_post}
use Rattle.section.specs.Refusal.{figure, refusal_by}
use Rattle.section.specs.Words.{refusal_of}
use Rattle.rules.specs.Line.{is_materialised, is_open}
use Rattle.rules.specs.Site.{reach, first_from, any_of, open_at, next_post, stretch_ends, lies_ahead, crossing_ahead, zones_lack_ahead, part_ends, commands}
use Rattle.rules.specs.Site.{watched_occupied, train_before, last_entered, occupancy_at}
use Rattle.rules.specs.Table.{checks, effect, cells_after, track_after}
use Rattle.rules.specs.Judge.{verdict_of, answer_of, verdict_on, track_after_on, section_after, judge_step, judge_decoded, judge_in_range, judge}

-- ## Tracks, directions, lines

abbrev pub A : Bool
A = false

abbrev pub B : Bool
B = true

abbrev pub VNS : Bool
VNS = false

abbrev pub CVT : Bool
CVT = true

-- n posts, with that mask; line 1, no level crossing
abbrev pub telephone : ℕ → ℕ → Settings
telephone n mask = record { posts = n; form = 0; mask = mask; line = 1; crossings = no_crossings }

abbrev pub materialised : ℕ → ℕ → Settings
materialised n mask = record { posts = n; form = 1; mask = mask; line = 1; crossings = no_crossings }

-- a line with these bytes of level crossings, the others unused
abbrev pub with_crossings : List ℕ → Settings → Settings
with_crossings bytes c = record {
  posts = c.posts;
  form = c.form;
  mask = c.mask;
  line = c.line;
  crossings = bytes ++ replicate (most_crossings - length bytes) unused;
}

unfoldable pub fresh : Settings → Section
unfolding fresh_section fresh_track
fresh c = fresh_section c

-- ## States that no short day reaches: "A state inside the ranges is judged by the table of steps, reachable or not."

-- a section of which one track, or the record of one post, is changed
abbrev pub changed_track : Bool → (Track → Track) → Section → Section
changed_track track change s = with_track s track (change (track_of s track))

abbrev pub changed_post : Bool → ℕ → (Post → Post) → Section → Section
changed_post track p change s = changed_track track (λ (t : Track). with_post t p (change (post_on t p))) s

-- a track with that running direction and walk
abbrev pub running : Bool → Walk → Track → Track
running cvt walk t = record { posts = t.posts; trains = t.trains; last = t.last; cvt = cvt; walk = walk }

-- the cells of block sections 0, 1 and so on; 0 in all the others
abbrev pub cells : List ℕ → List ℕ
cells numbers = numbers ++ replicate (most_blocks - length numbers) 0

-- a track with these trains, or these last trains, in its block sections
abbrev pub holding : List ℕ → Track → Track
holding trains t = record { posts = t.posts; trains = cells trains; last = t.last; cvt = t.cvt; walk = t.walk }

abbrev pub holding_last : List ℕ → Track → Track
holding_last numbers t = record { posts = t.posts; trains = t.trains; last = cells numbers; cvt = t.cvt; walk = t.walk }

unfoldable pub sealed_times : ℕ → Post → Post
sealed_times zero o = o
sealed_times (suc count) o = sealed (sealed_times count o)

-- a section in which a post has that many seals more
unfoldable pub sealed_at : Bool → ℕ → ℕ → Section → Section
unfolding sealed_times
sealed_at track p count s = changed_post track p (sealed_times count) s

-- ## Steps

abbrev pub step_on : Bool → Step → TrackStep
step_on track x = record { track = track; step = x }

-- steps on one track
abbrev pub on : Bool → List Step → List TrackStep
on track steps = map (step_on track) steps

-- "set, announce, acknowledge at the next post, set there, and so on; the last post only sets": at post p, and then at the others
unfoldable pub turns : ℕ → List ℕ → List Step
turns p [] = Set p ∷ []
turns p (next ∷ others) = Set p ∷ Announce p ∷ Acknowledge next ∷ turns next others

-- "A reversal goes through the posts from the old sending end to the other end": through these
unfoldable pub reversal : List ℕ → List Step
unfolding turns
reversal [] = []
reversal (p ∷ others) = Order p ∷ turns p others

-- to CVT, with the measures on first, which set to CVT asks for
unfoldable pub reversal_to_cvt : List ℕ → List Step
unfolding reversal
reversal_to_cvt posts = map MeasuresOn posts ++ reversal posts

-- the byte strings that are offered
unfoldable pub offered_as : List TrackStep → List (List ℕ)
unfolding encoded bytes_of fault_number
offered_as steps = map encoded steps

-- ## Answers

-- the answers to a day, 0 or the refusal; unfolded, judging computes
unfoldable pub refusals : Section → List (List ℕ) → List ℕ
unfolding judge judge_in_range judge_decoded judge_step section_after track_after_on verdict_on answer_of verdict_of refusal_by figure
    checks effect cells_after track_after reach first_from any_of is_open open_at next_post stretch_ends lies_ahead crossing_ahead zones_lack_ahead
    part_ends commands watched_occupied train_before last_entered occupancy_at
    in_range track_in_range walk_in_range act_in_range numbers_in_range posts_in_range post_in_range settings_in_range crossings_in_range none_from is_signalled
    is_materialised upward rank block is_first is_last
    decoded step_said step_of fault_of well_formed fields_well_formed place_well_formed track_well_formed number_well_formed fault_well_formed le16 within
    kind_of post_of number_of
refusals s [] = []
refusals s (bytes ∷ offered) = refusal_of (judge s bytes).verdict ∷ refusals (judge s bytes).section offered

abbrev pub is_accepted : Verdict → Bool
is_accepted (Ok said) = true
is_accepted (Err k) = false

-- the section after steps that the table accepts one after another; none where it refuses one of them
unfoldable pub after : Section → List TrackStep → Option Section
unfolding refusals offered_as
after s [] = some s
after s (x ∷ steps) = cond (is_accepted (verdict_on s x)) (after (section_after s x) steps) none
