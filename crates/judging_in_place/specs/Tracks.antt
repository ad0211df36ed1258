-- The two tracks of a section, A before B.
use Rattle.std.specs.Prelude.{ℕ, false, List, [], ◌∷◌, get_or}
use Rattle.section.specs.declared.Answer.{Answer}
use Rattle.section.specs.declared.Settings.{Settings}
use Rattle.section.specs.declared.Section.{Section}
use Rattle.section.specs.declared.Track.{Track}
use Rattle.section.specs.Refusal.{Verdict}
use Rattle.section.specs.declared.Walk.TheVariants.{Settled}

abbrev pub tracks_of : Section → List Track
tracks_of s = s.a ∷ (s.b ∷ [])

-- what stands past the two
abbrev pub no_track : Track
no_track = record { posts = []; trains = []; last = []; cvt = false; walk = Settled }

abbrev pub track_at : List Track → ℕ → Track
track_at tracks k = get_or tracks k no_track

-- the section of those settings whose tracks they are
abbrev pub section_of : Settings → List Track → Section
section_of c tracks = record { settings = c; a = track_at tracks 0; b = track_at tracks 1 }

-- the answer with that verdict, and what is left of the section
abbrev pub answer_in : Section → Verdict → Answer
answer_in s v = record { verdict = v; section = s }
