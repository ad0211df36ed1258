-- Two steps on a section change places: l, and then an x that leaves walk and direction alone. On one track this is the exchange of Swap. On two
-- tracks neither touches what the other sees: only an order looks at the other track, at its walk and direction, and x leaves these.
use Prim.Native.Nat.{ℕ, ◌≤◌}
use mathlib.Core.Bool.{Bool, true, false, not, ◌&&◌, false≢true}
use mathlib.Core.Path.{◌≡◌, refl, ap, ap₂, ◌∙◌}
use mathlib.Core.Logic.{◌≢◌}
use Rattle.section.specs.declared.Settings.{Settings}
use Rattle.section.specs.declared.Said.TheVariants.{Nothing}
use Rattle.section.specs.declared.Track.{Track}
use Rattle.section.specs.declared.Section.{Section}
use Rattle.section.specs.Store.{track_of, with_track}
use Rattle.rules.specs.declared.Line.{Line}
use Rattle.rules.specs.Site.{is_settled, settled_on_vns, site_on, other_settled_on_vns, watched_occupied, train_before, last_entered, occupancy_at}
use Rattle.rules.specs.Table.{checks, track_after}
use Rattle.rules.proofs.Facts.{by_track}
use Rattle.rules.proofs.View.{Motion, start, pass, leave, Condition, measures, fault, caution, View}
use Rattle.rules.proofs.View.{walks, runs, notes, releases, flat, Seen, on}
use Rattle.rules.proofs.Frame.{moves_no_train, keeps_running, onward, running_kept}
use Rattle.rules.proofs.Accept.{AcceptedOn, track_after_step, line, AcceptedIn, said_in, section_after_step}
use Rattle.rules.proofs.Swap.{Swapped, swap_note, swap_onward}

module _ (c : Line) where
  -- ## A step that leaves walk and running direction

  pub walk_kept : (b : Bool) (p : ℕ) (k : View) (t : Track) → keeps_running k ≡ true → (track_after_step c b p k t).walk ≡ t.walk
  unfolding track_after
  walk_kept b p k t i = (running_kept c p k (site_on b p t) i).walk

  pub cvt_kept : (b : Bool) (p : ℕ) (k : View) (t : Track) → keeps_running k ≡ true → (track_after_step c b p k t).cvt ≡ t.cvt
  unfolding track_after
  cvt_kept b p k t i = (running_kept c p k (site_on b p t) i).cvt

  pub vns_kept : (b : Bool) (p : ℕ) (k : View) (t : Track) → keeps_running k ≡ true → settled_on_vns (track_after_step c b p k t) ≡ settled_on_vns t
  vns_kept b p k t i = ap₂ (λ w d. is_settled w && not d) (walk_kept b p k t i) (cvt_kept b p k t i)

  -- ## The other track matters to an order alone

  accepted_vns : (v v' b : Bool) (p : ℕ) (k : View) (t : Track) → keeps_running k ≡ true → AcceptedOn c v b p k t → AcceptedOn c v' b p k t
  unfolding checks occupancy_at watched_occupied train_before last_entered flat
  accepted_vns v v' b p (walks r) t i h = absurd (false≢true i)
  accepted_vns v v' b p (runs start z) t i h = record { fits = h.fits; held = h.held }
  accepted_vns v v' b p (runs pass z) t i h = record { fits = h.fits; held = h.held }
  accepted_vns v v' b p (runs leave z) t i h = record { fits = h.fits; held = h.held }
  accepted_vns v v' b p (notes (measures true)) t i h = record { fits = h.fits; held = h.held }
  accepted_vns v v' b p (notes (measures false)) t i h = record { fits = h.fits; held = h.held }
  accepted_vns v v' b p (notes (fault true f)) t i h = record { fits = h.fits; held = h.held }
  accepted_vns v v' b p (notes (fault false f)) t i h = record { fits = h.fits; held = h.held }
  accepted_vns v v' b p (notes (caution z)) t i h = record { fits = h.fits; held = h.held }
  accepted_vns v v' b p (releases z) t i h = record { fits = h.fits; held = h.held }

module _ (c : Settings) where
  -- ## The tracks after a step

  pub here_after : (s : Section) (b : Bool) (p : ℕ) (k : View)
      → track_of (section_after_step c s (on b p k)) b ≡ track_after_step (line c s) b p k (track_of s b)
  unfolding section_after_step
  here_after s false p k = refl
  here_after s true p k = refl

  pub there_after : (s : Section) (b : Bool) (p : ℕ) (k : View) → track_of (section_after_step c s (on b p k)) (not b) ≡ track_of s (not b)
  unfolding section_after_step
  there_after s false p k = refl
  there_after s true p k = refl

  pub settings_after : (s : Section) (x : Seen) → (section_after_step c s x).settings ≡ s.settings
  unfolding section_after_step
  settings_after s (on b p k) = refl

  -- ## A step that leaves walk and running direction

  pub says_nothing : (s : Section) (b : Bool) (p : ℕ) (k : View) → keeps_running k ≡ true → said_in c s (on b p k) ≡ Nothing
  unfolding said_in
  says_nothing s b p k i = (running_kept (line c s) p k (site_on b p (track_of s b)) i).said

  pub walks_kept : (s : Section) (b : Bool) (p : ℕ) (k : View) → keeps_running k ≡ true → (d : Bool)
      → (track_of (section_after_step c s (on b p k)) d).walk ≡ (track_of s d).walk
  walks_kept s b p k i =
      by_track (λ d. (track_of (section_after_step c s (on b p k)) d).walk ≡ (track_of s d).walk) b
      (ap (λ t. t.walk) (here_after s b p k) ∙ walk_kept (line c s) b p k (track_of s b) i) (ap (λ t. t.walk) (there_after s b p k))

  pub cvts_kept : (s : Section) (b : Bool) (p : ℕ) (k : View) → keeps_running k ≡ true → (d : Bool)
      → (track_of (section_after_step c s (on b p k)) d).cvt ≡ (track_of s d).cvt
  cvts_kept s b p k i =
      by_track (λ d. (track_of (section_after_step c s (on b p k)) d).cvt ≡ (track_of s d).cvt) b
      (ap (λ t. t.cvt) (here_after s b p k) ∙ cvt_kept (line c s) b p k (track_of s b) i) (ap (λ t. t.cvt) (there_after s b p k))

  -- ## The change of places

  pub record Exchanged (s : Section) (l x : Seen) : Type 0 where
    pub x_first : AcceptedIn c s x
    pub l_then : AcceptedIn c (section_after_step c s x) l
    pub same_end : section_after_step c (section_after_step c s x) l ≡ section_after_step c (section_after_step c s l) x
    pub l_says : said_in c (section_after_step c s x) l ≡ said_in c s l

  on_one_track : (b : Bool) (s : Section) (q : ℕ) (l : View) (p : ℕ) (x : View) → Swapped (line c s) (other_settled_on_vns s b) b q l p x (track_of s b)
      → Exchanged s (on b q l) (on b p x)
  unfolding AcceptedIn said_in section_after_step
  on_one_track false s q l p x w = record { x_first = w.x_first; l_then = w.l_then; same_end = ap (with_track s false) w.same_end; l_says = w.l_says }
  on_one_track true s q l p x w = record { x_first = w.x_first; l_then = w.l_then; same_end = ap (with_track s true) w.same_end; l_says = w.l_says }

  pub exchange_note : (b : Bool) (s : Section) (q : ℕ) (l : View) (p : ℕ) (k : Condition) → q ≢ p
      → (track_of (section_after_step c s (on b q l)) b).cvt ≡ (track_of s b).cvt
      → AcceptedIn c s (on b q l) → AcceptedIn c (section_after_step c s (on b q l)) (on b p (notes k)) → Exchanged s (on b q l) (on b p (notes k))
  unfolding AcceptedIn section_after_step
  exchange_note false s q l p k h ec hl hx =
      on_one_track false s q l p (notes k) (swap_note (line c s) (other_settled_on_vns s false) false q l p k s.a h ec hl hx)
  exchange_note true s q l p k h ec hl hx =
      on_one_track true s q l p (notes k) (swap_note (line c s) (other_settled_on_vns s true) true q l p k s.b h ec hl hx)

  pub exchange_onward : 2 ≤ c.posts → (b : Bool) (s : Section) (q : ℕ) (l : View) (p : ℕ) (m : Motion) (z : ℕ) → onward m ≡ true
      → moves_no_train l ≡ true → q ≢ p
      → (track_of (section_after_step c s (on b q l)) b).cvt ≡ (track_of s b).cvt
      → AcceptedIn c s (on b q l) → AcceptedIn c (section_after_step c s (on b q l)) (on b p (runs m z)) → Exchanged s (on b q l) (on b p (runs m z))
  unfolding AcceptedIn section_after_step
  exchange_onward n2 false s q l p m z i j h ec hl hx =
      on_one_track false s q l p (runs m z) (swap_onward (line c s) (other_settled_on_vns s false) false n2 q l p m z s.a i j h ec hl hx)
  exchange_onward n2 true s q l p m z i j h ec hl hx =
      on_one_track true s q l p (runs m z) (swap_onward (line c s) (other_settled_on_vns s true) true n2 q l p m z s.b i j h ec hl hx)

  -- l on one track, x on the other
  pub exchange_other : (b : Bool) (s : Section) (q : ℕ) (l : View) (p : ℕ) (x : View) → keeps_running x ≡ true
      → AcceptedIn c s (on b q l) → AcceptedIn c (section_after_step c s (on b q l)) (on (not b) p x) → Exchanged s (on b q l) (on (not b) p x)
  unfolding AcceptedIn said_in section_after_step
  exchange_other false s q l p x i hl hx = record {
    x_first = accepted_vns (line c s) _ (settled_on_vns s.a) true p x s.b i hx;
    l_then = rw (vns_kept (line c s) true p x s.b i) hl;
    same_end = refl;
    l_says = refl;
  }
  exchange_other true s q l p x i hl hx = record {
    x_first = accepted_vns (line c s) _ (settled_on_vns s.b) false p x s.a i hx;
    l_then = rw (vns_kept (line c s) false p x s.a i) hl;
    same_end = refl;
    l_says = refl;
  }
