-- Along a list of offered byte strings from fresh: what every accepted step keeps holds at the end. Refused ones change nothing. The one
-- induction of this crate: the invariant, the runs, what is under way and the new order so far are kept together.
use Prim.Native.Nat.{ℕ, ◌≤◌}
use mathlib.Core.Bool.{true}
use mathlib.Core.Path.{◌≡◌, refl, sym, subst}
use mathlib.Core.List.{List, [], ◌∷◌, ◌++◌, append_assoc, append-nil}
use Rattle.section.specs.declared.Settings.{Settings}
use Rattle.section.specs.declared.Section.{Section}
use Rattle.section.specs.declared.Answer.{Answer}
use Rattle.section.specs.Fresh.{fresh_section}
use Rattle.section.specs.Numbers.{least_posts, most_posts}
use Rattle.section.specs.Settings.{settings_in_range}
use Rattle.section.proofs.Laws.{posts_right}
use Rattle.rules.specs.Judge.{judge}
use Rattle.rules.specs.Demand3.{state_after, AcceptedStep, accepted_of, accepted_steps}
use Rattle.rules.proofs.View.{Seen, on, as_step}
use Rattle.rules.proofs.Reading.{Says, decoded_says}
use Rattle.rules.proofs.Accept.{AcceptedIn, said_in, section_after_step, Judged, refused, accepted, judged}
use Rattle.rules.proofs.Reached.{Reached, reached_kept, fresh_reached, reached_in_range}
use Rattle.rules.proofs.Fates.{SectionRuns, runs_kept, fresh_runs}
use Rattle.rules.proofs.UnderWay.{Agrees, agrees_kept, fresh_agrees}
use Rattle.rules.proofs.Sort.{Progress, progress, fresh_progress}

-- the accepted step x that the bytes say
abbrev pub accepted_as : Settings → Section → Seen → List ℕ → AcceptedStep
accepted_as c s x bytes = record { bytes = bytes; said = said_in c s x }

module _ (c : Settings) (right : settings_in_range c ≡ true) (P : Section → List AcceptedStep → Type 0) where
  -- an accepted step keeps what holds of a section and the accepted steps behind it
  abbrev pub KeptByAccepted : Type 0
  KeptByAccepted =
      (s : Section) (ds : List AcceptedStep) (x : Seen) (bytes : List ℕ) → Reached c s → Says c.posts bytes (as_step x) → AcceptedIn c s x → P s ds
      → P (section_after_step c s x) (ds ++ accepted_as c s x bytes ∷ [])

  along : KeptByAccepted → (offered : List (List ℕ)) (s : Section) (ds : List AcceptedStep) → Reached c s → P s ds
      → P (state_after s offered) (ds ++ accepted_steps s offered)
  unfolding state_after accepted_steps
  along step [] s ds r h = rw (append-nil ds) h
  along step (bytes ∷ offered) s ds r h = go (judged c s r.settings (reached_in_range c right s r) bytes) (along step offered)
    where
      After : Answer → Type 0
      After a = P (state_after a.section offered) (ds ++ (accepted_of bytes a.verdict ++ accepted_steps a.section offered))

      go : Judged c s r.settings (reached_in_range c right s r) bytes
          → ((s₁ : Section) (ds₁ : List AcceptedStep) → Reached c s₁ → P s₁ ds₁ → P (state_after s₁ offered) (ds₁ ++ accepted_steps s₁ offered))
          → After (judge s bytes)
      go (refused k e) f = subst After (sym e) (f s ds r h)
      go (accepted x q ok e) f =
          subst After (sym e) (rw (append_assoc ds (accepted_as c s x bytes ∷ []) (accepted_steps (section_after_step c s x) offered))
          at (f (section_after_step c s x) (ds ++ accepted_as c s x bytes ∷ []) (reached_kept c right s x ok r)
          (step s ds x bytes r (decoded_says c.posts bytes (as_step x) q) ok h)))

  unfoldable pub from_fresh : KeptByAccepted → P (fresh_section c) [] → (offered : List (List ℕ))
      → P (state_after (fresh_section c) offered) (accepted_steps (fresh_section c) offered)
  unfolding along judged
  from_fresh step h offered =
      along step offered (fresh_section c) [] (fresh_reached c right) h

-- ## All that is kept

module _ (c : Settings) (right : settings_in_range c ≡ true) where
  pub n2 : least_posts ≤ c.posts
  n2 = (posts_right c right).0

  pub n16 : c.posts ≤ most_posts
  n16 = (posts_right c right).1

  pub record Kept (s : Section) (ds : List AcceptedStep) : Type 0 where
    pub reached : Reached c s
    pub runs : SectionRuns c n2 n16 s ds
    pub agrees : Agrees c s ds
    pub progress : Progress c s ds

  unfoldable progress_kept : KeptByAccepted c right (Progress c)
  progress_kept s ds (on b p k) bytes r says ok =
      progress c n2 s ds r b (record { post = p; kind = k; as_accepted = accepted_as c s (on b p k) bytes; says = says }) ok refl

  unfoldable kept : KeptByAccepted c right Kept
  kept s ds x bytes r says ok k = record {
    reached = reached_kept c right s x ok r;
    runs = runs_kept c n2 n16 ds (accepted_as c s x bytes) x says s ok r.sound k.runs;
    agrees = agrees_kept c n2 s ds (accepted_as c s x bytes) x says ok k.agrees;
    progress = progress_kept s ds x bytes r says ok k.progress;
  }

  unfoldable pub all_kept : (offered : List (List ℕ)) → Kept (state_after (fresh_section c) offered) (accepted_steps (fresh_section c) offered)
  unfolding from_fresh kept progress_kept progress fresh_progress
  all_kept =
      from_fresh c right Kept kept
      (record { reached = fresh_reached c right; runs = fresh_runs c n2 n16; agrees = fresh_agrees c; progress = fresh_progress c })
