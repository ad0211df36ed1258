-- Performing accepted steps from a section, and the steps of a reversal, which are held back so that other steps go before them. A step that
-- changes places with each of them goes before them all; where the track is empty at the end, it was empty throughout, and they are performed.
use Prim.Native.Nat.{ℕ}
use mathlib.Core.Bool.{Bool, true, false, not, false≢true}
use mathlib.Core.Path.{◌≡◌, refl, sym, ap, ◌∙◌, subst}
use mathlib.Core.List.{List, [], ◌∷◌, ◌++◌}
use borrow.Author.Tests.{not-true}
use Rattle.std.specs.Prelude.{Ok}
use Rattle.section.specs.declared.Settings.{Settings}
use Rattle.section.specs.declared.Answer.{Answer}
use Rattle.section.specs.declared.Walk.{Walk}
use Rattle.section.specs.declared.Walk.TheVariants.{Settled}
use Rattle.section.specs.declared.Section.{Section}
use Rattle.section.specs.Settings.{settings_in_range}
use Rattle.section.specs.Store.{track_of}
use Rattle.section.proofs.Laws.{posts_right}
use Rattle.rules.specs.Site.{is_settled, other_settled_on_vns}
use Rattle.rules.specs.Demand3.{AcceptedStep, All, under_way, NoTrainInReversal, Performs}
use Rattle.rules.proofs.Facts.{by_track}
use Rattle.rules.proofs.View.{View, Seen, on, as_step}
use Rattle.rules.proofs.Reading.{Says}
use Rattle.rules.proofs.Frame.{moves_no_train, keeps_running}
use Rattle.rules.proofs.Accept.{line, AcceptedIn, said_in, section_after_step, accepted_judge}
use Rattle.rules.proofs.Held.{NoTrain}
use Rattle.rules.proofs.Swap.{trains_unmoved}
use Rattle.rules.proofs.Exchange.{here_after, there_after, cvts_kept, Exchanged}
use Rattle.rules.proofs.Reached.{Reached, reached_kept, reached_in_range}
use Rattle.rules.proofs.UnderWay.{Agrees, agrees_kept, under_way_lem}

not_settled : (w : Walk) → w ≡ Settled → is_settled w ≡ false → ⊥
not_settled w q e = false≢true (sym e ∙ ap is_settled q)

module _ (c : Settings) where
  -- an accepted step on track b: its bytes, what they say, and what was said
  pub record DecodedStep (b : Bool) : Type 0 where
    pub post : ℕ
    pub kind : View
    pub as_accepted : AcceptedStep
    pub says : Says c.posts as_accepted.bytes (as_step (on b post kind))

  abbrev pub step_of : (b : Bool) → DecodedStep b → Seen
  step_of b i = on b i.post i.kind

  abbrev pub all_accepted : (b : Bool) → List (DecodedStep b) → List AcceptedStep
  all_accepted b [] = []
  all_accepted b (i ∷ is) = i.as_accepted ∷ all_accepted b is

  pub accepted_last : (b : Bool) (is : List (DecodedStep b)) (i : DecodedStep b) → all_accepted b (is ++ i ∷ []) ≡ all_accepted b is ++ i.as_accepted ∷ []
  accepted_last b [] i = refl
  accepted_last b (j ∷ is) i = ap (λ l. j.as_accepted ∷ l) (accepted_last b is i)

  pub accepted_all : (b : Bool) (P : DecodedStep b → Type 0) (Q : AcceptedStep → Type 0) → ((i : DecodedStep b) → P i → Q i.as_accepted)
      → (is : List (DecodedStep b)) → All P is → All Q (all_accepted b is)
  accepted_all b P Q f [] h = tt
  accepted_all b P Q f (i ∷ is) h = (f i h.0, accepted_all b P Q f is h.1)

  -- ## Performing

  -- a track on which a reversal runs holds no train
  abbrev pub Clear : Section → Type 0
  Clear s = (b : Bool) → is_settled (track_of s b).walk ≡ false → NoTrain c.posts (track_of s b)

  pub data Performed : Section → List AcceptedStep → Section → Type 0 where
    done : {s : Section} → Performed s [] s
    step : {s end : Section} {ds : List AcceptedStep} (x : Seen) (d : AcceptedStep) → Says c.posts d.bytes (as_step x) → AcceptedIn c s x
        → said_in c s x ≡ d.said → Clear (section_after_step c s x) → Performed (section_after_step c s x) ds end → Performed s (d ∷ ds) end

  pub performed_append : (b : List AcceptedStep) {s₀ s₁ s₂ : Section} {a : List AcceptedStep} → Performed s₀ a s₁ → Performed s₁ b s₂ → Performed s₀ (a ++ b) s₂
  performed_append b done h = h
  performed_append b (step x d says ok said cl r) h = step x d says ok said cl (performed_append b r h)

  no_reversal : (s : Section) → ((b : Bool) → (track_of s b).walk ≡ Settled) → Clear s
  no_reversal s w b e = absurd (not_settled (track_of s b).walk (w b) e)

  pub performed_one : (s : Section) (x : Seen) (d : AcceptedStep) → Says c.posts d.bytes (as_step x) → AcceptedIn c s x → said_in c s x ≡ d.said
      → ((b : Bool) → (track_of (section_after_step c s x) b).walk ≡ Settled) → Performed s (d ∷ []) (section_after_step c s x)
  performed_one s x d says ok said w = step x d says ok said (no_reversal (section_after_step c s x) w) done

  -- judged as the claim says
  pub performed_performs : (right : settings_in_range c ≡ true) (behind : List AcceptedStep) {s end : Section} {ds : List AcceptedStep} → Reached c s
      → Agrees c s behind
      → Performed s ds end → Performs c s behind ds end
  unfolding Performs
  performed_performs right behind r a done = refl
  performed_performs right behind {s = s} {end = end} r a (step {ds = ds} x d says ok said cl rest) =
      subst (λ (y : Answer). (y.verdict ≡ Ok d.said) × NoTrainInReversal c (behind ++ d ∷ []) y.section
      × Performs c y.section (behind ++ d ∷ []) ds end)
      (sym (accepted_judge c s r.settings (reached_in_range c right s r) d.bytes x says.decodes ok)) (
        ap Ok said,
        record { empty = λ b u. cl b (settled_not b u) },
        performed_performs right (behind ++ d ∷ []) (reached_kept c right s x ok r) after rest,
      )
    where
      after : Agrees c (section_after_step c s x) (behind ++ d ∷ [])
      after = agrees_kept c (posts_right c right).0 s behind d x says ok a

      settled_not : (b : Bool) → under_way c.posts b (behind ++ d ∷ []) ≡ true → is_settled (track_of (section_after_step c s x) b).walk ≡ false
      settled_not b u = not-true _ (sym (under_way_lem c (section_after_step c s x) (behind ++ d ∷ []) after b) ∙ u)

  -- ## The steps held back: they move no train and leave the running direction

  pub record LateStep (b : Bool) (s : Section) (i : DecodedStep b) : Type 0 where
    pub ok : AcceptedIn c s (step_of b i)
    pub said : said_in c s (step_of b i) ≡ i.as_accepted.said
    pub moves_none : moves_no_train i.kind ≡ true
    pub cvt_kept : (track_of (section_after_step c s (step_of b i)) b).cvt ≡ (track_of s b).cvt

  abbrev pub Late : (b : Bool) → Section → List (DecodedStep b) → Section → Type 0
  Late b s [] end = s ≡ end
  Late b s (i ∷ is) end = LateStep b s i × Late b (section_after_step c s (step_of b i)) is end

  pub late_last : (b : Bool) (is : List (DecodedStep b)) (s end : Section) (i : DecodedStep b) → Late b s is end → LateStep b end i
      → Late b s (is ++ i ∷ []) (section_after_step c end (step_of b i))
  late_last b [] s end i e h = (subst (λ w. LateStep b w i) (sym e) h, ap (λ w. section_after_step c w (step_of b i)) e)
  late_last b (j ∷ is) s end i l h = (l.0, late_last b is (section_after_step c s (step_of b j)) end i l.1 h)

  pub late_unmoved : (b : Bool) (is : List (DecodedStep b)) (s end : Section) → Late b s is end → All (λ (i : DecodedStep b). moves_no_train i.kind ≡ true) is
  late_unmoved b [] s end l = tt
  late_unmoved b (i ∷ is) s end l = (l.0.moves_none, late_unmoved b is (section_after_step c s (step_of b i)) end l.1)

  late_trains : (b : Bool) (is : List (DecodedStep b)) (s end : Section) → Late b s is end → (track_of s b).trains ≡ (track_of end b).trains
  late_trains b [] s end e = ap (λ w. (track_of w b).trains) e
  late_trains b (i ∷ is) s end l =
      sym (ap (λ t. t.trains) (here_after c s b i.post i.kind)
      ∙ trains_unmoved (line c s) (other_settled_on_vns s b) b i.kind i.post (track_of s b) l.0.moves_none)
      ∙ late_trains b is (section_after_step c s (step_of b i)) end l.1

  -- where no train is on the track at the end, they are performed
  pub late_performed : (b : Bool) (is : List (DecodedStep b)) (s end : Section) → Late b s is end → (track_of s (not b)).walk ≡ Settled
      → NoTrain c.posts (track_of end b) → Performed s (all_accepted b is) end
  late_performed b [] s end e w f = subst (λ z. Performed s [] z) e done
  late_performed b (i ∷ is) s end l w f =
      let w₁ : (track_of (section_after_step c s (step_of b i)) (not b)).walk ≡ Settled = ap (λ t. t.walk) (there_after c s b i.post i.kind) ∙ w in
      step (step_of b i) i.as_accepted i.says l.0.ok l.0.said
      (by_track
      (λ d. is_settled (track_of (section_after_step c s (step_of b i)) d).walk ≡ false → NoTrain c.posts (track_of (section_after_step c s (step_of b i)) d)) b
      (λ r j h. rw (late_trains b is (section_after_step c s (step_of b i)) end l.1) (f j h))
      (λ r. absurd (not_settled (track_of (section_after_step c s (step_of b i)) (not b)).walk w₁ r)))
      (late_performed b is (section_after_step c s (step_of b i)) end l.1 w₁ f)

  -- a step that leaves walk and direction, and changes places with each of them goes before them all
  pub goes_first : (b t : Bool) (q : ℕ) (k : View) (P : DecodedStep b → Type 0) → keeps_running k ≡ true
      → ((s : Section) (i : DecodedStep b) → P i → LateStep b s i → AcceptedIn c (section_after_step c s (step_of b i)) (on t q k)
      → Exchanged c s (step_of b i) (on t q k))
      → (is : List (DecodedStep b)) (s end : Section) → All P is → Late b s is end → AcceptedIn c end (on t q k)
      → AcceptedIn c s (on t q k) × Late b (section_after_step c s (on t q k)) is (section_after_step c end (on t q k))
  goes_first b t q k P j f [] s end a e h = (subst (λ w. AcceptedIn c w (on t q k)) (sym e) h, ap (λ w. section_after_step c w (on t q k)) e)
  goes_first b t q k P j f (i ∷ is) s end a l h =
      let r = goes_first b t q k P j f is (section_after_step c s (step_of b i)) end a.1 l.1 h in
      let e : Exchanged c s (step_of b i) (on t q k) = f s i a.0 l.0 r.0 in (
        e.x_first,
        (
          record {
            ok = e.l_then;
            said = e.l_says ∙ l.0.said;
            moves_none = l.0.moves_none;
            cvt_kept =
                ap (λ w. (track_of w b).cvt) e.same_end ∙ cvts_kept c (section_after_step c s (step_of b i)) t q k j b ∙ l.0.cvt_kept
                ∙ sym (cvts_kept c s t q k j b);
          },
          subst (λ w. Late b w is (section_after_step c end (on t q k))) (sym e.same_end) r.1,
        ),
      )
