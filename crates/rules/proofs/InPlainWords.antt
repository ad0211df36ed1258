-- Demand 3 in plain words, from the statement alone: of days only `Demand3` is a hypothesis, and each theorem reads clauses of it. What is left is
-- arithmetic on the end posts, and inductions over lists: a test of some steps keeps a sequence that a wider test keeps; steps that are performed
-- are the accepted ones of their bytes.
use Prim.Native.Nat.{ℕ, zero, suc, ◌+◌, ◌-◌, ◌≤◌, ◌<◌}
use mathlib.Core.Bool.{Bool, true, false, cond, not, true≢false, false≢true}
use mathlib.Core.Path.{◌≡◌, refl, sym, ap, ◌∙◌, subst}
use mathlib.Core.Logic.{◌⊎◌, inl, inr, ◌≢◌}
use mathlib.Core.List.{List, [], ◌∷◌, ◌++◌, append-nil, append_assoc, Memᴰ}
use mathlib.Core.Option.{Option, none, some}
use native.Mathlib.Omega.{arith}
use native.Mathlib.Decide.{ℕ_discrete}
use lib.ListN.{get_or, length, take, length-append, get_or-append}
use lib.Seq.{take-length, get_or_at}
use lib.Dec.{eqb}
use borrow.Author.Tests.{eqb-true, eq-eqb, ne_eqb}
use Rattle.section.specs.declared.Act.{Act}
use Rattle.section.specs.declared.Said.{Said}
use Rattle.section.specs.declared.Said.TheVariants.{Nothing, Cvt, Cvtz, Vns, Vnsz}
use Rattle.section.specs.declared.Section.{Section}
use Rattle.section.specs.declared.Settings.{Settings}
use Rattle.section.specs.declared.Track.{Track}
use Rattle.section.specs.declared.Walk.{Walk}
use Rattle.section.specs.declared.Walk.TheVariants.{Turn}
use Rattle.section.specs.Bytes.{byte, le16, within}
use Rattle.section.specs.Fresh.{fresh_section}
use Rattle.section.specs.Geometry.{upward, rank}
use Rattle.section.specs.Settings.{settings_in_range}
use Rattle.section.specs.Step.{stands_on}
use Rattle.section.specs.Store.{track_of}
use Rattle.section.proofs.Laws.{posts_right, both, and_left, and_right}
use Rattle.rules.specs.Judge.{judge}
use Rattle.rules.specs.Site.{is_settled}
use Rattle.rules.specs.Demand3.{state_after, AcceptedStep, accepted_steps, kind, is_of_post, is_step_of_train, is_spoken, is_announcement}
use Rattle.rules.specs.Demand3.{keep, All, Reordering, none_left, same, swapped, chained, Run, runs_of, has_ended, under_way, place_of}
use Rattle.rules.specs.Demand3.{BetweenThePosts, TrainThere, in_turn, LeftAtTheFarEnd, Fate, MayStart, permission, start, OnTrack}
use Rattle.rules.specs.Demand3.{NoTrainInReversal, Performs, NewOrder, Demand3}
use Rattle.rules.specs.InPlainWords.{entry_post, track_byte, is_at_post, moves_train, spoken_at, spoken, how_many, bytes_of_all, SameTrack, OnTrackNow}
use Rattle.rules.specs.InPlainWords.{StandsInOne, IsThere, NoTrainLost, WentUp, WentDown, LeftAtTheOtherEnd, NeverFaceEachOther, HasPermission}
use Rattle.rules.specs.InPlainWords.{StartsNext, OneMayStart, ToldAnew, InAnotherOrder, InPlainWords}
use Rattle.rules.proofs.Theorem.{demand3}

-- ## Lists

all_in : {A : Type 0} (P : A → Type 0) (l : List A) {x : A} → All P l → Memᴰ x l → P x
all_in {A = A} P [] h x4 = elim x4 [ ]
all_in P (y ∷ l) h (Memᴰ.head e) = subst P (sym e) h.0
all_in P (y ∷ l) h (Memᴰ.tail m) = all_in P l h.1 m

some_end : (o : Option ℕ) → has_ended o ≡ true → (p : ℕ) × (o ≡ some p)
some_end none h = absurd (false≢true h)
some_end (some p) h = (p, refl)

module _ {A : Type 0} (f g : A → Bool) (wider : (x : A) → g x ≡ true → f x ≡ true) where
  keep_twice : (l : List A) → keep g (keep f l) ≡ keep g l
  keep_twice [] = refl
  keep_twice (x ∷ l) = go (f x) (g x) refl refl (keep_twice l)
    where
      go : (u v : Bool) → f x ≡ u → g x ≡ v → keep g (keep f l) ≡ keep g l
          → keep g (cond u (x ∷ keep f l) (keep f l)) ≡ cond v (x ∷ keep g l) (keep g l)
      go true v p q e = rw (q, e) refl
      go false true p q e = absurd (false≢true (sym p ∙ wider x q))
      go false false p q e = e

  -- what a test keeps in sequence, a narrower one does
  narrower : (l m : List A) → keep f l ≡ keep f m → keep g l ≡ keep g m
  narrower l m e = sym (keep_twice l) ∙ ap (keep g) e ∙ keep_twice m

as_often : (test : AcceptedStep → Bool) {l m : List AcceptedStep} → Reordering l m → how_many test l ≡ how_many test m
as_often test none_left = refl
as_often test (same x h) = ap (λ (k : ℕ). cond (test x) 1 0 + k) (as_often test h)
as_often test (swapped x y l) = omega arith
as_often test (chained h k) = as_often test h ∙ as_often test k

-- ## Steps by their bytes

track_is : (b : Bool) (x : ℕ) → eqb x (track_byte b) ≡ true → eqb x 1 ≡ b
track_is true x h = h
track_is false x h = rw (eqb-true x 0 h) refl

post_wider : (b : Bool) (p : ℕ) (d : AcceptedStep) → is_at_post b p d ≡ true → is_of_post b p d ≡ true
post_wider b p d h =
    let on = and_left (eqb (byte d.bytes 1) (track_byte b)) (eqb (byte d.bytes 2) p) h in
    let own : stands_on (kind d) (eqb (byte d.bytes 1) 1) b ≡ true = rw (track_is b (byte d.bytes 1) on) (go b) in
    both own (and_right (eqb (byte d.bytes 1) (track_byte b)) (eqb (byte d.bytes 2) p) h)
  where
    go : (b : Bool) → stands_on (kind d) b b ≡ true
    go true = refl
    go false = refl

train_wider : (z : ℕ) (d : AcceptedStep) → moves_train z d ≡ true → is_step_of_train z d ≡ true
unfolding within le16
train_wider z d h = h

spoken_kept : (ds : List AcceptedStep) → keep is_announcement ds ≡ spoken ds
spoken_kept [] = refl
spoken_kept (d ∷ ds) = go d.said (spoken_kept ds)
  where
    go : (w : Said) → keep is_announcement ds ≡ spoken ds
        → cond (is_spoken w) (d ∷ keep is_announcement ds) (keep is_announcement ds) ≡ spoken_at w d ++ spoken ds
    go Nothing e = e
    go Cvt e = ap (λ l. d ∷ l) e
    go Cvtz e = ap (λ l. d ∷ l) e
    go Vns e = ap (λ l. d ∷ l) e
    go Vnsz e = ap (λ l. d ∷ l) e

-- ## End posts

entry_is : (n : ℕ) (b cvt : Bool) → rank n (upward b cvt) 0 ≡ entry_post n b cvt
unfolding rank upward
entry_is n false false = refl
entry_is n false true = refl
entry_is n true false = refl
entry_is n true true = refl

an_end : (n : ℕ) (b cvt : Bool) → (entry_post n b cvt ≡ 0) ⊎ (entry_post n b cvt ≡ n - 1)
an_end n false false = inl refl
an_end n false true = inr refl
an_end n true false = inr refl
an_end n true true = inl refl

-- the posts between the ends, one by one
module _ (c : Settings) (from : ℕ) where
  turns_length : (m : ℕ) → length (in_turn c from m) ≡ m
  turns_length zero = refl
  turns_length (suc m) = length-append (in_turn c from m) (rank c.posts (eqb from 0) (suc m) ∷ []) ∙ omega (arith, turns_length m)

  turns_at : (m k : ℕ) → k < m → get_or (in_turn c from m) k 0 ≡ rank c.posts (eqb from 0) (suc k)
  turns_at zero k h = absurd (omega arith)
  turns_at (suc m) k h = go (ℕ_discrete k m) (λ (b : k < m). turns_at m k b)
    where
      go : Dec (k ≡ m) → (k < m → get_or (in_turn c from m) k 0 ≡ rank c.posts (eqb from 0) (suc k))
          → get_or (in_turn c from m ++ (rank c.posts (eqb from 0) (suc m) ∷ [])) k 0 ≡ rank c.posts (eqb from 0) (suc k)
      go (yes e) ih = rw e (get_or_at (in_turn c from m) (rank c.posts (eqb from 0) (suc m)) [] 0 m (turns_length m))
      go (no ne) ih = get_or-append (in_turn c from m) _ 0 k (omega (arith, turns_length m)) ∙ ih (omega arith)

-- ## The claim

module _ (c : Settings) (n2 : 2 ≤ c.posts) (claim : (offered : List (List ℕ)) → Demand3 c offered) where
  place_first : (from k : ℕ) → from ≡ 0 → place_of c from k ≡ k
  place_first from k e = rw e refl

  place_last : (from k : ℕ) → from ≡ c.posts - 1 → place_of c from k ≡ from - suc k
  place_last from k e = rw (ne_eqb from 0 (omega arith)) refl

  module _ (offered : List (List ℕ)) where
    abbrev end : Section
    end = state_after (fresh_section c) offered

    abbrev accepted : List AcceptedStep
    accepted = accepted_steps (fresh_section c) offered

    track_claim : (b : Bool) → OnTrack c end accepted b
    unfolding Demand3
    track_claim b = (claim offered).tracks b

    -- ### Trains on the track

    between : (b : Bool) (z : ℕ) (r : Run) → OnTrackNow c offered b z r → BetweenThePosts c b (track_of end b) z r
    between b z r h =
        subst (Fate c b (track_of end b) z r) h.not_left
        (all_in (λ (q : Run). Fate c b (track_of end b) z q q.left) (runs_of b z accepted) ((track_claim b).fates z) h.a_run)

    at_entry : (b : Bool) (z : ℕ) (r : Run) → OnTrackNow c offered b z r → r.from ≡ entry_post c.posts b (track_of end b).cvt
    at_entry b z r h = (between b z r h).one_way ∙ entry_is c.posts b (track_of end b).cvt

    stands : (b : Bool) (z : ℕ) (r : Run) → OnTrackNow c offered b z r → StandsInOne c offered b z r
    stands b z r h =
        let w = between b z r h in
        let e = at_entry b z r h in
        let ends = an_end c.posts b (track_of end b).cvt in
        let from : (r.from ≡ 0) ⊎ (r.from ≡ c.posts - 1) = subst (λ (x : ℕ). (x ≡ 0) ⊎ (x ≡ c.posts - 1)) (sym e) ends in
        record {
          section = place_of c r.from (length r.passed);
          of_the_line = inside w.inside from;
          shows = w.there;
          no_other = w.only;
          from_an_end = from;
          from_first = λ q. place_first r.from (length r.passed) q;
          from_last = λ q. omega (arith, w.inside, place_last r.from (length r.passed) q);
        }
      where
        inside : suc (length r.passed) < c.posts → (r.from ≡ 0) ⊎ (r.from ≡ c.posts - 1)
            → suc (place_of c r.from (length r.passed)) < c.posts
        inside k (inl q) = omega (arith, place_first r.from (length r.passed) q)
        inside k (inr q) = omega (arith, place_last r.from (length r.passed) q)

    is_there : (b : Bool) (i z : ℕ) → suc i < c.posts → get_or (track_of end b).trains i 0 ≡ z → z ≢ 0 → IsThere c offered b i z
    unfolding stands
    is_there b i z k e ne = go ((track_claim b).kept i k)
      where
        go : (get_or (track_of end b).trains i 0 ≡ 0) ⊎ TrainThere c b (track_of end b) accepted i → IsThere c offered b i z
        go (inl q) = absurd (ne (sym e ∙ q))
        go (inr t) =
            let own : t.train ≡ z = sym t.shown ∙ e in
            let runs : runs_of b z accepted ≡ t.run ∷ t.earlier = rw own at t.runs_are in
            let on : OnTrackNow c offered b z t.run =
            record { a_run = rw runs (Memᴰ.head refl); not_left = t.open_run } in
            record { run = t.run; on_track = on; stands = stands b z t.run on; here = t.place }

    no_train_lost : NoTrainLost c offered
    no_train_lost = record {
      in_one = stands;
      none_else = is_there;
      not_twice = λ b i j hi hj ne e.
          let w = is_there b i _ hi refl ne in
          w.here ∙ sym (w.stands.no_other j hj (sym e));
      one_at_a_time = λ b z r q earlier e m.
          some_end q.left
          (all_in (λ (x : Run). has_ended x.left ≡ true) earlier (rw e at ((track_claim b).one_after_another z)) m);
    }

    -- ### Trains that have left

    left_at_the_other_end : LeftAtTheOtherEnd c offered
    unfolding rank
    left_at_the_other_end b z r leave m e =
        let w : LeftAtTheFarEnd c r leave =
        subst (Fate c b (track_of end b) z r) e
        (all_in (λ (q : Run). Fate c b (track_of end b) z q q.left) (runs_of b z accepted) ((track_claim b).fates z) m) in
        go w w.began
      where
        go : LeftAtTheFarEnd c r leave → (r.from ≡ 0) ⊎ (r.from ≡ c.posts - 1) → WentUp c offered r leave ⊎ WentDown c offered r leave
        go w (inl q) = inl (record {
          began = q;
          passes = rw w.through (turns_length c r.from (c.posts - 2));
          in_turn = λ k h. rw w.through (turns_at c r.from (c.posts - 2) k h ∙ rw q refl);
          ended = w.far ∙ rw q refl;
        })
        go w (inr q) =
            let other : eqb r.from 0 ≡ false = ne_eqb r.from 0 (omega arith) in
            inr (record {
              began = q;
              passes = rw w.through (turns_length c r.from (c.posts - 2));
              in_turn = λ k h. rw w.through (turns_at c r.from (c.posts - 2) k h ∙ rw other (omega arith));
              ended = w.far ∙ rw other refl;
            })

    -- ### One way

    never_face_each_other : NeverFaceEachOther c offered
    never_face_each_other = record {
      same_start = λ b y z r q h k. at_entry b y r h ∙ sym (at_entry b z q k);
      at_the_entry = at_entry;
    }

    -- ### Who may start trains

    by_permission : (b : Bool) (p : ℕ) → HasPermission c offered b p → MayStart c end b p
    by_permission b p h = permission h.0 h.1

    by_start : (b : Bool) (p : ℕ) → StartsNext c offered b p → MayStart c end b p
    by_start b p h =
        start (record { bytes = h.bytes; said = h.said }) h.a_start
        (track_is b (byte h.bytes 1) (eq-eqb (byte h.bytes 1) (track_byte b) h.on_track)) h.at_post h.is_accepted

    starts_at_entry : (b : Bool) (p : ℕ) → MayStart c end b p → p ≡ entry_post c.posts b (track_of end b).cvt
    starts_at_entry b p may = ((track_claim b).starter p may).0 ∙ entry_is c.posts b (track_of end b).cvt

    under_way_there : (b : Bool) (q : ℕ) (act : Act) → (track_of end b).walk ≡ Turn q act → under_way c.posts b accepted ≡ true
    under_way_there b q act e = (track_claim b).walk_agrees ∙ ap (λ (w : Walk). not (is_settled w)) e

    none_in_reversal : (b : Bool) (p q : ℕ) (act : Act) → (track_of end b).walk ≡ Turn q act → MayStart c end b p → ⊥
    none_in_reversal b p q act e may = true≢false (sym (under_way_there b q act e) ∙ ((track_claim b).starter p may).1)

    one_may_start : OneMayStart c offered
    one_may_start = record {
      one_permission = λ b p q h k. (track_claim b).one_starter p q (by_permission b p h) (by_permission b q k);
      one_start = λ b p q h k. (track_claim b).one_starter p q (by_start b p h) (by_start b q k);
      same_post = λ b p q h k. (track_claim b).one_starter p q (by_start b p h) (by_permission b q k);
      permission_at_entry = λ b p h. starts_at_entry b p (by_permission b p h);
      start_at_entry = λ b p h. starts_at_entry b p (by_start b p h);
      no_permission_in_reversal = λ b p q act e h. none_in_reversal b p q act e (by_permission b p h);
      no_start_in_reversal = λ b p q act e h. none_in_reversal b p q act e (by_start b p h);
      reversal_under_way = under_way_there;
      not_under_way = λ b e. (track_claim b).walk_agrees ∙ ap (λ (w : Walk). not (is_settled w)) e;
    }

  -- ### Another order

  -- steps that are performed are accepted again, and lead to the end
  performed_again : (k : ℕ) (s : Section) (done ds : List AcceptedStep) (end : Section) → Performs c s done ds end
      → accepted_steps s (bytes_of_all (take k ds)) ≡ take k ds
  unfolding Performs accepted_steps
  performed_again zero s done ds end h = refl
  performed_again (suc k) s done [] end h = refl
  performed_again (suc k) s done (d ∷ ds) end h =
      rw (h.0, performed_again k (judge s d.bytes).section (done ++ (d ∷ [])) ds end h.2) refl

  performed_to : (s : Section) (done ds : List AcceptedStep) (end : Section) → Performs c s done ds end → state_after s (bytes_of_all ds) ≡ end
  unfolding Performs state_after
  performed_to s done [] end h = h
  performed_to s done (d ∷ ds) end h = performed_to (judge s d.bytes).section (done ++ (d ∷ [])) ds end h.2

  performed_empty : (k : ℕ) (s : Section) (done ds : List AcceptedStep) (end : Section) → Performs c s done ds end → NoTrainInReversal c done s
      → NoTrainInReversal c (done ++ take k ds) (state_after s (bytes_of_all (take k ds)))
  unfolding Performs state_after
  performed_empty zero s done ds end h e = rw (append-nil done) e
  performed_empty (suc k) s done [] end h e = rw (append-nil done) e
  performed_empty (suc k) s done (d ∷ ds) end h e =
      rw (append_assoc done (d ∷ []) (take k ds)) at
      (performed_empty k (judge s d.bytes).section (done ++ (d ∷ [])) ds end h.2 h.1)

  fresh_empty : (s : Section) → NoTrainInReversal c [] s
  unfolding under_way
  fresh_empty s = record { empty = λ b h i k. absurd (false≢true h) }

  same_track : (t u : Track) → t ≡ u → SameTrack t u
  same_track t u e = record {
    posts = ap (λ (x : Track). x.posts) e;
    trains = ap (λ (x : Track). x.trains) e;
    last = ap (λ (x : Track). x.last) e;
    cvt = ap (λ (x : Track). x.cvt) e;
    walk = ap (λ (x : Track). x.walk) e;
  }

  told : (offered : List (List ℕ)) → NewOrder c (accepted offered) (end offered) → ToldAnew c offered
  told offered o =
      let again : state_after (fresh_section c) (bytes_of_all o.order) ≡ end offered =
      performed_to (fresh_section c) [] o.order (end offered) o.performs in
      record {
        order = o.order;
        same_steps = λ test. as_often test o.each_once;
        same_at_posts = λ b p. narrower (is_of_post b p) (is_at_post b p) (post_wider b p) o.order (accepted offered) (o.posts_in_sequence b p);
        same_of_trains = λ z. narrower (is_step_of_train z) (moves_train z) (train_wider z) o.order (accepted offered) (o.trains_in_sequence z);
        same_words = sym (spoken_kept o.order) ∙ o.announcements ∙ spoken_kept (accepted offered);
        accepted_again =
            rw (take-length o.order) at (performed_again (length o.order) (fresh_section c) [] o.order (end offered) o.performs);
        same_settings = ap (λ (s : Section). s.settings) again;
        same_a = same_track _ _ (ap (λ (s : Section). s.a) again);
        same_b = same_track _ _ (ap (λ (s : Section). s.b) again);
        track_empty = empty;
      }
    where
      empty : (k : ℕ) (b : Bool) (q : ℕ) (act : Act) → (track_of (state_after (fresh_section c) (bytes_of_all (take k o.order))) b).walk ≡ Turn q act
          → (i : ℕ) → suc i < c.posts → get_or (track_of (state_after (fresh_section c) (bytes_of_all (take k o.order))) b).trains i 0 ≡ 0
      empty k b q act e =
          (performed_empty k (fresh_section c) [] o.order (end offered) o.performs (fresh_empty (fresh_section c))).empty b
          (rw (performed_again k (fresh_section c) [] o.order (end offered) o.performs)
          at (under_way_there (bytes_of_all (take k o.order)) b q act e))

  in_another_order : (offered : List (List ℕ)) → InAnotherOrder c offered
  unfolding Demand3
  in_another_order offered settled =
      told offered ((claim offered).reordered (λ b. (one_may_start offered).not_under_way b (settled b)))

  all_of_it : (offered : List (List ℕ)) → InPlainWords c offered
  all_of_it offered = record {
    trains_stand_in_one = no_train_lost offered;
    trains_leave_at_the_other_end = left_at_the_other_end offered;
    trains_never_face_each_other = never_face_each_other offered;
    one_post_may_start = one_may_start offered;
    told_in_another_order = in_another_order offered;
  }

-- for well-formed settings and every list
pub in_plain_words : (c : Settings) → settings_in_range c ≡ true → (offered : List (List ℕ)) → InPlainWords c offered
in_plain_words c right offered = all_of_it c (posts_right c right).0 (demand3 c right) offered
