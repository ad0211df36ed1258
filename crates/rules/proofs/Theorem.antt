-- Demand 3, and that 6 is never answered along a list from fresh: both are read off what is kept along the list. The new order is the one that
-- was built step by step; where no reversal is under way, nothing of it is held back.
use Prim.Native.Nat.{ℕ}
use mathlib.Core.Bool.{Bool, true, false, not}
use mathlib.Core.Path.{◌≡◌, refl, sym, ◌∙◌}
use mathlib.Core.List.{List, []}
use Rattle.section.specs.declared.Settings.{Settings}
use Rattle.section.specs.declared.Section.{Section}
use Rattle.section.specs.Fresh.{fresh_section}
use Rattle.section.specs.Settings.{settings_in_range}
use Rattle.section.specs.Store.{track_of}
use Rattle.rules.specs.Judge.{judge}
use Rattle.rules.specs.Site.{is_settled}
use Rattle.rules.specs.Demand3.{state_after, AcceptedStep, accepted_steps, under_way, OnTrack, NewOrder, Demand3}
use Rattle.rules.specs.RangesKept.{NeverOutOfRange}
use Rattle.rules.proofs.View.{seen_at, flat}
use Rattle.rules.proofs.Accept.{said_in, section_after_step}
use Rattle.rules.proofs.Reached.{Reached, fresh_reached, reached_in_range}
use Rattle.rules.proofs.Along.{n2, n16, all_kept}
use Rattle.rules.proofs.Fates.{RunsRight, runs_right}
use Rattle.rules.proofs.Lists.{a_post, a_train, announcers}
use Rattle.rules.proofs.UnderWay.{fresh_agrees, under_way_lem}
use Rattle.rules.proofs.Perform.{performed_performs}
use Rattle.rules.proofs.Sort.{progress, Sorted, sorted}
use Rattle.rules.proofs.Starts.{one_starter, starter}

module _ (c : Settings) (right : settings_in_range c ≡ true) where
  pub reached_throughout : (offered : List (List ℕ)) → Reached c (state_after (fresh_section c) offered)
  reached_throughout offered = (all_kept c right offered).reached

  pub never_out_of_range : (offered : List (List ℕ)) → NeverOutOfRange c offered
  unfolding judge
  never_out_of_range offered bytes = rw (reached_in_range c right (state_after (fresh_section c) offered) (reached_throughout offered)) refl

  -- ## The claim

  module _ (offered : List (List ℕ)) where
    abbrev end : Section
    end = state_after (fresh_section c) offered

    abbrev steps : List AcceptedStep
    steps = accepted_steps (fresh_section c) offered

    pub on_track_lem : (b : Bool) → OnTrack c end steps b
    on_track_lem b =
        let runs : RunsRight c end steps b = runs_right c (n2 c right) (n16 c right) end steps b ((all_kept c right offered).runs b) in
        record {
          fates = runs.fates;
          one_after_another = runs.one_after_another;
          kept = runs.kept;
          one_starter = one_starter c right end b (reached_throughout offered);
          starter = λ p may. starter c right end b (reached_throughout offered) p may (under_way_lem c end steps (all_kept c right offered).agrees b);
          walk_agrees = under_way_lem c end steps (all_kept c right offered).agrees b;
        }

    new_order_lem : Sorted c end steps → NewOrder c steps end
    new_order_lem o = record {
      order = o.order;
      each_once = o.kept.each_once;
      posts_in_sequence = λ b p. o.kept.in_sequence (a_post b p);
      trains_in_sequence = λ z. o.kept.in_sequence (a_train z);
      announcements = o.kept.in_sequence announcers;
      performs = performed_performs c right [] (fresh_reached c right) (fresh_agrees c) o.performed;
    }

    pub all_settled : ((b : Bool) → under_way c.posts b steps ≡ false) → (b : Bool) → is_settled (track_of end b).walk ≡ true
    all_settled h b = go (is_settled (track_of end b).walk) (sym (under_way_lem c end steps (all_kept c right offered).agrees b) ∙ h b)
      where
        go : (w : Bool) → not w ≡ false → w ≡ true
        go true e = refl
        go false e = sym e

-- For well-formed settings and every list of byte strings offered singly from fresh, refused and malformed ones included.
pub demand3 : (c : Settings) → settings_in_range c ≡ true → (offered : List (List ℕ)) → Demand3 c offered
unfolding Demand3
demand3 c right offered = record {
  tracks = on_track_lem c right offered;
  reordered = λ h. new_order_lem c right offered (sorted c _ _ (all_kept c right offered).progress (all_settled c right offered h));
}

-- The new order that `demand3` gives. Unfolded, it computes on a day, where judging is unfolded too.
unfoldable pub new_order : (c : Settings) → settings_in_range c ≡ true → (offered : List (List ℕ))
    → ((b : Bool) → under_way c.posts b (accepted_steps (fresh_section c) offered) ≡ false) → List AcceptedStep
unfolding Demand3 demand3 new_order_lem all_kept sorted seen_at flat said_in section_after_step
new_order c right offered ended = ((demand3 c right offered).reordered ended).order
