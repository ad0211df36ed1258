-- The column "Checks" of document 01's table, with document 02's requests 1 and 3: for each check of each kind a state in which it alone refuses
-- the step and one in which it does not, on both tracks, in both directions and both forms, so that a check that is dropped in one direction or
-- one form, or by something else that the post has, gives another row. The states need not be reached: "A state inside the ranges is judged by
-- the table of steps, reachable or not."
use Prim.Native.Nat.{ℕ, ◌+◌}
use mathlib.Core.Bool.{Bool, true, cond, not}
use mathlib.Core.Path.{refl}
use mathlib.Core.List.{List, [], ◌∷◌, ◌++◌}
use lib.ListN.{replicate}
use Rattle.std.specs.Prelude.{Ok}
use Rattle.section.specs.declared.Settings.{Settings}
use Rattle.section.specs.declared.Section.{Section}
use Rattle.section.specs.declared.Post.{Post}
use Rattle.section.specs.declared.Step.{Step}
use Rattle.section.specs.declared.Act.{Act}
use Rattle.section.specs.declared.Act.TheVariants as act
use Rattle.section.specs.declared.Walk.{Walk}
use Rattle.section.specs.declared.Walk.TheVariants.{Settled, Turn}
use Rattle.section.specs.declared.Fault.{Fault}
use Rattle.section.specs.declared.Fault.TheVariants.{One, Two, Three, Four}
use Rattle.section.specs.declared.Said.TheVariants.{Cvt, Cvtz, Vns, Vnsz}
use Rattle.section.specs.Refusal.{Verdict}
use Rattle.section.specs.declared.Step.TheVariants.{Order, Set, Announce, Acknowledge, Start, Pass, Leave, MeasuresOn, MeasuresOff}
use Rattle.section.specs.declared.Step.TheVariants.{FaultOn, FaultOff, Release, Key, Caution}
use Rattle.section.specs.Post.{blank, turned, permitted, measured, faulty, marked, cautioned}
use Rattle.rules.specs.Line.{line_in}
use Rattle.rules.specs.Table.{checks}
use Rattle.rules.specs.Judge.{site_of, occupancy_of, verdict_on}
use Rattle.rules.proofs.Days.{VNS, CVT, with_crossings, changed_track, running, holding_last, step_on}
use Rattle.rules.proofs.Rows.{Row, ◌gives◌, Holds, failing_of, judged}
use Rattle.rules.proofs.RecordExamples.{full}
use Rattle.rules.proofs.Directions.{Way, Form, every_way, each, telephone_else, vns_else, place, block_after, entry, mask_without1, mask_without2}
use Rattle.rules.proofs.Directions.{place_of, in_the_run, standing, free, in_first, in_second, in_third}

-- the figures of all checks that fail, in their order
abbrev Failing : Type 0
Failing = List ℕ

abbrev Answers : Type 0
Answers = List (Row Failing)

abbrev accepted : Failing
accepted = []

abbrev refused : ℕ → Failing
refused k = k ∷ []

-- ## Posts

-- a post with measures, which set to CVT asks for
abbrev ready : Post
ready = measured true blank

abbrev with_seals : ℕ → Post → Post
with_seals count o = record {
  device = o.device;
  permission = o.permission;
  measures = o.measures;
  faults = o.faults;
  mark = o.mark;
  seals = count;
  caution = o.caution;
}

-- with what set and key take no notice of, and with what release and start take none of
abbrev laden : Post → Post
laden o = turned true (permitted true (faulty Three true (faulty Four true (cautioned 8 o))))

abbrev laden_more : Post → Post
laden_more o = measured true (faulty Two true (laden o))

-- with what 22 takes no notice of, faults 1 to 3, and the mark that 18 asks for; with what measures take none of, and faults
abbrev under_faults : Post → Post
under_faults o = marked true (faulty One true (faulty Two true (faulty Three true o)))

abbrev troubled : Post → Post
troubled o = permitted true (cautioned 7 (faulty Four true (under_faults o)))

abbrev furnished : Post → Post
furnished o = turned true (permitted true (measured true (marked true (cautioned 7 o))))

-- with every fault but one
abbrev others : Fault → Post
others One = faulty Two true (faulty Three true (faulty Four true blank))
others Two = faulty One true (faulty Three true (faulty Four true blank))
others Three = faulty One true (faulty Two true (faulty Four true blank))
others Four = faulty One true (faulty Two true (faulty Three true blank))

module _ (form : Form) (w : Way) where
  -- ## Lines, walks, steps

  -- a line all of whose posts are signalled; lines on which the post at place 1, or at place 2, or neither is
  abbrev signalled : Settings
  signalled = form 4 15

  abbrev without1 : Settings
  without1 = form 4 (mask_without1 w)

  abbrev without2 : Settings
  without2 = form 4 (mask_without2 w)

  abbrev ends_only : Settings
  ends_only = form 4 9

  -- it is the turn of the post at that place
  abbrev turn : ℕ → Act → Walk
  turn j act = Turn (place w j) act

  -- the answer to a step of the track
  unfoldable pub failing : Step → Section → Failing
  unfolding judged standing
  failing x s = let y = step_on w.track x in failing_of (checks (line_in s) x (site_of s y) (occupancy_of s y))

  -- to a step of the post at a place: with these trains on the track, and that record at the post
  unfoldable pub answer : Settings → Walk → List ℕ → Post → ℕ → (ℕ → Step) → Failing
  unfolding failing
  answer c walk trains own j x = failing (x (place w j)) (standing w c walk trains (place w j) own)

  -- ## Kind 1, order: "11; 12 not the sending end; 14; 13"

  -- with the other track running and walking so
  unfoldable pub ordered : List ℕ → Post → Bool → Walk → Failing
  unfolding answer
  ordered trains own cvt walk =
      failing (Order (place w 0)) (changed_track (not w.track) (running cvt walk) (standing w signalled Settled trains (place w 0) own))

  -- whatever the post has: it looks at no field of its record
  abbrev order : Post → Answers
  order own =
      (answer signalled Settled free own 0 Order gives accepted)
      ∷ (answer signalled (turn 0 act.Set) free own 0 Order gives refused 11)
      ∷ (answer signalled (turn 3 act.Acknowledge) free own 0 Order gives refused 11)
      ∷ (answer signalled Settled free own 1 Order gives refused 12)
      ∷ (answer signalled Settled free own 3 Order gives refused 12)
      -- "order to CVT while the other track isn't settled on VNS (art. 915)"
      ∷ (ordered free own VNS Settled gives accepted)
      ∷ (ordered free own CVT Settled gives vns_else w (refused 14) accepted)
      ∷ (ordered free own VNS (Turn 1 act.Set) gives vns_else w (refused 14) accepted)
      ∷ (ordered free own CVT (Turn 1 act.Set) gives vns_else w (refused 14) accepted)
      ∷ (ordered in_third own CVT Settled gives vns_else w (refused 14) accepted ++ telephone_else form (refused 13) accepted)
      -- "telephone form: a train anywhere on the track (art. 907)"; materialised: in the part
      ∷ (answer signalled Settled in_first own 0 Order gives refused 13)
      ∷ (answer signalled Settled in_second own 0 Order gives telephone_else form (refused 13) accepted)
      ∷ (answer signalled Settled in_third own 0 Order gives telephone_else form (refused 13) accepted)
      ∷ (answer without1 Settled in_second own 0 Order gives refused 13)
      ∷ (answer without1 Settled in_third own 0 Order gives telephone_else form (refused 13) accepted)
      ∷ (answer ends_only Settled in_third own 0 Order gives refused 13)
      ∷ []

  -- ## Kinds 2 and 13, set and key: "15; 13; 18; 16; 19", "15; 21; 13; 18; 16; 20"

  -- the checks that they share; key asks for fault 2 besides
  abbrev setting : (ℕ → Step) → (Post → Post) → Answers
  setting x asks =
      (answer signalled (turn 1 act.Set) free (asks ready) 1 x gives accepted)
      ∷ (answer signalled Settled free (asks ready) 1 x gives refused 15)
      ∷ (answer signalled (turn 1 act.Announce) free (asks ready) 1 x gives refused 15)
      ∷ (answer signalled (turn 1 act.Acknowledge) free (asks ready) 1 x gives refused 15)
      ∷ (answer signalled (turn 2 act.Set) free (asks ready) 1 x gives refused 15)
      -- "one in the block section ahead (the last post has none)"; materialised: in the part
      ∷ (answer signalled (turn 1 act.Set) in_first (asks ready) 1 x gives accepted)
      ∷ (answer signalled (turn 1 act.Set) in_second (asks ready) 1 x gives refused 13)
      ∷ (answer signalled (turn 1 act.Set) in_third (asks ready) 1 x gives accepted)
      ∷ (answer signalled (turn 3 act.Set) in_third (asks ready) 3 x gives accepted)
      ∷ (answer without2 (turn 1 act.Set) in_third (asks ready) 1 x gives telephone_else form accepted (refused 13))
      ∷ (answer without1 (turn 0 act.Set) in_second (asks ready) 0 x gives telephone_else form accepted (refused 13))
      ∷ (answer without1 (turn 0 act.Set) in_third (asks ready) 0 x gives accepted)
      -- "An intermediate post without signals checks no track in set and key", and "disregards fault 1"
      ∷ (answer without1 (turn 1 act.Set) in_second (asks ready) 1 x gives telephone_else form (refused 13) accepted)
      ∷ (answer without1 (turn 1 act.Set) free (asks (faulty One true ready)) 1 x gives telephone_else form (refused 18) accepted)
      -- "fault 1 without a mark (never at the last post)"
      ∷ (answer signalled (turn 1 act.Set) free (asks (faulty One true ready)) 1 x gives refused 18)
      ∷ (answer signalled (turn 0 act.Set) free (asks (faulty One true ready)) 0 x gives refused 18)
      ∷ (answer signalled (turn 1 act.Set) free (asks (marked true (faulty One true ready))) 1 x gives accepted)
      ∷ (answer signalled (turn 3 act.Set) free (asks (faulty One true ready)) 3 x gives accepted)
      -- "set or key to CVT without measures"
      ∷ (answer signalled (turn 1 act.Set) free (asks blank) 1 x gives vns_else w (refused 16) accepted)
      ∷ (answer signalled (turn 3 act.Set) free (asks blank) 3 x gives vns_else w (refused 16) accepted)
      ∷ (answer signalled (turn 1 act.Set) free (asks (marked true blank)) 1 x gives vns_else w (refused 16) accepted)
      ∷ []

  abbrev set_and_key : (Post → Post) → Answers
  set_and_key more =
      setting Set more
      ++ setting Key (λ o. faulty Two true (more o))
      -- "fault 2 stops set, and key is its emergency button"
      ++ (answer signalled (turn 1 act.Set) free (faulty Two true (more ready)) 1 Set gives refused 19)
      ∷ (answer signalled (turn 3 act.Set) free (faulty Two true (more ready)) 3 Set gives refused 19)
      ∷ (answer signalled (turn 1 act.Set) free (with_seals 999 (more ready)) 1 Set gives accepted)
      ∷ (answer signalled (turn 1 act.Set) free (more ready) 1 Key gives refused 21)
      ∷ (answer signalled (turn 3 act.Set) free (more ready) 3 Key gives refused 21)
      -- "seal count is 999"
      ∷ (answer signalled (turn 1 act.Set) free (with_seals 998 (faulty Two true (more ready))) 1 Key gives accepted)
      ∷ (answer signalled (turn 1 act.Set) free (with_seals 999 (faulty Two true (more ready))) 1 Key gives refused 20)
      ∷ (answer signalled (turn 3 act.Set) free (with_seals 999 (faulty Two true (more ready))) 3 Key gives refused 20)
      ∷ []

  -- ## Kinds 3 and 4, announce and acknowledge: "15"

  abbrev announce_and_acknowledge : Post → Answers
  announce_and_acknowledge own =
      (answer signalled (turn 1 act.Announce) free own 1 Announce gives accepted)
      ∷ (answer signalled (turn 0 act.Announce) free own 0 Announce gives accepted)
      ∷ (answer signalled (turn 1 act.Set) free own 1 Announce gives refused 15)
      ∷ (answer signalled (turn 1 act.Acknowledge) free own 1 Announce gives refused 15)
      ∷ (answer signalled (turn 2 act.Announce) free own 1 Announce gives refused 15)
      ∷ (answer signalled Settled free own 1 Announce gives refused 15)
      ∷ (answer signalled (turn 1 act.Acknowledge) free own 1 Acknowledge gives accepted)
      ∷ (answer signalled (turn 3 act.Acknowledge) free own 3 Acknowledge gives accepted)
      ∷ (answer signalled (turn 1 act.Set) free own 1 Acknowledge gives refused 15)
      ∷ (answer signalled (turn 1 act.Announce) free own 1 Acknowledge gives refused 15)
      ∷ (answer signalled (turn 2 act.Acknowledge) free own 1 Acknowledge gives refused 15)
      ∷ (answer signalled Settled free own 1 Acknowledge gives refused 15)
      ∷ []

  -- "says CVT or VNS, the new direction", "says CVTz or VNSz"
  unfoldable pub announced : Walk → Post → ℕ → (ℕ → Step) → Verdict
  unfolding answer
  announced walk own j x = verdict_on (standing w signalled walk free (place w j) own) (step_on w.track (x (place w j)))

  abbrev announcements : Post → List (Row Verdict)
  announcements own =
      (announced (turn 0 act.Announce) own 0 Announce gives vns_else w (Ok Cvt) (Ok Vns))
      ∷ (announced (turn 1 act.Announce) own 1 Announce gives vns_else w (Ok Cvt) (Ok Vns))
      ∷ (announced (turn 1 act.Acknowledge) own 1 Acknowledge gives vns_else w (Ok Cvtz) (Ok Vnsz))
      ∷ (announced (turn 3 act.Acknowledge) own 3 Acknowledge gives vns_else w (Ok Cvtz) (Ok Vnsz))
      ∷ []

  -- ## Kind 12, release: "15; 12 the last post; 21; 13; 17"

  -- the last trains that entered the block sections of the run are 6, 7 and 8
  unfoldable pub released : Settings → Walk → List ℕ → Post → ℕ → ℕ → Failing
  unfolding answer
  released c walk trains own j number =
      failing (Release (place w j) number)
      (changed_track w.track (holding_last (in_the_run w (6 ∷ 7 ∷ 8 ∷ []))) (standing w c walk trains (place w j) own))

  abbrev release : (Post → Post) → Answers
  release more =
      -- "in turn where set is, or at the sending end with no reversal under way"
      (released signalled (turn 1 act.Set) free (more (faulty One true blank)) 1 7 gives accepted)
      ∷ (released signalled (turn 0 act.Set) free (more (faulty One true blank)) 0 6 gives accepted)
      ∷ (released signalled Settled free (more (faulty One true blank)) 0 6 gives accepted)
      ∷ (released signalled Settled free (more (faulty One true blank)) 1 7 gives refused 15)
      ∷ (released signalled (turn 1 act.Announce) free (more (faulty One true blank)) 1 7 gives refused 15)
      ∷ (released signalled (turn 1 act.Acknowledge) free (more (faulty One true blank)) 1 7 gives refused 15)
      ∷ (released signalled (turn 2 act.Set) free (more (faulty One true blank)) 1 7 gives refused 15)
      ∷ (released signalled (turn 1 act.Set) free (more (faulty One true blank)) 0 6 gives refused 15)
      ∷ (released signalled Settled free (more (faulty One true blank)) 3 0 gives 15 ∷ 12 ∷ [])
      -- "the last post"; a post without signals "is given 12 by release"
      ∷ (released signalled (turn 3 act.Set) free (more (faulty One true blank)) 3 0 gives refused 12)
      ∷ (released without1 (turn 1 act.Set) free (more (faulty One true blank)) 1 7 gives telephone_else form accepted (refused 12))
      -- "release: no fault 1, and nothing else: with a mark already there it is accepted"
      ∷ (released signalled (turn 1 act.Set) free (more (others One)) 1 7 gives refused 21)
      ∷ (released signalled Settled free (more (others One)) 0 6 gives refused 21)
      ∷ (released signalled (turn 1 act.Set) free (more (marked true (others Two))) 1 7 gives accepted)
      ∷ (released signalled Settled free (more (marked true (others Two))) 0 6 gives accepted)
      -- "one in the block section ahead"; materialised: in the part
      ∷ (released signalled (turn 1 act.Set) in_first (more (faulty One true blank)) 1 7 gives accepted)
      ∷ (released signalled (turn 1 act.Set) in_second (more (faulty One true blank)) 1 7 gives refused 13)
      ∷ (released signalled (turn 1 act.Set) in_third (more (faulty One true blank)) 1 7 gives accepted)
      ∷ (released signalled Settled in_first (more (faulty One true blank)) 0 6 gives refused 13)
      ∷ (released without2 (turn 1 act.Set) in_third (more (faulty One true blank)) 1 7 gives telephone_else form accepted (refused 13))
      ∷ (released without1 Settled in_second (more (faulty One true blank)) 0 6 gives telephone_else form accepted (refused 13))
      ∷ (released without1 Settled in_third (more (faulty One true blank)) 0 6 gives accepted)
      -- "not the last train that entered the block section ahead"
      ∷ (released signalled (turn 1 act.Set) free (more (faulty One true blank)) 1 6 gives refused 17)
      ∷ (released signalled (turn 1 act.Set) free (more (faulty One true blank)) 1 8 gives refused 17)
      ∷ (released signalled (turn 1 act.Set) free (more (faulty One true blank)) 1 0 gives refused 17)
      ∷ (released signalled Settled free (more (faulty One true blank)) 0 7 gives refused 17)
      ∷ []

  -- ## Kinds 5 and 6, start and pass: "11; 12 not the sending end; 17; 13; 18", "12 an end post; 17; 13", then 22

  abbrev starting : ℕ → ℕ → Step
  starting number p = Start p number

  abbrev start : (Post → Post) → Answers
  start more =
      (answer signalled Settled free (more blank) 0 (starting 7) gives accepted)
      ∷ (answer signalled (turn 0 act.Set) free (more blank) 0 (starting 7) gives refused 11)
      ∷ (answer signalled (turn 3 act.Acknowledge) free (more blank) 0 (starting 7) gives refused 11)
      ∷ (answer signalled Settled free (more blank) 1 (starting 7) gives refused 12)
      ∷ (answer signalled Settled free (more (permitted true blank)) 3 (starting 7) gives refused 12)
      -- "number already on this track"
      ∷ (answer signalled Settled in_third (more blank) 0 (starting 5) gives refused 17)
      ∷ (answer signalled Settled in_third (more blank) 0 (starting 7) gives accepted)
      -- "a train in that stretch": "for VNS, one block section. For CVT it reaches from one signalled post to the next", in both forms
      ∷ (answer signalled Settled in_first (more blank) 0 (starting 7) gives refused 13)
      ∷ (answer signalled Settled in_second (more blank) 0 (starting 7) gives accepted)
      ∷ (answer without1 Settled in_second (more blank) 0 (starting 7) gives vns_else w accepted (refused 13))
      ∷ (answer without1 Settled in_third (more blank) 0 (starting 7) gives accepted)
      ∷ (answer ends_only Settled in_third (more blank) 0 (starting 7) gives vns_else w accepted (refused 13))
      -- "fault 1 without a mark"; no other fault, and no mark without it
      ∷ (answer signalled Settled free (more (faulty One true blank)) 0 (starting 7) gives refused 18)
      ∷ (answer without1 Settled free (more (faulty One true blank)) 0 (starting 7) gives refused 18)
      ∷ (answer signalled Settled free (more (marked true (faulty One true blank))) 0 (starting 7) gives accepted)
      ∷ (answer signalled Settled free (more (marked true (others One))) 0 (starting 7) gives accepted)
      ∷ (answer signalled Settled free (more (others One)) 0 (starting 7) gives accepted)
      ∷ []

  abbrev passing : ℕ → ℕ → Step
  passing number p = Pass p number

  -- it looks at no walk, and of the post's record at fault 4 and the caution form alone
  abbrev pass : Post → Answers
  pass own =
      (answer signalled Settled in_first own 1 (passing 5) gives accepted)
      ∷ (answer signalled Settled in_third own 3 (passing 5) gives refused 12)
      ∷ (answer signalled Settled free own 0 (passing 5) gives 12 ∷ 17 ∷ [])
      -- "that train isn't in the block section before the post"
      ∷ (answer signalled Settled in_first own 1 (passing 7) gives refused 17)
      ∷ (answer signalled Settled in_first own 2 (passing 5) gives refused 17)
      ∷ (answer signalled Settled in_third own 1 (passing 5) gives refused 17)
      -- "pass at a post that begins a stretch: a train in that stretch. Pass elsewhere: never."
      ∷ (answer signalled Settled (5 ∷ 6 ∷ 0 ∷ []) own 1 (passing 5) gives refused 13)
      ∷ (answer signalled Settled (5 ∷ 0 ∷ 6 ∷ []) own 1 (passing 5) gives accepted)
      ∷ (answer without1 Settled (5 ∷ 6 ∷ 0 ∷ []) own 1 (passing 5) gives vns_else w (refused 13) accepted)
      ∷ (answer without2 Settled (5 ∷ 0 ∷ 6 ∷ []) own 1 (passing 5) gives vns_else w accepted (refused 13))
      ∷ (answer signalled (turn 0 act.Set) in_first own 1 (passing 5) gives accepted)
      ∷ (answer signalled (turn 1 act.Set) in_first own 1 (passing 5) gives accepted)
      ∷ []

  -- a crossing in the block section ahead of the post at place j, with announcing zones in the counter direction, and without
  abbrev with_zones : ℕ → Settings
  with_zones j = with_crossings (block_after w j ∷ []) signalled

  abbrev without_zones : ℕ → Settings
  without_zones j = with_crossings ((128 + block_after w j) ∷ []) signalled

  -- 22, of the entry of train 5 at place j, with these trains on the track
  abbrev entering : (Post → Post) → (ℕ → Step) → ℕ → ℕ → List ℕ → Answers
  entering more x j elsewhere trains =
      (answer (with_zones j) Settled trains (more blank) j x gives accepted)
      -- "under fault 4": the other faults do not count, nor a crossing elsewhere
      ∷ (answer (with_zones j) Settled trains (more (faulty Four true blank)) j x gives refused 22)
      ∷ (answer (without_zones j) Settled trains (more (faulty Four true blank)) j x gives refused 22)
      ∷ (answer (with_zones elsewhere) Settled trains (more (faulty Four true blank)) j x gives accepted)
      -- "or in CVT without zones"
      ∷ (answer (without_zones j) Settled trains (more blank) j x gives vns_else w accepted (refused 22))
      ∷ (answer (without_zones elsewhere) Settled trains (more blank) j x gives accepted)
      -- "needs an E.S. 379 form for that train"
      ∷ (answer (with_zones j) Settled trains (more (cautioned 5 (faulty Four true blank))) j x gives accepted)
      ∷ (answer (with_zones j) Settled trains (more (cautioned 6 (faulty Four true blank))) j x gives refused 22)
      ∷ (answer (without_zones j) Settled trains (more (cautioned 5 blank)) j x gives accepted)
      ∷ (answer (without_zones j) Settled trains (more (cautioned 6 blank)) j x gives vns_else w accepted (refused 22))
      ∷ []

  abbrev entries : (Post → Post) → Answers
  entries more = entering more (starting 5) 0 1 free ++ entering more (passing 5) 1 0 in_first ++ entering more (passing 5) 2 0 in_second

  -- ## Kind 7, leave: "12 not the receiving end; 17"

  abbrev leaving : ℕ → ℕ → Step
  leaving number p = Leave p number

  abbrev leave : Post → Answers
  leave own =
      (answer signalled Settled in_third own 3 (leaving 5) gives accepted)
      ∷ (answer signalled (turn 0 act.Set) in_third own 3 (leaving 5) gives accepted)
      ∷ (answer signalled Settled in_second own 2 (leaving 5) gives refused 12)
      ∷ (answer signalled Settled free own 0 (leaving 5) gives 12 ∷ 17 ∷ [])
      ∷ (answer signalled Settled in_third own 3 (leaving 7) gives refused 17)
      ∷ (answer signalled Settled in_second own 3 (leaving 5) gives refused 17)
      ∷ []

  -- ## Kinds 8 to 11, measures and faults: "21"; "21; 16"; "21"; "21"

  abbrev of_fault : (Post → Post) → Fault → Answers
  of_fault more f =
      (answer signalled Settled free (more blank) 1 (λ p. FaultOn p f) gives accepted)
      ∷ (answer signalled Settled free (more (others f)) 1 (λ p. FaultOn p f) gives accepted)
      ∷ (answer signalled Settled free (more (faulty f true blank)) 1 (λ p. FaultOn p f) gives refused 21)
      ∷ (answer signalled Settled free (more (faulty f true blank)) 1 (λ p. FaultOff p f) gives accepted)
      ∷ (answer signalled Settled free (more (others f)) 1 (λ p. FaultOff p f) gives refused 21)
      -- in a reversal, with a train ahead, at a post without signals, at the receiving end
      ∷ (answer without1 (turn 1 act.Set) in_second (more (others f)) 1 (λ p. FaultOn p f) gives accepted)
      ∷ (answer without1 (turn 1 act.Set) in_second (more (faulty f true blank)) 1 (λ p. FaultOff p f) gives accepted)
      ∷ (answer signalled Settled in_third (more (others f)) 3 (λ p. FaultOn p f) gives accepted)
      ∷ []

  abbrev measures : (Post → Post) → Answers
  measures more =
      (answer signalled Settled free (more blank) 1 MeasuresOn gives accepted)
      ∷ (answer signalled Settled free (more (turned true blank)) 1 MeasuresOn gives accepted)
      ∷ (answer signalled (turn 1 act.Set) in_second (more blank) 1 MeasuresOn gives accepted)
      ∷ (answer signalled Settled free (more ready) 1 MeasuresOn gives refused 21)
      ∷ (answer signalled Settled free (more ready) 1 MeasuresOff gives accepted)
      ∷ (answer signalled (turn 1 act.Set) in_second (more ready) 1 MeasuresOff gives accepted)
      ∷ (answer signalled Settled free (more blank) 1 MeasuresOff gives refused 21)
      -- "measures off with the device at CVT", whatever the running direction
      ∷ (answer signalled Settled free (more (turned true ready)) 1 MeasuresOff gives refused 16)
      ∷ (answer signalled (turn 1 act.Set) free (more (turned true ready)) 1 MeasuresOff gives refused 16)
      ∷ []

  -- ## Kind 14, a caution form: "12 where no crossing lies in the block section ahead"

  -- handed out at the post from which block section i is entered, on a line with these bytes of crossings
  abbrev handed_out : List ℕ → ℕ → Failing
  handed_out bytes i = failing (Caution (entry w i) 7) (standing w (with_crossings bytes signalled) Settled free 0 blank)

  abbrev caution : Post → Answers
  caution own =
      (answer (with_zones 1) Settled free own 1 (λ p. Caution p 7) gives accepted)
      ∷ (answer (without_zones 1) (turn 1 act.Set) in_second own 1 (λ p. Caution p 7) gives accepted)
      ∷ (answer (with_zones 1) Settled free own 0 (λ p. Caution p 7) gives refused 12)
      ∷ (answer (with_zones 1) Settled free own 2 (λ p. Caution p 7) gives refused 12)
      ∷ (answer (with_zones 2) Settled free own 3 (λ p. Caution p 7) gives refused 12)
      -- any of the eight bytes
      ∷ (handed_out (0 ∷ 1 ∷ 1 ∷ 1 ∷ 1 ∷ 1 ∷ 1 ∷ 2 ∷ []) 0 gives accepted)
      ∷ (handed_out (0 ∷ 0 ∷ 0 ∷ 1 ∷ 2 ∷ 2 ∷ 2 ∷ 2 ∷ []) 1 gives accepted)
      ∷ (handed_out (0 ∷ 0 ∷ 0 ∷ 0 ∷ 0 ∷ 0 ∷ 0 ∷ 2 ∷ []) 2 gives accepted)
      ∷ (handed_out (0 ∷ 0 ∷ 0 ∷ 0 ∷ 0 ∷ 0 ∷ 0 ∷ 130 ∷ []) 2 gives accepted)
      ∷ (handed_out (0 ∷ 0 ∷ 0 ∷ 0 ∷ 0 ∷ 0 ∷ 0 ∷ 2 ∷ []) 1 gives refused 12)
      ∷ []

  -- 22 by the eighth byte, of a start into the first block section
  abbrev by_the_eighth : Answers
  by_the_eighth =
      let i = block_after w 0 in
      (answer (with_crossings (i ∷ i ∷ i ∷ i ∷ i ∷ i ∷ i ∷ (128 + i) ∷ []) signalled) Settled free blank 0 (starting 7)
      gives vns_else w accepted (refused 22))
      ∷ []

  -- ## The longest line, of sixteen posts

  abbrev longest : ℕ → Settings
  longest mask = form 16 mask

  abbrev far_away : Walk → List ℕ → Post → ℕ → (ℕ → Step) → Settings → Failing
  far_away walk trains own j x c = failing (x (place_of w 16 j)) (standing w c walk trains (place_of w 16 j) own)

  -- train 5 in the tenth block section of the run, and in the last
  abbrev in_tenth : List ℕ
  in_tenth = replicate 9 0 ++ 5 ∷ replicate 5 0

  abbrev in_last : List ℕ
  in_last = replicate 14 0 ++ 5 ∷ []

  abbrev mask_without9 : ℕ
  mask_without9 = cond w.upward 65023 65471

  -- only the ends are signalled; all posts are; all but the one at place 9 are
  abbrev long : Answers
  long =
      (far_away Settled in_last blank 0 Order (longest 32769) gives refused 13)
      ∷ (far_away Settled in_last blank 0 Order (longest 65535) gives telephone_else form (refused 13) accepted)
      ∷ (far_away (Turn (place_of w 16 0) act.Set) in_last ready 0 Set (longest 32769) gives telephone_else form accepted (refused 13))
      ∷ (far_away Settled in_last blank 0 (starting 7) (longest 32769) gives vns_else w accepted (refused 13))
      ∷ (far_away Settled in_last blank 0 (starting 5) (longest 65535) gives refused 17)
      ∷ (far_away Settled in_last blank 15 (leaving 5) (longest 32769) gives accepted)
      ∷ (far_away (Turn (place_of w 16 8) act.Set) in_tenth ready 8 Set (longest 65535) gives accepted)
      ∷ (far_away (Turn (place_of w 16 8) act.Set) in_tenth ready 8 Set (longest mask_without9) gives telephone_else form accepted (refused 13))
      ∷ (far_away (Turn (place_of w 16 9) act.Set) in_tenth ready 9 Set (longest mask_without9) gives telephone_else form (refused 13) accepted)
      ∷ (far_away Settled (replicate 15 0) blank 14 (λ p. Caution p 7) (with_crossings (cond w.upward 14 0 ∷ []) (longest 65535)) gives accepted)
      ∷ []

-- ## The tables

-- a post that has nothing on track A, and everything on track B
abbrev whatever : Way → Post
whatever w = cond w.track full blank

-- a post as it is on track A, and on track B with more that its step takes no notice of
abbrev on_b : (Post → Post) → Way → Post → Post
on_b more w o = cond w.track (more o) o

pub order_answers : Holds (every_way (λ form w. order form w (whatever w)))
unfolding released ordered
order_answers = refl

pub set_and_key_answers : Holds (every_way (λ form w. set_and_key form w (on_b laden w)))
unfolding answer
set_and_key_answers = refl

pub announce_and_acknowledge_answers : Holds (every_way (λ form w. announce_and_acknowledge form w (whatever w)))
unfolding answer
announce_and_acknowledge_answers = refl

pub what_is_announced : Holds (every_way (λ form w. announcements form w (whatever w)))
unfolding announced
what_is_announced = refl

pub release_answers : Holds (every_way (λ form w. release form w (on_b laden_more w)))
unfolding released
release_answers = refl

pub start_answers : Holds (every_way (λ form w. start form w (on_b laden_more w)))
unfolding answer
start_answers = refl

pub pass_answers : Holds (every_way (λ form w. pass form w (whatever w)))
unfolding answer
pass_answers = refl

pub entry_answers : Holds (every_way (λ form w. entries form w (on_b under_faults w) ++ by_the_eighth form w))
unfolding answer
entry_answers = refl

pub leave_answers : Holds (every_way (λ form w. leave form w (whatever w)))
unfolding answer
leave_answers = refl

pub measures_answers : Holds (every_way (λ form w. measures form w (on_b troubled w)))
unfolding answer
measures_answers = refl

pub fault_answers : Holds (every_way (λ form w. each (One ∷ Two ∷ Three ∷ Four ∷ []) (of_fault form w (on_b furnished w))))
unfolding answer
fault_answers = refl

pub caution_answers : Holds (every_way (λ form w. caution form w (whatever w)))
unfolding answer
caution_answers = refl

pub answers_on_the_longest_line : Holds (every_way long)
unfolding answer
answers_on_the_longest_line = refl
