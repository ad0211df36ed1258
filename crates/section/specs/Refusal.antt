-- The refusals by name, and their figures (document 01, "Refusals from the input", "Refusals from the state"; document 02, request 3).
use Rattle.std.specs.Prelude.{ℕ, Result, Ok, Err}
use Rattle.section.specs.declared.Said.{Said}
use Rattle.section.specs.declared.Refusal.{Refusal}
use Rattle.section.specs.declared.Refusal.TheVariants.{Malformed, OutOfRange, ReversalUnderWay, NoSuchPart, Occupied, OtherNotOnVns, NotItsTurn}
use Rattle.section.specs.declared.Refusal.TheVariants.{MeasuresNeeded, WrongTrain, FaultWithoutMark, DeviceLocked, SealsUsedUp, AlreadySo}
use Rattle.section.specs.declared.Refusal.TheVariants.{CautionFormNeeded}
use Rattle.section.specs.declared.CallRefusal.{CallRefusal}
use Rattle.section.specs.declared.CallRefusal.TheVariants.{WrongLength, WrongTrailer, WrongSettings, MalformedStep}
use Rattle.section.specs.declared.CallRefusal.TheVariants.{NoRoom, StateOutOfRange}

-- what an accepted step says, or why it is refused
abbrev pub Verdict : Type 0
Verdict = Result Said Refusal

unfoldable pub figure : Refusal → ℕ
-- "a step outside the above. A single step offered to the engine is tested alike."
figure Malformed = 4
-- "engine only, before 4: the state handed in has settings or a field outside its range"
figure OutOfRange = 6
-- "a reversal is under way on this track"
figure ReversalUnderWay = 11
-- "this post has no such part, as the table says"; of a caution form: "no crossing lies in the block section ahead"
figure NoSuchPart = 12
-- "occupied"
figure Occupied = 13
-- "order to CVT while the other track isn't settled on VNS (art. 915)"
figure OtherNotOnVns = 14
-- "not this post's turn for it"
figure NotItsTurn = 15
-- "set or key to CVT without measures; measures off with the device at CVT"
figure MeasuresNeeded = 16
-- "start: number already on this track. Pass, leave: that train isn't in the block section before the post. Release: not the last train .."
figure WrongTrain = 17
-- "fault 1 without a mark"
figure FaultWithoutMark = 18
-- "fault 2": "the device stays locked"
figure DeviceLocked = 19
-- "seal count is 999"
figure SealsUsedUp = 20
-- "already so, or not so"
figure AlreadySo = 21
-- "needs an E.S. 379 form for that train"
figure CautionFormNeeded = 22

-- 0, or the refusal: the figure of its name, or the figure that stands for it
unfoldable pub refusal_by : {A R : Type 0} → (R → ℕ) → Result A R → ℕ
refusal_by figure_of (Ok done) = 0
refusal_by figure_of (Err refusal) = figure_of refusal

-- how much is done, or why the call is refused; every call that reads, writes, copies or runs is answered so
abbrev pub Outcome : Type 0
Outcome = Result ℕ CallRefusal

unfoldable pub call_figure : CallRefusal → ℕ
-- "length below 24, above 32,792 or not a multiple of 8"
call_figure WrongLength = 1
-- "trailer mark, distance or count not what the length demands"
call_figure WrongTrailer = 2
-- "settings outside the above"
call_figure WrongSettings = 3
-- "a step outside the above"
call_figure (MalformedStep index) = 4
-- "the writer's buffer is too short (after 3 and 4), or more than 4,096 steps"
call_figure NoRoom = 5
-- "the state handed in has settings or a field outside its range"
call_figure StateOutOfRange = 6

-- "with the index of the first malformed step for 4 and zero otherwise"
unfoldable pub index_of : CallRefusal → ℕ
index_of WrongLength = 0
index_of WrongTrailer = 0
index_of WrongSettings = 0
index_of (MalformedStep index) = index
index_of NoRoom = 0
index_of StateOutOfRange = 0
