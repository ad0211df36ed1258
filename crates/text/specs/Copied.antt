-- A text copied to the front of a lent buffer.
use Rattle.std.specs.Prelude.{ℕ, cond, List, ◌++◌, ltb, length, drop}
use Rattle.std.specs.Prelude.{Ok, Err}
use Rattle.section.specs.declared.CallRefusal.TheVariants.{NoRoom}
use Rattle.section.specs.Refusal.{Outcome}
use Rattle.section.specs.Outcome.{if_done}

-- 5, as for the writer: "buffer is too short"; else how many bytes the text has
unfoldable pub copied : List ℕ → List ℕ → Outcome
copied text buffer = cond (ltb (length buffer) (length text)) (Err NoRoom) (Ok (length text))

-- the buffer afterwards: the text at its front and the rest untouched; the whole of it untouched where it is too short
unfoldable pub copied_out : List ℕ → List ℕ → List ℕ
copied_out text buffer = if_done (copied text buffer) (text ++ drop (length text) buffer) buffer
