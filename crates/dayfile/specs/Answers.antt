-- The order of the tests, and the answers of the reader and the writer (document 01, "Refusals from the input").
use Rattle.std.specs.Prelude.{ℕ, not, cond, ◌||◌, List, ◌++◌, length, drop, ltb}
use Rattle.std.specs.Prelude.{Result, Ok, Err}
use Rattle.section.specs.declared.CallRefusal.{CallRefusal}
use Rattle.section.specs.declared.CallRefusal.TheVariants.{WrongLength, WrongTrailer, WrongSettings, MalformedStep, NoRoom}
use Rattle.section.specs.Refusal.{Outcome}
use Rattle.section.specs.declared.Settings.{Settings}
use Rattle.section.specs.Outcome.{if_done}
use Rattle.section.specs.Settings.{settings_in_range}
use Rattle.layout.specs.Layout.{most_steps, steps_distance, tail_of, step_count, file_of, settings_in, steps_in, settings_of}
use Rattle.file_tests.specs.Tests.{length_wrong, trailer_fits, settings_well_formed, first_malformed, some_malformed}
use Rattle.dayfile.specs.declared.ReadDay.{ReadDay}

-- ## The reader

-- "tested in this order, with the index of the first malformed step for 4 and zero otherwise"; else the settings, and how many steps are read
unfoldable pub read_of : List ℕ → Result ReadDay CallRefusal
read_of file =
    cond (length_wrong (length file)) (Err WrongLength)
    (cond (not (trailer_fits file)) (Err WrongTrailer)
    (cond (not (settings_well_formed (settings_in file))) (Err WrongSettings)
    (cond (some_malformed (settings_of (settings_in file)).posts (steps_in file))
    (Err (MalformedStep (first_malformed (settings_of (settings_in file)).posts (steps_in file))))
    (Ok (record { settings = settings_of (settings_in file); count = step_count (steps_in file) })))))

-- how many steps are read, or the refusal
unfoldable pub counted : Result ReadDay CallRefusal → Outcome
counted (Ok day) = Ok day.count
counted (Err refusal) = Err refusal

-- ## The writer

-- 3, then 4 over all steps given, then 5: "the writer's buffer is too short (after 3 and 4), or more than 4,096 steps"; else
-- how many bytes are written
unfoldable pub write_verdict : Settings → List ℕ → ℕ → Outcome
write_verdict c steps room =
    cond (not (settings_in_range c)) (Err WrongSettings)
    (cond (some_malformed c.posts steps) (Err (MalformedStep (first_malformed c.posts steps)))
    (cond (ltb most_steps (step_count steps) || ltb room (steps_distance (tail_of c) (step_count steps))) (Err NoRoom)
    (Ok (steps_distance (tail_of c) (step_count steps)))))

-- the buffer afterwards: the file at its front and the rest untouched; the whole of it untouched by a refusal
unfoldable pub written_into : Settings → List ℕ → List ℕ → List ℕ
written_into c steps buffer =
    if_done (write_verdict c steps (length buffer)) (file_of c steps ++ drop (length (file_of c steps)) buffer) buffer
