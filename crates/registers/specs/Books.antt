-- Two posts' books side by side (document 02, request 9). "Neighbouring posts each keep a register of the day."
use Rattle.std.specs.Prelude.{ℕ, zero, suc, ◌+◌, ◌*◌, ◌/◌, Bool, true, false, not, cond, ◌&&◌, List, [], ◌∷◌, length, eqb, ltb, leb, ℤ}
use Rattle.std.specs.Prelude.{Option, Some, None, Result, Ok, Err}
use Rattle.std.proofs.Math.IntN.{sub_ℕ}
use Rattle.section.specs.Bytes.{byte, within}
use Rattle.layout.specs.Layout.{le32_at, step_count}
use Rattle.file_tests.specs.Tests.{leading}
use Rattle.registers.specs.declared.Entry.{Entry}
use Rattle.registers.specs.declared.Book.{Book}
use Rattle.registers.specs.declared.Book.TheVariants.{First, Second}
use Rattle.registers.specs.declared.Mismatch.{Mismatch}
use Rattle.registers.specs.declared.Mismatch.TheVariants.{Differs, Malformed}

-- ## The numbers of the request

abbrev pub record_length : ℕ
record_length = 8

-- "announcement (1 CVT, 2 CVTz, 3 VNS, 4 VNSz)"
abbrev pub first_announcement : ℕ
first_announcement = 1

abbrev pub last_announcement : ℕ
last_announcement = 4

-- "sent 0 or received 1"
abbrev pub sent_mark : ℕ
sent_mark = 0

abbrev pub received_mark : ℕ
received_mark = 1

-- the tracks are 0 and 1
abbrev pub last_track : ℕ
last_track = 1

-- "the second of the day, 0 to 86,399"
abbrev pub last_second : ℕ
last_second = 86399

-- "0 to 60 seconds after it was sent"
abbrev pub longest_travel : ℕ
longest_travel = 60

-- "from −120 to 120 seconds"
abbrev pub largest_offset : ℕ
largest_offset = 120

-- the books, and the pairs of lists: 0 is what the first book sent beside what the second received, 1 the other
abbrev pub the_first : ℕ
the_first = 0

abbrev pub the_second : ℕ
the_second = 1

-- ## Records

-- "8-byte records: announcement, sent 0 or received 1, track, zero, then the second of the day, as a 32-bit little-endian number"
unfoldable pub entry_at : List ℕ → ℕ → Entry
entry_at book i = record {
  announcement = byte book (i * record_length);
  direction = byte book (i * record_length + 1);
  track = byte book (i * record_length + 2);
  zero = byte book (i * record_length + 3);
  second = le32_at book (i * record_length + 4);
}

-- a record that stands after one of second `earlier`: "never falling"
unfoldable pub entry_well_formed : ℕ → Entry → Bool
entry_well_formed earlier e =
    within first_announcement last_announcement e.announcement
    && (leb e.direction received_mark
    && (leb e.track last_track
    && (eqb e.zero 0 && (leb e.second last_second && leb earlier e.second))))

-- the second of the record before record i; 0 before the first
unfoldable pub earlier_at : List ℕ → ℕ → ℕ
earlier_at book zero = 0
earlier_at book (suc i) = (entry_at book i).second

-- "a malformed record, an incomplete last one included": record i is whole and well formed
unfoldable pub well_at : List ℕ → ℕ → Bool
well_at book i = leb (i * record_length + record_length) (length book) && entry_well_formed (earlier_at book i) (entry_at book i)

-- how many records a book has; an incomplete last one counts
abbrev pub record_count : List ℕ → ℕ
record_count = step_count

-- the "index of the first such"; the number of records where none is
unfoldable pub first_malformed : List ℕ → ℕ
first_malformed book = leading (well_at book) (record_count book)

unfoldable pub some_malformed : List ℕ → Bool
some_malformed book = ltb (first_malformed book) (record_count book)

-- ## The lists of a book

-- n records, from record i on
unfoldable pub entries_from : List ℕ → ℕ → ℕ → List Entry
entries_from book i zero = []
entries_from book i (suc n) = entry_at book i ∷ entries_from book (suc i) n

-- the records of a direction, in their order
unfoldable pub going : ℕ → List Entry → List Entry
going d [] = []
going d (e ∷ l) = cond (eqb e.direction d) (e ∷ going d l) (going d l)

-- the records of a book; where one is incomplete, the whole ones
unfoldable pub entries : List ℕ → List Entry
entries book = entries_from book 0 (length book / record_length)

-- its "sent list" and its "received list"
unfoldable pub sent : List ℕ → List Entry
sent book = going sent_mark (entries book)

unfoldable pub received : List ℕ → List Entry
received book = going received_mark (entries book)

-- ## Where the lists differ

-- "equals .. in announcement and track"
unfoldable pub same_message : Entry → Entry → Bool
same_message a b = eqb a.announcement b.announcement && eqb a.track b.track

-- "if each one's sent list equals the other's received list"
unfoldable pub same_list : List Entry → List Entry → Bool
same_list [] [] = true
same_list [] (b ∷ m) = false
same_list (a ∷ l) [] = false
same_list (a ∷ l) (b ∷ m) = same_message a b && same_list l m

-- "the first place where the lists differ"; "a shorter list differs at its end"
unfoldable pub first_difference : List Entry → List Entry → ℕ
first_difference [] m = 0
first_difference (a ∷ l) [] = 0
first_difference (a ∷ l) (b ∷ m) = cond (same_message a b) (suc (first_difference l m)) 0

-- ## The clock offset

-- An offset is given as k = offset + 120, from 0 (−120) to 240 (120): numbers without a sign compute, and are what the code holds.
unfoldable pub signed_offset : ℕ → ℤ
signed_offset k = sub_ℕ k largest_offset

-- "added to the second book's times": its second t stands for t + offset. Both clocks are read 120 seconds later, so that no time is below 0.
unfoldable pub first_clock : ℕ → ℕ
first_clock t = t + largest_offset

unfoldable pub second_clock : ℕ → ℕ → ℕ
second_clock k t = t + k

-- how many offsets there are: 241
abbrev pub offsets : ℕ
offsets = largest_offset + largest_offset + 1

-- "arrives 0 to 60 seconds after it was sent"
unfoldable pub arrives : ℕ → ℕ → Bool
arrives sent_time received_time = leb sent_time received_time && leb received_time (sent_time + longest_travel)

-- every message of a sent list, beside the other book's received list: the sender's clock, and the receiver's
unfoldable pub all_arrive : (ℕ → ℕ) → (ℕ → ℕ) → List Entry → List Entry → Bool
all_arrive sender receiver [] m = true
all_arrive sender receiver (a ∷ l) [] = true
all_arrive sender receiver (a ∷ l) (b ∷ m) = arrives (sender a.second) (receiver b.second) && all_arrive sender receiver l m

-- the offset k is one "with which every message arrives 0 to 60 seconds after it was sent"
unfoldable pub fits : List ℕ → List ℕ → ℕ → Bool
fits first second k =
    all_arrive first_clock (second_clock k) (sent first) (received second)
    && all_arrive (second_clock k) first_clock (sent second) (received first)

-- "the smallest": how many offsets, from −120 on, do not fit before one that does; 241 where none does
unfoldable pub smallest_offset : List ℕ → List ℕ → ℕ
smallest_offset first second = leading (λ (k : ℕ). not (fits first second k)) offsets

-- "The reply "no offset" comes only if none exists."
unfoldable pub offset_answer : List ℕ → List ℕ → Option ℕ
offset_answer first second =
    cond (ltb (smallest_offset first second) offsets) (Some (smallest_offset first second)) None

-- ## The answer

-- Books that match have an offset or none; those that do not are mismatched by a malformed record or by a difference.

-- of books without a malformed record: the first place where the lists differ, "those sent by the first book examined first"; else the offset
unfoldable pub match_answer : List ℕ → List ℕ → Result (Option ℕ) (Mismatch Book)
match_answer first second =
    cond (not (same_list (sent first) (received second))) (Err (Differs First (first_difference (sent first) (received second))))
    (cond (not (same_list (sent second) (received first))) (Err (Differs Second (first_difference (sent second) (received first))))
    (Ok (offset_answer first second)))

-- "a malformed record .. with book and index of the first such, first book first"
unfoldable pub comparison : List ℕ → List ℕ → Result (Option ℕ) (Mismatch Book)
comparison first second =
    cond (some_malformed first) (Err (Malformed First (first_malformed first)))
    (cond (some_malformed second) (Err (Malformed Second (first_malformed second))) (match_answer first second))
