-- Small books, by computation.
use mathlib.Core.Path.{◌≡◌, refl}
use mathlib.Core.Bool.{Bool}
use mathlib.Core.List.{List, [], ◌∷◌, ◌++◌}
use Prim.Native.Nat.{ℕ}
use Rattle.std.specs.Prelude.{Option, Some, None, Result, Ok, Err}
use Rattle.section.specs.Bytes.{within}
use Rattle.layout.specs.Layout.{le32, le32_at, le32_bytes, step_count}
use Rattle.text.specs.Text.{ascii, decimal, decimal_digits}
use Rattle.file_tests.specs.Tests.{leading}
use Rattle.registers.specs.declared.Book.{Book}
use Rattle.registers.specs.declared.Book.TheVariants.{First, Second}
use Rattle.registers.specs.declared.Mismatch.{Mismatch}
use Rattle.registers.specs.declared.Mismatch.TheVariants.{Differs, Malformed}
use Rattle.registers.specs.Books.{entry_at, entry_well_formed, earlier_at, well_at, first_malformed, some_malformed, entries_from, going, entries}
use Rattle.registers.specs.Books.{sent, received, same_message, same_list, first_difference, first_clock, second_clock, arrives, all_arrive, fits}
use Rattle.registers.specs.Books.{smallest_offset, offset_answer, match_answer, comparison}
use Rattle.registers.specs.Answers.{refusal_number, which_by}
use Rattle.registers.specs.Words.{line, offset_line, difference_line, malformed_line, answer_line_by, answer_line}
use Rattle.registers.specs.Promises.{EmptyBooks}
use Rattle.registers.specs.Examples.{record_of, sends, receives, announcing, acknowledging, two, gets}

-- unfolded, an answer computes: the tests of the records, the lists, the offset
unfoldable tested : List ℕ → Bool
unfolding some_malformed first_malformed leading well_at earlier_at entry_at entry_well_formed within step_count le32_at le32
tested book = some_malformed book

unfoldable listed : List ℕ → List ℕ → Bool
unfolding sent received entries entries_from going same_message same_list first_difference
listed first second = same_list (sent first) (received second)

unfoldable written : ℕ → ℕ → ℕ → List ℕ
unfolding le32_bytes record_of sends receives announcing acknowledging two gets
written announcement track second = sends announcement track second

unfoldable computed : List ℕ → List ℕ → Result (Option ℕ) (Mismatch Book)
unfolding written tested listed comparison match_answer offset_answer smallest_offset fits all_arrive arrives first_clock second_clock
computed first second = comparison first second

pub empty_books : EmptyBooks
unfolding computed
empty_books = refl

-- the smallest of the offsets 10 to 30
answered : comparison announcing acknowledging ≡ Ok (Some 130)
unfolding computed
answered = refl

-- the books exchanged: the smallest of −30 to −10
other_way : comparison acknowledging announcing ≡ Ok (Some 90)
unfolding computed
other_way = refl

-- −120 is the only offset: 60 seconds after it was sent
least_offset : comparison (sends 1 0 0) (receives 1 0 180) ≡ Ok (Some 0)
unfolding computed
least_offset = refl

-- −121 would be
below_least : comparison (sends 1 0 0) (receives 1 0 181) ≡ Ok None
unfolding computed
below_least = refl

-- 120 is the smallest: 0 seconds after it was sent
most_offset : comparison (sends 1 0 1000) (receives 1 0 880) ≡ Ok (Some 240)
unfolding computed
most_offset = refl

-- 121 would be
above_most : comparison (sends 1 0 1000) (receives 1 0 879) ≡ Ok None
unfolding computed
above_most = refl

-- each message alone would have an offset
never_both : comparison (two 1000 2000) (gets 1000 2061) ≡ Ok None
unfolding computed
never_both = refl

-- one second less, and 0 is the only one
just_both : comparison (two 1000 2000) (gets 1000 2060) ≡ Ok (Some 120)
unfolding computed
just_both = refl

-- the place in the list, not in the book: record 2 of the first book, record 1 of the second
by_list : comparison (receives 2 0 5 ++ (sends 1 0 6 ++ sends 3 0 7)) (receives 1 0 6 ++ (receives 4 0 7 ++ sends 2 0 8)) ≡ Err (Differs First 1)
unfolding computed
by_list = refl

-- the track counts
by_track : comparison (sends 1 0 6) (receives 1 1 6) ≡ Err (Differs First 0)
unfolding computed
by_track = refl

-- a shorter list differs at its end
shorter_received : comparison (two 1000 2000) (receives 3 1 1000) ≡ Err (Differs First 1)
unfolding computed
shorter_received = refl

-- and so does the other
shorter_sent : comparison (sends 3 1 1000) (gets 1000 2000) ≡ Err (Differs First 1)
unfolding computed
shorter_sent = refl

-- sent by the second, and not received
second_pair : comparison [] (sends 3 1 1000) ≡ Err (Differs Second 0)
unfolding computed
second_pair = refl

-- what the first sent is examined first, wherever the other lists differ
first_pair_first : comparison (receives 1 0 1 ++ two 1000 2000) (sends 2 0 1 ++ receives 3 1 1000) ≡ Err (Differs First 1)
unfolding computed
first_pair_first = refl

-- 86,399 is a second of the day, and a second may stay
last_second_lem : comparison (two 86399 86399) (gets 86399 86399) ≡ Ok (Some 120)
unfolding computed
last_second_lem = refl

-- 86,400 is none
no_second : comparison (sends 1 0 86400) [] ≡ Err (Malformed First 0)
unfolding computed
no_second = refl

-- sent and received together never fall
falling : comparison (sends 1 0 1000 ++ receives 2 0 999) [] ≡ Err (Malformed First 1)
unfolding computed
falling = refl

-- no fifth announcement
fifth : comparison (sends 5 0 1) [] ≡ Err (Malformed First 0)
unfolding computed
fifth = refl

-- and none of number 0
no_announcement : comparison (sends 0 0 1) [] ≡ Err (Malformed First 0)
unfolding computed
no_announcement = refl

-- neither sent nor received
no_direction : comparison [] (record_of 1 2 0 1) ≡ Err (Malformed Second 0)
unfolding computed
no_direction = refl

-- no third track
no_track : comparison (sends 1 2 1) [] ≡ Err (Malformed First 0)
unfolding computed
no_track = refl

-- byte 3 is zero
no_record : comparison (1 ∷ 0 ∷ 0 ∷ 1 ∷ le32_bytes 1) [] ≡ Err (Malformed First 0)
unfolding computed
no_record = refl

-- an incomplete last record
incomplete : comparison announcing (acknowledging ++ (1 ∷ 1 ∷ [])) ≡ Err (Malformed Second 2)
unfolding computed
incomplete = refl

-- the first book first, wherever the second has its fault
first_book_first : comparison (announcing ++ (0 ∷ [])) (sends 0 0 1) ≡ Err (Malformed First 2)
unfolding computed
first_book_first = refl

-- ## Numbers and words

number_24 : refusal_number (Err (Malformed Second 2)) ≡ 24
unfolding refusal_number
number_24 = refl

-- a number that is no book's is told as it is
number_7 : (which_by (λ number. number) (Err (Differs 7 31)) ≡ 7) × (which_by (λ number. number) (Err (Malformed 7 2)) ≡ 7)
unfolding which_by
number_7 = (refl, refl)

in_words :
    (answer_line (Ok (Some 90)) ≡ ascii "the books match, offset -30\n")
    × ((answer_line (Ok (Some 120)) ≡ ascii "the books match, offset 0\n")
    × ((answer_line (Ok None) ≡ ascii "the books match, no offset\n")
    × ((answer_line (Err (Differs Second 31)) ≡ ascii "the lists differ, sent by the second book, index 31\n")
    × (answer_line (Err (Malformed First 65535)) ≡ ascii "refused 24, first book, index 65535\n"))))
unfolding answer_line_by offset_line difference_line malformed_line line decimal decimal_digits
in_words = (refl, (refl, (refl, (refl, refl))))

-- in words it stands for the second book
seven_in_words :
    (answer_line_by (λ number. number) (Err (Differs 7 31)) ≡ ascii "the lists differ, sent by the second book, index 31\n")
    × (answer_line_by (λ number. number) (Err (Malformed 7 2)) ≡ ascii "refused 24, second book, index 2\n")
unfolding answer_line_by difference_line malformed_line line decimal decimal_digits
seven_in_words = (refl, refl)
