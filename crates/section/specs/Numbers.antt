-- The numbers of documents 01 and 02, each once: limits, lengths, kinds of steps.
use Rattle.std.specs.Prelude.{ℕ}

abbrev pub least_posts : ℕ
least_posts = 2

abbrev pub most_posts : ℕ
most_posts = 16

-- block sections: one fewer
abbrev pub most_blocks : ℕ
most_blocks = 15

abbrev pub largest_line : ℕ
largest_line = 999

-- "Works trains have numbers up to 59,999." (document 02, request 5)
abbrev pub largest_train : ℕ
largest_train = 59999

abbrev pub most_seals : ℕ
most_seals = 999

-- bytes of a step
abbrev pub step_length : ℕ
step_length = 8

-- the faults of a post: 1 to 4
abbrev pub last_fault : ℕ
last_fault = 4

-- level crossings in the settings
abbrev pub most_crossings : ℕ
most_crossings = 8

-- a byte of the crossings that is unused
abbrev pub unused : ℕ
unused = 255

-- what such a byte has more where there are no counter-direction announcing zones
abbrev pub no_zones : ℕ
no_zones = 128

-- ## Kinds of steps, as byte 0 holds them

abbrev pub order_kind : ℕ
order_kind = 1

abbrev pub set_kind : ℕ
set_kind = 2

abbrev pub announce_kind : ℕ
announce_kind = 3

abbrev pub acknowledge_kind : ℕ
acknowledge_kind = 4

abbrev pub start_kind : ℕ
start_kind = 5

abbrev pub pass_kind : ℕ
pass_kind = 6

abbrev pub leave_kind : ℕ
leave_kind = 7

abbrev pub measures_on_kind : ℕ
measures_on_kind = 8

abbrev pub measures_off_kind : ℕ
measures_off_kind = 9

abbrev pub fault_on_kind : ℕ
fault_on_kind = 10

abbrev pub fault_off_kind : ℕ
fault_off_kind = 11

abbrev pub release_kind : ℕ
release_kind = 12

abbrev pub key_kind : ℕ
key_kind = 13

abbrev pub caution_kind : ℕ
caution_kind = 14

-- they are numbered from 1 on
abbrev pub last_kind : ℕ
last_kind = caution_kind
