-- Books of a few records, to compute with. The answers are in proofs/Examples.antt.
use Rattle.std.specs.Prelude.{ℕ, List, ◌∷◌, ◌++◌}
use Rattle.layout.specs.Layout.{le32_bytes}
use Rattle.registers.specs.Books.{sent_mark, received_mark}

-- the eight bytes of a record
unfoldable pub record_of : ℕ → ℕ → ℕ → ℕ → List ℕ
record_of announcement direction track second = announcement ∷ direction ∷ track ∷ 0 ∷ le32_bytes second

-- announcement, track and second
unfoldable pub sends : ℕ → ℕ → ℕ → List ℕ
sends announcement track second = record_of announcement sent_mark track second

unfoldable pub receives : ℕ → ℕ → ℕ → List ℕ
receives announcement track second = record_of announcement received_mark track second

-- a CVT announced and acknowledged: the second post's clock is 20 seconds behind, and each message takes 10 seconds
unfoldable pub announcing : List ℕ
announcing = sends 1 0 1000 ++ receives 2 0 1040

unfoldable pub acknowledging : List ℕ
acknowledging = receives 1 0 990 ++ sends 2 0 1010

-- messages of the first post that the second receives so much later by its own clock
unfoldable pub two : ℕ → ℕ → List ℕ
two one other = sends 3 1 one ++ sends 4 1 other

unfoldable pub gets : ℕ → ℕ → List ℕ
gets one other = receives 3 1 one ++ receives 4 1 other
