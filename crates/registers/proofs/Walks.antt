-- One turn of the walk over two books: what the lists from record i of the one and record j of the other give.
use mathlib.Core.Path.{◌≡◌}
use mathlib.Core.Bool.{true, false}
use mathlib.Core.List.{List, [], ◌∷◌}
use Prim.Native.Nat.{ℕ, ◌+◌, ◌/◌, ◌<◌, ◌≤◌}
use native.Mathlib.Numerals.{add-one}
use Rattle.std.specs.Prelude.{Ok, Err}
use lib.ListN.{length}
use Rattle.registers.specs.declared.Book.{Book}
use Rattle.registers.specs.declared.Entry.{Entry}
use Rattle.registers.specs.declared.Mismatch.TheVariants.{Differs}
use Rattle.registers.specs.declared.TravelRange.{TravelRange}
use Rattle.registers.specs.Books.{entry_at, same_message, sent_mark, received_mark}
use Rattle.registers.specs.Walk.{travel, with_message, going_from, walked, with_sender}
use Rattle.registers.proofs.Lists.{going_this, going_none}

module _ (sender : Book) (s r : List ℕ) (i j index : ℕ) (t : TravelRange) where
  pub both_end :
      length s / 8 ≤ i → going_from received_mark r j ≡ [] →
      with_sender sender (walked index t (going_from sent_mark s i) (going_from received_mark r j)) ≡ Ok t
  unfolding walked with_sender
  both_end e f = rw (going_none sent_mark s i e, f)

  pub sender_ends :
      (b : Entry) (m : List Entry) → length s / 8 ≤ i → going_from received_mark r j ≡ b ∷ m →
      with_sender sender (walked index t (going_from sent_mark s i) (going_from received_mark r j)) ≡ Err (Differs sender index)
  unfolding walked with_sender
  sender_ends b m e f = rw (going_none sent_mark s i e, f)

  pub receiver_ends :
      i < length s / 8 → (entry_at s i).direction ≡ sent_mark → going_from received_mark r j ≡ [] →
      with_sender sender (walked index t (going_from sent_mark s i) (going_from received_mark r j)) ≡ Err (Differs sender index)
  unfolding walked with_sender
  receiver_ends h p f = rw (going_this sent_mark s i h p, f)

  pub unlike :
      (b : Entry) (m : List Entry) → i < length s / 8 → (entry_at s i).direction ≡ sent_mark → going_from received_mark r j ≡ b ∷ m →
      same_message (entry_at s i) b ≡ false →
      with_sender sender (walked index t (going_from sent_mark s i) (going_from received_mark r j)) ≡ Err (Differs sender index)
  unfolding walked with_sender
  unlike b m h p f e = rw (going_this sent_mark s i h p, f, e)

module _ (s r : List ℕ) (i j index : ℕ) (t : TravelRange) where
  pub alike :
      (b : Entry) (m : List Entry) → i < length s / 8 → (entry_at s i).direction ≡ sent_mark → going_from received_mark r j ≡ b ∷ m →
      same_message (entry_at s i) b ≡ true →
      walked index t (going_from sent_mark s i) (going_from received_mark r j)
      ≡ walked (index + 1) (with_message t (travel (entry_at s i) b)) (going_from sent_mark s (i + 1)) m
  unfolding walked
  alike b m h p f e = rw (going_this sent_mark s i h p, f, e, add-one index)
