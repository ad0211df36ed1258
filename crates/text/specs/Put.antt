-- A text in a lent buffer, and what is put behind it.
use Rattle.std.specs.Prelude.{ℕ, List, ◌+◌, ◌≤◌, length}
use denote.MutBor.{at_last}
use Rattle.text.specs.declared.Text.{Text}
use Rattle.text.specs.Text.{written}

-- so many bytes more fit the buffer
abbrev pub HasRoom : Text → ℕ → Type 0
HasRoom t n = t.length + n ≤ length t.buffer.now

-- the text with another put behind it, in the same buffer; the other bytes of the buffer stay
unfoldable pub put : Text → List ℕ → Text
put t s = record t { buffer = at_last t.buffer (written t.buffer.now t.length s); length = t.length + length s }
