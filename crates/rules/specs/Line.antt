-- A line: what its settings say of its posts and block sections.
use Rattle.std.specs.Prelude.{ℕ, Bool, true, eqb}
use Rattle.section.specs.declared.Settings.{Settings}
use Rattle.section.specs.declared.Section.{Section}
use Rattle.rules.specs.declared.Line.{Line}

abbrev pub line_of : Settings → Line
line_of c = record { posts = c.posts; form = c.form; mask = c.mask; crossings = c.crossings }

abbrev pub line_in : Section → Line
line_in s = line_of s.settings

-- form 1 of the two forms, 0 telephone and 1 materialised
unfoldable pub is_materialised : Line → Bool
is_materialised c = eqb c.form 1

-- post p has its signalman: "Every post is in service." (document 01)
unfoldable pub is_open : Line → ℕ → Bool
is_open c p = true
