-- Settings and their ranges (document 01, "The day file"; document 02, request 1).
use Rattle.std.specs.Prelude.{ℕ, ◌-◌, ◌/◌, ◌%◌, ◌^◌, Bool, ◌&&◌, eqb, leb}
use Rattle.section.specs.declared.Settings.{Settings}
use Rattle.section.specs.Bytes.{within}
use Rattle.section.specs.Crossings.{crossings_in_range}
use Rattle.section.specs.Numbers.{least_posts, most_posts, largest_line, most_crossings}

-- "bit p set for a signalled post"
unfoldable pub is_signalled : ℕ → ℕ → Bool
is_signalled mask p = eqb (mask / 2 ^ p % 2) 1

-- no bit at n or above
unfoldable pub none_from : ℕ → ℕ → Bool
none_from mask n = eqb (mask / 2 ^ n) 0

-- "byte 0 n; byte 1 form; bytes 2–3 a mask, .. both ends set, none above n−1; bytes 4–5 line number 1 to 999"; then the crossings
unfoldable pub settings_in_range : Settings → Bool
settings_in_range c =
    within least_posts most_posts c.posts
    && (leb c.form 1
    && (is_signalled c.mask 0
    && (is_signalled c.mask (c.posts - 1)
    && (none_from c.mask c.posts
    && (within 1 largest_line c.line
    && crossings_in_range c.posts most_crossings c.crossings)))))
