-- Settings over the C interface: the bytes that a day file has for them.
use Rattle.std.specs.Prelude.{ℕ, Bool, List}
use Rattle.file_tests.specs.Tests.{settings_well_formed}

-- as many bytes as a day file has for its settings, eight or, with crossings, sixteen, and such that its reader takes them
abbrev pub lent_settings_well_formed : List ℕ → Bool
lent_settings_well_formed bytes = settings_well_formed bytes
