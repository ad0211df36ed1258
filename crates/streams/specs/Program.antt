-- What a program's standard streams tell of what was written.
use Rattle.std.specs.Prelude.{◌≡◌, None}
use Rattle.streams.specs.declared.Program.{Program}

-- a write has failed, after which none is tried
abbrev pub HasFailed : Program → Type 0
HasFailed program = program.stdout ≡ None
