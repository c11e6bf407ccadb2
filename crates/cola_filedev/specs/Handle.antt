-- What a handle says of a file.
use Rattle.std.specs.Prelude.{⊤}
use Rattle.cola_filedev.specs.declared.handle.Handle.{Handle}
use Rattle.cola_filedev.specs.declared.handle.Handle.TheVariants.{Unopened, Open, Refused}

-- the file was not asked for yet
abbrev pub IsUnopened : {O F : Type 0} → Handle O F → Type 0
IsUnopened (Unopened opener) = ⊤
IsUnopened (Open file) = ⊥
IsUnopened Refused = ⊥

-- the file was refused, or there is none
abbrev pub IsRefused : {O F : Type 0} → Handle O F → Type 0
IsRefused (Unopened opener) = ⊥
IsRefused (Open file) = ⊥
IsRefused Refused = ⊤
