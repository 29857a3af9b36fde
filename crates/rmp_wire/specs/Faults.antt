-- What a fault of a sink or a source shows.
use Rattle.std.specs.Prelude.{◌≡◌, ℤ, Option, None}
use Rattle.std.specs.declared.io.ErrorKind.{ErrorKind}
use Rattle.rmp_wire.specs.declared.error.IoFault.{IoFault}
use Rattle.rmp_wire.specs.declared.error.ValueWriteError.{ValueWriteError}
use Rattle.rmp_wire.specs.declared.error.ValueWriteError.TheVariants.{InvalidMarkerWrite, InvalidDataWrite, OutOfMemory}

-- the kind that `IoFault::kind` returns
abbrev pub fault_kind : IoFault → ErrorKind
fault_kind fault = fault.kind

-- `fault.raw_os_error()`
abbrev pub fault_code : IoFault → Option ℤ
fault_code fault = fault.os_error

-- a fault of this kind without a system error number
abbrev pub IsPlain : ErrorKind → IoFault → Type 0
IsPlain kind fault = (fault_kind fault ≡ kind) × (fault_code fault ≡ None)

-- the same failure, of an item whose first byte was already taken
abbrev pub past_first : ValueWriteError → ValueWriteError
past_first (InvalidMarkerWrite fault) = InvalidDataWrite fault
past_first (InvalidDataWrite fault) = InvalidDataWrite fault
past_first OutOfMemory = OutOfMemory
