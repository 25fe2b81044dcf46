-- What the errors of the system stand for.
use Rattle.std.specs.Prelude.{ℤ, Option, Some, None}
use Rattle.std.specs.declared.io.ErrorKind.{ErrorKind}
use Rattle.std.specs.declared.io.ErrorKind.TheVariants.{InvalidFilename, OutOfMemory}
use Rattle.path_pkg.specs.declared.fault.TreeFault.{TreeFault}
use Rattle.path_pkg.specs.declared.fault.TreeFault.TheVariants.{Failed, NotUtf8, Memory}

-- a bad name that the library found, and the system did not, is one that is not UTF-8
abbrev pub bad_name : Option ℤ → TreeFault
bad_name None = NotUtf8
bad_name (Some number) = Failed

-- the refusal for an error's number in the system, where it has one, and its kind
abbrev pub system_fault : Option ℤ → ErrorKind → TreeFault
system_fault number OutOfMemory = Memory
system_fault number InvalidFilename = bad_name number
system_fault number _ = Failed
