-- The errors of disk caches.
use Rattle.dist_types.specs.declared.folder_fault.FolderFault.{FolderFault}
use Rattle.dist_types.specs.declared.folder_fault.FolderFault.TheVariants.{Missing, Failed, Memory}
use Rattle.dist_types.specs.declared.cache_error.Error.{Error}
use Rattle.dist_types.specs.declared.cache_error.Error.TheVariants.{Io, Memory as NoMemory}

-- a fault of the folder, as the cache tells it
abbrev pub error_of : FolderFault → Error
error_of Missing = Io Missing
error_of Failed = Io Failed
error_of Memory = NoMemory
