-- What a disk's error is to a journal.
use Rattle.fetch_disk.specs.declared.disk_error.DiskError.{DiskError}
use Rattle.fetch_disk.specs.declared.disk_error.DiskError.TheVariants as disk
use Rattle.fetch_disk.specs.declared.journal_error.JournalError.{JournalError}
use Rattle.fetch_disk.specs.declared.journal_error.JournalError.TheVariants as errors

-- the error of a journal that one of its disk is
abbrev pub journal_error : DiskError → JournalError
journal_error disk.Failed = errors.Disk
journal_error disk.Full = errors.Full
journal_error disk.NoMemory = errors.NoMemory
