-- How the files of a store are opened, and where they are.
use Rattle.std.specs.Prelude.{ℕ, true}
use Rattle.std.specs.Fs.{new_options, with_create, with_read, with_write}
use Rattle.std.specs.declared.fs.options.OpenOptions.{OpenOptions}
use Rattle.hg_tasks.specs.declared.directory.OpenMode.{OpenMode}
use Rattle.hg_tasks.specs.declared.directory.OpenMode.TheVariants.{Make, Change, Look}

-- A file is read. It is written unless the store is only looked at, and made where the store is. Its bytes stay.
abbrev pub options_for : OpenMode → OpenOptions
options_for Make = with_create (with_write (with_read new_options true) true) true
options_for Change = with_write (with_read new_options true) true
options_for Look = with_read new_options true

-- what stands between the names of a path
abbrev pub slash : ℕ
slash = 47
