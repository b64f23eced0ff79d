-- The files that are read as one.
-- Source: this project.
use Rattle.std.specs.Prelude.{List}
use Rattle.pack_files.specs.declared.joined.JoinedFiles.{JoinedFiles}

module _ {F : Type 0} where
  abbrev pub files_in : JoinedFiles F → List F
  files_in joined = joined.files.items
