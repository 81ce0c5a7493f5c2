-- No file before this one has the name.
use Rattle.std.proofs.Common.{◌≡◌, drop}
use Rattle.outside.specs.Shelf.{file_of, files_of}
use Rattle.outside.proofs.shelf.find.Given as goal

abbrev pub invariant-loop-file : goal.invariant-loop-file
invariant-loop-file l = file_of (files_of l.files) l.name ≡ file_of (files_of (drop l.file-index l.files)) l.name
