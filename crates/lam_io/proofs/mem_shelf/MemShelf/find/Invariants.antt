-- The name is looked for among the files that are left.
use Rattle.std.proofs.Common.{◌≡◌, drop}
use Rattle.lam_io.proofs.StoredFiles.{found}
use Rattle.lam_io.proofs.mem_shelf.MemShelf.find.Given as goal

abbrev pub invariant-loop-file : goal.invariant-loop-file
invariant-loop-file l = found l.name (drop l.file-index l.self.files.items) ≡ found l.name l.self.files.items
