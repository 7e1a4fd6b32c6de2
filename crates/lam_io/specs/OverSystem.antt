-- The shelf over files and the sink over a writer: what contracts see of them.
use Rattle.std.specs.Prelude.{ℕ}
use Rattle.lam_io.specs.declared.{file_shelf.FileShelf.FileShelf, std_sink.StdSink.StdSink}

-- the faults so far
abbrev pub file_faults : {R : Type 0} → FileShelf R → ℕ
file_faults shelf = shelf.faults

-- the faults so far
abbrev pub write_faults : {W : Type 0} → StdSink W → ℕ
write_faults sink = sink.faults

-- what it writes to
abbrev pub writer_of : {W : Type 0} → StdSink W → W
writer_of sink = sink.writer
