-- The sink in memory: what contracts see of it, and what a put makes of that.
use Rattle.std.specs.Prelude.{ℕ, ◌-◌, ◌/◌, Bool, ◌&&◌, ◌||◌, not, nat_lt, ◌==◌, min, List, [], ◌++◌, length, take}
use Rattle.std.specs.Prelude.{if◌then◌else◌}
use Rattle.lam_io.specs.{Io.{Bytes, raised}, Planned.is_planned, declared.mem_sink.MemSink.MemSink}

-- the bytes put so far, how many bytes it can hold, the puts that are planned to fail, the puts of a chunk that is
-- not empty so far, and the faults so far
pub record Sinking : Type 0 where
  pub bytes : Bytes
  pub room : ℕ
  pub plan : List ℕ
  pub puts : ℕ
  pub faults : ℕ

abbrev pub sinking : MemSink → Sinking
sinking sink =
    record { bytes = sink.bytes.items; room = sink.room; plan = sink.plan; puts = sink.puts; faults = sink.faults }

abbrev pub empty_sinking : ℕ → List ℕ → Sinking
empty_sinking room plan = record { bytes = []; room = room; plan = plan; puts = 0; faults = 0 }

-- how many bytes still fit
abbrev pub room_left : Sinking → ℕ
room_left sink = sink.room - length sink.bytes

-- whether the next put is planned to fail
abbrev pub is_put_planned : Sinking → Bool
is_put_planned sink = is_planned sink.plan sink.puts

-- whether a put of the chunk fails: it is planned to, or the chunk does not fit
abbrev pub put_fails : Sinking → Bytes → Bool
put_fails sink chunk = not (length chunk == 0) && (is_put_planned sink || nat_lt (room_left sink) (length chunk))

-- what a put appends: as much as fits of the chunk, and of a planned failure's chunk of its first half, rounded down
abbrev pub taken_by_put : Sinking → Bytes → Bytes
taken_by_put sink chunk = take (min (if is_put_planned sink then length chunk / 2 else length chunk) (room_left sink))
    chunk

-- the sink after a put of the chunk. An empty chunk is no put
abbrev pub after_put : Sinking → Bytes → Sinking
after_put sink chunk = record sink {
  bytes = sink.bytes ++ taken_by_put sink chunk;
  puts = if length chunk == 0 then sink.puts else raised sink.puts;
  faults = if put_fails sink chunk then raised sink.faults else sink.faults;
}
