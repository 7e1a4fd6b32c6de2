-- What was written of a text, where the writer knows what it holds.
use Rattle.std.specs.Prelude.{◌≡◌, ◌++◌, Option}
use Rattle.std.specs.Io.KnownBytes as known
use Rattle.lam_io.specs.Io.{Bytes}

-- known bytes grew by a prefix of the text
abbrev pub AppendsKnownPrefix : Option Bytes → Option Bytes → Bytes → Type 0
AppendsKnownPrefix old new text = (sent : Bytes) × (rest : Bytes) × (text ≡ sent ++ rest) × known.Appends old new sent
