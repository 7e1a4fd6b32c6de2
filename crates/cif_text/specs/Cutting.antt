-- How texts of lines are cut into chunks.
use Rattle.std.specs.Prelude.{◌≡◌, ℕ, ◌+◌, ◌<◌, ◌≤◌, All, List, [], ◌∷◌, ◌++◌, length, flat_map, slice_index_or}
use Rattle.std.specs.{List.AllZip, Io.BufRead.take_through}

-- the most bytes of a chunk
abbrev pub most_bytes : ℕ
most_bytes = 65536

-- a line feed ends it
abbrev pub EndsLine : List ℕ → Type 0
EndsLine text = (prefix : List ℕ) × (text ≡ prefix ++ (10 ∷ []))

-- a line that is not longer than a chunk may be
pub record IsShortLine (line : List ℕ) : Type 0 where
  pub ended : EndsLine line
  pub short : length line ≤ most_bytes

-- a text of such lines
pub record IsOfLines (text : List ℕ) : Type 0 where
  pub lines : List (List ℕ)
  pub joined : flat_map (λ line. line) lines ≡ text
  pub each : All IsShortLine lines

-- the first line of a text, with its line feed
abbrev pub first_line : List ℕ → List ℕ
first_line text = take_through 10 text

abbrev pub chunk_at : List (List ℕ) → ℕ → List ℕ
chunk_at chunks k = slice_index_or chunks k []

-- A text is cut into chunks: joined they are the text; each is of whole lines and has at most 65,536 bytes; and with
-- the first line of the chunk after it, a chunk has more.
pub record IsCut (text : List ℕ) (chunks : List (List ℕ)) : Type 0 where
  pub joined : flat_map (λ chunk. chunk) chunks ≡ text
  pub whole_lines : All EndsLine chunks
  pub short : All (λ chunk. length chunk ≤ most_bytes) chunks
  pub full : (k : ℕ) → k + 1 < length chunks
      → most_bytes < length (chunk_at chunks k) + length (first_line (chunk_at chunks (k + 1)))

-- the chunks of some texts, text by text
pub record AreCut (texts chunks : List (List ℕ)) : Type 0 where
  pub cuts : List (List (List ℕ))
  pub together : chunks ≡ flat_map (λ cut. cut) cuts
  pub each : AllZip IsCut texts cuts
