-- The line of a refused command.
use Rattle.std.specs.Prelude.{ℕ, List, [], Option, Some, None, codes}
use Rattle.command_files.specs.declared.status.{File.{File, TheVariants.{Design, Technology, Cif, Script}}, What.What}
use Rattle.command_files.specs.declared.status.{What.TheVariants.{Items, Boxes, Edges, Extent}, Status.Status}
use Rattle.command_files.specs.declared.status.Status.TheVariants.{OutOfMemory, Usage, ReadFault, TooLong, TooLarge}

abbrev pub read_fault_line : File → List ℕ
read_fault_line Design = codes "sticks: cannot read design\n"
read_fault_line Technology = codes "sticks: cannot read technology\n"
read_fault_line Cif = codes "sticks: cannot read cif\n"
read_fault_line Script = codes "sticks: cannot read script\n"

abbrev pub too_long_line : File → List ℕ
too_long_line Design = codes "sticks: too long: design\n"
too_long_line Technology = codes "sticks: too long: technology\n"
too_long_line Cif = codes "sticks: too long: cif\n"
too_long_line Script = codes "sticks: too long: script\n"

abbrev pub too_large_line : What → List ℕ
too_large_line Items = codes "sticks: too large: items\n"
too_large_line Boxes = codes "sticks: too large: boxes\n"
too_large_line Edges = codes "sticks: too large: edges\n"
too_large_line Extent = codes "sticks: too large: extent\n"

-- The line of a status. Faults, clashes and cycles have a text of their own.
abbrev pub line_of : Status → List ℕ → List ℕ
line_of OutOfMemory message = codes "sticks: out of memory\n"
line_of Usage message = codes "sticks: usage\n"
line_of (ReadFault file) message = read_fault_line file
line_of (TooLong file) message = too_long_line file
line_of (TooLarge what) message = too_large_line what
line_of other message = message

-- the text that was made for a refusal
abbrev pub message_text : Option (List ℕ) → List ℕ
message_text None = []
message_text (Some text) = text
