-- How large a design's masters may be.
use Rattle.std.specs.Prelude.{ℕ, ◌+◌, min}

-- the weights of all masters together
abbrev pub most_items : ℕ
most_items = 65536

-- the mask boxes of all instances
abbrev pub most_boxes : ℕ
most_boxes = 1048576

-- what is past it counts as one more
abbrev pub capped_boxes : ℕ → ℕ
capped_boxes n = min n (most_boxes + 1)
