-- What is read of the table of masters.
use Rattle.std.{proofs.Common.{◌≡◌, ℕ, ◌<◌, Option, get_or, arith}, specs.List.position}
use Rattle.grid_plan.{specs.{declared.masters.Masters.Masters, Numbered.is_same_number}, proofs.Placing.place_read}

pub read_of : (masters : Masters) (cell : ℕ) (o : Option ℕ) → cell < 256 → o ≡ get_or masters.places.items cell o
    → o ≡ position (is_same_number cell) masters.cells.items
read_of masters cell o lt e =
    place_read masters.places.items masters.cells.items cell o (omega (arith, masters.room, masters.places.ok.0)) lt
    masters.told e
