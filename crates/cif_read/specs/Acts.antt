-- What each command of CIF does, and why it may not stand where it stands.
use Rattle.std.specs.Prelude.{ℕ, ◌+◌, ℤ, pos, ◌+ℤ◌, ◌-ℤ◌, ◌*ℤ◌, int_lt, int_div, nat_le, Bool, false, ◌&&◌, ◌||◌}
use Rattle.std.specs.Prelude.{if◌then◌else◌, Option, Some, None, is_some, Result, Ok, Err, List, [], ◌∷◌, ◌++◌, map}
use Rattle.std.specs.{Prelude.slice_index_or, List.list_any, Ordering.int_eq}
use Rattle.lam_geom.specs.declared.boxes.MaskLayer.{MaskLayer}
use Rattle.cif_lex.specs.declared.command.Command.{Command, TheVariants.{Nothing, Define, Finish, Layer, Area, Call}}
use Rattle.cif_lex.specs.declared.{command.Command.TheVariants.Extension, placement.Placement.Placement}
use Rattle.cif_lex.specs.{Commands.is_far, Shifts.is_odd}
use Rattle.cif_read.specs.declared.{dialect.Dialect.{Dialect, TheVariants.{Plain, Foreign}}, fault.CifKind.CifKind}
use Rattle.cif_read.specs.declared.fault.CifKind.TheVariants.{BadCommand, BadNumber, NestedDefinition, RepeatedSymbol}
use Rattle.cif_read.specs.declared.fault.CifKind.TheVariants.{UnknownSymbol, NoLayer, OddScale, TooDeep}
use Rattle.cif_read.specs.Hierarchies.{Drawn, Step, Symbol, own, called, depths_of, most_depth}

-- ---- what has been read so far

-- A layer that a command has named: one of those that are kept, or none of them.
abbrev pub Named : Type 0
Named = Option MaskLayer

-- what is drawn at the top, or in a definition: its scale, the layer that was named there, and its steps
pub record Level : Type 0 where
  pub above : ℤ
  pub below : ℤ
  pub layer : Option Named
  pub steps : List Step

-- a definition that has begun and not ended: its number, and the top, which goes on after it
pub record Definition : Type 0 where
  pub number : ℤ
  pub top : Level

-- definitions that have ended; where commands draw, in the definition that has begun or else at the top; and that
-- definition
pub record State : Type 0 where
  pub symbols : List Symbol
  pub level : Level
  pub begun : Option Definition

-- nothing yet, by this scale; the top has none
abbrev pub empty : ℤ → ℤ → Level
empty above below = record { above = above; below = below; layer = None; steps = [] }

abbrev pub start : State
start = record { symbols = []; level = empty (pos 1) (pos 1); begun = None }

-- ---- symbols

abbrev pub has_number : ℤ → Symbol → Bool
has_number n symbol = int_eq symbol.number n

abbrev pub is_known : ℤ → List Symbol → Bool
is_known n symbols = list_any (has_number n) symbols

-- the position of the symbol with this number
abbrev pub place_of : ℤ → List Symbol → ℕ
place_of n [] = 0
place_of n (symbol ∷ symbols) = if has_number n symbol then 0 else place_of n symbols + 1

-- ---- numbers

abbrev pub is_bad_symbol : ℤ → Bool
is_bad_symbol n = int_lt n (pos 0) || is_far n

-- a factor of a scale
abbrev pub is_bad_factor : ℤ → Bool
is_bad_factor n = int_lt n (pos 1) || int_lt (pos 65536) n

abbrev pub is_bad_length : ℤ → Bool
is_bad_length n = int_lt n (pos 1) || is_far n

abbrev pub is_bad_area : ℤ → ℤ → ℤ → ℤ → Bool
is_bad_area l w x y = is_bad_length l || is_bad_length w || is_far x || is_far y

abbrev pub is_bad_call : ℤ → ℤ → ℤ → Bool → Bool
is_bad_call n x y bad = is_bad_symbol n || bad || is_far x || is_far y

-- ---- boxes and calls

-- a number of a definition in hundredths of a micron
abbrev pub scaled : ℤ → ℤ → ℤ → ℤ
scaled above below n = int_div (n *ℤ above) below

-- one of the four numbers of a box is no whole number of them
abbrev pub is_odd_area : ℤ → ℤ → ℤ → ℤ → ℤ → ℤ → Bool
is_odd_area above below l w x y = is_odd above below l || is_odd above below w || is_odd above below x
    || is_odd above below y

-- a box by its extents and its centre, where lengths are hundredths of a micron and sides are grains, so that nothing
-- is rounded
abbrev pub drawn_box : MaskLayer → ℤ → ℤ → ℤ → ℤ → Drawn
drawn_box layer l w x y =
    record {
      layer = layer;
      left = (pos 2 *ℤ x) -ℤ l;
      right = (pos 2 *ℤ x) +ℤ l;
      bottom = (pos 2 *ℤ y) -ℤ w;
      top = (pos 2 *ℤ y) +ℤ w;
    }

-- boxes on layers that are not kept are left out
abbrev pub kept : Named → ℤ → ℤ → ℤ → ℤ → List Drawn
kept None l w x y = []
kept (Some layer) l w x y = drawn_box layer l w x y ∷ []

abbrev pub with_steps : Level → List Step → Level
with_steps level steps = record level { steps = level.steps ++ steps }

-- a box, in hundredths of a micron by the scale
abbrev pub boxed : Level → Option Named → ℤ → ℤ → ℤ → ℤ → Result Level CifKind
boxed level None l w x y = Err NoLayer
boxed level (Some layer) l w x y =
    if is_odd_area level.above level.below l w x y then Err OddScale
    else (let s = scaled level.above level.below in Ok
    (with_steps level (map own (kept layer (s l) (s w) (s x) (s y)))))

-- the same for a shift, of which each hundredth of a micron is two grains; what is called is not scaled again
abbrev pub scaled_place : Level → Placement → Placement
scaled_place level place =
    record {
      turn = place.turn;
      x = pos 2 *ℤ scaled level.above level.below place.x;
      y = pos 2 *ℤ scaled level.above level.below place.y;
    }

-- one of the numbers of a call's shifts, as they stand in the text, comes out odd: exactly then their greatest common
-- divisor does
abbrev pub is_odd_call : Level → ℕ → Bool
is_odd_call level divisor = is_odd level.above level.below (pos divisor)

-- a call of the symbol in this position, which may be too deep
abbrev pub called_on : Level → ℕ → Bool → ℕ → Placement → Result Level CifKind
called_on level divisor too_deep symbol place =
    if is_odd_call level divisor then Err OddScale
    else (if too_deep then Err TooDeep
    else Ok (with_steps level (called symbol (scaled_place level place) ∷ [])))

-- in a definition a symbol of the greatest depth may not be called
abbrev pub is_too_deep : State → ℕ → Bool
is_too_deep state symbol = is_some state.begun && nat_le most_depth (slice_index_or (depths_of state.symbols) symbol 0)

-- a call that is no form of a dialect: the plain one has none that turns or mirrors, nor any in a definition
abbrev pub is_barred : Dialect → Bool → Bool → Bool
is_barred Plain turned inside = turned || inside
is_barred Foreign turned inside = false

-- ---- the commands

abbrev pub drawn_on : State → Result Level CifKind → Result State CifKind
drawn_on state (Ok level) = Ok (record state { level = level })
drawn_on state (Err kind) = Err kind

abbrev pub defined : State → ℤ → ℤ → ℤ → Result State CifKind
defined state n above below =
    if is_bad_symbol n || is_bad_factor above || is_bad_factor below then Err BadNumber
    else (if is_some state.begun then Err NestedDefinition
    else (if is_known n state.symbols then Err RepeatedSymbol
    else Ok (record state { level = empty above below; begun = Some (record { number = n; top = state.level }) })))

-- the layer at the top is what it was before the definition
abbrev pub finished : State → Option Definition → Result State CifKind
finished state None = Err BadCommand
finished state (Some b) =
    Ok (record {
      symbols = state.symbols ++ (record { number = b.number; steps = state.level.steps } ∷ []);
      level = b.top;
      begun = None;
    })

abbrev pub named : State → Named → State
named state layer = record state { level = record state.level { layer = Some layer } }

abbrev pub area : State → ℤ → ℤ → ℤ → ℤ → Result State CifKind
area state l w x y = if is_bad_area l w x y then Err BadNumber
    else drawn_on state (boxed state.level state.level.layer l w x y)

-- a symbol that is being defined is not known yet
abbrev pub call : State → ℤ → Placement → Bool → ℕ → Result State CifKind
call state n place bad divisor =
    if is_bad_call n place.x place.y bad then Err BadNumber
    else (if is_known n state.symbols
    then (let symbol = place_of n state.symbols in drawn_on state
    (called_on state.level divisor (is_too_deep state symbol) symbol place))
    else Err UnknownSymbol)

-- what a command makes of what has been read, or the first of its faults
unfoldable pub act : Dialect → State → Command → Result State CifKind
act dialect state Nothing = Ok state
act dialect state (Define n above below) = defined state n above below
act dialect state Finish = finished state state.begun
act dialect state (Layer layer) = Ok (named state layer)
act dialect state (Area l w x y) = area state l w x y
act dialect state (Call n place bad turned divisor) =
    if is_barred dialect turned (is_some state.begun) then Err BadCommand else call state n place bad divisor
act dialect state Extension = Ok state
