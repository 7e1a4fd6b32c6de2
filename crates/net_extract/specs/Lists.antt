-- Lists of nodes, one for each of some numbers.
use Rattle.std.specs.Prelude.{◌≡◌, ℕ, ◌+◌, ◌<◌, ◌≤◌, All, List, length, map, slice_index, slice_index_or}
use Rattle.lam_geom.specs.declared.boxes.MaskBox.{MaskBox}
use Rattle.box_tree.specs.declared.entries.Entry.{Entry}
use Rattle.box_pieces.specs.declared.placing.Placed.{Placed}
use Rattle.net_extract.specs.declared.lists.{Kind.{Kind, TheVariants.{Touching, Over}}, Lists.Lists, Owned.Owned}
use Rattle.net_extract.specs.declared.lists.{Portion.Portion, Run.Run}
use Rattle.net_extract.specs.Linking.{IsJoining, IsOver, IsTouch}

-- ---- what is listed

-- the pieces that touch a piece on its layer, or those over a cut that joins
abbrev pub IsIn : Kind → List MaskBox → List Placed → ℕ → ℕ → Type 0
IsIn Touching boxes pieces a y = IsTouch boxes pieces a y
IsIn Over boxes pieces k y = IsJoining boxes pieces k × IsOver boxes pieces k y

-- the tags of entries
abbrev pub tags_of : List Entry → List ℕ
tags_of entries = map (λ entry. entry.tag) entries

-- ---- lists

-- a number stands among the nodes from one place up to another
pub record IsAmong (nodes : List ℕ) (run : Run) (y : ℕ) : Type 0 where
  pub e : ℕ
  pub from : run.start ≤ e
  pub before : e < run.end
  pub is : slice_index nodes e ≡ y

-- at most so many nodes are in a list
abbrev pub most_listed : ℕ
most_listed = 16

-- all of them stand among the nodes
pub record IsWithin (nodes : List ℕ) (run : Run) : Type 0 where
  pub among : run.end ≤ length nodes
  pub few : run.end ≤ run.start + most_listed

-- exactly the nodes with a property stand there
pub record IsListOf (Is : ℕ → Type 0) (nodes : List ℕ) (run : Run) : Type 0 where
  pub within : IsWithin nodes run
  pub sound : (y : ℕ) → IsAmong nodes run y → Is y
  pub complete : (y : ℕ) → Is y → IsAmong nodes run y

-- where no list stands
abbrev pub no_run : Run
no_run = record { start = 1; end = 0 }

abbrev pub run_of : Lists → ℕ → Run
run_of lists a = slice_index_or lists.runs.items a no_run

-- a number has a list, unless its start lies past its end
abbrev pub HasList : Lists → ℕ → Type 0
HasList lists a = (run_of lists a).start ≤ (run_of lists a).end

-- node y stands in the list of number a
abbrev pub IsListed : Lists → ℕ → ℕ → Type 0
IsListed lists a y = HasList lists a × IsAmong lists.nodes.items (run_of lists a) y

-- so many numbers: in the list of each that has one stand exactly the nodes that belong to it
pub record AreLists (Is : ℕ → ℕ → Type 0) (count : ℕ) (lists : Lists) : Type 0 where
  pub counted : length lists.runs.items ≡ count
  pub each : (a : ℕ) → HasList lists a → IsListOf (Is a) lists.nodes.items (run_of lists a)

abbrev pub AreWithin : Lists → Type 0
AreWithin lists = (a : ℕ) → HasList lists a → IsWithin lists.nodes.items (run_of lists a)

-- ---- portions

-- a list that is noted, of one of so many numbers
abbrev pub IsNoted : ℕ → Owned → Type 0
IsNoted count list = (list.owner < count) × (list.run.start ≤ list.run.end)

-- in each of these lists stand exactly the nodes that belong to its owner
abbrev pub IsPortion : (ℕ → ℕ → Type 0) → Portion → Type 0
IsPortion Is portion = All (λ list. IsListOf (Is list.owner) portion.nodes.items list.run) portion.lists.items
