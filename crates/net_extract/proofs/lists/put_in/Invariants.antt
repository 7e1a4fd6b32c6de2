use Rattle.std.proofs.Common.{◌≡◌, ℕ, ◌++◌, List, length}
use Rattle.lam_geom.specs.declared.boxes.MaskBox.{MaskBox}
use Rattle.box_pieces.specs.declared.placing.Placed.{Placed}
use Rattle.net_extract.specs.{declared.lists.Kind.Kind, Lists.{AreLists, IsIn, IsPortion}}
use Rattle.net_extract.proofs.lists.put_in.Given as goal

abbrev pub invariant-loop-list : goal.invariant-loop-list
invariant-loop-list l = record {
  nodes : l.lists.nodes.items ≡ l.fn.lists.nodes.items ++ l.portion.nodes.items;
  counted : length l.lists.runs.items ≡ length l.fn.lists.runs.items;
  lists : (kind : Kind) (boxes : List MaskBox) (pieces : List Placed) (count : ℕ)
      → IsPortion (IsIn kind boxes pieces) l.portion → AreLists (IsIn kind boxes pieces) count l.fn.lists
      → AreLists (IsIn kind boxes pieces) count l.lists;
}
