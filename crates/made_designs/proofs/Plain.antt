-- Cells that have nothing but joints, contacts and wires of the least widths.
use Rattle.std.{proofs.Common.{◌≡◌, ℕ, ◌≤◌, [], length}, specs.List.AllByRecursion}
use Rattle.rule_table.specs.{declared.technology.Tech.Tech, Technology.width_of}
use Rattle.cell_model.specs.declared.cell.{NodeKind.{NodeKind, TheVariants.{Joint, Contact, Buried, Fet}}, Node.Node}
use Rattle.cell_model.specs.declared.cell.{Wire.Wire, Cell.Cell}

abbrev pub IsPlainKind : Tech → NodeKind → Type 0
IsPlainKind tech (Joint layer width) = width ≡ width_of tech layer
IsPlainKind tech (Contact lower) = Unit {0}
IsPlainKind tech Buried = ⊥
IsPlainKind tech (Fet depletion gate w l) = ⊥

abbrev pub IsPlainNode : Tech → Node → Type 0
IsPlainNode tech node = IsPlainKind tech node.kind

abbrev pub IsPlainWire : Tech → Wire → Type 0
IsPlainWire tech wire = wire.width ≡ width_of tech wire.layer

-- so many nodes and wires at most, and no limits
pub record IsPlain (tech : Tech) (most_nodes most_wires : ℕ) (cell : Cell) : Type 0 where
  pub nodes : AllByRecursion (IsPlainNode tech) cell.nodes
  pub few_nodes : length cell.nodes ≤ most_nodes
  pub wires : AllByRecursion (IsPlainWire tech) cell.wires
  pub few_wires : length cell.wires ≤ most_wires
  pub limits : cell.limits ≡ []
