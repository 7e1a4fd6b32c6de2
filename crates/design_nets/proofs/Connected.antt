-- What is known of the netlist before anything is laid out, from its parts.
use Rattle.std.proofs.Common.{◌≡◌, ℕ, List, length, map, take, sym, ap, ◌∙◌, subst}
use Rattle.std.proofs.lemmas.{List.get_or-take, Option.slice_get_within}
use Rattle.rule_table.specs.declared.technology.Tech.{Tech}
use Rattle.cell_model.specs.declared.cell.Nets.{Nets}
use Rattle.expand.specs.declared.master.Master.{Master}
use Rattle.graph_search.specs.Netting.{next_net}
use Rattle.plan_model.specs.{declared.plan.Plan.Plan, Plan.grids_of}
use Rattle.instance_laws.specs.Planned.{AreOfPlan}
use Rattle.net_model.specs.Netlists.{place_of, nets_of}
use Rattle.design_nets.specs.declared.{connections.Connections.Connections, instances.Instance.Instance}
use Rattle.design_nets.specs.declared.{numbering.NetNumbers.NetNumbers, owners.OwnNet.OwnNet, pieces.Placed.Placed}
use Rattle.design_nets.specs.{Connections.{number_in, AreAllNumbers, AreConnections}, Instances.instances_of}
use Rattle.design_nets.specs.{Nets.AreNetsOfAll, Pieces.{stand_of, own_of, AreInstancePieces}, Shapes.drawn_in}
use Rattle.design_nets.{specs.Shapes.AreShapesOf, proofs.{Ranges.ranges, SticksNetlist.{pieces_are, of_pieces}}}

-- numbers of equal lists
pub numbers_moved : (plan : Plan) (n m : List Nets) (i j : List Instance) (o p : List OwnNet) (numbers : NetNumbers)
    → n ≡ m → i ≡ j → o ≡ p → AreAllNumbers plan n i o numbers → AreAllNumbers plan m j p numbers
numbers_moved plan n m i j o p numbers e f g h =
    subst (λ (z : List OwnNet). AreAllNumbers plan m j z numbers) g
    (subst (λ (z : List Instance). AreAllNumbers plan m z o numbers) f
    (subst (λ (z : List Nets). AreAllNumbers plan z i o numbers) e h))

pub connected : (tech : Tech) (plan : Plan) (masters : List Master) (c : Connections) (placed : List Placed)
    → AreOfPlan tech plan masters → AreNetsOfAll masters c.nets.items
    → c.instances.items ≡ instances_of (grids_of plan)
    → c.drawn.items ≡ map drawn_in masters
    → AreShapesOf masters c.instances.items c.shapes.all.items c.shapes.firsts.items
    → AreInstancePieces masters c.nets.items c.instances.items c.shapes.all.items placed c.starts.items
    → AreAllNumbers plan c.nets.items c.instances.items (map own_of placed) c.numbers
    → map place_of c.pieces.items ≡ map stand_of placed
    → nets_of c.pieces.items ≡ take (length (map own_of placed)) c.numbers.all.items
    → c.count ≡ next_net (take (length (map own_of placed)) c.numbers.all.items) → AreConnections plan masters c
connected tech plan masters c placed planned nets instances drawn shapes have numbers places same count =
    let owners : List OwnNet = map own_of placed in
    let n : ℕ = length owners in
    let prefix : List ℕ = take n c.numbers.all.items in
    record {
      nets = nets;
      instances = instances;
      drawn = drawn;
      shapes = shapes;
      pieces = pieces_are tech plan masters c.nets.items c.instances.items planned nets instances c.shapes.all.items
          c.shapes.firsts.items shapes placed c.starts.items have prefix numbers.pieces c.pieces.items places same;
      count = count ∙ ap next_net (sym same);
      starts = have.begins.counted;
      ranges = ranges masters c.nets.items c.instances.items c.shapes.all.items placed c.starts.items have
          c.pieces.items places;
      first = n;
      firsts = numbers.firsts;
      numbered = numbers.counted;
      of_pieces = of_pieces tech plan masters c.nets.items c.instances.items planned nets instances c.shapes.all.items
          c.shapes.firsts.items shapes placed c.starts.items have prefix numbers.pieces c.pieces.items places same
          (number_in c.numbers) (λ i o h. get_or-take n c.numbers.all.items i 0 (slice_get_within owners i o h)
          ∙ numbers.same i o h);
    }
