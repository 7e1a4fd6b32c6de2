use Rattle.std.proofs.Common.{◌≡◌, ℕ, ◌<◌, ◌^◌, List, length, map, take, sym, ap, ◌∙◌, subst, arith, All}
use Rattle.graph_search.specs.Netting.{next_net}
use Rattle.design_nets.specs.declared.{instances.Instance.Instance, owners.OwnNet.OwnNet, pieces.Placed.Placed}
use Rattle.design_nets.specs.{declared.shapes.Shape.Shape, Joining.IsOwn, Nets.AreNetsOfAll, Pieces.{stand_of, own_of}}
use Rattle.design_nets.{specs.{Pieces.IsShapeOf, Shapes.AreShapesOf}, proofs.Connected.{numbers_moved, connected}}
use Rattle.design_nets.proofs.{Ports.have_nets, Shown.shapes_counted, SticksNetlist.{pieces_moved, masters_among}}
use Rattle.design_nets.proofs.SticksNetlist.{all_counted, shapes_are, own, few_together, numbers_small}
use Rattle.design_nets.proofs.connections.connect.Goals as goal

pub shapes_of-requires-clause-among : goal.shapes_of-requires-clause-among
shapes_of-requires-clause-among c =
    masters_among c.args.tech.now c.args.plan.now c.args.masters.now c.in_ok-nets.nets.items c.deref-2.result.now
    c.requires.planned c.in_ok-nets.ensures (c.deref-2.ensures.value ∙ c.in_ok-instances.ensures)

pub shapes_of-requires-clause-few : goal.shapes_of-requires-clause-few
shapes_of-requires-clause-few c =
    let counted = all_counted c.args.tech.now c.args.plan.now c.args.masters.now c.in_ok-nets.nets.items
    c.deref-2.result.now c.requires.planned c.in_ok-nets.ensures
    (c.deref-2.ensures.value ∙ c.in_ok-instances.ensures) in
    let few = c.requires.few in
    omega (arith, counted, few)

pub pieces_of-requires-clause-drawn : goal.pieces_of-requires-clause-drawn
pieces_of-requires-clause-drawn c =
    let masters = c.args.masters.now in
    let of_all = subst (AreNetsOfAll masters) (sym c.deref-3.ensures.value) c.in_ok-nets.ensures in
    let same : c.deref-2.result.now ≡ c.deref-4.result.now = c.deref-2.ensures.value ∙ sym c.deref-4.ensures.value in
    let made =
    subst (λ (z : List Instance). AreShapesOf masters z c.in_ok-shapes.shapes.all.items
    c.in_ok-shapes.shapes.firsts.items) same c.in_ok-shapes.ensures in
    record {
      nets_are = of_all;
      each = subst (λ (z : List Shape). All (IsShapeOf masters c.deref-4.result.now) z) (sym c.deref-5.ensures.value)
          (shapes_are c.args.tech.now c.args.plan.now masters c.deref-3.result.now c.deref-4.result.now
          c.requires.planned of_all (c.deref-4.ensures.value ∙ c.in_ok-instances.ensures)
          c.in_ok-shapes.shapes.all.items
          c.in_ok-shapes.shapes.firsts.items made);
    }

pub pieces_of-requires-clause-few : goal.pieces_of-requires-clause-few
pieces_of-requires-clause-few c =
    let counted = shapes_counted c.args.plan.now c.args.masters.now c.deref-2.result.now
    (c.deref-2.ensures.value ∙ c.in_ok-instances.ensures) c.in_ok-shapes.shapes.all.items
    c.in_ok-shapes.shapes.firsts.items c.in_ok-shapes.ensures in
    let same = ap (λ (z : List Shape). length z) c.deref-5.ensures.value in
    let few = c.requires.few in
    omega (arith, counted, same, few)

pub net_numbers-requires-clause-nets : goal.net_numbers-requires-clause-nets
net_numbers-requires-clause-nets c =
    have_nets c.args.tech.now c.args.plan.now c.args.masters.now c.deref-7.result.now c.deref-8.result.now
    c.requires.planned
    (subst (AreNetsOfAll c.args.masters.now) (sym c.deref-7.ensures.value) c.in_ok-nets.ensures)
    (c.deref-8.ensures.value ∙ c.in_ok-instances.ensures)

pub net_numbers-requires-clause-owners : goal.net_numbers-requires-clause-owners
net_numbers-requires-clause-owners c =
    let masters = c.args.masters.now in
    let of_all = subst (AreNetsOfAll masters) (sym c.deref-7.ensures.value) c.in_ok-nets.ensures in
    let same : c.deref-2.result.now ≡ c.deref-8.result.now = c.deref-2.ensures.value ∙ sym c.deref-8.ensures.value in
    let made =
    subst (λ (z : List Instance). AreShapesOf masters z c.in_ok-shapes.shapes.all.items
    c.in_ok-shapes.shapes.firsts.items) same c.in_ok-shapes.ensures in
    let have = pieces_moved masters c.deref-3.result.now c.deref-7.result.now c.deref-4.result.now
    c.deref-8.result.now c.deref-5.result.now c.in_ok-shapes.shapes.all.items c.in_ok-placed.placed.all.items
    c.in_ok-placed.placed.starts.items (c.deref-3.ensures.value ∙ sym c.deref-7.ensures.value)
    (c.deref-4.ensures.value ∙ sym c.deref-8.ensures.value) c.deref-5.ensures.value c.in_ok-placed.ensures in
    let is : c.deref-9.result.now ≡ map own_of c.in_ok-placed.placed.all.items = c.deref-9.ensures.value
    ∙ (c.in_ok-owners.ensures ∙ ap (λ (ps : List Placed). map own_of ps) c.deref-6.ensures.value) in
    subst (λ (os : List OwnNet). All (IsOwn c.deref-7.result.now c.deref-8.result.now) os) (sym is)
    (own c.args.tech.now c.args.plan.now masters c.deref-7.result.now c.deref-8.result.now c.requires.planned of_all
    (c.deref-8.ensures.value ∙ c.in_ok-instances.ensures) c.in_ok-shapes.shapes.all.items
    c.in_ok-shapes.shapes.firsts.items made c.in_ok-placed.placed.all.items c.in_ok-placed.placed.starts.items have)

pub net_numbers-requires-clause-few : goal.net_numbers-requires-clause-few
net_numbers-requires-clause-few c =
    let masters = c.args.masters.now in
    let of_all = subst (AreNetsOfAll masters) (sym c.deref-7.ensures.value) c.in_ok-nets.ensures in
    let same : c.deref-2.result.now ≡ c.deref-8.result.now = c.deref-2.ensures.value ∙ sym c.deref-8.ensures.value in
    let made =
    subst (λ (z : List Instance). AreShapesOf masters z c.in_ok-shapes.shapes.all.items
    c.in_ok-shapes.shapes.firsts.items) same c.in_ok-shapes.ensures in
    let have = pieces_moved masters c.deref-3.result.now c.deref-7.result.now c.deref-4.result.now
    c.deref-8.result.now c.deref-5.result.now c.in_ok-shapes.shapes.all.items c.in_ok-placed.placed.all.items
    c.in_ok-placed.placed.starts.items (c.deref-3.ensures.value ∙ sym c.deref-7.ensures.value)
    (c.deref-4.ensures.value ∙ sym c.deref-8.ensures.value) c.deref-5.ensures.value c.in_ok-placed.ensures in
    let is : c.deref-9.result.now ≡ map own_of c.in_ok-placed.placed.all.items = c.deref-9.ensures.value
    ∙ (c.in_ok-owners.ensures ∙ ap (λ (ps : List Placed). map own_of ps) c.deref-6.ensures.value) in
    let few = few_together c.args.tech.now c.args.plan.now masters c.deref-7.result.now c.deref-8.result.now
    c.requires.planned of_all (c.deref-8.ensures.value ∙ c.in_ok-instances.ensures)
    c.in_ok-shapes.shapes.all.items
    c.in_ok-shapes.shapes.firsts.items made c.in_ok-placed.placed.all.items c.in_ok-placed.placed.starts.items have
    c.requires.few in
    let counted = ap (λ (os : List OwnNet). length os) is in
    omega (arith, few, counted)

pub next_net-count-requires : goal.next_net-count-requires
next_net-count-requires c =
    let masters = c.args.masters.now in
    let nets = c.in_ok-nets.nets.items in
    let instances = c.in_ok-instances.instances.items in
    let shapes = c.in_ok-shapes.shapes in
    let placed = c.in_ok-placed.placed in
    let made = subst (λ (z : List Instance). AreShapesOf masters z shapes.all.items shapes.firsts.items)
    c.deref-2.ensures.value c.in_ok-shapes.ensures in
    let have = pieces_moved masters c.deref-3.result.now nets c.deref-4.result.now instances c.deref-5.result.now
    shapes.all.items placed.all.items placed.starts.items c.deref-3.ensures.value c.deref-4.ensures.value
    c.deref-5.ensures.value
    c.in_ok-placed.ensures in
    let own_is : c.in_ok-owners.owners.items ≡ map own_of placed.all.items = c.in_ok-owners.ensures
    ∙ ap (λ (ps : List Placed). map own_of ps) c.deref-6.ensures.value in
    let numbers = numbers_moved c.args.plan.now c.deref-7.result.now nets c.deref-8.result.now instances
    c.deref-9.result.now (map own_of placed.all.items) c.in_ok-numbers.numbers c.deref-7.ensures.value
    c.deref-8.ensures.value
    (c.deref-9.ensures.value ∙ own_is) c.in_ok-numbers.ensures in
    let long : c.len.result ≡ length (map own_of placed.all.items) =
    (let counted = ap (λ (os : List OwnNet). length os) own_is in let held = c.in_ok-owners.owners.ok in let is =
    c.len.ensures in omega (arith, counted, held, is)) in
    let prefix : take c.len.result c.deref-10.result.now ≡ take (length (map own_of placed.all.items))
    c.in_ok-numbers.numbers.all.items =
    ap (λ (n : ℕ). take n c.deref-10.result.now) long
    ∙ ap (take (length (map own_of placed.all.items))) c.deref-10.ensures.value in
    subst (λ (ns : List ℕ). All (λ n. n < 2 ^ 31) ns) (sym prefix)
    (numbers_small c.args.tech.now c.args.plan.now masters nets instances c.requires.planned c.in_ok-nets.ensures
    c.in_ok-instances.ensures shapes.all.items shapes.firsts.items made placed.all.items placed.starts.items have
    (take (length (map own_of placed.all.items)) c.in_ok-numbers.numbers.all.items) numbers.pieces c.requires.few)

pub returns : goal.returns
returns c =
    let masters = c.args.masters.now in
    let nets = c.in_ok-nets.nets.items in
    let instances = c.in_ok-instances.instances.items in
    let shapes = c.in_ok-shapes.shapes in
    let placed = c.in_ok-placed.placed in
    let made = subst (λ (z : List Instance). AreShapesOf masters z shapes.all.items shapes.firsts.items)
    c.deref-2.ensures.value c.in_ok-shapes.ensures in
    let have = pieces_moved masters c.deref-3.result.now nets c.deref-4.result.now instances c.deref-5.result.now
    shapes.all.items placed.all.items placed.starts.items c.deref-3.ensures.value c.deref-4.ensures.value
    c.deref-5.ensures.value
    c.in_ok-placed.ensures in
    let own_is : c.in_ok-owners.owners.items ≡ map own_of placed.all.items = c.in_ok-owners.ensures
    ∙ ap (λ (ps : List Placed). map own_of ps) c.deref-6.ensures.value in
    let numbers = numbers_moved c.args.plan.now c.deref-7.result.now nets c.deref-8.result.now instances
    c.deref-9.result.now (map own_of placed.all.items) c.in_ok-numbers.numbers c.deref-7.ensures.value
    c.deref-8.ensures.value
    (c.deref-9.ensures.value ∙ own_is) c.in_ok-numbers.ensures in
    let long : c.len.result ≡ length (map own_of placed.all.items) =
    (let counted = ap (λ (os : List OwnNet). length os) own_is in let held = c.in_ok-owners.owners.ok in let is =
    c.len.ensures in omega (arith, counted, held, is)) in
    let prefix : take c.len.result c.deref-10.result.now ≡ take (length (map own_of placed.all.items))
    c.in_ok-numbers.numbers.all.items =
    ap (λ (n : ℕ). take n c.deref-10.result.now) long
    ∙ ap (take (length (map own_of placed.all.items))) c.deref-10.ensures.value in
    connected c.args.tech.now c.args.plan.now masters _ placed.all.items c.requires.planned c.in_ok-nets.ensures
    c.in_ok-instances.ensures c.in_ok-drawn.ensures made have numbers
    (c.in_ok-pieces.ensures.places ∙ ap (λ (ps : List Placed). map stand_of ps) c.deref-11.ensures.value)
    (c.in_ok-pieces.ensures.nets ∙ prefix) (c.next_net-count.ensures ∙ ap next_net prefix)
