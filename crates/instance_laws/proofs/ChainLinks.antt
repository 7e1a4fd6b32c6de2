-- Chains of links between conductors: they lead back, and one goes on where another ends.
use Rattle.std.{proofs.Common.{◌≡◌, ◌≤ℤ◌, List, sym, subst}, specs.Prelude.pos}
use Rattle.rule_table.specs.declared.technology.Tech.{Tech}
use Rattle.sym_items.specs.declared.items.Coords.{Coords}
use Rattle.expand.specs.declared.master.Master.{Master}
use Rattle.plan_model.specs.declared.plan.Plan.{Plan}
use Rattle.instance_laws.proofs.Gaps.{sides_turned}
use Rattle.instance_laws.specs.Conductors.{InstanceItem, sides_of_drawn, IsConductor, AreOfOneBox, AreLinked, by_touch}
use Rattle.instance_laws.specs.Conductors.{by_cut, by_contact, by_contact_back, AreConnected, here, further}

one_box_back : (plan : Plan) (masters : List Master) (a b : InstanceItem) → AreOfOneBox plan masters a b
    → AreOfOneBox plan masters b a
one_box_back plan masters a b h = record { spot = sym h.spot; owner = sym h.owner; class = sym h.class }

module _ (tech : Tech) (plan : Plan) (masters : List Master) (layouts : List Coords) where
  pub linked_back : (a b : InstanceItem) → AreLinked tech plan masters layouts a b
      → AreLinked tech plan masters layouts b a
  linked_back a b (by_touch differ class touch) =
      by_touch (λ one. differ (one_box_back plan masters b a one)) (sym class)
      (subst (λ z. z ≤ℤ pos 0)
      (sides_turned (sides_of_drawn tech plan masters layouts a) (sides_of_drawn tech plan masters layouts b))
      touch)
  linked_back a b (by_cut cut differ drawn class first second) =
      by_cut cut (λ one. differ (one_box_back plan masters b a one)) drawn class second first
  linked_back a b (by_contact h) = by_contact_back h
  linked_back a b (by_contact_back h) = by_contact h

  -- a chain that begins with a conductor ends with one
  pub end_conducts : (a b : InstanceItem) → IsConductor plan masters a → AreConnected tech plan masters layouts a b
      → IsConductor plan masters b
  end_conducts a b from here = from
  end_conducts a b from (further c d chain conducts link) = conducts

  -- one link
  pub connected_one : (a b : InstanceItem) → IsConductor plan masters b → AreLinked tech plan masters layouts a b
      → AreConnected tech plan masters layouts a b
  connected_one a b conducts link = further a b here conducts link

  pub connected_then : (a b c : InstanceItem) → AreConnected tech plan masters layouts a b
      → AreConnected tech plan masters layouts b c → AreConnected tech plan masters layouts a c
  connected_then a b c first here = first
  connected_then a b c first (further d e chain conducts link) =
      further d e (connected_then a b d first chain) conducts link

  pub connected_back : (a b : InstanceItem) → IsConductor plan masters a → AreConnected tech plan masters layouts a b
      → AreConnected tech plan masters layouts b a
  connected_back a b from here = here
  connected_back a b from (further c d chain conducts link) =
      connected_then d c a (connected_one d c (end_conducts a c from chain) (linked_back c d link))
      (connected_back a c from chain)

  -- the same drawn item
  pub connected_same : (a b : InstanceItem) → a ≡ b → AreConnected tech plan masters layouts a b
  connected_same a b e = subst (AreConnected tech plan masters layouts a) e here
