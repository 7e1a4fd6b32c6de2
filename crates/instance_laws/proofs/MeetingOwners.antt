-- What items each owner has, in all instances.
use Rattle.std.proofs.Common.{◌≡◌, ℕ, ◌+◌, ◌<◌, ℤ, Bool, List, length, refl, sym, ap, ◌∙◌, arith, inl, inr, ◌⊎◌}
use Rattle.rule_table.specs.declared.{technology.Tech.Tech, classes.Class.{Class, TheVariants.{M, P, Dc, Dm}}}
use Rattle.sym_items.specs.declared.items.{Coords.Coords, Item.Item}
use Rattle.cell_model.specs.declared.cell.Axis2.{Axis2}
use Rattle.list_facts.proofs.Elements.{all_at}
use Rattle.pair_rules.specs.Bound.{no_item, item_at}
use Rattle.expand.specs.declared.master.Master.{Master}
use Rattle.plan_model.specs.declared.plan.Plan.{Plan}
use Rattle.instance_laws.specs.{Planned.AreOfPlan, Rules.{items_at, sides_at_spot}, Conductors.{InstanceItem, item_of}}
use Rattle.instance_laws.specs.Meetings.{master_of, at, IsOfClass, IsOwned, IsTransistorAt, IsOnePiece}
use Rattle.instance_laws.{specs.Meetings.{DiffusionConducts, PiecesHaveMasks, OwnersHaveOne}, proofs.Meeting.master_is}
use Rattle.instance_laws.proofs.{MeetingRuns.{IsRun, HasOwner, places, IsSingle, found, single}, MeetingBlocks.StandsIn}
use Rattle.instance_laws.proofs.MeetingBlocks.{stands_in, class_in, IsOnePieceIn, IsPlaced, IsOfTransistor, placed}

-- ---- in a list

class_there : (list block : List Item) (owner : ℕ) (run : IsRun list block owner) (n : ℕ) (c : Class)
    (h : StandsIn list block owner run n) → (item_at list n).class ≡ c → class_in block h.j ≡ c
class_there list block owner run n c h e = sym (ap (λ (i : Item). i.class) h.is) ∙ e

-- diffusion of the mask is one piece
pub record IsOnePieceOf (list : List Item) (n : ℕ) : Type 0 where
  pub piece : ℕ
  pub among : piece < length list
  pub is : item_at list piece ≡ record (item_at list n) { class = Dc }
  pub one_chunk : (k : ℕ) → k < length list → (item_at list k).owner ≡ (item_at list n).owner
      → (item_at list k).class ≡ Dc → k ≡ piece
  pub one_mask : (k : ℕ) → k < length list → (item_at list k).owner ≡ (item_at list n).owner
      → (item_at list k).class ≡ Dm → k ≡ n

one_piece_of : (list block : List Item) (n : ℕ) (run : IsRun list block (item_at list n).owner)
    (h : StandsIn list block (item_at list n).owner run n) → IsOnePieceIn block h.j → IsOnePieceOf list n
one_piece_of list block n run h one =
    let owner : ℕ = (item_at list n).owner in
    let first : ℕ = run.first in
    let within = run.within in
    let among = one.among in
    let here = h.place in
    record {
      piece = first + one.piece;
      among = omega (arith, within, among);
      is = run.at one.piece one.among ∙ (one.is ∙ ap (λ (i : Item). record i { class = Dc }) (sym h.is));
      one_chunk = λ k lt e c. (
          let other = stands_in list block owner k run lt e in
          let same = one.one_chunk other.j other.among (class_there list block owner run k Dc other c) in
          other.place ∙ ap (λ (j : ℕ). first + j) same
          );
      one_mask = λ k lt e c. (
          let other = stands_in list block owner k run lt e in
          let same = one.one_mask other.j other.among (class_there list block owner run k Dm other c) in
          other.place ∙ (ap (λ (j : ℕ). first + j) same ∙ sym h.place)
          );
    }

-- two items of one owner that are of a class of which it has one at most
one_of : (c : Class) (list block : List Item) (owner m n : ℕ) → IsSingle (places c 0 block) → IsRun list block owner
    → m < length list → n < length list
    → (item_at list m).owner ≡ owner → (item_at list n).owner ≡ owner → (item_at list m).class ≡ c
    → (item_at list n).class ≡ c → m ≡ n
one_of c list block owner m n one run lt less em en cm cn =
    let a = stands_in list block owner m run lt em in
    let b = stands_in list block owner n run less en in
    let at_a = found c block a.j a.among (class_there list block owner run m c a cm) in
    let at_b = found c block b.j b.among (class_there list block owner run n c b cn) in
    let same : a.j ≡ b.j = single (places c 0 block) a.j b.j one at_a at_b in
    a.place ∙ (ap (λ (j : ℕ). run.first + j) same ∙ sym b.place)

-- ---- in all instances

module _ (tech : Tech) (plan : Plan) (masters : List Master) (planned : AreOfPlan tech plan masters) where
  placed_at : (a : InstanceItem) (c : Class) → IsOfClass plan masters c a
      → IsPlaced (items_at plan masters a.spot)
      (IsOfTransistor (master_of plan masters a.spot).cell (item_of plan masters a).owner) a.item
  placed_at a c h = placed tech (master_of plan masters a.spot)
      (master_is tech plan masters a.spot planned h.drawn.spot) a.item h.drawn.among

  drawn_piece : (layouts : List Coords) (a : InstanceItem) → IsOfClass plan masters Dm a
      → IsOnePieceOf (items_at plan masters a.spot) a.item → IsOnePiece tech plan masters layouts a
  drawn_piece layouts a h one = record {
    piece = one.piece;
    is_piece =
        record {
          drawn = record { spot = h.drawn.spot; among = one.among };
          of_class = ap (λ (i : Item). i.class) one.is;
          owned = ap (λ (i : Item). i.owner) one.is;
        };
    one_chunk = λ n k. one.one_chunk n k.drawn.among k.owned k.of_class;
    one_mask = λ n k. one.one_mask n k.drawn.among k.owned k.of_class;
    lies_there = ap (sides_at_spot tech plan layouts a.spot) one.is;
    stands_low = ap (λ (i : Item). i.at_low) one.is;
    stands_high = ap (λ (i : Item). i.at_high) one.is;
  }

  pub diffusion_conducts : (layouts : List Coords) → DiffusionConducts tech plan masters layouts
  diffusion_conducts layouts a h =
      let p = placed_at a Dm h in
      let list = items_at plan masters a.spot in
      elim (p.lawful.pieces p.stands.j p.stands.among
      (class_there list p.block (item_of plan masters a).owner p.run a.item Dm p.stands h.of_class)) [
        | inl one ↦ inl (drawn_piece layouts a h (one_piece_of list p.block a.item p.run p.stands one))
        | inr fet ↦
            inr (
              fet.0,
              fet.3.depletion,
              fet.3.gate,
              fet.3.w,
              fet.3.l,
              record { there = h.drawn.spot; node = fet.1; kind = fet.3.is },
              fet.2,
            )
      ]

  -- and has its net
  pub piece_nets : (a : InstanceItem) → IsOfClass plan masters Dm a
      → ((n : ℕ) × IsOwned plan masters Dc (item_of plan masters a).owner (at a.spot n)
      × ((item_of plan masters a).net ≡ (item_of plan masters (at a.spot n)).net))
      ⊎ ((k : ℕ) × (depletion : Bool) × (gate : Axis2) × (w : ℤ) × (l : ℤ)
      × IsTransistorAt plan masters a.spot k depletion gate w l × ((item_of plan masters a).owner ≡ k))
  piece_nets a h =
      let p = placed_at a Dm h in
      let list = items_at plan masters a.spot in
      elim (p.lawful.pieces p.stands.j p.stands.among
      (class_there list p.block (item_of plan masters a).owner p.run a.item Dm p.stands h.of_class)) [
        | inl one ↦
            let o = one_piece_of list p.block a.item p.run p.stands one in
            let is_piece : IsOwned plan masters Dc (item_of plan masters a).owner (at a.spot o.piece) =
            record {
              drawn = record { spot = h.drawn.spot; among = o.among };
              of_class = ap (λ (i : Item). i.class) o.is;
              owned = ap (λ (i : Item). i.owner) o.is;
            } in
            inl (o.piece, is_piece, sym (ap (λ (i : Item). i.net) o.is))
        | inr fet ↦
            inr (
              fet.0,
              fet.3.depletion,
              fet.3.gate,
              fet.3.w,
              fet.3.l,
              record { there = h.drawn.spot; node = fet.1; kind = fet.3.is },
              fet.2,
            )
      ]

  pub pieces_have_masks : PiecesHaveMasks plan masters
  pieces_have_masks a h =
      let p = placed_at a Dc h in
      let list = items_at plan masters a.spot in
      let owner : ℕ = (item_of plan masters a).owner in
      let mask = p.lawful.masks p.stands.j p.stands.among
      (class_there list p.block owner p.run a.item Dc p.stands h.of_class) in
      let within = p.run.within in
      let lt = mask.1 in
      let at_mask = p.run.at mask.0 lt in (
        p.run.first + mask.0,
        record {
          drawn = record { spot = h.drawn.spot; among = omega (arith, within, lt) };
          of_class = ap (λ (i : Item). i.class) at_mask ∙ mask.2;
          owned = ap (λ (i : Item). i.owner) at_mask ∙ all_at (HasOwner owner) p.block no_item mask.0 p.run.owned lt;
        },
      )

  pub owners_have_poly : OwnersHaveOne plan masters P
  owners_have_poly spot k m n a b =
      let p = placed_at (at spot m) P (record { drawn = a.drawn; of_class = a.of_class }) in
      one_of P (items_at plan masters spot) p.block (item_of plan masters (at spot m)).owner m n p.lawful.poly p.run
      a.drawn.among b.drawn.among refl (b.owned ∙ sym a.owned) a.of_class b.of_class

  pub owners_have_metal : OwnersHaveOne plan masters M
  owners_have_metal spot k m n a b =
      let p = placed_at (at spot m) M (record { drawn = a.drawn; of_class = a.of_class }) in
      one_of M (items_at plan masters spot) p.block (item_of plan masters (at spot m)).owner m n p.lawful.metal p.run
      a.drawn.among b.drawn.among refl (b.owned ∙ sym a.owned) a.of_class b.of_class
