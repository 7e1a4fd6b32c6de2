-- Which items of a node and of a wire conduct, and their nets.
use Rattle.std.proofs.Common.{◌≡◌, ◌≢◌, ℕ, zero, suc, ◌+◌, ◌<◌, true, false, List, length, refl, sym, ap, ◌∙◌, subst}
use Rattle.std.{proofs.Common.{arith, inl, inr, ◌⊎◌}, specs.Prelude.slice_index}
use Rattle.rule_table.specs.declared.{technology.Tech.Tech, classes.Class.{Class, TheVariants.{M, P, Dc}}}
use Rattle.rule_table.specs.declared.classes.Layer.{Layer, TheVariants.{Diffusion, Poly, Metal}}
use Rattle.sym_items.specs.declared.items.Item.{Item}
use Rattle.cell_model.specs.declared.cell.{Axis2.{Axis2, TheVariants.{Across, Up}}, NodeKind.NodeKind}
use Rattle.cell_model.specs.declared.cell.{NodeKind.TheVariants.{Joint, Contact, Buried, Fet}, NodeNets.NodeNets}
use Rattle.cell_model.specs.{declared.cell.{Cell.Cell, Nets.Nets}, Nets.{kind_parts, nets_of_kind}, Sound.wire_at}
use Rattle.pair_rules.specs.Bound.{item_at}
use Rattle.expand.specs.{NodeItems.{item_running, on_layer, kind_items}, Items.items_of_wire}
use Rattle.buried_contacts.proofs.Owners.{LayerHas}
use Rattle.instance_laws.specs.Conductors.{Conducts}

-- ---- layers

-- the class that conducts on a layer, and which box of it conducts
abbrev pub class_on : Layer → Class
class_on Metal = M
class_on Poly = P
class_on Diffusion = Dc

abbrev pub home_on : Layer → ℕ
home_on Metal = 0
home_on Poly = 0
home_on Diffusion = 1

pub layer_conducts : (layer : Layer) (i : Item) (r : ℕ) → r < length (on_layer layer i)
    → Conducts (item_at (on_layer layer i) r).class → r ≡ home_on layer
layer_conducts Metal i zero lt c = refl
layer_conducts Metal i (suc r) lt c = absurd (omega (arith, lt))
layer_conducts Poly i zero lt c = refl
layer_conducts Poly i (suc r) lt c = absurd (omega (arith, lt))
layer_conducts Diffusion i zero lt c = absurd c
layer_conducts Diffusion i (suc zero) lt c = refl
layer_conducts Diffusion i (suc (suc r)) lt c = absurd (omega (arith, lt))

pub home_within : (layer : Layer) (i : Item) → home_on layer < length (on_layer layer i)
home_within Metal i = omega arith
home_within Poly i = omega arith
home_within Diffusion i = omega arith

-- the box that conducts is the item, of its layer's class
pub home_is : (layer : Layer) (i : Item)
    → item_at (on_layer layer i) (home_on layer) ≡ record i { class = class_on layer }
home_is Metal i = refl
home_is Poly i = refl
home_is Diffusion i = refl

pub class_has : (layer : Layer) → LayerHas layer (class_on layer)
class_has Metal = refl
class_has Poly = refl
class_has Diffusion = refl

pub class_conducts : (layer : Layer) → Conducts (class_on layer)
class_conducts Metal = tt
class_conducts Poly = tt
class_conducts Diffusion = tt

-- ---- nodes

-- the numbers of the items that conduct, of a node of this kind
abbrev pub Conducting : NodeKind → ℕ → Type 0
Conducting (Joint layer width) r = r ≡ home_on layer
Conducting (Contact lower) r = (r ≡ 0) ⊎ (r ≡ suc (suc (home_on lower)))
Conducting Buried r = (r ≡ 0) ⊎ (r ≡ 2)
Conducting (Fet depletion gate w l) r = (r ≡ 0) ⊎ ((r ≡ 2) ⊎ (r ≡ 3))

-- which part of the node such an item is: of a transistor 0 its gate, 1 its low and 2 its high diffusion
abbrev pub part_in : NodeKind → ℕ → ℕ
part_in (Joint layer width) r = 0
part_in (Contact lower) r = 0
part_in Buried r = 0
part_in (Fet depletion gate w l) zero = 0
part_in (Fet depletion gate w l) (suc zero) = 0
part_in (Fet depletion gate w l) (suc (suc zero)) = 1
part_in (Fet depletion gate w l) (suc (suc (suc r))) = 2

pub node_conducts : (tech : Tech) (k : ℕ) (kind : NodeKind) (nets : NodeNets) (r : ℕ)
    → r < length (kind_items tech k kind nets) → Conducts (item_at (kind_items tech k kind nets) r).class
    → Conducting kind r
node_conducts tech k (Joint layer width) nets r lt c = layer_conducts layer _ r lt c
node_conducts tech k (Contact lower) nets zero lt c = inl refl
node_conducts tech k (Contact lower) nets (suc zero) lt c = absurd c
node_conducts tech k (Contact lower) nets (suc (suc r)) lt c =
    inr (ap (λ (n : ℕ). suc (suc n)) (layer_conducts lower _ r (omega (arith, lt)) c))
node_conducts tech k Buried nets zero lt c = inl refl
node_conducts tech k Buried nets (suc zero) lt c = absurd c
node_conducts tech k Buried nets (suc (suc zero)) lt c = inr refl
node_conducts tech k Buried nets (suc (suc (suc zero))) lt c = absurd c
node_conducts tech k Buried nets (suc (suc (suc (suc r)))) lt c = absurd (omega (arith, lt))
node_conducts tech k (Fet depletion gate w l) nets zero lt c = inl refl
node_conducts tech k (Fet depletion Across w l) nets (suc zero) lt c = absurd c
node_conducts tech k (Fet depletion Up w l) nets (suc zero) lt c = absurd c
node_conducts tech k (Fet depletion gate w l) nets (suc (suc zero)) lt c = inr (inl refl)
node_conducts tech k (Fet depletion gate w l) nets (suc (suc (suc zero))) lt c = inr (inr refl)
node_conducts tech k (Fet depletion Across w l) nets (suc (suc (suc (suc zero)))) lt c = absurd c
node_conducts tech k (Fet depletion Up w l) nets (suc (suc (suc (suc zero)))) lt c = absurd c
node_conducts tech k (Fet true Across w l) nets (suc (suc (suc (suc (suc zero))))) lt c = absurd c
node_conducts tech k (Fet true Up w l) nets (suc (suc (suc (suc (suc zero))))) lt c = absurd c
node_conducts tech k (Fet true gate w l) nets (suc (suc (suc (suc (suc (suc r)))))) lt c = absurd (omega (arith, lt))
node_conducts tech k (Fet false gate w l) nets (suc (suc (suc (suc (suc r))))) lt c = absurd (omega (arith, lt))

pub part_small : (kind : NodeKind) (r : ℕ) → part_in kind r < kind_parts kind
part_small (Joint layer width) r = omega arith
part_small (Contact lower) r = omega arith
part_small Buried r = omega arith
part_small (Fet depletion gate w l) zero = omega arith
part_small (Fet depletion gate w l) (suc zero) = omega arith
part_small (Fet depletion gate w l) (suc (suc zero)) = omega arith
part_small (Fet depletion gate w l) (suc (suc (suc r))) = omega arith

-- the net of such an item is its part's
running_net : (gate : Axis2) (i : Item) → (item_running gate i).net ≡ i.net
running_net Across i = refl
running_net Up i = refl

abbrev pub HasPartsNet : Tech → ℕ → List ℕ → ℕ → NodeKind → ℕ → Type 0
HasPartsNet tech k numbers v kind r = (item_at (kind_items tech k kind (nets_of_kind kind numbers v)) r).net
    ≡ slice_index numbers (v + part_in kind r)

pub node_net : (tech : Tech) (k : ℕ) (kind : NodeKind) (numbers : List ℕ) (v r : ℕ) → Conducting kind r
    → HasPartsNet tech k numbers v kind r
node_net tech k kind numbers v r h = by kind r h
  where
    first : slice_index numbers v ≡ slice_index numbers (v + 0)
    first = ap (slice_index numbers) (omega arith)

    on : (layer : Layer) (i : Item) → i.net ≡ slice_index numbers v
        → (item_at (on_layer layer i) (home_on layer)).net ≡ slice_index numbers (v + 0)
    on layer i e = ap (λ (j : Item). j.net) (home_is layer i) ∙ (e ∙ first)

    by : (kind : NodeKind) (r : ℕ) → Conducting kind r → HasPartsNet tech k numbers v kind r
    by (Joint layer width) r h = subst (HasPartsNet tech k numbers v (Joint layer width)) (sym h) (on layer _ refl)
    by (Contact lower) r (inl h) = subst (HasPartsNet tech k numbers v (Contact lower)) (sym h) first
    by (Contact lower) r (inr h) = subst (HasPartsNet tech k numbers v (Contact lower)) (sym h) (on lower _ refl)
    by Buried r (inl h) = subst (HasPartsNet tech k numbers v Buried) (sym h) first
    by Buried r (inr h) = subst (HasPartsNet tech k numbers v Buried) (sym h) first
    by (Fet depletion gate w l) r (inl h) =
        subst (HasPartsNet tech k numbers v (Fet depletion gate w l)) (sym h) (running_net gate _ ∙ first)
    by (Fet depletion gate w l) r (inr (inl h)) =
        subst (HasPartsNet tech k numbers v (Fet depletion gate w l)) (sym h) (running_net gate _)
    by (Fet depletion gate w l) r (inr (inr h)) =
        subst (HasPartsNet tech k numbers v (Fet depletion gate w l)) (sym h) (running_net gate _)

-- its owner is the node
running_owner : (gate : Axis2) (i : Item) → (item_running gate i).owner ≡ i.owner
running_owner Across i = refl
running_owner Up i = refl

abbrev IsOwnedBy : Tech → ℕ → NodeNets → NodeKind → ℕ → Type 0
IsOwnedBy tech k nets kind r = (item_at (kind_items tech k kind nets) r).owner ≡ k

pub node_owner : (tech : Tech) (k : ℕ) (kind : NodeKind) (nets : NodeNets) (r : ℕ) → Conducting kind r
    → (item_at (kind_items tech k kind nets) r).owner ≡ k
node_owner tech k (Joint layer width) nets r h =
    subst (IsOwnedBy tech k nets (Joint layer width)) (sym h) (ap (λ (j : Item). j.owner) (home_is layer _))
node_owner tech k (Contact lower) nets r (inl h) = subst (IsOwnedBy tech k nets (Contact lower)) (sym h) refl
node_owner tech k (Contact lower) nets r (inr h) =
    subst (IsOwnedBy tech k nets (Contact lower)) (sym h) (ap (λ (j : Item). j.owner) (home_is lower _))
node_owner tech k Buried nets r (inl h) = subst (IsOwnedBy tech k nets Buried) (sym h) refl
node_owner tech k Buried nets r (inr h) = subst (IsOwnedBy tech k nets Buried) (sym h) refl
node_owner tech k (Fet depletion gate w l) nets r (inl h) =
    subst (IsOwnedBy tech k nets (Fet depletion gate w l)) (sym h) (running_owner gate _)
node_owner tech k (Fet depletion gate w l) nets r (inr (inl h)) =
    subst (IsOwnedBy tech k nets (Fet depletion gate w l)) (sym h) (running_owner gate _)
node_owner tech k (Fet depletion gate w l) nets r (inr (inr h)) =
    subst (IsOwnedBy tech k nets (Fet depletion gate w l)) (sym h) (running_owner gate _)

-- Two items of one part are one, or the metal and the lower layer of a contact, or poly and diffusion of a buried
-- contact.
abbrev pub IsPair : NodeKind → ℕ → ℕ → Type 0
IsPair (Joint layer width) r s = ⊥
IsPair (Contact lower) r s = (r ≡ 0) × (s ≡ suc (suc (home_on lower)))
IsPair Buried r s = (r ≡ 0) × (s ≡ 2)
IsPair (Fet depletion gate w l) r s = ⊥

apart_parts : {T : Type 0} (kind : NodeKind) (r s m n : ℕ) → r ≡ m → s ≡ n → part_in kind r ≡ part_in kind s
    → part_in kind m ≢ part_in kind n → T
apart_parts kind r s m n a b e ne = absurd (ne (sym (ap (part_in kind) a) ∙ (e ∙ ap (part_in kind) b)))

pub one_or_pair : (kind : NodeKind) (r s : ℕ) → Conducting kind r → Conducting kind s
    → part_in kind r ≡ part_in kind s → (r ≡ s) ⊎ (IsPair kind r s ⊎ IsPair kind s r)
one_or_pair (Joint layer width) r s a b e = inl (a ∙ sym b)
one_or_pair (Contact lower) r s (inl a) (inl b) e = inl (a ∙ sym b)
one_or_pair (Contact lower) r s (inl a) (inr b) e = inr (inl (a, b))
one_or_pair (Contact lower) r s (inr a) (inl b) e = inr (inr (b, a))
one_or_pair (Contact lower) r s (inr a) (inr b) e = inl (a ∙ sym b)
one_or_pair Buried r s (inl a) (inl b) e = inl (a ∙ sym b)
one_or_pair Buried r s (inl a) (inr b) e = inr (inl (a, b))
one_or_pair Buried r s (inr a) (inl b) e = inr (inr (b, a))
one_or_pair Buried r s (inr a) (inr b) e = inl (a ∙ sym b)
one_or_pair (Fet depletion gate w l) r s (inl a) (inl b) e = inl (a ∙ sym b)
one_or_pair (Fet depletion gate w l) r s (inr (inl a)) (inr (inl b)) e = inl (a ∙ sym b)
one_or_pair (Fet depletion gate w l) r s (inr (inr a)) (inr (inr b)) e = inl (a ∙ sym b)
one_or_pair (Fet depletion gate w l) r s (inl a) (inr (inl b)) e =
    apart_parts (Fet depletion gate w l) r s 0 2 a b e (omega arith)
one_or_pair (Fet depletion gate w l) r s (inl a) (inr (inr b)) e =
    apart_parts (Fet depletion gate w l) r s 0 3 a b e (omega arith)
one_or_pair (Fet depletion gate w l) r s (inr (inl a)) (inl b) e =
    apart_parts (Fet depletion gate w l) r s 2 0 a b e (omega arith)
one_or_pair (Fet depletion gate w l) r s (inr (inl a)) (inr (inr b)) e =
    apart_parts (Fet depletion gate w l) r s 2 3 a b e (omega arith)
one_or_pair (Fet depletion gate w l) r s (inr (inr a)) (inl b) e =
    apart_parts (Fet depletion gate w l) r s 3 0 a b e (omega arith)
one_or_pair (Fet depletion gate w l) r s (inr (inr a)) (inr (inl b)) e =
    apart_parts (Fet depletion gate w l) r s 3 2 a b e (omega arith)

-- ---- wires

pub wire_conducts : (tech : Tech) (cell : Cell) (nets : Nets) (w r : ℕ) → r < length (items_of_wire tech cell nets w)
    → Conducts (item_at (items_of_wire tech cell nets w) r).class → r ≡ home_on (wire_at cell.wires w).layer
wire_conducts tech cell nets w r lt c = layer_conducts (wire_at cell.wires w).layer _ r lt c
