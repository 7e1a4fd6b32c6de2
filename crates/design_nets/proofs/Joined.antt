-- Nets of instances that ports join are those that chains of links reach.
use Rattle.std.proofs.Common.{◌≡◌, ℕ, zero, suc, ◌+◌, ◌<◌, ◌≤◌, List, [], ◌++◌, length, take, Contains, Some, inl, inr}
use Rattle.std.proofs.{Common.{refl, sym, ap, ◌∙◌, subst, arith, length-append}, lemmas.List.get_or_append_left}
use Rattle.std.proofs.lemmas.List.{get_or-append-add, get_or-take, take-take, length-take-le}
use Rattle.std.proofs.lemmas.List.FromFn.{length-map-range_with_len, get_or-map-range_with_len}
use Rattle.std.proofs.lemmas.Option.{slice_get_within, slice_get-get_or, get_or_from_slice_get}
use Rattle.std.specs.{Prelude.{slice_get, slice_index}, List.All}
use Rattle.lam_geom.specs.declared.boxes.Axis.{Axis, TheVariants.{X, Y}}
use Rattle.cell_model.specs.declared.cell.Nets.{Nets}
use Rattle.graph_search.specs.Netting.{Attached, Chain, Reaches, next_net, IsNumberedInOrder, IsNetting}
use Rattle.graph_search.proofs.Chains.{reaches_none, reaches_one, reaches_more, reaches_trans}
use Rattle.plan_model.specs.declared.plan.Plan.{Plan}
use Rattle.design_nets.specs.{declared.{instances.Instance.Instance, owners.OwnNet.OwnNet}, Firsts.together}
use Rattle.design_nets.specs.{Firsts.AreFirsts, Joining.{own_net, net_count, nets_in, IsOwn, HaveNets, Meet, AreJoined}}
use Rattle.design_nets.specs.{Joining.{same, forth, back, AreNetNumbers}, Linking.{number_of, AreAdded, IsPieceLink}}
use Rattle.design_nets.specs.Linking.{IsMeetLink, IsLink, of_piece, of_ports, AreAllLinks}
use Rattle.design_nets.proofs.{AxisLinks.{meeting_before, meeting_after}, Lists.together_get, NetNumbers.number_within}

module _ (plan : Plan) (nets : List Nets) (instances : List Instance) where
  -- ---- chains of ports

  joined_then : (a b c : OwnNet) → AreJoined plan nets instances a b → AreJoined plan nets instances b c
      → AreJoined plan nets instances a c
  joined_then a b c h same = h
  joined_then a b c h (forth axis d e chain meet) = forth axis d e (joined_then a b d h chain) meet
  joined_then a b c h (back axis d e chain meet) = back axis d e (joined_then a b e h chain) meet

  joined_back : (a b : OwnNet) → AreJoined plan nets instances a b → AreJoined plan nets instances b a
  joined_back a b same = same
  joined_back a b (forth axis d e chain meet) = joined_then e d a (back axis d e same meet) (joined_back a d chain)
  joined_back a b (back axis d e chain meet) = joined_then d e a (forth axis d e same meet) (joined_back a e chain)

  -- ---- all links

  pub all_links : (firsts : List ℕ) (owners : List OwnNet) (one two three : List (ℕ × ℕ))
      → AreAdded (IsPieceLink firsts owners) [] one
      → AreAdded (IsMeetLink X plan nets instances firsts (length instances)) one two
      → AreAdded (IsMeetLink Y plan nets instances firsts (length instances)) two three
      → AreAllLinks plan nets instances firsts owners three
  all_links firsts owners one two three pieces on_x on_y = record {
    sound = λ u v c. elim (on_y.sound u v c) [
      | inr link ↦ of_ports Y link
      | inl c ↦ elim (on_x.sound u v c) [
        | inr link ↦ of_ports X link
        | inl c ↦
            elim (pieces.sound u v c) [
              | inr link ↦ of_piece link
              | inl none ↦
                  absurd (let lt = none.1 in omega (arith, lt))
            ]
      ]
    ];
    complete = λ u v link. by u v link;
  }
    where
      by : (u v : ℕ) → IsLink plan nets instances firsts owners u v → Contains three (u, v)
      by u v (of_piece link) = on_y.kept u v (on_x.kept u v (pieces.complete u v link))
      by u v (of_ports X link) = on_y.kept u v (on_x.complete u v link)
      by u v (of_ports Y link) = on_y.complete u v link

  module _ (have : HaveNets plan nets instances) (owners : List OwnNet) (owned : All (IsOwn nets instances) owners)
      (firsts : List ℕ) (are : AreFirsts (nets_in nets instances) (length instances) (length owners) firsts) where
    -- ---- what the numbers stand for

    -- pieces first, and then the nets of the instances
    abbrev vertices : List OwnNet
    vertices = owners ++ together (nets_in nets instances) (length instances)

    abbrev Means : ℕ → OwnNet → Type 0
    Means u own = slice_get vertices u ≡ Some own

    one_meaning : (u : ℕ) (a b : OwnNet) → Means u a → Means u b → a ≡ b
    one_meaning u a b h k = (let both : Some a ≡ Some b = sym h ∙ k in cc)

    piece_means : (u : ℕ) (own : OwnNet) → slice_get owners u ≡ Some own → Means u own
    piece_means u own h =
        let rest : List OwnNet = together (nets_in nets instances) (length instances) in
        let lt = slice_get_within owners u own h in
        slice_get-get_or (owners ++ rest) u own (omega (arith, lt, length-append owners rest))
        ∙ ap Some (get_or_append_left owners rest own u lt ∙ get_or_from_slice_get owners u own own h)

    number_means : (own : OwnNet) → IsOwn nets instances own → Means (number_of firsts own) own
    number_means own is =
        let rest : List OwnNet = together (nets_in nets instances) (length instances) in
        let s : ℕ = own.instance in
        let count : ℕ = net_count nets instances s in
        let net = is.net in
        let in_list : slice_get (nets_in nets instances s) own.net ≡ Some own =
        slice_get-get_or (nets_in nets instances s) own.net own
        (omega (arith, net, length-map-range_with_len (own_net s) 0 count))
        ∙ ap Some (get_or-map-range_with_len (own_net s) 0 count own.net own.net own net (omega arith)) in
        let k : ℕ = length (together (nets_in nets instances) s) + own.net in
        let there : slice_get rest k ≡ Some own =
        together_get (nets_in nets instances) (length instances) s own.net own is.instance in_list in
        let lt = slice_get_within rest k own there in
        ap (slice_get (owners ++ rest)) (number_within nets instances (length owners) firsts own are is).0
        ∙ (slice_get-get_or (owners ++ rest) (length owners + k) own (omega (arith, lt, length-append owners rest))
        ∙ ap Some (get_or-append-add owners rest k own ∙ get_or_from_slice_get rest k own own there))

    meet_owns : (axis : Axis) (a b : OwnNet) → Meet axis plan nets instances a b
        → IsOwn nets instances a × IsOwn nets instances b
    meet_owns axis a b meet = (
      meeting_before axis plan nets instances have a.instance b.instance (record { before = a.net; after = b.net })
          meet.before meet.meeting,
      meeting_after axis plan nets instances have a.instance b.instance (record { before = a.net; after = b.net })
          meet.after meet.meeting,
    )

    -- ---- links

    record IsStep (u v : ℕ) : Type 0 where
      a : OwnNet
      b : OwnNet
      first : Means u a
      second : Means v b
      joined : AreJoined plan nets instances a b

    step_back : (u v : ℕ) → IsStep u v → IsStep v u
    step_back u v h =
        record { a = h.b; b = h.a; first = h.second; second = h.first; joined = joined_back h.a h.b h.joined }

    link_steps : (u v : ℕ) → IsLink plan nets instances firsts owners u v → IsStep u v
    link_steps u v (of_piece link) =
        let own : OwnNet = link.own in
        let is = owned u own (slice_get_within owners u own link.there) in
        let here : IsOwn nets instances own =
        subst (IsOwn nets instances) (get_or_from_slice_get owners u own own link.there) is in
        record {
          a = own;
          b = own;
          first = piece_means u own link.there;
          second = subst (λ (n : ℕ). Means n own) (sym link.is) (number_means own here);
          joined = same;
        }
    link_steps u v (of_ports axis link) =
        let own = meet_owns axis link.a link.b link.meet in
        record {
          a = link.a;
          b = link.b;
          first = subst (λ (n : ℕ). Means n link.a) (sym link.first) (number_means link.a own.0);
          second = subst (λ (n : ℕ). Means n link.b) (sym link.second) (number_means link.b own.1);
          joined = forth axis link.a link.b same link.meet;
        }

    -- they lead to numbers that stand for something
    pub link_within : (u v : ℕ) → IsLink plan nets instances firsts owners u v
        → (u < slice_index firsts (length instances)) × (v < slice_index firsts (length instances))
    link_within u v link =
        let rest : List OwnNet = together (nets_in nets instances) (length instances) in
        let step = link_steps u v link in
        let first = slice_get_within (owners ++ rest) u step.a step.first in
        let second = slice_get_within (owners ++ rest) v step.b step.second in
        let ends = are.each (length instances) (omega arith) in
        (omega (arith, first, ends, length-append owners rest), omega (arith, second, ends, length-append owners rest))

    module _ (links : List (ℕ × ℕ)) (all : AreAllLinks plan nets instances firsts owners links) where
      attached_steps : (u v : ℕ) → Attached links u v → IsStep u v
      attached_steps u v (inl c) = link_steps u v (all.sound u v c)
      attached_steps u v (inr c) = step_back v u (link_steps v u (all.sound v u c))

      chain_joined : (n u v : ℕ) (a b : OwnNet) → Chain (Attached links) n u v → Means u a → Means v b
          → AreJoined plan nets instances a b
      chain_joined zero u v a b e x y =
          (let e : a ≡ b = one_meaning v a b (subst (λ (n : ℕ). Means n a) e x) y in subst
          (AreJoined plan nets instances a) e same)
      chain_joined (suc n) u v a b h x y =
          let step = attached_steps u h.0 h.1 in
          let start : step.a ≡ a = one_meaning u step.a a step.first x in
          let first : AreJoined plan nets instances a step.b =
          subst (λ (z : OwnNet). AreJoined plan nets instances z step.b) start step.joined in
          joined_then a step.b b first (chain_joined n h.0 v step.b b h.2 step.second y)

      joined_reaches : (a b : OwnNet) → AreJoined plan nets instances a b
          → Reaches (Attached links) (number_of firsts a) (number_of firsts b)
      joined_reaches a b same = reaches_none (Attached links) (number_of firsts a) (number_of firsts a) refl
      joined_reaches a b (forth axis d e chain meet) =
          reaches_trans (Attached links) (number_of firsts a) (number_of firsts d) (number_of firsts e)
          (joined_reaches a d chain)
          (reaches_one (Attached links) (number_of firsts d) (number_of firsts e)
          (inl (all.complete (number_of firsts d) (number_of firsts e)
          (of_ports axis
          (record { a = d; b = e; meet = meet; passed = meet.before; first = refl; second = refl })))))
      joined_reaches a b (back axis d e chain meet) =
          reaches_trans (Attached links) (number_of firsts a) (number_of firsts e) (number_of firsts d)
          (joined_reaches a e chain)
          (reaches_one (Attached links) (number_of firsts e) (number_of firsts d)
          (inr (all.complete (number_of firsts d) (number_of firsts e)
          (of_ports axis
          (record { a = d; b = e; meet = meet; passed = meet.before; first = refl; second = refl })))))

      piece_reaches : (u : ℕ) (own : OwnNet) → slice_get owners u ≡ Some own → Contains links (u, number_of firsts own)
      piece_reaches u own h =
          all.complete u (number_of firsts own) (of_piece (record { own = own; there = h; is = refl }))

      pieces_reach : (u v : ℕ) (a b : OwnNet) → slice_get owners u ≡ Some a → slice_get owners v ≡ Some b
          → AreJoined plan nets instances a b → Reaches (Attached links) u v
      pieces_reach u v a b h k joined =
          reaches_more (Attached links) u (number_of firsts a) v (inl (piece_reaches u a h))
          (reaches_trans (Attached links) (number_of firsts a) (number_of firsts b) v (joined_reaches a b joined)
          (reaches_one (Attached links) (number_of firsts b) v (inr (piece_reaches v b k))))

      -- ---- numbers

      pub numbers_are : (all_numbers : List ℕ) → IsNetting (slice_index firsts (length instances)) links all_numbers
          → IsNumberedInOrder all_numbers
          → AreNetNumbers plan nets instances owners (take (length owners) all_numbers)
      numbers_are numbers netting in_order =
          let count : ℕ = length owners in
          let ends = are.each (length instances) (omega arith) in
          let counted = netting.counted in
          let long : count ≤ length numbers = omega (arith, ends, counted) in
          let own = length-take-le count numbers long in
          let below : (u : ℕ) (a : OwnNet) → slice_get owners u ≡ Some a
          → u < count = λ u a h. slice_get_within owners u a h in
          record {
            counted = own;
            joined = λ i j a b h k. (
                let li = below i a h in
                let lj = below j b k in
                let at_i = get_or-take count numbers i 0 li in
                let at_j = get_or-take count numbers j 0 lj in
                let in_i : i < slice_index firsts (length instances) = omega (arith, li, ends) in
                let in_j : j < slice_index firsts (length instances) = omega (arith, lj, ends) in (
                  λ e. (let r = netting.joined i j in_i in_j (sym at_i ∙ (e ∙ at_j)) in chain_joined r.0 i j a b r.1
                      (piece_means i a h) (piece_means j b k)),
                  λ joined. at_i ∙ (netting.same i j in_i in_j (pieces_reach i j a b h k joined) ∙ sym at_j),
                )
                );
            in_order = λ k lt. (
                let few : k < count = omega (arith, lt, own) in
                let le = in_order k (omega (arith, few, long)) in
                let at = get_or-take count numbers k 0 few in
                let prefix = ap next_net (take-take k count numbers (omega (arith, few))) in
                omega (arith, le, at, prefix)
                );
          }

      -- a piece has the number of its net
      pub piece_same : (all_numbers : List ℕ) → IsNetting (slice_index firsts (length instances)) links all_numbers
          → (i : ℕ) (own : OwnNet) → slice_get owners i ≡ Some own
          → slice_index all_numbers i ≡ slice_index all_numbers (number_of firsts own)
      piece_same numbers netting i own h =
          let v : ℕ = number_of firsts own in
          let link : IsLink plan nets instances firsts owners i v =
          of_piece (record { own = own; there = h; is = refl }) in
          let within = link_within i v link in
          netting.same i v within.0 within.1 (reaches_one (Attached links) i v (inl (all.complete i v link)))
