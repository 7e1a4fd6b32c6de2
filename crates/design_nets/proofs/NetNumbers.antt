-- The numbers of the nets of instances.
use Rattle.std.proofs.Common.{◌≡◌, ℕ, ◌+◌, ◌^◌, ◌<◌, List, length, get_or, ap, ◌∙◌, arith, length-append}
use Rattle.std.proofs.lemmas.List.{get_or_default, FromFn.length-map-range_with_len}
use Rattle.std.specs.{Prelude.slice_index, List.All}
use Rattle.cell_model.specs.declared.cell.Nets.{Nets}
use Rattle.design_nets.specs.{declared.{instances.Instance.Instance, owners.OwnNet.OwnNet}, Firsts.together}
use Rattle.design_nets.specs.{Firsts.AreFirsts, Instances.{no_instance, master_no}, Joining.{own_net, net_count}}
use Rattle.design_nets.specs.{Joining.{nets_in, IsOwn}, Linking.{number_of, AreNetFirsts}, Nets.no_nets}
use Rattle.design_nets.proofs.Lists.{together_more, together_within}

module _ (nets : List Nets) (instances : List Instance) where
  pub nets_counted : (s : ℕ) → length (nets_in nets instances s) ≡ net_count nets instances s
  nets_counted s = length-map-range_with_len (own_net s) 0 (net_count nets instances s)

  -- the number after the nets of one more instance
  pub next_number : (first s next count : ℕ) → next ≡ first + length (together (nets_in nets instances) s)
      → count ≡ net_count nets instances s
      → next + count ≡ first + length (together (nets_in nets instances) (s + 1))
  next_number first s next count is counted =
      let more = ap (λ (xs : List OwnNet). length xs) (together_more (nets_in nets instances) s)
      ∙ length-append (together (nets_in nets instances) s) (nets_in nets instances s) in
      let own = nets_counted s in
      omega (arith, more, own, is, counted)

  -- the nets that were read for it
  pub count_read : (s : ℕ) (d : Nets) → All (λ (i : Instance). i.master < length nets) instances
      → s < length instances → (get_or nets (master_no instances s) d).count ≡ net_count nets instances s
  count_read s d among lt =
      ap (λ (n : Nets). n.count) (get_or_default nets (master_no instances s) d no_nets (among s no_instance lt))

  pub number_within : (first : ℕ) (firsts : List ℕ) (own : OwnNet)
      → AreFirsts (nets_in nets instances) (length instances) first firsts → IsOwn nets instances own
      → (number_of firsts own ≡ first + (length (together (nets_in nets instances) own.instance) + own.net))
      × (number_of firsts own < slice_index firsts (length instances))
  number_within first firsts own h is =
      let lt = is.instance in
      let net = is.net in
      let counted = nets_counted own.instance in
      let begins = h.each own.instance (omega (arith, lt)) in
      let ends = h.each (length instances) (omega arith) in
      let within = together_within (nets_in nets instances) (length instances) own.instance own.net lt
      (omega (arith, net, counted)) in
      (omega (arith, begins), omega (arith, begins, ends, within))

  pub number_small : (firsts : List ℕ) (own : OwnNet) → AreNetFirsts nets instances firsts → IsOwn nets instances own
      → number_of firsts own < 2 ^ 31
  number_small firsts own h is =
      let few = h.few in
      let within = (number_within h.first firsts own h.are is).1 in
      omega (arith, few, within)
