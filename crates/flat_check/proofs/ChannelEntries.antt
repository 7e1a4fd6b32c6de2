-- The channels of crossings, as entries.
use Rattle.std.proofs.Common.{◌≡◌, ℕ, zero, suc, ◌^◌, ◌<◌, ◌≤◌, inl, inr, List, length, map, take, get_or, All}
use Rattle.std.proofs.Common.{Contains, Result, Ok, Err, IfOk, sym, ap, ◌∙◌, subst, arith, length-take}
use Rattle.std.proofs.lemmas.{Bool.cases_lt, List.{length-map, take_all, Elements.{All-contains, All-map, All-take, Contains-get_or}}}
use Rattle.list_facts.proofs.Some.{contains_map}
use Rattle.lam_geom.specs.{Places.IsPlacedBox, declared.boxes.{BoxXY.BoxXY, MaskBox.MaskBox}}
use Rattle.rule_table.specs.declared.technology.Tech.{Tech}
use Rattle.box_tree.specs.{declared.entries.Entry.Entry, Orders.AreReordered}
use Rattle.box_tree.proofs.Orders.{reordered_all, reordered_contains}
use Rattle.crossing_model.specs.{declared.crossing.Crossing.Crossing, Boxes.AreSearchable, Crossings.IsIncreasing}
use Rattle.rule_breaks.specs.Breaks.{IsChannel}
use Rattle.flat_check.specs.{FlatLayouts.HaveChannels, Trees.{AreChannels, channel_entry}}
use Rattle.flat_check.proofs.OneChannel.{channel_among, channel_placed}

-- a number of a list that rises is no less than its place
rises : (xs : List ℕ) → IsIncreasing xs → (k : ℕ) → k < length xs → k ≤ get_or xs k 0
rises xs h zero lt = omega arith
rises xs h (suc k) lt = let before = rises xs h k (omega arith) in let step =
    h k (suc k) (omega arith) lt in omega (arith, before, step)

few_rise : (xs : List ℕ) (n : ℕ) → IsIncreasing xs → ((k : ℕ) → k < length xs → get_or xs k 0 < n) → length xs ≤ n
few_rise xs n h below =
    elim (cases_lt n (length xs)) [
      | inl less ↦ (let up = rises xs h n less in let low = below n less in absurd (omega (arith, up, low)))
      | inr more
          ↦ more
    ]

abbrev pub entry_of_crossing : Crossing → Entry
entry_of_crossing c = channel_entry c.channel c.diffusion

module _ (tech : Tech) (boxes : List MaskBox) (crossings shown : List Crossing) (entries : List Entry) (n : ℕ)
    (searchable : AreSearchable boxes) (have : HaveChannels tech boxes crossings) (same : shown ≡ crossings)
    (listed : entries ≡ map entry_of_crossing (take n shown)) where
  -- there are no more of them than boxes
  pub crossings_few : length entries ≤ 2 ^ 21
  crossings_few =
      let diffusion = λ (c : Crossing). c.diffusion in
      let long : length (map diffusion crossings) ≡ length crossings = length-map crossings diffusion in
      let below = All-map (λ (d : ℕ). d < length boxes) diffusion crossings
      (λ k d lt. (channel_among tech boxes _ _ (have.each k d lt)).among) in
      let few : length (map diffusion crossings) ≤ length boxes =
      few_rise (map diffusion crossings) (length boxes) have.in_order (λ k lt. below k 0 lt) in
      let count : length entries ≡ length (take n shown) = ap length listed
      ∙ length-map (take n shown) entry_of_crossing in
      let all : length shown ≡ length crossings = ap length same in
      omega (arith, few, long, count, all, length-take n shown, searchable.few)

  pub channels_placed : All (λ (s : Entry). IsPlacedBox s.area) entries
  channels_placed =
      let placed : All (λ (c : Crossing). IsPlacedBox c.channel) crossings =
      λ k d lt. channel_placed tech boxes _ _ searchable (have.each k d lt) in
      let seen = All-take (λ (c : Crossing). IsPlacedBox c.channel) n shown
      (subst (All (λ (c : Crossing). IsPlacedBox c.channel)) (sym same) placed) in
      subst (All (λ (s : Entry). IsPlacedBox s.area)) (sym listed)
      (All-map (λ (s : Entry). IsPlacedBox s.area) entry_of_crossing (take n shown) seen)

channels_listed : (tech : Tech) (boxes : List MaskBox) (crossings : List Crossing) (entries : List Entry)
    → HaveChannels tech boxes crossings → entries ≡ map entry_of_crossing crossings → AreChannels tech boxes entries
channels_listed tech boxes crossings entries have is = subst (AreChannels tech boxes) (sym is) (record {
  sound = λ s there. All-contains (λ (x : Entry). IsChannel tech boxes x.owner x.area)
      (map entry_of_crossing crossings) s
      (All-map (λ (x : Entry). IsChannel tech boxes x.owner x.area) entry_of_crossing crossings have.each) there;
  complete = λ d s h.
      let found = have.complete d s h in
      let C = Contains (map entry_of_crossing crossings) in
      subst (λ (k : ℕ). C (channel_entry s k)) found.2
      (subst (λ (x : BoxXY). C (channel_entry x found.0.diffusion)) found.3
      (contains_map entry_of_crossing crossings found.0 found.1));
})

-- the same in another order
channels_reordered : (tech : Tech) (boxes : List MaskBox) (given entries : List Entry) → AreReordered given entries
    → AreChannels tech boxes given → AreChannels tech boxes entries
channels_reordered tech boxes given entries moved h =
    let P : Entry → Type 0 = λ s. IsChannel tech boxes s.owner s.area in
    let all : All P given = λ k d lt. h.sound (get_or given k d) (Contains-get_or given k d lt) in
    record {
      sound = λ s there. All-contains P entries s (reordered_all P given entries moved all) there;
      complete = λ d channel is. reordered_contains given entries (channel_entry channel d) moved
          (h.complete d channel is);
    }

pub all_channels : {E : Type 0} (tech : Tech) (boxes : List MaskBox) (crossings shown : List Crossing)
    (entries : List Entry) (n : ℕ) (r : Result (List Entry) E) → HaveChannels tech boxes crossings → shown ≡ crossings
    → length shown ≤ n → entries ≡ map entry_of_crossing (take n shown) → IfOk r (AreReordered entries)
    → IfOk r (AreChannels tech boxes)
all_channels tech boxes crossings shown entries n (Ok tree) have same end listed moved =
    channels_reordered tech boxes entries tree moved
    (channels_listed tech boxes crossings entries have
    (listed ∙ (ap (map entry_of_crossing) (take_all n shown end) ∙ ap (map entry_of_crossing) same)))
all_channels tech boxes crossings shown entries n (Err fault) have same end listed moved = tt
