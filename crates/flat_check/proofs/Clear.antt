-- Runs and trees of which no entry answers another's question, and rules that are then broken nowhere.
use Rattle.std.proofs.Common.{◌≡◌, ◌≢◌, ℕ, zero, suc, ◌+◌, ◌<◌, ◌≤◌, inl, inr, ℤ, pos, ◌-ℤ◌, ◌<ℤ◌, ◌≤ℤ◌, Option, List}
use Rattle.std.proofs.Common.{Some, None, Bool, true, false, IsTrue, Result, IfOk, Contains, length, get_or, refl, sym}
use Rattle.std.proofs.{Common.{ap, ◌∙◌, subst, arith}, lemmas.{Bool.cases_lt, Int.{ints, clamps}}}
use Rattle.std.proofs.lemmas.{List.get_or_default, Result.IfOk-weaker}
use Rattle.std.{proofs.lemmas.Option.slice_get-get_or, specs.{Prelude.slice_get, Int.int_max}}
use Rattle.lam_geom.specs.declared.boxes.{MaskBox.MaskBox, MaskLayer.{MaskLayer, TheVariants.{ND, NP, NC, NI, NB}}}
use Rattle.lam_geom.specs.{declared.boxes.Span.Span, Gaps.{EnclosesSpan, Overlaps, gap_of, gap_of_boxes}}
use Rattle.rule_table.specs.{declared.technology.Tech.Tech, Technology.numbers_of}
use Rattle.box_tree.specs.declared.query.Question.{Question, TheVariants.{NearOfOther, NearOfOtherTag, NearApart}}
use Rattle.box_tree.specs.declared.{query.Question.TheVariants.{Covers, NearShort, NearOutside}, entries.Ends.Ends}
use Rattle.box_tree.specs.{declared.{entries.{Group.Group, Entry.Entry}, tree.Parts.Parts}, Queries.{Holds, reach_of}}
use Rattle.box_tree.specs.{Tree.{IsBounded, IsOneTag, IsTreeOf, Reaches}, UnvisitedTrees.no_group}
use Rattle.box_tree.proofs.Trees.{IsBarren, IsPassed, group_here, passed_all, passed_group, passed_into, passed_none}
use Rattle.box_tree.proofs.Within.{inside_past, too_far}
use Rattle.crossing_model.specs.{Boxes.{area_at, layer_at, grains}, Crossings.AreProper}
use Rattle.crossings.specs.Entries.{AreBoxesOn, box_entry}
use Rattle.box_pieces.specs.Pieces.{box_of}
use Rattle.rule_breaks.specs.declared.rule.Rule.{Rule, TheVariants.{CutSpacing, CutToChannel, ImplantToChannel}}
use Rattle.rule_breaks.specs.declared.rule.Rule.TheVariants.{PolyToDiffusion, ProperCrossing, WindowToChannel}
use Rattle.rule_breaks.specs.Breaks.{ArePairOf, ArePiecesTooNear, AtNets, AtTwo, IsBreak, IsImplantTooNear}
use Rattle.rule_breaks.{specs.{Breaks.IsNearChannel, Order.IsKept, Reaches.spacing_of_rule}, proofs.Turned.gap_turned}
use Rattle.flat_check.specs.{declared.flat_layout.FlatLayout.FlatLayout, Clear.{AllMeet, AllPass, AreClear, AreFree}}
use Rattle.flat_check.specs.Clear.{AreRunsClear, group_in, AreOneTag, BoundsRefuse, IsFree, IsGroupIn, IsTree, LieApart}
use Rattle.flat_check.specs.{Clear.{asked_by, query_beside, entry_in}, Partners.{IsBesideBox, net_question}}
use Rattle.flat_check.specs.{Partners.question_of, FlatLayouts.IsFlatLayout, Trees.{AreChannels, ArePerhapsProper}}
use Rattle.flat_check.{specs.Trees.{ArePiecesOn, piece_entry}, proofs.{Among.boxes_of_break, PiecePairs.nets_counted}}
use Rattle.flat_check.proofs.{PiecePairs.{piece_within, pieces_found}, Rows.{channels_row, cut_row, piece_row}}
use Rattle.flat_check.proofs.{Rows.{short_channels_row, turned, within}, Wholes.whole_listed}

-- ---- runs

-- the group at a place, as it is read
abbrev pub read : Parts → ℕ → Group → Group
read parts at group = get_or parts.groups.now at group

pub is_read : (parts : Parts) (at : ℕ) (group : Group) → at < length parts.groups.now
    → read parts at group ≡ read parts at (read parts at group)
is_read parts at group lt = get_or_default parts.groups.now at group (read parts at group) lt

pub is_group_in : (parts : Parts) (at : ℕ) (group : Group) → IsTree parts → at < length parts.groups.now
    → IsGroupIn parts (read parts at group)
is_group_in parts at group t lt =
    let g = group_here parts.entries.now (length parts.entries.now) at parts.groups.now (read parts at group) t.groups_of lt
    (is_read parts at group lt) in
    record { placed = g.placed; ends = g.ends; bounded = g.within }

-- a tree that was taken apart
pub tree_read : (parts : Parts) (entries : List Entry) → parts.entries.now ≡ entries
    → IsTreeOf entries parts.groups.now → IsTree parts
tree_read parts entries is t = subst (λ (ss : List Entry). IsTreeOf ss parts.groups.now) (sym is) t

-- no entry of a tree answers a question beside one of a run of another
abbrev pub IsRunClear : Parts → Parts → Question → Group → Type 0
IsRunClear own others question group = (p : ℕ) (t : Entry) → group.start ≤ p → p < group.start + group.count
    → Contains others.entries.now t → Holds (query_beside question (entry_in own p)) t → ⊥

-- an entry that answers a question beside one of a run
abbrev pub IsAsked : Parts → Group → Question → Entry → Type 0
IsAsked own group question t =
    (p : ℕ) × (group.start ≤ p) × (p < group.start + group.count) × Holds (query_beside question (entry_in own p)) t

-- an entry beside which one of a list answers a question
abbrev pub IsMet : List Entry → Question → Entry → Type 0
IsMet to question s = (t : Entry) × Contains to t × Holds (query_beside question s) t

same_reach : (s : Entry) (question : Question) → reach_of (asked_by s question) ≡ reach_of question
same_reach s (NearOfOther reach owner) = refl
same_reach s (NearOfOtherTag reach owner tag) = refl
same_reach s (NearApart reach) = refl
same_reach s (Covers margin) = refl
same_reach s (NearShort reach margin) = refl
same_reach s (NearOutside reach margin) = refl

span_off : (outer own other : Span) → EnclosesSpan outer own (pos 0) → gap_of outer other ≤ℤ gap_of own other
span_off outer own other h = omega (arith, ints, clamps, h.0, h.1)

off : (a b c d reach : ℤ) → a ≤ℤ c → b ≤ℤ d → reach <ℤ int_max a b → reach <ℤ int_max c d
off a b c d reach h k far = omega (arith, ints, clamps)

both_below : (a b : ℤ) → a <ℤ pos 0 → b <ℤ pos 0 → int_max a b <ℤ pos 0
both_below a b h k = omega (arith, ints, clamps)

-- ---- two groups

-- where two groups have one tag, all their entries have it
one_tag : (a b : Option ℕ) (s t : ℕ) → AreOneTag a b → IsOneTag a s → IsOneTag b t → t ≡ s
one_tag (Some one) (Some other) s t same own their = their ∙ sym same ∙ sym own
one_tag (Some one) None s t never own their = absurd never
one_tag None other s t never own their = absurd never

-- where the ends meet, all spans that reach them overlap
all_meet : (a b : Ends) (s t : Span) → AllMeet a b → Reaches a s → Reaches b t → gap_of s t <ℤ pos 0
all_meet a b s t h own their = omega (arith, ints, clamps, h.0, h.1, own.0, own.1, their.0, their.1)

-- where the ends go past a span, all spans that reach them do
all_pass : (ends : Ends) (span own : Span) (margin : ℤ) → AllPass ends span margin → Reaches ends own
    → EnclosesSpan own span margin
all_pass ends span own margin h r = (omega (arith, ints, h.0, r.0), omega (arith, ints, h.1, r.1))

not_near : (gap reach : ℤ) → reach <ℤ gap → gap ≤ℤ reach → ⊥
not_near gap reach far near = omega (arith, ints, far, near)

module _ (group other : Group) (s t : Entry) (a : IsBounded group s) (b : IsBounded other t) where
  -- groups that lie too far apart
  none_far : (question : Question) (reach : ℤ) → reach_of question ≡ Some reach
      → reach <ℤ gap_of_boxes group.outer other.outer → Holds (query_beside question s) t → ⊥
  none_far question reach is far holds =
      let x = span_off group.outer.x s.area.x other.outer.x a.outer.0 in
      let y = span_off group.outer.y s.area.y other.outer.y a.outer.1 in
      let apart : reach <ℤ gap_of_boxes s.area other.outer =
      off (gap_of group.outer.x other.outer.x) (gap_of group.outer.y other.outer.y) _ _ reach x y far in
      too_far (asked_by s question) s.area other.outer t (Some reach) (sym (same_reach s question ∙ is))
      (not_near (gap_of_boxes s.area other.outer) reach apart) b.outer holds

  -- groups whose bounds refuse a question
  none_refused : (question : Question) → BoundsRefuse question group other → Holds (query_beside question s) t → ⊥
  none_refused (NearOfOther reach owner) never holds = absurd never
  none_refused (NearOfOtherTag reach owner tag) same holds =
      holds.2 (one_tag group.tag other.tag s.tag t.tag same a.tag b.tag)
  none_refused (NearApart reach) meet holds = holds.1 (both_below (gap_of s.area.x t.area.x) (gap_of s.area.y t.area.y)
      (all_meet group.inner.x other.inner.x s.area.x t.area.x meet.0 a.inner.0 b.inner.0)
      (all_meet group.inner.y other.inner.y s.area.y t.area.y meet.1 a.inner.1 b.inner.1))
  none_refused (Covers margin) never holds = absurd never
  none_refused (NearShort reach margin) never holds = absurd never
  none_refused (NearOutside reach margin) pass holds =
      let x = all_pass group.inner.x other.outer.x s.area.x margin pass.0 a.inner.0 in
      let y = all_pass group.inner.y other.outer.y s.area.y margin pass.1 a.inner.1 in
      holds.1 (inside_past s.area other.outer t.area margin (x, y) b.outer)

  pub none_apart : (question : Question) (reach : ℤ) → reach_of question ≡ Some reach
      → LieApart group other question reach → Holds (query_beside question s) t → ⊥
  none_apart question reach is (inl far) holds = none_far question reach is far holds
  none_apart question reach is (inr refused) holds = none_refused question refused holds

-- one more place of a run
pub free_more : (parts : Parts) (other : Group) (own : Parts) (from at : ℕ) (question : Question)
    → AreFree parts other own from at question → IsFree parts other (query_beside question (entry_in own at))
    → AreFree parts other own from (at + 1) question
free_more parts other own from at question before here p low high = elim (cases_lt p at) [
  | inl less ↦ before p low less
  | inr more ↦ let same : p ≡ at = omega arith in
      subst (λ (n : ℕ). IsFree parts other (query_beside question (entry_in own n))) (sym same) here
]

at_number : (entries : List Entry) (s : Entry) (there : Contains entries s) → slice_get entries there.0 ≡ Some s
at_number entries s there = slice_get-get_or entries there.0 s there.1 ∙ ap Some there.2

pub run_clear : (own : Parts) (group : Group) (others : Parts) (question : Question) (at : ℕ)
    → length others.groups.now ≤ at
    → IsPassed others.entries.now others.groups.now (IsAsked own group question) at
    → (p : ℕ) (t : Entry) → group.start ≤ p → p < group.start + group.count → Contains others.entries.now t
    → Holds (query_beside question (entry_in own p)) t → ⊥
run_clear own group others question at past h p t low high there holds =
    passed_all others.entries.now others.groups.now (IsAsked own group question) at past h
    there.0 t
    (at_number others.entries.now t there) (p, low, high, holds)

-- past all groups, where no lowest one has an entry that is met
passed_leaves : (own : Parts) (to : List Entry) (question : Question) → IsTree own
    → ((k : ℕ) → k < length own.groups.now → (group_in own k).inside ≡ 0
    → IsBarren own.entries.now (group_in own k) (IsMet to question)) → (n : ℕ)
    → n ≤ length own.groups.now
    → IsPassed own.entries.now own.groups.now (IsMet to question) n
passed_leaves own to question tree leaves zero le =
    passed_none own.entries.now own.groups.now (IsMet to question) tree
passed_leaves own to question tree leaves (suc n) le =
    let entries = own.entries.now in let groups = own.groups.now in
    let P = IsMet to question in
    let lt : n < length groups = omega arith in
    let group = group_in own n in
    let is : group ≡ get_or groups n group = get_or_default groups n no_group group lt in
    let before = passed_leaves own to question tree leaves n (omega arith) in
    elim (cases_lt 0 group.inside) [
      | inl some ↦
          (let next : n + 1 ≡ suc n = omega arith in
          subst (IsPassed entries groups P) next
          (passed_into entries groups P n group tree lt is some before))
      | inr none ↦
          (let inside : group.inside ≡ 0 = omega arith in
          let next : n + 1 + group.inside ≡ suc n = omega arith in
          subst (IsPassed entries groups P) next
          (passed_group entries groups P n group tree lt is (leaves n lt inside) before))
    ]

-- so no entry of the tree is met
pub all_clear : (own others : Parts) (question : Question) (to : List Entry) → IsTree own
    → others.entries.now ≡ to
    → AreRunsClear own others question 0 (length own.groups.now) → AreClear question own.entries.now to
all_clear own others question to tree same clear s t there other holds =
    let past = passed_leaves own to question tree
    (λ k lt inside p low high met. clear k (omega arith) lt inside p met.0 low high
    (subst (λ (ts : List Entry). Contains ts met.0) (sym same) met.1) met.2) (length own.groups.now) (omega arith) in
    passed_all own.entries.now own.groups.now (IsMet to question) (length own.groups.now)
    (omega arith) past there.0 s (at_number own.entries.now s there) (t, other, holds)

-- ---- rules

-- a rule that is known by its name
pub by_name : {rule own : Rule} → rule ≡ own → (Clear Kept : Rule → Type 0) → (r : Bool) → (Clear own → Kept own)
    → (IsTrue r → Clear rule) → IsTrue r → Kept rule
by_name {own = own} is Clear Kept r law h t = subst (λ (x : Rule). Clear x → Kept x) (sym is) law (h t)

-- one that is kept where a tree is clear of another
pub kept_where : {E : Type 0} (flat : FlatLayout) (r : Result Bool E) {rule own : Rule} → rule ≡ own
    → (from to : List Entry)
    → (AreClear (question_of flat.tech.now own 0) from to → IsKept flat.tech.now flat.boxes.now own)
    → IfOk r (λ clear. IsTrue clear → AreClear (question_of flat.tech.now rule 0) from to)
    → IfOk r (λ kept. IsTrue kept → IsKept flat.tech.now flat.boxes.now rule)
kept_where flat r is from to law = IfOk-weaker r _ _ (λ clear.
    by_name is (λ x. AreClear (question_of flat.tech.now x 0) from to) (IsKept flat.tech.now flat.boxes.now) clear law)

pub proper_kept : (tech : Tech) (boxes : List MaskBox) → AreProper tech boxes → IsKept tech boxes ProperCrossing
proper_kept tech boxes proper a b (lt, inl h) = h.improper (proper a b h.meeting)
proper_kept tech boxes proper a b (lt, inr h) = h.improper (proper b a h.meeting)

pub proper_where : (tech : Tech) (boxes : List MaskBox) (proper : Bool) → ArePerhapsProper tech boxes proper
    → IsTrue proper → AreProper tech boxes
proper_where tech boxes true h t = h
proper_where tech boxes false h t = cc

module _ (tech : Tech) (boxes : List MaskBox) where
  none_beside : (layer : MaskLayer) (ask : Question) (from to : List Entry) → AreBoxesOn boxes layer from
      → AreClear ask from to → (a b : ℕ) → IsBesideBox boxes layer (asked_by (box_entry boxes a) ask) to a b → ⊥
  none_beside layer ask from to own clear a b (on, o) =
      clear (box_entry boxes a) o.entry (own.complete a on.among on) o.there o.holds

  pub cuts_kept : (cuts : List Entry) → AreBoxesOn boxes NC cuts → AreClear (question_of tech CutSpacing 0) cuts cuts
      → IsKept tech boxes CutSpacing
  cuts_kept cuts are clear a b (lt, h) = none_beside NC (question_of tech CutSpacing 0) cuts cuts are clear a b
      ((cut_row tech boxes cuts a b are).1 (λ e. omega (arith, lt, e), h))

  module _ (channels : List Entry) (are : AreChannels tech boxes channels) where
    none_near : (layer : MaskLayer) (spacing : ℤ) (from : List Entry) → AreBoxesOn boxes layer from
        → AreClear (NearOfOther (grains tech spacing -ℤ pos 1) 0) from channels → (k d : ℕ) → k ≢ d
        → IsNearChannel tech boxes layer spacing k d → ⊥
    none_near layer spacing from own clear k d ne h =
        none_beside layer (NearOfOther (grains tech spacing -ℤ pos 1) 0) from channels own clear k d
        ((channels_row tech boxes channels layer spacing k d are).1 (ne, h))

    pub cuts_off : (cuts : List Entry) → AreBoxesOn boxes NC cuts
        → AreClear (question_of tech CutToChannel 0) cuts channels → IsKept tech boxes CutToChannel
    cuts_off cuts own clear a b (lt, inl h) = none_near NC _ cuts own clear a b (λ e. omega (arith, lt, e)) h
    cuts_off cuts own clear a b (lt, inr h) = none_near NC _ cuts own clear b a (λ e. omega (arith, lt, e)) h

    pub windows_off : (windows : List Entry) → AreBoxesOn boxes NB windows
        → AreClear (question_of tech WindowToChannel 0) windows channels → IsKept tech boxes WindowToChannel
    windows_off windows own clear a b (lt, inl h) = none_near NB _ windows own clear a b (λ e. omega (arith, lt, e)) h.1
    windows_off windows own clear a b (lt, inr h) = none_near NB _ windows own clear b a (λ e. omega (arith, lt, e)) h.1

    implant_off : (implants : List Entry) → AreBoxesOn boxes NI implants
        → AreClear (question_of tech ImplantToChannel 0) implants channels → (k d : ℕ)
        → IsImplantTooNear tech boxes k d → ⊥
    implant_off implants own clear k d h =
        none_beside NI (question_of tech ImplantToChannel 0) implants channels own clear k d
        ((short_channels_row tech boxes channels k d are).1 h)

    pub implants_off : (implants : List Entry) → AreBoxesOn boxes NI implants
        → AreClear (question_of tech ImplantToChannel 0) implants channels → IsKept tech boxes ImplantToChannel
    implants_off implants own clear a b (lt, inl h) = implant_off implants own clear a b h
    implants_off implants own clear a b (lt, inr h) = implant_off implants own clear b a h

module _ (flat : FlatLayout) (is : IsFlatLayout flat) where
  abbrev tech : Tech
  tech = flat.tech.now

  abbrev boxes : List MaskBox
  boxes = flat.boxes.now

  nets_apart : (layer : MaskLayer) (rule : Rule) (entries : List Entry) → AreProper tech boxes
      → ArePiecesOn flat layer entries → AreClear (net_question tech rule) entries entries → (a b : ℕ)
      → b < length boxes → AtTwo (ArePiecesTooNear tech boxes layer (spacing_of_rule tech rule)) a b → ⊥
  nets_apart layer rule entries proper pieces clear a b among (lt, h) =
      let spacing = spacing_of_rule tech rule in let la : a < length boxes = omega (arith, lt, among) in
      let k = pieces_found flat layer spacing a b is proper la (λ e. omega (arith, lt, e), h) in
      let o = (piece_row flat layer spacing entries k.i b pieces).1 k.near in
      let inside = piece_within flat a k.i is la (record { low = k.low; high = k.high }) in
      let box : box_of flat.pieces.placed.items k.i ≡ a = is.pieces.ranges.of_box a k.i la k.low k.high in
      let within : k.i < length flat.nets.items = omega (arith, nets_counted flat is, inside) in
      clear (piece_entry flat k.i) o.entry (pieces.complete k.i within (within, ap (layer_at boxes) box ∙ h.on_first))
      o.there o.holds

  -- a rule on pieces of different nets on a layer, known by its name
  pub nets_kept : {rule own : Rule} → rule ≡ own → (layer : MaskLayer) (entries : List Entry)
      → ((a b : ℕ) → IsBreak tech boxes own a b → AtNets tech boxes layer (spacing_of_rule tech own) a b)
      → ArePiecesOn flat layer entries → (r : Bool) → (IsTrue r → AreClear (net_question tech rule) entries entries)
      → IsTrue r → IsKept tech boxes rule
  nets_kept {own = own} name layer entries at_nets pieces r =
      by_name name (λ x. AreClear (net_question tech x) entries entries) (IsKept tech boxes) r (λ clear a b h.
      let nets = at_nets a b h in
      nets_apart layer own entries nets.0.crossings pieces clear a b (boxes_of_break tech boxes own a b h).1 nets.1)

  pub poly_apart : (poly diffusion : List Entry) → ArePiecesOn flat NP poly → AreBoxesOn boxes ND diffusion
      → AreClear (question_of tech PolyToDiffusion 0) poly diffusion → IsKept tech boxes PolyToDiffusion
  poly_apart poly diffusion pieces all clear a b (lt, h) = go h.on.pair where
    least : ℤ
    least = grains tech (numbers_of tech).spacing_poly_diffusion

    go : ArePairOf a b h.on.p h.on.q → ⊥
    go pair =
        let p = h.on.p in let q = h.on.q in
        let whole = whole_listed flat NP poly p is (inl refl) pieces h.on.first in
        let both = near_by pair in
        clear (record { area = area_at boxes p; owner = p; tag = whole.0 }) (box_entry boxes q) whole.1
        (all.complete q h.on.second.among h.on.second) (within _ _ both.0, both.1) where
          near_by : ArePairOf a b h.on.p h.on.q
              → (gap_of_boxes (area_at boxes h.on.p) (area_at boxes h.on.q) <ℤ least)
              × (Overlaps (area_at boxes h.on.p) (area_at boxes h.on.q) → ⊥)
          near_by (inl (e, f)) = rw (← e, ← f) (h.near, h.apart)
          near_by (inr (e, f)) = rw (← e, ← f) (
            turned (area_at boxes a) (area_at boxes b) least h.near,
            λ over. h.apart (rw (gap_turned (area_at boxes a) (area_at boxes b)) over),
          )
