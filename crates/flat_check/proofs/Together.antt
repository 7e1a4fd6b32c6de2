-- With which boxes a box breaks a rule, by how they stand to one another.
use Rattle.std.proofs.Common.{◌≡◌, ◌≢◌, ◌↔◌, ℕ, ◌<◌, ◌⊎◌, inl, inr, ℤ, Bool, true, false, IsTrue, List, Result, Ok, Err}
use Rattle.std.proofs.{Common.{OnOk, sym, ap, ◌∙◌, subst, arith}, lemmas.Bool.cases_lt}
use Rattle.lam_geom.specs.declared.boxes.{MaskBox.MaskBox, MaskLayer.{MaskLayer, TheVariants.{ND, NP, NC, NI, NB}}}
use Rattle.rule_table.specs.{declared.technology.Tech.Tech, Technology.{has_buried_of, numbers_of}}
use Rattle.box_tree.specs.{declared.entries.Entry.Entry, Found.AreGathered}
use Rattle.box_tree.proofs.Growth.{gathered_as, gathered_more, gathered_none}
use Rattle.crossing_model.specs.Boxes.{area_at, layer_at, IsOn}
use Rattle.crossings.specs.{Pairs.IsBadWith, Entries.AreBoxesOn}
use Rattle.rule_breaks.specs.declared.rule.Rule.{Rule, TheVariants.{CutSpacing, CutToChannel, ImplantToChannel}}
use Rattle.rule_breaks.specs.declared.rule.Rule.TheVariants.{PolyToDiffusion, ProperCrossing, WindowToChannel}
use Rattle.rule_breaks.specs.Breaks.{AreCutsTooNear, ArePiecesTooNear, AtEither, AtNets, AtOne, AtTwo, IsCutNearChannel}
use Rattle.rule_breaks.specs.Breaks.{IsImplantTooNear, IsPolyTooNear, IsWindowTooNear, ShapesHold}
use Rattle.rule_breaks.proofs.Turned.{gap_turned, poly_turned}
use Rattle.flat_check.specs.{declared.flat_layout.FlatLayout.FlatLayout, Partners.{BreakTogether, IsBesideBox}}
use Rattle.flat_check.specs.Partners.{IsBesideChannel, WithOther, channel_question_of, question_of}
use Rattle.flat_check.specs.{FlatLayouts.IsFlatLayout, Trees.{AreChannels, ArePiecesOn}}
use Rattle.flat_check.proofs.{OneChannel.channel_among, PiecePairs.pieces_turned, Shapes.poly_of_two, Rows.channel_row}
use Rattle.flat_check.proofs.Rows.{channels_row, cut_row, poly_row, short_channels_row, short_implants_row}

-- ---- what is found, by another name

pub found_as : {T E : Type 0} (r : Result T E) (P Q : ℕ → Type 0) (old new : List ℕ) → ((b : ℕ) → P b ↔ Q b)
    → OnOk r (AreGathered P old new) → OnOk r (AreGathered Q old new)
found_as (Ok found) P Q old new same h = gathered_as P Q old new (λ b. (same b).0) (λ b. (same b).1) h
found_as (Err fault) P Q old new same h = tt

pub both_found : {T E : Type 0} (r : Result T E) (P Q R : ℕ → Type 0) (old middle new : List ℕ)
    → ((b : ℕ) → (P b ⊎ Q b) ↔ R b) → AreGathered P old middle → OnOk r (AreGathered Q middle new)
    → OnOk r (AreGathered R old new)
both_found (Ok found) P Q R old middle new same first h =
    gathered_more P Q R old middle new (λ b. (same b).0) (λ b. (same b).1) first h
both_found (Err fault) P Q R old middle new same first h = tt

-- beside a box on a layer, or beside its channel, as a rule asks
abbrev pub BesideBox : FlatLayout → MaskLayer → List Entry → ℕ → Rule → ℕ → Type 0
BesideBox flat layer entries a rule = IsBesideBox flat.boxes.now layer (question_of flat.tech.now rule a) entries a

abbrev pub BesideChannel : FlatLayout → List Entry → ℕ → Rule → ℕ → Type 0
BesideChannel flat entries a rule = IsBesideChannel flat.tech.now flat.boxes.now
    (channel_question_of flat.tech.now rule a) entries a

-- a box and those with which it breaks a rule in a flat layout
abbrev pub Broken : FlatLayout → ℕ → Rule → ℕ → Type 0
Broken flat a rule = BreakTogether flat.tech.now flat.boxes.now rule a

-- by one search
pub one_found : {T E : Type 0} (r : Result T E) (flat : FlatLayout) (a : ℕ) {rule own : Rule} → rule ≡ own
    → (P : Rule → ℕ → Type 0) (old new : List ℕ)
    → ((b : ℕ) → P own b ↔ Broken flat a own b) → OnOk r (AreGathered (P rule) old new)
    → OnOk r (AreGathered (Broken flat a rule) old new)
one_found r flat a {own = own} is P old new same =
    subst (λ (x : Rule). OnOk r (AreGathered (P x) old new) → OnOk r (AreGathered (Broken flat a x) old new)) (sym is)
    (found_as r (P own) (Broken flat a own) old new same)

-- by two
pub two_found : {T E : Type 0} (r : Result T E) (flat : FlatLayout) (a : ℕ) {rule own : Rule} → rule ≡ own
    → (P Q : Rule → ℕ → Type 0) (old middle new : List ℕ)
    → ((b : ℕ) → (P own b ⊎ Q own b) ↔ Broken flat a own b) → AreGathered (P rule) old middle
    → OnOk r (AreGathered (Q rule) middle new)
    → OnOk r (AreGathered (Broken flat a rule) old new)
two_found r flat a {own = own} is P Q old middle new same =
    subst (λ (x : Rule). AreGathered (P x) old middle → OnOk r (AreGathered (Q x) middle new)
    → OnOk r (AreGathered (Broken flat a x) old new))
    (sym is) (both_found r (P own) (Q own) (Broken flat a own) old middle new same)

-- ---- how two boxes stand to one another

apart_cases : (a b : ℕ) → a ≢ b → (a < b) ⊎ (b < a)
apart_cases a b ne = elim (cases_lt a b) [
  | inl less ↦ inl less
  | inr more ↦ elim (cases_lt b a) [ inl under ↦ inr under | inr over ↦ absurd (ne (omega (arith, more, over))) ]
]

-- where one of two boxes stands to the other as the other to it
pub two_together : (AreBad : ℕ → ℕ → Type 0) → ((a b : ℕ) → AreBad a b → AreBad b a) → (a b : ℕ)
    → WithOther AreBad a b ↔ (AtTwo AreBad a b ⊎ AtTwo AreBad b a)
two_together AreBad turn a b = (
  λ (ne, bad). elim (apart_cases a b ne) [ inl less ↦ inl (less, bad) | inr under ↦ inr (under, turn a b bad) ],
  λ h. elim h [ inl k ↦ (λ e. omega (arith, k.0, e), k.1) | inr k ↦ (λ e. omega (arith, k.0, e), turn b a k.1) ],
)

-- where one of them stands to the other
pub either_together : (IsBadTo : ℕ → ℕ → Type 0) (a b : ℕ)
    → (WithOther IsBadTo a b ⊎ WithOther (λ d k. IsBadTo k d) a b) ↔ (AtEither IsBadTo a b ⊎ AtEither IsBadTo b a)
either_together IsBadTo a b = (
  λ h. elim h [
    | inl k ↦ elim (apart_cases a b k.0) [ inl less ↦ inl (less, inl k.1) | inr under ↦ inr (under, inr k.1) ]
    | inr k ↦ elim (apart_cases a b k.0) [ inl less ↦ inl (less, inr k.1) | inr under ↦ inr (under, inl k.1) ]
  ],
  λ h. elim h [
    | inl k ↦
        elim k.1 [ inl bad ↦ inl (λ e. omega (arith, k.0, e), bad) | inr bad ↦ inr (λ e. omega (arith, k.0, e), bad) ]
    | inr k ↦
        elim k.1 [ inl bad ↦ inr (λ e. omega (arith, k.0, e), bad) | inr bad ↦ inl (λ e. omega (arith, k.0, e), bad) ]
  ],
)

-- a box that breaks a rule by itself
pub itself : (IsBad : ℕ → Type 0) (a : ℕ) (broken : Bool) → IsTrue broken ↔ IsBad a → (b : ℕ)
    → (IsTrue broken × (b ≡ a)) ↔ (AtOne IsBad a b ⊎ AtOne IsBad b a)
itself IsBad a broken h b = (
  λ t. inl (h.0 t.0, t.1),
  λ k. elim k [ inl x ↦ (h.1 x.0, x.1) | inr x ↦ (h.1 (subst IsBad (sym x.1) x.0), sym x.1) ],
)

-- ---- rule by rule

module _ (tech : Tech) (boxes : List MaskBox) where
  bad_turned : (a b : ℕ) → IsBadWith tech boxes a b → IsBadWith tech boxes b a
  bad_turned a b (inl h) = inr h
  bad_turned a b (inr h) = inl h

  not_both : (a b : ℕ) → IsOn boxes NP a → IsOn boxes ND b → a ≢ b
  not_both a b p d e = let f : NP ≡ ND = sym p.on ∙ (ap (layer_at boxes) e ∙ d.on) in cc

  bad_of_two : (a b : ℕ) → IsBadWith tech boxes a b → a ≢ b
  bad_of_two a b (inl h) = not_both a b h.meeting.overlap.poly h.meeting.overlap.diffusion
  bad_of_two a b (inr h) = λ e. not_both b a h.meeting.overlap.poly h.meeting.overlap.diffusion (sym e)

  pub crossing_together : (a b : ℕ) → IsBadWith tech boxes a b ↔ BreakTogether tech boxes ProperCrossing a b
  crossing_together a b = let two =
      two_together (IsBadWith tech boxes) bad_turned a b in (λ h. two.0 (bad_of_two a b h, h), λ h. (two.1 h).1)

  pub no_windows : has_buried_of tech ≡ false → (a : ℕ) (old : List ℕ)
      → AreGathered (BreakTogether tech boxes WindowToChannel a) old old
  no_windows none a old = gathered_none _ old (λ b h. elim h [ inl k ↦ off a b k.1 | inr k ↦ off b a k.1 ]) where
    off : (a b : ℕ) → (IsWindowTooNear tech boxes a b ⊎ IsWindowTooNear tech boxes b a) → ⊥
    off a b (inl w) = let f : true ≡ false = sym w.0 ∙ none in cc
    off a b (inr w) = let f : true ≡ false = sym w.0 ∙ none in cc

  cuts_turned : (a b : ℕ) → AreCutsTooNear tech boxes a b → AreCutsTooNear tech boxes b a
  cuts_turned a b h =
      record { first = h.second; second = h.first; near = rw (gap_turned (area_at boxes b) (area_at boxes a)) h.near }

  pub cut_together : (entries : List Entry) → AreBoxesOn boxes NC entries → (a b : ℕ)
      → IsBesideBox boxes NC (question_of tech CutSpacing a) entries a b ↔ BreakTogether tech boxes CutSpacing a b
  cut_together entries are a b = let row = cut_row tech boxes entries a b are in let two = two_together
      (AreCutsTooNear tech boxes) cuts_turned a b in (λ h. two.0 (row.0 h), λ h. row.1 (two.1 h))

  implant_of_two : (a b : ℕ) → IsImplantTooNear tech boxes a b → a ≢ b
  implant_of_two a b h e =
      let near = h.near in
      let f : NI ≡ ND = sym near.on.on
      ∙ (ap (layer_at boxes) e ∙ (channel_among tech boxes b near.channel near.is_channel).on) in cc

  -- by the channels, and the boxes of a layer
  module _ (channels entries : List Entry) (all : AreChannels tech boxes channels) (a b : ℕ) where
    abbrev IsBesideOne : Rule → MaskLayer → Type 0
    IsBesideOne rule layer = IsBesideBox boxes layer (question_of tech rule a) channels a b
        ⊎ IsBesideChannel tech boxes (channel_question_of tech rule a) entries a b

    pub channel_together : AreBoxesOn boxes NC entries → IsBesideOne CutToChannel NC ↔ BreakTogether tech boxes
        CutToChannel a b
    channel_together are =
        let one = channels_row tech boxes channels NC (numbers_of tech).spacing_cut_channel a b all in let other =
        channel_row tech boxes entries NC (numbers_of tech).spacing_cut_channel a b are in
        let either = either_together (IsCutNearChannel tech boxes) a b in (
          λ h. either.0 (elim h [ inl k ↦ inl (one.0 k) | inr k ↦ inr (other.0 k) ]),
          λ h. elim (either.1 h) [ inl k ↦ inl (one.1 k) | inr k ↦ inr (other.1 k) ],
        )

    pub implant_together : AreBoxesOn boxes NI entries → IsBesideOne ImplantToChannel NI ↔ BreakTogether tech boxes
        ImplantToChannel a b
    implant_together are =
        let one = short_channels_row tech boxes channels a b all in let other = short_implants_row tech boxes entries a
        b are in let either = either_together (IsImplantTooNear tech boxes) a b in (
          λ h. either.0 (elim h [
            | inl k ↦ (let x = one.0 k in inl (implant_of_two a b x, x))
            | inr k ↦
                (let x = other.0 k in inr (λ e. implant_of_two b a x (sym e), x))
          ]),
          λ h. elim (either.1 h) [ inl x ↦ inl (one.1 x.1) | inr x ↦ inr (other.1 x.1) ],
        )

    pub window_together : IsTrue (has_buried_of tech) → AreBoxesOn boxes NB entries
        → IsBesideOne WindowToChannel NB ↔ BreakTogether tech boxes WindowToChannel a b
    window_together has are =
        let one = channels_row tech boxes channels NB (numbers_of tech).spacing_buried_channel a b all in let other =
        channel_row tech boxes entries NB (numbers_of tech).spacing_buried_channel a b are in
        let either = either_together (IsWindowTooNear tech boxes) a b in (
          λ h. either.0 (elim h [
            | inl k ↦ (let x = one.0 k in inl (x.0, (has, x.1)))
            | inr k ↦
                (let x = other.0 k in inr (x.0, (has, x.1)))
          ]),
          λ h. elim (either.1 h) [ inl x ↦ inl (one.1 (x.0, x.1.1)) | inr x ↦ inr (other.1 (x.0, x.1.1)) ],
        )

pub net_together : (flat : FlatLayout) (layer : MaskLayer) (spacing : ℤ) → IsFlatLayout flat
    → ShapesHold flat.tech.now flat.boxes.now → (a b : ℕ)
    → WithOther (ArePiecesTooNear flat.tech.now flat.boxes.now layer spacing) a b
    ↔ (AtNets flat.tech.now flat.boxes.now layer spacing a b
    ⊎ AtNets flat.tech.now flat.boxes.now layer spacing b a)
net_together flat layer spacing is shapes a b =
    let two = two_together (ArePiecesTooNear flat.tech.now flat.boxes.now layer spacing)
    (λ c d. pieces_turned flat layer spacing c d is shapes.crossings) a b in (
      λ h. elim (two.0 h) [ inl k ↦ inl (shapes, k) | inr k ↦ inr (shapes, k) ],
      λ h. two.1 (elim h [ inl k ↦ inl k.1 | inr k ↦ inr k.1 ]),
    )

pub poly_together : (flat : FlatLayout) (diffusion poly : List Entry) → IsFlatLayout flat
    → AreBoxesOn flat.boxes.now ND diffusion → ArePiecesOn flat NP poly → (a b : ℕ)
    → (IsBesideBox flat.boxes.now NP (question_of flat.tech.now PolyToDiffusion a) diffusion a b
    ⊎ IsBesideBox flat.boxes.now ND (question_of flat.tech.now PolyToDiffusion a) poly a b)
    ↔ BreakTogether flat.tech.now flat.boxes.now PolyToDiffusion a b
poly_together flat diffusion poly is all pieces a b =
    let tech = flat.tech.now in let boxes = flat.boxes.now in
    let row = poly_row flat diffusion poly is all pieces a b in let two = two_together (IsPolyTooNear tech boxes)
    (poly_turned tech boxes) a b in
    (λ h. let near = row.0 h in two.0 (poly_of_two tech boxes a b near, near), λ h. row.1 (two.1 h).1)
