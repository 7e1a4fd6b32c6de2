-- Ports as wires come to end at them.
use Rattle.std.proofs.Common.{◌≡◌, ℕ, zero, suc, ◌-◌, ◌<◌, ◌≤◌, ◌≢◌, ℤ, true, false, List, [], ◌∷◌, ◌++◌, length, set}
use Rattle.std.proofs.{Common.{map, refl, sym, ap, subst, ◌∙◌, inl, inr, arith}, lemmas.List.length-set}
use Rattle.std.proofs.lemmas.List.{length-append, get_or_append_left, get_or-append_right, get_or-set_same}
use Rattle.std.proofs.lemmas.{List.{get_or-set_other, get_or_push}, Bool.{cases_eq, cases_lt}}
use Rattle.std.specs.{Prelude.{IsTrue, ◌⊎◌}, List.list_all}
use Rattle.cell_model.specs.{declared.cell.{WireEnd.WireEnd, Wire.Wire}, Sound.{wire_at, no_wire, EndsAt}}
use Rattle.cell_model.specs.declared.cell.WireEnd.TheVariants as ends
use Rattle.checked_cells.specs.{CheckedCell.{Plug, no_plug, plug_at, plugged}, Built.IsPlug}
use Rattle.checked_cells.proofs.{Accepted.both, BuiltNames.MorePlugs, BuiltWires.NoneEndsAt, BuiltRuns.EndsFree}

-- each port is near, and its wire alone ends there
abbrev pub ArePlugs : List Wire → List Plug → Type 0
ArePlugs wires plugs = (k : ℕ) → k < length plugs → IsPlug wires k (plug_at plugs k)

-- ---- more wires

-- a wire that ends at a port is one of the first where none of the later ones ends there
ends_among_first : (wires more : List Wire) (k j : ℕ) → NoneEndsAt more k → j < length (wires ++ more)
    → EndsAt (ends.Port k) (wire_at (wires ++ more) j) → (j < length wires) ⊎ (length wires ≤ j)
    → (j < length wires) × EndsAt (ends.Port k) (wire_at wires j)
ends_among_first wires more k j none lt at_end (inl before) =
    (before, subst (EndsAt (ends.Port k)) (get_or_append_left wires more no_wire j before) at_end)
ends_among_first wires more k j none lt at_end (inr after) =
    absurd (none (j - length wires) (omega (arith, lt, after, length-append wires more))
    (subst (EndsAt (ends.Port k)) (get_or-append_right wires more (length wires) j no_wire refl after) at_end))

-- a port stays where there are more wires that do not end at it
plug_kept : (wires more : List Wire) (k : ℕ) (plug : Plug) → NoneEndsAt more k → IsPlug wires k plug
    → IsPlug (wires ++ more) k plug
plug_kept wires more k plug none is =
    let first : (j : ℕ) → j < length (wires ++ more) → EndsAt (ends.Port k) (wire_at (wires ++ more) j)
    → (j < length wires) × EndsAt (ends.Port k) (wire_at wires j) =
    λ j lt at_end. ends_among_first wires more k j none lt at_end (cases_lt j (length wires)) in
    record {
      place = is.place;
      wire = λ wired. omega (arith, is.wire wired, length-append wires more);
      width = λ wired. ap (λ (w : Wire). w.width)
          (get_or_append_left wires more no_wire plug.port.wire (is.wire wired)) ∙ is.width wired;
      ends_there =
          λ wired. subst (EndsAt (ends.Port k))
          (sym (get_or_append_left wires more no_wire plug.port.wire (is.wire wired))) (is.ends_there wired);
      only = λ wired j lt at_end. is.only wired j (first j lt at_end).0 (first j lt at_end).1;
      free = λ free j lt at_end. is.free free j (first j lt at_end).0 (first j lt at_end).1;
    }

-- and so does each
pub plugs_kept : (wires more : List Wire) (plugs : List Plug) → ((k : ℕ) → NoneEndsAt more k) → ArePlugs wires plugs
    → ArePlugs (wires ++ more) plugs
plugs_kept wires more plugs none are k lt = plug_kept wires more k (plug_at plugs k) (none k) (are k lt)

-- ---- one more port

-- ports, and a new one after them
pub plugs_pushed : (wires : List Wire) (plugs : List Plug) (plug : Plug) → ArePlugs wires plugs
    → IsPlug wires (length plugs) plug → ArePlugs wires (plugs ++ plug ∷ [])
plugs_pushed wires plugs plug are is k lt = by_place (cases_eq k (length plugs))
  where
    by_place : (k ≡ length plugs) ⊎ (k ≢ length plugs) → IsPlug wires k (plug_at (plugs ++ plug ∷ []) k)
    by_place (inl e) = subst (λ (n : ℕ). IsPlug wires n (plug_at (plugs ++ plug ∷ []) n)) (sym e)
        (subst (IsPlug wires (length plugs)) (sym (get_or_push plugs plug no_plug (length plugs) refl)) is)
    by_place (inr ne) =
        let before : k < length plugs = omega (arith, lt, length-append plugs (plug ∷ []), ne) in
        subst (IsPlug wires k) (sym (get_or_append_left plugs (plug ∷ []) no_plug k before)) (are k before)

-- ---- one more wire ends at a port

-- the port after a wire has come to end at it
abbrev wired_plug : ℕ → ℤ → Plug → Plug
wired_plug wire width plug = record { port = record plug.port { wire = wire }; width = width; wired = true }

-- the end of a wire is port k, which is wired then
abbrev IsHere : ℕ → ℤ → List Plug → WireEnd → ℕ → Type 0
IsHere wire width plugs end k = (end ≡ ends.Port k)
    × (plug_at (plugged wire width plugs end) k ≡ wired_plug wire width (plug_at plugs k))

-- it is elsewhere, and port k is as it was
abbrev IsElsewhere : ℕ → ℤ → List Plug → WireEnd → ℕ → Type 0
IsElsewhere wire width plugs end k = (end ≡ ends.Port k → ⊥)
    × (plug_at (plugged wire width plugs end) k ≡ plug_at plugs k)

-- a port after a wire has come to end at it, or elsewhere
plugged_at : (wire : ℕ) (width : ℤ) (plugs : List Plug) (end : WireEnd) (k : ℕ) → k < length plugs
    → IsHere wire width plugs end k ⊎ IsElsewhere wire width plugs end k
plugged_at wire width plugs (ends.Node j) k lt = inr (λ e. cc, refl)
plugged_at wire width plugs (ends.Port j) k lt = by_number (cases_eq k j)
  where
    by_number : (k ≡ j) ⊎ (k ≢ j) → IsHere wire width plugs (ends.Port j) k
        ⊎ IsElsewhere wire width plugs (ends.Port j) k
    by_number (inl e) =
        inl (
          ap ends.Port (sym e),
          subst (λ (n : ℕ). plug_at (set plugs n (wired_plug wire width (plug_at plugs n))) k
              ≡ wired_plug wire width (plug_at plugs k)) e
              (get_or-set_same plugs k (wired_plug wire width (plug_at plugs k)) no_plug lt),
        )
    by_number (inr ne) =
        inr (λ same. ne (cc), get_or-set_other plugs j k (wired_plug wire width (plug_at plugs j)) no_plug ne)

-- there are as many ports as before
length-plugged : (wire : ℕ) (width : ℤ) (plugs : List Plug) (end : WireEnd)
    → length (plugged wire width plugs end) ≡ length plugs
length-plugged wire width plugs (ends.Node k) = refl
length-plugged wire width plugs (ends.Port k) = length-set plugs k (wired_plug wire width (plug_at plugs k))

-- ports stay where they are
pub more_plugged : (wire : ℕ) (width : ℤ) (plugs : List Plug) (end : WireEnd)
    → MorePlugs plugs (plugged wire width plugs end)
more_plugged wire width plugs end =
    record {
      long = omega (arith, length-plugged wire width plugs end);
      side = λ k lt. same k (λ (plug : Plug). plug.port.side) (λ plug. refl) (plugged_at wire width plugs end k lt);
      layer = λ k lt. same k (λ (plug : Plug). plug.port.layer) (λ plug. refl) (plugged_at wire width plugs end k lt);
      place = λ k lt. same k (λ (plug : Plug). plug.port.place) (λ plug. refl) (plugged_at wire width plugs end k lt);
    }
  where
    same : {X : Type 0} (k : ℕ) (f : Plug → X) → ((plug : Plug) → f (wired_plug wire width plug) ≡ f plug)
        → IsHere wire width plugs end k ⊎ IsElsewhere wire width plugs end k
        → f (plug_at (plugged wire width plugs end) k) ≡ f (plug_at plugs k)
    same k f kept (inl here) = ap f here.1 ∙ kept (plug_at plugs k)
    same k f kept (inr there) = ap f there.1

-- a free port has the new wire, and no other
plug_wired : (wires : List Wire) (wire : Wire) (k : ℕ) (plug : Plug) → plug.wired ≡ false → EndsAt (ends.Port k) wire
    → IsPlug wires k plug → IsPlug (wires ++ wire ∷ []) k (wired_plug (length wires) wire.width plug)
plug_wired wires wire k plug free at_end is =
    record {
      place = is.place;
      wire = λ wired. omega (arith, length-append wires (wire ∷ []));
      width = λ wired. ap (λ (w : Wire). w.width) (get_or_push wires wire no_wire (length wires) refl);
      ends_there = λ wired. subst (EndsAt (ends.Port k)) (sym (get_or_push wires wire no_wire (length wires) refl))
          at_end;
      only = λ wired j lt other. last j lt other (cases_lt j (length wires));
      free = λ never. absurd (cc);
    }
  where
    last : (j : ℕ) → j < length (wires ++ wire ∷ []) → EndsAt (ends.Port k) (wire_at (wires ++ wire ∷ []) j)
        → (j < length wires) ⊎ (length wires ≤ j) → j ≡ length wires
    last j lt other (inl before) =
        absurd (is.free free j before
        (subst (EndsAt (ends.Port k)) (get_or_append_left wires (wire ∷ []) no_wire j before) other))
    last j lt other (inr after) = omega (arith, lt, after, length-append wires (wire ∷ []))

-- a wire that ends elsewhere
none_of_one : (wire : Wire) (k : ℕ) → (wire.low ≡ ends.Port k → ⊥) → (wire.high ≡ ends.Port k → ⊥)
    → NoneEndsAt (wire ∷ []) k
none_of_one wire k low high zero lt (inl e) = low e
none_of_one wire k low high zero lt (inr e) = high e
none_of_one wire k low high (suc j) lt at_end = absurd (omega arith)

-- the ports after a new wire, which ends at none that had a wire
pub plugs_wired : (wires : List Wire) (wire : Wire) (plugs : List Plug) → EndsFree plugs wire → ArePlugs wires plugs
    → ArePlugs (wires ++ wire ∷ [])
    (plugged (length wires) wire.width (plugged (length wires) wire.width plugs wire.low) wire.high)
plugs_wired wires wire plugs free are k lt =
    by_ends (plugged_at (length wires) wire.width plugs wire.low k within)
    (plugged_at (length wires) wire.width once wire.high k within_once)
  where
    once : List Plug
    once = plugged (length wires) wire.width plugs wire.low

    within_once : k < length once
    within_once = omega (arith, lt, length-plugged (length wires) wire.width once wire.high)

    within : k < length plugs
    within = omega (arith, within_once, length-plugged (length wires) wire.width plugs wire.low)

    wired : EndsAt (ends.Port k) wire
        → IsPlug (wires ++ wire ∷ []) k (wired_plug (length wires) wire.width (plug_at plugs k))
    wired at_end = plug_wired wires wire k (plug_at plugs k) (free k at_end) at_end (are k within)

    by_ends : IsHere (length wires) wire.width plugs wire.low k ⊎ IsElsewhere (length wires) wire.width plugs wire.low k
        → IsHere (length wires) wire.width once wire.high k ⊎ IsElsewhere (length wires) wire.width once wire.high k
        → IsPlug (wires ++ wire ∷ []) k (plug_at (plugged (length wires) wire.width once wire.high) k)
    by_ends (inl low) (inl high) =
        subst (IsPlug (wires ++ wire ∷ []) k) (sym (high.1 ∙ ap (wired_plug (length wires) wire.width) low.1))
        (wired (inl low.0))
    by_ends (inl low) (inr high) = subst (IsPlug (wires ++ wire ∷ []) k) (sym (high.1 ∙ low.1)) (wired (inl low.0))
    by_ends (inr low) (inl high) =
        subst (IsPlug (wires ++ wire ∷ []) k) (sym (high.1 ∙ ap (wired_plug (length wires) wire.width) low.1))
        (wired (inr high.0))
    by_ends (inr low) (inr high) =
        subst (IsPlug (wires ++ wire ∷ []) k) (sym (high.1 ∙ low.1))
        (plug_kept wires (wire ∷ []) k (plug_at plugs k) (none_of_one wire k low.0 high.0) (are k within))

-- ---- all ports are wired

-- the test that a wire ends at each port
pub all_wired : (plugs : List Plug) (k : ℕ) → IsTrue (list_all (λ wired. wired) (map (λ plug. plug.wired) plugs))
    → k < length plugs → (plug_at plugs k).wired ≡ true
all_wired [] k h lt = absurd (omega arith)
all_wired (plug ∷ plugs) zero h lt =
    (both plug.wired (list_all (λ wired. wired) (map (λ (p : Plug). p.wired) plugs)) h).0
all_wired (plug ∷ plugs) (suc k) h lt =
    all_wired plugs k (both plug.wired (list_all (λ wired. wired) (map (λ (p : Plug). p.wired) plugs)) h).1
    (omega arith)

-- both ends of a wire
pub more_plugs_twice : (plugs others last : List Plug) → MorePlugs plugs others → MorePlugs others last
    → MorePlugs plugs last
more_plugs_twice plugs others last first second =
    record {
      long = omega (arith, first.long, second.long);
      side = λ k lt. second.side k (omega (arith, lt, first.long)) ∙ first.side k lt;
      layer = λ k lt. second.layer k (omega (arith, lt, first.long)) ∙ first.layer k lt;
      place = λ k lt. second.place k (omega (arith, lt, first.long)) ∙ first.place k lt;
    }
