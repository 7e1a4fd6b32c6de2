-- The names of a cell, among which two new ones come in.
use Rattle.std.proofs.Common.{◌≡◌, ℕ, zero, suc, Bool, true, false, cond, List, [], ◌∷◌, ◌++◌, Option, Some, None, inl}
use Rattle.std.proofs.{Common.{inr, refl, sym, ap, subst, ◌∙◌, arith}, lemmas.Slice.Eq.bytes_eq-Decides}
use Rattle.std.specs.{Prelude.{◌⊎◌, Contains, bytes_eq}, List.flat_map}
use Rattle.lam_geom.specs.declared.boxes.Side.{Side}
use Rattle.stick_text.specs.declared.design.Form.{Form, TheVariants.{Joint, Contact, Buried, Fet, Port, Inst, Wire}}
use Rattle.stick_text.specs.declared.design.{Form.TheVariants.Limit, Line.Line}
use Rattle.jog_insert.specs.Jogs.{name_in, IsTaken}
use Rattle.jog_nets.proofs.{Lines.{Sided, sides_in, side_named, side_more}, Forms.forms_of}

-- ---- names that are taken

-- a form brings no name, or one
abbrev BringsOne : Form → Type 0
BringsOne form = (sides_in form ≡ [])
    ⊎ ((name : List ℕ) × (side : Option Side) × (sides_in form ≡ (name, side) ∷ []) × (name_in form ≡ name ∷ []))

brings_one : (form : Form) → BringsOne form
brings_one (Joint name layer col row width) = inr (name, None, refl, refl)
brings_one (Contact name lower col row) = inr (name, None, refl, refl)
brings_one (Buried name col row) = inr (name, None, refl, refl)
brings_one (Fet name depletion vertical col row w l) = inr (name, None, refl, refl)
brings_one (Port name side layer place) = inr (name, Some side, refl, refl)
brings_one (Inst name cell col row) = inl refl
brings_one (Wire layer a b width) = inl refl
brings_one (Limit vertical a b at_most n) = inl refl

taken_later : (line : Line) (lines : List Line) (name : List ℕ) → IsTaken lines name → IsTaken (line ∷ lines) name
taken_later line lines name h = (h.0, (suc h.1.0, omega (arith, h.1.1), h.1.2), h.2)

-- what stands for something is taken
pub taken_named : (lines : List Line) (name : List ℕ) (side : Option Side)
    → side_named (flat_map sides_in (forms_of lines)) name ≡ Some side → IsTaken lines name
taken_named [] name side e = absurd cc
taken_named (line ∷ lines) name side e = by (taken_named lines name side) (brings_one line.form)
  where
    found : (side_named (flat_map sides_in (forms_of lines)) name ≡ Some side → IsTaken lines name)
        → (other : List ℕ) (own : Option Side) → name_in line.form ≡ other ∷ [] → (b : Bool) → bytes_eq name other ≡ b
        → cond b (Some own) (side_named (flat_map sides_in (forms_of lines)) name) ≡ Some side
        → IsTaken (line ∷ lines) name
    found later other own brings true same h =
        let one : name ≡ other = (bytes_eq-Decides name other).0 same in (
          line,
          (zero, omega arith, refl),
          subst (λ (names : List (List ℕ)). Contains names name) (sym brings)
              (zero, omega arith, sym one),
        )
    found later other own brings false same h = taken_later line lines name (later h)

    by : (side_named (flat_map sides_in (forms_of lines)) name ≡ Some side → IsTaken lines name) → BringsOne line.form
        → IsTaken (line ∷ lines) name
    by later (inl none) =
        taken_later line lines name
        (later (subst (λ (here : Sided). side_named (here ++ flat_map sides_in (forms_of lines)) name ≡ Some side)
        none e))
    by later (inr (other, own, brings_side, brings)) =
        found later other own brings (bytes_eq name other) refl
        (subst (λ (here : Sided). side_named (here ++ flat_map sides_in (forms_of lines)) name ≡ Some side)
        brings_side e)

-- ---- two names come in

-- another name stands for the same
pub side_inserted : (prefix back : Sided) (a b name : List ℕ) → bytes_eq name a ≡ false → bytes_eq name b ≡ false
    → side_named (prefix ++ (a, None) ∷ (b, None) ∷ back) name ≡ side_named (prefix ++ back) name
side_inserted [] back a b name ea eb =
    ap (λ t. cond t (Some None) (cond (bytes_eq name b) (Some None) (side_named back name))) ea
    ∙ ap (λ t. cond t (Some None) (side_named back name)) eb
side_inserted (entry ∷ prefix) back a b name ea eb =
    ap (λ rest. cond (bytes_eq name entry.0) (Some entry.1) rest) (side_inserted prefix back a b name ea eb)

-- a name that stands for nothing at first
side_skips : (prefix back : Sided) (name : List ℕ) → side_named prefix name ≡ None
    → side_named (prefix ++ back) name ≡ side_named back name
side_skips [] back name e = refl
side_skips (entry ∷ prefix) back name e = by (bytes_eq name entry.0) (side_skips prefix back name) e
  where
    by : (t : Bool) → (side_named prefix name ≡ None → side_named (prefix ++ back) name ≡ side_named back name)
        → cond t (Some entry.1) (side_named prefix name) ≡ None
        → cond t (Some entry.1) (side_named (prefix ++ back) name) ≡ side_named back name
    by true rest e = absurd cc
    by false rest e = rest e

itself : (name : List ℕ) → bytes_eq name name ≡ true
itself name = (bytes_eq-Decides name name).1 refl

-- the first of the two is a node
pub side_of_first : (prefix back : Sided) (a b : List ℕ) → side_named prefix a ≡ None
    → side_named (prefix ++ (a, None) ∷ (b, None) ∷ back) a ≡ Some None
side_of_first prefix back a b none =
    side_skips prefix ((a, None) ∷ (b, None) ∷ back) a none
    ∙ ap (λ t. cond t (Some None) (cond (bytes_eq a b) (Some None) (side_named back a))) (itself a)

-- so is the second
pub side_of_second : (prefix back : Sided) (a b : List ℕ) → side_named prefix b ≡ None
    → side_named (prefix ++ (a, None) ∷ (b, None) ∷ back) b ≡ Some None
side_of_second prefix back a b none =
    side_skips prefix ((a, None) ∷ (b, None) ∷ back) b none
    ∙ ap (λ t. cond (bytes_eq b a) (Some None) (cond t (Some None) (side_named back b))) (itself b)
    ∙ by (bytes_eq b a)
  where
    by : (t : Bool) → ◌≡◌ {A = Option (Option Side)} (cond t (Some None) (Some None)) (Some None)
    by true = refl
    by false = refl

-- a name that is not taken stands for nothing
pub none_named : (lines : List Line) (more : Sided) (table : Sided) (name : List ℕ)
    → flat_map sides_in (forms_of lines) ≡ table ++ more → (IsTaken lines name → ⊥) → side_named table name ≡ None
none_named lines more table name e free = by (side_named table name) refl
  where
    by : (found : Option (Option Side)) → side_named table name ≡ found → found ≡ None
    by None is = refl
    by (Some side) is =
        absurd (free
        (taken_named lines name side
        (subst (λ (whole : Sided). side_named whole name ≡ Some side) (sym e)
        (side_more table more name side is))))

-- and differs from each that stands for something
pub other_name : (lines : List Line) (name free_name : List ℕ) (side : Option Side)
    → side_named (flat_map sides_in (forms_of lines)) name ≡ Some side → (IsTaken lines free_name → ⊥)
    → bytes_eq name free_name ≡ false
other_name lines name free_name side is free = by (bytes_eq name free_name) refl
  where
    by : (t : Bool) → bytes_eq name free_name ≡ t → t ≡ false
    by true e =
        absurd (free (subst (IsTaken lines) ((bytes_eq-Decides name free_name).0 e) (taken_named lines name side is)))
    by false e = refl
