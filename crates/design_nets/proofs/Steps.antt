-- What one more pass of a loop adds to a list.
use Rattle.smallvec.specs.SmallVec.{SmallVec}
use Rattle.std.proofs.Common.{◌≡◌, ◌⊎◌, ℕ, zero, suc, ◌+◌, ◌<◌, ◌≤◌, List, [], ◌∷◌, ◌++◌, Vec, Global, length, map}
use Rattle.std.proofs.Common.{take, get_or, refl, sym, ap, ◌∙◌, subst, arith, inl, inr, append_assoc}
use Rattle.std.proofs.lemmas.{Bool.cases_lt, List.{flat_map_more, get_or_append_left, get_or_push, length_push}}
use Rattle.std.proofs.lemmas.List.{map_more, map_push, take_all, take_more, get_or_default, length-map}
use Rattle.std.specs.Prelude.{flat_map}
use Rattle.cell_model.specs.{declared.cell.Nets.Nets, Nets.AreNets}
use Rattle.expand.specs.declared.master.Master.{Master}
use Rattle.pitch_join.specs.Masters.{master_at, no_master}
use Rattle.design_nets.specs.{declared.meetings.Meeting.Meeting, Firsts.AreFirsts, Listing.list_in, Meetings.row_of}
use Rattle.design_nets.specs.{Meetings.meetings_at, Nets.{no_nets, nets_no}}

-- the images of the elements of a list, after others
pub mapped_after : {X Y : Type 0} (f : X → Y) (xs : List X) (i : ℕ) (d : X) (prefix now next : List Y) (y : Y)
    → i < length xs → now ≡ prefix ++ map f (take i xs) → y ≡ f (get_or xs i d) → next ≡ now ++ y ∷ []
    → next ≡ prefix ++ map f (take (i + 1) xs)
mapped_after f xs i d prefix now next y lt was is pushed =
    pushed ∙ (ap (λ zs. zs ++ y ∷ []) was
    ∙ (append_assoc prefix (map f (take i xs)) (y ∷ [])
    ∙ (ap (λ z. prefix ++ (map f (take i xs) ++ z ∷ [])) is ∙ ap (λ zs. prefix ++ zs) (sym (map_more f xs i d lt)))))

-- the lists of the elements of a list, one after another
pub flat_more : {X Y : Type 0} (f : X → List Y) (xs : List X) (i : ℕ) (d : X) (now next : List Y) → i < length xs
    → now ≡ flat_map f (take i xs) → next ≡ now ++ f (get_or xs i d) → next ≡ flat_map f (take (i + 1) xs)
flat_more f xs i d now next lt was pushed =
    pushed ∙ (ap (λ zs. zs ++ f (get_or xs i d)) was
    ∙ (flat_map_more f [] (take i xs) (get_or xs i d) ∙ ap (flat_map f) (sym (take_more xs i d lt))))

pub flat_all : {X Y : Type 0} (f : X → List Y) (xs : List X) (i : ℕ) (now : List Y) → length xs ≤ i
    → now ≡ flat_map f (take i xs) → now ≡ flat_map f xs
flat_all f xs i now le was = was ∙ ap (flat_map f) (take_all i xs le)

-- the numbers of the first elements of no lists
pub firsts_none : {A : Type 0} (lists : ℕ → List A) (first : ℕ) (firsts : List ℕ) → firsts ≡ first ∷ []
    → AreFirsts lists 0 first firsts
firsts_none lists first firsts are =
    subst (AreFirsts lists 0 first) (sym are)
    (record { counted = refl; each = λ n le. (let e : n ≡ 0 = omega (arith, le) in rw e (omega arith)) })

-- the nets of one more master
pub nets_more : (masters : List Master) (all next : List Nets) (i : ℕ) (master : Master) (own : Nets)
    → i < length masters → master ≡ get_or masters i master → AreNets master.cell own → next ≡ all ++ own ∷ []
    → length all ≡ i
    → ((m : ℕ) → m < i → AreNets (master_at masters m).cell (nets_no all m))
    → (length next ≡ i + 1) × ((m : ℕ) → m < i + 1 → AreNets (master_at masters m).cell (nets_no next m))
nets_more masters all next i master own lt read are pushed counted each =
    let e : length next ≡ i + 1 = ap (λ (ns : List Nets). length ns) pushed
    ∙ (length_push all own ∙ ap (λ (n : ℕ). n + 1) counted) in (
      e,
      λ m below. elim (cases_lt m i) [
        | inl before ↦
            (let same : nets_no next m ≡ nets_no all m = ap (λ (ns : List Nets). nets_no ns m) pushed
            ∙ get_or_append_left all (own ∷ []) no_nets m (omega (arith, before, counted)) in
            subst (λ (n : Nets). AreNets (master_at masters m).cell n) (sym same) (each m before))
        | inr past ↦
            (let here : m ≡ i = omega (arith, below, past) in
            let last : nets_no next i ≡ own = ap (λ (ns : List Nets). nets_no ns i) pushed
            ∙ get_or_push all own no_nets i counted in
            let at : master ≡ master_at masters i = read ∙ get_or_default masters i master no_master lt in
            subst (λ (k : ℕ). AreNets (master_at masters k).cell (nets_no next k)) (sym here)
            (subst (λ (n : Nets). AreNets (master_at masters i).cell n) (sym last)
            (subst (λ (z : Master). AreNets z.cell own) at are)))
      ],
    )

-- ---- one more row of empty lists

row_last : (table : List (Vec (SmallVec Meeting) Global)) (row : Vec (SmallVec Meeting) Global) (a : ℕ)
    → (row_of (table ++ row ∷ []) a ≡ row_of table a) ⊎ (row_of (table ++ row ∷ []) a ≡ row.items)
row_last [] row zero = inr refl
row_last [] row (suc a) = inl refl
row_last (x ∷ table) row zero = inl refl
row_last (x ∷ table) row (suc a) = row_last table row a

-- a table of so many rows in which all lists are empty
pub record IsEmptyTable (n count : ℕ) (table : List (Vec (SmallVec Meeting) Global)) : Type 0 where
  pub rows : length table ≡ n
  pub columns : (a : ℕ) → a < n → length (row_of table a) ≡ count
  pub empty : (a b : ℕ) → meetings_at table a b ≡ []

pub rows_more : (table next : List (Vec (SmallVec Meeting) Global)) (n count : ℕ)
    (row : Vec (SmallVec Meeting) Global) → next ≡ table ++ row ∷ [] → length row.items ≡ count
    → ((k : ℕ) → list_in row.items k ≡ [])
    → IsEmptyTable n count table → IsEmptyTable (n + 1) count next
rows_more table next n count row pushed counted none h =
    let items = λ (v : Vec (SmallVec Meeting) Global). v.items in
    let rows = h.rows in
    let all = map_push items table row in
    let made : IsEmptyTable (n + 1) count (table ++ row ∷ []) = record {
      rows = length_push table row ∙ ap (λ (k : ℕ). k + 1) rows;
      columns = λ a lt. elim (cases_lt a n) [
        | inl before ↦
            (let same : row_of (table ++ row ∷ []) a ≡ row_of table a =
            ap (λ (rs : List (List (SmallVec Meeting))). get_or rs a []) all
            ∙ get_or_append_left (map items table) (row.items ∷ []) [] a
            (omega (arith, before, rows, length-map table items)) in
            ap (λ (r : List (SmallVec Meeting)). length r) same ∙ h.columns a before)
        | inr past ↦
            (let last : row_of (table ++ row ∷ []) a ≡ row.items =
            ap (λ (rs : List (List (SmallVec Meeting))). get_or rs a []) all
            ∙ get_or_push (map items table) row.items [] a
            (omega (arith, lt, past, rows, length-map table items)) in
            ap (λ (r : List (SmallVec Meeting)). length r) last ∙ counted)
      ];
      empty = λ a b. elim (row_last table row a) [
        | inl e ↦ ap (λ (r : List (SmallVec Meeting)). list_in r b) e ∙ h.empty a b
        | inr e ↦ ap (λ (r : List (SmallVec Meeting)). list_in r b) e ∙ none b
      ];
    } in
    subst (IsEmptyTable (n + 1) count) (sym pushed) made
