-- Lists that are equal at each place, and masters whose cells are equal but for their limits.
use Rattle.std.proofs.Common.{◌≡◌, ℕ, suc, ◌<◌, Bool, true, false, ◌&&◌, eqb, List, [], ◌∷◌, length, get_or, refl, sym}
use Rattle.std.proofs.{Common.{ap, ◌∙◌, subst, arith, All}, lemmas.{Bool.eqb-true, List.Elements.{All-head, All-tail}}}
use Rattle.std.specs.Cmp.Lexicographic.{pointwise}
use Rattle.rule_table.specs.declared.technology.Tech.{Tech}
use Rattle.sym_items.specs.declared.items.Items.{Items}
use Rattle.cell_model.specs.declared.cell.{Cell.Cell, Nets.Nets}
use Rattle.cell_nets.proofs.Determined.{nets_same}
use Rattle.expand.specs.{declared.master.Master.Master, Items.{items_of, AreItems}, Masters.IsMaster}
use Rattle.plan_model.specs.declared.plan.{Match.Match, Same.Same}
use Rattle.pitch_join.specs.Masters.{master_at}
use Rattle.first_pass.{specs.Bare.{bare, bare_cell, bare_of}, proofs.Cells.items_kept}

-- lists of one length that are equal at each place are equal
pub same_by_places : {X : Type 0} (xs ys : List X) → length xs ≡ length ys
    → ((k : ℕ) (d : X) → k < length xs → get_or xs k d ≡ get_or ys k d) → xs ≡ ys
same_by_places [] [] n h = refl
same_by_places [] (y ∷ ys) n h = absurd (let f : 0 ≡ suc (length ys) = n in omega arith)
same_by_places (x ∷ xs) [] n h = absurd (let f : suc (length xs) ≡ 0 = n in omega arith)
same_by_places {X} (x ∷ xs) (y ∷ ys) n h =
    let f : suc (length xs) ≡ suc (length ys) = n in
    let here : x ≡ y = h 0 x (omega arith) in
    let rest : xs ≡ ys = same_by_places xs ys (omega arith) (λ k d lt. h (suc k) d (omega arith)) in
    ap (λ (z : X). z ∷ xs) here ∙ ap (λ (zs : List X). y ∷ zs) rest

and_both : (a b : Bool) → (a && b) ≡ true → (a ≡ true) × (b ≡ true)
and_both true true t = (refl, refl)
and_both true false t = cc
and_both false b t = cc

-- and lists of which a test that shows two elements to be equal says so
pub pointwise_same : {X : Type 0} (E : X → X → Bool) → ((x y : X) → E x y ≡ true → x ≡ y) → (xs ys : List X)
    → pointwise E xs ys ≡ true → xs ≡ ys
pointwise_same E same [] [] t = refl
pointwise_same E same [] (y ∷ ys) t = cc
pointwise_same E same (x ∷ xs) [] t = cc
pointwise_same {X} E same (x ∷ xs) (y ∷ ys) t =
    let both = and_both (E x y) (pointwise E xs ys) t in
    ap (λ (z : X). z ∷ xs) (same x y both.0) ∙ ap (λ (zs : List X). y ∷ zs) (pointwise_same E same xs ys both.1)

abbrev pub is_same : Same → Same → Bool
is_same x y = eqb x.a y.a && eqb x.b y.b

abbrev pub is_match : Match → Match → Bool
is_match x y = eqb x.a y.a && (eqb x.a_wire y.a_wire && (eqb x.b y.b && eqb x.b_wire y.b_wire))

pub is_same_shown : (x y : Same) → is_same x y ≡ true → x ≡ y
is_same_shown x y t =
    let both = and_both (eqb x.a y.a) (eqb x.b y.b) t in
    ap (λ (n : ℕ). record x { a = n }) (eqb-true x.a y.a both.0)
    ∙ ap (λ (n : ℕ). record y { b = n }) (eqb-true x.b y.b both.1)

pub is_match_shown : (x y : Match) → is_match x y ≡ true → x ≡ y
is_match_shown x y t =
    let first = and_both (eqb x.a y.a) (eqb x.a_wire y.a_wire && (eqb x.b y.b && eqb x.b_wire y.b_wire)) t in
    let second = and_both (eqb x.a_wire y.a_wire) (eqb x.b y.b && eqb x.b_wire y.b_wire) first.1 in
    let third = and_both (eqb x.b y.b) (eqb x.b_wire y.b_wire) second.1 in
    ap (λ (n : ℕ). record x { a = n }) (eqb-true x.a y.a first.0)
    ∙ (ap (λ (n : ℕ). record x { a = y.a; a_wire = n }) (eqb-true x.a_wire y.a_wire second.0)
    ∙ (ap (λ (n : ℕ). record y { b = n; b_wire = x.b_wire }) (eqb-true x.b y.b third.0)
    ∙ ap (λ (n : ℕ). record y { b_wire = n }) (eqb-true x.b_wire y.b_wire third.1)))

-- ---- masters

one_items : (tech : Tech) (cell : Cell) (s t : Items) → AreItems tech cell s → AreItems tech cell t → s ≡ t
one_items tech cell s t a b = a.are
    ∙ (ap (λ (nets : Nets). items_of tech cell nets) (nets_same cell a.nets b.nets a.of_cell b.of_cell) ∙ sym b.are)

-- masters whose cells are equal but for their limits
one_bare : (tech : Tech) (m n : Master) → bare_cell m.cell ≡ bare_cell n.cell → AreItems tech m.cell m.items
    → AreItems tech n.cell n.items → bare m ≡ bare n
one_bare tech m n cell a b =
    let A : Cell → Type 0 = λ c. AreItems tech c n.items in
    let M : Cell → Items → Master = λ c s. record { cell = c; items = s } in
    let items : m.items ≡ n.items =
    one_items tech (bare_cell m.cell) m.items n.items (items_kept tech m.cell m.items a)
    (subst A (sym cell) (items_kept tech n.cell n.items b)) in
    ap (λ (c : Cell). M c m.items) cell ∙ ap (λ (s : Items). M (bare_cell n.cell) s) items

pub same_bared : (tech : Tech) (ms ns : List Master) → length ms ≡ length ns
    → ((k : ℕ) → k < length ms → bare_cell (master_at ms k).cell ≡ bare_cell (master_at ns k).cell)
    → All (IsMaster tech) ms → All (IsMaster tech) ns → bare_of ms ≡ bare_of ns
same_bared tech [] [] n h a b = refl
same_bared tech [] (y ∷ ys) n h a b = absurd (let f : 0 ≡ suc (length ys) = n in omega arith)
same_bared tech (x ∷ xs) [] n h a b = absurd (let f : suc (length xs) ≡ 0 = n in omega arith)
same_bared tech (x ∷ xs) (y ∷ ys) n h a b =
    let f : suc (length xs) ≡ suc (length ys) = n in
    let first = All-head (IsMaster tech) x xs a in
    let other = All-head (IsMaster tech) y ys b in
    let here : bare x ≡ bare y = one_bare tech x y (h 0 (omega arith)) first.items other.items in
    let rest : bare_of xs ≡ bare_of ys =
    same_bared tech xs ys (omega arith) (λ k lt. h (suc k) (omega arith)) (All-tail (IsMaster tech) x xs a)
    (All-tail (IsMaster tech) y ys b) in
    ap (λ (z : Master). z ∷ bare_of xs) here ∙ ap (λ (zs : List Master). bare y ∷ zs) rest
