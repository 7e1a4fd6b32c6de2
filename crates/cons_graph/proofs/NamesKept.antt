-- Names, as they are kept among the bytes of all.
use Rattle.std.proofs.Common.{◌≡◌, ℕ, ◌-◌, ◌≤◌, List, [], ◌∷◌, ◌++◌, All, map, length, take, drop, refl, sym, ap, ◌∙◌}
use Rattle.std.proofs.{Common.arith, lemmas.List.{map_push, length-append, length-drop, take-append-le, take_all}}
use Rattle.std.{proofs.lemmas.List.{drop-append-le, drop_at, Elements.recursion_from_All}, specs.List.AllByRecursion}
use Rattle.cons_graph.specs.{declared.names.Place.Place, Names.{name_at, IsPlaceAmong}}

-- bytes that follow change no name
name_kept : (bytes added : List ℕ) (place : Place) → IsPlaceAmong (length bytes) place
    → name_at (bytes ++ added) place ≡ name_at bytes place
name_kept bytes added place h =
    let start : place.start ≤ length bytes = omega arith in
    let rest : place.end - place.start ≤ length (drop place.start bytes) =
    omega (arith, length-drop place.start bytes) in
    ap (take (place.end - place.start)) (drop-append-le place.start bytes added start)
    ∙ take-append-le (place.end - place.start) (drop place.start bytes) added rest

names_kept_by : (bytes added : List ℕ) (places : List Place) → AllByRecursion (IsPlaceAmong (length bytes)) places
    → map (name_at (bytes ++ added)) places ≡ map (name_at bytes) places
names_kept_by bytes added [] h = refl
names_kept_by bytes added (place ∷ places) h =
    rw (name_kept bytes added place h.0, names_kept_by bytes added places h.1) refl

pub names_kept : (bytes now added : List ℕ) (places : List Place) → now ≡ bytes ++ added
    → All (IsPlaceAmong (length bytes)) places → map (name_at now) places ≡ map (name_at bytes) places
names_kept bytes now added places e all =
    ap (λ (bs : List ℕ). map (name_at bs) places) e
    ∙ names_kept_by bytes added places (recursion_from_All (IsPlaceAmong (length bytes)) places all)

-- what is added from the end of the bytes up to the new end is the last name
last_name : (bytes now added : List ℕ) (place : Place) → now ≡ bytes ++ added → place.start ≡ length bytes
    → place.end ≡ length now → name_at now place ≡ added
last_name bytes now added place e start end =
    let all : length added ≤ place.end - place.start = omega (arith, ap length e, length-append bytes added) in
    ap (λ (bs : List ℕ). name_at bs place) e
    ∙ (ap (take (place.end - place.start)) (drop_at bytes added place.start (sym start))
    ∙ take_all (place.end - place.start) added all)

-- one name more
pub name_added : (bytes now added : List ℕ) (places more : List Place) (place : Place) → now ≡ bytes ++ added
    → All (IsPlaceAmong (length bytes)) places → more ≡ places ++ place ∷ [] → place.start ≡ length bytes
    → place.end ≡ length now → map (name_at now) more ≡ map (name_at bytes) places ++ added ∷ []
name_added bytes now added places more place e all m start end =
    rw (
      m,
      map_push (name_at now) places place,
      names_kept bytes now added places e all,
      last_name bytes now added place e start end,
    ) refl
