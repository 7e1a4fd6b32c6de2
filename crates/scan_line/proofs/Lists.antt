-- Some lists, and how they grow.
use Rattle.std.proofs.Common.{◌≡◌, ◌≢◌, ℕ, ◌<◌, cond, leb, ltb, ◌&&◌, List, [], ◌∷◌, ◌++◌, length, map}
use Rattle.std.proofs.Common.{get_or, set, Vec, Global, sym, ap, ◌∙◌, arith, get_or-set_same, get_or-set_other}
use Rattle.std.proofs.lemmas.{List.{map-set, length-map, get_or-map}}
use Rattle.scan_line.specs.Levels.{list_at}

-- one of them is replaced

pub list_here : (lists : List (Vec ℕ Global)) (t : ℕ) (v : Vec ℕ Global) → t < length lists
    → list_at (set lists t v) t ≡ v.items
list_here lists t v lt =
    let items = λ (x : Vec ℕ Global). x.items in
    ap (λ (xs : List (List ℕ)). get_or xs t []) (map-set items lists t v)
    ∙ get_or-set_same (map items lists) t v.items [] (omega (arith, length-map lists items))

pub list_other : (lists : List (Vec ℕ Global)) (t u : ℕ) (v : Vec ℕ Global) → u ≢ t
    → list_at (set lists t v) u ≡ list_at lists u
list_other lists t u v ne =
    let items = λ (x : Vec ℕ Global). x.items in
    ap (λ (xs : List (List ℕ)). get_or xs u []) (map-set items lists t v)
    ∙ get_or-set_other (map items lists) t u v.items [] ne

pub list_read : (lists : List (Vec ℕ Global)) (t : ℕ) (d : Vec ℕ Global) → t < length lists
    → (get_or lists t d).items ≡ list_at lists t
list_read lists t d lt = sym (get_or-map (λ (x : Vec ℕ Global). x.items) lists t d [] lt)

-- an item is put at the end of those from a first one up to another
pub record AreGrown (first t item : ℕ) (old new : List (Vec ℕ Global)) : Type 0 where
  pub counted : length new ≡ length old
  pub each : (u : ℕ) → list_at new u ≡ list_at old u ++ cond (leb first u && ltb u t) (item ∷ []) []
