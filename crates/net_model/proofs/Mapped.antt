-- Lists that a loop makes of each element of another.
use Rattle.std.proofs.Common.{◌≡◌, ℕ, ◌+◌, ◌<◌, ◌≤◌, List, [], ◌∷◌, ◌++◌, length, map, take, get_or, sym, ap, ◌∙◌}
use Rattle.std.proofs.lemmas.List.{map_more, map_push, take_all, take_more}
use Rattle.box_pieces.specs.Places.{Place}
use Rattle.net_model.specs.{declared.netlist.Piece.Piece, Netlists.{place_of, nets_of}}

-- one more
pub mapped_more : {X Y : Type 0} (f : X → Y) (xs : List X) (i : ℕ) (d : X) (now next : List Y) (y : Y) → i < length xs
    → now ≡ map f (take i xs) → y ≡ f (get_or xs i d) → next ≡ now ++ y ∷ [] → next ≡ map f (take (i + 1) xs)
mapped_more f xs i d now next y lt was is pushed =
    pushed ∙ (ap (λ zs. zs ++ y ∷ []) was ∙ (ap (λ z. map f (take i xs) ++ z ∷ []) is ∙ sym (map_more f xs i d lt)))

-- all
pub mapped_all : {X Y : Type 0} (f : X → Y) (xs : List X) (i : ℕ) (now : List Y) → length xs ≤ i
    → now ≡ map f (take i xs) → now ≡ map f xs
mapped_all f xs i now le was = was ∙ ap (map f) (take_all i xs le)

-- pieces with their places and nets
pub netted_more : {P : Type 0} (stand_of : P → Place) (placed : List P) (nets : List ℕ) (a : ℕ) (d : P)
    (now next : List Piece) (piece : Piece) → a < length placed → a < length nets
    → place_of piece ≡ stand_of (get_or placed a d) → piece.net ≡ get_or nets a 0
    → next ≡ now ++ piece ∷ [] → map place_of now ≡ map stand_of (take a placed) → nets_of now ≡ take a nets
    → (map place_of next ≡ map stand_of (take (a + 1) placed)) × (nets_of next ≡ take (a + 1) nets)
netted_more stand_of placed nets a d now next piece in_placed in_nets place net pushed places numbers = (
  mapped_more stand_of placed a d (map place_of now) (map place_of next) (place_of piece) in_placed places place
      (ap (map place_of) pushed ∙ map_push place_of now piece),
  ap nets_of pushed
      ∙ (map_push (λ (p : Piece). p.net) now piece
      ∙ (ap (λ ns. ns ++ piece.net ∷ []) numbers
      ∙ (ap (λ n. take a nets ++ n ∷ []) net ∙ sym (take_more nets a 0 in_nets)))),
)
