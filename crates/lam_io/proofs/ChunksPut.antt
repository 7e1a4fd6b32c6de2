-- What a sink tells after the chunks of a text.
use Rattle.std.proofs.Common.{◌≡◌, ℕ, suc, ◌<◌, List, [], ◌∷◌, ◌++◌, Option, Some, None, sym, ap, ◌∙◌, append_assoc}
use Rattle.std.proofs.{Common.{take, drop, length, get_or, flat_map, zero, arith}, lemmas.List.Concat.flat_map-cons}
use Rattle.lam_io.specs.Io.{Bytes, Appends, AppendsPrefix}

appends_both : (a b c : Option Bytes) (x y : Bytes) → Appends a b x → Appends b c y → Appends a c (x ++ y)
appends_both None b c x y e f = rw e at f
appends_both (Some bytes) b c x y e f = f ∙ rw e (ap Some (append_assoc bytes x y))

-- a prefix of one chunk, after the chunks before it
pub prefix_of_chunk : (a b c : Option Bytes) (before chunk after : Bytes) → Appends a b before
    → AppendsPrefix b c chunk → AppendsPrefix a c (before ++ (chunk ++ after))
prefix_of_chunk a b c before chunk after grown (sent, rest, e, p) = (
  before ++ sent,
  rest ++ after,
  rw e (ap (λ xs. before ++ xs) (append_assoc sent rest after)
      ∙ sym (append_assoc before sent (rest ++ after))),
  appends_both a b c before sent grown p,
)

-- a text of chunks is those before one, that one, and those after it
pub text_at : {X : Type 0} (f : X → Bytes) (xs : List X) (k : ℕ) (x : X) → k < length xs → x ≡ get_or xs k x
    → flat_map f xs ≡ flat_map f (take k xs) ++ (f x ++ flat_map f (drop (suc k) xs))
text_at f [] k x lt is = absurd (omega (arith, lt))
text_at f (y ∷ ys) zero x lt is = rw is (flat_map-cons f y ys)
text_at f (y ∷ ys) (suc k) x lt is =
    let rest : flat_map f ys ≡ flat_map f (take k ys) ++ (f x ++ flat_map f (drop (suc k) ys)) =
    text_at f ys k x (omega (arith, lt)) is in
    flat_map-cons f y ys ∙ ap (λ text. f y ++ text) rest
    ∙ sym (append_assoc (f y) (flat_map f (take k ys)) (f x ++ flat_map f (drop (suc k) ys)))
