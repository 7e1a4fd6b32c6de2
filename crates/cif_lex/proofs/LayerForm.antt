-- A layer, as the code reads it.
use Rattle.std.proofs.Common.{◌≡◌, ℕ, ◌+◌, ◌<◌, ◌≤◌, ◌⊎◌, inl, inr, true, List, [], ◌∷◌, ◌++◌, length, take, drop, refl}
use Rattle.std.proofs.{Common.{sym, ap, ◌∙◌, subst, arith}, lemmas.List.{drop-drop, length-drop, take-append-drop}}
use Rattle.std.{proofs.lemmas.List.{length-take-le, Elements.recursion_from_All}, specs.List.All}
use Rattle.cif_lex.specs.{declared.command.Command.{Command, TheVariants.Layer}, Words.{Word, letter, name}}
use Rattle.cif_lex.specs.{Words.{is_name_byte, StopsAt}, Commands.layer_named, Reading.{IsAfterGap, IsRead, AreRead}}
use Rattle.cif_lex.specs.Forms.{Ends, Takes, IsForm}
use Rattle.cif_lex.proofs.{OneWord.{longest_same, same_name}, CommandWords.{begins, layer_words}}

record IsLayer (mid s : List ℕ) : Type 0 where
  bytes : List ℕ
  short : length bytes ≤ 4
  read : IsRead (name bytes) mid s

layer_of : (c : Command) (text mid s : List ℕ) → IsRead (letter 76) text mid → Takes c text s → Ends s → IsLayer mid s
layer_of c text mid s is takes ends =
    let b = begins c text mid s 76 refl is takes ends in
    let shape = layer_words c b.0 b.1 in
    let read : AreRead (name shape.0 ∷ []) mid s = subst (λ (ws : List Word). AreRead ws mid s) shape.1 b.2 in
    record {
      bytes = shape.0;
      short = shape.2;
      read = subst (λ (t : List ℕ). IsRead (name shape.0) mid t) read.2 read.1;
    }

pub no_name : (text mid : List ℕ) (n : ℕ) → IsRead (letter 76) text mid → n ≤ length mid
    → All (λ b. is_name_byte b ≡ true) (take n mid) → StopsAt is_name_byte (drop n mid)
    → (n ≡ 0) ⊎ (4 < n) → (c : Command) (rest : List ℕ) → Takes c text rest → Ends rest → ⊥
no_name text mid n is le all stops wrong c rest takes ends =
    let a = layer_of c text mid rest is takes ends in
    let spelled = a.read.is_spelled in
    let both : take n mid ++ drop n mid ≡ a.bytes ++ a.read.after = take-append-drop n mid
    ∙ (a.read.joined ∙ ap (λ (t : List ℕ). t ++ a.read.after) spelled.0) in
    let same = longest_same is_name_byte (take n mid) a.bytes (drop n mid) a.read.after
    (recursion_from_All (λ b. is_name_byte b ≡ true) (take n mid) all)
    (recursion_from_All (λ b. is_name_byte b ≡ true) a.bytes spelled.2) stops a.read.is_whole both in
    let len : n ≡ length a.bytes = sym (length-take-le n mid le) ∙ ap (λ (t : List ℕ). length t) same.0 in
    go wrong len a.short spelled.1
  where
    go : {m : ℕ} → (n ≡ 0) ⊎ (4 < n) → n ≡ m → m ≤ 4 → 0 < m → ⊥
    go (inl none) e short some = omega arith
    go (inr long) e short some = omega arith

pub layer_form : (text : List ℕ) (begin n passed : ℕ) → begin ≤ length text
    → IsRead (letter 76) text (drop begin text) → n ≤ length (drop begin text)
    → All (λ b. is_name_byte b ≡ true) (take n (drop begin text))
    → StopsAt is_name_byte (drop (begin + n) text) → 0 < n → n ≤ 4 → passed ≤ length (drop (begin + n) text)
    → IsAfterGap (drop (begin + n) text) (drop passed (drop (begin + n) text))
    → IsForm text (record { command = Layer (layer_named (take n (drop begin text))); length = begin + n + passed })
layer_form text begin n passed le is short all stops some few within gap = record {
  within = omega (arith, length-drop begin text, length-drop (begin + n) text);
  takes = (
    letter 76 ∷ name bytes ∷ [],
    (bytes, refl, omega (arith, length-take-le n (drop begin text) short), refl),
    (drop begin text, is, (drop (begin + n + passed) text, read, refl)),
  );
  only = λ c rest takes ends.
      let a = layer_of c text (drop begin text) rest is takes ends in
      (same_name a.bytes bytes (drop begin text) rest (drop (begin + n + passed) text) a.read read).1;
}
  where
    bytes : List ℕ
    bytes = take n (drop begin text)

    read : IsRead (name (take n (drop begin text))) (drop begin text) (drop (begin + n + passed) text)
    read = record {
      own = take n (drop begin text);
      after = drop (begin + n) text;
      joined = sym (take-append-drop n (drop begin text))
          ∙ ap (λ (t : List ℕ). take n (drop begin text) ++ t) (drop-drop n begin text);
      is_spelled = (refl, omega (arith, length-take-le n (drop begin text) short), all);
      is_whole = stops;
      is_after = subst (λ (t : List ℕ). IsAfterGap (drop (begin + n) text) t) (drop-drop passed (begin + n) text) gap;
    }
