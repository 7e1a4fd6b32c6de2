-- The words of commands: how they begin, and that they tell the command.
use Rattle.std.proofs.Common.{◌≡◌, ℕ, ◌≤◌, ℤ, Bool, true, false, eqb, ◌⊎◌, inl, inr, List, [], ◌∷◌, length, refl, sym}
use Rattle.std.proofs.{Common.{ap, ◌∙◌, subst}, lemmas.Bool.eqb-false}
use Rattle.std.specs.{List.{AllByRecursion, flat_map, list_any}, Char.is_ascii_uppercase}
use Rattle.cif_lex.specs.declared.command.Command.{Command, TheVariants.{Nothing, Define, Finish, Layer, Area, Call}}
use Rattle.cif_lex.specs.declared.{command.Command.TheVariants.Extension, placement.Transformation.Transformation}
use Rattle.cif_lex.specs.declared.placement.Transformation.TheVariants.{Shift, MirrorX, MirrorY, Turn}
use Rattle.cif_lex.specs.{Words.{Word, letter, number, name}, Transformations.{words_of, IsComposedOf}}
use Rattle.cif_lex.specs.{Shifts.{is_odd_shift, IsOddWhere}, Commands.{HasWords, layer_named, is_bad, is_turn}}
use Rattle.cif_lex.specs.{Reading.{IsRead, AreRead}, Forms.{Ends, Takes}}
use Rattle.cif_lex.proofs.{Turning.one_composed, Divisors.one_divisor, OneWord.{IsPlain, same_letter, no_word_ends}}

-- ---- the first word

-- words that begin with a capital letter
pub record IsHeaded (words : List Word) : Type 0 where
  pub first : ℕ
  pub more : List Word
  pub begun : words ≡ letter first ∷ more
  pub capital : is_ascii_uppercase first ≡ true

pub has_head : (c : Command) (words : List Word) → HasWords c words → (words ≡ []) ⊎ IsHeaded words
has_head Nothing words h = inl h
has_head (Define n a b) words (inl e) =
    inr (record { first = 68; more = letter 83 ∷ number n ∷ number a ∷ number b ∷ []; begun = e; capital = refl })
has_head (Define n a b) words (inr h) =
    inr (record { first = 68; more = letter 83 ∷ number n ∷ []; begun = h.0; capital = refl })
has_head Finish words h = inr (record { first = 68; more = letter 70 ∷ []; begun = h; capital = refl })
has_head (Layer layer) words h = inr (record { first = 76; more = name h.0 ∷ []; begun = h.1; capital = refl })
has_head (Area l w x y) words h =
    inr (record { first = 66; more = number l ∷ number w ∷ number x ∷ number y ∷ []; begun = h; capital = refl })
has_head (Call n place bad is_turned divisor) words h =
    inr (record { first = 67; more = number n ∷ flat_map words_of h.0; begun = h.1; capital = refl })
has_head Extension words h = absurd h

-- where a capital letter is read, a command's words begin with it
pub begins : (c : Command) (text mid s : List ℕ) (b : ℕ) → is_ascii_uppercase b ≡ true → IsRead (letter b) text mid
    → Takes c text s → Ends s
    → (more : List Word) × HasWords c (letter b ∷ more) × AreRead more mid s
begins c text mid s b capital is takes ends = by_head (has_head c takes.0 takes.1)
  where
    by_head : (takes.0 ≡ []) ⊎ IsHeaded takes.0 → (more : List Word) × HasWords c (letter b ∷ more) × AreRead more mid s
    by_head (inl none) =
        let e : text ≡ s = subst (λ (ws : List Word). AreRead ws text s) none takes.2 in
        absurd (no_word_ends (letter b) text mid capital is (subst Ends (sym e) ends))
    by_head (inr head) =
        let read : AreRead (letter head.first ∷ head.more) text s =
        subst (λ (ws : List Word). AreRead ws text s) head.begun takes.2 in
        let same = same_letter head.first b text read.0 mid read.1 is in (
          head.more,
          subst (HasWords c) (head.begun ∙ ap (λ (f : ℕ). letter f ∷ head.more) same.0) takes.1,
          subst
              (λ (t : List ℕ). AreRead head.more t s) same.1 read.2,
        )

-- ---- the words after it

other : (b c : ℕ) (us vs : List Word) → letter b ∷ us ≡ letter c ∷ vs → eqb b c ≡ false → ⊥
other b c us vs e apart = let same : b ≡ c = cc in absurd (eqb-false b c apart same)

pub area_words : (c : Command) (more : List Word) → HasWords c (letter 66 ∷ more)
    → (l w x y : ℤ) × (c ≡ Area l w x y) × (more ≡ number l ∷ number w ∷ number x ∷ number y ∷ [])
area_words Nothing more h = absurd cc
area_words (Define n a b) more (inl e) = absurd (other 66 68 more _ e refl)
area_words (Define n a b) more (inr h) = absurd (other 66 68 more _ h.0 refl)
area_words Finish more h = absurd (other 66 68 more _ h refl)
area_words (Layer layer) more h = absurd (other 66 76 more _ h.1 refl)
area_words (Area l w x y) more h = (l, w, x, y, refl, cc)
area_words (Call n place bad is_turned divisor) more h = absurd (other 66 67 more _ h.1 refl)
area_words Extension more h = absurd h

abbrev pub AreBracketWords : List Word → Type 0
AreBracketWords more =
    ((n a b : ℤ) × (more ≡ letter 83 ∷ number n ∷ number a ∷ number b ∷ []))
    ⊎ (((n : ℤ) × (more ≡ letter 83 ∷ number n ∷ [])) ⊎ (more ≡ letter 70 ∷ []))

pub bracket_words : (c : Command) (more : List Word) → HasWords c (letter 68 ∷ more) → AreBracketWords more
bracket_words Nothing more h = absurd cc
bracket_words (Define n a b) more (inl e) = inl (n, a, b, cc)
bracket_words (Define n a b) more (inr h) = inr (inl (n, let e = h.0 in cc))
bracket_words Finish more h = inr (inr cc)
bracket_words (Layer layer) more h = absurd (other 68 76 more _ h.1 refl)
bracket_words (Area l w x y) more h = absurd (other 68 66 more _ h refl)
bracket_words (Call n place bad is_turned divisor) more h = absurd (other 68 67 more _ h.1 refl)
bracket_words Extension more h = absurd h

pub layer_words : (c : Command) (more : List Word) → HasWords c (letter 76 ∷ more)
    → (bytes : List ℕ) × (more ≡ name bytes ∷ []) × (length bytes ≤ 4)
layer_words Nothing more h = absurd cc
layer_words (Define n a b) more (inl e) = absurd (other 76 68 more _ e refl)
layer_words (Define n a b) more (inr h) = absurd (other 76 68 more _ h.0 refl)
layer_words Finish more h = absurd (other 76 68 more _ h refl)
layer_words (Layer layer) more h = (h.0, let e = h.1 in cc, h.2)
layer_words (Area l w x y) more h = absurd (other 76 66 more _ h refl)
layer_words (Call n place bad is_turned divisor) more h = absurd (other 76 67 more _ h.1 refl)
layer_words Extension more h = absurd h

pub call_words : (c : Command) (more : List Word) → HasWords c (letter 67 ∷ more)
    → (n : ℤ) × (ts : List Transformation) × (more ≡ number n ∷ flat_map words_of ts)
call_words Nothing more h = absurd cc
call_words (Define n a b) more (inl e) = absurd (other 67 68 more _ e refl)
call_words (Define n a b) more (inr h) = absurd (other 67 68 more _ h.0 refl)
call_words Finish more h = absurd (other 67 68 more _ h refl)
call_words (Layer layer) more h = absurd (other 67 76 more _ h.1 refl)
call_words (Area l w x y) more h = absurd (other 67 66 more _ h refl)
call_words (Call n place bad is_turned divisor) more h = (n, h.0, let e = h.1 in cc)
call_words Extension more h = absurd h

-- the first letter of a command with words is one of four
pub four_letters : (c : Command) (b : ℕ) (more : List Word) → HasWords c (letter b ∷ more)
    → (b ≡ 66) ⊎ ((b ≡ 67) ⊎ ((b ≡ 68) ⊎ (b ≡ 76)))
four_letters Nothing b more h = absurd cc
four_letters (Define n x y) b more (inl e) = inr (inr (inl cc))
four_letters (Define n x y) b more (inr h) = inr (inr (inl (let e = h.0 in cc)))
four_letters Finish b more h = inr (inr (inl cc))
four_letters (Layer layer) b more h = inr (inr (inr (let e = h.1 in cc)))
four_letters (Area l w x y) b more h = inl cc
four_letters (Call n place bad is_turned divisor) b more h = inr (inl (let e = h.1 in cc))
four_letters Extension b more h = absurd h

-- ---- one command for some words

plain_transformations : (ts : List Transformation) → AllByRecursion IsPlain (flat_map words_of ts)
plain_transformations [] = tt
plain_transformations (Shift x y ∷ ts) = (refl, (tt, (tt, plain_transformations ts)))
plain_transformations (MirrorX ∷ ts) = (refl, (refl, plain_transformations ts))
plain_transformations (MirrorY ∷ ts) = (refl, (refl, plain_transformations ts))
plain_transformations (Turn a b ∷ ts) = (refl, (tt, (tt, plain_transformations ts)))

-- the words after the first letter are letters and numbers, but in one form
pub plain_words : (c : Command) (b : ℕ) (more : List Word) → HasWords c (letter b ∷ more)
    → (b ≡ 76) ⊎ AllByRecursion IsPlain more
plain_words Nothing b more h = absurd cc
plain_words (Define n x y) b more (inl e) =
    inr (let same : more ≡ letter 83 ∷ number n ∷ number x ∷ number y ∷ [] = cc in subst (AllByRecursion IsPlain)
    (sym same) (refl, (tt, (tt, (tt, tt)))))
plain_words (Define n x y) b more (inr h) =
    inr (let e = h.0 in let same : more ≡ letter 83 ∷ number n ∷ [] = cc in subst (AllByRecursion IsPlain) (sym same)
    (refl, (tt, tt)))
plain_words Finish b more h =
    inr (let same : more ≡ letter 70 ∷ [] = cc in subst (AllByRecursion IsPlain) (sym same) (refl, tt))
plain_words (Layer layer) b more h = inl (let e = h.1 in cc)
plain_words (Area l w x y) b more h =
    inr (let same : more ≡ number l ∷ number w ∷ number x ∷ number y ∷ [] = cc in subst (AllByRecursion IsPlain)
    (sym same) (tt, (tt, (tt, (tt, tt)))))
plain_words (Call n place bad is_turned divisor) b more h =
    inr (let e = h.1 in let same : more ≡ number n ∷ flat_map words_of h.0 = cc in subst (AllByRecursion IsPlain)
    (sym same) (tt, plain_transformations h.0))
plain_words Extension b more h = absurd h

same_transformations : (s t : List Transformation) → flat_map words_of s ≡ flat_map words_of t → s ≡ t
same_transformations [] [] e = refl
same_transformations [] (Shift c d ∷ t) e = absurd cc
same_transformations [] (MirrorX ∷ t) e = absurd cc
same_transformations [] (MirrorY ∷ t) e = absurd cc
same_transformations [] (Turn c d ∷ t) e = absurd cc
same_transformations (Shift a b ∷ s) [] e = absurd cc
same_transformations (MirrorX ∷ s) [] e = absurd cc
same_transformations (MirrorY ∷ s) [] e = absurd cc
same_transformations (Turn a b ∷ s) [] e = absurd cc
same_transformations (Shift a b ∷ s) (Shift c d ∷ t) e =
    let x : a ≡ c = cc in let y : b ≡ d = cc in
    let rest : flat_map words_of s ≡ flat_map words_of t = cc in
    let same = same_transformations s t rest in
    cc
same_transformations (Shift a b ∷ s) (MirrorX ∷ t) e = absurd (other 84 77 _ _ e refl)
same_transformations (Shift a b ∷ s) (MirrorY ∷ t) e = absurd (other 84 77 _ _ e refl)
same_transformations (Shift a b ∷ s) (Turn c d ∷ t) e = absurd (other 84 82 _ _ e refl)
same_transformations (MirrorX ∷ s) (Shift c d ∷ t) e = absurd (other 77 84 _ _ e refl)
same_transformations (MirrorX ∷ s) (MirrorX ∷ t) e =
    let rest : flat_map words_of s ≡ flat_map words_of t = cc in
    ap (λ (ts : List Transformation). MirrorX ∷ ts) (same_transformations s t rest)
same_transformations (MirrorX ∷ s) (MirrorY ∷ t) e =
    let rest : letter 88 ∷ flat_map words_of s ≡ letter 89 ∷ flat_map words_of t = cc in
    absurd (other 88 89 _ _ rest refl)
same_transformations (MirrorX ∷ s) (Turn c d ∷ t) e = absurd (other 77 82 _ _ e refl)
same_transformations (MirrorY ∷ s) (Shift c d ∷ t) e = absurd (other 77 84 _ _ e refl)
same_transformations (MirrorY ∷ s) (MirrorX ∷ t) e =
    let rest : letter 89 ∷ flat_map words_of s ≡ letter 88 ∷ flat_map words_of t = cc in
    absurd (other 89 88 _ _ rest refl)
same_transformations (MirrorY ∷ s) (MirrorY ∷ t) e =
    let rest : flat_map words_of s ≡ flat_map words_of t = cc in
    ap (λ (ts : List Transformation). MirrorY ∷ ts) (same_transformations s t rest)
same_transformations (MirrorY ∷ s) (Turn c d ∷ t) e = absurd (other 77 82 _ _ e refl)
same_transformations (Turn a b ∷ s) (Shift c d ∷ t) e = absurd (other 82 84 _ _ e refl)
same_transformations (Turn a b ∷ s) (MirrorX ∷ t) e = absurd (other 82 77 _ _ e refl)
same_transformations (Turn a b ∷ s) (MirrorY ∷ t) e = absurd (other 82 77 _ _ e refl)
same_transformations (Turn a b ∷ s) (Turn c d ∷ t) e =
    let x : a ≡ c = cc in let y : b ≡ d = cc in
    let rest : flat_map words_of s ≡ flat_map words_of t = cc in
    let same = same_transformations s t rest in
    cc

-- the first letter and the second, 0 where there is none
abbrev first_letter : List Word → ℕ
first_letter [] = 0
first_letter (letter b ∷ more) = b
first_letter (number n ∷ more) = 0
first_letter (name bytes ∷ more) = 0

abbrev second_letter : List Word → ℕ
second_letter [] = 0
second_letter (word ∷ more) = first_letter more

abbrev first_of : Command → ℕ
first_of Nothing = 0
first_of (Define n a b) = 68
first_of Finish = 68
first_of (Layer layer) = 76
first_of (Area l w x y) = 66
first_of (Call n place bad is_turned divisor) = 67
first_of Extension = 0

abbrev second_of : Command → ℕ
second_of Nothing = 0
second_of (Define n a b) = 83
second_of Finish = 70
second_of (Layer layer) = 0
second_of (Area l w x y) = 0
second_of (Call n place bad is_turned divisor) = 0
second_of Extension = 0

letters_are : (c : Command) (words : List Word) → HasWords c words
    → (first_letter words ≡ first_of c) × (second_letter words ≡ second_of c)
letters_are Nothing words h = (ap first_letter h, ap second_letter h)
letters_are (Define n a b) words (inl e) = (ap first_letter e, ap second_letter e)
letters_are (Define n a b) words (inr h) = (ap first_letter h.0, ap second_letter h.0)
letters_are Finish words h = (ap first_letter h, ap second_letter h)
letters_are (Layer layer) words h = (ap first_letter h.1, ap second_letter h.1)
letters_are (Area l w x y) words h = (ap first_letter h, ap second_letter h)
letters_are (Call n place bad is_turned divisor) words h = (ap first_letter h.1, ap second_letter h.1)
letters_are Extension words h = absurd h

apart : (c d : Command) (words : List Word) → HasWords c words → HasWords d words
    → (eqb (first_of c) (first_of d) ≡ false) ⊎ (eqb (second_of c) (second_of d) ≡ false) → ⊥
apart c d words h k (inl e) =
    eqb-false (first_of c) (first_of d) e (sym (letters_are c words h).0 ∙ (letters_are d words k).0)
apart c d words h k (inr e) =
    eqb-false (second_of c) (second_of d) e (sym (letters_are c words h).1 ∙ (letters_are d words k).1)

-- the words tell the command
pub same_command : (c d : Command) (words : List Word) → HasWords c words → HasWords d words → c ≡ d
same_command Extension d words h k = absurd h
same_command c Extension words h k = absurd k
same_command Nothing Nothing words h k = refl
same_command (Define n a b) (Define m x y) words (inl e) (inl d) = cc
same_command (Define n a b) (Define m x y) words (inl e) (inr k) = absurd (let d = k.0 in cc)
same_command (Define n a b) (Define m x y) words (inr h) (inl d) = absurd (let e = h.0 in cc)
same_command (Define n a b) (Define m x y) words (inr h) (inr k) = let e = h.0 in let d = k.0 in let a' =
    h.1 in let x' = k.1 in let b' = h.2 in let y' = k.2 in cc
same_command Finish Finish words h k = refl
same_command (Layer layer) (Layer second) words h k =
    let e = h.1 in let d = k.1 in let same : h.0 ≡ k.0 = cc in
    ap Layer (h.3 ∙ (ap layer_named same ∙ sym k.3))
same_command (Area l w x y) (Area m n p q) words h k = cc
same_command (Call n place bad is_turned divisor) (Call m other_place worse is_mirrored other_divisor) words h k =
    let e = h.1 in let d = k.1 in
    let number_same : n ≡ m = cc in
    let words_same : flat_map words_of h.0 ≡ flat_map words_of k.0 = cc in
    let same = same_transformations h.0 k.0 words_same in
    let a : place ≡ other_place =
    one_composed k.0 place other_place (subst (λ (ts : List Transformation). IsComposedOf ts place) same h.2)
    k.2 in
    let b : bad ≡ worse = h.3 ∙ (ap (λ (ts : List Transformation). list_any is_bad ts) same ∙ sym k.3) in
    let g : is_turned ≡ is_mirrored = h.4 ∙ (ap (λ (ts : List Transformation). list_any is_turn ts) same ∙ sym k.4) in
    let odd : List Transformation → ℤ → ℤ → Bool = λ ts above below. list_any (is_odd_shift above below) ts in
    let d : divisor ≡ other_divisor =
    one_divisor divisor other_divisor (odd k.0)
    (subst (λ (ts : List Transformation). IsOddWhere (odd ts) divisor) same h.5) k.5 in
    cc
same_command Nothing d words h k = absurd (apart Nothing d words h k (inl refl))
same_command (Define n a b) Finish words h k = absurd (apart (Define n a b) Finish words h k (inr refl))
same_command Finish (Define n a b) words h k = absurd (apart Finish (Define n a b) words h k (inr refl))
same_command (Define n a b) d words h k = absurd (apart (Define n a b) d words h k (inl refl))
same_command Finish d words h k = absurd (apart Finish d words h k (inl refl))
same_command (Layer layer) d words h k = absurd (apart (Layer layer) d words h k (inl refl))
same_command (Area l w x y) d words h k = absurd (apart (Area l w x y) d words h k (inl refl))
same_command (Call n place bad is_turned divisor) d words h k =
    absurd (apart (Call n place bad is_turned divisor) d words h k (inl refl))
