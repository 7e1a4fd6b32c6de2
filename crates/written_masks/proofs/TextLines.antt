-- Texts that are lines of commands, and the chunks of such a text: a line feed stands in front of the command after it.
use Rattle.std.proofs.Common.{◌≡◌, ℕ, List, [], ◌∷◌, ◌++◌, map, flat_map, refl, sym, ap, ◌∙◌, append_assoc, append-nil}
use Rattle.std.specs.List.{AllByRecursion, AllZip}
use Rattle.cif_lex.specs.{declared.command.Command.Command, Blanks.IsGap, Commands.IsWholeCommand}
use Rattle.cif_read.specs.Readers.{joined}
use Rattle.written_masks.proofs.CommandLines.{IsLineOf, one_blank}

-- ---- lines

abbrev pub AreLines : List Command → List ℕ → Type 0
AreLines [] text = text ≡ []
AreLines (c ∷ commands) text = (line rest : List ℕ) × (text ≡ line ++ rest) × IsLineOf c line × AreLines commands rest

pub then_lines : (c : Command) (commands : List Command) (line rest : List ℕ) → IsLineOf c line
    → AreLines commands rest → AreLines (c ∷ commands) (line ++ rest)
then_lines c commands line rest is more = (line, rest, refl, is, more)

pub one_line : (c : Command) (line : List ℕ) → IsLineOf c line → AreLines (c ∷ []) line
one_line c line is = (line, [], sym (append-nil line), is, refl)

pub lines_append : (a b : List Command) (text more : List ℕ) → AreLines a text → AreLines b more
    → AreLines (a ++ b) (text ++ more)
lines_append [] b text more none is = let e : more ≡ text ++ more =
    sym (ap (λ (t : List ℕ). t ++ more) none) in subst_lines b more (text ++ more) e is
  where
    subst_lines : (b : List Command) (s t : List ℕ) → s ≡ t → AreLines b s → AreLines b t
    subst_lines b s t e h = rw e at h
lines_append (c ∷ a) b text more (line, rest, e, own, others) is = (
  line,
  rest ++ more,
  ap (λ (t : List ℕ). t ++ more) e
      ∙ append_assoc line rest more,
  own,
  lines_append a b rest more others is,
)

pub flat_lines : {X : Type 0} (f : X → List Command) (t : X → List ℕ) (xs : List X)
    → AllByRecursion (λ x. AreLines (f x) (t x)) xs → AreLines (flat_map f xs) (flat_map t xs)
flat_lines f t [] h = refl
flat_lines f t (x ∷ xs) h = lines_append (f x) (flat_map f xs) (t x) (flat_map t xs) h.0 (flat_lines f t xs h.1)

pub each_line : {X : Type 0} (f : X → Command) (t : X → List ℕ) (xs : List X)
    → AllByRecursion (λ x. IsLineOf (f x) (t x)) xs → AreLines (map f xs) (flat_map t xs)
each_line f t [] h = refl
each_line f t (x ∷ xs) h = then_lines (f x) (map f xs) (t x) (flat_map t xs) h.0 (each_line f t xs h.1)

-- ---- chunks, and the gap after the last

pub record AreChunks (commands : List Command) (text : List ℕ) : Type 0 where
  pub chunks : List (List ℕ)
  pub spelled : AllZip IsWholeCommand commands chunks
  pub gap : List ℕ
  pub is_gap : IsGap gap
  pub whole : text ≡ joined chunks ++ gap

-- the line feed after a semicolon goes over to the next chunk
seam : (g b r : List ℕ) → g ++ ((b ++ (59 ∷ 10 ∷ [])) ++ r) ≡ (g ++ (b ++ (59 ∷ []))) ++ (10 ∷ r)
seam g b r = simp append_assoc

pub cut : (commands : List Command) (gap text : List ℕ) → IsGap gap → AreLines commands text
    → AreChunks commands (gap ++ text)
cut [] gap text is none =
    record {
      chunks = [];
      spelled = tt;
      gap = gap;
      is_gap = is;
      whole = ap (λ (t : List ℕ). gap ++ t) none
          ∙ append-nil gap;
    }
cut (c ∷ commands) gap text is (line, rest, e, own, others) =
    let more = cut commands (10 ∷ []) rest (one_blank 10 refl) others in
    let chunk : List ℕ = gap ++ (own.body ++ (59 ∷ [])) in
    record {
      chunks = chunk ∷ more.chunks;
      spelled =
          (record { gap = gap; body = own.body; is_gap = is; is_body = own.is_body; joined = refl }, more.spelled);
      gap = more.gap;
      is_gap = more.is_gap;
      whole =
          ap (λ (t : List ℕ). gap ++ t) (e ∙ ap (λ (t : List ℕ). t ++ rest) own.joined)
          ∙ (seam gap own.body rest
          ∙ (ap (λ (t : List ℕ). chunk ++ t) more.whole ∙ sym (append_assoc chunk (joined more.chunks) more.gap)));
    }
