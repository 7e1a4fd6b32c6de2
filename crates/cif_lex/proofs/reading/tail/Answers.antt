use Rattle.std.proofs.Common.{◌≡◌, ℕ, ◌+◌, ◌-◌, ◌<◌, inl, inr, List, [], ◌++◌, length, take, drop, sym, ap, ◌∙◌, subst}
use Rattle.std.proofs.{Common.arith, lemmas.{Bool.{eqb-true, eqb-false}, List.{take_rest, nil_from_length, append-nil}}}
use Rattle.cif_lex.specs.{Blanks.{IsGap, IsUnclosed, IsCutOff, IsFilled}, Commands.Follows}
use Rattle.cif_lex.proofs.Following.{follows_after}
use Rattle.cif_lex.proofs.reading.tail.Goals as goal

only_gap : (bytes text : List ℕ) (read begin : ℕ) → Follows bytes read begin text → text ≡ [] → IsGap (drop read bytes)
only_gap bytes text read begin f none =
    subst IsGap (sym (f.joined ∙ (ap (λ (t : List ℕ). f.gap ++ t) none ∙ append-nil f.gap))) f.is_gap

unclosed : (text : List ℕ) → 0 < length text → IsCutOff text → IsUnclosed text
unclosed text some (inl none) = absurd (omega (arith, ap (λ (t : List ℕ). length t) none))
unclosed text some (inr it) = it

pub returns-then-is_empty : goal.returns-then-is_empty
returns-then-is_empty c =
    let bytes = c.args.bytes.now in
    let begin = c.args.read + c.gap_length.result in
    let empty = eqb-true (length (take (length bytes - begin) (drop begin bytes))) 0
    (sym c.is_empty.ensures ∙ c.if-is_empty.true) in
    only_gap bytes (drop begin bytes) c.args.read begin
    (follows_after bytes _ c.args.read c.gap_length.result (take_rest bytes c.args.read)
    c.gap_length.ensures.within c.gap_length.ensures.gap)
    (sym (take_rest bytes begin) ∙ nil_from_length (take (length bytes - begin) (drop begin bytes)) empty)

pub returns-then-is_cut : goal.returns-then-is_cut
returns-then-is_cut c =
    let bytes = c.args.bytes.now in
    let begin = c.args.read + c.gap_length.result in
    let none = eqb-false (length (take (length bytes - begin) (drop begin bytes))) 0
    (sym c.is_empty.ensures ∙ c.if-is_empty.false) in
    let some : 0 < length (take (length bytes - begin) (drop begin bytes)) = omega (arith, none) in (
      begin,
      drop begin bytes,
      follows_after bytes _ c.args.read c.gap_length.result (take_rest bytes c.args.read) c.gap_length.ensures.within
          c.gap_length.ensures.gap,
      subst IsUnclosed (take_rest bytes begin)
          (unclosed (take (length bytes - begin) (drop begin bytes)) some c.if-is_cut.ensures),
    )

pub returns-else-is_cut : goal.returns-else-is_cut
returns-else-is_cut c =
    let bytes = c.args.bytes.now in
    let begin = c.args.read + c.gap_length.result in (
      drop begin bytes,
      follows_after bytes _ c.args.read c.gap_length.result (take_rest bytes c.args.read) c.gap_length.ensures.within
          c.gap_length.ensures.gap,
      subst IsFilled (take_rest bytes begin) c.if-is_cut.ensures,
    )
