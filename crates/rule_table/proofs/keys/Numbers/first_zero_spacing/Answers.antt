use Rattle.std.proofs.Common.{◌≡◌, ℕ, ℤ, Bool, List, [], ◌∷◌, ◌++◌, take, drop, Option, refl, sym, inl, inr}
use Rattle.std.{proofs.lemmas.Bool.cases_Bool, specs.{Prelude.if◌then◌else◌, Option.option_or}}
use Rattle.rule_table.specs.Keys.{common_numbers, buried_numbers, has_buried, first_key, spacings, is_zero}
use Rattle.rule_table.specs.declared.keys.Numbers.{Numbers}
use Rattle.rule_table.proofs.keys.Numbers.first_zero_spacing.Goals.{then-has_buried, else-has_buried}
use Rattle.rule_table.proofs.keys.Numbers.first_zero_spacing.Goals as goal

first_of_two : (fails : ℤ → Bool) (ks rest : List (ℕ × ℤ))
    → first_key fails (ks ++ rest) ≡ option_or (first_key fails ks) (first_key fails rest)
unfolding first_key
first_of_two fails [] rest = refl
first_of_two fails (k ∷ ks) rest =
    elim (cases_Bool (fails k.1)) [ inl bad ↦ rw bad | inr good ↦ rw good (first_of_two fails ks rest) ]

both : (n : Numbers) (a b : Option ℕ) → a ≡ first_key is_zero (drop 5 (take 12 (common_numbers n)))
    → b ≡ first_key is_zero (if has_buried n then drop 1 (buried_numbers n) else [])
    → option_or a b ≡ first_key is_zero (spacings n)
both n a b e f =
    rw (e, f)
    (sym (first_of_two is_zero (drop 5 (take 12 (common_numbers n)))
    (if has_buried n then drop 1 (buried_numbers n) else [])))

pub returns : goal.returns
unfolding first_key
returns c =
    rw c.or.ensures
    (both c.args.self.now c.first_zero.result c.if-has_buried.of_buried
    (rw (c.first_zero.ensures, c.common.ensures) refl) (elim c.if-has_buried.branch [
      | then-has_buried w ↦
          rw (
            w.of_buried-is,
            w.first_zero-of_buried.ensures,
            w.buried.ensures,
            sym
                c.has_buried.ensures,
            w.if-has_buried.true,
          ) refl
      | else-has_buried w ↦ rw (w.of_buried-is, sym c.has_buried.ensures, w.if-has_buried.false) refl
    ]))
