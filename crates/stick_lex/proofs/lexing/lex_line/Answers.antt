use Rattle.std.proofs.Common.{◌≡◌, ℕ, ◌+◌, ◌<◌, ◌≤◌, ◌^◌, eqb, List, length, get_or, Bool, true, false, Ok, ◌≢◌}
use Rattle.std.proofs.Common.{eqb-true, false-eqb, is_ok, sym, ap, subst, ◌∙◌, refl, arith, rules, tests}
use Rattle.std.proofs.{ResultArms.chosen, lemmas.{List.{length_push, length-take}, Result.err_from_is_err_and}}
use Rattle.std.proofs.lemmas.Iterator.{Splits.YieldsList-from_slice_split, Consumers.{YieldsList-turn, YieldsList-end}}
use Rattle.std.specs.List.{slice_split, position_or_len}
use Rattle.stick_lex.specs.{Runs.{is_blank, without_comment}, Tokens.tokens_of}
use Rattle.stick_lex.proofs.Loop.{width-slice_split, Walks, starts, within, skips, takes, stops, ends}
use Rattle.stick_lex.proofs.{Slices.tokens_are_slices, lexing.lex_line.Goals.{After-is_empty, In-None}}
use Rattle.stick_lex.proofs.lexing.lex_line.Goals.{then-not-is_empty+in_ok-token_of+in_ok-push, else-not-is_empty}
use Rattle.stick_lex.proofs.lexing.lex_line.Goals as goal

abbrev parts : List ℕ → List (List ℕ)
parts line = slice_split is_blank (without_comment line)

turn : (c : After-is_empty) → (length c.loop-run.yielded < length (parts c.args.line.now))
    × (c.in-Some.run'.now ≡ get_or (parts c.args.line.now) (length c.loop-run.yielded) c.in-Some.run'.now)
turn c =
    YieldsList-turn
    (YieldsList-from_slice_split _ is_blank (without_comment c.args.line.now) (cc) (cc) (cc)
    (λ x b q k.
    search (
      rules,
      tests,
    ))) c.loop-run.yielded _ c.loop-run.yielded_by _ _ c.in-Some.run' c.in-Some.is c.next.ensures.steps

pub loop-run-init : goal.loop-run-init
unfolding tokens_of
loop-run-init c = subst (λ ts. Walks (parts c.args.line.now) (tokens_of c.args.line.now) 0 0 ts)
    (sym c.in_ok-tokens.ensures.items) (starts (parts c.args.line.now) (tokens_of c.args.line.now) refl)

-- the part lies within the line
fits : (c : After-is_empty) → c.loop-run.lo + (length c.in-Some.run'.now + 1) ≤ 2 ^ 20 + 1
fits c =
    let t = turn c in
    omega (
      arith,
      within (parts c.args.line.now) (tokens_of c.args.line.now) (length c.loop-run.yielded) c.loop-run.lo
          c.loop-run.tokens.items c.in-Some.run'.now t.0 t.1 c.loop-run.invariant,
      width-slice_split is_blank
          (without_comment c.args.line.now),
      length-take (position_or_len (λ (b : ℕ). eqb b 35) c.args.line.now)
          c.args.line.now,
      c.requires,
    )

pub overflow_cast-lo : goal.overflow_cast-lo
overflow_cast-lo c = omega (arith, fits (goal.at.overflow_cast-lo c).After-is_empty)

pub token_of-requires : goal.token_of-requires
token_of-requires c = omega (arith, fits (goal.at.token_of-requires c).After-is_empty)

pub overflow_add-lo-in-loop-run : goal.overflow_add-lo-in-loop-run
overflow_add-lo-in-loop-run c = omega (arith, fits (goal.at.overflow_add-lo-in-loop-run c).After-is_empty)

-- a test for emptiness says how long the run is
empty : (run : List ℕ) (b : Bool) → b ≡ eqb (length run) 0 → b ≡ true → length run ≡ 0
empty run b e holds = eqb-true _ _ (sym e ∙ holds)

some : (run : List ℕ) (b : Bool) → b ≡ eqb (length run) 0 → b ≡ false → 0 < length run
some run b e fails = let h : length run ≢ 0 = false-eqb _ _ (sym fails ∙ e) in omega arith

pub returns-in_err-token_of-clause-tokens : goal.returns-in_err-token_of-clause-tokens
returns-in_err-token_of-clause-tokens c =
    let p = err_from_is_err_and c.from_residual-in_err-token_of.result c.from_residual-in_err-token_of.ensures.1 in
    let t = turn (goal.at.returns-in_err-token_of-clause-tokens c).After-is_empty in
    rw (p.1, p.2)
    (stops (parts c.args.line.now) (tokens_of c.args.line.now) (length c.loop-run.yielded) c.loop-run.lo
    c.loop-run.tokens.items c.in-Some.run'.now c.in_err-token_of.field-0.0 t.0 t.1
    (some _ _ c.is_empty.ensures c.if-not-is_empty.true) c.in_err-token_of.ensures c.loop-run.invariant)

pub loop-run-preserved : goal.loop-run-preserved
loop-run-preserved c =
    let line = c.args.line.now in
    let run = c.in-Some.run'.now in
    let n = length c.loop-run.yielded in
    let lo = c.loop-run.lo in
    let t = turn (goal.at.loop-run-preserved c).After-is_empty in
    subst (λ (m : ℕ). Walks (parts line) (tokens_of line) m (lo + (length run + 1)) c.if-not-is_empty.tokens.items)
    (sym (length_push c.loop-run.yielded c.in-Some.run'))
    (elim c.if-not-is_empty.branch [
      | then-not-is_empty+in_ok-token_of+in_ok-push w ↦
          let pushed = chosen _ _ _ _ w.push.ensures.items (ap is_ok w.in_ok-push.was) in
          subst (λ ts. Walks (parts line) (tokens_of line) (n + 1) (lo + (length run + 1)) ts)
          (sym (ap (λ v. v.items) w.tokens-is ∙ pushed))
          (takes (parts line) (tokens_of line) n lo c.loop-run.tokens.items run _ t.0 t.1
          (some _ _ c.is_empty.ensures w.if-not-is_empty.true) w.in_ok-token_of.ensures c.loop-run.invariant)
      | else-not-is_empty w ↦
          subst (λ ts. Walks (parts line) (tokens_of line) (n + 1) (lo + (length run + 1)) ts)
          (sym (ap (λ v. v.items) w.tokens-is))
          (skips (parts line) (tokens_of line) n lo c.loop-run.tokens.items run t.0 t.1
          (empty _ _ c.is_empty.ensures w.if-not-is_empty.false) c.loop-run.invariant)
    ])

-- every part was taken
found : (c : In-None) → tokens_of c.args.line.now ≡ Ok c.loop-run.tokens.items
found c =
    let all =
    YieldsList-end
    (YieldsList-from_slice_split _ is_blank (without_comment c.args.line.now) (cc) (cc) (cc)
    (λ x b q k.
    search (rules, tests))) c.loop-run.yielded _ c.loop-run.yielded_by _ _ c.in-None.is c.next.ensures.steps in
    ends (parts c.args.line.now) (tokens_of c.args.line.now) (length c.loop-run.yielded) c.loop-run.lo
    c.loop-run.tokens.items all.1 c.loop-run.invariant

pub returns-clause-tokens : goal.returns-clause-tokens
returns-clause-tokens c = found c

pub returns-clause-slices : goal.returns-clause-slices
returns-clause-slices c = tokens_are_slices c.args.line.now _ (found c)
