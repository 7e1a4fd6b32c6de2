-- What is found among names when one more is added after them.
use Rattle.std.{proofs.Common.{◌≡◌, Bool, true, false, cond, List, [], ◌∷◌, ◌++◌, Some, None, refl}, specs.Map.lookup}

-- what was found before
pub found_before : {K X : Type 0} (test : K → Bool) (prefix after : List (K × X)) (x : X)
    → lookup test prefix ≡ Some x → lookup test (prefix ++ after) ≡ Some x
found_before test [] after x h = absurd cc
found_before {K} {X} test (e ∷ prefix) after x h = by (test e.0) h (found_before test prefix after x)
  where
    by : (b : Bool) → cond b (Some e.1) (lookup test prefix) ≡ Some x
        → (lookup test prefix ≡ Some x → lookup test (prefix ++ after) ≡ Some x)
        → cond b (Some e.1) (lookup test (prefix ++ after)) ≡ Some x
    by true h rest = h
    by false h rest = rest h

-- nothing before
pub found_after : {K X : Type 0} (test : K → Bool) (prefix after : List (K × X)) → lookup test prefix ≡ None
    → lookup test (prefix ++ after) ≡ lookup test after
found_after test [] after h = refl
found_after {K} {X} test (e ∷ prefix) after h = by (test e.0) h (found_after test prefix after)
  where
    by : (b : Bool) → cond b (Some e.1) (lookup test prefix) ≡ None
        → (lookup test prefix ≡ None → lookup test (prefix ++ after) ≡ lookup test after)
        → cond b (Some e.1) (lookup test (prefix ++ after)) ≡ lookup test after
    by true h rest = absurd cc
    by false h rest = rest h
