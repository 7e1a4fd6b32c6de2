-- What holds where a chain of demands is met, and what its tests say.
use Rattle.std.proofs.Common.{◌≡◌, ℕ, ◌<◌, ◌≤◌, ℤ, Bool, true, false, Option, Some, None, Result, Ok, Err, refl, arith}
use Rattle.std.proofs.lemmas.{Bool.Decides.nat_tests, Int.ints}
use Rattle.std.specs.Prelude.{◌&&◌, ◌==◌, not, nat_lt, int_le, ◌≤ℤ◌, IsTrue}
use Rattle.stick_text.specs.{declared.fault.StickKind.StickKind, Reading.{◌>>=◌, demand}, Order.at_line}
use Rattle.checked_cells.specs.declared.names.{Terminal.Terminal, NodePlace.NodePlace, Found.{Found, TheVariants.At}}
use Rattle.checked_cells.specs.{declared.names.{Found.TheVariants.{AtCopy, Through}, Run.Run}, Checks.is_place}
use Rattle.checked_cells.specs.{Wires.{known_name, terminal, straight, limited}, Lines.known_number}
use Rattle.checked_cells.specs.declared.names.Terminal.TheVariants as terminals

-- a step that was taken
pub bound : {A B E : Type 0} (r : Result A E) (f : A → Result B E) (x : B) → (r >>= f) ≡ Ok x
    → (a : A) × (r ≡ Ok a) × (f a ≡ Ok x)
bound (Ok a) f x e = (a, refl, e)
bound (Err k) f x e = absurd (cc)

-- two steps that were taken
pub two_bound : {A B C E : Type 0} (r : Result A E) (s : Result B E) (f : A → B → Result C E) (x : C)
    → (r >>= λ a. s >>= λ b. f a b) ≡ Ok x → (a : A) × (b : B) × (r ≡ Ok a) × (s ≡ Ok b) × (f a b ≡ Ok x)
two_bound (Ok a) (Ok b) f x e = (a, b, refl, refl, e)
two_bound (Ok a) (Err k) f x e = absurd (cc)
two_bound (Err k) s f x e = absurd (cc)

-- a test that was passed
pub demanded : {A : Type 0} (b : Bool) (kind : StickKind) (rest : Result A StickKind) (x : A)
    → (demand b kind >>= λ u. rest) ≡ Ok x → IsTrue b × (rest ≡ Ok x)
demanded true kind rest x e = (refl, e)
demanded false kind rest x e = absurd (cc)

-- two tests that were passed
pub two_demanded : {A : Type 0} (b c : Bool) (kind other : StickKind) (rest : Result A StickKind) (x : A)
    → (demand b kind >>= λ u. demand c other >>= λ v. rest) ≡ Ok x → IsTrue b × IsTrue c × (rest ≡ Ok x)
two_demanded true true kind other rest x e = (refl, refl, e)
two_demanded true false kind other rest x e = absurd (cc)
two_demanded false c kind other rest x e = absurd (cc)

-- one result
pub ok_same : {A E : Type 0} (x y : A) → ◌≡◌ {A = Result A E} (Ok x) (Ok y) → x ≡ y
ok_same x y e = cc

-- both of two tests
pub both : (a b : Bool) → IsTrue (a && b) → IsTrue a × IsTrue b
both true b h = (refl, h)
both false b h = absurd (cc)

-- a step of a line
pub at_line_ok : {A : Type 0} (number : ℕ) (r : Result A StickKind) (x : A) → at_line number r ≡ Ok x → r ≡ Ok x
at_line_ok number (Ok y) x e = cc
at_line_ok number (Err kind) x e = absurd (cc)

-- a name that is known
pub known_name_ok : (found : Option Found) (x : Found) → known_name found ≡ Ok x → found ≡ Some x
known_name_ok None x e = absurd (cc)
known_name_ok (Some found) x e = cc

-- a cell that is known
pub known_number_ok : (found : Option ℕ) (k : ℕ) → known_number found ≡ Ok k → found ≡ Some k
known_number_ok None x e = absurd (cc)
known_number_ok (Some found) x e = cc

-- a terminal
pub terminal_ok : (found : Found) (x : Terminal) → terminal found ≡ Ok x → found ≡ At x
terminal_ok (At end) x e = cc
terminal_ok AtCopy x e = absurd (cc)
terminal_ok Through x e = absurd (cc)

-- a straight run
pub straight_ok : (run : Option Run) (x : Run) → straight run ≡ Ok x → run ≡ Some x
straight_ok None x e = absurd (cc)
straight_ok (Some run) x e = cc

-- a node that may be limited
pub limited_ok : (found : Found) (x : NodePlace) → limited found ≡ Ok x → found ≡ At (terminals.Node x)
limited_ok (At (terminals.Node node_place)) x e = cc
limited_ok (At (terminals.Port pin)) x e = absurd (cc)
limited_ok AtCopy x e = absurd (cc)
limited_ok Through x e = absurd (cc)

-- ---- tests on numbers

-- equal numbers
pub eq_from_test : (a b : ℕ) → IsTrue (a == b) → a ≡ b
eq_from_test a b h = grind (arith, nat_tests)

-- a lesser number
pub less_from_test : (a b : ℕ) → nat_lt a b ≡ true → a < b
less_from_test a b h = grind (arith, nat_tests)

-- of two numbers that differ the first is less, or else the second
pub more_from_test : (a b : ℕ) → IsTrue (not (a == b)) → nat_lt a b ≡ false → b < a
more_from_test a b apart h = grind (arith, nat_tests)

-- numbers that differ
pub apart_from_test : (a b : ℕ) → IsTrue (not (a == b)) → a ≡ b → ⊥
apart_from_test a b h e = grind (arith, nat_tests)

-- a place that is near
pub place_from_test : (n : ℕ) → IsTrue (is_place n) → n ≤ 4095
place_from_test n h = grind (arith, nat_tests)

-- a test that was passed, and nothing after it
pub true_from_demand : (b : Bool) (kind : StickKind) (u : Unit {0}) → demand b kind ≡ Ok u → IsTrue b
true_from_demand true kind u e = refl
true_from_demand false kind u e = absurd (cc)

-- a number that is at most another
pub le_from_test : (a b : ℤ) → IsTrue (int_le a b) → a ≤ℤ b
le_from_test a b h = grind (arith, ints)
