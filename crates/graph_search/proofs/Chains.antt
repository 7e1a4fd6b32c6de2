-- Chains of steps: they join, lead back where each step does, and keep what each step keeps.
use Rattle.std.proofs.Common.{◌≡◌, ℕ, zero, suc, refl, sym, ◌∙◌, ap, subst}
use Rattle.graph_search.specs.Netting.{Chain, Reaches}

-- a chain of no steps
pub reaches_none : (Step : ℕ → ℕ → Type 0) (a b : ℕ) → a ≡ b → Reaches Step a b
reaches_none Step a b e = (zero, e)

-- a chain of one step
pub reaches_one : (Step : ℕ → ℕ → Type 0) (a b : ℕ) → Step a b → Reaches Step a b
reaches_one Step a b s = (suc zero, (b, s, refl))

-- a step, then a chain
pub reaches_more : (Step : ℕ → ℕ → Type 0) (a b c : ℕ) → Step a b → Reaches Step b c → Reaches Step a c
reaches_more Step a b c s r = (suc r.0, (b, s, r.1))

chain_then : (Step : ℕ → ℕ → Type 0) (n a b c : ℕ) → Chain Step n a b → Reaches Step b c → Reaches Step a c
chain_then Step zero a b c e r = let P : ℕ → Type 0 = λ x. Reaches Step x c in subst P (sym e) r
chain_then Step (suc n) a b c (d, s, ch) r = reaches_more Step a d c s (chain_then Step n d b c ch r)

-- two chains, one after the other
pub reaches_trans : (Step : ℕ → ℕ → Type 0) (a b c : ℕ) → Reaches Step a b → Reaches Step b c → Reaches Step a c
reaches_trans Step a b c r s = chain_then Step r.0 a b c r.1 s

chain_weaker : (Step More : ℕ → ℕ → Type 0) → ((a b : ℕ) → Step a b → More a b) → (n a b : ℕ) → Chain Step n a b
    → Chain More n a b
chain_weaker Step More weaker zero a b e = e
chain_weaker Step More weaker (suc n) a b (c, s, ch) = (c, weaker a c s, chain_weaker Step More weaker n c b ch)

-- a chain of steps is a chain of steps of a weaker kind
pub reaches_weaker : (Step More : ℕ → ℕ → Type 0) → ((a b : ℕ) → Step a b → More a b) → (a b : ℕ) → Reaches Step a b
    → Reaches More a b
reaches_weaker Step More weaker a b r = (r.0, chain_weaker Step More weaker r.0 a b r.1)

chain_back : (Step : ℕ → ℕ → Type 0) → ((a b : ℕ) → Step a b → Step b a) → (n a b : ℕ) → Chain Step n a b
    → Reaches Step b a
chain_back Step back zero a b e = (zero, sym e)
chain_back Step back (suc n) a b (c, s, ch) =
    reaches_trans Step b c a (chain_back Step back n c b ch) (reaches_one Step c a (back a c s))

-- a chain leads back too, where each step does
pub reaches_back : (Step : ℕ → ℕ → Type 0) → ((a b : ℕ) → Step a b → Step b a) → (a b : ℕ) → Reaches Step a b
    → Reaches Step b a
reaches_back Step back a b r = chain_back Step back r.0 a b r.1

chain_same : (Step : ℕ → ℕ → Type 0) (f : ℕ → ℕ) → ((a b : ℕ) → Step a b → f a ≡ f b) → (n a b : ℕ) → Chain Step n a b
    → f a ≡ f b
chain_same Step f same zero a b e = ap f e
chain_same Step f same (suc n) a b (c, s, ch) = same a c s ∙ chain_same Step f same n c b ch

-- what each step keeps, a chain keeps
pub reaches_same : (Step : ℕ → ℕ → Type 0) (f : ℕ → ℕ) → ((a b : ℕ) → Step a b → f a ≡ f b) → (a b : ℕ)
    → Reaches Step a b → f a ≡ f b
reaches_same Step f same a b r = chain_same Step f same r.0 a b r.1
