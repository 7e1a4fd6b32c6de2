-- Links between parts, of which one becomes five in a row: what a chain joins before, a chain joins afterwards, and
-- the other way round.
use Rattle.std.proofs.Common.{◌≡◌, ℕ, zero, suc, List, [], ◌∷◌, ◌++◌, map, inl, inr, refl, sym, ap, subst, ◌∙◌, arith}
use Rattle.std.proofs.lemmas.List.Elements.{Contains-append_left, Contains-append_right, All-contains}
use Rattle.std.proofs.lemmas.List.Elements.{All-from_recursion, recursion_from_All, All-contains_itself}
use Rattle.std.specs.{Prelude.{Contains, ◌↔◌}, List.AllByRecursion}
use Rattle.list_facts.proofs.{Elements.{all_append, all_weaker, all_map}, Some.contains_map}
use Rattle.graph_search.specs.Netting.{Chain, Reaches, Attached}
use Rattle.graph_search.proofs.Chains.{reaches_none, reaches_one, reaches_trans, reaches_back}

-- ---- lists

contains_itself : {X : Type 0} (xs : List X) → AllByRecursion (Contains xs) xs
contains_itself xs = recursion_from_All (Contains xs) xs (All-contains_itself xs)

-- ---- chains

attached_back : (links : List (ℕ × ℕ)) (a b : ℕ) → Attached links a b → Attached links b a
attached_back links a b (inl h) = inr h
attached_back links a b (inr h) = inl h

chain_mapped : (Step More : ℕ → ℕ → Type 0) (f : ℕ → ℕ) → ((a b : ℕ) → Step a b → Reaches More (f a) (f b))
    → (n a b : ℕ) → Chain Step n a b → Reaches More (f a) (f b)
chain_mapped Step More f each zero a b e = reaches_none More (f a) (f b) (ap f e)
chain_mapped Step More f each (suc n) a b (c, s, ch) =
    reaches_trans More (f a) (f c) (f b) (each a c s) (chain_mapped Step More f each n c b ch)

-- where each step of a chain becomes a chain, so does the whole
reaches_mapped : (Step More : ℕ → ℕ → Type 0) (f : ℕ → ℕ) → ((a b : ℕ) → Step a b → Reaches More (f a) (f b))
    → (a b : ℕ) → Reaches Step a b → Reaches More (f a) (f b)
reaches_mapped Step More f each a b r = chain_mapped Step More f each r.0 a b r.1

-- the two parts of a link are of one net, if a function takes them there
abbrev AreJoined : List (ℕ × ℕ) → (ℕ → ℕ) → ℕ × ℕ → Type 0
AreJoined links f pair = Reaches (Attached links) (f pair.0) (f pair.1)

link_joins : (links : List (ℕ × ℕ)) (a b : ℕ) → Contains links (a, b) → Reaches (Attached links) a b
link_joins links a b h = reaches_one (Attached links) a b (inl h)

-- where that holds of each link, chains of links become chains
joined_mapped : (links more : List (ℕ × ℕ)) (f : ℕ → ℕ) → AllByRecursion (AreJoined more f) links → (a b : ℕ)
    → Reaches (Attached links) a b → Reaches (Attached more) (f a) (f b)
joined_mapped links more f each =
    reaches_mapped (Attached links) (Attached more) f by_step
  where
    by_link : (a b : ℕ) → Contains links (a, b) → Reaches (Attached more) (f a) (f b)
    by_link a b h = All-contains (AreJoined more f) links (a, b) (All-from_recursion (AreJoined more f) links each) h

    by_step : (a b : ℕ) → Attached links a b → Reaches (Attached more) (f a) (f b)
    by_step a b (inl h) = by_link a b h
    by_step a b (inr h) = reaches_back (Attached more) (attached_back more) (f b) (f a) (by_link b a h)

-- ---- one part becomes five

abbrev pub both_moved : (ℕ → ℕ) → ℕ × ℕ → ℕ × ℕ
both_moved f pair = (f pair.0, f pair.1)

-- a part, and the four that come after it
pub record Five : Type 0 where
  pub part : ℕ
  pub lower : ℕ
  pub middle : ℕ
  pub upper : ℕ
  pub last : ℕ

-- Parts get other numbers, and a part that is linked to two others becomes five in a row between these, of which the
-- first keeps its place.
pub record AreBentLinks (old new : List (ℕ × ℕ)) (moved back : ℕ → ℕ) (five : Five) : Type 0 where
  pub before : List (ℕ × ℕ)
  pub after : List (ℕ × ℕ)
  pub low : ℕ
  pub high : ℕ
  pub between : List (ℕ × ℕ)
  pub old_links : old ≡ before ++ (five.part, low) ∷ (five.part, high) ∷ after
  pub new_links : new ≡ map (both_moved moved) before
      ++ (moved five.part, moved low) ∷ (moved five.part, five.lower) ∷
      (between ++ (five.last, five.upper) ∷ (five.last, moved high) ∷ map (both_moved moved) after)
  pub to_lower : Contains between (five.middle, five.lower)
  pub to_upper : Contains between (five.middle, five.upper)
  pub only : AllByRecursion (λ pair. (back pair.0 ≡ five.part) × (back pair.1 ≡ five.part)) between
  pub inverse : (p : ℕ) → back (moved p) ≡ p
  pub lower_back : back five.lower ≡ five.part
  pub middle_back : back five.middle ≡ five.part
  pub upper_back : back five.upper ≡ five.part
  pub last_back : back five.last ≡ five.part

-- a step between parts that have other names
joins_along : (links : List (ℕ × ℕ)) (a b c d : ℕ) → a ≡ c → b ≡ d → Reaches (Attached links) c d
    → Reaches (Attached links) a b
joins_along links a b c d e g r =
    subst (λ x. Reaches (Attached links) x b) (sym e) (subst (λ x. Reaches (Attached links) c x) (sym g) r)

-- the links in the row of five
pub record IsRow (new : List (ℕ × ℕ)) (low first lower middle upper last high : ℕ) : Type 0 where
  pub first_low : Reaches (Attached new) first low
  pub first_lower : Reaches (Attached new) first lower
  pub middle_lower : Reaches (Attached new) middle lower
  pub middle_upper : Reaches (Attached new) middle upper
  pub last_upper : Reaches (Attached new) last upper
  pub last_high : Reaches (Attached new) last high

row_of : (old new : List (ℕ × ℕ)) (moved back : ℕ → ℕ) (five : Five) → (h : AreBentLinks old new moved back five)
    → IsRow new (moved h.low) (moved five.part) five.lower five.middle five.upper five.last (moved h.high)
row_of old new moved back five h =
    let prefix : List (ℕ × ℕ) = map (both_moved moved) h.before in
    let end : List (ℕ × ℕ) = (five.last, five.upper) ∷ (five.last, moved h.high) ∷ map (both_moved moved) h.after in
    let row : List (ℕ × ℕ) = (moved five.part, moved h.low) ∷ (moved five.part, five.lower) ∷ (h.between ++ end) in
    let among : (a b : ℕ) → Contains row (a, b) → Reaches (Attached new) a b =
    λ a b c.
    link_joins new a b
    (subst (λ (links : List (ℕ × ℕ)). Contains links (a, b)) (sym h.new_links)
    (Contains-append_right prefix row (a, b) c)) in
    let later : (a b : ℕ) → Contains (h.between ++ end) (a, b) → Reaches (Attached new) a b =
    λ a b c.
    among a b
    (Contains-append_right ((moved five.part, moved h.low) ∷ (moved five.part, five.lower) ∷ [])
    (h.between ++ end) (a, b) c) in
    record {
      first_low = among (moved five.part) (moved h.low) (zero, omega arith, refl);
      first_lower = among (moved five.part) five.lower (suc zero, omega arith, refl);
      middle_lower =
          later five.middle five.lower (Contains-append_left h.between end (five.middle, five.lower) h.to_lower);
      middle_upper =
          later five.middle five.upper (Contains-append_left h.between end (five.middle, five.upper) h.to_upper);
      last_upper =
          later five.last five.upper
          (Contains-append_right h.between end (five.last, five.upper) (zero, omega arith, refl));
      last_high =
          later five.last (moved h.high)
          (Contains-append_right h.between end (five.last, moved h.high) (suc zero, omega arith, refl));
    }

-- each part of the row and its ends is of the net of the first one
pub record IsOneNet (new : List (ℕ × ℕ)) (low first lower middle upper last high : ℕ) : Type 0 where
  pub to_low : Reaches (Attached new) low first
  pub to_lower : Reaches (Attached new) lower first
  pub to_middle : Reaches (Attached new) middle first
  pub to_upper : Reaches (Attached new) upper first
  pub to_last : Reaches (Attached new) last first
  pub to_high : Reaches (Attached new) high first

one_net_of_row : (new : List (ℕ × ℕ)) (low first lower middle upper last high : ℕ)
    → IsRow new low first lower middle upper last high
    → IsOneNet new low first lower middle upper last high
one_net_of_row new low first lower middle upper last high row =
    let Step : ℕ → ℕ → Type 0 = Attached new in
    let turned : (a b : ℕ) → Reaches Step a b → Reaches Step b a = reaches_back Step (attached_back new) in
    let lower_first : Reaches Step lower first = turned first lower row.first_lower in
    let middle_first : Reaches Step middle first = reaches_trans Step middle lower first row.middle_lower lower_first in
    let upper_first : Reaches Step upper first =
    reaches_trans Step upper middle first (turned middle upper row.middle_upper) middle_first in
    let last_first : Reaches Step last first = reaches_trans Step last upper first row.last_upper upper_first in
    record {
      to_low = turned first low row.first_low;
      to_lower = lower_first;
      to_middle = middle_first;
      to_upper = upper_first;
      to_last = last_first;
      to_high = reaches_trans Step high last first (turned last high row.last_high) last_first;
    }

-- the row is of one net
pub one_net : (old new : List (ℕ × ℕ)) (moved back : ℕ → ℕ) (five : Five) → (h : AreBentLinks old new moved back five)
    → IsOneNet new (moved h.low) (moved five.part) five.lower five.middle five.upper five.last (moved h.high)
one_net old new moved back five h =
    one_net_of_row new (moved h.low) (moved five.part) five.lower five.middle five.upper five.last (moved h.high)
    (row_of old new moved back five h)

-- a part of which two others are of the net is of the net of each of these
pub to_end : (links : List (ℕ × ℕ)) (f : ℕ → ℕ) (low high first end : ℕ) → Reaches (Attached links) (f low) first
    → Reaches (Attached links) (f high) first
    → Contains (low ∷ high ∷ []) end → Reaches (Attached links) first (f end)
to_end links f low high first end from_low from_high (zero, lt, e) =
    subst (λ x. Reaches (Attached links) first (f x)) e
    (reaches_back (Attached links) (attached_back links) (f low) first from_low)
to_end links f low high first end from_low from_high (suc zero, lt, e) =
    subst (λ x. Reaches (Attached links) first (f x)) e
    (reaches_back (Attached links) (attached_back links) (f high) first from_high)
to_end links f low high first end from_low from_high (suc (suc n), lt, e) = absurd (omega (arith, lt))

-- what a chain joins before, a chain joins afterwards
pub joined_after : (old new : List (ℕ × ℕ)) (moved back : ℕ → ℕ) (five : Five) → AreBentLinks old new moved back five
    → (p q : ℕ) → Reaches (Attached old) p q
    → Reaches (Attached new) (moved p) (moved q)
joined_after old new moved back five h =
    let prefix : List (ℕ × ℕ) = map (both_moved moved) h.before in
    let rest : List (ℕ × ℕ) = map (both_moved moved) h.after in
    let end : List (ℕ × ℕ) = (five.last, five.upper) ∷ (five.last, moved h.high) ∷ rest in
    let row : List (ℕ × ℕ) = (moved five.part, moved h.low) ∷ (moved five.part, five.lower) ∷ (h.between ++ end) in
    let among : (a b : ℕ) → Contains (prefix ++ row) (a, b) → Reaches (Attached new) a b =
    λ a b c. link_joins new a b (subst (λ (links : List (ℕ × ℕ)). Contains links (a, b)) (sym h.new_links) c) in
    let of_before : (pair : ℕ × ℕ) → Contains h.before pair → AreJoined new moved pair =
    λ pair c. among (moved pair.0) (moved pair.1)
    (Contains-append_left prefix row (moved pair.0, moved pair.1)
    (contains_map (both_moved moved) h.before pair c)) in
    let of_after : (pair : ℕ × ℕ) → Contains h.after pair → AreJoined new moved pair =
    λ pair c. among (moved pair.0) (moved pair.1) (Contains-append_right prefix row (moved pair.0, moved pair.1)
    (Contains-append_right ((moved five.part, moved h.low) ∷ (moved five.part, five.lower) ∷ []) (h.between ++ end)
    (moved pair.0, moved pair.1)
    (Contains-append_right h.between end (moved pair.0, moved pair.1)
    (Contains-append_right ((five.last, five.upper) ∷ (five.last, moved h.high) ∷ []) rest
    (moved pair.0, moved pair.1) (contains_map (both_moved moved) h.after pair c))))) in
    let net = one_net old new moved back five h in
    let turned : (a b : ℕ) → Reaches (Attached new) a b → Reaches (Attached new) b a =
    reaches_back (Attached new) (attached_back new) in
    joined_mapped old new moved
    (subst (λ (links : List (ℕ × ℕ)). AllByRecursion (AreJoined new moved) links) (sym h.old_links)
    (all_append (AreJoined new moved) h.before ((five.part, h.low) ∷ (five.part, h.high) ∷ h.after)
    (all_weaker (Contains h.before) (AreJoined new moved) of_before h.before (contains_itself h.before)) (
      turned (moved h.low) (moved five.part) net.to_low,
      (
        turned (moved h.high) (moved five.part) net.to_high,
        all_weaker (Contains h.after) (AreJoined new moved) of_after h.after (contains_itself h.after),
      ),
    )))

-- what a chain joins afterwards, a chain joins before
joined_back : (old new : List (ℕ × ℕ)) (moved back : ℕ → ℕ) (five : Five) → AreBentLinks old new moved back five
    → (p q : ℕ) → Reaches (Attached new) p q
    → Reaches (Attached old) (back p) (back q)
joined_back old new moved back five h =
    let row : List (ℕ × ℕ) = (five.part, h.low) ∷ (five.part, h.high) ∷ h.after in
    let among : (a b : ℕ) → Contains (h.before ++ row) (a, b) → Reaches (Attached old) a b =
    λ a b c. link_joins old a b (subst (λ (links : List (ℕ × ℕ)). Contains links (a, b)) (sym h.old_links) c) in
    let returned : (pair : ℕ × ℕ) → Contains (h.before ++ row) pair → AreJoined old back (both_moved moved pair) =
    λ pair c. joins_along old (back (moved pair.0)) (back (moved pair.1)) pair.0 pair.1 (h.inverse pair.0)
    (h.inverse pair.1) (among pair.0 pair.1 c) in
    let of_before : (pair : ℕ × ℕ) → Contains h.before pair → AreJoined old back (both_moved moved pair) =
    λ pair c. returned pair (Contains-append_left h.before row pair c) in
    let of_after : (pair : ℕ × ℕ) → Contains h.after pair → AreJoined old back (both_moved moved pair) =
    λ pair c.
    returned pair
    (Contains-append_right h.before row pair
    (Contains-append_right ((five.part, h.low) ∷ (five.part, h.high) ∷ []) h.after pair c)) in
    let of_between : (pair : ℕ × ℕ) → (back pair.0 ≡ five.part) × (back pair.1 ≡ five.part) → AreJoined old back pair =
    λ pair both. reaches_none (Attached old) (back pair.0) (back pair.1) (both.0 ∙ sym both.1) in
    let first_low : Reaches (Attached old) (back (moved five.part)) (back (moved h.low)) =
    returned (five.part, h.low) (Contains-append_right h.before row (five.part, h.low) (zero, omega arith, refl)) in
    let first_lower : Reaches (Attached old) (back (moved five.part)) (back five.lower) =
    reaches_none (Attached old) (back (moved five.part)) (back five.lower) (h.inverse five.part ∙ sym h.lower_back) in
    let last_upper : Reaches (Attached old) (back five.last) (back five.upper) =
    reaches_none (Attached old) (back five.last) (back five.upper) (h.last_back ∙ sym h.upper_back) in
    let last_high : Reaches (Attached old) (back five.last) (back (moved h.high)) =
    joins_along old (back five.last) (back (moved h.high)) five.part h.high h.last_back (h.inverse h.high)
    (among five.part h.high (Contains-append_right h.before row (five.part, h.high) (suc zero, omega arith, refl))) in
    let rest : List (ℕ × ℕ) = map (both_moved moved) h.after in
    let end : List (ℕ × ℕ) = (five.last, five.upper) ∷ (five.last, moved h.high) ∷ rest in
    joined_mapped new old back
    (subst (λ (links : List (ℕ × ℕ)). AllByRecursion (AreJoined old back) links) (sym h.new_links)
    (all_append (AreJoined old back) (map (both_moved moved) h.before)
    ((moved five.part, moved h.low) ∷ (moved five.part, five.lower) ∷ (h.between ++ end))
    (all_map (AreJoined old back) (both_moved moved) h.before
    (all_weaker (Contains h.before) (λ pair. AreJoined old back (both_moved moved pair)) of_before h.before
    (contains_itself h.before))) (
      first_low,
      (
        first_lower,
        all_append (AreJoined old back) h.between end
            (all_weaker (λ pair. (back pair.0 ≡ five.part) × (back pair.1 ≡ five.part)) (AreJoined old back)
            of_between h.between h.only) (
              last_upper,
              (
                last_high,
                all_map (AreJoined old back) (both_moved moved) h.after
                    (all_weaker (Contains h.after) (λ pair. AreJoined old back (both_moved moved pair)) of_after h.after
                    (contains_itself h.after)),
              ),
            ),
      ),
    )))

-- so the nets are the same
pub same_nets : (old new : List (ℕ × ℕ)) (moved back : ℕ → ℕ) (five : Five) → AreBentLinks old new moved back five
    → (p q : ℕ)
    → Reaches (Attached old) p q ↔ Reaches (Attached new) (moved p) (moved q)
same_nets old new moved back five h p q = (
  joined_after old new moved back five h p q,
  λ r. joins_along old p q (back (moved p)) (back (moved q)) (sym (h.inverse p)) (sym (h.inverse q))
      (joined_back old new moved back five h (moved p) (moved q) r),
)
