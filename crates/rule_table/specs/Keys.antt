-- The keys of a technology, its numbers, each with the place of its key, and the tests of single numbers.
use Rattle.std.specs.Prelude.{ℕ, ℤ, pos, Bool, not, ◌||◌, if◌then◌else◌, int_lt, int_rem, List, [], ◌∷◌, ◌++◌, codes}
use Rattle.std.specs.{Prelude.{Option, option_map, find, map, slice_index_or}, Option.option_or, Ordering.int_eq}
use Rattle.rule_table.specs.declared.keys.Numbers.{Numbers}

-- a key of a technology's text: the table that it stands in, which has no name at the top, and its name there
abbrev pub Key : Type 0
Key = List ℕ × List ℕ

abbrev pub keys_in : List ℕ → List (List ℕ) → List Key
keys_in table names = map (λ name. (table, name)) names

-- the keys of every version, by their numbers
abbrev pub common_keys : List Key
common_keys =
    keys_in [] (codes "version" ∷ codes "unit" ∷ [])
    ++ keys_in (codes "width") (codes "diffusion" ∷ codes "poly" ∷ codes "metal" ∷ [])
    ++ keys_in (codes "spacing") (codes "diffusion" ∷ codes "poly" ∷ codes "metal" ∷ codes "poly_diffusion"
    ∷ codes "cut" ∷ codes "cut_channel" ∷ codes "implant_channel" ∷ [])
    ++ keys_in (codes "extension") (codes "poly" ∷ codes "diffusion" ∷ codes "implant" ∷ [])
    ++ keys_in (codes "cut") (codes "size" ∷ codes "enclosure" ∷ [])

-- those of buried contacts follow
abbrev pub keys : List Key
keys = common_keys ++ ((codes "extension", codes "buried") ∷ (codes "spacing", codes "buried_channel") ∷ [])

unfoldable pub key_parts : ℕ → Key
key_parts number = slice_index_or keys number ([], [])

-- the table's name, a dot and the name, and the name alone at the top
abbrev pub dotted : Key → List ℕ
dotted ([], name) = name
dotted (table, name) = table ++ (46 ∷ name)

abbrev pub dotted_key : ℕ → List ℕ
dotted_key number = dotted (key_parts number)

-- the technology has buried contacts: its version is 2
unfoldable pub has_buried : Numbers → Bool
has_buried n = int_eq n.version (pos 2)

-- those of every version, in the order of the keys
abbrev pub common_numbers : Numbers → List (ℕ × ℤ)
common_numbers n =
    (0, n.version) ∷ (1, n.unit)
    ∷ (2, n.width_diffusion) ∷ (3, n.width_poly) ∷ (4, n.width_metal)
    ∷ (5, n.spacing_diffusion) ∷ (6, n.spacing_poly) ∷ (7, n.spacing_metal) ∷ (8, n.spacing_poly_diffusion)
    ∷ (9, n.spacing_cut) ∷ (10, n.spacing_cut_channel) ∷ (11, n.spacing_implant_channel)
    ∷ (12, n.extension_poly) ∷ (13, n.extension_diffusion) ∷ (14, n.extension_implant)
    ∷ (15, n.cut_size) ∷ (16, n.cut_enclosure) ∷ []

-- those of buried contacts
abbrev pub buried_numbers : Numbers → List (ℕ × ℤ)
buried_numbers n = (17, n.extension_buried) ∷ (18, n.spacing_buried_channel) ∷ []

-- the widths and the size of a cut
abbrev pub sizes : Numbers → List (ℕ × ℤ)
sizes n = (2, n.width_diffusion) ∷ (3, n.width_poly) ∷ (4, n.width_metal) ∷ (15, n.cut_size) ∷ []

-- the spacings, in version 2 also that of buried contacts
abbrev pub spacings : Numbers → List (ℕ × ℤ)
spacings n =
    (5, n.spacing_diffusion) ∷ (6, n.spacing_poly) ∷ (7, n.spacing_metal) ∷ (8, n.spacing_poly_diffusion)
    ∷ (9, n.spacing_cut) ∷ (10, n.spacing_cut_channel) ∷ (11, n.spacing_implant_channel)
    ∷ (if has_buried n then (18, n.spacing_buried_channel) ∷ [] else [])

-- the first key whose number fails the test
unfoldable pub first_key : (ℤ → Bool) → List (ℕ × ℤ) → Option ℕ
first_key fails numbers = option_map (λ k. k.0) (find (λ k. fails k.1) numbers)

-- no number from 0 to the most
abbrev pub is_outside : ℤ → ℤ → Bool
is_outside most z = int_lt z (pos 0) || int_lt most z

-- the most that a number of buried contacts may be: 0 where there are none
abbrev pub most_of_buried : Numbers → ℤ
most_of_buried n = if has_buried n then pos 4096 else pos 0

-- the first key whose number is below 0 or above the most that it may be
unfoldable pub first_outside : Numbers → Option ℕ
first_outside n = option_or (first_key (is_outside (pos 4096)) (common_numbers n))
    (first_key (is_outside (most_of_buried n)) (buried_numbers n))

abbrev pub is_zero : ℤ → Bool
is_zero z = int_eq z (pos 0)

-- no multiple of 2
abbrev pub is_odd : ℤ → Bool
is_odd z = not (int_eq (int_rem z (pos 2)) (pos 0))

-- odd or 0
unfoldable pub is_no_size : ℤ → Bool
is_no_size z = is_odd z || is_zero z
