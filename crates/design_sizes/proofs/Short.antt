-- A name has at most 32 bytes.
use Rattle.std.proofs.{Common.{◌≡◌, ℕ, ◌≤◌, true, leb, List, [], ◌∷◌, length, arith}, lemmas.Bool.and_parts}
use Rattle.std.specs.{Char.is_ascii_alphabetic, List.{All, list_all}}
use Rattle.stick_lex.specs.Tokens.{is_name_byte}
use Rattle.stick_text.specs.{declared.design.Design.Design, Writable.{IsName, IsCell, IsWritable}}
use Rattle.list_facts.proofs.Elements.{all_weaker, all_of}

name_is_short : (name : List ℕ) → IsName name → length name ≤ 32
name_is_short [] is = absurd cc
name_is_short (b ∷ bs) is =
    let long : leb (length bs) 31 ≡ true =
    (and_parts (leb (length bs) 31) (list_all is_name_byte bs) (and_parts (is_ascii_alphabetic b) _ is).1).0 in
    omega (arith, borrow.Author.Tests.leb-true _ _ long)

pub names_are_short : (design : Design) → IsWritable design → All (λ cell. length cell.name ≤ 32) design.cells
names_are_short design is =
    all_of (λ cell. length cell.name ≤ 32) design.cells
    (all_weaker IsCell (λ cell. length cell.name ≤ 32) (λ cell is_cell. name_is_short cell.name is_cell.0)
    design.cells is.cells)
