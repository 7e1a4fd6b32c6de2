use Rattle.std.proofs.Common.{Vec, Global, ◌≡◌, ◌++◌, ◌∷◌, [], ◌+◌, ℕ, List, map, take, get_or, subst, sym, ap, ◌∙◌}
use Rattle.std.proofs.lemmas.List.{take_more, map-append}
use Rattle.cif_text.specs.Cutting.{IsOfLines, IsCut, AreCut}
use Rattle.cif_text.proofs.AllCut.{text_cut}
use Rattle.cif_text.proofs.pictures.chunks_of.Goals as goal

pub push_cut-requires : goal.push_cut-requires
push_cut-requires c =
    let text : Vec ℕ Global = c.index-texts-k.result in
    let lines = c.requires c.loop-k.k text c.loop-k-test.true in
    subst IsOfLines
    (ap (λ (t : Vec ℕ Global). t.items) (sym c.index-texts-k.is) ∙ sym c.deref.ensures.value) lines

pub loop-k-preserved : goal.loop-k-preserved
loop-k-preserved c =
    let items : Vec ℕ Global → List ℕ = λ text. text.items in
    let texts = c.args.texts.now in
    let k = c.loop-k.k in
    let text : Vec ℕ Global = c.index-texts-k.result in
    let cut = c.in_ok-push_cut.ensures in
    let read : get_or texts k text ≡ text = sym c.index-texts-k.is in
    let more : map items (take (k + 1) texts) ≡ map items (take k texts) ++ text.items ∷ [] =
    ap (map items) (take_more texts k text c.loop-k-test.true)
    ∙ (map-append items (take k texts) (get_or texts k text ∷ [])
    ∙ ap (λ (t : Vec ℕ Global). map items (take k texts) ++ t.items ∷ []) read) in
    subst (λ ts. AreCut ts (map items c.push_cut.new.chunks.items)) (sym more)
    (text_cut (map items (take k texts)) _ text.items cut.0 _ c.loop-k.invariant
    (subst (λ t. IsCut t cut.0) c.deref.ensures.value cut.2) cut.1)
