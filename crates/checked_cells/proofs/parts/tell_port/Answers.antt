use Rattle.std.proofs.Common.{◌≡◌, ℕ, ◌<◌, ℤ, true, List, length, map, get_or, set, sym, ap, ◌∙◌, arith}
use Rattle.std.proofs.lemmas.List.{map-set, get_or-map, length-map}
use Rattle.cell_model.specs.declared.cell.{Port.Port, WireEnd.WireEnd}
use Rattle.cell_model.specs.declared.cell.WireEnd.TheVariants as ends
use Rattle.checked_cells.specs.CheckedCell.{Plug, no_plug, plug_at, plugged}
use Rattle.checked_cells.proofs.parts.tell_port.Goals as goal

-- the port that is written is that of the plug
told : (ports : List Port) (plugs : List Plug) (number k : ℕ) (width : ℤ) (port : Port) → k < length ports
    → port ≡ get_or ports k port → ports ≡ map (λ plug. plug.port) plugs
    → set ports k (record port { wire = number }) ≡ map (λ plug. plug.port) (plugged number width plugs (ends.Port k))
told ports plugs number k width port lt read e =
    let within : k < length plugs = omega (arith, ap length e, length-map plugs (λ plug. plug.port)) in
    let here : port ≡ (plug_at plugs k).port = read ∙ ap (λ l. get_or l k port) e
    ∙ get_or-map (λ plug. plug.port) plugs k no_plug port within in
    let after : Plug = record { port = record (plug_at plugs k).port { wire = number }; width = width; wired = true } in
    ap (λ l. set l k (record port { wire = number })) e
    ∙ ap (λ (p : Port). set (map (λ plug. plug.port) plugs) k (record p { wire = number })) here
    ∙ sym (map-set (λ (plug : Plug). plug.port) plugs k after)

pub returns-in-Some : goal.returns-in-Some
returns-in-Some c plugs width e =
    told c.args.ports.now.items plugs c.args.number c.in-Port.k width c.in-Some.port.now c.in-Some.ensures.item.3.0
    c.in-Some.ensures.item.1 e
    ∙ ap (λ (end : WireEnd). map (λ plug. plug.port) (plugged c.args.number width plugs end)) (sym c.in-Port.is)
