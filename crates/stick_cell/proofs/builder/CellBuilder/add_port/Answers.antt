use Rattle.std.proofs.{Common.{◌≡◌, ℕ, [], ◌∷◌, ◌++◌, false, length, refl, sym, ap, ◌∙◌, arith}, lemmas.List.map-append}
use Rattle.std.{proofs.lemmas.List.length-map, specs.Prelude.pos}
use Rattle.checked_cells.specs.{declared.names.Binding.Binding, CheckedCell.{Plug, with_port}, Counts.capped}
use Rattle.checked_cells.specs.NameEntries.{entries_of}
use Rattle.checked_cells.proofs.{Counting.{weight-with_port, boxes-with_port}, Stepping.steps-push}
use Rattle.stick_cell.{specs.CellBuilder.port_so_far, proofs.LineSteps.{names-push, below-push}}
use Rattle.checked_cells.specs.declared.names.Binding.TheVariants as bindings
use Rattle.stick_cell.proofs.builder.CellBuilder.add_port.Goals as goal

pub returns-clause-grows : goal.returns-clause-grows
returns-clause-grows c = λ cells known built.
    let name = c.args.name.now in
    let table = c.args.self.now.table in
    let plug : Plug =
    record {
      port = record {
        name = name;
        side = c.args.side;
        layer = c.args.layer;
        place = c.args.place;
        wire = 0;
      };
      width = pos 0;
      wired = false;
    } in
    let binding : ℕ → Binding =
    λ number.
    bindings.Port (record { number = number; side = c.args.side; layer = c.args.layer; place = c.args.place }) in
    let number_is : c.in-Ok.number ≡ length known.plugs =
    omega (
      arith,
      c.in-Ok.ensures.1,
      c.len.ensures,
      c.args.self.now.wired.ok.0,
      ap length built.wired,
      length-map
          known.plugs (λ plug. plug.wired),
    ) in
    record {
      tells = record {
        name = built.tells.name;
        names = names-push (entries_of table.names) (entries_of c.add.new.self) known.names name
            (binding c.in-Ok.number) (binding (length known.plugs)) c.in_ok-add.ensures built.tells.names
            (ap binding number_is);
        nodes = built.tells.nodes;
        wires = built.tells.wires;
        weight = built.tells.weight
            ∙ ap capped (sym (weight-with_port known name c.args.side c.args.layer c.args.place));
        boxes = built.tells.boxes ∙ ap capped (sym (boxes-with_port known name c.args.side c.args.layer c.args.place));
        most_col = built.tells.most_col;
        most_row = built.tells.most_row;
        depth = built.tells.depth;
      };
      ports = c.in_ok-push-2.ensures.items ∙ ap (λ ports. ports ++ port_so_far plug ∷ []) built.ports
          ∙ sym (map-append port_so_far known.plugs (plug ∷ []));
      wired = c.in_ok-push-3.ensures.items ∙ ap (λ wired. wired ++ false ∷ []) built.wired
          ∙ sym (map-append (λ (plug : Plug). plug.wired) known.plugs (plug ∷ []));
      steps = steps-push cells known (with_port known name c.args.side c.args.layer c.args.place) table.steps.items _
          _ built.steps c.in_ok-push.ensures.items tt refl
          (omega (arith, weight-with_port known name c.args.side c.args.layer c.args.place)) (λ light. refl);
      below = below-push (length known.wires) known.plugs plug built.below (omega arith);
    }
