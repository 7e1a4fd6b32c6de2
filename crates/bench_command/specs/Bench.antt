-- What `bench` writes: a line on the design that is made from a number, laid out under the technology that the
-- program ships with.
use Rattle.std.specs.Prelude.{◌≡◌, ℕ, List, [], ◌∷◌, ◌++◌, length, map, slice_index, codes, decimal}
use Rattle.std.specs.Fmt.{signed_decimal}
use Rattle.lam_geom.specs.declared.boxes.Axis.{Axis, TheVariants.{X, Y}}
use Rattle.lam_io.specs.Io.{Bytes}
use Rattle.rule_table.specs.{declared.technology.Tech.Tech, Technology.{numbers_of, shipped_numbers}}
use Rattle.sym_items.specs.{declared.items.Coords.Coords, Layouts.size_in}
use Rattle.expand.specs.declared.master.Master.{Master}
use Rattle.plan_model.specs.declared.plan.Plan.{Plan}
use Rattle.pitch_join.specs.Masters.{master_at}
use Rattle.pass_run.specs.declared.step.Step.{Step}
use Rattle.net_model.specs.declared.netlist.Netlist.{Netlist}
use Rattle.instance_laws.specs.Sticks.{IsSticksNetlist}
use Rattle.design_gen.specs.Made.{made}
use Rattle.bench_command.specs.declared.bench.Tally.{Tally}
use Rattle.design_layouts.specs.Designs.{ArePlaced, RefusesDesign, last_layouts}
use Rattle.command_files.specs.declared.status.{What.TheVariants.Extent, Status.Status}
use Rattle.design_masters.specs.Plans.{AreMastersOf}
use Rattle.command_files.specs.declared.status.Status.TheVariants as statuses

-- it has the numbers that the program ships with
abbrev pub IsShipped : Tech → Type 0
IsShipped tech = numbers_of tech ≡ shipped_numbers

-- a pass on x, and then one on y
abbrev pub x_then_y : List Axis
x_then_y = X ∷ Y ∷ []

-- ---- the line

-- the kept pairs of the first master in the pass with this number, from 0 on
abbrev pub kept_in : List Step → ℕ → ℕ
kept_in steps pass = slice_index (map (λ (step : Step). slice_index step.kept 0) steps) pass

-- What is told of one master that is laid out by two passes: its items, the kept pairs of each pass and its size; and
-- the nets and devices of its sticks.
abbrev pub tally_of : List Master → List Step → List Coords → Netlist → Tally
tally_of masters steps layouts list = record {
  items = length (master_at masters 0).items.list;
  kept_x = kept_in steps 0;
  kept_y = kept_in steps 1;
  width = size_in X layouts 0;
  height = size_in Y layouts 0;
  nets = list.nets;
  devices = length list.devices;
}

-- `bench N items I kept KX KY size W H nets K devices D`, and the end of the line
abbrev pub head_words : ℕ → Tally → Bytes
head_words n tally = codes "bench " ++ (decimal n ++ (codes " items " ++ decimal tally.items))

abbrev pub kept_words : Tally → Bytes
kept_words tally = codes " kept " ++ (decimal tally.kept_x ++ (codes " " ++ decimal tally.kept_y))

abbrev pub size_words : Tally → Bytes
size_words tally = codes " size " ++ (signed_decimal tally.width ++ (codes " " ++ signed_decimal tally.height))

abbrev pub net_words : Tally → Bytes
net_words tally = codes " nets " ++ (decimal tally.nets ++ (codes " devices " ++ decimal tally.devices))

abbrev pub bench_line : ℕ → Tally → Bytes
bench_line n tally = head_words n tally ++ (kept_words tally ++ (size_words tally ++ (net_words tally ++ (10 ∷ []))))

-- ---- the answer

-- The line on masters that are laid out by a pass on each axis.
pub record IsLaidLine (n : ℕ) (tech : Tech) (plan : Plan) (masters : List Master) (output : Bytes) : Type 0 where
  pub steps : List Step
  pub laid_out : ArePlaced tech plan masters x_then_y steps
  pub list : Netlist
  pub is_netlist : IsSticksNetlist tech plan masters (last_layouts tech masters steps) list
  pub written : output ≡ bench_line n (tally_of masters steps (last_layouts tech masters steps) list)

-- The output of `bench N`: the line on the one master of the design that is made from N, laid out by a pass on each
-- axis under the shipped technology.
pub record IsBenched (n : ℕ) (output : Bytes) : Type 0 where
  pub technology : Tech
  pub shipped : IsShipped technology
  pub plan : Plan
  pub masters : List Master
  pub are_masters : AreMastersOf technology (made n) plan masters
  pub alone : length masters ≡ 1
  pub line : IsLaidLine n technology plan masters output

-- the design that is made from N is refused, under the shipped technology
pub record IsMadeRefused (n : ℕ) (status : Status) (message : Bytes) : Type 0 where
  pub technology : Tech
  pub shipped : IsShipped technology
  pub why : RefusesDesign technology x_then_y (made n) status message

-- Why `bench N` is refused: as its design is, which has no fault of names or sizes, and is not too large when it is
-- laid out.
abbrev pub RefusesBench : ℕ → Status → Bytes → Type 0
RefusesBench n statuses.OutOfMemory message = Unit {0}
RefusesBench n (statuses.BadSticks fault) message = ⊥
RefusesBench n (statuses.TooLarge Extent) message = ⊥
RefusesBench n status message = IsMadeRefused n status message
