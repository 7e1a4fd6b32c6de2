-- What `nets` tells of a design is what `extract` tells of its masks.
use Rattle.std.proofs.Common.{◌≡◌, ◌^◌, ◌≤◌, Some, Ok, List, length, inl, inr, refl, sym, ◌∙◌, subst}
use Rattle.lam_geom.specs.declared.boxes.{Axis.Axis, MaskBox.MaskBox}
use Rattle.lam_io.specs.Io.{Bytes, Files}
use Rattle.rule_table.specs.declared.technology.Tech.{Tech}
use Rattle.sym_items.specs.declared.items.Coords.{Coords}
use Rattle.stick_text.specs.{declared.design.Design.Design as Sticks, Writable.IsWritable}
use Rattle.stick_text.proofs.Shapes.{read_is_writable}
use Rattle.expand.specs.declared.master.Master.{Master}
use Rattle.plan_model.specs.declared.plan.Plan.{Plan}
use Rattle.pass_run.specs.declared.step.Step.{Step}
use Rattle.crossing_model.specs.Crossings.{AreProper}
use Rattle.cif_foreign.specs.Meaning.{ForeignReadingsAreDetermined, Means}
use Rattle.cif_answers.{specs.Texts.{HasBoxes, HasNetlist}, proofs.Determined.{boxes_same, proper_not_refused}}
use Rattle.cif_answers.specs.declared.fault.TextFault.TheVariants as fault
use Rattle.instance_laws.proofs.MeetingBoxes.{transistors_have}
use Rattle.net_model.specs.Extraction.{IsExtracted}
use Rattle.design_nets.{specs.{NamedLaws.TellsNetlist, NamedNets.IsNamedText}, proofs.NamesTold.names_told}
use Rattle.design_masters.{specs.Plans.AreMastersOf, proofs.{Determined.one_masters, Planned.masters_planned}}
use Rattle.run_words.specs.Words.{extract}
use Rattle.compact_run.specs.{declared.cif.CifJob.TheVariants.Extract, Answers.{IsFree, NoBoxes, NoOutput}}
use Rattle.compact_run.specs.{Answers.NothingRefuses, NetLaws.{TellAlike, NetsTellOfMasks}}
use Rattle.compact_run.proofs.OneOutput.{boxed_too}
use Rattle.command_files.specs.{declared.status.Status.Status, Readers.{cif_file, design_file, technology_file}}
use Rattle.command_files.specs.{Limits.most_cif_bytes, StepLists.{Says, RefusesFile}}
use Rattle.command_files.proofs.{Once.{read_not_refused, says_once}, Readers.{cif_once, design_once, technology_once}}
use Rattle.design_commands.specs.Nets.{names_of_grids}
use Rattle.design_layouts.{specs.Designs.{ArePlaced, last_layouts}, proofs.Layouts.of_plan}
use Rattle.command_files.specs.declared.status.Status.TheVariants as statuses

-- ---- no refusal

-- a technology that is on the shelf is not refused, but for what may come whatever it is
technology_free : (files : Files) (name : Bytes) (t : Tech) (status : Status) (message : Bytes)
    → Says technology_file files name t → RefusesFile technology_file name files status message → IsFree status
technology_free files name t statuses.OutOfMemory message is why = tt
technology_free files name t (statuses.ReadFault f) message is why = tt
technology_free files name t (statuses.WriteFault side) message is why = absurd why.read
technology_free files name t other message is why =
    absurd (read_not_refused technology_file technology_once files name t other message is why tt)

-- nor is a CIF text
cif_free : (files : Files) (name text : Bytes) (status : Status) (message : Bytes) → Says cif_file files name text
    → RefusesFile cif_file name files status message → IsFree status
cif_free files name text statuses.OutOfMemory message is why = tt
cif_free files name text (statuses.ReadFault f) message is why = tt
cif_free files name text (statuses.WriteFault side) message is why = absurd why.read
cif_free files name text other message is why =
    absurd (read_not_refused cif_file cif_once files name text other message is why tt)

-- a text whose boxes cross properly has a netlist
proper_too : ForeignReadingsAreDetermined → (tech : Tech) (text : Bytes) → length text ≤ 2 ^ 26
    → (boxes : List MaskBox) → HasBoxes text boxes → AreProper tech boxes
    → (status : Status) (message : Bytes) → NoOutput Extract tech text status message → ⊥
proper_too readings tech text short boxes has proper (statuses.NotProper a b) message why =
    proper_not_refused tech text short readings boxes has proper (fault.NotProper a b) (λ e. cc) why.0
proper_too readings tech text short boxes has proper other message why = why

-- ---- the same netlist

-- what a design's names tell, of the masters that are laid out
named_over : (tech : Tech) (design : Sticks) (plan other : Plan) (masters others : List Master) (named : Bytes)
    → AreMastersOf tech design plan masters → AreMastersOf tech design other others
    → IsNamedText (names_of_grids design.grids) other others named
    → IsNamedText (names_of_grids design.grids) plan masters named
named_over tech design plan other masters others named are also n =
    let same = one_masters tech design plan other masters others are also in
    let N : Plan → List Master → Type 0 = λ p ms. IsNamedText (names_of_grids design.grids) p ms named in
    let in_masters = subst (λ ms. N other ms) (sym same.1) n in
    subst (λ p. N p masters) (sym same.0) in_masters

-- what is extracted from placed masters is told by their names
told_alike : ForeignReadingsAreDetermined
    → (tech : Tech) (design : Sticks) (axes : List Axis) (output named : Bytes) (plan : Plan) (masters : List Master)
    (steps : List Step) → IsWritable design
    → AreMastersOf tech design plan masters → (placed : ArePlaced tech plan masters axes steps)
    → IsNamedText (names_of_grids design.grids) plan masters named
    → length output ≤ 2 ^ 26 → HasBoxes output placed.nets.boxes → (extracted : Bytes)
    → HasNetlist tech output extracted → TellAlike extracted named
told_alike readings tech design axes output named plan masters steps writable are placed names short has extracted h =
    let layouts : List Coords = last_layouts tech masters steps in
    let boxes = placed.nets.boxes in
    let same : h.boxes ≡ boxes = boxes_same output (record { short = short; readings = readings }) h.boxes boxes
    h.are_boxes has in
    let list =
    (placed.nets.nets.equal h.list).0
    (subst (λ (bs : List MaskBox). IsExtracted tech bs h.list) same h.extracted) in
    let planned = of_plan (masters_planned tech design plan masters writable are) in
    let told = names_told tech plan masters planned layouts h.list list (names_of_grids design.grids) named names
    boxes placed.nets.shapes (transistors_have tech plan masters layouts planned) in
    record {
      boxes = h.boxes;
      list = h.list;
      written = h.written;
      told = subst (λ (bs : List MaskBox). TellsNetlist bs h.list named) (sym same) told;
    }

-- ---- the law

nothing_refuses : ForeignReadingsAreDetermined
    → (t : Tech) (boxes : List MaskBox) (others : Files) (cif rules output : Bytes)
    → Says technology_file others rules t → Says cif_file others cif output
    → HasBoxes output boxes → length output ≤ 2 ^ 26 → AreProper t boxes
    → NothingRefuses (Some (extract cif rules)) others
nothing_refuses readings t boxes others cif rules output technology text has short proper status message (inl none) =
    subst IsFree (sym none) tt
nothing_refuses readings t boxes others cif rules output technology text has short proper status message
    (inr (inl bad)) = technology_free others rules t status message technology bad
nothing_refuses readings t boxes others cif rules output technology text has short proper status message
    (inr (inr (x, is, inl bad))) = cif_free others cif output status message text bad
nothing_refuses readings t boxes others cif rules output technology text has short proper status message
    (inr (inr (x, is, inr (y, are, inl bad)))) =
    let one_text = says_once cif_file cif_once others cif y output are text in
    absurd (boxed_too readings output short status message boxes has
    (subst (λ w. NoBoxes w status message) one_text bad.1))
nothing_refuses readings t boxes others cif rules output technology text has short proper status message
    (inr (inr (x, is, inr (y, are, inr (bs, have, inl bad))))) =
    let one_tech = says_once technology_file technology_once others rules x t is technology in
    let one_text = says_once cif_file cif_once others cif y output are text in
    let R : Tech → Bytes → Type 0 = λ z w. NoOutput Extract z w status message in
    absurd (proper_too readings t output short boxes has proper status message
    (subst (λ z. R z output) one_tech (subst (λ w. R x w) one_text bad.1)))
nothing_refuses readings t boxes others cif rules output technology text has short proper status message
    (inr (inr (x, is, inr (y, are, inr (bs, have, inr (made, holds, end)))))) = absurd end

pub nets_tell_of_masks : ForeignReadingsAreDetermined → NetsTellOfMasks
nets_tell_of_masks readings design tech axes files output report named
    (t, is, (d, are, (plan, has, (masters, message, (v, clean, (steps, made, (w, placed, c)))))))
    (u, also, (e, read, (other, have, (those, their, n)))) others cif rules there same =
    let one_tech : u ≡ t = says_once technology_file technology_once files tech u t also is in
    let one_design : e ≡ d = says_once design_file design_once files design e d read are in
    let N : Tech → Sticks → Type 0 = λ x y. AreMastersOf x y other those
    × IsNamedText (names_of_grids y.grids) other those named in
    let theirs : N t d = subst (λ x. N x d) one_tech (subst (λ y. N u y) one_design (their, n.0)) in
    let names = named_over t d plan other masters those named message theirs.0 theirs.1 in
    let nets = placed.nets in
    let S : Bytes → Type 0 = λ text. length text ≤ most_cif_bytes in
    let short : S output = subst S (sym c.0) placed.short in
    let boxes : HasBoxes output nets.boxes =
    record {
      hierarchy = nets.hierarchy;
      means = subst (λ text. Means text nets.hierarchy) (sym c.0) nets.means;
      drawn = nets.drawn;
      few = placed.few;
    } in
    let technology : Says technology_file others rules t =
    record {
      text = is.text;
      file = record { there = same ∙ is.file.there; short = is.file.short };
      read = is.read;
    } in
    let text : Says cif_file others cif output =
    record { text = output; file = record { there = there; short = short }; read = refl } in
    let writable = read_is_writable are.text (Ok d) are.read in (
      nothing_refuses readings t nets.boxes others cif rules output technology text boxes short nets.nets.proper,
      λ extracted told_so.
          (let to_tech = says_once technology_file technology_once others rules told_so.0 t told_so.1 technology in
          let to_text = says_once cif_file cif_once others cif told_so.2.0 output told_so.2.1 text in
          let H : Tech → Bytes → Type 0 = λ z x. HasNetlist z x extracted in
          let made = told_so.2.2.2 in
          let told : H told_so.0 told_so.2.0 = subst (λ o. HasNetlist told_so.0 told_so.2.0 o) (sym made.2.0) made.1 in
          let alike = subst (λ z. H z output) to_tech (subst (λ x. H told_so.0 x) to_text told) in
          told_alike readings t d axes output named plan masters steps writable message placed names short boxes
          extracted alike),
    )
