-- The text of a picture means the picture.
use Rattle.std.proofs.Common.{◌≡◌, ℕ, ℤ, Ok, List, [], ◌∷◌, ◌++◌, map, refl, ap, ◌∙◌, append_assoc, codes}
use Rattle.mask_out.specs.declared.drawing.Call as drawn
use Rattle.mask_out.specs.Pictures.{Drawing}
use Rattle.cif_text.specs.Calls.{cif_of}
use Rattle.cif_read.specs.{Readers.joined, Meaning.{Means, acts}}
use Rattle.written_masks.specs.TextMeanings.{IsWritablePicture, step_of_call, hierarchy_of_picture}
use Rattle.written_masks.proofs.{CommandLines.{no_gap, one_blank}, Commands.{symbols_commands, call_command}}
use Rattle.written_masks.proofs.{Commands.picture_commands, TextLines.cut, PictureLines.picture_lines}
use Rattle.written_masks.proofs.{DefinitionActs.{goes_on, outside}, SymbolActs.{all_symbols, symbols_act}}
use Rattle.written_masks.proofs.CallActs.{calls_act}

picture_acts : (unit : ℤ) (drawings : List Drawing) (calls : List drawn.Call)
    (is : IsWritablePicture unit drawings calls)
    → acts (picture_commands unit is.is_unit.half drawings calls)
    ≡ Ok (outside (all_symbols unit drawings) (map (step_of_call unit) calls))
picture_acts unit drawings calls is =
    goes_on (outside [] []) (outside (all_symbols unit drawings) []) (symbols_commands is.is_unit.half drawings)
    (map (call_command unit) calls) _
    (symbols_act unit is.is_unit drawings is.few is.drawn) (calls_act unit drawings calls is.few is.called)

pub picture_meant : (unit : ℤ) (drawings : List Drawing) (calls : List drawn.Call)
    → IsWritablePicture unit drawings calls
    → Means (cif_of unit drawings calls) (hierarchy_of_picture unit drawings calls)
picture_meant unit drawings calls is =
    let half = is.is_unit.half in
    let text = picture_lines unit drawings calls is in
    let found = cut (picture_commands unit half drawings calls) [] text.lines no_gap text.are_lines in
    record {
      chunks = found.chunks;
      commands = picture_commands unit half drawings calls;
      spelled = found.spelled;
      gap = found.gap;
      is_gap = found.is_gap;
      after = 10 ∷ [];
      is_after = one_blank 10 refl;
      whole = text.whole
          ∙ (ap (λ (t : List ℕ). t ++ codes "E\n") found.whole
          ∙ append_assoc (joined found.chunks) found.gap (codes "E\n"));
      state = outside (all_symbols unit drawings) (map (step_of_call unit) calls);
      done = picture_acts unit drawings calls is;
      closed = refl;
      drawn = refl;
    }
