-- What means something where calls only shift, and stand at the top alone, means the same here.
use Rattle.std.proofs.Common.{◌≡◌, Bool, true, false, cond, Result, Ok, Err, List, [], ◌∷◌, fold, refl, sym, ap, ◌∙◌}
use Rattle.cif_lex.specs.declared.command.Command.{Command, TheVariants.{Nothing, Define, Finish, Layer, Area, Call}}
use Rattle.cif_lex.specs.declared.command.Command.TheVariants.{Extension}
use Rattle.cif_read.specs.declared.{dialect.Dialect.TheVariants.{Plain, Foreign}, fault.CifKind.CifKind}
use Rattle.cif_read.specs.declared.fault.CifKind.TheVariants.{BadCommand}
use Rattle.cif_read.{specs.{Acts.{State, act}, Readers.then_act_by, Meaning.reader_of}, proofs.Walks.err_stays}
use Rattle.cif_foreign.specs.Meaning.{MeaningsStay}

not_barred : (barred : Bool) (answer : Result State CifKind) (done : State)
    → cond barred (Err BadCommand) answer ≡ Ok done → answer ≡ Ok done
not_barred true answer done e = absurd cc
not_barred false answer done e = e

act_stays : (s : State) (command : Command) (done : State) → act Plain s command ≡ Ok done
    → act Foreign s command ≡ Ok done
unfolding act
act_stays s Nothing done e = e
act_stays s (Define n above below) done e = e
act_stays s Finish done e = e
act_stays s (Layer layer) done e = e
act_stays s (Area l w x y) done e = e
act_stays s (Call n place bad turned divisor) done e = not_barred _ _ done e
act_stays s Extension done e = e

all_stay : (s : State) (commands : List Command) (done : State)
    → fold (then_act_by (reader_of Plain)) (Ok s) commands ≡ Ok done
    → fold (then_act_by (reader_of Foreign)) (Ok s) commands ≡ Ok done
all_stay s [] done e = e
all_stay s (c ∷ commands) done e = by (act Plain s c) refl (λ next f. all_stay next commands done f)
  where
    by : (answer : Result State CifKind) → act Plain s c ≡ answer
        → ((next : State) → fold (then_act_by (reader_of Plain)) (Ok next) commands ≡ Ok done
        → fold (then_act_by (reader_of Foreign)) (Ok next) commands ≡ Ok done)
        → fold (then_act_by (reader_of Foreign)) (act Foreign s c) commands ≡ Ok done
    by (Err kind) is goes_on =
        let failed : Err kind ≡ Ok done = sym (err_stays (reader_of Plain) kind commands)
        ∙ (ap (λ (a : Result State CifKind). fold (then_act_by (reader_of Plain)) a commands) (sym is) ∙ e) in
        absurd cc
    by (Ok next) is goes_on =
        ap (λ (a : Result State CifKind). fold (then_act_by (reader_of Foreign)) a commands) (act_stays s c next is)
        ∙ goes_on next (ap (λ (a : Result State CifKind). fold (then_act_by (reader_of Plain)) a commands) (sym is) ∙ e)

pub meanings_stay : MeaningsStay
meanings_stay text hierarchy is = record {
  chunks = is.chunks;
  commands = is.commands;
  spelled = is.spelled;
  gap = is.gap;
  is_gap = is.is_gap;
  after = is.after;
  is_after = is.is_after;
  whole = is.whole;
  state = is.state;
  done = all_stay _ is.commands is.state is.done;
  closed = is.closed;
  drawn = is.drawn;
}
