use Rattle.std.specs.Io.KnownBytes.{IsAtEnd}
use Rattle.std.specs.Prelude.{All}
use Rattle.std.proofs.Common.{◌≡◌, ◌∙◌, sym, subst}
use Rattle.std.proofs.lemmas.Result.{IfOk-weaker}
use Rattle.heesch_grid.specs.Polyform.{IsCanonicalListOf}
use Rattle.heesch_given.specs.Given.{DecideNothing, GivesFault, GivesShapes}
use Rattle.heesch_reader.specs.Taking.{input_max}
use Rattle.heesch_app.specs.declared.status.Status.TheVariants.{BadInput, Done}
use Rattle.heesch_app.specs.GivenTexts.{IsBegunTextOf, IsTextOf}
use Rattle.heesch_app.specs.Inputs.{ConsumesSome}
use Rattle.heesch_app.proofs.CatalogueEndings.{GivenBegun, GivenWhole, listed_ends, told_ends}
use Rattle.heesch_app.proofs.Consumed.{further_consumes}
use Rattle.heesch_app.proofs.Endings.{failure_ends, memory_ends, put_done}
use Rattle.heesch_app.proofs.GivenLists.{given_are_canonical}
use Rattle.heesch_app.proofs.given.write_given.Given as given
use Rattle.heesch_app.proofs.given.write_given.Goals as goal
use Rattle.heesch_app.proofs.given.write_given.Goals.{After-shapes_given}

pub write-written-requires-clause-canonical : goal.write-written-requires-clause-canonical
write-written-requires-clause-canonical g c κs within =
    let geometry = g.G.Grid.geometry in
    let laws = (g.met.G.Grid g.world.𝓛 g.world.𝓜 g.world.𝓡 ((λ s x. x), (λ x. x), (λ x. x), λ x. x)).laws in
    let given = c.in-Ok.ensures.ok.2 in
    subst (λ xs. All (λ s. IsCanonicalListOf geometry s s) xs) (sym c.deref.ensures.value) (given_are_canonical geometry laws given.given c.in-Ok.shapes.items given.canonical)

-- what was read of the list text
consumed : (g : given.Over) (c : After-shapes_given g) → ConsumesSome (g.R.Source.left c.args.source.now) (g.R.Source.left c.shapes_given.new.source)
consumed g c = further_consumes (DecideNothing input_max g.G.Grid.geometry) (g.R.Source.left c.args.source.now) (g.R.Source.left c.shapes_given.new.source) c.shapes_given.ensures.no_further

pub returns-in-Ok-clause-given : goal.returns-in-Ok-clause-given
returns-in-Ok-clause-given g c =
    let held = g.W.Sink.held in
    let left = g.R.Source.left c.args.source.now in
    let geometry = g.G.Grid.geometry in
    let written = c.write-written in
    record {
      ends = listed_ends geometry (IsTextOf geometry c.args.text.now) (IsBegunTextOf geometry c.args.text.now) left (held c.args.sink.now) (held written.new.sink) c.deref.result.now written.result c.of_writing.result
          (subst (λ ss. GivesShapes input_max geometry left ss) (sym c.deref.ensures.value) c.in-Ok.ensures.ok) written.ensures.ok written.ensures.err c.of_writing.ensures;
      ended = λ done. c.in-Ok.ensures.ended;
      consumed = consumed g (goal.at.returns-in-Ok-clause-given g c).After-shapes_given;
    }

pub returns-in-Err-Fault-clause-given : goal.returns-in-Err-Fault-clause-given
returns-in-Err-Fault-clause-given g c =
    let left = g.R.Source.left in
    let geometry = g.G.Grid.geometry in
    let stop = c.in-Err-Fault in
    let put = c.put_reply in
    record {
      ends = told_ends geometry (IsTextOf geometry c.args.text.now) (IsBegunTextOf geometry c.args.text.now) (left c.args.source.now) stop.line stop.fault _ g.W.Sink.held c.args.sink.now put.new.sink _ _ c.bad_input.result put.result
          (subst (λ s. GivesFault input_max geometry (left c.args.source.now) s) stop.field-0-is stop.ensures.stop) c.bad_input.ensures.status c.bad_input.ensures.text
          put.ensures.ok put.ensures.err;
      ended = put_done (IsAtEnd (left c.shapes_given.new.source)) _ g.W.Sink.held c.args.sink.now put.new.sink _ _ c.bad_input.result put.result
          (IfOk-weaker c.bad_input.result _ (λ r. r.status ≡ Done → IsAtEnd (left c.shapes_given.new.source)) (λ r bad done. absurd (let no : BadInput ≡ Done = sym bad ∙ done in cc)) c.bad_input.ensures.status)
          put.ensures.ok put.ensures.err;
      consumed = consumed g (goal.at.returns-in-Err-Fault-clause-given g c).After-shapes_given;
    }

pub returns-in-Err-Failed-clause-given : goal.returns-in-Err-Failed-clause-given
returns-in-Err-Failed-clause-given g c =
    let old = g.W.Sink.held c.args.sink.now in
    let left = g.R.Source.left c.args.source.now in
    let geometry = g.G.Grid.geometry in
    record {
      ends = failure_ends (GivenWhole geometry (IsTextOf geometry c.args.text.now) left) (GivenBegun geometry (IsBegunTextOf geometry c.args.text.now) left) old old;
      ended = λ done. absurd cc;
      consumed = consumed g (goal.at.returns-in-Err-Failed-clause-given g c).After-shapes_given;
    }

pub returns-in-Err-NoMemory-clause-given : goal.returns-in-Err-NoMemory-clause-given
returns-in-Err-NoMemory-clause-given g c =
    let left = g.R.Source.left c.args.source.now in
    let geometry = g.G.Grid.geometry in
    record {
      ends = memory_ends (GivenWhole geometry (IsTextOf geometry c.args.text.now) left) (GivenBegun geometry (IsBegunTextOf geometry c.args.text.now) left) (g.W.Sink.held c.args.sink.now);
      ended = λ done. absurd cc;
      consumed = consumed g (goal.at.returns-in-Err-NoMemory-clause-given g c).After-shapes_given;
    }
