use Rattle.std.specs.Prelude.{map, string_bytes}
use Rattle.std.proofs.Common.{◌≡◌, refl, subst}
use Rattle.heesch_app.specs.declared.status.Status.TheVariants.{Done, Invalid, BadInput}
use Rattle.heesch_app.specs.declared.status.Status.{Status}
use Rattle.heesch_words.proofs.Forms.{one_request}
use Rattle.heesch_app.specs.Outputs.{HasOneText, IsAnswer, ReadsToEnd, Writes}
use Rattle.heesch_app.proofs.Endings.{IsWhole, fault_prefix, memory_prefix, not_usage, run_completes, run_writes}
use Rattle.heesch_app.proofs.Headline.{catalogued}
use Rattle.heesch_app.proofs.OuterOutputs.{writes_outers}
use Rattle.heesch_app.proofs.Ranges.{asked_in_range}
use Rattle.heesch_app.proofs.ToldExchanges.{writes_formula, writes_answer}
use Rattle.heesch_app.proofs.ValidOuters.{valid_outers_are_done, writes_valid_outers}
use Rattle.heesch_app.proofs.ValidOutputs.{valid_is_done, writes_valid, joins_valid, tallied_is_done, bad_is_long}
use Rattle.heesch_app.proofs.program.run.Goals as goal

pub answer-requires-after_bounds : goal.answer-requires-after_bounds
answer-requires-after_bounds g c κs within = asked_in_range (map string_bytes c.args.words.now) c.in-Ok.request c.in-Ok.ensures.ok

pub returns-in-Err-clause-refused : goal.returns-in-Err-clause-refused
returns-in-Err-clause-refused g c = λ _ accepted. c.in-Err.ensures.usage accepted.0 accepted.1

pub returns-in-Err-clause-complete : goal.returns-in-Err-clause-complete
returns-in-Err-clause-complete g c = λ accepted. absurd (c.in-Err.ensures.usage accepted.0 accepted.1)

pub returns-in-Ok : goal.returns-in-Ok
returns-in-Ok g c =
    let words = map string_bytes c.args.words.now in
    let request = c.in-Ok.request in
    let asked = c.in-Ok.ensures.ok in
    let left = g.R.Source.left c.args.source.now in
    let old = g.W.Sink.held c.args.sink.now in
    let new = g.W.Sink.held c.answer.new.sink in
    let result = c.answer.result in
    let e = c.answer.ensures in
    let wrote : (status : Status) → IsWhole status → result ≡ status → Writes words left status old new =
    λ status whole same. run_writes words request left old new result status asked e.ends whole same
    in
    record {
      refused = λ usage. absurd (not_usage request left old new result e.ends usage);
      accepted = λ _. (request, asked);
      untouched = λ usage. absurd (not_usage request left old new result e.ends usage);
      unread = λ unread. e.unread (λ reads. unread (request, asked, reads));
      consumed = e.consumed;
      read_to_end = λ done other asks reads. e.ended done (subst ReadsToEnd (one_request words other request asks asked) reads);
      done = wrote Done tt;
      headline = λ done grid n workers limits asks. catalogued words left old new grid n workers limits asks (wrote Done tt done);
      checkable = λ done grid subject workers limits asks. writes_valid words left old new grid subject workers limits asks (wrote Done tt done);
      joinable = λ done grid n limits outputs asks all told. joins_valid words left old new grid n limits outputs asks all told (wrote Done tt done);
      passes = λ input workers count told short asks valid.
          let says : (status : Status) → IsWhole status → result ≡ status → status ≡ Done = λ status whole same.
          let (text, is, appends) = wrote status whole same in
          valid_is_done words input status text workers count asks short valid (subst (λ l. IsAnswer words l status text) told is)
          in
          ((λ same. let no : Invalid ≡ Done = says Invalid tt same in cc), λ same. let no : BadInput ≡ Done = says BadInput tt same in cc);
      outers_pass = λ input grid subject limits workers count told short asks valid.
          let says : (status : Status) → IsWhole status → result ≡ status → status ≡ Done = λ status whole same.
          let (text, is, appends) = wrote status whole same in
          valid_outers_are_done words input status text grid subject limits workers count asks short valid (subst (λ l. IsAnswer words l status text) told is)
          in
          ((λ same. let no : Invalid ≡ Done = says Invalid tt same in cc), λ same. let no : BadInput ≡ Done = says BadInput tt same in cc);
      outer_checkable = λ done grid subject limits workers asks. writes_valid_outers words left old new grid subject limits workers asks (wrote Done tt done);
      too_long = λ input workers told asks bad.
          let (text, is, appends) = wrote BadInput tt bad in
          bad_is_long words input BadInput text workers asks (subst (λ l. IsAnswer words l BadInput text) told is) refl;
      tables = λ input tally told asks tallied bad.
          let (text, is, appends) = wrote BadInput tt bad in
          let no : BadInput ≡ Done = tallied_is_done words input tally BadInput text asks tallied (subst (λ l. IsAnswer words l BadInput text) told is) in
          cc;
      formulas = λ done grid level size version asks. writes_formula words left old new grid level size version asks (wrote Done tt done);
      answers = λ done grid level size version asks. writes_answer words left old new grid level size version asks (wrote Done tt done);
      outer_numbers = λ done grid subject limits workers asks. writes_outers words left old new grid subject limits workers asks (wrote Done tt done);
      bad_input = wrote BadInput tt;
      invalid = wrote Invalid tt;
      read_fault = λ fault. ((request, asked, (e.read_fault fault).0), e.unwritten fault);
      read_cause = λ fault. (e.read_fault fault).1;
      write_fault = fault_prefix words request left old new result asked e.ends;
      write_cause = e.write_fault;
      no_memory = memory_prefix words request left old new result asked e.ends;
      unwritten = λ refused other asks text. e.no_memory refused (subst HasOneText (one_request words other request asks asked) text);
      complete = λ _. run_completes request left old new _ _ result e.ends (λ fault. (e.read_fault fault).1) e.write_fault;
    }
