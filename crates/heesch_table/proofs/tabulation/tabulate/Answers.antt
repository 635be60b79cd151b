use Rattle.std.proofs.Common.{◌≡◌, None, inl, inr, sym, subst, rules, arith}
use Rattle.heesch_reader.specs.Taking.{TakeResult}
use Rattle.heesch_table.specs.TableSteps.{AreReady, CountsItems}
use Rattle.heesch_io.specs.Input.{ReadsNoFurther}
use Rattle.heesch_table.specs.Tabulating.{DecideNothing}
use Rattle.heesch_table.proofs.Answering.{Stepped, items_ready, fault_told, more_counted, all_counted, input_told, going_no_further, at_end}
use Rattle.heesch_table.proofs.tabulation.tabulate.Given as given
use Rattle.heesch_table.proofs.tabulation.tabulate.Goals as goal
use Rattle.heesch_table.proofs.tabulation.tabulate.Goals.{After-take, After-as_slice, In_ok-line, In_default}

-- a step of the stream
stepped : (g : given.Over) (c : After-as_slice g) → Stepped (g.R.Source.left c.args.source.now) (g.R.Source.left c.take.new.source) c.take.new.self c.take.new.items c.in_ok-onward.onward c.loop-items.table
stepped g c = record {
  before = g.R.Source.left c.loop-items.source;
  failed = g.R.Source.faults c.loop-items.source;
  fails = g.R.Source.faults c.take.new.source;
  old = c.loop-items.stream;
  taken = c.take.result;
  going = c.loop-items.invariant.0;
  result = subst (λ items. TakeResult (g.R.Source.left c.loop-items.source) (g.R.Source.left c.take.new.source) (g.R.Source.faults c.loop-items.source) (g.R.Source.faults c.take.new.source) c.loop-items.stream c.take.new.self items c.take.new.items c.take.result)
      c.new-items.ensures c.take.ensures.taken;
  onward_is = c.in_ok-onward.ensures;
}

-- its items were counted
counted : (g : given.Over) (c : In_ok-line g) → CountsItems c.loop-items.table c.count.new.self c.take.new.items c.in_ok-line.field-0
counted g c = subst (λ items. CountsItems c.loop-items.table c.count.new.self items c.in_ok-line.field-0) c.as_slice.ensures c.in_ok-line.ensures

-- and have no fault
counted_all : (g : given.Over) (c : In_default g) → CountsItems c.loop-items.table c.count.new.self c.take.new.items c.in_ok-line.field-0 → CountsItems c.loop-items.table c.count.new.self c.take.new.items None
counted_all g c counts =
    let none : c.in_ok-line.field-0 ≡ None = search rules in
    subst (λ told. CountsItems c.loop-items.table c.count.new.self c.take.new.items told) none counts

pub count-requires : goal.count-requires
count-requires g c =
    let s = stepped g (goal.at.count-requires g c).After-as_slice in
    (s.going.found, s.going.table, subst (λ items. AreReady s.going.found items) (sym c.as_slice.ensures) (items_ready s))

pub returns-in-Some-clause-ok : goal.returns-in-Some-clause-ok
returns-in-Some-clause-ok g c =
    let a = goal.at.returns-in-Some-clause-ok g c in
    inl (fault_told (stepped g a.After-as_slice) c.count.new.self c.in-Some.field-0 (subst (λ told. CountsItems c.loop-items.table c.count.new.self c.take.new.items told) c.in-Some.is (counted g a.In_ok-line)))

pub returns-in-End-clause-ok : goal.returns-in-End-clause-ok
returns-in-End-clause-ok g c =
    let a = goal.at.returns-in-End-clause-ok g c in
    all_counted (stepped g a.After-as_slice) c.count.new.self c.in_ok-text-in-End.text.items c.in-End.is (counted_all g a.In_default (counted g a.In_ok-line)) c.in_ok-text-in-End.ensures

pub returns-in-Fault-clause-ok : goal.returns-in-Fault-clause-ok
returns-in-Fault-clause-ok g c =
    let a = goal.at.returns-in-Fault-clause-ok g c in
    inr (input_told (stepped g a.After-as_slice) c.count.new.self c.in-Fault.line c.in-Fault.number c.in-Fault.is (counted_all g a.In_default (counted g a.In_ok-line)))

-- what was read before the last piece decides nothing
no_further : (g : given.Over) (c : After-take g) → ReadsNoFurther DecideNothing (g.R.Source.left c.args.source.now) (g.R.Source.left c.take.new.source)
no_further g c = going_no_further (g.R.Source.left c.args.source.now) (g.R.Source.left c.loop-items.source) (g.R.Source.left c.take.new.source) c.loop-items.stream c.loop-items.table c.loop-items.invariant.0 c.take.ensures.consumed

pub returns-in_err-onward-clause-no_further : goal.returns-in_err-onward-clause-no_further
returns-in_err-onward-clause-no_further g c = no_further g (goal.at.returns-in_err-onward-clause-no_further g c).After-take

pub returns-in_err-line-clause-no_further : goal.returns-in_err-line-clause-no_further
returns-in_err-line-clause-no_further g c = no_further g (goal.at.returns-in_err-line-clause-no_further g c).After-take

pub returns-in-Some-clause-no_further : goal.returns-in-Some-clause-no_further
returns-in-Some-clause-no_further g c = no_further g (goal.at.returns-in-Some-clause-no_further g c).After-take

pub returns-in_err-text-in-End-clause-no_further : goal.returns-in_err-text-in-End-clause-no_further
returns-in_err-text-in-End-clause-no_further g c = no_further g (goal.at.returns-in_err-text-in-End-clause-no_further g c).After-take

pub returns-in-End-clause-no_further : goal.returns-in-End-clause-no_further
returns-in-End-clause-no_further g c = no_further g (goal.at.returns-in-End-clause-no_further g c).After-take

pub returns-in-Fault-clause-no_further : goal.returns-in-Fault-clause-no_further
returns-in-Fault-clause-no_further g c = no_further g (goal.at.returns-in-Fault-clause-no_further g c).After-take

pub returns-in-End-clause-ended : goal.returns-in-End-clause-ended
unfolding stepped
returns-in-End-clause-ended g c = at_end (stepped g (goal.at.returns-in-End-clause-ended g c).After-as_slice) c.in-End.is c.take.ensures.ended

pub loop-items-preserved : goal.loop-items-preserved
loop-items-preserved g c =
    let a = goal.at.loop-items-preserved g c in
    (more_counted (stepped g a.After-as_slice) c.count.new.self c.in-More.is (counted_all g a.In_default (counted g a.In_ok-line)), omega (arith, c.loop-items.invariant.1, c.take.ensures.later))
