use Rattle.std.proofs.Common.{[]}
use Rattle.heesch_check.proofs.Readings.{no_header_answers, brief_opened, opened}
use Rattle.heesch_check.proofs.Behind.{begin_on, start_no_further}
use Rattle.heesch_check.proofs.FirstFault.{faults_first}
use Rattle.heesch_check.proofs.checking.check.Goals as goal

pub read_first-requires-clause-may : goal.read_first-requires-clause-may
read_first-requires-clause-may g c = (g.R.Source.left c.args.source.now, c.new-stream.ensures (g.R.Source.left c.args.source.now))

pub returns-in_default-clause-ok : goal.returns-in_default-clause-ok
returns-in_default-clause-ok g c =
    let first = g.R.Source.left c.args.source.now in
    no_header_answers first (g.R.Source.left c.read_first.new.source) c.read_first.new.items c.read_first.new.stream c.in_ok-reading.reading
    (c.in_ok-reading.ensures.ok first (c.new-stream.ensures first)) c.in_ok-reading.ensures.some (rw c.as_slice.ensures at c.in_default.ensures.none)

pub returns-then-header-clause-ok : goal.returns-then-header-clause-ok
returns-then-header-clause-ok g c =
    let first = g.R.Source.left c.args.source.now in
    brief_opened first (g.R.Source.left c.read_first.new.source) c.in-Some.header c.read_first.new.items c.read_first.new.stream c.in_ok-reading.reading
    (c.in_ok-reading.ensures.ok first (c.new-stream.ensures first)) (rw c.as_slice.ensures at c.in-Some.ensures.some) c.if-header.true

pub gather-requires : goal.gather-requires
gather-requires g c =
    let first = g.R.Source.left c.args.source.now in
    record { may = (first, [], c.in_ok-reading.ensures.ok first (c.new-stream.ensures first)) }

pub returns-in-Some-first_fault-clause-ok : goal.returns-in-Some-first_fault-clause-ok
returns-in-Some-first_fault-clause-ok g c =
    let first = g.R.Source.left c.args.source.now in
    let r = c.in_ok-reading-2.ensures.ok in
    faults_first first (g.R.Source.left c.gather.new.source) c.in-Some.header c.gather.new.items c.gather.new.stream c.in_ok-reading-2.reading c.in-Some-first_fault.answer c.if-header.false
    (begin_on c.in-Some.header c.read_first.new.items c.gather.new.items r.more r.after_is (rw c.as_slice.ensures at c.in-Some.ensures.some))
    (r.goes_on first [] (c.in_ok-reading.ensures.ok first (c.new-stream.ensures first))) (rw c.as_slice-2.ensures at c.in-Some-first_fault.ensures)

pub returns-in-Some-first_fault-clause-no_further : goal.returns-in-Some-first_fault-clause-no_further
returns-in-Some-first_fault-clause-no_further g c =
    let first = g.R.Source.left c.args.source.now in
    let h = c.in_ok-reading.ensures.ok first (c.new-stream.ensures first) in
    start_no_further first (g.R.Source.left c.read_first.new.source) (g.R.Source.left c.gather.new.source) c.in-Some.header c.read_first.new.items c.if-header.false (rw c.as_slice.ensures at c.in-Some.ensures.some)
    (c.gather.ensures.no_further first [] h) (c.read_first.ensures.no_further first (c.new-stream.ensures first))

pub check_named-requires-clause-opened : goal.check_named-requires-clause-opened
check_named-requires-clause-opened g c κs within =
    let first = g.R.Source.left c.args.source.now in
    let r = c.in_ok-reading-2.ensures.ok in
    opened first (g.R.Source.left c.gather.new.source) c.in-Some.header c.gather.new.items c.gather.new.stream c.in_ok-reading-2.reading
    (r.goes_on first [] (c.in_ok-reading.ensures.ok first (c.new-stream.ensures first)))
    (begin_on c.in-Some.header c.read_first.new.items c.gather.new.items r.more r.after_is (rw c.as_slice.ensures at c.in-Some.ensures.some)) c.if-header.false

pub returns-clause-ok : goal.returns-clause-ok
returns-clause-ok g c =
    let first = g.R.Source.left c.args.source.now in
    c.check_named.ensures.in_time.answers first (c.in_ok-reading-2.ensures.ok.goes_on first [] (c.in_ok-reading.ensures.ok first (c.new-stream.ensures first)))

pub returns-in_default-clause-no_further : goal.returns-in_default-clause-no_further
returns-in_default-clause-no_further g c =
    let first = g.R.Source.left c.args.source.now in
    c.read_first.ensures.no_further first (c.new-stream.ensures first)

pub returns-then-header-clause-no_further : goal.returns-then-header-clause-no_further
returns-then-header-clause-no_further g c =
    let first = g.R.Source.left c.args.source.now in
    c.read_first.ensures.no_further first (c.new-stream.ensures first)

pub returns-clause-no_further : goal.returns-clause-no_further
returns-clause-no_further g c =
    let first = g.R.Source.left c.args.source.now in
    let h = c.in_ok-reading.ensures.ok first (c.new-stream.ensures first) in
    c.check_named.ensures.in_time.no_further first (c.in_ok-reading-2.ensures.ok.goes_on first [] h)
    (start_no_further first (g.R.Source.left c.read_first.new.source) (g.R.Source.left c.gather.new.source) c.in-Some.header c.read_first.new.items c.if-header.false (rw c.as_slice.ensures at c.in-Some.ensures.some)
    (c.gather.ensures.no_further first [] h) (c.read_first.ensures.no_further first (c.new-stream.ensures first)))

pub returns-in_err-reading-clause-no_further : goal.returns-in_err-reading-clause-no_further
returns-in_err-reading-clause-no_further g c =
    let first = g.R.Source.left c.args.source.now in
    c.read_first.ensures.no_further first (c.new-stream.ensures first)

pub returns-in_err-reading-2-clause-no_further : goal.returns-in_err-reading-2-clause-no_further
returns-in_err-reading-2-clause-no_further g c =
    let first = g.R.Source.left c.args.source.now in
    let h = c.in_ok-reading.ensures.ok first (c.new-stream.ensures first) in
    start_no_further first (g.R.Source.left c.read_first.new.source) (g.R.Source.left c.gather.new.source) c.in-Some.header c.read_first.new.items c.if-header.false (rw c.as_slice.ensures at c.in-Some.ensures.some)
    (c.gather.ensures.no_further first [] h) (c.read_first.ensures.no_further first (c.new-stream.ensures first))
