use Rattle.std.proofs.Common.{List, length, drop, sym, subst, inl, inr, arith}
use Rattle.heesch_cnf.specs.declared.literal.Lit.{Lit}
use Rattle.heesch_exchange.specs.declared.lines.Place.TheVariants.{Start}
use Rattle.heesch_exchange.proofs.Walk.{HasRead, starts, line_fits, goes_on_named, other, stranger_named, early, is_early}
use Rattle.heesch_exchange.proofs.WordLists.{some_bytes}
use Rattle.heesch_exchange.proofs.model_text.read_model.Goals as goal

pub loop-first-init : goal.loop-first-init
loop-first-init c =
    subst (λ (t : List Lit). HasRead c.args.vars c.args.text.now t c.in-Ok.named.items Start 1 c.args.text.now) (sym c.new-literals.ensures)
    (starts c.args.vars c.args.text.now c.in-Ok.named.items c.in-Ok.ensures)

pub returns-in-Err-NotText-clause-stop : goal.returns-in-Err-NotText-clause-stop
returns-in-Err-NotText-clause-stop c =
    let none = rw c.in-Err-NotText.field-0-is at c.in-Err-NotText.ensures in
    let cut = c.in-Some.ensures in
    inr (other c.args.vars c.args.text.now c.loop-first.literals c.loop-first.named.items c.loop-first.place c.loop-first.line c.loop-first.rest.now c.in-Some.first.now c.in-Some.after.now c.loop-first.invariant cut.0 cut.1 none)

pub returns-then-not-name_all-clause-stop : goal.returns-then-not-name_all-clause-stop
returns-then-not-name_all-clause-stop c =
    stranger_named c.args.vars c.args.text.now c.loop-first.literals c.read_line.new.literals c.as_slice.result.now c.loop-first.named.items c.deref_mut.result.now c.loop-first.place c.in-Ok-read_line.next c.loop-first.line c.loop-first.rest.now c.in-Some.first.now c.in-Some.after.now c.len-before.result
    c.loop-first.invariant c.in-Some.ensures c.in-Ok-read_line.ensures c.len-before.ensures c.as_slice.ensures c.deref_mut.ensures.value c.if-not-name_all.ensures

pub overflow_add-line : goal.overflow_add-line
overflow_add-line c =
    let cut = c.in-Some.ensures in
    let fits = line_fits c.args.vars c.args.text.now c.loop-first.literals c.loop-first.named.items c.loop-first.place c.loop-first.line c.loop-first.rest.now c.in-Some.first.now c.in-Some.after.now c.loop-first.invariant cut.0 in
    omega arith

pub loop-first-preserved : goal.loop-first-preserved
loop-first-preserved c =
    goes_on_named c.args.vars c.args.text.now c.loop-first.literals c.read_line.new.literals c.as_slice.result.now c.loop-first.named.items c.deref_mut.result.now c.name_all.new.named (drop (length c.name_all.new.named) c.loop-first.named.items) c.loop-first.place c.in-Ok-read_line.next c.loop-first.line c.loop-first.rest.now c.in-Some.first.now c.in-Some.after.now c.len-before.result c.loop-first.named.len
    c.loop-first.invariant c.in-Some.ensures c.in-Ok-read_line.ensures c.len-before.ensures c.as_slice.ensures c.deref_mut.ensures.value c.if-not-name_all.ensures c.name_all.auto.named c.deref_mut.ensures.len

pub returns-then-not-is_empty-clause-stop : goal.returns-then-not-is_empty-clause-stop
returns-then-not-is_empty-clause-stop c =
    inl (early c.args.vars c.args.text.now c.loop-first.literals c.loop-first.named.items c.loop-first.place c.loop-first.line c.loop-first.rest.now c.loop-first.invariant c.in_default-cut_line.ensures (inl (some_bytes c.loop-first.rest.now c.if-not-is_empty.ensures)))

pub returns : goal.returns
returns c =
    record { ok = tt; stop = inl (early c.args.vars c.args.text.now c.loop-first.literals c.loop-first.named.items c.loop-first.place c.loop-first.line c.loop-first.rest.now c.loop-first.invariant c.in_default-cut_line.ensures (inr (is_early c.loop-first.place c.in-Start.is))) }
