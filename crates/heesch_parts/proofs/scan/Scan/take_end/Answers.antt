use Rattle.std.proofs.Common.{◌≡◌, [], length, refl, sym, rules}
use Rattle.std.proofs.lemmas.Bool.{eqb-true}
use Rattle.std.proofs.lemmas.List.{nil_from_length}
use Rattle.heesch_parts.specs.Joining.{kept_of}
use Rattle.heesch_parts.proofs.Feeding.{ends_amid, ends_behind}
use Rattle.heesch_parts.proofs.Finishing.{joins}
use Rattle.heesch_parts.proofs.scan.Scan.take_end.Goals as goal

pub returns-then-not-is_behind_line : goal.returns-then-not-is_behind_line
returns-then-not-is_behind_line c = λ before given fed.
    let some : c.args.self.now.line.items ≡ [] → ⊥ = search rules in
    (ends_amid before given (kept_of c.args.self.now) c.fault.result fed some c.fault.ensures, refl)

pub returns-in-Some : goal.returns-in-Some
returns-in-Some c = λ before given fed.
    let none : c.args.self.now.line.items ≡ [] = nil_from_length c.args.self.now.line.items (eqb-true (length c.args.self.now.line.items) 0 (sym c.if-not-is_behind_line.ensures)) in
    (ends_behind before given (kept_of c.args.self.now) c.in-Some.fault c.fault-in-Some.result fed none (sym c.in-Some.ensures) c.fault-in-Some.ensures, refl)

pub returns-in_ok-push-in-None : goal.returns-in_ok-push-in-None
returns-in_ok-push-in-None c = λ before given fed.
    let none : c.args.self.now.line.items ≡ [] = nil_from_length c.args.self.now.line.items (eqb-true (length c.args.self.now.line.items) 0 (sym c.if-not-is_behind_line.ensures)) in
    joins before given c.args.items.now c.push.new.self (kept_of c.args.self.now) fed none (sym c.in-None.ensures) c.in_ok-push-in-None.ensures.ok
