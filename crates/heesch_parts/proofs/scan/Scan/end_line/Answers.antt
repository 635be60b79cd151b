use Rattle.std.proofs.Common.{[], ◌∷◌, refl, sym, inl, inr, ◌∙◌}
use Rattle.heesch_parts.specs.Joining.{kept_of}
use Rattle.heesch_parts.proofs.Feeding.{line_stops, advanced, refused_before, leaves_room, may_settle, held_few}
use Rattle.heesch_parts.proofs.scan.Scan.end_line.Goals as goal

pub returns-in-Err-NotALine-clause-fed : goal.returns-in-Err-NotALine-clause-fed
returns-in-Err-NotALine-clause-fed c = λ before given fed.
    let none = rw c.in-Err-NotALine.field-0-is at c.in-Err-NotALine.ensures.not_a_line in
    line_stops before given c.args.items.now (kept_of c.args.self.now) 6 c.fault.result fed (inr ((λ line form e. none refl line form (e ∙ sym c.as_slice.ensures.value)), refl)) c.fault.ensures

pub advance-requires-clause-whole : goal.advance-requires-clause-whole
advance-requires-clause-whole c =
    let fed = c.requires.going.2 in
    may_settle fed.ended c.args.self.now.stage c.args.self.now.held.items c.requires.going.1 c.in-Ok.line c.in-Ok-next.reached fed.built c.in-Ok-next.ensures

pub advance-requires-clause-held : goal.advance-requires-clause-held
advance-requires-clause-held c = held_few c.requires.going.0 c.requires.going.1 (kept_of c.args.self.now) c.requires.going.2

pub returns-in-Ok-next-clause-fed : goal.returns-in-Ok-next-clause-fed
returns-in-Ok-next-clause-fed c = λ before given fed.
    advanced c.advance.result before given c.args.items.now c.advance.new.items (kept_of c.args.self.now) (kept_of c.advance.new.self) c.in-Ok.line c.in-Ok-next.reached fed c.in-Ok.ensures.ok.0 (c.in-Ok.ensures.ok.1 ∙ c.as_slice.ensures.value)
    c.in-Ok-next.ensures c.advance.ensures

pub returns-in-Err-clause-fed : goal.returns-in-Err-clause-fed
returns-in-Err-clause-fed c = λ before given fed.
    line_stops before given c.args.items.now (kept_of c.args.self.now) c.in-Err.fault c.fault-in-Err.result fed
    (inl (record { line = c.in-Ok.line; form = c.in-Ok.ensures.ok.0; words_are = c.in-Ok.ensures.ok.1 ∙ c.as_slice.ensures.value; fault = c.in-Err.ensures })) c.fault-in-Err.ensures

pub returns-in-Ok-next-clause-room : goal.returns-in-Ok-next-clause-room
returns-in-Ok-next-clause-room c = leaves_room c.advance.result c.args.items.now c.advance.new.items (kept_of c.args.self.now) (kept_of c.advance.new.self) c.in-Ok.line c.in-Ok-next.reached (c.in-Ok.ensures.ok.1 ∙ c.as_slice.ensures.value) c.requires.room c.advance.ensures

pub returns-in-Err-NoMemory-clause-fed : goal.returns-in-Err-NoMemory-clause-fed
returns-in-Err-NoMemory-clause-fed c = λ before given fed. (tt, refused_before before (10 ∷ []) given c.args.items.now (kept_of c.args.self.now) fed)
