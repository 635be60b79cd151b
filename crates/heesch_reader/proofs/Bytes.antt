-- One line after the other, as the loop goes.
use Rattle.std.proofs.Common.{◌≡◌, ℕ, ◌+◌, ◌<◌, ◌^◌, List, [], ◌∷◌, ◌++◌, length, Result, Ok, Err, refl, sym, ap, subst, ◌∙◌, append_assoc, arith, inl, inr}
use Rattle.std.proofs.lemmas.List.{length-append}
use Rattle.heesch_text.specs.Lines.{text_of}
use Rattle.heesch_line.specs.Forms.{HasNoNewline}
use Rattle.heesch_reader.specs.declared.item.Item.{Item}
use Rattle.heesch_reader.specs.declared.item.Part.{Part}
use Rattle.heesch_line.specs.declared.stops.LineStop.{LineStop}
use Rattle.heesch_line.specs.declared.stops.LineStop.TheVariants as stops
use Rattle.heesch_reader.specs.declared.scan.Appended.{Appended}
use Rattle.heesch_reader.specs.declared.scan.Scan.{Scan}
use Rattle.heesch_reader.specs.Feeding.{RunsOut}
use Rattle.heesch_reader.specs.Scanning.{MayGoOn, rest_of, Settles, EndsOrFaults, TakesLine, Pushes, Reaches, ReachesOrRefused, shows_whole}
use Rattle.heesch_reader.proofs.Following.{Follows, starts, pushes, ends_line, reaches, refuses, runs_out, runs_out_settled, room_so_far}

pub line_ended : (s filled mid t : Scan) (before between after : List Item) (bytes : List ℕ) (r : Result (Unit {0}) (LineStop Part)) → Pushes s filled bytes → Settles (shows_whole filled) filled mid before between → EndsOrFaults mid t between after r → TakesLine s t before after bytes r
line_ended s filled mid t before between after bytes (Ok u) p g e = (filled, p, record { middle = mid; between = between; settled = g; ended = e })
line_ended s filled mid t before between after bytes (Err (stops.Fault line part)) p g e = (filled, p, record { middle = mid; settled = subst (λ (x : List Item). Settles (shows_whole filled) filled mid before x) (sym e.1) g; faults = e.0 })
line_ended s filled mid t before between after bytes (Err stops.NoMemory) p g e = inr (filled, p, (mid, subst (λ (x : List Item). Settles (shows_whole filled) filled mid before x) (sym e) g))

-- before a line: what the bytes so far made, and those left
pub record Going (first s : Scan) (before after : List Item) (piece left : List ℕ) : Type 0 where
  pub read : List ℕ
  pub split : rest_of first ++ piece ≡ read ++ left
  pub follows : Follows first.appended s before after read

pub sets_out : (s : Scan) (items : List Item) (piece : List ℕ) → MayGoOn s → Going s s items items piece piece
sets_out s items piece i = record { read = rest_of s; split = refl; follows = starts s items i }

-- the bytes so far, a line and its newline, and those behind it
around_line : (read line behind : List ℕ) → read ++ (line ++ 10 ∷ behind) ≡ (read ++ line) ++ 10 ∷ behind
around_line read line behind = sym (append_assoc read line (10 ∷ behind))

pub goes_on : (first s t : Scan) (before middle after : List Item) (piece left line behind : List ℕ) (u : Unit {0}) → left ≡ line ++ 10 ∷ behind → HasNoNewline line
    → Going first s before middle piece left → TakesLine s t middle after line (Ok u) → Going first t before after piece behind
goes_on first s t before middle after piece left line behind u e one_line g h = record {
  read = (g.read ++ line) ++ 10 ∷ [];
  split = g.split ∙ ap (λ (x : List ℕ). g.read ++ x) e ∙ around_line g.read line behind ∙ sym (append_assoc (g.read ++ line) (10 ∷ []) behind);
  follows = ends_line first.appended h.0 t before middle after (g.read ++ line) (pushes first.appended s h.0 before middle g.read line one_line g.follows h.1) h.2;
}

-- memory was refused, and nothing was appended
pub stops_behind : (first s : Scan) (before middle after : List Item) (piece left : List ℕ) → Going first s before middle piece left → after ≡ middle → RunsOut first.appended before after (rest_of first ++ piece)
stops_behind first s before middle after piece left g same =
    subst (λ (bytes : List ℕ). RunsOut first.appended before after bytes) (sym g.split)
    (subst (λ (x : List Item). RunsOut first.appended before x (g.read ++ left)) (sym same) (runs_out first.appended s before middle g.read left g.follows))

pub stops_at : (first s t last : Scan) (before middle after : List Item) (piece left line behind : List ℕ) (e : LineStop Part) → left ≡ line ++ 10 ∷ behind → HasNoNewline line
    → Going first s before middle piece left → TakesLine s t middle after line (Err e) → ReachesOrRefused first last before after (rest_of first ++ piece) (Err e)
stops_at first s t last before middle after piece left line behind (stops.Fault number part) cut one_line g h =
    let whole : (g.read ++ line) ++ 10 ∷ behind ≡ rest_of first ++ piece = sym (g.split ∙ ap (λ (x : List ℕ). g.read ++ x) cut ∙ around_line g.read line behind) in
    subst (λ (bytes : List ℕ). ReachesOrRefused first last before after bytes (Err (stops.Fault number part))) whole
    (refuses first.appended h.0 before middle after (g.read ++ line) behind number part (pushes first.appended s h.0 before middle g.read line one_line g.follows h.1) h.2)
stops_at first s t last before middle after piece left line behind stops.NoMemory cut one_line g h =
    elim h [
      | inl same ↦ stops_behind first s before middle after piece left g same
      | inr filled ↦
          let whole : (g.read ++ line) ++ 10 ∷ behind ≡ rest_of first ++ piece = sym (g.split ∙ ap (λ (x : List ℕ). g.read ++ x) cut ∙ around_line g.read line behind) in
          subst (λ (bytes : List ℕ). RunsOut first.appended before after bytes) whole
          (runs_out_settled first.appended filled.0 filled.2.0 before middle after (g.read ++ line) (10 ∷ behind) (pushes first.appended s filled.0 before middle g.read line one_line g.follows filled.1) filled.2.1)
    ]

-- the bytes behind the last newline
module _ (first s filled : Scan) (before middle : List Item) (piece left : List ℕ) (one_line : HasNoNewline left) (g : Going first s before middle piece left) (p : Pushes s filled left) where
  filled_follows : Follows first.appended filled before middle (rest_of first ++ piece)
  filled_follows = subst (λ (bytes : List ℕ). Follows first.appended filled before middle bytes) (sym g.split) (pushes first.appended s filled before middle g.read left one_line g.follows p)

  pub filled_is : MayGoOn filled
  filled_is = filled_follows.is

  pub settled : (t : Scan) (after : List Item) → Settles (shows_whole filled) filled t middle after → Reaches first.appended t before after (rest_of first ++ piece)
  settled t after h = reaches first.appended filled t before middle after (rest_of first ++ piece) filled_follows h

pub room_on : (first s : Scan) (before middle : List Item) (piece left line behind : List ℕ) → left ≡ line ++ 10 ∷ behind → Going first s before middle piece left → first.appended.lines + length (rest_of first) + length piece < 2 ^ 64 → s.appended.lines + length (rest_of s) + length line + 1 < 2 ^ 64
room_on first s before middle piece left line behind cut g room =
    let all = ap length g.split in
    let parts = ap length cut in
    omega (arith, room, all, parts, room_so_far first.appended s before middle g.read g.follows, length-append (rest_of first) piece, length-append g.read left, length-append line (10 ∷ behind))

-- a line at hand has its bytes more
pub room_filled : (s filled : Scan) (bytes : List ℕ) → Pushes s filled bytes → s.appended.lines + length (rest_of s) + length bytes + 1 < 2 ^ 64 → filled.appended.lines + length (rest_of filled) + 1 < 2 ^ 64
room_filled s filled bytes p room =
    let told = ap (λ (a : Appended). a.lines) p.appended in
    let longer : rest_of filled ≡ rest_of s ++ bytes = rw (p.lines, p.line) (sym (append_assoc (text_of s.lines.items) s.line.items bytes)) in
    omega (arith, room, told, ap length longer, length-append (rest_of s) bytes)
