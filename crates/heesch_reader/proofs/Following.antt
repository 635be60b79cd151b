-- What so many bytes make of a scan.
use Rattle.std.proofs.Common.{◌≡◌, ◌≢◌, ℕ, ◌+◌, ◌≤◌, Bool, true, false, ◌&&◌, ◌==◌, List, [], ◌∷◌, ◌++◌, length, Option, Some, None, Ok, refl, sym, ap, subst, ◌∙◌, append_assoc, arith, ◌⊎◌, inl, inr}
use Rattle.std.specs.List.{AllByRecursion}
use Rattle.std.proofs.lemmas.Bool.{eqb-true, false≢true}
use Rattle.std.proofs.lemmas.List.{append-nil, length-append, nil_from_length}
use Rattle.heesch_cert.specs.declared.header.Header.{Header}
use Rattle.heesch_text.specs.declared.line.Line.{Line}
use Rattle.heesch_text.specs.Lines.{words_of, line_text, text_of}
use Rattle.heesch_line.specs.Forms.{IsLine, HasNoNewline}
use Rattle.heesch_reader.specs.declared.item.Item.{Item}
use Rattle.heesch_reader.specs.declared.item.Part.{Part}
use Rattle.heesch_line.specs.declared.stops.LineStop.{LineStop}
use Rattle.heesch_reader.specs.declared.progress.Progress.{Progress}
use Rattle.heesch_reader.specs.declared.scan.Appended.{Appended}
use Rattle.heesch_reader.specs.declared.scan.Scan.{Scan}
use Rattle.heesch_reader.specs.Progress.{next, walk}
use Rattle.heesch_reader.specs.Items.{Kept, lines_of, with_items, progress_behind, progress_of}
use Rattle.heesch_reader.specs.Faults.{begins_next, part_of}
use Rattle.heesch_reader.specs.Feeding.{IsBehindEntry, ItemsLead, Stands, Takes, FeedFrom, FeedResult, BeginEntry, IsPrompt, IsPromptAtEnd, IsShown, IsShownAtEnd, Refuses, RunsOut, FallsShort}
use Rattle.heesch_reader.specs.Scanning.{IsScan, MayGoOn, Moves, Settles, EndsLine, FaultsLine, Pushes, Reaches, Completes, rest_of, shows_whole, shows_whole_at_end, is_complete}
use Rattle.heesch_reader.proofs.Ending.{no_lines}
use Rattle.heesch_reader.proofs.Walking.{all_append, all_front, walk_push, shows_more, no_first_shape, no_shape_behind_end}
use Rattle.heesch_reader.proofs.ItemLines.{lines_counted, text_append}
use Rattle.heesch_reader.proofs.Settling.{Stood, stood_on, same_lines, Settled, settles, prompt_after, settles_at_end, prompt_at_end, judged_alike, last_lines, regroup, both, shown_after, shown_at_end, shown_more, lines_short}

-- ---- many bytes

-- the scan is what so many bytes make, counted from the first one's last item
pub record Follows (first : Appended) (s : Scan) (before after : List Item) (bytes : List ℕ) : Type 0 where
  pub found : List Item
  pub stood : Stood first s before after found
  pub stands : Stands first bytes found s.lines.items s.line.items s.progress
  pub is : MayGoOn s

pub starts : (s : Scan) (items : List Item) → MayGoOn s → Follows s.appended s items items (rest_of s)
starts s items i = record {
  found = [];
  stood = record { after_is = sym (append-nil items); appended = refl; numbered = tt };
  stands = record { text = refl; lead = i.is.lead; numbered = tt; one_entry = i.is.one_entry; items_lead = record { behind = progress_of s.appended; walked = refl; alike = inl refl } };
  is = i;
}

pub pushed_is : (s t : Scan) (line : List ℕ) → HasNoNewline line → Pushes s t line → IsScan s → IsScan t
pushed_is s t line h p i = record {
  lead = rw (p.appended, p.lines, p.progress) i.lead;
  one_entry = rw p.lines i.one_entry;
  shapes = rw (p.lines, p.progress, p.appended) i.shapes;
  one_line = rw p.line (all_append (λ (x : ℕ). x ≢ 10) s.line.items line i.one_line h);
  fresh = rw p.appended i.fresh;
  room = rw (p.appended, p.lines) i.room;
}

pushed_shown : (s t : Scan) (line : List ℕ) → Pushes s t line → IsShown s.appended (rest_of s) → IsShown t.appended (rest_of t)
pushed_shown s t line p shown =
    rw (p.appended, p.lines, p.line) (λ some unended. subst (λ (x : List ℕ). begins_next x ≡ true) (append_assoc (text_of s.lines.items) s.line.items line) (shows_more (rest_of s) line (shown some unended)))

pub pushes : (first : Appended) (s t : Scan) (before after : List Item) (bytes line : List ℕ) → HasNoNewline line → Follows first s before after bytes → Pushes s t line → Follows first t before after (bytes ++ line)
pushes first s t before after bytes line h f p = record {
  found = f.found;
  stood = record { after_is = f.stood.after_is; appended = p.appended ∙ f.stood.appended; numbered = f.stood.numbered };
  stands = record {
    text = ap (λ (x : List ℕ). x ++ line) f.stands.text ∙ append_assoc (text_of (lines_of f.found ++ s.lines.items)) s.line.items line ∙ rw (p.lines, p.line) refl;
    lead = rw (p.lines, p.progress) f.stands.lead;
    numbered = f.stands.numbered;
    one_entry = rw p.lines f.stands.one_entry;
    items_lead = f.stands.items_lead;
  };
  is = record { is = pushed_is s t line h p f.is.is; shown = pushed_shown s t line p f.is.shown };
}

-- where items lead behind a settling
settled_lead : (first : Appended) (s t : Scan) (before middle after : List Item) (bytes : List ℕ) → (f : Follows first s before middle bytes) → (g : Settled s t middle after) → ItemsLead first (f.found ++ g.moves.found)
settled_lead first s t before middle after bytes f g = elim g.behind [
  | inl none ↦ subst (λ (x : List Item). ItemsLead first x) (sym (ap (λ (x : List Item). f.found ++ x) none ∙ append-nil f.found)) f.stands.items_lead
  | inr b ↦ record {
    behind = s.progress;
    walked = ap (walk (progress_of first)) (last_lines s t middle after f.found [] g.moves b.0 ∙ append-nil (lines_of f.found ++ s.lines.items)) ∙ f.stands.lead.reached;
    alike = inr (subst (λ (a : Appended). IsBehindEntry s.progress a) (stood_on first s t before middle after f.found [] f.stood g.moves).appended b.1);
  }
]

-- behind a settling
settled_stands : (first : Appended) (s t : Scan) (before middle after : List Item) (bytes : List ℕ) → (f : Follows first s before middle bytes) → (g : Settled s t middle after)
    → Stands first bytes (f.found ++ g.moves.found) t.lines.items t.line.items s.progress
settled_stands first s t before middle after bytes f g =
    let n = stood_on first s t before middle after f.found [] f.stood g.moves in
    regroup first bytes f.found (f.found ++ g.moves.found) s.lines.items t.lines.items s.line.items t.line.items s.progress f.stands
    (same_lines s t middle after f.found [] g.moves ∙ append-nil (lines_of f.found ++ s.lines.items)) g.line n.numbered g.moves.is.one_entry (settled_lead first s t before middle after bytes f g)

pub reaches : (first : Appended) (s t : Scan) (before middle after : List Item) (bytes : List ℕ) → Follows first s before middle bytes → Settles (shows_whole s) s t middle after → Reaches first t before after bytes
reaches first s t before middle after bytes f g =
    let h = settles s t middle after f.is.is g in
    let n = stood_on first s t before middle after f.found [] f.stood h.moves in
    record {
      found = f.found ++ h.moves.found;
      reached = s.progress;
      stands = settled_stands first s t before middle after bytes f h;
      prompt = subst (λ (x : List ℕ). IsPrompt t.lines.items x s.progress) (sym h.line) (prompt_after s t middle after g);
      appended = n.appended;
      after_is = n.after_is;
      is = record { is = h.moves.is; shown = shown_after s t middle after g f.is.shown };
    }

read_text : (bytes words line : List ℕ) (ls : List Line) (read : Line) → bytes ≡ text_of ls ++ line → words_of read ≡ line → bytes ++ 10 ∷ [] ≡ text_of (ls ++ read ∷ []) ++ []
read_text bytes words line ls read e f =
    ap (λ (x : List ℕ). x ++ 10 ∷ []) e ∙ append_assoc (text_of ls) line (10 ∷ []) ∙ ap (λ (x : List ℕ). text_of ls ++ (x ++ 10 ∷ [])) (sym f)
    ∙ ap (λ (x : List ℕ). text_of ls ++ x) (sym (append-nil (line_text read))) ∙ sym (text_append ls (read ∷ [])) ∙ sym (append-nil (text_of (ls ++ read ∷ [])))

-- where items lead behind a line
line_lead : (first : Appended) (s t : Scan) (before middle after : List Item) (found : List Item) (read : Line) → Stood first s before middle found → (m : Moves s t middle after (read ∷ [])) → ItemsLead first found
    → walk (progress_of first) ((lines_of found ++ s.lines.items) ++ read ∷ []) ≡ Some t.progress → ItemsLead first (found ++ m.found)
line_lead first s t before middle after found read n m l e = elim m.apart [
  | inl none ↦ subst (λ (x : List Item). ItemsLead first x) (sym (ap (λ (x : List Item). found ++ x) none ∙ append-nil found)) l
  | inr none ↦ record {
    behind = t.progress;
    walked = ap (walk (progress_of first)) (last_lines s t middle after found (read ∷ []) m none) ∙ e;
    alike = inl (sym (no_lines (progress_of t.appended) t.progress t.lines.items none m.is.lead.reached) ∙ ap progress_of (stood_on first s t before middle after found (read ∷ []) n m).appended);
  }
]

pub ends_line : (first : Appended) (s t : Scan) (before middle after : List Item) (bytes : List ℕ) → Follows first s before middle bytes → EndsLine s t middle after → Follows first t before after (bytes ++ 10 ∷ [])
ends_line first s t before middle after bytes f e =
    let mid = e.middle in
    let h = settles s mid middle e.between f.is.is e.settled in
    let found = f.found ++ h.moves.found in
    let n = stood_on first s mid before middle e.between f.found [] f.stood h.moves in
    let there = settled_stands first s mid before middle e.between bytes f h in
    let en = e.ended in
    let n_then = stood_on first mid t before e.between after found (en.read ∷ []) n en.moves in
    let same = same_lines mid t e.between after found (en.read ∷ []) en.moves in
    let goes : next s.progress en.read ≡ Some t.progress = judged_alike s mid middle e.between en.read e.settled (en.words ∙ h.line) ∙ en.may_stand in
    let walked = walk_push (progress_of first) s.progress t.progress (lines_of found ++ mid.lines.items) en.read there.lead.reached goes in
    record {
      found = found ++ en.moves.found;
      stood = n_then;
      stands = record {
        text = rw (same, en.emptied) (read_text bytes [] mid.line.items (lines_of found ++ mid.lines.items) en.read there.text en.words);
        lead = record {
          forms = rw same (all_append IsLine (lines_of found ++ mid.lines.items) (en.read ∷ []) there.lead.forms (en.form, tt));
          reached = rw same walked;
        };
        numbered = n_then.numbered;
        one_entry = en.moves.is.one_entry;
        items_lead = line_lead first mid t before e.between after found en.read n en.moves there.items_lead walked;
      };
      is = record { is = en.moves.is; shown = en.shown (shown_after s mid middle e.between e.settled f.is.shown) };
    }

-- the number of a line
line_number : (first : Appended) (t : Scan) (before after found : List Item) (line : ℕ) → Stood first t before after found → line ≡ t.appended.lines + length t.lines.items + 1
    → line ≡ first.lines + length (lines_of found ++ t.lines.items) + 1
line_number first t before after found line n e =
    let told : t.appended.lines ≡ first.lines + length (lines_of found) = ap (λ (a : Appended). a.lines) n.appended ∙ lines_counted first found in
    omega (arith, e, told, length-append (lines_of found) t.lines.items)

pub refuses : (first : Appended) (s : Scan) (before middle after : List Item) (bytes back : List ℕ) (line : ℕ) (part : Part) → Follows first s before middle bytes → FaultsLine s middle after line part
    → Refuses first before after (bytes ++ 10 ∷ back) line part
refuses first s before middle after bytes back line part f e =
    let mid = e.middle in
    let h = settles s mid middle after f.is.is e.settled in
    let found = f.found ++ h.moves.found in
    let n = stood_on first s mid before middle after f.found [] f.stood h.moves in
    let there = settled_stands first s mid before middle after bytes f h in
    record {
      found = found;
      held = mid.lines.items;
      left = mid.line.items ++ 10 ∷ back;
      reached = s.progress;
      stands = record {
        text = ap (λ (x : List ℕ). x ++ 10 ∷ back) there.text ∙ append_assoc (text_of (lines_of found ++ mid.lines.items)) mid.line.items (10 ∷ back);
        lead = there.lead;
        numbered = there.numbered;
        one_entry = there.one_entry;
        items_lead = there.items_lead;
      };
      fault = record {
        words = mid.line.items;
        back = back;
        split = refl;
        one_line = h.moves.is.one_line;
        may_not = λ read form w. judged_alike s mid middle after read e.settled (w ∙ h.line) ∙ e.faults.may_not read form w;
        part_is = e.faults.part_is ∙ sym (h.part (mid.line.items ++ 10 ∷ []));
      };
      prompt = subst (λ (x : List ℕ). IsPrompt mid.lines.items x s.progress) (sym h.line) (prompt_after s mid middle after e.settled);
      shown = subst (λ (a : Appended). IsShown a (text_of mid.lines.items ++ (mid.line.items ++ 10 ∷ back))) n.appended (shown_more mid.appended (text_of mid.lines.items) mid.line.items (10 ∷ back) (shown_after s mid middle after e.settled f.is.shown));
      line_is = line_number first mid before after found line n e.faults.number;
      after_is = n.after_is;
    }

-- the items so far, and any bytes behind them
runs_out_of : (first : Appended) (before after found : List Item) (held : List Line) (bytes left more : List ℕ) (reached : Progress) → Stands first bytes found held left reached → IsShown (with_items first found) (text_of held ++ left)
    → after ≡ before ++ found → RunsOut first before after (bytes ++ more)
runs_out_of first before after found held bytes left more reached s shown a =
    let alone : lines_of found ++ [] ≡ lines_of found = append-nil (lines_of found) in
    record {
      found = found;
      behind = (text_of held ++ left) ++ more;
      reached = s.items_lead.behind;
      stands = record {
        text = ap (λ (x : List ℕ). x ++ more) (s.text ∙ ap (λ (x : List ℕ). x ++ left) (text_append (lines_of found) held) ∙ append_assoc (text_of (lines_of found)) (text_of held) left) ∙ append_assoc (text_of (lines_of found)) (text_of held ++ left) more
            ∙ ap (λ (x : List Line). text_of x ++ ((text_of held ++ left) ++ more)) (sym alone);
        lead = record {
          forms = subst (λ (x : List Line). AllByRecursion IsLine x) (sym alone) (all_front IsLine (lines_of found) held s.lead.forms);
          reached = ap (walk (progress_of first)) alone ∙ s.items_lead.walked;
        };
        numbered = s.numbered;
        one_entry = tt;
        items_lead = s.items_lead;
      };
      shown = λ some unended. shows_more (text_of held ++ left) more (shown some unended);
      after_is = a;
    }

-- memory was refused behind so many bytes
pub runs_out : (first : Appended) (s : Scan) (before after : List Item) (bytes more : List ℕ) → Follows first s before after bytes → RunsOut first before after (bytes ++ more)
runs_out first s before after bytes more f =
    runs_out_of first before after f.found s.lines.items bytes s.line.items more s.progress f.stands (subst (λ (a : Appended). IsShown a (rest_of s)) f.stood.appended f.is.shown) f.stood.after_is

-- and behind a settling
pub runs_out_settled : (first : Appended) (s t : Scan) (before middle after : List Item) (bytes more : List ℕ) → Follows first s before middle bytes → Settles (shows_whole s) s t middle after → RunsOut first before after (bytes ++ more)
runs_out_settled first s t before middle after bytes more f g =
    let r = reaches first s t before middle after bytes f g in
    runs_out_of first before after r.found t.lines.items bytes t.line.items more r.reached r.stands (subst (λ (a : Appended). IsShown a (rest_of t)) r.appended r.is.shown) r.after_is

-- lines and bytes so far
pub room_so_far : (first : Appended) (s : Scan) (before after : List Item) (bytes : List ℕ) → Follows first s before after bytes → s.appended.lines + length (rest_of s) ≤ first.lines + length bytes
room_so_far first s before after bytes f =
    let told : s.appended.lines ≡ first.lines + length (lines_of f.found) = ap (λ (a : Appended). a.lines) f.stood.appended ∙ lines_counted first f.found in
    let all = ap length f.stands.text in
    let parts = ap length (text_append (lines_of f.found) s.lines.items) in
    omega (arith, told, all, parts, length-append (text_of (lines_of f.found ++ s.lines.items)) s.line.items, length-append (text_of (lines_of f.found)) (text_of s.lines.items), length-append (text_of s.lines.items) s.line.items, lines_short (lines_of f.found))

pub takes_room : (old new : Kept) (before after : List Item) (bytes : List ℕ) → Takes old new before after bytes → new.appended.lines + length new.rest ≤ old.appended.lines + length bytes
takes_room old new before after bytes t =
    let told : new.appended.lines ≡ old.appended.lines + length (lines_of t.found) = ap (λ (k : Kept). k.appended.lines) t.new_is ∙ lines_counted old.appended t.found in
    let rest : length new.rest ≡ length (text_of t.held ++ t.left) = ap (λ (k : Kept). length k.rest) t.new_is in
    let all = ap length t.stands.text in
    let parts = ap length (text_append (lines_of t.found) t.held) in
    omega (arith, told, rest, all, parts, length-append (text_of (lines_of t.found ++ t.held)) t.left, length-append (text_of (lines_of t.found)) (text_of t.held), length-append (text_of t.held) t.left, lines_short (lines_of t.found))

-- the same of an answer to a piece, with a count of what was fed
pub fed_room : (old new : Kept) (before after : List Item) (piece : List ℕ) (u : Unit {0}) (fed : ℕ) → FeedResult old new before after piece (Ok u) → old.appended.lines + length old.rest ≤ fed → new.appended.lines + length new.rest ≤ fed + length piece
fed_room old new before after piece u fed f le = by_refusal old.refusal f
  where
    by_refusal : (r : Option (LineStop Part)) → FeedFrom r old new before after (old.rest ++ piece) (Ok u) → new.appended.lines + length new.rest ≤ fed + length piece
    by_refusal None t = let room = takes_room old new before after (old.rest ++ piece) t in omega (arith, room, le, length-append old.rest piece)
    by_refusal (Some stop) t = let bad = t.0 in absurd cc

-- ---- the end of the bytes

ended_lines : (header : Option Header) (entries : ℕ) (ended : Bool) (ls : List Line) (q : Progress) → BeginEntry ls → walk (progress_behind header entries ended) ls ≡ Some q → ended ≡ true → ls ≡ []
ended_lines header entries ended [] q b e t = refl
ended_lines None entries ended (line ∷ ls) q b e t = absurd (no_first_shape line ls q b.0 e)
ended_lines (Some header) entries true (line ∷ ls) q b e t = absurd (no_shape_behind_end header.brief entries line ls q b.0 e)
ended_lines (Some header) entries false (line ∷ ls) q b e t = absurd cc

pub completes : (s t : Scan) (items after : List Item) → MayGoOn s → Settles (shows_whole_at_end s) s t items after → is_complete t ≡ true → Completes s.appended t items after (rest_of s)
unfolding starts
completes s t items after i g c =
    let f = starts s items i in
    let h = settles_at_end s t items after i.is g in
    let n = stood_on s.appended s t items items after [] [] f.stood h.moves in
    let there = settled_stands s.appended s t items items after (rest_of s) f h in
    let known = both t.appended.ended (length t.line.items == 0) c in
    let no_lines = ended_lines t.appended.header t.appended.entries t.appended.ended t.lines.items t.progress h.moves.is.one_entry h.moves.is.lead.reached known.0 in
    let no_bytes = nil_from_length t.line.items (eqb-true (length t.line.items) 0 known.1) in
    record {
      found = h.moves.found;
      reached = s.progress;
      stands = subst (λ (x : List ℕ). Stands s.appended (rest_of s) h.moves.found [] x s.progress) no_bytes (subst (λ (x : List Line). Stands s.appended (rest_of s) h.moves.found x t.line.items s.progress) no_lines there);
      appended = n.appended;
      after_is = n.after_is;
      ended = known.0;
      nothing_left = rw (no_lines, no_bytes) refl;
      is = record { is = h.moves.is; shown = λ some unended. absurd (false≢true (sym unended ∙ known.0)) };
    }

too_short : (ended : Bool) (line : List ℕ) → (ended && length line == 0) ≡ false → (line ≢ []) ⊎ (ended ≡ false)
too_short false line e = inr refl
too_short true [] e = absurd cc
too_short true (b ∷ line) e = inl (λ n. cc)

pub falls_short : (s t : Scan) (items after : List Item) (line : ℕ) (part : Part) → MayGoOn s → Settles (shows_whole_at_end s) s t items after → is_complete t ≡ false
    → line ≡ t.appended.lines + length t.lines.items + 1 → part ≡ part_of t.progress t.line.items → FallsShort s.appended items after (rest_of s) line part
unfolding starts
falls_short s t items after line part i g c e p =
    let f = starts s items i in
    let h = settles_at_end s t items after i.is g in
    let n = stood_on s.appended s t items items after [] [] f.stood h.moves in
    record {
      found = h.moves.found;
      held = t.lines.items;
      left = t.line.items;
      reached = s.progress;
      stands = settled_stands s.appended s t items items after (rest_of s) f h;
      one_line = h.moves.is.one_line;
      prompt = subst (λ (x : List ℕ). IsPromptAtEnd t.lines.items x s.progress) (sym h.line) (prompt_at_end s t items after g);
      shown = subst (λ (a : Appended). IsShownAtEnd a (rest_of t)) n.appended (shown_at_end s t items after g i.shown);
      short = subst (λ (a : Appended). (t.line.items ≢ []) ⊎ (a.ended ≡ false)) n.appended (too_short t.appended.ended t.line.items c);
      line_is = line_number s.appended t items after h.moves.found line n e;
      part_is = p ∙ sym (h.part t.line.items);
      after_is = n.after_is;
    }
