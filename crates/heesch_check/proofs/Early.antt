-- An item at fault decides, and so does a last line that comes too early.
use Rattle.std.proofs.Common.{◌≡◌, ◌≢◌, ◌⊎◌, inl, inr, ℕ, ◌+◌, ◌≤◌, ◌&&◌, ◌||◌, nat_eq, if◌then◌else◌, Bool, true, false, List, [], ◌∷◌, ◌++◌, length, codes, Some, refl, sym, ap, subst, ◌∙◌, append_assoc, arith}
use Rattle.std.specs.List.{flat_map}
use Rattle.std.proofs.lemmas.Bool.{false≢true, eqb-true}
use Rattle.std.proofs.lemmas.List.{append-nil}
use Rattle.heesch_cert.specs.declared.entry.Entry.{Entry}
use Rattle.heesch_cert.specs.declared.header.Header.{Header}
use Rattle.heesch_grid.specs.Names.{geometry_of}
use Rattle.heesch_text.specs.declared.line.Line.{Line}
use Rattle.heesch_text.specs.declared.line.Line.TheVariants as lines
use Rattle.heesch_text.specs.Lines.{text_of}
use Rattle.heesch_text.specs.Catalogue.{header_text, entry_lines, entry_text}
use Rattle.heesch_line.specs.Forms.{HasNoNewline}
use Rattle.heesch_grammar.specs.declared.spot.Spot.{Spot}
use Rattle.heesch_grammar.specs.Grammar.{steps, is_whole}
use Rattle.heesch_grammar.proofs.Truth.{may_stand}
use Rattle.heesch_reader.specs.declared.item.Item.{Item}
use Rattle.heesch_reader.specs.declared.item.Item.TheVariants as items
use Rattle.heesch_reader.specs.declared.progress.AtHand.{AtHand}
use Rattle.heesch_reader.specs.declared.progress.AtHand.TheVariants as hands
use Rattle.heesch_reader.specs.declared.progress.Progress.{Progress}
use Rattle.heesch_reader.specs.declared.progress.Progress.TheVariants as stages
use Rattle.heesch_reader.specs.Progress.{Lead, may_end}
use Rattle.heesch_reader.specs.Items.{item_lines, lines_of, with_items, none_appended}
use Rattle.heesch_reader.specs.Faults.{begins, begins_next}
use Rattle.heesch_reader.specs.Feeding.{IsPrompt, IsShown, Stands}
use Rattle.heesch_reader.specs.Endings.{ending_of}
use Rattle.heesch_reader.proofs.EntryLines.{body_lines}
use Rattle.heesch_reader.proofs.SameLines.{same_front, same_lines, same_reading}
use Rattle.heesch_reader.proofs.Walking.{shows_more}
use Rattle.heesch_reader.proofs.Whole.{IsEntryItem, entry_whole, stand_at}
use Rattle.heesch_check.specs.declared.answers.Checked.{Checked}
use Rattle.heesch_check.specs.declared.answers.Checked.TheVariants as answers
use Rattle.heesch_check.specs.Answers.{IsOpen, IsTooLong, IsDecided, Comes, IsChecked}
use Rattle.heesch_check.specs.Catalogues.{block_of, IsGoodEntry, AreAll}
use Rattle.heesch_check.specs.Judging.{AreJudged, Judges}
use Rattle.heesch_check.proofs.Answering.{BadBlock, bad_none, invalid_block, entry_bad, brief_bad, holds_at, next_item}
use Rattle.heesch_check.proofs.Deciding.{RefusedIn, refused_decided, same_rest, block_decides, end_decides}
use Rattle.heesch_check.proofs.Leading.{IsBounded, IsBoundedTo, up_to, no_second_header}
use Rattle.heesch_check.proofs.OneAnswer.{begins_entry}
use Rattle.heesch_check.proofs.Seen.{IsRead, checked}
use Rattle.heesch_check.proofs.Stopping.{Held, same_place}
use Rattle.heesch_check.proofs.Stopped.{behind_all, held_at}

-- an answer comes for an input that is decided
pub comes : (input : List ℕ) (answer : Checked) → IsDecided input → Comes input answer
comes input (answers.TooLong line) d = tt
comes input (answers.Valid count) d = d
comes input answers.InvalidHeader d = d
comes input (answers.InvalidEntry number) d = d
comes input answers.InvalidEnd d = d

-- ---- a line at fault

pub fault_decided : (input : List ℕ) (header : Header) (all : List Item) (n : ℕ) (held : List Line) (tail : List ℕ) (reached : Progress) → IsBounded header → header.brief ≡ false
    → AreJudged header all n → IsRead input all held tail reached → (length input ≤ 1099511627776) ⊎ RefusedIn input → IsDecided input
fault_decided input header all n held tail reached bound full j read r =
    let s = behind_all input header all n held tail reached (up_to header n bound) full j read in
    refused_decided input header _ bound (record { text = s.text; form = s.form; full = full }) r

-- ---- an item at fault

nothing_like : List ℕ → Type 0
nothing_like next = ⊥

-- an entry behind which the next one or the end begins, alone
record Alone (bytes : List ℕ) (all : List Item) : Type 0 where
  tail : List ℕ
  reached : Progress
  read : IsRead bytes all [] tail reached
  next : begins_next tail ≡ true
  whole : may_end reached ≡ true

alone : (bytes front more : List ℕ) (found back : List Item) (item : Item) (held : List Line) (left : List ℕ) (reached : Progress) → IsEntryItem item → Stands none_appended front (found ++ item ∷ back) held left reached
    → IsShown (with_items none_appended (found ++ item ∷ back)) (text_of held ++ left) → bytes ≡ front ++ more → Alone bytes (found ++ item ∷ [])
unfolding nothing_like
alone bytes front more found back item held left reached is s shown split =
    let all = found ++ item ∷ [] in
    let w = entry_whole nothing_like front found back item held left reached is (stand_at front (found ++ item ∷ back) held left reached s) (λ none. s.items_lead) (λ some going. inl (shown some going)) in
    let begins : begins_next (w.next ++ more) ≡ true = elim w.shown [
      | inl b ↦ shows_more w.next more b
      | inr none ↦ absurd none
    ] in
    let nil = append-nil (lines_of all) in
    record {
      tail = w.next ++ more;
      reached = w.reached;
      read = record {
        text = split ∙ ap (λ (x : List ℕ). x ++ more) w.text ∙ append_assoc (text_of (lines_of all)) w.next more ∙ ap (λ (x : List Line). text_of x ++ (w.next ++ more)) (sym nil);
        lead = subst (λ (x : List Line). Lead stages.Start x w.reached) (sym nil) w.lead;
        numbered = w.numbered;
        one_entry = tt;
        shown = λ some going. inr begins;
      };
      next = begins;
      whole = w.whole;
    }

-- where the entry's lines lead
record Ends (header : Header) (es : List Entry) (ls : List Line) : Type 0 where
  from : Spot
  to : Spot
  from_whole : is_whole from.place ≡ true
  shapes : from.shapes ≡ length es
  goes : steps false from ls ≡ Some to
  to_whole : is_whole to.place ≡ true

ends_of : (bytes : List ℕ) (header : Header) (found : List Item) (item : Item) (n : ℕ) → IsBoundedTo header n → header.brief ≡ false → (j : AreJudged header found n) → Alone bytes (found ++ item ∷ []) → Ends header j.es (item_lines item)
ends_of bytes header found item n bound full j a =
    let i = next_item bytes header found [] item n [] a.tail a.reached bound full j a.read in
    record {
      from = i.1.spot;
      to = i.1.last;
      from_whole = i.1.whole;
      shapes = i.1.shapes;
      goes = subst (λ (x : List Line). steps false i.1.spot x ≡ Some i.1.last) (append-nil (item_lines item)) i.1.goes_on;
      to_whole = ap may_end i.1.reached_is ∙ a.whole;
    }

-- an item at fault among the bytes that are read decides
pub item_decides : (bytes front more : List ℕ) (header : Header) (found back : List Item) (item : Item) (n after : ℕ) (held : List Line) (left : List ℕ) (reached : Progress) (answer : Checked) → IsBoundedTo header n → header.brief ≡ false → AreJudged header found n
    → Stands none_appended front (found ++ item ∷ back) held left reached → IsShown (with_items none_appended (found ++ item ∷ back)) (text_of held ++ left) → bytes ≡ front ++ more
    → IsRead bytes (found ++ item ∷ back) held (left ++ more) reached → Judges header n after item (Some answer) → IsOpen bytes → ⊥
item_decides bytes front more header found back (items.Header other) n after held left reached answer bound full j s shown split read judges o =
    let i = next_item bytes header found back (items.Header other) n held (left ++ more) reached bound full j read in
    no_second_header i.1.spot i.1.last [] (lines_of back ++ held) other i.1.goes_on
item_decides bytes front more header found back (items.Entry line e) n after held left reached answer bound full j s shown split read judges o =
    let a = alone bytes front more found back (items.Entry line e) held left reached tt s shown split in
    let b = entry_bad bytes header found [] line e n [] a.tail a.reached bound full j a.read (holds_at 0 found [] (items.Entry line e) a.read.numbered) judges.1 in
    let w = ends_of bytes header found (items.Entry line e) n bound full j a in
    block_decides bytes header j.es e.cells (body_lines e) a.tail w.from w.to (subst (IsBoundedTo header) j.count bound) b a.next w.from_whole w.shapes w.goes w.to_whole o
item_decides bytes front more header found back (items.Brief line cells verdict) n after held left reached answer bound full j s shown split read judges o =
    let a = alone bytes front more found back (items.Brief line cells verdict) held left reached tt s shown split in
    let b = brief_bad bytes header found [] line cells verdict n [] a.tail a.reached bound full j a.read in
    let w = ends_of bytes header found (items.Brief line cells verdict) n bound full j a in
    block_decides bytes header j.es cells (lines.Verdict verdict ∷ []) a.tail w.from w.to (subst (IsBoundedTo header) j.count bound) b a.next w.from_whole w.shapes w.goes w.to_whole o
item_decides bytes front more header found back (items.End count) n after held left reached answer bound full j s shown split read judges o =
    let i = next_item bytes header found back (items.End count) n held (left ++ more) reached bound full j read in
    let behind = text_of (lines_of back ++ held) ++ (left ++ more) in
    end_decides bytes header j.es count behind (subst (IsBoundedTo header) j.count bound) (checked bytes header j.es (text_of (lines.End count ∷ []) ++ behind) i.1.text i.1.form full j.good (λ some. inr refl))
    (λ all. judges.1 (subst (AreAll header header.subject) (sym j.count) all)) o

-- ---- a last line that comes too early

or_right : (a b : Bool) → b ≡ true → (a || b) ≡ true
or_right true b e = refl
or_right false b e = e

ends_next : (left : List ℕ) → begins left (codes "end ") ≡ true → begins_next left ≡ true
ends_next left e = or_right (begins left (codes "shape ")) (begins left (codes "end ")) e

pub other_ends : (held : List Line) (left : List ℕ) → ending_of held left ≡ hands.Other → begins left (codes "end ") ≡ true → ⊥
other_ends [] left e ends = let bad : hands.Next ≡ hands.Other = sym (ap (λ (b : Bool). if b then hands.Next else hands.Other) ends) ∙ e in absurd cc
other_ends (line ∷ held) left e ends = let bad : hands.Inside ≡ hands.Other = sym (ap (λ (b : Bool). if b then hands.Inside else hands.Other) ends) ∙ e in absurd cc

-- a test that tells of what is at hand, where that isn't what it tells else
by_hand : (hand : AtHand) (b : Bool) → (hands.Other ≡ hand → ⊥) → (if b then hand else hands.Other) ≡ hand → b ≡ true
by_hand hand true other e = refl
by_hand hand false other e = absurd (other e)

never_told : (hand told : AtHand) (b : Bool) → (hand ≡ told → ⊥) → (hands.Other ≡ told → ⊥) → (if b then hand else hands.Other) ≡ told → ⊥
never_told hand told true here other e = here e
never_told hand told false here other e = other e

pub next_ends : (held : List Line) (left : List ℕ) → ending_of held left ≡ hands.Next → (held ≡ []) × (begins left (codes "end ") ≡ true)
next_ends [] left e = (refl, by_hand hands.Next (begins left (codes "end ")) (λ n. cc) e)
next_ends (line ∷ held) left e = absurd (never_told hands.Inside hands.Next (begins left (codes "end ")) (λ n. cc) (λ n. cc) e)

pub inside_ends : (held : List Line) (left : List ℕ) → ending_of held left ≡ hands.Inside → (held ≢ []) × (begins left (codes "end ") ≡ true)
inside_ends [] left e = absurd (never_told hands.Next hands.Inside (begins left (codes "end ")) (λ n. cc) (λ n. cc) e)
inside_ends (line ∷ held) left e = ((λ n. cc), by_hand hands.Inside (begins left (codes "end ")) (λ n. cc) e)

-- where the entries aren't all, no end was read
none_ended : (header : Header) (all : List Item) (n : ℕ) → (j : AreJudged header all n) → (AreAll header header.subject n → ⊥) → j.ends ≡ []
none_ended header all n j bad = elim j.ends_all [
  | inl none ↦ none
  | inr end ↦ absurd (bad (subst (AreAll header header.subject) (sym j.count) end.2))
]

-- behind the judged items
held_here : (bytes : List ℕ) (header : Header) (all : List Item) (n : ℕ) (held : List Line) (tail : List ℕ) (reached : Progress) → IsBounded header → header.brief ≡ false → (j : AreJudged header all n) → j.ends ≡ [] → IsRead bytes all held tail reached
    → Held bytes header j.es held tail reached
held_here bytes header all n held tail reached bound full j none read = held_at bytes header all n held tail reached j none read (behind_all bytes header all n held tail reached (up_to header n bound) full j read)

-- what is read ends in a last line that comes too early, so what is read isn't open
early_open : (front : List ℕ) (header : Header) (all : List Item) (n : ℕ) (held : List Line) (left : List ℕ) (reached : Progress) → IsBounded header → header.brief ≡ false → (j : AreJudged header all n) → j.ends ≡ [] → IsRead front all held left reached
    → HasNoNewline left → begins left (codes "end ") ≡ true → (AreAll header header.subject n → ⊥) → begins_next (text_of held ++ left) ≡ true → ((e : Entry) → IsGoodEntry header (length j.es) e → block_of (text_of held ++ left) ≡ entry_text e → ⊥)
    → IsOpen front → ⊥
early_open front header all n held left reached bound full j none read one_line ends bad next no_entry o =
    let h = held_here front header all n held left reached bound full j none read in
    let c = checked front header j.es (text_of held ++ left) h.stand.text h.stand.form full j.good h.shown in
    elim (same_rest front header j.es (text_of held ++ left) (up_to header (length j.es) bound) o c no_entry next) [
      | inl g ↦
          let same = same_reading held g.held left g.left h.stand.forms g.forms one_line g.one_line g.text in
          bad (subst (AreAll header header.subject) (sym j.count) (g.in_time (subst (λ (x : List ℕ). begins x (codes "end ") ≡ true) same.1 ends)))
      | inr g ↦ bad (subst (AreAll header header.subject) (sym j.count) g.all)
    ]

-- one length of what is read
same_read : (input : List ℕ) (line : ℕ) (front behind : List ℕ) → (t : IsTooLong input line) → input ≡ front ++ behind → length front ≡ 1099511627776 → t.front ≡ front
same_read input line front behind t split most = same_front t.front front (t.byte ∷ t.behind) behind (sym t.text ∙ split) (t.length_is ∙ sym most)

both : (a b : Bool) → (a && b) ≡ true → (a ≡ true) × (b ≡ true)
both true b e = (refl, e)
both false b e = absurd cc

other_byte : (b : ℕ) → nat_eq 101 b ≡ true → nat_eq 115 b ≡ false
other_byte b e = let is : 101 ≡ b = eqb-true 101 b e in ap (nat_eq 115) (sym is)

-- bytes that begin as the last line does begin no entry
no_shape_at : (left behind : List ℕ) → begins left (codes "end ") ≡ true → begins (left ++ behind) (codes "shape ") ≡ false
no_shape_at [] behind e = absurd cc
no_shape_at (b ∷ left) behind e = let f = both (nat_eq 101 b) (begins left (codes "nd ")) e in ap (λ (x : Bool). x && begins (left ++ behind) (codes "hape ")) (other_byte b f.0)

-- behind whole entries
pub early_end : (input : List ℕ) (header : Header) (all : List Item) (n line : ℕ) → IsBounded header → header.brief ≡ false → AreJudged header all n → (front behind : List ℕ) (held : List Line) (left : List ℕ) (reached : Progress)
    → input ≡ front ++ behind → length front ≡ 1099511627776 → IsRead front all held left reached → HasNoNewline left → held ≡ [] → begins left (codes "end ") ≡ true → (AreAll header header.subject n → ⊥) → IsChecked input answers.InvalidEnd
early_end input header all n line bound full j front behind held left reached split most read one_line nothing ends bad =
    let none = none_ended header all n j bad in
    let h = held_here front header all n held left reached bound full j none read in
    let alone : text_of held ++ left ≡ left = ap (λ (x : List Line). text_of x ++ left) nothing in
    let rest = left ++ behind in
    let text : input ≡ header_text header ++ (text_of (flat_map entry_lines j.es) ++ rest) =
    split ∙ ap (λ (x : List ℕ). x ++ behind) h.stand.text ∙ append_assoc (header_text header) (text_of (flat_map entry_lines j.es) ++ (text_of held ++ left)) behind
    ∙ ap (λ (x : List ℕ). header_text header ++ x) (append_assoc (text_of (flat_map entry_lines j.es)) (text_of held ++ left) behind ∙ ap (λ (x : List ℕ). text_of (flat_map entry_lines j.es) ++ (x ++ behind)) alone) in
    let next : begins_next rest ≡ true = shows_more left behind (ends_next left ends) in
    let no_shape : begins left (codes "shape ") ≡ false = subst (λ (x : List ℕ). begins x (codes "shape ") ≡ false) (append-nil left) (no_shape_at left [] ends) in (
      record {
        header = header;
        es = j.es;
        rest = rest;
        checked = checked input header j.es rest text h.stand.form full j.good (λ some. inr next);
        begins_none = no_shape_at left behind ends;
        no_end = λ end. bad (subst (AreAll header header.subject) (sym j.count) end.all);
      },
      λ at t. early_open front header all n held left reached bound full j none read one_line ends bad (subst (λ (x : List ℕ). begins_next x ≡ true) (sym alone) (ends_next left ends))
          (λ e good same. false≢true (sym no_shape ∙ begins_entry left e (subst (λ (x : List ℕ). block_of x ≡ entry_text e) alone same))) (subst IsOpen (same_read input at front behind t split most) t.goes_on),
    )

-- behind lines of an entry that it breaks off
pub early_entry : (input : List ℕ) (header : Header) (all : List Item) (n line : ℕ) → IsBounded header → header.brief ≡ false → AreJudged header all n → (front behind : List ℕ) (held : List Line) (left : List ℕ) (reached : Progress)
    → input ≡ front ++ behind → length front ≡ 1099511627776 → IsRead front all held left reached → HasNoNewline left → IsPrompt held left reached → held ≢ [] → begins left (codes "end ") ≡ true → (AreAll header header.subject n → ⊥)
    → IsChecked input (answers.InvalidEntry (n + 1))
early_entry input header all n line bound full j front behind held left reached split most read one_line prompt some ends bad = by_held held read prompt some
  where
    none : j.ends ≡ []
    none = none_ended header all n j bad

    by_held : (held : List Line) → IsRead front all held left reached → IsPrompt held left reached → held ≢ [] → IsChecked input (answers.InvalidEntry (n + 1))
    by_held [] read prompt some = absurd (some refl)
    by_held (lines.Shape cells ∷ inner) read prompt some =
        let held = lines.Shape cells ∷ inner in
        let h = held_here front header all n held left reached bound full j none read in
        let broken : (e : Entry) → IsGoodEntry header (length j.es) e → text_of held ≡ entry_text e → ⊥ = λ e good same.
        let is = same_lines held (entry_lines e) h.stand.forms good.forms same in
        let low = bound.below (length j.es) e.cells good.in_place in
        let shapes = h.stand.shapes in
        let m = (may_stand (geometry_of header.grid) header.limits e good.is_true).full h.stand.spot h.stand.whole (omega (arith, low, shapes)) in
        let at : h.stand.last ≡ m.behind = same_place h.stand.spot h.stand.last m.behind held (entry_lines e) is h.stand.goes_on m.reached in
        let whole : may_end reached ≡ true = ap may_end (sym h.stand.reached_is) ∙ ap (λ (x : Spot). is_whole x.place) at ∙ m.whole in
        some (prompt whole (ends_next left ends)) in
        let text : input ≡ header_text header ++ (text_of (flat_map entry_lines j.es) ++ (text_of held ++ (left ++ behind))) =
        split ∙ ap (λ (x : List ℕ). x ++ behind) h.stand.text ∙ append_assoc (header_text header) (text_of (flat_map entry_lines j.es) ++ (text_of held ++ left)) behind
        ∙ ap (λ (x : List ℕ). header_text header ++ x) (append_assoc (text_of (flat_map entry_lines j.es)) (text_of held ++ left) behind ∙ ap (λ (x : List ℕ). text_of (flat_map entry_lines j.es) ++ x) (append_assoc (text_of held) left behind)) in
        let block : BadBlock input header j.es cells inner (left ++ behind) = record {
          text = text;
          form = h.stand.form;
          full = full;
          good = j.good;
          forms = h.stand.forms;
          inside = read.one_entry.1;
          next = inr (shows_more left behind (ends_next left ends));
          none = broken;
        } in
        let here : BadBlock front header j.es cells inner left = record {
          text = h.stand.text;
          form = h.stand.form;
          full = full;
          good = j.good;
          forms = h.stand.forms;
          inside = read.one_entry.1;
          next = inr (ends_next left ends);
          none = broken;
        } in (
          invalid_block input header j.es cells inner (left ++ behind) (n + 1) block (ap (λ (x : ℕ). x + 1) j.count),
          λ at t. early_open front header all n held left reached bound full j none read one_line ends bad refl (bad_none front header j.es cells inner left here) (subst IsOpen (same_read input at front behind t split most) t.goes_on),
        )
    by_held (line ∷ inner) read prompt some = absurd read.one_entry.0
