-- What is answered of the whole input.
use Rattle.std.proofs.Common.{◌≡◌, ◌⊎◌, inl, inr, ℕ, ◌≤◌, length, List, [], ◌∷◌, ◌++◌, Bool, true, Option, Some, None, Result, Ok, Err, refl, sym, ap, subst, ◌∙◌, append_assoc}
use Rattle.std.specs.Io.KnownBytes.{Consumes, IsAtEnd}
use Rattle.std.proofs.lemmas.List.{append-nil}
use Rattle.heesch_grid.specs.declared.Cell.{Cell}
use Rattle.heesch_grid.specs.declared.GridName.{GridName}
use Rattle.heesch_grid.specs.Names.{geometry_of}
use Rattle.heesch_cert.specs.declared.verdict.Verdict.{Verdict}
use Rattle.heesch_text.specs.declared.line.Line.{Line}
use Rattle.heesch_text.specs.Lines.{text_of}
use Rattle.heesch_shape.specs.Faults.{IsFaultless}
use Rattle.heesch_reader.specs.declared.item.Item.{Item}
use Rattle.heesch_reader.specs.declared.progress.Progress.{Progress}
use Rattle.heesch_reader.specs.declared.progress.Progress.TheVariants as stages
use Rattle.heesch_reader.specs.Progress.{Lead, walk}
use Rattle.heesch_reader.specs.declared.item.Item.TheVariants as items
use Rattle.heesch_reader.specs.Items.{lines_of, with_items, none_appended}
use Rattle.heesch_reader.specs.Feeding.{ItemsLead, Stands, IsShown, IsShownAtEnd}
use Rattle.heesch_reader.specs.declared.answers.Taken.{Taken}
use Rattle.heesch_reader.specs.declared.answers.Taken.TheVariants as takens
use Rattle.heesch_reader.specs.declared.answers.StreamStop.{StreamStop}
use Rattle.heesch_reader.specs.declared.answers.StreamStop.TheVariants as stream_stops
use Rattle.heesch_reader.specs.Input.{IsWholeCatalogue}
use Rattle.heesch_reader.specs.Taking.{Streamed, HasRead, TakeResult, TakesOnePiece}
use Rattle.heesch_io.proofs.KnownBytes.{consumes_both}
use Rattle.heesch_table.specs.Counts.{counts_of}
use Rattle.heesch_table.specs.Texts.{tally_text}
use Rattle.heesch_table.specs.declared.answers.EntryFault.{EntryFault}
use Rattle.heesch_table.specs.declared.answers.Onward.{Onward}
use Rattle.heesch_table.specs.declared.answers.Onward.TheVariants as onwards
use Rattle.heesch_table.specs.declared.table.Table.{Table}
use Rattle.heesch_table.specs.Entries.{entries_of, IsEntryAt, IsOfGrid, AreShapes}
use Rattle.heesch_table.specs.TableSteps.{IsOnward, IsFaultOf, HasTable, AreReady, CountsItems, StopsAtFault}
use Rattle.heesch_io.specs.Input.{IsAllOf, ReadsNoFurther}
use Rattle.heesch_table.specs.Tabulating.{IsTallied, AreWholeAt, HasShapeFault, HasTextFault, HasLengthFault, DecideNothing}
use Rattle.heesch_table.proofs.Standing.{all_both, entries_append, ready}
use Rattle.heesch_reader.proofs.Whole.{IsEntryItem, WholeAt, StandAt, stand_at, last_is_end, entry_whole}

-- what was read so far was counted
pub record Going (first now : Option (List ℕ)) (s : Streamed) (t : Table) : Type 0 where
  pub found : List Item
  pub has_read : HasRead first now found s
  pub table : HasTable found t

ready_of : (found more items : List Item) (held : List Line) → items ≡ more → (q : Progress) → Lead stages.Start (lines_of (found ++ more) ++ held) q → AreReady found items
ready_of found more items held e q l = subst (λ (x : List Item). AreReady found x) (sym e) (ready found more held q l)

-- a step of the stream behind what was counted
pub record Stepped (first now : Option (List ℕ)) (new : Streamed) (items : List Item) (onward : Onward) (table : Table) : Type 0 where
  pub before : Option (List ℕ)
  pub failed : ℕ
  pub fails : ℕ
  pub old : Streamed
  pub taken : Result Taken StreamStop
  pub going : Going first before old table
  pub result : TakeResult before now failed fails old new [] items taken
  pub onward_is : IsOnward taken (Ok onward)

-- what it did, by what it answered
as_answered : {first now : Option (List ℕ)} {new : Streamed} {items : List Item} {onward : Onward} {table : Table} (s : Stepped first now new items onward table) (answer : Result Taken StreamStop)
    → s.taken ≡ answer → TakeResult s.before now s.failed s.fails s.old new [] items answer
as_answered {first} {now} {new} {items} s answer is = subst (λ (x : Result Taken StreamStop). TakeResult s.before now s.failed s.fails s.old new [] items x) is s.result

-- how the input goes on behind it
onward_as : {first now : Option (List ℕ)} {new : Streamed} {items : List Item} {onward : Onward} {table : Table} (s : Stepped first now new items onward table) (other : Onward) → onward ≡ other → IsOnward s.taken (Ok other)
onward_as s other is = subst (λ (o : Onward). IsOnward s.taken (Ok o)) is s.onward_is

-- it makes items that may be counted
pub items_ready : {first now : Option (List ℕ)} {new : Streamed} {items : List Item} {onward : Onward} {table : Table} (s : Stepped first now new items onward table) → AreReady s.going.found items
items_ready {first} {now} {new} {items} {onward} s = by_onward onward s.onward_is
  where
    by_onward : (o : Onward) → IsOnward s.taken (Ok o) → AreReady s.going.found items
    by_onward onwards.More o =
        let found = s.going.found in
        let t = as_answered s (Ok takens.Piece) o in
        let n = t.has_read first found s.going.has_read in
        ready_of found t.more items n.begins.held t.after_is n.begins.reached n.begins.stands.lead
    by_onward onwards.End o =
        let found = s.going.found in
        let t = as_answered s (Ok takens.End) o in
        let n = t.catalogue first found s.going.has_read in
        ready_of found t.more items [] t.after_is n.catalogue.reached (subst (λ (x : List Line). Lead stages.Start x n.catalogue.reached) (sym (append-nil (lines_of (found ++ t.more)))) n.catalogue.lead)
    by_onward (onwards.Fault line number) (inl (part, o, _)) =
        let found = s.going.found in
        let t = as_answered s (Err (stream_stops.NotText line part)) o in
        let n = t.fault first found s.going.has_read in
        elim n.fault [
          | inl r ↦ ready_of found t.more items r.held t.after_is r.reached (subst (λ (x : List Item). Lead stages.Start (lines_of x ++ r.held) r.reached) (sym r.after_is) r.stands.lead)
          | inr r ↦ ready_of found t.more items r.0.held t.after_is r.0.reached (subst (λ (x : List Item). Lead stages.Start (lines_of x ++ r.0.held) r.0.reached) (sym r.0.after_is) r.0.stands.lead)
        ]
    by_onward (onwards.Fault line number) (inr (o, _)) =
        let found = s.going.found in
        let t = as_answered s (Err (stream_stops.TooLong line)) o in
        let b = s.going.has_read.begins in
        ready_of found [] items b.held t.after_is b.reached (subst (λ (x : List Item). Lead stages.Start (lines_of x ++ b.held) b.reached) (sym (append-nil found)) b.stands.lead)

-- the grid of the first items
grid_front : (grid : GridName) (f g : List Item) → IsOfGrid grid (f ++ g) → IsOfGrid grid f
grid_front grid [] g h = tt
grid_front grid (items.Header header ∷ f) g h = h
grid_front grid (items.Entry line entry ∷ f) g h = absurd h
grid_front grid (items.Brief line cells verdict ∷ f) g h = absurd h
grid_front grid (items.End count ∷ f) g h = absurd h

-- ---- the items of a step are whole in the input

-- an entry of the step, and the items before it, are whole at the front of the input
record WholeInput (first : Option (List ℕ)) (front : List Item) (item : Item) : Type 0 where
  input : List ℕ
  all_of : IsAllOf first input
  whole : AreWholeAt input (front ++ item ∷ [])

unread : Option (List ℕ) → List ℕ
unread None = []
unread (Some bytes) = bytes

all_of_rest : (first now : Option (List ℕ)) (xs : List ℕ) → Consumes first now xs → IsAllOf first (xs ++ unread now)
unfolding unread
all_of_rest None now xs c = tt
all_of_rest (Some all) None xs c = absurd c
all_of_rest (Some all) (Some left) xs c = sym c

-- the bytes that are read end behind it, or the input does
ends_here : (input bytes behind : List ℕ) (found : List Item) (Q : List ℕ → Type 0) → input ≡ bytes ++ behind → length bytes ≤ 1099511627776 → ((next : List ℕ) → Q next → (next ≡ []) × (behind ≡ [])) → WholeAt Q bytes found → AreWholeAt input found
ends_here input bytes behind found Q split few ends w = record {
  next = w.next;
  behind = behind;
  reached = w.reached;
  split = split ∙ ap (λ (x : List ℕ). x ++ behind) w.text;
  few = subst (λ (x : List ℕ). length x ≤ 1099511627776) w.text few;
  lead = w.lead;
  numbered = w.numbered;
  whole = w.whole;
  shown = elim w.shown [
    | inl begins ↦ inl begins
    | inr q ↦ inr (ends w.next q)
  ];
}

-- nothing is like that
None_ : List ℕ → Type 0
None_ next = ⊥

is_empty : List ℕ → Type 0
is_empty next = next ≡ []

begun_whole : (input bytes behind : List ℕ) (front back : List Item) (item : Item) → IsEntryItem item → input ≡ bytes ++ behind → length bytes ≤ 1099511627776 → (held : List Line) (left : List ℕ) (reached : Progress)
    → Stands none_appended bytes (front ++ item ∷ back) held left reached → IsShown (with_items none_appended (front ++ item ∷ back)) (text_of held ++ left) → AreWholeAt input (front ++ item ∷ [])
unfolding None_
begun_whole input bytes behind front back item is split few held left reached s shown =
    ends_here input bytes behind (front ++ item ∷ []) None_ split few (λ next q. absurd q) (entry_whole None_ bytes front back item held left reached is (stand_at bytes (front ++ item ∷ back) held left reached s) (λ none. s.items_lead) (λ some going. inl (shown some going)))

ended_whole : (input bytes behind : List ℕ) (front back : List Item) (item : Item) → IsEntryItem item → input ≡ bytes ++ behind → length bytes ≤ 1099511627776 → behind ≡ [] → (held : List Line) (left : List ℕ) (reached : Progress)
    → StandAt bytes (front ++ item ∷ back) held left reached → (back ≡ [] → ItemsLead none_appended (front ++ item ∷ back)) → IsShownAtEnd (with_items none_appended (front ++ item ∷ back)) (text_of held ++ left) → AreWholeAt input (front ++ item ∷ [])
unfolding is_empty
ended_whole input bytes behind front back item is split few none held left reached s leads shown =
    ends_here input bytes behind (front ++ item ∷ []) is_empty split few (λ next q. (q, none)) (entry_whole is_empty bytes front back item held left reached is s leads
    (λ some going. elim (shown some going) [
      | inl empty ↦ inr empty
      | inr begins ↦ inl begins
    ]))

no_item : (front back : List Item) (item : Item) → [] ≡ front ++ item ∷ back → ⊥
no_item [] back item e = absurd cc
no_item (x ∷ front) back item e = absurd cc

catalogue_stands : (input : List ℕ) (all : List Item) → (c : IsWholeCatalogue input all) → StandAt input all [] [] c.reached
catalogue_stands input all c =
    let alone = append-nil (lines_of all) in
    record {
      text = c.text ∙ ap text_of (sym alone) ∙ sym (append-nil (text_of (lines_of all ++ [])));
      lead = subst (λ (x : List Line). Lead stages.Start x c.reached) (sym alone) c.lead;
      numbered = c.numbered;
    }

entry_item : (item : Item) (line : ℕ) (cells : List Cell) → IsEntryAt item line cells → IsEntryItem item
entry_item (items.Header header) line cells is = is
entry_item (items.Entry first entry) line cells is = tt
entry_item (items.Brief first given verdict) line cells is = tt
entry_item (items.End count) line cells is = is

step_whole : {first now : Option (List ℕ)} {new : Streamed} {items : List Item} {onward : Onward} {table : Table} (s : Stepped first now new items onward table) (front back : List Item) (item : Item) (line : ℕ) (cells : List Cell)
    → IsEntryAt item line cells → items ≡ front ++ item ∷ back → WholeInput first (s.going.found ++ front) item
step_whole {first} {now} {new} {items} {onward} s front back item line cells is e = by_onward onward s.onward_is
  where
    one : IsEntryItem item
    one = entry_item item line cells is

    split_at : (more : List Item) → items ≡ more → s.going.found ++ more ≡ (s.going.found ++ front) ++ item ∷ back
    split_at more after = ap (λ (x : List Item). s.going.found ++ x) (sym after ∙ e) ∙ sym (append_assoc s.going.found front (item ∷ back))

    by_onward : (onward : Onward) → IsOnward s.taken (Ok onward) → WholeInput first (s.going.found ++ front) item
    by_onward onwards.More o =
        let t = as_answered s (Ok takens.Piece) o in
        let n = t.has_read first s.going.found s.going.has_read in
        let split = split_at t.more t.after_is in
        record {
          input = n.bytes ++ unread now;
          all_of = all_of_rest first now n.bytes n.consumed;
          whole = begun_whole (n.bytes ++ unread now) n.bytes (unread now) (s.going.found ++ front) back item one refl n.at_most n.begins.held n.begins.left n.begins.reached
              (subst (λ (x : List Item). Stands none_appended n.bytes x n.begins.held n.begins.left n.begins.reached) split n.begins.stands)
              (subst (λ (x : List Item). IsShown (with_items none_appended x) (text_of n.begins.held ++ n.begins.left)) split n.begins.shown);
        }
    by_onward onwards.End o =
        let found = s.going.found in
        let t = as_answered s (Ok takens.End) o in
        let n = t.catalogue first found s.going.has_read in
        let split = split_at t.more t.after_is in
        record {
          input = n.input;
          all_of = n.all_of;
          whole = ended_whole n.input n.input [] (found ++ front) back item one (sym (append-nil n.input)) n.few refl [] [] n.catalogue.reached
              (subst (λ (x : List Item). StandAt n.input x [] [] n.catalogue.reached) split (catalogue_stands n.input (found ++ t.more) n.catalogue))
              (λ none. absurd (last_is_end (found ++ front) back item n.catalogue.reached one
              (subst (λ (x : List Item). walk stages.Start (lines_of x) ≡ Some n.catalogue.reached) split n.catalogue.lead.reached)
              (subst (λ (x : List Item). (with_items none_appended x).ended ≡ true) split n.catalogue.ended) none))
              (λ some going. inl refl);
        }
    by_onward (onwards.Fault at number) (inl (part, o, _)) =
        let found = s.going.found in
        let t = as_answered s (Err (stream_stops.NotText at part)) o in
        let n = t.fault first found s.going.has_read in
        let split = split_at t.more t.after_is in
        elim n.fault [
          | inl r ↦
              let stood = sym r.after_is ∙ split in
              record {
                input = n.input;
                all_of = n.all_of;
                whole = begun_whole n.input n.front n.behind (found ++ front) back item one n.split n.few r.held r.left r.reached
                    (subst (λ (x : List Item). Stands none_appended n.front x r.held r.left r.reached) stood r.stands)
                    (subst (λ (x : List Item). IsShown (with_items none_appended x) (text_of r.held ++ r.left)) stood r.shown);
              }
          | inr f ↦
              let r = f.0 in
              let stood = sym r.after_is ∙ split in
              record {
                input = n.input;
                all_of = n.all_of;
                whole = ended_whole n.input n.front n.behind (found ++ front) back item one n.split n.few f.1 r.held r.left r.reached
                    (stand_at n.front ((found ++ front) ++ item ∷ back) r.held r.left r.reached (subst (λ (x : List Item). Stands none_appended n.front x r.held r.left r.reached) stood r.stands))
                    (λ none. (subst (λ (x : List Item). Stands none_appended n.front x r.held r.left r.reached) stood r.stands).items_lead)
                    (subst (λ (x : List Item). IsShownAtEnd (with_items none_appended x) (text_of r.held ++ r.left)) stood r.shown);
              }
        ]
    by_onward (onwards.Fault at number) (inr (o, _)) =
        let t = as_answered s (Err (stream_stops.TooLong at)) o in
        absurd (no_item front back item (sym t.after_is ∙ e))

-- ---- what one step tells

-- an entry of it has the first fault
pub fault_told : {first now : Option (List ℕ)} {new : Streamed} {items : List Item} {onward : Onward} {table : Table} (s : Stepped first now new items onward table) (after : Table) (told : EntryFault) → CountsItems table after items (Some told) → HasShapeFault first told.line told.number
fault_told {first} {now} {new} {items} s after told k =
    let found = s.going.found in
    let stops : StopsAtFault found items told.line told.number = k found s.going.table (items_ready s) in
    let f = stops.first in
    let w = step_whole s f.before f.behind f.item told.line f.cells f.entry f.split in
    let same : found ++ items ≡ ((found ++ f.before) ++ f.item ∷ []) ++ f.behind = ap (λ (x : List Item). found ++ x) f.split ∙ sym (append_assoc found f.before (f.item ∷ f.behind)) ∙ sym (append_assoc (found ++ f.before) (f.item ∷ []) f.behind) in
    let g = geometry_of stops.grid in
    record {
      input = w.input;
      all_of = w.all_of;
      before = found ++ f.before;
      item = f.item;
      whole = w.whole;
      grid = stops.grid;
      of_grid = grid_front stops.grid ((found ++ f.before) ++ f.item ∷ []) f.behind (subst (λ (x : List Item). IsOfGrid stops.grid x) same stops.of_grid);
      shapes = subst (λ (x : List (List Cell × Verdict)). AreShapes g x) (sym (entries_append found f.before)) (all_both (λ (e : List Cell × Verdict). IsFaultless g e.0) (entries_of found) (entries_of f.before) stops.shapes f.shapes);
      cells = f.cells;
      entry = f.entry;
      fault = f.fault;
      is_fault = f.is_fault;
      number_is = f.number_is;
    }

-- where all its items were counted, so were those that it appended
all_table : {first now : Option (List ℕ)} {new : Streamed} {items : List Item} {onward : Onward} {table : Table} (s : Stepped first now new items onward table) (after : Table) (more : List Item) → CountsItems table after items None → items ≡ more → HasTable (s.going.found ++ more) after
all_table s after more k is = subst (λ (x : List Item). HasTable (s.going.found ++ x) after) is (k s.going.found s.going.table (items_ready s))

-- all its items were counted, and more is read
pub more_counted : {first now : Option (List ℕ)} {new : Streamed} {items : List Item} {onward : Onward} {table : Table} (s : Stepped first now new items onward table) (after : Table) → onward ≡ onwards.More → CountsItems table after items None → Going first now new after
more_counted {first} s after more k =
    let t = as_answered s (Ok takens.Piece) (onward_as s onwards.More more) in
    record { found = s.going.found ++ t.more; has_read = t.has_read first s.going.found s.going.has_read; table = all_table s after t.more k t.after_is }

-- the end was read, and the text is that of the tally
pub all_counted : {first now : Option (List ℕ)} {new : Streamed} {items : List Item} {onward : Onward} {table : Table} (s : Stepped first now new items onward table) (after : Table) (text : List ℕ) → onward ≡ onwards.End → CountsItems table after items None
    → ((counted : List (Bool × Verdict)) → after.tally ≡ counts_of counted → text ≡ tally_text counted) → IsTallied first text
all_counted {first} s after text end k w =
    let t = as_answered s (Ok takens.End) (onward_as s onwards.End end) in
    let m = all_table s after t.more k t.after_is in
    record {
      all = s.going.found ++ t.more;
      read = t.catalogue first s.going.found s.going.has_read;
      grid = m.grid;
      of_grid = m.of_grid;
      shapes = m.shapes;
      counted = m.counted;
      counts = m.counts;
      text_is = w m.counted m.tally_is;
    }

-- the input has a fault behind its items
pub input_told : {first now : Option (List ℕ)} {new : Streamed} {items : List Item} {onward : Onward} {table : Table} (s : Stepped first now new items onward table) (after : Table) (line number : ℕ) → onward ≡ onwards.Fault line number → CountsItems table after items None
    → HasTextFault first line number ⊎ HasLengthFault first line number
input_told {first} {now} {new} {items} s after line number is k = by_fault (onward_as s (onwards.Fault line number) is)
  where
    by_fault : IsFaultOf s.taken line number → HasTextFault first line number ⊎ HasLengthFault first line number
    by_fault (inl (part, o, number_is)) =
        let found = s.going.found in
        let t = as_answered s (Err (stream_stops.NotText line part)) o in
        let m = all_table s after t.more k t.after_is in
        inl (record { all = found ++ t.more; part = part; fault = t.fault first found s.going.has_read; grid = m.grid; of_grid = m.of_grid; shapes = m.shapes; number_is = number_is })
    by_fault (inr (o, number_is)) =
        let found = s.going.found in
        let t = as_answered s (Err (stream_stops.TooLong line)) o in
        let m = subst (λ (x : List Item). HasTable x after) (append-nil found) (all_table s after [] k t.after_is) in
        inr (record { all = found; too_many = (t.too_many first found s.going.has_read).0; grid = m.grid; of_grid = m.of_grid; shapes = m.shapes; number_is = number_is })

-- what was read before one more piece decides nothing
pub going_no_further : (first before now : Option (List ℕ)) (s : Streamed) (table : Table) → Going first before s table → TakesOnePiece before now → ReadsNoFurther DecideNothing first now
going_no_further first before now s table going piece =
    let h = going.has_read in
    let t = going.table in
    record {
      bytes = h.bytes;
      last = piece.0;
      consumed = consumes_both first before now h.bytes piece.0 h.consumed piece.1;
      one_piece = piece.2;
      undecided = record { few = h.at_most; all = going.found; begins = h.begins; grid = t.grid; of_grid = t.of_grid; shapes = t.shapes };
    }

-- the end was read at the end of the input
pub at_end : {first now : Option (List ℕ)} {new : Streamed} {items : List Item} {onward : Onward} {table : Table} (s : Stepped first now new items onward table) → onward ≡ onwards.End → (s.taken ≡ Ok takens.End → IsAtEnd now) → IsAtEnd now
at_end s end h = h (onward_as s onwards.End end)
