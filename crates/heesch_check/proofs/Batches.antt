-- Items that were judged one after the other.
use Rattle.std.proofs.Common.{◌≡◌, ◌⊎◌, inl, inr, ℕ, ◌+◌, ◌<◌, ◌≤◌, true, false, List, [], ◌∷◌, ◌++◌, length, get_or, take, drop, Option, Some, None, refl, sym, ap, subst, ◌∙◌, append_assoc}
use Rattle.std.specs.Prelude.{is_some}
use Rattle.std.proofs.lemmas.List.{append-nil}
use Rattle.std.proofs.lemmas.List.{take_more, take-append-drop, drop_more}
use Rattle.heesch_cert.specs.declared.header.Header.{Header}
use Rattle.heesch_text.specs.declared.line.Line.{Line}
use Rattle.heesch_text.specs.Lines.{text_of}
use Rattle.heesch_reader.specs.Items.{with_items, none_appended}
use Rattle.heesch_reader.specs.Feeding.{IsShown, Stands}
use Rattle.heesch_reader.specs.declared.item.Item.{Item}
use Rattle.heesch_reader.specs.declared.progress.Progress.{Progress}
use Rattle.heesch_check.specs.declared.answers.Checked.{Checked}
use Rattle.heesch_check.specs.Answers.{Tells, Comes}
use Rattle.heesch_check.specs.Judging.{AreJudged, Judges, AreAllGood, StopsIn, JudgesAll}
use Rattle.heesch_check.specs.declared.reading.Reading.{Reading}
use Rattle.heesch_check.specs.Reading.{IsAnswerOf, JudgesRound}
use Rattle.heesch_check.proofs.Leading.{IsBounded, up_to}
use Rattle.heesch_check.proofs.Seen.{IsRead}
use Rattle.heesch_check.proofs.Answering.{settled, holds_at}
use Rattle.heesch_check.proofs.Deciding.{Fronted, reads_on, stands_read, shown_on}
use Rattle.heesch_check.proofs.Early.{comes, item_decides}
use Rattle.heesch_check.proofs.OneAnswer.{short_decided}

-- one more item that is good
pub good_more : (header : Header) (before middle after : ℕ) (front : List Item) (item : Item) → AreAllGood header before middle front → Judges header middle after item None → AreAllGood header before after (front ++ item ∷ [])
good_more header before middle after [] item good judges = (after, subst (λ (x : ℕ). Judges header x after item None) good judges, refl)
good_more header before middle after (x ∷ front) item good judges = (good.0, good.1, good_more header good.0 middle after front item good.2 judges)

-- the items that were judged good belong to those that were judged
pub all_settled : (input : List ℕ) (header : Header) (found front back : List Item) (before after : ℕ) (held : List Line) (tail : List ℕ) (reached : Progress) → IsBounded header → header.brief ≡ false
    → AreJudged header found before → IsRead input (found ++ (front ++ back)) held tail reached → AreAllGood header before after front → AreJudged header (found ++ front) after
all_settled input header found [] back before after held tail reached bound full j read good =
    subst (λ (x : List Item). AreJudged header x after) (sym (append-nil found)) (subst (AreJudged header found) (sym good) j)
all_settled input header found (item ∷ front) back before after held tail reached bound full j read good =
    let here : AreJudged header (found ++ item ∷ []) good.0 = settled input header found (front ++ back) item before good.0 held tail reached None (up_to header before bound) full j read (holds_at 0 found (front ++ back) item read.numbered) good.1 in
    let read_on : IsRead input ((found ++ item ∷ []) ++ (front ++ back)) held tail reached = subst (λ (x : List Item). IsRead input x held tail reached) (sym (append_assoc found (item ∷ []) (front ++ back))) read in
    subst (λ (x : List Item). AreJudged header x after) (append_assoc found (item ∷ []) front)
    (all_settled input header (found ++ item ∷ []) front back good.0 after held tail reached bound full here read_on good.2)

-- the answer of an item at fault is that of the input
pub stop_settled : (input : List ℕ) (header : Header) (found items : List Item) (before after : ℕ) (held : List Line) (tail : List ℕ) (reached : Progress) (answer : Checked) → IsBounded header → header.brief ≡ false
    → AreJudged header found before → IsRead input (found ++ items) held tail reached → StopsIn header before after items answer → Tells input answer
stop_settled input header found items before after held tail reached answer bound full j read stop =
    let whole : IsRead input (found ++ (stop.front ++ stop.item ∷ stop.back)) held tail reached = subst (λ (x : List Item). IsRead input (found ++ x) held tail reached) stop.split read in
    let here = all_settled input header found stop.front (stop.item ∷ stop.back) before stop.middle held tail reached bound full j whole stop.good in
    let read_on : IsRead input ((found ++ stop.front) ++ stop.item ∷ stop.back) held tail reached = subst (λ (x : List Item). IsRead input x held tail reached) (sym (append_assoc found stop.front (stop.item ∷ stop.back))) whole in
    settled input header (found ++ stop.front) stop.back stop.item stop.middle after held tail reached (Some answer) (up_to header stop.middle bound) full here read_on (holds_at 0 (found ++ stop.front) stop.back stop.item read_on.numbered) stop.judges

-- an item at fault among the bytes that are read decides
pub stop_decided : (input : List ℕ) (header : Header) (found items : List Item) (before after : ℕ) (answer : Checked) → IsBounded header → header.brief ≡ false
    → AreJudged header found before → (length input ≤ 1099511627776) ⊎ Fronted input (found ++ items) → StopsIn header before after items answer → Comes input answer
stop_decided input header found items before after answer bound full j (inl few) stop = comes input answer (short_decided input few)
stop_decided input header found items before after answer bound full j (inr f) stop = comes input answer (λ line t.
    let more = reads_on input line f.front f.behind t f.split f.few in
    let split : found ++ items ≡ found ++ (stop.front ++ stop.item ∷ stop.back) = ap (λ (x : List Item). found ++ x) stop.split in
    let whole : found ++ items ≡ (found ++ stop.front) ++ stop.item ∷ stop.back = split ∙ sym (append_assoc found stop.front (stop.item ∷ stop.back)) in
    let read : IsRead t.front (found ++ items) f.held (f.left ++ more.0) f.reached =
    subst (λ (x : List ℕ). IsRead x (found ++ items) f.held (f.left ++ more.0) f.reached) (sym more.1) (stands_read f.front more.0 (found ++ items) f.held f.left f.reached f.stands (shown_on (found ++ items) f.held f.left more.0 f.shown)) in
    let here = all_settled t.front header found stop.front (stop.item ∷ stop.back) before stop.middle f.held (f.left ++ more.0) f.reached bound full j (subst (λ (x : List Item). IsRead t.front x f.held (f.left ++ more.0) f.reached) split read) stop.good in
    let read_on : IsRead t.front ((found ++ stop.front) ++ stop.item ∷ stop.back) f.held (f.left ++ more.0) f.reached = subst (λ (x : List Item). IsRead t.front x f.held (f.left ++ more.0) f.reached) whole read in
    item_decides t.front f.front more.0 header (found ++ stop.front) stop.back stop.item stop.middle after f.held f.left f.reached answer (up_to header stop.middle bound) full here
    (subst (λ (x : List Item). Stands none_appended f.front x f.held f.left f.reached) whole f.stands) (subst (λ (x : List Item). IsShown (with_items none_appended x) (text_of f.held ++ f.left)) whole f.shown) more.1 read_on stop.judges t.goes_on)

-- all items were judged good
pub batch_settled : (input : List ℕ) (header : Header) (found items : List Item) (before after : ℕ) (held : List Line) (tail : List ℕ) (reached : Progress) → IsBounded header → header.brief ≡ false
    → AreJudged header found before → IsRead input (found ++ items) held tail reached → AreAllGood header before after items → AreJudged header (found ++ items) after
batch_settled input header found items before after held tail reached bound full j read good =
    all_settled input header found items [] before after held tail reached bound full j (subst (λ (x : List Item). IsRead input (found ++ x) held tail reached) (sym (append-nil items)) read) good

-- ---- the loop over items

is_none : {A : Type 0} (o : Option A) → is_some o ≡ false → o ≡ None
is_none None e = refl
is_none (Some a) e = absurd cc

-- an item that isn't good stops the loop
pub stops_loop : (header own : Header) (before middle after i : ℕ) (items : List Item) (item : Item) (answer : Option Checked) → own ≡ header → AreAllGood header before middle (take i items) → i < length items
    → item ≡ get_or items i item → Judges own middle after item answer → is_some answer ≡ true → JudgesAll header before after items answer
stops_loop header own before middle after i items item None same good lt is judges some = absurd cc
stops_loop header own before middle after i items item (Some answer) same good lt is judges some = record {
  front = take i items;
  item = item;
  back = drop (i + 1) items;
  middle = middle;
  split = sym (take-append-drop i items) ∙ ap (λ (x : List Item). take i items ++ x) (drop_more items i item lt ∙ ap (λ (x : Item). x ∷ drop (i + 1) items) (sym is));
  good = good;
  judges = subst (λ (x : Header). Judges x middle after item (Some answer)) same judges;
}

-- an answer to some of a round's items is that of the round
pub round_stopped : (header : Header) (before after : ℕ) (found : List Item) (reading : Reading) (answer : Option Checked) → is_some answer ≡ true → JudgesAll header before after found answer → JudgesRound header before after found reading answer
round_stopped header before after found reading None some judges = absurd cc
round_stopped header before after found reading (Some answer) some judges = inl judges

-- else it is what reading came to behind them
pub round_read : (header : Header) (before after : ℕ) (found : List Item) (reading : Reading) (judged answer : Option Checked) → is_some judged ≡ false → JudgesAll header before after found judged → IsAnswerOf header after reading answer
    → JudgesRound header before after found reading answer
round_read header before after found reading (Some told) answer none judges is = absurd cc
round_read header before after found reading None None none judges is = (judges, is)
round_read header before after found reading None (Some answer) none judges is = inr (judges, is)

-- a good item goes on
pub loop_goes_on : (header own : Header) (before middle after i : ℕ) (items : List Item) (item : Item) (answer : Option Checked) → own ≡ header → AreAllGood header before middle (take i items) → i < length items
    → item ≡ get_or items i item → Judges own middle after item answer → is_some answer ≡ false → AreAllGood header before after (take (i + 1) items)
loop_goes_on header own before middle after i items item answer same good lt is judges none =
    let more : take (i + 1) items ≡ take i items ++ item ∷ [] = take_more items i item lt ∙ ap (λ (x : Item). take i items ++ x ∷ []) (sym is) in
    let here : Judges header middle after item None = subst (λ (x : Header). Judges x middle after item None) same (subst (Judges own middle after item) (is_none answer none) judges) in
    subst (AreAllGood header before after) (sym more) (good_more header before middle after (take i items) item good here)
