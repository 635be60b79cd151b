-- What a reader makes of a piece, joined to what was read before.
use Rattle.std.proofs.Common.{◌≡◌, ◌≢◌, ◌⊎◌, inl, inr, ℕ, ◌+◌, true, false, List, [], ◌∷◌, ◌++◌, length, None, refl, sym, ap, subst, ◌∙◌, arith}
use Rattle.std.proofs.lemmas.List.{append-nil, length-append}
use Rattle.heesch_text.specs.declared.line.Line.{Line}
use Rattle.heesch_text.specs.Lines.{text_of}
use Rattle.heesch_reader.specs.declared.item.Item.{Item}
use Rattle.heesch_reader.specs.declared.item.Part.{Part}
use Rattle.heesch_reader.specs.declared.progress.Progress.{Progress}
use Rattle.heesch_reader.specs.declared.progress.Progress.TheVariants as stages
use Rattle.heesch_reader.specs.declared.scan.Appended.{Appended}
use Rattle.heesch_reader.specs.Progress.{Lead, next}
use Rattle.heesch_reader.specs.Items.{Kept, lines_of, with_items, none_appended, progress_of}
use Rattle.heesch_reader.specs.Faults.{begins_next, part_of, MayNotStand, FaultsAt}
use Rattle.heesch_reader.specs.Feeding.{IsBehindEntry, Stands, Takes, Refuses, Finishes, FallsShort, RunsOut, IsPrompt, IsPromptAtEnd, IsShown, IsShownAtEnd}
use Rattle.heesch_reader.proofs.Walking.{same_next, same_part, outer_words}
use Rattle.heesch_reader.proofs.ItemLines.{with_items_append, lines_counted, lines_append}
use Rattle.heesch_reader.proofs.FirstWords.{begins_next_cut}
use Rattle.heesch_reader.proofs.Pieces.{joins, no_items}
use Rattle.heesch_reader.specs.Input.{IsWholeCatalogue}
use Rattle.heesch_reader.specs.Taking.{Begins, kept_behind}

nil_front : {X : Type 0} (xs ys : List X) → xs ++ ys ≡ [] → xs ≡ []
nil_front [] ys e = refl
nil_front (x ∷ xs) ys e = absurd cc

nil_back : {X : Type 0} (xs ys : List X) → xs ++ ys ≡ [] → ys ≡ []
nil_back [] ys e = e
nil_back (x ∷ xs) ys e = absurd cc

-- ---- a piece that was taken

prompt_on : (held : List Line) (left : List ℕ) (r reached : Progress) (more : List Item) (a : Appended) → IsPrompt held left r → (reached ≡ r) ⊎ ((lines_of more ++ held ≡ []) × IsBehindEntry reached a × (progress_of a ≡ r)) → IsPrompt held left reached
prompt_on held left r reached more a p (inl e) = rw e p
prompt_on held left r reached more a p (inr n) = λ w b. nil_back (lines_of more) held n.0

pub takes_on : (bytes piece : List ℕ) (found : List Item) (b : Begins bytes found) (old new : Kept) (items after : List Item) → old ≡ kept_behind bytes found b
    → (t : Takes old new items after (old.rest ++ piece)) → (c : Begins (bytes ++ piece) (found ++ t.found)) × (new ≡ kept_behind (bytes ++ piece) (found ++ t.found) c)
takes_on bytes piece found b old new items after e t =
    let j = joins none_appended bytes piece found t.found b.held t.held b.left t.left b.reached t.reached b.stands (subst (λ (k : Kept). Stands k.appended (k.rest ++ piece) t.found t.held t.left t.reached) e t.stands) in
    let a = with_items none_appended found in
    let app = with_items_append none_appended found t.found in
    let new_is : new ≡ record { refusal = None; appended = with_items a t.found; rest = text_of t.held ++ t.left } = subst (λ (k : Kept). new ≡ record { refusal = None; appended = with_items k.appended t.found; rest = text_of t.held ++ t.left }) e t.new_is in
    let shown : IsShown (with_items a t.found) (text_of t.held ++ t.left) = subst (λ (k : Kept). IsShown k.appended k.rest) new_is t.shown in (
      record {
        held = t.held;
        left = t.left;
        reached = j.reached;
        stands = j.stands;
        one_line = t.one_line;
        prompt = prompt_on t.held t.left t.reached j.reached t.found a t.prompt j.alike;
        shown = subst (λ (x : Appended). IsShown x (text_of t.held ++ t.left)) (sym app) shown;
      },
      new_is ∙ ap (λ (x : Appended). record { refusal = None; appended = x; rest = text_of t.held ++ t.left }) (sym app),
    )

-- ---- a fault

-- what shows that the next line is that of a shape, or the last line, stands before its newline
cut_next : (words back : List ℕ) → begins_next (words ++ 10 ∷ back) ≡ true → begins_next words ≡ true
cut_next words back e = sym (begins_next_cut words back) ∙ e

-- where a line may not stand between two entries, it may not stand behind an entry
refused_behind : (p r : Progress) (a : Appended) (words : List ℕ) → IsBehindEntry p a → progress_of a ≡ r → begins_next words ≡ true → MayNotStand r words → MayNotStand p words
refused_behind p r a words b e n m line form w =
    same_next p line b.whole (outer_words line (subst (λ (x : List ℕ). begins_next x ≡ true) (sym w) n)) ∙ ap (λ (x : Progress). next x line) (b.between ∙ e) ∙ m line form w

part_behind_entry : (p r : Progress) (a : Appended) (bytes : List ℕ) → IsBehindEntry p a → progress_of a ≡ r → part_of r bytes ≡ part_of p bytes
part_behind_entry p r a bytes b e = ap (λ (x : Progress). part_of x bytes) (sym e ∙ sym b.between) ∙ sym (same_part p bytes b.whole)

-- the same fault next to where a reader is that went on behind the items of the first piece
pub record FaultsOn (reached : Progress) (left : List ℕ) (part : Part) (words : List ℕ) : Type 0 where
  pub fault : FaultsAt reached left part
  pub words_are : fault.words ≡ words

fault_same : (r reached : Progress) (left : List ℕ) (part : Part) (f : FaultsAt r left part) → MayNotStand reached f.words → part_of r (f.words ++ 10 ∷ []) ≡ part_of reached (f.words ++ 10 ∷ [])
    → FaultsOn reached left part f.words
fault_same r reached left part f m e = record {
  fault = record {
    words = f.words;
    back = f.back;
    split = f.split;
    one_line = f.one_line;
    may_not = m;
    part_is = f.part_is ∙ e;
  };
  words_are = refl;
}

fault_on : (r reached : Progress) (a : Appended) (more : List Item) (held : List Line) (left : List ℕ) (part : Part) → (f : FaultsAt r left part)
    → IsShown (with_items a more) (text_of held ++ left) → (reached ≡ r) ⊎ ((lines_of more ++ held ≡ []) × IsBehindEntry reached a × (progress_of a ≡ r))
    → FaultsOn reached left part f.words
fault_on r reached a more held left part f s (inl e) =
    fault_same r reached left part f (subst (λ (x : Progress). MayNotStand x f.words) (sym e) f.may_not) (ap (λ (x : Progress). part_of x (f.words ++ 10 ∷ [])) (sym e))
fault_on r reached a more held left part f s (inr n) =
    let none = no_items more (nil_front (lines_of more) held n.0) in
    let no_lines = nil_back (lines_of more) held n.0 in
    let here : IsShown a left = subst (λ (x : List Line). IsShown a (text_of x ++ left)) no_lines (subst (λ (x : List Item). IsShown (with_items a x) (text_of held ++ left)) none s) in
    let next_begins : begins_next (f.words ++ 10 ∷ f.back) ≡ true = subst (λ (x : List ℕ). begins_next x ≡ true) f.split (here n.1.some n.1.unended) in
    fault_same r reached left part f (refused_behind reached r a f.words n.1 n.2 (cut_next f.words f.back next_begins) f.may_not) (part_behind_entry reached r a (f.words ++ 10 ∷ []) n.1 n.2)

number_on : (found more : List Item) (held : List Line) (line : ℕ) → line ≡ (with_items none_appended found).lines + length (lines_of more ++ held) + 1 → line ≡ 0 + length (lines_of (found ++ more) ++ held) + 1
number_on found more held line e =
    omega (arith, e, lines_counted none_appended found, ap length (lines_append found more), length-append (lines_of (found ++ more)) held, length-append (lines_of found) (lines_of more), length-append (lines_of more) held)

pub refuses_on : (bytes piece : List ℕ) (found : List Item) (b : Begins bytes found) (old : Kept) (items after : List Item) (line : ℕ) (part : Part) → old ≡ kept_behind bytes found b
    → (t : Refuses old.appended items after (old.rest ++ piece) line part) → Refuses none_appended [] (found ++ t.found) (bytes ++ piece) line part
refuses_on bytes piece found b old items after line part e t =
    let j = joins none_appended bytes piece found t.found b.held t.held b.left t.left b.reached t.reached b.stands (subst (λ (k : Kept). Stands k.appended (k.rest ++ piece) t.found t.held t.left t.reached) e t.stands) in
    let a = with_items none_appended found in
    let app = with_items_append none_appended found t.found in
    let shown : IsShown (with_items a t.found) (text_of t.held ++ t.left) = subst (λ (k : Kept). IsShown (with_items k.appended t.found) (text_of t.held ++ t.left)) e t.shown in
    let f = fault_on t.reached j.reached a t.found t.held t.left part t.fault shown j.alike in
    record {
      found = found ++ t.found;
      held = t.held;
      left = t.left;
      reached = j.reached;
      stands = j.stands;
      fault = f.fault;
      prompt = subst (λ (x : List ℕ). IsPrompt t.held x j.reached) (sym f.words_are) (prompt_on t.held t.fault.words t.reached j.reached t.found a t.prompt j.alike);
      shown = subst (λ (x : Appended). IsShown x (text_of t.held ++ t.left)) (sym app) shown;
      line_is = number_on found t.found t.held line (subst (λ (k : Kept). line ≡ k.appended.lines + length (lines_of t.found ++ t.held) + 1) e t.line_is);
      after_is = refl;
    }

-- ---- memory that was refused

pub runs_out_on : (bytes piece : List ℕ) (found : List Item) (b : Begins bytes found) (old : Kept) (items after : List Item) → old ≡ kept_behind bytes found b
    → (t : RunsOut old.appended items after (old.rest ++ piece)) → RunsOut none_appended [] (found ++ t.found) (bytes ++ piece)
runs_out_on bytes piece found b old items after e t =
    let j = joins none_appended bytes piece found t.found b.held [] b.left t.behind b.reached t.reached b.stands (subst (λ (k : Kept). Stands k.appended (k.rest ++ piece) t.found [] t.behind t.reached) e t.stands) in
    let app = with_items_append none_appended found t.found in
    let shown : IsShown (with_items (with_items none_appended found) t.found) t.behind = subst (λ (k : Kept). IsShown (with_items k.appended t.found) t.behind) e t.shown in
    record {
      found = found ++ t.found;
      behind = t.behind;
      reached = j.reached;
      stands = j.stands;
      shown = subst (λ (x : Appended). IsShown x t.behind) (sym app) shown;
      after_is = refl;
    }

nothing_more : (bytes : List ℕ) (found : List Item) (b : Begins bytes found) (old : Kept) (items : List Item) → old ≡ kept_behind bytes found b → RunsOut old.appended items items (old.rest ++ [])
nothing_more bytes found b old items e = record {
  found = [];
  behind = old.rest ++ [];
  reached = progress_of old.appended;
  stands = record { text = refl; lead = record { forms = tt; reached = refl }; numbered = tt; one_entry = tt; items_lead = record { behind = progress_of old.appended; walked = refl; alike = inl refl } };
  shown = subst (λ (x : List ℕ). IsShown old.appended x) (sym (append-nil old.rest)) (subst (λ (k : Kept). IsShown k.appended k.rest) (sym e) b.shown);
  after_is = sym (append-nil items);
}

-- where nothing was appended
pub none_on : (bytes : List ℕ) (found : List Item) (b : Begins bytes found) (old : Kept) → old ≡ kept_behind bytes found b → RunsOut none_appended [] (found ++ []) (bytes ++ [])
unfolding nothing_more
none_on bytes found b old e = runs_out_on bytes [] found b old [] [] e (nothing_more bytes found b old [] e)

-- ---- the end of the bytes

prompt_end_on : (held : List Line) (left : List ℕ) (r reached : Progress) (more : List Item) (a : Appended) → IsPromptAtEnd held left r → (reached ≡ r) ⊎ ((lines_of more ++ held ≡ []) × IsBehindEntry reached a × (progress_of a ≡ r)) → IsPromptAtEnd held left reached
prompt_end_on held left r reached more a p (inl e) = rw e p
prompt_end_on held left r reached more a p (inr n) = let none = nil_back (lines_of more) held n.0 in ((λ w b. none), (λ w b. none))

part_on : (r reached : Progress) (a : Appended) (ls : List Line) (left : List ℕ) → (reached ≡ r) ⊎ ((ls ≡ []) × IsBehindEntry reached a × (progress_of a ≡ r)) → part_of r left ≡ part_of reached left
part_on r reached a ls left (inl e) = ap (λ (x : Progress). part_of x left) (sym e)
part_on r reached a ls left (inr n) = part_behind_entry reached r a left n.1 n.2

pub falls_short_on : (bytes : List ℕ) (found : List Item) (b : Begins bytes found) (old : Kept) (items after : List Item) (line : ℕ) (part : Part) → old ≡ kept_behind bytes found b
    → (t : FallsShort old.appended items after old.rest line part) → FallsShort none_appended [] (found ++ t.found) (bytes ++ []) line part
falls_short_on bytes found b old items after line part e t =
    let kept = text_of b.held ++ b.left in
    let here : Stands (with_items none_appended found) kept t.found t.held t.left t.reached = subst (λ (k : Kept). Stands k.appended k.rest t.found t.held t.left t.reached) e t.stands in
    let s : Stands (with_items none_appended found) (kept ++ []) t.found t.held t.left t.reached = subst (λ (x : List ℕ). Stands (with_items none_appended found) x t.found t.held t.left t.reached) (sym (append-nil kept)) here in
    let j = joins none_appended bytes [] found t.found b.held t.held b.left t.left b.reached t.reached b.stands s in
    let a = with_items none_appended found in
    let app = with_items_append none_appended found t.found in
    record {
      found = found ++ t.found;
      held = t.held;
      left = t.left;
      reached = j.reached;
      stands = j.stands;
      one_line = t.one_line;
      prompt = prompt_end_on t.held t.left t.reached j.reached t.found a t.prompt j.alike;
      shown = subst (λ (x : Appended). IsShownAtEnd x (text_of t.held ++ t.left)) (sym app) (subst (λ (k : Kept). IsShownAtEnd (with_items k.appended t.found) (text_of t.held ++ t.left)) e t.shown);
      short = subst (λ (x : Appended). (t.left ≢ []) ⊎ (x.ended ≡ false)) (sym app) (subst (λ (k : Kept). (t.left ≢ []) ⊎ ((with_items k.appended t.found).ended ≡ false)) e t.short);
      line_is = number_on found t.found t.held line (subst (λ (k : Kept). line ≡ k.appended.lines + length (lines_of t.found ++ t.held) + 1) e t.line_is);
      part_is = t.part_is ∙ part_on t.reached j.reached a (lines_of t.found ++ t.held) t.left j.alike;
      after_is = refl;
    }

pub finishes_on : (bytes : List ℕ) (found : List Item) (b : Begins bytes found) (old new : Kept) (items after : List Item) → old ≡ kept_behind bytes found b
    → (t : Finishes old new items after old.rest) → IsWholeCatalogue (bytes ++ []) (found ++ t.found)
finishes_on bytes found b old new items after e t =
    let kept = text_of b.held ++ b.left in
    let here : Stands (with_items none_appended found) kept t.found [] [] t.reached = subst (λ (k : Kept). Stands k.appended k.rest t.found [] [] t.reached) e t.stands in
    let s : Stands (with_items none_appended found) (kept ++ []) t.found [] [] t.reached = subst (λ (x : List ℕ). Stands (with_items none_appended found) x t.found [] [] t.reached) (sym (append-nil kept)) here in
    let j = joins none_appended bytes [] found t.found b.held [] b.left [] b.reached t.reached b.stands s in
    let app = with_items_append none_appended found t.found in
    let all = lines_of (found ++ t.found) in
    let told = j.stands in
    let no_more : all ++ [] ≡ all = append-nil all in
    let ended : (with_items (with_items none_appended found) t.found).ended ≡ true = subst (λ (k : Kept). (with_items k.appended t.found).ended ≡ true) e (subst (λ (k : Kept). k.appended.ended ≡ true) t.new_is t.ended) in
    record {
      reached = j.reached;
      text = told.text ∙ append-nil (text_of (all ++ [])) ∙ ap text_of no_more;
      lead = subst (λ (x : List Line). Lead stages.Start x j.reached) no_more told.lead;
      numbered = told.numbered;
      ended = ap (λ (x : Appended). x.ended) app ∙ ended;
    }
