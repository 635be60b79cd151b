-- Lines in one text are the same lines, as far as both go.
use Rattle.std.proofs.Common.{◌≡◌, ◌⊎◌, inl, inr, ℕ, ◌≤◌, List, [], ◌∷◌, ◌++◌, length, refl, sym, ap, ◌∙◌, append_assoc, arith}
use Rattle.std.specs.List.{AllByRecursion, flat_map}
use Rattle.std.proofs.lemmas.List.{append-nil}
use Rattle.heesch_text.specs.declared.line.Line.{Line}
use Rattle.heesch_text.specs.Lines.{words_of, line_text, text_of}
use Rattle.heesch_line.specs.Forms.{IsLine, HasNoNewline}
use Rattle.heesch_line.proofs.LinesAgain.{words_tell}
use Rattle.heesch_line.proofs.Newlines.{no_newline}

pub line_front : (line : Line) (ls : List Line) (more : List ℕ) → text_of (line ∷ ls) ++ more ≡ words_of line ++ 10 ∷ (text_of ls ++ more)
line_front line ls more = append_assoc (line_text line) (text_of ls) more ∙ append_assoc (words_of line) (10 ∷ []) (text_of ls ++ more)

-- bytes have one first line
pub one_first_line : (w v xs ys : List ℕ) → HasNoNewline w → HasNoNewline v → w ++ 10 ∷ xs ≡ v ++ 10 ∷ ys → (w ≡ v) × (xs ≡ ys)
one_first_line [] [] xs ys h k e = let t : xs ≡ ys = cc in (refl, t)
one_first_line [] (c ∷ v) xs ys h k e = let t : 10 ≡ c = cc in absurd (k.0 (sym t))
one_first_line (b ∷ w) [] xs ys h k e = let t : b ≡ 10 = cc in absurd (h.0 t)
one_first_line (b ∷ w) (c ∷ v) xs ys h k e =
    let t : b ≡ c = cc in
    let r = one_first_line w v xs ys h.1 k.1 cc in
    (rw (t, r.0) refl, r.1)

-- bytes without a newline have no line that ended
pub no_first_line : (w xs left : List ℕ) → HasNoNewline left → left ≡ w ++ 10 ∷ xs → ⊥
no_first_line [] xs [] h e = absurd cc
no_first_line (c ∷ w) xs [] h e = absurd cc
no_first_line [] xs (b ∷ left) h e = let t : b ≡ 10 = cc in h.0 t
no_first_line (c ∷ w) xs (b ∷ left) h e = no_first_line w xs left h.1 cc

-- the second lines go on from the first; lines of any kind, each with this text
pub record GoesOnBy {L : Type 0} (text : L → List ℕ) (Form : L → Type 0) (ls ms : List L) (a b : List ℕ) : Type 0 where
  pub more : List L
  pub lines : ms ≡ ls ++ more
  pub bytes : a ≡ flat_map text more ++ b
  pub forms : AllByRecursion Form more

module _ {L : Type 0} (text words : L → List ℕ) (Form : L → Type 0) (ended : (l : L) → text l ≡ words l ++ 10 ∷ []) (free : (l : L) → Form l → HasNoNewline (words l))
    (tell : (l m : L) → Form l → Form m → words l ≡ words m → l ≡ m) where
  front_by : (l : L) (ls : List L) (more : List ℕ) → flat_map text (l ∷ ls) ++ more ≡ words l ++ 10 ∷ (flat_map text ls ++ more)
  front_by l ls more =
      append_assoc (text l) (flat_map text ls) more ∙ ap (λ (x : List ℕ). x ++ (flat_map text ls ++ more)) (ended l) ∙ append_assoc (words l) (10 ∷ []) (flat_map text ls ++ more)

  -- of two beginnings of one text by lines, one goes on from the other
  pub along_by : (ls ms : List L) (a b : List ℕ) → AllByRecursion Form ls → AllByRecursion Form ms → flat_map text ls ++ a ≡ flat_map text ms ++ b
      → GoesOnBy text Form ls ms a b ⊎ GoesOnBy text Form ms ls b a
  along_by [] ms a b f g e = inl (record { more = ms; lines = refl; bytes = e; forms = g })
  along_by (l ∷ ls) [] a b f g e = inr (record { more = l ∷ ls; lines = refl; bytes = sym e; forms = f })
  along_by (l ∷ ls) (m ∷ ms) a b f g e =
      let s = one_first_line (words l) (words m) (flat_map text ls ++ a) (flat_map text ms ++ b) (free l f.0) (free m g.0) (sym (front_by l ls a) ∙ e ∙ front_by m ms b) in
      let same : l ≡ m = tell l m f.0 g.0 s.0 in
      elim (along_by ls ms a b f.1 g.1 s.1) [
        | inl r ↦ inl (record { more = r.more; lines = rw (← same) (ap (λ (x : List L). l ∷ x) r.lines); bytes = r.bytes; forms = r.forms })
        | inr r ↦ inr (record { more = r.more; lines = rw same (ap (λ (x : List L). m ∷ x) r.lines); bytes = r.bytes; forms = r.forms })
      ]

-- the same of the lines of a catalogue
abbrev pub GoesOn : List Line → List Line → List ℕ → List ℕ → Type 0
GoesOn ls ms a b = GoesOnBy line_text IsLine ls ms a b

pub along : (ls ms : List Line) (a b : List ℕ) → AllByRecursion IsLine ls → AllByRecursion IsLine ms → text_of ls ++ a ≡ text_of ms ++ b → GoesOn ls ms a b ⊎ GoesOn ms ls b a
along ls ms a b f g e = along_by line_text words_of IsLine (λ l. refl) no_newline words_tell ls ms a b f g e

-- lines, and bytes of one more, are known by their text
pub same_reading : (ls ms : List Line) (a b : List ℕ) → AllByRecursion IsLine ls → AllByRecursion IsLine ms → HasNoNewline a → HasNoNewline b → text_of ls ++ a ≡ text_of ms ++ b → (ls ≡ ms) × (a ≡ b)
same_reading ls ms a b f g h k e = elim (along ls ms a b f g e) [
  | inl r ↦ ended ls ms a b h r
  | inr r ↦ let s = ended ms ls b a k r in (sym s.0, sym s.1)
]
  where
    ended : (ls ms : List Line) (a b : List ℕ) → HasNoNewline a → GoesOn ls ms a b → (ls ≡ ms) × (a ≡ b)
    ended ls ms a b h r = by_more r.more r.lines r.bytes
      where
        by_more : (more : List Line) → ms ≡ ls ++ more → a ≡ text_of more ++ b → (ls ≡ ms) × (a ≡ b)
        by_more [] lines bytes = (sym (lines ∙ append-nil ls), bytes)
        by_more (line ∷ more) lines bytes = absurd (no_first_line (words_of line) (text_of more ++ b) a h (bytes ∙ line_front line more b))

pub nothing_left : (more : List Line) → AllByRecursion IsLine more → text_of more ++ [] ≡ [] → more ≡ []
nothing_left [] f e = refl
nothing_left (l ∷ more) f e = absurd (no_first_line (words_of l) (text_of more ++ []) [] tt (sym e ∙ line_front l more []))

-- lines with one text are the same
pub same_lines : (ls ms : List Line) → AllByRecursion IsLine ls → AllByRecursion IsLine ms → text_of ls ≡ text_of ms → ls ≡ ms
same_lines ls ms f g e =
    elim (along ls ms [] [] f g (ap (λ (x : List ℕ). x ++ []) e)) [
      | inl r ↦ sym (r.lines ∙ ap (λ (x : List Line). ls ++ x) (nothing_left r.more r.forms (sym r.bytes)) ∙ append-nil ls)
      | inr r ↦ r.lines ∙ ap (λ (x : List Line). ms ++ x) (nothing_left r.more r.forms (sym r.bytes)) ∙ append-nil ms
    ]

-- ---- the bytes at the front

-- the longer of two fronts goes on from the shorter
pub front_on : (xs ys us vs : List ℕ) → xs ++ us ≡ ys ++ vs → length ys ≤ length xs → (more : List ℕ) × (xs ≡ ys ++ more)
front_on xs [] us vs e le = (xs, refl)
front_on [] (y ∷ ys) us vs e le = absurd (omega arith)
front_on (x ∷ xs) (y ∷ ys) us vs e le =
    let t : x ≡ y = cc in
    let r = front_on xs ys us vs (cc) (omega arith) in
    (r.0, ap (λ (u : ℕ). u ∷ xs) t ∙ ap (λ (u : List ℕ). y ∷ u) r.1)

-- of one length, they are the same
pub same_front : (xs ys us vs : List ℕ) → xs ++ us ≡ ys ++ vs → length xs ≡ length ys → xs ≡ ys
same_front [] [] us vs e le = refl
same_front [] (y ∷ ys) us vs e le = absurd (omega arith)
same_front (x ∷ xs) [] us vs e le = absurd (omega arith)
same_front (x ∷ xs) (y ∷ ys) us vs e le =
    let t : x ≡ y = cc in
    ap (λ (u : ℕ). u ∷ xs) t ∙ ap (λ (u : List ℕ). y ∷ u) (same_front xs ys us vs (cc) (omega arith))
