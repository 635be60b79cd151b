-- What reading an option says of the settings.
use Rattle.std.proofs.Common.{◌≡◌, ◌≢◌, ◌≤◌, ◌+◌, ℕ, Bool, true, false, if◌then◌else◌, List, [], ◌∷◌, ◌++◌, refl, ap, ◌∙◌, decimal, codes, arith}
use Rattle.std.specs.Prelude.{Option, None, Some, Result, Ok, Err, IfOk, OnErr}
use Rattle.std.specs.List.{filter_map, count_by}
use Rattle.std.specs.Option.{option_to_list}
use Rattle.heesch_words.specs.declared.options.Options.{Options}
use Rattle.heesch_words.specs.Options.{Name, Workers, Turns, Levels, Domain, Size, Version, Setting, Number, Brief, name_word, number_of, is_brief, held, AreHeld}
use Rattle.heesch_words.specs.Reading.{BeginWith, AddsSetting, CannotAdd}
use Rattle.heesch_words.proofs.InRange.{most, bounds_of, in_bounds}
use Rattle.heesch_words.proofs.Settings.{values_of_first, values_stay, none_before, count_by-append, same_name, not_brief}

-- the options with this number in place of an option's
abbrev pub with_number : Name → Option ℕ → Options → Options
with_number Workers number options = record options { workers = number }
with_number Turns number options = record options { turns = number }
with_number Levels number options = record options { levels = number }
with_number Domain number options = record options { domain = number }
with_number Size number options = record options { size = number }
with_number Version number options = record options { version = number }

-- the numbers that are held after one more
numbers_after : (name other : Name) (n : ℕ) (settings : List Setting) (old : Options) → held name old ≡ None
    → filter_map (number_of other) settings ≡ option_to_list (held other old)
    → filter_map (number_of other) (settings ++ Number name n ∷ []) ≡ option_to_list (held other (with_number name (Some n) old))
numbers_after Workers Workers n settings old none is = values_of_first (number_of Workers) settings (Number Workers n) n (is ∙ ap option_to_list none) refl
numbers_after Turns Turns n settings old none is = values_of_first (number_of Turns) settings (Number Turns n) n (is ∙ ap option_to_list none) refl
numbers_after Levels Levels n settings old none is = values_of_first (number_of Levels) settings (Number Levels n) n (is ∙ ap option_to_list none) refl
numbers_after Domain Domain n settings old none is = values_of_first (number_of Domain) settings (Number Domain n) n (is ∙ ap option_to_list none) refl
numbers_after Size Size n settings old none is = values_of_first (number_of Size) settings (Number Size n) n (is ∙ ap option_to_list none) refl
numbers_after Version Version n settings old none is = values_of_first (number_of Version) settings (Number Version n) n (is ∙ ap option_to_list none) refl
numbers_after name other n settings old none is = values_stay (number_of other) settings (Number name n) refl ∙ is

-- how often `--brief` is given
abbrev times : Bool → ℕ
times b = if b then 1 else 0

-- `--brief` is held after a number as it was before
brief_stays : (name : Name) (number : Option ℕ) (old : Options) → (with_number name number old).brief ≡ old.brief
brief_stays name number old = grind arith

brief_after : (name : Name) (n : ℕ) (settings : List Setting) (old : Options) → count_by is_brief settings ≡ (if old.brief then 1 else 0)
    → count_by is_brief (settings ++ Number name n ∷ []) ≡ (if (with_number name (Some n) old).brief then 1 else 0)
brief_after name n settings old is =
    let more : count_by is_brief (settings ++ Number name n ∷ []) ≡ count_by is_brief settings + 0 = count_by-append settings (Number name n ∷ []) in
    let stays : times (with_number name (Some n) old).brief ≡ times old.brief = ap times (brief_stays name (Some n) old) in
    omega arith

-- the number after an option's word was read where none was held
number_read : {R E : Type 0} (key : Name) (r : Result R E) (words_of : R → List (List ℕ)) (name : List ℕ) (words : List (List ℕ)) (old : Options) (place : Option ℕ)
    → name ≡ name_word key
    → IfOk r (λ others. (n : ℕ) × (words ≡ decimal n ∷ words_of others) × (1 ≤ n) × (n ≤ most key) × (held key old ≡ None) × (place ≡ Some n))
    → IfOk r (λ others. (setting : Setting) × BeginWith setting (name ∷ words) (words_of others) × AddsSetting setting old (with_number key place old))
number_read key (Ok others) words_of name words old place named (n, spelled, least, most, none, placed) = (
  Number key n,
  record { spelled = cc; in_range = in_bounds key n least most },
  λ settings before. rw placed record {
    numbers = λ other. numbers_after key other n settings old none (before.numbers other);
    brief = brief_after key n settings old before.brief;
  },
)
number_read key (Err e) words_of name words old place named told = tt

-- no number was read after an option's word, or one was held
number_refused : {R E : Type 0} (key : Name) (r : Result R E) (name : List ℕ) (words : List (List ℕ)) (old : Options)
    → name ≡ name_word key
    → OnErr r ((n : ℕ) (others : List (List ℕ)) → words ≡ decimal n ∷ others → 1 ≤ n → n ≤ most key → held key old ≢ None)
    → OnErr r ((setting : Setting) (others : List (List ℕ)) → BeginWith setting (name ∷ words) others → CannotAdd setting old)
number_refused key (Ok others) name words old named told = tt
number_refused key (Err e) name words old named told = go
  where
    own : (key : Name) (n : ℕ) → number_of key (Number key n) ≡ Some n
    own key n = grind arith

    go : (setting : Setting) (others : List (List ℕ)) → BeginWith setting (name ∷ words) others → CannotAdd setting old
    go (Number other n) others begin settings new before after =
        let spelled : name ∷ words ≡ name_word other ∷ decimal n ∷ others = begin.spelled in
        let same : key ≡ other = same_name key other cc in
        let (low, high) = bounds_of other n begin.in_range in
        let high' : n ≤ most key = rw same high in
        let value : number_of key (Number other n) ≡ Some n = rw same (own other n) in
        told n others (cc) low high' (none_before (number_of key) settings (Number other n) n (held key old) (held key new) (before.numbers key) value (after.numbers key))
    go Brief others begin settings new before after =
        let spelled : name ∷ words ≡ codes "--brief" ∷ others = begin.spelled in
        let word : name_word key ≡ codes "--brief" = cc in
        not_brief key word

-- what the reading of the number after an option's word answered
pub number_taken : {R E : Type 0} (key : Name) (r : Result R E) (words_of : R → List (List ℕ)) (name : List ℕ) (words : List (List ℕ)) (old : Options) (place : Option ℕ)
    → name ≡ name_word key
    → IfOk r (λ others. (n : ℕ) × (words ≡ decimal n ∷ words_of others) × (1 ≤ n) × (n ≤ most key) × (held key old ≡ None) × (place ≡ Some n))
    → OnErr r ((n : ℕ) (others : List (List ℕ)) → words ≡ decimal n ∷ others → 1 ≤ n → n ≤ most key → held key old ≢ None)
    → record {
      ok : IfOk r (λ others. (setting : Setting) × BeginWith setting (name ∷ words) (words_of others) × AddsSetting setting old (with_number key place old));
      usage : OnErr r ((setting : Setting) (others : List (List ℕ)) → BeginWith setting (name ∷ words) others → CannotAdd setting old);
    }
number_taken key r words_of name words old place named read refused = record {
  ok = number_read key r words_of name words old place named read;
  usage = number_refused key r name words old named refused;
}

-- `--brief` was read where it was not held
pub brief_read : {R E : Type 0} (r : Result R E) (words_of : R → List (List ℕ)) (name : List ℕ) (words : List (List ℕ)) (old : Options) (place : Bool)
    → name ≡ codes "--brief"
    → IfOk r (λ others. (words_of others ≡ words) × (old.brief ≡ false) × (place ≡ true))
    → IfOk r (λ others. (setting : Setting) × BeginWith setting (name ∷ words) (words_of others) × AddsSetting setting old (record old { brief = place }))
brief_read (Ok others) words_of name words old place named (rest, none, placed) = (
  Brief,
  record { spelled = cc; in_range = tt },
  λ settings before. record {
    numbers = λ other. numbers_stay other settings ∙ before.numbers other ∙ ap option_to_list (kept other);
    brief = brief_more settings before;
  },
)
  where
    numbers_stay : (other : Name) (settings : List Setting) → filter_map (number_of other) (settings ++ Brief ∷ []) ≡ filter_map (number_of other) settings
    numbers_stay other settings = values_stay (number_of other) settings Brief refl

    kept : (other : Name) → held other old ≡ held other (record old { brief = place })
    kept other = grind arith

    brief_more : (settings : List Setting) → AreHeld settings old → count_by is_brief (settings ++ Brief ∷ []) ≡ (if place then 1 else 0)
    brief_more settings before =
        let more : count_by is_brief (settings ++ Brief ∷ []) ≡ count_by is_brief settings + 1 = count_by-append settings (Brief ∷ []) in
        let none_yet : count_by is_brief settings ≡ 0 = before.brief ∙ ap times none in
        let after : times place ≡ 1 = ap times placed in
        omega arith
brief_read (Err e) words_of name words old place named told = tt

-- `--brief` was held
pub brief_refused : {R E : Type 0} (r : Result R E) (name : List ℕ) (words : List (List ℕ)) (old : Options)
    → name ≡ codes "--brief"
    → OnErr r (old.brief ≡ true)
    → OnErr r ((setting : Setting) (others : List (List ℕ)) → BeginWith setting (name ∷ words) others → CannotAdd setting old)
brief_refused (Ok others) name words old named told = tt
brief_refused (Err e) name words old named told = go
  where
    at_most : (b : Bool) → times b ≤ 1
    at_most true = omega arith
    at_most false = omega arith

    go : (setting : Setting) (others : List (List ℕ)) → BeginWith setting (name ∷ words) others → CannotAdd setting old
    go (Number other n) others begin settings new before after =
        let spelled : name ∷ words ≡ name_word other ∷ decimal n ∷ others = begin.spelled in
        let word : name_word other ≡ codes "--brief" = cc in
        not_brief other word
    go Brief others begin settings new before after =
        let more : count_by is_brief (settings ++ Brief ∷ []) ≡ count_by is_brief settings + 1 = count_by-append settings (Brief ∷ []) in
        let first : count_by is_brief settings ≡ 1 = before.brief ∙ ap times told in
        let second = after.brief in
        let small = at_most new.brief in
        omega arith
