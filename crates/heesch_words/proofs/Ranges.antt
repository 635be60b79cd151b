-- What is asked for lies in its ranges.
use Rattle.std.proofs.Common.{◌≡◌, ◌≤◌, ℕ, Bool, false, List, [], ◌∷◌, unwrap_or, sym, subst, arith}
use Rattle.std.specs.Prelude.{Option, Some, None}
use Rattle.std.specs.List.{filter_map, AllByRecursion}
use Rattle.std.specs.Option.{option_to_list}
use Rattle.heesch_cert.specs.declared.header.Subject.{Subject}
use Rattle.heesch_cert.specs.declared.limits.Limits.{Limits}
use Rattle.heesch_cert.specs.Limits.{AreLimits}
use Rattle.heesch_grid.specs.declared.GridName.{GridName}
use Rattle.heesch_words.specs.declared.options.Options.{Options}
use Rattle.heesch_words.specs.declared.requests.Request.{Request}
use Rattle.heesch_words.specs.declared.requests.Request.TheVariants.{List as ListRequest, Plain as PlainRequest, Classify as ClassifyRequest, Check as CheckRequest, CheckOuter as CheckOuterRequest, Table as TableRequest, Sample as SampleRequest, Formula as FormulaRequest, Answer as AnswerRequest, Share as ShareRequest, Join as JoinRequest, Outer as OuterRequest}
use Rattle.heesch_words.specs.Options.{Name, Workers, Turns, Levels, Domain, Size, Version, Setting, Number, Brief, IsNumberInRange, IsInRange as IsSettingInRange, number_of, held, default_limits, AreOptions, workers_of, limits_of}
use Rattle.heesch_cert.specs.Sizes.{HasGrid, IsSubject}
use Rattle.heesch_cnf.specs.declared.version.Version.{Version as FormulaVersion}
use Rattle.heesch_words.specs.Requests.{Asks, HasForm, HasListForm, HasClassifyForm, HasFormulaForm, IsFormulaInRange, IsInRange, IsSize}
use Rattle.heesch_words.proofs.InRange.{bounds_of, in_bounds}

-- the first number that settings in their ranges have of an option is in its range
number_in_range : (name : Name) (settings : List Setting) (n : ℕ) (others : List ℕ)
    → AllByRecursion IsSettingInRange settings → filter_map (number_of name) settings ≡ n ∷ others → IsNumberInRange name n
number_in_range name [] n others all is = cc
number_in_range name (Brief ∷ settings) n others all is = number_in_range name settings n others all.1 is
number_in_range Workers (Number Workers m ∷ settings) n others all is = let same : m ≡ n = cc in subst (IsNumberInRange Workers) same all.0
number_in_range Turns (Number Turns m ∷ settings) n others all is = let same : m ≡ n = cc in subst (IsNumberInRange Turns) same all.0
number_in_range Levels (Number Levels m ∷ settings) n others all is = let same : m ≡ n = cc in subst (IsNumberInRange Levels) same all.0
number_in_range Domain (Number Domain m ∷ settings) n others all is = let same : m ≡ n = cc in subst (IsNumberInRange Domain) same all.0
number_in_range Size (Number Size m ∷ settings) n others all is = let same : m ≡ n = cc in subst (IsNumberInRange Size) same all.0
number_in_range Version (Number Version m ∷ settings) n others all is = let same : m ≡ n = cc in subst (IsNumberInRange Version) same all.0
number_in_range name (Number other m ∷ settings) n others all is = number_in_range name settings n others all.1 is

-- the number that options hold, or another in its place, is in its range
held_in_range : (words : List (List ℕ)) (options : Options) (name : Name) (default : ℕ) → AreOptions words options
    → IsNumberInRange name default → IsNumberInRange name (unwrap_or (held name options) default)
held_in_range words options name default given in_range = go (held name options) (given.held.numbers name)
  where
    go : (value : Option ℕ) → filter_map (number_of name) given.settings ≡ option_to_list value → IsNumberInRange name (unwrap_or value default)
    go None is = in_range
    go (Some n) is = number_in_range name given.settings n [] given.in_range is

-- options give 1 to 64 workers
pub workers_in_range : (words : List (List ℕ)) (options : Options) → AreOptions words options → (1 ≤ workers_of options) × (workers_of options ≤ 64)
workers_in_range words options given = held_in_range words options Workers 1 given (omega arith, omega arith)

-- options give limits in their ranges
pub limits_in_range : (words : List (List ℕ)) (options : Options) → AreOptions words options → AreLimits (limits_of options)
limits_in_range words options given = record {
  turns_range = bounds_of Turns _ (held_in_range words options Turns default_limits.turns given (in_bounds Turns _ (omega arith) (omega arith)));
  levels_range = bounds_of Levels _ (held_in_range words options Levels default_limits.levels given (in_bounds Levels _ (omega arith) (omega arith)));
  domain_range = bounds_of Domain _ (held_in_range words options Domain default_limits.domain given (in_bounds Domain _ (omega arith) (omega arith)));
  size_range = bounds_of Size _ (held_in_range words options Size default_limits.size given (in_bounds Size _ (omega arith) (omega arith)));
}

list_in_range : (words : List (List ℕ)) (grid : GridName) (n workers : ℕ) → HasListForm words grid n workers
    → IsSize grid n × (1 ≤ workers) × (workers ≤ 64)
list_in_range words grid n workers has =
    let (low, high) = workers_in_range has.have.others has.options has.have.given in
    (has.size, omega (arith, has.workers_is, low), omega (arith, has.workers_is, high))

classify_in_range : (words : List (List ℕ)) (grid : GridName) (subject : Subject) (limits : Limits) (workers : ℕ) (brief : Bool)
    → HasClassifyForm words grid subject limits workers brief → IsSubject limits.version grid subject × AreLimits limits × (1 ≤ workers) × (workers ≤ 64)
classify_in_range words grid subject limits workers brief has =
    let (low, high) = workers_in_range has.have.others has.options has.have.given in
    let in_range : AreLimits limits = subst AreLimits (sym has.limits_is) (limits_in_range has.have.others has.options has.have.given) in
    (has.in_range, in_range, omega (arith, has.workers_is, low), omega (arith, has.workers_is, high))

formula_in_range : (words : List (List ℕ)) (grid : GridName) (level size : ℕ) (version : FormulaVersion) → HasFormulaForm words grid level size version
    → IsFormulaInRange level size × HasGrid version grid
formula_in_range words grid level size version has =
    let limits = limits_in_range has.have.others has.options has.have.given in
    let sizes = limits.size_range in
    (record { level_range = has.level_range; size_range = (omega (arith, has.size_is, sizes.0), omega (arith, has.size_is, sizes.1)) }, has.has_grid)

-- the values of a form are in range
form_in_range : (words : List (List ℕ)) (request : Request) → HasForm words request → IsInRange request
form_in_range words (ListRequest grid n workers) has = list_in_range words grid n workers has
form_in_range words (PlainRequest grid n workers) has = list_in_range words grid n workers has
form_in_range words (ClassifyRequest grid subject limits workers brief) has = classify_in_range words grid subject limits workers brief has
form_in_range words (CheckRequest workers) has =
    let (low, high) = workers_in_range words has.options has.given in
    (omega (arith, has.workers_is, low), omega (arith, has.workers_is, high))
form_in_range words (CheckOuterRequest grid subject limits workers) has = classify_in_range has.others grid subject limits workers false has.has
form_in_range words TableRequest has = tt
form_in_range words (SampleRequest grid n count seed limits workers) has =
    let (low, high) = workers_in_range has.have.others has.options has.have.given in
    let in_range : AreLimits limits = subst AreLimits (sym has.limits_is) (limits_in_range has.have.others has.options has.have.given) in
    (has.in_range, has.has_grid, in_range, omega (arith, has.workers_is, low), omega (arith, has.workers_is, high))
form_in_range words (FormulaRequest grid level size version) has = formula_in_range words grid level size version has
form_in_range words (AnswerRequest grid level size version) has = formula_in_range words grid level size version has
form_in_range words (ShareRequest grid n i k limits workers) has =
    let (low, high) = workers_in_range has.have.others has.options has.have.given in
    let in_range : AreLimits limits = subst AreLimits (sym has.limits_is) (limits_in_range has.have.others has.options has.have.given) in
    (has.in_range, has.share, in_range, omega (arith, has.workers_is, low), omega (arith, has.workers_is, high))
form_in_range words JoinRequest has = tt
form_in_range words (OuterRequest grid subject limits workers) has = classify_in_range words grid subject limits workers false has

-- what words ask for is in range
pub asked_in_range : (words : List (List ℕ)) (request : Request) → Asks words request → IsInRange request
asked_in_range words request asked = form_in_range asked.others request asked.has
