-- The ranges of the options' numbers.
use Rattle.std.proofs.Common.{◌≤◌, ◌<◌, ◌^◌, ℕ, arith}
use Rattle.heesch_words.specs.declared.options.TheConstants.{MOST_WORKERS, MOST_TURNS, MOST_LEVELS, MOST_DOMAIN, MOST_SIZE, MOST_VERSION}
use Rattle.heesch_words.specs.Options.{Name, Workers, Turns, Levels, Domain, Size, Version, IsNumberInRange}

-- the greatest number of an option
abbrev pub most : Name → ℕ
most Workers = MOST_WORKERS
most Turns = MOST_TURNS
most Levels = MOST_LEVELS
most Domain = MOST_DOMAIN
most Size = MOST_SIZE
most Version = MOST_VERSION

-- a number in its range is 1 to the greatest
pub bounds_of : (name : Name) (n : ℕ) → IsNumberInRange name n → (1 ≤ n) × (n ≤ most name)
bounds_of Workers n h = h
bounds_of Turns n h = h.turns_range
bounds_of Levels n h = h.levels_range
bounds_of Domain n h = h.domain_range
bounds_of Size n h = h.size_range
bounds_of Version n h = h

-- a number from 1 to the greatest is in its range
pub in_bounds : (name : Name) (n : ℕ) → 1 ≤ n → n ≤ most name → IsNumberInRange name n
in_bounds Workers n low high = (low, high)
in_bounds Turns n low high = record { turns_range = (low, high); levels_range = (omega arith, omega arith); domain_range = (omega arith, omega arith); size_range = (omega arith, omega arith) }
in_bounds Levels n low high = record { turns_range = (omega arith, omega arith); levels_range = (low, high); domain_range = (omega arith, omega arith); size_range = (omega arith, omega arith) }
in_bounds Domain n low high = record { turns_range = (omega arith, omega arith); levels_range = (omega arith, omega arith); domain_range = (low, high); size_range = (omega arith, omega arith) }
in_bounds Size n low high = record { turns_range = (omega arith, omega arith); levels_range = (omega arith, omega arith); domain_range = (omega arith, omega arith); size_range = (low, high) }
in_bounds Version n low high = (low, high)

pub few : (name : Name) → most name < 2 ^ 64
few Workers = omega arith
few Turns = omega arith
few Levels = omega arith
few Domain = omega arith
few Size = omega arith
few Version = omega arith
