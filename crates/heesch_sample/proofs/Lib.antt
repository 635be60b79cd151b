mod Growing
mod Tallies
