-- Sums of a full profile's histograms, for counts at rising associativities.
use Rattle.std.specs.Prelude.{ℕ, sum, take}
use Rattle.trace_core.specs.declared.events.Access.TheVariants.{Fetch, Read, Write}
use Rattle.profile_core.specs.profile.State.{fed_of}
use Rattle.full_profile.specs.State.{FullState, kind_of, kind_misses_at}

-- The sums up to an associativity: references found, misses in a set with a free line, misses of
-- each kind of access, and the ends of copybacks. And the references fed.
pub record FullSumsState : Type 0 where
  pub ways : ℕ
  pub hits : ℕ
  pub free_misses : ℕ
  pub fed : ℕ
  pub fetch_misses : ℕ
  pub read_misses : ℕ
  pub write_misses : ℕ
  pub copied_above : ℕ
  pub copied_up_to : ℕ

-- the sums of a profile up to an associativity
abbrev pub full_sums_at : FullState → ℕ → FullSumsState
full_sums_at v e = record {
  ways = e;
  hits = sum (take e v.plain.distances);
  free_misses = sum (take e v.plain.misses_by_occupancy);
  fed = fed_of v.plain;
  fetch_misses = kind_misses_at e (kind_of v Fetch);
  read_misses = kind_misses_at e (kind_of v Read);
  write_misses = kind_misses_at e (kind_of v Write);
  copied_above = sum (take e v.copied_above);
  copied_up_to = sum (take e v.copied_up_to);
}
