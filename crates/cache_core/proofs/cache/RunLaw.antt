-- The laws of one step, over whole lists of events.
use Rattle.std.proofs.Common.{◌≡◌, List, [], ◌∷◌, ◌++◌, sym, subst, append_assoc, append-nil}
use Rattle.std.proofs.lemmas.List.Sums.{fold-append}
use Rattle.trace_core.specs.declared.events.Event.{Event}
use Rattle.trace_core.specs.declared.events.Event.TheVariants as event
use Rattle.cache_core.specs.cache.Machine.{Machine, start, next, run}
use Rattle.cache_core.proofs.cache.SoundLaw.{run_sound}
use Rattle.cache_core.specs.cache.Stands.{OrderLaw, IsState, CacheStandsFor, StartLaw}
use Rattle.cache_core.specs.cache.Stands.{AccessLaw, FlushLaw, RunLaw}
use Rattle.cache_core.proofs.cache.StateLaw.{access_law}
use Rattle.cache_core.proofs.cache.FlushLaw.{start_state, flush_law}

-- one more event
pub run_more : (m : Machine) (events : List Event) (e : Event) → run m (events ++ e ∷ []) ≡ next m
    (run m events) e
run_more m events e = fold-append (next m) start events (e ∷ [])

pub start_law : StartLaw
start_law m c d r w e = start_state m c d r w e

pub access_run : AccessLaw
access_run m events old ref outcome new ways i a =
    let r = access_law m (run m events) old ref outcome new (run_sound m events ways).0 i a in (
      subst (λ st. IsState m st new) (sym (run_more m events (event.Reference ref))) r.state,
      r.effect,
    )

pub flush_run : FlushLaw
flush_run m events old dirty new i f =
    let r = flush_law m (run m events) old dirty new i f in
    (subst (λ st. IsState m st new) (sym (run_more m events event.Flush)) r.state, r.effect)

pub order_run : OrderLaw
order_run m events ways = (run_sound m events ways).0

pub runs_law : RunLaw
runs_law m events [] old new ways i r = subst (λ es. CacheStandsFor m es new)
    (sym (append-nil events)) (subst (CacheStandsFor m events) (sym r) i)
runs_law m events (event.Reference ref ∷ more) old new ways i (outcome, half, a, r) =
    subst (λ es. CacheStandsFor m es new) (append_assoc events (event.Reference ref ∷ []) more)
    (runs_law m (events ++ event.Reference ref ∷ []) more half new ways
    (access_run m events old ref outcome half ways i a).0 r)
runs_law m events (event.Flush ∷ more) old new ways i (dirty, half, f, r) =
    subst (λ es. CacheStandsFor m es new) (append_assoc events (event.Flush ∷ []) more)
    (runs_law m (events ++ event.Flush ∷ []) more half new ways
    (flush_run m events old dirty half i f).0 r)
