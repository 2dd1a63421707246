-- Worked runs of the stamp machine under each policy and mode, computed.
use Rattle.std.proofs.Common.{◌≡◌, ℕ, Bool, true, false, not, List, [], ◌∷◌, ◌++◌, map, Option}
use Rattle.std.proofs.Common.{Some, None, refl}
use Rattle.std.specs.Prelude.{is_some, count_by as count}
use Rattle.trace_core.specs.declared.events.Ref.{Ref}
use Rattle.trace_core.specs.declared.events.Access.TheVariants.{Fetch, Read, Write}
use Rattle.trace_core.specs.declared.events.Event.{Event}
use Rattle.trace_core.specs.declared.events.Event.TheVariants as event
use Rattle.trace_core.specs.Events.{at}
use Rattle.cache_core.specs.declared.outcome.Slot.{Slot}
use Rattle.cache_core.specs.declared.design.Repl.{Repl}
use Rattle.cache_core.specs.declared.design.Repl.TheVariants.{Lru, Fifo, Random}
use Rattle.cache_core.specs.declared.design.WriteMode.{WriteMode}
use Rattle.cache_core.specs.declared.design.WriteMode.TheVariants.{Back, Through}
use Rattle.cache_core.specs.declared.design.AllocMode.{AllocMode}
use Rattle.cache_core.specs.declared.design.AllocMode.TheVariants.{Always, Never}
use Rattle.cache_core.specs.cache.Outcomes.{Effect}
use Rattle.cache_core.specs.cache.Machine.{Machine, step, effects, run, dirty_count}
use Rattle.rand_pcg.specs.Lcg.{state_after}
use Rattle.cache_core.specs.replacement.RandomNumbers.{random_number, generator_of}
use Rattle.cache_core.proofs.WindowRows.{twelve}

-- one set of so many lines of 16 bytes, with the random numbers of seed 42
abbrev machine : Repl → ℕ → WriteMode → AllocMode → Machine
machine policy ways write alloc = record {
  design = record { geometry = record { s = 0; e = ways; b = 4 }; write = write; allocate = alloc };
  policy = policy;
  random_numbers = random_number (generator_of 42);
}

abbrev pub read : ℕ → Event
read a = event.Reference (at Read a)

abbrev pub write : ℕ → Event
write a = event.Reference (at Write a)

abbrev pub fetch : ℕ → Event
fetch a = event.Reference (at Fetch a)

abbrev slot : ℕ → Bool → Slot
slot block dirty = record { block = block; dirty = dirty }

-- hits, misses and evictions
abbrev counts_of : Machine → List Event → ℕ × ℕ × ℕ
counts_of m events =
    let all = effects m events in
    (count (λ a. a.hit) all, count (λ a. not a.hit) all, count (λ a. is_some a.evicted) all)

-- with FIFO more lines can miss more (Belady, Nelson and Shedler 1969)
fifo_of_three : counts_of (machine Fifo 3 Back Always) twelve ≡ (3, 9, 6)
fifo_of_three = refl

fifo_of_four : counts_of (machine Fifo 4 Back Always) twelve ≡ (2, 10, 6)
fifo_of_four = refl

abbrev pub six : List Event
six = read 0x10 ∷ read 0x20 ∷ read 0x30 ∷ read 0x10 ∷ read 0x20 ∷ read 0x10 ∷ []

six_by_lru : counts_of (machine Lru 2 Back Always) six ≡ (1, 5, 3)
six_by_lru = refl

six_by_fifo : counts_of (machine Fifo 2 Back Always) six ≡ (1, 5, 3)
six_by_fifo = refl

six_by_random : counts_of (machine Random 2 Back Always) six ≡ (2, 4, 2)
unfolding state_after
six_by_random = refl

-- the first random numbers of the generator (the PCG32 demonstration of O'Neill 2014)
first_numbers : map (random_number (generator_of 42))
    (0 ∷ 1 ∷ 2 ∷ 3 ∷ []) ≡ 0xa15c02b7 ∷ 0x7b47f409 ∷ 0xba1d3330 ∷ 0x83d2f293 ∷ []
unfolding state_after
first_numbers = refl

-- a flush empties the ways, and the generator goes on where it was
numbers_go_on_after_a_flush : counts_of (machine Random 2 Back Always)
    (six ++ event.Flush ∷ read 0x10 ∷ read 0x20 ∷ read 0x30 ∷ []) ≡ (2, 7, 3)
unfolding state_after
numbers_go_on_after_a_flush = refl

clean_blocks_are_not_flushed : dirty_count (run (machine Random 2 Back Always) six) ≡ 0
unfolding state_after
clean_blocks_are_not_flushed = refl

-- the effect of a reference after a list of events
abbrev effect_after : Machine → List Event → Ref → Effect
effect_after m events ref = (step m (run m events) ref).effect

third_number_takes_way_zero :
    (effect_after (machine Random 2 Back Always) (six ++ event.Flush ∷ read 0x10 ∷ read 0x20 ∷ [])
    (at Read 0x30)).evicted ≡ Some (slot 1 false)
unfolding state_after
third_number_takes_way_zero = refl

-- the same of a cache of one line
abbrev after : WriteMode → AllocMode → List Event → Ref → Effect
after w a events ref = effect_after (machine Lru 1 w a) events ref

abbrev hits : List Ref → Effect
hits down = record { hit = true; evicted = None; placed = false; down = down }

abbrev places : Option Slot → List Ref → Effect
places evicted down = record { hit = false; evicted = evicted; placed = true; down = down }

abbrev passes : List Ref → Effect
passes down = record { hit = false; evicted = None; placed = false; down = down }

dirty_victim_goes_down_first : after Back Always (write 0 ∷ []) (at Read 0x1f) ≡ places
    (Some (slot 0 true)) (at Write 0 ∷ at Read 0x10 ∷ [])
dirty_victim_goes_down_first = refl

write_miss_fills : after Back Always (read 0 ∷ []) (at Write 0x1f) ≡ places (Some (slot 0 false))
    (at Read 0x10 ∷ [])
write_miss_fills = refl

write_goes_through_after_the_fill : after Through Always [] (at Write 0x1f) ≡ places None
    (at Read 0x10 ∷ at Write 0x1f ∷ [])
write_goes_through_after_the_fill = refl

write_hit_goes_through : after Through Always (read 0x10 ∷ []) (at Write 0x1f) ≡ hits
    (at Write 0x1f ∷ [])
write_hit_goes_through = refl

write_miss_passes : after Back Never (read 0 ∷ []) (at Write 0x1f) ≡ passes (at Write 0x1f ∷ [])
write_miss_passes = refl

write_hit_stays : after Back Never (read 0x10 ∷ []) (at Write 0x1f) ≡ hits []
write_hit_stays = refl

fetch_fills_by_a_fetch : after Back Always [] (at Fetch 0x1f) ≡ places None (at Fetch 0x10 ∷ [])
fetch_fills_by_a_fetch = refl
