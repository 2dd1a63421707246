-- The policies, each by its rules: where a touched block and a new one go in the order of their
-- set, and which block leaves a full set.
use Rattle.std.specs.Prelude.{Bool, true, false}
use Rattle.cache_core.specs.declared.design.Repl.{Repl}
use Rattle.cache_core.specs.declared.design.Repl.TheVariants.{Lru, Fifo, Random}

-- where a block goes: in front of the others, or in the place of the one that is there, behind the
-- others if there is none
pub data Place : Type 0 where
  InFront : Place
  InPlace : Place

-- which block leaves a full set: the last of its order, or one that a random number draws
pub data Victim : Type 0 where
  Last : Victim
  Drawn : Victim

-- the rules of a policy
pub record Rules : Type 0 where
  pub touched : Place
  pub placed : Place
  pub victim : Victim

-- LRU puts a block in front when it is touched and when it is placed, FIFO only when it is placed;
-- from both the last leaves. Random leaves each block in its way, and exchanges one that it draws.
abbrev pub rules : Repl → Rules
rules Lru = record { touched = InFront; placed = InFront; victim = Last }
rules Fifo = record { touched = InPlace; placed = InFront; victim = Last }
rules Random = record { touched = InPlace; placed = InPlace; victim = Drawn }

-- whether a victim needs a random number
abbrev pub is_random : Victim → Bool
is_random Last = false
is_random Drawn = true
