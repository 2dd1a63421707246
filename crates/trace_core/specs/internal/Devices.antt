-- The devices for tests as contracts see them.
use Rattle.std.specs.Prelude.{ℕ, List}

-- A tape: the rest of its text, the most bytes that a call gives, which call fails (0: none), and
-- how many calls were made and how many failed, both up to 2^64 - 1.
pub record TapeState : Type 0 where
  pub rest : List ℕ
  pub most : ℕ
  pub fails_at : ℕ
  pub calls : ℕ
  pub failures : ℕ

-- An array that is written to: the bytes that it holds, the most that a call takes, its calls as
-- those of a tape, and how many of them were flushes, up to 2^64 - 1.
pub record ArrayState : Type 0 where
  pub bytes : List ℕ
  pub most : ℕ
  pub fails_at : ℕ
  pub calls : ℕ
  pub failures : ℕ
  pub flushes : ℕ
