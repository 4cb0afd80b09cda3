-- What becomes of a spread.
use Rattle.std.specs.Prelude.{◌≡◌, ℕ, List, length}
use Rattle.fill_steps.specs.declared.Spread.{Spread}

-- a spread was moved on, over the same arrays, which keep their lengths, as Did says of the queue's end, the work array
-- and the queue before, and the work array, the queue and its end after
pub record Moved (w w' : Spread) (Did : ℕ → (x q x' q' : List ℕ) → ℕ → Type 0) : Type 0 where
  pub work : w'.work.ghost_name ≡ w.work.ghost_name
  pub queue : w'.queue.ghost_name ≡ w.queue.ghost_name
  pub work_size : length w'.work.now ≡ length w.work.now
  pub queue_size : length w'.queue.now ≡ length w.queue.now
  pub did : Did w.tail w.work.now w.queue.now w'.work.now w'.queue.now w'.tail
