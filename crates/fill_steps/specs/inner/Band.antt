-- What the bands keep. A band is one straight step wide: its cells are settled before its steps are taken, and what
-- they reach lies in the next band or in the one after that, whatever the order.
use Rattle.std.specs.Prelude.{◌≡◌, ℕ, ◌+◌, ◌*◌, ◌<◌, ◌≤◌, ◌⊎◌, List, length, slice_index, slice_index_or}
use Rattle.fill_steps.specs.inner.Work.{unreached, span, goal_number, stepped, at, OffBorder, WorkStep, QueueRoom}

-- a band: the floor as it was loaded, in which the goal's cells have the goal's number; the work array and the end of
-- the queue when the band began; and the number at which it ends
pub record Band : Type 0 where
  pub floor : List ℕ
  pub before : List ℕ
  pub end : ℕ
  pub limit : ℕ

-- z with the number v was reached by a step from a settled cell
pub record Support (w : Band) (x : List ℕ) (z v : ℕ) : Type 0 where
  pub heading : ℕ
  pub cell : ℕ
  pub step : WorkStep w.floor heading cell z
  pub near : at x cell < w.limit
  pub sum : v ≡ stepped heading (at x cell)

-- z stands in the queue, from low on and before high
pub record Listed (q : List ℕ) (low high z : ℕ) : Type 0 where
  pub index : ℕ
  pub here : slice_index_or q index 0 ≡ z
  pub after : low ≤ index
  pub before : index < high

-- z was reached
pub record Reached (x : List ℕ) (z : ℕ) : Type 0 where
  pub free : 0 < at x z
  pub found : at x z < unreached

-- z was reached, past this band
pub record PastBand (w : Band) (x : List ℕ) (z : ℕ) : Type 0 where
  pub after : w.limit ≤ at x z
  pub found : at x z < unreached

-- what holds while a band's steps are taken
pub record Underway (w : Band) (x q : List ℕ) (t : ℕ) : Type 0 where
  -- open cells are not on the border
  pub border : (z : ℕ) → 0 < at w.floor z → OffBorder w.floor z
  -- the work array is as large as it was
  pub cells : length x ≡ length w.floor
  -- the queue has room for all that wait
  pub room : QueueRoom x q t
  -- the cells that the band reaches begin before the queue's end
  pub order : w.end ≤ t
  -- no number is above that of a cell that is not reached
  pub kinds : (z : ℕ) → at x z ≤ unreached
  -- blocked cells and no others are 0
  pub free : (z : ℕ) → 0 < at w.floor z → 0 < at x z
  pub shut : (z : ℕ) → at w.floor z ≡ 0 → at x z ≡ 0
  -- the goal's cells have length (0, 0)
  pub start : (z : ℕ) → at w.floor z ≡ goal_number → at x z ≡ goal_number
  -- everything reached lies below the end of the band after the next
  pub below : (z : ℕ) → at x z < unreached → at x z < w.limit + 2 * span
  -- every reached cell but the goal's has a settled neighbour whose number and the step make its own
  pub support : (z : ℕ) → 0 < at x z → at x z < unreached → (at w.floor z ≡ goal_number) ⊎ Support w x z (at x z)
  -- no step out of a cell before this band would lower a cell
  pub relaxed : (h a b : ℕ) → WorkStep w.floor h a b → at x a + span < w.limit → at x b ≤ stepped h (at x a)
  -- behind its end when the band began, the queue has the cells that were reached since, and all cells there lie past
  -- the band
  pub listed : (z : ℕ) → at w.before z ≡ unreached → at x z < unreached → Listed q w.end t z
  pub queued : (i : ℕ) → w.end ≤ i → i < t → PastBand w x (slice_index q i)

-- what steps do to the cells: none rises, settled ones stay, none falls into this band, and the queue stays up to the
-- band's end
pub record Falls (w : Band) (x q x' q' : List ℕ) : Type 0 where
  pub low : (z : ℕ) → at x' z ≤ at x z
  pub keep : (z : ℕ) → at x z < w.limit → at x' z ≡ at x z
  pub high : (z : ℕ) → w.limit ≤ at x z → w.limit ≤ at x' z
  pub queue : (i : ℕ) → i < w.end → slice_index q' i ≡ slice_index q i
