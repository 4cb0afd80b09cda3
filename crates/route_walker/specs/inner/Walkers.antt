-- What the functions inside the reader compute: the next heading, the walker, its steps and a leg. Over any order of
-- the eight headings.
use Rattle.std.specs.Prelude.{◌≡◌, ℕ, zero, suc, ◌+◌, ◌*◌, ◌/◌, ◌%◌, ◌<◌, ◌≤◌, Bool, true, false, ◌≢◌, List, [], ◌∷◌, length, ◌==◌, slice_index, slice_index_or, Option, Some, None}
use Rattle.answers.specs.Bools.{pick}
use Rattle.lengths.specs.declared.Length.{Length}
use Rattle.lengths.specs.Order.{zero_length, ◌⊕◌, steps}
use Rattle.steps.specs.declared.heading.Heading.{Heading}
use Rattle.floor.specs.Floor.{Map, Open, cells}
use Rattle.steps.specs.Heading.{change_of, weight}
use Rattle.steps.specs.inner.Ranking.{Ranking}
use Rattle.steps.specs.inner.Leading.{lead_of}
use Rattle.table_theory.specs.Entry.{long, pack}
use Rattle.route_walker.specs.declared.Walker.{Walker}
use Rattle.route_walker.specs.declared.WalkedLeg.{WalkedLeg}
use Rattle.route_walker.specs.Legs.{again}

-- what a step by heading h adds to a table's number
abbrev pub cost : ℕ → ℕ
cost h = pack (long (weight h))

-- a step that leads somewhere, and the number here is the number there with the step added
abbrev pub fits_lead : List ℕ → ℕ → ℕ → Option ℕ → Bool
fits_lead table here h None = false
fits_lead table here h (Some y) = here == (slice_index table y + cost h)

-- the step by heading h from x is permitted, and the numbers of its ends differ by it
unfoldable pub fits : (ℕ → ℕ → Option ℕ) → List ℕ → ℕ → ℕ → Bool
fits lead table x h = fits_lead table (slice_index table x) h (lead h x)

-- the first of k headings from place i that passes the test, or 8
abbrev pub seek : (ℕ → Bool) → (ℕ → ℕ) → ℕ → ℕ → ℕ
seek test at zero i = 8
seek test at (suc k) i = pick (test (at i)) (at i) (seek test at k (suc i))

-- the first heading whose step fits, or 8
unfoldable pub next : (ℕ → ℕ → Option ℕ) → List ℕ → (ℕ → ℕ) → ℕ → ℕ
next lead table at x = seek (fits lead table x) at 8 0

-- a walker's next heading by its number, 8 for none
abbrev pub taken : Option Heading → ℕ
taken None = 8
taken (Some h) = h.number

-- the reader's headings from x, with their length
pub data Run (lead : ℕ → ℕ → Option ℕ) (table : List ℕ) (at : ℕ → ℕ) : ℕ → List ℕ → Length → Type 0 where
  done : {x : ℕ} → next lead table at x ≡ 8 → Run lead table at x [] zero_length
  more : {h x y : ℕ} {hs : List ℕ} {l : Length} → next lead table at x ≡ h → h < 8 → lead h x ≡ Some y → Run lead table at y hs l
      → Run lead table at x (h ∷ hs) (l ⊕ weight h)

-- where heading h leads from x, counted a row and a column further, so that it is a whole number
abbrev pub past : ℕ → ℕ → ℕ → ℕ
past width x h = x + (change_of h).row * width + (change_of h).column

-- whether heading h leads from x to a place of the table, and the numbers there and here differ by the step
pub record Differ (width : ℕ) (table : List ℕ) (x h : ℕ) (r : Bool) : Type 0 where
  pub found : r ≡ true → (y : ℕ) × (y < length table) × (y + (width + 1) ≡ past width x h) × (slice_index table x ≡ slice_index table y + cost h)
  pub none : r ≡ false → (y : ℕ) → y < length table → y + (width + 1) ≡ past width x h → slice_index table x ≡ slice_index table y + cost h → ⊥

-- whether heading h leads from x to a column of the floor
pub record InWidth (width x h : ℕ) (r : Bool) : Type 0 where
  pub on : r ≡ true → (1 ≤ x % width + (change_of h).column) × (x % width + (change_of h).column ≤ width)
  pub off : r ≡ false → 1 ≤ x % width + (change_of h).column → x % width + (change_of h).column ≤ width → ⊥

-- a table that can be read: a number for each cell, and where the numbers of two cells differ by a straight step, both
-- are open. A filled table is so
pub record Readable (m : Map) (table : List ℕ) : Type 0 where
  pub size : length table ≡ cells m
  pub ends : (x y : ℕ) → x < cells m → y < cells m → slice_index table x ≡ slice_index table y + 65536
      → Open m (x % m.width) (x / m.width) × Open m (y % m.width) (y / m.width)

-- the walker stands on the floor and knows its next heading, and its counts have room for the steps that are left
pub record Stands (m : Map) (table : List ℕ) (o : Ranking) (w : Walker) : Type 0 where
  pub on : w.cell < cells m
  pub ready : taken w.next ≡ next (lead_of m) table o.at w.cell
  pub few : steps w.length + slice_index table w.cell < 4294967296

-- a walker at a cell, before its first step
pub record Starts (m : Map) (table : List ℕ) (o : Ranking) (cell : ℕ) (w : Walker) : Type 0 where
  pub stands : Stands m table o w
  pub there : w.cell ≡ cell
  pub none : w.length ≡ zero_length

-- one step from w to v
pub record Steps (m : Map) (table : List ℕ) (o : Ranking) (w v : Walker) : Type 0 where
  pub lead : lead_of m (taken w.next) w.cell ≡ Some v.cell
  pub sum : v.length ≡ w.length ⊕ weight (taken w.next)
  pub falls : slice_index_or table v.cell 0 < slice_index table w.cell
  pub stands : Stands m table o v

-- what a step hands back: the walker moved, or at the goal the same
pub record Stepped (m : Map) (table : List ℕ) (o : Ranking) (w v : Walker) : Type 0 where
  pub still : 8 ≤ taken w.next → v ≡ w
  pub moved : taken w.next < 8 → Steps m table o w v

-- what n steps by the heading h from w to v leave of the headings hs, of length l
pub record Split (m : Map) (table : List ℕ) (o : Ranking) (w v : Walker) (n h : ℕ) (hs : List ℕ) (l : Length) : Type 0 where
  pub rest : List ℕ
  pub left : Length
  pub run : Run (lead_of m) table o.at v.cell rest left
  pub heads : hs ≡ again n h rest
  pub sum : v.length ⊕ left ≡ w.length ⊕ l

-- n steps by the heading h lead from w to v
pub record Walked (m : Map) (table : List ℕ) (o : Ranking) (w v : Walker) (n h : ℕ) : Type 0 where
  pub stands : Stands m table o v
  pub falls : slice_index_or table v.cell 0 + n ≤ slice_index table w.cell
  pub first : n ≡ 0 → v ≡ w
  pub split : (hs : List ℕ) (l : Length) → Run (lead_of m) table o.at w.cell hs l → Split m table o w v n h hs l

-- the whole leg from w
pub record Leads (m : Map) (table : List ℕ) (o : Ranking) (w : Walker) (r : WalkedLeg) : Type 0 where
  pub heading : r.heading.number ≡ taken w.next
  pub going : Walked m table o w r.after r.count (taken w.next)
  pub whole : taken r.after.next ≢ taken w.next
  pub some : 0 < r.count
  pub short : r.count ≤ 127
