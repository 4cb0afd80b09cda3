-- One pass: the cells q[mid..t] that were reached and have not taken their steps when a band begins. Those below the
-- band's end are ready: they take their steps, and the others wait. The first ones, q[mid..fresh], waited in the band
-- before, and are all ready; of the fresh ones, q[fresh..t], the ready ones are brought before the others.
use Rattle.std.specs.Prelude.{◌≡◌, List, ℕ, ◌+◌, ◌≤◌, ◌<◌, get_or, length}
use Rattle.fill_steps.specs.inner.Work.{span, highest, stepped, at, WorkStep}
use Rattle.fill_steps.specs.inner.Band.{Band, Listed, Reached, Underway, Falls}
use Rattle.fill_steps.specs.inner.Taken.{This}

-- q[mid..t] are places of the work array
pub record Places (x q : List ℕ) (mid t : ℕ) : Type 0 where
  pub order : mid ≤ t
  pub cells : (k : ℕ) → mid ≤ k → k < t → get_or q k 0 < length x

-- the cells q[mid..t] stand in another order: those below limit up to top, and the others from there on
pub record Parted (x : List ℕ) (limit mid t : ℕ) (q q' : List ℕ) (top : ℕ) : Type 0 where
  pub order : (mid ≤ top) × (top ≤ t)
  pub front : (k : ℕ) → mid ≤ k → k < top → at x (get_or q' k 0) < limit
  pub back : (k : ℕ) → top ≤ k → k < t → limit ≤ at x (get_or q' k 0)
  -- none is lost, and none is new
  pub kept : (k : ℕ) → mid ≤ k → k < t → Listed q' mid t (get_or q k 0)
  pub old : (k : ℕ) → mid ≤ k → k < t → Listed q mid t (get_or q' k 0)
  -- what stands before them or behind them stays
  pub head : (k : ℕ) → k < mid → get_or q' k 0 ≡ get_or q k 0
  pub rest : (k : ℕ) → t ≤ k → get_or q' k 0 ≡ get_or q k 0

-- of a spread the cells q[fresh..t] do
pub record FreshParted (fresh limit top t : ℕ) (x q x' q' : List ℕ) (t' : ℕ) : Type 0 where
  pub cells : x' ≡ x
  pub end : t' ≡ t
  pub parted : Parted x limit fresh t q q' top

-- the cells q[mid..top] are the band's, and the queue ends where it did when the band began
pub record StepsReady (w : Band) (x q : List ℕ) (mid top t : ℕ) : Type 0 where
  pub going : Underway w x q t
  pub small : w.limit ≤ highest
  pub begins : w.end ≡ t
  pub order : top ≤ t
  pub cells : (k : ℕ) → mid ≤ k → k < top → This x w.limit (get_or q k 0)

pub record StepsBegun (x q : List ℕ) (mid top t : ℕ) : Type 0 where
  pub band : Band
  pub ready : StepsReady band x q mid top t

-- the cells that stand at low and after it in a list, before high, have taken their steps
pub record StepsDone (w : Band) (list : List ℕ) (low high : ℕ) (x q x' q' : List ℕ) (t' : ℕ) : Type 0 where
  pub going : Underway w x' q' t'
  pub falls : Falls w x q x' q'
  pub done : (k h b : ℕ) → low ≤ k → k < high → WorkStep w.floor h (get_or list k 0) b → at x' b ≤ stepped h (at x (get_or list k 0))

-- all of q[mid..top] have, in every band whose cells they are
abbrev pub StepsLeft : (mid top t : ℕ) (x q x' q' : List ℕ) (t' : ℕ) → Type 0
StepsLeft mid top t x q x' q' t' = (w : Band) → StepsReady w x q mid top t → StepsDone w q mid top x q x' q' t'

-- the cell at p is one of the band that ends at limit, or of a later one
pub record Due (x : List ℕ) (limit p : ℕ) : Type 0 where
  pub reached : Reached x p
  pub after : limit ≤ at x p + span

-- the band begins
pub record PassReady (w : Band) (x q : List ℕ) (mid fresh t : ℕ) : Type 0 where
  pub going : Underway w x q t
  pub small : w.limit ≤ highest
  pub begins : w.end ≡ t
  pub order : (mid ≤ fresh) × (fresh ≤ t)
  pub cells : (i : ℕ) → mid ≤ i → i < t → Due x w.limit (get_or q i 0)
  -- those that waited in the band before are ready
  pub waited : (i : ℕ) → mid ≤ i → i < fresh → at x (get_or q i 0) < w.limit

pub record PassBegun (x q : List ℕ) (mid fresh t limit : ℕ) : Type 0 where
  pub band : Band
  pub ends : band.limit ≡ limit
  pub ready : PassReady band x q mid fresh t

-- the cells from mid on have taken their steps, or wait at q[top..t]
pub record PassDone (w : Band) (mid top : ℕ) (x q x' q' : List ℕ) (t' : ℕ) : Type 0 where
  pub going : Underway w x' q' t'
  pub low : (z : ℕ) → at x' z ≤ at x z
  pub keep : (z : ℕ) → at x z < w.limit → at x' z ≡ at x z
  pub high : (z : ℕ) → w.limit ≤ at x z → w.limit ≤ at x' z
  pub done :
      (k h b : ℕ) → mid ≤ k → k < w.end → at x (get_or q k 0) < w.limit → WorkStep w.floor h (get_or q k 0) b
      → at x' b ≤ stepped h (at x (get_or q k 0))
  pub waits : (k : ℕ) → top ≤ k → k < w.end → (Reached x (get_or q' k 0)) × (w.limit ≤ at x (get_or q' k 0))
  pub listed : (k : ℕ) → mid ≤ k → k < w.end → w.limit ≤ at x (get_or q k 0) → Listed q' top w.end (get_or q k 0)
  -- if a cell has taken its steps, fewer wait than there were
  pub fewer : (k : ℕ) → mid ≤ k → k < w.end → at x (get_or q k 0) < w.limit → mid < top

pub record PassLeft (mid fresh limit top t : ℕ) (x q x' q' : List ℕ) (t' : ℕ) : Type 0 where
  pub order : top ≤ t
  pub keeps : (w : Band) → w.limit ≡ limit → PassReady w x q mid fresh t → PassDone w mid top x q x' q' t'
