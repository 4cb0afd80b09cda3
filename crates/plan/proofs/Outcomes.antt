-- What each way out of the reader shows: one law for each, over the definitions alone.
use mathlib.Core.Path.{◌≡◌, sym, ◌∙◌, ap}
use mathlib.Core.List.{List}
use Prim.Native.Nat.{ℕ, ◌+◌, ◌*◌}
use lib.ListN.{get_or, drop}
use Rattle.std.proofs.Common.{Fits, w8}
use Rattle.std.specs.Prelude.{Bool, Option, Some, Result, Ok, Err, IsErr, IsErrAnd}
use Rattle.std.proofs.lemmas.Result.{err_from_is_err_and}
use Rattle.answers.specs.declared.Refusal.{Refusal}
use Rattle.answers.specs.declared.Refusal.TheVariants.{PlanBroken}
use Rattle.answers.specs.Refusing.{refuse, gives}
use Rattle.answers.proofs.Refusals.{refuse_passed, refuse_refused}
use Rattle.plan.specs.declared.Content.{Content}
use Rattle.plan.specs.declared.Plan.{Plan}
use Rattle.plan.specs.Records.{number_in}
use Rattle.plan.specs.Reads.{plan_given, Reads}
use Rattle.plan.specs.inner.Steps.{or_broken, record_at, fixed_record_at, count_from, goes_on_at, after_end, after_queries, after_size, after_map, after_floor, reading_of}
use Rattle.plan.proofs.Numbers.{Bytes}
use Rattle.plan.proofs.Ways.{not_there}
use Rattle.plan.proofs.Answers.{sound_read, broken_read}
use Rattle.plan.proofs.Total.{Told, judge}

-- the steps' answer is what the reader is to give
answered : (bytes : List ℕ) → Bytes bytes → (r : Result Plan Refusal) → reading_of bytes ≡ r → Reads bytes r
answered bytes b r e = go (judge bytes b)
  where
    go : Told bytes → Reads bytes r
    go (Told.sound c s) = Reads.sound c s (ap (gives plan_given) (sym e ∙ sound_read bytes c s))
    go (Told.broken at k) = Reads.broken at k (ap (gives plan_given) (sym e ∙ broken_read bytes at k))

-- what is known once the first record is read, then the second, then the third
pub record FloorRead (bytes : List ℕ) (floor : Content) : Type 0 where
  pub known : Bytes bytes
  pub found : fixed_record_at bytes 0 1 4 ≡ Some floor

pub record MapRead (bytes : List ℕ) (floor map : Content) : Type 0 where
  pub before : FloorRead bytes floor
  pub found : record_at bytes floor.next 2 ≡ Some map

pub record SizeRead (bytes : List ℕ) (floor map size : Content) : Type 0 where
  pub before : MapRead bytes floor map
  pub found : fixed_record_at bytes map.next 3 2 ≡ Some size

module _ {bytes : List ℕ} (fits : (i : ℕ) → Fits w8 (get_or bytes i 0)) where
  pub floor_read : {o : Option Content} {floor : Content} → o ≡ fixed_record_at bytes 0 1 4 → o ≡ Some floor → FloorRead bytes floor
  floor_read e h = record { known = λ i. (fits i).fits; found = sym e ∙ h }

  pub floor_broken : {o : Option Content} {f : Refusal} → o ≡ fixed_record_at bytes 0 1 4 → Err f ≡ or_broken 0 o → Reads bytes (Err f)
  floor_broken e h =
      let (none, same) = not_there h in
      answered bytes (λ i. (fits i).fits) _ (ap (after_floor bytes) (sym e ∙ none) ∙ ap Err same)

module _ {bytes : List ℕ} {floor : Content} (before : FloorRead bytes floor) where
  floor_step : reading_of bytes ≡ after_map bytes floor (record_at bytes floor.next 2)
  floor_step = ap (after_floor bytes) before.found

  pub map_read : {o : Option Content} {map : Content} → o ≡ record_at bytes floor.next 2 → o ≡ Some map → MapRead bytes floor map
  map_read e h = record { before = before; found = sym e ∙ h }

  pub map_broken : {o : Option Content} {f : Refusal} → o ≡ record_at bytes floor.next 2 → Err f ≡ or_broken floor.next o → Reads bytes (Err f)
  map_broken e h =
      let (none, same) = not_there h in
      answered bytes before.known _ (floor_step ∙ (ap (after_map bytes floor) (sym e ∙ none) ∙ ap Err same))

module _ {bytes : List ℕ} {floor map : Content} (before : MapRead bytes floor map) where
  map_step : reading_of bytes ≡ after_size bytes floor map (fixed_record_at bytes map.next 3 2)
  map_step = floor_step before.before ∙ ap (after_map bytes floor) before.found

  pub size_read : {o : Option Content} {size : Content} → o ≡ fixed_record_at bytes map.next 3 2 → o ≡ Some size → SizeRead bytes floor map size
  size_read e h = record { before = before; found = sym e ∙ h }

  pub size_broken : {o : Option Content} {f : Refusal} → o ≡ fixed_record_at bytes map.next 3 2 → Err f ≡ or_broken map.next o
      → Reads bytes (Err f)
  size_broken e h =
      let (none, same) = not_there h in
      answered bytes before.before.known _ (map_step ∙ (ap (after_size bytes floor map) (sym e ∙ none) ∙ ap Err same))

module _ {bytes : List ℕ} {floor map size : Content} (before : SizeRead bytes floor map size) where
  module _ (n : ℕ) (counted : n ≡ count_from bytes 64 size.next) where
    size_step : {x : Bool} → goes_on_at bytes (size.next + 12 * n) ≡ x → reading_of bytes ≡ after_end bytes floor map size n x
    size_step e =
        map_step before.before
        ∙ (ap (after_size bytes floor map) before.found ∙ (ap (after_queries bytes floor map size) (sym counted) ∙ ap (after_end bytes floor map size n) e))

    pub queries_broken : {f : Refusal} → Err f ≡ refuse (PlanBroken (size.next + 12 * n)) (goes_on_at bytes (size.next + 12 * n)) → Reads bytes (Err f)
    queries_broken h =
        let (more, same) = refuse_refused _ _ _ (sym h) in answered bytes before.before.before.known _ (size_step more ∙ ap Err same)

    pub whole_plan : Ok tt ≡ refuse (PlanBroken (size.next + 12 * n)) (goes_on_at bytes (size.next + 12 * n)) → (w h cm : ℕ) → w ≡ number_in (drop floor.at bytes)
        → h ≡ number_in (drop (floor.at + 2) bytes)
        → cm ≡ number_in (drop size.at bytes)
        → Reads bytes
        (Ok (record { width = w; height = h; size = cm; map_at = map.at; map_len = map.len; queries = n; first_query = size.next }))
    whole_plan e w h cm ew eh es =
        rw (ew, eh, es) (answered bytes before.before.before.known _ (size_step (refuse_passed _ _ (sym e))))

-- a `?` hands the refusal up
pub handed_on : {bytes : List ℕ} {f : Refusal} (r : Result Plan Refusal) → IsErr r × IsErrAnd r (λ e. e ≡ f) → Reads bytes (Err f) → Reads bytes r
handed_on r e a = let p = err_from_is_err_and r e.1 in rw (p.1, p.2) a
