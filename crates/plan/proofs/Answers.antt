-- What the reader's steps answer for a sound plan, and for a broken one.
use mathlib.Core.Path.{◌≡◌, refl, sym, ◌∙◌, ap, subst⁻¹}
use mathlib.Core.List.{List, [], ◌++◌, append-nil}
use Prim.Native.Nat.{ℕ, ◌+◌, ◌*◌, ◌<◌, ◌≤◌}
use native.Mathlib.Omega.{arith}
use lib.ListN.{length, drop, length-append}
use lib.Seq.{drop-drop}
use borrow.Author.Tests.{lt-ltb, le-ltb}
use Rattle.std.specs.Prelude.{Result, Ok}
use Rattle.answers.specs.declared.Refusal.{Refusal}
use Rattle.plan.specs.declared.Content.{Content}
use Rattle.plan.specs.declared.Plan.{Plan}
use Rattle.plan.specs.Records.{number, number_in, floor_record, map_record, size_record, query_records}
use Rattle.plan.specs.Sound.{Contents, Sound, plan_bytes, first_query_place}
use Rattle.plan.specs.Break.{Wrong, Fixed, Any, Broken}
use Rattle.plan.specs.Break.Wrong.{cut_off}
use Rattle.plan.specs.Break.Broken.{at_floor, at_map, at_size, at_query}
use Rattle.plan.specs.Reads.{plan_of, broken_at}
use Rattle.plan.specs.inner.Steps.{content_at, record_at, fixed_record_at, count_from, after_end, after_queries, after_size, after_map, after_floor, reading_of}
use Rattle.plan.proofs.Numbers.{number_read}
use Rattle.plan.proofs.Chain.{right_read, wrong_read, found_at, found_fixed_at, next_rest}
use Rattle.plan.proofs.Queries.{count_right}
use Rattle.plan.proofs.Joined.{plan_length, joined_rest}

-- a right record is read, and the steps go on behind it
module _ (bytes rest : List ℕ) where
  floor_step : (width height : ℕ) → bytes ≡ floor_record width height ++ rest
      → (reading_of bytes ≡ after_map bytes (content_at 0 4) (record_at bytes 8 2)) × (drop 8 bytes ≡ rest)
  floor_step width height e = (
    ap (after_floor bytes) (right_read (drop 0 bytes) 0 1 (Fixed 4) (number width ++ number height) rest e refl _ (found_fixed_at bytes 0 1 4)),
    next_rest bytes 0 1 (number width ++ number height) rest e,
  )

  map_step : (floor : Content) (at : ℕ) (map : List ℕ) → drop at bytes ≡ map_record map ++ rest
      → (after_map bytes floor (record_at bytes at 2) ≡ after_size bytes floor (content_at at (length map)) (fixed_record_at bytes (at + 4 + length map) 3 2))
      × (drop (at + 4 + length map) bytes ≡ rest)
  map_step floor at map e = (
    ap (after_map bytes floor) (right_read (drop at bytes) at 2 Any map rest e tt _ (found_at bytes at 2)),
    next_rest bytes at 2 map rest e,
  )

  size_step : (floor map : Content) (at size : ℕ) → drop at bytes ≡ size_record size ++ rest
      → (after_size bytes floor map (fixed_record_at bytes at 3 2) ≡ after_queries bytes floor map (content_at at 2) (count_from bytes 64 (at + 4 + 2)))
      × (drop (at + 4 + 2) bytes ≡ rest)
  size_step floor map at size e = (
    ap (after_size bytes floor map) (right_read (drop at bytes) at 3 (Fixed 2) (number size) rest e refl _ (found_fixed_at bytes at 3 2)),
    next_rest bytes at 3 (number size) rest e,
  )

-- where the queries begin, behind a map of some length
abbrev queries_at : ℕ → ℕ
queries_at n = 12 + n + 4 + 2

-- the answer for bytes that begin with a plan, as soon as its queries are counted
abbrev counted : List ℕ → ℕ → ℕ → Result Plan Refusal
counted bytes n count = after_queries bytes (content_at 0 4) (content_at 8 n) (content_at (12 + n) 2) count

module _ (bytes rest : List ℕ) (c : Contents) (e : bytes ≡ plan_bytes c ++ rest) where
  -- the first three records of a plan are read
  through : (reading_of bytes ≡ counted bytes (length c.map) (count_from bytes 64 (queries_at (length c.map))))
      × (drop (queries_at (length c.map)) bytes ≡ query_records c.queries ++ rest)
      × (drop (12 + length c.map) bytes ≡ size_record c.size ++ (query_records c.queries ++ rest))
  through =
      let f = floor_step bytes _ c.width c.height (e ∙ joined_rest c rest) in
      let m = map_step bytes _ (content_at 0 4) 8 c.map f.1 in
      let s = size_step bytes _ (content_at 0 4) (content_at 8 (length c.map)) (12 + length c.map) c.size m.1 in
      (f.0 ∙ (m.0 ∙ s.0), s.1, m.1)

  -- the rest is what the bytes have more than the plan
  behind : length bytes ≡ queries_at (length c.map) + 12 * length c.queries + length rest
  behind = omega (arith, ap length e, length-append (plan_bytes c) rest, plan_length c)

  -- and its queries are counted, where a wrong record stands behind them or no more are wanted
  all_counted : length c.queries ≤ 64 → (length c.queries < 64 → Wrong 4 (Fixed 8) rest)
      → reading_of bytes ≡ counted bytes (length c.map) (length c.queries)
  all_counted few stop =
      through.0
      ∙ ap (counted bytes (length c.map)) (count_right bytes rest c.queries 64 (queries_at (length c.map)) through.1 few stop)

-- a sound plan is answered with its numbers
pub sound_read : (bytes : List ℕ) (c : Contents) → Sound bytes c → reading_of bytes ≡ Ok (plan_of c)
sound_read bytes c s =
    let n = length c.map in
    let e : bytes ≡ plan_bytes c ++ [] = s.joined ∙ sym (append-nil (plan_bytes c)) in
    let width : number_in (drop 4 bytes) ≡ c.width = ap (λ (l : List ℕ). number_in (drop 4 l)) e ∙ number_read c.width _ in
    let height : number_in (drop 6 bytes) ≡ c.height = ap (λ (l : List ℕ). number_in (drop 6 l)) e ∙ number_read c.height _ in
    let size : number_in (drop (12 + n + 4) bytes) ≡ c.size =
    ap number_in (sym (drop-drop 4 (12 + n) bytes) ∙ ap (drop 4) (through bytes [] c e).2) ∙ number_read c.size _ in
    let first : queries_at n ≡ first_query_place c = omega arith in
    all_counted bytes [] c e s.few (λ _. cut_off (omega arith))
    ∙ (ap (after_end bytes (content_at 0 4) (content_at 8 n) (content_at (12 + n) 2) (length c.queries)) (le-ltb _ _ (omega (arith, behind bytes [] c e)))
    ∙ λ i.
    Ok
    (record {
      width = width i;
      height = height i;
      size = size i;
      map_at = 12;
      map_len = n;
      queries = length c.queries;
      first_query = first i;
    }))

-- a broken plan is answered with the place of its break
pub broken_read : (bytes : List ℕ) (at : ℕ) → Broken bytes at → reading_of bytes ≡ broken_at at
broken_read bytes at (at_floor a) =
    ap (after_floor bytes) (wrong_read (drop 0 bytes) 0 1 (Fixed 4) (subst⁻¹ (Wrong 1 (Fixed 4)) a.split a.breaks) _ (found_fixed_at bytes 0 1 4))
    ∙ ap broken_at (sym a.place)
broken_read bytes at (at_map width height a) =
    let f = floor_step bytes _ width height a.split in
    f.0
    ∙ (ap (after_map bytes (content_at 0 4)) (wrong_read (drop 8 bytes) 8 2 Any (rw f.1 a.breaks) _ (found_at bytes 8 2))
    ∙ ap broken_at (sym a.place))
broken_read bytes at (at_size width height map a) =
    let n = length map in
    let f = floor_step bytes _ width height a.split in
    let m = map_step bytes _ (content_at 0 4) 8 map f.1 in
    let place : 12 + n ≡ at = sym (a.place ∙ omega arith) in
    f.0
    ∙ (m.0
    ∙ (ap (after_size bytes (content_at 0 4) (content_at 8 n))
    (wrong_read (drop (12 + n) bytes) (12 + n) 3 (Fixed 2) (rw m.1 a.breaks) _ (found_fixed_at bytes (12 + n) 3 2))
    ∙ ap broken_at place))
broken_read bytes at (at_query before c s a) =
    let n = length c.map in
    let e : bytes ≡ plan_bytes c ++ a.rest = a.split ∙ ap (λ (l : List ℕ). l ++ a.rest) s.joined in
    let place : queries_at n + 12 * length c.queries ≡ at = omega (arith, a.place, ap length s.joined, plan_length c) in
    all_counted bytes a.rest c e s.few a.breaks.no_query
    ∙ (ap (after_end bytes (content_at 0 4) (content_at 8 n) (content_at (12 + n) 2) (length c.queries))
    (lt-ltb _ _ (omega (arith, behind bytes a.rest c e, a.breaks.more)))
    ∙ ap broken_at place)
