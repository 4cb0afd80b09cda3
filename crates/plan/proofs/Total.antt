-- Any bytes are a sound plan or a broken one: record after record, either the right one begins the rest or the break is there.
use mathlib.Core.Path.{◌≡◌, refl, sym, ◌∙◌, ap, ap₂, subst}
use mathlib.Core.List.{List, [], ◌∷◌, ◌++◌, append-nil}
use Prim.Native.Nat.{ℕ, zero, suc, ◌+◌, ◌-◌, ◌<◌, ◌≤◌}
use native.Mathlib.Omega.{arith}
use lib.ListN.{length, take, drop, length-drop}
use lib.Seq.{length-take-le}
use Rattle.std.specs.Prelude.{Option}
use Rattle.plan.specs.declared.Query.{Query}
use Rattle.plan.specs.declared.Content.{Content}
use Rattle.plan.specs.Records.{number_in, record_of, length_in, floor_record, map_record, size_record, query_records}
use Rattle.plan.specs.Sound.{Contents, Sound, plan_bytes}
use Rattle.plan.specs.Break.{Wrong, Fixed, Any, Broken}
use Rattle.plan.specs.Break.Broken.{at_floor, at_map, at_size, at_query}
use Rattle.plan.proofs.Numbers.{Bytes, bytes_drop, bytes_take, one_number, two_numbers, query_in, four_numbers}
use Rattle.plan.proofs.Joined.{joined_rest}
use Rattle.plan.proofs.Chain.{Met, record_whole, found_at, found_fixed_at}

-- one record begins the rest, or something is wrong with it
data Opened (kind : ℕ) (Takes : ℕ → Type 0) (rest : List ℕ) : Type 0 where
  right : (content after : List ℕ) → Bytes content → Bytes after → rest ≡ record_of kind content ++ after → Takes (length content)
      → Opened kind Takes rest
  wrong : Wrong kind Takes rest → Opened kind Takes rest

begun : (kind : ℕ) (Takes : ℕ → Type 0) (rest : List ℕ) → Bytes rest → (r : Option Content) → Met rest 0 kind Takes r → Opened kind Takes rest
begun kind Takes rest b r (Met.whole h k t) =
    let n = length_in rest in
    let long : length (drop 4 rest) ≡ length rest - 4 = length-drop 4 rest in
    let size : n ≡ length (take n (drop 4 rest)) = sym (length-take-le n (drop 4 rest) (omega arith)) in
    right (take n (drop 4 rest)) (drop (4 + n) rest) (bytes_take n (drop 4 rest) (bytes_drop 4 rest b)) (bytes_drop (4 + n) rest b)
    (rw k at (record_whole rest b h))
    (subst Takes size t)
begun kind Takes rest b r (Met.wrong w) = wrong w

-- as many queries as stand one after another
pub record Stand (left : ℕ) (bytes : List ℕ) : Type 0 where
  pub queries : List Query
  pub rest : List ℕ
  pub joined : bytes ≡ query_records queries ++ rest
  pub few : length queries ≤ left
  pub stop : length queries < left → Wrong 4 (Fixed 8) rest

stand : (left : ℕ) (bytes : List ℕ) → Bytes bytes → Stand left bytes
stand zero bytes b = record { queries = []; rest = bytes; joined = refl; few = omega arith; stop = λ h. absurd (omega arith) }
stand (suc left) bytes b = go (stand left) (begun 4 (Fixed 8) bytes b _ (found_fixed_at bytes 0 4 8))
  where
    go : ((l : List ℕ) → Bytes l → Stand left l) → Opened 4 (Fixed 8) bytes → Stand (suc left) bytes
    go more (wrong w) = record { queries = []; rest = bytes; joined = refl; few = omega arith; stop = λ h. w }
    go more (right content after bc ba e t) =
        let s = more after ba in
        record {
          queries = query_in content ∷ s.queries;
          rest = s.rest;
          joined = e ∙ ap₂ (λ (l m : List ℕ). record_of 4 l ++ m) (four_numbers content bc t) s.joined;
          few = omega arith;
          stop = λ h. s.stop (omega arith);
        }

-- what any bytes are
pub data Told (bytes : List ℕ) : Type 0 where
  sound : (c : Contents) → Sound bytes c → Told bytes
  broken : (at : ℕ) → Broken bytes at → Told bytes

-- the judgement from each record on, where those before it are right
module _ (bytes : List ℕ) where
  judge_queries : (width height size : ℕ) (map rest : List ℕ) → Stand 64 rest
      → bytes ≡ floor_record width height ++ (map_record map ++ (size_record size ++ rest)) → Told bytes
  judge_queries width height size map rest s e = go s.rest refl
    where
      c : Contents
      c = record { width = width; height = height; map = map; size = size; queries = s.queries }

      all : bytes ≡ plan_bytes c ++ s.rest
      all = e ∙ (ap (λ (l : List ℕ). floor_record width height ++ (map_record map ++ (size_record size ++ l))) s.joined ∙ sym (joined_rest c s.rest))

      go : (l : List ℕ) → s.rest ≡ l → Told bytes
      go [] f = sound c (record { joined = all ∙ (ap (λ (l : List ℕ). plan_bytes c ++ l) f ∙ append-nil (plan_bytes c)); few = s.few })
      go (x ∷ l) f =
          broken _
          (at_query (plan_bytes c) c (record { joined = refl; few = s.few })
          (record { rest = s.rest; split = all; place = refl; breaks = record { more = rw f (omega arith); no_query = s.stop } }))

  judge_size : (width height : ℕ) (map rest : List ℕ) → Bytes rest → bytes ≡ floor_record width height ++ (map_record map ++ rest)
      → Opened 3 (Fixed 2) rest → Told bytes
  judge_size width height map rest b e (wrong w) =
      broken _ (at_size width height map (record { rest = rest; split = e; place = refl; breaks = w }))
  judge_size width height map rest b e (right content after bc ba f t) =
      judge_queries width height (number_in content) map after (stand 64 after ba)
      (e ∙ ap (λ (l : List ℕ). floor_record width height ++ (map_record map ++ l)) (f ∙ ap (λ (l : List ℕ). record_of 3 l ++ after) (one_number content bc t)))

  judge_map : (width height : ℕ) (rest : List ℕ) → Bytes rest → bytes ≡ floor_record width height ++ rest → Opened 2 Any rest → Told bytes
  judge_map width height rest b e (wrong w) = broken _ (at_map width height (record { rest = rest; split = e; place = refl; breaks = w }))
  judge_map width height rest b e (right content after bc ba f t) =
      judge_size width height content after ba (e ∙ ap (λ (l : List ℕ). floor_record width height ++ l) f)
      (begun 3 (Fixed 2) after ba _ (found_fixed_at after 0 3 2))

  judge_floor : Opened 1 (Fixed 4) bytes → Told bytes
  judge_floor (wrong w) = broken _ (at_floor (record { rest = bytes; split = refl; place = refl; breaks = w }))
  judge_floor (right content after bc ba f t) =
      judge_map (number_in content) (number_in (drop 2 content)) after ba
      (f ∙ ap (λ (l : List ℕ). record_of 1 l ++ after) (two_numbers content bc t))
      (begun 2 Any after ba _ (found_at after 0 2))

-- any bytes are a sound plan, or a broken one
pub judge : (bytes : List ℕ) → Bytes bytes → Told bytes
judge bytes b = judge_floor bytes (begun 1 (Fixed 4) bytes b _ (found_fixed_at bytes 0 1 4))
