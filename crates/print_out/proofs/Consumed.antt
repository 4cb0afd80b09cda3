-- Bytes that are read, and then more.
use Rattle.std.proofs.Common.{◌≡◌, sym, ap, ◌∙◌, ℕ, ◌+◌, ◌≤◌, List, ◌++◌, length, take, append_assoc}
use Rattle.std.specs.Prelude.{Option, None, Some}
use Rattle.std.specs.Io.KnownBytes.{Consumes}
use Rattle.std.proofs.lemmas.List.{take-append-le, length-take-le}
use Rattle.std.proofs.Math.Seq.{take-append-add}
use borrow.Rule.Slice.PartMut.{put_mid}

pub consumes_then : (a b c : Option (List ℕ)) (xs ys : List ℕ) → Consumes a b xs → Consumes b c ys → Consumes a c (xs ++ ys)
consumes_then None b c xs ys p q = tt
consumes_then (Some l) None c xs ys p q = absurd p
consumes_then (Some l) (Some m) None xs ys p q = absurd q
consumes_then (Some l) (Some m) (Some n) xs ys p q = p ∙ ap (λ (k : List ℕ). xs ++ k) q ∙ sym (append_assoc xs ys n)

-- what stands at the front after a read into the rest of a buffer
pub front_read : (done count k : ℕ) (buffer part : List ℕ) → done ≤ length buffer → count ≤ length part
    → take (done + count) (put_mid done k buffer part) ≡ take done buffer ++ take count part
front_read done count k buffer part within some =
    let front : List ℕ = take done buffer in
    let e : length front ≡ done = length-take-le done buffer within in
    let all : take (length front + count) (put_mid done k buffer part) ≡ front ++ take count part =
    take-append-add front _ count ∙ ap (λ (l : List ℕ). front ++ l) (take-append-le count part _ some) in
    rw e at all
