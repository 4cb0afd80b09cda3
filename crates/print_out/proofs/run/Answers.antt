-- `print_out::run` meets its contract: what was read is the input.
use Rattle.std.proofs.Common.{ℕ, ◌≡◌, ◌≤◌, ◌<◌, List, length, take, rules, arith}
use Rattle.std.specs.Prelude.{Option}
use Rattle.std.specs.Io.KnownBytes.{Consumes, IsAtEnd}
use Rattle.std.proofs.lemmas.Result.{on_ok_weaker}
use Rattle.print_out.specs.inner.Printed.{LinesWritten, Ran}
use Rattle.print_out.proofs.run.Goals as goal

ran : {most room n : ℕ} {a b w w' : Option (List ℕ)} (buffer : List ℕ) → length buffer ≡ most → n ≡ length (take n buffer) → Consumes a b (take n buffer)
    → (n < length buffer → IsAtEnd b) → n ≤ most → LinesWritten (take n buffer) room w w' → Ran most room a b w w'
ran {n = n} buffer whole front read end few lines =
    record { input = take n buffer; read = read; few = omega arith; end = λ h. end (omega arith); lines = lines }

pub returns : goal.returns
returns g c =
    let read = c.in_ok-length.ensures in
    on_ok_weaker c.print_all.result (ran {most = 4097} {n = c.in_ok-length.length} c.read_full.new.buffer (search rules) read.at_most.1 read.bytes read.end (omega arith)) c.print_all.ensures
